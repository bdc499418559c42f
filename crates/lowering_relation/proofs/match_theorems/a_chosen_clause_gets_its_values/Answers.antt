use Rattle.lowering_relation.proofs.Goods.{good_named}
use Rattle.lowering_relation.proofs.match_theorems.a_chosen_clause_gets_its_values.Goals as goal

pub returns : goal.returns
returns c = record { theorem = good_named }
