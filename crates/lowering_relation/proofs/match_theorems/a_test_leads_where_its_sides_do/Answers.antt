use Rattle.lowering_relation.proofs.Goods.{good_tested}
use Rattle.lowering_relation.proofs.match_theorems.a_test_leads_where_its_sides_do.Goals as goal

pub returns : goal.returns
returns c = record { theorem = good_tested }
