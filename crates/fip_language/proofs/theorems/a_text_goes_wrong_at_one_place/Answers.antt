use Rattle.fip_language.proofs.OnePlace.{IsPlace-unique, IsPlace-not_spelt}
use Rattle.fip_language.proofs.theorems.a_text_goes_wrong_at_one_place.Goals as goal

pub returns-clause-one : goal.returns-clause-one
returns-clause-one g c = IsPlace-unique g.G.Grammar.spells

pub returns-clause-none : goal.returns-clause-none
returns-clause-none g c = IsPlace-not_spelt g.G.Grammar.spells
