use Rattle.fip_language.proofs.Stacks.{AreFrames-unique, AreWords-unique}
use Rattle.fip_language.proofs.theorems.a_bound_is_one_number.Goals as goal

pub returns-clause-frames : goal.returns-clause-frames
returns-clause-frames c = AreFrames-unique

pub returns-clause-words : goal.returns-clause-words
returns-clause-words c = AreWords-unique
