use Rattle.std.proofs.Common.{refl}
use Rattle.task_semantics.proofs.LoadedExamples.{laid_so}
use Rattle.task_semantics.proofs.loading_theorems.an_example_is_laid.Goals as goal

pub returns : goal.returns
returns c = record { store = refl; words = refl; laid = laid_so }
