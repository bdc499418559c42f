-- The examples, by computation alone.
use Rattle.std.proofs.Common.{◌≡◌, [], ◌∷◌, refl}
use Rattle.task_semantics.specs.Draws.{drawn, numbers}

pub turns_are : drawn 1 3 2 ≡ 0 ∷ 0 ∷ 1 ∷ []
turns_are = refl

pub numbers_are : numbers 3 1 ≡ 1103527590 ∷ 377401575 ∷ 662824084 ∷ []
numbers_are = refl

pub ruleset computed = (turns_are, numbers_are)
