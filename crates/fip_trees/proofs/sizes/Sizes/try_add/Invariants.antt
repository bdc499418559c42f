use Rattle.std.proofs.Common.{◌≡◌, ◌+◌}
use Rattle.fip_trees.proofs.SizeLists.{half}
use Rattle.fip_trees.proofs.sizes.Sizes.try_add.Given as goal

abbrev pub invariant-loop-k : goal.invariant-loop-k
invariant-loop-k l = l.self-inside.numbers ≡ half (λ m n. m + n) l.k l.initial.self-inside.numbers l.other-inside.numbers
