use Rattle.std.proofs.Common.{◌≡◌, drop}
use Rattle.match_knowledge.specs.declared.heads.Head.TheVariants.{Tag}
use Rattle.match_knowledge.specs.Known.{is_in}
use Rattle.match_knowledge.proofs.sides.is_out.Given as goal

abbrev pub invariant-loop-g : goal.invariant-loop-g
invariant-loop-g l = is_in (Tag l.c) (drop l.g-index l.out) ≡ is_in (Tag l.c) l.out
