use Rattle.std.proofs.Common.{◌≡◌, drop}
use Rattle.type_check.specs.Binders.{all_annotated}
use Rattle.type_check.proofs.lets.all_annotated.Given as goal

abbrev pub invariant-loop-binder : goal.invariant-loop-binder
invariant-loop-binder l = all_annotated (drop l.binder-index l.binders) ≡ all_annotated l.binders
