use Rattle.std.proofs.Common.{◌≡◌, drop}
use Rattle.code_rules.specs.Kinds.{are_free}
use Rattle.kind_domain.specs.Views.{kinds_of}
use Rattle.kind_domain.proofs.kinds.all_free.Given as goal

abbrev pub invariant-loop-one : goal.invariant-loop-one
invariant-loop-one l = are_free (kinds_of (drop l.one-index l.known)) ≡ are_free (kinds_of l.known)
