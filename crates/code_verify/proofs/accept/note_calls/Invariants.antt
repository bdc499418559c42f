use Rattle.std.proofs.Common.{◌≡◌, drop}
use Rattle.code_verify.specs.Surveying.{own_noted}
use Rattle.code_verify.proofs.accept.note_calls.Given as goal

abbrev pub invariant-loop-call : goal.invariant-loop-call
invariant-loop-call l = own_noted l.groups l.number l.least.first (drop l.call-index l.calls) ≡ own_noted l.groups l.number l.initial.least.first l.calls
