use Rattle.std.proofs.Common.{◌≡◌, ◌-◌}
use Rattle.derivation_text.specs.Machine.{reaches}
use Rattle.derivation_text.proofs.bounds.reaches.Given as goal

abbrev pub invariant-loop-digits : goal.invariant-loop-digits
invariant-loop-digits l = reaches (10 - l.digits) l.low l.high l.least l.greatest ≡ reaches 10 l.fn.number l.fn.number l.fn.least l.fn.greatest
