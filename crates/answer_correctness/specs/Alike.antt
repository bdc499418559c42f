-- Two hosts that find the same of an answer.
use Rattle.std.specs.Prelude.{◌≡◌, ℕ, List, Some}
use Rattle.command_answers.specs.Answer.{Host}

-- Before the call this was on out and on err.
pub record Finds (h : Host) (out err : List ℕ) : Type 0 where
  pub on_out : h.out ≡ Some out
  pub on_err : h.err ≡ Some err

-- They find the same status, and the same on out and err.
pub record AreAlike (h k : Host) : Type 0 where
  pub status : h.status ≡ k.status
  pub out : h.out' ≡ k.out'
  pub err : h.err' ≡ k.err'
