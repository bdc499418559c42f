use Rattle.std.proofs.Common.{◌≡◌, List, drop}
use Rattle.session_correctness.specs.Lodging.{Lodged}
use Rattle.fip_session.specs.Planned.{Finds}
use Rattle.fip_session.proofs.Forgetting.{Forgetting}
use Rattle.fip_session.proofs.call.forget_used.Given as goal

-- the first names that are used up are forgotten
abbrev pub invariant-loop-given : goal.invariant-loop-given
invariant-loop-given l = record {
  same : l.book ≡ record l.fn.book { held = l.book.held };
  forgets : (ls : List Lodged) → Finds l.fn.book.held ls → Forgetting l.fn.book.held l.book.held l.given-items (drop l.given-index l.given-items) ls;
}
