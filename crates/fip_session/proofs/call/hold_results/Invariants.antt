use Rattle.std.proofs.Common.{◌≡◌, ◌++◌, List, drop, length}
use Rattle.fip_language.specs.Store.{Parts, words_of}
use Rattle.session_correctness.specs.Lodging.{Lodged, AreDistinct, lodge_all}
use Rattle.session_lines.specs.Said.{names_of}
use Rattle.fip_session.specs.Planned.{Finds}
use Rattle.fip_session.proofs.Forgetting.{Naming}
use Rattle.fip_session.proofs.call.hold_results.Given as goal

-- the first results have their names
abbrev pub invariant-loop-i : goal.invariant-loop-i
invariant-loop-i l = record {
  same : l.book ≡ record l.fn.book { held = l.book.held };
  named : (ls : List Lodged) (xs : Parts) → Finds l.fn.book.held ls → l.words ≡ words_of xs → length (names_of l.names) ≡ length l.types → length l.types ≡ length l.words → AreDistinct (ls ++ lodge_all (names_of l.names) l.types xs) → Naming l.book.held (ls ++ lodge_all (names_of l.names) l.types xs) (drop l.i (names_of l.names)) (drop l.i l.types) (drop l.i l.words);
}
