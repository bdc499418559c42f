-- What a session keeps to is what its calls ask for; and a session at first.
use Rattle.std.proofs.Common.{◌≡◌, ℕ, List, [], map, Option, Some, None, option_map, refl, sym, ap, subst}
use Rattle.std.proofs.lemmas.Option.{none-some, same_Some}
use Rattle.std.specs.BTreeMap.{BTreeMap}
use Rattle.std.specs.declared.alloc.Global.{Global}
use Rattle.std.specs.declared.vec.Vec.{Vec}
use Rattle.fip_language.specs.Core.{Name}
use Rattle.session_lines.specs.Named.{AreEntries}
use Rattle.session_lines.specs.session_semantics.Talk.{Setting, State, at_first}
use Rattle.session_correctness.specs.Lodging.{Lodged, lodged_as}
use Rattle.session_correctness.specs.Open.{IsOpen, as_found}
use Rattle.session_correctness.proofs.Opening.{opens}
use Rattle.fip_session.specs.Named.{found}
use Rattle.fip_session.specs.Opened.{IsSession, found_as}
use Rattle.fip_session.specs.Planned.{Finds, held_by}
use Rattle.session_code.specs.Served.{IsServed}
use Rattle.fip_session.specs.Booked.{IsBook}
use Rattle.fip_session.specs.declared.book.Held.{Held}
use Rattle.fip_session.specs.declared.session.Session.{Session}

held_same : (h : Held) (l : Lodged) → (h.ty, h.word) ≡ as_found l → h ≡ held_by l
held_same h l e = ap (λ (p : ℕ × ℕ). record h { ty = p.0; word = p.1 }) e

pub finds_of : (held : BTreeMap (Vec ℕ Global) Held) (ls : List Lodged) → ((name : Name) → found_as held name ≡ option_map as_found (lodged_as name ls)) → Finds held ls
finds_of held ls h name = by (found held name) (lodged_as name ls) (h name)
  where
    by : (f : Option Held) (l : Option Lodged) → option_map (λ (h : Held). (h.ty, h.word)) f ≡ option_map as_found l → f ≡ option_map held_by l
    by None None e = refl
    by None (Some l) e = absurd (none-some (as_found l) e)
    by (Some h) None e = absurd (none-some (h.ty, h.word) (sym e))
    by (Some h) (Some l) e = ap Some (held_same h l (same_Some (h.ty, h.word) (as_found l) e))

pub book_of : (o : Setting) (t : Session) (s : State) → (h : IsSession o t s) → IsBook o t.book h.opened.lodged
book_of o t s h = record {
  served = h.served;
  table = h.table;
  entries = h.entries;
  finds = finds_of t.book.held h.opened.lodged h.opened.names;
}

pub opens_first : (o : Setting) (t : Session) → IsServed o t.book.verified.now.code → t.book.table.now ≡ o.program.types → AreEntries t.book.verified.now.code.functions.items t.book.entries.numbers → t.book.room.calls ≡ o.calls → t.book.room.frames ≡ o.frames → ((name : Name) → found t.book.held name ≡ None) → t.store.cells.cells ≡ [] → t.store.cells.released ≡ [] → t.store.left ≡ o.words → IsSession o t at_first
opens_first o t served table entries calls frames none cells released left = record {
  served = served;
  table = table;
  entries = entries;
  calls = calls;
  frames = frames;
  opened =
      subst (λ cs. IsOpen o.program.types o.words (found_as t.book.held) (record { cells = cs; released = t.store.cells.released }) t.store.left at_first) (sym cells)
      (subst (λ rs. IsOpen o.program.types o.words (found_as t.book.held) (record { cells = []; released = rs }) t.store.left at_first) (sym released)
      (subst (λ n. IsOpen o.program.types o.words (found_as t.book.held) (record { cells = []; released = [] }) n at_first) (sym left)
      (opens o.program.types o.words (found_as t.book.held) (λ name. ap (option_map (λ (h : Held). (h.ty, h.word))) (none name)))));
}
