-- A line that was read is answered so: what is shown, given up or called.
use Rattle.std.proofs.Common.{◌≡◌, ◌∙◌, ℕ, ◌+◌, ◌^◌, ◌<◌, ◌≤◌, List, [], ◌∷◌, ◌++◌, length, map, Option, Some, None, option_map, refl, sym, ap, subst, arith, Ok, Err, IfOk, Bor}
use Rattle.std.specs.Prelude.{codes}
use Rattle.std.proofs.lemmas.Option.{none-some, same_Some}
use Rattle.std.specs.BTreeMap.{BTreeMap}
use Rattle.std.specs.Map.{update}
use Rattle.std.specs.Str.{bytes_eq}
use Rattle.std.specs.declared.alloc.Global.{Global}
use Rattle.std.specs.declared.result.Result.{Result}
use Rattle.std.specs.declared.vec.Vec.{Vec}
use Rattle.cell_store.specs.Cells as L
use Rattle.cell_store.specs.Made.{Stored}
use Rattle.fip_base.specs.declared.plain.NoMemory.{NoMemory}
use Rattle.fip_language.specs.Core.{Name}
use Rattle.fip_language.specs.Every.{Every}
use Rattle.fip_language.specs.PrintedText.{printed}
use Rattle.fip_language.specs.Store.{Placed, uses, value_of, word_of}
use Rattle.fip_language.specs.Table.{Table}
use Rattle.fip_language.specs.declared.limits.TheConstants.{MOST_FIELDS, MOST_FILE_BYTES, MOST_STORE_WORDS}
use Rattle.fip_machine.specs.machine_cells.Small.{store_of}
use Rattle.session_correctness.specs.Called.{AllStand, IsGivenUp, IsHeld}
use Rattle.session_correctness.specs.Counted.{sized}
use Rattle.session_correctness.specs.Lodging.{Lodged, holding_of, lodged_as, lodged_uses, but}
use Rattle.session_correctness.specs.tree_refinement.machine_semantics.Cells.{Store, IsStore, there}
use Rattle.session_correctness.specs.tree_refinement.machine_semantics.Trees as T
use Rattle.session_correctness.proofs.Sharing.{distinct_but, taken_out}
use Rattle.session_lines.specs.Said.{Says, IsRead, IsCall}
use Rattle.session_lines.specs.declared.line.CallLine.{CallLine}
use Rattle.session_lines.specs.declared.line.Line.TheVariants as R
use Rattle.session_lines.specs.command_outcome.Texts.{line_end}
use Rattle.session_lines.specs.session_semantics.Lines.{Given as Written, Line, SpellsLine, Calls, GivesUp, Shows}
use Rattle.session_lines.specs.session_semantics.Talk.{Setting, State, Replies, CallReplies, BadLine, NothingGivenUp, GivenUp, NothingShown, Shown, Called', held_as, without, reported, ok_text}
use Rattle.value_text.specs.Standing as V
use Rattle.fip_session.specs.Answered.{CallAnswered, LineAnswered}
use Rattle.fip_session.specs.After.{IsAfter}
use Rattle.fip_session.specs.Named.{found}
use Rattle.fip_session.specs.Opened.{IsSession, RepliesTo}
use Rattle.fip_session.specs.Planned.{Finds, held_by}
use Rattle.fip_session.specs.Said.{said}
use Rattle.fip_session.specs.declared.book.Book.{Book}
use Rattle.fip_session.specs.declared.book.Held.{Held}
use Rattle.fip_session.specs.declared.call.Store.{Store as Room}
use Rattle.fip_session.specs.declared.reply.Reply.{Reply}
use Rattle.fip_session.specs.declared.reply.Reply.TheVariants as Y
use Rattle.fip_session.proofs.Calling.{not_held, is_held, given_up_said, session_on}
use Rattle.fip_session.proofs.Forgetting.{finds_but}
use Rattle.fip_session.proofs.GivingUp.{held_up}
use Rattle.fip_session.proofs.Holding.{finds_of}
use Rattle.fip_session.proofs.Readying.{every_at}
use Rattle.fip_session.proofs.Stores.{lie_there, lodged_lie}
use Rattle.fip_session.proofs.Sweeping.{every_but}

-- ---- what a line is, as it was read

pub shows_line : (bytes : List ℕ) (n : Bor (List ℕ)) → Says bytes (R.Show n) → SpellsLine bytes (Shows n.now)
shows_line bytes n w = by w.line w.is w.spelt
  where
    by : (l : Line) → IsRead bytes (R.Show n) l → SpellsLine bytes l → SpellsLine bytes (Shows n.now)
    by (Shows m) e spelt = subst (λ k. SpellsLine bytes (Shows k)) (sym e) spelt
    by (GivesUp m) e spelt = absurd e
    by (Calls result results entry gs) e spelt = absurd e

pub gives_line : (bytes : List ℕ) (n : Bor (List ℕ)) → Says bytes (R.Give n) → SpellsLine bytes (GivesUp n.now)
gives_line bytes n w = by w.line w.is w.spelt
  where
    by : (l : Line) → IsRead bytes (R.Give n) l → SpellsLine bytes l → SpellsLine bytes (GivesUp n.now)
    by (GivesUp m) e spelt = subst (λ k. SpellsLine bytes (GivesUp k)) (sym e) spelt
    by (Shows m) e spelt = absurd e
    by (Calls result results entry gs) e spelt = absurd e

pub record IsCallLine (bytes : List ℕ) (c : CallLine) : Type 0 where
  pub name : Name
  pub names : List Name
  pub given : List Written
  pub spelt : SpellsLine bytes (Calls name names c.entry.now given)
  pub is : IsCall bytes c name names c.entry.now given

pub calls_line : (bytes : List ℕ) (c : CallLine) → Says bytes (R.Call c) → IsCallLine bytes c
calls_line bytes c w = by w.line w.is w.spelt
  where
    by : (l : Line) → IsRead bytes (R.Call c) l → SpellsLine bytes l → IsCallLine bytes c
    by (Calls result results entry gs) h spelt = record {
      name = result;
      names = results;
      given = gs;
      spelt = subst (λ e. SpellsLine bytes (Calls result results e gs)) (sym h.called) spelt;
      is = subst (λ e. IsCall bytes c result results e gs) (sym h.called) h;
    }
    by (Shows m) h spelt = absurd h
    by (GivesUp m) h spelt = absurd h

-- ---- an answer that is passed on

pub if_ok : {A : Type 0} (P Q : A → Type 0) (r : Result A NoMemory) → ((a : A) → P a → Q a) → IfOk r P → IfOk r Q
if_ok P Q (Ok a) f h = f a h
if_ok P Q (Err e) f h = h

module _ (o : Setting) (s : State) (b : Book) (t : Room) (h : IsSession o (record { book = b; store = t }) s) (bytes : List ℕ) where
  abbrev ls : List Lodged
  ls = h.opened.lodged

  finds : Finds b.held ls
  finds = finds_of b.held ls h.opened.names

  stand : Every (λ l. V.Stands o.program.types t.cells.cells l.type l.tree) ls
  stand = lodged_lie o.program.types (store_of t.cells.cells t.cells.released) ls h.opened.held.stand

  pub show_answered : (name : Name) (r : Reply) → SpellsLine bytes (Shows name) → (found b.held name ≡ None → said r ≡ reported (codes "no name ") name) → ((ls : List Lodged) → Finds b.held ls → length t.cells.cells ≤ 2 ^ 32 → (l : Lodged) → lodged_as name ls ≡ Some l → V.Stands b.table.now t.cells.cells l.type l.tree → said r ≡ printed b.table.now l.type (value_of l.tree) line_end) → LineAnswered o s bytes b t r
  show_answered name r spelt none shown = by (lodged_as name ls) refl
    where
      by : (m : Option Lodged) → lodged_as name ls ≡ m → LineAnswered o s bytes b t r
      by None e =
          let gone : found b.held name ≡ None = finds name ∙ ap (option_map held_by) e in
          (s, subst (λ x. Replies o s bytes x s) (sym (none gone)) (NothingShown name spelt (not_held o s b t h name gone)), h)
      by (Some l) e =
          let here = every_at (λ (m : Lodged). V.Stands o.program.types t.cells.cells m.type m.tree) name l ls e stand in
          let small = h.opened.small in
          let text : said r ≡ printed o.program.types l.type (value_of l.tree) line_end =
          shown ls finds (omega (arith, small)) l e (subst (λ tb. V.Stands tb t.cells.cells l.type l.tree) (sym h.table) here)
          ∙ ap (λ tb. printed tb l.type (value_of l.tree) line_end) h.table in
          (s, subst (λ x. Replies o s bytes x s) (sym text) (Shown name (holding_of l) spelt (is_held o s b t h name l e)), h)

  pub not_given : (name : Name) → SpellsLine bytes (GivesUp name) → found b.held name ≡ None → (x : State) × Replies o s bytes (reported (codes "no name ") name) x × IsSession o (record { book = b; store = t }) x
  not_given name spelt none = (s, NothingGivenUp name spelt (not_held o s b t h name none), h)

  pub give_answered : (name : Name) (hd : Held) (b' : Book) (new : Stored) → SpellsLine bytes (GivesUp name) → found b.held name ≡ Some hd → b' ≡ record b { held = b'.held } → ((other : Name) → found b'.held other ≡ update bytes_eq (found b.held) name None other) → new.cells ≡ t.cells.cells → (length t.cells.cells ≤ MOST_STORE_WORDS → IsStore (store_of t.cells.cells t.cells.released) → (x : Placed) → V.Stands b'.table.now t.cells.cells hd.ty x → word_of x ≡ hd.word → ((q : ℕ) → uses q x ≤ there (store_of t.cells.cells t.cells.released) q) → IsGivenUp (λ q. uses q x) (store_of t.cells.cells t.cells.released) (store_of new.cells new.released)) → LineAnswered o s bytes b' (record { cells = new; left = t.left }) Y.Done
  give_answered name hd b' new spelt is same forgets same_cells gone = by (lodged_as name ls) refl (sym (finds name) ∙ is)
    where
      by : (m : Option Lodged) → lodged_as name ls ≡ m → option_map held_by m ≡ Some hd → LineAnswered o s bytes b' (record { cells = new; left = t.left }) Y.Done
      by None e f = absurd (none-some hd f)
      by (Some l) e f =
          let held : held_by l ≡ hd = same_Some (held_by l) hd f in
          let here = every_at (λ (m : Lodged). V.Stands o.program.types t.cells.cells m.type m.tree) name l ls e stand in
          let table : b'.table.now ≡ o.program.types = ap (λ (x : Book). x.table.now) same ∙ h.table in
          let stands : V.Stands b'.table.now t.cells.cells hd.ty l.tree = subst (λ tb. V.Stands tb t.cells.cells hd.ty l.tree) (sym table) (subst (λ (k : Held). V.Stands o.program.types t.cells.cells k.ty l.tree) held here) in
          let sums : (q : ℕ) → lodged_uses ls q ≡ uses q l.tree + lodged_uses (but name ls) q = λ q. taken_out name l ls q h.opened.distinct e in
          let up = gone h.opened.small h.opened.held.store l.tree stands (ap (λ (k : Held). k.word) held) (λ q. (let a = h.opened.held.once q in let z = sums q in omega (arith, a, z))) in
          let following : IsAfter o.program.types b'.held new (record { held = without name s.held; made = s.made }) = record {
            lodged = but name ls;
            finds = finds_but b.held b'.held ls name finds forgets;
            kept = record {
              distinct = distinct_but name ls h.opened.distinct;
              said = given_up_said o s b t h name;
              held = held_up o.program.types ls (but name ls) (λ q. uses q l.tree) (store_of t.cells.cells t.cells.released) (store_of new.cells new.released) h.opened.held (every_but (λ (m : Lodged). T.Stands o.program.types (store_of t.cells.cells t.cells.released) m.type m.tree) name ls h.opened.held.stand) sums up;
              made = λ k some few. h.opened.made k some few ∙ ap (sized k) (sym same_cells);
            };
            small = (let n = ap length same_cells in let le = h.opened.small in omega (arith, n, le));
          } in (
            record { held = without name s.held; made = s.made },
            GivenUp name (holding_of l) spelt (is_held o s b t h name l e),
            session_on o s (record { held = without name s.held; made = s.made }) b b' t (record { cells = new; left = t.left }) h same following h.opened.left,
          )

-- a call's answer is that of its line
pub call_line_answered : (o : Setting) (s : State) (bytes : List ℕ) (b : Book) (t : Room) (r : Reply) (name : Name) (names : List Name) (entry : Name) (gs : List Written) → SpellsLine bytes (Calls name names entry gs) → CallAnswered o s (name ∷ names) entry gs b t r → LineAnswered o s bytes b t r
call_line_answered o s bytes b t r name names entry gs spelt a = (a.0, Called' name names entry gs (said r) a.0 spelt a.1, a.2)

pub line_replied : (o : Setting) (s : State) (bytes text : List ℕ) (b : Book) (t : Room) (r : Reply) → text ++ line_end ≡ said r → LineAnswered o s bytes b t r → RepliesTo o s bytes text (record { book = b; store = t })
line_replied o s bytes text b t r same a = (a.0, subst (λ x. Replies o s bytes x a.0) (sym same) a.1, a.2)
