-- What the definition says of an instruction, by what was done: the frame, the cells, where it goes on.
use Rattle.std.proofs.Common.{◌≡◌, ℕ, ◌+◌, ◌-◌, ◌/◌, ◌<◌, ◌≤◌, Bool, true, false, List, length, take, Option, Some, None, refl, sym, ◌∙◌, arith}
use Rattle.std.specs.Prelude.{slice_set, if◌then◌else◌}
use Rattle.std.proofs.lemmas.Option.{none-some, same_Some}
use Rattle.std.proofs.lemmas.List.{take-set-le}
use Rattle.fip_language.specs.declared.TrapKind.{TrapKind}
use Rattle.fip_language.specs.Arithmetic.{Operated, Is, Fails}
use Rattle.code_verify.specs.Checked.{Checked}
use Rattle.machine_frames.specs.machine_semantics.Words.{scalar_word, is_place, half_if, place_of}
use Rattle.machine_frames.specs.machine_semantics.Cells.{Store, Change, changed_by}
use Rattle.machine_frames.specs.machine_semantics.States.{Typed, State}
use Rattle.machine_frames.specs.machine_semantics.Rows.{on, on_with, branch, calculated, trap, write}
use Rattle.machine_frames.specs.machine_semantics.Steps.{went, went_with, trapped}
use Rattle.machine_frames.specs.Keeping.{Keeps}
use Rattle.machine_frames.specs.View.{waiting_in}
use Rattle.machine_frames.proofs.Viewed.{kept, frame_set, write_one}
use Rattle.machine_step.specs.declared.cursor.Bounds.{Bounds}
use Rattle.machine_step.specs.declared.cursor.Cursor.{Cursor}
use Rattle.machine_step.specs.declared.rows.Stepped.{Stepped}
use Rattle.machine_step.specs.declared.rows.Stepped.TheVariants as S
use Rattle.machine_step.specs.View.{words_of, state_of}
use Rattle.machine_step.specs.Coming.{Comes, moved}

-- the state with another store
abbrev pub stored : Store → State → State
stored t s = record s { store = t }

pub went_words : (s : State) (o : Option (List ℕ)) (r : Stepped) (t : State) (given : List ℕ) → r ≡ S.Went → ((ws : List ℕ) → o ≡ Some ws → t ≡ moved (s.running.at + 1) ws s) → Comes s (went s (on s o)) r t given
went_words s None r t given w f = tt
went_words s (Some ws) r t given w f = (w, f ws refl)

pub went_branch : (s : State) (target : ℕ) (o : Option Bool) (r : Stepped) (t : State) (given : List ℕ) → r ≡ S.Went → ((b : Bool) → o ≡ Some b → t ≡ moved (if b then s.running.at + 1 else target) s.running.words s) → Comes s (went s (branch s target o)) r t given
went_branch s target None r t given w f = tt
went_branch s target (Some true) r t given w f = (w, f true refl)
went_branch s target (Some false) r t given w f = (w, f false refl)

pub went_changes : (s : State) (o : Option (List Change)) (r : Stepped) (t : State) (given : List ℕ) → r ≡ S.Went → ((cs : List Change) (u : Store) → o ≡ Some cs → changed_by cs s.store ≡ Some u → t ≡ stored u (moved (s.running.at + 1) s.running.words s)) → Comes s (went s (on_with s o)) r t given
went_changes s None r t given w f = tt
went_changes s (Some cs) r t given w f = by (changed_by cs s.store) refl
  where
    by : (p : Option Store) → changed_by cs s.store ≡ p → Comes s (went_with s (record { at = s.running.at + 1; words = s.running.words; changes = cs }) p) r t given
    by None e = tt
    by (Some u) e = (w, f cs u refl e)

-- an operator's answer
pub went_operated : (s : State) (d line col : ℕ) (o : Option Operated) (r : Stepped) (t : State) (given : List ℕ) → ((v : _) (ws : List ℕ) → o ≡ Some (Is v) → write s.running.words d (scalar_word v) ≡ Some ws → (r ≡ S.Went) × (t ≡ moved (s.running.at + 1) ws s)) → ((kind : TrapKind) → o ≡ Some (Fails kind) → (r ≡ S.Trap kind line col) × (t ≡ s)) → Comes s (trapped s line col (trap o) (calculated s d o)) r t given
went_operated s d line col None r t given f g = tt
went_operated s d line col (Some (Fails kind)) r t given f g = g kind refl
went_operated s d line col (Some (Is v)) r t given f g = by (write s.running.words d (scalar_word v)) refl
  where
    by : (p : Option (List ℕ)) → write s.running.words d (scalar_word v) ≡ p → Comes s (went s (on s p)) r t given
    by None e = tt
    by (Some ws) e = f v ws refl e

-- The running frame gets other words, and what is below stays.
pub frame_moved : (v : Checked) (b : Bounds) (lent : List Typed) (s : Store) (ws us : List ℕ) (c : Cursor) (fr : List ℕ) → c.base ≤ length ws → c.base ≤ length us → Keeps c.base ws us → words_of us c ≡ fr → state_of v b lent s us c ≡ moved c.at fr (state_of v b lent s ws c)
frame_moved v b lent s ws us c fr h l k e =
    let below = kept c.base ws us h l k in
    λ i. record {
      store = s;
      running = record { function = c.function; at = c.at; words = e i };
      waiting = waiting_in v.code.functions.items c.frames (below i);
      free = b.frames - c.frames;
      lent = lent;
    }

-- one register gets another word
pub set_moved : (v : Checked) (b : Bounds) (lent : List Typed) (s : Store) (ws : List ℕ) (c : Cursor) (r w : ℕ) → state_of v b lent s (slice_set ws (c.base + r) w) c ≡ moved c.at (slice_set (words_of ws c) r w) (state_of v b lent s ws c)
set_moved v b lent s ws c r w =
    let words = frame_set c.base c.registers r w ws in
    let below : take c.base (slice_set ws (c.base + r) w) ≡ take c.base ws = take-set-le c.base ws (c.base + r) w (omega arith) in
    λ i. record {
      store = s;
      running = record { function = c.function; at = c.at; words = words i };
      waiting = waiting_in v.code.functions.items c.frames (below i);
      free = b.frames - c.frames;
      lent = lent;
    }

-- a register that is written
pub write_is : (n : ℕ) (ws us : List ℕ) (d w : ℕ) → length ws ≡ n → d < n → write ws d w ≡ Some us → us ≡ slice_set ws d w
write_is n ws us d w long h e = sym (same_Some (slice_set ws d w) us (sym (write_one ws d w (omega (arith, h, long))) ∙ e))

-- the place that a word names
pub odd_place : (w p : ℕ) → place_of w ≡ Some p → p ≡ w / 2
odd_place w p e = by (is_place w) e
  where
    by : (b : Bool) → half_if b w ≡ Some p → p ≡ w / 2
    by true e = sym (same_Some (w / 2) p e)
    by false e = absurd (none-some p e)

-- a register is written, and the function goes on
pub set_next : (v : Checked) (b : Bounds) (lent : List Typed) (s : Store) (ws : List ℕ) (c : Cursor) (r w i : ℕ) → moved i (words_of (slice_set ws (c.base + r) w) c) (state_of v b lent s (slice_set ws (c.base + r) w) c) ≡ moved i (slice_set (words_of ws c) r w) (state_of v b lent s ws c)
set_next v b lent s ws c r w i = λ j. moved i (frame_set c.base c.registers r w ws j) (set_moved v b lent s ws c r w j)
