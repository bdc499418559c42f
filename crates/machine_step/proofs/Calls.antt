-- Calls and returns, by what was done to the words of all frames.
use Rattle.std.proofs.Common.{◌≡◌, ℕ, zero, suc, ◌+◌, ◌-◌, ◌<◌, ◌≤◌, List, [], ◌∷◌, length, take, get_or, map, Option, Some, None, refl, sym, ap, subst, ◌∙◌, arith}
use Rattle.std.specs.Prelude.{slice_get, option_and_then}
use Rattle.std.proofs.lemmas.Option.{none-some, same_Some}
use Rattle.cell_code.specs.declared.code.Function.{Function}
use Rattle.cell_code.specs.declared.code.Instr.{Instr}
use Rattle.cell_code.specs.declared.code.Instr.TheVariants as I
use Rattle.code_verify.specs.Checked.{Checked}
use Rattle.cell_code.specs.Plain.{PlainFunction, PlainCode, plain_function}
use Rattle.machine_frames.specs.machine_semantics.Codes.{instr_at}
use Rattle.machine_frames.specs.machine_semantics.Cells.{Store}
use Rattle.machine_frames.specs.machine_semantics.States.{Typed, Frame, State}
use Rattle.machine_frames.specs.machine_semantics.Rows.{write, write_all}
use Rattle.machine_frames.specs.machine_semantics.Steps.{first_words, first_frame, called_with, called, replaced, destinations_in, resumed, returned}
use Rattle.machine_frames.specs.View.{registers_of, frame_at, waiting_in}
use Rattle.machine_frames.proofs.Viewed.{waiting_at}
use Rattle.machine_step.specs.declared.cursor.Bounds.{Bounds}
use Rattle.machine_step.specs.declared.cursor.Cursor.{Cursor}
use Rattle.machine_step.specs.declared.rows.Stepped.{Stepped}
use Rattle.machine_step.specs.declared.rows.Stepped.TheVariants as S
use Rattle.machine_step.specs.View.{words_of, state_of}
use Rattle.machine_step.specs.Coming.{Comes}

pub plain_at : (fs : List Function) (f : ℕ) (g : Function) → slice_get fs f ≡ Some g → slice_get (map plain_function fs) f ≡ Some (plain_function g)
plain_at [] f g e = absurd (none-some g e)
plain_at (x ∷ fs) zero g e = ap (λ (g : Function). Some (plain_function g)) (same_Some x g e)
plain_at (x ∷ fs) (suc f) g e = plain_at fs f g e

pub registers_is : (fs : List Function) (f : ℕ) (g : Function) → slice_get fs f ≡ Some g → registers_of fs f ≡ g.registers
registers_is fs f g e = ap (λ (o : Option Function). elim o [ None ↦ 0 | Some g ↦ g.registers ]) e

pub called_is : (s : State) (f : ℕ) (g : PlainFunction) (o : Option PlainFunction) (p : Option (List ℕ)) (vs : List ℕ) (k : ℕ) (r : Stepped) (t : State) (given : List ℕ) → o ≡ Some g → p ≡ Some vs → s.free ≡ suc k → r ≡ S.Entered → t ≡ record s { running = first_frame f g vs; waiting = s.running ∷ s.waiting; free = k } → Comes s (called s f o p) r t given
called_is s f g o p vs k r t given function read free is to = subst (λ n. Comes s n r t given) (sym ((λ i. called s f (function i) (read i)) ∙ ap (λ n. called_with s f g n vs) free)) (is, to)

pub too_deep : (s : State) (f : ℕ) (g : PlainFunction) (o : Option PlainFunction) (p : Option (List ℕ)) (vs : List ℕ) (r : Stepped) (t : State) (given : List ℕ) → o ≡ Some g → p ≡ Some vs → s.free ≡ 0 → r ≡ S.Deep → t ≡ s → Comes s (called s f o p) r t given
too_deep s f g o p vs r t given function read free is to = subst (λ n. Comes s n r t given) (sym ((λ i. called s f (function i) (read i)) ∙ ap (λ n. called_with s f g n vs) free)) (is, to)

pub replaced_is : (s : State) (f : ℕ) (g : PlainFunction) (o : Option PlainFunction) (p : Option (List ℕ)) (vs : List ℕ) (r : Stepped) (t : State) (given : List ℕ) → o ≡ Some g → p ≡ Some vs → r ≡ S.Entered → t ≡ record s { running = first_frame f g vs } → Comes s (replaced s f o p) r t given
replaced_is s f g o p vs r t given function read is to = subst (λ n. Comes s n r t given) (sym (λ i. replaced s f (function i) (read i))) (is, to)

pub gave_is : (code : PlainCode) (s : State) (waiting : List Frame) (p : Option (List ℕ)) (vs : List ℕ) (r : Stepped) (t : State) (given : List ℕ) → waiting ≡ [] → p ≡ Some vs → r ≡ S.Value → t ≡ s → given ≡ vs → Comes s (returned code s waiting p) r t given
gave_is code s waiting p vs r t given none read is to gives = subst (λ n. Comes s n r t given) (sym (λ i. returned code s (none i) (read i))) (is, to, gives)

pub resumed_is : (code : PlainCode) (s : State) (waiting : List Frame) (w : Frame) (below : List Frame) (p : Option (List ℕ)) (vs : List ℕ) (r : Stepped) (t : State) (given : List ℕ) → waiting ≡ w ∷ below → p ≡ Some vs → r ≡ S.Went → ((f : ℕ) (ss ds us : List ℕ) → instr_at code w.function w.at ≡ Some (I.Call f ss ds) → write_all w.words ds vs ≡ Some us → t ≡ record s { running = record { function = w.function; at = w.at + 1; words = us }; waiting = below; free = s.free + 1 }) → Comes s (returned code s waiting p) r t given
resumed_is code s waiting w below p vs r t given wait read is f = subst (λ n. Comes s n r t given) (sym (λ i. returned code s (wait i) (read i))) (by (instr_at code w.function w.at) refl)
  where
    with_words : (o : Option (List ℕ)) → ((us : List ℕ) → o ≡ Some us → t ≡ record s { running = record { function = w.function; at = w.at + 1; words = us }; waiting = below; free = s.free + 1 }) → Comes s (resumed s w below o) r t given
    with_words None g = tt
    with_words (Some us) g = (is, g us refl)

    by : (o : Option Instr) → instr_at code w.function w.at ≡ o → Comes s (resumed s w below (option_and_then (λ ds. write_all w.words ds vs) (destinations_in o))) r t given
    by None e = tt
    by (Some (I.Const d v)) e = tt
    by (Some (I.Atom d t c)) e = tt
    by (Some (I.Move d r)) e = tt
    by (Some (I.Arith d o x y line col)) e = tt
    by (Some (I.Test r c target)) e = tt
    by (Some (I.TestInt r v target)) e = tt
    by (Some (I.Peek d r i)) e = tt
    by (Some (I.Take r ds)) e = tt
    by (Some (I.Put r t c ss)) e = tt
    by (Some (I.Drop r)) e = tt
    by (Some (I.Free r)) e = tt
    by (Some (I.Call g ss ds)) e = with_words (write_all w.words ds vs) (λ us. f g ss ds us e)
    by (Some (I.Tail f ss)) e = tt
    by (Some (I.Ret ss)) e = tt
    by (Some (I.Jump target)) e = tt

written_more : (ds vs us : List ℕ) → ((xs : List ℕ) → write_all xs ds vs ≡ Some us → length ds ≡ length vs) → (o : Option (List ℕ)) → option_and_then (λ ws. write_all ws ds vs) o ≡ Some us → suc (length ds) ≡ suc (length vs)
written_more ds vs us h None e = absurd (none-some us e)
written_more ds vs us h (Some xs) e = ap suc (h xs e)

pub written_long : (ws ds vs us : List ℕ) → write_all ws ds vs ≡ Some us → length ds ≡ length vs
written_long ws [] [] us e = refl
written_long ws [] (v ∷ vs) us e = absurd (none-some us e)
written_long ws (d ∷ ds) [] us e = absurd (none-some us e)
written_long ws (d ∷ ds) (v ∷ vs) us e = written_more ds vs us (λ xs. written_long xs ds vs us) (write ws d v) e

-- the state of a frame above the one that ran, which waits
pub above_is : (v : Checked) (b : Bounds) (lent : List Typed) (s : Store) (ws us : List ℕ) (c d : Cursor) (f k : ℕ) (g : PlainFunction) (vs : List ℕ) → registers_of v.code.functions.items c.function ≡ c.registers → b.frames - c.frames ≡ suc k → c.base + c.registers + 2 ≤ length us → get_or us (c.base + c.registers) 0 ≡ c.function → get_or us (c.base + c.registers + 1) 0 ≡ c.at → take c.base us ≡ take c.base ws → words_of us c ≡ words_of ws c → d.function ≡ f → d.at ≡ 0 → d.base ≡ c.base + c.registers + 2 → d.frames ≡ c.frames + 1 → words_of us d ≡ first_words g.registers vs → state_of v b lent s us d ≡ record (state_of v b lent s ws c) { running = first_frame f g vs; waiting = record { function = c.function; at = c.at; words = words_of ws c } ∷ waiting_in v.code.functions.items c.frames (take c.base ws); free = k }
above_is v b lent s ws us c d f k g vs own free room function at below frame df da db dn words =
    let fs = v.code.functions.items in
    let top = c.base + c.registers + 2 in
    let first : top - 2 ≡ c.base + c.registers = omega arith in
    let second : top - 1 ≡ c.base + c.registers + 1 = omega arith in
    let is_function : get_or us (top - 2) 0 ≡ c.function = ap (λ i. get_or us i 0) first ∙ function in
    let is_at : get_or us (top - 1) 0 ≡ c.at = ap (λ i. get_or us i 0) second ∙ at in
    let wait = waiting_at fs c.frames c.base c.registers top us refl room (ap (registers_of fs) is_function ∙ own) in
    let frames : d.frames ≡ suc c.frames = omega (arith, dn) in
    let waiting : waiting_in fs d.frames (take d.base us) ≡ record { function = c.function; at = c.at; words = words_of ws c } ∷ waiting_in fs c.frames (take c.base ws) =
    (λ i. waiting_in fs (frames i) (take (db i) us)) ∙ wait ∙ (λ i. record { function = is_function i; at = is_at i; words = frame i } ∷ waiting_in fs c.frames (below i)) in
    let left : b.frames - d.frames ≡ k = omega (arith, frames, free) in
    λ i. record {
      store = s;
      running = record { function = df i; at = da i; words = words i };
      waiting = waiting i;
      free = left i;
      lent = lent;
    }

-- the state of a frame in the place of the one that ran
pub instead_is : (v : Checked) (b : Bounds) (lent : List Typed) (s : Store) (ws us : List ℕ) (c d : Cursor) (f : ℕ) (g : PlainFunction) (vs : List ℕ) → take c.base us ≡ take c.base ws → d.function ≡ f → d.at ≡ 0 → d.base ≡ c.base → d.frames ≡ c.frames → words_of us d ≡ first_words g.registers vs → state_of v b lent s us d ≡ record (state_of v b lent s ws c) { running = first_frame f g vs }
instead_is v b lent s ws us c d f g vs below df da db dn words =
    λ i. record {
      store = s;
      running = record { function = df i; at = da i; words = words i };
      waiting = waiting_in v.code.functions.items (dn i) (((λ j. take (db j) us) ∙ below) i);
      free = b.frames - dn i;
      lent = lent;
    }

-- the frames that wait, as a return finds them
pub waiting_is : (v : Checked) (ws : List ℕ) (c : Cursor) (base n : ℕ) → 0 < c.frames → base + (n + 2) ≡ c.base → c.base ≤ length ws → registers_of v.code.functions.items (get_or ws (c.base - 2) 0) ≡ n → waiting_in v.code.functions.items c.frames (take c.base ws) ≡ record { function = get_or ws (c.base - 2) 0; at = get_or ws (c.base - 1) 0; words = frame_at base n ws } ∷ waiting_in v.code.functions.items (c.frames - 1) (take base ws)
waiting_is v ws c base n some e room own =
    let fs = v.code.functions.items in
    let frames : c.frames ≡ suc (c.frames - 1) = omega (arith, some) in
    ap (λ k. waiting_in fs k (take c.base ws)) frames ∙ waiting_at fs (c.frames - 1) base n c.base ws (omega (arith, e)) room own

pub resumed_to : (v : Checked) (b : Bounds) (lent : List Typed) (s : Store) (ws us : List ℕ) (c d : Cursor) (f i base : ℕ) (xs : List ℕ) → c.frames ≤ b.frames → 0 < c.frames → take base us ≡ take base ws → d.function ≡ f → d.at ≡ i + 1 → d.base ≡ base → d.frames ≡ c.frames - 1 → words_of us d ≡ xs → state_of v b lent s us d ≡ record (state_of v b lent s ws c) { running = record { function = f; at = i + 1; words = xs }; waiting = waiting_in v.code.functions.items (c.frames - 1) (take base ws); free = b.frames - c.frames + 1 }
resumed_to v b lent s ws us c d f i base xs most some below df da db dn words =
    let left : b.frames - d.frames ≡ b.frames - c.frames + 1 = omega (arith, dn, most, some) in
    λ j. record {
      store = s;
      running = record { function = df j; at = da j; words = words j };
      waiting = waiting_in v.code.functions.items (dn j) (((λ j. take (db j) us) ∙ below) j);
      free = left j;
      lent = lent;
    }
