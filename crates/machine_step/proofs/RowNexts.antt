-- What the definition says of each instruction that is no call, by what was done to the words and the cells.
use Rattle.std.proofs.Common.{◌≡◌, ◌≢◌, ℕ, ◌+◌, ◌*◌, ◌/◌, ◌<◌, ◌≤◌, ℤ, Bool, true, false, List, [], ◌∷◌, length, get_or, map, Option, Some, None, refl, sym, ap, ◌∙◌, arith}
use Rattle.std.specs.Prelude.{slice_get, slice_set, option_map, option_and_then, nat_eq, ◌==◌, if◌then◌else◌}
use Rattle.std.proofs.lemmas.Bool.Decides.{nat_tests}
use Rattle.std.proofs.lemmas.Option.{none-some, same_Some}
use Rattle.fip_language.specs.declared.Operator.{Operator}
use Rattle.fip_language.specs.declared.TrapKind.{TrapKind}
use Rattle.fip_language.specs.Arithmetic.{Is, Fails, operate}
use Rattle.fip_language.specs.Matching.{same_int}
use Rattle.fip_language.specs.Store.{Cell, Placed, places, int_word}
use Rattle.fip_language.specs.Values.{Value}
use Rattle.cell_code.specs.declared.code.Instr.TheVariants as I
use Rattle.cell_code.specs.declared.kind.Kind.{Kind}
use Rattle.cell_code.specs.Runnable.{AreBelow}
use Rattle.code_verify.specs.Checked.{Checked}
use Rattle.cell_code.specs.Plain.{plain}
use Rattle.machine_frames.specs.machine_semantics.Words.{scalar_word, int_of, is_place, place_of, half_if}
use Rattle.machine_frames.specs.machine_semantics.Cells.{Store, Change, Write, Release, cell_in, written, changed, changed_by}
use Rattle.machine_frames.specs.machine_semantics.Trees.{tree_of}
use Rattle.machine_frames.specs.machine_semantics.States.{Typed, State}
use Rattle.machine_frames.specs.machine_semantics.Rows.{named, cell_if, constructor_of, operated, owned_type, dropped, read_all, write, write_all}
use Rattle.machine_frames.specs.machine_semantics.Steps.{act}
use Rattle.machine_frames.specs.Keeping.{Keeps}
use Rattle.machine_frames.specs.Words.{words_from, put_words}
use Rattle.machine_frames.proofs.Laid.{words_long}
use Rattle.machine_frames.proofs.Viewed.{frame_get, frame_long, frame_read, frame_write, write_one}
use Rattle.machine_step.specs.declared.cursor.Bounds.{Bounds}
use Rattle.machine_step.specs.declared.cursor.Cursor.{Cursor}
use Rattle.machine_step.specs.declared.rows.Stepped.{Stepped}
use Rattle.machine_step.specs.declared.rows.Stepped.TheVariants as S
use Rattle.machine_step.specs.View.{words_of, state_of}
use Rattle.machine_step.specs.Coming.{Comes, moved}
use Rattle.machine_step.proofs.Nexts.{went_words, went_branch, went_changes, went_operated, frame_moved, odd_place}
use Rattle.cell_store.specs.Reported.{Overwritten, Released}
use Rattle.machine_cells.specs.Telling.{as_reported}
use Rattle.machine_step.specs.Telling.{IsKnown, act_reports}
use Rattle.machine_step.proofs.Tellings.{changing, releases_reported}
use Rattle.machine_step.proofs.Calls.{written_long}

pub record Known {A B : Type 0} (f : A → Option B) (o : Option A) (y : B) : Type 0 where
  pub value : A
  pub is : o ≡ Some value
  pub gives : f value ≡ Some y

pub then_known : {A B : Type 0} (f : A → Option B) (o : Option A) (y : B) → option_and_then f o ≡ Some y → Known f o y
then_known {A} {B} f None y e = absurd (none-some y e)
then_known {A} {B} f (Some x) y e = record { value = x; is = refl; gives = e }

pub record Mapped {A B : Type 0} (f : A → B) (o : Option A) (y : B) : Type 0 where
  pub value : A
  pub is : o ≡ Some value
  pub gives : f value ≡ y

pub map_known : {A B : Type 0} (f : A → B) (o : Option A) (y : B) → option_map f o ≡ Some y → Mapped f o y
map_known {A} {B} f None y e = absurd (none-some y e)
map_known {A} {B} f (Some x) y e = record { value = x; is = refl; gives = same_Some (f x) y e }

-- the cell that a word names
pub named_cell : (s : Store) (w : ℕ) (c : Cell) → named s w ≡ Some c → cell_in s.cells (w / 2) ≡ Some c
named_cell s w c e = by (is_place w) e
  where
    by : (b : Bool) → cell_if s (half_if b w) ≡ Some c → cell_in s.cells (w / 2) ≡ Some c
    by true e = e
    by false e = absurd (none-some c e)

module _ (v : Checked) (b : Bounds) (ks : List Kind) (lent : List Typed) (s : Store) (ws : List ℕ) (c : Cursor) (r : Stepped) (t : State) (given : List ℕ) where
  abbrev old : State
  old = state_of v b lent s ws c

  abbrev now : List ℕ
  now = words_of ws c

  abbrev word : ℕ → ℕ
  word x = get_or ws (c.base + x) 0

  register_is : (x : ℕ) → x < c.registers → c.base + c.registers ≤ length ws → slice_get now x ≡ Some (word x)
  register_is x h l = frame_get c.base c.registers x ws h l

  -- a register gets a word
  written_word : (d w : ℕ) (us : List ℕ) → d < c.registers → c.base + c.registers ≤ length ws → write now d w ≡ Some us → slice_set now d w ≡ us
  written_word d w us h l e = let long = frame_long c.base c.registers ws l in same_Some (slice_set now d w) us (sym (write_one now d w (omega (arith, h, long))) ∙ e)

  pub const_next : (d : ℕ) (i : ℤ) (w : ℕ) → int_word i ≡ w → d < c.registers → c.base + c.registers ≤ length ws → r ≡ S.Went → t ≡ moved (c.at + 1) (slice_set now d w) old → Comes old (act (plain v.code) ks old (I.Const d i)) r t given
  const_next d i w is h l went to = went_words old (write now d (int_word i)) r t given went (λ us e. to ∙ ap (λ xs. moved (c.at + 1) xs old) (ap (slice_set now d) (sym is) ∙ written_word d (int_word i) us h l e))

  pub atom_next : (d ty k w : ℕ) → w ≡ 2 * k → d < c.registers → c.base + c.registers ≤ length ws → r ≡ S.Went → t ≡ moved (c.at + 1) (slice_set now d w) old → Comes old (act (plain v.code) ks old (I.Atom d ty k)) r t given
  atom_next d ty k w is h l went to = went_words old (write now d (2 * k)) r t given went (λ us e. to ∙ ap (λ xs. moved (c.at + 1) xs old) (ap (slice_set now d) is ∙ written_word d (2 * k) us h l e))

  pub move_next : (d x : ℕ) → d < c.registers → x < c.registers → c.base + c.registers ≤ length ws → r ≡ S.Went → t ≡ moved (c.at + 1) (slice_set now d (word x)) old → Comes old (act (plain v.code) ks old (I.Move d x)) r t given
  move_next d x h k l went to = went_words old (option_and_then (λ w. write now d w) (slice_get now x)) r t given went (λ us e.
      let o = then_known (λ w. write now d w) (slice_get now x) us e in
      let w : word x ≡ o.value = same_Some (word x) o.value (sym (register_is x k l) ∙ o.is) in
      to ∙ ap (λ xs. moved (c.at + 1) xs old) (ap (slice_set now d) w ∙ written_word d o.value us h l o.gives))

  operated_is : (o : Operator) (x y : ℕ) → x < c.registers → y < c.registers → c.base + c.registers ≤ length ws → operated old o x y ≡ Some (operate o (int_of (word x)) (int_of (word y)))
  operated_is o x y h k l = (λ i. option_and_then (λ p. option_map (λ q. operate o (int_of p) (int_of q)) (register_is y k l i)) (register_is x h l i))

  -- an operator gives a value with this word
  pub value_next : (d : ℕ) (o : Operator) (x y line col w : ℕ) → d < c.registers → x < c.registers → y < c.registers → c.base + c.registers ≤ length ws → ((u : Value) → operate o (int_of (word x)) (int_of (word y)) ≡ Is u → scalar_word u ≡ w) → ((k : TrapKind) → operate o (int_of (word x)) (int_of (word y)) ≡ Fails k → ⊥) → r ≡ S.Went → t ≡ moved (c.at + 1) (slice_set now d w) old → Comes old (act (plain v.code) ks old (I.Arith d o x y line col)) r t given
  value_next d o x y line col w h hx hy l f g went to =
      let is = operated_is o x y hx hy l in
      let op = operate o (int_of (word x)) (int_of (word y)) in
      went_operated old d line col (operated old o x y) r t given
      (λ u us e p. (went, to ∙ ap (λ xs. moved (c.at + 1) xs old) (ap (slice_set now d) (sym (f u (same_Some op (Is u) (sym is ∙ e)))) ∙ written_word d (scalar_word u) us h l p)))
      (λ k e. absurd (g k (same_Some op (Fails k) (sym is ∙ e))))

  -- an operator has no value
  pub trap_next : (d : ℕ) (o : Operator) (x y line col : ℕ) (kind : TrapKind) → x < c.registers → y < c.registers → c.base + c.registers ≤ length ws → ((u : Value) → operate o (int_of (word x)) (int_of (word y)) ≡ Is u → ⊥) → ((k : TrapKind) → operate o (int_of (word x)) (int_of (word y)) ≡ Fails k → kind ≡ k) → r ≡ S.Trap kind line col → t ≡ old → Comes old (act (plain v.code) ks old (I.Arith d o x y line col)) r t given
  trap_next d o x y line col kind hx hy l f g traps to =
      let is = operated_is o x y hx hy l in
      let op = operate o (int_of (word x)) (int_of (word y)) in
      went_operated old d line col (operated old o x y) r t given
      (λ u us e p. absurd (f u (same_Some op (Is u) (sym is ∙ e))))
      (λ k e. (traps ∙ ap (λ k. S.Trap k line col) (g k (same_Some op (Fails k) (sym is ∙ e))), to))

  pub test_next : (x k target : ℕ) (on : Bool) → x < c.registers → c.base + c.registers ≤ length ws → ((z : ℕ) → constructor_of s (word x) ≡ Some z → (z == k) ≡ on) → r ≡ S.Went → t ≡ moved (if on then c.at + 1 else target) now old → Comes old (act (plain v.code) ks old (I.Test x k target)) r t given
  test_next x k target on h l f went to = went_branch old target (option_map (λ z. z == k) (option_and_then (λ w. constructor_of s w) (slice_get now x))) r t given went (λ u e.
      let m = map_known (λ z. z == k) (option_and_then (λ w. constructor_of s w) (slice_get now x)) u e in
      let o = then_known (λ w. constructor_of s w) (slice_get now x) m.value m.is in
      let w : o.value ≡ word x = same_Some o.value (word x) (sym o.is ∙ register_is x h l) in
      let same : on ≡ u = sym (f m.value (ap (constructor_of s) (sym w) ∙ o.gives)) ∙ m.gives in
      to ∙ ap (λ y. moved (if y then c.at + 1 else target) now old) same)

  pub test_int_next : (x : ℕ) (i : ℤ) (target : ℕ) (on : Bool) → x < c.registers → c.base + c.registers ≤ length ws → same_int (int_of (word x)) i ≡ on → r ≡ S.Went → t ≡ moved (if on then c.at + 1 else target) now old → Comes old (act (plain v.code) ks old (I.TestInt x i target)) r t given
  test_int_next x i target on h l f went to = went_branch old target (option_map (λ w. same_int (int_of w) i) (slice_get now x)) r t given went (λ u e.
      let m = map_known (λ w. same_int (int_of w) i) (slice_get now x) u e in
      let w : m.value ≡ word x = same_Some m.value (word x) (sym m.is ∙ register_is x h l) in
      let same : on ≡ u = sym f ∙ ap (λ w. same_int (int_of w) i) (sym w) ∙ m.gives in
      to ∙ ap (λ y. moved (if y then c.at + 1 else target) now old) same)

  pub jump_next : (target : ℕ) → r ≡ S.Went → t ≡ moved target now old → Comes old (act (plain v.code) ks old (I.Jump target)) r t given
  jump_next target went to = (went, to)

  pub peek_next : (d x i : ℕ) → d < c.registers → x < c.registers → c.base + c.registers ≤ length ws → r ≡ S.Went → ((u : Cell) (w : ℕ) → cell_in s.cells (word x / 2) ≡ Some u → slice_get u.fields i ≡ Some w → t ≡ moved (c.at + 1) (slice_set now d w) old) → Comes old (act (plain v.code) ks old (I.Peek d x i)) r t given
  peek_next d x i h k l went f =
      let cells = option_and_then (λ w. named s w) (slice_get now x) in
      went_words old (option_and_then (λ w. write now d w) (option_and_then (λ u. slice_get u.fields i) cells)) r t given went (λ us e.
      let a = then_known (λ w. write now d w) (option_and_then (λ u. slice_get u.fields i) cells) us e in
      let p = then_known (λ (u : Cell). slice_get u.fields i) cells a.value a.is in
      let q = then_known (λ w. named s w) (slice_get now x) p.value p.is in
      let w : q.value ≡ word x = same_Some q.value (word x) (sym q.is ∙ register_is x k l) in
      let at = named_cell s (word x) p.value (ap (named s) (sym w) ∙ q.gives) in
      f p.value a.value at p.gives ∙ ap (λ xs. moved (c.at + 1) xs old) (written_word d a.value us h l a.gives))

  pub take_next : (x : ℕ) (ds us : List ℕ) → x < c.registers → c.base + c.registers ≤ length ws → AreBelow c.registers ds → length us ≡ length ws → Keeps c.base ws us → (ds ≡ [] → us ≡ ws) → ((u : Cell) → ds ≢ [] → cell_in s.cells (word x / 2) ≡ Some u → length u.fields ≡ length ds → us ≡ put_words c.base ws ds u.fields) → r ≡ S.Went → t ≡ moved (c.at + 1) (words_of us c) (state_of v b lent s us c) → Comes old (act (plain v.code) ks old (I.Take x ds)) r t given
  take_next x [] us h l below long keeps none f went to = went_words old (Some now) r t given went (λ xs e. to ∙ ap (λ ys. moved (c.at + 1) (words_of ys c) (state_of v b lent s ys c)) (none refl) ∙ ap (λ xs. moved (c.at + 1) xs old) (same_Some now xs e))
  take_next x (d ∷ ds) us h l below long keeps none f went to =
      let cells = option_and_then (λ w. named s w) (slice_get now x) in
      went_words old (option_and_then (λ u. write_all now (d ∷ ds) u.fields) cells) r t given went (λ xs e.
      let p = then_known (λ (u : Cell). write_all now (d ∷ ds) u.fields) cells xs e in
      let q = then_known (λ w. named s w) (slice_get now x) p.value p.is in
      let w : q.value ≡ word x = same_Some q.value (word x) (sym q.is ∙ register_is x h l) in
      let at = named_cell s (word x) p.value (ap (named s) (sym w) ∙ q.gives) in
      let size = written_long now (d ∷ ds) p.value.fields xs p.gives in
      let put : us ≡ put_words c.base ws (d ∷ ds) p.value.fields = f p.value (λ z. let n = ap length z in absurd (omega (arith, n))) at (sym size) in
      let new : words_of us c ≡ xs = ap (λ ys. words_of ys c) put ∙ same_Some (words_of (put_words c.base ws (d ∷ ds) p.value.fields) c) xs (sym (frame_write c.base c.registers ws (d ∷ ds) p.value.fields below l size) ∙ p.gives) in
      let state = frame_moved v b lent s ws us c xs (omega (arith, l)) (omega (arith, l, long)) keeps new in
      to ∙ (λ i. moved (c.at + 1) (new i) (state i)))

  place_known : (x p : ℕ) → x < c.registers → c.base + c.registers ≤ length ws → option_and_then (λ w. place_of w) (slice_get now x) ≡ Some p → p ≡ word x / 2
  place_known x p h l e =
      let q = then_known (λ w. place_of w) (slice_get now x) p e in
      let w : q.value ≡ word x = same_Some q.value (word x) (sym q.is ∙ register_is x h l) in
      odd_place q.value p q.gives ∙ ap (λ w. w / 2) w

  -- a write that can be done
  write_known : (p k : ℕ) (us : List ℕ) (m : Store) → changed (Write p k us) s ≡ Some m → (u : Cell) × (cell_in s.cells p ≡ Some u) × (length u.fields ≡ length us) × (m ≡ record s { cells = slice_set s.cells p (Some (record { tag = k; fields = us })) })
  write_known p k us m e = by (cell_in s.cells p) refl e
    where
      by : (o : Option Cell) → cell_in s.cells p ≡ o → written s p (record { tag = k; fields = us }) o ≡ Some m → (u : Cell) × (cell_in s.cells p ≡ Some u) × (length u.fields ≡ length us) × (m ≡ record s { cells = slice_set s.cells p (Some (record { tag = k; fields = us })) })
      by None a e = absurd (none-some m e)
      by (Some u) a e = sized (nat_eq (length u.fields) (length us)) refl e
        where
          sized : (q : Bool) → nat_eq (length u.fields) (length us) ≡ q → (if q then Some (record s { cells = slice_set s.cells p (Some (record { tag = k; fields = us })) }) else None) ≡ Some m → (u : Cell) × (cell_in s.cells p ≡ Some u) × (length u.fields ≡ length us) × (m ≡ record s { cells = slice_set s.cells p (Some (record { tag = k; fields = us })) })
          sized true z e = (u, a, grind (arith, nat_tests), sym (same_Some (record s { cells = slice_set s.cells p (Some (record { tag = k; fields = us })) }) m e))
          sized false z e = absurd (none-some m e)

  pub put_next : (x ty k : ℕ) (ss : List ℕ) (n : Store) → x < c.registers → c.base + c.registers ≤ length ws → AreBelow c.registers ss → ((u : Cell) → cell_in s.cells (word x / 2) ≡ Some u → length u.fields ≡ length ss → n ≡ record s { cells = slice_set s.cells (word x / 2) (Some (record { tag = k; fields = words_from c.base ws ss })) }) → r ≡ S.Went → t ≡ moved (c.at + 1) now (state_of v b lent n ws c) → Comes old (act (plain v.code) ks old (I.Put x ty k ss)) r t given
  put_next x ty k ss n h l below f went to =
      let places = option_and_then (λ w. place_of w) (slice_get now x) in
      let args = words_from c.base ws ss in
      went_changes old (option_and_then (λ p. option_map (λ us. Write p k us ∷ []) (read_all now ss)) places) r t given went (λ cs u e g.
      let p = then_known (λ p. option_map (λ us. Write p k us ∷ []) (read_all now ss)) places cs e in
      let q = map_known (λ us. Write p.value k us ∷ []) (read_all now ss) cs p.gives in
      let place = place_known x p.value h l p.is in
      let words : q.value ≡ args = same_Some q.value args (sym q.is ∙ frame_read c.base c.registers ws ss below l) in
      let change : Write (word x / 2) k args ∷ [] ≡ cs = (λ i. Write (sym place i) k (sym words i) ∷ []) ∙ q.gives in
      let done : changed_by (Write (word x / 2) k args ∷ []) s ≡ Some u = ap (λ cs. changed_by cs s) change ∙ g in
      let z = then_known (λ (m : Store). Some m) (changed (Write (word x / 2) k args) s) u done in
      let one = write_known (word x / 2) k args z.value z.is in
      let size : length one.0.fields ≡ length ss = one.2 ∙ words_long c.base ws ss in
      to ∙ ap (λ m. moved (c.at + 1) now (state_of v b lent m ws c)) (f one.0 one.1 size ∙ sym one.3 ∙ same_Some z.value u z.gives))

  pub free_next : (x : ℕ) (n : Store) → x < c.registers → c.base + c.registers ≤ length ws → ((u : Store) → changed (Release (word x / 2)) s ≡ Some u → n ≡ u) → r ≡ S.Went → t ≡ moved (c.at + 1) now (state_of v b lent n ws c) → Comes old (act (plain v.code) ks old (I.Free x)) r t given
  free_next x n h l f went to =
      let places = option_and_then (λ w. place_of w) (slice_get now x) in
      went_changes old (option_map (λ p. Release p ∷ []) places) r t given went (λ cs u e g.
      let q = map_known (λ p. Release p ∷ []) places cs e in
      let place = place_known x q.value h l q.is in
      let done : changed_by (Release (word x / 2) ∷ []) s ≡ Some u = ap (λ cs. changed_by cs s) (ap (λ p. Release p ∷ []) (sym place) ∙ q.gives) ∙ g in
      let z = then_known (λ (m : Store). Some m) (changed (Release (word x / 2)) s) u done in
      to ∙ ap (λ m. moved (c.at + 1) now (state_of v b lent m ws c)) (f z.value z.is ∙ same_Some z.value u z.gives))

  -- an owned tree
  owned : (x : ℕ) (o : Option ℕ) → owned_type (slice_get ks x) ≡ o → (cs : List Change) → dropped v.code.types old (word x) o ≡ Some cs → (ty : ℕ) × (y : Placed) × (owned_type (slice_get ks x) ≡ Some ty) × (tree_of v.code.types s ty (word x) ≡ Some y) × (map (λ p. Release p) (places y) ≡ cs)
  owned x None a cs e = absurd (none-some cs e)
  owned x (Some ty) a cs e = let m = map_known (λ y. map (λ p. Release p) (places y)) (tree_of v.code.types s ty (word x)) cs e in (ty, m.value, a, m.is, m.gives)

  pub drop_next : (x : ℕ) (n : Store) → x < c.registers → c.base + c.registers ≤ length ws → ((ty : ℕ) (y : Placed) (u : Store) → owned_type (slice_get ks x) ≡ Some ty → tree_of v.code.types s ty (word x) ≡ Some y → changed_by (map (λ p. Release p) (places y)) s ≡ Some u → n ≡ u) → r ≡ S.Went → t ≡ moved (c.at + 1) now (state_of v b lent n ws c) → Comes old (act (plain v.code) ks old (I.Drop x)) r t given
  drop_next x n h l f went to =
      went_changes old (option_and_then (λ w. dropped v.code.types old w (owned_type (slice_get ks x))) (slice_get now x)) r t given went (λ cs u e g.
      let q = then_known (λ w. dropped v.code.types old w (owned_type (slice_get ks x))) (slice_get now x) cs e in
      let w : q.value ≡ word x = same_Some q.value (word x) (sym q.is ∙ register_is x h l) in
      let o = owned x (owned_type (slice_get ks x)) refl cs (ap (λ w. dropped v.code.types old w (owned_type (slice_get ks x))) (sym w) ∙ q.gives) in
      to ∙ ap (λ m. moved (c.at + 1) now (state_of v b lent m ws c)) (f o.0 o.1 u o.2 o.3 (ap (λ cs. changed_by cs s) o.4 ∙ g)))

  -- what the store is reported

  pub put_reported : (x ty k : ℕ) (ss : List ℕ) → x < c.registers → c.base + c.registers ≤ length ws → AreBelow c.registers ss → IsKnown (act (plain v.code) ks old (I.Put x ty k ss)) → (u : Cell) × (cell_in s.cells (word x / 2) ≡ Some u) × (length u.fields ≡ length ss) × (act_reports (plain v.code) ks old (I.Put x ty k ss) ≡ Overwritten (word x / 2) k (words_from c.base ws ss) ∷ [])
  put_reported x ty k ss h l below known =
      let places = option_and_then (λ w. place_of w) (slice_get now x) in
      let args = words_from c.base ws ss in
      let m = changing old (option_and_then (λ p. option_map (λ us. Write p k us ∷ []) (read_all now ss)) places) known in
      let p = then_known (λ p. option_map (λ us. Write p k us ∷ []) (read_all now ss)) places m.changes m.are in
      let q = map_known (λ us. Write p.value k us ∷ []) (read_all now ss) m.changes p.gives in
      let place = place_known x p.value h l p.is in
      let words : q.value ≡ args = same_Some q.value args (sym q.is ∙ frame_read c.base c.registers ws ss below l) in
      let change : Write (word x / 2) k args ∷ [] ≡ m.changes = (λ i. Write (sym place i) k (sym words i) ∷ []) ∙ q.gives in
      let done : changed_by (Write (word x / 2) k args ∷ []) s ≡ Some m.store = ap (λ cs. changed_by cs s) change ∙ m.goes in
      let z = then_known (λ (m : Store). Some m) (changed (Write (word x / 2) k args) s) m.store done in
      let one = write_known (word x / 2) k args z.value z.is in
      (one.0, one.1, one.2 ∙ words_long c.base ws ss, m.reported ∙ ap (map as_reported) (sym change))

  pub free_reported : (x : ℕ) → x < c.registers → c.base + c.registers ≤ length ws → IsKnown (act (plain v.code) ks old (I.Free x)) → (u : Store) × (changed (Release (word x / 2)) s ≡ Some u) × (act_reports (plain v.code) ks old (I.Free x) ≡ Released (word x / 2) ∷ [])
  free_reported x h l known =
      let places = option_and_then (λ w. place_of w) (slice_get now x) in
      let m = changing old (option_map (λ p. Release p ∷ []) places) known in
      let q = map_known (λ p. Release p ∷ []) places m.changes m.are in
      let place = place_known x q.value h l q.is in
      let change : Release (word x / 2) ∷ [] ≡ m.changes = ap (λ p. Release p ∷ []) (sym place) ∙ q.gives in
      let done : changed_by (Release (word x / 2) ∷ []) s ≡ Some m.store = ap (λ cs. changed_by cs s) change ∙ m.goes in
      let z = then_known (λ (m : Store). Some m) (changed (Release (word x / 2)) s) m.store done in
      (z.value, z.is, m.reported ∙ ap (map as_reported) (sym change))

  pub drop_reported : (x : ℕ) → x < c.registers → c.base + c.registers ≤ length ws → IsKnown (act (plain v.code) ks old (I.Drop x)) → (ty : ℕ) × (y : Placed) × (u : Store) × (owned_type (slice_get ks x) ≡ Some ty) × (tree_of v.code.types s ty (word x) ≡ Some y) × (changed_by (map (λ p. Release p) (places y)) s ≡ Some u) × (act_reports (plain v.code) ks old (I.Drop x) ≡ map (λ p. Released p) (places y))
  drop_reported x h l known =
      let m = changing old (option_and_then (λ w. dropped v.code.types old w (owned_type (slice_get ks x))) (slice_get now x)) known in
      let q = then_known (λ w. dropped v.code.types old w (owned_type (slice_get ks x))) (slice_get now x) m.changes m.are in
      let w : q.value ≡ word x = same_Some q.value (word x) (sym q.is ∙ register_is x h l) in
      let o = owned x (owned_type (slice_get ks x)) refl m.changes (ap (λ w. dropped v.code.types old w (owned_type (slice_get ks x))) (sym w) ∙ q.gives) in
      (o.0, o.1, m.store, o.2, o.3, ap (λ cs. changed_by cs s) o.4 ∙ m.goes, m.reported ∙ ap (map as_reported) (sym o.4) ∙ releases_reported (places o.1))
