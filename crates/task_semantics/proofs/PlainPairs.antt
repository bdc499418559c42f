-- Instructions that change no cell and read no tree, alone and among others: Const, Atom, Move, Jump, TestInt, Arith.
use Rattle.std.proofs.Common.{◌≡◌, ◌⊎◌, inl, inr, ℕ, ◌+◌, ◌<◌, ℤ, Bool, true, false, ◌&&◌, List, [], ◌∷◌, length, Some, None, slice_get, slice_set, refl, sym, ap, ap₂, ◌∙◌, subst, arith, nat_lt}
use Rattle.std.specs.Prelude.{option_and_then, option_map}
use Rattle.run_loading.specs.fip_language.declared.Operator.{Operator}
use Rattle.run_loading.specs.fip_language.declared.TrapKind.{TrapKind}
use Rattle.run_loading.specs.fip_language.Table.{Table}
use Rattle.run_loading.specs.fip_language.Store.{Placed, Bare, int_word}
use Rattle.run_loading.specs.fip_language.Matching.{same_int}
use Rattle.run_loading.specs.fip_language.Arithmetic.{Operated, Is, Fails, operate}
use Rattle.run_loading.specs.cell_code.declared.code.Instr.{Instr}
use Rattle.run_loading.specs.cell_code.declared.code.Instr.TheVariants as I
use Rattle.run_loading.specs.cell_code.declared.kind.Kind.{Kind}
use Rattle.run_loading.specs.cell_code.declared.kind.Kind.TheVariants.{Gone, Scalar, Owned, Lent, Credit}
use Rattle.run_loading.specs.machine_semantics.Words.{atom_word, int_of, scalar_word}
use Rattle.run_loading.specs.machine_semantics.Cells.{Store, IsStore, cell_at, changed_by}
use Rattle.run_loading.specs.machine_semantics.States.{State}
use Rattle.run_loading.specs.machine_semantics.Rows as R
use Rattle.run_loading.specs.machine_semantics.Apart.{Holding}
use Rattle.run_loading.specs.cell_code.Plain.{PlainFunction, PlainCode}
use Rattle.run_loading.specs.code_rules.Types.{is_scalar_type}
use Rattle.run_loading.specs.code_rules.Kinds.{at, is_scalar_of}
use Rattle.run_loading.specs.code_rules.Ranges.{is_constructor}
use Rattle.run_loading.specs.code_rules.Changes.{written, moved, moved_by}
use Rattle.run_loading.specs.code_rules.Leaves.{Leaves, atom_kind, result_type}
use Rattle.run_loading.specs.code_rules.Flow.{GoesTo}
use Rattle.run_loading.specs.separation_kinds.Meanings.{owned_by, word_at}
use Rattle.run_loading.proofs.separation_kinds.Basics.{pick, both, below, length_become}
use Rattle.run_loading.proofs.separation_kinds.KindLemmas.{put}
use Rattle.run_loading.proofs.separation_kinds.Words.{word_get, set_length, set_word, writes}
use Rattle.run_loading.proofs.separation_kinds.Giving.{scalar_of}
use Rattle.run_loading.proofs.separation_kinds.Passing.{credit_within}
use Rattle.run_loading.specs.separation.Rows.{IsReady}
use Rattle.run_loading.proofs.separation.PlainRows.{goes_on, jumps, bare_shape}
use Rattle.task_semantics.specs.Projected.{Renaming, IsThere, AreRenamed, IsRenamedWord}
use Rattle.task_semantics.proofs.SameCells.{Beyond}
use Rattle.task_semantics.proofs.AlikeWords.{AreAlike, used_up_alike, gone_alike, written_alike, reworded_alike}

-- a state of a task alone, and the one among others, before an instruction
pub record IsPair (f : Renaming) (c : PlainCode) (ks : List Kind) (s u : State) : Type 0 where
  pub cells : AreRenamed f s.store u.store
  pub good : IsStore u.store
  pub instr : u.running.at ≡ s.running.at
  pub long : length u.running.words ≡ length s.running.words
  pub alike : AreAlike c.types f s.store u.store (at ks) (word_at s.running.words) (word_at u.running.words)

-- The instruction is done in both, and after it they are a pair again. Among others only cells change that the frame
-- owns.
pub record Pairs (f : Renaming) (c : PlainCode) (fn : PlainFunction) (ks : List Kind) (hs : ℕ → Holding) (s u : State) (x : Instr) : Type 0 where
  pub done : R.Done
  pub is : R.done c.types ks s x ≡ Some done
  pub store : Store
  pub changed : changed_by done.changes s.store ≡ Some store
  pub mate : R.Done
  pub mate_is : R.done c.types ks u x ≡ Some mate
  pub other : Store
  pub other_changed : changed_by mate.changes u.store ≡ Some other
  pub good : IsStore other
  pub to : mate.at ≡ done.at
  pub long : length mate.words ≡ length done.words
  pub left : List Kind
  pub goes : GoesTo c fn s.running.at done.at left
  pub alike : AreAlike c.types f store other (at left) (word_at done.words) (word_at mate.words)
  pub cells : AreRenamed f store other
  pub beyond : Beyond f s.store u.store other
  pub elsewhere : (q : ℕ) → IsThere s.store q → owned_by q (at ks) hs (length ks) ≡ 0 → cell_at other (f q) ≡ cell_at u.store (f q)

-- no cell changes
pub plain_pair : (f : Renaming) (c : PlainCode) (fn : PlainFunction) (ks : List Kind) (hs : ℕ → Holding) (s u : State) (x : Instr) (to : ℕ) (ws vs : List ℕ) (left : List Kind) → IsPair f c ks s u → R.done c.types ks s x ≡ Some (record { at = to; words = ws; changes = [] }) → R.done c.types ks u x ≡ Some (record { at = to; words = vs; changes = [] }) → GoesTo c fn s.running.at to left → length vs ≡ length ws → AreAlike c.types f s.store u.store (at left) (word_at ws) (word_at vs) → Pairs f c fn ks hs s u x
plain_pair f c fn ks hs s u x to ws vs left m is also goes long alike = record {
  done = record { at = to; words = ws; changes = [] };
  is = is;
  store = s.store;
  changed = refl;
  mate = record { at = to; words = vs; changes = [] };
  mate_is = also;
  other = u.store;
  other_changed = refl;
  good = m.good;
  to = refl;
  long = long;
  left = left;
  goes = goes;
  alike = alike;
  cells = m.cells;
  beyond = λ q none. (refl, refl);
  elsewhere = λ q there none. refl;
}

-- the next instruction, in both
pub on_pair : (f : Renaming) (c : PlainCode) (ks : List Kind) (s u : State) (vs : List ℕ) → IsPair f c ks s u → R.on u (Some vs) ≡ Some (record { at = s.running.at + 1; words = vs; changes = [] })
on_pair f c ks s u vs m = ap (λ i. Some (record { at = i + 1; words = vs; changes = [] })) m.instr

-- one register gets a word
pub writes_pair : (f : Renaming) (c : PlainCode) (fn : PlainFunction) (b : List Placed) (ks mid : List Kind) (hs : ℕ → Holding) (s u : State) (x : Instr) (d w v : ℕ) (k : Kind) → IsReady c fn b ks hs s x → IsPair f c ks s u → R.done c.types ks s x ≡ R.on s (R.write s.running.words d w) → R.done c.types ks u x ≡ R.on u (R.write u.running.words d v) → Leaves c ks x (written mid d k) → length mid ≡ length ks → d < length ks → AreAlike c.types f s.store u.store (at mid) (word_at s.running.words) (word_at u.running.words) → IsRenamedWord c.types f s.store u.store k w v → Pairs f c fn ks hs s u x
writes_pair f c fn b ks mid hs s u x d w v k r m is also leaves wide there alike new =
    let long = r.long in
    let even = m.long in
    let within : d < length s.running.words = omega arith in
    let inside : d < length mid = omega arith in
    let among : d < length u.running.words = omega arith in
    plain_pair f c fn ks hs s u x (s.running.at + 1) (slice_set s.running.words d w) (slice_set u.running.words d v) (written mid d k) m
    (is ∙ ap (R.on s) (writes s.running.words d w within))
    (also ∙ ap (R.on u) (writes u.running.words d v among) ∙ on_pair f c ks s u (slice_set u.running.words d v) m)
    (goes_on c fn b ks hs s x (written mid d k) r leaves)
    (set_length u.running.words d v ∙ even ∙ sym (set_length s.running.words d w))
    (reworded_alike c.types f s.store u.store (at (written mid d k)) (put d w (word_at s.running.words)) (word_at (slice_set s.running.words d w)) (put d v (word_at u.running.words)) (word_at (slice_set u.running.words d v))
    (set_word s.running.words d w within) (set_word u.running.words d v among)
    (written_alike c.types f s.store u.store mid (word_at s.running.words) (word_at u.running.words) d k w v inside alike new))

pub const_pair : (f : Renaming) (c : PlainCode) (fn : PlainFunction) (b : List Placed) (ks : List Kind) (hs : ℕ → Holding) (s u : State) (d : ℕ) (v : ℤ) → IsReady c fn b ks hs s (I.Const d v) → IsPair f c ks s u → Pairs f c fn ks hs s u (I.Const d v)
const_pair f c fn b ks hs s u d v r m =
    let wide = r.wide in
    let within = below d fn.registers r.ranged in
    writes_pair f c fn b ks ks hs s u (I.Const d v) d (int_word v) (int_word v) (Scalar 0) r m refl refl refl refl (omega arith) m.alike refl

pub atom_pair : (f : Renaming) (c : PlainCode) (fn : PlainFunction) (b : List Placed) (ks : List Kind) (hs : ℕ → Holding) (s u : State) (d t k : ℕ) → IsReady c fn b ks hs s (I.Atom d t k) → IsPair f c ks s u → Pairs f c fn ks hs s u (I.Atom d t k)
atom_pair f c fn b ks hs s u d t k r m =
    let a = both (nat_lt d fn.registers) (is_constructor c.types t k) r.ranged in
    let wide = r.wide in
    let within = below d fn.registers a.0 in
    writes_pair f c fn b ks ks hs s u (I.Atom d t k) d (atom_word k) (atom_word k) (atom_kind c.types t k) r m refl refl refl refl (omega arith) m.alike
    (pick (λ j. IsRenamedWord c.types f s.store u.store j (atom_word k) (atom_word k)) (is_scalar_type c.types t) (Scalar t) (Owned t (k ∷ [])) (λ e. refl) (λ e. record {
      tree = Bare k;
      alone = record { word = refl; stands = bare_shape c.types s.store t k a.1 r.sources };
      among = record { word = refl; stands = bare_shape c.types u.store t k a.1 r.sources };
    }))

-- ---- Move

moved_alike : (tb : Table) (f : Renaming) (own shared : Store) (ks : List Kind) (r : ℕ) (ws vs : ℕ → ℕ) (k : Kind) → at ks r ≡ k → AreAlike tb f own shared (at ks) ws vs → (length (moved_by ks r k) ≡ length ks) × AreAlike tb f own shared (at (moved_by ks r k)) ws vs
moved_alike tb f own shared ks r ws vs Gone e a = (refl, a)
moved_alike tb f own shared ks r ws vs (Scalar t) e a = (refl, a)
moved_alike tb f own shared ks r ws vs (Lent t ds root from) e a = (refl, a)
moved_alike tb f own shared ks r ws vs (Owned t ds) e a = (length_become ks _, used_up_alike tb f own shared ks r ws vs a)
moved_alike tb f own shared ks r ws vs (Credit n) e a = (length_become ks _, gone_alike tb f own shared ks ws vs r (credit_within ks r n e) a)

pub move_pair : (f : Renaming) (c : PlainCode) (fn : PlainFunction) (b : List Placed) (ks : List Kind) (hs : ℕ → Holding) (s u : State) (d r : ℕ) → IsReady c fn b ks hs s (I.Move d r) → IsPair f c ks s u → Pairs f c fn ks hs s u (I.Move d r)
move_pair f c fn b ks hs s u d r g m =
    let a = both (nat_lt d fn.registers) (nat_lt r fn.registers) g.ranged in
    let wide = g.wide in
    let long = g.long in
    let even = m.long in
    let within = below d fn.registers a.0 in
    let source = below r fn.registers a.1 in
    let moves = moved_alike c.types f s.store u.store ks r (word_at s.running.words) (word_at u.running.words) (at ks r) refl m.alike in
    writes_pair f c fn b ks (moved ks r) hs s u (I.Move d r) d (word_at s.running.words r) (word_at u.running.words r) (at ks r) g m
    (ap (λ o. R.on s (option_and_then (λ w. R.write s.running.words d w) o)) (word_get s.running.words r (omega arith)))
    (ap (λ o. R.on u (option_and_then (λ w. R.write u.running.words d w) o)) (word_get u.running.words r (omega arith)))
    refl moves.0 (omega arith) moves.1 (m.alike.each r)

-- ---- Jump, TestInt

pub jump_pair : (f : Renaming) (c : PlainCode) (fn : PlainFunction) (b : List Placed) (ks : List Kind) (hs : ℕ → Holding) (s u : State) (target : ℕ) → IsReady c fn b ks hs s (I.Jump target) → IsPair f c ks s u → Pairs f c fn ks hs s u (I.Jump target)
jump_pair f c fn b ks hs s u target g m = plain_pair f c fn ks hs s u (I.Jump target) target s.running.words u.running.words ks m refl refl (jumps c fn b ks hs s (I.Jump target) target ks g (refl, refl)) m.long m.alike

int_branch : (f : Renaming) (c : PlainCode) (fn : PlainFunction) (b : List Placed) (ks : List Kind) (hs : ℕ → Holding) (s u : State) (r : ℕ) (v : ℤ) (target : ℕ) (o : Bool) → IsReady c fn b ks hs s (I.TestInt r v target) → IsPair f c ks s u → R.done c.types ks s (I.TestInt r v target) ≡ R.branch s target (Some o) → R.done c.types ks u (I.TestInt r v target) ≡ R.branch u target (Some o) → Pairs f c fn ks hs s u (I.TestInt r v target)
int_branch f c fn b ks hs s u r v target true g m is also = plain_pair f c fn ks hs s u (I.TestInt r v target) (s.running.at + 1) s.running.words u.running.words ks m is (also ∙ on_pair f c ks s u u.running.words m) (goes_on c fn b ks hs s (I.TestInt r v target) ks g refl) m.long m.alike
int_branch f c fn b ks hs s u r v target false g m is also = plain_pair f c fn ks hs s u (I.TestInt r v target) target s.running.words u.running.words ks m is also (jumps c fn b ks hs s (I.TestInt r v target) target ks g (refl, refl)) m.long m.alike

-- a scalar has the same word
scalar_same : (tb : Table) (f : Renaming) (own shared : Store) (t : ℕ) (k : Kind) (w v : ℕ) → is_scalar_of t k ≡ true → IsRenamedWord tb f own shared k w v → v ≡ w
scalar_same tb f own shared t k w v e i = subst (λ k. IsRenamedWord tb f own shared k w v) (scalar_of t k e) i

pub test_int_pair : (f : Renaming) (c : PlainCode) (fn : PlainFunction) (b : List Placed) (ks : List Kind) (hs : ℕ → Holding) (s u : State) (r : ℕ) (v : ℤ) (target : ℕ) → IsReady c fn b ks hs s (I.TestInt r v target) → IsPair f c ks s u → Pairs f c fn ks hs s u (I.TestInt r v target)
test_int_pair f c fn b ks hs s u r v target g m =
    let a = both (nat_lt r fn.registers) _ g.ranged in
    let wide = g.wide in
    let long = g.long in
    let even = m.long in
    let source = below r fn.registers a.0 in
    let ws : List ℕ = s.running.words in
    let vs : List ℕ = u.running.words in
    let same = scalar_same c.types f s.store u.store 0 (at ks r) (word_at ws r) (word_at vs r) g.sources (m.alike.each r) in
    int_branch f c fn b ks hs s u r v target (same_int (int_of (word_at ws r)) v) g m
    (ap (λ o. R.branch s target (option_map (λ w. same_int (int_of w) v) o)) (word_get ws r (omega arith)))
    (ap (λ o. R.branch u target (option_map (λ w. same_int (int_of w) v) o)) (word_get vs r (omega arith)) ∙ ap (λ w. R.branch u target (Some (same_int (int_of w) v))) same)

-- ---- Arith

-- it is done in both, or has no value in both
abbrev pub PairsOrTraps : Renaming → PlainCode → PlainFunction → List Kind → (ℕ → Holding) → State → State → Operator → ℕ → ℕ → Instr → Type 0
PairsOrTraps f c fn ks hs s u o x y i = ((R.trap (R.operated s o x y) ≡ None) × (R.trap (R.operated u o x y) ≡ None) × Pairs f c fn ks hs s u i) ⊎ ((kind : TrapKind) × (R.trap (R.operated s o x y) ≡ Some kind) × (R.trap (R.operated u o x y) ≡ Some kind))

calculated_pair : (f : Renaming) (c : PlainCode) (fn : PlainFunction) (b : List Placed) (ks : List Kind) (hs : ℕ → Holding) (s u : State) (d : ℕ) (o : Operator) (x y line col : ℕ) (r : Operated) → IsReady c fn b ks hs s (I.Arith d o x y line col) → IsPair f c ks s u → R.operated s o x y ≡ Some r → R.operated u o x y ≡ Some r → PairsOrTraps f c fn ks hs s u o x y (I.Arith d o x y line col)
calculated_pair f c fn b ks hs s u d o x y line col (Fails kind) g m is also = inr (kind, ap R.trap is, ap R.trap also)
calculated_pair f c fn b ks hs s u d o x y line col (Is v) g m is also =
    let a = both (nat_lt d fn.registers) _ g.ranged in
    let wide = g.wide in
    let within = below d fn.registers a.0 in
    inl (ap R.trap is, ap R.trap also, writes_pair f c fn b ks ks hs s u (I.Arith d o x y line col) d (scalar_word v) (scalar_word v) (Scalar (result_type o)) g m (ap (R.calculated s d) is) (ap (R.calculated u d) also) refl refl (omega arith) m.alike refl)

operated_is : (s : State) (o : Operator) (x y : ℕ) → x < length s.running.words → y < length s.running.words → R.operated s o x y ≡ Some (operate o (int_of (word_at s.running.words x)) (int_of (word_at s.running.words y)))
operated_is s o x y h k =
    ap (λ z. option_and_then (λ v. option_map (λ w. operate o (int_of v) (int_of w)) (slice_get s.running.words y)) z) (word_get s.running.words x h)
    ∙ ap (λ z. option_map (λ w. operate o (int_of (word_at s.running.words x)) (int_of w)) z) (word_get s.running.words y k)

pub arith_pair : (f : Renaming) (c : PlainCode) (fn : PlainFunction) (b : List Placed) (ks : List Kind) (hs : ℕ → Holding) (s u : State) (d : ℕ) (o : Operator) (x y line col : ℕ) → IsReady c fn b ks hs s (I.Arith d o x y line col) → IsPair f c ks s u → PairsOrTraps f c fn ks hs s u o x y (I.Arith d o x y line col)
arith_pair f c fn b ks hs s u d o x y line col g m =
    let a = both (nat_lt d fn.registers) (nat_lt x fn.registers && nat_lt y fn.registers) g.ranged in
    let e = both (nat_lt x fn.registers) (nat_lt y fn.registers) a.1 in
    let k = both (is_scalar_of 0 (at ks x)) (is_scalar_of 0 (at ks y)) g.sources in
    let wide = g.wide in
    let long = g.long in
    let even = m.long in
    let left = below x fn.registers e.0 in
    let right = below y fn.registers e.1 in
    let ws : List ℕ = s.running.words in
    let vs : List ℕ = u.running.words in
    let i = scalar_same c.types f s.store u.store 0 (at ks x) (word_at ws x) (word_at vs x) k.0 (m.alike.each x) in
    let j = scalar_same c.types f s.store u.store 0 (at ks y) (word_at ws y) (word_at vs y) k.1 (m.alike.each y) in
    calculated_pair f c fn b ks hs s u d o x y line col (operate o (int_of (word_at ws x)) (int_of (word_at ws y))) g m
    (operated_is s o x y (omega arith) (omega arith))
    (operated_is u o x y (omega arith) (omega arith) ∙ ap₂ (λ v w. Some (operate o (int_of v) (int_of w))) i j)
