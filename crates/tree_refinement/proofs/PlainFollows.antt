-- Instructions that change no cell and read no tree: Const, Atom, Move, Jump, TestInt, Arith. On trees the same comes
-- of them.
use Rattle.std.proofs.Common.{◌≡◌, ◌⊎◌, inl, inr, ℕ, suc, ◌+◌, ◌<◌, ℤ, Bool, true, false, ◌&&◌, List, [], ◌∷◌, length, Some, None, slice_get, slice_set, refl, sym, ap, ap₂, ◌∙◌, subst, arith, nat_lt, FitsSigned}
use Rattle.std.specs.Prelude.{option_and_then, option_map}
use Rattle.std.specs.Int.{w64}
use Rattle.tree_semantics.specs.fip_language.declared.Operator.{Operator}
use Rattle.tree_semantics.specs.fip_language.declared.TrapKind.{TrapKind}
use Rattle.tree_semantics.specs.fip_language.Values.{Value, Int, Node, End}
use Rattle.tree_semantics.specs.fip_language.Table.{Table}
use Rattle.tree_semantics.specs.fip_language.Store.{Placed, PlacedInt, Bare, int_word}
use Rattle.tree_semantics.specs.fip_language.Matching.{same_int}
use Rattle.tree_semantics.specs.fip_language.Arithmetic.{Operated, Is, Fails, operate}
use Rattle.separation_bounds.specs.cell_code.declared.code.Instr.{Instr}
use Rattle.separation_bounds.specs.cell_code.declared.code.Instr.TheVariants as I
use Rattle.separation_bounds.specs.cell_code.declared.kind.Kind.{Kind}
use Rattle.separation_bounds.specs.cell_code.declared.kind.Kind.TheVariants.{Gone, Scalar, Owned, Lent, Credit}
use Rattle.tree_semantics.specs.machine_semantics.Words.{atom_word, int_of, scalar_word}
use Rattle.tree_semantics.specs.machine_semantics.Cells.{Store, changed_by}
use Rattle.tree_semantics.specs.machine_semantics.States.{State}
use Rattle.separation_bounds.specs.cell_code.Plain.{PlainFunction, PlainCode}
use Rattle.tree_semantics.specs.machine_semantics.Rows as R
use Rattle.tree_semantics.specs.machine_semantics.Apart.{Holding}
use Rattle.tree_semantics.specs.Contents.{Contents}
use Rattle.tree_semantics.specs.Contents as T
use Rattle.tree_semantics.specs.States as U
use Rattle.tree_semantics.specs.Steps as N
use Rattle.separation_bounds.specs.code_rules.Types.{is_scalar_type}
use Rattle.separation_bounds.specs.code_rules.Kinds.{at, is_scalar_of}
use Rattle.separation_bounds.specs.code_rules.Ranges.{is_constructor}
use Rattle.separation_bounds.specs.code_rules.Changes.{written, moved, moved_by}
use Rattle.separation_bounds.specs.code_rules.Leaves.{Leaves, atom_kind, result_type}
use Rattle.separation_bounds.specs.code_rules.Flow.{GoesTo}
use Rattle.separation_bounds.specs.separation_kinds.Meanings.{word_at}
use Rattle.separation_bounds.proofs.separation_kinds.Basics.{pick, both, below, length_become}
use Rattle.separation_bounds.proofs.separation_kinds.KindLemmas.{put}
use Rattle.separation_bounds.proofs.separation_kinds.Words.{word_get, set_word, writes}
use Rattle.separation_bounds.proofs.separation_kinds.Giving.{scalar_of}
use Rattle.separation_bounds.proofs.separation_kinds.Passing.{credit_within}
use Rattle.separation_bounds.specs.separation.Rows.{IsReady}
use Rattle.separation_bounds.proofs.separation.PlainRows.{goes_on, jumps, bare_shape}
use Rattle.tree_refinement.specs.Agreement.{type_in, Shows, AreShown}
use Rattle.tree_refinement.proofs.Values.{used_up_shown, written_shown, gone_shown, reworded_shown}
use Rattle.tree_refinement.proofs.Operating.{GivesValue, operate_value, int_value}

-- The instruction is done on cells, n comes on trees, and after both registers show the same.
pub record Follows (c : PlainCode) (f : PlainFunction) (ks : List Kind) (s : State) (x : Instr) (t : U.State) (n : U.Next) : Type 0 where
  pub done : R.Done
  pub is : R.done c.types ks s x ≡ Some done
  pub store : Store
  pub changed : changed_by done.changes s.store ≡ Some store
  pub left : List Kind
  pub goes : GoesTo c f s.running.at done.at left
  pub contents : Contents
  pub next : n ≡ N.went t done.at contents
  pub shown : AreShown c.types store (at left) (word_at done.words) contents

-- no cell changes
pub follows : (c : PlainCode) (f : PlainFunction) (ks : List Kind) (s : State) (x : Instr) (t : U.State) (n : U.Next) (to : ℕ) (ws : List ℕ) (left : List Kind) (cs : Contents) → R.done c.types ks s x ≡ Some (record { at = to; words = ws; changes = [] }) → GoesTo c f s.running.at to left → n ≡ N.went t to cs → AreShown c.types s.store (at left) (word_at ws) cs → Follows c f ks s x t n
follows c f ks s x t n to ws left cs is goes next shown = record {
  done = record { at = to; words = ws; changes = [] };
  is = is;
  store = s.store;
  changed = refl;
  left = left;
  goes = goes;
  contents = cs;
  next = next;
  shown = shown;
}

pub on_is : (s : State) (t : U.State) (cs : Contents) → s.running.at ≡ t.running.at → N.on t cs ≡ N.went t (s.running.at + 1) cs
on_is s t cs e = let z : suc t.running.at ≡ s.running.at + 1 = omega arith in ap (λ i. N.went t i cs) z

-- one register gets a word and a value
pub writes_follow : (c : PlainCode) (f : PlainFunction) (b : List Placed) (ks mid : List Kind) (hs : ℕ → Holding) (s : State) (x : Instr) (t : U.State) (n : U.Next) (d w : ℕ) (k : Kind) (v : Value) → IsReady c f b ks hs s x → s.running.at ≡ t.running.at → R.done c.types ks s x ≡ R.on s (R.write s.running.words d w) → Leaves c ks x (written mid d k) → length mid ≡ length ks → d < length ks → n ≡ N.on t (T.put t.running.contents d v) → AreShown c.types s.store (at mid) (word_at s.running.words) t.running.contents → Shows c.types s.store (type_in k) w v → Follows c f ks s x t n
writes_follow c f b ks mid hs s x t n d w k v r same is leaves wide there next shown new =
    let long = r.long in
    let within : d < length s.running.words = omega arith in
    let inside : d < length mid = omega arith in
    follows c f ks s x t n (s.running.at + 1) (slice_set s.running.words d w) (written mid d k) (T.put t.running.contents d v)
    (is ∙ ap (R.on s) (writes s.running.words d w within))
    (goes_on c f b ks hs s x (written mid d k) r leaves)
    (next ∙ on_is s t (T.put t.running.contents d v) same)
    (reworded_shown c.types s.store (at (written mid d k)) (put d w (word_at s.running.words)) (word_at (slice_set s.running.words d w)) (T.put t.running.contents d v) (set_word s.running.words d w within)
    (written_shown c.types s.store mid (word_at s.running.words) t.running.contents d k w v inside shown new))

pub const_follows : (c : PlainCode) (f : PlainFunction) (b : List Placed) (ks : List Kind) (hs : ℕ → Holding) (s : State) (code : PlainCode) (t : U.State) (d : ℕ) (v : ℤ) → IsReady c f b ks hs s (I.Const d v) → s.running.at ≡ t.running.at → AreShown c.types s.store (at ks) (word_at s.running.words) t.running.contents → Follows c f ks s (I.Const d v) t (N.act code t (I.Const d v))
const_follows c f b ks hs s code t d v r same shown =
    let wide = r.wide in
    let within = below d f.registers r.ranged in
    writes_follow c f b ks ks hs s (I.Const d v) t _ d (int_word v) (Scalar 0) (Int v) r same refl refl refl (omega arith) refl shown
    (PlacedInt v, record { word = refl; stands = r.literal }, refl)

pub atom_follows : (c : PlainCode) (f : PlainFunction) (b : List Placed) (ks : List Kind) (hs : ℕ → Holding) (s : State) (code : PlainCode) (t : U.State) (d u k : ℕ) → IsReady c f b ks hs s (I.Atom d u k) → s.running.at ≡ t.running.at → AreShown c.types s.store (at ks) (word_at s.running.words) t.running.contents → Follows c f ks s (I.Atom d u k) t (N.act code t (I.Atom d u k))
atom_follows c f b ks hs s code t d u k r same shown =
    let a = both (nat_lt d f.registers) (is_constructor c.types u k) r.ranged in
    let wide = r.wide in
    let within = below d f.registers a.0 in
    let stands = bare_shape c.types s.store u k a.1 r.sources in
    writes_follow c f b ks ks hs s (I.Atom d u k) t _ d (atom_word k) (atom_kind c.types u k) (Node k End) r same refl refl refl (omega arith) refl shown
    (pick (λ j. Shows c.types s.store (type_in j) (atom_word k) (Node k End)) (is_scalar_type c.types u) (Scalar u) (Owned u (k ∷ []))
    (λ e. (Bare k, record { word = refl; stands = stands }, refl)) (λ e. (Bare k, record { word = refl; stands = stands }, refl)))

-- ---- Move

moved_shown : (tb : Table) (s : Store) (ks : List Kind) (r : ℕ) (ws : ℕ → ℕ) (cs : Contents) (k : Kind) → at ks r ≡ k → AreShown tb s (at ks) ws cs → (length (moved_by ks r k) ≡ length ks) × AreShown tb s (at (moved_by ks r k)) ws cs
moved_shown tb s ks r ws cs Gone e a = (refl, a)
moved_shown tb s ks r ws cs (Scalar t) e a = (refl, a)
moved_shown tb s ks r ws cs (Lent t ds root from) e a = (refl, a)
moved_shown tb s ks r ws cs (Owned t ds) e a = (length_become ks _, used_up_shown tb s ks r ws cs a)
moved_shown tb s ks r ws cs (Credit n) e a = (length_become ks _, gone_shown tb s ks ws cs r (credit_within ks r n e) a)

pub move_follows : (c : PlainCode) (f : PlainFunction) (b : List Placed) (ks : List Kind) (hs : ℕ → Holding) (s : State) (code : PlainCode) (t : U.State) (d r : ℕ) → IsReady c f b ks hs s (I.Move d r) → s.running.at ≡ t.running.at → AreShown c.types s.store (at ks) (word_at s.running.words) t.running.contents → Follows c f ks s (I.Move d r) t (N.act code t (I.Move d r))
move_follows c f b ks hs s code t d r g same shown =
    let a = both (nat_lt d f.registers) (nat_lt r f.registers) g.ranged in
    let wide = g.wide in
    let long = g.long in
    let within = below d f.registers a.0 in
    let source = below r f.registers a.1 in
    let m = moved_shown c.types s.store ks r (word_at s.running.words) t.running.contents (at ks r) refl shown in
    writes_follow c f b ks (moved ks r) hs s (I.Move d r) t _ d (word_at s.running.words r) (at ks r) (t.running.contents r) g same
    (ap (λ o. R.on s (option_and_then (λ w. R.write s.running.words d w) o)) (word_get s.running.words r (omega arith)))
    refl m.0 (omega arith) refl m.1 (shown.each r)

-- ---- Jump, TestInt

pub jump_follows : (c : PlainCode) (f : PlainFunction) (b : List Placed) (ks : List Kind) (hs : ℕ → Holding) (s : State) (code : PlainCode) (t : U.State) (target : ℕ) → IsReady c f b ks hs s (I.Jump target) → AreShown c.types s.store (at ks) (word_at s.running.words) t.running.contents → Follows c f ks s (I.Jump target) t (N.act code t (I.Jump target))
jump_follows c f b ks hs s code t target g shown = follows c f ks s (I.Jump target) t _ target s.running.words ks t.running.contents refl (jumps c f b ks hs s (I.Jump target) target ks g (refl, refl)) refl shown

int_branch : (c : PlainCode) (f : PlainFunction) (b : List Placed) (ks : List Kind) (hs : ℕ → Holding) (s : State) (t : U.State) (r : ℕ) (v : ℤ) (target : ℕ) (o : Bool) → IsReady c f b ks hs s (I.TestInt r v target) → s.running.at ≡ t.running.at → R.done c.types ks s (I.TestInt r v target) ≡ R.branch s target (Some o) → AreShown c.types s.store (at ks) (word_at s.running.words) t.running.contents → Follows c f ks s (I.TestInt r v target) t (N.branch t target o)
int_branch c f b ks hs s t r v target true g same is shown = follows c f ks s (I.TestInt r v target) t _ (s.running.at + 1) s.running.words ks t.running.contents is (goes_on c f b ks hs s (I.TestInt r v target) ks g refl) (on_is s t t.running.contents same) shown
int_branch c f b ks hs s t r v target false g same is shown = follows c f ks s (I.TestInt r v target) t _ target s.running.words ks t.running.contents is (jumps c f b ks hs s (I.TestInt r v target) target ks g (refl, refl)) refl shown

-- the value of a register that is an int
scalar_value : (tb : Table) (s : Store) (k : Kind) (w : ℕ) (v : Value) → is_scalar_of 0 k ≡ true → Shows tb s (type_in k) w v → (v ≡ Int (int_of w)) × FitsSigned w64 (int_of w)
scalar_value tb s k w v e i = int_value tb s w v (subst (λ k. Shows tb s (type_in k) w v) (scalar_of 0 k e) i)

pub test_int_follows : (c : PlainCode) (f : PlainFunction) (b : List Placed) (ks : List Kind) (hs : ℕ → Holding) (s : State) (code : PlainCode) (t : U.State) (r : ℕ) (v : ℤ) (target : ℕ) → IsReady c f b ks hs s (I.TestInt r v target) → s.running.at ≡ t.running.at → AreShown c.types s.store (at ks) (word_at s.running.words) t.running.contents → Follows c f ks s (I.TestInt r v target) t (N.act code t (I.TestInt r v target))
test_int_follows c f b ks hs s code t r v target g same shown =
    let a = both (nat_lt r f.registers) _ g.ranged in
    let wide = g.wide in
    let long = g.long in
    let source = below r f.registers a.0 in
    let ws : List ℕ = s.running.words in
    let i = scalar_value c.types s.store (at ks r) (word_at ws r) (t.running.contents r) g.sources (shown.each r) in
    subst (λ u. Follows c f ks s (I.TestInt r v target) t (N.branch t target (N.is_int v u))) (sym i.0)
    (int_branch c f b ks hs s t r v target (same_int (int_of (word_at ws r)) v) g same
    (ap (λ o. R.branch s target (option_map (λ w. same_int (int_of w) v) o)) (word_get ws r (omega arith))) shown)

-- ---- Arith

-- it is done, or has no value on both sides
abbrev pub FollowsOrTraps : PlainCode → PlainFunction → List Kind → State → Operator → ℕ → ℕ → ℕ → ℕ → Instr → U.State → U.Next → Type 0
FollowsOrTraps c f ks s o x y line col i t n = ((R.trap (R.operated s o x y) ≡ None) × Follows c f ks s i t n) ⊎ ((kind : TrapKind) × (R.trap (R.operated s o x y) ≡ Some kind) × (n ≡ U.Trapped kind line col))

calculated_follows : (c : PlainCode) (f : PlainFunction) (b : List Placed) (ks : List Kind) (hs : ℕ → Holding) (s : State) (t : U.State) (d : ℕ) (o : Operator) (x y line col : ℕ) (r : Operated) → IsReady c f b ks hs s (I.Arith d o x y line col) → s.running.at ≡ t.running.at → R.operated s o x y ≡ Some r → GivesValue c.types s.store (result_type o) r → AreShown c.types s.store (at ks) (word_at s.running.words) t.running.contents → FollowsOrTraps c f ks s o x y line col (I.Arith d o x y line col) t (N.calculated t d line col r)
calculated_follows c f b ks hs s t d o x y line col (Fails kind) g same is v shown = inr (kind, ap R.trap is, refl)
calculated_follows c f b ks hs s t d o x y line col (Is v) g same is given shown =
    let a = both (nat_lt d f.registers) _ g.ranged in
    let wide = g.wide in
    let within = below d f.registers a.0 in
    inl (ap R.trap is, writes_follow c f b ks ks hs s (I.Arith d o x y line col) t _ d (scalar_word v) (Scalar (result_type o)) v g same (ap (R.calculated s d) is) refl refl (omega arith) refl shown given)

pub arith_follows : (c : PlainCode) (f : PlainFunction) (b : List Placed) (ks : List Kind) (hs : ℕ → Holding) (s : State) (code : PlainCode) (t : U.State) (d : ℕ) (o : Operator) (x y line col : ℕ) → IsReady c f b ks hs s (I.Arith d o x y line col) → s.running.at ≡ t.running.at → AreShown c.types s.store (at ks) (word_at s.running.words) t.running.contents → FollowsOrTraps c f ks s o x y line col (I.Arith d o x y line col) t (N.act code t (I.Arith d o x y line col))
arith_follows c f b ks hs s code t d o x y line col g same shown =
    let a = both (nat_lt d f.registers) (nat_lt x f.registers && nat_lt y f.registers) g.ranged in
    let e = both (nat_lt x f.registers) (nat_lt y f.registers) a.1 in
    let k = both (is_scalar_of 0 (at ks x)) (is_scalar_of 0 (at ks y)) g.sources in
    let wide = g.wide in
    let long = g.long in
    let left = below x f.registers e.0 in
    let right = below y f.registers e.1 in
    let ws : List ℕ = s.running.words in
    let v : ℕ = word_at ws x in
    let w : ℕ = word_at ws y in
    let i = scalar_value c.types s.store (at ks x) v (t.running.contents x) k.0 (shown.each x) in
    let j = scalar_value c.types s.store (at ks y) w (t.running.contents y) k.1 (shown.each y) in
    let is : R.operated s o x y ≡ Some (operate o (int_of v) (int_of w)) =
    ap (λ z. option_and_then (λ v. option_map (λ w. operate o (int_of v) (int_of w)) (slice_get ws y)) z) (word_get ws x (omega arith))
    ∙ ap (λ z. option_map (λ w. operate o (int_of v) (int_of w)) z) (word_get ws y (omega arith)) in
    subst (FollowsOrTraps c f ks s o x y line col (I.Arith d o x y line col) t) (sym (ap₂ (λ u z. N.operated t d o line col u z) i.0 j.0))
    (calculated_follows c f b ks hs s t d o x y line col (operate o (int_of v) (int_of w)) g same is (operate_value c.types s.store g.truths o (int_of v) (int_of w) j.1) shown)
