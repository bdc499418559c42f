-- The semantics of instructions that change no cell: Const, Atom, Move, Arith, TestInt, Jump.
use Rattle.std.proofs.Common.{◌≡◌, inl, inr, ℕ, zero, suc, ◌+◌, ◌<◌, Bool, true, false, not, List, [], ◌∷◌, length, Option, Some, None, slice_get, slice_set, refl, sym, ap, ◌∙◌, subst, arith, nat_lt, ◌==◌}
use Rattle.std.specs.Prelude.{ℤ, option_and_then, option_map}
use Rattle.std.proofs.lemmas.Option.{none-some}
use Rattle.separation_kinds.specs.fip_language.Table.{Table, Shape, shapes}
use Rattle.separation_kinds.specs.fip_language.Store.{Placed, PlacedInt, Bare, int_word}
use Rattle.separation_kinds.specs.cell_code.declared.code.Instr.{Instr}
use Rattle.separation_kinds.specs.cell_code.declared.code.Instr.TheVariants as I
use Rattle.separation_kinds.specs.cell_code.declared.kind.Kind.{Kind}
use Rattle.separation_kinds.specs.cell_code.declared.kind.Kind.TheVariants.{Gone, Scalar, Owned, Lent, Credit}
use Rattle.separation_kinds.specs.fip_language.Matching.{same_int}
use Rattle.separation_kinds.specs.machine_semantics.Words.{atom_word, int_of}
use Rattle.separation_kinds.specs.machine_semantics.Cells.{Store}
use Rattle.separation_kinds.specs.machine_semantics.Trees.{Stands}
use Rattle.separation_kinds.specs.machine_semantics.States.{State}
use Rattle.separation_kinds.specs.machine_semantics.Rows as R
use Rattle.separation_kinds.specs.machine_semantics.Apart.{Holding, Tree, owned_uses}
use Rattle.separation_kinds.specs.cell_code.Plain.{PlainFunction, PlainCode}
use Rattle.separation_kinds.specs.code_rules.Types.{is_scalar_type, fields, fields_of, count}
use Rattle.separation_kinds.specs.code_rules.Kinds.{at, is_free, is_owned, is_credit}
use Rattle.separation_kinds.specs.code_rules.Ranges.{is_constructor}
use Rattle.separation_kinds.specs.code_rules.Changes.{written, forget, goes, moved, moved_by}
use Rattle.separation_kinds.specs.code_rules.Leaves.{Leaves, Jumps, atom_kind}
use Rattle.separation_kinds.specs.code_rules.Flow.{is_as_asked, GoesTo}
use Rattle.separation_kinds.specs.Meanings.{Means, AreMeant, owned_by, word_at}
use Rattle.separation_kinds.proofs.Basics.{pick, both, equal, unequal, below, refuted, length_become}
use Rattle.separation_kinds.proofs.KindLemmas.{put, dropped, at_used_up, free_uses, free_forget}
use Rattle.separation_kinds.proofs.Changing.{written_meant, count_written, free_not_owned, used_up_meant, count_used_up, gone_meant, count_gone, credit_not_owned}
use Rattle.separation_kinds.proofs.Shapes.{contains_here}
use Rattle.separation_kinds.proofs.Words.{word_get, set_length, set_word, writes}
use Rattle.separation_kinds.proofs.Receiving.{reword, free_written}
use Rattle.separation_kinds.proofs.Passing.{credit_within}
use Rattle.separation.specs.Rows.{IsReady, IsDone}

pub asked : (c : PlainCode) (f : PlainFunction) (b : List Placed) (ks : List Kind) (hs : ℕ → Holding) (s : State) (x : Instr) → IsReady c f b ks hs s x → is_as_asked c f s.running.at ks x ≡ true
asked c f b ks hs s x r = rw (r.ranged, r.sources) r.destinations

-- the next instruction
pub goes_on : (c : PlainCode) (f : PlainFunction) (b : List Placed) (ks : List Kind) (hs : ℕ → Holding) (s : State) (x : Instr) (left : List Kind) → IsReady c f b ks hs s x → Leaves c ks x left → GoesTo c f s.running.at (s.running.at + 1) left
goes_on c f b ks hs s x left r l = record { kinds = ks; instr = x; reached = r.reached; asked = asked c f b ks hs s x r; goes = inl (omega arith, l) }

pub jumps : (c : PlainCode) (f : PlainFunction) (b : List Placed) (ks : List Kind) (hs : ℕ → Holding) (s : State) (x : Instr) (target : ℕ) (left : List Kind) → IsReady c f b ks hs s x → Jumps ks x target left → GoesTo c f s.running.at target left
jumps c f b ks hs s x target left r l = record { kinds = ks; instr = x; reached = r.reached; asked = asked c f b ks hs s x r; goes = inr l }

-- no cell changes
pub unchanged : (c : PlainCode) (f : PlainFunction) (b : List Placed) (ks : List Kind) (hs : ℕ → Holding) (s : State) (x : Instr) (to : ℕ) (ws : List ℕ) (left : List Kind) (gs : ℕ → Holding) → IsReady c f b ks hs s x → R.done c.types ks s x ≡ Some (record { at = to; words = ws; changes = [] }) → GoesTo c f s.running.at to left → length left ≡ length ks → length ws ≡ length s.running.words → AreMeant c.types s.store b (at left) (word_at ws) gs → ((q : ℕ) → owned_by q (at left) gs (length ks) ≡ owned_by q (at ks) hs (length ks)) → IsDone c f b ks hs s x
unchanged c f b ks hs s x to ws left gs r is goes wide long meant count = record {
  done = record { at = to; words = ws; changes = [] };
  is = is;
  store = s.store;
  changed = refl;
  left = left;
  goes = goes;
  wide = wide;
  long = long;
  holds = gs;
  meant = meant;
  good = r.store;
  cells = λ q. refl;
  elsewhere = λ q none. refl;
  count = λ q. let e = count q in omega arith;
}

-- one free register gets what owns no cell more, from kinds that own what the new ones own
pub writes_one : (c : PlainCode) (f : PlainFunction) (b : List Placed) (ks mid : List Kind) (hs : ℕ → Holding) (s : State) (x : Instr) (d w : ℕ) (k : Kind) (h : Holding) → IsReady c f b ks hs s x → R.done c.types ks s x ≡ R.on s (R.write s.running.words d w) → Leaves c ks x (written mid d k) → length mid ≡ length ks → d < length ks → is_free (at mid d) ≡ true → AreMeant c.types s.store b (at mid) (word_at s.running.words) hs → Means c.types s.store b (at mid) hs k w h → ((q : ℕ) → owned_by q (at mid) hs (length ks) + owned_uses q k h ≡ owned_by q (at ks) hs (length ks)) → IsDone c f b ks hs s x
writes_one c f b ks mid hs s x d w k h r is leaves wide there free m new count =
    let long = r.long in
    let within : d < length s.running.words = omega arith in
    let inside : d < length mid = omega arith in
    unchanged c f b ks hs s x (s.running.at + 1) (slice_set s.running.words d w) (written mid d k) (put d h hs) r
    (is ∙ ap (R.on s) (writes s.running.words d w within))
    (goes_on c f b ks hs s x (written mid d k) r leaves)
    (length_become mid _ ∙ wide)
    (set_length s.running.words d w)
    (reword c.types s.store b (at (written mid d k)) (put d w (word_at s.running.words)) (word_at (slice_set s.running.words d w)) (put d h hs) (set_word s.running.words d w within)
    (written_meant c.types s.store b mid (word_at s.running.words) hs d k w h inside (free_not_owned (at mid d) free) m new))
    (λ q.
    let e = count_written q mid hs d k h inside in
    let z = free_uses q (at mid d) (hs d) free in
    let u = count q in
    let v = ap (owned_by q (at mid) hs) wide in
    let y = ap (owned_by q (at (written mid d k)) (put d h hs)) wide in
    omega arith)

pub const_row : (c : PlainCode) (f : PlainFunction) (b : List Placed) (ks : List Kind) (hs : ℕ → Holding) (s : State) (d : ℕ) (v : ℤ) → IsReady c f b ks hs s (I.Const d v) → IsDone c f b ks hs s (I.Const d v)
const_row c f b ks hs s d v r =
    let wide = r.wide in
    let within = below d f.registers r.ranged in
    writes_one c f b ks ks hs s (I.Const d v) d (int_word v) (Scalar 0) (Tree (PlacedInt v)) r refl refl refl (omega arith) r.destinations r.meant
    (record { tree = PlacedInt v; holds = refl; is = record { word = refl; stands = r.literal }; bare = λ q. refl })
    (λ q. omega arith)

no_get : {A B : Type 0} (xs : List A) (i : ℕ) → i < length xs → slice_get xs i ≡ None → B
no_get [] i h e = absurd (let z : ⊥ = omega arith in z)
no_get (x ∷ xs) zero h e = absurd (none-some x (sym e))
no_get (x ∷ xs) (suc i) h e = no_get xs i (omega arith) e

empty : (ts : List ℕ) → (length ts == 0) ≡ true → ts ≡ []
empty [] e = refl
empty (t ∷ ts) e = let z = equal (length (t ∷ ts)) 0 e in absurd (let y : ⊥ = omega arith in y)

-- a constructor without fields
pub bare_shape : (tb : Table) (s : Store) (t k : ℕ) → is_constructor tb t k ≡ true → (length (fields tb t k) == 0) ≡ true → Stands tb s t (Bare k)
bare_shape tb s zero k e n = let z = below k 0 e in absurd (let y : ⊥ = omega arith in y)
bare_shape tb s (suc t) k e n = found (slice_get (shapes tb t) k) refl
  where
    found : (o : Option Shape) → slice_get (shapes tb t) k ≡ o → Stands tb s (suc t) (Bare k)
    found None is = no_get (shapes tb t) k (below k (count tb (suc t)) e) is
    found (Some shape) is = (shape, is, empty shape.fields (subst (λ o. (length (fields_of o) == 0) ≡ true) is n))

pub atom_row : (c : PlainCode) (f : PlainFunction) (b : List Placed) (ks : List Kind) (hs : ℕ → Holding) (s : State) (d t k : ℕ) → IsReady c f b ks hs s (I.Atom d t k) → IsDone c f b ks hs s (I.Atom d t k)
atom_row c f b ks hs s d t k r =
    let a = both (nat_lt d f.registers) (is_constructor c.types t k) r.ranged in
    let wide = r.wide in
    let within = below d f.registers a.0 in
    let stands = bare_shape c.types s.store t k a.1 r.sources in
    writes_one c f b ks ks hs s (I.Atom d t k) d (atom_word k) (atom_kind c.types t k) (Tree (Bare k)) r refl refl refl (omega arith) r.destinations r.meant
    (pick (λ j. Means c.types s.store b (at ks) hs j (atom_word k) (Tree (Bare k))) (is_scalar_type c.types t) (Scalar t) (Owned t (k ∷ []))
    (λ e. record { tree = Bare k; holds = refl; is = record { word = refl; stands = stands }; bare = λ q. refl })
    (λ e. record { tree = Bare k; holds = refl; is = record { word = refl; stands = stands }; top = contains_here k k [] refl }))
    (λ q. let none : owned_uses q (atom_kind c.types t k) (Tree (Bare k)) ≡ 0 = pick (λ j. owned_uses q j (Tree (Bare k)) ≡ 0) (is_scalar_type c.types t) (Scalar t) (Owned t (k ∷ [])) (λ e. refl) (λ e. refl) in omega arith)

-- ---- Move

-- what is left of the register that gives its word away, and the word's meaning
record IsMoved (tb : Table) (s : Store) (b : List Placed) (ks : List Kind) (ws : ℕ → ℕ) (hs : ℕ → Holding) (r d : ℕ) (mid : List Kind) : Type 0 where
  wide : length mid ≡ length ks
  meant : AreMeant tb s b (at mid) ws hs
  new : Means tb s b (at mid) hs (at ks r) (ws r) (hs r)
  free : is_free (at mid d) ≡ true
  count : (q : ℕ) → owned_by q (at mid) hs (length ks) + owned_uses q (at ks r) (hs r) ≡ owned_by q (at ks) hs (length ks)

free_dropped : (ks : List Kind) (p : ℕ → Bool) (d : ℕ) → is_free (at ks d) ≡ true → is_free (dropped p (at ks) d) ≡ true
free_dropped ks p d e = pick (λ k. is_free k ≡ true) (p d) Gone (forget p (at ks d)) (λ z. refl) (λ z. free_forget p (at ks d) ∙ e)

stays : (tb : Table) (s : Store) (b : List Placed) (ks : List Kind) (ws : ℕ → ℕ) (hs : ℕ → Holding) (r d : ℕ) → is_free (at ks r) ≡ true → is_free (at ks d) ≡ true → AreMeant tb s b (at ks) ws hs → IsMoved tb s b ks ws hs r d ks
stays tb s b ks ws hs r d scalar free m = record {
  wide = refl;
  meant = m;
  new = m.each r;
  free = free;
  count = λ q. let z = free_uses q (at ks r) (hs r) scalar in omega arith;
}

moves : (tb : Table) (s : Store) (b : List Placed) (ks : List Kind) (ws : ℕ → ℕ) (hs : ℕ → Holding) (r d : ℕ) (k : Kind) → at ks r ≡ k → is_free (at ks d) ≡ true → (d ≡ r → ⊥) → AreMeant tb s b (at ks) ws hs → IsMoved tb s b ks ws hs r d (moved_by ks r k)
moves tb s b ks ws hs r d Gone e free off m = stays tb s b ks ws hs r d (ap is_free e) free m
moves tb s b ks ws hs r d (Scalar t) e free off m = stays tb s b ks ws hs r d (ap is_free e) free m
moves tb s b ks ws hs r d (Lent t cs root from) e free off m = stays tb s b ks ws hs r d (ap is_free e) free m
moves tb s b ks ws hs r d (Owned t cs) e free off m =
    let owned : is_owned (at ks r) ≡ true = ap is_owned e in
    record {
      wide = length_become ks _;
      meant = used_up_meant tb s b ks ws hs r m;
      new = rw e (let z : Means tb s b (at ks) hs (Owned t cs) (ws r) (hs r) = subst (λ k. Means tb s b (at ks) hs k (ws r) (hs r)) e (m.each r) in z);
      free = ap is_free (at_used_up ks r d) ∙ free_dropped ks (goes ks r) d free;
      count = λ q. count_used_up q ks hs r owned;
    }
moves tb s b ks ws hs r d (Credit n) e free off m =
    let credit : is_credit (at ks r) ≡ true = ap is_credit e in
    let there = credit_within ks r n e in
    record {
      wide = length_become ks _;
      meant = gone_meant tb s b ks ws hs r there (credit_not_owned (at ks r) credit) m;
      new = rw e (let z : Means tb s b (at ks) hs (Credit n) (ws r) (hs r) = subst (λ k. Means tb s b (at ks) hs k (ws r) (hs r)) e (m.each r) in z);
      free = free_written ks r Gone d there off ∙ free;
      count = λ q. count_gone q ks hs r there;
    }

pub move_row : (c : PlainCode) (f : PlainFunction) (b : List Placed) (ks : List Kind) (hs : ℕ → Holding) (s : State) (d r : ℕ) → IsReady c f b ks hs s (I.Move d r) → IsDone c f b ks hs s (I.Move d r)
move_row c f b ks hs s d r g =
    let a = both (nat_lt d f.registers) (nat_lt r f.registers) g.ranged in
    let e = both (is_free (at ks d)) (not (d == r)) g.destinations in
    let wide = g.wide in
    let long = g.long in
    let within = below d f.registers a.0 in
    let source = below r f.registers a.1 in
    let m = moves c.types s.store b ks (word_at s.running.words) hs r d (at ks r) refl e.0 (unequal d r (refuted (d == r) e.1)) g.meant in
    writes_one c f b ks (moved ks r) hs s (I.Move d r) d (word_at s.running.words r) (at ks r) (hs r) g
    (ap (λ o. R.on s (option_and_then (λ w. R.write s.running.words d w) o)) (word_get s.running.words r (omega arith)))
    refl m.wide (omega arith) m.free m.meant m.new m.count

-- ---- TestInt, Jump

pub jump_row : (c : PlainCode) (f : PlainFunction) (b : List Placed) (ks : List Kind) (hs : ℕ → Holding) (s : State) (target : ℕ) → IsReady c f b ks hs s (I.Jump target) → IsDone c f b ks hs s (I.Jump target)
jump_row c f b ks hs s target r = unchanged c f b ks hs s (I.Jump target) target s.running.words ks hs r refl (jumps c f b ks hs s (I.Jump target) target ks r (refl, refl)) refl refl r.meant (λ q. refl)

int_branch : (c : PlainCode) (f : PlainFunction) (b : List Placed) (ks : List Kind) (hs : ℕ → Holding) (s : State) (r : ℕ) (v : ℤ) (target : ℕ) (o : Bool) → IsReady c f b ks hs s (I.TestInt r v target) → R.done c.types ks s (I.TestInt r v target) ≡ R.branch s target (Some o) → IsDone c f b ks hs s (I.TestInt r v target)
int_branch c f b ks hs s r v target true g is = unchanged c f b ks hs s (I.TestInt r v target) (s.running.at + 1) s.running.words ks hs g is (goes_on c f b ks hs s (I.TestInt r v target) ks g refl) refl refl g.meant (λ q. refl)
int_branch c f b ks hs s r v target false g is = unchanged c f b ks hs s (I.TestInt r v target) target s.running.words ks hs g is (jumps c f b ks hs s (I.TestInt r v target) target ks g (refl, refl)) refl refl g.meant (λ q. refl)

pub test_int_row : (c : PlainCode) (f : PlainFunction) (b : List Placed) (ks : List Kind) (hs : ℕ → Holding) (s : State) (r : ℕ) (v : ℤ) (target : ℕ) → IsReady c f b ks hs s (I.TestInt r v target) → IsDone c f b ks hs s (I.TestInt r v target)
test_int_row c f b ks hs s r v target g =
    let a = both (nat_lt r f.registers) _ g.ranged in
    let wide = g.wide in
    let long = g.long in
    let source = below r f.registers a.0 in
    int_branch c f b ks hs s r v target (same_int (int_of (word_at s.running.words r)) v) g
    (ap (λ o. R.branch s target (option_map (λ w. same_int (int_of w) v) o)) (word_get s.running.words r (omega arith)))
