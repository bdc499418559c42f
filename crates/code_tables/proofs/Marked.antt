-- Marks: a marked type has a value, and where the marks are closed no other has one.
use Rattle.std.proofs.Common.{◌≡◌, ◌⊎◌, inl, inr, ℕ, zero, suc, ◌<◌, Bool, true, false, ◌||◌, List, [], ◌∷◌, length, Some, slice_get, set, replicate, refl, sym, ap, ◌∙◌, subst, true≢false, arith}
use Rattle.std.proofs.lemmas.Bool.{and_parts, and_from, or_left, or_right, false≢true}
use Rattle.std.proofs.lemmas.Option.{same_Some, none-some}
use Rattle.std.proofs.lemmas.List.{length-set}
use Rattle.std.specs.Prelude.{pos}
use Rattle.std.specs.Int.{w64}
use Rattle.std.proofs.lemmas.Int.{SFits-int_wrap}
use Rattle.fip_language.specs.Table.{Table, Shape, shapes, constructors, HasType, HaveTypes}
use Rattle.fip_language.specs.Values.{Value, Int, Node, Values, End, More}
use Rattle.code_tables.specs.Marks.{is_marked, all_marked, has_marked, all_true, unmarked, HasValue, AreMarks, IsClosed, HaveValues, IsFieldsOf}
use Rattle.fip_language.proofs.Facts.{replicate_length as length_of_all}

marked_after : (marks : List Bool) (t u : ℕ) → is_marked (set marks t true) u ≡ true → (u ≡ t) ⊎ (is_marked marks u ≡ true)
marked_after [] t u e = inr e
marked_after (b ∷ bs) zero zero e = inl refl
marked_after (b ∷ bs) zero (suc u) e = inr e
marked_after (b ∷ bs) (suc t) zero e = inr e
marked_after (b ∷ bs) (suc t) (suc u) e = next (marked_after bs t u e)
  where
    next : (u ≡ t) ⊎ (is_marked bs u ≡ true) → (suc u ≡ suc t) ⊎ (is_marked bs u ≡ true)
    next (inl h) = inl (ap suc h)
    next (inr h) = inr h

values_of : (w : Table) (marks : List Bool) → ((t : ℕ) → is_marked marks t ≡ true → HasValue w t) → (fs : List ℕ) → all_marked marks fs ≡ true → (vs : Values) × HaveTypes w fs vs
values_of w marks h [] e = (End, tt)
values_of w marks h (t ∷ ts) e =
    let p = and_parts (is_marked marks t) (all_marked marks ts) e in
    let v = h t p.0 in
    let vs = values_of w marks h ts p.1 in
    (More v.0 vs.0, (v.1, vs.1))

-- a type with a constructor whose fields are all marked has a value
pub value_by : (w : Table) (marks : List Bool) → AreMarks w marks → (t k : ℕ) (fs : List ℕ) → IsFieldsOf w t k fs → all_marked marks fs ≡ true → HasValue w t
value_by w marks m zero k fs f e = absurd (none-some f.0 f.1)
value_by w marks m (suc t) k fs f e =
    let vs = values_of w marks m.valued f.0.fields (ap (all_marked marks) (sym f.2) ∙ e) in
    (Node k vs.0, (f.0, f.1, vs.1))

still_marked : (marks : List Bool) (t : ℕ) → is_marked marks 0 ≡ true → is_marked (set marks t true) 0 ≡ true
still_marked [] t e = e
still_marked (b ∷ bs) zero e = refl
still_marked (b ∷ bs) (suc t) e = e

-- a type that has a value is marked
pub marked : (w : Table) (marks : List Bool) (t : ℕ) → AreMarks w marks → HasValue w t → AreMarks w (set marks t true)
marked w marks t m v = record {
  size = length-set marks t true ∙ m.size;
  int = still_marked marks t m.int;
  valued = λ u e. valued u (marked_after marks t u e);
}
  where
    valued : (u : ℕ) → (u ≡ t) ⊎ (is_marked marks u ≡ true) → HasValue w u
    valued u (inl h) = subst (HasValue w) (sym h) v
    valued u (inr h) = m.valued u h

pub fewer : (marks : List Bool) (t : ℕ) → is_marked marks t ≡ false → t < length marks → unmarked (set marks t true) < unmarked marks
fewer [] t e h = absurd (omega (arith, h))
fewer (true ∷ bs) zero e h = absurd (true≢false e)
fewer (false ∷ bs) zero e h = omega arith
fewer (b ∷ bs) (suc t) e h = (let n = fewer bs t e (omega (arith, h)) in omega (arith, n))

-- the constructor whose fields are all marked
pub found_shape : (marks : List Bool) (ss : List Shape) → has_marked marks ss ≡ true → (k : ℕ) × (s : Shape) × (slice_get ss k ≡ Some s) × (all_marked marks s.fields ≡ true)
found_shape marks [] e = absurd (false≢true e)
found_shape marks (s ∷ ss) e = at (all_marked marks s.fields) refl (λ f. found_shape marks ss f) e
  where
    at : (b : Bool) → all_marked marks s.fields ≡ b → (has_marked marks ss ≡ true → (k : ℕ) × (r : Shape) × (slice_get ss k ≡ Some r) × (all_marked marks r.fields ≡ true)) → (b || has_marked marks ss) ≡ true → (k : ℕ) × (r : Shape) × (slice_get (s ∷ ss) k ≡ Some r) × (all_marked marks r.fields ≡ true)
    at true h g f = (zero, s, refl, h)
    at false h g f = (let r = g f in (suc r.0, r.1, r.2, r.3))

pub value_of_row : (w : Table) (marks : List Bool) (t : ℕ) → AreMarks w marks → has_marked marks (constructors w t) ≡ true → HasValue w t
value_of_row w marks t m e =
    let r = found_shape marks (constructors w t) e in
    value_by w marks m t r.0 r.1.fields (r.1, r.2, refl) r.3

row_marked : (marks : List Bool) (ss : List Shape) (k : ℕ) (s : Shape) → slice_get ss k ≡ Some s → all_marked marks s.fields ≡ true → has_marked marks ss ≡ true
row_marked marks [] k s e h = absurd (none-some s e)
row_marked marks (r ∷ ss) zero s e h = or_left _ _ (ap (λ q. all_marked marks q.fields) (same_Some r s e) ∙ h)
row_marked marks (r ∷ ss) (suc k) s e h = or_right (all_marked marks r.fields) _ (row_marked marks ss k s e h)

shapes_within : (w : Table) (t k : ℕ) (s : Shape) → slice_get (shapes w t) k ≡ Some s → t < length w
shapes_within [] t k s e = absurd (none-some s e)
shapes_within (row ∷ w) zero k s e = omega arith
shapes_within (row ∷ w) (suc t) k s e = (let h = shapes_within w t k s e in omega (arith, h))

mutual
  marked_by : (w : Table) (marks : List Bool) → AreMarks w marks → IsClosed w marks → (v : Value) (t : ℕ) → HasType w t v → is_marked marks t ≡ true
  marked_by w marks m c (Int i) zero h = m.int
  marked_by w marks m c (Int i) (suc t) h = absurd h
  marked_by w marks m c (Node k vs) zero h = absurd h
  marked_by w marks m c (Node k vs) (suc t) h =
      let l : t < length w = shapes_within w t k h.0 h.1 in
      c (suc t) (omega arith) (omega (arith, l)) (row_marked marks (shapes w t) k h.0 h.1 (all_marked_by w marks m c vs h.0.fields h.2))

  all_marked_by : (w : Table) (marks : List Bool) → AreMarks w marks → IsClosed w marks → (vs : Values) (ts : List ℕ) → HaveTypes w ts vs → all_marked marks ts ≡ true
  all_marked_by w marks m c vs [] h = refl
  all_marked_by w marks m c End (t ∷ ts) h = absurd h
  all_marked_by w marks m c (More v vs) (t ∷ ts) h = and_from _ _ (marked_by w marks m c v t h.0) (all_marked_by w marks m c vs ts h.1)

at_all : (marks : List Bool) (t : ℕ) → all_true marks ≡ true → t < length marks → is_marked marks t ≡ true
at_all [] t e h = absurd (omega (arith, h))
at_all (b ∷ bs) zero e h = (and_parts b (all_true bs) e).0
at_all (b ∷ bs) (suc t) e h = at_all bs t (and_parts b (all_true bs) e).1 (omega (arith, h))

all_from : (marks : List Bool) → ((t : ℕ) → t < length marks → is_marked marks t ≡ true) → all_true marks ≡ true
all_from [] h = refl
all_from (b ∷ bs) h = and_from _ _ (h 0 (omega arith)) (all_from bs (λ t l. h (suc t) (omega (arith, l))))

pub all_have : (w : Table) (marks : List Bool) → AreMarks w marks → all_true marks ≡ true → HaveValues w
all_have w marks m e t low high = (let s = m.size in m.valued t (at_all marks t e (omega (arith, s, high))))

pub have_all : (w : Table) (marks : List Bool) → AreMarks w marks → IsClosed w marks → HaveValues w → all_true marks ≡ true
have_all w marks m c h = all_from marks (λ t l. at t l)
  where
    at : (t : ℕ) → t < length marks → is_marked marks t ≡ true
    at zero l = m.int
    at (suc t) l =
        let s = m.size in
        let v = h (suc t) (omega arith) (omega (arith, s, l)) in
        marked_by w marks m c v.0 (suc t) v.1

-- at first int alone is marked
none_marked : (n t : ℕ) → is_marked (replicate n false) t ≡ true → ⊥
none_marked zero t e = false≢true e
none_marked (suc n) zero e = false≢true e
none_marked (suc n) (suc t) e = none_marked n t e

pub first_marks : (w : Table) (n : ℕ) → n ≡ length w → AreMarks w (true ∷ replicate n false)
first_marks w n e = record {
  size = ap suc (length_of_all n ∙ e);
  int = refl;
  valued = λ t h. valued t h;
}
  where
    valued : (t : ℕ) → is_marked (true ∷ replicate n false) t ≡ true → HasValue w t
    valued zero h = (Int _, SFits-int_wrap w64 (pos 0))
    valued (suc t) h = absurd (none_marked n t h)
