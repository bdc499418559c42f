-- Names of a list that count are apart where the test along the list says so.
use Rattle.std.proofs.Common.{◌≡◌, ℕ, zero, suc, Bool, true, false, ◌&&◌, ◌||◌, not, List, [], ◌∷◌, cond, Some, slice_get, if◌then◌else◌, refl, sym, ap, ◌∙◌, true≢false, arith}
use Rattle.std.proofs.lemmas.Bool.{and_parts, and_from, or_parts, or_from, not-true, not_from_false, false_from_ne_true}
use Rattle.std.proofs.lemmas.Option.{same_Some, none-some}
use Rattle.std.specs.Str.{bytes_eq}
use Rattle.std.proofs.lemmas.Slice.Eq.{bytes_eq-Decides}
use Rattle.std.specs.Cmp.Lexicographic.{slice_cmp}
use Rattle.std.specs.Ordering.{nat_cmp}
use Rattle.std.specs.BTreeSet as sorted
use Rattle.std.proofs.lemmas.Map.Text.{is_eq-slice_cmp}
use denote.Ref.{Bor}
use Rattle.code_tables.specs.Apart.{also_met, apart, met_in}

-- No name that counts was met, and none occurs twice.
pub record AreApart (counts met : List ℕ → Bool) (ns : List (List ℕ)) : Type 0 where
  pub new : (i : ℕ) (n : List ℕ) → slice_get ns i ≡ Some n → counts n ≡ true → met n ≡ false
  pub once : (i j : ℕ) (n : List ℕ) → slice_get ns i ≡ Some n → slice_get ns j ≡ Some n → counts n ≡ true → i ≡ j

same_bytes : (a b : List ℕ) → a ≡ b → bytes_eq a b ≡ true
same_bytes a b e = (bytes_eq-Decides a b).1 e

-- a name that counts, before others
first_counts : (counts met : List ℕ → Bool) (m : List ℕ) (ns : List (List ℕ)) → met m ≡ false → AreApart counts (also_met met m) ns → AreApart counts met (m ∷ ns)
first_counts counts met m ns e a = record { new = new; once = once }
  where
    new : (i : ℕ) (n : List ℕ) → slice_get (m ∷ ns) i ≡ Some n → counts n ≡ true → met n ≡ false
    new zero n h c = ap met (sym (same_Some m n h)) ∙ e
    new (suc i) n h c = (or_parts (bytes_eq m n) (met n) (a.new i n h c)).1

    twice : (j : ℕ) (n : List ℕ) → m ≡ n → slice_get ns j ≡ Some n → counts n ≡ true → ⊥
    twice j n h g c = true≢false (sym (same_bytes m n h) ∙ (or_parts (bytes_eq m n) (met n) (a.new j n g c)).0)

    once : (i j : ℕ) (n : List ℕ) → slice_get (m ∷ ns) i ≡ Some n → slice_get (m ∷ ns) j ≡ Some n → counts n ≡ true → i ≡ j
    once zero zero n h g c = refl
    once zero (suc j) n h g c = absurd (twice j n (same_Some m n h) g c)
    once (suc i) zero n h g c = absurd (twice i n (same_Some m n g) h c)
    once (suc i) (suc j) n h g c = ap suc (a.once i j n h g c)

-- a name that doesn't count, before others
first_passes : (counts met : List ℕ → Bool) (m : List ℕ) (ns : List (List ℕ)) → counts m ≡ false → AreApart counts met ns → AreApart counts met (m ∷ ns)
first_passes counts met m ns e a = record { new = new; once = once }
  where
    not_first : (n : List ℕ) → m ≡ n → counts n ≡ true → ⊥
    not_first n h c = true≢false (sym c ∙ (ap counts (sym h) ∙ e))

    new : (i : ℕ) (n : List ℕ) → slice_get (m ∷ ns) i ≡ Some n → counts n ≡ true → met n ≡ false
    new zero n h c = absurd (not_first n (same_Some m n h) c)
    new (suc i) n h c = a.new i n h c

    once : (i j : ℕ) (n : List ℕ) → slice_get (m ∷ ns) i ≡ Some n → slice_get (m ∷ ns) j ≡ Some n → counts n ≡ true → i ≡ j
    once zero j n h g c = absurd (not_first n (same_Some m n h) c)
    once (suc i) zero n h g c = absurd (not_first n (same_Some m n g) c)
    once (suc i) (suc j) n h g c = ap suc (a.once i j n h g c)

pub apart_reports : (counts met : List ℕ → Bool) (ns : List (List ℕ)) → apart counts met ns ≡ true → AreApart counts met ns
apart_reports counts met [] e = record { new = λ i n h c. absurd (none-some n h); once = λ i j n h g c. absurd (none-some n h) }
apart_reports counts met (m ∷ ns) e = at (counts m) refl (λ f. apart_reports counts (also_met met m) ns f) (λ f. apart_reports counts met ns f) e
  where
    at : (b : Bool) → counts m ≡ b → (apart counts (also_met met m) ns ≡ true → AreApart counts (also_met met m) ns) → (apart counts met ns ≡ true → AreApart counts met ns) → (if b then (not (met m) && apart counts (also_met met m) ns) else apart counts met ns) ≡ true → AreApart counts met (m ∷ ns)
    at true h next rest f = (let p = and_parts (not (met m)) (apart counts (also_met met m) ns) f in first_counts counts met m ns (not-true (met m) p.0) (next p.1))
    at false h next rest f = first_passes counts met m ns h (rest f)

rest_apart : (counts met : List ℕ → Bool) (m : List ℕ) (ns : List (List ℕ)) → AreApart counts met (m ∷ ns) → AreApart counts met ns
rest_apart counts met m ns a = record { new = λ i n h c. a.new (suc i) n h c; once = λ i j n h g c. before i j (a.once (suc i) (suc j) n h g c) }
  where
    before : (i j : ℕ) → suc i ≡ suc j → i ≡ j
    before i j e = cc

rest_counts : (counts met : List ℕ → Bool) (m : List ℕ) (ns : List (List ℕ)) → counts m ≡ true → AreApart counts met (m ∷ ns) → AreApart counts (also_met met m) ns
rest_counts counts met m ns e a = (let r = rest_apart counts met m ns a in record { new = λ i n h c. or_from _ _ (false_from_ne_true _ (λ q. other i n h c q)) (r.new i n h c); once = r.once })
  where
    other : (i : ℕ) (n : List ℕ) → slice_get ns i ≡ Some n → counts n ≡ true → bytes_eq m n ≡ true → ⊥
    other i n h c q = zero-suc i (a.once zero (suc i) n (ap Some ((bytes_eq-Decides m n).0 q)) h c)
      where
        zero-suc : (i : ℕ) → zero ≡ suc i → ⊥
        zero-suc i e = omega (arith, e)

pub apart_from : (counts met : List ℕ → Bool) (ns : List (List ℕ)) → AreApart counts met ns → apart counts met ns ≡ true
apart_from counts met [] a = refl
apart_from counts met (m ∷ ns) a = at (counts m) refl (λ b. apart_from counts (also_met met m) ns b) (λ b. apart_from counts met ns b)
  where
    at : (b : Bool) → counts m ≡ b → (AreApart counts (also_met met m) ns → apart counts (also_met met m) ns ≡ true) → (AreApart counts met ns → apart counts met ns ≡ true) → (if b then (not (met m) && apart counts (also_met met m) ns) else apart counts met ns) ≡ true
    at true h next rest = and_from _ _ (not_from_false (met m) (a.new zero m refl h)) (next (rest_counts counts met m ns h a))
    at false h next rest = rest (rest_apart counts met m ns a)

cond_or : (a b : Bool) → cond a true b ≡ (a || b)
cond_or true b = refl
cond_or false b = refl

-- what a set has after an insertion
pub met_after : (bs : List ℕ) (s n : sorted.BTreeSet (Bor (List ℕ))) → sorted.UpdatesBy (λ x y. slice_cmp nat_cmp x.now y.now) (λ k. slice_cmp nat_cmp bs k.now) s n true → (cs : List ℕ) → met_in n cs ≡ also_met (met_in s) bs cs
met_after bs s n u cs =
    u.0 (record { ref_ptr = (0, 0); now = cs })
    ∙ ap (λ t. cond t true (met_in s cs)) (is_eq-slice_cmp bs cs)
    ∙ cond_or (bytes_eq bs cs) (met_in s cs)
