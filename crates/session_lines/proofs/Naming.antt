-- The entries of a code, one more after another.
use Rattle.std.proofs.Common.{◌≡◌, ◌∙◌, ◌<◌, ◌≤◌, ◌+◌, ℕ, zero, suc, Bool, true, false, List, [], ◌∷◌, ◌++◌, length, Option, Some, None, slice_get, refl, sym, ap, subst, inl, inr, arith}
use Rattle.std.specs.Prelude.{◌⊎◌, ◌||◌, if◌then◌else◌}
use Rattle.std.proofs.lemmas.Option.{none-some, same_Some}
use Rattle.std.proofs.lemmas.Slice.Eq.{bytes_eq-Decides}
use Rattle.code_verify.specs.cell_code.declared.code.Function.{Function}
use Rattle.fip_language.specs.Core.{Name}
use Rattle.fip_language.specs.Declarations.{same_name}
use Rattle.fip_trees.specs.Names.{meaning, names, is_among, with_meaning}
use Rattle.session_lines.specs.Named.{HasName, AreEntries}

-- the entries among the first n functions
pub record AreFirst (functions : List Function) (n : ℕ) (numbers : List (Name × ℕ)) : Type 0 where
  pub there : (name : Name) (k : ℕ) → meaning name numbers ≡ Some k → HasName functions name k
  pub all : (name : Name) (k : ℕ) → k < n → HasName functions name k → meaning name numbers ≡ None → ⊥

pub none_first : (functions : List Function) → AreFirst functions 0 []
none_first functions = record {
  there = λ name k e. absurd (none-some k e);
  all = λ name k lt h e. absurd (omega (arith, lt));
}

put_on : (name new first : Name) (k n : ℕ) (xs : List (Name × ℕ)) → (meaning name xs ≡ None → meaning name (xs ++ (new, k) ∷ []) ≡ (if same_name name new then Some k else None)) → (t : Bool) → same_name name first ≡ t → (if t then Some n else meaning name xs) ≡ None → (if same_name name first then Some n else meaning name (xs ++ (new, k) ∷ [])) ≡ (if same_name name new then Some k else None)
put_on name new first k n xs rest true f g = absurd (none-some n (sym g))
put_on name new first k n xs rest false f g = ap (λ (t : Bool). if t then Some n else meaning name (xs ++ (new, k) ∷ [])) f ∙ rest g

meaning_put : (name new : Name) (k : ℕ) (numbers : List (Name × ℕ)) → meaning name numbers ≡ None → meaning name (numbers ++ (new, k) ∷ []) ≡ (if same_name name new then Some k else None)
meaning_put name new k [] e = refl
meaning_put name new k (x ∷ xs) e = put_on name new x.0 k x.1 xs (meaning_put name new k xs) (same_name name x.0) refl e

kept_on : (name new first : Name) (k n m : ℕ) (xs : List (Name × ℕ)) → (meaning name xs ≡ Some m → meaning name (xs ++ (new, k) ∷ []) ≡ Some m) → (t : Bool) → same_name name first ≡ t → (if t then Some n else meaning name xs) ≡ Some m → (if same_name name first then Some n else meaning name (xs ++ (new, k) ∷ [])) ≡ Some m
kept_on name new first k n m xs rest true f g = ap (λ (t : Bool). if t then Some n else meaning name (xs ++ (new, k) ∷ [])) f ∙ g
kept_on name new first k n m xs rest false f g = ap (λ (t : Bool). if t then Some n else meaning name (xs ++ (new, k) ∷ [])) f ∙ rest g

meaning_kept : (name new : Name) (k m : ℕ) (numbers : List (Name × ℕ)) → meaning name numbers ≡ Some m → meaning name (numbers ++ (new, k) ∷ []) ≡ Some m
meaning_kept name new k m [] e = absurd (none-some m e)
meaning_kept name new k m (x ∷ xs) e = kept_on name new x.0 k x.1 m xs (meaning_kept name new k m xs) (same_name name x.0) refl e

some_or_none : (o : Option ℕ) → ((m : ℕ) × (o ≡ Some m)) ⊎ (o ≡ None)
some_or_none None = inr refl
some_or_none (Some m) = inl (m, refl)

among_on : (name first : Name) (n : ℕ) (xs : List (Name × ℕ)) → (is_among name (names xs) ≡ true → meaning name xs ≡ None → ⊥) → (t : Bool) → (t || is_among name (names xs)) ≡ true → (if t then Some n else meaning name xs) ≡ None → ⊥
among_on name first n xs rest true h k = none-some n (sym k)
among_on name first n xs rest false h k = rest h k

among_is : (name : Name) (numbers : List (Name × ℕ)) → is_among name (names numbers) ≡ true → meaning name numbers ≡ None → ⊥
among_is name [] e f = absurd cc
among_is name (x ∷ xs) e f = among_on name x.0 x.1 xs (among_is name xs) (same_name name x.0) e f

module _ (functions : List Function) (n : ℕ) (f : Function) (numbers : List (Name × ℕ)) (at : slice_get functions n ≡ Some f) (first : AreFirst functions n numbers) where
  -- function n has the name that is asked for
  is_last : (name : Name) (k : ℕ) → k < n + 1 → HasName functions name k → (k < n) ⊎ (f.name ≡ name)
  is_last name k lt h = elim (less_or_same k n lt) as (λ v. (k < n) ⊎ (f.name ≡ name)) [
    | inl less ↦ inl less
    | inr same ↦
        let there : slice_get functions n ≡ Some h.function = ap (slice_get functions) (sym same) ∙ h.there in
        let own : f ≡ h.function = same_Some f h.function (sym at ∙ there) in
        inr (ap (λ (g : Function). g.name) own ∙ h.named)
  ]
    where
      less_or_same : (k n : ℕ) → k < n + 1 → (k < n) ⊎ (k ≡ n)
      less_or_same zero zero lt = inr refl
      less_or_same zero (suc n) lt = inl (omega arith)
      less_or_same (suc k) zero lt = absurd (omega (arith, lt))
      less_or_same (suc k) (suc n) lt = elim (less_or_same k n (omega (arith, lt))) as (λ v. (suc k < suc n) ⊎ (suc k ≡ suc n)) [
        | inl less ↦ inl (omega (arith, less))
        | inr same ↦ inr (ap suc same)
      ]

  put : (0 < length f.name) → (t : Bool) → is_among f.name (names numbers) ≡ t → AreFirst functions (n + 1) (if t then numbers else numbers ++ (f.name, n) ∷ [])
  put some true e = record {
    there = first.there;
    all = λ name k lt h none. elim (is_last name k lt h) as (λ v. ⊥) [
      | inl less ↦ first.all name k less h none
      | inr own ↦ among_is f.name numbers e (ap (λ m. meaning m numbers) own ∙ none)
    ];
  }
  put some false e = record { there = there; all = all }
    where
      new : List (Name × ℕ)
      new = numbers ++ (f.name, n) ∷ []

      there_by : (name : Name) (k : ℕ) → ((m : ℕ) × (meaning name numbers ≡ Some m)) ⊎ (meaning name numbers ≡ None) → meaning name new ≡ Some k → HasName functions name k
      there_by name k (inl old) h =
          let same : old.0 ≡ k = same_Some old.0 k (sym (meaning_kept name f.name n old.0 numbers old.1) ∙ h) in
          first.there name k (old.1 ∙ ap (λ m. Some m) same)
      there_by name k (inr none) h = by (same_name name f.name) refl (sym (meaning_put name f.name n numbers none) ∙ h)
        where
          by : (t : Bool) → same_name name f.name ≡ t → (if t then Some n else None) ≡ Some k → HasName functions name k
          by true g x =
              let named : name ≡ f.name = (bytes_eq-Decides name f.name).0 g in
              record { function = f; there = ap (slice_get functions) (sym (same_Some n k x)) ∙ at; named = sym named; some = subst (λ m. 0 < length m) (sym named) some }
          by false g x = absurd (none-some k x)

      there : (name : Name) (k : ℕ) → meaning name new ≡ Some k → HasName functions name k
      there name k h = there_by name k (some_or_none (meaning name numbers)) h

      all_by : (name : Name) (k : ℕ) → k < n + 1 → HasName functions name k → ((m : ℕ) × (meaning name numbers ≡ Some m)) ⊎ (meaning name numbers ≡ None) → meaning name new ≡ None → ⊥
      all_by name k lt h (inl old) none = none-some old.0 (sym none ∙ meaning_kept name f.name n old.0 numbers old.1)
      all_by name k lt h (inr old) none = elim (is_last name k lt h) as (λ v. ⊥) [
        | inl less ↦ first.all name k less h old
        | inr own ↦ none-some n (sym none ∙ meaning_put name f.name n numbers old ∙ ap (λ (t : Bool). if t then Some n else None) ((bytes_eq-Decides name f.name).1 (sym own)))
      ]

      all : (name : Name) (k : ℕ) → k < n + 1 → HasName functions name k → meaning name new ≡ None → ⊥
      all name k lt h none = all_by name k lt h (some_or_none (meaning name numbers)) none

  -- its name is put to the others
  pub first_more : (0 < length f.name) → (new : List (Name × ℕ)) → new ≡ with_meaning numbers f.name n → AreFirst functions (n + 1) new
  first_more some new e = subst (AreFirst functions (n + 1)) (sym e) (put some (is_among f.name (names numbers)) refl)

  -- it has no name
  pub first_same : length f.name ≡ 0 → AreFirst functions (n + 1) numbers
  first_same none = record {
    there = first.there;
    all = λ name k lt h x. elim (is_last name k lt h) as (λ v. ⊥) [
      | inl less ↦ first.all name k less h x
      | inr own ↦ let some = h.some in let e = ap length own in absurd (omega (arith, some, e, none))
    ];
  }

  pub step_on : (name : Name) (new : List (Name × ℕ)) → name ≡ f.name → (0 < length name → new ≡ with_meaning numbers name n) → (length name ≡ 0 → new ≡ numbers) → AreFirst functions (n + 1) new
  step_on name new same named nameless = by (length f.name) refl
    where
      by : (m : ℕ) → length f.name ≡ m → AreFirst functions (n + 1) new
      by zero e = subst (AreFirst functions (n + 1)) (sym (nameless (ap length same ∙ e))) (first_same e)
      by (suc m) e =
          let some : 0 < length f.name = omega (arith, e) in
          first_more some new (named (subst (λ x. 0 < length x) (sym same) some) ∙ ap (λ x. with_meaning numbers x n) same)

within : (functions : List Function) (k : ℕ) (f : Function) → slice_get functions k ≡ Some f → k < length functions
within [] k f e = absurd (none-some f e)
within (x ∷ functions) zero f e = omega arith
within (x ∷ functions) (suc k) f e = let r = within functions k f e in omega (arith, r)

-- all functions
pub all_first : (functions : List Function) (n : ℕ) (numbers : List (Name × ℕ)) → length functions ≤ n → AreFirst functions n numbers → AreEntries functions numbers
all_first functions n numbers le first = record {
  there = first.there;
  all = λ name k h none. let w = within functions k h.function h.there in first.all name k (omega (arith, w, le)) h none;
}
