-- The names of results, one after another: what is free or taken of the rest is so of all.
use Rattle.std.proofs.Common.{◌≡◌, ◌⊎◌, inl, inr, ◌∙◌, ℕ, zero, suc, ◌+◌, ◌<◌, ◌≤◌, List, [], ◌∷◌, ◌++◌, length, map, take, drop, get_or, refl, sym, ap, subst, arith}
use Rattle.std.specs.Borrow.{Bor}
use Rattle.fip_language.specs.Core.{Name}
use Rattle.fip_language.specs.Every.{times}
use Rattle.session_lines.specs.Said.{names_of}
use Rattle.session_lines.specs.session_semantics.Talk.{Holding, IsFree, AreFree, IsTakenName}
use Rattle.fip_session.proofs.Accepting.{none_left}

times_more : (m n : Name) (ns : List Name) (i : ℕ) → i < length ns → drop i ns ≡ n ∷ drop (suc i) ns → times m (take (suc i) ns) ≡ times m (n ∷ []) + times m (take i ns)
times_more m n [] i lt e = absurd (let z : ⊥ = omega (arith, lt) in z)
times_more m n (k ∷ ns) zero lt e = let same : k ≡ n = cc in let t = ap (λ x. times m (x ∷ [])) same in omega (arith, t)
times_more m n (k ∷ ns) (suc i) lt e = let r = times_more m n ns i (omega (arith, lt)) e in omega (arith, r)

pub name_at : (ns : List (Bor (List ℕ))) (i : ℕ) (d : Bor (List ℕ)) → i < length ns → drop i (names_of ns) ≡ (get_or ns i d).now ∷ drop (suc i) (names_of ns)
name_at [] i d lt = absurd (let z : ⊥ = omega (arith, lt) in z)
name_at (n ∷ ns) zero d lt = refl
name_at (n ∷ ns) (suc i) d lt = name_at ns i d (omega (arith, lt))

pub names_taken : (ns : List (Bor (List ℕ))) (i : ℕ) → names_of (take i ns) ≡ take i (names_of ns)
names_taken ns zero = refl
names_taken [] (suc i) = refl
names_taken (n ∷ ns) (suc i) = ap (λ xs. n.now ∷ xs) (names_taken ns i)

pub as_many : (ns : List (Bor (List ℕ))) → length (names_of ns) ≡ length ns
as_many [] = refl
as_many (n ∷ ns) = ap suc (as_many ns)

-- the first names of results are free
pub record Frees (held : List Holding) (used names : List Name) (i : ℕ) : Type 0 where
  pub before : List Name
  pub same : (m : Name) → times m before ≡ times m (take i names)
  pub free : AreFree held used before (drop i names) → AreFree held used [] names
  pub taken : (n : Name) → IsTakenName held used before (drop i names) n → IsTakenName held used [] names n

pub frees_none : (held : List Holding) (used names : List Name) → Frees held used names 0
frees_none held used names = record { before = []; same = λ m. refl; free = λ h. h; taken = λ n h. h }

-- it doesn't matter in which order the names before stand
other_order : (held : List Holding) (used before names : List Name) (n : Name) → times n before ≡ times n names → IsFree held used names n → IsFree held used before n
other_order held used before names n e f = record { once = e ∙ f.once; free = f.free }

module _ (held : List Holding) (used names : List Name) (i : ℕ) (n : Name) (lt : i < length names) (here : drop i names ≡ n ∷ drop (suc i) names) (f : Frees held used names i) where
  pub frees_more : IsFree held used (take i names) n → Frees held used names (i + 1)
  frees_more free =
      let is = other_order held used f.before (take i names) n (f.same n) free in
      let next : suc i ≡ i + 1 = omega arith in
      subst (Frees held used names) next (record {
        before = n ∷ f.before;
        same = λ m. (let t = times_more m n names i lt here in let s = f.same m in omega (arith, t, s));
        free = λ h. f.free (subst (AreFree held used f.before) (sym here) (is, h));
        taken = λ m h. f.taken m (subst (λ xs. IsTakenName held used f.before xs m) (sym here) (inr (is, h)));
      })

  pub is_taken : (IsFree held used (take i names) n → ⊥) → IsTakenName held used [] names n
  is_taken not = f.taken n (subst (λ xs. IsTakenName held used f.before xs n) (sym here) (inl ((λ is. not (other_order held used (take i names) f.before n (sym (f.same n)) is)), refl)))

pub all_free : (held : List Holding) (used names : List Name) (i : ℕ) → length names ≤ i → Frees held used names i → AreFree held used [] names
all_free held used names i le f = f.free (subst (AreFree held used f.before) (sym (none_left i names le)) tt)
