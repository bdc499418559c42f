-- Where a machine stops is the place of the fault, and what it accepts is spelled so.
use Rattle.std.proofs.Common.{◌≡◌, ℕ, suc, ◌+◌, List, [], ◌∷◌, ◌++◌, take, Option, Some, None, refl, sym, ap, ◌∙◌, subst, arith}
use Rattle.std.proofs.lemmas.Option.{none-some, same_Some}
use Rattle.fip_language.specs.Prefix.{Accepted, Stopped, end_outcome, or_stop, run, Begins, IsPlace}

-- What a machine and the relation of what completes its states have to do with each other.
pub record IsExact {S T V : Type 0} (step : S → T → Option S) (final : S → Option V) (Good : S → Type 0) (Completes : S → List T → V → Type 0) : Type 0 where
  -- what completes a state begins with a token that the machine takes
  pub takes : (s : S) (t : T) (ts : List T) (x : V) → Good s → Completes s (t ∷ ts) x → (s' : S) × (step s t ≡ Some s') × Completes s' ts x
  -- a token that the machine takes may come
  pub gives : (s s' : S) (t : T) (ts : List T) (x : V) → Good s → step s t ≡ Some s' → Completes s' ts x → Completes s (t ∷ ts) x
  pub keeps : (s s' : S) (t : T) → Good s → step s t ≡ Some s' → Good s'
  pub alive : (s : S) → Good s → (ts : List T) × (x : V) × Completes s ts x
  pub ends : (s : S) (x : V) → Good s → Completes s [] x → final s ≡ Some x
  pub ended : (s : S) (x : V) → Good s → final s ≡ Some x → Completes s [] x

module _ {S T V : Type 0} (step : S → T → Option S) (final : S → Option V) (Good : S → Type 0) (Completes : S → List T → V → Type 0) (theorem : IsExact step final Good Completes) where
  abbrev From : S → List T → ℕ → Type 0
  From s ts k = IsPlace (Completes s) ts k

  begins_before : (s s' : S) (t : T) (front : List T) → Good s → step s t ≡ Some s' → Begins (Completes s) (t ∷ front) → Begins (Completes s') front
  begins_before s s' t front g e b =
      let h = theorem.takes s t (front ++ b.0) b.1 g b.2 in
      let same : h.0 ≡ s' = same_Some h.0 s' (sym h.1 ∙ e) in
      (b.0, b.1, subst (λ s. Completes s (front ++ b.0) b.1) same h.2)

  not_here : (s : S) (t : T) (front : List T) → Good s → step s t ≡ None → Begins (Completes s) (t ∷ front) → ⊥
  not_here s t front g e b = let h = theorem.takes s t (front ++ b.0) b.1 g b.2 in absurd (none-some h.0 (sym e ∙ h.1))

  place_end : (s : S) (at t : ℕ) → Good s → end_outcome (final s) at ≡ Stopped t → (o : Option V) → final s ≡ o → (t ≡ at) × From s [] 0
  place_end s at t g h None e = (
    (let k = ap (λ o. end_outcome o at) (sym e) ∙ h in cc),
    record {
      within = omega arith;
      before = theorem.alive s g;
      there = λ lt. absurd (omega arith);
      at_end = λ n x c. absurd (none-some x (sym e ∙ theorem.ends s x g c));
    },
  )
  place_end s at t g h (Some x) e = let k : Accepted x ≡ Stopped t = ap (λ o. end_outcome o at) (sym e) ∙ h in cc

  place_none : (s : S) (t : T) (ts : List T) → Good s → step s t ≡ None → From s (t ∷ ts) 0
  place_none s t ts g e = record {
    within = omega arith;
    before = theorem.alive s g;
    there = λ lt b. not_here s t [] g e b;
    at_end = λ k. absurd (omega arith);
  }

  place_some : (s s' : S) (t : T) (ts : List T) (k : ℕ) → Good s → step s t ≡ Some s' → From s' ts k → From s (t ∷ ts) (suc k)
  place_some s s' t ts k g e p = record {
    within = let h = p.within in omega arith;
    before = let b = p.before in (b.0, b.1, theorem.gives s s' t (take k ts ++ b.0) b.1 g e b.2);
    there = λ lt b. p.there (omega arith) (begins_before s s' t (take (suc k) ts) g e b);
    at_end = λ n x c.
        let h = theorem.takes s t ts x g c in
        let same : h.0 ≡ s' = same_Some h.0 s' (sym h.1 ∙ e) in
        p.at_end (omega arith) x (subst (λ s. Completes s ts x) same h.2);
  }

  abbrev Placed : List T → Type 0
  Placed ts = (s : S) (at t : ℕ) → Good s → run step final s ts at ≡ Stopped t → (k : ℕ) × (t ≡ at + k) × From s ts k

  place_step : (s : S) (u : T) (ts : List T) (at t : ℕ) → Good s → Placed ts → (o : Option S) → step s u ≡ o → or_stop o at (λ s. run step final s ts (at + 1)) ≡ Stopped t → (k : ℕ) × (t ≡ at + k) × From s (u ∷ ts) k
  place_step s u ts at t g rest None e h = let same : at ≡ t = cc in (0, omega arith, place_none s u ts g e)
  place_step s u ts at t g rest (Some s') e h =
      let p = rest s' (at + 1) t (theorem.keeps s s' u g e) h in
      (suc p.0, omega (arith, p.1), place_some s s' u ts p.0 g e p.2)

  place_run : (ts : List T) → Placed ts
  place_run [] = λ s at t g h. let p = place_end s at t g h (final s) refl in (0, omega (arith, p.0), p.1)
  place_run (u ∷ ts) = λ s at t g h. place_step s u ts at t g (place_run ts) (step s u) refl h

  -- where the machine stops
  pub stops_at_place : (s : S) (ts : List T) (t : ℕ) → Good s → run step final s ts 0 ≡ Stopped t → IsPlace (Completes s) ts t
  stops_at_place s ts t g h =
      let p = place_run ts s 0 t g h in
      let e : p.0 ≡ t = omega (arith, p.1) in
      subst (IsPlace (Completes s) ts) e p.2

  -- what completes a state is accepted
  pub accepts : (ts : List T) (s : S) (at : ℕ) (x : V) → Good s → Completes s ts x → run step final s ts at ≡ Accepted x
  accepts [] s at x g h = ap (λ o. end_outcome o at) (theorem.ends s x g h)
  accepts (t ∷ ts) s at x g h =
      let k = theorem.takes s t ts x g h in
      ap (λ o. or_stop o at (λ s. run step final s ts (at + 1))) k.1 ∙ accepts ts k.0 (at + 1) x (theorem.keeps s k.0 t g k.1) k.2

  accepted_end : (s : S) (at : ℕ) (x : V) → Good s → end_outcome (final s) at ≡ Accepted x → (o : Option V) → final s ≡ o → Completes s [] x
  accepted_end s at x g h None e = let k : Stopped at ≡ Accepted x = ap (λ o. end_outcome o at) (sym e) ∙ h in cc
  accepted_end s at x g h (Some y) e =
      let k : Accepted y ≡ Accepted x = ap (λ o. end_outcome o at) (sym e) ∙ h in
      let same : y ≡ x = cc in
      theorem.ended s x g (e ∙ ap Some same)

  accepted_step : (s : S) (t : T) (ts : List T) (at : ℕ) (x : V) → Good s → ((s : S) (at : ℕ) → Good s → run step final s ts at ≡ Accepted x → Completes s ts x) → (o : Option S) → step s t ≡ o → or_stop o at (λ s. run step final s ts (at + 1)) ≡ Accepted x → Completes s (t ∷ ts) x
  accepted_step s t ts at x g rest None e h = cc
  accepted_step s t ts at x g rest (Some s') e h = theorem.gives s s' t ts x g e (rest s' (at + 1) (theorem.keeps s s' t g e) h)

  -- what is accepted completes the state
  pub accepted : (ts : List T) (x : V) (s : S) (at : ℕ) → Good s → run step final s ts at ≡ Accepted x → Completes s ts x
  accepted [] x s at g h = accepted_end s at x g h (final s) refl
  accepted (t ∷ ts) x s at g h = accepted_step s t ts at x g (accepted ts x) (step s t) refl h
