-- What the functions of `list` give: one lemma a function, by its body with one call less.
use Rattle.std.proofs.Common.{◌≡◌, ℕ, zero, suc, ◌+◌, ◌*◌, ◌≤◌, ◌<◌, Bool, true, false, ℤ, List, [], ◌∷◌, ◌++◌, length, map, reverse, FitsSigned, inl, inr, arith, refl, ap, sym, ◌∙◌, subst, append_assoc}
use Rattle.std.proofs.lemmas.List.{length-reverse}
use mathlib.Core.List.{reverse_aux, reverse_aux-eq, reverse-reverse}
use Rattle.std.specs.Int.{w64}
use Rattle.fip_language.specs.declared.TrapKind.TheVariants.{Overflow}
use Rattle.fip_language.specs.Every.{Every, Among}
use Rattle.fip_language.specs.Arithmetic.{fits}
use Rattle.fip_language.specs.Meaning.{Answer, Trap}
use Rattle.instance_semantics.specs.Meaning.{calls_of}
use Rattle.instance_semantics.proofs.Left.{calls_left}
use Rattle.evaluation_steps.specs.Gives.{GivesLeaving, one, two}
use Rattle.library_correctness.specs.Lists.{list_value, zip_value, right_of}
use Rattle.evaluation_steps.specs.Sums.{incremented, greatest, CanIncrement}
use Rattle.library_programs.specs.ListProgram.{list_program}
use Rattle.evaluation_steps.proofs.Numbers.{can_increment}
use Rattle.evaluation_steps.proofs.Steps.{after_call, counted_on, summed, sum_then, overflowed}

pub back_runs : (xs ys : List ℤ) (m d k r : ℕ) → length xs + r ≤ k → k < m → GivesLeaving r (one (list_value (reverse_aux xs ys))) (calls_of list_program m d 0 (two (list_value xs) (list_value ys)) k).answer
back_runs xs ys zero d k r le lt = absurd (omega arith)
back_runs [] ys (suc m) d k r le lt = record { left = k; enough = omega arith; is = refl }
back_runs (x ∷ xs) ys (suc m) d zero r le lt = absurd (omega arith)
back_runs (x ∷ xs) ys (suc m) d (suc k) r le lt = back_runs xs (x ∷ ys) m d k r (omega arith) (omega arith)

pub reverse_runs : (xs : List ℤ) (m d k r : ℕ) → length xs + (1 + r) ≤ k → k < m → GivesLeaving r (one (list_value (reverse xs))) (calls_of list_program m d 1 (one (list_value xs)) k).answer
reverse_runs xs zero d k r le lt = absurd (omega arith)
reverse_runs xs (suc m) d zero r le lt = absurd (omega arith)
reverse_runs xs (suc m) d (suc k) r le lt = back_runs xs [] m d k r (omega arith) (omega arith)

twice_back : (xs ys : List ℤ) → reverse_aux (reverse xs) ys ≡ xs ++ ys
twice_back xs ys = reverse_aux-eq (reverse xs) ys ∙ ap (λ zs. zs ++ ys) (reverse-reverse xs)

same_list : {r : ℕ} {a : Answer} {xs ys : List ℤ} → xs ≡ ys → GivesLeaving r (one (list_value xs)) a → GivesLeaving r (one (list_value ys)) a
same_list {r} {a} e h = subst (λ zs. GivesLeaving r (one (list_value zs)) a) e h

pub append_runs : (xs ys : List ℤ) (m d k r : ℕ) → 2 * length xs + (2 + r) ≤ k → k < m → GivesLeaving r (one (list_value (xs ++ ys))) (calls_of list_program m (suc d) 2 (two (list_value xs) (list_value ys)) k).answer
append_runs xs ys zero d k r le lt = absurd (omega arith)
append_runs xs ys (suc m) d zero r le lt = absurd (omega arith)
append_runs xs ys (suc m) d (suc k) r le lt =
    same_list (twice_back xs ys) (after_call _ _ (back_runs xs [] m d k (length xs + (1 + r)) (omega arith) (omega arith)) (calls_left list_program m d 0 _ k)
    (λ left enough most. counted_on left _ (omega arith) (λ j e. back_runs (reverse xs) ys m (suc d) j r (omega (arith, length-reverse xs)) (omega arith))))

onto_next : (x : ℤ) (acc ys : List ℤ) → reverse (x ∷ acc) ++ ys ≡ reverse acc ++ (x ∷ ys)
onto_next x acc ys = ap (λ zs. zs ++ ys) (reverse_aux-eq acc (x ∷ [])) ∙ append_assoc (reverse acc) (x ∷ []) ys

-- acc has the items that are done, the last first
raise_runs : (xs acc : List ℤ) → Every CanIncrement xs → (m d k r : ℕ) → 2 * length xs + (length acc + (1 + r)) ≤ k → k < m → GivesLeaving r (one (list_value (reverse acc ++ map incremented xs))) (calls_of list_program m d 4 (two (list_value xs) (list_value acc)) k).answer
raise_runs xs acc h zero d k r le lt = absurd (omega arith)
raise_runs xs acc h (suc m) d zero r le lt = absurd (omega arith)
raise_runs [] acc h (suc m) d (suc k) r le lt =
    same_list (reverse_aux-eq acc []) (back_runs acc [] m d k r (omega arith) (omega arith))
raise_runs (x ∷ xs) acc h (suc m) d (suc k) r le lt =
    summed (incremented x) _ _ _ (can_increment x h.0) (same_list (onto_next (incremented x) acc (map incremented xs)) (raise_runs xs (incremented x ∷ acc) h.1 m d k r (omega arith) (omega arith)))

pub increment_runs : (xs : List ℤ) → Every CanIncrement xs → (m d k r : ℕ) → 2 * length xs + (2 + r) ≤ k → k < m → GivesLeaving r (one (list_value (map incremented xs))) (calls_of list_program m d 3 (one (list_value xs)) k).answer
increment_runs xs h zero d k r le lt = absurd (omega arith)
increment_runs xs h (suc m) d zero r le lt = absurd (omega arith)
increment_runs xs h (suc m) d (suc k) r le lt = raise_runs xs [] h m d k r (omega arith) (omega arith)

raise_traps : (xs acc : List ℤ) → Every (FitsSigned w64) xs → Among greatest xs → (m d k : ℕ) → length xs ≤ k → k < m → (calls_of list_program m d 4 (two (list_value xs) (list_value acc)) k).answer ≡ Trap Overflow 30 29
raise_traps xs acc h a zero d k le lt = absurd (omega arith)
raise_traps [] acc h a (suc m) d k le lt = absurd a
raise_traps (x ∷ xs) acc h a (suc m) d zero le lt = absurd (omega arith)
raise_traps (x ∷ xs) acc h (inl e) (suc m) d (suc k) le lt = overflowed (incremented x) _ _ _ (ap (λ i. fits (incremented i)) (sym e))
raise_traps (x ∷ xs) acc h (inr a) (suc m) d (suc k) le lt = by (fits (incremented x)) refl (raise_traps xs (incremented x ∷ acc) h.1 a m d k (omega arith) (omega arith))
  where
    by : (b : Bool) → fits (incremented x) ≡ b → (calls_of list_program m d 4 (two (list_value xs) (list_value (incremented x ∷ acc))) k).answer ≡ Trap Overflow 30 29 → (calls_of list_program (suc m) d 4 (two (list_value (x ∷ xs)) (list_value acc)) (suc k)).answer ≡ Trap Overflow 30 29
    by false e ih = overflowed (incremented x) _ _ _ e
    by true e ih = sum_then (incremented x) _ _ _ e ∙ ih

pub increment_traps : (xs : List ℤ) → Every (FitsSigned w64) xs → Among greatest xs → (m d k : ℕ) → suc (length xs) ≤ k → k < m → (calls_of list_program m d 3 (one (list_value xs)) k).answer ≡ Trap Overflow 30 29
increment_traps xs h a zero d k le lt = absurd (omega arith)
increment_traps xs h a (suc m) d zero le lt = absurd (omega arith)
increment_traps xs h a (suc m) d (suc k) le lt = raise_traps xs [] h a m d k (omega arith) (omega arith)

pub right_runs : (xs ys : List ℤ) (m d k r : ℕ) → r ≤ k → k < m → GivesLeaving r (one (right_of xs ys)) (calls_of list_program m d 5 (one (zip_value xs ys)) k).answer
right_runs xs ys zero d k r le lt = absurd (omega arith)
right_runs xs [] (suc m) d k r le lt = record { left = k; enough = le; is = refl }
right_runs xs (y ∷ ys) (suc m) d k r le lt = record { left = k; enough = le; is = refl }

pub plug_runs : (xs ys : List ℤ) (m d k r : ℕ) → length xs + (1 + r) ≤ k → k < m → GivesLeaving r (one (list_value (reverse xs ++ ys))) (calls_of list_program m d 6 (one (zip_value xs ys)) k).answer
plug_runs xs ys zero d k r le lt = absurd (omega arith)
plug_runs xs ys (suc m) d zero r le lt = absurd (omega arith)
plug_runs xs ys (suc m) d (suc k) r le lt = same_list (reverse_aux-eq xs ys) (back_runs xs ys m d k r (omega arith) (omega arith))
