-- The fip instances of the program of the examples are derived, so the theorem on cells speaks of some.
use Rattle.std.proofs.Common.{◌≡◌, ◌≤◌, ◌⊎◌, inl, inr, ⊎_elim, ℕ, Bool, true, false, ◌||◌, [], ◌∷◌, ◌==◌, refl, subst, arith}
use Rattle.std.proofs.lemmas.Bool.{eqb-true}
use Rattle.ownership_agreement.specs.ownership_calculus.Terms.{has}
use Rattle.type_safety.specs.instance_semantics.Example.{rev, number, lists}
use Rattle.ownership_agreement.specs.ownership_calculus.Terms.{Named, Scalar, Built, NoValues, MoreValues, Header, PassOwned, Term, Results, Call, Match, Take, LastClause, MoreClauses}
use Rattle.ownership_agreement.specs.ownership_calculus.Clean.{AllUsed, fewest, Even}
use Rattle.ownership_agreement.specs.ownership_calculus.Functions.{Accepted}
use Rattle.ownership_agreement.proofs.ownership_calculus.Whole.{is_derived}
use Rattle.ownership_agreement.specs.Agreement.{IsDerived}
use Rattle.in_place_safety.specs.Conservation.{AreFipDerived}
use Rattle.tail_groups.proofs.fip_language.Facts.{or_cases as either}

-- rev as the calculus sees it
abbrev rev_call : Term
rev_call = Call true (PassOwned (Named 3) (PassOwned (Built (MoreValues Scalar (MoreValues (Named 1) NoValues))) (Header [])))

abbrev rev_term : Term
rev_term = Take (Named 0) (MoreClauses [] [] (Results (MoreValues (Named 1) NoValues)) (LastClause (3 ∷ []) (2 ∷ []) rev_call))

none_used : (e : Term) → AllUsed true [] e
none_used e x h = cc

one_used : (y : ℕ) (e : Term) → 1 ≤ fewest y e → AllUsed true (y ∷ []) e
one_used y e h x i = ⊎_elim (λ s. subst (λ z. 1 ≤ fewest z e) (eqb-true y x s) h) (λ s. cc) (either (y == x) false i)

two_used : (y z : ℕ) (e : Term) → 1 ≤ fewest y e → 1 ≤ fewest z e → AllUsed true (y ∷ z ∷ []) e
two_used y z e h g x i = ⊎_elim (λ s. subst (λ v. 1 ≤ fewest v e) (eqb-true y x s) h) (λ s. one_used z e g x s) (either (y == x) (has (z ∷ []) x) i)

rev_even : Even rev_term
rev_even = ((λ k. (omega arith, omega arith)), tt, ((λ k. (omega arith, omega arith)), tt))

rev_accepted : Accepted true [] (0 ∷ 1 ∷ []) [] rev_term
rev_accepted = (
  (tt, (none_used (Results (MoreValues (Named 1) NoValues)), (tt, tt), (one_used 3 rev_call (omega arith), (refl, (tt, ((tt, (tt, tt)), tt)))))),
  two_used 0 1 rev_term (omega arith) (omega arith),
  (λ k. omega arith),
  (λ e. rev_even),
)

rev_derived : IsDerived lists rev
rev_derived = is_derived true [] (0 ∷ 1 ∷ []) [] rev_term rev_accepted

abbrev number_term : Term
number_term = Match Scalar (MoreClauses [] [] (Results (MoreValues Scalar NoValues)) (LastClause [] [] (Results (MoreValues Scalar NoValues))))

number_accepted : Accepted true [] [] [] number_term
number_accepted = (
  (tt, ((tt, tt), (tt, tt))),
  none_used number_term,
  (λ k. omega arith),
  (λ e. ((λ k. (omega arith, omega arith)), tt, ((λ k. (omega arith, omega arith)), tt))),
)

number_derived : IsDerived lists number
number_derived = is_derived true [] [] [] number_term number_accepted

pub lists_derived : AreFipDerived lists lists.instances
lists_derived = ((λ e. rev_derived), ((λ e. cc), ((λ e. number_derived), tt)))
