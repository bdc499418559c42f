-- Evaluations that go on alike are the same.
use Rattle.std.proofs.Common.{◌≡◌, ℕ, zero, suc, ◌≤◌, List, Bool, true, false, Option, Some, None, refl, ap, ◌∙◌}
use Rattle.fip_language.specs.Values.{Value, Values}
use Rattle.fip_language.specs.Matching.{Binding}
use Rattle.fip_language.specs.Meaning.{Answer, Gives, Trap, Out, Deep, Stuck, Run, after, above, go_on, then_with, in_frame, with_value, with_values, if_matches}
use Rattle.fip_language.specs.Theorems.{AtMost}

go_on-same : (k : ℕ) (a : Answer) (go go' : Values → ℕ → Run) → AtMost k a → ((vs : Values) (left : ℕ) → left ≤ k → go vs left ≡ go' vs left) → go_on a go ≡ go_on a go'
go_on-same k (Gives vs left) go go' h same = same vs left h
go_on-same k (Trap kind line col) go go' h same = refl
go_on-same k Out go go' h same = refl
go_on-same k Deep go go' h same = refl
go_on-same k Stuck go go' h same = refl

pub then_with-same : (k : ℕ) (r s : Run) (go go' : Values → ℕ → Run) → r ≡ s → AtMost k r.answer → ((vs : Values) (left : ℕ) → left ≤ k → go vs left ≡ go' vs left) → then_with r go ≡ then_with s go'
then_with-same k r s go go' e h same = ap (after r.peak) (go_on-same k r.answer go go' h same) ∙ ap (λ x. then_with x go') e

pub with_value-same : (o : Option Value) (go go' : Value → Run) → ((v : Value) → go v ≡ go' v) → with_value o go ≡ with_value o go'
with_value-same None go go' h = refl
with_value-same (Some v) go go' h = h v

pub with_values-same : (o : Option Values) (go go' : Values → Run) → ((vs : Values) → go vs ≡ go' vs) → with_values o go ≡ with_values o go'
with_values-same None go go' h = refl
with_values-same (Some vs) go go' h = h vs

pub in_frame-same : (tail : Bool) (w d : ℕ) (go go' : ℕ → Run) → ((free : ℕ) → go free ≡ go' free) → in_frame tail w d go ≡ in_frame tail w d go'
in_frame-same true w d go go' h = h d
in_frame-same false w zero go go' h = refl
in_frame-same false w (suc d) go go' h = ap (above w) (h d)

pub if_matches-same : (o : Option (List Binding)) (go go' : List Binding → Run) (r s : Run) → ((bs : List Binding) → go bs ≡ go' bs) → r ≡ s → if_matches o go r ≡ if_matches o go' s
if_matches-same None go go' r s h e = e
if_matches-same (Some bs) go go' r s h e = h bs
