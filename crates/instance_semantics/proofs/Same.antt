-- What is put together from equal parts is equal: sums, lists of values and of bindings, and runs.
use Rattle.std.proofs.Common.{◌≡◌, ℕ, zero, suc, ◌+◌, List, Option, refl, ap, ◌∙◌}
use Rattle.fip_trees.specs.fip_language.Values.{Value, Values}
use Rattle.fip_trees.specs.fip_language.Matching.{Binding, both}
use Rattle.fip_trees.specs.fip_language.Meaning.{Run, more_of, then_with, counted}
pub use Rattle.fip_trees.proofs.fip_base.fip_language.Facts.{sum_same}

pub more_same : (a b : Option Value) (c d : Option Values) → a ≡ b → c ≡ d → more_of a c ≡ more_of b d
more_same a b c d p q = ap (λ x. more_of x c) p ∙ ap (more_of b) q

pub both_same : (a b c d : Option (List Binding)) → a ≡ b → c ≡ d → both a c ≡ both b d
both_same a b c d p q = ap (λ x. both x c) p ∙ ap (both b) q

pub go_on_same : (r s : Run) (go go' : Values → ℕ → Run) → r ≡ s → ((vs : Values) (left : ℕ) → go vs left ≡ go' vs left) → then_with r go ≡ then_with s go'
go_on_same r s go go' e same = ap (λ x. then_with x go) e ∙ ap (then_with s) (λ i vs left. same vs left i)

pub counted_same : (k : ℕ) (go go' : ℕ → Run) → ((left : ℕ) → go left ≡ go' left) → counted k go ≡ counted k go'
counted_same zero go go' h = refl
counted_same (suc k) go go' h = h k
