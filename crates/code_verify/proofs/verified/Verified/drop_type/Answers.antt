use Rattle.std.proofs.Common.{◌≡◌, ◌↔◌, ◌∙◌, ℕ, Some, ap, subst}
use Rattle.call_groups.specs.CallGraph.{In}
use Rattle.cell_code.specs.Plain.{plain}
use Rattle.code_verify.specs.Checked.{Checked, ReleasesAt}
use Rattle.code_verify.specs.Steps.{drops_at}
use Rattle.code_verify.specs.Surveying.{row_at}
use Rattle.code_verify.proofs.verified.Verified.drop_type.Goals as goal

pub returns : goal.returns
returns c =
    let n = c.args.function in
    let i = c.args.at in
    let same : c.drops_in.result.now ≡ row_at c.self.inside.drops.items n = c.drops_in.ensures ∙ ap (λ ds. row_at ds n) c.as_slice.ensures.value in
    let found : (t : ℕ) → (c.type_at.result ≡ Some t ↔ In (drops_at i t) (row_at c.self.inside.drops.items n)) =
    subst (λ ds. (t : ℕ) → (c.type_at.result ≡ Some t ↔ In (drops_at i t) ds)) same c.type_at.ensures.exact in
    let are = c.self.invariant.releases.are in
    let whole : (t : ℕ) → (c.type_at.result ≡ Some t ↔ ReleasesAt (plain c.self.inside.code) n i t) =
    λ t. (λ e. (are n i t).0 ((found t).0 e), λ r. (found t).1 ((are n i t).1 r)) in
    record { exact = subst (λ (v : Checked). (t : ℕ) → (c.type_at.result ≡ Some t ↔ ReleasesAt (plain v.code) n i t)) c.self.view_is whole }
