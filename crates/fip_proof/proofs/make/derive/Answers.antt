use Rattle.std.proofs.lemmas.Result.{IfOk-weaker}
use Rattle.fip_trees.specs.TreeView as V
use Rattle.derivation_check.specs.Accepted.{IsDerivation}
use Rattle.derivation_trees.specs.Trees.{entries}
use Rattle.derivation_trees.specs.declared.derivation.Derivation.{Derivation}
use Rattle.derivation_agreement.specs.derivation_making.Made.{made_entries}
use Rattle.derivation_agreement.specs.derivation_making.Weakening.{AllLean}
use Rattle.derivation_walk.specs.Walks.{AreWalked}
use Rattle.std.proofs.Common.{◌≡◌}
use Rattle.fip_proof.specs.Ready.{IsReady}
use Rattle.fip_proof.proofs.Made.{is_made, is_derived, is_lean}
use Rattle.fip_proof.proofs.make.derive.Goals as goal

pub returns : goal.returns
returns c =
    let p = V.program c.args.typed.now.program in
    let ns = c.args.needs.now in
    let W = λ (d : Derivation). AreWalked p ns 0 p.instances (entries d) in
    record {
      trees = c.derive.ensures.trees;
      made = IfOk-weaker c.derive.result W (λ (d : Derivation). IsReady p ns → entries d ≡ made_entries p 0 p.instances) (λ d k h. is_made p ns (entries d) k h) c.derive.ensures.walked;
      derived = IfOk-weaker c.derive.result W (λ (d : Derivation). IsReady p ns → IsDerivation p (entries d)) (λ d k h. is_derived p ns (entries d) k h) c.derive.ensures.walked;
      lean = IfOk-weaker c.derive.result W (λ (d : Derivation). IsReady p ns → AllLean (entries d)) (λ d k h. is_lean p ns (entries d) k h) c.derive.ensures.walked;
    }
