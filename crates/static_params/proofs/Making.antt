-- Instances that are made, one after another.
use Rattle.std.proofs.Common.{◌≡◌, ◌++◌, ◌∙◌, ℕ, List, [], ◌∷◌, refl, ap}
use Rattle.std.proofs.lemmas.List.{map-append}
use Rattle.fip_trees.specs.Tree as T
use Rattle.fip_trees.specs.TreeView as W
use Rattle.fip_trees.specs.declared.program.Instance as I
use Rattle.reached_instances.specs.closed_types.declared.closed.Head.TheVariants as H
use Rattle.static_params.specs.declared.flatten.Flattening.{Flattening}
use Rattle.reached_instances.specs.closed_types.Closed.{Closed, Closeds, Int, Applied}
use Rattle.static_params.specs.FlatProgram.{Numbers, instances_of}
use Rattle.static_params.specs.FlatView.{GoesOn, IsMaking}
use Rattle.reached_instances.specs.closed_types.Source.{Source}
use Rattle.reached_instances.proofs.closed_types.Growing.{grows_same, grows_more}

pub no_instances : (s : Source) (ns : Numbers) (c : Closed) → ((f : ℕ) (cs : Closeds) → c ≡ Applied (H.Function f) cs → ⊥) → instances_of s ns c ≡ []
no_instances s ns Int h = refl
no_instances s ns (Applied (H.«Type» n) cs) h = refl
no_instances s ns (Applied (H.Function f) cs) h = absurd (h f cs refl)

pub goes_same : (f : Flattening) → IsMaking f → GoesOn f f
goes_same f m = record { ready = m; grows = grows_same f.shared.branches; source = refl; numbers = refl }

pub goes_more : (f g h : Flattening) → GoesOn f g → GoesOn g h → GoesOn f h
goes_more f g h s t = record {
  ready = t.ready;
  grows = grows_more f.shared.branches g.shared.branches h.shared.branches s.grows t.grows;
  source = t.source ∙ s.source;
  numbers = t.numbers ∙ s.numbers;
}

-- one instance more
pub one_made : (is js : List I.Instance) (i : I.Instance) (t : T.Instance) → js ≡ is ++ i ∷ [] → W.instance_of i ≡ t → W.instances js ≡ W.instances is ++ t ∷ []
one_made is js i t push made =
    ap W.instances push ∙ map-append W.instance_of is (i ∷ []) ∙ ap (λ (x : T.Instance). W.instances is ++ x ∷ []) made
