-- The run on trees ends as the program means, and the one on cells as that one.
use Rattle.std.proofs.Common.{◌≡◌, ◌≢◌, ℕ, List, length, map, subst}
use Rattle.std.specs.Prelude.{take}
use Rattle.tree_refinement.specs.fip_language.Meaning.{Answer, Stuck}
use Rattle.tree_refinement.specs.fip_language.Values.{Values}
use Rattle.lowering_relation.specs.fip_trees.Tree.{Program}
use Rattle.type_safety.specs.type_check.Typing.{IsFilled}
use Rattle.type_safety.specs.Formed.{IsFormed}
use Rattle.lowering_relation.specs.instance_semantics.Meaning.{flat_meaning}
use Rattle.lowering_relation.specs.machine_semantics.Steps.{Kinds}
use Rattle.lowering_relation.specs.machine_semantics.States.{State}
use Rattle.tree_refinement.specs.cell_code.Plain.{PlainCode, all_instrs}
use Rattle.lowering_relation.specs.code_rules.Codes.{params}
use Rattle.tree_refinement.specs.fip_language.Table.{HaveTypes}
use Rattle.lowering_relation.specs.LoweredFunctions.{AreLowered}
use Rattle.lowering_simulation.specs.Distinct.{AreDistinct}
use Rattle.lowering_simulation.specs.Guarded.{type_of, Takes}
use Rattle.lowering_simulation.proofs.Guards.{typed_runs_end}
use Rattle.tree_refinement.specs.separation.Starts.{IsStart}
use Rattle.tree_refinement.specs.Runs.{BeginsWith}
use Rattle.tree_refinement.proofs.Values.{words_types}
use Rattle.tree_refinement.proofs.Running.{cells_end}
use Rattle.lowering_simulation.specs.CellEnds.{EndsAs, IsFunctionOf}

-- the arguments have the types of the instance's parameters
takes : (c : PlainCode) (p : Program) (g f : ℕ) (s : State) (vs : Values) → IsFunctionOf p g c f → BeginsWith c f s vs → Takes p g vs
takes c p g f s vs o b d is =
    let types : HaveTypes c.types (map type_of (params c f)) vs = words_types c.types s.store (map type_of (params c f)) (take (length (params c f)) s.running.words) vs b in
    subst (λ tb. HaveTypes tb (map type_of d.params) vs) o.types (subst (λ ps. HaveTypes c.types (map type_of ps) vs) (o.takes d is) types)

pub joined : (c : PlainCode) (before waits : Kinds) (p : Program) → AreLowered p (all_instrs c) → IsFormed p → IsFilled p → AreDistinct p → (g f : ℕ) (vs : Values) (kept : List ℕ) (s : State) (calls : ℕ) (a : Answer) → IsFunctionOf p g c f → IsStart c before waits f kept s → BeginsWith c f s vs → (flat_meaning p g vs calls s.free).answer ≡ a → a ≢ Stuck → EndsAs c before f s calls a
joined c before waits p lowered formed filled distinct g f vs kept s calls a o start begins means sound =
    let t = typed_runs_end c p lowered formed filled distinct g f vs calls s.free a o.function (takes c p g f s vs o begins) means sound in
    let e = cells_end c before waits f kept s vs calls t.enough a t.last t.left t.steps start begins t.is in
    record { end = e.0; last = e.1; left = t.left; steps = t.steps; ends = e.2; same = e.3 }
