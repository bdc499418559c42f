-- An accepted source's program is formed, typed, never stuck, and its binders are distinct: so nothing is left to
-- require of it where its lowered code runs.
use Rattle.std.proofs.Common.{◌≡◌, ◌≢◌, ℕ, zero, suc, true, Bool, List, [], ◌∷◌, length, map, Option, Some, None, slice_get, refl, ap, subst}
use Rattle.std.specs.Prelude.{take}
use Rattle.lowering_soundness.specs.fip_language.Core.{Core}
use Rattle.lowering_soundness.specs.fip_language.Meaning.{Answer, Stuck, meaning}
use Rattle.lowering_soundness.specs.fip_language.Statics.{Closeds, NoClosed}
use Rattle.lowering_soundness.specs.fip_language.Table.{Table, HaveTypes}
use Rattle.lowering_soundness.specs.fip_language.Values.{Values}
use Rattle.lowering_soundness.specs.fip_trees.Tree.{Instance, Program}
use Rattle.lowering_soundness.specs.instance_semantics.Meaning.{flat_meaning}
use Rattle.lowering_soundness.specs.cell_code.Plain.{PlainCode, all_instrs}
use Rattle.lowering_soundness.specs.machine_semantics.States.{State}
use Rattle.lowering_soundness.specs.machine_semantics.Steps.{Kinds}
use Rattle.lowering_soundness.specs.code_rules.Codes.{params}
use Rattle.lowering_soundness.specs.tree_semantics.Runs.{begun, entry}
use Rattle.lowering_soundness.specs.separation.Starts.{IsStart}
use Rattle.derivation_correctness.specs.tree_refinement.Runs.{BeginsWith}
use Rattle.derivation_correctness.proofs.tree_refinement.Values.{words_types}
use Rattle.derivation_correctness.proofs.tree_refinement.Running.{cells_end}
use Rattle.source_safety.specs.type_safety.Soundness.{IsSoundAnswer}
use Rattle.lowering_soundness.specs.lowering_relation.LoweredBodies.{has_function, one_more, function_of}
use Rattle.lowering_soundness.specs.lowering_relation.LoweredFunctions.{AreLowered}
use Rattle.derivation_correctness.specs.lowering_simulation.RunEnds.{EndsIn}
use Rattle.derivation_correctness.specs.lowering_simulation.Guarded.{type_of, Takes}
use Rattle.derivation_correctness.proofs.lowering_simulation.Guards.{typed_runs_end}
use Rattle.derivation_correctness.specs.lowering_simulation.CellEnds.{EndsAs, IsFunctionOf}
use Rattle.derivation_correctness.specs.source_report.Report.{IsParsed, IsMatched, IsAccepted}
use Rattle.derivation_correctness.proofs.source_report.Sizing.{typed_filled}
use Rattle.source_safety.proofs.Accepted.{matched_sound}
use Rattle.source_safety.proofs.Formed.{typed_is_formed}
use Rattle.source_safety.proofs.specialisation_correctness.Meant.{root_meant}
use Rattle.derivation_correctness.proofs.source_report.Distinct.{typed_distinct}
use Rattle.compiler_correctness.proofs.Instances.{instance_meant}

-- ---- an instance that has a function is there

has_at : {A : Type 0} (b : Bool) (o : Option ℕ) (f : ℕ) → ((k : ℕ) → o ≡ Some k → A) → one_more b o ≡ Some f → A
has_at b None f h e = absurd (cc)
has_at b (Some k) f h e = h k refl

pub instance_at : (ds : List Instance) (i f : ℕ) → function_of ds i ≡ Some f → (d : Instance) × (slice_get ds i ≡ Some d)
instance_at [] i f e = absurd (cc)
instance_at (d ∷ ds) zero f e = (d, refl)
instance_at (d ∷ ds) (suc i) f e = has_at (has_function d.kind) (function_of ds i) f (λ k q. instance_at ds i k q) e

-- ---- it is never stuck

sound_not_stuck : (tb : Table) (ts : List ℕ) (a : Answer) → IsSoundAnswer tb ts a → a ≢ Stuck
sound_not_stuck tb ts a h e = subst (IsSoundAnswer tb ts) e h

pub not_stuck : (source : List ℕ) (p : Program) → IsMatched source p → (i f : ℕ) (vs : Values) (calls frames : ℕ) → function_of p.instances i ≡ Some f → Takes p i vs → (flat_meaning p i vs calls frames).answer ≢ Stuck
not_stuck source p h i f vs calls frames e takes =
    let d = instance_at p.instances i f e in
    sound_not_stuck p.types d.0.results (flat_meaning p i vs calls frames).answer (matched_sound source p i d.0 vs calls frames h d.1 (takes d.0 d.1))

-- ---- its program

matched_of : (source : List ℕ) (p : Program) → IsAccepted source p → IsMatched source p
matched_of source p h = h.tailed.credited.owned.matched

pub on_trees : (source : List ℕ) (p : Program) (code : PlainCode) → IsAccepted source p → AreLowered p (all_instrs code) → (i f : ℕ) (vs : Values) (calls frames : ℕ) → function_of p.instances i ≡ Some f → Takes p i vs → EndsIn code (begun (entry f vs frames) calls) (flat_meaning p i vs calls frames).answer
on_trees source p code h lowered i f vs calls frames e takes =
    let matched = matched_of source p h in
    let typed = matched.typed in
    typed_runs_end code p lowered (typed_is_formed source p typed) (typed_filled source p typed) (typed_distinct source p typed)
    i f vs calls frames (flat_meaning p i vs calls frames).answer e takes refl (not_stuck source p matched i f vs calls frames e takes)

-- the arguments have the types of the instance's parameters
pub begun_takes : (c : PlainCode) (p : Program) (i f : ℕ) (s : State) (vs : Values) → IsFunctionOf p i c f → BeginsWith c f s vs → Takes p i vs
begun_takes c p i f s vs o b d is =
    let types : HaveTypes c.types (map type_of (params c f)) vs = words_types c.types s.store (map type_of (params c f)) (take (length (params c f)) s.running.words) vs b in
    subst (λ tb. HaveTypes tb (map type_of d.params) vs) o.types (subst (λ ps. HaveTypes c.types (map type_of ps) vs) (o.takes d is) types)

pub on_cells : (source : List ℕ) (p : Program) (c : PlainCode) → IsAccepted source p → AreLowered p (all_instrs c) → (before waits : Kinds) (i f : ℕ) (vs : Values) (kept : List ℕ) (s : State) (calls : ℕ) → IsFunctionOf p i c f → IsStart c before waits f kept s → BeginsWith c f s vs → EndsAs c before f s calls (flat_meaning p i vs calls s.free).answer
on_cells source p c h lowered before waits i f vs kept s calls o start begins =
    let t = on_trees source p c h lowered i f vs calls s.free o.function (begun_takes c p i f s vs o begins) in
    let e = cells_end c before waits f kept s vs calls t.enough (flat_meaning p i vs calls s.free).answer t.last t.left t.steps start begins t.is in
    record { end = e.0; last = e.1; left = t.left; steps = t.steps; ends = e.2; same = e.3 }

-- ---- its source

means : (source : List ℕ) (core : Core) (p : Program) → IsParsed source core → IsAccepted source p → (i : ℕ) (d : Instance) (vs : Values) (calls frames : ℕ) → slice_get p.instances i ≡ Some d → d.root ≡ true → (flat_meaning p i vs calls frames).answer ≡ (meaning core d.name NoClosed vs calls frames).answer
means source core p parsed h i d vs calls frames e r =
    ap (λ y. y.answer) (root_meant source p (matched_of source p h).typed core parsed i d vs calls frames e r)

pub on_trees_meant : (source : List ℕ) (core : Core) (p : Program) (code : PlainCode) → IsParsed source core → IsAccepted source p → AreLowered p (all_instrs code) → (i f : ℕ) (d : Instance) (vs : Values) (calls frames : ℕ) → slice_get p.instances i ≡ Some d → d.root ≡ true → function_of p.instances i ≡ Some f → Takes p i vs → EndsIn code (begun (entry f vs frames) calls) (meaning core d.name NoClosed vs calls frames).answer
on_trees_meant source core p code parsed h lowered i f d vs calls frames at r e takes =
    subst (EndsIn code (begun (entry f vs frames) calls)) (means source core p parsed h i d vs calls frames at r)
    (on_trees source p code h lowered i f vs calls frames e takes)

pub on_cells_meant : (source : List ℕ) (core : Core) (p : Program) (c : PlainCode) → IsParsed source core → IsAccepted source p → AreLowered p (all_instrs c) → (before waits : Kinds) (i f : ℕ) (d : Instance) (vs : Values) (kept : List ℕ) (s : State) (calls : ℕ) → slice_get p.instances i ≡ Some d → d.root ≡ true → IsFunctionOf p i c f → IsStart c before waits f kept s → BeginsWith c f s vs → EndsAs c before f s calls (meaning core d.name NoClosed vs calls s.free).answer
on_cells_meant source core p c parsed h lowered before waits i f d vs kept s calls at r o start begins =
    subst (EndsAs c before f s calls) (means source core p parsed h i d vs calls s.free at r)
    (on_cells source p c h lowered before waits i f vs kept s calls o start begins)

pub instances_meant : (source : List ℕ) (core : Core) (p : Program) (code : PlainCode) → IsParsed source core → IsAccepted source p → AreLowered p (all_instrs code) → (i f : ℕ) (d : Instance) → slice_get p.instances i ≡ Some d → function_of p.instances i ≡ Some f → (given : Closeds) × ((vs : Values) (calls frames : ℕ) → Takes p i vs → EndsIn code (begun (entry f vs frames) calls) (meaning core d.name given vs calls frames).answer)
instances_meant source core p code parsed h lowered i f d at e =
    let m = instance_meant source core p parsed (matched_of source p h).typed i d at in (
      m.0,
      λ vs calls frames takes.
          subst (EndsIn code (begun (entry f vs frames) calls)) (ap (λ y. y.answer) (m.1 vs calls frames))
          (on_trees source p code h lowered i f vs calls frames e takes),
    )
