-- Two gauges report the same of cells, since each is said by trees.
use Rattle.std.proofs.Common.{◌≡◌, ◌∙◌, ℕ, ◌+◌, ◌≤◌, List, [], sym, ap}
use Rattle.std.proofs.lemmas.Option.{same_Some}
use Rattle.tree_semantics.specs.fip_language.Gauge.{lowest, highest}
use Rattle.tree_semantics.specs.fip_language.Store.{count}
use Rattle.tree_semantics.specs.fip_language.Values.{Values, cells_of_all}
use Rattle.tree_semantics.specs.machine_semantics.Gauges.{seen}
use Rattle.tree_semantics.specs.machine_semantics.Runs.{Value, Ends, begun}
use Rattle.tree_semantics.specs.machine_semantics.States.{State}
use Rattle.tree_semantics.specs.machine_semantics.Steps.{Kinds}
use Rattle.separation_bounds.specs.cell_code.Plain.{PlainFunction, PlainCode}
use Rattle.separation_bounds.specs.separation.Starts.{IsStart}
use Rattle.tree_refinement.specs.Runs.{BeginsWith}
use Rattle.tree_refinement.specs.LentValues.{lent_values}
use Rattle.tree_refinement.proofs.Cells.{highest_by_trees, lowest_by_trees}
use Rattle.tree_refinement.proofs.Ends.{ends_alike}

one_function : (c : PlainCode) (before waits first other : Kinds) (n : ℕ) (s u : State) (t : IsStart c before waits n [] s) (t' : IsStart c first other n [] u) → t.function ≡ t'.function
one_function c before waits first other n s u t t' = same_Some t.function t'.function (sym t.is ∙ t'.is)

pub highest_alike : (c : PlainCode) (before waits first other : Kinds) (n : ℕ) (s u : State) (vs : Values) (calls steps done size : ℕ) → IsStart c before waits n [] s → BeginsWith c n s vs → IsStart c first other n [] u → BeginsWith c n u vs → 1 ≤ size → highest size (seen before c steps (begun s calls)) ≡ highest size (seen first c done (begun u calls))
highest_alike c before waits first other n s u vs calls steps done size t b t' b' some =
    highest_by_trees c before waits n s vs calls steps size t b some
    ∙ ap (λ (f : PlainFunction). cells_of_all size vs + count size f.credits) (one_function c before waits first other n s u t t')
    ∙ sym (highest_by_trees c first other n u vs calls done size t' b' some)

pub lowest_alike : (c : PlainCode) (before waits first other : Kinds) (n : ℕ) (s u : State) (vs : Values) (calls : ℕ) (ws us : List ℕ) (last end : State) (left rest steps done size : ℕ) → IsStart c before waits n [] s → BeginsWith c n s vs → IsStart c first other n [] u → BeginsWith c n u vs → s.free ≡ u.free → (x : Ends before c s calls (Value ws) last left steps) → (y : Ends first c u calls (Value us) end rest done) → 1 ≤ size → lowest size (seen before c x.enough (begun s calls)) ≡ lowest size (seen first c y.enough (begun u calls))
lowest_alike c before waits first other n s u vs calls ws us last end left rest steps done size t b t' b' free x y some =
    let alike = (ends_alike c before waits first other n [] [] s u vs calls (Value ws) (Value us) last end left rest steps done t b t' b' free x y).0 in
    lowest_by_trees c before waits n s vs alike.0 calls size ws last left steps t b some x alike.1
    ∙ ap (λ (f : PlainFunction). cells_of_all size alike.0 + cells_of_all size (lent_values f.params vs)) (one_function c before waits first other n s u t t')
    ∙ sym (lowest_by_trees c first other n u vs alike.0 calls size us end rest done t' b' some y alike.2)
