-- Two runs on the same values end alike.
-- The idea: both end as the one run on trees does.
use Rattle.std.proofs.Common.{◌≡◌, ◌∙◌, ℕ, List, sym, ap, subst}
use Rattle.tree_semantics.specs.fip_language.Meaning as M
use Rattle.tree_semantics.specs.fip_language.Table.{Table}
use Rattle.tree_semantics.specs.fip_language.Values.{Values}
use Rattle.tree_semantics.specs.machine_semantics.Runs.{Run, End, Value, Trap, Out, Deep, Unsound, Going, Over, Ends}
use Rattle.tree_semantics.specs.machine_semantics.States.{State}
use Rattle.tree_semantics.specs.machine_semantics.Steps.{Kinds}
use Rattle.separation_bounds.specs.cell_code.Plain.{PlainCode, results}
use Rattle.separation_bounds.specs.separation.Starts.{IsStart}
use Rattle.separation_bounds.proofs.Ending.{ends_once}
use Rattle.tree_semantics.specs.Runs as T
use Rattle.tree_refinement.specs.Runs.{BeginsWith, IsSameEnd}
use Rattle.tree_refinement.proofs.Running.{trees_end, cells_end}
use Rattle.tree_refinement.specs.Alike.{IsAlike}

-- both are the same answer on trees
same_answer : (tb : Table) (types : List ℕ) (s u : State) (left rest : ℕ) (e d : End) (a : M.Answer) → IsSameEnd tb types s left e a → IsSameEnd tb types u rest d a → IsAlike tb types s.store e u.store d
same_answer tb types s u left rest (Value ws) (Value us) (M.Gives vs l) h k = (vs, h.0, k.0)
same_answer tb types s u left rest (Value ws) d (M.Gives vs l) h k = absurd k
same_answer tb types s u left rest (Trap kind line col) (Trap other row at) (M.Trap a b c) h k = (h.0 ∙ sym k.0, h.1 ∙ sym k.1, h.2 ∙ sym k.2)
same_answer tb types s u left rest (Trap kind line col) d (M.Trap a b c) h k = absurd k
same_answer tb types s u left rest Out Out M.Out h k = tt
same_answer tb types s u left rest Out d M.Out h k = absurd k
same_answer tb types s u left rest Deep Deep M.Deep h k = tt
same_answer tb types s u left rest Deep d M.Deep h k = absurd k
same_answer tb types s u left rest e d a h k = absurd h

abbrev end_in : Run → End
end_in (Going s left steps) = Unsound
end_in (Over e s left steps) = e

abbrev state_in : State → Run → State
state_in u (Going s left steps) = u
state_in u (Over e s left steps) = s

abbrev left_in : Run → ℕ
left_in (Going s left steps) = left
left_in (Over e s left steps) = left

abbrev steps_in : Run → ℕ
steps_in (Going s left steps) = steps
steps_in (Over e s left steps) = steps

pub ends_alike : (c : PlainCode) (before waits first other : Kinds) (n : ℕ) (kept more : List ℕ) (s u : State) (vs : Values) (calls : ℕ) (e d : End) (last end : State) (left rest steps done : ℕ) → IsStart c before waits n kept s → BeginsWith c n s vs → IsStart c first other n more u → BeginsWith c n u vs → s.free ≡ u.free → Ends before c s calls e last left steps → Ends first c u calls d end rest done → IsAlike c.types (results c n) last.store e end.store d × (left ≡ rest) × (steps ≡ done)
ends_alike c before waits first other n kept more s u vs calls e d last end left rest steps done t b t' b' free x y =
    let on_trees = trees_end c before waits n kept s vs calls e last left steps t b x in
    let there : T.after c x.enough (T.begun (T.entry n vs u.free) calls) ≡ T.Over on_trees.0 on_trees.1 left steps =
    subst (λ f. T.after c x.enough (T.begun (T.entry n vs f) calls) ≡ T.Over on_trees.0 on_trees.1 left steps) free on_trees.2 in
    let cells = cells_end c first other n more u vs calls x.enough on_trees.0 on_trees.1 left steps t' b' there in
    let once : Over d end rest done ≡ Over cells.0 cells.1 left steps = ends_once c first other first other n more u calls d cells.0 end cells.1 rest left done steps t' t'.kinds y cells.2 in
    let alike = same_answer c.types (results c n) last cells.1 left left e cells.0 on_trees.0 on_trees.3 cells.3 in
    let by_end = subst (λ k. IsAlike c.types (results c n) last.store e (cells.1).store k) (sym (ap end_in once)) alike in
    (subst (λ (v : State). IsAlike c.types (results c n) last.store e v.store d) (sym (ap (state_in end) once)) by_end, sym (ap left_in once), sym (ap steps_in once))
