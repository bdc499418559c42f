-- For private contracts alone: how a call's run came out, against the run that the definition says.
--
-- rev of Cons(1, Nil) and Nil, with 10 calls, came out with a value, the word of Cons(1, Nil); with 1 call it came out as
-- Out. With no instruction that can't be done does a run of sound code come out.
use Rattle.std.specs.Prelude.{◌≡◌, ℕ, List}
use Rattle.fip_machine.specs.declared.machine.Ended.{Ended}
use Rattle.fip_machine.specs.declared.machine.Ended.TheVariants as M
use Rattle.cell_code.specs.Plain.{PlainCode}
use Rattle.session_correctness.specs.tree_refinement.machine_semantics.Cells.{Store}
use Rattle.session_correctness.specs.tree_refinement.machine_semantics.Runs.{End, Value, Trap, Out, Deep, Unsound, Ends}
use Rattle.session_correctness.specs.tree_refinement.machine_semantics.States.{State}
use Rattle.session_correctness.specs.tree_refinement.machine_semantics.Steps.{Kinds}

-- the end of a run is what was answered, with these words of results
abbrev pub EndsWith : End → Ended → List ℕ → Type 0
EndsWith (Value ws) e given = (e ≡ M.Value) × (given ≡ ws)
EndsWith (Trap kind line col) e given = e ≡ M.Trap kind line col
EndsWith Out e given = e ≡ M.Out
EndsWith Deep e given = e ≡ M.Deep
EndsWith Unsound e given = ⊥

-- The run from a state, with so many calls, ended so, over this store.
pub record Came (c : PlainCode) (before : Kinds) (s : State) (calls : ℕ) (e : Ended) (given : List ℕ) (u : Store) :
    Type 0 where
  pub end : End
  pub last : State
  pub left : ℕ
  pub steps : ℕ
  pub ends : Ends before c s calls end last left steps
  pub is : EndsWith end e given
  pub store : u ≡ last.store
