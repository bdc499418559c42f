-- The evaluation as it goes: what waits, what is evaluated, and which answer that leads to. It serves the proof that an
-- evaluation gives what its program means.
use Rattle.std.specs.Prelude.{◌≡◌, ℕ, suc, ◌+◌, ◌*◌, ◌≤◌, List, [], ◌∷◌, map, drop}
use Rattle.fip_trees.specs.fip_language.Values.{Values}
use Rattle.fip_trees.specs.fip_language.Meaning.{Answer, Gives, Trap, Out, Deep, Stuck, Run, Environment, counted, in_frame}
use Rattle.fip_trees.specs.declared.program.Block.{Block, out-Block}
use Rattle.fip_trees.specs.Tree as T
use Rattle.fip_trees.specs.TreeView.{expression, block_of, binding}
use Rattle.instance_semantics.specs.Meaning.{bind_binders, evaluate, evaluate_block}
use Rattle.plain_eval.specs.Instances.{instance_meaning}
use Rattle.plain_rows.specs.declared.store.Value.{Value}
use Rattle.plain_rows.specs.declared.store.Store.{Store}
use Rattle.plain_rows.specs.Rows.{StandAll}
use Rattle.plain_eval.specs.declared.evaluate.Waiting.{Waiting}
use Rattle.plain_eval.specs.declared.evaluate.Here.{Here}
use Rattle.plain_eval.specs.declared.evaluate.Here.TheVariants as H
use Rattle.plain_eval.specs.declared.evaluate.Step.{Step}
use Rattle.plain_eval.specs.declared.evaluate.Step.TheVariants as S
use Rattle.plain_eval.specs.declared.evaluate.Evaluation.{Evaluation}
use Rattle.plain_eval.specs.Slots.{Covers, CoversNow}
use Rattle.plain_eval.specs.Work.{expression_size, block_size}

-- a block from a binding on
unfoldable pub rest_of : Block → ℕ → T.Block
rest_of b n = block_of (drop n (map binding (out-Block b).bindings.items)) (expression (out-Block b).last)

-- a binding that waits, with the words of its function's frame and its variables' values
pub record Held : Type 0 where
  pub waiting : Waiting
  pub words : ℕ
  pub env : Environment

abbrev pub waiting_of : Held → Waiting
waiting_of h = h.waiting

-- what becomes of an answer where one binding waits for it, and where many do, the last one first
abbrev pub handed : T.Program → Held → Answer → Answer
handed p h (Gives vs left) =
    (evaluate_block p h.words (rest_of h.waiting.block.now h.waiting.next) h.waiting.is_tail h.waiting.frames
    (bind_binders h.env h.waiting.binders.now vs) left).answer
handed p h (Trap kind line col) = Trap kind line col
handed p h Out = Out
handed p h Deep = Deep
handed p h Stuck = Stuck

unfoldable pub resume : T.Program → List Held → Answer → Answer
resume p [] a = a
resume p (h ∷ hs) a = handed p h (resume p hs a)

-- where the variables of the last one that waits end
unfoldable pub last_end : ℕ → List Waiting → ℕ
last_end n [] = n
last_end n (w ∷ ws) = last_end w.end ws

-- the slots of those that wait stand for their variables' values; each has its slots after those of the one before, or
-- the same
unfoldable pub AllHeld : Store → List Value → ℕ → List Held → Type 0
AllHeld s values low [] = Unit {0}
AllHeld s values low (h ∷ hs) =
    (low ≤ h.waiting.end) × Covers s values h.waiting.base h.waiting.end h.env × AllHeld s values h.waiting.end hs

-- those that wait in an evaluation
pub record Waits (e : Evaluation) : Type 0 where
  pub hs : List Held
  pub waiting : map waiting_of hs ≡ e.waiting.items
  pub held : AllHeld e.store e.variables.values.items 0 hs

-- a run of what is evaluated now, with the values of its variables, leads to this answer
pub record Leads (p : T.Program) (e : Evaluation) (run : Environment → ℕ → Run) (a : Answer) : Type 0 where
  pub waits : Waits e
  pub env : Environment
  pub words : ℕ
  pub covers : CoversNow e.store e.variables env
  pub following : last_end 0 e.waiting.items ≤ e.variables.end
  pub given : e.given.items ≡ []
  pub means : resume p waits.hs (run env words).answer ≡ a

-- the values that were given, handed on by what is to come, lead to this answer
pub record Hands (p : T.Program) (e : Evaluation) (go : Values → Answer) (a : Answer) : Type 0 where
  pub waits : Waits e
  pub vs : Values
  pub stand : StandAll e.store e.given.items vs
  pub means : resume p waits.hs (go vs) ≡ a

abbrev pub LeadsAt : T.Program → Evaluation → Here → Answer → Type 0
LeadsAt p e (H.Block b n) a =
    Leads p e (λ env words. evaluate_block p words (rest_of b.now n) e.is_tail e.frames env e.calls) a
LeadsAt p e (H.Expression x) a =
    Leads p e (λ env words. evaluate p words (expression x.now) e.is_tail e.frames env e.calls) a
LeadsAt p e H.Given a = Hands p e (λ vs. Gives vs e.calls) a

-- a call of this instance, whose arguments are given
abbrev pub LeadsIn : T.Program → Evaluation → ℕ → Answer → Type 0
LeadsIn p e g a = (words : ℕ)
    × Hands p e (λ vs. (counted e.calls
    (λ left. in_frame e.is_tail words e.frames (λ free. instance_meaning p free g vs left))).answer) a

abbrev pub Reaches : T.Program → Evaluation → Step → Answer → Type 0
Reaches p e (S.Went here) a = LeadsAt p e here a
Reaches p e S.Value a = (vs : Values) × (left : ℕ) × (a ≡ Gives vs left) × StandAll e.store e.given.items vs
Reaches p e (S.Trap kind place) a = a ≡ Trap kind place.line place.col
Reaches p e S.Out a = a ≡ Out
Reaches p e S.Deep a = a ≡ Deep

-- the evaluation is over
abbrev pub IsLast : Step → Type 0
IsLast (S.Went here) = ⊥
IsLast S.Value = Unit {0}
IsLast (S.Trap kind place) = Unit {0}
IsLast S.Out = Unit {0}
IsLast S.Deep = Unit {0}

-- ---- the work that is left

abbrev pub here_size : Here → ℕ
here_size (H.Block b n) = block_size (rest_of b.now n)
here_size (H.Expression x) = expression_size (expression x.now)
here_size H.Given = 0

unfoldable pub waiting_size : List Waiting → ℕ
waiting_size [] = 0
waiting_size (w ∷ ws) = suc (block_size (rest_of w.block.now w.next)) + waiting_size ws

abbrev pub work : ℕ → ℕ → ℕ → List Waiting → ℕ
work most calls size ws = (1 + most) * calls + (size + waiting_size ws)

abbrev pub step_size : Step → ℕ
step_size (S.Went here) = suc (here_size here)
step_size S.Value = 0
step_size (S.Trap kind place) = 0
step_size S.Out = 0
step_size S.Deep = 0
