-- A call is the evaluation of its callee's body, with one call less.
use Rattle.std.proofs.Common.{◌≡◌, ℕ, zero, suc, Bool, Option, Some, None, slice_get, refl}
use Rattle.fip_trees.specs.fip_language.declared.Place.{Place}
use Rattle.fip_trees.specs.fip_language.Values.{Values}
use Rattle.fip_trees.specs.fip_language.Meaning.{counted, in_frame, Environment, with_values}
use Rattle.fip_trees.proofs.fip_language.Bound.{with_values-same, in_frame-same}
use Rattle.fip_trees.specs.Tree.{Name, Arguments, Call, Instance, Program}
use Rattle.instance_semantics.specs.Meaning.{argument_values, body_run, calls_of, evaluate, evaluate_block, flat_meaning}
use Rattle.plain_eval.specs.Instances.{body_meaning, instance_meaning}

body_run-meaning : (program : Program) (k d : ℕ) (o : Option Instance) (vs : Values) → body_run (calls_of program k) d o vs k ≡ body_meaning program d o vs k
unfolding evaluate_block
body_run-meaning program k d None vs = refl
body_run-meaning program k d (Some f) vs = refl

calls_of-meaning : (program : Program) (k d i : ℕ) (vs : Values) → calls_of program (suc k) d i vs k ≡ instance_meaning program d i vs k
calls_of-meaning program k d i vs = body_run-meaning program k d (slice_get program.instances i) vs

counted_call : (program : Program) (k : ℕ) (tail : Bool) (w d g : ℕ) (vs : Values) → counted k (λ left. in_frame tail w d (λ free. calls_of program k free g vs left)) ≡ counted k (λ left. in_frame tail w d (λ free. instance_meaning program free g vs left))
counted_call program zero tail w d g vs = refl
counted_call program (suc k) tail w d g vs = in_frame-same tail w d _ _ (λ free. calls_of-meaning program k free g vs)

-- a call costs one, holds a frame outside tail position, and is its callee's body
pub evaluate_call : (program : Program) (w g : ℕ) (n : Name) (p : Place) (as' : Arguments) (tail : Bool) (d : ℕ) (env : Environment) (k : ℕ) → evaluate program w (Call g n p as') tail d env k ≡ with_values (argument_values env as') (λ vs. counted k (λ left. in_frame tail w d (λ free. instance_meaning program free g vs left)))
unfolding evaluate
evaluate_call program w g n p as' tail d env k = with_values-same (argument_values env as') _ _ (λ vs. counted_call program k tail w d g vs)

-- the entry costs a call and holds no frame
pub meaning_entry : (program : Program) (i : ℕ) (vs : Values) (n d : ℕ) → flat_meaning program i vs n d ≡ counted n (λ left. instance_meaning program d i vs left)
unfolding flat_meaning
meaning_entry program i vs zero d = refl
meaning_entry program i vs (suc n) d = calls_of-meaning program n d i vs
