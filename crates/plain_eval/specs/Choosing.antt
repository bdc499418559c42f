-- What choosing a clause does. It serves the proof that an evaluation gives what its program means.
use Rattle.std.specs.Prelude.{◌≡◌, Bool, true, false, List, Option, Some, None}
use Rattle.std.specs.Borrow.{Bor}
use Rattle.fip_trees.specs.fip_language.Values.{Value as Tree}
use Rattle.fip_trees.specs.fip_language.Matching.{Binding}
use Rattle.fip_trees.specs.fip_language.Meaning.{Environment, bind_matched}
use Rattle.fip_trees.specs.declared.program.Block.{Block}
use Rattle.fip_trees.specs.Tree as T
use Rattle.fip_trees.specs.TreeView.{block}
use Rattle.instance_semantics.specs.Matching.{matching}
use Rattle.plain_rows.specs.declared.store.Store.{Store}
use Rattle.plain_eval.specs.declared.variables.Variables.{Variables}
use Rattle.plain_eval.specs.Slots.{CoversNow}

-- whether it matched, and then its variables are bound
abbrev pub Matches : Option (List Binding) → Environment → Store → Variables → Bool → Type 0
Matches None env s vars b = b ≡ false
Matches (Some bs) env s vars b = (b ≡ true) × CoversNow s vars (bind_matched env bs)

-- the body of a clause that matched, with its variables; else nothing new
abbrev pub Tries : Option (List Binding) → T.Block → Environment → Store → Variables → Option (Bor Block) → Type 0
Tries None body env s vars o = (o ≡ None) × CoversNow s vars env
Tries (Some bs) body env s vars o = (b : Bor Block) × (o ≡ Some b) × (block b.now ≡ body)
    × CoversNow s vars (bind_matched env bs)

abbrev pub by_match : Option (List Binding) → (List Binding → Type 0) → Type 0 → Type 0
by_match None f other = other
by_match (Some bs) f other = f bs

-- the body of the first clause that matches
abbrev pub Chooses : T.Clauses → Tree → Environment → Store → Variables → Option (Bor Block) → Type 0
Chooses T.NoClauses v env s vars o = o ≡ None
Chooses (T.MoreClauses q body cs) v env s vars o =
    by_match (matching q v) (λ bs. Tries (Some bs) body env s vars o) (Chooses cs v env s vars o)
