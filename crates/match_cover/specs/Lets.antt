-- It serves the search: the lets of a body as it lies in memory, the binders of each.
use Rattle.std.specs.Prelude.{List, [], ◌∷◌, ◌++◌}
use Rattle.fip_trees.specs.declared.program.Binder.{Binder}
use Rattle.fip_trees.specs.declared.program.Expression.{Expression}
use Rattle.fip_trees.specs.declared.program.Expression.TheOpen as E
use Rattle.fip_trees.specs.declared.program.Expression.TheFolds.{fold-Expression, fold-Block, fold-Binding, fold-Clause}
use Rattle.fip_trees.specs.declared.program.Block.{Block}
use Rattle.fip_trees.specs.declared.program.Binding.{Binding}
use Rattle.fip_trees.specs.declared.program.Clause.{Clause}
use Rattle.match_cover.specs.PatternView.{joined}

abbrev pub Lets : Type 0
Lets = List (List Binder)

abbrev pub expression_step : E.Expression-F Lets Lets Lets Lets → Lets
expression_step (E.Give a) = []
expression_step (E.Tuple p xs) = []
expression_step (E.Operation o p l r) = []
expression_step (E.Call g n p xs) = []
expression_step (E.Match k u p a c cs) = c.value ++ joined cs.items
expression_step (E.Nested b) = b.value

abbrev pub binding_step : E.Binding-F Lets Lets Lets Lets → Lets
binding_step b = b.binders.items ∷ b.bound

abbrev pub block_step : E.Block-F Lets Lets Lets Lets → Lets
block_step b = joined b.bindings.items ++ b.last

abbrev pub clause_step : E.Clause-F Lets Lets Lets Lets → Lets
clause_step c = c.body

-- all lets of an expression and so on
abbrev pub expression_lets : Expression → Lets
expression_lets = fold-Expression Lets Lets Lets Lets expression_step binding_step block_step clause_step

abbrev pub binding_lets : Binding → Lets
binding_lets = fold-Binding Lets Lets Lets Lets expression_step binding_step block_step clause_step

abbrev pub block_lets : Block → Lets
block_lets = fold-Block Lets Lets Lets Lets expression_step binding_step block_step clause_step

abbrev pub clause_lets : Clause → Lets
clause_lets = fold-Clause Lets Lets Lets Lets expression_step binding_step block_step clause_step
