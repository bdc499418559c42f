-- No part is missing from what the walk gives.
use Rattle.std.proofs.Common.{ℕ, Option, List, [], ◌∷◌, ◌+◌, Bool, true, false, ◌||◌, if◌then◌else◌}
use Rattle.fip_base.specs.declared.plain.Param.{Param}
use Rattle.fip_trees.specs.Tree.{Argument, Variable, Literal, Constructor, Arguments, NoArguments, MoreArguments, Expression, Give, Tuple, Operation, Call, Match, Nested, Block, Last, Let, Clauses, NoClauses, MoreClauses, Instance}
use Rattle.std.specs.Prelude.{slice_get, length, ◌==◌, ◌&&◌}
use Rattle.fip_trees.specs.Sizes.{no_sizes}
use Rattle.credit_check.specs.Tallies.{marked_from}
use Rattle.derivation_trees.specs.declared.derivation.RuleName.TheVariants as R
use Rattle.fip_rules.specs.Shapes.{takes}
use Rattle.derivation_trees.specs.declared.derivation.RuleName.{RuleName}
use Rattle.derivation_trees.specs.Trees.{Tree, Branch, Trees, NoTrees, MoreTrees}
use Rattle.derivation_trees.specs.WholeTrees.{IsWhole, AreWhole}
use Rattle.derivation_walk.specs.Walked.{Guided, Owned, Asked, asked, those, weakened, node, value, values, fields, passed, params_of, rule_of, size, size_parts, binder_of, clause_owned, bound_owned, rest_owned, following, walked, walked_parts, walked_clauses, walked_instance, match_rule, credits, same_from, owned_parameters}

weakened_whole : (b : Bool) (o : Owned) (t : Tree) → IsWhole t → IsWhole (weakened b o t)
weakened_whole true o t h = h
weakened_whole false o t h = (h, tt)

mutual
  value_whole : (g : Guided) (a : Argument) → IsWhole (value g a)
  value_whole g (Variable x n p) = tt
  value_whole g (Literal i p) = tt
  value_whole g (Constructor t d c n p as') = values_whole g as'

  values_whole : (g : Guided) (as' : Arguments) → AreWhole (values g as')
  values_whole g NoArguments = tt
  values_whole g (MoreArguments a as') = (value_whole g a, values_whole g as')

fields_whole : (g : Guided) (a : Argument) → AreWhole (fields g a)
fields_whole g (Variable x n p) = tt
fields_whole g (Literal i p) = tt
fields_whole g (Constructor t d c n p as') = values_whole g as'

passed_of : (b : Bool) (t : Tree) (ts : Trees) → IsWhole t → AreWhole ts → AreWhole (if b then ts else MoreTrees t ts)
passed_of true t ts h k = k
passed_of false t ts h k = (h, k)

passed_whole : (g : Guided) (ps : List Param) (as' : Arguments) → AreWhole (passed g ps as')
passed_whole g [] as' = tt
passed_whole g (p ∷ ps) NoArguments = tt
passed_whole g (p ∷ ps) (MoreArguments a as') = passed_of (g.world.scalar p.ty || p.lent) (value g a) (passed g ps as') (value_whole g a) (passed_whole g ps as')

node_whole : (r : RuleName) (o : Owned) (xs need : List ℕ) (ts : Trees) → AreWhole ts → IsWhole (node r o xs need ts)
node_whole r o xs need ts h = weakened_whole ((length xs == length o.variables) && same_from o.credits need 1 16) o (Branch r xs (credits need) ts) h

mutual
  walked_whole : (g : Guided) (i : ℕ) (o : Owned) (e : Expression) → IsWhole (walked g i o e)
  walked_whole g i o (Give a) = node_whole (rule_of g a) o (those g (asked g i) o.variables) (asked g i).need (fields g a) (fields_whole g a)
  walked_whole g i o (Tuple p as') = node_whole R.Tuple o (those g (asked g i) o.variables) (asked g i).need (values g as') (values_whole g as')
  walked_whole g i o (Operation q p l r) = node_whole R.Scalar o (those g (asked g i) o.variables) (asked g i).need NoTrees tt
  walked_whole g i o (Call f n p as') =
      let ps = params_of (slice_get g.world.instances f) in
      node_whole R.Call o (those g (asked g i) o.variables) (asked g i).need (passed g ps as') (passed_whole g ps as')
  walked_whole g i o (Match k t p a q body cs) =
      let b = takes g.world k t in
      let has : Owned = record { variables = those g (asked g i) o.variables; credits = (asked g i).need } in
      let x = binder_of a in
      let c = clause_owned g b x has q in
      node_whole (match_rule b) o has.variables has.credits
      (MoreTrees (walked_parts g (i + 1 + 1) c (asked g (i + 1)) body) (walked_clauses g (i + 1 + (size_parts body + 1)) b x has cs))
      (parts_whole g (i + 1 + 1) c (asked g (i + 1)) body, clauses_whole g (i + 1 + (size_parts body + 1)) b x has cs)
  walked_whole g i o (Nested b) = parts_whole g (i + 1) o (asked g i) b

  parts_whole : (g : Guided) (i : ℕ) (o : Owned) (a : Asked) (b : Block) → IsWhole (walked_parts g i o a b)
  parts_whole g i o a (Last e) = walked_whole g i o e
  parts_whole g i o a (Let bs e rest) =
      node_whole R.Let o (those g a o.variables) a.need
      (MoreTrees (walked g i (bound_owned g a (asked g i) o) e) (MoreTrees (walked_parts g (i + size e) (rest_owned g a (asked g i) o bs) (following a (asked g i)) rest) NoTrees))
      (walked_whole g i (bound_owned g a (asked g i) o) e, (parts_whole g (i + size e) (rest_owned g a (asked g i) o bs) (following a (asked g i)) rest, tt))

  clauses_whole : (g : Guided) (i : ℕ) (taken : Bool) (x : Option ℕ) (o : Owned) (cs : Clauses) → AreWhole (walked_clauses g i taken x o cs)
  clauses_whole g i taken x o NoClauses = tt
  clauses_whole g i taken x o (MoreClauses q body cs) =
      (parts_whole g (i + 1) (clause_owned g taken x o q) (asked g i) body, clauses_whole g (i + (size_parts body + 1)) taken x o cs)

pub instance_whole : (g : Guided) (d : Instance) → IsWhole (walked_instance g d)
instance_whole g d = parts_whole g (0 + 1) (record { variables = owned_parameters g [] 0 d.params; credits = marked_from no_sizes d.credits }) (asked g 0) d.body
