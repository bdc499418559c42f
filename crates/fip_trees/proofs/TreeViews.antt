-- The views of trees at each of their forms, and of lists of them.
use Rattle.std.proofs.Common.{◌≡◌, ℕ, suc, List, [], ◌∷◌, length, Vec, Global, refl, sym, ap, ◌∙◌, map}
use Rattle.std.specs.declared.boxed.Box.{Box}
use Rattle.fip_base.specs.fip_language.declared.Place.{Place}
use Rattle.fip_base.specs.declared.core_form.MatchKind.{MatchKind}
use Rattle.fip_trees.specs.Tree as T
use Rattle.fip_trees.specs.Tree.{Name, count, count_patterns}
use Rattle.fip_trees.specs.declared.program.Binder.{Binder}
use Rattle.fip_trees.specs.declared.program.Argument.{Argument}
use Rattle.fip_trees.specs.declared.program.Argument.TheOpen as A
use Rattle.fip_trees.specs.declared.program.Argument.TheVariants as AV
use Rattle.fip_trees.specs.declared.program.Argument.TheFolds.{fold-roll-Argument}
use Rattle.fip_trees.specs.declared.program.Pattern.{Pattern}
use Rattle.fip_trees.specs.declared.program.Pattern.TheOpen as P
use Rattle.fip_trees.specs.declared.program.Pattern.TheVariants as PV
use Rattle.fip_trees.specs.declared.program.Pattern.TheFolds.{fold-roll-Pattern}
use Rattle.fip_trees.specs.declared.program.Expression.{Expression}
use Rattle.fip_trees.specs.declared.program.Expression.TheOpen as E
use Rattle.fip_trees.specs.declared.program.Expression.TheVariants as EV
use Rattle.fip_trees.specs.declared.program.Expression.TheFolds.{fold-roll-Expression, fold-roll-Block, fold-roll-Binding, fold-roll-Clause, fold_out-Block, fold_out-Binding, fold_out-Clause}
use Rattle.fip_trees.specs.declared.program.Block.{Block, out-Block, roll-Block}
use Rattle.fip_trees.specs.declared.program.Binding.{Binding, out-Binding, roll-Binding}
use Rattle.fip_trees.specs.declared.program.Clause.{Clause, out-Clause, roll-Clause}
use Rattle.fip_trees.specs.TreeView.{BoundPart, Case, argument, argument_step, arguments, pattern, pattern_step, patterns, is_destructive, expression, expression_step, binding, binding_step, block, block_of, block_step, clause, clause_step, clauses}

pub argument_constructor : (u d c : ℕ) (n : Name) (p : Place) (xs : Vec Argument Global) → argument (AV.Constructor u d c n p xs) ≡ T.Constructor u d c n p (arguments xs.items)
argument_constructor u d c n p xs = ap argument (sym (AV.rolls-Constructor u d c n p xs)) ∙ fold-roll-Argument T.Argument argument_step (A.Constructor u d c n p xs)

pub pattern_constructor : (u d c : ℕ) (n : Name) (p : Place) (xs : Vec Pattern Global) → pattern (PV.Constructor u d c n p xs) ≡ T.ConstructorPattern u d c n p (patterns xs.items)
pattern_constructor u d c n p xs = ap pattern (sym (PV.rolls-Constructor u d c n p xs)) ∙ fold-roll-Pattern T.Pattern pattern_step (P.Constructor u d c n p xs)

pub expression_match : (k : MatchKind) (u : ℕ) (p : Place) (a : Argument) (c : Box Clause Global) (cs : Vec Clause Global) → expression (EV.Match k u p a c cs) ≡ T.Match (is_destructive k) u p (argument a) (clause c.value).pattern (clause c.value).body (clauses cs.items)
expression_match k u p a c cs = ap expression (sym (EV.rolls-Match k u p a c cs)) ∙ fold-roll-Expression T.Expression BoundPart T.Block Case expression_step binding_step block_step clause_step (E.Match k u p a c cs)

pub expression_nested : (b : Box Block Global) → expression (EV.Nested b) ≡ T.Nested (block b.value)
expression_nested b = ap expression (sym (EV.rolls-Nested b)) ∙ fold-roll-Expression T.Expression BoundPart T.Block Case expression_step binding_step block_step clause_step (E.Nested b)

pub block_is : (d : Block) → block d ≡ block_of (map binding (out-Block d).bindings.items) (expression (out-Block d).last)
block_is d = fold_out-Block T.Expression BoundPart T.Block Case expression_step binding_step block_step clause_step d

pub clause_is : (d : Clause) → clause d ≡ record { pattern = pattern (out-Clause d).pattern; body = block (out-Clause d).body }
clause_is d = fold_out-Clause T.Expression BoundPart T.Block Case expression_step binding_step block_step clause_step d

pub binding_is : (d : Binding) → binding d ≡ record { binders = (out-Binding d).binders.items; bound = expression (out-Binding d).bound }
binding_is d = fold_out-Binding T.Expression BoundPart T.Block Case expression_step binding_step block_step clause_step d

pub block_made : (made : Vec Binding Global) (last : Expression) → block (roll-Block record { bindings = made; last = last }) ≡ block_of (map binding made.items) (expression last)
block_made made last = fold-roll-Block T.Expression BoundPart T.Block Case expression_step binding_step block_step clause_step record { bindings = made; last = last }

pub binding_made : (bs : Vec Binder Global) (e : Expression) → binding (roll-Binding record { binders = bs; bound = e }) ≡ record { binders = bs.items; bound = expression e }
binding_made bs e = fold-roll-Binding T.Expression BoundPart T.Block Case expression_step binding_step block_step clause_step record { binders = bs; bound = e }

pub clause_made : (q : Pattern) (d : Block) → clause (roll-Clause record { pattern = q; body = d }) ≡ record { pattern = pattern q; body = block d }
clause_made q d = fold-roll-Clause T.Expression BoundPart T.Block Case expression_step binding_step block_step clause_step record { pattern = q; body = d }

-- what was put into a node is in it
pub clause_body : (q : Pattern) (d : Block) → (out-Clause (roll-Clause record { pattern = q; body = d })).body ≡ d
unfolding out-Clause roll-Clause denote.Hole.Carrier.out denote.Hole.Carrier.roll
clause_body q d = refl

pub block_last : (bs : Vec Binding Global) (e : Expression) → (out-Block (roll-Block record { bindings = bs; last = e })).last ≡ e
unfolding out-Block roll-Block denote.Hole.Carrier.out denote.Hole.Carrier.roll
block_last bs e = refl

-- the bindings of a block
parts : T.Block → List BoundPart
parts (T.Last e) = []
parts (T.Let bs e rest) = record { binders = bs; bound = e } ∷ parts rest

parts_of : (bs : List BoundPart) (e : T.Expression) → parts (block_of bs e) ≡ bs
unfolding parts
parts_of [] e = refl
parts_of (b ∷ bs) e = ap (λ (r : List BoundPart). b ∷ r) (parts_of bs e)

pub rolled_bindings : (bs : Vec Binding Global) (e : Expression) → map binding (out-Block (roll-Block record { bindings = bs; last = e })).bindings.items ≡ map binding bs.items
rolled_bindings bs e =
    let d = roll-Block record { bindings = bs; last = e } in
    sym (parts_of (map binding (out-Block d).bindings.items) (expression (out-Block d).last)) ∙ ap parts (sym (block_is d) ∙ block_made bs e) ∙ parts_of (map binding bs.items) (expression e)

pub count_view : (xs : List Argument) → count (arguments xs) ≡ length xs
count_view [] = refl
count_view (x ∷ xs) = ap suc (count_view xs)

pub count_patterns_view : (xs : List Pattern) → count_patterns (patterns xs) ≡ length xs
count_patterns_view [] = refl
count_patterns_view (x ∷ xs) = ap suc (count_patterns_view xs)
