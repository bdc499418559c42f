-- The views of the core tree against the definition of the core form.
use Rattle.std.proofs.Common.{Box, Vec, Global, ◌≡◌, ℕ, List, [], ◌∷◌, ◌++◌, map, refl, sym, ap, ◌∙◌}
use Rattle.std.proofs.lemmas.List.{map-append}
use Rattle.fip_base.specs.fip_language.declared.Place.{Place}
use Rattle.fip_base.specs.fip_language.Core as C
use Rattle.fip_base.specs.fip_language.CoreForm as form
use Rattle.fip_base.specs.CoreView as core
use Rattle.fip_base.specs.declared.core_form.Expression.TheOpen as O
use Rattle.fip_base.specs.declared.core_form.Expression.TheVariants as V
use Rattle.fip_base.specs.declared.core_form.Expression.TheFolds.{fold-roll-Expression, fold-roll-Block, fold_out-Block}
use Rattle.fip_base.specs.declared.core_form.Block.{Block, out-Block, roll-Block}
use Rattle.fip_base.specs.declared.core_form.Written.{Written}
use Rattle.fip_base.specs.declared.core_form.Argument.{Argument}
use Rattle.fip_base.specs.declared.core_form.Argument.TheOpen as AO
use Rattle.fip_base.specs.declared.core_form.Argument.TheVariants as A
use Rattle.fip_base.specs.declared.core_form.Argument.TheFolds.{fold-roll-Argument}
use Rattle.fip_base.specs.declared.core_form.Expression.{Expression}
use Rattle.fip_base.specs.declared.core_form.Binding as B
use Rattle.fip_core.specs.Walk.{binding_of, bindings, clauses_before}

pub block_place_block_of : (bs : List core.BoundPart) (e : C.Expression) → form.block_place (core.block_of bs e) ≡ form.place_of e
block_place_block_of [] e = refl
block_place_block_of (b ∷ bs) e = block_place_block_of bs e

pub block_of_bindings : (bs : List core.BoundPart) (e : C.Expression) → form.block_of (map binding_of bs) e ≡ core.block_of bs e
block_of_bindings [] e = refl
block_of_bindings (b ∷ bs) e = ap (λ r. C.Let b.binders b.bound r) (block_of_bindings bs e)

pub bindings_in_block_of : (bs : List core.BoundPart) (e : C.Expression) → form.bindings_in (core.block_of bs e) ≡ map binding_of bs
bindings_in_block_of [] e = refl
bindings_in_block_of (b ∷ bs) e = ap (λ r. binding_of b ∷ r) (bindings_in_block_of bs e)

pub last_in_block_of : (bs : List core.BoundPart) (e : C.Expression) → form.last_in (core.block_of bs e) ≡ e
last_in_block_of [] e = refl
last_in_block_of (b ∷ bs) e = last_in_block_of bs e

pub arguments_of_arguments_of : (as' : List C.Argument) → form.arguments_of as' ≡ core.arguments_of as'
arguments_of_arguments_of [] = refl
arguments_of_arguments_of (a ∷ as') = ap (λ r. C.MoreArguments a r) (arguments_of_arguments_of as')

pub nested_view : (b : Box Block Global) → core.expression (V.Nested b) ≡ C.Nested (core.block b.value)
nested_view b =
    ap core.expression (sym (V.rolls-Nested b))
    ∙ fold-roll-Expression C.Expression core.BoundPart C.Block core.Case core.expression_step core.binding_step core.block_step core.clause_step (O.Nested b)

pub block_view : (b : Block) → core.block b ≡ core.block_of (map core.binding (out-Block b).bindings.items) (core.expression (out-Block b).last)
block_view b =
    fold_out-Block C.Expression core.BoundPart C.Block core.Case core.expression_step core.binding_step core.block_step core.clause_step b

pub place_of_nested : (b : Block) → form.place_of (core.expression (out-Block b).last) ≡ form.block_place (core.block b)
place_of_nested b =
    sym (block_place_block_of (map core.binding (out-Block b).bindings.items) (core.expression (out-Block b).last))
    ∙ ap form.block_place (sym (block_view b))

-- lists of lets

pub bindings_push : (bs : List B.Binding) (b : B.Binding) → bindings (bs ++ b ∷ []) ≡ bindings bs ++ binding_of (core.binding b) ∷ []
bindings_push bs b = map-append (λ x. binding_of (core.binding x)) bs (b ∷ [])

pub bindings_append : (bs cs : List B.Binding) → bindings (bs ++ cs) ≡ bindings bs ++ bindings cs
bindings_append bs cs = map-append (λ x. binding_of (core.binding x)) bs cs

bindings_map : (bs : List B.Binding) → map binding_of (map core.binding bs) ≡ bindings bs
bindings_map [] = refl
bindings_map (b ∷ bs) = ap (λ r. binding_of (core.binding b) ∷ r) (bindings_map bs)

-- a block that is the last expression of another
pub last_in_nested : (ls : List form.Binding) (n : ℕ) (e : Expression) (x : Box Block Global) (b : Block) → e ≡ V.Nested x → b ≡ x.value → core.expression (out-Block b).last ≡ (form.last_from ls (core.expression e) n).expression
last_in_nested ls n e x b i j =
    sym (last_in_block_of (map core.binding (out-Block b).bindings.items) (core.expression (out-Block b).last))
    ∙ ap form.last_in (sym (block_view b))
    ∙ ap (λ y. form.last_in (core.block y)) j
    ∙ ap (λ y. (form.last_from ls y n).expression) (sym (nested_view x))
    ∙ ap (λ y. (form.last_from ls (core.expression y) n).expression) (sym i)

pub lets_in_nested : (ls : List form.Binding) (n : ℕ) (e : Expression) (x : Box Block Global) (b : Block) → e ≡ V.Nested x → b ≡ x.value → ls ++ bindings (out-Block b).bindings.items ≡ (form.last_from ls (core.expression e) n).lets
lets_in_nested ls n e x b i j =
    ap (λ y. ls ++ y)
    (sym (bindings_map (out-Block b).bindings.items)
    ∙ sym (bindings_in_block_of (map core.binding (out-Block b).bindings.items) (core.expression (out-Block b).last))
    ∙ ap form.bindings_in (sym (block_view b)))
    ∙ ap (λ y. ls ++ form.bindings_in (core.block y)) j
    ∙ ap (λ y. (form.last_from ls y n).lets) (sym (nested_view x))
    ∙ ap (λ y. (form.last_from ls (core.expression y) n).lets) (sym i)

-- the layers of an expression

pub call_view : (x : List ℕ) (p : Place) (ts : Vec Written Global) (as' : Vec Argument Global) → core.expression (V.Call x p ts as') ≡ C.Call x p (core.writtens ts.items) (core.arguments as'.items)
call_view x p ts as' =
    ap core.expression (sym (V.rolls-Call x p ts as'))
    ∙ fold-roll-Expression C.Expression core.BoundPart C.Block core.Case core.expression_step core.binding_step core.block_step core.clause_step (O.Call x p ts as')

pub tuple_view : (p : Place) (as' : Vec Argument Global) → core.expression (V.Tuple p as') ≡ C.Tuple p (core.arguments as'.items)
tuple_view p as' =
    ap core.expression (sym (V.rolls-Tuple p as'))
    ∙ fold-roll-Expression C.Expression core.BoundPart C.Block core.Case core.expression_step core.binding_step core.block_step core.clause_step (O.Tuple p as')

pub give_view : (a : Argument) → core.expression (V.Give a) ≡ C.Give (core.argument a)
give_view a =
    ap core.expression (sym (V.rolls-Give a))
    ∙ fold-roll-Expression C.Expression core.BoundPart C.Block core.Case core.expression_step core.binding_step core.block_step core.clause_step (O.Give a)

pub constructor_view : (x : List ℕ) (p : Place) (as' : Vec Argument Global) → core.argument (A.Constructor x p as') ≡ C.Constructor x p (core.arguments as'.items)
constructor_view x p as' = ap core.argument (sym (A.rolls-Constructor x p as')) ∙ fold-roll-Argument C.Argument core.argument_step (AO.Constructor x p as')

pub clauses_view : (cs : List core.Case) → clauses_before cs C.NoClauses ≡ core.clauses_of cs
clauses_view [] = refl
clauses_view (c ∷ cs) = ap (λ r. C.MoreClauses c.pattern c.body r) (clauses_view cs)

pub clauses_push : (cs : List core.Case) (c : core.Case) (rest : C.Clauses) → clauses_before (cs ++ c ∷ []) rest ≡ clauses_before cs (C.MoreClauses c.pattern c.body rest)
clauses_push [] c rest = refl
clauses_push (d ∷ cs) c rest = ap (λ r. C.MoreClauses d.pattern d.body r) (clauses_push cs c rest)

-- a block, from its bindings and its last expression
pub block_from : (b : _) → core.block (roll-Block b) ≡ form.block_of (bindings b.bindings.items) (core.expression b.last)
block_from b =
    fold-roll-Block C.Expression core.BoundPart C.Block core.Case core.expression_step core.binding_step core.block_step core.clause_step b
    ∙ sym (block_of_bindings (map core.binding b.bindings.items) (core.expression b.last))
    ∙ ap (λ x. form.block_of x (core.expression b.last)) (bindings_map b.bindings.items)
