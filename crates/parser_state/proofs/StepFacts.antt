-- What each step that the parser makes does to the expressions before it.
use Rattle.std.proofs.Common.{Vec, Global, ◌≡◌, ℕ, ℤ, Bool, List, [], ◌∷◌, ◌++◌, map, refl, sym, ap, ◌∙◌}
use Rattle.fip_language.specs.declared.Place.{Place}
use Rattle.fip_language.specs.Surface as S
use Rattle.fip_base.specs.CoreView as core
use Rattle.fip_base.specs.SurfaceView as surface
use Rattle.fip_base.specs.SurfaceView.{action, acted, kept, top, below}
use Rattle.fip_base.specs.declared.core_form.Written.{Written}
use Rattle.fip_base.specs.declared.surface.Step.{Step}
use Rattle.fip_base.specs.declared.surface.Step.TheVariants as V
use Rattle.fip_base.specs.declared.surface.Step.TheFolds.{fold-roll-Expression, fold-roll-Block, fold-roll-Let, fold-roll-Clause}
use Rattle.fip_base.specs.declared.surface.Expression.{Expression, roll-Expression}
use Rattle.fip_base.specs.declared.surface.Block.{Block, out-Block, roll-Block}
use Rattle.fip_base.specs.declared.surface.Let.{Let, roll-Let}
use Rattle.fip_base.specs.declared.surface.Clause.{Clause, roll-Clause}
use Rattle.fip_base.specs.declared.surface.Pattern.{Pattern}
use Rattle.fip_base.specs.declared.surface.Bind.{Bind}
use Rattle.fip_language.specs.Core as C
use Rattle.fip_base.proofs.SurfaceLayers.{block_view, action_literal, action_call, action_constructor, action_tuple, action_match}
use Rattle.fip_grammar.specs.Machine as M
use Rattle.parser_state.specs.declared.state.Body.{Body}
use Rattle.parser_state.specs.StateView as view
use Rattle.parser_state.proofs.StateFacts.{left_push, types_as, expressions_as, clauses_as, block_as, last_of_block, one_as_top}
use Rattle.std.proofs.lemmas.List.{map_push}

pub map_twice : (cs : List Clause) → view.clauses cs ≡ map view.clause_of (map surface.clause cs)
map_twice [] = refl
map_twice (c ∷ cs) = ap (λ z. view.clause_of (surface.clause c) ∷ z) (map_twice cs)

-- After a step, the machine's operand is what the step leaves.

pub pushed : (new old : List Step) (s : Step) (a : surface.Action) → new ≡ old ++ s ∷ [] → action s ≡ a → view.left new ≡ acted a (view.left old) ∷ kept a (view.left old)
pushed new old s a h k = ap view.left h ∙ left_push old s ∙ ap (λ z. acted z (view.left old) ∷ kept z (view.left old)) k

abbrev After : Body → surface.Action → M.Next
After b a = M.in_body (M.AtOperator (acted a (view.operands b))) (view.body_with b (kept a (view.operands b)))

pub at_literal : (b : Body) (i j : ℤ) (p : Place) → i ≡ j → After b (surface.Leaves (S.Literal j p)) ≡ After b (action (V.Literal i p))
at_literal b i j p h = ap (λ z. After b (surface.Leaves (S.Literal z p))) (sym h) ∙ ap (After b) (sym (action_literal i p))

pub at_call : (b : Body) (x : List ℕ) (p : Place) (ts : Vec Written Global) (es : Vec Expression Global) (done : List S.Expression) → done ≡ map surface.expression es.items → M.in_body (M.AtOperator (S.Call x p (M.onto_types (map core.written ts.items) C.NoWritten) (M.onto_expressions done S.NoExpressions))) (view.body b) ≡ After b (action (V.Call x p ts es))
at_call b x p ts es done h =
    ap (λ z. After b (surface.Leaves (S.Call x p z (M.onto_expressions done S.NoExpressions)))) (types_as (map core.written ts.items))
    ∙ ap (λ z. After b (surface.Leaves (S.Call x p (core.writtens ts.items) z))) (expressions_as done ∙ ap surface.expressions_of h)
    ∙ ap (After b) (sym (action_call x p ts es))

pub at_constructor : (b : Body) (x : List ℕ) (p : Place) (es : Vec Expression Global) (done : List S.Expression) → done ≡ map surface.expression es.items → M.in_body (M.AtOperator (S.Constructor x p (M.onto_expressions done S.NoExpressions))) (view.body b) ≡ After b (action (V.Constructor x p es))
at_constructor b x p es done h =
    ap (λ z. After b (surface.Leaves (S.Constructor x p z))) (expressions_as done ∙ ap surface.expressions_of h)
    ∙ ap (After b) (sym (action_constructor x p es))

pub at_tuple : (b : Body) (p : Place) (es : Vec Expression Global) (done : List S.Expression) → done ≡ map surface.expression es.items → M.in_body (M.AtOperator (S.Tuple p (M.onto_expressions done S.NoExpressions))) (view.body b) ≡ After b (action (V.Tuple p es))
at_tuple b p es done h =
    ap (λ z. After b (surface.Leaves (S.Tuple p z))) (expressions_as done ∙ ap surface.expressions_of h)
    ∙ ap (After b) (sym (action_tuple p es))

pub at_match : (b : Body) (d : Bool) (p : Place) (cs : Vec Clause Global) → M.close_match (record { destructive = d; place = p; scrutinee = view.operand b; clauses = view.clauses cs.items }) (view.under_operand b) ≡ After b (action (V.Match d p cs))
at_match b d p cs =
    ap (λ z. M.in_body (M.AtOperator (S.Match d p (view.operand b) z)) (view.under_operand b)) (ap (λ z. M.onto_clauses z S.NoClauses) (map_twice cs.items) ∙ clauses_as (map surface.clause cs.items))
    ∙ ap (After b) (sym (action_match d p cs))

-- a part more, and a let more

last_of_view : (b : Block) → M.last_of (surface.block b) ≡ surface.expression (out-Block b).last
last_of_view b = ap M.last_of (block_view b) ∙ last_of_block (map surface.let_part (out-Block b).lets.items) (surface.expression (out-Block b).last)

pub part_pushed : (b : Block) (new done : List Expression) → new ≡ done ++ (out-Block b).last ∷ [] → map surface.expression new ≡ M.part (surface.block b) (map surface.expression done)
part_pushed b new done h =
    ap (map surface.expression) h
    ∙ map_push surface.expression done (out-Block b).last
    ∙ ap (λ z. map surface.expression done ++ z ∷ []) (sym (last_of_view b))

clause_rolled : (q : Pattern) (y : Block) → surface.clause (roll-Clause (record { pattern = q; body = y })) ≡ record { pattern = surface.pattern q; body = surface.block y }
clause_rolled q y =
    fold-roll-Clause surface.Action S.Block surface.Case S.Expression surface.LetPart surface.step_action surface.block_step surface.clause_step
    surface.expression_step surface.let_step (record { pattern = q; body = y })

let_rolled : (bs : Vec Bind Global) (e : Expression) → surface.let_part (roll-Let (record { binds = bs; bound = e })) ≡ record { binds = map surface.bind bs.items; bound = surface.expression e }
let_rolled bs e =
    fold-roll-Let surface.Action S.Block surface.Case S.Expression surface.LetPart surface.step_action surface.block_step surface.clause_step
    surface.expression_step surface.let_step (record { binds = bs; bound = e })

expression_rolled : (steps : Vec Step Global) → surface.expression (roll-Expression (record { steps = steps })) ≡ surface.one_of (view.left steps.items)
expression_rolled steps =
    fold-roll-Expression surface.Action S.Block surface.Case S.Expression surface.LetPart surface.step_action surface.block_step surface.clause_step
    surface.expression_step surface.let_step (record { steps = steps })

block_rolled : (ls : Vec Let Global) (e : Expression) → surface.block (roll-Block (record { lets = ls; last = e })) ≡ surface.block_of (map surface.let_part ls.items) (surface.expression e)
block_rolled ls e =
    fold-roll-Block surface.Action S.Block surface.Case S.Expression surface.LetPart surface.step_action surface.block_step surface.clause_step
    surface.expression_step surface.let_step (record { lets = ls; last = e })

pub clause_pushed : (new old : List Clause) (q : Pattern) (y : Block) → new ≡ old ++ roll-Clause (record { pattern = q; body = y }) ∷ [] → view.clauses new ≡ view.clauses old ++ record { pattern = surface.pattern q; body = surface.block y } ∷ []
clause_pushed new old q y h =
    ap view.clauses h
    ∙ map_push (λ c. view.clause_of (surface.clause c)) old (roll-Clause (record { pattern = q; body = y }))
    ∙ ap (λ z. view.clauses old ++ view.clause_of z ∷ []) (clause_rolled q y)

-- an expression of just one
one_view : (steps : Vec Step Global) → below (view.left steps.items) ≡ [] → surface.expression (roll-Expression (record { steps = steps })) ≡ top (view.left steps.items)
one_view steps h = expression_rolled steps ∙ one_as_top (view.left steps.items) h

pub let_pushed : (new old : List Let) (bs : Vec Bind Global) (steps : Vec Step Global) → new ≡ old ++ roll-Let (record { binds = bs; bound = roll-Expression (record { steps = steps }) }) ∷ [] → below (view.left steps.items) ≡ [] → view.bindings new ≡ view.bindings old ++ record { binds = map surface.bind bs.items; bound = top (view.left steps.items) } ∷ []
let_pushed new old bs steps h one =
    let l = roll-Let (record { binds = bs; bound = roll-Expression (record { steps = steps }) }) in
    ap view.bindings h
    ∙ map_push (λ x. view.binding_of (surface.let_part x)) old l
    ∙ ap (λ z. view.bindings old ++ view.binding_of z ∷ []) (let_rolled bs (roll-Expression (record { steps = steps })))
    ∙ ap (λ z. view.bindings old ++ record { binds = map surface.bind bs.items; bound = z } ∷ []) (one_view steps one)

bindings_twice : (ls : List Let) → view.bindings ls ≡ map view.binding_of (map surface.let_part ls)
bindings_twice [] = refl
bindings_twice (l ∷ ls) = ap (λ z. view.binding_of (surface.let_part l) ∷ z) (bindings_twice ls)

pub block_made : (ls : Vec Let Global) (steps : Vec Step Global) → below (view.left steps.items) ≡ [] → M.onto_block (view.bindings ls.items) (S.Last (top (view.left steps.items))) ≡ surface.block (roll-Block (record { lets = ls; last = roll-Expression (record { steps = steps }) }))
block_made ls steps one =
    ap (λ z. M.onto_block z (S.Last (top (view.left steps.items)))) (bindings_twice ls.items)
    ∙ block_as (map surface.let_part ls.items) (top (view.left steps.items))
    ∙ ap (surface.block_of (map surface.let_part ls.items)) (sym (one_view steps one))
    ∙ sym (block_rolled ls (roll-Expression (record { steps = steps })))
