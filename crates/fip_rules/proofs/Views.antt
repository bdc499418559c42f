-- The walk's arms on the code's trees.
use Rattle.std.proofs.Common.{◌≡◌, ℕ, ℤ, ◌≤◌, refl, sym, ap, ◌∙◌, List, [], ◌∷◌, drop, length, map, Vec, Global, Bool, true, false, not, arith}
use Rattle.std.specs.Prelude.{◌==◌}
use Rattle.std.specs.declared.boxed.Box.{Box}
use Rattle.std.proofs.lemmas.Bool.Decides.{nat_tests}
use Rattle.fip_base.specs.declared.core_form.MatchKind.{MatchKind}
use Rattle.fip_trees.specs.declared.program.Expression.{Expression}
use Rattle.fip_trees.specs.declared.program.Expression.TheVariants as EV
use Rattle.fip_rules.specs.Notes.{distinct}
use Rattle.std.proofs.lemmas.Grind.{common_steps}
use Rattle.fip_trees.specs.fip_language.declared.Place.{Place}
use Rattle.fip_trees.specs.Tree as T
use Rattle.fip_trees.specs.Tree.{Name}
use Rattle.fip_trees.specs.TreeView.{argument, argument_step, arguments, binding, block, block_of, clause, clauses, expression, is_destructive}
use Rattle.fip_trees.specs.declared.program.Argument.{Argument}
use Rattle.fip_trees.specs.declared.program.Argument.TheOpen as A
use Rattle.fip_trees.specs.declared.program.Argument.TheVariants as AV
use Rattle.fip_trees.specs.declared.program.Argument.TheFolds.{fold-roll-Argument}
use Rattle.fip_trees.specs.declared.program.Block.{Block, out-Block}
use Rattle.fip_trees.specs.declared.program.Binding.{Binding}
use Rattle.fip_trees.specs.declared.program.Clause.{Clause}
use Rattle.fip_trees.proofs.TreeViews.{argument_constructor, block_is, expression_match}
use Rattle.fip_rules.specs.World.{World}
use Rattle.fip_rules.specs.Shapes.{Names, owning, lending, owning_all, passing, token, takes, taking, binders, clause_shape, shape, shape_block, shape_clauses}
use Rattle.fip_rules.specs.Shape as S
use Rattle.fip_trees.specs.fip_language.declared.rule.Rule.TheVariants.{E54}
use Rattle.fip_rules.specs.Stands.{Stand, marks, names, go, went, aside, others}
use Rattle.fip_rules.proofs.Theorems.{go_skip}
use Rattle.fip_rules.proofs.Steps.{lending_scalar, lending_fault, match_step, one_clause, clauses_step}

argument_literal : (i : ℤ) (p : Place) → argument (AV.Literal i p) ≡ T.Literal i p
argument_literal i p = ap argument (sym (AV.rolls-Literal i p)) ∙ fold-roll-Argument T.Argument argument_step (A.Literal i p)

pub own_literal : (t : Stand) (a : Argument) (i : ℤ) (p : Place) → a ≡ AV.Literal i p → t ≡ go t (owning (marks t) (argument a))
own_literal t a i p h = sym (ap (λ x. go t (owning (marks t) x)) (ap argument h ∙ argument_literal i p) ∙ go_skip t)

pub lend_literal : (t : Stand) (w : World) (a : Argument) (i : ℤ) (p : Place) → a ≡ AV.Literal i p → t ≡ go t (lending w (marks t) (argument a))
lend_literal t w a i p h = sym (ap (λ x. go t (lending w (marks t) x)) (ap argument h ∙ argument_literal i p) ∙ go_skip t)

pub lend_scalar : (t : Stand) (w : World) (a : Argument) (ty d c : ℕ) (n : Name) (p : Place) (xs : Vec Argument Global) → a ≡ AV.Constructor ty d c n p xs → w.scalar ty ≡ true → t ≡ go t (lending w (marks t) (argument a))
lend_scalar t w a ty d c n p xs h e = lending_scalar t w ty d c n p (arguments xs.items) e ∙ sym (ap (λ x. go t (lending w (marks t) x)) (ap argument h ∙ argument_constructor ty d c n p xs))

pub lend_fault : (t t1 t2 : Stand) (w : World) (a : Argument) (ty d c : ℕ) (n : Name) (p : Place) (xs : Vec Argument Global) → a ≡ AV.Constructor ty d c n p xs → w.scalar ty ≡ false → t1 ≡ go t (S.Fault E54 (token p n)) → t2 ≡ go t1 (owning_all (marks t1) (arguments xs.items)) → t2 ≡ go t (lending w (marks t) (argument a))
lend_fault t t1 t2 w a ty d c n p xs h e f g = lending_fault t t1 t2 w ty d c n p (arguments xs.items) e f g ∙ sym (ap (λ x. go t (lending w (marks t) x)) (ap argument h ∙ argument_constructor ty d c n p xs))

pub none_left : (xs : List Binding) (i : ℕ) → length xs ≤ i → map binding (drop i xs) ≡ []
none_left xs i h = let e : drop i xs ≡ [] = grind (arith, common_steps) in ap (λ q. map binding q) e

pub block_first : (d : Block) (xs : List Binding) → xs ≡ (out-Block d).bindings.items → block d ≡ block_of (map binding xs) (expression (out-Block d).last)
block_first d xs e = block_is d ∙ sym (ap (λ q. block_of (map binding q) (expression (out-Block d).last)) e)

no_clauses : (xs : List Clause) → length xs ≡ 0 → clauses xs ≡ T.NoClauses
no_clauses [] h = refl
no_clauses (x ∷ xs) h = absurd (omega arith)

some_clauses : (xs : List Clause) → (length xs ≡ 0 → ⊥) → clauses xs ≡ T.NoClauses → ⊥
some_clauses [] h e = h refl
some_clauses (x ∷ xs) h e = absurd (cc)

is_zero : (n m : ℕ) → true ≡ (n == 0) → n ≡ m → m ≡ 0
is_zero n m h e = grind (arith, nat_tests)

not_zero : (n m : ℕ) → false ≡ (n == 0) → n ≡ m → m ≡ 0 → ⊥
not_zero n m h e g = grind (arith, nat_tests)

-- a match of one clause, and of more
pub match_one : (t t1 t2 : Stand) (w : World) (e : Expression) (k : MatchKind) (u : ℕ) (p : Place) (a : Argument) (c : Box Clause Global) (cs : Vec Clause Global) (taken : Bool) → e ≡ EV.Match k u p a c cs → taken ≡ takes w (is_destructive k) u → true ≡ (cs.len == 0) → t1 ≡ go t (passing w (marks t) (not taken) (argument a)) → t2 ≡ went t1 (taking w taken (binders (clause c.value).pattern)) (λ d. shape_block w d (clause c.value).body) → t2 ≡ go t (shape w (names t) (expression e))
match_one t t1 t2 w e k u p a c cs taken h b z f g =
    one_clause t t1 t2 w (is_destructive k) (not taken) u p (argument a) (clause c.value).pattern (clause c.value).body (clauses cs.items) (no_clauses cs.items (is_zero cs.len (length cs.items) z cs.ok.0)) (ap not b) f (g ∙ ap (λ q. went t1 (taking w q (binders (clause c.value).pattern)) (λ d. shape_block w d (clause c.value).body)) b)
    ∙ sym (ap (λ x. go t (shape w (names t) x)) (ap expression h ∙ expression_match k u p a c cs))

pub match_more : (t t1 t2 t3 t4 : Stand) (w : World) (e : Expression) (k : MatchKind) (u : ℕ) (p : Place) (a : Argument) (c : Box Clause Global) (cs : Vec Clause Global) (taken : Bool) (later sure : List ℕ) (ku ka : ℕ) → e ≡ EV.Match k u p a c cs → taken ≡ takes w (is_destructive k) u → false ≡ (cs.len == 0) → t1 ≡ go t (passing w (marks t) (not taken) (argument a)) → ku ≡ length t1.walked.used → ka ≡ length t1.walked.always → t2 ≡ went t1 (taking w taken (binders (clause c.value).pattern)) (λ d. shape_block w d (clause c.value).body) → later ≡ drop ku t2.walked.used → sure ≡ distinct (drop ka t2.walked.always) → t3 ≡ aside ku ka t2 → t4 ≡ others w taken ku ka t3 later sure (clauses cs.items) → t4 ≡ go t (shape w (names t) (expression e))
match_more t t1 t2 t3 t4 w e k u p a c cs taken later sure ku ka h b z f x y g l m n o =
    let F : Names → S.Shape = λ d. shape_block w d (clause c.value).body in
    match_step t t1 t4 w (is_destructive k) (not taken) u p (argument a) (clause c.value).pattern (clause c.value).body (clauses cs.items) (ap not b) f
    (clauses_step t1 t2 t3 t4 w taken (taking w taken (binders (clause c.value).pattern)) F (clauses cs.items) later sure ku ka x y g l m n o (some_clauses cs.items (not_zero cs.len (length cs.items) z cs.ok.0))
    ∙ ap (λ q. go t1 (shape_clauses w q (names t1) (clause_shape (names t1) (taking w q (binders (clause c.value).pattern)) F) (clauses cs.items))) b)
    ∙ sym (ap (λ x. go t (shape w (names t) x)) (ap expression h ∙ expression_match k u p a c cs))
