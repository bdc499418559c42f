-- The arms of the walk, over plain variables.
use Rattle.std.proofs.Common.{◌≡◌, ℕ, ◌≤◌, refl, sym, ap, ◌∙◌, List, [], ◌∷◌, drop, length, map, Vec, Global, Bool, not, arith}
use Rattle.std.specs.declared.boxed.Box.{Box}
use Rattle.std.proofs.lemmas.Grind.{common_steps}
use Rattle.fip_language.specs.declared.Place.{Place}
use Rattle.fip_base.specs.declared.core_form.MatchKind.{MatchKind}
use Rattle.fip_trees.specs.Tree as T
use Rattle.fip_trees.specs.TreeView.{BoundPart, Case, argument, is_destructive, expression, binding, block, block_of, clause, clauses}
use Rattle.fip_trees.specs.declared.program.Argument.{Argument}
use Rattle.fip_trees.specs.declared.program.Expression.{Expression}
use Rattle.fip_trees.specs.declared.program.Expression.TheVariants as EV
use Rattle.fip_trees.specs.declared.program.Block.{Block, out-Block}
use Rattle.fip_trees.specs.declared.program.Binding.{Binding, out-Binding}
use Rattle.fip_trees.specs.declared.program.Clause.{Clause}
use Rattle.fip_trees.specs.declared.program.Binder.{Binder}
use Rattle.fip_trees.proofs.TreeViews.{expression_match, block_is, binding_is}
use Rattle.fip_rules.specs.World.{World}
use Rattle.fip_rules.specs.Shapes.{takes}
use Rattle.derivation_walk.specs.Seen.{Seen, bind_all, pass, number, see, see_parts, see_block, see_clause, see_clauses}
pub use Rattle.fip_rules.proofs.Views.{none_left}

pub block_first : (d : Block) (xs : List Binding) → xs ≡ (out-Block d).bindings.items → block d ≡ block_of (map binding xs) (expression (out-Block d).last)
block_first d xs e = block_is d ∙ sym (ap (λ q. block_of (map binding q) (expression (out-Block d).last)) e)

-- one binding, and the rest of a block
pub more_seen : (w : World) (s s1 s2 g : Seen) (d : Binding) (bs : List BoundPart) (last : T.Expression) → s1 ≡ bind_all w s (out-Binding d).binders.items → s2 ≡ see w s1 (expression (out-Binding d).bound) → see_parts w s (block_of (binding d ∷ bs) last) ≡ g → see_parts w s2 (block_of bs last) ≡ g
more_seen w s s1 s2 g d bs last e f inv =
    ap (λ z. see_parts w z (block_of bs last))
    (f ∙ ap (λ z. see w z (expression (out-Binding d).bound)) e ∙ sym (ap (λ (b : BoundPart). see w (bind_all w s b.binders) b.bound) (binding_is d)))
    ∙ inv

pub block_seen : (w : World) (s s0 s1 s2 : Seen) (bs later : List BoundPart) (last : T.Expression) (b : T.Block) → b ≡ block_of bs last → later ≡ [] → s0 ≡ number s → see_parts w s1 (block_of later last) ≡ see_parts w s0 (block_of bs last) → s2 ≡ see w s1 last → s2 ≡ see_block w s b
block_seen w s s0 s1 s2 bs later last b h none e inv f =
    f ∙ sym (ap (λ ys. see_parts w s1 (block_of ys last)) none) ∙ inv
    ∙ ap (λ z. see_parts w z (block_of bs last)) e ∙ ap (see_block w s) (sym h)

pub clause_seen : (w : World) (s s1 g : Seen) (c : Case) (cs : T.Clauses) → s1 ≡ see_clause w s c → see_clauses w s (T.MoreClauses c.pattern c.body cs) ≡ g → see_clauses w s1 cs ≡ g
clause_seen w s s1 g c cs e inv = ap (λ z. see_clauses w z cs) e ∙ inv

pub match_seen : (w : World) (s s0 s1 s2 s3 : Seen) (at : ℕ) (e : Expression) (k : MatchKind) (u : ℕ) (p : Place) (a : Argument) (c : Box Clause Global) (cs : Vec Clause Global) (taken : Bool) → e ≡ EV.Match k u p a c cs → taken ≡ takes w (is_destructive k) u → at ≡ s.next → s0 ≡ number s → s1 ≡ pass at (not taken) s0 (argument a) → s2 ≡ see_clause w s1 (clause c.value) → s3 ≡ see_clauses w s2 (clauses cs.items) → s3 ≡ see w s (expression e)
match_seen w s s0 s1 s2 s3 at e k u p a c cs taken h t n e0 e1 e2 e3 =
    e3
    ∙ ap (λ z. see_clauses w z (clauses cs.items))
    (e2 ∙ ap (λ z. see_clause w z (clause c.value))
    (e1 ∙ ap (λ z. pass at (not taken) z (argument a)) e0 ∙ ap (λ i. pass i (not taken) (number s) (argument a)) n
    ∙ ap (λ b. pass s.next (not b) (number s) (argument a)) t))
    ∙ ap (see w s) (sym (ap expression h ∙ expression_match k u p a c cs))
