-- What lets and expressions have written, from their parts, where they are the code's trees.
use Rattle.std.proofs.Common.{◌≡◌, sym, ap, ◌∙◌, subst, ℕ, List, [], ◌∷◌}
use Rattle.std.specs.declared.vec.Vec.{Vec}
use Rattle.std.specs.declared.alloc.Global.{Global}
use Rattle.std.specs.declared.boxed.Box.{Box}
use Rattle.fip_language.specs.declared.Place.{Place}
use Rattle.fip_language.specs.Table.{Table}
use Rattle.fip_base.specs.declared.core_form.MatchKind.{MatchKind}
use Rattle.fip_trees.specs.Tree as T
use Rattle.fip_trees.specs.Tree.{Name}
use Rattle.fip_trees.specs.declared.program.Argument.{Argument}
use Rattle.fip_trees.specs.declared.program.Binding.{Binding, out-Binding}
use Rattle.fip_trees.specs.declared.program.Clause.{Clause}
use Rattle.fip_trees.specs.declared.program.Expression.{Expression}
use Rattle.fip_trees.specs.declared.program.Expression.TheOpen as E
use Rattle.fip_trees.specs.declared.program.Expression.TheVariants as EV
use Rattle.fip_trees.specs.declared.program.Expression.TheFolds.{fold-roll-Expression}
use Rattle.fip_trees.specs.TreeView.{BoundPart, Case, argument, arguments, expression, expression_step, binding, binding_step, block_step, clause, clause_step, clauses, is_destructive}
use Rattle.fip_trees.proofs.TreeViews.{binding_is, expression_match}
use Rattle.lower_frame.specs.lowering_relation.Known.{Known}
use Rattle.lower_frame.specs.lowering_relation.Values.{Setting}
use Rattle.lower_frame.specs.lowering_relation.LoweredBodies.{Target, Into, with_names, reserved, registers_for}
use Rattle.lower_frame.specs.lowering_relation.Written.{Written}
use Rattle.lower_frame.specs.lowering_relation.WellMatched.{WellMatched}
use Rattle.lower_parts.specs.Clauses.{WritesMatch}
use Rattle.lower_parts.specs.Writing.{Computes, ComputesAll, AppliesTo, Writes, Binds}
use Rattle.lower_parts.proofs.Blocks.{binds_give, binds_tuple, binds_into}

pub expression_give : (a : Argument) → expression (EV.Give a) ≡ T.Give (argument a)
expression_give a = ap expression (sym (EV.rolls-Give a)) ∙ fold-roll-Expression T.Expression BoundPart T.Block Case expression_step binding_step block_step clause_step (E.Give a)

pub expression_tuple : (p : Place) (xs : Vec Argument Global) → expression (EV.Tuple p xs) ≡ T.Tuple p (arguments xs.items)
expression_tuple p xs = ap expression (sym (EV.rolls-Tuple p xs)) ∙ fold-roll-Expression T.Expression BoundPart T.Block Case expression_step binding_step block_step clause_step (E.Tuple p xs)

pub expression_call : (g : ℕ) (n : Name) (p : Place) (xs : Vec Argument Global) → expression (EV.Call g n p xs) ≡ T.Call g n p (arguments xs.items)
expression_call g n p xs = ap expression (sym (EV.rolls-Call g n p xs)) ∙ fold-roll-Expression T.Expression BoundPart T.Block Case expression_step binding_step block_step clause_step (E.Call g n p xs)

-- lets

-- a let's parts, where the bound expression is e
bound_is : (s : Setting) (k l : Known) (v u : Written) (b : Binding) (e : T.Expression) → expression (out-Binding b).bound ≡ e → Binds s k v (out-Binding b).binders.items e l u → Binds s k v (binding b).binders (binding b).bound l u
bound_is s k l v u b e h w = subst (λ (x : BoundPart). Binds s k v x.binders x.bound l u) (sym (binding_is b)) (subst (λ x. Binds s k v (out-Binding b).binders.items x l u) (sym h) w)

pub bound_give : (s : Setting) (k m l : Known) (v u z : Written) (b : Binding) (a : Argument) (r : ℕ) → (out-Binding b).bound ≡ EV.Give a → Computes s k v (argument a) r m u → l ≡ with_names m (out-Binding b).binders.items (r ∷ []) → z ≡ u → Binds s k v (binding b).binders (binding b).bound l z
bound_give s k m l v u z b a r e c n same = subst (Binds s k v (binding b).binders (binding b).bound l) (sym same) (bound_is s k l v u b (T.Give (argument a)) (ap expression e ∙ expression_give a) (binds_give s k m l v u (out-Binding b).binders.items (argument a) r c n))

pub bound_tuple : (s : Setting) (k m l : Known) (v u z : Written) (b : Binding) (p : Place) (xs : Vec Argument Global) (rs : List ℕ) → (out-Binding b).bound ≡ EV.Tuple p xs → ComputesAll s k v (arguments xs.items) rs m u → l ≡ with_names m (out-Binding b).binders.items rs → z ≡ u → Binds s k v (binding b).binders (binding b).bound l z
bound_tuple s k m l v u z b p xs rs e c n same = subst (Binds s k v (binding b).binders (binding b).bound l) (sym same) (bound_is s k l v u b (T.Tuple p (arguments xs.items)) (ap expression e ∙ expression_tuple p xs) (binds_tuple s k m l v u (out-Binding b).binders.items p (arguments xs.items) rs c n))

pub bound_into : (tb : Table) (s : Setting) (k k0 m l : Known) (v v0 u z : Written) (b : Binding) (e : Expression) (rs : List ℕ) → e ≡ (out-Binding b).bound → k0 ≡ reserved k (out-Binding b).binders.items → v0 ≡ v → rs ≡ registers_for k.next (out-Binding b).binders.items → (WellMatched tb (expression e) → Writes s k0 v0 (expression e) (Into rs) m u) → l ≡ with_names m (out-Binding b).binders.items rs → z ≡ u → WellMatched tb (binding b).bound → Binds s k v (binding b).binders (binding b).bound l z
bound_into tb s k k0 m l v v0 u z b e rs is at from to w n same well =
    subst (Binds s k v (binding b).binders (binding b).bound l) (sym same)
    (bound_is s k l v u b (expression e) (sym (ap expression is))
    (binds_into s k k0 m l v u (out-Binding b).binders.items (expression e) rs at to
    (subst (λ x. Writes s k0 x (expression e) (Into rs) m u) from (w (subst (WellMatched tb) (ap (λ (x : BoundPart). x.bound) (binding_is b) ∙ sym (ap expression is)) well))) n))

-- calls and matches

pub written_call : (tb : Table) (s : Setting) (k l : Known) (v w : Written) (e : Expression) (g : ℕ) (n : Name) (p : Place) (xs : Vec Argument Global) (target : Target) → e ≡ EV.Call g n p xs → AppliesTo s k v g (arguments xs.items) target l w → WellMatched tb (expression e) → Writes s k v (expression e) target l w
written_call tb s k l v w e g n p xs target is h well = subst (λ x. Writes s k v x target l w) (sym (ap expression is ∙ expression_call g n p xs)) (h.by n p)

pub written_match : (s : Setting) (k l : Known) (v w : Written) (e : Expression) (d : MatchKind) (t : ℕ) (p : Place) (a : Argument) (c : Box Clause Global) (cs : Vec Clause Global) (target : Target) → e ≡ EV.Match d t p a c cs → WritesMatch s k v (argument a) t (clause c.value) (clauses cs.items) target l w → WellMatched s.types (expression e) → Writes s k v (expression e) target l w
written_match s k l v w e d t p a c cs target is h =
    subst (λ x. WellMatched s.types x → Writes s k v x target l w) (sym (ap expression is ∙ expression_match d t p a c cs)) (λ well. h.by (is_destructive d) p well)
