-- What is known at the entry of a clause's body is so.
use Rattle.std.proofs.Common.{◌≡◌, ◌⊎◌, inl, inr, refl, sym, ap, ◌∙◌, subst, ⊎_elim, arith, ℕ, zero, suc, ◌<◌, ◌≤◌, Bool, true, false, List, [], ◌∷◌, ◌++◌, map, Option, Some, None, slice_get, slice_set}
use Rattle.std.specs.Prelude.{if◌then◌else◌, ◌==◌, ◌||◌, option_map}
use Rattle.std.proofs.lemmas.Bool.{eqb-true, eqb-false}
use Rattle.std.proofs.lemmas.Option.{slice_get-map}
use Rattle.tree_semantics.specs.fip_language.Values.{Value, Int, Node, Values, End, More}
use Rattle.tree_semantics.specs.fip_language.Matching.{Binding, same_int, both}
use Rattle.tree_semantics.specs.fip_language.Meaning.{Environment, nothing_bound, bind, bind_matched}
use Rattle.tree_semantics.specs.fip_language.Every.{Among}
use Rattle.credit_check.specs.fip_trees.declared.program.Binder.{Binder}
use Rattle.credit_check.specs.fip_trees.Tree.{Pattern, BinderPattern, LiteralPattern, ConstructorPattern, Patterns, NoPatterns, MorePatterns, count_patterns}
use Rattle.instance_semantics.specs.Matching.{matching, matching_all, bound_to}
use Rattle.tree_semantics.specs.Contents.{Contents}
use Rattle.lowering_relation.specs.declared.held.Held.{Held}
use Rattle.lowering_relation.specs.declared.held.Held.TheVariants as H
use Rattle.lowering_relation.specs.Known.{Known, register_of, joined, holding, naming}
use Rattle.lowering_relation.specs.Values.{Setting, is_scalar}
use Rattle.lowering_relation.specs.LoweredBodies.{given_if}
use Rattle.lowering_relation.specs.LoweredFunctions.{unless_in, with_credit}
use Rattle.lowering_relation.specs.Choosing.{binders_of}
use Rattle.lowering_relation.proofs.LoweredLists.{set_get, barer_set, barer_used, NotBare}
use Rattle.lowering_relation.specs.Spots.{Spot, At, Spots, NoSpots, MoreSpots, register}
use Rattle.lowering_relation.specs.Opening.{is_named, Opened, AllOpened}
use Rattle.lowering_relation.specs.Entering.{unnaming, variable_held, with_variable, with_cell, entering, entering_all, root_of, spent_if, entering_root, IsSo}
use Rattle.lowering_relation.proofs.MatchLists.{among_left, among_right}
use Rattle.match_knowledge.proofs.fip_base.fip_language.Facts.{none_some_implicit as none_some, same_some}

-- bindings

bind_append : (env : Environment) (as' bs : List Binding) (x : ℕ) → bind_matched env (as' ++ bs) x ≡ bind_matched (bind_matched env as') bs x
bind_append env [] bs x = refl
bind_append env (a ∷ as') bs x = bind_append (bind env a.binder a.value) as' bs x

binders_append : (as' bs : List Binding) → binders_of (as' ++ bs) ≡ binders_of as' ++ binders_of bs
binders_append [] bs = refl
binders_append (a ∷ as') bs = ap (λ xs. a.binder ∷ xs) (binders_append as' bs)

bound_if : (b : Bool) (x y : ℕ) (v u : Value) (o : Option Value) → (x == y) ≡ b → (if b then Some v else o) ≡ Some u → ((x ≡ y) × (v ≡ u)) ⊎ ((x ≡ y → ⊥) × (o ≡ Some u))
bound_if true x y v u o e h = inl (eqb-true x y e, same_some v u h)
bound_if false x y v u o e h = inr (eqb-false x y e, h)

bound_more : (bs : List Binding) (x : ℕ) (v : Value) (y : ℕ) (u : Value) → bind_matched nothing_bound (bs ++ record { binder = x; value = v } ∷ []) y ≡ Some u → ((x ≡ y) × (v ≡ u)) ⊎ ((x ≡ y → ⊥) × (bind_matched nothing_bound bs y ≡ Some u))
bound_more bs x v y u h = bound_if (x == y) x y v u (bind_matched nothing_bound bs y) refl (sym (bind_append nothing_bound bs (record { binder = x; value = v } ∷ []) y) ∙ h)

among_one : (x : ℕ) (bs : List Binding) (v : Value) → Among x (binders_of (bs ++ record { binder = x; value = v } ∷ []))
among_one x bs v = subst (Among x) (sym (binders_append bs (record { binder = x; value = v } ∷ []))) (among_right x (binders_of bs) (x ∷ []) (inl refl))

among_old : (y x : ℕ) (bs : List Binding) (v : Value) → Among y (binders_of bs) → Among y (binders_of (bs ++ record { binder = x; value = v } ∷ []))
among_old y x bs v m = subst (Among y) (sym (binders_append bs (record { binder = x; value = v } ∷ []))) (among_left y (binders_of bs) (x ∷ []) m)

-- names

pub joined_is : (o : Option (Option ℕ)) (r : ℕ) → joined o ≡ Some r → o ≡ Some (Some r)
joined_is None r e = absurd (cc)
joined_is (Some o) r e = ap Some e

pub name_set : (ns : List (Option ℕ)) (x : ℕ) (o : Option ℕ) (y q : ℕ) → register_of (slice_set ns x o) (Some y) ≡ Some q → ((y ≡ x) × (o ≡ Some q)) ⊎ ((y ≡ x → ⊥) × (register_of ns (Some y) ≡ Some q))
name_set ns x o y q h = elim (set_get ns x o y (Some q) (joined_is (slice_get (slice_set ns x o) y) q h)) [
  | inl a ↦ inr (a.0, ap joined a.1)
  | inr b ↦ inl b
]

unless_if : (b : Bool) (r q p : ℕ) → (q == r) ≡ b → (if b then None else Some q) ≡ Some p → (q ≡ p) × (p ≡ r → ⊥)
unless_if true r q p e h = absurd (cc)
unless_if false r q p e h = let same = same_some q p h in (same, λ f. eqb-false q r e (same ∙ f))

unless_some : (r : ℕ) (o : Option ℕ) (p : ℕ) → unless_in r o ≡ Some p → (o ≡ Some p) × (p ≡ r → ⊥)
unless_some r None p h = absurd (cc)
unless_some r (Some q) p h = let two = unless_if (q == r) r q p refl h in (ap Some two.0, two.1)

unless_get : (r : ℕ) (o : Option (Option ℕ)) (p : ℕ) → option_map (unless_in r) o ≡ Some (Some p) → (joined o ≡ Some p) × (p ≡ r → ⊥)
unless_get r None p h = absurd (cc)
unless_get r (Some o) p h = unless_some r o p (same_some (unless_in r o) (Some p) h)

pub name_lost : (ns : List (Option ℕ)) (r y p : ℕ) → register_of (map (unless_in r) ns) (Some y) ≡ Some p → (register_of ns (Some y) ≡ Some p) × (p ≡ r → ⊥)
name_lost ns r y p h = unless_get r (slice_get ns y) p (sym (slice_get-map (unless_in r) ns y) ∙ joined_is (slice_get (map (unless_in r) ns) y) p h)

-- what isn't a constructor that was matched

pub given_not : (b : Bool) (t : ℕ) → NotBare (given_if b t)
given_not true t u d e = absurd (cc)
given_not false t u d e = absurd (cc)

pub variable_not : (b c : Bool) (t : ℕ) (root : Option ℕ) → NotBare (if b then given_if c t else H.Lent t root)
variable_not true c t root u d e = given_not c t u d e
variable_not false c t root u d e = absurd (cc)

-- a variable

so_named : (s : Setting) (k0 k : Known) (bs : List Binding) (cs : Contents) (h : Held) (x r : ℕ) (v : Value) → NotBare h → cs r ≡ v → IsSo k0 k bs cs → IsSo k0 (holding (naming k x r) r h) (bs ++ record { binder = x; value = v } ∷ []) cs
so_named s k0 k bs cs h x r v n c so = record {
  names = λ y q e. ⊎_elim (λ a. inl (subst (λ z. Among z (binders_of (bs ++ record { binder = x; value = v } ∷ []))) (sym a.0) (among_one x bs v))) (λ b. ⊎_elim (λ m. inl (among_old y x bs v m)) (λ w. inr w) (so.names y q b.1)) (name_set k.names x (Some r) y q e);
  bound = λ y q u e f. by_name y q u (name_set k.names x (Some r) y q e) (bound_more bs x v y u f);
  bares = λ q t d e. so.bares q t d (barer_set k.held r h n q t d e);
}
  where
    by_name : (y q : ℕ) (u : Value) → ((y ≡ x) × (Some r ≡ Some q)) ⊎ ((y ≡ x → ⊥) × (register_of k.names (Some y) ≡ Some q)) → ((x ≡ y) × (v ≡ u)) ⊎ ((x ≡ y → ⊥) × (bind_matched nothing_bound bs y ≡ Some u)) → cs q ≡ u
    by_name y q u (inl a) (inl b) = ap cs (sym (same_some r q a.1)) ∙ c ∙ b.1
    by_name y q u (inl a) (inr b) = absurd (b.0 (sym a.0))
    by_name y q u (inr a) (inl b) = absurd (a.0 (sym b.0))
    by_name y q u (inr a) (inr b) = so.bound y q u a.1 b.1

so_unnamed : (k0 k : Known) (bs : List Binding) (cs : Contents) (x : ℕ) (v : Value) → IsSo k0 k bs cs → IsSo k0 (unnaming k x) (bs ++ record { binder = x; value = v } ∷ []) cs
so_unnamed k0 k bs cs x v so = record {
  names = λ y q e. ⊎_elim (λ a. absurd (none_some a.1)) (λ b. ⊎_elim (λ m. inl (among_old y x bs v m)) (λ w. inr w) (so.names y q b.1)) (name_set k.names x None y q e);
  bound = λ y q u e f. ⊎_elim (λ a. absurd (none_some a.1)) (λ b. ⊎_elim (λ c. absurd (b.0 (sym c.0))) (λ d. so.bound y q u b.1 d.1) (bound_more bs x v y u f)) (name_set k.names x None y q e);
  bares = so.bares;
}

so_variable : (s : Setting) (takes : Bool) (root : Option ℕ) (b : Binder) (k0 k : Known) (bs : List Binding) (cs : Contents) (r : ℕ) (v : Value) (n : Bool) → ((n ≡ true) → cs r ≡ v) → IsSo k0 k bs cs → IsSo k0 (if n then holding (naming k b.number r) r (variable_held s takes root b.ty) else unnaming k b.number) (bs ++ bound_to b v ∷ []) cs
so_variable s takes root b k0 k bs cs r v true c so = so_named s k0 k bs cs (variable_held s takes root b.ty) b.number r v (variable_not (takes || is_scalar s b.ty) (is_scalar s b.ty) b.ty root) (c refl) so
so_variable s takes root b k0 k bs cs r v false c so = so_unnamed k0 k bs cs b.number v so

-- a cell

so_bare : (k0 k : Known) (bs : List Binding) (cs : Contents) (r t c : ℕ) → cs r ≡ Node c End → IsSo k0 k bs cs → IsSo k0 (holding k r (H.Bare t c)) bs cs
so_bare k0 k bs cs r t c e so = record {
  names = so.names;
  bound = so.bound;
  bares = λ q u d h. elim (set_get k.held r (H.Bare t c) q (H.Bare u d) h) [
    | inl a ↦ so.bares q u d a.1
    | inr b ↦ inr (ap cs b.0 ∙ e ∙ ap (λ z. Node z End) (same_constructor t c u d b.1))
  ];
}
  where
    same_constructor : (t c u d : ℕ) → H.Bare t c ≡ H.Bare u d → c ≡ d
    same_constructor t c u d f = cc

so_bare_if : (b : Bool) (k0 k : Known) (bs : List Binding) (cs : Contents) (r t c : ℕ) → cs r ≡ Node c End → IsSo k0 k bs cs → IsSo k0 (if b then k else holding k r (H.Bare t c)) bs cs
so_bare_if true k0 k bs cs r t c e so = so
so_bare_if false k0 k bs cs r t c e so = so_bare k0 k bs cs r t c e so

so_credit : (k0 k : Known) (bs : List Binding) (cs : Contents) (n r : ℕ) → IsSo k0 k bs cs → IsSo k0 (with_credit k n r) bs cs
so_credit k0 k bs cs n r so = record {
  names = λ y q h. so.names y q (name_lost k.names r y q h).0;
  bound = λ y q u h e. so.bound y q u (name_lost k.names r y q h).0 e;
  bares = λ q t c h. so.bares q t c (barer_set k.held r (H.Credit n) (λ u d e. absurd (cc)) q t c h);
}

so_cell : (s : Setting) (takes : Bool) (t c : ℕ) (ps : Patterns) (r : ℕ) (k0 k : Known) (bs : List Binding) (cs : Contents) (v : Value) (ms : List Binding) → (takes ≡ true → cs r ≡ v) → (if_none : ps ≡ NoPatterns → v ≡ Node c End) → IsSo k0 k bs cs → IsSo k0 (with_cell s takes t c ps r k) bs cs
so_cell s false t c ps r k0 k bs cs v ms e none so = so
so_cell s true t c NoPatterns r k0 k bs cs v ms e none so = so_bare_if (is_scalar s t) k0 k bs cs r t c (e refl ∙ none refl) so
so_cell s true t c (MorePatterns p ps) r k0 k bs cs v ms e none so = so_credit k0 k bs cs (suc (count_patterns ps)) r so

-- whole patterns

literal_none : (b : Bool) (bs : List Binding) → (if b then Some [] else None) ≡ Some bs → [] ≡ bs
literal_none true bs e = same_some [] bs e
literal_none false bs e = absurd (cc)

if_some : (b : Bool) (c d : ℕ) (o : Option (List Binding)) (bs : List Binding) → (c == d) ≡ b → (if b then o else None) ≡ Some bs → (c ≡ d) × (o ≡ Some bs)
if_some true c d o bs e h = (eqb-true c d e, h)
if_some false c d o bs e h = absurd (cc)

both_inv : (o p : Option (List Binding)) (bs : List Binding) → both o p ≡ Some bs → (as' : List Binding) × (cs : List Binding) × (o ≡ Some as') × (p ≡ Some cs) × (as' ++ cs ≡ bs)
both_inv None p bs e = absurd cc
both_inv (Some as') None bs e = absurd cc
both_inv (Some as') (Some cs) bs e = (as', cs, refl, refl, same_some (as' ++ cs) bs e)

append_none : (bs : List Binding) → bs ++ [] ≡ bs
append_none [] = refl
append_none (b ∷ bs) = ap (λ xs. b ∷ xs) (append_none bs)

append_again : (xs ys zs : List Binding) → (xs ++ ys) ++ zs ≡ xs ++ (ys ++ zs)
append_again [] ys zs = refl
append_again (x ∷ xs) ys zs = ap (λ z. x ∷ z) (append_again xs ys zs)

no_parts : (ps : Patterns) (c : ℕ) (vs : Values) (ms : List Binding) → matching_all ps vs ≡ Some ms → ps ≡ NoPatterns → Node c vs ≡ Node c End
no_parts NoPatterns c End ms e f = refl
no_parts NoPatterns c (More v vs) ms e f = absurd (cc)
no_parts (MorePatterns p ps) c vs ms e f = absurd (cc)

module _ (s : Setting) (takes : Bool) (root : Option ℕ) (k0 : Known) (cs : Contents) where
  mutual
    pub so_part : (q : Pattern) (p : Spot) (v : Value) (k : Known) (bs ms : List Binding) → matching q v ≡ Some ms → Opened takes q p v cs → IsSo k0 k bs cs → IsSo k0 (entering s takes root q p k) (bs ++ ms) cs
    so_part (BinderPattern b) (At r fs) v k bs ms m o so =
        subst (λ z. IsSo k0 (with_variable s takes root b r k) (bs ++ z) cs) (same_some (bound_to b v ∷ []) ms m) (so_variable s takes root b k0 k bs cs r v (takes || is_named b) o so)
    so_part (LiteralPattern i pl) (At r fs) (Int j) k bs ms m o so =
        subst (λ z. IsSo k0 k z cs) (sym (ap (λ z. bs ++ z) (sym (literal_none (same_int i j) ms m)) ∙ append_none bs)) so
    so_part (LiteralPattern i pl) (At r fs) (Node c vs) k bs ms m o so = absurd (cc)
    so_part (ConstructorPattern t d c n pl ps) (At r fs) (Int j) k bs ms m o so = absurd (cc)
    so_part (ConstructorPattern t d c n pl ps) (At r fs) (Node e vs) k bs ms m o so =
        let two = if_some (c == e) c e (matching_all ps vs) ms refl m in
        so_all ps fs vs (with_cell s takes t c ps r k) bs ms two.1 o.1
        (so_cell s takes t c ps r k0 k bs cs (Node e vs) ms o.0 (λ f. ap (λ z. Node z vs) (sym two.0) ∙ no_parts ps c vs ms two.1 f) so)

    so_all : (ps : Patterns) (ss : Spots) (vs : Values) (k : Known) (bs ms : List Binding) → matching_all ps vs ≡ Some ms → AllOpened takes ps ss vs cs → IsSo k0 k bs cs → IsSo k0 (entering_all s takes root ps ss k) (bs ++ ms) cs
    so_all NoPatterns ss End k bs ms m o so = subst (λ z. IsSo k0 k z cs) (sym (ap (λ z. bs ++ z) (sym (same_some [] ms m)) ∙ append_none bs)) so
    so_all NoPatterns ss (More v vs) k bs ms m o so = absurd (cc)
    so_all (MorePatterns p ps) NoSpots vs k bs ms m o so = absurd o
    so_all (MorePatterns p ps) (MoreSpots q ss) End k bs ms m o so = absurd o
    so_all (MorePatterns p ps) (MoreSpots q ss) (More v vs) k bs ms m o so =
        let inv = both_inv (matching p v) (matching_all ps vs) ms m in
        subst (λ z. IsSo k0 (entering_all s takes root ps ss (entering s takes root p q k)) z cs) (append_again bs inv.0 inv.1 ∙ ap (λ z. bs ++ z) inv.4)
        (so_all ps ss vs (entering s takes root p q k) (bs ++ inv.0) inv.1 inv.3 o.1 (so_part p q v k bs inv.0 inv.2 o.0 so))

so_start : (k : Known) (cs : Contents) → IsSo k k [] cs
so_start k cs = record { names = λ x r h. inr h; bound = λ x r v h e. absurd (none_some e); bares = λ r t c h. inl h }

so_spent : (takes : Bool) (r : ℕ) (k0 k : Known) (bs : List Binding) (cs : Contents) → IsSo k0 k bs cs → IsSo k0 (spent_if takes r k) bs cs
so_spent false r k0 k bs cs so = so
so_spent true r k0 k bs cs so = record { names = so.names; bound = so.bound; bares = λ q t c h. so.bares q t c (barer_used k.held r q t c h) }

named_only : (k : Known) (cs : Contents) (x r : ℕ) (v : Value) → cs r ≡ v → IsSo k (naming k x r) (record { binder = x; value = v } ∷ []) cs
named_only k cs x r v c = record {
  names = λ y q e. ⊎_elim (λ a. inl (inl a.0)) (λ b. inr b.1) (name_set k.names x (Some r) y q e);
  bound = λ y q u e f. by_name y q u (name_set k.names x (Some r) y q e) (bound_more [] x v y u f);
  bares = λ q t d e. inl e;
}
  where
    by_name : (y q : ℕ) (u : Value) → ((y ≡ x) × (Some r ≡ Some q)) ⊎ ((y ≡ x → ⊥) × (register_of k.names (Some y) ≡ Some q)) → ((x ≡ y) × (v ≡ u)) ⊎ ((x ≡ y → ⊥) × (None ≡ Some u)) → cs q ≡ u
    by_name y q u (inl a) (inl b) = ap cs (sym (same_some r q a.1)) ∙ c ∙ b.1
    by_name y q u (inl a) (inr b) = absurd (b.0 (sym a.0))
    by_name y q u (inr a) (inl b) = absurd (a.0 (sym b.0))
    by_name y q u (inr a) (inr b) = absurd (none_some b.1)

pub so_root : (s : Setting) (takes : Bool) (q : Pattern) (p : Spot) (v : Value) (k : Known) (cs : Contents) (ms : List Binding) → matching q v ≡ Some ms → cs (register p) ≡ v → Opened takes q p v cs → IsSo k (entering_root s takes q p k) ms cs
so_root s takes (BinderPattern b) (At r fs) v k cs ms m c o = subst (λ z. IsSo k (naming k b.number r) z cs) (same_some (bound_to b v ∷ []) ms m) (named_only k cs b.number r v c)
so_root s takes (LiteralPattern i pl) (At r fs) (Int j) k cs ms m c o = subst (λ z. IsSo k k z cs) (literal_none (same_int i j) ms m) (so_start k cs)
so_root s takes (LiteralPattern i pl) (At r fs) (Node e vs) k cs ms m c o = absurd (cc)
so_root s takes (ConstructorPattern t d e n pl ps) (At r fs) v k cs ms m c o =
    so_part s takes (root_of r (Rattle.std.proofs.Common.get_or k.held r H.Nothing)) k cs (ConstructorPattern t d e n pl ps) (At r fs) v (spent_if takes r k) [] ms m o (so_spent takes r k k [] cs (so_start k cs))
