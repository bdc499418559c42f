-- Uses of functions: what the code finds is what the definitions say.
use Rattle.std.proofs.Common.{◌≡◌, ℕ, zero, suc, ◌+◌, ◌<◌, Bool, true, false, not, List, [], ◌∷◌, length, slice_get, Option, Some, None, option_map, refl, ap, sym, subst, ◌∙◌, arith, if◌then◌else◌, Vec, Global}
use Rattle.std.specs.Prelude.{◌==◌}
use Rattle.std.proofs.lemmas.Bool.Decides.{nat_tests}
use Rattle.fip_base.specs.fip_language.declared.Place.{Place}
use Rattle.fip_base.specs.fip_language.declared.rule.Rule.TheVariants.{E20, E23}
use Rattle.fip_base.specs.fip_language.Core.{Name, Writtens}
use Rattle.fip_trees.specs.Least.{after}
use Rattle.fip_trees.specs.declared.least.Violation.{Violation}
use Rattle.fip_trees.proofs.Leasts.{after-append}
use Rattle.closed_types.specs.Closed.{Closed, Applied}
use Rattle.closed_types.specs.declared.closed.Head.TheVariants as H
use Rattle.closed_types.specs.Source.{Source, Instance, statics_at}
use Rattle.closed_types.specs.SharedTrees.{Branch, Grows, NoneOrWithin, tree_at, trees, trees_at}
use Rattle.closed_types.specs.Uses.{all_given, applied_function, arguments_faults, broken, closed_arguments, count, declared_use, declared_use_faults, fit_if_known, misfits_if_known, name_faults, named_use, or_int, statics_meant, types_given, when}
use Rattle.closed_types.specs.UsesView.{AreAllWithin, IsPlaceOf, all_trees, argument_or_none, trees_of}
use Rattle.closed_types.proofs.Growing.{more_within, trees_kept}
use Rattle.closed_types.proofs.SharedAt.{int_first}
use Rattle.fip_base.proofs.fip_language.Facts.{equal_true as same_true, unequal_false as same_false}

-- ---- a type that stands in a header

pub place_or_int : (bs : List Branch) (p : ℕ) (c : Option Closed) → IsPlaceOf bs (Some p) c → tree_at (trees bs) p ≡ or_int c
place_or_int bs p c h = ap or_int h.tree

pub none_or_int : (bs : List Branch) (c : Option Closed) → IsPlaceOf bs None c → tree_at (trees bs) 0 ≡ or_int c
none_or_int bs c h = int_first bs ∙ ap or_int h.tree

-- ---- a name

given_by : (b : Bool) (bs : List Branch) (g : ℕ) → g < length bs + 1 → IsPlaceOf bs (if b then Some g else None) (if b then Some (tree_at (trees bs) g) else None)
given_by true bs g w = record { within = w; tree = refl }
given_by false bs g w = record { within = tt; tree = refl }

pub parameter_place : (bs : List Branch) (g n k : ℕ) (o : Option ℕ) → g < length bs + 1 → k ≡ n → o ≡ (if k == 0 then Some g else None) → IsPlaceOf bs o (if n == 0 then Some (tree_at (trees bs) g) else None)
parameter_place bs g n k o w e h =
    subst (λ (x : Option ℕ). IsPlaceOf bs x (if n == 0 then Some (tree_at (trees bs) g) else None)) (sym (h ∙ ap (λ j. if j == 0 then Some g else None) e)) (given_by (n == 0) bs g w)

pub given_place : (s : Source) (bs : List Branch) (g n k : ℕ) (gf : Option Closed) (m : Option ℕ) (os : List (Option Closed)) (o : Option ℕ) → g < length bs + 1 → Some (tree_at (trees bs) g) ≡ gf → k ≡ n → o ≡ (if k == 0 then Some g else None) → IsPlaceOf bs o (named_use s gf m n os)
given_place s bs g n k gf m os o w e f h =
    subst (λ (x : Option Closed). IsPlaceOf bs o (named_use s x m n os)) e (parameter_place bs g n k o w f h)

pub given_noted : (s : Source) (i : ℕ) (g : Closed) (gf : Option Closed) (m : Option ℕ) (x : Name) (p : Place) (ws : Writtens) (os : List (Option Closed)) (vs : List Violation) (k : ℕ) (l n : Option Violation) → Some g ≡ gf → k ≡ count ws → n ≡ after l (when (not (k == 0)) (broken E23 p i x)) → n ≡ after l (name_faults s i gf m x p ws os vs)
given_noted s i g gf m x p ws os vs k l n e f h =
    h ∙ ap (λ j. after l (when (not (j == 0)) (broken E23 p i x))) f ∙ ap (λ (y : Option Closed). after l (name_faults s i y m x p ws os vs)) e

-- a declared function
pub declared_place : (s : Source) (h : Instance) (gf : Option Closed) (m : Option ℕ) (n f j k : ℕ) (ws : Writtens) (bs : List Branch) (o : Option ℕ) → None ≡ gf → m ≡ Some f → j ≡ length (statics_at s f) → k ≡ n → j ≡ k → IsPlaceOf bs o (declared_use s f (closed_arguments s h (statics_at s f) ws)) → IsPlaceOf bs o (named_use s gf m n (closed_arguments s h (statics_meant s m) ws))
declared_place s h gf m n f j k ws bs o e g a b d found =
    subst (λ (x : Option Closed). IsPlaceOf bs o (named_use s x m n (closed_arguments s h (statics_meant s m) ws))) e
    (subst (λ (y : Option ℕ). IsPlaceOf bs o (named_use s None y n (closed_arguments s h (statics_meant s y) ws))) (sym g)
    (subst (λ z. IsPlaceOf bs o (if z then declared_use s f (closed_arguments s h (statics_at s f) ws) else None)) (sym (same_true (length (statics_at s f)) n (sym a ∙ d ∙ b))) found))

pub declared_noted : (s : Source) (h : Instance) (i : ℕ) (gf : Option Closed) (m : Option ℕ) (x : Name) (p : Place) (ws : Writtens) (f j k : ℕ) (l n : Option Violation) → None ≡ gf → m ≡ Some f → j ≡ length (statics_at s f) → k ≡ count ws → j ≡ k → n ≡ after l (declared_use_faults s i f ws (closed_arguments s h (statics_at s f) ws) (arguments_faults s i h (statics_at s f) ws)) → n ≡ after l (name_faults s i gf m x p ws (closed_arguments s h (statics_meant s m) ws) (arguments_faults s i h (statics_meant s m) ws))
declared_noted s h i gf m x p ws f j k l n e g a b d noted =
    noted
    ∙ ap (λ z. after l (if z then declared_use_faults s i f ws (closed_arguments s h (statics_at s f) ws) (arguments_faults s i h (statics_at s f) ws) else broken E23 p i x ∷ [])) (sym (same_true (length (statics_at s f)) (count ws) (sym a ∙ d ∙ b)))
    ∙ ap (λ (y : Option ℕ). after l (name_faults s i None y x p ws (closed_arguments s h (statics_meant s y) ws) (arguments_faults s i h (statics_meant s y) ws))) (sym g)
    ∙ ap (λ (y : Option Closed). after l (name_faults s i y m x p ws (closed_arguments s h (statics_meant s m) ws) (arguments_faults s i h (statics_meant s m) ws))) e

-- with another number of static arguments
pub unlike_place : (s : Source) (h : Instance) (gf : Option Closed) (m : Option ℕ) (n f j k : ℕ) (ws : Writtens) (bs : List Branch) → None ≡ gf → m ≡ Some f → j ≡ length (statics_at s f) → k ≡ n → (j ≡ k → ⊥) → IsPlaceOf bs None (named_use s gf m n (closed_arguments s h (statics_meant s m) ws))
unlike_place s h gf m n f j k ws bs e g a b d =
    subst (λ (x : Option Closed). IsPlaceOf bs None (named_use s x m n (closed_arguments s h (statics_meant s m) ws))) e
    (subst (λ (y : Option ℕ). IsPlaceOf bs None (named_use s None y n (closed_arguments s h (statics_meant s y) ws))) (sym g)
    (subst (λ z. IsPlaceOf bs None (if z then declared_use s f (closed_arguments s h (statics_at s f) ws) else None)) (sym (same_false (length (statics_at s f)) n (λ q. d (a ∙ q ∙ sym b)))) (record { within = tt; tree = refl })))

pub unlike_noted : (s : Source) (h : Instance) (i : ℕ) (gf : Option Closed) (m : Option ℕ) (x : Name) (p : Place) (ws : Writtens) (f j k : ℕ) (l n : Option Violation) → None ≡ gf → m ≡ Some f → j ≡ length (statics_at s f) → k ≡ count ws → (j ≡ k → ⊥) → n ≡ after l (broken E23 p i x ∷ []) → n ≡ after l (name_faults s i gf m x p ws (closed_arguments s h (statics_meant s m) ws) (arguments_faults s i h (statics_meant s m) ws))
unlike_noted s h i gf m x p ws f j k l n e g a b d noted =
    noted
    ∙ ap (λ z. after l (if z then declared_use_faults s i f ws (closed_arguments s h (statics_at s f) ws) (arguments_faults s i h (statics_at s f) ws) else broken E23 p i x ∷ [])) (sym (same_false (length (statics_at s f)) (count ws) (λ q. d (a ∙ q ∙ sym b))))
    ∙ ap (λ (y : Option ℕ). after l (name_faults s i None y x p ws (closed_arguments s h (statics_meant s y) ws) (arguments_faults s i h (statics_meant s y) ws))) (sym g)
    ∙ ap (λ (y : Option Closed). after l (name_faults s i y m x p ws (closed_arguments s h (statics_meant s m) ws) (arguments_faults s i h (statics_meant s m) ws))) e

-- no function of the name
pub unknown_place : (s : Source) (gf : Option Closed) (m : Option ℕ) (n : ℕ) (os : List (Option Closed)) (bs : List Branch) → None ≡ gf → m ≡ None → IsPlaceOf bs None (named_use s gf m n os)
unknown_place s gf m n os bs e g =
    subst (λ (x : Option Closed). IsPlaceOf bs None (named_use s x m n os)) e
    (subst (λ (y : Option ℕ). IsPlaceOf bs None (named_use s None y n os)) (sym g) (record { within = tt; tree = refl }))

pub unknown_noted : (s : Source) (i : ℕ) (gf : Option Closed) (m : Option ℕ) (x : Name) (p : Place) (ws : Writtens) (os : List (Option Closed)) (vs : List Violation) (l n : Option Violation) → None ≡ gf → m ≡ None → n ≡ after l (broken E20 p i x ∷ []) → n ≡ after l (name_faults s i gf m x p ws os vs)
unknown_noted s i gf m x p ws os vs l n e g noted =
    noted
    ∙ ap (λ (y : Option ℕ). after l (name_faults s i None y x p ws os vs)) (sym g)
    ∙ ap (λ (y : Option Closed). after l (name_faults s i y m x p ws os vs)) e

-- ---- static arguments

pub tree_kept : (bs cs : List Branch) (i : ℕ) → Grows bs cs → i < length bs + 1 → tree_at (trees cs) i ≡ tree_at (trees bs) i
tree_kept bs cs i g w = let k = trees_kept bs cs (i ∷ []) g (w, tt) in let f : tree_at (trees cs) i ≡ tree_at (trees bs) i = cc in f

pub one_kept : (bs cs : List Branch) (o : Option ℕ) → Grows bs cs → NoneOrWithin bs o → option_map (tree_at (trees cs)) o ≡ option_map (tree_at (trees bs)) o
one_kept bs cs None g w = refl
one_kept bs cs (Some i) g w = ap (λ c. Some c) (tree_kept bs cs i g w)

pub arguments_kept : (bs cs : List Branch) (os : List (Option ℕ)) → Grows bs cs → AreAllWithin bs os → all_trees (trees cs) os ≡ all_trees (trees bs) os
arguments_kept bs cs [] g w = refl
arguments_kept bs cs (o ∷ os) g w = ap (λ c. c ∷ all_trees (trees cs) os) (one_kept bs cs o g w.0) ∙ ap (λ l. option_map (tree_at (trees bs)) o ∷ l) (arguments_kept bs cs os g w.1)

pub one_within : (bs cs : List Branch) (o : Option ℕ) → Grows bs cs → NoneOrWithin bs o → NoneOrWithin cs o
one_within bs cs None g w = tt
one_within bs cs (Some i) g w = more_within bs cs i g w

pub arguments_within : (bs cs : List Branch) (os : List (Option ℕ)) → Grows bs cs → AreAllWithin bs os → AreAllWithin cs os
arguments_within bs cs [] g w = tt
arguments_within bs cs (o ∷ os) g w = (one_within bs cs o g w.0, arguments_within bs cs os g w.1)

pub declared_closed : (s : Source) (f : ℕ) (bs cs ds : List Branch) (as' : List (Option ℕ)) (os : List (Option Closed)) (fit : Bool) (o : Option ℕ) → AreAllWithin bs as' → Grows bs cs → all_trees (trees bs) as' ≡ os → fit ≡ fit_if_known s f (statics_at s f) (all_trees (trees bs) as') (types_given (statics_at s f) (all_trees (trees bs) as')) → IsPlaceOf ds o (if fit then applied_function f (all_given (all_trees (trees cs) as')) else None) → IsPlaceOf ds o (declared_use s f os)
declared_closed s f bs cs ds as' os fit o w g e h found =
    subst (λ (xs : List (Option Closed)). IsPlaceOf ds o (declared_use s f xs)) e
    (subst (λ b. IsPlaceOf ds o (if b then applied_function f (all_given (all_trees (trees bs) as')) else None)) h
    (subst (λ (xs : List (Option Closed)). IsPlaceOf ds o (if fit then applied_function f (all_given xs) else None)) (arguments_kept bs cs as' g w) found))

pub declared_faults : (s : Source) (i f : ℕ) (bs : List Branch) (ws : Writtens) (as' : List (Option ℕ)) (os : List (Option Closed)) (vs : List Violation) (l m n : Option Violation) → all_trees (trees bs) as' ≡ os → m ≡ after l vs → n ≡ after m (misfits_if_known s i f ws (all_trees (trees bs) as') (types_given (statics_at s f) (all_trees (trees bs) as'))) → n ≡ after l (declared_use_faults s i f ws os vs)
declared_faults s i f bs ws as' os vs l m n e h k =
    k
    ∙ ap (λ (xs : List (Option Closed)). after m (misfits_if_known s i f ws xs (types_given (statics_at s f) xs))) e
    ∙ ap (λ o. after o (misfits_if_known s i f ws os (types_given (statics_at s f) os))) h
    ∙ sym (after-append l vs (misfits_if_known s i f ws os (types_given (statics_at s f) os)))

-- ---- the function of a use

pub applied_place : (bs cs : List Branch) (f i : ℕ) (fit : Bool) (v : Vec ℕ Global) (o : Option (Vec ℕ Global)) (os : List (Option Closed)) → fit ≡ true → o ≡ Some v → trees_of (trees bs) o ≡ all_given os → i < length cs + 1 → tree_at (trees cs) i ≡ Applied (H.Function f) (trees_at (trees bs) v.items) → IsPlaceOf cs (Some i) (if fit then applied_function f (all_given os) else None)
applied_place bs cs f i fit v o os fits some given w t = record {
  within = w;
  tree =
      ap (λ (c : Closed). Some c) t
      ∙ ap (applied_function f) (sym (ap (trees_of (trees bs)) some) ∙ given)
      ∙ ap (λ b. if b then applied_function f (all_given os) else None) (sym fits);
}

pub applied_none : (bs : List Branch) (f : ℕ) (fit : Bool) (o : Option (Vec ℕ Global)) (os : List (Option Closed)) → fit ≡ true → o ≡ None → trees_of (trees bs) o ≡ all_given os → IsPlaceOf bs None (if fit then applied_function f (all_given os) else None)
applied_none bs f fit o os fits none given = record {
  within = tt;
  tree =
      ap (applied_function f) (sym (ap (trees_of (trees bs)) none) ∙ given)
      ∙ ap (λ b. if b then applied_function f (all_given os) else None) (sym fits);
}

pub argument_within : (bs : List Branch) (os : List (Option ℕ)) (k : ℕ) → AreAllWithin bs os → NoneOrWithin bs (argument_or_none (slice_get os k))
argument_within bs [] k w = tt
argument_within bs (o ∷ os) zero w = w.0
argument_within bs (o ∷ os) (suc k) w = argument_within bs os k w.1
