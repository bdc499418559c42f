-- The arguments of a call.
use Rattle.std.proofs.Common.{◌≡◌, ℕ, zero, suc, ◌<◌, ◌≤◌, ◌+◌, inl, inr, refl, sym, ap, subst, ◌∙◌, List, [], ◌∷◌, Option, Some, None, Bool, true, false, not, arith}
use Rattle.std.specs.Prelude.{◌==◌, ◌||◌, ◌&&◌, slice_get, if◌then◌else◌}
use Rattle.std.proofs.lemmas.Bool.Decides.{nat_tests}
use Rattle.derivation_check.specs.fip_base.declared.plain.Param.{Param}
use Rattle.derivation_check.specs.fip_trees.Tree.{Program, Instance, Argument, Variable, Literal, Constructor, Arguments, NoArguments, MoreArguments, count}
use Rattle.ownership_agreement.specs.fip_rules.World.{World, is_fip, lends, lends_to, lends_parameter}
use Rattle.ownership_agreement.specs.fip_rules.Shapes as H
use Rattle.ownership_agreement.specs.fip_rules.Shapes.{Names}
use Rattle.ownership_agreement.specs.credit_check.Needs.{made, made_all}
use Rattle.ownership_agreement.specs.ownership_calculus.Terms as T
use Rattle.ownership_agreement.specs.ownership_calculus.Terms.{Item, Own, Credit, given}
use Rattle.ownership_agreement.specs.ownership_calculus.Clean as K
use Rattle.ownership_agreement.specs.ownership_calculus.Clean.{used_up, lent_used_up, passed_used_up, Status, Free, Owned, after}
use Rattle.ownership_agreement.proofs.ownership_calculus.Fit.{held, visible}
use Rattle.ownership_agreement.specs.Bodies as B
use Rattle.ownership_agreement.specs.Bodies.{Scalars, variable, value, lent_value, passed}
use Rattle.ownership_agreement.specs.Sized.{SizedArgument, SizedArguments}
use Rattle.ownership_agreement.proofs.Amounts.{IsOut}
use Rattle.ownership_agreement.proofs.Basics.{pos}
use Rattle.derivation_check.specs.derivation_trees.Trees.{Trees, MoreTrees}
use Rattle.derivation_check.specs.Owned.{roots, AreOwned}
use Rattle.derivation_check.specs.Scopes.{Known, Scope, known}
use Rattle.derivation_check.specs.Calculus.{Choice, IsScalar, Plain, MayLend, Lends, FirstOf, DerivesValue, DerivesPassed}
use Rattle.derivation_making.specs.Uses.{occurs_value, occurs_values}
use Rattle.derivation_making.specs.Made.{those, numbers, made_value, made_passed}
use Rattle.derivation_making.specs.Fitting.{FitsValue, FitsLent, FitPassed}
use Rattle.derivation_making.proofs.Lists.{flag, tally, EachOf, each_of, given_split, same_those, never_those, either, not_both, same_number}
use Rattle.derivation_making.proofs.Linking.{Linked, there_before}
use Rattle.derivation_making.proofs.Reading.{there_is, or_pos, value_pos, lent_variable}
use Rattle.derivation_making.proofs.Arguments.{Holding, zero_none, value_own, value_in, value_out, value_owned, under_value, value_derives, flag_sum}
use Rattle.type_check.proofs.fip_language.Facts.{or_first, or_last}

-- ---- what a status lets do

pub lend_back : (s : Status) (m : ℕ) → K.MayLend (after s m) → K.MayLend s
lend_back s zero h = h
lend_back Free (suc m) h = h
lend_back (Owned u l) (suc m) h = absurd h

pub lend_none : (s : Status) → K.MayLend s → held s ≡ 0
lend_none Free h = refl
lend_none (Owned false true) h = refl
lend_none (Owned false false) h = absurd h
lend_none (Owned true l) h = absurd h

pub lend_seen : (s : Status) → K.MayLend s → visible s ≡ true
lend_seen Free h = refl
lend_seen (Owned false true) h = refl
lend_seen (Owned false false) h = absurd h
lend_seen (Owned true l) h = absurd h

-- ---- a borrowed argument

lends_well : (b : Bool) (t : ℕ → Status) (y : ℕ) → b ≡ false → K.LendsWell t (if b then T.Scalar else T.Named y) → K.MayLend (t y)
lends_well true t y e h = absurd (cc)
lends_well false t y e h = h

well_at : (w : World) (vs : List Known) (c : Names) (sc : Scalars) (t : ℕ → Status) (y : ℕ) (v : Known) → Linked w vs c sc → known vs y ≡ Some v → w.scalar v.ty ≡ false → K.LendsWell t (variable sc (H.known c.marks y)) → K.MayLend (t y)
well_at w vs c sc t y v l k e h =
    let g = l y v k in
    lends_well (sc y) t y (g.1 ∙ e) (subst (λ (o : Option ℕ). K.LendsWell t (variable sc o)) g.0 h)

one_lends : (s : Bool) (w : World) (v : Known) (lent : ℕ → Bool) → w.scalar v.ty ≡ s → (s ≡ false → (not v.owned || lent v.number) ≡ true) → (w.scalar v.ty || (not v.owned || lent v.number)) ≡ true
one_lends true w v lent e f = ap (λ b. b || (not v.owned || lent v.number)) e
one_lends false w v lent e f = or_last (w.scalar v.ty) (not v.owned || lent v.number) (f refl)

-- t is what the variables went through before the argument, s before the call
pub lends_derives : (w : World) (sp : Scope) (c : Names) (sc : Scalars) (s t : ℕ → Status) (a : Argument) → Linked w sp.variables c sc → FitsLent w sp.variables a → K.LendsWell t (lent_value w sc c.marks a) → ((x : ℕ) → K.MayLend (t x) → K.MayLend (s x)) → ((x : ℕ) (v : Known) → known sp.variables x ≡ Some v → w.scalar v.ty ≡ false → occurs_value x a ≡ true → visible (s x) ≡ true → (not v.owned || sp.lent v.number) ≡ true) → Lends w sp a
lends_derives w sp c sc s t (Variable None n q) l f h b g = absurd f
lends_derives w sp c sc s t (Variable (Some y) n q) l f h b g =
    let v = there_is (known sp.variables y) f in
    subst (λ (o : Option Known). MayLend w sp.lent o) (sym v.1)
    (one_lends (w.scalar v.0.ty) w v.0 sp.lent refl
    (λ e. g y v.0 v.1 e (self y) (lend_seen (s y) (b y (well_at w sp.variables c sc t y v.0 l v.1 e h)))))
  where
    self : (y : ℕ) → (y == y) ≡ true
    self y = grind (arith, nat_tests)
lends_derives w sp c sc s t (Literal i q) l f h b g = absurd f
lends_derives w sp c sc s t (Constructor u d k n q as') l f h b g = absurd (no_built (w.scalar u) f h)
  where
    no_built : (b : Bool) → b ≡ false → K.LendsWell t (if b then T.Scalar else T.Built (B.values sc c.marks as')) → ⊥
    no_built true e h = absurd (cc)
    no_built false e h = h

-- it is none of what may be used up
lent_apart : (w : World) (vs : List Known) (c : Names) (sc : Scalars) (d : ℕ) (have : List Known) (s t : ℕ → Status) (a : Argument) (x : ℕ) → Holding w vs c sc d have → FitsLent w vs a → K.LendsWell t (lent_value w sc c.marks a) → ((x : ℕ) → K.MayLend (t x) → K.MayLend (s x)) → ((x : ℕ) → tally x have ≤ held (s x)) → 1 ≤ tally x have → occurs_value x a ≡ false
lent_apart w vs c sc d have s t (Variable None n q) x h f g b l m = absurd f
lent_apart w vs c sc d have s t (Variable (Some y) n q) x h f g b l m = elim (either (y == x)) [
  | inr e ↦ e
  | inl e ↦
      let j = same_number y x e in
      let r = there_before w vs c sc have x h.linked h.are_known m in
      let v = r.2 in
      let z = lend_none (s y) (b y (well_at w vs c sc t y v.0 h.linked (ap (known vs) j ∙ v.1) v.2 g)) in
      let k : held (s y) ≡ held (s x) = ap (λ (i : ℕ). held (s i)) j in
      let o = l x in absurd (omega arith)
]
lent_apart w vs c sc d have s t (Literal i q) x h f g b l m = refl
lent_apart w vs c sc d have s t (Constructor u e k n q as') x h f g b l m = absurd (no_built (w.scalar u) f g)
  where
    no_built : (b : Bool) → b ≡ false → K.LendsWell t (if b then T.Scalar else T.Built (B.values sc c.marks as')) → ⊥
    no_built true e h = absurd (cc)
    no_built false e h = h

lent_made : (w : World) (vs : List Known) (c : Names) (sc : Scalars) (t : ℕ → Status) (a : Argument) (k : ℕ) → FitsLent w vs a → K.LendsWell t (lent_value w sc c.marks a) → made k a ≡ 0
lent_made w vs c sc t (Variable y n q) k f g = refl
lent_made w vs c sc t (Literal i q) k f g = refl
lent_made w vs c sc t (Constructor u e m n q as') k f g = absurd (no_built (w.scalar u) f g)
  where
    no_built : (b : Bool) → b ≡ false → K.LendsWell t (if b then T.Scalar else T.Built (B.values sc c.marks as')) → ⊥
    no_built true e h = absurd (cc)
    no_built false e h = h

-- ---- a scalar one

scalar_is : (w : World) (o : Option Known) (v : Known) → IsScalar w o → o ≡ Some v → w.scalar v.ty ≡ true
scalar_is w None v h e = absurd h
scalar_is w (Some u) v h e = ap (λ (o : Option Known). type_scalar o) (sym e) ∙ h
  where
    type_scalar : Option Known → Bool
    type_scalar None = true
    type_scalar (Some z) = w.scalar z.ty

no_more : (as' : Arguments) (x : ℕ) → count as' ≡ 0 → occurs_values x as' ≡ false
no_more NoArguments x e = refl
no_more (MoreArguments a as') x e = absurd (omega arith)

pub plain_apart : (w : World) (vs : List Known) (c : Names) (sc : Scalars) (d : ℕ) (have : List Known) (a : Argument) (x : ℕ) → Holding w vs c sc d have → Plain w vs a → 1 ≤ tally x have → occurs_value x a ≡ false
plain_apart w vs c sc d have (Variable None n q) x h f m = refl
plain_apart w vs c sc d have (Variable (Some y) n q) x h f m = elim (either (y == x)) [
  | inr e ↦ e
  | inl e ↦
      let r = there_before w vs c sc have x h.linked h.are_known m in
      let v = r.2 in
      absurd (not_both (w.scalar v.0.ty) (scalar_is w (known vs y) v.0 f (ap (known vs) (same_number y x e) ∙ v.1)) v.2)
]
plain_apart w vs c sc d have (Literal i q) x h f m = refl
plain_apart w vs c sc d have (Constructor u e k n q as') x h f m = no_more as' x f

plain_made : (w : World) (vs : List Known) (a : Argument) (k : ℕ) → Plain w vs a → 0 < k → made k a ≡ 0
plain_made w vs (Variable y n q) k f l = refl
plain_made w vs (Literal i q) k f l = refl
plain_made w vs (Constructor u e m n q NoArguments) k f l = zero_none k l
plain_made w vs (Constructor u e m n q (MoreArguments a as')) k f l = absurd (omega arith)

-- ---- all

-- the facts of a call's arguments from one on; s is before the call, t before that argument
pub record Passes (w : World) (sp : Scope) (c : Names) (sc : Scalars) (d : ℕ) (have : List Known) (s t : ℕ → Status) (as' : Arguments) (gs : T.Passed) : Type 0 where
  pub holding : Holding w sp.variables c sc d have
  pub few : (x : ℕ) → tally x have ≤ held (s x)
  pub lent : (x : ℕ) (v : Known) → known sp.variables x ≡ Some v → w.scalar v.ty ≡ false → occurs_values x as' ≡ true → visible (s x) ≡ true → (not v.owned || sp.lent v.number) ≡ true
  pub clean : K.CleanPassed t gs
  pub back : (x : ℕ) → K.MayLend (t x) → K.MayLend (s x)
  pub asked : (x : ℕ) → passed_used_up gs (Own x) ≤ tally x have

-- what the parts of a call for its arguments are
pub record PassedWell (w : World) (sp : Scope) (d : ℕ) (have : List Known) (ps : List Param) (as' : Arguments) (gs : T.Passed) (ts : Trees) : Type 0 where
  pub derived : DerivesPassed w sp d ps as' ts
  pub used : (x : ℕ) → 1 ≤ tally x have → occurs_values x as' ≡ pos (passed_used_up gs (Own x))
  pub own : (y : ℕ) → roots ts (Own y) ≡ given y (numbers (those (λ x. occurs_values x as') have))
  pub inner : (k : ℕ) → 0 < k → k < 17 → roots ts (Credit k) ≡ made_all k as'
  pub outer : (k : ℕ) → IsOut k → roots ts (Credit k) ≡ 0
  pub are_owned : AreOwned d ts

skipped : (w : World) (sp : Scope) (d : ℕ) (have : List Known) (q : Param) (ps : List Param) (a : Argument) (as' : Arguments) (gs hs : T.Passed) (ts : Trees) → DerivesPassed w sp d (q ∷ ps) (MoreArguments a as') ts → ((x : ℕ) → 1 ≤ tally x have → (occurs_value x a || occurs_values x as') ≡ pos (passed_used_up hs (Own x))) → ((x : ℕ) → 1 ≤ tally x have → occurs_value x a ≡ false) → ((k : ℕ) → 0 < k → made k a ≡ 0) → PassedWell w sp d have ps as' gs ts → PassedWell w sp d have (q ∷ ps) (MoreArguments a as') hs ts
skipped w sp d have q ps a as' gs hs ts e u f g r = record {
  derived = e;
  used = u;
  own = λ y. r.own y ∙ ap (λ (us : List Known). given y (numbers us)) (same_those (λ x. occurs_values x as') (λ x. occurs_value x a || occurs_values x as') have (each_of (λ x. occurs_values x as' ≡ (occurs_value x a || occurs_values x as')) have (λ x m. ap (λ b. b || occurs_values x as') (sym (f x m)))));
  inner = λ k h l. let x = r.inner k h l in let y = g k h in omega arith;
  outer = r.outer;
  are_owned = r.are_owned;
}

after_owned : (w : World) (sp : Scope) (c : Names) (sc : Scalars) (d : ℕ) (have : List Known) (s t : ℕ → Status) (a : Argument) (as' : Arguments) (gs : T.Passed) → Passes w sp c sc d have s t (MoreArguments a as') (T.PassOwned (value sc c.marks a) gs) → Passes w sp c sc d have s (λ x. after (t x) (used_up (value sc c.marks a) (Own x))) as' gs
after_owned w sp c sc d have s t a as' gs h = record {
  holding = h.holding;
  few = h.few;
  lent = λ x v k e o. h.lent x v k e (or_last (occurs_value x a) (occurs_values x as') o);
  clean = h.clean.1;
  back = λ x m. h.back x (lend_back (t x) (used_up (value sc c.marks a) (Own x)) m);
  asked = λ x. let e : used_up (value sc c.marks a) (Own x) + passed_used_up gs (Own x) ≤ tally x have = h.asked x in omega arith;
}

following_lent : (w : World) (sp : Scope) (c : Names) (sc : Scalars) (d : ℕ) (have : List Known) (s t : ℕ → Status) (a : Argument) (as' : Arguments) (gs : T.Passed) → Passes w sp c sc d have s t (MoreArguments a as') (T.PassLent (lent_value w sc c.marks a) gs) → Passes w sp c sc d have s t as' gs
following_lent w sp c sc d have s t a as' gs h = record {
  holding = h.holding;
  few = h.few;
  lent = λ x v k e o. h.lent x v k e (or_last (occurs_value x a) (occurs_values x as') o);
  clean = h.clean.1;
  back = h.back;
  asked = λ x. let e : lent_used_up (lent_value w sc c.marks a) (Own x) + passed_used_up gs (Own x) ≤ tally x have = h.asked x in omega arith;
}

used_both : (w : World) (sp : Scope) (c : Names) (sc : Scalars) (d : ℕ) (have : List Known) (a : Argument) (as' : Arguments) (gs : T.Passed) → Holding w sp.variables c sc d have → FitsValue sp.variables a → ((x : ℕ) → 1 ≤ tally x have → occurs_values x as' ≡ pos (passed_used_up gs (Own x))) → (x : ℕ) → 1 ≤ tally x have → (occurs_value x a || occurs_values x as') ≡ pos (passed_used_up (T.PassOwned (value sc c.marks a) gs) (Own x))
used_both w sp c sc d have a as' gs h f u x m =
    or_pos (occurs_value x a) (occurs_values x as') (used_up (value sc c.marks a) (Own x)) (passed_used_up gs (Own x))
    (value_pos w sp.variables c sc x a h.linked f (there_before w sp.variables c sc have x h.linked h.are_known m).1) (u x m)

lent_used : (w : World) (vs : List Known) (c : Names) (sc : Scalars) (t : ℕ → Status) (a : Argument) (x : ℕ) → FitsLent w vs a → K.LendsWell t (lent_value w sc c.marks a) → lent_used_up (lent_value w sc c.marks a) (Own x) ≡ 0
lent_used w vs c sc t (Variable None n q) x f g = absurd f
lent_used w vs c sc t (Variable (Some y) n q) x f g = lent_variable sc (H.known c.marks y) (Own x)
lent_used w vs c sc t (Literal i q) x f g = refl
lent_used w vs c sc t (Constructor u e m n q as') x f g = absurd (no_built (w.scalar u) f g)
  where
    no_built : (b : Bool) → b ≡ false → K.LendsWell t (if b then T.Scalar else T.Built (B.values sc c.marks as')) → ⊥
    no_built true e h = absurd (cc)
    no_built false e h = h

used_lent : (w : World) (sp : Scope) (c : Names) (sc : Scalars) (t : ℕ → Status) (have : List Known) (a : Argument) (as' : Arguments) (gs : T.Passed) → FitsLent w sp.variables a → K.LendsWell t (lent_value w sc c.marks a) → ((x : ℕ) → 1 ≤ tally x have → occurs_value x a ≡ false) → ((x : ℕ) → 1 ≤ tally x have → occurs_values x as' ≡ pos (passed_used_up gs (Own x))) → (x : ℕ) → 1 ≤ tally x have → (occurs_value x a || occurs_values x as') ≡ pos (passed_used_up (T.PassLent (lent_value w sc c.marks a) gs) (Own x))
used_lent w sp c sc t have a as' gs f g n u x m =
    ap (λ b. b || occurs_values x as') (n x m) ∙ u x m ∙ ap pos (let z = lent_used w sp.variables c sc t a x f g in same (lent_used_up (lent_value w sc c.marks a) (Own x)) (passed_used_up gs (Own x)) z)
  where
    same : (m n : ℕ) → m ≡ 0 → n ≡ m + n
    same m n e = omega arith

chosen : (w : World) (q : Param) (b1 b2 : Bool) (A B C : Type 0) → w.scalar q.ty ≡ b1 → q.lent ≡ b2 → Choice b1 A (Choice b2 B C) → Choice (w.scalar q.ty) A (Choice q.lent B C)
chosen w q b1 b2 A B C e f x = subst (λ b. Choice b A (Choice q.lent B C)) (sym e) (subst (λ b. Choice b1 A (Choice b B C)) (sym f) x)

one_step : (p : Program) (w : World) (sp : Scope) (c : Names) (sc : Scalars) (d : ℕ) (have : List Known) (s t : ℕ → Status) (q : Param) (ps : List Param) (a : Argument) (as' : Arguments) (gs : T.Passed) (b1 b2 : Bool) → w.scalar q.ty ≡ b1 → q.lent ≡ b2 → Passes w sp c sc d have s t (MoreArguments a as') (if b2 && not b1 then T.PassLent (lent_value w sc c.marks a) gs else T.PassOwned (value sc c.marks a) gs) → FitsValue sp.variables a → Choice b1 (Plain w sp.variables a) (Choice b2 (FitsLent w sp.variables a) (Unit {0})) → SizedArgument p a → ((u : ℕ → Status) → Passes w sp c sc d have s u as' gs → PassedWell w sp d have ps as' gs (made_passed w sp.variables have ps as')) → PassedWell w sp d have (q ∷ ps) (MoreArguments a as') (if b2 && not b1 then T.PassLent (lent_value w sc c.marks a) gs else T.PassOwned (value sc c.marks a) gs) (if b1 || b2 then made_passed w sp.variables have ps as' else MoreTrees (made_value w sp.variables have a) (made_passed w sp.variables have ps as'))
one_step p w sp c sc d have s t q ps a as' gs true true e1 e2 h f k z tail =
    let r = tail (λ x. after (t x) (used_up (value sc c.marks a) (Own x))) (after_owned w sp c sc d have s t a as' gs h) in
    let ts = made_passed w sp.variables have ps as' in
    skipped w sp d have q ps a as' gs (T.PassOwned (value sc c.marks a) gs) ts
    (chosen w q true true (Plain w sp.variables a × DerivesPassed w sp d ps as' ts) (Lends w sp a × DerivesPassed w sp d ps as' ts) (FirstOf ts (λ t us. DerivesValue w sp.variables d t a × DerivesPassed w sp d ps as' us)) e1 e2 (k, r.derived))
    (used_both w sp c sc d have a as' gs h.holding f r.used)
    (λ x m. plain_apart w sp.variables c sc d have a x h.holding k m) (λ j l. plain_made w sp.variables a j k l) r
one_step p w sp c sc d have s t q ps a as' gs true false e1 e2 h f k z tail =
    let r = tail (λ x. after (t x) (used_up (value sc c.marks a) (Own x))) (after_owned w sp c sc d have s t a as' gs h) in
    let ts = made_passed w sp.variables have ps as' in
    skipped w sp d have q ps a as' gs (T.PassOwned (value sc c.marks a) gs) ts
    (chosen w q true false (Plain w sp.variables a × DerivesPassed w sp d ps as' ts) (Lends w sp a × DerivesPassed w sp d ps as' ts) (FirstOf ts (λ t us. DerivesValue w sp.variables d t a × DerivesPassed w sp d ps as' us)) e1 e2 (k, r.derived))
    (used_both w sp c sc d have a as' gs h.holding f r.used)
    (λ x m. plain_apart w sp.variables c sc d have a x h.holding k m) (λ j l. plain_made w sp.variables a j k l) r
one_step p w sp c sc d have s t q ps a as' gs false true e1 e2 h f k z tail =
    let r = tail t (following_lent w sp c sc d have s t a as' gs h) in
    let ts = made_passed w sp.variables have ps as' in
    let apart : (x : ℕ) → 1 ≤ tally x have → occurs_value x a ≡ false = λ x m. lent_apart w sp.variables c sc d have s t a x h.holding k h.clean.0 h.back h.few m in
    let lends : Lends w sp a = lends_derives w sp c sc s t a h.holding.linked k h.clean.0 h.back (λ x v i e o. h.lent x v i e (or_first (occurs_value x a) (occurs_values x as') o)) in
    skipped w sp d have q ps a as' gs (T.PassLent (lent_value w sc c.marks a) gs) ts
    (chosen w q false true (Plain w sp.variables a × DerivesPassed w sp d ps as' ts) (Lends w sp a × DerivesPassed w sp d ps as' ts) (FirstOf ts (λ t us. DerivesValue w sp.variables d t a × DerivesPassed w sp d ps as' us)) e1 e2 (lends, r.derived))
    (used_lent w sp c sc t have a as' gs k h.clean.0 apart r.used)
    apart (λ j l. lent_made w sp.variables c sc t a j k h.clean.0) r
one_step p w sp c sc d have s t q ps a as' gs false false e1 e2 h f k z tail =
    let r = tail (λ x. after (t x) (used_up (value sc c.marks a) (Own x))) (after_owned w sp c sc d have s t a as' gs h) in
    let ts = made_passed w sp.variables have ps as' in
    let us = MoreTrees (made_value w sp.variables have a) ts in
    let asked : (x : ℕ) → used_up (value sc c.marks a) (Own x) + passed_used_up gs (Own x) ≤ tally x have = h.asked in
    let v : DerivesValue w sp.variables d (made_value w sp.variables have a) a =
    value_derives p w sp.variables c sc d have (made_value w sp.variables have a) a h.holding f z (λ x. let e = asked x in omega arith) (under_value (is_fip w.kind) d w sp.variables have a) in
    let parts : EachOf (λ x. flag (occurs_value x a) + flag (occurs_values x as') ≡ flag (occurs_value x a || occurs_values x as')) have =
    each_of (λ x. flag (occurs_value x a) + flag (occurs_values x as') ≡ flag (occurs_value x a || occurs_values x as')) have
    (λ x m. flag_sum (occurs_value x a) (occurs_values x as') (used_up (value sc c.marks a) (Own x)) (passed_used_up gs (Own x))
    (value_pos w sp.variables c sc x a h.holding.linked f (there_before w sp.variables c sc have x h.holding.linked h.holding.are_known m).1) (r.used x m)
    (let e = asked x in let i = h.holding.single x in omega arith)) in
    record {
      derived = chosen w q false false (Plain w sp.variables a × DerivesPassed w sp d ps as' us) (Lends w sp a × DerivesPassed w sp d ps as' us) (DerivesValue w sp.variables d (made_value w sp.variables have a) a × DerivesPassed w sp d ps as' ts) e1 e2 (v, r.derived);
      used = used_both w sp c sc d have a as' gs h.holding f r.used;
      own = λ y.
          let i = value_own w sp.variables have a y in
          let j = r.own y in
          let k = given_split (λ x. occurs_value x a) (λ x. occurs_values x as') (λ x. occurs_value x a || occurs_values x as') have y parts in omega arith;
      inner = λ k h l. let i = value_in w sp.variables have a k h l in let j = r.inner k h l in omega arith;
      outer = λ k o. let i = value_out w sp.variables have a k o in let j = r.outer k o in omega arith;
      are_owned = (value_owned w sp.variables have d a h.holding.rising, r.are_owned);
    }

some_param : (q : Param) (o : Option Param) (w : World) → o ≡ Some q → lends_parameter w o ≡ (q.lent && not (w.scalar q.ty))
some_param q o w e = ap (lends_parameter w) e

lends_at : (w : World) (g j : ℕ) (e : Instance) (q : Param) (ps : List Param) → slice_get w.instances g ≡ Some e → ((i : ℕ) → slice_get e.params (j + i) ≡ slice_get (q ∷ ps) i) → lends w g j ≡ (q.lent && not (w.scalar q.ty))
lends_at w g j e q ps is h =
    let z : j + 0 ≡ j = omega arith in
    ap (λ (o : Option Instance). lends_to w o j) is ∙ some_param q (slice_get e.params j) w (ap (slice_get e.params) (sym z) ∙ h 0)

later_params : (e : Instance) (j : ℕ) (q : Param) (ps : List Param) → ((i : ℕ) → slice_get e.params (j + i) ≡ slice_get (q ∷ ps) i) → (i : ℕ) → slice_get e.params (suc j + i) ≡ slice_get ps i
later_params e j q ps h i = let z : suc j + i ≡ j + suc i = omega arith in ap (slice_get e.params) z ∙ h (suc i)

pub passed_well : (p : Program) (w : World) (sp : Scope) (c : Names) (sc : Scalars) (d : ℕ) (have : List Known) (s t : ℕ → Status) (g j : ℕ) (e : Instance) (ps : List Param) (as' : Arguments) → slice_get w.instances g ≡ Some e → ((i : ℕ) → slice_get e.params (j + i) ≡ slice_get ps i) → Passes w sp c sc d have s t as' (passed w sc c.marks g j as') → FitPassed w sp.variables ps as' → SizedArguments p as' → PassedWell w sp d have ps as' (passed w sc c.marks g j as') (made_passed w sp.variables have ps as')
passed_well p w sp c sc d have s t g j e [] NoArguments is i h f z = record {
  derived = tt;
  used = λ x m. refl;
  own = λ y. ap (λ (us : List Known). given y (numbers us)) (sym (never_those have));
  inner = λ k h l. refl;
  outer = λ k o. refl;
  are_owned = tt;
}
passed_well p w sp c sc d have s t g j e [] (MoreArguments a as') is i h f z = absurd f
passed_well p w sp c sc d have s t g j e (q ∷ ps) NoArguments is i h f z = absurd f
passed_well p w sp c sc d have s t g j e (q ∷ ps) (MoreArguments a as') is i h f z =
    let gs = passed w sc c.marks g (suc j) as' in
    let b = lends_at w g j e q ps is i in
    subst (λ b. PassedWell w sp d have (q ∷ ps) (MoreArguments a as') (if b then T.PassLent (lent_value w sc c.marks a) gs else T.PassOwned (value sc c.marks a) gs) (made_passed w sp.variables have (q ∷ ps) (MoreArguments a as'))) (sym b)
    (one_step p w sp c sc d have s t q ps a as' gs (w.scalar q.ty) q.lent refl refl
    (subst (λ b. Passes w sp c sc d have s t (MoreArguments a as') (if b then T.PassLent (lent_value w sc c.marks a) gs else T.PassOwned (value sc c.marks a) gs)) b h)
    f.0 f.1 z.0
    (λ u k. passed_well p w sp c sc d have s u g (suc j) e ps as' is (later_params e j q ps i) k f.2 z.1))
