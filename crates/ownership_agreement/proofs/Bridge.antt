-- Arguments and calls: clean in the calculus's words just where their shape is good.
use Rattle.std.proofs.Common.{◌≡◌, ℕ, zero, suc, refl, sym, ap, subst, ◌∙◌, List, Option, Some, None, Bool, true, false}
use Rattle.std.specs.Prelude.{◌↔◌, if◌then◌else◌}
use Rattle.credit_check.specs.fip_language.declared.Place.{Place}
use Rattle.credit_check.specs.fip_language.declared.rule.Rule.TheVariants.{E54}
use Rattle.credit_check.specs.fip_trees.Tree.{Name, Argument, Variable, Literal, Constructor, Arguments, NoArguments, MoreArguments}
use Rattle.fip_rules.specs.Marks.{Mark}
use Rattle.fip_rules.specs.Shape as S
use Rattle.fip_rules.specs.Rules.{owns}
use Rattle.fip_rules.specs.World.{World, lends}
use Rattle.fip_rules.specs.Shapes.{known, used_at, lent_at, token, owning, owning_all, lending, passing, passing_all}
use Rattle.ownership_calculus.specs.Terms as T
use Rattle.ownership_calculus.specs.Terms.{Own, Passed, PassLent, PassOwned}
use Rattle.ownership_calculus.specs.Clean as C
use Rattle.ownership_calculus.specs.Clean.{used_up}
use Rattle.ownership_agreement.specs.Good as G
use Rattle.ownership_agreement.specs.Mix.{state, mix}
use Rattle.ownership_agreement.specs.Bodies.{Scalars, variable, value, values, lent_value, passed}
use Rattle.ownership_agreement.proofs.Basics.{pos}
use Rattle.ownership_agreement.proofs.Owning.{arg_owns}

pub same : (s t : ℕ → G.State) → ((x : ℕ) → s x ≡ t x) → s ≡ t
same s t h = λ i y. h y i

pub spent_state : (t : C.Status) (n : ℕ) → G.spent (pos n) (state t) ≡ state (C.after t n)
spent_state C.Free zero = refl
spent_state C.Free (suc n) = refl
spent_state (C.Owned true l) zero = refl
spent_state (C.Owned false l) zero = refl
spent_state (C.Owned true l) (suc n) = refl
spent_state (C.Owned false l) (suc n) = refl

pub lending_state : (t : C.Status) (n : ℕ) → G.lending (pos n) (state t) ≡ state (C.lent t n)
lending_state C.Free zero = refl
lending_state C.Free (suc n) = refl
lending_state (C.Owned u l) zero = refl
lending_state (C.Owned u l) (suc n) = refl

pub spent_mix : (b o : Bool) (t : C.Status) (n : ℕ) → (b ≡ false → o ≡ pos n) → G.spent o (if b then G.Free else state t) ≡ (if b then G.Free else state (C.after t n))
spent_mix true o t n h = refl
spent_mix false o t n h = ap (λ q. G.spent q (state t)) (h refl) ∙ spent_state t n

pub lending_mix : (b o : Bool) (t : C.Status) (n : ℕ) → (b ≡ false → o ≡ pos n) → G.lending o (if b then G.Free else state t) ≡ (if b then G.Free else state (C.lent t n))
lending_mix true o t n h = refl
lending_mix false o t n h = ap (λ q. G.lending q (state t)) (h refl) ∙ lending_state t n

pub spent_none : (t : G.State) → G.spent false t ≡ t
spent_none G.Free = refl
spent_none G.Given = refl
spent_none (G.Held true l) = refl
spent_none (G.Held false l) = refl

pub both_is : (A B X Y : Type 0) → (A ↔ B) → (X ↔ Y) → (A × X) ↔ (B × Y)
both_is A B X Y f g = (λ h. (f.0 h.0, g.0 h.1), λ h. (f.1 h.0, g.1 h.1))

use_is : (t : C.Status) → C.MayUse t ↔ G.MayUse (state t)
use_is C.Free = (λ h. h, λ h. h)
use_is (C.Owned false l) = (λ h. refl, λ h. tt)
use_is (C.Owned true l) = (λ h. absurd h, λ h. absurd (cc))

lend_is : (t : C.Status) → C.MayLend t ↔ G.MayLend (state t)
lend_is C.Free = (λ h. h, λ h. h)
lend_is (C.Owned false true) = (λ h. (refl, refl), λ h. tt)
lend_is (C.Owned false false) = (λ h. absurd h, λ h. absurd (let z = h.1 in cc))
lend_is (C.Owned true l) = (λ h. absurd h, λ h. absurd (let z = h.0 in cc))

var_is : (s : ℕ → C.Status) (y : ℕ) (b : Bool) → C.CleanValue s (if b then T.Scalar else T.Named y) ↔ G.MayUse (if b then G.Free else state (s y))
var_is s y true = (λ h. h, λ h. h)
var_is s y false = use_is (s y)

seen_is : (fip : Bool) (sc : Scalars) (s : ℕ → C.Status) (o : Option ℕ) (y : ℕ) (p : Place) (n : Name) → C.CleanValue s (variable sc o) ↔ G.Good fip (mix sc s) (used_at o y p n)
seen_is fip sc s None y p n = (λ h. h, λ h. h)
seen_is fip sc s (Some i) y p n = var_is s i (sc i)

mutual
  pub arg_is : (fip : Bool) (sc : Scalars) (s : ℕ → C.Status) (ms : List Mark) (a : Argument) → C.CleanValue s (value sc ms a) ↔ G.Good fip (mix sc s) (owning ms a)
  arg_is fip sc s ms (Variable None n p) = (λ h. h, λ h. h)
  arg_is fip sc s ms (Variable (Some y) n p) = seen_is fip sc s (known ms y) y p n
  arg_is fip sc s ms (Literal i p) = (λ h. h, λ h. h)
  arg_is fip sc s ms (Constructor t d c n p as') = args_is fip sc s ms as'

  pub args_is : (fip : Bool) (sc : Scalars) (s : ℕ → C.Status) (ms : List Mark) (as' : Arguments) → C.CleanValues s (values sc ms as') ↔ G.Good fip (mix sc s) (owning_all ms as')
  args_is fip sc s ms NoArguments = (λ h. h, λ h. h)
  args_is fip sc s ms (MoreArguments a as') =
      let t : ℕ → C.Status = λ x. C.after (s x) (used_up (value sc ms a) (Own x)) in
      let g : ℕ → G.State = λ x. G.spent (owns x (owning ms a)) (mix sc s x) in
      both_is (C.CleanValue s (value sc ms a)) (G.Good fip (mix sc s) (owning ms a)) (C.CleanValues t (values sc ms as')) (G.Good fip g (owning_all ms as')) (arg_is fip sc s ms a)
      (subst (λ q. C.CleanValues t (values sc ms as') ↔ G.Good fip q (owning_all ms as')) (sym (same g (mix sc t) (λ x. spent_mix (sc x) (owns x (owning ms a)) (s x) (used_up (value sc ms a) (Own x)) (arg_owns x sc ms a)))) (args_is fip sc t ms as'))

lent_var_is : (s : ℕ → C.Status) (y : ℕ) (b : Bool) → C.LendsWell s (if b then T.Scalar else T.Named y) ↔ G.MayLend (if b then G.Free else state (s y))
lent_var_is s y true = (λ h. h, λ h. h)
lent_var_is s y false = lend_is (s y)

lent_seen_is : (fip : Bool) (sc : Scalars) (s : ℕ → C.Status) (o : Option ℕ) (y : ℕ) (p : Place) (n : Name) → C.LendsWell s (variable sc o) ↔ G.Good fip (mix sc s) (lent_at o y p n)
lent_seen_is fip sc s None y p n = (λ h. h, λ h. h)
lent_seen_is fip sc s (Some i) y p n = lent_var_is s i (sc i)

lent_built_is : (fip : Bool) (sc : Scalars) (s : ℕ → C.Status) (ms : List Mark) (p : Place) (n : Name) (as' : Arguments) (b : Bool) → C.LendsWell s (if b then T.Scalar else T.Built (values sc ms as')) ↔ G.Good fip (mix sc s) (if b then S.Skip else S.Then (S.Fault E54 (token p n)) (owning_all ms as'))
lent_built_is fip sc s ms p n as' true = (λ h. h, λ h. h)
lent_built_is fip sc s ms p n as' false = (λ h. absurd h, λ h. h.0)

pub lends_is : (fip : Bool) (w : World) (sc : Scalars) (s : ℕ → C.Status) (ms : List Mark) (a : Argument) → C.LendsWell s (lent_value w sc ms a) ↔ G.Good fip (mix sc s) (lending w ms a)
lends_is fip w sc s ms (Variable None n p) = (λ h. h, λ h. h)
lends_is fip w sc s ms (Variable (Some y) n p) = lent_seen_is fip sc s (known ms y) y p n
lends_is fip w sc s ms (Literal i p) = (λ h. h, λ h. h)
lends_is fip w sc s ms (Constructor t d c n p as') = lent_built_is fip sc s ms p n as' (w.scalar t)

no_use : (s : ℕ → C.Status) (sc : Scalars) (ms : List Mark) (p : Place) (n : Name) (as' : Arguments) (b : Bool) (x : ℕ) → C.LendsWell s (if b then T.Scalar else T.Built (values sc ms as')) → owns x (if b then S.Skip else S.Then (S.Fault E54 (token p n)) (owning_all ms as')) ≡ false
no_use s sc ms p n as' true x h = refl
no_use s sc ms p n as' false x h = absurd h

lent_unused : (x : ℕ) (o : Option ℕ) (y : ℕ) (p : Place) (n : Name) → owns x (lent_at o y p n) ≡ false
lent_unused x None y p n = refl
lent_unused x (Some i) y p n = refl

-- what is borrowed well uses nothing
pub lent_none : (w : World) (sc : Scalars) (s : ℕ → C.Status) (ms : List Mark) (a : Argument) (x : ℕ) → C.LendsWell s (lent_value w sc ms a) → owns x (lending w ms a) ≡ false
lent_none w sc s ms (Variable None n p) x h = refl
lent_none w sc s ms (Variable (Some y) n p) x h = lent_unused x (known ms y) y p n
lent_none w sc s ms (Literal i p) x h = refl
lent_none w sc s ms (Constructor t d c n p as') x h = no_use s sc ms p n as' (w.scalar t) x h

-- and what comes after it is as before
pub after_lent : (fip : Bool) (w : World) (sc : Scalars) (s : ℕ → C.Status) (ms : List Mark) (a : Argument) (X : Type 0) (e : S.Shape) → (X ↔ G.Good fip (mix sc s) e) → (C.LendsWell s (lent_value w sc ms a) × X) ↔ (G.Good fip (mix sc s) (lending w ms a) × G.Good fip (λ x. G.spent (owns x (lending w ms a)) (mix sc s x)) e)
after_lent fip w sc s ms a X e f =
    let g : ℕ → G.State = λ x. G.spent (owns x (lending w ms a)) (mix sc s x) in
    let alike : C.LendsWell s (lent_value w sc ms a) → g ≡ mix sc s = λ h. same g (mix sc s) (λ x. ap (λ q. G.spent q (mix sc s x)) (lent_none w sc s ms a x h) ∙ spent_none (mix sc s x)) in (
      λ h. ((lends_is fip w sc s ms a).0 h.0, subst (λ q. G.Good fip q e) (sym (alike h.0)) (f.0 h.1)),
      λ h. let l = (lends_is fip w sc s ms a).1 h.0 in (l, f.1 (subst (λ q. G.Good fip q e) (alike l) h.1)),
    )

one_passed_is : (fip : Bool) (w : World) (sc : Scalars) (s : ℕ → C.Status) (ms : List Mark) (b : Bool) (a : Argument) (gs : Passed) (c : S.Shape) → ((t : ℕ → C.Status) → C.CleanPassed t gs ↔ G.Good fip (mix sc t) c) → C.CleanPassed s (if b then PassLent (lent_value w sc ms a) gs else PassOwned (value sc ms a) gs) ↔ G.Good fip (mix sc s) (S.Then (passing w ms b a) c)
one_passed_is fip w sc s ms true a gs c f = after_lent fip w sc s ms a (C.CleanPassed s gs) c (f s)
one_passed_is fip w sc s ms false a gs c f =
    let t : ℕ → C.Status = λ x. C.after (s x) (used_up (value sc ms a) (Own x)) in
    let g : ℕ → G.State = λ x. G.spent (owns x (owning ms a)) (mix sc s x) in
    both_is (C.CleanValue s (value sc ms a)) (G.Good fip (mix sc s) (owning ms a)) (C.CleanPassed t gs) (G.Good fip g c) (arg_is fip sc s ms a)
    (subst (λ q. C.CleanPassed t gs ↔ G.Good fip q c) (sym (same g (mix sc t) (λ x. spent_mix (sc x) (owns x (owning ms a)) (s x) (used_up (value sc ms a) (Own x)) (arg_owns x sc ms a)))) (f t))

pub passed_is : (fip : Bool) (w : World) (sc : Scalars) (s : ℕ → C.Status) (ms : List Mark) (g j : ℕ) (as' : Arguments) → C.CleanPassed s (passed w sc ms g j as') ↔ G.Good fip (mix sc s) (passing_all w ms g j as')
passed_is fip w sc s ms g j NoArguments = (λ h. h, λ h. h)
passed_is fip w sc s ms g j (MoreArguments a as') = one_passed_is fip w sc s ms (lends w g j) a (passed w sc ms g (suc j) as') (passing_all w ms g (suc j) as') (λ t. passed_is fip w sc t ms g (suc j) as')
