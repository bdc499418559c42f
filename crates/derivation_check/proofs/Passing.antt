-- The arguments of a call, one by one.
use Rattle.std.proofs.Common.{◌≡◌, ℕ, zero, suc, ◌<◌, ◌≤◌, ◌+◌, ◌-◌, refl, sym, ap, ◌∙◌, subst, List, [], ◌∷◌, length, get_or, drop, Option, Some, None, Bool, true, false, ◌||◌, not, Vec, Global, arith}
use Rattle.std.specs.Prelude.{slice_get}
use Rattle.fip_base.specs.declared.plain.Param.{Param}
use Rattle.fip_trees.specs.Tree as T
use Rattle.fip_trees.specs.TreeView as V
use Rattle.fip_trees.specs.fip_language.declared.Place.{Place}
use Rattle.fip_trees.specs.declared.program.Argument as A
use Rattle.fip_trees.specs.declared.program.Argument.TheVariants as AV
use Rattle.fip_trees.proofs.TreeViews.{argument_constructor, count_view}
use Rattle.fip_rules.specs.World.{World}
use Rattle.derivation_trees.specs.declared.derivation.Node.{Node}
use Rattle.derivation_trees.specs.Trees.{Tree, Trees, NoTrees, MoreTrees}
use Rattle.derivation_check.specs.Places.{at, parts, following}
use Rattle.derivation_check.specs.Scopes.{Known, Scope}
use Rattle.derivation_check.specs.Calculus.{Choice, Plain, Lends, FirstOf, DerivesValue, DerivesPassed}
use Rattle.derivation_check.proofs.Numbers.{drop_item, drop_end, drop_nothing}
use Rattle.derivation_check.proofs.Rows.{row_first, row_none}
use Rattle.fip_base.proofs.fip_language.Facts.{drop_at_next as drop_get, drop_of_none as get_past}
pub use Rattle.fip_base.proofs.fip_language.Facts.{left_at as drop_got}
use Rattle.derivation_check.proofs.Lines.{choice_false as false_choice, choice_not as choice_false, choice_so as choice_true, choice_true as true_choice}

pub passed_scalar : (w : World) (s : Scope) (d : ℕ) (p : Param) (a : T.Argument) (ps : List Param) (as' : T.Arguments) (ts : Trees) → w.scalar p.ty ≡ true → Plain w s.variables a → DerivesPassed w s d ps as' ts → DerivesPassed w s d (p ∷ ps) (T.MoreArguments a as') ts
passed_scalar w s d p a ps as' ts e h g = subst (λ b. Choice b (Plain w s.variables a × DerivesPassed w s d ps as' ts) (Choice p.lent (Lends w s a × DerivesPassed w s d ps as' ts) (FirstOf ts (λ t us. DerivesValue w s.variables d t a × DerivesPassed w s d ps as' us)))) (sym e) (h, g)

pub scalar_passed : (w : World) (s : Scope) (d : ℕ) (p : Param) (a : T.Argument) (ps : List Param) (as' : T.Arguments) (ts : Trees) → w.scalar p.ty ≡ true → DerivesPassed w s d (p ∷ ps) (T.MoreArguments a as') ts → Plain w s.variables a × DerivesPassed w s d ps as' ts
scalar_passed w s d p a ps as' ts e h = subst (λ b. Choice b (Plain w s.variables a × DerivesPassed w s d ps as' ts) (Choice p.lent (Lends w s a × DerivesPassed w s d ps as' ts) (FirstOf ts (λ t us. DerivesValue w s.variables d t a × DerivesPassed w s d ps as' us)))) e h

pub passed_lent : (w : World) (s : Scope) (d : ℕ) (p : Param) (a : T.Argument) (ps : List Param) (as' : T.Arguments) (ts : Trees) → w.scalar p.ty ≡ false → p.lent ≡ true → Lends w s a → DerivesPassed w s d ps as' ts → DerivesPassed w s d (p ∷ ps) (T.MoreArguments a as') ts
passed_lent w s d p a ps as' ts e l h g = false_choice (w.scalar p.ty) (Plain w s.variables a × DerivesPassed w s d ps as' ts) (Choice p.lent (Lends w s a × DerivesPassed w s d ps as' ts) (FirstOf ts (λ t us. DerivesValue w s.variables d t a × DerivesPassed w s d ps as' us))) e (true_choice p.lent (Lends w s a × DerivesPassed w s d ps as' ts) (FirstOf ts (λ t us. DerivesValue w s.variables d t a × DerivesPassed w s d ps as' us)) l (h, g))

pub lent_passed : (w : World) (s : Scope) (d : ℕ) (p : Param) (a : T.Argument) (ps : List Param) (as' : T.Arguments) (ts : Trees) → w.scalar p.ty ≡ false → p.lent ≡ true → DerivesPassed w s d (p ∷ ps) (T.MoreArguments a as') ts → Lends w s a × DerivesPassed w s d ps as' ts
lent_passed w s d p a ps as' ts e l h = choice_true p.lent (Lends w s a × DerivesPassed w s d ps as' ts) (FirstOf ts (λ t us. DerivesValue w s.variables d t a × DerivesPassed w s d ps as' us)) l (choice_false (w.scalar p.ty) (Plain w s.variables a × DerivesPassed w s d ps as' ts) (Choice p.lent (Lends w s a × DerivesPassed w s d ps as' ts) (FirstOf ts (λ t us. DerivesValue w s.variables d t a × DerivesPassed w s d ps as' us))) e h)

pub passed_given : (w : World) (s : Scope) (d : ℕ) (p : Param) (a : T.Argument) (ps : List Param) (as' : T.Arguments) (ts us : Trees) (t : Tree) → w.scalar p.ty ≡ false → p.lent ≡ false → ts ≡ MoreTrees t us → DerivesValue w s.variables d t a → DerivesPassed w s d ps as' us → DerivesPassed w s d (p ∷ ps) (T.MoreArguments a as') ts
passed_given w s d p a ps as' ts us t e l q h g = false_choice (w.scalar p.ty) (Plain w s.variables a × DerivesPassed w s d ps as' ts) (Choice p.lent (Lends w s a × DerivesPassed w s d ps as' ts) (FirstOf ts (λ t us. DerivesValue w s.variables d t a × DerivesPassed w s d ps as' us))) e (false_choice p.lent (Lends w s a × DerivesPassed w s d ps as' ts) (FirstOf ts (λ t us. DerivesValue w s.variables d t a × DerivesPassed w s d ps as' us)) l (subst (λ vs. FirstOf vs (λ t us. DerivesValue w s.variables d t a × DerivesPassed w s d ps as' us)) (sym q) (h, g)))

first_of : (ts : Trees) (P : Tree → Trees → Type 0) → FirstOf ts P → (t : Tree) × (us : Trees) × (ts ≡ MoreTrees t us) × P t us
first_of NoTrees P h = absurd h
first_of (MoreTrees t us) P h = (t, us, refl, h)

pub given_passed : (w : World) (s : Scope) (d : ℕ) (p : Param) (a : T.Argument) (ps : List Param) (as' : T.Arguments) (ts : Trees) → w.scalar p.ty ≡ false → p.lent ≡ false → DerivesPassed w s d (p ∷ ps) (T.MoreArguments a as') ts → (t : Tree) × (us : Trees) × (ts ≡ MoreTrees t us) × DerivesValue w s.variables d t a × DerivesPassed w s d ps as' us
given_passed w s d p a ps as' ts e l h =
    let f = first_of ts (λ t us. DerivesValue w s.variables d t a × DerivesPassed w s d ps as' us) (choice_false p.lent (Lends w s a × DerivesPassed w s d ps as' ts) (FirstOf ts (λ t us. DerivesValue w s.variables d t a × DerivesPassed w s d ps as' us)) l (choice_false (w.scalar p.ty) (Plain w s.variables a × DerivesPassed w s d ps as' ts) (Choice p.lent (Lends w s a × DerivesPassed w s d ps as' ts) (FirstOf ts (λ t us. DerivesValue w s.variables d t a × DerivesPassed w s d ps as' us))) e h)) in
    (f.0, f.1, f.2, f.3.0, f.3.1)

-- one parameter and argument more
pub passed_up : (w : World) (s : Scope) (d i j : ℕ) (ps : List Param) (p : Param) (as' : List A.Argument) (a : A.Argument) (ts us : Trees) → j ≡ i → slice_get ps j ≡ Some p → i < length as' → a ≡ get_or as' i a → ((qs : List Param) (bs : T.Arguments) → DerivesPassed w s d qs bs us → DerivesPassed w s d (p ∷ qs) (T.MoreArguments (V.argument a) bs) ts) → DerivesPassed w s d (drop (i + 1) ps) (V.arguments (drop (i + 1) as')) us → DerivesPassed w s d (drop i ps) (V.arguments (drop i as')) ts
passed_up w s d i j ps p as' a ts us n e l f h g =
    let q : suc i ≡ i + 1 = omega arith in
    let k : drop i ps ≡ p ∷ drop (i + 1) ps = drop_get ps i p (ap (slice_get ps) (sym n) ∙ e) ∙ ap (λ m. p ∷ drop m ps) q in
    subst (λ qs. DerivesPassed w s d qs (V.arguments (drop i as')) ts) (sym k) (subst (λ bs. DerivesPassed w s d (p ∷ drop (i + 1) ps) (V.arguments bs) ts) (sym (drop_item as' i a a l f)) (h (drop (i + 1) ps) (V.arguments (drop (i + 1) as')) g))

pub passed_down : (w : World) (s : Scope) (d i j : ℕ) (ps : List Param) (p : Param) (as' : List A.Argument) (a : A.Argument) (ts : Trees) → j ≡ i → slice_get ps j ≡ Some p → i < length as' → a ≡ get_or as' i a → DerivesPassed w s d (drop i ps) (V.arguments (drop i as')) ts → DerivesPassed w s d (p ∷ drop (i + 1) ps) (T.MoreArguments (V.argument a) (V.arguments (drop (i + 1) as'))) ts
passed_down w s d i j ps p as' a ts n e l f h =
    let q : suc i ≡ i + 1 = omega arith in
    let k : drop i ps ≡ p ∷ drop (i + 1) ps = drop_get ps i p (ap (slice_get ps) (sym n) ∙ e) ∙ ap (λ m. p ∷ drop m ps) q in
    subst (λ bs. DerivesPassed w s d (p ∷ drop (i + 1) ps) (V.arguments bs) ts) (drop_item as' i a a l f) (subst (λ qs. DerivesPassed w s d qs (V.arguments (drop i as')) ts) k h)

pub passed_short : (w : World) (s : Scope) (d i j : ℕ) (ps : List Param) (as' : List A.Argument) (a : A.Argument) (ts : Trees) → j ≡ i → slice_get ps j ≡ None → i < length as' → a ≡ get_or as' i a → DerivesPassed w s d (drop i ps) (V.arguments (drop i as')) ts → ⊥
passed_short w s d i j ps as' a ts n e l f h =
    subst (λ bs. DerivesPassed w s d [] (V.arguments bs) ts) (drop_item as' i a a l f) (subst (λ qs. DerivesPassed w s d qs (V.arguments (drop i as')) ts) (get_past ps i (ap (slice_get ps) (sym n) ∙ e)) h)

pub passed_end : (w : World) (s : Scope) (d i j k n : ℕ) (ns : List Node) (ps : List Param) (as' : List A.Argument) → j ≡ i → j ≡ length ps → length as' ≤ i → n ≡ 0 → DerivesPassed w s d (drop i ps) (V.arguments (drop i as')) (parts ns k n)
passed_end w s d i j k n ns ps as' e f l z =
    subst (λ qs. DerivesPassed w s d qs (V.arguments (drop i as')) (parts ns k n)) (sym (drop_end ps i (omega arith))) (subst (λ bs. DerivesPassed w s d [] (V.arguments bs) (parts ns k n)) (sym (drop_end as' i l)) (subst (λ ts. DerivesPassed w s d [] T.NoArguments ts) (sym (row_none ns k n (omega arith))) _))

nothing_left : (w : World) (s : Scope) (d : ℕ) (ps : List Param) (ts : Trees) → DerivesPassed w s d ps T.NoArguments ts → (ps ≡ []) × (ts ≡ NoTrees)
nothing_left w s d [] NoTrees h = (refl, refl)
nothing_left w s d [] (MoreTrees t ts) h = absurd h
nothing_left w s d (p ∷ ps) ts h = absurd h

pub no_row : (ns : List Node) (k n : ℕ) → parts ns k n ≡ NoTrees → n ≡ 0
no_row ns k zero e = refl
no_row ns k (suc n) e = absurd (cc)

pub passed_over : (w : World) (s : Scope) (d i j k n : ℕ) (ns : List Node) (ps : List Param) (as' : List A.Argument) → j ≡ i → i ≤ length ps → length as' ≤ i → DerivesPassed w s d (drop i ps) (V.arguments (drop i as')) (parts ns k n) → (j ≡ length ps) × (n ≡ 0)
passed_over w s d i j k n ns ps as' e b l h =
    let g = nothing_left w s d (drop i ps) (parts ns k n) (subst (λ bs. DerivesPassed w s d (drop i ps) (V.arguments bs) (parts ns k n)) (drop_end as' i l) h) in
    let m = drop_nothing ps i g.0 in
    (omega arith, no_row ns k n g.1)

pub plain_constructor : (a : A.Argument) (u g c : ℕ) (n : T.Name) (q : Place) (v : Vec A.Argument Global) (w : World) (vs : List Known) → a ≡ AV.Constructor u g c n q v → Plain w vs (V.argument a) → length v.items ≡ 0
plain_constructor a u g c n q v w vs e h =
    let k : T.count (V.arguments v.items) ≡ 0 = subst (Plain w vs) (ap V.argument e ∙ argument_constructor u g c n q v) h in
    sym (count_view v.items) ∙ k

pub constructor_plain : (a : A.Argument) (u g c : ℕ) (n : T.Name) (q : Place) (v : Vec A.Argument Global) (w : World) (vs : List Known) → a ≡ AV.Constructor u g c n q v → length v.items ≡ 0 → Plain w vs (V.argument a)
constructor_plain a u g c n q v w vs e h =
    let k : Plain w vs (T.Constructor u g c n q (V.arguments v.items)) = count_view v.items ∙ h in
    subst (Plain w vs) (sym (ap V.argument e ∙ argument_constructor u g c n q v)) k

pub ruleset plain = (plain_constructor, constructor_plain)

pub ruleset passing = (passed_scalar, scalar_passed, passed_lent, lent_passed, passed_given, given_passed)
