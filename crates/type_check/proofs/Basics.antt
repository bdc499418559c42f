-- Small facts over plain variables.
use Rattle.std.proofs.Common.{◌≡◌, ℕ, suc, ◌≤◌, refl, sym, ap, List, [], ◌∷◌, ◌++◌, length, Option, Some, None, Bool, true, false, not, arith}
use Rattle.std.specs.Prelude.{◌==◌, ◌&&◌, ◌||◌, nat_lt, if◌then◌else◌, map, is_none, is_some}
use Rattle.std.proofs.lemmas.Bool.Decides.{nat_tests}
use Rattle.fip_language.specs.declared.Place.{Place}
use Rattle.fip_language.specs.declared.rule.Rule.TheVariants.{E30}
use Rattle.fip_trees.specs.declared.program.Binder.{Binder}
use Rattle.fip_trees.specs.declared.least.Violation.{Violation}
use Rattle.fip_trees.specs.Tree.{Name, Arguments, NoArguments, MoreArguments, Pattern, Patterns, BinderPattern, LiteralPattern, ConstructorPattern, NoPatterns, MorePatterns, count}
use Rattle.type_check.specs.Found.{first_type, others, known, usable, as_many, unknowns, slot, differ, some_differ, or_found}
use Rattle.type_check.specs.Binders.{all_annotated, annotations, entries}
use Rattle.type_check.specs.Scope.{Scope, or_else, look, of_binder}
use Rattle.type_check.specs.World.{World, is_of, plain_type, chosen, field_types}
use Rattle.type_check.specs.Typing.{bound_by, bound_by_all, Annotated, Bind}
use Rattle.type_check.specs.Faults.{broken, when, variable_faults, binders_faults, fill_arguments, fill_binders, fill_pattern, fill_patterns}
use Rattle.fip_language.proofs.Facts.{and_both}
pub use Rattle.fip_language.proofs.Facts.{equal_true as same_test, or_false_both as none_or, same_number as same}

-- ---- lists and tests

pub both_empty : (xs ys : List Violation) → xs ++ ys ≡ [] → (xs ≡ []) × (ys ≡ [])
both_empty [] ys h = (refl, h)
both_empty (x ∷ xs) ys h = absurd (cc)

pub when_empty : (b : Bool) (v : Violation) → when b v ≡ [] → b ≡ false
when_empty true v h = absurd (cc)
when_empty false v h = refl

pub when_not : (b : Bool) (v : Violation) → when (not b) v ≡ [] → b ≡ true
when_not true v h = refl
when_not false v h = absurd (cc)

pub not_true : (b : Bool) → not b ≡ false → b ≡ true
not_true true h = refl
not_true false h = absurd (cc)

pub at_most : (m n : ℕ) → nat_lt n m ≡ false → m ≤ n
at_most m n h = grind (arith, nat_tests)

pub at_most_test : (m n : ℕ) → m ≤ n → nat_lt n m ≡ false
at_most_test m n h = grind (arith, nat_tests)

pub is_one : (n : ℕ) → (1 == suc (suc n)) ≡ true → ⊥
is_one n h = let e = same 1 (suc (suc n)) h in omega arith

pub length_map : (ts : List ℕ) → length (map Some ts) ≡ length ts
length_map [] = refl
length_map (t ∷ ts) = ap suc (length_map ts)

pub usable_is : (n : ℕ) (ts : List (Option ℕ)) → (n == length ts) ≡ true → usable true n ts ≡ ts
usable_is n ts h = ap (λ b. if b then ts else []) h

pub as_many_is : (us ts : List (Option ℕ)) → (length us == length ts) ≡ true → as_many us ts ≡ us
as_many_is us ts h = ap (λ b. if b then us else unknowns ts) h

-- ---- scopes whose types are all known

abbrev pub Sure : Scope → Type 0
Sure [] = Unit {0}
Sure (e ∷ es) = ((t : ℕ) × (e.ty ≡ Some t)) × Sure es

pub sure_append : (s r : Scope) → Sure s → Sure r → Sure (s ++ r)
sure_append [] r h g = g
sure_append (e ∷ es) r h g = (h.0, sure_append es r h.1 g)

abbrev pub SureType : Option (Option ℕ) → Type 0
SureType o = (q : Option ℕ) → o ≡ Some q → (t : ℕ) × (q ≡ Some t)

pick_sure : (o : Option (Option ℕ)) (b : Bool) (e : Option ℕ) → ((t : ℕ) × (e ≡ Some t)) → SureType o → SureType (or_else o (if b then Some e else None))
pick_sure (Some q) b e k g = g
pick_sure None true e k g = λ q h. (k.0, let z = k.1 in cc)
pick_sure None false e k g = λ q h. absurd (cc)

pub look_sure : (s : Scope) (x : ℕ) → Sure s → SureType (look s x)
look_sure [] x h = λ q e. absurd (cc)
look_sure (e ∷ es) x h = pick_sure (look es x) (e.number == x) e.ty h.0 (look_sure es x h.1)

pub binder_sure : (s : Scope) (x : Option ℕ) → Sure s → SureType (of_binder s x)
binder_sure s None h = λ q e. absurd (cc)
binder_sure s (Some x) h = look_sure s x h

pub variable_is : (i u : ℕ) (n : Name) (p : Place) (o : Option (Option ℕ)) → SureType o → variable_faults i (Some (Some u)) o n p ≡ [] → o ≡ Some (Some u)
variable_is i u n p None g h = absurd (cc)
variable_is i u n p (Some None) g h = absurd (let z = (g None refl).1 in cc)
variable_is i u n p (Some (Some t)) g h = ap (λ (x : ℕ). Some (Some x)) (sym (same u t (when_not (u == t) (broken E30 p i []) h)))

pub variable_found : (i : ℕ) (n : Name) (p : Place) (o : Option (Option ℕ)) → SureType o → variable_faults i None o n p ≡ [] → (t : ℕ) × (known o ≡ Some t) × (o ≡ Some (Some t))
variable_found i n p None g h = absurd (cc)
variable_found i n p (Some None) g h = absurd (let z = (g None refl).1 in cc)
variable_found i n p (Some (Some t)) g h = (t, refl, refl)

pub whole_is : (m : Option ℕ) (v : Violation) → when (is_none m) v ≡ [] → (t : ℕ) × (m ≡ Some t)
whole_is None v h = absurd (cc)
whole_is (Some t) v h = (t, refl)

pub chosen_is : (w : World) (t d : ℕ) → is_of w t d ≡ true → chosen w (Some (Some t)) d ≡ Some t
chosen_is w t d h = ap (λ b. if b then Some t else plain_type w d) h

-- ---- slots change nothing else

pub count_fill : (w : World) (b : Bool) (ts : List (Option ℕ)) (as' : Arguments) → count (fill_arguments w b ts as') ≡ count as'
count_fill w b ts NoArguments = refl
count_fill w b ts (MoreArguments a as') = ap suc (count_fill w b (others ts) as')

mutual
  pub bound_fill : (w : World) (o t : Option ℕ) (q : Pattern) → bound_by w o (fill_pattern w t q) ≡ bound_by w o q
  bound_fill w o t (BinderPattern b) = refl
  bound_fill w o t (LiteralPattern v p) = refl
  bound_fill w o t (ConstructorPattern u d c n p ps) = bound_fill_all w (field_types w (chosen w (Some o) d) c) (field_types w (chosen w (Some t) d) c) ps

  pub bound_fill_all : (w : World) (os ts : List (Option ℕ)) (ps : Patterns) → bound_by_all w os (fill_patterns w ts ps) ≡ bound_by_all w os ps
  bound_fill_all w os ts NoPatterns = refl
  bound_fill_all w os ts (MorePatterns p ps) = rw (bound_fill w (first_type os) (first_type ts) p, bound_fill_all w (others os) (others ts) ps) refl

pub entries_fill : (os ts : List (Option ℕ)) (bs : List Binder) → entries (fill_binders ts bs) os ≡ entries bs os
entries_fill os ts [] = refl
entries_fill os ts (b ∷ bs) = ap (λ (s : Scope). record { number = b.number; ty = or_found b.annotation (first_type os) } ∷ s) (entries_fill (others os) (others ts) bs)

pub annotated_fill : (ts : List (Option ℕ)) (bs : List Binder) → all_annotated (fill_binders ts bs) ≡ all_annotated bs
annotated_fill ts [] = refl
annotated_fill ts (b ∷ bs) = ap (λ c. is_some b.annotation && c) (annotated_fill (others ts) bs)

-- ---- results

pub same_results : (us ts : List ℕ) → length ts ≡ length us → some_differ (map Some us) ts ≡ false → us ≡ ts
same_results [] [] e h = refl
same_results [] (t ∷ ts) e h = absurd (omega arith)
same_results (u ∷ us) [] e h = absurd (omega arith)
same_results (u ∷ us) (t ∷ ts) e h =
    let g = none_or (not (u == t)) (some_differ (map Some us) ts) h in
    let a : u ≡ t = same u t (not_true (u == t) g.0) in
    let b : us ≡ ts = same_results us ts (omega arith) g.1 in cc

-- ---- binders of a let

some_is : (o : Option ℕ) → is_some o ≡ true → (t : ℕ) × (o ≡ Some t)
some_is None h = absurd (cc)
some_is (Some t) h = (t, refl)

pub annotated_all : (bs : List Binder) → all_annotated bs ≡ true → (us : List ℕ) × (annotations bs ≡ map Some us)
annotated_all [] h = ([], refl)
annotated_all (b ∷ bs) h =
    let g = and_both (is_some b.annotation) (all_annotated bs) h in
    let a = some_is b.annotation g.0 in
    let r = annotated_all bs g.1 in
    (a.0 ∷ r.0, let e = a.1 in let f = r.1 in cc)

annotated_one : (o : Option ℕ) (u : ℕ) (t : Option ℕ) → o ≡ Some u → Annotated o u × (slot (or_found o t) ≡ u) × (or_found o t ≡ or_found o (Some u))
annotated_one None u t h = absurd (cc)
annotated_one (Some v) u t h = (cc, cc, refl)

first_same : (a b : Option ℕ) (as' bs : List (Option ℕ)) → a ∷ as' ≡ b ∷ bs → a ≡ b
first_same a b as' bs h = cc

rest_same : (a b : Option ℕ) (as' bs : List (Option ℕ)) → a ∷ as' ≡ b ∷ bs → as' ≡ bs
rest_same a b as' bs h = cc

annotated_type : (o : Option ℕ) (u : ℕ) → o ≡ Some u → or_found o (Some u) ≡ Some u
annotated_type None u h = refl
annotated_type (Some v) u h = h

-- all annotated
pub bind_annotated : (bs : List Binder) (us : List ℕ) (ts : List (Option ℕ)) → annotations bs ≡ map Some us → Bind false bs us × Bind true (fill_binders ts bs) us × (entries bs ts ≡ entries bs (map Some us)) × Sure (entries bs (map Some us))
bind_annotated [] [] ts h = (tt, tt, refl, tt)
bind_annotated [] (u ∷ us) ts h = absurd (cc)
bind_annotated (b ∷ bs) [] ts h = absurd (cc)
bind_annotated (b ∷ bs) (u ∷ us) ts h =
    let a = annotated_one b.annotation u (first_type ts) (first_same b.annotation (Some u) (annotations bs) (map Some us) h) in
    let r = bind_annotated bs us (others ts) (rest_same b.annotation (Some u) (annotations bs) (map Some us) h) in (
      ((a.0, tt), r.0),
      ((a.0, a.1), r.1),
      (let e = a.2 in let f = r.2 in rw (e, f) refl),
      ((u, annotated_type b.annotation u (first_same b.annotation (Some u) (annotations bs) (map Some us) h)), r.3),
    )

-- found
bind_one : (o : Option ℕ) (u : ℕ) → differ o (Some u) ≡ false → Annotated o u × (slot (or_found o (Some u)) ≡ u) × (or_found o (Some u) ≡ Some u)
bind_one None u h = (tt, refl, refl)
bind_one (Some v) u h = let e : v ≡ u = same v u (not_true (v == u) h) in (e, e, cc)

pub bind_found : (i : ℕ) (bs : List Binder) (us : List ℕ) → length us ≡ length bs → binders_faults i false bs (map Some us) ≡ [] → Bind false bs us × Bind true (fill_binders (map Some us) bs) us × Sure (entries bs (map Some us))
bind_found i [] [] e h = (tt, tt, tt)
bind_found i [] (u ∷ us) e h = absurd (omega arith)
bind_found i (b ∷ bs) [] e h = absurd (omega arith)
bind_found i (b ∷ bs) (u ∷ us) e h =
    let g = both_empty (when (differ b.annotation (Some u)) (broken E30 b.place i [])) (binders_faults i false bs (map Some us)) h in
    let a = bind_one b.annotation u (when_empty (differ b.annotation (Some u)) (broken E30 b.place i []) g.0) in
    let r = bind_found i bs us (omega arith) g.1 in
    (((a.0, tt), r.0), ((a.0, a.1), r.1), ((u, a.2), r.2))
