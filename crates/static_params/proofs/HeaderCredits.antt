-- A header of a source has few credits, of sizes that constructors have (E63), and so has an instance of it.
use Rattle.std.proofs.Common.{◌≡◌, ◌<◌, ◌≤◌, ◌^◌, ◌==◌, ◌||◌, inl, inr, ℕ, suc, Bool, true, false, nat_lt, List, [], ◌∷◌, ◌++◌, length, map, Option, Some, None, slice_get, if◌then◌else◌, refl, sym, ap, ap₂, ◌∙◌, subst, arith}
use Rattle.std.proofs.lemmas.Bool.Decides.{nat_tests}
use Rattle.fip_language.proofs.Facts.{map_length, length_of_none as few_where_none}
use Rattle.fip_language.proofs.Words.{map_at}
use Rattle.fip_language.specs.declared.CreditMark.{CreditMark}
use Rattle.fip_language.specs.declared.limits.TheConstants.{MOST_CREDITS, MOST_FIELDS}
use Rattle.fip_language.specs.declared.rule.Rule.TheVariants.{E63}
use Rattle.fip_language.specs.Core.{Core, Function}
use Rattle.fip_language.specs.Every.{Among}
use Rattle.fip_language.specs.Mentions.{all_of}
use Rattle.fip_trees.specs.declared.least.Violation.{Violation}
use Rattle.fip_trees.specs.Least.{In}
use Rattle.fip_trees.specs.SoundProgram.{AreHeaderCredits}
use Rattle.fip_trees.specs.Tree as T
use Rattle.fip_trees.proofs.Leasts.{in_left, in_right}
use Rattle.data_types.specs.Answers.{Violates}
use Rattle.data_types.specs.Declarations.{declared_names}
use Rattle.data_types.specs.Faults.{broken, when, place_faults, mark_faults, credit_faults, function_faults, all_data_faults, all_function_faults, name_faults}
use Rattle.reached_instances.specs.closed_types.declared.closed.Head.TheVariants as H
use Rattle.reached_instances.specs.closed_types.Closed as Z
use Rattle.reached_instances.specs.closed_types.Closed.{Closed, Applied}
use Rattle.reached_instances.specs.closed_types.Source.{Instance}
use Rattle.static_params.specs.FlatProgram.{Numbers, credit_size, flat_instance, instance_if, instances_of, flat_program}
use Rattle.static_params.specs.FlatSource.{flat_source}
use Rattle.static_params.proofs.GoodTypes.{all_of_have}
use Rattle.static_params.proofs.TypeRows.{there_among}

pub in_of : {A : Type 0} (f : A → List Violation) (x : A) (v : Violation) (xs : List A) → Among x xs → In v (f x) → In v (all_of f xs)
in_of f x v [] a h = absurd a
in_of f x v (y ∷ xs) (inl e) h = in_left v (f y) (all_of f xs) (subst (λ y. In v (f y)) e h)
in_of f x v (y ∷ xs) (inr a) h = in_right v (f y) (all_of f xs) (in_of f x v xs a h)

pub in_when : (b : Bool) (v : Violation) → b ≡ true → In v (when b v)
in_when true v e = inl refl
in_when false v e = absurd (cc)

module _ (core : Core) (unbroken : (v : Violation) → Violates core v → ⊥) where
  -- no rule on the credits of a header is broken
  no_fault : (f : Function) (v : Violation) → Among f core.functions → In v (credit_faults f.credits) → ⊥
  no_fault f v a one =
      let here : In v (function_faults (declared_names core) f) = in_left v (credit_faults f.credits) _ one in
      let all : In v (all_function_faults (declared_names core) core.functions) = in_of (function_faults (declared_names core)) f v core.functions a here in
      unbroken v (inl (in_right v (name_faults core) (all_data_faults (declared_names core) core.types ++ all_function_faults (declared_names core) core.functions)
      (in_right v (all_data_faults (declared_names core) core.types) (all_function_faults (declared_names core) core.functions) all)))

  bad_mark : (f : Function) (m : CreditMark) → Among f core.functions → Among m f.credits → (m.size == 0 || nat_lt MOST_FIELDS m.size) ≡ true → ⊥
  bad_mark f m a b e =
      let v : Violation = broken E63 m.size_place [] in
      let one : In v (mark_faults f.credits) = in_of (λ (m : CreditMark). when (m.size == 0 || nat_lt MOST_FIELDS m.size) (broken E63 m.size_place [])) m v f.credits b (in_when (m.size == 0 || nat_lt MOST_FIELDS m.size) v e) in
      no_fault f v a (in_left v (mark_faults f.credits) _ one)

  many_marks : (f : Function) (m : CreditMark) → Among f core.functions → slice_get f.credits MOST_CREDITS ≡ Some m → ⊥
  many_marks f m a e =
      let v : Violation = broken E63 m.place [] in
      let one : In v (place_faults (slice_get f.credits MOST_CREDITS)) = subst (λ o. In v (place_faults o)) (sym e) (inl refl) in
      no_fault f v a (in_right v (mark_faults f.credits) (place_faults (slice_get f.credits MOST_CREDITS)) one)

  pub few_marks : (f : Function) → Among f core.functions → length f.credits ≤ MOST_CREDITS
  few_marks f a = by (slice_get f.credits MOST_CREDITS) refl
    where
      by : (o : Option CreditMark) → slice_get f.credits MOST_CREDITS ≡ o → length f.credits ≤ MOST_CREDITS
      by None e = few_where_none f.credits MOST_CREDITS e
      by (Some m) e = absurd (many_marks f m a e)

  good_mark : (n : ℕ) → ((n == 0 || nat_lt MOST_FIELDS n) ≡ true → ⊥) → (0 < n) × (n < suc MOST_FIELDS)
  good_mark n h = by (n == 0) (nat_lt MOST_FIELDS n) refl refl
    where
      by : (a b : Bool) → (n == 0) ≡ a → nat_lt MOST_FIELDS n ≡ b → (0 < n) × (n < suc MOST_FIELDS)
      by true b e f = absurd (h (ap (λ a. a || nat_lt MOST_FIELDS n) e))
      by false true e f = absurd (h (ap₂ (λ a b. a || b) e f))
      by false false e f = ((grind (arith, nat_tests)), (grind (arith, nat_tests)))

  size_kept : (m : CreditMark) → m.size < suc MOST_FIELDS → credit_size m ≡ m.size
  size_kept m h = let b : nat_lt m.size (2 ^ 8) ≡ true = grind (arith, nat_tests) in ap (λ b. if b then m.size else 255) b

  good_size : (f : Function) (m : CreditMark) → Among f core.functions → Among m f.credits → (1 ≤ credit_size m) × (credit_size m ≤ MOST_FIELDS)
  good_size f m a b =
      let here = good_mark m.size (bad_mark f m a b) in
      let low : 0 < m.size = here.0 in
      let high : m.size < suc MOST_FIELDS = here.1 in
      subst (λ n. (1 ≤ n) × (n ≤ MOST_FIELDS)) (sym (size_kept m high)) ((omega (arith, low)), (omega (arith, high)))

  pub header_credits : (f : Function) → Among f core.functions → AreHeaderCredits (map credit_size f.credits)
  header_credits f a =
      record {
        few = (let few = few_marks f a in let same = map_length credit_size f.credits in omega (arith, few, same));
        sized = λ i n e.
            let m = map_at credit_size f.credits i n e in
            subst (λ n. (1 ≤ n) × (n ≤ MOST_FIELDS)) m.2 (good_size f m.0 a (there_among f.credits i m.0 m.1));
      }

  module _ (ns : Numbers) where
    from_option : (here : Instance) (o : Option Function) → ((f : Function) → o ≡ Some f → Among f core.functions) → (d : T.Instance) → Among d (instance_if (flat_source core) ns here o) → AreHeaderCredits d.credits
    from_option here None among d a = absurd a
    from_option here (Some f) among d (inl e) = subst (λ (d : T.Instance). AreHeaderCredits d.credits) (sym e) (header_credits f (among f refl))
    from_option here (Some f) among d (inr n) = absurd n

    from_closed : (c : Closed) (d : T.Instance) → Among d (instances_of (flat_source core) ns c) → AreHeaderCredits d.credits
    from_closed Z.Int d a = absurd a
    from_closed (Applied (H.«Type» n) cs) d a = absurd a
    from_closed (Applied (H.Function f) cs) d a =
        from_option (record { function = f; given = cs }) (slice_get core.functions f) (λ x e. there_among core.functions f x e) d a

    pub all_credits : (d : T.Instance) → Among d (flat_program (flat_source core) ns).instances → AreHeaderCredits d.credits
    all_credits d a = all_of_have (λ (d : T.Instance). AreHeaderCredits d.credits) (instances_of (flat_source core) ns) ns.instances (λ c b e f. from_closed c e f) d a
