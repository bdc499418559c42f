-- The function of `pick` is laid out as its body requires: each clause drops what it leaves over.
use Rattle.std.proofs.Common.{◌≡◌, ◌⊎◌, inl, inr, ℕ, zero, suc, ◌<◌, true, false, true≢false, List, [], ◌∷◌, Some, None, refl, sym, ap, ◌∙◌, subst, arith, slice_get, take, ◌-◌}
use Rattle.std.specs.Prelude.{codes}
use Rattle.std.proofs.lemmas.Option.{same_Some}
use Rattle.tree_semantics.specs.fip_language.Every.{Among}
use Rattle.code_rules.specs.cell_code.declared.kind.Kind.{Kind}
use Rattle.code_rules.specs.cell_code.declared.kind.Kind.TheVariants as K
use Rattle.credit_check.specs.fip_trees.Tree.{Pattern, Block, Give, Last, NoClauses, MoreClauses}
use Rattle.instance_semantics.specs.Example.{truth_pattern, var}
use Rattle.code_rules.specs.Codes.{label_at}
use Rattle.code_rules.specs.Fitting.{fits}
use Rattle.code_rules.specs.Kinds.{at}
use Rattle.match_knowledge.specs.declared.heads.Head.TheVariants.{Tag}
use Rattle.match_knowledge.specs.Patterns as M
use Rattle.match_knowledge.specs.Known as N
use Rattle.match_knowledge.specs.Known.{Open, side}
use Rattle.lowering_relation.specs.Spots.{Spot, At, NoSpots}
use Rattle.lowering_relation.specs.Opening.{Roomy}
use Rattle.lowering_relation.specs.Rows.{row_of}
use Rattle.lowering_relation.specs.declared.held.Held.TheVariants as H
use Rattle.lowering_relation.specs.Known.{Known, used, used_all}
use Rattle.lowering_relation.specs.LoweredBodies.{moved}
use Rattle.lowering_relation.specs.LoweredFunctions.{known_at_start}
use Rattle.lowering_relation.specs.LoweredExample.{lists_setting}
use Rattle.lowering_relation.specs.Describing.{held_at, kind_of, is_tree}
use Rattle.lowering_relation.specs.Labels.{Takes, Catches, Reports, Shows, reported, Quiet}
use Rattle.lowering_relation.specs.Sights.{Sight}
use Rattle.lowering_relation.specs.Tests.{Choice, ChunkLaid, SideLaid}
use Rattle.lowering_relation.specs.Matches.{BuiltRight, MatchBegins, MatchLaid, entered, wide_at}
use Rattle.lowering_relation.specs.Uses.{need}
use Rattle.lowering_relation.specs.Leftover.{IsUnused, LeftoverGone}
use Rattle.lowering_relation.specs.Joins.{ClauseEnds, Met}
use Rattle.lowering_relation.specs.LaidFunctions.{FunctionLaid}
use Rattle.lowering_relation.specs.LaidExample.{choosing_list, pick, picked_kinds, picked_met, picking, lists_code}
use Rattle.match_knowledge.proofs.fip_base.fip_language.Facts.{less_apart as apart}

abbrev root : Spot
root = At 0 NoSpots

abbrev no : Pattern
no = truth_pattern 0 (codes "False")

abbrev yes : Pattern
yes = truth_pattern 1 (codes "True")

abbrev gives_x : Block
gives_x = Last (Give (var 1 (codes "x")))

abbrev gives_y : Block
gives_y = Last (Give (var 2 (codes "y")))

abbrev choice : Choice
choice = record { type = 1; root = root; takes = false; patterns = no ∷ yes ∷ []; entries = 1 ∷ 4 ∷ [] }

abbrev at_start : Known
at_start = known_at_start lists_setting 4 pick

abbrev at_tests : Known
at_tests = record at_start { next = 4 }

-- in the clauses
abbrev at_no : Known
at_no = entered lists_setting choice no at_tests 4

abbrev at_yes : Known
at_yes = entered lists_setting choice yes at_tests 4

abbrev moved_no : Known
moved_no = moved at_no 3 1

abbrev moved_yes : Known
moved_yes = moved at_yes 3 2

abbrev left_no : Known
left_no = record moved_no { held = used moved_no.held 2 }

abbrev left_yes : Known
left_yes = record moved_yes { held = used moved_yes.held 1 }

-- where they meet
abbrev after : Known
after = left_no

abbrev named_after : Known
named_after = record after { names = Some 0 ∷ Some 1 ∷ Some 2 ∷ Some 3 ∷ [] }

abbrev given_after : Known
given_after = record named_after { held = used_all named_after.held (3 ∷ []) }

abbrev is_no : M.Pattern
is_no = row_of no

abbrev not_no : N.Known
not_no = side false is_no (Open [])

-- ---- labels

picked_takes : (k : Known) → ((r : ℕ) → fits (at picked_kinds r) (reported lists_code k r) ≡ true) → Takes 4 picked_kinds (reported lists_code k)
picked_takes k each = record { wide = refl; each = each }

fits_no : (r : ℕ) → fits (at picked_kinds r) (reported lists_code at_no r) ≡ true
fits_no zero = refl
fits_no (suc zero) = refl
fits_no (suc (suc zero)) = refl
fits_no (suc (suc (suc zero))) = refl
fits_no (suc (suc (suc (suc r)))) = refl

fits_yes : (r : ℕ) → fits (at picked_kinds r) (reported lists_code at_yes r) ≡ true
fits_yes zero = refl
fits_yes (suc zero) = refl
fits_yes (suc (suc zero)) = refl
fits_yes (suc (suc (suc zero))) = refl
fits_yes (suc (suc (suc (suc r)))) = refl

fits_met : (r : ℕ) → fits (at picked_met r) (reported lists_code after r) ≡ true
fits_met zero = refl
fits_met (suc zero) = refl
fits_met (suc (suc zero)) = refl
fits_met (suc (suc (suc zero))) = refl
fits_met (suc (suc (suc (suc r)))) = refl

reports_no : Reports 4 picked_kinds (reported lists_code at_no)
reports_no = record { wide = refl; each = each }
  where
    each : (r : ℕ) → at picked_kinds r ≡ reported lists_code at_no r
    each zero = refl
    each (suc zero) = refl
    each (suc (suc zero)) = refl
    each (suc (suc (suc zero))) = refl
    each (suc (suc (suc (suc r)))) = refl

reports_yes : Reports 4 picked_kinds (reported lists_code at_yes)
reports_yes = record { wide = refl; each = each }
  where
    each : (r : ℕ) → at picked_kinds r ≡ reported lists_code at_yes r
    each zero = refl
    each (suc zero) = refl
    each (suc (suc zero)) = refl
    each (suc (suc (suc zero))) = refl
    each (suc (suc (suc (suc r)))) = refl

reports_met : Reports 4 picked_met (reported lists_code after)
reports_met = record { wide = refl; each = each }
  where
    each : (r : ℕ) → at picked_met r ≡ reported lists_code after r
    each zero = refl
    each (suc zero) = refl
    each (suc (suc zero)) = refl
    each (suc (suc (suc zero))) = refl
    each (suc (suc (suc (suc r)))) = refl

-- what fails the test
failed_takes : (m : ℕ → Kind) → Sight lists_code.types (held_at at_tests.held) 1 root not_no [] m → Catches picking 4 m
failed_takes m sight = record { map = picked_kinds; there = refl; takes = record { wide = refl; each = each } }
  where
    other : (q : ℕ) (k : Kind) → (q ≡ 0 → ⊥) → kind_of lists_code.types (held_at at_tests.held q) ≡ k → fits k k ≡ true → fits k (m q) ≡ true
    other q k ne is same = ap (fits k) (sight.others q ne (λ a. a) ∙ is) ∙ same

    each : (r : ℕ) → fits (at picked_kinds r) (m r) ≡ true
    each zero = ap (fits (K.Scalar 1)) sight.root
    each (suc zero) = other 1 (at picked_kinds 1) (λ e. absurd (omega (arith, e))) refl refl
    each (suc (suc zero)) = other 2 (at picked_kinds 2) (λ e. absurd (omega (arith, e))) refl refl
    each (suc (suc (suc zero))) = other 3 K.Gone (λ e. absurd (omega (arith, e))) refl refl
    each (suc (suc (suc (suc r)))) = other (suc (suc (suc (suc r)))) K.Gone (λ e. absurd (omega (arith, e))) refl refl

failed_sight : Sight lists_code.types (wide_at (held_at at_tests.held)) 1 root not_no [] (at picked_kinds)
failed_sight = record { root = refl; parts = λ z a. absurd a; others = others }
  where
    others : (q : ℕ) → (q ≡ 0 → ⊥) → (Among q [] → ⊥) → at picked_kinds q ≡ kind_of lists_code.types (wide_at (held_at at_tests.held) q)
    others zero ne away = absurd (ne refl)
    others (suc zero) ne away = refl
    others (suc (suc zero)) ne away = refl
    others (suc (suc (suc zero))) ne away = refl
    others (suc (suc (suc (suc r)))) ne away = refl

-- ---- where labels are

abbrev shown : (p : ℕ) (map : List Kind) (m : ℕ → Kind) → label_at picking.labels p ≡ Some map → Reports 4 map m → Shows picking p m
shown p map m there reports other e = subst (λ map. Reports 4 map m) (same_Some map other (sym there ∙ e)) reports

quiet_start : Quiet picking 0 1 (reported lists_code at_tests)
quiet_start = record {
  first = λ less map e. absurd (cc);
  others = λ p low high. absurd (let z : ⊥ = omega (arith, low, high) in z);
}

quiet_no : Quiet picking 1 2 (reported lists_code at_no)
quiet_no = record {
  first = λ less. shown 1 picked_kinds (reported lists_code at_no) refl reports_no;
  others = λ p low high. absurd (let z : ⊥ = omega (arith, low, high) in z);
}

quiet_jump : Quiet picking 2 4 (reported lists_code moved_no)
quiet_jump = record { first = λ less map e. absurd (cc); others = others }
  where
    others : (p : ℕ) → 2 < p → p < 4 → label_at picking.labels p ≡ None
    others zero low high = absurd (let z : ⊥ = omega (arith, low) in z)
    others (suc zero) low high = absurd (let z : ⊥ = omega (arith, low) in z)
    others (suc (suc zero)) low high = absurd (let z : ⊥ = omega (arith, low) in z)
    others (suc (suc (suc zero))) low high = refl
    others (suc (suc (suc (suc p)))) low high = absurd (let z : ⊥ = omega (arith, high) in z)

quiet_failed : Quiet picking 4 4 (at picked_kinds)
quiet_failed = record {
  first = λ less. absurd (let z : ⊥ = omega (arith, less) in z);
  others = λ p low high. absurd (let z : ⊥ = omega (arith, low, high) in z);
}

quiet_yes : Quiet picking 4 5 (reported lists_code at_yes)
quiet_yes = record {
  first = λ less. shown 4 picked_kinds (reported lists_code at_yes) refl reports_yes;
  others = λ p low high. absurd (let z : ⊥ = omega (arith, low, high) in z);
}

quiet_end : Quiet picking 5 6 (reported lists_code moved_yes)
quiet_end = record {
  first = λ less map e. absurd (cc);
  others = λ p low high. absurd (let z : ⊥ = omega (arith, low, high) in z);
}

quiet_after : (m : ℕ → Kind) → Reports 4 picked_met m → Quiet picking 6 7 m
quiet_after m reports = record {
  first = λ less. shown 6 picked_met m refl reports;
  others = λ p low high. absurd (let z : ⊥ = omega (arith, low, high) in z);
}

-- ---- the tests

first_chunk : ChunkLaid lists_code picking (held_at at_tests.held) choice 0 (Open []) [] (reported lists_code at_tests) 1
first_chunk = record {
  steps = 1;
  clause = 0;
  end = 1;
  place = 1;
  tests = (
    is_no,
    record { number = 0; pattern = no; there = refl; same = refl; asks = refl },
    inr (
      1,
      [],
      record {
        mid = 0;
        found = record { register = 0; head = Tag 0 };
        target = 4;
        reads = (refl, refl);
        asks = refl;
        written = refl;
        ahead = omega arith;
        label = refl;
        one = refl;
        fails = inl failed_takes;
      },
      record { pattern = no; there = refl; fits = refl; settled = ([], (refl, refl)) },
    ),
  );
  entry = refl;
  goes = inr (refl, refl);
  quiet = quiet_start;
}

failed_side : SideLaid lists_code picking (wide_at (held_at at_tests.held)) choice 4 4
failed_side = record {
  later = omega arith;
  known = not_no;
  read = [];
  reported = at picked_kinds;
  sight = failed_sight;
  chunk = record {
    steps = 1;
    clause = 1;
    end = 4;
    place = 4;
    tests = (
      row_of yes,
      record { number = 1; pattern = yes; there = refl; same = refl; asks = refl },
      inl (refl, record { pattern = yes; there = refl; fits = refl; settled = ([], (refl, refl)) }),
    );
    entry = refl;
    goes = inr (refl, refl);
    quiet = quiet_failed;
  };
}

begins : MatchBegins lists_code picking 0 at_tests (Some 0) 1 choice at_tests
begins = record {
  named = refl;
  type = refl;
  known = at_tests;
  forgets = inl (refl, (λ t d e. absurd (cc)));
  built = built;
  next = 4;
  is = refl;
  more = omega arith;
  few = omega arith;
  fresh = λ z a. absurd a;
  differ = tt;
  roomy = roomy;
  typed = typed;
}
  where
    built : (r : ℕ) → BuiltRight lists_code.types (held_at at_tests.held r)
    built zero = record { there = λ t d e. absurd (cc) }
    built (suc zero) = record { there = λ t d e. absurd (cc) }
    built (suc (suc zero)) = record { there = λ t d e. absurd (cc) }
    built (suc (suc (suc zero))) = record { there = λ t d e. absurd (cc) }
    built (suc (suc (suc (suc r)))) = record { there = λ t d e. absurd (cc) }

    roomy : (i : ℕ) (q : Pattern) → slice_get choice.patterns i ≡ Some q → Roomy q root
    roomy zero q e = subst (λ q. Roomy q root) (same_Some no q e) tt
    roomy (suc zero) q e = subst (λ q. Roomy q root) (same_Some yes q e) tt
    roomy (suc (suc i)) q e = absurd (cc)

    typed : (i : ℕ) (q : Pattern) → slice_get choice.patterns i ≡ Some q → M.IsPattern lists_code.types 1 (row_of q)
    typed zero q e = subst (λ q. M.IsPattern lists_code.types 1 (row_of q)) (same_Some no q e) (refl, [], (record { name = codes "False"; fields = [] }, refl, refl), tt)
    typed (suc zero) q e = subst (λ q. M.IsPattern lists_code.types 1 (row_of q)) (same_Some yes q e) (refl, [], (record { name = codes "True"; fields = [] }, refl, refl), tt)
    typed (suc (suc i)) q e = absurd (cc)

laid : MatchLaid lists_code lists_setting picking 0 at_tests false 1 (var 0 (codes "b")) no (MoreClauses yes gives_y NoClauses) choice at_tests 1
laid = record {
  variable = Some 0;
  is_variable = refl;
  begins = begins;
  takes = refl;
  patterns = refl;
  mid = 1;
  more = 0;
  first = first_chunk;
  sides = refl;
}

-- ---- where the clauses meet

built_no : (r : ℕ) → BuiltRight lists_code.types (held_at left_no.held r)
built_no zero = record { there = λ t d e. absurd (cc) }
built_no (suc zero) = record { there = λ t d e. absurd (cc) }
built_no (suc (suc zero)) = record { there = λ t d e. absurd (cc) }
built_no (suc (suc (suc zero))) = record { there = λ t d e. absurd (cc) }
built_no (suc (suc (suc (suc r)))) = record { there = λ t d e. absurd (cc) }

built_yes : (r : ℕ) → BuiltRight lists_code.types (held_at left_yes.held r)
built_yes zero = record { there = λ t d e. absurd (cc) }
built_yes (suc zero) = record { there = λ t d e. absurd (cc) }
built_yes (suc (suc zero)) = record { there = λ t d e. absurd (cc) }
built_yes (suc (suc (suc zero))) = record { there = λ t d e. absurd (cc) }
built_yes (suc (suc (suc (suc r)))) = record { there = λ t d e. absurd (cc) }

bare_no : (r t d : ℕ) → held_at moved_no.held r ≡ H.Bare t d → ⊥
bare_no zero t d e = absurd (cc)
bare_no (suc zero) t d e = absurd (cc)
bare_no (suc (suc zero)) t d e = absurd (cc)
bare_no (suc (suc (suc zero))) t d e = absurd (cc)
bare_no (suc (suc (suc (suc r)))) t d e = absurd (cc)

bare_yes : (r t d : ℕ) → held_at moved_yes.held r ≡ H.Bare t d → ⊥
bare_yes zero t d e = absurd (cc)
bare_yes (suc zero) t d e = absurd (cc)
bare_yes (suc (suc zero)) t d e = absurd (cc)
bare_yes (suc (suc (suc zero))) t d e = absurd (cc)
bare_yes (suc (suc (suc (suc r)))) t d e = absurd (cc)

bare_tests : (r t d : ℕ) → held_at at_tests.held r ≡ H.Bare t d → ⊥
bare_tests zero t d e = absurd (cc)
bare_tests (suc zero) t d e = absurd (cc)
bare_tests (suc (suc zero)) t d e = absurd (cc)
bare_tests (suc (suc (suc zero))) t d e = absurd (cc)
bare_tests (suc (suc (suc (suc r)))) t d e = absurd (cc)

done : (r t d : ℕ) → held_at given_after.held r ≡ H.Bare t d → ⊥
done zero t d e = absurd (cc)
done (suc zero) t d e = absurd (cc)
done (suc (suc zero)) t d e = absurd (cc)
done (suc (suc (suc zero))) t d e = absurd (cc)
done (suc (suc (suc (suc r)))) t d e = absurd (cc)

abbrev empty : List ℕ
empty = []

take_nothing : (m : ℕ) → empty ≡ take m empty
take_nothing zero = refl
take_nothing (suc m) = refl

gone_no : (r : ℕ) → is_tree (held_at at_tests.held r) ≡ true → IsUnused lists_setting at_tests choosing_list r → is_tree (held_at left_no.held r) ≡ true
gone_no zero tree free = absurd (true≢false (sym tree))
gone_no (suc zero) tree free = absurd (true≢false (free 1 refl))
gone_no (suc (suc zero)) tree free = absurd (true≢false (free 2 refl))
gone_no (suc (suc (suc zero))) tree free = absurd (true≢false (sym tree))
gone_no (suc (suc (suc (suc r)))) tree free = absurd (true≢false (sym tree))

kept_no : (r : ℕ) → is_tree (held_at left_no.held r) ≡ true → Among r (3 ∷ []) ⊎ ((is_tree (held_at at_tests.held r) ≡ true) × IsUnused lists_setting at_tests choosing_list r)
kept_no zero tree = absurd (true≢false (sym tree))
kept_no (suc zero) tree = absurd (true≢false (sym tree))
kept_no (suc (suc zero)) tree = absurd (true≢false (sym tree))
kept_no (suc (suc (suc zero))) tree = inl (inl refl)
kept_no (suc (suc (suc (suc r)))) tree = absurd (true≢false (sym tree))

given_no : (r : ℕ) → Among r (3 ∷ []) → is_tree (held_at left_no.held r) ≡ true
given_no r (inl e) = ap (λ r. is_tree (held_at left_no.held r)) e
given_no r (inr a) = absurd a

over_no : LeftoverGone lists_setting picking at_tests choosing_list (3 ∷ []) 2 moved_no 3 left_no
over_no = record {
  steps = 1;
  gives = (left_no, inr (refl, inl record { register = 2; tree = refl; written = refl; known = refl }), (refl, refl));
  given = λ r a tree. given_no r a;
  unused = λ r tree free before. gone_no r tree free;
  kept = kept_no;
  credits = λ n some. take_nothing (0 - need lists_setting n choosing_list);
  none = refl;
}

gone_yes : (r : ℕ) → is_tree (held_at at_tests.held r) ≡ true → IsUnused lists_setting at_tests choosing_list r → is_tree (held_at left_yes.held r) ≡ true
gone_yes zero tree free = absurd (true≢false (sym tree))
gone_yes (suc zero) tree free = absurd (true≢false (free 1 refl))
gone_yes (suc (suc zero)) tree free = absurd (true≢false (free 2 refl))
gone_yes (suc (suc (suc zero))) tree free = absurd (true≢false (sym tree))
gone_yes (suc (suc (suc (suc r)))) tree free = absurd (true≢false (sym tree))

kept_yes : (r : ℕ) → is_tree (held_at left_yes.held r) ≡ true → Among r (3 ∷ []) ⊎ ((is_tree (held_at at_tests.held r) ≡ true) × IsUnused lists_setting at_tests choosing_list r)
kept_yes zero tree = absurd (true≢false (sym tree))
kept_yes (suc zero) tree = absurd (true≢false (sym tree))
kept_yes (suc (suc zero)) tree = absurd (true≢false (sym tree))
kept_yes (suc (suc (suc zero))) tree = inl (inl refl)
kept_yes (suc (suc (suc (suc r)))) tree = absurd (true≢false (sym tree))

given_yes : (r : ℕ) → Among r (3 ∷ []) → is_tree (held_at left_yes.held r) ≡ true
given_yes r (inl e) = ap (λ r. is_tree (held_at left_yes.held r)) e
given_yes r (inr a) = absurd a

over_yes : LeftoverGone lists_setting picking at_tests choosing_list (3 ∷ []) 5 moved_yes 6 left_yes
over_yes = record {
  steps = 1;
  gives = (left_yes, inr (refl, inl record { register = 1; tree = refl; written = refl; known = refl }), (refl, refl));
  given = λ r a tree. given_yes r a;
  unused = λ r tree free before. gone_yes r tree free;
  kept = kept_yes;
  credits = λ n some. take_nothing (0 - need lists_setting n choosing_list);
  none = refl;
}

no_ends : ClauseEnds lists_code lists_setting false picking at_tests choosing_list (3 ∷ []) (MoreClauses yes gives_y NoClauses) 2 moved_no 6 4 left_no
no_ends = record {
  mid = 2;
  bare = moved_no;
  bares = record { steps = 0; gives = (refl, refl); none = bare_no };
  stop = 3;
  left = left_no;
  over = over_no;
  built = built_no;
  known = refl;
  goes = (refl, omega arith, refl);
  quiet = quiet_jump;
}

yes_ends : ClauseEnds lists_code lists_setting false picking at_tests choosing_list (3 ∷ []) NoClauses 5 moved_yes 6 6 left_yes
yes_ends = record {
  mid = 5;
  bare = moved_yes;
  bares = record { steps = 0; gives = (refl, refl); none = bare_yes };
  stop = 6;
  left = left_yes;
  over = over_yes;
  built = built_yes;
  known = refl;
  goes = (refl, refl);
  quiet = quiet_end;
}

both_meet : Met left_no left_yes after
both_meet = record {
  held = held;
  names = λ x. inl (refl, refl);
  width = refl;
  many = refl;
  credits = refl;
  next = refl;
}
  where
    held : (r : ℕ) → ((held_at left_no.held r ≡ held_at left_yes.held r) × (held_at after.held r ≡ held_at left_no.held r)) ⊎ ((held_at left_no.held r ≡ held_at left_yes.held r → ⊥) × (held_at after.held r ≡ H.Nothing)) ⊎ ((n : ℕ) × (held_at left_no.held r ≡ H.Credit n) × (held_at after.held r ≡ held_at left_no.held r))
    held zero = inl (refl, refl)
    held (suc zero) = inl (refl, refl)
    held (suc (suc zero)) = inl (refl, refl)
    held (suc (suc (suc zero))) = inl (refl, refl)
    held (suc (suc (suc (suc r)))) = inl (refl, refl)

no_trees : (r : ℕ) → is_tree (held_at given_after.held r) ≡ false
no_trees zero = refl
no_trees (suc zero) = refl
no_trees (suc (suc zero)) = refl
no_trees (suc (suc (suc zero))) = refl
no_trees (suc (suc (suc (suc r)))) = refl

no_credits : (r n : ℕ) → held_at given_after.held r ≡ H.Credit n → ⊥
no_credits zero n e = absurd (cc)
no_credits (suc zero) n e = absurd (cc)
no_credits (suc (suc zero)) n e = absurd (cc)
no_credits (suc (suc (suc zero))) n e = absurd (cc)
no_credits (suc (suc (suc (suc r)))) n e = absurd (cc)

pub pick_is_laid : FunctionLaid lists_code lists_setting false picking pick
pick_is_laid = record {
  params = refl;
  credits = refl;
  results = refl;
  room = omega arith;
  after = named_after;
  body = inr (
    6,
    after,
    (
      0,
      at_tests,
      choice,
      at_tests,
      1,
      4,
      2,
      moved_no,
      4,
      left_no,
      after,
      record { steps = 0; gives = (refl, refl); none = bare_tests },
      record { first = λ less. absurd (let z : ⊥ = omega (arith, less) in z); others = λ p low high. absurd (let z : ⊥ = omega (arith, low, high) in z) },
      laid,
      record { place = refl; more = omega arith; enters = inl (omega arith, record { map = picked_kinds; there = refl; takes = picked_takes at_no fits_no }) },
      record {
        registers = 1 ∷ [];
        mid = 1;
        m = at_no;
        values = record { arguments = (1, at_no, record { named = refl; nothing = refl; known = refl }, (refl, refl)); room = omega arith; last = λ n. ([], refl) };
        given = (2, moved_no, inl (apart 1 3 (omega arith), record { written = refl; one = refl; known = refl }), (refl, refl));
        quiet = quiet_no;
      },
      no_ends,
      (
        1,
        4,
        4,
        5,
        moved_yes,
        6,
        left_yes,
        after,
        (4, failed_side, refl),
        record { place = refl; more = omega arith; enters = inl (omega arith, record { map = picked_kinds; there = refl; takes = picked_takes at_yes fits_yes }) },
        record {
          registers = 2 ∷ [];
          mid = 4;
          m = at_yes;
          values = record { arguments = (4, at_yes, record { named = refl; nothing = refl; known = refl }, (refl, refl)); room = omega arith; last = λ n. ([], refl) };
          given = (5, moved_yes, inl (apart 2 3 (omega arith), record { written = refl; one = refl; known = refl }), (refl, refl));
          quiet = quiet_yes;
        },
        yes_ends,
        both_meet,
        (refl, refl),
      ),
      record { next = 4; more = omega arith; known = refl; map = picked_met; label = refl },
    ),
    record {
      registers = 3 ∷ [];
      mid = 6;
      m = named_after;
      values = record { arguments = (6, named_after, record { named = refl; nothing = refl; known = refl }, (refl, refl)); room = omega arith; last = λ n. ([], refl) };
      given = record {
        steps = 0;
        stop = 6;
        left = given_after;
        gives = (refl, refl);
        done = record { bares = done; trees = λ e. no_trees; credits = λ e. no_credits };
        written = refl;
        one = refl;
      };
      quiet = quiet_after (reported lists_code after) reports_met;
    },
  );
}
