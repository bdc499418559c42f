-- The function of `digit` is laid out as its body requires: its clauses meet after the second one.
use Rattle.std.proofs.Common.{◌≡◌, ◌⊎◌, inl, inr, ℕ, zero, suc, ◌<◌, true, false, true≢false, List, [], ◌∷◌, Some, None, refl, sym, ap, ◌∙◌, subst, arith, slice_get}
use Rattle.std.specs.Prelude.{codes}
use Rattle.std.proofs.lemmas.Option.{same_Some}
use Rattle.tree_semantics.specs.fip_language.Every.{Among}
use Rattle.code_rules.specs.cell_code.declared.kind.Kind.{Kind}
use Rattle.code_rules.specs.cell_code.declared.kind.Kind.TheVariants as K
use Rattle.credit_check.specs.fip_trees.Tree.{Pattern, NoClauses, MoreClauses}
use Rattle.instance_semantics.specs.Example.{truth_pattern, gives_int, var}
use Rattle.code_rules.specs.Codes.{label_at}
use Rattle.code_rules.specs.Fitting.{fits}
use Rattle.code_rules.specs.Kinds.{at}
use Rattle.match_knowledge.specs.declared.heads.Head.TheVariants.{Tag}
use Rattle.match_knowledge.specs.Patterns as M
use Rattle.match_knowledge.specs.Known as N
use Rattle.match_knowledge.specs.Known.{Open, side}
use Rattle.lowering_relation.specs.Spots.{Spot, At, NoSpots}
use Rattle.lowering_relation.specs.Opening.{Roomy}
use Rattle.lowering_relation.specs.Rows.{row_of}
use Rattle.lowering_relation.specs.declared.held.Held.TheVariants as H
use Rattle.lowering_relation.specs.Known.{Known, with_next, register_of}
use Rattle.lowering_relation.specs.LoweredBodies.{moved}
use Rattle.lowering_relation.specs.LoweredFunctions.{known_at_start}
use Rattle.lowering_relation.specs.LoweredExample.{lists_setting}
use Rattle.lowering_relation.specs.Describing.{held_at, kind_of}
use Rattle.lowering_relation.specs.Labels.{Takes, Reports, Shows, reported, Quiet}
use Rattle.lowering_relation.specs.Sights.{Sight}
use Rattle.lowering_relation.specs.Tests.{Choice, BeginsBody, ChunkLaid, SideLaid}
use Rattle.lowering_relation.specs.Matches.{BuiltRight, MatchBegins, MatchLaid, entered, wide_at}
use Rattle.lowering_relation.specs.Joins.{ClauseEnds, Met}
use Rattle.lowering_relation.specs.LaidFunctions.{FunctionLaid}
use Rattle.lowering_relation.specs.LaidExample.{choosing, digit, begun_kinds, met_kinds, choosing_digit, lists_code}

abbrev root : Spot
root = At 0 NoSpots

abbrev no : Pattern
no = truth_pattern 0 (codes "False")

abbrev yes : Pattern
yes = truth_pattern 1 (codes "True")

abbrev choice : Choice
choice = record { type = 1; root = root; takes = false; patterns = no ∷ yes ∷ []; entries = 1 ∷ 4 ∷ [] }

abbrev at_start : Known
at_start = known_at_start lists_setting 4 digit

abbrev at_tests : Known
at_tests = record at_start { next = 2 }

-- in the clauses
abbrev at_no : Known
at_no = entered lists_setting choice no at_tests 2

abbrev at_yes : Known
at_yes = entered lists_setting choice yes at_tests 3

abbrev with_no : Known
with_no = with_next at_no (H.Scalar 0)

abbrev with_yes : Known
with_yes = with_next at_yes (H.Scalar 0)

abbrev left_no : Known
left_no = moved with_no 1 2

abbrev left_yes : Known
left_yes = moved with_yes 1 3

-- where they meet
abbrev met : Known
met = record left_no { held = H.Scalar 1 ∷ H.Scalar 0 ∷ H.Nothing ∷ H.Nothing ∷ [] }

abbrev after : Known
after = record met { next = 4 }

abbrev is_no : M.Pattern
is_no = row_of no

abbrev not_no : N.Known
not_no = side false is_no (Open [])

-- ---- labels

begun_takes : (k : Known) → ((r : ℕ) → fits (at begun_kinds r) (reported lists_code k r) ≡ true) → Takes 4 begun_kinds (reported lists_code k)
begun_takes k each = record { wide = refl; each = each }

fits_no : (r : ℕ) → fits (at begun_kinds r) (reported lists_code at_no r) ≡ true
fits_no zero = refl
fits_no (suc zero) = refl
fits_no (suc (suc zero)) = refl
fits_no (suc (suc (suc zero))) = refl
fits_no (suc (suc (suc (suc r)))) = refl

fits_yes : (r : ℕ) → fits (at begun_kinds r) (reported lists_code at_yes r) ≡ true
fits_yes zero = refl
fits_yes (suc zero) = refl
fits_yes (suc (suc zero)) = refl
fits_yes (suc (suc (suc zero))) = refl
fits_yes (suc (suc (suc (suc r)))) = refl

fits_met : (r : ℕ) → fits (at met_kinds r) (reported lists_code after r) ≡ true
fits_met zero = refl
fits_met (suc zero) = refl
fits_met (suc (suc zero)) = refl
fits_met (suc (suc (suc zero))) = refl
fits_met (suc (suc (suc (suc r)))) = refl

reports_no : Reports 4 begun_kinds (reported lists_code at_no)
reports_no = record { wide = refl; each = each }
  where
    each : (r : ℕ) → at begun_kinds r ≡ reported lists_code at_no r
    each zero = refl
    each (suc zero) = refl
    each (suc (suc zero)) = refl
    each (suc (suc (suc zero))) = refl
    each (suc (suc (suc (suc r)))) = refl

reports_yes : Reports 4 begun_kinds (reported lists_code at_yes)
reports_yes = record { wide = refl; each = each }
  where
    each : (r : ℕ) → at begun_kinds r ≡ reported lists_code at_yes r
    each zero = refl
    each (suc zero) = refl
    each (suc (suc zero)) = refl
    each (suc (suc (suc zero))) = refl
    each (suc (suc (suc (suc r)))) = refl

reports_met : Reports 4 met_kinds (reported lists_code after)
reports_met = record { wide = refl; each = each }
  where
    each : (r : ℕ) → at met_kinds r ≡ reported lists_code after r
    each zero = refl
    each (suc zero) = refl
    each (suc (suc zero)) = refl
    each (suc (suc (suc zero))) = refl
    each (suc (suc (suc (suc r)))) = refl

-- what fails the test goes straight to the body of the second clause
failed_begins : BeginsBody lists_code choosing_digit choice 4 not_no []
failed_begins = record {
  steps = 1;
  clause = 1;
  chosen = (
    row_of yes,
    record { number = 1; pattern = yes; there = refl; same = refl; asks = refl },
    refl,
    record { pattern = yes; there = refl; fits = refl; settled = ([], (refl, refl)) },
  );
  entry = refl;
}

failed_sight : Sight lists_code.types (wide_at (held_at at_tests.held)) 1 root not_no [] (at begun_kinds)
failed_sight = record { root = refl; parts = λ z a. absurd a; others = others }
  where
    others : (q : ℕ) → (q ≡ 0 → ⊥) → (Among q [] → ⊥) → at begun_kinds q ≡ kind_of lists_code.types (wide_at (held_at at_tests.held) q)
    others zero ne away = absurd (ne refl)
    others (suc zero) ne away = refl
    others (suc (suc zero)) ne away = refl
    others (suc (suc (suc zero))) ne away = refl
    others (suc (suc (suc (suc r)))) ne away = refl

-- ---- where labels are

abbrev shown : (p : ℕ) (map : List Kind) (m : ℕ → Kind) → label_at choosing_digit.labels p ≡ Some map → Reports 4 map m → Shows choosing_digit p m
shown p map m there reports other e = subst (λ map. Reports 4 map m) (same_Some map other (sym there ∙ e)) reports

quiet_start : Quiet choosing_digit 0 1 (reported lists_code at_tests)
quiet_start = record {
  first = λ less map e. absurd (cc);
  others = λ p low high. absurd (let z : ⊥ = omega (arith, low, high) in z);
}

quiet_no : Quiet choosing_digit 1 3 (reported lists_code at_no)
quiet_no = record { first = λ less. shown 1 begun_kinds (reported lists_code at_no) refl reports_no; others = others }
  where
    others : (p : ℕ) → 1 < p → p < 3 → label_at choosing_digit.labels p ≡ None
    others zero low high = absurd (let z : ⊥ = omega (arith, low) in z)
    others (suc zero) low high = absurd (let z : ⊥ = omega (arith, low) in z)
    others (suc (suc zero)) low high = refl
    others (suc (suc (suc p))) low high = absurd (let z : ⊥ = omega (arith, high) in z)

quiet_jump : Quiet choosing_digit 3 4 (reported lists_code left_no)
quiet_jump = record {
  first = λ less map e. absurd (cc);
  others = λ p low high. absurd (let z : ⊥ = omega (arith, low, high) in z);
}

quiet_failed : Quiet choosing_digit 4 4 (at begun_kinds)
quiet_failed = record {
  first = λ less. absurd (let z : ⊥ = omega (arith, less) in z);
  others = λ p low high. absurd (let z : ⊥ = omega (arith, low, high) in z);
}

quiet_yes : Quiet choosing_digit 4 6 (reported lists_code at_yes)
quiet_yes = record { first = λ less. shown 4 begun_kinds (reported lists_code at_yes) refl reports_yes; others = others }
  where
    others : (p : ℕ) → 4 < p → p < 6 → label_at choosing_digit.labels p ≡ None
    others zero low high = absurd (let z : ⊥ = omega (arith, low) in z)
    others (suc zero) low high = absurd (let z : ⊥ = omega (arith, low) in z)
    others (suc (suc zero)) low high = absurd (let z : ⊥ = omega (arith, low) in z)
    others (suc (suc (suc zero))) low high = absurd (let z : ⊥ = omega (arith, low) in z)
    others (suc (suc (suc (suc zero)))) low high = absurd (let z : ⊥ = omega (arith, low) in z)
    others (suc (suc (suc (suc (suc zero))))) low high = refl
    others (suc (suc (suc (suc (suc (suc p)))))) low high = absurd (let z : ⊥ = omega (arith, high) in z)

quiet_end : Quiet choosing_digit 6 6 (reported lists_code left_yes)
quiet_end = record {
  first = λ less. absurd (let z : ⊥ = omega (arith, less) in z);
  others = λ p low high. absurd (let z : ⊥ = omega (arith, low, high) in z);
}

quiet_after : (m : ℕ → Kind) → Reports 4 met_kinds m → Quiet choosing_digit 6 7 m
quiet_after m reports = record {
  first = λ less. shown 6 met_kinds m refl reports;
  others = λ p low high. absurd (let z : ⊥ = omega (arith, low, high) in z);
}

-- ---- the tests

first_chunk : ChunkLaid lists_code choosing_digit (held_at at_tests.held) choice 0 (Open []) [] (reported lists_code at_tests) 1
first_chunk = record {
  steps = 1;
  clause = 0;
  end = 1;
  place = 1;
  tests = (
    is_no,
    record { number = 0; pattern = no; there = refl; same = refl; asks = refl },
    inr (
      1,
      [],
      record {
        mid = 0;
        found = record { register = 0; head = Tag 0 };
        target = 4;
        reads = (refl, refl);
        asks = refl;
        written = refl;
        ahead = omega arith;
        label = refl;
        one = refl;
        fails = inr failed_begins;
      },
      record { pattern = no; there = refl; fits = refl; settled = ([], (refl, refl)) },
    ),
  );
  entry = refl;
  goes = inr (refl, refl);
  quiet = quiet_start;
}

failed_side : SideLaid lists_code choosing_digit (wide_at (held_at at_tests.held)) choice 4 4
failed_side = record {
  later = omega arith;
  known = not_no;
  read = [];
  reported = at begun_kinds;
  sight = failed_sight;
  chunk = record {
    steps = 1;
    clause = 1;
    end = 4;
    place = 4;
    tests = (
      row_of yes,
      record { number = 1; pattern = yes; there = refl; same = refl; asks = refl },
      inl (refl, record { pattern = yes; there = refl; fits = refl; settled = ([], (refl, refl)) }),
    );
    entry = refl;
    goes = inr (refl, refl);
    quiet = quiet_failed;
  };
}

begins : MatchBegins lists_code choosing_digit 0 at_tests (Some 0) 1 choice at_tests
begins = record {
  named = refl;
  type = refl;
  known = at_tests;
  forgets = inl (refl, (λ t d e. absurd (cc)));
  built = built;
  next = 2;
  is = refl;
  more = omega arith;
  few = omega arith;
  fresh = λ z a. absurd a;
  differ = tt;
  roomy = roomy;
  typed = typed;
}
  where
    built : (r : ℕ) → BuiltRight lists_code.types (held_at at_tests.held r)
    built zero = record { there = λ t d e. absurd (cc) }
    built (suc zero) = record { there = λ t d e. absurd (cc) }
    built (suc (suc zero)) = record { there = λ t d e. absurd (cc) }
    built (suc (suc (suc zero))) = record { there = λ t d e. absurd (cc) }
    built (suc (suc (suc (suc r)))) = record { there = λ t d e. absurd (cc) }

    roomy : (i : ℕ) (q : Pattern) → slice_get choice.patterns i ≡ Some q → Roomy q root
    roomy zero q e = subst (λ q. Roomy q root) (same_Some no q e) tt
    roomy (suc zero) q e = subst (λ q. Roomy q root) (same_Some yes q e) tt
    roomy (suc (suc i)) q e = absurd (cc)

    typed : (i : ℕ) (q : Pattern) → slice_get choice.patterns i ≡ Some q → M.IsPattern lists_code.types 1 (row_of q)
    typed zero q e = subst (λ q. M.IsPattern lists_code.types 1 (row_of q)) (same_Some no q e) (refl, [], (record { name = codes "False"; fields = [] }, refl, refl), tt)
    typed (suc zero) q e = subst (λ q. M.IsPattern lists_code.types 1 (row_of q)) (same_Some yes q e) (refl, [], (record { name = codes "True"; fields = [] }, refl, refl), tt)
    typed (suc (suc i)) q e = absurd (cc)

laid : MatchLaid lists_code lists_setting choosing_digit 0 at_tests false 1 (var 0 (codes "b")) no (MoreClauses yes (gives_int 1) NoClauses) choice at_tests 1
laid = record {
  variable = Some 0;
  is_variable = refl;
  begins = begins;
  takes = refl;
  patterns = refl;
  mid = 1;
  more = 0;
  first = first_chunk;
  sides = refl;
}

-- ---- where the clauses meet

built_no : (r : ℕ) → BuiltRight lists_code.types (held_at left_no.held r)
built_no zero = record { there = λ t d e. absurd (cc) }
built_no (suc zero) = record { there = λ t d e. absurd (cc) }
built_no (suc (suc zero)) = record { there = λ t d e. absurd (cc) }
built_no (suc (suc (suc zero))) = record { there = λ t d e. absurd (cc) }
built_no (suc (suc (suc (suc r)))) = record { there = λ t d e. absurd (cc) }

built_yes : (r : ℕ) → BuiltRight lists_code.types (held_at left_yes.held r)
built_yes zero = record { there = λ t d e. absurd (cc) }
built_yes (suc zero) = record { there = λ t d e. absurd (cc) }
built_yes (suc (suc zero)) = record { there = λ t d e. absurd (cc) }
built_yes (suc (suc (suc zero))) = record { there = λ t d e. absurd (cc) }
built_yes (suc (suc (suc (suc r)))) = record { there = λ t d e. absurd (cc) }

bare_no : (r t d : ℕ) → held_at left_no.held r ≡ H.Bare t d → ⊥
bare_no zero t d e = absurd (cc)
bare_no (suc zero) t d e = absurd (cc)
bare_no (suc (suc zero)) t d e = absurd (cc)
bare_no (suc (suc (suc zero))) t d e = absurd (cc)
bare_no (suc (suc (suc (suc r)))) t d e = absurd (cc)

bare_yes : (r t d : ℕ) → held_at left_yes.held r ≡ H.Bare t d → ⊥
bare_yes zero t d e = absurd (cc)
bare_yes (suc zero) t d e = absurd (cc)
bare_yes (suc (suc zero)) t d e = absurd (cc)
bare_yes (suc (suc (suc zero))) t d e = absurd (cc)
bare_yes (suc (suc (suc (suc r)))) t d e = absurd (cc)

bare_tests : (r t d : ℕ) → held_at at_tests.held r ≡ H.Bare t d → ⊥
bare_tests zero t d e = absurd (cc)
bare_tests (suc zero) t d e = absurd (cc)
bare_tests (suc (suc zero)) t d e = absurd (cc)
bare_tests (suc (suc (suc zero))) t d e = absurd (cc)
bare_tests (suc (suc (suc (suc r)))) t d e = absurd (cc)

no_ends : ClauseEnds lists_code lists_setting true choosing_digit at_tests choosing (1 ∷ []) (MoreClauses yes (gives_int 1) NoClauses) 3 left_no 6 4 left_no
no_ends = record {
  mid = 3;
  bare = left_no;
  stop = 3;
  left = left_no;
  over = (refl, refl);
  bares = record { steps = 0; gives = (refl, refl); none = bare_no };
  built = built_no;
  known = refl;
  goes = (refl, omega arith, refl);
  quiet = quiet_jump;
}

yes_ends : ClauseEnds lists_code lists_setting true choosing_digit at_tests choosing (1 ∷ []) NoClauses 6 left_yes 6 6 left_yes
yes_ends = record {
  mid = 6;
  bare = left_yes;
  stop = 6;
  left = left_yes;
  over = (refl, refl);
  bares = record { steps = 0; gives = (refl, refl); none = bare_yes };
  built = built_yes;
  known = refl;
  goes = (refl, refl);
  quiet = quiet_end;
}

both_meet : Met left_no left_yes met
both_meet = record {
  held = held;
  names = names;
  width = refl;
  many = refl;
  credits = refl;
  next = refl;
}
  where
    held : (r : ℕ) → ((held_at left_no.held r ≡ held_at left_yes.held r) × (held_at met.held r ≡ held_at left_no.held r)) ⊎ ((held_at left_no.held r ≡ held_at left_yes.held r → ⊥) × (held_at met.held r ≡ H.Nothing)) ⊎ ((n : ℕ) × (held_at left_no.held r ≡ H.Credit n) × (held_at met.held r ≡ held_at left_no.held r))
    held zero = inl (refl, refl)
    held (suc zero) = inl (refl, refl)
    held (suc (suc zero)) = inr (inl ((λ e. absurd (cc)), refl))
    held (suc (suc (suc zero))) = inr (inl ((λ e. absurd (cc)), refl))
    held (suc (suc (suc (suc r)))) = inl (refl, refl)

    names : (x : ℕ) → ((register_of left_no.names (Some x) ≡ register_of left_yes.names (Some x)) × (register_of met.names (Some x) ≡ register_of left_no.names (Some x))) ⊎ ((register_of left_no.names (Some x) ≡ register_of left_yes.names (Some x) → ⊥) × (register_of met.names (Some x) ≡ None))
    names x = inl (refl, refl)

done : (r t d : ℕ) → held_at after.held r ≡ H.Bare t d → ⊥
done zero t d e = absurd (cc)
done (suc zero) t d e = absurd (cc)
done (suc (suc zero)) t d e = absurd (cc)
done (suc (suc (suc zero))) t d e = absurd (cc)
done (suc (suc (suc (suc r)))) t d e = absurd (cc)

apart : (r d : ℕ) → d < r → r ≡ d → ⊥
apart r d low e = let z : ⊥ = omega (arith, low, e) in z

pub digit_is_laid : FunctionLaid lists_code lists_setting true choosing_digit digit
digit_is_laid = record {
  params = refl;
  credits = refl;
  results = refl;
  room = omega arith;
  after = after;
  body = inr (
    6,
    after,
    (
      0,
      at_tests,
      choice,
      at_tests,
      1,
      2,
      3,
      left_no,
      4,
      left_no,
      met,
      record { steps = 0; gives = (refl, refl); none = bare_tests },
      record { first = λ less. absurd (let z : ⊥ = omega (arith, less) in z); others = λ p low high. absurd (let z : ⊥ = omega (arith, low, high) in z) },
      laid,
      record { place = refl; more = omega arith; enters = inl (omega arith, record { map = begun_kinds; there = refl; takes = begun_takes at_no fits_no }) },
      record {
        registers = 2 ∷ [];
        mid = 2;
        m = with_no;
        values = record {
          arguments = (2, with_no, record { written = refl; fresh = refl; one = refl; known = refl }, (refl, refl));
          room = omega arith;
          last = λ n. ([], refl);
        };
        given = (3, left_no, inl (apart 2 1 (omega arith), record { written = refl; one = refl; known = refl }), (refl, refl));
        quiet = quiet_no;
      },
      no_ends,
      (
        1,
        4,
        3,
        6,
        left_yes,
        6,
        left_yes,
        met,
        (4, failed_side, refl),
        record { place = refl; more = omega arith; enters = inl (omega arith, record { map = begun_kinds; there = refl; takes = begun_takes at_yes fits_yes }) },
        record {
          registers = 3 ∷ [];
          mid = 5;
          m = with_yes;
          values = record {
            arguments = (5, with_yes, record { written = refl; fresh = refl; one = refl; known = refl }, (refl, refl));
            room = omega arith;
            last = λ n. ([], refl);
          };
          given = (6, left_yes, inl (apart 3 1 (omega arith), record { written = refl; one = refl; known = refl }), (refl, refl));
          quiet = quiet_yes;
        },
        yes_ends,
        both_meet,
        (refl, refl),
      ),
      record { next = 4; more = omega arith; known = refl; map = met_kinds; label = refl },
    ),
    record {
      registers = 1 ∷ [];
      mid = 6;
      m = record after { names = Some 0 ∷ Some 1 ∷ [] };
      values = record {
        arguments = (6, record after { names = Some 0 ∷ Some 1 ∷ [] }, record { named = refl; nothing = refl; known = refl }, (refl, refl));
        room = omega arith;
        last = λ n. ([], refl);
      };
      given = record {
        steps = 0;
        stop = 6;
        left = record after { names = Some 0 ∷ Some 1 ∷ [] };
        gives = (refl, refl);
        done = record { bares = done; trees = λ e. absurd (true≢false e); credits = λ e. absurd (true≢false e) };
        written = refl;
        one = refl;
      };
      quiet = quiet_after (reported lists_code after) reports_met;
    },
  );
}
