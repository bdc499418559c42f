-- The function of `rev` is laid out as its body requires: its labels report what is known, and each test leads to one.
use Rattle.std.proofs.Common.{◌≡◌, inl, inr, ℕ, zero, suc, ◌<◌, ◌≤◌, true, false, true≢false, List, [], ◌∷◌, Option, Some, None, refl, sym, ap, ◌∙◌, subst, arith, slice_get}
use Rattle.std.specs.Prelude.{codes}
use Rattle.std.proofs.lemmas.Option.{same_Some}
use Rattle.tree_semantics.specs.fip_language.Every.{Among}
use Rattle.tree_semantics.specs.fip_language.Example.{here}
use Rattle.code_rules.specs.cell_code.declared.kind.Kind.{Kind}
use Rattle.code_rules.specs.cell_code.declared.kind.Kind.TheVariants as K
use Rattle.credit_check.specs.fip_trees.Tree.{Pattern, Block, Last, Call, MoreArguments, NoArguments}
use Rattle.instance_semantics.specs.Example.{rev, nil_pattern, cons_pattern, var, cons}
use Rattle.code_rules.specs.Codes.{label_at}
use Rattle.code_rules.specs.Fitting.{fits}
use Rattle.code_rules.specs.Kinds.{at}
use Rattle.match_knowledge.specs.declared.heads.Head.TheVariants.{Tag}
use Rattle.match_knowledge.specs.Patterns as M
use Rattle.match_knowledge.specs.Known as N
use Rattle.match_knowledge.specs.Known.{Open, side}
use Rattle.lowering_relation.specs.Spots.{Spot, At, NoSpots, MoreSpots}
use Rattle.lowering_relation.specs.Opening.{Roomy}
use Rattle.lowering_relation.specs.Rows.{row_of}
use Rattle.lowering_relation.specs.declared.held.Held.TheVariants as H
use Rattle.lowering_relation.specs.Known.{Known, register_of, holding}
use Rattle.lowering_relation.specs.Values.{IsVariable, with_put}
use Rattle.lowering_relation.specs.LoweredBodies.{handed}
use Rattle.lowering_relation.specs.LoweredExample.{lists_setting, at_start}
use Rattle.lowering_relation.specs.Describing.{Holding, held_at}
use Rattle.lowering_relation.specs.Labels.{Takes, Catches, Reports, Shows, reported, Quiet}
use Rattle.lowering_relation.specs.Sights.{Sight}
use Rattle.lowering_relation.specs.Credits.{of_size}
use Rattle.lowering_relation.specs.GivenUp.{AllGivenUp}
use Rattle.lowering_relation.specs.Tests.{Choice, ChunkLaid, SideLaid}
use Rattle.lowering_relation.specs.Matches.{BuiltRight, MatchBegins, MatchLaid, entered, EntryLaid, wide_at}
use Rattle.lowering_relation.specs.LaidFunctions.{FunctionLaid}
use Rattle.lowering_relation.specs.LaidExample.{nil_kinds, failed_kinds, cons_kinds, reversing, lists_code}

abbrev root : Spot
root = At 0 (MoreSpots (At 2 NoSpots) (MoreSpots (At 3 NoSpots) NoSpots))

abbrev choice : Choice
choice = record { type = 2; root = root; takes = true; patterns = nil_pattern ∷ cons_pattern 2 3 ∷ []; entries = 1 ∷ 4 ∷ [] }

abbrev at_tests : Known
at_tests = record at_start { next = 4 }

abbrev at_nil : Known
at_nil = entered lists_setting choice nil_pattern at_tests 4

abbrev at_cons : Known
at_cons = entered lists_setting choice (cons_pattern 2 3) at_tests 4

abbrev is_nil : M.Pattern
is_nil = row_of nil_pattern

abbrev not_nil : N.Known
not_nil = side false is_nil (Open [])

abbrev rest : Block
rest = Last (Call 0 (codes "rev") here (MoreArguments (var 3 (codes "t")) (MoreArguments (cons (var 2 (codes "x")) (var 1 (codes "acc"))) NoArguments)))

abbrev with_cons : Known
with_cons = with_put at_cons [] 2 1 0 (2 ∷ 1 ∷ [])

-- ---- labels

nil_takes : Takes 7 nil_kinds (reported lists_code at_nil)
nil_takes = record { wide = refl; each = each }
  where
    each : (r : ℕ) → fits (at nil_kinds r) (reported lists_code at_nil r) ≡ true
    each zero = refl
    each (suc zero) = refl
    each (suc (suc zero)) = refl
    each (suc (suc (suc zero))) = refl
    each (suc (suc (suc (suc zero)))) = refl
    each (suc (suc (suc (suc (suc zero))))) = refl
    each (suc (suc (suc (suc (suc (suc zero)))))) = refl
    each (suc (suc (suc (suc (suc (suc (suc r))))))) = refl

nil_reports : Reports 7 nil_kinds (reported lists_code at_nil)
nil_reports = record { wide = refl; each = each }
  where
    each : (r : ℕ) → at nil_kinds r ≡ reported lists_code at_nil r
    each zero = refl
    each (suc zero) = refl
    each (suc (suc zero)) = refl
    each (suc (suc (suc zero))) = refl
    each (suc (suc (suc (suc zero)))) = refl
    each (suc (suc (suc (suc (suc zero))))) = refl
    each (suc (suc (suc (suc (suc (suc zero)))))) = refl
    each (suc (suc (suc (suc (suc (suc (suc r))))))) = refl

cons_takes : Takes 7 cons_kinds (reported lists_code at_cons)
cons_takes = record { wide = refl; each = each }
  where
    each : (r : ℕ) → fits (at cons_kinds r) (reported lists_code at_cons r) ≡ true
    each zero = refl
    each (suc zero) = refl
    each (suc (suc zero)) = refl
    each (suc (suc (suc zero))) = refl
    each (suc (suc (suc (suc zero)))) = refl
    each (suc (suc (suc (suc (suc zero))))) = refl
    each (suc (suc (suc (suc (suc (suc zero)))))) = refl
    each (suc (suc (suc (suc (suc (suc (suc r))))))) = refl

cons_reports : Reports 7 cons_kinds (reported lists_code at_cons)
cons_reports = record { wide = refl; each = each }
  where
    each : (r : ℕ) → at cons_kinds r ≡ reported lists_code at_cons r
    each zero = refl
    each (suc zero) = refl
    each (suc (suc zero)) = refl
    each (suc (suc (suc zero))) = refl
    each (suc (suc (suc (suc zero)))) = refl
    each (suc (suc (suc (suc (suc zero))))) = refl
    each (suc (suc (suc (suc (suc (suc zero)))))) = refl
    each (suc (suc (suc (suc (suc (suc (suc r))))))) = refl

abbrev FailedSight : Holding → (ℕ → Kind) → Type 0
FailedSight g m = Sight lists_code.types g 2 root not_nil [] m

below_not : (q : ℕ) → (q ≡ 2 → ⊥) → (q ≡ 3 → ⊥) → Among q (2 ∷ 3 ∷ []) → ⊥
below_not q a b (inl e) = a e
below_not q a b (inr (inl e)) = b e
below_not q a b (inr (inr m)) = m

failed_takes : (m : ℕ → Kind) → FailedSight (held_at at_tests.held) m → Catches reversing 3 m
failed_takes m sight = record { map = failed_kinds; there = refl; takes = record { wide = refl; each = each } }
  where
    other : (q : ℕ) (k own : Kind) → (q ≡ 0 → ⊥) → (q ≡ 2 → ⊥) → (q ≡ 3 → ⊥) → Rattle.lowering_relation.specs.Describing.kind_of lists_code.types (held_at at_tests.held q) ≡ own → fits k own ≡ true → fits k (m q) ≡ true
    other q k own a b d is e = ap (fits k) (sight.others q a (below_not q b d) ∙ is) ∙ e

    each : (r : ℕ) → fits (at failed_kinds r) (m r) ≡ true
    each zero = ap (fits (K.Owned 2 (1 ∷ []))) sight.root
    each (suc zero) = other 1 (K.Owned 2 (0 ∷ 1 ∷ [])) (K.Owned 2 (0 ∷ 1 ∷ [])) (λ e. absurd (omega (arith, e))) (λ e. absurd (omega (arith, e))) (λ e. absurd (omega (arith, e))) refl refl
    each (suc (suc zero)) = ap (fits K.Gone) (sight.parts 2 (inl refl)).1
    each (suc (suc (suc zero))) = ap (fits K.Gone) (sight.parts 3 (inr (inl refl))).1
    each (suc (suc (suc (suc zero)))) = other 4 K.Gone K.Gone (λ e. absurd (omega (arith, e))) (λ e. absurd (omega (arith, e))) (λ e. absurd (omega (arith, e))) refl refl
    each (suc (suc (suc (suc (suc zero))))) = other 5 K.Gone K.Gone (λ e. absurd (omega (arith, e))) (λ e. absurd (omega (arith, e))) (λ e. absurd (omega (arith, e))) refl refl
    each (suc (suc (suc (suc (suc (suc zero)))))) = other 6 K.Gone K.Gone (λ e. absurd (omega (arith, e))) (λ e. absurd (omega (arith, e))) (λ e. absurd (omega (arith, e))) refl refl
    each (suc (suc (suc (suc (suc (suc (suc r))))))) = other (suc (suc (suc (suc (suc (suc (suc r))))))) K.Gone K.Gone (λ e. absurd (omega (arith, e))) (λ e. absurd (omega (arith, e))) (λ e. absurd (omega (arith, e))) refl refl

failed_sight : FailedSight (wide_at (held_at at_tests.held)) (at failed_kinds)
failed_sight = record { root = refl; parts = unread; others = others }
  where
    unread : (z : ℕ) → Among z (2 ∷ 3 ∷ []) → (Rattle.lowering_relation.specs.Reading.contains z [] ≡ false) × (at failed_kinds z ≡ K.Gone)
    unread z (inl e) = (refl, ap (at failed_kinds) e)
    unread z (inr (inl e)) = (refl, ap (at failed_kinds) e)
    unread z (inr (inr m)) = absurd m

    others : (q : ℕ) → (q ≡ 0 → ⊥) → (Among q (2 ∷ 3 ∷ []) → ⊥) → at failed_kinds q ≡ Rattle.lowering_relation.specs.Describing.kind_of lists_code.types (wide_at (held_at at_tests.held) q)
    others zero ne away = absurd (ne refl)
    others (suc zero) ne away = refl
    others (suc (suc zero)) ne away = absurd (away (inl refl))
    others (suc (suc (suc zero))) ne away = absurd (away (inr (inl refl)))
    others (suc (suc (suc (suc zero)))) ne away = refl
    others (suc (suc (suc (suc (suc zero))))) ne away = refl
    others (suc (suc (suc (suc (suc (suc zero)))))) ne away = refl
    others (suc (suc (suc (suc (suc (suc (suc r))))))) ne away = refl

-- no label is at 0, 2 and 5
abbrev shown : (p : ℕ) (map : List Kind) (m : ℕ → Kind) → label_at reversing.labels p ≡ Some map → Reports 7 map m → Shows reversing p m
shown p map m there reports other e = subst (λ map. Reports 7 map m) (same_Some map other (sym there ∙ e)) reports

quiet_start : Quiet reversing 0 1 (reported lists_code at_tests)
quiet_start = record {
  first = λ less map e. absurd (cc);
  others = λ p low high. absurd (let z : ⊥ = omega (arith, low, high) in z);
}

quiet_nil : Quiet reversing 1 3 (reported lists_code at_nil)
quiet_nil = record { first = λ less. shown 1 nil_kinds (reported lists_code at_nil) refl nil_reports; others = others }
  where
    others : (p : ℕ) → 1 < p → p < 3 → label_at reversing.labels p ≡ None
    others zero low high = absurd (let z : ⊥ = omega (arith, low) in z)
    others (suc zero) low high = absurd (let z : ⊥ = omega (arith, low) in z)
    others (suc (suc zero)) low high = refl
    others (suc (suc (suc p))) low high = absurd (let z : ⊥ = omega (arith, high) in z)

quiet_failed : Quiet reversing 3 4 (at failed_kinds)
quiet_failed = record {
  first = λ less. shown 3 failed_kinds (at failed_kinds) refl (record { wide = refl; each = λ r. refl });
  others = λ p low high. absurd (let z : ⊥ = omega (arith, low, high) in z);
}

quiet_cons : Quiet reversing 4 6 (reported lists_code at_cons)
quiet_cons = record { first = λ less. shown 4 cons_kinds (reported lists_code at_cons) refl cons_reports; others = others }
  where
    others : (p : ℕ) → 4 < p → p < 6 → label_at reversing.labels p ≡ None
    others zero low high = absurd (let z : ⊥ = omega (arith, low) in z)
    others (suc zero) low high = absurd (let z : ⊥ = omega (arith, low) in z)
    others (suc (suc zero)) low high = absurd (let z : ⊥ = omega (arith, low) in z)
    others (suc (suc (suc zero))) low high = absurd (let z : ⊥ = omega (arith, low) in z)
    others (suc (suc (suc (suc zero)))) low high = absurd (let z : ⊥ = omega (arith, low) in z)
    others (suc (suc (suc (suc (suc zero))))) low high = refl
    others (suc (suc (suc (suc (suc (suc p)))))) low high = absurd (let z : ⊥ = omega (arith, high) in z)

-- ---- the tests

first_chunk : ChunkLaid lists_code reversing (held_at at_tests.held) choice 0 (Open []) [] (reported lists_code at_tests) 1
first_chunk = record {
  steps = 1;
  clause = 0;
  end = 1;
  place = 1;
  tests = (
    is_nil,
    record { number = 0; pattern = nil_pattern; there = refl; same = refl; asks = refl },
    inr (
      1,
      [],
      record {
        mid = 0;
        found = record { register = 0; head = Tag 0 };
        target = 3;
        reads = (refl, refl);
        asks = refl;
        written = refl;
        ahead = omega arith;
        label = refl;
        one = refl;
        fails = inl failed_takes;
      },
      record { pattern = nil_pattern; there = refl; fits = refl; settled = (1, refl, refl) },
    ),
  );
  entry = refl;
  goes = inr (refl, refl);
  quiet = quiet_start;
}

failed_side : SideLaid lists_code reversing (wide_at (held_at at_tests.held)) choice 3 4
failed_side = record {
  later = omega arith;
  known = not_nil;
  read = [];
  reported = at failed_kinds;
  sight = failed_sight;
  chunk = record {
    steps = 1;
    clause = 1;
    end = 4;
    place = 4;
    tests = (
      row_of (cons_pattern 2 3),
      record { number = 1; pattern = cons_pattern 2 3; there = refl; same = refl; asks = refl },
      inl (refl, record { pattern = cons_pattern 2 3; there = refl; fits = refl; settled = (4, (refl, refl), (4, refl, (4, refl, refl))) }),
    );
    entry = refl;
    goes = inr (refl, refl);
    quiet = quiet_failed;
  };
}

-- ---- the match

begins : MatchBegins lists_code reversing 0 at_start (Some 0) 2 choice at_tests
begins = record {
  named = refl;
  type = refl;
  known = at_start;
  forgets = inl (refl, (λ t d e. absurd (cc)));
  built = built;
  next = 4;
  is = refl;
  more = omega arith;
  few = omega arith;
  fresh = fresh;
  differ = ((λ m. m), not_three, (λ z m x. m), tt, ((λ m. m), (λ m. m), (λ z m x. m), tt, tt));
  roomy = roomy;
  typed = typed;
}
  where
    built : (r : ℕ) → BuiltRight lists_code.types (held_at at_start.held r)
    built zero = record { there = λ t d e. absurd (cc) }
    built (suc zero) = record { there = λ t d e. absurd (cc) }
    built (suc (suc zero)) = record { there = λ t d e. absurd (cc) }
    built (suc (suc (suc zero))) = record { there = λ t d e. absurd (cc) }
    built (suc (suc (suc (suc zero)))) = record { there = λ t d e. absurd (cc) }
    built (suc (suc (suc (suc (suc zero))))) = record { there = λ t d e. absurd (cc) }
    built (suc (suc (suc (suc (suc (suc zero)))))) = record { there = λ t d e. absurd (cc) }
    built (suc (suc (suc (suc (suc (suc (suc r))))))) = record { there = λ t d e. absurd (cc) }

    fresh : (z : ℕ) → Among z (2 ∷ 3 ∷ []) → (2 ≤ z) × (z < 4)
    fresh z (inl e) = (omega (arith, e), omega (arith, e))
    fresh z (inr (inl e)) = (omega (arith, e), omega (arith, e))
    fresh z (inr (inr m)) = absurd m

    not_three : Among {A = ℕ} 2 (3 ∷ []) → ⊥
    not_three (inl e) = absurd (let z : ⊥ = omega (arith, e) in z)
    not_three (inr m) = m

    roomy : (i : ℕ) (q : Pattern) → slice_get choice.patterns i ≡ Some q → Roomy q root
    roomy zero q e = subst (λ q. Roomy q root) (same_Some nil_pattern q e) tt
    roomy (suc zero) q e = subst (λ q. Roomy q root) (same_Some (cons_pattern 2 3) q e) (tt, (tt, tt))
    roomy (suc (suc i)) q e = absurd (cc)

    typed : (i : ℕ) (q : Pattern) → slice_get choice.patterns i ≡ Some q → M.IsPattern lists_code.types 2 (row_of q)
    typed zero q e = subst (λ q. M.IsPattern lists_code.types 2 (row_of q)) (same_Some nil_pattern q e) (refl, [], (record { name = codes "Nil"; fields = [] }, refl, refl), tt)
    typed (suc zero) q e = subst (λ q. M.IsPattern lists_code.types 2 (row_of q)) (same_Some (cons_pattern 2 3) q e) (refl, 0 ∷ 2 ∷ [], (record { name = codes "Cons"; fields = 0 ∷ 2 ∷ [] }, refl, refl), (tt, (tt, tt)))
    typed (suc (suc i)) q e = absurd (cc)

laid : MatchLaid lists_code lists_setting reversing 0 at_start true 2 (var 0 (codes "xs")) nil_pattern (Rattle.credit_check.specs.fip_trees.Tree.MoreClauses (cons_pattern 2 3) rest Rattle.credit_check.specs.fip_trees.Tree.NoClauses) choice at_tests 1
laid = record {
  variable = Some 0;
  is_variable = refl;
  begins = begins;
  takes = refl;
  patterns = refl;
  mid = 1;
  more = 0;
  first = first_chunk;
  sides = refl;
}

nil_entry : EntryLaid lists_code lists_setting reversing choice at_tests 0 nil_pattern 1 4
nil_entry = record { place = refl; more = omega arith; enters = inl (omega arith, record { map = nil_kinds; there = refl; takes = nil_takes }) }

cons_entry : EntryLaid lists_code lists_setting reversing choice at_tests 1 (cons_pattern 2 3) 4 4
cons_entry = record { place = refl; more = omega arith; enters = inl (omega arith, record { map = cons_kinds; there = refl; takes = cons_takes }) }

-- ---- the bodies

pub variable_at : (at : ℕ) (k : Known) (x : Option ℕ) (r : ℕ) → register_of k.names x ≡ Some r → IsVariable at k x r at k
variable_at at k x r h = record { named = h; nothing = refl; known = refl }

nil_done : AllGivenUp true (held_at (holding (record at_nil { held = Rattle.lowering_relation.specs.Known.used_all at_nil.held (1 ∷ []) }) 0 H.Nothing).held)
nil_done = record { bares = bares; trees = λ e. absurd (true≢false e); credits = λ e. absurd (true≢false e) }
  where
    bares : (r t c : ℕ) → held_at (holding (record at_nil { held = Rattle.lowering_relation.specs.Known.used_all at_nil.held (1 ∷ []) }) 0 H.Nothing).held r ≡ H.Bare t c → ⊥
    bares zero t c e = absurd (cc)
    bares (suc zero) t c e = absurd (cc)
    bares (suc (suc zero)) t c e = absurd (cc)
    bares (suc (suc (suc zero))) t c e = absurd (cc)
    bares (suc (suc (suc (suc zero)))) t c e = absurd (cc)
    bares (suc (suc (suc (suc (suc zero))))) t c e = absurd (cc)
    bares (suc (suc (suc (suc (suc (suc zero)))))) t c e = absurd (cc)
    bares (suc (suc (suc (suc (suc (suc (suc r))))))) t c e = absurd (cc)

abbrev handed_on : Known
handed_on = record with_cons { held = handed with_cons.held rev.params (3 ∷ 0 ∷ []) }

cons_done : AllGivenUp true (held_at handed_on.held)
cons_done = record { bares = bares; trees = λ e. absurd (true≢false e); credits = λ e. absurd (true≢false e) }
  where
    bares : (r t c : ℕ) → held_at handed_on.held r ≡ H.Bare t c → ⊥
    bares zero t c e = absurd (cc)
    bares (suc zero) t c e = absurd (cc)
    bares (suc (suc zero)) t c e = absurd (cc)
    bares (suc (suc (suc zero))) t c e = absurd (cc)
    bares (suc (suc (suc (suc zero)))) t c e = absurd (cc)
    bares (suc (suc (suc (suc (suc zero))))) t c e = absurd (cc)
    bares (suc (suc (suc (suc (suc (suc zero)))))) t c e = absurd (cc)
    bares (suc (suc (suc (suc (suc (suc (suc r))))))) t c e = absurd (cc)

pub rev_is_laid : FunctionLaid lists_code lists_setting true reversing rev
rev_is_laid = record {
  params = refl;
  credits = refl;
  results = refl;
  room = omega arith;
  after = at_start;
  body = (
    choice,
    at_tests,
    1,
    4,
    3,
    at_start,
    laid,
    nil_entry,
    record {
      registers = 1 ∷ [];
      mid = 1;
      m = at_nil;
      values = record { arguments = (1, at_nil, variable_at 1 at_nil (Some 1) 1 refl, (refl, refl)); room = omega arith; last = λ n. ([], refl) };
      given = record {
        steps = 1;
        stop = 2;
        left = holding (record at_nil { held = Rattle.lowering_relation.specs.Known.used_all at_nil.held (1 ∷ []) }) 0 H.Nothing;
        gives = (
          holding (record at_nil { held = Rattle.lowering_relation.specs.Known.used_all at_nil.held (1 ∷ []) }) 0 H.Nothing,
          inl (record { register = 0; type = 2; constructor = 0; held = refl; written = refl; known = refl }),
          (refl, refl),
        );
        done = nil_done;
        written = refl;
        one = refl;
      };
      quiet = quiet_nil;
    },
    (
      1,
      4,
      4,
      6,
      at_start,
      (4, failed_side, refl),
      cons_entry,
      record {
        registers = 3 ∷ 0 ∷ [];
        mid = 5;
        m = with_cons;
        values = record {
          arguments = (
            4,
            at_cons,
            variable_at 4 at_cons (Some 3) 3 refl,
            (
              5,
              with_cons,
              (
                2 ∷ 1 ∷ [],
                4,
                at_cons,
                (4, at_cons, variable_at 4 at_cons (Some 2) 2 refl, (4, at_cons, variable_at 4 at_cons (Some 1) 1 refl, (refl, refl))),
                record { credits = []; taken = record { before = []; following = []; was = refl; left = refl }; written = refl; one = refl; known = refl },
              ),
              (refl, refl),
            ),
          );
          room = omega arith;
          last = λ n. (of_size n at_cons.credits, refl);
        };
        call = record {
          function = 0;
          instance = rev;
          credits = [];
          m = handed_on;
          numbered = refl;
          there = refl;
          taken = refl;
          last = λ n. ([], refl);
          ends = record { steps = 0; stop = 5; left = handed_on; gives = (refl, refl); done = cons_done; written = refl; one = refl };
        };
        quiet = quiet_cons;
      },
      refl,
    ),
  );
}
