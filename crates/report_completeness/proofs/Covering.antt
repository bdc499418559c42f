-- Of the rules on coverage only so many violations can occur in a program; and where there is none, all is covered and
-- reached.
use Rattle.std.proofs.Common.{◌≡◌, ◌⊎◌, inl, inr, ℕ, zero, suc, ◌+◌, ◌<◌, ◌≤◌, ◌^◌, Bool, true, false, List, [], ◌∷◌, ◌++◌, length, refl, sym, ap, ◌∙◌, arith}
use Rattle.std.specs.Prelude.{pos, nat_lt, if◌then◌else◌}
use Rattle.source_report.specs.fip_language.declared.Place.{Place}
use Rattle.source_report.specs.fip_language.declared.limits.TheConstants.{MOST_CLAUSES, MOST_PATTERN_NODES}
use Rattle.source_report.specs.fip_language.declared.rule.Rule.TheVariants.{E40, E41, E43}
use Rattle.source_report.specs.fip_language.SoundTable.{AreTypes}
use Rattle.source_report.specs.fip_language.Table.{Table, HasType}
use Rattle.source_report.specs.fip_language.Values.{Value, Int}
use Rattle.source_report.specs.fip_trees.declared.least.Violation.{Violation}
use Rattle.source_report.specs.fip_trees.Least.{violation}
use Rattle.source_report.specs.fip_trees.Tree as T
use Rattle.source_report.specs.fip_trees.Tree.{Instance, Program, pattern_place}
use Rattle.source_report.specs.match_cover.MatchFaults.{pattern_nodes, parts_nodes, total_nodes, is_large, Uncovered, Unreached, AllFit}
use Rattle.source_report.specs.match_cover.PatternText.{pattern_text}
use Rattle.source_report.specs.match_knowledge.Patterns as K
use Rattle.source_report.specs.match_knowledge.Patterns.{nodes, nodes_all, row_nodes, some_fits}
use Rattle.source_report.specs.match_knowledge.Unmatched.{Reached}
use Rattle.source_report.specs.match_knowledge.ValueHeads.{IsTidy, AllHaveValues}
use Rattle.source_report.specs.MatchRules as R
use Rattle.source_report.specs.MatchRules.{rows_of, size_faults, patterns_faults, matches_faults, shape_faults, SomeUnreached, SomeBreaks, CoverFault, AreReached, IsCovered, AreCovered, AllCovered, IsRight}
use Rattle.source_report.specs.Report.{IsTyped}
use Rattle.source_report.specs.TreeMatches.{bare, Match, matches_block, lets_block}
use Rattle.source_report.specs.match_cover.MatchFaults.{lets_faults}
use Rattle.source_report.specs.WellFormed.{IsWellFormed}
use Rattle.source_report.proofs.Ready.{typed_formed}
use Rattle.source_report.proofs.fip_language.Facts.{or_false_both, nat_lt_false}
use Rattle.match_cover.proofs.OneMissing.{one}
use Rattle.report_completeness.proofs.LeastOrNone.{Can, either, Few, itself, few_both, few_none, few_one, few_of}
use Rattle.report_completeness.proofs.Missing.{missing_found}

-- ---- tables whose types have values

module _ (p : Program) (good : IsWellFormed p) where
  valued : (t : ℕ) → t ≤ length p.types → (v : Value) × HasType p.types t v
  valued zero h = (Int (pos 0), omega arith)
  valued (suc t) h = good.inhabited t (omega (arith, h))

  all_valued : (ts : List ℕ) → AreTypes p.types ts → AllHaveValues p.types ts
  all_valued [] h = tt
  all_valued (t ∷ ts) h = (valued t h.0, all_valued ts h.1)

  tidy : IsTidy p.types
  tidy t c s e = all_valued s.fields (good.fields t c s e)

pub typed_tidy : (source : List ℕ) (p : Program) → IsTyped source p → IsTidy p.types
typed_tidy source p h = tidy p (typed_formed source p h)

-- ---- matches that aren't large

mutual
  nodes_most : (q : K.Pattern) → nodes q ≤ pattern_nodes q
  nodes_most K.Any = omega arith
  nodes_most (K.Test t h ps) = let r = nodes_all_most ps in omega (arith, r)

  nodes_all_most : (ps : K.Patterns) → nodes_all ps ≤ parts_nodes ps
  nodes_all_most K.NoPatterns = omega arith
  nodes_all_most (K.MorePatterns q ps) = let a = nodes_most q in let b = nodes_all_most ps in omega (arith, a, b)

rows_most : (rows : List K.Pattern) → row_nodes rows ≤ total_nodes rows
rows_most [] = omega arith
rows_most (q ∷ rows) = let a = nodes_most q in let b = rows_most rows in omega (arith, a, b)

small_rows : (rows : List K.Pattern) → is_large rows ≡ false → row_nodes rows < 2 ^ 63
small_rows rows e =
    let both = or_false_both (nat_lt MOST_CLAUSES (length rows)) (nat_lt MOST_PATTERN_NODES (total_nodes rows)) e in
    let few = nat_lt_false MOST_PATTERN_NODES (total_nodes rows) both.1 in
    let most = rows_most rows in
    omega (arith, few, most)

left_none : (xs ys : List Violation) → xs ++ ys ≡ [] → xs ≡ []
left_none [] ys e = refl
left_none (x ∷ xs) ys e = absurd (cc)

right_none : (xs ys : List Violation) → xs ++ ys ≡ [] → ys ≡ []
right_none [] ys e = e
right_none (x ∷ xs) ys e = absurd (cc)

abbrev IsSmall : Match → Type 0
IsSmall m = row_nodes (rows_of m) < 2 ^ 63

abbrev AreSmall : List Match → Type 0
AreSmall [] = Unit {0}
AreSmall (m ∷ ms) = IsSmall m × AreSmall ms

small_match : (i : ℕ) (m : Match) → size_faults i m ≡ [] → IsSmall m
small_match i m e = by (is_large (rows_of m)) refl e
  where
    by : (b : Bool) → is_large (rows_of m) ≡ b → (if b then violation E43 m.place i 0 [] ∷ [] else []) ≡ [] → IsSmall m
    by true f g = absurd (cc)
    by false f g = small_rows (rows_of m) f

small_matches : (i : ℕ) (ms : List Match) → matches_faults i ms ≡ [] → AreSmall ms
small_matches i [] e = tt
small_matches i (m ∷ ms) e =
    let rest = right_none (size_faults i m) (patterns_faults i m.patterns ++ matches_faults i ms) e in (
      small_match i m (left_none (size_faults i m) (patterns_faults i m.patterns ++ matches_faults i ms) e),
      small_matches i ms (right_none (patterns_faults i m.patterns) (matches_faults i ms) rest),
    )

abbrev AllSmall : List Instance → Type 0
AllSmall [] = Unit {0}
AllSmall (d ∷ ds) = AreSmall (matches_block d.body) × AllSmall ds

pub all_small : (i : ℕ) (ds : List Instance) → shape_faults i ds ≡ [] → AllSmall ds
all_small i [] e = tt
all_small i (d ∷ ds) e =
    let own = left_none (matches_faults i (matches_block d.body) ++ lets_faults i (lets_block d.body)) (shape_faults (suc i) ds) e in (
      small_matches i (matches_block d.body) (left_none (matches_faults i (matches_block d.body)) (lets_faults i (lets_block d.body)) own),
      all_small (suc i) ds (right_none (matches_faults i (matches_block d.body) ++ lets_faults i (lets_block d.body)) (shape_faults (suc i) ds) e),
    )

-- ---- few violations

can_both : (V W : Violation → Type 0) → Can (Few V) → Can (Few W) → Can (Few (λ v. V v ⊎ W v))
can_both V W a b none = a (λ f. b (λ g. none (few_both itself V W f g)))

few_unreached : (tb : Table) (i t : ℕ) (before : List K.Pattern) (qs : List T.Pattern) → Few (SomeUnreached tb i t before qs)
few_unreached tb i t before [] = few_none itself
few_unreached tb i t before (q ∷ qs) =
    few_both itself (Unreached tb i (pattern_place q) t before (bare q)) (SomeUnreached tb i t (before ++ bare q ∷ []) qs)
    (few_of itself (Unreached tb i (pattern_place q) t before (bare q)) (λ v. v ≡ violation E41 (pattern_place q) i 0 []) (λ v h. h.1) (few_one itself (violation E41 (pattern_place q) i 0 [])))
    (few_unreached tb i t (before ++ bare q ∷ []) qs)

-- one missing pattern at the most
few_uncovered : (tb : Table) (i : ℕ) (p : Place) (t : ℕ) (rows : List K.Pattern) → Can (Few (Uncovered tb i p t rows))
few_uncovered tb i p t rows none = either ((v : Violation) × Uncovered tb i p t rows v) (λ e. none (by e))
  where
    by : ((v : Violation) × Uncovered tb i p t rows v) ⊎ (((v : Violation) × Uncovered tb i p t rows v) → ⊥) → Few (Uncovered tb i p t rows)
    by (inr never) = ([], λ v h. never (v, h))
    by (inl (w, k)) = (
      w ∷ [],
      λ v h.
          let same : h.1 ≡ k.1 = one tb t rows (λ k. k) t rows h.1 k.1 h.2 k.2 in
          inl (h.3 ∙ ap (λ q. violation E40 p i 0 (pattern_text tb q)) same ∙ sym k.3),
    )

few_match : (tb : Table) (i : ℕ) (m : Match) → Can (Few (R.Breaks tb i m))
few_match tb i m = can_both (SomeUnreached tb i m.ty [] m.patterns) (Uncovered tb i m.place m.ty (rows_of m)) (λ none. none (few_unreached tb i m.ty [] m.patterns)) (few_uncovered tb i m.place m.ty (rows_of m))

few_matches : (tb : Table) (i : ℕ) (ms : List Match) → Can (Few (SomeBreaks tb i ms))
few_matches tb i [] none = none (few_none itself)
few_matches tb i (m ∷ ms) none = can_both (R.Breaks tb i m) (SomeBreaks tb i ms) (few_match tb i m) (few_matches tb i ms) none

pub few_covering : (tb : Table) (i : ℕ) (ds : List Instance) → Can (Few (CoverFault tb i ds))
few_covering tb i [] none = none (few_none itself)
few_covering tb i (d ∷ ds) none =
    can_both (SomeBreaks tb i (matches_block d.body)) (CoverFault tb (suc i) ds) (few_matches tb i (matches_block d.body)) (few_covering tb (suc i) ds) none

-- ---- where there is none

module _ (tb : Table) (tidy : IsTidy tb) where
  are_reached : (i t : ℕ) (before : List K.Pattern) (qs : List T.Pattern) → ((v : Violation) → SomeUnreached tb i t before qs v → ⊥) → Can (AreReached tb t before qs)
  are_reached i t before [] never none = none tt
  are_reached i t before (q ∷ qs) never none =
      either (Reached tb t before (bare q)) (λ e. are_reached i t (before ++ bare q ∷ []) qs (λ v h. never v (inr h)) (λ rest. by e rest))
    where
      by : Reached tb t before (bare q) ⊎ (Reached tb t before (bare q) → ⊥) → AreReached tb t (before ++ bare q ∷ []) qs → ⊥
      by (inl h) rest = none (h, rest)
      by (inr never_reached) rest = never (violation E41 (pattern_place q) i 0 []) (inl (never_reached, refl))

  all_fit : (i : ℕ) (p : Place) (t : ℕ) (rows : List K.Pattern) → row_nodes rows < 2 ^ 63 → ((v : Violation) → Uncovered tb i p t rows v → ⊥) → AllFit tb t rows
  all_fit i p t rows few never v h = by (some_fits rows v) refl
    where
      by : (b : Bool) → some_fits rows v ≡ b → some_fits rows v ≡ true
      by true e = e
      by false e = absurd (missing_found tb t rows tidy few (v, h, e) (λ q. never (violation E40 p i 0 (pattern_text tb q.0)) ((v, h, e), q.0, q.1, refl)))

  is_covered : (i : ℕ) (m : Match) → IsSmall m → ((v : Violation) → R.Breaks tb i m v → ⊥) → Can (IsCovered tb m)
  is_covered i m small never none =
      are_reached i m.ty [] m.patterns (λ v h. never v (inl h)) (λ reached. none (reached, all_fit i m.place m.ty (rows_of m) small (λ v h. never v (inr h))))

  are_covered : (i : ℕ) (ms : List Match) → AreSmall ms → ((v : Violation) → SomeBreaks tb i ms v → ⊥) → Can (AreCovered tb ms)
  are_covered i [] small never none = none tt
  are_covered i (m ∷ ms) small never none =
      is_covered i m small.0 (λ v h. never v (inl h)) (λ first. are_covered i ms small.1 (λ v h. never v (inr h)) (λ rest. none (first, rest)))

  all_covered : (i : ℕ) (ds : List Instance) → AllSmall ds → ((v : Violation) → CoverFault tb i ds v → ⊥) → Can (AllCovered tb ds)
  all_covered i [] small never none = none tt
  all_covered i (d ∷ ds) small never none =
      are_covered i (matches_block d.body) small.0 (λ v h. never v (inl h)) (λ first. all_covered (suc i) ds small.1 (λ v h. never v (inr h)) (λ rest. none (first, rest)))

  pub right : (ds : List Instance) → AllSmall ds → ((v : Violation) → CoverFault tb 0 ds v → ⊥) → Can (IsRight tb ds)
  right ds small never none = all_covered 0 ds small never (λ all. none (record { covered = all; unbroken = never }))
