-- All matches of a program are covered and all their clauses are reached, by computation.
use Rattle.std.proofs.Common.{◌≡◌, ◌⊎◌, inl, inr, ℕ, suc, Bool, true, false, ◌&&◌, List, [], ◌∷◌, ◌++◌}
use Rattle.std.proofs.lemmas.Bool.{and_parts}
use Rattle.source_report.specs.fip_language.Table.{Table}
use Rattle.source_report.specs.fip_trees.Tree.{Pattern, Instance}
use Rattle.source_report.specs.fip_trees.declared.least.Violation.{Violation}
use Rattle.source_report.specs.match_knowledge.Patterns as K
use Rattle.source_report.specs.match_knowledge.Unmatched.{Missed}
use Rattle.source_report.specs.match_cover.MatchFaults.{AllFit}
use Rattle.source_report.specs.TreeMatches.{bare, Match, matches_block}
use Rattle.source_report.specs.MatchRules.{rows_of, SomeUnreached, Breaks, SomeBreaks, CoverFault, AreReached, IsCovered, AreCovered, AllCovered, IsRight}
use Rattle.library_texts.proofs.Covering.{covers_all, all_fit, reaches, is_reached}

abbrev all_reached : Table → ℕ → List K.Pattern → List Pattern → Bool
all_reached tb t before [] = true
all_reached tb t before (q ∷ qs) = reaches tb t before (bare q) && all_reached tb t (before ++ bare q ∷ []) qs

abbrev is_right : Table → Match → Bool
is_right tb m = all_reached tb m.ty [] m.patterns && covers_all tb m.ty (rows_of m)

abbrev are_right : Table → List Match → Bool
are_right tb [] = true
are_right tb (m ∷ ms) = is_right tb m && are_right tb ms

abbrev pub all_right : Table → List Instance → Bool
all_right tb [] = true
all_right tb (d ∷ ds) = are_right tb (matches_block d.body) && all_right tb ds

are_reached : (tb : Table) (t : ℕ) (before : List K.Pattern) (qs : List Pattern) → all_reached tb t before qs ≡ true → AreReached tb t before qs
are_reached tb t before [] h = tt
are_reached tb t before (q ∷ qs) h =
    let parts = and_parts (reaches tb t before (bare q)) (all_reached tb t (before ++ bare q ∷ []) qs) h in
    (is_reached tb t before (bare q) parts.0, are_reached tb t (before ++ bare q ∷ []) qs parts.1)

is_covered : (tb : Table) (m : Match) → is_right tb m ≡ true → IsCovered tb m
is_covered tb m h =
    let parts = and_parts (all_reached tb m.ty [] m.patterns) (covers_all tb m.ty (rows_of m)) h in
    (are_reached tb m.ty [] m.patterns parts.0, all_fit tb m.ty (rows_of m) parts.1)

are_covered : (tb : Table) (ms : List Match) → are_right tb ms ≡ true → AreCovered tb ms
are_covered tb [] h = tt
are_covered tb (m ∷ ms) h = let parts = and_parts (is_right tb m) (are_right tb ms) h in (is_covered tb m parts.0, are_covered tb ms parts.1)

all_covered : (tb : Table) (ds : List Instance) → all_right tb ds ≡ true → AllCovered tb ds
all_covered tb [] h = tt
all_covered tb (d ∷ ds) h =
    let parts = and_parts (are_right tb (matches_block d.body)) (all_right tb ds) h in
    (are_covered tb (matches_block d.body) parts.0, all_covered tb ds parts.1)

-- ---- what is covered breaks no rule

none_unreached : (tb : Table) (i t : ℕ) (before : List K.Pattern) (qs : List Pattern) (v : Violation) → AreReached tb t before qs → SomeUnreached tb i t before qs v → ⊥
none_unreached tb i t before [] v r h = h
none_unreached tb i t before (q ∷ qs) v r (inl h) = h.0 r.0
none_unreached tb i t before (q ∷ qs) v r (inr h) = none_unreached tb i t (before ++ bare q ∷ []) qs v r.1 h

none_missed : (tb : Table) (t : ℕ) (rows : List K.Pattern) → AllFit tb t rows → Missed tb t rows → ⊥
none_missed tb t rows f (v, h, e) = let fits = f v h in cc

none_broken : (tb : Table) (i : ℕ) (ms : List Match) (v : Violation) → AreCovered tb ms → SomeBreaks tb i ms v → ⊥
none_broken tb i [] v c h = h
none_broken tb i (m ∷ ms) v c (inl (inl h)) = none_unreached tb i m.ty [] m.patterns v c.0.0 h
none_broken tb i (m ∷ ms) v c (inl (inr h)) = none_missed tb m.ty (rows_of m) c.0.1 h.0
none_broken tb i (m ∷ ms) v c (inr h) = none_broken tb i ms v c.1 h

no_fault : (tb : Table) (i : ℕ) (ds : List Instance) (v : Violation) → AllCovered tb ds → CoverFault tb i ds v → ⊥
no_fault tb i [] v c h = h
no_fault tb i (d ∷ ds) v c (inl h) = none_broken tb i (matches_block d.body) v c.0 h
no_fault tb i (d ∷ ds) v c (inr h) = no_fault tb (suc i) ds v c.1 h

pub matches_right : (tb : Table) (ds : List Instance) → all_right tb ds ≡ true → IsRight tb ds
matches_right tb ds h = let c = all_covered tb ds h in record { covered = c; unbroken = λ v. no_fault tb 0 ds v c }
