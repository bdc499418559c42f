-- Steps of the walks that note E40 and E41.
use Rattle.std.proofs.Common.{◌≡◌, ℕ, zero, suc, ◌+◌, ◌<◌, ◌≤◌, ◌^◌, List, [], ◌∷◌, ◌++◌, map, drop, length, get_or, Option, Some, None, Bool, true, false, refl, sym, ap, ◌∙◌, subst, arith, append_assoc}
use Rattle.std.specs.Prelude.{Result, Ok, Err, OnOk, nat_lt, ◌||◌, if◌then◌else◌, option_map}
use Rattle.std.proofs.lemmas.Bool.Decides.{nat_tests}
use Rattle.fip_language.specs.declared.Place.{Place}
use Rattle.fip_language.specs.declared.rule.Rule.TheVariants.{E40, E41, E43}
use Rattle.fip_language.specs.Table.{Table}
use Rattle.fip_base.specs.declared.plain.NoMemory.{NoMemory}
use Rattle.fip_trees.specs.declared.least.Violation.{Violation}
use Rattle.fip_trees.specs.declared.program.Clause.{Clause}
use Rattle.fip_trees.specs.declared.program.Instance.{Instance}
use Rattle.fip_trees.specs.declared.program.Pattern.{Pattern as Named}
use Rattle.fip_base.specs.declared.refusal.Refusal.{Refusal}
use Rattle.fip_language.specs.declared.limits.TheConstants.{MOST_CLAUSES}
use Rattle.fip_trees.specs.Least.{violation, better, after, refusal, IsLeast}
use Rattle.fip_trees.proofs.Leasts.{none_of, least_of}
use Rattle.match_knowledge.specs.ValueHeads.{IsTidy}
use Rattle.match_knowledge.specs.Patterns.{Pattern, Any, Test, Patterns, NoPatterns, MorePatterns, some_fits, nodes, nodes_all, row_nodes}
use Rattle.match_knowledge.specs.Left.{IsMatch, Missed, Reached, AnswersMissed, AnswersReached}
use Rattle.match_cover.specs.declared.matches.Found.{Found}
use Rattle.match_cover.specs.FoundView.{found_match, found_matches}
use Rattle.match_cover.specs.Matches.{Match, rows_of, block_matches}
use Rattle.match_cover.specs.MissingView.{SaysMissing}
use Rattle.match_cover.specs.PatternText.{pattern_text}
use Rattle.match_cover.specs.PatternView.{erased, pattern_of, pattern_place, pattern_nodes, parts_nodes}
use Rattle.match_cover.specs.Shapes.{total_nodes, is_large, size_faults, patterns_faults, matches_faults, lets_faults, body_faults, shape_faults}
use Rattle.match_cover.specs.Answers.{IsRight, IsLeastCoverFault}
use Rattle.match_cover.specs.Lets.{block_lets}
use Rattle.match_cover.specs.Coverage.{Unreached, SomeUnreached, Uncovered, Breaks, SomeBreaks, CoverFault, AreReached, AllFit, IsCovered, AreCovered, AllCovered, IsTypedMatch, AreTypedMatches, AreTypedBodies, IsReady}
use Rattle.match_cover.specs.Gathered.{Gathers, AreMatches, AllMatches, NotesRow, NotesClause, NotesClauses, NotesMissed, NotesMatch, NotesAll, NotesBodies, ClausesDone, MatchesDone, BodiesDone}
use Rattle.match_cover.proofs.Gather.{gathers_none, gathers_one, gathers_more, match_front, match_last, both_empty, no_one, none_gathered, least_gathered}
use Rattle.match_cover.proofs.MatchSteps.{drop_first, drop_end}
use Rattle.match_cover.proofs.OneMissing.{one}
use Rattle.fip_language.proofs.Facts.{append_nil as append_none}

-- ---- one clause

pub row_reached : (tb : Table) (i : ℕ) (before : List Pattern) (at : Place) (q : Pattern) (b : Bool) (o : Option Violation) → AnswersReached tb before q b → b ≡ true → NotesRow tb i before at q o o
row_reached tb i before at q b o a e t m =
    let reports = a t (match_front tb t before (q ∷ []) m) (match_last tb t before q m) in
    gathers_none o (Unreached tb i at t before q) (Reached tb t before q) (λ v h. h.0 (reports.0 e)) (reports.0 e)

pub row_unreached : (r : Result (Unit {0}) NoMemory) (tb : Table) (i : ℕ) (before : List Pattern) (at : Place) (q : Pattern) (b : Bool) (o p : Option Violation) → AnswersReached tb before q b → b ≡ false → OnOk r (p ≡ better o (violation E41 at i 0 [])) → OnOk r (NotesRow tb i before at q o p)
row_unreached (Err x) tb i before at q b o p a e n = tt
row_unreached (Ok x) tb i before at q b o p a e n = λ t m.
    let reports = a t (match_front tb t before (q ∷ []) m) (match_last tb t before q m) in
    gathers_one o p (violation E41 at i 0 []) (Unreached tb i at t before q) (Reached tb t before q) n (reports.1 e, refl) (λ v h. h.1)

-- ---- the clauses of a match

pub clauses_next : (tb : Table) (i : ℕ) (before now now' : List Pattern) (qs : List Named) (cs : List Clause) (n : ℕ) (c : Clause) (o p p' : Option Violation) → n < length cs → c ≡ get_or cs n c →
    now ++ map erased (map pattern_of (drop n cs)) ≡ before ++ map erased qs → now' ≡ now ++ erased (pattern_of c) ∷ [] → NotesClause tb i now (pattern_of c) p p' →
    ClausesDone tb i before qs now (map pattern_of (drop n cs)) o p → ClausesDone tb i before qs now' (map pattern_of (drop (n + 1) cs)) o p'
clauses_next tb i before now now' qs cs n c o p p' l g e w s d t m r k =
    let q = pattern_of c in
    let rest = map pattern_of (drop (n + 1) cs) in
    let at : map pattern_of (drop n cs) ≡ q ∷ rest = ap (map pattern_of) (drop_first cs n c l g) in
    let all : (now ++ erased q ∷ []) ++ map erased rest ≡ before ++ map erased qs = append_assoc now (erased q ∷ []) (map erased rest) ∙ ap (λ z. now ++ map erased z) (sym at) ∙ e in
    let front = match_front tb t (now ++ erased q ∷ []) (map erased rest) (subst (IsMatch tb t) (sym all) m) in
    let later = subst (λ z. Gathers p' r (SomeUnreached tb i t z rest) (AreReached tb t z rest)) w k in
    d t m r (subst (λ z. Gathers p r (SomeUnreached tb i t now z) (AreReached tb t now z)) (sym at)
    (gathers_more p p' r (Unreached tb i (pattern_place q) t now (erased q)) (SomeUnreached tb i t (now ++ erased q ∷ []) rest) (Reached tb t now (erased q)) (AreReached tb t (now ++ erased q ∷ []) rest) (s t front) later))

pub rows_next : (now now' z : List Pattern) (cs : List Clause) (n : ℕ) (c : Clause) → n < length cs → c ≡ get_or cs n c → now' ≡ now ++ erased (pattern_of c) ∷ [] → now ++ map erased (map pattern_of (drop n cs)) ≡ z → now' ++ map erased (map pattern_of (drop (n + 1) cs)) ≡ z
rows_next now now' z cs n c l g w e =
    let rest = map erased (map pattern_of (drop (n + 1) cs)) in
    ap (λ x. x ++ rest) w ∙ append_assoc now (erased (pattern_of c) ∷ []) rest ∙ ap (λ x. now ++ map erased (map pattern_of x)) (sym (drop_first cs n c l g)) ∙ e

pub rows_end : (now z : List Pattern) (cs : List Clause) (n : ℕ) → length cs ≤ n → now ++ map erased (map pattern_of (drop n cs)) ≡ z → now ≡ z
rows_end now z cs n l e = sym (append_none now) ∙ ap (λ x. now ++ map erased (map pattern_of x)) (sym (drop_end cs n l)) ∙ e

pub clauses_end : (tb : Table) (i : ℕ) (before now : List Pattern) (qs : List Named) (cs : List Clause) (n : ℕ) (o p : Option Violation) → length cs ≤ n → ClausesDone tb i before qs now (map pattern_of (drop n cs)) o p → NotesClauses tb i before qs o p
clauses_end tb i before now qs cs n o p l d t m =
    d t m p (subst (λ z. Gathers p p (SomeUnreached tb i t now (map pattern_of z)) (AreReached tb t now (map pattern_of z))) (sym (drop_end cs n l)) (gathers_none p (SomeUnreached tb i t now []) (AreReached tb t now []) (λ v h. h) tt))

-- ---- missed values

all_fit : (tb : Table) (t : ℕ) (rows : List Pattern) → (Missed tb t rows → ⊥) → AllFit tb t rows
all_fit tb t rows f v h = step (some_fits rows v) refl where
  step : (b : Bool) → some_fits rows v ≡ b → some_fits rows v ≡ true
  step true e = e
  step false e = absurd (f (v, h, e))

pub none_missed : (tb : Table) (i : ℕ) (at : Place) (t : ℕ) (rows : List Pattern) (b : Bool) (o : Option Violation) → AnswersMissed tb rows b → b ≡ false → NotesMissed tb i at t rows o o
none_missed tb i at t rows b o a e m =
    let reports = a t m in
    gathers_none o (Uncovered tb i at t rows) (AllFit tb t rows) (λ v h. reports.1 e h.0) (all_fit tb t rows (reports.1 e))

pub some_missed : (r : Result (Unit {0}) NoMemory) (tb : Table) (i : ℕ) (at : Place) (t : ℕ) (rows : List Pattern) (b : Bool) (text : List ℕ) (o p : Option Violation) → AnswersMissed tb rows b → b ≡ true → SaysMissing tb t rows text → OnOk r (p ≡ better o (violation E40 at i 0 text)) → OnOk r (NotesMissed tb i at t rows o p)
some_missed (Err x) tb i at t rows b text o p a e s n = tt
some_missed (Ok x) tb i at t rows b text o p a e s n = λ m.
    let miss = (a t m).0 e in
    let found = s m miss in
    let q = found.0 in
    gathers_one o p (violation E40 at i 0 (pattern_text tb q)) (Uncovered tb i at t rows) (AllFit tb t rows)
    (n ∙ ap (λ z. better o (violation E40 at i 0 z)) found.2)
    (miss, q, found.1, refl)
    (λ v h. h.3 ∙ ap (λ z. violation E40 at i 0 (pattern_text tb z)) (one tb t rows (λ k. k) t rows h.1 q h.2 found.1))

-- ---- a match

pub match_noted : (r : Result (Unit {0}) NoMemory) (tb : Table) (i : ℕ) (f : Found) (rows0 rows1 rows2 : List Pattern) (o p1 p2 p3 : Option Violation) → rows0 ≡ [] → rows1 ≡ rows0 ++ erased (pattern_of f.first.now) ∷ [] → rows2 ≡ rows1 ++ map erased (map pattern_of f.others.now) →
    NotesClause tb i rows0 (pattern_of f.first.now) o p1 → NotesClauses tb i rows1 (map pattern_of f.others.now) p1 p2 → OnOk r (NotesMissed tb i f.place f.ty rows2 p2 p3) → OnOk r (NotesMatch tb i (found_match f) o p3)
match_noted (Err x) tb i f rows0 rows1 rows2 o p1 p2 p3 e0 e1 e2 a b c = tt
match_noted (Ok x) tb i f rows0 rows1 rows2 o p1 p2 p3 e0 e1 e2 a b c = λ m.
    let q = pattern_of f.first.now in
    let qs = map pattern_of f.others.now in
    let t = f.ty in
    let row : List Pattern = erased q ∷ [] in
    let d1 : rows1 ≡ row = e1 ∙ ap (λ z. z ++ row) e0 in
    let d2 : rows2 ≡ row ++ map erased qs = e2 ∙ ap (λ z. z ++ map erased qs) d1 in
    let one_first = subst (λ z. NotesClause tb i z q o p1) e0 a in
    let others = subst (λ z. NotesClauses tb i z qs p1 p2) d1 b in
    let last = subst (λ z. NotesMissed tb i f.place t z p2 p3) d2 c in
    gathers_more o p2 p3 (SomeUnreached tb i t [] (q ∷ qs)) (Uncovered tb i f.place t (row ++ map erased qs)) (AreReached tb t [] (q ∷ qs)) (AllFit tb t (row ++ map erased qs))
    (gathers_more o p1 p2 (Unreached tb i (pattern_place q) t [] (erased q)) (SomeUnreached tb i t row qs) (Reached tb t [] (erased q)) (AreReached tb t row qs)
    (one_first t (match_front tb t row (map erased qs) m)) (others t m))
    (last m)

-- ---- all matches of a body

pub matches_next : (tb : Table) (i : ℕ) (ms : List Match) (fs : List Found) (n : ℕ) (f : Found) (o p p' : Option Violation) → n < length fs → f ≡ get_or fs n f → NotesMatch tb i (found_match f) p p' → MatchesDone tb i ms (found_matches (drop n fs)) o p → MatchesDone tb i ms (found_matches (drop (n + 1) fs)) o p'
matches_next tb i ms fs n f o p p' l g s d a =
    let rest = found_matches (drop (n + 1) fs) in
    let at : found_matches (drop n fs) ≡ found_match f ∷ rest = ap found_matches (drop_first fs n f l g) in
    let before = d a in
    let these = subst (AreMatches tb) at before.0 in (
      these.1,
      λ r k. before.1 r (subst (λ z. Gathers p r (SomeBreaks tb i z) (AreCovered tb z)) (sym at)
          (gathers_more p p' r (Breaks tb i (found_match f)) (SomeBreaks tb i rest) (IsCovered tb (found_match f)) (AreCovered tb rest) (s these.0) k)),
    )

pub matches_end : (tb : Table) (i : ℕ) (ms : List Match) (fs : List Found) (n : ℕ) (o p : Option Violation) → length fs ≤ n → MatchesDone tb i ms (found_matches (drop n fs)) o p → NotesAll tb i ms o p
matches_end tb i ms fs n o p l d a =
    (d a).1 p (subst (λ z. Gathers p p (SomeBreaks tb i (found_matches z)) (AreCovered tb (found_matches z))) (sym (drop_end fs n l)) (gathers_none p (SomeBreaks tb i []) (AreCovered tb []) (λ v h. h) tt))

-- ---- all bodies

pub bodies_next : (tb : Table) (ds : List Instance) (n : ℕ) (d : Instance) (o p p' : Option Violation) → n < length ds → d ≡ get_or ds n d → NotesAll tb n (block_matches d.body) p p' → BodiesDone tb ds n (drop n ds) o p → BodiesDone tb ds (n + 1) (drop (n + 1) ds) o p'
bodies_next tb ds n d o p p' l g s done a =
    let rest = drop (n + 1) ds in
    let at : drop n ds ≡ d ∷ rest = drop_first ds n d l g in
    let next : n + 1 ≡ suc n = omega arith in
    let before = done a in
    let these = subst (AllMatches tb) at before.0 in (
      these.1,
      λ r k. before.1 r (subst (λ z. Gathers p r (CoverFault tb n z) (AllCovered tb z)) (sym at)
          (gathers_more p p' r (SomeBreaks tb n (block_matches d.body)) (CoverFault tb (suc n) rest) (AreCovered tb (block_matches d.body)) (AllCovered tb rest) (s these.0)
          (subst (λ z. Gathers p' r (CoverFault tb z rest) (AllCovered tb rest)) next k))),
    )

pub bodies_end : (tb : Table) (ds : List Instance) (n : ℕ) (o p : Option Violation) → length ds ≤ n → BodiesDone tb ds n (drop n ds) o p → NotesBodies tb 0 ds o p
bodies_end tb ds n o p l done a =
    (done a).1 p (subst (λ z. Gathers p p (CoverFault tb n z) (AllCovered tb z)) (sym (drop_end ds n l)) (gathers_none p (CoverFault tb n []) (AllCovered tb []) (λ v h. h) tt))

-- ---- typed matches that aren't too large

mutual
  few_nodes : (p : Pattern) → nodes p ≤ pattern_nodes p
  few_nodes Any = omega arith
  few_nodes (Test t h ps) = let r = few_parts ps in omega arith

  few_parts : (ps : Patterns) → nodes_all ps ≤ parts_nodes ps
  few_parts NoPatterns = omega arith
  few_parts (MorePatterns p ps) = let a = few_nodes p in let b = few_parts ps in omega arith

few_rows : (ps : List Pattern) → row_nodes ps ≤ total_nodes ps
few_rows [] = omega arith
few_rows (p ∷ ps) = let a = few_nodes p in let b = few_rows ps in omega arith

small_total : (b : Bool) (n : ℕ) → (b || nat_lt 256 n) ≡ false → n < 2 ^ 63
small_total true n e = cc
small_total false n e = let l = not_less e in omega arith where
  not_less : nat_lt 256 n ≡ false → n ≤ 256
  not_less e = grind (arith, nat_tests)

not_large : (i : ℕ) (m : Match) → size_faults i m ≡ [] → is_large (rows_of m) ≡ false
not_large i m e = step (is_large (rows_of m)) e where
  step : (b : Bool) → (if b then violation E43 m.place i 0 [] ∷ [] else []) ≡ [] → b ≡ false
  step true e = absurd (no_one (violation E43 m.place i 0 []) [] e)
  step false e = refl

is_match : (tb : Table) (i : ℕ) (m : Match) → IsTidy tb → IsTypedMatch tb m → size_faults i m ≡ [] → IsMatch tb m.ty (rows_of m)
is_match tb i m y h e = record {
  tidy = y;
  inhabited = h.inhabited;
  typed = h.typed;
  few = let s = small_total (nat_lt MOST_CLAUSES (length (rows_of m))) (total_nodes (rows_of m)) (not_large i m e) in let f = few_rows (rows_of m) in omega arith;
}

are_matches : (tb : Table) (i : ℕ) (ms : List Match) → IsTidy tb → AreTypedMatches tb ms → matches_faults i ms ≡ [] → AreMatches tb ms
are_matches tb i [] y h e = tt
are_matches tb i (m ∷ ms) y h e =
    let a = both_empty (size_faults i m) (patterns_faults i m.clauses ++ matches_faults i ms) e in
    let b = both_empty (patterns_faults i m.clauses) (matches_faults i ms) a.1 in
    (is_match tb i m y h.0 a.0, are_matches tb i ms y h.1 b.1)

all_matches : (tb : Table) (i : ℕ) (ds : List Instance) → IsTidy tb → AreTypedBodies tb ds → shape_faults i ds ≡ [] → AllMatches tb ds
all_matches tb i [] y h e = tt
all_matches tb i (d ∷ ds) y h e =
    let a = both_empty (body_faults i d.body) (shape_faults (suc i) ds) e in
    let b = both_empty (matches_faults i (block_matches d.body)) (lets_faults i (block_lets d.body)) a.0 in
    (are_matches tb i (block_matches d.body) y h.0 b.0, all_matches tb (suc i) ds y h.1 a.1)

-- ---- the answers

pub covered : (tb : Table) (ds : List Instance) (o p : Option Violation) → NotesBodies tb 0 ds o p → o ≡ None → option_map refusal p ≡ None → shape_faults 0 ds ≡ [] → IsReady tb ds → IsRight tb ds
covered tb ds o None n a b e r =
    let g = none_gathered o None (CoverFault tb 0 ds) (AllCovered tb ds) (n (all_matches tb 0 ds r.tidy r.typed e)) a refl in
    record { covered = g.0; unbroken = g.1 }
covered tb ds o (Some v) n a b e r = absurd (cc)

pub not_covered : (tb : Table) (ds : List Instance) (o p : Option Violation) (r : Refusal) → NotesBodies tb 0 ds o p → o ≡ None → option_map refusal p ≡ Some r → shape_faults 0 ds ≡ [] → IsReady tb ds → (v : Violation) × IsLeastCoverFault tb ds v × (r ≡ refusal v)
not_covered tb ds o None r n a b e h = absurd (cc)
not_covered tb ds o (Some v) r n a b e h =
    let g = least_gathered o (Some v) v (CoverFault tb 0 ds) (AllCovered tb ds) (n (all_matches tb 0 ds h.tidy h.typed e)) a refl in
    (v, record { violated = g.0; least = g.1 }, cc)

pub shapes_refused : (ds : List Instance) (o : Option Violation) (r : Refusal) → o ≡ after None (shape_faults 0 ds) → option_map refusal o ≡ Some r → (v : Violation) × IsLeast (shape_faults 0 ds) v × (r ≡ refusal v)
shapes_refused ds None r h g = absurd (cc)
shapes_refused ds (Some v) r h g = (v, least_of (shape_faults 0 ds) v (sym h), cc)

pub shapes_accepted : (ds : List Instance) (o : Option Violation) → o ≡ after None (shape_faults 0 ds) → option_map refusal o ≡ None → shape_faults 0 ds ≡ []
shapes_accepted ds None h g = none_of (shape_faults 0 ds) (sym h)
shapes_accepted ds (Some v) h g = absurd (cc)
