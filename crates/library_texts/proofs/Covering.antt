-- Whether the rows of a match match each value, and whether each row is reached, by computation: the first column is
-- taken apart by the constructors of its type, and a row is reached by a sample of what it matches.
use Rattle.std.proofs.Common.{◌≡◌, ◌<◌, ℕ, zero, suc, ◌+◌, Bool, true, false, ◌&&◌, ◌||◌, not, ◌==◌, if◌then◌else◌, List, [], ◌∷◌, ◌++◌, Option, Some, None, ℤ, pos, negsuc, refl, sym, ap, subst, ◌∙◌, arith}
use Rattle.std.specs.Prelude.{slice_get, is_some, nat_lt, FitsSigned}
use Rattle.std.specs.Int.{w64}
use Rattle.std.proofs.lemmas.Bool.{and_parts}
use Rattle.std.proofs.lemmas.Bool.Decides.{nat_tests}
use Rattle.std.proofs.lemmas.Option.{none-some, same_Some}
use Rattle.source_report.specs.fip_language.Values.{Value, Int, Node, Values, End, More}
use Rattle.source_report.specs.fip_language.Table.{Shape, Table, shapes, constructors, HasType, HaveTypes}
use Rattle.source_report.specs.match_knowledge.declared.heads.Head.TheVariants.{Number, Tag}
use Rattle.source_report.specs.match_knowledge.Patterns.{Pattern, Any, Test, Patterns, NoPatterns, MorePatterns, fits, fit_all, some_fits}
use Rattle.source_report.specs.match_knowledge.Unmatched.{Reached}
use Rattle.source_report.specs.match_cover.MatchFaults.{AllFit}

-- ---- rows of patterns for several values

abbrev joined : Patterns → Patterns → Patterns
joined NoPatterns qs = qs
joined (MorePatterns p ps) qs = MorePatterns p (joined ps qs)

abbrev all_any : List ℕ → Patterns
all_any [] = NoPatterns
all_any (f ∷ fs) = MorePatterns Any (all_any fs)

abbrev as_many : List ℕ → Patterns → Bool
as_many [] NoPatterns = true
as_many [] (MorePatterns p ps) = false
as_many (f ∷ fs) NoPatterns = false
as_many (f ∷ fs) (MorePatterns p ps) = as_many fs ps

abbrev some_row : List Patterns → Values → Bool
some_row [] vs = false
some_row (r ∷ rs) vs = if fit_all r vs then true else some_row rs vs

-- the rows where the first value is a node of this constructor, with patterns for its fields in place of the first
abbrev with_head : ℕ → List ℕ → Patterns → List Patterns → List Patterns
with_head c fs NoPatterns rest = rest
with_head c fs (MorePatterns Any ps) rest = joined (all_any fs) ps ∷ rest
with_head c fs (MorePatterns (Test t (Number i) qs) ps) rest = rest
with_head c fs (MorePatterns (Test t (Tag d) qs) ps) rest = if (d == c) && as_many fs qs then joined qs ps ∷ rest else rest

abbrev rows_with : ℕ → List ℕ → List Patterns → List Patterns
rows_with c fs [] = []
rows_with c fs (r ∷ rs) = with_head c fs r (rows_with c fs rs)

-- the rows whose first pattern matches all, without it
abbrev if_any : Patterns → List Patterns → List Patterns
if_any NoPatterns rest = rest
if_any (MorePatterns Any ps) rest = ps ∷ rest
if_any (MorePatterns (Test t h qs) ps) rest = rest

abbrev rows_any : List Patterns → List Patterns
rows_any [] = []
rows_any (r ∷ rs) = if_any r (rows_any rs)

abbrev tests_one : Patterns → Bool
tests_one NoPatterns = false
tests_one (MorePatterns Any ps) = false
tests_one (MorePatterns (Test t h qs) ps) = true

abbrev tests_first : List Patterns → Bool
tests_first [] = false
tests_first (r ∷ rs) = tests_one r || tests_first rs

abbrev each_shape : ℕ → List Shape → (ℕ → List ℕ → Bool) → Bool
each_shape c [] go = true
each_shape c (s ∷ ss) go = go c s.fields && each_shape (suc c) ss go

abbrev by_type : Table → ℕ → List ℕ → List Patterns → (List ℕ → List Patterns → Bool) → Bool
by_type tb zero ts rows go = go ts (rows_any rows)
by_type tb (suc t) ts rows go = each_shape 0 (shapes tb t) (λ c fs. go (fs ++ ts) (rows_with c fs rows))

-- each list of values of these types is matched by a row; at most so many columns are looked at
abbrev covers : ℕ → Table → List ℕ → List Patterns → Bool
covers n tb [] rows = some_row rows End
covers zero tb (t ∷ ts) rows = false
covers (suc n) tb (t ∷ ts) rows = if tests_first rows then by_type tb t ts rows (covers n tb) else covers n tb ts (rows_any rows)

-- ---- that it is so

either : (a b c d : Bool) → a ≡ b → (if a then true else c) ≡ true → (c ≡ true → d ≡ true) → (if b then true else d) ≡ true
either a true c d e h k = refl
either true false c d e h k = absurd (cc)
either false false c d e h k = k h

or_else : (b d : Bool) → d ≡ true → (if b then true else d) ≡ true
or_else true d h = refl
or_else false d h = h

and_assoc : (a b c : Bool) → (a && (b && c)) ≡ ((a && b) && c)
and_assoc true b c = refl
and_assoc false b c = refl

abbrev before : Values → Values → Values
before End vs = vs
before (More w ws) vs = More w (before ws vs)

types_before : (tb : Table) (fs ts : List ℕ) (ws vs : Values) → HaveTypes tb fs ws → HaveTypes tb ts vs → HaveTypes tb (fs ++ ts) (before ws vs)
types_before tb [] ts End vs h k = k
types_before tb [] ts (More w ws) vs h k = absurd h
types_before tb (f ∷ fs) ts End vs h k = absurd h
types_before tb (f ∷ fs) ts (More w ws) vs h k = (h.0, types_before tb fs ts ws vs h.1 k)

any_fits : (tb : Table) (fs : List ℕ) (ps : Patterns) (ws vs : Values) → HaveTypes tb fs ws → fit_all (joined (all_any fs) ps) (before ws vs) ≡ fit_all ps vs
any_fits tb [] ps End vs h = refl
any_fits tb [] ps (More w ws) vs h = absurd h
any_fits tb (f ∷ fs) ps End vs h = absurd h
any_fits tb (f ∷ fs) ps (More w ws) vs h = any_fits tb fs ps ws vs h.1

parts_fit : (tb : Table) (fs : List ℕ) (qs ps : Patterns) (ws vs : Values) → as_many fs qs ≡ true → HaveTypes tb fs ws → fit_all (joined qs ps) (before ws vs) ≡ (fit_all qs ws && fit_all ps vs)
parts_fit tb [] NoPatterns ps End vs e h = refl
parts_fit tb [] NoPatterns ps (More w ws) vs e h = absurd h
parts_fit tb [] (MorePatterns q qs) ps ws vs e h = absurd (cc)
parts_fit tb (f ∷ fs) NoPatterns ps ws vs e h = absurd (cc)
parts_fit tb (f ∷ fs) (MorePatterns q qs) ps End vs e h = absurd h
parts_fit tb (f ∷ fs) (MorePatterns q qs) ps (More w ws) vs e h =
    ap (λ b. fits q w && b) (parts_fit tb fs qs ps ws vs e h.1) ∙ and_assoc (fits q w) (fit_all qs ws) (fit_all ps vs)

head_row : (tb : Table) (c : ℕ) (fs : List ℕ) (r : Patterns) (rest rs : List Patterns) (ws vs : Values) → HaveTypes tb fs ws →
    (some_row rest (before ws vs) ≡ true → some_row rs (More (Node c ws) vs) ≡ true) →
    some_row (with_head c fs r rest) (before ws vs) ≡ true → some_row (r ∷ rs) (More (Node c ws) vs) ≡ true
head_row tb c fs NoPatterns rest rs ws vs t k h = k h
head_row tb c fs (MorePatterns Any ps) rest rs ws vs t k h =
    either (fit_all (joined (all_any fs) ps) (before ws vs)) (fit_all ps vs) (some_row rest (before ws vs)) (some_row rs (More (Node c ws) vs)) (any_fits tb fs ps ws vs t) h k
head_row tb c fs (MorePatterns (Test u (Number i) qs) ps) rest rs ws vs t k h = k h
head_row tb c fs (MorePatterns (Test u (Tag d) qs) ps) rest rs ws vs t k h = by (d == c) (as_many fs qs) refl h
  where
    by : (a m : Bool) → as_many fs qs ≡ m → some_row (if a && m then joined qs ps ∷ rest else rest) (before ws vs) ≡ true →
        (if (a && fit_all qs ws) && fit_all ps vs then true else some_row rs (More (Node c ws) vs)) ≡ true
    by true true e h =
        either (fit_all (joined qs ps) (before ws vs)) (fit_all qs ws && fit_all ps vs) (some_row rest (before ws vs)) (some_row rs (More (Node c ws) vs)) (parts_fit tb fs qs ps ws vs e t) h k
    by true false e h = or_else (fit_all qs ws && fit_all ps vs) (some_row rs (More (Node c ws) vs)) (k h)
    by false m e h = k h

rows_head : (tb : Table) (c : ℕ) (fs : List ℕ) (rs : List Patterns) (ws vs : Values) → HaveTypes tb fs ws →
    some_row (rows_with c fs rs) (before ws vs) ≡ true → some_row rs (More (Node c ws) vs) ≡ true
rows_head tb c fs [] ws vs t h = h
rows_head tb c fs (r ∷ rs) ws vs t h = head_row tb c fs r (rows_with c fs rs) rs ws vs t (rows_head tb c fs rs ws vs t) h

skip_row : (r : Patterns) (rest rs : List Patterns) (v : Value) (vs : Values) →
    (some_row rest vs ≡ true → some_row rs (More v vs) ≡ true) → some_row (if_any r rest) vs ≡ true → some_row (r ∷ rs) (More v vs) ≡ true
skip_row NoPatterns rest rs v vs k h = k h
skip_row (MorePatterns Any ps) rest rs v vs k h = either (fit_all ps vs) (fit_all ps vs) (some_row rest vs) (some_row rs (More v vs)) refl h k
skip_row (MorePatterns (Test u q qs) ps) rest rs v vs k h = or_else (fits (Test u q qs) v && fit_all ps vs) (some_row rs (More v vs)) (k h)

rows_skip : (rs : List Patterns) (v : Value) (vs : Values) → some_row (rows_any rs) vs ≡ true → some_row rs (More v vs) ≡ true
rows_skip [] v vs h = h
rows_skip (r ∷ rs) v vs h = skip_row r (rows_any rs) rs v vs (rows_skip rs v vs) h

one_shape : (n : ℕ) (ss : List Shape) (go : ℕ → List ℕ → Bool) → each_shape n ss go ≡ true → (c : ℕ) (s : Shape) → slice_get ss c ≡ Some s → go (n + c) s.fields ≡ true
one_shape n [] go h c s e = absurd (none-some s e)
one_shape n (x ∷ ss) go h zero s e =
    let parts = and_parts (go n x.fields) (each_shape (suc n) ss go) h in
    let same : n ≡ n + 0 = omega arith in
    subst (λ k. go k s.fields ≡ true) same (subst (λ y. go n y.fields ≡ true) (same_Some x s e) parts.0)
one_shape n (x ∷ ss) go h (suc c) s e =
    let parts = and_parts (go n x.fields) (each_shape (suc n) ss go) h in
    let same : suc n + c ≡ n + suc c = omega arith in
    subst (λ k. go k s.fields ≡ true) same (one_shape (suc n) ss go parts.1 c s e)

-- what is so of fewer columns
abbrev AllCovered : ℕ → Table → Type 0
AllCovered n tb = (ts : List ℕ) (rows : List Patterns) → covers n tb ts rows ≡ true → (vs : Values) → HaveTypes tb ts vs → some_row rows vs ≡ true

by_first : (n : ℕ) (tb : Table) (t : ℕ) (ts : List ℕ) (rows : List Patterns) → AllCovered n tb → by_type tb t ts rows (covers n tb) ≡ true → (v : Value) (vs : Values) → HasType tb t v → HaveTypes tb ts vs → some_row rows (More v vs) ≡ true
by_first n tb zero ts rows go e v vs h k = rows_skip rows v vs (go ts (rows_any rows) e vs k)
by_first n tb (suc t) ts rows go e (Int i) vs h k = absurd h
by_first n tb (suc t) ts rows go e (Node c ws) vs h k =
    let s : Shape = h.0 in
    let same : 0 + c ≡ c = omega arith in
    let here : covers n tb (s.fields ++ ts) (rows_with c s.fields rows) ≡ true =
    subst (λ d. covers n tb (s.fields ++ ts) (rows_with d s.fields rows) ≡ true) same (one_shape 0 (shapes tb t) (λ c fs. covers n tb (fs ++ ts) (rows_with c fs rows)) e c s h.1) in
    rows_head tb c s.fields rows ws vs h.2 (go (s.fields ++ ts) (rows_with c s.fields rows) here (before ws vs) (types_before tb s.fields ts ws vs h.2 k))

by_column : (b : Bool) (n : ℕ) (tb : Table) (t : ℕ) (ts : List ℕ) (rows : List Patterns) → AllCovered n tb → (if b then by_type tb t ts rows (covers n tb) else covers n tb ts (rows_any rows)) ≡ true → (v : Value) (vs : Values) → HasType tb t v → HaveTypes tb ts vs → some_row rows (More v vs) ≡ true
by_column true n tb t ts rows go e v vs h k = by_first n tb t ts rows go e v vs h k
by_column false n tb t ts rows go e v vs h k = rows_skip rows v vs (go ts (rows_any rows) e vs k)

covered : (n : ℕ) (tb : Table) → AllCovered n tb
covered n tb [] rows e End h = e
covered n tb [] rows e (More v vs) h = absurd h
covered zero tb (t ∷ ts) rows e vs h = absurd (cc)
covered (suc n) tb (t ∷ ts) rows e End h = absurd h
covered (suc n) tb (t ∷ ts) rows e (More v vs) h = by_column (tests_first rows) n tb t ts rows (covered n tb) e v vs h.0 h.1

-- ---- one column

abbrev pub column : List Pattern → List Patterns
column [] = []
column (p ∷ ps) = MorePatterns p NoPatterns ∷ column ps

in_column : (ps : List Pattern) (v : Value) → some_row (column ps) (More v End) ≡ true → some_fits ps v ≡ true
in_column [] v h = h
in_column (p ∷ ps) v h = either (fits p v && true) (fits p v) (some_row (column ps) (More v End)) (some_fits ps v) (only (fits p v)) h (in_column ps v)
  where
    only : (b : Bool) → (b && true) ≡ b
    only true = refl
    only false = refl

-- a bound of the columns
abbrev most_columns : ℕ
most_columns = 1000

abbrev pub covers_all : Table → ℕ → List Pattern → Bool
covers_all tb t rows = covers most_columns tb (t ∷ []) (column rows)

pub all_fit : (tb : Table) (t : ℕ) (rows : List Pattern) → covers_all tb t rows ≡ true → AllFit tb t rows
all_fit tb t rows e v h = in_column rows v (covered most_columns tb (t ∷ []) (column rows) e (More v End) (h, tt))

-- ---- what is reached

abbrev fields_at : Option Shape → List ℕ
fields_at None = []
fields_at (Some s) = s.fields

abbrev all_of_them : List ℕ → (ℕ → Value) → Values
all_of_them [] go = End
all_of_them (f ∷ fs) go = More (go f) (all_of_them fs go)

-- a value of the type, by its first constructor
abbrev sample : ℕ → Table → ℕ → Value
sample n tb zero = Int (pos 0)
sample zero tb (suc t) = Int (pos 0)
sample (suc n) tb (suc t) = Node 0 (all_of_them (fields_at (slice_get (shapes tb t) 0)) (sample n tb))

-- one that the pattern matches
abbrev mutual
  matched : Table → ℕ → Pattern → Value
  matched tb t Any = sample 10 tb t
  matched tb t (Test u (Number i) ps) = Int i
  matched tb t (Test u (Tag c) ps) = Node c (all_matched tb (fields_at (slice_get (constructors tb t) c)) ps)

  all_matched : Table → List ℕ → Patterns → Values
  all_matched tb [] ps = End
  all_matched tb (f ∷ fs) NoPatterns = End
  all_matched tb (f ∷ fs) (MorePatterns p ps) = More (matched tb f p) (all_matched tb fs ps)

abbrev is_small : ℤ → Bool
is_small (pos n) = nat_lt n 100
is_small (negsuc n) = false

abbrev mutual
  is_typed : Table → ℕ → Value → Bool
  is_typed tb zero (Int i) = is_small i
  is_typed tb zero (Node c vs) = false
  is_typed tb (suc t) (Int i) = false
  is_typed tb (suc t) (Node c vs) = is_some (slice_get (shapes tb t) c) && are_typed tb (fields_at (slice_get (shapes tb t) c)) vs

  are_typed : Table → List ℕ → Values → Bool
  are_typed tb [] End = true
  are_typed tb [] (More v vs) = false
  are_typed tb (f ∷ fs) End = false
  are_typed tb (f ∷ fs) (More v vs) = is_typed tb f v && are_typed tb fs vs

small_fits : (i : ℤ) → is_small i ≡ true → FitsSigned w64 i
small_fits (pos n) e = let less : n < 100 = grind (arith, nat_tests) in omega (arith, less)
small_fits (negsuc n) e = absurd (cc)

mutual
  has_type : (tb : Table) (t : ℕ) (v : Value) → is_typed tb t v ≡ true → HasType tb t v
  has_type tb zero (Int i) e = small_fits i e
  has_type tb zero (Node c vs) e = absurd (cc)
  has_type tb (suc t) (Int i) e = absurd (cc)
  has_type tb (suc t) (Node c vs) e =
      let parts = and_parts (is_some (slice_get (shapes tb t) c)) (are_typed tb (fields_at (slice_get (shapes tb t) c)) vs) e in
      at_shape (slice_get (shapes tb t) c) refl parts.0 (have_types tb (fields_at (slice_get (shapes tb t) c)) vs parts.1)
    where
      at_shape : (o : Option Shape) → slice_get (shapes tb t) c ≡ o → is_some o ≡ true → HaveTypes tb (fields_at o) vs → HasType tb (suc t) (Node c vs)
      at_shape None e h k = absurd (cc)
      at_shape (Some s) e h k = (s, e, k)

  have_types : (tb : Table) (fs : List ℕ) (vs : Values) → are_typed tb fs vs ≡ true → HaveTypes tb fs vs
  have_types tb [] End e = tt
  have_types tb [] (More v vs) e = absurd (cc)
  have_types tb (f ∷ fs) End e = absurd (cc)
  have_types tb (f ∷ fs) (More v vs) e = let parts = and_parts (is_typed tb f v) (are_typed tb fs vs) e in (has_type tb f v parts.0, have_types tb fs vs parts.1)

abbrev reaches_with : Table → ℕ → List Pattern → Pattern → Value → Bool
reaches_with tb t rows p v = is_typed tb t v && (fits p v && not (some_fits rows v))

-- the pattern's sample is matched by no row
abbrev pub reaches : Table → ℕ → List Pattern → Pattern → Bool
reaches tb t rows p = reaches_with tb t rows p (matched tb t p)

not_fits : (b : Bool) → not b ≡ true → b ≡ false
not_fits true e = absurd (cc)
not_fits false e = refl

pub is_reached : (tb : Table) (t : ℕ) (rows : List Pattern) (p : Pattern) → reaches tb t rows p ≡ true → Reached tb t rows p
is_reached tb t rows p e = by (matched tb t p) e
  where
    by : (v : Value) → reaches_with tb t rows p v ≡ true → Reached tb t rows p
    by v e =
        let parts = and_parts (is_typed tb t v) (fits p v && not (some_fits rows v)) e in
        let rest = and_parts (fits p v) (not (some_fits rows v)) parts.1 in
        (v, has_type tb t v parts.0, rest.0, not_fits (some_fits rows v) rest.1)
