-- What is known of a value: its head is none of some, or it is one and this is known of the children.
use Rattle.std.specs.Prelude.{◌≡◌, ℕ, zero, suc, ◌+◌, ◌≤◌, Bool, true, false, not, ◌&&◌, if◌then◌else◌}
use Rattle.std.specs.Prelude.{List, [], ◌∷◌, length}
use Rattle.match_knowledge.specs.declared.heads.Head.{Head}
use Rattle.match_knowledge.specs.declared.heads.Head.TheVariants.{Tag}
use Rattle.match_knowledge.specs.declared.verdicts.Verdict.{Verdict}
use Rattle.match_knowledge.specs.declared.verdicts.Verdict.TheVariants.{Fits, Misses, Asks}
use Rattle.fip_base.specs.fip_language.Values.{Value, Values, End, More}
use Rattle.fip_base.specs.fip_language.Table.{Table, HasType, constructors}
use Rattle.match_knowledge.specs.ValueHeads.{head, children, same_head, IsHead}
use Rattle.match_knowledge.specs.Patterns.{Pattern, Any, Test, Patterns, NoPatterns, MorePatterns, nodes_all}

mutual
  pub data Known : Type 0 where
    Open : (out : List Head) → Known
    Is : (h : Head) (ks : Knowns) → Known

  pub data Knowns : Type 0 where
    NoKnowns : Knowns
    MoreKnowns : (k : Known) (ks : Knowns) → Knowns

abbrev pub is_in : Head → List Head → Bool
is_in h [] = false
is_in h (g ∷ gs) = if same_head g h then true else is_in h gs

abbrev mutual
  pub agrees : Known → Value → Bool
  agrees (Open out) v = not (is_in (head v) out)
  agrees (Is h ks) v = same_head h (head v) && agree_all ks (children v)

  pub agree_all : Knowns → Values → Bool
  agree_all NoKnowns vs = true
  agree_all (MoreKnowns k ks) End = true
  agree_all (MoreKnowns k ks) (More v vs) = agrees k v && agree_all ks vs

abbrev pub both : Verdict → Verdict → Verdict
both Fits b = b
both Misses b = Misses
both Asks Fits = Asks
both Asks Misses = Misses
both Asks Asks = Asks

-- whether all that agree match (Fits), none does (Misses), or the pattern asks for more
abbrev mutual
  pub compare : Pattern → Known → Verdict
  compare Any k = Fits
  compare (Test t h ps) (Open out) = if is_in h out then Misses else Asks
  compare (Test t h ps) (Is g ks) = if same_head h g then compare_all ps ks else Misses

  pub compare_all : Patterns → Knowns → Verdict
  compare_all NoPatterns ks = Fits
  compare_all (MorePatterns p ps) NoKnowns = Fits
  compare_all (MorePatterns p ps) (MoreKnowns k ks) = both (compare p k) (compare_all ps ks)

abbrev pub is_asks : Verdict → Bool
is_asks Fits = false
is_asks Misses = false
is_asks Asks = true

abbrev pub is_fits : Verdict → Bool
is_fits Fits = true
is_fits Misses = false
is_fits Asks = false

abbrev pub is_misses : Verdict → Bool
is_misses Fits = false
is_misses Misses = true
is_misses Asks = false

abbrev pub opens : Patterns → Knowns
opens NoPatterns = NoKnowns
opens (MorePatterns p ps) = MoreKnowns (Open []) (opens ps)

-- the first test of the pattern that isn't settled is settled: it holds (true), or it doesn't
abbrev pub settle : Bool → Head → Patterns → List Head → Known
settle true h ps out = Is h (opens ps)
settle false h ps out = Open (h ∷ out)

abbrev mutual
  pub side : Bool → Pattern → Known → Known
  side b Any k = k
  side b (Test t h ps) (Open out) = settle b h ps out
  side b (Test t h ps) (Is g ks) = Is g (side_all b ps ks)

  pub side_all : Bool → Patterns → Knowns → Knowns
  side_all b NoPatterns ks = ks
  side_all b (MorePatterns p ps) NoKnowns = NoKnowns
  side_all b (MorePatterns p ps) (MoreKnowns k ks) =
      if is_asks (compare p k) then MoreKnowns (side b p k) ks else MoreKnowns k (side_all b ps ks)

-- whether a value has the head that is asked
abbrev mutual
  pub has_asked : Pattern → Known → Value → Bool
  has_asked Any k v = true
  has_asked (Test t h ps) (Open out) v = same_head h (head v)
  has_asked (Test t h ps) (Is g ks) v = have_asked ps ks (children v)

  pub have_asked : Patterns → Knowns → Values → Bool
  have_asked NoPatterns ks vs = true
  have_asked (MorePatterns p ps) NoKnowns vs = true
  have_asked (MorePatterns p ps) (MoreKnowns k ks) End = true
  have_asked (MorePatterns p ps) (MoreKnowns k ks) (More v vs) =
      if is_asks (compare p k) then has_asked p k v else have_asked ps ks vs

-- all of the first n constructors are out
abbrev pub all_out : ℕ → List Head → Bool
all_out zero out = true
all_out (suc n) out = is_in (Tag n) out && all_out n out

-- no head of the type is left; of int there is always one
abbrev pub none_left : Table → ℕ → List Head → Bool
none_left tb zero out = false
none_left tb (suc t) out = all_out (length (constructors tb (suc t))) out

-- no value reaches the side where the test doesn't hold
abbrev mutual
  pub is_last : Table → Pattern → Known → Bool
  is_last tb Any k = false
  is_last tb (Test t h ps) (Open out) = none_left tb t (h ∷ out)
  is_last tb (Test t h ps) (Is g ks) = are_last tb ps ks

  pub are_last : Table → Patterns → Knowns → Bool
  are_last tb NoPatterns ks = false
  are_last tb (MorePatterns p ps) NoKnowns = false
  are_last tb (MorePatterns p ps) (MoreKnowns k ks) =
      if is_asks (compare p k) then is_last tb p k else are_last tb ps ks

-- Some value agrees: at each place some head is left. No place has more than m heads out.
abbrev mutual
  pub Alive : Table → ℕ → ℕ → Known → Type 0
  Alive tb m t (Open out) = (length out ≤ m) × (v : Value) × HasType tb t v × (is_in (head v) out ≡ false)
  Alive tb m t (Is h ks) = (fs : List ℕ) × IsHead tb t h fs × AllAlive tb m fs ks

  pub AllAlive : Table → ℕ → List ℕ → Knowns → Type 0
  AllAlive tb m [] NoKnowns = Unit {0}
  AllAlive tb m [] (MoreKnowns k ks) = ⊥
  AllAlive tb m (f ∷ fs) NoKnowns = ⊥
  AllAlive tb m (f ∷ fs) (MoreKnowns k ks) = Alive tb m f k × AllAlive tb m fs ks

-- the tests that aren't settled
abbrev mutual
  pub tests : Pattern → Known → ℕ
  tests Any k = 0
  tests (Test t h ps) (Open out) = if is_in h out then 0 else suc (nodes_all ps)
  tests (Test t h ps) (Is g ks) = if same_head h g then tests_all ps ks else 0

  pub tests_all : Patterns → Knowns → ℕ
  tests_all NoPatterns ks = 0
  tests_all (MorePatterns p ps) NoKnowns = 0
  tests_all (MorePatterns p ps) (MoreKnowns k ks) = tests p k + tests_all ps ks

abbrev pub row_tests : List Pattern → Known → ℕ
row_tests [] k = 0
row_tests (p ∷ ps) k = tests p k + row_tests ps k
