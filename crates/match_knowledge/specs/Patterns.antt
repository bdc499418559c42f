-- Patterns without names: anything, or a head with patterns for the children. A literal is a head without children.
use Rattle.std.specs.Prelude.{◌≡◌, ℕ, suc, ◌+◌, Bool, true, false, ◌&&◌, if◌then◌else◌, List, [], ◌∷◌}
use Rattle.match_knowledge.specs.declared.heads.Head.{Head}
use Rattle.fip_base.specs.fip_language.Values.{Value, Values, End, More}
use Rattle.fip_base.specs.fip_language.Table.{Table}
use Rattle.match_knowledge.specs.ValueHeads.{head, children, same_head, IsHead}

mutual
  pub data Pattern : Type 0 where
    Any : Pattern
    Test : (t : ℕ) (h : Head) (ps : Patterns) → Pattern

  pub data Patterns : Type 0 where
    NoPatterns : Patterns
    MorePatterns : (p : Pattern) (ps : Patterns) → Patterns

abbrev mutual
  pub fits : Pattern → Value → Bool
  fits Any v = true
  fits (Test t h ps) v = same_head h (head v) && fit_all ps (children v)

  pub fit_all : Patterns → Values → Bool
  fit_all NoPatterns End = true
  fit_all NoPatterns (More v vs) = false
  fit_all (MorePatterns p ps) End = false
  fit_all (MorePatterns p ps) (More v vs) = fits p v && fit_all ps vs

-- some row matches
abbrev pub some_fits : List Pattern → Value → Bool
some_fits [] v = false
some_fits (p ∷ ps) v = if fits p v then true else some_fits ps v

-- a pattern of the type
abbrev mutual
  pub IsPattern : Table → ℕ → Pattern → Type 0
  IsPattern tb t Any = Unit {0}
  IsPattern tb t (Test u h ps) = (u ≡ t) × (fs : List ℕ) × IsHead tb t h fs × ArePatterns tb fs ps

  pub ArePatterns : Table → List ℕ → Patterns → Type 0
  ArePatterns tb [] NoPatterns = Unit {0}
  ArePatterns tb [] (MorePatterns p ps) = ⊥
  ArePatterns tb (t ∷ ts) NoPatterns = ⊥
  ArePatterns tb (t ∷ ts) (MorePatterns p ps) = IsPattern tb t p × ArePatterns tb ts ps

abbrev pub AreRows : Table → ℕ → List Pattern → Type 0
AreRows tb t [] = Unit {0}
AreRows tb t (p ∷ ps) = IsPattern tb t p × AreRows tb t ps

-- the tests of a pattern
abbrev mutual
  pub nodes : Pattern → ℕ
  nodes Any = 0
  nodes (Test t h ps) = suc (nodes_all ps)

  pub nodes_all : Patterns → ℕ
  nodes_all NoPatterns = 0
  nodes_all (MorePatterns p ps) = nodes p + nodes_all ps

abbrev pub row_nodes : List Pattern → ℕ
row_nodes [] = 0
row_nodes (p ∷ ps) = nodes p + row_nodes ps

abbrev pub patterns_of : List Pattern → Patterns
patterns_of [] = NoPatterns
patterns_of (p ∷ ps) = MorePatterns p (patterns_of ps)
