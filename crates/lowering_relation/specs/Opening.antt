-- It serves the proofs on lowered code: which instructions take the cells of a value apart, or read what a pattern
-- names, and what registers hold then.
use Rattle.std.specs.Prelude.{◌≡◌, ℕ, suc, Bool, true, false, ◌||◌, not, nat_eq, List, [], ◌∷◌}
use Rattle.std.specs.Prelude.{if◌then◌else◌}
use Rattle.tree_semantics.specs.fip_language.Values.{Value, Values, End, More}
use Rattle.credit_check.specs.fip_trees.declared.program.Binder.{Binder}
use Rattle.credit_check.specs.fip_trees.Tree.{Pattern, BinderPattern, LiteralPattern, ConstructorPattern, Patterns, NoPatterns}
use Rattle.credit_check.specs.fip_trees.Tree.{MorePatterns, Name}
use Rattle.code_rules.specs.cell_code.declared.code.Instr.TheVariants as I
use Rattle.tree_semantics.specs.Contents.{Contents}
use Rattle.match_knowledge.specs.ValueHeads.{children}
use Rattle.lowering_relation.specs.Written.{Written, added}
use Rattle.lowering_relation.specs.Spots.{Spot, At, Spots, NoSpots, MoreSpots, register, fields}
use Rattle.lowering_relation.specs.Reading.{Reading, read_one}

-- the registers of as many positions as there are patterns
abbrev pub as_many : Patterns → Spots → List ℕ
as_many NoPatterns ss = []
as_many (MorePatterns p ps) NoSpots = []
as_many (MorePatterns p ps) (MoreSpots s ss) = register s ∷ as_many ps ss

-- the cell of a constructor with fields is taken apart
abbrev pub take_if : ℕ → Patterns → Spots → Written → Written
take_if r NoPatterns ss w = w
take_if r (MorePatterns p ps) ss w = added w (I.Take r (as_many (MorePatterns p ps) ss))

-- cells are taken apart, from the root on
abbrev mutual
  pub taking : Pattern → Spot → Written → Written
  taking (BinderPattern b) s w = w
  taking (LiteralPattern i p) s w = w
  taking (ConstructorPattern t d c n p ps) (At r fs) w = taking_all ps fs (take_if r ps fs w)

  pub taking_all : Patterns → Spots → Written → Written
  taking_all NoPatterns ss w = w
  taking_all (MorePatterns p ps) NoSpots w = w
  taking_all (MorePatterns p ps) (MoreSpots s ss) w = taking_all ps ss (taking p s w)

-- a name that can be named: it isn't _
abbrev pub is_underscore : Name → Bool
is_underscore [] = false
is_underscore (c ∷ []) = nat_eq c 95
is_underscore (c ∷ d ∷ cs) = false

abbrev pub is_named : Binder → Bool
is_named b = not (is_underscore b.name)

abbrev mutual
  pub names_any : Pattern → Bool
  names_any (BinderPattern b) = is_named b
  names_any (LiteralPattern i p) = false
  names_any (ConstructorPattern t d c n p ps) = any_named ps

  pub any_named : Patterns → Bool
  any_named NoPatterns = false
  any_named (MorePatterns p ps) = names_any p || any_named ps

-- what a pattern names is read
abbrev mutual
  pub naming : Pattern → Spot → Reading → Reading
  naming (BinderPattern b) s x = x
  naming (LiteralPattern i p) s x = x
  naming (ConstructorPattern t d c n p ps) (At r fs) x = naming_all ps fs r 0 x

  pub naming_all : Patterns → Spots → ℕ → ℕ → Reading → Reading
  naming_all NoPatterns ss r i x = x
  naming_all (MorePatterns p ps) NoSpots r i x = x
  naming_all (MorePatterns p ps) (MoreSpots s ss) r i x =
      naming_all ps ss r (suc i) (if names_any p then naming p s (read_one x r i (register s)) else x)

-- The registers of a pattern's variables hold their values, and where cells were taken apart so do those of its
-- constructors. Where they weren't, _ has no register.
abbrev mutual
  pub Opened : Bool → Pattern → Spot → Value → Contents → Type 0
  Opened takes (BinderPattern b) s v cs = (takes || is_named b) ≡ true → cs (register s) ≡ v
  Opened takes (LiteralPattern i p) s v cs = Unit {0}
  Opened takes (ConstructorPattern t d c n p ps) s v cs =
      (takes ≡ true → cs (register s) ≡ v) × AllOpened takes ps (fields s) (children v) cs

  pub AllOpened : Bool → Patterns → Spots → Values → Contents → Type 0
  AllOpened takes NoPatterns ss vs cs = Unit {0}
  AllOpened takes (MorePatterns p ps) NoSpots vs cs = ⊥
  AllOpened takes (MorePatterns p ps) (MoreSpots s ss) End cs = ⊥
  AllOpened takes (MorePatterns p ps) (MoreSpots s ss) (More v vs) cs =
      Opened takes p s v cs × AllOpened takes ps ss vs cs

-- there is a position for each part of a pattern
abbrev mutual
  pub Roomy : Pattern → Spot → Type 0
  Roomy (BinderPattern b) s = Unit {0}
  Roomy (LiteralPattern i p) s = Unit {0}
  Roomy (ConstructorPattern t d c n p ps) (At r fs) = AllRoomy ps fs

  pub AllRoomy : Patterns → Spots → Type 0
  AllRoomy NoPatterns ss = Unit {0}
  AllRoomy (MorePatterns p ps) NoSpots = ⊥
  AllRoomy (MorePatterns p ps) (MoreSpots s ss) = Roomy p s × AllRoomy ps ss
