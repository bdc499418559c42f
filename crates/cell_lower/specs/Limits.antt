-- What a code can't tell of a function (rule E60): it has more than 4,096 registers, or it has a match and a
-- parameter, a binder or a pattern node of a type with cells that has more than 65,535 constructors. It is
-- asked of instances that aren't plain, and noted once at the instance's name.
--
-- fip fun f(x: wide): int { 0 } keeps it for every type `wide`; with a body match x { _ -> 0 } it keeps it only where
-- `wide` has at most 65,535 constructors, or none with fields.
use Rattle.std.specs.Prelude.{◌≡◌, ◌⊎◌, ℕ, suc, Bool, true, false, ◌||◌, ◌&&◌, not, nat_lt, List, [], ◌∷◌, length}
use Rattle.std.specs.Prelude.{Option, Some, None, slice_get}
use Rattle.fip_language.specs.declared.limits.TheConstants.{MOST_MATCHED_CONSTRUCTORS, MOST_REGISTERS}
use Rattle.fip_language.specs.declared.FunKind.{FunKind}
use Rattle.fip_language.specs.declared.FunKind.TheVariants.{Fip, Fbip, Fun}
use Rattle.fip_language.specs.declared.rule.Rule.TheVariants.{E60}
use Rattle.fip_language.specs.Table.{Table, constructors, is_scalar}
use Rattle.fip_base.specs.declared.plain.Param.{Param}
use Rattle.fip_base.specs.declared.refusal.PhaseError.{PhaseError}
use Rattle.fip_base.specs.declared.refusal.PhaseError.TheVariants.{Refused, NoMemory}
use Rattle.fip_trees.specs.declared.groups.Member.{Member}
use Rattle.fip_trees.specs.declared.least.Violation.{Violation}
use Rattle.fip_trees.specs.declared.program.Binder.{Binder}
use Rattle.fip_trees.specs.Least.{IsLeastOf, violation, refusal}
use Rattle.fip_trees.specs.Tree.{Pattern, BinderPattern, LiteralPattern, ConstructorPattern, Patterns, NoPatterns}
use Rattle.fip_trees.specs.Tree.{MorePatterns, Expression, Give, Tuple, Operation, Call, Match, Nested, Block}
use Rattle.fip_trees.specs.Tree.{Last, Let}
use Rattle.fip_trees.specs.TreeView.{Case}
use Rattle.fip_trees.specs.Tree.{Clauses, NoClauses, MoreClauses, Instance, Program}
pub use Rattle.fip_language.specs.Kinds.{is_ruled}

-- a type with cells that has too many constructors
abbrev pub is_wide : Table → ℕ → Bool
is_wide tb t = nat_lt MOST_MATCHED_CONSTRUCTORS (length (constructors tb t)) && not (is_scalar tb t)

abbrev pub any_wide : Table → List Binder → Bool
any_wide tb [] = false
any_wide tb (b ∷ bs) = is_wide tb b.ty || any_wide tb bs

abbrev mutual
  pub wide_pattern : Table → Pattern → Bool
  wide_pattern tb (BinderPattern b) = is_wide tb b.ty
  wide_pattern tb (LiteralPattern i p) = false
  wide_pattern tb (ConstructorPattern t d c n p ps) = is_wide tb t || wide_patterns tb ps

  pub wide_patterns : Table → Patterns → Bool
  wide_patterns tb NoPatterns = false
  wide_patterns tb (MorePatterns p ps) = wide_pattern tb p || wide_patterns tb ps

-- a binder or a pattern node within has such a type
abbrev mutual
  pub wide_expression : Table → Expression → Bool
  wide_expression tb (Give a) = false
  wide_expression tb (Tuple p as') = false
  wide_expression tb (Operation o p l r) = false
  wide_expression tb (Call g n p as') = false
  wide_expression tb (Match d t p a q b cs) = (wide_pattern tb q || wide_block tb b) || wide_clauses tb cs
  wide_expression tb (Nested b) = wide_block tb b

  pub wide_block : Table → Block → Bool
  wide_block tb (Last e) = wide_expression tb e
  wide_block tb (Let bs e b) = (any_wide tb bs || wide_expression tb e) || wide_block tb b

  pub wide_clauses : Table → Clauses → Bool
  wide_clauses tb NoClauses = false
  wide_clauses tb (MoreClauses q b cs) = (wide_pattern tb q || wide_block tb b) || wide_clauses tb cs

-- the same of a clause
abbrev pub wide_case : Table → Case → Bool
wide_case tb c = wide_pattern tb c.pattern || wide_block tb c.body

-- a match stands within
abbrev mutual
  pub matches_expression : Expression → Bool
  matches_expression (Give a) = false
  matches_expression (Tuple p as') = false
  matches_expression (Operation o p l r) = false
  matches_expression (Call g n p as') = false
  matches_expression (Match d t p a q b cs) = true
  matches_expression (Nested b) = matches_block b

  pub matches_block : Block → Bool
  matches_block (Last e) = matches_expression e
  matches_block (Let bs e b) = matches_expression e || matches_block b

abbrev pub any_wide_param : Table → List Param → Bool
any_wide_param tb [] = false
any_wide_param tb (p ∷ ps) = is_wide tb p.ty || any_wide_param tb ps

-- the registers of an instance, as its program's groups tell them; none where they tell nothing
abbrev pub registers_of : Option Member → ℕ
registers_of None = 0
registers_of (Some m) = m.registers

abbrev pub registers : List Member → ℕ → ℕ
registers ms i = registers_of (slice_get ms i)

-- a match, and a type with cells that has too many constructors
abbrev pub matches_wide : Table → Instance → Bool
matches_wide tb d = matches_block d.body && (any_wide_param tb d.params || wide_block tb d.body)

-- the rule is broken in an instance with n registers
abbrev pub exceeds : Table → ℕ → Instance → Bool
exceeds tb n d = is_ruled d.kind && (nat_lt MOST_REGISTERS n || matches_wide tb d)

-- the violations of some instances, numbered from i on
abbrev pub BreaksFrom : Table → List Member → ℕ → List Instance → Violation → Type 0
BreaksFrom tb ms i [] v = ⊥
BreaksFrom tb ms i (d ∷ ds) v =
    ((exceeds tb (registers ms i) d ≡ true) × (v ≡ violation E60 d.place i 0 d.name)) ⊎ BreaksFrom tb ms (suc i) ds v

-- the violations of a program, whose instances have the registers that its groups tell
abbrev pub Breaks : Program → List Member → Violation → Type 0
Breaks p ms v = BreaksFrom p.types ms 0 p.instances v

-- a refusal names the least violation
abbrev pub Says : Program → List Member → PhaseError → Type 0
Says p ms (Refused r) = (v : Violation) × IsLeastOf (Breaks p ms) v × (r ≡ refusal v)
Says p ms NoMemory = Unit {0}
