-- What the theorem on typed programs says: what an evaluation gives is of the types of the results, and it is never stuck.
-- It may end in a trap, run out of calls, or be too deep.
use Rattle.std.specs.Prelude.{ℕ, List}
use Rattle.match_cover.specs.fip_language.Table.{Table, HaveTypes}
use Rattle.match_cover.specs.fip_language.Meaning.{Answer, Gives, Trap, Out, Deep, Stuck}
use Rattle.match_cover.specs.fip_trees.Tree.{Program}
use Rattle.type_check.specs.Typing.{IsFilled}
use Rattle.type_safety.specs.Formed.{IsFormed}
use Rattle.type_safety.specs.Exhaustive.{AreExhaustive}
pub use Rattle.type_safety.specs.ParameterTypes.{parameter_types}

abbrev pub IsSoundAnswer : Table → List ℕ → Answer → Type 0
IsSoundAnswer tb ts (Gives results left) = HaveTypes tb ts results
IsSoundAnswer tb ts (Trap kind line col) = Unit {0}
IsSoundAnswer tb ts Out = Unit {0}
IsSoundAnswer tb ts Deep = Unit {0}
IsSoundAnswer tb ts Stuck = ⊥

-- the same of what it gives alone
abbrev pub IsTypedAnswer : Table → List ℕ → Answer → Type 0
IsTypedAnswer tb ts (Gives results left) = HaveTypes tb ts results
IsTypedAnswer tb ts (Trap kind line col) = Unit {0}
IsTypedAnswer tb ts Out = Unit {0}
IsTypedAnswer tb ts Deep = Unit {0}
IsTypedAnswer tb ts Stuck = Unit {0}

-- A typed program, with its types in their slots, whose matches have a clause for each value.
pub record IsWellTyped (p : Program) : Type 0 where
  pub formed : IsFormed p
  pub typed : IsFilled p
  pub exhaustive : AreExhaustive p.types p.instances
