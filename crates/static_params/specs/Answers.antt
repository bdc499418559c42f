-- What monomorphising answers. More than 4,096 instances are E21 at the first place of the source, where no other
-- violation of the phase is, with the detail functions; else more than 4,096 types are E21 there, with the detail
-- types; else the least violation of a use in an instance is named, where there is one; else the program of the
-- instances and the types is given.
-- With `fun f(): int { g(1) }` and no g, the violation is E20 at g, in instance 0, with the detail g.
use Rattle.std.specs.Prelude.{◌≡◌, ◌≤◌, ◌⊎◌, List, [], length, codes}
use Rattle.fip_language.specs.declared.Place.{Place}
use Rattle.fip_language.specs.declared.rule.Rule.TheVariants.{E21}
use Rattle.fip_base.specs.declared.refusal.PhaseError.{PhaseError}
use Rattle.fip_base.specs.declared.refusal.PhaseError.TheVariants.{Refused, NoMemory}
use Rattle.fip_trees.specs.Least.{IsLeast, refusal}
use Rattle.fip_trees.specs.declared.least.Violation.{Violation}
use Rattle.fip_language.specs.declared.limits.TheConstants.{MOST_INSTANCES}
use Rattle.fip_trees.specs.TreeView.{program}
use Rattle.fip_trees.specs.declared.program.Program.{Program}
use Rattle.reached_instances.specs.closed_types.Closed.{Closed}
use Rattle.reached_instances.specs.closed_types.Source.{Source}
use Rattle.reached_instances.specs.closed_types.Uses.{broken}
use Rattle.reached_instances.specs.closed_types.Numbering.{AreMore}
use Rattle.reached_instances.specs.closed_types.Instances.{roots, calls_from, all_faults, AreInstances, ArePassed}
use Rattle.reached_instances.specs.closed_types.TypeInstances.{type_roots, parts_of, AreTypes}
use Rattle.static_params.specs.FlatProgram.{Numbers, flat_program}

abbrev pub start : Place
start = record { line = 1; col = 1; at = 0 }

abbrev pub AreManyFunctions : Source → Type 0
AreManyFunctions s = AreMore MOST_INSTANCES (roots s) (calls_from s)

-- these are the instances, at most 4,096
pub record AreFewInstances (s : Source) (is : List Closed) : Type 0 where
  pub instances : AreInstances s is
  pub few : length is ≤ MOST_INSTANCES

-- E21: more than 4,096 instances
abbrev pub IsManyFunctions : Source → Violation → Type 0
IsManyFunctions s v = AreManyFunctions s × (v ≡ broken E21 start 0 (codes "functions"))

-- the types that these instances have are more than 4,096
pub record AreManyTypes (s : Source) (is : List Closed) : Type 0 where
  pub passed : List Closed
  pub given : ArePassed is passed
  pub many : AreMore MOST_INSTANCES (type_roots s is passed) (parts_of s)

-- E21: the instances are few, but their types are more than 4,096
pub record IsManyTypes (s : Source) (v : Violation) : Type 0 where
  pub instances : List Closed
  pub few : AreFewInstances s instances
  pub many : AreManyTypes s instances
  pub is : v ≡ broken E21 start 0 (codes "types")

-- These are the instances and the types, at most 4,096 each. They are the only ones: each list is the least set that is
-- closed, in one order.
pub record AreFew (s : Source) (ns : Numbers) : Type 0 where
  pub instances : AreFewInstances s ns.instances
  pub passed : List Closed
  pub given : ArePassed ns.instances passed
  pub types : AreTypes s ns.instances passed ns.types
  pub few_types : length ns.types ≤ MOST_INSTANCES

-- both are few, and this is the least of what the uses in instances break
pub record IsLeastUse (s : Source) (v : Violation) : Type 0 where
  pub numbers : Numbers
  pub few : AreFew s numbers
  pub least : IsLeast (all_faults s numbers.instances) v

-- the violation that is named
abbrev pub Names : Source → Violation → Type 0
Names s v = IsManyFunctions s v ⊎ (IsManyTypes s v ⊎ IsLeastUse s v)

-- what a refusal says
abbrev pub Says : Source → PhaseError → Type 0
Says s (Refused r) = (v : Violation) × Names s v × (r ≡ refusal v)
Says s NoMemory = Unit {0}

-- both are few, no use breaks a rule, and this is their program
pub record IsAccepted (s : Source) (p : Program) : Type 0 where
  pub numbers : Numbers
  pub few : AreFew s numbers
  pub unbroken : all_faults s numbers.instances ≡ []
  pub made : program p ≡ flat_program s numbers
