-- What the theorem requires of a program. Its core form breaks no rule on declarations, and each match in it has a
-- clause, as every match of a source has. What is specialised has the names and the functions of the core form.
use Rattle.std.specs.Prelude.{◌≡◌}
use Rattle.source_report.specs.fip_language.Core.{Expression, Give, Tuple, Operation, Call, Match, Nested, Block, Last, Let, Clauses}
use Rattle.source_report.specs.fip_language.Core.{NoClauses, MoreClauses, Function, Core}
use Rattle.source_report.specs.fip_language.Every.{Every}
use Rattle.source_report.specs.fip_trees.declared.least.Violation.{Violation}
use Rattle.source_report.specs.data_types.Answers.{Violates}
use Rattle.source_report.specs.data_types.Declarations.{written_names}
use Rattle.source_report.specs.reached_instances.closed_types.Source.{Source}

abbrev pub AreSome : Clauses → Type 0
AreSome NoClauses = ⊥
AreSome (MoreClauses q b cs) = Unit {0}

-- each match has a clause
abbrev mutual
  pub HasClauses : Expression → Type 0
  HasClauses (Give a) = Unit {0}
  HasClauses (Tuple p as') = Unit {0}
  HasClauses (Operation o p a b) = Unit {0}
  HasClauses (Call x p ws as') = Unit {0}
  HasClauses (Match d p a cs) = AreSome cs × ClausesHaveClauses cs
  HasClauses (Nested b) = BlockHasClauses b

  pub BlockHasClauses : Block → Type 0
  BlockHasClauses (Last e) = HasClauses e
  BlockHasClauses (Let bs e rest) = HasClauses e × BlockHasClauses rest

  pub ClausesHaveClauses : Clauses → Type 0
  ClausesHaveClauses NoClauses = Unit {0}
  ClausesHaveClauses (MoreClauses q b cs) = BlockHasClauses b × ClausesHaveClauses cs

abbrev pub BodyHasClauses : Function → Type 0
BodyHasClauses f = BlockHasClauses f.body

pub record IsDeclared (core : Core) : Type 0 where
  pub accepted : (v : Violation) → Violates core v → ⊥
  pub clauses : Every BodyHasClauses core.functions

pub record IsSourceOf (core : Core) (s : Source) : Type 0 where
  pub names : s.names ≡ written_names core
  pub functions : s.functions ≡ core.functions
