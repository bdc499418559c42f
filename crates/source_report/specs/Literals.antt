-- The literals of a program's patterns have 64 bits.
-- Those of `match n { 0 -> a; -9223372036854775808 -> b; _ -> c }` have; 9223372036854775808 hasn't.
use Rattle.std.specs.Prelude.{FitsSigned}
use Rattle.std.specs.Int.{w64}
use Rattle.cell_lower.specs.fip_language.Every.{Among}
use Rattle.cell_lower.specs.fip_trees.Tree.{Pattern, BinderPattern, LiteralPattern, ConstructorPattern, Patterns, NoPatterns}
use Rattle.cell_lower.specs.fip_trees.Tree.{MorePatterns, Expression, Give, Tuple, Operation, Call, Match, Nested}
use Rattle.cell_lower.specs.fip_trees.Tree.{Block, Last, Let, Clauses, NoClauses, MoreClauses, Instance, Program}

abbrev mutual
  pub FitsPattern : Pattern → Type 0
  FitsPattern (BinderPattern b) = Unit {0}
  FitsPattern (LiteralPattern i q) = FitsSigned w64 i
  FitsPattern (ConstructorPattern u d c n q ps) = FitPatterns ps

  pub FitPatterns : Patterns → Type 0
  FitPatterns NoPatterns = Unit {0}
  FitPatterns (MorePatterns q qs) = FitsPattern q × FitPatterns qs

abbrev mutual
  pub Fits : Expression → Type 0
  Fits (Give a) = Unit {0}
  Fits (Tuple q as') = Unit {0}
  Fits (Operation o q l r) = Unit {0}
  Fits (Call g n q as') = Unit {0}
  Fits (Match k u q a r body cs) = FitsPattern r × FitsBlock body × FitClauses cs
  Fits (Nested b) = FitsBlock b

  pub FitsBlock : Block → Type 0
  FitsBlock (Last e) = Fits e
  FitsBlock (Let bs e rest) = Fits e × FitsBlock rest

  pub FitClauses : Clauses → Type 0
  FitClauses NoClauses = Unit {0}
  FitClauses (MoreClauses q body cs) = FitsPattern q × FitsBlock body × FitClauses cs

abbrev pub LiteralsFit : Program → Type 0
LiteralsFit p = (d : Instance) → Among d p.instances → FitsBlock d.body
