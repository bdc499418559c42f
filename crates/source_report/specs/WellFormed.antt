-- What the program of a source keeps to that breaks no rule up to those on static parameters: its numbers mean
-- something. The types of fields, parameters and results are in the table, and each type there has a value; a pattern's
-- constructor is one of each type that its data type declares; each call is of an instance. Coverage and tail calls ask
-- this of a typed program.
--
-- In the program of `data t { A(t); B }` and `fun f(x: t): t { match x { A(y) -> f(y); B -> x } }` the table is bool,
-- t; A and B are constructors 0 and 1 of type 2, and the call is of instance 0.
use Rattle.std.specs.Prelude.{◌≡◌, ◌<◌, ℕ, suc, map, length, Some, slice_get}
use Rattle.cell_lower.specs.fip_language.Every.{Among}
use Rattle.cell_lower.specs.fip_language.SoundTable.{AreTypes}
use Rattle.cell_lower.specs.fip_language.Table.{Shape, shapes, HasType}
use Rattle.cell_lower.specs.fip_language.Values.{Value}
use Rattle.cell_lower.specs.fip_base.declared.plain.Param.{Param}
use Rattle.cell_lower.specs.fip_trees.Tree.{Pattern, BinderPattern, LiteralPattern, ConstructorPattern, Patterns, NoPatterns}
use Rattle.cell_lower.specs.fip_trees.Tree.{MorePatterns, Expression, Give, Tuple, Operation, Call, Match, Nested}
use Rattle.cell_lower.specs.fip_trees.Tree.{Block, Last, Let, Clauses, NoClauses, MoreClauses, Instance, Program}

abbrev mutual
  pub IsKnownPattern : Program → Pattern → Type 0
  IsKnownPattern p (BinderPattern b) = Unit {0}
  IsKnownPattern p (LiteralPattern i q) = Unit {0}
  IsKnownPattern p (ConstructorPattern u d c n q ps) =
      ((t : ℕ) → slice_get p.declaring t ≡ Some d → c < length (shapes p.types t)) × AreKnownPatterns p ps

  pub AreKnownPatterns : Program → Patterns → Type 0
  AreKnownPatterns p NoPatterns = Unit {0}
  AreKnownPatterns p (MorePatterns q qs) = IsKnownPattern p q × AreKnownPatterns p qs

abbrev mutual
  pub IsKnown : Program → Expression → Type 0
  IsKnown p (Give a) = Unit {0}
  IsKnown p (Tuple q as') = Unit {0}
  IsKnown p (Operation o q l r) = Unit {0}
  IsKnown p (Call g n q as') = g < length p.instances
  IsKnown p (Match k u q a r body cs) = IsKnownPattern p r × IsKnownBlock p body × AreKnownClauses p cs
  IsKnown p (Nested b) = IsKnownBlock p b

  pub IsKnownBlock : Program → Block → Type 0
  IsKnownBlock p (Last e) = IsKnown p e
  IsKnownBlock p (Let bs e rest) = IsKnown p e × IsKnownBlock p rest

  pub AreKnownClauses : Program → Clauses → Type 0
  AreKnownClauses p NoClauses = Unit {0}
  AreKnownClauses p (MoreClauses q body cs) = IsKnownPattern p q × IsKnownBlock p body × AreKnownClauses p cs

abbrev pub type_of : Param → ℕ
type_of x = x.ty

pub record IsKnownInstance (p : Program) (d : Instance) : Type 0 where
  pub parameters : AreTypes p.types (map type_of d.params)
  pub results : AreTypes p.types d.results
  pub body : IsKnownBlock p d.body

pub record IsWellFormed (p : Program) : Type 0 where
  pub declared : length p.declaring ≡ length p.types
  pub bool : 0 < length p.types
  pub fields : (t c : ℕ) (s : Shape) → slice_get (shapes p.types t) c ≡ Some s → AreTypes p.types s.fields
  pub inhabited : (t : ℕ) → t < length p.types → (v : Value) × HasType p.types (suc t) v
  pub instances : (d : Instance) → Among d p.instances → IsKnownInstance p d
