-- It serves the proof that a derivation is made: what is required of a body, beside that it breaks no rule on ownership
-- and credits. Each typed body keeps to it whose binders are numbered in the order of the text.
--
-- Each occurrence means a variable in scope; an operand and an argument for a parameter of a scalar type is scalar; an
-- argument in a borrowed position is no literal; a scrutinee is a variable of the match's type; a let binds something.
use Rattle.std.specs.Prelude.{◌≡◌, ◌<◌, ◌+◌, ℕ, Bool, true, false, List, [], ◌∷◌, ◌++◌, length, Option, Some, None}
use Rattle.std.specs.Prelude.{slice_get}
use Rattle.derivation_check.specs.fip_base.declared.plain.Param.{Param}
use Rattle.derivation_check.specs.fip_trees.Tree.{Argument, Variable, Literal, Constructor, Arguments, NoArguments, MoreArguments}
use Rattle.derivation_check.specs.fip_trees.Tree.{Expression, Give, Tuple, Operation, Call, Match, Nested, Block, Last, Let}
use Rattle.derivation_check.specs.fip_trees.Tree.{Clauses, NoClauses, MoreClauses, Instance, Program}
use Rattle.ownership_agreement.specs.fip_rules.World.{World, world, is_ruled}
use Rattle.ownership_agreement.specs.fip_rules.Shapes.{binders, takes}
use Rattle.derivation_check.specs.Scopes.{Known, meant, named, parameters, AreNumbered, within, within_block}
use Rattle.derivation_check.specs.Calculus.{Choice, Operand, Plain}

abbrev pub IsThere : Option Known → Type 0
IsThere None = ⊥
IsThere (Some v) = Unit {0}

abbrev mutual
  pub FitsValue : List Known → Argument → Type 0
  FitsValue vs (Variable x n p) = IsThere (meant vs x)
  FitsValue vs (Literal i p) = Unit {0}
  FitsValue vs (Constructor t d c n p as') = FitValues vs as'

  pub FitValues : List Known → Arguments → Type 0
  FitValues vs NoArguments = Unit {0}
  FitValues vs (MoreArguments a as') = FitsValue vs a × FitValues vs as'

-- in a borrowed position
abbrev pub FitsLent : World → List Known → Argument → Type 0
FitsLent w vs (Variable x n p) = IsThere (meant vs x)
FitsLent w vs (Literal i p) = ⊥
FitsLent w vs (Constructor t d c n p as') = w.scalar t ≡ false

abbrev pub FitPassed : World → List Known → List Param → Arguments → Type 0
FitPassed w vs [] NoArguments = Unit {0}
FitPassed w vs [] (MoreArguments a as') = ⊥
FitPassed w vs (p ∷ ps) NoArguments = ⊥
FitPassed w vs (p ∷ ps) (MoreArguments a as') =
    FitsValue vs a × Choice (w.scalar p.ty) (Plain w vs a) (Choice p.lent (FitsLent w vs a) (Unit {0}))
    × FitPassed w vs ps as'

abbrev pub FitsCall : World → List Known → Option Instance → Arguments → Type 0
FitsCall w vs None as' = ⊥
FitsCall w vs (Some e) as' = FitPassed w vs e.params as'

abbrev pub IsScrutinised : World → ℕ → Option Known → Type 0
IsScrutinised w u None = ⊥
IsScrutinised w u (Some v) = w.scalar v.ty ≡ w.scalar u

abbrev pub FitsScrutinee : World → List Known → ℕ → Argument → Type 0
FitsScrutinee w vs u (Variable x n p) = IsScrutinised w u (meant vs x)
FitsScrutinee w vs u (Literal i p) = ⊥
FitsScrutinee w vs u (Constructor t d c n p as') = ⊥

-- The program's binders are numbered from c on, the derivation's from d on.
abbrev mutual
  pub Fitting : World → List Known → ℕ → ℕ → Expression → Type 0
  Fitting w vs c d (Give a) = FitsValue vs a
  Fitting w vs c d (Tuple p as') = FitValues vs as'
  Fitting w vs c d (Operation o p l r) = Operand w vs l × Operand w vs r
  Fitting w vs c d (Call g n p as') = FitsCall w vs (slice_get w.instances g) as'
  Fitting w vs c d (Match k u p a q body cs) =
      FitsScrutinee w vs u a × AreNumbered c d (binders q)
      × FittingBlock w (named d (takes w k u) (binders q) ++ vs) (c + length (binders q)) (d + length (binders q)) body
      × FittingClauses w vs (c + length (binders q) + within_block body) (d + length (binders q) + within_block body)
      (takes w k u) cs
  Fitting w vs c d (Nested b) = FittingBlock w vs c d b

  pub FittingBlock : World → List Known → ℕ → ℕ → Block → Type 0
  FittingBlock w vs c d (Last e) = Fitting w vs c d e
  FittingBlock w vs c d (Let bs e rest) =
      (0 < length bs) × AreNumbered (c + within e) d bs × Fitting w vs c (d + length bs) e
      × FittingBlock w (named d true bs ++ vs) (c + within e + length bs) (d + within e + length bs) rest

  pub FittingClauses : World → List Known → ℕ → ℕ → Bool → Clauses → Type 0
  FittingClauses w vs c d taken NoClauses = Unit {0}
  FittingClauses w vs c d taken (MoreClauses q body cs) =
      AreNumbered c d (binders q)
      × FittingBlock w (named d taken (binders q) ++ vs) (c + length (binders q)) (d + length (binders q)) body
      × FittingClauses w vs (c + length (binders q) + within_block body) (d + length (binders q) + within_block body)
      taken cs

-- an instance: as many binders as parameters, numbered in order
pub record IsFitting (w : World) (i : Instance) : Type 0 where
  pub as_many : length i.binders ≡ length i.params
  pub numbered : AreNumbered 0 0 i.binders
  pub body : FittingBlock w (parameters 0 i.params) (length i.params) (length i.params) i.body

-- each fip or fbip instance of some
abbrev pub AreFitting : Program → List Instance → Type 0
AreFitting p [] = Unit {0}
AreFitting p (i ∷ is) = (is_ruled i.kind ≡ true → IsFitting (world p i.kind) i) × AreFitting p is
