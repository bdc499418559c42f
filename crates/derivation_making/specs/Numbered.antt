-- What the numbers in a body mean: a call's is that of an instance; the binders are numbered in the order of the text,
-- the program's from c on and the derivation's, below 2^32, from d on; and a let binds something. So it is with each
-- program of a source.
use Rattle.std.specs.Prelude.{◌≡◌, ◌<◌, ◌+◌, ℕ, true, List, [], ◌∷◌, length}
use Rattle.derivation_check.specs.fip_trees.Tree.{Expression, Give, Tuple, Operation, Call, Match, Nested, Block, Last, Let}
use Rattle.derivation_check.specs.fip_trees.Tree.{Clauses, NoClauses, MoreClauses, Instance, Program}
use Rattle.ownership_agreement.specs.fip_rules.Shapes.{binders}
use Rattle.ownership_agreement.specs.fip_rules.World.{is_ruled}
use Rattle.derivation_check.specs.Scopes.{AreNumbered, within, within_block}

abbrev mutual
  pub Numbered : Program → ℕ → ℕ → Expression → Type 0
  Numbered p c d (Give a) = Unit {0}
  Numbered p c d (Tuple q as') = Unit {0}
  Numbered p c d (Operation o q l r) = Unit {0}
  Numbered p c d (Call g n q as') = g < length p.instances
  Numbered p c d (Match t u q a r body cs) =
      AreNumbered c d (binders r) × NumberedBlock p (c + length (binders r)) (d + length (binders r)) body
      × NumberedClauses p (c + length (binders r) + within_block body) (d + length (binders r) + within_block body) cs
  Numbered p c d (Nested b) = NumberedBlock p c d b

  pub NumberedBlock : Program → ℕ → ℕ → Block → Type 0
  NumberedBlock p c d (Last e) = Numbered p c d e
  NumberedBlock p c d (Let bs e rest) =
      (0 < length bs) × AreNumbered (c + within e) d bs × Numbered p c (d + length bs) e
      × NumberedBlock p (c + within e + length bs) (d + within e + length bs) rest

  pub NumberedClauses : Program → ℕ → ℕ → Clauses → Type 0
  NumberedClauses p c d NoClauses = Unit {0}
  NumberedClauses p c d (MoreClauses r body cs) =
      AreNumbered c d (binders r) × NumberedBlock p (c + length (binders r)) (d + length (binders r)) body
      × NumberedClauses p (c + length (binders r) + within_block body) (d + length (binders r) + within_block body) cs

-- an instance: as many binders as parameters, which come first
pub record IsNumbered (p : Program) (i : Instance) : Type 0 where
  pub as_many : length i.binders ≡ length i.params
  pub parameters : AreNumbered 0 0 i.binders
  pub body : NumberedBlock p (length i.params) (length i.params) i.body

-- each fip or fbip instance of some
abbrev pub AllNumbered : Program → List Instance → Type 0
AllNumbered p [] = Unit {0}
AllNumbered p (i ∷ is) = (is_ruled i.kind ≡ true → IsNumbered p i) × AllNumbered p is
