-- The variables in scope.
--
-- A derivation numbers the variables of a function from 0: the parameters, then the binders in the order of the core
-- form, a let's before those inside what it binds. A program numbers its binders in another order, a let's after those
-- inside what it binds. For example in f(a) { let b = match! a { C(c) -> c }; b } the variables a, b, c are 0, 1, 2 in
-- a derivation, and their binders 0, 2, 1 in the program.
use Rattle.std.specs.Prelude.{◌≡◌, ◌<◌, ◌+◌, ◌==◌, ◌||◌, ◌&&◌, not, ℕ, suc, Bool, true, List, [], ◌∷◌, ◌++◌, length}
use Rattle.std.specs.Prelude.{Option, Some, None, if◌then◌else◌}
use Rattle.fip_base.specs.declared.plain.Param.{Param}
use Rattle.fip_trees.specs.declared.program.Binder.{Binder}
use Rattle.fip_trees.specs.Tree.{Argument, Variable, Literal, Constructor, Arguments, NoArguments, MoreArguments}
use Rattle.fip_trees.specs.Tree.{Expression, Give, Tuple, Operation, Call, Match, Nested, Block, Last, Let}
use Rattle.fip_trees.specs.Tree.{Clauses, NoClauses, MoreClauses}
use Rattle.fip_rules.specs.Shapes.{binders}
use Rattle.ownership_calculus.specs.Items.{has}

-- A variable: its binder's number in the program, its own in the derivation, its type, and whether it is bound as an
-- owned one, where that isn't scalar.
pub record Known : Type 0 where
  pub binder : ℕ
  pub number : ℕ
  pub ty : ℕ
  pub owned : Bool

-- the variables in scope, the innermost first, and which owned ones the lets around borrow
pub record Scope : Type 0 where
  pub variables : List Known
  pub lent : ℕ → Bool

-- the innermost variable of a binder
abbrev pub known : List Known → ℕ → Option Known
known [] x = None
known (v ∷ vs) x = if v.binder == x then Some v else known vs x

-- what an occurrence means
abbrev pub meant : List Known → Option ℕ → Option Known
meant vs None = None
meant vs (Some x) = known vs x

-- the variables of some binders, numbered from d on
abbrev pub named : ℕ → Bool → List Binder → List Known
named d own [] = []
named d own (b ∷ bs) = record { binder = b.number; number = d; ty = b.ty; owned = own } ∷ named (d + 1) own bs

abbrev pub parameters : ℕ → List Param → List Known
parameters n [] = []
parameters n (p ∷ ps) = record { binder = n; number = n; ty = p.ty; owned = not p.lent } ∷ parameters (n + 1) ps

-- within the scope of some binders
abbrev pub binding : ℕ → Bool → List Binder → Scope → Scope
binding d own bs s = record { variables = named d own bs ++ s.variables; lent = s.lent }

-- inside what a let binds: of its variables xs those are borrowed that what is bound doesn't have
abbrev pub lending : List ℕ → List ℕ → Scope → Scope
lending xs ys s = record { variables = s.variables; lent = λ x. s.lent x || (has xs x && not (has ys x)) }

-- The binders have the program's numbers from c on, and below 2^32 the derivation's from d on.
abbrev pub AreNumbered : ℕ → ℕ → List Binder → Type 0
AreNumbered c d [] = Unit {0}
AreNumbered c d (b ∷ bs) = (b.number ≡ c) × (d < 4294967296) × AreNumbered (c + 1) (d + 1) bs

-- how many binders are in an expression, a block, some clauses
abbrev mutual
  pub within : Expression → ℕ
  within (Give a) = 0
  within (Tuple p as') = 0
  within (Operation o p l r) = 0
  within (Call g n p as') = 0
  within (Match k t p a q body cs) = length (binders q) + within_block body + within_clauses cs
  within (Nested b) = within_block b

  pub within_block : Block → ℕ
  within_block (Last e) = within e
  within_block (Let bs e rest) = within e + length bs + within_block rest

  pub within_clauses : Clauses → ℕ
  within_clauses NoClauses = 0
  within_clauses (MoreClauses q body cs) = length (binders q) + within_block body + within_clauses cs
