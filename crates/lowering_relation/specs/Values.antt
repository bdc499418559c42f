-- It serves the proofs on lowered code: which instructions compute an argument, and into which register.
-- A variable's value is in its own register, and no instruction is needed. A constructor with fields is put into the
-- cell of a credit of its size; one without fields is that of a pattern that was matched, or a new one.
-- Cons(x, Nil), where x is in register 1, the credit of size 2 in register 0 and 4 is the next register, is
-- Atom 4 2 0; Put 0 2 1 [1, 4]: its value is in register 0.
use Rattle.std.specs.Prelude.{◌≡◌, ◌⊎◌, ℕ, suc, ℤ, Bool, true, false, List, [], ◌∷◌, Option, Some, length}
use Rattle.std.specs.Prelude.{slice_get, slice_set, get_or}
use Rattle.tree_semantics.specs.fip_language.Table.{Table}
use Rattle.credit_check.specs.fip_trees.Tree.{Argument, Variable, Literal, Constructor, Arguments, NoArguments, MoreArguments}
use Rattle.credit_check.specs.fip_trees.Tree.{Instance}
use Rattle.code_rules.specs.cell_code.declared.code.Instr.{Instr}
use Rattle.code_rules.specs.cell_code.declared.code.Instr.TheVariants as I
use Rattle.lowering_relation.specs.declared.held.Held.{Held}
use Rattle.lowering_relation.specs.declared.held.Held.TheVariants as H
use Rattle.lowering_relation.specs.declared.held.Credit.{Credit}
use Rattle.lowering_relation.specs.Known.{Known, register_of, holding, with_next, used_all, IsTaken}

-- what the functions of a program share: for each type whether it is scalar, for each instance the number of its
-- function, none for a plain one, the instances, and the types
pub record Setting : Type 0 where
  pub scalar : List Bool
  pub functions : List (Option ℕ)
  pub instances : List Instance
  pub types : Table

-- a number that is no type's is scalar
abbrev pub is_scalar : Setting → ℕ → Bool
is_scalar s t = get_or s.scalar t true

-- the instruction of this number
abbrev pub Stands : List Instr → ℕ → Instr → Type 0
Stands code at i = slice_get code at ≡ Some i

abbrev pub built_if : Bool → ℕ → ℕ → Held
built_if true t c = H.Scalar t
built_if false t c = H.Owned t (Some c)

-- what a register holds that has just got a constructor without fields
abbrev pub built : Setting → ℕ → ℕ → Held
built s t c = built_if (is_scalar s t) t c

-- a constructor that was matched is used again
pub record IsReused (at : ℕ) (k : Known) (t c r end : ℕ) (after : Known) : Type 0 where
  pub held : slice_get k.held r ≡ Some (H.Bare t c)
  pub nothing : end ≡ at
  pub known : after ≡ holding (holding k r H.Nothing) r (H.Owned t (Some c))

-- a new one
pub record IsNewAtom (s : Setting) (code : List Instr) (at : ℕ) (k : Known) (t c r end : ℕ) (after : Known) :
    Type 0 where
  pub written : Stands code at (I.Atom r t c)
  pub fresh : r ≡ k.next
  pub one : end ≡ suc at
  pub known : after ≡ with_next k (built s t c)

-- what is known after a Put of the credit of register r
abbrev pub with_put : Known → List Credit → ℕ → ℕ → ℕ → List ℕ → Known
with_put k credits t c r rs = record k {
  held = slice_set (used_all (slice_set k.held r H.Nothing) rs) r (H.Owned t (Some c));
  credits = credits;
}

-- a constructor of these fields is put into the cell of a credit
pub record IsPut (code : List Instr) (at : ℕ) (k : Known) (t c : ℕ) (rs : List ℕ) (r end : ℕ) (after : Known) :
    Type 0 where
  pub credits : List Credit
  pub taken : IsTaken k.credits (length rs) r credits
  pub written : Stands code at (I.Put r t c rs)
  pub one : end ≡ suc at
  pub known : after ≡ with_put k credits t c r rs

-- a constructor of type t and number c, of fields in registers
abbrev pub BuiltAt :
    Setting → List Instr → ℕ → Known → ℕ → ℕ → List ℕ → ℕ → ℕ → Known → Type 0
BuiltAt s code at k t c [] r end after = IsReused at k t c r end after ⊎ IsNewAtom s code at k t c r end after
BuiltAt s code at k t c (f ∷ fs) r end after = IsPut code at k t c (f ∷ fs) r end after

pub record IsLiteral (code : List Instr) (at : ℕ) (k : Known) (i : ℤ) (r end : ℕ) (after : Known) : Type 0 where
  pub written : Stands code at (I.Const r i)
  pub fresh : r ≡ k.next
  pub one : end ≡ suc at
  pub known : after ≡ with_next k (H.Scalar 0)

pub record IsVariable (at : ℕ) (k : Known) (x : Option ℕ) (r end : ℕ) (after : Known) : Type 0 where
  pub named : register_of k.names x ≡ Some r
  pub nothing : end ≡ at
  pub known : after ≡ k

-- From `at` to `end` is what computes an argument into register r, and one that computes arguments into registers.
abbrev mutual
  pub ArgumentAt : Setting → List Instr → ℕ → Known → Argument → ℕ → ℕ → Known → Type 0
  ArgumentAt s code at k (Variable x n p) r end after = IsVariable at k x r end after
  ArgumentAt s code at k (Literal i p) r end after = IsLiteral code at k i r end after
  ArgumentAt s code at k (Constructor t d c n p as') r end after =
      (rs : List ℕ) × (mid : ℕ) × (m : Known) × ArgumentsAt s code at k as' rs mid m
      × BuiltAt s code mid m t c rs r end after

  pub ArgumentsAt : Setting → List Instr → ℕ → Known → Arguments → List ℕ → ℕ → Known → Type 0
  ArgumentsAt s code at k NoArguments [] end after = (end ≡ at) × (after ≡ k)
  ArgumentsAt s code at k NoArguments (r ∷ rs) end after = ⊥
  ArgumentsAt s code at k (MoreArguments a as') [] end after = ⊥
  ArgumentsAt s code at k (MoreArguments a as') (r ∷ rs) end after =
      (mid : ℕ) × (m : Known) × ArgumentAt s code at k a r mid m × ArgumentsAt s code mid m as' rs end after
