-- It serves the proof that lowered code is sound: the variables in scope of a part of a body, where the binders of the
-- body are numbered in the order of the text.
use Rattle.std.specs.Prelude.{◌≡◌, ◌<◌, ◌≤◌, ◌+◌, ℕ, suc, Bool, true, List, [], ◌∷◌, Some, length, slice_get}
use Rattle.separation.specs.fip_base.declared.plain.Param.{Param}
use Rattle.lowering_relation.specs.fip_trees.declared.program.Binder.{Binder}
use Rattle.lowering_relation.specs.fip_trees.Tree.{Expression, Give, Tuple, Operation, Call, Match, Nested, Block, Last, Let, Instance}
use Rattle.lowering_relation.specs.fip_trees.Tree.{Clauses, NoClauses, MoreClauses}
use Rattle.derivation_making.specs.fip_rules.Shapes.{Names, known, following, shape, binders, takes}
use Rattle.derivation_making.specs.fip_rules.World as R
use Rattle.derivation_making.specs.type_check.Scope.{Scope, of_binder}
use Rattle.derivation_making.specs.type_check.World as W
use Rattle.derivation_making.specs.ownership_calculus.Terms.{Item, Own}
use Rattle.derivation_making.specs.ownership_agreement.Bodies.{Scalars, inside, past_clause}
use Rattle.separation.specs.cell_code.Plain.{PlainCode}
use Rattle.separation.specs.code_rules.Types.{is_type, is_scalar_type}
use Rattle.lowering_relation.specs.Values.{Setting}

-- each variable in scope is known by its own number, is before what follows, and has a type
pub record Placed (c : PlainCode) (s : Scope) (sc : Scalars) (n : Names) : Type 0 where
  pub seen : (x t : ℕ) → of_binder s (Some x) ≡ Some (Some t) → known n.marks x ≡ Some x
  pub scalar : (x t : ℕ) → of_binder s (Some x) ≡ Some (Some t) → sc x ≡ is_scalar_type c.types t
  pub before : (x t : ℕ) → of_binder s (Some x) ≡ Some (Some t) → x < n.next
  pub typed : (x t : ℕ) → of_binder s (Some x) ≡ Some (Some t) → is_type c.types t ≡ true

-- nothing is owned of variables from n on
abbrev pub NoneFrom : ℕ → (Item → ℕ) → Type 0
NoneFrom n T = (y : ℕ) → n ≤ y → T (Own y) ≡ 0

-- binders have the numbers from n on
abbrev pub InOrder : ℕ → List Binder → Type 0
InOrder n [] = Unit {0}
InOrder n (b ∷ bs) = (b.number ≡ n) × InOrder (suc n) bs

-- binders have the next numbers, and there are no more than m in all
abbrev mutual
  pub Numbered : R.World → ℕ → Names → Expression → Type 0
  Numbered w m n (Give a) = Unit {0}
  Numbered w m n (Tuple p as') = Unit {0}
  Numbered w m n (Operation o p a b) = Unit {0}
  Numbered w m n (Call g f p as') = Unit {0}
  Numbered w m n (Match k t p a q b cs) =
      InOrder n.next (binders q) × (n.next + length (binders q) ≤ m)
      × NumberedBlock w m (inside w (takes w k t) n (binders q)) b
      × NumberedClauses w m (takes w k t) (past_clause w (takes w k t) n q b) cs
  Numbered w m n (Nested b) = NumberedBlock w m n b

  pub NumberedBlock : R.World → ℕ → Names → Block → Type 0
  NumberedBlock w m n (Last e) = Numbered w m n e
  NumberedBlock w m n (Let bs e rest) =
      InOrder (following n (shape w n e)).next bs × ((following n (shape w n e)).next + length bs ≤ m) × Numbered w m n e
      × NumberedBlock w m (inside w true (following n (shape w n e)) bs) rest

  pub NumberedClauses : R.World → ℕ → Bool → Names → Clauses → Type 0
  NumberedClauses w m taken n NoClauses = Unit {0}
  NumberedClauses w m taken n (MoreClauses q b cs) =
      InOrder n.next (binders q) × (n.next + length (binders q) ≤ m)
      × NumberedBlock w m (inside w taken n (binders q)) b
      × NumberedClauses w m taken (past_clause w taken n q b) cs

abbrev pub AreTypes : PlainCode → List ℕ → Type 0
AreTypes c [] = Unit {0}
AreTypes c (t ∷ ts) = (is_type c.types t ≡ true) × AreTypes c ts

-- the parameters of an instance have types
abbrev pub ParamsTyped : PlainCode → List Param → Type 0
ParamsTyped c [] = Unit {0}
ParamsTyped c (p ∷ ps) = (is_type c.types p.ty ≡ true) × ParamsTyped c ps

-- the instances are the same to those who type them, to those who ask for ownership, and to lowering
pub record Callees (c : PlainCode) (st : Setting) (wd : W.World) (w : R.World) : Type 0 where
  pub same : w.instances ≡ st.instances
  pub heads : (g : ℕ) (d : Instance) → slice_get st.instances g ≡ Some d → W.head wd g ≡ W.head_of d
  pub typed : (g : ℕ) (d : Instance) → slice_get st.instances g ≡ Some d → ParamsTyped c d.params
  pub results : (g : ℕ) → AreTypes c (W.head wd g).results
  pub fields : (t d : ℕ) → AreTypes c (W.fields_of wd t d)
  pub scalars : (t : ℕ) → is_type c.types t ≡ true → w.scalar t ≡ is_scalar_type c.types t
