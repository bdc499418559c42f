-- It serves the proofs on lowered code: which instructions compute an expression or a block, and where its results go.
-- The results are the function's, by a Ret or a Tail, or they go to given registers. The variables of a let are other
-- names of the registers that arguments are computed into; of an operator or a call they get registers of their own.
-- The last expression of
--   let y = x + 1; f(y)
-- where x is in register 0 and 1 is the next one, is lowered to Const 2 1; Arith 1 + 0 2; Tail f [1]. Of the
-- instructions that choose the clause of a match it says only what they end in; each clause has its body once.
use Rattle.std.specs.Prelude.{◌≡◌, ◌⊎◌, ◌<◌, ◌≤◌, ◌+◌, ℕ, suc, Bool}
use Rattle.std.specs.Prelude.{true, false, List, [], ◌∷◌, ◌++◌, Option, Some, None}
use Rattle.std.specs.Prelude.{length, slice_get, slice_set, get_or, if◌then◌else◌}
use Rattle.tree_semantics.specs.fip_language.declared.Place.{Place}
use Rattle.tree_semantics.specs.fip_language.declared.Operator.{Operator}
use Rattle.tree_semantics.specs.fip_language.declared.Operator.TheVariants as O
use Rattle.credit_check.specs.fip_base.declared.plain.Param.{Param}
use Rattle.credit_check.specs.fip_trees.declared.program.Binder.{Binder}
use Rattle.credit_check.specs.fip_trees.Tree.{Expression, Give, Tuple, Operation, Call, Match, Nested}
use Rattle.credit_check.specs.fip_trees.Tree.{Block, Last, Let, Clauses, NoClauses, MoreClauses, Instance}
use Rattle.code_rules.specs.cell_code.declared.code.Instr.{Instr}
use Rattle.code_rules.specs.cell_code.declared.code.Instr.TheVariants as I
use Rattle.lowering_relation.specs.declared.held.Held.{Held}
use Rattle.lowering_relation.specs.declared.held.Held.TheVariants as H
use Rattle.lowering_relation.specs.declared.held.Credit.{Credit}
use Rattle.lowering_relation.specs.Known.{Known, joined, named, holding, with_next, used, IsTaken}
use Rattle.lowering_relation.specs.Choosing.{Entry, IsChoice, Opens, Meets, MeetsFirst}
use Rattle.lowering_relation.specs.Values.{Setting, is_scalar, Stands, ArgumentAt, ArgumentsAt}
pub use Rattle.lowering_relation.specs.FunctionNumbers.{has_function, one_more, if_function, function_of}

pub data Target : Type 0 where
  -- they are the function's
  Return : Target
  -- into these registers
  Into : (ds : List ℕ) → Target

-- what is left is given up

abbrev pub IsEmpty : List ℕ → Type 0
IsEmpty [] = Unit {0}
IsEmpty (r ∷ rs) = ⊥

-- an instruction that gives up what a register holds, and computes nothing
abbrev pub GivesUp : Option Instr → Type 0
GivesUp None = ⊥
GivesUp (Some (I.Const d v)) = ⊥
GivesUp (Some (I.Atom d t c)) = ⊥
GivesUp (Some (I.Move d r)) = ⊥
GivesUp (Some (I.Arith d o x y line col)) = ⊥
GivesUp (Some (I.Test r c target)) = ⊥
GivesUp (Some (I.TestInt r v target)) = ⊥
GivesUp (Some (I.Peek d r i)) = ⊥
GivesUp (Some (I.Take r ds)) = IsEmpty ds
GivesUp (Some (I.Put r t c ss)) = ⊥
GivesUp (Some (I.Drop r)) = Unit {0}
GivesUp (Some (I.Free r)) = Unit {0}
GivesUp (Some (I.Call f ss ds)) = ⊥
GivesUp (Some (I.Tail f ss)) = ⊥
GivesUp (Some (I.Ret ss)) = ⊥
GivesUp (Some (I.Jump target)) = ⊥

-- so many such instructions, from `at` on
abbrev pub GiveUp : List Instr → ℕ → ℕ → Type 0
GiveUp code n at = (p : ℕ) → at ≤ p → p < at + n → GivesUp (slice_get code p)

-- results are handed on

-- a constructor that was matched, where its register is named as a value
abbrev pub as_value : Held → Held
as_value H.Nothing = H.Nothing
as_value (H.Scalar t) = H.Scalar t
as_value (H.Owned t b) = H.Owned t b
as_value (H.Lent t root) = H.Lent t root
as_value (H.Credit n) = H.Credit n
as_value (H.Bare t c) = H.Owned t (Some c)

abbrev pub moved : Known → ℕ → ℕ → Known
moved k d r = record k { held = slice_set (used k.held r) d (as_value (get_or k.held r H.Nothing)) }

pub record IsMove (code : List Instr) (at : ℕ) (k : Known) (r d end : ℕ) (after : Known) : Type 0 where
  pub written : Stands code at (I.Move d r)
  pub one : end ≡ suc at
  pub known : after ≡ moved k d r

-- it is there
pub record IsThere (at : ℕ) (k : Known) (r d end : ℕ) (after : Known) : Type 0 where
  pub same : r ≡ d
  pub nothing : end ≡ at
  pub known : after ≡ k

-- registers are moved to others, one after another
abbrev pub MovedAt : List Instr → ℕ → Known → List ℕ → List ℕ → ℕ → Known → Type 0
MovedAt code at k [] ds end after = (end ≡ at) × (after ≡ k)
MovedAt code at k (r ∷ rs) [] end after = (end ≡ at) × (after ≡ k)
MovedAt code at k (r ∷ rs) (d ∷ ds) end after =
    (mid : ℕ) × (m : Known) × (IsMove code at k r d mid m ⊎ IsThere at k r d mid m) × MovedAt code mid m rs ds end after

-- the results in these registers are the function's
pub record IsRet (code : List Instr) (at : ℕ) (rs : List ℕ) (end : ℕ) : Type 0 where
  pub given_up : ℕ
  pub give_up : GiveUp code given_up at
  pub written : Stands code (at + given_up) (I.Ret rs)
  pub one : end ≡ suc (at + given_up)

abbrev pub GivenAt : List Instr → ℕ → Known → List ℕ → Target → ℕ → Known → Type 0
GivenAt code at k rs Return end after = IsRet code at rs end
GivenAt code at k rs (Into ds) end after = MovedAt code at k rs ds end after

-- an operator

abbrev pub result_type : Operator → ℕ
result_type O.Add = 0
result_type O.Subtract = 0
result_type O.Multiply = 0
result_type O.Divide = 0
result_type O.Remainder = 0
result_type O.Equal = 1
result_type O.NotEqual = 1
result_type O.Less = 1
result_type O.LessOrEqual = 1
result_type O.Greater = 1
result_type O.GreaterOrEqual = 1

-- the register that a single result goes to, and that it holds this then
abbrev pub GoesTo : Target → Known → Held → ℕ → Known → Type 0
GoesTo Return k h d after = (d ≡ k.next) × (after ≡ with_next k h)
GoesTo (Into []) k h d after = (d ≡ k.next) × (after ≡ with_next k h)
GoesTo (Into (e ∷ ds)) k h d after = (d ≡ e) × (after ≡ holding k e h)

pub record IsOperation (code : List Instr) (at : ℕ) (k : Known) (o : Operator) (p : Place) (x y : ℕ) (target : Target)
    (end : ℕ) (after : Known) : Type 0 where
  pub destination : ℕ
  pub holds : Known
  pub written : Stands code at (I.Arith destination o x y p.line p.col)
  pub goes : GoesTo target k (H.Scalar (result_type o)) destination holds
  pub given : GivenAt code (suc at) holds (destination ∷ []) target end after

-- a call

-- what isn't borrowed is used up
abbrev pub handed : List Held → List Param → List ℕ → List Held
handed hs [] rs = hs
handed hs (p ∷ ps) [] = hs
handed hs (p ∷ ps) (r ∷ rs) = handed (if p.lent then hs else used hs r) ps rs

-- credits of these sizes are taken, in registers rs
abbrev pub AreTaken : Known → List ℕ → List ℕ → Known → Type 0
AreTaken k [] [] after = after ≡ k
AreTaken k [] (r ∷ rs) after = ⊥
AreTaken k (n ∷ ns) [] after = ⊥
AreTaken k (n ∷ ns) (r ∷ rs) after =
    (rest : List Credit) × IsTaken k.credits n r rest
    × AreTaken (record k { held = slice_set k.held r H.Nothing; credits = rest }) ns rs after

abbrev pub given_if : Bool → ℕ → Held
given_if true t = H.Scalar t
given_if false t = H.Owned t None

-- what a register holds that was given a value of a type
abbrev pub given : Setting → ℕ → Held
given s t = given_if (is_scalar s t) t

abbrev pub received : Setting → List Held → List ℕ → List ℕ → List Held
received s hs [] ds = hs
received s hs (t ∷ ts) [] = hs
received s hs (t ∷ ts) (d ∷ ds) = received s (slice_set hs d (given s t)) ts ds

pub record IsTail (code : List Instr) (at f : ℕ) (rs : List ℕ) (end : ℕ) : Type 0 where
  pub given_up : ℕ
  pub give_up : GiveUp code given_up at
  pub written : Stands code (at + given_up) (I.Tail f rs)
  pub one : end ≡ suc (at + given_up)

pub record IsCallOf (s : Setting) (code : List Instr) (at : ℕ) (k : Known) (f : ℕ) (rs results ds : List ℕ) (end : ℕ)
    (after : Known) : Type 0 where
  pub written : Stands code at (I.Call f rs ds)
  pub one : end ≡ suc at
  pub known : after ≡ record k { held = received s k.held results ds }

abbrev pub EndsCall :
    Setting → List Instr → ℕ → Known → ℕ → List ℕ → List ℕ → Target → ℕ → Known → Type 0
EndsCall s code at k f rs results Return end after = IsTail code at f rs end
EndsCall s code at k f rs results (Into ds) end after = IsCallOf s code at k f rs results ds end after

-- a call of instance g with arguments in registers rs
pub record IsCall (s : Setting) (code : List Instr) (at : ℕ) (k : Known) (g : ℕ) (rs : List ℕ) (target : Target)
    (end : ℕ) (after : Known) : Type 0 where
  pub function : ℕ
  pub instance : Instance
  pub credits : List ℕ
  pub m : Known
  pub numbered : joined (slice_get s.functions g) ≡ Some function
  pub there : slice_get s.instances g ≡ Some instance
  pub taken : AreTaken (record k { held = handed k.held instance.params rs }) instance.credits credits m
  pub ends : EndsCall s code at m function (rs ++ credits) instance.results target end after

-- lets

-- registers for the variables of a let, from r on
abbrev pub registers_for : ℕ → List Binder → List ℕ
registers_for r [] = []
registers_for r (b ∷ bs) = r ∷ registers_for (suc r) bs

abbrev pub reserved : Known → List Binder → Known
reserved k bs = record k { next = k.next + length bs }

-- variables have these registers
abbrev pub all_named : List (Option ℕ) → List Binder → List ℕ → List (Option ℕ)
all_named names [] rs = names
all_named names (b ∷ bs) [] = names
all_named names (b ∷ bs) (r ∷ rs) = all_named (named names b.number r) bs rs

abbrev pub with_names : Known → List Binder → List ℕ → Known
with_names k bs rs = record k { names = all_named k.names bs rs }

-- an expression that only gives arguments
abbrev pub ValuesAt : Setting → List Instr → ℕ → Known → Expression → List ℕ → ℕ → Known → Type 0
ValuesAt s code at k (Give a) [] end after = ⊥
ValuesAt s code at k (Give a) (r ∷ []) end after = ArgumentAt s code at k a r end after
ValuesAt s code at k (Give a) (r ∷ q ∷ rs) end after = ⊥
ValuesAt s code at k (Tuple p as') rs end after = ArgumentsAt s code at k as' rs end after
ValuesAt s code at k (Operation o p a b) rs end after = ⊥
ValuesAt s code at k (Call g n p as') rs end after = ⊥
ValuesAt s code at k (Match ds t p a q b cs) rs end after = ⊥
ValuesAt s code at k (Nested b) rs end after = ⊥

-- The end of a clause: what it leaves is given up, and it goes where the clauses meet.
pub record IsJoin (code : List Instr) (first : Bool) (last : ℕ) (m : Known) (end : ℕ) (after : Known) : Type 0 where
  pub given_up : ℕ
  pub give_up : GiveUp code given_up last
  pub goes : Stands code (last + given_up) (I.Jump end) ⊎ (end ≡ last + given_up)
  pub meets : Meets m after
  pub of_first : first ≡ true → MeetsFirst m after

abbrev pub Joins : List Instr → Bool → Target → ℕ → Known → ℕ → Known → Type 0
Joins code first Return last m end after = Unit {0}
Joins code first (Into ds) last m end after = IsJoin code first last m end after

-- a clause with this entry, the first one or another, whose body is so
abbrev pub ClauseAt :
    (ℕ → Known → ℕ → Known → Type 0) → List Instr → Known → ℕ → Entry → Bool → Target → ℕ → Known → Type 0
ClauseAt body code l r e first target end after =
    (last : ℕ) × (m : Known) × Opens l r e.known × body e.at e.known last m × Joins code first target last m end after

-- From `at` to `end` is what computes an expression, or a block, and hands its results to the target.
abbrev mutual
  pub ExpressionAt : Setting → List Instr → ℕ → Known → Expression → Target → ℕ → Known → Type 0
  ExpressionAt s code at k (Give a) target end after =
      (r : ℕ) × (mid : ℕ) × (m : Known) × ArgumentAt s code at k a r mid m
      × GivenAt code mid m (r ∷ []) target end after
  ExpressionAt s code at k (Tuple p as') target end after =
      (rs : List ℕ) × (mid : ℕ) × (m : Known) × ArgumentsAt s code at k as' rs mid m
      × GivenAt code mid m rs target end after
  ExpressionAt s code at k (Operation o p a b) target end after =
      (x : ℕ) × (i : ℕ) × (l : Known) × (y : ℕ) × (j : ℕ) × (m : Known) × ArgumentAt s code at k a x i l
      × ArgumentAt s code i l b y j m × IsOperation code j m o p x y target end after
  ExpressionAt s code at k (Call g n p as') target end after =
      (rs : List ℕ) × (mid : ℕ) × (m : Known) × ArgumentsAt s code at k as' rs mid m
      × IsCall s code mid m g rs target end after
  ExpressionAt s code at k (Match ds t p a q b cs) target end after =
      (r : ℕ) × (mid : ℕ) × (m : Known) × (given_up : ℕ) × (first : Entry) × (others : List Entry)
      × ArgumentAt s code at k a r mid m × GiveUp code given_up mid
      × IsChoice code (mid + given_up) m s.types t r q cs first others
      × ClauseAt (λ i n last o. BlockAt s code i n b target last o) code m r first true target end after
      × ClausesAt s code m r cs others target end after
  ExpressionAt s code at k (Nested b) target end after = BlockAt s code at k b target end after

  pub BlockAt : Setting → List Instr → ℕ → Known → Block → Target → ℕ → Known → Type 0
  BlockAt s code at k (Last e) target end after = ExpressionAt s code at k e target end after
  BlockAt s code at k (Let bs e rest) target end after =
      ((rs : List ℕ) × (mid : ℕ) × (m : Known) × ValuesAt s code at k e rs mid m
      × BlockAt s code mid (with_names m bs rs) rest target end after)
      ⊎ ((mid : ℕ) × (m : Known)
      × ExpressionAt s code at (reserved k bs) e (Into (registers_for k.next bs)) mid m
      × BlockAt s code mid (with_names m bs (registers_for k.next bs)) rest target end after)

  pub ClausesAt : Setting → List Instr → Known → ℕ → Clauses → List Entry → Target → ℕ → Known → Type 0
  ClausesAt s code l r NoClauses es target end after = Unit {0}
  ClausesAt s code l r (MoreClauses q b cs) [] target end after = ⊥
  ClausesAt s code l r (MoreClauses q b cs) (e ∷ es) target end after =
      ClauseAt (λ i n last o. BlockAt s code i n b target last o) code l r e false target end after
      × ClausesAt s code l r cs es target end after
