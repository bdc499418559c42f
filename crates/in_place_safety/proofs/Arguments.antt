-- The cells of an argument's value are those that the calculus counts: those of the variables in it, and one for each
-- constructor with fields.
use Rattle.std.proofs.Common.{◌≡◌, ℕ, suc, ◌+◌, Bool, true, false, not, ◌&&◌, List, [], ◌∷◌, map, Option, Some, None, slice_get, if◌then◌else◌, refl, sym, ap, ◌∙◌, subst, arith}
use Rattle.tail_groups.specs.fip_language.declared.FunKind.{FunKind}
use Rattle.tail_groups.specs.fip_language.Values.{Value, Int, Node, Values, End, More, count_of, cells, cells_of_all}
use Rattle.tail_groups.specs.fip_language.Table.{Table, is_scalar, HasType, HaveTypes}
use Rattle.tail_groups.specs.fip_language.Meaning.{Environment, more_of}
use Rattle.tail_groups.specs.fip_base.declared.plain.Param.{Param}
use Rattle.tail_groups.specs.fip_trees.Tree.{Argument, Variable, Literal, Constructor, Arguments, NoArguments, MoreArguments, Instance, Program}
use Rattle.type_safety.specs.type_check.Scope.{Scope}
use Rattle.type_safety.specs.type_check.World as Y
use Rattle.type_safety.specs.type_check.Typing.{HasType as IsOfType, HaveTypes as AreOfTypes}
use Rattle.ownership_agreement.specs.fip_rules.World.{World, world, lends, lends_parameter, lends_to}
use Rattle.ownership_agreement.specs.fip_rules.Shapes.{Names, known}
use Rattle.type_safety.specs.instance_semantics.Meaning.{node_of, argument_value, argument_values}
use Rattle.ownership_agreement.specs.ownership_calculus.Terms as C
use Rattle.ownership_agreement.specs.ownership_calculus.Terms.{given, paid, size}
use Rattle.ownership_agreement.specs.Bodies.{Scalars, variable, value, values, passed, header, lent_value}
use Rattle.in_place_safety.specs.Conservation.{owned_cells}
use Rattle.in_place_safety.specs.Counts.{Held, cells_of_value, cells_of_values, cells_passed}
use Rattle.in_place_safety.proofs.Tracking.{Tracked, Tracks, scalar_cells}
use Rattle.in_place_safety.proofs.Patterns.{size_paid}

-- ---- parts of a value

pub node_is : (c : ℕ) (o : Option Values) (v : Value) → node_of c o ≡ Some v → (vs : Values) × (o ≡ Some vs) × (Node c vs ≡ v)
node_is c None v e = cc
node_is c (Some vs) v e = (vs, refl, cc)

pub record Parts (a : Option Value) (b : Option Values) (vs : Values) : Type 0 where
  pub first : Value
  pub rest : Values
  pub is_first : a ≡ Some first
  pub is_rest : b ≡ Some rest
  pub are : More first rest ≡ vs

pub parts_are : (a : Option Value) (b : Option Values) (vs : Values) → more_of a b ≡ Some vs → Parts a b vs
parts_are None b vs e = cc
parts_are (Some v) None vs e = cc
parts_are (Some v) (Some ws) vs e = record { first = v; rest = ws; is_first = refl; is_rest = refl; are = cc }

-- ---- arguments

variable_cells : (tb : Table) (sc : Scalars) (held : Held) (i t : ℕ) (v : Value) (k : ℕ) (b : Bool) → sc i ≡ b → b ≡ is_scalar tb t → HasType tb t v → (is_scalar tb t ≡ false → held i k ≡ cells k v) → cells_of_value held (if b then C.Scalar else C.Named i) k ≡ cells k v
variable_cells tb sc held i t v k true s e g h = sym (scalar_cells tb t v k (sym e) g)
variable_cells tb sc held i t v k false s e g h = h (sym e)

module _ (p : Program) (c : Names) (sc : Scalars) (s : Scope) (env : Environment) (held : Held) (h : Tracks p.types c sc s env held) where
  tracked_cells : (x t : ℕ) (v : Value) (k : ℕ) → Tracked p.types c sc env held x t → env x ≡ Some v → cells_of_value held (variable sc (known c.marks x)) k ≡ cells k v
  tracked_cells x t v k r e =
      let same : r.value ≡ v = some_same r.value v (sym r.is ∙ e) in
      ap (λ o. cells_of_value held (variable sc o) k) r.named
      ∙ variable_cells p.types sc held r.id t r.value k (sc r.id) refl r.scalar r.typed (λ z. r.counted z k)
      ∙ ap (cells k) same
    where
      some_same : (a b : Value) → Some a ≡ Some b → a ≡ b
      some_same a b i = cc

  mutual
    pub value_cells : (b : Bool) (a : Argument) (t : ℕ) (v : Value) (k : ℕ) → IsOfType true (Y.world p) s b a t → argument_value env a ≡ Some v → cells_of_value held (value sc c.marks a) k ≡ cells k v
    value_cells b (Variable None n q) t v k i e = cc
    value_cells b (Variable (Some x) n q) t v k i e = tracked_cells x t v k (h x t i) e
    value_cells b (Literal i q) t v k g e = let same : Int i ≡ v = cc in ap (cells k) same
    value_cells b (Constructor u d m n q as') t v k i e =
        let x = node_is m (argument_values env as') v e in
        let r = values_cells true as' (Y.fields_of (Y.world p) t m) x.0 k i.2 x.1 in
        let f = size_paid k (count_of x.0) in
        let g = ap (λ j. paid j (C.Credit k)) r.1 in
        let j = ap (cells k) x.2 in
        let z = r.0 in omega arith

    pub values_cells : (b : Bool) (as' : Arguments) (ts : List ℕ) (vs : Values) (k : ℕ) → AreOfTypes true (Y.world p) s b as' ts → argument_values env as' ≡ Some vs → (cells_of_values held (values sc c.marks as') k ≡ cells_of_all k vs) × (size (values sc c.marks as') ≡ count_of vs)
    values_cells b NoArguments ts vs k i e = let none : End ≡ vs = cc in (ap (cells_of_all k) none, ap count_of none)
    values_cells b (MoreArguments a as') [] vs k i e = absurd i
    values_cells b (MoreArguments a as') (t ∷ ts) vs k i e =
        let x = parts_are (argument_value env a) (argument_values env as') vs e in
        let f = value_cells b a t x.first k i.0 x.is_first in
        let g = values_cells b as' ts x.rest k i.1 x.is_rest in
        let g0 = g.0 in
        let j = ap (cells_of_all k) x.are in
        (omega arith, ap suc g.1 ∙ ap count_of x.are)

  -- ---- the arguments of a call

  passed_one : (w : World) (lent scalar : Bool) (a : Argument) (gs : C.Passed) (t : ℕ) (v : Value) (k m : ℕ) → scalar ≡ is_scalar p.types t → HasType p.types t v → cells_of_value held (value sc c.marks a) k ≡ cells k v → cells_passed held gs k ≡ m → cells_passed held (if lent && not scalar then C.PassLent (lent_value w sc c.marks a) gs else C.PassOwned (value sc c.marks a) gs) k ≡ (if lent then 0 else cells k v) + m
  passed_one w true true a gs t v k m e g r z = let none = scalar_cells p.types t v k (sym e) g in omega arith
  passed_one w true false a gs t v k m e g r z = omega arith
  passed_one w false scalar a gs t v k m e g r z = omega arith

  lends_is : (w : World) (g j : ℕ) (f : Instance) (q : Param) → slice_get w.instances g ≡ Some f → slice_get f.params j ≡ Some q → lends w g j ≡ (q.lent && not (w.scalar q.ty))
  lends_is w g j f q e i = ap (λ o. lends_to w o j) e ∙ ap (lends_parameter w) i

  pub passed_cells : (kind : FunKind) (g j : ℕ) (f : Instance) (ps : List Param) (b : Bool) (as' : Arguments) (vs : Values) (k : ℕ) → slice_get p.instances g ≡ Some f → ((i : ℕ) → slice_get ps i ≡ slice_get f.params (j + i)) → AreOfTypes true (Y.world p) s b as' (map Y.type_of ps) → argument_values env as' ≡ Some vs → HaveTypes p.types (map Y.type_of ps) vs → cells_passed held (passed (world p kind) sc c.marks g j as') k ≡ owned_cells k ps vs + given k (header (world p kind) g)
  passed_cells kind g j f [] b NoArguments vs k e at i r t = omega arith
  passed_cells kind g j f (q ∷ ps) b NoArguments vs k e at i r t = absurd i
  passed_cells kind g j f [] b (MoreArguments a as') vs k e at i r t = absurd i
  passed_cells kind g j f (q ∷ ps) b (MoreArguments a as') vs k e at i r t =
      let x = parts_are (argument_value env a) (argument_values env as') vs r in
      let typed : HaveTypes p.types (map Y.type_of (q ∷ ps)) (More x.first x.rest) = subst (HaveTypes p.types (map Y.type_of (q ∷ ps))) (sym x.are) t in
      let one = value_cells b a q.ty x.first k i.0 x.is_first in
      let here : slice_get f.params j ≡ Some q = ap (slice_get f.params) (let n : j ≡ j + 0 = omega arith in n) ∙ sym (at 0) in
      let rest = passed_cells kind g (suc j) f ps b as' x.rest k e (λ n. at (suc n) ∙ ap (slice_get f.params) (let m : j + suc n ≡ suc j + n = omega arith in m)) i.1 x.is_rest typed.1 in
      let whole = passed_one (world p kind) q.lent (is_scalar p.types q.ty) a (passed (world p kind) sc c.marks g (suc j) as') q.ty x.first k (owned_cells k ps x.rest + given k (header (world p kind) g)) refl typed.0 one rest in
      let turned = ap (λ z. cells_passed held (if z then C.PassLent (lent_value (world p kind) sc c.marks a) (passed (world p kind) sc c.marks g (suc j) as') else C.PassOwned (value sc c.marks a) (passed (world p kind) sc c.marks g (suc j) as')) k) (lends_is (world p kind) g j f q e here) in
      let back = ap (owned_cells k (q ∷ ps)) x.are in
      omega arith
