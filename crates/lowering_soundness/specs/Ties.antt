-- It serves the proof that lowered code is sound: how what is known of registers goes with the variables in scope. Each
-- variable that is owned has a register with a tree of its type, and no other variable that is owned has it; beside
-- these registers own the trees of arguments that were just computed. In fbip a register may own more.
-- In the body of f(x, y), where x and y are lists and in registers 0 and 1, and x was used up, the owned variables are
-- just y: register 1 owns a tree, and no other does.
use Rattle.std.specs.Prelude.{◌≡◌, ℕ, suc, ◌+◌, ◌≤◌, Bool, true, false, ◌&&◌, List, [], ◌∷◌, Option, Some, None}
use Rattle.std.specs.Prelude.{length, ◌==◌, if◌then◌else◌}
use Rattle.separation.specs.fip_language.Table.{Table}
use Rattle.derivation_making.specs.ownership_calculus.Terms.{Item, Own, Credit}
use Rattle.derivation_making.specs.ownership_calculus.Rules.{Fits}
use Rattle.derivation_making.specs.type_check.Scope.{Scope, of_binder}
use Rattle.separation.specs.code_rules.Types.{is_scalar_type, fields}
use Rattle.lowering_relation.specs.declared.held.Held.{Held}
use Rattle.lowering_relation.specs.declared.held.Held.TheVariants as H
use Rattle.lowering_relation.specs.declared.held.Credit as C
use Rattle.lowering_relation.specs.Known.{Known, register_of}
use Rattle.lowering_relation.specs.Describing.{Holding, held_at, is_tree}
use Rattle.lowering_soundness.specs.Giving.{is_owned_of, is_credit_of}

-- 1 where two numbers are the same
abbrev pub one_if : Bool → ℕ
one_if true = 1
one_if false = 0

abbrev pub is_register : Option ℕ → ℕ → Bool
is_register None r = false
is_register (Some q) r = q == r

-- how often variables with register r are owned, by their numbers from 0 on
abbrev pub owners : List (Option ℕ) → (ℕ → ℕ) → ℕ → ℕ
owners [] T r = 0
owners (o ∷ os) T r = (if is_register o r then T 0 else 0) + owners os (λ x. T (suc x)) r

-- how many credits of a size there are
abbrev pub sized : ℕ → List C.Credit → ℕ
sized n [] = 0
sized n (c ∷ cs) = one_if (c.size == n) + sized n cs

-- how many of them are in register r
abbrev pub counted : ℕ → ℕ → List C.Credit → ℕ
counted n r [] = 0
counted n r (c ∷ cs) = one_if ((c.size == n) && (c.register == r)) + counted n r cs

-- how often variables are owned
abbrev pub own : (Item → ℕ) → ℕ → ℕ
own T x = T (Own x)

-- a tree of type u that is only read
abbrev pub is_read_of : ℕ → Held → Bool
is_read_of u H.Nothing = false
is_read_of u (H.Scalar t) = false
is_read_of u (H.Owned t b) = t == u
is_read_of u (H.Lent t root) = t == u
is_read_of u (H.Credit n) = false
is_read_of u (H.Bare t c) = false

-- what the register of a value of type t holds
pub record HoldsValue (w : Table) (t : ℕ) (h : Held) : Type 0 where
  pub scalar : is_scalar_type w t ≡ true → h ≡ H.Scalar t
  pub owned : is_scalar_type w t ≡ false → is_owned_of t h ≡ true

-- the registers of values of these types
abbrev pub AllHold : Table → Holding → List ℕ → List ℕ → Type 0
AllHold w g [] [] = Unit {0}
AllHold w g [] (t ∷ ts) = ⊥
AllHold w g (r ∷ rs) [] = ⊥
AllHold w g (r ∷ rs) (t ∷ ts) = HoldsValue w t (g r) × AllHold w g rs ts

-- how often register q owns the value of type t in register r
abbrev pub owe : Table → ℕ → ℕ → ℕ → ℕ
owe w t r q = if is_scalar_type w t then 0 else one_if (r == q)

abbrev pub owed : Table → List ℕ → List ℕ → ℕ → ℕ
owed w [] ts q = 0
owed w (r ∷ rs) [] q = 0
owed w (r ∷ rs) (t ∷ ts) q = owe w t r q + owed w rs ts q

-- each register owns as many trees, or in fbip at least as many
abbrev pub Balanced : Bool → Holding → (ℕ → ℕ) → Type 0
Balanced fip g n = (r : ℕ) → Fits fip (one_if (is_tree (g r))) (n r)

-- what is borrowed lies in a tree that a register owns
abbrev pub Rooted : Holding → Type 0
Rooted g = (r t q : ℕ) → g r ≡ H.Lent t (Some q) → is_tree (g q) ≡ true

-- What is reported of registers stays: of scalars, of trees that are owned from outside, and of what is borrowed from
-- these.
pub record Stays (g h : Holding) (n : ℕ → ℕ) : Type 0 where
  pub scalar : (r t : ℕ) → g r ≡ H.Scalar t → h r ≡ H.Scalar t
  pub tree : (r : ℕ) → 1 ≤ n r → is_tree (g r) ≡ true → h r ≡ g r
  pub lent : (r t : ℕ) → g r ≡ H.Lent t None → h r ≡ H.Lent t None
  pub lent_of : (r t q : ℕ) → g r ≡ H.Lent t (Some q) → 1 ≤ n q → h r ≡ H.Lent t (Some q)

-- what the register of a variable of type t holds, which is owned so often, or borrowed
pub record HoldsVariable (w : Table) (t : ℕ) (h : Held) (n : ℕ) (borrowed : Bool) : Type 0 where
  pub scalar : is_scalar_type w t ≡ true → h ≡ H.Scalar t
  pub owned : is_scalar_type w t ≡ false → 1 ≤ n → is_owned_of t h ≡ true
  pub read : is_scalar_type w t ≡ false → borrowed ≡ true → is_read_of t h ≡ true

-- what is read of register r, which holds this, lies in a tree that variables own so often
abbrev pub LiesIn : (ℕ → ℕ) → ℕ → Held → Type 0
LiesIn n r H.Nothing = Unit {0}
LiesIn n r (H.Scalar t) = Unit {0}
LiesIn n r (H.Owned t b) = 1 ≤ n r
LiesIn n r (H.Lent t None) = Unit {0}
LiesIn n r (H.Lent t (Some q)) = 1 ≤ n q
LiesIn n r (H.Credit k) = Unit {0}
LiesIn n r (H.Bare t c) = Unit {0}

-- A constructor that was matched is one without fields, of a type that isn't scalar.
abbrev pub BareRight : Table → Holding → Type 0
BareRight w g = (r t c : ℕ) → g r ≡ H.Bare t c → (is_scalar_type w t ≡ false) × (length (fields w t c) ≡ 0)

-- T is owned, B borrowed, and what is read of a variable x that is borrowed lies in trees of K x; beside, registers
-- own so many trees of arguments.
pub record Ties (fip : Bool) (w : Table) (s : Scope) (B : ℕ → Bool) (K : ℕ → Item → ℕ) (T : Item → ℕ) (e : ℕ → ℕ)
    (k : Known) : Type 0 where
  pub variables : (x r t : ℕ) → register_of k.names (Some x) ≡ Some r → of_binder s (Some x) ≡ Some (Some t) →
      HoldsVariable w t (held_at k.held r) (T (Own x)) (B x)
  pub trees : Balanced fip (held_at k.held) (λ r. owners k.names (own T) r + e r)
  pub lent : (x r t : ℕ) → register_of k.names (Some x) ≡ Some r → of_binder s (Some x) ≡ Some (Some t) →
      B x ≡ true → LiesIn (owners k.names (own (K x))) r (held_at k.held r)
  pub rooted : Rooted (held_at k.held)
  pub bares : BareRight w (held_at k.held)
  pub sizes : (n : ℕ) → Fits fip (sized n k.credits) (T (Credit n))
  pub credits : (n r : ℕ) → counted n r k.credits ≡ one_if (is_credit_of n (held_at k.held r))
  pub fresh : (r : ℕ) → k.next ≤ r → held_at k.held r ≡ H.Nothing
  pub named : (x r : ℕ) → register_of k.names (Some x) ≡ Some r → suc r ≤ k.next
