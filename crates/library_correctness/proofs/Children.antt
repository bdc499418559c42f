-- The children of a node whose constructor is known, by its type; ints; and nodes with equal children.
use Rattle.std.proofs.Common.{◌≡◌, ℕ, suc, ℤ, Option, Some, None, slice_get, FitsSigned, refl, sym, subst}
use Rattle.std.specs.Int.{w64}
use Rattle.fip_language.specs.Values.{Value, Int, Node, Values, End, More}
use Rattle.fip_language.specs.Table.{Shape, Table, shapes, HasType, HaveTypes}

abbrev pub Children : Table → Option Shape → Values → Type 0
Children tb None vs = ⊥
Children tb (Some s) vs = HaveTypes tb s.fields vs

pub children : (tb : Table) (t c : ℕ) (vs : Values) → HasType tb (suc t) (Node c vs) → Children tb (slice_get (shapes tb t) c) vs
children tb t c vs h = subst (λ o. Children tb o vs) (sym h.1) h.2

pub record IsInt (v : Value) : Type 0 where
  pub int : ℤ
  pub is : v ≡ Int int
  pub fit : FitsSigned w64 int

pub int_of : (tb : Table) (v : Value) → HasType tb 0 v → IsInt v
int_of tb (Int i) h = record { int = i; is = refl; fit = h }
int_of tb (Node c vs) h = absurd h

pub same_two : {n : ℕ} {a a' b b' : Value} → a ≡ a' → b ≡ b' → Node n (More a (More b End)) ≡ Node n (More a' (More b' End))
same_two e f = cc

pub same_three : {n : ℕ} {a a' b b' c c' : Value} → a ≡ a' → b ≡ b' → c ≡ c' → Node n (More a (More b (More c End))) ≡ Node n (More a' (More b' (More c' End)))
same_three e f g = cc

pub same_four : {n : ℕ} {a a' b b' c c' d d' : Value} → a ≡ a' → b ≡ b' → c ≡ c' → d ≡ d' → Node n (More a (More b (More c (More d End)))) ≡ Node n (More a' (More b' (More c' (More d' End))))
same_four e f g h = cc
