-- Arguments are computed: each instruction is as required, and after them what is known goes with the variables that
-- are still owned and with the registers of the arguments.
use Rattle.std.proofs.Common.{◌≡◌, ◌⊎◌, inl, inr, ℕ, zero, suc, ◌+◌, ◌<◌, ◌≤◌, Bool, true, false, List, [], ◌∷◌, length, Some, refl, sym, ap, ◌∙◌, subst, true≢false, arith, slice_get, if◌then◌else◌, ◌==◌}
use Rattle.std.proofs.lemmas.Option.{none-some}
use Rattle.separation.specs.fip_language.Table.{Table, Shape, is_scalar, all_bare, no_fields, shapes}
use Rattle.separation.specs.fip_base.TableView.{fields_at}
use Rattle.derivation_making.specs.type_check.Scope.{Scope}
use Rattle.derivation_making.specs.ownership_calculus.Terms.{Item, Own}
use Rattle.separation.specs.cell_code.declared.kind.Kind.{Kind}
use Rattle.separation.specs.cell_code.Plain.{PlainFunction, PlainCode}
use Rattle.separation.specs.code_rules.Codes.{label_at}
use Rattle.separation.specs.code_rules.Types.{is_type, is_scalar_type, fields, fields_of}
use Rattle.separation.proofs.separation_kinds.Basics.{chosen, refused, or_not, itself, both, below_is}
use Rattle.lowering_relation.specs.declared.held.Held.TheVariants as H
use Rattle.lowering_relation.specs.Known.{Known}
use Rattle.lowering_relation.specs.Values.{built_if}
use Rattle.lowering_relation.specs.Describing.{Holding, held_at}
use Rattle.lowering_soundness.specs.Giving.{is_owned_of, atom_held}
use Rattle.lowering_relation.specs.Labels.{Reports, Shows, reported, Quiet}
use Rattle.lowering_soundness.specs.Ties.{one_if, owners, own, HoldsValue, AllHold, owe, owed, Stays, Ties}
use Rattle.lowering_soundness.specs.Computed.{Computed}
use Rattle.lowering_soundness.proofs.Giving.{owned_tree}
use Rattle.lowering_soundness.proofs.Parts.{both_parts}
use Rattle.lowering_soundness.proofs.Balance.{stays_on, stays_fewer}
use Rattle.lowering_soundness.proofs.Owners.{owners_less}

-- ---- labels

pub quiet_front : (f : PlainFunction) (a b d : ℕ) (m : ℕ → Kind) → b ≤ d → Quiet f a d m → Quiet f a b m
quiet_front f a b d m le q = record {
  first = λ h. q.first (omega (arith, h, le));
  others = λ p x y. q.others p x (omega (arith, y, le));
}

pub quiet_back : (f : PlainFunction) (a b d : ℕ) (m l : ℕ → Kind) → a ≤ b → Quiet f a d m → (a ≡ b → (r : ℕ) → m r ≡ l r) → Quiet f b d l
quiet_back f a b d m l le q same = record {
  first = λ h. first h;
  others = λ p x y. q.others p (omega (arith, x, le)) y;
}
  where
    at_most : (a ≡ b) ⊎ (a < b)
    at_most = grind (arith, le)

    first : b < d → Shows f b l
    first h map there = elim at_most as (λ v. Reports f.registers map l) [
      | inl e ↦ here e (q.first (let z = e in omega (arith, h, z)) map (subst (λ p. label_at f.labels p ≡ Some map) (sym e) there))
      | inr less ↦ absurd (none-some map (sym (q.others b less h) ∙ there))
    ]
      where
        here : a ≡ b → Reports f.registers map m → Reports f.registers map l
        here e t = record { wide = t.wide; each = λ r. t.each r ∙ same e r }

-- ---- types

pub int_scalar : (w : Table) → is_scalar_type w 0 ≡ true
int_scalar w = rw (below_is 0 (suc (length w)) (omega arith)) refl

pub fields_same : (ss : List Shape) (k : ℕ) → fields_at ss k ≡ fields_of (slice_get ss k)
fields_same [] k = refl
fields_same (s ∷ ss) zero = refl
fields_same (s ∷ ss) (suc k) = fields_same ss k

all_bare_at : (ss : List Shape) (k n : ℕ) → all_bare ss ≡ true → length (fields_of (slice_get ss k)) ≡ suc n → ⊥
all_bare_at [] k n b e = absurd (omega (arith, e))
all_bare_at (s ∷ ss) zero n b e = none s.fields (both (no_fields s.fields) (all_bare ss) b).0 e
  where
    none : (ts : List ℕ) → no_fields ts ≡ true → length ts ≡ suc n → ⊥
    none [] x y = absurd (omega (arith, y))
    none (t ∷ ts) x y = true≢false (sym x)
all_bare_at (s ∷ ss) (suc k) n b e = all_bare_at ss k n (both (no_fields s.fields) (all_bare ss) b).1 e

int_fields : (w : Table) (k n : ℕ) → length (fields w 0 k) ≡ suc n → ⊥
int_fields w k n e = absurd (omega (arith, e))

-- a type of which a constructor has a field isn't scalar
pub with_field : (w : Table) (t k n : ℕ) → length (fields w t k) ≡ suc n → is_scalar_type w t ≡ false
with_field w zero k n e = absurd (int_fields w k n e)
with_field w (suc t) k n e = elim (or_not (is_scalar_type w (suc t))) as (λ v. is_scalar_type w (suc t) ≡ false) [
  | inl y ↦ absurd (all_bare_at (shapes w t) k n (both (is_type w (suc t)) (is_scalar w (suc t)) y).1 e)
  | inr y ↦ y
]

pub atom_value : (w : Table) (t k : ℕ) → HoldsValue w t (atom_held w t k)
atom_value w t k = record {
  scalar = λ e. chosen (is_scalar_type w t) (H.Scalar t) (H.Owned t (Some k)) e;
  owned = λ e. ap (is_owned_of t) (refused (is_scalar_type w t) (H.Scalar t) (H.Owned t (Some k)) e) ∙ itself t;
}

pub built_by : (b : Bool) (t k : ℕ) → built_if b t k ≡ (if b then H.Scalar t else H.Owned t (Some k))
built_by true t k = refl
built_by false t k = refl

-- ---- values one after another

-- what a value is owed beside others
pub ties_owe : (fip : Bool) (w : Table) (s : Scope) (B : ℕ → Bool) (K : ℕ → Item → ℕ) (X : Item → ℕ) (e d : ℕ → ℕ) (k : Known) → ((q : ℕ) → e q ≡ d q) → Ties fip w s B K X e k → Ties fip w s B K X d k
ties_owe fip w s B K X e d k same t = let z : e ≡ d = λ i q. same q i in subst (λ e. Ties fip w s B K X e k) z t

pub ties_worth : (fip : Bool) (w : Table) (s : Scope) (B : ℕ → Bool) (K : ℕ → Item → ℕ) (T X : Item → ℕ) (e : ℕ → ℕ) (k : Known) → ((i : Item) → T i ≡ X i) → Ties fip w s B K T e k → Ties fip w s B K X e k
ties_worth fip w s B K T X e k same t = let z : T ≡ X = λ i x. same x i in subst (λ T. Ties fip w s B K T e k) z t

pub value_stays : (w : Table) (t : ℕ) (g h : Holding) (r : ℕ) (n : ℕ → ℕ) → Stays g h n → (is_scalar_type w t ≡ false → 1 ≤ n r) → HoldsValue w t (g r) → HoldsValue w t (h r)
value_stays w t g h r n stays more v = record {
  scalar = λ e. stays.scalar r t (v.scalar e);
  owned = λ e. ap (is_owned_of t) (stays.tree r (more e) (owned_tree t (g r) (v.owned e))) ∙ v.owned e;
}

pub owe_one : (w : Table) (t r : ℕ) → is_scalar_type w t ≡ false → owe w t r r ≡ 1
owe_one w t r e = refused (is_scalar_type w t) 0 (one_if (r == r)) e ∙ ap one_if (itself r)

pub values_stay : (w : Table) (g h : Holding) (n : ℕ → ℕ) (rs ts : List ℕ) → Stays g h n → ((q : ℕ) → owed w rs ts q ≤ n q) → AllHold w g rs ts → AllHold w h rs ts
values_stay w g h n [] [] stays more v = tt
values_stay w g h n [] (t ∷ ts) stays more v = absurd v
values_stay w g h n (r ∷ rs) [] stays more v = absurd v
values_stay w g h n (r ∷ rs) (t ∷ ts) stays more v = (
  value_stays w t g h r n stays (λ e. let a = owe_one w t r e in let z = more r in omega (arith, a, z)) v.0,
  values_stay w g h n rs ts stays (λ q. let z = more q in omega (arith, z)) v.1,
)

module _ (c : PlainCode) (f : PlainFunction) (fip : Bool) (s : Scope) (B : ℕ → Bool) (K : ℕ → Item → ℕ) where
  -- the first values aren't asked any more
  pub computed_then : (Y X : Item → ℕ) (e : ℕ → ℕ) (at : ℕ) (k : Known) (as' us : List ℕ) (mid : ℕ) (m : Known) (rs ts : List ℕ) (end : ℕ) (l : Known) → ((x : ℕ) → X (Own x) ≤ Y (Own x)) → Computed c f fip s B K Y e at k as' us mid m → Computed c f fip s B K X e mid m rs ts end l → Computed c f fip s B K X e at k rs ts end l
  computed_then Y X e at k as' us mid m rs ts end l less a b =
      let low = a.grows in
      let high = b.grows in
      record {
        grows = omega (arith, low, high);
        still = λ z r. (let p : at ≡ mid = omega (arith, low, high, z) in let q : mid ≡ end = omega (arith, low, high, z) in a.still p r ∙ b.still q r);
        part = both_parts c f at mid end (reported c k) (reported c m) (reported c l) a.part b.part;
        names = b.names ∙ a.names;
        next = (let x = a.next in let y = b.next in omega (arith, x, y));
        width = b.width ∙ a.width;
        ties = b.ties;
        hold = b.hold;
        empty = λ q low z. b.empty q (let n = a.next in omega (arith, low, n)) (a.empty q low z);
        stays = stays_on (held_at k.held) (held_at m.held) (held_at l.held) (λ q. owners k.names (own X) q + e q)
            (stays_fewer (held_at k.held) (held_at m.held) (λ q. owners k.names (own Y) q + e q) (λ q. owners k.names (own X) q + e q) (λ q. let z = owners_less k.names (own Y) (own X) q less in omega (arith, z)) a.stays)
            (subst (λ ns. Stays (held_at m.held) (held_at l.held) (λ q. owners ns (own X) q + e q)) a.names b.stays);
      }

  -- both are in their registers
  pub computed_both : (Y X : Item → ℕ) (e : ℕ → ℕ) (at : ℕ) (k : Known) (a u : ℕ) (mid : ℕ) (m : Known) (rs ts : List ℕ) (end : ℕ) (l : Known) → ((x : ℕ) → X (Own x) ≤ Y (Own x)) → Computed c f fip s B K Y e at k (a ∷ []) (u ∷ []) mid m → Computed c f fip s B K X (λ q. owe c.types u a q + e q) mid m rs ts end l → Computed c f fip s B K X e at k (a ∷ rs) (u ∷ ts) end l
  computed_both Y X e at k a u mid m rs ts end l less x y =
      let low = x.grows in
      let high = y.grows in
      record {
        grows = omega (arith, low, high);
        still = λ z r. (let p : at ≡ mid = omega (arith, low, high, z) in let q : mid ≡ end = omega (arith, low, high, z) in x.still p r ∙ y.still q r);
        part = both_parts c f at mid end (reported c k) (reported c m) (reported c l) x.part y.part;
        names = y.names ∙ x.names;
        next = (let p = x.next in let q = y.next in omega (arith, p, q));
        width = y.width ∙ x.width;
        ties = ties_owe fip c.types s B K X (λ q. owed c.types rs ts q + (owe c.types u a q + e q)) (λ q. (owe c.types u a q + owed c.types rs ts q) + e q) l (λ q. omega arith) y.ties;
        hold = (value_stays c.types u (held_at m.held) (held_at l.held) a (λ q. owners m.names (own X) q + (owe c.types u a q + e q)) y.stays (λ z. let one = owe_one c.types u a z in omega (arith, one)) x.hold.0, y.hold);
        empty = λ q low z. y.empty q (let n = x.next in omega (arith, low, n)) (x.empty q low z);
        stays = stays_on (held_at k.held) (held_at m.held) (held_at l.held) (λ q. owners k.names (own X) q + e q)
            (stays_fewer (held_at k.held) (held_at m.held) (λ q. owners k.names (own Y) q + e q) (λ q. owners k.names (own X) q + e q) (λ q. let z = owners_less k.names (own Y) (own X) q less in omega (arith, z)) x.stays)
            (subst (λ ns. Stays (held_at m.held) (held_at l.held) (λ q. owners ns (own X) q + e q)) x.names
            (stays_fewer (held_at m.held) (held_at l.held) (λ q. owners m.names (own X) q + (owe c.types u a q + e q)) (λ q. owners m.names (own X) q + e q) (λ q. omega arith) y.stays));
      }
