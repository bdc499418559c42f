-- A register gets a value, or the registers of values are given: what is known of registers goes with the variables
-- after it.
use Rattle.std.proofs.Common.{◌≡◌, inl, inr, ℕ, ◌+◌, ◌≤◌, Bool, true, false, List, [], ◌∷◌, length, Option, Some, None, refl, sym, ap, ◌∙◌, subst, true≢false, arith, ◌==◌}
use Rattle.separation.specs.fip_language.Table.{Table}
use Rattle.derivation_making.specs.ownership_calculus.Terms.{Item, Own, Credit}
use Rattle.derivation_making.specs.ownership_calculus.Rules.{Fits}
use Rattle.derivation_making.proofs.ownership_calculus.Fit.{fits_same}
use Rattle.derivation_making.specs.type_check.Scope.{Scope}
use Rattle.separation.specs.code_rules.Types.{is_scalar_type, fields}
use Rattle.separation.proofs.separation_kinds.Basics.{pick, chosen, refused, or_not, equal, unequal, unequal_is, itself}
use Rattle.lowering_relation.specs.declared.held.Held.{Held}
use Rattle.lowering_relation.specs.declared.held.Held.TheVariants as H
use Rattle.lowering_relation.specs.Known.{Known, used_all}
use Rattle.lowering_relation.specs.Describing.{Holding, held_at, setting, is_tree}
use Rattle.lowering_soundness.specs.Covering.{using, using_all}
use Rattle.lowering_soundness.specs.Giving.{is_owned_of, is_credit_of, can_give}
use Rattle.lowering_soundness.specs.Ties.{one_if, owners, sized, counted, own, HoldsValue, AllHold, owe, owed, Balanced, Rooted, Stays, BareRight, Ties}
use Rattle.lowering_soundness.proofs.Giving.{owned_tree}
use Rattle.lowering_soundness.proofs.Balance.{fits_zero, using_either, using_credit, using_nothing, rooted_using, balanced_same, given_all}
use Rattle.lowering_soundness.proofs.Owners.{owners_same}
use Rattle.lowering_soundness.proofs.Tying.{ties_on}
use Rattle.lowering_soundness.proofs.Helds.{held_used_all}

-- it holds no value
abbrev pub is_idle : Held → Bool
is_idle H.Nothing = true
is_idle (H.Scalar t) = false
is_idle (H.Owned t b) = false
is_idle (H.Lent t root) = false
is_idle (H.Credit n) = true
is_idle (H.Bare t c) = true

pub idle_no_tree : (h : Held) → is_idle h ≡ true → is_tree h ≡ false
idle_no_tree H.Nothing e = refl
idle_no_tree (H.Scalar t) e = refl
idle_no_tree (H.Owned t b) e = absurd (true≢false (sym e))
idle_no_tree (H.Lent t root) e = refl
idle_no_tree (H.Credit n) e = refl
idle_no_tree (H.Bare t c) e = refl

-- ---- a register gets a value

pub setting_other : (g : Holding) (d : ℕ) (h : Held) (q : ℕ) → (q ≡ d → ⊥) → setting g d h q ≡ g q
setting_other g d h q ne = refused (q == d) h (g q) (unequal_is q d ne)

pub setting_here : (g : Holding) (d : ℕ) (h : Held) → setting g d h d ≡ h
setting_here g d h = chosen (d == d) h (g d) (itself d)

-- what is known of another register is known of another than d
elsewhere : (g : Holding) (d q : ℕ) (x : Held) → is_idle (g d) ≡ true → g q ≡ x → is_idle x ≡ false → q ≡ d → ⊥
elsewhere g d q x idle e value same = true≢false (sym (ap (λ p. is_idle (g p)) same ∙ idle) ∙ (ap is_idle e ∙ value))

tree_value : (h : Held) → is_tree h ≡ true → is_idle h ≡ false
tree_value H.Nothing e = absurd (true≢false (sym e))
tree_value (H.Scalar t) e = refl
tree_value (H.Owned t b) e = refl
tree_value (H.Lent t root) e = refl
tree_value (H.Credit n) e = absurd (true≢false (sym e))
tree_value (H.Bare t c) e = absurd (true≢false (sym e))

pub setting_stays : (g : Holding) (d : ℕ) (h : Held) (n : ℕ → ℕ) → is_idle (g d) ≡ true → Stays g (setting g d h) n
setting_stays g d h n idle = record {
  scalar = λ r t e. setting_other g d h r (elsewhere g d r (H.Scalar t) idle e refl) ∙ e;
  tree = λ r more e. setting_other g d h r (elsewhere g d r (g r) idle refl (tree_value (g r) e));
  lent = λ r t e. setting_other g d h r (elsewhere g d r (H.Lent t None) idle e refl) ∙ e;
  lent_of = λ r t q e more. setting_other g d h r (elsewhere g d r (H.Lent t (Some q)) idle e refl) ∙ e;
}

-- a value is no constructor that was matched, and isn't borrowed
abbrev pub is_given : Held → Bool
is_given H.Nothing = false
is_given (H.Scalar t) = true
is_given (H.Owned t b) = true
is_given (H.Lent t root) = false
is_given (H.Credit n) = false
is_given (H.Bare t c) = false

owned_given : (t : ℕ) (h : Held) → is_owned_of t h ≡ true → is_given h ≡ true
owned_given t H.Nothing e = absurd (true≢false (sym e))
owned_given t (H.Scalar u) e = refl
owned_given t (H.Owned u b) e = refl
owned_given t (H.Lent u root) e = absurd (true≢false (sym e))
owned_given t (H.Credit n) e = absurd (true≢false (sym e))
owned_given t (H.Bare u c) e = absurd (true≢false (sym e))

pub value_given : (w : Table) (t : ℕ) (h : Held) → HoldsValue w t h → is_given h ≡ true
value_given w t h v = elim (or_not (is_scalar_type w t)) as (λ x. is_given h ≡ true) [
  | inl e ↦ ap is_given (v.scalar e)
  | inr e ↦ owned_given t h (v.owned e)
]

-- whether register q owns a tree, where d does by value h
value_tree : (w : Table) (t : ℕ) (h : Held) → HoldsValue w t h → (is_tree h ≡ true → is_scalar_type w t ≡ false) × (is_tree h ≡ false → is_scalar_type w t ≡ true)
value_tree w t h v = elim (or_not (is_scalar_type w t)) as (λ x. (is_tree h ≡ true → is_scalar_type w t ≡ false) × (is_tree h ≡ false → is_scalar_type w t ≡ true)) [
  | inl e ↦ ((λ y. absurd (true≢false (sym y ∙ ap is_tree (v.scalar e)))), λ y. e)
  | inr e ↦ ((λ y. e), λ y. absurd (true≢false (sym (owned_tree t h (v.owned e)) ∙ y)))
]

owes_itself : (w : Table) (t d : ℕ) (h : Held) → HoldsValue w t h → owe w t d d ≡ one_if (is_tree h)
owes_itself w t d h v = elim (or_not (is_tree h)) as (λ x. owe w t d d ≡ one_if (is_tree h)) [
  | inl e ↦ refused (is_scalar_type w t) 0 (one_if (d == d)) ((value_tree w t h v).0 e) ∙ (ap one_if (itself d) ∙ sym (ap one_if e))
  | inr e ↦ chosen (is_scalar_type w t) 0 (one_if (d == d)) ((value_tree w t h v).1 e) ∙ sym (ap one_if e)
]

owes_other : (w : Table) (t d q : ℕ) → (q ≡ d → ⊥) → owe w t d q ≡ 0
owes_other w t d q ne =
    pick (λ n. n ≡ 0) (is_scalar_type w t) 0 (one_if (d == q)) (λ e. refl) (λ e. ap one_if (unequal_is d q (λ z. ne (sym z))))

pub setting_balanced : (fip : Bool) (w : Table) (g : Holding) (d t : ℕ) (h : Held) (n : ℕ → ℕ) → is_tree (g d) ≡ false → Balanced fip g n → HoldsValue w t h → Balanced fip (setting g d h) (λ q. owe w t d q + n q)
setting_balanced fip w g d t h n none b v q = elim (or_not (q == d)) as (λ x. Fits fip (one_if (is_tree (setting g d h q))) (owe w t d q + n q)) [
  | inl e ↦ subst (λ p. Fits fip (one_if (is_tree (setting g d h p))) (owe w t d p + n p)) (sym (equal q d e)) here
  | inr e ↦ there (unequal q d e)
]
  where
    empty : n d ≡ 0
    empty = fits_zero fip (n d) (subst (λ b. Fits fip (one_if b) (n d)) none (b d))

    here : Fits fip (one_if (is_tree (setting g d h d))) (owe w t d d + n d)
    here =
        let z : one_if (is_tree h) ≡ owe w t d d + n d = (let a = owes_itself w t d h v in let e = empty in omega (arith, a, e)) in
        subst (λ x. Fits fip (one_if (is_tree x)) (owe w t d d + n d)) (sym (setting_here g d h)) (subst (Fits fip (one_if (is_tree h))) z (fits_same fip (one_if (is_tree h))))

    there : (q ≡ d → ⊥) → Fits fip (one_if (is_tree (setting g d h q))) (owe w t d q + n q)
    there ne =
        let z : n q ≡ owe w t d q + n q = (let a = owes_other w t d q ne in omega (arith, a)) in
        subst (λ x. Fits fip (one_if (is_tree x)) (owe w t d q + n q)) (sym (setting_other g d h q ne)) (subst (Fits fip (one_if (is_tree (g q)))) z (b q))

given_not_lent : (h : Held) (t : ℕ) (root : Option ℕ) → is_given h ≡ true → h ≡ H.Lent t root → ⊥
given_not_lent h t root e same = true≢false (sym e ∙ ap is_given same)

pub setting_rooted : (g : Holding) (d : ℕ) (h : Held) → Rooted g → is_tree (g d) ≡ false → is_given h ≡ true → Rooted (setting g d h)
setting_rooted g d h rooted none given r t q e = elim (or_not (r == d)) as (λ v. is_tree (setting g d h q) ≡ true) [
  | inl z ↦ absurd (given_not_lent h t (Some q) given (sym (chosen (r == d) h (g r) z) ∙ e))
  | inr z ↦ other (rooted r t q (sym (refused (r == d) h (g r) z) ∙ e))
]
  where
    other : is_tree (g q) ≡ true → is_tree (setting g d h q) ≡ true
    other tree = ap is_tree (setting_other g d h q (λ same. true≢false (sym tree ∙ (ap (λ p. is_tree (g p)) same ∙ none)))) ∙ tree

pub setting_bares : (w : Table) (g : Holding) (d : ℕ) (h : Held) → BareRight w g → is_given h ≡ true → BareRight w (setting g d h)
setting_bares w g d h bares given r t c e = elim (or_not (r == d)) as (λ v. (is_scalar_type w t ≡ false) × (length (fields w t c) ≡ 0)) [
  | inl z ↦ absurd (true≢false (sym given ∙ ap is_given (sym (chosen (r == d) h (g r) z) ∙ e)))
  | inr z ↦ bares r t c (sym (refused (r == d) h (g r) z) ∙ e)
]

-- l is k but that register d holds a value of type t
pub set_ties : (fip : Bool) (w : Table) (s : Scope) (B : ℕ → Bool) (K : ℕ → Item → ℕ) (T X : Item → ℕ) (e : ℕ → ℕ) (k l : Known) (d t : ℕ) (h : Held) → Ties fip w s B K T e k → ((x : ℕ) → T (Own x) ≡ X (Own x)) → ((z x : ℕ) → K z (Own x) ≤ X (Own x)) → is_idle (held_at k.held d) ≡ true → HoldsValue w t h → held_at l.held ≡ setting (held_at k.held) d h → l.names ≡ k.names → k.next ≤ l.next → ((n : ℕ) → Fits fip (sized n l.credits) (X (Credit n))) → ((n r : ℕ) → counted n r l.credits ≡ one_if (is_credit_of n (held_at l.held r))) → ((r : ℕ) → l.next ≤ r → held_at l.held r ≡ H.Nothing) → Ties fip w s B K X (λ q. owe w t d q + e q) l
set_ties fip w s B K T X e k l d t h ties same kept idle v held names grows sizes credits fresh =
    let g = held_at k.held in
    let trees : Balanced fip g (λ q. owners k.names (own X) q + e q) = balanced_same fip g (λ q. owners k.names (own T) q + e q) (λ q. owners k.names (own X) q + e q) (λ q. let z = owners_same k.names (own T) (own X) q same in omega (arith, z)) ties.trees in
    let none = idle_no_tree (g d) idle in
    let given = value_given w t h v in
    ties_on fip w s B K T X e e (λ q. owe w t d q + e q) k l ties (λ x. let z = same x in omega (arith, z)) kept names grows
    (subst (λ x. Stays g x (λ q. owners k.names (own X) q + e q)) (sym held) (setting_stays g d h (λ q. owners k.names (own X) q + e q) idle))
    (subst (λ x. Balanced fip x (λ q. owners k.names (own X) q + (owe w t d q + e q))) (sym held)
    (balanced_same fip (setting g d h) (λ q. owe w t d q + (owners k.names (own X) q + e q)) (λ q. owners k.names (own X) q + (owe w t d q + e q)) (λ q. omega arith)
    (setting_balanced fip w g d t h (λ q. owners k.names (own X) q + e q) none trees v)))
    (subst Rooted (sym held) (setting_rooted g d h ties.rooted none given))
    (subst (BareRight w) (sym held) (setting_bares w g d h ties.bares given))
    sizes credits fresh

-- ---- the registers of values are given

no_credit_of : (n : ℕ) (h : Held) → ((k : ℕ) → h ≡ H.Credit k → ⊥) → is_credit_of n h ≡ false
no_credit_of n H.Nothing f = refl
no_credit_of n (H.Scalar t) f = refl
no_credit_of n (H.Owned t b) f = refl
no_credit_of n (H.Lent t root) f = refl
no_credit_of n (H.Credit k) f = absurd (f k refl)
no_credit_of n (H.Bare t c) f = refl

pub credit_using : (g : Holding) (r q n : ℕ) → is_credit_of n (using g r q) ≡ is_credit_of n (g q)
credit_using g r q n = elim (using_either g r q) as (λ v. is_credit_of n (using g r q) ≡ is_credit_of n (g q)) [
  | inl e ↦ ap (is_credit_of n) e
  | inr e ↦ ap (is_credit_of n) e ∙ sym (no_credit_of n (g q) (λ k z. other k (sym e ∙ using_credit g r q k z)))
]
  where
    other : (k : ℕ) → H.Nothing ≡ H.Credit k → ⊥
    other k e = absurd (cc)

pub credit_using_all : (g : Holding) (rs : List ℕ) (q n : ℕ) → is_credit_of n (using_all g rs q) ≡ is_credit_of n (g q)
credit_using_all g [] q n = refl
credit_using_all g (r ∷ rs) q n = credit_using_all (using g r) rs q n ∙ credit_using g r q n

pub nothing_using_all : (g : Holding) (rs : List ℕ) (q : ℕ) → g q ≡ H.Nothing → using_all g rs q ≡ H.Nothing
nothing_using_all g [] q e = e
nothing_using_all g (r ∷ rs) q e = nothing_using_all (using g r) rs q (using_nothing g r q e)

pub rooted_using_all : (g : Holding) (rs : List ℕ) → Rooted g → Rooted (using_all g rs)
rooted_using_all g [] h = h
rooted_using_all g (r ∷ rs) h = rooted_using_all (using g r) rs (rooted_using g r h)

pub bares_using : (w : Table) (g : Holding) (r : ℕ) → BareRight w g → BareRight w (using g r)
bares_using w g r bares q t c e = elim (using_either g r q) as (λ v. (is_scalar_type w t ≡ false) × (length (fields w t c) ≡ 0)) [
  | inl same ↦ bares q t c (sym same ∙ e)
  | inr none ↦ absurd (other (sym none ∙ e))
]
  where
    other : H.Nothing ≡ H.Bare t c → ⊥
    other z = absurd (cc)

pub bares_using_all : (w : Table) (g : Holding) (rs : List ℕ) → BareRight w g → BareRight w (using_all g rs)
bares_using_all w g [] h = h
bares_using_all w g (r ∷ rs) h = bares_using_all w (using g r) rs (bares_using w g r h)

-- l is k, but that the registers of values of these types were given
pub record Used (fip : Bool) (w : Table) (s : Scope) (B : ℕ → Bool) (K : ℕ → Item → ℕ) (X : Item → ℕ) (e : ℕ → ℕ) (k : Known) (rs ts : List ℕ) : Type 0 where
  pub can : can_give (held_at k.held) rs ts ≡ true
  pub ties : Ties fip w s B K X e (record k { held = used_all k.held rs })
  pub stays : Stays (held_at k.held) (using_all (held_at k.held) rs) (λ q. owners k.names (own X) q + e q)

pub use_ties : (fip : Bool) (w : Table) (s : Scope) (B : ℕ → Bool) (K : ℕ → Item → ℕ) (X : Item → ℕ) (e : ℕ → ℕ) (k : Known) (rs ts : List ℕ) → Ties fip w s B K X (λ q. owed w rs ts q + e q) k → ((z x : ℕ) → K z (Own x) ≤ X (Own x)) → AllHold w (held_at k.held) rs ts → Used fip w s B K X e k rs ts
use_ties fip w s B K X e k rs ts ties kept hold =
    let g = held_at k.held in
    let n : ℕ → ℕ = λ q. owners k.names (own X) q + e q in
    let given = given_all fip w rs ts g n (balanced_same fip g (λ q. owners k.names (own X) q + (owed w rs ts q + e q)) (λ q. owed w rs ts q + n q) (λ q. omega arith) ties.trees) hold in
    let held : held_at (used_all k.held rs) ≡ using_all g rs = held_used_all k.held rs in
    record {
      can = given.can;
      ties = ties_on fip w s B K X X (λ q. owed w rs ts q + e q) e e k (record k { held = used_all k.held rs })
          ties (λ x. omega arith) kept refl (omega arith)
          (subst (λ x. Stays g x n) (sym held) given.stays)
          (subst (λ x. Balanced fip x n) (sym held) given.balanced)
          (subst Rooted (sym held) (rooted_using_all g rs ties.rooted))
          (subst (BareRight w) (sym held) (bares_using_all w g rs ties.bares))
          ties.sizes
          (λ m r. ties.credits m r ∙ ap one_if (sym (ap (λ x. is_credit_of m (x r)) held ∙ credit_using_all g rs r m)))
          (λ r past. ap (λ x. x r) held ∙ nothing_using_all g rs r (ties.fresh r past));
      stays = given.stays;
    }
