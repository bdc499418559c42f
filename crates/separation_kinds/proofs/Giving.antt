-- Registers that are given as the fields of a cell or as results: their words stand for trees, which leave the frame.
use Rattle.std.proofs.Common.{◌≡◌, ℕ, ◌+◌, Bool, true, false, List, [], ◌∷◌, length, map, Some, None, refl, sym, ap, ap₂, ◌∙◌, subst, true≢false, arith, if◌then◌else◌, ◌==◌}
use Rattle.std.proofs.lemmas.Option.{none-some, same_Some, option_and_then_some}
use Rattle.machine_semantics.specs.fip_language.Table.{Table}
use Rattle.machine_semantics.specs.fip_language.Store.{Placed, Parts, NoParts, MoreParts, uses, uses_of_all, word_of, words_of}
use Rattle.machine_semantics.specs.cell_code.declared.kind.Kind.{Kind}
use Rattle.machine_semantics.specs.cell_code.declared.kind.Kind.TheVariants.{Gone, Scalar, Owned, Lent, Credit}
use Rattle.machine_semantics.specs.Cells.{Store}
use Rattle.machine_semantics.specs.Trees.{Stands, StandAll}
use Rattle.machine_semantics.specs.Apart.{Holding, holding_uses, owned_uses}
use Rattle.code_rules.specs.Kinds.{at, is_owned, is_scalar_of, is_owned_of, is_credit, is_credit_of, is_lent_of}
use Rattle.code_rules.specs.Changes.{goes, used_up, forget}
use Rattle.code_rules.specs.Handing.{give, give_all}
use Rattle.separation_kinds.specs.Meanings.{Means, AreMeant, owned_by}
use Rattle.separation_kinds.proofs.Basics.{pick, refused, equal, unequal_is, length_become}
use Rattle.separation_kinds.proofs.KindLemmas.{dropped, at_used_up}
use Rattle.separation_kinds.proofs.Changing.{used_up_meant, count_used_up}

pub scalar_of : (t : ℕ) (k : Kind) → is_scalar_of t k ≡ true → k ≡ Scalar t
scalar_of t Gone e = absurd (true≢false (sym e))
scalar_of t (Scalar u) e = ap Scalar (equal u t e)
scalar_of t (Owned u cs) e = absurd (true≢false (sym e))
scalar_of t (Lent u cs root from) e = absurd (true≢false (sym e))
scalar_of t (Credit k) e = absurd (true≢false (sym e))

pub owned_of : (t : ℕ) (k : Kind) → is_owned_of t k ≡ true → (cs : List ℕ) × (k ≡ Owned t cs)
owned_of t Gone e = absurd (true≢false (sym e))
owned_of t (Scalar u) e = absurd (true≢false (sym e))
owned_of t (Owned u cs) e = (cs, ap (λ t. Owned t cs) (equal u t e))
owned_of t (Lent u cs root from) e = absurd (true≢false (sym e))
owned_of t (Credit k) e = absurd (true≢false (sym e))

pub credit_of : (n : ℕ) (k : Kind) → is_credit_of n k ≡ true → k ≡ Credit n
credit_of n Gone e = absurd (true≢false (sym e))
credit_of n (Scalar u) e = absurd (true≢false (sym e))
credit_of n (Owned u cs) e = absurd (true≢false (sym e))
credit_of n (Lent u cs root from) e = absurd (true≢false (sym e))
credit_of n (Credit k) e = ap Credit (equal k n e)

credit_stays_at : (p : ℕ → Bool) (r : ℕ) (k : Kind) → p r ≡ false → is_credit k ≡ true → (if p r then Gone else forget p k) ≡ k
credit_stays_at p r Gone off e = absurd (true≢false (sym e))
credit_stays_at p r (Scalar u) off e = absurd (true≢false (sym e))
credit_stays_at p r (Owned u cs) off e = absurd (true≢false (sym e))
credit_stays_at p r (Lent u cs root from) off e = absurd (true≢false (sym e))
credit_stays_at p r (Credit k) off e = refused (p r) Gone (Credit k) off

credit_lent : (u : ℕ) (k : Kind) → is_credit k ≡ true → is_lent_of u k ≡ false
credit_lent u Gone e = refl
credit_lent u (Scalar t) e = refl
credit_lent u (Owned t cs) e = refl
credit_lent u (Lent t cs root from) e = absurd (true≢false (sym e))
credit_lent u (Credit k) e = refl

credit_owned : {A : Type 0} (k : Kind) → is_credit k ≡ true → is_owned k ≡ true → A
credit_owned Gone e o = absurd (true≢false (sym o))
credit_owned (Scalar t) e o = absurd (true≢false (sym o))
credit_owned (Owned t cs) e o = absurd (true≢false (sym e))
credit_owned (Lent t cs root from) e o = absurd (true≢false (sym o))
credit_owned (Credit k) e o = absurd (true≢false (sym o))

-- using up a tree changes no credit
pub credit_stays : (ks : List Kind) (u d : ℕ) → is_owned (at ks u) ≡ true → is_credit (at ks d) ≡ true → at (used_up ks u) d ≡ at ks d
credit_stays ks u d owned e =
    let off : (d == u) ≡ false = unequal_is d u (λ z. credit_owned (at ks d) e (subst (λ u. is_owned (at ks u) ≡ true) (sym z) owned)) in
    let away : goes ks u d ≡ false = rw (off, credit_lent u (at ks d) e) refl in
    at_used_up ks u d ∙ credit_stays_at (goes ks u) d (at ks d) away e

-- what is left after a register that was given as a value of type t
pub record IsGivenOne (tb : Table) (s : Store) (below : List Placed) (ks : List Kind) (ws : ℕ → ℕ) (hs : ℕ → Holding) (t r : ℕ) (left : List Kind) : Type 0 where
  pub wide : length left ≡ length ks
  pub meant : AreMeant tb s below (at left) ws hs
  pub tree : Placed
  pub word : word_of tree ≡ ws r
  pub stands : Stands tb s t tree
  pub count : (q : ℕ) → owned_by q (at left) hs (length ks) + uses q tree ≡ owned_by q (at ks) hs (length ks)
  pub credits : (d : ℕ) → is_credit (at ks d) ≡ true → at left d ≡ at ks d

given_scalar : (tb : Table) (s : Store) (below : List Placed) (ks : List Kind) (ws : ℕ → ℕ) (hs : ℕ → Holding) (t r : ℕ) → at ks r ≡ Scalar t → AreMeant tb s below (at ks) ws hs → IsGivenOne tb s below ks ws hs t r ks
given_scalar tb s below ks ws hs t r e m =
    let g = subst (λ k. Means tb s below (at ks) hs k (ws r) (hs r)) e (m.each r) in
    record {
      wide = refl;
      meant = m;
      tree = g.tree;
      word = g.is.word;
      stands = g.is.stands;
      count = λ q. let none = g.bare q in omega arith;
      credits = λ d c. refl;
    }

given_owned : (tb : Table) (s : Store) (below : List Placed) (ks : List Kind) (ws : ℕ → ℕ) (hs : ℕ → Holding) (t r : ℕ) (cs : List ℕ) → at ks r ≡ Owned t cs → AreMeant tb s below (at ks) ws hs → IsGivenOne tb s below ks ws hs t r (used_up ks r)
given_owned tb s below ks ws hs t r cs e m =
    let g = subst (λ k. Means tb s below (at ks) hs k (ws r) (hs r)) e (m.each r) in
    let owned : is_owned (at ks r) ≡ true = ap is_owned e in
    record {
      wide = length_become ks (dropped (goes ks r) (at ks));
      meant = used_up_meant tb s below ks ws hs r m;
      tree = g.tree;
      word = g.is.word;
      stands = g.is.stands;
      count = λ q.
          let c = count_used_up q ks hs r owned in
          let u = ap (λ k. owned_uses q k (hs r)) e in
          let v = ap (holding_uses q) g.holds in
          omega arith;
      credits = λ d c. credit_stays ks r d owned c;
    }

pub given_one : (tb : Table) (s : Store) (below : List Placed) (ks : List Kind) (ws : ℕ → ℕ) (hs : ℕ → Holding) (t r : ℕ) (left : List Kind) → give ks r t ≡ Some left → AreMeant tb s below (at ks) ws hs → IsGivenOne tb s below ks ws hs t r left
given_one tb s below ks ws hs t r left e m = pick (λ o. o ≡ Some left → IsGivenOne tb s below ks ws hs t r left) (is_scalar_of t (at ks r)) (Some ks) (if is_owned_of t (at ks r) then Some (used_up ks r) else None)
    (λ b is. subst (IsGivenOne tb s below ks ws hs t r) (same_Some ks left is) (given_scalar tb s below ks ws hs t r (scalar_of t (at ks r) b) m))
    (λ b. pick (λ o. o ≡ Some left → IsGivenOne tb s below ks ws hs t r left) (is_owned_of t (at ks r)) (Some (used_up ks r)) None
    (λ c is. let o = owned_of t (at ks r) c in subst (IsGivenOne tb s below ks ws hs t r) (same_Some (used_up ks r) left is) (given_owned tb s below ks ws hs t r o.0 o.1 m))
    (λ c is. absurd (none-some left is)))
    e

-- what is left after registers that were given as values of these types
pub record AreGiven (tb : Table) (s : Store) (below : List Placed) (ks : List Kind) (ws : ℕ → ℕ) (hs : ℕ → Holding) (ts rs : List ℕ) (left : List Kind) : Type 0 where
  pub wide : length left ≡ length ks
  pub meant : AreMeant tb s below (at left) ws hs
  pub trees : Parts
  pub words : words_of trees ≡ map ws rs
  pub stand : StandAll tb s ts trees
  pub count : (q : ℕ) → owned_by q (at left) hs (length ks) + uses_of_all q trees ≡ owned_by q (at ks) hs (length ks)
  pub credits : (d : ℕ) → is_credit (at ks d) ≡ true → at left d ≡ at ks d

pub given : (tb : Table) (s : Store) (below : List Placed) (ks : List Kind) (ws : ℕ → ℕ) (hs : ℕ → Holding) (ts rs : List ℕ) (left : List Kind) → give_all ks rs ts ≡ Some left → AreMeant tb s below (at ks) ws hs → AreGiven tb s below ks ws hs ts rs left
given tb s below ks ws hs [] [] left e m = subst (AreGiven tb s below ks ws hs [] []) (same_Some ks left e) (record {
  wide = refl;
  meant = m;
  trees = NoParts;
  words = refl;
  stand = tt;
  count = λ q. omega arith;
  credits = λ d c. refl;
})
given tb s below ks ws hs (t ∷ ts) [] left e m = absurd (none-some left e)
given tb s below ks ws hs [] (r ∷ rs) left e m = absurd (none-some left e)
given tb s below ks ws hs (t ∷ ts) (r ∷ rs) left e m = option_and_then_some (λ next. give_all next rs ts) (give ks r t) left e (λ next is rest.
    let one = given_one tb s below ks ws hs t r next is m in
    let more = given tb s below next ws hs ts rs left rest one.meant in
    record {
      wide = more.wide ∙ one.wide;
      meant = more.meant;
      trees = MoreParts one.tree more.trees;
      words = ap₂ (λ v vs. v ∷ vs) one.word more.words;
      stand = (one.stands, more.stand);
      count = λ q.
          let a = one.count q in
          let b = more.count q in
          let l = ap (owned_by q (at left) hs) one.wide in
          let n = ap (owned_by q (at next) hs) one.wide in
          omega arith;
      credits = λ d c. let here = one.credits d c in more.credits d (ap is_credit here ∙ c) ∙ here;
    })
