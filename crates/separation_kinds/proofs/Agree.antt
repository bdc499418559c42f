-- What registers mean stays where only cells change that none of their trees has.
use Rattle.std.proofs.Common.{◌≡◌, inl, inr, ℕ, zero, suc, ◌+◌, ◌<◌, ◌≤◌, true, List, [], ◌∷◌, Option, Some, None, refl, sym, ap, ◌∙◌, true≢false, arith}
use Rattle.std.proofs.lemmas.Bool.Decides.{nat_tests}
use Rattle.machine_semantics.specs.fip_language.Table.{Table}
use Rattle.machine_semantics.specs.fip_language.Store.{Placed, PlacedInt, Bare, At, Parts, NoParts, MoreParts, uses, uses_of_all, one_at}
use Rattle.machine_semantics.specs.cell_code.declared.kind.Kind.{Kind}
use Rattle.machine_semantics.specs.cell_code.declared.kind.Kind.TheVariants.{Gone, Scalar, Owned, Lent, Credit}
use Rattle.machine_semantics.specs.Cells.{Store, cell_at}
use Rattle.machine_semantics.specs.Trees.{Stands, StandAll, IsTree}
use Rattle.machine_semantics.specs.Apart.{Holding, LiesIn, holding_uses, owned_uses, trees_uses}
use Rattle.code_rules.specs.Kinds.{is_owned}
use Rattle.separation_kinds.specs.Meanings.{Rooted, Means, AreMeant, owned_by}
use Rattle.separation_kinds.proofs.Basics.{less_or_not, sum_part}

pub one_here : (p q : ℕ) → p ≡ q → one_at p q ≡ 1
one_here p q e = grind (arith, nat_tests)

pub one_apart : (p q : ℕ) → (p ≡ q → ⊥) → one_at p q ≡ 0
one_apart p q off = grind (arith, nat_tests)

-- two stores with the same cells, where a use is counted
abbrev pub SameAt : Store → Store → (ℕ → ℕ) → Type 0
SameAt s t u = (q : ℕ) → 0 < u q → cell_at t q ≡ cell_at s q

mutual
  pub stands_agree : (tb : Table) (s u : Store) (t : ℕ) (x : Placed) → SameAt s u (λ q. uses q x) → Stands tb s t x → Stands tb u t x
  stands_agree tb s u zero (PlacedInt i) h g = g
  stands_agree tb s u zero (Bare c) h g = g
  stands_agree tb s u zero (At p c xs) h g = g
  stands_agree tb s u (suc t) (PlacedInt i) h g = g
  stands_agree tb s u (suc t) (Bare c) h g = g
  stands_agree tb s u (suc t) (At p c xs) h g =
      let here : one_at p p ≡ 1 = one_here p p refl in
      (h p (omega arith) ∙ g.0, g.1, g.2, g.3, stand_all_agree tb s u g.2.fields xs (λ q k. h q (omega arith)) g.4)

  pub stand_all_agree : (tb : Table) (s u : Store) (ts : List ℕ) (xs : Parts) → SameAt s u (λ q. uses_of_all q xs) → StandAll tb s ts xs → StandAll tb u ts xs
  stand_all_agree tb s u [] NoParts h g = tt
  stand_all_agree tb s u [] (MoreParts x xs) h g = g
  stand_all_agree tb s u (t ∷ ts) NoParts h g = g
  stand_all_agree tb s u (t ∷ ts) (MoreParts x xs) h g =
      (stands_agree tb s u t x (λ q k. h q (omega arith)) g.0, stand_all_agree tb s u ts xs (λ q k. h q (omega arith)) g.1)

pub tree_agree : (tb : Table) (s u : Store) (t w : ℕ) (x : Placed) → SameAt s u (λ q. uses q x) → IsTree tb s t w x → IsTree tb u t w x
tree_agree tb s u t w x h g = record { word = g.word; stands = stands_agree tb s u t x h g.stands }

pub lies_uses : (q : ℕ) (x : Placed) (ys : List Placed) → LiesIn x ys → uses q x ≤ trees_uses q ys
lies_uses q x [] l = absurd l
lies_uses q x (y ∷ ys) l = elim l as (λ v. uses q x ≤ uses q y + trees_uses q ys) [
  | inl w ↦ let a = w q in omega arith
  | inr r ↦ let a = lies_uses q x ys r in omega arith
]

pub owned_holding : (q : ℕ) (k : Kind) (h : Holding) → is_owned k ≡ true → owned_uses q k h ≡ holding_uses q h
owned_holding q Gone h o = absurd (true≢false (sym o))
owned_holding q (Scalar t) h o = absurd (true≢false (sym o))
owned_holding q (Owned t cs) h o = refl
owned_holding q (Lent t cs root from) h o = absurd (true≢false (sym o))
owned_holding q (Credit k) h o = absurd (true≢false (sym o))

-- registers past the last one
abbrev pub Past : ℕ → (ℕ → Kind) → Type 0
Past n ks = (r : ℕ) → n ≤ r → ks r ≡ Gone

pub owned_part : (q : ℕ) (ks : ℕ → Kind) (hs : ℕ → Holding) (n r : ℕ) → Past n ks → owned_uses q (ks r) (hs r) ≤ owned_by q ks hs n
owned_part q ks hs n r past = elim (less_or_not r n) as (λ v. owned_uses q (ks r) (hs r) ≤ owned_by q ks hs n) [
  | inl h ↦ sum_part (λ r. owned_uses q (ks r) (hs r)) 0 n r (omega arith) (omega arith)
  | inr h ↦ let e = ap (λ k. owned_uses q k (hs r)) (past r h) in omega arith
]

-- what a borrowed tree uses is used by the registers or below
pub rooted_uses : (q : ℕ) (below : List Placed) (ks : ℕ → Kind) (hs : ℕ → Holding) (n : ℕ) (root : Option ℕ) (x : Placed) → Past n ks → Rooted below ks hs root x → uses q x ≤ owned_by q ks hs n + trees_uses q below
rooted_uses q below ks hs n None x past l = let a = lies_uses q x below l in omega arith
rooted_uses q below ks hs n (Some r) x past u =
    let a = u.within q in
    let b = owned_holding q (ks r) (hs r) u.owned in
    let c = ap (holding_uses q) u.holds in
    let d = owned_part q ks hs n r past in
    omega arith

pub means_agree : (tb : Table) (s u : Store) (below : List Placed) (ks : ℕ → Kind) (hs : ℕ → Holding) (n : ℕ) (k : Kind) (w : ℕ) (h : Holding) → Past n ks → ((q : ℕ) → owned_uses q k h ≤ owned_by q ks hs n) → SameAt s u (λ q. owned_by q ks hs n + trees_uses q below) → Means tb s below ks hs k w h → Means tb u below ks hs k w h
means_agree tb s u below ks hs n Gone w h past part same m = tt
means_agree tb s u below ks hs n (Scalar t) w h past part same m = record {
  tree = m.tree;
  holds = m.holds;
  is = tree_agree tb s u t w m.tree (λ q some. let none = m.bare q in absurd (omega arith)) m.is;
  bare = m.bare;
}
means_agree tb s u below ks hs n (Owned t cs) w h past part same m = record {
  tree = m.tree;
  holds = m.holds;
  is = tree_agree tb s u t w m.tree (λ q some. same q (let a = part q in let b = ap (holding_uses q) m.holds in omega arith)) m.is;
  top = m.top;
}
means_agree tb s u below ks hs n (Lent t cs root from) w h past part same m = record {
  tree = m.tree;
  holds = m.holds;
  is = tree_agree tb s u t w m.tree (λ q some. same q (let a = rooted_uses q below ks hs n root m.tree past m.rooted in omega arith)) m.is;
  top = m.top;
  rooted = m.rooted;
  framed = m.framed;
}
means_agree tb s u below ks hs n (Credit k) w h past part same m = record {
  place = m.place;
  holds = m.holds;
  word = m.word;
  cell = m.cell;
  there = same m.place (let a = part m.place in let b = ap (holding_uses m.place) m.holds in let c = one_here m.place m.place refl in omega arith) ∙ m.there;
  size = m.size;
}

pub agree : (tb : Table) (s u : Store) (below : List Placed) (ks : ℕ → Kind) (ws : ℕ → ℕ) (hs : ℕ → Holding) (n : ℕ) → Past n ks → SameAt s u (λ q. owned_by q ks hs n + trees_uses q below) → AreMeant tb s below ks ws hs → AreMeant tb u below ks ws hs
agree tb s u below ks ws hs n past same m = record {
  each = λ r. means_agree tb s u below ks hs n (ks r) (ws r) (hs r) past (λ q. owned_part q ks hs n r past) same (m.each r);
}
