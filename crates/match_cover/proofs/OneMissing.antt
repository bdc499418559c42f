-- There is only one missing pattern.
use Rattle.std.proofs.Common.{◌≡◌, ◌⊎◌, inl, inr, ℕ, zero, suc, ◌<◌, List, [], ◌∷◌, refl, sym, ap, ap₂, ◌∙◌, subst, arith}
use Rattle.std.specs.Prelude.{pos, negsuc}
use Rattle.match_knowledge.specs.declared.heads.Head.{Head}
use Rattle.match_knowledge.specs.declared.heads.Head.TheVariants.{Number, Tag}
use Rattle.fip_language.specs.Table.{Table}
use Rattle.match_knowledge.specs.ValueHeads.{IsHead}
use Rattle.match_knowledge.specs.Patterns.{Pattern, Any, Test, Patterns, NoPatterns, MorePatterns}
use Rattle.match_knowledge.specs.Known.{Known, Is, Knowns, MoreKnowns}
use Rattle.match_knowledge.specs.Left.{known_of}
use Rattle.match_knowledge.proofs.Facts.{one_head, not_both}
use Rattle.match_cover.specs.Missing.{is_tested, fields_at, heads, tails, open_fields, CanStand, Before, IsMissing, AreMissing}

order_step : (m n : ℕ) → ((m < n) ⊎ (n < m) ⊎ (m ≡ n)) → (suc m < suc n) ⊎ (suc n < suc m) ⊎ (suc m ≡ suc n)
order_step m n (inl h) = inl (omega arith)
order_step m n (inr (inl h)) = inr (inl (omega arith))
order_step m n (inr (inr h)) = inr (inr (ap suc h))

order : (m n : ℕ) → (m < n) ⊎ (n < m) ⊎ (m ≡ n)
order zero zero = inr (inr refl)
order zero (suc n) = inl (omega arith)
order (suc m) zero = inr (inl (omega arith))
order (suc m) (suc n) = order_step m n (order m n)

same_number : (A : Type 0) (f : ℕ → Head) (m n : ℕ) → (m < n → ⊥) → (n < m → ⊥) → ((m < n) ⊎ (n < m) ⊎ (m ≡ n)) → f m ≡ f n
same_number A f m n a b (inl h) = absurd (a h)
same_number A f m n a b (inr (inl h)) = absurd (b h)
same_number A f m n a b (inr (inr h)) = ap f h

-- of one type, neither before the other
one_choice : (tb : Table) (t : ℕ) (g h : Head) (fs gs : List ℕ) → IsHead tb t g fs → IsHead tb t h gs → CanStand g → CanStand h → (Before g h → ⊥) → (Before h g → ⊥) → g ≡ h
one_choice tb zero (Number (pos m)) (Number (pos n)) fs gs a b x y c d = same_number (Unit {0}) (λ k. Number (pos k)) m n c d (order m n)
one_choice tb zero (Number (pos m)) (Number (negsuc n)) fs gs a b x y c d = absurd y
one_choice tb zero (Number (negsuc m)) h fs gs a b x y c d = absurd x
one_choice tb zero (Number (pos m)) (Tag e) fs gs a b x y c d = absurd b
one_choice tb zero (Tag e) h fs gs a b x y c d = absurd a
one_choice tb (suc t) (Number i) h fs gs a b x y c d = absurd a
one_choice tb (suc t) (Tag e) (Number i) fs gs a b x y c d = absurd b
one_choice tb (suc t) (Tag e) (Tag k) fs gs a b x y c d = same_number (Unit {0}) Tag e k c d (order e k)

tests : (u v : ℕ) (g h : Head) (ms ns : Patterns) → u ≡ v → g ≡ h → ms ≡ ns → Test u g ms ≡ Test v h ns
tests u v g h ms ns a b c = ap (λ u. Test u g ms) a ∙ ap (λ g. Test v g ms) b ∙ ap (Test v h) c

mutual
  pub one : (tb : Table) (root : ℕ) (rows : List Pattern) (at : Known → Known) (t : ℕ) (here : List Pattern) (m n : Pattern) → IsMissing tb root rows at t here m → IsMissing tb root rows at t here n → m ≡ n
  one tb root rows at t here Any Any a b = refl
  one tb root rows at t here Any (Test u h ms) a b = absurd (not_both (is_tested here) b.0 a)
  one tb root rows at t here (Test u g ms) Any a b = absurd (not_both (is_tested here) a.0 b)
  one tb root rows at t here (Test u g ms) (Test v h ns) a b =
      let e : g ≡ h = one_choice tb t g h a.4 b.4 a.5 b.5 a.2 b.2 (λ z. b.3 g z (a.4, a.5, a.6)) (λ z. a.3 h z (b.4, b.5, b.6)) in
      let f : b.4 ≡ a.4 = one_head tb t g b.4 a.4 (subst (λ z. IsHead tb t z b.4) (sym e) b.5) a.5 in
      let w : AreMissing tb root rows (λ ks. at (Is g ks)) a.4 (fields_at g here) ns = subst (λ z. AreMissing tb root rows (λ ks. at (Is g ks)) z (fields_at g here) ns) f (subst (λ z. AreMissing tb root rows (λ ks. at (Is z ks)) b.4 (fields_at z here) ns) (sym e) b.7) in
      tests u v g h ms ns (a.1 ∙ sym b.1) e (ones tb root rows (λ ks. at (Is g ks)) a.4 (fields_at g here) ms ns a.7 w)

  pub ones : (tb : Table) (root : ℕ) (rows : List Pattern) (at : Knowns → Known) (fs : List ℕ) (here : List Patterns) (ms ns : Patterns) → AreMissing tb root rows at fs here ms → AreMissing tb root rows at fs here ns → ms ≡ ns
  ones tb root rows at [] here NoPatterns NoPatterns a b = refl
  ones tb root rows at [] here NoPatterns (MorePatterns n ns) a b = absurd b
  ones tb root rows at [] here (MorePatterns m ms) ns a b = absurd a
  ones tb root rows at (f ∷ fs) here NoPatterns ns a b = absurd a
  ones tb root rows at (f ∷ fs) here (MorePatterns m ms) NoPatterns a b = absurd b
  ones tb root rows at (f ∷ fs) here (MorePatterns m ms) (MorePatterns n ns) a b =
      let e = one tb root rows (λ k. at (MoreKnowns k (open_fields fs))) f (heads here) m n a.0 b.0 in
      ap₂ MorePatterns e (ones tb root rows (λ ks. at (MoreKnowns (known_of m) ks)) fs (tails here) ms ns a.1 (subst (λ z. AreMissing tb root rows (λ ks. at (MoreKnowns (known_of z) ks)) fs (tails here) ns) (sym e) b.1))
