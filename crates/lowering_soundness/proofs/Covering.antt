-- Kinds that are reported stay so where a register is written, or a tree is used up.
use Rattle.std.proofs.Common.{◌≡◌, ℕ, ◌<◌, Bool, true, false, ◌||◌, List, length, Option, Some, None, refl, sym, ap, ◌∙◌, subst, true≢false, arith, if◌then◌else◌, ◌==◌}
use Rattle.separation.specs.fip_language.Table.{Table}
use Rattle.separation.specs.cell_code.declared.kind.Kind.{Kind}
use Rattle.separation.specs.cell_code.declared.kind.Kind.TheVariants.{Gone, Lent}
use Rattle.separation.specs.code_rules.Types.{all}
use Rattle.separation.specs.code_rules.Kinds.{at, is_free, is_lent_of, same_root}
use Rattle.separation.specs.code_rules.Changes.{forget, written, goes, used_up}
use Rattle.separation.proofs.separation_kinds.Basics.{pick, chosen, refused, apart, length_become}
use Rattle.separation.proofs.separation_kinds.KindLemmas.{dropped, is_one, at_used_up, at_written, not_gone_within}
use Rattle.lowering_relation.specs.declared.held.Held.{Held}
use Rattle.lowering_relation.specs.declared.held.Held.TheVariants as H
use Rattle.lowering_relation.specs.Known.{lent_by, without}
use Rattle.lowering_relation.specs.Describing.{Holding, kind_of, kinds_of, setting, is_tree, is_spare}
use Rattle.lowering_soundness.specs.Covering.{Covers, Covered, using}

-- froms are forgotten
pub covers_forget : (w : Table) (p : ℕ → Bool) (h : Held) (k : Kind) → Covers (kind_of w h) k → Covers (kind_of w h) (forget p k)
covers_forget w p H.Nothing k e = ap (forget p) e
covers_forget w p (H.Scalar t) k e = ap (forget p) e
covers_forget w p (H.Owned t b) k e = ap (forget p) e
covers_forget w p (H.Lent t root) k e = ap (forget p) e
covers_forget w p (H.Credit n) k e = ap (forget p) e
covers_forget w p (H.Bare t c) k e = ap (forget p) e

pub covers_spare : (w : Table) (h : Held) (k : Kind) → is_spare h ≡ true → Covers (kind_of w h) k → is_free k ≡ true
covers_spare w H.Nothing k s e = ap is_free e
covers_spare w (H.Scalar t) k s e = ap is_free e
covers_spare w (H.Owned t b) k s e = absurd (true≢false (sym s))
covers_spare w (H.Lent t root) k s e = ap is_free e
covers_spare w (H.Credit n) k s e = absurd (true≢false (sym s))
covers_spare w (H.Bare t c) k s e = absurd (true≢false (sym s))

pub covered_same : (n : ℕ) (m l : ℕ → Kind) (ks : List Kind) → Covered n m ks → ((r : ℕ) → m r ≡ l r) → Covered n l ks
covered_same n m l ks c e = record { wide = c.wide; each = λ r. subst (λ k. Covers k (at ks r)) (e r) (c.each r) }

-- what is known of one register is within the list
pub reported_within : (w : Table) (n : ℕ) (g : Holding) (ks : List Kind) (r : ℕ) → Covered n (kinds_of w g) ks → (at ks r ≡ Gone → ⊥) → r < n
reported_within w n g ks r c h = let e = c.wide in let i = not_gone_within ks r h in omega arith

-- ---- a register is written

written_at : (w : Table) (p : ℕ → Bool) (b : Bool) (h i : Held) (k j : Kind) → Covers (kind_of w h) k → Covers (kind_of w i) j → Covers (kind_of w (if b then h else i)) (if b then forget p k else (if b then Gone else forget p j))
written_at w p true h i k j e f = covers_forget w p h k e
written_at w p false h i k j e f = covers_forget w p i j f

pub written_covered : (w : Table) (n : ℕ) (g : Holding) (ks : List Kind) (d : ℕ) (h : Held) (k : Kind) → Covered n (kinds_of w g) ks → d < n → Covers (kind_of w h) k → Covered n (kinds_of w (setting g d h)) (written ks d k)
written_covered w n g ks d h k c there e =
    let wide = c.wide in
    let inside : d < length ks = omega arith in
    record {
      wide = length_become ks (λ q. forget (is_one d) (if q == d then k else at ks q)) ∙ c.wide;
      each = λ q. subst (Covers (kind_of w (setting g d h q))) (sym (at_written ks d k inside q)) (written_at w (is_one d) (q == d) h (g q) k (at ks q) e (c.each q));
    }

-- ---- a tree is used up

lent_goes : (w : Table) (p : ℕ → Bool) (r t : ℕ) (root : Option ℕ) (k : Kind) (b : Bool) → same_root root (Some r) ≡ b → k ≡ Lent t (all w t) root None → Covers (kind_of w (lent_by r root (H.Lent t root))) (if b then Gone else forget p k)
lent_goes w p r t None k true s e = absurd (true≢false (sym s))
lent_goes w p r t None k false s e = ap (forget p) e
lent_goes w p r t (Some q) k true s e =
    pick (λ h. Covers (kind_of w h) Gone) (q == r) H.Nothing (H.Lent t (Some q)) (λ y. refl) (λ n. apart (q == r) s n)
lent_goes w p r t (Some q) k false s e =
    pick (λ h. Covers (kind_of w h) (forget p k)) (q == r) H.Nothing (H.Lent t (Some q)) (λ y. apart (q == r) y s) (λ n. ap (forget p) e)

pub held_goes : (w : Table) (p : ℕ → Bool) (r : ℕ) (h : Held) (k : Kind) (b : Bool) → is_lent_of r k ≡ b → Covers (kind_of w h) k → Covers (kind_of w (without r h)) (if b then Gone else forget p k)
held_goes w p r H.Nothing k true l e = refl
held_goes w p r H.Nothing k false l e = ap (forget p) e
held_goes w p r (H.Scalar t) k true l e = absurd (true≢false (sym l ∙ ap (is_lent_of r) e))
held_goes w p r (H.Scalar t) k false l e = ap (forget p) e
held_goes w p r (H.Owned t b) k true l e = absurd (true≢false (sym l ∙ ap (is_lent_of r) e))
held_goes w p r (H.Owned t b) k false l e = ap (forget p) e
held_goes w p r (H.Lent t root) k b l e = lent_goes w p r t root k b (sym (ap (is_lent_of r) e) ∙ l) e
held_goes w p r (H.Credit n) k true l e = absurd (true≢false (sym l ∙ ap (is_lent_of r) e))
held_goes w p r (H.Credit n) k false l e = ap (forget p) e
held_goes w p r (H.Bare t c) k true l e = absurd (true≢false (sym l ∙ ap (is_lent_of r) e))
held_goes w p r (H.Bare t c) k false l e = ap (forget p) e

used_at : (w : Table) (p : ℕ → Bool) (r : ℕ) (own lent : Bool) (h : Held) (k : Kind) → is_lent_of r k ≡ lent → Covers (kind_of w h) k → Covers (kind_of w (if own then H.Nothing else without r h)) (if own || lent then Gone else forget p k)
used_at w p r true lent h k l e = refl
used_at w p r false lent h k l e = held_goes w p r h k lent l e

pub used_covered : (w : Table) (n : ℕ) (g : Holding) (ks : List Kind) (r : ℕ) → Covered n (kinds_of w g) ks → is_tree (g r) ≡ true → Covered n (kinds_of w (using g r)) (used_up ks r)
used_covered w n g ks r c tree = record {
  wide = length_become ks (λ q. if goes ks r q then Gone else forget (goes ks r) (at ks q)) ∙ c.wide;
  each = λ q. subst (Covers (kind_of w (using g r q))) (sym (at_used_up ks r q))
      (subst (λ h. Covers (kind_of w h) (dropped (goes ks r) (at ks) q)) (sym (chosen (is_tree (g r)) (if q == r then H.Nothing else without r (g q)) (g q) tree))
      (used_at w (goes ks r) r (q == r) (is_lent_of r (at ks q)) (g q) (at ks q) refl (c.each q)));
}

-- where no tree is held, nothing is used up
pub using_none : (g : Holding) (r : ℕ) → is_tree (g r) ≡ false → (q : ℕ) → using g r q ≡ g q
using_none g r none q = refused (is_tree (g r)) (if q == r then H.Nothing else without r (g q)) (g q) none
