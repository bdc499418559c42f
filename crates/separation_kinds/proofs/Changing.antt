-- What registers mean stays where others go, or a free one is written.
-- The idea: a borrowed register depends on its root and on the register that it came from alone.
use Rattle.std.proofs.Common.{◌≡◌, inl, inr, ℕ, ◌+◌, ◌<◌, Bool, true, false, List, length, Option, Some, None, refl, sym, ap, ◌∙◌, subst, true≢false, arith, if◌then◌else◌, ◌==◌}
use Rattle.machine_semantics.specs.fip_language.Table.{Table}
use Rattle.machine_semantics.specs.fip_language.Store.{Placed}
use Rattle.machine_semantics.specs.cell_code.declared.kind.From.{From}
use Rattle.machine_semantics.specs.cell_code.declared.kind.Kind.{Kind}
use Rattle.machine_semantics.specs.cell_code.declared.kind.Kind.TheVariants.{Gone, Scalar, Owned, Lent, Credit}
use Rattle.machine_semantics.specs.Cells.{Store}
use Rattle.machine_semantics.specs.Apart.{Holding, owned_uses}
use Rattle.code_rules.specs.Kinds.{at, is_free, is_owned, is_credit, is_lent_of, from_of}
use Rattle.code_rules.specs.Changes.{forget_from, forget, written, goes, used_up}
use Rattle.separation_kinds.specs.Meanings.{Roots, Rooted, Framed, Means, AreMeant, sum_from, owned_by}
use Rattle.separation_kinds.proofs.Basics.{pick, chosen, refused, apart, itself, equal, unequal_is, neither, one_of, sum_set}
use Rattle.separation_kinds.proofs.KindLemmas.{owned_lent, owned_forget, lent_forget, uses_forget, roots_forget, kept_from_of, owned_gone, roots_gone, put, dropped, is_one, at_used_up, at_written, lent_uses, owned_within}

pub recast : (tb : Table) (s : Store) (below : List Placed) (ks ls : ℕ → Kind) (ws : ℕ → ℕ) (hs : ℕ → Holding) → ((r : ℕ) → ls r ≡ ks r) → AreMeant tb s below ks ws hs → AreMeant tb s below ls ws hs
recast tb s below ks ls ws hs e m = let same : ◌≡◌ {A = ℕ → Kind} ks ls = λ i r. sym (e r) i in subst (λ (f : ℕ → Kind). AreMeant tb s below f ws hs) same m

-- what a register of kind k refers to is the same in other registers
pub record Kept (k : Kind) (ks ls : ℕ → Kind) (hs gs : ℕ → Holding) : Type 0 where
  pub own : (r : ℕ) → is_lent_of r k ≡ true → is_owned (ks r) ≡ true → (is_owned (ls r) ≡ true) × (gs r ≡ hs r)
  pub roots : (f : From) (root : Option ℕ) → from_of k ≡ Some f → Roots f.register (ks f.register) root → Roots f.register (ls f.register) root × (gs f.register ≡ hs f.register)

rooted_kept : (below : List Placed) (ks ls : ℕ → Kind) (hs gs : ℕ → Holding) (t : ℕ) (cs : List ℕ) (root : Option ℕ) (from : Option From) (x : Placed) → Kept (Lent t cs root from) ks ls hs gs → Rooted below ks hs root x → Rooted below ls gs root x
rooted_kept below ks ls hs gs t cs None from x k u = u
rooted_kept below ks ls hs gs t cs (Some r) from x k u =
    let o = k.own r (itself r) u.owned in
    record { owned = o.0; tree = u.tree; holds = o.1 ∙ u.holds; within = u.within }

framed_kept : (ks ls : ℕ → Kind) (hs gs : ℕ → Holding) (t : ℕ) (cs : List ℕ) (root : Option ℕ) (from : Option From) (x : Placed) → Kept (Lent t cs root from) ks ls hs gs → Framed ks hs root from x → Framed ls gs root from x
framed_kept ks ls hs gs t cs root None x k p = tt
framed_kept ks ls hs gs t cs root (Some f) x k p =
    let o = k.roots f root refl p.roots in
    record { tree = p.tree; holds = o.1 ∙ p.holds; part = p.part; roots = o.0 }

pub remean : (tb : Table) (s : Store) (below : List Placed) (ks ls : ℕ → Kind) (hs gs : ℕ → Holding) (k : Kind) (w : ℕ) (h : Holding) → Kept k ks ls hs gs → Means tb s below ks hs k w h → Means tb s below ls gs k w h
remean tb s below ks ls hs gs Gone w h k m = tt
remean tb s below ks ls hs gs (Scalar t) w h k m = m
remean tb s below ks ls hs gs (Owned t cs) w h k m = m
remean tb s below ks ls hs gs (Lent t cs root from) w h k m = record {
  tree = m.tree;
  holds = m.holds;
  is = m.is;
  top = m.top;
  rooted = rooted_kept below ks ls hs gs t cs root from m.tree k m.rooted;
  framed = framed_kept ks ls hs gs t cs root from m.tree k m.framed;
}
remean tb s below ks ls hs gs (Credit n) w h k m = m

framed_forget : (ks : ℕ → Kind) (hs : ℕ → Holding) (p : ℕ → Bool) (root : Option ℕ) (from : Option From) (x : Placed) → Framed ks hs root from x → Framed ks hs root (forget_from p from) x
framed_forget ks hs p root None x f = tt
framed_forget ks hs p root (Some from) x f = pick (λ o. Framed ks hs root o x) (p from.register) None (Some from) (λ e. tt) (λ e. f)

pub forget_means : (tb : Table) (s : Store) (below : List Placed) (ks : ℕ → Kind) (hs : ℕ → Holding) (p : ℕ → Bool) (k : Kind) (w : ℕ) (h : Holding) → Means tb s below ks hs k w h → Means tb s below ks hs (forget p k) w h
forget_means tb s below ks hs p Gone w h m = tt
forget_means tb s below ks hs p (Scalar t) w h m = m
forget_means tb s below ks hs p (Owned t cs) w h m = m
forget_means tb s below ks hs p (Lent t cs root from) w h m = record {
  tree = m.tree;
  holds = m.holds;
  is = m.is;
  top = m.top;
  rooted = m.rooted;
  framed = framed_forget ks hs p root from m.tree m.framed;
}
forget_means tb s below ks hs p (Credit n) w h m = m

-- ---- registers go

-- none of these registers is the root of a kind
abbrev pub Away : (ℕ → Bool) → (ℕ → Kind) → Kind → Type 0
Away p ks k = (r : ℕ) → is_lent_of r k ≡ true → is_owned (ks r) ≡ true → p r ≡ false

pub weaken_one : (tb : Table) (s : Store) (below : List Placed) (ks : ℕ → Kind) (hs : ℕ → Holding) (p : ℕ → Bool) (k : Kind) (w : ℕ) (h : Holding) → Away p ks k → Means tb s below ks hs k w h → Means tb s below (dropped p ks) hs (forget p k) w h
weaken_one tb s below ks hs p k w h away m = remean tb s below ks (dropped p ks) hs hs (forget p k) w h (record {
  own = λ r l o.
      let off = away r (sym (lent_forget r p k) ∙ l) o in
      (ap is_owned (refused (p r) Gone (forget p (ks r)) off) ∙ owned_forget p (ks r) ∙ o, refl);
  roots = λ f root e h.
      let off = kept_from_of p k f e in
      (subst (λ k. Roots f.register k root) (sym (refused (p f.register) Gone (forget p (ks f.register)) off)) (roots_forget p f.register (ks f.register) root h), refl);
}) (forget_means tb s below ks hs p k w h m)

pub weaken : (tb : Table) (s : Store) (below : List Placed) (ks : ℕ → Kind) (ws : ℕ → ℕ) (hs : ℕ → Holding) (p : ℕ → Bool) → ((r : ℕ) → p r ≡ false → Away p ks (ks r)) → AreMeant tb s below ks ws hs → AreMeant tb s below (dropped p ks) ws hs
weaken tb s below ks ws hs p away m = record {
  each = λ r. pick (λ k. Means tb s below (dropped p ks) hs k (ws r) (hs r)) (p r) Gone (forget p (ks r)) (λ e. tt) (λ e. weaken_one tb s below ks hs p (ks r) (ws r) (hs r) (away r e) (m.each r));
}

pub used_up_away : (ks : List Kind) (u r : ℕ) → goes ks u r ≡ false → Away (goes ks u) (at ks) (at ks r)
used_up_away ks u r e o l owned =
    let off = neither (r == u) (is_lent_of u (at ks r)) e in
    let other : o ≡ u → ⊥ = λ z. apart (is_lent_of u (at ks r)) (subst (λ u. is_lent_of u (at ks r) ≡ true) z l) off.1 in
    rw (unequal_is o u other) (owned_lent u (at ks o) owned)

pub used_up_meant : (tb : Table) (s : Store) (below : List Placed) (ks : List Kind) (ws : ℕ → ℕ) (hs : ℕ → Holding) (u : ℕ) → AreMeant tb s below (at ks) ws hs → AreMeant tb s below (at (used_up ks u)) ws hs
used_up_meant tb s below ks ws hs u m = recast tb s below (dropped (goes ks u) (at ks)) (at (used_up ks u)) ws hs (at_used_up ks u) (weaken tb s below (at ks) ws hs (goes ks u) (used_up_away ks u) m)

-- ---- a register that is Gone gets something

pick_all : {A B C : Type 0} (P : A → B → C → Type 0) (b : Bool) (x u : A) (y v : B) (z w : C) → (b ≡ true → P x y z) → (b ≡ false → P u v w) → P (if b then x else u) (if b then y else v) (if b then z else w)
pick_all P true x u y v z w f g = f refl
pick_all P false x u y v z w f g = g refl

fill_kept : (ks : ℕ → Kind) (hs : ℕ → Holding) (d : ℕ) (k j : Kind) (h : Holding) → ks d ≡ Gone → Kept j ks (put d k ks) hs (put d h hs)
fill_kept ks hs d k j h gone = record {
  own = λ r l o.
      let off : (r == d) ≡ false = unequal_is r d (λ e. owned_gone (ks r) (ap ks e ∙ gone) o) in
      (ap is_owned (refused (r == d) k (ks r) off) ∙ o, refused (r == d) h (hs r) off);
  roots = λ f root e g.
      let off : (f.register == d) ≡ false = unequal_is f.register d (λ e. roots_gone f.register (ks f.register) root (ap ks e ∙ gone) g) in
      (subst (λ k. Roots f.register k root) (sym (refused (f.register == d) k (ks f.register) off)) g, refused (f.register == d) h (hs f.register) off);
}

pub fill : (tb : Table) (s : Store) (below : List Placed) (ks : ℕ → Kind) (ws : ℕ → ℕ) (hs : ℕ → Holding) (d : ℕ) (k : Kind) (w : ℕ) (h : Holding) → ks d ≡ Gone → AreMeant tb s below ks ws hs → Means tb s below ks hs k w h → AreMeant tb s below (put d k ks) (put d w ws) (put d h hs)
fill tb s below ks ws hs d k w h gone m new = record {
  each = λ r. pick_all (λ j v g. Means tb s below (put d k ks) (put d h hs) j v g) (r == d) k (ks r) w (ws r) h (hs r) (λ e. remean tb s below ks (put d k ks) hs (put d h hs) k w h (fill_kept ks hs d k k h gone) new) (λ e. remean tb s below ks (put d k ks) hs (put d h hs) (ks r) (ws r) (hs r) (fill_kept ks hs d k (ks r) h gone) (m.each r));
}

unowned_away : (d : ℕ) (ks : ℕ → Kind) (k : Kind) → is_owned (ks d) ≡ false → Away (is_one d) ks k
unowned_away d ks k free r l o = unequal_is r d (λ e. apart (is_owned (ks d)) (subst (λ r. is_owned (ks r) ≡ true) e o) free)

pub free_not_owned : (k : Kind) → is_free k ≡ true → is_owned k ≡ false
free_not_owned Gone f = refl
free_not_owned (Scalar t) f = refl
free_not_owned (Owned t cs) f = absurd (true≢false (sym f))
free_not_owned (Lent t cs root from) f = refl
free_not_owned (Credit k) f = absurd (true≢false (sym f))

pub credit_not_owned : (k : Kind) → is_credit k ≡ true → is_owned k ≡ false
credit_not_owned Gone f = refl
credit_not_owned (Scalar t) f = refl
credit_not_owned (Owned t cs) f = absurd (true≢false (sym f))
credit_not_owned (Lent t cs root from) f = refl
credit_not_owned (Credit k) f = refl

pub weaken_at : (tb : Table) (s : Store) (below : List Placed) (ks : ℕ → Kind) (ws : ℕ → ℕ) (hs : ℕ → Holding) (d : ℕ) → is_owned (ks d) ≡ false → AreMeant tb s below ks ws hs → AreMeant tb s below (dropped (is_one d) ks) ws hs
weaken_at tb s below ks ws hs d free m = weaken tb s below ks ws hs (is_one d) (λ r e. unowned_away d ks (ks r) free) m

-- register d, which owns no tree, gets something
pub written_meant : (tb : Table) (s : Store) (below : List Placed) (ks : List Kind) (ws : ℕ → ℕ) (hs : ℕ → Holding) (d : ℕ) (k : Kind) (w : ℕ) (h : Holding) → d < length ks → is_owned (at ks d) ≡ false → AreMeant tb s below (at ks) ws hs → Means tb s below (at ks) hs k w h → AreMeant tb s below (at (written ks d k)) (put d w ws) (put d h hs)
written_meant tb s below ks ws hs d k w h there free m new = recast tb s below (put d (forget (is_one d) k) (dropped (is_one d) (at ks))) (at (written ks d k)) (put d w ws) (put d h hs) (at_written ks d k there)
    (fill tb s below (dropped (is_one d) (at ks)) ws hs d (forget (is_one d) k) w h (chosen (d == d) Gone (forget (is_one d) (at ks d)) (itself d))
    (weaken_at tb s below (at ks) ws hs d free m)
    (weaken_one tb s below (at ks) hs (is_one d) k w h (unowned_away d (at ks) k free) new))

-- it goes
pub gone_meant : (tb : Table) (s : Store) (below : List Placed) (ks : List Kind) (ws : ℕ → ℕ) (hs : ℕ → Holding) (d : ℕ) → d < length ks → is_owned (at ks d) ≡ false → AreMeant tb s below (at ks) ws hs → AreMeant tb s below (at (written ks d Gone)) ws hs
gone_meant tb s below ks ws hs d there free m = recast tb s below (dropped (is_one d) (at ks)) (at (written ks d Gone)) ws hs (λ r. at_written ks d Gone there r ∙ pick (λ k. k ≡ dropped (is_one d) (at ks) r) (r == d) Gone (dropped (is_one d) (at ks) r) (λ e. sym (chosen (r == d) Gone (forget (is_one d) (at ks r)) e)) (λ e. refl))
    (weaken_at tb s below (at ks) ws hs d free m)

-- ---- how often a cell is owned

pub count_used_up : (q : ℕ) (ks : List Kind) (hs : ℕ → Holding) (u : ℕ) → is_owned (at ks u) ≡ true → owned_by q (at (used_up ks u)) hs (length ks) + owned_uses q (at ks u) (hs u) ≡ owned_by q (at ks) hs (length ks)
count_used_up q ks hs u owned =
    let f : ℕ → ℕ = λ r. owned_uses q (at (used_up ks u) r) (hs r) in
    let g : ℕ → ℕ = λ r. owned_uses q (at ks r) (hs r) in
    let there = owned_within ks u owned in
    let moved : sum_from f 0 (length ks) + g u ≡ sum_from g 0 (length ks) + f u = sum_set f g 0 (length ks) u (omega arith) (omega arith) (λ r off. ap (λ k. owned_uses q k (hs r)) (at_used_up ks u r) ∙ pick (λ k. owned_uses q k (hs r) ≡ owned_uses q (at ks r) (hs r)) (goes ks u r) Gone (forget (goes ks u) (at ks r))
    (λ e. elim (one_of (r == u) (is_lent_of u (at ks r)) e) as (λ v. 0 ≡ owned_uses q (at ks r) (hs r)) [
      | inl same ↦ absurd (off (equal r u same))
      | inr l ↦ sym (lent_uses q u (at ks r) (hs r) l)
    ])
    (λ e. uses_forget q (goes ks u) (at ks r) (hs r))) in
    let gone : f u ≡ 0 = ap (λ k. owned_uses q k (hs u)) (at_used_up ks u u ∙ chosen (goes ks u u) Gone (forget (goes ks u) (at ks u)) (rw (itself u) refl)) in
    omega arith

pub count_written : (q : ℕ) (ks : List Kind) (hs : ℕ → Holding) (d : ℕ) (k : Kind) (h : Holding) → d < length ks → owned_by q (at (written ks d k)) (put d h hs) (length ks) + owned_uses q (at ks d) (hs d) ≡ owned_by q (at ks) hs (length ks) + owned_uses q k h
count_written q ks hs d k h there =
    let f : ℕ → ℕ = λ r. owned_uses q (at (written ks d k) r) (put d h hs r) in
    let g : ℕ → ℕ = λ r. owned_uses q (at ks r) (hs r) in
    let moved : sum_from f 0 (length ks) + g d ≡ sum_from g 0 (length ks) + f d = sum_set f g 0 (length ks) d (omega arith) (omega arith) (λ r off.
    let e = unequal_is r d off in
    ap (λ j. owned_uses q j (put d h hs r)) (at_written ks d k there r ∙ refused (r == d) (forget (is_one d) k) (dropped (is_one d) (at ks) r) e ∙ refused (r == d) Gone (forget (is_one d) (at ks r)) e)
    ∙ ap (λ j. owned_uses q (forget (is_one d) (at ks r)) j) (refused (r == d) h (hs r) e) ∙ uses_forget q (is_one d) (at ks r) (hs r)) in
    let new : f d ≡ owned_uses q k h = ap (λ j. owned_uses q j (put d h hs d)) (at_written ks d k there d ∙ chosen (d == d) (forget (is_one d) k) (dropped (is_one d) (at ks) d) (itself d)) ∙ ap (λ j. owned_uses q (forget (is_one d) k) j) (chosen (d == d) h (hs d) (itself d)) ∙ uses_forget q (is_one d) k h in
    omega arith

-- where it goes and still holds what it held
pub count_gone : (q : ℕ) (ks : List Kind) (hs : ℕ → Holding) (d : ℕ) → d < length ks → owned_by q (at (written ks d Gone)) hs (length ks) + owned_uses q (at ks d) (hs d) ≡ owned_by q (at ks) hs (length ks)
count_gone q ks hs d there =
    let f : ℕ → ℕ = λ r. owned_uses q (at (written ks d Gone) r) (hs r) in
    let g : ℕ → ℕ = λ r. owned_uses q (at ks r) (hs r) in
    let moved : sum_from f 0 (length ks) + g d ≡ sum_from g 0 (length ks) + f d = sum_set f g 0 (length ks) d (omega arith) (omega arith) (λ r off.
    let e = unequal_is r d off in
    ap (λ j. owned_uses q j (hs r)) (at_written ks d Gone there r ∙ refused (r == d) Gone (dropped (is_one d) (at ks) r) e ∙ refused (r == d) Gone (forget (is_one d) (at ks r)) e) ∙ uses_forget q (is_one d) (at ks r) (hs r)) in
    let new : f d ≡ 0 = ap (λ j. owned_uses q j (hs d)) (at_written ks d Gone there d ∙ chosen (d == d) Gone (dropped (is_one d) (at ks) d) (itself d)) in
    omega arith
