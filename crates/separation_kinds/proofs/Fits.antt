-- What registers mean stays where one is tested, and at a label whose map takes what arrives.
use Rattle.std.proofs.Common.{◌≡◌, inl, inr, ℕ, zero, suc, ◌<◌, true, ◌&&◌, not, List, [], ◌∷◌, length, Option, Some, None, refl, sym, ap, ap₂, ◌∙◌, subst, true≢false, arith, nat_lt, if◌then◌else◌, ◌==◌}
use Rattle.std.specs.Prelude.{Contains}
use Rattle.std.proofs.lemmas.Option.{none-some, same_Some}
use Rattle.machine_semantics.specs.fip_language.Table.{Table}
use Rattle.machine_semantics.specs.fip_language.Store.{Placed}
use Rattle.machine_semantics.specs.cell_code.declared.kind.From.{From}
use Rattle.machine_semantics.specs.cell_code.declared.kind.Kind.{Kind}
use Rattle.machine_semantics.specs.cell_code.declared.kind.Kind.TheVariants.{Gone, Scalar, Owned, Lent, Credit}
use Rattle.machine_semantics.specs.Cells.{Store}
use Rattle.machine_semantics.specs.Apart.{Holding, RootIn, owned_uses}
use Rattle.code_rules.specs.Kinds.{has, at, is_owned, is_lent_of, from_of, same_root, root_of}
use Rattle.code_rules.specs.Changes.{narrow, tested}
use Rattle.code_rules.specs.Fitting.{is_subset, takes_from, fits, fit_all}
use Rattle.code_rules.specs.Asked.{known_fields}
use Rattle.code_rules.specs.Headers.{is_good_root, is_good_from, is_good_kind, are_good_kinds, is_set}
use Rattle.separation_kinds.specs.Meanings.{Roots, Framed, Means, AreMeant, owned_by}
use Rattle.separation_kinds.proofs.Basics.{pick, both, equal, below, at_past, becomes, sum_same}
use Rattle.separation_kinds.proofs.Changing.{Kept, remean, recast}
use Rattle.separation_kinds.proofs.Shapes.{has_contains, root_map, contains_split}

-- ---- a test

owned_narrow : (cs : List ℕ) (k : Kind) → is_owned (narrow cs k) ≡ is_owned k
owned_narrow cs Gone = refl
owned_narrow cs (Scalar t) = refl
owned_narrow cs (Owned t s) = refl
owned_narrow cs (Lent t s root from) = refl
owned_narrow cs (Credit k) = refl

roots_narrow : (cs : List ℕ) (r : ℕ) (k : Kind) (root : Option ℕ) → Roots r k root → Roots r (narrow cs k) root
roots_narrow cs r Gone root h = h
roots_narrow cs r (Scalar t) root h = h
roots_narrow cs r (Owned t s) root h = h
roots_narrow cs r (Lent t s o from) root h = h
roots_narrow cs r (Credit k) root h = h

pub uses_narrow : (q : ℕ) (cs : List ℕ) (k : Kind) (h : Holding) → owned_uses q (narrow cs k) h ≡ owned_uses q k h
uses_narrow q cs Gone h = refl
uses_narrow q cs (Scalar t) h = refl
uses_narrow q cs (Owned t s) h = refl
uses_narrow q cs (Lent t s root from) h = refl
uses_narrow q cs (Credit k) h = refl

-- the kinds after a test
abbrev pub narrowed : (ℕ → Kind) → ℕ → List ℕ → ℕ → Kind
narrowed ks r cs q = if q == r then narrow cs (ks q) else ks q

pub at_tested : (ks : List Kind) (r : ℕ) (cs : List ℕ) (q : ℕ) → at (tested ks r cs) q ≡ narrowed (at ks) r cs q
at_tested ks r cs q = becomes ks (narrowed (at ks) r cs) (λ q h. pick (λ k. k ≡ Gone) (q == r) (narrow cs (at ks q)) (at ks q) (λ e. ap (narrow cs) (at_past ks q h)) (λ e. at_past ks q h)) q

narrowed_kept : (ks : ℕ → Kind) (hs : ℕ → Holding) (r : ℕ) (cs : List ℕ) (k : Kind) → Kept k ks (narrowed ks r cs) hs hs
narrowed_kept ks hs r cs k = record {
  own = λ o l owned. (pick (λ j. is_owned j ≡ true) (o == r) (narrow cs (ks o)) (ks o) (λ e. owned_narrow cs (ks o) ∙ owned) (λ e. owned), refl);
  roots = λ f root e h. (pick (λ j. Roots f.register j root) (f.register == r) (narrow cs (ks f.register)) (ks f.register) (λ z. roots_narrow cs f.register (ks f.register) root h) (λ z. h), refl);
}

-- the tree of a register of this kind has one of the constructors
abbrev pub HasRoot : List ℕ → Kind → Holding → Type 0
HasRoot cs Gone h = Unit {0}
HasRoot cs (Scalar t) h = Unit {0}
HasRoot cs (Owned t s) h = RootIn cs h
HasRoot cs (Lent t s root from) h = RootIn cs h
HasRoot cs (Credit k) h = Unit {0}

narrow_means : (tb : Table) (s : Store) (below : List Placed) (ks : ℕ → Kind) (hs : ℕ → Holding) (cs : List ℕ) (k : Kind) (w : ℕ) (h : Holding) → HasRoot cs k h → Means tb s below ks hs k w h → Means tb s below ks hs (narrow cs k) w h
narrow_means tb s below ks hs cs Gone w h r m = tt
narrow_means tb s below ks hs cs (Scalar t) w h r m = m
narrow_means tb s below ks hs cs (Owned t ds) w h r m = record { tree = m.tree; holds = m.holds; is = m.is; top = subst (RootIn cs) m.holds r }
narrow_means tb s below ks hs cs (Lent t ds root from) w h r m = record { tree = m.tree; holds = m.holds; is = m.is; top = subst (RootIn cs) m.holds r; rooted = m.rooted; framed = m.framed }
narrow_means tb s below ks hs cs (Credit k) w h r m = m

pub tested_meant : (tb : Table) (s : Store) (below : List Placed) (ks : List Kind) (ws : ℕ → ℕ) (hs : ℕ → Holding) (r : ℕ) (cs : List ℕ) → HasRoot cs (at ks r) (hs r) → AreMeant tb s below (at ks) ws hs → AreMeant tb s below (at (tested ks r cs)) ws hs
tested_meant tb s below ks ws hs r cs root m = recast tb s below (narrowed (at ks) r cs) (at (tested ks r cs)) ws hs (at_tested ks r cs) (record {
  each = λ q. pick (λ k. Means tb s below (narrowed (at ks) r cs) hs k (ws q) (hs q)) (q == r) (narrow cs (at ks q)) (at ks q)
      (λ e. let same = equal q r e in
      let here : HasRoot cs (at ks q) (hs q) = subst (λ r. HasRoot cs (at ks r) (hs r)) (sym same) root in
      remean tb s below (at ks) (narrowed (at ks) r cs) hs hs (narrow cs (at ks q)) (ws q) (hs q) (narrowed_kept (at ks) hs r cs (narrow cs (at ks q))) (narrow_means tb s below (at ks) hs cs (at ks q) (ws q) (hs q) here (m.each q)))
      (λ e. remean tb s below (at ks) (narrowed (at ks) r cs) hs hs (at ks q) (ws q) (hs q) (narrowed_kept (at ks) hs r cs (at ks q)) (m.each q));
})

pub count_tested : (q : ℕ) (ks : List Kind) (hs : ℕ → Holding) (r : ℕ) (cs : List ℕ) → owned_by q (at (tested ks r cs)) hs (length ks) ≡ owned_by q (at ks) hs (length ks)
count_tested q ks hs r cs = sum_same (λ i. owned_uses q (at (tested ks r cs) i) (hs i)) (λ i. owned_uses q (at ks i) (hs i)) 0 (length ks) (λ i low high. ap (λ k. owned_uses q k (hs i)) (at_tested ks r cs i) ∙ pick (λ k. owned_uses q k (hs i) ≡ owned_uses q (at ks i) (hs i)) (i == r) (narrow cs (at ks i)) (at ks i) (λ e. uses_narrow q cs (at ks i) (hs i)) (λ e. refl))

-- ---- a label

pub fit_length : (ms ks : List Kind) → fit_all ms ks ≡ true → length ms ≡ length ks
fit_length [] [] e = refl
fit_length [] (k ∷ ks) e = absurd (true≢false (sym e))
fit_length (m ∷ ms) [] e = absurd (true≢false (sym e))
fit_length (m ∷ ms) (k ∷ ks) e = ap suc (fit_length ms ks (both (fits m k) (fit_all ms ks) e).1)

pub fit_at : (ms ks : List Kind) → fit_all ms ks ≡ true → (r : ℕ) → fits (at ms r) (at ks r) ≡ true
fit_at [] [] e r = refl
fit_at [] (k ∷ ks) e r = absurd (true≢false (sym e))
fit_at (m ∷ ms) [] e r = absurd (true≢false (sym e))
fit_at (m ∷ ms) (k ∷ ks) e zero = (both (fits m k) (fit_all ms ks) e).0
fit_at (m ∷ ms) (k ∷ ks) e (suc r) = fit_at ms ks (both (fits m k) (fit_all ms ks) e).1 r

-- a kind of a map, whose number doesn't matter
pub good_at : (w : Table) (ms : List Kind) (j : ℕ) (ks : List Kind) → are_good_kinds w ms j ks ≡ true → (r : ℕ) → (i : ℕ) × (is_good_kind w ms i (at ks r) ≡ true)
good_at w ms j [] e r = (j, refl)
good_at w ms j (k ∷ ks) e zero = (j, (both (is_good_kind w ms j k) (are_good_kinds w ms (suc j) ks) e).0)
good_at w ms j (k ∷ ks) e (suc r) = good_at w ms (suc j) ks (both (is_good_kind w ms j k) (are_good_kinds w ms (suc j) ks) e).1 r

subset_contains : (cs ds : List ℕ) → is_subset cs ds ≡ true → (c : ℕ) → Contains cs c → Contains ds c
subset_contains [] ds e c h = absurd (let l = h.1 in let z : ⊥ = omega arith in z)
subset_contains (x ∷ cs) ds e c h =
    let p = both (has ds x) (is_subset cs ds) e in
    elim (contains_split x c cs h) as (λ v. Contains ds c) [
      | inl same ↦ has_contains ds c (subst (λ x. has ds x ≡ true) same p.0)
      | inr r ↦ subset_contains cs ds p.1 c r
    ]

same_root_is : (a b : Option ℕ) → same_root a b ≡ true → a ≡ b
same_root_is None None e = refl
same_root_is None (Some b) e = absurd (true≢false (sym e))
same_root_is (Some a) None e = absurd (true≢false (sym e))
same_root_is (Some a) (Some b) e = ap Some (equal a b e)

from_same : (f g : From) → f.register ≡ g.register → f.field ≡ g.field → f ≡ g
from_same f g r i = ap₂ (λ (r i : ℕ). record { register = r; field = i }) r i

framed_takes : (ks : ℕ → Kind) (hs : ℕ → Holding) (root : Option ℕ) (m a : Option From) (x : Placed) → takes_from m a ≡ true → Framed ks hs root a x → Framed ks hs root m x
framed_takes ks hs root None a x e f = tt
framed_takes ks hs root (Some m) None x e f = absurd (true≢false (sym e))
framed_takes ks hs root (Some m) (Some a) x e f =
    let p = both (m.register == a.register) (m.field == a.field) e in
    subst (λ g. Framed ks hs root (Some g) x) (sym (from_same m a (equal m.register a.register p.0) (equal m.field a.field p.1))) f

-- what the kind of a map says holds of what it takes
fits_means : (tb : Table) (s : Store) (below : List Placed) (ks : ℕ → Kind) (hs : ℕ → Holding) (m k : Kind) (w : ℕ) (h : Holding) → fits m k ≡ true → Means tb s below ks hs k w h → Means tb s below ks hs m w h
fits_means tb s below ks hs Gone k w h e g = tt
fits_means tb s below ks hs (Scalar t) Gone w h e g = absurd (true≢false (sym e))
fits_means tb s below ks hs (Scalar t) (Scalar u) w h e g = subst (λ t. Means tb s below ks hs (Scalar t) w h) (equal u t e) g
fits_means tb s below ks hs (Scalar t) (Owned u cs) w h e g = absurd (true≢false (sym e))
fits_means tb s below ks hs (Scalar t) (Lent u cs root from) w h e g = absurd (true≢false (sym e))
fits_means tb s below ks hs (Scalar t) (Credit n) w h e g = absurd (true≢false (sym e))
fits_means tb s below ks hs (Credit k) Gone w h e g = absurd (true≢false (sym e))
fits_means tb s below ks hs (Credit k) (Scalar u) w h e g = absurd (true≢false (sym e))
fits_means tb s below ks hs (Credit k) (Owned u cs) w h e g = absurd (true≢false (sym e))
fits_means tb s below ks hs (Credit k) (Lent u cs root from) w h e g = absurd (true≢false (sym e))
fits_means tb s below ks hs (Credit k) (Credit n) w h e g = subst (λ k. Means tb s below ks hs (Credit k) w h) (equal n k e) g
fits_means tb s below ks hs (Owned t ds) Gone w h e g = absurd (true≢false (sym e))
fits_means tb s below ks hs (Owned t ds) (Scalar u) w h e g = absurd (true≢false (sym e))
fits_means tb s below ks hs (Owned t ds) (Owned u cs) w h e g =
    let p = both (u == t) (is_subset cs ds) e in
    subst (λ t. Means tb s below ks hs (Owned t ds) w h) (equal u t p.0) (record { tree = g.tree; holds = g.holds; is = g.is; top = root_map cs ds g.tree (subset_contains cs ds p.1) g.top })
fits_means tb s below ks hs (Owned t ds) (Lent u cs root from) w h e g = absurd (true≢false (sym e))
fits_means tb s below ks hs (Owned t ds) (Credit n) w h e g = absurd (true≢false (sym e))
fits_means tb s below ks hs (Lent t ds root from) Gone w h e g = absurd (true≢false (sym e))
fits_means tb s below ks hs (Lent t ds root from) (Scalar u) w h e g = absurd (true≢false (sym e))
fits_means tb s below ks hs (Lent t ds root from) (Owned u cs) w h e g = absurd (true≢false (sym e))
fits_means tb s below ks hs (Lent t ds root from) (Lent u cs o f) w h e g =
    let p = both (u == t) (is_subset cs ds && (same_root o root && takes_from from f)) e in
    let q = both (is_subset cs ds) (same_root o root && takes_from from f) p.1 in
    let r = both (same_root o root) (takes_from from f) q.1 in
    subst (λ t. Means tb s below ks hs (Lent t ds root from) w h) (equal u t p.0) (subst (λ root. Means tb s below ks hs (Lent u ds root from) w h) (same_root_is o root r.0) (record {
      tree = g.tree;
      holds = g.holds;
      is = g.is;
      top = root_map cs ds g.tree (subset_contains cs ds q.0) g.top;
      rooted = g.rooted;
      framed = framed_takes ks hs o from f g.tree r.1 g.framed;
    }))
fits_means tb s below ks hs (Lent t ds root from) (Credit n) w h e g = absurd (true≢false (sym e))

-- a register of a map that has known fields has the root that it has on arrival
fits_roots : (tb : Table) (r : ℕ) (m k : Kind) (root : Option ℕ) → fits m k ≡ true → 0 < length (known_fields tb m) → Roots r k root → Roots r m root
fits_roots tb r Gone k root e known h = absurd (omega arith)
fits_roots tb r (Scalar t) k root e known h = absurd (omega arith)
fits_roots tb r (Credit n) k root e known h = absurd (omega arith)
fits_roots tb r (Owned t ds) Gone root e known h = absurd h
fits_roots tb r (Owned t ds) (Scalar u) root e known h = absurd h
fits_roots tb r (Owned t ds) (Owned u cs) root e known h = h
fits_roots tb r (Owned t ds) (Lent u cs o f) root e known h = absurd (true≢false (sym e))
fits_roots tb r (Owned t ds) (Credit n) root e known h = absurd h
fits_roots tb r (Lent t ds mo from) Gone root e known h = absurd h
fits_roots tb r (Lent t ds mo from) (Scalar u) root e known h = absurd h
fits_roots tb r (Lent t ds mo from) (Owned u cs) root e known h = absurd (true≢false (sym e))
fits_roots tb r (Lent t ds mo from) (Lent u cs o f) root e known h =
    let p = both (u == t) (is_subset cs ds && (same_root o mo && takes_from from f)) e in
    let q = both (is_subset cs ds) (same_root o mo && takes_from from f) p.1 in
    sym (same_root_is o mo (both (same_root o mo) (takes_from from f) q.1).0) ∙ h
fits_roots tb r (Lent t ds mo from) (Credit n) root e known h = absurd h

good_lent : (tb : Table) (ms : List Kind) (j r : ℕ) (k : Kind) → is_good_kind tb ms j k ≡ true → is_lent_of r k ≡ true → is_owned (at ms r) ≡ true
good_lent tb ms j r Gone g l = absurd (true≢false (sym l))
good_lent tb ms j r (Scalar t) g l = absurd (true≢false (sym l))
good_lent tb ms j r (Owned t cs) g l = absurd (true≢false (sym l))
good_lent tb ms j r (Lent t cs None from) g l = absurd (true≢false (sym l))
good_lent tb ms j r (Lent t cs (Some o) from) g l =
    let p = both (is_set tb t cs) (is_owned (at ms o) && is_good_from tb ms j (Some o) from) g in
    subst (λ o. is_owned (at ms o) ≡ true) (equal o r l) (both (is_owned (at ms o)) (is_good_from tb ms j (Some o) from) p.1).0
good_lent tb ms j r (Credit k) g l = absurd (true≢false (sym l))

good_known : (tb : Table) (ms : List Kind) (j : ℕ) (root : Option ℕ) (from : Option From) (f : From) → is_good_from tb ms j root from ≡ true → from ≡ Some f → 0 < length (known_fields tb (at ms f.register))
good_known tb ms j root None f g e = absurd (none-some f e)
good_known tb ms j root (Some from) f g e =
    let p = both (not (from.register == j)) (same_root (root_of from.register (at ms from.register)) root && nat_lt from.field (length (known_fields tb (at ms from.register)))) g in
    let q = both (same_root (root_of from.register (at ms from.register)) root) (nat_lt from.field (length (known_fields tb (at ms from.register)))) p.1 in
    let some = below from.field (length (known_fields tb (at ms from.register))) q.1 in
    let more : 0 < length (known_fields tb (at ms from.register)) = omega arith in
    subst (λ (f : From). 0 < length (known_fields tb (at ms f.register))) (same_Some from f e) more

good_from : (tb : Table) (ms : List Kind) (j : ℕ) (k : Kind) (f : From) → is_good_kind tb ms j k ≡ true → from_of k ≡ Some f → 0 < length (known_fields tb (at ms f.register))
good_from tb ms j Gone f g e = absurd (none-some f e)
good_from tb ms j (Scalar t) f g e = absurd (none-some f e)
good_from tb ms j (Owned t cs) f g e = absurd (none-some f e)
good_from tb ms j (Lent t cs root from) f g e =
    let p = both (is_set tb t cs) (is_good_root ms root && is_good_from tb ms j root from) g in
    good_known tb ms j root from f (both (is_good_root ms root) (is_good_from tb ms j root from) p.1).1 e
good_from tb ms j (Credit k) f g e = absurd (none-some f e)

pub fitted_meant : (tb : Table) (s : Store) (below : List Placed) (ms ks : List Kind) (ws : ℕ → ℕ) (hs : ℕ → Holding) → fit_all ms ks ≡ true → are_good_kinds tb ms 0 ms ≡ true → AreMeant tb s below (at ks) ws hs → AreMeant tb s below (at ms) ws hs
fitted_meant tb s below ms ks ws hs e g m = record {
  each = λ r.
      let good = good_at tb ms 0 ms g r in
      remean tb s below (at ks) (at ms) hs hs (at ms r) (ws r) (hs r) (record {
        own = λ o l owned. (good_lent tb ms good.0 o (at ms r) good.1 l, refl);
        roots = λ f root from h. (fits_roots tb f.register (at ms f.register) (at ks f.register) root (fit_at ms ks e f.register) (good_from tb ms good.0 (at ms r) f good.1 from) h, refl);
      }) (fits_means tb s below (at ks) hs (at ms r) (at ks r) (ws r) (hs r) (fit_at ms ks e r) (m.each r));
}

fits_uses : (q : ℕ) (m k : Kind) (h : Holding) → fits m k ≡ true → owned_uses q m h ≡ owned_uses q k h
fits_uses q Gone Gone h e = refl
fits_uses q Gone (Scalar u) h e = refl
fits_uses q Gone (Owned u cs) h e = absurd (true≢false (sym e))
fits_uses q Gone (Lent u cs o f) h e = refl
fits_uses q Gone (Credit n) h e = absurd (true≢false (sym e))
fits_uses q (Scalar t) Gone h e = refl
fits_uses q (Scalar t) (Scalar u) h e = refl
fits_uses q (Scalar t) (Owned u cs) h e = absurd (true≢false (sym e))
fits_uses q (Scalar t) (Lent u cs o f) h e = refl
fits_uses q (Scalar t) (Credit n) h e = absurd (true≢false (sym e))
fits_uses q (Owned t ds) Gone h e = absurd (true≢false (sym e))
fits_uses q (Owned t ds) (Scalar u) h e = absurd (true≢false (sym e))
fits_uses q (Owned t ds) (Owned u cs) h e = refl
fits_uses q (Owned t ds) (Lent u cs o f) h e = absurd (true≢false (sym e))
fits_uses q (Owned t ds) (Credit n) h e = absurd (true≢false (sym e))
fits_uses q (Lent t ds root from) Gone h e = refl
fits_uses q (Lent t ds root from) (Scalar u) h e = refl
fits_uses q (Lent t ds root from) (Owned u cs) h e = absurd (true≢false (sym e))
fits_uses q (Lent t ds root from) (Lent u cs o f) h e = refl
fits_uses q (Lent t ds root from) (Credit n) h e = absurd (true≢false (sym e))
fits_uses q (Credit k) Gone h e = absurd (true≢false (sym e))
fits_uses q (Credit k) (Scalar u) h e = absurd (true≢false (sym e))
fits_uses q (Credit k) (Owned u cs) h e = absurd (true≢false (sym e))
fits_uses q (Credit k) (Lent u cs o f) h e = absurd (true≢false (sym e))
fits_uses q (Credit k) (Credit n) h e = refl

pub count_fitted : (q : ℕ) (ms ks : List Kind) (hs : ℕ → Holding) → fit_all ms ks ≡ true → owned_by q (at ms) hs (length ms) ≡ owned_by q (at ks) hs (length ks)
count_fitted q ms ks hs e = ap (owned_by q (at ms) hs) (fit_length ms ks e) ∙ sum_same (λ i. owned_uses q (at ms i) (hs i)) (λ i. owned_uses q (at ks i) (hs i)) 0 (length ks) (λ i low high. fits_uses q (at ms i) (at ks i) (hs i) (fit_at ms ks e i))
