-- After a Take, a register that was borrowed from the register that is taken apart is borrowed from the heir that it
-- reaches. The idea: each from leads to a tree that has the tree; so an heir's tree has those of all that reach it.
use Rattle.std.proofs.Common.{◌≡◌, inl, inr, ℕ, zero, suc, ◌≤◌, Bool, true, false, List, Option, Some, None, refl, sym, ap, ◌∙◌, subst, true≢false, arith, ◌==◌}
use Rattle.std.proofs.lemmas.Option.{none-some, same_Some}
use Rattle.machine_semantics.specs.fip_language.Table.{Table}
use Rattle.machine_semantics.specs.fip_language.Store.{Placed, PlacedInt, Bare, At, Parts, NoParts, MoreParts, uses, uses_of_all}
use Rattle.machine_semantics.specs.cell_code.declared.kind.From.{From}
use Rattle.machine_semantics.specs.cell_code.declared.kind.Kind.{Kind}
use Rattle.machine_semantics.specs.cell_code.declared.kind.Kind.TheVariants.{Gone, Scalar, Owned, Lent, Credit}
use Rattle.machine_semantics.specs.Cells.{Store}
use Rattle.machine_semantics.specs.Apart.{Holding, Tree, LiesWithin}
use Rattle.code_rules.specs.Kinds.{at, is_free, is_owned, from_of, same_root}
use Rattle.code_rules.specs.Changes.{forget_from, forget}
use Rattle.code_rules.specs.Taking.{Chain, IsReached, fate}
use Rattle.separation_kinds.specs.Meanings.{part_in, part_of, Under, Roots, Rooted, Framed, Means, AreMeant}
use Rattle.separation_kinds.proofs.Basics.{pick, apart, or_not, equal, itself}
use Rattle.separation_kinds.proofs.KindLemmas.{free_owned}
use Rattle.code_rules.proofs.Once.{chain_once as chain_one}

pub same_tree : (x y : Placed) → Tree x ≡ Tree y → x ≡ y
same_tree x y e = cc

part_in_uses : (q i : ℕ) (xs : Parts) (x : Placed) → part_in xs i ≡ Some x → uses q x ≤ uses_of_all q xs
part_in_uses q i NoParts x e = absurd (none-some x e)
part_in_uses q zero (MoreParts y xs) x e = let z = ap (uses q) (same_Some y x e) in omega arith
part_in_uses q (suc i) (MoreParts y xs) x e = let z = part_in_uses q i xs x e in omega arith

pub part_within : (y : Placed) (i : ℕ) (x : Placed) → part_of y i ≡ Some x → LiesWithin x y
part_within (PlacedInt n) i x e q = absurd (none-some x e)
part_within (Bare c) i x e q = absurd (none-some x e)
part_within (At p c xs) i x e q = let z = part_in_uses q i xs x e in omega arith

pub no_chain : {A : Type 0} (ks : List Kind) (heir : ℕ → Bool) (n d : ℕ) → Chain ks heir n None d → A
no_chain ks heir zero d x = absurd x
no_chain ks heir (suc n) d x = absurd x

-- where a register has a tree, its from reports of that
pub framed_of : (tb : Table) (s : Store) (below : List Placed) (ks : ℕ → Kind) (hs : ℕ → Holding) (k : Kind) (w : ℕ) (h : Holding) (y : Placed) → h ≡ Tree y → Means tb s below ks hs k w h → (root : Option ℕ) × Framed ks hs root (from_of k) y
framed_of tb s below ks hs Gone w h y e m = (None, tt)
framed_of tb s below ks hs (Scalar t) w h y e m = (None, tt)
framed_of tb s below ks hs (Owned t cs) w h y e m = (None, tt)
framed_of tb s below ks hs (Lent t cs root from) w h y e m = (root, subst (Framed ks hs root from) (same_tree m.tree y (sym m.holds ∙ e)) m.framed)
framed_of tb s below ks hs (Credit k) w h y e m = (None, tt)

-- the tree of a register that is an heir, and has tree x
pub record HasHeir (hs : ℕ → Holding) (heir : ℕ → Bool) (d : ℕ) (x : Placed) : Type 0 where
  pub heir_is : heir d ≡ true
  pub tree : Placed
  pub holds : hs d ≡ Tree tree
  pub within : LiesWithin x tree

pub chain_heir : (tb : Table) (s : Store) (below : List Placed) (ks : List Kind) (ws : ℕ → ℕ) (hs : ℕ → Holding) (heir : ℕ → Bool) (n : ℕ) (root : Option ℕ) (from : Option From) (x : Placed) (d : ℕ) → AreMeant tb s below (at ks) ws hs → Framed (at ks) hs root from x → Chain ks heir n from d → HasHeir hs heir d x
chain_heir tb s below ks ws hs heir n root None x d m f c = no_chain ks heir n d c
chain_heir tb s below ks ws hs heir zero root (Some from) x d m f c = subst (λ d. HasHeir hs heir d x) c.1 (record {
  heir_is = c.0;
  tree = f.tree;
  holds = f.holds;
  within = part_within f.tree from.field x f.part;
})
chain_heir tb s below ks ws hs heir (suc n) root (Some from) x d m f c =
    let up = framed_of tb s below (at ks) hs (at ks from.register) (ws from.register) (hs from.register) f.tree f.holds (m.each from.register) in
    let h = chain_heir tb s below ks ws hs heir n up.0 (from_of (at ks from.register)) f.tree d m up.1 c.1 in
    record {
      heir_is = h.heir_is;
      tree = h.tree;
      holds = h.holds;
      within = λ q. let a = part_within f.tree from.field x f.part q in let b = h.within q in omega arith;
    }

-- a register that reaches an heir is said to
reached_one : (ks : List Kind) (heir : ℕ → Bool) (q n d : ℕ) (o : Option ℕ) → IsReached ks heir q o → Chain ks heir n (from_of (at ks q)) d → o ≡ Some d
reached_one ks heir q n d None r c = absurd (r d (n, c))
reached_one ks heir q n d (Some e) r c = ap Some (chain_one ks heir r.0 n (from_of (at ks q)) e d r.1 c)

-- registers before and after the Take of register r into other registers, some of them heirs
pub record IsTakenFrom (ks : List Kind) (ls : ℕ → Kind) (hs gs : ℕ → Holding) (r : ℕ) (dest heir ends : ℕ → Bool) (reached : ℕ → Option ℕ) : Type 0 where
  pub owner : is_owned (at ks r) ≡ true
  pub free : (q : ℕ) → dest q ≡ true → is_free (at ks q) ≡ true
  pub heir_dest : (q : ℕ) → heir q ≡ true → dest q ≡ true
  pub heir_owns : (q : ℕ) → heir q ≡ true → (is_owned (ls q) ≡ true) × (gs q ≡ hs q)
  pub other : (q : ℕ) → dest q ≡ false → (q == r) ≡ false → (ls q ≡ forget ends (fate (reached q) r (at ks q))) × (gs q ≡ hs q)
  pub ends_dest : (q : ℕ) → dest q ≡ true → heir q ≡ false → ends q ≡ true
  pub reaches : (q : ℕ) → IsReached ks heir q (reached q)

owned_from : (k : Kind) → is_owned k ≡ true → from_of k ≡ None
owned_from Gone o = refl
owned_from (Scalar t) o = refl
owned_from (Owned t cs) o = refl
owned_from (Lent t cs root from) o = absurd (true≢false (sym o))
owned_from (Credit k) o = refl

roots_owned : (r d : ℕ) (k : Kind) → is_owned k ≡ true → r ≡ d → Roots r k (Some d)
roots_owned r d Gone o e = absurd (true≢false (sym o))
roots_owned r d (Scalar t) o e = absurd (true≢false (sym o))
roots_owned r d (Owned t cs) o e = ap Some e
roots_owned r d (Lent t cs root from) o e = absurd (true≢false (sym o))
roots_owned r d (Credit k) o e = absurd (true≢false (sym o))

-- a register that reaches d gets it as root
adopted : (ks : List Kind) (heir ends : ℕ → Bool) (n f r d : ℕ) (k : Kind) → Chain ks heir n (from_of k) d → Roots f (forget ends (fate (Some d) r k)) (Some d)
adopted ks heir ends n f r d Gone c = no_chain ks heir n d c
adopted ks heir ends n f r d (Scalar t) c = no_chain ks heir n d c
adopted ks heir ends n f r d (Owned t cs) c = no_chain ks heir n d c
adopted ks heir ends n f r d (Lent t cs root from) c = refl
adopted ks heir ends n f r d (Credit k) c = no_chain ks heir n d c

-- its from, in the registers after the Take
reached_roots : (ks : List Kind) (ls : ℕ → Kind) (hs gs : ℕ → Holding) (r : ℕ) (dest heir ends : ℕ → Bool) (reached : ℕ → Option ℕ) (n f d : ℕ) → IsTakenFrom ks ls hs gs r dest heir ends reached → ends f ≡ false → (from : From) → from.register ≡ f → Chain ks heir n (Some from) d → Roots f (ls f) (Some d) × (gs f ≡ hs f)
reached_roots ks ls hs gs r dest heir ends reached zero f d t e from is c =
    let here : heir f ≡ true = ap heir (sym is) ∙ c.0 in
    let o = t.heir_owns f here in
    (roots_owned f d (ls f) o.0 (sym is ∙ c.1), o.1)
reached_roots ks ls hs gs r dest heir ends reached (suc n) f d t e from is c =
    let not_heir : heir f ≡ false = ap heir (sym is) ∙ c.0 in
    let chain : Chain ks heir n (from_of (at ks f)) d = subst (λ f. Chain ks heir n (from_of (at ks f)) d) is c.1 in
    elim (or_not (dest f)) as (λ v. Roots f (ls f) (Some d) × (gs f ≡ hs f)) [
      | inl y ↦ apart (ends f) (t.ends_dest f y not_heir) e
      | inr no_dest ↦ elim (or_not (f == r)) as (λ v. Roots f (ls f) (Some d) × (gs f ≡ hs f)) [
        | inl same ↦
            let none : from_of (at ks f) ≡ None = ap (λ f. from_of (at ks f)) (equal f r same) ∙ owned_from (at ks r) t.owner in
            no_chain ks heir n d (subst (λ o. Chain ks heir n o d) none chain)
        | inr off ↦
            let o = t.other f no_dest off in
            let to : reached f ≡ Some d = reached_one ks heir f n d (reached f) (t.reaches f) chain in
            (subst (λ k. Roots f k (Some d)) (sym (o.0 ∙ ap (λ z. forget ends (fate z r (at ks f))) to)) (adopted ks heir ends n f r d (at ks f) chain), o.1)
      ]
    ]

reached_framed : (ks : List Kind) (ls : ℕ → Kind) (hs gs : ℕ → Holding) (r : ℕ) (dest heir ends : ℕ → Bool) (reached : ℕ → Option ℕ) (n d : ℕ) (root : Option ℕ) (from : Option From) (x : Placed) → IsTakenFrom ks ls hs gs r dest heir ends reached → Framed (at ks) hs root from x → Chain ks heir n from d → Framed ls gs (Some d) (forget_from ends from) x
reached_framed ks ls hs gs r dest heir ends reached n d root None x t f c = tt
reached_framed ks ls hs gs r dest heir ends reached n d root (Some from) x t f c = pick (λ o. Framed ls gs (Some d) o x) (ends from.register) None (Some from) (λ e. tt) (λ e.
    let up = reached_roots ks ls hs gs r dest heir ends reached n from.register d t e from refl c in
    record { tree = f.tree; holds = up.1 ∙ f.holds; part = f.part; roots = up.0 })

owned_fate : (ends : ℕ → Bool) (o : Option ℕ) (r : ℕ) (k : Kind) → is_owned k ≡ true → is_owned (forget ends (fate o r k)) ≡ true
owned_fate ends o r Gone e = absurd (true≢false (sym e))
owned_fate ends o r (Scalar t) e = absurd (true≢false (sym e))
owned_fate ends None r (Owned t cs) e = refl
owned_fate ends (Some d) r (Owned t cs) e = refl
owned_fate ends o r (Lent t cs root from) e = absurd (true≢false (sym e))
owned_fate ends o r (Credit k) e = absurd (true≢false (sym e))

roots_unreached : (ends : ℕ → Bool) (f r : ℕ) (k : Kind) (root : Option ℕ) → same_root root (Some r) ≡ false → Roots f k root → Roots f (forget ends (fate None r k)) root
roots_unreached ends f r Gone root off h = absurd h
roots_unreached ends f r (Scalar t) root off h = absurd h
roots_unreached ends f r (Owned t cs) root off h = h
roots_unreached ends f r (Lent t cs o from) root off h = pick (λ k. Roots f (forget ends k) root) (same_root o (Some r)) Gone (Lent t cs o from) (λ e. apart (same_root root (Some r)) (ap (λ o. same_root o (Some r)) (sym h) ∙ e) off) (λ e. h)
roots_unreached ends f r (Credit k) root off h = absurd h

unreached_rooted : (below : List Placed) (ks : List Kind) (ls : ℕ → Kind) (hs gs : ℕ → Holding) (r : ℕ) (dest heir ends : ℕ → Bool) (reached : ℕ → Option ℕ) (root : Option ℕ) (x : Placed) → IsTakenFrom ks ls hs gs r dest heir ends reached → same_root root (Some r) ≡ false → Rooted below (at ks) hs root x → Rooted below ls gs root x
unreached_rooted below ks ls hs gs r dest heir ends reached None x t off u = u
unreached_rooted below ks ls hs gs r dest heir ends reached (Some o) x t off u = elim (or_not (dest o)) as (λ v. Under ls gs o x) [
  | inl y ↦ free_owned (at ks o) (t.free o y) u.owned
  | inr n ↦
      let z = t.other o n off in
      record { owned = ap is_owned z.0 ∙ owned_fate ends (reached o) r (at ks o) u.owned; tree = u.tree; holds = z.1 ∙ u.holds; within = u.within }
]

same_root_refl : (o : Option ℕ) → same_root o o ≡ true
same_root_refl None = refl
same_root_refl (Some a) = itself a

roots_owner : (r : ℕ) (k : Kind) (root : Option ℕ) → is_owned k ≡ true → Roots r k root → Some r ≡ root
roots_owner r Gone root o h = absurd h
roots_owner r (Scalar t) root o h = absurd h
roots_owner r (Owned t cs) root o h = h
roots_owner r (Lent t cs u from) root o h = absurd (true≢false (sym o))
roots_owner r (Credit k) root o h = absurd h

unreached_roots : (ks : List Kind) (ls : ℕ → Kind) (hs gs : ℕ → Holding) (r : ℕ) (dest heir ends : ℕ → Bool) (reached : ℕ → Option ℕ) (root : Option ℕ) (from : From) → IsTakenFrom ks ls hs gs r dest heir ends reached → same_root root (Some r) ≡ false → ((n d : ℕ) → Chain ks heir n (Some from) d → ⊥) → ends from.register ≡ false → Roots from.register (at ks from.register) root → Roots from.register (ls from.register) root × (gs from.register ≡ hs from.register)
unreached_roots ks ls hs gs r dest heir ends reached root from t off none e h =
    let f : ℕ = from.register in
    elim (or_not (heir f)) as (λ v. Roots f (ls f) root × (gs f ≡ hs f)) [
      | inl y ↦ absurd (none 0 f (y, refl))
      | inr not_heir ↦ elim (or_not (dest f)) as (λ v. Roots f (ls f) root × (gs f ≡ hs f)) [
        | inl y ↦ apart (ends f) (t.ends_dest f y not_heir) e
        | inr no_dest ↦ elim (or_not (f == r)) as (λ v. Roots f (ls f) root × (gs f ≡ hs f)) [
          | inl same ↦
              let own : Some f ≡ root = roots_owner f (at ks f) root (ap (λ f. is_owned (at ks f)) (equal f r same) ∙ t.owner) h in
              apart (same_root root (Some r)) (ap (λ o. same_root o (Some r)) (sym own) ∙ same) off
          | inr away ↦
              let o = t.other f no_dest away in
              let unreached : (z : Option ℕ) → IsReached ks heir f z → z ≡ None = λ z. unsaid z not_heir in
              (subst (λ k. Roots f k root) (sym (o.0 ∙ ap (λ z. forget ends (fate z r (at ks f))) (unreached (reached f) (t.reaches f)))) (roots_unreached ends f r (at ks f) root off h), o.1)
        ]
      ]
    ]
  where
    unsaid : (z : Option ℕ) → heir from.register ≡ false → IsReached ks heir from.register z → z ≡ None
    unsaid None not_heir i = refl
    unsaid (Some d) not_heir i = absurd (none (suc i.0) d (not_heir, i.1))

unreached_framed : (ks : List Kind) (ls : ℕ → Kind) (hs gs : ℕ → Holding) (r : ℕ) (dest heir ends : ℕ → Bool) (reached : ℕ → Option ℕ) (root : Option ℕ) (from : Option From) (x : Placed) → IsTakenFrom ks ls hs gs r dest heir ends reached → same_root root (Some r) ≡ false → ((n d : ℕ) → Chain ks heir n from d → ⊥) → Framed (at ks) hs root from x → Framed ls gs root (forget_from ends from) x
unreached_framed ks ls hs gs r dest heir ends reached root None x t off none f = tt
unreached_framed ks ls hs gs r dest heir ends reached root (Some from) x t off none f = pick (λ o. Framed ls gs root o x) (ends from.register) None (Some from) (λ e. tt) (λ e.
    let up = unreached_roots ks ls hs gs r dest heir ends reached root from t off none e f.roots in
    record { tree = f.tree; holds = up.1 ∙ f.holds; part = f.part; roots = up.0 })

-- a from leads to this heir, or to none
abbrev pub LeadsTo : List Kind → (ℕ → Bool) → Option From → Option ℕ → Type 0
LeadsTo ks heir from None = (n d : ℕ) → Chain ks heir n from d → ⊥
LeadsTo ks heir from (Some d) = (n : ℕ) × Chain ks heir n from d

pub leads_to : (ks : List Kind) (heir : ℕ → Bool) (q : ℕ) (o : Option ℕ) → IsReached ks heir q o → LeadsTo ks heir (from_of (at ks q)) o
leads_to ks heir q None i = λ n d c. i d (n, c)
leads_to ks heir q (Some d) i = i

-- a register that gets no field, and isn't the one that is taken apart
pub other_means : (tb : Table) (s : Store) (below : List Placed) (ks : List Kind) (ws : ℕ → ℕ) (ls : ℕ → Kind) (hs gs : ℕ → Holding) (r : ℕ) (dest heir ends : ℕ → Bool) (reached : ℕ → Option ℕ) (k : Kind) (w : ℕ) (h : Holding) (o : Option ℕ) → IsTakenFrom ks ls hs gs r dest heir ends reached → AreMeant tb s below (at ks) ws hs → LeadsTo ks heir (from_of k) o → Means tb s below (at ks) hs k w h → Means tb s below ls gs (forget ends (fate o r k)) w h
other_means tb s below ks ws ls hs gs r dest heir ends reached Gone w h None t all l m = tt
other_means tb s below ks ws ls hs gs r dest heir ends reached Gone w h (Some d) t all l m = tt
other_means tb s below ks ws ls hs gs r dest heir ends reached (Scalar u) w h None t all l m = m
other_means tb s below ks ws ls hs gs r dest heir ends reached (Scalar u) w h (Some d) t all l m = m
other_means tb s below ks ws ls hs gs r dest heir ends reached (Owned u cs) w h None t all l m = m
other_means tb s below ks ws ls hs gs r dest heir ends reached (Owned u cs) w h (Some d) t all l m = m
other_means tb s below ks ws ls hs gs r dest heir ends reached (Credit k) w h None t all l m = m
other_means tb s below ks ws ls hs gs r dest heir ends reached (Credit k) w h (Some d) t all l m = m
other_means tb s below ks ws ls hs gs r dest heir ends reached (Lent u cs root from) w h (Some d) t all l m =
    let found = chain_heir tb s below ks ws hs heir l.0 root from m.tree d all m.framed l.1 in
    let owns = t.heir_owns d found.heir_is in
    record {
      tree = m.tree;
      holds = m.holds;
      is = m.is;
      top = m.top;
      rooted = record { owned = owns.0; tree = found.tree; holds = owns.1 ∙ found.holds; within = found.within };
      framed = reached_framed ks ls hs gs r dest heir ends reached l.0 d root from m.tree t m.framed l.1;
    }
other_means tb s below ks ws ls hs gs r dest heir ends reached (Lent u cs root from) w h None t all l m = pick (λ k. Means tb s below ls gs (forget ends k) w h) (same_root root (Some r)) Gone (Lent u cs root from) (λ e. tt) (λ off. record {
  tree = m.tree;
  holds = m.holds;
  is = m.is;
  top = m.top;
  rooted = unreached_rooted below ks ls hs gs r dest heir ends reached root m.tree t off m.rooted;
  framed = unreached_framed ks ls hs gs r dest heir ends reached root from m.tree t off l m.framed;
})
