-- What is owned beside a part stays as it is: such parts come one after another, and where it does what is known of
-- registers goes with the variables.
use Rattle.std.proofs.Common.{◌≡◌, inl, inr, ℕ, zero, suc, ◌+◌, ◌<◌, ◌≤◌, Bool, true, false, List, [], ◌∷◌, length, Option, Some, None, refl, sym, ap, ◌∙◌, subst, true≢false, arith, if◌then◌else◌}
use Rattle.separation.specs.fip_language.Table.{Table}
use Rattle.lowering_relation.specs.fip_trees.declared.program.Binder.{Binder}
use Rattle.derivation_making.specs.type_check.Scope.{Scope, of_binder}
use Rattle.derivation_making.specs.ownership_calculus.Terms.{Item, Own, Credit}
use Rattle.derivation_making.specs.ownership_calculus.Rules.{Fits}
use Rattle.separation.specs.cell_code.Plain.{PlainFunction, PlainCode}
use Rattle.separation.specs.code_rules.Types.{is_scalar_type}
use Rattle.separation.proofs.separation_kinds.Basics.{or_not, less_or_not}
use Rattle.lowering_relation.specs.declared.held.Held.{Held}
use Rattle.lowering_relation.specs.declared.held.Held.TheVariants as H
use Rattle.lowering_relation.specs.Known.{Known, register_of}
use Rattle.lowering_relation.specs.LoweredBodies.{all_named, with_names}
use Rattle.lowering_relation.specs.Describing.{Holding, held_at, is_tree}
use Rattle.lowering_relation.specs.Matches.{widened, wide, wide_at}
use Rattle.lowering_relation.specs.Credits.{LastGone}
use Rattle.lowering_soundness.specs.Giving.{is_owned_of, is_credit_of}
use Rattle.lowering_soundness.specs.Ties.{one_if, is_register, owners, sized, counted, own, is_read_of, Balanced, Rooted, Stays, HoldsVariable, LiesIn, BareRight, Ties}
use Rattle.lowering_soundness.specs.Delivered.{Keeps, Settled, Delivered}
use Rattle.lowering_soundness.specs.Placed.{NoneFrom, InOrder}
use Rattle.lowering_soundness.proofs.Giving.{owned_tree}
use Rattle.lowering_soundness.proofs.Balance.{stays_same, stays_on, stays_fewer}
use Rattle.lowering_soundness.proofs.Owners.{owners_less, owners_least}
use Rattle.lowering_soundness.proofs.Tying.{read_same}
use Rattle.lowering_soundness.proofs.Naming.{register_old}
use Rattle.lowering_soundness.proofs.EntryHeld.{held_wide}
use Rattle.lowering_soundness.proofs.Cleared.{Kept, wide_owned, wide_read, wide_tree, wide_lies}
use Rattle.lowering_soundness.proofs.Stacks.{take_lower, stack_less}
use Rattle.tail_groups.proofs.fip_language.Facts.{if_zero_zero as zero_head}
use Rattle.lowering_soundness.proofs.Tying.{lies_scalar}

-- ---- registers by which something is owned

head_gone : (a : Option ℕ) (n q : ℕ) → (1 ≤ n → a ≡ None) → (if is_register a q then n else 0) ≡ 0
head_gone a zero q h = zero_head (is_register a q) 0 refl
head_gone a (suc n) q h = ap (λ a. if is_register a q then suc n else 0) (h (omega arith))

head_kept : (a b : Option ℕ) (n q : ℕ) → (1 ≤ n → a ≡ b) → (if is_register a q then n else 0) ≡ (if is_register b q then n else 0)
head_kept a b zero q h = zero_head (is_register a q) 0 refl ∙ sym (zero_head (is_register b q) 0 refl)
head_kept a b (suc n) q h = ap (λ a. if is_register a q then suc n else 0) (h (omega arith))

owners_gone : (ns : List (Option ℕ)) (T : ℕ → ℕ) (q : ℕ) → ((x : ℕ) → 1 ≤ T x → register_of ns (Some x) ≡ None) → owners ns T q ≡ 0
owners_gone [] T q h = refl
owners_gone (o ∷ os) T q h =
    let a = head_gone o (T 0) q (h 0) in
    let b = owners_gone os (λ x. T (suc x)) q (λ x. h (suc x)) in
    omega (arith, a, b)

pub owners_kept : (ns ms : List (Option ℕ)) (T : ℕ → ℕ) (q : ℕ) → ((x : ℕ) → 1 ≤ T x → register_of ms (Some x) ≡ register_of ns (Some x)) → owners ms T q ≡ owners ns T q
owners_kept [] ms T q h = owners_gone ms T q h
owners_kept (n ∷ ns) [] T q h = sym (owners_gone (n ∷ ns) T q (λ x m. sym (h x m)))
owners_kept (n ∷ ns) (m ∷ ms) T q h =
    let a = head_kept m n (T 0) q (h 0) in
    let b = owners_kept ns ms (λ x. T (suc x)) q (λ x. h (suc x)) in
    omega (arith, a, b)

-- ---- what a register holds stays

-- a register holds what stays: a scalar, a tree that is owned so often, or what lies in such a one or outside
abbrev pub Stayed : (ℕ → ℕ) → ℕ → Held → Type 0
Stayed n r H.Nothing = ⊥
Stayed n r (H.Scalar t) = Unit {0}
Stayed n r (H.Owned t b) = 1 ≤ n r
Stayed n r (H.Lent t None) = Unit {0}
Stayed n r (H.Lent t (Some q)) = 1 ≤ n q
Stayed n r (H.Credit m) = ⊥
Stayed n r (H.Bare t c) = ⊥

tree_stayed : (n : ℕ → ℕ) (r : ℕ) (h : Held) → is_tree h ≡ true → 1 ≤ n r → Stayed n r h
tree_stayed n r H.Nothing e more = absurd (true≢false (sym e))
tree_stayed n r (H.Scalar t) e more = absurd (true≢false (sym e))
tree_stayed n r (H.Owned t b) e more = more
tree_stayed n r (H.Lent t root) e more = absurd (true≢false (sym e))
tree_stayed n r (H.Credit m) e more = absurd (true≢false (sym e))
tree_stayed n r (H.Bare t c) e more = absurd (true≢false (sym e))

pub stays_by : (g h : Holding) (n : ℕ → ℕ) → ((r : ℕ) → Stayed n r (g r) → h r ≡ g r) → Stays g h n
stays_by g h n same = record {
  scalar = λ r t e. same r (subst (Stayed n r) (sym e) tt) ∙ e;
  tree = λ r more e. same r (tree_stayed n r (g r) e more);
  lent = λ r t e. same r (subst (Stayed n r) (sym e) tt) ∙ e;
  lent_of = λ r t q e more. same r (subst (Stayed n r) (sym e) more) ∙ e;
}

wide_tree_of : (h : Held) (t : ℕ) (b : Option ℕ) → h ≡ H.Owned t b → is_tree (widened h) ≡ true
wide_tree_of h t b e = ap (λ h. is_tree (widened h)) e

-- the same where it is forgotten which constructor was built
pub stays_wide : (g h : Holding) (n : ℕ → ℕ) → Stays g h n → Stays (wide_at g) (wide_at h) n
stays_wide g h n x = stays_by (wide_at g) (wide_at h) n (λ r. by r (g r) refl)
  where
    by : (r : ℕ) (was : Held) → g r ≡ was → Stayed n r (widened (g r)) → widened (h r) ≡ widened (g r)
    by r H.Nothing e s = absurd (subst (λ y. Stayed n r (widened y)) e s)
    by r (H.Scalar t) e s = ap widened (x.scalar r t e ∙ sym e)
    by r (H.Owned t b) e s = ap widened (x.tree r (subst (λ y. Stayed n r (widened y)) e s) (ap is_tree e))
    by r (H.Lent t None) e s = ap widened (x.lent r t e ∙ sym e)
    by r (H.Lent t (Some q)) e s = ap widened (x.lent_of r t q e (subst (λ y. Stayed n r (widened y)) e s) ∙ sym e)
    by r (H.Credit m) e s = absurd (subst (λ y. Stayed n r (widened y)) e s)
    by r (H.Bare t c) e s = absurd (subst (λ y. Stayed n r (widened y)) e s)

-- what stays holds the same where it was reported
pub stayed_same : (g h : Holding) (n : ℕ → ℕ) (r : ℕ) → Stays g h n → Stayed n r (g r) → h r ≡ g r
stayed_same g h n r x s = by (g r) refl s
  where
    by : (was : Held) → g r ≡ was → Stayed n r was → h r ≡ g r
    by H.Nothing e s = absurd s
    by (H.Scalar t) e s = x.scalar r t e ∙ sym e
    by (H.Owned t b) e s = x.tree r s (ap is_tree e)
    by (H.Lent t None) e s = x.lent r t e ∙ sym e
    by (H.Lent t (Some q)) e s = x.lent_of r t q e s ∙ sym e
    by (H.Credit m) e s = absurd s
    by (H.Bare t c) e s = absurd s

-- ---- one after another

pub keeps_on : (s : Scope) (X : Item → ℕ) (k m l : Known) → Keeps s X k m → Keeps s X m l → Keeps s X k l
keeps_on s X k m l a b = record {
  stays = stays_on (wide_at (held_at k.held)) (wide_at (held_at m.held)) (wide_at (held_at l.held)) (owners k.names (own X)) a.stays
      (stays_fewer (wide_at (held_at m.held)) (wide_at (held_at l.held)) (owners m.names (own X)) (owners k.names (own X)) (λ q. let z = owners_kept k.names m.names (own X) q a.same in omega (arith, z)) b.stays);
  same = λ x more. b.same x more ∙ a.same x more;
  old = λ x u r o e. a.old x u r o (b.old x u r o e);
  stack = λ n. b.stack n ∙ a.stack n;
}

pub keeps_less : (s : Scope) (Y X : Item → ℕ) (k l : Known) → ((i : Item) → X i ≤ Y i) → Keeps s Y k l → Keeps s X k l
keeps_less s Y X k l less a = record {
  stays = stays_fewer (wide_at (held_at k.held)) (wide_at (held_at l.held)) (owners k.names (own Y)) (owners k.names (own X)) (λ q. owners_less k.names (own Y) (own X) q (λ x. less (Own x))) a.stays;
  same = λ x more. a.same x (let z = less (Own x) in omega (arith, z, more));
  old = a.old;
  stack = λ n. take_lower (X (Credit n)) (Y (Credit n)) _ _ (less (Credit n)) (a.stack n);
}

-- where fewer variables are in scope
pub keeps_within : (s z : Scope) (X : Item → ℕ) (k l : Known) → ((x u : ℕ) → of_binder s (Some x) ≡ Some (Some u) → of_binder z (Some x) ≡ Some (Some u)) → Keeps z X k l → Keeps s X k l
keeps_within s z X k l inside a = record {
  stays = a.stays;
  same = a.same;
  old = λ x u r o e. a.old x u r (inside x u o) e;
  stack = a.stack;
}

-- where no name changes
pub keeps_named : (fip : Bool) (s : Scope) (X : Item → ℕ) (k l : Known) → Stays (held_at k.held) (held_at l.held) (owners k.names (own X)) → l.names ≡ k.names → LastGone k.credits l.credits → ((n : ℕ) → Fits fip (sized n l.credits) (X (Credit n))) → Keeps s X k l
keeps_named fip s X k l stays names last sizes = record {
  stays = stays_wide (held_at k.held) (held_at l.held) (owners k.names (own X)) stays;
  same = λ x more. ap (λ ns. register_of ns (Some x)) names;
  old = λ x u r o e. ap (λ ns. register_of ns (Some x)) (sym names) ∙ e;
  stack = λ n. stack_less fip n (X (Credit n)) k.credits l.credits (last n) (sizes n);
}

-- what was settled is delivered
pub settled : (c : PlainCode) (f : PlainFunction) (fip : Bool) (s : Scope) (B : ℕ → Bool) (K : ℕ → Item → ℕ) (X : Item → ℕ) (a : ℕ) (k : Known) (ds ts : List ℕ) (b : ℕ) (l : Known) → Settled c f fip s B K X (λ q. 0) a k ds ts b l → Delivered c f fip s B K X a k ds ts b l
settled c f fip s B K X a k ds ts b l h = record {
  grows = h.grows;
  part = h.part;
  next = h.next;
  width = h.width;
  names = ap length h.names;
  ties = h.ties;
  hold = h.hold;
  empty = h.empty;
  keeps = keeps_named fip s X k l (stays_fewer (held_at k.held) (held_at l.held) (λ q. owners k.names (own X) q + 0) (owners k.names (own X)) (λ q. omega arith) h.stays) h.names h.last h.ties.sizes;
}

-- where names and credits are as before
pub keeps_held : (s : Scope) (X : Item → ℕ) (k l : Known) → ((r : ℕ) → Stayed (owners k.names (own X)) r (widened (held_at k.held r)) → widened (held_at l.held r) ≡ widened (held_at k.held r)) → l.names ≡ k.names → l.credits ≡ k.credits → Keeps s X k l
keeps_held s X k l held names credits = record {
  stays = stays_by (wide_at (held_at k.held)) (wide_at (held_at l.held)) (owners k.names (own X)) held;
  same = λ x more. ap (λ ns. register_of ns (Some x)) names;
  old = λ x u r o e. ap (λ ns. register_of ns (Some x)) (sym names) ∙ e;
  stack = λ n. ap (λ cs. Rattle.std.proofs.Common.take (X (Credit n)) (Rattle.lowering_relation.specs.Credits.of_size n cs)) credits;
}

pub twice : (h : Held) → widened (widened h) ≡ widened h
twice H.Nothing = refl
twice (H.Scalar t) = refl
twice (H.Owned t b) = refl
twice (H.Lent t root) = refl
twice (H.Credit n) = refl
twice (H.Bare t c) = refl

pub keeps_wide : (s : Scope) (X : Item → ℕ) (k : Known) → Keeps s X k (wide k)
keeps_wide s X k = keeps_held s X k (wide k) (λ r m. ap widened (held_wide k.held r) ∙ twice (held_at k.held r)) refl refl

pub keeps_next : (s : Scope) (X : Item → ℕ) (k : Known) (n : ℕ) → Keeps s X k (record k { next = n })
keeps_next s X k n = keeps_held s X k (record k { next = n }) (λ r m. refl) refl refl

-- ---- variables of a let

pub owned_before : (n : ℕ) (X : Item → ℕ) → NoneFrom n X → (x : ℕ) → 1 ≤ X (Own x) → x < n
owned_before n X none x more = elim (less_or_not x n) as (λ v. x < n) [
  | inl low ↦ low
  | inr high ↦ absurd (let z = none x high in let y : ⊥ = omega (arith, z, more) in y)
]

all_named_old : (names : List (Option ℕ)) (bs : List Binder) (rs : List ℕ) (n x : ℕ) → InOrder n bs → x < n → register_of (all_named names bs rs) (Some x) ≡ register_of names (Some x)
all_named_old names [] rs n x order low = refl
all_named_old names (b ∷ bs) [] n x order low = refl
all_named_old names (b ∷ bs) (r ∷ rs) n x order low =
    all_named_old (Rattle.lowering_relation.specs.Known.named names b.number r) bs rs (suc n) x order.1 (omega (arith, low))
    ∙ register_old names b.number r x (λ e. absurd (let z = order.0 in let y : ⊥ = omega (arith, e, z, low) in y))

pub keeps_let : (s : Scope) (X : Item → ℕ) (k : Known) (bs : List Binder) (rs : List ℕ) (n : ℕ) → InOrder n bs → NoneFrom n X → ((x u : ℕ) → of_binder s (Some x) ≡ Some (Some u) → x < n) → Keeps s X k (with_names k bs rs)
keeps_let s X k bs rs n order none before = record {
  stays = stays_same (wide_at (held_at k.held)) (owners k.names (own X));
  same = λ x more. all_named_old k.names bs rs n x order (owned_before n X none x more);
  old = λ x u r o e. sym (all_named_old k.names bs rs n x order (before x u o)) ∙ e;
  stack = λ m. refl;
}

-- ---- what is known where this stays

-- no constructor that was built is known
abbrev pub Plain : Known → Type 0
Plain l = (r : ℕ) → widened (held_at l.held r) ≡ held_at l.held r

pub ties_kept : (fip : Bool) (w : Table) (s : Scope) (B : ℕ → Bool) (K : ℕ → Item → ℕ) (T X : Item → ℕ) (a d : ℕ → ℕ) (k l : Known) → Ties fip w s B K T a k → ((x : ℕ) → X (Own x) ≤ T (Own x)) → Kept K X → Keeps s X k l → Plain l → Balanced fip (held_at l.held) (λ q. owners l.names (own X) q + d q) → Rooted (held_at l.held) → BareRight w (held_at l.held) → ((n : ℕ) → Fits fip (sized n l.credits) (X (Credit n))) → ((n r : ℕ) → counted n r l.credits ≡ one_if (is_credit_of n (held_at l.held r))) → ((r : ℕ) → l.next ≤ r → held_at l.held r ≡ H.Nothing) → ((x r : ℕ) → register_of l.names (Some x) ≡ Some r → suc r ≤ l.next) → Ties fip w s B K X d l
ties_kept fip w s B K T X a d k l t less kept keeps plain balanced rooted bares sizes credits fresh named = record {
  variables = variable;
  trees = balanced;
  lent = lying;
  rooted = rooted;
  bares = bares;
  sizes = sizes;
  credits = credits;
  fresh = fresh;
  named = named;
}
  where
    n : ℕ → ℕ
    n = owners k.names (own X)

    within : (x q : ℕ) → owners k.names (own (K x)) q ≤ owners k.names (own X) q
    within x q = owners_less k.names (own X) (own (K x)) q (kept x)

    lies_same : (x : ℕ) → owners k.names (own (K x)) ≡ owners l.names (own (K x))
    lies_same x = λ i q. sym (owners_kept k.names l.names (own (K x)) q (λ y more. keeps.same y (let z = kept x y in omega (arith, z, more)))) i

    read_on : (x r u : ℕ) → register_of k.names (Some x) ≡ Some r → of_binder s (Some x) ≡ Some (Some u) → is_scalar_type w u ≡ false → B x ≡ true → held_at l.held r ≡ widened (held_at k.held r)
    read_on x r u m o f b =
        sym (plain r)
        ∙ read_same u (owners k.names (own X)) (owners k.names (own (K x))) (wide_at (held_at k.held)) (wide_at (held_at l.held)) r keeps.stays (within x)
        (wide_read u (held_at k.held r) ∙ (t.variables x r u m o).read f b) (wide_lies (owners k.names (own (K x))) r (held_at k.held r) (t.lent x r u m o b))

    scalar_on : (x r u : ℕ) → register_of k.names (Some x) ≡ Some r → of_binder s (Some x) ≡ Some (Some u) → is_scalar_type w u ≡ true → held_at l.held r ≡ H.Scalar u
    scalar_on x r u m o f = sym (plain r) ∙ keeps.stays.scalar r u (ap widened ((t.variables x r u m o).scalar f))

    variable : (x r u : ℕ) → register_of l.names (Some x) ≡ Some r → of_binder s (Some x) ≡ Some (Some u) → HoldsVariable w u (held_at l.held r) (X (Own x)) (B x)
    variable x r u e o =
        let m = keeps.old x u r o e in
        let v = t.variables x r u m o in
        record {
          scalar = λ f. scalar_on x r u m o f;
          owned = λ f h. (
              let tree = v.owned f (let z = less x in omega (arith, z, h)) in
              let least = owners_least k.names (own X) x r m in
              let same : held_at l.held r ≡ widened (held_at k.held r) = sym (plain r) ∙ keeps.stays.tree r (omega (arith, least, h)) (wide_tree (held_at k.held r) ∙ owned_tree u (held_at k.held r) tree) in
              ap (is_owned_of u) same ∙ (wide_owned u (held_at k.held r) ∙ tree));
          read = λ f b. ap (is_read_of u) (read_on x r u m o f b) ∙ (wide_read u (held_at k.held r) ∙ v.read f b);
        }

    lying : (x r u : ℕ) → register_of l.names (Some x) ≡ Some r → of_binder s (Some x) ≡ Some (Some u) → B x ≡ true → LiesIn (owners l.names (own (K x))) r (held_at l.held r)
    lying x r u e o b =
        let m = keeps.old x u r o e in
        elim (or_not (is_scalar_type w u)) as (λ v. LiesIn (owners l.names (own (K x))) r (held_at l.held r)) [
          | inl f ↦ lies_scalar (owners l.names (own (K x))) r u (held_at l.held r) (scalar_on x r u m o f)
          | inr f ↦ subst (LiesIn (owners l.names (own (K x))) r) (sym (read_on x r u m o f b)) (subst (λ g. LiesIn g r (widened (held_at k.held r))) (lies_same x) (wide_lies (owners k.names (own (K x))) r (held_at k.held r) (t.lent x r u m o b)))
        ]
