-- At the entry of a clause the variables of its pattern come into scope: what is known goes with them, position by
-- position.
use Rattle.std.proofs.Common.{◌≡◌, ◌⊎◌, inl, inr, ℕ, suc, ◌+◌, ◌<◌, ◌≤◌, Bool, true, false, List, [], ◌∷◌, ◌++◌, length, map, slice_set, get_or, Option, Some, None, refl, sym, ap, ap₂, ◌∙◌, subst, subst₂, true≢false, arith, append_assoc, if◌then◌else◌, ◌==◌}
use Rattle.separation.specs.fip_language.Table.{Table}
use Rattle.separation.specs.fip_language.Every.{Among}
use Rattle.lowering_relation.specs.fip_trees.declared.program.Binder.{Binder}
use Rattle.lowering_relation.specs.fip_trees.Tree.{Pattern, BinderPattern, LiteralPattern, ConstructorPattern, Patterns, NoPatterns, MorePatterns, count_patterns}
use Rattle.derivation_making.specs.fip_rules.Shapes.{binders, binders_all}
use Rattle.derivation_making.specs.type_check.Binders.{entry}
use Rattle.derivation_making.specs.type_check.Scope.{Scope, of_binder}
use Rattle.derivation_making.specs.ownership_calculus.Terms.{Item, Own, Credit, given, charge}
use Rattle.derivation_making.specs.ownership_calculus.Rules.{Fits}
use Rattle.derivation_making.specs.ownership_agreement.Bodies.{node, nodes, nodes_all}
use Rattle.separation.specs.cell_code.Plain.{PlainFunction, PlainCode}
use Rattle.separation.specs.code_rules.Types.{fields, is_scalar_type}
use Rattle.separation.proofs.separation_kinds.Basics.{chosen, refused, or_not, itself}
use Rattle.lowering_relation.specs.Spots.{Spot, At, Spots, NoSpots, MoreSpots, register, below, all_in, Differ, AllDiffer}
use Rattle.lowering_relation.specs.Opening.{is_named, Roomy, AllRoomy}
use Rattle.lowering_relation.specs.Entering.{unnaming, variable_held, with_variable, with_cell, entering, entering_all, root_of, entering_root}
use Rattle.lowering_relation.proofs.MatchLists.{in_tail, in_part}
use Rattle.lowering_relation.specs.declared.held.Held.{Held}
use Rattle.lowering_relation.specs.declared.held.Held.TheVariants as H
use Rattle.lowering_relation.specs.Known.{Known, naming, holding}
use Rattle.lowering_relation.specs.Values.{Setting, is_scalar}
use Rattle.lowering_relation.specs.LoweredBodies as LB
use Rattle.lowering_relation.specs.LoweredFunctions.{unless_in, with_credit}
use Rattle.lowering_relation.specs.Describing.{held_at, is_tree}
use Rattle.lowering_relation.specs.Describing as D
use Rattle.lowering_soundness.specs.Covering as C
use Rattle.lowering_soundness.specs.Giving.{is_credit_of}
use Rattle.lowering_soundness.specs.Ties.{one_if, owners, own, HoldsValue, owe, is_read_of, Rooted, LiesIn, BareRight, Ties}
use Rattle.lowering_soundness.specs.Placed.{NoneFrom, InOrder}
use Rattle.lowering_soundness.proofs.Standing.{Slotted, AllSlotted}
use Rattle.lowering_soundness.proofs.Balance.{fits_zero, using_self, using_nothing}
use Rattle.lowering_soundness.proofs.Helds.{held_or, held_used, held_set_fn, length_used}
use Rattle.lowering_soundness.proofs.Writing.{is_idle, setting_other, setting_here, set_ties, use_ties}
use Rattle.lowering_soundness.proofs.Arguments.{int_scalar, ties_owe, ties_worth}
use Rattle.lowering_soundness.proofs.Giving.{owned_tree}
use Rattle.lowering_soundness.proofs.Values.{credit_after}
use Rattle.lowering_soundness.proofs.Receiving.{given_same, received_value}
use Rattle.lowering_soundness.proofs.Starting.{setting_bares}
use Rattle.lowering_soundness.proofs.Owners.{owners_less}
use Rattle.lowering_soundness.proofs.Naming.{sole, soles, sole_other, owners_renamed, name_one, Unborrowed, length_named, scope_one}
use Rattle.lowering_soundness.proofs.EntryHeld.{entering_width, entering_at, entry_other, cell_width, cell_at, cell_other}
use Rattle.lowering_soundness.proofs.Cleared.{Kept, unless_owners, unless_ties, idle_ties, credit_ties, name_lent, unnamed_owners, name_none, length_unnamed}
use Rattle.derivation_making.proofs.type_check.Halves.{and_none as append_none}

-- ---- binders

abbrev pub slots : List Binder → List ℕ
slots [] = []
slots (b ∷ bs) = b.ty ∷ slots bs

-- their variables
abbrev pub scope_of : List Binder → Scope
scope_of [] = []
scope_of (b ∷ bs) = entry (Some b.ty) b ∷ scope_of bs

pub scope_both : (bs ds : List Binder) → scope_of (bs ++ ds) ≡ scope_of bs ++ scope_of ds
scope_both [] ds = refl
scope_both (b ∷ bs) ds = ap (λ s. entry (Some b.ty) b ∷ s) (scope_both bs ds)

length_both : (bs ds : List Binder) → length (bs ++ ds) ≡ length bs + length ds
length_both [] ds = omega arith
length_both (b ∷ bs) ds = let z = length_both bs ds in omega (arith, z)

pub order_both : (n : ℕ) (bs ds : List Binder) → InOrder n (bs ++ ds) → InOrder n bs × InOrder (n + length bs) ds
order_both n [] ds h = (tt, subst (λ m. InOrder m ds) (let z : n ≡ n + 0 = omega arith in z) h)
order_both n (b ∷ bs) ds h =
    let rest = order_both (suc n) bs ds h.1 in
    let z : suc n + length bs ≡ n + suc (length bs) = omega arith in
    ((h.0, rest.0), subst (λ m. InOrder m ds) z rest.1)

soles_both : (w : Table) (n : ℕ) (bs ds : List Binder) (i : Item) → soles w n (slots (bs ++ ds)) i ≡ soles w n (slots bs) i + soles w (n + length bs) (slots ds) i
soles_both w n [] ds i = let z : n ≡ n + 0 = omega arith in let y = ap (λ m. soles w m (slots ds) i) z in omega (arith, y)
soles_both w n (b ∷ bs) ds i =
    let rest = soles_both w (suc n) bs ds i in
    let z : suc n + length bs ≡ n + suc (length bs) = omega arith in
    let y = ap (λ m. soles w m (slots ds) i) z in
    omega (arith, rest, y)

soles_past : (w : Table) (n : ℕ) (bs : List Binder) (y : ℕ) → n + length bs ≤ y → soles w n (slots bs) (Own y) ≡ 0
soles_past w n [] y low = refl
soles_past w n (b ∷ bs) y low =
    let a = sole_other w b.ty n y (λ e. absurd (let z : ⊥ = omega (arith, e, low) in z)) in
    let rest = soles_past w (suc n) bs y (omega (arith, low)) in
    omega (arith, a, rest)

given_both : (n : ℕ) (ks ls : List ℕ) → given n (ks ++ ls) ≡ given n ks + given n ls
given_both n [] ls = omega arith
given_both n (k ∷ ks) ls = let z = given_both n ks ls in omega (arith, z)

charge_both : (ks ls : List ℕ) (i : Item) → charge (ks ++ ls) i ≡ charge ks i + charge ls i
charge_both ks ls (Own y) = refl
charge_both ks ls (Credit n) = given_both n ks ls

charge_none : (i : Item) → charge [] i ≡ 0
charge_none (Own y) = refl
charge_none (Credit n) = refl

-- what a match that takes its scrutinee gains
abbrev pub gained : Bool → Table → ℕ → List Binder → List ℕ → Item → ℕ
gained true w n bs ks i = soles w n (slots bs) i + charge ks i
gained false w n bs ks i = 0

gained_both : (takes : Bool) (w : Table) (n : ℕ) (bs ds : List Binder) (ks ls : List ℕ) (i : Item) → gained takes w n (bs ++ ds) (ks ++ ls) i ≡ gained takes w n bs ks i + gained takes w (n + length bs) ds ls i
gained_both false w n bs ds ks ls i = refl
gained_both true w n bs ds ks ls i = let a = soles_both w n bs ds i in let b = charge_both ks ls i in omega (arith, a, b)

gained_none : (takes : Bool) (w : Table) (n : ℕ) (i : Item) → gained takes w n [] [] i ≡ 0
gained_none true w n i = let z = charge_none i in omega (arith, z)
gained_none false w n i = refl

gained_past : (takes : Bool) (w : Table) (n : ℕ) (bs : List Binder) (ks : List ℕ) (y : ℕ) → n + length bs ≤ y → gained takes w n bs ks (Own y) ≡ 0
gained_past true w n bs ks y low = let z = soles_past w n bs y low in omega (arith, z)
gained_past false w n bs ks y low = refl

abbrev pub Before : Scope → ℕ → Type 0
Before s n = (x u : ℕ) → of_binder s (Some x) ≡ Some (Some u) → x < n

length_unless : (r : ℕ) (names : List (Option ℕ)) → length (map (unless_in r) names) ≡ length names
length_unless r [] = refl
length_unless r (o ∷ os) = ap suc (length_unless r os)

-- registers of positions, which hold nothing yet
abbrev pub Idle : List ℕ → Known → Type 0
Idle zs k = (z : ℕ) → Among z zs → (held_at k.held z ≡ H.Nothing) × (z < length k.held) × (z < k.next)

-- a scrutinee that is only read lies in a tree that is owned by some of L, or outside
abbrev pub RootIn : Option ℕ → (Item → ℕ) → Known → Type 0
RootIn None L k = Unit {0}
RootIn (Some q) L k = (is_tree (held_at k.held q) ≡ true) × (1 ≤ owners k.names (own L) q)

root_on : (root : Option ℕ) (L : Item → ℕ) (k l : Known) → ((q : ℕ) → is_tree (held_at k.held q) ≡ true → is_tree (held_at l.held q) ≡ true) → ((q : ℕ) → owners l.names (own L) q ≡ owners k.names (own L) q) → RootIn root L k → RootIn root L l
root_on None L k l trees names h = tt
root_on (Some q) L k l trees names h = (trees q h.0, (let a = names q in let b = h.1 in omega (arith, a, b)))

root_lies : (root : Option ℕ) (L : Item → ℕ) (k : Known) (r t : ℕ) → RootIn root L k → LiesIn (owners k.names (own L)) r (H.Lent t root)
root_lies None L k r t h = tt
root_lies (Some q) L k r t h = h.1

-- variables that are only read lie where L does
abbrev pub LentFrom : Table → (ℕ → Item → ℕ) → (Item → ℕ) → ℕ → List ℕ → Type 0
LentFrom w K L n [] = Unit {0}
LentFrom w K L n (t ∷ ts) = (is_scalar_type w t ≡ false → K n ≡ L) × LentFrom w K L (suc n) ts

lent_parts : (w : Table) (K : ℕ → Item → ℕ) (L : Item → ℕ) (n : ℕ) (bs ds : List Binder) → LentFrom w K L n (slots (bs ++ ds)) → LentFrom w K L n (slots bs) × LentFrom w K L (n + length bs) (slots ds)
lent_parts w K L n [] ds h = (tt, subst (λ m. LentFrom w K L m (slots ds)) (let z : n ≡ n + 0 = omega arith in z) h)
lent_parts w K L n (b ∷ bs) ds h =
    let rest = lent_parts w K L (suc n) bs ds h.1 in
    let z : suc n + length bs ≡ n + suc (length bs) = omega arith in
    ((h.0, rest.0), subst (λ m. LentFrom w K L m (slots ds)) z rest.1)

module _ (c : PlainCode) (f : PlainFunction) (st : Setting) (fip : Bool) (B : ℕ → Bool) (K : ℕ → Item → ℕ) (takes : Bool) (root : Option ℕ) (L : Item → ℕ) where
  -- what is read lies in trees that are owned
  pub record Reads (T : Item → ℕ) (k : Known) : Type 0 where
    pub kept : Kept K T
    pub least : (y : ℕ) → L (Own y) ≤ T (Own y)
    pub inside : takes ≡ false → RootIn root L k

  reads_on : (T X : Item → ℕ) (k l : Known) → Reads T k → ((y : ℕ) → T (Own y) ≤ X (Own y)) → (takes ≡ false → (q : ℕ) → is_tree (held_at k.held q) ≡ true → is_tree (held_at l.held q) ≡ true) → ((q : ℕ) → owners l.names (own L) q ≡ owners k.names (own L) q) → Reads X l
  reads_on T X k l h more trees names = record {
    kept = λ z y. (let a = h.kept z y in let b = more y in omega (arith, a, b));
    least = λ y. (let a = h.least y in let b = more y in omega (arith, a, b));
    inside = λ e. root_on root L k l (trees e) names (h.inside e);
  }

  none_least : (T : Item → ℕ) (k : Known) (n : ℕ) → Reads T k → NoneFrom n T → L (Own n) ≡ 0
  none_least T k n h none = let a = h.least n in let b = none n (omega arith) in omega (arith, a, b)

  -- a register that held nothing gets something
  tree_on : (k : Known) (r : ℕ) (h : Held) → held_at k.held r ≡ H.Nothing → r < length k.held → (q : ℕ) → is_tree (held_at k.held q) ≡ true → is_tree (held_at (slice_set k.held r h) q) ≡ true
  tree_on k r h empty within q tree =
      ap is_tree (ap (λ y. y q) (held_set_fn k.held r h within) ∙ setting_other (held_at k.held) r h q (λ e. true≢false (sym tree ∙ ap is_tree (ap (held_at k.held) e ∙ empty)))) ∙ tree

  before_all : (s : Scope) (n : ℕ) (bs : List Binder) → InOrder n bs → Before s n → Before (s ++ scope_of bs) (n + length bs)
  before_all s n [] order before = λ x u h. let z = before x u (ap (λ s. of_binder s (Some x)) (sym (append_none s)) ∙ h) in omega (arith, z)
  before_all s n (b ∷ bs) order before = λ x u h.
      let z = before_all (s ++ entry (Some b.ty) b ∷ []) (suc n) bs order.1 (scope_one fip c.types B K s b n b.ty order.0 before) x u (ap (λ s. of_binder s (Some x)) (append_assoc s (entry (Some b.ty) b ∷ []) (scope_of bs)) ∙ h) in
      omega (arith, z)

  -- what is taken isn't borrowed, and what is read lies in the scrutinee's tree
  abbrev pub Free : ℕ → List Binder → Type 0
  Free n bs = (takes ≡ true → Unborrowed fip c.types B K n (slots bs)) × (takes ≡ false → LentFrom c.types K L n (slots bs))

  unborrowed_both : (n : ℕ) (bs ds : List Binder) → Unborrowed fip c.types B K n (slots (bs ++ ds)) → Unborrowed fip c.types B K n (slots bs) × Unborrowed fip c.types B K (n + length bs) (slots ds)
  unborrowed_both n [] ds h = (tt, subst (λ m. Unborrowed fip c.types B K m (slots ds)) (let z : n ≡ n + 0 = omega arith in z) h)
  unborrowed_both n (b ∷ bs) ds h =
      let rest = unborrowed_both (suc n) bs ds h.1 in
      let z : suc n + length bs ≡ n + suc (length bs) = omega arith in
      ((h.0, rest.0), subst (λ m. Unborrowed fip c.types B K m (slots ds)) z rest.1)

  free_both : (n : ℕ) (bs ds : List Binder) → Free n (bs ++ ds) → Free n bs × Free (n + length bs) ds
  free_both n bs ds h = (
    ((λ e. (unborrowed_both n bs ds (h.0 e)).0), λ e. (lent_parts c.types K L n bs ds (h.1 e)).0),
    ((λ e. (unborrowed_both n bs ds (h.0 e)).1), λ e. (lent_parts c.types K L n bs ds (h.1 e)).1),
  )

  -- some binders came into scope
  pub record Opened (s : Scope) (T : Item → ℕ) (n : ℕ) (bs : List Binder) (ks : List ℕ) (k l : Known) : Type 0 where
    pub ties : Ties fip c.types (s ++ scope_of bs) B K (λ i. T i + gained takes c.types n bs ks i) (λ q. 0) l
    pub names : length l.names ≡ length k.names
    pub next : l.next ≡ k.next
    pub reads : Reads (λ i. T i + gained takes c.types n bs ks i) l

  opened_none : (s : Scope) (T : Item → ℕ) (n : ℕ) (k : Known) → Reads T k → Ties fip c.types s B K T (λ q. 0) k → Opened s T n [] [] k k
  opened_none s T n k reads ties = record {
    ties = subst (λ s. Ties fip c.types s B K (λ i. T i + gained takes c.types n [] [] i) (λ q. 0) k) (sym (append_none s))
        (ties_worth fip c.types s B K T (λ i. T i + gained takes c.types n [] [] i) (λ q. 0) k (λ i. let z = gained_none takes c.types n i in omega (arith, z)) ties);
    names = refl;
    next = refl;
    reads = reads_on T (λ i. T i + gained takes c.types n [] [] i) k k reads (λ y. omega arith) (λ e q h. h) (λ q. refl);
  }

  opened_on : (s : Scope) (T : Item → ℕ) (n : ℕ) (bs ds : List Binder) (ks ls : List ℕ) (k l m : Known) → Opened s T n bs ks k l → Opened (s ++ scope_of bs) (λ i. T i + gained takes c.types n bs ks i) (n + length bs) ds ls l m → Opened s T n (bs ++ ds) (ks ++ ls) k m
  opened_on s T n bs ds ks ls k l m x y = record {
    ties = subst (λ r. Ties fip c.types r B K (λ i. T i + gained takes c.types n (bs ++ ds) (ks ++ ls) i) (λ q. 0) m)
        (append_assoc s (scope_of bs) (scope_of ds) ∙ ap (λ r. s ++ r) (sym (scope_both bs ds)))
        (ties_worth fip c.types ((s ++ scope_of bs) ++ scope_of ds) B K (λ i. (T i + gained takes c.types n bs ks i) + gained takes c.types (n + length bs) ds ls i) (λ i. T i + gained takes c.types n (bs ++ ds) (ks ++ ls) i) (λ q. 0) m
        (λ i. let z = gained_both takes c.types n bs ds ks ls i in omega (arith, z)) y.ties);
    names = y.names ∙ x.names;
    next = y.next ∙ x.next;
    reads = reads_on (λ i. (T i + gained takes c.types n bs ks i) + gained takes c.types (n + length bs) ds ls i) (λ i. T i + gained takes c.types n (bs ++ ds) (ks ++ ls) i) m m y.reads (λ z. let a = gained_both takes c.types n bs ds ks ls (Own z) in omega (arith, a)) (λ e q h. h) (λ q. refl);
  }

  -- ---- one register

  -- an empty register gets a value
  value_ties : (s : Scope) (T : Item → ℕ) (k : Known) (r t : ℕ) (h : Held) → Kept K T → Ties fip c.types s B K T (λ q. 0) k → held_at k.held r ≡ H.Nothing → r < length k.held → r < k.next → HoldsValue c.types t h → Ties fip c.types s B K T (λ q. owe c.types t r q + 0) (holding k r h)
  value_ties s T k r t h kept ties empty within used v =
      set_ties fip c.types s B K T T (λ q. 0) k (holding k r h) r t h ties (λ x. refl) kept (ap is_idle empty) v held refl (omega arith) ties.sizes
      (λ n q. ties.credits n q ∙ ap one_if (sym (ap (λ y. is_credit_of n (y q)) held ∙ credit_after c f fip s B K n r q t (held_at k.held) h (ap (is_credit_of n) empty) v)))
      (λ q past. ap (λ y. y q) held ∙ (setting_other (held_at k.held) r h q (λ z. absurd (let y : ⊥ = omega (arith, z, past, used) in y)) ∙ ties.fresh q past))
    where
      held : held_at (slice_set k.held r h) ≡ D.setting (held_at k.held) r h
      held = held_set_fn k.held r h within

  -- a new variable whose register holds a value
  value_named : (s : Scope) (T : Item → ℕ) (k : Known) (b : Binder) (n r : ℕ) (h : Held) → Kept K T → Ties fip c.types s B K T (λ q. 0) k → held_at k.held r ≡ H.Nothing → r < length k.held → r < k.next → HoldsValue c.types b.ty h → Before s n → NoneFrom n T → (is_scalar_type c.types b.ty ≡ false → B n ≡ false) → n < length k.names → b.number ≡ n → Ties fip c.types (s ++ entry (Some b.ty) b ∷ []) B K (λ i. T i + sole c.types b.ty n i) (λ q. 0) (holding (naming k b.number r) r h)
  value_named s T k b n r h kept ties empty within used v before none free room number =
      name_one fip c.types B K s T (λ q. 0) (holding k r h) b n r b.ty (value_ties s T k r b.ty h kept ties empty within used v)
      (subst (HoldsValue c.types b.ty) (sym (ap (λ y. y r) (held_set_fn k.held r h within) ∙ setting_here (held_at k.held) r h)) v) before none kept free room number

  given_value : (t : ℕ) → is_scalar st t ≡ is_scalar_type c.types t → HoldsValue c.types t (LB.given st t)
  given_value t same = subst (HoldsValue c.types t) (sym (given_same c.types st t same)) (received_value c.types t)

  sole_scalar : (t n : ℕ) (i : Item) → is_scalar_type c.types t ≡ true → sole c.types t n i ≡ 0
  sole_scalar t n i e = chosen (is_scalar_type c.types t) 0 (Rattle.derivation_making.specs.ownership_calculus.Terms.only n i) e

  lent_named : (s : Scope) (T : Item → ℕ) (k : Known) (b : Binder) (n r : ℕ) → Reads T k → takes ≡ false → K n ≡ L → Ties fip c.types s B K T (λ q. 0) k → held_at k.held r ≡ H.Nothing → r < length k.held → r < k.next → is_scalar_type c.types b.ty ≡ false → NoneFrom n T → n < length k.names → b.number ≡ n → Ties fip c.types (s ++ entry (Some b.ty) b ∷ []) B K T (λ q. 0) (holding (naming k b.number r) r (H.Lent b.ty root))
  lent_named s T k b n r reads taken lies ties empty within used tree none room number =
      let h = H.Lent b.ty root in
      let l = holding k r h in
      let here : held_at l.held r ≡ h = ap (λ y. y r) (held_set_fn k.held r h within) ∙ setting_here (held_at k.held) r h in
      let t1 = idle_ties fip c.types B K s T (λ q. 0) k r h reads.kept ties empty within used refl roots (λ n. refl) (setting_bares c.types (held_at k.held) r h (λ u q e. absurd (cc)) ties.bares) in
      name_lent fip c.types B K s T (λ q. 0) l b n r b.ty reads.kept t1 (ap (is_read_of b.ty) here ∙ itself b.ty)
      (subst₂ (λ m h. LiesIn (owners k.names (own m)) r h) (sym lies) (sym here) (root_lies root L k r b.ty (reads.inside taken))) tree used (none n (omega arith)) room number
    where
      by_root : (o : Option ℕ) (u q : ℕ) → H.Lent b.ty o ≡ H.Lent u (Some q) → o ≡ Some q
      by_root o u q e = cc

      roots : (u q : ℕ) → H.Lent b.ty root ≡ H.Lent u (Some q) → is_tree (held_at k.held q) ≡ true
      roots u q e = (subst (λ o. RootIn o L k) (by_root root u q e) (reads.inside taken)).0

  -- ---- one variable of a pattern

  one_gained : (t n : ℕ) (T : Item → ℕ) (b : Binder) (i : Item) → b.ty ≡ t → T i + sole c.types t n i ≡ T i + (soles c.types n (slots (b ∷ [])) i + charge [] i)
  one_gained t n T b i e = let z = charge_none i in let y = ap (λ t. sole c.types t n i) e in omega (arith, z, y)

  variable_opens : (s : Scope) (T : Item → ℕ) (k : Known) (b : Binder) (n r : ℕ) → Reads T k → Ties fip c.types s B K T (λ q. 0) k → held_at k.held r ≡ H.Nothing → r < length k.held → r < k.next → is_scalar st b.ty ≡ is_scalar_type c.types b.ty → Before s n → NoneFrom n T → Free n (b ∷ []) → n < length k.names → b.number ≡ n → Opened s T n (b ∷ []) [] k (with_variable st takes root b r k)
  variable_opens s T k b n r reads ties empty within used same before none free room number = by takes refl
    where
      named_length : length (Rattle.lowering_relation.specs.Known.named k.names b.number r) ≡ length k.names
      named_length = length_named k.names b.number r

      read_still : (X : Item → ℕ) (h : Held) → ((y : ℕ) → T (Own y) ≤ X (Own y)) → Reads X (holding (naming k b.number r) r h)
      read_still X h more =
          reads_on T X k (holding (naming k b.number r) r h) reads more (λ e. tree_on k r h empty within)
          (λ q. owners_renamed k.names (own L) b.number r q (ap (λ n. L (Own n)) number ∙ none_least T k n reads none))

      scalar_ties : is_scalar_type c.types b.ty ≡ true → Ties fip c.types (s ++ entry (Some b.ty) b ∷ []) B K T (λ q. 0) (holding (naming k b.number r) r (LB.given st b.ty))
      scalar_ties e =
          ties_worth fip c.types (s ++ entry (Some b.ty) b ∷ []) B K (λ i. T i + sole c.types b.ty n i) T (λ q. 0) (holding (naming k b.number r) r (LB.given st b.ty)) (λ i. let z = sole_scalar b.ty n i e in omega (arith, z))
          (value_named s T k b n r (LB.given st b.ty) reads.kept ties empty within used (given_value b.ty same) before none (λ y. absurd (true≢false (sym e ∙ y))) room number)

      unnamed : (x : Bool) → is_named b ≡ x → takes ≡ false → Opened s T n (b ∷ []) [] k (if x then holding (naming k b.number r) r (variable_held st false root b.ty) else unnaming k b.number)
      unnamed true e t = record {
        ties = subst (λ y. Ties fip c.types (s ++ entry (Some b.ty) b ∷ []) B K (λ i. T i + gained y c.types n (b ∷ []) [] i) (λ q. 0) (holding (naming k b.number r) r (variable_held st false root b.ty))) (sym t)
            (ties_worth fip c.types (s ++ entry (Some b.ty) b ∷ []) B K T (λ i. T i + 0) (λ q. 0) (holding (naming k b.number r) r (variable_held st false root b.ty)) (λ i. omega arith) (scalar_or (is_scalar st b.ty) refl));
        names = named_length;
        next = refl;
        reads = read_still (λ i. T i + gained takes c.types n (b ∷ []) [] i) (variable_held st false root b.ty) (λ y. omega arith);
      }
        where
          scalar_or : (y : Bool) → is_scalar st b.ty ≡ y → Ties fip c.types (s ++ entry (Some b.ty) b ∷ []) B K T (λ q. 0) (holding (naming k b.number r) r (if y then LB.given st b.ty else H.Lent b.ty root))
          scalar_or true e = scalar_ties (sym same ∙ e)
          scalar_or false e = lent_named s T k b n r reads t ((free.1 t).0 (sym same ∙ e)) ties empty within used (sym same ∙ e) none room number
      unnamed false e t = record {
        ties = subst (λ y. Ties fip c.types (s ++ entry (Some b.ty) b ∷ []) B K (λ i. T i + gained y c.types n (b ∷ []) [] i) (λ q. 0) (unnaming k b.number)) (sym t)
            (ties_worth fip c.types (s ++ entry (Some b.ty) b ∷ []) B K T (λ i. T i + 0) (λ q. 0) (unnaming k b.number) (λ i. omega arith) (name_none fip c.types B K s T (λ q. 0) k b n b.ty reads.kept ties (none n (omega arith)) number));
        names = length_unnamed k.names b.number;
        next = refl;
        reads = reads_on T (λ i. T i + gained takes c.types n (b ∷ []) [] i) k (unnaming k b.number) reads (λ y. omega arith) (λ e q h. h)
            (λ q. unnamed_owners k.names (own L) b.number q (ap (λ n. L (Own n)) number ∙ none_least T k n reads none));
      }

      by : (y : Bool) → takes ≡ y → Opened s T n (b ∷ []) [] k (with_variable st y root b r k)
      by true t = record {
        ties = subst (λ y. Ties fip c.types (s ++ entry (Some b.ty) b ∷ []) B K (λ i. T i + gained y c.types n (b ∷ []) [] i) (λ q. 0) (holding (naming k b.number r) r (LB.given st b.ty))) (sym t)
            (ties_worth fip c.types (s ++ entry (Some b.ty) b ∷ []) B K (λ i. T i + sole c.types b.ty n i) (λ i. T i + gained true c.types n (b ∷ []) [] i) (λ q. 0) (holding (naming k b.number r) r (LB.given st b.ty)) (λ i. one_gained b.ty n T b i refl)
            (value_named s T k b n r (LB.given st b.ty) reads.kept ties empty within used (given_value b.ty same) before none (free.0 t).0 room number));
        names = named_length;
        next = refl;
        reads = read_still (λ i. T i + gained takes c.types n (b ∷ []) [] i) (LB.given st b.ty) (λ y. omega arith);
      }
      by false t = unnamed (is_named b) refl t

  -- ---- a cell

  empty_owners : (s : Scope) (T : Item → ℕ) (k : Known) (r : ℕ) → Ties fip c.types s B K T (λ q. 0) k → held_at k.held r ≡ H.Nothing → owners k.names (own T) r ≡ 0
  empty_owners s T k r ties empty =
      let z = fits_zero fip (owners k.names (own T) r + 0) (subst (λ h. Fits fip (one_if (is_tree h)) (owners k.names (own T) r + 0)) empty (ties.trees r)) in
      omega (arith, z)

  -- a constructor's own node
  abbrev own_node : Patterns → List ℕ
  own_node NoPatterns = []
  own_node (MorePatterns p ps) = suc (count_patterns ps) ∷ []

  no_fields : (ts : List ℕ) → AllSlotted st c.types ts NoPatterns → length ts ≡ 0
  no_fields [] h = refl
  no_fields (t ∷ ts) h = absurd h

  cell_opens : (s : Scope) (T : Item → ℕ) (k : Known) (n t d : ℕ) (ps : Patterns) (r : ℕ) → Reads T k → Ties fip c.types s B K T (λ q. 0) k → held_at k.held r ≡ H.Nothing → r < length k.held → r < k.next → is_scalar st t ≡ is_scalar_type c.types t → AllSlotted st c.types (fields c.types t d) ps → Opened s T n [] (own_node ps) k (with_cell st takes t d ps r k)
  cell_opens s T k n t d ps r reads ties empty within used same slotted = by takes refl ps slotted
    where
      read_only : (y : Bool) → takes ≡ false → (i : Item) (ps : Patterns) → gained takes c.types n [] (own_node ps) i ≡ 0
      read_only y e i ps = ap (λ x. gained x c.types n [] (own_node ps) i) e

      bare : (y : Bool) → is_scalar st t ≡ y → AllSlotted st c.types (fields c.types t d) NoPatterns → Opened s T n [] [] k (if y then k else holding k r (H.Bare t d))
      bare true e h = opened_none s T n k reads ties
      bare false e h =
          let l = holding k r (H.Bare t d) in
          let x = opened_none s T n l (reads_on T T k l reads (λ y. omega arith) (λ e. tree_on k r (H.Bare t d) empty within) (λ q. refl)) (idle_ties fip c.types B K s T (λ q. 0) k r (H.Bare t d) reads.kept ties empty within used tree_none (λ u q e. absurd (cc)) (λ m. refl) (bares e h)) in
          record { ties = x.ties; names = refl; next = refl; reads = x.reads }
        where
          tree_none : is_tree (H.Bare t d) ≡ false
          tree_none = refl

          same_bare : (u x : ℕ) → H.Bare t d ≡ H.Bare u x → (t ≡ u) × (d ≡ x)
          same_bare u x e = (ap type_of e, ap number_of e)
            where
              type_of : Held → ℕ
              type_of H.Nothing = 0
              type_of (H.Scalar t) = 0
              type_of (H.Owned t b) = 0
              type_of (H.Lent t o) = 0
              type_of (H.Credit n) = 0
              type_of (H.Bare t c) = t

              number_of : Held → ℕ
              number_of H.Nothing = 0
              number_of (H.Scalar t) = 0
              number_of (H.Owned t b) = 0
              number_of (H.Lent t o) = 0
              number_of (H.Credit n) = 0
              number_of (H.Bare t c) = c

          bares : is_scalar st t ≡ false → AllSlotted st c.types (fields c.types t d) NoPatterns → BareRight c.types (D.setting (held_at k.held) r (H.Bare t d))
          bares e h q u x z = elim (or_not (q == r)) as (λ v. (is_scalar_type c.types u ≡ false) × (length (fields c.types u x) ≡ 0)) [
            | inl y ↦
                (let b = same_bare u x (sym (chosen (q == r) (H.Bare t d) (held_at k.held q) y) ∙ z) in
                (ap (is_scalar_type c.types) (sym b.0) ∙ (sym same ∙ e), ap₂ (λ u x. length (fields c.types u x)) (sym b.0) (sym b.1) ∙ no_fields (fields c.types t d) h))
            | inr y ↦ ties.bares q u x (sym (refused (q == r) (H.Bare t d) (held_at k.held q) y) ∙ z)
          ]

      by : (y : Bool) → takes ≡ y → (ps : Patterns) → AllSlotted st c.types (fields c.types t d) ps → Opened s T n [] (own_node ps) k (with_cell st y t d ps r k)
      by false e ps h =
          let x = opened_none s T n k reads ties in record {
            ties = ties_worth fip c.types (s ++ []) B K (λ i. T i + gained takes c.types n [] [] i) (λ i. T i + gained takes c.types n [] (own_node ps) i) (λ q. 0) k (λ i. let a = read_only takes e i ps in let b = gained_none takes c.types n i in omega (arith, a, b)) x.ties;
            names = refl;
            next = refl;
            reads = reads_on T (λ i. T i + gained takes c.types n [] (own_node ps) i) k k reads (λ y. omega arith) (λ e q h. h) (λ q. refl);
          }
      by true e NoPatterns h = bare (is_scalar st t) refl h
      by true e (MorePatterns p ps) h = record {
        ties = subst (λ y. Ties fip c.types (s ++ []) B K (λ i. T i + gained y c.types n [] (m ∷ []) i) (λ q. 0) (with_credit k m r)) (sym e)
            (subst (λ s. Ties fip c.types s B K (λ i. T i + (0 + charge (m ∷ []) i)) (λ q. 0) (with_credit k m r)) (sym (append_none s))
            (ties_worth fip c.types s B K (λ i. T i + charge (m ∷ []) i) (λ i. T i + (0 + charge (m ∷ []) i)) (λ q. 0) (with_credit k m r) (λ i. omega arith)
            (credit_ties fip c.types B K s T (λ q. 0) (record k { names = map (unless_in r) k.names }) m r reads.kept (unless_ties fip c.types B K s T (λ q. 0) k r reads.kept ties (empty_owners s T k r ties empty)) empty within used)));
        names = length_unless r k.names;
        next = refl;
        reads = reads_on T (λ i. T i + gained takes c.types n [] (m ∷ []) i) k (with_credit k m r) reads (λ y. omega arith) (λ f. absurd (true≢false (sym e ∙ f)))
            (λ q. unless_owners r k.names (own L) q (let a = owners_less k.names (own T) (own L) r reads.least in let b = empty_owners s T k r ties empty in omega (arith, a, b)));
      }
        where
          m : ℕ
          m = suc (count_patterns ps)

  own_node_is : (ps : Patterns) → own_node ps ≡ node (count_patterns ps)
  own_node_is NoPatterns = refl
  own_node_is (MorePatterns p ps) = refl

  -- where a cell is before the positions of its fields
  opened_next : (s : Scope) (T : Item → ℕ) (n : ℕ) (ds : List Binder) (ks ls : List ℕ) (k l m : Known) → Opened s T n [] ks k l → Opened (s ++ []) (λ i. T i + gained takes c.types n [] ks i) n ds ls l m → Opened s T n ds (ks ++ ls) k m
  opened_next s T n ds ks ls k l m x y =
      let z : n ≡ n + 0 = omega arith in
      opened_on s T n [] ds ks ls k l m x (subst (λ n1. Opened (s ++ []) (λ i. T i + gained takes c.types n [] ks i) n1 ds ls l m) z y)

  -- registers of the positions after one
  idle_rest : (p : Pattern) (s : Spot) (ss : Spots) (k : Known) → AllDiffer (MoreSpots s ss) → Idle (all_in (MoreSpots s ss)) k → (entering st takes root p s k).next ≡ k.next → Idle (all_in ss) (entering st takes root p s k)
  idle_rest p s ss k differ idle next z m =
      let was = idle z (in_tail z s ss m) in
      let wide = entering_width st takes root p s k in
      let low = was.1 in
      let used = was.2 in (
        entering_at st takes root p s k z (λ y a. (idle y (in_part y s ss a)).1) ∙ (entry_other st takes root p s z (held_at k.held z) apart ∙ was.0),
        omega (arith, wide, low),
        omega (arith, next, used),
      )
    where
      apart : Among z (register s ∷ below s) → ⊥
      apart (inl e) = differ.1 (subst (λ y. Among y (all_in ss)) e m)
      apart (inr a) = differ.2 z a m

  before_none : (s : Scope) (n : ℕ) → Before s n → Before (s ++ []) n
  before_none s n before = λ x u h. before x u (ap (λ s. of_binder s (Some x)) (sym (append_none s)) ∙ h)

  none_on : (T : Item → ℕ) (n : ℕ) (bs : List Binder) (ks : List ℕ) → NoneFrom n T → NoneFrom (n + length bs) (λ i. T i + gained takes c.types n bs ks i)
  none_on T n bs ks none y low =
      let a = none y (omega (arith, low)) in
      let b = gained_past takes c.types n bs ks y low in
      omega (arith, a, b)

  none_cell : (T : Item → ℕ) (n : ℕ) (ks : List ℕ) → NoneFrom n T → NoneFrom n (λ i. T i + gained takes c.types n [] ks i)
  none_cell T n ks none y low =
      let a = none y low in
      let b = gained_past takes c.types n [] ks y (omega (arith, low)) in
      omega (arith, a, b)

  mutual
    pub opens : (q : Pattern) (t : ℕ) (p : Spot) (s : Scope) (T : Item → ℕ) (k : Known) (n : ℕ) → Slotted st c.types t q → Roomy q p → Differ p → (Among (register p) (below p) → ⊥) → Idle (register p ∷ below p) k → InOrder n (binders q) → n + length (binders q) ≤ length k.names → Before s n → NoneFrom n T → Free n (binders q) → Reads T k → Ties fip c.types s B K T (λ q. 0) k → Opened s T n (binders q) (nodes q) k (entering st takes root q p k)
    opens (BinderPattern b) t (At r fs) s T k n slotted roomy differ off idle order room before none free reads ties =
        let z = idle r (inl refl) in
        variable_opens s T k b n r reads ties z.0 z.1 z.2 (subst (λ t. is_scalar st t ≡ is_scalar_type c.types t) (sym slotted.0) slotted.1) before none free (omega (arith, room)) order.0
    opens (LiteralPattern i a) t (At r fs) s T k n slotted roomy differ off idle order room before none free reads ties = opened_none s T n k reads ties
    opens (ConstructorPattern u d x a b ps) t (At r fs) s T k n slotted roomy differ off idle order room before none free reads ties =
        let z = idle r (inl refl) in
        let l = with_cell st takes u x ps r k in
        let first = cell_opens s T k n u x ps r reads ties z.0 z.1 z.2 (subst (λ t. is_scalar st t ≡ is_scalar_type c.types t) (sym slotted.0) slotted.1) (subst (λ t. AllSlotted st c.types (fields c.types t x) ps) (sym slotted.0) slotted.2) in
        let next = first.next in
        let wide = cell_width st takes u x ps r k in
        let names = first.names in
        let rest = opens_all ps (fields c.types t x) fs (s ++ []) (λ i. T i + gained takes c.types n [] (own_node ps) i) l n slotted.2 roomy differ
        (λ y m. let was = idle y (inr m) in let low = was.1 in let used = was.2 in (cell_at st takes u x ps r k y z.1 ∙ (cell_other st takes u x ps r y (held_at k.held y) (λ e. off (subst (λ q. Among q (all_in fs)) e m)) ∙ was.0), omega (arith, wide, low), omega (arith, next, used)))
        order (omega (arith, room, names)) (before_none s n before) (none_cell T n (own_node ps) none) free first.reads first.ties in
        subst (λ ks. Opened s T n (binders_all ps) (ks ++ nodes_all ps) k (entering_all st takes root ps fs l)) (own_node_is ps)
        (opened_next s T n (binders_all ps) (own_node ps) (nodes_all ps) k l (entering_all st takes root ps fs l) first rest)

    pub opens_all : (ps : Patterns) (ts : List ℕ) (ss : Spots) (s : Scope) (T : Item → ℕ) (k : Known) (n : ℕ) → AllSlotted st c.types ts ps → AllRoomy ps ss → AllDiffer ss → Idle (all_in ss) k → InOrder n (binders_all ps) → n + length (binders_all ps) ≤ length k.names → Before s n → NoneFrom n T → Free n (binders_all ps) → Reads T k → Ties fip c.types s B K T (λ q. 0) k → Opened s T n (binders_all ps) (nodes_all ps) k (entering_all st takes root ps ss k)
    opens_all NoPatterns ts ss s T k n slotted roomy differ idle order room before none free reads ties = opened_none s T n k reads ties
    opens_all (MorePatterns p ps) [] ss s T k n slotted roomy differ idle order room before none free reads ties = absurd slotted
    opens_all (MorePatterns p ps) (t ∷ ts) NoSpots s T k n slotted roomy differ idle order room before none free reads ties = absurd roomy
    opens_all (MorePatterns p ps) (t ∷ ts) (MoreSpots x xs) s T k n slotted roomy differ idle order room before none free reads ties =
        let many = length_both (binders p) (binders_all ps) in
        let orders = order_both n (binders p) (binders_all ps) order in
        let l = entering st takes root p x k in
        let first = opens p t x s T k n slotted.0 roomy.0 differ.3 differ.0 (λ y m. idle y (in_part y x xs m)) orders.0 (omega (arith, room, many)) before none (free_both n (binders p) (binders_all ps) free).0 reads ties in
        let names = first.names in
        let rest = opens_all ps ts xs (s ++ scope_of (binders p)) (λ i. T i + gained takes c.types n (binders p) (nodes p) i) l (n + length (binders p)) slotted.1 roomy.1 differ.4 (idle_rest p x xs k differ idle first.next) orders.1 (omega (arith, room, many, names)) (before_all s n (binders p) orders.0 before) (none_on T n (binders p) (nodes p) none) (free_both n (binders p) (binders_all ps) free).1 first.reads first.ties in
        opened_on s T n (binders p) (binders_all ps) (nodes p) (nodes_all ps) k l (entering_all st takes root ps xs l) first rest

-- ---- from the scrutinee on

module _ (c : PlainCode) (f : PlainFunction) (st : Setting) (fip : Bool) (B : ℕ → Bool) (K : ℕ → Item → ℕ) where
  abbrev pub root_at : ℕ → Known → Option ℕ
  root_at r k = root_of r (get_or k.held r H.Nothing)

  -- where the scrutinee is used up nothing is read in it
  reads_taken : (root : Option ℕ) (T : Item → ℕ) (k : Known) → Kept K T → Reads c f st fip B K true root (λ i. 0) T k
  reads_taken root T k kept = record { kept = kept; least = λ y. omega arith; inside = λ e. absurd (true≢false e) }

  -- a tree that is used up
  pub opened_taken : (q : Pattern) (t : ℕ) (p : Spot) (s : Scope) (T : Item → ℕ) (k : Known) (n : ℕ) → Slotted st c.types t q → Roomy q p → Differ p → (Among (register p) (below p) → ⊥) → Idle (below p) k → register p < length k.held → register p < k.next → HoldsValue c.types t (held_at k.held (register p)) → is_scalar_type c.types t ≡ false → InOrder n (binders q) → n + length (binders q) ≤ length k.names → Before s n → NoneFrom n T → Unborrowed fip c.types B K n (slots (binders q)) → Kept K T → Ties fip c.types s B K T (λ q. owe c.types t (register p) q + 0) k → Opened c f st fip B K true (root_at (register p) k) (λ i. 0) s T n (binders q) (nodes q) k (entering_root st true q p k)
  opened_taken (BinderPattern b) t (At r fs) s T k n slotted roomy differ off idle within used v tree order room before none free kept ties = record {
    ties = ties_worth fip c.types (s ++ entry (Some b.ty) b ∷ []) B K (λ i. T i + sole c.types b.ty n i) (λ i. T i + gained true c.types n (b ∷ []) [] i) (λ q. 0) (naming k b.number r) (λ i. let z = charge_none i in omega (arith, z))
        (subst (λ u. Ties fip c.types (s ++ entry (Some u) b ∷ []) B K (λ i. T i + sole c.types u n i) (λ q. 0) (naming k b.number r)) (sym slotted.0)
        (name_one fip c.types B K s T (λ q. 0) k b n r t ties v before none kept (λ e. free.0 (ap (is_scalar_type c.types) slotted.0 ∙ e)) (omega (arith, room)) order.0));
    names = length_named k.names b.number r;
    next = refl;
    reads = reads_taken (root_at r k) (λ i. T i + gained true c.types n (b ∷ []) [] i) (naming k b.number r) (λ z y. let a = kept z y in omega (arith, a));
  }
  opened_taken (LiteralPattern i a) t (At r fs) s T k n slotted roomy differ off idle within used v tree order room before none free kept ties =
      absurd (true≢false (sym (int_scalar c.types) ∙ (ap (is_scalar_type c.types) (sym slotted) ∙ tree)))
  opened_taken (ConstructorPattern u d x a b ps) t (At r fs) s T k n slotted roomy differ off idle within used v tree order room before none free kept ties =
      let l = record k { held = Rattle.lowering_relation.specs.Known.used k.held r } in
      let spent = use_ties fip c.types s B K T (λ q. 0) k (r ∷ []) (t ∷ []) (ties_owe fip c.types s B K T (λ q. owe c.types t r q + 0) (λ q. (owe c.types t r q + 0) + 0) k (λ q. omega arith) ties) kept (v, tt) in
      let wide = length_used k.held r in
      let owned = owned_tree t (held_at k.held r) (v.owned tree) in
      let x = opens c f st fip B K true (root_at r k) (λ i. 0) (ConstructorPattern u d x a b ps) t (At r fs) s T l n slotted roomy differ off
      (idle_used owned wide) order room before none ((λ e. free), λ e. absurd (true≢false e)) (reads_taken (root_at r k) T l kept) spent.ties in
      record { ties = x.ties; names = x.names; next = x.next; reads = x.reads }
    where
      idle_used : is_tree (held_at k.held r) ≡ true → length (Rattle.lowering_relation.specs.Known.used k.held r) ≡ length k.held → Idle (r ∷ all_in fs) (record k { held = Rattle.lowering_relation.specs.Known.used k.held r })
      idle_used owned wide y (inl e) = (
        held_used k.held r y ∙ (ap (C.using (held_at k.held) r) e ∙ using_self (held_at k.held) r owned),
        omega (arith, wide, within, e),
        omega (arith, used, e),
      )
      idle_used owned wide y (inr m) =
          let was = idle y m in
          let low = was.1 in
          (held_used k.held r y ∙ using_nothing (held_at k.held) r y was.0, omega (arith, wide, low), was.2)

  -- what the register of one that is only read holds: a scalar, or a tree that lies where L does
  abbrev pub IsRead : ℕ → ℕ → (Item → ℕ) → Known → Type 0
  IsRead t r L k =
      ((is_scalar_type c.types t ≡ true) × (held_at k.held r ≡ H.Scalar t))
      ⊎ ((is_scalar_type c.types t ≡ false) × (is_read_of t (held_at k.held r) ≡ true)
      × LiesIn (owners k.names (own L)) r (held_at k.held r))

  pub read_root : (t r : ℕ) (L : Item → ℕ) (k : Known) → Rooted (held_at k.held) → IsRead t r L k → RootIn (root_at r k) L k
  read_root t r L k rooted is = subst (λ h. RootIn (root_of r h) L k) (sym (held_or k.held r)) (by (held_at k.held r) refl is)
    where
      by : (h : Held) → held_at k.held r ≡ h → ((is_scalar_type c.types t ≡ true) × (h ≡ H.Scalar t)) ⊎ ((is_scalar_type c.types t ≡ false) × (is_read_of t h ≡ true) × LiesIn (owners k.names (own L)) r h) → RootIn (root_of r h) L k
      by H.Nothing e x = tt
      by (H.Scalar u) e x = tt
      by (H.Owned u b) e (inl x) = absurd (other x.1)
        where
          other : H.Owned u b ≡ H.Scalar t → ⊥
          other z = absurd (cc)
      by (H.Owned u b) e (inr x) = (ap is_tree e, x.2)
      by (H.Lent u None) e x = tt
      by (H.Lent u (Some q)) e (inl x) = absurd (other x.1)
        where
          other : H.Lent u (Some q) ≡ H.Scalar t → ⊥
          other z = absurd (cc)
      by (H.Lent u (Some q)) e (inr x) = (rooted r u q e, x.2)
      by (H.Credit m) e x = tt
      by (H.Bare u d) e x = tt

  read_named : (s : Scope) (T L : Item → ℕ) (k : Known) (b : Binder) (n r t : ℕ) → Kept K T → (is_scalar_type c.types t ≡ false → K n ≡ L) → IsRead t r L k → r < k.next → n < length k.names → b.number ≡ n → Before s n → NoneFrom n T → Ties fip c.types s B K T (λ q. 0) k → Ties fip c.types (s ++ entry (Some t) b ∷ []) B K T (λ q. 0) (naming k b.number r)
  read_named s T L k b n r t kept lies (inl y) used room number before none ties =
      ties_worth fip c.types (s ++ entry (Some t) b ∷ []) B K (λ i. T i + sole c.types t n i) T (λ q. 0) (naming k b.number r) (λ i. let z = chosen (is_scalar_type c.types t) 0 (Rattle.derivation_making.specs.ownership_calculus.Terms.only n i) y.0 in omega (arith, z))
      (name_one fip c.types B K s T (λ q. 0) k b n r t (ties_owe fip c.types s B K T (λ q. 0) (λ q. owe c.types t r q + 0) k (λ q. let z = chosen (is_scalar_type c.types t) 0 (one_if (r == q)) y.0 in omega (arith, z)) ties)
      (record { scalar = λ e. y.1; owned = λ e. absurd (true≢false (sym y.0 ∙ e)) }) before none kept (λ e. absurd (true≢false (sym y.0 ∙ e))) room number)
  read_named s T L k b n r t kept lies (inr y) used room number before none ties =
      name_lent fip c.types B K s T (λ q. 0) k b n r t kept ties y.1 (subst (λ m. LiesIn (owners k.names (own m)) r (held_at k.held r)) (sym (lies y.0)) y.2) y.0 used (none n (omega arith)) room number

  pub opened_read : (q : Pattern) (t : ℕ) (p : Spot) (s : Scope) (T L : Item → ℕ) (k : Known) (n : ℕ) → Slotted st c.types t q → Roomy q p → Differ p → Idle (below p) k → register p < k.next → IsRead t (register p) L k → InOrder n (binders q) → n + length (binders q) ≤ length k.names → Before s n → NoneFrom n T → Kept K T → ((y : ℕ) → L (Own y) ≤ T (Own y)) → LentFrom c.types K L n (slots (binders q)) → Ties fip c.types s B K T (λ q. 0) k → Opened c f st fip B K false (root_at (register p) k) L s T n (binders q) (nodes q) k (entering_root st false q p k)
  opened_read (BinderPattern b) t (At r fs) s T L k n slotted roomy differ idle used is order room before none kept least lent ties = record {
    ties = ties_worth fip c.types (s ++ entry (Some b.ty) b ∷ []) B K T (λ i. T i + 0) (λ q. 0) (naming k b.number r) (λ i. omega arith)
        (subst (λ u. Ties fip c.types (s ++ entry (Some u) b ∷ []) B K T (λ q. 0) (naming k b.number r)) (sym slotted.0) (read_named s T L k b n r t kept (λ e. lent.0 (ap (is_scalar_type c.types) slotted.0 ∙ e)) is used (omega (arith, room)) order.0 before none ties));
    names = length_named k.names b.number r;
    next = refl;
    reads = record {
      kept = λ z y. (let a = kept z y in omega (arith, a));
      least = λ y. (let a = least y in omega (arith, a));
      inside = λ e. root_on (root_at r k) L k (naming k b.number r) (λ q h. h)
          (λ q. owners_renamed k.names (own L) b.number r q (let z = order.0 in let a = ap (λ n. L (Own n)) z in let d = least n in let i = none n (omega arith) in omega (arith, a, d, i)))
          (read_root t r L k ties.rooted is);
    };
  }
  opened_read (LiteralPattern i a) t (At r fs) s T L k n slotted roomy differ idle used is order room before none kept least lent ties =
      opened_none c f st fip B K false (root_at r k) L s T n k (record { kept = kept; least = least; inside = λ e. read_root t r L k ties.rooted is }) ties
  opened_read (ConstructorPattern u d x a b ps) t (At r fs) s T L k n slotted roomy differ idle used is order room before none kept least lent ties =
      let y = opens_all c f st fip B K false (root_at r k) L ps (fields c.types t x) fs s T k n slotted.2 roomy differ idle order room before none ((λ e. absurd (true≢false (sym e))), λ e. lent)
      (record { kept = kept; least = least; inside = λ e. read_root t r L k ties.rooted is }) ties in
      record { ties = y.ties; names = y.names; next = y.next; reads = y.reads }
