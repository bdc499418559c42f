-- A clause begins: what is known at its entry goes with the variables in scope there.
use Rattle.std.proofs.Common.{◌≡◌, inl, inr, ℕ, suc, ◌+◌, ◌<◌, ◌≤◌, Bool, true, false, ◌||◌, not, List, [], ◌∷◌, ◌++◌, length, map, Some, refl, sym, ap, ap₂, ◌∙◌, subst, arith, if◌then◌else◌, ◌==◌}
use Rattle.separation.specs.fip_language.Table.{Table, constructors}
use Rattle.separation.specs.fip_language.Every.{Among}
use Rattle.separation.specs.fip_base.TableView.{fields_at}
use Rattle.lowering_relation.specs.fip_trees.declared.program.Binder.{Binder}
use Rattle.lowering_relation.specs.fip_trees.Tree.{Pattern, BinderPattern, LiteralPattern, ConstructorPattern, Patterns, NoPatterns, MorePatterns}
use Rattle.derivation_making.specs.fip_rules.World as R
use Rattle.derivation_making.specs.fip_rules.Shapes.{Names, binders, binders_all}
use Rattle.derivation_making.specs.type_check.Binders.{entry}
use Rattle.derivation_making.specs.type_check.Scope.{Scope, of_binder}
use Rattle.derivation_making.specs.type_check.World as W
use Rattle.derivation_making.specs.type_check.World.{field_types}
use Rattle.derivation_making.specs.type_check.Typing.{IsPattern, ArePatterns, bound_by, bound_by_all}
use Rattle.derivation_making.specs.ownership_calculus.Terms.{Item, Own, Credit, has, given, charge}
use Rattle.derivation_making.specs.ownership_calculus.Rules.{Fits}
use Rattle.derivation_making.specs.ownership_calculus.Rules as O
use Rattle.derivation_making.specs.ownership_calculus.ByCases.{Opens}
use Rattle.derivation_making.proofs.ownership_calculus.Fit.{fits_le, fits_same, fits_sum}
use Rattle.derivation_making.specs.ownership_agreement.Bodies.{Scalars, variables, entering, inside, nodes}
use Rattle.derivation_making.proofs.ownership_agreement.Basics.{not_owned}
use Rattle.derivation_making.proofs.Linking.{next_inside}
use Rattle.separation.specs.cell_code.Plain.{PlainFunction, PlainCode}
use Rattle.separation.specs.code_rules.Types.{is_type, is_scalar_type, fields}
use Rattle.separation.proofs.separation_kinds.Basics.{pick, chosen, refused, or_not, unequal_is}
use Rattle.separation.proofs.separation_kinds.Basics as KB
use Rattle.lowering_relation.specs.Spots.{register, below, Differ}
use Rattle.lowering_relation.specs.Opening.{Roomy}
use Rattle.lowering_relation.specs.Entering as E
use Rattle.lowering_relation.specs.declared.held.Held.{Held}
use Rattle.lowering_relation.specs.Known.{Known}
use Rattle.lowering_relation.specs.Values.{Setting}
use Rattle.lowering_relation.specs.Describing.{held_at}
use Rattle.lowering_soundness.specs.Ties.{HoldsValue, owe, Ties}
use Rattle.lowering_soundness.specs.Laid.{Shares}
use Rattle.lowering_soundness.specs.Placed.{Placed, NoneFrom, InOrder, AreTypes, Callees}
use Rattle.lowering_relation.specs.Tests.{Choice}
use Rattle.lowering_soundness.proofs.Standing.{Slotted, AllSlotted}
use Rattle.lowering_relation.specs.Matches.{widened, wide, entered}
use Rattle.lowering_soundness.proofs.Tying.{ties_fits}
use Rattle.lowering_soundness.proofs.Arguments.{fields_same}
use Rattle.lowering_soundness.proofs.Scoping.{entries_of, SlotsHold, some_placed}
use Rattle.lowering_soundness.proofs.Naming.{soles}
use Rattle.lowering_soundness.proofs.Lets.{ties_within, scope_later, opens_fits, unborrowed, has_from}
use Rattle.lowering_soundness.proofs.EntryHeld.{entering_root_width}
use Rattle.lowering_soundness.proofs.Cleared.{Kept, ties_wide}
use Rattle.lowering_soundness.proofs.Openings.{slots, scope_of, scope_both, gained, Idle, LentFrom, IsRead, opened_taken, opened_read}

-- where more registers are used nothing else is known
pub ties_reserved : (fip : Bool) (w : Table) (s : Scope) (B : ℕ → Bool) (K : ℕ → Item → ℕ) (T : Item → ℕ) (e : ℕ → ℕ) (k : Known) (n : ℕ) → k.next ≤ n → Ties fip w s B K T e k → Ties fip w s B K T e (record k { next = n })
ties_reserved fip w s B K T e k n more t = record {
  variables = t.variables;
  trees = t.trees;
  lent = t.lent;
  rooted = t.rooted;
  bares = t.bares;
  sizes = t.sizes;
  credits = t.credits;
  fresh = λ r low. t.fresh r (omega (arith, low, more));
  named = λ x r h. (let z = t.named x r h in omega (arith, z, more));
}

pub entries_slots : (bs : List Binder) → entries_of bs (slots bs) ≡ scope_of bs
entries_slots [] = refl
entries_slots (b ∷ bs) = ap (λ s. entry (Some b.ty) b ∷ s) (entries_slots bs)

slots_many : (c : PlainCode) (bs ds : List Binder) → SlotsHold c bs (slots bs) → SlotsHold c ds (slots ds) → SlotsHold c (bs ++ ds) (slots (bs ++ ds))
slots_many c [] ds h i = i
slots_many c (b ∷ bs) ds h i = (h.0, slots_many c bs ds h.1 i)

pub length_map : (hs : List Held) → length (map widened hs) ≡ length hs
length_map [] = refl
length_map (h ∷ hs) = ap suc (length_map hs)

-- variables of a pattern that are only read lie where the scrutinee does
abbrev pub reading : Bool → List ℕ → (Item → ℕ) → (ℕ → Item → ℕ) → ℕ → Item → ℕ
reading true ys L K z = K z
reading false ys L K z = if has ys z then L else K z

pub reading_kept : (taken : Bool) (ys : List ℕ) (L X : Item → ℕ) (K : ℕ → Item → ℕ) → Kept K X → ((y : ℕ) → L (Own y) ≤ X (Own y)) → Kept (reading taken ys L K) X
reading_kept true ys L X K kept least z y = kept z y
reading_kept false ys L X K kept least z y = pick (λ (m : Item → ℕ). m (Own y) ≤ X (Own y)) (has ys z) L (K z) (λ e. least y) (λ e. kept z y)

module _ (c : PlainCode) (st : Setting) (wd : W.World) (w : R.World) (shares : Shares c st wd) (callees : Callees c st wd w) where
  -- ---- the types of a pattern

  pub pattern_fields : (t d : ℕ) → W.fields_of wd t d ≡ fields c.types t d
  pattern_fields t d = ap (λ tb. fields_at (constructors tb t) d) shares.types ∙ fields_same (constructors c.types t) d

  mutual
    pub slotted_of : (q : Pattern) (t : ℕ) → is_type c.types t ≡ true → IsPattern true wd t q → Slotted st c.types t q
    slotted_of (BinderPattern b) t typed h = (h, shares.scalars t typed)
    slotted_of (LiteralPattern i p) t typed h = h
    slotted_of (ConstructorPattern u d x n p ps) t typed h = (h.0, shares.scalars t typed, subst (λ ts. AllSlotted st c.types ts ps) (pattern_fields t x) (all_slotted ps (W.fields_of wd t x) (callees.fields t x) h.2))

    all_slotted : (ps : Patterns) (ts : List ℕ) → AreTypes c ts → ArePatterns true wd ts ps → AllSlotted st c.types ts ps
    all_slotted NoPatterns [] typed h = tt
    all_slotted NoPatterns (t ∷ ts) typed h = absurd h
    all_slotted (MorePatterns p ps) [] typed h = absurd h
    all_slotted (MorePatterns p ps) (t ∷ ts) typed h = (slotted_of p t typed.0 h.0, all_slotted ps ts typed.1 h.1)

  mutual
    pub slots_hold : (q : Pattern) (t : ℕ) → is_type c.types t ≡ true → IsPattern true wd t q → SlotsHold c (binders q) (slots (binders q))
    slots_hold (BinderPattern b) t typed h = ((refl, ap (is_type c.types) h ∙ typed), tt)
    slots_hold (LiteralPattern i p) t typed h = tt
    slots_hold (ConstructorPattern u d x n p ps) t typed h = all_hold ps (W.fields_of wd t x) (callees.fields t x) h.2

    all_hold : (ps : Patterns) (ts : List ℕ) → AreTypes c ts → ArePatterns true wd ts ps → SlotsHold c (binders_all ps) (slots (binders_all ps))
    all_hold NoPatterns ts typed h = tt
    all_hold (MorePatterns p ps) [] typed h = absurd h
    all_hold (MorePatterns p ps) (t ∷ ts) typed h = slots_many c (binders p) (binders_all ps) (slots_hold p t typed.0 h.0) (all_hold ps ts typed.1 h.1)

  mutual
    pub bound_is : (q : Pattern) (t : ℕ) → IsPattern true wd t q → bound_by wd (Some t) q ≡ scope_of (binders q)
    bound_is (BinderPattern b) t h = ap (λ t. entry (Some t) b ∷ []) (sym h)
    bound_is (LiteralPattern i p) t h = refl
    bound_is (ConstructorPattern u d x n p ps) t h =
        ap (λ o. bound_by_all wd (field_types wd o x) ps) (KB.chosen (W.is_of wd t d) (Some t) (W.plain_type wd d) h.1) ∙ all_bound ps (W.fields_of wd t x) h.2

    all_bound : (ps : Patterns) (ts : List ℕ) → ArePatterns true wd ts ps → bound_by_all wd (map Some ts) ps ≡ scope_of (binders_all ps)
    all_bound NoPatterns ts h = refl
    all_bound (MorePatterns p ps) [] h = absurd h
    all_bound (MorePatterns p ps) (t ∷ ts) h =
        ap₂ (λ a b. a ++ b) (bound_is p t h.0) (all_bound ps ts h.1) ∙ sym (scope_both (binders p) (binders_all ps))

  -- ---- what a clause gets

  module _ (f : PlainFunction) (fip : Bool) where
    opens_more : (n : ℕ) (bs : List Binder) (ks ts : List ℕ) (R Q : Item → ℕ) → Opens fip true (variables w n bs) ks R Q → NoneFrom n R → SlotsHold c bs ts → (i : Item) → Fits fip ((R i + soles c.types n ts i) + charge ks i) (Q i)
    opens_more n bs ks ts R Q opens none hold (Credit k) =
        let a = Rattle.lowering_soundness.proofs.Lets.soles_credit c.types n ts k in
        let z : R (Credit k) + given k ks ≡ (R (Credit k) + soles c.types n ts (Credit k)) + given k ks = omega (arith, a) in
        subst (λ m. Fits fip m (Q (Credit k))) z (opens.credits k)
    opens_more n bs ks ts R Q opens none hold (Own y) =
        let z : R (Own y) + soles c.types n ts (Own y) ≡ (R (Own y) + soles c.types n ts (Own y)) + 0 = omega arith in
        subst (λ m. Fits fip m (Q (Own y))) z (opens_fits c w callees.scalars fip n bs ts R left plain none hold (Own y))
      where
        left : Item → ℕ
        left (Own y) = Q (Own y)
        left (Credit k) = R (Credit k)

        plain : Opens fip true (variables w n bs) [] R left
        plain = record {
          bound = opens.bound;
          hidden = opens.hidden;
          others = opens.others;
          credits = λ k. (let z : R (Credit k) ≡ R (Credit k) + 0 = omega arith in subst (λ m. Fits fip m (R (Credit k))) z (fits_same fip (R (Credit k))));
        }

    opens_less : (n : ℕ) (bs : List Binder) (R Q : Item → ℕ) → Opens fip false (variables w n bs) [] R Q → NoneFrom n R → (i : Item) → Fits fip (R i) (Q i)
    opens_less n bs R Q opens none (Credit k) =
        let z : R (Credit k) + 0 ≡ R (Credit k) = omega arith in
        subst (λ m. Fits fip m (Q (Credit k))) z (opens.credits k)
    opens_less n bs R Q opens none (Own y) = elim (or_not (has (variables w n bs) y)) as (λ v. Fits fip (R (Own y)) (Q (Own y))) [
      | inl h ↦
          (let a = none y (has_from c w callees.scalars n bs y h) in
          let b = opens.bound y h in
          let z : Q (Own y) ≡ R (Own y) = omega (arith, a, b) in
          subst (λ m. Fits fip m (Q (Own y))) z (fits_same fip (Q (Own y))))
      | inr h ↦ opens.others y h
    ]

    -- after the binders' numbers nothing is owned
    beyond : (y m : ℕ) (ds : List Binder) → m + length ds ≤ y → has (variables w m ds) y ≡ false
    beyond y m [] low = refl
    beyond y m (d ∷ ds) low = one (w.scalar d.ty) (beyond y (suc m) ds (omega (arith, low)))
      where
        one : (b : Bool) → has (variables w (suc m) ds) y ≡ false → has (if b then variables w (suc m) ds else m ∷ variables w (suc m) ds) y ≡ false
        one true h = h
        one false h = ap (λ b. b || has (variables w (suc m) ds) y) (unequal_is m y (λ e. absurd (let z : ⊥ = omega (arith, e, low) in z))) ∙ h

    -- variables that are only read lie where the scrutinee does
    lent_from : (K : ℕ → Item → ℕ) (L : Item → ℕ) (n : ℕ) (bs : List Binder) (ts : List ℕ) → SlotsHold c bs ts → LentFrom c.types (λ z. if has (variables w n bs) z then L else K z) L n ts
    lent_from K L n bs ts slots = from n bs ts slots (λ y h. chosen (has (variables w n bs) y) L (K y) h)
      where
        from : (m : ℕ) (ds : List Binder) (us : List ℕ) → SlotsHold c ds us → ((y : ℕ) → has (variables w m ds) y ≡ true → (if has (variables w n bs) y then L else K y) ≡ L) → LentFrom c.types (λ z. if has (variables w n bs) z then L else K z) L m us
        from m [] [] h all = tt
        from m [] (u ∷ us) h all = absurd h
        from m (d ∷ ds) [] h all = absurd h
        from m (d ∷ ds) (u ∷ us) h all = ((λ e. all m (first e)), from (suc m) ds us h.1 (λ y z. all y (later y z)))
          where
            scalar : w.scalar d.ty ≡ is_scalar_type c.types u
            scalar = ap w.scalar h.0.0 ∙ callees.scalars u h.0.1

            first : is_scalar_type c.types u ≡ false → has (variables w m (d ∷ ds)) m ≡ true
            first e = ap (λ ys. has ys m) (refused (w.scalar d.ty) (variables w (suc m) ds) (m ∷ variables w (suc m) ds) (scalar ∙ e)) ∙ ap (λ b. b || has (variables w (suc m) ds) m) (KB.equal_is m m refl)

            or_true : (a b : Bool) → b ≡ true → (a || b) ≡ true
            or_true true b e = refl
            or_true false b e = e

            later : (y : ℕ) → has (variables w (suc m) ds) y ≡ true → has (variables w m (d ∷ ds)) y ≡ true
            later y z = elim (or_not (w.scalar d.ty)) as (λ v. has (variables w m (d ∷ ds)) y ≡ true) [
              | inl e ↦ ap (λ ys. has ys y) (chosen (w.scalar d.ty) (variables w (suc m) ds) (m ∷ variables w (suc m) ds) e) ∙ z
              | inr e ↦ ap (λ ys. has ys y) (refused (w.scalar d.ty) (variables w (suc m) ds) (m ∷ variables w (suc m) ds) e) ∙ or_true (m == y) (has (variables w (suc m) ds) y) z
            ]

    -- what is so at a clause's entry
    pub record ClauseBegins (s : Scope) (sc : Scalars) (n : Names) (taken : Bool) (t : ℕ) (q : Pattern) (B : ℕ → Bool) (K : ℕ → Item → ℕ) (Q X : Item → ℕ) (l m : Known) : Type 0 where
      pub ties : Ties fip c.types (s ++ bound_by wd (Some t) q) (O.setting (variables w n.next (binders q)) (not taken) B) K (λ i. Q i + X i) (λ q. 0) m
      pub placed : Placed c (s ++ bound_by wd (Some t) q) (entering w n.next sc (binders q)) (inside w taken n (binders q))
      pub none : NoneFrom (inside w taken n (binders q)).next (λ i. Q i + X i)
      pub names : length m.names ≡ length l.names
      pub width : length m.held ≡ length l.held

    -- what is owned where the tests are, and what the scrutinee's register holds: it is read where L lies
    abbrev pub Stands : Bool → Scope → (ℕ → Bool) → (ℕ → Item → ℕ) → (Item → ℕ) → (Item → ℕ) → (Item → ℕ) → ℕ → ℕ → Known → Type 0
    Stands true s B K R X L t r l = Ties fip c.types s B K (λ i. R i + X i) (λ q. owe c.types t r q + 0) l × HoldsValue c.types t (held_at l.held r) × (is_scalar_type c.types t ≡ false)
    Stands false s B K R X L t r l = Ties fip c.types s B K (λ i. R i + X i) (λ q. 0) l × IsRead c f st fip B K t r L l

    abbrev pub OpensBy : Bool → List ℕ → List ℕ → (Item → ℕ) → (Item → ℕ) → Type 0
    OpensBy true ys ks R Q = Opens fip true ys ks R Q
    OpensBy false ys ks R Q = Opens fip false ys [] R Q

    module _ (s : Scope) (sc : Scalars) (n : Names) (B : ℕ → Bool) (K : ℕ → Item → ℕ) (X L : Item → ℕ) (kept : Kept K X) (least : (y : ℕ) → L (Own y) ≤ X (Own y)) (placed : Placed c s sc n) (R : Item → ℕ) (none : NoneFrom n.next (λ i. R i + X i)) (t : ℕ) (typed : is_type c.types t ≡ true) (ch : Choice) (differ : Differ ch.root) (off : Among (register ch.root) (below ch.root) → ⊥) (l : Known) (idle : Idle (below ch.root) l) (within : register ch.root < length l.held) (used : register ch.root < l.next) where
      none_owned : NoneFrom n.next R
      none_owned y low = let z = none y low in omega (arith, z)

      more_kept : (M : ℕ → Item → ℕ) → Kept M X → Kept M (λ i. R i + X i)
      more_kept M h z y = let a = h z y in omega (arith, a)

      unchanged : (b : Bool) (bs : List Binder) (x u : ℕ) → of_binder s (Some x) ≡ Some (Some u) → O.setting (variables w n.next bs) b B x ≡ B x
      unchanged b bs x u h = refused (has (variables w n.next bs) x) b (B x) (not_owned w n.next x bs (placed.before x u h))

      read_same : (taken : Bool) (bs : List Binder) (x u : ℕ) → of_binder s (Some x) ≡ Some (Some u) → reading taken (variables w n.next bs) L K x ≡ K x
      read_same true bs x u h = refl
      read_same false bs x u h = refused (has (variables w n.next bs) x) L (K x) (not_owned w n.next x bs (placed.before x u h))

      moved : (taken b : Bool) (bs : List Binder) (e : ℕ → ℕ) (m : ℕ) → l.next ≤ m → Ties fip c.types s B K (λ i. R i + X i) e l → Ties fip c.types s (O.setting (variables w n.next bs) b B) (reading taken (variables w n.next bs) L K) (λ i. R i + X i) e (record l { next = m })
      moved taken b bs e m more ties =
          ties_within fip c.types s s B (O.setting (variables w n.next bs) b B) K (reading taken (variables w n.next bs) L K) (λ i. R i + X i) e (record l { next = m })
          (ties_reserved fip c.types s B K (λ i. R i + X i) e l m more ties) (λ x u h. h) (λ x u h y. (sym (unchanged b bs x u h) ∙ y, read_same taken bs x u h))

      begun : (taken : Bool) (q : Pattern) (Q : Item → ℕ) (m : ℕ) (after : Known) → IsPattern true wd t q → InOrder n.next (binders q) → ((y : ℕ) → has (variables w n.next (binders q)) y ≡ false → Fits fip (R (Own y)) (Q (Own y))) → ((i : Item) → Fits fip ((R i + X i) + gained taken c.types n.next (binders q) (nodes q) i) (Q i + X i)) → Ties fip c.types (s ++ scope_of (binders q)) (O.setting (variables w n.next (binders q)) (not taken) B) (reading taken (variables w n.next (binders q)) L K) (λ i. (R i + X i) + gained taken c.types n.next (binders q) (nodes q) i) (λ q. 0) after → length after.names ≡ length l.names → length after.held ≡ length l.held → ClauseBegins s sc n taken t q B (reading taken (variables w n.next (binders q)) L K) Q X l (wide after)
      begun taken q Q m after pattern order others fits ties names width =
          let es = bound_is q t pattern in
          let D = O.setting (variables w n.next (binders q)) (not taken) B in
          let M = reading taken (variables w n.next (binders q)) L K in
          record {
            ties = subst (λ es. Ties fip c.types (s ++ es) D M (λ i. Q i + X i) (λ q. 0) (wide after)) (sym es)
                (ties_wide fip c.types (s ++ scope_of (binders q)) D M (λ i. Q i + X i) (λ q. 0) after
                (ties_fits fip c.types (s ++ scope_of (binders q)) D M (λ i. (R i + X i) + gained taken c.types n.next (binders q) (nodes q) i) (λ i. Q i + X i) (λ q. 0) after ties fits));
            placed = subst (λ es. Placed c (s ++ es) (entering w n.next sc (binders q)) (inside w taken n (binders q))) (entries_slots (binders q) ∙ sym es)
                (some_placed c w callees.scalars taken s sc n (binders q) (slots (binders q)) placed order (slots_hold q t typed pattern));
            none = λ y low. (let next = next_inside w taken n (binders q) in
                let a = none y (omega (arith, low, next)) in
                let b = fits_le fip (R (Own y)) (Q (Own y)) (others y (beyond y n.next (binders q) (omega (arith, low, next)))) in
                omega (arith, a, b));
            names = names;
            width = length_map after.held ∙ width;
          }

      -- variables from before are as they were
      pub record FromBefore (taken : Bool) (q : Pattern) : Type 0 where
        pub back : (x u : ℕ) → of_binder s (Some x) ≡ Some (Some u) → of_binder (s ++ bound_by wd (Some t) q) (Some x) ≡ Some (Some u)
        pub borrowed : (x u : ℕ) → of_binder s (Some x) ≡ Some (Some u) → O.setting (variables w n.next (binders q)) (not taken) B x ≡ B x
        pub lends : (x u : ℕ) → of_binder s (Some x) ≡ Some (Some u) → reading taken (variables w n.next (binders q)) L K x ≡ K x

      pub from_before : (taken : Bool) (q : Pattern) → IsPattern true wd t q → InOrder n.next (binders q) → FromBefore taken q
      from_before taken q pattern order = record {
        back = λ x u h. ap (λ es. of_binder (s ++ es) (Some x)) (bound_is q t pattern ∙ sym (entries_slots (binders q))) ∙ (scope_later s n.next (binders q) (slots (binders q)) x order (placed.before x u h) ∙ h);
        borrowed = λ x u h. unchanged (not taken) (binders q) x u h;
        lends = λ x u h. read_same taken (binders q) x u h;
      }

      idle_more : (m : ℕ) → l.next ≤ m → Idle (below ch.root) (record l { next = m })
      idle_more m more z a = let x = idle z a in let low = x.2 in (x.0, x.1, omega (arith, low, more))

      -- what a clause gets beside what is kept
      beside : (a d x q : ℕ) → Fits fip a q → d ≡ a + x → Fits fip d (q + x)
      beside a d x q fits same = fits_sum fip d a x q x (subst (Fits fip d) same (fits_same fip d)) fits (fits_same fip x)

      pub enter_clause : (taken : Bool) (q : Pattern) (Q : Item → ℕ) (m : ℕ) → ch.takes ≡ taken → Stands taken s B K R X L t (register ch.root) l → OpensBy taken (variables w n.next (binders q)) (nodes q) R Q → IsPattern true wd t q → Roomy q ch.root → InOrder n.next (binders q) → n.next + length (binders q) ≤ length l.names → l.next ≤ m → ClauseBegins s sc n taken t q B (reading taken (variables w n.next (binders q)) L K) Q X l (entered st ch q l m)
      enter_clause true q Q m is stands opens pattern roomy order room more =
          let D = O.setting (variables w n.next (binders q)) false B in
          let hold = slots_hold q t typed pattern in
          let x = opened_taken c f st fip D K q t ch.root s (λ i. R i + X i) (record l { next = m }) n.next (slotted_of q t typed pattern) roomy differ off (idle_more m more) within (omega (arith, used, more)) stands.1 stands.2 order room placed.before none
          (unborrowed c w callees.scalars fip K B n.next (binders q) (slots (binders q)) hold) (more_kept K kept) (moved true false (binders q) (λ q. owe c.types t (register ch.root) q + 0) m more stands.0) in
          subst (λ b. ClauseBegins s sc n true t q B K Q X l (wide (E.entering_root st b q ch.root (record l { next = m })))) (sym is)
          (begun true q Q m (E.entering_root st true q ch.root (record l { next = m })) pattern order opens.others
          (λ i. beside ((R i + soles c.types n.next (slots (binders q)) i) + charge (nodes q) i) ((R i + X i) + (soles c.types n.next (slots (binders q)) i + charge (nodes q) i)) (X i) (Q i) (opens_more n.next (binders q) (nodes q) (slots (binders q)) R Q opens none_owned hold i) (omega arith))
          x.ties x.names (entering_root_width st true q ch.root (record l { next = m })))
      enter_clause false q Q m is stands opens pattern roomy order room more =
          let ys = variables w n.next (binders q) in
          let M = reading false ys L K in
          let x = opened_read c f st fip (O.setting ys true B) M q t ch.root s (λ i. R i + X i) L (record l { next = m }) n.next (slotted_of q t typed pattern) roomy differ (idle_more m more) (omega (arith, used, more)) stands.1 order room placed.before none
          (more_kept M (reading_kept false ys L X K kept least)) (λ y. let a = least y in omega (arith, a)) (lent_from K L n.next (binders q) (slots (binders q)) (slots_hold q t typed pattern)) (moved false true (binders q) (λ q. 0) m more stands.0) in
          subst (λ b. ClauseBegins s sc n false t q B M Q X l (wide (E.entering_root st b q ch.root (record l { next = m })))) (sym is)
          (begun false q Q m (E.entering_root st false q ch.root (record l { next = m })) pattern order opens.others
          (λ i. beside (R i) ((R i + X i) + 0) (X i) (Q i) (opens_less n.next (binders q) R Q opens none_owned i) (omega arith))
          x.ties x.names (entering_root_width st false q ch.root (record l { next = m })))
