-- Where a clause was chosen, the registers are as the label at its entry takes them.
use Rattle.std.proofs.Common.{◌≡◌, ◌⊎◌, inl, inr, ℕ, zero, suc, ◌+◌, ◌<◌, ◌≤◌, Bool, true, false, ◌||◌, ◌&&◌, List, [], ◌∷◌, Option, Some, None, refl, sym, ap, ◌∙◌, subst, true≢false, arith, if◌then◌else◌, ◌==◌}
use Rattle.separation.specs.fip_language.Table.{Table}
use Rattle.separation.specs.fip_language.Every.{Among}
use Rattle.separation.specs.cell_code.declared.kind.From.{From}
use Rattle.separation.specs.cell_code.declared.kind.Kind.{Kind}
use Rattle.separation.specs.cell_code.declared.kind.Kind.TheVariants as K
use Rattle.lowering_relation.specs.fip_trees.Tree.{Pattern, BinderPattern, LiteralPattern, ConstructorPattern, Patterns, NoPatterns, MorePatterns, count_patterns}
use Rattle.separation.specs.code_rules.Types.{count, all, numbers, fields, is_scalar_type}
use Rattle.separation.specs.code_rules.Kinds.{has, is_free, is_lent_of}
use Rattle.separation.specs.code_rules.Fitting.{fits, is_subset, takes_from}
use Rattle.separation.proofs.separation_kinds.Basics.{pick, chosen, refused, or_not, equal, itself, unequal_is, equal_is}
use Rattle.lowering_relation.specs.match_knowledge.declared.heads.Head.TheVariants.{Number, Tag}
use Rattle.lowering_relation.specs.match_knowledge.declared.verdicts.Verdict.TheVariants.{Fits}
use Rattle.lowering_relation.specs.match_knowledge.ValueHeads.{same_head}
use Rattle.lowering_relation.specs.match_knowledge.Known.{Known, Open, Is, Knowns, NoKnowns, MoreKnowns, compare, compare_all, is_in}
use Rattle.lowering_relation.specs.Spots.{Spot, At, Spots, NoSpots, MoreSpots, register, below, all_in, Differ, AllDiffer}
use Rattle.lowering_relation.specs.Rows.{row_of, rows_of}
use Rattle.lowering_relation.specs.Reading.{contains}
use Rattle.lowering_relation.specs.Opening.{is_named}
use Rattle.lowering_relation.specs.Entering.{variable_held}
use Rattle.lowering_relation.proofs.MatchLists.{among_either}
use Rattle.lowering_relation.specs.declared.held.Held.{Held}
use Rattle.lowering_relation.specs.declared.held.Held.TheVariants as H
use Rattle.lowering_relation.specs.Known.{without, lent_by}
use Rattle.lowering_relation.specs.Values.{Setting, is_scalar}
use Rattle.lowering_relation.specs.LoweredBodies.{given, given_if}
use Rattle.lowering_relation.specs.Describing.{kind_of}
use Rattle.lowering_relation.specs.Sights.{kept, left, part_kind, AllBelow}
use Rattle.lowering_relation.specs.Matches.{widened, BuiltRight}
use Rattle.lowering_soundness.proofs.Standing.{Slotted, AllSlotted}
use Rattle.lowering_soundness.proofs.Giving.{and_to}
use Rattle.lowering_soundness.proofs.Fitting.{has_more, root_self, fits_self}
use Rattle.lowering_soundness.proofs.Positions.{OnePart}
use Rattle.lowering_soundness.proofs.Peeking.{apart_head}
use Rattle.lowering_soundness.proofs.NamedReads.{NamedRead, AllNamedRead, if_fits, open_fits, both_fits}
use Rattle.lowering_soundness.proofs.Heirs.{owned_kind}
use Rattle.lowering_soundness.proofs.Dismantling.{After, AllAfter}
use Rattle.lowering_soundness.proofs.EntryHeld.{entry_held, entry_all, entry_other, entry_all_other}
use Rattle.lowering_soundness.proofs.Parted.{is_has}

-- ---- sets

kept_subset : (p : ℕ → Bool) (xs ys : List ℕ) → ((x : ℕ) → Among x xs → has ys x ≡ true) → is_subset (kept p xs) ys ≡ true
kept_subset p [] ys h = refl
kept_subset p (x ∷ xs) ys h = pick (λ zs. is_subset zs ys ≡ true) (p x) (x ∷ kept p xs) (kept p xs)
    (λ e. and_to (has ys x) (is_subset (kept p xs) ys) (h x (inl refl)) (kept_subset p xs ys (λ y a. h y (inr a))))
    (λ e. kept_subset p xs ys (λ y a. h y (inr a)))

pub left_subset : (w : Table) (t : ℕ) (k : Known) → is_subset (left w t k) (all w t) ≡ true
left_subset w t (Open out) = kept_subset (Rattle.lowering_relation.specs.Sights.not_in out) (all w t) (all w t) (λ x a. is_has (all w t) x a)
left_subset w t (Is h ks) = kept_subset (Rattle.lowering_relation.specs.Sights.is_tag h) (all w t) (all w t) (λ x a. is_has (all w t) x a)

pub lent_fits_all : (w : Table) (t : ℕ) (k : Known) (root : Option ℕ) (from : Option From) → fits (K.Lent t (all w t) root None) (K.Lent t (left w t k) root from) ≡ true
lent_fits_all w t k root from =
    and_to (t == t) (is_subset (left w t k) (all w t) && (Rattle.separation.specs.code_rules.Kinds.same_root root root && takes_from None from)) (itself t)
    (and_to (is_subset (left w t k) (all w t)) (Rattle.separation.specs.code_rules.Kinds.same_root root root && takes_from None from) (left_subset w t k)
    (and_to (Rattle.separation.specs.code_rules.Kinds.same_root root root) (takes_from None from) (root_self root) refl))

pub owned_fits_all : (w : Table) (t : ℕ) (k : Known) → fits (K.Owned t (all w t)) (K.Owned t (left w t k)) ≡ true
owned_fits_all w t k = and_to (t == t) (is_subset (left w t k) (all w t)) (itself t) (left_subset w t k)

-- ---- what was built is forgotten

numbers_has : (i n x : ℕ) → i ≤ x → x < i + n → has (numbers i n) x ≡ true
numbers_has i zero x low high = absurd (omega (arith, low, high))
numbers_has i (suc n) x low high = elim (or_not (i == x)) as (λ v. has (numbers i (suc n)) x ≡ true) [
  | inl e ↦ ap (λ b. b || has (numbers (suc i) n) x) e
  | inr e ↦ has_more i (numbers (suc i) n) x (numbers_has (suc i) n x (let z = Rattle.separation.proofs.separation_kinds.Basics.unequal i x e in omega (arith, z, low)) (omega (arith, high)))
]

pub wide_fits : (w : Table) (h : Held) → BuiltRight w h → fits (kind_of w (widened h)) (kind_of w h) ≡ true
wide_fits w H.Nothing b = refl
wide_fits w (H.Scalar t) b = fits_self (K.Scalar t)
wide_fits w (H.Owned t None) b = fits_self (K.Owned t (all w t))
wide_fits w (H.Owned t (Some d)) b =
    let low = b.there t d refl in
    and_to (t == t) (is_subset (d ∷ []) (all w t)) (itself t) (and_to (has (all w t) d) true (numbers_has 0 (count w t) d (omega arith) (omega (arith, low))) refl)
wide_fits w (H.Lent t root) b = fits_self (K.Lent t (all w t) root None)
wide_fits w (H.Credit n) b = fits_self (K.Credit n)
wide_fits w (H.Bare t c) b = fits_self (K.Owned t (c ∷ []))

-- a tree that lay elsewhere is still there
pub without_fits : (w : Table) (r : ℕ) (h : Held) → BuiltRight w h → is_lent_of r (kind_of w h) ≡ false → fits (kind_of w (without r (widened h))) (kind_of w h) ≡ true
without_fits w r H.Nothing b e = refl
without_fits w r (H.Scalar t) b e = fits_self (K.Scalar t)
without_fits w r (H.Owned t o) b e = wide_fits w (H.Owned t o) b
without_fits w r (H.Lent t None) b e = fits_self (K.Lent t (all w t) None None)
without_fits w r (H.Lent t (Some q)) b e = ap (λ h. fits (kind_of w h) (K.Lent t (all w t) (Some q) None)) (refused (q == r) H.Nothing (H.Lent t (Some q)) e) ∙ fits_self (K.Lent t (all w t) (Some q) None)
without_fits w r (H.Credit n) b e = fits_self (K.Credit n)
without_fits w r (H.Bare t c) b e = fits_self (K.Owned t (c ∷ []))

-- what was borrowed from the scrutinee's tree isn't any more
pub without_gone : (w : Table) (r : ℕ) (h : Held) → is_lent_of r (kind_of w h) ≡ true → without r (widened h) ≡ H.Nothing
without_gone w r H.Nothing e = absurd (true≢false (sym e))
without_gone w r (H.Scalar t) e = absurd (true≢false (sym e))
without_gone w r (H.Owned t o) e = absurd (true≢false (sym e))
without_gone w r (H.Lent t None) e = absurd (true≢false (sym e))
without_gone w r (H.Lent t (Some q)) e = chosen (q == r) H.Nothing (H.Lent t (Some q)) e
without_gone w r (H.Credit n) e = absurd (true≢false (sym e))
without_gone w r (H.Bare t c) e = absurd (true≢false (sym e))

lent_wide : (r t : ℕ) (o root : Option ℕ) → widened (lent_by r o (H.Lent t root)) ≡ lent_by r o (H.Lent t root)
lent_wide r t None root = refl
lent_wide r t (Some q) root = pick (λ h. widened h ≡ h) (q == r) H.Nothing (H.Lent t root) (λ e. refl) (λ e. refl)

pub without_wide : (r : ℕ) (h : Held) → widened (without r h) ≡ without r (widened h)
without_wide r H.Nothing = refl
without_wide r (H.Scalar t) = refl
without_wide r (H.Owned t o) = refl
without_wide r (H.Lent t root) = lent_wide r t root root
without_wide r (H.Credit n) = refl
without_wide r (H.Bare t c) = refl

-- ---- types in a pattern's slots

-- the variables of a pattern have the types of their positions, and lowering knows which are scalar
-- ---- positions whose cells were taken apart

gone_fits : (k : Kind) → is_free k ≡ true → fits K.Gone k ≡ true
gone_fits k e = e

owned_fits : (st : Setting) (w : Table) (t u : ℕ) (k : Known) (own : Kind) (root : Option ℕ) → u ≡ t → is_scalar st t ≡ is_scalar_type w t → own ≡ owned_kind w t k → fits (kind_of w (widened (variable_held st true root u))) own ≡ true
owned_fits st w t u k own root e sc is =
    ap (λ u. fits (kind_of w (widened (given st u))) own) e ∙ (ap (λ b. fits (kind_of w (widened (given_if b t))) own) sc ∙ (ap (fits (kind_of w (widened (given_if (is_scalar_type w t) t)))) is ∙ by (is_scalar_type w t)))
  where
    by : (b : Bool) → fits (kind_of w (widened (given_if b t))) (if b then K.Scalar t else K.Owned t (left w t k)) ≡ true
    by true = fits_self (K.Scalar t)
    by false = owned_fits_all w t k

bare_fits : (st : Setting) (w : Table) (t u n : ℕ) (own : Kind) → u ≡ t → is_scalar st t ≡ is_scalar_type w t → own ≡ (if is_scalar_type w t then K.Scalar t else K.Owned t (n ∷ [])) → fits (kind_of w (widened (if is_scalar st u then H.Nothing else H.Bare u n))) own ≡ true
bare_fits st w t u n own e sc is =
    ap (λ u. fits (kind_of w (widened (if is_scalar st u then H.Nothing else H.Bare u n))) own) e ∙ (ap (λ b. fits (kind_of w (widened (if b then H.Nothing else H.Bare t n))) own) sc ∙ (ap (fits (kind_of w (widened (if is_scalar_type w t then H.Nothing else H.Bare t n)))) is ∙ by (is_scalar_type w t)))
  where
    by : (b : Bool) → fits (kind_of w (widened (if b then H.Nothing else H.Bare t n))) (if b then K.Scalar t else K.Owned t (n ∷ [])) ≡ true
    by true = refl
    by false = fits_self (K.Owned t (n ∷ []))

-- one register of some
in_self : (s : Spot) (ss : Spots) (z : ℕ) → Among z (all_in (MoreSpots s ss)) → Among z (register s ∷ below s) ⊎ Among z (all_in ss)
in_self s ss z (inl e) = inl (inl e)
in_self s ss z (inr m) = elim (among_either z (below s) (all_in ss) m) as (λ v. Among z (register s ∷ below s) ⊎ Among z (all_in ss)) [
  | inl a ↦ inl (inr a)
  | inr a ↦ inr a
]

other_of : (st : Setting) (takes : Bool) (root : Option ℕ) (p : Pattern) (s : Spot) (ss : Spots) (z : ℕ) → AllDiffer (MoreSpots s ss) → Among z (all_in ss) → entry_held st takes root p s z H.Nothing ≡ H.Nothing
other_of st takes root p s ss z differ a = entry_other st takes root p s z H.Nothing (λ y. apart_head s ss z differ a y)

mutual
  pub taken_fits : (st : Setting) (w : Table) (root : Option ℕ) (q : Pattern) (t : ℕ) (s : Spot) (l : ℕ → Kind) (z : ℕ) → Slotted st w t q → Differ s → (Among (register s) (below s) → ⊥) → After w q t s l → Among z (register s ∷ below s) → fits (kind_of w (widened (entry_held st true root q s z H.Nothing))) (l z) ≡ true
  taken_fits st w root (BinderPattern b) t (At r fs) l z slots differ off after (inl e) =
      ap (λ h. fits (kind_of w (widened h)) (l z)) (chosen (z == r) (variable_held st true root b.ty) H.Nothing (equal_is z r e))
      ∙ owned_fits st w t b.ty after.0.0 (l z) root slots.0 slots.1 (ap l e ∙ after.0.1)
  taken_fits st w root (BinderPattern b) t (At r fs) l z slots differ off after (inr m) =
      ap (λ h. fits (kind_of w (widened h)) (l z)) (refused (z == r) (variable_held st true root b.ty) H.Nothing (unequal_is z r (λ e. off (subst (λ y. Among y (all_in fs)) e m)))) ∙ after.1 z m
  taken_fits st w root (LiteralPattern i p) t (At r fs) l z slots differ off after m = after z m
  taken_fits st w root (ConstructorPattern u d n a p NoPatterns) t (At r fs) l z slots differ off after (inl e) =
      ap (λ h. fits (kind_of w (widened (if is_scalar st u then H.Nothing else h))) (l z)) (chosen (z == r) (H.Bare u n) H.Nothing (equal_is z r e))
      ∙ bare_fits st w t u n (l z) slots.0 slots.1 (ap l e ∙ after.0)
  taken_fits st w root (ConstructorPattern u d n a p NoPatterns) t (At r fs) l z slots differ off after (inr m) =
      ap (λ h. fits (kind_of w (widened (if is_scalar st u then H.Nothing else h))) (l z)) (refused (z == r) (H.Bare u n) H.Nothing (unequal_is z r (λ e. off (subst (λ y. Among y (all_in fs)) e m))))
      ∙ (ap (λ h. fits (kind_of w (widened h)) (l z)) (same (is_scalar st u)) ∙ after.1 z m)
    where
      same : (b : Bool) → (if b then H.Nothing else H.Nothing) ≡ H.Nothing
      same true = refl
      same false = refl
  taken_fits st w root (ConstructorPattern u d n a p (MorePatterns q qs)) t (At r fs) l z slots differ off after (inl e) =
      ap (λ h. fits (kind_of w (widened h)) (l z)) (entry_all_other st true root (MorePatterns q qs) fs z (if z == r then H.Credit (suc (count_patterns qs)) else H.Nothing) (λ m. off (subst (λ y. Among y (all_in fs)) e m)) ∙ chosen (z == r) (H.Credit (suc (count_patterns qs))) H.Nothing (equal_is z r e))
      ∙ (ap (fits (K.Credit (suc (count_patterns qs)))) (ap l e ∙ after.0) ∙ fits_self (K.Credit (suc (count_patterns qs))))
  taken_fits st w root (ConstructorPattern u d n a p (MorePatterns q qs)) t (At r fs) l z slots differ off after (inr m) =
      ap (λ h. fits (kind_of w (widened (entry_all st true root (MorePatterns q qs) fs z h))) (l z)) (refused (z == r) (H.Credit (suc (count_patterns qs))) H.Nothing (unequal_is z r (λ e. off (subst (λ y. Among y (all_in fs)) e m))))
      ∙ all_taken_fits st w root (MorePatterns q qs) (fields w t n) fs l z slots.2 differ after.1 m

  pub all_taken_fits : (st : Setting) (w : Table) (root : Option ℕ) (ps : Patterns) (ts : List ℕ) (ss : Spots) (l : ℕ → Kind) (z : ℕ) → AllSlotted st w ts ps → AllDiffer ss → AllAfter w ps ts ss l → Among z (all_in ss) → fits (kind_of w (widened (entry_all st true root ps ss z H.Nothing))) (l z) ≡ true
  all_taken_fits st w root NoPatterns ts ss l z slots differ after m = after z m
  all_taken_fits st w root (MorePatterns p ps) ts NoSpots l z slots differ after m = absurd after
  all_taken_fits st w root (MorePatterns p ps) [] (MoreSpots s ss) l z slots differ after m = absurd after
  all_taken_fits st w root (MorePatterns p ps) (t ∷ ts) (MoreSpots s ss) l z slots differ after m = elim (in_self s ss z m) as (λ v. fits (kind_of w (widened (entry_all st true root (MorePatterns p ps) (MoreSpots s ss) z H.Nothing))) (l z) ≡ true) [
    | inl a ↦ ap (λ h. fits (kind_of w (widened h)) (l z)) (entry_all_other st true root ps ss z (entry_held st true root p s z H.Nothing) (λ b. apart_head s ss z differ b a))
        ∙ taken_fits st w root p t s l z slots.0 differ.3 differ.0 after.0 a
    | inr a ↦ ap (λ h. fits (kind_of w (widened (entry_all st true root ps ss z h))) (l z)) (other_of st true root p s ss z differ a)
        ∙ all_taken_fits st w root ps ts ss l z slots.1 differ.4 after.1 a
  ]

-- ---- positions that are only read

-- the variable of a position that was read
named_fits : (st : Setting) (w : Table) (t u : ℕ) (k : Known) (root : Option ℕ) (x i : ℕ) (own : Kind) → u ≡ t → is_scalar st t ≡ is_scalar_type w t → own ≡ part_kind w root t k x i → fits (kind_of w (widened (variable_held st false root u))) own ≡ true
named_fits st w t u k root x i own e sc is =
    ap (λ u. fits (kind_of w (widened (if is_scalar st u then given st u else H.Lent u root))) own) e
    ∙ (ap (λ b. fits (kind_of w (widened (if b then given_if b t else H.Lent t root))) own) sc
    ∙ (ap (fits (kind_of w (widened (if is_scalar_type w t then given_if (is_scalar_type w t) t else H.Lent t root)))) is ∙ by (is_scalar_type w t)))
  where
    by : (b : Bool) → fits (kind_of w (widened (if b then given_if b t else H.Lent t root))) (if b then K.Scalar t else K.Lent t (left w t k) root (Some (record { register = x; field = i }))) ≡ true
    by true = fits_self (K.Scalar t)
    by false = lent_fits_all w t k root (Some (record { register = x; field = i }))

mutual
  pub read_fits : (st : Setting) (w : Table) (root : Option ℕ) (q : Pattern) (t : ℕ) (k : Known) (s : Spot) (x i : ℕ) (read : List ℕ) (l : ℕ → Kind) (z : ℕ) → Slotted st w t q → compare (row_of q) k ≡ Fits → Differ s → (Among (register s) (below s) → ⊥) → OnePart w root t k s x i read l → NamedRead q s read → is_free (l z) ≡ true → Among z (register s ∷ below s) → fits (kind_of w (widened (entry_held st false root q s z H.Nothing))) (l z) ≡ true
  read_fits st w root (BinderPattern b) t k (At r fs) x i read l z slots fit differ off part named free m = by (is_named b) refl m
    where
      by : (y : Bool) → is_named b ≡ y → Among z (r ∷ all_in fs) → fits (kind_of w (widened (if y then (if z == r then variable_held st false root b.ty else H.Nothing) else H.Nothing))) (l z) ≡ true
      by false e m = free
      by true e (inr a) = ap (λ h. fits (kind_of w (widened h)) (l z)) (refused (z == r) (variable_held st false root b.ty) H.Nothing (unequal_is z r (λ e. off (subst (λ y. Among y (all_in fs)) e a)))) ∙ free
      by true e (inl same) =
          ap (λ h. fits (kind_of w (widened h)) (l z)) (chosen (z == r) (variable_held st false root b.ty) H.Nothing (equal_is z r same))
          ∙ named_fits st w t b.ty k root x i (l z) slots.0 slots.1 (ap l same ∙ seen part (named e))
        where
          seen : OnePart w root t k (At r fs) x i read l → contains r read ≡ true → l r ≡ part_kind w root t k x i
          seen (inl h) c = h.1
          seen (inr h) c = absurd (true≢false (sym c ∙ h.0))
  read_fits st w root (LiteralPattern j p) t k (At r fs) x i read l z slots fit differ off part named free m = free
  read_fits st w root (ConstructorPattern u d n a p ps) t (Open out) (At r fs) x i read l z slots fit differ off part named free m = absurd (open_fits (is_in (Tag n) out) fit)
  read_fits st w root (ConstructorPattern u d n a p ps) t (Is (Number j) ks) (At r fs) x i read l z slots fit differ off part named free m = absurd (true≢false (sym (if_fits (same_head (Tag n) (Number j)) (compare_all (rows_of ps) ks) fit).0))
  read_fits st w root (ConstructorPattern u d n a p ps) t (Is (Tag e) ks) (At r fs) x i read l z slots fit differ off part named free (inl same) =
      ap (λ h. fits (kind_of w (widened h)) (l z)) (entry_all_other st false root ps fs z H.Nothing (λ m. off (subst (λ y. Among y (all_in fs)) same m))) ∙ free
  read_fits st w root (ConstructorPattern u d n a p ps) t (Is (Tag e) ks) (At r fs) x i read l z slots fit differ off (inl h) named free (inr m) =
      let both = if_fits (n == e) (compare_all (rows_of ps) ks) fit in
      all_read_fits st w root ps (fields w t n) ks fs r 0 read l z slots.2 both.1 differ (subst (λ e. AllBelow w root (fields w t e) ks fs r 0 read l) (sym (equal n e both.0)) h.2) named free m
  read_fits st w root (ConstructorPattern u d n a p ps) t (Is (Tag e) ks) (At r fs) x i read l z slots fit differ off (inr h) named free (inr m) =
      let both = if_fits (n == e) (compare_all (rows_of ps) ks) fit in
      all_read_fits st w root ps (fields w t n) ks fs r 0 read l z slots.2 both.1 differ (subst (λ e. AllBelow w root (fields w t e) ks fs r 0 read l) (sym (equal n e both.0)) (Rattle.lowering_soundness.proofs.Positions.fresh_below w root t (Is (Tag e) ks) (At r fs) read l h.3 h.2)) named free m

  pub all_read_fits : (st : Setting) (w : Table) (root : Option ℕ) (ps : Patterns) (ts : List ℕ) (ks : Knowns) (ss : Spots) (x i : ℕ) (read : List ℕ) (l : ℕ → Kind) (z : ℕ) → AllSlotted st w ts ps → compare_all (rows_of ps) ks ≡ Fits → AllDiffer ss → AllBelow w root ts ks ss x i read l → AllNamedRead ps ss read → is_free (l z) ≡ true → Among z (all_in ss) → fits (kind_of w (widened (entry_all st false root ps ss z H.Nothing))) (l z) ≡ true
  all_read_fits st w root NoPatterns ts ks ss x i read l z slots fit differ parts named free m = free
  all_read_fits st w root (MorePatterns p ps) ts ks NoSpots x i read l z slots fit differ parts named free m = absurd m
  all_read_fits st w root (MorePatterns p ps) [] ks (MoreSpots s ss) x i read l z slots fit differ parts named free m = absurd slots
  all_read_fits st w root (MorePatterns p ps) (t ∷ ts) NoKnowns (MoreSpots s ss) x i read l z slots fit differ parts named free m = absurd parts
  all_read_fits st w root (MorePatterns p ps) (t ∷ ts) (MoreKnowns k ks) (MoreSpots s ss) x i read l z slots fit differ parts named free m =
      let both = both_fits (compare (row_of p) k) (compare_all (rows_of ps) ks) fit in
      elim (in_self s ss z m) as (λ v. fits (kind_of w (widened (entry_all st false root (MorePatterns p ps) (MoreSpots s ss) z H.Nothing))) (l z) ≡ true) [
        | inl a ↦ ap (λ h. fits (kind_of w (widened h)) (l z)) (entry_all_other st false root ps ss z (entry_held st false root p s z H.Nothing) (λ b. apart_head s ss z differ b a))
            ∙ read_fits st w root p t k s x i read l z slots.0 both.0 differ.3 differ.0 parts.0 named.0 free a
        | inr a ↦ ap (λ h. fits (kind_of w (widened (entry_all st false root ps ss z h))) (l z)) (other_of st false root p s ss z differ a)
            ∙ all_read_fits st w root ps ts ks ss x (suc i) read l z slots.1 both.1 differ.4 parts.1 named.1 free a
      ]
