-- A clause was chosen: its cells are taken apart, or what it names is read, and its label takes what is reported there.
use Rattle.std.proofs.Common.{◌≡◌, ◌⊎◌, inl, inr, ℕ, ◌<◌, ◌≤◌, Bool, true, false, List, ◌∷◌, slice_get, length, Option, Some, None, refl, sym, ap, ◌∙◌, subst, true≢false, if◌then◌else◌, ◌==◌}
use Rattle.separation.specs.fip_language.Table.{Table}
use Rattle.separation.specs.fip_language.Every.{Among}
use Rattle.separation.specs.cell_code.declared.kind.From.{From}
use Rattle.separation.specs.cell_code.declared.kind.Kind.{Kind}
use Rattle.separation.specs.cell_code.declared.kind.Kind.TheVariants as K
use Rattle.lowering_relation.specs.fip_trees.Tree.{Pattern, BinderPattern, LiteralPattern, ConstructorPattern, Patterns}
use Rattle.separation.specs.cell_code.Plain.{PlainFunction, PlainCode}
use Rattle.separation.specs.code_rules.Types.{is_scalar_type, fields}
use Rattle.separation.specs.code_rules.Kinds.{has, is_free, is_lent_of, from_of}
use Rattle.separation.specs.code_rules.Fitting.{fits}
use Rattle.separation.proofs.separation_kinds.Basics.{chosen, refused, or_not, equal, unequal, unequal_is}
use Rattle.lowering_relation.specs.match_knowledge.declared.heads.Head.TheVariants.{Number, Tag}
use Rattle.lowering_relation.specs.match_knowledge.declared.verdicts.Verdict.TheVariants.{Fits}
use Rattle.lowering_relation.specs.match_knowledge.ValueHeads.{same_head}
use Rattle.lowering_relation.specs.match_knowledge.Known as M
use Rattle.lowering_relation.specs.match_knowledge.Known.{Open, Is, compare, compare_all, is_in}
use Rattle.lowering_relation.specs.match_knowledge.Patterns.{IsPattern}
use Rattle.lowering_relation.specs.Spots.{Spot, At, register, below, Differ}
use Rattle.lowering_relation.specs.Rows.{row_of, rows_of}
use Rattle.lowering_relation.specs.Entering.{entering_root, root_of}
use Rattle.lowering_relation.specs.declared.held.Held.{Held}
use Rattle.lowering_relation.specs.declared.held.Held.TheVariants as H
use Rattle.lowering_relation.specs.Known.{Known, without}
use Rattle.lowering_relation.specs.Values.{Setting}
use Rattle.lowering_relation.specs.Describing.{Holding, held_at, kind_of, is_tree}
use Rattle.lowering_soundness.specs.Covering.{using}
use Rattle.lowering_relation.specs.Labels.{reported, Quiet}
use Rattle.lowering_relation.specs.Sights.{left, Below, AllBelow, seen_kind, Sight}
use Rattle.lowering_relation.specs.Tests.{Choice, SettledLaid, TakesLaid, NamesLaid}
use Rattle.lowering_relation.specs.Matches.{widened, entered, BuiltRight}
use Rattle.lowering_soundness.proofs.Fitting.{fits_self}
use Rattle.lowering_soundness.proofs.Balance.{using_self, using_nothing}
use Rattle.lowering_soundness.proofs.Branches.{Came, came_none, came_on, came_quiet}
use Rattle.lowering_soundness.proofs.Peeking.{OwnKind}
use Rattle.lowering_soundness.proofs.NamedReads.{NamedRead, names, if_fits, open_fits}
use Rattle.lowering_soundness.proofs.Heirs.{has_among, not_among, owned_kind, Outside}
use Rattle.lowering_soundness.proofs.Parted.{below_free}
use Rattle.lowering_soundness.proofs.Dismantling.{After, Took, takes}
use Rattle.lowering_soundness.proofs.Choosing.{seen_own, Right, right_off, Looks, Ran}
use Rattle.lowering_soundness.proofs.EntryHeld.{entry_held, entry_other, entry_all_other, held_wide, root_held, entering_root_at}
use Rattle.lowering_soundness.proofs.EntryFits.{wide_fits, without_fits, without_gone, without_wide, lent_fits_all, owned_fits_all, taken_fits, all_read_fits}
use Rattle.lowering_soundness.proofs.Standing.{Slotted, Seeing, SeesScalar, SeesLent, SeesOwned}
use Rattle.lowering_soundness.proofs.Cleared.{wide_tree as tree_wide}

-- ---- registers before the match

pub record Based (c : PlainCode) (st : Setting) (ch : Choice) (k : Known) (g : Holding) : Type 0 where
  pub wide : (r : ℕ) → widened (held_at k.held r) ≡ widened (g r)
  pub built : (r : ℕ) → BuiltRight c.types (g r)
  pub takes : ch.takes ≡ true → is_tree (g (register ch.root)) ≡ true
  pub slots : (i : ℕ) (q : Pattern) → slice_get ch.patterns i ≡ Some q → Slotted st c.types ch.type q
  pub within : (z : ℕ) → Among z (register ch.root ∷ below ch.root) → z < length k.held

pub no_from : (w : Table) (h : Held) → from_of (kind_of w h) ≡ None
no_from w H.Nothing = refl
no_from w (H.Scalar t) = refl
no_from w (H.Owned t b) = refl
no_from w (H.Lent t root) = refl
no_from w (H.Credit n) = refl
no_from w (H.Bare t c) = refl

wide_nothing : (h : Held) → widened h ≡ H.Nothing → h ≡ H.Nothing
wide_nothing H.Nothing e = refl
wide_nothing (H.Scalar t) e = absurd (cc)
wide_nothing (H.Owned t b) e = absurd (cc)
wide_nothing (H.Lent t root) e = absurd (cc)
wide_nothing (H.Credit n) e = absurd (cc)
wide_nothing (H.Bare t c) e = absurd (cc)

root_wide : (r : ℕ) (h : Held) → root_of r (widened h) ≡ root_of r h
root_wide r H.Nothing = refl
root_wide r (H.Scalar t) = refl
root_wide r (H.Owned t b) = refl
root_wide r (H.Lent t root) = refl
root_wide r (H.Credit n) = refl
root_wide r (H.Bare t c) = refl

seen_fits : (w : Table) (t : ℕ) (h : Held) (k : M.Known) → Seeing w t h → fits (kind_of w (widened h)) (seen_kind w t h k) ≡ true
seen_fits w t h k (SeesScalar e s) = ap (λ h. fits (kind_of w (widened h)) (seen_kind w t h k)) e ∙ fits_self (K.Scalar t)
seen_fits w t h k (SeesLent root e s) = ap (λ h. fits (kind_of w (widened h)) (seen_kind w t h k)) e ∙ lent_fits_all w t k root None
seen_fits w t h k (SeesOwned e s) = ap (λ h. fits (kind_of w (widened h)) (seen_kind w t h k)) e ∙ owned_fits_all w t k

seen_owned : (w : Table) (t : ℕ) (h : Held) (k : M.Known) → Seeing w t h → is_tree h ≡ true → (seen_kind w t h k ≡ owned_kind w t k) × ((r : ℕ) → root_of r h ≡ Some r)
seen_owned w t h k (SeesScalar e s) tree = absurd (true≢false (sym tree ∙ ap is_tree e))
seen_owned w t h k (SeesLent root e s) tree = absurd (true≢false (sym tree ∙ ap is_tree e))
seen_owned w t h k (SeesOwned e s) tree = (ap (λ h. seen_kind w t h k) e ∙ sym (refused (is_scalar_type w t) (K.Scalar t) (K.Owned t (left w t k)) s), (λ r. ap (root_of r) e))

module _ (c : PlainCode) (f : PlainFunction) (st : Setting) (g : Holding) (ch : Choice) (right : Right c f g ch) (k : Known) (based : Based c st ch k g) where
  abbrev Reg : ℕ
  Reg = register ch.root

  abbrev g0 : Holding
  g0 = held_at k.held

  -- what the entry of a clause reports
  pub reported_entry : (q : Pattern) (n z : ℕ) → reported c (entered st ch q k n) z ≡ kind_of c.types (widened (root_held st ch.takes (root_of (register ch.root) (held_at k.held (register ch.root))) q ch.root (held_at k.held) z))
  reported_entry q n z =
      ap (kind_of c.types) (held_wide (entering_root st ch.takes q ch.root (record k { next = n })).held z
      ∙ ap widened (entering_root_at st ch.takes q ch.root (record k { next = n }) z based.within))

  fresh_nothing : (z : ℕ) → Among z (below ch.root) → held_at k.held z ≡ H.Nothing
  fresh_nothing z a = wide_nothing (held_at k.held z) (based.wide z ∙ ap widened (right.fresh z a).0)

  same_root' : root_of (register ch.root) (held_at k.held (register ch.root)) ≡ root_of (register ch.root) (g (register ch.root))
  same_root' = sym (root_wide (register ch.root) (held_at k.held (register ch.root))) ∙ (ap (root_of (register ch.root)) (based.wide (register ch.root)) ∙ root_wide (register ch.root) (g (register ch.root)))

  abbrev Fit : Pattern → (ℕ → Kind) → Type 0
  Fit q l = (z : ℕ) → fits (kind_of c.types (widened (root_held st ch.takes (root_of (register ch.root) (held_at k.held (register ch.root))) q ch.root (held_at k.held) z))) (l z) ≡ true

  -- by where a register is
  where_is : (z : ℕ) → (z ≡ register ch.root) ⊎ (Among z (below ch.root) ⊎ ((z ≡ register ch.root → ⊥) × (Among z (below ch.root) → ⊥)))
  where_is z = elim (or_not (z == register ch.root)) as (λ v. (z ≡ register ch.root) ⊎ (Among z (below ch.root) ⊎ ((z ≡ register ch.root → ⊥) × (Among z (below ch.root) → ⊥)))) [
    | inl e ↦ inl (equal z (register ch.root) e)
    | inr e ↦ elim (or_not (has (below ch.root) z)) as (λ v. (z ≡ register ch.root) ⊎ (Among z (below ch.root) ⊎ ((z ≡ register ch.root → ⊥) × (Among z (below ch.root) → ⊥)))) [
      | inl a ↦ inr (inl (has_among (below ch.root) z a))
      | inr a ↦ inr (inr (unequal z (register ch.root) e, not_among (below ch.root) z a))
    ]
  ]

  -- what the match leaves as it is
  plain_fits : (κ : M.Known) (read : List ℕ) (m : ℕ → Kind) → Sight c.types g ch.type ch.root κ read m → (z : ℕ) → fits (kind_of c.types (widened (held_at k.held z))) (m z) ≡ true
  plain_fits κ read m sight z = ap (λ h. fits (kind_of c.types h) (m z)) (based.wide z) ∙ by (where_is z)
    where
      by : (z ≡ register ch.root) ⊎ (Among z (below ch.root) ⊎ ((z ≡ register ch.root → ⊥) × (Among z (below ch.root) → ⊥))) → fits (kind_of c.types (widened (g z))) (m z) ≡ true
      by (inl e) = ap (λ y. fits (kind_of c.types (widened (g y))) (m y)) e ∙ (ap (fits (kind_of c.types (widened (g (register ch.root))))) sight.root ∙ seen_fits c.types ch.type (g (register ch.root)) κ right.seeing)
      by (inr (inl a)) = ap (λ h. fits (kind_of c.types (widened h)) (m z)) (right.fresh z a).0 ∙ below_free c.types (root_of (register ch.root) (g (register ch.root))) ch.type κ ch.root read m z sight.parts a
      by (inr (inr ne)) = ap (fits (kind_of c.types (widened (g z)))) (sight.others z ne.0 ne.1) ∙ wide_fits c.types (g z) (based.built z)

  -- ---- cells that are taken apart

  outside : (κ : M.Known) (read : List ℕ) (m : ℕ → Kind) → Sight c.types g ch.type ch.root κ read m → Outside (register ch.root) (below ch.root) m
  outside κ read m sight q ne = record {
    roots = λ z a. ap (is_lent_of z) same ∙ none (g q) refl z a;
    froms = λ x e. absurd (no x (sym (ap from_of same ∙ no_from c.types (g q)) ∙ e));
  }
    where
      same : m q ≡ kind_of c.types (g q)
      same = sight.others q (λ e. ne (inl e)) (λ a. ne (inr a))

      no : (x : From) → None ≡ Some x → ⊥
      no x e = absurd (cc)

      none : (h : Held) → g q ≡ h → (z : ℕ) → Among z (below ch.root) → is_lent_of z (kind_of c.types h) ≡ false
      none H.Nothing e z a = refl
      none (H.Scalar t) e z a = refl
      none (H.Owned t b) e z a = refl
      none (H.Lent t None) e z a = refl
      none (H.Lent t (Some p)) e z a = unequal_is p z (λ y. true≢false (sym (right.rooted q t p e) ∙ (ap (λ x. is_tree (g x)) y ∙ ap is_tree (right.fresh z a).0)))
      none (H.Credit n) e z a = refl
      none (H.Bare t d) e z a = refl

  -- a register outside that was the tree's
  used_other : (z : ℕ) → is_tree (held_at k.held (register ch.root)) ≡ true → (z ≡ register ch.root → ⊥) → widened (using (held_at k.held) (register ch.root) z) ≡ without (register ch.root) (widened (g z))
  used_other z tree ne =
      ap widened (chosen (is_tree (held_at k.held (register ch.root))) (if z == register ch.root then H.Nothing else without (register ch.root) (held_at k.held z)) (held_at k.held z) tree ∙ refused (z == register ch.root) H.Nothing (without (register ch.root) (held_at k.held z)) (unequal_is z (register ch.root) ne))
      ∙ (without_wide (register ch.root) (held_at k.held z) ∙ ap (without (register ch.root)) (based.wide z))

  root_tree : ch.takes ≡ true → is_tree (held_at k.held (register ch.root)) ≡ true
  root_tree e = sym (tree_wide (held_at k.held (register ch.root))) ∙ (ap is_tree (based.wide (register ch.root)) ∙ (tree_wide (g (register ch.root)) ∙ based.takes e))

  taking_fits : (q : Pattern) (κ : M.Known) (read : List ℕ) (at end : ℕ) (m : ℕ → Kind) → Sight c.types g ch.type ch.root κ read m → is_tree (held_at k.held (register ch.root)) ≡ true → Slotted st c.types ch.type q → (t : Took c f (register ch.root ∷ below ch.root) (register ch.root) (After c.types q ch.type ch.root) at m end) → (root : Option ℕ) (z : ℕ) → fits (kind_of c.types (widened (entry_held st true root q ch.root z (using (held_at k.held) (register ch.root) z)))) (t.following z) ≡ true
  taking_fits q κ read at end m sight tree slots t root z = by (where_is z)
    where
      by : (z ≡ register ch.root) ⊎ (Among z (below ch.root) ⊎ ((z ≡ register ch.root → ⊥) × (Among z (below ch.root) → ⊥))) → fits (kind_of c.types (widened (entry_held st true root q ch.root z (using (held_at k.held) (register ch.root) z)))) (t.following z) ≡ true
      by (inl e) =
          ap (λ h. fits (kind_of c.types (widened (entry_held st true root q ch.root z h))) (t.following z)) (ap (using (held_at k.held) (register ch.root)) e ∙ using_self (held_at k.held) (register ch.root) tree)
          ∙ taken_fits st c.types root q ch.type ch.root t.following z slots right.differ (right_off c f g ch right) t.parts (inl e)
      by (inr (inl a)) =
          ap (λ h. fits (kind_of c.types (widened (entry_held st true root q ch.root z h))) (t.following z)) (using_nothing (held_at k.held) (register ch.root) z (fresh_nothing z a))
          ∙ taken_fits st c.types root q ch.type ch.root t.following z slots right.differ (right_off c f g ch right) t.parts (inr a)
      by (inr (inr ne)) =
          let off : Among z (register ch.root ∷ below ch.root) → ⊥ = λ a. elim a as (λ v. ⊥) [
            | inl y ↦ ne.0 y
            | inr y ↦ ne.1 y
          ] in
          let reported' = sight.others z ne.0 ne.1 in
          ap (λ h. fits (kind_of c.types h) (t.following z)) (ap widened (entry_other st true root q ch.root z (using (held_at k.held) (register ch.root) z) off) ∙ used_other z tree ne.0)
          ∙ elim (or_not (is_lent_of (register ch.root) (m z))) as (λ v. fits (kind_of c.types (without (register ch.root) (widened (g z)))) (t.following z) ≡ true) [
            | inl y ↦ ap (λ h. fits (kind_of c.types h) (t.following z)) (without_gone c.types (register ch.root) (g z) (sym (ap (is_lent_of (register ch.root)) reported') ∙ y)) ∙ t.freed z off y
            | inr y ↦ ap (fits (kind_of c.types (without (register ch.root) (widened (g z))))) (t.others z off y ∙ reported') ∙ without_fits c.types (register ch.root) (g z) (based.built z) (sym (ap (is_lent_of (register ch.root)) reported') ∙ y)
          ]

  -- ---- parts that are only read

  cell_read_fits : (u d n : ℕ) (a : Rattle.lowering_relation.specs.fip_trees.Tree.Name) (p : Rattle.separation.specs.fip_language.declared.Place.Place) (ps : Patterns) (s : Spot) (κ : M.Known) (root : Option ℕ) (t : ℕ) (read : List ℕ) (l : ℕ → Kind) (z : ℕ) → Slotted st c.types t (ConstructorPattern u d n a p ps) → compare (row_of (ConstructorPattern u d n a p ps)) κ ≡ Fits → Differ s → Below c.types root t κ s read l → NamedRead (ConstructorPattern u d n a p ps) s read → is_free (l z) ≡ true → Among z (below s) → fits (kind_of c.types (widened (entry_held st false root (ConstructorPattern u d n a p ps) s z H.Nothing))) (l z) ≡ true
  cell_read_fits u d n a p ps s (Open out) root t read l z slots fit differ parts named free m = absurd (open_fits (is_in (Tag n) out) fit)
  cell_read_fits u d n a p ps s (Is (Number j) ks) root t read l z slots fit differ parts named free m = absurd (true≢false (sym (if_fits (same_head (Tag n) (Number j)) (compare_all (rows_of ps) ks) fit).0))
  cell_read_fits u d n a p ps (At r fs) (Is (Tag e) ks) root t read l z slots fit differ parts named free m =
      let both = if_fits (n == e) (compare_all (rows_of ps) ks) fit in
      all_read_fits st c.types root ps (fields c.types t n) ks fs r 0 read l z slots.2 both.1 differ (subst (λ e. AllBelow c.types root (fields c.types t e) ks fs r 0 read l) (sym (equal n e both.0)) parts) named free m

  -- what is known at the root of a match that only reads
  entry_root_of : (u d n : ℕ) (a : Rattle.lowering_relation.specs.fip_trees.Tree.Name) (p : Rattle.separation.specs.fip_language.declared.Place.Place) (ps : Patterns) (s : Spot) (root : Option ℕ) (z : ℕ) (h : Held) → (Among z (below s) → ⊥) → entry_held st false root (ConstructorPattern u d n a p ps) s z h ≡ h
  entry_root_of u d n a p ps (At r fs) root z h ne = entry_all_other st false root ps fs z h ne

  reading_fits : (u d n : ℕ) (a : Rattle.lowering_relation.specs.fip_trees.Tree.Name) (p : Rattle.separation.specs.fip_language.declared.Place.Place) (ps : Patterns) (κ : M.Known) (read : List ℕ) (l : ℕ → Kind) → Slotted st c.types ch.type (ConstructorPattern u d n a p ps) → compare (row_of (ConstructorPattern u d n a p ps)) κ ≡ Fits → Sight c.types g ch.type ch.root κ read l → NamedRead (ConstructorPattern u d n a p ps) ch.root read → (root : Option ℕ) → root ≡ root_of (register ch.root) (g (register ch.root)) → (z : ℕ) → fits (kind_of c.types (widened (entry_held st false root (ConstructorPattern u d n a p ps) ch.root z (held_at k.held z)))) (l z) ≡ true
  reading_fits u d n a p ps κ read l slots fit sight named root e z = by (or_not (has (below ch.root) z))
    where
      by : (has (below ch.root) z ≡ true) ⊎ (has (below ch.root) z ≡ false) → fits (kind_of c.types (widened (entry_held st false root (ConstructorPattern u d n a p ps) ch.root z (held_at k.held z)))) (l z) ≡ true
      by (inl y) =
          let m = has_among (below ch.root) z y in
          ap (λ h. fits (kind_of c.types (widened (entry_held st false root (ConstructorPattern u d n a p ps) ch.root z h))) (l z)) (fresh_nothing z m)
          ∙ cell_read_fits u d n a p ps ch.root κ root ch.type read l z slots fit right.differ (subst (λ o. Below c.types o ch.type κ ch.root read l) (sym e) sight.parts) named (below_free c.types (root_of (register ch.root) (g (register ch.root))) ch.type κ ch.root read l z sight.parts m) m
      by (inr y) =
          ap (λ h. fits (kind_of c.types (widened h)) (l z)) (entry_root_of u d n a p ps ch.root root z (held_at k.held z) (not_among (below ch.root) z y)) ∙ plain_fits κ read l sight z

  -- ---- a clause

  pub record Settled (q : Pattern) (at : ℕ) (m : ℕ → Kind) (end : ℕ) : Type 0 where
    pub following : ℕ → Kind
    pub came : Came c f at m end following
    pub enters : (n z : ℕ) → fits (reported c (entered st ch q k n) z) (following z) ≡ true

  settled_plain : (q : Pattern) (κ : M.Known) (read : List ℕ) (at end : ℕ) (m : ℕ → Kind) → end ≡ at → ((z : ℕ) → root_held st ch.takes (root_of (register ch.root) (held_at k.held (register ch.root))) q ch.root (held_at k.held) z ≡ held_at k.held z) → Sight c.types g ch.type ch.root κ read m → Settled q at m end
  settled_plain q κ read at end m e same sight = record {
    following = m;
    came = subst (λ b. Came c f at m b m) (sym e) (came_none c f at m);
    enters = λ n z. ap (λ o. fits o (m z)) (reported_entry q n z) ∙ (ap (λ h. fits (kind_of c.types (widened h)) (m z)) (same z) ∙ plain_fits κ read m sight z);
  }

  settled_taken : (u d n : ℕ) (a : Rattle.lowering_relation.specs.fip_trees.Tree.Name) (p : Rattle.separation.specs.fip_language.declared.Place.Place) (ps : Patterns) (κ : M.Known) (read : List ℕ) (at end next : ℕ) (m : ℕ → Kind) → ch.takes ≡ true → Looks c g ch κ read m → IsPattern c.types ch.type (row_of (ConstructorPattern u d n a p ps)) → Rattle.lowering_relation.specs.Opening.Roomy (ConstructorPattern u d n a p ps) ch.root → Slotted st c.types ch.type (ConstructorPattern u d n a p ps) → compare (row_of (ConstructorPattern u d n a p ps)) κ ≡ Fits → TakesLaid f at (ConstructorPattern u d n a p ps) ch.root end → Quiet f at next m → end ≤ next → Settled (ConstructorPattern u d n a p ps) at m end
  settled_taken u d n a p ps κ read at end next m takes' looks typed room slots fit h quiet le =
      let q = ConstructorPattern u d n a p ps in
      let own = seen_owned c.types ch.type (g (register ch.root)) κ right.seeing (based.takes takes') in
      let t = takes c f q ch.type κ ch.root read at m end next typed fit room right.differ (right_off c f g ch right) (λ z b. (right.fresh z b).1.0) (looks.sight.root ∙ own.0)
      (subst (λ o. Below c.types o ch.type κ ch.root read m) (own.1 (register ch.root)) looks.sight.parts) (outside κ read m looks.sight) h quiet le in
      record {
        following = t.following;
        came = t.came;
        enters = λ n' z. ap (λ o. fits o (t.following z)) (reported_entry q n' z)
            ∙ (ap (λ b. fits (kind_of c.types (widened (root_held st b (root_of (register ch.root) (held_at k.held (register ch.root))) q ch.root (held_at k.held) z))) (t.following z)) takes'
            ∙ taking_fits q κ read at end m looks.sight (root_tree takes') slots t (root_of (register ch.root) (held_at k.held (register ch.root))) z);
      }

  settled_read : (u d n : ℕ) (a : Rattle.lowering_relation.specs.fip_trees.Tree.Name) (p : Rattle.separation.specs.fip_language.declared.Place.Place) (ps : Patterns) (κ : M.Known) (read : List ℕ) (at end next : ℕ) (more : List ℕ) (m : ℕ → Kind) → ch.takes ≡ false → Looks c g ch κ read m → IsPattern c.types ch.type (row_of (ConstructorPattern u d n a p ps)) → Slotted st c.types ch.type (ConstructorPattern u d n a p ps) → compare (row_of (ConstructorPattern u d n a p ps)) κ ≡ Fits → NamesLaid f at (ConstructorPattern u d n a p ps) ch.root read end more → Quiet f at next m → end ≤ next → Settled (ConstructorPattern u d n a p ps) at m end
  settled_read u d n a p ps κ read at end next more m takes' looks typed slots fit h quiet le =
      let q = ConstructorPattern u d n a p ps in
      let root = root_of (register ch.root) (g (register ch.root)) in
      let off = right_off c f g ch right in
      let r = names c f (register ch.root) root ch.type q κ ch.root at read m end more next typed fit right.differ off (λ z b. (right.fresh z b).1)
      (subst (OwnKind c.types root ch.type κ (register ch.root)) (sym looks.sight.root) (seen_own c.types ch.type (register ch.root) (g (register ch.root)) κ right.seeing)) (inl refl) (λ e y. absurd (true≢false (sym y))) looks.sight.parts h looks.froms quiet le in
      let sight : Sight c.types g ch.type ch.root κ more r.following = record {
        root = (r.others (register ch.root) off).1 ∙ looks.sight.root;
        parts = r.parts;
        others = λ y ne away. (r.others y away).1 ∙ looks.sight.others y ne away;
      } in
      record {
        following = r.following;
        came = r.came;
        enters = λ n' z. ap (λ o. fits o (r.following z)) (reported_entry q n' z)
            ∙ (ap (λ b. fits (kind_of c.types (widened (root_held st b (root_of (register ch.root) (held_at k.held (register ch.root))) q ch.root (held_at k.held) z))) (r.following z)) takes'
            ∙ reading_fits u d n a p ps κ more r.following slots fit sight r.ready (root_of (register ch.root) (held_at k.held (register ch.root))) same_root' z);
      }

  names_nothing : (b : Bool) (at end : ℕ) (q : Pattern) (s : Spot) (read : List ℕ) → (TakesLaid f at q s end → end ≡ at) → ((more : List ℕ) → NamesLaid f at q s read end more → end ≡ at) → SettledLaid b f at q s read end → end ≡ at
  names_nothing true at end q s read taken named h = taken h
  names_nothing false at end q s read taken named h = named h.0 h.1

  settle_by : (q : Pattern) (κ : M.Known) (read : List ℕ) (at end next : ℕ) (m : ℕ → Kind) (b : Bool) → ch.takes ≡ b → Looks c g ch κ read m → IsPattern c.types ch.type (row_of q) → Rattle.lowering_relation.specs.Opening.Roomy q ch.root → Slotted st c.types ch.type q → compare (row_of q) κ ≡ Fits → SettledLaid b f at q ch.root read end → Quiet f at next m → end ≤ next → Settled q at m end
  settle_by (BinderPattern x) κ read at end next m b e looks typed room slots fit h quiet le =
      settled_plain (BinderPattern x) κ read at end m (names_nothing b at end (BinderPattern x) ch.root read (λ y. y) (λ more y. y.0) h) (λ z. refl) looks.sight
  settle_by (LiteralPattern i p) κ read at end next m b e looks typed room slots fit h quiet le =
      settled_plain (LiteralPattern i p) κ read at end m (names_nothing b at end (LiteralPattern i p) ch.root read (λ y. y) (λ more y. y.0) h) (λ z. refl) looks.sight
  settle_by (ConstructorPattern u d n a p ps) κ read at end next m true e looks typed room slots fit h quiet le =
      settled_taken u d n a p ps κ read at end next m e looks typed room slots fit h quiet le
  settle_by (ConstructorPattern u d n a p ps) κ read at end next m false e looks typed room slots fit h quiet le =
      settled_read u d n a p ps κ read at end next h.0 m e looks typed slots fit h.1 quiet le

  -- up to the clause that is chosen, and its cells
  pub settle : (i end next at : ℕ) (m : ℕ → Kind) → (ran : Ran c f g ch right at m i end) → Quiet f at next m → end ≤ next → Settled ran.chosen.pattern at m end
  settle i end next at m ran quiet le =
      let q = ran.chosen.pattern in
      let s = settle_by q ran.known ran.read ran.place end next ran.following ch.takes refl ran.looks (right.typed i q ran.chosen.there) (right.roomy i q ran.chosen.there) (based.slots i q ran.chosen.there) ran.chosen.fits ran.chosen.settled (came_quiet c f at ran.place next m ran.following ran.came quiet) le in
      record { following = s.following; came = came_on c f at ran.place end m ran.following s.following ran.came s.came; enters = s.enters }
