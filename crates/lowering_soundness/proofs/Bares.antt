-- Constructors that were matched are used up, one after another: all else is as it was.
use Rattle.std.proofs.Common.{◌≡◌, ◌⊎◌, inl, inr, ℕ, zero, suc, ◌+◌, ◌≤◌, Bool, true, false, List, [], ◌∷◌, length, refl, sym, ap, ◌∙◌, subst, subst₂, true≢false, arith, if◌then◌else◌, ◌==◌}
use Rattle.derivation_making.specs.type_check.Scope.{Scope}
use Rattle.derivation_making.specs.ownership_calculus.Terms.{Item}
use Rattle.separation.specs.cell_code.declared.code.Instr.TheVariants as I
use Rattle.separation.specs.cell_code.Plain.{PlainFunction, PlainCode}
use Rattle.separation.proofs.separation_kinds.Basics.{chosen, refused, or_not, equal}
use Rattle.lowering_relation.specs.declared.held.Held.{Held}
use Rattle.lowering_relation.specs.declared.held.Held.TheVariants as H
use Rattle.lowering_relation.specs.Known.{Known, holding}
use Rattle.lowering_relation.specs.Describing.{Holding, held_at, kinds_of, setting, is_tree}
use Rattle.lowering_relation.specs.Labels.{reported, Quiet}
use Rattle.lowering_relation.specs.GivenUp.{EndsBare, GivesUp}
use Rattle.lowering_relation.specs.Matches.{widened}
use Rattle.lowering_soundness.specs.Giving.{is_credit_of}
use Rattle.lowering_soundness.specs.Parts.{Part}
use Rattle.lowering_soundness.specs.Ties.{one_if, owners, own, HoldsValue, AllHold, Balanced, Rooted, Stays, BareRight, Ties}
use Rattle.lowering_soundness.specs.Delivered.{Keeps}
use Rattle.lowering_soundness.proofs.SoundStraight.{bare_row}
use Rattle.lowering_soundness.proofs.Parts.{one_row, no_row, both_parts}
use Rattle.lowering_soundness.proofs.Tying.{ties_on}
use Rattle.lowering_soundness.proofs.Helds.{held_within, held_set_fn, length_set}
use Rattle.lowering_soundness.proofs.Writing.{is_idle, is_given, value_given, setting_stays}
use Rattle.lowering_soundness.proofs.Arguments.{quiet_front, quiet_back}
use Rattle.lowering_soundness.proofs.Leaving.{lends_nothing, cleared_rooted, cleared_bares, gives_grow}
use Rattle.lowering_soundness.proofs.Starting.{setting_balanced, setting_count}
use Rattle.lowering_soundness.proofs.Cleared.{Kept}
use Rattle.lowering_soundness.proofs.Keeping.{Stayed, keeps_held}

abbrev pub is_bare : Held → Bool
is_bare H.Nothing = false
is_bare (H.Scalar t) = false
is_bare (H.Owned t b) = false
is_bare (H.Lent t root) = false
is_bare (H.Credit n) = false
is_bare (H.Bare t c) = true

bare_stayed : (n : ℕ → ℕ) (r : ℕ) (h : Held) → is_bare h ≡ true → Stayed n r (widened h) → ⊥
bare_stayed n r H.Nothing e s = s
bare_stayed n r (H.Scalar t) e s = true≢false (sym e)
bare_stayed n r (H.Owned t b) e s = true≢false (sym e)
bare_stayed n r (H.Lent t root) e s = true≢false (sym e)
bare_stayed n r (H.Credit m) e s = s
bare_stayed n r (H.Bare t c) e s = s

bare_given : (h : Held) → is_bare h ≡ true → is_given h ≡ true → ⊥
bare_given H.Nothing e s = true≢false (sym e)
bare_given (H.Scalar t) e s = true≢false (sym e)
bare_given (H.Owned t b) e s = true≢false (sym e)
bare_given (H.Lent t root) e s = true≢false (sym e)
bare_given (H.Credit m) e s = true≢false (sym e)
bare_given (H.Bare t c) e s = true≢false (sym s)

-- nothing is left of a constructor that was matched, and all other registers hold what they held
abbrev pub Barely : Holding → Holding → Type 0
Barely g h = (r : ℕ) → (h r ≡ g r) ⊎ ((is_bare (g r) ≡ true) × (h r ≡ H.Nothing))

barely_on : (g h i : Holding) → Barely g h → Barely h i → Barely g i
barely_on g h i x y r = by (x r) (y r)
  where
    by : (h r ≡ g r) ⊎ ((is_bare (g r) ≡ true) × (h r ≡ H.Nothing)) → (i r ≡ h r) ⊎ ((is_bare (h r) ≡ true) × (i r ≡ H.Nothing)) → (i r ≡ g r) ⊎ ((is_bare (g r) ≡ true) × (i r ≡ H.Nothing))
    by (inl a) (inl b) = inl (b ∙ a)
    by (inl a) (inr b) = inr (ap is_bare (sym a) ∙ b.0, b.1)
    by (inr a) (inl b) = inr (a.0, b ∙ a.1)
    by (inr a) (inr b) = inr (a.0, b.1)

pub barely_nothing : (g h : Holding) (r : ℕ) → Barely g h → g r ≡ H.Nothing → h r ≡ H.Nothing
barely_nothing g h r x e = elim (x r) as (λ v. h r ≡ H.Nothing) [
  | inl a ↦ a ∙ e
  | inr a ↦ a.1
]

pub barely_keeps : (s : Scope) (X : Item → ℕ) (k l : Known) → Barely (held_at k.held) (held_at l.held) → l.names ≡ k.names → l.credits ≡ k.credits → Keeps s X k l
barely_keeps s X k l x names credits = keeps_held s X k l (λ r m. by r m (x r)) names credits
  where
    by : (r : ℕ) → Stayed (owners k.names (own X)) r (widened (held_at k.held r)) → (held_at l.held r ≡ held_at k.held r) ⊎ ((is_bare (held_at k.held r) ≡ true) × (held_at l.held r ≡ H.Nothing)) → widened (held_at l.held r) ≡ widened (held_at k.held r)
    by r m (inl e) = ap widened e
    by r m (inr e) = absurd (bare_stayed (owners k.names (own X)) r (held_at k.held r) e.0 m)

-- values are no such constructors
pub barely_hold : (w : Rattle.separation.specs.fip_language.Table.Table) (g h : Holding) (rs ts : List ℕ) → Barely g h → AllHold w g rs ts → AllHold w h rs ts
barely_hold w g h [] [] x all = tt
barely_hold w g h [] (t ∷ ts) x all = absurd all
barely_hold w g h (r ∷ rs) [] x all = absurd all
barely_hold w g h (r ∷ rs) (t ∷ ts) x all = (by (x r), barely_hold w g h rs ts x all.1)
  where
    by : (h r ≡ g r) ⊎ ((is_bare (g r) ≡ true) × (h r ≡ H.Nothing)) → HoldsValue w t (h r)
    by (inl e) = subst (HoldsValue w t) (sym e) all.0
    by (inr e) = absurd (bare_given (g r) e.0 (value_given w t (g r) all.0))

module _ (c : PlainCode) (f : PlainFunction) (fip : Bool) (s : Scope) (B : ℕ → Bool) (K : ℕ → Item → ℕ) (T : Item → ℕ) (e : ℕ → ℕ) (kept : Kept K T) where
  pub record Bared (at : ℕ) (k : Known) (end : ℕ) (l : Known) : Type 0 where
    pub grows : at ≤ end
    pub still : at ≡ end → (r : ℕ) → reported c k r ≡ reported c l r
    pub part : Part c f at (reported c k) end (reported c l)
    pub names : l.names ≡ k.names
    pub credits : l.credits ≡ k.credits
    pub next : l.next ≡ k.next
    pub width : length l.held ≡ length k.held
    pub ties : Ties fip c.types s B K T e l
    pub each : Barely (held_at k.held) (held_at l.held)

  pub bared_one : (at : ℕ) (k l : Known) → EndsBare f at k l → Ties fip c.types s B K T e k → Quiet f at (suc at) (reported c k) → Bared at k (suc at) l
  bared_one at k l h ties quiet = subst (Bared at k (suc at)) (sym h.known) (record {
    grows = omega arith;
    still = λ z q. absurd (let y : ⊥ = omega (arith, z) in y);
    part = subst (λ x. Part c f at (reported c k) (suc at) (kinds_of c.types x)) (sym held)
        (one_row c f at (reported c k) (kinds_of c.types (setting g r H.Nothing)) (I.Take r []) h.written refl (bare_row c f g r h.type h.constructor h.held (ties.bares r h.type h.constructor h.held).1 (lends_nothing g r ties.rooted none)) (quiet.first (omega arith)));
    names = refl;
    credits = refl;
    next = refl;
    width = length_set k.held r H.Nothing;
    ties = ties_on fip c.types s B K T T e e e k (holding k r H.Nothing) ties (λ x. omega arith) kept refl (omega arith)
        (subst (λ x. Stays g x n) (sym held) (setting_stays g r H.Nothing n (ap is_idle h.held)))
        (subst (λ x. Balanced fip x n) (sym held) (setting_balanced fip g r H.Nothing n none refl ties.trees))
        (subst Rooted (sym held) (cleared_rooted g r ties.rooted none))
        (subst (BareRight c.types) (sym held) (cleared_bares c.types g r ties.bares))
        ties.sizes
        (λ m q. ties.credits m q ∙ ap one_if (sym (ap (λ x. is_credit_of m (x q)) held ∙ setting_count g r H.Nothing m q (ap (is_credit_of m) h.held) refl)))
        (λ q past. ap (λ x. x q) held ∙ by (q == r) (g q) (ties.fresh q past));
    each = λ q. elim (or_not (q == r)) as (λ v. (held_at (holding k r H.Nothing).held q ≡ g q) ⊎ ((is_bare (g q) ≡ true) × (held_at (holding k r H.Nothing).held q ≡ H.Nothing))) [
      | inl same ↦ inr (ap (λ p. is_bare (g p)) (equal q r same) ∙ ap is_bare h.held, ap (λ x. x q) held ∙ chosen (q == r) H.Nothing (g q) same)
      | inr other ↦ inl (ap (λ x. x q) held ∙ refused (q == r) H.Nothing (g q) other)
    ];
  })
    where
      g : Holding
      g = held_at k.held

      r : ℕ
      r = h.register

      n : ℕ → ℕ
      n = λ q. owners k.names (own T) q + e q

      none : is_tree (held_at k.held h.register) ≡ false
      none = ap is_tree h.held

      something : held_at k.held h.register ≡ H.Nothing → ⊥
      something z = true≢false (sym (ap is_bare h.held) ∙ ap is_bare z)

      held : held_at (Rattle.std.specs.Prelude.slice_set k.held h.register H.Nothing) ≡ setting (held_at k.held) h.register H.Nothing
      held = held_set_fn k.held h.register H.Nothing (held_within k.held h.register something)

      by : (b : Bool) (x : Held) → x ≡ H.Nothing → (if b then H.Nothing else x) ≡ H.Nothing
      by true x z = refl
      by false x z = z

  bared_on : (at : ℕ) (k : Known) (mid : ℕ) (m : Known) (end : ℕ) (l : Known) → Bared at k mid m → Bared mid m end l → Bared at k end l
  bared_on at k mid m end l x y =
      let a = x.grows in
      let b = y.grows in
      record {
        grows = omega (arith, a, b);
        still = λ z r. (let p : at ≡ mid = omega (arith, a, b, z) in let q : mid ≡ end = omega (arith, a, b, z) in x.still p r ∙ y.still q r);
        part = both_parts c f at mid end (reported c k) (reported c m) (reported c l) x.part y.part;
        names = y.names ∙ x.names;
        credits = y.credits ∙ x.credits;
        next = y.next ∙ x.next;
        width = y.width ∙ x.width;
        ties = y.ties;
        each = barely_on (held_at k.held) (held_at m.held) (held_at l.held) x.each y.each;
      }

  pub bared : (n at : ℕ) (k : Known) (end : ℕ) (l : Known) → GivesUp true f n at k end l → Ties fip c.types s B K T e k → Quiet f at end (reported c k) → Bared at k end l
  bared zero at k end l h ties quiet = subst₂ (Bared at k) (sym h.0) (sym h.1) (record {
    grows = omega arith;
    still = λ z q. refl;
    part = no_row c f at (reported c k) (reported c k) (λ q. refl);
    names = refl;
    credits = refl;
    next = refl;
    width = refl;
    ties = ties;
    each = λ r. inl refl;
  })
  bared (suc n) at k end l (m, inl one, rest) ties quiet =
      let grows = gives_grow f true n (suc at) m end l rest in
      let first = bared_one at k m one ties (quiet_front f at (suc at) end (reported c k) grows quiet) in
      bared_on at k (suc at) m end l first (bared n (suc at) m end l rest first.ties (quiet_back f at (suc at) end (reported c k) (reported c m) first.grows quiet first.still))
  bared (suc n) at k end l (m, inr one, rest) ties quiet = absurd (true≢false one.0)
