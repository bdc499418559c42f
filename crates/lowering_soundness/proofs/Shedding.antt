-- What a clause leaves over is given up, while the trees and the credits that are kept stay.
use Rattle.std.proofs.Common.{◌≡◌, ◌⊎◌, inl, inr, ℕ, zero, suc, ◌+◌, ◌≤◌, Bool, true, false, List, [], ◌∷◌, length, refl, sym, ap, ◌∙◌, subst, subst₂, true≢false, arith, ◌==◌}
use Rattle.derivation_making.specs.type_check.Scope.{Scope}
use Rattle.derivation_making.specs.ownership_calculus.Terms.{Item, Credit}
use Rattle.separation.specs.cell_code.declared.code.Instr.TheVariants as I
use Rattle.separation.specs.cell_code.Plain.{PlainFunction, PlainCode}
use Rattle.separation.proofs.separation_kinds.Basics.{refused, or_not, equal, itself, less_or_not}
use Rattle.lowering_relation.specs.declared.held.Held.{Held}
use Rattle.lowering_relation.specs.declared.held.Held.TheVariants as H
use Rattle.lowering_relation.specs.Known.{Known, used}
use Rattle.lowering_relation.specs.Describing.{Holding, held_at, kinds_of, setting, is_tree}
use Rattle.lowering_relation.specs.Labels.{reported, Quiet}
use Rattle.lowering_relation.specs.GivenUp.{EndsBare, Drops, Frees, GivesOne, GivesUp}
use Rattle.lowering_soundness.specs.Covering.{using}
use Rattle.lowering_soundness.specs.Giving.{is_credit_of}
use Rattle.lowering_soundness.specs.Parts.{Part}
use Rattle.lowering_soundness.specs.Ties.{one_if, owners, own, sized, Balanced, Rooted, Stays, BareRight, Ties}
use Rattle.lowering_soundness.proofs.SoundStraight.{drop_row, free_row}
use Rattle.lowering_soundness.proofs.Parts.{one_row, no_row, both_parts}
use Rattle.lowering_soundness.proofs.Tying.{ties_on}
use Rattle.lowering_soundness.proofs.Balance.{using_either, using_self, rooted_using, use_balanced, use_stays, stays_same, stays_on}
use Rattle.lowering_soundness.proofs.Helds.{held_within, held_set_fn, held_used_fn, length_set, length_used}
use Rattle.lowering_soundness.proofs.Writing.{is_idle, setting_here, setting_other, setting_stays, credit_using, bares_using, nothing_using_all}
use Rattle.lowering_soundness.proofs.Cells.{taken_credit, counted_left}
use Rattle.lowering_soundness.proofs.Owners.{sized_taken}
use Rattle.lowering_soundness.proofs.Leaving.{cleared_rooted, cleared_bares, gives_grow}
use Rattle.lowering_soundness.proofs.Starting.{setting_balanced}
use Rattle.lowering_soundness.proofs.Arguments.{quiet_front, quiet_back}
use Rattle.lowering_soundness.proofs.Cleared.{Kept}
use Rattle.lowering_soundness.proofs.Bares.{Bared, bared_one}

-- each register holds what it held, or nothing
abbrev pub Holds : Holding → Holding → Type 0
Holds g h = (r : ℕ) → (h r ≡ g r) ⊎ (h r ≡ H.Nothing)

holds_on : (a b d : Holding) → Holds a b → Holds b d → Holds a d
holds_on a b d x y r = elim (y r) as (λ v. (d r ≡ a r) ⊎ (d r ≡ H.Nothing)) [
  | inl e ↦ elim (x r) as (λ v. (d r ≡ a r) ⊎ (d r ≡ H.Nothing)) [
    | inl z ↦ inl (e ∙ z)
    | inr z ↦ inr (e ∙ z)
  ]
  | inr e ↦ inr e
]

pub holds_tree : (g h : Holding) (r : ℕ) → Holds g h → is_tree (h r) ≡ true → is_tree (g r) ≡ true
holds_tree g h r x tree = elim (x r) as (λ v. is_tree (g r) ≡ true) [
  | inl e ↦ sym (ap is_tree e) ∙ tree
  | inr e ↦ absurd (true≢false (sym tree ∙ ap is_tree e))
]

setting_holds : (g : Holding) (r : ℕ) → Holds g (setting g r H.Nothing)
setting_holds g r q = elim (or_not (q == r)) as (λ v. (setting g r H.Nothing q ≡ g q) ⊎ (setting g r H.Nothing q ≡ H.Nothing)) [
  | inl e ↦ inr (Rattle.separation.proofs.separation_kinds.Basics.chosen (q == r) H.Nothing (g q) e)
  | inr e ↦ inl (refused (q == r) H.Nothing (g q) e)
]

one_held : (f : PlainFunction) (fip : Bool) (at : ℕ) (k l : Known) → GivesOne fip f at k l → Holds (held_at k.held) (held_at l.held)
one_held f fip at k l (inl e) = subst (λ (l : Known). Holds (held_at k.held) (held_at l.held)) (sym e.known) (subst (Holds (held_at k.held)) (sym (held_set_fn k.held e.register H.Nothing (held_within k.held e.register (λ z. absurd (other (sym e.held ∙ z)))))) (setting_holds (held_at k.held) e.register))
  where
    other : H.Bare e.type e.constructor ≡ H.Nothing → ⊥
    other z = absurd (cc)
one_held f fip at k l (inr e) = elim e.1 as (λ v. Holds (held_at k.held) (held_at l.held)) [
  | inl d ↦ subst (λ (l : Known). Holds (held_at k.held) (held_at l.held)) (sym d.known) (subst (Holds (held_at k.held)) (sym (held_used_fn k.held d.register)) (λ q. using_either (held_at k.held) d.register q))
  | inr d ↦ subst (λ (l : Known). Holds (held_at k.held) (held_at l.held)) (sym d.known) (λ q. set_holds k.held d.register q)
]
  where
    set_holds : (hs : List Held) (r q : ℕ) → (held_at (Rattle.std.specs.Prelude.slice_set hs r H.Nothing) q ≡ held_at hs q) ⊎ (held_at (Rattle.std.specs.Prelude.slice_set hs r H.Nothing) q ≡ H.Nothing)
    set_holds [] r q = inl refl
    set_holds (h ∷ hs) zero zero = inr refl
    set_holds (h ∷ hs) zero (suc q) = inl refl
    set_holds (h ∷ hs) (suc r) zero = inl refl
    set_holds (h ∷ hs) (suc r) (suc q) = set_holds hs r q

pub gives_holds : (f : PlainFunction) (fip : Bool) (n at : ℕ) (k : Known) (end : ℕ) (l : Known) → GivesUp fip f n at k end l → Holds (held_at k.held) (held_at l.held)
gives_holds f fip zero at k end l h = subst (λ (l : Known). Holds (held_at k.held) (held_at l.held)) (sym h.1) (λ r. inl refl)
gives_holds f fip (suc n) at k end l h = holds_on (held_at k.held) (held_at h.0.held) (held_at l.held) (one_held f fip at k h.0 h.1) (gives_holds f fip n (suc at) h.0 end l h.2)

-- ---- credits get fewer

one_fewer : (f : PlainFunction) (fip : Bool) (at : ℕ) (k l : Known) (n : ℕ) → GivesOne fip f at k l → sized n l.credits ≤ sized n k.credits
one_fewer f fip at k l n (inl e) = let z : sized n l.credits ≡ sized n k.credits = ap (λ (l : Known). sized n l.credits) e.known in omega (arith, z)
one_fewer f fip at k l n (inr e) = elim e.1 as (λ v. sized n l.credits ≤ sized n k.credits) [
  | inl d ↦ (let z : sized n l.credits ≡ sized n k.credits = ap (λ (l : Known). sized n l.credits) d.known in omega (arith, z))
  | inr d ↦ (let z : sized n l.credits ≡ sized n d.rest = ap (λ (l : Known). sized n l.credits) d.known in let a = sized_taken k.credits d.size d.register d.rest n d.taken in omega (arith, z, a))
]

pub gives_fewer : (f : PlainFunction) (fip : Bool) (n at : ℕ) (k : Known) (end : ℕ) (l : Known) (m : ℕ) → GivesUp fip f n at k end l → sized m l.credits ≤ sized m k.credits
gives_fewer f fip zero at k end l m h = let z : sized m l.credits ≡ sized m k.credits = ap (λ (l : Known). sized m l.credits) h.1 in omega (arith, z)
gives_fewer f fip (suc n) at k end l m h = let a = one_fewer f fip at k h.0 m h.1 in let b = gives_fewer f fip n (suc at) h.0 end l m h.2 in omega (arith, a, b)

-- a tree that nobody owns is none that is counted
unowned : (g : Holding) (r : ℕ) (n : ℕ → ℕ) → Balanced false g n → is_tree (g r) ≡ true → n r ≡ 0 → Balanced false g (λ q. one_if (r == q) + n q)
unowned g r n balanced tree none q = elim (or_not (r == q)) as (λ v. one_if (r == q) + n q ≤ one_if (is_tree (g q))) [
  | inl e ↦ (let same = equal r q e in let a = ap one_if e in let b : one_if (is_tree (g q)) ≡ 1 = ap (λ p. one_if (is_tree (g p))) (sym same) ∙ ap one_if tree in let d : n q ≡ 0 = ap n (sym same) ∙ none in omega (arith, a, b, d))
  | inr e ↦ (let a = ap one_if e in let b = balanced q in omega (arith, a, b))
]

module _ (c : PlainCode) (f : PlainFunction) (s : Scope) (B : ℕ → Bool) (K : ℕ → Item → ℕ) (T : Item → ℕ) (e : ℕ → ℕ) (kept : Kept K T) where
  abbrev counts : Known → ℕ → ℕ
  counts k q = owners k.names (own T) q + e q

  pub record Shed (at : ℕ) (k : Known) (end : ℕ) (l : Known) : Type 0 where
    pub grows : at ≤ end
    pub still : at ≡ end → (r : ℕ) → reported c k r ≡ reported c l r
    pub part : Part c f at (reported c k) end (reported c l)
    pub names : l.names ≡ k.names
    pub next : l.next ≡ k.next
    pub width : length l.held ≡ length k.held
    pub ties : Ties false c.types s B K T e l
    pub each : Holds (held_at k.held) (held_at l.held)
    pub stays : Stays (held_at k.held) (held_at l.held) (λ q. owners k.names (own T) q + e q)

  of_bared : (at : ℕ) (k : Known) (end : ℕ) (l : Known) → Bared c f false s B K T e kept at k end l → EndsBare f at k l → Shed at k end l
  of_bared at k end l b h = record {
    grows = b.grows;
    still = b.still;
    part = b.part;
    names = b.names;
    next = b.next;
    width = b.width;
    ties = b.ties;
    each = one_held f false at k l (inl h);
    stays = subst (λ (l : Known). Stays (held_at k.held) (held_at l.held) (counts k)) (sym h.known)
        (subst (λ x. Stays (held_at k.held) x (counts k)) (sym (held_set_fn k.held h.register H.Nothing (held_within k.held h.register (λ z. absurd (other (sym h.held ∙ z))))))
        (setting_stays (held_at k.held) h.register H.Nothing (counts k) (ap is_idle h.held)));
  }
    where
      other : H.Bare h.type h.constructor ≡ H.Nothing → ⊥
      other z = absurd (cc)

  drop_one : (at : ℕ) (k l : Known) → (h : Drops f at k l) → Ties false c.types s B K T e k → counts k h.register ≡ 0 → Quiet f at (suc at) (reported c k) → Shed at k (suc at) l
  drop_one at k l h ties none quiet = subst (Shed at k (suc at)) (sym h.known) (record {
    grows = omega arith;
    still = λ z q. absurd (let y : ⊥ = omega (arith, z) in y);
    part = subst (λ x. Part c f at (reported c k) (suc at) (kinds_of c.types x)) (sym held)
        (one_row c f at (reported c k) (kinds_of c.types (using g r)) (I.Drop r) h.written refl (drop_row c f g r h.tree) (quiet.first (omega arith)));
    names = refl;
    next = refl;
    width = length_used k.held r;
    ties = ties_on false c.types s B K T T e e e k (record k { held = used k.held r }) ties (λ x. omega arith) kept refl (omega arith)
        (subst (λ x. Stays g x n) (sym held) stays)
        (subst (λ x. Balanced false x n) (sym held) (use_balanced false g r n balanced))
        (subst Rooted (sym held) (rooted_using g r ties.rooted))
        (subst (BareRight c.types) (sym held) (bares_using c.types g r ties.bares))
        ties.sizes
        (λ m q. ties.credits m q ∙ ap one_if (sym (ap (λ x. is_credit_of m (x q)) held ∙ credit_using g r q m)))
        (λ q past. ap (λ x. x q) held ∙ nothing_using_all g (r ∷ []) q (ties.fresh q past));
    each = λ q. subst (λ x. (x q ≡ g q) ⊎ (x q ≡ H.Nothing)) (sym held) (using_either g r q);
    stays = subst (λ x. Stays g x n) (sym held) stays;
  })
    where
      g : Holding
      g = held_at k.held

      r : ℕ
      r = h.register

      n : ℕ → ℕ
      n = counts k

      held : held_at (used k.held h.register) ≡ using (held_at k.held) h.register
      held = held_used_fn k.held h.register

      balanced : Balanced false (held_at k.held) (λ q. one_if (h.register == q) + (owners k.names (own T) q + e q))
      balanced = unowned (held_at k.held) h.register (counts k) ties.trees h.tree none

      stays : Stays (held_at k.held) (using (held_at k.held) h.register) (λ q. owners k.names (own T) q + e q)
      stays = use_stays false (held_at k.held) h.register (counts k) balanced

  free_one : (at : ℕ) (k l : Known) → (h : Frees f at k l) → Ties false c.types s B K T e k → ((n : ℕ) → T (Credit n) ≤ sized n h.rest) → Quiet f at (suc at) (reported c k) → Shed at k (suc at) l
  free_one at k l h ties enough quiet = subst (Shed at k (suc at)) (sym h.known) (record {
    grows = omega arith;
    still = λ z q. absurd (let y : ⊥ = omega (arith, z) in y);
    part = subst (λ x. Part c f at (reported c k) (suc at) (kinds_of c.types x)) (sym held)
        (one_row c f at (reported c k) (kinds_of c.types (setting g r H.Nothing)) (I.Free r) h.written refl (free_row c f g r h.size (ap (is_credit_of h.size) credit ∙ itself h.size)) (quiet.first (omega arith)));
    names = refl;
    next = refl;
    width = length_set k.held r H.Nothing;
    ties = ties_on false c.types s B K T T e e e k after ties (λ x. omega arith) kept refl (omega arith)
        (subst (λ x. Stays g x n) (sym held) (setting_stays g r H.Nothing n (ap is_idle credit)))
        (subst (λ x. Balanced false x n) (sym held) (setting_balanced false g r H.Nothing n none refl ties.trees))
        (subst Rooted (sym held) (cleared_rooted g r ties.rooted none))
        (subst (BareRight c.types) (sym held) (cleared_bares c.types g r ties.bares))
        enough
        (λ m q. counted_left k.credits h.size r h.rest g (held_at after.held) h.taken ties.credits
        (λ m. ap (λ x. is_credit_of m (x r)) held ∙ ap (is_credit_of m) (setting_here g r H.Nothing))
        (λ m p ne. ap (λ x. is_credit_of m (x p)) held ∙ ap (is_credit_of m) (setting_other g r H.Nothing p ne)) m q)
        (λ q past. ap (λ x. x q) held ∙ cleared q (ties.fresh q past));
    each = λ q. subst (λ x. (x q ≡ g q) ⊎ (x q ≡ H.Nothing)) (sym held) (setting_holds g r q);
    stays = subst (λ x. Stays g x n) (sym held) (setting_stays g r H.Nothing n (ap is_idle credit));
  })
    where
      g : Holding
      g = held_at k.held

      r : ℕ
      r = h.register

      n : ℕ → ℕ
      n = counts k

      after : Known
      after = record k { held = Rattle.std.specs.Prelude.slice_set k.held h.register H.Nothing; credits = h.rest }

      credit : held_at k.held h.register ≡ H.Credit h.size
      credit = taken_credit k.credits h.size h.register h.rest (held_at k.held) h.taken ties.credits

      none : is_tree (held_at k.held h.register) ≡ false
      none = ap is_tree credit

      other : H.Credit h.size ≡ H.Nothing → ⊥
      other z = absurd (cc)

      held : held_at (Rattle.std.specs.Prelude.slice_set k.held h.register H.Nothing) ≡ setting (held_at k.held) h.register H.Nothing
      held = held_set_fn k.held h.register H.Nothing (held_within k.held h.register (λ z. other (sym credit ∙ z)))

      cleared : (q : ℕ) → held_at k.held q ≡ H.Nothing → setting (held_at k.held) h.register H.Nothing q ≡ H.Nothing
      cleared q z = elim (setting_holds (held_at k.held) h.register q) as (λ v. setting (held_at k.held) h.register H.Nothing q ≡ H.Nothing) [
        | inl same ↦ same ∙ z
        | inr gone ↦ gone
      ]

  -- what is kept is there at the end
  record Kept' (k l : Known) : Type 0 where
    pub trees : (r : ℕ) → 1 ≤ owners k.names (own T) r + e r → is_tree (held_at l.held r) ≡ true
    pub enough : (n : ℕ) → T (Credit n) ≤ sized n l.credits

  -- a register that holds nothing in the end is none that is kept
  not_kept : (k l : Known) (r : ℕ) → Kept' k l → is_tree (held_at l.held r) ≡ false → counts k r ≡ 0
  not_kept k l r x none = elim (less_or_not 0 (counts k r)) as (λ v. counts k r ≡ 0) [
    | inl more ↦ absurd (true≢false (sym (x.trees r (omega (arith, more))) ∙ none))
    | inr z ↦ omega (arith, z)
  ]

  one_shed : (at : ℕ) (k m l : Known) → GivesOne false f at k m → Holds (held_at m.held) (held_at l.held) → ((n : ℕ) → sized n l.credits ≤ sized n m.credits) → Kept' k l → Ties false c.types s B K T e k → Quiet f at (suc at) (reported c k) → Shed at k (suc at) m
  one_shed at k m l (inl h) holds fewer x ties quiet = of_bared at k (suc at) m (bared_one c f false s B K T e kept at k m h ties quiet) h
  one_shed at k m l (inr h) holds fewer x ties quiet = elim h.1 as (λ v. Shed at k (suc at) m) [
    | inl d ↦ drop_one at k m d ties (not_kept k l d.register x (gone_tree d)) quiet
    | inr d ↦ free_one at k m d ties (λ n. (let a = x.enough n in let b = fewer n in let z : sized n m.credits ≡ sized n d.rest = ap (λ (l : Known). sized n l.credits) d.known in omega (arith, a, b, z))) quiet
  ]
    where
      gone_tree : (d : Drops f at k m) → is_tree (held_at l.held d.register) ≡ false
      gone_tree d =
          let none : held_at m.held d.register ≡ H.Nothing = ap (λ (m : Known). held_at m.held d.register) d.known ∙ (ap (λ x. x d.register) (held_used_fn k.held d.register) ∙ using_self (held_at k.held) d.register d.tree) in
          elim (or_not (is_tree (held_at l.held d.register))) as (λ v. is_tree (held_at l.held d.register) ≡ false) [
            | inl tree ↦ absurd (true≢false (sym (holds_tree (held_at m.held) (held_at l.held) d.register holds tree) ∙ ap is_tree none))
            | inr z ↦ z
          ]

  shed_on : (at : ℕ) (k : Known) (mid : ℕ) (m : Known) (end : ℕ) (l : Known) → Shed at k mid m → Shed mid m end l → Shed at k end l
  shed_on at k mid m end l x y =
      let a = x.grows in
      let b = y.grows in
      record {
        grows = omega (arith, a, b);
        still = λ z r. (let p : at ≡ mid = omega (arith, a, b, z) in let q : mid ≡ end = omega (arith, a, b, z) in x.still p r ∙ y.still q r);
        part = both_parts c f at mid end (reported c k) (reported c m) (reported c l) x.part y.part;
        names = y.names ∙ x.names;
        next = y.next ∙ x.next;
        width = y.width ∙ x.width;
        ties = y.ties;
        each = holds_on (held_at k.held) (held_at m.held) (held_at l.held) x.each y.each;
        stays = stays_on (held_at k.held) (held_at m.held) (held_at l.held) (counts k) x.stays (subst (λ ns. Stays (held_at m.held) (held_at l.held) (λ q. owners ns (own T) q + e q)) x.names y.stays);
      }

  shed_by : (n at : ℕ) (k : Known) (end : ℕ) (l : Known) → GivesUp false f n at k end l → Kept' k l → Ties false c.types s B K T e k → Quiet f at end (reported c k) → Shed at k end l
  shed_by zero at k end l h x ties quiet = subst₂ (Shed at k) (sym h.0) (sym h.1) (record {
    grows = omega arith;
    still = λ z q. refl;
    part = no_row c f at (reported c k) (reported c k) (λ q. refl);
    names = refl;
    next = refl;
    width = refl;
    ties = ties;
    each = λ r. inl refl;
    stays = stays_same (held_at k.held) (counts k);
  })
  shed_by (suc n) at k end l (m, one, rest) x ties quiet =
      let grows = gives_grow f false n (suc at) m end l rest in
      let first = one_shed at k m l one (gives_holds f false n (suc at) m end l rest) (λ i. gives_fewer f false n (suc at) m end l i rest) x ties (quiet_front f at (suc at) end (reported c k) grows quiet) in
      shed_on at k (suc at) m end l first
      (shed_by n (suc at) m end l rest (record { trees = λ r more. x.trees r (subst (λ ns. 1 ≤ owners ns (own T) r + e r) first.names more); enough = x.enough }) first.ties (quiet_back f at (suc at) end (reported c k) (reported c m) first.grows quiet first.still))

  pub shed : (n at : ℕ) (k : Known) (end : ℕ) (l : Known) → GivesUp false f n at k end l → ((r : ℕ) → 1 ≤ owners k.names (own T) r + e r → is_tree (held_at l.held r) ≡ true) → ((n : ℕ) → T (Credit n) ≤ sized n l.credits) → Ties false c.types s B K T e k → Quiet f at end (reported c k) → Shed at k end l
  shed n at k end l h trees enough ties quiet = shed_by n at k end l h (record { trees = trees; enough = enough }) ties quiet
