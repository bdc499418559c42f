-- A function gives its results: what is left is given up, and the results are as required.
use Rattle.std.proofs.Common.{◌≡◌, inl, inr, ℕ, suc, ◌+◌, ◌<◌, ◌≤◌, Bool, true, false, ◌&&◌, ◌||◌, List, [], ◌∷◌, Some, refl, sym, ap, ap₂, ◌∙◌, subst, true≢false, arith, if◌then◌else◌, ◌==◌}
use Rattle.separation.specs.fip_language.Table.{Table}
use Rattle.separation.specs.fip_language.Every.{Among}
use Rattle.derivation_making.specs.type_check.Scope.{Scope}
use Rattle.derivation_making.specs.ownership_calculus.Terms.{Item}
use Rattle.derivation_making.specs.ownership_calculus.Rules.{Fits}
use Rattle.separation.specs.cell_code.declared.code.Instr.TheVariants as I
use Rattle.separation.specs.cell_code.declared.kind.Kind.{Kind}
use Rattle.separation.specs.cell_code.Plain.{PlainFunction, PlainCode}
use Rattle.separation.proofs.separation_kinds.Basics.{or_not, both, itself}
use Rattle.lowering_relation.specs.declared.held.Held.{Held}
use Rattle.lowering_relation.specs.declared.held.Held.TheVariants as H
use Rattle.lowering_relation.specs.declared.held.Credit as D
use Rattle.lowering_relation.specs.Known.{Known, without, used_all}
use Rattle.lowering_relation.specs.Describing.{Holding, held_at, kinds_of, is_tree, is_spare}
use Rattle.lowering_soundness.specs.Covering.{using, using_all}
use Rattle.lowering_soundness.specs.Giving.{is_scalar_of, is_owned_of, is_credit_of, can_give, NothingLeft}
use Rattle.lowering_soundness.specs.Parts.{Onward, LastPart}
use Rattle.lowering_soundness.specs.Ties.{one_if, owners, sized, counted, own, HoldsValue, AllHold, owed, Balanced, Ties}
use Rattle.lowering_relation.specs.Labels.{reported, Quiet}
use Rattle.lowering_relation.specs.GivenUp.{AllGivenUp, RetLaid}
use Rattle.lowering_soundness.proofs.Giving.{and_to}
use Rattle.lowering_soundness.proofs.Covering.{using_none}
use Rattle.lowering_soundness.proofs.SoundStraight.{ret_row}
use Rattle.lowering_soundness.proofs.Parts.{last_row, part_and_last}
use Rattle.lowering_soundness.proofs.Balance.{using_self, balanced_same, given_all}
use Rattle.lowering_soundness.proofs.Owners.{owners_none}
use Rattle.lowering_soundness.proofs.Helds.{held_used_all}
use Rattle.lowering_soundness.proofs.Writing.{value_given, is_given, credit_using_all}
use Rattle.lowering_soundness.proofs.Arguments.{quiet_front, quiet_back}
use Rattle.lowering_soundness.proofs.Cells.{no_tree_using}
use Rattle.lowering_soundness.proofs.GivingUp.{using_all_either}
use Rattle.lowering_soundness.proofs.Leaving.{Safe, Leaves, Fewer, gives}

-- ---- registers that hold the same

abbrev pub Agree : (ℕ → Type 0) → Holding → Holding → Type 0
Agree keep g h = (r : ℕ) → keep r → h r ≡ g r

pub agree_using : (keep : ℕ → Type 0) (g h : Holding) (r : ℕ) → keep r → Agree keep g h → Agree keep (using g r) (using h r)
agree_using keep g h r kept a q k =
    ap₂ (λ x y. if is_tree x then (if q == r then H.Nothing else without r y) else y) (a r kept) (a q k)

pub can_give_agree : (keep : ℕ → Type 0) (rs ts : List ℕ) (g h : Holding) → ((r : ℕ) → Among r rs → keep r) → Agree keep g h → can_give g rs ts ≡ true → can_give h rs ts ≡ true
can_give_agree keep [] [] g h within a e = refl
can_give_agree keep [] (t ∷ ts) g h within a e = absurd (true≢false (sym e))
can_give_agree keep (r ∷ rs) [] g h within a e = absurd (true≢false (sym e))
can_give_agree keep (r ∷ rs) (t ∷ ts) g h within a e =
    let kept = within r (inl refl) in
    let b = both (is_scalar_of t (g r) || is_owned_of t (g r)) (can_give (using g r) rs ts) e in
    and_to (is_scalar_of t (h r) || is_owned_of t (h r)) (can_give (using h r) rs ts)
    (ap (λ x. is_scalar_of t x || is_owned_of t x) (a r kept) ∙ b.0)
    (can_give_agree keep rs ts (using g r) (using h r) (λ q m. within q (inr m)) (agree_using keep g h r kept a) b.1)

-- ---- what is used up

pub using_no_tree : (g : Holding) (r : ℕ) → is_tree (using g r r) ≡ false
using_no_tree g r = elim (or_not (is_tree (g r))) as (λ v. is_tree (using g r r) ≡ false) [
  | inl e ↦ ap is_tree (using_self g r e)
  | inr e ↦ ap is_tree (using_none g r e r) ∙ e
]

pub no_tree_using_all : (rs : List ℕ) (g : Holding) (r : ℕ) → is_tree (g r) ≡ false → is_tree (using_all g rs r) ≡ false
no_tree_using_all [] g r e = e
no_tree_using_all (p ∷ rs) g r e = no_tree_using_all rs (using g p) r (no_tree_using g p r e)

pub used_no_tree : (rs : List ℕ) (g : Holding) (r : ℕ) → Among r rs → is_tree (using_all g rs r) ≡ false
used_no_tree [] g r m = absurd m
used_no_tree (p ∷ rs) g r (inl e) = no_tree_using_all rs (using g p) r (subst (λ x. is_tree (using g x r) ≡ false) e (using_no_tree g r))
used_no_tree (p ∷ rs) g r (inr m) = used_no_tree rs (using g p) r m

-- ---- what is left

pub spare_of : (h : Held) → is_tree h ≡ false → ((t c : ℕ) → h ≡ H.Bare t c → ⊥) → ((n : ℕ) → h ≡ H.Credit n → ⊥) → is_spare h ≡ true
spare_of H.Nothing tree bare credit = refl
spare_of (H.Scalar t) tree bare credit = refl
spare_of (H.Owned t b) tree bare credit = absurd (true≢false tree)
spare_of (H.Lent t root) tree bare credit = refl
spare_of (H.Credit n) tree bare credit = absurd (credit n refl)
spare_of (H.Bare t c) tree bare credit = absurd (bare t c refl)

cond_le : (a b : Bool) → one_if (a && b) ≤ one_if a
cond_le true true = omega arith
cond_le true false = omega arith
cond_le false b = omega arith

pub counted_sized : (n r : ℕ) (cs : List D.Credit) → counted n r cs ≤ sized n cs
counted_sized n r [] = omega arith
counted_sized n r (c ∷ cs) = let a = cond_le (c.size == n) (c.register == r) in let b = counted_sized n r cs in omega (arith, a, b)

pub no_tree_of : (b : Bool) → Fits true (one_if b) 0 → b ≡ false
no_tree_of true h = absurd (omega (arith, h))
no_tree_of false h = refl

pub value_no_bare : (w : Table) (t u d : ℕ) (h : Held) → HoldsValue w t h → h ≡ H.Bare u d → ⊥
value_no_bare w t u d h v e = true≢false (sym (value_given w t h v) ∙ ap is_given e)

pub value_no_lent : (w : Table) (t u q : ℕ) (h : Held) → HoldsValue w t h → h ≡ H.Lent u (Some q) → ⊥
value_no_lent w t u q h v e = true≢false (sym (value_given w t h v) ∙ ap is_given e)

pub value_not_credit : (w : Table) (t n : ℕ) (h : Held) → HoldsValue w t h → h ≡ H.Credit n → ⊥
value_not_credit w t n h v e = true≢false (sym (value_given w t h v) ∙ ap is_given e)

-- one of the registers of some values
pub value_among : (w : Table) (g : Holding) (rs ts : List ℕ) (r : ℕ) → AllHold w g rs ts → Among r rs → (t : ℕ) × HoldsValue w t (g r)
value_among w g [] ts r h m = absurd m
value_among w g (p ∷ rs) [] r h m = absurd h
value_among w g (p ∷ rs) (t ∷ ts) r h (inl e) = (t, subst (λ x. HoldsValue w t (g x)) (sym e) h.0)
value_among w g (p ∷ rs) (t ∷ ts) r h (inr m) = value_among w g rs ts r h.1 m

module _ (c : PlainCode) (f : PlainFunction) (fip : Bool) (s : Scope) (B : ℕ → Bool) (K : ℕ → Item → ℕ) where
  nothing : Item → ℕ
  nothing i = 0

  -- where nothing is owned but the registers of results
  results_only : (k : Known) (rs ts : List ℕ) → Ties fip c.types s B K (λ i. 0) (λ q. owed c.types rs ts q + 0) k → Balanced fip (held_at k.held) (λ q. owed c.types rs ts q + 0)
  results_only k rs ts ties =
      balanced_same fip (held_at k.held) (λ q. owners k.names (own (λ i. 0)) q + (owed c.types rs ts q + 0)) (λ q. owed c.types rs ts q + 0) (λ q. let z = owners_none k.names (own (λ i. 0)) q (λ x. refl) in omega (arith, z)) ties.trees

  -- after the results nothing is left
  pub nothing_left : (k g : Holding) → AllGivenUp fip g → Fewer k g → ((r : ℕ) → is_tree (k r) ≡ true → fip ≡ true → ⊥) → ((r n : ℕ) → k r ≡ H.Credit n → fip ≡ true → ⊥) → NothingLeft g
  nothing_left k g done fewer trees credits r = by fip refl
    where
      none : (is_tree (g r) ≡ true → ⊥) → is_tree (g r) ≡ false
      none never = elim (or_not (is_tree (g r))) as (λ v. is_tree (g r) ≡ false) [
        | inl e ↦ absurd (never e)
        | inr e ↦ e
      ]

      by : (b : Bool) → fip ≡ b → is_spare (g r) ≡ true
      by true e = spare_of (g r) (none (λ z. trees r (fewer.tree r z) e)) (done.bares r) (λ n z. credits r n (fewer.credit r n z) e)
      by false e = spare_of (g r) (done.trees e r) (done.bares r) (done.credits e r)

  -- in fip no credit is left where none is owned
  pub no_credit_left : (k : Known) → ((n r : ℕ) → counted n r k.credits ≡ one_if (is_credit_of n (held_at k.held r))) → ((n : ℕ) → Fits fip (sized n k.credits) 0) → (r n : ℕ) → held_at k.held r ≡ H.Credit n → fip ≡ true → ⊥
  no_credit_left k counts sizes r n e b =
      let a = counts n r in
      let x : one_if (is_credit_of n (held_at k.held r)) ≡ 1 = ap (λ h. one_if (is_credit_of n h)) e ∙ ap one_if (itself n) in
      let y = counted_sized n r k.credits in
      let z : Fits true (sized n k.credits) 0 = subst (λ b. Fits b (sized n k.credits) 0) b (sizes n) in
      absurd (let u : ⊥ = omega (arith, a, x, y, z) in u)

  pub ret_part : (at : ℕ) (k : Known) (rs ts : List ℕ) (end : ℕ) → RetLaid fip f at k rs end → f.results ≡ ts → Ties fip c.types s B K (λ i. 0) (λ q. owed c.types rs ts q + 0) k → AllHold c.types (held_at k.held) rs ts → Quiet f at end (reported c k) → LastPart c f at (reported c k) end
  ret_part at k rs ts end h types ties hold quiet =
      let g = held_at k.held in
      let frame : Known = record k { held = used_all k.held rs } in
      let known : using_all g rs ≡ held_at (used_all k.held rs) = sym (held_used_all k.held rs) in
      let given = given_all fip c.types rs ts g (λ q. 0) (results_only k rs ts ties) hold in
      let leaves : Leaves c.types rs [] (λ r. Among r rs) g frame = record {
        known = known;
        trees = tt;
        rooted = ties.rooted;
        bares = ties.bares;
        counts = λ n r. ties.credits n r ∙ ap one_if (sym (ap (λ x. is_credit_of n (x r)) (sym known) ∙ credit_using_all g rs r n));
        safe = safe known;
      } in
      let stops : h.stop < end = (let z = h.one in omega (arith, z)) in
      let gave = gives c f rs [] (λ r. Among r rs) fip h.steps g at frame h.stop h.left leaves h.gives (quiet_front f at h.stop end (reported c k) (omega (arith, stops)) quiet) in
      let row = ret_row c f gave.held rs (subst (λ ts. can_give gave.held rs ts ≡ true) (sym types) (can_give_agree (λ r. Among r rs) rs ts g gave.held (λ r m. m) gave.agree given.can)) (left gave.held gave.leaves.known gave.fewer given.balanced known) in
      subst (λ e. LastPart c f at (reported c k) e) (sym h.one)
      (part_and_last c f at h.stop (suc h.stop) (reported c k) (kinds_of c.types gave.held) gave.part
      (last_row c f h.stop (kinds_of c.types gave.held) (I.Ret rs) h.written refl (λ ks j l o. nowhere ks j l o) row
      ((quiet_back f at h.stop end (reported c k) (kinds_of c.types gave.held) gave.grows quiet gave.still).first stops)))
    where
      nowhere : (ks : List Kind) (j : ℕ) (l : List Kind) → Onward c ks h.stop (I.Ret rs) j l → ⊥
      nowhere ks j l (inl o) = o.1
      nowhere ks j l (inr o) = o

      safe : using_all (held_at k.held) rs ≡ held_at (used_all k.held rs) → (r : ℕ) → Among r rs → Safe (held_at k.held r) (held_at (used_all k.held rs) r)
      safe known r m =
          let v = value_among c.types (held_at k.held) rs ts r hold m in
          record {
            bare = λ u d e. value_no_bare c.types v.0 u d (held_at k.held r) v.1 e;
            lent = λ u q e. value_no_lent c.types v.0 u q (held_at k.held r) v.1 e;
            tree = ap (λ x. is_tree (x r)) (sym known) ∙ used_no_tree rs (held_at k.held) r m;
            credit = λ n e. spent n (ap (λ x. x r) known ∙ e) v.0 v.1;
          }
        where
          spent : (n : ℕ) → using_all (held_at k.held) rs r ≡ H.Credit n → (t : ℕ) → HoldsValue c.types t (held_at k.held r) → ⊥
          spent n e t v = elim (using_all_either rs (held_at k.held) r) as (λ x. ⊥) [
            | inl same ↦ value_not_credit c.types t n (held_at k.held r) v (sym same ∙ e)
            | inr none ↦ other (sym none ∙ e)
          ]
            where
              other : H.Nothing ≡ H.Credit n → ⊥
              other z = absurd (cc)

      was : (r n : ℕ) → held_at (used_all k.held rs) r ≡ H.Credit n → using_all (held_at k.held) rs ≡ held_at (used_all k.held rs) → held_at k.held r ≡ H.Credit n
      was r n x known = elim (using_all_either rs (held_at k.held) r) as (λ v. held_at k.held r ≡ H.Credit n) [
        | inl same ↦ sym same ∙ (ap (λ y. y r) known ∙ x)
        | inr none ↦ absurd (other (sym none ∙ (ap (λ y. y r) known ∙ x)))
      ]
        where
          other : H.Nothing ≡ H.Credit n → ⊥
          other z = absurd (cc)

      left : (g : Holding) → using_all g rs ≡ held_at h.left.held → Fewer (held_at (used_all k.held rs)) (held_at h.left.held) → Balanced fip (using_all (held_at k.held) rs) (λ q. 0) → using_all (held_at k.held) rs ≡ held_at (used_all k.held rs) → NothingLeft (using_all g rs)
      left g e fewer balanced known =
          subst NothingLeft (sym e) (nothing_left (held_at (used_all k.held rs)) (held_at h.left.held) h.done fewer
          (λ r x b. true≢false (sym x ∙ (ap (λ y. is_tree (y r)) (sym known) ∙ no_tree_of (is_tree (using_all (held_at k.held) rs r)) (subst (λ b. Fits b (one_if (is_tree (using_all (held_at k.held) rs r))) 0) b (balanced r)))))
          (λ r n x b. no_credit_left k ties.credits ties.sizes r n (was r n x known) b))
