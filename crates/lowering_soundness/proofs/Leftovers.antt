-- What a clause leaves over is given up after its body: what is owned beside the match, and what the clause gives, stay.
use Rattle.std.proofs.Common.{◌≡◌, inl, inr, ℕ, zero, suc, ◌+◌, ◌-◌, ◌<◌, ◌≤◌, Bool, true, false, List, [], ◌∷◌, ◌++◌, length, take, drop, refl, sym, ap, ◌∙◌, subst, subst₂, arith, append-nil, ◌==◌}
use Rattle.separation.specs.fip_language.Every.{Among}
use Rattle.separation.specs.fip_language.Table.{Table}
use Rattle.lowering_relation.specs.fip_trees.Tree.{Expression}
use Rattle.derivation_making.specs.type_check.Scope.{Scope}
use Rattle.derivation_making.specs.ownership_calculus.Terms.{Item, Credit}
use Rattle.separation.specs.cell_code.Plain.{PlainFunction, PlainCode}
use Rattle.separation.specs.code_rules.Types.{is_scalar_type}
use Rattle.separation.proofs.separation_kinds.Basics.{chosen, refused, or_not, equal, less_or_not}
use Rattle.lowering_relation.specs.Known.{Known}
use Rattle.lowering_relation.specs.Values.{Setting}
use Rattle.lowering_relation.specs.Describing.{held_at, is_tree}
use Rattle.lowering_relation.specs.Labels.{reported, Quiet}
use Rattle.lowering_relation.specs.Credits.{of_size, LastGone}
use Rattle.lowering_relation.specs.Uses.{need}
use Rattle.lowering_relation.specs.Leftover.{IsUnused, LeftoverGone, LeavesOver}
use Rattle.lowering_soundness.specs.Parts.{Part}
use Rattle.lowering_soundness.specs.Ties.{one_if, owners, own, sized, AllHold, owed, Stays, Ties}
use Rattle.lowering_soundness.specs.Delivered.{Keeps}
use Rattle.lowering_soundness.proofs.Giving.{owned_tree}
use Rattle.lowering_soundness.proofs.Balance.{stays_same}
use Rattle.lowering_soundness.proofs.Parts.{no_row}
use Rattle.lowering_soundness.proofs.Stacks.{last_same, length_size}
use Rattle.lowering_soundness.proofs.Cleared.{Kept}
use Rattle.lowering_soundness.proofs.Keeping.{owners_kept}
use Rattle.lowering_soundness.proofs.Shedding.{Holds, gives_fewer, shed}

-- what is owed is in one of the registers
owed_among : (w : Table) (ds ts : List ℕ) (r : ℕ) → 1 ≤ owed w ds ts r → Among r ds
owed_among w [] ts r more = absurd (let z : ⊥ = omega (arith, more) in z)
owed_among w (d ∷ ds) [] r more = absurd (let z : ⊥ = omega (arith, more) in z)
owed_among w (d ∷ ds) (t ∷ ts) r more = elim (or_not (d == r)) as (λ v. Among r (d ∷ ds)) [
  | inl same ↦ inl (sym (equal d r same))
  | inr other ↦ inr (owed_among w ds ts r (let z = none other in omega (arith, more, z)))
]
  where
    none : (d == r) ≡ false → Rattle.lowering_soundness.specs.Ties.owe w t d r ≡ 0
    none other = elim (or_not (is_scalar_type w t)) as (λ v. Rattle.lowering_soundness.specs.Ties.owe w t d r ≡ 0) [
      | inl sc ↦ chosen (is_scalar_type w t) 0 (one_if (d == r)) sc
      | inr tree ↦ refused (is_scalar_type w t) 0 (one_if (d == r)) tree ∙ ap one_if other
    ]

pub one_tree : (b : Bool) (n : ℕ) → n ≤ one_if b → 1 ≤ n → b ≡ true
one_tree true n le more = refl
one_tree false n le more = absurd (let z : ⊥ = omega (arith, le, more) in z)

take_length : (n : ℕ) (xs : List ℕ) (m : ℕ) → m ≤ n → m ≤ length xs → m ≤ length (take n xs)
take_length zero xs m a b = omega (arith, a)
take_length (suc n) [] m a b = b
take_length (suc n) (x ∷ xs) zero a b = omega arith
take_length (suc n) (x ∷ xs) (suc m) a b = let z = take_length n xs m (omega (arith, a)) (omega (arith, b)) in omega (arith, z)

take_drop : (n : ℕ) (xs : List ℕ) → xs ≡ take n xs ++ drop n xs
take_drop zero xs = refl
take_drop (suc n) [] = refl
take_drop (suc n) (x ∷ xs) = ap (λ ys. x ∷ ys) (take_drop n xs)

-- values stay with what is owed
pub hold_stays : (w : Table) (g h : Rattle.lowering_relation.specs.Describing.Holding) (n : ℕ → ℕ) (rs ts : List ℕ) → Stays g h n → ((q : ℕ) → owed w rs ts q ≤ n q) → AllHold w g rs ts → AllHold w h rs ts
hold_stays w g h n [] [] x le all = tt
hold_stays w g h n [] (t ∷ ts) x le all = absurd all
hold_stays w g h n (r ∷ rs) [] x le all = absurd all
hold_stays w g h n (r ∷ rs) (t ∷ ts) x le all = (
  record {
    scalar = λ e. x.scalar r t (all.0.scalar e);
    owned = λ e. (
        let own = all.0.owned e in
        let a = refused (is_scalar_type w t) 0 (one_if (r == r)) e in
        let b = ap one_if (Rattle.separation.proofs.separation_kinds.Basics.itself r) in
        let le_r = le r in
        ap (Rattle.lowering_soundness.specs.Giving.is_owned_of t) (x.tree r (omega (arith, a, b, le_r)) (owned_tree t (g r) own)) ∙ own);
  },
  hold_stays w g h n rs ts x (λ q. let z = le q in omega (arith, z)) all.1,
)

module _ (c : PlainCode) (st : Setting) (f : PlainFunction) (fip : Bool) (s : Scope) (B : ℕ → Bool) (K : ℕ → Item → ℕ) (X : Item → ℕ) (kept : Kept K X) (ds ts : List ℕ) where
  -- what is so where it is given up
  pub record Left (at : ℕ) (k : Known) (end : ℕ) (l : Known) : Type 0 where
    pub grows : at ≤ end
    pub still : at ≡ end → (r : ℕ) → reported c k r ≡ reported c l r
    pub part : Part c f at (reported c k) end (reported c l)
    pub names : l.names ≡ k.names
    pub next : l.next ≡ k.next
    pub width : length l.held ≡ length k.held
    pub ties : Ties fip c.types s B K X (λ q. owed c.types ds ts q + 0) l
    pub each : Holds (held_at k.held) (held_at l.held)
    pub stays : Stays (held_at k.held) (held_at l.held) (λ q. owners k.names (own X) q + (owed c.types ds ts q + 0))
    pub last : LastGone k.credits l.credits

  none_left : (at : ℕ) (k : Known) → Ties fip c.types s B K X (λ q. owed c.types ds ts q + 0) k → Left at k at k
  none_left at k ties = record {
    grows = omega arith;
    still = λ z r. refl;
    part = no_row c f at (reported c k) (reported c k) (λ r. refl);
    names = refl;
    next = refl;
    width = refl;
    ties = ties;
    each = λ r. inl refl;
    stays = stays_same (held_at k.held) (λ q. owners k.names (own X) q + (owed c.types ds ts q + 0));
    last = last_same k.credits k.credits refl;
  }

  module _ (o : Known) (e : Expression) (free : (r : ℕ) → 1 ≤ owners o.names (own X) r → is_tree (held_at o.held r) ≡ true × IsUnused st o e r) (enough : (n : ℕ) → 0 < n → X (Credit n) ≤ length (of_size n o.credits) - need st n e) where
    some_left : (weak : fip ≡ false) (at : ℕ) (k : Known) (end : ℕ) (l : Known) → LeftoverGone st f o e ds at k end l → Keeps s X o k → Ties fip c.types s B K X (λ q. owed c.types ds ts q + 0) k → Quiet f at end (reported c k) → Left at k end l
    some_left weak at k end l h keeps ties quiet =
        let x = shed c f s B K X (λ q. owed c.types ds ts q + 0) kept h.steps at k end l h.gives trees sizes loose quiet in
        record {
          grows = x.grows;
          still = x.still;
          part = x.part;
          names = x.names;
          next = x.next;
          width = x.width;
          ties = subst (λ b. Ties b c.types s B K X (λ q. owed c.types ds ts q + 0) l) (sym weak) x.ties;
          each = x.each;
          stays = x.stays;
          last = last;
        }
      where
        loose : Ties false c.types s B K X (λ q. owed c.types ds ts q + 0) k
        loose = subst (λ b. Ties b c.types s B K X (λ q. owed c.types ds ts q + 0) k) weak ties

        trees : (r : ℕ) → 1 ≤ owners k.names (own X) r + (owed c.types ds ts r + 0) → is_tree (held_at l.held r) ≡ true
        trees r more =
            let there : is_tree (held_at k.held r) ≡ true = one_tree (is_tree (held_at k.held r)) (owners k.names (own X) r + (owed c.types ds ts r + 0)) (loose.trees r) more in
            elim (less_or_not 0 (owners k.names (own X) r)) as (λ v. is_tree (held_at l.held r) ≡ true) [
              | inl some ↦ (let same = owners_kept o.names k.names (own X) r keeps.same in let y = free r (omega (arith, some, same)) in h.unused r y.0 y.1 there)
              | inr none ↦ h.given r (owed_among c.types ds ts r (omega (arith, none, more))) there
            ]

        sizes : (n : ℕ) → X (Credit n) ≤ sized n l.credits
        sizes zero =
            let a = loose.sizes 0 in
            let b = ap length h.none in
            let d = length_size 0 k.credits in
            omega (arith, a, b, d)
        sizes (suc n) =
            let a = loose.sizes (suc n) in
            let low = enough (suc n) (omega arith) in
            let i = length_size (suc n) k.credits in
            let d = length_size (suc n) l.credits in
            let b = ap length (h.credits (suc n) (omega arith)) in
            let z = take_length (length (of_size (suc n) o.credits) - need st (suc n) e) (of_size (suc n) k.credits) (X (Credit (suc n))) low (omega (arith, a, i)) in
            omega (arith, z, b, d)

        last : LastGone k.credits l.credits
        last zero = ([], h.none ∙ (sym (nothing (of_size 0 l.credits) fewer) ∙ sym (append-nil (of_size 0 l.credits))))
          where
            nothing : (xs : List ℕ) → length xs ≤ 0 → xs ≡ []
            nothing [] low = refl
            nothing (x ∷ xs) low = absurd (let z : ⊥ = omega (arith, low) in z)

            fewer : length (of_size 0 l.credits) ≤ 0
            fewer = let a = gives_fewer f false h.steps at k end l 0 h.gives in let b = ap length h.none in let d = length_size 0 k.credits in let i = length_size 0 l.credits in omega (arith, a, b, d, i)
        last (suc n) =
            let m = length (of_size (suc n) o.credits) - need st (suc n) e in
            (drop m (of_size (suc n) k.credits), take_drop m (of_size (suc n) k.credits) ∙ ap (λ xs. xs ++ drop m (of_size (suc n) k.credits)) (sym (h.credits (suc n) (omega arith))))

    left_by : (b : Bool) → fip ≡ b → (at : ℕ) (k : Known) (end : ℕ) (l : Known) → LeavesOver b st f o e ds at k end l → Keeps s X o k → Ties fip c.types s B K X (λ q. owed c.types ds ts q + 0) k → Quiet f at end (reported c k) → Left at k end l
    left_by true weak at k end l h keeps ties quiet = subst₂ (Left at k) (sym h.0) (sym h.1) (none_left at k ties)
    left_by false weak at k end l h keeps ties quiet = some_left weak at k end l h keeps ties quiet

    pub left_over : (at : ℕ) (k : Known) (end : ℕ) (l : Known) → LeavesOver fip st f o e ds at k end l → Keeps s X o k → Ties fip c.types s B K X (λ q. owed c.types ds ts q + 0) k → Quiet f at end (reported c k) → Left at k end l
    left_over at k end l h keeps ties quiet = left_by fip refl at k end l h keeps ties quiet
