-- Binders come into scope: each variable is still known by its own number, and has a type.
use Rattle.std.proofs.Common.{◌≡◌, ◌⊎◌, inl, inr, ℕ, suc, ◌<◌, Bool, true, List, [], ◌∷◌, ◌++◌, Option, Some, None, refl, sym, ap, ◌∙◌, subst, arith, append_assoc, if◌then◌else◌, ◌==◌}
use Rattle.lowering_relation.specs.fip_trees.declared.program.Binder.{Binder}
use Rattle.derivation_making.specs.fip_rules.World as R
use Rattle.derivation_making.specs.fip_rules.Shapes.{Names, mark, or_later, known}
use Rattle.derivation_making.specs.type_check.Binders.{entry}
use Rattle.derivation_making.specs.type_check.Scope.{Scope, look, of_binder}
use Rattle.derivation_making.proofs.type_check.Trail.{look_end}
use Rattle.derivation_making.specs.ownership_agreement.Bodies.{Scalars, entering, inside}
use Rattle.derivation_making.proofs.Linking.{known_last}
use Rattle.separation.specs.cell_code.Plain.{PlainCode}
use Rattle.separation.specs.code_rules.Types.{is_type, is_scalar_type}
use Rattle.separation.proofs.separation_kinds.Basics.{chosen, refused, or_not, equal, unequal}
use Rattle.lowering_soundness.specs.Laid.{Scoped}
use Rattle.lowering_soundness.specs.Placed.{Placed, InOrder}
pub use Rattle.tail_groups.proofs.fip_language.Facts.{some_some_same as same_type}

-- the variables of binders
abbrev pub entries_of : List Binder → List ℕ → Scope
entries_of [] ts = []
entries_of (b ∷ bs) [] = []
entries_of (b ∷ bs) (t ∷ ts) = entry (Some t) b ∷ entries_of bs ts

-- the slots of binders hold these types
abbrev pub SlotsHold : PlainCode → List Binder → List ℕ → Type 0
SlotsHold c [] [] = Unit {0}
SlotsHold c [] (t ∷ ts) = ⊥
SlotsHold c (b ∷ bs) [] = ⊥
SlotsHold c (b ∷ bs) (t ∷ ts) = ((b.ty ≡ t) × (is_type c.types t ≡ true)) × SlotsHold c bs ts

abbrev pub one_in : Names → Binder → Names
one_in n b = record { marks = n.marks ++ mark n.next b ∷ []; next = suc n.next }

abbrev pub one_scalar : R.World → ℕ → Scalars → Binder → Scalars
one_scalar w n sc b y = if n == y then w.scalar b.ty else sc y

pub scoped_of : (c : PlainCode) (s : Scope) (sc : Scalars) (n : Names) → Placed c s sc n → Scoped c s sc n.marks
scoped_of c s sc n p = record { seen = p.seen; scalar = p.scalar }

-- what is in scope after one more is this, or was before
pub new_or_old : (s : Scope) (b : Binder) (t x u : ℕ) → of_binder (s ++ entry (Some t) b ∷ []) (Some x) ≡ Some (Some u) → ((b.number ≡ x) × (t ≡ u)) ⊎ ((b.number ≡ x → ⊥) × (of_binder s (Some x) ≡ Some (Some u)))
new_or_old s b t x u h = elim (or_not (b.number == x)) as (λ v. ((b.number ≡ x) × (t ≡ u)) ⊎ ((b.number ≡ x → ⊥) × (of_binder s (Some x) ≡ Some (Some u)))) [
  | inl e ↦ inl (equal b.number x e, same_type t u (sym (chosen (b.number == x) (Some (Some t)) (look s x) e) ∙ (sym (look_end s (entry (Some t) b) x) ∙ h)))
  | inr e ↦ inr (unequal b.number x e, sym (refused (b.number == x) (Some (Some t)) (look s x) e) ∙ (sym (look_end s (entry (Some t) b) x) ∙ h))
]

-- those before are still in scope
pub old_there : (s : Scope) (b : Binder) (t x : ℕ) → (b.number ≡ x → ⊥) → of_binder (s ++ entry (Some t) b ∷ []) (Some x) ≡ of_binder s (Some x)
old_there s b t x ne = look_end s (entry (Some t) b) x ∙ refused (b.number == x) (Some (Some t)) (look s x) (Rattle.separation.proofs.separation_kinds.Basics.unequal_is b.number x ne)

module _ (c : PlainCode) (w : R.World) (scalars : (t : ℕ) → is_type c.types t ≡ true → w.scalar t ≡ is_scalar_type c.types t) where
  pub one_placed : (s : Scope) (sc : Scalars) (n : Names) (b : Binder) (t : ℕ) → Placed c s sc n → b.number ≡ n.next → b.ty ≡ t → is_type c.types t ≡ true → Placed c (s ++ entry (Some t) b ∷ []) (one_scalar w n.next sc b) (one_in n b)
  one_placed s sc n b t p num slot typed = record {
    seen = λ x u h. elim (new_or_old s b t x u h) as (λ v. known (one_in n b).marks x ≡ Some x) [
      | inl e ↦ known_last n.marks (mark n.next b) x ∙ (ap (λ (o : Option ℕ). or_later (known n.marks x) o) (chosen (b.number == x) (Some n.next) None (Rattle.separation.proofs.separation_kinds.Basics.equal_is b.number x e.0)) ∙ ap Some (sym num ∙ e.0))
      | inr e ↦ known_last n.marks (mark n.next b) x ∙ (ap (λ (o : Option ℕ). or_later (known n.marks x) o) (refused (b.number == x) (Some n.next) None (Rattle.separation.proofs.separation_kinds.Basics.unequal_is b.number x e.0)) ∙ p.seen x u e.1)
    ];
    scalar = λ x u h. elim (new_or_old s b t x u h) as (λ v. one_scalar w n.next sc b x ≡ is_scalar_type c.types u) [
      | inl e ↦ chosen (n.next == x) (w.scalar b.ty) (sc x) (Rattle.separation.proofs.separation_kinds.Basics.equal_is n.next x (sym num ∙ e.0)) ∙ (ap w.scalar (slot ∙ e.1) ∙ scalars u (ap (is_type c.types) (sym e.1) ∙ typed))
      | inr e ↦ refused (n.next == x) (w.scalar b.ty) (sc x) (Rattle.separation.proofs.separation_kinds.Basics.unequal_is n.next x (λ z. e.0 (num ∙ z))) ∙ p.scalar x u e.1
    ];
    before = λ x u h. elim (new_or_old s b t x u h) as (λ v. x < suc n.next) [
      | inl e ↦ (let z = e.0 in omega (arith, z, num))
      | inr e ↦ (let z = p.before x u e.1 in omega (arith, z))
    ];
    typed = λ x u h. elim (new_or_old s b t x u h) as (λ v. is_type c.types u ≡ true) [
      | inl e ↦ ap (is_type c.types) (sym e.1) ∙ typed
      | inr e ↦ p.typed x u e.1
    ];
  }

  pub some_placed : (own : Bool) (s : Scope) (sc : Scalars) (n : Names) (bs : List Binder) (ts : List ℕ) → Placed c s sc n → InOrder n.next bs → SlotsHold c bs ts → Placed c (s ++ entries_of bs ts) (entering w n.next sc bs) (inside w own n bs)
  some_placed own s sc n [] [] p num slots = subst (λ s. Placed c s sc n) (sym (append_none s)) p
    where
      append_none : (s : Scope) → s ++ [] ≡ s
      append_none [] = refl
      append_none (e ∷ s) = ap (λ s. e ∷ s) (append_none s)
  some_placed own s sc n [] (t ∷ ts) p num slots = absurd slots
  some_placed own s sc n (b ∷ bs) [] p num slots = absurd slots
  some_placed own s sc n (b ∷ bs) (t ∷ ts) p num slots =
      subst (λ s. Placed c s (entering w n.next sc (b ∷ bs)) (inside w own n (b ∷ bs))) (append_assoc s (entry (Some t) b ∷ []) (entries_of bs ts))
      (some_placed own (s ++ entry (Some t) b ∷ []) (one_scalar w n.next sc b) (one_in n b) bs ts (one_placed s sc n b t p num.0 slots.0.0 slots.0.1) num.1 slots.1)
