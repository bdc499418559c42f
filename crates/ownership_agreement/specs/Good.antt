-- For the proofs alone: a body that breaks no rule on ownership, part by part, under what each variable went through.
use Rattle.std.specs.Prelude.{◌≡◌, ℕ, Bool, true, false, ◌||◌, ◌==◌, if◌then◌else◌}
use Rattle.fip_rules.specs.declared.scope.Ownership.{Ownership}
use Rattle.fip_rules.specs.declared.scope.Ownership.TheVariants.{Scalar, Borrowed, Owned}
use Rattle.fip_rules.specs.Shape.{Shape, Skip, Use, Lend, Fault, Then, Either, Bound, Scope}
use Rattle.fip_rules.specs.Rules.{owns, Misses}

-- borrowed: a let around borrows it
pub data State : Type 0 where
  Free : State
  Given : State
  Held : (used lent : Bool) → State

abbrev pub starts : Ownership → State
starts Scalar = Free
starts Borrowed = Given
starts Owned = Held false false

abbrev pub spent : Bool → State → State
spent o Free = Free
spent o Given = Given
spent o (Held u l) = Held (u || o) l

abbrev pub lending : Bool → State → State
lending o Free = Free
lending o Given = Given
lending true (Held u l) = Held u l
lending false (Held u l) = Held u true

abbrev pub MayUse : State → Type 0
MayUse Free = Unit {0}
MayUse Given = ⊥
MayUse (Held u l) = u ≡ false

abbrev pub MayLend : State → Type 0
MayLend Free = Unit {0}
MayLend Given = Unit {0}
MayLend (Held u l) = (u ≡ false) × (l ≡ true)

abbrev pub IsUsed : Bool → Ownership → ℕ → Shape → Type 0
IsUsed fip Owned x e = fip ≡ true → Misses x e → ⊥
IsUsed fip Borrowed x e = Unit {0}
IsUsed fip Scalar x e = Unit {0}

abbrev pub bound : ℕ → Ownership → (ℕ → State) → ℕ → State
bound x k s y = if x == y then starts k else s y

abbrev pub Good : Bool → (ℕ → State) → Shape → Type 0
Good fip s Skip = Unit {0}
Good fip s (Use m) = MayUse (s m.id)
Good fip s (Lend m) = MayLend (s m.id)
Good fip s (Fault r m) = ⊥
Good fip s (Then a b) = Good fip s a × Good fip (λ x. spent (owns x a) (s x)) b
Good fip s (Either a b) = Good fip s a × Good fip s b
Good fip s (Bound a) = Good fip (λ x. lending (owns x a) (s x)) a
Good fip s (Scope k m a) = Good fip (bound m.id k s) a × IsUsed fip k m.id a
