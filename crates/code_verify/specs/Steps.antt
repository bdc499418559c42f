-- For the proofs alone: what one step of a walk requires of an instruction, what it keeps of it, and what it goes on
-- with.
use Rattle.std.specs.Prelude.{◌≡◌, ◌⊎◌, ℕ, ◌+◌, Bool, true, false, ◌&&◌, ◌||◌, not, List, [], ◌∷◌, ◌++◌, Option, Some}
use Rattle.std.specs.Prelude.{None, length, if◌then◌else◌, ◌==◌, nat_lt}
use Rattle.call_groups.specs.declared.search.Call.{Call}
use Rattle.cell_code.specs.declared.code.Instr.{Instr}
use Rattle.cell_code.specs.declared.code.Instr.TheVariants as I
use Rattle.cell_code.specs.declared.kind.Kind.{Kind}
use Rattle.cell_code.specs.declared.kind.Kind.TheVariants.{Gone, Scalar, Owned, Lent, Credit}
use Rattle.code_rules.specs.declared.rule.SoundRule.{SoundRule}
use Rattle.code_rules.specs.declared.rule.SoundRule.TheVariants.{S1, S4, S5, S7}
use Rattle.cell_code.specs.Plain.{PlainFunction, PlainCode}
use Rattle.code_rules.specs.Codes.{is_fip}
use Rattle.code_rules.specs.Kinds.{at}
use Rattle.code_rules.specs.Ranges.{in_range}
use Rattle.code_rules.specs.Leaves.{Leaves}
use Rattle.code_rules.specs.Flow.{is_as_asked}
use Rattle.code_rules.specs.Endings.{is_end, releases}
use Rattle.code_rows.specs.declared.least.Violation.{Violation}
use Rattle.code_rows.specs.Noting.{noted_unless, noted_all}
use Rattle.code_rows.specs.Rows.{row_kept, fit_at}
use Rattle.code_verify.specs.declared.walk.Waiting.{Waiting}
use Rattle.code_verify.specs.declared.walk.DropType.{DropType}
use Rattle.code_verify.specs.declared.walk.Found.{Found}

-- the kinds of a label map where there is one, else those that come
abbrev pub here : Option (List Kind) → Option (List Kind) → Option (List Kind)
here None cur = cur
here (Some m) cur = Some m

abbrev pub last_kept : PlainFunction → ℕ → Instr → Bool
last_kept f i x = not (i + 1 == length f.instrs) || is_end x

abbrev pub fip_kept : PlainCode → PlainFunction → Instr → Bool
fip_kept c f x = not (is_fip f.kind && releases c x)

-- all rules that are required of a reached instruction itself
abbrev pub known_kept : PlainCode → PlainFunction → ℕ → List Kind → Instr → List (Bool × SoundRule)
known_kept c f i ks x =
    (in_range c f i x, S1) ∷ (last_kept f i x, S4) ∷ (fip_kept c f x, S7)
    ∷ (if in_range c f i x then row_kept c f ks x else [])

-- What is left fits the label map of the next instruction, where that is reached.
abbrev pub fits_next : PlainFunction → ℕ → Bool → List Kind → Bool
fits_next f i true left = fit_at f.labels (i + 1) left
fits_next f i false left = true

abbrev pub asked : PlainCode → ℕ → PlainFunction → ℕ → List Kind → Instr → Bool → List Kind → Option Violation →
    Option Violation
asked c n f i ks x goes left o = noted_unless n i (fits_next f i goes left) S5 (noted_all n i o (known_kept c f i ks x))

-- The instruction goes on to the next one, with these kinds, or doesn't.
abbrev pub GoesFrom : PlainCode → PlainFunction → ℕ → List Kind → Instr → Bool → List Kind → Type 0
GoesFrom c f i ks x true left = (is_as_asked c f i ks x ≡ true) × Leaves c ks x left
GoesFrom c f i ks x false left = (is_as_asked c f i ks x ≡ false) ⊎ (is_end x ≡ true)

-- The same where kinds before it are known or not.
abbrev pub GoesAfter : PlainCode → PlainFunction → ℕ → Option (List Kind) → Instr → Bool → List Kind → Type 0
GoesAfter c f i None x goes left = goes ≡ false
GoesAfter c f i (Some ks) x goes left = GoesFrom c f i ks x goes left

-- ---- what is kept of an instruction

abbrev pub call_to : ℕ → Bool → Call
call_to g k = record { callee = g; waits = k }

abbrev pub call_if : PlainCode → ℕ → Bool → List Call
call_if c g k = if nat_lt g (length c.functions) then (call_to g k ∷ []) else []

abbrev pub calls_of_instr : PlainCode → Instr → List Call
calls_of_instr c (I.Const d v) = []
calls_of_instr c (I.Atom d t k) = []
calls_of_instr c (I.Move d s) = []
calls_of_instr c (I.Arith d op a b line col) = []
calls_of_instr c (I.Test r k target) = []
calls_of_instr c (I.TestInt r v target) = []
calls_of_instr c (I.Peek d r i) = []
calls_of_instr c (I.Take r ds) = []
calls_of_instr c (I.Put d t k ss) = []
calls_of_instr c (I.Drop r) = []
calls_of_instr c (I.Free r) = []
calls_of_instr c (I.Call g rs ds) = call_if c g true
calls_of_instr c (I.Tail g rs) = call_if c g false
calls_of_instr c (I.Ret rs) = []
calls_of_instr c (I.Jump target) = []

abbrev pub waits_at : ℕ → ℕ → Waiting
waits_at i g = record { at = i; callee = g }

abbrev pub waiting_if : PlainCode → ℕ → ℕ → Bool → List Waiting
waiting_if c i g k = if nat_lt g (length c.functions) && k then (waits_at i g ∷ []) else []

abbrev pub waiting_of_instr : PlainCode → ℕ → Instr → List Waiting
waiting_of_instr c i (I.Const d v) = []
waiting_of_instr c i (I.Atom d t k) = []
waiting_of_instr c i (I.Move d s) = []
waiting_of_instr c i (I.Arith d op a b line col) = []
waiting_of_instr c i (I.Test r k target) = []
waiting_of_instr c i (I.TestInt r v target) = []
waiting_of_instr c i (I.Peek d r k) = []
waiting_of_instr c i (I.Take r ds) = []
waiting_of_instr c i (I.Put d t k ss) = []
waiting_of_instr c i (I.Drop r) = []
waiting_of_instr c i (I.Free r) = []
waiting_of_instr c i (I.Call g rs ds) = waiting_if c i g true
waiting_of_instr c i (I.Tail g rs) = waiting_if c i g false
waiting_of_instr c i (I.Ret rs) = []
waiting_of_instr c i (I.Jump target) = []

abbrev pub drops_at : ℕ → ℕ → DropType
drops_at i t = record { at = i; ty = t }

-- the type of the tree that is released from a register of this kind
abbrev pub drop_if : ℕ → Kind → List DropType
drop_if i Gone = []
drop_if i (Scalar t) = []
drop_if i (Owned t s) = drops_at i t ∷ []
drop_if i (Lent t s root from) = []
drop_if i (Credit k) = []

abbrev pub drops_of_instr : List Kind → ℕ → Instr → List DropType
drops_of_instr ks i (I.Const d v) = []
drops_of_instr ks i (I.Atom d t k) = []
drops_of_instr ks i (I.Move d s) = []
drops_of_instr ks i (I.Arith d op a b line col) = []
drops_of_instr ks i (I.Test r k target) = []
drops_of_instr ks i (I.TestInt r v target) = []
drops_of_instr ks i (I.Peek d r k) = []
drops_of_instr ks i (I.Take r ds) = []
drops_of_instr ks i (I.Put d t k ss) = []
drops_of_instr ks i (I.Drop r) = drop_if i (at ks r)
drops_of_instr ks i (I.Free r) = []
drops_of_instr ks i (I.Call g rs ds) = []
drops_of_instr ks i (I.Tail g rs) = []
drops_of_instr ks i (I.Ret rs) = []
drops_of_instr ks i (I.Jump target) = []

-- what a step finds at a reached instruction
pub record TookKnown (c : PlainCode) (n : ℕ) (f : PlainFunction) (i : ℕ) (ks : List Kind) (x : Instr) (goes : Bool)
    (left : List Kind) (old new : Found) : Type 0 where
  pub least : new.least.first ≡ asked c n f i ks x goes left old.least.first
  pub calls : new.calls.items ≡ old.calls.items ++ calls_of_instr c x
  pub waiting : new.waiting.items ≡ old.waiting.items ++ waiting_of_instr c i x
  pub drops : new.drops.items ≡ old.drops.items ++ drops_of_instr ks i x

-- the same at one that isn't reached
pub record TookUnknown (c : PlainCode) (n : ℕ) (f : PlainFunction) (i : ℕ) (x : Instr) (old new : Found) : Type 0 where
  pub least : new.least.first ≡ noted_unless n i (in_range c f i x) S1 old.least.first
  pub calls : new.calls.items ≡ old.calls.items
  pub waiting : new.waiting.items ≡ old.waiting.items
  pub drops : new.drops.items ≡ old.drops.items

abbrev pub Took : PlainCode → ℕ → PlainFunction → ℕ → Option (List Kind) → Instr → Bool → List Kind → Found →
    Found → Type 0
Took c n f i None x goes left old new = TookUnknown c n f i x old new
Took c n f i (Some ks) x goes left old new = TookKnown c n f i ks x goes left old new
