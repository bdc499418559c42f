-- For the proofs alone: what is found of a function's instructions below a number. That is the least violation but S8,
-- the calls that can be reached, and the types at the Drops that can be.
use Rattle.std.specs.Prelude.{◌≡◌, ◌↔◌, ℕ, ◌<◌, Bool, true, false, List, Option, Some, None, length}
use Rattle.std.specs.Prelude.{slice_get}
use Rattle.call_groups.specs.CallGraph.{In}
use Rattle.cell_code.specs.declared.code.Instr.{Instr}
use Rattle.cell_code.specs.declared.kind.Kind.{Kind}
use Rattle.code_rules.specs.declared.rule.SoundRule.{SoundRule}
use Rattle.code_rules.specs.declared.rule.SoundRule.TheVariants.{S0, S1, S2, S3, S4, S5, S6, S7, S8, S9}
use Rattle.cell_code.specs.Plain.{PlainFunction, PlainCode}
use Rattle.code_rules.specs.Leaves.{Leaves}
use Rattle.code_rules.specs.Flow.{is_as_asked, IsInstr, Comes, KnownAt, IsReachedAt}
use Rattle.code_rules.specs.Endings.{is_end}
use Rattle.code_rules.specs.Calls.{IsCall}
use Rattle.code_rules.specs.Breaks.{BreaksWithin}
use Rattle.code_rows.specs.Noting.{Answers}
use Rattle.code_verify.specs.declared.walk.DropType.{DropType}
use Rattle.code_verify.specs.declared.walk.Found.{Found}
use Rattle.code_verify.specs.Checked.{HasMachineInt, ReachedDrop}
use Rattle.code_verify.specs.Steps.{call_to, waits_at, drops_at}

-- A rule is broken that can be checked of a function by itself: any but S8.
abbrev pub BreaksAlone : PlainCode → PlainFunction → ℕ → SoundRule → Type 0
BreaksAlone c f i S0 = ⊥
BreaksAlone c f i S1 = BreaksWithin c 0 f i S1
BreaksAlone c f i S2 = BreaksWithin c 0 f i S2
BreaksAlone c f i S3 = BreaksWithin c 0 f i S3
BreaksAlone c f i S4 = BreaksWithin c 0 f i S4
BreaksAlone c f i S5 = BreaksWithin c 0 f i S5
BreaksAlone c f i S6 = BreaksWithin c 0 f i S6
BreaksAlone c f i S7 = BreaksWithin c 0 f i S7
BreaksAlone c f i S8 = ⊥
BreaksAlone c f i S9 = ⊥

-- Instruction i is reached, and calls function g.
pub record ReachedCall (c : PlainCode) (f : PlainFunction) (i g : ℕ) (waits : Bool) : Type 0 where
  pub kinds : List Kind
  pub instr : Instr
  pub reached : IsReachedAt c f i kinds instr
  pub call : IsCall instr g waits
  pub there : g < length c.functions

-- where a walk is: what reaches instruction i, or that nothing does
abbrev pub Coming : PlainCode → PlainFunction → ℕ → Option (List Kind) → Type 0
Coming c f i None = (ks : List Kind) → Comes c f i ks → ⊥
Coming c f i (Some ks) = Comes c f i ks

abbrev pub Knowing : PlainCode → PlainFunction → ℕ → Option (List Kind) → Type 0
Knowing c f i None = (ks : List Kind) → KnownAt c f i ks → ⊥
Knowing c f i (Some ks) = KnownAt c f i ks

abbrev pub BrokenBelow : PlainCode → ℕ → PlainFunction → ℕ → ℕ → ℕ → SoundRule → Type 0
BrokenBelow c n f below m i rule = (m ≡ n) × (i < below) × BreaksAlone c f i rule

-- They are in the order of their instructions.
abbrev pub AreInOrder : List DropType → Type 0
AreInOrder ds =
    (j k : ℕ) (d e : DropType) → j < k → slice_get ds j ≡ Some d → slice_get ds k ≡ Some e → d.at < e.at

-- Ints that instructions below a number write have 64 bits.
abbrev pub HasMachineIntsBelow : PlainFunction → ℕ → Type 0
HasMachineIntsBelow f below = (i : ℕ) (x : Instr) → i < below → IsInstr f i x → HasMachineInt x

pub record IsFound (c : PlainCode) (n : ℕ) (f : PlainFunction) (below : ℕ) (r : Found) : Type 0 where
  pub least : Answers (BrokenBelow c n f below) r.least.first
  pub calls :
      (g : ℕ) (waits : Bool) →
      (In (call_to g waits) r.calls.items ↔ ((i : ℕ) × (i < below) × ReachedCall c f i g waits))
  pub waiting : (i g : ℕ) → (In (waits_at i g) r.waiting.items ↔ ((i < below) × ReachedCall c f i g true))
  pub drops : (i t : ℕ) → (In (drops_at i t) r.drops.items ↔ ((i < below) × ReachedDrop c f i t))
  pub in_order : AreInOrder r.drops.items
  pub flows :
      (i : ℕ) (ks : List Kind) (x : Instr) → i < below → IsReachedAt c f i ks x → is_as_asked c f i ks x ≡ true →
      is_end x ≡ false → (left : List Kind) × Leaves c ks x left
