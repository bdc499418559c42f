-- For the proofs alone: what is found of the functions of a code below a number, and what is noted of S8.
use Rattle.std.specs.Prelude.{◌≡◌, ◌↔◌, ◌⊎◌, ℕ, ◌<◌, Bool, true, false, ◌==◌, not, List, [], ◌∷◌, length, Option, Some}
use Rattle.std.specs.Prelude.{None, slice_get, if◌then◌else◌, ◌+◌}
use Rattle.std.specs.declared.vec.Vec.{Vec}
use Rattle.std.specs.declared.alloc.Global.{Global}
use Rattle.call_groups.specs.CallGraph.{In, group_number}
use Rattle.call_groups.specs.declared.search.Call.{Call}
use Rattle.call_groups.specs.declared.search.Partition.{Partition}
use Rattle.cell_code.specs.declared.code.Function.{Function}
use Rattle.cell_code.specs.declared.code.Instr.{Instr}
use Rattle.cell_code.specs.declared.kind.Kind.{Kind}
use Rattle.code_rules.specs.declared.rule.SoundRule.{SoundRule}
use Rattle.code_rules.specs.declared.rule.SoundRule.TheVariants.{S8, S9}
use Rattle.cell_code.specs.Plain.{PlainFunction, PlainCode, function_at}
use Rattle.code_rules.specs.Codes.{is_fip}
use Rattle.code_rules.specs.Limits.{frame_words}
use Rattle.code_rules.specs.Headers.{is_formed}
use Rattle.code_rules.specs.Leaves.{Leaves}
use Rattle.code_rules.specs.Flow.{is_as_asked, IsInstr, IsReachedAt}
use Rattle.code_rules.specs.Endings.{is_end}
use Rattle.code_rules.specs.Calls.{Calls, CallsAt}
use Rattle.code_rules.specs.Breaks.{BreaksGroup}
use Rattle.code_rows.specs.declared.least.Violation.{Violation}
use Rattle.code_rows.specs.Noting.{noted_unless, Answers}
use Rattle.code_verify.specs.declared.walk.Waiting.{Waiting}
use Rattle.code_verify.specs.declared.walk.DropType.{DropType}
use Rattle.code_verify.specs.declared.walk.Found.{Found}
use Rattle.code_verify.specs.Steps.{call_to, waits_at, drops_at}
use Rattle.code_verify.specs.Finding.{BreaksAlone, AreInOrder}
use Rattle.code_verify.specs.Checked.{HasMachineInt, ReleasesAt}

-- S9 alone, or the rules but S8 that function n breaks
abbrev pub BreaksOther : PlainCode → ℕ → ℕ → SoundRule → Type 0
BreaksOther c n i r =
    (f : PlainFunction) × (function_at c n ≡ Some f) ×
    (((is_formed c f ≡ false) × (i ≡ 0) × (r ≡ S9)) ⊎ ((is_formed c f ≡ true) × BreaksAlone c f i r))

abbrev pub BreaksOwn : PlainCode → ℕ → ℕ → SoundRule → Type 0
BreaksOwn c n i r =
    (f : PlainFunction) × (function_at c n ≡ Some f) × (is_formed c f ≡ true) × BreaksGroup c n f i × (r ≡ S8)

-- Each instruction of function n that is as required and isn't an end leaves kinds.
abbrev pub Flows : PlainCode → ℕ → Type 0
Flows c n =
    (f : PlainFunction) → function_at c n ≡ Some f → is_formed c f ≡ true → (i : ℕ) (ks : List Kind) (x : Instr) →
    IsReachedAt c f i ks x → is_as_asked c f i ks x ≡ true → is_end x ≡ false → (left : List Kind) × Leaves c ks x left

-- Each int that function n writes has 64 bits, where the function keeps S9.
abbrev pub HasMachineIntsAt : PlainCode → ℕ → Type 0
HasMachineIntsAt c n =
    (f : PlainFunction) → function_at c n ≡ Some f → is_formed c f ≡ true → (i : ℕ) (x : Instr) → IsInstr f i x →
    HasMachineInt x

-- what is found of function n
pub record IsRow (c : PlainCode) (n : ℕ) (calls : List Call) (waiting : List Waiting) (drops : List DropType)
    : Type 0 where
  pub calls_are : (g : ℕ) (waits : Bool) → (In (call_to g waits) calls ↔ Calls c n g waits)
  pub waiting_are : (i g : ℕ) → (In (waits_at i g) waiting ↔ CallsAt c n i g true)
  pub drops_are : (i t : ℕ) → (In (drops_at i t) drops ↔ ReleasesAt c n i t)
  pub in_order : AreInOrder drops
  pub flows : Flows c n
  pub literals : HasMachineIntsAt c n

pub record IsFoundOf (c : PlainCode) (n : ℕ) (r : Found) : Type 0 where
  pub least : Answers (λ m i rule. (m ≡ n) × BreaksOther c n i rule) r.least.first
  pub row : IsRow c n r.calls.items r.waiting.items r.drops.items

abbrev pub items_or_none : {A : Type 0} → Option (Vec A Global) → List A
items_or_none None = []
items_or_none (Some v) = v.items

-- the list at a place of a list of lists; past its end, none
abbrev pub row_at : {A : Type 0} → List (Vec A Global) → ℕ → List A
row_at vs n = items_or_none (slice_get vs n)

-- what is found of each function below a number
pub record AreRowsBelow (c : PlainCode) (below : ℕ) (calls : List (Vec Call Global))
    (waiting : List (Vec Waiting Global)) (drops : List (Vec DropType Global)) : Type 0 where
  pub calls_long : length calls ≡ below
  pub waiting_long : length waiting ≡ below
  pub drops_long : length drops ≡ below
  pub rows : (n : ℕ) → n < below → IsRow c n (row_at calls n) (row_at waiting n) (row_at drops n)

abbrev pub OtherBelow : PlainCode → ℕ → ℕ → ℕ → SoundRule → Type 0
OtherBelow c below n i r = (n < below) × BreaksOther c n i r

-- ---- S8

-- calls of the own group are noted
abbrev pub own_noted : Partition → ℕ → Option Violation → List Waiting → Option Violation
own_noted p n o [] = o
own_noted p n o (w ∷ ws) =
    own_noted p n (noted_unless n w.at (not (group_number p w.callee == group_number p n)) S8 o) ws

-- all but S8, and S8 of the functions below a number
abbrev pub OwnBelow : PlainCode → ℕ → ℕ → ℕ → ℕ → SoundRule → Type 0
OwnBelow c all below n i r = OtherBelow c all n i r ⊎ ((n < below) × BreaksOwn c n i r)

-- ---- frames

abbrev pub frame_of : Function → Option ℕ
frame_of f = if is_fip f.kind then Some (f.registers + frame_words) else None
