-- Sound code: what breaks each of its rules, the least violation, and that there is none.
--
-- A code that breaks S0 is checked for nothing else, and a function that breaks S9 is checked for nothing else. An
-- instruction that is never reached is checked for S1 alone, and one that breaks S1 neither S2 nor S3. S5 is named at
-- the instruction that the kinds come from, and S0 and S9 at instruction 0.
use Rattle.std.specs.Prelude.{◌≡◌, ◌⊎◌, ℕ, suc, ◌<◌, ◌≤◌, true, false, List, Some, length}
use Rattle.cell_code.specs.declared.code.Instr.{Instr}
use Rattle.cell_code.specs.declared.kind.Kind.{Kind}
use Rattle.code_rules.specs.declared.rule.SoundRule.{SoundRule}
use Rattle.code_rules.specs.declared.rule.SoundRule.TheVariants.{S0, S1, S2, S3, S4, S5, S6, S7, S8, S9}
use Rattle.cell_code.specs.Plain.{PlainFunction, PlainCode, function_at}
use Rattle.code_rules.specs.Codes.{label_at, is_fip}
use Rattle.code_rules.specs.Tables.{AreSoundTables}
use Rattle.code_rules.specs.Headers.{is_formed}
use Rattle.code_rules.specs.Fitting.{fit_all}
use Rattle.code_rules.specs.Ranges.{in_range}
use Rattle.code_rules.specs.Asked.{sources, destinations}
use Rattle.code_rules.specs.Flow.{IsInstr, IsReachedAt, GoesTo}
use Rattle.code_rules.specs.Endings.{is_end, spends_all, releases}
use Rattle.code_rules.specs.Calls.{CallsAt, SameGroup}

-- a number out of range, or no such target
pub record BreaksRange (c : PlainCode) (f : PlainFunction) (i : ℕ) : Type 0 where
  pub instr : Instr
  pub is : IsInstr f i instr
  pub breaks : in_range c f i instr ≡ false

-- a source that isn't as required
pub record BreaksSource (c : PlainCode) (f : PlainFunction) (i : ℕ) : Type 0 where
  pub kinds : List Kind
  pub instr : Instr
  pub reached : IsReachedAt c f i kinds instr
  pub ranged : in_range c f i instr ≡ true
  pub breaks : sources c f kinds instr ≡ false

-- a destination that isn't as required
pub record BreaksDestination (c : PlainCode) (f : PlainFunction) (i : ℕ) : Type 0 where
  pub kinds : List Kind
  pub instr : Instr
  pub reached : IsReachedAt c f i kinds instr
  pub ranged : in_range c f i instr ≡ true
  pub breaks : destinations c kinds instr ≡ false

-- the last instruction, which others would have to follow
pub record BreaksLast (c : PlainCode) (f : PlainFunction) (i : ℕ) : Type 0 where
  pub kinds : List Kind
  pub instr : Instr
  pub reached : IsReachedAt c f i kinds instr
  pub last : suc i ≡ length f.instrs
  pub breaks : is_end instr ≡ false

-- kinds on arrival that don't fit the label map
pub record BreaksLabel (c : PlainCode) (f : PlainFunction) (i : ℕ) : Type 0 where
  pub target : ℕ
  pub left : List Kind
  pub map : List Kind
  pub goes : GoesTo c f i target left
  pub label : label_at f.labels target ≡ Some map
  pub breaks : fit_all map left ≡ false

-- something owned or a credit that is left at an end
pub record BreaksEnd (c : PlainCode) (f : PlainFunction) (i : ℕ) : Type 0 where
  pub kinds : List Kind
  pub instr : Instr
  pub reached : IsReachedAt c f i kinds instr
  pub ranged : in_range c f i instr ≡ true
  pub breaks : spends_all c f kinds instr ≡ false

-- a fip function that releases cells
pub record BreaksFip (c : PlainCode) (f : PlainFunction) (i : ℕ) : Type 0 where
  pub kinds : List Kind
  pub instr : Instr
  pub reached : IsReachedAt c f i kinds instr
  pub fip : is_fip f.kind ≡ true
  pub breaks : releases c instr ≡ true

-- a fip function that calls one of its own group and waits for it
pub record BreaksGroup (c : PlainCode) (n : ℕ) (f : PlainFunction) (i : ℕ) : Type 0 where
  pub callee : ℕ
  pub calls : CallsAt c n i callee true
  pub fip : is_fip f.kind ≡ true
  pub breaks : SameGroup c n callee

-- what function n, which is f and keeps S9, breaks at instruction i
abbrev pub BreaksWithin : PlainCode → ℕ → PlainFunction → ℕ → SoundRule → Type 0
BreaksWithin c n f i S0 = ⊥
BreaksWithin c n f i S1 = BreaksRange c f i
BreaksWithin c n f i S2 = BreaksSource c f i
BreaksWithin c n f i S3 = BreaksDestination c f i
BreaksWithin c n f i S4 = BreaksLast c f i
BreaksWithin c n f i S5 = BreaksLabel c f i
BreaksWithin c n f i S6 = BreaksEnd c f i
BreaksWithin c n f i S7 = BreaksFip c f i
BreaksWithin c n f i S8 = BreaksGroup c n f i
BreaksWithin c n f i S9 = ⊥

-- S9 alone, or, without it, the rules of instructions
abbrev pub BreaksFunction : PlainCode → ℕ → PlainFunction → ℕ → SoundRule → Type 0
BreaksFunction c n f i rule =
    ((is_formed c f ≡ false) × (i ≡ 0) × (rule ≡ S9)) ⊎ ((is_formed c f ≡ true) × BreaksWithin c n f i rule)

-- The code breaks a rule, at an instruction of a function.
abbrev pub Breaks : PlainCode → ℕ → ℕ → SoundRule → Type 0
Breaks c n i rule =
    ((AreSoundTables c → ⊥) × (n ≡ 0) × (i ≡ 0) × (rule ≡ S0))
    ⊎ (AreSoundTables c × ((f : PlainFunction) × (function_at c n ≡ Some f) × BreaksFunction c n f i rule))

-- A code is sound where it breaks nothing.
abbrev pub IsSound : PlainCode → Type 0
IsSound c = (n i : ℕ) (rule : SoundRule) → Breaks c n i rule → ⊥

-- the digit of a rule's name
abbrev pub digit : SoundRule → ℕ
digit S0 = 0
digit S1 = 1
digit S2 = 2
digit S3 = 3
digit S4 = 4
digit S5 = 5
digit S6 = 6
digit S7 = 7
digit S8 = 8
digit S9 = 9

-- The first violation comes before the other, or is it: by function, then instruction, then rule.
abbrev pub IsBefore : ℕ → ℕ → SoundRule → ℕ → ℕ → SoundRule → Type 0
IsBefore n i rule m j other =
    (n < m) ⊎ ((n ≡ m) × ((i < j) ⊎ ((i ≡ j) × (digit rule ≤ digit other))))

-- The violation that is named where a code isn't sound.
pub record IsLeast (c : PlainCode) (n i : ℕ) (rule : SoundRule) : Type 0 where
  pub breaks : Breaks c n i rule
  pub least : (m j : ℕ) (other : SoundRule) → Breaks c m j other → IsBefore n i rule m j other
