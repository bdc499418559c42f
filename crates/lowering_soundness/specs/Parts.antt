-- It serves the proof that lowered code is sound: a part of a function's code, from one place to another, where the
-- kinds are reported at both. What reaches its first instruction is as reported there, and a label there takes it; then
-- each instruction of the part keeps the rules, and so it is after the part.
use Rattle.std.specs.Prelude.{◌≡◌, ◌⊎◌, ℕ, suc, ◌<◌, ◌≤◌, Bool, true, false, List, Some, None, length}
use Rattle.separation.specs.cell_code.declared.code.Instr.{Instr}
use Rattle.separation.specs.cell_code.declared.code.Instr.TheVariants as I
use Rattle.separation.specs.cell_code.declared.kind.Kind.{Kind}
use Rattle.separation.specs.cell_code.Plain.{PlainFunction, PlainCode}
use Rattle.separation.specs.code_rules.Codes.{label_at, is_fip}
use Rattle.separation.specs.code_rules.Fitting.{fit_all}
use Rattle.separation.specs.code_rules.Ranges.{in_range}
use Rattle.separation.specs.code_rules.Asked.{sources, destinations}
use Rattle.separation.specs.code_rules.Endings.{is_end, spends_all, releases}
use Rattle.separation.specs.code_rules.Leaves.{Leaves, Jumps}
use Rattle.separation.specs.code_rules.Flow.{Comes, IsReachedAt}
use Rattle.lowering_relation.specs.Labels.{Takes}
use Rattle.lowering_soundness.specs.Covering.{Covered}

-- kinds that reach instruction p from the one before it, where there is no label, are as reported
abbrev pub Arrives : PlainCode → PlainFunction → ℕ → (ℕ → Kind) → Type 0
Arrives c f p m = label_at f.labels p ≡ None → (ks : List Kind) → Comes c f p ks → Covered f.registers m ks

-- a label at p takes what is reported
abbrev pub Admits : PlainFunction → ℕ → (ℕ → Kind) → Type 0
Admits f p m = (map : List Kind) → label_at f.labels p ≡ Some map → Takes f.registers map m

-- where instruction i, which is x, goes on with these kinds
abbrev pub Onward : PlainCode → List Kind → ℕ → Instr → ℕ → List Kind → Type 0
Onward c ks i x j left = ((j ≡ suc i) × Leaves c ks x left) ⊎ Jumps ks x j left

-- instruction i, reached with these kinds, breaks no rule that requires them
pub record Keeps (c : PlainCode) (f : PlainFunction) (i : ℕ) (ks : List Kind) (x : Instr) : Type 0 where
  pub sources : sources c f ks x ≡ true
  pub destinations : destinations c ks x ≡ true
  pub last : suc i ≡ length f.instrs → is_end x ≡ true
  pub fits : (j : ℕ) (left map : List Kind) → Onward c ks i x j left → label_at f.labels j ≡ Some map →
      fit_all map left ≡ true
  pub spends : spends_all c f ks x ≡ true

abbrev pub IsKept : PlainCode → PlainFunction → ℕ → Type 0
IsKept c f i = (ks : List Kind) (x : Instr) → IsReachedAt c f i ks x → Keeps c f i ks x

-- its numbers are in range, and in a fip function it releases nothing
pub record IsRanged (c : PlainCode) (f : PlainFunction) (i : ℕ) (x : Instr) : Type 0 where
  pub ranged : in_range c f i x ≡ true
  pub fip : is_fip f.kind ≡ true → releases c x ≡ false

-- instructions from a up to b
abbrev pub AreKept : PlainCode → PlainFunction → ℕ → ℕ → Type 0
AreKept c f a b = (p : ℕ) → a ≤ p → p < b → IsKept c f p

-- a part from a, where m is reported, up to b, where l is reported and the code goes on
pub record Part (c : PlainCode) (f : PlainFunction) (a : ℕ) (m : ℕ → Kind) (b : ℕ) (l : ℕ → Kind) : Type 0 where
  pub grows : a ≤ b
  pub admits : Admits f b l → Admits f a m
  pub kept : b < length f.instrs → Admits f b l → Arrives c f a m → AreKept c f a b
  pub arrives : Arrives c f a m → Arrives c f b l

-- a part from a, where m is reported, up to b, to which nothing goes on from before it
pub record LastPart (c : PlainCode) (f : PlainFunction) (a : ℕ) (m : ℕ → Kind) (b : ℕ) : Type 0 where
  pub grows : a < b
  pub inside : a < length f.instrs
  pub admits : Admits f a m
  pub kept : Arrives c f a m → AreKept c f a b
  pub ends : (ks : List Kind) → Comes c f b ks → ⊥

-- The next instruction follows, and it goes nowhere else.
abbrev pub is_straight : Instr → Bool
is_straight (I.Const d v) = true
is_straight (I.Atom d t k) = true
is_straight (I.Move d s) = true
is_straight (I.Arith d op a b line col) = true
is_straight (I.Test r k target) = false
is_straight (I.TestInt r v target) = false
is_straight (I.Peek d r i) = true
is_straight (I.Take r ds) = true
is_straight (I.Put d t k ss) = true
is_straight (I.Drop r) = true
is_straight (I.Free r) = true
is_straight (I.Call g rs ds) = true
is_straight (I.Tail g rs) = false
is_straight (I.Ret rs) = false
is_straight (I.Jump target) = false
