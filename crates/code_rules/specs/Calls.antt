-- Which functions of a code call which, and groups. A call counts where it is reached and its function is there, in a
-- function that keeps S9, whatever other rule it breaks. Two functions are of one group where calls lead from each to
-- the other; a function is of its own group.
--
-- In a code of two functions that call each other and a third that calls the first, the first two are of one group.
use Rattle.std.specs.Prelude.{◌≡◌, ◌↔◌, ℕ, zero, suc, ◌<◌, Bool, true, false, List, Some, length}
use Rattle.cell_code.specs.declared.code.Instr.{Instr}
use Rattle.cell_code.specs.declared.code.Instr.TheVariants as I
use Rattle.cell_code.specs.declared.kind.Kind.{Kind}
use Rattle.call_groups.specs.declared.search.Call.{Call}
use Rattle.call_groups.specs.CallGraph as G
use Rattle.cell_code.specs.Plain.{PlainFunction, PlainCode, function_at}
use Rattle.code_rules.specs.Headers.{is_formed}
use Rattle.code_rules.specs.Flow.{IsReachedAt}

-- The instruction calls function g, waiting for it or not.
abbrev pub IsCall : Instr → ℕ → Bool → Type 0
IsCall (I.Const d v) g waits = ⊥
IsCall (I.Atom d t k) g waits = ⊥
IsCall (I.Move d s) g waits = ⊥
IsCall (I.Arith d op a b line col) g waits = ⊥
IsCall (I.Test r k target) g waits = ⊥
IsCall (I.TestInt r v target) g waits = ⊥
IsCall (I.Peek d r i) g waits = ⊥
IsCall (I.Take r ds) g waits = ⊥
IsCall (I.Put d t k ss) g waits = ⊥
IsCall (I.Drop r) g waits = ⊥
IsCall (I.Free r) g waits = ⊥
IsCall (I.Call h rs ds) g waits = (h ≡ g) × (waits ≡ true)
IsCall (I.Tail h rs) g waits = (h ≡ g) × (waits ≡ false)
IsCall (I.Ret rs) g waits = ⊥
IsCall (I.Jump target) g waits = ⊥

-- Function n calls function g at instruction i.
pub record CallsAt (c : PlainCode) (n i g : ℕ) (waits : Bool) : Type 0 where
  pub function : PlainFunction
  pub is : function_at c n ≡ Some function
  pub formed : is_formed c function ≡ true
  pub kinds : List Kind
  pub instr : Instr
  pub reached : IsReachedAt c function i kinds instr
  pub call : IsCall instr g waits
  pub there : g < length c.functions

abbrev pub Calls : PlainCode → ℕ → ℕ → Bool → Type 0
Calls c a b waits = (i : ℕ) × CallsAt c a i b waits

-- n calls, one after another, lead from a to b.
abbrev pub Path : PlainCode → ℕ → ℕ → ℕ → Type 0
Path c zero a b = a ≡ b
Path c (suc n) a b = (g : ℕ) × ((waits : Bool) × Calls c a g waits) × Path c n g b

abbrev pub SameGroup : PlainCode → ℕ → ℕ → Type 0
SameGroup c a b = ((n : ℕ) × Path c n a b) × ((n : ℕ) × Path c n b a)

-- These rows list the code's calls, so that its groups are those of the rows.
abbrev pub AreRows : PlainCode → List (List Call) → Type 0
AreRows c rows = (a b : ℕ) (waits : Bool) → Calls c a b waits ↔ G.Calls rows a b waits
