-- It serves the proofs on lowered code: what the lowering of a function has written so far. Instructions are only
-- added, one after another. A jump or a test goes to a label, a number that gets its place once, before or after; in
-- the code the place stands for it. So what is said of a part is said of each code that has what was written there,
-- for each choice of places that keeps those that labels have. Test 0 1 5; Ret [0] where label 5 has the place 2 is in
-- the code Test 0 1 2; Ret [0].
use Rattle.std.specs.Prelude.{◌≡◌, ◌≤◌, ◌<◌, ℕ, List, [], ◌∷◌, ◌++◌, Option, Some, None, length, slice_get}
use Rattle.code_rules.specs.cell_code.declared.code.Instr.{Instr}
use Rattle.code_rules.specs.cell_code.declared.code.Instr.TheVariants as I
use Rattle.code_rules.specs.cell_code.Plain.{LabelMap}
use Rattle.code_rules.specs.Codes.{label_at}
use Rattle.lowering_relation.specs.Known.{joined}
use Rattle.lowering_relation.specs.LoweredBodies as B

-- the instructions, the places of the labels that have one, and what is reported of the registers at some places
pub record Written : Type 0 where
  pub instrs : List Instr
  pub places : List (Option ℕ)
  pub maps : List LabelMap

abbrev pub size : Written → ℕ
size w = length w.instrs

-- an instruction with the places of labels for the labels
abbrev pub settled : (ℕ → ℕ) → Instr → Instr
settled to (I.Const d v) = I.Const d v
settled to (I.Atom d t c) = I.Atom d t c
settled to (I.Move d r) = I.Move d r
settled to (I.Arith d o x y line col) = I.Arith d o x y line col
settled to (I.Test r c label) = I.Test r c (to label)
settled to (I.TestInt r v label) = I.TestInt r v (to label)
settled to (I.Peek d r i) = I.Peek d r i
settled to (I.Take r ds) = I.Take r ds
settled to (I.Put r t c ss) = I.Put r t c ss
settled to (I.Drop r) = I.Drop r
settled to (I.Free r) = I.Free r
settled to (I.Call f ss ds) = I.Call f ss ds
settled to (I.Tail f ss) = I.Tail f ss
settled to (I.Ret ss) = I.Ret ss
settled to (I.Jump label) = I.Jump (to label)

-- a label has this place
abbrev pub IsAt : Written → ℕ → ℕ → Type 0
IsAt w label p = joined (slice_get w.places label) ≡ Some p

-- nothing that was written changed
pub record Extends (v w : Written) : Type 0 where
  pub grows : size v ≤ size w
  pub same : (p : ℕ) (i : Instr) → slice_get v.instrs p ≡ Some i → slice_get w.instrs p ≡ Some i
  pub placed : (label p : ℕ) → IsAt v label p → IsAt w label p
  pub reported : (p : ℕ) → p < size v → label_at w.maps p ≡ label_at v.maps p

-- a code has what was written from n on, where labels are at these places
pub record HasFrom (n : ℕ) (w : Written) (to : ℕ → ℕ) (code : List Instr) : Type 0 where
  pub by : (p : ℕ) (i : Instr) → n ≤ p → slice_get w.instrs p ≡ Some i → slice_get code p ≡ Some (settled to i)
  pub at : (label p : ℕ) → IsAt w label p → to label ≡ p

-- this is so in each code that has what is written in w after v
abbrev pub InCode : Written → Written → (List Instr → Type 0) → Type 0
InCode v w P = (to : ℕ → ℕ) (code : List Instr) → HasFrom (size v) w to code → P code

-- with an instruction more
abbrev pub added : Written → Instr → Written
added w i = record w { instrs = w.instrs ++ i ∷ [] }

abbrev pub or_zero : Option ℕ → ℕ
or_zero None = 0
or_zero (Some p) = p

-- the places of labels, as the table reports them
abbrev pub place_of : List (Option ℕ) → ℕ → ℕ
place_of places label = or_zero (joined (slice_get places label))

-- instructions that only give up
pub record GivesUp (v w : Written) : Type 0 where
  pub extends : Extends v w
  pub only : (p : ℕ) → size v ≤ p → p < size w → B.GivesUp (slice_get w.instrs p)
