-- S4, S6 and S7: what may be last, what may be left at an end, and what a fip function may not do.
--
-- In a fip function `Drop 0` breaks S7, and so does a call of an fbip function. `Ret (1 ∷ [])` breaks S6 where register
-- 0 still owns a tree or is a credit.
use Rattle.std.specs.Prelude.{Bool, true, false, List, Option, Some, None}
use Rattle.cell_code.specs.declared.code.Instr.{Instr}
use Rattle.cell_code.specs.declared.code.Instr.TheVariants as I
use Rattle.cell_code.specs.declared.kind.Kind.{Kind}
use Rattle.cell_code.specs.Plain.{PlainFunction, PlainCode}
use Rattle.code_rules.specs.Codes.{is_weaker}
use Rattle.code_rules.specs.Kinds.{are_free}
use Rattle.code_rules.specs.Handing.{give_all}
use Rattle.code_rules.specs.Asked.{tail_left}

-- No instruction follows it.
abbrev pub is_end : Instr → Bool
is_end (I.Const d v) = false
is_end (I.Atom d t k) = false
is_end (I.Move d s) = false
is_end (I.Arith d op a b line col) = false
is_end (I.Test r k target) = false
is_end (I.TestInt r v target) = false
is_end (I.Peek d r i) = false
is_end (I.Take r ds) = false
is_end (I.Put d t k ss) = false
is_end (I.Drop r) = false
is_end (I.Free r) = false
is_end (I.Call g rs ds) = false
is_end (I.Tail g rs) = true
is_end (I.Ret rs) = true
is_end (I.Jump target) = true

abbrev pub nothing_owned : Option (List Kind) → Bool
nothing_owned None = true
nothing_owned (Some left) = are_free left

-- Where the frame ends as required, nothing owned and no credit is left.
abbrev pub spends_all : PlainCode → PlainFunction → List Kind → Instr → Bool
spends_all c f ks (I.Const d v) = true
spends_all c f ks (I.Atom d t k) = true
spends_all c f ks (I.Move d s) = true
spends_all c f ks (I.Arith d op a b line col) = true
spends_all c f ks (I.Test r k target) = true
spends_all c f ks (I.TestInt r v target) = true
spends_all c f ks (I.Peek d r i) = true
spends_all c f ks (I.Take r ds) = true
spends_all c f ks (I.Put d t k ss) = true
spends_all c f ks (I.Drop r) = true
spends_all c f ks (I.Free r) = true
spends_all c f ks (I.Call g rs ds) = true
spends_all c f ks (I.Tail g rs) = nothing_owned (tail_left c f ks g rs)
spends_all c f ks (I.Ret rs) = nothing_owned (give_all ks rs f.results)
spends_all c f ks (I.Jump target) = true

-- It releases cells, or calls a function that may.
abbrev pub releases : PlainCode → Instr → Bool
releases c (I.Const d v) = false
releases c (I.Atom d t k) = false
releases c (I.Move d s) = false
releases c (I.Arith d op a b line col) = false
releases c (I.Test r k target) = false
releases c (I.TestInt r v target) = false
releases c (I.Peek d r i) = false
releases c (I.Take r ds) = false
releases c (I.Put d t k ss) = false
releases c (I.Drop r) = true
releases c (I.Free r) = true
releases c (I.Call g rs ds) = is_weaker c g
releases c (I.Tail g rs) = is_weaker c g
releases c (I.Ret rs) = false
releases c (I.Jump target) = false
