-- What each instruction does that isn't a call or a return: where the function goes on, the words of its registers, and
-- what happens to the cells. Registers hold words, and nothing says here what a word stands for, but for Drop, whose
-- tree has the type that its register's kind has.
-- With Cons(1, Nil) in cell 0, Take 0 [2, 3] where register 0 has the word 1: 2 has then the word 1 (the int) and 3 the
-- word 0 (Nil), 0 keeps its word, and nothing happens to the cell. Put 0 2 1 [2, 1] then writes constructor 1 and the
-- words of registers 2 and 1 into cell 0.
use Rattle.std.specs.Prelude.{ℕ, ◌+◌, ◌/◌, ℤ, Bool, true, false, List, [], ◌∷◌, Option, Some, None, slice_get}
use Rattle.std.specs.Prelude.{slice_set, option_and_then, option_map, length, map, nat_lt, ◌==◌, if◌then◌else◌}
use Rattle.cell_code.specs.fip_language.declared.Operator.{Operator}
use Rattle.cell_code.specs.fip_language.declared.TrapKind.{TrapKind}
use Rattle.cell_code.specs.fip_language.Table.{Table}
use Rattle.cell_code.specs.fip_language.Matching.{same_int}
use Rattle.cell_code.specs.fip_language.Arithmetic.{Operated, Is, Fails, operate}
use Rattle.cell_code.specs.fip_language.Store.{Cell, int_word, places}
use Rattle.cell_code.specs.declared.code.Instr.{Instr}
use Rattle.cell_code.specs.declared.code.Instr.TheVariants as I
use Rattle.cell_code.specs.declared.kind.Kind.{Kind}
use Rattle.cell_code.specs.declared.kind.Kind.TheVariants as K
use Rattle.machine_semantics.specs.Words.{atom_word, is_place, place_of, int_of, scalar_word}
use Rattle.machine_semantics.specs.Cells.{Store, cell_at, Change, Write, Release}
use Rattle.machine_semantics.specs.Trees.{tree_of}
use Rattle.machine_semantics.specs.States.{State}

-- where the function goes on, its registers' words, and what happens to cells
pub record Done : Type 0 where
  pub at : ℕ
  pub words : List ℕ
  pub changes : List Change

-- registers

abbrev pub register : State → ℕ → Option ℕ
register s r = slice_get s.running.words r

-- words with w in a register that is there
abbrev pub write : List ℕ → ℕ → ℕ → Option (List ℕ)
write ws d w = if nat_lt d (length ws) then Some (slice_set ws d w) else None

-- the registers get one word each, the first one first
abbrev pub write_all : List ℕ → List ℕ → List ℕ → Option (List ℕ)
write_all ws [] [] = Some ws
write_all ws [] (v ∷ vs) = None
write_all ws (d ∷ ds) [] = None
write_all ws (d ∷ ds) (v ∷ vs) = option_and_then (λ us. write_all us ds vs) (write ws d v)

abbrev pub and_word : ℕ → Option (List ℕ) → Option (List ℕ)
and_word w None = None
and_word w (Some ws) = Some (w ∷ ws)

-- the words of registers
abbrev pub read_all : List ℕ → List ℕ → Option (List ℕ)
read_all ws [] = Some []
read_all ws (r ∷ rs) = option_and_then (λ w. and_word w (read_all ws rs)) (slice_get ws r)

-- cells that words name

abbrev pub cell_if : Store → Option ℕ → Option Cell
cell_if s None = None
cell_if s (Some p) = cell_at s p

-- the cell that a word names
abbrev pub named : Store → ℕ → Option Cell
named s w = cell_if s (place_of w)

abbrev pub constructor_if : Store → ℕ → Bool → Option ℕ
constructor_if s h true = option_map (λ c. c.tag) (cell_at s h)
constructor_if s h false = Some h

-- the constructor of a word: of its cell, or without fields
abbrev pub constructor_of : Store → ℕ → Option ℕ
constructor_of s w = constructor_if s (w / 2) (is_place w)

-- going on

-- at the next instruction, with these words
abbrev pub on : State → Option (List ℕ) → Option Done
on s None = None
on s (Some ws) = Some (record { at = s.running.at + 1; words = ws; changes = [] })

-- at the next instruction, where this happens to the cells
abbrev pub on_with : State → Option (List Change) → Option Done
on_with s None = None
on_with s (Some cs) = Some (record { at = s.running.at + 1; words = s.running.words; changes = cs })

-- at the target
abbrev pub off : State → ℕ → Option Done
off s target = Some (record { at = target; words = s.running.words; changes = [] })

-- at the next instruction where the test holds, else at the target
abbrev pub branch : State → ℕ → Option Bool → Option Done
branch s target None = None
branch s target (Some true) = on s (Some s.running.words)
branch s target (Some false) = off s target

-- a constructor without fields has none
abbrev pub taken : State → ℕ → List ℕ → Option (List ℕ)
taken s r [] = Some s.running.words
taken s r (d ∷ ds) = option_and_then (λ c. write_all s.running.words (d ∷ ds) c.fields)
    (option_and_then (λ w. named s.store w) (register s r))

abbrev pub peeked : State → ℕ → ℕ → Option ℕ
peeked s r i = option_and_then (λ c. slice_get c.fields i) (option_and_then (λ w. named s.store w) (register s r))

-- the place that a register's word names
abbrev pub place_in : State → ℕ → Option ℕ
place_in s r = option_and_then (λ w. place_of w) (register s r)

abbrev pub put : State → ℕ → ℕ → List ℕ → Option (List Change)
put s r c ss = option_and_then (λ p. option_map (λ ws. Write p c ws ∷ []) (read_all s.running.words ss)) (place_in s r)

abbrev pub freed : State → ℕ → Option (List Change)
freed s r = option_map (λ p. Release p ∷ []) (place_in s r)

-- the type of an owned tree
abbrev pub owned_type : Option Kind → Option ℕ
owned_type None = None
owned_type (Some K.Gone) = None
owned_type (Some (K.Scalar t)) = None
owned_type (Some (K.Owned t cs)) = Some t
owned_type (Some (K.Lent t cs root from)) = None
owned_type (Some (K.Credit k)) = None

-- The tree's cells are released: the root's first, then those of the fields from left to right, each field's whole tree
-- before the next.
abbrev pub dropped : Table → State → ℕ → Option ℕ → Option (List Change)
dropped tb s w None = None
dropped tb s w (Some t) = option_map (λ x. map (λ p. Release p) (places x)) (tree_of tb s.store t w)

-- what an operator gives of two registers
abbrev pub operated : State → Operator → ℕ → ℕ → Option Operated
operated s o x y =
    option_and_then (λ v. option_map (λ w. operate o (int_of v) (int_of w)) (register s y)) (register s x)

abbrev pub calculated : State → ℕ → Option Operated → Option Done
calculated s d None = None
calculated s d (Some (Is v)) = on s (write s.running.words d (scalar_word v))
calculated s d (Some (Fails kind)) = None

-- What an instruction does where the registers have these kinds before it; None where it can't be done, where its
-- operator has no value, and of a call or return.
abbrev pub done : Table → List Kind → State → Instr → Option Done
done tb ks s (I.Const d v) = on s (write s.running.words d (int_word v))
done tb ks s (I.Atom d t c) = on s (write s.running.words d (atom_word c))
done tb ks s (I.Move d r) = on s (option_and_then (λ w. write s.running.words d w) (register s r))
done tb ks s (I.Arith d o x y line col) = calculated s d (operated s o x y)
done tb ks s (I.Test r c target) =
    branch s target (option_map (λ b. b == c) (option_and_then (λ w. constructor_of s.store w) (register s r)))
done tb ks s (I.TestInt r v target) = branch s target (option_map (λ w. same_int (int_of w) v) (register s r))
done tb ks s (I.Peek d r i) = on s (option_and_then (λ w. write s.running.words d w) (peeked s r i))
done tb ks s (I.Take r ds) = on s (taken s r ds)
done tb ks s (I.Put r t c ss) = on_with s (put s r c ss)
done tb ks s (I.Drop r) = on_with s (option_and_then (λ w. dropped tb s w (owned_type (slice_get ks r))) (register s r))
done tb ks s (I.Free r) = on_with s (freed s r)
done tb ks s (I.Call f ss ds) = None
done tb ks s (I.Tail f ss) = None
done tb ks s (I.Ret ss) = None
done tb ks s (I.Jump target) = off s target

-- why an operator has no value
abbrev pub trap : Option Operated → Option TrapKind
trap None = None
trap (Some (Is v)) = None
trap (Some (Fails kind)) = Some kind
