-- The code of the examples, and states of it. It is what
-- data ints { Nil; Cons(int, ints) }
-- fip fun rev(xs: ints, acc: ints): ints { match! xs { Nil -> acc; Cons(x, t) -> rev(t, Cons(x, acc)) } }
-- is lowered to. It runs on Cons(1, Cons(2, Nil)) and Nil: in a list of cells, and in a list of words.
use Rattle.std.specs.Prelude.{ℕ, ℤ, pos, Bool, true, false, List, [], ◌∷◌, Option, Some, None, codes}
use Rattle.cell_code.specs.fip_language.Table.{Shape, Table}
use Rattle.cell_code.specs.fip_language.Store.{Cell}
use Rattle.cell_code.specs.declared.code.CodeKind.TheVariants.{Fip, Fbip}
use Rattle.cell_code.specs.fip_base.declared.plain.Param.{Param}
use Rattle.cell_code.specs.declared.code.Instr.TheVariants as I
use Rattle.cell_code.specs.declared.kind.Kind.{Kind}
use Rattle.cell_code.specs.declared.kind.Kind.TheVariants as K
use Rattle.cell_code.specs.Plain.{LabelMap, PlainFunction, PlainCode}
use Rattle.machine_semantics.specs.Cells.{Store}
use Rattle.machine_semantics.specs.States.{State}
use Rattle.machine_semantics.specs.Steps.{Kinds}

abbrev pub nil_shape : Shape
nil_shape = record { name = codes "Nil"; fields = [] }

abbrev pub cons_shape : Shape
cons_shape = record { name = codes "Cons"; fields = 0 ∷ 2 ∷ [] }

-- bool is type 1, ints is type 2
abbrev pub types : Table
types = (record { name = codes "False"; fields = [] } ∷ record { name = codes "True"; fields = [] } ∷ [])
    ∷ (nil_shape ∷ cons_shape ∷ []) ∷ []

abbrev pub owned_ints : Param
owned_ints = record { ty = 2; lent = false }

abbrev pub owned_list : Kind
owned_list = K.Owned 2 (0 ∷ 1 ∷ [])

-- before instruction 3 the list is known to be a Cons
abbrev pub cons_known : LabelMap
cons_known = record {
  at = 3;
  kinds = K.Owned 2 (1 ∷ []) ∷ owned_list ∷ K.Gone ∷ K.Gone ∷ K.Gone ∷ K.Gone ∷ K.Gone ∷ [];
}

abbrev pub rev : PlainFunction
rev = record {
  kind = Fip;
  name = codes "rev";
  params = owned_ints ∷ owned_ints ∷ [];
  credits = [];
  results = 2 ∷ [];
  registers = 7;
  instrs = I.Test 0 0 3 ∷ I.Take 0 [] ∷ I.Ret (1 ∷ []) ∷ I.Take 0 (2 ∷ 3 ∷ []) ∷ I.Put 0 2 1 (2 ∷ 1 ∷ [])
      ∷ I.Tail 0 (3 ∷ 0 ∷ []) ∷ [];
  labels = cons_known ∷ [];
}

abbrev pub reversing : PlainCode
reversing = record { types = types; functions = rev ∷ [] }

-- no instruction of it asks for a kind
abbrev pub unknown : Kinds
unknown f i = []

-- what is known before its first instruction
abbrev pub at_start : Kinds
at_start f i = owned_list ∷ owned_list ∷ K.Gone ∷ K.Gone ∷ K.Gone ∷ K.Gone ∷ K.Gone ∷ []

-- Cons(item, ..) with the word of the other items
abbrev pub cons : ℕ → ℕ → Option Cell
cons item rest = Some (record { tag = 1; fields = item ∷ rest ∷ [] })

-- Cons(2, Nil) at 0, then Cons(1, ..) at 1
abbrev pub listed : Store
listed = record { cells = cons 2 0 ∷ cons 1 1 ∷ []; released = false ∷ false ∷ [] }

abbrev pub listed_reversed : Store
listed_reversed = record { cells = cons 2 3 ∷ cons 1 0 ∷ []; released = false ∷ false ∷ [] }

-- Cons(2, Nil) at 0, then Cons(1, ..) at 3
abbrev pub flat : Store
flat = record {
  cells = cons 2 0 ∷ None ∷ None ∷ cons 1 1 ∷ None ∷ None ∷ [];
  released = false ∷ false ∷ false ∷ false ∷ false ∷ false ∷ [];
}

abbrev pub flat_reversed : Store
flat_reversed = record {
  cells = cons 2 7 ∷ None ∷ None ∷ cons 1 0 ∷ None ∷ None ∷ [];
  released = false ∷ false ∷ false ∷ false ∷ false ∷ false ∷ [];
}

-- rev at an instruction, where its registers have these words
abbrev pub at : ℕ → Store → List ℕ → State
at i store ws = record {
  store = store;
  running = record { function = 0; at = i; words = ws };
  waiting = [];
  free = 0;
  lent = [];
}

-- before the first step, where the first list's word is w
abbrev pub first : Store → ℕ → State
first store w = at 0 store (w ∷ 0 ∷ 0 ∷ 0 ∷ 0 ∷ 0 ∷ 0 ∷ [])

-- before the last one, where no item is left and the reversed list's word is 1, the cell at place 0
abbrev pub last : Store → State
last store = at 2 store (0 ∷ 1 ∷ 0 ∷ 0 ∷ 0 ∷ 0 ∷ 0 ∷ [])

-- What
-- fbip fun forget(xs: ints): int { 0 }
-- is lowered to: the tree of its argument is released.
abbrev pub forget : PlainFunction
forget = record {
  kind = Fbip;
  name = codes "forget";
  params = owned_ints ∷ [];
  credits = [];
  results = 0 ∷ [];
  registers = 2;
  instrs = I.Drop 0 ∷ I.Const 1 (pos 0) ∷ I.Ret (1 ∷ []) ∷ [];
  labels = [];
}

abbrev pub forgetting : PlainCode
forgetting = record { types = types; functions = forget ∷ [] }

-- register 0 owns a list at the Drop
abbrev pub known : Kinds
known f i = owned_list ∷ K.Gone ∷ []

-- two cells in a list of words, both released
abbrev pub flat_forgotten : Store
flat_forgotten = record {
  cells = cons 2 0 ∷ None ∷ None ∷ cons 1 1 ∷ None ∷ None ∷ [];
  released = true ∷ false ∷ false ∷ true ∷ false ∷ false ∷ [];
}
