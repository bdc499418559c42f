-- For private contracts alone: what is still to be read of a tree in a store.
use Rattle.std.specs.Prelude.{◌≡◌, ℕ, zero, ℤ, List, [], ◌∷◌, ◌++◌, map, Option, Some, None}
use Rattle.std.specs.Int.{w64, cast_signed}
use Rattle.fip_language.specs.Store.{Placed, value_of, word_of}
use Rattle.fip_language.specs.Table.{Table}
use Rattle.fip_language.specs.Values.{Value}
use Rattle.cell_store.specs.Cells.{Cells}
use Rattle.command_tasks.specs.command_run.value_text.Standing.{Stands}
use Rattle.command_library.specs.MadeTree.{keys_of}
use Rattle.command_library.specs.declared.keys.Node.{Node}
use Rattle.command_library.specs.declared.keys.Part.{Part}

-- the types of the trees on both sides of the key, where cells with fields of these types are nodes
abbrev pub sides : List ℕ → Option (ℕ × ℕ)
sides (color ∷ left ∷ zero ∷ right ∷ []) = Some (left, right)
sides types = None

-- The part stands for this value.
abbrev pub IsAt : Table → Cells → Part → Value → Type 0
IsAt tb cs p v = (x : Placed) × Stands tb cs p.ty x × (word_of x ≡ p.word) × (value_of x ≡ v)

-- The value has the keys of this node, or none.
abbrev pub HasNode : Table → Cells → Option Node → Value → Type 0
HasNode tb cs None v = keys_of v ≡ []
HasNode tb cs (Some n) v = (l : Value) × (r : Value) × IsAt tb cs n.left l × IsAt tb cs n.right r
    × (keys_of v ≡ cast_signed w64 n.key ∷ (keys_of l ++ keys_of r))

-- The parts, the last first, have these keys.
abbrev pub HaveKeys : Table → Cells → List Part → List ℤ → Type 0
HaveKeys tb cs [] ks = ks ≡ []
HaveKeys tb cs (p ∷ ps) ks = (v : Value) × (before : List ℤ) × IsAt tb cs p v × HaveKeys tb cs ps before
    × (ks ≡ before ++ keys_of v)

-- the ints of words
abbrev pub ints : List ℕ → List ℤ
ints ws = map (cast_signed w64) ws

-- The keys of these words, and then those of the parts, are the keys of the whole.
abbrev pub AreKeys : Table → Cells → List Part → List ℕ → List ℤ → Type 0
AreKeys tb cs ps ws whole = (rest : List ℤ) × HaveKeys tb cs ps rest × (ints ws ++ rest ≡ whole)
