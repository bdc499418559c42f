-- It serves the proof that lowered code is sound: how the words of registers go to others. Where results in registers 3
-- and 5 go to 3 and 6, this is Move 6 5.
use Rattle.std.specs.Prelude.{◌≡◌, ◌⊎◌, ℕ, List, [], ◌∷◌}
use Rattle.code_rules.specs.cell_code.declared.code.Instr.{Instr}
use Rattle.lowering_relation.specs.Known.{Known}
use Rattle.lowering_relation.specs.LoweredBodies.{IsMove, IsThere}

-- a register's word goes to another one, or is there
abbrev pub MoveLaid : List Instr → ℕ → Known → ℕ → ℕ → ℕ → Known → Type 0
MoveLaid code at k r d end after = ((r ≡ d → ⊥) × IsMove code at k r d end after) ⊎ IsThere at k r d end after

-- one after another
abbrev pub MovesLaid : List Instr → ℕ → Known → List ℕ → List ℕ → ℕ → Known → Type 0
MovesLaid code at k [] ds end after = (end ≡ at) × (after ≡ k)
MovesLaid code at k (r ∷ rs) [] end after = (end ≡ at) × (after ≡ k)
MovesLaid code at k (r ∷ rs) (d ∷ ds) end after =
    (mid : ℕ) × (m : Known) × MoveLaid code at k r d mid m × MovesLaid code mid m rs ds end after
