-- There is room for an instruction.
use Rattle.std.proofs.Common.{◌<◌, ℕ, suc, ◌+◌, ◌*◌, arith}
use Rattle.match_cover.specs.fip_language.Table.{Table}
use Rattle.match_cover.specs.fip_trees.Tree.{Instance}
use Rattle.tail_groups.specs.Registers.{registers}
use Rattle.code_size.specs.Places.{block_places}
use Rattle.code_size.specs.Bounds.{most_instructions}

positive : (r n : ℕ) → 0 < 16 * (r + 16) * suc n
positive r n = grind arith

pub some_instruction : (types : Table) (d : Instance) → 0 < most_instructions types d
some_instruction types d = positive (registers d) (block_places types d.body)
