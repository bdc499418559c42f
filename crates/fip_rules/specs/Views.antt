-- What the code's marks, entries and worlds stand for, without where they lie in memory.
use Rattle.std.specs.Prelude.{ℕ, Bool, true, List, get_or}
use Rattle.fip_trees.specs.TreeView.{instances}
use Rattle.fip_rules.specs.declared.scope.Mark as M
use Rattle.fip_rules.specs.declared.scope.Entry as E
use Rattle.fip_rules.specs.declared.world.World as C
use Rattle.fip_rules.specs.Marks.{Mark, Entry}
use Rattle.fip_rules.specs.World.{World}

abbrev pub mark_of : M.Mark → Mark
mark_of m = record { id = m.id; number = m.number; place = m.place; name = m.name.now }

abbrev pub entry_of : E.Entry → Entry
entry_of e = record { mark = mark_of e.mark; ownership = e.ownership; level = e.level }

abbrev pub entry_number : E.Entry → ℕ
entry_number e = e.mark.number

-- the flag of a type; a number that is no type's is scalar
abbrev pub flag : List Bool → ℕ → Bool
flag s t = get_or s t true

abbrev pub world_of : C.World → World
world_of w =
    record { scalar = flag w.scalars.now; instances = instances w.instances.now; kind = w.kind }
