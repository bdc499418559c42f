-- The program of the text `finger`, after it is typed.
use Rattle.std.specs.Prelude.{[], ◌∷◌, codes}
use Rattle.fip_language.specs.Table.{Table}
use Rattle.fip_trees.specs.Tree.{Program}
use Rattle.library_programs.specs.FingerCons.{need, full, holds, cons}
use Rattle.library_programs.specs.FingerPush.{push, close}

abbrev pub finger_types : Table
finger_types =
    (record { name = codes "False"; fields = [] } ∷ record { name = codes "True"; fields = [] } ∷ []) ∷
    (record { name = codes "Empty"; fields = [] } ∷ record { name = codes "Unit"; fields = 5 ∷ 0 ∷ 0 ∷ [] }
    ∷ record { name = codes "More"; fields = 3 ∷ 2 ∷ 3 ∷ [] } ∷ []) ∷
    (record { name = codes "One"; fields = 5 ∷ 0 ∷ 0 ∷ [] } ∷
    record { name = codes "Two"; fields = 5 ∷ 5 ∷ 0 ∷ [] } ∷
    record { name = codes "Three"; fields = 5 ∷ 5 ∷ 5 ∷ [] } ∷ []) ∷
    (record { name = codes "Done"; fields = [] } ∷ record { name = codes "Pad3"; fields = 0 ∷ 0 ∷ 4 ∷ [] } ∷
    []) ∷ (record { name = codes "Item"; fields = 0 ∷ 0 ∷ 0 ∷ [] } ∷
    record { name = codes "Pair"; fields = 5 ∷ 5 ∷ 0 ∷ [] } ∷
    record { name = codes "Triple"; fields = 5 ∷ 5 ∷ 5 ∷ [] } ∷ []) ∷
    (record { name = codes "Top"; fields = [] } ∷ record { name = codes "Around"; fields = 3 ∷ 6 ∷ 3 ∷ [] }
    ∷ []) ∷ []

abbrev pub finger_program : Program
finger_program =
    record {
      types = finger_types;
      declaring = 1 ∷ 4 ∷ 3 ∷ 5 ∷ 2 ∷ 6 ∷ [];
      arities = 0 ∷ 0 ∷ 0 ∷ 0 ∷ 0 ∷ 0 ∷ [];
      field_counts =
          (0 ∷ 0 ∷ []) ∷ (3 ∷ 3 ∷ 3 ∷ []) ∷ (3 ∷ 3 ∷ 3 ∷ []) ∷ (0 ∷ 3 ∷ 3 ∷ []) ∷ (0 ∷ 3 ∷ []) ∷ (0 ∷ 3 ∷
          []) ∷ [];
      instances = need ∷ full ∷ holds ∷ cons ∷ push ∷ close ∷ [];
    }
