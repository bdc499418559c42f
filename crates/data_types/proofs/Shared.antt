-- Lemmas that functions here name.
use Rattle.std.proofs.Common.{◌≡◌, suc, List, [], ◌∷◌, length, refl, ap}
use Rattle.fip_language.specs.Core.{Writtens, NoWritten, MoreWritten}
use Rattle.fip_trees.specs.declared.decls.FieldType.{FieldType}
use Rattle.fip_trees.proofs.Leasts.{after-append}
use Rattle.data_types.specs.Declarations.{Scope, all_looked_up, count_tys}
use Rattle.data_types.specs.Faults.{count_written}
use Rattle.data_types.specs.View.{tys}

pub ruleset noting = (after-append)

pub count_view : (ts : List FieldType) → count_tys (tys ts) ≡ length ts
count_view [] = refl
count_view (x ∷ ts) = ap suc (count_view ts)

pub count_looked_up : (s : Scope) (ws : Writtens) → count_tys (all_looked_up s ws) ≡ count_written ws
count_looked_up s NoWritten = refl
count_looked_up s (MoreWritten w ws) = ap suc (count_looked_up s ws)

pub ruleset counting = (count_view, count_looked_up)
