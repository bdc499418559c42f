use Rattle.std.proofs.Common.{take}
use Rattle.fip_language.specs.Values.{Values}
use Rattle.cell_store.specs.Made.{Loading}
use Rattle.value_text.specs.Loaded.{AreCredits, wanted}
use Rattle.value_text.specs.Building.{IsBuilt, IsCrediting}
use Rattle.value_text.proofs.build.add_credits.Given as goal

abbrev pub invariant-loop-size : goal.invariant-loop-size
invariant-loop-size l = AreCredits l.credits → (first : Loading) (vs : Values) → IsBuilt (wanted l.credits vs) first l.initial.loader vs l.initial.words.items → IsCrediting (take l.size-index l.credits) (wanted l.credits vs) first l.loader vs l.words.items
