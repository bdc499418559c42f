use Rattle.lowering_soundness.proofs.Mapped.{maps_formed}
use Rattle.lowering_soundness.proofs.Ordered.{formed_stand}
use Rattle.lowering_soundness.proofs.row_theorems.label_maps_are_formed.Goals as goal

pub returns : goal.returns
returns c = record { theorem = λ c f st wd w fip d shares callees tables laid num typed params derived builds sizes stand. maps_formed c f st wd w fip shares callees tables d laid num typed params derived builds sizes stand; stand = λ c f good. formed_stand c.types f good }
