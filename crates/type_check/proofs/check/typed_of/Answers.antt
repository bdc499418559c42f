use Rattle.type_check.proofs.check.typed_of.Goals as goal

pub invariant_of-result : goal.invariant_of-result
invariant_of-result c = record { sound = ∣ c.requires.sound ∣₁ }
