use Rattle.std.proofs.Common.{◌∙◌, ◌+◌, ◌-◌, ◌++◌, ap}
use Rattle.kind_domain.specs.code_rules.Entry.{gones}
use Rattle.kind_domain.specs.Views.{kinds_of}
use Rattle.register_kinds.proofs.Entered.{gones_step}
use Rattle.register_kinds.proofs.registers.add_gones.Goals as goal

pub loop-place-preserved : goal.loop-place-preserved
loop-place-preserved c =
    ap (λ xs. kinds_of xs ++ gones (c.args.count - (c.loop-place.place + 1))) c.in_ok-push.ensures.items
    ∙ gones_step c.loop-place.known.items c.args.count c.loop-place.place c.loop-place-test.true
    ∙ c.loop-place.invariant
