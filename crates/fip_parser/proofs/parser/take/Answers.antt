use Rattle.std.proofs.Common.{map, ap, subst}
use Rattle.fip_base.specs.SurfaceView as surface
use Rattle.fip_grammar.specs.WordView.{word}
use Rattle.fip_grammar.specs.Machine as machine
use Rattle.parser_state.specs.StateView as view
use Rattle.fip_parser.proofs.parser.take.Goals as goal

pub returns-in-TooLarge : goal.returns-in-TooLarge
returns-in-TooLarge c =
    let t = c.args.token in
    let s = c.args.state in
    let h = subst (λ n. view.Answers (view.negated s) (word t.word) n (machine.step (view.state s) (word t.word) t.place)) c.in-TooLarge.is c.in_ok-step.ensures.next in
    record { takes = ((_, ap (machine.then_next (map surface.declaration c.args.declarations.items)) h.0.1), h.1) }
