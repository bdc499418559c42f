use Rattle.std.proofs.Common.{◌≡◌, ◌∙◌, ◌++◌, List, ℕ, [], length, drop, sym, ap, subst, arith}
use Rattle.session_lines.specs.command_outcome.Texts.{line_end}
use Rattle.session_lines.specs.session_semantics.Lines.{lines_of}
use Rattle.session_lines.specs.session_semantics.Talk.{at_first}
use Rattle.session_values.specs.Readable.{IsLine}
use Rattle.fip_session.proofs.Talking.{Follows, begins, goes_on, all_reported, none_left}
use Rattle.fip_session.proofs.commands.session_reply.Goals as goal

pub loop-at-init : goal.loop-at-init
loop-at-init c = λ o served types words calls frames short.
    let lines = lines_of c.args.input.now in
    let t = c.in_ok-session.session in
    subst (λ out. Follows o lines out t lines) (sym c.new-out.ensures.items) (begins o lines t (c.in_ok-session.ensures.opens o served types words calls frames))

pub loop-at-preserved : goal.loop-at-preserved
loop-at-preserved c = λ o served types words calls frames short.
    let lines = lines_of c.args.input.now in
    let out = c.loop-at.out.items in
    let line : List ℕ = c.line_at-next.result.0.now in
    let less = c.line_at-next.ensures.few in
    let f = subst (Follows o lines out c.loop-at.session) c.line_at-next.ensures.line (c.loop-at.invariant o served types words calls frames short) in
    let is : IsLine line = record { one = c.line_at-next.ensures.one; short = omega (arith, less, short) } in
    let replies = c.in_ok-after.ensures.replies o f.state f.is is (omega (arith, less, short)) in
    let text = c.in_ok-push.ensures.items ∙ ap (λ t. t ++ line_end) (c.in_ok-extend_from_slice.ensures.items ∙ ap (λ t. out ++ t) c.as_slice.ensures.value) in
    subst (λ t. Follows o lines t c.in_ok-after.after (lines_of (drop c.line_at-next.result.1 c.args.input.now))) (sym text) (goes_on o lines out c.loop-at.session c.in_ok-after.after line c.in_ok-after.reply.items (lines_of (drop c.line_at-next.result.1 c.args.input.now)) f replies)

pub returns : goal.returns
returns c = record {
  talks = λ o served types words calls frames short.
      let lines = lines_of c.args.input.now in
      let out = c.loop-at.out.items in
      let past = c.loop-at-test.false in
      let over : lines_of (drop c.loop-at.at c.args.input.now) ≡ [] = ap lines_of (none_left c.args.input.now c.loop-at.at (omega (arith, past))) in
      all_reported o lines out c.loop-at.session (subst (Follows o lines out c.loop-at.session) over (c.loop-at.invariant o served types words calls frames short));
}
