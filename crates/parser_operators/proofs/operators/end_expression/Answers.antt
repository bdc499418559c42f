use Rattle.std.proofs.Common.{◌≡◌, List, reverse, ap, sym, ◌∙◌, refl}
use Rattle.fip_base.specs.SurfaceView.{top, below}
use Rattle.fip_grammar.specs.declared.Sign.{Sign}
use Rattle.fip_grammar.specs.declared.Sign.TheVariants as S
use Rattle.fip_grammar.specs.Machine as machine
use Rattle.fip_language.specs.Surface.{Expression}
use Rattle.parser_state.specs.declared.state.Opener.{Opener}
use Rattle.parser_state.specs.declared.state.Body.{Body}
use Rattle.parser_state.specs.StateView as view
use Rattle.parser_state.proofs.StateFacts.{reverse_push}
use Rattle.parser_operators.proofs.operators.end_expression.Goals as goal

-- what waits outside an opener comes back with it
outside : (b : machine.Body) (w : machine.Waiting) (o : machine.Opener) (e : Expression) (s : Sign) → machine.end_head b o e s ≡ machine.end_head (machine.with_waiting b w) o e s
outside b w (machine.MatchOpener x d q) e S.CurlyOpen = refl
outside b w (machine.IfOpener x q) e S.CurlyOpen = refl
outside b w o e _ = refl

-- a body whose innermost opener this was, where nothing waits
abbrev popped : Body → List Opener → Opener → List Expression → machine.Body
popped b os o es =
    let u = view.body_with b es in
    record u { partial = record u.partial { openers = view.openers os (view.after_waiting (view.waits_outside o) es); waiting = machine.none_waits } }

pub returns-in-Some : goal.returns-in-Some
returns-in-Some c =
    let b = c.args.body in
    let s = c.args.sign in
    let o = c.in-Some.opener in
    let os = reverse c.pop.new.self.items in
    let es = view.after_waiting b.partial.waiting (below (view.operands b)) in
    let v = machine.all_applied (view.waiting b.partial.waiting (below (view.operands b))) (view.operand b) in
    let left = view.left c.apply_all.new.steps.items in
    record {
      next =
          λ negated w x e. c.end_head.ensures.next negated w x
          (e
          ∙ ap (λ z. machine.end_expression (view.under_operand b) (view.openers z es) (view.bound_binds b.partial.binds) v s) (ap reverse c.in-Some.ensures.items ∙ reverse_push c.pop.new.self.items o)
          ∙ ap (λ z. machine.end_head (popped b os o z) (view.opener o z) v s) (sym c.in_ok-apply_all.ensures.below)
          ∙ ap (λ z. machine.end_head (popped b os o (below left)) (view.opener o (below left)) z s) (sym c.in_ok-apply_all.ensures.top)
          ∙ outside (popped b os o (below left)) (view.waiting (view.waits_outside o) (below left)) (view.opener o (below left)) (top left) s);
    }
