use Rattle.std.proofs.Common.{◌∙◌, sym, ap, rules}
use Rattle.fip_grammar.specs.Machine as machine
use Rattle.fip_base.specs.SurfaceView.{block, pattern}
use Rattle.parser_state.specs.StateView as view
use Rattle.parser_state.proofs.StepFacts as steps
use Rattle.parser_operators.proofs.levels.end_clause.Goals as goal

pub returns-in-Semicolon : goal.returns-in-Semicolon
returns-in-Semicolon c =
    let b = c.args.body in
    let m = view.open_match c.args.clauses (view.operand b) in
    record {
      next =
          λ negated w x e. c.stays_in_body.ensures.next negated w x
          (e
          ∙ ap (λ s. machine.end_level (view.under_operand b) (machine.ForClause m (pattern c.args.pattern)) (block c.args.block) s) c.in-Semicolon.is
          ∙ ap (λ z. machine.in_body (machine.ClauseNext (record m { clauses = z })) (view.under_operand b))
          (sym (steps.clause_pushed c.push.new.self.items c.args.clauses.clauses.items c.args.pattern c.args.block c.in_ok-push.ensures.items)));
    }

pub returns-in-CurlyClose : goal.returns-in-CurlyClose
returns-in-CurlyClose c =
    let b = c.args.body in
    let m = view.open_match c.args.clauses (view.operand b) in
    record {
      next =
          λ negated w x e. c.close_match.ensures.next negated w x
          (e
          ∙ ap (λ s. machine.end_level (view.under_operand b) (machine.ForClause m (pattern c.args.pattern)) (block c.args.block) s) c.in-CurlyClose.is
          ∙ ap (λ z. machine.close_match (record m { clauses = z }) (view.under_operand b))
          (sym (steps.clause_pushed c.push.new.self.items c.args.clauses.clauses.items c.args.pattern c.args.block c.in_ok-push.ensures.items)));
    }

pub returns-in_default : goal.returns-in_default
returns-in_default c = record { next = λ negated w x e. c.refused.ensures.next negated w x (e ∙ search rules) }
