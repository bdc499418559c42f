use Rattle.std.proofs.Common.{◌∙◌, ap, subst}
use Rattle.fip_grammar.specs.Machine as machine
use Rattle.fip_base.specs.CoreView.{result_type}
use Rattle.fip_base.specs.SurfaceView.{block}
use Rattle.parser_state.specs.StateView as view
use Rattle.parser_state.proofs.StateFacts as facts
use Rattle.parser_operators.proofs.levels.end_last.Goals as goal
use Rattle.std.specs.List.{All}

pub end_level-requires : goal.end_level-requires
end_level-requires c =
    let all = subst (All view.IsWellLevel) c.in-Some.ensures.items c.requires.levels in
    record {
      well = (
        facts.all_front view.IsWellLevel c.pop.new.self.items c.in-Some.level all,
        facts.all_last view.IsWellLevel c.pop.new.self.items c.in-Some.level all,
      );
    }

pub returns-in-Some : goal.returns-in-Some
returns-in-Some c = record {
  next =
      λ negated w x e. c.end_level.ensures.next negated w x
      (e
      ∙ ap (λ ls. machine.end_last (view.function_head c.args.head) (result_type c.args.gives) ls (block c.args.block) c.args.sign)
      (ap view.levels c.in-Some.ensures.items ∙ facts.levels_push c.pop.new.self.items c.in-Some.level));
}
