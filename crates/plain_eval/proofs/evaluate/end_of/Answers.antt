use Rattle.std.proofs.Common.{sym, ap, ◌∙◌}
use Rattle.plain_eval.specs.declared.evaluate.Waiting.{Waiting}
use Rattle.plain_eval.proofs.Waiting.{last_is}
use Rattle.plain_eval.proofs.Steps.{empty_end, some_items}
use Rattle.plain_eval.proofs.evaluate.end_of.Goals as goal

pub returns-then-is_empty : goal.returns-then-is_empty
returns-then-is_empty c = record { end = empty_end c.args.waiting.now c.is_empty.result c.is_empty.ensures c.if-is_empty.true }

pub returns-else-is_empty : goal.returns-else-is_empty
returns-else-is_empty c = record {
  end = ap (λ (w : Waiting). w.end) (sym c.index-waiting-waiting.is) ∙ sym (last_is 0 c.args.waiting.now c.index-waiting-waiting.result (some_items c.args.waiting.now c.is_empty.result c.is_empty.ensures c.if-is_empty.false) c.index-waiting-waiting.is);
}
