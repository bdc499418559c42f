use Rattle.std.proofs.Common.{◌∙◌, ◌++◌, ap}
use Rattle.trace_files.proofs.Writing.{four_count}
use Rattle.trace_files.proofs.write.put_count.Goals as goal

pub returns : goal.returns
returns c = record { text = c.in_ok-put_u32.ensures.text ∙ ap (λ bs. c.args.text.now.items ++ bs) (four_count c.args.count) }
