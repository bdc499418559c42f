use Rattle.std.proofs.Common.{◌∙◌, ◌++◌, ap}
use Rattle.trace_files.proofs.Writing.{four_bytes}
use Rattle.trace_files.proofs.write.put_u32.Goals as goal

pub returns : goal.returns
returns c = record { text = c.in_ok-extend_from_slice.ensures.items ∙ ap (λ bs. c.args.text.now.items ++ bs) (c.to_be_bytes.ensures ∙ four_bytes c.args.number) }
