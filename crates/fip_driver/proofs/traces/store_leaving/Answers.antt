use Rattle.std.proofs.Common.{◌∙◌, ap}
use Rattle.command_answers.specs.command_trace.TraceAnswer.{code_of}
use Rattle.fip_driver.proofs.traces.store_leaving.Goals as goal

pub returns-in-Err-clause-code : goal.returns-in-Err-clause-code
returns-in-Err-clause-code g c = ap (λ l. code_of l c.keep_code.new.made) c.take.ensures.after ∙ c.keep_code.ensures.code ∙ ap (λ l. code_of l c.args.made.now) c.take.ensures.value
