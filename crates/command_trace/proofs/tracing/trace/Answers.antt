use Rattle.command_words.specs.View.{room_of}
use Rattle.command_run.proofs.Leaving.{left_by}
use Rattle.command_trace.proofs.tracing.trace.Goals as goal

pub returns-clause-meant : goal.returns-clause-meant
returns-clause-meant c = λ source name ready is le. left_by c.args.ready c.args.input.now (room_of c.args.room) c.trace_leaving-end.result.1 c.leave_or_show.new.left (c.trace_leaving-end.ensures.meant source name ready is le) c.leave_or_show.ensures.left
