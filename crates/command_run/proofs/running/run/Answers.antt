use Rattle.command_words.specs.View.{room_of}
use Rattle.command_run.proofs.Leaving.{left_by}
use Rattle.command_run.proofs.running.run.Goals as goal

pub returns-clause-meant : goal.returns-clause-meant
returns-clause-meant c = λ source name ready is le. left_by c.args.ready c.args.input.now (room_of c.args.room) c.run_leaving-end.result.1 c.leave.new.left (c.run_leaving-end.ensures.meant source name ready is le) c.leave.ensures.left

pub returns-clause-coded : goal.returns-clause-coded
returns-clause-coded c = λ bytes name is le. left_by c.args.ready c.args.input.now (room_of c.args.room) c.run_leaving-end.result.1 c.leave.new.left (c.run_leaving-end.ensures.coded bytes name is le) c.leave.ensures.left
