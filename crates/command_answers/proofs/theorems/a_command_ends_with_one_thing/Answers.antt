use Rattle.command_answers.proofs.OneCommand.{command_once}
use Rattle.command_answers.proofs.OneEnd.{comes_once}
use Rattle.command_answers.proofs.TreesOnce.{trees_once}
use Rattle.command_answers.proofs.theorems.a_command_ends_with_one_thing.Goals as goal

pub returns : goal.returns
returns c = record { words = command_once; ends = comes_once; executes = trees_once }
