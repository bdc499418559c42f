use Rattle.std.proofs.Common.{ap}
use Rattle.std.specs.Prelude.{Err}
use Rattle.value_text.specs.Loaded.{types_of}
use Rattle.command_eval.proofs.Loading.{given, loaded_rows, never_full}
use Rattle.command_eval.proofs.arguments.arguments.Goals as goal

pub returns-in-Ok-rows_of-clause-rows : goal.returns-in-Ok-rows_of-clause-rows
returns-in-Ok-rows_of-clause-rows c = λ sound known le. loaded_rows c.args.types.now (types_of c.args.params.now) c.args.input.now c.in-Ok.words.items c.as_slice.result.now c.new-loader.result c.in-Ok.loader c.in-Ok-rows_of.rows c.as_slice.ensures.value (c.in-Ok.ensures.loads (given c.args.types.now (types_of c.args.params.now) c.args.input.now sound known le)) c.in-Ok-rows_of.ensures.stand

pub returns-in-Err-Full-clause-none : goal.returns-in-Err-Full-clause-none
returns-in-Err-Full-clause-none c = λ sound known le. never_full c.args.types.now (types_of c.args.params.now) c.args.input.now c.new-loader.result c.in-Err-Full.field-0-2 c.in-Err-Full.needed c.in-Err-Full.words c.new-loader.ensures.cells c.new-loader.ensures.released c.new-loader.ensures.left le (c.in-Err-Full.ensures.full (given c.args.types.now (types_of c.args.params.now) c.args.input.now sound known le) c.in-Err-Full.needed c.in-Err-Full.words c.in-Err-Full.field-0-2 (ap Err c.in-Err-Full.field-0-is))
