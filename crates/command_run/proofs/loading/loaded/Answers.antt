use Rattle.std.proofs.Common.{ap}
use Rattle.std.specs.Prelude.{Err}
use Rattle.value_text.specs.Loaded.{types_of}
use Rattle.command_run.proofs.Loaded.{in_new_store, too_small}
use Rattle.command_run.proofs.loading.loaded.Goals as goal

pub returns-in-Ok-clause-loads : goal.returns-in-Ok-clause-loads
returns-in-Ok-clause-loads c = λ given.
    let left = c.new-loader.ensures.left in
    in_new_store c.args.types.now (types_of c.args.params.now) c.args.credits.now c.args.input.now c.args.room.words c.new-loader.result c.in-Ok.loader c.in-Ok.words.items c.new-loader.ensures.cells c.new-loader.ensures.released left (c.in-Ok.ensures.loads given) (c.in-Ok.ensures.order given) c.left.ensures.flags c.left.ensures.sized c.left.ensures.of_cells

pub returns-in-Err-Full-clause-keeps : goal.returns-in-Err-Full-clause-keeps
returns-in-Err-Full-clause-keeps c = λ given.
    let left = c.new-loader.ensures.left in
    too_small c.args.types.now (types_of c.args.params.now) c.args.credits.now c.args.input.now c.args.room.words c.new-loader.result c.in-Err-Full.field-0-2 c.in-Err-Full.needed c.in-Err-Full.words given c.new-loader.ensures.cells c.new-loader.ensures.released left (c.in-Err-Full.ensures.full given c.in-Err-Full.needed c.in-Err-Full.words c.in-Err-Full.field-0-2 (ap Err c.in-Err-Full.field-0-is))
