use Rattle.std.proofs.Common.{rules}
use Rattle.match_cover.specs.Missing.{open_fields}
use Rattle.match_cover.proofs.MissingSteps.{open_arm, open_done}
use Rattle.match_cover.proofs.missing.open_fields.Goals as goal

pub loop-ty-preserved : goal.loop-ty-preserved
loop-ty-preserved c = open_arm c.loop-ty.fields.items c.push.new.self.items c.open.result c.args.types.now c.loop-ty._ty-index (open_fields c.args.types.now) (search rules) c.open.ensures (search rules) c.loop-ty.invariant

pub returns : goal.returns
returns c = open_done c.loop-ty.fields.items c.args.types.now c.loop-ty._ty-index (open_fields c.args.types.now) (search rules) c.loop-ty.invariant
