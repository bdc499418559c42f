use Rattle.std.proofs.Common.{◌∙◌, sym}
use Rattle.command_trace.proofs.Kept.{value_alone}
use Rattle.command_trace.proofs.tracing.untraced.Goals as goal

pub unreachable-requires : goal.unreachable-requires
unreachable-requires c = c.requires (value_alone c.args.ended c.args.room.calls c.args.room.frames (sym c.failure_of.ensures.exact ∙ c.in-None.is))
