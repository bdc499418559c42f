use Rattle.std.proofs.Common.{◌∙◌}
use Rattle.data_types.proofs.claims.Claims.file.Goals as goal

pub returns : goal.returns
returns c = c.loop-alloc.invariant ∙ c.self.view_is
