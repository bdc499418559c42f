use Rattle.std.proofs.Common.{subst}
use Rattle.register_kinds.specs.Climbs.{HasOwner}
use Rattle.register_kinds.proofs.registers.Registers.is_sound.Goals as goal

pub returns-else-is_torn : goal.returns-else-is_torn
returns-else-is_torn c = record {
  owned = λ e r m i. subst (HasOwner c.args.self.now.kinds) i (c.has_owner.ensures.owned e);
}
