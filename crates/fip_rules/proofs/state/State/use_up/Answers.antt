use Rattle.std.proofs.Common.{rules}
use Rattle.fip_rules.specs.Views.{mark_of}
use Rattle.fip_rules.proofs.Steps.{use_step}
use Rattle.fip_rules.proofs.state.State.use_up.Goals as goal

pub returns : goal.returns
returns c = use_step c.args.self.now c.note_use.new.self c.keep_use.new.self (mark_of c.args.mark.now) c.args.ownership c.requires.0 c.requires.1 c.has-is_used.result c.requires.2 (search rules) (search rules) (search rules)
