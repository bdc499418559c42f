use Rattle.std.proofs.Common.{rules}
use Rattle.fip_rules.specs.Views.{mark_of}
use Rattle.fip_rules.proofs.Steps.{lend_step}
use Rattle.fip_rules.proofs.state.State.lend_out.Goals as goal

pub returns : goal.returns
returns c = lend_step c.args.self.now c.note_lend.new.self c.wait_if.new.self (mark_of c.args.mark.now) c.args.ownership c.args.level c.requires.0 c.has-is_used.result c.is_at-is_bare.result c.is_waiting.result c.requires.1 (search rules) (search rules) (search rules) (search rules) (search rules)
