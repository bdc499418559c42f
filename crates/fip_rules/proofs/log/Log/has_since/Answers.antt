use Rattle.std.proofs.Common.{ap, ◌∙◌}
use Rattle.fip_rules.specs.Logs.{is_from}
use Rattle.fip_rules.proofs.LogTables.{since_is, not_before}
use Rattle.fip_rules.proofs.log.Log.has_since.Goals as goal

pub returns-in-Some : goal.returns-in-Some
returns-in-Some c = record { held = not_before c.args.kept c.in-Some.place ∙ ap (is_from c.args.kept) c.in-Some.ensures.place ∙ since_is c.args.kept c.args.self.now c.args.number }

pub returns-in-None : goal.returns-in-None
returns-in-None c = record { held = ap (is_from c.args.kept) c.in-None.ensures.place ∙ since_is c.args.kept c.args.self.now c.args.number }
