use Rattle.plain_rows.proofs.Standing.{made_row}
use Rattle.plain_rows.proofs.store.Store.make.Goals as goal

pub returns-else-is_empty-clause-stands : goal.returns-else-is_empty-clause-stands
returns-else-is_empty-clause-stands c = made_row c.args.self.now c.push.new.self c.args.tag c.args.fields.now c.is_empty.result c.push.result c.is_empty.ensures c.if-is_empty.false c.push.ensures.named c.push.ensures.row c.push.ensures.kept c.push.ensures.rows
