use Rattle.std.proofs.Common.{rules, refl}
use Rattle.plain_rows.proofs.Standing.{row_new, pushed_more}
use Rattle.plain_rows.proofs.store.Store.push.Goals as goal

pub returns-clause-row : goal.returns-clause-row
returns-clause-row c = row_new c.args.self.now _ _ c.args.fields.now c.in_ok-push.ensures.items c.in_ok-extend_from_slice.ensures.items (search rules) refl

pub returns-clause-kept : goal.returns-clause-kept
returns-clause-kept c = pushed_more c.args.self.now _ _ c.args.fields.now c.in_ok-push.ensures.items c.in_ok-extend_from_slice.ensures.items
