use Rattle.std.proofs.Common.{◌∙◌, refl, sym, not}
use Rattle.fip_session.proofs.Planning.{other_type, scalar_in, name_in}
use Rattle.fip_session.proofs.plan.Arguments.accept_held.Goals as goal

pub returns-then-held-param-clause-refuses : goal.returns-then-held-param-clause-refuses
returns-then-held-param-clause-refuses c = λ le ls finds is e v t.
    other_type c.args.book.now.table.now c.args.book.now.held ls finds c.args.param c.args.name.now c.args.self.now c.args.held is c.if-held-param.true v t

pub returns-then-is_scalar-clause-takes : goal.returns-then-is_scalar-clause-takes
returns-then-is_scalar-clause-takes c = λ le ls finds is e.
    scalar_in c.args.book.now.table.now c.args.book.now.held ls finds c.args.param c.args.name.now c.args.self.now c.args.held is c.if-held-param.false (sym (c.is_scalar.ensures.known le) ∙ c.if-is_scalar.true)

pub returns-clause-takes : goal.returns-clause-takes
returns-clause-takes c = λ le ls finds is e.
    name_in c.args.book.now.table.now c.args.book.now.held ls finds c.args.param c.args.name.now c.args.self.now c.args.held (record { name = c.args.name; is_used_up = not c.args.param.lent }) (record { given = c.push.new.self; fresh = c.args.self.now.fresh }) is c.if-held-param.false (sym (c.is_scalar.ensures.known le) ∙ c.if-is_scalar.false) (c.is_given.ensures.none c.if-is_given.false) refl refl c.in_ok-push.ensures.items refl
