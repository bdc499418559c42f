use Rattle.std.proofs.Common.{subst, not}
use Rattle.std.specs.Borrow.{Bor}
use Rattle.lower_parts.proofs.lower_frame.Losing.{loses_on}
use Rattle.lower_parts.specs.declared.context.Context.{Context}
use Rattle.lower_parts.specs.Laying.{GivesUpLaid}
use Rattle.lower_parts.specs.Leaving.{LeavesLaid}
use Rattle.lower_parts.specs.Writing.{setting}
use Rattle.lower_parts.proofs.Leaving.{clause_leaves}
use Rattle.lower_parts.proofs.Shedding.{sheds_on, sheds_widened}
use Rattle.cell_lower.proofs.lowerer.Lowerer.leave.Goals as goal

pub returns-clause-loses : goal.returns-clause-loses
returns-clause-loses c = loses_on _ _ _ (loses_on _ _ _ c.in_ok-end_bare.ensures.loses c.in_ok-give_up_to.ensures.loses) c.widen.ensures.loses

pub returns-clause-sheds : goal.returns-clause-sheds
returns-clause-sheds c = sheds_on _ _ _ _ _ _ (sheds_on _ _ _ _ _ _ c.in_ok-end_bare.ensures.sheds c.in_ok-give_up_to.ensures.sheds) (sheds_widened _ _ _ c.widen.ensures.held)

pub returns-clause-laid : goal.returns-clause-laid
returns-clause-laid c =
    let s = setting c.args.self.now.context.now in
    let o = c.args.matching.now.entry in
    let fip = not c.args.self.now.gives_up in
    clause_leaves s fip c.args.self.now.frame c.end_bare.new.self.frame c.give_up_to.new.self.frame c.widen.new.self o c.args.self.now.buffer c.end_bare.new.self.buffer c.give_up_to.new.self.buffer c.args.matching.now.used.items c.args.matching.now.need c.args.given.now c.in_ok-end_bare.ensures.laid c.in_ok-end_bare.ensures.bares c.in_ok-end_bare.ensures.loses
    (subst (λ b. GivesUpLaid (not b) c.end_bare.new.self.frame c.end_bare.new.self.buffer c.give_up_to.new.self.frame c.give_up_to.new.self.buffer) c.in_ok-end_bare.ensures.gives_up c.in_ok-give_up_to.ensures.laid)
    (subst (λ ms. LeavesLaid s fip c.end_bare.new.self.frame c.end_bare.new.self.buffer o ms c.args.matching.now.need c.args.given.now c.give_up_to.new.self.frame c.give_up_to.new.self.buffer) c.as_slice.ensures.value
    (subst (λ b. LeavesLaid s (not b) c.end_bare.new.self.frame c.end_bare.new.self.buffer o c.as_slice.result.now c.args.matching.now.need c.args.given.now c.give_up_to.new.self.frame c.give_up_to.new.self.buffer) c.in_ok-end_bare.ensures.gives_up
    (subst (λ (x : Bor Context). LeavesLaid (setting x.now) (not c.end_bare.new.self.gives_up) c.end_bare.new.self.frame c.end_bare.new.self.buffer o c.as_slice.result.now c.args.matching.now.need c.args.given.now c.give_up_to.new.self.frame c.give_up_to.new.self.buffer) c.in_ok-end_bare.ensures.context c.in_ok-give_up_to.ensures.over)))
    c.in_ok-give_up_to.ensures.loses c.widen.ensures.wide
