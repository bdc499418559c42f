use Rattle.std.proofs.Common.{subst, sym, ap, ◌∙◌}
use Rattle.cell_code.specs.declared.code.Instr.TheVariants as I
use Rattle.lower_parts.specs.lowering_relation.Written.{added, GivesUp}
use Rattle.lower_parts.specs.Growth.{Sheds}
use Rattle.lower_parts.specs.Writing.{target_of, Gives}
use Rattle.lower_parts.proofs.Writing.{gives_into, gives_return}
use Rattle.std.proofs.Common.{◌≡◌, true, not}
use Rattle.lower_parts.specs.Laying.{AllGone, GivesLaid, GivesUpLaid}
use Rattle.lower_parts.proofs.Laying.{gives_laid_return}
use Rattle.cell_lower.proofs.lowerer.Lowerer.give.Goals as goal

pub returns-in_ok-add-in-Return-clause-gives : goal.returns-in_ok-add-in-Return-clause-gives
returns-in_ok-add-in-Return-clause-gives c =
    subst (λ x. Gives c.args.self.now.frame c.args.self.now.buffer c.args.results.now (target_of x) c.give_up_all.new.self.frame c.add.new.self) (sym c.in-Return.is)
    (gives_return c.args.self.now.frame c.use_up_all.new.self.frame c.end_bare.new.self.frame c.give_up_all.new.self.frame c.args.self.now.buffer c.end_bare.new.self.buffer c.give_up_all.new.self.buffer c.add.new.self c.args.results.now
    (subst (λ x. GivesUp x c.end_bare.new.self.buffer) c.use_up_all.ensures.buffer c.in_ok-end_bare-in-Return.ensures.given_up) c.in_ok-give_up_all-in-Return.ensures.given_up
    (c.in_ok-add-in-Return.ensures.added ∙ ap (λ x. added c.give_up_all.new.self.buffer (I.Ret x)) c.in_ok-of-in-Return.ensures.same)
    c.use_up_all.ensures.used (subst (λ x. Sheds c.use_up_all.new.self.frame x c.end_bare.new.self.frame c.end_bare.new.self.buffer) c.use_up_all.ensures.buffer c.in_ok-end_bare-in-Return.ensures.sheds) c.in_ok-give_up_all-in-Return.ensures.sheds)

pub returns-in_ok-move_all-in-Into-clause-gives : goal.returns-in_ok-move_all-in-Into-clause-gives
returns-in_ok-move_all-in-Into-clause-gives c =
    subst (λ x. Gives c.args.self.now.frame c.args.self.now.buffer c.args.results.now (target_of x) c.move_all.new.self.frame c.move_all.new.self.buffer) (sym c.in-Into.is)
    (gives_into c.args.self.now.frame c.move_all.new.self.frame c.args.self.now.buffer c.move_all.new.self.buffer c.args.results.now c.in-Into.destinations.now c.in_ok-move_all-in-Into.ensures.moves)

pub returns-in_ok-add-in-Return-clause-laid : goal.returns-in_ok-add-in-Return-clause-laid
returns-in_ok-add-in-Return-clause-laid c =
    let same : c.end_bare.new.self.gives_up ≡ c.args.self.now.gives_up = c.in_ok-end_bare-in-Return.ensures.gives_up ∙ c.use_up_all.ensures.gives_up in
    subst (λ x. GivesLaid (not c.args.self.now.gives_up) c.args.self.now.frame c.args.self.now.buffer c.args.results.now (target_of x) c.give_up_all.new.self.frame c.add.new.self) (sym c.in-Return.is)
    (gives_laid_return (not c.args.self.now.gives_up) c.args.self.now.frame c.use_up_all.new.self.frame c.end_bare.new.self.frame c.give_up_all.new.self.frame c.args.self.now.buffer c.end_bare.new.self.buffer c.give_up_all.new.self.buffer c.add.new.self c.args.results.now
    c.use_up_all.ensures.used (subst (λ x. GivesUpLaid true c.use_up_all.new.self.frame x c.end_bare.new.self.frame c.end_bare.new.self.buffer) c.use_up_all.ensures.buffer c.in_ok-end_bare-in-Return.ensures.laid)
    c.in_ok-end_bare-in-Return.ensures.bares
    (subst (λ b. GivesUpLaid (not b) c.end_bare.new.self.frame c.end_bare.new.self.buffer c.give_up_all.new.self.frame c.give_up_all.new.self.buffer) same c.in_ok-give_up_all-in-Return.ensures.laid)
    (subst (λ b. AllGone (not b) c.end_bare.new.self.frame c.give_up_all.new.self.frame) same c.in_ok-give_up_all-in-Return.ensures.gone)
    (c.in_ok-add-in-Return.ensures.added ∙ ap (λ x. added c.give_up_all.new.self.buffer (I.Ret x)) c.in_ok-of-in-Return.ensures.same))
