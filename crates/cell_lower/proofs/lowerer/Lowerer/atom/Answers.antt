use Rattle.std.proofs.Common.{refl, ◌≡◌, sym, ap, ◌∙◌, subst}
use Rattle.cell_code.specs.declared.code.Instr.TheVariants as I
use Rattle.lower_parts.specs.lowering_relation.Known.{Known, holding, with_next, with_used}
use Rattle.lower_parts.specs.lowering_relation.Values.{built}
use Rattle.lower_parts.specs.lowering_relation.Written.{added}
use Rattle.lower_parts.specs.lower_frame.Registers.{HasRoom}
use Rattle.lower_parts.specs.Writing.{setting}
use Rattle.lower_parts.proofs.Writing.{builds_atom, builds_reused}
use Rattle.cell_lower.proofs.lowerer.Lowerer.atom.Goals as goal

pub returns-in_ok-add-in-None-clause-builds : goal.returns-in_ok-add-in-None-clause-builds
returns-in_ok-add-in-None-clause-builds c =
    let same : c.take_bare.new.self ≡ c.args.self.now.frame = c.in-None.ensures.none in
    let next : c.in_ok-destination-in-None.destination ≡ c.args.self.now.frame.next = c.in_ok-destination-in-None.ensures.next ∙ ap (λ (x : Known). x.next) same in
    let used : c.fresh.new.self ≡ with_used c.args.self.now.frame = c.in_ok-destination-in-None.ensures.used ∙ ap with_used same in
    let known : c.set-in-None.new.self ≡ with_next c.args.self.now.frame (built (setting c.args.self.now.context.now) c.args.ty c.args.constructor) =
    c.set-in-None.ensures.held ∙ ap (λ x. holding c.fresh.new.self c.in_ok-destination-in-None.destination x) c.built-held.ensures.same
    ∙ ap (λ x. holding x c.in_ok-destination-in-None.destination (built (setting c.args.self.now.context.now) c.args.ty c.args.constructor)) used
    ∙ ap (λ r. holding (with_used c.args.self.now.frame) r (built (setting c.args.self.now.context.now) c.args.ty c.args.constructor)) next in
    let room : HasRoom c.args.self.now.frame (with_used c.args.self.now.frame) = subst (HasRoom c.args.self.now.frame) used (subst (λ x. HasRoom x c.fresh.new.self) same c.in_ok-destination-in-None.ensures.room) in
    builds_atom (setting c.args.self.now.context.now) c.args.self.now.frame c.set-in-None.new.self c.args.self.now.buffer c.add.new.self c.args.ty c.args.constructor c.in_ok-destination-in-None.destination next known
    (subst (HasRoom c.args.self.now.frame) (sym known) room)
    (c.in_ok-add-in-None.ensures.added ∙ ap (λ r. added c.args.self.now.buffer (I.Atom r c.args.ty c.args.constructor)) next)

pub returns-in-Some-clause-builds : goal.returns-in-Some-clause-builds
returns-in-Some-clause-builds c = builds_reused (setting c.args.self.now.context.now) c.args.self.now.frame c.take_bare.new.self c.set.new.self c.args.self.now.buffer c.args.self.now.buffer c.args.ty c.args.constructor c.in-Some.register c.in-Some.ensures.taken c.set.ensures.held refl
