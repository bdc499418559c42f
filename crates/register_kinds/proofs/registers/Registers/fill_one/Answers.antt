use Rattle.std.proofs.Common.{sym, ◌∙◌, ap, set, get_or, refl}
use Rattle.kind_domain.specs.code_rules.Kinds.{at}
use Rattle.kind_domain.specs.code_rules.Taking.{part_kind}
use Rattle.register_kinds.specs.Takes.{as_part}
use Rattle.register_kinds.proofs.TakenKinds.{fill_other, fill_put, part_field}
use Rattle.register_kinds.proofs.registers.Registers.fill_one.Goals as goal

pub returns-in-None-clause-kinds : goal.returns-in-None-clause-kinds
returns-in-None-clause-kinds c =
    λ q l. fill_other c.args.table.now c.args.register c.args.place (at c.args.self.now.kinds q) c.args.parts.now
    c.args.types.now (get_or c.args.parts.now c.args.place 0) q refl
    (λ p e f. let g = sym c.piece_of.ensures.is ∙ ap as_part c.in-None.is in cc)

pub returns-else-piece-place-clause-kinds : goal.returns-else-piece-place-clause-kinds
returns-else-piece-place-clause-kinds c =
    λ q l. fill_other c.args.table.now c.args.register c.args.place (at c.args.self.now.kinds q) c.args.parts.now
    c.args.types.now (get_or c.args.parts.now c.args.place 0) q refl
    (λ p e f. c.if-piece-place.false
    (part_field _ (record { field = c.in-Some.piece.field; ty = c.in-Some.piece.ty }) p
    (sym c.piece_of.ensures.is ∙ ap as_part c.in-Some.is) e ∙ f))

pub returns-then-piece-place-clause-kinds : goal.returns-then-piece-place-clause-kinds
returns-then-piece-place-clause-kinds c =
    fill_put c.args.table.now c.args.register c.args.place c.args.self.now.kinds c.change.new.self.kinds
    c.args.parts.now c.args.types.now (get_or c.args.parts.now c.args.place 0)
    (record { field = c.in-Some.piece.field; ty = c.in-Some.piece.ty }) refl
    (sym c.piece_of.ensures.is ∙ ap as_part c.in-Some.is) c.if-piece-place.true
    (c.change.ensures.kinds ∙ ap (set c.args.self.now.kinds (get_or c.args.parts.now c.args.place 0))
    (c.part_known-known.ensures.is ∙ ap (λ k. part_kind c.args.table.now c.args.register k
    (record { field = c.in-Some.piece.field; ty = c.in-Some.piece.ty })) c.known.ensures.is))
