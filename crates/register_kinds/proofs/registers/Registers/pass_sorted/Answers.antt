use Rattle.std.proofs.Common.{◌≡◌, ◌∙◌, ap, length, subst, arith}
use Rattle.kind_domain.specs.code_rules.Taking.{ends, part}
use Rattle.register_kinds.specs.Sorted.{IsSorted}
use Rattle.register_kinds.specs.Takes.{fated, forgotten, in_turn, seen_at, stands_for}
use Rattle.register_kinds.proofs.Passed.{sorted_passed}
use Rattle.register_kinds.proofs.TakenKinds.{in_turn_long}
use Rattle.register_kinds.proofs.registers.Registers.pass_sorted.Goals as goal

pub returns-clause-passed : goal.returns-clause-passed
returns-clause-passed c = λ e.
    let f = stands_for c.choose-keeper.result c.args.register in
    let ks = c.sort.ensures.kinds ∙ c.choose-keeper.ensures.kinds in
    sorted_passed c.args.table.now c.args.register c.args.parts.now c.args.types.now c.choose-keeper.result
    c.sort.new.self.reached c.args.self.now.kinds c.forget_ended.new.self.kinds c.pass_on.new.self.kinds
    c.change_names.new.self.kinds c.sort.new.self.lent c.requires.takable
    (subst (λ z. IsSorted c.args.table.now z c.args.register (part c.args.parts.now c.args.types.now) c.choose-keeper.result c.sort.new.self.lent
    c.sort.new.self.reached) c.choose-keeper.ensures.kinds (c.sort.ensures.sorted c.if-not-sort.false))
    c.choose-keeper.ensures.apart
    (subst (λ z. c.forget_ended.new.self.kinds ≡ in_turn (forgotten c.args.register (part c.args.parts.now c.args.types.now) (ends c.args.table.now z
    c.args.register (part c.args.parts.now c.args.types.now) (length c.args.parts.now) (seen_at z c.sort.new.self.reached))) z c.sort.new.self.lent) ks
    c.forget_ended.ensures.kinds)
    (c.pass_on.ensures.kinds
    ∙ ap (λ os. in_turn (fated f c.args.register (part c.args.parts.now c.args.types.now) os)
    c.forget_ended.new.self.kinds c.forget_ended.new.self.lent) c.forget_ended.ensures.reached
    ∙ ap (in_turn (fated f c.args.register (part c.args.parts.now c.args.types.now)
    c.sort.new.self.reached) c.forget_ended.new.self.kinds) c.forget_ended.ensures.lent)
    c.change_names.ensures.kinds

pub change_names-requires-clause-own : goal.change_names-requires-clause-own
change_names-requires-clause-own c = λ h i.
    let k = ap length c.sort.ensures.kinds in
    let l = ap length c.forget_ended.ensures.kinds
    ∙ in_turn_long (forgotten c.args.register (part c.args.parts.now c.args.types.now) (ends c.args.table.now
    c.sort.new.self.kinds c.args.register (part c.args.parts.now c.args.types.now) (length c.args.parts.now)
    (seen_at c.sort.new.self.kinds c.sort.new.self.reached))) c.sort.new.self.kinds
    c.sort.new.self.lent in
    let m = ap length c.pass_on.ensures.kinds
    ∙ in_turn_long (fated (stands_for c.choose-keeper.result c.args.register) c.args.register
    (part c.args.parts.now c.args.types.now) c.forget_ended.new.self.reached) c.forget_ended.new.self.kinds
    c.forget_ended.new.self.lent in
    let e = c.choose-keeper.ensures.own h i in
    omega arith

pub change_names-requires-clause-other : goal.change_names-requires-clause-other
change_names-requires-clause-other c = λ h i.
    let k = ap length c.sort.ensures.kinds in
    let l = ap length c.forget_ended.ensures.kinds
    ∙ in_turn_long (forgotten c.args.register (part c.args.parts.now c.args.types.now) (ends c.args.table.now
    c.sort.new.self.kinds c.args.register (part c.args.parts.now c.args.types.now) (length c.args.parts.now)
    (seen_at c.sort.new.self.kinds c.sort.new.self.reached))) c.sort.new.self.kinds
    c.sort.new.self.lent in
    let m = ap length c.pass_on.ensures.kinds
    ∙ in_turn_long (fated (stands_for c.choose-keeper.result c.args.register) c.args.register
    (part c.args.parts.now c.args.types.now) c.forget_ended.new.self.reached) c.forget_ended.new.self.kinds
    c.forget_ended.new.self.lent in
    let e = c.choose-keeper.ensures.other h i in
    omega arith
