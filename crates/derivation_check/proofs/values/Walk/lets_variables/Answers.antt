use Rattle.std.proofs.Common.{◌≡◌, ◌∙◌, sym, ◌+◌, length}
use Rattle.fip_trees.specs.TreeView.{program}
use Rattle.fip_rules.specs.World.{world}
use Rattle.derivation_check.specs.Calculus.{numbers}
use Rattle.derivation_check.proofs.Owning.{lets_left, take_rest, lets_apart, apart_low, apart_high}
use Rattle.derivation_check.proofs.Numbers.{rising_take}
use Rattle.derivation_check.proofs.values.Walk.lets_variables.Goals as goal

pub returns-clause-left : goal.returns-clause-left
returns-clause-left c h = lets_left c.args.whole.now c.args.used.now c.args.left.now (numbers (world (program c.args.self.now.program.now) c.args.self.now.kind) c.args.next c.args.binders.now) c.front_below-low.result (c.is_split.ensures.sound c.if-not-is_split.false) (sym (take_rest c.front_below-low.result c.args.left.now) ∙ c.owns_all.ensures.sound h)

pub returns-then-not-is_split-clause-complete : goal.returns-then-not-is_split-clause-complete
returns-then-not-is_split-clause-complete c a b r s =
    let p = lets_apart (world (program c.args.self.now.program.now) c.args.self.now.kind) c.args.next c.front_below-low.result c.args.whole.now c.args.used.now c.args.left.now c.args.binders.now a b r s c.front_below-low.ensures.low (c.front_below-low.ensures.high 0 (c.args.next + length c.args.binders.now) r) in
    let g = c.is_split.ensures.complete c.args.next c.args.next (c.args.next + length c.args.binders.now) a b (rising_take 0 (c.args.next + length c.args.binders.now) c.front_below-low.result c.args.left.now r) (apart_low c.args.next (c.args.next + length c.args.binders.now) c.front_below-low.result c.args.whole.now c.args.used.now c.args.left.now (numbers (world (program c.args.self.now.program.now) c.args.self.now.kind) c.args.next c.args.binders.now) p) in
    let t = c.if-not-is_split.true in cc

pub returns-clause-complete : goal.returns-clause-complete
returns-clause-complete c a b r s =
    let p = lets_apart (world (program c.args.self.now.program.now) c.args.self.now.kind) c.args.next c.front_below-low.result c.args.whole.now c.args.used.now c.args.left.now c.args.binders.now a b r s c.front_below-low.ensures.low (c.front_below-low.ensures.high 0 (c.args.next + length c.args.binders.now) r) in
    c.owns_all.ensures.complete (take_rest c.front_below-low.result c.args.left.now ∙ apart_high c.args.next (c.args.next + length c.args.binders.now) c.front_below-low.result c.args.whole.now c.args.used.now c.args.left.now (numbers (world (program c.args.self.now.program.now) c.args.self.now.kind) c.args.next c.args.binders.now) p)
