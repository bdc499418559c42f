use Rattle.std.proofs.Common.{◌≡◌, ◌+◌, ◌-◌, ◌∙◌, sym, [], ◌∷◌, take, drop, length, arith, nat_eq, true}
use Rattle.std.proofs.lemmas.Bool.Decides.{nat_tests}
use Rattle.fip_trees.specs.TreeView.{program, pattern}
use Rattle.fip_rules.specs.World.{world}
use Rattle.fip_rules.specs.Shapes.{binders}
use Rattle.derivation_check.specs.Calculus.{numbers}
use Rattle.derivation_check.proofs.Owning.{takes_left, takes_end, take_rest, takes_apart, takes_start, owns_over, apart_low, apart_high}
use Rattle.derivation_check.proofs.Numbers.{rising_take}
use Rattle.derivation_check.proofs.values.Walk.takes_variables.Goals as goal

pub returns-in-Some : goal.returns-in-Some
returns-in-Some c = record {
  sound = λ h.
      let high = take (length c.args.left.now - c.front_below-low.result) (drop c.front_below-low.result c.args.left.now) in
      let e : c.in-Some.following.place ≡ length high = grind (arith, nat_tests) in
      takes_left c.args.whole.now (c.args.taken ∷ []) c.args.left.now (numbers (world (program c.args.self.now.program.now) c.args.self.now.kind) c.args.next (binders (pattern c.args.pattern.now))) c.front_below-low.result (c.is_split.ensures.sound c.if-not-is_split.false)
      (sym (take_rest c.front_below-low.result c.args.left.now) ∙ takes_end (world (program c.args.self.now.program.now) c.args.self.now.kind) high c.in-Some.following.place c.args.next c.in-Some.following.next (binders (pattern c.args.pattern.now)) e c.in-Some.ensures.sound);
  complete = λ a b r s.
      let high = take (length c.args.left.now - c.front_below-low.result) (drop c.front_below-low.result c.args.left.now) in
      let p = takes_apart (world (program c.args.self.now.program.now) c.args.self.now.kind) c.args.next c.front_below-low.result c.args.taken c.args.whole.now c.args.left.now (binders (pattern c.args.pattern.now)) a b r s c.front_below-low.ensures.low (c.front_below-low.ensures.high 0 (c.args.next + length (binders (pattern c.args.pattern.now))) r) in
      let e : c.in-Some.following.place ≡ length high = owns_over high c.in-Some.following.place (c.in-Some.ensures.down [] (takes_start (world (program c.args.self.now.program.now) c.args.self.now.kind) high c.args.next (binders (pattern c.args.pattern.now)) (take_rest c.front_below-low.result c.args.left.now ∙ apart_high c.args.next (c.args.next + length (binders (pattern c.args.pattern.now))) c.front_below-low.result c.args.whole.now (c.args.taken ∷ []) c.args.left.now (numbers (world (program c.args.self.now.program.now) c.args.self.now.kind) c.args.next (binders (pattern c.args.pattern.now))) p))) (c.in-Some.ensures.within (omega arith)) in
      grind (arith, nat_tests);
}

pub returns-in-None-clause-complete : goal.returns-in-None-clause-complete
returns-in-None-clause-complete c a b r s =
    let high = take (length c.args.left.now - c.front_below-low.result) (drop c.front_below-low.result c.args.left.now) in
    let p = takes_apart (world (program c.args.self.now.program.now) c.args.self.now.kind) c.args.next c.front_below-low.result c.args.taken c.args.whole.now c.args.left.now (binders (pattern c.args.pattern.now)) a b r s c.front_below-low.ensures.low (c.front_below-low.ensures.high 0 (c.args.next + length (binders (pattern c.args.pattern.now))) r) in
    absurd (c.in-None.ensures.other [] (takes_start (world (program c.args.self.now.program.now) c.args.self.now.kind) high c.args.next (binders (pattern c.args.pattern.now)) (take_rest c.front_below-low.result c.args.left.now ∙ apart_high c.args.next (c.args.next + length (binders (pattern c.args.pattern.now))) c.front_below-low.result c.args.whole.now (c.args.taken ∷ []) c.args.left.now (numbers (world (program c.args.self.now.program.now) c.args.self.now.kind) c.args.next (binders (pattern c.args.pattern.now))) p)))

pub returns-then-not-is_split-clause-complete : goal.returns-then-not-is_split-clause-complete
returns-then-not-is_split-clause-complete c a b r s =
    let p = takes_apart (world (program c.args.self.now.program.now) c.args.self.now.kind) c.args.next c.front_below-low.result c.args.taken c.args.whole.now c.args.left.now (binders (pattern c.args.pattern.now)) a b r s c.front_below-low.ensures.low (c.front_below-low.ensures.high 0 (c.args.next + length (binders (pattern c.args.pattern.now))) r) in
    let g = c.is_split.ensures.complete c.args.next c.args.next (c.args.next + length (binders (pattern c.args.pattern.now))) a p.used_below (rising_take 0 (c.args.next + length (binders (pattern c.args.pattern.now))) c.front_below-low.result c.args.left.now r) (apart_low c.args.next (c.args.next + length (binders (pattern c.args.pattern.now))) c.front_below-low.result c.args.whole.now (c.args.taken ∷ []) c.args.left.now (numbers (world (program c.args.self.now.program.now) c.args.self.now.kind) c.args.next (binders (pattern c.args.pattern.now))) p) in
    let t = c.if-not-is_split.true in cc
