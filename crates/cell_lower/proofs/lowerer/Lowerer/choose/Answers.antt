use Rattle.std.proofs.Common.{refl, subst, ◌∙◌, arith}
use Rattle.std.specs.Borrow.{Bor}
use Rattle.lower_parts.specs.declared.context.Context.{Context}
use Rattle.lower_parts.specs.Scenes.{sides_of, ChoosesIf}
use Rattle.lower_parts.specs.lowering_relation.Known.{Known}
use Rattle.lower_parts.specs.Chosen.{ChoosesLaid}
use Rattle.lower_parts.specs.Writing.{setting}
use Rattle.lower_parts.proofs.Sided.{laid_start, laid_next, laid_end}
use Rattle.lower_parts.proofs.Choosing.{turns_start, turns_next, turns_end}
use Rattle.cell_lower.proofs.lowerer.Lowerer.choose.Goals as goal

pub turns-init : goal.turns-init
turns-init c = record {
  turns = turns_start c.args.self.now.context.now.program.now.types c.args.choice.now c.args.clause c.args.self.now.buffer (sides_of c.args.sides.now.items);
  laid = laid_start (setting c.args.self.now.context.now) c.args.self.now.frame.held c.args.choice.now c.args.clause c.args.self.now.buffer (sides_of c.args.sides.now.items);
  frame = refl;
  context = refl;
  gives_up = refl;
  walk = refl;
}

pub turns-preserved : goal.turns-preserved
turns-preserved c = record {
  turns = turns_next c.args.self.now.context.now.program.now.types c.args.choice.now c.args.clause c.args.self.now.buffer c.turns.self.buffer c.choose_on.new.self.buffer (sides_of c.args.sides.now.items) (sides_of c.turns.sides.items) (sides_of c.choose_on.new.sides.items) c.in_ok-choose_on.field-0 c.if-branch.false c.turns.invariant.turns
      (subst (λ (x : Bor Context). ChoosesIf x.now.program.now.types c.args.choice.now c.args.clause c.turns.self.buffer (sides_of c.turns.sides.items) c.choose_on.new.self.buffer (sides_of c.choose_on.new.sides.items) c.in_ok-choose_on.field-0) c.turns.invariant.context c.in_ok-choose_on.ensures.turn);
  laid = laid_next (setting c.args.self.now.context.now) c.args.self.now.frame.held c.args.choice.now c.args.clause c.args.self.now.buffer c.turns.self.buffer c.choose_on.new.self.buffer (sides_of c.args.sides.now.items) (sides_of c.turns.sides.items) (sides_of c.choose_on.new.sides.items) c.in_ok-choose_on.field-0 c.if-branch.false c.turns.invariant.laid
      (subst (λ (x : Bor Context). ChoosesLaid (setting x.now) c.args.self.now.frame.held c.args.choice.now c.args.clause c.turns.self.buffer (sides_of c.turns.sides.items) c.choose_on.new.self.buffer (sides_of c.choose_on.new.sides.items) c.in_ok-choose_on.field-0) c.turns.invariant.context
      (subst (λ (k : Known). ChoosesLaid (setting c.turns.self.context.now) k.held c.args.choice.now c.args.clause c.turns.self.buffer (sides_of c.turns.sides.items) c.choose_on.new.self.buffer (sides_of c.choose_on.new.sides.items) c.in_ok-choose_on.field-0) c.turns.invariant.frame c.in_ok-choose_on.ensures.laid));
  frame = c.in_ok-choose_on.ensures.frame ∙ c.turns.invariant.frame;
  context = c.in_ok-choose_on.ensures.context ∙ c.turns.invariant.context;
  gives_up = c.in_ok-choose_on.ensures.gives_up ∙ c.turns.invariant.gives_up;
  walk = c.in_ok-choose_on.ensures.walk ∙ c.turns.invariant.walk;
}

pub turns-smaller : goal.turns-smaller
turns-smaller c = let a = c.in_ok-choose_on.ensures.longer c.if-branch.false in let b = c.in_ok-choose_on.ensures.few c.if-branch.false in omega (arith, a, b)

pub returns-then-branch-clause-chooses : goal.returns-then-branch-clause-chooses
returns-then-branch-clause-chooses c = turns_end c.args.self.now.context.now.program.now.types c.args.choice.now c.args.clause c.args.self.now.buffer c.turns.self.buffer c.choose_on.new.self.buffer (sides_of c.args.sides.now.items) (sides_of c.turns.sides.items) (sides_of c.choose_on.new.sides.items) c.in_ok-choose_on.field-0 c.if-branch.true c.turns.invariant.turns
    (subst (λ (x : Bor Context). ChoosesIf x.now.program.now.types c.args.choice.now c.args.clause c.turns.self.buffer (sides_of c.turns.sides.items) c.choose_on.new.self.buffer (sides_of c.choose_on.new.sides.items) c.in_ok-choose_on.field-0) c.turns.invariant.context c.in_ok-choose_on.ensures.turn)

pub returns-then-branch-clause-laid : goal.returns-then-branch-clause-laid
returns-then-branch-clause-laid c = laid_end (setting c.args.self.now.context.now) c.args.self.now.frame.held c.args.choice.now c.args.clause c.args.self.now.buffer c.turns.self.buffer c.choose_on.new.self.buffer (sides_of c.args.sides.now.items) (sides_of c.turns.sides.items) (sides_of c.choose_on.new.sides.items) c.in_ok-choose_on.field-0 c.if-branch.true c.turns.invariant.laid
    (subst (λ (x : Bor Context). ChoosesLaid (setting x.now) c.args.self.now.frame.held c.args.choice.now c.args.clause c.turns.self.buffer (sides_of c.turns.sides.items) c.choose_on.new.self.buffer (sides_of c.choose_on.new.sides.items) c.in_ok-choose_on.field-0) c.turns.invariant.context
    (subst (λ (k : Known). ChoosesLaid (setting c.turns.self.context.now) k.held c.args.choice.now c.args.clause c.turns.self.buffer (sides_of c.turns.sides.items) c.choose_on.new.self.buffer (sides_of c.choose_on.new.sides.items) c.in_ok-choose_on.field-0) c.turns.invariant.frame c.in_ok-choose_on.ensures.laid))
