use Rattle.std.proofs.Common.{subst, refl, ◌∙◌, arith}
use Rattle.std.specs.Borrow.{Bor}
use Rattle.match_knowledge.specs.View.{known}
use Rattle.lower_parts.specs.declared.context.Context.{Context}
use Rattle.lower_parts.specs.lower_frame.Positions.{spot_of}
use Rattle.lower_parts.specs.Overlays.{failed_reported}
use Rattle.lower_parts.specs.Scenes.{side_of, sides_of, Advances, PlacesSide}
use Rattle.lower_parts.specs.Writing.{setting}
use Rattle.lower_parts.proofs.Choosing.{Goes, goes_next, follows_to, places_long}
use Rattle.cell_lower.proofs.lowerer.Lowerer.follow.Goals as goal

pub returns-in-Some-clause-follows : goal.returns-in-Some-clause-follows
returns-in-Some-clause-follows c =
    follows_to c.args.self.now.context.now.program.now.types (failed_reported (setting c.args.self.now.context.now) c.args.self.now.frame.held c.args.choice.now.ty (spot_of c.args.choice.now.root) (known c.args.from.known) c.args.from.read.items) c.args.choice.now c.args.self.now.buffer c.put_side.new.self.buffer c.advance.new.self.buffer (side_of c.args.from) (known c.args.from.known) (known c.advance.new.known) c.args.from.read.items c.advance.new.read.items (sides_of c.args.sides.now.items) (sides_of c.advance.new.sides.items) c.in-Some.clause c.in_ok-clause.field-0 (subst (λ z. PlacesSide c.args.self.now.buffer c.args.from.label (failed_reported (setting c.args.self.now.context.now) c.args.self.now.frame.held c.args.choice.now.ty (spot_of c.args.choice.now.root) (known c.args.from.known) z) c.put_side.new.self.buffer) c.as_slice.ensures.value c.in_ok-put_side.ensures.placed) c.in-Some.is refl refl
    ((subst (λ (x : Bor Context). Goes x.now.program.now.types c.args.choice.now c.put_side.new.self.buffer (known c.args.from.known) c.args.from.read.items (sides_of c.args.sides.now.items) c.steps.self.buffer (known c.steps.known) c.steps.read.items (sides_of c.steps.sides.items)) c.in_ok-put_side.ensures.context c.steps.invariant.goes).by c.advance.new.self.buffer (known c.advance.new.known) c.advance.new.read.items (sides_of c.advance.new.sides.items) c.in_ok-clause.field-0
    (subst (λ (x : Bor Context). Advances x.now.program.now.types c.args.choice.now c.steps.self.buffer (known c.steps.known) c.steps.read.items (sides_of c.steps.sides.items) c.advance.new.self.buffer (known c.advance.new.known) c.advance.new.read.items (sides_of c.advance.new.sides.items) c.in_ok-clause.field-0) (c.steps.invariant.context ∙ c.in_ok-put_side.ensures.context) c.in_ok-clause.ensures.advances))

pub steps-preserved : goal.steps-preserved
steps-preserved c = record {
  goes = goes_next c.put_side.new.self.context.now.program.now.types c.args.choice.now c.put_side.new.self.buffer (known c.args.from.known) c.args.from.read.items (sides_of c.args.sides.now.items) c.steps.self.buffer (known c.steps.known) c.steps.read.items (sides_of c.steps.sides.items) c.advance.new.self.buffer (known c.advance.new.known) c.advance.new.read.items (sides_of c.advance.new.sides.items) c.in_ok-clause.field-0 c.in-None.is c.steps.invariant.goes
      (subst (λ (x : Bor Context). Advances x.now.program.now.types c.args.choice.now c.steps.self.buffer (known c.steps.known) c.steps.read.items (sides_of c.steps.sides.items) c.advance.new.self.buffer (known c.advance.new.known) c.advance.new.read.items (sides_of c.advance.new.sides.items) c.in_ok-clause.field-0) c.steps.invariant.context c.in_ok-clause.ensures.advances);
  grows = let a = c.in_ok-clause.ensures.grows in let b = c.steps.invariant.grows in omega (arith, a, b);
  frame = c.in_ok-clause.ensures.frame ∙ c.steps.invariant.frame;
  context = c.in_ok-clause.ensures.context ∙ c.steps.invariant.context;
  gives_up = c.in_ok-clause.ensures.gives_up ∙ c.steps.invariant.gives_up;
  walk = c.in_ok-clause.ensures.walk ∙ c.steps.invariant.walk;
}

pub steps-smaller : goal.steps-smaller
steps-smaller c = c.in_ok-clause.ensures.fewer c.in-None.is

pub returns-in-Some-clause-there : goal.returns-in-Some-clause-there
returns-in-Some-clause-there c = c.in_ok-clause.ensures.there c.in-Some.clause c.in-Some.is

pub returns-in-Some-clause-grows : goal.returns-in-Some-clause-grows
returns-in-Some-clause-grows c =
    let p = places_long c.args.self.now.buffer c.put_side.new.self.buffer c.args.from.label _ c.in_ok-put_side.ensures.placed in
    let a = c.in_ok-clause.ensures.grows in
    let b = c.steps.invariant.grows in
    omega (arith, p, a, b)
