use Rattle.std.proofs.Common.{refl, subst, ◌++◌, ◌∷◌, []}
use Rattle.match_knowledge.specs.View.{known, rows}
use Rattle.lower_parts.specs.lower_frame.Positions.{spot_of}
use Rattle.lower_parts.specs.Overlays.{failed_reported}
use Rattle.lower_parts.specs.Scenes.{side_of, sides_of, Follows}
use Rattle.lower_parts.specs.Writing.{setting}
use Rattle.lower_parts.specs.Testing.{AreMissed}
use Rattle.lower_parts.proofs.Choosing.{chooses_here, chooses_on}
use Rattle.lower_parts.proofs.Sided.{here_laid, on_laid}
use Rattle.cell_lower.proofs.lowerer.Lowerer.choose_from.Goals as goal

pub returns-then-is_written-clause-turn : goal.returns-then-is_written-clause-turn
returns-then-is_written-clause-turn c = chooses_here c.args.self.now.context.now.program.now.types c.args.choice.now (failed_reported (setting c.args.self.now.context.now) c.args.self.now.frame.held c.args.choice.now.ty (spot_of c.args.choice.now.root) (known c.args.next.known) c.args.next.read.items) c.args.clause c.args.self.now.buffer c.follow.new.self.buffer (sides_of c.args.sides.now.items) ((sides_of c.args.sides.now.items) ++ (side_of c.args.next) ∷ []) (side_of c.args.next) (sides_of c.follow.new.sides.items) refl (subst (Follows c.args.self.now.context.now.program.now.types (failed_reported (setting c.args.self.now.context.now) c.args.self.now.frame.held c.args.choice.now.ty (spot_of c.args.choice.now.root) (known c.args.next.known) c.args.next.read.items) c.args.choice.now c.args.self.now.buffer (side_of c.args.next) (sides_of c.args.sides.now.items) c.follow.new.self.buffer (sides_of c.follow.new.sides.items)) c.if-chosen-clause.true c.in_ok-chosen.ensures.follows)

pub returns-clause-turn : goal.returns-clause-turn
returns-clause-turn c = chooses_on c.args.self.now.context.now.program.now.types c.args.choice.now (failed_reported (setting c.args.self.now.context.now) c.args.self.now.frame.held c.args.choice.now.ty (spot_of c.args.choice.now.root) (known c.args.next.known) c.args.next.read.items) c.args.clause c.in_ok-chosen.chosen c.entry-target.result c.args.self.now.buffer c.follow.new.self.buffer c.add.new.self (sides_of c.args.sides.now.items) ((sides_of c.args.sides.now.items) ++ (side_of c.args.next) ∷ []) (side_of c.args.next) (sides_of c.follow.new.sides.items) refl c.in_ok-chosen.ensures.follows c.entry-target.ensures.entry c.in_ok-add.ensures.added

pub returns-then-is_written-clause-laid : goal.returns-then-is_written-clause-laid
returns-then-is_written-clause-laid c = here_laid (setting c.args.self.now.context.now) c.args.self.now.frame.held c.args.choice.now c.args.clause c.args.self.now.buffer c.follow.new.self.buffer (sides_of c.args.sides.now.items) ((sides_of c.args.sides.now.items) ++ (side_of c.args.next) ∷ []) (side_of c.args.next) (sides_of c.follow.new.sides.items) refl
    (subst (Follows c.args.self.now.context.now.program.now.types (failed_reported (setting c.args.self.now.context.now) c.args.self.now.frame.held c.args.choice.now.ty (spot_of c.args.choice.now.root) (known c.args.next.known) c.args.next.read.items) c.args.choice.now c.args.self.now.buffer (side_of c.args.next) (sides_of c.args.sides.now.items) c.follow.new.self.buffer (sides_of c.follow.new.sides.items)) c.if-chosen-clause.true c.in_ok-chosen.ensures.follows)
    (subst (λ x. AreMissed (rows c.args.choice.now.rows.items) c.args.clause (sides_of x)) c.as_slice.ensures.value (c.is_written.ensures.missed c.if-is_written.true))

pub returns-clause-laid : goal.returns-clause-laid
returns-clause-laid c = on_laid (setting c.args.self.now.context.now) c.args.self.now.frame.held c.args.choice.now c.args.clause c.in_ok-chosen.chosen c.entry-target.result c.args.self.now.buffer c.follow.new.self.buffer c.add.new.self (sides_of c.args.sides.now.items) ((sides_of c.args.sides.now.items) ++ (side_of c.args.next) ∷ []) (side_of c.args.next) (sides_of c.follow.new.sides.items) refl c.in_ok-chosen.ensures.follows c.entry-target.ensures.there c.in_ok-add.ensures.added
