use Rattle.std.proofs.Common.{◌≡◌, ◌++◌, ◌∷◌, []}
use Rattle.derivation_trees.specs.Trees.{heads}
use Rattle.derivation_trees.proofs.Opening.{closed_there, closed_few, closed_is}
use Rattle.derivation_trees.proofs.derivation.Builder.close.Goals as goal

pub invariant_of-self : goal.invariant_of-self
invariant_of-self c =
    let ns = c.args.self.now.nodes.items in
    let ms = c.set_span.new.nodes.items in
    let e : c.args.self.now.open.items ≡ c.pop.new.self.items ++ c.in-Some.place ∷ [] = c.in-Some.ensures.items in
    record {
      there = closed_there _ _ c.args.self.now.open.items c.pop.new.self.items c.in-Some.place c.set_span.ensures.length e c.args.self.now.there;
      few = closed_few _ _ _ c.in-Some.place (heads ns) (heads ms) c.set_span.ensures.length c.set_span.ensures.set c.args.self.now.few;
    }

pub returns-in-Some : goal.returns-in-Some
returns-in-Some c = record { closed = closed_is c.args.self.now.nodes.items (heads c.set_span.new.nodes.items) c.args.self.now.open.items c.pop.new.self.items c.in-Some.place c.in-Some.ensures.items c.set_span.ensures.set }
