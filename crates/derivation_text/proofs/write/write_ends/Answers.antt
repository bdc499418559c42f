use Rattle.std.proofs.Common.{◌≡◌, [], ◌++◌, arith}
use Rattle.std.proofs.lemmas.Grind.{common_steps}
use Rattle.derivation_text.specs.Writing.{ends_text, after_ends, turned}
use Rattle.derivation_text.proofs.Writers.{comma_text, comma_open, close_text, close_open, ended_text}
use Rattle.derivation_text.proofs.write.write_ends.Goals as goal

pub returns-then-parts-gt1-clause-text : goal.returns-then-parts-gt1-clause-text
returns-then-parts-gt1-clause-text c = comma_text c.loop-parts.open.items c.pop.new.self.items c.in-Some.parts c.loop-parts.text.items c.push.new.self.items (c.args.text.now.items ++ ends_text (turned c.args.open.now.items)) c.in-Some.ensures.items c.if-parts-gt1.true c.in_ok-push.ensures.items c.loop-parts.invariant.text

pub returns-then-parts-gt1-clause-open : goal.returns-then-parts-gt1-clause-open
returns-then-parts-gt1-clause-open c = comma_open c.loop-parts.open.items c.pop.new.self.items c.push-then-parts-gt1.new.self.items c.in-Some.parts (after_ends (turned c.args.open.now.items)) c.in-Some.ensures.items c.if-parts-gt1.true c.in_ok-push-2.ensures.items c.loop-parts.invariant.rest

pub loop-parts-preserved : goal.loop-parts-preserved
loop-parts-preserved c = record {
  text = close_text c.loop-parts.open.items c.pop.new.self.items c.in-Some.parts c.loop-parts.text.items c.push-in-Some.new.self.items (c.args.text.now.items ++ ends_text (turned c.args.open.now.items)) c.in-Some.ensures.items c.if-parts-gt1.false c.in_ok-push-3.ensures.items c.loop-parts.invariant.text;
  rest = close_open c.loop-parts.open.items c.pop.new.self.items c.in-Some.parts (after_ends (turned c.args.open.now.items)) c.in-Some.ensures.items c.if-parts-gt1.false c.loop-parts.invariant.rest;
}

pub returns-clause-text : goal.returns-clause-text
returns-clause-text c =
    let e : c.loop-parts.open.items ≡ [] = grind (arith, common_steps) in
    ended_text c.loop-parts.open.items c.loop-parts.text.items (c.args.text.now.items ++ ends_text (turned c.args.open.now.items)) e c.loop-parts.invariant.text
