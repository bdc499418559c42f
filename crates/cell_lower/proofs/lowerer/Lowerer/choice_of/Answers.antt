use Rattle.std.proofs.Common.{refl, sym, ap, subst, ◌∙◌, ◌+◌, ◌++◌, [], ◌∷◌, arith}
use Rattle.fip_trees.specs.TreeView.{Case, clause, clauses}
use Rattle.fip_trees.proofs.TreeViews.{clause_is}
use Rattle.lower_parts.proofs.lowering_relation.Placing.{extends_on}
use Rattle.lower_parts.specs.lowering_relation.Rows.{patterns_in}
use Rattle.lower_parts.specs.Clauses.{AddsPattern}
use Rattle.lower_parts.proofs.Folding.{item}
use Rattle.lower_parts.proofs.lower_frame.Growing.{reached_on, room_on}
use Rattle.lower_parts.proofs.Beginning.{positions_new, positions_on, patterns_next, labels_first, labels_next}
use Rattle.lower_parts.proofs.Matched.{entries_first, entries_next}
use Rattle.cell_lower.proofs.lowerer.Lowerer.choice_of.Goals as goal

pub loop-clause-init : goal.loop-clause-init
loop-clause-init c =
    let adds : AddsPattern c.new-choice.result c.add_pattern.new.choice (clause c.args.written.now.first.now).pattern c.args.self.now.frame.next c.add_pattern.new.self.frame.next = subst (λ z. AddsPattern c.new-choice.result c.add_pattern.new.choice z c.args.self.now.frame.next c.add_pattern.new.self.frame.next) (sym (ap (λ (x : Case). x.pattern) (clause_is c.args.written.now.first.now))) c.in_ok-add_pattern.ensures.adds in
    record {
      positions = positions_on c.new-choice.result c.add_pattern.new.choice (clause c.args.written.now.first.now).pattern c.args.register c.args.written.now.ty c.args.self.now.frame.next c.args.self.now.frame.next c.add_pattern.new.self.frame.next (positions_new c.new-choice.result c.args.register c.args.written.now.ty c.args.self.now.frame.next c.args.self.now.frame.next c.new-choice.ensures.root c.new-choice.ensures.of_type c.new-choice.ensures.patterns c.new-choice.ensures.rows refl) adds;
      patterns = ap (λ z. z ++ patterns_in (clauses c.args.written.now.others.now)) (adds.patterns ∙ ap (λ z. z ++ (clause c.args.written.now.first.now).pattern ∷ []) c.new-choice.ensures.patterns);
      frame = c.in_ok-add_pattern.ensures.frame;
      extends = c.in_ok-add_pattern.ensures.extends;
      room = c.in_ok-add_pattern.ensures.room;
      as_long = c.in_ok-add_pattern.ensures.as_long;
      entries = entries_first c.new-choice.result c.add_pattern.new.choice (clause c.args.written.now.first.now).pattern c.args.self.now.frame.next c.add_pattern.new.self.frame.next adds c.in_ok-add_pattern.ensures.entries c.new-choice.ensures.entries c.new-choice.ensures.patterns;
      takes = c.in_ok-add_pattern.ensures.takes ∙ c.new-choice.ensures.takes ∙ c.takes_apart-takes.ensures.takes;
      maps = c.in_ok-add_pattern.ensures.maps;
      labels = labels_first c.new-choice.result c.add_pattern.new.choice (clause c.args.written.now.first.now).pattern c.args.self.now.frame.next c.add_pattern.new.self.frame.next c.args.self.now.buffer c.add_pattern.new.self.buffer c.new-choice.ensures.patterns adds c.in_ok-add_pattern.ensures.one;
      context = c.in_ok-add_pattern.ensures.context;
      gives_up = c.in_ok-add_pattern.ensures.gives_up;
      walk = c.in_ok-add_pattern.ensures.walk;
    }

pub loop-clause-preserved : goal.loop-clause-preserved
loop-clause-preserved c =
    let adds : AddsPattern c.loop-clause.choice c.add_pattern-in-loop-clause.new.choice (clause c.clause-item.result).pattern c.loop-clause.self.frame.next c.add_pattern-in-loop-clause.new.self.frame.next = subst (λ z. AddsPattern c.loop-clause.choice c.add_pattern-in-loop-clause.new.choice z c.loop-clause.self.frame.next c.add_pattern-in-loop-clause.new.self.frame.next) (sym (ap (λ (x : Case). x.pattern) (clause_is c.clause-item.result))) c.in_ok-add_pattern-2.ensures.adds in
    record {
      positions = positions_on c.loop-clause.choice c.add_pattern-in-loop-clause.new.choice (clause c.clause-item.result).pattern c.args.register c.args.written.now.ty c.args.self.now.frame.next c.loop-clause.self.frame.next c.add_pattern-in-loop-clause.new.self.frame.next c.loop-clause.invariant.positions adds;
      patterns = patterns_next c.loop-clause.choice c.add_pattern-in-loop-clause.new.choice (clause c.clause-item.result).pattern c.loop-clause.self.frame.next c.add_pattern-in-loop-clause.new.self.frame.next c.args.written.now.others.now c.loop-clause.clause-index (c.loop-clause.clause-index + 1) c.clause-item.result _ adds (omega arith) (item c.args.written.now.others.now c.loop-clause.clause-index c.clause-item.result c.loop-clause-test.true c.clause-item.is) refl c.loop-clause.invariant.patterns;
      frame = reached_on c.args.self.now.frame c.loop-clause.self.frame c.add_pattern-in-loop-clause.new.self.frame c.loop-clause.invariant.frame c.in_ok-add_pattern-2.ensures.frame;
      extends = extends_on c.args.self.now.buffer c.loop-clause.self.buffer c.add_pattern-in-loop-clause.new.self.buffer c.loop-clause.invariant.extends c.in_ok-add_pattern-2.ensures.extends;
      room = room_on c.args.self.now.frame c.loop-clause.self.frame c.add_pattern-in-loop-clause.new.self.frame c.loop-clause.invariant.frame c.loop-clause.invariant.room c.in_ok-add_pattern-2.ensures.room;
      as_long = c.in_ok-add_pattern-2.ensures.as_long ∙ c.loop-clause.invariant.as_long;
      entries = entries_next c.loop-clause.choice c.add_pattern-in-loop-clause.new.choice (clause c.clause-item.result).pattern c.loop-clause.self.frame.next c.add_pattern-in-loop-clause.new.self.frame.next adds c.in_ok-add_pattern-2.ensures.entries c.loop-clause.invariant.entries;
      takes = c.in_ok-add_pattern-2.ensures.takes ∙ c.loop-clause.invariant.takes;
      maps = c.in_ok-add_pattern-2.ensures.maps ∙ c.loop-clause.invariant.maps;
      labels = labels_next c.loop-clause.choice c.add_pattern-in-loop-clause.new.choice (clause c.clause-item.result).pattern c.loop-clause.self.frame.next c.add_pattern-in-loop-clause.new.self.frame.next c.args.self.now.buffer c.loop-clause.self.buffer c.add_pattern-in-loop-clause.new.self.buffer adds c.loop-clause.invariant.labels c.in_ok-add_pattern-2.ensures.one;
      context = c.in_ok-add_pattern-2.ensures.context ∙ c.loop-clause.invariant.context;
      gives_up = c.in_ok-add_pattern-2.ensures.gives_up ∙ c.loop-clause.invariant.gives_up;
      walk = c.in_ok-add_pattern-2.ensures.walk ∙ c.loop-clause.invariant.walk;
    }
