use Rattle.std.proofs.Common.{◌≡◌, sym, ap, subst, ◌∙◌, length, arith, not, ◌&&◌}
use Rattle.std.specs.Borrow.{Bor}
use Rattle.fip_trees.specs.TreeView.{argument, clause, clauses}
use Rattle.lower_parts.specs.lowering_relation.Known.{Known}
use Rattle.lower_parts.specs.lowering_relation.Losing.{Loses}
use Rattle.lower_parts.specs.lowering_relation.Written.{size}
use Rattle.lower_parts.proofs.lowering_relation.Placing.{extends_on}
use Rattle.lower_parts.specs.Clauses.{HasPositions}
use Rattle.lower_parts.specs.lower_frame.Registers.{registers, HasRoom}
use Rattle.lower_parts.specs.lowering_relation.Values.{is_scalar}
use Rattle.lower_parts.specs.declared.context.Context.{Context}
use Rattle.lower_parts.specs.Laying.{ForgetsLaid}
use Rattle.lower_parts.specs.Leaving.{sizes_of}
use Rattle.lower_parts.specs.Marks.{MarkedFor}
use Rattle.lower_parts.specs.Writing.{setting, target_of}
use Rattle.lower_parts.specs.lower_frame.Positions.{reaching}
use Rattle.lower_parts.specs.Scenes.{patterns_of}
use Rattle.lower_parts.proofs.Beginning.{resumes_reached, loses_then, begun_few, entry_room, as_many_clauses, whole_choice}
use Rattle.cell_lower.proofs.lowerer.Lowerer.start_match.Goals as goal

pub returns-clause-begins : goal.returns-clause-begins
returns-clause-begins c = λ x.
    let lost : Loses c.value.new.self.frame c.forget_built.new.self.frame = loses_then c.value.new.self.frame c.end_matched.new.self.frame c.forget_built.new.self.frame c.in_ok-end_matched.ensures.loses c.in_ok-forget_built.ensures.loses in
    let positions : HasPositions c.in_ok-choice.choice c.in_ok-register.register c.args.written.now.ty c.value.new.self.frame.next c.in_ok-copy.field-0.next = subst (λ n. HasPositions c.in_ok-choice.choice c.in_ok-register.register c.args.written.now.ty n c.in_ok-copy.field-0.next) lost.next (subst (HasPositions c.in_ok-choice.choice c.in_ok-register.register c.args.written.now.ty c.forget_built.new.self.frame.next) (sym (ap (λ (x : Known). x.next) c.in_ok-copy.ensures.same)) c.in_ok-choice.ensures.positions) in
    let as_long : size c.new_label.new.self ≡ size c.end_matched.new.self.buffer = ap length c.in_ok-end.ensures.instrs ∙ c.in_ok-choice.ensures.as_long ∙ c.in_ok-forget_built.ensures.as_long in
    let forgot : registers c.forget_built.new.self.frame ≡ registers c.value.new.self.frame = c.in_ok-forget_built.ensures.registers ∙ c.in_ok-end_matched.ensures.sheds.as_many in
    let entry_many : registers c.in_ok-copy.field-0 ≡ registers c.forget_built.new.self.frame = ap registers c.in_ok-copy.ensures.same ∙ ap registers c.in_ok-choice.ensures.frame in
    record {
      register = c.in_ok-register.register;
      known = c.value.new.self.frame;
      computed = c.value.new.self.buffer;
      given_up = c.end_matched.new.self.buffer;
      computes = c.in_ok-register.ensures.computes;
      gives_up = c.in_ok-end_matched.ensures.given_up;
      extends = extends_on c.end_matched.new.self.buffer c.choice_of.new.self.buffer c.new_label.new.self (extends_on c.end_matched.new.self.buffer c.forget_built.new.self.buffer c.choice_of.new.self.buffer c.in_ok-forget_built.ensures.extends c.in_ok-choice.ensures.extends) c.in_ok-end.ensures.extends;
      as_long = as_long;
      used = omega (arith, c.if-register-next.false, c.next.ensures.next);
      positions = positions;
      patterns = c.in_ok-choice.ensures.patterns;
      resumes = resumes_reached c.value.new.self.frame c.forget_built.new.self.frame c.in_ok-copy.field-0 lost (c.in_ok-copy.ensures.same ∙ c.in_ok-choice.ensures.frame ∙ ap (λ (x : Known). reaching c.forget_built.new.self.frame x.next) (sym c.in_ok-copy.ensures.same)) (let g = c.in_ok-choice.ensures.positions.spotted.grows in let e = ap (λ (x : Known). x.next) c.in_ok-copy.ensures.same in omega (arith, g, e));
      as_many = entry_many ∙ forgot ∙ c.in_ok-register.ensures.computes.as_many;
      room = entry_room c.value.new.self.frame c.forget_built.new.self.frame c.choice_of.new.self.frame c.in_ok-copy.field-0 lost.next forgot c.in_ok-choice.ensures.room c.in_ok-copy.ensures.same;
      few = begun_few c.args.self.now.frame c.value.new.self.frame c.end_matched.new.self.frame c.args.self.now.buffer c.value.new.self.buffer c.end_matched.new.self.buffer c.forget_built.new.self.buffer c.choice_of.new.self.buffer c.new_label.new.self (argument c.args.written.now.scrutinee.now) (length (patterns_of c.in_ok-choice.choice)) c.in_ok-register.ensures.computes.as_many c.in_ok-register.ensures.computes.few c.in_ok-end_matched.ensures.sheds c.in_ok-forget_built.ensures.labels c.in_ok-choice.ensures.labels c.in_ok-end.ensures.one as_long;
    }

pub returns-clause-laid : goal.returns-clause-laid
returns-clause-laid c =
    let before : c.end_matched.new.self.context ≡ c.args.self.now.context = c.in_ok-end_matched.ensures.context ∙ c.in_ok-register.ensures.context in
    let context : c.forget_built.new.self.context ≡ c.args.self.now.context = c.in_ok-forget_built.ensures.context ∙ before in
    let gives_up : c.forget_built.new.self.gives_up ≡ c.args.self.now.gives_up = c.in_ok-forget_built.ensures.gives_up ∙ c.in_ok-end_matched.ensures.gives_up ∙ c.in_ok-register.ensures.gives_up in
    let copied : c.in_ok-copy.field-0 ≡ c.choice_of.new.self.frame = c.in_ok-copy.ensures.same in
    record {
      register = c.in_ok-register.register;
      computed = c.value.new.self.frame;
      valued = c.value.new.self.buffer;
      computes = c.in_ok-register.ensures.computes;
      used = omega (arith, c.if-register-next.false, c.next.ensures.next);
      before = c.end_matched.new.self.frame;
      given_up = c.end_matched.new.self.buffer;
      bares = c.in_ok-end_matched.ensures.laid;
      given_extends = c.in_ok-end_matched.ensures.given_up.extends;
      given_many = c.in_ok-end_matched.ensures.sheds.as_many;
      forgot = c.forget_built.new.self.frame;
      reported = c.forget_built.new.self.buffer;
      forgets = subst (λ (x : Bor Context). ForgetsLaid x.now.program.now.types c.in_ok-register.register c.end_matched.new.self.frame c.end_matched.new.self.buffer c.forget_built.new.self.frame c.forget_built.new.self.buffer) before c.in_ok-forget_built.ensures.forgets;
      reported_extends = c.in_ok-forget_built.ensures.extends;
      reported_long = c.in_ok-forget_built.ensures.as_long;
      entry = copied ∙ c.in_ok-choice.ensures.frame ∙ ap (λ (x : Known). reaching c.forget_built.new.self.frame x.next) (sym copied);
      maps = c.in_ok-end.ensures.maps ∙ c.in_ok-choice.ensures.maps;
      extends = extends_on c.forget_built.new.self.buffer c.choice_of.new.self.buffer c.new_label.new.self c.in_ok-choice.ensures.extends c.in_ok-end.ensures.extends;
      as_long = ap length c.in_ok-end.ensures.instrs ∙ c.in_ok-choice.ensures.as_long;
      positions = subst (HasPositions c.in_ok-choice.choice c.in_ok-register.register c.args.written.now.ty c.forget_built.new.self.frame.next) (sym (ap (λ (x : Known). x.next) copied)) c.in_ok-choice.ensures.positions;
      patterns = c.in_ok-choice.ensures.patterns;
      entries = c.in_ok-choice.ensures.entries;
      takes = subst (λ (x : Bor Context). c.in_ok-choice.choice.takes ≡ (c.args.written.now.destructive && not (is_scalar (setting x.now) c.args.written.now.ty))) context c.in_ok-choice.ensures.takes;
      room = subst (HasRoom c.forget_built.new.self.frame) (sym copied) c.in_ok-choice.ensures.room;
      marked = subst (λ b. MarkedFor (not b) (target_of c.args.target) (setting c.args.self.now.context.now) c.forget_built.new.self.frame c.args.written.now.destructive (argument c.args.written.now.scrutinee.now) (clause c.args.written.now.first.now) (clauses c.args.written.now.others.now) c.in_ok-used.used.items) gives_up
          (subst (λ (x : Bor Context). MarkedFor (not c.forget_built.new.self.gives_up) (target_of c.args.target) (setting x.now) c.forget_built.new.self.frame c.args.written.now.destructive (argument c.args.written.now.scrutinee.now) (clause c.args.written.now.first.now) (clauses c.args.written.now.others.now) c.in_ok-used.used.items) context c.in_ok-used.ensures.marked);
      need = λ x e. c.enter-need.ensures.need ∙ ap sizes_of e;
    }

pub returns-clause-whole : goal.returns-clause-whole
returns-clause-whole c = whole_choice c.in_ok-choice.choice c.in_ok-choice.ensures.positions.rows c.in_ok-choice.ensures.entries

pub returns-clause-clauses : goal.returns-clause-clauses
returns-clause-clauses c = as_many_clauses c.in_ok-choice.choice (clause c.args.written.now.first.now).pattern c.args.written.now.others.now c.in_ok-choice.ensures.entries c.in_ok-choice.ensures.patterns
