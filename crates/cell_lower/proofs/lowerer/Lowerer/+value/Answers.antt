use Rattle.std.proofs.Common.{rules, ◌≡◌, subst, sym, ap, ◌∙◌, ◌+◌, arith, to_z, of_z, w64}
use Rattle.cell_code.specs.declared.code.Instr.TheVariants as I
use Rattle.lower_parts.specs.lowering_relation.Written.{added}
use Rattle.fip_trees.proofs.TreeViews.{argument_constructor}
use Rattle.std.specs.Borrow.{Bor}
use Rattle.lower_parts.specs.declared.context.Context.{Context}
use Rattle.lower_parts.specs.Writing.{setting, Computes, ComputesAll, Builds}
use Rattle.fip_trees.specs.TreeView.{argument, arguments}
use Rattle.lower_parts.proofs.lower_frame.Frames.{item}
use Rattle.lower_parts.proofs.Writing.{argument_literal, computes_literal, computes_constructor, follow_to}
use Rattle.cell_lower.proofs.lowerer.Lowerer.+value.Goals as goal

pub value-returns-in_ok-register-in-Literal-clause-computes : goal.value-returns-in_ok-register-in-Literal-clause-computes
value-returns-in_ok-register-in-Literal-clause-computes t c = let back : to_z w64 (of_z w64 c.in-Literal.value) ≡ c.in-Literal.value = search rules in subst (λ x. Computes (setting c.args.self.now.context.now) c.args.self.now.frame c.args.self.now.buffer x c.in_ok-register-in-Literal.register c.literal.new.self.frame c.literal.new.self.buffer) (sym (ap argument c.in-Literal.is ∙ argument_literal c.in-Literal.value c.in-Literal.place)) (computes_literal (setting c.args.self.now.context.now) c.args.self.now.frame c.literal.new.self.frame c.args.self.now.buffer c.literal.new.self.buffer c.in-Literal.value c.in-Literal.place c.in_ok-register-in-Literal.register c.in_ok-register-in-Literal.ensures.register c.in_ok-register-in-Literal.ensures.known c.in_ok-register-in-Literal.ensures.room (c.in_ok-register-in-Literal.ensures.written ∙ ap (λ z. added c.args.self.now.buffer (I.Const c.args.self.now.frame.next z)) back))

pub value-returns-in_ok-register-in-Constructor-clause-computes : goal.value-returns-in_ok-register-in-Constructor-clause-computes
value-returns-in_ok-register-in-Constructor-clause-computes t c =
    subst (λ x. Computes (setting c.args.self.now.context.now) c.args.self.now.frame c.args.self.now.buffer x c.in_ok-register-in-Constructor.register c.construct.new.self.frame c.construct.new.self.buffer) (sym (ap argument c.in-Constructor.is ∙ argument_constructor c.in-Constructor.ty c.in-Constructor.data c.in-Constructor.number c.in-Constructor.name c.in-Constructor.place c.in-Constructor.arguments))
    (computes_constructor (setting c.args.self.now.context.now) c.args.self.now.frame c.args.self.now.buffer c.in-Constructor.ty c.in-Constructor.data c.in-Constructor.number c.in-Constructor.name c.in-Constructor.place (arguments c.in-Constructor.arguments.items) c.in_ok-fields-in-Constructor.fields.items c.values.new.self.frame c.values.new.self.buffer c.in_ok-register-in-Constructor.register c.construct.new.self.frame c.construct.new.self.buffer
    (subst (λ x. ComputesAll (setting c.args.self.now.context.now) c.args.self.now.frame c.args.self.now.buffer (arguments x) c.in_ok-fields-in-Constructor.fields.items c.values.new.self.frame c.values.new.self.buffer) c.as_slice.ensures.value c.in_ok-fields-in-Constructor.ensures.computes)
    (subst (λ x. Builds (setting c.args.self.now.context.now) c.values.new.self.frame c.values.new.self.buffer c.in-Constructor.ty c.in-Constructor.number x c.in_ok-register-in-Constructor.register c.construct.new.self.frame c.construct.new.self.buffer) c.as_slice-in-Constructor.ensures.value
    (subst (λ (x : Bor Context). Builds (setting x.now) c.values.new.self.frame c.values.new.self.buffer c.in-Constructor.ty c.in-Constructor.number c.as_slice-in-Constructor.result.now c.in_ok-register-in-Constructor.register c.construct.new.self.frame c.construct.new.self.buffer) c.in_ok-fields-in-Constructor.ensures.context c.in_ok-register-in-Constructor.ensures.builds)))

pub values-loop-argument-preserved : goal.values-loop-argument-preserved
values-loop-argument-preserved t c = record {
  context = c.in_ok-value.ensures.context ∙ c.loop-argument.invariant.context;
  walk = c.in_ok-value.ensures.walk ∙ c.loop-argument.invariant.walk;
  gives_up = c.in_ok-value.ensures.gives_up ∙ c.loop-argument.invariant.gives_up;
  rest = follow_to (setting c.args.self.now.context.now) c.args.self.now.frame c.args.self.now.buffer (arguments c.args.arguments.now) c.loop-argument.self.frame c.loop-argument.self.buffer c.args.arguments.now c.loop-argument.argument-index (c.loop-argument.argument-index + 1) c.argument-item.result c.loop-argument.registers.items c.push.new.self.items c.in_ok-value.field-0 c.value.new.self.frame c.value.new.self.buffer (omega arith) (item c.args.arguments.now c.loop-argument.argument-index c.argument-item.result c.loop-argument-test.true c.argument-item.is) c.loop-argument.invariant.rest
      (subst (λ (x : Bor Context). Computes (setting x.now) c.loop-argument.self.frame c.loop-argument.self.buffer (argument c.argument-item.result) c.in_ok-value.field-0 c.value.new.self.frame c.value.new.self.buffer) c.loop-argument.invariant.context c.in_ok-value.ensures.computes) c.in_ok-push.ensures.items;
}
