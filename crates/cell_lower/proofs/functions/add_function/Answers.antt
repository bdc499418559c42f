use Rattle.std.proofs.Common.{rules, ◌≡◌, ◌≤◌, sym, subst, ◌∙◌, Some, slice_get}
use Rattle.std.specs.Prelude.{option_map}
use Rattle.fip_language.specs.declared.limits.TheConstants.{MOST_REGISTERS}
use Rattle.fip_trees.specs.declared.groups.Member.{Member}
use Rattle.fip_trees.specs.TreeView.{instance_of}
use Rattle.cell_lower.specs.Limits.{is_ruled}
use Rattle.lower_parts.specs.Writing.{setting}
use Rattle.cell_lower.proofs.Headers.{registers-some}
use Rattle.cell_lower.proofs.Smalls.{small_added}
use Rattle.cell_lower.proofs.Standing.{laid_added}
use Rattle.lower_parts.proofs.lower_frame.Spelt.{function_pushed}
use Rattle.cell_lower.proofs.functions.add_function.Goals as goal

pub function_of-requires : goal.function_of-requires
function_of-requires c =
    let reported : option_map (λ (m : Member). m.registers) (slice_get c.args.groups.now c.args.number) ≡ Some c.in_ok-registers.registers = search rules in
    record { few = subst (λ n. n ≤ MOST_REGISTERS) (registers-some (slice_get c.args.groups.now c.args.number) c.in_ok-registers.registers reported) (c.requires.few (sym c.is_ruled.ensures.ruled ∙ c.if-is_ruled.true)) }

pub returns-in_ok-push-clause-small : goal.returns-in_ok-push-clause-small
returns-in_ok-push-clause-small c =
    let reported : option_map (λ (m : Member). m.registers) (slice_get c.args.groups.now c.args.number) ≡ Some c.in_ok-registers.registers = search rules in
    small_added (setting c.args.context.now) c.args.groups.now c.args.number (is_ruled c.args.instance.now.kind) (instance_of c.args.instance.now) c.args.functions.now.items c.push.new.self.items c.in_ok-function.function c.in_ok-registers.registers (sym c.is_ruled.ensures.ruled ∙ c.if-is_ruled.true) (registers-some (slice_get c.args.groups.now c.args.number) c.in_ok-registers.registers reported) c.in_ok-push.ensures.items c.in_ok-function.ensures.small

pub returns-in_ok-push-clause-spelt : goal.returns-in_ok-push-clause-spelt
returns-in_ok-push-clause-spelt c = function_pushed c.args.functions.now.items c.push.new.self.items c.in_ok-function.function c.in_ok-push.ensures.items c.in_ok-function.ensures.spelt

pub returns-in_ok-push-clause-laid : goal.returns-in_ok-push-clause-laid
returns-in_ok-push-clause-laid c = laid_added (setting c.args.context.now) c.args.needs.now c.args.number (is_ruled c.args.instance.now.kind) (instance_of c.args.instance.now) c.args.functions.now.items c.push.new.self.items c.in_ok-function.function (sym c.is_ruled.ensures.ruled ∙ c.if-is_ruled.true) c.in_ok-push.ensures.items c.in_ok-function.ensures.laid
