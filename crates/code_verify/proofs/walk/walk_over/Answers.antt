use Rattle.std.proofs.Common.{◌≡◌, ◌∙◌, ◌+◌, length, subst, arith}
use Rattle.std.proofs.lemmas.Grind.{common_steps}
use Rattle.cell_code.specs.Plain.{plain_function, plain}
use Rattle.code_rows.specs.Placing.{code_in, with_maps}
use Rattle.code_verify.specs.Finding.{IsFound, HasMachineIntsBelow}
use Rattle.code_verify.proofs.Walking.{first_found, first_literals, next_literals}
use Rattle.code_verify.proofs.Looping.{turn, code_same, function_same, entry_same}
use Rattle.code_verify.proofs.walk.walk_over.Goals as goal

pub loop-at-init : goal.loop-at-init
loop-at-init c =
    let code = c.args.code.now in
    let f = plain_function c.args.function.now in
    let nothing = c.nothing-found.ensures in
    record {
      maps = c.in_ok-registers.ensures.maps;
      coming = c.in_ok-registers.ensures.kinds ∙ entry_same code c.args.table.now f c.requires.types;
      found = first_found (plain code) c.args.number f c.nothing-found.result nothing.least nothing.calls nothing.waiting nothing.drops;
      literals = first_literals f;
    }

pub loop-at-preserved : goal.loop-at-preserved
loop-at-preserved c =
    let code = c.args.code.now in
    let f = plain_function c.args.function.now in
    let at = c.loop-at.at in
    let turned =
    turn (plain code) (code_in c.args.table.now c.as_slice.result.now) f (with_maps f c.args.labels.now)
    (code_same code c.args.table.now c.as_slice.result.now c.requires.types c.as_slice.ensures.value)
    (function_same c.args.function.now c.args.labels.now c.requires.labels)
    c.args.number at (at + 1) c.instr_at.result.now c.loop-at.known c.enter-known.result c.in_ok-known.known
    c.loop-at.registers.kinds c.enter-known.new.registers.kinds c.step.new.registers.kinds c.args.labels.now
    c.loop-at.found c.step.new.found (omega arith) c.instr_at.ensures.is c.requires.labels c.enter-known.ensures.here
    c.in_ok-known.ensures.goes c.in_ok-known.ensures.took c.loop-at.invariant.coming c.loop-at.invariant.found in
    record {
      maps = c.in_ok-known.ensures.maps ∙ (c.enter-known.ensures.maps ∙ c.loop-at.invariant.maps);
      coming = turned.coming;
      found = turned.found;
      literals = next_literals f at (at + 1) c.instr_at.result.now (omega arith) c.instr_at.ensures.is c.instr_at.ensures.literal c.loop-at.invariant.literals;
    }

pub returns : goal.returns
returns c =
    let all : c.loop-at.at ≡ length c.args.function.now.instrs.items = grind (arith, common_steps) in
    record {
      found =
          subst (λ n. IsFound (plain c.args.code.now) c.args.number (plain_function c.args.function.now) n c.loop-at.found) all
          c.loop-at.invariant.found;
      literals = subst (HasMachineIntsBelow (plain_function c.args.function.now)) all c.loop-at.invariant.literals;
    }
