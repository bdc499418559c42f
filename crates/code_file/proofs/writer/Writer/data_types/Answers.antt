use Rattle.std.proofs.Common.{◌≡◌, ◌+◌, ◌<◌, ◌∙◌, ℕ, length, ap, arith}
use Rattle.fip_language.specs.Table.{constructors}
use Rattle.std.proofs.lemmas.Result.{err_from_is_err_and}
use Rattle.code_file.specs.CodeText.{type_text}
use Rattle.code_file.specs.Spelling.{each}
use Rattle.code_file.specs.Written.{after}
use Rattle.code_file.proofs.Writing.{loop_item_is, loop_fails_is, loop_done, row_is}
use Rattle.code_file.proofs.writer.Writer.data_types.Goals as goal

pub returns-in_err-data_type : goal.returns-in_err-data_type
returns-in_err-data_type c =
    let p = err_from_is_err_and c.from_residual.result c.from_residual.ensures.1 in
    let all = c.requires in
    let lt : c.loop-i.i < length c.args.types.now = omega arith in
    let e : c.from.result ≡ c.loop-i.i = omega (arith, c.from.ensures) in
    rw (p.1, p.2) (loop_fails_is (Unit {0}) (Unit {0}) type_text c.args.types.now c.loop-i.i c.constructors_of.result.now c.loop-i.self c.data_type.new.self c.data_type.new.self c.in_err-data_type.field-0.0 (after c.args.self.now (each type_text c.args.types.now)) lt (row_is c.args.types.now c.loop-i.i c.constructors_of.result.now lt (c.constructors_of.ensures.same ∙ ap (λ (n : ℕ). constructors c.args.types.now (n + 1)) e)) c.in_err-data_type.ensures c.loop-i.invariant)

pub loop-i-preserved : goal.loop-i-preserved
loop-i-preserved c =
    let all = c.requires in
    let lt : c.loop-i.i < length c.args.types.now = omega arith in
    let e : c.from.result ≡ c.loop-i.i = omega (arith, c.from.ensures) in
    loop_item_is type_text c.args.types.now c.loop-i.i c.constructors_of.result.now c.loop-i.self c.data_type.new.self (after c.args.self.now (each type_text c.args.types.now)) lt (row_is c.args.types.now c.loop-i.i c.constructors_of.result.now lt (c.constructors_of.ensures.same ∙ ap (λ (n : ℕ). constructors c.args.types.now (n + 1)) e)) c.in_ok-data_type.ensures c.loop-i.invariant

pub returns : goal.returns
returns c =
    let all = c.requires in
    loop_done type_text c.args.types.now c.loop-i.i c.loop-i.self (after c.args.self.now (each type_text c.args.types.now)) (omega arith) c.loop-i.invariant
