use Rattle.std.proofs.Common.{List, ℕ, Global, [], ◌∷◌}
use Rattle.std.specs.Prelude.{vec_items}
use Rattle.std.proofs.lemmas.Result.{err_from_is_err_and}
use Rattle.code_file.specs.Reading.{with_front, read, times, byte, is_name_byte, same}
use Rattle.code_file.proofs.Steps.{times_err, times_more, times_all}
use Rattle.code_file.proofs.reader.Reader.name_bytes.Goals as goal

pub returns-in_err-name_byte : goal.returns-in_err-name_byte
returns-in_err-name_byte c =
    let p = err_from_is_err_and c.from_residual-in_err-name_byte.result c.from_residual-in_err-name_byte.ensures.1 in
    rw (p.1, p.2) (times_err (same {X = ℕ}) (vec_items {X = ℕ} {Z = Global}) (byte is_name_byte) c.args.count c.loop-i.i c.loop-i.self c.name_byte.new.self c.name_byte.new.self c.loop-i.name.items c.in_err-name_byte.field-0.0 (with_front (c.args.first ∷ []) (read (times c.args.count (byte is_name_byte)) c.args.self.now)) c.loop-i-test.true c.loop-i.invariant c.in_err-name_byte.ensures)

pub loop-i-preserved : goal.loop-i-preserved
loop-i-preserved c = times_more (byte is_name_byte) c.args.count c.loop-i.i c.loop-i.self c.name_byte.new.self c.loop-i.name.items c.push-in-loop-i.new.self.items c.in_ok-name_byte.field-0 (with_front (c.args.first ∷ []) (read (times c.args.count (byte is_name_byte)) c.args.self.now)) c.loop-i-test.true c.in_ok-push-2.ensures.items c.in_ok-name_byte.ensures c.loop-i.invariant

pub returns : goal.returns
returns c = times_all (byte is_name_byte) c.args.count c.loop-i.i c.loop-i.self c.loop-i.name.items (with_front (c.args.first ∷ []) (read (times c.args.count (byte is_name_byte)) c.args.self.now)) c.loop-i-test.false c.loop-i.invariant
