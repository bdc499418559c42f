use Rattle.code_file.proofs.Got.{eight_int}
use Rattle.code_file.proofs.reader.Reader.i64.Goals as goal

pub returns : goal.returns
returns c =
    eight_int c.args.self.now c.byte.new.self c.byte-2.new.self c.byte-3.new.self c.byte-4.new.self c.byte-5.new.self c.byte-6.new.self c.byte-7.new.self c.byte-8.new.self
    c.in_ok-byte.field-0 c.in_ok-byte-2.field-0 c.in_ok-byte-3.field-0 c.in_ok-byte-4.field-0 c.in_ok-byte-5.field-0 c.in_ok-byte-6.field-0 c.in_ok-byte-7.field-0 c.in_ok-byte-8.field-0 c.from_be_bytes.result
    c.in_ok-byte.ensures c.in_ok-byte-2.ensures c.in_ok-byte-3.ensures c.in_ok-byte-4.ensures c.in_ok-byte-5.ensures c.in_ok-byte-6.ensures c.in_ok-byte-7.ensures c.in_ok-byte-8.ensures
    c.from_be_bytes.ensures
