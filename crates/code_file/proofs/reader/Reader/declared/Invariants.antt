use Rattle.std.proofs.Common.{◌≡◌, ◌-◌, vec_len}
use Rattle.code_file.specs.Reading.{with_front, read, times, shape_reader}
use Rattle.code_file.proofs.reader.Reader.declared.Given as goal

abbrev pub invariant-loop-i : goal.invariant-loop-i
invariant-loop-i l = record {
  all : vec_len l.constructors ≡ l.i;
  read_so : with_front l.constructors.items (read (times (l.count - l.i) shape_reader) l.self) ≡ read (times l.count shape_reader) l.fn.self;
}
