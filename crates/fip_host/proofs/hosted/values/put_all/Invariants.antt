-- The first values are put under the first numbers, and as many fewer numbers are free.
use Rattle.std.proofs.Common.{◌≡◌, ◌+◌, length, drop, take}
use Rattle.fip_host.specs.Keeping.{ArePut, count_free, typed_words}
use Rattle.fip_host.proofs.hosted.values.put_all.Given as goal

abbrev pub invariant-loop-i : goal.invariant-loop-i
invariant-loop-i l = record {
  put : ArePut (take l.i (typed_words l.types l.words)) (take l.i l.numbers) l.initial.kept l.kept;
  free : count_free l.kept + l.i ≡ count_free l.initial.kept;
  many : length l.numbers ≡ length l.initial.numbers;
  rest : drop l.count l.numbers ≡ drop l.count l.initial.numbers;
}
