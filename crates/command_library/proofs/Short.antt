-- The input of at most 100,000 keys hasn't too many bytes: an item of a key has 18 at the most, one of a pad 24.
use Rattle.std.proofs.Common.{◌≡◌, ◌+◌, ◌*◌, ◌^◌, ◌<◌, ◌≤◌, ℕ, zero, suc, List, ◌++◌, length, refl, arith, length-append}
use Rattle.std.specs.Prelude.{codes}
use Rattle.std.specs.Fmt.{decimal}
use Rattle.std.proofs.lemmas.Fmt.{length-decimal-le}
use Rattle.fip_language.specs.declared.limits.TheConstants.{MOST_FILE_BYTES}
use Rattle.task_semantics.specs.Draws.{next_number, numbers}
use Rattle.command_library.specs.MadeTree.{closing, keys_line, pads_line, gen_input}

closing_long : (n : ℕ) → length (closing n) ≡ n + 1
closing_long zero = refl
closing_long (suc n) = let a = length-append (codes ")") (closing n) in let b = closing_long n in omega (arith, a, b)

next_short : (x : ℕ) → length (decimal (next_number x)) ≤ 10
next_short x =
    let below : next_number x < 2 ^ 31 = omega arith in
    length-decimal-le 10 (next_number x) (omega arith) (omega (arith, below)) (omega (arith, below))

keys_short : (count seed n : ℕ) → length (keys_line (numbers count seed) n) ≤ 18 * count + (4 + n)
keys_short zero seed n = let a = length-append (codes "Nil") (closing n) in let b = closing_long n in omega (arith, a, b)
keys_short (suc count) seed n =
    let next : ℕ = next_number seed in
    let rest : List ℕ = keys_line (numbers count next) (suc n) in
    let a = length-append (codes "Cons(") (decimal next ++ (codes ", " ++ rest)) in
    let b = length-append (decimal next) (codes ", " ++ rest) in
    let c = length-append (codes ", ") rest in
    let d = next_short seed in
    let e = keys_short count next (suc n) in
    omega (arith, a, b, c, d, e)

pads_short : (count n : ℕ) → length (pads_line count n) ≤ 24 * count + (4 + n)
pads_short zero n = let a = length-append (codes "Nil") (closing n) in let b = closing_long n in omega (arith, a, b)
pads_short (suc count) n =
    let a = length-append (codes "Cons(Pad4(0, 0, 0, 0), ") (pads_line count (suc n)) in
    let b = pads_short count (suc n) in
    omega (arith, a, b)

pub input_short : (seed count : ℕ) → count ≤ 100000 → length (gen_input seed count) ≤ MOST_FILE_BYTES
input_short seed count few =
    let keys : List ℕ = keys_line (numbers count seed) 0 in
    let a = length-append keys (pads_line count 0 ++ codes "Leaf\n") in
    let b = length-append (pads_line count 0) (codes "Leaf\n") in
    let c = keys_short count seed 0 in
    let d = pads_short count 0 in
    omega (arith, few, a, b, c, d)
