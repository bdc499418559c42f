use Rattle.std.proofs.Common.{◌<◌, ◌∙◌, ℕ, ◌+◌, List, length, get_or, drop, take, refl, sym, ap, subst, arith}
use Rattle.std.proofs.lemmas.List.{drop-set-lt}
use Rattle.std.proofs.lemmas.Option.{slice_get-get_or}
use Rattle.fip_host.specs.declared.hosted.Kept.{Kept}
use Rattle.fip_host.specs.Keeping.{ArePut, count_free, typed_words}
use Rattle.fip_host.proofs.Putting.{one_fewer, put_one}
use Rattle.fip_host.proofs.hosted.values.put_all.Goals.{in-Some, in-None}
use Rattle.fip_host.proofs.hosted.values.put_all.Goals as goal

pub loop-i-init : goal.loop-i-init
loop-i-init c = record { put = refl; free = omega arith; many = refl; rest = refl }

pub loop-i-preserved : goal.loop-i-preserved
loop-i-preserved c =
    let ts = c.args.types.now in
    let ws = c.args.words.now in
    let i = c.loop-i.i in
    let ns = c.loop-i.numbers in
    let mid = c.loop-i.kept in
    let inv = c.loop-i.invariant in
    let here = c.loop-i-test.true in
    let value : Kept = record { ty = get_or ts i 0; word = get_or ws i 0 } in
    elim c.match-put.branch [
      | in-Some w ↦
          let n = w.in-Some.free in
          let free = w.in-Some.ensures.free in
          let fewer = one_fewer mid n value free in
          let after = ap count_free w.in-Some.ensures.put in
          let long = c.match-put.auto.numbers in
          let many = inv.many in
          let known = c.requires in
          let type_at = slice_get-get_or ts i 0 (let h = known.types in omega (arith, h, here)) in
          let word_at = slice_get-get_or ws i 0 (let h = known.words in omega (arith, h, here)) in
          let within : i < length ns = let h = known.numbers in omega (arith, h, here, many) in
          record {
            put = subst (λ (xs : List ℕ). ArePut (take (i + 1) (typed_words ts ws)) (take (i + 1) xs) c.args.kept.now c.put.new.kept) (sym w.numbers-is)
                (put_one ts ws ns i (get_or ts i 0) (get_or ws i 0) n value c.args.kept.now mid c.put.new.kept within type_at word_at refl inv.put free w.in-Some.ensures.put);
            free = let h = inv.free in omega (arith, fewer, after, h);
            many = omega (arith, long, many);
            rest = ap (λ (xs : List ℕ). drop c.args.count xs) w.numbers-is ∙ drop-set-lt c.args.count ns i n here ∙ inv.rest;
          }
      | in-None w ↦ let none = w.in-None.ensures.none in let h = inv.free in let f = c.requires.free in absurd (omega (arith, none, h, f, here))
    ]
