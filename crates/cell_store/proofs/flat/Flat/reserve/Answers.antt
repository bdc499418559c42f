-- A call for one size changes the room of stacks alone.
use Rattle.std.proofs.Common.{◌+◌, refl, arith}
use Rattle.std.specs.Vec.{vec_capacity}
use Rattle.std.proofs.Math.Nat.{div-le_self}
use Rattle.cell_store.specs.Flat.{parse, flags}
use Rattle.cell_store.proofs.Parsed.{count_le, length_parse}
use Rattle.cell_store.proofs.Keeps.{kept_roomier}
use Rattle.cell_store.proofs.flat.Flat.reserve.Goals as goal

pub overflow_add-self-inside-in-loop-size : goal.overflow_add-self-inside-in-loop-size
overflow_add-self-inside-in-loop-size c =
    let i = c.loop-size.self-inside in
    let kept = c.loop-size.invariant.kept in
    let less = c.loop-size-test.true in
    let e = kept.counted.exact c.loop-size.size (omega (arith, less)) in
    let l = count_le c.loop-size.size (parse 0 i.words.items) (flags 0 i.words.items) in
    let n = length_parse 0 i.words.items in
    let few = kept.few in
    let part = div-le_self c.args.words (c.loop-size.size + 1) in
    let words = c.requires in
    omega (arith, e, l, n, few, part, words)

pub invariant_of-self-in_err-reserve-4 : goal.invariant_of-self-in_err-reserve-4
invariant_of-self-in_err-reserve-4 c =
    let i = c.loop-size.self-inside in
    kept_roomier i.words.items i.marks.items i.marks.items i.counts i.free.items c.reserve-in-loop-size.new.stacks.items i.made (vec_capacity i.pushed) (vec_capacity i.pushed) i.left c.loop-size.invariant.kept (omega arith) (λ q. refl) c.reserve-in-loop-size.ensures.kept (omega arith)

pub loop-size-preserved : goal.loop-size-preserved
loop-size-preserved c =
    let i = c.loop-size.self-inside in
    record {
      kept = kept_roomier i.words.items i.marks.items i.marks.items i.counts i.free.items c.reserve-in-loop-size.new.stacks.items i.made (vec_capacity i.pushed) (vec_capacity i.pushed) i.left c.loop-size.invariant.kept (omega arith) (λ q. refl) c.reserve-in-loop-size.ensures.kept (omega arith);
      words = c.loop-size.invariant.words;
      pushed = c.loop-size.invariant.pushed;
      left = c.loop-size.invariant.left;
    }
