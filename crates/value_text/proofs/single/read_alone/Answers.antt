use Rattle.std.proofs.Common.{ℕ, ◌+◌, ◌<◌, ◌≤◌, Option, sym, subst, length, arith}
use Rattle.std.specs.Prelude.{Ok, MatchOption}
use Rattle.value_text.specs.declared.read.Event.{Event}
use Rattle.value_text.specs.Reading.{outline, alone, Stepped, cost_of}
use Rattle.value_text.specs.Counting.{IsCounting}
use Rattle.value_text.specs.Alone.{AloneRead}
use Rattle.value_text.proofs.Counted.{counting_alone, counting_few, counting_on}
use Rattle.value_text.proofs.OneValue.{open_goes, not_whole, is_whole, never_last, read_whole, read_not}
use Rattle.value_text.proofs.single.read_alone.Goals as goal

pub loop-cursor-init : goal.loop-cursor-init
loop-cursor-init c =
    let a = c.begin_value-cursor.ensures.at in
    let m = c.min.ensures in
    record {
      within = omega (arith, a, m);
      forward = λ le. omega (arith, a, m, le);
      counting = λ given n.
          let o = outline c.begin_value-cursor.result in
          let within = given.within in
          subst (λ p. IsCounting c.args.table.now (alone c.args.ty c.args.at n) c.args.bytes.now o p c.none-counts.result) (omega (arith, a, m, within))
          (counting_alone c.args.table.now c.args.ty c.args.at n c.args.bytes.now o c.none-counts.result c.none-counts.ensures given.known within c.begin_value-cursor.ensures.starts);
    }

pub loop-cursor-preserved : goal.loop-cursor-preserved
loop-cursor-preserved c =
    let tb = c.args.table.now in
    let bytes = c.args.bytes.now in
    let old = c.loop-cursor.cursor in
    let new = c.step.new.cursor in
    let e = c.in-Ok-Some.event in
    let p = subst (λ (o : Option Event). MatchOption o ℕ (λ e. (old.at < new.at) × (old.at + cost_of e ≤ new.at) × (new.at ≤ length bytes))) c.in-Ok-Some.field-0-is c.in-Ok-Some.ensures.place in
    record {
      within = p.2;
      forward = λ le. let f = c.loop-cursor.invariant.forward le in let q = p.0 in omega (arith, f, q);
      counting = λ given n.
          let from = alone c.args.ty c.args.at n in
          let i = c.loop-cursor.invariant.counting given n in
          let known = (i.reading).known in
          let short = given.short in
          let go = open_goes (outline old) i.spot (i.reading).outline (not_whole c.is_whole.result c.is_whole.ensures c.loop-cursor-test.true) in
          counting_on tb from bytes (outline old) (outline new) old.at new.at c.loop-cursor.counts c.add_closed.new.self e i go (λ s g q. subst (λ (o : Option Event). Stepped tb bytes s old.at (Ok o) (outline new) new.at) c.in-Ok-Some.field-0-is (c.in-Ok-Some.ensures.reads given.sound known s g q)) (c.in-Ok-Some.ensures.known given.sound known) p.1 p.2
          (c.add_closed.ensures (λ k le. let f = counting_few tb from bytes (outline old) old.at c.loop-cursor.counts i k le in omega (arith, f, p.0, p.2, short)));
    }

pub returns-in-Ok-None-clause-reads : goal.returns-in-Ok-None-clause-reads
returns-in-Ok-None-clause-reads c = λ given.
    let old = c.loop-cursor.cursor in
    let new = c.step.new.cursor in
    let i = c.loop-cursor.invariant.counting given 0 in
    let r = i.reading in
    let go = open_goes (outline old) i.spot r.outline (not_whole c.is_whole.result c.is_whole.ensures c.loop-cursor-test.true) in
    let m = subst (λ (o : Option Event). Stepped c.args.table.now c.args.bytes.now i.spot old.at (Ok o) (outline new) new.at) c.in-Ok-None.field-0-is (c.in-Ok-None.ensures.reads given.sound r.known i.spot go r.outline) in
    absurd (never_last i.spot m.0 0 r.following m.1)

pub returns-in-Err-clause-reads : goal.returns-in-Err-clause-reads
returns-in-Err-clause-reads c = λ given.
    let old = c.loop-cursor.cursor in
    let new = c.step.new.cursor in
    let known = ((c.loop-cursor.invariant.counting given 0).reading).known in
    read_not c.args.table.now c.args.ty c.args.bytes.now c.args.at (outline old) (outline new) old.at new.at c.in-Err.e
    (λ n. let i = c.loop-cursor.invariant.counting given n in (i.spot, i.reading, open_goes (outline old) i.spot (i.reading).outline (not_whole c.is_whole.result c.is_whole.ensures c.loop-cursor-test.true)))
    (λ s g q. c.in-Err.ensures.reads given.sound known s g q)

pub returns-clause-reads : goal.returns-clause-reads
returns-clause-reads c = λ given.
    let cursor = c.loop-cursor.cursor in
    let whole = is_whole c.is_whole.result c.is_whole.ensures c.loop-cursor-test.false in
    subst (λ p. AloneRead c.args.table.now c.args.ty c.args.bytes.now c.args.at (Ok (p, c.loop-cursor.counts))) (sym c.place_of-2.ensures)
    (read_whole c.args.table.now c.args.ty c.args.bytes.now c.args.at given (outline cursor) cursor.at whole.0 whole.1 c.loop-cursor.counts (c.loop-cursor.invariant.forward given.within) (c.loop-cursor.invariant.counting given))
