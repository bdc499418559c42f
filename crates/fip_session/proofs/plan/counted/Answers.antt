use Rattle.std.proofs.Common.{arith}
use Rattle.fip_session.proofs.Planning.{placed, read_is, other_end, begins_there}
use Rattle.fip_session.proofs.plan.counted.Goals as goal

pub returns-then-end-min-clause-counts : goal.returns-then-end-min-clause-counts
returns-then-end-min-clause-counts c = λ can w text.
    let tb = c.args.book.now.table.now in
    let bytes = c.args.bytes.now in
    let s = c.args.span.start in
    let e = c.args.span.end in
    let r = c.in-Ok.ensures.reads (placed tb c.args.ty bytes can s e w text) in
    (r.0, read_is tb c.args.ty bytes can s e w text c.in-Ok.end r.0 r.1 (let t = c.if-end-min.true in let m = c.min.ensures in omega (arith, t, m)), r.2)

pub returns-else-end-min-clause-none : goal.returns-else-end-min-clause-none
returns-else-end-min-clause-none c = λ can w text none v is.
    let tb = c.args.book.now.table.now in
    let bytes = c.args.bytes.now in
    let s = c.args.span.start in
    let e = c.args.span.end in
    let r = c.in-Ok.ensures.reads (placed tb c.args.ty bytes can s e w text) in
    other_end tb c.args.ty bytes can s e w text c.in-Ok.end r.0 r.1 (λ z. c.if-end-min.false (let m = c.min.ensures in omega (arith, z, m))) v is

pub returns-in-Err-BadValue-clause-none : goal.returns-in-Err-BadValue-clause-none
returns-in-Err-BadValue-clause-none c = λ can w text e v is.
    let tb = c.args.book.now.table.now in
    let bytes = c.args.bytes.now in
    let s = c.args.span.start in
    let z = c.in-Err-BadValue.ensures.complete (placed tb c.args.ty bytes can s c.args.span.end w text) v (begins_there tb c.args.ty bytes can s c.args.span.end w text v is) in
    cc
