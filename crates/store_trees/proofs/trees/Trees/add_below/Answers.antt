use Rattle.std.proofs.Common.{◌≡◌, ◌∙◌, ◌<◌, length, ap, sym, arith}
use Rattle.std.specs.Prelude.{Some, None, slice_get}
use Rattle.std.proofs.lemmas.Bool.Decides.{nat_tests}
use Rattle.store_trees.proofs.Walking.{next_is, next_stands, none_past, walking_on, walking_ends, walking_many}
use Rattle.store_trees.proofs.trees.Trees.add_below.Goals as goal

pub returns-in_default-clause-all : goal.returns-in_default-clause-all
returns-in_default-clause-all g c = λ small front ahead h e.
    let tb = c.args.table.now in
    let cs = g.C.Cells.cells c.args.cells.now in
    let list = c.loop-next.self.list.items in
    let gone : None ≡ slice_get c.as_slice.result.now c.loop-next.next = c.in_default.ensures in
    let none : None ≡ slice_get list c.loop-next.next = gone ∙ ap (λ ts. slice_get ts c.loop-next.next) c.as_slice.ensures.value in
    walking_ends tb cs front ahead c.loop-next.next list (c.loop-next.invariant small front ahead h) (none_past list c.loop-next.next none)

pub loop-next-preserved : goal.loop-next-preserved
loop-next-preserved g c = λ small front ahead h.
    let tb = c.args.table.now in
    let cs = g.C.Cells.cells c.args.cells.now in
    let list = c.loop-next.self.list.items in
    let at = c.loop-next.next in
    let t = c.in-Some.tree in
    let w = c.loop-next.invariant small front ahead h in
    let here : Some t ≡ slice_get c.as_slice.result.now at = c.in-Some.ensures in
    let there : Some t ≡ slice_get list at = here ∙ ap (λ ts. slice_get ts at) c.as_slice.ensures.value in
    let n = next_is tb cs front ahead at list t w (sym there) in
    walking_on tb cs front ahead at list c.add_fields.new.self.list.items t w n (c.in_ok-add_fields.ensures small n.first (next_stands tb cs front ahead at list t w n) n.is)

pub returns-clause-many : goal.returns-clause-many
returns-clause-many g c = λ small front ahead h e.
    let tb = c.args.table.now in
    let cs = g.C.Cells.cells c.args.cells.now in
    let list = c.loop-next.self.list.items in
    let longest = c.max.ensures in
    let long = c.len.ensures in
    let more : c.args.most < length list = grind (arith, nat_tests) in
    walking_many tb cs front ahead c.loop-next.next c.args.start c.args.most list (c.loop-next.invariant small front ahead h) h.at more
