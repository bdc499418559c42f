use Rattle.std.proofs.Common.{arith, ◌≡◌, ◌-◌, ◌∙◌, suc, subst, sym}
use Rattle.plain_rows.specs.Rows.{count_rows}
use Rattle.plain_eval.specs.Moving.{Marked, ClosedFrom}
use Rattle.plain_eval.proofs.Moving.{closed_step, closed_skip, closed_all, roots_keep}
use Rattle.plain_eval.proofs.collect.reached.Goals as goal

pub loop-row-preserved-then-is_marked : goal.loop-row-preserved-then-is_marked
loop-row-preserved-then-is_marked c =
    let s = c.args.store.now in
    let one = c.mark-then-is_marked.ensures in
    let m = c.loop-row.reached.items in
    let m' = c.mark-then-is_marked.new.reached.items in
    let inv = c.loop-row.invariant in
    let k = c.loop-row.row - 1 in
    let up : c.loop-row.row ≡ suc k = let t = c.loop-row-test.true in omega (arith, t) in
    record {
      rows = one.length ∙ inv.rows;
      roots = roots_keep (count_rows s) m m' c.args.values.now one.keeps one.length inv.roots;
      closed = closed_step k s m m' c.fields.result.now c.fields.ensures.fields one.length one.marks one.keeps one.others (subst (λ n. ClosedFrom n s m) up inv.closed);
    }

pub loop-row-preserved : goal.loop-row-preserved
loop-row-preserved c =
    let s = c.args.store.now in
    let m = c.loop-row.reached.items in
    let inv = c.loop-row.invariant in
    let k = c.loop-row.row - 1 in
    let up : c.loop-row.row ≡ suc k = let t = c.loop-row-test.true in omega (arith, t) in
    record {
      rows = inv.rows;
      roots = inv.roots;
      closed = closed_skip k s m (λ mark. let t = c.is_marked.ensures.all (subst (λ l. Marked l k) (sym c.as_slice.ensures.value) mark) in let f = c.if-is_marked.false in cc) (subst (λ n. ClosedFrom n s m) up inv.closed);
    }

pub returns-clause-closed : goal.returns-clause-closed
returns-clause-closed c = closed_all c.loop-row.row c.args.store.now c.loop-row.reached.items c.loop-row-test.false c.loop-row.invariant.closed
