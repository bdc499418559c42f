use Rattle.std.proofs.Common.{sym, ap, ◌∙◌, ◌-◌, arith}
use Rattle.std.specs.Vec.{vec_len}
use Rattle.fip_trees.specs.TreeView.{Case, argument, clause, clauses}
use Rattle.fip_trees.proofs.TreeViews.{clause_is}
use Rattle.lower_parts.specs.Marks.{marking_block, marking_clauses}
use Rattle.lower_parts.specs.Writing.{setting}
use Rattle.lower_parts.proofs.Marking.{marked_as, match_marked, new_marks}
use Rattle.cell_lower.proofs.lowerer.Lowerer.marks_of.Goals as goal

pub returns : goal.returns
returns c =
    let s = setting c.args.self.now.context.now in
    let k = c.args.self.now.frame in
    let d = c.args.written.now.destructive in
    let a = argument c.args.written.now.scrutinee.now in
    let first = c.args.written.now.first.now in
    let cs = clauses c.args.written.now.others.now in
    let body = ap (λ (x : Case). x.body) (clause_is first) in
    record {
      marked = marked_as s c.args.self.now.gives_up k d a (clause first) cs c.mark_clauses.new.marks.items c.if-not-self.false
          (match_marked s k d a (clause first) cs c.resize.new.self.items c.mark_clauses.new.marks.items (omega (arith, c.in_ok-resize.ensures.len, c.next.ensures.next, c.resize.new.self.ok.0))
          (new_marks c.next.result (c.next.result - vec_len c.new-used.result) c.new-used.result.items c.resize.new.self.items c.new-used.ensures.items c.in_ok-resize.ensures.items)
          (c.mark_clauses.ensures.marked ∙ ap (marking_clauses k.names s.instances cs) (c.used_in.ensures.marked ∙ ap (λ b. marking_block k.names s.instances b c.mark_if.new.marks.items) (sym body) ∙ ap (marking_block k.names s.instances (clause first).body) c.mark_if.ensures.marked)));
    }
