use Rattle.std.proofs.Common.{◌≡◌, ◌∙◌, sym, ap}
use Rattle.code_tables.specs.Marks.{all_true}
use Rattle.code_tables.proofs.Marked.{all_have, have_all}
use Rattle.code_tables.proofs.finite.have_values.Goals as goal

pub returns : goal.returns
returns c =
    let w = c.args.types.now in
    let marks = c.complete.new.marks.items in
    let is : c.are_all.result ≡ all_true marks = c.are_all.ensures ∙ ap all_true c.deref.ensures.value in
    record {
      exact = (
        λ e. all_have w marks c.complete.ensures.marks (sym is ∙ e),
        λ h. is ∙ have_all w marks c.complete.ensures.marks c.complete.ensures.closed h,
      );
    }
