use Rattle.std.proofs.Common.{ℕ, List, subst}
use Rattle.value_text.specs.Building.{IsMade}
use Rattle.value_text.proofs.Results.{take_zeros}
use Rattle.task_lines.proofs.making.credit.Goals as goal

pub returns-in-Ok : goal.returns-in-Ok
returns-in-Ok c = record {
  made = λ some few.
      let m = c.in-Ok.ensures.made in
      (m.0, m.1, subst (λ (xs : List ℕ). IsMade c.args.loader.now c.push_cell.new.loader m.0 (record { tag = 0; fields = xs })) (take_zeros c.args.size 16 few) m.2);
}
