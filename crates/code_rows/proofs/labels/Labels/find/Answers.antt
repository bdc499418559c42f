use Rattle.std.proofs.Common.{◌≤◌, subst, map, length, None, arith}
use Rattle.std.proofs.lemmas.Grind.{common_steps}
use Rattle.std.proofs.lemmas.Option.{gets}
use Rattle.cell_code.specs.Plain.{plain_label}
use Rattle.code_rows.specs.Numbering.{IsNumber}
use Rattle.code_rows.proofs.Steps.{number_past}
use Rattle.code_rows.proofs.labels.Labels.find.Goals as goal

pub returns-in-None : goal.returns-in-None
returns-in-None c =
    let numbers = c.self.inside.numbers.items in
    let past : length numbers ≤ c.args.at = grind (arith, common_steps, gets) in
    record {
      is =
          subst (λ maps. IsNumber maps c.args.at None) c.self.view_is
          (number_past (map plain_label c.self.inside.labels.now) numbers c.args.at c.self.invariant past);
    }
