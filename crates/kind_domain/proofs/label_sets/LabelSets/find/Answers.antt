use Rattle.std.proofs.Common.{map}
use Rattle.cell_code.specs.Plain.{plain_label}
use Rattle.kind_domain.proofs.SetsCompared.{keeps_answer, missing_same}
use Rattle.kind_domain.proofs.label_sets.LabelSets.find.Goals as goal

pub invariant_of-self : goal.invariant_of-self
invariant_of-self c =
    keeps_answer c.insert.result (map plain_label c.self.inside.labels.now) c.args.own c.args.asked
    c.compare-found.result c.self.inside.answers c.insert.new.self c.self.invariant
    (missing_same _ _ _ _ c.compare-found.result c.list_of.ensures.is c.list_of-2.ensures.is c.compare-found.ensures.is)
    c.insert.ensures.updates c.insert.ensures.err
