use Rattle.kind_domain.proofs.SetsCompared.{origin_got}
use Rattle.kind_domain.proofs.label_sets.LabelSets.new.Goals as goal

pub returns-clause-none : goal.returns-clause-none
returns-clause-none c = λ q o e. c.in_ok-nones.ensures.none q o (origin_got c.in_ok-nones.field-0.items q o e)
