use Rattle.std.proofs.Common.{subst}
use Rattle.call_groups.specs.CallGraph.{rows, IsPartition}
use Rattle.code_verify.proofs.accept.survey_of.Goals as goal

pub returns : goal.returns
returns c = record {
  walked = c.in_ok-walked.ensures;
  groups = subst (λ calls. IsPartition (rows calls) c.in_ok-groups.groups) c.deref.ensures.value c.in_ok-groups.ensures.groups;
}
