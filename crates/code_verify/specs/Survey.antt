-- For the proofs alone: what is found of all functions of a code, and the groups of their calls.
use Rattle.std.specs.Prelude.{length}
use Rattle.call_groups.specs.CallGraph.{rows, IsPartition}
use Rattle.cell_code.specs.Plain.{PlainCode}
use Rattle.code_rows.specs.Noting.{Answers}
use Rattle.code_verify.specs.declared.accept.Survey.{Survey}
use Rattle.code_verify.specs.declared.accept.Walked.{Walked}
use Rattle.code_verify.specs.Surveying.{AreRowsBelow, OtherBelow}

pub record IsWalked (c : PlainCode) (w : Walked) : Type 0 where
  pub rows_are : AreRowsBelow c (length c.functions) w.calls.items w.waiting.items w.drops.items
  pub least : Answers (OtherBelow c (length c.functions)) w.least.first

pub record IsSurvey (c : PlainCode) (s : Survey) : Type 0 where
  pub walked : IsWalked c s.walked
  pub groups : IsPartition (rows s.walked.calls.items) s.groups
