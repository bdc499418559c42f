use Rattle.std.proofs.Common.{subst}
use Rattle.cell_code.specs.Plain.{plain}
use Rattle.code_rules.specs.Tables.{AreSoundTables}
use Rattle.code_rules.specs.Breaks.{IsSound}
use Rattle.code_verify.specs.Checked.{Checked, HasMachineInts}
use Rattle.code_verify.proofs.verified.Verified.code.Goals as goal

pub returns-clause-tables : goal.returns-clause-tables
returns-clause-tables c = subst (λ (v : Checked). AreSoundTables (plain v.code)) c.self.view_is c.self.invariant.tables

pub returns-clause-sound : goal.returns-clause-sound
returns-clause-sound c = subst (λ (v : Checked). IsSound (plain v.code)) c.self.view_is c.self.invariant.sound

pub returns-clause-literals : goal.returns-clause-literals
returns-clause-literals c = subst (λ (v : Checked). HasMachineInts (plain v.code)) c.self.view_is c.self.invariant.literals
