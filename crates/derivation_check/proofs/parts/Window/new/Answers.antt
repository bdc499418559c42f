use Rattle.derivation_check.proofs.Windows.{none_seen}
use Rattle.derivation_check.proofs.parts.Window.new.Goals as goal

pub returns-clause-none : goal.returns-clause-none
returns-clause-none c k = none_seen 256 k
