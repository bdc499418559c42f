use Rattle.fip_driver.specs.HandedOut.{bytes_in}
use Rattle.fip_driver.proofs.program.fp2.Goals as goal

pub returns-clause-made : goal.returns-clause-made
returns-clause-made g c = (bytes_in c.fp2_with_code.new.fetched, c.fp2_with_code.new.made, c.fp2_with_code.ensures.made)
