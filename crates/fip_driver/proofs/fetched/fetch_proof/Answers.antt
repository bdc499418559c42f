use Rattle.std.proofs.Common.{ap, Err}
use Rattle.fip_driver.proofs.SourceEnds.{long_judged}
use Rattle.fip_driver.proofs.fetched.fetch_proof.Goals as goal

pub returns-in-Err-TooLong-clause-fails : goal.returns-in-Err-TooLong-clause-fails
returns-in-Err-TooLong-clause-fails g c = long_judged (g.F.Folder.files c.args.folder.now) c.args.name.now _ _ c.bad_proof.result (c.in-Err-TooLong.ensures.long (ap Err c.in-Err-TooLong.field-0-is)) c.bad_proof.ensures.names
