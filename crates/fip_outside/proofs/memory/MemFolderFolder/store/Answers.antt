use Rattle.std.proofs.Common.{ap, ◌∙◌}
use Rattle.fip_outside.specs.Files.{file_of}
use Rattle.fip_outside.proofs.Stored.{file_of-put_file, file_of-put_file-other}
use Rattle.fip_outside.proofs.memory.MemFolderFolder.store.Goals as goal

pub returns-clause-stored : goal.returns-clause-stored
returns-clause-stored c =
    ap (λ v. file_of c.args.name.now v.files) c.in_ok-put.ensures.ok ∙ file_of-put_file c.args.name.now c.args.bytes.now _

pub returns-clause-others : goal.returns-clause-others
returns-clause-others c other n =
    ap (λ v. file_of other v.files) c.in_ok-put.ensures.ok
    ∙ file_of-put_file-other c.args.name.now other c.args.bytes.now _ n
    ∙ ap (λ v. file_of other v.files) c.self.view_is
