use Rattle.cell_code.specs.Plain.{plain_function, plain}
use Rattle.code_verify.proofs.Forms.{form_of, labels_below, IsForm}
use Rattle.code_verify.proofs.walk.walk.Goals as goal

pub of-requires : goal.of-requires
of-requires c =
    let code = plain c.args.code.now in
    let f = plain_function c.args.function.now in
    let form : IsForm code f = form_of code f c.requires.formed in
    record { within = labels_below code.types f 0 c.args.function.now.labels.items form.labels }
