use Rattle.value_text.specs.Loaded.{types_of, wanted}
use Rattle.value_text.proofs.Whole.{read_of, credited_whole, not_whole}
use Rattle.value_text.proofs.load.build_all.Goals as goal

pub returns-in-Ok : goal.returns-in-Ok
returns-in-Ok c = λ given flags.
    let tb = c.args.table.now in
    let types = types_of c.args.params.now in
    let b = c.in-Ok.ensures given.sound given.known in
    let read = read_of tb types c.args.credits.now c.args.bytes.now c.args.loader.now b.0 b.1 flags in
    credited_whole tb types c.args.credits.now c.args.bytes.now c.args.loader.now c.with_credits.new.loader b.0 c.with_credits.result b.1 (c.with_credits.ensures given.allowed c.args.loader.now b.0 (b.2 (wanted c.args.credits.now b.0) read))

pub returns-in-Err : goal.returns-in-Err
returns-in-Err c = λ given flags. not_whole c.args.table.now (types_of c.args.params.now) c.args.credits.now c.args.bytes.now c.args.loader.now c.build.new.loader c.in-Err.e (c.in-Err.ensures given.sound given.known)
