use Rattle.std.proofs.Common.{sym, subst}
use Rattle.value_text.specs.Loaded.{types_of}
use Rattle.value_text.specs.Answered.{CanLoad, IsAnswer}
use Rattle.value_text.proofs.Whole.{all_built}
use Rattle.value_text.proofs.load.make_all.Goals as goal

pub returns-in-Ok : goal.returns-in-Ok
returns-in-Ok c = λ given vs can.
    let tb = c.args.table.now in
    let types = types_of c.args.params.now in
    let first = c.reserve.new.self in
    let can' = subst (λ l. CanLoad tb types c.args.credits.now c.args.bytes.now l vs) (sym c.in-Ok.ensures.same) can in
    subst (λ l. IsAnswer tb types c.args.credits.now c.args.bytes.now l c.answer_of.result) c.in-Ok.ensures.same (c.answer_of.ensures tb types c.args.credits.now c.args.bytes.now first vs can' (all_built tb types c.args.credits.now c.args.bytes.now first c.build_all-built.new.loader vs c.build_all-built.result can' (c.build_all-built.ensures given can'.flags)))
