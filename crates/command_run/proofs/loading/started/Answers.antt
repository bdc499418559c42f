use Rattle.std.proofs.Common.{◌≡◌, ◌∙◌, sym, ap, subst}
use Rattle.std.proofs.lemmas.Result.{err_from_is_err_and}
use Rattle.fip_machine.specs.cell_code.declared.code.Code.{Code}
use Rattle.fip_machine.specs.code_verify.Checked.{Checked}
use Rattle.command_words.specs.View.{room_of}
use Rattle.command_eval.specs.machine_correctness.code_rules.Breaks.{IsSound}
use Rattle.fip_machine.specs.cell_code.Plain.{plain_function, plain}
use Rattle.value_text.specs.Loaded.{types_of, IsGiven}
use Rattle.command_run.specs.Starting.{IsInNewStore, KeepsFromLoading}
use Rattle.command_run.proofs.Beginning.{is_loadable, kept, moved, started}
use Rattle.command_run.proofs.Loaded.{given}
use Rattle.command_run.proofs.loading.started.Goals as goal

pub returns-in_err-loader-clause-keeps : goal.returns-in_err-loader-clause-keeps
returns-in_err-loader-clause-keeps c = λ table le.
    let r = c.args.ready.now in
    let g = c.function-function.result.now in
    let input = c.args.input.now in
    let at = c.function-function.ensures.same in
    let sound = subst (λ (v : Checked). IsSound (plain v.code)) c.verified.ensures.same c.code.ensures.sound in
    let types : c.code.result.now.types ≡ r.checked.code.types = ap (λ (d : Code). d.types) c.code.ensures.same ∙ ap (λ (v : Checked). v.code.types) c.verified.ensures.same in
    let asked : IsGiven r.checked.code.types (types_of g.params) g.credits.items input = given r.checked.code.types (plain_function g) input table (is_loadable r.checked r.entry g sound at) le in
    let is_given = moved (λ tb ps ks. IsGiven tb (types_of ps) ks input) _ _ _ _ _ _ (sym types) (sym c.as_slice-params.ensures.same) (sym c.as_slice-credits.ensures.value) asked in
    let keeps = moved (λ tb ps ks. KeepsFromLoading tb (types_of ps) ks input c.args.room.words c.in_err-loader.field-0.0) _ _ _ _ _ _ types c.as_slice-params.ensures.same c.as_slice-credits.ensures.value (c.in_err-loader.ensures.keeps is_given) in
    let p = err_from_is_err_and c.from_residual.result c.from_residual.ensures.1 in
    rw (p.1, p.2) (kept r g input (room_of c.args.room) c.frames_for-frames.result c.in_err-loader.field-0.0 c.frames_for-frames.ensures.exact at keeps)

pub returns-clause-begins : goal.returns-clause-begins
returns-clause-begins c = λ table le.
    let r = c.args.ready.now in
    let g = c.function-function.result.now in
    let input = c.args.input.now in
    let at = c.function-function.ensures.same in
    let sound = subst (λ (v : Checked). IsSound (plain v.code)) c.verified.ensures.same c.code.ensures.sound in
    let types : c.code.result.now.types ≡ r.checked.code.types = ap (λ (d : Code). d.types) c.code.ensures.same ∙ ap (λ (v : Checked). v.code.types) c.verified.ensures.same in
    let asked : IsGiven r.checked.code.types (types_of g.params) g.credits.items input = given r.checked.code.types (plain_function g) input table (is_loadable r.checked r.entry g sound at) le in
    let is_given = moved (λ tb ps ks. IsGiven tb (types_of ps) ks input) _ _ _ _ _ _ (sym types) (sym c.as_slice-params.ensures.same) (sym c.as_slice-credits.ensures.value) asked in
    let loads = moved (λ tb ps ks. IsInNewStore tb (types_of ps) ks input c.args.room.words c.in_ok-loader.loader c.in_ok-loader.words.items) _ _ _ _ _ _ types c.as_slice-params.ensures.same c.as_slice-credits.ensures.value (c.in_ok-loader.ensures.loads is_given) in
    started r g input (room_of c.args.room) c.frames_for-frames.result c.in_ok-loader.loader c.in_ok-loader.words.items c.in_ok-start.field-0 c.verified-2.result.now c.entry-entry.result c.verified-2.ensures.same c.entry-entry.ensures.same at sound table loads c.frames_for-frames.ensures.exact c.in_ok-start.ensures.code c.in_ok-start.ensures.fresh c.in_ok-start.ensures.store c.in_ok-start.ensures.small c.in_ok-start.ensures.pushed c.in_ok-start.ensures.loaded
