use Rattle.std.proofs.Common.{subst}
use Rattle.fip_language.specs.SoundTable.{AreTypes, IsSoundTable}
use Rattle.fip_language.specs.Values.{Values}
use Rattle.fip_language.specs.ValueText.{SpellsValues}
use Rattle.command_source.specs.fip_trees.declared.program.Typed.{Typed}
use Rattle.value_text.specs.Loaded.{types_of}
use Rattle.plain_rows.specs.Rows.{AreRows}
use Rattle.command_eval.specs.Arguments.{IsNoText}
use Rattle.command_eval.proofs.Meant.{evaluated_reported, no_text_reported}
use Rattle.command_eval.proofs.evaluation.evaluate.Goals as goal

pub returns-in-Ok-clause-means : goal.returns-in-Ok-clause-means
returns-in-Ok-clause-means c = λ source name rooted le.
    let ks = types_of c.as_slice.result.now in
    let given = subst (λ (t : Typed). IsSoundTable t.program.types → AreTypes t.program.types ks → (vs : Values) × SpellsValues t.program.types ks c.args.input.now vs × AreRows c.in-Ok.rows vs) c.typed.ensures.same (λ sound known. c.in-Ok.ensures.rows sound known le) in
    evaluated_reported source name c.args.input.now c.args.calls c.args.frames c.args.program.typed.program c.args.program.entry c.instance-instance.result.now c.as_slice.result.now rooted c.instance-instance.ensures.same c.as_slice.ensures.same c.as_slice-in-Ok.result.now c.in-Ok.rows c.evaluated.result c.as_slice-in-Ok.ensures.same given c.evaluated.ensures.reports

pub returns-clause-means : goal.returns-clause-means
returns-clause-means c = λ source name rooted le.
    let ks = types_of c.as_slice.result.now in
    let given = subst (λ (t : Typed). IsSoundTable t.program.types → AreTypes t.program.types ks → IsNoText t.program.types ks c.args.input.now c.in-Err.failure) c.typed.ensures.same (λ sound known. c.in-Err.ensures.none sound known le) in
    no_text_reported source name c.args.input.now c.args.calls c.args.frames c.args.program.typed.program c.args.program.entry c.instance-instance.result.now c.as_slice.result.now rooted c.instance-instance.ensures.same c.as_slice.ensures.same c.in-Err.failure given
