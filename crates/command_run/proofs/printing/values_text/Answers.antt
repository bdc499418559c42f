use Rattle.std.proofs.Common.{◌∷◌, subst}
use Rattle.fip_language.specs.PrintedText.{printed_lines}
use Rattle.command_eval.proofs.plain_rows.Standing.{sides}
use Rattle.command_run.proofs.Lines.{IsPrinting, line_printed, lines_printed}
use Rattle.command_run.proofs.printing.values_text.Goals as goal

pub loop-ty-preserved : goal.loop-ty-preserved
loop-ty-preserved c = λ vs small h.
    let tb = c.args.table.now in
    let cs = c.args.cells.now.cells in
    let z = c.in-Some.ensures.steps in
    let out = c.loop-ty.text.items in
    let whole = printed_lines tb c.args.types.now vs in
    let k = subst (λ ks. IsPrinting tb cs ks (c.in-Some.word.now ∷ c.next.new.self.b.rest.now) out whole) z.0
    (subst (λ ws. IsPrinting tb cs c.loop-ty.ty-iterator.a.rest.now ws out whole) z.1 (c.loop-ty.invariant vs small h)) in
    line_printed tb cs c.in-Some.ty.now c.next.new.self.a.rest.now c.in-Some.word.now c.next.new.self.b.rest.now out c.in_ok-text.text.items c.push.new.self.items whole (c.in_ok-text.ensures.canonical small) c.in_ok-push.ensures.items k

pub returns : goal.returns
returns c = record {
  lines = λ vs small h. lines_printed c.args.table.now c.args.cells.now.cells c.loop-ty.ty-iterator.a.rest.now c.loop-ty.ty-iterator.b.rest.now c.loop-ty.text.items (printed_lines c.args.table.now c.args.types.now vs) (sides c.loop-ty.ty-iterator.a c.loop-ty.ty-iterator.b c.in-None.ensures.steps) (c.loop-ty.invariant vs small h);
}
