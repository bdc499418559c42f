use Rattle.std.proofs.Common.{◌≡◌, ◌∙◌, Some, slice_get, sym, ap, subst}
use Rattle.cell_code.specs.declared.code.Code.{Code}
use Rattle.cell_store.specs.Cells.{Cells}
use Rattle.value_text.specs.Standing.{StandAll}
use Rattle.fip_host.specs.Hosting.{Seen, results_of}
use Rattle.fip_host.proofs.Lines.{results_lines}
use Rattle.fip_host.proofs.hosted.Hosted.results_text.Goals as goal

pub returns-clause-lines : goal.returns-clause-lines
returns-clause-lines c =
    let i = c.self.inside in
    let v = i.verified in
    let m = c.args.self.now in
    let g = c.in-Some-function_in.function.now in
    let tb = c.code.result.now.types in
    let ts = c.as_slice-results.result.now in
    let ws = c.in-Some.words.now in
    let table : tb ≡ m.code.code.types = ap (λ (d : Code). d.types) c.code.ensures.same ∙ ap (λ (x : Seen). x.code.code.types) c.self.view_is in
    let at : slice_get m.code.code.functions.items m.entry ≡ Some g = subst (λ (x : Seen). slice_get x.code.code.functions.items x.entry ≡ Some g) c.self.view_is c.in-Some-function_in.ensures.some in
    let results : results_of m ≡ Some ws = subst (λ (x : Seen). results_of x ≡ Some ws) c.self.view_is (c.in-Some.ensures.some v) in
    let cells : i.cells.cells ≡ m.store.cells = ap (λ (x : Seen). x.store.cells) c.self.view_is in
    results_lines m g tb ts ws c.in_ok-lines_text.field-0.items table c.as_slice-results.ensures.same at results
    (λ xs stand are. c.in_ok-lines_text.ensures.lines xs c.self.invariant.small (subst (λ (cs : Cells). StandAll tb cs ts xs) (sym cells) stand) are)
