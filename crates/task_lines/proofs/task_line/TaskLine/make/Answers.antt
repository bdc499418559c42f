use Rattle.std.proofs.Common.{◌≡◌, ◌∙◌, List, sym, ap, subst}
use Rattle.fip_base.specs.declared.plain.Param.{Param}
use Rattle.cell_code.specs.declared.code.Function.{Function}
use Rattle.value_text.specs.Loaded.{types_of, AreCredits}
use Rattle.task_lines.specs.Making.{AreValued, AreCredited, IsMadeOf}
use Rattle.task_lines.specs.Reading.{AreAt}
use Rattle.session_values.specs.Readable.{AreParams}
use Rattle.task_lines.proofs.CallMade.{joined, own_function}
use Rattle.task_lines.proofs.task_line.TaskLine.make.Goals as goal

pub returns : goal.returns
returns c = record {
  made = λ ok x line.
      let code = c.args.code.now in
      let t = c.args.self.now in
      let f = c.in-Some.function.now in
      let own : f ≡ x.function = own_function code t x f line c.in-Some.ensures.there in
      let ps : c.as_slice-params.result.now ≡ x.function.params = c.as_slice-params.ensures.same ∙ ap (λ (g : Function). g.params) own in
      let ks : c.as_slice.result.now ≡ x.function.credits.items = c.as_slice.ensures.value ∙ ap (λ (g : Function). g.credits.items) own in
      let places : c.as_slice-places.result.now ≡ t.values.items = c.as_slice-places.ensures.value in
      let params : AreParams code.types (types_of x.function.params) = record { table = ok.table; known = ok.known x.entry x.function line.there } in
      let asked = subst (λ (qs : List Param). AreParams code.types (types_of qs)) (sym ps) params in
      let at = subst (λ (qs : List Param). AreAt code.types t.bytes.now (types_of qs) c.as_slice-places.result.now x.values) (sym ps) (subst (λ qs. AreAt code.types t.bytes.now (types_of x.function.params) qs x.values) (sym places) line.at) in
      let v = c.in_ok-loader.ensures.made asked (line.line).short x.values at in
      let values : AreValued code.types (types_of x.function.params) c.args.loader c.in_ok-loader.loader x.values v.0 c.in_ok-loader.words.items = subst (λ (qs : List Param). AreValued code.types (types_of qs) c.args.loader c.in_ok-loader.loader x.values v.0 c.in_ok-loader.words.items) ps v.1 in
      let k = c.in_ok-add_credits.ensures.made (subst AreCredits (sym ks) (ok.credits x.entry x.function line.there)) c.left-left.ensures.flags in
      let credits : AreCredited x.function.credits.items c.in_ok-loader.loader c.add_credits.new.loader c.in_ok-loader.words.items c.add_credits.new.words.items = subst (λ qs. AreCredited qs c.in_ok-loader.loader c.add_credits.new.loader c.in_ok-loader.words.items c.add_credits.new.words.items) ks k in
      (v.0, credits.places, subst (IsMadeOf code.types x c.args.loader c.add_credits.new.loader v.0 credits.places) (sym c.new.ensures.same) (joined code.types x c.args.loader c.in_ok-loader.loader c.add_credits.new.loader v.0 c.in_ok-loader.words.items c.add_credits.new.words.items values credits));
}
