use Rattle.std.proofs.Common.{◌∙◌, List, map, ap}
use Rattle.fip_language.specs.Mentions.{all_of}
use Rattle.fip_base.specs.CoreView as V
use Rattle.fip_base.specs.declared.core_form.Parameter.{Parameter}
use Rattle.fip_base.specs.declared.core_form.Static.{Static}
use Rattle.fip_language.specs.declared.CreditMark.{CreditMark}
use Rattle.static_params.specs.FlatProgram.{credit_size, is_root, signature_tuple}
use Rattle.static_params.specs.FlatView.{Making, block_in, bound_parameter_in, making, parameter_in, type_in}
use Rattle.reached_instances.specs.closed_types.Uses.{result_types}
use Rattle.static_params.proofs.Made.{stays_more}
use Rattle.static_params.proofs.specialised.instance_of.Goals as goal

pub returns-clause-stays : goal.returns-clause-stays
returns-clause-stays c = λ m.
    let f0 = c.args.flattening.now in
    let f1 = c.params_of.new.flattening in
    let f2 = c.binders_of.new.flattening in
    let f3 = c.results.new.self in
    let f4 = c.block.new.self in
    let s1 = c.in_ok-params.ensures.stays m in
    let s2 = stays_more f0 f1 f2 s1 (c.in_ok-binders.ensures.stays s1.ready) in
    let s3 = stays_more f0 f2 f3 s2 (c.in_ok-results.ensures.stays s2.ready) in
    stays_more f0 f3 f4 s3 (c.in_ok-body.ensures.stays s3.ready)

pub returns-clause-made : goal.returns-clause-made
returns-clause-made c = λ m e.
    let f0 = c.args.flattening.now in
    let f1 = c.params_of.new.flattening in
    let f2 = c.binders_of.new.flattening in
    let f3 = c.results.new.self in
    let w = making f0 in
    let g = c.args.found.now.function.now in
    let s1 = c.in_ok-params.ensures.stays m in
    let s2 = stays_more f0 f1 f2 s1 (c.in_ok-binders.ensures.stays s1.ready) in
    let s3 = stays_more f0 f2 f3 s2 (c.in_ok-results.ensures.stays s2.ready) in
    let name = c.in_ok-name.ensures.same in
    let credits = c.in_ok-credits.ensures ∙ ap (λ (l : List CreditMark). map credit_size l) c.deref.ensures.value in
    let tuples = c.in_ok-signature_tuples.ensures ∙ ap (λ (l : List Static). all_of signature_tuple (map V.static l)) c.deref-2.ensures.value in
    let params = c.in_ok-params.ensures.made m ∙ ap (λ (l : List Parameter). map (parameter_in w) (map V.parameter l)) c.deref-3.ensures.value in
    let binders = c.in_ok-binders.ensures.made s1.ready ∙ ap (λ (v : Making). map (bound_parameter_in v) (map V.parameter c.deref-4.result.now)) s1.same ∙ ap (λ (l : List Parameter). map (bound_parameter_in w) (map V.parameter l)) c.deref-4.ensures.value in
    let results = c.in_ok-results.ensures.flat s2.ready ∙ ap (λ (v : Making). map (type_in v) (result_types (V.result_type g.result))) s2.same in
    let body = c.in_ok-body.ensures.flat s3.ready ∙ ap (λ (v : Making). block_in v (V.block g.body)) s3.same in
    let bracket = c.bracket_of-results_place.ensures in
    let count = c.len.ensures ∙ c.args.found.now.mentions.binders.ok.0 ∙ e in
    let root = c.is_root-root.ensures ∙ ap (λ (l : List Static). is_root (map V.static l)) c.deref-5.ensures.value in
    λ i. record {
      name = name i;
      place = g.place;
      root = root i;
      kind = g.kind;
      params = params i;
      binders = binders i;
      credits = credits i;
      results = results i;
      results_place = bracket i;
      signature_tuples = tuples i;
      variables = count i;
      body = body i;
    }
