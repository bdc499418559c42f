use Rattle.std.proofs.Common.{rules, ◌∙◌, ap}
use Rattle.type_check.specs.World.{plain_in}
use Rattle.type_check.proofs.Plains.{length_nothing, none_found, length_plain, will_step, index_same}
use Rattle.type_check.specs.Found.{or_found, known}
use Rattle.std.specs.Prelude.{slice_get, length}
use Rattle.type_check.proofs.tables.plain_types.Goals as goal

pub loop-data_type-init : goal.loop-data_type-init
loop-data_type-init c = record {
  number = search rules;
  many = ap length c.in_ok-found.ensures ∙ length_nothing c.args.arities.now;
  found = λ d. ap (λ o. or_found o (plain_in c.args.arities.now c.args.declaring.now 1 d)) (ap (λ fs. known (slice_get fs d)) c.in_ok-found.ensures ∙ none_found c.args.arities.now d);
}

pub loop-data_type-preserved : goal.loop-data_type-preserved
loop-data_type-preserved c =
    record {
      number = search rules;
      many = ap length c.put_plain.ensures ∙ length_plain c.args.arities.now _ _ c.loop-data_type.found.items ∙ c.loop-data_type.invariant.many;
      found = λ d. will_step c.args.arities.now c.args.declaring.now c.loop-data_type.found.items c.put_plain.new.found.items c.loop-data_type.data_type-index c.loop-data_type.number _ d (search rules) (index_same c.args.declaring.now c.loop-data_type.data_type-index 0 _ (search rules)) c.loop-data_type.invariant.many c.loop-data_type.invariant.number c.put_plain.ensures ∙ c.loop-data_type.invariant.found d;
    }
