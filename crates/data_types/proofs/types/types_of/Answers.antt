use Rattle.std.proofs.Common.{◌≡◌, ◌∙◌, ◌+◌, ◌++◌, sym, ap, refl, List, ◌∷◌, map, drop}
use Rattle.fip_base.specs.CoreView.{data_type}
use Rattle.fip_base.specs.declared.core_form.Data.{Data}
use Rattle.data_types.specs.Answers.{declared_row_names}
use Rattle.data_types.specs.Declarations.{data_declared, row_names}
use Rattle.data_types.specs.Faults.{data_faults, all_data_faults}
use Rattle.data_types.specs.Numbered.{type_numbered}
use Rattle.data_types.specs.View.{declared}
use Rattle.data_types.proofs.Numbers.{all_true_then}
use Rattle.data_types.proofs.Repeats.{walk_step, push_step, drop_item}
use Rattle.data_types.proofs.types.types_of.Goals as goal

pub loop-data-preserved : goal.loop-data-preserved
loop-data-preserved c =
    let rest = map data_type (drop (c.loop-data.data-index + 1) c.args.declared.now) in
    let here = sym (drop_item c.args.declared.now c.loop-data.data-index c.data-item.result c.loop-data-test.true c.data-item.is) in
    let old = c.loop-data.types.items in
    record {
      types =
          push_step declared old _ c.in_ok-type_of.field-0 (data_declared c.args.names.now (data_type c.data-item.result)) (map (data_declared c.args.names.now) rest) c.in_ok-push-2.ensures.items c.in_ok-type_of.ensures.declared
          ∙ ap (λ (xs : List Data). map declared old ++ map (data_declared c.args.names.now) (map data_type xs)) here
          ∙ c.loop-data.invariant.types;
      names =
          push_step declared_row_names old _ c.in_ok-type_of.field-0 (row_names (data_type c.data-item.result)) (map row_names rest) c.in_ok-push-2.ensures.items c.in_ok-type_of.ensures.names
          ∙ ap (λ (xs : List Data). map declared_row_names old ++ map row_names (map data_type xs)) here
          ∙ c.loop-data.invariant.names;
      numbered = λ n. all_true_then type_numbered old _ c.in_ok-type_of.field-0 c.in_ok-push-2.ensures.items (c.loop-data.invariant.numbered n) (c.in_ok-type_of.ensures.numbered n);
      faults =
          walk_step (λ d. data_faults c.args.names.now (data_type d)) (λ ds. all_data_faults c.args.names.now (map data_type ds)) (λ (x : Data) (xs : List Data). refl) c.args.declared.now c.loop-data.data-index c.data-item.result c.loop-data.least c.type_of.new.least c.loop-data-test.true c.data-item.is c.in_ok-type_of.ensures.faults
          ∙ c.loop-data.invariant.faults;
    }
