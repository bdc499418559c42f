use Rattle.std.proofs.Common.{◌∙◌, ap, List, map}
use Rattle.fip_base.specs.CoreView as V
use Rattle.fip_base.specs.declared.core_form.Data.{Data}
use Rattle.fip_base.specs.declared.core_form.Function.{Function}
use Rattle.fip_trees.specs.Least.{after}
use Rattle.fip_trees.specs.Names.{names, with_meanings}
use Rattle.data_types.specs.Declarations.{type_meanings, constructor_meanings, function_meanings}
use Rattle.data_types.specs.Faults.{repeats, type_mentions, constructor_mentions, function_mentions}
use Rattle.data_types.proofs.Naming.{WithTypes, WithConstructors, WithFunctions, all_named, all_noted}
use Rattle.data_types.proofs.names.declare_names.Goals as goal

pub returns-clause-names : goal.returns-clause-names
returns-clause-names c =
    let core = V.core c.args.core.now in
    let f : WithTypes c.predeclare.new.names c.add_types.new.names core.types = record {
      types = c.in_ok-add_types.ensures.types ∙ ap (λ (ds : List Data). with_meanings c.predeclare.new.names.types (type_meanings 2 (map V.data_type ds))) c.deref.ensures.value;
      constructors = c.in_ok-add_types.ensures.constructors;
      functions = c.in_ok-add_types.ensures.functions;
    } in
    let g : WithConstructors c.add_types.new.names c.add_constructors.new.names core.types = record {
      constructors = c.in_ok-add_constructors.ensures.constructors ∙ ap (λ (ds : List Data). with_meanings c.add_types.new.names.constructors (constructor_meanings 2 (map V.data_type ds))) c.deref-2.ensures.value;
      types = c.in_ok-add_constructors.ensures.types;
      functions = c.in_ok-add_constructors.ensures.functions;
    } in
    let k : WithFunctions c.add_constructors.new.names c.add_functions.new.names core.functions = record {
      functions = c.in_ok-add_functions.ensures.functions ∙ ap (λ (fs : List Function). with_meanings c.add_constructors.new.names.functions (function_meanings 0 (map V.function fs))) c.deref-3.ensures.value;
      types = c.in_ok-add_functions.ensures.types;
      constructors = c.in_ok-add_functions.ensures.constructors;
    } in
    all_named core c.predeclare.new.names c.add_types.new.names c.add_constructors.new.names c.add_functions.new.names c.in_ok-predeclare.ensures f g k

pub returns-clause-faults : goal.returns-clause-faults
returns-clause-faults c =
    let core = V.core c.args.core.now in
    let f : WithTypes c.predeclare.new.names c.add_types.new.names core.types = record {
      types = c.in_ok-add_types.ensures.types ∙ ap (λ (ds : List Data). with_meanings c.predeclare.new.names.types (type_meanings 2 (map V.data_type ds))) c.deref.ensures.value;
      constructors = c.in_ok-add_types.ensures.constructors;
      functions = c.in_ok-add_types.ensures.functions;
    } in
    let g : WithConstructors c.add_types.new.names c.add_constructors.new.names core.types = record {
      constructors = c.in_ok-add_constructors.ensures.constructors ∙ ap (λ (ds : List Data). with_meanings c.add_types.new.names.constructors (constructor_meanings 2 (map V.data_type ds))) c.deref-2.ensures.value;
      types = c.in_ok-add_constructors.ensures.types;
      functions = c.in_ok-add_constructors.ensures.functions;
    } in
    all_noted core c.predeclare.new.names c.add_types.new.names c.add_constructors.new.names c.args.least.now c.add_types.new.least c.add_constructors.new.least c.add_functions.new.least c.in_ok-predeclare.ensures f g
    (c.in_ok-add_types.ensures.faults ∙ ap (λ (ds : List Data). after c.args.least.now (repeats (names c.predeclare.new.names.types) (type_mentions (map V.data_type ds)))) c.deref.ensures.value)
    (c.in_ok-add_constructors.ensures.faults ∙ ap (λ (ds : List Data). after c.add_types.new.least (repeats (names c.add_types.new.names.constructors) (constructor_mentions (map V.data_type ds)))) c.deref-2.ensures.value)
    (c.in_ok-add_functions.ensures.faults ∙ ap (λ (fs : List Function). after c.add_constructors.new.least (repeats (names c.add_constructors.new.names.functions) (function_mentions (map V.function fs)))) c.deref-3.ensures.value)
