use Rattle.std.proofs.Common.{◌≡◌, ◌∙◌, sym, ap, subst, List, ◌∷◌, map}
use Rattle.fip_language.specs.Declarations.{bool_type, data_types}
use Rattle.fip_base.specs.CoreView.{core, data_type, function}
use Rattle.fip_base.specs.declared.core_form.Data.{Data}
use Rattle.fip_base.specs.declared.core_form.Function.{Function}
use Rattle.fip_trees.specs.Least.{after}
use Rattle.fip_trees.specs.Names.{Names}
use Rattle.fip_trees.specs.declared.decls.DeclaredType.{DeclaredType}
use Rattle.data_types.specs.Answers.{value_faults}
use Rattle.data_types.specs.Declarations.{data_declared, declarations, row_names}
use Rattle.data_types.specs.Faults.{all_data_faults, all_function_faults}
use Rattle.data_types.specs.Steps.{ReportsValued}
use Rattle.data_types.specs.Numbered.{HasNumbers}
use Rattle.data_types.specs.View as v
use Rattle.data_types.proofs.Naming.{all_walked}
use Rattle.data_types.proofs.Numbers.{has_numbers}
use Rattle.data_types.proofs.declared.checked_types.Goals as goal

pub returns-clause-types : goal.returns-clause-types
returns-clause-types c =
    c.in_ok-types.ensures.types
    ∙ ap (λ (ds : List Data). map (data_declared c.args.names.now) (bool_type ∷ map data_type ds)) c.deref.ensures.value
    ∙ ap (λ (ns : Names). map (data_declared ns) (data_types (core c.args.core.now))) c.requires.names

pub returns-clause-constructors : goal.returns-clause-constructors
returns-clause-constructors c = c.in_ok-types.ensures.names ∙ ap (λ (ds : List Data). map row_names (bool_type ∷ map data_type ds)) c.deref.ensures.value

pub returns-clause-numbered : goal.returns-clause-numbered
returns-clause-numbered c = c.in_ok-types.ensures.numbered (subst HasNumbers (sym c.requires.names) (has_numbers (core c.args.core.now)))

pub returns-clause-faults : goal.returns-clause-faults
returns-clause-faults c o noted =
    let program = core c.args.core.now in
    let ns = c.args.names.now in
    let flags = c.in_ok-check_values.ensures.0 in
    let types : v.declarations c.in_ok-types.types.items ≡ declarations program =
    c.in_ok-types.ensures.types
    ∙ ap (λ (ds : List Data). map (data_declared ns) (bool_type ∷ map data_type ds)) c.deref.ensures.value
    ∙ ap (λ (ns : Names). map (data_declared ns) (data_types program)) c.requires.names in
    record {
      flags = flags;
      reported = subst (λ ds. ReportsValued ds flags) (ap (λ (ts : List DeclaredType). v.declarations ts) c.deref-4.ensures.value ∙ types) c.in_ok-check_values.ensures.1;
      noted =
          all_walked program ns flags o c.args.least.now c.types_of.new.least c.check_functions.new.least c.check_values.new.least c.requires.names noted
          (c.in_ok-types.ensures.faults ∙ ap (λ (ds : List Data). after c.args.least.now (all_data_faults ns (map data_type ds))) c.deref.ensures.value)
          (c.in_ok-check_functions.ensures ∙ ap (λ (fs : List Function). after c.types_of.new.least (all_function_faults ns (map function fs))) c.deref-2.ensures.value)
          (c.in_ok-check_values.ensures.2 ∙ ap (λ (ds : List Data). after c.check_functions.new.least (value_faults 1 flags (map data_type ds))) c.deref-3.ensures.value);
    }
