use Rattle.std.proofs.Common.{◌∙◌, List, map, ap}
use Rattle.fip_trees.specs.declared.decls.DeclaredType.{DeclaredType}
use Rattle.static_params.specs.FlatProgram.{field_counts}
use Rattle.reached_instances.specs.closed_types.Source.{Declared}
use Rattle.reached_instances.specs.SourceView as S
use Rattle.static_params.proofs.specialised.program_with.Goals as goal

pub returns-clause-arities : goal.returns-clause-arities
returns-clause-arities c = c.in_ok-arities.ensures ∙ ap (λ (l : List DeclaredType). map (λ (d : Declared). d.arity) (map S.declared l)) c.deref.ensures.value

pub returns-clause-field_counts : goal.returns-clause-field_counts
returns-clause-field_counts c = c.in_ok-field_counts.ensures ∙ ap (λ (l : List DeclaredType). map field_counts (map S.declared l)) c.deref-2.ensures.value
