use Rattle.std.proofs.Common.{◌≡◌, subst}
use Rattle.std.specs.Prelude.{None, Some}
use Rattle.fip_trees.specs.TreeView.{program, instances, instance_of}
use Rattle.command_source.specs.Roots.{root_named}
use Rattle.command_source.proofs.Entries.{root_found, root_missing}
use Rattle.command_source.proofs.entry.rooted.Goals as goal

pub returns-in-None-clause-kept : goal.returns-in-None-clause-kept
returns-in-None-clause-kept c = λ source accepted. root_missing source c.args.entry.now (program c.args.typed.program) c.entry_refused.result accepted (subst (λ name. root_named name (instances c.args.typed.program.instances.items) ≡ None) c.as_bytes.ensures.value (subst (λ ds. root_named c.as_bytes.result.now (instances ds) ≡ None) c.as_slice.ensures.value c.in-None.ensures.first)) c.entry_refused.ensures.names

pub returns-in-Some-clause-found : goal.returns-in-Some-clause-found
returns-in-Some-clause-found c = λ source accepted. root_found source c.args.entry.now c.args.typed.program c.as_slice.result.now c.in-Some.number c.in-Some.ensures.first.0 c.as_slice.ensures.value accepted c.in-Some.ensures.first.1 (subst (λ name. root_named name (instances c.as_slice.result.now) ≡ Some (instance_of c.in-Some.ensures.first.0)) c.as_bytes.ensures.value c.in-Some.ensures.first.2)
