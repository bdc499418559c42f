use Rattle.std.proofs.Common.{sym, ◌∙◌, arith}
use Rattle.fip_language.proofs.Facts.{map_length}
use Rattle.fip_trees.specs.TreeView.{program, instance_of}
use Rattle.fip_trees.proofs.TypedPrograms.{few_instances, few_types}
use Rattle.cell_lower.proofs.ExceededLimits.{refused, accepted, always}
use Rattle.cell_lower.proofs.functions.lower.Goals as goal

pub returns-in-None-clause-within : goal.returns-in-None-clause-within
returns-in-None-clause-within c = always c.in_phase.result (accepted (program c.args.typed.now.program) c.args.groups.now c.in-Ok.least c.in-Ok.ensures.noted (sym c.into_refusal.ensures.least ∙ c.in-None.is))

pub returns-in-Some-clause-least : goal.returns-in-Some-clause-least
returns-in-Some-clause-least c = refused (program c.args.typed.now.program) c.args.groups.now c.in-Ok.least c.in-Some.refusal c.in-Ok.ensures.noted (sym c.into_refusal.ensures.least ∙ c.in-Some.is)

pub code_of-requires : goal.code_of-requires
code_of-requires c =
    let p = program c.args.typed.now.program in
    let few = few_instances p c.args.typed.now.sound in
    let same = map_length instance_of c.args.typed.now.program.instances.items in
    record {
      few = (omega (arith, few, same));
      few_types = few_types p c.args.typed.now.sound;
      sound = c.args.typed.now.sound;
      within = accepted p c.args.groups.now c.in-Ok.least c.in-Ok.ensures.noted (sym c.into_refusal.ensures.least ∙ c.in-None.is);
    }
