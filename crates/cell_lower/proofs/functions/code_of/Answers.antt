use Rattle.std.proofs.Common.{refl, sym, subst, map, ap, ◌∙◌}
use Rattle.fip_trees.specs.TreeView.{program, instances}
use Rattle.lower_parts.specs.lowering_relation.Values.{Setting}
use Rattle.cell_lower.specs.LimitNotes.{HaveFewRegisters}
use Rattle.cell_lower.specs.Lowered.{function_instrs, HaveCodes}
use Rattle.cell_lower.specs.Shape.{headers}
use Rattle.lower_parts.specs.Writing.{setting}
use Rattle.cell_lower.proofs.ExceededLimits.{few_registers}
use Rattle.cell_lower.proofs.Programs.{functions_lowered}
use Rattle.cell_lower.specs.Instances.{HaveEach}
use Rattle.cell_lower.specs.LaidProgram.{laid_at}
use Rattle.cell_lower.specs.Small.{HaveSmall}
use Rattle.cell_lower.proofs.Standing.{laid_out}
use Rattle.cell_lower.proofs.Smalls.{are_small}
use Rattle.cell_lower.proofs.functions.code_of.Goals as goal

pub functions_of-requires : goal.functions_of-requires
functions_of-requires c = record { few = subst (λ x. HaveFewRegisters c.args.groups.now (instances x)) (sym c.as_slice.ensures.value) (few_registers (program c.args.program.now) c.args.groups.now c.requires.within) }

pub returns-clause-lowered : goal.returns-clause-lowered
returns-clause-lowered c =
    let s : Setting = setting record { alloc = c.args.alloc; program = c.args.program; scalars = c.in_ok-of.field-0; functions = c.in_ok-numbers_of.field-0 } in
    functions_lowered (program c.args.program.now) s c.in_ok-functions.functions.items (record { scalar = c.in_ok-of.ensures.exact; functions = c.in_ok-numbers_of.ensures.numbered; instances = refl; types = refl })
    (subst (λ x. HaveCodes s (instances x) 0 (map function_instrs c.in_ok-functions.functions.items)) c.as_slice.ensures.value c.in_ok-functions.ensures.codes)

pub returns-clause-bounded : goal.returns-clause-bounded
returns-clause-bounded c =
    let s : Setting = setting record { alloc = c.args.alloc; program = c.args.program; scalars = c.in_ok-of.field-0; functions = c.in_ok-numbers_of.field-0 } in
    are_small (program c.args.program.now) s c.args.groups.now c.in_ok-functions.functions.items (record { scalar = c.in_ok-of.ensures.exact; functions = c.in_ok-numbers_of.ensures.numbered; instances = refl; types = refl })
    (subst (λ x. HaveSmall s c.args.groups.now (instances x) 0 0 c.in_ok-functions.functions.items) c.as_slice.ensures.value c.in_ok-functions.ensures.small)

pub returns-clause-laid : goal.returns-clause-laid
returns-clause-laid c =
    let s : Setting = setting record { alloc = c.args.alloc; program = c.args.program; scalars = c.in_ok-of.field-0; functions = c.in_ok-numbers_of.field-0 } in
    laid_out (program c.args.program.now) s c.args.groups.now c.args.needs.now (record { types = c.in_ok-table_of.field-0; functions = c.in_ok-functions.functions }) (record { scalar = c.in_ok-of.ensures.exact; functions = c.in_ok-numbers_of.ensures.numbered; instances = refl; types = refl }) c.in_ok-table_of.ensures.same
    (c.in_ok-functions.ensures.all ∙ ap (λ x. headers c.args.groups.now (instances x)) c.as_slice.ensures.value)
    (subst (λ x. HaveEach (laid_at s c.args.needs.now) (instances x) 0 0 c.in_ok-functions.functions.items) c.as_slice.ensures.value c.in_ok-functions.ensures.laid)
    c.requires.sound
