use Rattle.std.proofs.Common.{◌≡◌, Some, subst}
use Rattle.fip_language.proofs.Facts.{get_within}
use Rattle.fip_trees.specs.TreeView.{program, instances}
use Rattle.command_source.specs.FunctionNumbers.{root_function, MissesFunction}
use Rattle.command_source.specs.Wanted.{Compiled, IsRefusedBy}
use Rattle.command_source.proofs.Entries.{ready, code_missing}
use Rattle.command_source.proofs.FunctionNumbers.{missed, named_at, named_kept, root_compiled}
use Rattle.command_source.proofs.Reported.{out_of_memory_keeps}
use Rattle.command_source.proofs.Compiling.{entry_of}
use Rattle.command_source.proofs.entry.compiled.Goals as goal

pub returns-in-Ok-clause-ready : goal.returns-in-Ok-clause-ready
returns-in-Ok-clause-ready c = λ source accepted.
    let name = c.args.entry.now in
    let p = program c.args.lowered.typed.program in
    let is = subst (λ ds. root_function 0 name (instances ds) ≡ Some (Some c.in-Ok.function)) c.as_slice.ensures.value c.in-Ok.ensures.is in
    ready source (Compiled name) p c.verified_entry.result accepted (root_compiled c.in-Ok.function name p.instances is)

pub returns-in-Ok-clause-kept : goal.returns-in-Ok-clause-kept
returns-in-Ok-clause-kept c = λ source accepted. out_of_memory_keeps source (Compiled c.args.entry.now) c.verified_entry.result c.verified_entry.ensures.out_of_memory

pub returns-in-Ok-clause-code : goal.returns-in-Ok-clause-code
returns-in-Ok-clause-code c = λ source accepted filed.
    let name = c.args.entry.now in
    let p = program c.args.lowered.typed.program in
    let code = c.args.lowered.code in
    let is = subst (λ ds. root_function 0 name (instances ds) ≡ Some (Some c.in-Ok.function)) c.as_slice.ensures.value c.in-Ok.ensures.is in
    let named = named_at source name p code c.in-Ok.function accepted c.requires.code is in
    entry_of source name p code c.verified_entry.result accepted c.requires.code filed c.verified_entry.ensures.same c.verified_entry.ensures.sound
    (named_kept name code c.in-Ok.function c.verified_entry.result named c.verified_entry.ensures.same c.verified_entry.ensures.entry)

pub returns-in-Err-clause-kept : goal.returns-in-Err-clause-kept
returns-in-Err-clause-kept c = λ source accepted.
    let name = c.args.entry.now in
    let p = program c.args.lowered.typed.program in
    let none = subst (λ ds. IsRefusedBy (λ r. MissesFunction (root_function 0 name (instances ds)) name r) c.in-Err.failure) c.as_slice.ensures.value c.in-Err.ensures.missed in
    code_missing source name p c.in-Err.failure accepted (missed name p.instances c.in-Err.failure none)

pub verified_entry-requires : goal.verified_entry-requires
verified_entry-requires c =
    let name = c.args.entry.now in
    let p = program c.args.lowered.typed.program in
    let is = subst (λ ds. root_function 0 name (instances ds) ≡ Some (Some c.in-Ok.function)) c.as_slice.ensures.value c.in-Ok.ensures.is in
    let named = named_at c.requires.accepted.0 name p c.args.lowered.code c.in-Ok.function c.requires.accepted.1 c.requires.code is in
    record {
      spelt = c.requires.spelt;
      groups = c.requires.groups;
      code = c.requires.code;
      sound = c.requires.sound;
      within = get_within c.args.lowered.code.functions.items c.in-Ok.function named.function named.there;
    }
