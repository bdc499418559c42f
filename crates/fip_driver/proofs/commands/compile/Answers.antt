use Rattle.std.proofs.Common.{refl, subst}
use Rattle.command_words.specs.Words as W
use Rattle.command_answers.specs.command_library.command_source.ProgramCode.{IsCompiledFile}
use Rattle.command_answers.specs.command_library.command_source.Wanted.{Lawful}
use Rattle.command_answers.proofs.SourceCode.{source_file}
use Rattle.fip_driver.specs.Turns.{end_of}
use Rattle.fip_driver.proofs.Making.{compiled, uncompiled, unfetched}
use Rattle.fip_driver.proofs.SourceEnds.{compile_ends, compile_refused, source_ends, fetch_ends}
use Rattle.fip_driver.proofs.Storing.{stored_kept, unstored}
use Rattle.fip_driver.proofs.Counted.{stored_counted, source_counted, fetch_counted}
use Rattle.fip_driver.proofs.commands.compile.Goals as goal

pub returns-in-Ok-compile-clause-outcome : goal.returns-in-Ok-compile-clause-outcome
returns-in-Ok-compile-clause-outcome g c = λ left. source_ends (W.Compile c.args.file.now c.args.out.now) Lawful c.args.file.now (g.F.Folder.files c.args.folder.now) left _ ⊥ _ _ c.in-Ok.bytes.items c.as_slice.result.now (end_of c.store.result) (λ r. r) (λ r. r) c.in-Ok.ensures.found refl refl c.as_slice.ensures.value (compile_ends c.args.file.now c.args.out.now c.as_slice.result.now c.in-Ok-compile.compiled.text.items left ⊥ _ _ _ c.store.result c.in-Ok.ensures.later c.in-Ok-compile.ensures.listed c.store.ensures.reported c.store.ensures.fails)

pub returns-in-Err-compile-clause-outcome : goal.returns-in-Err-compile-clause-outcome
returns-in-Err-compile-clause-outcome g c = λ left. source_ends (W.Compile c.args.file.now c.args.out.now) Lawful c.args.file.now (g.F.Folder.files c.args.folder.now) left ⊥ ⊥ _ _ c.in-Ok.bytes.items c.as_slice.result.now _ (λ r. absurd r) (λ r. r) c.in-Ok.ensures.found refl refl c.as_slice.ensures.value (compile_refused c.args.file.now c.args.out.now c.as_slice.result.now left ⊥ ⊥ c.in-Err-compile.failure c.in-Err-compile.ensures.kept)

pub returns-in-Err-clause-outcome : goal.returns-in-Err-clause-outcome
returns-in-Err-clause-outcome g c = λ left. fetch_ends (W.Compile c.args.file.now c.args.out.now) Lawful c.args.file.now (g.F.Folder.files c.args.folder.now) left _ _ _ c.in-Err.failure refl refl (λ r. r) c.in-Err.ensures.fails

pub returns-in-Ok-compile-clause-kept : goal.returns-in-Ok-compile-clause-kept
returns-in-Ok-compile-clause-kept g c = λ left. stored_kept (W.Compile c.args.file.now c.args.out.now) left c.args.out.now c.in-Ok-compile.compiled.file.items (g.F.Folder.files c.args.folder.now) _ _ _ _ _ c.store.result c.in-Ok.ensures.same c.in-Ok.ensures.later (c.in-Ok.bytes.items, c.in-Ok.ensures.found, source_file c.in-Ok.bytes.items c.in-Ok-compile.compiled.file.items (subst (λ xs. IsCompiledFile xs c.in-Ok-compile.compiled.file.items) c.as_slice.ensures.value c.in-Ok-compile.ensures.stored)) c.store.ensures.fails c.store.ensures.kept

pub returns-in-Ok-compile-clause-counted : goal.returns-in-Ok-compile-clause-counted
returns-in-Ok-compile-clause-counted g c = stored_counted (g.F.Folder.files c.args.folder.now) _ _ _ c.store.result c.in-Ok.ensures.later c.store.ensures.fails

pub returns-in-Err-compile-clause-kept : goal.returns-in-Err-compile-clause-kept
returns-in-Err-compile-clause-kept g c = λ left. unstored (W.Compile c.args.file.now c.args.out.now) left c.args.out.now _ (g.F.Folder.files c.args.folder.now) _ c.in-Err-compile.failure c.in-Ok.ensures.same

pub returns-in-Err-compile-clause-counted : goal.returns-in-Err-compile-clause-counted
returns-in-Err-compile-clause-counted g c = source_counted (g.F.Folder.files c.args.folder.now) _ c.in-Err-compile.failure c.in-Err-compile.ensures.stage

pub returns-in-Err-clause-kept : goal.returns-in-Err-clause-kept
returns-in-Err-clause-kept g c = λ left. unstored (W.Compile c.args.file.now c.args.out.now) left c.args.out.now _ (g.F.Folder.files c.args.folder.now) _ c.in-Err.failure c.in-Err.ensures.same

pub returns-in-Err-clause-counted : goal.returns-in-Err-clause-counted
returns-in-Err-clause-counted g c = fetch_counted (g.F.Folder.files c.args.folder.now) c.args.file.now _ _ c.in-Err.failure c.in-Err.ensures.fails

pub returns-in-Ok-compile-clause-made : goal.returns-in-Ok-compile-clause-made
returns-in-Ok-compile-clause-made g c = λ reported. compiled c.args.file.now c.args.out.now (g.F.Folder.files c.args.folder.now) _ _ reported c.in-Ok.bytes.items c.as_slice.result.now c.in-Ok.ensures.found c.as_slice.ensures.value c.in-Ok.ensures.same c.compile.new.made c.in-Ok-compile.compiled.file.items _ _ c.store.result c.in-Ok-compile.ensures.made c.in-Ok-compile.ensures.own c.store.ensures.fails c.store.ensures.kept

pub returns-in-Err-compile-clause-made : goal.returns-in-Err-compile-clause-made
returns-in-Err-compile-clause-made g c = λ reported. uncompiled c.args.file.now c.args.out.now (g.F.Folder.files c.args.folder.now) _ (g.F.Folder.files c.args.folder.now) reported c.in-Ok.bytes.items c.as_slice.result.now c.in-Ok.ensures.found c.as_slice.ensures.value c.in-Ok.ensures.same c.compile.new.made c.in-Err-compile.failure c.in-Err-compile.ensures.made c.in-Err-compile.ensures.unspelt

pub returns-in-Err-clause-made : goal.returns-in-Err-clause-made
returns-in-Err-clause-made g c = λ reported. unfetched (W.Compile c.args.file.now c.args.out.now) Lawful (λ s k. k) c.args.file.now (g.F.Folder.files c.args.folder.now) _ c.in-Err.ensures.same _ _ c.in-Err.failure c.in-Err.ensures.fails
