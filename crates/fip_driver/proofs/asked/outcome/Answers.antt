use Rattle.std.proofs.Common.{◌≡◌, ◌⊎◌, None, inl, inr, ap, refl, subst, Err, map, string_bytes}
use Rattle.fip_outside.specs.Faults.{Rose}
use Rattle.command_words.specs.View.{command_of}
use Rattle.command_answers.specs.command_trace.TraceAnswer.{code_of}
use Rattle.fip_driver.specs.HandedOut.{HandsOut, bytes_in}
use Rattle.fip_driver.specs.Made.{MadeBy}
use Rattle.fip_driver.proofs.Making.{nothing_made}
use Rattle.fip_driver.proofs.Outcomes.{no_command_outcome, no_memory_outcome}
use Rattle.command_outcome.specs.declared.failure.Failure.TheVariants as F
use Rattle.command_answers.specs.Asks.{stored_name}
use Rattle.fip_driver.specs.Outcome.{AreKept, IsDone, IsRefused}
use Rattle.command_answers.proofs.OneCommand.{command_once}
use Rattle.fip_driver.proofs.Remains.{leaves_words}
use Rattle.fip_driver.proofs.Storing.{nothing_stored}
use Rattle.fip_driver.proofs.Unread.{input_turn, folder_turn, read_turn, on_ok}
use Rattle.fip_driver.proofs.asked.outcome.Goals as goal

pub returns-in-Ok-clause-read : goal.returns-in-Ok-clause-read
returns-in-Ok-clause-read g c = on_ok c.answer.result _ _ (read_turn (map string_bytes c.args.words.now) (command_of c.in-Ok.command) c.in-Ok.ensures.ok c.answer.result _) c.answer.ensures.read

pub returns-in-Ok-clause-unread : goal.returns-in-Ok-clause-unread
returns-in-Ok-clause-unread g c = input_turn (map string_bytes c.args.words.now) (command_of c.in-Ok.command) c.in-Ok.ensures.ok c.answer.result _ (g.F.Folder.files c.args.folder.now) c.answer.ensures.unread c.answer.ensures.before c.answer.ensures.waits

pub returns-in-Ok-clause-unfetched : goal.returns-in-Ok-clause-unfetched
returns-in-Ok-clause-unfetched g c = folder_turn (map string_bytes c.args.words.now) (command_of c.in-Ok.command) c.in-Ok.ensures.ok c.answer.result _ c.answer.ensures.uncalled c.answer.ensures.unfetched

pub returns-in-Ok-clause-files : goal.returns-in-Ok-clause-files
returns-in-Ok-clause-files g c = λ d asked. subst (λ x. AreKept x (g.S.Source.left c.args.input.now) (stored_name x) (Rose (g.F.Folder.faults c.args.folder.now) (g.F.Folder.faults c.answer.new.folder)) (g.F.Folder.files c.args.folder.now) (g.F.Folder.files c.answer.new.folder) c.answer.result) (command_once (map string_bytes c.args.words.now) (command_of c.in-Ok.command) d c.in-Ok.ensures.ok asked) c.answer.ensures.files

pub returns-in-Err-NotUnderstood-clause-outcome : goal.returns-in-Err-NotUnderstood-clause-outcome
returns-in-Err-NotUnderstood-clause-outcome g c = no_command_outcome (map string_bytes c.args.words.now) (g.F.Folder.files c.args.folder.now) (g.S.Source.left c.args.input.now) (Unit {0}) (Unit {0}) (c.in-Err-NotUnderstood.ensures.not_understood (ap Err c.in-Err-NotUnderstood.field-0-is))

pub returns-in-Err-NoMemory-clause-outcome : goal.returns-in-Err-NoMemory-clause-outcome
returns-in-Err-NoMemory-clause-outcome g c = no_memory_outcome (map string_bytes c.args.words.now) (g.F.Folder.files c.args.folder.now) (g.S.Source.left c.args.input.now) (Unit {0}) (Unit {0})

pub returns-in-Err-NotUnderstood-clause-files : goal.returns-in-Err-NotUnderstood-clause-files
returns-in-Err-NotUnderstood-clause-files g c = λ d asked. nothing_stored d (g.S.Source.left c.args.input.now) (stored_name d) _ (g.F.Folder.files c.args.folder.now) F.NotUnderstood

pub returns-in-Err-NoMemory-clause-files : goal.returns-in-Err-NoMemory-clause-files
returns-in-Err-NoMemory-clause-files g c = λ d asked. nothing_stored d (g.S.Source.left c.args.input.now) (stored_name d) _ (g.F.Folder.files c.args.folder.now) F.NoMemory

pub returns-in-Ok-clause-left : goal.returns-in-Ok-clause-left
returns-in-Ok-clause-left g c = leaves_words (map string_bytes c.args.words.now) (command_of c.in-Ok.command) (g.F.Folder.files c.args.folder.now) (g.S.Source.left c.args.input.now) _ c.answer.new.left c.in-Ok.ensures.ok (λ d asked. command_once (map string_bytes c.args.words.now) (command_of c.in-Ok.command) d c.in-Ok.ensures.ok asked) c.answer.ensures.left

pub returns-in-Err-NotUnderstood-clause-left : goal.returns-in-Err-NotUnderstood-clause-left
returns-in-Err-NotUnderstood-clause-left g c = λ d asked cells. refl

pub returns-in-Err-NoMemory-clause-left : goal.returns-in-Err-NoMemory-clause-left
returns-in-Err-NoMemory-clause-left g c = λ d asked cells. refl

pub returns-in-Ok-clause-made : goal.returns-in-Ok-clause-made
returns-in-Ok-clause-made g c = λ d asked. subst (λ x. MadeBy x (g.F.Folder.files c.args.folder.now) (g.F.Folder.files c.answer.new.folder) (g.S.Source.left c.args.input.now) (IsDone c.answer.result) (IsRefused c.answer.result) (bytes_in c.answer.new.fetched) (code_of c.answer.new.left c.answer.new.made)) (command_once (map string_bytes c.args.words.now) (command_of c.in-Ok.command) d c.in-Ok.ensures.ok asked) c.answer.ensures.made

pub returns-in-Err-NotUnderstood-clause-made : goal.returns-in-Err-NotUnderstood-clause-made
returns-in-Err-NotUnderstood-clause-made g c = λ d asked. nothing_made d (g.F.Folder.files c.args.folder.now) (g.S.Source.left c.args.input.now) F.NotUnderstood (λ r. r)

pub returns-in-Err-NoMemory-clause-made : goal.returns-in-Err-NoMemory-clause-made
returns-in-Err-NoMemory-clause-made g c = λ d asked. nothing_made d (g.F.Folder.files c.args.folder.now) (g.S.Source.left c.args.input.now) F.NoMemory (λ r. r)

pub returns-in-Ok-clause-only : goal.returns-in-Ok-clause-only
returns-in-Ok-clause-only g c = elim c.answer.ensures.only as (λ _. (c.answer.new.made ≡ None) ⊎ HandsOut (map string_bytes c.args.words.now) c.answer.new.left) [
  | inl none ↦ inl none
  | inr h ↦ inr (h.0, (command_of c.in-Ok.command, c.in-Ok.ensures.ok, h.1))
]
