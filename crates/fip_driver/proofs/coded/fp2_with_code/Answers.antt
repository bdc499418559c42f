use Rattle.std.proofs.Common.{◌≡◌, ap, sym, subst, map, string_bytes}
use Rattle.std.specs.Prelude.{◌⊎◌, Some}
use Rattle.fip_outside.specs.Faults.{Rose}
use Rattle.command_words.specs.Words.{Command, IsCommand}
use Rattle.command_answers.specs.Asks.{stored_name}
use Rattle.fip_driver.specs.Delivered.{seen}
use Rattle.fip_driver.specs.Turns.{WordsOutcome}
use Rattle.fip_driver.specs.Outcome.{AreKept, HadFolder}
use Rattle.fip_driver.proofs.Outcomes.{kept_or_had, whole_outcome}
use Rattle.fip_driver.specs.HandedOut.{bytes_in}
use Rattle.fip_driver.specs.Made.{MadeBy}
use Rattle.fip_driver.proofs.Making.{made_status, handed_only}
use Rattle.fip_driver.proofs.Remains.{handed_out}
use Rattle.fip_driver.proofs.Unread.{input_read, folder_called, files_after, last_status}
use Rattle.fip_driver.proofs.coded.fp2_with_code.Goals as goal

pub returns-clause-answer : goal.returns-clause-answer
returns-clause-answer g c = (c.outcome-outcome.result, c.outcome-outcome.ensures.unread, c.outcome-outcome.ensures.outcome, c.outcome-outcome.ensures.counted, c.deliver-status.ensures.delivered)

pub returns-clause-files : goal.returns-clause-files
returns-clause-files g c = λ d asked. files_after (seen (g.O.Sink.written c.args.out.now) (g.O.Sink.faults c.args.out.now)) (seen (g.O.Sink.written c.deliver-status.new.out) (g.O.Sink.faults c.deliver-status.new.out)) (seen (g.E.Sink.written c.args.err.now) (g.E.Sink.faults c.args.err.now)) (seen (g.E.Sink.written c.deliver-status.new.err) (g.E.Sink.faults c.deliver-status.new.err)) d (g.S.Source.left c.args.input.now) (stored_name d) _ _ _ c.outcome-outcome.result c.deliver-status.result.0 c.deliver-status.ensures.delivered (c.outcome-outcome.ensures.files d asked)

pub returns-clause-whole : goal.returns-clause-whole
returns-clause-whole g c files bytes reported_files reported_input no_folder no_input no_out no_err =
    let words = map string_bytes c.args.words.now in
    let old = g.F.Folder.files c.args.folder.now in
    let now = g.F.Folder.files c.outcome-outcome.new.folder in
    let folder_rose = Rose (g.F.Folder.faults c.args.folder.now) (g.F.Folder.faults c.outcome-outcome.new.folder) in
    let input_rose = Rose (g.S.Source.faults c.args.input.now) (g.S.Source.faults c.outcome-outcome.new.input) in
    let kept : (d : Command) → IsCommand words d → AreKept d (Some bytes) (stored_name d) folder_rose (Some files) now c.outcome-outcome.result = λ d asked. subst (λ o. AreKept d o (stored_name d) folder_rose (Some files) now c.outcome-outcome.result) reported_input
    (subst (λ o. AreKept d (g.S.Source.left c.args.input.now) (stored_name d) folder_rose o now c.outcome-outcome.result) reported_files (c.outcome-outcome.ensures.files d asked)) in
    let had : (now ≡ Some files) ⊎ HadFolder words c.outcome-outcome.result = subst (λ o. (now ≡ o) ⊎ HadFolder words c.outcome-outcome.result) reported_files (kept_or_had words old now c.outcome-outcome.result _ (ap g.F.Folder.files) c.outcome-outcome.ensures.unfetched) in
    let outcome : WordsOutcome words (Some files) (Some bytes) folder_rose input_rose c.outcome-outcome.result = subst (λ o. WordsOutcome words (Some files) o folder_rose input_rose c.outcome-outcome.result) reported_input
    (subst (λ o. WordsOutcome words o (g.S.Source.left c.args.input.now) folder_rose input_rose c.outcome-outcome.result) reported_files c.outcome-outcome.ensures.outcome) in
    whole_outcome words files bytes _ _ _ _ now folder_rose input_rose no_folder no_input no_out no_err c.outcome-outcome.result c.deliver-status.result.0 had kept c.deliver-status.ensures.delivered outcome

pub returns-clause-unread : goal.returns-clause-unread
returns-clause-unread g c = input_read (map string_bytes c.args.words.now) (seen (g.O.Sink.written c.args.out.now) (g.O.Sink.faults c.args.out.now)) (seen (g.O.Sink.written c.deliver-status.new.out) (g.O.Sink.faults c.deliver-status.new.out)) (seen (g.E.Sink.written c.args.err.now) (g.E.Sink.faults c.args.err.now)) (seen (g.E.Sink.written c.deliver-status.new.err) (g.E.Sink.faults c.deliver-status.new.err)) c.outcome-outcome.result c.deliver-status.result.0 c.deliver-status.ensures.delivered _ (g.F.Folder.files c.args.folder.now) c.outcome-outcome.ensures.unread

pub returns-clause-unfetched : goal.returns-clause-unfetched
returns-clause-unfetched g c = folder_called (map string_bytes c.args.words.now) (seen (g.O.Sink.written c.args.out.now) (g.O.Sink.faults c.args.out.now)) (seen (g.O.Sink.written c.deliver-status.new.out) (g.O.Sink.faults c.deliver-status.new.out)) (seen (g.E.Sink.written c.args.err.now) (g.E.Sink.faults c.args.err.now)) (seen (g.E.Sink.written c.deliver-status.new.err) (g.E.Sink.faults c.deliver-status.new.err)) c.outcome-outcome.result c.deliver-status.result.0 c.deliver-status.ensures.delivered _ c.outcome-outcome.ensures.unfetched

pub returns-clause-read : goal.returns-clause-read
returns-clause-read g c = last_status (seen (g.O.Sink.written c.args.out.now) (g.O.Sink.faults c.args.out.now)) (seen (g.O.Sink.written c.deliver-status.new.out) (g.O.Sink.faults c.deliver-status.new.out)) (seen (g.E.Sink.written c.args.err.now) (g.E.Sink.faults c.args.err.now)) (seen (g.E.Sink.written c.deliver-status.new.err) (g.E.Sink.faults c.deliver-status.new.err)) c.outcome-outcome.result c.deliver-status.result.0 _ c.deliver-status.ensures.delivered c.outcome-outcome.ensures.read

pub returns-clause-left : goal.returns-clause-left
returns-clause-left g c = handed_out (map string_bytes c.args.words.now) (g.F.Folder.files c.args.folder.now) (g.S.Source.left c.args.input.now) (seen (g.O.Sink.written c.args.out.now) (g.O.Sink.faults c.args.out.now)) (seen (g.O.Sink.written c.deliver-status.new.out) (g.O.Sink.faults c.deliver-status.new.out)) (seen (g.E.Sink.written c.args.err.now) (g.E.Sink.faults c.args.err.now)) (seen (g.E.Sink.written c.deliver-status.new.err) (g.E.Sink.faults c.deliver-status.new.err)) c.outcome-outcome.result c.deliver-status.result.0 _ _ c.deliver-status.ensures.delivered c.outcome-outcome.ensures.left c.hand_out.ensures.ended c.hand_out.ensures.none

pub returns-clause-made : goal.returns-clause-made
returns-clause-made g c = λ d asked.
    subst (λ m. MadeBy d (g.F.Folder.files c.args.folder.now) (g.F.Folder.files c.outcome-outcome.new.folder) (g.S.Source.left c.args.input.now) (c.deliver-status.result.0 ≡ 0) (c.deliver-status.result.0 ≡ 1) (bytes_in c.outcome-outcome.new.fetched) m) (sym c.hand_out.ensures.code)
    (made_status d (g.F.Folder.files c.args.folder.now) _ (g.S.Source.left c.args.input.now) (bytes_in c.outcome-outcome.new.fetched) _ (seen (g.O.Sink.written c.args.out.now) (g.O.Sink.faults c.args.out.now)) (seen (g.O.Sink.written c.deliver-status.new.out) (g.O.Sink.faults c.deliver-status.new.out)) (seen (g.E.Sink.written c.args.err.now) (g.E.Sink.faults c.args.err.now)) (seen (g.E.Sink.written c.deliver-status.new.err) (g.E.Sink.faults c.deliver-status.new.err)) c.outcome-outcome.result c.deliver-status.result.0 c.deliver-status.ensures.delivered (c.outcome-outcome.ensures.made d asked))

pub returns-clause-only : goal.returns-clause-only
returns-clause-only g c = handed_only (map string_bytes c.args.words.now) (g.F.Folder.files c.args.folder.now) (g.S.Source.left c.args.input.now) _ c.outcome-outcome.new.left _ c.outcome-outcome.new.made _ c.deliver-status.result.0 c.outcome-outcome.ensures.left c.outcome-outcome.ensures.only c.hand_out.ensures.ended c.hand_out.ensures.none c.hand_out.ensures.code c.hand_out.ensures.kept
