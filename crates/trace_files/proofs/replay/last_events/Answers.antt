use Rattle.std.proofs.Common.{◌∙◌, None, Some, slice_get, map, ap, sym}
use Rattle.std.proofs.lemmas.Option.{slice_get-get_or}
use Rattle.trace_files.specs.Lines.{latest}
use Rattle.trace_files.specs.Plain.{plain_event}
use Rattle.trace_files.proofs.Live.{to_map}
use Rattle.trace_files.proofs.Reported.{last_more, take_map}
use Rattle.trace_files.proofs.replay.last_events.Goals as goal

pub loop-number-preserved : goal.loop-number-preserved
loop-number-preserved c =
    let events = c.args.events.now in
    let n = c.loop-number.number in
    let x = c.index-events-number.result in
    let there = to_map plain_event events n x (slice_get-get_or events n x c.loop-number-test.true ∙ ap Some (sym c.index-events-number.is)) in record {
      all = c.mark.ensures.all;
      reported = λ rising k d o h s. last_more (map plain_event events) n c.args.step d.place (plain_event x) (slice_get c.loop-number.last.items k) o there (λ b e. c.loop-number.invariant.reported rising k d b h e) (c.mark.ensures.reported rising k d o h s);
    }

pub returns-clause-last : goal.returns-clause-last
returns-clause-last c = λ rising k d o h s. c.loop-number.invariant.reported rising k d o h s ∙ ap (λ xs. latest d.place c.args.step xs None) (take_map plain_event c.args.events.now c.loop-number.number c.loop-number-test.false)
