use Rattle.std.proofs.Common.{refl, sym, ap, subst, arith}
use Rattle.std.specs.Prelude.{Ok, Err}
use Rattle.value_text.specs.Reading.{outline, spot_of, whole, IsReading}
use Rattle.value_text.specs.Loaded.{types_of}
use Rattle.value_text.proofs.Built.{building_starts}
use Rattle.value_text.proofs.Counted.{reading_starts, lines_go}
use Rattle.value_text.proofs.Advanced.{gone_on, goes_on, is_over}
use Rattle.value_text.proofs.build.build.Goals as goal

pub values-init : goal.values-init
values-init c = record {
  within = (let a = c.begin-cursor.ensures.at in omega (arith, a));
  going = λ sound types. record {
    spot = spot_of (types_of c.args.params.now);
    reading = subst (λ at. IsReading c.args.table.now (whole (types_of c.args.params.now)) c.args.bytes.now (outline c.begin-cursor.result) at (spot_of (types_of c.args.params.now))) (sym c.begin-cursor.ensures.at) (reading_starts c.args.table.now (types_of c.args.params.now) c.args.bytes.now (outline c.begin-cursor.result) types c.begin-cursor.ensures.starts);
    building = λ want vs room. building_starts c.args.table.now (types_of c.args.params.now) c.args.bytes.now want c.args.loader.now c.args.loader.now (outline c.begin-cursor.result) c.begin-cursor.result.at c.new-words.result.items vs types c.begin-cursor.ensures.at c.begin-cursor.ensures.starts refl c.new-words.ensures.items room;
  };
}

pub returns-in-Ok-false : goal.returns-in-Ok-false
returns-in-Ok-false c = λ sound types.
    let tb = c.args.table.now in
    let types_in = types_of c.args.params.now in
    let bytes = c.args.bytes.now in
    let old = c.values.cursor in
    let new = c.advance.new.cursor in
    let ws = c.values.words.items in
    let ws' = c.advance.new.words.items in
    let l = c.values.loader in
    let l' = c.advance.new.loader in
    let first = c.args.loader.now in
    let here = c.values.invariant.going sound types in
    let gone = gone_on tb bytes (outline old) old.at (outline new) new.at ws l ws' l' (whole types_in) first (Ok c.in-Ok-false.field-0) sound (λ s r. lines_go s r.following) (λ q. (c.in-Ok-false.ensures.place q).1) here (c.in-Ok-false.ensures.advances sound (here.reading).known) in
    is_over tb (whole types_in) bytes first (outline new) new.at ws' l' c.in-Ok-false.field-0 c.in-Ok-false.field-0-test gone

pub returns-in-Err : goal.returns-in-Err
returns-in-Err c = λ sound types.
    let tb = c.args.table.now in
    let types_in = types_of c.args.params.now in
    let bytes = c.args.bytes.now in
    let old = c.values.cursor in
    let new = c.advance.new.cursor in
    let ws = c.values.words.items in
    let ws' = c.advance.new.words.items in
    let l = c.values.loader in
    let l' = c.advance.new.loader in
    let first = c.args.loader.now in
    let here = c.values.invariant.going sound types in
    let gone = gone_on tb bytes (outline old) old.at (outline new) new.at ws l ws' l' (whole types_in) first (Err c.in-Err.e) sound (λ s r. lines_go s r.following) (λ q. cc) here (c.in-Err.ensures.advances sound (here.reading).known) in
    gone

pub values-preserved : goal.values-preserved
values-preserved c =
    let place = c.in-Ok-true-build_ends.ensures.place (ap Ok c.in-Ok-true-build_ends.field-0-test) in
    record {
      within = place.1;
      going = λ sound types.
          let tb = c.args.table.now in
          let types_in = types_of c.args.params.now in
          let bytes = c.args.bytes.now in
          let old = c.values.cursor in
          let new = c.advance.new.cursor in
          let ws = c.values.words.items in
          let ws' = c.advance.new.words.items in
          let l = c.values.loader in
          let l' = c.advance.new.loader in
          let first = c.args.loader.now in
          let here = c.values.invariant.going sound types in
          let gone = gone_on tb bytes (outline old) old.at (outline new) new.at ws l ws' l' (whole types_in) first (Ok c.in-Ok-true.field-0) sound (λ s r. lines_go s r.following) (λ q. (c.in-Ok-true.ensures.place q).1) here (c.in-Ok-true.ensures.advances sound (here.reading).known) in
          let end = c.build_ends.new.cursor in
          let ws'' = c.build_ends.new.words.items in
          let l'' = c.build_ends.new.loader in
          let going = goes_on tb (whole types_in) bytes first (outline new) new.at ws' l' c.in-Ok-true.field-0 c.in-Ok-true.field-0-test gone in
          goes_on tb (whole types_in) bytes first (outline end) end.at ws'' l'' c.in-Ok-true-build_ends.field-0 c.in-Ok-true-build_ends.field-0-test (c.in-Ok-true-build_ends.ensures.goes sound types_in first going);
    }

pub returns-in-Ok-false-build_ends : goal.returns-in-Ok-false-build_ends
returns-in-Ok-false-build_ends c = λ sound types.
    let tb = c.args.table.now in
    let types_in = types_of c.args.params.now in
    let bytes = c.args.bytes.now in
    let old = c.values.cursor in
    let new = c.advance.new.cursor in
    let ws = c.values.words.items in
    let ws' = c.advance.new.words.items in
    let l = c.values.loader in
    let l' = c.advance.new.loader in
    let first = c.args.loader.now in
    let here = c.values.invariant.going sound types in
    let gone = gone_on tb bytes (outline old) old.at (outline new) new.at ws l ws' l' (whole types_in) first (Ok c.in-Ok-true.field-0) sound (λ s r. lines_go s r.following) (λ q. (c.in-Ok-true.ensures.place q).1) here (c.in-Ok-true.ensures.advances sound (here.reading).known) in
    let end = c.build_ends.new.cursor in
    let ws'' = c.build_ends.new.words.items in
    let l'' = c.build_ends.new.loader in
    let going = goes_on tb (whole types_in) bytes first (outline new) new.at ws' l' c.in-Ok-true.field-0 c.in-Ok-true.field-0-test gone in
    is_over tb (whole types_in) bytes first (outline end) end.at ws'' l'' c.in-Ok-false-build_ends.field-0 c.in-Ok-false-build_ends.field-0-test (c.in-Ok-false-build_ends.ensures.goes sound types_in first going)

pub returns-in-Err-build_ends : goal.returns-in-Err-build_ends
returns-in-Err-build_ends c = λ sound types.
    let tb = c.args.table.now in
    let types_in = types_of c.args.params.now in
    let bytes = c.args.bytes.now in
    let old = c.values.cursor in
    let new = c.advance.new.cursor in
    let ws = c.values.words.items in
    let ws' = c.advance.new.words.items in
    let l = c.values.loader in
    let l' = c.advance.new.loader in
    let first = c.args.loader.now in
    let here = c.values.invariant.going sound types in
    let gone = gone_on tb bytes (outline old) old.at (outline new) new.at ws l ws' l' (whole types_in) first (Ok c.in-Ok-true.field-0) sound (λ s r. lines_go s r.following) (λ q. (c.in-Ok-true.ensures.place q).1) here (c.in-Ok-true.ensures.advances sound (here.reading).known) in
    let end = c.build_ends.new.cursor in
    let ws'' = c.build_ends.new.words.items in
    let l'' = c.build_ends.new.loader in
    let going = goes_on tb (whole types_in) bytes first (outline new) new.at ws' l' c.in-Ok-true.field-0 c.in-Ok-true.field-0-test gone in
    c.in-Err-build_ends.ensures.goes sound types_in first going
