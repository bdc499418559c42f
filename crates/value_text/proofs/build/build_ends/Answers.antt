use Rattle.std.proofs.Common.{ap, arith}
use Rattle.std.specs.Prelude.{Ok, Err}
use Rattle.value_text.specs.Reading.{outline, whole}
use Rattle.value_text.proofs.Counted.{lines_go}
use Rattle.value_text.proofs.Advanced.{gone_on, goes_on, is_over}
use Rattle.value_text.proofs.build.build_ends.Goals as goal

pub ends-preserved : goal.ends-preserved
ends-preserved c =
    let tb = c.args.table.now in
    let bytes = c.args.bytes.now in
    let old = c.ends.cursor in
    let new = c.build_after.new.cursor in
    let ws = c.ends.words.items in
    let ws' = c.build_after.new.words.items in
    let l = c.ends.loader in
    let l' = c.build_after.new.loader in
    let place = c.in-Ok-true.ensures.place (ap Ok c.in-Ok-true.field-0-test) in
    record {
      from = (let a = c.ends.invariant.from in let b = place.0 in omega (arith, a, b));
      within = place.1;
      going = λ sound types first g.
          let here = c.ends.invariant.going sound types first g in
          goes_on tb (whole types) bytes first (outline new) new.at ws' l' c.in-Ok-true.field-0 c.in-Ok-true.field-0-test
          (gone_on tb bytes (outline old) old.at (outline new) new.at ws l ws' l' (whole types) first (Ok c.in-Ok-true.field-0) sound (λ s r. lines_go s r.following) (λ q. (c.in-Ok-true.ensures.place q).1) here (c.in-Ok-true.ensures.advances tb (here.reading).known));
    }

pub returns-in-Ok-false-clause-goes : goal.returns-in-Ok-false-clause-goes
returns-in-Ok-false-clause-goes c = λ sound types first g.
    let tb = c.args.table.now in
    let bytes = c.args.bytes.now in
    let old = c.ends.cursor in
    let new = c.build_after.new.cursor in
    let ws = c.ends.words.items in
    let ws' = c.build_after.new.words.items in
    let l = c.ends.loader in
    let l' = c.build_after.new.loader in
    let here = c.ends.invariant.going sound types first g in
    is_over tb (whole types) bytes first (outline new) new.at ws' l' c.in-Ok-false.field-0 c.in-Ok-false.field-0-test
    (gone_on tb bytes (outline old) old.at (outline new) new.at ws l ws' l' (whole types) first (Ok c.in-Ok-false.field-0) sound (λ s r. lines_go s r.following) (λ q. (c.in-Ok-false.ensures.place q).1) here (c.in-Ok-false.ensures.advances tb (here.reading).known))

pub returns-in-Err-clause-goes : goal.returns-in-Err-clause-goes
returns-in-Err-clause-goes c = λ sound types first g.
    let tb = c.args.table.now in
    let bytes = c.args.bytes.now in
    let old = c.ends.cursor in
    let new = c.build_after.new.cursor in
    let ws = c.ends.words.items in
    let ws' = c.build_after.new.words.items in
    let l = c.ends.loader in
    let l' = c.build_after.new.loader in
    let here = c.ends.invariant.going sound types first g in
    gone_on tb bytes (outline old) old.at (outline new) new.at ws l ws' l' (whole types) first (Err c.in-Err.e) sound (λ s r. lines_go s r.following) (λ q. cc) here (c.in-Err.ensures.advances tb (here.reading).known)
