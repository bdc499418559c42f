use Rattle.std.proofs.Common.{ap, subst, arith}
use Rattle.std.specs.Prelude.{Ok, Err}
use Rattle.value_text.specs.Reading.{outline, alone}
use Rattle.value_text.specs.Building.{Advanced}
use Rattle.value_text.proofs.Advanced.{gone_on, goes_on}
use Rattle.value_text.proofs.OneValue.{open_goes, not_whole, is_whole, never_last, built_whole, built_not, alone_going}
use Rattle.value_text.proofs.single.build_value.Goals as goal

pub loop-cursor-init : goal.loop-cursor-init
loop-cursor-init c =
    let a = c.begin_value-cursor.ensures.at in
    let m = c.min.ensures in
    record {
      within = omega (arith, a, m);
      going = λ given n.
          let within = given.within in
          alone_going c.args.table.now c.args.ty c.args.at n c.begin_value-cursor.result.at c.args.bytes.now c.args.loader.now (outline c.begin_value-cursor.result) c.new-words.result.items (omega (arith, a, m, within)) given.known within c.begin_value-cursor.ensures.starts c.new-words.ensures.items;
    }

pub loop-cursor-preserved : goal.loop-cursor-preserved
loop-cursor-preserved c =
    let tb = c.args.table.now in
    let bytes = c.args.bytes.now in
    let old = c.loop-cursor.cursor in
    let new = c.advance.new.cursor in
    let place = c.in-Ok-true.ensures.place (ap Ok c.in-Ok-true.field-0-test) in
    record {
      within = place.1;
      going = λ given n.
          let from = alone c.args.ty c.args.at n in
          let here = c.loop-cursor.invariant.going given n in
          goes_on tb from bytes c.args.loader.now (outline new) new.at c.advance.new.words.items c.advance.new.loader c.in-Ok-true.field-0 c.in-Ok-true.field-0-test
          (gone_on tb bytes (outline old) old.at (outline new) new.at c.loop-cursor.words.items c.loop-cursor.loader c.advance.new.words.items c.advance.new.loader from c.args.loader.now (Ok c.in-Ok-true.field-0) given.sound (λ s r. open_goes (outline old) s r.outline (not_whole c.is_whole.result c.is_whole.ensures c.loop-cursor-test.true)) (λ q. (c.in-Ok-true.ensures.place q).1) here (c.in-Ok-true.ensures.advances given.sound (here.reading).known));
    }

pub returns-in-Ok-false : goal.returns-in-Ok-false
returns-in-Ok-false c = λ given flags.
    let old = c.loop-cursor.cursor in
    let new = c.advance.new.cursor in
    let here = c.loop-cursor.invariant.going given 0 in
    let r = here.reading in
    let go = open_goes (outline old) here.spot r.outline (not_whole c.is_whole.result c.is_whole.ensures c.loop-cursor-test.true) in
    let a = subst (λ b. Advanced c.args.table.now c.args.bytes.now (outline old) old.at (outline new) new.at c.loop-cursor.words.items c.loop-cursor.loader c.advance.new.words.items c.advance.new.loader (Ok b)) c.in-Ok-false.field-0-test (c.in-Ok-false.ensures.advances given.sound r.known) in
    let m = a.0 here.spot go r.outline in
    absurd (never_last here.spot m.0 0 r.following m.1)

pub returns-in-Err : goal.returns-in-Err
returns-in-Err c = λ given flags.
    let old = c.loop-cursor.cursor in
    let new = c.advance.new.cursor in
    built_not c.args.table.now c.args.ty c.args.bytes.now c.args.at given c.args.loader.now c.advance.new.loader c.in-Err.e flags
    (λ n.
    let here = c.loop-cursor.invariant.going given n in
    gone_on c.args.table.now c.args.bytes.now (outline old) old.at (outline new) new.at c.loop-cursor.words.items c.loop-cursor.loader c.advance.new.words.items c.advance.new.loader (alone c.args.ty c.args.at n) c.args.loader.now (Err c.in-Err.e) given.sound (λ s r. open_goes (outline old) s r.outline (not_whole c.is_whole.result c.is_whole.ensures c.loop-cursor-test.true)) (λ q. cc) here (c.in-Err.ensures.advances given.sound (here.reading).known))

pub returns : goal.returns
returns c = λ given flags.
    let cursor = c.loop-cursor.cursor in
    let whole = is_whole c.is_whole.result c.is_whole.ensures c.loop-cursor-test.false in
    built_whole c.args.table.now c.args.ty c.args.bytes.now c.args.at given (outline cursor) cursor.at whole.0 whole.1 c.args.loader.now c.loop-cursor.loader c.loop-cursor.words flags (c.loop-cursor.invariant.going given)
