use Rattle.std.proofs.Common.{refl, sym, subst}
use Rattle.std.specs.Prelude.{Result, Bool, Err}
use Rattle.value_text.specs.declared.build.Stopped.{Stopped}
use Rattle.value_text.specs.declared.read.Event.TheVariants as E
use Rattle.value_text.specs.Reading.{outline}
use Rattle.value_text.specs.Building.{Advanced}
use Rattle.value_text.proofs.Advanced.{put_advances, refused_advances, closed_event, comma_event}
use Rattle.value_text.proofs.build.build_field.Goals as goal

pub returns-in-Ok-Some-clause-advances : goal.returns-in-Ok-Some-clause-advances
returns-in-Ok-Some-clause-advances c = λ tb known.
    let bytes = c.args.bytes.now in
    let o = outline c.args.cursor.now in
    let o' = outline c.read_field.new.cursor in
    let at = c.args.cursor.now.at in
    let at' = c.read_field.new.cursor.at in
    let ws = c.args.words.now.items in
    let l = c.args.loader.now in
    let ws' = c.close.new.words.items in
    let l' = c.close.new.loader in
    let tag = c.in-Ok-Some.tag in
    let size = c.in-Ok-Some.size in
    subst (λ (r : Result Bool Stopped). Advanced tb bytes o at o' at' ws l ws' l' r) (sym c.goes_on.ensures)
    (put_advances tb bytes o at o' at' ws l ws' l' (E.Closed tag size) c.close.result
    (closed_event tb bytes o at o' at' tag size c.in-Ok-Some.field-0 c.in-Ok-Some.field-0-is (λ s g e. c.in-Ok-Some.ensures.reads tb known s e) (c.in-Ok-Some.ensures.known tb known) (c.in-Ok-Some.ensures.narrow tb known))
    c.close.ensures)

pub returns-in-Ok-None-clause-advances : goal.returns-in-Ok-None-clause-advances
returns-in-Ok-None-clause-advances c = λ tb known.
    let bytes = c.args.bytes.now in
    let o = outline c.args.cursor.now in
    let o' = outline c.read_field.new.cursor in
    let at = c.args.cursor.now.at in
    let at' = c.read_field.new.cursor.at in
    let ws = c.args.words.now.items in
    let l = c.args.loader.now in
    (E.Comma, comma_event tb bytes o at o' at' c.in-Ok-None.field-0 c.in-Ok-None.field-0-is (λ s g e. c.in-Ok-None.ensures.reads tb known s e) (c.in-Ok-None.ensures.known tb known), (refl, refl))

pub returns-in-Err-clause-advances : goal.returns-in-Err-clause-advances
returns-in-Err-clause-advances c = λ tb known.
    let bytes = c.args.bytes.now in
    let o = outline c.args.cursor.now in
    let o' = outline c.read_field.new.cursor in
    let at = c.args.cursor.now.at in
    let at' = c.read_field.new.cursor.at in
    let ws = c.args.words.now.items in
    let l = c.args.loader.now in
    subst (λ (e : Stopped). Advanced tb bytes o at o' at' ws l ws l (Err e)) (sym c.stop_of.ensures)
    (refused_advances tb bytes o at o' at' ws l ws l c.in-Err.e (λ s g e. c.in-Err.ensures.reads tb known s e))
