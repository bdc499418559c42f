use Rattle.std.proofs.Common.{◌*◌, refl, sym, subst}
use Rattle.std.specs.Prelude.{Result, Bool, Err}
use Rattle.value_text.specs.declared.build.Stopped.{Stopped}
use Rattle.value_text.specs.declared.read.Event.TheVariants as E
use Rattle.value_text.specs.Reading.{outline}
use Rattle.value_text.specs.Building.{Advanced}
use Rattle.value_text.proofs.Advanced.{word_put, put_advances, refused_advances, bare_event, opened_event}
use Rattle.value_text.proofs.build.build_node.Goals as goal

pub returns-in-Ok-Some-clause-advances : goal.returns-in-Ok-Some-clause-advances
returns-in-Ok-Some-clause-advances c = λ sound l known.
    let tb = c.args.table.now in
    let o = outline c.args.cursor.now in
    let o' = outline c.read_node.new.cursor in
    let at = c.args.cursor.now.at in
    let at' = c.read_node.new.cursor.at in
    let ws = c.args.words.now.items in
    let ws' = c.push_word.new.words.items in
    let c' = c.in-Ok-Some.tag in
    subst (λ (r : Result Bool Stopped). Advanced tb c.args.bytes.now o at o' at' ws l ws' l r) (sym c.goes_on.ensures)
    (put_advances tb c.args.bytes.now o at o' at' ws l ws' l (E.Bare c') c.push_word.result
    (bare_event tb c.args.bytes.now o at o' at' c' c.in-Ok-Some.field-0 c.in-Ok-Some.field-0-is (λ s g e. c.in-Ok-Some.ensures.reads sound s e) (c.in-Ok-Some.ensures.known sound known))
    (word_put (E.Bare c') ws ws' l (2 * c') c.push_word.result (λ w. (w, refl)) c.push_word.ensures.words c.push_word.ensures.memory))

pub returns-in-Ok-None-clause-advances : goal.returns-in-Ok-None-clause-advances
returns-in-Ok-None-clause-advances c = λ sound l known.
    let tb = c.args.table.now in
    let o = outline c.args.cursor.now in
    let o' = outline c.read_node.new.cursor in
    let at = c.args.cursor.now.at in
    let at' = c.read_node.new.cursor.at in
    let ws = c.args.words.now.items in
    (E.Opened, opened_event tb c.args.bytes.now o at o' at' c.in-Ok-None.field-0 c.in-Ok-None.field-0-is (λ s g e. c.in-Ok-None.ensures.reads sound s e) (c.in-Ok-None.ensures.known sound known), (refl, refl))

pub returns-in-Err-clause-advances : goal.returns-in-Err-clause-advances
returns-in-Err-clause-advances c = λ sound l known.
    let tb = c.args.table.now in
    let o = outline c.args.cursor.now in
    let o' = outline c.read_node.new.cursor in
    let at = c.args.cursor.now.at in
    let at' = c.read_node.new.cursor.at in
    let ws = c.args.words.now.items in
    subst (λ (e : Stopped). Advanced tb c.args.bytes.now o at o' at' ws l ws l (Err e)) (sym c.stop_of.ensures)
    (refused_advances tb c.args.bytes.now o at o' at' ws l ws l c.in-Err.e (λ s g e. c.in-Err.ensures.reads sound s e))
