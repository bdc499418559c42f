use Rattle.std.proofs.Common.{◌≡◌, ◌++◌, [], ◌∷◌, refl, sym, ap, ◌∙◌, subst}
use Rattle.std.specs.Int.{w64}
use Rattle.std.proofs.lemmas.Int.{to_z-of_z}
use Rattle.fip_language.specs.Store.{int_word}
use Rattle.std.specs.Prelude.{Result, Bool, Err}
use Rattle.value_text.specs.declared.build.Stopped.{Stopped}
use Rattle.value_text.specs.declared.read.Event.TheVariants as E
use Rattle.value_text.specs.Reading.{outline}
use Rattle.value_text.specs.Building.{Advanced}
use Rattle.value_text.proofs.Advanced.{word_put, put_advances, refused_advances}
use Rattle.value_text.proofs.build.build_int.Goals as goal

pub returns-in-Ok-clause-advances : goal.returns-in-Ok-clause-advances
returns-in-Ok-clause-advances c = λ tb l known.
    let o = outline c.args.cursor.now in
    let o' = outline c.read_int.new.cursor in
    let at = c.args.cursor.now.at in
    let at' = c.read_int.new.cursor.at in
    let ws = c.args.words.now.items in
    let ws' = c.push_word.new.words.items in
    subst (λ (r : Result Bool Stopped). Advanced tb c.args.bytes.now o at o' at' ws l ws' l r) (sym c.goes_on.ensures)
    (put_advances tb c.args.bytes.now o at o' at' ws l ws' l (E.Number c.in-Ok.i) c.push_word.result
    (record { steps = λ s g e. c.in-Ok.ensures.reads tb s e; known = c.in-Ok.ensures.known tb known; narrow = tt })
    (word_put (E.Number c.in-Ok.i) ws ws' l c.int_bits.result c.push_word.result (λ w. (subst (λ b. ws' ≡ ws ++ b ∷ []) (c.int_bits.ensures ∙ ap int_word (to_z-of_z w64 c.in-Ok.i c.in-Ok.ensures.fits)) w, refl)) c.push_word.ensures.words c.push_word.ensures.memory))

pub returns-in-Err-clause-advances : goal.returns-in-Err-clause-advances
returns-in-Err-clause-advances c = λ tb l known.
    let o = outline c.args.cursor.now in
    let o' = outline c.read_int.new.cursor in
    let at = c.args.cursor.now.at in
    let at' = c.read_int.new.cursor.at in
    let ws = c.args.words.now.items in
    subst (λ (e : Stopped). Advanced tb c.args.bytes.now o at o' at' ws l ws l (Err e)) (sym c.stop_of.ensures)
    (refused_advances tb c.args.bytes.now o at o' at' ws l ws l c.in-Err.e (λ s g e. c.in-Err.ensures.reads tb s e))
