use Rattle.std.proofs.Common.{◌≡◌, ◌∙◌, refl, arith}
use Rattle.command_session.specs.command_run.fip_trees.TreeView as V
use Rattle.command_words.specs.View.{room_of}
use Rattle.command_session.specs.command_run.session_semantics.Lines.{lines_of}
use Rattle.command_tasks.proofs.Ending.{answered, kept, small}
use Rattle.command_tasks.proofs.Entering.{code_of, core, have_credits, readable, table_sound, tasks_of, twins_named}
use Rattle.command_tasks.proofs.Weighing.{list_weighs, words_of_calls}
use Rattle.command_tasks.proofs.command.tasks.Goals as goal

pub returns-in-Err-clause-means : goal.returns-in-Err-clause-means
returns-in-Err-clause-means c = λ source is short.
    let f = c.args.front.now in
    let p = V.program f.typed.program in
    let code = f.verified.code in
    let room = room_of c.args.room in
    kept source p f.groups code is.accepted is.found is.sound is.code room c.args.room refl refl c.args.room.few_frames c.args.input.now c.in-Err.failure (c.in-Err.ensures.bad (readable source p f.groups code is.accepted is.found is.sound is.code) (omega (arith, short)))

pub returns-then-needed-words-clause-means : goal.returns-then-needed-words-clause-means
returns-then-needed-words-clause-means c = λ source is short.
    let f = c.args.front.now in
    let p = V.program f.typed.program in
    let code = f.verified.code in
    let room = room_of c.args.room in
    let list = c.in-Ok.ensures.tasks (readable source p f.groups code is.accepted is.found is.sound is.code) (omega (arith, short)) in
    let weighs = list_weighs code c.args.input.now c.in-Ok.list list.0 (table_sound source p f.groups code is.accepted is.found is.sound is.code) (have_credits source p f.groups code is.accepted is.found is.sound is.code) short list.1 in
    let needed : c.words-needed.result ≡ words_of_calls list.0 = c.words-needed.ensures.exact (let w = weighs.words in let few = weighs.few in omega (arith, w, few)) ∙ weighs.words in
    small source p f.groups code is.accepted is.found is.sound is.code room c.args.room refl refl c.args.room.few_frames c.args.input.now list.0 c.words-needed.result c.args.room.words list.1.calls list.1.few needed refl c.if-needed-words.true

pub returns-in-Ok-run-clause-means : goal.returns-in-Ok-run-clause-means
returns-in-Ok-run-clause-means c = λ source is short.
    let f = c.args.front.now in
    let p = V.program f.typed.program in
    let code = f.verified.code in
    let room = room_of c.args.room in
    let reads = readable source p f.groups code is.accepted is.found is.sound is.code in
    let list = c.in-Ok.ensures.tasks reads (omega (arith, short)) in
    let weighs = list_weighs code c.args.input.now c.in-Ok.list list.0 (table_sound source p f.groups code is.accepted is.found is.sound is.code) (have_credits source p f.groups code is.accepted is.found is.sound is.code) short list.1 in
    let needed : c.words-needed.result ≡ words_of_calls list.0 = c.words-needed.ensures.exact (let w = weighs.words in let few = weighs.few in omega (arith, w, few)) ∙ weighs.words in
    let twins = tasks_of source p f.groups code is.accepted is.found is.sound is.code (lines_of c.args.input.now) list.0 list.1.calls in
    let reported = c.in-Ok-run.ensures.lines source (core source p f.groups code is.accepted is.found is.sound is.code) list.0 (code_of source p f.groups code is.accepted is.found is.sound is.code) reads (twins_named p code list.0 twins.0 twins.2) list.1.lines in
    answered source p f.groups code is.accepted is.found is.sound is.code room c.args.room refl refl c.args.room.few_frames c.args.input.now list.0 c.words-needed.result c.args.room.words c.in-Ok-run.text.items list.1.calls list.1.few needed refl c.if-needed-words.false reported
