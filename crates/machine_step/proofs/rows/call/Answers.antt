use Rattle.std.proofs.Common.{◌≡◌, ◌+◌, ◌-◌, ◌≤◌, ◌∙◌, suc, refl, sym, ap, subst, arith, length, get_or}
use Rattle.std.specs.Prelude.{slice_set}
use Rattle.std.proofs.lemmas.List.{get_or-set_same, get_or-set_other, length-set}
use Rattle.machine_frames.specs.Keeping.{Keeps}
use Rattle.machine_step.specs.Placed.{Waiting}
use Rattle.machine_step.proofs.Fitting.{two_more}
use Rattle.machine_step.proofs.Stacked.{keeps_both, keeps_less, waiting_call}
use Rattle.cell_code.specs.Plain.{plain_function, plain, function_at}
use Rattle.machine_frames.specs.machine_semantics.Rows.{read_all}
use Rattle.machine_frames.specs.machine_semantics.Steps.{first_words}
use Rattle.std.specs.Prelude.{slice_get}
use Rattle.std.proofs.lemmas.Option.{same_Some}
use Rattle.cell_code.specs.declared.code.Function.{Function}
use Rattle.machine_frames.specs.View.{registers_of, frame_at}
use Rattle.machine_frames.specs.Words.{words_from}
use Rattle.machine_frames.proofs.Viewed.{kept, frame_kept, frame_read}
use Rattle.machine_step.specs.declared.rows.Stepped.TheVariants as S
use Rattle.machine_step.specs.View.{words_of, state_of}
use Rattle.machine_step.proofs.Calls.{plain_at, registers_is, called_is, too_deep, above_is}
use Rattle.machine_step.proofs.Helps.{words_kept, first_frame_of}
use Rattle.machine_step.proofs.rows.call.Goals as goal

pub returns-clause-waiting : goal.returns-clause-waiting
returns-clause-waiting c =
    let v = c.args.verified.now in
    let b = c.args.bounds in
    let cursor = c.args.cursor.now in
    let ws = c.args.words.now in
    let end = cursor.base + cursor.registers in
    let above = end + 2 in
    let one = slice_set ws end cursor.function in
    let two = slice_set one (end + 1) cursor.at in
    let keeps = keeps_both above two c.pass.new.words c.clear_rest.new.words c.pass.ensures.keeps (keeps_less (above + length c.args.arguments.now) above c.pass.new.words c.clear_rest.new.words (omega arith) c.clear_rest.ensures.keeps) in
    let room = two_more v b (length ws) cursor c.requires.placed c.requires.roomy in
    let long = length-set ws end cursor.function in
    let first : get_or c.clear_rest.new.words end 0 ≡ cursor.function = keeps end (omega arith) ∙ get_or-set_other one (end + 1) end cursor.at 0 (λ e. omega (arith, e)) ∙ get_or-set_same ws end cursor.function 0 (omega (arith, room)) in
    let second : get_or c.clear_rest.new.words (end + 1) 0 ≡ cursor.at = keeps (end + 1) (omega arith) ∙ get_or-set_same one (end + 1) cursor.at 0 (omega (arith, room, long)) in
    let below : Keeps cursor.base ws c.clear_rest.new.words = λ i l. keeps i (omega (arith, l)) ∙ get_or-set_other one (end + 1) i cursor.at 0 (λ e. omega (arith, e, l)) ∙ get_or-set_other ws end i cursor.function 0 (λ e. omega (arith, e, l)) in
    subst (Waiting v b c.clear_rest.new.words c.enter.new.cursor.frames) (sym c.enter.ensures.base) (subst (λ n. Waiting v b c.clear_rest.new.words n above) (let e : suc cursor.frames ≡ c.enter.new.cursor.frames = let f = c.enter.ensures.frames in omega (arith, f) in e) (waiting_call v b (length ws) cursor ws c.clear_rest.new.words c.requires.placed c.requires.next c.requires.waiting below first second))

pub returns-then-cursor-bounds-clause-next : goal.returns-then-cursor-bounds-clause-next
returns-then-cursor-bounds-clause-next c ks s given ds lent =
    let v = c.args.verified.now in
    let b = c.args.bounds in
    let ws = c.args.words.now in
    let cursor = c.args.cursor.now in
    let old = state_of v b lent s ws cursor in
    let can = c.requires.callee in
    let past = c.if-cursor-bounds.true in
    let none : b.frames - cursor.frames ≡ 0 = omega (arith, past) in
    too_deep old c.args.function (plain_function can.0) (function_at (plain v.code) c.args.function) (read_all (words_of ws cursor) c.args.arguments.now) (words_from cursor.base ws c.args.arguments.now) S.Deep old given (plain_at v.code.functions.items c.args.function can.0 can.1) (frame_read cursor.base cursor.registers ws c.args.arguments.now c.requires.arguments c.requires.placed.room) none refl refl

pub returns-clause-next : goal.returns-clause-next
returns-clause-next c ks s given ds lent =
    let v = c.args.verified.now in
    let b = c.args.bounds in
    let ws = c.args.words.now in
    let us = c.clear_rest.new.words in
    let cursor = c.args.cursor.now in
    let after = c.enter.new.cursor in
    let old = state_of v b lent s ws cursor in
    let base = cursor.base in
    let end = cursor.base + cursor.registers in
    let above = end + 2 in
    let ss = c.args.arguments.now in
    let one = slice_set ws end cursor.function in
    let two = slice_set one (end + 1) cursor.at in
    let room = two_more v b (length ws) cursor c.requires.placed c.requires.roomy in
    let long = length-set ws end cursor.function in
    let long_two = length-set one (end + 1) cursor.at in
    let total = c.clear_rest.auto.words ∙ c.pass.auto.words in
    let keeps = keeps_both above two c.pass.new.words us c.pass.ensures.keeps (keeps_less (above + length ss) above c.pass.new.words us (omega arith) c.clear_rest.ensures.keeps) in
    let first : get_or us end 0 ≡ cursor.function = keeps end (omega arith) ∙ get_or-set_other one (end + 1) end cursor.at 0 (λ e. omega (arith, e)) ∙ get_or-set_same ws end cursor.function 0 (omega (arith, room)) in
    let second : get_or us (end + 1) 0 ≡ cursor.at = keeps (end + 1) (omega arith) ∙ get_or-set_same one (end + 1) cursor.at 0 (omega (arith, room, long)) in
    let own : Keeps end ws two = λ i l. get_or-set_other one (end + 1) i cursor.at 0 (λ e. omega (arith, e, l)) ∙ get_or-set_other ws end i cursor.function 0 (λ e. omega (arith, e, l)) in
    let all : Keeps end ws us = λ i l. keeps i (omega (arith, l)) ∙ own i l in
    let reach : above ≤ length us = omega (arith, room, long, long_two, total) in
    let below = kept base ws us (omega (arith, room)) (omega (arith, reach)) (keeps_less end base ws us (omega arith) all) in
    let running = frame_kept base cursor.registers ws us (omega (arith, room)) (omega (arith, reach)) all in
    let g = c.function_at.result.now in
    let vs = words_from base ws ss in
    let read : words_from base two ss ≡ vs = words_kept base cursor.registers ws two ss c.requires.arguments own in
    let placed = c.enter.ensures.placed in
    let same : placed.is.0 ≡ g = same_Some placed.is.0 g (sym placed.is.1 ∙ ap (slice_get v.code.functions.items) c.enter.ensures.function ∙ c.function_at.ensures.is) in
    let registers : after.registers ≡ g.registers = sym placed.is.2 ∙ ap (λ (g : Function). g.registers) same in
    let can = c.requires.callee in
    let few : length ss ≤ g.registers = subst (λ (h : Function). length ss ≤ h.registers) (same_Some can.0 g (sym can.1 ∙ c.function_at.ensures.is)) can.2 in
    let free = placed.room in
    let start = c.enter.ensures.base in
    let frame = first_frame_of base above g.registers two c.pass.new.words us ss c.pass.ensures.given c.clear_rest.ensures few (omega (arith, free, start, registers, total)) in
    let words : words_of us after ≡ first_words g.registers vs = (λ i. frame_at (start i) (registers i) us) ∙ frame ∙ ap (first_words g.registers) read in
    let left = c.if-cursor-bounds.false in
    let some : b.frames - cursor.frames ≡ suc (b.frames - cursor.frames - 1) = omega (arith, left) in
    let here : registers_of v.code.functions.items cursor.function ≡ cursor.registers = registers_is v.code.functions.items cursor.function c.requires.placed.is.0 c.requires.placed.is.1 ∙ c.requires.placed.is.2 in
    called_is old c.args.function (plain_function g) (function_at (plain v.code) c.args.function) (read_all (words_of ws cursor) ss) vs (b.frames - cursor.frames - 1) S.Entered (state_of v b lent s us after) given (plain_at v.code.functions.items c.args.function g c.function_at.ensures.is) (frame_read base cursor.registers ws ss c.requires.arguments (omega (arith, room))) some refl (above_is v b lent s ws us cursor after c.args.function (b.frames - cursor.frames - 1) (plain_function g) vs here some reach first second below running c.enter.ensures.function c.enter.ensures.at start c.enter.ensures.frames words)

-- a function has a register for each argument
pub clear_rest-requires-clause-given : goal.clear_rest-requires-clause-given
clear_rest-requires-clause-given c =
    let can = c.requires.callee in
    let g = c.function_at.result.now in
    subst (λ (h : Function). length c.args.arguments.now ≤ h.registers) (same_Some can.0 g (sym can.1 ∙ c.function_at.ensures.is)) can.2
