use Rattle.std.proofs.Common.{◌≡◌, ◌-◌, ◌∙◌, Some, ap, take, get_or, ◌+◌, ◌<◌, List, refl, sym, subst, arith, length}
use Rattle.std.proofs.lemmas.Option.{slice_get_within}
use Rattle.cell_code.specs.declared.code.Instr.{Instr}
use Rattle.cell_code.specs.Runnable.{Body, IsSafe}
use Rattle.cell_code.proofs.Following.{safe_here}
use Rattle.machine_step.proofs.Stacked.{waiting_keeps}
use Rattle.std.specs.Prelude.{slice_get}
use Rattle.cell_code.specs.Plain.{plain}
use Rattle.machine_frames.specs.machine_semantics.Codes.{instr_in}
use Rattle.machine_frames.specs.machine_semantics.Rows.{read_all}
use Rattle.machine_frames.specs.View.{registers_of, frame_at, waiting_in}
use Rattle.machine_frames.specs.Words.{words_from, put_words}
use Rattle.machine_frames.proofs.Laid.{words_long}
use Rattle.machine_frames.proofs.Viewed.{kept, frame_read, frame_write}
use Rattle.std.proofs.lemmas.Option.{same_Some}
use Rattle.machine_step.specs.declared.rows.Stepped.TheVariants as S
use Rattle.machine_step.specs.View.{words_of, state_of}
use Rattle.machine_frames.specs.machine_semantics.States.{Frame}
use Rattle.cell_code.specs.declared.code.Instr.TheVariants as I
use Rattle.machine_step.proofs.Calls.{plain_at, registers_is, gave_is, resumed_is, waiting_is, resumed_to, written_long}
use Rattle.machine_step.proofs.rows.give_back.Goals as goal

pub returns-clause-placed : goal.returns-clause-placed
returns-clause-placed c =
    let v = c.args.verified.now in
    let caller = c.caller_of-caller.result in
    let reported = c.caller_of-caller.ensures in
    let g = caller.body.now in
    let code = reported.runnable.functions caller.function g reported.is in
    let instrs = c.as_slice-cursor.ensures.value in
    let body : List Instr → Body = λ is. record { functions = v.code.functions.items; stacks = v.stacks; function = caller.function; registers = g.registers; instrs = is } in
    let next = safe_here (body g.instrs.items) (caller.at + 1) reported.next in
    record {
      is = (g, reported.is, refl, sym instrs);
      safe = subst (λ is. IsSafe (body is) (caller.at + 1)) (sym instrs) reported.next;
      within = subst (λ (is : List Instr). caller.at + 1 < length is) (sym instrs) (slice_get_within g.instrs.items (caller.at + 1) next.0 next.1);
      few = subst (λ (is : List Instr). length is < 4294967296) (sym instrs) code.few;
      small = code.small;
      largest = c.requires.most caller.function g reported.is;
      own = code.own;
      frames = (let f = c.requires.placed.frames in omega (arith, f));
      fits = reported.fits;
      room = (let b = reported.base in let r = c.requires.placed.room in omega (arith, b, r));
    }

pub returns-clause-waiting : goal.returns-clause-waiting
returns-clause-waiting c = waiting_keeps c.args.verified.now c.args.bounds c.args.words.now c.give.new.words _ c.caller_of-caller.result.base c.give.ensures.keeps c.caller_of-caller.ensures.waiting

pub returns-then-cursor-eq0-clause-next : goal.returns-then-cursor-eq0-clause-next
returns-then-cursor-eq0-clause-next c ks s lent =
    let v = c.args.verified.now in
    let b = c.args.bounds in
    let ws = c.args.words.now in
    let cursor = c.args.cursor.now in
    let old = state_of v b lent s ws cursor in
    gave_is (plain v.code) old old.waiting (read_all (words_of ws cursor) c.args.results.now) (words_from cursor.base ws c.args.results.now) S.Value old (take c.keep_results.new.beside.given c.keep_results.new.beside.results) (ap (λ k. waiting_in v.code.functions.items k (take cursor.base ws)) c.if-cursor-eq0.true) (frame_read cursor.base cursor.registers ws c.args.results.now c.requires.results c.requires.placed.room) refl refl c.keep_results.ensures.kept

pub returns-clause-next : goal.returns-clause-next
returns-clause-next c ks s lent =
    let v = c.args.verified.now in
    let b = c.args.bounds in
    let ws = c.args.words.now in
    let us = c.give.new.words in
    let cursor = c.args.cursor.now in
    let old = state_of v b lent s ws cursor in
    let fs = v.code.functions.items in
    let caller = c.caller_of-caller.result in
    let reported = c.caller_of-caller.ensures in
    let g = caller.body.now in
    let n = g.registers in
    let rs = c.args.results.now in
    let room = c.requires.placed.room in
    let past = c.if-cursor-eq0.false in
    let some : 0 < cursor.frames = omega (arith, past) in
    let start = reported.base in
    let own : registers_of fs (get_or ws (cursor.base - 2) 0) ≡ n = ap (registers_of fs) (sym reported.function) ∙ registers_is fs caller.function g reported.is in
    let wait = waiting_is v ws cursor caller.base n some start (omega (arith, room)) own in
    let vs = words_from cursor.base ws rs in
    let w : Frame = record { function = get_or ws (cursor.base - 2) 0; at = get_or ws (cursor.base - 1) 0; words = frame_at caller.base n ws } in
    let after = record cursor { instrs = c.as_slice-cursor.result; registers = n; function = caller.function; at = caller.at + 1; base = caller.base; frames = cursor.frames - 1 } in
    let long = c.give.auto.words in
    let below = kept caller.base ws us (omega (arith, room, start)) (omega (arith, room, start, long)) c.give.ensures.keeps in
    resumed_is (plain v.code) old old.waiting w (waiting_in fs (cursor.frames - 1) (take caller.base ws)) (read_all (words_of ws cursor) rs) vs S.Went (state_of v b lent s us after) (take c.args.beside.now.given c.args.beside.now.results) wait (frame_read cursor.base cursor.registers ws rs c.requires.results room) refl (λ f ss ds xs is wrote.
    let at : slice_get g.instrs.items caller.at ≡ Some (I.Call f ss ds) = (λ i. slice_get g.instrs.items (reported.at i)) ∙ sym (ap (λ o. instr_in o w.at) (plain_at fs w.function g ((λ i. slice_get fs (sym reported.function i)) ∙ reported.is))) ∙ is in
    let are = c.destinations_of.ensures.are f ss ds at in
    let size : length ds ≡ length vs = written_long w.words ds vs xs wrote in
    let number = words_long cursor.base ws rs in
    let put : us ≡ put_words caller.base ws ds vs = c.give.ensures.given (ap length are ∙ size ∙ number) ∙ ap (λ es. put_words caller.base ws es vs) are in
    let registers = reported.below f ss ds at in
    let words : words_of us after ≡ xs = ap (frame_at caller.base n) put ∙ same_Some (frame_at caller.base n (put_words caller.base ws ds vs)) xs (sym (frame_write caller.base n ws ds vs registers (omega (arith, room, start)) size) ∙ wrote) in
    resumed_to v b lent s ws us cursor after w.function w.at caller.base xs c.requires.placed.frames some below reported.function (ap (λ i. i + 1) reported.at) refl refl words)
