use Rattle.std.proofs.Common.{◌+◌, ◌<◌, ◌≤◌, ◌∙◌, List, refl, sym, subst, arith, length}
use Rattle.std.proofs.lemmas.Option.{same_Some, slice_get_within}
use Rattle.cell_code.specs.declared.code.Function.{Function}
use Rattle.cell_code.specs.declared.code.Instr.{Instr}
use Rattle.cell_code.specs.Runnable.{Body, IsSafe}
use Rattle.cell_code.proofs.Following.{safe_here}
use Rattle.cell_code.specs.Plain.{plain_function, plain, function_at}
use Rattle.machine_frames.specs.machine_semantics.Rows.{read_all}
use Rattle.machine_frames.specs.Words.{words_from}
use Rattle.machine_frames.proofs.Viewed.{kept, frame_read}
use Rattle.machine_step.specs.declared.cursor.Cursor.{Cursor}
use Rattle.machine_step.specs.declared.rows.Stepped.TheVariants as S
use Rattle.machine_step.specs.View.{words_of, state_of}
use Rattle.machine_step.proofs.Calls.{plain_at, replaced_is, instead_is}
use Rattle.machine_step.proofs.Fitting.{fits_tail, room_tail}
use Rattle.machine_step.proofs.Helps.{first_frame_of}
use Rattle.machine_step.proofs.Stacked.{keeps_both, keeps_less, waiting_keeps}
use Rattle.machine_step.proofs.rows.enter_instead.Goals as goal

pub returns-clause-placed : goal.returns-clause-placed
returns-clause-placed c =
    let v = c.args.verified.now in
    let b = c.args.bounds in
    let cursor = c.args.cursor.now in
    let g = c.function_at-callee.result.now in
    let is = c.function_at-callee.ensures.is in
    let code = c.function_at-callee.ensures.runnable.functions c.args.function g is in
    let instrs = c.as_slice-cursor.ensures.value in
    let body : List Instr → Body = λ is. record { functions = v.code.functions.items; stacks = v.stacks; function = c.args.function; registers = g.registers; instrs = is } in
    let first = safe_here (body g.instrs.items) 0 code.start in
    let fits = fits_tail v b cursor.function c.args.function cursor.frames cursor.base c.requires.placed.fits c.requires.covers in
    let largest = c.requires.most c.args.function g is in
    let long = c.clear_rest.auto.words ∙ c.replace.auto.words in
    record {
      is = (g, is, refl, sym instrs);
      safe = subst (λ is. IsSafe (body is) 0) (sym instrs) code.start;
      within = subst (λ (is : List Instr). 0 < length is) (sym instrs) (slice_get_within g.instrs.items 0 first.0 first.1);
      few = subst (λ (is : List Instr). length is < 4294967296) (sym instrs) code.few;
      small = code.small;
      largest = largest;
      own = code.own;
      frames = c.requires.placed.frames;
      fits = fits;
      room = subst (λ n. cursor.base + g.registers ≤ n) (sym long) (room_tail v b (length c.args.words.now) cursor c.args.function g.registers c.requires.placed.frames c.requires.roomy fits code.own largest);
    }

pub returns-clause-waiting : goal.returns-clause-waiting
returns-clause-waiting c =
    let base = c.args.cursor.now.base in
    let keeps = keeps_both base c.args.words.now c.replace.new.words c.clear_rest.new.words c.replace.ensures.keeps (keeps_less (base + length c.args.arguments.now) base c.replace.new.words c.clear_rest.new.words (omega arith) c.clear_rest.ensures.keeps) in
    waiting_keeps c.args.verified.now c.args.bounds c.args.words.now c.clear_rest.new.words c.args.cursor.now.frames base keeps c.requires.waiting

pub returns-clause-next : goal.returns-clause-next
returns-clause-next c ks s given lent =
    let v = c.args.verified.now in
    let b = c.args.bounds in
    let ws = c.args.words.now in
    let us = c.clear_rest.new.words in
    let cursor = c.args.cursor.now in
    let room = c.requires.placed.room in
    let base = cursor.base in
    let ss = c.args.arguments.now in
    let g = c.function_at-callee.result.now in
    let is = c.function_at-callee.ensures.is in
    let vs = words_from base ws ss in
    let long = c.clear_rest.auto.words ∙ c.replace.auto.words in
    let keeps = keeps_both base ws c.replace.new.words us c.replace.ensures.keeps (keeps_less (base + length ss) base c.replace.new.words us (omega arith) c.clear_rest.ensures.keeps) in
    let below = kept base ws us (omega (arith, room)) (omega (arith, room, long)) keeps in
    let can = c.requires.callee in
    let few : length ss ≤ g.registers = subst (λ (h : Function). length ss ≤ h.registers) (same_Some can.0 g (sym can.1 ∙ is)) can.2 in
    let code = c.function_at-callee.ensures.runnable.functions c.args.function g is in
    let fits = fits_tail v b cursor.function c.args.function cursor.frames base c.requires.placed.fits c.requires.covers in
    let free = room_tail v b (length ws) cursor c.args.function g.registers c.requires.placed.frames c.requires.roomy fits code.own (c.requires.most c.args.function g is) in
    let frame = first_frame_of base base g.registers ws c.replace.new.words us ss c.replace.ensures.given c.clear_rest.ensures few free in
    let after : Cursor = record cursor { registers = g.registers; function = c.args.function; at = 0 } in
    replaced_is (state_of v b lent s ws cursor) c.args.function (plain_function g) (function_at (plain v.code) c.args.function) (read_all (words_of ws cursor) ss) vs S.Entered (state_of v b lent s us after) given (plain_at v.code.functions.items c.args.function g is) (frame_read base cursor.registers ws ss c.requires.arguments room) refl (instead_is v b lent s ws us cursor after c.args.function (plain_function g) vs below refl refl refl refl frame)

-- a function has a register for each argument
pub clear_rest-requires-clause-given : goal.clear_rest-requires-clause-given
clear_rest-requires-clause-given c =
    let can = c.requires.callee in
    let g = c.function_at-callee.result.now in
    subst (λ (h : Function). length c.args.arguments.now ≤ h.registers) (same_Some can.0 g (sym can.1 ∙ c.function_at-callee.ensures.is)) can.2
