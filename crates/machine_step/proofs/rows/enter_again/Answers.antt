use Rattle.std.proofs.Common.{◌≡◌, ◌+◌, ◌≤◌, ◌∙◌, refl, sym, subst, arith, length}
use Rattle.machine_step.proofs.Stacked.{keeps_both, keeps_less, waiting_keeps}
use Rattle.machine_step.proofs.Starting.{starts_again}
use Rattle.cell_code.specs.Plain.{plain_function, plain, function_at}
use Rattle.machine_frames.specs.machine_semantics.Rows.{read_all}
use Rattle.machine_frames.specs.machine_semantics.Steps.{first_words}
use Rattle.machine_frames.specs.Words.{words_from}
use Rattle.machine_frames.proofs.Viewed.{kept, frame_read}
use Rattle.machine_step.specs.declared.rows.Stepped.TheVariants as S
use Rattle.machine_step.specs.View.{words_of, state_of}
use Rattle.machine_step.proofs.Calls.{plain_at, replaced_is, instead_is}
use Rattle.machine_step.proofs.Helps.{first_frame_of}
use Rattle.machine_step.proofs.rows.enter_again.Goals as goal

pub returns-clause-placed : goal.returns-clause-placed
returns-clause-placed c =
    let p = c.requires.placed in
    let first = starts_again c.args.verified.now c.args.bounds (length c.args.words.now) c.args.cursor.now c.requires.runnable p in
    record {
      is = p.is;
      safe = first.0;
      within = first.1;
      few = p.few;
      small = p.small;
      largest = p.largest;
      own = p.own;
      frames = p.frames;
      fits = p.fits;
      room = subst (λ n. c.args.cursor.now.base + c.args.cursor.now.registers ≤ n) (sym (c.clear_rest.auto.words ∙ c.replace.auto.words)) p.room;
    }

pub returns-clause-waiting : goal.returns-clause-waiting
returns-clause-waiting c =
    let base = c.args.cursor.now.base in
    let keeps = keeps_both base c.args.words.now c.replace.new.words c.clear_rest.new.words c.replace.ensures.keeps (keeps_less (base + length c.args.arguments.now) base c.replace.new.words c.clear_rest.new.words (omega arith) c.clear_rest.ensures.keeps) in
    waiting_keeps c.args.verified.now c.args.bounds c.args.words.now c.clear_rest.new.words c.args.cursor.now.frames base keeps c.requires.waiting

pub returns-clause-next : goal.returns-clause-next
returns-clause-next c ks s given lent =
    let v = c.args.verified.now in
    let b = c.args.bounds in
    let ws = c.args.words.now in
    let us = c.clear_rest.new.words in
    let cursor = c.args.cursor.now in
    let room = c.requires.placed.room in
    let base = cursor.base in
    let ss = c.args.arguments.now in
    let g = c.requires.placed.is.0 in
    let after = record cursor { at = 0 } in
    let vs = words_from base ws ss in
    let long = c.clear_rest.auto.words ∙ c.replace.auto.words in
    let keeps = keeps_both base ws c.replace.new.words us c.replace.ensures.keeps (keeps_less (base + length ss) base c.replace.new.words us (omega arith) c.clear_rest.ensures.keeps) in
    let below = kept base ws us (omega (arith, room)) (omega (arith, room, long)) keeps in
    let frame = first_frame_of base base cursor.registers ws c.replace.new.words us ss c.replace.ensures.given c.clear_rest.ensures c.requires.few room in
    let words = subst (λ n. words_of us after ≡ first_words n vs) (sym c.requires.placed.is.2) frame in
    replaced_is (state_of v b lent s ws cursor) cursor.function (plain_function g) (function_at (plain v.code) cursor.function) (read_all (words_of ws cursor) ss) vs S.Entered (state_of v b lent s us after) given (plain_at v.code.functions.items cursor.function g c.requires.placed.is.1) (frame_read base cursor.registers ws ss c.requires.arguments room) refl (instead_is v b lent s ws us cursor after cursor.function (plain_function g) vs below refl refl refl refl words)
