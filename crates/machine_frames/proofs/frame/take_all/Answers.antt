use Rattle.std.proofs.Common.{◌≡◌, ◌+◌, ◌∙◌, Some, drop, sym, ap, subst, arith, get_or, length}
use Rattle.std.specs.Prelude.{slice_set, slice_get, option_and_then}
use Rattle.std.proofs.lemmas.List.{get_or-set_other}
use Rattle.std.proofs.lemmas.Option.{get_or_from_slice_get}
use Rattle.cell_store.specs.Cells.{size_in}
use Rattle.machine_frames.specs.Words.{put_words}
use Rattle.machine_frames.proofs.Laid.{put_more}
use Rattle.machine_frames.proofs.frame.take_all.Goals as goal

pub loop-i-preserved : goal.loop-i-preserved
loop-i-preserved g c =
    let r = get_or c.args.registers.now c.loop-i.i 0 in
    record {
      keeps = λ j l. get_or-set_other c.loop-i.words (c.args.base + r) j c.field.result 0 (λ e. omega (arith, e, l)) ∙ c.loop-i.invariant.keeps j l;
      fields = λ d is.
          let read = subst (λ o. option_and_then (λ x. slice_get x.fields c.loop-i.i) o ≡ Some c.field.result) is c.field.ensures in
          let word = get_or_from_slice_get d.fields c.loop-i.i c.field.result 0 read in
          let size : length d.fields ≡ length c.args.registers.now = sym (ap size_in is) ∙ c.requires.size in
          let more = put_more c.args.base c.loop-i.i c.loop-i.words c.args.registers.now d.fields (omega arith) (omega (arith, size)) in
          subst (λ w. put_words c.args.base (slice_set c.loop-i.words (c.args.base + r) w) (drop (c.loop-i.i + 1) c.args.registers.now) (drop (c.loop-i.i + 1) d.fields) ≡ put_words c.args.base c.args.words.now c.args.registers.now d.fields) word (sym more ∙ c.loop-i.invariant.fields d is);
    }
