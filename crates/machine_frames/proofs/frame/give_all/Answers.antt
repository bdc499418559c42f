use Rattle.std.proofs.Common.{◌≡◌, ◌+◌, ◌∙◌, ℕ, List, drop, sym, ap, arith, get_or}
use Rattle.std.specs.Prelude.{slice_set}
use Rattle.std.proofs.lemmas.List.{get_or-set_other, length-set}
use Rattle.machine_frames.specs.Words.{put_words, words_from}
use Rattle.machine_frames.proofs.Laid.{read_more, put_more, word_from, words_long}
use Rattle.machine_frames.proofs.frame.give_all.Goals.{then-i-lt-MOST_RESULTS, else-i-lt-MOST_RESULTS}
use Rattle.machine_frames.proofs.frame.give_all.Goals as goal

pub loop-i-preserved : goal.loop-i-preserved
loop-i-preserved c = record {
  long = length-set c.loop-i.given c.loop-i.i (get_or c.args.words.now (c.args.from + get_or c.args.results.now c.loop-i.i 0) 0) ∙ c.loop-i.invariant.long;
  read = read_more c.loop-i.given (λ j. get_or c.args.words.now (c.args.from + get_or c.args.results.now j 0) 0) c.loop-i.i (omega arith) c.loop-i.invariant.read;
}

pub loop-i-2-preserved : goal.loop-i-2-preserved
loop-i-2-preserved c =
    let i = c.loop-i-2.i in
    let d = get_or c.args.destinations.now i 0 in
    let vs = words_from c.args.from c.args.words.now c.args.results.now in
    elim c.if-i-lt-MOST_RESULTS.branch [
      | then-i-lt-MOST_RESULTS w ↦ record {
        keeps = λ j l. ap (λ ws. get_or ws j 0) w.words-is ∙ get_or-set_other c.loop-i-2.words (c.args.to + d) j (get_or c.loop-i.given i 0) 0 (λ e. omega (arith, e, l)) ∙ c.loop-i-2.invariant.keeps j l;
        given = λ same.
            let long = words_long c.args.from c.args.words.now c.args.results.now in
            let word : get_or c.loop-i.given i 0 ≡ get_or vs i 0 = c.loop-i.invariant.read i (omega (arith, same)) ∙ sym (word_from c.args.from c.args.words.now c.args.results.now i (omega (arith, same))) in
            let more = put_more c.args.to i c.loop-i-2.words c.args.destinations.now vs (omega arith) (omega (arith, same, long)) in
            ap (λ (ws : List ℕ). put_words c.args.to ws (drop (i + 1) c.args.destinations.now) (drop (i + 1) vs)) (w.words-is ∙ ap (slice_set c.loop-i-2.words (c.args.to + d)) word) ∙ sym more ∙ c.loop-i-2.invariant.given same;
      }
      | else-i-lt-MOST_RESULTS w ↦ record {
        keeps = λ j l. ap (λ ws. get_or ws j 0) w.words-is ∙ c.loop-i-2.invariant.keeps j l;
        given = λ same. absurd (omega (arith, same, w.if-i-lt-MOST_RESULTS.false));
      }
    ]
