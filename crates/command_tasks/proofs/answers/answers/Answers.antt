use Rattle.std.proofs.Common.{◌≡◌, ◌∙◌, Some, length, refl, subst}
use Rattle.std.proofs.lemmas.Option.{slice_get_read}
use Rattle.std.specs.Prelude.{slice_get}
use Rattle.cell_code.specs.declared.code.Code.{Code}
use Rattle.command_tasks.specs.Telling.{Answers, ShowsSome}
use Rattle.command_tasks.proofs.Answering.{all_lines, line_more, some_at}
use Rattle.command_tasks.proofs.Scheduling.{to_end}
use Rattle.command_tasks.proofs.answers.answers.Goals as goal

pub loop-k-preserved : goal.loop-k-preserved
loop-k-preserved c =
    let starts = c.args.starts.now in
    let k = c.loop-k.k in
    let new = c.finish-ended.new.self in
    let b = c.index-starts-k.result in
    let number : length new.tasks ≡ length starts = c.finish-ended.ensures.number ∙ c.loop-k.invariant.number in
    let at : slice_get starts k ≡ Some b = slice_get_read starts (length starts) k b refl c.loop-k-test.true c.index-starts-k.is in
    let stand = some_at starts new.tasks k b number at in
    record {
      number = number;
      shows = λ v kinds first can s. to_end v kinds first c.loop-k.tasks new k can (c.finish-ended.ensures.turns v kinds) (c.loop-k.invariant.shows v kinds first can s);
      lines = λ v kinds first means same can s many ends.
          let shown : ShowsSome v kinds first new = to_end v kinds first c.loop-k.tasks new k can (c.finish-ended.ensures.turns v kinds) (c.loop-k.invariant.shows v kinds first can s) in
          let mean = some_at starts means k b many at in
          let answers : Answers v.code new b mean.0 stand.0 c.finish-ended.result = ends new shown k b mean.0 stand.0 c.finish-ended.result at mean.1 stand.1 (c.finish-ended.ensures.reported stand.0 stand.1) in
          let put = c.in_ok-put_task.ensures.line stand.0 mean.0 stand.1 shown.1.small (subst (λ (code : Code). Answers code new b mean.0 stand.0 c.finish-ended.result) same answers) in
          line_more c.args.code.now starts means k b mean.0 c.loop-k.out.items c.put_task.new.out.items put.0 at mean.1 (c.loop-k.invariant.lines v kinds first means same can s many ends) put.1 put.2;
    }

pub returns : goal.returns
returns c = record {
  lines = λ v kinds first means same can s many ends. all_lines c.args.code.now c.args.starts.now means c.loop-k.k c.loop-k.out.items c.loop-k-test.false many (c.loop-k.invariant.lines v kinds first means same can s many ends);
}
