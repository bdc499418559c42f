use Rattle.std.proofs.Common.{ℕ, ◌+◌, ◌<◌, ◌≤◌, Option, subst, length, arith}
use Rattle.std.specs.Prelude.{Ok, MatchOption}
use Rattle.value_text.specs.declared.read.Event.{Event}
use Rattle.value_text.specs.Reading.{outline, whole, Stepped, cost_of}
use Rattle.value_text.specs.Loaded.{types_of}
use Rattle.value_text.proofs.Counted.{lines_go, counting_starts, counting_few, counting_on, counting_ends}
use Rattle.value_text.proofs.load.count.Goals as goal

pub loop-event-init : goal.loop-event-init
loop-event-init c = record {
  within = (let a = c.begin-cursor.ensures.at in omega (arith, a));
  counting = λ sound types short. counting_starts c.args.table.now (types_of c.args.params.now) c.args.bytes.now (outline c.begin-cursor.result) c.begin-cursor.result.at c.none-counts.result c.begin-cursor.ensures.at c.none-counts.ensures types c.begin-cursor.ensures.starts;
}

pub loop-event-preserved : goal.loop-event-preserved
loop-event-preserved c =
    let tb = c.args.table.now in
    let bytes = c.args.bytes.now in
    let old = c.loop-event.cursor in
    let new = c.step.new.cursor in
    let e = c.in-Ok-Some.event in
    let p = subst (λ (o : Option Event). MatchOption o ℕ (λ e. (old.at < new.at) × (old.at + cost_of e ≤ new.at) × (new.at ≤ length bytes))) c.in-Ok-Some.field-0-is c.in-Ok-Some.ensures.place in
    record {
      within = p.2;
      counting = λ sound types short.
          let i = c.loop-event.invariant.counting sound types short in
          let known = (i.reading).known in
          counting_on tb (whole (types_of c.args.params.now)) bytes (outline old) (outline new) old.at new.at c.loop-event.counts c.add_closed.new.self e i (lines_go i.spot (i.reading).following) (λ s g q. subst (λ (o : Option Event). Stepped tb bytes s old.at (Ok o) (outline new) new.at) c.in-Ok-Some.field-0-is (c.in-Ok-Some.ensures.reads sound known s g q)) (c.in-Ok-Some.ensures.known sound known) p.1 p.2
          (c.add_closed.ensures (λ k le. let f = counting_few tb (whole (types_of c.args.params.now)) bytes (outline old) old.at c.loop-event.counts i k le in omega (arith, f, p.0, p.2, short)));
    }

pub returns-in-Ok-None : goal.returns-in-Ok-None
returns-in-Ok-None c = λ sound types short.
    let tb = c.args.table.now in
    let bytes = c.args.bytes.now in
    let old = c.loop-event.cursor in
    let new = c.step.new.cursor in
    let i = c.loop-event.invariant.counting sound types short in
    let known = (i.reading).known in
    counting_ends tb (whole (types_of c.args.params.now)) bytes (outline old) (outline new) old.at new.at c.loop-event.counts i (lines_go i.spot (i.reading).following) (λ s g q. subst (λ (o : Option Event). Stepped tb bytes s old.at (Ok o) (outline new) new.at) c.in-Ok-None.field-0-is (c.in-Ok-None.ensures.reads sound known s g q))
