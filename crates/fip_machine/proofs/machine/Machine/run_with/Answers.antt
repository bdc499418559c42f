-- The task runs over the machine's own cells, and the gauge looks at the first state and at the last one.
use Rattle.std.proofs.Common.{sym, subst}
use Rattle.fip_machine.specs.declared.machine.Ended.{Ended}
use Rattle.fip_machine.specs.Along.{end_after, stored}
use Rattle.fip_machine.proofs.Wholes.{HasRan, ran_on, runs_to, reports_run, reports_none, saw}
use Rattle.fip_machine.proofs.Sures.{safe_from}
use Rattle.fip_machine.proofs.machine.Machine.run_with.Goals as goal

pub returns-then-calls-eq0-clause-gauge : goal.returns-then-calls-eq0-clause-gauge
returns-then-calls-eq0-clause-gauge g c =
    let t = c.self.inside.stack in
    let k = c.self.inside.cells in
    let s = stored k.cells k.released k.pushed in
    reports_none c.args.self.now t s c.args.calls c.args.gauge.now c.see.new.self c.self.view_is c.if-calls-eq0.true c.frames-frames.ensures.measured (saw c.args.gauge.now c.see.new.self s.cells s.released t.frames t.words c.frames-frames.result c.words-words.result c.held.result c.see.ensures.lowest c.see.ensures.highest c.see.ensures.frames c.see.ensures.words c.see.ensures.seen c.held.ensures.counts c.frames-frames.ensures.frames c.words-words.ensures.words)

pub returns-clause-run : goal.returns-clause-run
returns-clause-run g c =
    let t = c.self.inside.stack in
    let k = c.self.inside.cells in
    let s = stored k.cells k.released k.pushed in
    let u = c.run-over.new.self in
    let l = c.run-over.new.cells in
    let w = stored l.cells l.released l.pushed in
    let ran : HasRan t s c.args.calls c.ended_of.result u w = subst (λ (e : Ended). HasRan t s c.args.calls e u w) (sym c.ended_of.ensures.is) (ran_on t s c.args.calls (end_after c.run-over.result) u w c.if-calls-eq0.false c.run-over.ensures.run) in
    runs_to c.args.self.now t s c.args.calls c.ended_of.result u w c.self.view_is c.frames-frames.ensures.measured ran

pub returns-clause-gauge : goal.returns-clause-gauge
returns-clause-gauge g c =
    let t = c.self.inside.stack in
    let k = c.self.inside.cells in
    let s = stored k.cells k.released k.pushed in
    let u = c.run-over.new.self in
    let l = c.run-over.new.cells in
    let w = stored l.cells l.released l.pushed in
    let ran : HasRan t s c.args.calls c.ended_of.result u w = subst (λ (e : Ended). HasRan t s c.args.calls e u w) (sym c.ended_of.ensures.is) (ran_on t s c.args.calls (end_after c.run-over.result) u w c.if-calls-eq0.false c.run-over.ensures.run) in
    let first = saw c.args.gauge.now c.see.new.self s.cells s.released t.frames t.words c.frames-frames.result c.words-words.result c.held.result c.see.ensures.lowest c.see.ensures.highest c.see.ensures.frames c.see.ensures.words c.see.ensures.seen c.held.ensures.counts c.frames-frames.ensures.frames c.words-words.ensures.words in
    let last = saw c.see.new.self c.see-2.new.self w.cells w.released u.most_frames u.most_words c.highest-highest.result.frames c.highest-highest.result.words c.held-2.result c.see-2.ensures.lowest c.see-2.ensures.highest c.see-2.ensures.frames c.see-2.ensures.words c.see-2.ensures.seen c.held-2.ensures.counts c.highest-highest.ensures.frames c.highest-highest.ensures.words in
    reports_run c.args.self.now t s c.args.calls c.ended_of.result u w c.args.gauge.now c.see.new.self c.see-2.new.self c.self.view_is c.frames-frames.ensures.measured ran first last

pub run-over-requires : goal.run-over-requires
run-over-requires g c = record {
  sure = λ sure.
      let t = c.self.inside.stack in
      let k = c.self.inside.cells in
      safe_from c.args.self.now t (stored k.cells k.released k.pushed) c.args.calls c.self.view_is c.if-calls-eq0.false c.frames-frames.ensures.measured (c.requires.sure sure);
}
