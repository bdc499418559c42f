use Rattle.std.proofs.Common.{[], ◌∷◌, ◌++◌, ap, sym, subst, ◌∙◌}
use Rattle.cell_trace.specs.declared.tape.Tape.{Tape}
use Rattle.cell_trace.specs.Traced.{plain_event}
use Rattle.cell_trace.specs.Taped.{IsTape}
use Rattle.cell_trace.proofs.Tapes.{event_kept, full_bytes, length_lost, memory_lost}
use Rattle.cell_trace.proofs.tape.Tape.keep.Goals.{in-Ok, in-Err}
use Rattle.cell_trace.proofs.tape.Tape.keep.Goals as goal

pub returns-then-not-has_bytes : goal.returns-then-not-has_bytes
returns-then-not-has_bytes c = record {
  noted = λ cells es n limit a.
      let r = c.has_bytes.ensures.full c.if-not-has_bytes.true in
      length_lost cells cells es (es ++ plain_event c.args.event ∷ []) n limit c.args.self.now c.has_bytes.new.self a r.1 (full_bytes cells es (plain_event c.args.event) n limit c.args.bytes c.args.self.now c.requires.kept a c.requires.bytes r.0);
}

pub returns : goal.returns
returns c = record {
  noted = λ cells es n limit a.
      let r = c.has_bytes.ensures.room c.if-not-has_bytes.false in
      elim c.match-push.branch [
        | in-Ok w ↦ subst (λ t. IsTape cells (es ++ plain_event c.args.event ∷ []) n limit t) (sym w.self-is) (event_kept cells es c.args.event n limit c.args.bytes c.args.self.now _ c.requires.kept a c.requires.bytes (λ e. c.if-len-eq-MOST_EVENTS.false (c.len.ensures ∙ c.args.self.now.events.ok.0 ∙ e)) r.0 (c.has_bytes.ensures.fits c.if-not-has_bytes.false) (ap (λ (t : Tape). t.limit) r.1) (ap (λ (t : Tape). t.steps) r.1) (ap (λ (t : Tape). t.lost) r.1) (ap (λ (t : Tape). t.bytes) r.1) (ap (λ (t : Tape). t.loaded.items) r.1) (w.in-Ok.ensures.items ∙ ap (λ (t : Tape). t.events.items ++ c.args.event ∷ []) r.1))
        | in-Err w ↦ subst (λ t. IsTape cells (es ++ plain_event c.args.event ∷ []) n limit t) (sym w.self-is) (memory_lost cells cells es (es ++ plain_event c.args.event ∷ []) n limit c.args.self.now _ w.lose-in-Err.new.self a (ap (λ (t : Tape). t.limit) r.1) (ap (λ (t : Tape). t.steps) r.1) w.lose-in-Err.ensures.lost)
      ];
}
