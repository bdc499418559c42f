use Rattle.std.proofs.Common.{◌≡◌, ℕ, Some, refl, sym, subst}
use Rattle.fip_language.proofs.Facts.{get_there}
use Rattle.fip_machine.specs.code_verify.Checked.{Checked}
use Rattle.cell_code.specs.Plain.{plain}
use Rattle.fip_machine.specs.machine_cells.machine_semantics.Runs.{loaded}
use Rattle.fip_machine.specs.Pausing.{CanResume, stand_of}
use Rattle.fip_machine.specs.Tasks.{Stand, IsFresh, state_with}
use Rattle.fip_host.proofs.Beginning.{first_state, loads}
use Rattle.fip_host.proofs.hosted.runs.begun.Goals as goal

pub returns-clause-can : goal.returns-clause-can
returns-clause-can c = subst (λ (w : Checked). CanResume w c.pause.result) c.in_ok-stack.ensures.code c.pause.ensures.can

pub returns-clause-starts : goal.returns-clause-starts
returns-clause-starts c = λ store.
    let v = c.args.verified.now in
    let t = c.in_ok-stack.stack in
    let n = c.args.number in
    let words = c.args.words.items in
    let stand = stand_of v c.pause.result in
    let same : stand ≡ t = subst (λ (w : Checked). stand_of w c.pause.result ≡ t) c.in_ok-stack.ensures.code c.pause.ensures.same in
    let f = get_there v.code.functions.items n c.requires.there in
    let k = c.frames_for-frames.ensures.are in
    let s = first_state v.code n f.0 store words c.frames_for-frames.result in
    let e = loads v.code n f.0 store words c.frames_for-frames.result f.1 in
    record {
      code = refl;
      fresh = subst (λ (u : Stand). IsFresh u) (sym same) c.in_ok-stack.ensures.fresh;
      held = k.0;
      has = k.1;
      state = s;
      loads = subst (λ (m : ℕ). loaded (plain v.code) n store words m ≡ Some s) k.2 e;
      at = subst (λ (u : Stand). state_with u s.lent store ≡ s) (sym same) (c.in_ok-stack.ensures.loaded f.0 f.1 (c.requires.few f.0 f.1) store s e);
    }
