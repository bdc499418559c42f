-- A task whose parts a run has in variables, from turn to turn.
use Rattle.std.proofs.Common.{◌≡◌, ◌≢◌, ℕ, ◌+◌, ◌-◌, ◌<◌, ◌≤◌, List, [], ◌∷◌, length, map, Option, Some, None, take, refl, sym, ap, subst, ◌∙◌, arith}
use Rattle.std.specs.Prelude.{sum}
use Rattle.cell_store.specs.Made.{Stored}
use Rattle.machine_step.specs.code_verify.Checked.{Checked}
use Rattle.machine_cells.specs.machine_semantics.States.{words_of_frame}
use Rattle.machine_cells.specs.machine_semantics.Steps.{Kinds}
use Rattle.machine_cells.specs.Small.{IsSmall, store_of}
use Rattle.machine_step.specs.declared.cursor.Bounds.{Bounds}
use Rattle.machine_step.specs.declared.cursor.Cursor.{Cursor}
use Rattle.machine_step.specs.declared.rows.Beside.{Beside}
use Rattle.machine_step.specs.declared.rows.Stepped.{Stepped}
use Rattle.machine_step.specs.declared.rows.Stepped.TheVariants as S
use Rattle.machine_step.specs.Placed.{Waiting}
use Rattle.machine_step.specs.Highest.{IsHigh, IsRaised}
use Rattle.machine_step.specs.Coming.{KnowsAt}
use Rattle.machine_step.specs.Going.{IsReportedWithMore}
use Rattle.machine_step.proofs.Highs.{high_raised}
use Rattle.fip_machine.specs.Tasks.{Stand, IsMeasured}
use Rattle.fip_machine.specs.declared.stack.Pause.{Pause}
use Rattle.fip_machine.specs.declared.stack.Pause.TheVariants as P
use Rattle.fip_machine.specs.declared.machine.Ended.{Ended}
use Rattle.fip_machine.specs.Along.{Origin, at_step, HasMost, IsAlong, HasRun, CameTo, HasPaused, calls_next, end_after, task_of}
use Rattle.fip_machine.proofs.Mosts.{unless}
use Rattle.fip_machine.proofs.Alongs.{turned, has_gone_on, has_entered, has_ended}
use Rattle.fip_machine.proofs.Measured.{measured_of}

-- a turn
pub turned_task : (o : Origin) (v : Checked) (b : Bounds) (ws us : List ℕ) (c d : Cursor) (x y : Beside) (s w : Stored) (left : ℕ) (r : Stepped) → IsAlong o (task_of v b ws c x) s left → d.base + d.registers ≤ length us → Waiting v b us d.frames d.base → IsHigh c → (IsHigh c → IsRaised c d) → (IsSmall s.cells → IsSmall w.cells) → (s.pushed ≡ [] → w.pushed ≡ []) → ((kinds : Kinds) → KnowsAt v kinds c.function c.at → IsSmall s.cells → s.pushed ≡ [] → IsReportedWithMore v b kinds (store_of s.cells s.released) ws c r (store_of w.cells w.released) us d (take y.given y.results)) → CameTo o left (calls_next v (task_of v b ws c x)) r (task_of v b us d y) w
turned_task o v b ws us c d x y s w left r a room waiting high raised small pushed reported =
    let more = raised high in
    turned o (task_of v b ws c x) s left r (task_of v b us d y) w a refl small pushed (measured_of v b us d y room waiting (high_raised c d more)) (record { frames = more.frames; words = more.words }) refl (λ known few empty. reported o.kinds known few empty o.lent)

pub turned_on : (o : Origin) (v : Checked) (b : Bounds) (ws us : List ℕ) (c d : Cursor) (x y : Beside) (s w : Stored) (left : ℕ) (r : Stepped) → r ≡ S.Went → CameTo o left (calls_next v (task_of v b ws c x)) r (task_of v b us d y) w → IsAlong o (task_of v b us d y) w left
turned_on o v b ws us c d x y s w left r went came = has_gone_on o left (calls_next v (task_of v b ws c x)) r (task_of v b us d y) w went came

pub turned_in : (o : Origin) (v : Checked) (b : Bounds) (ws us : List ℕ) (c d : Cursor) (x y : Beside) (s w : Stored) (left : ℕ) (r : Stepped) → r ≡ S.Entered → 0 < left → CameTo o left (calls_next v (task_of v b ws c x)) r (task_of v b us d y) w → IsAlong o (task_of v b us d y) w (left - 1)
turned_in o v b ws us c d x y s w left r entered some came = has_entered o left (calls_next v (task_of v b ws c x)) r (task_of v b us d y) w entered some came

pub turned_out : (o : Origin) (v : Checked) (b : Bounds) (ws us : List ℕ) (c d : Cursor) (x y : Beside) (s w : Stored) (left : ℕ) (r : Stepped) → r ≢ S.Went → r ≢ S.Entered → 0 < left → CameTo o left (calls_next v (task_of v b ws c x)) r (task_of v b us d y) w → HasRun o (end_after (Some r)) (task_of v b us d y) w
turned_out o v b ws us c d x y s w left r n m some came = has_ended o left (calls_next v (task_of v b ws c x)) r (task_of v b us d y) w n m some came

-- a task reports of the same frames and words once its run has ended
pub measured_ended : (t u : Stand) → u.frames ≡ t.frames → u.words ≡ t.words → u.most_frames ≡ t.most_frames → u.most_words ≡ t.most_words → u.running ≡ t.running → u.waiting ≡ t.waiting → IsMeasured t → IsMeasured u
measured_ended t u f w mf mw r k m =
    let a = m.most_frames in
    let b = m.most_words in
    record {
      frames = f ∙ m.frames ∙ ap length (sym k);
      words = w ∙ m.words ∙ (λ i. sum (map words_of_frame (sym r i ∷ sym k i)));
      most_frames = omega (arith, a, f, mf);
      most_words = omega (arith, b, w, mw);
    }

-- a pause that isn't the end
pub paused_along : (o : Origin) (p : Pause) (t : Stand) (s : Stored) (left : ℕ) → ((r : Stepped) → p ≡ P.Over r → ⊥) → HasPaused o p t s left → IsAlong o t s left
paused_along o P.Short t s left n h = h
paused_along o P.Spent t s left n h = h
paused_along o (P.Over r) t s left n h = absurd (n r refl)

-- the end is reported to a task
pub run_ended : (o : Origin) (e : Ended) (t : Stand) (x : Option Stepped) (s : Stored) → HasRun o e t s → HasRun o e (record t { ended = x }) s
run_ended o e t x s h = (h.0, h.1, unless (at_step o h.0) (HasMost o h.0 t) (HasMost o h.0 (record t { ended = x })) (λ m. record { frames = m.frames; words = m.words }) h.2)

pub along_ended : (o : Origin) (t : Stand) (x : Option Stepped) (s : Stored) (left : ℕ) → x ≡ None → t.ended ≡ None → IsAlong o t s left → IsAlong o (record t { ended = x }) s left
along_ended o t x s left e f a = subst (λ (y : Option Stepped). IsAlong o (record t { ended = y }) s left) (f ∙ sym e) a
