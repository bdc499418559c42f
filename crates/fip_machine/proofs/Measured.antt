-- The frames and the words of a task are those of its state.
-- The idea: the frames that wait tile the words below the running one, each with two words more than its registers.
use Rattle.std.proofs.Common.{◌≡◌, ℕ, zero, suc, ◌+◌, ◌-◌, ◌≤◌, List, ◌∷◌, length, map, take, get_or, refl, sym, ap, ◌∙◌, arith}
use Rattle.std.specs.Prelude.{sum}
use Rattle.machine_step.specs.code_verify.Checked.{Checked}
use Rattle.machine_cells.specs.machine_semantics.States.{Frame, words_of_frame}
use Rattle.machine_cells.proofs.machine_semantics.Falling.{all_words}
use Rattle.machine_step.specs.machine_frames.View.{registers_of, frame_at, waiting_in}
use Rattle.machine_step.proofs.machine_frames.Viewed.{frame_long, waiting_at}
use Rattle.machine_step.specs.declared.cursor.Bounds.{Bounds}
use Rattle.machine_step.specs.declared.cursor.Cursor.{Cursor}
use Rattle.machine_step.specs.declared.rows.Beside.{Beside}
use Rattle.machine_step.specs.Placed.{Waiting}
use Rattle.machine_step.specs.Highest.{IsHigh}
use Rattle.machine_step.specs.View.{words_of}
use Rattle.machine_step.proofs.Calls.{registers_is}
use Rattle.fip_machine.specs.Tasks.{IsMeasured}
use Rattle.fip_machine.specs.Along.{task_of}

pub record AreTiled (fs : List Frame) (n base : ℕ) : Type 0 where
  pub frames : length fs ≡ n
  pub words : sum (map words_of_frame fs) ≡ base

pub tiled : (v : Checked) (b : Bounds) (ws : List ℕ) (frames base : ℕ) → base ≤ length ws → Waiting v b ws frames base → AreTiled (waiting_in v.code.functions.items frames (take base ws)) frames base
tiled v b ws zero base room w = record { frames = refl; words = sym w }
tiled v b ws (suc frames) base room w =
    let fs = v.code.functions.items in
    let g = w.0 in
    let n = g.registers in
    let low = w.1.low in
    let start : ℕ = base - (n + 2) in
    let top : base ≡ start + n + 2 = omega (arith, low) in
    let own : registers_of fs (get_or ws (base - 2) 0) ≡ n = registers_is fs (get_or ws (base - 2) 0) g w.1.is in
    let first : Frame = record { function = get_or ws (base - 2) 0; at = get_or ws (base - 1) 0; words = frame_at start n ws } in
    let wait : waiting_in fs (suc frames) (take base ws) ≡ first ∷ waiting_in fs frames (take start ws) = waiting_at fs frames start n base ws top room own in
    let rest = tiled v b ws frames start (omega (arith, room)) w.2 in
    let long = frame_long start n ws (omega (arith, top, room)) in
    let sums = all_words first (waiting_in fs frames (take start ws)) in
    let all : sum (map words_of_frame (waiting_in fs (suc frames) (take base ws))) ≡ sum (map words_of_frame (first ∷ waiting_in fs frames (take start ws))) = ap (λ xs. sum (map words_of_frame xs)) wait in
    let below = rest.words in
    record { frames = ap length wait ∙ ap suc rest.frames; words = omega (arith, all, sums, long, below, top) }

pub measured_of : (v : Checked) (b : Bounds) (ws : List ℕ) (c : Cursor) (beside : Beside) → c.base + c.registers ≤ length ws → Waiting v b ws c.frames c.base → IsHigh c → IsMeasured (task_of v b ws c beside)
measured_of v b ws c beside room waiting high =
    let t = tiled v b ws c.frames c.base (omega (arith, room)) waiting in
    let below = t.words in
    let long = frame_long c.base c.registers ws room in
    let sums = all_words (record { function = c.function; at = c.at; words = words_of ws c }) (waiting_in v.code.functions.items c.frames (take c.base ws)) in
    record {
      frames = sym t.frames;
      words = omega (arith, sums, long, below);
      most_frames = high.frames;
      most_words = high.words;
    }
