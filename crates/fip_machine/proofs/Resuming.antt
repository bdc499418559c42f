-- A task over other references of the same instructions.
use Rattle.std.proofs.Common.{◌≡◌, ℕ, ◌<◌, List, length, refl, sym, ap, subst, ◌∙◌, Option, Bor}
use Rattle.cell_code.specs.declared.code.Instr.{Instr}
use Rattle.cell_code.specs.Runnable.{IsSafe}
use Rattle.machine_step.specs.code_verify.Checked.{Checked}
use Rattle.machine_step.specs.declared.cursor.Bounds.{Bounds}
use Rattle.machine_step.specs.declared.cursor.Cursor.{Cursor}
use Rattle.machine_step.specs.declared.rows.Stepped.{Stepped}
use Rattle.machine_step.specs.Placed.{IsPlaced}
use Rattle.fip_machine.specs.Pausing.{instrs_in, instrs_at}
use Rattle.fip_machine.specs.Tasks.{IsTask}

-- the instructions of a cursor that is placed are the function's
pub placed_instrs : (v : Checked) (b : Bounds) (n : ℕ) (c : Cursor) → IsPlaced v b n c → c.instrs.now ≡ instrs_at v.code.functions.items c.function
placed_instrs v b n c p = sym (ap instrs_in p.is.1 ∙ p.is.3)

pub task_again : (v : Checked) (b : Bounds) (ws : List ℕ) (capacity spare : ℕ) (ended : Option Stepped) (c : Cursor) (i : Bor (List Instr)) → c.instrs.now ≡ i.now → IsTask v b ws capacity spare c ended → IsTask v b ws capacity spare (record { instrs = i; registers = c.registers; function = c.function; at = c.at; base = c.base; frames = c.frames; highest = c.highest }) ended
task_again v b ws capacity spare ended c i e h =
    let p = h.placed in
    record {
      placed = record {
        is = (p.is.0, p.is.1, p.is.2, p.is.3 ∙ e);
        safe = subst (λ (is : List Instr). IsSafe (record { functions = v.code.functions.items; stacks = v.stacks; function = c.function; registers = c.registers; instrs = is }) c.at) e p.safe;
        within = subst (λ (is : List Instr). c.at < length is) e p.within;
        few = subst (λ (is : List Instr). length is < 4294967296) e p.few;
        small = p.small;
        largest = p.largest;
        own = p.own;
        frames = p.frames;
        fits = p.fits;
        room = p.room;
      };
      waiting = h.waiting;
      most = h.most;
      small = h.small;
      beside = h.beside;
      taken = h.taken;
      high = record { frames = h.high.frames; words = h.high.words };
      over = h.over;
    }
