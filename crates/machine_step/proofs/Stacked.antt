-- The frames that wait stay where they are, whatever is written after them.
use Rattle.std.proofs.Common.{◌≡◌, ℕ, zero, suc, ◌+◌, ◌-◌, ◌<◌, ◌≤◌, List, length, Some, sym, ◌∙◌, ap, subst, arith, get_or}
use Rattle.std.proofs.lemmas.Option.{same_Some}
use Rattle.std.specs.Prelude.{slice_get}
use Rattle.cell_code.specs.declared.code.Function.{Function}
use Rattle.cell_code.specs.declared.code.Instr.{Instr}
use Rattle.cell_code.specs.declared.code.Instr.TheVariants as I
use Rattle.cell_code.specs.Runnable.{AreBelow, Body, Row, IsSafe, body_of}
use Rattle.cell_code.proofs.Following.{safe_here}
use Rattle.code_verify.specs.Checked.{Checked}
use Rattle.machine_step.specs.declared.cursor.Bounds.{Bounds}
use Rattle.machine_step.specs.Bounding.{Fits}
use Rattle.machine_frames.specs.Keeping.{Keeps}
use Rattle.machine_step.specs.declared.cursor.Cursor.{Cursor}
use Rattle.machine_step.specs.Placed.{IsPlaced, IsWaiting, Waiting, body_at}

pub keeps_less : (n m : ℕ) (ws us : List ℕ) → m ≤ n → Keeps n ws us → Keeps m ws us
keeps_less n m ws us h k i l = k i (omega (arith, h, l))

pub keeps_both : (n : ℕ) (ws us xs : List ℕ) → Keeps n ws us → Keeps n us xs → Keeps n ws xs
keeps_both n ws us xs h k i l = k i l ∙ h i l

pub waiting_keeps : (v : Checked) (b : Bounds) (ws us : List ℕ) (frames base : ℕ) → Keeps base ws us → Waiting v b ws frames base → Waiting v b us frames base
waiting_keeps v b ws us zero base k w = w
waiting_keeps v b ws us (suc frames) base k w =
    let g = w.0 in
    let x = w.1 in
    let low = x.low in
    let at : get_or ws (base - 1) 0 ≡ get_or us (base - 1) 0 = sym (k (base - 1) (omega (arith, low))) in
    let function : get_or ws (base - 2) 0 ≡ get_or us (base - 2) 0 = sym (k (base - 2) (omega (arith, low))) in (
      g,
      record {
        low = low;
        is = subst (λ f. slice_get v.code.functions.items f ≡ Some g) function x.is;
        within = subst (λ i. i < length g.instrs.items) at x.within;
        below = λ f ss ds e. x.below f ss ds (subst (λ i. slice_get g.instrs.items i ≡ Some (I.Call f ss ds)) (sym at) e);
        next = subst (λ i. IsSafe (body_of v.code.functions.items v.stacks (get_or us (base - 2) 0) g) (i + 1)) at (subst (λ f. IsSafe (body_of v.code.functions.items v.stacks f g) (get_or ws (base - 1) 0 + 1)) function x.next);
        fits = subst (λ f. Fits v b f frames (base - (g.registers + 2))) function x.fits;
      },
      waiting_keeps v b ws us frames (base - (g.registers + 2)) (keeps_less base (base - (g.registers + 2)) ws us (omega arith) k) w.2,
    )

-- the frame that waits directly below, and those below it
pub waiting_below : (v : Checked) (b : Bounds) (ws : List ℕ) (frames base : ℕ) → 0 < frames → Waiting v b ws frames base → (g : Function) × IsWaiting v b ws (frames - 1) base g × Waiting v b ws (frames - 1) (base - (g.registers + 2))
waiting_below v b ws zero base some w = absurd (omega arith)
waiting_below v b ws (suc frames) base some w =
    let less : frames ≡ suc frames - 1 = omega arith in
    (w.0, subst (λ n. IsWaiting v b ws n base w.0) less w.1, subst (λ n. Waiting v b ws n (base - (w.0.registers + 2))) less w.2)

-- the destinations of a call that is safe
pub safe_call : (b : Body) (i f : ℕ) (ss ds : List ℕ) → IsSafe b i → slice_get b.instrs i ≡ Some (I.Call f ss ds) → AreBelow b.registers ds
safe_call b i f ss ds s e =
    let h = safe_here b i s in
    let row = subst (Row b i (IsSafe b)) (same_Some h.0 (I.Call f ss ds) (sym h.1 ∙ e)) h.2 in
    row.1

-- the running frame waits from now on
pub waiting_call : (v : Checked) (b : Bounds) (n : ℕ) (c : Cursor) (ws us : List ℕ) → IsPlaced v b n c → IsSafe (body_at v c) (c.at + 1) → Waiting v b ws c.frames c.base → Keeps c.base ws us → get_or us (c.base + c.registers) 0 ≡ c.function → get_or us (c.base + c.registers + 1) 0 ≡ c.at → Waiting v b us (suc c.frames) (c.base + c.registers + 2)
waiting_call v b n c ws us p next w k function at =
    let g = p.is.0 in
    let registers = p.is.2 in
    let above : ℕ = c.base + c.registers + 2 in
    let function' : c.function ≡ get_or us (above - 2) 0 = sym function ∙ ap (λ i. get_or us i 0) (let e : c.base + c.registers ≡ above - 2 = omega arith in e) in
    let at' : c.at ≡ get_or us (above - 1) 0 = sym at ∙ ap (λ i. get_or us i 0) (let e : c.base + c.registers + 1 ≡ above - 1 = omega arith in e) in
    let base' : c.base ≡ above - (g.registers + 2) = omega (arith, registers) in
    let body : body_at v c ≡ body_of v.code.functions.items v.stacks c.function g = λ i. record { functions = v.code.functions.items; stacks = v.stacks; function = c.function; registers = sym registers i; instrs = sym p.is.3 i } in
    let within : c.at < length g.instrs.items = subst (λ (is : List Instr). c.at < length is) (sym p.is.3) p.within in (
      g,
      record {
        low = omega (arith, registers);
        is = subst (λ f. slice_get v.code.functions.items f ≡ Some g) function' p.is.1;
        within = subst (λ i. i < length g.instrs.items) at' within;
        below = λ f ss ds e. subst (λ r. AreBelow r ds) (sym registers) (safe_call (body_at v c) c.at f ss ds p.safe (subst (λ (is : List Instr). slice_get is c.at ≡ Some (I.Call f ss ds)) p.is.3 (subst (λ i. slice_get g.instrs.items i ≡ Some (I.Call f ss ds)) (sym at') e)));
        next = subst (λ i. IsSafe (body_of v.code.functions.items v.stacks (get_or us (above - 2) 0) g) (i + 1)) at' (subst (λ f. IsSafe (body_of v.code.functions.items v.stacks f g) (c.at + 1)) function' (subst (λ y. IsSafe y (c.at + 1)) body next));
        fits = subst (λ f. Fits v b f c.frames (above - (g.registers + 2))) function' (subst (Fits v b c.function c.frames) base' p.fits);
      },
      subst (Waiting v b us c.frames) base' (waiting_keeps v b ws us c.frames c.base k w),
    )
