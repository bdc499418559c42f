-- The words that frames may have suffice for each frame.
use Rattle.std.proofs.Common.{◌≡◌, ℕ, ◌+◌, ◌*◌, ◌≤◌, Some, inl, inr, arith}
use Rattle.std.specs.Prelude.{slice_get}
use Rattle.std.proofs.lemmas.Bool.{cases_lt}
use Rattle.std.proofs.lemmas.Grind.{common_steps}
use Rattle.fip_base.specs.declared.plain.Stack.{Stack}
use Rattle.cell_code.specs.Runnable.{Covers}
use Rattle.code_verify.specs.Checked.{Checked}
use Rattle.machine_step.specs.declared.cursor.Bounds.{Bounds}
use Rattle.machine_step.specs.declared.cursor.Cursor.{Cursor}
use Rattle.machine_step.specs.Bounding.{Fits}
use Rattle.machine_step.specs.Placed.{IsPlaced, IsRoomy}

one_more : (n l : ℕ) → (n + 1) * l ≡ n * l + l
one_more n l = grind (arith, common_steps)

at_most : (n m l : ℕ) → n ≤ m → (n + 1) * l ≤ (m + 1) * l
at_most n m l h = grind (arith, common_steps)

-- a frame has room
pub fits_own : (v : Checked) (b : Bounds) (f frames base registers : ℕ) → Fits v b f frames base → frames ≤ b.frames → ((s : Stack) → slice_get v.stacks f ≡ Some (Some s) → registers + 2 ≤ s.words) → registers + 2 ≤ b.largest → base + registers + 2 ≤ b.words
fits_own v b f frames base registers (inl w) few own largest =
    let le = own w.0 w.1 in
    let room = w.2 in
    omega (arith, le, room)
fits_own v b f frames base registers (inr w) few own largest =
    let low = w.0 in
    let high = w.1 in
    let more = one_more frames b.largest in
    let most = at_most frames b.frames b.largest few in
    omega (arith, low, high, more, most, largest)

-- so has the frame of a function that is called
pub fits_call : (v : Checked) (b : Bounds) (f g frames base registers : ℕ) → Fits v b f frames base → Covers v.stacks f g (registers + 2) → registers + 2 ≤ b.largest → Fits v b g (frames + 1) (base + registers + 2)
fits_call v b f g frames base registers (inl w) covers largest =
    let t = covers w.0 w.1 in
    let room = w.2 in
    let le = t.2 in
    inl (t.0, t.1, omega (arith, room, le))
fits_call v b f g frames base registers (inr w) covers largest =
    let low = w.0 in
    let more = one_more frames b.largest in
    inr (omega (arith, low, more, largest), w.1)

-- and one that takes the place of the running one
pub fits_tail : (v : Checked) (b : Bounds) (f g frames base : ℕ) → Fits v b f frames base → Covers v.stacks f g 0 → Fits v b g frames base
fits_tail v b f g frames base (inl w) covers =
    let t = covers w.0 w.1 in
    let room = w.2 in
    let le = t.2 in
    inl (t.0, t.1, omega (arith, room, le))
fits_tail v b f g frames base (inr w) covers = inr w

-- two words more than the running frame are there
pub two_more : (v : Checked) (b : Bounds) (n : ℕ) (c : Cursor) → IsPlaced v b n c → IsRoomy b n c → c.base + c.registers + 2 ≤ n
two_more v b n c p r = elim (cases_lt n b.words) [
  | inl l ↦ (let z = r l in omega (arith, z))
  | inr l ↦ (let z = fits_own v b c.function c.frames c.base c.registers p.fits p.frames p.own p.largest in omega (arith, z, l))
]

-- so are those of a frame that takes the place of the running one
pub room_tail : (v : Checked) (b : Bounds) (n : ℕ) (c : Cursor) (g registers : ℕ) → c.frames ≤ b.frames → IsRoomy b n c → Fits v b g c.frames c.base → ((s : Stack) → slice_get v.stacks g ≡ Some (Some s) → registers + 2 ≤ s.words) → registers + 2 ≤ b.largest → c.base + registers ≤ n
room_tail v b n c g registers few r fits own largest = elim (cases_lt n b.words) [
  | inl l ↦ (let z = r l in omega (arith, z, largest))
  | inr l ↦ (let z = fits_own v b g c.frames c.base registers fits few own largest in omega (arith, z, l))
]
