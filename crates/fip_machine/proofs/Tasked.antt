-- The state of a task stays while its words reach further.
use Rattle.std.proofs.Common.{◌≡◌, ℕ, ◌+◌, ◌-◌, ◌<◌, ◌≤◌, List, ◌++◌, length, take, get_or, replicate, inl, inr, refl, ap, sym, ◌∙◌, arith, length-append}
use Rattle.std.proofs.lemmas.Bool.{cases_lt}
use Rattle.std.proofs.lemmas.List.{ext_get_or, get_or-take, get_or-replicate, get_or_append_left, get_or-append_right, length-take-le, length-replicate, take_all}
use Rattle.machine_step.specs.code_verify.Checked.{Checked}
use Rattle.machine_cells.specs.machine_semantics.Cells.{Store}
use Rattle.machine_cells.specs.machine_semantics.States.{Typed}
use Rattle.machine_step.specs.machine_frames.Keeping.{Keeps}
use Rattle.machine_step.proofs.machine_frames.Viewed.{frame_kept}
use Rattle.machine_step.specs.declared.cursor.Bounds.{Bounds}
use Rattle.machine_step.specs.declared.cursor.Cursor.{Cursor}
use Rattle.machine_step.specs.View.{words_of, state_of}
use Rattle.machine_step.proofs.Nexts.{frame_moved}
use Rattle.machine_step.proofs.Stacked.{keeps_less}

pub room_same : (v : Checked) (b : Bounds) (lent : List Typed) (s : Store) (ws us : List ℕ) (c : Cursor) → c.base + c.registers ≤ length ws → length ws ≤ length us → Keeps (length ws) ws us → state_of v b lent s us c ≡ state_of v b lent s ws c
room_same v b lent s ws us c room more keeps =
    let frame = frame_kept c.base c.registers ws us room (omega (arith, room, more)) (keeps_less (length ws) (c.base + c.registers) ws us room keeps) in
    frame_moved v b lent s ws us c (words_of ws c) (omega (arith, room)) (omega (arith, room, more)) (keeps_less (length ws) c.base ws us (omega (arith, room)) keeps) frame

-- the first registers of words that were filled up with 0
pub first_taken : (n m : ℕ) (ws xs : List ℕ) → length ws ≤ n → n ≤ m → xs ≡ ws ++ replicate (m - length ws) 0 → take n xs ≡ ws ++ replicate (n - length ws) 0
first_taken n m ws xs few more e =
    let zeros = length-replicate {A = ℕ} (m - length ws) 0 in
    let fewer = length-replicate {A = ℕ} (n - length ws) 0 in
    let total = ap length e ∙ length-append ws (replicate (m - length ws) 0) in
    let whole = length-append ws (replicate (n - length ws) 0) in
    let long = length-take-le n xs (omega (arith, total, zeros, more, few)) in
    ext_get_or 0 (take n xs) (ws ++ replicate (n - length ws) 0) (let same : length (take n xs) ≡ length (ws ++ replicate (n - length ws) 0) = omega (arith, long, whole, fewer, few) in same) (λ i m'.
    let t : i < n = omega (arith, m', long) in
    get_or-take n xs i 0 t ∙ ap (λ (ys : List ℕ). get_or ys i 0) e ∙ elim (cases_lt i (length ws)) [
      | inl l ↦ (get_or_append_left ws (replicate (m - length ws) 0) 0 i l ∙ sym (get_or_append_left ws (replicate (n - length ws) 0) 0 i l))
      | inr l ↦ (get_or-append_right ws (replicate (m - length ws) 0) (length ws) i 0 refl l ∙ get_or-replicate (m - length ws) (i - length ws) 0 0 (omega (arith, t, l, more)) ∙ sym (get_or-append_right ws (replicate (n - length ws) 0) (length ws) i 0 refl l ∙ get_or-replicate (n - length ws) (i - length ws) 0 0 (omega (arith, t, l))))
    ])

pub filled : (m l : ℕ) (ws ys xs : List ℕ) → xs ≡ take m ys ++ replicate (m - l) 0 → ys ≡ ws → l ≡ length ws → length ws ≤ m → xs ≡ ws ++ replicate (m - length ws) 0
filled m l ws ys xs e same long few = e ∙ (λ i. take m (same i) ++ replicate (m - long i) 0) ∙ ap (λ us. us ++ replicate (m - length ws) 0) (take_all m ws few)
