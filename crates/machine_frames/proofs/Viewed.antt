-- Frames in one list of words, read and written: what that is for the frames of a run.
use Rattle.std.proofs.Common.{◌≡◌, ℕ, zero, suc, ◌+◌, ◌-◌, ◌<◌, ◌≤◌, List, [], ◌∷◌, None, Some, length, drop, take, get_or, replicate, refl, sym, ap, inl, inr, ◌∙◌, arith, length-append}
use Rattle.std.specs.Prelude.{slice_get, slice_set, nat_lt, true, option_and_then, if◌then◌else◌}
use Rattle.std.proofs.lemmas.Bool.{cases_lt}
use Rattle.std.proofs.lemmas.Bool.Decides.{nat_tests}
use Rattle.std.proofs.lemmas.List.{ext_get_or, get_or-take, get_or-drop, get_or-set_same, get_or-set_other, get_or-replicate, get_or-append_right, get_or_append_left, length-take-le, length-drop, length-set, length-replicate, drop-set-add, take-take}
use Rattle.std.proofs.lemmas.Option.{slice_get-get_or}
use Rattle.machine_semantics.specs.cell_code.Runnable.{AreBelow}
use Rattle.machine_semantics.specs.cell_code.declared.code.Function.{Function}
use Rattle.machine_semantics.specs.Rows.{read_all, write, write_all, and_word}
use Rattle.machine_semantics.specs.Steps.{first_words}
use Rattle.machine_frames.specs.Keeping.{Keeps, Clears}
use Rattle.machine_frames.specs.Words.{words_from, put_words, laid_at}
use Rattle.machine_frames.specs.View.{registers_of, frame_at, top_function, top_call, top_base, top_frame, waiting_in}
use Rattle.fip_language.proofs.Facts.{nat_lt_of as lt_true}

pub kept : (n : ℕ) (ws us : List ℕ) → n ≤ length ws → n ≤ length us → Keeps n ws us → take n us ≡ take n ws
kept n ws us h l k =
    let a = length-take-le n us l in
    let b = length-take-le n ws h in
    ext_get_or 0 (take n us) (take n ws) (a ∙ sym b) (λ i m.
    let t : i < n = omega (arith, m, a) in
    get_or-take n us i 0 t ∙ k i t ∙ sym (get_or-take n ws i 0 t))

pub frame_long : (base n : ℕ) (ws : List ℕ) → base + n ≤ length ws → length (frame_at base n ws) ≡ n
frame_long base n ws h = let d = length-drop base ws in length-take-le n (drop base ws) (omega (arith, d, h))

pub frame_word : (base n r : ℕ) (ws : List ℕ) → r < n → get_or (frame_at base n ws) r 0 ≡ get_or ws (base + r) 0
frame_word base n r ws h = get_or-take n (drop base ws) r 0 h ∙ get_or-drop base ws r 0

pub frame_get : (base n r : ℕ) (ws : List ℕ) → r < n → base + n ≤ length ws → slice_get (frame_at base n ws) r ≡ Some (get_or ws (base + r) 0)
frame_get base n r ws h l =
    let long = frame_long base n ws l in
    slice_get-get_or (frame_at base n ws) r 0 (omega (arith, h, long)) ∙ ap Some (frame_word base n r ws h)

take_set : (n r w : ℕ) (ws : List ℕ) → take n (slice_set ws r w) ≡ slice_set (take n ws) r w
take_set zero r w [] = refl
take_set zero zero w (x ∷ ws) = refl
take_set zero (suc r) w (x ∷ ws) = refl
take_set (suc n) r w [] = refl
take_set (suc n) zero w (x ∷ ws) = refl
take_set (suc n) (suc r) w (x ∷ ws) = ap (λ us. x ∷ us) (take_set n r w ws)

pub frame_set : (base n r w : ℕ) (ws : List ℕ) → frame_at base n (slice_set ws (base + r) w) ≡ slice_set (frame_at base n ws) r w
frame_set base n r w ws = ap (take n) (drop-set-add base ws r w) ∙ take_set n r w (drop base ws)

pub frame_kept : (base n : ℕ) (ws us : List ℕ) → base + n ≤ length ws → base + n ≤ length us → Keeps (base + n) ws us → frame_at base n us ≡ frame_at base n ws
frame_kept base n ws us h l k =
    let a = frame_long base n us l in
    let b = frame_long base n ws h in
    ext_get_or 0 (frame_at base n us) (frame_at base n ws) (a ∙ sym b) (λ i m.
    let t : i < n = omega (arith, m, a) in
    frame_word base n i us t ∙ k (base + i) (omega (arith, t)) ∙ sym (frame_word base n i ws t))

pub write_one : (ws : List ℕ) (d v : ℕ) → d < length ws → write ws d v ≡ Some (slice_set ws d v)
write_one ws d v h = ap (λ b. if b then Some (slice_set ws d v) else None) (lt_true d (length ws) h)

pub rest_below : (n r : ℕ) (rs : List ℕ) → AreBelow n (r ∷ rs) → AreBelow n rs
rest_below n r rs a k d h = a (suc k) d (omega (arith, h))

pub frame_read : (base n : ℕ) (ws rs : List ℕ) → AreBelow n rs → base + n ≤ length ws → read_all (frame_at base n ws) rs ≡ Some (words_from base ws rs)
frame_read base n ws [] a h = refl
frame_read base n ws (r ∷ rs) a h =
    ap (λ o. option_and_then (λ w. and_word w (read_all (frame_at base n ws) rs)) o) (frame_get base n r ws (a 0 0 (omega arith)) h)
    ∙ ap (and_word (get_or ws (base + r) 0)) (frame_read base n ws rs (rest_below n r rs a) h)

pub frame_write : (base n : ℕ) (ws ds vs : List ℕ) → AreBelow n ds → base + n ≤ length ws → length ds ≡ length vs → write_all (frame_at base n ws) ds vs ≡ Some (frame_at base n (put_words base ws ds vs))
frame_write base n ws [] [] a h e = refl
frame_write base n ws [] (v ∷ vs) a h e = absurd (omega (arith, e))
frame_write base n ws (d ∷ ds) [] a h e = absurd (omega (arith, e))
frame_write base n ws (d ∷ ds) (v ∷ vs) a h e =
    let long = frame_long base n ws h in
    let set = length-set ws (base + d) v in
    ap (λ o. option_and_then (λ us. write_all us ds vs) o) (write_one (frame_at base n ws) d v (let l = a 0 0 (omega arith) in omega (arith, l, long)))
    ∙ ap (λ us. write_all us ds vs) (sym (frame_set base n d v ws))
    ∙ frame_write base n (slice_set ws (base + d) v) ds vs (rest_below n d ds a) (omega (arith, h, set)) (omega (arith, e))

pub put_long : (base : ℕ) (ws ds vs : List ℕ) → length (put_words base ws ds vs) ≡ length ws
put_long base ws [] vs = refl
put_long base ws (d ∷ ds) [] = refl
put_long base ws (d ∷ ds) (v ∷ vs) = put_long base (slice_set ws (base + d) v) ds vs ∙ length-set ws (base + d) v

pub laid_long : (n : ℕ) (ws vs : List ℕ) → length (laid_at n ws vs) ≡ length ws
laid_long n ws [] = refl
laid_long n ws (v ∷ vs) = laid_long (suc n) (slice_set ws n v) vs ∙ length-set ws n v

laid_below : (n i : ℕ) (ws vs : List ℕ) → i < n → get_or (laid_at n ws vs) i 0 ≡ get_or ws i 0
laid_below n i ws [] h = refl
laid_below n i ws (v ∷ vs) h = laid_below (suc n) i (slice_set ws n v) vs (omega (arith, h)) ∙ get_or-set_other ws n i v 0 (λ e. omega (arith, h, e))

laid_word : (n i : ℕ) (ws vs : List ℕ) → i < length vs → n + length vs ≤ length ws → get_or (laid_at n ws vs) (n + i) 0 ≡ get_or vs i 0
laid_word n i ws [] h l = absurd (omega (arith, h))
laid_word n zero ws (v ∷ vs) h l =
    let z : n + 0 ≡ n = omega arith in
    ap (λ k. get_or (laid_at (suc n) (slice_set ws n v) vs) k 0) z
    ∙ laid_below (suc n) n (slice_set ws n v) vs (omega arith)
    ∙ get_or-set_same ws n v 0 (omega (arith, l))
laid_word n (suc i) ws (v ∷ vs) h l =
    let z : n + suc i ≡ suc n + i = omega arith in
    let set = length-set ws n v in
    ap (λ k. get_or (laid_at (suc n) (slice_set ws n v) vs) k 0) z
    ∙ laid_word (suc n) i (slice_set ws n v) vs (omega (arith, h)) (omega (arith, l, set))

pub first_frame_is : (base n : ℕ) (ws us xs vs : List ℕ) → us ≡ laid_at base ws vs → Clears (base + length vs) (base + n) us xs → length vs ≤ n → base + n ≤ length ws → frame_at base n xs ≡ first_words n vs
first_frame_is base n ws us xs vs e c few room =
    let same = laid_long base ws vs in
    let total : length xs ≡ length ws = c.long ∙ ap length e ∙ same in
    let long = frame_long base n xs (omega (arith, room, total)) in
    let whole = length-append vs (replicate (n - length vs) 0) in
    let zeros = length-replicate {A = ℕ} (n - length vs) 0 in
    ext_get_or 0 (frame_at base n xs) (first_words n vs) (let all : length (frame_at base n xs) ≡ length (first_words n vs) = omega (arith, long, whole, zeros, few) in all) (λ i m.
    let t : i < n = omega (arith, m, long) in
    elim (cases_lt i (length vs)) [
      | inl l ↦ frame_word base n i xs t
          ∙ c.keeps (base + i) (omega (arith, l))
          ∙ ap (λ (ys : List ℕ). get_or ys (base + i) 0) e
          ∙ laid_word base i ws vs l (omega (arith, few, room))
          ∙ sym (get_or_append_left vs (replicate (n - length vs) 0) 0 i l)
      | inr l ↦ frame_word base n i xs t
          ∙ c.zero (base + i) (omega (arith, l)) (omega (arith, t))
          ∙ sym (get_or-append_right vs (replicate (n - length vs) 0) (length vs) i 0 refl l ∙ get_or-replicate (n - length vs) (i - length vs) 0 0 (omega (arith, t, l)))
    ])

-- the frame directly below a number, and those below it
pub waiting_at : (fs : List Function) (k base n top : ℕ) (ws : List ℕ) → top ≡ base + n + 2 → top ≤ length ws → registers_of fs (get_or ws (top - 2) 0) ≡ n → waiting_in fs (suc k) (take top ws) ≡ record { function = get_or ws (top - 2) 0; at = get_or ws (top - 1) 0; words = frame_at base n ws } ∷ waiting_in fs k (take base ws)
waiting_at fs k base n top ws e h r =
    let long = length-take-le top ws h in
    let below = take top ws in
    let function : top_function below ≡ get_or ws (top - 2) 0 = ap (λ m. get_or below (m - 2) 0) long ∙ get_or-take top ws (top - 2) 0 (omega (arith, e)) in
    let call : top_call below ≡ get_or ws (top - 1) 0 = ap (λ m. get_or below (m - 1) 0) long ∙ get_or-take top ws (top - 1) 0 (omega (arith, e)) in
    let registers : registers_of fs (top_function below) ≡ n = ap (registers_of fs) function ∙ r in
    let start : top_base n below ≡ base = omega (arith, long, e) in
    let words : frame_at base n below ≡ frame_at base n ws = frame_kept base n ws below (omega (arith, h, e)) (omega (arith, long, e)) (λ i l. get_or-take top ws i 0 (omega (arith, l, e))) in
    let rest : take base below ≡ take base ws = take-take base top ws (omega (arith, e)) in
    ap (λ m. top_frame m below ∷ waiting_in fs k (take (top_base m below) below)) registers
    ∙ ap (λ m. record { function = top_function below; at = top_call below; words = frame_at m n below } ∷ waiting_in fs k (take m below)) start
    ∙ (λ i. record { function = function i; at = call i; words = words i } ∷ waiting_in fs k (rest i))
