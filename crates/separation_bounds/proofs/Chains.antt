-- The frames of a fip run: each that waits is of a fip function, and its number covers that of the function above it and
-- its own.
use Rattle.std.proofs.Common.{◌≡◌, ℕ, ◌+◌, ◌≤◌, List, [], ◌∷◌, length, map, Some, sym, ap, ◌∙◌, arith}
use Rattle.std.specs.Prelude.{sum, fold}
use Rattle.std.proofs.lemmas.Option.{same_Some}
use Rattle.separation.specs.machine_semantics.Cells.{Store}
use Rattle.separation.specs.machine_semantics.States.{Frame, words_of_frame}
use Rattle.separation.specs.fip_language.Store.{Placed}
use Rattle.separation.specs.cell_code.Plain.{PlainFunction, PlainCode, function_at}
use Rattle.separation.specs.code_rules.Codes.{is_fip}
use Rattle.separation.specs.code_rules.Limits.{frame_words}
use Rattle.separation.specs.code_rules.StackNumbers.{IsFip, words_of, words_at}
use Rattle.separation.proofs.separation_kinds.Basics.{chosen}
use Rattle.separation.specs.Alive.{Frozen, AreAllWaiting}

abbrev pub AreCovered : PlainCode → (ℕ → ℕ) → (ℕ → ℕ) → ℕ → ℕ → List Frame → Type 0
AreCovered c own number most above [] = number above ≤ most
AreCovered c own number most above (w ∷ ws) =
    IsFip c w.function × (number above + own w.function ≤ number w.function) × AreCovered c own number most w.function ws

pub cover_less : (c : PlainCode) (own number : ℕ → ℕ) (most a b : ℕ) (ws : List Frame) → number b ≤ number a → AreCovered c own number most a ws → AreCovered c own number most b ws
cover_less c own number most a b [] h d = omega arith
cover_less c own number most a b (w ∷ ws) h d = (d.0, (let x = d.1 in omega arith), d.2)

pub covered_frames : (c : PlainCode) (own number : ℕ → ℕ) (most above : ℕ) (ws : List Frame) → ((f : ℕ) → own f ≡ 1) → AreCovered c own number most above ws → length ws + number above ≤ most
covered_frames c own number most above [] one d = omega arith
covered_frames c own number most above (w ∷ ws) one d = let a = covered_frames c own number most w.function ws one d.2 in let b = d.1 in let e = one w.function in omega arith

pub fip_words : (c : PlainCode) (n : ℕ) (f : PlainFunction) → function_at c n ≡ Some f → IsFip c n → words_at c n ≡ f.registers + frame_words
fip_words c n f is fip =
    let same : f ≡ fip.0 = same_Some f fip.0 (sym is ∙ fip.1) in
    ap words_of is ∙ chosen (is_fip f.kind) (f.registers + frame_words) 0 (ap (λ (g : PlainFunction). is_fip g.kind) same ∙ fip.2)

fold_from : (a : ℕ) (xs : List ℕ) → fold (λ a x. a + x) a xs ≡ a + fold (λ a x. a + x) 0 xs
fold_from a [] = omega arith
fold_from a (x ∷ xs) = let p = fold_from (a + x) xs in let q = fold_from (0 + x) xs in omega arith

pub sum_first : (x : ℕ) (xs : List ℕ) → sum (x ∷ xs) ≡ x + sum xs
sum_first x xs = let p = fold_from (0 + x) xs in let z : fold (λ a x. a + x) (0 + x) xs ≡ x + fold (λ a x. a + x) 0 xs = omega arith in z

pub covered_words : (c : PlainCode) (s : Store) (lent : List Placed) (types : List ℕ) (number : ℕ → ℕ) (most above : ℕ) (ws : List Frame) (gs : List Frozen) → AreAllWaiting c s lent types above ws gs → AreCovered c (words_at c) number most above ws → sum (map words_of_frame ws) + number above ≤ most
covered_words c s lent types number most above [] [] a d = omega arith
covered_words c s lent types number most above [] (g ∷ gs) a d = absurd a
covered_words c s lent types number most above (w ∷ ws) [] a d = absurd a
covered_words c s lent types number most above (w ∷ ws) (g ∷ gs) a d =
    let rest = covered_words c s lent types number most w.function ws gs a.1 d.2 in
    let here = d.1 in
    let i = a.0 in
    let long : length w.words ≡ i.function.registers = ap length i.words ∙ i.long ∙ i.wide in
    let own = fip_words c w.function i.function i.is d.0 in
    let first = sum_first (words_of_frame w) (map words_of_frame ws) in
    omega arith
