-- What is written, piece by piece.
use Rattle.std.proofs.Common.{◌≡◌, ◌∙◌, ℕ, zero, suc, ◌+◌, ◌/◌, ◌%◌, ◌^◌, ◌<◌, List, [], ◌∷◌, ◌++◌, map, drop, get_or, length, refl, sym, ap, arith}
use Rattle.std.specs.Int.{bytes_high_first}
use Rattle.std.proofs.lemmas.List.{append_assoc, append-nil}
use Rattle.cell_trace.specs.declared.trace.LoadedCell.{LoadedCell}
use Rattle.cell_trace.specs.declared.trace.Event.{Event}
use Rattle.run_loading.specs.TraceText.{big_endian, words_text, cell_text, cells_text, change_text, events_text}
use Rattle.trace_files.specs.Plain.{plain_cell, plain_event}

-- one piece after another
pub then_put : (old mid new p q : List ℕ) → mid ≡ old ++ p → new ≡ mid ++ q → new ≡ old ++ (p ++ q)
then_put old mid new p q e f = f ∙ ap (λ b. b ++ q) e ∙ append_assoc old p q

pub four_bytes : (n : ℕ) → bytes_high_first 4 n ≡ big_endian 4 n
unfolding big_endian
four_bytes n =
    let a : n / 16777216 % 256 ≡ n / 256 / 256 / 256 % 256 = omega arith in
    let b : n / 65536 % 256 ≡ n / 256 / 256 % 256 = omega arith in
    λ i. a i ∷ b i ∷ (n / 256 % 256) ∷ (n % 256) ∷ []

pub eight_bytes : (n : ℕ) → bytes_high_first 8 n ≡ big_endian 8 n
unfolding big_endian
eight_bytes n =
    let a : n / 72057594037927936 % 256 ≡ n / 256 / 256 / 256 / 256 / 256 / 256 / 256 % 256 = omega arith in
    let b : n / 281474976710656 % 256 ≡ n / 256 / 256 / 256 / 256 / 256 / 256 % 256 = omega arith in
    let c : n / 1099511627776 % 256 ≡ n / 256 / 256 / 256 / 256 / 256 % 256 = omega arith in
    let d : n / 4294967296 % 256 ≡ n / 256 / 256 / 256 / 256 % 256 = omega arith in
    let e : n / 16777216 % 256 ≡ n / 256 / 256 / 256 % 256 = omega arith in
    let f : n / 65536 % 256 ≡ n / 256 / 256 % 256 = omega arith in
    λ i. a i ∷ b i ∷ c i ∷ d i ∷ e i ∷ f i ∷ (n / 256 % 256) ∷ (n % 256) ∷ []

pub four_count : (n : ℕ) → big_endian 4 (n % 4294967296) ≡ big_endian 4 n
unfolding big_endian
four_count n =
    let a : n % 4294967296 / 256 / 256 / 256 % 256 ≡ n / 256 / 256 / 256 % 256 = omega arith in
    let b : n % 4294967296 / 256 / 256 % 256 ≡ n / 256 / 256 % 256 = omega arith in
    let c : n % 4294967296 / 256 % 256 ≡ n / 256 % 256 = omega arith in
    let d : n % 4294967296 % 256 ≡ n % 256 = omega arith in
    λ i. a i ∷ b i ∷ c i ∷ d i ∷ []

pub one_byte : (n : ℕ) → (n % 256) ∷ [] ≡ big_endian 1 n
unfolding big_endian
one_byte n = refl

-- one word, cell or event more of those that are left

pub words_left : (ws : List ℕ) (i : ℕ) → i < length ws → words_text (drop i ws) ≡ big_endian 8 (get_or ws i 0) ++ words_text (drop (i + 1) ws)
words_left [] i l = absurd (omega (arith, l))
words_left (w ∷ ws) zero l = refl
words_left (w ∷ ws) (suc i) l = let on : suc (i + 1) ≡ suc i + 1 = omega arith in words_left ws i (omega (arith, l)) ∙ ap (λ k. big_endian 8 (get_or ws i 0) ++ words_text (drop k (w ∷ ws))) on

pub cells_left : (cs : List LoadedCell) (i : ℕ) (c : LoadedCell) → i < length cs → get_or cs i c ≡ c → cells_text (map plain_cell (drop i cs)) ≡ cell_text (plain_cell c) ++ cells_text (map plain_cell (drop (i + 1) cs))
cells_left [] i c l e = absurd (omega (arith, l))
cells_left (d ∷ cs) zero c l e = ap (λ x. cell_text (plain_cell x) ++ cells_text (map plain_cell cs)) e
cells_left (d ∷ cs) (suc i) c l e = let on : suc (i + 1) ≡ suc i + 1 = omega arith in cells_left cs i c (omega (arith, l)) e ∙ ap (λ k. cell_text (plain_cell c) ++ cells_text (map plain_cell (drop k (d ∷ cs)))) on

pub events_left : (es : List Event) (i : ℕ) (e : Event) → i < length es → get_or es i e ≡ e → events_text (map plain_event (drop i es)) ≡ events_text (plain_event e ∷ []) ++ events_text (map plain_event (drop (i + 1) es))
events_left [] i e l is = absurd (omega (arith, l))
events_left (d ∷ es) zero e l is = ap (λ x. events_text (plain_event x ∷ map plain_event es)) is ∙ ap (λ ts. ts ++ events_text (map plain_event es)) (sym (append-nil (big_endian 8 (plain_event e).step ++ change_text (plain_event e).change)))
events_left (d ∷ es) (suc i) e l is = let on : suc (i + 1) ≡ suc i + 1 = omega arith in events_left es i e (omega (arith, l)) is ∙ ap (λ k. events_text (plain_event e ∷ []) ++ events_text (map plain_event (drop k (d ∷ es)))) on
