-- The gauge's lines, one after another, and that they report the states of a run.
use Rattle.std.proofs.Common.{◌≡◌, ◌∙◌, ◌≤◌, ◌+◌, ◌-◌, ◌++◌, ℕ, zero, suc, List, [], Option, refl, sym, ap, ap₂, append_assoc, append-nil, arith}
use Rattle.std.specs.Prelude.{Result, Ok, Err, OnOk}
use Rattle.fip_language.specs.Gauge.{Seen, lowest, highest, highest_frames, highest_words}
use Rattle.fip_base.specs.declared.plain.Stack.{Stack}
use Rattle.command_outcome.specs.Texts.{cells_text}
use Rattle.fip_machine.specs.declared.gauge.Gauge.{Gauge}
use Rattle.fip_machine.specs.GaugeView.{Reports}
use Rattle.command_run.specs.GaugeText.{size_line, size_lines, stack_lines, gauge_by_states, highest_stack}
use Rattle.command_run.specs.Starting.{low_of, high_of, stack_of, gauge_lines}

-- ---- a line after another

line_on : (k low high : ℕ) (rest : List ℕ) → size_line k low high rest ≡ size_line k low high [] ++ rest
line_on k low zero rest = refl
line_on k low (suc high) rest = ap (λ xs. xs ++ rest) (sym (append-nil (cells_text k low (suc high))))

-- the size of number m of the loop, from 0, where as many sizes are left
size_at : (m n : ℕ) → m + suc n ≡ 16 → 16 - n ≡ m + 1
size_at m n e = omega (arith, e)

pub line_put : (low high : ℕ → ℕ) (m n : ℕ) (old new whole rest : List ℕ) → m + suc n ≡ 16 → new ≡ old ++ size_line (m + 1) (low (m + 1)) (high (m + 1)) [] → old ++ size_lines low high (suc n) rest ≡ whole → new ++ size_lines low high n rest ≡ whole
line_put low high m n old new whole rest e put h =
    let k = size_at m n e in
    let tail = size_lines low high n rest in
    let same : size_line (16 - n) (low (16 - n)) (high (16 - n)) tail ≡ size_line (m + 1) (low (m + 1)) (high (m + 1)) tail = ap (λ k. size_line k (low k) (high k) tail) k in
    ap (λ xs. xs ++ tail) put
    ∙ append_assoc old (size_line (m + 1) (low (m + 1)) (high (m + 1)) []) tail
    ∙ ap (λ xs. old ++ xs) (sym (line_on (m + 1) (low (m + 1)) (high (m + 1)) tail) ∙ sym same)
    ∙ h

pub lines_put : {E : Type 0} (r : Result (Unit {0}) E) (new old whole stack : List ℕ) → OnOk r (new ≡ old ++ stack) → old ++ stack ≡ whole → OnOk r (new ≡ whole)
lines_put (Ok u) new old whole stack h e = h ∙ e
lines_put (Err x) new old whole stack h e = tt

-- ---- what it reports

sizes_same : (low high low' high' : ℕ → ℕ) (n : ℕ) (rest : List ℕ) → n ≤ 16 → ((k : ℕ) → 1 ≤ k → k ≤ 16 → low k ≡ low' k) → ((k : ℕ) → 1 ≤ k → k ≤ 16 → high k ≡ high' k) → size_lines low high n rest ≡ size_lines low' high' n rest
sizes_same low high low' high' zero rest le a b = refl
sizes_same low high low' high' (suc n) rest le a b =
    let one : 1 ≤ 16 - n = omega (arith, le) in
    let few : 16 - n ≤ 16 = omega arith in
    let tails = sizes_same low high low' high' n rest (omega (arith, le)) a b in
    ap₂ (λ l h. size_line (16 - n) l h (size_lines low high n rest)) (a (16 - n) one few) (b (16 - n) one few)
    ∙ ap (λ xs. size_line (16 - n) (low' (16 - n)) (high' (16 - n)) xs) tails

pub gauge_reports : (g : Gauge) (ss : List Seen) (bound : Option Stack) → Reports g ss → gauge_lines g bound ≡ gauge_by_states ss bound
gauge_reports g ss bound t =
    let made : (f w : ℕ) → Stack = λ f w. record { frames = f; words = w } in
    let stack : stack_of g ≡ highest_stack ss = ap₂ made t.frames t.words in
    sizes_same (low_of g) (high_of g) (λ k. lowest k ss) (λ k. highest k ss) 16 (stack_lines (stack_of g) bound) (omega arith) t.lowest t.highest
    ∙ ap (λ s. size_lines (λ k. lowest k ss) (λ k. highest k ss) 16 (stack_lines s bound)) stack

-- gauges of states that report the same, number by number
pub gauge_same : (ss us : List Seen) (bound : Option Stack) → ((k : ℕ) → 1 ≤ k → k ≤ 16 → lowest k ss ≡ lowest k us) → ((k : ℕ) → 1 ≤ k → k ≤ 16 → highest k ss ≡ highest k us) → highest_frames ss ≡ highest_frames us → highest_words ss ≡ highest_words us → gauge_by_states ss bound ≡ gauge_by_states us bound
gauge_same ss us bound lows highs frames words =
    let made : (f w : ℕ) → Stack = λ f w. record { frames = f; words = w } in
    let stack : highest_stack ss ≡ highest_stack us = ap₂ made frames words in
    sizes_same (λ k. lowest k ss) (λ k. highest k ss) (λ k. lowest k us) (λ k. highest k us) 16 (stack_lines (highest_stack ss) bound) (omega arith) lows highs
    ∙ ap (λ s. size_lines (λ k. lowest k us) (λ k. highest k us) 16 (stack_lines s bound)) stack
