-- The text of the arguments, item by item.
use Rattle.std.proofs.Common.{◌≡◌, ◌∙◌, ◌-◌, ◌+◌, ◌<◌, ℕ, suc, List, ◌++◌, sym, ap, append_assoc, arith}
use Rattle.std.specs.Prelude.{codes}
use Rattle.std.specs.Fmt.{decimal}
use Rattle.task_semantics.specs.Draws.{next_number, numbers}
use Rattle.command_library.specs.MadeTree.{closing, keys_line, pads_line}

-- one ) more
pub closing_more : (text more : List ℕ) (count i : ℕ) → i < count → more ≡ text ++ codes ")" → more ++ closing (count - (i + 1)) ≡ text ++ closing (count - i)
closing_more text more count i less is =
    let one : count - i ≡ suc (count - (i + 1)) = omega (arith, less) in
    ap (λ xs. xs ++ closing (count - (i + 1))) is ∙ append_assoc text (codes ")") (closing (count - (i + 1))) ∙ ap (λ n. text ++ closing n) (sym one)

-- one pad more
pub pad_more : (text more : List ℕ) (count i : ℕ) → i < count → more ≡ text ++ codes "Cons(Pad4(0, 0, 0, 0), " → more ++ pads_line (count - (i + 1)) (i + 1) ≡ text ++ pads_line (count - i) i
pad_more text more count i less is =
    let one : count - i ≡ suc (count - (i + 1)) = omega (arith, less) in
    let next : i + 1 ≡ suc i = omega arith in
    ap (λ j. more ++ pads_line (count - (i + 1)) j) next ∙ ap (λ xs. xs ++ pads_line (count - (i + 1)) (suc i)) is ∙ append_assoc text (codes "Cons(Pad4(0, 0, 0, 0), ") (pads_line (count - (i + 1)) (suc i)) ∙ ap (λ n. text ++ pads_line n i) (sym one)

-- one key more
pub key_more : (text more : List ℕ) (count i key next : ℕ) → i < count → next ≡ next_number key → more ≡ text ++ (codes "Cons(" ++ (decimal next ++ codes ", ")) → more ++ keys_line (numbers (count - (i + 1)) next) (i + 1) ≡ text ++ keys_line (numbers (count - i) key) i
key_more text more count i key next less is put =
    let one : count - i ≡ suc (count - (i + 1)) = omega (arith, less) in
    let rest : List ℕ = keys_line (numbers (count - (i + 1)) next) (suc i) in
    let following : i + 1 ≡ suc i = omega arith in
    ap (λ j. more ++ keys_line (numbers (count - (i + 1)) next) j) following
    ∙ ap (λ xs. xs ++ rest) put
    ∙ append_assoc text (codes "Cons(" ++ (decimal next ++ codes ", ")) rest
    ∙ ap (λ xs. text ++ xs) (append_assoc (codes "Cons(") (decimal next ++ codes ", ") rest ∙ ap (λ xs. codes "Cons(" ++ xs) (append_assoc (decimal next) (codes ", ") rest))
    ∙ ap (λ (k : ℕ). text ++ (codes "Cons(" ++ (decimal k ++ (codes ", " ++ keys_line (numbers (count - (i + 1)) k) (suc i))))) is
    ∙ ap (λ n. text ++ keys_line (numbers n key) i) (sym one)
