-- The input of `gen` is the text of its arguments: the keys, as many spare pads, and no node. It has more bytes than these
-- have words, and 23 bytes for each pad, so that one that is run on has few keys.
use Rattle.std.proofs.Common.{◌≡◌, ◌∙◌, ◌+◌, ◌*◌, ◌<◌, ◌≤◌, ◌^◌, ℕ, zero, suc, ℤ, pos, FitsSigned, List, [], ◌∷◌, ◌++◌, map, length, refl, sym, ap, subst, arith, append_assoc, length-append}
use Rattle.std.specs.Prelude.{codes}
use Rattle.std.specs.Fmt.{decimal}
use Rattle.std.specs.Int.{w64}
use Rattle.std.proofs.lemmas.Fmt.{decimal_digit}
use Rattle.command_library.specs.fip_language.Every.{Every}
use Rattle.command_library.specs.fip_language.PrintedText.{printed, printed_lines}
use Rattle.command_library.specs.fip_language.Table.{HasType, HaveTypes}
use Rattle.command_library.specs.fip_language.Values.{Values, words_needed, words_needed_by_all}
use Rattle.library_correctness.specs.evaluation_steps.Gives.{three}
use Rattle.library_correctness.specs.Lists.{list_value}
use Rattle.library_correctness.specs.RedBlack.{Leaf, Pad, Pad4, pads_value, tree_value}
use Rattle.library_correctness.specs.KeySets.{IsSpare}
use Rattle.library_correctness.specs.library_programs.RedBlackProgram.{rbtree_types}
use Rattle.command_library.specs.task_semantics.Draws.{next_number, numbers}
use Rattle.command_library.specs.MadeTree.{closing, keys_line, pads_line, gen_input}
use Rattle.command_answers.specs.Drawn.{drawn_keys}

abbrev pub spares : ℕ → List Pad
spares zero = []
spares (suc n) = Pad4 (pos 0) (pos 0) (pos 0) (pos 0) ∷ spares n

pub spares_are : (n : ℕ) → Every IsSpare (spares n)
spares_are zero = tt
spares_are (suc n) = (tt, spares_are n)

pub spares_length : (n : ℕ) → length (spares n) ≡ n
spares_length zero = refl
spares_length (suc n) = omega (arith, spares_length n)

pub drawn_length : (count seed : ℕ) → length (drawn_keys seed count) ≡ count
drawn_length zero seed = refl
drawn_length (suc count) seed = omega (arith, drawn_length count (next_number seed))

abbrev pub arguments : ℕ → ℕ → Values
arguments seed count = three (list_value (drawn_keys seed count)) (pads_value (spares count)) (tree_value Leaf)

-- the types of the arguments of `build`
abbrev pub types : List ℕ
types = 6 ∷ 7 ∷ 2 ∷ []

-- so many ) before a text
abbrev closed : ℕ → List ℕ → List ℕ
closed zero text = text
closed (suc n) text = 41 ∷ closed n text

closing_closed : (n : ℕ) (rest : List ℕ) → closing n ++ rest ≡ closed n (10 ∷ rest)
closing_closed zero rest = refl
closing_closed (suc n) rest = ap (λ xs. 41 ∷ xs) (closing_closed n rest)

keys_printed : (ks : List ℕ) (n : ℕ) (rest : List ℕ) → keys_line ks n ++ rest ≡ printed rbtree_types 6 (list_value (map pos ks)) (closed n (10 ∷ rest))
keys_printed [] n rest = ap (λ xs. codes "Nil" ++ xs) (closing_closed n rest)
keys_printed (k ∷ ks) n rest =
    ap (λ xs. codes "Cons(" ++ xs)
    (append_assoc (decimal k) (codes ", " ++ keys_line ks (suc n)) rest
    ∙ ap (λ xs. decimal k ++ (codes ", " ++ xs)) (keys_printed ks (suc n) rest))

zero_text : decimal 0 ≡ codes "0"
zero_text = decimal_digit 0 (omega arith)

pads_printed : (m n : ℕ) (rest : List ℕ) → pads_line m n ++ rest ≡ printed rbtree_types 7 (pads_value (spares m)) (closed n (10 ∷ rest))
pads_printed zero n rest = ap (λ xs. codes "Nil" ++ xs) (closing_closed n rest)
pads_printed (suc m) n rest =
    let more : List ℕ = printed rbtree_types 7 (pads_value (spares m)) (closed (suc n) (10 ∷ rest)) in
    subst (λ d. pads_line (suc m) n ++ rest ≡ codes "Cons(Pad4(" ++ (d ++ (codes ", " ++ (d ++ (codes ", " ++ (d ++ (codes ", " ++ (d ++ (codes "), " ++ more))))))))) (sym zero_text)
    (ap (λ xs. codes "Cons(Pad4(0, 0, 0, 0), " ++ xs) (pads_printed m (suc n) rest))

pub input_printed : (seed count : ℕ) → gen_input seed count ≡ printed_lines rbtree_types types (arguments seed count)
input_printed seed count =
    keys_printed (numbers count seed) 0 (pads_line count 0 ++ codes "Leaf\n")
    ∙ ap (λ xs. printed rbtree_types 6 (list_value (drawn_keys seed count)) (10 ∷ xs)) (pads_printed count 0 (codes "Leaf\n"))

-- ---- they have the types

key_fits : (x : ℕ) → FitsSigned w64 (pos (next_number x))
key_fits x = record { sfits = omega arith }

zero_fits : FitsSigned w64 (pos 0)
zero_fits = record { sfits = omega arith }

keys_typed : (count seed : ℕ) → HasType rbtree_types 6 (list_value (drawn_keys seed count))
keys_typed zero seed = (_, refl, tt)
keys_typed (suc count) seed = (_, refl, (key_fits seed, (keys_typed count (next_number seed), tt)))

pads_typed : (count : ℕ) → HasType rbtree_types 7 (pads_value (spares count))
pads_typed zero = (_, refl, tt)
pads_typed (suc count) = (_, refl, ((_, refl, (zero_fits, (zero_fits, (zero_fits, (zero_fits, tt))))), (pads_typed count, tt)))

pub arguments_typed : (seed count : ℕ) → HaveTypes rbtree_types types (arguments seed count)
arguments_typed seed count = (keys_typed count seed, (pads_typed count, ((_, refl, tt), tt)))

-- ---- how many there are, and how many words they take

list_words : (xs : List ℤ) → words_needed (list_value xs) ≡ 3 * length xs
list_words [] = refl
list_words (x ∷ xs) = omega (arith, list_words xs)

spare_words : (n : ℕ) → words_needed (pads_value (spares n)) ≡ 8 * n
spare_words zero = refl
spare_words (suc n) = omega (arith, spare_words n)

pads_long : (n more : ℕ) → 23 * n ≤ length (pads_line n more)
pads_long zero more = omega arith
pads_long (suc n) more =
    let rest = pads_line n (suc more) in
    let a = length-append (codes "Cons(Pad4(0, 0, 0, 0), ") rest in
    omega (arith, a, pads_long n (suc more))

input_long : (seed count : ℕ) → 23 * count ≤ length (gen_input seed count)
input_long seed count =
    let a = length-append (keys_line (numbers count seed) 0) (pads_line count 0 ++ codes "Leaf\n") in
    let b = length-append (pads_line count 0) (codes "Leaf\n") in
    omega (arith, a, b, pads_long count 0)

module _ (seed count : ℕ) (short : length (gen_input seed count) ≤ 16777216) where
  pub few : count < 2 ^ 20
  few = omega (arith, short, input_long seed count)

  pub words_few : words_needed_by_all (arguments seed count) ≤ 16777216
  words_few = omega (arith, short, input_long seed count, list_words (drawn_keys seed count), drawn_length count seed, spare_words count)
