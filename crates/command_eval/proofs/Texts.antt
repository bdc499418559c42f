-- A text of values has at least as many bytes as the cells of the values have words.
use Rattle.std.proofs.Common.{◌≡◌, ◌∙◌, ◌≤◌, ◌+◌, ◌-◌, ℕ, zero, suc, Bool, true, false, List, [], ◌∷◌, length, ap, arith}
use Rattle.std.specs.Prelude.{ℤ}
use Rattle.std.proofs.lemmas.List.{length-map}
use Rattle.fip_language.specs.Character.{Character, Blank, Minus, Digit, Letter, character, characters}
use Rattle.fip_language.specs.Table.{Table}
use Rattle.fip_language.specs.Values.{Value, Int, Node, Values, End, More, count_of, words_of_node, words_needed, words_needed_by_all, cells_of_all}
use Rattle.fip_language.specs.ValueText.{skip, after_name, after_number, Digits, IntText, ValueText, FieldsText, MoreText, LinesText, InputText, SpellsValues}
use Rattle.cell_store.specs.Cells.{Cells, count_free}
use Rattle.cell_store.specs.Made.{Loading}
use Rattle.value_text.specs.Loaded.{free_in, needed, wanted}
use Rattle.value_text.proofs.Credits.{values_sum}
use Rattle.value_text.proofs.Taken.{words_same}

skip_short : (cs : List Character) → length (skip cs) ≤ length cs
skip_short [] = omega arith
skip_short (Blank ∷ cs) = let r = skip_short cs in omega (arith, r)
skip_short (c ∷ cs) = omega arith

name_short : (cs : List Character) → length (after_name cs) ≤ length cs
name_short [] = omega arith
name_short (Digit d ∷ cs) = let r = name_short cs in omega (arith, r)
name_short (Letter b ∷ cs) = let r = name_short cs in omega (arith, r)
name_short (c ∷ cs) = omega arith

number_short : (cs : List Character) → length (after_number cs) ≤ length cs
number_short [] = omega arith
number_short (Digit d ∷ cs) = let r = number_short cs in omega (arith, r)
number_short (c ∷ cs) = omega arith

digits_short : (neg : Bool) (cs : List Character) (i : ℤ) (rest : List Character) → Digits neg cs i rest → length rest ≤ length cs
digits_short neg [] i rest h = absurd h
digits_short neg (Digit d ∷ cs) i rest h = let r = number_short cs in let e : length rest ≡ length (after_number cs) = ap length h.2 in omega (arith, r, e)
digits_short neg (c ∷ cs) i rest h = absurd h

int_short : (cs : List Character) (i : ℤ) (rest : List Character) → IntText cs i rest → length rest ≤ length cs
int_short [] i rest h = absurd h
int_short (Minus ∷ cs) i rest h = let r = digits_short true cs i rest h in omega (arith, r)
int_short (c ∷ cs) i rest h = digits_short false (c ∷ cs) i rest h

mutual
  value_short : (tb : Table) (k : ℕ) (cs : List Character) (v : Value) (rest : List Character) → ValueText tb k cs v rest → words_needed v + length rest ≤ length cs
  value_short tb zero cs (Int i) rest h = let a = int_short (skip cs) i rest h in let b = skip_short cs in omega (arith, a, b)
  value_short tb zero cs (Node c vs) rest h = absurd h
  value_short tb (suc t) cs (Int i) rest h = absurd h
  value_short tb (suc t) cs (Node c vs) rest h =
      let a = fields_short tb h.0.fields (after_name (skip cs)) vs rest h.3 in
      let b = name_short (skip cs) in
      let d = skip_short cs in
      omega (arith, a, b, d)

  fields_short : (tb : Table) (ks : List ℕ) (cs : List Character) (vs : Values) (rest : List Character) → FieldsText tb ks cs vs rest → words_of_node (count_of vs) + words_needed_by_all vs + length rest ≤ length cs
  fields_short tb [] cs End rest h = let e : length cs ≡ length rest = ap length h in omega (arith, e)
  fields_short tb [] cs (More v vs) rest h = absurd h
  fields_short tb (k ∷ ks) cs End rest h = absurd h
  fields_short tb (k ∷ ks) cs (More v vs) rest h =
      let a = value_short tb k h.0 v h.1 h.3 in
      let b = more_short tb ks h.1 vs rest h.4 in
      let e : length (skip cs) ≡ suc (length h.0) = ap length h.2 in
      let d = skip_short cs in
      omega (arith, a, b, d, e)

  more_short : (tb : Table) (ks : List ℕ) (cs : List Character) (vs : Values) (rest : List Character) → MoreText tb ks cs vs rest → suc (count_of vs) + words_needed_by_all vs + length rest ≤ length cs
  more_short tb [] cs End rest h = let e : length (skip cs) ≡ suc (length rest) = ap length h in let d = skip_short cs in omega (arith, e, d)
  more_short tb [] cs (More v vs) rest h = absurd h
  more_short tb (k ∷ ks) cs End rest h = absurd h
  more_short tb (k ∷ ks) cs (More v vs) rest h =
      let a = value_short tb k h.0 v h.1 h.3 in
      let b = more_short tb ks h.1 vs rest h.4 in
      let e : length (skip cs) ≡ suc (length h.0) = ap length h.2 in
      let d = skip_short cs in
      omega (arith, a, b, d, e)

lines_short : (tb : Table) (ks : List ℕ) (cs : List Character) (vs : Values) → LinesText tb ks cs vs → words_needed_by_all vs ≤ length cs
lines_short tb [] cs End h = omega arith
lines_short tb [] cs (More v vs) h = absurd h
lines_short tb (k ∷ ks) cs End h = absurd h
lines_short tb (k ∷ ks) cs (More v vs) h =
    let a = value_short tb k h.0 v h.1 h.3 in
    let b = lines_short tb ks h.1 vs h.4 in
    let e : length (skip cs) ≡ suc (length h.0) = ap length h.2 in
    let d = skip_short cs in
    omega (arith, a, b, d, e)

input_short : (tb : Table) (ks : List ℕ) (cs : List Character) (vs : Values) → InputText tb ks cs vs → words_needed_by_all vs ≤ length cs
input_short tb [] cs End h = omega arith
input_short tb [] cs (More v vs) h = absurd h
input_short tb (k ∷ ks) cs End h = absurd h
input_short tb (k ∷ ks) cs (More v vs) h =
    let a = value_short tb k cs v h.0 h.1 in
    let b = lines_short tb ks h.0 vs h.2 in
    omega (arith, a, b)

spelt_short : (tb : Table) (ks bytes : List ℕ) (vs : Values) → SpellsValues tb ks bytes vs → words_needed_by_all vs ≤ length bytes
spelt_short tb ks bytes vs h = let a = input_short tb ks (characters bytes) vs h in let e = length-map bytes character in omega (arith, a, e)

-- a new loader has no cell that is free
pub no_free : (cells : Cells) (released : List Bool) (k : ℕ) → cells ≡ [] → released ≡ [] → count_free k cells released ≡ 0
no_free cells released k e f = ap (λ cs. count_free k cs released) e ∙ ap (λ rs. count_free k [] rs) f

as_counted : (n free : ℕ) → free ≡ 0 → n + 0 - free ≡ n - 0
as_counted n free e = omega (arith, e)

needed_words : (first : Loading) (vs : Values) → first.cells ≡ [] → first.released ≡ [] → needed first [] vs ≤ words_needed_by_all vs
needed_words first vs cells released =
    let e = words_same 16 (λ k. cells_of_all k vs) (wanted [] vs) (λ _. 0) (free_in first) (λ k le. as_counted (cells_of_all k vs) (free_in first k) (no_free first.cells first.released k cells released)) in
    let b = values_sum 16 vs in
    omega (arith, e, b)

-- In a new store values need no more words than their text has bytes.
pub needed_short : (tb : Table) (ks bytes : List ℕ) (first : Loading) (vs : Values) → first.cells ≡ [] → first.released ≡ [] → SpellsValues tb ks bytes vs → needed first [] vs ≤ length bytes
needed_short tb ks bytes first vs cells released h = let a = needed_words first vs cells released in let b = spelt_short tb ks bytes vs h in omega (arith, a, b)
