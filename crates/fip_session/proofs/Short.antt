-- The values of a line take no more words than the line has bytes.
-- Idea: what is read of a line is no longer than it, and a node's cell takes no more words than its name, brackets and
-- commas.
use Rattle.std.proofs.Common.{◌≡◌, ◌∙◌, ◌≤◌, ◌+◌, ℕ, ℤ, zero, suc, Bool, true, false, List, [], ◌∷◌, ◌++◌, length, refl, ap, arith}
use Rattle.std.proofs.lemmas.List.{length-map}
use Rattle.fip_base.specs.declared.plain.Param.{Param}
use Rattle.fip_language.specs.Core.{Name}
use Rattle.fip_language.specs.Table.{Table}
use Rattle.fip_language.specs.Values.{Value, Int, Node, Values, End, More, cells, count_of, words_needed, words_needed_by_all, words_of_node}
use Rattle.session_lines.specs.session_semantics.Lines.{Symbol, Blank, Open, Close, Comma, Equals, Question, Minus, Underscore, Digit, Small, Capital, Other, Written, Number, Named, Parts, NoParts, MoreParts, WrittenText, PartsText, FurtherText, NumberText, DigitsText, Given, Held, Fresh, GivenText, MoreGivenText, AllGivenText, MoreNamesText, NameText, BeginsCapital, SignText, SpellsLine, Calls, after_number, following, skip, symbol, symbols}
use Rattle.session_lines.specs.session_semantics.Talk.{Holding, IsTaken, AreTaken, named_by, written}
use Rattle.session_lines.specs.session_semantics.Typed.{IsValue, AreValues}
use Rattle.value_text.proofs.Counted.{cells_le_all}

-- ---- what is read of a line is no longer than it

skip_short : (cs : List Symbol) → length (skip cs) ≤ length cs
skip_short [] = omega arith
skip_short (Blank ∷ cs) = (let h = skip_short cs in omega (arith, h))
skip_short (Open ∷ cs) = omega arith
skip_short (Close ∷ cs) = omega arith
skip_short (Comma ∷ cs) = omega arith
skip_short (Equals ∷ cs) = omega arith
skip_short (Question ∷ cs) = omega arith
skip_short (Minus ∷ cs) = omega arith
skip_short (Underscore ∷ cs) = omega arith
skip_short (Digit d ∷ cs) = omega arith
skip_short (Small b ∷ cs) = omega arith
skip_short (Capital b ∷ cs) = omega arith
skip_short (Other ∷ cs) = omega arith

following_short : (cs : List Symbol) → length (following cs) ≤ length cs
following_short [] = omega arith
following_short (Underscore ∷ cs) = (let h = following_short cs in omega (arith, h))
following_short (Digit d ∷ cs) = (let h = following_short cs in omega (arith, h))
following_short (Small b ∷ cs) = (let h = following_short cs in omega (arith, h))
following_short (Capital b ∷ cs) = (let h = following_short cs in omega (arith, h))
following_short (Blank ∷ cs) = omega arith
following_short (Open ∷ cs) = omega arith
following_short (Close ∷ cs) = omega arith
following_short (Comma ∷ cs) = omega arith
following_short (Equals ∷ cs) = omega arith
following_short (Question ∷ cs) = omega arith
following_short (Minus ∷ cs) = omega arith
following_short (Other ∷ cs) = omega arith

after_short : (cs : List Symbol) → length (after_number cs) ≤ length cs
after_short [] = omega arith
after_short (Digit d ∷ cs) = (let h = after_short cs in omega (arith, h))
after_short (Blank ∷ cs) = omega arith
after_short (Open ∷ cs) = omega arith
after_short (Close ∷ cs) = omega arith
after_short (Comma ∷ cs) = omega arith
after_short (Equals ∷ cs) = omega arith
after_short (Question ∷ cs) = omega arith
after_short (Minus ∷ cs) = omega arith
after_short (Underscore ∷ cs) = omega arith
after_short (Small b ∷ cs) = omega arith
after_short (Capital b ∷ cs) = omega arith
after_short (Other ∷ cs) = omega arith

sign_short : (sign : Symbol) (cs rest : List Symbol) → SignText sign cs rest → suc (length rest) ≤ length cs
sign_short sign cs rest h = (let a = skip_short cs in let b = ap length h in omega (arith, a, b))

capital_short : (cs : List Symbol) → BeginsCapital cs → suc (length (following cs)) ≤ length cs
capital_short (Capital b ∷ cs) h = (let r = following_short cs in omega (arith, r))
capital_short [] h = absurd h
capital_short (Underscore ∷ cs) h = absurd h
capital_short (Digit d ∷ cs) h = absurd h
capital_short (Small b ∷ cs) h = absurd h
capital_short (Blank ∷ cs) h = absurd h
capital_short (Open ∷ cs) h = absurd h
capital_short (Close ∷ cs) h = absurd h
capital_short (Comma ∷ cs) h = absurd h
capital_short (Equals ∷ cs) h = absurd h
capital_short (Question ∷ cs) h = absurd h
capital_short (Minus ∷ cs) h = absurd h
capital_short (Other ∷ cs) h = absurd h

digits_short : (neg : Bool) (cs : List Symbol) (i : ℤ) (rest : List Symbol) → DigitsText neg cs i rest → length rest ≤ length cs
digits_short neg (Digit d ∷ cs) i rest h = (let a = after_short cs in let b = ap length h.1 in omega (arith, a, b))
digits_short neg [] i rest h = absurd h
digits_short neg (Underscore ∷ cs) i rest h = absurd h
digits_short neg (Small b ∷ cs) i rest h = absurd h
digits_short neg (Capital b ∷ cs) i rest h = absurd h
digits_short neg (Blank ∷ cs) i rest h = absurd h
digits_short neg (Open ∷ cs) i rest h = absurd h
digits_short neg (Close ∷ cs) i rest h = absurd h
digits_short neg (Comma ∷ cs) i rest h = absurd h
digits_short neg (Equals ∷ cs) i rest h = absurd h
digits_short neg (Question ∷ cs) i rest h = absurd h
digits_short neg (Minus ∷ cs) i rest h = absurd h
digits_short neg (Other ∷ cs) i rest h = absurd h

number_short : (cs : List Symbol) (i : ℤ) (rest : List Symbol) → NumberText cs i rest → length rest ≤ length cs
number_short (Minus ∷ cs) i rest h = (let a = digits_short true cs i rest h in omega (arith, a))
number_short [] i rest h = absurd h
number_short (Digit d ∷ cs) i rest h = digits_short false (Digit d ∷ cs) i rest h
number_short (Underscore ∷ cs) i rest h = absurd h
number_short (Small b ∷ cs) i rest h = absurd h
number_short (Capital b ∷ cs) i rest h = absurd h
number_short (Blank ∷ cs) i rest h = absurd h
number_short (Open ∷ cs) i rest h = absurd h
number_short (Close ∷ cs) i rest h = absurd h
number_short (Comma ∷ cs) i rest h = absurd h
number_short (Equals ∷ cs) i rest h = absurd h
number_short (Question ∷ cs) i rest h = absurd h
number_short (Other ∷ cs) i rest h = absurd h

-- ---- values take no more words than their text has bytes

mutual
  value_short : (tb : Table) (k : ℕ) (w : Written) (v : Value) (cs rest : List Symbol) → IsValue tb k w v → WrittenText cs w rest → words_needed v + length rest ≤ length cs
  value_short tb zero (Number i) (Int j) cs rest h t =
      let a = number_short (skip cs) i rest t in
      let b = skip_short cs in
      omega (arith, a, b)
  value_short tb zero (Number i) (Node c vs) cs rest h t = absurd h
  value_short tb zero (Named name ws) v cs rest h t = absurd h
  value_short tb (suc k) (Number i) v cs rest h t = absurd h
  value_short tb (suc k) (Named name ws) (Int j) cs rest h t = absurd h
  value_short tb (suc k) (Named name ws) (Node c vs) cs rest h t =
      let a = skip_short cs in
      let b = capital_short (skip cs) t.0 in
      let d = parts_short tb h.0.fields ws vs (following (skip cs)) rest h.3 t.2 in
      omega (arith, a, b, d)

  parts_short : (tb : Table) (ks : List ℕ) (ws : Parts) (vs : Values) (cs rest : List Symbol) → AreValues tb ks ws vs → PartsText cs ws rest → words_of_node (count_of vs) + words_needed_by_all vs + length rest ≤ suc (length cs)
  parts_short tb [] NoParts End cs rest h t = (let b = ap length t.1 in omega (arith, b))
  parts_short tb [] NoParts (More v vs) cs rest h t = absurd h
  parts_short tb [] (MoreParts w ws) vs cs rest h t = absurd h
  parts_short tb (k ∷ ks) NoParts vs cs rest h t = absurd h
  parts_short tb (k ∷ ks) (MoreParts w ws) End cs rest h t = absurd h
  parts_short tb (k ∷ ks) (MoreParts w ws) (More v vs) cs rest h t =
      let a = sign_short Open cs t.0 t.2 in
      let b = value_short tb k w v t.0 t.1 h.0 t.3 in
      let d = further_short tb ks ws vs t.1 rest h.1 t.4 in
      omega (arith, a, b, d)

  further_short : (tb : Table) (ks : List ℕ) (ws : Parts) (vs : Values) (cs rest : List Symbol) → AreValues tb ks ws vs → FurtherText cs ws rest → suc (count_of vs) + words_needed_by_all vs + length rest ≤ length cs
  further_short tb [] NoParts End cs rest h t = (let a = sign_short Close cs rest t in omega (arith, a))
  further_short tb [] NoParts (More v vs) cs rest h t = absurd h
  further_short tb [] (MoreParts w ws) vs cs rest h t = absurd h
  further_short tb (k ∷ ks) NoParts vs cs rest h t = absurd h
  further_short tb (k ∷ ks) (MoreParts w ws) End cs rest h t = absurd h
  further_short tb (k ∷ ks) (MoreParts w ws) (More v vs) cs rest h t =
      let a = sign_short Comma cs t.0 t.2 in
      let b = value_short tb k w v t.0 t.1 h.0 t.3 in
      let d = further_short tb ks ws vs t.1 rest h.1 t.4 in
      omega (arith, a, b, d)

name_short : (cs : List Symbol) (n : Name) (rest : List Symbol) → NameText cs n rest → length rest ≤ length cs
name_short cs n rest h = (let e = ap length h.then' in let b = following_short (skip cs) in let k = skip_short cs in omega (arith, e, b, k))

names_short : (cs : List Symbol) (ns : List Name) (rest : List Symbol) → MoreNamesText cs ns rest → length rest ≤ length cs
names_short cs [] rest h = (let s = sign_short Equals cs rest h in omega (arith, s))
names_short cs (n ∷ ns) rest h =
    let s = sign_short Comma cs h.0 h.2 in
    let a = name_short h.0 n h.1 h.3 in
    let r = names_short h.1 ns rest h.4 in
    omega (arith, s, a, r)

-- ---- the arguments of a call

module _ (tb : Table) (held : List Holding) (k : ℕ) where
  one_short : (before : List Name) (q : Param) (g : Given) (v : Value) (cs rest : List Symbol) → IsTaken tb held before q g v → GivenText cs g rest → written k (g ∷ []) (More v End) + length rest ≤ length cs
  one_short before q (Held n) v cs rest h t = (let a = name_short cs n rest t in omega (arith, a))
  one_short before q (Fresh w) v cs rest h t =
      let a = value_short tb q.ty w v cs rest h t in
      let c = cells_le_all k (More v End) in
      omega (arith, a, c)

  written_more : (g : Given) (gs : List Given) (v : Value) (vs : Values) → written k (g ∷ gs) (More v vs) ≡ written k (g ∷ []) (More v End) + written k gs vs
  written_more (Fresh w) gs v vs = omega arith
  written_more (Held name) gs v vs = omega arith

  more_short : (before : List Name) (qs : List Param) (gs : List Given) (vs : Values) (cs rest : List Symbol) → AreTaken tb held before qs gs vs → MoreGivenText cs gs rest → written k gs vs ≤ length cs
  more_short before [] [] End cs rest h t = omega arith
  more_short before [] [] (More v vs) cs rest h t = absurd h
  more_short before [] (g ∷ gs) vs cs rest h t = absurd h
  more_short before (q ∷ qs) [] vs cs rest h t = absurd h
  more_short before (q ∷ qs) (g ∷ gs) End cs rest h t = absurd h
  more_short before (q ∷ qs) (g ∷ gs) (More v vs) cs rest h t =
      let s = sign_short Comma cs t.0 t.2 in
      let a = one_short before q g v t.0 t.1 h.0 t.3 in
      let r = more_short (before ++ named_by tb q g) qs gs vs t.1 rest h.1 t.4 in
      let m = written_more g gs v vs in
      omega (arith, s, a, r, m)

  all_short : (qs : List Param) (gs : List Given) (vs : Values) (cs rest : List Symbol) → AreTaken tb held [] qs gs vs → AllGivenText cs gs rest → written k gs vs ≤ length cs
  all_short [] [] End cs rest h t = omega arith
  all_short [] [] (More v vs) cs rest h t = absurd h
  all_short [] (g ∷ gs) vs cs rest h t = absurd h
  all_short (q ∷ qs) [] vs cs rest h t = absurd h
  all_short (q ∷ qs) (g ∷ gs) End cs rest h t = absurd h
  all_short (q ∷ qs) (g ∷ gs) (More v vs) cs rest h t =
      let a = one_short [] q g v cs t.0 h.0 t.1 in
      let r = more_short ([] ++ named_by tb q g) qs gs vs t.0 rest h.1 t.2 in
      let m = written_more g gs v vs in
      omega (arith, a, r, m)

  pub line_short : (bytes : List ℕ) (result : Name) (results : List Name) (entry : Name) (qs : List Param) (gs : List Given) (vs : Values) → SpellsLine bytes (Calls result results entry gs) → AreTaken tb held [] qs gs vs → written k gs vs ≤ length bytes
  line_short bytes result results entry qs gs vs t h =
      let a = name_short (symbols bytes) result t.0 t.2 in
      let b = names_short t.0 results t.1 t.3 in
      let c = t.4 in
      let d = name_short t.1 entry c.0 c.3 in
      let e = sign_short Open c.0 c.1 c.4 in
      let f = all_short qs gs vs c.1 c.2 h c.5 in
      let l = length-map bytes symbol in
      omega (arith, a, b, d, e, f, l)
