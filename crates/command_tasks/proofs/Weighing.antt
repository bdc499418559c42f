-- What the cells of a list of calls take of the store.
-- Idea: values take no more words than their text has bytes, so those of an input are few; and a sum over the sizes of
-- the cells is the sum of their words.
use Rattle.std.proofs.Common.{◌≡◌, ◌∙◌, ◌≤◌, ◌+◌, ◌-◌, ◌*◌, ℕ, ℤ, Some, slice_get, FitsSigned, zero, suc, Bool, true, false, List, [], ◌∷◌, length, if◌then◌else◌, ◌==◌, refl, ap, subst, arith}
use Rattle.std.proofs.lemmas.List.{length-map}
use Rattle.std.proofs.Math.Nat.{mul-zero}
use Rattle.std.specs.Int.{w64}
use Rattle.cell_code.specs.declared.code.Code.{Code}
use Rattle.cell_code.specs.declared.code.Function.{Function}
use Rattle.cell_store.specs.Made.{Loading}
use Rattle.fip_language.specs.SoundTable.{IsSoundTable}
use Rattle.fip_language.specs.Store.{count, one_at}
use Rattle.fip_language.specs.Table.{Table, HasType, HaveTypes}
use Rattle.fip_language.specs.declared.limits.TheConstants.{MOST_FIELDS, MOST_FILE_BYTES}
use Rattle.fip_language.specs.Values.{Value, Int, Node, Values, End, More, count_of, words_needed, words_needed_by_all, words_of_node}
use Rattle.task_correctness.specs.run_loading.Loading.{words_of_credits}
use Rattle.command_session.specs.command_run.session_semantics.Lines.{Symbol, Blank, Open, Close, Comma, Equals, Question, Minus, Underscore, Digit, Small, Capital, Other, Written, Number, Named, Parts, NoParts, MoreParts, WrittenText, PartsText, FurtherText, NumberText, DigitsText, MoreGivenText, AllGivenText, BeginsCapital, SignText, after_number, following, fresh_of, lines_of, put_before, skip, symbol, symbols}
use Rattle.command_session.specs.command_run.session_semantics.Typed.{IsValue, AreValues}
use Rattle.task_lines.specs.Called.{AreCalls, Called, IsCall, needed_by_all}
use Rattle.task_lines.specs.Listed.{IsListOf}
use Rattle.task_lines.specs.declared.list.TaskList.{TaskList}
use Rattle.value_text.specs.Counting.{count_at}
use Rattle.value_text.specs.Loaded.{AreCredits, AreSizes, free_in, types_of, wanted, words_up_to}
use Rattle.value_text.proofs.Counted.{cells_le_all}
use Rattle.value_text.proofs.Credits.{sum_join}
use Rattle.value_text.proofs.Taken.{words_same, words_suc, words_zero}
use Rattle.command_session.proofs.command_run.Words.{needed_words}

-- ---- what is read of a line is no longer than it

skip_short : (cs : List Symbol) → length (skip cs) ≤ length cs
skip_short [] = omega arith
skip_short (Blank ∷ cs) = (let h = skip_short cs in omega (arith, h))
skip_short (Open ∷ cs) = omega arith
skip_short (Close ∷ cs) = omega arith
skip_short (Comma ∷ cs) = omega arith
skip_short (Equals ∷ cs) = omega arith
skip_short (Question ∷ cs) = omega arith
skip_short (Minus ∷ cs) = omega arith
skip_short (Underscore ∷ cs) = omega arith
skip_short (Digit d ∷ cs) = omega arith
skip_short (Small b ∷ cs) = omega arith
skip_short (Capital b ∷ cs) = omega arith
skip_short (Other ∷ cs) = omega arith

following_short : (cs : List Symbol) → length (following cs) ≤ length cs
following_short [] = omega arith
following_short (Underscore ∷ cs) = (let h = following_short cs in omega (arith, h))
following_short (Digit d ∷ cs) = (let h = following_short cs in omega (arith, h))
following_short (Small b ∷ cs) = (let h = following_short cs in omega (arith, h))
following_short (Capital b ∷ cs) = (let h = following_short cs in omega (arith, h))
following_short (Blank ∷ cs) = omega arith
following_short (Open ∷ cs) = omega arith
following_short (Close ∷ cs) = omega arith
following_short (Comma ∷ cs) = omega arith
following_short (Equals ∷ cs) = omega arith
following_short (Question ∷ cs) = omega arith
following_short (Minus ∷ cs) = omega arith
following_short (Other ∷ cs) = omega arith

after_short : (cs : List Symbol) → length (after_number cs) ≤ length cs
after_short [] = omega arith
after_short (Digit d ∷ cs) = (let h = after_short cs in omega (arith, h))
after_short (Blank ∷ cs) = omega arith
after_short (Open ∷ cs) = omega arith
after_short (Close ∷ cs) = omega arith
after_short (Comma ∷ cs) = omega arith
after_short (Equals ∷ cs) = omega arith
after_short (Question ∷ cs) = omega arith
after_short (Minus ∷ cs) = omega arith
after_short (Underscore ∷ cs) = omega arith
after_short (Small b ∷ cs) = omega arith
after_short (Capital b ∷ cs) = omega arith
after_short (Other ∷ cs) = omega arith

sign_short : (sign : Symbol) (cs rest : List Symbol) → SignText sign cs rest → suc (length rest) ≤ length cs
sign_short sign cs rest h = (let a = skip_short cs in let b = ap length h in omega (arith, a, b))

capital_short : (cs : List Symbol) → BeginsCapital cs → suc (length (following cs)) ≤ length cs
capital_short (Capital b ∷ cs) h = (let r = following_short cs in omega (arith, r))
capital_short [] h = absurd h
capital_short (Underscore ∷ cs) h = absurd h
capital_short (Digit d ∷ cs) h = absurd h
capital_short (Small b ∷ cs) h = absurd h
capital_short (Blank ∷ cs) h = absurd h
capital_short (Open ∷ cs) h = absurd h
capital_short (Close ∷ cs) h = absurd h
capital_short (Comma ∷ cs) h = absurd h
capital_short (Equals ∷ cs) h = absurd h
capital_short (Question ∷ cs) h = absurd h
capital_short (Minus ∷ cs) h = absurd h
capital_short (Other ∷ cs) h = absurd h

digits_short : (neg : Bool) (cs : List Symbol) (i : ℤ) (rest : List Symbol) → DigitsText neg cs i rest → length rest ≤ length cs
digits_short neg (Digit d ∷ cs) i rest h = (let a = after_short cs in let b = ap length h.1 in omega (arith, a, b))
digits_short neg [] i rest h = absurd h
digits_short neg (Underscore ∷ cs) i rest h = absurd h
digits_short neg (Small b ∷ cs) i rest h = absurd h
digits_short neg (Capital b ∷ cs) i rest h = absurd h
digits_short neg (Blank ∷ cs) i rest h = absurd h
digits_short neg (Open ∷ cs) i rest h = absurd h
digits_short neg (Close ∷ cs) i rest h = absurd h
digits_short neg (Comma ∷ cs) i rest h = absurd h
digits_short neg (Equals ∷ cs) i rest h = absurd h
digits_short neg (Question ∷ cs) i rest h = absurd h
digits_short neg (Minus ∷ cs) i rest h = absurd h
digits_short neg (Other ∷ cs) i rest h = absurd h

number_short : (cs : List Symbol) (i : ℤ) (rest : List Symbol) → NumberText cs i rest → length rest ≤ length cs
number_short (Minus ∷ cs) i rest h = (let a = digits_short true cs i rest h in omega (arith, a))
number_short [] i rest h = absurd h
number_short (Digit d ∷ cs) i rest h = digits_short false (Digit d ∷ cs) i rest h
number_short (Underscore ∷ cs) i rest h = absurd h
number_short (Small b ∷ cs) i rest h = absurd h
number_short (Capital b ∷ cs) i rest h = absurd h
number_short (Blank ∷ cs) i rest h = absurd h
number_short (Open ∷ cs) i rest h = absurd h
number_short (Close ∷ cs) i rest h = absurd h
number_short (Comma ∷ cs) i rest h = absurd h
number_short (Equals ∷ cs) i rest h = absurd h
number_short (Question ∷ cs) i rest h = absurd h
number_short (Other ∷ cs) i rest h = absurd h

-- ---- values take no more words than their text has bytes

mutual
  value_short : (tb : Table) (k : ℕ) (w : Written) (v : Value) (cs rest : List Symbol) → IsValue tb k w v → WrittenText cs w rest → words_needed v + length rest ≤ length cs
  value_short tb zero (Number i) (Int j) cs rest h t =
      let a = number_short (skip cs) i rest t in
      let b = skip_short cs in
      omega (arith, a, b)
  value_short tb zero (Number i) (Node c vs) cs rest h t = absurd h
  value_short tb zero (Named name ws) v cs rest h t = absurd h
  value_short tb (suc k) (Number i) v cs rest h t = absurd h
  value_short tb (suc k) (Named name ws) (Int j) cs rest h t = absurd h
  value_short tb (suc k) (Named name ws) (Node c vs) cs rest h t =
      let a = skip_short cs in
      let b = capital_short (skip cs) t.0 in
      let d = parts_short tb h.0.fields ws vs (following (skip cs)) rest h.3 t.2 in
      omega (arith, a, b, d)

  parts_short : (tb : Table) (ks : List ℕ) (ws : Parts) (vs : Values) (cs rest : List Symbol) → AreValues tb ks ws vs → PartsText cs ws rest → words_of_node (count_of vs) + words_needed_by_all vs + length rest ≤ suc (length cs)
  parts_short tb [] NoParts End cs rest h t = (let b = ap length t.1 in omega (arith, b))
  parts_short tb [] NoParts (More v vs) cs rest h t = absurd h
  parts_short tb [] (MoreParts w ws) vs cs rest h t = absurd h
  parts_short tb (k ∷ ks) NoParts vs cs rest h t = absurd h
  parts_short tb (k ∷ ks) (MoreParts w ws) End cs rest h t = absurd h
  parts_short tb (k ∷ ks) (MoreParts w ws) (More v vs) cs rest h t =
      let a = sign_short Open cs t.0 t.2 in
      let b = value_short tb k w v t.0 t.1 h.0 t.3 in
      let d = further_short tb ks ws vs t.1 rest h.1 t.4 in
      omega (arith, a, b, d)

  further_short : (tb : Table) (ks : List ℕ) (ws : Parts) (vs : Values) (cs rest : List Symbol) → AreValues tb ks ws vs → FurtherText cs ws rest → suc (count_of vs) + words_needed_by_all vs + length rest ≤ length cs
  further_short tb [] NoParts End cs rest h t = (let a = sign_short Close cs rest t in omega (arith, a))
  further_short tb [] NoParts (More v vs) cs rest h t = absurd h
  further_short tb [] (MoreParts w ws) vs cs rest h t = absurd h
  further_short tb (k ∷ ks) NoParts vs cs rest h t = absurd h
  further_short tb (k ∷ ks) (MoreParts w ws) End cs rest h t = absurd h
  further_short tb (k ∷ ks) (MoreParts w ws) (More v vs) cs rest h t =
      let a = sign_short Comma cs t.0 t.2 in
      let b = value_short tb k w v t.0 t.1 h.0 t.3 in
      let d = further_short tb ks ws vs t.1 rest h.1 t.4 in
      omega (arith, a, b, d)

more_short : (tb : Table) (ks : List ℕ) (ws : Parts) (vs : Values) (cs rest : List Symbol) → AreValues tb ks ws vs → MoreGivenText cs (fresh_of ws) rest → words_needed_by_all vs ≤ length cs
more_short tb [] NoParts End cs rest h t = omega arith
more_short tb [] NoParts (More v vs) cs rest h t = absurd h
more_short tb [] (MoreParts w ws) vs cs rest h t = absurd h
more_short tb (k ∷ ks) NoParts vs cs rest h t = absurd h
more_short tb (k ∷ ks) (MoreParts w ws) End cs rest h t = absurd h
more_short tb (k ∷ ks) (MoreParts w ws) (More v vs) cs rest h t =
    let a = sign_short Comma cs t.0 t.2 in
    let b = value_short tb k w v t.0 t.1 h.0 t.3 in
    let d = more_short tb ks ws vs t.1 rest h.1 t.4 in
    omega (arith, a, b, d)

given_short : (tb : Table) (ks : List ℕ) (ws : Parts) (vs : Values) (cs rest : List Symbol) → AreValues tb ks ws vs → AllGivenText cs (fresh_of ws) rest → words_needed_by_all vs ≤ length cs
given_short tb [] NoParts End cs rest h t = omega arith
given_short tb [] NoParts (More v vs) cs rest h t = absurd h
given_short tb [] (MoreParts w ws) vs cs rest h t = absurd h
given_short tb (k ∷ ks) NoParts vs cs rest h t = absurd h
given_short tb (k ∷ ks) (MoreParts w ws) End cs rest h t = absurd h
given_short tb (k ∷ ks) (MoreParts w ws) (More v vs) cs rest h t =
    let b = value_short tb k w v cs t.0 h.0 t.1 in
    let d = more_short tb ks ws vs t.0 rest h.1 t.2 in
    omega (arith, b, d)

call_short : (code : Code) (line : List ℕ) (c : Called) → IsCall code line c → words_needed_by_all c.values ≤ length line
call_short code line c h =
    let t = h.spelt in
    let a = given_short code.types (types_of c.function.params) h.parts c.values t.1 t.2 h.typed t.5 in
    let s = sign_short Open t.0 t.1 t.4 in
    let n = ap length t.3.then' in
    let b = following_short (skip (symbols line)) in
    let k = skip_short (symbols line) in
    let l = length-map line symbol in
    omega (arith, a, s, n, b, k, l)

-- ---- all lines

abbrev total : List (List ℕ) → ℕ
total [] = 0
total (line ∷ lines) = length line + total lines

put_total : (b : ℕ) (lines : List (List ℕ)) → total (put_before b lines) ≡ suc (total lines)
put_total b [] = refl
put_total b (line ∷ lines) = omega arith

lines_short : (input : List ℕ) → total (lines_of input) ≤ length input
lines_short [] = omega arith
lines_short (b ∷ bs) = by (b == 10) (lines_short bs)
  where
    by : (c : Bool) → total (lines_of bs) ≤ length bs → total (if c then [] ∷ lines_of bs else put_before b (lines_of bs)) ≤ length (b ∷ bs)
    by true h = omega (arith, h)
    by false h = (let p = put_total b (lines_of bs) in omega (arith, h, p))

-- the words of the cells of calls
abbrev pub words_of_calls : List Called → ℕ
words_of_calls [] = 0
words_of_calls (c ∷ cs) = words_needed_by_all c.values + (words_of_credits c.function.credits.items + words_of_calls cs)

sizes_few : (ks : List ℕ) → AreSizes ks → words_of_credits ks ≤ 17 * length ks
sizes_few [] h = omega arith
sizes_few (k ∷ ks) h = (let r = sizes_few ks h.2 in let le = h.1 in omega (arith, r, le))

-- what is so of the functions that are called
abbrev pub HaveCredits : Code → Type 0
HaveCredits code = (n : ℕ) (f : Function) → slice_get code.functions.items n ≡ Some f → AreCredits f.credits.items

calls_short : (code : Code) (lines : List (List ℕ)) (cs : List Called) → HaveCredits code → AreCalls code lines cs → words_of_calls cs ≤ total lines + 272 * length lines
calls_short code [] [] known h = omega arith
calls_short code [] (c ∷ cs) known h = absurd h
calls_short code (line ∷ lines) [] known h = absurd h
calls_short code (line ∷ lines) (c ∷ cs) known h =
    let a = call_short code line c h.0 in
    let k = known c.entry c.function h.0.there in
    let s = sizes_few c.function.credits.items k.sizes in
    let few = k.few in
    let r = calls_short code lines cs known h.1 in
    omega (arith, a, s, few, r)

pub words_few : (code : Code) (input : List ℕ) (cs : List Called) → HaveCredits code → AreCalls code (lines_of input) cs → length (lines_of input) ≤ 1000 → length input ≤ 16777216 → words_of_calls cs ≤ 17049216
words_few code input cs known h few short =
    let a = calls_short code (lines_of input) cs known h in
    let b = lines_short input in
    omega (arith, a, b, few, short)

-- ---- by sizes

one_few : (k s : ℕ) → one_at k s ≤ 1
one_few k s = by (k == s)
  where
    by : (b : Bool) → (if b then 1 else 0) ≤ 1
    by true = omega arith
    by false = omega arith

count_few : (k : ℕ) (ks : List ℕ) → count k ks ≤ words_of_credits ks
count_few k [] = omega arith
count_few k (s ∷ ks) = (let a = one_few k s in let r = count_few k ks in omega (arith, a, r))

pub needed_few : (cs : List Called) (k : ℕ) → needed_by_all cs k ≤ words_of_calls cs
needed_few [] k = omega arith
needed_few (c ∷ cs) k =
    let a = cells_le_all k c.values in
    let b = count_few k c.function.credits.items in
    let r = needed_few cs k in
    omega (arith, a, b, r)

-- ---- the sum over the sizes

mutual
  pub typed : (tb : Table) (k : ℕ) (w : Written) (v : Value) → IsValue tb k w v → HasType tb k v
  typed tb zero (Number i) (Int j) h = subst (FitsSigned w64) h.0 h.1
  typed tb zero (Number i) (Node c vs) h = absurd h
  typed tb zero (Named name ws) v h = absurd h
  typed tb (suc k) (Number i) v h = absurd h
  typed tb (suc k) (Named name ws) (Int j) h = absurd h
  typed tb (suc k) (Named name ws) (Node c vs) h = (h.0, h.1, all_typed tb h.0.fields ws vs h.3)

  pub all_typed : (tb : Table) (ks : List ℕ) (ws : Parts) (vs : Values) → AreValues tb ks ws vs → HaveTypes tb ks vs
  all_typed tb [] NoParts End h = tt
  all_typed tb [] NoParts (More v vs) h = absurd h
  all_typed tb [] (MoreParts w ws) vs h = absurd h
  all_typed tb (k ∷ ks) NoParts vs h = absurd h
  all_typed tb (k ∷ ks) (MoreParts w ws) End h = absurd h
  all_typed tb (k ∷ ks) (MoreParts w ws) (More v vs) h = (typed tb k w v h.0, all_typed tb ks ws vs h.1)

call_words : (code : Code) (line : List ℕ) (c : Called) → IsSoundTable code.types → HaveCredits code → IsCall code line c → words_up_to 16 (wanted c.function.credits.items c.values) (λ _. 0) ≡ words_needed_by_all c.values + words_of_credits c.function.credits.items
call_words code line c sound known h =
    let first : Loading = record { cells = []; released = []; left = 0 } in
    let credits = c.function.credits.items in
    let want = wanted credits c.values in
    words_same 16 want want (free_in first) (λ _. 0) (λ k le. refl) ∙ needed_words code.types (types_of c.function.params) first credits c.values sound (all_typed code.types (types_of c.function.params) h.parts c.values h.typed) (known c.entry c.function h.there).sizes refl refl

no_words : (n : ℕ) → words_up_to n (λ _. 0) (λ _. 0) ≡ 0
no_words zero = words_zero (λ _. 0) (λ _. 0)
no_words (suc n) =
    let e = words_suc n (λ _. 0) (λ _. 0) in
    let h = no_words n in
    let z : (suc n + 1) * (0 - 0) ≡ 0 = mul-zero (suc n + 1) in
    omega (arith, e, h, z)

pub calls_words : (code : Code) (lines : List (List ℕ)) (cs : List Called) → IsSoundTable code.types → HaveCredits code → AreCalls code lines cs → words_up_to 16 (needed_by_all cs) (λ _. 0) ≡ words_of_calls cs
calls_words code [] [] sound known h = no_words 16
calls_words code [] (c ∷ cs) sound known h = absurd h
calls_words code (line ∷ lines) [] sound known h = absurd h
calls_words code (line ∷ lines) (c ∷ cs) sound known h =
    let a = sum_join 16 (wanted c.function.credits.items c.values) (needed_by_all cs) in
    let b = call_words code line c sound known h.0 in
    let r = calls_words code lines cs sound known h.1 in
    omega (arith, a, b, r)

-- ---- those of a list

pub record Weighs (t : TaskList) (cs : List Called) : Type 0 where
  pub words : words_up_to MOST_FIELDS (count_at t.counts) (λ _. 0) ≡ words_of_calls cs
  pub few : words_of_calls cs ≤ 17049216

pub list_weighs : (code : Code) (input : List ℕ) (t : TaskList) (cs : List Called) → IsSoundTable code.types → HaveCredits code → length input ≤ MOST_FILE_BYTES → IsListOf code input t cs → Weighs t cs
list_weighs code input t cs sound known short h =
    let few = words_few code input cs known h.calls h.few short in
    let same = words_same MOST_FIELDS (needed_by_all cs) (count_at t.counts) (λ _. 0) (λ _. 0) (λ k le. (let n = needed_few cs k in ap (λ x. x - 0) (h.counts k le (omega (arith, n, few))))) in
    record { words = same ∙ calls_words code (lines_of input) cs sound known h.calls; few = few }
