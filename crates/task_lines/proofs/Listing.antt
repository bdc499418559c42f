-- The lines of an input, read one after another.
use Rattle.std.proofs.Common.{◌≡◌, ◌∙◌, ◌⊎◌, inl, inr, ◌≤◌, ◌<◌, ◌+◌, ◌-◌, ◌^◌, ℕ, zero, suc, List, [], ◌∷◌, ◌++◌, length, drop, append_assoc, append-nil, refl, sym, ap, subst, arith}
use Rattle.std.specs.Prelude.{slice_index_or, if◌then◌else◌, ◌==◌, Bool, true, false}
use Rattle.std.proofs.lemmas.List.{length-drop}
use Rattle.cell_code.specs.declared.code.Code.{Code}
use Rattle.session_lines.specs.session_semantics.Lines.{lines_of, put_before}
use Rattle.session_lines.specs.session_semantics.Turns.{most_tasks}
use Rattle.value_text.specs.Loaded.{wanted}
use Rattle.value_text.specs.declared.counts.Counts.{Counts}
use Rattle.task_lines.specs.Called.{Called, IsCall, AreCalls, IsFirstBad, needed_by_all}
use Rattle.session_values.specs.Read.{Adds}
use Rattle.task_lines.specs.Reading.{IsLineOf, AreLinesOf}
use Rattle.task_lines.specs.declared.task_line.TaskLine.{TaskLine}
use Rattle.fip_language.proofs.Facts.{drop_past as none_left}

pub record IsListed (code : Code) (input : List ℕ) (at : ℕ) (ts : List TaskLine) (counts : Counts) : Type 0 where
  pub before : List (List ℕ)
  pub cs : List Called
  pub split : lines_of input ≡ before ++ lines_of (drop at input)
  pub calls : AreCalls code before cs
  pub lines : AreLinesOf code ts cs
  pub counted : (k : ℕ) → k ≤ 16 → needed_by_all cs k < 2 ^ 64 - 1 → slice_index_or counts.numbers k 0 ≡ needed_by_all cs k

pub listing_starts : (code : Code) (input : List ℕ) (ts : List TaskLine) (counts : Counts) → ts ≡ [] → ((k : ℕ) → slice_index_or counts.numbers k 0 ≡ 0) → IsListed code input 0 ts counts
listing_starts code input ts counts none zeros = record {
  before = [];
  cs = [];
  split = refl;
  calls = tt;
  lines = subst (λ xs. AreLinesOf code xs []) (sym none) tt;
  counted = λ k le few. zeros k;
}

-- ---- one more

calls_push : (code : Code) (lines : List (List ℕ)) (cs : List Called) (line : List ℕ) (c : Called) → AreCalls code lines cs → IsCall code line c → AreCalls code (lines ++ line ∷ []) (cs ++ c ∷ [])
calls_push code [] [] line c h k = (k, tt)
calls_push code [] (d ∷ cs) line c h k = absurd h
calls_push code (l ∷ lines) [] line c h k = absurd h
calls_push code (l ∷ lines) (d ∷ cs) line c h k = (h.0, calls_push code lines cs line c h.1 k)

lines_push : (code : Code) (ts : List TaskLine) (cs : List Called) (t : TaskLine) (c : Called) → AreLinesOf code ts cs → IsLineOf code t c → AreLinesOf code (ts ++ t ∷ []) (cs ++ c ∷ [])
lines_push code [] [] t c h k = (k, tt)
lines_push code [] (d ∷ cs) t c h k = absurd h
lines_push code (u ∷ ts) [] t c h k = absurd h
lines_push code (u ∷ ts) (d ∷ cs) t c h k = (h.0, lines_push code ts cs t c h.1 k)

needed_push : (cs : List Called) (c : Called) (k : ℕ) → needed_by_all (cs ++ c ∷ []) k ≡ needed_by_all cs k + wanted c.function.credits.items c.values k
needed_push [] c k = omega arith
needed_push (d ∷ cs) c k = let h = needed_push cs c k in omega (arith, h)

pub listing_on : (code : Code) (input line : List ℕ) (at next : ℕ) (ts new : List TaskLine) (t : TaskLine) (counts more : Counts) (c : Called) → IsListed code input at ts counts → lines_of (drop at input) ≡ line ∷ lines_of (drop next input) → IsCall code line c → IsLineOf code t c → Adds counts more (wanted c.function.credits.items c.values) → new ≡ ts ++ t ∷ [] → IsListed code input next new more
listing_on code input line at next ts new t counts more c h first call is adds pushed = record {
  before = h.before ++ line ∷ [];
  cs = h.cs ++ c ∷ [];
  split = h.split ∙ ap (λ ls. h.before ++ ls) first ∙ sym (append_assoc h.before (line ∷ []) (lines_of (drop next input)));
  calls = calls_push code h.before h.cs line c h.calls call;
  lines = subst (λ xs. AreLinesOf code xs (h.cs ++ c ∷ [])) (sym pushed) (lines_push code ts h.cs t c h.lines is);
  counted = λ k le few.
      let n = needed_push h.cs c k in
      let a = h.counted k le (omega (arith, n, few)) in
      let b = adds k le (omega (arith, a, n, few)) in
      omega (arith, a, b, n);
}

-- ---- as many

calls_many : (code : Code) (lines : List (List ℕ)) (cs : List Called) → AreCalls code lines cs → length lines ≡ length cs
calls_many code [] [] h = refl
calls_many code [] (c ∷ cs) h = absurd h
calls_many code (l ∷ lines) [] h = absurd h
calls_many code (l ∷ lines) (c ∷ cs) h = ap suc (calls_many code lines cs h.1)

lines_many : (code : Code) (ts : List TaskLine) (cs : List Called) → AreLinesOf code ts cs → length ts ≡ length cs
lines_many code [] [] h = refl
lines_many code [] (c ∷ cs) h = absurd h
lines_many code (t ∷ ts) [] h = absurd h
lines_many code (t ∷ ts) (c ∷ cs) h = ap suc (lines_many code ts cs h.1)

pub as_many_lines : (code : Code) (input : List ℕ) (at : ℕ) (ts : List TaskLine) (counts : Counts) → (h : IsListed code input at ts counts) → length h.before ≡ length ts
as_many_lines code input at ts counts h = calls_many code h.before h.cs h.calls ∙ sym (lines_many code ts h.cs h.lines)

-- ---- the first that is bad

bad_after : (code : Code) (n : ℕ) (before : List (List ℕ)) (cs : List Called) (line : List ℕ) (rest : List (List ℕ)) → AreCalls code before cs → n + length before ≤ most_tasks → ((most_tasks ≤ n + length before) ⊎ ((c : Called) → IsCall code line c → ⊥)) → IsFirstBad code n (before ++ line ∷ rest) (suc (n + length before))
bad_after code n [] [] line rest h few bad = inl (
  ap suc (let z : n + 0 ≡ n = omega arith in z),
  elim bad as (λ v. (most_tasks ≤ n) ⊎ ((c : Called) → IsCall code line c → ⊥)) [
    | inl many ↦ inl (omega (arith, many))
    | inr never ↦ inr never
  ],
)
bad_after code n [] (c ∷ cs) line rest h few bad = absurd h
bad_after code n (l ∷ before) [] line rest h few bad = absurd h
bad_after code n (l ∷ before) (c ∷ cs) line rest h few bad =
    let more : suc n + length before ≡ n + suc (length before) = omega arith in
    let b = bad_after code (suc n) before cs line rest h.1 (omega (arith, few)) (subst (λ m. (most_tasks ≤ m) ⊎ ((c : Called) → IsCall code line c → ⊥)) (sym more) bad) in
    inr (omega (arith, few), (c, h.0), subst (IsFirstBad code (suc n) (before ++ line ∷ rest)) (ap suc more) b)

pub first_bad : (code : Code) (input line : List ℕ) (at next k : ℕ) (ts : List TaskLine) (counts : Counts) → IsListed code input at ts counts → lines_of (drop at input) ≡ line ∷ lines_of (drop next input) → length ts < most_tasks → k ≡ length ts + 1 → ((c : Called) → IsCall code line c → ⊥) → IsFirstBad code 0 (lines_of input) k
first_bad code input line at next k ts counts h first few is never =
    let n = as_many_lines code input at ts counts h in
    let b = bad_after code 0 h.before h.cs line (lines_of (drop next input)) h.calls (omega (arith, n, few)) (inr never) in
    let number : suc (0 + length h.before) ≡ k = omega (arith, n, is) in
    subst (λ ls. IsFirstBad code 0 ls k) (sym (h.split ∙ ap (λ ls. h.before ++ ls) first)) (subst (IsFirstBad code 0 (h.before ++ line ∷ lines_of (drop next input))) number b)

-- a line more than may be
some_line : (bytes : List ℕ) → 0 < length bytes → (line : List ℕ) × (rest : List (List ℕ)) × (lines_of bytes ≡ line ∷ rest)
some_line [] lt = absurd (omega (arith, lt))
some_line (b ∷ bs) lt = by (b == 10) refl
  where
    put : (ls : List (List ℕ)) → (line : List ℕ) × (rest : List (List ℕ)) × (put_before b ls ≡ line ∷ rest)
    put [] = (b ∷ [], [], refl)
    put (l ∷ ls) = (b ∷ l, ls, refl)

    by : (t : Bool) → (b == 10) ≡ t → (line : List ℕ) × (rest : List (List ℕ)) × ((if b == 10 then [] ∷ lines_of bs else put_before b (lines_of bs)) ≡ line ∷ rest)
    by true e = ([], lines_of bs, ap (λ (t : Bool). if t then [] ∷ lines_of bs else put_before b (lines_of bs)) e)
    by false e = let p = put (lines_of bs) in (p.0, p.1, ap (λ (t : Bool). if t then [] ∷ lines_of bs else put_before b (lines_of bs)) e ∙ p.2)

left_some : (input : List ℕ) (at : ℕ) → at < length input → 0 < length (drop at input)
left_some input at lt = omega (arith, lt, length-drop at input)

pub one_too_many : (code : Code) (input : List ℕ) (at k : ℕ) (ts : List TaskLine) (counts : Counts) → IsListed code input at ts counts → at < length input → length ts ≤ most_tasks → most_tasks ≤ length ts → k ≡ length ts + 1 → IsFirstBad code 0 (lines_of input) k
one_too_many code input at k ts counts h lt few many is =
    let n = as_many_lines code input at ts counts h in
    let s = some_line (drop at input) (left_some input at lt) in
    let b = bad_after code 0 h.before h.cs s.0 s.1 h.calls (omega (arith, n, few)) (inl (omega (arith, n, many))) in
    let number : suc (0 + length h.before) ≡ k = omega (arith, n, is) in
    subst (λ ls. IsFirstBad code 0 ls k) (sym (h.split ∙ ap (λ ls. h.before ++ ls) s.2)) (subst (IsFirstBad code 0 (h.before ++ s.0 ∷ s.1)) number b)

-- ---- all lines

pub all_listed : (code : Code) (input : List ℕ) (at : ℕ) (ts : List TaskLine) (counts : Counts) → (h : IsListed code input at ts counts) → length input ≤ at → lines_of input ≡ h.before
all_listed code input at ts counts h le = h.split ∙ ap (λ ls. h.before ++ ls) (ap lines_of (none_left input at le)) ∙ append-nil h.before

-- what reading a line reports
abbrev pub IsReadLine : Code → List ℕ → Counts → Counts → TaskLine → Type 0
IsReadLine code line before after t = (c : Called) × IsCall code line c × IsLineOf code t c
    × Adds before after (wanted c.function.credits.items c.values)
