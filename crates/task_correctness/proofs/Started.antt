-- Calls that are laid out one after another are started there: by recursion on their list.
use Rattle.std.proofs.Common.{◌≡◌, ◌≤◌, ℕ, zero, suc, ◌+◌, List, [], ◌∷◌, Option, Some, None, refl, sym, ap, subst, ◌∙◌, length, map, length-append, arith}
use Rattle.std.proofs.lemmas.List.{length-map}
use Rattle.std.proofs.lemmas.Option.{none-some, same_Some, slice_get-map}
use Rattle.std.specs.Prelude.{slice_get, option_map}
use Rattle.fip_tasks.specs.fip_base.declared.plain.Param.{Param}
use Rattle.fip_tasks.specs.fip_language.Table.{Table, HaveTypes}
use Rattle.fip_tasks.specs.fip_language.Values.{Values, End, More}
use Rattle.fip_tasks.specs.cell_code.declared.code.Code.{Code}
use Rattle.fip_tasks.specs.cell_code.declared.code.Function.{Function}
use Rattle.fip_tasks.specs.cell_code.Plain.{PlainFunction, PlainCode, plain_function, plain, function_at}
use Rattle.machine_correctness.specs.machine_semantics.Cells.{Store}
use Rattle.machine_correctness.specs.machine_semantics.Runs.{Run, loaded, begun}
use Rattle.machine_correctness.specs.code_rules.Breaks.{IsSound}
use Rattle.fip_tasks.specs.code_verify.Checked.{Checked}
use Rattle.machine_correctness.proofs.separation.Sound.{formed, has_form}
use Rattle.machine_correctness.specs.run_loading.Loading.{value_places, all_places, all_words, credit_words}
use Rattle.fip_tasks.specs.task_semantics.Laid.{Task, IsBegun, AreBegun, AreLaid, shared_store, task_places, task_words}
use Rattle.fip_tasks.specs.task_semantics.Projected.{Begun}
use Rattle.fip_tasks.specs.task_semantics.Schedules.{Shared}
use Rattle.fip_tasks.specs.Shown.{IsStarted, AreStarted}
use Rattle.fip_tasks.specs.declared.task.Start.{Start}
use Rattle.task_correctness.specs.Answered.{IsStartOf, AreStartsOf}
use Rattle.machine_correctness.proofs.compiler_correctness.derivation_correctness.source_report.cell_lower.fip_language.Facts.{mapped_from as mapped}

-- a verified function, after its plain form
pub function_of : (c : Code) (n : ℕ) (f : PlainFunction) → function_at (plain c) n ≡ Some f → (g : Function) × (slice_get c.functions.items n ≡ Some g) × (plain_function g ≡ f)
function_of c n f e = mapped plain_function (slice_get c.functions.items n) f (sym (slice_get-map plain_function c.functions.items n) ∙ e)

-- ---- as many words as parameters and credits

values_long : (tb : Table) (ts : List ℕ) (n : ℕ) (vs : Values) → HaveTypes tb ts vs → length (all_words n vs) ≡ length ts
values_long tb [] n End h = refl
values_long tb [] n (More v vs) h = absurd h
values_long tb (t ∷ ts) n End h = absurd h
values_long tb (t ∷ ts) n (More v vs) h = ap suc (values_long tb ts (n + length (value_places n v)) vs h.1)

credits_long : (n : ℕ) (ks : List ℕ) → length (credit_words n ks) ≡ length ks
credits_long n [] = refl
credits_long n (k ∷ ks) = ap suc (credits_long (n + suc k) ks)

words_fit : (c : PlainCode) (n : ℕ) (t : Task) → IsSound c → function_at c t.function ≡ Some t.header → HaveTypes c.types (map (λ (p : Param). p.ty) t.header.params) t.arguments → length (task_words n t) ≤ t.header.registers
words_fit c n t sound there typed =
    let all = all_words n t.arguments in
    let spare = credit_words (n + length (all_places n t.arguments)) t.header.credits in
    let whole = length-append all spare in
    let values = values_long c.types (map (λ (p : Param). p.ty) t.header.params) n t.arguments typed in
    let types = length-map t.header.params (λ (p : Param). p.ty) in
    let credits = credits_long (n + length (all_places n t.arguments)) t.header.credits in
    let room = (has_form c t.header (formed c t.function t.header sound there)).room in
    omega (arith, whole, values, types, credits, room)

-- ---- one, and each

is_started : (v : Checked) (shared : Store) (n : ℕ) (t : Task) (b : Begun) (r : Run) (s : Start) → IsSound (plain v.code) → IsBegun (plain v.code) shared n t b r → IsStartOf n t s → IsStarted v shared s r
is_started v shared n t b r s sound i is =
    let g = function_of v.code t.function t.header i.task.there in
    let fits : length (task_words n t) ≤ g.0.registers = subst (λ (f : PlainFunction). length (task_words n t) ≤ f.registers) (sym g.2) (words_fit (plain v.code) n t sound i.task.there i.task.typed) in
    let first : loaded (plain v.code) t.function shared (task_words n t) t.frames ≡ Some i.among = i.further in
    record {
      function = g.0;
      there = ap (slice_get v.code.functions.items) is.entry ∙ g.1;
      fits = subst (λ (ws : List ℕ). length ws ≤ g.0.registers) (sym is.words) fits;
      first = i.among;
      loaded = (λ j. loaded (plain v.code) (is.entry j) shared (is.words j) (is.frames j)) ∙ first;
      run = i.run ∙ ap (begun i.among) (sym is.calls);
    }

are_as_many : (c : PlainCode) (shared : Store) (n : ℕ) (ts : List Task) (bs : List Begun) (rs : List Run) (ss : List Start) → AreBegun c shared n ts bs rs → AreStartsOf n ts ss → length rs ≡ length ss
are_as_many c shared n [] [] [] [] h k = refl
are_as_many c shared n [] [] [] (s ∷ ss) h k = absurd k
are_as_many c shared n [] [] (r ∷ rs) ss h k = absurd h
are_as_many c shared n [] (b ∷ bs) rs ss h k = absurd h
are_as_many c shared n (t ∷ ts) [] rs ss h k = absurd h
are_as_many c shared n (t ∷ ts) (b ∷ bs) [] ss h k = absurd h
are_as_many c shared n (t ∷ ts) (b ∷ bs) (r ∷ rs) [] h k = absurd k
are_as_many c shared n (t ∷ ts) (b ∷ bs) (r ∷ rs) (s ∷ ss) h k = ap suc (are_as_many c shared (n + length (task_places n t)) ts bs rs ss h.1 k.1)

each_started : (v : Checked) (shared : Store) (n : ℕ) (ts : List Task) (bs : List Begun) (rs : List Run) (ss : List Start) → IsSound (plain v.code) → AreBegun (plain v.code) shared n ts bs rs → AreStartsOf n ts ss → (k : ℕ) (s : Start) (r : Run) → slice_get ss k ≡ Some s → slice_get rs k ≡ Some r → IsStarted v shared s r
each_started v shared n [] [] [] [] sound h is k s r e f = absurd (none-some s e)
each_started v shared n [] [] [] (x ∷ xs) sound h is k s r e f = absurd is
each_started v shared n [] [] (y ∷ ys) ss sound h is k s r e f = absurd h
each_started v shared n [] (b ∷ bs) rs ss sound h is k s r e f = absurd h
each_started v shared n (t ∷ ts) [] rs ss sound h is k s r e f = absurd h
each_started v shared n (t ∷ ts) (b ∷ bs) [] ss sound h is k s r e f = absurd h
each_started v shared n (t ∷ ts) (b ∷ bs) (y ∷ ys) [] sound h is k s r e f = absurd is
each_started v shared n (t ∷ ts) (b ∷ bs) (y ∷ ys) (x ∷ xs) sound h is zero s r e f =
    let started : IsStarted v shared x y = is_started v shared n t b y x sound h.0 is.0 in
    subst (λ (q : Run). IsStarted v shared s q) (same_Some y r f) (subst (λ (z : Start). IsStarted v shared z y) (same_Some x s e) started)
each_started v shared n (t ∷ ts) (b ∷ bs) (y ∷ ys) (x ∷ xs) sound h is (suc k) s r e f = each_started v shared (n + length (task_places n t)) ts bs ys xs sound h.1 is.1 k s r e f

pub are_started : (v : Checked) (tasks : List Task) (alone : List Begun) (first : Shared) (starts : List Start) → IsSound (plain v.code) → AreLaid (plain v.code) tasks alone first → AreStartsOf 0 tasks starts → AreStarted v (shared_store tasks) starts first
are_started v tasks alone first starts sound laid is = record {
  store = laid.store;
  number = are_as_many (plain v.code) (shared_store tasks) 0 tasks alone first.runs starts laid.begun is;
  runs = each_started v (shared_store tasks) 0 tasks alone first.runs starts sound laid.begun is;
}
