-- Each task reaches an end where it has turns enough: alone it ends after so many steps, and its number occurs in the
-- schedule at least as often.
use Rattle.std.proofs.Common.{◌≡◌, ℕ, zero, suc, ◌+◌, ◌-◌, ◌<◌, ◌≤◌, List, [], ◌∷◌, ◌++◌, length, Option, Some, None, slice_get, refl, sym, ap, ◌∙◌, subst, arith}
use Rattle.std.specs.Prelude.{replicate, slice_set}
use Rattle.std.proofs.lemmas.Option.{none-some, same_Some}
use Rattle.run_loading.specs.fip_language.Every.{Every}
use Rattle.run_loading.specs.fip_language.Store.{count}
use Rattle.run_loading.proofs.fip_language.Search.{slice_get_there}
use Rattle.run_loading.specs.cell_code.Plain.{PlainCode}
use Rattle.run_loading.specs.machine_semantics.Runs.{Run, Going, Over, begun, later, after}
use Rattle.run_loading.specs.machine_semantics.Cells.{Store}
use Rattle.run_loading.specs.machine_semantics.Steps.{Kinds}
use Rattle.run_loading.proofs.separation_kinds.Agree.{one_here}
use Rattle.run_loading.proofs.separation.Stores.{count_append}
use Rattle.run_loading.specs.code_rules.Breaks.{IsSound}
use Rattle.run_loading.specs.separation.Codes.{HasLiterals, AreKinds}
use Rattle.run_loading.specs.separation.Starts.{IsStart}
use Rattle.run_loading.proofs.separation_bounds.Ending.{run_ends}
use Rattle.task_semantics.specs.Projected.{Begun, IsSameRun}
use Rattle.task_semantics.specs.Schedules.{Shared, in_store, turn, turned, scheduled, in_order, IsOver, EndsAll}
use Rattle.task_semantics.proofs.Scheduling.{each_is_alone}
use Rattle.task_semantics.specs.Laid.{Task, AreLaid}
use Rattle.task_semantics.proofs.Laid.{begin_together, are_loaded}
use Rattle.run_loading.proofs.tree_refinement.tree_semantics.machine_semantics.cell_code.fip_base.fip_language.Facts.{get_within as within, length_set as set_long}

-- ---- a run that is over stays so

over_on : (kinds : Kinds) (code : PlainCode) (d : ℕ) (r : Run) → IsOver r → IsOver (after kinds code d r)
over_on kinds code zero r h = h
over_on kinds code (suc d) (Going s left n) h = absurd h
over_on kinds code (suc d) (Over e s left n) h = over_on kinds code d (Over e s left n) tt

over_later : (kinds : Kinds) (code : PlainCode) (m d : ℕ) (r : Run) → IsOver (after kinds code m r) → IsOver (after kinds code (m + d) r)
over_later kinds code zero d r h =
    let z : d ≡ zero + d = omega arith in
    subst (λ k. IsOver (after kinds code k r)) z (over_on kinds code d r h)
over_later kinds code (suc m) d r h =
    let z : suc (m + d) ≡ suc m + d = omega arith in
    subst (λ k. IsOver (after kinds code k r)) z (over_later kinds code m d (later kinds code r) h)

over_after : (kinds : Kinds) (code : PlainCode) (m n : ℕ) (r : Run) → m ≤ n → IsOver (after kinds code m r) → IsOver (after kinds code n r)
over_after kinds code m n r l h =
    let z : m + (n - m) ≡ n = omega (arith, l) in
    subst (λ k. IsOver (after kinds code k r)) z (over_later kinds code m (n - m) r h)

-- ---- so many turns each

-- after so many steps each task is over alone
record EachEnds (kinds : Kinds) (code : PlainCode) (tasks : List Begun) : Type 0 where
  numbers : List ℕ
  ends : (k : ℕ) (b : Begun) → slice_get tasks k ≡ Some b → (m : ℕ) × (slice_get numbers k ≡ Some m) × IsOver (after kinds code m (begun b.state b.calls))

each_ends : (c : PlainCode) (before waits : Kinds) (tasks : List Begun) → ((k : ℕ) (b : Begun) → slice_get tasks k ≡ Some b → IsStart c before waits b.function [] b.state) → EachEnds before c tasks
each_ends c before waits [] h = record { numbers = []; ends = λ k b e. absurd (none-some b e) }
each_ends c before waits (a ∷ tasks) h =
    let rest = each_ends c before waits tasks (λ k. h (suc k)) in
    let over = run_ends c before waits a.function [] a.state a.calls (h 0 a refl) in
    let enough : ℕ = (over.4).enough in
    let here : IsOver (after before c enough (begun a.state a.calls)) = subst IsOver (sym (over.4).is) tt in
    record { numbers = enough ∷ rest.numbers; ends = λ k b e. at enough here rest k b e }
  where
    at : (enough : ℕ) → IsOver (after before c enough (begun a.state a.calls)) → (rest : EachEnds before c tasks) → (k : ℕ) (b : Begun) → slice_get (a ∷ tasks) k ≡ Some b → (m : ℕ) × (slice_get (enough ∷ rest.numbers) k ≡ Some m) × IsOver (after before c m (begun b.state b.calls))
    at enough here rest zero b e = (enough, refl, subst (λ (b : Begun). IsOver (after before c enough (begun b.state b.calls))) (same_Some a b e) here)
    at enough here rest (suc k) b e = rest.ends k b e

count_of : (k n : ℕ) → n ≤ count k (replicate n k)
count_of k zero = omega arith
count_of k (suc n) = let here = one_here k k refl in let rest = count_of k n in omega (arith, here, rest)

turns_of : (j k i : ℕ) (ns : List ℕ) (m : ℕ) → k ≡ j + i → slice_get ns i ≡ Some m → m ≤ count k (in_order j ns)
turns_of j k i [] m e h = absurd (none-some m h)
turns_of j k zero (n ∷ ns) m e h =
    let all = count_append k (replicate n j) (in_order (suc j) ns) in
    let same : n ≡ m = same_Some n m h in
    let z : k ≡ j = omega (arith, e) in
    let mine = subst (λ j. n ≤ count k (replicate n j)) z (count_of k n) in
    omega (arith, all, same, mine)
turns_of j k (suc i) (n ∷ ns) m e h =
    let all = count_append k (replicate n j) (in_order (suc j) ns) in
    let rest = turns_of (suc j) k i ns m (omega (arith, e)) h in
    omega (arith, all, rest)

-- ---- there are as many runs as before

turned_long : (kinds : Kinds) (code : PlainCode) (t : Shared) (k : ℕ) (o : Option Run) → length (turned kinds code t k o).runs ≡ length t.runs
turned_long kinds code t k None = refl
turned_long kinds code t k (Some r) = set_long t.runs k (later kinds code (in_store t.store r))

all_long : (kinds : Kinds) (code : PlainCode) (ks : List ℕ) (t : Shared) → length (scheduled kinds code ks t).runs ≡ length t.runs
all_long kinds code [] t = refl
all_long kinds code (k ∷ ks) t = all_long kinds code ks (turn kinds code t k) ∙ turned_long kinds code t k (slice_get t.runs k)

every_at : {A : Type 0} (P : A → Type 0) (xs : List A) → ((k : ℕ) (x : A) → slice_get xs k ≡ Some x → P x) → Every P xs
every_at P [] h = tt
every_at P (x ∷ xs) h = (h 0 x refl, every_at P xs (λ k. h (suc k)))

-- ---- all end

over_by : (before waits : Kinds) (code : PlainCode) (n : ℕ) (f : ℕ → ℕ) (s : Store) (q r : Run) → IsOver q → IsSameRun before waits code n f q (in_store s r) → IsOver r
over_by before waits code n f s (Going a left m) r h i = absurd h
over_by before waits code n f s (Over e a left m) (Going b more k) h i = absurd i
over_by before waits code n f s (Over e a left m) (Over d b more k) h i = tt

pub all_end : (c : PlainCode) (before waits : Kinds) (tasks : List Task) (alone : List Begun) (first : Shared) (drawn : List ℕ) → IsSound c → HasLiterals c → AreKinds c before waits → AreLaid c tasks alone first → (schedule : List ℕ) × EndsAll before c first drawn schedule
all_end c before waits tasks alone first drawn sound literals kinds laid =
    let loaded = are_loaded c before waits tasks alone first sound literals kinds laid in
    let together = begin_together c before waits tasks alone first sound literals kinds laid in
    let each = each_ends c before waits alone loaded in
    let schedule : List ℕ = drawn ++ in_order 0 each.numbers in
    let last : Shared = scheduled before c schedule first in (
      schedule,
      record {
        numbers = each.numbers;
        is = refl;
        over = every_at IsOver last.runs (λ k r e.
            let there = within last.runs k r e in
            let runs = all_long before c schedule first in
            let number = together.number in
            let b = slice_get_there alone k (omega (arith, there, runs, number)) in
            let end = each.ends k b.0 b.1 in
            let turns = count_append k drawn (in_order 0 each.numbers) in
            let enough = turns_of 0 k k each.numbers end.0 (omega arith) end.1 in
            over_by before waits c (b.0).function (b.0).places last.store (after before c (count k schedule) (begun (b.0).state (b.0).calls)) r
            (over_after before c end.0 (count k schedule) (begun (b.0).state (b.0).calls) (omega (arith, turns, enough)) end.2)
            (each_is_alone before waits c alone first loaded together schedule k b.0 r b.1 e));
      },
    )
