-- The two tasks of the examples begin together: by cases on the places of their cells, which are 0 and 3 of six.
use Rattle.std.proofs.Common.{◌≡◌, ◌≢◌, ◌<◌, ℕ, zero, suc, ◌+◌, pos, false, [], ◌∷◌, Some, refl, sym, subst, inl, arith, replicate, ◌∙◌}
use Rattle.std.specs.Prelude.{slice_get, FitsSigned, ◌^◌}
use Rattle.std.specs.Int.{w64}
use Rattle.std.proofs.lemmas.Option.{same_Some, none-some}
use Rattle.run_loading.specs.fip_language.Store.{PlacedInt, Bare, At, Parts, NoParts, MoreParts, word_of, uses_of_all, count}
use Rattle.run_loading.specs.machine_semantics.Cells.{Store, IsStore, cell_at, there, one_if_true, released_at}
use Rattle.run_loading.specs.machine_semantics.Steps.{Kinds}
use Rattle.run_loading.specs.machine_semantics.Apart.{IsGiven}
use Rattle.run_loading.specs.machine_semantics.Example.{reversing, at_start, types, cons, nil_shape, cons_shape}
use Rattle.run_loading.specs.machine_semantics.Runs.{Run, begun}
use Rattle.task_semantics.specs.Schedules.{in_store}
use Rattle.run_loading.specs.cell_code.Plain.{PlainFunction}
use Rattle.run_loading.specs.code_rules.Entry.{entry}
use Rattle.run_loading.specs.code_rules.Example.{reversal, function_of, rev_with, nil_taken, acc_given, cons_taken, cons_put, again, cons_known}
use Rattle.run_loading.proofs.separation_kinds.Agree.{one_apart}
use Rattle.run_loading.specs.separation.Codes.{AreKinds}
use Rattle.run_loading.specs.separation.Starts.{IsStart}
use Rattle.run_loading.proofs.separation.Sound.{formed, has_form}
use Rattle.run_loading.proofs.separation.Calling.{known_entry}
use Rattle.run_loading.proofs.separation.Examples.{reversal_starts}
use Rattle.task_semantics.specs.Projected.{Renaming, IsThere, IsLikeCell, AreRenamed, IsRenamedTree, IsRenamedFrame, IsProjected, IsSameRun, Begun, AreApart, BeginTogether, AreLoaded}
use Rattle.task_semantics.specs.ScheduleExample.{cells_of, store_of, both, rev_at, two_tasks, first_task, second_task, tasks_alone}
use Rattle.run_loading.proofs.tree_refinement.tree_semantics.machine_semantics.cell_code.fip_base.fip_language.Facts.{fits_small as small}

none_released : (n p : ℕ) → one_if_true (slice_get (replicate n false) p) ≡ 0
none_released zero p = refl
none_released (suc n) zero = refl
none_released (suc n) (suc p) = none_released n p

both_is_store : IsStore both
both_is_store = record {
  sized = ((omega arith, omega arith), (tt, (tt, ((omega arith, omega arith), (tt, (tt, ((omega arith, omega arith), (tt, (tt, ((omega arith, omega arith), (tt, (tt, tt))))))))))));
  wide = refl;
  of_cells = λ p. let e = none_released 12 p in omega (arith, e);
}

-- a task's cells are at its first six places
below_six : (item other p : ℕ) → IsThere (store_of (cells_of item 0 other)) p → p < 6
below_six item other zero h = omega arith
below_six item other (suc zero) h = omega arith
below_six item other (suc (suc zero)) h = omega arith
below_six item other (suc (suc (suc zero))) h = omega arith
below_six item other (suc (suc (suc (suc zero)))) h = omega arith
below_six item other (suc (suc (suc (suc (suc zero))))) h = omega arith
below_six item other (suc (suc (suc (suc (suc (suc p)))))) h = absurd (h refl)

first_cells : AreRenamed (λ p. p) (store_of (cells_of 1 0 3)) both
first_cells = record { rises = λ p q h k l. l; cells = cells; released = λ p h. let d = none_released 6 p in let e = none_released 12 p in e ∙ sym d }
  where
    cells : (p : ℕ) → IsThere (store_of (cells_of 1 0 3)) p → IsLikeCell (λ p. p) (cell_at (store_of (cells_of 1 0 3)) p) (cell_at both p)
    cells zero h = (refl, (inl refl, (inl refl, tt)))
    cells (suc zero) h = absurd (h refl)
    cells (suc (suc zero)) h = absurd (h refl)
    cells (suc (suc (suc zero))) h = (refl, (inl refl, (inl refl, tt)))
    cells (suc (suc (suc (suc zero)))) h = absurd (h refl)
    cells (suc (suc (suc (suc (suc zero))))) h = absurd (h refl)
    cells (suc (suc (suc (suc (suc (suc p)))))) h = absurd (h refl)

moves : (p q : ℕ) → p < q → 6 + p < 6 + q
moves p q h = omega (arith, h)

second_cells : AreRenamed (λ p. 6 + p) (store_of (cells_of 2 0 4)) both
second_cells = record { rises = λ p q h k l. moves p q l; cells = cells; released = λ p h. let d = none_released 6 p in let e = none_released 12 (6 + p) in e ∙ sym d }
  where
    cells : (p : ℕ) → IsThere (store_of (cells_of 2 0 4)) p → IsLikeCell (λ p. 6 + p) (cell_at (store_of (cells_of 2 0 4)) p) (cell_at both (6 + p))
    cells zero h = (refl, (inl refl, (inl refl, tt)))
    cells (suc zero) h = absurd (h refl)
    cells (suc (suc zero)) h = absurd (h refl)
    cells (suc (suc (suc zero))) h = (refl, (inl refl, (inl refl, tt)))
    cells (suc (suc (suc (suc zero)))) h = absurd (h refl)
    cells (suc (suc (suc (suc (suc zero))))) h = absurd (h refl)
    cells (suc (suc (suc (suc (suc (suc p)))))) h = absurd (h refl)

-- a list of one item, in a cell of both stores
one_item : (f : Renaming) (own : Store) (p n : ℕ) (w v : ℕ) → word_of (At p 1 (MoreParts (PlacedInt (pos n)) (MoreParts (Bare 0) NoParts))) ≡ w → word_of (At (f p) 1 (MoreParts (PlacedInt (pos n)) (MoreParts (Bare 0) NoParts))) ≡ v → FitsSigned w64 (pos n) → cell_at own p ≡ cons n 0 → cell_at both (f p) ≡ cons n 0 → IsRenamedTree types f own both 2 w v
one_item f own p n w v a b fits h k = record {
  tree = At p 1 (MoreParts (PlacedInt (pos n)) (MoreParts (Bare 0) NoParts));
  alone = record { word = a; stands = (h, tt, cons_shape, refl, (fits, ((nil_shape, refl, refl), tt))) };
  among = record { word = b; stands = (k, tt, cons_shape, refl, (fits, ((nil_shape, refl, refl), tt))) };
}

-- the two tasks, where these are the kinds before the first instruction
abbrev AtStart : Kinds → Type 0
AtStart before = before 0 0 ≡ at_start 0 0

first_running : IsRenamedFrame types (λ p. p) first_task.state.store both (at_start 0 0) first_task.state.running (rev_at 0 both 1 7 0).running
first_running = record {
  function = refl;
  at = refl;
  words = (one_item (λ p. p) (store_of (cells_of 1 0 3)) 0 1 1 1 refl refl (small 1 (omega arith)) refl refl, (one_item (λ p. p) (store_of (cells_of 1 0 3)) 3 3 7 7 refl refl (small 3 (omega arith)) refl refl, (inl refl, (inl refl, (inl refl, (inl refl, (inl refl, tt)))))));
}

first_projected : (before waits : Kinds) → AtStart before → IsProjected before waits reversing (λ p. p) first_task.state (rev_at 0 both 1 7 0)
first_projected before waits e = record {
  cells = first_cells;
  running = subst (λ ks. IsRenamedFrame types (λ p. p) first_task.state.store both ks first_task.state.running (rev_at 0 both 1 7 0).running) (sym e) first_running;
  waiting = tt;
  free = refl;
  lent = tt;
}

second_running : IsRenamedFrame types (λ p. 6 + p) second_task.state.store both (at_start 0 0) second_task.state.running (rev_at 0 both 13 19 0).running
second_running = record {
  function = refl;
  at = refl;
  words = (one_item (λ p. 6 + p) (store_of (cells_of 2 0 4)) 0 2 1 13 refl refl (small 2 (omega arith)) refl refl, (one_item (λ p. 6 + p) (store_of (cells_of 2 0 4)) 3 4 7 19 refl refl (small 4 (omega arith)) refl refl, (inl refl, (inl refl, (inl refl, (inl refl, (inl refl, tt)))))));
}

second_projected : (before waits : Kinds) → AtStart before → IsProjected before waits reversing (λ p. 6 + p) second_task.state (rev_at 0 both 13 19 0)
second_projected before waits e = record {
  cells = second_cells;
  running = subst (λ ks. IsRenamedFrame types (λ p. 6 + p) second_task.state.store both ks second_task.state.running (rev_at 0 both 13 19 0).running) (sym e) second_running;
  waiting = tt;
  free = refl;
  lent = tt;
}

same : (before waits : Kinds) → AtStart before → (k : ℕ) (t : Begun) (r : Run) → slice_get tasks_alone k ≡ Some t → slice_get (two_tasks 2).runs k ≡ Some r → IsSameRun before waits reversing t.function t.places (begun t.state t.calls) (in_store both r)
same before waits s zero t r e f =
    subst (λ (x : Begun). IsSameRun before waits reversing x.function x.places (begun x.state x.calls) (in_store both r)) (same_Some first_task t e)
    (subst (λ x. IsSameRun before waits reversing 0 (λ p. p) (begun first_task.state 2) (in_store both x)) (same_Some _ r f) (first_projected before waits s, refl, refl))
same before waits s (suc zero) t r e f =
    subst (λ (x : Begun). IsSameRun before waits reversing x.function x.places (begun x.state x.calls) (in_store both r)) (same_Some second_task t e)
    (subst (λ x. IsSameRun before waits reversing 0 (λ p. 6 + p) (begun second_task.state 2) (in_store both x)) (same_Some _ r f) (second_projected before waits s, refl, refl))
same before waits s (suc (suc k)) t r e f = absurd (none-some t e)

apart_there : (p q : ℕ) → p < 6 → p ≢ 6 + q
apart_there p q h e = absurd (omega (arith, h, e))

apart : AreApart tasks_alone
apart zero zero p q a b e f n h k = absurd (n refl)
apart zero (suc zero) p q a b e f n h k =
    let low = below_six 1 3 p (subst (λ (x : Begun). IsThere x.state.store p) (sym (same_Some first_task a e)) h) in
    subst (λ (x : Begun). x.places p ≢ b.places q) (same_Some first_task a e) (subst (λ (y : Begun). p ≢ y.places q) (same_Some second_task b f) (apart_there p q low))
apart (suc zero) zero p q a b e f n h k =
    let low = below_six 1 3 q (subst (λ (x : Begun). IsThere x.state.store q) (sym (same_Some first_task b f)) k) in
    subst (λ (x : Begun). x.places p ≢ b.places q) (same_Some second_task a e) (subst (λ (y : Begun). 6 + p ≢ y.places q) (same_Some first_task b f) (λ l. apart_there q p low (sym l)))
apart (suc zero) (suc zero) p q a b e f n h k = absurd (n refl)
apart zero (suc (suc j)) p q a b e f n h k = absurd (none-some b f)
apart (suc zero) (suc (suc j)) p q a b e f n h k = absurd (none-some b f)
apart (suc (suc i)) j p q a b e f n h k = absurd (none-some a e)

begin_by : (before waits : Kinds) → AtStart before → BeginTogether before waits reversing tasks_alone (two_tasks 2)
begin_by before waits e = record { store = both_is_store; apart = apart; number = refl; same = same before waits e }

pub begin : BeginTogether at_start at_start reversing tasks_alone (two_tasks 2)
begin = begin_by at_start at_start refl

-- ---- the code is sound

abbrev rev : PlainFunction
rev = function_of (2 ∷ []) (rev_with nil_taken acc_given cons_taken cons_put again) cons_known

known : (before waits : Kinds) → AreKinds reversal before waits → AtStart before
known before waits kinds = kinds.known 0 0 rev (entry reversal rev) refl (known_entry reversal rev (has_form reversal rev (formed reversal 0 rev (reversal_starts before waits kinds).sound refl)))

pub begins : (before waits : Kinds) → AreKinds reversal before waits → BeginTogether before waits reversal tasks_alone (two_tasks 2)
begins before waits kinds = begin_by before waits (known before waits kinds)

-- two lists of one item each
abbrev lists : ℕ → ℕ → Parts
lists item other = MoreParts (At 0 1 (MoreParts (PlacedInt (pos item)) (MoreParts (Bare 0) NoParts))) (MoreParts (At 3 1 (MoreParts (PlacedInt (pos other)) (MoreParts (Bare 0) NoParts))) NoParts)

once : (item other q : ℕ) → uses_of_all q (lists item other) + (count q [] + (count q [] + released_at (store_of (cells_of item 0 other)) q)) ≡ there (store_of (cells_of item 0 other)) q
once item other zero = refl
once item other (suc zero) = refl
once item other (suc (suc zero)) = refl
once item other (suc (suc (suc zero))) = refl
once item other (suc (suc (suc (suc zero)))) = refl
once item other (suc (suc (suc (suc (suc zero))))) = refl
once item other (suc (suc (suc (suc (suc (suc q)))))) =
    let a = one_apart (suc (suc (suc (suc (suc (suc q)))))) 0 (λ e. absurd (let z : ⊥ = omega arith in z)) in
    let b = one_apart (suc (suc (suc (suc (suc (suc q)))))) 3 (λ e. absurd (let z : ⊥ = omega arith in z)) in
    let n = none_released 6 (suc (suc (suc (suc (suc (suc q)))))) in
    omega arith

task_is_store : (item other : ℕ) → IsStore (store_of (cells_of item 0 other))
task_is_store item other = record {
  sized = ((omega arith, omega arith), (tt, (tt, ((omega arith, omega arith), (tt, (tt, tt))))));
  wide = refl;
  of_cells = λ p. let e = none_released 6 p in omega (arith, e);
}

given : (item other : ℕ) → item < 2 ^ 63 → other < 2 ^ 63 → IsGiven types rev (store_of (cells_of item 0 other)) [] (1 ∷ 7 ∷ [])
given item other h k = record {
  store = task_is_store item other;
  arguments = lists item other;
  spares = [];
  words = refl;
  stand = ((refl, tt, cons_shape, refl, (small item h, ((nil_shape, refl, refl), tt))), ((refl, tt, cons_shape, refl, (small other k, ((nil_shape, refl, refl), tt))), tt));
  credits = tt;
  once = once item other;
}

starts : (before waits : Kinds) → AreKinds reversal before waits → (item other : ℕ) → item < 2 ^ 63 → other < 2 ^ 63 → IsStart reversal before waits 0 [] (rev_at 0 (store_of (cells_of item 0 other)) 1 7 0)
starts before waits kinds item other h k = let s = reversal_starts before waits kinds in record {
  sound = s.sound;
  literals = s.literals;
  kinds = kinds;
  function = rev;
  is = refl;
  words = 1 ∷ 7 ∷ [];
  given = given item other h k;
  free = 0;
  loaded = refl;
}

pub loaded : (before waits : Kinds) → AreKinds reversal before waits → AreLoaded before waits reversal tasks_alone
loaded before waits kinds zero t e = subst (λ (x : Begun). IsStart reversal before waits x.function [] x.state) (same_Some first_task t e) (starts before waits kinds 1 3 (omega arith) (omega arith))
loaded before waits kinds (suc zero) t e = subst (λ (x : Begun). IsStart reversal before waits x.function [] x.state) (same_Some second_task t e) (starts before waits kinds 2 4 (omega arith) (omega arith))
loaded before waits kinds (suc (suc k)) t e = absurd (none-some t e)
