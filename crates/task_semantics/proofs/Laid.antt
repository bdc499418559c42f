-- Tasks that are loaded one after another begin together, and each of them is loaded.
-- The idea: of each task it is known from which place to which its cells are, so two tasks have none in common; and
-- where it begins is said of any store that has its places from there on.
use Rattle.std.proofs.Common.{◌≡◌, ◌≢◌, inl, inr, ℕ, zero, suc, ◌+◌, ◌<◌, ◌≤◌, false, List, [], ◌∷◌, ◌++◌, length, map, Option, Some, None, slice_get, refl, sym, ap, ap₂, ◌∙◌, subst, arith}
use Rattle.std.proofs.lemmas.List.{length-replicate}
use Rattle.std.proofs.lemmas.Option.{none-some, same_Some}
use Rattle.run_loading.specs.fip_language.Every.{Every}
use Rattle.run_loading.specs.fip_language.Store.{Cell, Parts}
use Rattle.run_loading.specs.fip_language.Values.{Values}
use Rattle.run_loading.specs.machine_semantics.Cells.{Store, IsSized, IsStore, cell_in}
use Rattle.run_loading.specs.machine_semantics.Runs.{Run, loaded_in, begun}
use Rattle.run_loading.specs.machine_semantics.States.{State}
use Rattle.run_loading.specs.machine_semantics.Steps.{Kinds}
use Rattle.run_loading.specs.machine_semantics.Trees.{StandAll}
use Rattle.run_loading.specs.code_rules.Breaks.{IsSound}
use Rattle.run_loading.specs.cell_code.Plain.{PlainCode}
use Rattle.run_loading.proofs.separation_kinds.Basics.{less_or_not}
use Rattle.run_loading.specs.separation.Codes.{HasLiterals, AreKinds}
use Rattle.run_loading.specs.separation.Starts.{IsStart}
use Rattle.run_loading.proofs.separation.Calling.{length_append}
use Rattle.run_loading.proofs.separation.Loading.{loaded_is}
use Rattle.run_loading.proofs.separation.Sound.{formed}
use Rattle.run_loading.specs.Loading.{all_places, credit_places, unreleased, first_store, first_words}
use Rattle.run_loading.proofs.Begins.{placed_all, placed_words, placed_stand, Has, has_left, has_right, has_all, spots, spot_words, sized_append, few_fields, all_sized, credits_sized, sizes_formed, none_released, begins, is_loaded}
use Rattle.task_semantics.specs.Projected.{Begun, IsThere, AreRenamed, renamed_parts, IsProjected, IsSameRun, BeginTogether, AreLoaded}
use Rattle.task_semantics.specs.Schedules.{Shared, in_store}
use Rattle.task_semantics.specs.Laid.{Task, IsTask, task_places, task_words, laid, shared_store, IsBegun, AreBegun, AreLaid}
use Rattle.task_semantics.proofs.Moving.{moved, trees_moved, spots_moved, task_moved, cell_moved, all_long}
use Rattle.task_semantics.proofs.Entries.{first_state, given_words, first_projected}
use Rattle.task_semantics.proofs.Beginning.{same_begun}

-- ---- one task

-- how many places its cells take, wherever they lie
task_long : (n : ℕ) (t : Task) → length (task_places 0 t) ≡ length (task_places n t)
task_long n t =
    let a = length_append (all_places 0 t.arguments) (credit_places t.header.credits) in
    let b = length_append (all_places n t.arguments) (credit_places t.header.credits) in
    let l = all_long 0 n t.arguments in
    omega (arith, a, b, l)

within : (os : List (Option Cell)) (p : ℕ) → cell_in os p ≢ None → p < length os
within [] p h = absurd (h refl)
within (o ∷ os) zero h = omega arith
within (o ∷ os) (suc p) h = let r = within os p h in omega (arith, r)

abbrev own_store : Task → Store
own_store t = first_store t.arguments t.header.credits

spots_long : (n : ℕ) (ks : List ℕ) → length (spots n ks) ≡ length ks
spots_long n [] = refl
spots_long n (k ∷ ks) = ap suc (spots_long (n + suc k) ks)

own_words : (t : Task) → first_words t.arguments t.header.credits ≡ given_words (placed_all 0 t.arguments) (spots (length (all_places 0 t.arguments)) t.header.credits)
own_words t = ap₂ (λ us ws. us ++ ws) (sym (placed_words 0 t.arguments)) (sym (spot_words (length (all_places 0 t.arguments)) t.header.credits))

words_among : (n : ℕ) (t : Task) → task_words n t ≡ given_words (renamed_parts (moved n) (placed_all 0 t.arguments)) (map (moved n) (spots (length (all_places 0 t.arguments)) t.header.credits))
words_among n t =
    let low : ℕ = length (all_places 0 t.arguments) in
    let high : ℕ = n + length (all_places n t.arguments) in
    let l = all_long 0 n t.arguments in
    let z : high ≡ n + low = omega (arith, l) in
    let y : n ≡ n + 0 = omega arith in
    ap₂ (λ us ws. us ++ ws) (sym (placed_words n t.arguments)) (sym (spot_words high t.header.credits))
    ∙ ap₂ (λ xs ps. given_words xs ps) (sym (trees_moved n 0 n t.arguments y)) (sym (spots_moved n low high t.header.credits z))

module _ (c : PlainCode) (before waits : Kinds) (os : List (Option Cell)) (n : ℕ) (t : Task) where
  renamed_cells : Has (unreleased os) n (task_places n t) → AreRenamed (moved n) (own_store t) (unreleased os)
  renamed_cells has = record {
    rises = λ p q h k l. omega (arith, l);
    cells = λ p there. cell_moved n (task_places 0 t) (task_places n t) (unreleased os) p (task_moved n t) has there;
    released = λ p there. none_released (length os) (n + p) ∙ sym (none_released (length (task_places 0 t)) p);
  }

  projected : IsSound c → AreKinds c before waits → IsTask c t → Has (unreleased os) n (task_places n t) → IsProjected before waits c (moved n) (first_state c t.function t.header (own_store t) (first_words t.arguments t.header.credits) t.frames) (first_state c t.function t.header (unreleased os) (task_words n t) t.frames)
  projected sound kinds task has =
      let vs : Values = t.arguments in
      let ks : List ℕ = t.header.credits in
      let xs : Parts = placed_all 0 vs in
      let ps : List ℕ = spots (length (all_places 0 vs)) ks in
      let y : n ≡ n + 0 = omega arith in
      let here : StandAll c.types (own_store t) (map (λ q. q.ty) t.header.params) xs =
      placed_stand c.types (own_store t) (map (λ q. q.ty) t.header.params) 0 vs task.typed (has_left (own_store t) 0 (all_places 0 vs) (credit_places ks) (has_all (own_store t))) in
      let there : StandAll c.types (unreleased os) (map (λ q. q.ty) t.header.params) (placed_all n vs) =
      placed_stand c.types (unreleased os) (map (λ q. q.ty) t.header.params) n vs task.typed (has_left (unreleased os) n (all_places n vs) (credit_places ks) has) in
      subst (λ ws. IsProjected before waits c (moved n) (first_state c t.function t.header (own_store t) ws t.frames) (first_state c t.function t.header (unreleased os) (task_words n t) t.frames)) (sym (own_words t))
      (subst (λ ws. IsProjected before waits c (moved n) (first_state c t.function t.header (own_store t) (given_words xs ps) t.frames) (first_state c t.function t.header (unreleased os) ws t.frames)) (sym (words_among n t))
      (first_projected (moved n) c before waits (own_store t) (unreleased os) t.function t.header xs ps t.frames sound kinds task.there (renamed_cells has) here
      (subst (StandAll c.types (unreleased os) (map (λ q. q.ty) t.header.params)) (sym (trees_moved n 0 n vs y)) there)
      (spots_long (length (all_places 0 vs)) ks)))

-- what is known of the task with number k: its places are from one on to another, and it begins so
record IsKnown (c : PlainCode) (before waits : Kinds) (shared : Store) (low k : ℕ) (b : Begun) (rs : List Run) : Type 0 where
  from : ℕ
  to : ℕ
  following : low ≤ from
  places : (p : ℕ) → IsThere b.state.store p → (from ≤ b.places p) × (b.places p < to)
  start : IsStart c before waits b.function [] b.state
  run : Run
  is : slice_get rs k ≡ Some run
  same : IsSameRun before waits c b.function b.places (begun b.state b.calls) (in_store shared run)

module _ (c : PlainCode) (before waits : Kinds) (os : List (Option Cell)) (sound : IsSound c) (literals : HasLiterals c) (kinds : AreKinds c before waits) where
  -- how the task is alone
  abbrev alone_of : ℕ → Task → State → Begun
  alone_of n t own = record { function = t.function; state = own; calls = t.calls; places = λ p. n + p }

  own_is : (n : ℕ) (t : Task) (b : Begun) (r : Run) → (i : IsBegun c (unreleased os) n t b r) → i.own ≡ first_state c t.function t.header (own_store t) (first_words t.arguments t.header.credits) t.frames
  own_is n t b r i = loaded_is c t.function t.header (own_store t) (first_words t.arguments t.header.credits) t.frames i.own i.task.there i.first

  among_is : (n : ℕ) (t : Task) (b : Begun) (r : Run) → (i : IsBegun c (unreleased os) n t b r) → i.among ≡ first_state c t.function t.header (unreleased os) (task_words n t) t.frames
  among_is n t b r i = loaded_is c t.function t.header (unreleased os) (task_words n t) t.frames i.among i.task.there i.further

  -- its cells are within its places
  lies : (n : ℕ) (t : Task) (own : State) (p : ℕ) → own.store ≡ own_store t → IsThere own.store p → (n ≤ n + p) × (n + p < n + length (task_places n t))
  lies n t own p e there =
      let less = within (task_places 0 t) p (subst (λ s. IsThere s p) e there) in
      let l = task_long n t in
      (omega arith, omega (arith, less, l))

  same_run : (n : ℕ) (t : Task) (b : Begun) (r : Run) → Has (unreleased os) n (task_places n t) → (i : IsBegun c (unreleased os) n t b r) → IsSameRun before waits c t.function (moved n) (begun i.own t.calls) (in_store (unreleased os) (begun i.among t.calls))
  same_run n t b r has i =
      let mine : State = first_state c t.function t.header (own_store t) (first_words t.arguments t.header.credits) t.frames in
      let there : State = first_state c t.function t.header (unreleased os) (task_words n t) t.frames in
      subst (λ (s : State). IsSameRun before waits c t.function (moved n) (begun s t.calls) (in_store (unreleased os) (begun i.among t.calls))) (sym (own_is n t b r i))
      (subst (λ (u : State). IsSameRun before waits c t.function (moved n) (begun mine t.calls) (in_store (unreleased os) (begun u t.calls))) (sym (among_is n t b r i))
      (same_begun c before waits (unreleased os) t.function (moved n) mine there t.calls (projected c before waits os n t sound kinds i.task has)))

  known_first : (n : ℕ) (t : Task) (b : Begun) (r : Run) (rs : List Run) → Has (unreleased os) n (task_places n t) → IsBegun c (unreleased os) n t b r → IsKnown c before waits (unreleased os) n 0 b (r ∷ rs)
  known_first n t b r rs has i =
      let own : Begun = alone_of n t i.own in
      let starts = begins c before waits t.function t.header t.arguments t.frames i.own sound literals kinds i.task.there i.task.typed i.first in
      subst (λ (x : Begun). IsKnown c before waits (unreleased os) n 0 x (r ∷ rs)) (sym i.alone) (record {
        from = n;
        to = n + length (task_places n t);
        following = omega arith;
        places = λ p there. lies n t i.own p (ap (λ (s : State). s.store) (own_is n t b r i)) there;
        start = starts.0;
        run = begun i.among t.calls;
        is = ap Some i.run;
        same = same_run n t b r has i;
      })

  -- the places of task k are after `low`
  known : (n k : ℕ) (ts : List Task) (bs : List Begun) (rs : List Run) (b : Begun) → Has (unreleased os) n (laid n ts) → AreBegun c (unreleased os) n ts bs rs → slice_get bs k ≡ Some b → IsKnown c before waits (unreleased os) n k b rs
  known n k [] [] [] b has i e = absurd (none-some b e)
  known n k [] [] (r ∷ rs) b has i e = absurd i
  known n k [] (x ∷ bs) rs b has i e = absurd i
  known n k (t ∷ ts) [] rs b has i e = absurd i
  known n k (t ∷ ts) (x ∷ bs) [] b has i e = absurd i
  known n zero (t ∷ ts) (x ∷ bs) (r ∷ rs) b has i e =
      known_first n t b r rs (has_left (unreleased os) n (task_places n t) (laid (n + length (task_places n t)) ts) has)
      (subst (λ (b : Begun). IsBegun c (unreleased os) n t b r) (same_Some x b e) i.0)
  known n (suc k) (t ∷ ts) (x ∷ bs) (r ∷ rs) b has i e =
      let m : ℕ = n + length (task_places n t) in
      let a = known m k ts bs rs b (has_right (unreleased os) n (task_places n t) (laid m ts) has) i.1 e in
      let following = a.following in
      record { from = a.from; to = a.to; following = omega (arith, following); places = a.places; start = a.start; run = a.run; is = a.is; same = a.same }

  -- an earlier task's places are before a later one's
  order : (n i j p q : ℕ) (ts : List Task) (bs : List Begun) (rs : List Run) (a b : Begun) → Has (unreleased os) n (laid n ts) → AreBegun c (unreleased os) n ts bs rs → slice_get bs i ≡ Some a → slice_get bs j ≡ Some b → i < j → IsThere a.state.store p → IsThere b.state.store q → a.places p < b.places q
  order n i j p q [] [] rs a b has k e f l h g = absurd (none-some a e)
  order n i j p q [] (x ∷ bs) rs a b has k e f l h g = absurd k
  order n i j p q (t ∷ ts) [] rs a b has k e f l h g = absurd k
  order n i j p q (t ∷ ts) (x ∷ bs) [] a b has k e f l h g = absurd k
  order n i zero p q (t ∷ ts) (x ∷ bs) (r ∷ rs) a b has k e f l h g = absurd (omega (arith, l))
  order n zero (suc j) p q (t ∷ ts) (x ∷ bs) (r ∷ rs) a b has k e f l h g =
      let m : ℕ = n + length (task_places n t) in
      let first = has_left (unreleased os) n (task_places n t) (laid m ts) has in
      let mine : IsBegun c (unreleased os) n t a r = subst (λ (b : Begun). IsBegun c (unreleased os) n t b r) (same_Some x a e) k.0 in
      let low = lies n t mine.own p (ap (λ (s : State). s.store) (own_is n t a r mine)) (subst (λ (x : Begun). IsThere x.state.store p) mine.alone h) in
      let at : a.places p ≡ n + p = ap (λ (x : Begun). x.places p) mine.alone in
      let high = known m j ts bs rs b (has_right (unreleased os) n (task_places n t) (laid m ts) has) k.1 f in
      let following = high.following in
      let above = (high.places q g).0 in
      let below = low.1 in
      omega (arith, following, above, below, at)
  order n (suc i) (suc j) p q (t ∷ ts) (x ∷ bs) (r ∷ rs) a b has k e f l h g =
      let m : ℕ = n + length (task_places n t) in
      order m i j p q ts bs rs a b (has_right (unreleased os) n (task_places n t) (laid m ts) has) k.1 e f (omega (arith, l)) h g

  long : (n : ℕ) (ts : List Task) (bs : List Begun) (rs : List Run) → AreBegun c (unreleased os) n ts bs rs → length rs ≡ length bs
  long n [] [] [] i = refl
  long n [] [] (r ∷ rs) i = absurd i
  long n [] (x ∷ bs) rs i = absurd i
  long n (t ∷ ts) [] rs i = absurd i
  long n (t ∷ ts) (x ∷ bs) [] i = absurd i
  long n (t ∷ ts) (x ∷ bs) (r ∷ rs) i = ap suc (long (n + length (task_places n t)) ts bs rs i.1)

  sized : (n : ℕ) (ts : List Task) (bs : List Begun) (rs : List Run) → AreBegun c (unreleased os) n ts bs rs → Every IsSized (laid n ts)
  sized n [] bs rs i = tt
  sized n (t ∷ ts) [] rs i = absurd i
  sized n (t ∷ ts) (x ∷ bs) [] i = absurd i
  sized n (t ∷ ts) (x ∷ bs) (r ∷ rs) i =
      let m : ℕ = n + length (task_places n t) in
      let task = (i.0).task in
      sized_append (task_places n t) (laid m ts)
      (sized_append (all_places n t.arguments) (credit_places t.header.credits)
      (all_sized c.types (map (λ q. q.ty) t.header.params) n t.arguments (few_fields c sound) task.typed)
      (credits_sized t.header.credits (sizes_formed c t.header (formed c t.function t.header sound task.there))))
      (sized m ts bs rs i.1)

-- ---- all tasks

store_is : (c : PlainCode) (os : List (Option Cell)) → Every IsSized os → IsStore (unreleased os)
store_is c os h = record {
  sized = h;
  wide = length-replicate (length os) false;
  of_cells = λ p. let e = none_released (length os) p in omega (arith, e);
}

apart_by : (i j x y : ℕ) → i ≢ j → (i < j → x < y) → (j < i → y < x) → x ≢ y
apart_by i j x y off f g e = elim (less_or_not i j) as (λ v. ⊥) [
  | inl less ↦ let z = f less in absurd (omega (arith, z, e))
  | inr rest ↦ elim (less_or_not j i) as (λ v. ⊥) [
    | inl less ↦ let z = g less in absurd (omega (arith, z, e))
    | inr also ↦ off (omega (arith, rest, also))
  ]
]

pub begin_together : (c : PlainCode) (before waits : Kinds) (tasks : List Task) (alone : List Begun) (first : Shared) → IsSound c → HasLiterals c → AreKinds c before waits → AreLaid c tasks alone first → BeginTogether before waits c alone first
begin_together c before waits tasks alone first sound literals kinds l =
    let os : List (Option Cell) = laid 0 tasks in
    let has : Has (unreleased os) 0 os = has_all (unreleased os) in
    let i = l.begun in
    record {
      store = subst IsStore (sym l.store) (store_is c os (sized c before waits os sound literals kinds 0 tasks alone first.runs i));
      apart = λ x y p q a b e f off h g. apart_by x y (a.places p) (b.places q) off
          (λ less. order c before waits os sound literals kinds 0 x y p q tasks alone first.runs a b has i e f less h g)
          (λ less. order c before waits os sound literals kinds 0 y x q p tasks alone first.runs b a has i f e less g h);
      number = long c before waits os sound literals kinds 0 tasks alone first.runs i;
      same = λ k t r e f.
          let a = known c before waits os sound literals kinds 0 k tasks alone first.runs t has i e in
          subst (λ (s : Store). IsSameRun before waits c t.function t.places (begun t.state t.calls) (in_store s r)) (sym l.store)
          (subst (λ (r : Run). IsSameRun before waits c t.function t.places (begun t.state t.calls) (in_store (unreleased os) r)) (same_Some a.run r (sym a.is ∙ f)) a.same);
    }

pub are_loaded : (c : PlainCode) (before waits : Kinds) (tasks : List Task) (alone : List Begun) (first : Shared) → IsSound c → HasLiterals c → AreKinds c before waits → AreLaid c tasks alone first → AreLoaded before waits c alone
are_loaded c before waits tasks alone first sound literals kinds l k t e =
    let os : List (Option Cell) = laid 0 tasks in
    (known c before waits os sound literals kinds 0 k tasks alone first.runs t (has_all (unreleased os)) l.begun e).start

-- ---- tasks can be loaded

record CanBegin (c : PlainCode) (shared : Store) (n : ℕ) (ts : List Task) : Type 0 where
  alone : List Begun
  runs : List Run
  begun : AreBegun c shared n ts alone runs

can_begin : (c : PlainCode) (shared : Store) (n : ℕ) (ts : List Task) → Every (IsTask c) ts → CanBegin c shared n ts
can_begin c shared n [] h = record { alone = []; runs = []; begun = tt }
can_begin c shared n (t ∷ ts) h =
    let rest = can_begin c shared (n + length (task_places n t)) ts h.1 in
    let own = is_loaded c t.function t.header t.arguments t.frames h.0.there in
    let there : State = first_state c t.function t.header shared (task_words n t) t.frames in
    record {
      alone = record { function = t.function; state = own.0; calls = t.calls; places = λ p. n + p } ∷ rest.alone;
      runs = begun there t.calls ∷ rest.runs;
      begun = (
        record {
          task = h.0;
          own = own.0;
          first = own.1;
          among = there;
          further = ap (λ o. loaded_in c.types t.function o shared (task_words n t) t.frames) h.0.there;
          alone = refl;
          run = refl;
        },
        rest.begun,
      );
    }

pub are_there : (c : PlainCode) (tasks : List Task) → Every (IsTask c) tasks → (alone : List Begun) × (first : Shared) × AreLaid c tasks alone first
are_there c tasks h =
    let can = can_begin c (shared_store tasks) 0 tasks h in
    (can.alone, record { store = shared_store tasks; runs = can.runs }, record { store = refl; begun = can.begun })
