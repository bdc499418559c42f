-- What a task gave among others stands for the values of what it gives alone; so its end is that of the run on trees.
use Rattle.std.proofs.Common.{◌≡◌, ℕ, zero, suc, ◌+◌, List, [], ◌∷◌, length, Some, slice_get, refl, sym, ap, ap₂, ◌∙◌, subst}
use Rattle.std.proofs.lemmas.Option.{none-some, same_Some}
use Rattle.run_loading.specs.fip_language.declared.TrapKind.{TrapKind}
use Rattle.run_loading.specs.fip_language.Meaning as M
use Rattle.run_loading.specs.fip_language.Store.{count, Placed, PlacedInt, Bare, At, Parts, NoParts, MoreParts, word_of, words_of, value_of, values_of}
use Rattle.run_loading.specs.fip_language.Table.{Table}
use Rattle.run_loading.specs.fip_language.Values.{Values, Node, More}
use Rattle.run_loading.specs.machine_semantics.Cells.{Store}
use Rattle.run_loading.specs.cell_code.Plain.{PlainCode, results}
use Rattle.run_loading.specs.machine_semantics.Runs.{End, Value, Trap, Out, Deep, Unsound, Run, Going, Over, Ends, begun, after}
use Rattle.run_loading.specs.machine_semantics.States.{State}
use Rattle.run_loading.specs.machine_semantics.Steps.{Kinds}
use Rattle.run_loading.specs.machine_semantics.Trees.{StandAll}
use Rattle.run_loading.specs.code_rules.Breaks.{IsSound}
use Rattle.run_loading.specs.separation.Codes.{HasLiterals, AreKinds}
use Rattle.run_loading.proofs.separation.Loading.{loaded_is}
use Rattle.run_loading.specs.tree_semantics.Runs as T
use Rattle.run_loading.specs.tree_refinement.Agreement.{AreWordsOf}
use Rattle.run_loading.specs.tree_refinement.Runs as A
use Rattle.run_loading.proofs.tree_refinement.Running.{trees_end}
use Rattle.run_loading.proofs.tree_refinement.Values.{same_placed}
use Rattle.run_loading.specs.Loading.{first_store, first_words}
use Rattle.run_loading.proofs.Begins.{begins}
use Rattle.task_semantics.specs.Projected.{Renaming, renamed, renamed_parts, AreRenamedTrees, IsSameEnd, IsSameRun, Begun}
use Rattle.task_semantics.specs.Schedules.{Shared, scheduled, in_store}
use Rattle.task_semantics.proofs.Scheduling.{each_is_alone}
use Rattle.task_semantics.specs.Laid.{Task, task_places, shared_store, IsBegun, AreBegun, AreLaid}
use Rattle.task_semantics.specs.Ended.{EndsAlone, EndsOnTrees}
use Rattle.task_semantics.proofs.Laid.{begin_together, are_loaded}

-- ---- values

mutual
  value_renamed : (f : Renaming) (x : Placed) → value_of (renamed f x) ≡ value_of x
  value_renamed f (PlacedInt i) = refl
  value_renamed f (Bare c) = refl
  value_renamed f (At p c xs) = ap (λ vs. Node c vs) (values_renamed f xs)

  values_renamed : (f : Renaming) (xs : Parts) → values_of (renamed_parts f xs) ≡ values_of xs
  values_renamed f NoParts = refl
  values_renamed f (MoreParts x xs) = ap₂ (λ v vs. More v vs) (value_renamed f x) (values_renamed f xs)

trees_among : (tb : Table) (f : Renaming) (own shared : Store) (ts ws us : List ℕ) (xs : Parts) → AreRenamedTrees tb f own shared ts ws us → ws ≡ words_of xs → StandAll tb own ts xs → AreWordsOf tb shared ts us (values_of xs)
trees_among tb f own shared [] [] [] NoParts i e h = (NoParts, refl, tt, refl)
trees_among tb f own shared [] [] [] (MoreParts x xs) i e h = absurd h
trees_among tb f own shared [] [] (u ∷ us) xs i e h = absurd i
trees_among tb f own shared [] (w ∷ ws) us xs i e h = absurd i
trees_among tb f own shared (t ∷ ts) [] us xs i e h = absurd i
trees_among tb f own shared (t ∷ ts) (w ∷ ws) [] xs i e h = absurd i
trees_among tb f own shared (t ∷ ts) (w ∷ ws) (u ∷ us) NoParts i e h = absurd h
trees_among tb f own shared (t ∷ ts) (w ∷ ws) (u ∷ us) (MoreParts x xs) i e h =
    let here : w ≡ word_of x = cc in
    let others : ws ≡ words_of xs = cc in
    let y : Placed = i.0.tree in
    let same : y ≡ x = same_placed tb own t y x i.0.alone.stands h.0 (i.0.alone.word ∙ here) in
    let rest = trees_among tb f own shared ts ws us xs i.1 others h.1 in (
      MoreParts (renamed f y) rest.0,
      ap₂ (λ v vs. v ∷ vs) (sym i.0.among.word) rest.1,
      (i.0.among.stands, rest.2),
      ap₂ (λ v vs. More v vs) (value_renamed f y ∙ ap value_of same) rest.3,
    )

words_among : (tb : Table) (f : Renaming) (own shared : Store) (ts ws us : List ℕ) (vs : Values) → AreRenamedTrees tb f own shared ts ws us → AreWordsOf tb own ts ws vs → AreWordsOf tb shared ts us vs
words_among tb f own shared ts ws us vs i h = subst (AreWordsOf tb shared ts us) h.3 (trees_among tb f own shared ts ws us h.0 i h.1 h.2)

-- ---- ends

module _ (code : PlainCode) (n : ℕ) (f : Renaming) (own last : State) (left : ℕ) where
  value_among : (ws us : List ℕ) (a : M.Answer) → AreRenamedTrees code.types f own.store last.store (results code n) ws us → A.IsSameEnd code.types (results code n) own left (Value ws) a → A.IsSameEnd code.types (results code n) last left (Value us) a
  value_among ws us (M.Gives vs l) i h = (words_among code.types f own.store last.store (results code n) ws us vs i h.0, h.1)
  value_among ws us (M.Trap k line col) i h = absurd h
  value_among ws us M.Out i h = absurd h
  value_among ws us M.Deep i h = absurd h
  value_among ws us M.Stuck i h = absurd h

  trap_among : (k l : TrapKind) (line col row at : ℕ) (a : M.Answer) → (k ≡ l) × (line ≡ row) × (col ≡ at) → A.IsSameEnd code.types (results code n) own left (Trap k line col) a → A.IsSameEnd code.types (results code n) last left (Trap l row at) a
  trap_among k l line col row at (M.Gives vs m) i h = absurd h
  trap_among k l line col row at (M.Trap j r c) i h = (sym i.0 ∙ h.0, sym i.1 ∙ h.1, sym i.2 ∙ h.2)
  trap_among k l line col row at M.Out i h = absurd h
  trap_among k l line col row at M.Deep i h = absurd h
  trap_among k l line col row at M.Stuck i h = absurd h

  out_among : (a : M.Answer) → A.IsSameEnd code.types (results code n) own left Out a → A.IsSameEnd code.types (results code n) last left Out a
  out_among (M.Gives vs m) h = absurd h
  out_among (M.Trap j r c) h = absurd h
  out_among M.Out h = tt
  out_among M.Deep h = absurd h
  out_among M.Stuck h = absurd h

  deep_among : (a : M.Answer) → A.IsSameEnd code.types (results code n) own left Deep a → A.IsSameEnd code.types (results code n) last left Deep a
  deep_among (M.Gives vs m) h = absurd h
  deep_among (M.Trap j r c) h = absurd h
  deep_among M.Out h = absurd h
  deep_among M.Deep h = tt
  deep_among M.Stuck h = absurd h

  -- the end over the shared store is the answer that the end alone is
  end_among : (e d : End) (a : M.Answer) → IsSameEnd code n f own.store last.store e d → A.IsSameEnd code.types (results code n) own left e a → A.IsSameEnd code.types (results code n) last left d a
  end_among (Value ws) (Value us) a i h = value_among ws us a i h
  end_among (Value ws) (Trap l row at) a i h = absurd i
  end_among (Value ws) Out a i h = absurd i
  end_among (Value ws) Deep a i h = absurd i
  end_among (Value ws) Unsound a i h = absurd i
  end_among (Trap k line col) (Value us) a i h = absurd i
  end_among (Trap k line col) (Trap l row at) a i h = trap_among k l line col row at a i h
  end_among (Trap k line col) Out a i h = absurd i
  end_among (Trap k line col) Deep a i h = absurd i
  end_among (Trap k line col) Unsound a i h = absurd i
  end_among Out (Value us) a i h = absurd i
  end_among Out (Trap l row at) a i h = absurd i
  end_among Out Out a i h = out_among a h
  end_among Out Deep a i h = absurd i
  end_among Out Unsound a i h = absurd i
  end_among Deep (Value us) a i h = absurd i
  end_among Deep (Trap l row at) a i h = absurd i
  end_among Deep Out a i h = absurd i
  end_among Deep Deep a i h = deep_among a h
  end_among Deep Unsound a i h = absurd i
  end_among Unsound (Value us) a i h = absurd i
  end_among Unsound (Trap l row at) a i h = absurd i
  end_among Unsound Out a i h = absurd i
  end_among Unsound Deep a i h = absurd i
  end_among Unsound Unsound a i h = absurd i

-- ---- a task that has ended

ended_by : (before waits : Kinds) (c : PlainCode) (b : Begun) (shared : Store) (m : ℕ) (e : End) (last : State) (left steps : ℕ) (r : Run) → after before c m (begun b.state b.calls) ≡ r → IsSameRun before waits c b.function b.places r (in_store shared (Over e last left steps)) → EndsAlone c before b shared e left steps
ended_by before waits c b shared m e last left steps (Going s l k) z i = absurd i
ended_by before waits c b shared m e last left steps (Over d s l k) z i = record {
  end = d;
  last = s;
  ends = record { enough = m; is = z ∙ ap₂ (λ l k. Over d s l k) i.2 i.3 };
  same = i.0;
}

pub ends_alone : (c : PlainCode) (before waits : Kinds) (tasks : List Task) (alone : List Begun) (first : Shared) (schedule : List ℕ) (k : ℕ) (b : Begun) (e : End) (last : State) (left steps : ℕ) → IsSound c → HasLiterals c → AreKinds c before waits → AreLaid c tasks alone first → slice_get alone k ≡ Some b → slice_get (scheduled before c schedule first).runs k ≡ Some (Over e last left steps) → EndsAlone c before b (scheduled before c schedule first).store e left steps
ends_alone c before waits tasks alone first schedule k b e last left steps sound literals kinds laid is over =
    ended_by before waits c b (scheduled before c schedule first).store (count k schedule) e last left steps (after before c (count k schedule) (begun b.state b.calls)) refl
    (each_is_alone before waits c alone first (are_loaded c before waits tasks alone first sound literals kinds laid) (begin_together c before waits tasks alone first sound literals kinds laid) schedule k b (Over e last left steps) is over)

-- ---- the same on trees

pub record IsTaskOf (c : PlainCode) (shared : Store) (k : ℕ) (t : Task) (alone : List Begun) : Type 0 where
  pub begun : Begun
  pub is : slice_get alone k ≡ Some begun
  pub number : ℕ
  pub run : Run
  pub begins : IsBegun c shared number t begun run

pub task_of : (c : PlainCode) (shared : Store) (n k : ℕ) (ts : List Task) (bs : List Begun) (rs : List Run) (t : Task) → AreBegun c shared n ts bs rs → slice_get ts k ≡ Some t → IsTaskOf c shared k t bs
task_of c shared n k [] bs rs t i e = absurd (none-some t e)
task_of c shared n k (x ∷ ts) [] rs t i e = absurd i
task_of c shared n k (x ∷ ts) (b ∷ bs) [] t i e = absurd i
task_of c shared n zero (x ∷ ts) (b ∷ bs) (r ∷ rs) t i e = record { begun = b; is = refl; number = n; run = r; begins = subst (λ (t : Task). IsBegun c shared n t b r) (same_Some x t e) i.0 }
task_of c shared n (suc k) (x ∷ ts) (b ∷ bs) (r ∷ rs) t i e =
    let a = task_of c shared (n + length (task_places n x)) k ts bs rs t i.1 e in
    record { begun = a.begun; is = a.is; number = a.number; run = a.run; begins = a.begins }

-- how it ended from the state that was loaded
pub record OwnEnds (c : PlainCode) (before : Kinds) (t : Task) (own : State) (f : Renaming) (shared : Store) (e : End) (left steps : ℕ) : Type 0 where
  pub end : End
  pub last : State
  pub ends : Ends before c own t.calls end last left steps
  pub same : IsSameEnd c t.function f last.store shared end e

pub own_ends : (c : PlainCode) (before : Kinds) (shared after_all : Store) (n : ℕ) (t : Task) (b : Begun) (r : Run) (e : End) (left steps : ℕ) → (i : IsBegun c shared n t b r) → EndsAlone c before b after_all e left steps → OwnEnds c before t i.own b.places after_all e left steps
own_ends c before shared after_all n t b r e left steps i ended =
    let function : b.function ≡ t.function = ap (λ (x : Begun). x.function) i.alone in
    let state : b.state ≡ i.own = ap (λ (x : Begun). x.state) i.alone in
    let calls : b.calls ≡ t.calls = ap (λ (x : Begun). x.calls) i.alone in
    record {
      end = ended.end;
      last = ended.last;
      ends = subst (λ m. Ends before c i.own m ended.end ended.last left steps) calls
          (subst (λ (s : State). Ends before c s b.calls ended.end ended.last left steps) state ended.ends);
      same = subst (λ m. IsSameEnd c m b.places (ended.last).store after_all ended.end e) function ended.same;
    }

-- an end alone that is an answer is one over the shared store
pub same_answer : (c : PlainCode) (before : Kinds) (t : Task) (own : State) (f : Renaming) (last : State) (e : End) (left steps : ℕ) (a : M.Answer) → (o : OwnEnds c before t own f last.store e left steps) → A.IsSameEnd c.types (results c t.function) o.last left o.end a → A.IsSameEnd c.types (results c t.function) last left e a
same_answer c before t own f last e left steps a o h = end_among c t.function f o.last last left o.end e a o.same h

on_trees : (c : PlainCode) (before waits : Kinds) (shared : Store) (n : ℕ) (t : Task) (b : Begun) (r : Run) (e : End) (last : State) (left steps : ℕ) → IsSound c → HasLiterals c → AreKinds c before waits → IsBegun c shared n t b r → EndsAlone c before b last.store e left steps → EndsOnTrees c t last e left steps
on_trees c before waits shared n t b r e last left steps sound literals kinds i ended =
    let o = own_ends c before shared last.store n t b r e left steps i ended in
    let starts = begins c before waits t.function t.header t.arguments t.frames i.own sound literals kinds i.task.there i.task.typed i.first in
    let free : (i.own).free ≡ t.frames = ap (λ (s : State). s.free) (loaded_is c t.function t.header (first_store t.arguments t.header.credits) (first_words t.arguments t.header.credits) t.frames i.own i.task.there i.first) in
    let x = trees_end c before waits t.function [] i.own t.arguments t.calls o.end o.last left steps starts.0 starts.1 o.ends in
    record {
      enough = (o.ends).enough;
      answer = x.0;
      state = x.1;
      is = subst (λ m. T.after c (o.ends).enough (T.begun (T.entry t.function t.arguments m) t.calls) ≡ T.Over x.0 x.1 left steps) free x.2;
      same = same_answer c before t i.own b.places last e left steps x.0 o x.3;
    }

pub ends_on_trees : (c : PlainCode) (before waits : Kinds) (tasks : List Task) (alone : List Begun) (first : Shared) (schedule : List ℕ) (k : ℕ) (t : Task) (e : End) (last : State) (left steps : ℕ) → IsSound c → HasLiterals c → AreKinds c before waits → AreLaid c tasks alone first → slice_get tasks k ≡ Some t → slice_get (scheduled before c schedule first).runs k ≡ Some (Over e last left steps) → EndsOnTrees c t (record last { store = (scheduled before c schedule first).store }) e left steps
ends_on_trees c before waits tasks alone first schedule k t e last left steps sound literals kinds laid is over =
    let x = task_of c (shared_store tasks) 0 k tasks alone first.runs t laid.begun is in
    on_trees c before waits (shared_store tasks) x.number t x.begun x.run e (record last { store = (scheduled before c schedule first).store }) left steps sound literals kinds x.begins
    (ends_alone c before waits tasks alone first schedule k x.begun e last left steps sound literals kinds laid x.is over)
