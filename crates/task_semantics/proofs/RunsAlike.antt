-- A run of a task alone and among others: a step later both are the same again, and none where only other tasks' cells
-- change is different.
use Rattle.std.proofs.Common.{◌≡◌, ℕ, zero, suc, List, [], ◌∷◌, refl, sym, ◌∙◌, subst}
use Rattle.run_loading.specs.fip_language.Table.{Table}
use Rattle.run_loading.specs.cell_code.declared.kind.Kind.{Kind}
use Rattle.run_loading.specs.cell_code.declared.kind.Kind.TheVariants.{Gone, Scalar, Owned, Lent, Credit}
use Rattle.run_loading.specs.cell_code.Plain.{PlainCode, results}
use Rattle.run_loading.specs.machine_semantics.Cells.{Store, IsStore, cell_at, there}
use Rattle.run_loading.specs.machine_semantics.States.{Frame, Typed, State, Next, Went, Entered, Gave, Trapped, TooDeep}
use Rattle.run_loading.specs.machine_semantics.Steps.{Kinds, next}
use Rattle.run_loading.specs.machine_semantics.Runs.{End, Value, Trap, Out, Deep, Run, Going, Over, state_of, comes, later}
use Rattle.run_loading.specs.code_rules.Breaks.{IsSound}
use Rattle.run_loading.specs.separation.Codes.{HasLiterals, AreKinds}
use Rattle.run_loading.proofs.separation.Running.{GoodRun}
use Rattle.task_semantics.specs.Schedules.{in_store}
use Rattle.task_semantics.specs.Projected.{Renaming, IsThere, IsLikeCell, AreRenamed, IsRenamedTree, IsRenamedWord, AreRenamedWords, IsRenamedFrame, AreRenamedFrames, AreRenamedArguments, IsProjected, AreRenamedTrees, IsSameEnd, IsSameRun, IsSameAt}
use Rattle.task_semantics.proofs.Renamings.{stands_there, tree_moves}
use Rattle.task_semantics.proofs.SameCells.{Beyond}
use Rattle.task_semantics.proofs.Frames.{NextAlike}
use Rattle.task_semantics.proofs.Stepping.{next_alike}

-- ---- a step

-- the runs later and mate come after r and q
pub record RunGoes (before waits : Kinds) (c : PlainCode) (n : ℕ) (f : Renaming) (r q later mate : Run) : Type 0 where
  pub same : IsSameRun before waits c n f later mate
  pub good : IsStore (state_of mate).store
  pub there : (p : ℕ) → there (state_of later).store p ≡ there (state_of r).store p
  pub beyond : Beyond f (state_of r).store (state_of q).store (state_of mate).store

comes_alike : (before waits : Kinds) (c : PlainCode) (n : ℕ) (f : Renaming) (s u : State) (left k before_left before_steps : ℕ) (x y : Next) → IsStore u.store → IsProjected before waits c f s u → NextAlike before waits c f (results c n) s u x y → RunGoes before waits c n f (Going s before_left before_steps) (Going u before_left before_steps) (comes s left k x) (comes u left k y)
comes_alike before waits c n f s u left k l m (Went a) (Went b) good i g = record { same = (g.state, refl, refl); good = g.good; there = g.there; beyond = g.beyond }
comes_alike before waits c n f s u zero k l m (Entered a) (Entered b) good i g = record { same = (tt, i, refl, refl); good = good; there = λ p. refl; beyond = λ p none. (refl, refl) }
comes_alike before waits c n f s u (suc left) k l m (Entered a) (Entered b) good i g = record { same = (g.state, refl, refl); good = g.good; there = g.there; beyond = g.beyond }
comes_alike before waits c n f s u left k l m (Gave ws) (Gave vs) good i g = record { same = (g, i, refl, refl); good = good; there = λ p. refl; beyond = λ p none. (refl, refl) }
comes_alike before waits c n f s u left k l m (Trapped kind line col) (Trapped other row at) good i g = record { same = (g, i, refl, refl); good = good; there = λ p. refl; beyond = λ p none. (refl, refl) }
comes_alike before waits c n f s u zero k l m TooDeep TooDeep good i g = record { same = (tt, i, refl, refl); good = good; there = λ p. refl; beyond = λ p none. (refl, refl) }
comes_alike before waits c n f s u (suc left) k l m TooDeep TooDeep good i g = record { same = (tt, i, refl, refl); good = good; there = λ p. refl; beyond = λ p none. (refl, refl) }
comes_alike before waits c n f s u left k l m x y good i g = absurd g

pub later_alike : (before waits : Kinds) (c : PlainCode) (n : ℕ) (f : Renaming) (kept : List ℕ) (r q : Run) → IsSound c → HasLiterals c → AreKinds c before waits → GoodRun c (results c n) kept r → IsStore (state_of q).store → IsSameRun before waits c n f r q → RunGoes before waits c n f r q (later before c r) (later before c q)
later_alike before waits c n f kept (Going s left k) (Going u l m) sound literals kinds g good i =
    let x : Next = next before c s in
    let y : Next = next before c u in
    let step : NextAlike before waits c f (results c n) s u x y = next_alike f c before waits (results c n) kept s u sound literals kinds g good i.0 in
    subst (λ l. RunGoes before waits c n f (Going s left k) (Going u l m) (comes s left (suc k) x) (comes u l (suc m) y)) i.1
    (subst (λ m. RunGoes before waits c n f (Going s left k) (Going u left m) (comes s left (suc k) x) (comes u left (suc m) y)) i.2
    (comes_alike before waits c n f s u left (suc k) left k x y good i.0 step))
later_alike before waits c n f kept (Going s left k) (Over e u l m) sound literals kinds g good i = absurd i
later_alike before waits c n f kept (Over e s left k) (Going u l m) sound literals kinds g good i = absurd i
later_alike before waits c n f kept (Over e s left k) (Over d u l m) sound literals kinds g good i = record { same = i; good = good; there = λ p. refl; beyond = λ p none. (refl, refl) }

-- ---- other tasks' cells change

-- the task's own cells are the same in another store
abbrev pub OwnSame : Renaming → Store → Store → Store → Type 0
OwnSame f own old new = (p : ℕ) → IsThere own p → IsSameAt new old (f p)

tree_stays : (tb : Table) (f : Renaming) (own old new : Store) (t w v : ℕ) → OwnSame f own old new → IsRenamedTree tb f own old t w v → IsRenamedTree tb f own new t w v
tree_stays tb f own old new t w v h i = tree_moves tb f own own old new t w v i (λ q some. refl) (λ q some. (h q (stands_there tb own t i.tree q i.alone.stands some)).0)

word_stays : (tb : Table) (f : Renaming) (own old new : Store) (k : Kind) (w v : ℕ) → OwnSame f own old new → IsRenamedWord tb f own old k w v → IsRenamedWord tb f own new k w v
word_stays tb f own old new Gone w v h i = i
word_stays tb f own old new (Scalar t) w v h i = i
word_stays tb f own old new (Owned t cs) w v h i = tree_stays tb f own old new t w v h i
word_stays tb f own old new (Lent t cs root from) w v h i = tree_stays tb f own old new t w v h i
word_stays tb f own old new (Credit n) w v h i = i

words_stay : (tb : Table) (f : Renaming) (own old new : Store) (ks : List Kind) (ws vs : List ℕ) → OwnSame f own old new → AreRenamedWords tb f own old ks ws vs → AreRenamedWords tb f own new ks ws vs
words_stay tb f own old new [] [] [] h i = tt
words_stay tb f own old new [] [] (v ∷ vs) h i = absurd i
words_stay tb f own old new [] (w ∷ ws) vs h i = absurd i
words_stay tb f own old new (k ∷ ks) [] vs h i = absurd i
words_stay tb f own old new (k ∷ ks) (w ∷ ws) [] h i = absurd i
words_stay tb f own old new (k ∷ ks) (w ∷ ws) (v ∷ vs) h i = (word_stays tb f own old new k w v h i.0, words_stay tb f own old new ks ws vs h i.1)

frame_stays : (tb : Table) (f : Renaming) (own old new : Store) (ks : List Kind) (a b : Frame) → OwnSame f own old new → IsRenamedFrame tb f own old ks a b → IsRenamedFrame tb f own new ks a b
frame_stays tb f own old new ks a b h i = record { function = i.function; at = i.at; words = words_stay tb f own old new ks a.words b.words h i.words }

frames_stay : (tb : Table) (f : Renaming) (own old new : Store) (waits : Kinds) (as' bs : List Frame) → OwnSame f own old new → AreRenamedFrames tb f own old waits as' bs → AreRenamedFrames tb f own new waits as' bs
frames_stay tb f own old new waits [] [] h i = tt
frames_stay tb f own old new waits [] (b ∷ bs) h i = absurd i
frames_stay tb f own old new waits (a ∷ as') [] h i = absurd i
frames_stay tb f own old new waits (a ∷ as') (b ∷ bs) h i = (frame_stays tb f own old new (waits a.function a.at) a b h i.0, frames_stay tb f own old new waits as' bs h i.1)

arguments_stay : (tb : Table) (f : Renaming) (own old new : Store) (as' bs : List Typed) → OwnSame f own old new → AreRenamedArguments tb f own old as' bs → AreRenamedArguments tb f own new as' bs
arguments_stay tb f own old new [] [] h i = tt
arguments_stay tb f own old new [] (b ∷ bs) h i = absurd i
arguments_stay tb f own old new (a ∷ as') [] h i = absurd i
arguments_stay tb f own old new (a ∷ as') (b ∷ bs) h i = (i.0, tree_stays tb f own old new a.type a.word b.word h i.1, arguments_stay tb f own old new as' bs h i.2)

trees_stay : (tb : Table) (f : Renaming) (own old new : Store) (ts ws vs : List ℕ) → OwnSame f own old new → AreRenamedTrees tb f own old ts ws vs → AreRenamedTrees tb f own new ts ws vs
trees_stay tb f own old new [] [] [] h i = tt
trees_stay tb f own old new [] [] (v ∷ vs) h i = absurd i
trees_stay tb f own old new [] (w ∷ ws) vs h i = absurd i
trees_stay tb f own old new (t ∷ ts) [] vs h i = absurd i
trees_stay tb f own old new (t ∷ ts) (w ∷ ws) [] h i = absurd i
trees_stay tb f own old new (t ∷ ts) (w ∷ ws) (v ∷ vs) h i = (tree_stays tb f own old new t w v h i.0, trees_stay tb f own old new ts ws vs h i.1)

cells_stay : (f : Renaming) (own old new : Store) → OwnSame f own old new → AreRenamed f own old → AreRenamed f own new
cells_stay f own old new h i = record {
  rises = i.rises;
  cells = λ p there. subst (λ o. IsLikeCell f (cell_at own p) o) (sym (h p there).0) (i.cells p there);
  released = λ p there. (h p there).1 ∙ i.released p there;
}

state_stays : (before waits : Kinds) (code : PlainCode) (f : Renaming) (old new : Store) (a b : State) → OwnSame f a.store old new → IsProjected before waits code f a (record b { store = old }) → IsProjected before waits code f a (record b { store = new })
state_stays before waits code f old new a b h i = record {
  cells = cells_stay f a.store old new h i.cells;
  running = frame_stays code.types f a.store old new (before a.running.function a.running.at) a.running b.running h i.running;
  waiting = frames_stay code.types f a.store old new waits a.waiting b.waiting h i.waiting;
  free = i.free;
  lent = arguments_stay code.types f a.store old new a.lent b.lent h i.lent;
}

end_stays : (code : PlainCode) (n : ℕ) (f : Renaming) (own old new : Store) (e d : End) → OwnSame f own old new → IsSameEnd code n f own old e d → IsSameEnd code n f own new e d
end_stays code n f own old new (Value ws) (Value vs) h i = trees_stay code.types f own old new (results code n) ws vs h i
end_stays code n f own old new (Trap k line col) (Trap l row at) h i = i
end_stays code n f own old new Out Out h i = i
end_stays code n f own old new Deep Deep h i = i
end_stays code n f own old new e d h i = absurd i

pub run_stays : (before waits : Kinds) (code : PlainCode) (n : ℕ) (f : Renaming) (old new : Store) (r q : Run) → OwnSame f (state_of r).store old new → IsSameRun before waits code n f r (in_store old q) → IsSameRun before waits code n f r (in_store new q)
run_stays before waits code n f old new (Going a left k) (Going b l m) h i = (state_stays before waits code f old new a b h i.0, i.1, i.2)
run_stays before waits code n f old new (Going a left k) (Over d b l m) h i = absurd i
run_stays before waits code n f old new (Over e a left k) (Going b l m) h i = absurd i
run_stays before waits code n f old new (Over e a left k) (Over d b l m) h i = (end_stays code n f a.store old new e d h i.0, state_stays before waits code f old new a b h i.1, i.2, i.3)
