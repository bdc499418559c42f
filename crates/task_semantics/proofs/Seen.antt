-- Of a task among others as much is seen as of it alone: its cells are the renamed ones, and its frames have as many
-- words.
use Rattle.std.proofs.Common.{◌≡◌, ◌≢◌, ℕ, suc, ◌+◌, Bool, true, false, List, [], ◌∷◌, length, Option, Some, None, refl, sym, ap, subst, ◌∙◌, arith, slice_get}
use Rattle.std.specs.Prelude.{map, nat_eq, if◌then◌else◌}
use Rattle.std.specs.List.{fold}
use Rattle.run_loading.specs.fip_language.Table.{Table}
use Rattle.run_loading.specs.fip_language.Store.{Cell}
use Rattle.run_loading.specs.cell_code.declared.kind.Kind.{Kind}
use Rattle.run_loading.specs.cell_code.Plain.{PlainCode}
use Rattle.run_loading.specs.machine_semantics.Cells.{Store, IsStore, cell_in, cell_at, released_at, one_if_true, one_held, held_in, count_held}
use Rattle.run_loading.specs.machine_semantics.States.{Frame, State, frames_held, words_of_frame, words_held}
use Rattle.run_loading.specs.machine_semantics.Steps.{Kinds}
use Rattle.task_semantics.specs.Projected.{Renaming, AreLikeWords, IsLikeCell, AreRenamed, AreRenamedWords, IsRenamedFrame}
use Rattle.task_semantics.specs.Projected.{AreRenamedFrames, IsProjected, one_among, held_among_from, held_among}
use Rattle.run_loading.proofs.tree_refinement.tree_semantics.machine_semantics.cell_code.fip_base.fip_language.Facts.{suc_injective as fewer, sum_same as added}
use Rattle.task_semantics.proofs.Frames.{words_even}
use Rattle.task_semantics.proofs.Renamings.{some_there}
use Rattle.task_semantics.proofs.SameCells.{words_even as like_even}

-- ---- frames

frame_even : (tb : Table) (f : Renaming) (own shared : Store) (ks : List Kind) (a b : Frame) →
    IsRenamedFrame tb f own shared ks a b → words_of_frame b ≡ words_of_frame a
frame_even tb f own shared ks a b h =
    let e : length b.words ≡ length a.words = words_even tb f own shared ks a.words b.words h.words in omega arith

frames_even : (tb : Table) (f : Renaming) (own shared : Store) (waits : Kinds) (as' bs : List Frame) →
    AreRenamedFrames tb f own shared waits as' bs → length bs ≡ length as'
frames_even tb f own shared waits [] [] h = refl
frames_even tb f own shared waits [] (b ∷ bs) h = absurd h
frames_even tb f own shared waits (a ∷ as') [] h = absurd h
frames_even tb f own shared waits (a ∷ as') (b ∷ bs) h = ap suc (frames_even tb f own shared waits as' bs h.1)

-- the words of frames, and n more
abbrev all_words : ℕ → List Frame → ℕ
all_words n fs = fold ◌+◌ n (map words_of_frame fs)

sums_even : (tb : Table) (f : Renaming) (own shared : Store) (waits : Kinds) (n : ℕ) (as' bs : List Frame) →
    AreRenamedFrames tb f own shared waits as' bs → all_words n bs ≡ all_words n as'
sums_even tb f own shared waits n [] [] h = refl
sums_even tb f own shared waits n [] (b ∷ bs) h = absurd h
sums_even tb f own shared waits n (a ∷ as') [] h = absurd h
sums_even tb f own shared waits n (a ∷ as') (b ∷ bs) h =
    sums_even tb f own shared waits (n + words_of_frame b) as' bs h.1
    ∙ ap (λ k. all_words (n + k) as') (frame_even tb f own shared (waits a.function a.at) a b h.0)

pub frames_are : (before waits : Kinds) (code : PlainCode) (f : Renaming) (a b : State) →
    IsProjected before waits code f a b → frames_held b ≡ frames_held a
frames_are before waits code f a b h = frames_even code.types f a.store b.store waits a.waiting b.waiting h.waiting

pub words_are : (before waits : Kinds) (code : PlainCode) (f : Renaming) (a b : State) →
    IsProjected before waits code f a b → words_held b ≡ words_held a
words_are before waits code f a b h =
    sums_even code.types f a.store b.store waits (0 + words_of_frame b.running) a.waiting b.waiting h.waiting
    ∙ ap (λ k. all_words (0 + k) a.waiting)
    (frame_even code.types f a.store b.store (before a.running.function a.running.at) a.running b.running h.running)

-- ---- cells

same_one : (f : Renaming) (k : ℕ) (c : Cell) (o : Option Cell) (r : Bool) → IsLikeCell f (Some c) o →
    one_among k o (one_if_true (Some r)) ≡ one_held k (Some c) r
same_one f k c None r h = absurd h
same_one f k c (Some b) true h = refl
same_one f k c (Some b) false h = ap (λ n. if nat_eq k n then 1 else 0) (like_even f c.fields b.fields h.1)

-- the cells of a list, from this place on, are like those at their places
abbrev Alike : Renaming → Store → ℕ → List (Option Cell) → List Bool → Type 0
Alike f shared p os rs = (j q : ℕ) (c : Cell) → q ≡ p + j → cell_in os j ≡ Some c →
    IsLikeCell f (Some c) (cell_at shared (f q)) × (released_at shared (f q) ≡ one_if_true (slice_get rs j))

nothing_more : (a b : ℕ) → a ≡ b → a ≡ 0 + b
nothing_more a b h = omega arith

further : (p j q : ℕ) → q ≡ suc p + j → q ≡ p + suc j
further p j q h = omega arith

here : (p : ℕ) → p ≡ p + 0
here p = omega arith

same_held : (f : Renaming) (shared : Store) (k p : ℕ) (os : List (Option Cell)) (rs : List Bool) →
    length rs ≡ length os → Alike f shared p os rs → held_among_from k f shared p os ≡ held_in k os rs
same_held f shared k p [] rs e h = refl
same_held f shared k p (o ∷ os) [] e h = absurd (omega arith)
same_held f shared k p (None ∷ os) (r ∷ rs) e h =
    nothing_more _ _ (same_held f shared k (suc p) os rs (fewer (length rs) (length os) e)
    (λ j q c is there. h (suc j) q c (further p j q is) there))
same_held f shared k p (Some c ∷ os) (r ∷ rs) e h =
    let first = h 0 p c (here p) refl in
    added _ _ _ _
    (ap (λ n. one_among k (cell_at shared (f p)) n) first.1 ∙ same_one f k c (cell_at shared (f p)) r first.0)
    (same_held f shared k (suc p) os rs (fewer (length rs) (length os) e)
    (λ j q d is there. h (suc j) q d (further p j q is) there))

pub held_are : (f : Renaming) (own shared : Store) (k : ℕ) → IsStore own → AreRenamed f own shared →
    held_among k f own shared ≡ count_held k own
held_are f own shared k store h = same_held f shared k 0 own.cells own.released store.wide alike
  where
    alike : Alike f shared 0 own.cells own.released
    alike j q c is there =
        let same : j ≡ q = omega arith in
        let at : cell_at own q ≡ Some c = subst (λ x. cell_in own.cells x ≡ Some c) same there in (
          subst (λ o. IsLikeCell f o (cell_at shared (f q))) at (h.cells q (some_there c (cell_at own q) at)),
          h.released q (some_there c (cell_at own q) at)
              ∙ ap (λ x. one_if_true (slice_get own.released x)) (sym same),
        )
