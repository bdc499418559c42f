-- Frames alone and among others: their registers as lists and by number, and that they stay alike where none of their
-- cells changes.
use Rattle.std.proofs.Common.{◌≡◌, ℕ, zero, suc, ◌+◌, ◌<◌, List, [], ◌∷◌, length, map, inl, refl, sym, ap, subst, arith}
use Rattle.run_loading.specs.fip_language.Table.{Table}
use Rattle.run_loading.specs.fip_language.Store.{Placed, Parts, NoParts, MoreParts, words_of}
use Rattle.run_loading.specs.cell_code.declared.kind.Kind.{Kind}
use Rattle.run_loading.specs.machine_semantics.Cells.{Store, IsStore, there}
use Rattle.run_loading.specs.machine_semantics.Trees.{StandAll}
use Rattle.run_loading.specs.machine_semantics.States.{Frame, Typed, State, Next, Went, Entered, Gave, Trapped, TooDeep}
use Rattle.run_loading.specs.machine_semantics.Steps.{Kinds}
use Rattle.run_loading.specs.machine_semantics.Apart.{trees_uses, AreTrees}
use Rattle.run_loading.specs.cell_code.Plain.{PlainCode}
use Rattle.run_loading.specs.code_rules.Kinds.{at}
use Rattle.run_loading.specs.separation_kinds.Meanings.{owned_by, word_at}
use Rattle.run_loading.proofs.separation_kinds.Basics.{at_past}
use Rattle.run_loading.specs.separation.Codes.{AreKinds}
use Rattle.run_loading.specs.separation.Alive.{Frozen, frozen_slots, lower_trees, IsWaiting, AreAllWaiting}
use Rattle.run_loading.proofs.separation.Lower.{lower_uses, below_uses, slots_owned}
use Rattle.run_loading.proofs.tree_refinement.Inside.{waits_at}
use Rattle.task_semantics.specs.Projected.{Renaming, renamed_parts, AreRenamedWords, IsRenamedWord, IsRenamedFrame, AreRenamedFrames, AreRenamedArguments, IsProjected, AreRenamedTrees}
use Rattle.task_semantics.proofs.SameCells.{Beyond}
use Rattle.task_semantics.proofs.AlikeWords.{AreAlike, AreKept, kept_tree, same_uses, kept_alike}

-- ---- registers

words_at : (tb : Table) (f : Renaming) (own shared : Store) (ks : List Kind) (ws vs : List ℕ) → AreRenamedWords tb f own shared ks ws vs → (r : ℕ) → IsRenamedWord tb f own shared (at ks r) (word_at ws r) (word_at vs r)
words_at tb f own shared [] [] [] h r = inl refl
words_at tb f own shared [] [] (v ∷ vs) h r = absurd h
words_at tb f own shared [] (w ∷ ws) vs h r = absurd h
words_at tb f own shared (k ∷ ks) [] vs h r = absurd h
words_at tb f own shared (k ∷ ks) (w ∷ ws) [] h r = absurd h
words_at tb f own shared (k ∷ ks) (w ∷ ws) (v ∷ vs) h zero = h.0
words_at tb f own shared (k ∷ ks) (w ∷ ws) (v ∷ vs) h (suc r) = words_at tb f own shared ks ws vs h.1 r

pub by_number : (tb : Table) (f : Renaming) (own shared : Store) (ks : List Kind) (ws vs : List ℕ) → AreRenamedWords tb f own shared ks ws vs → AreAlike tb f own shared (at ks) (word_at ws) (word_at vs)
by_number tb f own shared ks ws vs h = record { each = words_at tb f own shared ks ws vs h }

pub words_even : (tb : Table) (f : Renaming) (own shared : Store) (ks : List Kind) (ws vs : List ℕ) → AreRenamedWords tb f own shared ks ws vs → length vs ≡ length ws
words_even tb f own shared [] [] [] h = refl
words_even tb f own shared [] [] (v ∷ vs) h = absurd h
words_even tb f own shared [] (w ∷ ws) vs h = absurd h
words_even tb f own shared (k ∷ ks) [] vs h = absurd h
words_even tb f own shared (k ∷ ks) (w ∷ ws) [] h = absurd h
words_even tb f own shared (k ∷ ks) (w ∷ ws) (v ∷ vs) h = ap suc (words_even tb f own shared ks ws vs h.1)

pub in_order : (tb : Table) (f : Renaming) (own shared : Store) (ks : List Kind) (ws vs : List ℕ) → length ws ≡ length ks → length vs ≡ length ws → AreAlike tb f own shared (at ks) (word_at ws) (word_at vs) → AreRenamedWords tb f own shared ks ws vs
in_order tb f own shared [] [] [] l m a = tt
in_order tb f own shared [] [] (v ∷ vs) l m a = absurd (let z : ⊥ = omega arith in z)
in_order tb f own shared [] (w ∷ ws) vs l m a = absurd (let z : ⊥ = omega arith in z)
in_order tb f own shared (k ∷ ks) [] vs l m a = absurd (let z : ⊥ = omega arith in z)
in_order tb f own shared (k ∷ ks) (w ∷ ws) [] l m a = absurd (let z : ⊥ = omega arith in z)
in_order tb f own shared (k ∷ ks) (w ∷ ws) (v ∷ vs) l m a = (a.each 0, in_order tb f own shared ks ws vs (omega arith) (omega arith) (record { each = λ r. a.each (suc r) }))

-- ---- the frames that wait, and the borrowed arguments

frame_kept : (f : Renaming) (c : PlainCode) (before waits : Kinds) (own new shared other : Store) (below : List Placed) (above : ℕ) (w v : Frame) (g : Frozen) → AreKinds c before waits → IsWaiting c own below above w g → AreKept f own new shared other (λ q. owned_by q (at g.kinds) g.holds (length g.kinds) + trees_uses q below) → IsRenamedFrame c.types f own shared (waits w.function w.at) w v → IsRenamedFrame c.types f new other (waits w.function w.at) w v
frame_kept f c before waits own new shared other below above w v g kinds i k m =
    let is = waits_at c before waits own below above w g kinds i in
    let ws = i.words in
    let old : AreRenamedWords c.types f own shared g.kinds g.words v.words = subst (λ ks. AreRenamedWords c.types f own shared ks g.words v.words) is (subst (λ us. AreRenamedWords c.types f own shared (waits w.function w.at) us v.words) ws m.words) in
    let alike = kept_alike c.types f own new shared other below (at g.kinds) (word_at g.words) (word_at v.words) g.holds (length g.kinds) (at_past g.kinds) i.meant k (by_number c.types f own shared g.kinds g.words v.words old) in
    let all : AreRenamedWords c.types f new other g.kinds g.words v.words = in_order c.types f new other g.kinds g.words v.words i.long (words_even c.types f own shared g.kinds g.words v.words old) alike in
    record {
      function = m.function;
      at = m.at;
      words = subst (λ ks. AreRenamedWords c.types f new other ks w.words v.words) (sym is) (subst (λ us. AreRenamedWords c.types f new other g.kinds us v.words) (sym ws) all);
    }

pub frames_kept : (f : Renaming) (c : PlainCode) (before waits : Kinds) (own new shared other : Store) (lent : List Placed) (types : List ℕ) (above : ℕ) (ws vs : List Frame) (gs : List Frozen) → AreKinds c before waits → AreAllWaiting c own lent types above ws gs → AreKept f own new shared other (λ q. lower_uses q gs lent) → AreRenamedFrames c.types f own shared waits ws vs → AreRenamedFrames c.types f new other waits ws vs
frames_kept f c before waits own new shared other lent types above [] [] gs kinds a k m = tt
frames_kept f c before waits own new shared other lent types above [] (v ∷ vs) gs kinds a k m = absurd m
frames_kept f c before waits own new shared other lent types above (w ∷ ws) [] gs kinds a k m = absurd m
frames_kept f c before waits own new shared other lent types above (w ∷ ws) (v ∷ vs) [] kinds a k m = absurd a
frames_kept f c before waits own new shared other lent types above (w ∷ ws) (v ∷ vs) (g ∷ gs) kinds a k m =
    let more : (q : ℕ) → 0 < owned_by q (at g.kinds) g.holds (length g.kinds) + trees_uses q (lower_trees gs lent) → 0 < lower_uses q (g ∷ gs) lent = λ q some.
    let x = slots_owned q g.kinds (word_at g.words) g.holds in
    let y = below_uses q (map frozen_slots gs) lent in
    omega arith in
    let rest : (q : ℕ) → 0 < lower_uses q gs lent → 0 < lower_uses q (g ∷ gs) lent = λ q some. omega arith in (
      frame_kept f c before waits own new shared other (lower_trees gs lent) above w v g kinds a.0 (record { alone = λ q some. k.alone q (more q some); among = λ q some. k.among q (more q some) }) m.0,
      frames_kept f c before waits own new shared other lent types w.function ws vs gs kinds a.1 (record { alone = λ q some. k.alone q (rest q some); among = λ q some. k.among q (rest q some) }) m.1,
    )

pub arguments_kept : (tb : Table) (f : Renaming) (own new shared other : Store) (ts us : List Typed) (xs : List Placed) → AreTrees tb own ts xs → AreKept f own new shared other (λ q. trees_uses q xs) → AreRenamedArguments tb f own shared ts us → AreRenamedArguments tb f new other ts us
arguments_kept tb f own new shared other [] [] xs a k m = tt
arguments_kept tb f own new shared other [] (u ∷ us) xs a k m = absurd m
arguments_kept tb f own new shared other (t ∷ ts) [] xs a k m = absurd m
arguments_kept tb f own new shared other (t ∷ ts) (u ∷ us) [] a k m = absurd a
arguments_kept tb f own new shared other (t ∷ ts) (u ∷ us) (x ∷ xs) a k m =
    let rest : (q : ℕ) → 0 < trees_uses q xs → 0 < trees_uses q (x ∷ xs) = λ q some. omega arith in (
      m.0,
      kept_tree tb f own new shared other (λ q. trees_uses q (x ∷ xs)) t.type t.word u.word m.1 k (λ q. let e = same_uses tb own t.type t.word m.1.tree x q m.1.alone a.0 in omega arith),
      arguments_kept tb f own new shared other ts us xs a.1 (record { alone = λ q some. k.alone q (rest q some); among = λ q some. k.among q (rest q some) }) m.2,
    )

-- ---- what comes after a state

-- A state of a task among others, b, is that of the task alone, a, and these come after u and s: the places of cells are
-- the same, and no cell of another task changed.
pub record GoesOn (before waits : Kinds) (c : PlainCode) (f : Renaming) (s u a b : State) : Type 0 where
  pub state : IsProjected before waits c f a b
  pub good : IsStore b.store
  pub there : (q : ℕ) → there a.store q ≡ there s.store q
  pub beyond : Beyond f s.store u.store b.store

abbrev pub NextAlike : Kinds → Kinds → PlainCode → Renaming → List ℕ → State → State → Next → Next → Type 0
NextAlike before waits c f types s u (Went a) (Went b) = GoesOn before waits c f s u a b
NextAlike before waits c f types s u (Entered a) (Entered b) = GoesOn before waits c f s u a b
NextAlike before waits c f types s u (Gave ws) (Gave vs) = AreRenamedTrees c.types f s.store u.store types ws vs
NextAlike before waits c f types s u (Trapped k line col) (Trapped l row at) = (k ≡ l) × (line ≡ row) × (col ≡ at)
NextAlike before waits c f types s u TooDeep TooDeep = Unit {0}
NextAlike before waits c f types s u x y = ⊥

-- words that trees have, and those that the renamed trees have
pub trees_alike : (tb : Table) (f : Renaming) (own shared : Store) (ts : List ℕ) (xs : Parts) → StandAll tb own ts xs → StandAll tb shared ts (renamed_parts f xs) → AreRenamedTrees tb f own shared ts (words_of xs) (words_of (renamed_parts f xs))
trees_alike tb f own shared [] NoParts g h = tt
trees_alike tb f own shared [] (MoreParts x xs) g h = absurd g
trees_alike tb f own shared (t ∷ ts) NoParts g h = absurd g
trees_alike tb f own shared (t ∷ ts) (MoreParts x xs) g h = (record { tree = x; alone = record { word = refl; stands = g.0 }; among = record { word = refl; stands = h.0 } }, trees_alike tb f own shared ts xs g.1 h.1)
