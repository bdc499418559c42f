-- A step inside a frame ends in the same on cells and on trees.
use Rattle.std.proofs.Common.{◌≡◌, inl, inr, ℕ, ◌<◌, List, [], ◌∷◌, length, Some, refl, sym, ap, ◌∙◌, subst, arith}
use Rattle.std.proofs.lemmas.Option.{same_Some, none-some}
use Rattle.tree_semantics.specs.fip_language.declared.Operator.{Operator}
use Rattle.tree_semantics.specs.fip_language.Store.{Placed}
use Rattle.separation_bounds.specs.cell_code.declared.code.Instr.{Instr}
use Rattle.tree_semantics.specs.machine_semantics.Cells.{Store, changed_by}
use Rattle.tree_semantics.specs.machine_semantics.States.{Frame, State}
use Rattle.tree_semantics.specs.machine_semantics.Rows as R
use Rattle.tree_semantics.specs.machine_semantics.Steps.{Kinds, went, went_with, trapped}
use Rattle.tree_semantics.specs.States as U
use Rattle.separation_bounds.specs.cell_code.Plain.{PlainCode}
use Rattle.separation_bounds.specs.code_rules.Kinds.{at}
use Rattle.separation_bounds.specs.code_rules.Breaks.{IsSound}
use Rattle.separation_bounds.specs.separation_kinds.Meanings.{owned_by, word_at}
use Rattle.separation_bounds.specs.separation.Rows.{IsDone}
use Rattle.separation_bounds.proofs.separation.Stores.{there_few}
use Rattle.separation_bounds.proofs.separation.ReadingRows.{IsCalculated}
use Rattle.separation_bounds.specs.separation.Codes.{AreKinds}
use Rattle.separation_bounds.specs.separation.Alive.{Frozen, lower_trees, IsWaiting, AreAllWaiting, IsAlive}
use Rattle.separation_bounds.proofs.separation.Lower.{lower_uses, all_agree}
use Rattle.tree_refinement.specs.Agreement.{AreShown, IsSameFrame, AreSameFrames, IsSame, IsSameNext}
use Rattle.tree_refinement.proofs.Values.{agreed_shown}
use Rattle.tree_refinement.proofs.PlainFollows.{Follows, FollowsOrTraps}
use Rattle.tree_refinement.proofs.Arriving.{arrive_shown}

-- ---- the frames that wait, where none of their cells changes

-- the kinds at a Call that waits
pub waits_at : (c : PlainCode) (before waits : Kinds) (s : Store) (below : List Placed) (above : ℕ) (w : Frame) (g : Frozen) → AreKinds c before waits → IsWaiting c s below above w g → waits w.function w.at ≡ g.kinds
waits_at c before waits s below above w g kinds i = kinds.wait w.function w.at i.function i.before i.callee i.sources i.destinations g.kinds i.is i.known i.instr i.left

frame_same : (c : PlainCode) (before waits : Kinds) (s u : Store) (below : List Placed) (above : ℕ) (w : Frame) (g : Frozen) (t : U.Frame) → AreKinds c before waits → IsWaiting c s below above w g → IsWaiting c u below above w g → IsSameFrame c.types s (waits w.function w.at) w t → IsSameFrame c.types u (waits w.function w.at) w t
frame_same c before waits s u below above w g t kinds i j m =
    let is = waits_at c before waits s below above w g kinds i in
    let old : AreShown c.types s (at g.kinds) (word_at g.words) t.contents = subst (λ ks. AreShown c.types s (at ks) (word_at g.words) t.contents) is (subst (λ ws. AreShown c.types s (at (waits w.function w.at)) (word_at ws) t.contents) i.words m.shown) in
    let new : AreShown c.types u (at g.kinds) (word_at g.words) t.contents = agreed_shown c.types s u below below (at g.kinds) (at g.kinds) (word_at g.words) g.holds t.contents i.meant j.meant old in
    record {
      shown = subst (λ ks. AreShown c.types u (at ks) (word_at w.words) t.contents) (sym is) (subst (λ ws. AreShown c.types u (at g.kinds) (word_at ws) t.contents) (sym i.words) new);
      function = m.function;
      instr = m.instr;
    }

frames_same : (c : PlainCode) (before waits : Kinds) (s u : Store) (lent : List Placed) (types : List ℕ) (above : ℕ) (ws : List Frame) (gs : List Frozen) (ts : List U.Frame) → AreKinds c before waits → AreAllWaiting c s lent types above ws gs → AreAllWaiting c u lent types above ws gs → AreSameFrames c.types s waits ws ts → AreSameFrames c.types u waits ws ts
frames_same c before waits s u lent types above [] gs [] kinds a b m = tt
frames_same c before waits s u lent types above [] gs (t ∷ ts) kinds a b m = absurd m
frames_same c before waits s u lent types above (w ∷ ws) gs [] kinds a b m = absurd m
frames_same c before waits s u lent types above (w ∷ ws) [] (t ∷ ts) kinds a b m = absurd a
frames_same c before waits s u lent types above (w ∷ ws) (g ∷ gs) (t ∷ ts) kinds a b m = (
  frame_same c before waits s u (lower_trees gs lent) above w g t kinds a.0 b.0 m.0,
  frames_same c before waits s u lent types w.function ws gs ts kinds a.1 b.1 m.1,
)

-- ---- the instruction is done

pub went_same : (c : PlainCode) (before waits : Kinds) (types kept : List ℕ) (s : State) (x : Instr) (t : U.State) (n : U.Next) → IsSound c → AreKinds c before waits → (a : IsAlive c types kept s) → IsSame c.types before waits s t → IsDone c a.function (lower_trees a.frozen a.lent) a.kinds a.holds s x → Follows c a.function a.kinds s x t n → IsSameNext c.types before waits types s (went s (R.done c.types a.kinds s x)) n
went_same c before waits types kept s x t n sound kinds a m d f =
    let done : d.done ≡ f.done = same_Some d.done f.done (sym d.is ∙ f.is) in
    let store : d.store ≡ f.store = same_Some d.store f.store (sym d.changed ∙ ap (λ (e : R.Done). changed_by e.changes s.store) done ∙ f.changed) in
    let free : (q : ℕ) → 0 < lower_uses q a.frozen a.lent → owned_by q (at a.kinds) a.holds (length a.kinds) ≡ 0 = λ q some. let o = a.once q in let z = there_few s.store q in omega arith in
    let waiting : AreAllWaiting c d.store a.lent types s.running.function s.waiting a.frozen = all_agree c s.store d.store a.lent types s.running.function s.waiting a.frozen (λ q some. d.elsewhere q (free q some)) a.waiting in
    let next : went s (R.done c.types a.kinds s x) ≡ went_with s f.done (Some f.store) = ap (went s) f.is ∙ ap (went_with s f.done) f.changed in
    subst (λ y. IsSameNext c.types before waits types s y n) (sym next) (subst (IsSameNext c.types before waits types s (went_with s f.done (Some f.store))) (sym f.next) (record {
      running = record {
        shown = arrive_shown c before waits s.running.function s.running.at f.done.at a.function f.store f.left (word_at f.done.words) f.contents sound kinds a.is f.goes f.shown;
        function = m.running.function;
        instr = refl;
      };
      waiting = subst (λ u. AreSameFrames c.types u waits s.waiting t.waiting) store (frames_same c before waits s.store d.store a.lent types s.running.function s.waiting a.frozen t.waiting kinds a.waiting waiting m.waiting);
      free = m.free;
    }))

-- an instruction of an operator
pub trapped_same : (c : PlainCode) (before waits : Kinds) (types kept : List ℕ) (s : State) (o : Operator) (x y line col : ℕ) (i : Instr) (t : U.State) (n : U.Next) → IsSound c → AreKinds c before waits → (a : IsAlive c types kept s) → IsSame c.types before waits s t → IsCalculated c a.function (lower_trees a.frozen a.lent) a.kinds a.holds s o x y i → FollowsOrTraps c a.function a.kinds s o x y line col i t n → IsSameNext c.types before waits types s (trapped s line col (R.trap (R.operated s o x y)) (R.done c.types a.kinds s i)) n
trapped_same c before waits types kept s o x y line col i t n sound kinds a m h k = elim h as (λ v. IsSameNext c.types before waits types s (trapped s line col (R.trap (R.operated s o x y)) (R.done c.types a.kinds s i)) n) [
  | inl d ↦ elim k as (λ v. IsSameNext c.types before waits types s (trapped s line col (R.trap (R.operated s o x y)) (R.done c.types a.kinds s i)) n) [
    | inl f ↦ subst (λ z. IsSameNext c.types before waits types s (trapped s line col z (R.done c.types a.kinds s i)) n) (sym d.0) (went_same c before waits types kept s i t n sound kinds a m d.1 f.1)
    | inr z ↦ absurd (none-some z.0 (sym d.0 ∙ z.1))
  ]
  | inr e ↦ elim k as (λ v. IsSameNext c.types before waits types s (trapped s line col (R.trap (R.operated s o x y)) (R.done c.types a.kinds s i)) n) [
    | inl f ↦ absurd (none-some e.0 (sym f.0 ∙ e.1))
    | inr z ↦ subst (λ w. IsSameNext c.types before waits types s (trapped s line col w (R.done c.types a.kinds s i)) n) (sym z.1) (subst (IsSameNext c.types before waits types s (trapped s line col (Some z.0) (R.done c.types a.kinds s i))) (sym z.2) (refl, refl, refl))
  ]
]
