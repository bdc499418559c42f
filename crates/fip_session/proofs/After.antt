-- What a session has after a call, however its run came out.
-- Idea: the run is the definition's, which is over once; what it leaves of the cells of other names and of lent arguments
-- is as it was, and what it was given besides is its results', or is given up.
use Rattle.std.proofs.Common.{◌≡◌, ◌⊎◌, inl, inr, ◌∙◌, ℕ, zero, suc, ◌+◌, ◌-◌, ◌<◌, ◌≤◌, Bool, true, false, ◌&&◌, not, List, [], ◌∷◌, ◌++◌, length, map, max, Option, Some, None, slice_get, option_map, refl, sym, ap, ap₂, subst, arith, if◌then◌else◌}
use Rattle.std.proofs.lemmas.List.{length-map}
use Rattle.std.proofs.lemmas.Option.{same_Some, slice_get-map}
use Rattle.cell_code.specs.declared.code.Code.{Code}
use Rattle.cell_code.specs.declared.code.Function.{Function}
use Rattle.cell_store.specs.Cells as L
use Rattle.cell_store.specs.Cells.{count_free}
use Rattle.cell_store.specs.Made.{Loading}
use Rattle.fip_base.specs.declared.plain.Param.{Param}
use Rattle.fip_language.specs.Core.{Name}
use Rattle.fip_language.specs.Declarations.{same_name}
use Rattle.fip_language.specs.Every.{Every}
use Rattle.fip_language.specs.Meaning as A
use Rattle.fip_language.specs.Store.{Placed, Parts, NoParts, MoreParts, values_of, words_of, uses, count}
use Rattle.fip_language.specs.Table.{Table, is_scalar}
use Rattle.fip_language.specs.Values.{Values}
use Rattle.fip_language.specs.declared.limits.TheConstants.{MOST_FIELDS}
use Rattle.fip_machine.specs.machine_cells.Small.{store_of}
use Rattle.fip_machine.specs.declared.machine.Ended.{Ended}
use Rattle.fip_machine.specs.declared.machine.Ended.TheVariants as M
use Rattle.session_code.specs.Served.{ComesTo, IsOf, IsServed}
use Rattle.session_correctness.specs.tree_refinement.Agreement.{AreWordsOf}
use Rattle.session_correctness.specs.tree_refinement.Runs.{IsSameEnd}
use Rattle.cell_code.specs.Plain.{PlainCode, plain_function, plain, results_of, results}
use Rattle.session_correctness.specs.tree_refinement.machine_semantics.Cells.{Store, IsStore, cell_at, cell_in, there, released_at, size_in}
use Rattle.session_correctness.specs.tree_refinement.machine_semantics.Kept.{Keeps}
use Rattle.session_correctness.specs.tree_refinement.machine_semantics.Runs.{End, Value, Trap, Out, Deep, Unsound, Run, Going, Over, Ends, state_of, begun, after}
use Rattle.session_correctness.specs.tree_refinement.machine_semantics.States.{State}
use Rattle.session_correctness.specs.tree_refinement.machine_semantics.Steps.{Kinds}
use Rattle.session_correctness.specs.tree_refinement.machine_semantics.Trees as C
use Rattle.session_correctness.specs.tree_refinement.separation.Codes.{AreKinds}
use Rattle.session_correctness.specs.tree_refinement.separation.Starts.{IsStart}
use Rattle.session_correctness.proofs.tree_refinement.separation_bounds.Ending.{ends_once}
use Rattle.session_correctness.proofs.tree_refinement.Values.{same_parts}
use Rattle.session_correctness.proofs.tree_refinement.separation_kinds.Agree.{stand_all_agree}
use Rattle.session_correctness.specs.Called.{AllStand, IsHeld, IsHeldWith, IsGivenUp, IsSwept}
use Rattle.session_correctness.specs.Calling.{CallOf, held_after, lent, gone, run_after}
use Rattle.session_correctness.specs.Counted.{sized, lodged_cells}
use Rattle.session_correctness.specs.Leaving.{Leaves, lent_uses}
use Rattle.session_correctness.specs.Lodging.{Lodged, holding_of, AreDistinct, but, but_all, named_by_all, lodge_all, lodged_uses, AreTrees, AreBare, fresh_in, lent_fresh_uses, fresh_uses}
use Rattle.session_correctness.proofs.Calls.{bare}
use Rattle.session_correctness.proofs.Counting.{sized_keeps}
use Rattle.session_correctness.proofs.StoreFacts.{leaves, holds_results, holds_others, holds_swept}
use Rattle.session_correctness.proofs.Naming.{held_with, said_after, distinct_after}
use Rattle.session_correctness.proofs.Sharing.{distinct_but_all, lent_and_kept, lodged_count}
use Rattle.session_correctness.proofs.Speaking.{live_lodged, without_lodged}
use Rattle.session_lines.specs.instance_semantics.fip_trees.Tree.{Instance}
use Rattle.session_lines.specs.session_semantics.Lines.{Given as Written, Held as Named, Fresh as New}
use Rattle.session_lines.specs.session_semantics.Talk as T
use Rattle.session_lines.specs.session_semantics.Talk.{Setting, Fits, EndText, answer_of, free_frames, used_by, running, holding, hold_all, without_all, live, written, credits_of, made_then}
use Rattle.value_text.specs.Loaded.{types_of, free_in}
use Rattle.value_text.specs.Standing as V
use Rattle.fip_session.specs.After.{IsBegun, IsKept}
use Rattle.fip_session.specs.Came.{Came, EndsWith}
use Rattle.fip_session.specs.Gone.{fresh_trees, AreStanding, IsLent, lent_of}
use Rattle.fip_session.specs.Readied.{IsReady, fresh_list}
use Rattle.fip_session.specs.Said.{end_said}
use Rattle.fip_session.specs.declared.ready.Ready.{Ready}
use Rattle.fip_session.proofs.GivingUp.{lent_are, lent_standing}
use Rattle.fip_session.proofs.Made.{made_of}
use Rattle.fip_session.proofs.Readying.{one_on, all_stand}
use Rattle.fip_session.proofs.Starting as S
use Rattle.fip_session.proofs.Stores.{same_cell, stand_all, spare}
use Rattle.fip_session.proofs.Weighing.{credits_are}

-- ---- ends

-- a run without a value is reported as its answer
pub reported_end : (o : Setting) (i : ℕ) (tb : Table) (types : List ℕ) (last : State) (left : ℕ) (end : End) (a : A.Answer) (e : Ended) (given : List ℕ) → EndsWith end e given → IsSameEnd tb types last left end a → (e ≡ M.Value → ⊥) → EndText o i a (end_said e o.calls (free_frames o i))
reported_end o i tb types last left (Value ws) a e given h s not = absurd (not h.0)
reported_end o i tb types last left (Trap k l c) (A.Trap k' l' c') e given h s not =
    subst (λ e. EndText o i (A.Trap k' l' c') (end_said e o.calls (free_frames o i))) (sym h)
    (subst (λ k'. EndText o i (A.Trap k' l' c') (end_said (M.Trap k l c) o.calls (free_frames o i))) s.0
    (subst (λ l'. EndText o i (A.Trap k l' c') (end_said (M.Trap k l c) o.calls (free_frames o i))) s.1
    (subst (λ c'. EndText o i (A.Trap k l c') (end_said (M.Trap k l c) o.calls (free_frames o i))) s.2 refl)))
reported_end o i tb types last left (Trap k l c) (A.Gives vs n) e given h s not = absurd s
reported_end o i tb types last left (Trap k l c) A.Out e given h s not = absurd s
reported_end o i tb types last left (Trap k l c) A.Deep e given h s not = absurd s
reported_end o i tb types last left (Trap k l c) A.Stuck e given h s not = absurd s
reported_end o i tb types last left Out A.Out e given h s not = subst (λ e. EndText o i A.Out (end_said e o.calls (free_frames o i))) (sym h) refl
reported_end o i tb types last left Out (A.Gives vs n) e given h s not = absurd s
reported_end o i tb types last left Out (A.Trap k l c) e given h s not = absurd s
reported_end o i tb types last left Out A.Deep e given h s not = absurd s
reported_end o i tb types last left Out A.Stuck e given h s not = absurd s
reported_end o i tb types last left Deep A.Deep e given h s not = subst (λ e. EndText o i A.Deep (end_said e o.calls (free_frames o i))) (sym h) refl
reported_end o i tb types last left Deep (A.Gives vs n) e given h s not = absurd s
reported_end o i tb types last left Deep (A.Trap k l c) e given h s not = absurd s
reported_end o i tb types last left Deep A.Out e given h s not = absurd s
reported_end o i tb types last left Deep A.Stuck e given h s not = absurd s
reported_end o i tb types last left Unsound a e given h s not = absurd h

-- a run with a value gives what its answer gives
pub record Gave (tb : Table) (types : List ℕ) (last : State) (end : End) (a : A.Answer) (given : List ℕ) : Type 0 where
  pub end_is : end ≡ Value given
  pub values : Values
  pub left : ℕ
  pub answer : a ≡ A.Gives values left
  pub words : AreWordsOf tb last.store types given values

pub gave : (tb : Table) (types : List ℕ) (last : State) (left : ℕ) (end : End) (a : A.Answer) (e : Ended) (given : List ℕ) → EndsWith end e given → IsSameEnd tb types last left end a → e ≡ M.Value → Gave tb types last end a given
gave tb types last left (Value ws) (A.Gives vs n) e given h s v = record {
  end_is = ap Value (sym h.1);
  values = vs;
  left = n;
  answer = refl;
  words = subst (λ ws. AreWordsOf tb last.store types ws vs) (sym h.1) s.0;
}
gave tb types last left (Value ws) (A.Trap k l c) e given h s v = absurd s
gave tb types last left (Value ws) A.Out e given h s v = absurd s
gave tb types last left (Value ws) A.Deep e given h s v = absurd s
gave tb types last left (Value ws) A.Stuck e given h s v = absurd s
gave tb types last left (Trap k l c) a e given h s v = absurd (let z : M.Value ≡ M.Trap k l c = sym v ∙ h in cc)
gave tb types last left Out a e given h s v = absurd (let z : M.Value ≡ M.Out = sym v ∙ h in cc)
gave tb types last left Deep a e given h s v = absurd (let z : M.Value ≡ M.Deep = sym v ∙ h in cc)
gave tb types last left Unsound a e given h s v = absurd h

abbrev end_of : Run → End
end_of (Going s left n) = Unsound
end_of (Over e s left n) = e

abbrev left_of : Run → ℕ
left_of (Going s left n) = left
left_of (Over e s left n) = left

-- ---- lent values

fewer_lent : (tb : Table) (ps : List Param) (gs : List Written) (xs : Parts) (q : ℕ) → AreBare tb ps xs → lent_fresh_uses ps gs xs q ≤ lent_uses tb ps xs q
fewer_lent tb [] gs xs q h = omega arith
fewer_lent tb (p ∷ ps) [] xs q h = omega arith
fewer_lent tb (p ∷ ps) (g ∷ gs) NoParts q h = omega arith
fewer_lent tb (p ∷ ps) (g ∷ gs) (MoreParts x xs) q h = by p.lent (is_scalar tb p.ty) refl (few g) (fewer_lent tb ps gs xs q h.1)
  where
    few : (g : Written) → fresh_in g x q ≤ uses q x
    few (New w) = omega arith
    few (Named n) = omega arith

    by : (l s : Bool) → is_scalar tb p.ty ≡ s → fresh_in g x q ≤ uses q x → lent_fresh_uses ps gs xs q ≤ lent_uses tb ps xs q → (if l then fresh_in g x q else 0) + lent_fresh_uses ps gs xs q ≤ (if l && not s then uses q x else 0) + lent_uses tb ps xs q
    by false s e a r = omega (arith, r)
    by true false e a r = omega (arith, a, r)
    by true true e a r = (let z = h.0 e q in omega (arith, a, r, z))

pub every_but : (P : Lodged → Type 0) (n : Name) (ls : List Lodged) → Every P ls → Every P (but n ls)
every_but P n [] h = tt
every_but P n (l ∷ ls) h = by (same_name n l.name) (every_but P n ls h.1)
  where
    by : (b : Bool) → Every P (but n ls) → Every P (if b then but n ls else l ∷ but n ls)
    by true r = r
    by false r = (h.0, r)

every_but_all : (P : Lodged → Type 0) (ns : List Name) (ls : List Lodged) → Every P ls → Every P (but_all ns ls)
every_but_all P [] ls h = h
every_but_all P (n ∷ ns) ls h = every_but_all P ns (but n ls) (every_but P n ls h)

-- ---- the state after

abbrev state_then : Table → List Param → List ℕ → T.State → List Written → Values → T.State
state_then tb ps cs s gs vs = record { held = without_all (used_by tb ps gs) s.held; made = made_then s gs vs cs }

module _ (o : Setting) (s : T.State) (code : Code) (ls : List Lodged) (names : List Name) (n : ℕ) (f : Function) (i : ℕ) (d : Instance) (gs : List Written) (vs : Values) (old new : Loading) (r : Ready) (b : IsBegun o s code ls names n f i d gs vs old new r) where
  abbrev pub code' : PlainCode
  code' = plain code

  abbrev pub tb : Table
  tb = code.types

  abbrev pub xs : Parts
  xs = b.ready.trees

  abbrev pub first : Store
  first = store_of new.cells new.released

  abbrev pub used : List Name
  used = used_by tb f.params gs

  pub state_same : running o s d gs vs ≡ state_then tb f.params f.credits.items s gs vs
  state_same =
      ap (λ t. state_then t d.params d.credits s gs vs) (sym b.served.types)
      ∙ ap (λ ps. state_then tb ps d.credits s gs vs) (sym b.of.params)
      ∙ ap (λ cs. state_then tb f.params cs s gs vs) (sym b.of.credits)

  used_same : used_by o.program.types d.params gs ≡ used
  used_same = ap (λ t. used_by t d.params gs) (sym b.served.types) ∙ ap (λ ps. used_by tb ps gs) (sym b.of.params)

  results_are : results code' n ≡ f.results
  results_are = ap results_of (slice_get-map plain_function code.functions.items n ∙ ap (option_map plain_function) b.of.there)

  -- ---- the run

  abbrev pub state : ℕ → State
  state frames = S.state code n f b.of.there b.served.sound b.served.literals ls gs vs old new r b.kept.distinct b.kept.held b.store b.ready frames

  abbrev pub starts : (before waits : Kinds) → AreKinds code' before waits → (frames : ℕ) → IsStart code' before waits n (S.kept code n f b.of.there b.served.sound b.served.literals ls gs vs old new r b.kept.distinct b.kept.held b.store b.ready) (state frames)
  starts before waits kinds frames = S.starts code n f b.of.there b.served.sound b.served.literals ls gs vs old new r b.kept.distinct b.kept.held b.store b.ready before waits kinds frames

  abbrev pub call : (before waits : Kinds) → AreKinds code' before waits → (frames : ℕ) → CallOf code' before waits
  call before waits kinds frames = S.call code n f b.of.there b.served.sound b.served.literals ls gs vs old new r b.kept.distinct b.kept.held b.store b.ready before waits kinds frames

  pub fits : length r.words.items ≤ f.registers
  fits = S.fits code n f b.of.there b.served.sound b.served.literals ls gs vs old new r b.kept.distinct b.kept.held b.store b.ready

  -- ---- the cells that were made

  once : (q : ℕ) → lodged_uses ls q + ((fresh_uses gs xs q + count q b.ready.spares) + released_at first q) ≡ there first q
  once = S.once code n f b.of.there b.served.sound b.served.literals ls gs vs old new r b.kept.distinct b.kept.held b.store b.ready

  pub made_is : (k : ℕ) → 0 < k → k ≤ MOST_FIELDS → made_then s gs vs f.credits.items k ≡ sized k new.cells
  made_is k some le =
      let c = credits_are k f.credits.items in
      let v : written k gs (values_of xs) ≡ written k gs vs = ap (written k gs) b.ready.values in
      made_of tb ls f.params f.credits.items b.ready.spares gs xs old new k (live k s.held) (s.made k) (written k gs vs + credits_of k f.credits.items) b.kept.held b.store (S.still code n f b.of.there b.served.sound b.served.literals ls gs vs old new r b.kept.distinct b.kept.held b.store b.ready) b.ready.given (stand_all tb first b.store.sized (types_of f.params) xs b.ready.stand) (spare first f.credits.items b.ready.spares b.ready.zero) once (b.ready.free k le) (omega (arith, c, v)) (b.kept.made k some le) (ap (live k) b.kept.said ∙ live_lodged k ls)

  -- ---- how it came out

  module _ (before waits : Kinds) (kinds : AreKinds code' before waits) (frames : ℕ) (frames_are : frames ≡ free_frames o i) (e : Ended) (given : List ℕ) (u : Store) (came : Came code' before (state frames) o.calls e given u) where
    comes : ComesTo code' before n (state frames) o.calls (answer_of o i vs)
    comes = subst (λ m. ComesTo code' before n (state m) o.calls (answer_of o i vs)) (sym frames_are) (b.of.runs.comes before waits vs (S.kept code n f b.of.there b.served.sound b.served.literals ls gs vs old new r b.kept.distinct b.kept.held b.store b.ready) (state (free_frames o i)) kinds (S.begins code n f b.of.there b.served.sound b.served.literals ls gs vs old new r b.kept.distinct b.kept.held b.store b.ready (free_frames o i)))

    same_over : Over came.end came.last came.left came.steps ≡ Over comes.end comes.last comes.left comes.steps
    same_over = ends_once code' before waits before waits n (S.kept code n f b.of.there b.served.sound b.served.literals ls gs vs old new r b.kept.distinct b.kept.held b.store b.ready) (state frames) o.calls came.end comes.end came.last comes.last came.left comes.left came.steps comes.steps (starts before waits kinds frames) kinds came.ends comes.ends

    -- its end is that of its answer
    same_end : IsSameEnd tb (results code' n) came.last came.left came.end (answer_of o i vs)
    same_end = subst (λ (x : Run). IsSameEnd tb (results code' n) (state_of x) (left_of x) (end_of x) (answer_of o i vs)) (sym same_over) comes.same

    leaves_it : Leaves tb f.params xs (S.kept code n f b.of.there b.served.sound b.served.literals ls gs vs old new r b.kept.distinct b.kept.held b.store b.ready) first came.last.store
    leaves_it = subst (λ (x : Run). Leaves tb f.params xs (S.kept code n f b.of.there b.served.sound b.served.literals ls gs vs old new r b.kept.distinct b.kept.held b.store b.ready) first (state_of x).store) came.ends.is (leaves code' before waits n (S.kept code n f b.of.there b.served.sound b.served.literals ls gs vs old new r b.kept.distinct b.kept.held b.store b.ready) (state frames) (starts before waits kinds frames) o.calls came.ends.enough)

    pub leaves_u : Leaves tb f.params xs (S.kept code n f b.of.there b.served.sound b.served.literals ls gs vs old new r b.kept.distinct b.kept.held b.store b.ready) first u
    leaves_u = subst (λ t. Leaves tb f.params xs (S.kept code n f b.of.there b.served.sound b.served.literals ls gs vs old new r b.kept.distinct b.kept.held b.store b.ready) first t) (sym came.store) leaves_it

    pub store_u : IsStore u
    store_u = leaves_u.store

    -- no cell is made, and none gets another size
    pub long_u : length u.cells ≡ length new.cells
    long_u = sym (length-map u.cells size_in) ∙ ap length leaves_u.keeps.sizes ∙ length-map new.cells size_in

    sized_u : (k : ℕ) → sized k u.cells ≡ sized k new.cells
    sized_u k = sized_keeps k first u b.store store_u leaves_u.keeps

    -- the line's lent values
    bares : AreBare tb f.params xs
    bares = bare tb first f.params xs (stand_all tb first b.store.sized (types_of f.params) xs b.ready.stand)

    pub lent_stands : AreStanding IsLent tb u.cells (fresh_list f.params gs xs) (fresh_trees gs xs)
    lent_stands = lent_standing tb new.cells u.cells f.params gs xs ls [] (λ q some. (let l = fewer_lent tb f.params gs xs q bares in same_cell u.cells q ∙ leaves_u.cells q (omega (arith, l, some)) ∙ sym (same_cell new.cells q))) (λ t x same h. one_on tb new.cells u.cells t x (λ p some. same p (omega (arith, some))) h) b.ready.stand b.ready.given

    pub lent_apart : (q : ℕ) → lent_of (fresh_list f.params gs xs) (fresh_trees gs xs) q ≤ there u q
    lent_apart q =
        let a = lent_are f.params gs xs q in
        let l = fewer_lent tb f.params gs xs q bares in
        let c = leaves_u.once q in
        omega (arith, a, l, c)

    -- what is held after it
    lent_too : (q : ℕ) → lent_uses tb f.params xs q + count q (S.kept code n f b.of.there b.served.sound b.served.literals ls gs vs old new r b.kept.distinct b.kept.held b.store b.ready) ≡ lent_fresh_uses f.params gs xs q + lodged_uses (but_all used ls) q
    lent_too q =
        let a = lent_and_kept tb ls b.kept.distinct f.params gs xs q b.ready.given bares in
        let k = lodged_count (but_all (named_by_all tb f.params gs) ls) q in
        omega (arith, a, k)

    pub after_lies : Every (λ l. V.Stands tb u.cells l.type l.tree) (but_all used ls)
    after_lies = all_stand tb new.cells u.cells (but_all used ls) (λ q some. (let l = lent_too q in same_cell u.cells q ∙ leaves_u.cells q (omega (arith, l, some)) ∙ sym (same_cell new.cells q))) (every_but_all (λ (l : Lodged). V.Stands tb new.cells l.type l.tree) used ls b.ready.lie.stand)

    pub after_apart : (q : ℕ) → lodged_uses (but_all used ls) q ≤ there u q
    after_apart q = (let l = lent_too q in let o = leaves_u.once q in omega (arith, l, o))

    kept_by : (ms : List Lodged) (t : T.State) (l : Loading) → AreDistinct ms → t.held ≡ map holding_of ms → IsHeld tb ms (store_of l.cells l.released) → ((k : ℕ) → 0 < k → k ≤ MOST_FIELDS → t.made k ≡ made_then s gs vs f.credits.items k) → l.cells ≡ u.cells → IsKept tb ms t l
    kept_by ms t l distinct said held made cells = record {
      distinct = distinct;
      said = said;
      held = held;
      made = λ k some le. made k some le ∙ made_is k some le ∙ sym (sized_u k) ∙ ap (sized k) (sym cells);
    }

    -- ---- a run without a value

    module _ (not : e ≡ M.Value → ⊥) where
      pub text : EndText o i (answer_of o i vs) (end_said e o.calls frames)
      text = subst (λ m. EndText o i (answer_of o i vs) (end_said e o.calls m)) (sym frames_are) (reported_end o i tb (results code' n) came.last came.left came.end (answer_of o i vs) e given came.is same_end not)

      kept_then : (l : Loading) → IsHeld tb (but_all used ls) (store_of l.cells l.released) → l.cells ≡ u.cells → IsKept tb (but_all used ls) (running o s d gs vs) l
      kept_then l held cells = subst (λ t. IsKept tb (but_all used ls) t l) (sym state_same) (kept_by (but_all used ls) (state_then tb f.params f.credits.items s gs vs) l (distinct_but_all used ls b.kept.distinct) (ap (without_all used) b.kept.said ∙ without_lodged used ls) held (λ k some le. refl) cells)

      -- with all that it was given gone
      pub kept_up : (l : Loading) → IsGivenUp (gone (call before waits kinds frames)) u (store_of l.cells l.released) → IsKept tb (but_all used ls) (running o s d gs vs) l
      kept_up l up = kept_then l (holds_others code' before waits (call before waits kinds frames) o.calls came.ends.enough (store_of l.cells l.released) (subst (λ t. IsGivenUp (gone (call before waits kinds frames)) t (store_of l.cells l.released)) (came.store ∙ ap (λ (x : Run). (state_of x).store) (sym came.ends.is)) up)) up.cells

      -- with all but what is held gone
      pub kept_swept : (l : Loading) → IsSwept (lodged_uses (but_all used ls)) u (store_of l.cells l.released) → IsKept tb (but_all used ls) (running o s d gs vs) l
      kept_swept l up = kept_then l (holds_swept code' before waits (call before waits kinds frames) o.calls came.ends.enough (store_of l.cells l.released) (subst (λ t. IsSwept (lodged_uses (but_all used ls)) t (store_of l.cells l.released)) (came.store ∙ ap (λ (x : Run). (state_of x).store) (sym came.ends.is)) up)) up.cells

    -- ---- a run with a value

    pub record HasResults : Type 0 where
      pub trees : Parts
      pub words : given ≡ words_of trees
      pub many : C.StandAll tb u f.results trees
      pub values : Values
      pub calls : ℕ
      pub answer : answer_of o i vs ≡ A.Gives values calls
      pub distinct : AreDistinct (but_all used ls ++ lodge_all names f.results trees)
      pub kept : (l : Loading) → IsGivenUp (λ q. lent_fresh_uses f.params gs xs q) u (store_of l.cells l.released) → IsKept tb (but_all used ls ++ lodge_all names f.results trees) (holding (running o s d gs vs) (hold_all names d.results values)) l

    pub has_results : e ≡ M.Value → HasResults
    has_results is =
        let g = gave tb (results code' n) came.last came.left came.end (answer_of o i vs) e given came.is same_end is in
        let over : run_after code' before (state frames) o.calls came.ends.enough ≡ Over (Value given) came.last came.left came.steps = came.ends.is ∙ ap (λ x. Over x came.last came.left came.steps) g.end_is in
        let ys : Parts = g.words.0 in
        let stand : C.StandAll tb came.last.store f.results ys = subst (λ ts. C.StandAll tb came.last.store ts ys) results_are g.words.2 in
        let free : T.AreFree (map holding_of ls) used [] names = subst (λ us. T.AreFree (map holding_of ls) us [] names) used_same (subst (λ hs. T.AreFree hs (used_by o.program.types d.params gs) [] names) b.kept.said b.fits.called.free) in
        let distinct : AreDistinct (but_all used ls ++ lodge_all names f.results ys) = distinct_after ls used names f.results ys b.kept.distinct free in
        let many : length names ≡ length f.results = b.fits.called.count ∙ ap length (sym b.of.results) in
        record {
          trees = ys;
          words = g.words.1;
          many = subst (λ t. C.StandAll tb t f.results ys) (sym came.store) stand;
          values = g.values;
          calls = g.left;
          answer = g.answer;
          distinct = distinct;
          kept = λ l up.
              let v : Store = store_of l.cells l.released in
              let h0 : IsHeldWith tb (but_all used ls) (results code' n) given v = holds_results code' before waits (call before waits kinds frames) o.calls came.ends.enough given came.last came.left came.steps v over (subst (λ t. IsGivenUp (λ q. lent_fresh_uses f.params gs xs q) t v) came.store up) in
              let h : IsHeldWith tb (but_all used ls) f.results given v = subst (λ ts. IsHeldWith tb (but_all used ls) ts given v) results_are h0 in
              let same : h.results ≡ ys = same_parts tb v f.results h.results ys h.stand_too (stand_all_agree tb came.last.store v f.results ys (λ q some. ap (λ cs. cell_in cs q) (up.cells ∙ ap (λ (t : Store). t.cells) came.store)) stand) (sym h.words ∙ g.words.1) in
              let held : IsHeld tb (but_all used ls ++ lodge_all names f.results ys) v = subst (λ zs. IsHeld tb (but_all used ls ++ lodge_all names f.results zs) v) same (held_with tb (but_all used ls) f.results given v names many h) in
              let said : without_all used s.held ++ hold_all names d.results g.values ≡ map holding_of (but_all used ls ++ lodge_all names f.results ys) =
              ap₂ (λ hs us. without_all used hs ++ hold_all names d.results us) b.kept.said (sym g.words.3)
              ∙ ap (λ ts. without_all used (map holding_of ls) ++ hold_all names ts (values_of ys)) (sym b.of.results)
              ∙ sym (said_after ls used names f.results ys) in
              subst (λ t. IsKept tb (but_all used ls ++ lodge_all names f.results ys) (holding t (hold_all names d.results g.values)) l) (sym state_same)
              (kept_by (but_all used ls ++ lodge_all names f.results ys) (holding (state_then tb f.params f.credits.items s gs vs) (hold_all names d.results g.values)) l distinct said held (λ k some le. refl) up.cells);
        }
