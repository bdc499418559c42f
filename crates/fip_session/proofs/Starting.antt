-- A call whose cells are made begins beside the cells of all names that it isn't given.
use Rattle.std.proofs.Common.{◌≡◌, ◌≢◌, ◌∙◌, ◌<◌, ◌≤◌, ◌+◌, ℕ, suc, Bool, true, false, not, List, [], ◌∷◌, ◌++◌, length, map, Option, Some, None, slice_get, option_map, refl, sym, ap, ap₂, subst, nat_lt, ◌==◌, arith}
use Rattle.std.proofs.lemmas.Bool.Decides.{nat_tests}
use Rattle.std.proofs.lemmas.List.{length-append, length-map}
use Rattle.std.proofs.lemmas.Option.{slice_get-map}
use Rattle.cell_code.specs.declared.code.Code.{Code}
use Rattle.cell_code.specs.declared.code.Function.{Function}
use Rattle.cell_store.specs.Cells as L
use Rattle.cell_store.specs.Made.{Loading}
use Rattle.fip_language.specs.Store.{Cell, Parts, NoParts, MoreParts, words_of, values_of, count}
use Rattle.fip_language.specs.Table.{Table}
use Rattle.fip_language.specs.Values.{Values}
use Rattle.fip_machine.specs.machine_cells.Small.{store_of}
use Rattle.session_correctness.specs.tree_refinement.code_rules.Breaks.{IsSound}
use Rattle.cell_code.specs.Plain.{PlainFunction, PlainCode, plain_function, plain, function_at}
use Rattle.session_correctness.specs.tree_refinement.code_rules.Headers.{is_formed}
use Rattle.session_correctness.specs.tree_refinement.code_rules.Limits.{most_registers}
use Rattle.session_correctness.specs.tree_refinement.machine_semantics.Apart.{IsGiven}
use Rattle.session_correctness.specs.tree_refinement.machine_semantics.Cells.{Store, IsStore, cell_in, cell_at, there, released_at}
use Rattle.session_correctness.specs.tree_refinement.machine_semantics.Runs.{loaded, loaded_in, lent_words}
use Rattle.session_correctness.specs.tree_refinement.machine_semantics.States.{State}
use Rattle.session_correctness.specs.tree_refinement.machine_semantics.Steps.{Kinds, first_frame}
use Rattle.session_correctness.specs.tree_refinement.machine_semantics.Trees.{StandAll}
use Rattle.session_correctness.specs.tree_refinement.separation.Codes.{HasLiterals, AreKinds}
use Rattle.session_correctness.specs.tree_refinement.separation.Starts.{IsStart}
use Rattle.session_correctness.proofs.tree_refinement.separation.Sound.{formed}
use Rattle.session_correctness.proofs.tree_refinement.separation_kinds.Basics.{both, refuted}
use Rattle.session_correctness.specs.Beside.{BeginsBeside}
use Rattle.session_correctness.specs.Called.{AllStand, IsHeld}
use Rattle.session_correctness.specs.Calling.{CallOf}
use Rattle.session_correctness.specs.Lodging.{Lodged, AreDistinct, but_all, named_by_all, lodged_uses, lodged_places, fresh_uses, used_uses}
use Rattle.session_correctness.proofs.Beginning.{start}
use Rattle.session_correctness.proofs.Calls.{bare}
use Rattle.session_correctness.proofs.Sharing.{used_and_held}
use Rattle.session_correctness.proofs.Making.{is_given, still_stand, others}
use Rattle.session_lines.specs.session_semantics.Lines.{Given as Written}
use Rattle.value_text.specs.Loaded.{live, types_of, AreZero, cell_words}
use Rattle.value_text.specs.Standing as V
use Rattle.fip_session.specs.Readied.{IsReady}
use Rattle.fip_session.specs.declared.ready.Ready.{Ready}
use Rattle.fip_session.proofs.Stores.{same_cell, live_there, stand_all, lie_there, spare, names}
use Rattle.fip_language.proofs.Facts.{nat_lt_false as not_less}

-- ---- a function has registers for what it is given

pub room : (c : PlainCode) (f : PlainFunction) → is_formed c f ≡ true → length f.params + length f.credits ≤ f.registers
room c f e =
    let a = both (not (length f.instrs == 0)) _ e in
    let b = both (not (nat_lt f.registers (length f.params + length f.credits))) _ a.1 in
    not_less f.registers (length f.params + length f.credits) (refuted (nat_lt f.registers (length f.params + length f.credits)) b.0)

stand_length : (tb : Table) (cs : L.Cells) (ts : List ℕ) (xs : Parts) → V.StandAll tb cs ts xs → length (words_of xs) ≡ length ts
stand_length tb cs [] NoParts h = refl
stand_length tb cs [] (MoreParts x xs) h = absurd h
stand_length tb cs (t ∷ ts) NoParts h = absurd h
stand_length tb cs (t ∷ ts) (MoreParts x xs) h = ap suc (stand_length tb cs ts xs h.1)

zero_length : (cs : L.Cells) (ps ks : List ℕ) → AreZero cs ps ks → length (cell_words ps) ≡ length ks
zero_length cs [] [] h = refl
zero_length cs [] (k ∷ ks) h = absurd h
zero_length cs (p ∷ ps) [] h = absurd h
zero_length cs (p ∷ ps) (k ∷ ks) h = ap suc (zero_length cs ps ks h.1)

-- ---- the call

module _ (code : Code) (n : ℕ) (f : Function) (is : slice_get code.functions.items n ≡ Some f) (sound : IsSound (plain code)) (literals : HasLiterals (plain code)) (ls : List Lodged) (gs : List Written) (vs : Values) (old new : Loading) (r : Ready) (distinct : AreDistinct ls) (held : IsHeld code.types ls (store_of old.cells old.released)) (store : IsStore (store_of new.cells new.released)) (h : IsReady code.types ls f.params f.credits.items gs vs old new r) where
  abbrev pub function : PlainFunction
  function = plain_function f

  abbrev pub first : Store
  first = store_of new.cells new.released

  pub function_is : function_at (plain code) n ≡ Some function
  function_is = slice_get-map plain_function code.functions.items n ∙ ap (option_map plain_function) is

  pub fits : length r.words.items ≤ f.registers
  fits =
      let a = ap length h.words in
      let b = length-append (words_of h.trees) (cell_words h.spares) in
      let d = stand_length code.types new.cells (types_of f.params) h.trees h.stand in
      let e = zero_length new.cells h.spares f.credits.items h.zero in
      let g = length-map f.params (λ p. p.ty) in
      let i = room (plain code) function (formed (plain code) n function sound function_is) in
      omega (arith, a, b, d, e, g, i)

  -- what is held stays in the cells
  pub same : (q : ℕ) → 0 < lodged_uses ls q → cell_at first q ≡ cell_at (store_of old.cells old.released) q
  same q some =
      let lie = lie_there code.types ls old held in
      sym (same_cell new.cells q) ∙ h.made.kept q (lie.alive q (omega (arith, some))) ∙ same_cell old.cells q

  pub once : (q : ℕ) → lodged_uses ls q + ((fresh_uses gs h.trees q + count q h.spares) + released_at first q) ≡ there first q
  once q =
      let m = h.made.once q in
      let a = held.once q in
      let b = live_there old q held.store in
      let d = live_there new q store in
      omega (arith, m, a, b, d)

  -- what it is given and uses up is apart
  pub all_apart : (q : ℕ) → fresh_uses gs h.trees q + used_uses f.params gs h.trees q ≤ there first q
  all_apart q =
      let o = once q in
      let u = used_and_held code.types ls distinct f.params gs h.trees q h.given (bare code.types first f.params h.trees (stand_all code.types first store.sized (types_of f.params) h.trees h.stand)) in
      omega (arith, o, u)

  pub stand : StandAll code.types first (types_of f.params) h.trees
  stand = stand_all code.types first store.sized (types_of f.params) h.trees h.stand

  -- what is held stands there still
  pub still : AllStand code.types first ls
  still = still_stand code.types ls (store_of old.cells old.released) first function gs h.trees h.spares r.words.items held distinct store same once stand (spare first f.credits.items h.spares h.zero) h.given (h.words ∙ ap (λ ws. words_of h.trees ++ ws) (names h.spares))

  abbrev pub kept : List ℕ
  kept = lodged_places (but_all (named_by_all code.types f.params gs) ls)

  abbrev given : IsGiven code.types function first kept r.words.items
  given = is_given code.types ls (store_of old.cells old.released) first function gs h.trees h.spares r.words.items held distinct store same once stand (spare first f.credits.items h.spares h.zero) h.given (h.words ∙ ap (λ ws. words_of h.trees ++ ws) (names h.spares))

  abbrev pub state : ℕ → State
  state frames = record {
    store = first;
    running = first_frame n (plain_function f) r.words.items;
    waiting = [];
    free = frames;
    lent = lent_words code.types (plain_function f).params r.words.items;
  }

  pub loads : (frames : ℕ) → loaded (plain code) n first r.words.items frames ≡ Some (state frames)
  loads frames = ap (λ o. loaded_in code.types n o first r.words.items frames) (slice_get-map plain_function code.functions.items n ∙ ap (option_map plain_function) is)

  abbrev pub begins : (frames : ℕ) → BeginsBeside code n function vs frames kept (state frames)
  begins frames = record { is = function_is; words = r.words.items; given = given; values = h.values; loaded = loads frames }

  abbrev pub starts : (before waits : Kinds) → AreKinds (plain code) before waits → (frames : ℕ) → IsStart (plain code) before waits n kept (state frames)
  starts before waits kinds frames = start code before waits n function vs frames kept (state frames) (begins frames) sound literals kinds

  abbrev pub call : (before waits : Kinds) → AreKinds (plain code) before waits → (frames : ℕ) → CallOf (plain code) before waits
  call before waits kinds frames = record {
    entry = n;
    kept = kept;
    state = state frames;
    held = ls;
    given = gs;
    start = starts before waits kinds frames;
    distinct = distinct;
    stand = still;
    trees = h.given;
    others = others code.types ls (store_of old.cells old.released) first function gs h.trees h.spares r.words.items held distinct store same once stand (spare first f.credits.items h.spares h.zero) h.given (h.words ∙ ap (λ ws. words_of h.trees ++ ws) (names h.spares));
  }
