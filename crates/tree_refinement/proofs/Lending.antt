-- The trees of the entry's borrowed arguments stay through a run.
-- The idea: a step changes only cells that the running frame owns, and the borrowed arguments' cells are none of these.
use Rattle.std.proofs.Common.{◌≡◌, inl, inr, ℕ, zero, suc, ◌<◌, List, [], ◌∷◌, length, Option, Some, None, refl, sym, ap, ap₂, ◌∙◌, subst, arith}
use Rattle.tree_semantics.specs.fip_language.declared.Operator.{Operator}
use Rattle.tree_semantics.specs.fip_language.Store.{Placed}
use Rattle.tree_semantics.specs.fip_language.Table.{Table}
use Rattle.separation_bounds.specs.cell_code.declared.code.Instr.{Instr}
use Rattle.separation_bounds.specs.cell_code.declared.code.Instr.TheVariants as I
use Rattle.tree_semantics.specs.machine_semantics.Apart.{AreTrees, trees_uses}
use Rattle.tree_semantics.specs.machine_semantics.Cells.{Store}
use Rattle.separation_bounds.specs.cell_code.Plain.{PlainFunction, PlainCode, results}
use Rattle.tree_semantics.specs.machine_semantics.Rows as D
use Rattle.tree_semantics.specs.machine_semantics.Runs.{Run, Going, Over, state_of, begun, comes, later, after}
use Rattle.tree_semantics.specs.machine_semantics.States.{Frame, State, Typed, Next, Went, Entered, Gave, Trapped, TooDeep, Stuck}
use Rattle.tree_semantics.specs.machine_semantics.Steps.{Kinds, went, went_with, trapped, called, called_with, replaced, returned, resumed, act, act_at, next, instr_of, kinds_of}
use Rattle.separation_bounds.specs.code_rules.Breaks.{IsSound}
use Rattle.separation_bounds.specs.code_rules.Kinds.{at}
use Rattle.separation_bounds.specs.separation_kinds.Meanings.{owned_by}
use Rattle.separation_bounds.specs.separation.Rows.{IsReady, IsDone}
use Rattle.separation_bounds.proofs.separation.Stores.{there_few}
use Rattle.separation_bounds.proofs.separation.PlainRows.{const_row, atom_row, move_row, jump_row, test_int_row}
use Rattle.separation_bounds.proofs.separation.ReadingRows.{IsCalculated, arith_row, test_row, peek_row}
use Rattle.separation_bounds.proofs.separation.TakeRow.{take_row}
use Rattle.separation_bounds.proofs.separation.CellRows.{put_row, free_row, drop_row}
use Rattle.separation_bounds.specs.separation.Alive.{lower_trees, IsAlive}
use Rattle.separation_bounds.specs.separation.Codes.{HasLiterals, AreKinds}
use Rattle.separation_bounds.specs.separation.Starts.{IsStart}
use Rattle.separation_bounds.proofs.separation.Loading.{start_alive}
use Rattle.separation_bounds.proofs.separation.Local.{ready}
use Rattle.separation_bounds.proofs.separation.Lower.{trees_agree}
use Rattle.separation_bounds.proofs.separation.Returning.{run_instr_at}
use Rattle.separation_bounds.proofs.separation.Running.{GoodRun, later_good, begun_good}
use Rattle.tree_refinement.proofs.Values.{same_placed}

-- ---- words stand for one list of trees

pub trees_once : (tb : Table) (s : Store) (ts : List Typed) (xs ys : List Placed) → AreTrees tb s ts xs → AreTrees tb s ts ys → xs ≡ ys
trees_once tb s [] [] [] g h = refl
trees_once tb s [] [] (y ∷ ys) g h = absurd h
trees_once tb s [] (x ∷ xs) ys g h = absurd g
trees_once tb s (t ∷ ts) [] ys g h = absurd g
trees_once tb s (t ∷ ts) (x ∷ xs) [] g h = absurd h
trees_once tb s (t ∷ ts) (x ∷ xs) (y ∷ ys) g h = ap₂ (λ z zs. z ∷ zs) (same_placed tb s t.type x y g.0.stands h.0.stands (g.0.word ∙ sym h.0.word)) (trees_once tb s ts xs ys g.1 h.1)

-- ---- a step

-- The state has these borrowed words, which stand for these trees.
abbrev pub Lends : PlainCode → List Typed → List Placed → State → Type 0
Lends c ts xs s = (s.lent ≡ ts) × AreTrees c.types s.store ts xs

-- so it is of what comes after a state
abbrev Stays : PlainCode → List Typed → List Placed → Next → Type 0
Stays c ts xs (Went t) = Lends c ts xs t
Stays c ts xs (Entered t) = Lends c ts xs t
Stays c ts xs (Gave ws) = Unit {0}
Stays c ts xs (Trapped kind line col) = Unit {0}
Stays c ts xs TooDeep = Unit {0}
Stays c ts xs Stuck = Unit {0}

module _ (c : PlainCode) (types kept : List ℕ) (s : State) where
  went_stays : (x : Instr) (a : IsAlive c types kept s) → IsDone c a.function (lower_trees a.frozen a.lent) a.kinds a.holds s x → Stays c s.lent a.lent (went s (D.done c.types a.kinds s x))
  went_stays x a d =
      let same : (q : ℕ) → 0 < trees_uses q a.lent → owned_by q (at a.kinds) a.holds (length a.kinds) ≡ 0 = λ q some. let o = a.once q in let t = there_few s.store q in omega arith in
      subst (Stays c s.lent a.lent) (sym (ap (went s) d.is ∙ ap (went_with s d.done) d.changed))
      (refl, trees_agree c.types s.store d.store s.lent a.lent (λ q some. d.elsewhere q (same q some)) a.arguments)

  trapped_stays : (o : Operator) (x y line col : ℕ) (i : Instr) (a : IsAlive c types kept s) → IsCalculated c a.function (lower_trees a.frozen a.lent) a.kinds a.holds s o x y i → Stays c s.lent a.lent (trapped s line col (D.trap (D.operated s o x y)) (D.done c.types a.kinds s i))
  trapped_stays o x y line col i a h = elim h as (λ v. Stays c s.lent a.lent (trapped s line col (D.trap (D.operated s o x y)) (D.done c.types a.kinds s i))) [
    | inl d ↦ subst (λ t. Stays c s.lent a.lent (trapped s line col t (D.done c.types a.kinds s i))) (sym d.0) (went_stays i a d.1)
    | inr k ↦ subst (λ t. Stays c s.lent a.lent (trapped s line col t (D.done c.types a.kinds s i))) (sym k.1) tt
  ]

  called_stays : (xs : List Placed) (n : ℕ) (o : Option PlainFunction) (vs : Option (List ℕ)) → AreTrees c.types s.store s.lent xs → Stays c s.lent xs (called s n o vs)
  called_stays xs n None vs h = tt
  called_stays xs n (Some g) None h = tt
  called_stays xs n (Some g) (Some ws) h = by s.free
    where
      by : (free : ℕ) → Stays c s.lent xs (called_with s n g free ws)
      by zero = tt
      by (suc free) = (refl, h)

  replaced_stays : (xs : List Placed) (n : ℕ) (o : Option PlainFunction) (vs : Option (List ℕ)) → AreTrees c.types s.store s.lent xs → Stays c s.lent xs (replaced s n o vs)
  replaced_stays xs n None vs h = tt
  replaced_stays xs n (Some g) None h = tt
  replaced_stays xs n (Some g) (Some ws) h = (refl, h)

  resumed_stays : (xs : List Placed) (w : Frame) (below : List Frame) (o : Option (List ℕ)) → AreTrees c.types s.store s.lent xs → Stays c s.lent xs (resumed s w below o)
  resumed_stays xs w below None h = tt
  resumed_stays xs w below (Some ws) h = (refl, h)

  returned_stays : (xs : List Placed) (ws : List Frame) (o : Option (List ℕ)) → AreTrees c.types s.store s.lent xs → Stays c s.lent xs (returned c s ws o)
  returned_stays xs ws None h = tt
  returned_stays xs [] (Some vs) h = tt
  returned_stays xs (w ∷ below) (Some vs) h = resumed_stays xs w below _ h

  act_stays : (x : Instr) (a : IsAlive c types kept s) → IsReady c a.function (lower_trees a.frozen a.lent) a.kinds a.holds s x → Stays c s.lent a.lent (act c a.kinds s x)
  act_stays (I.Const d v) a r = went_stays (I.Const d v) a (const_row c a.function (lower_trees a.frozen a.lent) a.kinds a.holds s d v r)
  act_stays (I.Atom d t k) a r = went_stays (I.Atom d t k) a (atom_row c a.function (lower_trees a.frozen a.lent) a.kinds a.holds s d t k r)
  act_stays (I.Move d q) a r = went_stays (I.Move d q) a (move_row c a.function (lower_trees a.frozen a.lent) a.kinds a.holds s d q r)
  act_stays (I.Arith d o x y line col) a r = trapped_stays o x y line col (I.Arith d o x y line col) a (arith_row c a.function (lower_trees a.frozen a.lent) a.kinds a.holds s d o x y line col r)
  act_stays (I.Test q k target) a r = went_stays (I.Test q k target) a (test_row c a.function (lower_trees a.frozen a.lent) a.kinds a.holds s q k target r)
  act_stays (I.TestInt q v target) a r = went_stays (I.TestInt q v target) a (test_int_row c a.function (lower_trees a.frozen a.lent) a.kinds a.holds s q v target r)
  act_stays (I.Peek d q i) a r = went_stays (I.Peek d q i) a (peek_row c a.function (lower_trees a.frozen a.lent) a.kinds a.holds s d q i r)
  act_stays (I.Take q ds) a r = went_stays (I.Take q ds) a (take_row c a.function (lower_trees a.frozen a.lent) a.kinds a.holds s q ds r)
  act_stays (I.Put d t k rs) a r = went_stays (I.Put d t k rs) a (put_row c a.function (lower_trees a.frozen a.lent) a.kinds a.holds s d t k rs r)
  act_stays (I.Drop q) a r = went_stays (I.Drop q) a (drop_row c a.function (lower_trees a.frozen a.lent) a.kinds a.holds s q r)
  act_stays (I.Free q) a r = went_stays (I.Free q) a (free_row c a.function (lower_trees a.frozen a.lent) a.kinds a.holds s q r)
  act_stays (I.Call g rs ds) a r = called_stays a.lent g _ _ a.arguments
  act_stays (I.Tail g rs) a r = replaced_stays a.lent g _ _ a.arguments
  act_stays (I.Ret rs) a r = returned_stays a.lent s.waiting (D.read_all s.running.words rs) a.arguments
  act_stays (I.Jump target) a r = went_stays (I.Jump target) a (jump_row c a.function (lower_trees a.frozen a.lent) a.kinds a.holds s target r)

  next_stays : (before waits : Kinds) → IsSound c → HasLiterals c → AreKinds c before waits → (a : IsAlive c types kept s) → Stays c s.lent a.lent (next before c s)
  next_stays before waits sound literals kinds a =
      let instr : instr_of c s ≡ Some a.instr = run_instr_at c s.running.function s.running.at a.function a.instr a.is a.is_instr in
      let known : kinds_of before s ≡ a.kinds = kinds.known s.running.function s.running.at a.function a.kinds a.is a.known in
      subst (Stays c s.lent a.lent) (sym (ap₂ (λ ks x. act_at c ks s x) known instr)) (act_stays a.instr a (ready c types kept s sound literals a))

-- ---- a run

comes_lends : (c : PlainCode) (ts : List Typed) (xs : List Placed) (s : State) (left n : ℕ) (x : Next) → Lends c ts xs s → Stays c ts xs x → Lends c ts xs (state_of (comes s left n x))
comes_lends c ts xs s left n (Went t) h g = g
comes_lends c ts xs s zero n (Entered t) h g = h
comes_lends c ts xs s (suc left) n (Entered t) h g = g
comes_lends c ts xs s left n (Gave ws) h g = h
comes_lends c ts xs s left n (Trapped kind line col) h g = h
comes_lends c ts xs s zero n TooDeep h g = h
comes_lends c ts xs s (suc left) n TooDeep h g = h
comes_lends c ts xs s left n Stuck h g = h

module _ (c : PlainCode) (before waits : Kinds) (types kept : List ℕ) (ts : List Typed) (xs : List Placed) (sound : IsSound c) (literals : HasLiterals c) (kinds : AreKinds c before waits) where
  later_lends : (r : Run) → GoodRun c types kept r → Lends c ts xs (state_of r) → Lends c ts xs (state_of (later before c r))
  later_lends (Going s left n) g h =
      let comes_next : Next = next before c s in
      let stays : Stays c s.lent g.lent comes_next = next_stays c types kept s before waits sound literals kinds g in
      let here : AreTrees c.types s.store ts g.lent = subst (λ us. AreTrees c.types s.store us g.lent) h.0 g.arguments in
      let same : g.lent ≡ xs = trees_once c.types s.store ts g.lent xs here h.1 in
      comes_lends c ts xs s left (suc n) comes_next h (subst (λ ys. Stays c ts ys comes_next) same (subst (λ us. Stays c us g.lent comes_next) h.0 stays))
  later_lends (Over e s left n) g h = h

  after_lends : (k : ℕ) (r : Run) → GoodRun c types kept r → Lends c ts xs (state_of r) → Lends c ts xs (state_of (after before c k r))
  after_lends zero r g h = h
  after_lends (suc k) r g h = after_lends k (later before c r) (later_good c before waits types kept r sound literals kinds g) (later_lends r g h)

begun_lends : (c : PlainCode) (ts : List Typed) (xs : List Placed) (s : State) (calls : ℕ) → Lends c ts xs s → Lends c ts xs (state_of (begun s calls))
begun_lends c ts xs s zero h = h
begun_lends c ts xs s (suc left) h = h

pub run_lends : (c : PlainCode) (before waits : Kinds) (n : ℕ) (kept : List ℕ) (s : State) (calls k : ℕ) (xs : List Placed) → IsStart c before waits n kept s → AreTrees c.types s.store s.lent xs → Lends c s.lent xs (state_of (after before c k (begun s calls)))
run_lends c before waits n kept s calls k xs t h =
    after_lends c before waits (results c n) kept s.lent xs t.sound t.literals t.kinds k (begun s calls)
    (begun_good c (results c n) kept s calls (start_alive c before waits n kept s t)) (begun_lends c s.lent xs s calls (refl, h))
