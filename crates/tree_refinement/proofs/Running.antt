-- The run of sound code on cells is the run on trees.
use Rattle.std.proofs.Common.{◌≡◌, ℕ, zero, suc, List, refl, sym, ap, ◌∙◌, subst}
use Rattle.tree_semantics.specs.fip_language.Values.{Values}
use Rattle.tree_semantics.specs.fip_language.Meaning as M
use Rattle.tree_semantics.specs.machine_semantics.States.{State, Next, Went, Entered, Gave, Trapped, TooDeep}
use Rattle.tree_semantics.specs.machine_semantics.Steps.{Kinds, next}
use Rattle.tree_semantics.specs.machine_semantics.Runs.{End, Run, Going, Over, begun, comes, later, after, Ends}
use Rattle.tree_semantics.specs.States as U
use Rattle.tree_semantics.specs.Steps as N
use Rattle.tree_semantics.specs.Runs as T
use Rattle.separation_bounds.specs.cell_code.Plain.{PlainCode, results}
use Rattle.separation_bounds.specs.code_rules.Breaks.{IsSound}
use Rattle.separation_bounds.specs.separation.Codes.{HasLiterals, AreKinds}
use Rattle.separation_bounds.specs.separation.Starts.{IsStart}
use Rattle.separation_bounds.proofs.separation.Loading.{start_alive}
use Rattle.separation_bounds.proofs.separation.Running.{GoodRun, later_good, begun_good}
use Rattle.tree_refinement.specs.Agreement.{IsSame, IsSameNext}
use Rattle.tree_refinement.specs.Runs.{BeginsWith, IsSameEnd, IsSameRun}
use Rattle.tree_refinement.proofs.Stepping.{next_same}
use Rattle.tree_refinement.proofs.Loading.{begins_same}

comes_same : (c : PlainCode) (before waits : Kinds) (types : List ℕ) (s : State) (t : U.State) (left n : ℕ) (x : Next) (y : U.Next) → IsSame c.types before waits s t → IsSameNext c.types before waits types s x y → IsSameRun c.types before waits types (comes s left n x) (T.comes t left n y)
comes_same c before waits types s t left n (Went u) (U.Went v) m g = (g, refl, refl)
comes_same c before waits types s t zero n (Entered u) (U.Entered v) m g = (tt, m, refl, refl)
comes_same c before waits types s t (suc left) n (Entered u) (U.Entered v) m g = (g, refl, refl)
comes_same c before waits types s t left n (Gave ws) (U.Gave vs) m g = ((g, refl), m, refl, refl)
comes_same c before waits types s t left n (Trapped k line col) (U.Trapped l row at) m g = (g, m, refl, refl)
comes_same c before waits types s t zero n TooDeep U.TooDeep m g = (tt, m, refl, refl)
comes_same c before waits types s t (suc left) n TooDeep U.TooDeep m g = (tt, m, refl, refl)
comes_same c before waits types s t left n x y m g = absurd g

later_same : (c : PlainCode) (before waits : Kinds) (types kept : List ℕ) (r : Run) (q : T.Run) → IsSound c → HasLiterals c → AreKinds c before waits → GoodRun c types kept r → IsSameRun c.types before waits types r q → IsSameRun c.types before waits types (later before c r) (T.later c q)
later_same c before waits types kept (Going s left n) (T.Going t l m) sound literals kinds g i =
    subst (λ l. IsSameRun c.types before waits types (comes s left (suc n) (next before c s)) (T.comes t l (suc m) (N.next c t))) i.1
    (subst (λ m. IsSameRun c.types before waits types (comes s left (suc n) (next before c s)) (T.comes t left (suc m) (N.next c t))) i.2
    (comes_same c before waits types s t left (suc n) (next before c s) (N.next c t) i.0 (next_same c before waits types kept s t sound literals kinds g i.0)))
later_same c before waits types kept (Going s left n) (T.Over a t l m) sound literals kinds g i = absurd i
later_same c before waits types kept (Over e s left n) (T.Going t l m) sound literals kinds g i = absurd i
later_same c before waits types kept (Over e s left n) (T.Over a t l m) sound literals kinds g i = i

after_same : (c : PlainCode) (before waits : Kinds) (types kept : List ℕ) (k : ℕ) (r : Run) (q : T.Run) → IsSound c → HasLiterals c → AreKinds c before waits → GoodRun c types kept r → IsSameRun c.types before waits types r q → IsSameRun c.types before waits types (after before c k r) (T.after c k q)
after_same c before waits types kept zero r q sound literals kinds g i = i
after_same c before waits types kept (suc k) r q sound literals kinds g i = after_same c before waits types kept k (later before c r) (T.later c q) sound literals kinds (later_good c before waits types kept r sound literals kinds g) (later_same c before waits types kept r q sound literals kinds g i)

begun_same : (c : PlainCode) (before waits : Kinds) (types : List ℕ) (s : State) (t : U.State) (calls : ℕ) → IsSame c.types before waits s t → IsSameRun c.types before waits types (begun s calls) (T.begun t calls)
begun_same c before waits types s t zero m = (tt, m, refl, refl)
begun_same c before waits types s t (suc left) m = (m, refl, refl)

pub run_same : (c : PlainCode) (before waits : Kinds) (n : ℕ) (kept : List ℕ) (s : State) (vs : Values) (calls k : ℕ) → IsStart c before waits n kept s → BeginsWith c n s vs → IsSameRun c.types before waits (results c n) (after before c k (begun s calls)) (T.after c k (T.begun (T.entry n vs s.free) calls))
run_same c before waits n kept s vs calls k t b = after_same c before waits (results c n) kept k (begun s calls) (T.begun (T.entry n vs s.free) calls) t.sound t.literals t.kinds
    (begun_good c (results c n) kept s calls (start_alive c before waits n kept s t))
    (begun_same c before waits (results c n) s (T.entry n vs s.free) calls (begins_same c before waits n kept s vs t b))

-- ---- ends

-- the run on cells is over where the one on trees is
cells_over : (c : PlainCode) (before waits : Kinds) (types : List ℕ) (r : Run) (a : M.Answer) (last : U.State) (left steps : ℕ) → IsSameRun c.types before waits types r (T.Over a last left steps) → (e : End) × (end : State) × (r ≡ Over e end left steps) × IsSameEnd c.types types end left e a
cells_over c before waits types (Going s l n) a last left steps i = absurd i
cells_over c before waits types (Over e s l n) a last left steps i = (e, s, ap (λ l. Over e s l n) i.2 ∙ ap (λ n. Over e s left n) i.3, subst (λ l. IsSameEnd c.types types s l e a) i.2 i.0)

pub cells_end : (c : PlainCode) (before waits : Kinds) (n : ℕ) (kept : List ℕ) (s : State) (vs : Values) (calls k : ℕ) (a : M.Answer) (last : U.State) (left steps : ℕ) → IsStart c before waits n kept s → BeginsWith c n s vs → T.after c k (T.begun (T.entry n vs s.free) calls) ≡ T.Over a last left steps → (e : End) × (end : State) × Ends before c s calls e end left steps × IsSameEnd c.types (results c n) end left e a
cells_end c before waits n kept s vs calls k a last left steps t b is =
    let o = cells_over c before waits (results c n) (after before c k (begun s calls)) a last left steps (subst (IsSameRun c.types before waits (results c n) (after before c k (begun s calls))) is (run_same c before waits n kept s vs calls k t b)) in
    (o.0, o.1, record { enough = k; is = o.2 }, o.3)

-- the run on trees is over where the one on cells is
trees_over : (c : PlainCode) (before waits : Kinds) (types : List ℕ) (q : T.Run) (e : End) (end : State) (left steps : ℕ) → IsSameRun c.types before waits types (Over e end left steps) q → (a : M.Answer) × (last : U.State) × (q ≡ T.Over a last left steps) × IsSameEnd c.types types end left e a
trees_over c before waits types (T.Going t l m) e end left steps i = absurd i
trees_over c before waits types (T.Over a t l m) e end left steps i = (a, t, ap (λ l. T.Over a t l m) (sym i.2) ∙ ap (λ m. T.Over a t left m) (sym i.3), i.0)

pub trees_end : (c : PlainCode) (before waits : Kinds) (n : ℕ) (kept : List ℕ) (s : State) (vs : Values) (calls : ℕ) (e : End) (end : State) (left steps : ℕ) → IsStart c before waits n kept s → BeginsWith c n s vs → (ends : Ends before c s calls e end left steps) → (a : M.Answer) × (last : U.State) × (T.after c ends.enough (T.begun (T.entry n vs s.free) calls) ≡ T.Over a last left steps) × IsSameEnd c.types (results c n) end left e a
trees_end c before waits n kept s vs calls e end left steps t b ends =
    trees_over c before waits (results c n) (T.after c ends.enough (T.begun (T.entry n vs s.free) calls)) e end left steps
    (subst (λ r. IsSameRun c.types before waits (results c n) r (T.after c ends.enough (T.begun (T.entry n vs s.free) calls))) ends.is (run_same c before waits n kept s vs calls ends.enough t b))
