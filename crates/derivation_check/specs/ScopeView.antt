-- It serves the proof of what `check` does: the scope that is round an expression.
use Rattle.std.specs.Prelude.{◌≡◌, ◌<◌, ◌≤◌, ◌+◌, ◌==◌, ℕ, zero, suc, Bool, false, true, List, [], ◌∷◌, map, length}
use Rattle.std.specs.Prelude.{Option, Some, None, if◌then◌else◌}
use Rattle.fip_base.specs.declared.plain.Param.{Param}
use Rattle.fip_trees.specs.declared.program.Binder.{Binder}
use Rattle.fip_trees.specs.TreeView.{BoundPart}
use Rattle.fip_trees.specs.TreeView as V
use Rattle.fip_rules.specs.Shapes.{binders}
use Rattle.derivation_check.specs.Places.{IsRising}
use Rattle.derivation_check.specs.Scopes.{Known, Scope, parameters, binding, lending, AreNumbered, within}
use Rattle.derivation_check.specs.declared.scope.Variable.{Variable}
use Rattle.derivation_check.specs.declared.scope.Scope as D
use Rattle.derivation_check.specs.declared.scope.Scope.TheOpen as O
use Rattle.derivation_check.specs.declared.scope.Scope.TheFolds.{fold-Scope}

-- what is round an expression, from the inside out
pub data Frame : Type 0 where
  HeaderFrame : (params : List Param) → Frame
  ClauseFrame : (bs : List Binder) (own : Bool) (core next : ℕ) → Frame
  BindingsFrame : (bs : List BoundPart) (core next : ℕ) → Frame
  BoundFrame : (whole used : List ℕ) → Frame

abbrev pub frames_step : O.Scope-F (List Frame) → List Frame
frames_step (O.Header ps) = HeaderFrame ps.now ∷ []
frames_step (O.Clause s q taken c d) = ClauseFrame (binders (V.pattern q.now)) taken c d ∷ s.now
frames_step (O.Bindings s bs c d) = BindingsFrame (map V.binding bs.now) c d ∷ s.now
frames_step (O.Bound s xs ys) = BoundFrame xs.now ys.now ∷ s.now

abbrev pub frames : D.Scope → List Frame
frames = fold-Scope (List Frame) frames_step

-- after some bindings of a block
abbrev pub bindings : ℕ → List BoundPart → Scope → Scope
bindings d [] s = s
bindings d (b ∷ bs) s = bindings (d + within b.bound + length b.binders) bs (binding d true b.binders s)

abbrev pub scope_of : List Frame → Scope
scope_of [] = record { variables = []; lent = λ x. false }
scope_of (HeaderFrame ps ∷ fs) = record { variables = parameters 0 ps; lent = λ x. false }
scope_of (ClauseFrame bs own c d ∷ fs) = binding d own bs (scope_of fs)
scope_of (BindingsFrame bs c d ∷ fs) = bindings d bs (scope_of fs)
scope_of (BoundFrame xs ys ∷ fs) = lending xs ys (scope_of fs)

-- bindings whose binders have the numbers of the program and of the derivation
abbrev pub AreBindings : ℕ → ℕ → List BoundPart → Type 0
AreBindings c d [] = Unit {0}
AreBindings c d (b ∷ bs) =
    (0 < length b.binders) × AreNumbered (c + within b.bound) d b.binders
    × (d + within b.bound + length b.binders ≤ 4294967296)
    × AreBindings (c + within b.bound + length b.binders) (d + within b.bound + length b.binders) bs

abbrev pub Fits : List Frame → Type 0
Fits [] = Unit {0}
Fits (HeaderFrame ps ∷ fs) = Unit {0}
Fits (ClauseFrame bs own c d ∷ fs) = AreNumbered c d bs × (c ≤ d) × Fits fs
Fits (BindingsFrame bs c d ∷ fs) = AreBindings c d bs × (c ≤ d) × Fits fs
Fits (BoundFrame xs ys ∷ fs) = IsRising xs × IsRising ys × Fits fs

-- the first binder of a number
abbrev pub first : List Binder → ℕ → Option Binder
first [] x = None
first (b ∷ bs) x = if b.number == x then Some b else first bs x

abbrev pub known_as : ℕ → Variable → Known
known_as x v = record { binder = x; number = v.number; ty = v.ty; owned = v.is_owned }

-- the derivation's number at the start of the binding at place j
abbrev pub start : ℕ → List BoundPart → ℕ → ℕ
start d [] j = d
start d (b ∷ bs) zero = d
start d (b ∷ bs) (suc j) = start (d + within b.bound + length b.binders) bs j
