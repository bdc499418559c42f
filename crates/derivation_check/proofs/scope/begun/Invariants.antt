use Rattle.std.proofs.Common.{◌≡◌, ◌<◌, ◌≤◌, ◌-◌, map, length, take}
use Rattle.fip_trees.specs.TreeView.{binding}
use Rattle.derivation_check.specs.Scopes.{Scope, known}
use Rattle.derivation_check.specs.ScopeView.{bindings}
use Rattle.derivation_check.proofs.Frames.{Searched}
use Rattle.derivation_check.proofs.scope.begun.Given as goal

abbrev pub decreases-loop-low : goal.decreases-loop-low
decreases-loop-low l = l.high - l.low

abbrev pub invariant-loop-low : goal.invariant-loop-low
invariant-loop-low l = record {
  order : l.low ≤ l.high;
  inside : l.high ≤ length l.bindings;
  searched : Searched l.next (map binding l.bindings) l.binder l.high;
  before : 0 < l.low → (s : Scope) → known (bindings l.next (take (l.low - 1) (map binding l.bindings)) s).variables l.binder ≡ known s.variables l.binder;
}
