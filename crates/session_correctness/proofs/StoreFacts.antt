-- What a call leaves, by what it begins with.
use Rattle.std.proofs.Common.{◌≡◌, ℕ, List}
use Rattle.tree_refinement.specs.fip_language.Table.{Table}
use Rattle.separation_bounds.specs.cell_code.Plain.{PlainCode, results}
use Rattle.tree_refinement.specs.machine_semantics.Cells.{Store, count_held}
use Rattle.tree_refinement.specs.machine_semantics.Runs.{Over, Value, state_of}
use Rattle.tree_refinement.specs.machine_semantics.States.{State}
use Rattle.tree_refinement.specs.machine_semantics.Steps.{Kinds}
use Rattle.tree_refinement.specs.separation.Starts.{IsStart}
use Rattle.session_correctness.specs.Called.{IsHeld, IsHeldWith, IsGivenUp, IsSwept}
use Rattle.session_correctness.specs.Calling.{CallOf, held_after, lent, gone, run_after}
use Rattle.session_correctness.specs.Counted.{lodged_cells}
use Rattle.session_correctness.specs.Leaving.{Leaves}
use Rattle.session_correctness.specs.Lodging.{Lodged, lodged_uses}
use Rattle.session_correctness.proofs.Calls.{done, ended, swept}
use Rattle.session_correctness.proofs.Counting.{held_cells}
use Rattle.session_correctness.proofs.Leaving.{run_leaves}
pub use Rattle.session_correctness.proofs.Counting.{held_cells as counted}

pub leaves : (c : PlainCode) (before waits : Kinds) (n : ℕ) (kept : List ℕ) (s : State) (t : IsStart c before waits n kept s) (calls k : ℕ) → Leaves c.types t.function.params t.given.arguments kept s.store (state_of (run_after c before s calls k)).store
leaves c before waits n kept s t calls k = run_leaves c before waits n kept s t calls k

pub holds_results : (c : PlainCode) (before waits : Kinds) (h : CallOf c before waits) (calls k : ℕ) (ws : List ℕ) (last : State) (left steps : ℕ) (u : Store) → run_after c before h.state calls k ≡ Over (Value ws) last left steps → IsGivenUp (lent h) last.store u → IsHeldWith c.types (held_after c h) (results c h.entry) ws u
holds_results c before waits h calls k ws last left steps u is up = done c before waits h.entry h.kept h.state h.start h.held h.given h.distinct h.stand h.trees h.others calls k ws last left steps u is up

pub holds_others : (c : PlainCode) (before waits : Kinds) (h : CallOf c before waits) (calls k : ℕ) (u : Store) → IsGivenUp (gone h) (state_of (run_after c before h.state calls k)).store u → IsHeld c.types (held_after c h) u
holds_others c before waits h calls k u up = ended c before waits h.entry h.kept h.state h.start h.held h.given h.distinct h.stand h.trees h.others calls k u up

pub holds_swept : (c : PlainCode) (before waits : Kinds) (h : CallOf c before waits) (calls k : ℕ) (u : Store) → IsSwept (lodged_uses (held_after c h)) (state_of (run_after c before h.state calls k)).store u → IsHeld c.types (held_after c h) u
holds_swept c before waits h calls k u up = swept c before waits h.entry h.kept h.state h.start h.held h.given h.distinct h.stand h.trees h.others calls k u up
