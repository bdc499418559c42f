-- It serves the proof of what read_derivation gives: the reader's functions against the machine.
use Rattle.std.specs.Prelude.{◌≡◌, ℕ, List, map, Option, Some, None, Result, Ok, Err}
use Rattle.std.specs.declared.vec.Vec.{Vec}
use Rattle.std.specs.declared.alloc.Global.{Global}
use Rattle.fip_language.specs.Prefix.{Outcome, Accepted, Stopped, run}
use Rattle.derivation_trees.specs.declared.derivation.Line.{Line}
use Rattle.derivation_trees.specs.Trees.{heads}
use Rattle.derivation_trees.specs.Building.{Built}
use Rattle.derivation_text.specs.declared.error.ProofError.{ProofError}
use Rattle.derivation_text.specs.declared.error.ProofError.TheVariants as P
use Rattle.derivation_text.specs.declared.error.ByteError.{ByteError}
use Rattle.derivation_text.specs.declared.error.ByteError.TheVariants as B
use Rattle.derivation_text.specs.Machine.{Made, State, flats, step, final}

abbrev pub line_made : Line → Made
line_made l = record { instance = l.instance; nodes = heads l.nodes.items }

abbrev pub lines_made : List Line → List Made
lines_made = map line_made

-- what a function returned, and what the reader is then, are what the machine says
abbrev pub Steps : {X : Type 0} → Result X ByteError → State Built → Option (State Built) → Type 0
Steps (Ok x) new o = o ≡ Some new
Steps (Err B.Bad) new o = o ≡ None
Steps (Err B.NoMemory) new o = Unit {0}

abbrev pub runs : State Built → List ℕ → ℕ → Outcome (List Made)
runs = run (step flats) final

-- what reading all bytes gave
abbrev pub Runs : Result (Vec Line Global) ProofError → Outcome (List Made) → Type 0
Runs (Ok lines) o = o ≡ Accepted (lines_made lines.items)
Runs (Err (P.BadProof at)) o = o ≡ Stopped at
Runs (Err P.NoMemory) o = Unit {0}
