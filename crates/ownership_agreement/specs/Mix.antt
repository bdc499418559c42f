-- For the proofs alone: what the shape's variables have gone through, from what the term's have; scalar ones put back.
use Rattle.std.specs.Prelude.{ℕ, if◌then◌else◌}
use Rattle.ownership_calculus.specs.Clean as C
use Rattle.ownership_agreement.specs.Good as G
use Rattle.ownership_agreement.specs.Bodies.{Scalars}

abbrev pub state : C.Status → G.State
state C.Free = G.Given
state (C.Owned u l) = G.Held u l

abbrev pub mix : Scalars → (ℕ → C.Status) → ℕ → G.State
mix sc s x = if sc x then G.Free else state (s x)
