-- The greatest frame has two words at least; and caps within a cap.
use Rattle.std.proofs.Common.{◌≡◌, ℕ, ◌+◌, ◌*◌, ◌≤◌, List, [], ◌∷◌, arith}
use Rattle.std.specs.Prelude.{max}
use Rattle.fip_machine.specs.cell_code.declared.code.Function.{Function}
use Rattle.fip_host.specs.Needing.{capped, largest_frame}

at_least : (gs : List Function) → 2 ≤ largest_frame gs
at_least [] = omega arith
at_least (g ∷ gs) = let h = at_least gs in omega (arith, h)

pub first_frames : (gs : List Function) → max 2 (largest_frame gs) ≡ largest_frame gs
first_frames gs = let h = at_least gs in omega (arith, h)

pub capped_in : (held registers largest : ℕ) → capped ((capped held + registers + largest) * 8 + 128) ≡ capped ((held + registers + largest) * 8 + 128)
capped_in held registers largest = omega arith
