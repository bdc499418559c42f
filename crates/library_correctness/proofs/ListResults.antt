-- The theorems on `list`, from what its functions give and the nodes of lists.
use Rattle.std.proofs.Common.{◌≡◌, ℕ, zero, suc, ◌+◌, ℤ, List, [], ◌∷◌, ◌++◌, length, map, reverse, FitsSigned, arith, refl}
use Rattle.std.specs.Int.{w64}
use Rattle.fip_language.specs.declared.TrapKind.TheVariants.{Overflow}
use Rattle.fip_language.specs.Every.{Every, Among}
use Rattle.fip_language.specs.Meaning.{Trap}
use Rattle.instance_semantics.specs.Meaning.{flat_meaning}
use Rattle.evaluation_steps.specs.Gives.{one, two, nodes, GivesValue}
use Rattle.library_correctness.specs.Bounds.{Suffice}
use Rattle.library_correctness.specs.Lists.{list_value, zip_value, right_of}
use Rattle.evaluation_steps.specs.Sums.{incremented, greatest}
use Rattle.library_programs.specs.ListProgram.{list_program}
use Rattle.evaluation_steps.proofs.Numbers.{all_can_increment}
use Rattle.library_correctness.proofs.Lists.{reverse_runs, append_runs, increment_runs, increment_traps, right_runs, plug_runs}

pub list_nodes : (xs : List ℤ) → nodes (list_value xs) ≡ 1 + length xs
list_nodes [] = refl
list_nodes (x ∷ xs) = omega (arith, list_nodes xs)

pub reverse_gives : (xs : List ℤ) (n d : ℕ) → Suffice (one (list_value xs)) n d → GivesValue (list_value (reverse xs)) (flat_meaning list_program 1 (one (list_value xs)) n d).answer
unfolding flat_meaning
reverse_gives xs zero d h = absurd (omega (arith, h.enough_calls))
reverse_gives xs (suc n) d h = reverse_runs xs (suc n) d n 0 (omega (arith, h.enough_calls, list_nodes xs)) (omega arith)

pub append_gives : (xs ys : List ℤ) (n d : ℕ) → Suffice (two (list_value xs) (list_value ys)) n d → GivesValue (list_value (xs ++ ys)) (flat_meaning list_program 2 (two (list_value xs) (list_value ys)) n d).answer
unfolding flat_meaning
append_gives xs ys zero d h = absurd (omega (arith, h.enough_calls))
append_gives xs ys (suc n) zero h = absurd (omega (arith, h.enough_frames))
append_gives xs ys (suc n) (suc d) h = append_runs xs ys (suc n) d n 0 (omega (arith, h.enough_calls, list_nodes xs)) (omega arith)

pub increment_gives : (xs : List ℤ) (n d : ℕ) → Every (FitsSigned w64) xs → (Among greatest xs → ⊥) → Suffice (one (list_value xs)) n d → GivesValue (list_value (map incremented xs)) (flat_meaning list_program 3 (one (list_value xs)) n d).answer
unfolding flat_meaning
increment_gives xs zero d f e h = absurd (omega (arith, h.enough_calls))
increment_gives xs (suc n) d f e h = increment_runs xs (all_can_increment xs f e) (suc n) d n 0 (omega (arith, h.enough_calls, list_nodes xs)) (omega arith)

pub increment_trap : (xs : List ℤ) (n d : ℕ) → Every (FitsSigned w64) xs → Among greatest xs → Suffice (one (list_value xs)) n d → (flat_meaning list_program 3 (one (list_value xs)) n d).answer ≡ Trap Overflow 30 29
unfolding flat_meaning
increment_trap xs zero d e a h = absurd (omega (arith, h.enough_calls))
increment_trap xs (suc n) d e a h = increment_traps xs e a (suc n) d n (omega (arith, h.enough_calls, list_nodes xs)) (omega arith)

pub right_gives : (xs ys : List ℤ) (n d : ℕ) → Suffice (one (zip_value xs ys)) n d → GivesValue (right_of xs ys) (flat_meaning list_program 5 (one (zip_value xs ys)) n d).answer
unfolding flat_meaning
right_gives xs ys zero d h = absurd (omega (arith, h.enough_calls))
right_gives xs ys (suc n) d h = right_runs xs ys (suc n) d n 0 (omega arith) (omega arith)

pub plug_gives : (xs ys : List ℤ) (n d : ℕ) → Suffice (one (zip_value xs ys)) n d → GivesValue (list_value (reverse xs ++ ys)) (flat_meaning list_program 6 (one (zip_value xs ys)) n d).answer
unfolding flat_meaning
plug_gives xs ys zero d h = absurd (omega (arith, h.enough_calls))
plug_gives xs ys (suc n) d h = plug_runs xs ys (suc n) d n 0 (omega (arith, h.enough_calls, list_nodes xs)) (omega arith)
