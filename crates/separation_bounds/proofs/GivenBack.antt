-- What a run gives has as many cells of each size as the definition of its trees says; a fip run gives back what it was
-- given.
use Rattle.std.proofs.Common.{◌≡◌, ℕ, zero, suc, ◌+◌, List, [], ◌∷◌, map, Option, Some, None, refl, ap, subst, arith, nat_eq, if◌then◌else◌}
use Rattle.separation.specs.fip_language.Every.{Every}
use Rattle.separation.specs.fip_language.Values.{cells_of_all}
use Rattle.separation.specs.fip_language.Store.{Cell, values_of, count}
use Rattle.separation.specs.machine_semantics.Cells.{Store, IsStore, IsSized, cell_in, size_in, count_held}
use Rattle.separation.specs.machine_semantics.Kept.{Keeps}
use Rattle.separation.specs.machine_semantics.States.{State}
use Rattle.separation.specs.machine_semantics.Steps.{Kinds}
use Rattle.separation.specs.machine_semantics.Runs.{Over, Value, state_of, begun, after}
use Rattle.separation.specs.machine_semantics.Apart.{GivesApart}
use Rattle.separation.specs.cell_code.Plain.{PlainCode}
use Rattle.separation.specs.code_rules.StackNumbers.{IsFip}
use Rattle.separation.specs.Starts.{IsStart}
use Rattle.separation.proofs.Running.{run_alive}
use Rattle.separation_bounds.specs.ByTrees.{cells_of_trees, one_if_sized, cells_at}
use Rattle.separation_bounds.proofs.Falling.{start_keeps, fip_count}
use Rattle.separation_bounds.proofs.Weights.{first_held, last_held}
use Rattle.separation.proofs.separation_kinds.machine_semantics.cell_code.fip_base.fip_language.Facts.{head_same, tail_same}

pub start_held : (c : PlainCode) (before waits : Kinds) (n : ℕ) (kept : List ℕ) (s : State) (k : ℕ) → (t : IsStart c before waits n kept s) → count_held k s.store ≡ cells_of_all k (values_of t.given.arguments) + (count k t.function.credits + cells_at k s.store kept)
start_held c before waits n kept s k t = first_held c.types t.function s.store kept t.words k t.given

end_store : (c : PlainCode) (before waits : Kinds) (n : ℕ) (kept : List ℕ) (s : State) (calls steps : ℕ) (words : List ℕ) (last : State) (left done : ℕ) → IsStart c before waits n kept s → after before c steps (begun s calls) ≡ Over (Value words) last left done → IsStore last.store
end_store c before waits n kept s calls steps words last left done t is = subst (λ r. IsStore (state_of r).store) is (run_alive c before waits n kept s calls steps t).store

pub end_held : (c : PlainCode) (before waits : Kinds) (n : ℕ) (kept : List ℕ) (s : State) (calls steps : ℕ) (words : List ℕ) (last : State) (left done k : ℕ) → IsStart c before waits n kept s → after before c steps (begun s calls) ≡ Over (Value words) last left done → (g : GivesApart c n kept last words) → count_held k last.store ≡ cells_of_trees k g.results + (cells_of_trees k g.lent + cells_at k last.store kept)
end_held c before waits n kept s calls steps words last left done k t is g = last_held c n kept last words k (end_store c before waits n kept s calls steps words last left done t is) g

one : (k : ℕ) (o p : Option Cell) → size_in o ≡ size_in p → IsSized o → IsSized p → one_if_sized k o ≡ one_if_sized k p
one k None None e a b = refl
one k None (Some c) e a b = let z = b.0 in absurd (let y : ⊥ = omega arith in y)
one k (Some c) None e a b = let z = a.0 in absurd (let y : ⊥ = omega arith in y)
one k (Some c) (Some d) e a b = ap (λ n. if nat_eq k n then 1 else 0) e

same_sized : (k : ℕ) (os ps : List (Option Cell)) (q : ℕ) → map size_in os ≡ map size_in ps → Every IsSized os → Every IsSized ps → one_if_sized k (cell_in os q) ≡ one_if_sized k (cell_in ps q)
same_sized k [] [] q e a b = refl
same_sized k [] (p ∷ ps) q e a b = cc
same_sized k (o ∷ os) [] q e a b = cc
same_sized k (o ∷ os) (p ∷ ps) zero e a b = one k o p (head_same (size_in o) (size_in p) (map size_in os) (map size_in ps) e) a.0 b.0
same_sized k (o ∷ os) (p ∷ ps) (suc q) e a b = same_sized k os ps q (tail_same (size_in o) (size_in p) (map size_in os) (map size_in ps) e) a.1 b.1

cells_same : (k : ℕ) (s u : Store) (ps : List ℕ) → IsStore s → IsStore u → Keeps s u → cells_at k u ps ≡ cells_at k s ps
cells_same k s u [] a b h = refl
cells_same k s u (p ∷ ps) a b h = let x = same_sized k u.cells s.cells p h.sizes b.sized a.sized in let y = cells_same k s u ps a b h in omega arith

pub fip_gives_back : (c : PlainCode) (before waits : Kinds) (n : ℕ) (kept : List ℕ) (s : State) (calls steps : ℕ) (words : List ℕ) (last : State) (left done k : ℕ) → (t : IsStart c before waits n kept s) → IsFip c n → after before c steps (begun s calls) ≡ Over (Value words) last left done → (g : GivesApart c n kept last words) → cells_of_trees k g.results + cells_of_trees k g.lent ≡ cells_of_all k (values_of t.given.arguments) + count k t.function.credits
fip_gives_back c before waits n kept s calls steps words last left done k t fip is g =
    let store = end_store c before waits n kept s calls steps words last left done t is in
    let keeps : Keeps s.store last.store = subst (λ r. Keeps s.store (state_of r).store) is (start_keeps before c steps s calls) in
    let same : count_held k last.store ≡ count_held k s.store = subst (λ r. count_held k (state_of r).store ≡ count_held k s.store) is (fip_count c before waits n kept s calls steps k t fip) in
    let x = start_held c before waits n kept s k t in
    let y = end_held c before waits n kept s calls steps words last left done k t is g in
    let z = cells_same k s.store last.store kept t.given.store store keeps in
    omega arith
