-- The cells of a store by size: those that aren't released are those of what is held, a run makes none, and a line makes
-- just those that no released one serves.
use Rattle.std.proofs.Common.{◌≡◌, ℕ, zero, suc, ◌+◌, ◌-◌, ◌*◌, ◌<◌, ◌≤◌, Bool, true, false, List, [], ◌∷◌, ◌++◌, length, map, max, Option, Some, None, refl, ap, ◌∙◌, arith, if◌then◌else◌, nat_eq}
use Rattle.std.proofs.Math.Nat.{mul-suc}
use Rattle.tree_refinement.specs.fip_base.declared.plain.Param.{Param}
use Rattle.tree_refinement.specs.cell_code.declared.code.CodeKind.TheVariants.{Fip}
use Rattle.tree_refinement.specs.fip_language.Every.{Every}
use Rattle.tree_refinement.specs.fip_language.Store.{Cell, Parts, NoParts, MoreParts, values_of, words_of, uses_of_all}
use Rattle.tree_refinement.specs.fip_language.Table.{Table}
use Rattle.tree_refinement.specs.fip_language.Values.{cells_of_all}
use Rattle.cell_store.specs.Cells.{count_free}
use Rattle.separation_bounds.specs.ByTrees.{one_if_sized}
use Rattle.tree_refinement.proofs.separation_bounds.Weights.{first_held}
use Rattle.tree_refinement.specs.machine_semantics.Apart.{IsGiven}
use Rattle.tree_refinement.specs.machine_semantics.Cells.{Store, IsStore, IsSized, size_in, count_held, held_in}
use Rattle.separation_bounds.specs.cell_code.Plain.{PlainFunction}
use Rattle.tree_refinement.specs.machine_semantics.Kept.{Keeps}
use Rattle.tree_refinement.specs.machine_semantics.Trees.{StandAll}
use Rattle.session_semantics.specs.Talk.{over_sizes}
use Rattle.session_correctness.specs.Called.{AllStand, IsHeld}
use Rattle.session_correctness.specs.Counted.{sized, lodged_cells}
use Rattle.session_correctness.specs.Lodging.{Lodged, lodged_uses}
use Rattle.tree_refinement.proofs.tree_semantics.machine_semantics.cell_code.fip_base.fip_language.Facts.{head_same, tail_same}

-- ---- held and released cells

one_size : (k : ℕ) (c : Cell) (r : Bool) (os : List (Option Cell)) (rs : List Bool) → held_in k os rs + count_free k os rs ≡ sized k os → held_in k (Some c ∷ os) (r ∷ rs) + count_free k (Some c ∷ os) (r ∷ rs) ≡ sized k (Some c ∷ os)
one_size k c true os rs h = omega (arith, h)
one_size k c false os rs h = omega (arith, h)

held_and_free : (k : ℕ) (os : List (Option Cell)) (rs : List Bool) → length rs ≡ length os → held_in k os rs + count_free k os rs ≡ sized k os
held_and_free k [] rs e = refl
held_and_free k (o ∷ os) [] e = absurd (let z : ⊥ = omega (arith, e) in z)
held_and_free k (None ∷ os) (r ∷ rs) e = let h = held_and_free k os rs (omega (arith, e)) in omega (arith, h)
held_and_free k (Some c ∷ os) (r ∷ rs) e = one_size k c r os rs (held_and_free k os rs (omega (arith, e)))

pub store_sized : (k : ℕ) (s : Store) → IsStore s → count_held k s + count_free k s.cells s.released ≡ sized k s.cells
store_sized k s g = held_and_free k s.cells s.released g.wide

-- ---- a run makes no cell

one_same : (k : ℕ) (o p : Option Cell) → size_in o ≡ size_in p → IsSized o → IsSized p → one_if_sized k o ≡ one_if_sized k p
one_same k None None e a b = refl
one_same k None (Some c) e a b = let z = b.0 in absurd (let y : ⊥ = omega (arith, e, z) in y)
one_same k (Some c) None e a b = let z = a.0 in absurd (let y : ⊥ = omega (arith, e, z) in y)
one_same k (Some c) (Some d) e a b = ap (λ n. if nat_eq k n then 1 else 0) e

sizes_same : (k : ℕ) (os ps : List (Option Cell)) → map size_in os ≡ map size_in ps → Every IsSized os → Every IsSized ps → sized k os ≡ sized k ps
sizes_same k [] [] e a b = refl
sizes_same k [] (p ∷ ps) e a b = absurd cc
sizes_same k (o ∷ os) [] e a b = absurd cc
sizes_same k (o ∷ os) (p ∷ ps) e a b =
    let x = one_same k o p (head_same (size_in o) (size_in p) (map size_in os) (map size_in ps) e) a.0 b.0 in
    let y = sizes_same k os ps (tail_same (size_in o) (size_in p) (map size_in os) (map size_in ps) e) a.1 b.1 in
    omega (arith, x, y)

pub sized_keeps : (k : ℕ) (s u : Store) → IsStore s → IsStore u → Keeps s u → sized k u.cells ≡ sized k s.cells
sized_keeps k s u a b h = sizes_same k u.cells s.cells h.sizes b.sized a.sized

-- ---- what is held

abbrev parts_of : List Lodged → Parts
parts_of [] = NoParts
parts_of (l ∷ ls) = MoreParts l.tree (parts_of ls)

abbrev params_of : List Lodged → List Param
params_of [] = []
params_of (l ∷ ls) = record { ty = l.type; lent = false } ∷ params_of ls

parts_use : (ls : List Lodged) (q : ℕ) → uses_of_all q (parts_of ls) ≡ lodged_uses ls q
parts_use [] q = refl
parts_use (l ∷ ls) q = let r = parts_use ls q in omega (arith, r)

parts_cells : (k : ℕ) (ls : List Lodged) → cells_of_all k (values_of (parts_of ls)) ≡ lodged_cells k ls
parts_cells k [] = refl
parts_cells k (l ∷ ls) = let r = parts_cells k ls in omega (arith, r)

parts_stand : (tb : Table) (s : Store) (ls : List Lodged) → AllStand tb s ls → StandAll tb s (map (λ p. p.ty) (params_of ls)) (parts_of ls)
parts_stand tb s [] h = tt
parts_stand tb s (l ∷ ls) h = (h.0, parts_stand tb s ls h.1)

-- what is held, as the arguments of a function
abbrev as_arguments : List Lodged → PlainFunction
as_arguments ls = record { kind = Fip; name = []; params = params_of ls; credits = []; results = []; registers = 0; instrs = []; labels = [] }

abbrev given : (tb : Table) (s : Store) (ls : List Lodged) → IsHeld tb ls s → IsGiven tb (as_arguments ls) s [] (words_of (parts_of ls) ++ [])
given tb s ls h = record {
  store = h.store;
  arguments = parts_of ls;
  spares = [];
  words = refl;
  stand = parts_stand tb s ls h.stand;
  credits = tt;
  once = λ q. (let o = h.once q in let u = parts_use ls q in omega (arith, o, u));
}

-- The cells that aren't released are, by size, those of what is held.
pub held_cells : (tb : Table) (k : ℕ) (ls : List Lodged) (s : Store) → IsHeld tb ls s → count_held k s ≡ lodged_cells k ls
held_cells tb k ls s h =
    let f = first_held tb (as_arguments ls) s [] (words_of (parts_of ls) ++ []) k (given tb s ls h) in
    let c = parts_cells k ls in
    omega (arith, f, c)

-- ---- what a line makes

-- The cells of a size after a line's values and credits: those before, or more where they don't suffice.
pub made_then : (made live free more held free' : ℕ) → live + free ≡ made → held ≡ live + more → free' ≡ free - more → held + free' ≡ max made (live + more)
made_then made live free more held free' a b c = grind (arith, a, b, c)

-- The cells that are made are those that no released one serves.
pub made_more : (made live free more : ℕ) → live + free ≡ made → max made (live + more) - made ≡ more - free
made_more made live free more a = grind (arith, a)

-- ---- the words of a line

sum_times : (a d m : ℕ) → (a + d) * m ≡ a * m + d * m
sum_times a d zero = omega arith
sum_times a d (suc m) =
    let r = sum_times a d m in
    let x = mul-suc (a + d) m in
    let y = mul-suc a m in
    let z = mul-suc d m in
    omega (arith, r, x, y, z)

-- more cells of some sizes take so many more words
pub more_words : (n : ℕ) (made then' : ℕ → ℕ) → ((k : ℕ) → made k ≤ then' k) → over_sizes n (λ k. then' k * suc k) ≡ over_sizes n (λ k. made k * suc k) + over_sizes n (λ k. (then' k - made k) * suc k)
more_words zero made then' h = refl
more_words (suc n) made then' h =
    let r = more_words n made then' h in
    let d = spread (suc n) (made (suc n)) (then' (suc n)) (h (suc n)) in
    omega (arith, r, d)
  where
    spread : (k a b : ℕ) → a ≤ b → b * suc k ≡ a * suc k + (b - a) * suc k
    spread k a b le =
        let e : b ≡ a + (b - a) = omega (arith, le) in
        ap (λ m. m * suc k) e ∙ sum_times a (b - a) (suc k)

-- The words that are left, where a line's cells are made: what it needs is taken from them.
pub left_then : (n words left needed : ℕ) (made then' : ℕ → ℕ) → ((k : ℕ) → made k ≤ then' k) → needed ≡ over_sizes n (λ k. (then' k - made k) * suc k) → needed ≤ left → left + over_sizes n (λ k. made k * suc k) ≡ words → (left - needed) + over_sizes n (λ k. then' k * suc k) ≡ words
left_then n words left needed made then' h is few all =
    let m = more_words n made then' h in
    omega (arith, m, is, few, all)

-- What a session takes as left is what is left, where the sum is within the store.
pub left_is : (words left sum : ℕ) → left + sum ≡ words → words - sum ≡ left
left_is words left sum e = omega (arith, e)

sums_same : (n : ℕ) (f g : ℕ → ℕ) → ((k : ℕ) → 0 < k → k ≤ n → f k ≡ g k) → over_sizes n f ≡ over_sizes n g
sums_same zero f g h = refl
sums_same (suc n) f g h =
    let r = sums_same n f g (λ k some le. h k some (omega (arith, le))) in
    let e = h (suc n) (omega arith) (omega arith) in
    omega (arith, r, e)

-- What a line needs, counted by the cells that no released one serves.
pub needed_is : (n : ℕ) (made live free more : ℕ → ℕ) → ((k : ℕ) → 0 < k → k ≤ n → live k + free k ≡ made k) → over_sizes n (λ k. (max (made k) (live k + more k) - made k) * suc k) ≡ over_sizes n (λ k. (more k - free k) * suc k)
needed_is n made live free more h = sums_same n (λ k. (max (made k) (live k + more k) - made k) * suc k) (λ k. (more k - free k) * suc k) (λ k some le. ap (λ d. d * suc k) (made_more (made k) (live k) (free k) (more k) (h k some le)))
