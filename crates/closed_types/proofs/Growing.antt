-- Trees that come after others change none of these.
use Rattle.std.proofs.Common.{◌≡◌, ℕ, zero, suc, ◌+◌, ◌<◌, Bool, true, false, List, [], ◌∷◌, ◌++◌, length, slice_get, get_or, Some, refl, ap, sym, ◌∙◌, arith, if◌then◌else◌, append_assoc, append-nil}
use Rattle.std.specs.List.{list_any}
use Rattle.fip_base.specs.fip_language.Every.{Every}
use Rattle.closed_types.specs.Closed.{Closed, Int, same_closed}
use Rattle.closed_types.specs.SharedTrees.{Branch, trees, trees_at, Grows, AreWithin}
use Rattle.closed_types.specs.Numbering.{with_new}
use Rattle.closed_types.proofs.SharedTrees.{so_many, keep_trees}
use Rattle.closed_types.proofs.SharedTrees.{new_after as after_by}

pub grows_same : (bs : List Branch) → Grows bs bs
grows_same bs = ([], sym (append-nil (trees bs)))

pub grows_more : (bs cs ds : List Branch) → Grows bs cs → Grows cs ds → Grows bs ds
grows_more bs cs ds g h = (g.0 ++ h.0, h.1 ∙ ap (λ l. l ++ h.0) g.1 ∙ append_assoc (trees bs) g.0 h.0)

pub shared_grows : (bs cs : List Branch) (t : Closed) → trees cs ≡ with_new same_closed (trees bs) t → Grows bs cs
shared_grows bs cs t e = let r = after_by (list_any (λ y. same_closed t y) (trees bs)) (trees bs) t in (r.0, e ∙ r.1)

get_at : (ts : List Closed) (i : ℕ) (t : Closed) → slice_get ts i ≡ Some t → (get_or ts i Int ≡ t) × (i < length ts)
get_at [] i t e = cc
get_at (u ∷ ts) zero t e = ((let f : u ≡ t = cc in f), omega arith)
get_at (u ∷ ts) (suc i) t e = let r = get_at ts i t e in (r.0, (let h = r.1 in omega (arith, h)))

pub shared_at : (cs : List Branch) (i : ℕ) (t : Closed) → slice_get (trees cs) i ≡ Some t → (get_or (trees cs) i Int ≡ t) × (i < length cs + 1)
shared_at cs i t e =
    let r = get_at (trees cs) i t e in
    let n = so_many (Int ∷ []) cs in
    let h = r.1 in
    (r.0, omega (arith, n, h))

pub as_trees : (bs : List Branch) (xs : List ℕ) → AreWithin bs xs → Every (λ j. j < length (trees bs)) xs
as_trees bs [] w = tt
as_trees bs (x ∷ xs) w = let n = so_many (Int ∷ []) bs in let h = w.0 in (omega (arith, n, h), as_trees bs xs w.1)

pub length_append : (ts us : List Closed) → length (ts ++ us) ≡ length ts + length us
length_append [] us = omega arith
length_append (t ∷ ts) us = let r = length_append ts us in omega (arith, r)

pub more_within : (bs cs : List Branch) (x : ℕ) → Grows bs cs → x < length bs + 1 → x < length cs + 1
more_within bs cs x g h =
    let n = so_many (Int ∷ []) bs in
    let m = so_many (Int ∷ []) cs in
    let l = ap length g.1 in
    let k = length_append (trees bs) g.0 in
    omega (arith, n, m, l, k, h)

pub within_more : (bs cs : List Branch) (xs : List ℕ) → Grows bs cs → AreWithin bs xs → AreWithin cs xs
within_more bs cs [] g w = tt
within_more bs cs (x ∷ xs) g w = (more_within bs cs x g w.0, within_more bs cs xs g w.1)

pub trees_kept : (bs cs : List Branch) (xs : List ℕ) → Grows bs cs → AreWithin bs xs → trees_at (trees cs) xs ≡ trees_at (trees bs) xs
trees_kept bs cs xs g w = ap (λ l. trees_at l xs) g.1 ∙ keep_trees (trees bs) g.0 xs (as_trees bs xs w)
