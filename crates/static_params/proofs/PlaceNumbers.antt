-- The number of a tree is that of its place.
use Rattle.std.proofs.Common.{◌≡◌, ℕ, ◌+◌, ◌<◌, not, List, [], ◌∷◌, length, map, cond, Some, None, refl, ap, sym, ◌∙◌, nat_eq, nat_lt}
use Rattle.std.specs.List.{position, position_or_len, prefix_len}
use Rattle.static_params.specs.declared.table.Numbers as N
use Rattle.reached_instances.specs.declared.source.Source as D
use Rattle.reached_instances.specs.declared.source.Here.{Here}
use Rattle.reached_instances.specs.closed_types.Closed.{Closed, same_closed}
use Rattle.static_params.specs.FlatProgram.{Numbers, from_one, number_in, numbers_of, type_number}
use Rattle.static_params.specs.FlatView.{AreNumbers, IsMakingOf, making_of, numbers_at}
use Rattle.reached_instances.specs.KnownFits.{IsRight}
use Rattle.reached_instances.specs.closed_types.SharedTrees.{AreShared, AreWithin, Branch, Grows, Kept, all_at, tree_at, trees, trees_at}
use Rattle.reached_instances.proofs.Closing.{kept_all}
use Rattle.reached_instances.proofs.Declaring.{map_length}
use Rattle.reached_instances.proofs.Fitting.{same_at, same_instance}
use Rattle.reached_instances.proofs.closed_types.Growing.{within_more}

prefix_at : (bs : List Branch) (i : ℕ) (xs : List ℕ) → AreShared bs → i < length bs + 1 → AreWithin bs xs → prefix_len (λ x. not (nat_eq i x)) xs ≡ prefix_len (λ c. not (same_closed (tree_at (trees bs) i) c)) (all_at (trees bs) xs)
prefix_at bs i [] s h w = refl
prefix_at bs i (x ∷ xs) s h w =
    ap (λ b. cond (not b) (1 + prefix_len (λ y. not (nat_eq i y)) xs) 0) (same_at bs i x s h w.0)
    ∙ ap (λ n. cond (not (same_closed (tree_at (trees bs) i) (tree_at (trees bs) x))) (1 + n) 0) (prefix_at bs i xs s h w.1)

pub number_at : (bs : List Branch) (i : ℕ) (xs : List ℕ) → AreShared bs → i < length bs + 1 → AreWithin bs xs → position (nat_eq i) xs ≡ number_in (all_at (trees bs) xs) (tree_at (trees bs) i)
number_at bs i xs s h w =
    ap (λ n. cond (nat_lt n (length xs)) (Some n) None) (prefix_at bs i xs s h w)
    ∙ ap (λ m. cond (nat_lt (position_or_len (same_closed (tree_at (trees bs) i)) (all_at (trees bs) xs)) m) (Some (position_or_len (same_closed (tree_at (trees bs) i)) (all_at (trees bs) xs))) None) (sym (map_length (λ (j : ℕ). tree_at (trees bs) j) xs))

-- others came after
pub number_grown : (bs cs : List Branch) (i : ℕ) (xs : List ℕ) (c : Closed) → AreShared cs → Grows bs cs → AreWithin bs xs → i < length cs + 1 → tree_at (trees cs) i ≡ c → position (nat_eq i) xs ≡ number_in (all_at (trees bs) xs) c
number_grown bs cs i xs c s g w h e =
    number_at cs i xs s h (within_more bs cs xs g w)
    ∙ ap (number_in (all_at (trees cs) xs)) e
    ∙ ap (λ (ds : List Closed). number_in ds c) (kept_all bs cs xs g w)

pub numbers_kept : (ns : N.Numbers) (k l : Kept) → Grows k.branches l.branches → AreNumbers k ns → numbers_at (trees l.branches) ns ≡ numbers_at (trees k.branches) ns
numbers_kept ns k l g a =
    let e = kept_all k.branches l.branches ns.instances g a.instances in
    let f = kept_all k.branches l.branches ns.types g a.types in
    λ i. record { instances = e i; types = f i }

pub numbers_more : (ns : N.Numbers) (k l : Kept) → Grows k.branches l.branches → AreNumbers k ns → AreNumbers l ns
numbers_more ns k l g a = record {
  instances = within_more k.branches l.branches ns.instances g a.instances;
  types = within_more k.branches l.branches ns.types g a.types;
  few = a.few;
  few_types = a.few_types;
}

-- what is made stays where others come after
pub making_more : (s : D.Source) (ns : N.Numbers) (here : Here) (k l : Kept) → Grows k.branches l.branches → IsRight s l → IsMakingOf s ns here k → IsMakingOf s ns here l
making_more s ns here k l g r m = record {
  right = r;
  numbers = numbers_more ns k l g m.numbers;
  given = within_more k.branches l.branches here.given.items g m.given;
}

pub making_kept : (s : D.Source) (ns : N.Numbers) (here : Here) (k l : Kept) → Grows k.branches l.branches → IsMakingOf s ns here k → making_of s ns here l ≡ making_of s ns here k
making_kept s ns here k l g m =
    let e = numbers_kept ns k l g m.numbers in
    let f = same_instance k.branches l.branches here g m.given in
    λ i. record { source = (making_of s ns here k).source; numbers = e i; here = f i }

-- ---- the numbers of a row of types

pub numbers_row : (ns : Numbers) (ts : List Closed) (is : List ℕ) → map (λ (i : ℕ). type_number ns (tree_at ts i)) is ≡ numbers_of ns (trees_at ts is)
numbers_row ns ts [] = refl
numbers_row ns ts (i ∷ is) = ap (λ l. type_number ns (tree_at ts i) ∷ l) (numbers_row ns ts is)

pub row_numbers : (ns : N.Numbers) (k l : Kept) (is : List ℕ) → AreShared l.branches → Grows k.branches l.branches → AreNumbers k ns → AreWithin l.branches is → map (λ (i : ℕ). from_one (position (nat_eq i) ns.types)) is ≡ map (λ (i : ℕ). type_number (numbers_at (trees k.branches) ns) (tree_at (trees l.branches) i)) is
row_numbers ns k l [] s g a w = refl
row_numbers ns k l (i ∷ is) s g a w =
    ap (λ o. from_one o ∷ map (λ (j : ℕ). from_one (position (nat_eq j) ns.types)) is) (number_grown k.branches l.branches i ns.types (tree_at (trees l.branches) i) s g a.types w.0 refl)
    ∙ ap (λ l2. type_number (numbers_at (trees k.branches) ns) (tree_at (trees l.branches) i) ∷ l2) (row_numbers ns k l is s g a w.1)
