-- The rows of the table of types.
use Rattle.std.proofs.Common.{◌≡◌, ◌∙◌, ℕ, List, [], ◌∷◌, Option, Some, None, map, nat_eq, refl, ap, sym}
use Rattle.std.specs.List.{position}
use Rattle.reached_instances.specs.closed_types.declared.closed.Head.{Head}
use Rattle.reached_instances.specs.closed_types.declared.closed.Head.TheVariants as H
use Rattle.static_params.specs.declared.table.Numbers as N
use Rattle.reached_instances.specs.closed_types.Closed.{Closed, Closeds, Int, Applied, arguments_of, head_of, row}
use Rattle.static_params.specs.FlatProgram.{Numbers, declaring_of, from_one, number_if, numbers_of, row_if, rows_of, type_number}
use Rattle.static_params.specs.FlatView.{AreNumbers, numbers_at}
use Rattle.reached_instances.specs.closed_types.SharedTrees.{AreShared, AreWithin, Grows, Kept, all_at, tree_at, trees}
use Rattle.reached_instances.specs.closed_types.Source.{Source, Ty, declared_at}
use Rattle.reached_instances.specs.closed_types.DeclaredView.{tys_of}
use Rattle.reached_instances.specs.closed_types.TypeInstances.{field_type, field_types}
use Rattle.reached_instances.proofs.Fielding.{fields_row}
use Rattle.static_params.proofs.PlaceNumbers.{row_numbers}

-- by the head of a tree
head_number : Option Head → ℕ
head_number None = 0
head_number (Some (H.«Type» n)) = n
head_number (Some (H.Function f)) = f

same_number : (m n : ℕ) → Some (H.«Type» m) ≡ Some (H.«Type» n) → n ≡ m
unfolding head_number
same_number m n e = sym (ap head_number e)

pub rows_of_type : (s : Source) (ns : Numbers) (c : Closed) (n : ℕ) → head_of c ≡ Some (H.«Type» n) → row_if ns (arguments_of c) (declared_at s n) ≡ rows_of s ns c
rows_of_type s ns Int n e = cc
rows_of_type s ns (Applied (H.«Type» m) cs) n e = ap (λ k. row_if ns cs (declared_at s k)) (same_number m n e)
rows_of_type s ns (Applied (H.Function f) cs) n e = cc

pub rows_of_function : (s : Source) (ns : Numbers) (c : Closed) (f : ℕ) → head_of c ≡ Some (H.Function f) → [] ≡ rows_of s ns c
rows_of_function s ns Int f e = refl
rows_of_function s ns (Applied (H.«Type» m) cs) f e = cc
rows_of_function s ns (Applied (H.Function g) cs) f e = refl

pub rows_of_int : (s : Source) (ns : Numbers) (c : Closed) → head_of c ≡ None → [] ≡ rows_of s ns c
rows_of_int s ns Int e = refl
rows_of_int s ns (Applied h cs) e = cc

pub declaring_of_type : (s : Source) (c : Closed) (n : ℕ) → head_of c ≡ Some (H.«Type» n) → number_if n (declared_at s n) ≡ declaring_of s c
declaring_of_type s Int n e = cc
declaring_of_type s (Applied (H.«Type» m) cs) n e = ap (λ k. number_if k (declared_at s k)) (same_number m n e)
declaring_of_type s (Applied (H.Function f) cs) n e = cc

pub declaring_of_function : (s : Source) (c : Closed) (f : ℕ) → head_of c ≡ Some (H.Function f) → [] ≡ declaring_of s c
declaring_of_function s Int f e = refl
declaring_of_function s (Applied (H.«Type» m) cs) f e = cc
declaring_of_function s (Applied (H.Function g) cs) f e = refl

pub declaring_of_int : (s : Source) (c : Closed) → head_of c ≡ None → [] ≡ declaring_of s c
declaring_of_int s Int e = refl
declaring_of_int s (Applied h cs) e = cc

-- the numbers of a constructor's fields
row_of_numbers : (ns : Numbers) (cs : List Closed) → map (type_number ns) cs ≡ numbers_of ns (row cs)
row_of_numbers ns [] = refl
row_of_numbers ns (c ∷ cs) = ap (λ l. type_number ns c ∷ l) (row_of_numbers ns cs)

map_at : (ns : Numbers) (ts : List Closed) (is : List ℕ) → map (λ (i : ℕ). type_number ns (tree_at ts i)) is ≡ map (type_number ns) (all_at ts is)
map_at ns ts [] = refl
map_at ns ts (i ∷ is) = ap (λ l. type_number ns (tree_at ts i) ∷ l) (map_at ns ts is)

pub field_numbers : (ns : N.Numbers) (k l : Kept) (is : List ℕ) (cs : Closeds) (tys : List Ty) → AreShared l.branches → Grows k.branches l.branches → AreNumbers k ns → AreWithin l.branches is → all_at (trees l.branches) is ≡ map (field_type cs) tys → map (λ (i : ℕ). from_one (position (nat_eq i) ns.types)) is ≡ numbers_of (numbers_at (trees k.branches) ns) (field_types cs (tys_of tys))
field_numbers ns k l is cs tys s g a w e =
    row_numbers ns k l is s g a w
    ∙ map_at (numbers_at (trees k.branches) ns) (trees l.branches) is
    ∙ ap (map (type_number (numbers_at (trees k.branches) ns))) e
    ∙ row_of_numbers (numbers_at (trees k.branches) ns) (map (field_type cs) tys)
    ∙ ap (numbers_of (numbers_at (trees k.branches) ns)) (fields_row cs tys)

pub type_numbers_at : (ns : N.Numbers) (k l : Kept) (is : List ℕ) (cs : List Closed) → AreShared l.branches → Grows k.branches l.branches → AreNumbers k ns → AreWithin l.branches is → all_at (trees l.branches) is ≡ cs → map (λ (i : ℕ). from_one (position (nat_eq i) ns.types)) is ≡ map (type_number (numbers_at (trees k.branches) ns)) cs
type_numbers_at ns k l is cs s g a w e =
    row_numbers ns k l is s g a w
    ∙ map_at (numbers_at (trees k.branches) ns) (trees l.branches) is
    ∙ ap (map (type_number (numbers_at (trees k.branches) ns))) e
