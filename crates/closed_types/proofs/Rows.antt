-- The rows of the code are compared as their branches are.
use Rattle.std.proofs.Common.{◌≡◌, ℕ, zero, suc, ◌+◌, ◌<◌, Bool, true, false, ◌||◌, List, [], ◌∷◌, ◌++◌, length, slice_get, Some, refl, ap, sym, subst, ◌∙◌, arith, if◌then◌else◌}
use Rattle.std.specs.List.{list_any}
use Rattle.closed_types.specs.SharedTrees.{AreShared, same_branch}
use Rattle.fip_base.specs.fip_language.Every.{Every}
use Rattle.std.specs.Prelude.{◌^◌, ◌&&◌, bytes_eq}
use Rattle.closed_types.specs.declared.closed.Head.{Head}
use Rattle.closed_types.specs.declared.closed.Head.TheVariants as H
use Rattle.closed_types.specs.Closed.{same_head}
use Rattle.closed_types.proofs.SharedTrees.{Added, adds_branch}
use Rattle.closed_types.specs.BranchView.{branch, branches}
use Rattle.closed_types.specs.declared.closed.Closed as D
use Rattle.closed_types.specs.contracts.closed.HeadPartialEq as HP
use Rattle.closed_types.specs.contracts.closed.ClosedPartialEq as P

pub head_eq : (g h : Head) → (HP.TheImpl.eq-value).it g h ≡ same_head g h
head_eq (H.«Type» m) (H.«Type» n) = refl
head_eq (H.«Type» m) (H.Function n) = refl
head_eq (H.Function m) (H.«Type» n) = refl
head_eq (H.Function m) (H.Function n) = refl

pub row_eq : (r s : D.Closed) → (P.TheImpl.eq-value).it r s ≡ same_branch (branch r) (branch s)
row_eq r s = ap (λ b. b && bytes_eq r.arguments.items s.arguments.items) (head_eq r.head s.head)

pub any_row : (r : D.Closed) (ks : List D.Closed) → list_any ((P.TheImpl.eq-value).it r) ks ≡ list_any (same_branch (branch r)) (branches ks)
any_row r [] = refl
any_row r (k ∷ ks) = ap (λ b. b || list_any ((P.TheImpl.eq-value).it r) ks) (row_eq r k) ∙ ap (λ b. same_branch (branch r) (branch k) || b) (any_row r ks)

pub branches-append : (ks ls : List D.Closed) → branches (ks ++ ls) ≡ branches ks ++ branches ls
branches-append [] ls = refl
branches-append (k ∷ ks) ls = ap (λ l. branch k ∷ l) (branches-append ks ls)

if_append : (b : Bool) (ks : List D.Closed) (k : D.Closed) → branches (if b then ks else ks ++ k ∷ []) ≡ (if b then branches ks else branches ks ++ branch k ∷ [])
if_append true ks k = refl
if_append false ks k = branches-append ks (k ∷ [])

pub rows_after : (r : D.Closed) (ks : List D.Closed) → branches (if list_any ((P.TheImpl.eq-value).it r) ks then ks else ks ++ r ∷ []) ≡ (if list_any (λ y. same_branch (branch r) y) (branches ks) then branches ks else branches ks ++ branch r ∷ [])
rows_after r ks = if_append (list_any ((P.TheImpl.eq-value).it r) ks) ks r ∙ ap (λ b. if b then branches ks else branches ks ++ branch r ∷ []) (any_row r ks)

pub row_at : (ks : List D.Closed) (p : ℕ) (k : D.Closed) → slice_get ks p ≡ Some k → slice_get (branches ks) p ≡ Some (branch k)
row_at [] p k e = cc
row_at (x ∷ ks) zero k e = let f : x ≡ k = cc in ap (λ y. Some (branch y)) f
row_at (x ∷ ks) (suc p) k e = row_at ks p k e

pub so_many_rows : (ks : List D.Closed) → length (branches ks) ≡ length ks
so_many_rows [] = refl
so_many_rows (k ∷ ks) = ap suc (so_many_rows ks)

-- what the set says of its keys, as branches
pub added_row : (r : D.Closed) (ks ls : List D.Closed) → ls ≡ (if list_any ((P.TheImpl.eq-value).it r) ks then ks else ks ++ r ∷ []) → AreShared (branches ks) → Every (λ i. i < length (branches ks) + 1) r.arguments.items → length ks < 2 ^ 63 → Added (branches ks) (branch r) (branches ls)
added_row r ks ls e s w few =
    let n = so_many_rows ks in
    subst (Added (branches ks) (branch r)) (sym (ap branches e ∙ rows_after r ks)) (adds_branch (list_any (λ y. same_branch (branch r) y) (branches ks)) (branches ks) (branch r) refl s w (omega (arith, n, few)))
