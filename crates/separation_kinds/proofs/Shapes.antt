-- What a tree's type says of it: one of a scalar type has no cell, and its constructor is one of its type.
use Rattle.std.proofs.Common.{◌≡◌, ◌⊎◌, inl, inr, ℕ, zero, suc, ◌+◌, ◌<◌, true, false, ◌&&◌, List, [], ◌∷◌, length, Some, slice_get, refl, sym, ap, ◌∙◌, true≢false, arith, nat_lt, ◌==◌}
use Rattle.std.specs.Prelude.{slice_index_or, Contains}
use Rattle.std.proofs.lemmas.Option.{none-some, same_Some}
use Rattle.machine_semantics.specs.fip_language.Table.{Table, Shape, shapes, no_fields, all_bare, is_scalar}
use Rattle.machine_semantics.specs.fip_language.Store.{Placed, PlacedInt, Bare, At, Parts, NoParts, MoreParts, uses}
use Rattle.machine_semantics.specs.Cells.{Store}
use Rattle.machine_semantics.specs.Trees.{HasPart, Stands, StandAll}
use Rattle.machine_semantics.specs.Apart.{Tree, RootIn}
use Rattle.code_rules.specs.Types.{numbers, is_scalar_type, all}
use Rattle.code_rules.specs.Kinds.{has}
use Rattle.code_rules.specs.Changes.{without}
use Rattle.separation_kinds.proofs.Basics.{pick, both, one_of, below_is, apart, equal, equal_is, or_not, get_number, get_within}

pub bare_get : (ks : List Shape) (c : ℕ) (k : Shape) → all_bare ks ≡ true → slice_get ks c ≡ Some k → no_fields k.fields ≡ true
bare_get [] c k e g = absurd (none-some k g)
bare_get (j ∷ ks) zero k e g = ap (λ (k : Shape). no_fields k.fields) (sym (same_Some j k g)) ∙ (both (no_fields j.fields) (all_bare ks) e).0
bare_get (j ∷ ks) (suc c) k e g = bare_get ks c k (both (no_fields j.fields) (all_bare ks) e).1 g

no_parts : {A : Type 0} (tb : Table) (s : Store) (ts : List ℕ) (xs : Parts) → no_fields ts ≡ true → HasPart xs → StandAll tb s ts xs → A
no_parts tb s [] NoParts e h g = absurd h
no_parts tb s [] (MoreParts x xs) e h g = absurd g
no_parts tb s (t ∷ ts) xs e h g = absurd (true≢false (sym e))

-- a tree of a scalar type has no cell
pub scalar_bare : (tb : Table) (s : Store) (t : ℕ) (x : Placed) → is_scalar tb t ≡ true → Stands tb s t x → (q : ℕ) → uses q x ≡ 0
scalar_bare tb s zero (PlacedInt i) e g q = refl
scalar_bare tb s zero (Bare c) e g q = absurd g
scalar_bare tb s zero (At p c xs) e g q = absurd g
scalar_bare tb s (suc t) (PlacedInt i) e g q = absurd g
scalar_bare tb s (suc t) (Bare c) e g q = refl
scalar_bare tb s (suc t) (At p c xs) e g q = no_parts tb s g.2.fields xs (bare_get (shapes tb t) c g.2 e g.3) g.1 g.4

pub index_get : (xs : List ℕ) (i x d : ℕ) → slice_get xs i ≡ Some x → slice_index_or xs i d ≡ x
index_get [] i x d e = absurd (none-some x e)
index_get (y ∷ xs) zero x d e = same_Some y x e
index_get (y ∷ xs) (suc i) x d e = index_get xs i x d e

pub contains_get : (xs : List ℕ) (i x : ℕ) → slice_get xs i ≡ Some x → Contains xs x
contains_get xs i x e = (i, get_within xs i x e, index_get xs i x x e)

pub contains_number : (n c : ℕ) → c < n → Contains (numbers 0 n) c
contains_number n c h = contains_get (numbers 0 n) c c (get_number 0 n c h ∙ (let e : 0 + c ≡ c = omega arith in ap Some e))

-- a tree of another type has a constructor of its type
pub root_all : (tb : Table) (s : Store) (t : ℕ) (x : Placed) → is_scalar_type tb t ≡ false → Stands tb s t x → RootIn (all tb t) (Tree x)
root_all tb s zero x e g = apart (nat_lt 0 (suc (length tb)) && true) (rw (below_is 0 (suc (length tb)) (omega arith)) refl) e
root_all tb s (suc t) (PlacedInt i) e g = absurd g
root_all tb s (suc t) (Bare c) e g = contains_number (length (shapes tb t)) c (get_within (shapes tb t) c g.0 g.1)
root_all tb s (suc t) (At p c xs) e g = contains_number (length (shapes tb t)) c (get_within (shapes tb t) c g.2 g.3)

-- ---- sets of constructors

pub contains_here : (y x : ℕ) (ys : List ℕ) → y ≡ x → Contains (y ∷ ys) x
contains_here y x ys e = (0, (let z : 0 < suc (length ys) = omega arith in z), e)

pub contains_there : (y x : ℕ) (ys : List ℕ) → Contains ys x → Contains (y ∷ ys) x
contains_there y x ys c = (suc c.0, (let h = c.1 in let z : suc c.0 < suc (length ys) = omega arith in z), c.2)

contains_at : (y x : ℕ) (ys : List ℕ) (i : ℕ) → i < suc (length ys) → slice_index_or (y ∷ ys) i x ≡ x → (y ≡ x) ⊎ Contains ys x
contains_at y x ys zero h e = inl e
contains_at y x ys (suc i) h e = inr (i, (let z : i < length ys = omega arith in z), e)

pub contains_split : (y x : ℕ) (ys : List ℕ) → Contains (y ∷ ys) x → (y ≡ x) ⊎ Contains ys x
contains_split y x ys c = contains_at y x ys c.0 c.1 c.2

pub contains_none : {A : Type 0} (x : ℕ) → Contains [] x → A
contains_none x c = let h = c.1 in absurd (let z : ⊥ = omega arith in z)

pub contains_one : (y x : ℕ) → Contains (y ∷ []) x → y ≡ x
contains_one y x c = elim (contains_split y x [] c) as (λ v. y ≡ x) [ inl e ↦ e | inr n ↦ contains_none x n ]

pub has_contains : (xs : List ℕ) (x : ℕ) → has xs x ≡ true → Contains xs x
has_contains [] x e = absurd (true≢false (sym e))
has_contains (y ∷ ys) x e = elim (one_of (y == x) (has ys x) e) as (λ v. Contains (y ∷ ys) x) [
  | inl h ↦ contains_here y x ys (equal y x h)
  | inr h ↦ contains_there y x ys (has_contains ys x h)
]

pub contains_has : (xs : List ℕ) (x : ℕ) → Contains xs x → has xs x ≡ true
contains_has [] x c = contains_none x c
contains_has (y ∷ ys) x c = elim (contains_split y x ys c) as (λ v. has (y ∷ ys) x ≡ true) [
  | inl e ↦ rw (equal_is y x e) refl
  | inr r ↦ elim (or_not (y == x)) as (λ v. has (y ∷ ys) x ≡ true) [
    | inl a ↦ rw a refl
    | inr b ↦ rw b (contains_has ys x r)
  ]
]

pub contains_without : (c x : ℕ) (xs : List ℕ) → (x ≡ c → ⊥) → Contains xs x → Contains (without c xs) x
contains_without c x [] off h = h
contains_without c x (y ∷ ys) off h = elim (contains_split y x ys h) as (λ v. Contains (without c (y ∷ ys)) x) [
  | inl e ↦ pick (λ zs. Contains zs x) (y == c) (without c ys) (y ∷ without c ys) (λ b. absurd (off (sym e ∙ equal y c b))) (λ b. contains_here y x (without c ys) e)
  | inr r ↦ let i = contains_without c x ys off r in pick (λ zs. Contains zs x) (y == c) (without c ys) (y ∷ without c ys) (λ b. i) (λ b. contains_there y x (without c ys) i)
]

pub root_map : (cs ds : List ℕ) (x : Placed) → ((c : ℕ) → Contains cs c → Contains ds c) → RootIn cs (Tree x) → RootIn ds (Tree x)
root_map cs ds (PlacedInt i) f r = r
root_map cs ds (Bare c) f r = f c r
root_map cs ds (At p c xs) f r = f c r
