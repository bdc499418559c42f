-- Trees that share their parts stand for different closed trees.
use Rattle.std.proofs.Common.{◌≡◌, ℕ, zero, suc, ◌+◌, ◌<◌, ◌≤◌, ◌⊎◌, inl, inr, Bool, true, false, ◌&&◌, List, [], ◌∷◌, ◌++◌, length, slice_get, get_or, Some, refl, ap, sym, subst, ◌∙◌, arith, if◌then◌else◌, append_assoc, append-nil}
use Rattle.std.specs.List.{list_any}
use Rattle.std.specs.Prelude.{◌^◌}
use Rattle.std.proofs.lemmas.List.{get_or_append_left}
use Rattle.std.proofs.lemmas.Slice.Eq.{bytes_eq-Decides}
use Rattle.closed_types.specs.Closed.{Closed, Int, Applied, MoreClosed, same_closed}
use Rattle.fip_base.specs.fip_language.Every.{Every, Among}
use Rattle.closed_types.specs.SharedTrees.{Branch, trees_at, tree_of, with_branches, trees, AreBefore, AreShared, same_branch}
use Rattle.closed_types.specs.Numbering.{with_new, Differ}
use Rattle.closed_types.proofs.Sameness.{IsSame, found, missing}
use Rattle.closed_types.proofs.ClosedTrees.{closed_exact, head_is, head_self}
use Rattle.fip_base.proofs.fip_language.Facts.{and_both as and_by, both_true, get_seam as at_seam, last_length}

same_is : (a b : Branch) → same_branch a b ≡ true → a ≡ b
same_is a b e =
    let s = and_by _ _ e in
    let n = head_is a.head b.head s.0 in
    let m = (bytes_eq-Decides a.arguments b.arguments).0 s.1 in
    λ i. record { head = n i; arguments = m i }

same_self : (a : Branch) → same_branch a a ≡ true
same_self a = both_true _ _ (head_self a.head) ((bytes_eq-Decides a.arguments a.arguments).1 refl)

pub branch_exact : IsSame same_branch
branch_exact = record { yes = same_is; no = λ a b e q. let f : same_branch a b ≡ true = subst (λ x. same_branch a x ≡ true) q (same_self a) in cc }

-- ---- what stands before stays

pub keep_trees : (ts more : List Closed) (is : List ℕ) → Every (λ i. i < length ts) is → trees_at (ts ++ more) is ≡ trees_at ts is
keep_trees ts more [] h = refl
keep_trees ts more (i ∷ is) h = ap (λ c. MoreClosed c (trees_at (ts ++ more) is)) (get_or_append_left ts more Int i h.0) ∙ ap (MoreClosed (get_or ts i Int)) (keep_trees ts more is h.1)

keep_tree : (ts more : List Closed) (b : Branch) → Every (λ i. i < length ts) b.arguments → tree_of (ts ++ more) b ≡ tree_of ts b
keep_tree ts more b h = ap (Applied b.head) (keep_trees ts more b.arguments h)

pub following : (ts : List Closed) (bs : List Branch) → (more : List Closed) × (with_branches ts bs ≡ ts ++ more)
following ts [] = ([], sym (append-nil ts))
following ts (b ∷ bs) =
    let r = following (ts ++ tree_of ts b ∷ []) bs in
    (tree_of ts b ∷ r.0, r.1 ∙ append_assoc ts (tree_of ts b ∷ []) r.0)

pub one_more : (ts : List Closed) (bs : List Branch) (b : Branch) → with_branches ts (bs ++ b ∷ []) ≡ with_branches ts bs ++ tree_of (with_branches ts bs) b ∷ []
one_more ts [] b = refl
one_more ts (c ∷ bs) b = one_more (ts ++ tree_of ts c ∷ []) bs b

pub so_many : (ts : List Closed) (bs : List Branch) → length (with_branches ts bs) ≡ length ts + length bs
so_many ts [] = let e : length ts ≡ length ts + 0 = omega arith in e
so_many ts (b ∷ bs) =
    let r = so_many (ts ++ tree_of ts b ∷ []) bs in
    let l = last_length ts (tree_of ts b) in
    omega (arith, r, l)

-- a branch's tree stands at its place
pub at_place : (ts : List Closed) (bs : List Branch) (p : ℕ) (b : Branch) → AreBefore (length ts) bs → slice_get bs p ≡ Some b → slice_get (with_branches ts bs) (length ts + p) ≡ Some (tree_of (with_branches ts bs) b)
at_place ts [] p b h e = cc
at_place ts (c ∷ bs) zero b h e =
    let f : c ≡ b = cc in
    let r = following (ts ++ tree_of ts c ∷ []) bs in
    let all : with_branches ts (c ∷ bs) ≡ ts ++ tree_of ts c ∷ r.0 = r.1 ∙ append_assoc ts (tree_of ts c ∷ []) r.0 in
    subst (λ l. slice_get l (length ts + 0) ≡ Some (tree_of l b)) (sym all)
    (ap (slice_get (ts ++ tree_of ts c ∷ r.0)) (let z : length ts + 0 ≡ length ts = omega arith in z)
    ∙ at_seam ts (tree_of ts c) r.0
    ∙ ap Some (sym (keep_tree ts (tree_of ts c ∷ r.0) c h.0) ∙ ap (tree_of (ts ++ tree_of ts c ∷ r.0)) f))
at_place ts (c ∷ bs) (suc p) b h e =
    let l = last_length ts (tree_of ts c) in
    let n : length (ts ++ tree_of ts c ∷ []) + p ≡ length ts + suc p = omega (arith, l) in
    subst (λ m. slice_get (with_branches (ts ++ tree_of ts c ∷ []) bs) m ≡ Some (tree_of (with_branches ts (c ∷ bs)) b)) n
    (at_place (ts ++ tree_of ts c ∷ []) bs p b (subst (λ m. AreBefore m bs) (sym l) h.1) e)

pub among_at : {A : Type 0} (xs : List A) (p : ℕ) (x : A) → slice_get xs p ≡ Some x → Among x xs
among_at [] p x e = cc
among_at (y ∷ xs) zero x e = inl (let q : y ≡ x = cc in sym q)
among_at (y ∷ xs) (suc p) x e = inr (among_at xs p x e)

place_of : {A : Type 0} (x : A) (xs : List A) → Among x xs → (p : ℕ) × (slice_get xs p ≡ Some x)
place_of x [] h = absurd h
place_of x (y ∷ xs) (inl e) = (0, ap Some (sym e))
place_of x (y ∷ xs) (inr h) = let r = place_of x xs h in (suc r.0, r.1)

pub tree_among : (bs : List Branch) (b : Branch) → AreBefore 1 bs → Among b bs → Among (tree_of (trees bs) b) (trees bs)
tree_among bs b h a =
    let p = place_of b bs a in
    among_at (trees bs) (1 + p.0) (tree_of (trees bs) b) (at_place (Int ∷ []) bs p.0 b h p.1)

either : {A : Type 0} (x : A) (xs : List A) (y : A) → Among x (xs ++ y ∷ []) → Among x xs ⊎ (x ≡ y)
either x [] y (inl e) = inr e
either x [] y (inr h) = absurd h
either x (z ∷ xs) y (inl e) = inl (inl e)
either x (z ∷ xs) y (inr h) = elim (either x xs y h) as (λ _. Among x (z ∷ xs) ⊎ (x ≡ y)) [ inl k ↦ inl (inr k) | inr k ↦ inr k ]

-- each tree is one of those that stood before, or a branch's
whose : (ts : List Closed) (bs : List Branch) (t : Closed) → AreBefore (length ts) bs → Among t (with_branches ts bs) → Among t ts ⊎ ((b : Branch) × Among b bs × (t ≡ tree_of (with_branches ts bs) b))
whose ts [] t h a = inl a
whose ts (c ∷ bs) t h a =
    let l = last_length ts (tree_of ts c) in
    elim (whose (ts ++ tree_of ts c ∷ []) bs t (subst (λ m. AreBefore m bs) (sym l) h.1) a) as (λ _. Among t ts ⊎ ((b : Branch) × Among b (c ∷ bs) × (t ≡ tree_of (with_branches ts (c ∷ bs)) b))) [
      | inl k ↦ first (either t ts (tree_of ts c) k)
      | inr k ↦ inr (k.0, inr k.1, k.2)
    ]
  where
    first : Among t ts ⊎ (t ≡ tree_of ts c) → Among t ts ⊎ ((b : Branch) × Among b (c ∷ bs) × (t ≡ tree_of (with_branches ts (c ∷ bs)) b))
    first (inl k) = inl k
    first (inr e) =
        let r = following (ts ++ tree_of ts c ∷ []) bs in
        let all : with_branches ts (c ∷ bs) ≡ ts ++ tree_of ts c ∷ r.0 = r.1 ∙ append_assoc ts (tree_of ts c ∷ []) r.0 in
        inr (c, inl refl, e ∙ sym (keep_tree ts (tree_of ts c ∷ r.0) c h.0) ∙ ap (λ l. tree_of l c) (sym all))

-- ---- different places have different trees

get_among : (ts : List Closed) (i : ℕ) → i < length ts → Among (get_or ts i Int) ts
get_among [] i h = absurd (omega (arith, h))
get_among (t ∷ ts) zero h = inl refl
get_among (t ∷ ts) (suc i) h = inr (get_among ts i (omega (arith, h)))

pub same_place : (ts : List Closed) (i j : ℕ) → Differ ts → i < length ts → j < length ts → get_or ts i Int ≡ get_or ts j Int → i ≡ j
same_place [] i j d h g e = absurd (omega (arith, h))
same_place (t ∷ ts) zero zero d h g e = refl
same_place (t ∷ ts) zero (suc j) d h g e = absurd (d.0 (subst (λ c. Among c ts) (sym e) (get_among ts j (omega (arith, g)))))
same_place (t ∷ ts) (suc i) zero d h g e = absurd (d.0 (subst (λ c. Among c ts) e (get_among ts i (omega (arith, h)))))
same_place (t ∷ ts) (suc i) (suc j) d h g e = ap suc (same_place ts i j d.1 (omega (arith, h)) (omega (arith, g)) e)

same_places : (ts : List Closed) (is js : List ℕ) → Differ ts → Every (λ i. i < length ts) is → Every (λ j. j < length ts) js → trees_at ts is ≡ trees_at ts js → is ≡ js
same_places ts [] [] d h g e = refl
same_places ts [] (j ∷ js) d h g e = cc
same_places ts (i ∷ is) [] d h g e = cc
same_places ts (i ∷ is) (j ∷ js) d h g e =
    let a : get_or ts i Int ≡ get_or ts j Int = cc in
    let b : trees_at ts is ≡ trees_at ts js = cc in
    ap (λ x. x ∷ is) (same_place ts i j d h.0 g.0 a) ∙ ap (λ l. j ∷ l) (same_places ts is js d h.1 g.1 b)

every_below : (m n : ℕ) (is : List ℕ) → m ≤ n → Every (λ i. i < m) is → Every (λ i. i < n) is
every_below m n [] le h = tt
every_below m n (i ∷ is) le h = (let k = h.0 in omega (arith, le, k), every_below m n is le h.1)

pub before_all : (n : ℕ) (bs : List Branch) (b : Branch) → AreBefore n bs → Among b bs → Every (λ i. i < n + length bs) b.arguments
before_all n [] b h a = absurd a
before_all n (c ∷ bs) b h (inl e) = subst (λ (x : Branch). Every (λ i. i < n + suc (length bs)) x.arguments) (sym e) (every_below n (n + suc (length bs)) c.arguments (omega arith) h.0)
before_all n (c ∷ bs) b h (inr a) = every_below (suc n + length bs) (n + suc (length bs)) b.arguments (omega arith) (before_all (suc n) bs b h.1 a)

tree_missing : (bs : List Branch) (b : Branch) → AreShared bs → Every (λ i. i < length bs + 1) b.arguments → (Among b bs → ⊥) → Among (tree_of (trees bs) b) (trees bs) → ⊥
tree_missing bs b s w new a =
    elim (whose (Int ∷ []) bs (tree_of (trees bs) b) s.before a) as (λ _. ⊥) [
      | inl k ↦ no_int k
      | inr k ↦
          let n = so_many (Int ∷ []) bs in
          let e = k.2 in
          let f : b.head ≡ k.0.head = cc in
          let g : trees_at (trees bs) b.arguments ≡ trees_at (trees bs) k.0.arguments = cc in
          let m = same_places (trees bs) b.arguments k.0.arguments s.differ
          (every_below (length bs + 1) (length (trees bs)) b.arguments (omega (arith, n)) w)
          (every_below (1 + length bs) (length (trees bs)) k.0.arguments (omega (arith, n)) (before_all 1 bs k.0 s.before k.1)) g in
          let q : b ≡ k.0 = λ i. record { head = f i; arguments = m i } in
          new (subst (λ x. Among x bs) (sym q) k.1)
    ]
  where
    no_int : (tree_of (trees bs) b ≡ Int) ⊎ ⊥ → ⊥
    no_int (inl e) = cc
    no_int (inr h) = h

-- ---- adding a branch adds its tree

any_is : {A : Type 0} (same : A → A → Bool) (exact : IsSame same) (x : A) (xs : List A) (b : Bool) → list_any (λ y. same x y) xs ≡ b → Among x xs → list_any (λ y. same x y) xs ≡ true
any_is same exact x xs true e h = e
any_is same exact x xs false e h = absurd (missing same exact x xs e h)

any_not : {A : Type 0} (same : A → A → Bool) (exact : IsSame same) (x : A) (xs : List A) (b : Bool) → list_any (λ y. same x y) xs ≡ b → (Among x xs → ⊥) → list_any (λ y. same x y) xs ≡ false
any_not same exact x xs true e h = absurd (h (found same exact x xs e))
any_not same exact x xs false e h = e

before_last : (n : ℕ) (bs : List Branch) (b : Branch) → AreBefore n bs → Every (λ i. i < n + length bs) b.arguments → AreBefore n (bs ++ b ∷ [])
before_last n [] b h w = (every_below (n + 0) n b.arguments (omega arith) w, tt)
before_last n (c ∷ bs) b h w = (h.0, before_last (suc n) bs b h.1 (every_below (n + suc (length bs)) (suc n + length bs) b.arguments (omega arith) w))

pub differ_last : (ts : List Closed) (t : Closed) → (Among t ts → ⊥) → Differ ts → Differ (ts ++ t ∷ [])
differ_last [] t new d = ((λ h. h), tt)
differ_last (u ∷ ts) t new d = ((λ h. elim (either u ts t h) as (λ _. ⊥) [ inl k ↦ d.0 k | inr e ↦ new (inl (sym e)) ]), differ_last ts t (λ h. new (inr h)) d.1)

pub record Added (bs : List Branch) (b : Branch) (cs : List Branch) : Type 0 where
  pub trees : trees cs ≡ with_new same_closed (trees bs) (tree_of (trees bs) b)
  pub shared : AreShared cs

pub adds_branch : (x : Bool) (bs : List Branch) (b : Branch) → list_any (λ y. same_branch b y) bs ≡ x → AreShared bs → Every (λ i. i < length bs + 1) b.arguments → length bs < 2 ^ 63 → Added bs b (if x then bs else bs ++ b ∷ [])
adds_branch true bs b e s w few =
    let t = tree_of (trees bs) b in
    let a = any_is same_closed closed_exact t (trees bs) _ refl (tree_among bs b s.before (found same_branch branch_exact b bs e)) in
    record { trees = ap (λ x. if x then trees bs else trees bs ++ t ∷ []) (sym a); shared = s }
adds_branch false bs b e s w few =
    let t = tree_of (trees bs) b in
    let new = tree_missing bs b s w (missing same_branch branch_exact b bs e) in
    let a = any_not same_closed closed_exact t (trees bs) _ refl new in
    let l = last_length bs b in
    record {
      trees = one_more (Int ∷ []) bs b ∙ ap (λ x. if x then trees bs else trees bs ++ t ∷ []) (sym a);
      shared = record {
        before = before_last 1 bs b s.before (every_below (length bs + 1) (1 + length bs) b.arguments (omega arith) w);
        differ = subst Differ (sym (one_more (Int ∷ []) bs b)) (differ_last (trees bs) t new s.differ);
        few = omega (arith, l, few);
      };
    }

-- what is added stands at its place
pub new_after : (x : Bool) (ts : List Closed) (t : Closed) → (more : List Closed) × ((if x then ts else ts ++ t ∷ []) ≡ ts ++ more)
new_after true ts t = ([], sym (append-nil ts))
new_after false ts t = (t ∷ [], refl)

pub added_place : (bs cs : List Branch) (b c : Branch) (p : ℕ) → Added bs b cs → Every (λ i. i < length bs + 1) b.arguments → slice_get cs p ≡ Some c → same_branch b c ≡ true → slice_get (trees cs) (p + 1) ≡ Some (tree_of (trees bs) b)
added_place bs cs b c p a w e s =
    let r = new_after (list_any (λ y. same_closed (tree_of (trees bs) b) y) (trees bs)) (trees bs) (tree_of (trees bs) b) in
    let all : trees cs ≡ trees bs ++ r.0 = a.trees ∙ r.1 in
    let n = so_many (Int ∷ []) bs in
    ap (slice_get (trees cs)) (let f : p + 1 ≡ 1 + p = omega arith in f)
    ∙ at_place (Int ∷ []) cs p c a.shared.before e
    ∙ ap (λ x. Some (tree_of (trees cs) x)) (sym (same_is b c s))
    ∙ ap (λ l. Some (tree_of l b)) all
    ∙ ap Some (keep_tree (trees bs) r.0 b (every_below (length bs + 1) (length (trees bs)) b.arguments (omega (arith, n)) w))
