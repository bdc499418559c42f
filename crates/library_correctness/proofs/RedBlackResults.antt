-- The theorems on `rbtree`, from what its functions compute.
use Rattle.std.proofs.Common.{◌≡◌, ◌↔◌, ◌⊎◌, ℕ, zero, suc, ◌+◌, ◌*◌, ◌≤◌, Bool, true, false, ℤ, List, [], ◌∷◌, ◌++◌, length, inl, inr, arith, length-append, refl, ap, sym, subst}
use native.Mathlib.Nat.{mul-le-mul}
use Rattle.fip_language.specs.Every.{Among}
use Rattle.fip_language.specs.Values.{Int}
use Rattle.instance_semantics.specs.Meaning.{flat_meaning}
use Rattle.evaluation_steps.specs.Gives.{two, three, nodes, GivesValue}
use Rattle.library_correctness.specs.Bounds.{Suffice, SufficeSquared}
use Rattle.library_correctness.specs.Lists.{list_value}
use Rattle.library_correctness.specs.RedBlack.{Tree, Leaf, Branch, Pad, Pad0, Pad4, keys, IsAscending, tree_value, pad_value, truth_value, pads_value, IsRedBlack, Inserted, IsNewKey, IsInsertion, AreInsertions, GivesInsertion, GivesBuild}
use Rattle.library_programs.specs.RedBlackProgram.{rbtree_program}
use Rattle.library_correctness.proofs.RedBlack.{Top, depth, found, search, build, StayLow, member_runs, insert_runs, build_runs}
use Rattle.library_correctness.proofs.Orders.{ascending_between, among_first, among_append, not_below, not_above}
use Rattle.library_correctness.proofs.Keys.{IsGap, Gains, New, Outcome, Found, Added, search_outcome, Decides, Yes, No, found_decides}
use Rattle.library_correctness.proofs.Balance.{search_balanced}
use Rattle.library_correctness.proofs.ListResults.{list_nodes}

not_in_gap : (i : ℤ) (xs : List ℤ) → IsGap i xs → Among i xs → ⊥
not_in_gap i xs g a = not_above i g.high g.above (not_below i g.low g.high g.below (subst (Among i) g.all a))

pub among_parts : (j : ℤ) (xs ys : List ℤ) → Among j (xs ++ ys) → Among j xs ⊎ Among j ys
among_parts j [] ys a = inr a
among_parts j (x ∷ xs) ys (inl e) = inl (inl e)
among_parts j (x ∷ xs) ys (inr a) = elim (among_parts j xs ys a) [ inl b ↦ inl (inr b) | inr b ↦ inr b ]

pub among_more : (i j : ℤ) (xs ys : List ℤ) → Among j (xs ++ (i ∷ ys)) ↔ ((j ≡ i) ⊎ Among j (xs ++ ys))
among_more i j xs ys = (to, from)
  where
    side : Among j xs ⊎ Among j (i ∷ ys) → (j ≡ i) ⊎ Among j (xs ++ ys)
    side (inl a) = inr (among_first j xs ys a)
    side (inr (inl e)) = inl e
    side (inr (inr a)) = inr (among_append j xs ys a)

    to : Among j (xs ++ (i ∷ ys)) → (j ≡ i) ⊎ Among j (xs ++ ys)
    to a = side (among_parts j xs (i ∷ ys) a)

    back : Among j xs ⊎ Among j ys → Among j (xs ++ (i ∷ ys))
    back (inl a) = among_first j xs (i ∷ ys) a
    back (inr a) = among_append j xs (i ∷ ys) (inr a)

    from : (j ≡ i) ⊎ Among j (xs ++ ys) → Among j (xs ++ (i ∷ ys))
    from (inl e) = among_append j xs (i ∷ ys) (inl e)
    from (inr a) = back (among_parts j xs ys a)

pub gains_among : (i : ℤ) (xs ys : List ℤ) → Gains i xs ys → (j : ℤ) → Among j ys ↔ ((j ≡ i) ⊎ Among j xs)
gains_among i xs ys g j =
    subst (λ zs. Among j ys ↔ ((j ≡ i) ⊎ Among j zs)) (sym g.gap.all) (subst (λ zs. Among j zs ↔ ((j ≡ i) ⊎ Among j (g.gap.low ++ g.gap.high))) (sym g.now) (among_more i j g.gap.low g.gap.high))

new_joins : (t : Tree) (i : ℤ) (p : Pad) (s : Inserted) → New t i p s → IsNewKey t i p s
new_joins t i Pad0 s n = n.1
new_joins t i (Pad4 a b c d) s n = (n.1, n.2, gains_among i (keys t) (keys s.tree) n.0)

new_absent : (t : Tree) (i : ℤ) (p : Pad) (s : Inserted) → New t i p s → Among i (keys t) → ⊥
new_absent t i Pad0 s n a = not_in_gap i (keys t) n.0 a
new_absent t i (Pad4 e f g h) s n a = not_in_gap i (keys t) n.0.gap a

new_ascends : (t : Tree) (i : ℤ) (p : Pad) (s : Inserted) → IsAscending (keys t) → New t i p s → IsAscending (keys s.tree)
new_ascends t i Pad0 s h n = subst (λ x. IsAscending (keys x.tree)) (sym n.1) h
new_ascends t i (Pad4 a b c d) s h n =
    subst IsAscending (sym n.0.now) (ascending_between n.0.gap.low i n.0.gap.high (subst IsAscending n.0.gap.all h) n.0.gap.below n.0.gap.above)

outcome_ascends : (t : Tree) (i : ℤ) (p : Pad) (s : Inserted) → IsAscending (keys t) → Outcome t i p s → IsAscending (keys s.tree)
outcome_ascends t i p s h (Found a e) = subst (λ x. IsAscending (keys x.tree)) (sym e) h
outcome_ascends t i p s h (Added n) = new_ascends t i p s h n

outcome_there : (t : Tree) (i : ℤ) (p : Pad) (s : Inserted) → Outcome t i p s → Among i (keys t) → s ≡ record { tree = t; pad = p; flag = true }
outcome_there t i p s (Found a e) b = e
outcome_there t i p s (Added n) b = absurd (new_absent t i p s n b)

outcome_new : (t : Tree) (i : ℤ) (p : Pad) (s : Inserted) → Outcome t i p s → (Among i (keys t) → ⊥) → IsNewKey t i p s
outcome_new t i p s (Found a e) b = absurd (b a)
outcome_new t i p s (Added n) b = new_joins t i p s n

pub searched : (t : Tree) (i : ℤ) (p : Pad) → IsAscending (keys t) → Outcome t i p (search t i p Top)
searched t i p h = search_outcome t i p Top h tt tt

pub insert_is : (t : Tree) (i : ℤ) (p : Pad) → IsRedBlack t → IsInsertion t i p (search t i p Top)
insert_is t i p h =
    let o = searched t i p h.ordered in
    let b = search_balanced t i p Top h.blacks (inl h.root) h.no_red_pair h.height tt tt in
    record {
      tree = record { ordered = outcome_ascends t i p (search t i p Top) h.ordered o; root = b.root; no_red_pair = b.no_red_pair; blacks = b.blacks; height = b.same };
      there = outcome_there t i p (search t i p Top) o;
      new = outcome_new t i p (search t i p Top) o;
    }

-- depth, keys and nodes
depth_keys : (t : Tree) → depth t ≤ length (keys t)
depth_keys Leaf = omega arith
depth_keys (Branch c l x r) = omega (arith, depth_keys l, depth_keys r, length-append (keys l) (x ∷ keys r))

keys_nodes : (t : Tree) → length (keys t) ≤ nodes (tree_value t)
keys_nodes Leaf = omega arith
keys_nodes (Branch c l x r) = omega (arith, keys_nodes l, keys_nodes r, length-append (keys l) (x ∷ keys r))

new_length : (t : Tree) (i : ℤ) (p : Pad) (s : Inserted) → New t i p s → length (keys s.tree) ≤ suc (length (keys t))
new_length t i Pad0 s n = omega (arith, ap (λ x. length (keys x.tree)) n.1)
new_length t i (Pad4 a b c d) s n =
    omega (arith, ap length n.0.now, ap length n.0.gap.all, length-append n.0.gap.low (i ∷ n.0.gap.high), length-append n.0.gap.low n.0.gap.high)

pub outcome_length : (t : Tree) (i : ℤ) (p : Pad) (s : Inserted) → Outcome t i p s → length (keys s.tree) ≤ suc (length (keys t))
outcome_length t i p s (Found a e) = omega (arith, ap (λ x. length (keys x.tree)) e)
outcome_length t i p s (Added n) = new_length t i p s n

stay_low : (is : List ℤ) (ps : List Pad) (t : Tree) (n : ℕ) → IsAscending (keys t) → length (keys t) + length is ≤ n → StayLow n is ps t
stay_low [] ps t n h le = tt
stay_low (i ∷ is) [] t n h le = tt
stay_low (i ∷ is) (p ∷ ps) t n h le =
    let o = searched t i p h in
    (omega (arith, depth_keys t), stay_low is ps (search t i p Top).tree n (outcome_ascends t i p (search t i p Top) h o) (omega (arith, outcome_length t i p (search t i p Top) o)))

build_inserts : (is : List ℤ) (ps : List Pad) (t : Tree) → IsRedBlack t → AreInsertions is ps t (build is ps t)
build_inserts [] ps t h = refl
build_inserts (i ∷ is) [] t h = refl
build_inserts (i ∷ is) (p ∷ ps) t h = let s = insert_is t i p h in (search t i p Top, s, build_inserts is ps (search t i p Top).tree s.tree)

pub build_red_black : (is : List ℤ) (ps : List Pad) (t : Tree) → IsRedBlack t → IsRedBlack (build is ps t)
build_red_black [] ps t h = h
build_red_black (i ∷ is) [] t h = h
build_red_black (i ∷ is) (p ∷ ps) t h = build_red_black is ps (search t i p Top).tree (insert_is t i p h).tree

pub insert_gives : (t : Tree) (i : ℤ) (p : Pad) (n d : ℕ) → IsRedBlack t → Suffice (three (tree_value t) (Int i) (pad_value p)) n d → GivesInsertion t i p (flat_meaning rbtree_program 0 (three (tree_value t) (Int i) (pad_value p)) n d).answer
unfolding flat_meaning
insert_gives t i p zero d h a = absurd (omega (arith, a.enough_calls))
insert_gives t i p (suc n) zero h a = absurd (omega (arith, a.enough_frames))
insert_gives t i p (suc n) (suc d) h a =
    record { inserted = search t i p Top; is = insert_is t i p h; gives = insert_runs t i p (suc n) d n 0 (omega (arith, a.enough_calls, depth_keys t, keys_nodes t)) (omega arith) }

member_gives : (t : Tree) (i : ℤ) (n d : ℕ) → Suffice (two (tree_value t) (Int i)) n d → GivesValue (truth_value (found i t)) (flat_meaning rbtree_program 4 (two (tree_value t) (Int i)) n d).answer
unfolding flat_meaning
member_gives t i zero d a = absurd (omega (arith, a.enough_calls))
member_gives t i (suc n) d a = member_runs t i (suc n) d n 0 (omega (arith, a.enough_calls, depth_keys t, keys_nodes t)) (omega arith)

decides_yes : (b : Bool) (P : Type 0) → Decides b P → P → b ≡ true
decides_yes b P (Yes e a) p = e
decides_yes b P (No e k) p = absurd (k p)

decides_no : (b : Bool) (P : Type 0) → Decides b P → (P → ⊥) → b ≡ false
decides_no b P (Yes e a) k = absurd (k a)
decides_no b P (No e _) k = e

pub member_yes : (t : Tree) (i : ℤ) (n d : ℕ) → IsRedBlack t → Among i (keys t) → Suffice (two (tree_value t) (Int i)) n d → GivesValue (truth_value true) (flat_meaning rbtree_program 4 (two (tree_value t) (Int i)) n d).answer
member_yes t i n d h m a =
    subst (λ b. GivesValue (truth_value b) (flat_meaning rbtree_program 4 (two (tree_value t) (Int i)) n d).answer) (decides_yes (found i t) (Among i (keys t)) (found_decides t i h.ordered) m) (member_gives t i n d a)

pub member_no : (t : Tree) (i : ℤ) (n d : ℕ) → IsRedBlack t → (Among i (keys t) → ⊥) → Suffice (two (tree_value t) (Int i)) n d → GivesValue (truth_value false) (flat_meaning rbtree_program 4 (two (tree_value t) (Int i)) n d).answer
member_no t i n d h m a =
    subst (λ b. GivesValue (truth_value b) (flat_meaning rbtree_program 4 (two (tree_value t) (Int i)) n d).answer) (decides_no (found i t) (Among i (keys t)) (found_decides t i h.ordered) m) (member_gives t i n d a)

-- l inserts into trees at most n deep cost fewer calls than `build` has
square : (l n s c : ℕ) → l ≤ s → n ≤ s → 16 * (s + 2) * (s + 2) ≤ suc c → l * (2 * n + 4) + 0 ≤ c
square l n s c a b h =
    let e : l * (2 * n + 4) ≤ s * (2 * s + 4) = mul-le-mul a (omega arith) in
    omega arith

pub build_gives : (is : List ℤ) (ps : List Pad) (t : Tree) (n d : ℕ) → IsRedBlack t → SufficeSquared (three (list_value is) (pads_value ps) (tree_value t)) n d → GivesBuild is ps t (flat_meaning rbtree_program 5 (three (list_value is) (pads_value ps) (tree_value t)) n d).answer
unfolding flat_meaning
build_gives is ps t zero d h a = absurd (omega (arith, a.enough_calls))
build_gives is ps t (suc n) zero h a = absurd (omega (arith, a.enough_frames))
build_gives is ps t (suc n) (suc zero) h a = absurd (omega (arith, a.enough_frames))
build_gives is ps t (suc n) (suc (suc d)) h a =
    let s : ℕ = nodes (list_value is) + (nodes (pads_value ps) + (nodes (tree_value t) + 0)) in
    record {
      tree = build is ps t;
      is_red_black = build_red_black is ps t h;
      inserts = build_inserts is ps t h;
      gives = build_runs is ps t (length (keys t) + length is) (stay_low is ps t (length (keys t) + length is) h.ordered (omega arith)) (suc n) d n 0
          (square (length is) (length (keys t) + length is) s n (omega (arith, list_nodes is)) (omega (arith, list_nodes is, keys_nodes t)) a.enough_calls) (omega arith);
    }
