-- What `increment` of `tree` gives. A walk into a subtree ends where the walk out of it begins: what holds of the answer
-- from there on holds of the whole.
use Rattle.std.proofs.Common.{◌≡◌, ◌⊎◌, ℕ, zero, suc, ◌+◌, ◌*◌, ◌≤◌, ◌<◌, true, false, ℤ, pos, negsuc, List, [], ◌∷◌, ◌++◌, FitsSigned, inl, inr, arith, refl, ap, sym}
use native.Mathlib.Decide.{ℕ_discrete}
use Rattle.std.specs.Int.{w64}
use Rattle.fip_language.specs.declared.TrapKind.TheVariants.{Overflow}
use Rattle.fip_language.specs.Every.{Every, Among}
use Rattle.fip_language.specs.Values.{Value, Int, Node, End, More}
use Rattle.fip_language.specs.Arithmetic.{fits}
use Rattle.fip_language.specs.Meaning.{Answer, Trap}
use Rattle.instance_semantics.specs.Meaning.{calls_of, flat_meaning}
use Rattle.evaluation_steps.specs.Gives.{GivesLeaving, one, two, nodes, GivesValue}
use Rattle.library_correctness.specs.Bounds.{Suffice}
use Rattle.evaluation_steps.specs.Sums.{incremented, greatest, CanIncrement}
use Rattle.library_correctness.specs.Trees.{Tree, Leaf, Bin, tree_value, items, incremented_tree}
use Rattle.library_programs.specs.TreeProgram.{tree_program}
use Rattle.evaluation_steps.proofs.Numbers.{can_increment, all_can_increment}
use Rattle.library_correctness.proofs.Orders.{every_first, every_last}
use Rattle.library_correctness.proofs.RedBlackResults.{among_parts as split}

data Way : Type 0 where
  Top : Way
  Left : (w : Way) (x : ℤ) (r : Tree) → Way
  Right : (l : Tree) (x : ℤ) (w : Way) → Way

abbrev way_value : Way → Value
way_value Top = Node 0 End
way_value (Left w x r) = Node 1 (More (way_value w) (More (Int x) (More (tree_value r) End)))
way_value (Right l x w) = Node 2 (More (tree_value l) (More (Int x) (More (way_value w) End)))

-- the calls from the way into a tree to the way out of it
abbrev cost : Tree → ℕ
cost Leaf = 1
cost (Bin l x r) = 3 + (cost l + cost r)

abbrev down : ℕ → ℕ → ℕ → Tree → Way → Answer
down m d k t w = (calls_of tree_program m d 1 (two (tree_value t) (way_value w)) k).answer

abbrev up : ℕ → ℕ → ℕ → Tree → Way → Answer
up m d k t w = (calls_of tree_program m d 2 (two (tree_value t) (way_value w)) k).answer

module _ (P : Answer → Type 0) (d : ℕ) where
  up_left : (l : Tree) (x : ℤ) (r : Tree) (w : Way) (m k q : ℕ) → fits (incremented x) ≡ true → 1 + q ≤ k → k < m → ((m' k' : ℕ) → q ≤ k' → k' < m' → P (down m' d k' r (Right l (incremented x) w))) → P (up m d k l (Left w x r))
  up_left l x r w zero k q e le lt next = absurd (omega arith)
  up_left l x r w (suc m) zero q e le lt next = absurd (omega arith)
  up_left l x r w (suc m) (suc k) q e le lt next = rw (e, up) (next m k (omega arith) (omega arith))

  up_right : (l : Tree) (x : ℤ) (r : Tree) (w : Way) (m k q : ℕ) → 1 + q ≤ k → k < m → ((m' k' : ℕ) → q ≤ k' → k' < m' → P (up m' d k' (Bin l x r) w)) → P (up m d k r (Right l x w))
  up_right l x r w zero k q le lt next = absurd (omega arith)
  up_right l x r w (suc m) zero q le lt next = absurd (omega arith)
  up_right l x r w (suc m) (suc k) q le lt next = next m k (omega arith) (omega arith)

  down_then : (t : Tree) → Every CanIncrement (items t) → (w : Way) (m k q : ℕ) → cost t + q ≤ k → k < m → ((m' k' : ℕ) → q ≤ k' → k' < m' → P (up m' d k' (incremented_tree t) w)) → P (down m d k t w)
  down_then t h w zero k q le lt next = absurd (omega arith)
  down_then Leaf h w (suc m) zero q le lt next = absurd (omega arith)
  down_then Leaf h w (suc m) (suc k) q le lt next = next m k (omega arith) (omega arith)
  down_then (Bin l x r) h w (suc m) zero q le lt next = absurd (omega arith)
  down_then (Bin l x r) h w (suc m) (suc k) q le lt next =
      let xs = every_last CanIncrement (items l) (x ∷ items r) h in
      down_then l (every_first CanIncrement (items l) (x ∷ items r) h) (Left w x r) m k (1 + (cost r + (1 + q))) (omega arith) (omega arith)
      (λ m' k' le' lt'. up_left (incremented_tree l) x r w m' k' (cost r + (1 + q)) (can_increment x xs.0) le' lt'
      (λ m₂ k₂ le₂ lt₂. down_then r xs.1 (Right (incremented_tree l) (incremented x) w) m₂ k₂ (1 + q) le₂ lt₂
      (λ m₃ k₃ le₃ lt₃. up_right (incremented_tree l) (incremented x) (incremented_tree r) w m₃ k₃ q le₃ lt₃ next)))

top_gives : (t : Tree) (d m k : ℕ) → k < m → GivesLeaving 0 (one (tree_value t)) (up m d k t Top)
top_gives t d zero k lt = absurd (omega arith)
top_gives t d (suc m) k lt = record { left = k; enough = omega arith; is = refl }

apart : (n : ℕ) → negsuc n ≡ greatest → ⊥
apart n e = cc

can_or_not : (x : ℤ) → FitsSigned w64 x → CanIncrement x ⊎ (greatest ≡ x)
can_or_not (negsuc n) h = inl (record { fits = h; below = apart n })
can_or_not (pos n) h = by (ℕ_discrete n 9223372036854775807)
  where
    same : pos n ≡ greatest → n ≡ 9223372036854775807
    same e = cc

    by : Dec (n ≡ 9223372036854775807) → CanIncrement (pos n) ⊎ (greatest ≡ pos n)
    by (yes e) = inr (ap pos (sym e))
    by (no k) = inl (record { fits = h; below = λ e. k (same e) })

all_or_not : (xs : List ℤ) → Every (FitsSigned w64) xs → Every CanIncrement xs ⊎ Among greatest xs
all_or_not [] h = inl tt
all_or_not (x ∷ xs) h = by (can_or_not x h.0) (all_or_not xs h.1)
  where
    by : CanIncrement x ⊎ (greatest ≡ x) → Every CanIncrement xs ⊎ Among greatest xs → Every CanIncrement (x ∷ xs) ⊎ Among greatest (x ∷ xs)
    by (inl a) (inl b) = inl (a, b)
    by (inl a) (inr b) = inr (inr b)
    by (inr a) b = inr (inl a)

up_stops : (l : Tree) (x : ℤ) (r : Tree) (w : Way) (d m k : ℕ) → fits (incremented x) ≡ false → k < m → up m d k l (Left w x r) ≡ Trap Overflow 29 32
up_stops l x r w d zero k e lt = absurd (omega arith)
up_stops l x r w d (suc m) k e lt = rw (e, up) refl

not_rising : (x : ℤ) (xs : List ℤ) → Every CanIncrement xs → Among greatest xs → ⊥
not_rising x [] h a = a
not_rising x (y ∷ ys) h (inl e) = h.0.below (sym e)
not_rising x (y ∷ ys) h (inr a) = not_rising x ys h.1 a

right_part : (l : Tree) (x : ℤ) (r : Tree) → Every CanIncrement (items l) → CanIncrement x → Among greatest (items l ++ (x ∷ items r)) → Among greatest (items r)
right_part l x r h c a = by (split greatest (items l) (x ∷ items r) a)
  where
    by : Among greatest (items l) ⊎ Among greatest (x ∷ items r) → Among greatest (items r)
    by (inl b) = absurd (not_rising x (items l) h b)
    by (inr (inl e)) = absurd (c.below (sym e))
    by (inr (inr b)) = b

down_stops : (t : Tree) → Every (FitsSigned w64) (items t) → Among greatest (items t) → (w : Way) (d m k : ℕ) → cost t ≤ k → k < m → down m d k t w ≡ Trap Overflow 29 32
down_stops t h a w d zero k le lt = absurd (omega arith)
down_stops Leaf h a w d (suc m) k le lt = absurd a
down_stops (Bin l x r) h a w d (suc m) zero le lt = absurd (omega arith)
down_stops (Bin l x r) h a w d (suc m) (suc k) le lt =
    by (all_or_not (items l) hl) (can_or_not x hx.0) (λ b. down_stops l hl b (Left w x r) d m k (omega arith) (omega arith)) (λ w' m' k' b. down_stops r hx.1 b w' d m' k')
  where
    hl : Every (FitsSigned w64) (items l)
    hl = every_first (FitsSigned w64) (items l) (x ∷ items r) h

    hx : Every (FitsSigned w64) (x ∷ items r)
    hx = every_last (FitsSigned w64) (items l) (x ∷ items r) h

    in_right : Every CanIncrement (items l) → CanIncrement x → Among greatest (items r)
    in_right e c = right_part l x r e c a

    by : Every CanIncrement (items l) ⊎ Among greatest (items l) → CanIncrement x ⊎ (greatest ≡ x) → (Among greatest (items l) → down m d k l (Left w x r) ≡ Trap Overflow 29 32) → ((w' : Way) (m' k' : ℕ) → Among greatest (items r) → cost r ≤ k' → k' < m' → down m' d k' r w' ≡ Trap Overflow 29 32) → down (suc m) d (suc k) (Bin l x r) w ≡ Trap Overflow 29 32
    by (inr b) c left right = left b
    by (inl e) (inr c) left right =
        down_then (λ a. a ≡ Trap Overflow 29 32) d l e (Left w x r) m k 0 (omega arith) (omega arith) (λ m' k' le' lt'. up_stops (incremented_tree l) x r w d m' k' (ap (λ i. fits (incremented i)) (sym c)) lt')
    by (inl e) (inl c) left right =
        down_then (λ a. a ≡ Trap Overflow 29 32) d l e (Left w x r) m k (1 + cost r) (omega arith) (omega arith)
        (λ m' k' le' lt'. up_left (λ a. a ≡ Trap Overflow 29 32) d (incremented_tree l) x r w m' k' (cost r) (can_increment x c) le' lt'
        (λ m₂ k₂ le₂ lt₂. right (Right (incremented_tree l) (incremented x) w) m₂ k₂ (in_right e c) le₂ lt₂))

cost_nodes : (t : Tree) → cost t ≤ 3 * nodes (tree_value t)
cost_nodes Leaf = omega arith
cost_nodes (Bin l x r) = omega (arith, cost_nodes l, cost_nodes r)

pub increment_gives : (t : Tree) (n d : ℕ) → Every (FitsSigned w64) (items t) → (Among greatest (items t) → ⊥) → Suffice (one (tree_value t)) n d → GivesValue (tree_value (incremented_tree t)) (flat_meaning tree_program 0 (one (tree_value t)) n d).answer
unfolding flat_meaning
increment_gives t zero d f h a = absurd (omega (arith, a.enough_calls))
increment_gives t (suc zero) d f h a = absurd (omega (arith, a.enough_calls))
increment_gives t (suc (suc n)) d f h a =
    down_then (GivesLeaving 0 (one (tree_value (incremented_tree t)))) d t (all_can_increment (items t) f h) Top (suc n) n 0 (omega (arith, a.enough_calls, cost_nodes t)) (omega arith) (λ m k le lt. top_gives (incremented_tree t) d m k lt)

pub increment_trap : (t : Tree) (n d : ℕ) → Every (FitsSigned w64) (items t) → Among greatest (items t) → Suffice (one (tree_value t)) n d → (flat_meaning tree_program 0 (one (tree_value t)) n d).answer ≡ Trap Overflow 29 32
unfolding flat_meaning
increment_trap t zero d h g a = absurd (omega (arith, a.enough_calls))
increment_trap t (suc zero) d h g a = absurd (omega (arith, a.enough_calls))
increment_trap t (suc (suc n)) d h g a = down_stops t h g Top d (suc n) n (omega (arith, a.enough_calls, cost_nodes t)) (omega arith)
