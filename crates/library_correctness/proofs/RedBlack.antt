-- What the functions of `rbtree` compute, on trees and ways of their own, and that their runs give it.
use Rattle.std.proofs.Common.{◌≡◌, ℕ, zero, suc, ◌+◌, ◌*◌, ◌≤◌, ◌<◌, max, Bool, true, false, cond, ℤ, int_lt, List, [], ◌∷◌, length, arith, refl}
use Rattle.fip_language.specs.Values.{Value, Int, Node, Values, End, More}
use Rattle.instance_semantics.specs.Meaning.{calls_of}
use Rattle.instance_semantics.proofs.Left.{calls_left}
use Rattle.evaluation_steps.specs.Gives.{GivesLeaving, one, two, three}
use Rattle.library_correctness.specs.RedBlack.{Color, Red, Black, Tree, Leaf, Branch, Pad, Pad0, Pad4, color_value, tree_value, pad_value, truth_value, Inserted, inserted_values, pads_value}
use Rattle.library_correctness.specs.Lists.{list_value}
use Rattle.library_programs.specs.RedBlackProgram.{rbtree_program}
use Rattle.evaluation_steps.proofs.Steps.{after_call, counted_on}

abbrev pub depth : Tree → ℕ
depth Leaf = 0
depth (Branch c l x r) = suc (max (depth l) (depth r))

abbrev pub found : ℤ → Tree → Bool
found k Leaf = false
found k (Branch c l x r) = cond (int_lt k x) (found k l) (cond (int_lt x k) (found k r) true)

pub member_runs : (t : Tree) (i : ℤ) (m d k r : ℕ) → depth t + r ≤ k → k < m → GivesLeaving r (one (truth_value (found i t))) (calls_of rbtree_program m d 4 (two (tree_value t) (Int i)) k).answer
member_runs t i zero d k r le lt = absurd (omega arith)
member_runs Leaf i (suc m) d k r le lt = record { left = k; enough = omega arith; is = refl }
member_runs (Branch c a x b) i (suc m) d zero r le lt = absurd (omega arith)
member_runs (Branch c a x b) i (suc m) d (suc k) r le lt =
    by (int_lt i x) refl (int_lt x i) refl (member_runs a i m d k r (omega arith) (omega arith)) (member_runs b i m d k r (omega arith) (omega arith))
  where
    by : (s : Bool) → int_lt i x ≡ s → (t : Bool) → int_lt x i ≡ t → GivesLeaving r (one (truth_value (found i a))) (calls_of rbtree_program m d 4 (two (tree_value a) (Int i)) k).answer → GivesLeaving r (one (truth_value (found i b))) (calls_of rbtree_program m d 4 (two (tree_value b) (Int i)) k).answer → GivesLeaving r (one (truth_value (cond s (found i a) (cond t (found i b) true)))) (calls_of rbtree_program (suc m) d 4 (two (tree_value (Branch c a x b)) (Int i)) (suc k)).answer
    by true e t f p q = rw e p
    by false e true f p q = rw (e, f) q
    by false e false f p q = rw (e, f) (record { left = suc k; enough = omega arith; is = refl })

-- the way from a subtree to the root
pub data Way : Type 0 where
  Top : Way
  Left : (c : Color) (w : Way) (x : ℤ) (r : Tree) → Way
  Right : (c : Color) (l : Tree) (x : ℤ) (w : Way) → Way

abbrev pub way_value : Way → Value
way_value Top = Node 0 End
way_value (Left c w x r) = Node 1 (More (color_value c) (More (way_value w) (More (Int x) (More (tree_value r) End))))
way_value (Right c l x w) = Node 2 (More (color_value c) (More (tree_value l) (More (Int x) (More (way_value w) End))))

abbrev pub steps : Way → ℕ
steps Top = 0
steps (Left c w x r) = suc (steps w)
steps (Right c l x w) = suc (steps w)

-- the whole tree, with t at the end of the way
abbrev pub close : Tree → Way → Tree
close t Top = t
close t (Left c w x r) = close (Branch c t x r) w
close t (Right c l x w) = close (Branch c l x t) w

-- the whole tree, with a red node of l, k and r at the end of the way
abbrev pub grow : Tree → ℤ → Tree → Way → Tree
grow l k r Top = Branch Black l k r
grow l k r (Left Black w x s) = close (Branch Black (Branch Red l k r) x s) w
grow l k r (Left Red Top x s) = Branch Black (Branch Red l k r) x s
grow l k r (Left Red (Left c w y b) x a) = grow (Branch Black l k r) x (Branch Black a y b) w
grow l k r (Left Red (Right c a y w) x b) = grow (Branch Black a y l) k (Branch Black r x b) w
grow l k r (Right Black s x w) = close (Branch Black s x (Branch Red l k r)) w
grow l k r (Right Red s x Top) = Branch Black s x (Branch Red l k r)
grow l k r (Right Red b x (Left c w y a)) = grow (Branch Black b x l) k (Branch Black r y a) w
grow l k r (Right Red b x (Right c a y w)) = grow (Branch Black a y b) x (Branch Black l k r) w

pub close_runs : (w : Way) (t : Tree) (m d k r : ℕ) → steps w + r ≤ k → k < m → GivesLeaving r (one (tree_value (close t w))) (calls_of rbtree_program m d 2 (two (tree_value t) (way_value w)) k).answer
close_runs w t zero d k r le lt = absurd (omega arith)
close_runs Top t (suc m) d k r le lt = record { left = k; enough = omega arith; is = refl }
close_runs (Left c w x s) t (suc m) d zero r le lt = absurd (omega arith)
close_runs (Left c w x s) t (suc m) d (suc k) r le lt = close_runs w (Branch c t x s) m d k r (omega arith) (omega arith)
close_runs (Right c s x w) t (suc m) d zero r le lt = absurd (omega arith)
close_runs (Right c s x w) t (suc m) d (suc k) r le lt = close_runs w (Branch c s x t) m d k r (omega arith) (omega arith)

abbrev pub four : Value → Value → Value → Value → Values
four a b c d = More a (More b (two c d))

pub grow_runs : (w : Way) (l : Tree) (i : ℤ) (b : Tree) (m d k r : ℕ) → steps w + r ≤ k → k < m → GivesLeaving r (one (tree_value (grow l i b w))) (calls_of rbtree_program m d 3 (four (tree_value l) (Int i) (tree_value b) (way_value w)) k).answer
grow_runs w l i b zero d k r le lt = absurd (omega arith)
grow_runs Top l i b (suc m) d k r le lt = record { left = k; enough = omega arith; is = refl }
grow_runs (Left Black w x s) l i b (suc m) d zero r le lt = absurd (omega arith)
grow_runs (Left Black w x s) l i b (suc m) d (suc k) r le lt = close_runs w (Branch Black (Branch Red l i b) x s) m d k r (omega arith) (omega arith)
grow_runs (Left Red Top x s) l i b (suc m) d k r le lt = record { left = k; enough = omega arith; is = refl }
grow_runs (Left Red (Left c w y s) x a) l i b (suc m) d zero r le lt = absurd (omega arith)
grow_runs (Left Red (Left c w y s) x a) l i b (suc m) d (suc k) r le lt = grow_runs w (Branch Black l i b) x (Branch Black a y s) m d k r (omega arith) (omega arith)
grow_runs (Left Red (Right c a y w) x s) l i b (suc m) d zero r le lt = absurd (omega arith)
grow_runs (Left Red (Right c a y w) x s) l i b (suc m) d (suc k) r le lt = grow_runs w (Branch Black a y l) i (Branch Black b x s) m d k r (omega arith) (omega arith)
grow_runs (Right Black s x w) l i b (suc m) d zero r le lt = absurd (omega arith)
grow_runs (Right Black s x w) l i b (suc m) d (suc k) r le lt = close_runs w (Branch Black s x (Branch Red l i b)) m d k r (omega arith) (omega arith)
grow_runs (Right Red s x Top) l i b (suc m) d k r le lt = record { left = k; enough = omega arith; is = refl }
grow_runs (Right Red s x (Left c w y a)) l i b (suc m) d zero r le lt = absurd (omega arith)
grow_runs (Right Red s x (Left c w y a)) l i b (suc m) d (suc k) r le lt = grow_runs w (Branch Black s x l) i (Branch Black b y a) m d k r (omega arith) (omega arith)
grow_runs (Right Red s x (Right c a y w)) l i b (suc m) d zero r le lt = absurd (omega arith)
grow_runs (Right Red s x (Right c a y w)) l i b (suc m) d (suc k) r le lt = grow_runs w (Branch Black a y s) x (Branch Black l i b) m d k r (omega arith) (omega arith)

abbrev pub put : ℤ → Pad → Way → Inserted
put i Pad0 w = record { tree = close Leaf w; pad = Pad0; flag = false }
put i (Pad4 a b c d) w = record { tree = grow Leaf i Leaf w; pad = Pad0; flag = true }

abbrev pub search : Tree → ℤ → Pad → Way → Inserted
search Leaf i p w = put i p w
search (Branch c a x b) i p w =
    cond (int_lt i x) (search a i p (Left c w x b)) (cond (int_lt x i) (search b i p (Right c a x w)) (record { tree = close (Branch c a x b) w; pad = p; flag = true }))

-- the end of a search: the tree, then the pad and the flag
pub search_runs : (t : Tree) (i : ℤ) (p : Pad) (w : Way) (m d k r : ℕ) → 2 * depth t + (steps w + (1 + r)) ≤ k → k < m → GivesLeaving r (inserted_values (search t i p w)) (calls_of rbtree_program m (suc d) 1 (four (tree_value t) (Int i) (pad_value p) (way_value w)) k).answer
search_runs t i p w zero d k r le lt = absurd (omega arith)
search_runs t i p w (suc m) d zero r le lt = absurd (omega arith)
search_runs Leaf i Pad0 w (suc m) d (suc k) r le lt =
    after_call _ _ (close_runs w Leaf m d k r (omega arith) (omega arith)) (calls_left rbtree_program m d 2 _ k) (λ left enough most. record { left = left; enough = enough; is = refl })
search_runs Leaf i (Pad4 a b c e) w (suc m) d (suc k) r le lt =
    after_call _ _ (grow_runs w Leaf i Leaf m d k r (omega arith) (omega arith)) (calls_left rbtree_program m d 3 _ k) (λ left enough most. record { left = left; enough = enough; is = refl })
search_runs (Branch c a x b) i p w (suc m) d (suc k) r le lt =
    by (int_lt i x) refl (int_lt x i) refl (search_runs a i p (Left c w x b) m d k r (omega arith) (omega arith)) (search_runs b i p (Right c a x w) m d k r (omega arith) (omega arith))
  where
    Goal : Inserted → Type 0
    Goal s = GivesLeaving r (inserted_values s) (calls_of rbtree_program (suc m) (suc d) 1 (four (tree_value (Branch c a x b)) (Int i) (pad_value p) (way_value w)) (suc k)).answer

    by : (s : Bool) → int_lt i x ≡ s → (t : Bool) → int_lt x i ≡ t → GivesLeaving r (inserted_values (search a i p (Left c w x b))) (calls_of rbtree_program m (suc d) 1 (four (tree_value a) (Int i) (pad_value p) (way_value (Left c w x b))) k).answer → GivesLeaving r (inserted_values (search b i p (Right c a x w))) (calls_of rbtree_program m (suc d) 1 (four (tree_value b) (Int i) (pad_value p) (way_value (Right c a x w))) k).answer → Goal (cond s (search a i p (Left c w x b)) (cond t (search b i p (Right c a x w)) (record { tree = close (Branch c a x b) w; pad = p; flag = true })))
    by true e t f u v = rw e u
    by false e true f u v = rw (e, f) v
    by false e false f u v =
        rw (e, f) (after_call _ _ (close_runs w (Branch c a x b) m d k r (omega arith) (omega arith)) (calls_left rbtree_program m d 2 _ k) (λ left enough most. record { left = left; enough = enough; is = refl }))

pub insert_runs : (t : Tree) (i : ℤ) (p : Pad) (m d k r : ℕ) → 2 * depth t + (2 + r) ≤ k → k < m → GivesLeaving r (inserted_values (search t i p Top)) (calls_of rbtree_program m (suc d) 0 (three (tree_value t) (Int i) (pad_value p)) k).answer
insert_runs t i p zero d k r le lt = absurd (omega arith)
insert_runs t i p (suc m) d zero r le lt = absurd (omega arith)
insert_runs t i p (suc m) d (suc k) r le lt = search_runs t i p Top m d k r (omega arith) (omega arith)

abbrev pub build : List ℤ → List Pad → Tree → Tree
build [] ps t = t
build (i ∷ is) [] t = t
build (i ∷ is) (p ∷ ps) t = build is ps (search t i p Top).tree

-- trees that stay at most so deep, however many inserts come
abbrev pub StayLow : ℕ → List ℤ → List Pad → Tree → Type 0
StayLow n [] ps t = Unit {0}
StayLow n (i ∷ is) [] t = Unit {0}
StayLow n (i ∷ is) (p ∷ ps) t = (depth t ≤ n) × StayLow n is ps (search t i p Top).tree

pub build_runs : (is : List ℤ) (ps : List Pad) (t : Tree) (n : ℕ) → StayLow n is ps t → (m d k r : ℕ) → length is * (2 * n + 4) + r ≤ k → k < m → GivesLeaving r (one (tree_value (build is ps t))) (calls_of rbtree_program m (suc (suc d)) 5 (three (list_value is) (pads_value ps) (tree_value t)) k).answer
build_runs is ps t n low zero d k r le lt = absurd (omega arith)
build_runs [] ps t n low (suc m) d k r le lt = record { left = k; enough = omega arith; is = refl }
build_runs (i ∷ is) [] t n low (suc m) d k r le lt = record { left = k; enough = omega arith; is = refl }
build_runs (i ∷ is) (p ∷ ps) t n low (suc m) d zero r le lt = absurd (omega arith)
build_runs (i ∷ is) (p ∷ ps) t n low (suc m) d (suc k) r le lt =
    after_call _ _ (insert_runs t i p m d k (length is * (2 * n + 4) + (1 + r)) (omega (arith, low.0)) (omega arith)) (calls_left rbtree_program m (suc d) 0 _ k)
    (λ left enough most. counted_on left _ (omega arith) (λ j e. build_runs is ps (search t i p Top).tree n low.1 m d j r (omega arith) (omega arith)))
