-- Colors and heights through the functions of `rbtree`.
use Rattle.std.proofs.Common.{ℕ, zero, suc, Bool, true, false, cond, ℤ, int_lt, inl, inr, ◌⊎◌}
use Rattle.library_correctness.specs.RedBlack.{Red, Black, Tree, Leaf, Branch, Pad, Pad0, Pad4, IsRootBlack, HasNoRedPair, HasBlackHeight, Inserted}
use Rattle.library_correctness.proofs.RedBlack.{Way, Top, Left, Right, close, grow, put, search}

-- a way from a subtree with so many black nodes, in a tree with as many on each way to a Leaf
abbrev pub Fits : ℕ → Way → Type 0
Fits n Top = Unit {0}
Fits n (Left Red w x s) = HasBlackHeight n s × Fits n w
Fits n (Left Black w x s) = HasBlackHeight n s × Fits (suc n) w
Fits n (Right Red s x w) = HasBlackHeight n s × Fits n w
Fits n (Right Black s x w) = HasBlackHeight n s × Fits (suc n) w

-- the node above is there and black
abbrev pub IsUnderBlack : Way → Type 0
IsUnderBlack Top = ⊥
IsUnderBlack (Left Red w x s) = ⊥
IsUnderBlack (Left Black w x s) = Unit {0}
IsUnderBlack (Right Red s x w) = ⊥
IsUnderBlack (Right Black s x w) = Unit {0}

abbrev pub WayHasNoRedPair : Way → Type 0
WayHasNoRedPair Top = Unit {0}
WayHasNoRedPair (Left Red w x s) = IsRootBlack s × HasNoRedPair s × IsUnderBlack w × WayHasNoRedPair w
WayHasNoRedPair (Left Black w x s) = HasNoRedPair s × WayHasNoRedPair w
WayHasNoRedPair (Right Red s x w) = IsRootBlack s × HasNoRedPair s × IsUnderBlack w × WayHasNoRedPair w
WayHasNoRedPair (Right Black s x w) = HasNoRedPair s × WayHasNoRedPair w

abbrev pub MayHang : Tree → Way → Type 0
MayHang t w = IsRootBlack t ⊎ IsUnderBlack w

pub record IsBalanced (t : Tree) : Type 0 where
  pub root : IsRootBlack t
  pub no_red_pair : HasNoRedPair t
  pub blacks : ℕ
  pub same : HasBlackHeight blacks t

hung : (t : Tree) → MayHang t Top → IsRootBlack t
hung t (inl h) = h
hung t (inr h) = absurd h

under_red_left : (t : Tree) (w : Way) (x : ℤ) (s : Tree) → MayHang t (Left Red w x s) → IsRootBlack t
under_red_left t w x s (inl h) = h
under_red_left t w x s (inr h) = absurd h

under_red_right : (t : Tree) (w : Way) (x : ℤ) (s : Tree) → MayHang t (Right Red s x w) → IsRootBlack t
under_red_right t w x s (inl h) = h
under_red_right t w x s (inr h) = absurd h

pub close_balanced : (w : Way) (t : Tree) (n : ℕ) → MayHang t w → HasNoRedPair t → HasBlackHeight n t → WayHasNoRedPair w → Fits n w → IsBalanced (close t w)
close_balanced Top t n m c h cw f = record { root = hung t m; no_red_pair = c; blacks = n; same = h }
close_balanced (Left Red w x s) t n m c h cw f = close_balanced w (Branch Red t x s) n (inr cw.2) (under_red_left t w x s m, cw.0, c, cw.1) (h, f.0) cw.3 f.1
close_balanced (Left Black w x s) t n m c h cw f = close_balanced w (Branch Black t x s) (suc n) (inl tt) (c, cw.0) (h, f.0) cw.1 f.1
close_balanced (Right Red s x w) t n m c h cw f = close_balanced w (Branch Red s x t) n (inr cw.2) (cw.0, under_red_right t w x s m, cw.1, c) (f.0, h) cw.3 f.1
close_balanced (Right Black s x w) t n m c h cw f = close_balanced w (Branch Black s x t) (suc n) (inl tt) (cw.0, c) (f.0, h) cw.1 f.1

-- a subtree that may be the child of a red node
pub record IsPart (n : ℕ) (t : Tree) : Type 0 where
  pub root : IsRootBlack t
  pub no_red_pair : HasNoRedPair t
  pub same : HasBlackHeight n t

pub grow_balanced : (w : Way) (l : Tree) (i : ℤ) (r : Tree) (n : ℕ) → IsPart n l → IsPart n r → WayHasNoRedPair w → Fits n w → IsBalanced (grow l i r w)
grow_balanced Top l i r n a b cw f = record { root = tt; no_red_pair = (a.no_red_pair, b.no_red_pair); blacks = suc n; same = (a.same, b.same) }
grow_balanced (Left Black w x s) l i r n a b cw f =
    close_balanced w (Branch Black (Branch Red l i r) x s) (suc n) (inl tt) ((a.root, b.root, a.no_red_pair, b.no_red_pair), cw.0) ((a.same, b.same), f.0) cw.1 f.1
grow_balanced (Left Red Top x s) l i r n a b cw f = absurd cw.2
grow_balanced (Left Red (Left Red w y q) x s) l i r n a b cw f = absurd cw.2
grow_balanced (Left Red (Left Black w y q) x s) l i r n a b cw f =
    grow_balanced w (Branch Black l i r) x (Branch Black s y q) (suc n) (record { root = tt; no_red_pair = (a.no_red_pair, b.no_red_pair); same = (a.same, b.same) }) (record { root = tt; no_red_pair = (cw.1, cw.3.0); same = (f.0, f.1.0) }) cw.3.1 f.1.1
grow_balanced (Left Red (Right Red q y w) x s) l i r n a b cw f = absurd cw.2
grow_balanced (Left Red (Right Black q y w) x s) l i r n a b cw f =
    grow_balanced w (Branch Black q y l) i (Branch Black r x s) (suc n) (record { root = tt; no_red_pair = (cw.3.0, a.no_red_pair); same = (f.1.0, a.same) }) (record { root = tt; no_red_pair = (b.no_red_pair, cw.1); same = (b.same, f.0) }) cw.3.1 f.1.1
grow_balanced (Right Black s x w) l i r n a b cw f =
    close_balanced w (Branch Black s x (Branch Red l i r)) (suc n) (inl tt) (cw.0, (a.root, b.root, a.no_red_pair, b.no_red_pair)) (f.0, (a.same, b.same)) cw.1 f.1
grow_balanced (Right Red s x Top) l i r n a b cw f = absurd cw.2
grow_balanced (Right Red s x (Left Red w y q)) l i r n a b cw f = absurd cw.2
grow_balanced (Right Red s x (Left Black w y q)) l i r n a b cw f =
    grow_balanced w (Branch Black s x l) i (Branch Black r y q) (suc n) (record { root = tt; no_red_pair = (cw.1, a.no_red_pair); same = (f.0, a.same) }) (record { root = tt; no_red_pair = (b.no_red_pair, cw.3.0); same = (b.same, f.1.0) }) cw.3.1 f.1.1
grow_balanced (Right Red s x (Right Red q y w)) l i r n a b cw f = absurd cw.2
grow_balanced (Right Red s x (Right Black q y w)) l i r n a b cw f =
    grow_balanced w (Branch Black q y s) x (Branch Black l i r) (suc n) (record { root = tt; no_red_pair = (cw.3.0, cw.1); same = (f.1.0, f.0) }) (record { root = tt; no_red_pair = (a.no_red_pair, b.no_red_pair); same = (a.same, b.same) }) cw.3.1 f.1.1

leaf_part : (n : ℕ) → HasBlackHeight n Leaf → IsPart n Leaf
leaf_part n h = record { root = tt; no_red_pair = tt; same = h }

put_balanced : (i : ℤ) (p : Pad) (w : Way) (n : ℕ) → HasBlackHeight n Leaf → WayHasNoRedPair w → Fits n w → IsBalanced (put i p w).tree
put_balanced i Pad0 w n h cw f = close_balanced w Leaf n (inl tt) tt h cw f
put_balanced i (Pad4 a b c d) w n h cw f = grow_balanced w Leaf i Leaf n (leaf_part n h) (leaf_part n h) cw f

under_black : (l r : Tree) (x : ℤ) (w : Way) → MayHang (Branch Red l x r) w → IsUnderBlack w
under_black l r x w (inl h) = absurd h
under_black l r x w (inr h) = h

chosen : (P : Tree → Type 0) (s t : Bool) (a b c : Inserted) → P a.tree → P b.tree → P c.tree → P (cond s a (cond t b c)).tree
chosen P true t a b c h k j = h
chosen P false true a b c h k j = k
chosen P false false a b c h k j = j

pub search_balanced : (t : Tree) (i : ℤ) (p : Pad) (w : Way) (n : ℕ) → MayHang t w → HasNoRedPair t → HasBlackHeight n t → WayHasNoRedPair w → Fits n w → IsBalanced (search t i p w).tree
search_balanced Leaf i p w n m c h cw f = put_balanced i p w n h cw f
search_balanced (Branch Red l x r) i p w n m c h cw f =
    let u = under_black l r x w m in
    chosen IsBalanced (int_lt i x) (int_lt x i) _ _ _ (search_balanced l i p (Left Red w x r) n (inl c.0) c.2 h.0 (c.1, c.3, u, cw) (h.1, f)) (search_balanced r i p (Right Red l x w) n (inl c.1) c.3 h.1 (c.0, c.2, u, cw) (h.0, f)) (close_balanced w (Branch Red l x r) n m c h cw f)
search_balanced (Branch Black l x r) i p w zero m c h cw f = absurd h
search_balanced (Branch Black l x r) i p w (suc n) m c h cw f =
    chosen IsBalanced (int_lt i x) (int_lt x i) _ _ _ (search_balanced l i p (Left Black w x r) n (inr tt) c.0 h.0 (c.1, cw) (h.1, f)) (search_balanced r i p (Right Black l x w) n (inr tt) c.1 h.1 (c.0, cw) (h.0, f)) (close_balanced w (Branch Black l x r) (suc n) m c h cw f)
