-- The keys from left to right through the functions of `rbtree`, and what a search does by them.
use Rattle.std.proofs.Common.{◌≡◌, Bool, true, false, cond, ℤ, int_lt, ◌<ℤ◌, List, [], ◌∷◌, ◌++◌, inl, inr, append_assoc, refl, sym, ◌∙◌, subst}
use Rattle.std.proofs.lemmas.List.{append-nil}
use Rattle.fip_language.specs.Every.{Every, Among}
use Rattle.library_correctness.specs.RedBlack.{Color, Red, Black, Tree, Leaf, Branch, Pad, Pad0, Pad4, keys, IsAscending, Inserted}
use Rattle.library_correctness.proofs.RedBlack.{Way, Top, Left, Right, close, grow, put, search, found}
use Rattle.library_correctness.proofs.Orders.{passed, neither, every_append, every_last, all_below, all_above, ascending_last, ascending_first, ascending_below, among_append, among_first, not_below, not_above, not_both, in_either}

abbrev pub before : Way → List ℤ
before Top = []
before (Left c w x r) = before w
before (Right c l x w) = before w ++ (keys l ++ (x ∷ []))

abbrev pub after : Way → List ℤ
after Top = []
after (Left c w x r) = x ∷ (keys r ++ after w)
after (Right c l x w) = after w

pub keys_close : (w : Way) (t : Tree) → keys (close t w) ≡ before w ++ (keys t ++ after w)
keys_close Top t = sym (append-nil (keys t))
keys_close (Left c w x r) t = keys_close w (Branch c t x r) ∙ simp append_assoc
keys_close (Right c l x w) t = keys_close w (Branch c l x t) ∙ simp append_assoc

pub keys_grow : (w : Way) (l : Tree) (i : ℤ) (r : Tree) → keys (grow l i r w) ≡ before w ++ (keys l ++ (i ∷ (keys r ++ after w)))
keys_grow Top l i r = simp append-nil
keys_grow (Left Black w x s) l i r = keys_close w (Branch Black (Branch Red l i r) x s) ∙ simp append_assoc
keys_grow (Left Red Top x s) l i r = simp (append_assoc, append-nil)
keys_grow (Left Red (Left c w y b) x a) l i r = keys_grow w (Branch Black l i r) x (Branch Black a y b) ∙ simp append_assoc
keys_grow (Left Red (Right c a y w) x b) l i r = keys_grow w (Branch Black a y l) i (Branch Black r x b) ∙ simp append_assoc
keys_grow (Right Black s x w) l i r = keys_close w (Branch Black s x (Branch Red l i r)) ∙ simp append_assoc
keys_grow (Right Red s x Top) l i r = simp (append_assoc, append-nil)
keys_grow (Right Red b x (Left c w y a)) l i r = keys_grow w (Branch Black b x l) i (Branch Black r y a) ∙ simp append_assoc
keys_grow (Right Red b x (Right c a y w)) l i r = keys_grow w (Branch Black a y b) x (Branch Black l i r) ∙ simp append_assoc

-- where a key that isn't in the tree belongs
pub record IsGap (i : ℤ) (xs : List ℤ) : Type 0 where
  pub low : List ℤ
  pub high : List ℤ
  pub all : xs ≡ low ++ high
  pub below : Every (λ y. y <ℤ i) low
  pub above : Every (λ y. i <ℤ y) high

-- the tree with this key
pub record Gains (i : ℤ) (xs ys : List ℤ) : Type 0 where
  pub gap : IsGap i xs
  pub now : ys ≡ gap.low ++ (i ∷ gap.high)

abbrev pub New : Tree → ℤ → Pad → Inserted → Type 0
New t i Pad0 s = IsGap i (keys t) × (s ≡ record { tree = t; pad = Pad0; flag = false })
New t i (Pad4 a b c d) s = Gains i (keys t) (keys s.tree) × (s.pad ≡ Pad0) × (s.flag ≡ true)

-- what an insert gives
pub data Outcome (t : Tree) (i : ℤ) (p : Pad) (s : Inserted) : Type 0 where
  Found : Among i (keys t) → s ≡ record { tree = t; pad = p; flag = true } → Outcome t i p s
  Added : New t i p s → Outcome t i p s

put_new : (i : ℤ) (p : Pad) (w : Way) → Every (λ y. y <ℤ i) (before w) → Every (λ y. i <ℤ y) (after w) → New (close Leaf w) i p (put i p w)
put_new i Pad0 w b a = (record { low = before w; high = after w; all = keys_close w Leaf; below = b; above = a }, refl)
put_new i (Pad4 e f g h) w b a =
    (record { gap = record { low = before w; high = after w; all = keys_close w Leaf; below = b; above = a }; now = keys_grow w Leaf i Leaf }, refl, refl)

-- the items around a node of a tree that rises
ascending_here : (w : Way) (c : Color) (l : Tree) (x : ℤ) (r : Tree) → IsAscending (keys (close (Branch c l x r) w)) → IsAscending ((before w ++ keys l) ++ (x ∷ (keys r ++ after w)))
ascending_here w c l x r h = subst IsAscending (keys_close w (Branch c l x r) ∙ simp append_assoc) h

pub search_outcome : (t : Tree) (i : ℤ) (p : Pad) (w : Way) → IsAscending (keys (close t w)) → Every (λ y. y <ℤ i) (before w) → Every (λ y. i <ℤ y) (after w) → Outcome (close t w) i p (search t i p w)
search_outcome Leaf i p w h b a = Added (put_new i p w b a)
search_outcome (Branch c l x r) i p w h b a =
    by (int_lt i x) refl (int_lt x i) refl (λ b' a'. search_outcome l i p (Left c w x r) h b' a') (λ b' a'. search_outcome r i p (Right c l x w) h b' a')
  where
    here : IsAscending ((before w ++ keys l) ++ (x ∷ (keys r ++ after w)))
    here = ascending_here w c l x r h

    by : (s : Bool) → int_lt i x ≡ s → (t : Bool) → int_lt x i ≡ t → (Every (λ y. y <ℤ i) (before w) → Every (λ y. i <ℤ y) (x ∷ (keys r ++ after w)) → Outcome (close (Branch c l x r) w) i p (search l i p (Left c w x r))) → (Every (λ y. y <ℤ i) (before w ++ (keys l ++ (x ∷ []))) → Every (λ y. i <ℤ y) (after w) → Outcome (close (Branch c l x r) w) i p (search r i p (Right c l x w))) → Outcome (close (Branch c l x r) w) i p (cond s (search l i p (Left c w x r)) (cond t (search r i p (Right c l x w)) (record { tree = close (Branch c l x r) w; pad = p; flag = true })))
    by true e t f left right =
        left b (passed i x e, all_above i x (keys r ++ after w) (passed i x e) (ascending_last (before w ++ keys l) (x ∷ (keys r ++ after w)) here).0)
    by false e true f left right =
        right (every_append (λ y. y <ℤ i) (before w) (keys l ++ (x ∷ [])) b (every_append (λ y. y <ℤ i) (keys l) (x ∷ []) (all_below x i (keys l) (passed x i f) (every_last (λ y. y <ℤ x) (before w) (keys l) (ascending_below (before w ++ keys l) x (keys r ++ after w) here))) (passed x i f, tt))) a
    by false e false f left right =
        Found (subst (Among i) (sym (keys_close w (Branch c l x r) ∙ simp append_assoc)) (among_append i (before w) (keys l ++ (x ∷ (keys r ++ after w))) (among_append i (keys l) (x ∷ (keys r ++ after w)) (inl (neither i x e f))))) refl

-- a tree whose keys rise has one exactly where the search finds it
pub data Decides (b : Bool) (P : Type 0) : Type 0 where
  Yes : b ≡ true → P → Decides b P
  No : b ≡ false → (P → ⊥) → Decides b P

decides_left : (i x : ℤ) (b : Bool) (l r : List ℤ) → i <ℤ x → IsAscending (l ++ (x ∷ r)) → Decides b (Among i l) → Decides b (Among i (l ++ (x ∷ r)))
decides_left i x b l r lt h (Yes e a) = Yes e (among_first i l (x ∷ r) a)
decides_left i x b l r lt h (No e n) =
    No e (λ a. in_either i l (x ∷ r) n (not_above i (x ∷ r) (lt, all_above i x r lt (ascending_last l (x ∷ r) h).0)) a)

decides_right : (i x : ℤ) (b : Bool) (l r : List ℤ) → x <ℤ i → IsAscending (l ++ (x ∷ r)) → Decides b (Among i r) → Decides b (Among i (l ++ (x ∷ r)))
decides_right i x b l r lt h (Yes e a) = Yes e (among_append i l (x ∷ r) (inr a))
decides_right i x b l r lt h (No e n) =
    No e (λ a. by (not_below i l (x ∷ r) (all_below x i l lt (ascending_below l x r h)) a))
  where
    by : Among i (x ∷ r) → ⊥
    by (inl q) = not_both x i lt (subst (λ z. i <ℤ z) q (subst (λ z. z <ℤ i) (sym q) lt))
    by (inr a) = n a

pub found_decides : (t : Tree) (i : ℤ) → IsAscending (keys t) → Decides (found i t) (Among i (keys t))
found_decides Leaf i h = No refl (λ a. a)
found_decides (Branch c l x r) i h =
    by (int_lt i x) refl (int_lt x i) refl (found_decides l i (ascending_first (keys l) (x ∷ keys r) h)) (found_decides r i (ascending_last (keys l) (x ∷ keys r) h).1)
  where
    by : (s : Bool) → int_lt i x ≡ s → (t : Bool) → int_lt x i ≡ t → Decides (found i l) (Among i (keys l)) → Decides (found i r) (Among i (keys r)) → Decides (cond s (found i l) (cond t (found i r) true)) (Among i (keys l ++ (x ∷ keys r)))
    by true e t f a b = decides_left i x (found i l) (keys l) (keys r) (passed i x e) h a
    by false e true f a b = decides_right i x (found i r) (keys l) (keys r) (passed x i f) h b
    by false e false f a b = Yes refl (among_append i (keys l) (x ∷ keys r) (inl (neither i x e f)))
