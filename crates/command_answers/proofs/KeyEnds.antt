-- The least and the greatest of keys are those of any keys that are the same, in whatever order and however often.
use Rattle.std.proofs.Common.{◌≡◌, ◌↔◌, ◌⊎◌, Bool, true, false, ℤ, int_le, List, [], ◌∷◌, ◌++◌, length, Option, Some, None, inl, inr, if◌then◌else◌, arith, length-append, refl, sym, ap₂, subst}
use borrow.Author.Differences.{le-true, le-false, same_in}
use Rattle.command_library.specs.fip_language.Every.{Every, Among}
use Rattle.command_library.specs.command_outcome.declared.success.Ends.{Ends}
use Rattle.library_correctness.specs.RedBlack.{Tree, Leaf, Branch, keys, tree_value}
use Rattle.library_correctness.proofs.Orders.{among_first, among_append}
use Rattle.library_correctness.proofs.RedBlackResults.{among_parts, among_more}
use Rattle.command_library.specs.MadeTree.{keys_of, with_key, ends_of}

-- ---- the order of ints

no_more : (a b : ℤ) → (int_le a b ≡ false → ⊥) → int_le a b ≡ true
no_more a b ne = by (int_le a b) refl
  where
    by : (s : Bool) → int_le a b ≡ s → s ≡ true
    by true e = refl
    by false e = absurd (ne e)

itself : (a : ℤ) → int_le a a ≡ true
itself a = no_more a a (λ e. let h = le-false a a e in omega (arith, h))

in_order : (a b c : ℤ) → int_le a b ≡ true → int_le b c ≡ true → int_le a c ≡ true
in_order a b c h k = no_more a c (λ e. let x = le-false a c e in let y = le-true a b h in let z = le-true b c k in omega (arith, x, y, z))

other_way : (a b : ℤ) → int_le a b ≡ false → int_le b a ≡ true
other_way a b e = no_more b a (λ f. let x = le-false a b e in let y = le-false b a f in omega (arith, x, y))

both_ways : (a b : ℤ) → int_le a b ≡ true → int_le b a ≡ true → a ≡ b
both_ways a b e f = let x = le-true a b e in let y = le-true b a f in same_in a b (omega (arith, x, y))

every_at : (P : ℤ → Type 0) (j : ℤ) (xs : List ℤ) → Every P xs → Among j xs → P j
every_at P j [] h a = absurd a
every_at P j (x ∷ xs) h (inl e) = subst P (sym e) h.0
every_at P j (x ∷ xs) h (inr a) = every_at P j xs h.1 a

every_above : (a b : ℤ) (xs : List ℤ) → int_le a b ≡ true → Every (λ j. int_le b j ≡ true) xs → Every (λ j. int_le a j ≡ true) xs
every_above a b [] h k = tt
every_above a b (x ∷ xs) h k = (in_order a b x h k.0, every_above a b xs h k.1)

every_below : (a b : ℤ) (xs : List ℤ) → int_le b a ≡ true → Every (λ j. int_le j b ≡ true) xs → Every (λ j. int_le j a ≡ true) xs
every_below a b [] h k = tt
every_below a b (x ∷ xs) h k = (in_order x b a k.0 h, every_below a b xs h k.1)

-- ---- the ends of keys

IsLeast : ℤ → List ℤ → Type 0
IsLeast m xs = Among m xs × Every (λ j. int_le m j ≡ true) xs

IsGreatest : ℤ → List ℤ → Type 0
IsGreatest m xs = Among m xs × Every (λ j. int_le j m ≡ true) xs

least_more : (k m : ℤ) (ks : List ℤ) → IsLeast m ks → IsLeast (if int_le k m then k else m) (k ∷ ks)
unfolding IsLeast
least_more k m ks h = by (int_le k m) refl
  where
    by : (s : Bool) → int_le k m ≡ s → IsLeast (if s then k else m) (k ∷ ks)
    by true e = (inl refl, (itself k, every_above k m ks e h.1))
    by false e = (inr h.0, (other_way k m e, h.1))

greatest_more : (k m : ℤ) (ks : List ℤ) → IsGreatest m ks → IsGreatest (if int_le m k then k else m) (k ∷ ks)
unfolding IsGreatest
greatest_more k m ks h = by (int_le m k) refl
  where
    by : (s : Bool) → int_le m k ≡ s → IsGreatest (if s then k else m) (k ∷ ks)
    by true e = (inl refl, (itself k, every_below k m ks e h.1))
    by false e = (inr h.0, (other_way m k e, h.1))

AreEnds : List ℤ → Option Ends → Type 0
AreEnds xs None = xs ≡ []
AreEnds xs (Some e) = IsLeast e.least xs × IsGreatest e.greatest xs

ends_are : (xs : List ℤ) → AreEnds xs (ends_of xs)
unfolding AreEnds IsLeast IsGreatest
ends_are [] = refl
ends_are (k ∷ ks) = more (ends_of ks) (ends_are ks)
  where
    more : (o : Option Ends) → AreEnds ks o → AreEnds (k ∷ ks) (Some (with_key k o))
    more None h = subst (λ xs. IsLeast k (k ∷ xs) × IsGreatest k (k ∷ xs)) (sym h) ((inl refl, (itself k, tt)), (inl refl, (itself k, tt)))
    more (Some e) h = (least_more k e.least ks h.0, greatest_more k e.greatest ks h.1)

module _ (xs ys : List ℤ) (same : (j : ℤ) → Among j xs ↔ Among j ys) where
  one_least : (m n : ℤ) → IsLeast m xs → IsLeast n ys → m ≡ n
  unfolding IsLeast
  one_least m n h k =
      both_ways m n (every_at (λ j. int_le m j ≡ true) n xs h.1 ((same n).1 k.0)) (every_at (λ j. int_le n j ≡ true) m ys k.1 ((same m).0 h.0))

  one_greatest : (m n : ℤ) → IsGreatest m xs → IsGreatest n ys → m ≡ n
  unfolding IsGreatest
  one_greatest m n h k =
      both_ways m n (every_at (λ j. int_le j n ≡ true) m ys k.1 ((same m).0 h.0)) (every_at (λ j. int_le j m ≡ true) n xs h.1 ((same n).1 k.0))

  ends_once : (o p : Option Ends) → AreEnds xs o → AreEnds ys p → o ≡ p
  unfolding AreEnds IsLeast
  ends_once None None h k = refl
  ends_once None (Some f) h k = absurd (subst (Among f.least) h ((same f.least).1 k.0.0))
  ends_once (Some e) None h k = absurd (subst (Among e.least) k ((same e.least).0 h.0.0))
  ends_once (Some e) (Some f) h k =
      ap₂ (λ l g. Some (record { least = l; greatest = g })) (one_least e.least f.least h.0 k.0) (one_greatest e.greatest f.greatest h.1 k.1)

  pub ends_same : ends_of xs ≡ ends_of ys
  ends_same = ends_once (ends_of xs) (ends_of ys) (ends_are xs) (ends_are ys)

-- ---- the keys of a tree, each before those below it

pub length_same : (t : Tree) → length (keys_of (tree_value t)) ≡ length (keys t)
length_same Leaf = refl
length_same (Branch c l x r) =
    omega (arith, length_same l, length_same r, length-append (keys_of (tree_value l)) (keys_of (tree_value r)), length-append (keys l) (x ∷ keys r))

-- a key before those on both sides, and between them
around : (x j : ℤ) (ks ms ls ns : List ℤ) → (Among j ks ↔ Among j ls) → (Among j ms ↔ Among j ns) → ((j ≡ x) ⊎ Among j (ks ++ ms)) ↔ Among j (ls ++ (x ∷ ns))
around x j ks ms ls ns left right = (λ a. (among_more x j ls ns).1 (to a), λ a. from ((among_more x j ls ns).0 a))
  where
    below : Among j ks ⊎ Among j ms → Among j (ls ++ ns)
    below (inl a) = among_first j ls ns (left.0 a)
    below (inr a) = among_append j ls ns (right.0 a)

    to : (j ≡ x) ⊎ Among j (ks ++ ms) → (j ≡ x) ⊎ Among j (ls ++ ns)
    to (inl e) = inl e
    to (inr a) = inr (below (among_parts j ks ms a))

    above : Among j ls ⊎ Among j ns → Among j (ks ++ ms)
    above (inl a) = among_first j ks ms (left.1 a)
    above (inr a) = among_append j ks ms (right.1 a)

    from : (j ≡ x) ⊎ Among j (ls ++ ns) → (j ≡ x) ⊎ Among j (ks ++ ms)
    from (inl e) = inl e
    from (inr a) = inr (above (among_parts j ls ns a))

pub keys_same : (t : Tree) (j : ℤ) → Among j (keys_of (tree_value t)) ↔ Among j (keys t)
keys_same Leaf j = (λ a. a, λ a. a)
keys_same (Branch c l x r) j = around x j (keys_of (tree_value l)) (keys_of (tree_value r)) (keys l) (keys r) (keys_same l j) (keys_same r j)
