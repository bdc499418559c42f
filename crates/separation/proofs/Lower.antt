-- The frames that wait: how often they own a cell, and that they stay where none of their cells changes.
use Rattle.std.proofs.Common.{◌≡◌, ◌⊎◌, inl, inr, ℕ, zero, suc, ◌+◌, ◌<◌, ◌≤◌, true, List, [], ◌∷◌, ◌++◌, length, map, refl, sym, ap, ◌∙◌, subst, true≢false, arith}
use Rattle.separation_kinds.specs.fip_language.Table.{Table}
use Rattle.separation_kinds.specs.fip_language.Store.{Placed}
use Rattle.separation_kinds.specs.cell_code.declared.kind.Kind.{Kind}
use Rattle.separation_kinds.specs.cell_code.declared.kind.Kind.TheVariants.{Gone, Scalar, Owned, Lent, Credit}
use Rattle.separation_kinds.specs.machine_semantics.Cells.{Store}
use Rattle.separation_kinds.specs.machine_semantics.States.{Frame, Typed}
use Rattle.separation_kinds.specs.machine_semantics.Apart.{Holding, Nothing, Tree, Spare, Slot, LiesWithin, LiesIn, owned_uses, slots_uses, frames_uses, trees_uses, held_tree, owned_tree, owned_trees, trees_below, AreTrees}
use Rattle.separation_kinds.specs.cell_code.Plain.{PlainCode, results}
use Rattle.separation_kinds.specs.code_rules.Types.{numbers}
use Rattle.separation_kinds.specs.code_rules.Kinds.{at, is_owned}
use Rattle.separation_kinds.specs.Meanings.{owned_by, sum_from, word_at, slot_of, slots_of}
use Rattle.separation_kinds.proofs.Basics.{at_past}
use Rattle.separation_kinds.proofs.Agree.{SameAt, agree, tree_agree}
use Rattle.separation.specs.Alive.{Frozen, frozen_slots, lower_trees, IsWaiting, AreAllWaiting}

pub trees_append : (q : ℕ) (xs ys : List Placed) → trees_uses q (xs ++ ys) ≡ trees_uses q xs + trees_uses q ys
trees_append q [] ys = omega arith
trees_append q (x ∷ xs) ys = let a = trees_append q xs ys in omega arith

owned_tree_uses : (q : ℕ) (k : Kind) (h : Holding) → trees_uses q (owned_tree k h) ≤ owned_uses q k h
owned_tree_uses q Gone h = omega arith
owned_tree_uses q (Scalar t) h = omega arith
owned_tree_uses q (Owned t cs) Nothing = omega arith
owned_tree_uses q (Owned t cs) (Tree x) = omega arith
owned_tree_uses q (Owned t cs) (Spare p) = omega arith
owned_tree_uses q (Lent t cs root from) h = omega arith
owned_tree_uses q (Credit n) h = omega arith

owned_trees_uses : (q : ℕ) (xs : List Slot) → trees_uses q (owned_trees xs) ≤ slots_uses q xs
owned_trees_uses q [] = omega arith
owned_trees_uses q (x ∷ xs) = let a = trees_append q (owned_tree x.kind x.holds) (owned_trees xs) in let b = owned_tree_uses q x.kind x.holds in let c = owned_trees_uses q xs in omega arith

pub below_uses : (q : ℕ) (xss : List (List Slot)) (lent : List Placed) → trees_uses q (trees_below xss lent) ≤ frames_uses q xss + trees_uses q lent
below_uses q [] lent = omega arith
below_uses q (xs ∷ xss) lent = let a = trees_append q (owned_trees xs) (trees_below xss lent) in let b = owned_trees_uses q xs in let c = below_uses q xss lent in omega arith

slots_from : (q : ℕ) (ks : List Kind) (ws : ℕ → ℕ) (hs : ℕ → Holding) (i n : ℕ) → slots_uses q (map (slot_of ks ws hs) (numbers i n)) ≡ sum_from (λ r. owned_uses q (at ks r) (hs r)) i n
slots_from q ks ws hs i zero = refl
slots_from q ks ws hs i (suc n) = ap (λ m. owned_uses q (at ks i) (hs i) + m) (slots_from q ks ws hs (suc i) n)

pub slots_owned : (q : ℕ) (ks : List Kind) (ws : ℕ → ℕ) (hs : ℕ → Holding) → slots_uses q (slots_of ks ws hs) ≡ owned_by q (at ks) hs (length ks)
slots_owned q ks ws hs = slots_from q ks ws hs 0 (length ks)

-- ---- trees that lie below

pub lies_left : (x : Placed) (xs ys : List Placed) → LiesIn x xs → LiesIn x (xs ++ ys)
lies_left x [] ys l = absurd l
lies_left x (z ∷ xs) ys l = elim l as (λ v. LiesWithin x z ⊎ LiesIn x (xs ++ ys)) [ inl h ↦ inl h | inr h ↦ inr (lies_left x xs ys h) ]

pub lies_right : (x : Placed) (xs ys : List Placed) → LiesIn x ys → LiesIn x (xs ++ ys)
lies_right x [] ys l = l
lies_right x (z ∷ xs) ys l = inr (lies_right x xs ys l)

pub owned_tree_in : (k : Kind) (h : Holding) (x : Placed) → is_owned k ≡ true → h ≡ Tree x → LiesIn x (owned_tree k h)
owned_tree_in Gone h x o e = absurd (true≢false (sym o))
owned_tree_in (Scalar t) h x o e = absurd (true≢false (sym o))
owned_tree_in (Owned t cs) h x o e = subst (λ h. LiesIn x (held_tree h)) (sym e) (inl (λ q. omega arith))
owned_tree_in (Lent t cs root from) h x o e = absurd (true≢false (sym o))
owned_tree_in (Credit n) h x o e = absurd (true≢false (sym o))

owned_from : (ks : List Kind) (ws : ℕ → ℕ) (hs : ℕ → Holding) (i n r : ℕ) (x : Placed) → i ≤ r → r < i + n → is_owned (at ks r) ≡ true → hs r ≡ Tree x → LiesIn x (owned_trees (map (slot_of ks ws hs) (numbers i n)))
owned_from ks ws hs i zero r x low high o e = absurd (omega arith)
owned_from ks ws hs i (suc n) r x low high o e = elim (split i r low) as (λ v. LiesIn x (owned_tree (at ks i) (hs i) ++ owned_trees (map (slot_of ks ws hs) (numbers (suc i) n)))) [
  | inl same ↦ lies_left x (owned_tree (at ks i) (hs i)) _ (subst (λ r. LiesIn x (owned_tree (at ks r) (hs r))) (sym same) (owned_tree_in (at ks r) (hs r) x o e))
  | inr more ↦ lies_right x (owned_tree (at ks i) (hs i)) _ (owned_from ks ws hs (suc i) n r x (omega arith) (omega arith) o e)
]
  where
    split : (i r : ℕ) → i ≤ r → (i ≡ r) ⊎ (i < r)
    split i r low = grind arith

pub lies_owned : (ks : List Kind) (ws : ℕ → ℕ) (hs : ℕ → Holding) (r : ℕ) (x : Placed) → r < length ks → is_owned (at ks r) ≡ true → hs r ≡ Tree x → LiesIn x (owned_trees (slots_of ks ws hs))
lies_owned ks ws hs r x h o e = owned_from ks ws hs 0 (length ks) r x (omega arith) (omega arith) o e

-- ---- other cells change

-- how often the frames that wait and the borrowed arguments use a cell
abbrev pub lower_uses : ℕ → List Frozen → List Placed → ℕ
lower_uses q gs lent = frames_uses q (map frozen_slots gs) + trees_uses q lent

waiting_agree : (c : PlainCode) (s u : Store) (lent : List Placed) (gs : List Frozen) (above : ℕ) (w : Frame) (g : Frozen) → SameAt s u (λ q. lower_uses q (g ∷ gs) lent) → IsWaiting c s (lower_trees gs lent) above w g → IsWaiting c u (lower_trees gs lent) above w g
waiting_agree c s u lent gs above w g same i = record {
  function = i.function;
  is = i.is;
  before = i.before;
  known = i.known;
  callee = i.callee;
  sources = i.sources;
  destinations = i.destinations;
  instr = i.instr;
  asked = i.asked;
  left = i.left;
  results = i.results;
  wide = i.wide;
  words = i.words;
  long = i.long;
  meant = agree c.types s u (lower_trees gs lent) (at g.kinds) (word_at g.words) g.holds (length g.kinds) (at_past g.kinds) (λ q some. same q (let a = slots_owned q g.kinds (word_at g.words) g.holds in let b = below_uses q (map frozen_slots gs) lent in omega arith)) i.meant;
}

pub all_agree : (c : PlainCode) (s u : Store) (lent : List Placed) (types : List ℕ) (above : ℕ) (ws : List Frame) (gs : List Frozen) → SameAt s u (λ q. lower_uses q gs lent) → AreAllWaiting c s lent types above ws gs → AreAllWaiting c u lent types above ws gs
all_agree c s u lent types above [] [] same a = a
all_agree c s u lent types above [] (g ∷ gs) same a = absurd a
all_agree c s u lent types above (w ∷ ws) [] same a = absurd a
all_agree c s u lent types above (w ∷ ws) (g ∷ gs) same a = (waiting_agree c s u lent gs above w g same a.0, all_agree c s u lent types w.function ws gs (λ q some. same q (omega arith)) a.1)

pub trees_agree : (tb : Table) (s u : Store) (ts : List Typed) (xs : List Placed) → SameAt s u (λ q. trees_uses q xs) → AreTrees tb s ts xs → AreTrees tb u ts xs
trees_agree tb s u [] [] same a = tt
trees_agree tb s u [] (x ∷ xs) same a = absurd a
trees_agree tb s u (t ∷ ts) [] same a = absurd a
trees_agree tb s u (t ∷ ts) (x ∷ xs) same a = (tree_agree tb s u t.type t.word x (λ q some. same q (omega arith)) a.0, trees_agree tb s u ts xs (λ q some. same q (omega arith)) a.1)

waiting_above : (c : PlainCode) (s : Store) (below : List Placed) (a b : ℕ) (w : Frame) (g : Frozen) → results c a ≡ results c b → IsWaiting c s below a w g → IsWaiting c s below b w g
waiting_above c s below a b w g e i = record {
  function = i.function;
  is = i.is;
  before = i.before;
  known = i.known;
  callee = i.callee;
  sources = i.sources;
  destinations = i.destinations;
  instr = i.instr;
  asked = i.asked;
  left = i.left;
  results = i.results ∙ e;
  wide = i.wide;
  words = i.words;
  long = i.long;
  meant = i.meant;
}

-- under another function with the same results
pub all_above : (c : PlainCode) (s : Store) (lent : List Placed) (types : List ℕ) (a b : ℕ) (ws : List Frame) (gs : List Frozen) → results c a ≡ results c b → AreAllWaiting c s lent types a ws gs → AreAllWaiting c s lent types b ws gs
all_above c s lent types a b [] [] e h = sym e ∙ h
all_above c s lent types a b [] (g ∷ gs) e h = absurd h
all_above c s lent types a b (w ∷ ws) [] e h = absurd h
all_above c s lent types a b (w ∷ ws) (g ∷ gs) e h = (waiting_above c s (lower_trees gs lent) a b w g e h.0, h.1)
