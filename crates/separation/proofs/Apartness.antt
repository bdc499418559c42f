-- A state that is alive has its cells apart; so have the words that the entry gives.
use Rattle.std.proofs.Common.{◌≡◌, inl, ℕ, zero, suc, ◌+◌, ◌<◌, true, List, [], ◌∷◌, length, map, Option, Some, None, slice_get, refl, sym, ap, ◌∙◌, subst, true≢false, arith}
use Rattle.std.proofs.lemmas.Option.{none-some}
use Rattle.separation_kinds.specs.fip_language.Every.{Every}
use Rattle.separation_kinds.specs.fip_language.Table.{Table}
use Rattle.separation_kinds.specs.fip_language.Store.{Cell, Placed, PlacedInt, Bare, At, Parts, NoParts, MoreParts, word_of, words_of, uses, uses_of_all}
use Rattle.separation_kinds.specs.cell_code.declared.kind.From.{From}
use Rattle.separation_kinds.specs.cell_code.declared.kind.Kind.{Kind}
use Rattle.separation_kinds.specs.cell_code.declared.kind.Kind.TheVariants.{Gone, Scalar, Owned, Lent, Credit}
use Rattle.separation_kinds.specs.cell_code.Plain.{PlainCode, results}
use Rattle.separation_kinds.specs.machine_semantics.Cells.{Store}
use Rattle.separation_kinds.specs.machine_semantics.Trees.{IsTree, StandAll}
use Rattle.separation_kinds.specs.machine_semantics.Rows.{named}
use Rattle.separation_kinds.specs.machine_semantics.States.{Frame, State}
use Rattle.separation_kinds.specs.machine_semantics.Steps.{Kinds}
use Rattle.separation_kinds.specs.machine_semantics.Apart.{Holding, Tree, Slot, RootIn, HoldsTree, HoldsSpare, Fits, LiesWithin, LiesIn, slot_trees, IsRooted, IsFrom, IsLentTree, IsLentRight, IsFrame, AreFrames, AreWaiting, AreTrees, trees_uses, held_tree, owned_tree, Apart, typed, GivesApart}
use Rattle.separation_kinds.specs.code_rules.Types.{numbers}
use Rattle.separation_kinds.specs.code_rules.Kinds.{at, is_owned}
use Rattle.separation_kinds.specs.Meanings.{part_of, Roots, Rooted, Framed, Means, AreMeant, word_at, slot_of, slots_of}
use Rattle.separation_kinds.proofs.Basics.{get_map, get_number}
use Rattle.separation_kinds.proofs.KindLemmas.{owned_within, not_gone_within, roots_gone}
use Rattle.separation_kinds.proofs.Reaching.{same_tree}
use Rattle.separation.proofs.Reading.{named_is, get_words, stand_length}
use Rattle.separation.specs.Codes.{AreKinds}
use Rattle.separation.specs.Alive.{Frozen, frozen_slots, lower_trees, AreAllWaiting, IsAlive, IsGiven}
use Rattle.separation.proofs.Lower.{slots_owned}
use Rattle.separation.proofs.Returning.{run_instr_at}
use Rattle.separation_kinds.proofs.machine_semantics.cell_code.fip_base.fip_language.Facts.{map_map}

-- ---- registers as a list

numbers_shift : {A : Type 0} (f : ℕ → A) (i n : ℕ) → map f (numbers (suc i) n) ≡ map (λ r. f (suc r)) (numbers i n)
numbers_shift f i zero = refl
numbers_shift f i (suc n) = ap (λ xs. f (suc i) ∷ xs) (numbers_shift f (suc i) n)

all_kinds : (ks : List Kind) → map (at ks) (numbers 0 (length ks)) ≡ ks
all_kinds [] = refl
all_kinds (k ∷ ks) = ap (λ xs. k ∷ xs) (numbers_shift (at (k ∷ ks)) 0 (length ks) ∙ all_kinds ks)

all_words : (ws : List ℕ) → map (word_at ws) (numbers 0 (length ws)) ≡ ws
all_words [] = refl
all_words (w ∷ ws) = ap (λ xs. w ∷ xs) (numbers_shift (word_at (w ∷ ws)) 0 (length ws) ∙ all_words ws)

every_number : {A : Type 0} (P : A → Type 0) (f : ℕ → A) (i n : ℕ) → ((r : ℕ) → P (f r)) → Every P (map f (numbers i n))
every_number P f i zero h = tt
every_number P f i (suc n) h = (h i, every_number P f (suc i) n h)

get_slot : (ks : List Kind) (ws : ℕ → ℕ) (hs : ℕ → Holding) (r : ℕ) → r < length ks → slice_get (slots_of ks ws hs) r ≡ Some (slot_of ks ws hs r)
get_slot ks ws hs r h = get_map (slot_of ks ws hs) (numbers 0 (length ks)) r (0 + r) (get_number 0 (length ks) r h) ∙ (let e : 0 + r ≡ r = omega arith in ap (λ r. Some (slot_of ks ws hs r)) e)

-- ---- one register

fits_is : (tb : Table) (s : Store) (b : List Placed) (ks : ℕ → Kind) (hs : ℕ → Holding) (k : Kind) (w : ℕ) (h : Holding) → Means tb s b ks hs k w h → Fits tb s k w h
fits_is tb s b ks hs Gone w h m = tt
fits_is tb s b ks hs (Scalar t) w h m = subst (HoldsTree tb s t w) (sym m.holds) m.is
fits_is tb s b ks hs (Owned t cs) w h m = (subst (HoldsTree tb s t w) (sym m.holds) m.is, subst (RootIn cs) (sym m.holds) m.top)
fits_is tb s b ks hs (Lent t cs root from) w h m = (subst (HoldsTree tb s t w) (sym m.holds) m.is, subst (RootIn cs) (sym m.holds) m.top)
fits_is tb s b ks hs (Credit n) w h m = subst (HoldsSpare s n w) (sym m.holds) (m.word, m.cell, m.there, m.size)

lies_under : (x y : Placed) (k : Kind) (h : Holding) → LiesWithin x y → is_owned k ≡ true → h ≡ Tree y → LiesIn x (owned_tree k h)
lies_under x y Gone h w o e = absurd (true≢false (sym o))
lies_under x y (Scalar t) h w o e = absurd (true≢false (sym o))
lies_under x y (Owned t cs) h w o e = subst (λ h. LiesIn x (held_tree h)) (sym e) (inl w)
lies_under x y (Lent t cs root from) h w o e = absurd (true≢false (sym o))
lies_under x y (Credit n) h w o e = absurd (true≢false (sym o))

rooted_is : (ks : List Kind) (ws : ℕ → ℕ) (hs : ℕ → Holding) (b : List Placed) (root : Option ℕ) (x : Placed) → Rooted b (at ks) hs root x → IsRooted (slots_of ks ws hs) b root x
rooted_is ks ws hs b None x r = r
rooted_is ks ws hs b (Some o) x r = subst (λ z. LiesIn x (slot_trees z)) (sym (get_slot ks ws hs o (owned_within ks o r.owned))) (lies_under x r.tree (at ks o) (hs o) r.within r.owned r.holds)

-- the word of a part is in the cell of a tree
record HasPartWord (s : Store) (w i v : ℕ) : Type 0 where
  cell : Cell
  named_is : named s w ≡ Some cell
  word : slice_get cell.fields i ≡ Some v

part_word : (tb : Table) (s : Store) (t w i : ℕ) (y x : Placed) → IsTree tb s t w y → part_of y i ≡ Some x → HasPartWord s w i (word_of x)
part_word tb s t w i (PlacedInt n) x g e = absurd (none-some x e)
part_word tb s t w i (Bare c) x g e = absurd (none-some x e)
part_word tb s zero w i (At p c xs) x g e = absurd g.stands
part_word tb s (suc t) w i (At p c xs) x g e = record { cell = record { tag = c; fields = words_of xs }; named_is = named_is s p w g.word ∙ g.stands.0; word = get_words xs i x e }

-- a register that owns a tree or borrows one has it
held_is : (tb : Table) (s : Store) (b : List Placed) (ks : ℕ → Kind) (hs : ℕ → Holding) (r : ℕ) (root : Option ℕ) (k : Kind) (w : ℕ) (h : Holding) (y : Placed) → Roots r k root → h ≡ Tree y → Means tb s b ks hs k w h → (t : ℕ) × IsTree tb s t w y
held_is tb s b ks hs r root Gone w h y o e m = absurd o
held_is tb s b ks hs r root (Scalar t) w h y o e m = absurd o
held_is tb s b ks hs r root (Owned t cs) w h y o e m = (t, subst (IsTree tb s t w) (same_tree m.tree y (sym m.holds ∙ e)) m.is)
held_is tb s b ks hs r root (Lent t cs u from) w h y o e m = (t, subst (IsTree tb s t w) (same_tree m.tree y (sym m.holds ∙ e)) m.is)
held_is tb s b ks hs r root (Credit n) w h y o e m = absurd o

from_is : (tb : Table) (s : Store) (b : List Placed) (ks : List Kind) (ws : ℕ → ℕ) (hs : ℕ → Holding) (root : Option ℕ) (from : Option From) (w : ℕ) (x : Placed) → AreMeant tb s b (at ks) ws hs → word_of x ≡ w → Framed (at ks) hs root from x → IsFrom s (slots_of ks ws hs) from w
from_is tb s b ks ws hs root None w x m e f = tt
from_is tb s b ks ws hs root (Some from) w x m e f =
    let r : ℕ = from.register in
    let within = not_gone_within ks r (λ gone. roots_gone r (at ks r) root gone f.roots) in
    let h = held_is tb s b (at ks) hs r root (at ks r) (ws r) (hs r) f.tree f.roots f.holds (m.each r) in
    let p = part_word tb s h.0 (ws r) from.field f.tree x h.1 f.part in
    (slot_of ks ws hs r, get_slot ks ws hs r within, p.cell, p.named_is, p.word ∙ ap Some e)

lent_is : (tb : Table) (s : Store) (b : List Placed) (ks : List Kind) (ws : ℕ → ℕ) (hs : ℕ → Holding) (k : Kind) (w : ℕ) (h : Holding) → AreMeant tb s b (at ks) ws hs → Means tb s b (at ks) hs k w h → IsLentRight s (slots_of ks ws hs) b k w h
lent_is tb s b ks ws hs Gone w h all m = tt
lent_is tb s b ks ws hs (Scalar t) w h all m = tt
lent_is tb s b ks ws hs (Owned t cs) w h all m = tt
lent_is tb s b ks ws hs (Lent t cs root from) w h all m = subst (IsLentTree s (slots_of ks ws hs) b root from w) (sym m.holds) (rooted_is ks ws hs b root m.tree m.rooted, from_is tb s b ks ws hs root from w m.tree all m.is.word m.framed)
lent_is tb s b ks ws hs (Credit n) w h all m = tt

-- ---- frames

frame_is : (tb : Table) (s : Store) (b : List Placed) (ks ls : List Kind) (f : Frame) (ws : List ℕ) (hs : ℕ → Holding) → ks ≡ ls → f.words ≡ ws → length ws ≡ length ls → AreMeant tb s b (at ls) (word_at ws) hs → IsFrame tb s ks b f (slots_of ls (word_at ws) hs)
frame_is tb s b ks ls f ws hs same words long m = record {
  kinds = map_map (λ (x : Slot). x.kind) (slot_of ls (word_at ws) hs) (numbers 0 (length ls)) ∙ all_kinds ls ∙ sym same;
  words = map_map (λ (x : Slot). x.word) (slot_of ls (word_at ws) hs) (numbers 0 (length ls)) ∙ ap (λ n. map (word_at ws) (numbers 0 n)) (sym long) ∙ all_words ws ∙ sym words;
  fits = every_number (λ (x : Slot). Fits tb s x.kind x.word x.holds) (slot_of ls (word_at ws) hs) 0 (length ls) (λ r. fits_is tb s b (at ls) hs (at ls r) (word_at ws r) (hs r) (m.each r));
  lent = every_number (λ (x : Slot). IsLentRight s (slots_of ls (word_at ws) hs) b x.kind x.word x.holds) (slot_of ls (word_at ws) hs) 0 (length ls) (λ r. lent_is tb s b ls (word_at ws) hs (at ls r) (word_at ws r) (hs r) m (m.each r));
}

frames_are : (c : PlainCode) (before waits : Kinds) (s : Store) (lent : List Placed) (types : List ℕ) (above : ℕ) (ws : List Frame) (gs : List Frozen) → AreKinds c before waits → AreAllWaiting c s lent types above ws gs → AreFrames c.types s waits lent ws (map frozen_slots gs)
frames_are c before waits s lent types above [] [] k a = tt
frames_are c before waits s lent types above [] (g ∷ gs) k a = absurd a
frames_are c before waits s lent types above (w ∷ ws) [] k a = absurd a
frames_are c before waits s lent types above (w ∷ ws) (g ∷ gs) k a =
    let i = a.0 in (
      frame_is c.types s (lower_trees gs lent) (waits w.function w.at) g.kinds w g.words g.holds (k.wait w.function w.at i.function i.before i.callee i.sources i.destinations g.kinds i.is i.known i.instr i.left) i.words i.long i.meant,
      frames_are c before waits s lent types w.function ws gs k a.1,
    )

waiting_are : (c : PlainCode) (s : Store) (lent : List Placed) (types : List ℕ) (above : ℕ) (ws : List Frame) (gs : List Frozen) → AreAllWaiting c s lent types above ws gs → AreWaiting c above ws
waiting_are c s lent types above [] gs a = tt
waiting_are c s lent types above (w ∷ ws) [] a = absurd a
waiting_are c s lent types above (w ∷ ws) (g ∷ gs) a =
    let i = a.0 in
    (i.callee, i.sources, i.destinations, run_instr_at c w.function w.at i.function _ i.is i.instr, i.results, waiting_are c s lent types w.function ws gs a.1)

pub alive_apart : (c : PlainCode) (before waits : Kinds) (types kept : List ℕ) (s : State) → AreKinds c before waits → IsAlive c types kept s → Apart before waits c kept s
alive_apart c before waits types kept s k a = record {
  store = a.store;
  slots = slots_of a.kinds (word_at s.running.words) a.holds;
  below = map frozen_slots a.frozen;
  lent = a.lent;
  running = frame_is c.types s.store (lower_trees a.frozen a.lent) (before s.running.function s.running.at) a.kinds s.running s.running.words a.holds (k.known s.running.function s.running.at a.function a.kinds a.is a.known) refl a.long a.meant;
  waiting = frames_are c before waits s.store a.lent types s.running.function s.waiting a.frozen k a.waiting;
  calls = waiting_are c s.store a.lent types s.running.function s.waiting a.frozen a.waiting;
  arguments = a.arguments;
  once = λ q. let e = slots_owned q a.kinds (word_at s.running.words) a.holds in let o = a.once q in omega arith;
}

-- ---- what the entry gives

abbrev tree_list : Parts → List Placed
tree_list NoParts = []
tree_list (MoreParts x xs) = x ∷ tree_list xs

trees_are : (tb : Table) (s : Store) (ts : List ℕ) (xs : Parts) → StandAll tb s ts xs → AreTrees tb s (typed ts (words_of xs)) (tree_list xs)
trees_are tb s [] NoParts g = tt
trees_are tb s [] (MoreParts x xs) g = absurd g
trees_are tb s (t ∷ ts) NoParts g = absurd g
trees_are tb s (t ∷ ts) (MoreParts x xs) g = (record { word = refl; stands = g.0 }, trees_are tb s ts xs g.1)

list_uses : (q : ℕ) (xs : Parts) → trees_uses q (tree_list xs) ≡ uses_of_all q xs
list_uses q NoParts = refl
list_uses q (MoreParts x xs) = ap (λ n. uses q x + n) (list_uses q xs)

pub given_apart : (c : PlainCode) (n : ℕ) (kept : List ℕ) (s : State) (ws : List ℕ) → IsGiven c (results c n) kept s ws → GivesApart c n kept s ws
given_apart c n kept s ws g = record {
  number = ap length g.words ∙ stand_length c.types s.store (results c n) g.results g.stand;
  results = tree_list g.results;
  lent = g.lent;
  stand = subst (λ vs. AreTrees c.types s.store (typed (results c n) vs) (tree_list g.results)) (sym g.words) (trees_are c.types s.store (results c n) g.results g.stand);
  arguments = g.arguments;
  once = λ q. let e = list_uses q g.results in let o = g.once q in omega arith;
}
