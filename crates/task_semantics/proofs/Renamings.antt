-- Trees and their words under a renaming of places: a renamed tree has the renamed cells, and is where these have
-- its words.
use Rattle.std.proofs.Common.{◌≡◌, ◌≢◌, ◌⊎◌, inl, inr, ℕ, zero, suc, ◌+◌, ◌*◌, ◌/◌, ◌<◌, List, [], ◌∷◌, ◌++◌, map, Option, Some, None, refl, sym, ap, ap₂, ◌∙◌, subst, arith}
use Rattle.std.proofs.lemmas.Option.{none-some, same_Some}
use Rattle.run_loading.specs.fip_language.Table.{Table}
use Rattle.run_loading.specs.fip_language.Store.{Cell, Placed, PlacedInt, Bare, At, Parts, NoParts, MoreParts, word_of, words_of, places, places_of_all, uses, uses_of_all, one_at}
use Rattle.run_loading.specs.machine_semantics.Words.{is_place, place_word}
use Rattle.run_loading.specs.machine_semantics.Cells.{Store, cell_at}
use Rattle.run_loading.specs.machine_semantics.Trees.{Stands, StandAll}
use Rattle.run_loading.specs.machine_semantics.Apart.{Holding}
use Rattle.run_loading.specs.separation_kinds.Meanings.{part_in, IsPlain}
use Rattle.run_loading.proofs.separation_kinds.Basics.{chosen}
use Rattle.run_loading.proofs.separation_kinds.Agree.{one_here, one_apart, tree_agree}
use Rattle.run_loading.proofs.separation.Stores.{same_place}
use Rattle.run_loading.proofs.separation.Reading.{odd_place, odd_half, constructor_in}
use Rattle.task_semantics.specs.Projected.{Renaming, renamed_word, renamed, renamed_parts, IsThere, IsLikeWord, AreLikeWords, IsRenamedTree}

-- ---- words

pub place_renamed : (f : Renaming) (p w : ℕ) → place_word p ≡ w → place_word (f p) ≡ renamed_word f w
place_renamed f p w e = sym (ap (renamed_word f) (sym e) ∙ chosen (is_place (2 * p + 1)) (place_word (f ((2 * p + 1) / 2))) (2 * p + 1) (odd_place p) ∙ ap (λ n. place_word (f n)) (odd_half p))

-- the word of a renamed tree
pub like_of_tree : (f : Renaming) (x : Placed) (w v : ℕ) → word_of x ≡ w → word_of (renamed f x) ≡ v → IsLikeWord f w v
like_of_tree f (PlacedInt i) w v a b = inl (sym b ∙ a)
like_of_tree f (Bare c) w v a b = inl (sym b ∙ a)
like_of_tree f (At p c xs) w v a b = inr (sym b ∙ place_renamed f p w a)

pub like_of_parts : (f : Renaming) (xs : Parts) → AreLikeWords f (words_of xs) (words_of (renamed_parts f xs))
like_of_parts f NoParts = tt
like_of_parts f (MoreParts x xs) = (like_of_tree f x (word_of x) (word_of (renamed f x)) refl refl, like_of_parts f xs)

-- ---- cells

pub some_there : (c : Cell) (o : Option Cell) → o ≡ Some c → o ≢ None
some_there c o h k = none-some c (sym k ∙ h)

some_of_two : (a b : ℕ) → 0 < a + b → (0 < a) ⊎ (0 < b)
some_of_two zero b h = inr (omega arith)
some_of_two (suc a) b h = inl (omega arith)

mutual
  pub stands_there : (tb : Table) (s : Store) (t : ℕ) (x : Placed) (q : ℕ) → Stands tb s t x → 0 < uses q x → IsThere s q
  stands_there tb s zero (PlacedInt i) q g some = absurd (let z : ⊥ = omega arith in z)
  stands_there tb s zero (Bare c) q g some = absurd g
  stands_there tb s zero (At p c xs) q g some = absurd g
  stands_there tb s (suc t) (PlacedInt i) q g some = absurd g
  stands_there tb s (suc t) (Bare c) q g some = absurd (let z : ⊥ = omega arith in z)
  stands_there tb s (suc t) (At p c xs) q g some = elim (same_place q p) as (λ v. IsThere s q) [
    | inl e ↦ subst (IsThere s) (sym e) (some_there (record { tag = c; fields = words_of xs }) (cell_at s p) g.0)
    | inr off ↦
        let away : one_at q p ≡ 0 = one_apart q p off in
        stand_all_there tb s g.2.fields xs q g.4 (omega arith)
  ]

  pub stand_all_there : (tb : Table) (s : Store) (ts : List ℕ) (xs : Parts) (q : ℕ) → StandAll tb s ts xs → 0 < uses_of_all q xs → IsThere s q
  stand_all_there tb s [] NoParts q g some = absurd (let z : ⊥ = omega arith in z)
  stand_all_there tb s [] (MoreParts x xs) q g some = absurd g
  stand_all_there tb s (t ∷ ts) NoParts q g some = absurd g
  stand_all_there tb s (t ∷ ts) (MoreParts x xs) q g some = elim (some_of_two (uses q x) (uses_of_all q xs) some) as (λ v. IsThere s q) [
    | inl here ↦ stands_there tb s t x q g.0 here
    | inr rest ↦ stand_all_there tb s ts xs q g.1 rest
  ]

mutual
  pub renamed_uses : (f : Renaming) (x : Placed) (q : ℕ) → 0 < uses q (renamed f x) → (p : ℕ) × (f p ≡ q) × (0 < uses p x)
  renamed_uses f (PlacedInt i) q some = absurd (let z : ⊥ = omega arith in z)
  renamed_uses f (Bare c) q some = absurd (let z : ⊥ = omega arith in z)
  renamed_uses f (At p c xs) q some = elim (same_place q (f p)) as (λ v. (r : ℕ) × (f r ≡ q) × (0 < uses r (At p c xs))) [
    | inl e ↦
        let here : one_at p p ≡ 1 = one_here p p refl in
        let z : 0 < one_at p p + uses_of_all p xs = omega arith in
        (p, sym e, z)
    | inr off ↦
        let away : one_at q (f p) ≡ 0 = one_apart q (f p) off in
        let r = renamed_all_uses f xs q (omega arith) in
        let more = r.2 in
        let z : 0 < one_at r.0 p + uses_of_all r.0 xs = omega arith in
        (r.0, r.1, z)
  ]

  pub renamed_all_uses : (f : Renaming) (xs : Parts) (q : ℕ) → 0 < uses_of_all q (renamed_parts f xs) → (p : ℕ) × (f p ≡ q) × (0 < uses_of_all p xs)
  renamed_all_uses f NoParts q some = absurd (let z : ⊥ = omega arith in z)
  renamed_all_uses f (MoreParts x xs) q some = elim (some_of_two (uses q (renamed f x)) (uses_of_all q (renamed_parts f xs)) some) as (λ v. (r : ℕ) × (f r ≡ q) × (0 < uses r x + uses_of_all r xs)) [
    | inl here ↦ let r = renamed_uses f x q here in let more = r.2 in let z : 0 < uses r.0 x + uses_of_all r.0 xs = omega arith in (r.0, r.1, z)
    | inr rest ↦ let r = renamed_all_uses f xs q rest in let more = r.2 in let z : 0 < uses r.0 x + uses_of_all r.0 xs = omega arith in (r.0, r.1, z)
  ]

-- ---- what is there

-- a renamed tree has the types that the tree has
mutual
  pub restands : (tb : Table) (f : Renaming) (own shared : Store) (t u : ℕ) (x : Placed) → Stands tb own t x → Stands tb shared u (renamed f x) → Stands tb shared t (renamed f x)
  restands tb f own shared zero u (PlacedInt i) g h = g
  restands tb f own shared zero u (Bare c) g h = absurd g
  restands tb f own shared zero u (At p c xs) g h = absurd g
  restands tb f own shared (suc t) u (PlacedInt i) g h = absurd g
  restands tb f own shared (suc t) u (Bare c) g h = g
  restands tb f own shared (suc t) zero (At p c xs) g h = absurd h
  restands tb f own shared (suc t) (suc u) (At p c xs) g h = (h.0, h.1, g.2, g.3, restand_all tb f own shared g.2.fields h.2.fields xs g.4 h.4)

  restand_all : (tb : Table) (f : Renaming) (own shared : Store) (ts us : List ℕ) (xs : Parts) → StandAll tb own ts xs → StandAll tb shared us (renamed_parts f xs) → StandAll tb shared ts (renamed_parts f xs)
  restand_all tb f own shared [] us NoParts g h = tt
  restand_all tb f own shared [] us (MoreParts x xs) g h = absurd g
  restand_all tb f own shared (t ∷ ts) us NoParts g h = absurd g
  restand_all tb f own shared (t ∷ ts) [] (MoreParts x xs) g h = absurd h
  restand_all tb f own shared (t ∷ ts) (u ∷ us) (MoreParts x xs) g h = (restands tb f own shared t u x g.0 h.0, restand_all tb f own shared ts us xs g.1 h.1)

-- ---- trees without cells

no_cell : {A : Type 0} (p c : ℕ) (xs : Parts) → ((q : ℕ) → uses q (At p c xs) ≡ 0) → A
no_cell p c xs none = let one : one_at p p ≡ 1 = one_here p p refl in let z = none p in absurd (let y : ⊥ = omega arith in y)

pub bare_word : (f : Renaming) (x : Placed) → ((q : ℕ) → uses q x ≡ 0) → word_of (renamed f x) ≡ word_of x
bare_word f (PlacedInt i) none = refl
bare_word f (Bare c) none = refl
bare_word f (At p c xs) none = no_cell p c xs none

pub bare_stands : (tb : Table) (f : Renaming) (own shared : Store) (t : ℕ) (x : Placed) → ((q : ℕ) → uses q x ≡ 0) → Stands tb own t x → Stands tb shared t (renamed f x)
bare_stands tb f own shared zero (PlacedInt i) none g = g
bare_stands tb f own shared zero (Bare c) none g = absurd g
bare_stands tb f own shared zero (At p c xs) none g = absurd g
bare_stands tb f own shared (suc t) (PlacedInt i) none g = absurd g
bare_stands tb f own shared (suc t) (Bare c) none g = g
bare_stands tb f own shared (suc t) (At p c xs) none g = no_cell p c xs none

pub plain_renamed : (tb : Table) (f : Renaming) (own shared : Store) (t w v : ℕ) (h : Holding) → IsPlain tb own t w h → v ≡ w → IsRenamedTree tb f own shared t w v
plain_renamed tb f own shared t w v h m e = record {
  tree = m.tree;
  alone = m.is;
  among = record { word = bare_word f m.tree m.bare ∙ m.is.word ∙ sym e; stands = bare_stands tb f own shared t m.tree m.bare m.is.stands };
}

-- ---- other cells change

pub tree_moves : (tb : Table) (f : Renaming) (own new shared other : Store) (t w v : ℕ) → (i : IsRenamedTree tb f own shared t w v) → ((q : ℕ) → 0 < uses q i.tree → cell_at new q ≡ cell_at own q) → ((q : ℕ) → 0 < uses q i.tree → cell_at other (f q) ≡ cell_at shared (f q)) → IsRenamedTree tb f new other t w v
tree_moves tb f own new shared other t w v i same also = record {
  tree = i.tree;
  alone = tree_agree tb own new t w i.tree same i.alone;
  among = tree_agree tb shared other t v (renamed f i.tree) (λ q some. let u = renamed_uses f i.tree q some in subst (λ q. cell_at other q ≡ cell_at shared q) u.1 (also u.0 u.2)) i.among;
}

-- ---- parts, constructors and places

pub part_renamed : (f : Renaming) (xs : Parts) (i : ℕ) (x : Placed) → part_in xs i ≡ Some x → part_in (renamed_parts f xs) i ≡ Some (renamed f x)
part_renamed f NoParts i x e = absurd (none-some x e)
part_renamed f (MoreParts y xs) zero x e = ap (λ y. Some (renamed f y)) (same_Some y x e)
part_renamed f (MoreParts y xs) (suc i) x e = part_renamed f xs i x e

pub constructor_renamed : (f : Renaming) (x : Placed) → constructor_in (renamed f x) ≡ constructor_in x
constructor_renamed f (PlacedInt i) = refl
constructor_renamed f (Bare c) = refl
constructor_renamed f (At p c xs) = refl

map_append : (f : ℕ → ℕ) (xs ys : List ℕ) → map f (xs ++ ys) ≡ map f xs ++ map f ys
map_append f [] ys = refl
map_append f (x ∷ xs) ys = ap (λ zs. f x ∷ zs) (map_append f xs ys)

mutual
  pub places_renamed : (f : Renaming) (x : Placed) → places (renamed f x) ≡ map f (places x)
  places_renamed f (PlacedInt i) = refl
  places_renamed f (Bare c) = refl
  places_renamed f (At p c xs) = ap (λ ps. f p ∷ ps) (all_places_renamed f xs)

  all_places_renamed : (f : Renaming) (xs : Parts) → places_of_all (renamed_parts f xs) ≡ map f (places_of_all xs)
  all_places_renamed f NoParts = refl
  all_places_renamed f (MoreParts x xs) = ap₂ (λ ps qs. ps ++ qs) (places_renamed f x) (all_places_renamed f xs) ∙ sym (map_append f (places x) (places_of_all xs))
