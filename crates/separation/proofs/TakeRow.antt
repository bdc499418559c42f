-- Take: the registers get the words of the parts, and the cell is a credit.
use Rattle.std.proofs.Common.{◌≡◌, ℕ, zero, suc, ◌+◌, ◌<◌, true, not, List, [], ◌∷◌, length, Option, Some, slice_get, refl, sym, ap, ◌∙◌, subst, true≢false, arith, nat_lt, ◌==◌}
use Rattle.std.specs.Prelude.{option_and_then}
use Rattle.std.proofs.lemmas.Option.{none-some, same_Some}
use Rattle.separation_kinds.specs.fip_language.Table.{Table}
use Rattle.separation_kinds.specs.fip_language.Store.{Cell, Placed, PlacedInt, Bare, At, Parts, NoParts, MoreParts, words_of, uses, uses_of_all}
use Rattle.separation_kinds.specs.cell_code.declared.code.Instr.TheVariants as I
use Rattle.separation_kinds.specs.cell_code.declared.kind.Kind.{Kind}
use Rattle.separation_kinds.specs.cell_code.declared.kind.Kind.TheVariants.{Gone, Scalar, Owned, Lent, Credit}
use Rattle.separation_kinds.specs.machine_semantics.Words.{place_word}
use Rattle.separation_kinds.specs.machine_semantics.Cells.{Store, cell_at}
use Rattle.separation_kinds.specs.machine_semantics.Trees.{HasPart, IsTree, StandAll}
use Rattle.separation_kinds.specs.machine_semantics.States.{State}
use Rattle.separation_kinds.specs.machine_semantics.Rows as R
use Rattle.separation_kinds.specs.machine_semantics.Apart.{Holding, Nothing, Tree, Spare, RootIn, holding_uses, owned_uses}
use Rattle.separation_kinds.specs.cell_code.Plain.{PlainFunction, PlainCode}
use Rattle.separation_kinds.specs.code_rules.Types.{fields, fields_of}
use Rattle.separation_kinds.specs.code_rules.Kinds.{has, at, is_owned}
use Rattle.separation_kinds.specs.code_rules.Ranges.{are_below}
use Rattle.separation_kinds.specs.code_rules.Asked.{can_take, is_one, known_fields, only_fields, are_places}
use Rattle.separation_kinds.specs.code_rules.Taking.{part, is_heir, credit, taken, IsTaken}
use Rattle.separation_kinds.specs.Meanings.{part_in, part_of, Means, word_at}
use Rattle.separation_kinds.proofs.Basics.{both, equal, below, refuted, length_become}
use Rattle.separation_kinds.proofs.Shapes.{contains_one}
use Rattle.separation_kinds.proofs.Words.{word_get}
use Rattle.separation_kinds.proofs.Receiving.{reword}
use Rattle.separation_kinds.proofs.Passing.{MeansAnywhere}
use Rattle.separation_kinds.proofs.Takes.{word_or, Plain, AreWritten, parts_written}
use Rattle.separation_kinds.proofs.Taken.{Takes, held_after, words_after, taken_meant, count_taken, plain_places}
use Rattle.separation.specs.Rows.{IsReady, IsDone}
use Rattle.separation.proofs.Reading.{named_is, constructor_in, root_of_set, stand_length}
use Rattle.separation.proofs.Reached.{reached}
use Rattle.separation.proofs.PlainRows.{goes_on, unchanged}
use Rattle.separation_kinds.proofs.machine_semantics.cell_code.fip_base.fip_language.Facts.{empty_of_length as no_words}

-- what the register of the tree holds afterwards
abbrev pub spare_of : Placed → Holding
spare_of (PlacedInt i) = Nothing
spare_of (Bare c) = Nothing
spare_of (At p c xs) = Spare p

-- a tree that is taken apart: its parts, which are in its cell where there is one
pub record ComesApart (tb : Table) (s : Store) (w : ℕ) (y : Placed) (ts : List ℕ) : Type 0 where
  pub parts : Parts
  pub part : (i : ℕ) → part_of y i ≡ part_in parts i
  pub stand : StandAll tb s ts parts
  pub spare : (below : List Placed) → MeansAnywhere tb s below (credit (length ts)) w (spare_of y)
  pub split : (q : ℕ) → uses q y ≡ owned_uses q (credit (length ts)) (spare_of y) + uses_of_all q parts
  pub fields : 0 < length ts → (c : Cell) × (R.named s w ≡ Some c) × (c.fields ≡ words_of parts)

bare_apart : (tb : Table) (s : Store) (w c : ℕ) → ComesApart tb s w (Bare c) []
bare_apart tb s w c = record {
  parts = NoParts;
  part = λ i. refl;
  stand = tt;
  spare = λ below ls gs. tt;
  split = λ q. omega arith;
  fields = λ some. absurd (let z : ⊥ = omega arith in z);
}

cell_apart : (tb : Table) (s : Store) (w p c : ℕ) (xs : Parts) (ts : List ℕ) → place_word p ≡ w → HasPart xs → cell_at s p ≡ Some (record { tag = c; fields = words_of xs }) → StandAll tb s ts xs → ComesApart tb s w (At p c xs) ts
cell_apart tb s w p c NoParts ts e has at g = absurd has
cell_apart tb s w p c (MoreParts x xs) [] e has at g = absurd g
cell_apart tb s w p c (MoreParts x xs) (t ∷ ts) e has at g = record {
  parts = MoreParts x xs;
  part = λ i. refl;
  stand = g;
  spare = λ below ls gs. record { place = p; holds = refl; word = e; cell = record { tag = c; fields = words_of (MoreParts x xs) }; there = at; size = stand_length tb s (t ∷ ts) (MoreParts x xs) g };
  split = λ q. refl;
  fields = λ some. (record { tag = c; fields = words_of (MoreParts x xs) }, named_is s p w e ∙ at, refl);
}

comes_apart : (tb : Table) (s : Store) (t w c : ℕ) (y : Placed) → constructor_in y ≡ Some c → IsTree tb s t w y → ComesApart tb s w y (fields tb t c)
comes_apart tb s t w c (PlacedInt i) e g = absurd (none-some c e)
comes_apart tb s zero w c (Bare d) e g = absurd g.stands
comes_apart tb s (suc t) w c (Bare d) e g =
    subst (ComesApart tb s w (Bare d)) (sym (ap (λ c. fields tb (suc t) c) (sym (same_Some d c e)) ∙ ap fields_of g.stands.1 ∙ g.stands.2)) (bare_apart tb s w d)
comes_apart tb s zero w c (At p d xs) e g = absurd g.stands
comes_apart tb s (suc t) w c (At p d xs) e g =
    subst (ComesApart tb s w (At p d xs)) (sym (ap (λ c. fields tb (suc t) c) (sym (same_Some d c e)) ∙ ap fields_of g.stands.3)) (cell_apart tb s w p d xs g.stands.2.fields g.word g.stands.1 g.stands.0 g.stands.4)

-- a register that can be taken
record CanTake (tb : Table) (s : Store) (n w : ℕ) (k : Kind) (h : Holding) : Type 0 where
  owned : is_owned k ≡ true
  number : n ≡ length (known_fields tb k)
  tree : Placed
  holds : h ≡ Tree tree
  comes : ComesApart tb s w tree (known_fields tb k)
  uses : (q : ℕ) → owned_uses q k h ≡ uses q tree

one_set : (tb : Table) (s : Store) (t w n : ℕ) (cs : List ℕ) (y : Placed) (h : Holding) → h ≡ Tree y → is_one cs ≡ true → n ≡ length (only_fields tb t cs) → RootIn cs (Tree y) → IsTree tb s t w y → CanTake tb s n w (Owned t cs) h
one_set tb s t w n [] y h e o l r g = absurd (true≢false (sym o))
one_set tb s t w n (c ∷ d ∷ cs) y h e o l r g = absurd (true≢false (sym o))
one_set tb s t w n (c ∷ []) y h e o l r g =
    let z = root_of_set (c ∷ []) y r in
    let one : c ≡ z.0 = contains_one c z.0 z.2 in
    record { owned = refl; number = l; tree = y; holds = e; comes = comes_apart tb s t w c y (z.1 ∙ ap Some (sym one)) g; uses = λ q. ap (holding_uses q) e }

can_take_is : (tb : Table) (s : Store) (below : List Placed) (ks : ℕ → Kind) (hs : ℕ → Holding) (n : ℕ) (k : Kind) (w : ℕ) (h : Holding) → can_take tb n k ≡ true → Means tb s below ks hs k w h → CanTake tb s n w k h
can_take_is tb s below ks hs n Gone w h e m = absurd (true≢false (sym e))
can_take_is tb s below ks hs n (Scalar t) w h e m = absurd (true≢false (sym e))
can_take_is tb s below ks hs n (Lent t cs root from) w h e m = absurd (true≢false (sym e))
can_take_is tb s below ks hs n (Credit i) w h e m = absurd (true≢false (sym e))
can_take_is tb s below ks hs n (Owned t cs) w h e m =
    let p = both (is_one cs) (length (only_fields tb t cs) == n) e in
    one_set tb s t w n cs m.tree h m.holds p.0 (sym (equal (length (only_fields tb t cs)) n p.1)) m.top m.is

taken_is : (tb : Table) (st : Store) (s : State) (r : ℕ) (ds ts : List ℕ) (w : ℕ) (y : Placed) (ps : Parts) (new : ℕ → ℕ) → slice_get s.running.words r ≡ Some w → length ds ≡ length ts → StandAll tb st ts ps → (0 < length ts → (c : Cell) × (R.named s.store w ≡ Some c) × (c.fields ≡ words_of ps)) → (a : AreWritten s.running.words ds (words_of ps) new) → R.taken s r ds ≡ Some a.words
taken_is tb st s r [] ts w y ps new e l g f a =
    ap (λ vs. R.write_all s.running.words [] vs) (sym (no_words (words_of ps) (stand_length tb st ts ps g ∙ sym l))) ∙ a.is
taken_is tb st s r (d ∷ ds) ts w y ps new e l g f a =
    let c = f (let z : 0 < length ts = omega arith in z) in
    ap (λ o. option_and_then (λ (c : Cell). R.write_all s.running.words (d ∷ ds) c.fields) (option_and_then (λ w. R.named s.store w) o)) e
    ∙ ap (λ o. option_and_then (λ (c : Cell). R.write_all s.running.words (d ∷ ds) c.fields) o) c.1
    ∙ ap (R.write_all s.running.words (d ∷ ds)) c.2
    ∙ a.is

plain_words : (n m : ℕ) (h : ℕ → ℕ) (ds : List ℕ) → n ≡ m → Plain h n ds → Plain (λ q. 0) m ds
plain_words n m h [] e p = tt
plain_words n m h (d ∷ ds) e p = (refl, subst (λ n. d < n) e p.1, p.2, plain_words n m h ds e p.3)

pub take_row : (c : PlainCode) (f : PlainFunction) (b : List Placed) (ks : List Kind) (hs : ℕ → Holding) (s : State) (r : ℕ) (ds : List ℕ) → IsReady c f b ks hs s (I.Take r ds) → IsDone c f b ks hs s (I.Take r ds)
take_row c f b ks hs s r ds g =
    let a = both (nat_lt r f.registers) (are_below f.registers ds) g.ranged in
    let e = both (are_places ks ds) (not (has ds r)) g.destinations in
    let wide = g.wide in
    let long = g.long in
    let source = below r f.registers a.0 in
    let ws : List ℕ = s.running.words in
    let ts : List ℕ = known_fields c.types (at ks r) in
    let can = can_take_is c.types s.store b (at ks) hs (length ds) (at ks r) (word_at ws r) (hs r) g.sources (g.meant.each r) in
    let ps : Parts = can.comes.parts in
    let y : Placed = can.tree in
    let hr : Holding = spare_of y in
    let heirs = reached c.types s.store b ks (word_at ws) hs (is_heir c.types ks r (part ds ts)) g.meant in
    let to : ℕ → Option ℕ = λ q. (heirs q).0 in
    let left : List Kind = taken c.types ks r (part ds ts) (length ds) to in
    let is : IsTaken c.types ks r ds ts left = (to, λ q. (heirs q).1, refl) in
    let takes : Takes c.types s.store ks hs r ds ts left y ps = record {
      owner = can.owned;
      holds = can.holds;
      parts = can.comes.part;
      stand = can.comes.stand;
      number = can.number;
      places = e.0;
      off = refuted (has ds r) e.1;
      within = subst (λ n. are_below n ds ≡ true) (sym wide) a.1;
      taken = is;
    } in
    let written = parts_written c.types s.store 0 ws ds ts ps (λ j. word_or (part_of y j)) can.number
    (plain_words (length ks) (length ws) _ ds (sym long) (plain_places 0 ks hs r 0 ds e.0 (refuted (has ds r) e.1) takes.within)) can.comes.stand
    (λ j. let z : 0 + j ≡ j = omega arith in ap (λ j. word_or (part_of y j)) z ∙ ap word_or (can.comes.part j)) in
    let spare = subst (λ n. (below : List Placed) → MeansAnywhere c.types s.store below (credit n) (word_at ws r) hr) (sym can.number) can.comes.spare in
    unchanged c f b ks hs s (I.Take r ds) (s.running.at + 1) written.words left (held_after hs r ds ts y hr) g
    (ap (R.on s) (taken_is c.types s.store s r ds ts (word_at ws r) y ps _ (word_get ws r (omega arith)) can.number can.comes.stand can.comes.fields written))
    (goes_on c f b ks hs s (I.Take r ds) left g is)
    (length_become ks _)
    written.wide
    (reword c.types s.store b (at left) (words_after (word_at ws) ds ts y) (word_at written.words) (held_after hs r ds ts y hr) written.each
    (taken_meant c.types s.store b ks (word_at ws) hs r ds ts left y ps hr takes (spare b) g.meant))
    (λ q. count_taken q c.types s.store b ks (word_at ws) hs r ds ts left y ps hr takes g.meant (subst (λ n. uses q y ≡ owned_uses q (credit n) hr + uses_of_all q ps) (sym can.number) (can.comes.split q)) (can.uses q))
