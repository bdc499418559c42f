-- Take: on trees the registers get the parts of the tree.
use Rattle.std.proofs.Common.{◌≡◌, inl, inr, ℕ, zero, suc, ◌+◌, ◌<◌, ◌≤◌, true, false, not, ◌&&◌, List, [], ◌∷◌, length, Option, Some, None, slice_get, refl, sym, ap, ◌∙◌, subst, true≢false, arith, nat_lt, ◌==◌, if◌then◌else◌}
use Rattle.std.specs.Prelude.{option_and_then, pos}
use Rattle.std.proofs.lemmas.Option.{none-some, same_Some}
use Rattle.tree_semantics.specs.fip_language.Values.{Value, Int}
use Rattle.tree_semantics.specs.fip_language.Table.{Table}
use Rattle.tree_semantics.specs.fip_language.Store.{Cell, Placed, PlacedInt, Bare, At, Parts, NoParts, MoreParts, words_of, word_of, value_of, values_of}
use Rattle.separation_bounds.specs.cell_code.declared.code.Instr.TheVariants as I
use Rattle.separation_bounds.specs.cell_code.declared.kind.Kind.{Kind}
use Rattle.separation_bounds.specs.cell_code.declared.kind.Kind.TheVariants.{Gone, Scalar, Owned, Lent, Credit}
use Rattle.tree_semantics.specs.machine_semantics.Cells.{Store}
use Rattle.tree_semantics.specs.machine_semantics.Trees.{IsTree, StandAll}
use Rattle.tree_semantics.specs.machine_semantics.States.{State}
use Rattle.separation_bounds.specs.cell_code.Plain.{PlainFunction, PlainCode}
use Rattle.tree_semantics.specs.machine_semantics.Rows as R
use Rattle.tree_semantics.specs.machine_semantics.Apart.{Holding, Tree, RootIn}
use Rattle.tree_semantics.specs.Contents.{Contents, children}
use Rattle.tree_semantics.specs.Contents as T
use Rattle.tree_semantics.specs.States as U
use Rattle.tree_semantics.specs.Steps as N
use Rattle.tree_semantics.proofs.Puts.{put_same, put_other}
use Rattle.separation_bounds.specs.code_rules.Types.{fields, fields_of}
use Rattle.separation_bounds.specs.code_rules.Kinds.{has, at, is_free, is_owned, is_lent_of}
use Rattle.separation_bounds.specs.code_rules.Changes.{forget}
use Rattle.separation_bounds.specs.code_rules.Ranges.{are_below}
use Rattle.separation_bounds.specs.code_rules.Asked.{can_take, is_one, known_fields, only_fields, are_places}
use Rattle.separation_bounds.specs.code_rules.Taking.{Part, part_from, part, is_heir, credit, taken, IsTaken, fate, with_root, ends, part_or, part_kind}
use Rattle.separation_bounds.specs.separation_kinds.Meanings.{part_in, part_of, Means, AreMeant, word_at}
use Rattle.separation_bounds.proofs.separation_kinds.Basics.{pick, both, equal, equal_is, below, refuted, length_become, at_become, at_past, less_or_not}
use Rattle.separation_bounds.proofs.separation_kinds.Shapes.{contains_one}
use Rattle.separation_bounds.proofs.separation_kinds.Words.{word_get}
use Rattle.separation_bounds.proofs.separation_kinds.Takes.{word_or, by_part, Plain, AreWritten, parts_written, no_part}
use Rattle.separation_bounds.proofs.separation_kinds.Taken.{Takes, gets_part}
use Rattle.separation_bounds.specs.separation.Rows.{IsReady}
use Rattle.separation_bounds.proofs.separation.Reading.{named_is, constructor_in, root_of_set, stand_length}
use Rattle.separation_bounds.proofs.separation.Reached.{reached}
use Rattle.separation_bounds.proofs.separation.PlainRows.{goes_on}
use Rattle.tree_refinement.specs.Agreement.{type_in, Shows, AreShown}
use Rattle.tree_refinement.proofs.Values.{value_is, means_shows, shows_forget}
use Rattle.tree_refinement.proofs.PlainFollows.{Follows, follows, on_is}
use Rattle.tree_semantics.proofs.machine_semantics.cell_code.fip_base.fip_language.Facts.{empty_of_length as no_words}

-- ---- the parts

-- a tree that is taken apart: its parts, which are in its cell where there is one
record ComesApart (tb : Table) (s : Store) (w : ℕ) (y : Placed) (ts : List ℕ) : Type 0 where
  parts : Parts
  part : (i : ℕ) → part_of y i ≡ part_in parts i
  values : children (value_of y) ≡ values_of parts
  stand : StandAll tb s ts parts
  fields : 0 < length ts → (c : Cell) × (R.named s w ≡ Some c) × (c.fields ≡ words_of parts)

comes_apart : (tb : Table) (s : Store) (t w c : ℕ) (y : Placed) → constructor_in y ≡ Some c → IsTree tb s t w y → ComesApart tb s w y (fields tb t c)
comes_apart tb s t w c (PlacedInt i) e g = absurd (none-some c e)
comes_apart tb s zero w c (Bare d) e g = absurd g.stands
comes_apart tb s (suc t) w c (Bare d) e g =
    subst (ComesApart tb s w (Bare d)) (sym (ap (λ c. fields tb (suc t) c) (sym (same_Some d c e)) ∙ ap fields_of g.stands.1 ∙ g.stands.2)) (record {
      parts = NoParts;
      part = λ i. refl;
      values = refl;
      stand = tt;
      fields = λ some. absurd (let z : ⊥ = omega arith in z);
    })
comes_apart tb s zero w c (At p d xs) e g = absurd g.stands
comes_apart tb s (suc t) w c (At p d xs) e g =
    subst (ComesApart tb s w (At p d xs)) (sym (ap (λ c. fields tb (suc t) c) (sym (same_Some d c e)) ∙ ap fields_of g.stands.3)) (record {
      parts = xs;
      part = λ i. refl;
      values = refl;
      stand = g.stands.4;
      fields = λ some. (record { tag = d; fields = words_of xs }, named_is s p w g.word ∙ g.stands.0, refl);
    })

-- a register that can be taken
record CanTake (tb : Table) (s : Store) (n w : ℕ) (k : Kind) (h : Holding) (v : Value) : Type 0 where
  owned : is_owned k ≡ true
  number : n ≡ length (known_fields tb k)
  tree : Placed
  holds : h ≡ Tree tree
  value : value_of tree ≡ v
  comes : ComesApart tb s w tree (known_fields tb k)

one_set : (tb : Table) (s : Store) (t w n : ℕ) (cs : List ℕ) (y : Placed) (h : Holding) (v : Value) → h ≡ Tree y → is_one cs ≡ true → n ≡ length (only_fields tb t cs) → RootIn cs (Tree y) → IsTree tb s t w y → value_of y ≡ v → CanTake tb s n w (Owned t cs) h v
one_set tb s t w n [] y h v e o l r g i = absurd (true≢false (sym o))
one_set tb s t w n (c ∷ d ∷ cs) y h v e o l r g i = absurd (true≢false (sym o))
one_set tb s t w n (c ∷ []) y h v e o l r g i =
    let z = root_of_set (c ∷ []) y r in
    let one : c ≡ z.0 = contains_one c z.0 z.2 in
    record { owned = refl; number = l; tree = y; holds = e; value = i; comes = comes_apart tb s t w c y (z.1 ∙ ap Some (sym one)) g }

can_take_is : (tb : Table) (s : Store) (below : List Placed) (ks : ℕ → Kind) (hs : ℕ → Holding) (n : ℕ) (k : Kind) (w : ℕ) (h : Holding) (v : Value) → can_take tb n k ≡ true → Means tb s below ks hs k w h → Shows tb s (type_in k) w v → CanTake tb s n w k h v
can_take_is tb s below ks hs n Gone w h v e m i = absurd (true≢false (sym e))
can_take_is tb s below ks hs n (Scalar t) w h v e m i = absurd (true≢false (sym e))
can_take_is tb s below ks hs n (Lent t cs root from) w h v e m i = absurd (true≢false (sym e))
can_take_is tb s below ks hs n (Credit z) w h v e m i = absurd (true≢false (sym e))
can_take_is tb s below ks hs n (Owned t cs) w h v e m i =
    let p = both (is_one cs) (length (only_fields tb t cs) == n) e in
    one_set tb s t w n cs m.tree h v m.holds p.0 (sym (equal (length (only_fields tb t cs)) n p.1)) m.top m.is (value_is tb s t w m.tree v m.is i)

-- ---- the words

taken_is : (tb : Table) (st : Store) (s : State) (r : ℕ) (ds ts : List ℕ) (w : ℕ) (ps : Parts) (new : ℕ → ℕ) → slice_get s.running.words r ≡ Some w → length ds ≡ length ts → StandAll tb st ts ps → (0 < length ts → (c : Cell) × (R.named s.store w ≡ Some c) × (c.fields ≡ words_of ps)) → (a : AreWritten s.running.words ds (words_of ps) new) → R.taken s r ds ≡ Some a.words
taken_is tb st s r [] ts w ps new e l g f a =
    ap (λ vs. R.write_all s.running.words [] vs) (sym (no_words (words_of ps) (stand_length tb st ts ps g ∙ sym l))) ∙ a.is
taken_is tb st s r (d ∷ ds) ts w ps new e l g f a =
    let c = f (let z : 0 < length ts = omega arith in z) in
    ap (λ o. option_and_then (λ (c : Cell). R.write_all s.running.words (d ∷ ds) c.fields) (option_and_then (λ w. R.named s.store w) o)) e
    ∙ ap (λ o. option_and_then (λ (c : Cell). R.write_all s.running.words (d ∷ ds) c.fields) o) c.1
    ∙ ap (R.write_all s.running.words (d ∷ ds)) c.2
    ∙ a.is

plain_of : (ks : List Kind) (n : ℕ) (ds : List ℕ) → are_places ks ds ≡ true → are_below n ds ≡ true → Plain (λ q. 0) n ds
plain_of ks n [] p b = tt
plain_of ks n (d ∷ ds) p b =
    let a = both (is_free (at ks d)) (not (has ds d) && are_places ks ds) p in
    let c = both (not (has ds d)) (are_places ks ds) a.1 in
    let e = both (nat_lt d n) (are_below n ds) b in
    (refl, below d n e.0, refuted (has ds d) c.0, plain_of ks n ds c.1 e.1)

-- ---- the values

abbrev value_or : Option Placed → Value
value_or None = Int (pos 0)
value_or (Some x) = value_of x

-- each register gets the value of its part
parts_put : (tb : Table) (s : Store) (i n : ℕ) (cs : Contents) (ds ts : List ℕ) (ps : Parts) (v : ℕ → Value) → length ds ≡ length ts → Plain (λ q. 0) n ds → StandAll tb s ts ps → ((j : ℕ) → v (i + j) ≡ value_or (part_in ps j)) → (q : ℕ) → T.put_all cs ds (values_of ps) q ≡ by_part v (part_from i ds ts q) (cs q)
parts_put tb s i n cs [] [] NoParts v l p g h q = refl
parts_put tb s i n cs [] [] (MoreParts x xs) v l p g h q = absurd g
parts_put tb s i n cs [] (t ∷ ts) ps v l p g h q = absurd (omega arith)
parts_put tb s i n cs (d ∷ ds) [] ps v l p g h q = absurd (omega arith)
parts_put tb s i n cs (d ∷ ds) (t ∷ ts) NoParts v l p g h q = absurd g
parts_put tb s i n cs (d ∷ ds) (t ∷ ts) (MoreParts x xs) v l p g h q =
    let first : Part = record { field = i; ty = t } in
    let rest = parts_put tb s (suc i) n (T.put cs d (value_of x)) ds ts xs v (omega arith) p.3 g.1 (λ j. (let z : suc i + j ≡ i + suc j = omega arith in ap v z) ∙ h (suc j)) q in
    let here : v i ≡ value_of x = (let z : i ≡ i + 0 = omega arith in ap v z) ∙ h 0 in
    pick (λ o. by_part v (part_from (suc i) ds ts q) (T.put cs d (value_of x) q) ≡ by_part v o (cs q) → T.put_all (T.put cs d (value_of x)) ds (values_of xs) q ≡ by_part v o (cs q)) (d == q) (Some first) (part_from (suc i) ds ts q)
    (λ e z. rest ∙ z) (λ e z. rest ∙ z)
    (pick (λ o. by_part v (part_from (suc i) ds ts q) (T.put cs d (value_of x) q) ≡ by_part v o (cs q)) (d == q) (Some first) (part_from (suc i) ds ts q)
    (λ e. let same : d ≡ q = equal d q e in
    ap (λ o. by_part v o (T.put cs d (value_of x) q)) (no_part (suc i) ds ts q (subst (λ q. has ds q ≡ false) same p.2)) ∙ put_same cs d (value_of x) q (sym same) ∙ sym here)
    (λ e. ap (by_part v (part_from (suc i) ds ts q)) (put_other cs d (value_of x) q (λ z. true≢false (sym (equal_is d q (sym z)) ∙ e)))))

-- ---- the registers after it

type_credit : (n : ℕ) → type_in (credit n) ≡ None
type_credit zero = refl
type_credit (suc n) = refl

shows_credit : (tb : Table) (s : Store) (n w : ℕ) (v : Value) → Shows tb s (type_in (credit n)) w v
shows_credit tb s n w v = subst (λ o. Shows tb s o w v) (sym (type_credit n)) tt

type_root : (d : ℕ) (k : Kind) → type_in (with_root d k) ≡ type_in k
type_root d Gone = refl
type_root d (Scalar t) = refl
type_root d (Owned t cs) = refl
type_root d (Lent t cs root from) = refl
type_root d (Credit n) = refl

shows_fate : (tb : Table) (s : Store) (o : Option ℕ) (r : ℕ) (k : Kind) (w : ℕ) (v : Value) → Shows tb s (type_in k) w v → Shows tb s (type_in (fate o r k)) w v
shows_fate tb s None r k w v i = pick (λ k. Shows tb s (type_in k) w v) (is_lent_of r k) Gone k (λ e. tt) (λ e. i)
shows_fate tb s (Some d) r k w v i = subst (λ o. Shows tb s o w v) (sym (type_root d k)) i

taken_shows : (tb : Table) (s : Store) (below : List Placed) (ks : List Kind) (ws : ℕ → ℕ) (hs : ℕ → Holding) (cs : Contents) (r : ℕ) (ds ts : List ℕ) (left : List Kind) (y : Placed) (ps : Parts) (to : ℕ → Option ℕ) → Takes tb s ks hs r ds ts left y ps → AreMeant tb s below (at ks) ws hs → AreShown tb s (at ks) ws cs → (q : ℕ) (o : Option Part) → part ds ts q ≡ o → Shows tb s (type_in (part_or tb r (at ks q) o (if q == r then credit (length ds) else forget (ends tb ks r (part ds ts) (length ds) to) (fate (to q) r (at ks q))))) (by_part (λ j. word_or (part_in ps j)) o (ws q)) (by_part (λ j. value_or (part_in ps j)) o (cs q))
taken_shows tb s below ks ws hs cs r ds ts left y ps to t m a q None e =
    let gone : Kind = forget (ends tb ks r (part ds ts) (length ds) to) (fate (to q) r (at ks q)) in
    pick (λ k. Shows tb s (type_in k) (ws q) (cs q)) (q == r) (credit (length ds)) gone
    (λ z. shows_credit tb s (length ds) (ws q) (cs q))
    (λ z. shows_forget tb s (ends tb ks r (part ds ts) (length ds) to) (fate (to q) r (at ks q)) (ws q) (cs q) (shows_fate tb s (to q) r (at ks q) (ws q) (cs q) (a.each q)))
taken_shows tb s below ks ws hs cs r ds ts left y ps to t m a q (Some p) e =
    let g = gets_part tb s below ks ws hs r ds ts left y ps q p t m e in
    let is : part_in ps p.field ≡ Some g.tree = sym (t.parts p.field) ∙ g.part in
    rw is (means_shows tb s below (at ks) hs (part_kind tb r (at ks q) p) (word_of g.tree) g.tree (g.means below (at ks) hs))

pub take_follows : (c : PlainCode) (f : PlainFunction) (b : List Placed) (ks : List Kind) (hs : ℕ → Holding) (s : State) (code : PlainCode) (t : U.State) (r : ℕ) (ds : List ℕ) → IsReady c f b ks hs s (I.Take r ds) → s.running.at ≡ t.running.at → AreShown c.types s.store (at ks) (word_at s.running.words) t.running.contents → Follows c f ks s (I.Take r ds) t (N.act code t (I.Take r ds))
take_follows c f b ks hs s code t r ds g same shown =
    let a = both (nat_lt r f.registers) (are_below f.registers ds) g.ranged in
    let e = both (are_places ks ds) (not (has ds r)) g.destinations in
    let wide = g.wide in
    let long = g.long in
    let source = below r f.registers a.0 in
    let ws : List ℕ = s.running.words in
    let cs : Contents = t.running.contents in
    let ts : List ℕ = known_fields c.types (at ks r) in
    let can = can_take_is c.types s.store b (at ks) hs (length ds) (at ks r) (word_at ws r) (hs r) (cs r) g.sources (g.meant.each r) (shown.each r) in
    let ps : Parts = can.comes.parts in
    let y : Placed = can.tree in
    let heirs = reached c.types s.store b ks (word_at ws) hs (is_heir c.types ks r (part ds ts)) g.meant in
    let to : ℕ → Option ℕ = λ q. (heirs q).0 in
    let left : List Kind = taken c.types ks r (part ds ts) (length ds) to in
    let is : IsTaken c.types ks r ds ts left = (to, λ q. (heirs q).1, refl) in
    let takes : Takes c.types s.store ks hs r ds ts left y ps = record {
      owner = can.owned;
      holds = can.holds;
      parts = can.comes.part;
      stand = can.comes.stand;
      number = can.number;
      places = e.0;
      off = refuted (has ds r) e.1;
      within = subst (λ n. are_below n ds ≡ true) (sym wide) a.1;
      taken = is;
    } in
    let plain : Plain (λ q. 0) (length ws) ds = plain_of ks (length ws) ds e.0 (subst (λ n. are_below n ds ≡ true) (sym (long ∙ wide)) a.1) in
    let written = parts_written c.types s.store 0 ws ds ts ps (λ j. word_or (part_in ps j)) can.number plain can.comes.stand
    (λ j. let z : 0 + j ≡ j = omega arith in ap (λ j. word_or (part_in ps j)) z) in
    let values : (q : ℕ) → T.put_all cs ds (values_of ps) q ≡ by_part (λ j. value_or (part_in ps j)) (part ds ts q) (cs q) = λ q.
    parts_put c.types s.store 0 (length ws) cs ds ts ps (λ j. value_or (part_in ps j)) can.number plain can.comes.stand
    (λ j. let z : 0 + j ≡ j = omega arith in ap (λ j. value_or (part_in ps j)) z) q in
    let following : ℕ → Kind = λ q. part_or c.types r (at ks q) (part ds ts q) (if q == r then credit (length ds) else forget (ends c.types ks r (part ds ts) (length ds) to) (fate (to q) r (at ks q))) in
    let each : (q : ℕ) → Shows c.types s.store (type_in (following q)) (word_at written.words q) (T.put_all cs ds (values_of ps) q) = λ q.
    subst (λ w. Shows c.types s.store (type_in (following q)) w (T.put_all cs ds (values_of ps) q)) (sym (written.each q))
    (subst (λ v. Shows c.types s.store (type_in (following q)) (by_part (λ j. word_or (part_in ps j)) (part ds ts q) (word_at ws q)) v) (sym (values q))
    (taken_shows c.types s.store b ks (word_at ws) hs cs r ds ts left y ps to takes g.meant shown q (part ds ts q) refl)) in
    follows c f ks s (I.Take r ds) t _ (s.running.at + 1) written.words left (T.put_all cs ds (values_of ps))
    (ap (R.on s) (taken_is c.types s.store s r ds ts (word_at ws r) ps _ (word_get ws r (omega arith)) can.number can.comes.stand can.comes.fields written))
    (goes_on c f b ks hs s (I.Take r ds) left g is)
    (ap (λ v. N.on t (T.put_all cs ds (children v))) (sym can.value) ∙ ap (λ vs. N.on t (T.put_all cs ds vs)) can.comes.values ∙ on_is s t (T.put_all cs ds (values_of ps)) same)
    (record {
      each = λ q. elim (less_or_not q (length ks)) as (λ v. Shows c.types s.store (type_in (at left q)) (word_at written.words q) (T.put_all cs ds (values_of ps) q)) [
        | inl h ↦ subst (λ k. Shows c.types s.store (type_in k) (word_at written.words q) (T.put_all cs ds (values_of ps) q)) (sym (at_become ks following q h)) (each q)
        | inr h ↦ subst (λ k. Shows c.types s.store (type_in k) (word_at written.words q) (T.put_all cs ds (values_of ps) q)) (sym (at_past left q (subst (λ n. n ≤ q) (sym (length_become ks following)) h))) tt
      ];
    })
