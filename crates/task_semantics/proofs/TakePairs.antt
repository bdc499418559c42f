-- Take, alone and among others.
use Rattle.std.proofs.Common.{◌≡◌, inl, inr, ℕ, zero, suc, ◌+◌, ◌<◌, ◌≤◌, true, not, ◌&&◌, List, [], ◌∷◌, length, Option, Some, None, slice_get, refl, sym, ap, ◌∙◌, subst, true≢false, arith, nat_lt, ◌==◌, if◌then◌else◌}
use Rattle.std.specs.Prelude.{option_and_then}
use Rattle.std.proofs.lemmas.Option.{none-some, same_Some}
use Rattle.run_loading.specs.fip_language.Table.{Shape, Table}
use Rattle.run_loading.specs.fip_language.Store.{Cell, Placed, PlacedInt, Bare, At, Parts, NoParts, words_of, word_of, uses}
use Rattle.run_loading.specs.cell_code.declared.code.Instr.TheVariants as I
use Rattle.run_loading.specs.cell_code.declared.kind.Kind.{Kind}
use Rattle.run_loading.specs.cell_code.declared.kind.Kind.TheVariants.{Gone, Scalar, Owned, Lent, Credit}
use Rattle.run_loading.specs.machine_semantics.Cells.{Store}
use Rattle.run_loading.specs.machine_semantics.Trees.{Stands, IsTree, StandAll}
use Rattle.run_loading.specs.machine_semantics.States.{State}
use Rattle.run_loading.specs.machine_semantics.Rows as R
use Rattle.run_loading.specs.machine_semantics.Apart.{Holding, Tree, RootIn, held_tree}
use Rattle.run_loading.specs.cell_code.Plain.{PlainFunction, PlainCode}
use Rattle.run_loading.specs.code_rules.Types.{fields, fields_of}
use Rattle.run_loading.specs.code_rules.Kinds.{has, at, is_free, is_owned, is_lent_of}
use Rattle.run_loading.specs.code_rules.Changes.{forget}
use Rattle.run_loading.specs.code_rules.Ranges.{are_below}
use Rattle.run_loading.specs.code_rules.Asked.{can_take, is_one, known_fields, only_fields, are_places}
use Rattle.run_loading.specs.code_rules.Taking.{Part, part, is_heir, credit, taken, IsTaken, fate, with_root, ends, part_or, part_kind}
use Rattle.run_loading.specs.separation_kinds.Meanings.{part_in, part_of, Means, AreMeant, word_at}
use Rattle.run_loading.proofs.separation_kinds.Basics.{pick, both, equal, below, refuted, length_become, at_become, at_past, less_or_not}
use Rattle.run_loading.proofs.separation_kinds.Shapes.{contains_one}
use Rattle.run_loading.proofs.separation_kinds.Reaching.{same_tree}
use Rattle.run_loading.proofs.separation_kinds.Words.{word_get}
use Rattle.run_loading.proofs.separation_kinds.Takes.{word_or, by_part, Plain, AreWritten, parts_written}
use Rattle.run_loading.proofs.separation_kinds.Taken.{Takes, gets_part}
use Rattle.run_loading.specs.separation.Rows.{IsReady}
use Rattle.run_loading.proofs.separation.Reading.{named_is, constructor_in, root_of_set, stand_length}
use Rattle.run_loading.proofs.separation.Reached.{reached}
use Rattle.run_loading.proofs.separation.PlainRows.{goes_on}
use Rattle.run_loading.proofs.tree_refinement.Values.{same_placed}
use Rattle.task_semantics.specs.Projected.{Renaming, renamed_word, renamed, renamed_parts, IsRenamedWord}
use Rattle.task_semantics.proofs.Renamings.{place_renamed, like_of_tree, restands, bare_word, part_renamed}
use Rattle.task_semantics.proofs.AlikeWords.{AreAlike, like_any, forget_alike}
use Rattle.task_semantics.proofs.ReadingPairs.{placed_part}
use Rattle.task_semantics.proofs.PlainPairs.{IsPair, Pairs, plain_pair, on_pair}
use Rattle.run_loading.proofs.tree_refinement.tree_semantics.machine_semantics.cell_code.fip_base.fip_language.Facts.{empty_of_length as no_words}

-- ---- the parts

-- a tree that is taken apart, alone and among others: its parts, which are in its cells where there are any
record ComesApart (tb : Table) (f : Renaming) (own shared : Store) (w v : ℕ) (y : Placed) (ts : List ℕ) : Type 0 where
  parts : Parts
  part : (i : ℕ) → part_of y i ≡ part_in parts i
  stand : StandAll tb own ts parts
  among : StandAll tb shared ts (renamed_parts f parts)
  fields : 0 < length ts → (c : Cell) × (R.named own w ≡ Some c) × (c.fields ≡ words_of parts)
  mates : 0 < length ts → (c : Cell) × (R.named shared v ≡ Some c) × (c.fields ≡ words_of (renamed_parts f parts))
  place : 0 < length ts → v ≡ renamed_word f w

comes_apart : (tb : Table) (f : Renaming) (own shared : Store) (t w v c : ℕ) (y : Placed) → constructor_in y ≡ Some c → IsTree tb own t w y → IsTree tb shared t v (renamed f y) → ComesApart tb f own shared w v y (fields tb t c)
comes_apart tb f own shared t w v c (PlacedInt i) e g h = absurd (none-some c e)
comes_apart tb f own shared zero w v c (Bare d) e g h = absurd g.stands
comes_apart tb f own shared (suc t) w v c (Bare d) e g h =
    subst (ComesApart tb f own shared w v (Bare d)) (sym (ap (λ c. fields tb (suc t) c) (sym (same_Some d c e)) ∙ ap fields_of g.stands.1 ∙ g.stands.2)) (record {
      parts = NoParts;
      part = λ i. refl;
      stand = tt;
      among = tt;
      fields = λ some. absurd (let z : ⊥ = omega arith in z);
      mates = λ some. absurd (let z : ⊥ = omega arith in z);
      place = λ some. absurd (let z : ⊥ = omega arith in z);
    })
comes_apart tb f own shared zero w v c (At p d xs) e g h = absurd g.stands
comes_apart tb f own shared (suc t) w v c (At p d xs) e g h =
    let same : h.stands.2 ≡ g.stands.2 = same_Some h.stands.2 g.stands.2 (sym h.stands.3 ∙ g.stands.3) in
    subst (ComesApart tb f own shared w v (At p d xs)) (sym (ap (λ c. fields tb (suc t) c) (sym (same_Some d c e)) ∙ ap fields_of g.stands.3)) (record {
      parts = xs;
      part = λ i. refl;
      stand = g.stands.4;
      among = subst (λ (k : Shape). StandAll tb shared k.fields (renamed_parts f xs)) same h.stands.4;
      fields = λ some. (record { tag = d; fields = words_of xs }, named_is own p w g.word ∙ g.stands.0, refl);
      mates = λ some. (record { tag = d; fields = words_of (renamed_parts f xs) }, named_is shared (f p) v h.word ∙ h.stands.0, refl);
      place = λ some. sym h.word ∙ place_renamed f p w g.word;
    })

-- a register that can be taken
record CanTake (tb : Table) (f : Renaming) (own shared : Store) (n w v : ℕ) (k : Kind) (h : Holding) : Type 0 where
  owned : is_owned k ≡ true
  number : n ≡ length (known_fields tb k)
  tree : Placed
  holds : h ≡ Tree tree
  comes : ComesApart tb f own shared w v tree (known_fields tb k)

one_set : (tb : Table) (f : Renaming) (own shared : Store) (t w v n : ℕ) (cs : List ℕ) (y : Placed) (h : Holding) → h ≡ Tree y → is_one cs ≡ true → n ≡ length (only_fields tb t cs) → RootIn cs (Tree y) → IsTree tb own t w y → IsTree tb shared t v (renamed f y) → CanTake tb f own shared n w v (Owned t cs) h
one_set tb f own shared t w v n [] y h e o l r g i = absurd (true≢false (sym o))
one_set tb f own shared t w v n (c ∷ d ∷ cs) y h e o l r g i = absurd (true≢false (sym o))
one_set tb f own shared t w v n (c ∷ []) y h e o l r g i =
    let z = root_of_set (c ∷ []) y r in
    let one : c ≡ z.0 = contains_one c z.0 z.2 in
    record { owned = refl; number = l; tree = y; holds = e; comes = comes_apart tb f own shared t w v c y (z.1 ∙ ap Some (sym one)) g i }

can_take_is : (tb : Table) (f : Renaming) (own shared : Store) (below : List Placed) (ks : ℕ → Kind) (hs : ℕ → Holding) (n : ℕ) (k : Kind) (w v : ℕ) (h : Holding) → can_take tb n k ≡ true → Means tb own below ks hs k w h → IsRenamedWord tb f own shared k w v → CanTake tb f own shared n w v k h
can_take_is tb f own shared below ks hs n Gone w v h e m i = absurd (true≢false (sym e))
can_take_is tb f own shared below ks hs n (Scalar t) w v h e m i = absurd (true≢false (sym e))
can_take_is tb f own shared below ks hs n (Lent t cs root from) w v h e m i = absurd (true≢false (sym e))
can_take_is tb f own shared below ks hs n (Credit z) w v h e m i = absurd (true≢false (sym e))
can_take_is tb f own shared below ks hs n (Owned t cs) w v h e m i =
    let p = both (is_one cs) (length (only_fields tb t cs) == n) e in
    let same : i.tree ≡ m.tree = same_placed tb own t i.tree m.tree i.alone.stands m.is.stands (i.alone.word ∙ sym m.is.word) in
    one_set tb f own shared t w v n cs m.tree h m.holds p.0 (sym (equal (length (only_fields tb t cs)) n p.1)) m.top m.is (subst (λ x. IsTree tb shared t v (renamed f x)) same i.among)

-- ---- the words

taken_is : (tb : Table) (st : Store) (s : State) (r : ℕ) (ds ts : List ℕ) (w : ℕ) (ps : Parts) (new : ℕ → ℕ) → slice_get s.running.words r ≡ Some w → length ds ≡ length ts → StandAll tb st ts ps → (0 < length ts → (c : Cell) × (R.named s.store w ≡ Some c) × (c.fields ≡ words_of ps)) → (a : AreWritten s.running.words ds (words_of ps) new) → R.taken s r ds ≡ Some a.words
taken_is tb st s r [] ts w ps new e l g f a =
    ap (λ vs. R.write_all s.running.words [] vs) (sym (no_words (words_of ps) (stand_length tb st ts ps g ∙ sym l))) ∙ a.is
taken_is tb st s r (d ∷ ds) ts w ps new e l g f a =
    let c = f (let z : 0 < length ts = omega arith in z) in
    ap (λ o. option_and_then (λ (c : Cell). R.write_all s.running.words (d ∷ ds) c.fields) (option_and_then (λ w. R.named s.store w) o)) e
    ∙ ap (λ o. option_and_then (λ (c : Cell). R.write_all s.running.words (d ∷ ds) c.fields) o) c.1
    ∙ ap (R.write_all s.running.words (d ∷ ds)) c.2
    ∙ a.is

plain_of : (ks : List Kind) (n : ℕ) (ds : List ℕ) → are_places ks ds ≡ true → are_below n ds ≡ true → Plain (λ q. 0) n ds
plain_of ks n [] p b = tt
plain_of ks n (d ∷ ds) p b =
    let a = both (is_free (at ks d)) (not (has ds d) && are_places ks ds) p in
    let c = both (not (has ds d)) (are_places ks ds) a.1 in
    let e = both (nat_lt d n) (are_below n ds) b in
    (refl, below d n e.0, refuted (has ds d) c.0, plain_of ks n ds c.1 e.1)

-- ---- the registers after it

rooted_alike : (tb : Table) (f : Renaming) (own shared : Store) (d : ℕ) (k : Kind) (w v : ℕ) → IsRenamedWord tb f own shared k w v → IsRenamedWord tb f own shared (with_root d k) w v
rooted_alike tb f own shared d Gone w v i = i
rooted_alike tb f own shared d (Scalar t) w v i = i
rooted_alike tb f own shared d (Owned t cs) w v i = i
rooted_alike tb f own shared d (Lent t cs root from) w v i = i
rooted_alike tb f own shared d (Credit n) w v i = i

fate_alike : (tb : Table) (f : Renaming) (own shared : Store) (o : Option ℕ) (r : ℕ) (k : Kind) (w v : ℕ) → IsRenamedWord tb f own shared k w v → IsRenamedWord tb f own shared (fate o r k) w v
fate_alike tb f own shared None r k w v i = pick (λ k. IsRenamedWord tb f own shared k w v) (is_lent_of r k) Gone k (λ e. like_any tb f own shared k w v i) (λ e. i)
fate_alike tb f own shared (Some d) r k w v i = rooted_alike tb f own shared d k w v i

credit_alike : (tb : Table) (f : Renaming) (own shared : Store) (n : ℕ) (k : Kind) (w v : ℕ) → IsRenamedWord tb f own shared k w v → (0 < n → v ≡ renamed_word f w) → IsRenamedWord tb f own shared (credit n) w v
credit_alike tb f own shared zero k w v i h = like_any tb f own shared k w v i
credit_alike tb f own shared (suc n) k w v i h = h (omega arith)

-- a register that holds a tree, which is renamed
held_alike : (tb : Table) (f : Renaming) (own shared : Store) (b : List Placed) (ks : ℕ → Kind) (hs : ℕ → Holding) (k : Kind) (u : ℕ) (x : Placed) → Means tb own b ks hs k (word_of x) (Tree x) → Stands tb shared u (renamed f x) → IsRenamedWord tb f own shared k (word_of x) (word_of (renamed f x))
held_alike tb f own shared b ks hs Gone u x m g = like_of_tree f x (word_of x) (word_of (renamed f x)) refl refl
held_alike tb f own shared b ks hs (Scalar t) u x m g = bare_word f x (subst (λ x. (q : ℕ) → uses q x ≡ 0) (same_tree m.tree x (sym m.holds)) m.bare)
held_alike tb f own shared b ks hs (Owned t cs) u x m g =
    let own_is : IsTree tb own t (word_of x) x = subst (IsTree tb own t (word_of x)) (same_tree m.tree x (sym m.holds)) m.is in
    record { tree = x; alone = own_is; among = record { word = refl; stands = restands tb f own shared t u x own_is.stands g } }
held_alike tb f own shared b ks hs (Lent t cs root from) u x m g =
    let own_is : IsTree tb own t (word_of x) x = subst (IsTree tb own t (word_of x)) (same_tree m.tree x (sym m.holds)) m.is in
    record { tree = x; alone = own_is; among = record { word = refl; stands = restands tb f own shared t u x own_is.stands g } }
held_alike tb f own shared b ks hs (Credit n) u x m g = let z = ap (λ h. length (held_tree h)) m.holds in absurd (let y : ⊥ = omega arith in y)

taken_alike : (tb : Table) (f : Renaming) (own shared : Store) (below : List Placed) (ks : List Kind) (ws vs : ℕ → ℕ) (hs : ℕ → Holding) (r : ℕ) (ds ts : List ℕ) (left : List Kind) (y : Placed) (ps : Parts) (to : ℕ → Option ℕ) → Takes tb own ks hs r ds ts left y ps → StandAll tb shared ts (renamed_parts f ps) → (0 < length ds → vs r ≡ renamed_word f (ws r)) → AreMeant tb own below (at ks) ws hs → AreAlike tb f own shared (at ks) ws vs → (q : ℕ) (o : Option Part) → part ds ts q ≡ o → IsRenamedWord tb f own shared (part_or tb r (at ks q) o (if q == r then credit (length ds) else forget (ends tb ks r (part ds ts) (length ds) to) (fate (to q) r (at ks q)))) (by_part (λ j. word_or (part_in ps j)) o (ws q)) (by_part (λ j. word_or (part_in (renamed_parts f ps) j)) o (vs q))
taken_alike tb f own shared below ks ws vs hs r ds ts left y ps to t among place m a q None e =
    let gone : Kind = forget (ends tb ks r (part ds ts) (length ds) to) (fate (to q) r (at ks q)) in
    pick (λ k. IsRenamedWord tb f own shared k (ws q) (vs q)) (q == r) (credit (length ds)) gone
    (λ z. credit_alike tb f own shared (length ds) (at ks q) (ws q) (vs q) (a.each q) (subst (λ r. 0 < length ds → vs r ≡ renamed_word f (ws r)) (sym (equal q r z)) place))
    (λ z. forget_alike tb f own shared (ends tb ks r (part ds ts) (length ds) to) (fate (to q) r (at ks q)) (ws q) (vs q) (fate_alike tb f own shared (to q) r (at ks q) (ws q) (vs q) (a.each q)))
taken_alike tb f own shared below ks ws vs hs r ds ts left y ps to t among place m a q (Some p) e =
    let g = gets_part tb own below ks ws hs r ds ts left y ps q p t m e in
    let is : part_in ps p.field ≡ Some g.tree = sym (t.parts p.field) ∙ g.part in
    let also : part_in (renamed_parts f ps) p.field ≡ Some (renamed f g.tree) = part_renamed f ps p.field g.tree is in
    let part = placed_part tb shared ts (renamed_parts f ps) p.field (renamed f g.tree) also among in
    let k : Kind = part_kind tb r (at ks q) p in
    subst (λ o. IsRenamedWord tb f own shared k (word_or o) (word_or (part_in (renamed_parts f ps) p.field))) (sym is)
    (subst (λ o. IsRenamedWord tb f own shared k (word_of g.tree) (word_or o)) (sym also)
    (held_alike tb f own shared below (at ks) hs k part.0 g.tree (g.means below (at ks) hs) part.1))

pub take_pair : (f : Renaming) (c : PlainCode) (fn : PlainFunction) (b : List Placed) (ks : List Kind) (hs : ℕ → Holding) (s u : State) (r : ℕ) (ds : List ℕ) → IsReady c fn b ks hs s (I.Take r ds) → IsPair f c ks s u → Pairs f c fn ks hs s u (I.Take r ds)
take_pair f c fn b ks hs s u r ds g m =
    let a = both (nat_lt r fn.registers) (are_below fn.registers ds) g.ranged in
    let e = both (are_places ks ds) (not (has ds r)) g.destinations in
    let wide = g.wide in
    let long = g.long in
    let even = m.long in
    let source = below r fn.registers a.0 in
    let tb : Table = c.types in
    let ws : List ℕ = s.running.words in
    let vs : List ℕ = u.running.words in
    let ts : List ℕ = known_fields tb (at ks r) in
    let can = can_take_is tb f s.store u.store b (at ks) hs (length ds) (at ks r) (word_at ws r) (word_at vs r) (hs r) g.sources (g.meant.each r) (m.alike.each r) in
    let ps : Parts = can.comes.parts in
    let qs : Parts = renamed_parts f ps in
    let y : Placed = can.tree in
    let heirs = reached tb s.store b ks (word_at ws) hs (is_heir tb ks r (part ds ts)) g.meant in
    let to : ℕ → Option ℕ = λ q. (heirs q).0 in
    let left : List Kind = taken tb ks r (part ds ts) (length ds) to in
    let is : IsTaken tb ks r ds ts left = (to, λ q. (heirs q).1, refl) in
    let takes : Takes tb s.store ks hs r ds ts left y ps = record {
      owner = can.owned;
      holds = can.holds;
      parts = can.comes.part;
      stand = can.comes.stand;
      number = can.number;
      places = e.0;
      off = refuted (has ds r) e.1;
      within = subst (λ n. are_below n ds ≡ true) (sym wide) a.1;
      taken = is;
    } in
    let place : 0 < length ds → word_at vs r ≡ renamed_word f (word_at ws r) = λ some. can.comes.place (let n = can.number in omega arith) in
    let written = parts_written tb s.store 0 ws ds ts ps (λ j. word_or (part_in ps j)) can.number (plain_of ks (length ws) ds e.0 (subst (λ n. are_below n ds ≡ true) (sym (long ∙ wide)) a.1)) can.comes.stand
    (λ j. let z : 0 + j ≡ j = omega arith in ap (λ j. word_or (part_in ps j)) z) in
    let among = parts_written tb u.store 0 vs ds ts qs (λ j. word_or (part_in qs j)) can.number (plain_of ks (length vs) ds e.0 (subst (λ n. are_below n ds ≡ true) (sym (even ∙ long ∙ wide)) a.1)) can.comes.among
    (λ j. let z : 0 + j ≡ j = omega arith in ap (λ j. word_or (part_in qs j)) z) in
    let following : ℕ → Kind = λ q. part_or tb r (at ks q) (part ds ts q) (if q == r then credit (length ds) else forget (ends tb ks r (part ds ts) (length ds) to) (fate (to q) r (at ks q))) in
    let each : (q : ℕ) → IsRenamedWord tb f s.store u.store (following q) (word_at written.words q) (word_at among.words q) = λ q.
    subst (λ w. IsRenamedWord tb f s.store u.store (following q) w (word_at among.words q)) (sym (written.each q))
    (subst (λ v. IsRenamedWord tb f s.store u.store (following q) (by_part (λ j. word_or (part_in ps j)) (part ds ts q) (word_at ws q)) v) (sym (among.each q))
    (taken_alike tb f s.store u.store b ks (word_at ws) (word_at vs) hs r ds ts left y ps to takes can.comes.among place g.meant m.alike q (part ds ts q) refl)) in
    plain_pair f c fn ks hs s u (I.Take r ds) (s.running.at + 1) written.words among.words left m
    (ap (R.on s) (taken_is tb s.store s r ds ts (word_at ws r) ps _ (word_get ws r (omega arith)) can.number can.comes.stand can.comes.fields written))
    (ap (R.on u) (taken_is tb u.store u r ds ts (word_at vs r) qs _ (word_get vs r (omega arith)) can.number can.comes.among can.comes.mates among) ∙ on_pair f c ks s u among.words m)
    (goes_on c fn b ks hs s (I.Take r ds) left g is)
    (among.wide ∙ even ∙ sym written.wide)
    (record {
      each = λ q. elim (less_or_not q (length ks)) as (λ v. IsRenamedWord tb f s.store u.store (at left q) (word_at written.words q) (word_at among.words q)) [
        | inl h ↦ subst (λ k. IsRenamedWord tb f s.store u.store k (word_at written.words q) (word_at among.words q)) (sym (at_become ks following q h)) (each q)
        | inr h ↦ subst (λ k. IsRenamedWord tb f s.store u.store k (word_at written.words q) (word_at among.words q)) (sym (at_past left q (subst (λ n. n ≤ q) (sym (length_become ks following)) h))) (like_any tb f s.store u.store (following q) (word_at written.words q) (word_at among.words q) (each q))
      ];
    })
