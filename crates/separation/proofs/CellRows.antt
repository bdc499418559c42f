-- The semantics of instructions that change cells: Put, Free, Drop.
use Rattle.std.proofs.Common.{◌≡◌, ℕ, zero, suc, ◌+◌, ◌<◌, true, ◌&&◌, List, [], ◌∷◌, length, map, Option, Some, None, slice_get, refl, sym, ap, ◌∙◌, subst, true≢false, arith, nat_lt, ◌==◌}
use Rattle.std.specs.Prelude.{option_and_then, option_map, is_some}
use Rattle.separation_kinds.specs.fip_language.Table.{Table, Shape, shapes}
use Rattle.separation_kinds.specs.fip_language.Store.{Cell, Placed, At, Parts, NoParts, MoreParts, places, words_of, uses, uses_of_all, one_at, count}
use Rattle.separation_kinds.specs.cell_code.declared.code.Instr.{Instr}
use Rattle.separation_kinds.specs.cell_code.declared.code.Instr.TheVariants as I
use Rattle.separation_kinds.specs.cell_code.declared.kind.Kind.{Kind}
use Rattle.separation_kinds.specs.cell_code.declared.kind.Kind.TheVariants.{Gone, Scalar, Owned, Lent, Credit}
use Rattle.separation_kinds.specs.machine_semantics.Words.{place_word, place_of}
use Rattle.separation_kinds.specs.machine_semantics.Cells.{Store, Release, Write, there, one_if_some}
use Rattle.separation_kinds.specs.machine_semantics.Trees.{HasPart, Stands, StandAll}
use Rattle.separation_kinds.specs.machine_semantics.States.{State}
use Rattle.separation_kinds.specs.machine_semantics.Rows as R
use Rattle.separation_kinds.specs.machine_semantics.Apart.{Holding, Tree, holding_uses, owned_uses, trees_uses}
use Rattle.separation_kinds.specs.cell_code.Plain.{PlainFunction, PlainCode}
use Rattle.separation_kinds.specs.code_rules.Types.{fields, fields_of}
use Rattle.separation_kinds.specs.code_rules.Kinds.{at, kind_or_gone, is_owned, is_credit}
use Rattle.separation_kinds.specs.code_rules.Ranges.{are_below, is_constructor}
use Rattle.separation_kinds.specs.code_rules.Changes.{written, used_up, forget}
use Rattle.separation_kinds.specs.code_rules.Handing.{give_all}
use Rattle.separation_kinds.specs.code_rules.Leaves.{Leaves}
use Rattle.separation_kinds.specs.Meanings.{Means, AreMeant, IsSpare, word_at, owned_by}
use Rattle.separation_kinds.proofs.Basics.{pick, chosen, both, equal, itself, below, at_past, length_become, length_map, sum_same}
use Rattle.separation_kinds.proofs.KindLemmas.{put, dropped, is_one, at_written}
use Rattle.separation_kinds.proofs.Changing.{recast, weaken_at, fill, used_up_meant, count_used_up, gone_meant, count_gone, count_written, credit_not_owned}
use Rattle.separation_kinds.proofs.Agree.{one_here, Past, agree, stand_all_agree}
use Rattle.separation_kinds.proofs.Words.{word_get, read_words}
use Rattle.separation_kinds.proofs.Giving.{credit_of, AreGiven, given}
use Rattle.separation_kinds.proofs.Passing.{credit_within}
use Rattle.separation_kinds.proofs.Receiving.{reword}
use Rattle.separation.specs.Rows.{IsReady, IsDone}
use Rattle.separation.proofs.Reading.{place_is}
use Rattle.separation.proofs.Stores.{there_few, sized_at, IsWritten, is_written, AreReleased, are_released, count_places}
use Rattle.separation.proofs.Depth.{tree_found}
use Rattle.separation.proofs.PlainRows.{goes_on}
use Rattle.separation.proofs.ReadingRows.{get_some}
use Rattle.separation_kinds.proofs.Shapes.{contains_here}
use Rattle.separation_kinds.proofs.machine_semantics.cell_code.fip_base.fip_language.Facts.{some_of}

pub past_of : (ks : List Kind) → Past (length ks) (at ks)
past_of ks r h = at_past ks r h

-- ---- releases

-- an instruction that releases these cells, which the frame owned
released_row : (c : PlainCode) (f : PlainFunction) (b : List Placed) (ks : List Kind) (hs : ℕ → Holding) (s : State) (x : Instr) (ps : List ℕ) (left : List Kind) → IsReady c f b ks hs s x → R.done c.types ks s x ≡ Some (record { at = s.running.at + 1; words = s.running.words; changes = map (λ p. Release p) ps }) → Leaves c ks x left → length left ≡ length ks → AreMeant c.types s.store b (at left) (word_at s.running.words) hs → ((q : ℕ) → owned_by q (at left) hs (length ks) + count q ps ≡ owned_by q (at ks) hs (length ks)) → IsDone c f b ks hs s x
released_row c f b ks hs s x ps left g is leaves wide meant counts =
    let r : AreReleased s.store ps = are_released s.store ps g.store (λ q. let a = counts q in let o = g.once q in omega arith) in
    record {
      done = record { at = s.running.at + 1; words = s.running.words; changes = map (λ p. Release p) ps };
      is = is;
      store = r.store;
      changed = r.is;
      left = left;
      goes = goes_on c f b ks hs s x left g leaves;
      wide = wide;
      long = refl;
      holds = hs;
      meant = agree c.types s.store r.store b (at left) (word_at s.running.words) hs (length left) (past_of left) (λ q some. r.same q) meant;
      good = r.good;
      cells = λ q. ap one_if_some (r.same q);
      elsewhere = λ q none. r.same q;
      count = λ q. let a = counts q in let d = r.released q in omega arith;
    }

credit_is : (k : Kind) → is_credit k ≡ true → (n : ℕ) × (k ≡ Credit n)
credit_is Gone e = absurd (true≢false (sym e))
credit_is (Scalar t) e = absurd (true≢false (sym e))
credit_is (Owned t cs) e = absurd (true≢false (sym e))
credit_is (Lent t cs root from) e = absurd (true≢false (sym e))
credit_is (Credit n) e = (n, refl)

owned_is : (k : Kind) → is_owned k ≡ true → (t : ℕ) × (cs : List ℕ) × (k ≡ Owned t cs)
owned_is Gone e = absurd (true≢false (sym e))
owned_is (Scalar t) e = absurd (true≢false (sym e))
owned_is (Owned t cs) e = (t, cs, refl)
owned_is (Lent t cs root from) e = absurd (true≢false (sym e))
owned_is (Credit n) e = absurd (true≢false (sym e))

place_in_is : (s : State) (r p : ℕ) → r < length s.running.words → place_word p ≡ word_at s.running.words r → R.place_in s r ≡ Some p
place_in_is s r p h e = ap (λ o. option_and_then (λ w. place_of w) o) (word_get s.running.words r h) ∙ place_is p (word_at s.running.words r) e

pub free_row : (c : PlainCode) (f : PlainFunction) (b : List Placed) (ks : List Kind) (hs : ℕ → Holding) (s : State) (r : ℕ) → IsReady c f b ks hs s (I.Free r) → IsDone c f b ks hs s (I.Free r)
free_row c f b ks hs s r g =
    let wide = g.wide in
    let long = g.long in
    let source = below r f.registers g.ranged in
    let k = credit_is (at ks r) g.sources in
    let m : IsSpare s.store k.0 (word_at s.running.words r) (hs r) = subst (λ k. Means c.types s.store b (at ks) hs k (word_at s.running.words r) (hs r)) k.1 (g.meant.each r) in
    let there = credit_within ks r k.0 k.1 in
    released_row c f b ks hs s (I.Free r) (m.place ∷ []) (written ks r Gone) g
    (ap (λ o. R.on_with s (option_map (λ p. Release p ∷ []) o)) (place_in_is s r m.place (omega arith) m.word))
    refl (length_become ks _)
    (gone_meant c.types s.store b ks (word_at s.running.words) hs r there (credit_not_owned (at ks r) g.sources) g.meant)
    (λ q.
    let a = count_gone q ks hs r there in
    let e = ap (λ k. owned_uses q k (hs r)) k.1 in
    let h = ap (holding_uses q) m.holds in
    omega arith)

type_of_owned : (o : Option Kind) (t : ℕ) (cs : List ℕ) → kind_or_gone o ≡ Owned t cs → R.owned_type o ≡ Some t
type_of_owned None t cs e = absurd (true≢false (sym (ap is_owned e)))
type_of_owned (Some k) t cs e = ap (λ k. R.owned_type (Some k)) e

pub drop_row : (c : PlainCode) (f : PlainFunction) (b : List Placed) (ks : List Kind) (hs : ℕ → Holding) (s : State) (r : ℕ) → IsReady c f b ks hs s (I.Drop r) → IsDone c f b ks hs s (I.Drop r)
drop_row c f b ks hs s r g =
    let wide = g.wide in
    let long = g.long in
    let source = below r f.registers g.ranged in
    let ws : List ℕ = s.running.words in
    let k = owned_is (at ks r) g.sources in
    let m = subst (λ k. Means c.types s.store b (at ks) hs k (word_at ws r) (hs r)) k.2 (g.meant.each r) in
    let counts : (q : ℕ) → owned_by q (at (used_up ks r)) hs (length ks) + uses q m.tree ≡ owned_by q (at ks) hs (length ks) = λ q.
    let a = count_used_up q ks hs r g.sources in
    let e = ap (λ k. owned_uses q k (hs r)) k.2 in
    let h = ap (holding_uses q) m.holds in
    omega arith in
    released_row c f b ks hs s (I.Drop r) (places m.tree) (used_up ks r) g
    (ap (λ o. R.on_with s (option_and_then (λ w. R.dropped c.types s w (R.owned_type (slice_get ks r))) o)) (word_get ws r (omega arith))
    ∙ ap (λ o. R.on_with s (R.dropped c.types s (word_at ws r) o)) (type_of_owned (slice_get ks r) k.0 k.1 k.2)
    ∙ ap (λ o. R.on_with s (option_map (λ x. map (λ p. Release p) (places x)) o)) (tree_found c.types s.store k.0 (word_at ws r) m.tree (λ q. let a = counts q in let o = g.once q in omega arith) m.is))
    refl (length_become ks _)
    (used_up_meant c.types s.store b ks (word_at ws) hs r g.meant)
    (λ q. let a = counts q in let e = count_places q m.tree in omega arith)

-- ---- Put

at_gone : (ks : List Kind) (d : ℕ) → d < length ks → (r : ℕ) → at (written ks d Gone) r ≡ dropped (is_one d) (at ks) r
at_gone ks d there r = at_written ks d Gone there r ∙ pick (λ k. k ≡ dropped (is_one d) (at ks) r) (r == d) Gone (dropped (is_one d) (at ks) r) (λ e. sym (chosen (r == d) Gone (forget (is_one d) (at ks r)) e)) (λ e. refl)

count_dropped : (q : ℕ) (ks : List Kind) (hs : ℕ → Holding) (d : ℕ) → d < length ks → owned_by q (dropped (is_one d) (at ks)) hs (length ks) + owned_uses q (at ks d) (hs d) ≡ owned_by q (at ks) hs (length ks)
count_dropped q ks hs d there =
    let a = count_gone q ks hs d there in
    let e : owned_by q (at (written ks d Gone)) hs (length ks) ≡ owned_by q (dropped (is_one d) (at ks)) hs (length ks) = sum_same (λ r. owned_uses q (at (written ks d Gone) r) (hs r)) (λ r. owned_uses q (dropped (is_one d) (at ks) r) (hs r)) 0 (length ks) (λ r low high. ap (λ k. owned_uses q k (hs r)) (at_gone ks d there r)) in
    omega arith

-- a constructor of a type
pub shape_at : (tb : Table) (t k : ℕ) → is_constructor tb t k ≡ true → (u : ℕ) × (t ≡ suc u) × (shape : Shape) × (slice_get (shapes tb u) k ≡ Some shape)
shape_at tb zero k e = let z = below k 0 e in absurd (let y : ⊥ = omega arith in y)
shape_at tb (suc u) k e = let g = get_some (shapes tb u) k (below k (length (shapes tb u)) e) in (u, refl, g.0, g.1)

has_part : (tb : Table) (s : Store) (xs : Parts) → 0 < length (words_of xs) → HasPart xs
has_part tb s NoParts h = absurd (let z : ⊥ = omega arith in z)
has_part tb s (MoreParts x xs) h = tt

same_word : (d w : ℕ) (ws : ℕ → ℕ) → ws d ≡ w → (r : ℕ) → ws r ≡ put d w ws r
same_word d w ws e r = pick (λ v. ws r ≡ v) (r == d) w (ws r) (λ z. ap ws (equal r d z) ∙ e) (λ z. refl)

pub put_row : (c : PlainCode) (f : PlainFunction) (b : List Placed) (ks : List Kind) (hs : ℕ → Holding) (s : State) (d t k : ℕ) (rs : List ℕ) → IsReady c f b ks hs s (I.Put d t k rs) → IsDone c f b ks hs s (I.Put d t k rs)
put_row c f b ks hs s d t k rs g =
    let a = both (nat_lt d f.registers) (is_constructor c.types t k && are_below f.registers rs) g.ranged in
    let e = both (is_constructor c.types t k) (are_below f.registers rs) a.1 in
    let wide = g.wide in
    let long = g.long in
    let within = below d f.registers a.0 in
    let tb : Table = c.types in
    let ws : List ℕ = s.running.words in
    let n : ℕ = length ks in
    let rest = some_of (give_all ks rs (fields tb t k)) g.sources in
    let given_is : AreGiven tb s.store b ks (word_at ws) hs (fields tb t k) rs rest.0 = given tb s.store b ks (word_at ws) hs (fields tb t k) rs rest.0 rest.1 g.meant in
    let left : List Kind = rest.0 in
    let trees : Parts = given_is.trees in
    let credit : at ks d ≡ Credit (length rs) = credit_of (length rs) (at ks d) g.destinations in
    let stays : at left d ≡ Credit (length rs) = given_is.credits d (ap is_credit credit) ∙ credit in
    let m : IsSpare s.store (length rs) (word_at ws d) (hs d) = subst (λ k. Means tb s.store b (at left) hs k (word_at ws d) (hs d)) stays (given_is.meant.each d) in
    let p : ℕ = m.place in
    let there : d < length left = (let z = given_is.wide in omega arith) in
    let lw : length left ≡ n = given_is.wide in
    let size : length (words_of trees) ≡ length rs = ap length given_is.words ∙ length_map (word_at ws) rs in
    let new : Cell = record { tag = k; fields = words_of trees } in
    let wrote : IsWritten s.store p new = is_written s.store p m.cell new g.store m.there (m.size ∙ sym size) in
    let held : (q : ℕ) → owned_uses q (at left d) (hs d) ≡ one_at q p = λ q. ap (λ k. owned_uses q k (hs d)) stays ∙ ap (holding_uses q) m.holds in
    let mid : ℕ → Kind = dropped (is_one d) (at left) in
    let counts : (q : ℕ) → owned_by q mid hs (length left) + (one_at q p + uses_of_all q trees) ≡ owned_by q (at ks) hs n = λ q.
    let x = count_dropped q left hs d there in
    let y = held q in
    let z = given_is.count q in
    let l = ap (owned_by q (at left) hs) lw in
    omega arith in
    let one : one_at p p ≡ 1 = one_here p p refl in
    let off : (q : ℕ) → 0 < owned_by q mid hs (length left) + (uses_of_all q trees + trees_uses q b) → p ≡ q → ⊥ = λ q some is.
    let x = counts p in
    let y = g.once p in
    let z = there_few s.store p in
    let some_p : 0 < owned_by p mid hs (length left) + (uses_of_all p trees + trees_uses p b) = subst (λ q. 0 < owned_by q mid hs (length left) + (uses_of_all q trees + trees_uses q b)) (sym is) some in
    omega arith in
    let past : Past (length left) mid = λ r h. pick (λ k. k ≡ Gone) (r == d) Gone (forget (is_one d) (at left r)) (λ z. refl) (λ z. ap (forget (is_one d)) (at_past left r h)) in
    let meant_mid : AreMeant tb wrote.store b mid (word_at ws) hs = agree tb s.store wrote.store b mid (word_at ws) hs (length left) past (λ q some. wrote.other q (off q (omega arith)))
    (weaken_at tb s.store b (at left) (word_at ws) hs d (credit_not_owned (at left d) (ap is_credit stays)) given_is.meant) in
    let stand : StandAll tb wrote.store (fields tb t k) trees = stand_all_agree tb s.store wrote.store (fields tb t k) trees (λ q some. wrote.other q (off q (omega arith))) given_is.stand in
    let shape = shape_at tb t k e.0 in
    let sized = sized_at s.store.cells p m.cell g.store.sized m.there in
    let positive = sized.0 in
    let sizes = m.size in
    let tree : Placed = At p k trees in
    let stands : Stands tb wrote.store (suc shape.0) tree = (wrote.here, has_part tb wrote.store trees (omega arith), shape.2, shape.3, subst (λ ts. StandAll tb wrote.store ts trees) (ap (λ t. fields tb t k) shape.1 ∙ ap fields_of shape.3) stand) in
    let root : Means tb wrote.store b mid hs (Owned t (k ∷ [])) (word_at ws d) (Tree tree) = record { tree = tree; holds = refl; is = record { word = m.word; stands = subst (λ t. Stands tb wrote.store t tree) (sym shape.1) stands }; top = contains_here k k [] refl } in
    let full : AreMeant tb wrote.store b (put d (Owned t (k ∷ [])) mid) (put d (word_at ws d) (word_at ws)) (put d (Tree tree) hs) = fill tb wrote.store b mid (word_at ws) hs d (Owned t (k ∷ [])) (word_at ws d) (Tree tree) (chosen (d == d) Gone (forget (is_one d) (at left d)) (itself d)) meant_mid root in
    record {
      done = record { at = s.running.at + 1; words = ws; changes = Write p k (words_of trees) ∷ [] };
      is = ap (λ o. R.on_with s (option_and_then (λ p. option_map (λ ws. Write p k ws ∷ []) (R.read_all ws rs)) o)) (place_in_is s d p (omega arith) m.word)
          ∙ ap (λ o. R.on_with s (option_map (λ ws. Write p k ws ∷ []) o)) (read_words ws rs (subst (λ n. are_below n rs ≡ true) (sym (long ∙ wide)) e.1))
          ∙ ap (λ vs. R.on_with s (Some (Write p k vs ∷ []))) (sym given_is.words);
      store = wrote.store;
      changed = wrote.is;
      left = written left d (Owned t (k ∷ []));
      goes = goes_on c f b ks hs s (I.Put d t k rs) (written left d (Owned t (k ∷ []))) g (left, rest.1, refl);
      wide = length_become left _ ∙ lw;
      long = refl;
      holds = put d (Tree tree) hs;
      meant = recast tb wrote.store b (put d (Owned t (k ∷ [])) mid) (at (written left d (Owned t (k ∷ [])))) (word_at ws) (put d (Tree tree) hs) (at_written left d (Owned t (k ∷ [])) there)
          (reword tb wrote.store b (put d (Owned t (k ∷ [])) mid) (put d (word_at ws d) (word_at ws)) (word_at ws) (put d (Tree tree) hs) (same_word d (word_at ws d) (word_at ws) refl) full);
      good = wrote.good;
      cells = wrote.cells;
      elsewhere = λ q none. wrote.other q (λ is.
          let x = counts p in
          let z = subst (λ q. owned_by q (at ks) hs n ≡ 0) (sym is) none in
          omega arith);
      count = λ q.
          let x = count_written q left hs d (Owned t (k ∷ [])) (Tree tree) there in
          let y = held q in
          let z = given_is.count q in
          let v = wrote.released q in
          let l = ap (owned_by q (at left) hs) lw in
          let o = ap (owned_by q (at (written left d (Owned t (k ∷ [])))) (put d (Tree tree) hs)) lw in
          omega arith;
    }
