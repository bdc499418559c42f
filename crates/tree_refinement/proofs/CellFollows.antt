-- Instructions that change cells: Put, Free, Drop. On trees the same comes of them.
use Rattle.std.proofs.Common.{◌≡◌, ℕ, suc, ◌+◌, ◌<◌, ◌≤◌, true, ◌&&◌, List, [], ◌∷◌, length, map, Option, Some, None, slice_get, refl, sym, ap, ◌∙◌, subst, true≢false, arith, nat_lt, ◌==◌}
use Rattle.std.specs.Prelude.{option_and_then, option_map, is_some}
use Rattle.tree_semantics.specs.fip_language.Values.{Node}
use Rattle.tree_semantics.specs.fip_language.Table.{Table}
use Rattle.tree_semantics.specs.fip_language.Store.{Cell, Placed, At, Parts, NoParts, MoreParts, places, words_of, uses, uses_of_all, one_at, count}
use Rattle.separation_bounds.specs.cell_code.declared.code.Instr.{Instr}
use Rattle.separation_bounds.specs.cell_code.declared.code.Instr.TheVariants as I
use Rattle.separation_bounds.specs.cell_code.declared.kind.Kind.{Kind}
use Rattle.separation_bounds.specs.cell_code.declared.kind.Kind.TheVariants.{Gone, Scalar, Owned, Lent, Credit}
use Rattle.tree_semantics.specs.machine_semantics.Words.{place_word, place_of}
use Rattle.tree_semantics.specs.machine_semantics.Cells.{Release, Write, there}
use Rattle.tree_semantics.specs.machine_semantics.Trees.{HasPart, Stands, StandAll}
use Rattle.tree_semantics.specs.machine_semantics.States.{State}
use Rattle.separation_bounds.specs.cell_code.Plain.{PlainFunction, PlainCode}
use Rattle.tree_semantics.specs.machine_semantics.Rows as R
use Rattle.tree_semantics.specs.machine_semantics.Apart.{Holding, holding_uses, owned_uses, trees_uses}
use Rattle.tree_semantics.specs.Contents.{Contents}
use Rattle.tree_semantics.specs.Contents as T
use Rattle.tree_semantics.specs.States as U
use Rattle.tree_semantics.specs.Steps as N
use Rattle.separation_bounds.specs.code_rules.Types.{fields, fields_of}
use Rattle.separation_bounds.specs.code_rules.Kinds.{at, kind_or_gone, is_owned, is_credit}
use Rattle.separation_bounds.specs.code_rules.Ranges.{are_below, is_constructor}
use Rattle.separation_bounds.specs.code_rules.Changes.{written, used_up, forget}
use Rattle.separation_bounds.specs.code_rules.Handing.{give_all}
use Rattle.separation_bounds.specs.code_rules.Leaves.{Leaves}
use Rattle.separation_bounds.specs.separation_kinds.Meanings.{Means, AreMeant, IsSpare, word_at, owned_by}
use Rattle.separation_bounds.proofs.separation_kinds.Basics.{pick, chosen, both, equal, below, at_past, length_map, sum_same}
use Rattle.separation_bounds.proofs.separation_kinds.KindLemmas.{put, dropped, is_one, at_written}
use Rattle.separation_bounds.proofs.separation_kinds.Changing.{weaken_at, count_used_up, count_gone, credit_not_owned}
use Rattle.separation_bounds.proofs.separation_kinds.Agree.{one_here, Past, agree, stand_all_agree}
use Rattle.separation_bounds.proofs.separation_kinds.Words.{word_get, read_words}
use Rattle.separation_bounds.proofs.separation_kinds.Giving.{credit_of, AreGiven, given}
use Rattle.separation_bounds.proofs.separation_kinds.Passing.{credit_within}
use Rattle.separation_bounds.specs.separation.Rows.{IsReady}
use Rattle.separation_bounds.proofs.separation.Reading.{place_is}
use Rattle.separation_bounds.proofs.separation.Stores.{there_few, sized_at, IsWritten, is_written, AreReleased, are_released, count_places}
use Rattle.separation_bounds.proofs.separation.Depth.{tree_found}
use Rattle.separation_bounds.proofs.separation.PlainRows.{goes_on}
use Rattle.separation_bounds.proofs.separation.CellRows.{shape_at}
use Rattle.tree_refinement.specs.Agreement.{IsWordOf, AreShown}
use Rattle.tree_refinement.proofs.Values.{used_up_shown, gone_shown, dropped_shown, filled_shown, reworded_shown, stored_shown, agreed_shown, given_shown}
use Rattle.tree_refinement.proofs.PlainFollows.{Follows, on_is}
use Rattle.tree_semantics.proofs.machine_semantics.cell_code.fip_base.fip_language.Facts.{some_of}

-- ---- releases

-- an instruction that releases these cells, which the frame owned
released_follows : (c : PlainCode) (f : PlainFunction) (b : List Placed) (ks : List Kind) (hs : ℕ → Holding) (s : State) (x : Instr) (ps : List ℕ) (left : List Kind) (t : U.State) (n : U.Next) → IsReady c f b ks hs s x → s.running.at ≡ t.running.at → R.done c.types ks s x ≡ Some (record { at = s.running.at + 1; words = s.running.words; changes = map (λ p. Release p) ps }) → Leaves c ks x left → ((q : ℕ) → count q ps ≤ owned_by q (at ks) hs (length ks)) → n ≡ N.on t t.running.contents → AreShown c.types s.store (at left) (word_at s.running.words) t.running.contents → Follows c f ks s x t n
released_follows c f b ks hs s x ps left t n g same is leaves counts next shown =
    let r : AreReleased s.store ps = are_released s.store ps g.store (λ q. let a = counts q in let o = g.once q in omega arith) in
    record {
      done = record { at = s.running.at + 1; words = s.running.words; changes = map (λ p. Release p) ps };
      is = is;
      store = r.store;
      changed = r.is;
      left = left;
      goes = goes_on c f b ks hs s x left g leaves;
      contents = t.running.contents;
      next = next ∙ on_is s t t.running.contents same;
      shown = stored_shown c.types s.store r.store (at left) (word_at s.running.words) t.running.contents r.same shown;
    }

credit_is : (k : Kind) → is_credit k ≡ true → (n : ℕ) × (k ≡ Credit n)
credit_is Gone e = absurd (true≢false (sym e))
credit_is (Scalar t) e = absurd (true≢false (sym e))
credit_is (Owned t cs) e = absurd (true≢false (sym e))
credit_is (Lent t cs root from) e = absurd (true≢false (sym e))
credit_is (Credit n) e = (n, refl)

owned_is : (k : Kind) → is_owned k ≡ true → (t : ℕ) × (cs : List ℕ) × (k ≡ Owned t cs)
owned_is Gone e = absurd (true≢false (sym e))
owned_is (Scalar t) e = absurd (true≢false (sym e))
owned_is (Owned t cs) e = (t, cs, refl)
owned_is (Lent t cs root from) e = absurd (true≢false (sym e))
owned_is (Credit n) e = absurd (true≢false (sym e))

place_in_is : (s : State) (r p : ℕ) → r < length s.running.words → place_word p ≡ word_at s.running.words r → R.place_in s r ≡ Some p
place_in_is s r p h e = ap (λ o. option_and_then (λ w. place_of w) o) (word_get s.running.words r h) ∙ place_is p (word_at s.running.words r) e

pub free_follows : (c : PlainCode) (f : PlainFunction) (b : List Placed) (ks : List Kind) (hs : ℕ → Holding) (s : State) (code : PlainCode) (t : U.State) (r : ℕ) → IsReady c f b ks hs s (I.Free r) → s.running.at ≡ t.running.at → AreShown c.types s.store (at ks) (word_at s.running.words) t.running.contents → Follows c f ks s (I.Free r) t (N.act code t (I.Free r))
free_follows c f b ks hs s code t r g same shown =
    let wide = g.wide in
    let long = g.long in
    let source = below r f.registers g.ranged in
    let k = credit_is (at ks r) g.sources in
    let m : IsSpare s.store k.0 (word_at s.running.words r) (hs r) = subst (λ k. Means c.types s.store b (at ks) hs k (word_at s.running.words r) (hs r)) k.1 (g.meant.each r) in
    let there = credit_within ks r k.0 k.1 in
    released_follows c f b ks hs s (I.Free r) (m.place ∷ []) (written ks r Gone) t _ g same
    (ap (λ o. R.on_with s (option_map (λ p. Release p ∷ []) o)) (place_in_is s r m.place (omega arith) m.word))
    refl
    (λ q.
    let a = count_gone q ks hs r there in
    let e = ap (λ k. owned_uses q k (hs r)) k.1 in
    let h = ap (holding_uses q) m.holds in
    omega arith)
    refl
    (gone_shown c.types s.store ks (word_at s.running.words) t.running.contents r there shown)

type_of_owned : (o : Option Kind) (t : ℕ) (cs : List ℕ) → kind_or_gone o ≡ Owned t cs → R.owned_type o ≡ Some t
type_of_owned None t cs e = absurd (true≢false (sym (ap is_owned e)))
type_of_owned (Some k) t cs e = ap (λ k. R.owned_type (Some k)) e

pub drop_follows : (c : PlainCode) (f : PlainFunction) (b : List Placed) (ks : List Kind) (hs : ℕ → Holding) (s : State) (code : PlainCode) (t : U.State) (r : ℕ) → IsReady c f b ks hs s (I.Drop r) → s.running.at ≡ t.running.at → AreShown c.types s.store (at ks) (word_at s.running.words) t.running.contents → Follows c f ks s (I.Drop r) t (N.act code t (I.Drop r))
drop_follows c f b ks hs s code t r g same shown =
    let wide = g.wide in
    let long = g.long in
    let source = below r f.registers g.ranged in
    let ws : List ℕ = s.running.words in
    let k = owned_is (at ks r) g.sources in
    let m = subst (λ k. Means c.types s.store b (at ks) hs k (word_at ws r) (hs r)) k.2 (g.meant.each r) in
    let counts : (q : ℕ) → uses q m.tree ≤ owned_by q (at ks) hs (length ks) = λ q.
    let a = count_used_up q ks hs r g.sources in
    let e = ap (λ k. owned_uses q k (hs r)) k.2 in
    let h = ap (holding_uses q) m.holds in
    omega arith in
    released_follows c f b ks hs s (I.Drop r) (places m.tree) (used_up ks r) t _ g same
    (ap (λ o. R.on_with s (option_and_then (λ w. R.dropped c.types s w (R.owned_type (slice_get ks r))) o)) (word_get ws r (omega arith))
    ∙ ap (λ o. R.on_with s (R.dropped c.types s (word_at ws r) o)) (type_of_owned (slice_get ks r) k.0 k.1 k.2)
    ∙ ap (λ o. R.on_with s (option_map (λ x. map (λ p. Release p) (places x)) o)) (tree_found c.types s.store k.0 (word_at ws r) m.tree (λ q. let a = counts q in let o = g.once q in omega arith) m.is))
    refl
    (λ q. let a = counts q in let e = count_places q m.tree in omega arith)
    refl
    (used_up_shown c.types s.store ks r (word_at ws) t.running.contents shown)

-- ---- Put

at_gone : (ks : List Kind) (d : ℕ) → d < length ks → (r : ℕ) → at (written ks d Gone) r ≡ dropped (is_one d) (at ks) r
at_gone ks d there r = at_written ks d Gone there r ∙ pick (λ k. k ≡ dropped (is_one d) (at ks) r) (r == d) Gone (dropped (is_one d) (at ks) r) (λ e. sym (chosen (r == d) Gone (forget (is_one d) (at ks r)) e)) (λ e. refl)

count_dropped : (q : ℕ) (ks : List Kind) (hs : ℕ → Holding) (d : ℕ) → d < length ks → owned_by q (dropped (is_one d) (at ks)) hs (length ks) + owned_uses q (at ks d) (hs d) ≡ owned_by q (at ks) hs (length ks)
count_dropped q ks hs d there =
    let a = count_gone q ks hs d there in
    let e : owned_by q (at (written ks d Gone)) hs (length ks) ≡ owned_by q (dropped (is_one d) (at ks)) hs (length ks) = sum_same (λ r. owned_uses q (at (written ks d Gone) r) (hs r)) (λ r. owned_uses q (dropped (is_one d) (at ks) r) (hs r)) 0 (length ks) (λ r low high. ap (λ k. owned_uses q k (hs r)) (at_gone ks d there r)) in
    omega arith

has_part : (xs : Parts) → 0 < length (words_of xs) → HasPart xs
has_part NoParts h = absurd (let z : ⊥ = omega arith in z)
has_part (MoreParts x xs) h = tt

same_word : (d w : ℕ) (ws : ℕ → ℕ) → ws d ≡ w → (r : ℕ) → ws r ≡ put d w ws r
same_word d w ws e r = pick (λ v. ws r ≡ v) (r == d) w (ws r) (λ z. ap ws (equal r d z) ∙ e) (λ z. refl)

pub put_follows : (c : PlainCode) (f : PlainFunction) (b : List Placed) (ks : List Kind) (hs : ℕ → Holding) (s : State) (code : PlainCode) (t : U.State) (d u k : ℕ) (rs : List ℕ) → IsReady c f b ks hs s (I.Put d u k rs) → s.running.at ≡ t.running.at → AreShown c.types s.store (at ks) (word_at s.running.words) t.running.contents → Follows c f ks s (I.Put d u k rs) t (N.act code t (I.Put d u k rs))
put_follows c f b ks hs s code t d u k rs g same shown =
    let a = both (nat_lt d f.registers) (is_constructor c.types u k && are_below f.registers rs) g.ranged in
    let e = both (is_constructor c.types u k) (are_below f.registers rs) a.1 in
    let wide = g.wide in
    let long = g.long in
    let within = below d f.registers a.0 in
    let tb : Table = c.types in
    let ws : List ℕ = s.running.words in
    let cs : Contents = t.running.contents in
    let n : ℕ = length ks in
    let rest = some_of (give_all ks rs (fields tb u k)) g.sources in
    let given_is : AreGiven tb s.store b ks (word_at ws) hs (fields tb u k) rs rest.0 = given tb s.store b ks (word_at ws) hs (fields tb u k) rs rest.0 rest.1 g.meant in
    let values = given_shown tb s.store ks (word_at ws) cs (fields tb u k) rs rest.0 rest.1 shown in
    let left : List Kind = rest.0 in
    let trees : Parts = given_is.trees in
    let credit : at ks d ≡ Credit (length rs) = credit_of (length rs) (at ks d) g.destinations in
    let stays : at left d ≡ Credit (length rs) = given_is.credits d (ap is_credit credit) ∙ credit in
    let m : IsSpare s.store (length rs) (word_at ws d) (hs d) = subst (λ k. Means tb s.store b (at left) hs k (word_at ws d) (hs d)) stays (given_is.meant.each d) in
    let p : ℕ = m.place in
    let there : d < length left = (let z = given_is.wide in omega arith) in
    let lw : length left ≡ n = given_is.wide in
    let size : length (words_of trees) ≡ length rs = ap length given_is.words ∙ length_map (word_at ws) rs in
    let new : Cell = record { tag = k; fields = words_of trees } in
    let wrote : IsWritten s.store p new = is_written s.store p m.cell new g.store m.there (m.size ∙ sym size) in
    let held : (q : ℕ) → owned_uses q (at left d) (hs d) ≡ one_at q p = λ q. ap (λ k. owned_uses q k (hs d)) stays ∙ ap (holding_uses q) m.holds in
    let mid : ℕ → Kind = dropped (is_one d) (at left) in
    let counts : (q : ℕ) → owned_by q mid hs (length left) + (one_at q p + uses_of_all q trees) ≡ owned_by q (at ks) hs n = λ q.
    let x = count_dropped q left hs d there in
    let y = held q in
    let z = given_is.count q in
    let l = ap (owned_by q (at left) hs) lw in
    omega arith in
    let one : one_at p p ≡ 1 = one_here p p refl in
    let off : (q : ℕ) → 0 < owned_by q mid hs (length left) + (uses_of_all q trees + trees_uses q b) → p ≡ q → ⊥ = λ q some is.
    let x = counts p in
    let y = g.once p in
    let z = there_few s.store p in
    let some_p : 0 < owned_by p mid hs (length left) + (uses_of_all p trees + trees_uses p b) = subst (λ q. 0 < owned_by q mid hs (length left) + (uses_of_all q trees + trees_uses q b)) (sym is) some in
    omega arith in
    let past : Past (length left) mid = λ r h. pick (λ k. k ≡ Gone) (r == d) Gone (forget (is_one d) (at left r)) (λ z. refl) (λ z. ap (forget (is_one d)) (at_past left r h)) in
    let meant_old : AreMeant tb s.store b mid (word_at ws) hs = weaken_at tb s.store b (at left) (word_at ws) hs d (credit_not_owned (at left d) (ap is_credit stays)) given_is.meant in
    let meant_mid : AreMeant tb wrote.store b mid (word_at ws) hs = agree tb s.store wrote.store b mid (word_at ws) hs (length left) past (λ q some. wrote.other q (off q (omega arith))) meant_old in
    let shown_mid : AreShown tb wrote.store mid (word_at ws) cs = agreed_shown tb s.store wrote.store b b mid mid (word_at ws) hs cs meant_old meant_mid (dropped_shown tb s.store (is_one d) (at left) (word_at ws) cs values.shown) in
    let stand : StandAll tb wrote.store (fields tb u k) trees = stand_all_agree tb s.store wrote.store (fields tb u k) trees (λ q some. wrote.other q (off q (omega arith))) given_is.stand in
    let shape = shape_at tb u k e.0 in
    let sized = sized_at s.store.cells p m.cell g.store.sized m.there in
    let positive = sized.0 in
    let sizes = m.size in
    let tree : Placed = At p k trees in
    let stands : Stands tb wrote.store (suc shape.0) tree = (wrote.here, has_part trees (omega arith), shape.2, shape.3, subst (λ ts. StandAll tb wrote.store ts trees) (ap (λ t. fields tb t k) shape.1 ∙ ap fields_of shape.3) stand) in
    let word : IsWordOf tb wrote.store u (word_at ws d) (Node k (T.read_all cs rs)) = (tree, record { word = m.word; stands = subst (λ t. Stands tb wrote.store t tree) (sym shape.1) stands }, ap (Node k) (values.values trees given_is.stand given_is.words)) in
    record {
      done = record { at = s.running.at + 1; words = ws; changes = Write p k (words_of trees) ∷ [] };
      is = ap (λ o. R.on_with s (option_and_then (λ p. option_map (λ ws. Write p k ws ∷ []) (R.read_all ws rs)) o)) (place_in_is s d p (omega arith) m.word)
          ∙ ap (λ o. R.on_with s (option_map (λ ws. Write p k ws ∷ []) o)) (read_words ws rs (subst (λ n. are_below n rs ≡ true) (sym (long ∙ wide)) e.1))
          ∙ ap (λ vs. R.on_with s (Some (Write p k vs ∷ []))) (sym given_is.words);
      store = wrote.store;
      changed = wrote.is;
      left = written left d (Owned u (k ∷ []));
      goes = goes_on c f b ks hs s (I.Put d u k rs) (written left d (Owned u (k ∷ []))) g (left, rest.1, refl);
      contents = T.put cs d (Node k (T.read_all cs rs));
      next = on_is s t (T.put cs d (Node k (T.read_all cs rs))) same;
      shown = reworded_shown tb wrote.store (at (written left d (Owned u (k ∷ [])))) (put d (word_at ws d) (word_at ws)) (word_at ws) (T.put cs d (Node k (T.read_all cs rs))) (same_word d (word_at ws d) (word_at ws) refl)
          (filled_shown tb wrote.store left (word_at ws) cs d (Owned u (k ∷ [])) (word_at ws d) (Node k (T.read_all cs rs)) there shown_mid word);
    }
