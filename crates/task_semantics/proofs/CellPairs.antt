-- Instructions that change cells, alone and among others: Free, Drop, Put.
use Rattle.std.proofs.Common.{◌≡◌, ℕ, suc, ◌+◌, ◌<◌, ◌≤◌, true, ◌&&◌, List, [], ◌∷◌, length, map, Option, Some, None, slice_get, refl, sym, ap, ◌∙◌, subst, true≢false, arith, nat_lt, ◌==◌}
use Rattle.std.specs.Prelude.{option_and_then, option_map, is_some}
use Rattle.run_loading.specs.fip_language.Table.{Table}
use Rattle.run_loading.specs.fip_language.Store.{Cell, Placed, At, Parts, NoParts, MoreParts, places, words_of, uses, uses_of_all, one_at, count}
use Rattle.run_loading.specs.cell_code.declared.code.Instr.{Instr}
use Rattle.run_loading.specs.cell_code.declared.code.Instr.TheVariants as I
use Rattle.run_loading.specs.cell_code.declared.kind.Kind.{Kind}
use Rattle.run_loading.specs.cell_code.declared.kind.Kind.TheVariants.{Gone, Scalar, Owned, Lent, Credit}
use Rattle.run_loading.specs.machine_semantics.Words.{place_word, place_of}
use Rattle.run_loading.specs.machine_semantics.Cells.{Store, Release, Write, cell_at, there, released_at}
use Rattle.run_loading.specs.machine_semantics.Trees.{HasPart, Stands, StandAll, IsTree}
use Rattle.run_loading.specs.machine_semantics.States.{State}
use Rattle.run_loading.specs.machine_semantics.Rows as R
use Rattle.run_loading.specs.machine_semantics.Apart.{Holding, holding_uses, owned_uses, trees_uses}
use Rattle.run_loading.specs.cell_code.Plain.{PlainFunction, PlainCode}
use Rattle.run_loading.specs.code_rules.Types.{fields, fields_of}
use Rattle.run_loading.specs.code_rules.Kinds.{at, kind_or_gone, is_owned, is_credit}
use Rattle.run_loading.specs.code_rules.Ranges.{are_below, is_constructor}
use Rattle.run_loading.specs.code_rules.Changes.{written, used_up, forget}
use Rattle.run_loading.specs.code_rules.Handing.{give_all}
use Rattle.run_loading.specs.code_rules.Leaves.{Leaves}
use Rattle.run_loading.specs.separation_kinds.Meanings.{Means, AreMeant, IsSpare, word_at, owned_by}
use Rattle.run_loading.proofs.separation_kinds.Basics.{pick, chosen, both, equal, below, at_past, length_map, sum_same}
use Rattle.run_loading.proofs.separation_kinds.KindLemmas.{put, dropped, is_one, at_written}
use Rattle.run_loading.proofs.separation_kinds.Changing.{weaken_at, count_used_up, count_gone, credit_not_owned}
use Rattle.run_loading.proofs.separation_kinds.Agree.{one_here, Past, stand_all_agree}
use Rattle.run_loading.proofs.separation_kinds.Words.{word_get, read_words}
use Rattle.run_loading.proofs.separation_kinds.Giving.{credit_of, AreGiven, given}
use Rattle.run_loading.proofs.separation_kinds.Passing.{credit_within}
use Rattle.run_loading.specs.separation.Rows.{IsReady}
use Rattle.run_loading.proofs.separation.Reading.{place_is}
use Rattle.run_loading.proofs.separation.Stores.{there_few, sized_at, IsWritten, is_written, AreReleased, are_released, count_places}
use Rattle.run_loading.proofs.separation.Depth.{tree_found}
use Rattle.run_loading.proofs.separation.PlainRows.{goes_on}
use Rattle.run_loading.proofs.separation.CellRows.{shape_at}
use Rattle.run_loading.proofs.tree_refinement.Values.{same_parts}
use Rattle.task_semantics.specs.Projected.{Renaming, renamed_word, renamed, renamed_parts, IsThere, IsRenamedTree, IsRenamedWord}
use Rattle.task_semantics.proofs.Renamings.{place_renamed, like_of_parts, some_there, renamed_all_uses, places_renamed}
use Rattle.task_semantics.proofs.SameCells.{one_place, there_some, mate_of, few_renamed, written_renamed, written_beyond, released_renamed, released_beyond}
use Rattle.task_semantics.proofs.AlikeWords.{AreAlike, used_up_alike, gone_alike, dropped_alike, filled_alike, reworded_alike, stored_alike, same_uses, kept_alike, given_alike}
use Rattle.task_semantics.proofs.PlainPairs.{IsPair, Pairs}
use Rattle.run_loading.proofs.tree_refinement.tree_semantics.machine_semantics.cell_code.fip_base.fip_language.Facts.{some_of}

-- ---- releases

-- an instruction that releases these cells, which the frame owned
released_pair : (f : Renaming) (c : PlainCode) (fn : PlainFunction) (b : List Placed) (ks : List Kind) (hs : ℕ → Holding) (s u : State) (x : Instr) (ps : List ℕ) (left : List Kind) → IsReady c fn b ks hs s x → IsPair f c ks s u → R.done c.types ks s x ≡ Some (record { at = s.running.at + 1; words = s.running.words; changes = map (λ p. Release p) ps }) → R.done c.types ks u x ≡ Some (record { at = u.running.at + 1; words = u.running.words; changes = map (λ p. Release p) (map f ps) }) → Leaves c ks x left → ((q : ℕ) → count q ps ≤ owned_by q (at ks) hs (length ks)) → AreAlike c.types f s.store u.store (at left) (word_at s.running.words) (word_at u.running.words) → Pairs f c fn ks hs s u x
released_pair f c fn b ks hs s u x ps left g m is also leaves counts alike =
    let few : (q : ℕ) → count q ps + released_at s.store q ≤ there s.store q = λ q. let a = counts q in let o = g.once q in omega arith in
    let all : (q : ℕ) → 0 < count q ps → IsThere s.store q = λ q some. there_some s.store q (let z = few q in omega arith) in
    let r : AreReleased s.store ps = are_released s.store ps g.store few in
    let v : AreReleased u.store (map f ps) = are_released u.store (map f ps) m.good (few_renamed f s.store u.store ps m.cells m.good few) in
    record {
      done = record { at = s.running.at + 1; words = s.running.words; changes = map (λ p. Release p) ps };
      is = is;
      store = r.store;
      changed = r.is;
      mate = record { at = u.running.at + 1; words = u.running.words; changes = map (λ p. Release p) (map f ps) };
      mate_is = also;
      other = v.store;
      other_changed = v.is;
      good = v.good;
      to = ap (λ i. i + 1) m.instr;
      long = m.long;
      left = left;
      goes = goes_on c fn b ks hs s x left g leaves;
      alike = stored_alike c.types f s.store r.store u.store v.store (at left) (word_at s.running.words) (word_at u.running.words) r.same v.same alike;
      cells = released_renamed f s.store u.store ps m.cells all r v;
      beyond = released_beyond f s.store u.store ps all v;
      elsewhere = λ q there none. v.same (f q);
    }

credit_is : (k : Kind) → is_credit k ≡ true → (n : ℕ) × (k ≡ Credit n)
credit_is Gone e = absurd (true≢false (sym e))
credit_is (Scalar t) e = absurd (true≢false (sym e))
credit_is (Owned t cs) e = absurd (true≢false (sym e))
credit_is (Lent t cs root from) e = absurd (true≢false (sym e))
credit_is (Credit n) e = (n, refl)

owned_is : (k : Kind) → is_owned k ≡ true → (t : ℕ) × (cs : List ℕ) × (k ≡ Owned t cs)
owned_is Gone e = absurd (true≢false (sym e))
owned_is (Scalar t) e = absurd (true≢false (sym e))
owned_is (Owned t cs) e = (t, cs, refl)
owned_is (Lent t cs root from) e = absurd (true≢false (sym e))
owned_is (Credit n) e = absurd (true≢false (sym e))

place_in_is : (s : State) (r p : ℕ) → r < length s.running.words → place_word p ≡ word_at s.running.words r → R.place_in s r ≡ Some p
place_in_is s r p h e = ap (λ o. option_and_then (λ w. place_of w) o) (word_get s.running.words r h) ∙ place_is p (word_at s.running.words r) e

-- the credit's cell among others
credit_renamed : (tb : Table) (f : Renaming) (own shared : Store) (k : Kind) (n w v p : ℕ) → k ≡ Credit n → place_word p ≡ w → IsRenamedWord tb f own shared k w v → place_word (f p) ≡ v
credit_renamed tb f own shared k n w v p e word i =
    let same : v ≡ renamed_word f w = subst (λ k. IsRenamedWord tb f own shared k w v) e i in
    place_renamed f p w word ∙ sym same

frees : (s : State) (r p : ℕ) → r < length s.running.words → place_word p ≡ word_at s.running.words r → R.on_with s (R.freed s r) ≡ Some (record { at = s.running.at + 1; words = s.running.words; changes = Release p ∷ [] })
frees s r p h e = ap (λ o. R.on_with s (option_map (λ p. Release p ∷ []) o)) (place_in_is s r p h e)

pub free_pair : (f : Renaming) (c : PlainCode) (fn : PlainFunction) (b : List Placed) (ks : List Kind) (hs : ℕ → Holding) (s u : State) (r : ℕ) → IsReady c fn b ks hs s (I.Free r) → IsPair f c ks s u → Pairs f c fn ks hs s u (I.Free r)
free_pair f c fn b ks hs s u r g m =
    let wide = g.wide in
    let long = g.long in
    let even = m.long in
    let source = below r fn.registers g.ranged in
    let ws : List ℕ = s.running.words in
    let vs : List ℕ = u.running.words in
    let k = credit_is (at ks r) g.sources in
    let spare : IsSpare s.store k.0 (word_at ws r) (hs r) = subst (λ k. Means c.types s.store b (at ks) hs k (word_at ws r) (hs r)) k.1 (g.meant.each r) in
    let there = credit_within ks r k.0 k.1 in
    released_pair f c fn b ks hs s u (I.Free r) (spare.place ∷ []) (written ks r Gone) g m
    (frees s r spare.place (omega arith) spare.word)
    (frees u r (f spare.place) (omega arith) (credit_renamed c.types f s.store u.store (at ks r) k.0 (word_at ws r) (word_at vs r) spare.place k.1 spare.word (m.alike.each r)))
    refl
    (λ q.
    let a = count_gone q ks hs r there in
    let e = ap (λ k. owned_uses q k (hs r)) k.1 in
    let h = ap (holding_uses q) spare.holds in
    omega arith)
    (gone_alike c.types f s.store u.store ks (word_at ws) (word_at vs) r there m.alike)

type_of_owned : (o : Option Kind) (t : ℕ) (cs : List ℕ) → kind_or_gone o ≡ Owned t cs → R.owned_type o ≡ Some t
type_of_owned None t cs e = absurd (true≢false (sym (ap is_owned e)))
type_of_owned (Some k) t cs e = ap (λ k. R.owned_type (Some k)) e

drops : (c : PlainCode) (ks : List Kind) (s : State) (r t : ℕ) (cs : List ℕ) (x : Placed) → r < length s.running.words → at ks r ≡ Owned t cs → ((q : ℕ) → uses q x ≤ there s.store q) → IsTree c.types s.store t (word_at s.running.words r) x → R.done c.types ks s (I.Drop r) ≡ Some (record { at = s.running.at + 1; words = s.running.words; changes = map (λ p. Release p) (places x) })
drops c ks s r t cs x h k few g =
    ap (λ o. R.on_with s (option_and_then (λ w. R.dropped c.types s w (R.owned_type (slice_get ks r))) o)) (word_get s.running.words r h)
    ∙ ap (λ o. R.on_with s (R.dropped c.types s (word_at s.running.words r) o)) (type_of_owned (slice_get ks r) t cs k)
    ∙ ap (λ o. R.on_with s (option_map (λ x. map (λ p. Release p) (places x)) o)) (tree_found c.types s.store t (word_at s.running.words r) x few g)

pub drop_pair : (f : Renaming) (c : PlainCode) (fn : PlainFunction) (b : List Placed) (ks : List Kind) (hs : ℕ → Holding) (s u : State) (r : ℕ) → IsReady c fn b ks hs s (I.Drop r) → IsPair f c ks s u → Pairs f c fn ks hs s u (I.Drop r)
drop_pair f c fn b ks hs s u r g m =
    let wide = g.wide in
    let long = g.long in
    let even = m.long in
    let source = below r fn.registers g.ranged in
    let ws : List ℕ = s.running.words in
    let vs : List ℕ = u.running.words in
    let k = owned_is (at ks r) g.sources in
    let means = subst (λ k. Means c.types s.store b (at ks) hs k (word_at ws r) (hs r)) k.2 (g.meant.each r) in
    let i : IsRenamedTree c.types f s.store u.store k.0 (word_at ws r) (word_at vs r) = subst (λ k. IsRenamedWord c.types f s.store u.store k (word_at ws r) (word_at vs r)) k.2 (m.alike.each r) in
    let x : Placed = i.tree in
    let counts : (q : ℕ) → uses q x ≤ owned_by q (at ks) hs (length ks) = λ q.
    let a = count_used_up q ks hs r g.sources in
    let e = ap (λ k. owned_uses q k (hs r)) k.2 in
    let h = ap (holding_uses q) means.holds in
    let z = same_uses c.types s.store k.0 (word_at ws r) x means.tree q i.alone means.is in
    omega arith in
    let numbers : (q : ℕ) → count q (places x) ≤ owned_by q (at ks) hs (length ks) = λ q. let a = counts q in let e = count_places q x in omega arith in
    let few : (q : ℕ) → count q (places x) + released_at s.store q ≤ there s.store q = λ q. let a = numbers q in let o = g.once q in omega arith in
    let among : (q : ℕ) → uses q (renamed f x) ≤ there u.store q = λ q.
    let a = few_renamed f s.store u.store (places x) m.cells m.good few q in
    let e = count_places q (renamed f x) in
    let z = ap (count q) (places_renamed f x) in
    omega arith in
    released_pair f c fn b ks hs s u (I.Drop r) (places x) (used_up ks r) g m
    (drops c ks s r k.0 k.1 x (omega arith) k.2 (λ q. let a = counts q in let o = g.once q in omega arith) i.alone)
    (drops c ks u r k.0 k.1 (renamed f x) (omega arith) k.2 among i.among ∙ ap (λ ps. Some (record { at = u.running.at + 1; words = vs; changes = map (λ p. Release p) ps })) (places_renamed f x))
    refl
    numbers
    (used_up_alike c.types f s.store u.store ks r (word_at ws) (word_at vs) m.alike)

-- ---- Put

at_gone : (ks : List Kind) (d : ℕ) → d < length ks → (r : ℕ) → at (written ks d Gone) r ≡ dropped (is_one d) (at ks) r
at_gone ks d there r = at_written ks d Gone there r ∙ pick (λ k. k ≡ dropped (is_one d) (at ks) r) (r == d) Gone (dropped (is_one d) (at ks) r) (λ e. sym (chosen (r == d) Gone (forget (is_one d) (at ks r)) e)) (λ e. refl)

count_dropped : (q : ℕ) (ks : List Kind) (hs : ℕ → Holding) (d : ℕ) → d < length ks → owned_by q (dropped (is_one d) (at ks)) hs (length ks) + owned_uses q (at ks d) (hs d) ≡ owned_by q (at ks) hs (length ks)
count_dropped q ks hs d there =
    let a = count_gone q ks hs d there in
    let e : owned_by q (at (written ks d Gone)) hs (length ks) ≡ owned_by q (dropped (is_one d) (at ks)) hs (length ks) = sum_same (λ r. owned_uses q (at (written ks d Gone) r) (hs r)) (λ r. owned_uses q (dropped (is_one d) (at ks) r) (hs r)) 0 (length ks) (λ r low high. ap (λ k. owned_uses q k (hs r)) (at_gone ks d there r)) in
    omega arith

has_part : (xs : Parts) → 0 < length (words_of xs) → HasPart xs
has_part NoParts h = absurd (let z : ⊥ = omega arith in z)
has_part (MoreParts x xs) h = tt

same_word : (d w : ℕ) (ws : ℕ → ℕ) → ws d ≡ w → (r : ℕ) → ws r ≡ put d w ws r
same_word d w ws e r = pick (λ v. ws r ≡ v) (r == d) w (ws r) (λ z. ap ws (equal r d z) ∙ e) (λ z. refl)

puts : (c : PlainCode) (ks : List Kind) (s : State) (d t k p : ℕ) (rs us : List ℕ) → d < length s.running.words → are_below (length s.running.words) rs ≡ true → place_word p ≡ word_at s.running.words d → us ≡ map (word_at s.running.words) rs → R.done c.types ks s (I.Put d t k rs) ≡ Some (record { at = s.running.at + 1; words = s.running.words; changes = Write p k us ∷ [] })
puts c ks s d t k p rs us h b e is =
    ap (λ o. R.on_with s (option_and_then (λ p. option_map (λ ws. Write p k ws ∷ []) (R.read_all s.running.words rs)) o)) (place_in_is s d p h e)
    ∙ ap (λ o. R.on_with s (option_map (λ ws. Write p k ws ∷ []) o)) (read_words s.running.words rs b)
    ∙ ap (λ vs. R.on_with s (Some (Write p k vs ∷ []))) (sym is)

pub put_pair : (f : Renaming) (c : PlainCode) (fn : PlainFunction) (b : List Placed) (ks : List Kind) (hs : ℕ → Holding) (s u : State) (d t k : ℕ) (rs : List ℕ) → IsReady c fn b ks hs s (I.Put d t k rs) → IsPair f c ks s u → Pairs f c fn ks hs s u (I.Put d t k rs)
put_pair f c fn b ks hs s u d t k rs g m =
    let a = both (nat_lt d fn.registers) (is_constructor c.types t k && are_below fn.registers rs) g.ranged in
    let e = both (is_constructor c.types t k) (are_below fn.registers rs) a.1 in
    let wide = g.wide in
    let long = g.long in
    let even = m.long in
    let within = below d fn.registers a.0 in
    let tb : Table = c.types in
    let ts : List ℕ = fields tb t k in
    let ws : List ℕ = s.running.words in
    let vs : List ℕ = u.running.words in
    let n : ℕ = length ks in
    let rest = some_of (give_all ks rs ts) g.sources in
    let left : List Kind = rest.0 in
    let given_is : AreGiven tb s.store b ks (word_at ws) hs ts rs left = given tb s.store b ks (word_at ws) hs ts rs left rest.1 g.meant in
    let both_given = given_alike tb f s.store u.store b ks (word_at ws) (word_at vs) hs ts rs left rest.1 g.meant m.alike in
    let trees : Parts = both_given.trees in
    let mates : Parts = renamed_parts f trees in
    let same : trees ≡ given_is.trees = same_parts tb s.store ts trees given_is.trees both_given.stand given_is.stand (both_given.words ∙ sym given_is.words) in
    let credit : at ks d ≡ Credit (length rs) = credit_of (length rs) (at ks d) g.destinations in
    let stays : at left d ≡ Credit (length rs) = given_is.credits d (ap is_credit credit) ∙ credit in
    let spare : IsSpare s.store (length rs) (word_at ws d) (hs d) = subst (λ k. Means tb s.store b (at left) hs k (word_at ws d) (hs d)) stays (given_is.meant.each d) in
    let p : ℕ = spare.place in
    let named : place_word (f p) ≡ word_at vs d = credit_renamed tb f s.store u.store (at ks d) (length rs) (word_at ws d) (word_at vs d) p credit spare.word (m.alike.each d) in
    let here : IsThere s.store p = some_there spare.cell (cell_at s.store p) spare.there in
    let there : d < length left = (let z = given_is.wide in omega arith) in
    let lw : length left ≡ n = given_is.wide in
    let size : length (words_of trees) ≡ length rs = ap length both_given.words ∙ length_map (word_at ws) rs in
    let mate_size : length (words_of mates) ≡ length rs = ap length both_given.mates ∙ length_map (word_at vs) rs in
    let new : Cell = record { tag = k; fields = words_of trees } in
    let mate_new : Cell = record { tag = k; fields = words_of mates } in
    let mate = mate_of f s.store u.store p spare.cell m.cells spare.there in
    let wrote : IsWritten s.store p new = is_written s.store p spare.cell new g.store spare.there (spare.size ∙ sym size) in
    let also : IsWritten u.store (f p) mate_new = is_written u.store (f p) mate.cell mate_new m.good mate.is (mate.size ∙ spare.size ∙ sym mate_size) in
    let held : (q : ℕ) → owned_uses q (at left d) (hs d) ≡ one_at q p = λ q. ap (λ k. owned_uses q k (hs d)) stays ∙ ap (holding_uses q) spare.holds in
    let mid : ℕ → Kind = dropped (is_one d) (at left) in
    let counts : (q : ℕ) → owned_by q mid hs (length left) + (one_at q p + uses_of_all q trees) ≡ owned_by q (at ks) hs n = λ q.
    let x = count_dropped q left hs d there in
    let y = held q in
    let z = given_is.count q in
    let l = ap (owned_by q (at left) hs) lw in
    let v = ap (uses_of_all q) same in
    omega arith in
    let one : one_at p p ≡ 1 = one_here p p refl in
    let off : (q : ℕ) → 0 < owned_by q mid hs (length left) + (uses_of_all q trees + trees_uses q b) → p ≡ q → ⊥ = λ q some is.
    let x = counts p in
    let y = g.once p in
    let z = there_few s.store p in
    let some_p : 0 < owned_by p mid hs (length left) + (uses_of_all p trees + trees_uses p b) = subst (λ q. 0 < owned_by q mid hs (length left) + (uses_of_all q trees + trees_uses q b)) (sym is) some in
    omega arith in
    let away : (q : ℕ) → 0 < owned_by q mid hs (length left) + (uses_of_all q trees + trees_uses q b) → f p ≡ f q → ⊥ = λ q some z.
    let there_q : IsThere s.store q = there_some s.store q (let x = counts q in let y = g.once q in omega arith) in
    off q some (one_place f s.store u.store p q m.cells here there_q z) in
    let past : Past (length left) mid = λ r h. pick (λ k. k ≡ Gone) (r == d) Gone (forget (is_one d) (at left r)) (λ z. refl) (λ z. ap (forget (is_one d)) (at_past left r h)) in
    let meant_old : AreMeant tb s.store b mid (word_at ws) hs = weaken_at tb s.store b (at left) (word_at ws) hs d (credit_not_owned (at left d) (ap is_credit stays)) given_is.meant in
    let alike_mid : AreAlike tb f wrote.store also.store mid (word_at ws) (word_at vs) = kept_alike tb f s.store wrote.store u.store also.store b mid (word_at ws) (word_at vs) hs (length left) past meant_old
    (record { alone = λ q some. wrote.other q (off q (omega arith)); among = λ q some. also.other (f q) (away q (omega arith)) })
    (dropped_alike tb f s.store u.store (is_one d) (at left) (word_at ws) (word_at vs) both_given.alike) in
    let stand : StandAll tb wrote.store ts trees = stand_all_agree tb s.store wrote.store ts trees (λ q some. wrote.other q (off q (omega arith))) both_given.stand in
    let among : StandAll tb also.store ts mates = stand_all_agree tb u.store also.store ts mates (λ q some.
    let r = renamed_all_uses f trees q some in
    let more = r.2 in
    subst (λ q. cell_at also.store q ≡ cell_at u.store q) r.1 (also.other (f r.0) (away r.0 (omega arith)))) both_given.among in
    let shape = shape_at tb t k e.0 in
    let sized = sized_at s.store.cells p spare.cell g.store.sized spare.there in
    let positive = sized.0 in
    let sizes = spare.size in
    let typed : ts ≡ shape.2.fields = ap (λ t. fields tb t k) shape.1 ∙ ap fields_of shape.3 in
    let stands : Stands tb wrote.store (suc shape.0) (At p k trees) = (wrote.here, has_part trees (omega arith), shape.2, shape.3, subst (λ ts. StandAll tb wrote.store ts trees) typed stand) in
    let mate_stands : Stands tb also.store (suc shape.0) (At (f p) k mates) = (also.here, has_part mates (omega arith), shape.2, shape.3, subst (λ ts. StandAll tb also.store ts mates) typed among) in
    let tree : IsRenamedTree tb f wrote.store also.store t (word_at ws d) (word_at vs d) = record {
      tree = At p k trees;
      alone = record { word = spare.word; stands = subst (λ t. Stands tb wrote.store t (At p k trees)) (sym shape.1) stands };
      among = record { word = named; stands = subst (λ t. Stands tb also.store t (At (f p) k mates)) (sym shape.1) mate_stands };
    } in
    record {
      done = record { at = s.running.at + 1; words = ws; changes = Write p k (words_of trees) ∷ [] };
      is = puts c ks s d t k p rs (words_of trees) (omega arith) (subst (λ n. are_below n rs ≡ true) (sym (long ∙ wide)) e.1) spare.word both_given.words;
      store = wrote.store;
      changed = wrote.is;
      mate = record { at = u.running.at + 1; words = vs; changes = Write (f p) k (words_of mates) ∷ [] };
      mate_is = puts c ks u d t k (f p) rs (words_of mates) (omega arith) (subst (λ n. are_below n rs ≡ true) (sym (even ∙ long ∙ wide)) e.1) named both_given.mates;
      other = also.store;
      other_changed = also.is;
      good = also.good;
      to = ap (λ i. i + 1) m.instr;
      long = even;
      left = written left d (Owned t (k ∷ []));
      goes = goes_on c fn b ks hs s (I.Put d t k rs) (written left d (Owned t (k ∷ []))) g (left, rest.1, refl);
      alike = reworded_alike tb f wrote.store also.store (at (written left d (Owned t (k ∷ [])))) (put d (word_at ws d) (word_at ws)) (word_at ws) (put d (word_at vs d) (word_at vs)) (word_at vs)
          (same_word d (word_at ws d) (word_at ws) refl) (same_word d (word_at vs d) (word_at vs) refl)
          (filled_alike tb f wrote.store also.store left (word_at ws) (word_at vs) d (Owned t (k ∷ [])) (word_at ws d) (word_at vs d) there alike_mid tree);
      cells = written_renamed f s.store u.store p spare.cell new mate_new m.cells spare.there wrote also refl (like_of_parts f trees);
      beyond = written_beyond f s.store u.store p mate_new here also;
      elsewhere = λ q there_q none. also.other (f q) (λ z.
          let is : p ≡ q = one_place f s.store u.store p q m.cells here there_q z in
          let x = counts p in
          let y = subst (λ q. owned_by q (at ks) hs n ≡ 0) (sym is) none in
          let w : ⊥ = omega arith in
          w);
    }
