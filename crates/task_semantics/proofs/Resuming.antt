-- A Ret ends in the same alone and among others.
use Rattle.std.proofs.Common.{◌≡◌, inl, ℕ, ◌+◌, ◌<◌, true, List, [], ◌∷◌, length, Some, slice_set, refl, sym, ap, ap₂, ◌∙◌, subst, arith, nat_lt, ◌==◌}
use Rattle.std.specs.Prelude.{is_some, option_and_then}
use Rattle.run_loading.specs.fip_language.Table.{Table}
use Rattle.run_loading.specs.fip_language.Store.{Placed, Parts, NoParts, MoreParts, word_of, words_of}
use Rattle.run_loading.specs.cell_code.declared.code.Instr.{Instr}
use Rattle.run_loading.specs.cell_code.declared.code.Instr.TheVariants as I
use Rattle.run_loading.specs.cell_code.declared.kind.Kind.{Kind}
use Rattle.run_loading.specs.machine_semantics.Cells.{Store, IsStore}
use Rattle.run_loading.specs.machine_semantics.Trees.{StandAll}
use Rattle.run_loading.specs.cell_code.Plain.{PlainFunction, PlainCode, results_of, results}
use Rattle.run_loading.specs.machine_semantics.Codes as C
use Rattle.run_loading.specs.machine_semantics.Rows.{read_all, write_all}
use Rattle.run_loading.specs.machine_semantics.States.{Frame, State}
use Rattle.run_loading.specs.machine_semantics.Steps.{Kinds, destinations_in, returned, resumed}
use Rattle.run_loading.specs.machine_semantics.Steps as D
use Rattle.run_loading.specs.code_rules.Types.{field_kind}
use Rattle.run_loading.specs.code_rules.Kinds.{at}
use Rattle.run_loading.specs.code_rules.Changes.{written}
use Rattle.run_loading.specs.code_rules.Ranges.{in_range, are_below}
use Rattle.run_loading.specs.code_rules.Asked.{sources, destinations, are_places, can_receive}
use Rattle.run_loading.specs.code_rules.Handing.{give_all}
use Rattle.run_loading.specs.code_rules.Leaves.{received}
use Rattle.run_loading.specs.code_rules.Flow.{is_as_asked, GoesTo}
use Rattle.run_loading.specs.code_rules.Breaks.{IsSound}
use Rattle.run_loading.specs.separation_kinds.Meanings.{word_at}
use Rattle.run_loading.proofs.separation_kinds.Basics.{both, equal, below, length_become}
use Rattle.run_loading.proofs.separation_kinds.KindLemmas.{put}
use Rattle.run_loading.proofs.separation_kinds.Words.{read_words, set_length, set_word, writes}
use Rattle.run_loading.specs.separation.Codes.{AreKinds}
use Rattle.run_loading.specs.separation.Alive.{Frozen, lower_trees, IsWaiting, AreAllWaiting, IsAlive}
use Rattle.run_loading.proofs.separation.Calling.{some_left}
use Rattle.run_loading.proofs.separation.Returning.{run_instr_at}
use Rattle.run_loading.proofs.tree_refinement.Inside.{waits_at}
use Rattle.task_semantics.specs.Projected.{Renaming, renamed, renamed_parts, IsRenamedWord, AreRenamedWords, IsRenamedFrame, AreRenamedFrames, IsProjected}
use Rattle.task_semantics.proofs.AlikeWords.{AreAlike, field_alike, written_alike, reworded_alike, given_alike}
use Rattle.task_semantics.proofs.PlainPairs.{IsPair}
use Rattle.task_semantics.proofs.Arriving.{arrive_alike, arrive_wide}
use Rattle.task_semantics.proofs.Frames.{by_number, words_even, in_order, NextAlike, trees_alike}

-- ---- the registers that get results

record AreReceivedAlike (tb : Table) (f : Renaming) (own shared : Store) (ks : List Kind) (ws vs : List ℕ) (ds ts : List ℕ) (ps : Parts) : Type 0 where
  words : List ℕ
  is : write_all ws ds (words_of ps) ≡ Some words
  mates : List ℕ
  mates_is : write_all vs ds (words_of (renamed_parts f ps)) ≡ Some mates
  long : length words ≡ length ws
  even : length mates ≡ length words
  wide : length (received tb ks ds ts) ≡ length ks
  alike : AreAlike tb f own shared (at (received tb ks ds ts)) (word_at words) (word_at mates)

received_alike : (tb : Table) (f : Renaming) (own shared : Store) (ks : List Kind) (ws vs : List ℕ) (ds ts : List ℕ) (ps : Parts) → length ws ≡ length ks → length vs ≡ length ws → length ds ≡ length ts → are_below (length ks) ds ≡ true → StandAll tb own ts ps → StandAll tb shared ts (renamed_parts f ps) → AreAlike tb f own shared (at ks) (word_at ws) (word_at vs) → AreReceivedAlike tb f own shared ks ws vs ds ts ps
received_alike tb f own shared ks ws vs [] [] NoParts w v l b g h m = record { words = ws; is = refl; mates = vs; mates_is = refl; long = refl; even = v; wide = refl; alike = m }
received_alike tb f own shared ks ws vs [] [] (MoreParts x xs) w v l b g h m = absurd g
received_alike tb f own shared ks ws vs [] (t ∷ ts) ps w v l b g h m = absurd (let z : ⊥ = omega arith in z)
received_alike tb f own shared ks ws vs (d ∷ ds) [] ps w v l b g h m = absurd (let z : ⊥ = omega arith in z)
received_alike tb f own shared ks ws vs (d ∷ ds) (t ∷ ts) NoParts w v l b g h m = absurd g
received_alike tb f own shared ks ws vs (d ∷ ds) (t ∷ ts) (MoreParts x xs) w v l b g h m =
    let e = both (nat_lt d (length ks)) (are_below (length ks) ds) b in
    let there = below d (length ks) e.0 in
    let within : d < length ws = omega arith in
    let among : d < length vs = omega arith in
    let k : Kind = field_kind tb t in
    let next : List Kind = written ks d k in
    let wide : length next ≡ length ks = length_become ks _ in
    let us : List ℕ = slice_set ws d (word_of x) in
    let xs' : List ℕ = slice_set vs d (word_of (renamed f x)) in
    let long : length us ≡ length ws = set_length ws d (word_of x) in
    let also : length xs' ≡ length vs = set_length vs d (word_of (renamed f x)) in
    let word : IsRenamedWord tb f own shared k (word_of x) (word_of (renamed f x)) = field_alike tb f own shared t (word_of x) (word_of (renamed f x)) (record { tree = x; alone = record { word = refl; stands = g.0 }; among = record { word = refl; stands = h.0 } }) in
    let alike : AreAlike tb f own shared (at next) (word_at us) (word_at xs') = reworded_alike tb f own shared (at next) (put d (word_of x) (word_at ws)) (word_at us) (put d (word_of (renamed f x)) (word_at vs)) (word_at xs') (set_word ws d (word_of x) within) (set_word vs d (word_of (renamed f x)) among)
    (written_alike tb f own shared ks (word_at ws) (word_at vs) d k (word_of x) (word_of (renamed f x)) there m word) in
    let rest = received_alike tb f own shared next us xs' ds ts xs (long ∙ w ∙ sym wide) (also ∙ v ∙ sym long) (omega arith) (subst (λ n. are_below n ds ≡ true) (sym wide) e.1) g.1 h.1 alike in
    record {
      words = rest.words;
      is = ap (λ o. option_and_then (λ us. write_all us ds (words_of xs)) o) (writes ws d (word_of x) within) ∙ rest.is;
      mates = rest.mates;
      mates_is = ap (λ o. option_and_then (λ us. write_all us ds (words_of (renamed_parts f xs))) o) (writes vs d (word_of (renamed f x)) among) ∙ rest.mates_is;
      long = rest.long ∙ long;
      even = rest.even;
      wide = rest.wide ∙ wide;
      alike = rest.alike;
    }

-- ---- the frame below goes on, or the run is over

resumed_alike : (f : Renaming) (c : PlainCode) (before waits : Kinds) (types : List ℕ) (s u : State) (n : ℕ) (lent : List Placed) (w v : Frame) (below under : List Frame) (g : Frozen) (gs : List Frozen) (trees : Parts) → IsSound c → AreKinds c before waits → IsStore u.store → IsProjected before waits c f s u → StandAll c.types s.store (results c n) trees → StandAll c.types u.store (results c n) (renamed_parts f trees) → IsWaiting c s.store (lower_trees gs lent) n w g → IsRenamedFrame c.types f s.store u.store (waits w.function w.at) w v → AreRenamedFrames c.types f s.store u.store waits below under → NextAlike before waits c f types s u (resumed s w below (option_and_then (λ ds. write_all w.words ds (words_of trees)) (D.destinations c w))) (resumed u v under (option_and_then (λ ds. write_all v.words ds (words_of (renamed_parts f trees))) (D.destinations c v)))
resumed_alike f c before waits types s u n lent w v below under g gs trees sound kinds good whole stand among i m rest =
    let call : Instr = I.Call i.callee i.sources i.destinations in
    let p = both (in_range c i.function w.at call) _ i.asked in
    let q = both (sources c i.function i.before call) (destinations c i.before call) p.1 in
    let a = both (nat_lt i.callee (length c.functions)) _ p.0 in
    let b = both (are_below i.function.registers i.sources) (are_below i.function.registers i.destinations) a.1 in
    let receive : can_receive (Some g.kinds) (length (results c i.callee)) i.destinations ≡ true = subst (λ o. can_receive o (length (results c i.callee)) i.destinations ≡ true) i.left q.1 in
    let d = both (length i.destinations == length (results c i.callee)) (are_places g.kinds i.destinations) receive in
    let wait = waits_at c before waits s.store (lower_trees gs lent) n w g kinds i in
    let old : AreRenamedWords c.types f s.store u.store g.kinds g.words v.words = subst (λ ks. AreRenamedWords c.types f s.store u.store ks g.words v.words) wait (subst (λ us. AreRenamedWords c.types f s.store u.store (waits w.function w.at) us v.words) i.words m.words) in
    let even = words_even c.types f s.store u.store g.kinds g.words v.words old in
    let got : AreReceivedAlike c.types f s.store u.store g.kinds g.words v.words i.destinations (results c i.callee) trees = received_alike c.types f s.store u.store g.kinds g.words v.words i.destinations (results c i.callee) trees i.long even (equal (length i.destinations) (length (results c i.callee)) d.0)
    (subst (λ m. are_below m i.destinations ≡ true) (sym i.wide) b.1)
    (subst (λ ts. StandAll c.types s.store ts trees) (sym i.results) stand)
    (subst (λ ts. StandAll c.types u.store ts (renamed_parts f trees)) (sym i.results) among)
    (by_number c.types f s.store u.store g.kinds g.words v.words old) in
    let left : List Kind = received c.types g.kinds i.destinations (results c i.callee) in
    let goes : GoesTo c i.function w.at (w.at + 1) left = record { kinds = i.before; instr = call; reached = record { known = i.known; instr = i.instr }; asked = i.asked; goes = inl (omega arith, (g.kinds, i.left, refl)) } in
    let alike : AreAlike c.types f s.store u.store (at (before w.function (w.at + 1))) (word_at got.words) (word_at got.mates) = arrive_alike f c before waits w.function w.at (w.at + 1) i.function s.store u.store left (word_at got.words) (word_at got.mates) sound kinds i.is goes got.alike in
    let wide : length (before w.function (w.at + 1)) ≡ length got.words = arrive_wide c before waits w.function w.at (w.at + 1) i.function left sound kinds i.is goes ∙ got.wide ∙ sym (got.long ∙ i.long) in
    let instr : C.instr_at c w.function w.at ≡ Some call = run_instr_at c w.function w.at i.function call i.is i.instr in
    let to : D.destinations c w ≡ Some i.destinations = ap destinations_in instr in
    let also : D.destinations c v ≡ Some i.destinations = ap₂ (λ n j. destinations_in (C.instr_at c n j)) m.function m.at ∙ to in
    let write : write_all w.words i.destinations (words_of trees) ≡ Some got.words = ap (λ ws. write_all ws i.destinations (words_of trees)) i.words ∙ got.is in
    subst (λ o. NextAlike before waits c f types s u (resumed s w below (option_and_then (λ ds. write_all w.words ds (words_of trees)) o)) (resumed u v under (option_and_then (λ ds. write_all v.words ds (words_of (renamed_parts f trees))) (D.destinations c v)))) (sym to)
    (subst (λ o. NextAlike before waits c f types s u (resumed s w below (write_all w.words i.destinations (words_of trees))) (resumed u v under (option_and_then (λ ds. write_all v.words ds (words_of (renamed_parts f trees))) o))) (sym also)
    (subst (λ o. NextAlike before waits c f types s u (resumed s w below o) (resumed u v under (write_all v.words i.destinations (words_of (renamed_parts f trees))))) (sym write)
    (subst (λ o. NextAlike before waits c f types s u (resumed s w below (Some got.words)) (resumed u v under o)) (sym got.mates_is) (record {
      state = record {
        cells = whole.cells;
        running = record {
          function = m.function;
          at = ap (λ i. i + 1) m.at;
          words = in_order c.types f s.store u.store (before w.function (w.at + 1)) got.words got.mates (sym wide) got.even alike;
        };
        waiting = rest;
        free = ap (λ n. n + 1) whole.free;
        lent = whole.lent;
      };
      good = good;
      there = λ q. refl;
      beyond = λ q none. (refl, refl);
    }))))

returned_alike : (f : Renaming) (c : PlainCode) (before waits : Kinds) (types : List ℕ) (s u : State) (n : ℕ) (lent : List Placed) (ws vs : List Frame) (gs : List Frozen) (trees : Parts) → IsSound c → AreKinds c before waits → IsStore u.store → IsProjected before waits c f s u → StandAll c.types s.store (results c n) trees → StandAll c.types u.store (results c n) (renamed_parts f trees) → AreAllWaiting c s.store lent types n ws gs → AreRenamedFrames c.types f s.store u.store waits ws vs → NextAlike before waits c f types s u (returned c s ws (Some (words_of trees))) (returned c u vs (Some (words_of (renamed_parts f trees))))
returned_alike f c before waits types s u n lent [] [] [] trees sound kinds good whole stand among a m = trees_alike c.types f s.store u.store types trees (subst (λ ts. StandAll c.types s.store ts trees) a stand) (subst (λ ts. StandAll c.types u.store ts (renamed_parts f trees)) a among)
returned_alike f c before waits types s u n lent [] [] (g ∷ gs) trees sound kinds good whole stand among a m = absurd a
returned_alike f c before waits types s u n lent [] (v ∷ vs) gs trees sound kinds good whole stand among a m = absurd m
returned_alike f c before waits types s u n lent (w ∷ ws) [] gs trees sound kinds good whole stand among a m = absurd m
returned_alike f c before waits types s u n lent (w ∷ ws) (v ∷ vs) [] trees sound kinds good whole stand among a m = absurd a
returned_alike f c before waits types s u n lent (w ∷ ws) (v ∷ vs) (g ∷ gs) trees sound kinds good whole stand among a m = resumed_alike f c before waits types s u n lent w v ws vs g gs trees sound kinds good whole stand among a.0 m.0 m.1

pub ret_alike : (f : Renaming) (c : PlainCode) (before waits : Kinds) (types kept : List ℕ) (s u : State) (rs : List ℕ) → IsSound c → AreKinds c before waits → (a : IsAlive c types kept s) → IsProjected before waits c f s u → IsPair f c a.kinds s u → is_as_asked c a.function s.running.at a.kinds (I.Ret rs) ≡ true → NextAlike before waits c f types s u (returned c s s.waiting (read_all s.running.words rs)) (returned c u u.waiting (read_all u.running.words rs))
ret_alike f c before waits types kept s u rs sound kinds a m pair asked =
    let fn : PlainFunction = a.function in
    let ws : List ℕ = s.running.words in
    let vs : List ℕ = u.running.words in
    let p = both (are_below fn.registers rs) _ asked in
    let t = both (is_some (give_all a.kinds rs fn.results)) (destinations c a.kinds (I.Ret rs)) p.1 in
    let left = some_left (give_all a.kinds rs fn.results) t.0 in
    let below : List Placed = lower_trees a.frozen a.lent in
    let g = given_alike c.types f s.store u.store below a.kinds (word_at ws) (word_at vs) a.holds fn.results rs left.0 left.1 a.meant pair.alike in
    let read : read_all ws rs ≡ Some (words_of g.trees) = read_words ws rs (subst (λ m. are_below m rs ≡ true) (sym (a.long ∙ a.wide)) p.0) ∙ ap Some (sym g.words) in
    let also : read_all vs rs ≡ Some (words_of (renamed_parts f g.trees)) = read_words vs rs (subst (λ m. are_below m rs ≡ true) (sym (pair.long ∙ a.long ∙ a.wide)) p.0) ∙ ap Some (sym g.mates) in
    let types_are : results c s.running.function ≡ fn.results = ap results_of a.is in
    let stand : StandAll c.types s.store (results c s.running.function) g.trees = subst (λ ts. StandAll c.types s.store ts g.trees) (sym types_are) g.stand in
    let among : StandAll c.types u.store (results c s.running.function) (renamed_parts f g.trees) = subst (λ ts. StandAll c.types u.store ts (renamed_parts f g.trees)) (sym types_are) g.among in
    subst (λ o. NextAlike before waits c f types s u (returned c s s.waiting o) (returned c u u.waiting (read_all vs rs))) (sym read)
    (subst (λ o. NextAlike before waits c f types s u (returned c s s.waiting (Some (words_of g.trees))) (returned c u u.waiting o)) (sym also)
    (returned_alike f c before waits types s u s.running.function a.lent s.waiting u.waiting a.frozen g.trees sound kinds pair.good m stand among a.waiting m.waiting))
