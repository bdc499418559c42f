-- Ret: the frame that waits gets the results, or the run is over.
use Rattle.std.proofs.Common.{◌≡◌, inl, ℕ, ◌+◌, true, List, [], ◌∷◌, length, map, Some, slice_get, refl, sym, ap, ◌∙◌, subst, arith, nat_lt, ◌==◌}
use Rattle.std.specs.Prelude.{is_some, option_and_then}
use Rattle.separation_kinds.specs.fip_language.Store.{Placed, Parts, words_of, uses_of_all, count}
use Rattle.separation_kinds.specs.cell_code.declared.code.Instr.{Instr}
use Rattle.separation_kinds.specs.cell_code.declared.code.Instr.TheVariants as I
use Rattle.separation_kinds.specs.cell_code.declared.kind.Kind.{Kind}
use Rattle.separation_kinds.specs.machine_semantics.Cells.{IsStore, there, released_at}
use Rattle.separation_kinds.specs.machine_semantics.Trees.{StandAll}
use Rattle.separation_kinds.specs.cell_code.Plain.{PlainFunction, PlainCode, function_at, results_of, results}
use Rattle.separation_kinds.specs.machine_semantics.Codes as R
use Rattle.separation_kinds.specs.machine_semantics.Rows.{read_all, write_all}
use Rattle.separation_kinds.specs.machine_semantics.States.{Frame, State}
use Rattle.separation_kinds.specs.machine_semantics.Steps.{destinations_in, returned, resumed}
use Rattle.separation_kinds.specs.machine_semantics.Steps as T
use Rattle.separation_kinds.specs.machine_semantics.Apart.{frames_uses, trees_uses, AreTrees}
use Rattle.separation_kinds.specs.code_rules.Kinds.{at, are_free}
use Rattle.separation_kinds.specs.code_rules.Ranges.{in_range, are_below}
use Rattle.separation_kinds.specs.code_rules.Asked.{sources, destinations, are_places, can_receive}
use Rattle.separation_kinds.specs.code_rules.Handing.{give_all, arguments}
use Rattle.separation_kinds.specs.code_rules.Endings.{nothing_owned}
use Rattle.separation_kinds.specs.code_rules.Leaves.{received}
use Rattle.separation_kinds.specs.code_rules.Flow.{IsInstr, is_as_asked, GoesTo}
use Rattle.separation_kinds.specs.code_rules.Breaks.{IsSound}
use Rattle.separation_kinds.specs.Meanings.{owned_by, word_at}
use Rattle.separation_kinds.proofs.Basics.{both, equal}
use Rattle.separation_kinds.proofs.Words.{read_words}
use Rattle.separation_kinds.proofs.Giving.{AreGiven, given}
use Rattle.separation_kinds.proofs.Receiving.{AreReceived, are_received}
use Rattle.separation.specs.Alive.{Frozen, frozen_slots, lower_trees, IsWaiting, AreAllWaiting, IsAlive, IsGood}
use Rattle.separation.proofs.Sound.{spends}
use Rattle.separation.proofs.Lower.{slots_owned}
use Rattle.separation.proofs.Arrive.{arrive}
use Rattle.separation.proofs.Calling.{free_sum, some_left}

pub run_instr_at : (c : PlainCode) (n i : ℕ) (f : PlainFunction) (x : Instr) → function_at c n ≡ Some f → slice_get f.instrs i ≡ Some x → R.instr_at c n i ≡ Some x
run_instr_at c n i f x is at = ap (λ o. R.instr_in o i) is ∙ at

-- the results that a frame gives
pub record Returns (c : PlainCode) (types kept : List ℕ) (s : State) (n : ℕ) (lent : List Placed) (gs : List Frozen) : Type 0 where
  pub trees : Parts
  pub stand : StandAll c.types s.store (results c n) trees
  pub once : (q : ℕ) → uses_of_all q trees + (frames_uses q (map frozen_slots gs) + (trees_uses q lent + (count q kept + released_at s.store q))) ≡ there s.store q

resumed_good : (c : PlainCode) (types kept : List ℕ) (s : State) (n : ℕ) (lent : List Placed) (w : Frame) (below : List Frame) (g : Frozen) (gs : List Frozen) → IsSound c → IsStore s.store → AreTrees c.types s.store s.lent lent → (r : Returns c types kept s n lent (g ∷ gs)) → IsWaiting c s.store (lower_trees gs lent) n w g → AreAllWaiting c s.store lent types w.function below gs → IsGood c types kept s (resumed s w below (option_and_then (λ ds. write_all w.words ds (words_of r.trees)) (T.destinations c w)))
resumed_good c types kept s n lent w below g gs sound store arguments r i rest =
    let call : Instr = I.Call i.callee i.sources i.destinations in
    let p = both (in_range c i.function w.at call) _ i.asked in
    let q = both (sources c i.function i.before call) (destinations c i.before call) p.1 in
    let a = both (nat_lt i.callee (length c.functions)) _ p.0 in
    let b = both (are_below i.function.registers i.sources) (are_below i.function.registers i.destinations) a.1 in
    let receive : can_receive (Some g.kinds) (length (results c i.callee)) i.destinations ≡ true = subst (λ o. can_receive o (length (results c i.callee)) i.destinations ≡ true) i.left q.1 in
    let d = both (length i.destinations == length (results c i.callee)) (are_places g.kinds i.destinations) receive in
    let got : AreReceived c.types s.store (lower_trees gs lent) g.kinds g.words g.holds i.destinations (results c i.callee) r.trees = are_received c.types s.store (lower_trees gs lent) g.kinds g.words g.holds i.destinations (results c i.callee) r.trees i.long (equal (length i.destinations) (length (results c i.callee)) d.0) d.1
    (subst (λ m. are_below m i.destinations ≡ true) (sym i.wide) b.1) (subst (λ ts. StandAll c.types s.store ts r.trees) (sym i.results) r.stand) i.meant in
    let left : List Kind = received c.types g.kinds i.destinations (results c i.callee) in
    let goes : GoesTo c i.function w.at (w.at + 1) left = record { kinds = i.before; instr = call; reached = record { known = i.known; instr = i.instr }; asked = i.asked; goes = inl (omega arith, (g.kinds, i.left, refl)) } in
    let z = arrive c w.function w.at (w.at + 1) i.function s.store (lower_trees gs lent) left (word_at got.words) got.holds sound i.is goes got.meant in
    let to : T.destinations c w ≡ Some i.destinations = ap destinations_in (run_instr_at c w.function w.at i.function call i.is i.instr) in
    let written : write_all w.words i.destinations (words_of r.trees) ≡ Some got.words = ap (λ ws. write_all ws i.destinations (words_of r.trees)) i.words ∙ got.is in
    subst (λ o. IsGood c types kept s (resumed s w below (option_and_then (λ ds. write_all w.words ds (words_of r.trees)) o))) (sym to) (subst (λ o. IsGood c types kept s (resumed s w below o)) (sym written) (record {
      store = store;
      function = i.function;
      is = i.is;
      kinds = z.kinds;
      known = z.known;
      instr = z.instr;
      is_instr = z.is_instr;
      wide = z.wide ∙ got.wide ∙ i.wide;
      long = got.long ∙ i.long ∙ sym (z.wide ∙ got.wide);
      holds = got.holds;
      frozen = gs;
      lent = lent;
      meant = z.meant;
      waiting = rest;
      arguments = arguments;
      once = λ q.
          let e = r.once q in
          let x = got.count q in
          let y = z.count q in
          let l = ap (owned_by q (at left) got.holds) got.wide in
          let v = slots_owned q g.kinds (word_at g.words) g.holds in
          omega arith;
    }))

returned_good : (c : PlainCode) (types kept : List ℕ) (s : State) (n : ℕ) (lent : List Placed) (ws : List Frame) (gs : List Frozen) → IsSound c → IsStore s.store → AreTrees c.types s.store s.lent lent → (r : Returns c types kept s n lent gs) → AreAllWaiting c s.store lent types n ws gs → IsGood c types kept s (returned c s ws (Some (words_of r.trees)))
returned_good c types kept s n lent [] [] sound store arguments r a = record {
  results = r.trees;
  words = refl;
  stand = subst (λ ts. StandAll c.types s.store ts r.trees) a r.stand;
  lent = lent;
  arguments = arguments;
  once = λ q. let e = r.once q in omega arith;
}
returned_good c types kept s n lent [] (g ∷ gs) sound store arguments r a = absurd a
returned_good c types kept s n lent (w ∷ ws) [] sound store arguments r a = absurd a
returned_good c types kept s n lent (w ∷ ws) (g ∷ gs) sound store arguments r a = resumed_good c types kept s n lent w ws g gs sound store arguments r a.0 a.1

pub ret_good : (c : PlainCode) (types kept : List ℕ) (s : State) (rs : List ℕ) → IsSound c → (a : IsAlive c types kept s) → IsInstr a.function s.running.at (I.Ret rs) → is_as_asked c a.function s.running.at a.kinds (I.Ret rs) ≡ true → IsGood c types kept s (returned c s s.waiting (read_all s.running.words rs))
ret_good c types kept s rs sound a instr asked =
    let f : PlainFunction = a.function in
    let p = both (are_below f.registers rs) _ asked in
    let t = both (is_some (give_all a.kinds rs f.results)) (destinations c a.kinds (I.Ret rs)) p.1 in
    let left = some_left (give_all a.kinds rs f.results) t.0 in
    let free : are_free left.0 ≡ true = subst (λ o. nothing_owned o ≡ true) left.1 (spends c s.running.function s.running.at f a.kinds (I.Ret rs) sound a.is (record { known = a.known; instr = instr })) in
    let below : List Placed = lower_trees a.frozen a.lent in
    let g : AreGiven c.types s.store below a.kinds (word_at s.running.words) a.holds f.results rs left.0 = given c.types s.store below a.kinds (word_at s.running.words) a.holds f.results rs left.0 left.1 a.meant in
    let read : read_all s.running.words rs ≡ Some (words_of g.trees) = read_words s.running.words rs (subst (λ m. are_below m rs ≡ true) (sym (a.long ∙ a.wide)) p.0) ∙ ap Some (sym g.words) in
    let returns : Returns c types kept s s.running.function a.lent a.frozen = record {
      trees = g.trees;
      stand = subst (λ ts. StandAll c.types s.store ts g.trees) (sym (ap results_of a.is)) g.stand;
      once = λ q. let x = g.count q in let y = free_sum q left.0 a.holds (length a.kinds) free in let o = a.once q in omega arith;
    } in
    subst (λ o. IsGood c types kept s (returned c s s.waiting o)) (sym read) (returned_good c types kept s s.running.function a.lent s.waiting a.frozen sound a.store a.arguments returns a.waiting)
