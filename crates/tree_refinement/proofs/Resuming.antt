-- A Ret ends in the same on cells and on trees.
use Rattle.std.proofs.Common.{◌≡◌, inl, ℕ, suc, ◌+◌, ◌<◌, true, List, [], ◌∷◌, length, Some, slice_set, refl, sym, ap, ◌∙◌, subst, arith, nat_lt, ◌==◌}
use Rattle.std.specs.Prelude.{is_some, option_and_then}
use Rattle.tree_semantics.specs.fip_language.Table.{Table}
use Rattle.tree_semantics.specs.fip_language.Store.{Placed, Parts, NoParts, MoreParts, word_of, words_of, value_of, values_of}
use Rattle.separation_bounds.specs.cell_code.declared.code.Instr.{Instr}
use Rattle.separation_bounds.specs.cell_code.declared.code.Instr.TheVariants as I
use Rattle.separation_bounds.specs.cell_code.declared.kind.Kind.{Kind}
use Rattle.separation_bounds.specs.cell_code.declared.kind.Kind.TheVariants.{Scalar, Owned}
use Rattle.tree_semantics.specs.machine_semantics.Cells.{Store}
use Rattle.tree_semantics.specs.machine_semantics.Trees.{StandAll, IsTree}
use Rattle.separation_bounds.specs.cell_code.Plain.{PlainFunction, PlainCode, results_of, results}
use Rattle.tree_semantics.specs.machine_semantics.Codes as C
use Rattle.tree_semantics.specs.machine_semantics.Rows.{read_all, write_all}
use Rattle.tree_semantics.specs.machine_semantics.States.{Frame, State}
use Rattle.tree_semantics.specs.machine_semantics.Steps.{Kinds, destinations_in, returned, resumed}
use Rattle.tree_semantics.specs.machine_semantics.Steps as D
use Rattle.tree_semantics.specs.Contents.{Contents}
use Rattle.tree_semantics.specs.Contents as T
use Rattle.tree_semantics.specs.States as U
use Rattle.tree_semantics.specs.Steps as N
use Rattle.separation_bounds.specs.code_rules.Types.{is_scalar_type, all, field_kind}
use Rattle.separation_bounds.specs.code_rules.Kinds.{at}
use Rattle.separation_bounds.specs.code_rules.Changes.{written}
use Rattle.separation_bounds.specs.code_rules.Ranges.{in_range, are_below}
use Rattle.separation_bounds.specs.code_rules.Asked.{sources, destinations, are_places, can_receive}
use Rattle.separation_bounds.specs.code_rules.Handing.{give_all}
use Rattle.separation_bounds.specs.code_rules.Leaves.{received}
use Rattle.separation_bounds.specs.code_rules.Flow.{is_as_asked, GoesTo}
use Rattle.separation_bounds.specs.code_rules.Breaks.{IsSound}
use Rattle.separation_bounds.specs.separation_kinds.Meanings.{word_at}
use Rattle.separation_bounds.proofs.separation_kinds.Basics.{pick, both, equal, below, length_become}
use Rattle.separation_bounds.proofs.separation_kinds.KindLemmas.{put}
use Rattle.separation_bounds.proofs.separation_kinds.Words.{read_words, set_length, set_word, writes}
use Rattle.separation_bounds.proofs.separation_kinds.Giving.{AreGiven, given}
use Rattle.separation_bounds.specs.separation.Codes.{AreKinds}
use Rattle.separation_bounds.specs.separation.Alive.{Frozen, lower_trees, IsWaiting, AreAllWaiting, IsAlive}
use Rattle.separation_bounds.proofs.separation.Calling.{some_left}
use Rattle.separation_bounds.proofs.separation.Returning.{run_instr_at}
use Rattle.tree_refinement.specs.Agreement.{type_in, Shows, AreShown, IsSameFrame, AreSameFrames, IsSame, IsSameNext}
use Rattle.tree_refinement.proofs.Values.{written_shown, reworded_shown, given_shown}
use Rattle.tree_refinement.proofs.Arriving.{arrive_shown}
use Rattle.tree_refinement.proofs.Inside.{waits_at}

-- ---- the registers that get results

record AreReceivedOn (tb : Table) (s : Store) (ks : List Kind) (ws : List ℕ) (cs : Contents) (ds ts : List ℕ) (ps : Parts) : Type 0 where
  words : List ℕ
  is : write_all ws ds (words_of ps) ≡ Some words
  shown : AreShown tb s (at (received tb ks ds ts)) (word_at words) (T.put_all cs ds (values_of ps))

field_shows : (tb : Table) (s : Store) (t : ℕ) (x : Placed) → IsTree tb s t (word_of x) x → Shows tb s (type_in (field_kind tb t)) (word_of x) (value_of x)
field_shows tb s t x g = pick (λ k. Shows tb s (type_in k) (word_of x) (value_of x)) (is_scalar_type tb t) (Scalar t) (Owned t (all tb t)) (λ e. (x, g, refl)) (λ e. (x, g, refl))

received_on : (tb : Table) (s : Store) (ks : List Kind) (ws : List ℕ) (cs : Contents) (ds ts : List ℕ) (ps : Parts) → length ws ≡ length ks → length ds ≡ length ts → are_below (length ks) ds ≡ true → StandAll tb s ts ps → AreShown tb s (at ks) (word_at ws) cs → AreReceivedOn tb s ks ws cs ds ts ps
received_on tb s ks ws cs [] [] NoParts w l b g m = record { words = ws; is = refl; shown = m }
received_on tb s ks ws cs [] [] (MoreParts x xs) w l b g m = absurd g
received_on tb s ks ws cs [] (t ∷ ts) ps w l b g m = absurd (omega arith)
received_on tb s ks ws cs (d ∷ ds) [] ps w l b g m = absurd (omega arith)
received_on tb s ks ws cs (d ∷ ds) (t ∷ ts) NoParts w l b g m = absurd g
received_on tb s ks ws cs (d ∷ ds) (t ∷ ts) (MoreParts x xs) w l b g m =
    let e = both (nat_lt d (length ks)) (are_below (length ks) ds) b in
    let there = below d (length ks) e.0 in
    let within : d < length ws = omega arith in
    let k : Kind = field_kind tb t in
    let next : List Kind = written ks d k in
    let wide : length next ≡ length ks = length_become ks _ in
    let us : List ℕ = slice_set ws d (word_of x) in
    let long : length us ≡ length ws = set_length ws d (word_of x) in
    let shown : AreShown tb s (at next) (word_at us) (T.put cs d (value_of x)) = reworded_shown tb s (at next) (put d (word_of x) (word_at ws)) (word_at us) (T.put cs d (value_of x)) (set_word ws d (word_of x) within) (written_shown tb s ks (word_at ws) cs d k (word_of x) (value_of x) there m (field_shows tb s t x (record { word = refl; stands = g.0 }))) in
    let rest = received_on tb s next us (T.put cs d (value_of x)) ds ts xs (long ∙ w ∙ sym wide) (omega arith) (subst (λ n. are_below n ds ≡ true) (sym wide) e.1) g.1 shown in
    record {
      words = rest.words;
      is = ap (λ o. option_and_then (λ us. write_all us ds (words_of xs)) o) (writes ws d (word_of x) within) ∙ rest.is;
      shown = rest.shown;
    }

-- ---- the frame below goes on, or the run is over

resumed_same : (c : PlainCode) (before waits : Kinds) (types : List ℕ) (s : State) (t : U.State) (n : ℕ) (lent : List Placed) (w : Frame) (below : List Frame) (u : U.Frame) (under : List U.Frame) (g : Frozen) (gs : List Frozen) (trees : Parts) → IsSound c → AreKinds c before waits → s.free ≡ t.free → StandAll c.types s.store (results c n) trees → IsWaiting c s.store (lower_trees gs lent) n w g → IsSameFrame c.types s.store (waits w.function w.at) w u → AreSameFrames c.types s.store waits below under → IsSameNext c.types before waits types s (resumed s w below (option_and_then (λ ds. write_all w.words ds (words_of trees)) (D.destinations c w))) (N.resumed u under t.free (values_of trees) (destinations_in (C.instr_at c u.function u.at)))
resumed_same c before waits types s t n lent w below u under g gs trees sound kinds free stand i m rest =
    let call : Instr = I.Call i.callee i.sources i.destinations in
    let p = both (in_range c i.function w.at call) _ i.asked in
    let q = both (sources c i.function i.before call) (destinations c i.before call) p.1 in
    let a = both (nat_lt i.callee (length c.functions)) _ p.0 in
    let b = both (are_below i.function.registers i.sources) (are_below i.function.registers i.destinations) a.1 in
    let receive : can_receive (Some g.kinds) (length (results c i.callee)) i.destinations ≡ true = subst (λ o. can_receive o (length (results c i.callee)) i.destinations ≡ true) i.left q.1 in
    let d = both (length i.destinations == length (results c i.callee)) (are_places g.kinds i.destinations) receive in
    let cs : Contents = u.contents in
    let wait = waits_at c before waits s.store (lower_trees gs lent) n w g kinds i in
    let shown : AreShown c.types s.store (at g.kinds) (word_at g.words) cs = subst (λ ks. AreShown c.types s.store (at ks) (word_at g.words) cs) wait (subst (λ ws. AreShown c.types s.store (at (waits w.function w.at)) (word_at ws) cs) i.words m.shown) in
    let got : AreReceivedOn c.types s.store g.kinds g.words cs i.destinations (results c i.callee) trees = received_on c.types s.store g.kinds g.words cs i.destinations (results c i.callee) trees i.long (equal (length i.destinations) (length (results c i.callee)) d.0)
    (subst (λ m. are_below m i.destinations ≡ true) (sym i.wide) b.1) (subst (λ ts. StandAll c.types s.store ts trees) (sym i.results) stand) shown in
    let left : List Kind = received c.types g.kinds i.destinations (results c i.callee) in
    let goes : GoesTo c i.function w.at (w.at + 1) left = record { kinds = i.before; instr = call; reached = record { known = i.known; instr = i.instr }; asked = i.asked; goes = inl (omega arith, (g.kinds, i.left, refl)) } in
    let instr : C.instr_at c w.function w.at ≡ Some call = run_instr_at c w.function w.at i.function call i.is i.instr in
    let to : D.destinations c w ≡ Some i.destinations = ap destinations_in instr in
    let also : destinations_in (C.instr_at c u.function u.at) ≡ Some i.destinations = subst (λ f. destinations_in (C.instr_at c f u.at) ≡ Some i.destinations) m.function (subst (λ j. destinations_in (C.instr_at c w.function j) ≡ Some i.destinations) m.instr to) in
    let write : write_all w.words i.destinations (words_of trees) ≡ Some got.words = ap (λ ws. write_all ws i.destinations (words_of trees)) i.words ∙ got.is in
    let place = m.instr in
    subst (λ o. IsSameNext c.types before waits types s (resumed s w below (option_and_then (λ ds. write_all w.words ds (words_of trees)) o)) (N.resumed u under t.free (values_of trees) (destinations_in (C.instr_at c u.function u.at)))) (sym to)
    (subst (λ o. IsSameNext c.types before waits types s (resumed s w below o) (N.resumed u under t.free (values_of trees) (destinations_in (C.instr_at c u.function u.at)))) (sym write)
    (subst (λ o. IsSameNext c.types before waits types s (resumed s w below (Some got.words)) (N.resumed u under t.free (values_of trees) o)) (sym also) (record {
      running = record {
        shown = arrive_shown c before waits w.function w.at (w.at + 1) i.function s.store left (word_at got.words) (T.put_all cs i.destinations (values_of trees)) sound kinds i.is goes got.shown;
        function = m.function;
        instr = let z : w.at + 1 ≡ suc u.at = omega arith in z;
      };
      waiting = rest;
      free = let z : s.free + 1 ≡ suc t.free = omega arith in z;
    })))

returned_same : (c : PlainCode) (before waits : Kinds) (types : List ℕ) (s : State) (t : U.State) (n : ℕ) (lent : List Placed) (ws : List Frame) (us : List U.Frame) (gs : List Frozen) (trees : Parts) → IsSound c → AreKinds c before waits → s.free ≡ t.free → StandAll c.types s.store (results c n) trees → AreAllWaiting c s.store lent types n ws gs → AreSameFrames c.types s.store waits ws us → IsSameNext c.types before waits types s (returned c s ws (Some (words_of trees))) (N.returned c us t.free (values_of trees))
returned_same c before waits types s t n lent [] [] [] trees sound kinds free stand a m = (trees, refl, subst (λ ts. StandAll c.types s.store ts trees) a stand, refl)
returned_same c before waits types s t n lent [] [] (g ∷ gs) trees sound kinds free stand a m = absurd a
returned_same c before waits types s t n lent [] (u ∷ us) gs trees sound kinds free stand a m = absurd m
returned_same c before waits types s t n lent (w ∷ ws) [] gs trees sound kinds free stand a m = absurd m
returned_same c before waits types s t n lent (w ∷ ws) (u ∷ us) [] trees sound kinds free stand a m = absurd a
returned_same c before waits types s t n lent (w ∷ ws) (u ∷ us) (g ∷ gs) trees sound kinds free stand a m = resumed_same c before waits types s t n lent w ws u us g gs trees sound kinds free stand a.0 m.0 m.1

pub ret_same : (c : PlainCode) (before waits : Kinds) (types kept : List ℕ) (s : State) (t : U.State) (rs : List ℕ) → IsSound c → AreKinds c before waits → (a : IsAlive c types kept s) → IsSame c.types before waits s t → is_as_asked c a.function s.running.at a.kinds (I.Ret rs) ≡ true → AreShown c.types s.store (at a.kinds) (word_at s.running.words) t.running.contents → IsSameNext c.types before waits types s (returned c s s.waiting (read_all s.running.words rs)) (N.returned c t.waiting t.free (T.read_all t.running.contents rs))
ret_same c before waits types kept s t rs sound kinds a m asked shown =
    let f : PlainFunction = a.function in
    let ws : List ℕ = s.running.words in
    let cs : Contents = t.running.contents in
    let p = both (are_below f.registers rs) _ asked in
    let u = both (is_some (give_all a.kinds rs f.results)) (destinations c a.kinds (I.Ret rs)) p.1 in
    let left = some_left (give_all a.kinds rs f.results) u.0 in
    let below : List Placed = lower_trees a.frozen a.lent in
    let g : AreGiven c.types s.store below a.kinds (word_at ws) a.holds f.results rs left.0 = given c.types s.store below a.kinds (word_at ws) a.holds f.results rs left.0 left.1 a.meant in
    let v = given_shown c.types s.store a.kinds (word_at ws) cs f.results rs left.0 left.1 shown in
    let read : read_all ws rs ≡ Some (words_of g.trees) = read_words ws rs (subst (λ m. are_below m rs ≡ true) (sym (a.long ∙ a.wide)) p.0) ∙ ap Some (sym g.words) in
    let values : values_of g.trees ≡ T.read_all cs rs = v.values g.trees g.stand g.words in
    let stand : StandAll c.types s.store (results c s.running.function) g.trees = subst (λ ts. StandAll c.types s.store ts g.trees) (sym (ap results_of a.is)) g.stand in
    subst (λ o. IsSameNext c.types before waits types s (returned c s s.waiting o) (N.returned c t.waiting t.free (T.read_all cs rs))) (sym read)
    (subst (λ vs. IsSameNext c.types before waits types s (returned c s s.waiting (Some (words_of g.trees))) (N.returned c t.waiting t.free vs)) values
    (returned_same c before waits types s t s.running.function a.lent s.waiting t.waiting a.frozen g.trees sound kinds m.free stand a.waiting m.waiting))
