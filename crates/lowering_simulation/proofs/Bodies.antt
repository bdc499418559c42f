-- A run of the code of an expression, or of a block, goes as its meaning does.
use Rattle.std.proofs.Common.{◌≡◌, inl, inr, ℕ, zero, suc, ◌<◌, ◌≤◌, ◌+◌, List, [], ◌∷◌, ◌++◌, Bool, true, false, Some, None, length, refl, sym, ap, ◌∙◌, subst, arith, slice_get, ⊎_elim}
use Rattle.tree_refinement.specs.fip_language.declared.Place.{Place}
use Rattle.tree_refinement.specs.fip_language.declared.Operator.{Operator}
use Rattle.tree_refinement.specs.fip_language.Values.{Value, Int, Node, Values, End, More}
use Rattle.tree_refinement.specs.fip_language.Every.{Every, Among}
use Rattle.tree_refinement.specs.fip_language.Arithmetic.{Operated, Is, Fails, operate}
use Rattle.tree_refinement.specs.fip_language.Meaning.{Answer, Gives, Trap, Out, Peak, no_peak, higher, above, Environment, operated, operation, counted, in_frame, ends, with_value, with_values, go_on, bind_matched, if_matches, Run as Evaluation}
use Rattle.tree_refinement.specs.fip_language.Theorems.{AtMost}
use Rattle.lowering_relation.specs.fip_trees.declared.program.Binder.{Binder}
use Rattle.lowering_relation.specs.fip_trees.Tree.{Expression, Give, Tuple, Operation, Call, Match, Nested, Block, Last, Let, Program, Pattern, Clauses, NoClauses, MoreClauses}
use Rattle.tree_refinement.specs.cell_code.declared.code.Instr.{Instr}
use Rattle.tree_refinement.specs.cell_code.declared.code.Instr.TheVariants as I
use Rattle.tree_refinement.specs.cell_code.Plain.{PlainFunction, PlainCode, function_at}
use Rattle.lowering_relation.specs.machine_semantics.Codes.{instr_at}
use Rattle.lowering_relation.specs.machine_semantics.Steps.{destinations_in}
use Rattle.lowering_relation.specs.instance_semantics.Meaning.{bind_binders, argument_value, argument_values, eval, eval_block, calls_of, eval_clauses}
use Rattle.lowering_relation.proofs.instance_semantics.Left.{calls_left}
use Rattle.lowering_relation.specs.tree_semantics.Contents.{Contents, put, put_all, read_all, first_contents, value_at}
use Rattle.lowering_relation.specs.tree_semantics.States.{Frame, State, Entered}
use Rattle.lowering_relation.specs.tree_semantics.Steps.{act, calculated, first_frame, called, called_with, replaced, resumed, returned, next}
use Rattle.lowering_relation.specs.tree_semantics.Steps as S
use Rattle.tree_refinement.proofs.tree_semantics.Puts.{put_same, put_other}
use Rattle.lowering_relation.specs.Tidy.{Fixed, Unknown, Tidy}
use Rattle.lowering_relation.specs.declared.held.Held.TheVariants as H
use Rattle.lowering_relation.specs.Known.{Known}
use Rattle.lowering_relation.specs.Values.{Setting}
use Rattle.lowering_relation.specs.Choosing.{place, Entry, Arrives, ArrivesIf, Chooses}
use Rattle.lowering_relation.specs.LoweredBodies.{Target, Return, Into, GoesTo, result_type, IsOperation, function_of, IsCall, registers_for, reserved, with_names, ValuesAt, ExpressionAt, BlockAt, ClauseAt, ClausesAt, Joins}
use Rattle.lowering_relation.specs.LoweredFunctions.{IsSettingOf}
use Rattle.lowering_simulation.specs.Distinct.{numbers, in_expression, in_block, Apart, Differ, DistinctExpression, DistinctBlock, in_pattern, in_clauses, DistinctClauses}
use Rattle.tree_refinement.specs.fip_language.Table.{HasType}
use Rattle.tree_refinement.specs.fip_language.Matching.{Binding}
use Rattle.lowering_relation.specs.instance_semantics.Matching.{matching}
use Rattle.lowering_simulation.specs.Guarded.{Takes, GuardedExpression, GuardedBlock, GuardedClauses}
use Rattle.lowering_simulation.proofs.Matching.{matched_numbers, unmatched_same}
use Rattle.lowering_simulation.proofs.Choosing.{world_entered, world_met, case_runs, reaches_run, jumps}
use Rattle.lowering_simulation.specs.RunEnds.{words_of_all}
use Rattle.lowering_simulation.proofs.Leads.{Coming, At, Ends, After, LeadsTo, and_on, to_stuck, same_peak, raised, below, level, as_high, after_own, coming, run_coming, does, steps, next_is, enters_callee, enters_out, deep_out, too_deep, answers_on, answers_to, with_one, with_all}
use Rattle.lowering_relation.proofs.LoweredLists.{among_left, among_right}
use Rattle.lowering_simulation.proofs.Statics.{argument_step, argument_fixed, argument_elsewhere, arguments_elsewhere, Step, arguments_step, unknown_on}
use Rattle.lowering_simulation.proofs.Arguments.{Kept, World, world_on, state, here, argument_runs, arguments_runs}
use Rattle.lowering_simulation.proofs.Naming.{Clear, Holds, Fit, bound_elsewhere, holds_read, fit_read, world_named}
use Rattle.lowering_simulation.proofs.Later.{goes_step, call_step, values_step, values_fixed, values_elsewhere, unknown_named, reserved_step, reserved_from, reserved_unknown, reserved_elsewhere, expression_keeps, all_fixed}
use Rattle.lowering_simulation.proofs.Handing.{every_unknown, world_but, Ready, clean_of, CleanTarget, put_all_other, put_all_holds, gives_up, Goes, own, given_runs}

abbrev pub is_tail : Target → Bool
is_tail Return = true
is_tail (Into ds) = false

-- results go to registers of which nothing is known
abbrev pub Aims : Target → Known → Type 0
Aims Return k = Unit {0}
Aims (Into ds) k = Every (Unknown k) ds × Differ ds

aims_on : (target : Target) (k l : Known) → ((d : ℕ) → Unknown k d → Unknown l d) → Aims target k → Aims target l
aims_on Return k l f h = tt
aims_on (Into ds) k l f h = (all_on ds h.0, h.1)
  where
    all_on : (es : List ℕ) → Every (Unknown k) es → Every (Unknown l) es
    all_on [] a = tt
    all_on (e ∷ es) a = (f e a.0, all_on es a.1)

elsewhere_all : (k : Known) (rs ds : List ℕ) → ((d : ℕ) → Unknown k d → Among d rs → ⊥) → Every (Unknown k) ds → Every (λ d. Among d rs → ⊥) ds
elsewhere_all k rs [] other h = tt
elsewhere_all k rs (d ∷ ds) other h = (other d h.0, elsewhere_all k rs ds other h.1)

clean_target : (k : Known) (rs : List ℕ) (target : Target) → ((d : ℕ) → Unknown k d → Among d rs → ⊥) → Aims target k → CleanTarget rs target
clean_target k rs Return other h = tt
clean_target k rs (Into ds) other h = (clean_of rs ds (elsewhere_all k rs ds other h.0), h.1)

one_elsewhere : (k : Known) (r : ℕ) → ((d : ℕ) → Unknown k d → r ≡ d → ⊥) → (d : ℕ) → Unknown k d → Among d (r ∷ []) → ⊥
one_elsewhere k r h d u (inl e) = h d u (sym e)
one_elsewhere k r h d u (inr m) = m

ready_of : (target : Target) (k l : Known) (env : Environment) (cs : Contents) → Step k l → World l env cs → Aims target k → Ready target l env cs
ready_of Return k l env cs s w aims = tt
ready_of (Into ds) k l env cs s w aims = (w, every_unknown k l ds s aims.0)

-- what is so with more variables is so with fewer
world_less : (k : Known) (env more : Environment) (cs : Contents) → ((x : ℕ) (v : Value) → env x ≡ Some v → more x ≡ Some v) → World k more cs → World k env cs
world_less k env more cs h w = record { tidy = w.tidy; agrees = λ x r v n e. w.agrees x r v n (h x v e); bares = w.bares }

-- variables that are bound in a let weren't bound before
bound_more : (env : Environment) (bs : List Binder) (vs : Values) → Clear env (numbers bs) → (x : ℕ) (v : Value) → env x ≡ Some v → bind_binders env bs vs x ≡ Some v
bound_more env bs vs c x v e = bound_elsewhere env bs vs x (λ m. none_some (sym (c x m) ∙ e)) ∙ e
  where
    none_some : None ≡ Some v → ⊥
    none_some f = absurd (cc)

clear_left : (env : Environment) (xs ys : List ℕ) → Clear env (xs ++ ys) → Clear env xs
clear_left env xs ys c x m = c x (among_left x xs ys m)

clear_right : (env : Environment) (xs ys : List ℕ) → Clear env (xs ++ ys) → Clear env ys
clear_right env xs ys c x m = c x (among_right x xs ys m)

pub clear_bound : (env : Environment) (bs : List Binder) (vs : Values) (ys : List ℕ) → Apart (numbers bs) ys → Clear env ys → Clear (bind_binders env bs vs) ys
clear_bound env bs vs ys apart c x m = bound_elsewhere env bs vs x (λ n. apart x n m) ∙ c x m

-- registers that are reserved

differ_reserved : (n : ℕ) (bs : List Binder) → Differ (registers_for n bs)
differ_reserved n [] = tt
differ_reserved n (b ∷ bs) = (λ m. let two = reserved_from (suc n) bs n m in let le = two.0 in absurd (omega (arith, le)), differ_reserved (suc n) bs)

pub fit_reserved : (n : ℕ) (bs : List Binder) (vs : Values) → Fit bs (registers_for n bs) vs
fit_reserved n [] vs = tt
fit_reserved n (b ∷ bs) End = tt
fit_reserved n (b ∷ bs) (More v vs) = fit_reserved (suc n) bs vs

at_most : (k l : ℕ) (a : Answer) (vs : Values) → AtMost k a → a ≡ Gives vs l → l ≤ k
at_most k l a vs h e = subst (AtMost k) e h

-- the first registers hold these values
abbrev pub Begins : Contents → Values → Type 0
Begins cs vs = (i : ℕ) (v : Value) → value_at vs i ≡ Some v → cs i ≡ v

begins_read : (cs : Contents) (rs more : List ℕ) → Begins (first_contents (read_all cs (rs ++ more))) (read_all cs rs)
begins_read cs [] more i v h = absurd (cc)
begins_read cs (r ∷ rs) more zero v h = cc
begins_read cs (r ∷ rs) more (suc i) v h = begins_read cs rs more i v h

begins_all : (cs : Contents) (rs more : List ℕ) (vs : Values) → read_all cs rs ≡ vs → Begins (first_contents (read_all cs (rs ++ more))) vs
begins_all cs rs more vs e = subst (Begins (first_contents (read_all cs (rs ++ more)))) e (begins_read cs rs more)

-- the state in which a function begins
abbrev pub begin : ℕ → Contents → List Frame → ℕ → State
begin f cs waiting free = record { running = record { function = f; at = 0; contents = cs }; waiting = waiting; free = free }

module _ (code : PlainCode) (width : ℕ → ℕ) (program : Program) where
  -- each function of the program is there
  abbrev pub Defined : Type 0
  Defined = (g f : ℕ) → function_of program.instances g ≡ Some f → (h : PlainFunction) × (function_at code f ≡ Some h)

  -- runs of functions go as calls do, where fewer than m calls are left
  abbrev pub CallsRun : ℕ → Type 0
  CallsRun m = (g f : ℕ) (vs : Values) (cs : Contents) (waiting : List Frame) (free left : ℕ) → function_of program.instances g ≡ Some f → Takes program g vs → Begins cs vs → left < m → LeadsTo code width (At (begin f cs waiting free) left) (run_coming (raised (below width waiting)) (calls_of program m free g vs left) (λ ws l. coming l (returned code waiting free ws)))

module _ (code : PlainCode) (width : ℕ → ℕ) (program : Program) (setting : Setting) (so : IsSettingOf program setting) (defined : Defined code width program) (m : ℕ) (run : CallsRun code width program m) (words : ℕ) (f : ℕ) (wide : width f ≡ words) (is : List Instr) (has : (p : ℕ) (i : Instr) → slice_get is p ≡ Some i → instr_at code f p ≡ Some i) (waiting : List Frame) (free : ℕ) where
  abbrev The : ℕ → Contents → ℕ → Coming
  The p cs left = here code width f is has waiting free p cs left

  abbrev Running : ℕ → Contents → State
  Running p cs = state code width f is has waiting free p cs

  abbrev On : Target → Known → Environment → ℕ → Answer → (Values → ℕ → Coming) → Type 0
  On target l env end a go = Goes code width f is has waiting free target l env end m a go

  abbrev Own : Peak
  Own = own code width f is has waiting free

  -- a peak of what is evaluated in its frame, above those that wait
  abbrev Lv : Peak → Peak
  Lv = level (below width waiting) Own

  level_none : Own ≡ Lv no_peak
  level_none = same_peak Own (Lv no_peak) (omega arith) (omega arith)

  level_joins : (p q : Peak) → higher (Lv p) (Lv q) ≡ Lv (higher p q)
  level_joins p q = same_peak (higher (Lv p) (Lv q)) (Lv (higher p q)) (omega arith) (omega arith)

  -- what is evaluated without a call
  at_once : (c d : Coming) → LeadsTo code width c (After Own d) → LeadsTo code width c (After (Lv no_peak) d)
  at_once c d h = and_on code width c (After Own d) (After (Lv no_peak) d) h (as_high code width Own (Lv no_peak) d level_none)

  -- an operator

  calculated_runs : (o : Operator) (p : Place) (x y at : ℕ) (l : Known) (target : Target) (end : ℕ) (after : Known) (env : Environment) (cs : Contents) (left : ℕ) (a : Answer) (go : Values → ℕ → Coming) (r : Operated) → (h : IsOperation is at l o p x y target end after) → next code (Running at cs) ≡ calculated (Running at cs) h.destination p.line p.col r → ((u : Value) → CleanTarget (h.destination ∷ []) target × Ready target h.holds env (put cs h.destination u)) → left ≤ m → a ≡ (operated r p left).answer → On target after env end a go → LeadsTo code width (The at cs left) (run_coming Lv (operated r p left) go)
  calculated_runs o p x y at l target end after env cs left a go (Is u) h e fine le ev goes =
      let ds = put cs h.destination u in
      let two = fine u in
      let same = put_same cs h.destination u h.destination refl in
      and_on code width (The at cs left) (The (suc at) ds left) (After (Lv no_peak) (go (More u End) left))
      (steps code width (Running at cs) (Running (suc at) ds) left refl e)
      (subst (λ vs. LeadsTo code width (The (suc at) ds left) (After (Lv no_peak) (go vs left))) (ap (λ v. More v End) same)
      (at_once (The (suc at) ds left) _ (given_runs code width f is has waiting free (suc at) h.holds (h.destination ∷ []) target end after env ds left m a go h.given two.0 two.1 le (ev ∙ ap (λ v. Gives (More v End) left) (sym same)) goes)))
  calculated_runs o p x y at l target end after env cs left a go (Fails kind) h e fine le ev goes =
      at_once (The at cs left) (Ends (Trap kind p.line p.col)) (does code width (Running at cs) left (calculated (Running at cs) h.destination p.line p.col (Fails kind)) e)

  operated_runs : (o : Operator) (p : Place) (x y at : ℕ) (l : Known) (target : Target) (end : ℕ) (after : Known) (env : Environment) (cs : Contents) (left : ℕ) (a : Answer) (go : Values → ℕ → Coming) (v w : Value) → (h : IsOperation is at l o p x y target end after) → cs x ≡ v → cs y ≡ w → ((u : Value) → CleanTarget (h.destination ∷ []) target × Ready target h.holds env (put cs h.destination u)) → left ≤ m → a ≡ (operation o p left v w).answer → On target after env end a go → LeadsTo code width (The at cs left) (run_coming Lv (operation o p left v w) go)
  operated_runs o p x y at l target end after env cs left a go (Int i) (Int j) h ex ey fine le ev goes =
      let s = Running at cs in
      calculated_runs o p x y at l target end after env cs left a go (operate o i j) h
      (next_is code width s (I.Arith h.destination o x y p.line p.col) (has at (I.Arith h.destination o x y p.line p.col) h.written)
      ∙ ap (λ b. S.operated s h.destination o p.line p.col b (cs y)) ex ∙ ap (S.operated s h.destination o p.line p.col (Int i)) ey)
      fine le ev goes
  operated_runs o p x y at l target end after env cs left a go (Int i) (Node c vs) h ex ey fine le ev goes = to_stuck code width (The at cs left) (Lv no_peak)
  operated_runs o p x y at l target end after env cs left a go (Node c vs) w h ex ey fine le ev goes = to_stuck code width (The at cs left) (Lv no_peak)

  -- where an operator's result goes
  destination_fine : (target : Target) (l : Known) (t d : ℕ) (after : Known) (env : Environment) (cs : Contents) (u : Value) → Aims target l → GoesTo target l (H.Scalar t) d after → World l env cs → CleanTarget (d ∷ []) target × Ready target after env (put cs d u)
  destination_fine Return l t d after env cs u aims goes w = (tt, tt)
  destination_fine (Into []) l t d after env cs u aims goes w =
      ((tt, tt), (world_on l after env cs (put cs d u) (goes_step [] l t d after goes) (record { by = λ r fixed. put_other cs d u r (λ e. let lt = fixed.used in let eq = goes.0 in absurd (omega (arith, e, lt, eq))) }) w, tt))
  destination_fine (Into (e ∷ ds)) l t d after env cs u aims goes w =
      let s = goes_step (e ∷ ds) l t d after goes in (
        ((λ x. x, tt), aims.1),
        (world_but l after (e ∷ ds) env cs (put cs d u) s (λ r fixed no. put_other cs d u r (λ same. no (inl (same ∙ goes.0)))) aims.0 w, every_unknown l after (e ∷ ds) s aims.0),
      )

  -- calls

  level_above : (p : Peak) → higher Own (record { frames = suc (length waiting) + p.frames; words = (width f + words_of_all width waiting) + p.words }) ≡ Lv (record { frames = suc p.frames; words = words + p.words })
  level_above p = same_peak _ _ (omega arith) (omega (arith, wide))

  call_out : (g fn p : ℕ) (rs : List ℕ) (ds : List ℕ) (cs : Contents) → instr_at code f p ≡ Some (I.Call fn rs ds) → function_of program.instances g ≡ Some fn → (d : ℕ) → next code (record { running = record { function = f; at = p; contents = cs }; waiting = waiting; free = d }) ≡ called_with (record { running = record { function = f; at = p; contents = cs }; waiting = waiting; free = d }) fn d (read_all cs rs)
  call_out g fn p rs ds cs there numbered d =
      let s : State = record { running = record { function = f; at = p; contents = cs }; waiting = waiting; free = d } in
      next_is code width s (I.Call fn rs ds) there ∙ ap (λ o. called s fn o (read_all cs rs)) (defined g fn numbered).1

  -- a call outside tail position, with these free frames
  calls_on : (g fn at : ℕ) (rs more ds : List ℕ) (vs : Values) (cs : Contents) (left d : ℕ) (go : Values → ℕ → Coming) → instr_at code f at ≡ Some (I.Call fn (rs ++ more) ds) → function_of program.instances g ≡ Some fn → Takes program g vs → read_all cs rs ≡ vs → left ≤ m → ((ws : Values) (l : ℕ) → (counted left (λ n. in_frame false words d (λ q. calls_of program m q g vs n))).answer ≡ Gives ws l → l ≤ m → LeadsTo code width (At (record { running = record { function = f; at = suc at; contents = put_all cs ds ws }; waiting = waiting; free = d }) l) (go ws l)) → LeadsTo code width (At (record { running = record { function = f; at = at; contents = cs }; waiting = waiting; free = d }) left) (run_coming Lv (counted left (λ n. in_frame false words d (λ q. calls_of program m q g vs n))) go)
  calls_on g fn at rs more ds vs cs zero zero go there numbered takes same le goes = at_once _ _ (deep_out code width _ (call_out g fn at (rs ++ more) ds cs there numbered zero))
  calls_on g fn at rs more ds vs cs zero (suc d) go there numbered takes same le goes = at_once _ _ (enters_out code width _ _ (call_out g fn at (rs ++ more) ds cs there numbered (suc d)))
  calls_on g fn at rs more ds vs cs (suc left) zero go there numbered takes same le goes = at_once _ _ (too_deep code width _ left (call_out g fn at (rs ++ more) ds cs there numbered zero))
  calls_on g fn at rs more ds vs cs (suc left) (suc d) go there numbered takes same le goes =
      let w : Frame = record { function = f; at = at; contents = cs } in
      let cs1 = first_contents (read_all cs (rs ++ more)) in
      let callee = calls_of program m d g vs left in
      let up = raised (below width (w ∷ waiting)) callee.peak in
      let back : Values → ℕ → Coming = λ ws l. coming l (returned code (w ∷ waiting) d ws) in
      enters_callee code width (record { running = w; waiting = waiting; free = suc d }) (begin fn cs1 (w ∷ waiting) d) left callee.answer up (Lv (above words callee).peak) back go
      (call_out g fn at (rs ++ more) ds cs there numbered (suc d))
      (run g fn vs cs1 (w ∷ waiting) d left numbered takes (begins_all cs rs more vs same) (omega (arith, le)))
      (level_above callee.peak)
      (answers_to code width callee.answer back go
      (λ ws l e. subst (λ c. LeadsTo code width c (go ws l)) (ap (λ o. coming l (resumed w waiting d ws (destinations_in o))) (sym there))
      (goes ws l e (let small = at_most left l callee.answer ws (calls_left program m d g vs left) e in omega (arith, small, le)))))

  tail_on : (g fn p : ℕ) (rs more : List ℕ) (vs : Values) (cs : Contents) (left : ℕ) (go : Values → ℕ → Coming) → instr_at code f p ≡ Some (I.Tail fn (rs ++ more)) → function_of program.instances g ≡ Some fn → Takes program g vs → read_all cs rs ≡ vs → left ≤ m → ((ws : Values) (l : ℕ) → LeadsTo code width (coming l (returned code waiting free ws)) (go ws l)) → LeadsTo code width (The p cs left) (run_coming Lv (counted left (λ l. in_frame true words free (λ n. calls_of program m n g vs l))) go)
  tail_on g fn p rs more vs cs left go there numbered takes same le goes = by_left left le
    where
      cs1 : Contents
      cs1 = first_contents (read_all cs (rs ++ more))

      entered : next code (Running p cs) ≡ Entered (begin fn cs1 waiting free)
      entered = next_is code width (Running p cs) (I.Tail fn (rs ++ more)) there ∙ ap (λ o. replaced (Running p cs) fn o (read_all cs (rs ++ more))) (defined g fn numbered).1

      by_left : (n : ℕ) → n ≤ m → LeadsTo code width (The p cs n) (run_coming Lv (counted n (λ l. in_frame true words free (λ d. calls_of program m d g vs l))) go)
      by_left zero less = at_once (The p cs zero) (Ends Out) (enters_out code width (Running p cs) (begin fn cs1 waiting free) entered)
      by_left (suc n) less =
          let callee = calls_of program m free g vs n in
          let back : Values → ℕ → Coming = λ ws l. coming l (returned code waiting free ws) in
          enters_callee code width (Running p cs) (begin fn cs1 waiting free) n callee.answer (raised (below width waiting) callee.peak) (Lv callee.peak) back go
          entered
          (run g fn vs cs1 waiting free n numbered takes (begins_all cs rs more vs same) (omega (arith, less)))
          refl
          (answers_to code width callee.answer back go (λ ws l e. goes ws l))

  call_runs : (g at : ℕ) (l : Known) (rs : List ℕ) (target : Target) (end : ℕ) (after : Known) (vs : Values) (env : Environment) (cs : Contents) (left : ℕ) (a : Answer) (go : Values → ℕ → Coming) → IsCall setting is at l g rs target end after → Takes program g vs → Aims target l → World l env cs → read_all cs rs ≡ vs → left ≤ m → a ≡ (counted left (λ n. in_frame (is_tail target) words free (λ d. calls_of program m d g vs n))).answer → On target after env end a go → LeadsTo code width (The at cs left) (run_coming Lv (counted left (λ n. in_frame (is_tail target) words free (λ d. calls_of program m d g vs n))) go)
  call_runs g at l rs Return end after vs env cs left a go h takes aims w same le ev goes =
      let t = h.ends in
      gives_up code width f is has waiting free t.given_up at cs left _ t.give_up
      (tail_on g h.function (at + t.given_up) rs h.credits vs cs left go (has (at + t.given_up) (I.Tail h.function (rs ++ h.credits)) t.written) (sym (so.functions g) ∙ h.numbered) takes same le goes)
  call_runs g at l rs (Into ds) end after vs env cs left a go h takes aims w same le ev goes =
      let t = h.ends in
      calls_on g h.function at rs h.credits ds vs cs left free go (has at (I.Call h.function (rs ++ h.credits) ds) t.written) (sym (so.functions g) ∙ h.numbered) takes same le
      (λ ws n e less. subst (λ p. LeadsTo code width (The p (put_all cs ds ws) n) (go ws n)) t.one
      (goes ws n (put_all cs ds ws) (ev ∙ e) less (world_but l after ds env cs (put_all cs ds ws) (call_step setting is at l g rs ds end after h) (λ r fixed no. put_all_other cs ds ws r no) aims.0 w) (put_all_holds cs ds ws aims.1)))

  -- expressions that are only named
  values_run : (e : Expression) (rs : List ℕ) (at : ℕ) (k : Known) (end : ℕ) (l : Known) (env : Environment) (cs : Contents) (left : ℕ) (to : Values → ℕ → Coming) → ValuesAt setting is at k e rs end l → World k env cs → ((vs : Values) (ds : Contents) → (eval (calls_of program m) words e false free env left).answer ≡ Gives vs left → Kept k cs ds → read_all ds rs ≡ vs → LeadsTo code width (The end ds left) (to vs left)) → LeadsTo code width (The at cs left) (run_coming Lv (eval (calls_of program m) words e false free env left) to)
  values_run (Give a) [] at k end l env cs left to h w go = absurd h
  values_run (Give a) (r ∷ []) at k end l env cs left to h w go =
      with_one code width Lv (The at cs left) (argument_value env a) _ to
      (λ v e. at_once (The at cs left) (to (More v End) left) (after_own code width (Running at cs) left (to (More v End) left)
      (argument_runs code width f is has waiting free setting at k a r end l env cs left v (to (More v End) left) h w e
      (λ ds kept same. go (More v End) ds (ap (λ o. (with_value o (λ u. ends (Gives (More u End) left))).answer) e) kept (ap (λ x. More x End) same)))))
  values_run (Give a) (r ∷ q ∷ rs) at k end l env cs left to h w go = absurd h
  values_run (Tuple p as') rs at k end l env cs left to h w go =
      with_all code width Lv (The at cs left) (argument_values env as') _ to
      (λ vs e. at_once (The at cs left) (to vs left) (after_own code width (Running at cs) left (to vs left)
      (arguments_runs code width f is has waiting free setting at k as' rs end l env cs left vs (to vs left) h w e
      (λ ds kept same. go vs ds (ap (λ o. (with_values o (λ us. ends (Gives us left))).answer) e) kept same))))
  values_run (Operation o p a b) rs at k end l env cs left to h w go = absurd h
  values_run (Call g n p as') rs at k end l env cs left to h w go = absurd h
  values_run (Match ds t p a q b cs) rs at k end l env cs' left to h w go = absurd h
  values_run (Nested b) rs at k end l env cs left to h w go = absurd h

  -- the same continuation, seen from after a let
  on_inner : (target : Target) (l : Known) (env more : Environment) (end : ℕ) (a b : Answer) (go : Values → ℕ → Coming) → ((x : ℕ) (v : Value) → env x ≡ Some v → more x ≡ Some v) → a ≡ b → On target l env end a go → On target l more end b go
  on_inner Return l env more end a b go wider e goes = goes
  on_inner (Into ds) l env more end a b go wider e goes = λ vs n es f less w held. goes vs n es (e ∙ f) less (world_less l env more es wider w) held

  -- after a match what is known is tidy
  abbrev TidyFor : Target → Known → Type 0
  TidyFor Return l = Unit {0}
  TidyFor (Into ds) l = Tidy l

  tidy_for : (target : Target) (k l : Known) → Tidy k → ((ds : List ℕ) → target ≡ Into ds → Tidy k → Tidy l) → TidyFor target l
  tidy_for Return k l t h = tt
  tidy_for (Into ds) k l t h = h ds refl t

  -- from the end of a clause to where the clauses meet
  on_joined : (target : Target) (first : Bool) (last : ℕ) (k : Known) (end : ℕ) (l : Known) (env more : Environment) (a b : Answer) (go : Values → ℕ → Coming) → Joins is first target last k end l → TidyFor target l → ((x : ℕ) (v : Value) → env x ≡ Some v → more x ≡ Some v) → a ≡ b → On target l env end a go → On target k more last b go
  on_joined Return first last k end l env more a b go j t wider e goes = goes
  on_joined (Into ds) first last k end l env more a b go j t wider e goes =
      λ vs n es g less w held.
      let on = goes vs n es (e ∙ g) less (world_met k l env more es t j.meets wider w) held in
      gives_up code width f is has waiting free j.given_up last es n (go vs n) j.give_up
      (⊎_elim
      (λ jump. and_on code width (The (last + j.given_up) es n) (The end es n) (go vs n) (jumps code width f is has waiting free (last + j.given_up) end es n jump) on)
      (λ there. subst (λ p. LeadsTo code width (The p es n) (go vs n)) there on)
      j.goes)

  -- a clause that is chosen
  clause_goes : (q : Pattern) (v : Value) (bs : List Binding) (b : Block) (rest : List ℕ) (first : Bool) (e : Entry) (target : Target) (k l : Known) (r start end : ℕ) (after : Known) (env : Environment) (ds : Contents) (left : ℕ) (a : Answer) (go : Values → ℕ → Coming) → (c : ClauseAt (λ i n last o. BlockAt setting is i n b target last o) is l r e first target end after) → (arr : Arrives is (place start ds) l bs e) → matching q v ≡ Some bs → Differ (in_pattern q) × Apart (in_pattern q) (in_block b) → Clear env (in_pattern q ++ (in_block b ++ rest)) → World l env ds → Fixed l r → ((d : ℕ) → Unknown k d → Unknown l d × (r ≡ d → ⊥)) → Aims target k → TidyFor target after → a ≡ (eval_block (calls_of program m) words b (is_tail target) free (bind_matched env bs) left).answer → On target after env end a go → ((m' : Known) (last : ℕ) → BlockAt setting is e.at e.known b target last m' → DistinctBlock b → Clear (bind_matched env bs) (in_block b) → GuardedBlock program (calls_of program m) words b free (bind_matched env bs) left → World e.known (bind_matched env bs) arr.contents → Aims target e.known → left ≤ m → On target m' (bind_matched env bs) last (eval_block (calls_of program m) words b (is_tail target) free (bind_matched env bs) left).answer go → LeadsTo code width (The e.at arr.contents left) (run_coming Lv (eval_block (calls_of program m) words b (is_tail target) free (bind_matched env bs) left) go)) → BlockAt setting is e.at e.known b target c.0 c.1 → DistinctBlock b → GuardedBlock program (calls_of program m) words b free (bind_matched env bs) left → left ≤ m → LeadsTo code width (The start ds left) (run_coming Lv (eval_block (calls_of program m) words b (is_tail target) free (bind_matched env bs) left) go)
  clause_goes q v bs b rest first e target k l r start end after env ds left a go c arr matched dis clear w fixed aimed aims tidy whole goes run_body body distinct guard le =
      let numbers_are = matched_numbers q v bs matched in
      let in_pattern_clear = clear_left env (in_pattern q) (in_block b ++ rest) clear in
      let body_clear = clear_left env (in_block b) rest (clear_right env (in_pattern q) (in_block b ++ rest) clear) in
      let outside : (x : ℕ) → (Among x (in_pattern q) → ⊥) → bind_matched env bs x ≡ env x = λ x n. unmatched_same env bs x (λ among. n (subst (Among x) numbers_are among)) in
      and_on code width (The start ds left) (The e.at arr.contents left) _
      (reaches_run code width f is has waiting free (place start ds) (place e.at arr.contents) left arr.reaches)
      (run_body c.1 c.0 body distinct (λ x among. outside x (λ n. dis.1 x n among) ∙ body_clear x among) guard
      (world_entered is (place start ds) l r env bs e w fixed c.2 arr)
      (aims_on target k e.known (λ d u. let two = aimed d u in c.2.unknown d two.0 two.1) aims) le
      (on_joined target first c.0 c.1 end after env (bind_matched env bs) a _ go c.4 tidy
      (λ x u f. outside x (λ n. none_some (sym (in_pattern_clear x n) ∙ f)) ∙ f) whole goes))
    where
      none_some : {u : Value} → None ≡ Some u → ⊥
      none_some f = absurd (cc)

  mutual
    pub expression_runs : (e : Expression) (target : Target) (at : ℕ) (k : Known) (end : ℕ) (l : Known) (env : Environment) (cs : Contents) (left : ℕ) (go : Values → ℕ → Coming) → ExpressionAt setting is at k e target end l → DistinctExpression e → Clear env (in_expression e) → GuardedExpression program (calls_of program m) words e free env left → World k env cs → Aims target k → left ≤ m → On target l env end (eval (calls_of program m) words e (is_tail target) free env left).answer go → LeadsTo code width (The at cs left) (run_coming Lv (eval (calls_of program m) words e (is_tail target) free env left) go)
    expression_runs (Give a) target at k end l env cs left go h dis clear guard w aims le goes =
        let s = argument_step setting is at k a h.0 h.1 h.2 h.3 in
        with_one code width Lv (The at cs left) (argument_value env a) _ go
        (λ v e. argument_runs code width f is has waiting free setting at k a h.0 h.1 h.2 env cs left v (After (Lv no_peak) (go (More v End) left)) h.3 w e
        (λ ds kept same. subst (λ x. LeadsTo code width (The h.1 ds left) (After (Lv no_peak) (go x left))) (ap (λ x. More x End) same)
        (at_once (The h.1 ds left) _ (given_runs code width f is has waiting free h.1 h.2 (h.0 ∷ []) target end l env ds left m _ go h.4
        (clean_target k (h.0 ∷ []) target (one_elsewhere k h.0 (λ d u. argument_elsewhere setting is at k a h.0 h.1 h.2 d u h.3)) aims)
        (ready_of target k h.2 env ds s (world_on k h.2 env cs ds s kept w) aims) le
        (ap (λ o. (with_value o (λ u. ends (Gives (More u End) left))).answer) e ∙ ap (λ x. Gives (More x End) left) (sym same)) goes))))
    expression_runs (Tuple p as') target at k end l env cs left go h dis clear guard w aims le goes =
        let s = arguments_step setting is at k as' h.0 h.1 h.2 h.3 in
        with_all code width Lv (The at cs left) (argument_values env as') _ go
        (λ vs e. arguments_runs code width f is has waiting free setting at k as' h.0 h.1 h.2 env cs left vs (After (Lv no_peak) (go vs left)) h.3 w e
        (λ ds kept same. subst (λ x. LeadsTo code width (The h.1 ds left) (After (Lv no_peak) (go x left))) same
        (at_once (The h.1 ds left) _ (given_runs code width f is has waiting free h.1 h.2 h.0 target end l env ds left m _ go h.4
        (clean_target k h.0 target (λ d u. arguments_elsewhere setting is at k as' h.0 h.1 h.2 d u h.3) aims)
        (ready_of target k h.2 env ds s (world_on k h.2 env cs ds s kept w) aims) le
        (ap (λ o. (with_values o (λ us. ends (Gives us left))).answer) e ∙ ap (λ x. Gives x left) (sym same)) goes))))
    expression_runs (Operation o p a b) target at k end l env cs left go h dis clear guard w aims le goes =
        let s1 = argument_step setting is at k a h.0 h.1 h.2 h.6 in
        let s2 = argument_step setting is h.1 h.2 b h.3 h.4 h.5 h.7 in
        let fixed = argument_fixed setting is at k a h.0 h.1 h.2 w.tidy h.6 in
        let op = h.8 in
        with_one code width Lv (The at cs left) (argument_value env a) _ go
        (λ v ev. with_one code width Lv (The at cs left) (argument_value env b) _ go
        (λ u eu. argument_runs code width f is has waiting free setting at k a h.0 h.1 h.2 env cs left v _ h.6 w ev
        (λ ds kept same. let w1 = world_on k h.2 env cs ds s1 kept w in argument_runs code width f is has waiting free setting h.1 h.2 b h.3 h.4 h.5 env ds left u _ h.7 w1 eu
        (λ es kept2 same2. operated_runs o p h.0 h.3 h.4 h.5 target end l env es left _ go v u op (kept2.by h.0 fixed ∙ same) same2
        (λ y. destination_fine target h.5 (result_type o) op.destination op.holds env es y (aims_on target k h.5 (λ d x. unknown_on h.2 h.5 d s2 (unknown_on k h.2 d s1 x)) aims) op.goes (world_on h.2 h.5 env ds es s2 kept2 w1))
        le
        (ap (λ z. (with_value z (λ x. with_value (argument_value env b) (λ y. operation o p left x y))).answer) ev ∙ ap (λ z. (with_value z (λ y. operation o p left v y)).answer) eu)
        goes))))
    expression_runs (Call g n p as') target at k end l env cs left go h dis clear guard w aims le goes =
        let s = arguments_step setting is at k as' h.0 h.1 h.2 h.3 in
        with_all code width Lv (The at cs left) (argument_values env as') _ go
        (λ vs e. arguments_runs code width f is has waiting free setting at k as' h.0 h.1 h.2 env cs left vs _ h.3 w e
        (λ ds kept same. call_runs g h.1 h.2 h.0 target end l vs env ds left _ go h.4 (guard vs e) (aims_on target k h.2 (λ d x. unknown_on k h.2 d s x) aims) (world_on k h.2 env cs ds s kept w) same le
        (ap (λ o. (with_values o (λ us. counted left (λ c. in_frame (is_tail target) words free (λ d. calls_of program m d g us c)))).answer) e) goes))
    expression_runs (Match dst t p a q b cs) target at k end l env cs0 left go h dis clear guard w aims le goes =
        let s = argument_step setting is at k a h.0 h.1 h.2 h.6 in
        let start = h.1 + h.3 in
        let others : Clauses → Value → Evaluation = λ ds v. eval_clauses (calls_of program m) words ds v (is_tail target) free env left in
        let tidy_after = tidy_for target k l w.tidy (λ ds e. (expression_keeps setting is at k (Match dst t p a q b cs) ds end l (subst (λ x. ExpressionAt setting is at k (Match dst t p a q b cs) x end l) e h)).tidy) in
        with_one code width Lv (The at cs0 left) (argument_value env a) _ go
        (λ v ev. argument_runs code width f is has waiting free setting at k a h.0 h.1 h.2 env cs0 left v _ h.6 w ev
        (λ ds kept same.
        let wm = world_on k h.2 env cs0 ds s kept w in
        let fixed = argument_fixed setting is at k a h.0 h.1 h.2 w.tidy h.6 in
        let g = guard v ev in
        let typed = subst (HasType setting.types t) (sym same) (subst (λ tb. HasType tb t v) (sym so.types) g.0) in
        let choice = subst (λ u. ArrivesIf is (place start ds) h.2 (matching q u) h.4 (Chooses is (place start ds) h.2 u cs h.5)) same (h.8.chooses ds typed) in
        let aimed : (d : ℕ) → Unknown k d → Unknown h.2 d × (h.0 ≡ d → ⊥) = λ d u. (unknown_on k h.2 d s u, argument_elsewhere setting is at k a h.0 h.1 h.2 d u h.6) in
        let whole = ap (λ o. (with_value o (λ u. if_matches (matching q u) (λ bs. eval_block (calls_of program m) words b (is_tail target) free (bind_matched env bs) left) (others cs u))).answer) ev in
        gives_up code width f is has waiting free h.3 h.1 ds left _ h.7
        (case_runs code width Lv (The start ds left) is (place start ds) h.2 h.4 (Chooses is (place start ds) h.2 v cs h.5) (matching q v) (λ bs. eval_block (calls_of program m) words b (is_tail target) free (bind_matched env bs) left) (others cs v) go choice
        (λ bs e arr. clause_goes q v bs b (in_clauses cs) true h.4 target k h.2 h.0 start end l env ds left _ go h.9 arr e (dis.0, dis.1) clear wm fixed aimed aims tidy_after
        (whole ∙ ap (λ o. (if_matches o (λ cs'. eval_block (calls_of program m) words b (is_tail target) free (bind_matched env cs') left) (others cs v)).answer) e) goes
        (λ m' last. block_runs b target h.4.at h.4.known last m' (bind_matched env bs) arr.contents left go) h.9.3 dis.2 (g.1 bs e) le)
        (λ e other. clauses_run cs h.5 v target k h.2 h.0 start end l env ds left _ go h.10 other dis.3
        (clear_right env (in_block b) (in_clauses cs) (clear_right env (in_pattern q) (in_block b ++ in_clauses cs) clear)) g.2 wm fixed aimed aims tidy_after le
        (whole ∙ ap (λ o. (if_matches o (λ cs'. eval_block (calls_of program m) words b (is_tail target) free (bind_matched env cs') left) (others cs v)).answer) e) goes))))
    expression_runs (Nested b) target at k end l env cs left go h dis clear guard w aims le goes =
        block_runs b target at k end l env cs left go h dis clear guard w aims le goes

    pub block_runs : (b : Block) (target : Target) (at : ℕ) (k : Known) (end : ℕ) (l : Known) (env : Environment) (cs : Contents) (left : ℕ) (go : Values → ℕ → Coming) → BlockAt setting is at k b target end l → DistinctBlock b → Clear env (in_block b) → GuardedBlock program (calls_of program m) words b free env left → World k env cs → Aims target k → left ≤ m → On target l env end (eval_block (calls_of program m) words b (is_tail target) free env left).answer go → LeadsTo code width (The at cs left) (run_coming Lv (eval_block (calls_of program m) words b (is_tail target) free env left) go)
    block_runs (Last e) target at k end l env cs left go h dis clear guard w aims le goes =
        expression_runs e target at k end l env cs left go h dis clear guard w aims le goes
    block_runs (Let bs e rest) target at k end l env cs left go (inl h) dis clear guard w aims le goes =
        let s = values_step setting is at k e h.0 h.1 h.2 h.3 in
        let fixed = values_fixed setting is at k e h.0 h.1 h.2 w.tidy h.3 in
        let here_clear = clear_left env (numbers bs) (in_expression e ++ in_block rest) clear in
        let rest_clear = clear_right env (in_expression e) (in_block rest) (clear_right env (numbers bs) (in_expression e ++ in_block rest) clear) in
        and_on code width (The at cs left) (run_coming Lv (eval (calls_of program m) words e false free env left) (λ vs n. run_coming Lv (eval_block (calls_of program m) words rest (is_tail target) free (bind_binders env bs vs) n) go)) _
        (values_run e h.0 at k h.1 h.2 env cs left _ h.3 w
        (λ vs ds ev kept same. block_runs rest target h.1 (with_names h.2 bs h.0) end l (bind_binders env bs vs) ds left go h.4 dis.3
        (clear_bound env bs vs (in_block rest) dis.1 rest_clear) (guard.1 vs left ev)
        (world_named h.2 env ds bs h.0 vs (world_on k h.2 env cs ds s kept w) fixed (subst (Holds ds h.0) same (holds_read ds h.0)) (subst (Fit bs h.0) same (fit_read ds bs h.0)) dis.0 here_clear)
        (aims_on target k (with_names h.2 bs h.0) (λ d u. unknown_named h.2 bs h.0 d (unknown_on k h.2 d s u) (values_elsewhere setting is at k e h.0 h.1 h.2 d u h.3)) aims) le
        (on_inner target l env (bind_binders env bs vs) end _ _ go (bound_more env bs vs here_clear)
        (ap (λ x. (go_on x (λ us n. eval_block (calls_of program m) words rest (is_tail target) free (bind_binders env bs us) n)).answer) ev) goes)))
        (answers_on code width Lv level_joins (eval (calls_of program m) words e false free env left) (λ vs n. eval_block (calls_of program m) words rest (is_tail target) free (bind_binders env bs vs) n) go)
    block_runs (Let bs e rest) target at k end l env cs left go (inr h) dis clear guard w aims le goes =
        let k0 = reserved k bs in
        let regs = registers_for k.next bs in
        let s0 = reserved_step k bs in
        let w0 = world_on k k0 env cs cs s0 (record { by = λ r fixed. refl }) w in
        let unknown = reserved_unknown k bs w.tidy in
        let later : (d : ℕ) → Unknown k0 d → Unknown h.1 d = (expression_keeps setting is at k0 e regs h.0 h.1 h.2).unknown in
        let here_clear = clear_left env (numbers bs) (in_expression e ++ in_block rest) clear in
        let later_clear = clear_right env (numbers bs) (in_expression e ++ in_block rest) clear in
        let bound_clear = clear_left env (in_expression e) (in_block rest) later_clear in
        let rest_clear = clear_right env (in_expression e) (in_block rest) later_clear in
        and_on code width (The at cs left) (run_coming Lv (eval (calls_of program m) words e false free env left) (λ vs n. run_coming Lv (eval_block (calls_of program m) words rest (is_tail target) free (bind_binders env bs vs) n) go)) _
        (expression_runs e (Into regs) at k0 h.0 h.1 env cs left _ h.2 dis.2 bound_clear guard.0 w0 (unknown, differ_reserved k.next bs) le
        (λ vs n ds ev less w1 held. block_runs rest target h.0 (with_names h.1 bs regs) end l (bind_binders env bs vs) ds n go h.3 dis.3
        (clear_bound env bs vs (in_block rest) dis.1 rest_clear) (guard.1 vs n ev)
        (world_named h.1 env ds bs regs vs w1 (all_fixed k0 h.1 regs later unknown) held (fit_reserved k.next bs vs) dis.0 here_clear)
        (aims_on target k (with_names h.1 bs regs) (λ d u. unknown_named h.1 bs regs d (later d (unknown_on k k0 d s0 u)) (reserved_elsewhere k bs d u.fixed)) aims) less
        (on_inner target l env (bind_binders env bs vs) end _ _ go (bound_more env bs vs here_clear)
        (ap (λ x. (go_on x (λ us c. eval_block (calls_of program m) words rest (is_tail target) free (bind_binders env bs us) c)).answer) ev) goes)))
        (answers_on code width Lv level_joins (eval (calls_of program m) words e false free env left) (λ vs n. eval_block (calls_of program m) words rest (is_tail target) free (bind_binders env bs vs) n) go)

    clauses_run : (cs : Clauses) (es : List Entry) (v : Value) (target : Target) (k l : Known) (r start end : ℕ) (after : Known) (env : Environment) (ds : Contents) (left : ℕ) (a : Answer) (go : Values → ℕ → Coming) → ClausesAt setting is l r cs es target end after → Chooses is (place start ds) l v cs es → DistinctClauses cs → Clear env (in_clauses cs) → GuardedClauses program (calls_of program m) words cs v free env left → World l env ds → Fixed l r → ((d : ℕ) → Unknown k d → Unknown l d × (r ≡ d → ⊥)) → Aims target k → TidyFor target after → left ≤ m → a ≡ (eval_clauses (calls_of program m) words cs v (is_tail target) free env left).answer → On target after env end a go → LeadsTo code width (The start ds left) (run_coming Lv (eval_clauses (calls_of program m) words cs v (is_tail target) free env left) go)
    clauses_run NoClauses es v target k l r start end after env ds left a go h c dis clear guard w fixed aimed aims tidy le whole goes = to_stuck code width (The start ds left) (Lv no_peak)
    clauses_run (MoreClauses q b cs) [] v target k l r start end after env ds left a go h c dis clear guard w fixed aimed aims tidy le whole goes = absurd h
    clauses_run (MoreClauses q b cs) (e ∷ es) v target k l r start end after env ds left a go h c dis clear guard w fixed aimed aims tidy le whole goes =
        case_runs code width Lv (The start ds left) is (place start ds) l e (Chooses is (place start ds) l v cs es) (matching q v) (λ bs. eval_block (calls_of program m) words b (is_tail target) free (bind_matched env bs) left) (eval_clauses (calls_of program m) words cs v (is_tail target) free env left) go c
        (λ bs eq arr. clause_goes q v bs b (in_clauses cs) false e target k l r start end after env ds left a go h.0 arr eq (dis.0, dis.1) clear w fixed aimed aims tidy
        (whole ∙ ap (λ o. (if_matches o (λ cs'. eval_block (calls_of program m) words b (is_tail target) free (bind_matched env cs') left) (eval_clauses (calls_of program m) words cs v (is_tail target) free env left)).answer) eq) goes
        (λ m' last. block_runs b target e.at e.known last m' (bind_matched env bs) arr.contents left go) h.0.3 dis.2 (guard.0 bs eq) le)
        (λ eq other. clauses_run cs es v target k l r start end after env ds left a go h.1 other dis.3
        (clear_right env (in_block b) (in_clauses cs) (clear_right env (in_pattern q) (in_block b ++ in_clauses cs) clear)) guard.1 w fixed aimed aims tidy le
        (whole ∙ ap (λ o. (if_matches o (λ cs'. eval_block (calls_of program m) words b (is_tail target) free (bind_matched env cs') left) (eval_clauses (calls_of program m) words cs v (is_tail target) free env left)).answer) eq) goes)
