-- Runs of a whole code go as their program means.
use Rattle.std.proofs.Common.{◌≡◌, ◌≢◌, ℕ, zero, suc, ◌≤◌, ◌+◌, ◌-◌, List, [], ◌∷◌, Option, Some, None, Bool, true, false, refl, sym, ap, ◌∙◌, subst, ⊎_elim, arith, slice_get}
use Rattle.std.specs.Prelude.{option_map, if◌then◌else◌, length}
use Rattle.std.proofs.lemmas.Option.{slice_get-map}
use Rattle.std.proofs.lemmas.Bool.{cases_lt}
use Rattle.tree_refinement.specs.fip_language.Values.{Values, End, More}
use Rattle.tree_refinement.specs.fip_language.Every.{Every}
use Rattle.tree_refinement.specs.fip_language.Meaning.{Answer, Gives, Trap, Out, Deep, Stuck, Peak, no_peak, higher, ends, nothing_bound, Run as Evaluation}
use Rattle.lowering_relation.specs.fip_trees.Tree.{Instance, Program}
use Rattle.tree_refinement.specs.cell_code.declared.code.Instr.{Instr}
use Rattle.tree_refinement.specs.cell_code.Plain.{PlainFunction, PlainCode, function_at, instrs_of, all_instrs}
use Rattle.lowering_relation.specs.machine_semantics.Codes.{instr_in}
use Rattle.lowering_relation.specs.instance_semantics.Registers.{frame_words}
use Rattle.lowering_relation.specs.instance_semantics.Meaning.{bind_binders, body_run, eval_block, calls_of, flat_meaning}
use Rattle.lowering_relation.specs.tree_semantics.Contents.{Contents, first_contents}
use Rattle.lowering_relation.specs.tree_semantics.States.{Frame, State}
use Rattle.lowering_relation.specs.tree_semantics.Steps.{returned}
use Rattle.lowering_relation.specs.tree_semantics.Runs.{Run, Over, begun, later, after, entry}
use Rattle.tree_refinement.proofs.tree_semantics.Stays.{over_stays}
use Rattle.lowering_relation.specs.LoweredBodies.{Return, has_function, if_function, one_more, function_of}
use Rattle.lowering_relation.specs.LoweredFunctions.{known_at_start, IsFunction, AreLowered}
use Rattle.lowering_simulation.specs.Distinct.{IsDistinct, AreDistinct, in_block}
use Rattle.lowering_simulation.specs.Guarded.{Takes, IsGuarded}
use Rattle.lowering_simulation.specs.RunEnds.{EndsIn, RunsTo, words_of_all}
use Rattle.lowering_simulation.specs.Wide.{AreWide}
use Rattle.lowering_simulation.proofs.Leads.{Coming, At, Ends, After, ComesTo, LeadsTo, stays, and_on, as_high, same_peak, raised, below, coming, answer_coming, run_coming}
use Rattle.lowering_relation.proofs.LoweredLists.{same_some}
use Rattle.lowering_simulation.proofs.Bodies.{Begins, begin, Defined, CallsRun, block_runs, clear_bound}
use Rattle.lowering_simulation.proofs.Starts.{starts}

every_at : {A : Type 0} (P : A → Type 0) (xs : List A) (i : ℕ) (x : A) → Every P xs → slice_get xs i ≡ Some x → P x
every_at P [] i x h e = absurd (cc)
every_at P (y ∷ ys) zero x h e = subst P (same_some y x e) h.0
every_at P (y ∷ ys) (suc i) x h e = every_at P ys i x h.1 e

-- an instance with a function is there
one_more_some : (b : Bool) (o : Option ℕ) (f : ℕ) → one_more b o ≡ Some f → (e : ℕ) × (o ≡ Some e)
one_more_some b None f h = absurd (cc)
one_more_some b (Some e) f h = (e, refl)

function_there : (ds : List Instance) (g f : ℕ) → function_of ds g ≡ Some f → (d : Instance) × (slice_get ds g ≡ Some d)
function_there [] g f h = absurd (cc)
function_there (d ∷ ds) zero f h = (d, refl)
function_there (d ∷ ds) (suc g) f h = let e = one_more_some (has_function d.kind) (function_of ds g) f h in function_there ds g e.0 e.1

mapped : (o : Option PlainFunction) (is : List Instr) → option_map instrs_of o ≡ Some is → (h : PlainFunction) × (o ≡ Some h) × (h.instrs ≡ is)
mapped None is e = absurd (cc)
mapped (Some h) is e = (h, refl, same_some h.instrs is e)

-- the words of the frames of functions, by their instances
abbrev width_in : List Instance → ℕ → ℕ
width_in [] f = 0
width_in (d ∷ ds) zero = if has_function d.kind then frame_words d else width_in ds zero
width_in (d ∷ ds) (suc f) = if has_function d.kind then width_in ds f else width_in ds (suc f)

module _ (code : PlainCode) (width : ℕ → ℕ) (program : Program) (lowered : AreLowered program (all_instrs code)) (guarded : IsGuarded program) (distinct : AreDistinct program) (wide : AreWide program width) where
  -- the function that is there, with its instructions
  coded : (f : ℕ) (is : List Instr) → slice_get (all_instrs code) f ≡ Some is → (h : PlainFunction) × (function_at code f ≡ Some h) × (h.instrs ≡ is)
  coded f is e = mapped (slice_get code.functions f) is (sym (slice_get-map instrs_of code.functions f) ∙ e)

  defined : Defined code width program
  defined g f n =
      let d = function_there program.instances g f n in
      let l = lowered.of g f d.0 n d.1 in
      let c = coded f l.1 l.2 in
      (c.0, c.1)

  entered_high : (waiting : List Frame) (f w : ℕ) (p : Peak) → width f ≡ w → higher (record { frames = length waiting; words = width f + words_of_all width waiting }) (raised (below width waiting) p) ≡ raised (below width waiting) (higher (record { frames = 0; words = w }) p)
  entered_high waiting f w p e = same_peak _ _ (omega arith) (omega (arith, e))

  body_goes : (m : ℕ) → CallsRun code width program m → (g f : ℕ) (d : Instance) (n : ℕ) (is : List Instr) (h : PlainFunction) (vs : Values) (cs : Contents) (waiting : List Frame) (free left : ℕ) → slice_get program.instances g ≡ Some d → width f ≡ frame_words d → function_at code f ≡ Some h → h.instrs ≡ is → IsFunction lowered.setting n is d → Takes program g vs → Begins cs vs → left ≤ m → LeadsTo code width (At (begin f cs waiting free) left) (run_coming (raised (below width waiting)) (body_run (calls_of program m) free (Some d) vs left) (λ ws l. coming l (returned code waiting free ws)))
  body_goes m run g f d n is h vs cs waiting free left there own here same fun takes b le =
      let dis = every_at IsDistinct program.instances g d distinct there in
      let back : Values → ℕ → Coming = λ ws l. coming l (returned code waiting free ws) in
      let r = eval_block (calls_of program m) (frame_words d) d.body true free (bind_binders nothing_bound d.binders vs) left in
      let high : Peak = record { frames = length waiting; words = width f + words_of_all width waiting } in
      and_on code width (At (begin f cs waiting free) left) (After (higher high (raised (below width waiting) r.peak)) (answer_coming r.answer back)) (run_coming (raised (below width waiting)) (body_run (calls_of program m) free (Some d) vs left) back)
      (block_runs code width program lowered.setting lowered.so defined m run (frame_words d) f own is
      (λ p i e. ap (λ o. instr_in o p) here ∙ ap (λ xs. slice_get xs p) same ∙ e) waiting free
      d.body Return 0 (known_at_start lowered.setting n d) fun.end fun.after (bind_binders nothing_bound d.binders vs) cs left back fun.body
      dis.body
      (clear_bound nothing_bound d.binders vs (in_block d.body) dis.others (λ x k. refl)) (guarded.by m g d vs free left there (takes d there))
      (starts lowered.setting n d cs vs dis b) tt le (λ ws l. stays code width (back ws l)))
      (as_high code width (higher high (raised (below width waiting) r.peak)) (raised (below width waiting) (higher (record { frames = 0; words = frame_words d }) r.peak)) (answer_coming r.answer back) (entered_high waiting f (frame_words d) r.peak own))

  pub calls_run : (m : ℕ) → CallsRun code width program m
  calls_run zero g f vs cs waiting free left n takes b lt = absurd (omega (arith, lt))
  calls_run (suc m) g f vs cs waiting free left n takes b lt =
      let d = function_there program.instances g f n in
      let l = lowered.of g f d.0 n d.1 in
      let c = coded f l.1 l.2 in
      subst (λ o. LeadsTo code width (At (begin f cs waiting free) left) (run_coming (raised (below width waiting)) (body_run (calls_of program m) free o vs left) (λ ws k. coming k (returned code waiting free ws)))) (sym d.1)
      (body_goes m (calls_run m) g f d.0 l.0 l.1 c.0 vs cs waiting free left d.1 (wide g f d.0 n d.1) c.1 c.2 l.3 takes b (omega (arith, lt)))

  answer_comes : (a : Answer) → a ≢ Stuck → ComesTo code width (answer_coming a (λ ws l. Ends (Gives ws l))) (ends a)
  answer_comes (Gives vs k) n = refl
  answer_comes (Trap kind line col) n = refl
  answer_comes Out n = refl
  answer_comes Deep n = refl
  answer_comes Stuck n = absurd (n refl)

  begins : (vs : Values) → Begins (first_contents vs) vs
  begins End i v e = absurd (cc)
  begins (More u vs) zero v e = cc
  begins (More u vs) (suc i) v e = begins vs i v e

  none_below : (r : Evaluation) → higher (raised (below width []) r.peak) no_peak ≡ r.peak
  none_below r = same_peak _ _ (omega arith) (omega arith)

  pub runs_to : (g f : ℕ) (vs : Values) (calls frames : ℕ) → function_of program.instances g ≡ Some f → Takes program g vs → (flat_meaning program g vs (suc calls) frames).answer ≢ Stuck → RunsTo code width (begun (entry f vs frames) (suc calls)) (flat_meaning program g vs (suc calls) frames)
  unfolding flat_meaning
  runs_to g f vs calls frames n takes s =
      let r = calls_of program (suc calls) frames g vs calls in
      (calls_run (suc calls) g f vs (first_contents vs) [] frames calls n takes (begins vs) (omega arith)).by r
      (ends r.answer, answer_comes r.answer s, ap (λ p. record { answer = r.answer; peak = p }) (none_below r)) 0

-- functions have frames of some words

first_of : (b : Bool) (d : Instance) (ds : List Instance) (n : ℕ) → has_function d.kind ≡ b → if_function b ≡ Some n → width_in (d ∷ ds) n ≡ frame_words d
first_of true d ds zero e h = ap (λ c. if c then frame_words d else width_in ds 0) e
first_of true d ds (suc n) e h = absurd cc
first_of false d ds n e h = absurd cc

later_of : (b : Bool) (d c : Instance) (ds : List Instance) (o : Option ℕ) (n : ℕ) → has_function d.kind ≡ b → one_more b o ≡ Some n → ((m : ℕ) → o ≡ Some m → width_in ds m ≡ frame_words c) → width_in (d ∷ ds) n ≡ frame_words c
later_of b d c ds None n e h ih = absurd cc
later_of true d c ds (Some m) zero e h ih = absurd cc
later_of true d c ds (Some m) (suc n) e h ih = ap (λ x. if x then width_in ds n else width_in ds (suc n)) e ∙ ih n cc
later_of false d c ds (Some m) n e h ih = width_other n e ∙ ih n h
  where
    width_other : (k : ℕ) → has_function d.kind ≡ false → width_in (d ∷ ds) k ≡ width_in ds k
    width_other zero q = ap (λ x. if x then frame_words d else width_in ds 0) q
    width_other (suc k) q = ap (λ x. if x then width_in ds k else width_in ds (suc k)) q

wide_in : (ds : List Instance) (g f : ℕ) (d : Instance) → function_of ds g ≡ Some f → slice_get ds g ≡ Some d → width_in ds f ≡ frame_words d
wide_in [] g f d n h = absurd cc
wide_in (c ∷ ds) zero f d n h = first_of (has_function c.kind) c ds f refl n ∙ ap frame_words (same_some c d h)
wide_in (c ∷ ds) (suc g) f d n h = later_of (has_function c.kind) c d ds (function_of ds g) f refl n (λ m e. wide_in ds g m d e h)

pub runs_end : (code : PlainCode) (program : Program) → AreLowered program (all_instrs code) → IsGuarded program → AreDistinct program → (g f : ℕ) (vs : Values) (calls frames : ℕ) (a : Answer) → function_of program.instances g ≡ Some f → Takes program g vs → (flat_meaning program g vs calls frames).answer ≡ a → a ≢ Stuck → EndsIn code (begun (entry f vs frames) calls) a
unfolding flat_meaning
runs_end code program lowered guarded distinct g f vs zero frames a n takes e s = record { enough = 0; last = entry f vs frames; left = 0; steps = 0; is = ap (λ x. Over x (entry f vs frames) 0 0) e }
runs_end code program lowered guarded distinct g f vs (suc left) frames a n takes e s =
    let r = runs_to code (width_in program.instances) program lowered guarded distinct (wide_in program.instances) g f vs left frames n takes (λ x. s (sym e ∙ x)) in
    record { enough = r.enough; last = r.last; left = r.left; steps = r.steps; is = r.is ∙ ap (λ x. Over x r.last r.left r.steps) e }

-- a run has one end

after_more : (code : PlainCode) (m n : ℕ) (r : Run) → after code (m + n) r ≡ after code n (after code m r)
after_more code zero n r = ap (λ k. after code k r) (let e : 0 + n ≡ n = omega arith in e)
after_more code (suc m) n r = ap (λ k. after code k r) (let e : suc m + n ≡ suc (m + n) = omega arith in e) ∙ after_more code m n (later code r)

later_same : (code : PlainCode) (r : Run) (m n : ℕ) (a : Answer) (s : State) (left steps : ℕ) → m ≤ n → after code m r ≡ Over a s left steps → after code n r ≡ Over a s left steps
later_same code r m n a s left steps le e =
    ap (λ k. after code k r) (let q : n ≡ m + (n - m) = omega (arith, le) in q)
    ∙ after_more code m (n - m) r ∙ ap (after code (n - m)) e ∙ over_stays code (n - m) a s left steps

same_answer : (a b : Answer) (s t : State) (l m i j : ℕ) → Over a s l i ≡ Over b t m j → a ≡ b
same_answer a b s t l m i j e = cc

pub one_end : (code : PlainCode) (r : Run) (a b : Answer) → EndsIn code r a → EndsIn code r b → a ≡ b
one_end code r a b p q =
    ⊎_elim
    (λ lt. same_answer a b p.last q.last p.left q.left p.steps q.steps (sym (later_same code r p.enough q.enough a p.last p.left p.steps (omega (arith, lt)) p.is) ∙ q.is))
    (λ le. same_answer a b p.last q.last p.left q.left p.steps q.steps (sym p.is ∙ later_same code r q.enough p.enough b q.last q.left q.steps le q.is))
    (cases_lt p.enough q.enough)
