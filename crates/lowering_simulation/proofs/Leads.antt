-- From one state a run reaches another, or an answer: it ends as it would from there, and its peak is the higher of
-- that from there and of the states between. No steps are counted.
use Rattle.std.proofs.Common.{◌≡◌, ℕ, zero, suc, ◌+◌, List, length, Option, Some, None, refl, sym, ap, ap₂, ◌∙◌, subst, arith}
use Rattle.tree_refinement.specs.fip_language.Values.{Value, Values}
use Rattle.tree_refinement.specs.fip_language.Meaning.{Answer, Gives, Trap, Out, Deep, Stuck, Peak, no_peak, higher, ends, after, Run as Evaluation, go_on, then_with, with_value, with_values}
use Rattle.tree_refinement.specs.cell_code.declared.code.Instr.{Instr}
use Rattle.tree_refinement.specs.cell_code.Plain.{PlainCode}
use Rattle.lowering_relation.specs.machine_semantics.Codes.{instr_at}
use Rattle.lowering_relation.specs.tree_semantics.States.{Frame, State, Next, Went, Entered, Gave, Trapped, TooDeep, Halted}
use Rattle.lowering_relation.specs.tree_semantics.Steps.{act, act_at, next}
use Rattle.lowering_relation.specs.tree_semantics.Runs as T
use Rattle.lowering_relation.specs.tree_semantics.Runs.{Going, Over, comes}
use Rattle.lowering_simulation.specs.RunEnds.{RunsTo, words_of_all, height, highest}

-- ---- peaks

pub same_peak : (p q : Peak) → p.frames ≡ q.frames → p.words ≡ q.words → p ≡ q
same_peak p q f w = ap₂ (λ x y. record { frames = x; words = y }) f w

higher_none : (p : Peak) → higher p no_peak ≡ p
higher_none p = same_peak (higher p no_peak) p (omega arith) (omega arith)

higher_same : (p : Peak) → higher p p ≡ p
higher_same p = same_peak (higher p p) p (omega arith) (omega arith)

higher_in : (p q r : Peak) → higher (higher p q) r ≡ higher p (higher q r)
higher_in p q r = same_peak (higher (higher p q) r) (higher p (higher q r)) (omega arith) (omega arith)

-- a peak above frames that wait
abbrev pub raised : Peak → Peak → Peak
raised b p = record { frames = b.frames + p.frames; words = b.words + p.words }

-- the height of frames that wait
abbrev pub below : (ℕ → ℕ) → List Frame → Peak
below width fs = record { frames = length fs; words = words_of_all width fs }

-- the same, as far as it is above the frame that runs
abbrev pub level : Peak → Peak → Peak → Peak
level b h p = higher h (raised b p)

-- a state with the calls that are left, or an answer; or what is after states that were so high
pub data Coming : Type 0 where
  At : (s : State) (left : ℕ) → Coming
  Ends : (a : Answer) → Coming
  After : (p : Peak) (c : Coming) → Coming

-- how it ends; nothing is said where a meaning is stuck
abbrev pub ComesTo : PlainCode → (ℕ → ℕ) → Coming → Evaluation → Type 0
ComesTo code width (At s left) e = (n : ℕ) → RunsTo code width (Going s left n) e
ComesTo code width (Ends (Gives vs k)) e = e ≡ ends (Gives vs k)
ComesTo code width (Ends (Trap kind line col)) e = e ≡ ends (Trap kind line col)
ComesTo code width (Ends Out) e = e ≡ ends Out
ComesTo code width (Ends Deep) e = e ≡ ends Deep
ComesTo code width (Ends Stuck) e = ⊥
ComesTo code width (After p c) e = (r : Evaluation) × ComesTo code width c r × (after p r ≡ e)

pub record LeadsTo (code : PlainCode) (width : ℕ → ℕ) (c d : Coming) : Type 0 where
  pub by : (e : Evaluation) → ComesTo code width d e → ComesTo code width c e

-- what an answer requires of the run, where its values go on so
abbrev pub answer_coming : Answer → (Values → ℕ → Coming) → Coming
answer_coming (Gives vs k) go = go vs k
answer_coming (Trap kind line col) go = Ends (Trap kind line col)
answer_coming Out go = Ends Out
answer_coming Deep go = Ends Deep
answer_coming Stuck go = Ends Stuck

-- what an evaluation requires of it, whose peak is above others so
abbrev pub run_coming : (Peak → Peak) → Evaluation → (Values → ℕ → Coming) → Coming
run_coming up r go = After (up r.peak) (answer_coming r.answer go)

-- what a next state is
abbrev pub coming : ℕ → Next → Coming
coming left (Went t) = At t left
coming left (Entered t) = Ends Stuck
coming left (Gave vs) = Ends (Gives vs left)
coming left (Trapped kind line col) = Ends (Trap kind line col)
coming left TooDeep = Ends Stuck
coming left Halted = Ends Stuck

module _ (code : PlainCode) (width : ℕ → ℕ) where
  pub stays : (c : Coming) → LeadsTo code width c c
  stays c = record { by = λ e h. h }

  pub and_on : (a b c : Coming) → LeadsTo code width a b → LeadsTo code width b c → LeadsTo code width a c
  and_on a b c p q = record { by = λ e h. p.by e (q.by e h) }

  pub to_stuck : (c : Coming) (p : Peak) → LeadsTo code width c (After p (Ends Stuck))
  to_stuck c p = record { by = λ e h. absurd h.1 }

  pub following : (p : Peak) (c d : Coming) → LeadsTo code width c d → LeadsTo code width (After p c) (After p d)
  following p c d h = record { by = λ e x. (x.0, h.by x.0 x.1, x.2) }

  pub after_both : (p q : Peak) (c : Coming) → LeadsTo code width (After p (After q c)) (After (higher p q) c)
  after_both p q c = record { by = λ e x. (after q x.0, (x.0, x.1, refl), ap (λ y. record { answer = (x.0).answer; peak = y }) (sym (higher_in p q (x.0).peak)) ∙ x.2) }

  pub as_high : (p q : Peak) (c : Coming) → p ≡ q → LeadsTo code width (After p c) (After q c)
  as_high p q c e = subst (λ x. LeadsTo code width (After p c) (After x c)) e (stays (After p c))

  -- ---- states

  highest_has : (n : ℕ) (s : State) (left k : ℕ) → higher (height width s) (highest code width n (Going s left k)) ≡ highest code width n (Going s left k)
  highest_has zero s left k = higher_same (height width s)
  highest_has (suc n) s left k =
      let r = highest code width n (T.later code (Going s left k)) in
      sym (higher_in (height width s) (height width s) r) ∙ ap (λ h. higher h r) (higher_same (height width s))

  -- a state is none higher than the peak from there on
  own_height : (s : State) (left : ℕ) (e : Evaluation) → ComesTo code width (At s left) e → after (height width s) e ≡ e
  own_height s left e h =
      let r = h 0 in
      ap (λ y. record { answer = e.answer; peak = y }) (ap (higher (height width s)) (sym r.peak) ∙ highest_has r.enough s left 0 ∙ r.peak)

  pub after_own : (s : State) (left : ℕ) (c : Coming) → LeadsTo code width (At s left) c → LeadsTo code width (At s left) (After (height width s) c)
  after_own s left c h = record { by = λ e x. let one = h.by x.0 x.1 in subst (ComesTo code width (At s left)) (sym (own_height s left x.0 one) ∙ x.2) one }

  -- one step later
  sooner : (s : State) (left n : ℕ) (x : Next) (e : Evaluation) → next code s ≡ x → RunsTo code width (comes s left (suc n) x) e → RunsTo code width (Going s left n) (after (height width s) e)
  sooner s left n x e is h = record {
    enough = suc h.enough;
    last = h.last;
    left = h.left;
    steps = h.steps;
    is = ap (λ y. T.after code h.enough (comes s left (suc n) y)) is ∙ h.is;
    peak = ap (λ y. higher (height width s) (highest code width h.enough (comes s left (suc n) y))) is ∙ ap (higher (height width s)) h.peak;
  }

  over : (a : Answer) (s : State) (left n : ℕ) → RunsTo code width (Over a s left n) (record { answer = a; peak = height width s })
  over a s left n = record { enough = 0; last = s; left = left; steps = n; is = refl; peak = refl }

  -- a step to the end
  last_step : (a : Answer) (s : State) (left rest n : ℕ) (x : Next) (e : Evaluation) → next code s ≡ x → comes s left (suc n) x ≡ Over a s rest (suc n) → after (height width s) (ends a) ≡ e → RunsTo code width (Going s left n) e
  last_step a s left rest n x e is end same =
      subst (RunsTo code width (Going s left n)) (ap (λ y. record { answer = a; peak = y }) (higher_same (height width s) ∙ sym (higher_none (height width s))) ∙ same)
      (sooner s left n x (record { answer = a; peak = height width s }) is (subst (λ r. RunsTo code width r (record { answer = a; peak = height width s })) (sym end) (over a s rest (suc n))))

  -- an instruction that is no call
  pub does : (s : State) (left : ℕ) (x : Next) → next code s ≡ x → LeadsTo code width (At s left) (After (height width s) (coming left x))
  does s left (Went t) is = record { by = λ e h n. subst (RunsTo code width (Going s left n)) h.2 (sooner s left n (Went t) h.0 is (h.1 (suc n))) }
  does s left (Entered t) is = to_stuck _ _
  does s left (Gave vs) is = record { by = λ e h n. last_step (Gives vs left) s left left n (Gave vs) e is refl (ap (after (height width s)) (sym h.1) ∙ h.2) }
  does s left (Trapped kind line col) is = record { by = λ e h n. last_step (Trap kind line col) s left left n (Trapped kind line col) e is refl (ap (after (height width s)) (sym h.1) ∙ h.2) }
  does s left TooDeep is = to_stuck _ _
  does s left Halted is = to_stuck _ _

  -- one that stays in its frame
  pub steps : (s t : State) (left : ℕ) → height width s ≡ height width t → next code s ≡ Went t → LeadsTo code width (At s left) (At t left)
  steps s t left same is = record { by = λ e h n. subst (RunsTo code width (Going s left n)) (ap (λ p. after p e) same ∙ own_height t left e h) (sooner s left n (Went t) e is (h (suc n))) }

  -- a call, which costs one
  pub enters : (s t : State) (left : ℕ) → next code s ≡ Entered t → LeadsTo code width (At s (suc left)) (After (height width s) (At t left))
  enters s t left is = record { by = λ e h n. subst (RunsTo code width (Going s (suc left) n)) h.2 (sooner s (suc left) n (Entered t) h.0 is (h.1 (suc n))) }

  pub enters_out : (s t : State) → next code s ≡ Entered t → LeadsTo code width (At s zero) (After (height width s) (Ends Out))
  enters_out s t is = record { by = λ e h n. last_step Out s zero zero n (Entered t) e is refl (ap (after (height width s)) (sym h.1) ∙ h.2) }

  pub deep_out : (s : State) → next code s ≡ TooDeep → LeadsTo code width (At s zero) (After (height width s) (Ends Out))
  deep_out s is = record { by = λ e h n. last_step Out s zero zero n TooDeep e is refl (ap (after (height width s)) (sym h.1) ∙ h.2) }

  pub too_deep : (s : State) (left : ℕ) → next code s ≡ TooDeep → LeadsTo code width (At s (suc left)) (After (height width s) (Ends Deep))
  too_deep s left is = record { by = λ e h n. last_step Deep s (suc left) left n TooDeep e is refl (ap (after (height width s)) (sym h.1) ∙ h.2) }

  -- the instruction that is there
  pub next_is : (s : State) (i : Instr) → instr_at code s.running.function s.running.at ≡ Some i → next code s ≡ act code s i
  next_is s i h = ap (act_at code s) h

  -- ---- evaluations

  -- the same answer, handed on
  pub answers_to : (a : Answer) (go to : Values → ℕ → Coming) → ((vs : Values) (k : ℕ) → a ≡ Gives vs k → LeadsTo code width (go vs k) (to vs k)) → LeadsTo code width (answer_coming a go) (answer_coming a to)
  answers_to (Gives vs k) go to h = h vs k refl
  answers_to (Trap kind line col) go to h = stays _
  answers_to Out go to h = stays _
  answers_to Deep go to h = stays _
  answers_to Stuck go to h = stays _

  -- an evaluation, and then another
  pub answers_on : (up : Peak → Peak) → ((p q : Peak) → higher (up p) (up q) ≡ up (higher p q)) → (r : Evaluation) (go : Values → ℕ → Evaluation) (to : Values → ℕ → Coming) → LeadsTo code width (run_coming up r (λ vs k. run_coming up (go vs k) to)) (run_coming up (then_with r go) to)
  answers_on up joins r go to = by_answer r.answer
    where
      ended : (a : Answer) → LeadsTo code width (After (up r.peak) (Ends a)) (After (up (higher r.peak no_peak)) (Ends a))
      ended a = as_high (up r.peak) (up (higher r.peak no_peak)) (Ends a) (ap up (sym (higher_none r.peak)))

      by_answer : (a : Answer) → LeadsTo code width (After (up r.peak) (answer_coming a (λ vs k. run_coming up (go vs k) to))) (run_coming up (after r.peak (go_on a go)) to)
      by_answer (Gives vs k) =
          let q = (go vs k).peak in
          let c = answer_coming (go vs k).answer to in
          and_on (After (up r.peak) (After (up q) c)) (After (higher (up r.peak) (up q)) c) (After (up (higher r.peak q)) c)
          (after_both (up r.peak) (up q) c) (as_high (higher (up r.peak) (up q)) (up (higher r.peak q)) c (joins r.peak q))
      by_answer (Trap kind line col) = ended (Trap kind line col)
      by_answer Out = ended Out
      by_answer Deep = ended Deep
      by_answer Stuck = ended Stuck

  pub with_one : (up : Peak → Peak) (c : Coming) (o : Option Value) (go : Value → Evaluation) (to : Values → ℕ → Coming) → ((v : Value) → o ≡ Some v → LeadsTo code width c (run_coming up (go v) to)) → LeadsTo code width c (run_coming up (with_value o go) to)
  with_one up c None go to h = to_stuck c (up no_peak)
  with_one up c (Some v) go to h = h v refl

  pub with_all : (up : Peak → Peak) (c : Coming) (o : Option Values) (go : Values → Evaluation) (to : Values → ℕ → Coming) → ((vs : Values) → o ≡ Some vs → LeadsTo code width c (run_coming up (go vs) to)) → LeadsTo code width c (run_coming up (with_values o go) to)
  with_all up c None go to h = to_stuck c (up no_peak)
  with_all up c (Some vs) go to h = h vs refl

  -- a call whose callee's run is known, and where its values go on
  pub enters_callee : (s t : State) (left : ℕ) (a : Answer) (p q : Peak) (back go : Values → ℕ → Coming) → next code s ≡ Entered t → LeadsTo code width (At t left) (After p (answer_coming a back)) → higher (height width s) p ≡ q → LeadsTo code width (answer_coming a back) (answer_coming a go) → LeadsTo code width (At s (suc left)) (After q (answer_coming a go))
  enters_callee s t left a p q back go is run same on =
      let h = height width s in
      and_on (At s (suc left)) (After h (At t left)) (After q (answer_coming a go)) (enters s t left is)
      (and_on (After h (At t left)) (After h (After p (answer_coming a go))) (After q (answer_coming a go))
      (following h (At t left) (After p (answer_coming a go)) (and_on (At t left) (After p (answer_coming a back)) (After p (answer_coming a go)) run (following p (answer_coming a back) (answer_coming a go) on)))
      (and_on (After h (After p (answer_coming a go))) (After (higher h p) (answer_coming a go)) (After q (answer_coming a go))
      (after_both h p (answer_coming a go)) (as_high (higher h p) q (answer_coming a go) same)))
