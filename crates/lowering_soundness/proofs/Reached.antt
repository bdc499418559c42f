-- The calls of a sound code that is laid out as its program requires: each call that is in the body of an instance is
-- one of its function's code, and it is reached. The body of each clause begins at the start of the function or at a
-- label, and the clauses of a match that is bound by a let meet at a label.
use Rattle.std.proofs.Common.{◌≡◌, ◌⊎◌, inl, inr, ℕ, zero, suc, ◌<◌, Bool, true, false, not, List, [], ◌∷◌, ◌++◌, slice_get, length, Some, refl, sym, subst, nat_lt}
use Rattle.std.proofs.lemmas.Option.{none-some, same_Some}
use Rattle.separation.specs.cell_code.declared.code.Instr.{Instr}
use Rattle.separation.specs.cell_code.declared.code.Instr.TheVariants as I
use Rattle.separation.specs.cell_code.declared.kind.Kind.{Kind}
use Rattle.lowering_relation.specs.fip_trees.Tree.{Expression, Give, Tuple, Operation, Call, Match, Nested, Block, Last, Let, Clauses, NoClauses, MoreClauses}
use Rattle.lowering_relation.specs.fip_trees.Tree.{Pattern, Name, Program, NoArguments, MoreArguments}
use Rattle.separation.specs.fip_language.declared.Place.{Place}
use Rattle.tail_groups.specs.call_groups.CallGraph.{In}
use Rattle.tail_groups.specs.Sites.{Site, site, sites, block_sites, clauses_sites, instance_sites}
use Rattle.separation.specs.cell_code.Plain.{PlainFunction, PlainCode, function_at}
use Rattle.separation.specs.code_rules.Codes.{is_fip}
use Rattle.separation.specs.code_rules.Ranges.{in_range}
use Rattle.separation.specs.code_rules.Flow.{IsReachedAt}
use Rattle.separation.specs.code_rules.Calls.{IsCall, Calls}
use Rattle.separation.specs.code_rules.Breaks.{IsSound}
use Rattle.separation.proofs.separation_kinds.Basics.{both, below}
use Rattle.separation.proofs.Sound.{formed, ranged}
use Rattle.lowering_relation.specs.Known.{Known, joined}
use Rattle.lowering_relation.specs.Values.{Setting}
use Rattle.lowering_relation.specs.LoweredBodies.{Target, Return, Into}
use Rattle.lowering_relation.specs.Tests.{Choice}
use Rattle.lowering_relation.specs.Matches.{EntryLaid}
use Rattle.lowering_relation.specs.Handed.{CallLaid}
use Rattle.lowering_relation.specs.LaidBodies.{ClausesMeet, NamedLaid, ExpressionLaid, BlockLaid, ClausesLaid}
use Rattle.lowering_relation.specs.LaidFunctions.{IsLaid, AreLaid}
use Rattle.lowering_soundness.proofs.StackStraight.{Reached, at_start, at_label, one, arguments, given_up, moves, operation}

-- ---- lists

get_parts : {A : Type 0} (xs ys : List A) (i : ℕ) (x : A) → slice_get (xs ++ ys) i ≡ Some x → In x xs ⊎ In x ys
get_parts [] ys i x h = inr (i, h)
get_parts (y ∷ xs) ys zero x h = inl (zero, h)
get_parts (y ∷ xs) ys (suc i) x h = later (get_parts xs ys i x h)
  where
    later : In x xs ⊎ In x ys → In x (y ∷ xs) ⊎ In x ys
    later (inl z) = inl (suc z.0, z.1)
    later (inr z) = inr z

-- ---- calls that are made

-- the results are the function's
abbrev is_return : Target → Bool
is_return Return = true
is_return (Into ds) = false

-- the function of a call that an instruction makes
callee_there : (c : PlainCode) (f : PlainFunction) (i : ℕ) (x : Instr) (g : ℕ) (waits : Bool) → IsCall x g waits → in_range c f i x ≡ true → g < length c.functions
callee_there c f i (I.Const d v) g waits h r = absurd h
callee_there c f i (I.Atom d t k) g waits h r = absurd h
callee_there c f i (I.Move d s) g waits h r = absurd h
callee_there c f i (I.Arith d op a b line col) g waits h r = absurd h
callee_there c f i (I.Test d k target) g waits h r = absurd h
callee_there c f i (I.TestInt d v target) g waits h r = absurd h
callee_there c f i (I.Peek d s k) g waits h r = absurd h
callee_there c f i (I.Take d ds) g waits h r = absurd h
callee_there c f i (I.Put d t k ss) g waits h r = absurd h
callee_there c f i (I.Drop d) g waits h r = absurd h
callee_there c f i (I.Free d) g waits h r = absurd h
callee_there c f i (I.Call e rs ds) g waits h r = subst (λ g. g < length c.functions) h.0 (below e (length c.functions) (both (nat_lt e (length c.functions)) _ r).0)
callee_there c f i (I.Tail e rs) g waits h r = subst (λ g. g < length c.functions) h.0 (below e (length c.functions) (both (nat_lt e (length c.functions)) _ r).0)
callee_there c f i (I.Ret rs) g waits h r = absurd h
callee_there c f i (I.Jump target) g waits h r = absurd h

-- an instruction that is reached makes this call
record IsMade (c : PlainCode) (st : Setting) (f : PlainFunction) (s : Site) : Type 0 where
  place : ℕ
  kinds : List Kind
  instr : Instr
  reached : IsReachedAt c f place kinds instr
  function : ℕ
  numbered : joined (slice_get st.functions s.callee) ≡ Some function
  call : IsCall instr function (not s.is_tail)

abbrev AreMade : PlainCode → Setting → PlainFunction → List Site → Type 0
AreMade c st f ss = (s : Site) → In s ss → IsMade c st f s

module _ (c : PlainCode) (st : Setting) (fip : Bool) (f : PlainFunction) where
  entered : (ch : Choice) (k : Known) (i : ℕ) (q : Pattern) (at m : ℕ) → EntryLaid c st f ch k i q at m → Reached c f at
  entered ch k i q at m h = elim h.enters as (λ v. Reached c f at) [
    | inl x ↦ at_label c f at x.1.map x.1.there
    | inr x ↦ subst (Reached c f) (sym x.0) (at_start c f)
  ]

  no_calls : AreMade c st f []
  no_calls s h = absurd (none-some s h.1)

  all_calls : (ss ts : List Site) → AreMade c st f ss → AreMade c st f ts → AreMade c st f (ss ++ ts)
  all_calls ss ts a b s h = elim (get_parts ss ts h.0 s h.1) as (λ v. IsMade c st f s) [
    | inl x ↦ a s x
    | inr x ↦ b s x
  ]

  one_call : (s : Site) → IsMade c st f s → AreMade c st f (s ∷ [])
  one_call s made t (zero, e) = subst (IsMade c st f) (same_Some s t e) made
  one_call s made t (suc i, e) = absurd (none-some t e)

  named_calls : (at : ℕ) (k : Known) (e : Expression) (rs : List ℕ) (mid : ℕ) (m : Known) → NamedLaid c st f at k e rs mid m → AreMade c st f (sites false e)
  named_calls at k (Give a) rs mid m h = no_calls
  named_calls at k (Tuple p as') rs mid m h = no_calls
  named_calls at k (Operation o p a b) rs mid m h = absurd h
  named_calls at k (Call g n p as') rs mid m h = absurd h
  named_calls at k (Match ds t p a q b cs) rs mid m h = absurd h
  named_calls at k (Nested b) rs mid m h = absurd h

  module _ (n : ℕ) (sound : IsSound c) (is : function_at c n ≡ Some f) where
    -- ---- ends

    named_end : (at : ℕ) (k : Known) (e : Expression) (rs : List ℕ) (mid : ℕ) (m : Known) → NamedLaid c st f at k e rs mid m → Reached c f at → Reached c f mid
    named_end at k (Give a) rs mid m h here = arguments c n f sound is st at k (MoreArguments a NoArguments) rs mid m h.values.arguments here
    named_end at k (Tuple p as') rs mid m h here = arguments c n f sound is st at k as' rs mid m h.values.arguments here
    named_end at k (Operation o p a b) rs mid m h here = absurd h
    named_end at k (Call g i p as') rs mid m h here = absurd h
    named_end at k (Match ds t p a q b cs) rs mid m h here = absurd h
    named_end at k (Nested b) rs mid m h here = absurd h

    mutual
      expression_end : (at : ℕ) (k : Known) (e : Expression) (rs : List ℕ) (end : ℕ) (after : Known) → ExpressionLaid c st fip f at k e (Into rs) end after → Reached c f at → Reached c f end
      expression_end at k (Give a) rs end after h here = moves c n f sound is h.mid h.m h.registers rs end after h.given (arguments c n f sound is st at k (MoreArguments a NoArguments) h.registers h.mid h.m h.values.arguments here)
      expression_end at k (Tuple p as') rs end after h here = moves c n f sound is h.mid h.m h.registers rs end after h.given (arguments c n f sound is st at k as' h.registers h.mid h.m h.values.arguments here)
      expression_end at k (Operation o p a b) rs end after h here = operation c n f sound is fip h.mid h.m o p h.left h.right rs end after h.operation (arguments c n f sound is st at k (MoreArguments a (MoreArguments b NoArguments)) (h.left ∷ h.right ∷ []) h.mid h.m h.values.arguments here)
      expression_end at k (Call g i p as') rs end after h here = one c n f sound is h.mid end (I.Call h.call.function (h.registers ++ h.call.credits) rs) h.call.ends.written h.call.ends.one refl (arguments c n f sound is st at k as' h.registers h.mid h.m h.values.arguments here)
      expression_end at k (Match ds t p a q b cs) rs end after (begin, k0, ch, l, e, i, mid, m, next, left, met, bare, quiet, begins, entry, body, ends, others, meets) here = at_label c f end meets.map meets.label
      expression_end at k (Nested b) rs end after h here = block_end at k b rs end after h here

      block_end : (at : ℕ) (k : Known) (b : Block) (rs : List ℕ) (end : ℕ) (after : Known) → BlockLaid c st fip f at k b (Into rs) end after → Reached c f at → Reached c f end
      block_end at k (Last e) rs end after h here = expression_end at k e rs end after h here
      block_end at k (Let bs e rest) rs end after (inl h) here = block_end h.1 _ rest rs end after h.4 (named_end at k e h.0 h.1 h.2 h.3 here)
      block_end at k (Let bs e rest) rs end after (inr h) here = block_end h.0 _ rest rs end after h.3 (expression_end at _ e _ h.0 h.1 h.2 here)

    -- ---- calls

    call_made : (at : ℕ) (k : Known) (g : ℕ) (i : Name) (p : Place) (rs : List ℕ) (target : Target) (end : ℕ) (after : Known) → CallLaid st fip f at k g rs target end after → Reached c f at → IsMade c st f (site g i p (is_return target))
    call_made at k g i p rs Return end after h here = record {
      place = h.ends.stop;
      kinds = stop.0;
      instr = I.Tail h.function (rs ++ h.credits);
      reached = record { known = stop.1; instr = h.ends.written };
      function = h.function;
      numbered = h.numbered;
      call = (refl, refl);
    }
      where
        stop : Reached c f h.ends.stop
        stop = given_up c n f sound is fip h.ends.steps at h.m h.ends.stop h.ends.left h.ends.gives here
    call_made at k g i p rs (Into ds) end after h here = record {
      place = at;
      kinds = here.0;
      instr = I.Call h.function (rs ++ h.credits) ds;
      reached = record { known = here.1; instr = h.ends.written };
      function = h.function;
      numbered = h.numbered;
      call = (refl, refl);
    }

    mutual
      expression : (at : ℕ) (k : Known) (e : Expression) (target : Target) (end : ℕ) (after : Known) → ExpressionLaid c st fip f at k e target end after → Reached c f at → AreMade c st f (sites (is_return target) e)
      expression at k (Give a) target end after h here = no_calls
      expression at k (Tuple p as') target end after h here = no_calls
      expression at k (Operation o p a b) target end after h here = no_calls
      expression at k (Call g i p as') target end after h here = one_call (site g i p (is_return target)) (call_made h.mid h.m g i p h.registers target end after h.call (arguments c n f sound is st at k as' h.registers h.mid h.m h.values.arguments here))
      expression at k (Match ds t p a q b cs) (Into rs) end after (begin, k0, ch, l, e, i, mid, m, next, left, met, bare, quiet, begins, entry, body, ends, others, meets) here =
          all_calls (block_sites false b) (clauses_sites false cs) (block e _ b (Into rs) mid m body (entered ch l 0 q e i entry)) (clauses_meet ch l (Match ds t p a q b cs) 1 cs rs end left next met others)
      expression at k (Match ds t p a q b cs) Return end after (ch, l, e, i, mid, m, begins, entry, body, others) here =
          all_calls (block_sites true b) (clauses_sites true cs) (block e _ b Return mid m body (entered ch l 0 q e i entry)) (clauses ch l 1 cs mid end others)
      expression at k (Nested b) target end after h here = block at k b target end after h here

      block : (at : ℕ) (k : Known) (b : Block) (target : Target) (end : ℕ) (after : Known) → BlockLaid c st fip f at k b target end after → Reached c f at → AreMade c st f (block_sites (is_return target) b)
      block at k (Last e) target end after h here = expression at k e target end after h here
      block at k (Let bs e rest) target end after (inl h) here =
          all_calls (sites false e) (block_sites (is_return target) rest) (named_calls at k e h.0 h.1 h.2 h.3) (block h.1 _ rest target end after h.4 (named_end at k e h.0 h.1 h.2 h.3 here))
      block at k (Let bs e rest) target end after (inr h) here =
          all_calls (sites false e) (block_sites (is_return target) rest) (expression at _ e (Into _) h.0 h.1 h.2 here) (block h.0 _ rest target end after h.3 (expression_end at _ e _ h.0 h.1 h.2 here))

      clauses : (ch : Choice) (l : Known) (j : ℕ) (cs : Clauses) (at end : ℕ) → ClausesLaid c st fip f ch l j cs at end → AreMade c st f (clauses_sites true cs)
      clauses ch l j NoClauses at end h = no_calls
      clauses ch l j (MoreClauses q b cs) at end (more, start, i, mid, m, tests, entry, body, others) =
          all_calls (block_sites true b) (clauses_sites true cs) (block start _ b Return mid m body (entered ch l j q start i entry)) (clauses ch l (suc j) cs mid end others)

      clauses_meet : (ch : Choice) (l : Known) (o : Expression) (j : ℕ) (cs : Clauses) (rs : List ℕ) (end : ℕ) (k : Known) (at : ℕ) (met : Known) → ClausesMeet c st fip f ch l o j cs rs end k at met → AreMade c st f (clauses_sites false cs)
      clauses_meet ch l o j NoClauses rs end k at met h = no_calls
      clauses_meet ch l o j (MoreClauses q b cs) rs end k at met (more, start, i, mid, m, next, left, joined', tests, entry, body, ends, meets, others) =
          all_calls (block_sites false b) (clauses_sites false cs) (block start _ b (Into rs) mid m body (entered ch l j q start i entry)) (clauses_meet ch l o (suc j) cs rs end joined' next met others)

pub calls_there : (c : PlainCode) (st : Setting) (p : Program) → AreLaid c st p → IsSound c → (n : ℕ) (f : PlainFunction) → function_at c n ≡ Some f → (l : IsLaid c st p n f) → (s : Site) → In s (instance_sites l.instance) → (g : ℕ) × (joined (slice_get st.functions s.callee) ≡ Some g) × Calls c n g (not s.is_tail)
calls_there c st p all sound n f is l s h = (
  made.function,
  made.numbered,
  (
    made.place,
    record {
      function = f;
      is = is;
      formed = formed c n f sound is;
      kinds = made.kinds;
      instr = made.instr;
      reached = made.reached;
      call = made.call;
      there = callee_there c f made.place made.instr made.function (not s.is_tail) made.call (ranged c n made.place f made.instr sound is made.reached.instr);
    },
  ),
)
  where
    made : IsMade c st f s
    made = block c st (is_fip f.kind) f n sound is 0 _ l.instance.body Return (length f.instrs) l.laid.after l.laid.body (at_start c f) s h
