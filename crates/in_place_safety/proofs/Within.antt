-- The numbers that are found of the instances bound their runs: they solve the inequations that runs require.
use Rattle.std.proofs.Common.{◌≡◌, ◌≢◌, ◌≤◌, ℕ, zero, suc, ◌+◌, Bool, true, false, not, List, [], ◌∷◌, map, get_or, Some, None, slice_get, if◌then◌else◌, refl, sym, ap, ◌∙◌, subst, arith}
use Rattle.tail_groups.specs.fip_language.declared.limits.TheConstants.{FRAME_WORDS}
use Rattle.tail_groups.specs.fip_language.Values.{Values}
use Rattle.tail_groups.specs.fip_language.Meaning.{Answer, Out, Deep, nothing_bound}
use Rattle.tail_groups.specs.fip_base.declared.plain.Stack.{Stack}
use Rattle.tail_groups.specs.fip_trees.declared.groups.Member.{Member}
use Rattle.tail_groups.specs.fip_trees.Tree.{Argument, Variable, Literal, Constructor, Arguments, NoArguments, MoreArguments, Pattern, BinderPattern, LiteralPattern, ConstructorPattern, Patterns, NoPatterns, MorePatterns, Expression, Give, Tuple, Operation, Call, Match, Nested, Block, Last, Let, Clauses, NoClauses, MoreClauses, Instance, Program}
use Rattle.tail_groups.specs.call_groups.CallGraph.{In, Calls as CallsOf}
use Rattle.tail_groups.specs.call_groups.Stacks as G
use Rattle.tail_groups.specs.call_groups.Stacks.{charge, Solves, HasFrame, FramedCalls, words_or_none, number_of, frames_in, words_in, AreStacks}
use Rattle.tail_groups.specs.Sites.{Site, instance_sites, called, instance_calls, call_rows}
use Rattle.tail_groups.specs.Rules.{is_fip}
use Rattle.tail_groups.specs.Registers as T
use Rattle.tail_groups.specs.Members.{frame, stack}
use Rattle.type_safety.specs.instance_semantics.Registers.{registers_of_argument, registers_of_arguments, registers_of_pattern, registers_of_patterns, registers_of_expression, registers_of_block, registers_of_clauses, frame_words}
use Rattle.type_safety.specs.instance_semantics.Meaning.{bind_binders, Calls, body_run, calls_of, flat_meaning}
use Rattle.type_safety.proofs.instance_semantics.Frames.{more_frames}
use Rattle.in_place_safety.specs.Scrutinees.{IsVariable, MatchesVariables, BlockMatchesVariables, ClausesMatchVariables, AllMatchVariables}
use Rattle.in_place_safety.specs.Bounds.{IsWithin, AreBounded}
use Rattle.in_place_safety.proofs.Runs.{NotDeep, Fits, SiteFits, AllSites, IsFit, at_rest, block_fits, entered_fits, counted_within}
use Rattle.tail_groups.proofs.fip_language.Facts.{get_map as in_map, if_some_true as is_framed}

-- ---- registers are counted alike

mutual
  argument_same : (a : Argument) → T.in_argument a ≡ registers_of_argument a
  argument_same (Variable x n p) = refl
  argument_same (Literal i p) = refl
  argument_same (Constructor t d c n p as') = let h = arguments_same as' in omega arith

  arguments_same : (as' : Arguments) → T.in_arguments as' ≡ registers_of_arguments as'
  arguments_same NoArguments = refl
  arguments_same (MoreArguments a as') = let g = argument_same a in let h = arguments_same as' in omega arith

mutual
  pattern_same : (q : Pattern) → T.in_pattern q ≡ registers_of_pattern q
  pattern_same (BinderPattern b) = refl
  pattern_same (LiteralPattern i p) = refl
  pattern_same (ConstructorPattern t d c n p ps) = let h = patterns_same ps in omega arith

  patterns_same : (ps : Patterns) → T.in_patterns ps ≡ registers_of_patterns ps
  patterns_same NoPatterns = refl
  patterns_same (MorePatterns q ps) = let g = pattern_same q in let h = patterns_same ps in omega arith

no_registers : (a : Argument) → IsVariable a → registers_of_argument a ≡ 0
no_registers (Variable x n p) h = refl
no_registers (Literal i p) h = absurd h
no_registers (Constructor t d c n p as') h = absurd h

mutual
  expression_same : (e : Expression) → MatchesVariables e → T.in_expression e ≡ registers_of_expression e
  expression_same (Give a) h = argument_same a
  expression_same (Tuple p as') h = arguments_same as'
  expression_same (Operation o p l r) h = let f = argument_same l in let g = argument_same r in omega arith
  expression_same (Call g n p as') h = arguments_same as'
  expression_same (Match k t p a q body cs) h =
      let f = no_registers a h.0 in
      let g = pattern_same q in
      let i = block_same body h.1 in
      let j = clauses_same cs h.2 in omega arith
  expression_same (Nested b) h = block_same b h

  block_same : (b : Block) → BlockMatchesVariables b → T.in_block b ≡ registers_of_block b
  block_same (Last e) h = expression_same e h
  block_same (Let bs e rest) h = let f = expression_same e h.0 in let g = block_same rest h.1 in omega arith

  clauses_same : (cs : Clauses) → ClausesMatchVariables cs → T.in_clauses cs ≡ registers_of_clauses cs
  clauses_same NoClauses h = refl
  clauses_same (MoreClauses q body cs) h =
      let f = pattern_same q in
      let g = block_same body h.0 in
      let i = clauses_same cs h.1 in omega arith

pub frame_same : (d : Instance) → BlockMatchesVariables d.body → T.registers d + FRAME_WORDS ≡ frame_words d
frame_same d h = let g = block_same d.body h in omega arith

-- ---- instances by number

pub variables_at : (ds : List Instance) (i : ℕ) (d : Instance) → AllMatchVariables ds → slice_get ds i ≡ Some d → BlockMatchesVariables d.body
variables_at [] i d h e = cc
variables_at (x ∷ ds) zero d h e = let same : x ≡ d = cc in subst (λ (y : Instance). BlockMatchesVariables y.body) same h.0
variables_at (x ∷ ds) (suc i) d h e = variables_at ds i d h.1 e

row_at : (ds : List Instance) (i : ℕ) (d : Instance) → slice_get ds i ≡ Some d → get_or (call_rows ds) i [] ≡ instance_calls d
row_at [] i d e = cc
row_at (x ∷ ds) zero d e = let same : x ≡ d = cc in ap instance_calls same
row_at (x ∷ ds) (suc i) d e = row_at ds i d e

pub frame_at : (ds : List Instance) (i : ℕ) (d : Instance) → slice_get ds i ≡ Some d → slice_get (map frame ds) i ≡ Some (frame d)
frame_at [] i d e = cc
frame_at (x ∷ ds) zero d e = let same : x ≡ d = cc in ap (λ y. Some (frame y)) same
frame_at (x ∷ ds) (suc i) d e = frame_at ds i d e

frame_or : (ds : List Instance) (i : ℕ) (d : Instance) → slice_get ds i ≡ Some d → get_or (map frame ds) i None ≡ frame d
frame_or [] i d e = cc
frame_or (x ∷ ds) zero d e = let same : x ≡ d = cc in ap frame same
frame_or (x ∷ ds) (suc i) d e = frame_or ds i d e

stack_at : (ms : List Member) (i : ℕ) (m : Member) → slice_get ms i ≡ Some m → slice_get (map stack ms) i ≡ Some m.stack
stack_at [] i m e = cc
stack_at (x ∷ ms) zero m e = let same : x ≡ m = cc in ap (λ (y : Member). Some y.stack) same
stack_at (x ∷ ms) (suc i) m e = stack_at ms i m e

stack_or : (ms : List Member) (i : ℕ) (m : Member) → slice_get ms i ≡ Some m → get_or (map stack ms) i None ≡ m.stack
stack_or [] i m e = cc
stack_or (x ∷ ms) zero m e = let same : x ≡ m = cc in ap (λ (y : Member). y.stack) same
stack_or (x ∷ ms) (suc i) m e = stack_or ms i m e

-- what has a frame is there
framed_instance : (ds : List Instance) (i : ℕ) (w : ℕ) → slice_get (map frame ds) i ≡ Some (Some w) → (d : Instance) × (slice_get ds i ≡ Some d) × (frame d ≡ Some w)
framed_instance [] i w e = cc
framed_instance (x ∷ ds) zero w e = (x, refl, cc)
framed_instance (x ∷ ds) (suc i) w e = framed_instance ds i w e

-- ---- the sites of an instance

every_site : (P : Site → Type 0) (ss : List Site) → ((s : Site) → In s ss → P s) → AllSites P ss
every_site P [] h = tt
every_site P (s ∷ ss) h = (h s (0, refl), every_site P ss (λ r i. h r (suc i.0, i.1)))

site_within : (frames words : ℕ → ℕ) (i g own : ℕ) (t : Bool) → frames g + charge 1 (not t) ≤ frames i → words g + charge own (not t) ≤ words i → SiteFits frames words (frames i) (words i) own t g
site_within frames words i g own true a b = (omega arith, omega arith)
site_within frames words i g own false a b = (omega arith, omega arith)

module _ (p : Program) (ms : List Member) (bounded : AreBounded p.instances ms) where
  abbrev frames : ℕ → ℕ
  frames = frames_in (map stack ms)

  abbrev words : ℕ → ℕ
  words = words_in (map stack ms)

  stacks : AreStacks (call_rows p.instances) (map frame p.instances) (map stack ms)
  stacks = bounded.members.stacks bounded.fip

  -- what calls of fip instances do is within their numbers
  abbrev CallsFit : Calls → Type 0
  CallsFit calls = (d g : ℕ) (vs : Values) (k : ℕ) (f : Instance) → slice_get p.instances g ≡ Some f → is_fip f.kind ≡ true → Fits (frames g) (words g) d (calls d g vs k)

  has_frame : (i : ℕ) (f : Instance) → slice_get p.instances i ≡ Some f → is_fip f.kind ≡ true → HasFrame (map frame p.instances) i
  has_frame i f e k = (T.registers f + FRAME_WORDS, frame_at p.instances i f e ∙ ap Some (ap (λ b. if b then Some (T.registers f + FRAME_WORDS) else None) k))

  own_words : (i : ℕ) (f : Instance) → slice_get p.instances i ≡ Some f → is_fip f.kind ≡ true → G.frame_words (map frame p.instances) i ≡ frame_words f
  own_words i f e k =
      ap words_or_none (frame_or p.instances i f e ∙ ap (λ b. if b then Some (T.registers f + FRAME_WORDS) else None) k)
      ∙ frame_same f (variables_at p.instances i f bounded.scrutinees e)

  site_fits : (calls : Calls) → CallsFit calls → (i : ℕ) (f : Instance) → slice_get p.instances i ≡ Some f → is_fip f.kind ≡ true → (s : Site) → In s (instance_sites f) → IsFit calls frames words (frames i) (words i) (frame_words f) s
  site_fits calls fit i f e k s here =
      let callee = bounded.fip i f s e k here in
      let stands : CallsOf (call_rows p.instances) i s.callee (not s.is_tail) = subst (λ row. In (called s) row) (sym (row_at p.instances i f e)) (here.0, in_map called (instance_sites f) here.0 s here.1) in
      let framed : FramedCalls (call_rows p.instances) (map frame p.instances) i s.callee (not s.is_tail) = (has_frame i f e k, stands) in
      let a = stacks.least_frames.0.calls_in i s.callee (not s.is_tail) framed in
      let b = stacks.least_words.0.calls_in i s.callee (not s.is_tail) framed in
      let c = subst (λ n. words s.callee + charge n (not s.is_tail) ≤ words i) (own_words i f e k) b in
      record { numbers = site_within frames words i s.callee (frame_words f) s.is_tail a c; runs = λ d vs j. fit d s.callee vs j callee.0 callee.1 callee.2 }

  body_within : (calls : Calls) → CallsFit calls → (i : ℕ) (f : Instance) → slice_get p.instances i ≡ Some f → is_fip f.kind ≡ true → (d : ℕ) (vs : Values) (k : ℕ) → Fits (frames i) (words i) d (body_run calls d (Some f) vs k)
  body_within calls fit i f e k d vs j =
      let base = stacks.least_words.0.base_in i in
      let own = subst (λ n. n ≤ words i) (own_words i f e k) base in
      entered_fits (frames i) (words i) d (frame_words f) _ own
      (block_fits calls frames words (frames i) (words i) (frame_words f) f.body true d (bind_binders nothing_bound f.binders vs) j
      (every_site (IsFit calls frames words (frames i) (words i) (frame_words f)) (instance_sites f) (site_fits calls fit i f e k)))

  calls_within : (m : ℕ) → CallsFit (calls_of p m)
  calls_within zero d g vs k f e h = at_rest (frames g) (words g) d Out tt
  calls_within (suc m) d g vs k f e h = subst (λ o. Fits (frames g) (words g) d (body_run (calls_of p m) d o vs k)) (sym e) (body_within (calls_of p m) (calls_within m) g f e h d vs k)

  meaning_fits : (i : ℕ) (f : Instance) (vs : Values) (n d : ℕ) → slice_get p.instances i ≡ Some f → is_fip f.kind ≡ true → Fits (frames i) (words i) d (flat_meaning p i vs n d)
  unfolding flat_meaning
  meaning_fits i f vs n d e h = counted_within (frames i) (words i) d n _ (λ left. calls_within n d i vs left f e h)

not_deep : (a : Answer) → NotDeep a → a ≢ Deep
not_deep a h e = subst NotDeep e h

-- a run of an instance that has numbers is within them
pub meaning_within : (p : Program) (ms : List Member) (i : ℕ) (m : Member) (s : Stack) (vs : Values) (n d : ℕ) → AreBounded p.instances ms → slice_get ms i ≡ Some m → m.stack ≡ Some s → IsWithin s d (flat_meaning p i vs n d)
meaning_within p ms i m s vs n d bounded e is =
    let all = stacks p ms bounded in
    let framed = all.none i s (stack_at ms i m e ∙ ap Some is) in
    let f = framed_instance p.instances i framed.0 framed.1 in
    let fits = meaning_fits p ms bounded i f.0 vs n d f.1 (is_framed (is_fip f.0.kind) (T.registers f.0 + FRAME_WORDS) framed.0 f.2) in
    let a : frames_in (map stack ms) i ≡ s.frames = ap (number_of (λ (t : Stack). t.frames)) (stack_or ms i m e ∙ is) in
    let b : words_in (map stack ms) i ≡ s.words = ap (number_of (λ (t : Stack). t.words)) (stack_or ms i m e ∙ is) in
    let j = fits.frames_in in
    let k = fits.words_in in
    record { frames = omega arith; words = omega arith; enough = λ l. not_deep (flat_meaning p i vs n d).answer (fits.enough (omega arith)) }

-- with so many frames, more of them change nothing
pub meaning_same : (p : Program) (ms : List Member) (i : ℕ) (m : Member) (s : Stack) (vs : Values) (n d j : ℕ) → AreBounded p.instances ms → slice_get ms i ≡ Some m → m.stack ≡ Some s → s.frames ≤ d → flat_meaning p i vs n (d + j) ≡ flat_meaning p i vs n d
meaning_same p ms i m s vs n d j bounded e is l = more_frames p i vs n d j ((meaning_within p ms i m s vs n d bounded e is).enough l)
