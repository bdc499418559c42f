-- Each instruction of a function that is laid out as its instance's body requires lists no more registers than the body
-- is wide, twice for a call with its destinations, and the credits that a call hands over.
use Rattle.std.proofs.Common.{◌≡◌, inl, inr, ℕ, zero, suc, ◌+◌, ◌*◌, ◌<◌, ◌≤◌, max, Bool, true, false, List, [], ◌∷◌, ◌++◌, slice_get, length, Some, refl, sym, ap, ◌∙◌, subst, arith, true≢false}
use Rattle.std.proofs.lemmas.Option.{none-some, same_Some}
use Rattle.std.proofs.lemmas.List.{length-append}
use Rattle.fip_language.specs.declared.Place.{Place}
use Rattle.fip_language.specs.declared.Operator.{Operator}
use Rattle.cell_code.specs.declared.code.Instr.{Instr}
use Rattle.cell_code.specs.declared.code.Instr.TheVariants as I
use Rattle.cell_code.specs.declared.kind.Kind.{Kind}
use Rattle.fip_trees.specs.declared.program.Binder.{Binder}
use Rattle.fip_trees.specs.Tree.{Argument, Variable, Literal, Constructor, Arguments, NoArguments, MoreArguments}
use Rattle.fip_trees.specs.Tree.{Expression, Give, Tuple, Operation, Call, Match, Nested, Block, Last, Let, Clauses, NoClauses, MoreClauses, Instance}
use Rattle.fip_trees.specs.Tree.{Pattern, BinderPattern, LiteralPattern, ConstructorPattern, Patterns, NoPatterns, MorePatterns}
use Rattle.cell_code.specs.Plain.{PlainFunction, PlainCode}
use Rattle.separation_kinds.proofs.Basics.{less_or_not, get_within}
use Rattle.match_knowledge.specs.declared.heads.Head.{Head}
use Rattle.match_knowledge.specs.declared.heads.Head.TheVariants.{Number, Tag}
use Rattle.match_knowledge.specs.Patterns as M
use Rattle.match_knowledge.specs.Known as MK
use Rattle.match_knowledge.specs.Known.{Open, Is, Knowns, NoKnowns, MoreKnowns}
use Rattle.lowering_relation.specs.Opening.{as_many}
use Rattle.lowering_relation.specs.Spots.{Spot, At, Spots, NoSpots, MoreSpots}
use Rattle.lowering_relation.specs.Landing.{test_of}
use Rattle.lowering_relation.specs.Known.{Known}
use Rattle.lowering_relation.specs.Values.{Setting, ArgumentAt, ArgumentsAt, BuiltAt}
use Rattle.lowering_relation.specs.LoweredBodies.{Target, Return, Into, AreTaken, registers_for}
use Rattle.lowering_relation.specs.Describing.{Holding}
use Rattle.lowering_relation.specs.GivenUp.{GivesOne, GivesUp}
use Rattle.lowering_relation.specs.Moves.{MoveLaid, MovesLaid}
use Rattle.lowering_relation.specs.Handed.{GivenLaid, OperationLaid, CallLaid}
use Rattle.lowering_relation.specs.Tests.{Choice, ReadOne, ReadsLaid, ReadsFirst, TestLaid, TakeLaid, TakesLaid, TakeAll, NamesLaid, NameAll, SettledLaid, TestsLaid, ChunkLaid, SidesLaid}
use Rattle.lowering_relation.specs.Matches.{MatchLaid, clause_patterns}
use Rattle.lowering_relation.specs.Joins.{GoesOn, ClauseEnds}
use Rattle.lowering_relation.specs.Leftover.{LeavesOver}
use Rattle.lowering_relation.specs.LaidBodies.{ClausesMeet, GiveLaid, NamedLaid, ExpressionLaid, BlockLaid, ClausesLaid}
use Rattle.lowering_relation.specs.LaidFunctions.{FunctionLaid}
use Rattle.code_bytes.specs.Widths.{count_arguments, count_patterns, argument_width, arguments_width, pattern_width, patterns_width, expression_width, block_width, clauses_width, width}
use Rattle.code_bytes.specs.Operands.{operands, most_for, HaveFew}

-- ---- lists of registers

-- arguments have a register each
arguments_many : (st : Setting) (code : List Instr) (at : ℕ) (k : Known) (as' : Arguments) (rs : List ℕ) (end : ℕ) (after : Known) → ArgumentsAt st code at k as' rs end after → length rs ≡ count_arguments as'
arguments_many st code at k NoArguments [] end after h = refl
arguments_many st code at k NoArguments (r ∷ rs) end after h = absurd h
arguments_many st code at k (MoreArguments a as') [] end after h = absurd h
arguments_many st code at k (MoreArguments a as') (r ∷ rs) end after h = ap suc (arguments_many st code h.0 h.1 as' rs end after h.3)

taken_many : (k : Known) (ns rs : List ℕ) (after : Known) → AreTaken k ns rs after → length rs ≡ length ns
taken_many k [] [] after h = refl
taken_many k [] (r ∷ rs) after h = absurd h
taken_many k (n ∷ ns) [] after h = absurd h
taken_many k (n ∷ ns) (r ∷ rs) after h = ap suc (taken_many _ ns rs after h.2)

binders_many : (r : ℕ) (bs : List Binder) → length (registers_for r bs) ≡ length bs
binders_many r [] = refl
binders_many r (b ∷ bs) = ap suc (binders_many (suc r) bs)

parts_many : (ps : Patterns) (ss : Spots) → length (as_many ps ss) ≤ count_patterns ps
parts_many NoPatterns ss = omega arith
parts_many (MorePatterns p ps) NoSpots = omega arith
parts_many (MorePatterns p ps) (MoreSpots s ss) = let r = parts_many ps ss in omega (arith, r)

-- ---- widths

left_max : (a b w : ℕ) → max a b ≤ w → a ≤ w
left_max a b w h = omega (arith, h)

right_max : (a b w : ℕ) → max a b ≤ w → b ≤ w
right_max a b w h = omega (arith, h)

-- registers of a target are few
abbrev IsFew : ℕ → Target → Type 0
IsFew w Return = Unit {0}
IsFew w (Into ds) = length ds ≤ w

-- a clause of the choice is narrow
abbrev AreNarrow : ℕ → Choice → Type 0
AreNarrow w ch = (i : ℕ) (q : Pattern) → slice_get ch.patterns i ≡ Some q → pattern_width q ≤ w

clauses_narrow : (w : ℕ) (cs : Clauses) → clauses_width cs ≤ w → (i : ℕ) (q : Pattern) → slice_get (clause_patterns cs) i ≡ Some q → pattern_width q ≤ w
clauses_narrow w NoClauses h i q e = absurd (none-some q e)
clauses_narrow w (MoreClauses p b cs) h zero q e = subst (λ x. pattern_width x ≤ w) (same_Some p q e) (left_max (pattern_width p) _ w h)
clauses_narrow w (MoreClauses p b cs) h (suc i) q e = clauses_narrow w cs (right_max (block_width b) (clauses_width cs) w (right_max (pattern_width p) _ w h)) i q e

-- ---- the walk

module _ (st : Setting) (fip : Bool) (f : PlainFunction) (most w : ℕ) (few_credits : (g : ℕ) (d : Instance) → slice_get st.instances g ≡ Some d → length d.credits ≤ most) where
  -- all instructions from a up to b
  abbrev Few : ℕ → ℕ → Type 0
  Few a b = (p : ℕ) (x : Instr) → a ≤ p → p < b → slice_get f.instrs p ≡ Some x → operands x ≤ most_for most w

  none : (a b : ℕ) → b ≡ a → Few a b
  none a b e p x low high h = absurd (omega (arith, e, low, high))

  one : (a b : ℕ) (x : Instr) → slice_get f.instrs a ≡ Some x → b ≡ suc a → operands x ≤ most_for most w → Few a b
  one a b x there e ok p y low high h =
      let same : a ≡ p = omega (arith, e, low, high) in
      subst (λ z. operands z ≤ most_for most w) (same_Some x y (sym there ∙ ap (slice_get f.instrs) same ∙ h)) ok

  both : (a m b : ℕ) → Few a m → Few m b → Few a b
  both a m b l r p x low high h = elim (less_or_not p m) as (λ v. operands x ≤ most_for most w) [
    | inl y ↦ l p x low y h
    | inr y ↦ r p x y high h
  ]

  no_list : 0 ≤ most_for most w
  no_list = omega arith

  -- ---- arguments

  built : (at : ℕ) (k : Known) (t c : ℕ) (rs : List ℕ) (r end : ℕ) (after : Known) → length rs ≤ w → BuiltAt st f.instrs at k t c rs r end after → Few at end
  built at k t c [] r end after le (inl h) = none at end h.nothing
  built at k t c [] r end after le (inr h) = one at end (I.Atom r t c) h.written h.one no_list
  built at k t c (q ∷ rs) r end after le h = one at end (I.Put r t c (q ∷ rs)) h.written h.one (omega (arith, le))

  mutual
    argument : (at : ℕ) (k : Known) (a : Argument) (r end : ℕ) (after : Known) → argument_width a ≤ w → ArgumentAt st f.instrs at k a r end after → Few at end
    argument at k (Variable x n p) r end after le h = none at end h.nothing
    argument at k (Literal i p) r end after le h = one at end (I.Const r i) h.written h.one no_list
    argument at k (Constructor t d c n p as') r end after le h =
        let many = arguments_many st f.instrs at k as' h.0 h.1 h.2 h.3 in
        both at h.1 end (arguments at k as' h.0 h.1 h.2 (right_max (count_arguments as') (arguments_width as') w le) h.3) (built h.1 h.2 t c h.0 r end after (let z = left_max (count_arguments as') (arguments_width as') w le in omega (arith, z, many)) h.4)

    arguments : (at : ℕ) (k : Known) (as' : Arguments) (rs : List ℕ) (end : ℕ) (after : Known) → arguments_width as' ≤ w → ArgumentsAt st f.instrs at k as' rs end after → Few at end
    arguments at k NoArguments [] end after le h = none at end h.0
    arguments at k NoArguments (r ∷ rs) end after le h = absurd h
    arguments at k (MoreArguments a as') [] end after le h = absurd h
    arguments at k (MoreArguments a as') (r ∷ rs) end after le h =
        both at h.0 end (argument at k a r h.0 h.1 (left_max (argument_width a) (arguments_width as') w le) h.2)
        (arguments h.0 h.1 as' rs end after (right_max (argument_width a) (arguments_width as') w le) h.3)

  -- ---- what is given up, and results

  given_one : (b : Bool) (at : ℕ) (k l : Known) → GivesOne b f at k l → Few at (suc at)
  given_one b at k l (inl h) = one at (suc at) (I.Take h.register []) h.written refl no_list
  given_one b at k l (inr (weak, inl h)) = one at (suc at) (I.Drop h.register) h.written refl no_list
  given_one b at k l (inr (weak, inr h)) = one at (suc at) (I.Free h.register) h.written refl no_list

  given_up : (b : Bool) (n at : ℕ) (k : Known) (end : ℕ) (l : Known) → GivesUp b f n at k end l → Few at end
  given_up b zero at k end l h = none at end h.0
  given_up b (suc n) at k end l h = both at (suc at) end (given_one b at k h.0 h.1) (given_up b n (suc at) h.0 end l h.2)

  goes_on : (cs : Clauses) (stop target next : ℕ) → GoesOn f cs stop target next → Few stop next
  goes_on NoClauses stop target next h = none stop next h.1
  goes_on (MoreClauses q b cs) stop target next h = one stop next (I.Jump target) h.0 h.2 no_list

  left_over : (b : Bool) (l : Known) (e : Expression) (rs : List ℕ) (at : ℕ) (k : Known) (end : ℕ) (left : Known) → LeavesOver b st f l e rs at k end left → Few at end
  left_over true l e rs at k end left h = none at end h.0
  left_over false l e rs at k end left h = given_up false h.steps at k end left h.gives

  clause_ends : (c : PlainCode) (l : Known) (e : Expression) (rs : List ℕ) (cs : Clauses) (at : ℕ) (k : Known) (target next : ℕ) (left : Known) → ClauseEnds c st fip f l e rs cs at k target next left → Few at next
  clause_ends c l e rs cs at k target next left h =
      both at h.mid next (given_up true h.bares.steps at k h.mid h.bare h.bares.gives)
      (both h.mid h.stop next (left_over fip l e rs h.mid h.bare h.stop h.left h.over) (goes_on cs h.stop target next h.goes))

  moves : (at : ℕ) (k : Known) (rs ds : List ℕ) (end : ℕ) (after : Known) → MovesLaid f.instrs at k rs ds end after → Few at end
  moves at k [] ds end after h = none at end h.0
  moves at k (r ∷ rs) [] end after h = none at end h.0
  moves at k (r ∷ rs) (d ∷ ds) end after h = both at h.0 end (move h.0 h.1 h.2) (moves h.0 h.1 rs ds end after h.3)
    where
      move : (mid : ℕ) (m : Known) → MoveLaid f.instrs at k r d mid m → Few at mid
      move mid m (inl x) = one at mid (I.Move d r) x.1.written x.1.one no_list
      move mid m (inr x) = none at mid x.nothing

  given : (at : ℕ) (k : Known) (rs : List ℕ) (target : Target) (end : ℕ) (after : Known) → length rs ≤ w → GivenLaid fip f at k rs target end after → Few at end
  given at k rs Return end after le h = both at h.stop end (given_up fip h.steps at _ h.stop h.left h.gives) (one h.stop end (I.Ret rs) h.written h.one (omega (arith, le)))
  given at k rs (Into ds) end after le h = moves at k rs ds end after h

  operation : (at : ℕ) (k : Known) (o : Operator) (p : Place) (x y : ℕ) (target : Target) (end : ℕ) (after : Known) → 1 ≤ w → OperationLaid fip f at k o p x y target end after → Few at end
  operation at k o p x y target end after le h =
      both at (suc at) end (one at (suc at) (I.Arith h.destination o x y p.line p.col) h.written refl no_list)
      (given (suc at) h.holds (h.destination ∷ []) target end after le h.given)

  -- ---- tests

  read_one : (at r i d : ℕ) (read : List ℕ) (mid : ℕ) (more : List ℕ) → ReadOne f at r i d read mid more → Few at mid
  read_one at r i d read mid more (inl h) = none at mid h.1
  read_one at r i d read mid more (inr h) = one at mid (I.Peek d r i) h.1 h.2 no_list

  mutual
    reads : (at : ℕ) (p : M.Pattern) (k : MK.Known) (s : Spot) (read : List ℕ) (end : ℕ) (more : List ℕ) → ReadsLaid f at p k s read end more → Few at end
    reads at M.Any k s read end more h = none at end h.0
    reads at (M.Test t g ps) (Open out) s read end more h = none at end h.0
    reads at (M.Test t g ps) (Is i ks) (At r fs) read end more h = reads_first at ps ks fs r 0 read end more h

    reads_first : (at : ℕ) (ps : M.Patterns) (ks : Knowns) (fs : Spots) (r i : ℕ) (read : List ℕ) (end : ℕ) (more : List ℕ) → ReadsFirst f at ps ks fs r i read end more → Few at end
    reads_first at M.NoPatterns ks fs r i read end more h = none at end h.0
    reads_first at (M.MorePatterns p ps) NoKnowns fs r i read end more h = none at end h.0
    reads_first at (M.MorePatterns p ps) (MoreKnowns k ks) NoSpots r i read end more h = none at end h.0
    reads_first at (M.MorePatterns p ps) (MoreKnowns k ks) (MoreSpots s fs) r i read end more (inl h) =
        both at h.1 end (read_one at r i _ read h.1 h.2 h.3) (reads h.1 p k s h.2 end more h.4)
    reads_first at (M.MorePatterns p ps) (MoreKnowns k ks) (MoreSpots s fs) r i read end more (inr h) = reads_first at ps ks fs r (suc i) read end more h.1

  test : (r : ℕ) (h : Head) (target : ℕ) → operands (test_of r h target) ≤ most_for most w
  test r (Tag c) target = no_list
  test r (Number i) target = no_list

  mutual
    takes : (at : ℕ) (q : Pattern) (s : Spot) (end : ℕ) → pattern_width q ≤ w → TakesLaid f at q s end → Few at end
    takes at (BinderPattern b) s end le h = none at end h
    takes at (LiteralPattern i p) s end le h = none at end h
    takes at (ConstructorPattern t d n m p ps) (At r fs) end le h =
        both at h.0 end (take at r ps fs h.0 (left_max (count_patterns ps) (patterns_width ps) w le) h.1)
        (take_all h.0 ps fs end (right_max (count_patterns ps) (patterns_width ps) w le) h.2)

    take : (at r : ℕ) (ps : Patterns) (fs : Spots) (mid : ℕ) → count_patterns ps ≤ w → TakeLaid f at r ps fs mid → Few at mid
    take at r NoPatterns fs mid le h = none at mid h
    take at r (MorePatterns p ps) fs mid le h =
        one at mid (I.Take r (as_many (MorePatterns p ps) fs)) h.0 h.1 (let z = parts_many (MorePatterns p ps) fs in omega (arith, z, le))

    take_all : (at : ℕ) (ps : Patterns) (fs : Spots) (end : ℕ) → patterns_width ps ≤ w → TakeAll f at ps fs end → Few at end
    take_all at NoPatterns fs end le h = none at end h
    take_all at (MorePatterns p ps) NoSpots end le h = none at end h
    take_all at (MorePatterns p ps) (MoreSpots s fs) end le h =
        both at h.0 end (takes at p s h.0 (left_max (pattern_width p) (patterns_width ps) w le) h.1)
        (take_all h.0 ps fs end (right_max (pattern_width p) (patterns_width ps) w le) h.2)

  mutual
    names : (at : ℕ) (q : Pattern) (s : Spot) (read : List ℕ) (end : ℕ) (more : List ℕ) → NamesLaid f at q s read end more → Few at end
    names at (BinderPattern b) s read end more h = none at end h.0
    names at (LiteralPattern i p) s read end more h = none at end h.0
    names at (ConstructorPattern t d n m p ps) (At r fs) read end more h = name_all at ps fs r 0 read end more h

    name_all : (at : ℕ) (ps : Patterns) (fs : Spots) (r i : ℕ) (read : List ℕ) (end : ℕ) (more : List ℕ) → NameAll f at ps fs r i read end more → Few at end
    name_all at NoPatterns fs r i read end more h = none at end h.0
    name_all at (MorePatterns p ps) NoSpots r i read end more h = none at end h.0
    name_all at (MorePatterns p ps) (MoreSpots s fs) r i read end more (last, seen, inl h, rest) =
        both at last end (both at h.1 last (read_one at r i _ read h.1 h.2 h.3) (names h.1 p s h.2 last seen h.4)) (name_all last ps fs r (suc i) seen end more rest)
    name_all at (MorePatterns p ps) (MoreSpots s fs) r i read end more (last, seen, inr h, rest) =
        both at last end (none at last h.1) (name_all last ps fs r (suc i) seen end more rest)

  settled : (b : Bool) (at : ℕ) (q : Pattern) (s : Spot) (read : List ℕ) (end : ℕ) → pattern_width q ≤ w → SettledLaid b f at q s read end → Few at end
  settled true at q s read end le h = takes at q s end le h
  settled false at q s read end le h = names at q s read end h.0 h.1

  module _ (c : PlainCode) (ch : Choice) (narrow : AreNarrow w ch) where
    tests : (g : Holding) (n at : ℕ) (k : MK.Known) (read : List ℕ) (i end : ℕ) → TestsLaid c f g ch n at k read i end → Few at end
    tests g zero at k read i end h = settled ch.takes at h.pattern ch.root read end (narrow i h.pattern h.there) h.settled
    tests g (suc n) at k read i end (p, asking, inl h) = tests g n at _ read i end h.1
    tests g (suc n) at k read i end (p, asking, inr h) = both at h.0 end (tested g at p k read h.0 h.1 h.2) (tests g n h.0 _ h.1 i end h.3)
      where
        tested : (g : Holding) (at : ℕ) (p : M.Pattern) (k : MK.Known) (read : List ℕ) (next : ℕ) (more : List ℕ) → TestLaid c f g ch at p k read next more → Few at next
        tested g at p k read next more h = both at h.mid next (reads at p k ch.root read h.mid more h.reads) (one h.mid next _ h.written h.one (test h.found.register h.found.head h.target))

    chunk : (g : Holding) (at : ℕ) (k : MK.Known) (read : List ℕ) (m : ℕ → Kind) (next : ℕ) → ChunkLaid c f g ch at k read m next → Few at next
    chunk g at k read m next h = both at h.end next (tests g h.steps at k read h.clause h.end h.tests) (elim h.goes as (λ v. Few h.end next) [
      | inl x ↦ one h.end next (I.Jump h.place) x.0 x.2 no_list
      | inr x ↦ none h.end next x.1
    ])

    sides : (g : Holding) (n at end : ℕ) → SidesLaid c f g ch n at end → Few at end
    sides g zero at end h = none at end h
    sides g (suc n) at end h = both at h.0 end (chunk g at h.1.known h.1.read h.1.reported h.0 h.1.chunk) (sides g n h.0 end h.2)

  -- the patterns of a match
  narrow_in : (c : PlainCode) (at : ℕ) (k : Known) (ds : Bool) (t : ℕ) (a : Argument) (q : Pattern) (cs : Clauses) (ch : Choice) (l : Known) (end : ℕ) → pattern_width q ≤ w → clauses_width cs ≤ w → MatchLaid c st f at k ds t a q cs ch l end → AreNarrow w ch
  narrow_in c at k ds t a q cs ch l end here rest h i p e = by i (sym (ap (λ ps. slice_get ps i) h.patterns) ∙ e)
    where
      by : (i : ℕ) → slice_get (q ∷ clause_patterns cs) i ≡ Some p → pattern_width p ≤ w
      by zero e = subst (λ x. pattern_width x ≤ w) (same_Some q p e) here
      by (suc i) e = clauses_narrow w cs rest i p e

  begun : (c : PlainCode) (at : ℕ) (k : Known) (ds : Bool) (t : ℕ) (a : Argument) (q : Pattern) (cs : Clauses) (ch : Choice) (l : Known) (end : ℕ) → AreNarrow w ch → MatchLaid c st f at k ds t a q cs ch l end → Few at end
  begun c at k ds t a q cs ch l end narrow h = both at h.mid end (chunk c ch narrow _ at _ _ _ h.mid h.first) (sides c ch narrow _ h.more h.mid end h.sides)

  -- ---- calls

  call : (at : ℕ) (k : Known) (g : ℕ) (rs : List ℕ) (target : Target) (end : ℕ) (after : Known) → length rs ≤ w → IsFew w target → CallLaid st fip f at k g rs target end after → Few at end
  call at k g rs Return end after le few h =
      let t = h.ends in
      let credits = taken_many _ h.instance.credits h.credits h.m h.taken in
      let small = few_credits g h.instance h.there in
      let all = length-append rs h.credits in
      both at t.stop end (given_up fip t.steps at h.m t.stop t.left t.gives)
      (one t.stop end (I.Tail h.function (rs ++ h.credits)) t.written t.one (omega (arith, le, credits, small, all)))
  call at k g rs (Into ds) end after le few h =
      let credits = taken_many _ h.instance.credits h.credits h.m h.taken in
      let small = few_credits g h.instance h.there in
      let all = length-append rs h.credits in
      one at end (I.Call h.function (rs ++ h.credits) ds) h.ends.written h.ends.one (omega (arith, le, few, credits, small, all))

  -- ---- bodies

  module _ (c : PlainCode) where
    named : (at : ℕ) (k : Known) (e : Expression) (rs : List ℕ) (mid : ℕ) (m : Known) → expression_width e ≤ w → NamedLaid c st f at k e rs mid m → Few at mid
    named at k (Give a) rs mid m le h = arguments at k (MoreArguments a NoArguments) rs mid m (let z = right_max 1 (argument_width a) w le in omega (arith, z)) h.values.arguments
    named at k (Tuple p as') rs mid m le h = arguments at k as' rs mid m (right_max (count_arguments as') (arguments_width as') w le) h.values.arguments
    named at k (Operation o p a b) rs mid m le h = absurd h
    named at k (Call g n p as') rs mid m le h = absurd h
    named at k (Match ds t p a q b cs) rs mid m le h = absurd h
    named at k (Nested b) rs mid m le h = absurd h

    gives : (at : ℕ) (k : Known) (as' : Arguments) (target : Target) (end : ℕ) (after : Known) → count_arguments as' ≤ w → arguments_width as' ≤ w → GiveLaid c st fip f at k as' target end after → Few at end
    gives at k as' target end after some le h =
        let many = arguments_many st f.instrs at k as' h.registers h.mid h.m h.values.arguments in
        both at h.mid end (arguments at k as' h.registers h.mid h.m le h.values.arguments)
        (given h.mid h.m h.registers target end after (omega (arith, some, many)) h.given)

    mutual
      expression : (at : ℕ) (k : Known) (e : Expression) (target : Target) (end : ℕ) (after : Known) → expression_width e ≤ w → IsFew w target → ExpressionLaid c st fip f at k e target end after → Few at end
      expression at k (Give a) target end after le few h =
          gives at k (MoreArguments a NoArguments) target end after (left_max 1 (argument_width a) w le) (let z = right_max 1 (argument_width a) w le in omega (arith, z)) h
      expression at k (Tuple p as') target end after le few h =
          gives at k as' target end after (left_max (count_arguments as') (arguments_width as') w le) (right_max (count_arguments as') (arguments_width as') w le) h
      expression at k (Operation o p a b) target end after le few h =
          let z = right_max 1 (max (argument_width a) (argument_width b)) w le in
          both at h.mid end (arguments at k (MoreArguments a (MoreArguments b NoArguments)) (h.left ∷ h.right ∷ []) h.mid h.m (omega (arith, z)) h.values.arguments)
          (operation h.mid h.m o p h.left h.right target end after (left_max 1 (max (argument_width a) (argument_width b)) w le) h.operation)
      expression at k (Call g n p as') target end after le few h =
          let many = arguments_many st f.instrs at k as' h.registers h.mid h.m h.values.arguments in
          let some = left_max (count_arguments as') (arguments_width as') w le in
          both at h.mid end (arguments at k as' h.registers h.mid h.m (right_max (count_arguments as') (arguments_width as') w le) h.values.arguments)
          (call h.mid h.m g h.registers target end after (omega (arith, some, many)) few h.call)
      expression at k (Match ds t p a q b cs) (Into rs) end after le few (begin, k0, ch, l, e, n, mid, m, next, left, met, bare, quiet', begins, entry, body, ends, others, meets) =
          let here = left_max (pattern_width q) (max (block_width b) (clauses_width cs)) w le in
          let rest = right_max (pattern_width q) (max (block_width b) (clauses_width cs)) w le in
          let body_le = left_max (block_width b) (clauses_width cs) w rest in
          let more_le = right_max (block_width b) (clauses_width cs) w rest in
          let narrow = narrow_in c begin k0 ds t a q cs ch l e here more_le begins in
          both at begin end (given_up true bare.steps at k begin k0 bare.gives)
          (both begin e end (begun c begin k0 ds t a q cs ch l e narrow begins)
          (both e mid end (block e _ b (Into rs) mid m body_le few body)
          (both mid next end (clause_ends c l (Match ds t p a q b cs) rs cs mid m end next left ends)
          (clauses_meet ch l (Match ds t p a q b cs) 1 cs rs end left next met narrow more_le few others))))
      expression at k (Match ds t p a q b cs) Return end after le few (ch, l, e, n, mid, m, begins, entry, body, others) =
          let here = left_max (pattern_width q) (max (block_width b) (clauses_width cs)) w le in
          let rest = right_max (pattern_width q) (max (block_width b) (clauses_width cs)) w le in
          let more_le = right_max (block_width b) (clauses_width cs) w rest in
          let narrow = narrow_in c at k ds t a q cs ch l e here more_le begins in
          both at e end (begun c at k ds t a q cs ch l e narrow begins)
          (both e mid end (block e _ b Return mid m (left_max (block_width b) (clauses_width cs) w rest) tt body)
          (clauses ch l 1 cs mid end narrow more_le others))
      expression at k (Nested b) target end after le few h = block at k b target end after le few h

      block : (at : ℕ) (k : Known) (b : Block) (target : Target) (end : ℕ) (after : Known) → block_width b ≤ w → IsFew w target → BlockLaid c st fip f at k b target end after → Few at end
      block at k (Last e) target end after le few h = expression at k e target end after le few h
      block at k (Let bs e rest) target end after le few (inl h) =
          let both_le = right_max (length bs) (max (expression_width e) (block_width rest)) w le in
          both at h.1 end (named at k e h.0 h.1 h.2 (left_max (expression_width e) (block_width rest) w both_le) h.3)
          (block h.1 _ rest target end after (right_max (expression_width e) (block_width rest) w both_le) few h.4)
      block at k (Let bs e rest) target end after le few (inr h) =
          let names_le = left_max (length bs) (max (expression_width e) (block_width rest)) w le in
          let both_le = right_max (length bs) (max (expression_width e) (block_width rest)) w le in
          let many = binders_many k.next bs in
          both at h.0 end (expression at _ e (Into (registers_for k.next bs)) h.0 h.1 (left_max (expression_width e) (block_width rest) w both_le) (omega (arith, names_le, many)) h.2)
          (block h.0 _ rest target end after (right_max (expression_width e) (block_width rest) w both_le) few h.3)

      clauses : (ch : Choice) (l : Known) (i : ℕ) (cs : Clauses) (at end : ℕ) → AreNarrow w ch → clauses_width cs ≤ w → ClausesLaid c st fip f ch l i cs at end → Few at end
      clauses ch l i NoClauses at end narrow le h = none at end h
      clauses ch l i (MoreClauses q b cs) at end narrow le (more, start, n, mid, m, tests', entry, body, others) =
          let rest = right_max (pattern_width q) (max (block_width b) (clauses_width cs)) w le in
          both at start end (sides c ch narrow _ more at start tests')
          (both start mid end (block start _ b Return mid m (left_max (block_width b) (clauses_width cs) w rest) tt body)
          (clauses ch l (suc i) cs mid end narrow (right_max (block_width b) (clauses_width cs) w rest) others))

      clauses_meet : (ch : Choice) (l : Known) (o : Expression) (i : ℕ) (cs : Clauses) (rs : List ℕ) (end : ℕ) (j : Known) (at : ℕ) (met : Known) → AreNarrow w ch → clauses_width cs ≤ w → length rs ≤ w → ClausesMeet c st fip f ch l o i cs rs end j at met → Few at end
      clauses_meet ch l o i NoClauses rs end j at met narrow le few h = none at end (sym h.0)
      clauses_meet ch l o i (MoreClauses q b cs) rs end j at met narrow le few (more, start, n, mid, m, next, left, joined', tests', entry, body, ends, meets, others) =
          let rest = right_max (pattern_width q) (max (block_width b) (clauses_width cs)) w le in
          both at start end (sides c ch narrow _ more at start tests')
          (both start mid end (block start _ b (Into rs) mid m (left_max (block_width b) (clauses_width cs) w rest) few body)
          (both mid next end (clause_ends c l o rs cs mid m end next left ends)
          (clauses_meet ch l o (suc i) cs rs end joined' next met narrow (right_max (block_width b) (clauses_width cs) w rest) few others)))

pub laid_few : (c : PlainCode) (st : Setting) (fip : Bool) (f : PlainFunction) (most : ℕ) (d : Instance) → ((g : ℕ) (e : Instance) → slice_get st.instances g ≡ Some e → length e.credits ≤ most) → FunctionLaid c st fip f d → HaveFew (most_for most (width d)) f.instrs
laid_few c st fip f most d few laid i x h = block st fip f most (width d) few c 0 _ d.body Return (length f.instrs) laid.after (omega arith) tt laid.body i x (omega arith) (get_within f.instrs i x h) h
