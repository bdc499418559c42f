-- Each instruction of a function that is laid out as its instance's body requires: its calls are those of the body, and
-- in fip it neither drops nor frees.
use Rattle.std.proofs.Common.{◌≡◌, inl, inr, ℕ, zero, suc, Bool, true, false, List, [], ◌∷◌, ◌++◌, slice_get, length, Some, refl, sym, ap, ◌∙◌, subst, arith, true≢false}
use Rattle.std.proofs.lemmas.Option.{none-some, same_Some}
use Rattle.separation.specs.cell_code.declared.code.Instr.{Instr}
use Rattle.separation.specs.cell_code.declared.code.Instr.TheVariants as I
use Rattle.lowering_relation.specs.fip_trees.Tree.{Argument, Variable, Literal, Constructor, Arguments, NoArguments, MoreArguments}
use Rattle.lowering_relation.specs.fip_trees.Tree.{Expression, Give, Tuple, Operation, Call, Match, Nested, Block, Last, Let, Clauses, NoClauses, MoreClauses, Instance}
use Rattle.lowering_relation.specs.fip_trees.Tree.{Pattern, BinderPattern, LiteralPattern, ConstructorPattern, Patterns, NoPatterns, MorePatterns, Name}
use Rattle.separation.specs.fip_language.declared.Place.{Place}
use Rattle.separation.specs.fip_language.declared.Operator.{Operator}
use Rattle.tail_groups.specs.call_groups.CallGraph.{In}
use Rattle.tail_groups.specs.Sites.{Site, site, sites, block_sites, clauses_sites, instance_sites}
use Rattle.separation.specs.cell_code.Plain.{PlainFunction, PlainCode}
use Rattle.separation.specs.code_rules.Calls.{IsCall}
use Rattle.separation.proofs.separation_kinds.Basics.{less_or_not, get_within}
use Rattle.lowering_relation.specs.match_knowledge.declared.heads.Head.{Head}
use Rattle.lowering_relation.specs.match_knowledge.declared.heads.Head.TheVariants.{Number, Tag}
use Rattle.lowering_relation.specs.match_knowledge.Patterns as M
use Rattle.lowering_relation.specs.match_knowledge.Known as MK
use Rattle.lowering_relation.specs.match_knowledge.Known.{Open, Is, Knowns, NoKnowns, MoreKnowns}
use Rattle.lowering_relation.specs.Spots.{Spot, At, Spots, NoSpots, MoreSpots}
use Rattle.lowering_relation.specs.Landing.{test_of}
use Rattle.lowering_relation.specs.Known.{Known}
use Rattle.lowering_relation.specs.Values.{Setting, ArgumentAt, ArgumentsAt, BuiltAt}
use Rattle.lowering_relation.specs.LoweredBodies.{Target, Return, Into}
use Rattle.lowering_relation.specs.Describing.{Holding}
use Rattle.lowering_relation.specs.GivenUp.{GivesOne, GivesUp}
use Rattle.lowering_relation.specs.Moves.{MoveLaid, MovesLaid}
use Rattle.lowering_relation.specs.Handed.{GivenLaid, OperationLaid, CallLaid}
use Rattle.lowering_relation.specs.Tests.{Choice, ReadOne, ReadsLaid, ReadsFirst, TestLaid, TakeLaid, TakesLaid, TakeAll, NamesLaid, NameAll, SettledLaid, TestsLaid, ChunkLaid, SidesLaid}
use Rattle.lowering_relation.specs.Matches.{MatchLaid}
use Rattle.lowering_relation.specs.Joins.{GoesOn, ClauseEnds}
use Rattle.lowering_relation.specs.Leftover.{LeavesOver}
use Rattle.lowering_relation.specs.LaidBodies.{ClausesMeet, GiveLaid, NamedLaid, ExpressionLaid, BlockLaid, ClausesLaid}
use Rattle.lowering_relation.specs.LaidFunctions.{FunctionLaid}
use Rattle.lowering_soundness.specs.Origins.{gives_up, HasOrigin, HaveOrigins}
use Rattle.tail_groups.proofs.fip_language.Facts.{get_more}

in_more : {A : Type 0} (xs ys : List A) (x : A) → In x xs → In x (xs ++ ys)
in_more xs ys x h = (h.0, get_more xs ys h.0 x h.1)

get_after : {A : Type 0} (xs ys : List A) (i : ℕ) (x : A) → slice_get ys i ≡ Some x → (j : ℕ) × (slice_get (xs ++ ys) j ≡ Some x)
get_after [] ys i x h = (i, h)
get_after (y ∷ xs) ys i x h = let r = get_after xs ys i x h in (suc r.0, r.1)

in_after : {A : Type 0} (xs ys : List A) (x : A) → In x ys → In x (xs ++ ys)
in_after xs ys x h = get_after xs ys h.0 x h.1

-- the results are the function's
abbrev is_return : Target → Bool
is_return Return = true
is_return (Into ds) = false

module _ (st : Setting) (fip : Bool) (f : PlainFunction) where
  wider : (ss ts : List Site) (a b : ℕ) → ((s : Site) → In s ss → In s ts) → HaveOrigins st fip f ss a b → HaveOrigins st fip f ts a b
  wider ss ts a b more all p x low high h = let o = all p x low high h in record {
    keeps = o.keeps;
    calls = λ g w k. (let z = o.calls g w k in record { site = z.site; there = more z.site z.there; function = z.function; tail = z.tail });
  }

  module _ (ss : List Site) where
    none : (a b : ℕ) → b ≡ a → HaveOrigins st fip f ss a b
    none a b e p x low high h = absurd (omega (arith, e, low, high))

    one : (a b : ℕ) (x : Instr) → slice_get f.instrs a ≡ Some x → b ≡ suc a → HasOrigin st fip ss x → HaveOrigins st fip f ss a b
    one a b x there e ok p y low high h =
        let same : a ≡ p = omega (arith, e, low, high) in
        subst (HasOrigin st fip ss) (same_Some x y (sym there ∙ ap (slice_get f.instrs) same ∙ h)) ok

    both : (a m b : ℕ) → HaveOrigins st fip f ss a m → HaveOrigins st fip f ss m b → HaveOrigins st fip f ss a b
    both a m b l r p x low high h = elim (less_or_not p m) as (λ v. HasOrigin st fip ss x) [
      | inl y ↦ l p x low y h
      | inr y ↦ r p x y high h
    ]

    quiet : (x : Instr) → gives_up x ≡ false → ((g : ℕ) (w : Bool) → IsCall x g w → ⊥) → HasOrigin st fip ss x
    quiet x e never = record { keeps = λ h. e; calls = λ g w h. absurd (never g w h) }

    -- ---- arguments

    built : (at : ℕ) (k : Known) (t c : ℕ) (rs : List ℕ) (r end : ℕ) (after : Known) → BuiltAt st f.instrs at k t c rs r end after → HaveOrigins st fip f ss at end
    built at k t c [] r end after (inl h) = none at end h.nothing
    built at k t c [] r end after (inr h) = one at end (I.Atom r t c) h.written h.one (quiet (I.Atom r t c) refl (λ g w x. x))
    built at k t c (q ∷ rs) r end after h = one at end (I.Put r t c (q ∷ rs)) h.written h.one (quiet (I.Put r t c (q ∷ rs)) refl (λ g w x. x))

    mutual
      argument : (at : ℕ) (k : Known) (a : Argument) (r end : ℕ) (after : Known) → ArgumentAt st f.instrs at k a r end after → HaveOrigins st fip f ss at end
      argument at k (Variable x n p) r end after h = none at end h.nothing
      argument at k (Literal i p) r end after h = one at end (I.Const r i) h.written h.one (quiet (I.Const r i) refl (λ g w x. x))
      argument at k (Constructor t d c n p as') r end after h = both at h.1 end (arguments at k as' h.0 h.1 h.2 h.3) (built h.1 h.2 t c h.0 r end after h.4)

      arguments : (at : ℕ) (k : Known) (as' : Arguments) (rs : List ℕ) (end : ℕ) (after : Known) → ArgumentsAt st f.instrs at k as' rs end after → HaveOrigins st fip f ss at end
      arguments at k NoArguments [] end after h = none at end h.0
      arguments at k NoArguments (r ∷ rs) end after h = absurd h
      arguments at k (MoreArguments a as') [] end after h = absurd h
      arguments at k (MoreArguments a as') (r ∷ rs) end after h = both at h.0 end (argument at k a r h.0 h.1 h.2) (arguments h.0 h.1 as' rs end after h.3)

    -- ---- what is given up, and results

    given_one : (at : ℕ) (k l : Known) → GivesOne fip f at k l → HaveOrigins st fip f ss at (suc at)
    given_one at k l (inl h) = one at (suc at) (I.Take h.register []) h.written refl (quiet (I.Take h.register []) refl (λ g w x. x))
    given_one at k l (inr (weak, inl h)) = one at (suc at) (I.Drop h.register) h.written refl (record { keeps = λ e. absurd (true≢false (sym e ∙ weak)); calls = λ g w x. absurd x })
    given_one at k l (inr (weak, inr h)) = one at (suc at) (I.Free h.register) h.written refl (record { keeps = λ e. absurd (true≢false (sym e ∙ weak)); calls = λ g w x. absurd x })

    given_up : (n at : ℕ) (k : Known) (end : ℕ) (l : Known) → GivesUp fip f n at k end l → HaveOrigins st fip f ss at end
    given_up zero at k end l h = none at end h.0
    given_up (suc n) at k end l h = both at (suc at) end (given_one at k h.0 h.1) (given_up n (suc at) h.0 end l h.2)

    bares : (n at : ℕ) (k : Known) (end : ℕ) (l : Known) → GivesUp true f n at k end l → HaveOrigins st fip f ss at end
    bares zero at k end l h = none at end h.0
    bares (suc n) at k end l (m, inl h, rest) = both at (suc at) end (one at (suc at) (I.Take h.register []) h.written refl (quiet (I.Take h.register []) refl (λ g w x. x))) (bares n (suc at) m end l rest)
    bares (suc n) at k end l (m, inr h, rest) = absurd (true≢false h.0)

    -- after a clause of a match that is bound by a let
    goes_on : (cs : Clauses) (stop target next : ℕ) → GoesOn f cs stop target next → HaveOrigins st fip f ss stop next
    goes_on NoClauses stop target next h = none stop next h.1
    goes_on (MoreClauses q b cs) stop target next h = one stop next (I.Jump target) h.0 h.2 (quiet (I.Jump target) refl (λ g w x. x))

    left_over : (b : Bool) → fip ≡ b → (l : Known) (e : Expression) (rs : List ℕ) (at : ℕ) (k : Known) (end : ℕ) (left : Known) → LeavesOver b st f l e rs at k end left → HaveOrigins st fip f ss at end
    left_over true weak l e rs at k end left h = none at end h.0
    left_over false weak l e rs at k end left h = given_up h.steps at k end left (subst (λ b. GivesUp b f h.steps at k end left) (sym weak) h.gives)

    clause_ends : (c : PlainCode) (l : Known) (e : Expression) (rs : List ℕ) (cs : Clauses) (at : ℕ) (k : Known) (target next : ℕ) (left : Known) → ClauseEnds c st fip f l e rs cs at k target next left → HaveOrigins st fip f ss at next
    clause_ends c l e rs cs at k target next left h =
        both at h.mid next (bares h.bares.steps at k h.mid h.bare h.bares.gives)
        (both h.mid h.stop next (left_over fip refl l e rs h.mid h.bare h.stop h.left h.over) (goes_on cs h.stop target next h.goes))

    moves : (at : ℕ) (k : Known) (rs ds : List ℕ) (end : ℕ) (after : Known) → MovesLaid f.instrs at k rs ds end after → HaveOrigins st fip f ss at end
    moves at k [] ds end after h = none at end h.0
    moves at k (r ∷ rs) [] end after h = none at end h.0
    moves at k (r ∷ rs) (d ∷ ds) end after h = both at h.0 end (move h.0 h.1 h.2) (moves h.0 h.1 rs ds end after h.3)
      where
        move : (mid : ℕ) (m : Known) → MoveLaid f.instrs at k r d mid m → HaveOrigins st fip f ss at mid
        move mid m (inl x) = one at mid (I.Move d r) x.1.written x.1.one (quiet (I.Move d r) refl (λ g w x. x))
        move mid m (inr x) = none at mid x.nothing

    given : (at : ℕ) (k : Known) (rs : List ℕ) (target : Target) (end : ℕ) (after : Known) → GivenLaid fip f at k rs target end after → HaveOrigins st fip f ss at end
    given at k rs Return end after h = both at h.stop end (given_up h.steps at _ h.stop h.left h.gives) (one h.stop end (I.Ret rs) h.written h.one (quiet (I.Ret rs) refl (λ g w x. x)))
    given at k rs (Into ds) end after h = moves at k rs ds end after h

    operation : (at : ℕ) (k : Known) (o : Operator) (p : Place) (x y : ℕ) (target : Target) (end : ℕ) (after : Known) → OperationLaid fip f at k o p x y target end after → HaveOrigins st fip f ss at end
    operation at k o p x y target end after h =
        both at (suc at) end (one at (suc at) (I.Arith h.destination o x y p.line p.col) h.written refl (quiet (I.Arith h.destination o x y p.line p.col) refl (λ g w x. x)))
        (given (suc at) h.holds (h.destination ∷ []) target end after h.given)

    -- ---- tests

    read_one : (at r i d : ℕ) (read : List ℕ) (mid : ℕ) (more : List ℕ) → ReadOne f at r i d read mid more → HaveOrigins st fip f ss at mid
    read_one at r i d read mid more (inl h) = none at mid h.1
    read_one at r i d read mid more (inr h) = one at mid (I.Peek d r i) h.1 h.2 (quiet (I.Peek d r i) refl (λ g w x. x))

    mutual
      reads : (at : ℕ) (p : M.Pattern) (k : MK.Known) (s : Spot) (read : List ℕ) (end : ℕ) (more : List ℕ) → ReadsLaid f at p k s read end more → HaveOrigins st fip f ss at end
      reads at M.Any k s read end more h = none at end h.0
      reads at (M.Test t g ps) (Open out) s read end more h = none at end h.0
      reads at (M.Test t g ps) (Is i ks) (At r fs) read end more h = reads_first at ps ks fs r 0 read end more h

      reads_first : (at : ℕ) (ps : M.Patterns) (ks : Knowns) (fs : Spots) (r i : ℕ) (read : List ℕ) (end : ℕ) (more : List ℕ) → ReadsFirst f at ps ks fs r i read end more → HaveOrigins st fip f ss at end
      reads_first at M.NoPatterns ks fs r i read end more h = none at end h.0
      reads_first at (M.MorePatterns p ps) NoKnowns fs r i read end more h = none at end h.0
      reads_first at (M.MorePatterns p ps) (MoreKnowns k ks) NoSpots r i read end more h = none at end h.0
      reads_first at (M.MorePatterns p ps) (MoreKnowns k ks) (MoreSpots s fs) r i read end more (inl h) =
          both at h.1 end (read_one at r i _ read h.1 h.2 h.3) (reads h.1 p k s h.2 end more h.4)
      reads_first at (M.MorePatterns p ps) (MoreKnowns k ks) (MoreSpots s fs) r i read end more (inr h) = reads_first at ps ks fs r (suc i) read end more h.1

    test : (r : ℕ) (h : Head) (target : ℕ) → HasOrigin st fip ss (test_of r h target)
    test r (Tag c) target = quiet (I.Test r c target) refl (λ g w x. x)
    test r (Number i) target = quiet (I.TestInt r i target) refl (λ g w x. x)

    mutual
      takes : (at : ℕ) (q : Pattern) (s : Spot) (end : ℕ) → TakesLaid f at q s end → HaveOrigins st fip f ss at end
      takes at (BinderPattern b) s end h = none at end h
      takes at (LiteralPattern i p) s end h = none at end h
      takes at (ConstructorPattern t d n m p ps) (At r fs) end h = both at h.0 end (take at r ps fs h.0 h.1) (take_all h.0 ps fs end h.2)

      take : (at r : ℕ) (ps : Patterns) (fs : Spots) (mid : ℕ) → TakeLaid f at r ps fs mid → HaveOrigins st fip f ss at mid
      take at r NoPatterns fs mid h = none at mid h
      take at r (MorePatterns p ps) fs mid h = one at mid _ h.0 h.1 (quiet _ refl (λ g w x. x))

      take_all : (at : ℕ) (ps : Patterns) (fs : Spots) (end : ℕ) → TakeAll f at ps fs end → HaveOrigins st fip f ss at end
      take_all at NoPatterns fs end h = none at end h
      take_all at (MorePatterns p ps) NoSpots end h = none at end h
      take_all at (MorePatterns p ps) (MoreSpots s fs) end h = both at h.0 end (takes at p s h.0 h.1) (take_all h.0 ps fs end h.2)

    mutual
      names : (at : ℕ) (q : Pattern) (s : Spot) (read : List ℕ) (end : ℕ) (more : List ℕ) → NamesLaid f at q s read end more → HaveOrigins st fip f ss at end
      names at (BinderPattern b) s read end more h = none at end h.0
      names at (LiteralPattern i p) s read end more h = none at end h.0
      names at (ConstructorPattern t d n m p ps) (At r fs) read end more h = name_all at ps fs r 0 read end more h

      name_all : (at : ℕ) (ps : Patterns) (fs : Spots) (r i : ℕ) (read : List ℕ) (end : ℕ) (more : List ℕ) → NameAll f at ps fs r i read end more → HaveOrigins st fip f ss at end
      name_all at NoPatterns fs r i read end more h = none at end h.0
      name_all at (MorePatterns p ps) NoSpots r i read end more h = none at end h.0
      name_all at (MorePatterns p ps) (MoreSpots s fs) r i read end more (last, seen, inl h, rest) =
          both at last end (both at h.1 last (read_one at r i _ read h.1 h.2 h.3) (names h.1 p s h.2 last seen h.4)) (name_all last ps fs r (suc i) seen end more rest)
      name_all at (MorePatterns p ps) (MoreSpots s fs) r i read end more (last, seen, inr h, rest) =
          both at last end (none at last h.1) (name_all last ps fs r (suc i) seen end more rest)

    settled : (b : Bool) (at : ℕ) (q : Pattern) (s : Spot) (read : List ℕ) (end : ℕ) → SettledLaid b f at q s read end → HaveOrigins st fip f ss at end
    settled true at q s read end h = takes at q s end h
    settled false at q s read end h = names at q s read end h.0 h.1

    module _ (c : PlainCode) (ch : Choice) where
      tests : (g : Holding) (n at : ℕ) (k : MK.Known) (read : List ℕ) (i end : ℕ) → TestsLaid c f g ch n at k read i end → HaveOrigins st fip f ss at end
      tests g zero at k read i end h = settled ch.takes at h.pattern ch.root read end h.settled
      tests g (suc n) at k read i end (p, asking, inl h) = tests g n at _ read i end h.1
      tests g (suc n) at k read i end (p, asking, inr h) = both at h.0 end (tested g at p k read h.0 h.1 h.2) (tests g n h.0 _ h.1 i end h.3)
        where
          tested : (g : Holding) (at : ℕ) (p : M.Pattern) (k : MK.Known) (read : List ℕ) (next : ℕ) (more : List ℕ) → TestLaid c f g ch at p k read next more → HaveOrigins st fip f ss at next
          tested g at p k read next more h = both at h.mid next (reads at p k ch.root read h.mid more h.reads) (one h.mid next _ h.written h.one (test h.found.register h.found.head h.target))

      chunk : (g : Holding) (at : ℕ) (k : MK.Known) (read : List ℕ) (m : ℕ → Rattle.separation.specs.cell_code.declared.kind.Kind.Kind) (next : ℕ) → ChunkLaid c f g ch at k read m next → HaveOrigins st fip f ss at next
      chunk g at k read m next h = both at h.end next (tests g h.steps at k read h.clause h.end h.tests) (elim h.goes as (λ v. HaveOrigins st fip f ss h.end next) [
        | inl x ↦ one h.end next (I.Jump h.place) x.0 x.2 (quiet (I.Jump h.place) refl (λ g w x. x))
        | inr x ↦ none h.end next x.1
      ])

      sides : (g : Holding) (n at end : ℕ) → SidesLaid c f g ch n at end → HaveOrigins st fip f ss at end
      sides g zero at end h = none at end h
      sides g (suc n) at end h = both at h.0 end (chunk g at h.1.known h.1.read h.1.reported h.0 h.1.chunk) (sides g n h.0 end h.2)

    begun : (c : PlainCode) (at : ℕ) (k : Known) (ds : Bool) (t : ℕ) (a : Argument) (q : Pattern) (cs : Clauses) (ch : Choice) (l : Known) (end : ℕ) → MatchLaid c st f at k ds t a q cs ch l end → HaveOrigins st fip f ss at end
    begun c at k ds t a q cs ch l end h = both at h.mid end (chunk c ch _ at _ _ _ h.mid h.first) (sides c ch _ h.more h.mid end h.sides)

  -- ---- calls

  call : (at : ℕ) (k : Known) (g : ℕ) (n : Name) (p : Place) (rs : List ℕ) (target : Target) (end : ℕ) (after : Known) → CallLaid st fip f at k g rs target end after → HaveOrigins st fip f (site g n p (is_return target) ∷ []) at end
  call at k g n p rs Return end after h =
      let t = h.ends in
      both (site g n p true ∷ []) at t.stop end (given_up (site g n p true ∷ []) t.steps at h.m t.stop t.left t.gives)
      (one (site g n p true ∷ []) t.stop end (I.Tail h.function (rs ++ h.credits)) t.written t.one (record {
        keeps = λ e. refl;
        calls = λ i w x. record { site = site g n p true; there = (0, refl); function = h.numbered ∙ ap Some x.0; tail = x.1 };
      }))
  call at k g n p rs (Into ds) end after h =
      one (site g n p false ∷ []) at end (I.Call h.function (rs ++ h.credits) ds) h.ends.written h.ends.one (record {
        keeps = λ e. refl;
        calls = λ i w x. record { site = site g n p false; there = (0, refl); function = h.numbered ∙ ap Some x.0; tail = x.1 };
      })

  -- ---- bodies

  module _ (c : PlainCode) where
    named : (ss : List Site) (at : ℕ) (k : Known) (e : Expression) (rs : List ℕ) (mid : ℕ) (m : Known) → NamedLaid c st f at k e rs mid m → HaveOrigins st fip f ss at mid
    named ss at k (Give a) rs mid m h = arguments ss at k (MoreArguments a NoArguments) rs mid m h.values.arguments
    named ss at k (Tuple p as') rs mid m h = arguments ss at k as' rs mid m h.values.arguments
    named ss at k (Operation o p a b) rs mid m h = absurd h
    named ss at k (Call g n p as') rs mid m h = absurd h
    named ss at k (Match ds t p a q b cs) rs mid m h = absurd h
    named ss at k (Nested b) rs mid m h = absurd h

    gives : (ss : List Site) (at : ℕ) (k : Known) (as' : Arguments) (target : Target) (end : ℕ) (after : Known) → GiveLaid c st fip f at k as' target end after → HaveOrigins st fip f ss at end
    gives ss at k as' target end after h = both ss at h.mid end (arguments ss at k as' h.registers h.mid h.m h.values.arguments) (given ss h.mid h.m h.registers target end after h.given)

    mutual
      expression : (at : ℕ) (k : Known) (e : Expression) (target : Target) (end : ℕ) (after : Known) → ExpressionLaid c st fip f at k e target end after → HaveOrigins st fip f (sites (is_return target) e) at end
      expression at k (Give a) target end after h = gives [] at k (MoreArguments a NoArguments) target end after h
      expression at k (Tuple p as') target end after h = gives [] at k as' target end after h
      expression at k (Operation o p a b) target end after h =
          both [] at h.mid end (arguments [] at k (MoreArguments a (MoreArguments b NoArguments)) (h.left ∷ h.right ∷ []) h.mid h.m h.values.arguments)
          (operation [] h.mid h.m o p h.left h.right target end after h.operation)
      expression at k (Call g n p as') target end after h =
          both (site g n p (is_return target) ∷ []) at h.mid end (arguments (site g n p (is_return target) ∷ []) at k as' h.registers h.mid h.m h.values.arguments)
          (call h.mid h.m g n p h.registers target end after h.call)
      expression at k (Match ds t p a q b cs) (Into rs) end after (begin, k0, ch, l, e, n, mid, m, next, left, met, bare, quiet', begins, entry, body, ends, others, meets) =
          both (block_sites false b ++ clauses_sites false cs) at begin end (bares (block_sites false b ++ clauses_sites false cs) bare.steps at k begin k0 bare.gives)
          (both (block_sites false b ++ clauses_sites false cs) begin e end (begun (block_sites false b ++ clauses_sites false cs) c begin k0 ds t a q cs ch l e begins)
          (both (block_sites false b ++ clauses_sites false cs) e mid end
          (wider (block_sites false b) (block_sites false b ++ clauses_sites false cs) e mid (λ s i. in_more (block_sites false b) (clauses_sites false cs) s i) (block e _ b (Into rs) mid m body))
          (both (block_sites false b ++ clauses_sites false cs) mid next end (clause_ends (block_sites false b ++ clauses_sites false cs) c l (Match ds t p a q b cs) rs cs mid m end next left ends)
          (wider (clauses_sites false cs) (block_sites false b ++ clauses_sites false cs) next end (λ s i. in_after (block_sites false b) (clauses_sites false cs) s i) (clauses_meet ch l (Match ds t p a q b cs) 1 cs rs end left next met others)))))
      expression at k (Match ds t p a q b cs) Return end after (ch, l, e, n, mid, m, begins, entry, body, others) =
          both (block_sites true b ++ clauses_sites true cs) at e end (begun (block_sites true b ++ clauses_sites true cs) c at k ds t a q cs ch l e begins)
          (both (block_sites true b ++ clauses_sites true cs) e mid end
          (wider (block_sites true b) (block_sites true b ++ clauses_sites true cs) e mid (λ s i. in_more (block_sites true b) (clauses_sites true cs) s i) (block e _ b Return mid m body))
          (wider (clauses_sites true cs) (block_sites true b ++ clauses_sites true cs) mid end (λ s i. in_after (block_sites true b) (clauses_sites true cs) s i) (clauses ch l 1 cs mid end others)))
      expression at k (Nested b) target end after h = block at k b target end after h

      block : (at : ℕ) (k : Known) (b : Block) (target : Target) (end : ℕ) (after : Known) → BlockLaid c st fip f at k b target end after → HaveOrigins st fip f (block_sites (is_return target) b) at end
      block at k (Last e) target end after h = expression at k e target end after h
      block at k (Let bs e rest) target end after (inl h) =
          both (block_sites (is_return target) (Let bs e rest)) at h.1 end (named (block_sites (is_return target) (Let bs e rest)) at k e h.0 h.1 h.2 h.3)
          (wider (block_sites (is_return target) rest) (block_sites (is_return target) (Let bs e rest)) h.1 end (λ s i. in_after (sites false e) (block_sites (is_return target) rest) s i) (block h.1 _ rest target end after h.4))
      block at k (Let bs e rest) target end after (inr h) =
          both (block_sites (is_return target) (Let bs e rest)) at h.0 end
          (wider (sites false e) (block_sites (is_return target) (Let bs e rest)) at h.0 (λ s i. in_more (sites false e) (block_sites (is_return target) rest) s i) (expression at _ e (Into _) h.0 h.1 h.2))
          (wider (block_sites (is_return target) rest) (block_sites (is_return target) (Let bs e rest)) h.0 end (λ s i. in_after (sites false e) (block_sites (is_return target) rest) s i) (block h.0 _ rest target end after h.3))

      clauses : (ch : Choice) (l : Known) (i : ℕ) (cs : Clauses) (at end : ℕ) → ClausesLaid c st fip f ch l i cs at end → HaveOrigins st fip f (clauses_sites true cs) at end
      clauses ch l i NoClauses at end h = none [] at end h
      clauses ch l i (MoreClauses q b cs) at end (more, start, n, mid, m, tests', entry, body, others) =
          both (block_sites true b ++ clauses_sites true cs) at start end (sides (block_sites true b ++ clauses_sites true cs) c ch _ more at start tests')
          (both (block_sites true b ++ clauses_sites true cs) start mid end
          (wider (block_sites true b) (block_sites true b ++ clauses_sites true cs) start mid (λ s i. in_more (block_sites true b) (clauses_sites true cs) s i) (block start _ b Return mid m body))
          (wider (clauses_sites true cs) (block_sites true b ++ clauses_sites true cs) mid end (λ s i. in_after (block_sites true b) (clauses_sites true cs) s i) (clauses ch l (suc i) cs mid end others)))

      clauses_meet : (ch : Choice) (l : Known) (o : Expression) (i : ℕ) (cs : Clauses) (rs : List ℕ) (end : ℕ) (j : Known) (at : ℕ) (met : Known) → ClausesMeet c st fip f ch l o i cs rs end j at met → HaveOrigins st fip f (clauses_sites false cs) at end
      clauses_meet ch l o i NoClauses rs end j at met h = none [] at end (sym h.0)
      clauses_meet ch l o i (MoreClauses q b cs) rs end j at met (more, start, n, mid, m, next, left, joined', tests', entry, body, ends, meets, others) =
          both (block_sites false b ++ clauses_sites false cs) at start end (sides (block_sites false b ++ clauses_sites false cs) c ch _ more at start tests')
          (both (block_sites false b ++ clauses_sites false cs) start mid end
          (wider (block_sites false b) (block_sites false b ++ clauses_sites false cs) start mid (λ s i. in_more (block_sites false b) (clauses_sites false cs) s i) (block start _ b (Into rs) mid m body))
          (both (block_sites false b ++ clauses_sites false cs) mid next end (clause_ends (block_sites false b ++ clauses_sites false cs) c l o rs cs mid m end next left ends)
          (wider (clauses_sites false cs) (block_sites false b ++ clauses_sites false cs) next end (λ s i. in_after (block_sites false b) (clauses_sites false cs) s i) (clauses_meet ch l o (suc i) cs rs end joined' next met others))))

pub of_function : (c : PlainCode) (st : Setting) (fip : Bool) (f : PlainFunction) (d : Instance) → FunctionLaid c st fip f d → (i : ℕ) (x : Instr) → slice_get f.instrs i ≡ Some x → HasOrigin st fip (instance_sites d) x
of_function c st fip f d laid i x h = block st fip f c 0 _ d.body Return (length f.instrs) laid.after laid.body i x (omega arith) (get_within f.instrs i x h) h
