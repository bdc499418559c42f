-- What belongs to the tests of a match only goes on; and where a clause is chosen at the place where its tests begin,
-- no instruction was written.
use Rattle.std.proofs.Common.{◌≡◌, ◌⊎◌, inl, inr, ℕ, zero, suc, ◌≤◌, Bool, true, false, List, arith, subst}
use Rattle.credit_check.specs.fip_trees.Tree.{Pattern, BinderPattern, LiteralPattern, ConstructorPattern, Patterns, NoPatterns, MorePatterns}
use Rattle.code_rules.specs.cell_code.Plain.{PlainFunction, PlainCode}
use Rattle.match_knowledge.specs.Patterns as M
use Rattle.match_knowledge.specs.Known.{Known, Open, Is, Knowns, NoKnowns, MoreKnowns, side}
use Rattle.lowering_relation.specs.Spots.{Spot, At, Spots, NoSpots, MoreSpots, register}
use Rattle.lowering_relation.specs.Opening.{names_any}
use Rattle.lowering_relation.specs.Describing.{Holding}
use Rattle.lowering_relation.specs.Tests.{Choice, ReadOne, ReadsLaid, ReadsFirst, TestLaid, TakeLaid, TakesLaid, TakeAll, NamesLaid, NameAll, SettledLaid, ChosenLaid, TestsLaid, ChosenAtOnce}

module _ (f : PlainFunction) where
  -- ---- reads

  pub one_end : (at r i d : ℕ) (read : List ℕ) (mid : ℕ) (more : List ℕ) → ReadOne f at r i d read mid more → at ≤ mid
  one_end at r i d read mid more (inl h) = let z = h.1 in omega (arith, z)
  one_end at r i d read mid more (inr h) = let z = h.2 in omega (arith, z)

  mutual
    pub reads_end : (at : ℕ) (p : M.Pattern) (k : Known) (s : Spot) (read : List ℕ) (end : ℕ) (more : List ℕ) → ReadsLaid f at p k s read end more → at ≤ end
    reads_end at M.Any k s read end more h = let z = h.0 in omega (arith, z)
    reads_end at (M.Test t h ps) (Open out) s read end more e = let z = e.0 in omega (arith, z)
    reads_end at (M.Test t h ps) (Is g ks) (At r fs) read end more e = first_end at ps ks fs r 0 read end more e

    first_end : (at : ℕ) (ps : M.Patterns) (ks : Knowns) (ss : Spots) (r i : ℕ) (read : List ℕ) (end : ℕ) (more : List ℕ) → ReadsFirst f at ps ks ss r i read end more → at ≤ end
    first_end at M.NoPatterns ks ss r i read end more h = let z = h.0 in omega (arith, z)
    first_end at (M.MorePatterns p ps) NoKnowns ss r i read end more h = let z = h.0 in omega (arith, z)
    first_end at (M.MorePatterns p ps) (MoreKnowns k ks) NoSpots r i read end more h = let z = h.0 in omega (arith, z)
    first_end at (M.MorePatterns p ps) (MoreKnowns k ks) (MoreSpots s ss) r i read end more (inl h) =
        let a = one_end at r i (register s) read h.1 h.2 h.3 in
        let b = reads_end h.1 p k s h.2 end more h.4 in
        omega (arith, a, b)
    first_end at (M.MorePatterns p ps) (MoreKnowns k ks) (MoreSpots s ss) r i read end more (inr h) = first_end at ps ks ss r (suc i) read end more h.1

  -- ---- what a pattern names

  name_one_end : (at : ℕ) (p : Pattern) (s : Spot) (r i : ℕ) (read : List ℕ) (last : ℕ) (seen : List ℕ) → (((names_any p ≡ true) × (mid : ℕ) × (one : List ℕ) × ReadOne f at r i (register s) read mid one × NamesLaid f mid p s one last seen) ⊎ ((names_any p ≡ false) × (last ≡ at) × (seen ≡ read))) → ((mid : ℕ) (one : List ℕ) → NamesLaid f mid p s one last seen → mid ≤ last) → at ≤ last
  name_one_end at p s r i read last seen (inl h) deep =
      let a = one_end at r i (register s) read h.1 h.2 h.3 in
      let b = deep h.1 h.2 h.4 in
      omega (arith, a, b)
  name_one_end at p s r i read last seen (inr h) deep = let z = h.1 in omega (arith, z)

  mutual
    pub names_end : (at : ℕ) (q : Pattern) (s : Spot) (read : List ℕ) (end : ℕ) (more : List ℕ) → NamesLaid f at q s read end more → at ≤ end
    names_end at (BinderPattern b) s read end more h = let z = h.0 in omega (arith, z)
    names_end at (LiteralPattern i p) s read end more h = let z = h.0 in omega (arith, z)
    names_end at (ConstructorPattern t d n m p ps) (At r fs) read end more h = name_all_end at ps fs r 0 read end more h

    pub name_all_end : (at : ℕ) (ps : Patterns) (ss : Spots) (r i : ℕ) (read : List ℕ) (end : ℕ) (more : List ℕ) → NameAll f at ps ss r i read end more → at ≤ end
    name_all_end at NoPatterns ss r i read end more h = let z = h.0 in omega (arith, z)
    name_all_end at (MorePatterns p ps) NoSpots r i read end more h = let z = h.0 in omega (arith, z)
    name_all_end at (MorePatterns p ps) (MoreSpots s ss) r i read end more h =
        let rest = name_all_end h.0 ps ss r (suc i) h.1 end more h.3 in
        let first = name_one_end at p s r i read h.0 h.1 h.2 (λ mid one l. names_end mid p s one h.0 h.1 l) in
        omega (arith, first, rest)

  -- ---- cells that are taken apart

  take_end : (at r : ℕ) (ps : Patterns) (fs : Spots) (mid : ℕ) → TakeLaid f at r ps fs mid → at ≤ mid
  take_end at r NoPatterns fs mid h = omega (arith, h)
  take_end at r (MorePatterns p ps) fs mid h = let z = h.1 in omega (arith, z)

  mutual
    pub takes_end : (at : ℕ) (q : Pattern) (s : Spot) (end : ℕ) → TakesLaid f at q s end → at ≤ end
    takes_end at (BinderPattern b) s end h = omega (arith, h)
    takes_end at (LiteralPattern i p) s end h = omega (arith, h)
    takes_end at (ConstructorPattern t d n m p ps) (At r fs) end h =
        let a = take_end at r ps fs h.0 h.1 in
        let b = take_all_end h.0 ps fs end h.2 in
        omega (arith, a, b)

    pub take_all_end : (at : ℕ) (ps : Patterns) (ss : Spots) (end : ℕ) → TakeAll f at ps ss end → at ≤ end
    take_all_end at NoPatterns ss end h = omega (arith, h)
    take_all_end at (MorePatterns p ps) NoSpots end h = omega (arith, h)
    take_all_end at (MorePatterns p ps) (MoreSpots s ss) end h =
        let a = takes_end at p s h.0 h.1 in
        let b = take_all_end h.0 ps ss end h.2 in
        omega (arith, a, b)

  settled_end : (takes : Bool) (at : ℕ) (q : Pattern) (s : Spot) (read : List ℕ) (end : ℕ) → SettledLaid takes f at q s read end → at ≤ end
  settled_end true at q s read end h = takes_end at q s end h
  settled_end false at q s read end h = names_end at q s read end h.0 h.1

  -- ---- tests

  module _ (c : PlainCode) (g : Holding) (ch : Choice) where
    -- after a test there is an instruction more
    test_end : (at : ℕ) (p : M.Pattern) (k : Known) (read : List ℕ) (next : ℕ) (more : List ℕ) → TestLaid c f g ch at p k read next more → suc at ≤ next
    test_end at p k read next more h =
        let a = reads_end at p k ch.root read h.mid more h.reads in
        let b = h.one in
        omega (arith, a, b)

    pub tests_end : (n at : ℕ) (k : Known) (read : List ℕ) (i end : ℕ) → TestsLaid c f g ch n at k read i end → at ≤ end
    tests_end zero at k read i end h = settled_end ch.takes at h.pattern ch.root read end h.settled
    tests_end (suc n) at k read i end (p, asking, inl y) = tests_end n at (side true p k) read i end y.1
    tests_end (suc n) at k read i end (p, asking, inr y) =
        let a = test_end at p k read y.0 y.1 y.2 in
        let b = tests_end n y.0 (side true p k) y.1 i end y.3 in
        omega (arith, a, b)

    pub at_once : (n at : ℕ) (k : Known) (read : List ℕ) (i end : ℕ) → end ≡ at → TestsLaid c f g ch n at k read i end → ChosenAtOnce c f ch n at k read i
    at_once zero at k read i end e h = subst (ChosenLaid f ch at k read i) e h
    at_once (suc n) at k read i end e (p, asking, inl y) = (p, asking, y.0, at_once n at (side true p k) read i end e y.1)
    at_once (suc n) at k read i end e (p, asking, inr y) =
        let a = test_end at p k read y.0 y.1 y.2 in
        let b = tests_end n y.0 (side true p k) y.1 i end y.3 in
        absurd (let z : ⊥ = omega (arith, a, b, e) in z)
