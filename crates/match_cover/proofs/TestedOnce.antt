-- No path tests a position twice against the same head.
use Rattle.std.proofs.Common.{◌≡◌, ℕ, zero, suc, List, [], ◌∷◌, Bool, true, false, refl, sym, ap, ap₂, ◌∙◌, subst}
use Rattle.std.specs.Prelude.{if◌then◌else◌, ◌==◌, ◌&&◌}
use Rattle.std.proofs.lemmas.Bool.{eqb-true}
use Rattle.match_knowledge.specs.declared.heads.Head.{Head}
use Rattle.match_knowledge.specs.declared.heads.Head.TheVariants.{Tag}
use Rattle.match_knowledge.specs.declared.verdicts.Verdict.{Verdict}
use Rattle.match_knowledge.specs.declared.verdicts.Verdict.TheVariants.{Fits, Misses, Asks}
use Rattle.fip_language.specs.Table.{Table}
use Rattle.match_knowledge.specs.ValueHeads.{same_head}
use Rattle.match_knowledge.specs.Patterns.{Pattern, Any, Test, Patterns, NoPatterns, MorePatterns}
use Rattle.match_knowledge.specs.Known.{Known, Open, Is, Knowns, NoKnowns, MoreKnowns, is_in, compare, compare_all, is_asks, settle, side, side_all, is_last}
use Rattle.match_knowledge.proofs.Facts.{same_is, same_refl, and_both, not_both}
use Rattle.match_knowledge.proofs.VerdictFacts.{if_asks}
use Rattle.match_knowledge.proofs.Split.{asks_is, both_asks, is_asking}
use Rattle.match_cover.specs.DecisionTree.{Position, Decision, Branch, below, position, positions, asked, asked_all, by_verdict, Next, Done, Split, first_live, tree_from, tree, same_position, was_tested, TestsOnce}
use Rattle.match_cover.proofs.TreePicks.{is_deep, positions_deep}
use Rattle.fip_language.proofs.Facts.{if_true_else as or_right}

-- the test of q at a position is settled
abbrev mutual
  settled : Known → Position → Head → Bool
  settled (Open out) [] q = is_in q out
  settled (Open out) (i ∷ is) q = false
  settled (Is h ks) [] q = true
  settled (Is h ks) (i ∷ is) q = settled_in ks i is q

  settled_in : Knowns → ℕ → Position → Head → Bool
  settled_in NoKnowns i is q = false
  settled_in (MoreKnowns k ks) zero is q = settled k is q
  settled_in (MoreKnowns k ks) (suc i) is q = settled_in ks i is q

abbrev deep : Knowns → Position → Head → Bool
deep ks [] q = true
deep ks (i ∷ is) q = settled_in ks i is q

deep_is : (h : Head) (ks : Knowns) (at : Position) (q : Head) → is_deep at ≡ true → settled (Is h ks) at q ≡ deep ks at q
deep_is h ks [] q e = cc
deep_is h ks (i ∷ is) q e = refl

deep_below : (k : Known) (ks : Knowns) (at : Position) (q : Head) → is_deep at ≡ true → deep (MoreKnowns k ks) (below at) q ≡ deep ks at q
deep_below k ks [] q e = cc
deep_below k ks (i ∷ is) q e = refl

new_step : (c : Bool) (k : Known) (ks : Knowns) (is at : Position) (a b : Head) → (c ≡ true → settled k is a ≡ false) → (c ≡ false → is_deep at ≡ true) → (c ≡ false → deep ks at b ≡ false) → deep (MoreKnowns k ks) (if c then 0 ∷ is else below at) (if c then a else b) ≡ false
new_step true k ks is at a b f d g = f refl
new_step false k ks is at a b f d g = deep_below k ks at b (d refl) ∙ g refl

mutual
  -- what is asked isn't settled
  new_test : (d : Head) (p : Pattern) (k : Known) → compare p k ≡ Asks → settled k (position p k) (asked d p k) ≡ false
  new_test d Any k e = cc
  new_test d (Test t h ps) (Open out) e = if_asks (is_in h out) e
  new_test d (Test t h ps) (Is g ks) e =
      let w = asks_is (compare_all ps ks) (same_head h g) e in
      deep_is g ks (positions ps ks) (asked_all d ps ks) (positions_deep ps ks w.1) ∙ new_tests d ps ks w.1

  new_tests : (d : Head) (ps : Patterns) (ks : Knowns) → compare_all ps ks ≡ Asks → deep ks (positions ps ks) (asked_all d ps ks) ≡ false
  new_tests d NoPatterns ks e = cc
  new_tests d (MorePatterns p ps) NoKnowns e = cc
  new_tests d (MorePatterns p ps) (MoreKnowns k ks) e =
      new_step (is_asks (compare p k)) k ks (position p k) (positions ps ks) (asked d p k) (asked_all d ps ks)
      (λ c. new_test d p k (is_asking (compare p k) c))
      (λ c. positions_deep ps ks (both_asks (compare p k) (compare_all ps ks) e c))
      (λ c. new_tests d ps ks (both_asks (compare p k) (compare_all ps ks) e c))

settle_done : (b : Bool) (h : Head) (ps : Patterns) (out : List Head) → settled (settle b h ps out) [] h ≡ true
settle_done true h ps out = refl
settle_done false h ps out = subst (λ z. (if z then true else is_in h out) ≡ true) (sym (same_refl h)) refl

done_step : (b c : Bool) (p : Pattern) (ps : Patterns) (k : Known) (ks : Knowns) (is at : Position) (x y : Head) → (c ≡ true → settled (side b p k) is x ≡ true) → (c ≡ false → is_deep at ≡ true) → (c ≡ false → deep (side_all b ps ks) at y ≡ true) → deep (if c then MoreKnowns (side b p k) ks else MoreKnowns k (side_all b ps ks)) (if c then 0 ∷ is else below at) (if c then x else y) ≡ true
done_step b true p ps k ks is at x y f d g = f refl
done_step b false p ps k ks is at x y f d g = deep_below k (side_all b ps ks) at y (d refl) ∙ g refl

mutual
  -- on each side it is
  done_test : (d : Head) (b : Bool) (p : Pattern) (k : Known) → compare p k ≡ Asks → settled (side b p k) (position p k) (asked d p k) ≡ true
  done_test d b Any k e = cc
  done_test d b (Test t h ps) (Open out) e = settle_done b h ps out
  done_test d b (Test t h ps) (Is g ks) e =
      let w = asks_is (compare_all ps ks) (same_head h g) e in
      deep_is g (side_all b ps ks) (positions ps ks) (asked_all d ps ks) (positions_deep ps ks w.1) ∙ done_tests d b ps ks w.1

  done_tests : (d : Head) (b : Bool) (ps : Patterns) (ks : Knowns) → compare_all ps ks ≡ Asks → deep (side_all b ps ks) (positions ps ks) (asked_all d ps ks) ≡ true
  done_tests d b NoPatterns ks e = cc
  done_tests d b (MorePatterns p ps) NoKnowns e = cc
  done_tests d b (MorePatterns p ps) (MoreKnowns k ks) e =
      done_step b (is_asks (compare p k)) p ps k ks (position p k) (positions ps ks) (asked d p k) (asked_all d ps ks)
      (λ c. done_test d b p k (is_asking (compare p k) c))
      (λ c. positions_deep ps ks (both_asks (compare p k) (compare_all ps ks) e c))
      (λ c. done_tests d b ps ks (both_asks (compare p k) (compare_all ps ks) e c))

settle_keeps : (b : Bool) (h : Head) (ps : Patterns) (out : List Head) (at : Position) (q : Head) → settled (Open out) at q ≡ true → settled (settle b h ps out) at q ≡ true
settle_keeps true h ps out [] q e = refl
settle_keeps false h ps out [] q e = or_right (same_head h q) (is_in q out) e
settle_keeps b h ps out (i ∷ is) q e = cc

keep_first : (b : Bool) (p : Pattern) (ps : Patterns) (k : Known) (ks : Knowns) (is : Position) (q : Head) (c : Bool) → settled k is q ≡ true → settled (side b p k) is q ≡ true → settled_in (if c then MoreKnowns (side b p k) ks else MoreKnowns k (side_all b ps ks)) 0 is q ≡ true
keep_first b p ps k ks is q true e f = f
keep_first b p ps k ks is q false e f = e

keep_later : (b : Bool) (p : Pattern) (ps : Patterns) (k : Known) (ks : Knowns) (i : ℕ) (is : Position) (q : Head) (c : Bool) → settled_in ks i is q ≡ true → settled_in (side_all b ps ks) i is q ≡ true → settled_in (if c then MoreKnowns (side b p k) ks else MoreKnowns k (side_all b ps ks)) (suc i) is q ≡ true
keep_later b p ps k ks i is q true e f = e
keep_later b p ps k ks i is q false e f = f

mutual
  -- what is settled stays so
  keeps : (b : Bool) (p : Pattern) (k : Known) (at : Position) (q : Head) → settled k at q ≡ true → settled (side b p k) at q ≡ true
  keeps b Any k at q e = e
  keeps b (Test t h ps) (Open out) at q e = settle_keeps b h ps out at q e
  keeps b (Test t h ps) (Is g ks) [] q e = refl
  keeps b (Test t h ps) (Is g ks) (i ∷ is) q e = keep_all b ps ks i is q e

  keep_all : (b : Bool) (ps : Patterns) (ks : Knowns) (i : ℕ) (is : Position) (q : Head) → settled_in ks i is q ≡ true → settled_in (side_all b ps ks) i is q ≡ true
  keep_all b NoPatterns ks i is q e = e
  keep_all b (MorePatterns p ps) NoKnowns i is q e = e
  keep_all b (MorePatterns p ps) (MoreKnowns k ks) zero is q e = keep_first b p ps k ks is q (is_asks (compare p k)) e (keeps b p k is q e)
  keep_all b (MorePatterns p ps) (MoreKnowns k ks) (suc i) is q e = keep_later b p ps k ks i is q (is_asks (compare p k)) e (keep_all b ps ks i is q e)

abbrev AllSettled : Known → List (Position × Head) → Type 0
AllSettled k [] = Unit {0}
AllSettled k (s ∷ ss) = (settled k s.0 s.1 ≡ true) × AllSettled k ss

keep_seen : (b : Bool) (p : Pattern) (k : Known) (seen : List (Position × Head)) → AllSettled k seen → AllSettled (side b p k) seen
keep_seen b p k [] h = tt
keep_seen b p k (s ∷ seen) h = (keeps b p k s.0 s.1 h.0, keep_seen b p k seen h.1)

same_at : (is js : Position) → same_position is js ≡ true → is ≡ js
same_at [] [] e = refl
same_at [] (j ∷ js) e = cc
same_at (i ∷ is) [] e = cc
same_at (i ∷ is) (j ∷ js) e = let r = and_both (i == j) (same_position is js) e in ap₂ (λ a b. a ∷ b) (eqb-true i j r.0) (same_at is js r.1)

not_seen : (k : Known) (at : Position) (q : Head) (seen : List (Position × Head)) → settled k at q ≡ false → AllSettled k seen → was_tested at q seen ≡ false
not_seen k at q [] n h = refl
not_seen k at q (s ∷ seen) n h = step (same_position s.0 at && same_head s.1 q) refl (not_seen k at q seen n h.1) where
  step : (b : Bool) → (same_position s.0 at && same_head s.1 q) ≡ b → was_tested at q seen ≡ false → (if b then true else was_tested at q seen) ≡ false
  step false x r = r
  step true x r = absurd (let z = and_both (same_position s.0 at) (same_head s.1 q) x in not_both (settled k s.0 s.1) h.0 (ap₂ (settled k) (same_at s.0 at z.0) (same_is s.1 q z.1) ∙ n))

pub first_asks : (i : ℕ) (rows : List Pattern) (k : Known) (p : Pattern) → first_live i rows k ≡ Split p → compare p k ≡ Asks
first_asks i [] k p e = cc
first_asks i (q ∷ rows) k p e = step (first_asks (suc i) rows k p) (compare q k) refl e where
  step : (first_live (suc i) rows k ≡ Split p → compare p k ≡ Asks) → (w : Verdict) → compare q k ≡ w → by_verdict w (Done i) (first_live (suc i) rows k) (Split q) ≡ Split p → compare p k ≡ Asks
  step rec Fits x e = cc
  step rec Misses x e = rec e
  step rec Asks x e = let same : q ≡ p = cc in ap (λ z. compare z k) (sym same) ∙ x

once_if : (l : Bool) (seen : List (Position × Head)) (at : Position) (q : Head) (a b : Decision) → TestsOnce seen a → (was_tested at q seen ≡ false) → TestsOnce ((at, q) ∷ seen) a → TestsOnce ((at, q) ∷ seen) b → TestsOnce seen (if l then a else Branch at q a b)
once_if true seen at q a b h n x y = h
once_if false seen at q a b h n x y = (n, x, y)

pub once : (f : ℕ) (tb : Table) (rows : List Pattern) (k : Known) (seen : List (Position × Head)) → AllSettled k seen → TestsOnce seen (tree f tb rows k)
once zero tb rows k seen h = tt
once (suc f) tb rows k seen h = by_next (once f tb rows) (first_live 0 rows k) refl where
  by_next : ((k' : Known) (seen : List (Position × Head)) → AllSettled k' seen → TestsOnce seen (tree f tb rows k')) → (x : Next) → first_live 0 rows k ≡ x → TestsOnce seen (tree_from (tree f tb rows) tb k x)
  by_next rec (Done j) e = tt
  by_next rec (Split p) e =
      let a = first_asks 0 rows k p e in
      once_if (is_last tb p k) seen (position p k) (asked (Tag 0) p k) (tree f tb rows (side true p k)) (tree f tb rows (side false p k))
      (rec (side true p k) seen (keep_seen true p k seen h))
      (not_seen k (position p k) (asked (Tag 0) p k) seen (new_test (Tag 0) p k a) h)
      (rec (side true p k) ((position p k, asked (Tag 0) p k) ∷ seen) (done_test (Tag 0) true p k a, keep_seen true p k seen h))
      (rec (side false p k) ((position p k, asked (Tag 0) p k) ∷ seen) (done_test (Tag 0) false p k a, keep_seen false p k seen h))
