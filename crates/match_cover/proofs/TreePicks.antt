-- The leaf that the tree picks is the first clause that matches.
use Rattle.std.proofs.Common.{◌≡◌, ℕ, zero, suc, ◌<◌, List, [], ◌∷◌, Some, Bool, true, false, refl, sym, ◌∙◌, subst, arith}
use Rattle.std.specs.Prelude.{if◌then◌else◌, slice_get}
use Rattle.match_knowledge.specs.declared.heads.Head.{Head}
use Rattle.match_knowledge.specs.declared.heads.Head.TheVariants.{Tag}
use Rattle.match_knowledge.specs.declared.verdicts.Verdict.{Verdict}
use Rattle.match_knowledge.specs.declared.verdicts.Verdict.TheVariants.{Fits, Misses, Asks}
use Rattle.fip_language.specs.Values.{Value, Values, End, More}
use Rattle.fip_language.specs.Table.{Table, HasType}
use Rattle.match_knowledge.specs.ValueHeads.{IsTidy, children, same_head}
use Rattle.match_knowledge.specs.Patterns.{Pattern, Any, Test, Patterns, NoPatterns, MorePatterns, fits, IsPattern, AreRows}
use Rattle.match_knowledge.specs.Known.{Known, Open, Is, Knowns, NoKnowns, MoreKnowns, agrees, compare, compare_all, is_asks, side, is_last, has_asked, have_asked, row_tests, Alive}
use Rattle.match_knowledge.specs.Left.{HasRoom}
use Rattle.match_knowledge.proofs.VerdictFacts.{misses, fit}
use Rattle.match_knowledge.proofs.Split.{asks_is, both_asks, is_asking, to_side}
use Rattle.match_knowledge.proofs.Living.{last_none}
use Rattle.match_knowledge.proofs.Fewer.{rows_fewer}
use Rattle.match_knowledge.proofs.RowFacts.{side_room, row_typed}
use Rattle.match_cover.specs.DecisionTree.{Position, Decision, Branch, chosen, below, position, positions, asked, asked_all, drop_children, first_child, stands, pick, by_verdict, Next, Done, Split, first_live, tree_from, tree}
use Rattle.fip_language.proofs.Facts.{if_false_number as chosen_later, if_true_number as chosen_here}

abbrev pub is_deep : Position → Bool
is_deep [] = false
is_deep (i ∷ is) = true

abbrev stands_in : Position → Head → Values → Bool
stands_in [] q vs = true
stands_in (i ∷ is) q vs = first_child (drop_children i vs) (stands is q)

deep_stands : (at : Position) (q : Head) (v : Value) → is_deep at ≡ true → stands at q v ≡ stands_in at q (children v)
deep_stands [] q v e = cc
deep_stands (i ∷ is) q v e = refl

below_deep : (at : Position) → is_deep at ≡ true → is_deep (below at) ≡ true
below_deep [] e = cc
below_deep (i ∷ is) e = refl

if_deep : (c : Bool) (i : ℕ) (is at : Position) → (c ≡ false → is_deep at ≡ true) → is_deep (if c then i ∷ is else below at) ≡ true
if_deep true i is at f = refl
if_deep false i is at f = below_deep at (f refl)

pub positions_deep : (ps : Patterns) (ks : Knowns) → compare_all ps ks ≡ Asks → is_deep (positions ps ks) ≡ true
positions_deep NoPatterns ks e = cc
positions_deep (MorePatterns p ps) NoKnowns e = cc
positions_deep (MorePatterns p ps) (MoreKnowns k ks) e = if_deep (is_asks (compare p k)) 0 (position p k) (positions ps ks) (λ c. positions_deep ps ks (both_asks (compare p k) (compare_all ps ks) e c))

in_end : (at : Position) (q : Head) → stands_in at q End ≡ true
in_end [] q = refl
in_end (zero ∷ is) q = refl
in_end (suc i ∷ is) q = refl

in_below : (at : Position) (q : Head) (v : Value) (vs : Values) → is_deep at ≡ true → stands_in (below at) q (More v vs) ≡ stands_in at q vs
in_below [] q v vs e = cc
in_below (i ∷ is) q v vs e = refl

in_more : (c : Bool) (is at : Position) (a b : Head) (v : Value) (vs : Values) (x y : Bool) → (c ≡ true → stands is a v ≡ x) → (c ≡ false → is_deep at ≡ true) → (c ≡ false → stands_in at b vs ≡ y) → stands_in (if c then 0 ∷ is else below at) (if c then a else b) (More v vs) ≡ (if c then x else y)
in_more true is at a b v vs x y f d g = f refl
in_more false is at a b v vs x y f d g = in_below at b v vs (d refl) ∙ g refl

mutual
  -- the test at the position reports whether the value reaches the yes side
  pub stands_is : (d : Head) (p : Pattern) (k : Known) (v : Value) → compare p k ≡ Asks → stands (position p k) (asked d p k) v ≡ has_asked p k v
  stands_is d Any k v e = cc
  stands_is d (Test t h ps) (Open out) v e = refl
  stands_is d (Test t h ps) (Is g ks) v e =
      let w = asks_is (compare_all ps ks) (same_head h g) e in
      deep_stands (positions ps ks) (asked_all d ps ks) v (positions_deep ps ks w.1) ∙ stand_all d ps ks (children v) w.1

  stand_all : (d : Head) (ps : Patterns) (ks : Knowns) (vs : Values) → compare_all ps ks ≡ Asks → stands_in (positions ps ks) (asked_all d ps ks) vs ≡ have_asked ps ks vs
  stand_all d NoPatterns ks vs e = cc
  stand_all d (MorePatterns p ps) NoKnowns vs e = cc
  stand_all d (MorePatterns p ps) (MoreKnowns k ks) End e = in_end (positions (MorePatterns p ps) (MoreKnowns k ks)) (asked_all d (MorePatterns p ps) (MoreKnowns k ks))
  stand_all d (MorePatterns p ps) (MoreKnowns k ks) (More v vs) e =
      in_more (is_asks (compare p k)) (position p k) (positions ps ks) (asked d p k) (asked_all d ps ks) v vs (has_asked p k v) (have_asked ps ks vs)
      (λ c. stands_is d p k v (is_asking (compare p k) c))
      (λ c. positions_deep ps ks (both_asks (compare p k) (compare_all ps ks) e c))
      (λ c. stand_all d ps ks vs (both_asks (compare p k) (compare_all ps ks) e c))

-- what is found first
abbrev Found : List Pattern → Known → ℕ → Value → Next → Type 0
Found rows k i v (Done j) = chosen i rows v ≡ j
Found rows k i v (Split p) = (n : ℕ) × (slice_get rows n ≡ Some p) × (compare p k ≡ Asks)

later : (p : Pattern) (rows : List Pattern) (k : Known) (i : ℕ) (v : Value) (n : Next) → fits p v ≡ false → Found rows k (suc i) v n → Found (p ∷ rows) k i v n
later p rows k i v (Done j) e f = chosen_later (fits p v) i (chosen (suc i) rows v) e ∙ f
later p rows k i v (Split q) e f = (suc f.0, f.1, f.2)

by_found : (tb : Table) (m t : ℕ) (p : Pattern) (rows : List Pattern) (k : Known) (i : ℕ) (v : Value) → IsPattern tb t p → Alive tb m t k → HasType tb t v → agrees k v ≡ true → (w : Verdict) → compare p k ≡ w → (n : Next) → Found rows k (suc i) v n → Found (p ∷ rows) k i v (by_verdict w (Done i) n (Split p))
by_found tb m t p rows k i v q l h a Fits e n f = chosen_here (fits p v) i (chosen (suc i) rows v) (fit tb m t p k v q l h e a)
by_found tb m t p rows k i v q l h a Misses e n f = later p rows k i v n (misses p k v e a) f
by_found tb m t p rows k i v q l h a Asks e n f = (0, refl, e)

found : (tb : Table) (m t : ℕ) (rows : List Pattern) (k : Known) (i : ℕ) (v : Value) → AreRows tb t rows → Alive tb m t k → HasType tb t v → agrees k v ≡ true → Found rows k i v (first_live i rows k)
found tb m t [] k i v q l h a = refl
found tb m t (p ∷ rows) k i v q l h a = by_found tb m t p rows k i v q.0 l h a (compare p k) refl (first_live (suc i) rows k) (found tb m t rows k (suc i) v q.1 l h a)

last_pick : (l : Bool) (at : Position) (q : Head) (a b : Decision) (v : Value) (x : Bool) (c : ℕ) → stands at q v ≡ x → (x ≡ true → pick a v ≡ c) → (l ≡ true → x ≡ false → ⊥) → (l ≡ false → x ≡ false → pick b v ≡ c) → pick (if l then a else Branch at q a b) v ≡ c
last_pick true at q a b v true c s f g h = f refl
last_pick true at q a b v false c s f g h = absurd (g refl refl)
last_pick false at q a b v true c s f g h = subst (λ z. (if z then pick a v else pick b v) ≡ c) (sym s) (f refl)
last_pick false at q a b v false c s f g h = subst (λ z. (if z then pick a v else pick b v) ≡ c) (sym s) (h refl refl)

pub picks : (f : ℕ) (tb : Table) (t : ℕ) (rows : List Pattern) (k : Known) (v : Value) → IsTidy tb → AreRows tb t rows → HasRoom tb t rows k → row_tests rows k < f → HasType tb t v → agrees k v ≡ true → pick (tree f tb rows k) v ≡ chosen 0 rows v
picks zero tb t rows k v y q r n h a = absurd (omega arith)
picks (suc f) tb t rows k v y q r n h a = by_next (λ k r n a. picks f tb t rows k v y q r n h a) (first_live 0 rows k) (found tb r.0 t rows k 0 v q r.2 h a) where
  by_next : ((k' : Known) → HasRoom tb t rows k' → row_tests rows k' < f → agrees k' v ≡ true → pick (tree f tb rows k') v ≡ chosen 0 rows v) → (x : Next) → Found rows k 0 v x → pick (tree_from (tree f tb rows) tb k x) v ≡ chosen 0 rows v
  by_next rec (Done j) e = sym e
  by_next rec (Split p) e =
      last_pick (is_last tb p k) (position p k) (asked (Tag 0) p k) (tree f tb rows (side true p k)) (tree f tb rows (side false p k)) v (has_asked p k v) (chosen 0 rows v) (stands_is (Tag 0) p k v e.2)
      (λ x. rec (side true p k) (side_room tb t rows true e.0 p k y q r e.1 e.2 (λ z. absurd (let w : true ≡ false = z in cc))) (let l = rows_fewer true p e.0 rows k e.1 e.2 in omega arith) (to_side true p k v e.2 a x))
      (λ l x. last_none tb r.0 t p k v (row_typed tb t rows e.0 p q e.1) r.2 h e.2 l (to_side false p k v e.2 a x))
      (λ l x. rec (side false p k) (side_room tb t rows false e.0 p k y q r e.1 e.2 (λ z. l)) (let l = rows_fewer false p e.0 rows k e.1 e.2 in omega arith) (to_side false p k v e.2 a x))
