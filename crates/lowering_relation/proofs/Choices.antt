-- The tests of a match choose the first clause that matches.
use Rattle.std.proofs.Common.{◌≡◌, refl, sym, ap, ◌∙◌, subst, arith, ℕ, zero, suc, ◌<◌, Bool, true, false, List, [], ◌∷◌, ◌++◌, Option, Some, None, slice_get}
use Rattle.std.specs.Prelude.{if◌then◌else◌, ◌==◌, ◌&&◌}
use Rattle.tree_semantics.specs.fip_language.Values.{Value, Int, Node, Values, End, More}
use Rattle.tree_semantics.specs.fip_language.Matching.{Binding, same_int, both}
use Rattle.tree_semantics.specs.fip_language.Table.{HasType}
use Rattle.credit_check.specs.fip_trees.Tree.{Pattern, BinderPattern, LiteralPattern, ConstructorPattern, Patterns, NoPatterns, MorePatterns, Clauses, NoClauses, MoreClauses}
use Rattle.instance_semantics.specs.Matching.{matching, matching_all, bound_to}
use Rattle.code_rules.specs.cell_code.declared.code.Instr.{Instr}
use Rattle.tree_semantics.specs.Contents.{Contents}
use Rattle.match_knowledge.specs.ValueHeads.{children}
use Rattle.match_knowledge.specs.Patterns.{fits, fit_all}
use Rattle.match_knowledge.specs.Known.{Open}
use Rattle.lowering_relation.specs.Known.{Known}
use Rattle.lowering_relation.specs.Choosing.{Place, place, Entry, Arrives, ArrivesIf, Chooses, IsChoice}
use Rattle.lowering_relation.specs.Spots.{Spot, At, Spots, NoSpots, MoreSpots, register}
use Rattle.lowering_relation.specs.Rows.{row_of, rows_of, patterns_in}
use Rattle.lowering_relation.specs.Reading.{Holds, AllHold}
use Rattle.lowering_relation.specs.Landing.{Scene, Lands, Good}

same_some : {A : Type 0} (x y : A) → Some x ≡ Some y → x ≡ y
same_some x y e = cc

-- a pattern without names matches the same values

fit_if : (b : Bool) → (b && true) ≡ true → b ≡ true
fit_if true e = refl
fit_if false e = e

unfit_if : (b : Bool) → (b && true) ≡ false → b ≡ false
unfit_if true e = e
unfit_if false e = refl

int_fits : (b : Bool) → (b && true) ≡ true → (bs : List Binding) × ((if b then Some [] else None) ≡ Some bs)
int_fits true e = ([], refl)
int_fits false e = absurd (cc)

int_unfits : (b : Bool) → (b && true) ≡ false → ◌≡◌ {A = Option (List Binding)} (if b then Some [] else None) None
int_unfits true e = absurd (cc)
int_unfits false e = refl

node_fits : (b c : Bool) (o : Option (List Binding)) → (b && c) ≡ true → (c ≡ true → (bs : List Binding) × (o ≡ Some bs)) → (bs : List Binding) × ((if b then o else None) ≡ Some bs)
node_fits true c o e f = f e
node_fits false c o e f = absurd (cc)

node_unfits : (b c : Bool) (o : Option (List Binding)) → (b && c) ≡ false → (c ≡ false → o ≡ None) → (if b then o else None) ≡ None
node_unfits true c o e f = f e
node_unfits false c o e f = refl

both_fit : (b c : Bool) (o p : Option (List Binding)) → (b && c) ≡ true → (b ≡ true → (bs : List Binding) × (o ≡ Some bs)) → (c ≡ true → (bs : List Binding) × (p ≡ Some bs)) → (bs : List Binding) × (both o p ≡ Some bs)
both_fit true true o p e f g = let x = f refl in let y = g refl in (x.0 ++ y.0, ap (λ z. both z p) x.1 ∙ ap (λ z. both (Some x.0) z) y.1)
both_fit true false o p e f g = absurd (cc)
both_fit false c o p e f g = absurd (cc)

both_none : (o : Option (List Binding)) → both o None ≡ None
both_none None = refl
both_none (Some bs) = refl

both_unfit : (b c : Bool) (o p : Option (List Binding)) → (b && c) ≡ false → (b ≡ false → o ≡ None) → (c ≡ false → p ≡ None) → both o p ≡ None
both_unfit true true o p e f g = absurd (cc)
both_unfit true false o p e f g = ap (λ z. both o z) (g refl) ∙ both_none o
both_unfit false c o p e f g = ap (λ z. both z p) (f refl)

mutual
  pub fits_match : (q : Pattern) (v : Value) → fits (row_of q) v ≡ true → (bs : List Binding) × (matching q v ≡ Some bs)
  fits_match (BinderPattern b) v e = (bound_to b v ∷ [], refl)
  fits_match (LiteralPattern i p) (Int j) e = int_fits (same_int i j) e
  fits_match (LiteralPattern i p) (Node c vs) e = absurd (cc)
  fits_match (ConstructorPattern t d k n p ps) (Int j) e = absurd (cc)
  fits_match (ConstructorPattern t d k n p ps) (Node c vs) e = node_fits (k == c) (fit_all (rows_of ps) vs) (matching_all ps vs) e (λ f. all_fit_match ps vs f)

  all_fit_match : (ps : Patterns) (vs : Values) → fit_all (rows_of ps) vs ≡ true → (bs : List Binding) × (matching_all ps vs ≡ Some bs)
  all_fit_match NoPatterns End e = ([], refl)
  all_fit_match NoPatterns (More v vs) e = absurd (cc)
  all_fit_match (MorePatterns p ps) End e = absurd (cc)
  all_fit_match (MorePatterns p ps) (More v vs) e = both_fit (fits (row_of p) v) (fit_all (rows_of ps) vs) (matching p v) (matching_all ps vs) e (λ f. fits_match p v f) (λ g. all_fit_match ps vs g)

mutual
  pub unfits_match : (q : Pattern) (v : Value) → fits (row_of q) v ≡ false → matching q v ≡ None
  unfits_match (BinderPattern b) v e = absurd (cc)
  unfits_match (LiteralPattern i p) (Int j) e = int_unfits (same_int i j) e
  unfits_match (LiteralPattern i p) (Node c vs) e = refl
  unfits_match (ConstructorPattern t d k n p ps) (Int j) e = refl
  unfits_match (ConstructorPattern t d k n p ps) (Node c vs) e = node_unfits (k == c) (fit_all (rows_of ps) vs) (matching_all ps vs) e (λ f. all_unfit_match ps vs f)

  all_unfit_match : (ps : Patterns) (vs : Values) → fit_all (rows_of ps) vs ≡ false → matching_all ps vs ≡ None
  all_unfit_match NoPatterns End e = absurd (cc)
  all_unfit_match NoPatterns (More v vs) e = refl
  all_unfit_match (MorePatterns p ps) End e = refl
  all_unfit_match (MorePatterns p ps) (More v vs) e = both_unfit (fits (row_of p) v) (fit_all (rows_of ps) vs) (matching p v) (matching_all ps vs) e (λ f. unfits_match p v f) (λ g. all_unfit_match ps vs g)

-- the clauses one after another

arrives_if : (code : List Instr) (p : Place) (k : Known) (o : Option (List Binding)) (e : Entry) (other : Type 0) (bs : List Binding) → o ≡ Some bs → Arrives code p k bs e → ArrivesIf code p k o e other
arrives_if code p k None e other bs h a = absurd (cc)
arrives_if code p k (Some cs) e other bs h a = subst (λ z. Arrives code p k z e) (sym (same_some cs bs h)) a

arrives_not : (code : List Instr) (p : Place) (k : Known) (o : Option (List Binding)) (e : Entry) (other : Type 0) → o ≡ None → other → ArrivesIf code p k o e other
arrives_not code p k None e other h a = a
arrives_not code p k (Some cs) e other h a = absurd (cc)

pub record Chosen (qs : List Pattern) (v : Value) (i : ℕ) (q : Pattern) : Type 0 where
  pub there : slice_get qs i ≡ Some q
  pub matches : fits (row_of q) v ≡ true
  pub before : (j : ℕ) (p : Pattern) → j < i → slice_get qs j ≡ Some p → fits (row_of p) v ≡ false

later : (q : Pattern) (qs : List Pattern) (v : Value) (i : ℕ) (r : Pattern) → Chosen (q ∷ qs) v (suc i) r → Chosen qs v i r
later q qs v i r c = record { there = c.there; matches = c.matches; before = λ j p lt e. c.before (suc j) p (omega (arith, lt)) e }

module _ (code : List Instr) (p : Place) (k : Known) (v : Value) where
  step : (q : Pattern) (cs : Clauses) (e : Entry) (es : List Entry) (i : ℕ) (r : Pattern) (d : Entry) → Chosen (q ∷ patterns_in cs) v i r → slice_get (e ∷ es) i ≡ Some d → ((bs : List Binding) → matching r v ≡ Some bs → Arrives code p k bs d) → ((j : ℕ) → Chosen (patterns_in cs) v j r → slice_get es j ≡ Some d → Chooses code p k v cs es) → ArrivesIf code p k (matching q v) e (Chooses code p k v cs es)
  step q cs e es zero r d c at a on =
      let same : q ≡ r = same_some q r c.there in
      let m = fits_match r v c.matches in
      arrives_if code p k (matching q v) e (Chooses code p k v cs es) m.0 (ap (λ z. matching z v) same ∙ m.1) (subst (Arrives code p k m.0) (sym (same_some e d at)) (a m.0 m.1))
  step q cs e es (suc i) r d c at a on =
      arrives_not code p k (matching q v) e (Chooses code p k v cs es) (unfits_match q v (c.before zero q (omega arith) refl)) (on i (later q (patterns_in cs) v i r c) at)

  chooses_later : (cs : Clauses) (es : List Entry) (i : ℕ) (r : Pattern) (d : Entry) → Chosen (patterns_in cs) v i r → slice_get es i ≡ Some d → ((bs : List Binding) → matching r v ≡ Some bs → Arrives code p k bs d) → Chooses code p k v cs es
  chooses_later NoClauses es i r d c at a = tt
  chooses_later (MoreClauses q b cs) [] i r d c at a = absurd (cc)
  chooses_later (MoreClauses q b cs) (e ∷ es) i r d c at a = step q cs e es i r d c at a (λ j c' at'. chooses_later cs es j r d c' at' a)

  pub chooses_first : (q : Pattern) (cs : Clauses) (e : Entry) (es : List Entry) (i : ℕ) (r : Pattern) (d : Entry) → Chosen (q ∷ patterns_in cs) v i r → slice_get (e ∷ es) i ≡ Some d → ((bs : List Binding) → matching r v ≡ Some bs → Arrives code p k bs d) → ArrivesIf code p k (matching q v) e (Chooses code p k v cs es)
  chooses_first q cs e es i r d c at a = step q cs e es i r d c at a (λ j c' at'. chooses_later cs es j r d c' at' a)

-- nothing is read at the start of a match
mutual
  pub holds_none : (s : Spot) (v : Value) (cs : Contents) → Holds s v cs []
  holds_none (At r fs) v cs = all_hold_none fs (children v) cs

  all_hold_none : (ss : Spots) (vs : Values) (cs : Contents) → AllHold ss vs cs []
  all_hold_none NoSpots vs cs = tt
  all_hold_none (MoreSpots s ss) End cs = tt
  all_hold_none (MoreSpots s ss) (More v vs) cs = (λ m. absurd m, holds_none s v cs, all_hold_none ss vs cs)

-- where the tests lead to the right labels, and what is known at these is so, the clauses are chosen
pub is_choice : (s : Scene) (to : ℕ → ℕ) (code : List Instr) (start : ℕ) (k : Known) (q : Pattern) (cs : Clauses) (e : Entry) (es : List Entry) → s.patterns ≡ q ∷ patterns_in cs → Good s to code start (Open []) [] → ((c0 : Contents) (i : ℕ) (r : Pattern) → HasType s.table s.type (c0 (register s.root)) → (l : Lands s to code start c0 c0) → l.number ≡ i → l.pattern ≡ r → (d : Entry) × (slice_get (e ∷ es) i ≡ Some d) × ((bs : List Binding) → matching r (c0 (register s.root)) ≡ Some bs → Arrives code (place start c0) k bs d)) → IsChoice code start k s.table s.type (register s.root) q cs e es
is_choice s to code start k q cs e es same good arrive = record {
  chooses = λ c0 ty. on c0 ty (good c0 c0 ty refl tt (λ z lt. refl) (holds_none s.root (c0 (register s.root)) c0));
}
  where
    on : (c0 : Contents) → HasType s.table s.type (c0 (register s.root)) → Lands s to code start c0 c0 → ArrivesIf code (place start c0) k (matching q (c0 (register s.root))) e (Chooses code (place start c0) k (c0 (register s.root)) cs es)
    on c0 ty l =
        let d = arrive c0 l.number l.pattern ty l refl refl in
        chooses_first code (place start c0) k (c0 (register s.root)) q cs e es l.number l.pattern d.0
        (record {
          there = ap (λ z. slice_get z l.number) (sym same) ∙ l.first.there;
          matches = l.first.fits;
          before = λ j p lt h. l.first.before j p lt (ap (λ z. slice_get z j) same ∙ h);
        })
        d.1 d.2
