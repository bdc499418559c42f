-- A match: its scrutinee, and what its clauses get.
use Rattle.std.proofs.Common.{◌≡◌, ℕ, zero, suc, ◌<◌, ◌≤◌, ◌+◌, ◌-◌, ◌⊎◌, inl, inr, refl, sym, ap, subst, ◌∙◌, List, [], ◌∷◌, ◌++◌, length, Option, Some, None, Bool, true, false, not, arith}
use Rattle.std.specs.Prelude.{◌==◌, max, min, if◌then◌else◌}
use Rattle.std.proofs.lemmas.Bool.Decides.{nat_tests}
use Rattle.type_check.specs.fip_language.declared.Place.{Place}
use Rattle.derivation_check.specs.fip_trees.Sizes.{one_if, greater}
use Rattle.derivation_check.specs.fip_trees.Tree as T
use Rattle.derivation_check.specs.fip_trees.Tree.{Program, Argument, Variable, Literal, Constructor, Block, Pattern, BinderPattern, LiteralPattern, ConstructorPattern, Patterns, NoPatterns, MorePatterns, count_patterns}
use Rattle.ownership_agreement.specs.fip_rules.World.{World, is_fip}
use Rattle.ownership_agreement.specs.fip_rules.Shapes as H
use Rattle.ownership_agreement.specs.fip_rules.Shapes.{Names, binders}
use Rattle.ownership_agreement.specs.credit_check.Needs as N
use Rattle.ownership_agreement.specs.ownership_calculus.Terms as C
use Rattle.ownership_agreement.specs.ownership_calculus.Terms.{Term, Clauses, LastClause, MoreClauses, Item, Own, Credit, has, one, only, paid, given}
use Rattle.ownership_agreement.specs.ownership_calculus.Rules.{Fits}
use Rattle.ownership_agreement.specs.ownership_calculus.Clean as K
use Rattle.ownership_agreement.specs.ownership_calculus.Clean.{used_up, lent_used_up, outside, asks, asks_lent, asks_taken, fewest, fewest_of, Status, Free, Owned, after, AllUsed, Clean, CleanLent, CleanTaken, Even, EvenLent, EvenTaken}
use Rattle.ownership_agreement.proofs.ownership_calculus.Fit.{held, held_after}
use Rattle.ownership_agreement.specs.Bodies.{Scalars, variable, lent_value, matched}
use Rattle.ownership_agreement.specs.Sized.{SizedPattern, SizedPatterns}
use Rattle.ownership_agreement.proofs.Amounts.{IsOut, gives, asks_of}
use Rattle.ownership_agreement.proofs.Basics.{lent_taken}
use Rattle.derivation_check.specs.derivation_trees.declared.derivation.RuleName.TheVariants as R
use Rattle.derivation_check.specs.derivation_trees.Trees.{Tree, Branch, Trees}
use Rattle.derivation_check.specs.Owned.{amount, owned, root, Rising, Under}
use Rattle.derivation_check.specs.Patterns as P
use Rattle.derivation_check.specs.Scopes.{Known, Scope, known, meant, binding, AreNumbered}
use Rattle.derivation_check.specs.Calculus.{Matches, Scrutinised, GoesOn, IsClause, is_taken, gained, DerivesBlock}
use Rattle.derivation_making.specs.Uses.{occurs_value}
use Rattle.derivation_making.specs.Made.{those, numbers, credits, added, remaining, clause_variables, match_rule}
use Rattle.derivation_making.specs.Fitting.{IsThere, IsScrutinised, FitsScrutinee}
use Rattle.derivation_making.proofs.Lists.{tally, known_those, tally_those, given_parts, given_append, given_most, numbers_append, rising_those, rising_up, number_there, find_one, number_self, same_number, one_true, one_false, either}
use Rattle.derivation_making.proofs.Credits.{by_size, amount_in, amount_out}
use Rattle.derivation_making.proofs.Nodes.{Has, has_root, has_owned}
use Rattle.derivation_making.proofs.Linking.{Linked, added_numbers}
use Rattle.derivation_making.proofs.Reading.{there_is, lent_variable}
use Rattle.derivation_making.proofs.Arguments.{paid_none_out}
use Rattle.derivation_making.proofs.Passing.{lends_derives}
use Rattle.derivation_making.proofs.Standing.{Stands, Asks, stands_single}
use Rattle.derivation_making.proofs.Lets.{after_used, seen_back}
use Rattle.type_check.proofs.fip_language.Facts.{append_nil}
use Rattle.derivation_making.proofs.Reading.{scrutinised_there as scrutinee_there}
use Rattle.ownership_agreement.proofs.Amounts.{paid_at as paid_same}
use Rattle.ownership_agreement.proofs.ownership_calculus.Forth.{use_split}

-- ---- what clauses require

abbrev pub CleanOf : Bool → Bool → (ℕ → Status) → Clauses → Type 0
CleanOf true fip s tc = CleanTaken fip s tc
CleanOf false fip s tc = CleanLent fip s tc

abbrev pub EvenOf : Bool → (ℕ → ℕ) → Clauses → Type 0
EvenOf true m tc = EvenTaken m tc
EvenOf false m tc = EvenLent m tc

pub record Faces (fip own : Bool) (s : ℕ → Status) (m : ℕ → ℕ) (tc : Clauses) : Type 0 where
  pub all : fip ≡ true → (x : ℕ) → held (s x) ≤ fewest_of x tc
  pub most : (x : ℕ) → asks_lent (Own x) tc ≤ held (s x)
  pub clean : CleanOf own fip s tc
  pub even : fip ≡ true → EvenOf own m tc

pub record OneFaces (fip own : Bool) (s : ℕ → Status) (m : ℕ → ℕ) (ys ks : List ℕ) (te : Term) : Type 0 where
  pub all : fip ≡ true → (x : ℕ) → held (s x) ≤ outside ys [] (Own x) (fewest x te)
  pub most : (x : ℕ) → outside ys [] (Own x) (asks (Own x) te) ≤ held (s x)
  pub used : own ≡ true → AllUsed fip ys te
  pub clean : Clean fip (K.binding ys own s) te
  pub even : fip ≡ true → Even te
  pub alike : fip ≡ true → (k : ℕ) → (given k (gives own ks) ≤ asks (Credit k) te) × (asks (Credit k) te - given k (gives own ks) ≡ m k)

pub face_last : (fip own : Bool) (s : ℕ → Status) (m : ℕ → ℕ) (ys ks : List ℕ) (te : Term) → Faces fip own s m (LastClause ys ks te) → OneFaces fip own s m ys ks te
face_last fip true s m ys ks te h = record { all = h.all; most = h.most; used = λ e. h.clean.0; clean = h.clean.1; even = λ e. (h.even e).1; alike = λ e. (h.even e).0 }
face_last fip false s m ys ks te h = record { all = h.all; most = h.most; used = λ e. absurd (cc); clean = h.clean; even = λ e. (h.even e).1; alike = λ e. (h.even e).0 }

pub face_first : (fip own : Bool) (s : ℕ → Status) (m : ℕ → ℕ) (ys ks : List ℕ) (te : Term) (tc : Clauses) → Faces fip own s m (MoreClauses ys ks te tc) → OneFaces fip own s m ys ks te
face_first fip true s m ys ks te tc h = record {
  all = λ e x. let g : held (s x) ≤ min (outside ys [] (Own x) (fewest x te)) (fewest_of x tc) = h.all e x in omega arith;
  most = λ x. let g : max (outside ys [] (Own x) (asks (Own x) te)) (asks_lent (Own x) tc) ≤ held (s x) = h.most x in omega arith;
  used = λ e. h.clean.0;
  clean = h.clean.1;
  even = λ e. (h.even e).1;
  alike = λ e. (h.even e).0;
}
face_first fip false s m ys ks te tc h = record {
  all = λ e x. let g : held (s x) ≤ min (outside ys [] (Own x) (fewest x te)) (fewest_of x tc) = h.all e x in omega arith;
  most = λ x. let g : max (outside ys [] (Own x) (asks (Own x) te)) (asks_lent (Own x) tc) ≤ held (s x) = h.most x in omega arith;
  used = λ e. absurd (cc);
  clean = h.clean.0;
  even = λ e. (h.even e).1;
  alike = λ e. (h.even e).0;
}

pub face_rest : (fip own : Bool) (s : ℕ → Status) (m : ℕ → ℕ) (ys ks : List ℕ) (te : Term) (tc : Clauses) → Faces fip own s m (MoreClauses ys ks te tc) → Faces fip own s m tc
face_rest fip true s m ys ks te tc h = record {
  all = λ e x. let g : held (s x) ≤ min (outside ys [] (Own x) (fewest x te)) (fewest_of x tc) = h.all e x in omega arith;
  most = λ x. let g : max (outside ys [] (Own x) (asks (Own x) te)) (asks_lent (Own x) tc) ≤ held (s x) = h.most x in omega arith;
  clean = h.clean.2;
  even = λ e. (h.even e).2;
}
face_rest fip false s m ys ks te tc h = record {
  all = λ e x. let g : held (s x) ≤ min (outside ys [] (Own x) (fewest x te)) (fewest_of x tc) = h.all e x in omega arith;
  most = λ x. let g : max (outside ys [] (Own x) (asks (Own x) te)) (asks_lent (Own x) tc) ≤ held (s x) = h.most x in omega arith;
  clean = h.clean.1;
  even = λ e. (h.even e).2;
}

-- ---- credits

pub credits_fit : (fip : Bool) (o g n : ℕ) → (fip ≡ true → (g ≤ n) × (n - g ≡ o)) → n - g ≤ o → Fits fip (o + g) n
credits_fit true o g n f h = let e = f refl in let a : g ≤ n = e.0 in let b : n - g ≡ o = e.1 in omega arith
credits_fit false o g n f h = omega arith

pub greater_left : (m n : ℕ) → m ≤ greater m n
greater_left m n = grind (arith, nat_tests)

pub greater_right : (m n : ℕ) → n ≤ greater m n
greater_right m n = grind (arith, nat_tests)

mutual
  nodes_in : (k : ℕ) → 0 < k → (q : Pattern) → P.nodes k q ≡ N.nodes k q
  nodes_in k h (BinderPattern b) = refl
  nodes_in k h (LiteralPattern i p) = refl
  nodes_in k h (ConstructorPattern t d c n p ps) = let a = paid_same (count_patterns ps) k h in let b = nodes_all_in k h ps in omega arith

  nodes_all_in : (k : ℕ) → 0 < k → (ps : Patterns) → P.nodes_all k ps ≡ N.nodes_all k ps
  nodes_all_in k h NoPatterns = refl
  nodes_all_in k h (MorePatterns q ps) = let a = nodes_in k h q in let b = nodes_all_in k h ps in omega arith

paid_out : (n k : ℕ) → IsOut k → n < 17 → paid n (Credit k) ≡ 0
paid_out zero k h l = refl
paid_out (suc n) k h l = paid_none_out n k h l

mutual
  nodes_out : (k : ℕ) → IsOut k → (q : Pattern) → SizedPattern q → P.nodes k q ≡ 0
  nodes_out k h (BinderPattern b) s = refl
  nodes_out k h (LiteralPattern i p) s = refl
  nodes_out k h (ConstructorPattern t d c n p ps) s = let a = paid_out (count_patterns ps) k h s.0 in let b = nodes_all_out k h ps s.1 in omega arith

  nodes_all_out : (k : ℕ) → IsOut k → (ps : Patterns) → SizedPatterns ps → P.nodes_all k ps ≡ 0
  nodes_all_out k h NoPatterns s = refl
  nodes_all_out k h (MorePatterns q ps) s = let a = nodes_out k h q s.0 in let b = nodes_all_out k h ps s.1 in omega arith

-- ---- what a clause gets

-- the variable that the match uses up, by its number in the derivation
abbrev pub Goes : Bool → Option ℕ → Argument → List Known → Type 0
Goes false None a have = Unit {0}
Goes false (Some x) a have = ⊥
Goes true None a have = ⊥
Goes true (Some x) a have = (v : Known) × (v.number ≡ x) × (those (λ y. occurs_value y a) have ≡ v ∷ [])

pub goes_taken : (own : Bool) (xo : Option ℕ) (a : Argument) (have : List Known) → Goes own xo a have → is_taken xo ≡ own
goes_taken false None a have g = refl
goes_taken false (Some x) a have g = absurd g
goes_taken true None a have g = absurd g
goes_taken true (Some x) a have g = refl

lent_going : (w : World) (d : ℕ) (r : Pattern) (have : List Known) (needed : ℕ → ℕ) (i : Item) → owned (numbers (have ++ [])) (credits (λ k. needed k + 0)) i ≡ owned (numbers have) (credits needed) i
lent_going w d r have needed (Own y) = ap (λ (us : List Known). given y (numbers us)) (append_nil have)
lent_going w d r have needed (Credit k) =
    by_size (λ k. amount k (credits (λ j. needed j + 0)) ≡ amount k (credits needed))
    (λ k a b. let x = amount_in (λ j. needed j + 0) k a b in let y = amount_in needed k a b in omega arith)
    (λ k o. let x = amount_out (λ j. needed j + 0) k o in let y = amount_out needed k o in omega arith)
    k

taken_going : (w : World) (d : ℕ) (a : Argument) (r : Pattern) (have : List Known) (needed : ℕ → ℕ) (v : Known) → SizedPattern r → those (λ y. occurs_value y a) have ≡ v ∷ [] → (i : Item) → owned (numbers (those (λ y. not (occurs_value y a)) have ++ added w true d (binders r))) (credits (λ k. needed k + N.nodes k r)) i + only v.number i ≡ owned (numbers have) (credits needed) i + gained w d r i
taken_going w d a r have needed v z e (Own y) =
    let p = given_parts (λ x. occurs_value x a) have y in
    let q = ap (λ (us : List Known). given y (numbers us)) e in
    let b = ap (given y) (numbers_append (those (λ x. not (occurs_value x a)) have) (added w true d (binders r))) in
    let c = given_append y (numbers (those (λ x. not (occurs_value x a)) have)) (numbers (added w true d (binders r))) in
    let g = ap (given y) (added_numbers w d (binders r)) in
    omega arith
taken_going w d a r have needed v z e (Credit k) =
    by_size (λ k. amount k (credits (λ j. needed j + N.nodes j r)) + 0 ≡ amount k (credits needed) + P.nodes k r)
    (λ k a b. let x = amount_in (λ j. needed j + N.nodes j r) k a b in let y = amount_in needed k a b in let u = nodes_in k a r in omega arith)
    (λ k o. let x = amount_out (λ j. needed j + N.nodes j r) k o in let y = amount_out needed k o in let u = nodes_out k o r z in omega arith)
    k

pub goes_on : (w : World) (own : Bool) (xo : Option ℕ) (d : ℕ) (a : Argument) (r : Pattern) (have : List Known) (needed : ℕ → ℕ) (t : Tree) → SizedPattern r → Goes own xo a have → Has (clause_variables w own a d (binders r) have) (λ k. needed k + N.given k own r) t → GoesOn w d xo (owned (numbers have) (credits needed)) r t
goes_on w false None d a r have needed t z g h = λ i. has_root (have ++ []) (λ k. needed k + 0) t h i ∙ lent_going w d r have needed i
goes_on w false (Some x) d a r have needed t z g h = absurd g
goes_on w true None d a r have needed t z g h = absurd g
goes_on w true (Some x) d a r have needed t z g h =
    let v = g.0 in
    subst (λ m. (i : Item) → root t i + only m i ≡ owned (numbers have) (credits needed) i + gained w d r i) g.1
    (λ i. let p = has_root (those (λ y. not (occurs_value y a)) have ++ added w true d (binders r)) (λ k. needed k + N.nodes k r) t h i in let q = taken_going w d a r have needed v z g.2 i in omega arith)

-- ---- the scrutinee

pub stands_sub : (w : World) (sp : Scope) (d e : ℕ) (there : List Known) (s : ℕ → Status) (f g : ℕ → Bool) → ((x : ℕ) → f x ≡ true → g x ≡ true) → d ≤ e → Stands w sp d there s g → Stands w sp e there s f
stands_sub w sp d e there s f g q l h = record {
  are_known = h.are_known;
  rising = rising_up 0 d e (numbers there) h.rising l;
  few = h.few;
  kept = λ x o. h.kept x (q x o);
  lent = λ x v k z o i. h.lent x v k z (q x o) i;
}

some_one : (y x : ℕ) → (one y x ≡ 0) ⊎ ((y ≡ x) × (one y x ≡ 1))
some_one y x = elim (either (y == x)) [ inl e ↦ inr (same_number y x e, one_true y x e) | inr e ↦ inl (one_false y x e) ]

after_few : (b : Bool) (m n k : ℕ) (s : Status) → k ≡ (if not b then n else 0) → m ≡ (if b then 1 else 0) → n ≤ held s → k ≤ held (after s m)
after_few true m n k s e f l = omega arith
after_few false zero n k s e f l = omega arith
after_few false (suc m) n k s e f l = absurd (omega arith)

after_kept : (b : Bool) (m n k : ℕ) (s : Status) → k ≡ (if not b then n else 0) → m ≡ (if b then 1 else 0) → held s ≤ n → held (after s m) ≤ k
after_kept true zero n k s e f l = absurd (omega arith)
after_kept true (suc m) n k s e f l = let z = after_used s m in omega arith
after_kept false zero n k s e f l = omega arith
after_kept false (suc m) n k s e f l = absurd (omega arith)

-- without the variable y, which is used up
taken_stands : (w : World) (sp : Scope) (d : ℕ) (have : List Known) (s : ℕ → Status) (y : ℕ) (f : ℕ → Bool) → Stands w sp d have s f → Stands w sp d (those (λ x. not (y == x)) have) (λ x. after (s x) (one y x)) f
taken_stands w sp d have s y f h = record {
  are_known = known_those w sp.variables (λ x. not (y == x)) have h.are_known;
  rising = rising_those (λ x. not (y == x)) 0 d have h.rising;
  few = λ x. after_few (y == x) (one y x) (tally x have) (tally x (those (λ z. not (y == z)) have)) (s x) (tally_those (λ z. not (y == z)) have x) refl (h.few x);
  kept = λ x o. after_kept (y == x) (one y x) (tally x have) (tally x (those (λ z. not (y == z)) have)) (s x) (tally_those (λ z. not (y == z)) have x) refl (h.kept x o);
  lent = λ x v k z o i. h.lent x v k z o (seen_back (s x) (one y x) i);
}

taken_faces : (fip : Bool) (s : ℕ → Status) (y : ℕ) (tc : Clauses) → Asks fip s (C.Take (C.Named y) tc) → Faces fip true (λ x. after (s x) (one y x)) (λ k. asks_taken (Credit k) tc) tc
taken_faces fip s y tc h =
    let most : (x : ℕ) → one y x + asks_taken (Own x) tc ≤ held (s x) = h.most in
    let all : fip ≡ true → (x : ℕ) → held (s x) ≤ one y x + fewest_of x tc = h.all in
    record {
      all = λ e x. let a = all e x in let b = most x in let c = use_split (s x) (one y x) (omega arith) in omega arith;
      most = λ x. let a = held_after (s x) (one y x) (asks_taken (Own x) tc) (most x) in let b = lent_taken x tc in omega arith;
      clean = h.clean.1;
      even = h.even;
    }

lent_faces : (fip : Bool) (s : ℕ → Status) (a : C.Value) (tc : Clauses) → ((x : ℕ) → lent_used_up a (Own x) ≡ 0) → Asks fip s (C.Match a tc) → Faces fip false s (λ k. asks_lent (Credit k) tc) tc
lent_faces fip s a tc z h =
    let most : (x : ℕ) → lent_used_up a (Own x) + asks_lent (Own x) tc ≤ held (s x) = h.most in
    let all : fip ≡ true → (x : ℕ) → held (s x) ≤ lent_used_up a (Own x) + fewest_of x tc = h.all in
    record {
      all = λ e x. let a = all e x in let b = z x in omega arith;
      most = λ x. let a = most x in let b = z x in omega arith;
      clean = h.clean.1;
      even = h.even;
    }

named_value : (b : Bool) (y : ℕ) → b ≡ false → (if b then C.Scalar else C.Named y) ≡ C.Named y
named_value true y e = absurd (cc)
named_value false y e = refl

value_is : (w : World) (vs : List Known) (c : Names) (sc : Scalars) (y : ℕ) (v : Known) → Linked w vs c sc → known vs y ≡ Some v → w.scalar v.ty ≡ false → variable sc (H.known c.marks y) ≡ C.Named y
value_is w vs c sc y v l k e = let g = l y v k in ap (variable sc) g.0 ∙ named_value (sc y) y (g.1 ∙ e)

-- What a match's node is, where what it has is `have`, its parts are ts, and P reports of them.
abbrev pub MatchGoal : (w : World) → Scope → Names → Scalars → Bool → ℕ → Argument → List Known → (ℕ → ℕ) → (ℕ → Bool) → Clauses → (Option ℕ → (Item → ℕ) → Trees → Type 0) → Trees → Type 0
MatchGoal w sp c sc own d a have needed f tc P ts =
    (xo : Option ℕ) (s : ℕ → Status) → Goes own xo a have → Stands w sp d (remaining own a have) s f → Faces (is_fip w.kind) own s (λ k. asks_of own k tc) tc → P xo (owned (numbers have) (credits needed)) ts

scrutinised_is : (w : World) (u : ℕ) (o : Option Known) (v : Known) → IsScrutinised w u o → o ≡ Some v → w.scalar v.ty ≡ w.scalar u
scrutinised_is w u None v h e = absurd h
scrutinised_is w u (Some z) v h e = ap (λ (o : Option Known). type_scalar o) (sym e) ∙ h
  where
    type_scalar : Option Known → Bool
    type_scalar None = true
    type_scalar (Some t) = w.scalar t.ty

taken_is : (w : World) (sp : Scope) (c : Names) (sc : Scalars) (d u y : ℕ) (a : Argument) (v : Known) (have : List Known) (needed : ℕ → ℕ) (s : ℕ → Status) (f g : ℕ → Bool) (tc : Clauses) (P : Option ℕ → (Item → ℕ) → Trees → Type 0) (t : Tree) (ts : Trees) → Linked w sp.variables c sc → ((x : ℕ) → occurs_value x a ≡ (y == x)) → known sp.variables y ≡ Some v → w.scalar v.ty ≡ false → ((x : ℕ) → (y == x) ≡ true → g x ≡ true) → ((x : ℕ) → f x ≡ true → g x ≡ true) → Stands w sp d have s g → Asks (is_fip w.kind) s (C.Take (C.Named y) tc) → Under (is_fip w.kind) d t (Branch R.TakingMatch (numbers have) (credits needed) ts) → ((xo : Option ℕ) (r : ℕ → Status) → Goes true xo a have → Stands w sp d (those (λ x. not (y == x)) have) r f → Faces (is_fip w.kind) true r (λ k. asks_taken (Credit k) tc) tc → P xo (owned (numbers have) (credits needed)) ts) → those (λ x. occurs_value x a) have ≡ those (λ x. y == x) have → Scrutinised w d (Some v) P t
taken_is w sp c sc d u y a v have needed s f g tc P t ts l o k z q r h m under goal same =
    let most : one y y + asks_taken (Own y) tc ≤ held (s y) = m.most y in
    let here : one y y ≡ 1 = one_true y y (number_self y) in
    let kept = h.kept y (q y (number_self y)) in
    let single = stands_single w sp d have s g h y in
    let just : tally y have ≡ 1 = omega arith in
    let found : those (λ x. occurs_value x a) have ≡ v ∷ [] = same ∙ find_one w sp.variables have y v h.are_known k just in
    let there = number_there w sp.variables have y v h.are_known k (let j = just in omega arith) in
    let once = given_most 0 d v.number (numbers have) h.rising in (
      z,
      (
        numbers have,
        credits needed,
        ts,
        under,
        (omega arith),
        goal (Some v.number) (λ x. after (s x) (one y x)) (v, refl, found)
            (taken_stands w sp d have s y f (stands_sub w sp d d have s f g r (omega arith) h)) (taken_faces (is_fip w.kind) s y tc m),
      ),
    )

lent_used : (w : World) (sc : Scalars) (c : Names) (x : Option ℕ) (n : T.Name) (p : Place) (i : ℕ) → lent_used_up (lent_value w sc c.marks (Variable x n p)) (Own i) ≡ 0
lent_used w sc c None n p i = refl
lent_used w sc c (Some y) n p i = lent_variable sc (H.known c.marks y) (Own i)

pub match_is : (w : World) (sp : Scope) (c : Names) (sc : Scalars) (own : Bool) (d u : ℕ) (a : Argument) (have : List Known) (needed : ℕ → ℕ) (s : ℕ → Status) (f g : ℕ → Bool) (tc : Clauses) (P : Option ℕ → (Item → ℕ) → Trees → Type 0) (t : Tree) (ts : Trees) → Linked w sp.variables c sc → FitsScrutinee w sp.variables u a → (own ≡ true → w.scalar u ≡ false) → ((x : ℕ) → occurs_value x a ≡ true → g x ≡ true) → ((x : ℕ) → f x ≡ true → g x ≡ true) → Stands w sp d have s g → Asks (is_fip w.kind) s (matched w sc c.marks own a tc) → Under (is_fip w.kind) d t (Branch (match_rule own) (numbers have) (credits needed) ts) → MatchGoal w sp c sc own d a have needed f tc P ts → Matches w sp d own a P t
match_is w sp c sc true d u (Variable None n p) have needed s f g tc P t ts l fit out q r h m under goal = absurd fit
match_is w sp c sc true d u (Variable (Some y) n p) have needed s f g tc P t ts l fit out q r h m under goal =
    let v = there_is (known sp.variables y) (scrutinee_there w u (known sp.variables y) fit) in
    let z : w.scalar v.0.ty ≡ false = scrutinised_is w u (known sp.variables y) v.0 fit v.1 ∙ out refl in
    subst (λ (o : Option Known). Scrutinised w d o P t) (sym v.1)
    (taken_is w sp c sc d u y (Variable (Some y) n p) v.0 have needed s f g tc P t ts l (λ x. refl) v.1 z q r h
    (subst (λ (b : C.Value). Asks (is_fip w.kind) s (C.Take b tc)) (value_is w sp.variables c sc y v.0 l v.1 z) m) under goal refl)
match_is w sp c sc true d u (Literal i p) have needed s f g tc P t ts l fit out q r h m under goal = absurd fit
match_is w sp c sc true d u (Constructor i j k n p as') have needed s f g tc P t ts l fit out q r h m under goal = absurd fit
match_is w sp c sc false d u (Variable x n p) have needed s f g tc P t ts l fit out q r h m under goal = (
  lends_derives w sp c sc s s (Variable x n p) l (scrutinee_there w u (meant sp.variables x) fit) m.clean.0 (λ y k. k) (λ y v k z o i. h.lent y v k z (q y o) i),
  (
    numbers have,
    credits needed,
    ts,
    under,
    goal None s tt (stands_sub w sp d d have s f g r (omega arith) h) (lent_faces (is_fip w.kind) s (lent_value w sc c.marks (Variable x n p)) tc (lent_used w sc c x n p) m),
  ),
)
match_is w sp c sc false d u (Literal i p) have needed s f g tc P t ts l fit out q r h m under goal = absurd fit
match_is w sp c sc false d u (Constructor i j k n p as') have needed s f g tc P t ts l fit out q r h m under goal = absurd fit

-- ---- a clause

-- The body's derivation is had from what the body gets.
pub clause_is : (w : World) (sp : Scope) (own : Bool) (xo : Option ℕ) (n d : ℕ) (a : Argument) (have : List Known) (needed : ℕ → ℕ) (r : Pattern) (body : Block) (t : Tree) → AreNumbered n d (binders r) → SizedPattern r → Goes own xo a have → Has (clause_variables w own a d (binders r) have) (λ k. needed k + N.given k own r) t → Rising 0 (d + length (binders r)) (numbers (clause_variables w own a d (binders r) have)) → DerivesBlock w (binding d own (binders r) sp) (n + length (binders r)) (d + length (binders r)) t body → IsClause w n d xo (owned (numbers have) (credits needed)) t r (DerivesBlock w (binding d (is_taken xo) (binders r) sp) (n + length (binders r)) (d + length (binders r)) t body)
clause_is w sp own xo n d a have needed r body t m z g h i b = (
  m,
  has_owned (d + length (binders r)) (clause_variables w own a d (binders r) have) (λ k. needed k + N.given k own r) t h i,
  goes_on w own xo d a r have needed t z g h,
  subst (λ q. DerivesBlock w (binding d q (binders r) sp) (n + length (binders r)) (d + length (binders r)) t body) (sym (goes_taken own xo a have g)) b,
)
