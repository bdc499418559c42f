-- The calculus rule by rule is the one by cases.
use Rattle.std.proofs.Common.{◌≡◌, ℕ, ◌+◌, refl, sym, ◌∙◌, List, [], Bool, true, false, arith}
use Rattle.std.specs.Prelude.{if◌then◌else◌}
use Rattle.ownership_calculus.specs.Terms.{charge, given, Value, Values, Named, Scalar, Built, NoValues, MoreValues, Passed, Header, PassLent, PassOwned, Term, Clauses, Results, Call, Let, Match, Take, LastClause, MoreClauses, Item, Own, Credit, has, only, size, paid}
use Rattle.ownership_calculus.specs.Rules.{Fits, worth, lending, setting}
use Rattle.ownership_calculus.specs.ByCases.{Opens, DerivesValue, DerivesValues, DerivesPassed, Derives, DerivesLent, DerivesTaken}
use Rattle.ownership_calculus.specs.Rules.{Extends, ValueDerivation, VAR, SCALAR, REUSE, WEAKEN_VALUE, ValuesDerivation, NONE, MORE, PassedDerivation, HEADER, LENT, GIVEN, Derivation, TUPLE, CALL, LET, MATCH, TAKE, WEAKEN, LentDerivation, LENT_LAST, LENT_MORE, TakenDerivation, TAKEN_LAST, TAKEN_MORE}
use Rattle.ownership_calculus.proofs.Fit.{fits_same, fits_sum}

fits_of : (fip : Bool) (a b : ℕ) → a ≡ b → Fits fip a b
fits_of true a b e = e
fits_of false a b e = omega arith

fits_trans : (fip : Bool) (a b c : ℕ) → Fits fip a b → Fits fip b c → Fits fip a c
fits_trans true a b c e f = e ∙ f
fits_trans false a b c e f = omega arith

fits_plus : (fip : Bool) (a b n c : ℕ) → Fits fip a b → Fits fip (b + n) c → Fits fip (a + n) c
fits_plus true a b n c e f = omega arith
fits_plus false a b n c e f = omega arith

-- more is there
weaken_arg : (fip : Bool) (O P : Item → ℕ) (a : Value) → ((i : Item) → Fits fip (O i) (P i)) → DerivesValue fip P a → DerivesValue fip O a
weaken_arg fip O P (Named x) h d = λ i. fits_trans fip (O i) (P i) (only x i) (h i) (d i)
weaken_arg fip O P Scalar h d = λ i. fits_trans fip (O i) (P i) 0 (h i) (d i)
weaken_arg fip O P (Built as') h d = (d.0, λ i. fits_trans fip (O i) (P i) (paid (size as') i + d.0 i) (h i) (d.1 i), d.2)

weaken_args : (fip : Bool) (O P : Item → ℕ) (as' : Values) → ((i : Item) → Fits fip (O i) (P i)) → DerivesValues fip P as' → DerivesValues fip O as'
weaken_args fip O P NoValues h d = λ i. fits_trans fip (O i) (P i) 0 (h i) (d i)
weaken_args fip O P (MoreValues a as') h d = (d.0, d.1, λ i. fits_trans fip (O i) (P i) (d.0 i + d.1 i) (h i) (d.2 i), d.3, d.4)

weaken_gifts : (fip : Bool) (B : ℕ → Bool) (O P : Item → ℕ) (gs : Passed) → ((i : Item) → Fits fip (O i) (P i)) → DerivesPassed fip B P gs → DerivesPassed fip B O gs
weaken_gifts fip B O P (Header header) h d = λ i. fits_trans fip (O i) (P i) (charge header i) (h i) (d i)
weaken_gifts fip B O P (PassLent a gs) h d = (d.0, weaken_gifts fip B O P gs h d.1)
weaken_gifts fip B O P (PassOwned a gs) h d = (d.0, d.1, λ i. fits_trans fip (O i) (P i) (d.0 i + d.1 i) (h i) (d.2 i), d.3, d.4)

weaken_opens : (fip own : Bool) (ys ks : List ℕ) (O P Q : Item → ℕ) → ((i : Item) → Fits fip (O i) (P i)) → Opens fip own ys ks P Q → Opens fip own ys ks O Q
weaken_opens fip own ys ks O P Q h o = record {
  bound = o.bound;
  hidden = λ y e. fits_trans fip (O (Own y)) (P (Own y)) 0 (h (Own y)) (o.hidden y e);
  others = λ y e. fits_trans fip (O (Own y)) (P (Own y)) (Q (Own y)) (h (Own y)) (o.others y e);
  credits = λ k. fits_plus fip (O (Credit k)) (P (Credit k)) (given k ks) (Q (Credit k)) (h (Credit k)) (o.credits k);
}

weaken_lent : (fip : Bool) (B : ℕ → Bool) (O P : Item → ℕ) (cs : Clauses) → ((i : Item) → Fits fip (O i) (P i)) → DerivesLent fip B P cs → DerivesLent fip B O cs
weaken_lent fip B O P (LastClause ys ks e) h d = (d.0, weaken_opens fip false ys [] O P d.0 h d.1, d.2)
weaken_lent fip B O P (MoreClauses ys ks e cs) h d = (d.0, weaken_opens fip false ys [] O P d.0 h d.1, d.2, weaken_lent fip B O P cs h d.3)

pub weaken : (fip : Bool) (B : ℕ → Bool) (O P : Item → ℕ) (e : Term) → ((i : Item) → Fits fip (O i) (P i)) → Derives fip B P e → Derives fip B O e
weaken fip B O P (Results as') h d = weaken_args fip O P as' h d
weaken fip B O P (Call ok gs) h d = (d.0, weaken_gifts fip B O P gs h d.1)
weaken fip B O P (Let xs a b) h d = (d.0, d.1, d.2, λ i. fits_trans fip (O i) (P i) (d.0 i + d.1 i) (h i) (d.3 i), d.4, d.5, d.6)
weaken fip B O P (Match a cs) h d = (d.0, weaken_lent fip B O P cs h d.1)
weaken fip B O P (Take a cs) h d = (d.0, d.1, λ i. fits_trans fip (O i) (P i) (d.0 i + d.1 i) (h i) (d.2 i), d.3, d.4)

extends_opens : (fip own : Bool) (ys ks : List ℕ) (P Q : Item → ℕ) → Extends fip own ys ks P Q → Opens fip own ys ks P Q
extends_opens fip own ys ks P Q o = record {
  bound = o.bound;
  hidden = o.hidden;
  others = λ y e. fits_of fip (P (Own y)) (Q (Own y)) (sym (o.others y e));
  credits = λ k. fits_of fip (P (Credit k) + given k ks) (Q (Credit k)) (sym (o.credits k));
}

mutual
  arg_by_cases : (fip : Bool) (O : Item → ℕ) (a : Value) → ValueDerivation fip O a → DerivesValue fip O a
  arg_by_cases fip O (Named x) (VAR h) = λ i. fits_of fip (O i) (only x i) (h i)
  arg_by_cases fip O Scalar (SCALAR h) = λ i. fits_of fip (O i) 0 (h i)
  arg_by_cases fip O (Built as') (REUSE {P = P} h d) = (P, λ i. fits_of fip (O i) (paid (size as') i + P i) (h i), args_by_cases fip P as' d)
  arg_by_cases fip O a (WEAKEN_VALUE {P = P} h d) = weaken_arg fip O P a h (arg_by_cases fip P a d)

  args_by_cases : (fip : Bool) (O : Item → ℕ) (as' : Values) → ValuesDerivation fip O as' → DerivesValues fip O as'
  args_by_cases fip O NoValues (NONE h) = λ i. fits_of fip (O i) 0 (h i)
  args_by_cases fip O (MoreValues a as') (MORE {P = P} {Q = Q} h d f) = (P, Q, λ i. fits_of fip (O i) (P i + Q i) (h i), arg_by_cases fip P a d, args_by_cases fip Q as' f)

gifts_by_cases : (fip : Bool) (B : ℕ → Bool) (O : Item → ℕ) (gs : Passed) → PassedDerivation fip B O gs → DerivesPassed fip B O gs
gifts_by_cases fip B O (Header header) (HEADER h) = λ i. fits_of fip (O i) (charge header i) (h i)
gifts_by_cases fip B O (PassLent a gs) (LENT h d) = (h, gifts_by_cases fip B O gs d)
gifts_by_cases fip B O (PassOwned a gs) (GIVEN {P = P} {Q = Q} h d f) = (P, Q, λ i. fits_of fip (O i) (P i + Q i) (h i), arg_by_cases fip P a d, gifts_by_cases fip B Q gs f)

mutual
  pub by_cases : (fip : Bool) (B : ℕ → Bool) (O : Item → ℕ) (e : Term) → Derivation fip B O e → Derives fip B O e
  by_cases fip B O (Results as') (TUPLE d) = args_by_cases fip O as' d
  by_cases fip B O (Call ok gs) (CALL h d) = (h, gifts_by_cases fip B O gs d)
  by_cases fip B O (Let xs a b) (LET {O1 = P} {O2 = S} {Q = Q} h o d f) = (P, S, Q, λ i. fits_of fip (O i) (P i + S i) (h i), extends_opens fip true xs [] S Q o, by_cases fip (lending B S) P a d, by_cases fip (setting xs false B) Q b f)
  by_cases fip B O (Match a cs) (MATCH h d) = (h, lent_by_cases fip B O cs d)
  by_cases fip B O (Take a cs) (TAKE {P = P} {Q = Q} h c d) = (P, Q, λ i. fits_of fip (O i) (P i + Q i) (h i), arg_by_cases fip P a c, taken_by_cases fip B Q cs d)
  by_cases fip B O e (WEAKEN {P = P} h d) = weaken fip B O P e h (by_cases fip B P e d)

  lent_by_cases : (fip : Bool) (B : ℕ → Bool) (O : Item → ℕ) (cs : Clauses) → LentDerivation fip B O cs → DerivesLent fip B O cs
  lent_by_cases fip B O (LastClause ys ks e) (LENT_LAST {Q = Q} o d) = (Q, extends_opens fip false ys [] O Q o, by_cases fip (setting ys true B) Q e d)
  lent_by_cases fip B O (MoreClauses ys ks e cs) (LENT_MORE {Q = Q} o d f) = (Q, extends_opens fip false ys [] O Q o, by_cases fip (setting ys true B) Q e d, lent_by_cases fip B O cs f)

  taken_by_cases : (fip : Bool) (B : ℕ → Bool) (O : Item → ℕ) (cs : Clauses) → TakenDerivation fip B O cs → DerivesTaken fip B O cs
  taken_by_cases fip B O (LastClause ys ks e) (TAKEN_LAST {Q = Q} o d) = (Q, extends_opens fip true ys ks O Q o, by_cases fip (setting ys false B) Q e d)
  taken_by_cases fip B O (MoreClauses ys ks e cs) (TAKEN_MORE {Q = Q} o d f) = (Q, extends_opens fip true ys ks O Q o, by_cases fip (setting ys false B) Q e d, taken_by_cases fip B O cs f)

-- the other way
abbrev extended : Bool → List ℕ → List ℕ → (Item → ℕ) → Item → ℕ
extended own ys ks P (Own y) = if has ys y then worth own else P (Own y)
extended own ys ks P (Credit k) = P (Credit k) + given k ks

at_bound : (b : Bool) (m n : ℕ) → b ≡ true → (if b then m else n) ≡ m
at_bound true m n e = refl
at_bound false m n e = absurd (cc)

at_other : (b : Bool) (m n : ℕ) → b ≡ false → (if b then m else n) ≡ n
at_other true m n e = absurd (cc)
at_other false m n e = refl

extends : (fip own : Bool) (ys ks : List ℕ) (P Q : Item → ℕ) → Opens fip own ys ks P Q → Extends fip own ys ks P (extended own ys ks P)
extends fip own ys ks P Q o = record {
  bound = λ y e. at_bound (has ys y) (worth own) (P (Own y)) e;
  hidden = o.hidden;
  others = λ y e. at_other (has ys y) (worth own) (P (Own y)) e;
  credits = λ k. refl;
}

fits_either : (fip b : Bool) (m p q : ℕ) → (b ≡ true → q ≡ m) → (b ≡ false → Fits fip p q) → Fits fip (if b then m else p) q
fits_either fip true m p q f g = fits_of fip m q (sym (f refl))
fits_either fip false m p q f g = g refl

extended_fits : (fip own : Bool) (ys ks : List ℕ) (P Q : Item → ℕ) → Opens fip own ys ks P Q → (i : Item) → Fits fip (extended own ys ks P i) (Q i)
extended_fits fip own ys ks P Q o (Own y) = fits_either fip (has ys y) (worth own) (P (Own y)) (Q (Own y)) (o.bound y) (o.others y)
extended_fits fip own ys ks P Q o (Credit k) = o.credits k

-- what is left over is left out first
abbrev Less : Bool → (Item → ℕ) → ((Item → ℕ) → Type 0) → Type 0
Less fip O Rule = (P : Item → ℕ) × ((i : Item) → Fits fip (O i) (P i)) × Rule P

mutual
  arg_by_rules : (fip : Bool) (O : Item → ℕ) (a : Value) → DerivesValue fip O a → ValueDerivation fip O a
  arg_by_rules fip O (Named x) d = WEAKEN_VALUE {P = only x} d (VAR (λ i. refl))
  arg_by_rules fip O Scalar d = WEAKEN_VALUE {P = λ i. 0} d (SCALAR (λ i. refl))
  arg_by_rules fip O (Built as') d =
      let r = args_by_rules fip d.0 as' d.2 in
      WEAKEN_VALUE {P = λ i. paid (size as') i + r.0 i} (λ i. fits_sum fip (O i) (paid (size as') i) (d.0 i) (paid (size as') i) (r.0 i) (d.1 i) (fits_same fip (paid (size as') i)) (r.1 i)) (REUSE {P = r.0} (λ i. refl) r.2)

  args_by_rules : (fip : Bool) (O : Item → ℕ) (as' : Values) → DerivesValues fip O as' → Less fip O (λ P. ValuesDerivation fip P as')
  args_by_rules fip O NoValues d = (λ i. 0, d, NONE (λ i. refl))
  args_by_rules fip O (MoreValues a as') d =
      let r = args_by_rules fip d.1 as' d.4 in
      (λ i. d.0 i + r.0 i, λ i. fits_sum fip (O i) (d.0 i) (d.1 i) (d.0 i) (r.0 i) (d.2 i) (fits_same fip (d.0 i)) (r.1 i), MORE {P = d.0} {Q = r.0} (λ i. refl) (arg_by_rules fip d.0 a d.3) r.2)

gifts_by_rules : (fip : Bool) (B : ℕ → Bool) (O : Item → ℕ) (gs : Passed) → DerivesPassed fip B O gs → Less fip O (λ P. PassedDerivation fip B P gs)
gifts_by_rules fip B O (Header header) d = (charge header, d, HEADER (λ i. refl))
gifts_by_rules fip B O (PassLent a gs) d = let r = gifts_by_rules fip B O gs d.1 in (r.0, r.1, LENT d.0 r.2)
gifts_by_rules fip B O (PassOwned a gs) d =
    let r = gifts_by_rules fip B d.1 gs d.4 in
    (λ i. d.0 i + r.0 i, λ i. fits_sum fip (O i) (d.0 i) (d.1 i) (d.0 i) (r.0 i) (d.2 i) (fits_same fip (d.0 i)) (r.1 i), GIVEN {P = d.0} {Q = r.0} (λ i. refl) (arg_by_rules fip d.0 a d.3) r.2)

mutual
  pub by_rules : (fip : Bool) (B : ℕ → Bool) (O : Item → ℕ) (e : Term) → Derives fip B O e → Derivation fip B O e
  by_rules fip B O (Results as') d = let r = args_by_rules fip O as' d in WEAKEN {P = r.0} r.1 (TUPLE r.2)
  by_rules fip B O (Call ok gs) d = let r = gifts_by_rules fip B O gs d.1 in WEAKEN {P = r.0} r.1 (CALL d.0 r.2)
  by_rules fip B O (Let xs a b) d =
      WEAKEN {P = λ i. d.0 i + d.1 i} d.3
      (LET {O1 = d.0} {O2 = d.1} {Q = extended true xs [] d.1} (λ i. refl) (extends fip true xs [] d.1 d.2 d.4)
      (by_rules fip (lending B d.1) d.0 a d.5)
      (WEAKEN {P = d.2} (extended_fits fip true xs [] d.1 d.2 d.4) (by_rules fip (setting xs false B) d.2 b d.6)))
  by_rules fip B O (Match a cs) d = MATCH d.0 (lent_by_rules fip B O cs d.1)
  by_rules fip B O (Take a cs) d = WEAKEN {P = λ i. d.0 i + d.1 i} d.2 (TAKE {P = d.0} {Q = d.1} (λ i. refl) (arg_by_rules fip d.0 a d.3) (taken_by_rules fip B d.1 cs d.4))

  lent_by_rules : (fip : Bool) (B : ℕ → Bool) (O : Item → ℕ) (cs : Clauses) → DerivesLent fip B O cs → LentDerivation fip B O cs
  lent_by_rules fip B O (LastClause ys ks e) d = LENT_LAST {Q = extended false ys [] O} (extends fip false ys [] O d.0 d.1) (WEAKEN {P = d.0} (extended_fits fip false ys [] O d.0 d.1) (by_rules fip (setting ys true B) d.0 e d.2))
  lent_by_rules fip B O (MoreClauses ys ks e cs) d = LENT_MORE {Q = extended false ys [] O} (extends fip false ys [] O d.0 d.1) (WEAKEN {P = d.0} (extended_fits fip false ys [] O d.0 d.1) (by_rules fip (setting ys true B) d.0 e d.2)) (lent_by_rules fip B O cs d.3)

  taken_by_rules : (fip : Bool) (B : ℕ → Bool) (O : Item → ℕ) (cs : Clauses) → DerivesTaken fip B O cs → TakenDerivation fip B O cs
  taken_by_rules fip B O (LastClause ys ks e) d = TAKEN_LAST {Q = extended true ys ks O} (extends fip true ys ks O d.0 d.1) (WEAKEN {P = d.0} (extended_fits fip true ys ks O d.0 d.1) (by_rules fip (setting ys false B) d.0 e d.2))
  taken_by_rules fip B O (MoreClauses ys ks e cs) d = TAKEN_MORE {Q = extended true ys ks O} (extends fip true ys ks O d.0 d.1) (WEAKEN {P = d.0} (extended_fits fip true ys ks O d.0 d.1) (by_rules fip (setting ys false B) d.0 e d.2)) (taken_by_rules fip B O cs d.3)
