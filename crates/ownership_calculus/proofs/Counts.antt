-- What a derivation says of counts and needs.
use Rattle.std.proofs.Common.{◌≡◌, ℕ, ◌+◌, ◌≤◌, refl, sym, ◌∙◌, List, [], Bool, true, false, arith}
use Rattle.ownership_calculus.specs.Terms.{given, Value, Values, Named, Scalar, Built, NoValues, MoreValues, Passed, Header, PassLent, PassOwned, Term, Clauses, Results, Call, Let, Match, Take, LastClause, MoreClauses, Item, Own, Credit, size, paid}
use Rattle.ownership_calculus.specs.Rules.{Fits, lending, setting, Lends}
use Rattle.ownership_calculus.specs.ByCases.{Opens, DerivesValue, DerivesValues, DerivesPassed, Derives, DerivesLent, DerivesTaken}
use Rattle.ownership_calculus.specs.Clean.{used_up, all_used_up, lent_used_up, passed_used_up, asks, asks_lent, asks_taken, fewest, fewest_of, Even, EvenLent, EvenTaken, Alike}
use Rattle.ownership_calculus.proofs.Fit.{fits_le, fits_same, fits_sum, fits_zero, outside_le, few_outside}

mutual
  pub arg_fits : (fip : Bool) (O : Item → ℕ) (a : Value) → DerivesValue fip O a → (i : Item) → Fits fip (O i) (used_up a i)
  arg_fits fip O (Named x) d i = d i
  arg_fits fip O Scalar d i = d i
  arg_fits fip O (Built as') d i = fits_sum fip (O i) (paid (size as') i) (d.0 i) (paid (size as') i) (all_used_up as' i) (d.1 i) (fits_same fip (paid (size as') i)) (args_fits fip d.0 as' d.2 i)

  pub args_fits : (fip : Bool) (O : Item → ℕ) (as' : Values) → DerivesValues fip O as' → (i : Item) → Fits fip (O i) (all_used_up as' i)
  args_fits fip O NoValues d i = d i
  args_fits fip O (MoreValues a as') d i = fits_sum fip (O i) (d.0 i) (d.1 i) (used_up a i) (all_used_up as' i) (d.2 i) (arg_fits fip d.0 a d.3 i) (args_fits fip d.1 as' d.4 i)

lends_none : (B : ℕ → Bool) (a : Value) → Lends B a → (i : Item) → lent_used_up a i ≡ 0
lends_none B (Named x) h i = refl
lends_none B Scalar h i = refl
lends_none B (Built as') h i = absurd h

pub gifts_fits : (fip : Bool) (B : ℕ → Bool) (O : Item → ℕ) (gs : Passed) → DerivesPassed fip B O gs → (i : Item) → Fits fip (O i) (passed_used_up gs i)
gifts_fits fip B O (Header header) d i = d i
gifts_fits fip B O (PassLent a gs) d i = fits_zero fip (O i) (lent_used_up a i) (passed_used_up gs i) (lends_none B a d.0 i) (gifts_fits fip B O gs d.1 i)
gifts_fits fip B O (PassOwned a gs) d i = fits_sum fip (O i) (d.0 i) (d.1 i) (used_up a i) (passed_used_up gs i) (d.2 i) (arg_fits fip d.0 a d.3 i) (gifts_fits fip B d.1 gs d.4 i)

-- a derivation has at least what is required
mutual
  pub asks_le : (fip : Bool) (B : ℕ → Bool) (O : Item → ℕ) (e : Term) → Derives fip B O e → (i : Item) → asks i e ≤ O i
  asks_le fip B O (Results as') d i = fits_le fip (O i) (all_used_up as' i) (args_fits fip O as' d i)
  asks_le fip B O (Call ok gs) d i = fits_le fip (O i) (passed_used_up gs i) (gifts_fits fip B O gs d.1 i)
  asks_le fip B O (Let xs a b) d i =
      let s = fits_le fip (O i) (d.0 i + d.1 i) (d.3 i) in
      let l = asks_le fip (lending B d.1) d.0 a d.5 i in
      let r = outside_le fip true xs [] d.1 d.2 d.4 i (asks i b) (asks_le fip (setting xs false B) d.2 b d.6 i) in
      omega arith
  asks_le fip B O (Match a cs) d i = let z = lends_none B a d.0 i in let h = asks_le_lent fip B O cs d.1 i in omega arith
  asks_le fip B O (Take a cs) d i = let s = fits_le fip (O i) (d.0 i + d.1 i) (d.2 i) in let g = fits_le fip (d.0 i) (used_up a i) (arg_fits fip d.0 a d.3 i) in let h = asks_le_taken fip B d.1 cs d.4 i in omega arith

  asks_le_lent : (fip : Bool) (B : ℕ → Bool) (O : Item → ℕ) (cs : Clauses) → DerivesLent fip B O cs → (i : Item) → asks_lent i cs ≤ O i
  asks_le_lent fip B O (LastClause ys ks e) d i = outside_le fip false ys [] O d.0 d.1 i (asks i e) (asks_le fip (setting ys true B) d.0 e d.2 i)
  asks_le_lent fip B O (MoreClauses ys ks e cs) d i =
      let l = outside_le fip false ys [] O d.0 d.1 i (asks i e) (asks_le fip (setting ys true B) d.0 e d.2 i) in
      let r = asks_le_lent fip B O cs d.3 i in omega arith

  asks_le_taken : (fip : Bool) (B : ℕ → Bool) (R : Item → ℕ) (cs : Clauses) → DerivesTaken fip B R cs → (i : Item) → asks_taken i cs ≤ R i
  asks_le_taken fip B R (LastClause ys ks e) d i = outside_le fip true ys ks R d.0 d.1 i (asks i e) (asks_le fip (setting ys false B) d.0 e d.2 i)
  asks_le_taken fip B R (MoreClauses ys ks e cs) d i =
      let l = outside_le fip true ys ks R d.0 d.1 i (asks i e) (asks_le fip (setting ys false B) d.0 e d.2 i) in
      let r = asks_le_taken fip B R cs d.3 i in omega arith

-- in fip each path uses what is there
mutual
  pub few : (B : ℕ → Bool) (O : Item → ℕ) (e : Term) → Derives true B O e → (x : ℕ) → O (Own x) ≤ fewest x e
  few B O (Results as') d x = let e : O (Own x) ≡ all_used_up as' (Own x) = args_fits true O as' d (Own x) in omega arith
  few B O (Call ok gs) d x = let e : O (Own x) ≡ passed_used_up gs (Own x) = gifts_fits true B O gs d.1 (Own x) in omega arith
  few B O (Let xs a b) d x =
      let s : O (Own x) ≡ d.0 (Own x) + d.1 (Own x) = d.3 (Own x) in
      let l = few (lending B d.1) d.0 a d.5 x in
      let r = few_outside true xs [] d.1 d.2 d.4 x (fewest x b) (few (setting xs false B) d.2 b d.6 x) in
      omega arith
  few B O (Match a cs) d x = let h = few_lent B O cs d.1 x in omega arith
  few B O (Take a cs) d x = let s : O (Own x) ≡ d.0 (Own x) + d.1 (Own x) = d.2 (Own x) in let g : d.0 (Own x) ≡ used_up a (Own x) = arg_fits true d.0 a d.3 (Own x) in let h = few_taken B d.1 cs d.4 x in omega arith

  few_lent : (B : ℕ → Bool) (O : Item → ℕ) (cs : Clauses) → DerivesLent true B O cs → (x : ℕ) → O (Own x) ≤ fewest_of x cs
  few_lent B O (LastClause ys ks e) d x = few_outside false ys [] O d.0 d.1 x (fewest x e) (few (setting ys true B) d.0 e d.2 x)
  few_lent B O (MoreClauses ys ks e cs) d x =
      let l = few_outside false ys [] O d.0 d.1 x (fewest x e) (few (setting ys true B) d.0 e d.2 x) in
      let r = few_lent B O cs d.3 x in omega arith

  few_taken : (B : ℕ → Bool) (R : Item → ℕ) (cs : Clauses) → DerivesTaken true B R cs → (x : ℕ) → R (Own x) ≤ fewest_of x cs
  few_taken B R (LastClause ys ks e) d x = few_outside true ys ks R d.0 d.1 x (fewest x e) (few (setting ys false B) d.0 e d.2 x)
  few_taken B R (MoreClauses ys ks e cs) d x =
      let l = few_outside true ys ks R d.0 d.1 x (fewest x e) (few (setting ys false B) d.0 e d.2 x) in
      let r = few_taken B R cs d.3 x in omega arith

pub even_lent_same : (m n : ℕ → ℕ) (cs : Clauses) → ((k : ℕ) → m k ≡ n k) → EvenLent m cs → EvenLent n cs
even_lent_same m n (LastClause ys ks e) h d = (λ k. ((d.0 k).0, (d.0 k).1 ∙ h k), d.1)
even_lent_same m n (MoreClauses ys ks e cs) h d = (λ k. ((d.0 k).0, (d.0 k).1 ∙ h k), d.1, even_lent_same m n cs h d.2)

pub even_taken_same : (m n : ℕ → ℕ) (cs : Clauses) → ((k : ℕ) → m k ≡ n k) → EvenTaken m cs → EvenTaken n cs
even_taken_same m n (LastClause ys ks e) h d = (λ k. ((d.0 k).0, (d.0 k).1 ∙ h k), d.1)
even_taken_same m n (MoreClauses ys ks e cs) h d = (λ k. ((d.0 k).0, (d.0 k).1 ∙ h k), d.1, even_taken_same m n cs h d.2)

alike : (own : Bool) (ys ks : List ℕ) (R Q : Item → ℕ) (e : Term) → Opens true own ys ks R Q → ((k : ℕ) → Q (Credit k) ≡ asks (Credit k) e) → Alike ks e (λ k. R (Credit k))
alike own ys ks R Q e o h k = let a : R (Credit k) + given k ks ≡ Q (Credit k) = o.credits k in let b = h k in (omega arith, omega arith)

-- in fip a derivation has just the credits that are needed, and the clauses agree
mutual
  pub even : (B : ℕ → Bool) (O : Item → ℕ) (e : Term) → Derives true B O e → ((k : ℕ) → O (Credit k) ≡ asks (Credit k) e) × Even e
  even B O (Results as') d = (λ k. args_fits true O as' d (Credit k), tt)
  even B O (Call ok gs) d = (λ k. gifts_fits true B O gs d.1 (Credit k), tt)
  even B O (Let xs a b) d =
      let l = even (lending B d.1) d.0 a d.5 in
      let r = even (setting xs false B) d.2 b d.6 in (
        λ k. let s : O (Credit k) ≡ d.0 (Credit k) + d.1 (Credit k) = d.3 (Credit k) in
            let c : d.1 (Credit k) + 0 ≡ d.2 (Credit k) = d.4.credits k in
            let p = l.0 k in let q = r.0 k in omega arith,
        (l.1, r.1),
      )
  even B O (Match a cs) d =
      let h = even_lent B O cs d.1 in
      (λ k. let z = lends_none B a d.0 (Credit k) in let g = h.0 k in omega arith, even_lent_same (λ k. O (Credit k)) (λ k. asks_lent (Credit k) cs) cs h.0 h.1)
  even B O (Take a cs) d =
      let h = even_taken B d.1 cs d.4 in
      (λ k. let s : O (Credit k) ≡ d.0 (Credit k) + d.1 (Credit k) = d.2 (Credit k) in let p : d.0 (Credit k) ≡ used_up a (Credit k) = arg_fits true d.0 a d.3 (Credit k) in let g = h.0 k in omega arith, even_taken_same (λ k. d.1 (Credit k)) (λ k. asks_taken (Credit k) cs) cs h.0 h.1)

  even_lent : (B : ℕ → Bool) (O : Item → ℕ) (cs : Clauses) → DerivesLent true B O cs → ((k : ℕ) → O (Credit k) ≡ asks_lent (Credit k) cs) × EvenLent (λ k. O (Credit k)) cs
  even_lent B O (LastClause ys ks e) d =
      let h = even (setting ys true B) d.0 e d.2 in
      let a = alike false ys [] O d.0 e d.1 h.0 in
      (λ k. sym ((a k).1), (a, h.1))
  even_lent B O (MoreClauses ys ks e cs) d =
      let h = even (setting ys true B) d.0 e d.2 in
      let a = alike false ys [] O d.0 e d.1 h.0 in
      let r = even_lent B O cs d.3 in
      (λ k. let p = (a k).1 in let q = r.0 k in omega arith, (a, h.1, r.1))

  even_taken : (B : ℕ → Bool) (R : Item → ℕ) (cs : Clauses) → DerivesTaken true B R cs → ((k : ℕ) → R (Credit k) ≡ asks_taken (Credit k) cs) × EvenTaken (λ k. R (Credit k)) cs
  even_taken B R (LastClause ys ks e) d =
      let h = even (setting ys false B) d.0 e d.2 in
      let a = alike true ys ks R d.0 e d.1 h.0 in
      (λ k. sym ((a k).1), (a, h.1))
  even_taken B R (MoreClauses ys ks e cs) d =
      let h = even (setting ys false B) d.0 e d.2 in
      let a = alike true ys ks R d.0 e d.1 h.0 in
      let r = even_taken B R cs d.3 in
      (λ k. let p = (a k).1 in let q = r.0 k in omega arith, (a, h.1, r.1))
