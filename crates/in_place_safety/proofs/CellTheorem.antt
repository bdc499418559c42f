-- In fip the cells of the results are those of what was owned, and the credits: by induction on the term, where the
-- cells of an owned environment are the sum, over a list of variables that covers it, of how often it has each.
use Rattle.std.proofs.Common.{◌≡◌, ℕ, zero, suc, ◌+◌, inl, inr, refl, sym, ap, subst, ◌∙◌, List, [], ◌∷◌, ◌++◌, Bool, true, false, not, arith}
use Rattle.std.specs.Prelude.{if◌then◌else◌, ◌==◌, ◌||◌, ◌&&◌}
use Rattle.std.proofs.lemmas.Bool.Decides.{nat_tests}
use Rattle.ownership_agreement.specs.ownership_calculus.Terms.{given, Value, Values, Named, Scalar, Built, NoValues, MoreValues, Passed, Header, PassLent, PassOwned, Term, Clauses, Results, Call, Let, Match, Take, LastClause, MoreClauses, Item, Own, Credit, has, one, size, paid}
use Rattle.ownership_agreement.specs.ownership_calculus.Rules.{lending, setting}
use Rattle.ownership_agreement.specs.ownership_calculus.ByCases.{Opens, DerivesValue, DerivesValues, DerivesPassed, Derives, DerivesLent, DerivesTaken}
use Rattle.ownership_agreement.specs.ownership_calculus.Functions.{starting, Derived}
use Rattle.ownership_agreement.proofs.ownership_calculus.Faithful.{by_cases}
use Rattle.in_place_safety.specs.Counts.{Held, cells_of_value, cells_of_values, cells_passed, total, Once, Binds, Counts, CountsLent, CountsTaken}
use Rattle.tail_groups.proofs.fip_language.Facts.{and_false, and_false_first as and_left_false, and_not_true as not_both, or_assoc, or_false_false as or_false, or_last as has_more, same_number}
use Rattle.ownership_agreement.proofs.ownership_calculus.Forth.{paid_own}

abbrev times : ℕ → ℕ → ℕ
times zero c = 0
times (suc n) c = c + times n c

-- the cells of the variables of an environment
abbrev weight : Held → List ℕ → (ℕ → ℕ) → ℕ → ℕ
weight held [] o k = 0
weight held (x ∷ xs) o k = times (o x) (held x k) + weight held xs o k

abbrev own_part : (Item → ℕ) → ℕ → ℕ
own_part O x = O (Own x)

abbrev Covers : List ℕ → (Item → ℕ) → Type 0
Covers dom O = (x : ℕ) → has dom x ≡ false → O (Own x) ≡ 0

-- all that an environment is worth
abbrev worth_of : Held → List ℕ → (Item → ℕ) → ℕ → ℕ
worth_of held dom O k = weight held dom (own_part O) k + O (Credit k)

times_sum : (p q c : ℕ) → times (p + q) c ≡ times p c + times q c
times_sum zero q c = let e : zero + q ≡ q = omega arith in let g : times (zero + q) c ≡ times q c = ap (λ n. times n c) e in omega arith
times_sum (suc p) q c = let e : suc p + q ≡ suc (p + q) = omega arith in let h = times_sum p q c in let g : times (suc p + q) c ≡ c + times (p + q) c = ap (λ n. times n c) e in omega arith

times_one : (c : ℕ) → times 1 c ≡ c
times_one c = omega arith

weight_split : (held : Held) (dom : List ℕ) (O P Q : Item → ℕ) (k : ℕ) → ((i : Item) → O i ≡ P i + Q i) → weight held dom (own_part O) k ≡ weight held dom (own_part P) k + weight held dom (own_part Q) k
weight_split held [] O P Q k h = refl
weight_split held (x ∷ dom) O P Q k h = let e = ap (λ n. times n (held x k)) (h (Own x)) in let f = times_sum (P (Own x)) (Q (Own x)) (held x k) in let g = weight_split held dom O P Q k h in omega arith

weight_same : (held : Held) (dom : List ℕ) (o p : ℕ → ℕ) (k : ℕ) → ((x : ℕ) → o x ≡ p x) → weight held dom o k ≡ weight held dom p k
weight_same held [] o p k h = refl
weight_same held (x ∷ dom) o p k h = let e = ap (λ n. times n (held x k)) (h x) in let g = weight_same held dom o p k h in omega arith

weight_zero : (held : Held) (dom : List ℕ) (o : ℕ → ℕ) (k : ℕ) → ((x : ℕ) → o x ≡ 0) → weight held dom o k ≡ 0
weight_zero held [] o k h = refl
weight_zero held (x ∷ dom) o k h = let e = ap (λ n. times n (held x k)) (h x) in let g = weight_zero held dom o k h in omega arith

one_yes : (x y : ℕ) → (y == x) ≡ true → one x y ≡ 1
one_yes x y h = grind (arith, nat_tests)

one_no : (x y : ℕ) → (y == x) ≡ false → one x y ≡ 0
one_no x y h = grind (arith, nat_tests)

none_first : (held : Held) (dom : List ℕ) (x y k : ℕ) (b : Bool) → (y == x) ≡ b → (has dom x ≡ false → weight held dom (one x) k ≡ 0) → (b || has dom x) ≡ false → times (one x y) (held y k) + weight held dom (one x) k ≡ 0
none_first held dom x y k true e r h = absurd (cc)
none_first held dom x y k false e r h = let f = ap (λ n. times n (held y k)) (one_no x y e) in let g = r h in omega arith

none_of : (held : Held) (dom : List ℕ) (x k : ℕ) → has dom x ≡ false → weight held dom (one x) k ≡ 0
none_of held [] x k h = refl
none_of held (y ∷ dom) x k h = none_first held dom x y k (y == x) refl (none_of held dom x k) h

one_first : (held : Held) (dom : List ℕ) (x y k : ℕ) (b : Bool) → (y == x) ≡ b → has dom y ≡ false → (has dom x ≡ true → weight held dom (one x) k ≡ held x k) → (b || has dom x) ≡ true → times (one x y) (held y k) + weight held dom (one x) k ≡ held x k
one_first held dom x y k true e o r h =
    let s : y ≡ x = same_number y x e in
    let f = ap (λ n. times n (held y k)) (one_yes x y e) in
    let g = none_of held dom x k (subst (λ z. has dom z ≡ false) s o) in
    let t = ap (λ z. held z k) s in omega arith
one_first held dom x y k false e o r h = let f = ap (λ n. times n (held y k)) (one_no x y e) in let g = r h in omega arith

one_of : (held : Held) (dom : List ℕ) (x k : ℕ) → Once dom → has dom x ≡ true → weight held dom (one x) k ≡ held x k
one_of held [] x k o h = absurd (cc)
one_of held (y ∷ dom) x k o h = one_first held dom x y k (y == x) refl o.0 (one_of held dom x k o.1) h

covered : (dom : List ℕ) (O : Item → ℕ) (x : ℕ) (b : Bool) → has dom x ≡ b → Covers dom O → O (Own x) ≡ 1 → has dom x ≡ true
covered dom O x true e c h = e
covered dom O x false e c h = absurd (let z = c x e in omega arith)

covers_left : (dom : List ℕ) (O P Q : Item → ℕ) → ((i : Item) → O i ≡ P i + Q i) → Covers dom O → Covers dom P
covers_left dom O P Q h c x e = let z = c x e in let s = h (Own x) in omega arith

covers_right : (dom : List ℕ) (O P Q : Item → ℕ) → ((i : Item) → O i ≡ P i + Q i) → Covers dom O → Covers dom Q
covers_right dom O P Q h c x e = let z = c x e in let s = h (Own x) in omega arith

self_one : (x : ℕ) → one x x ≡ 1
self_one x = grind (arith, nat_tests)

split_worth : (held : Held) (dom : List ℕ) (O P Q : Item → ℕ) (k : ℕ) → ((i : Item) → O i ≡ P i + Q i) → worth_of held dom O k ≡ worth_of held dom P k + worth_of held dom Q k
split_worth held dom O P Q k h = let e = weight_split held dom O P Q k h in let f = h (Credit k) in omega arith

mutual
  value_cells : (held : Held) (dom : List ℕ) (O : Item → ℕ) (a : Value) (k : ℕ) → Once dom → Covers dom O → DerivesValue true O a → worth_of held dom O k ≡ cells_of_value held a k
  value_cells held dom O (Named x) k o c d =
      let h = covered dom O x (has dom x) refl c (d (Own x) ∙ self_one x) in
      let e = weight_same held dom (own_part O) (one x) k (λ y. d (Own y)) in
      let f = one_of held dom x k o h in
      let g : O (Credit k) ≡ 0 = d (Credit k) in omega arith
  value_cells held dom O Scalar k o c d = let e = weight_zero held dom (own_part O) k (λ y. d (Own y)) in let g = d (Credit k) in omega arith
  value_cells held dom O (Built as') k o c d =
      let P : Item → ℕ = d.0 in
      let part : (x : ℕ) → O (Own x) ≡ P (Own x) = λ x. let p = d.1 (Own x) in let q = paid_own (size as') x in omega arith in
      let e = weight_same held dom (own_part O) (own_part P) k part in
      let f = values_cells held dom P as' k o (λ x h. let z = c x h in let s = part x in omega arith) d.2 in
      let g = d.1 (Credit k) in omega arith

  values_cells : (held : Held) (dom : List ℕ) (O : Item → ℕ) (as' : Values) (k : ℕ) → Once dom → Covers dom O → DerivesValues true O as' → worth_of held dom O k ≡ cells_of_values held as' k
  values_cells held dom O NoValues k o c d = let e = weight_zero held dom (own_part O) k (λ y. d (Own y)) in let g = d (Credit k) in omega arith
  values_cells held dom O (MoreValues a as') k o c d =
      let s = split_worth held dom O d.0 d.1 k d.2 in
      let e = value_cells held dom d.0 a k o (covers_left dom O d.0 d.1 d.2 c) d.3 in
      let f = values_cells held dom d.1 as' k o (covers_right dom O d.0 d.1 d.2 c) d.4 in omega arith

passed_cells : (B : ℕ → Bool) (held : Held) (dom : List ℕ) (O : Item → ℕ) (gs : Passed) (k : ℕ) → Once dom → Covers dom O → DerivesPassed true B O gs → worth_of held dom O k ≡ cells_passed held gs k
passed_cells B held dom O (Header fee) k o c d = let e = weight_zero held dom (own_part O) k (λ y. d (Own y)) in let g : O (Credit k) ≡ given k fee = d (Credit k) in omega arith
passed_cells B held dom O (PassLent a gs) k o c d = passed_cells B held dom O gs k o c d.1
passed_cells B held dom O (PassOwned a gs) k o c d =
    let s = split_worth held dom O d.0 d.1 k d.2 in
    let e = value_cells held dom d.0 a k o (covers_left dom O d.0 d.1 d.2 c) d.3 in
    let f = passed_cells B held dom d.1 gs k o (covers_right dom O d.0 d.1 d.2 c) d.4 in omega arith

-- ---- binders

abbrev minus : List ℕ → List ℕ → List ℕ
minus ys [] = []
minus ys (x ∷ xs) = if has ys x then minus ys xs else x ∷ minus ys xs

has_append : (xs ys : List ℕ) (x : ℕ) → has (xs ++ ys) x ≡ (has xs x || has ys x)
has_append [] ys x = refl
has_append (z ∷ xs) ys x = ap (λ b. (z == x) || b) (has_append xs ys x) ∙ or_assoc (z == x) (has xs x) (has ys x)

minus_step : (ys xs : List ℕ) (z x : ℕ) (b c : Bool) → has ys z ≡ b → (z == x) ≡ c → has (minus ys xs) x ≡ (has xs x && not (has ys x)) → has (if b then minus ys xs else z ∷ minus ys xs) x ≡ ((c || has xs x) && not (has ys x))
minus_step ys xs z x true true e f h = let s : z ≡ x = same_number z x f in let g : has ys x ≡ true = subst (λ q. has ys q ≡ true) s e in rw (h, g) (and_false (has xs x))
minus_step ys xs z x true false e f h = h
minus_step ys xs z x false true e f h = let s : z ≡ x = same_number z x f in let g : has ys x ≡ false = subst (λ q. has ys q ≡ false) s e in rw (f, g) refl
minus_step ys xs z x false false e f h = rw (f) h

has_minus : (ys xs : List ℕ) (x : ℕ) → has (minus ys xs) x ≡ (has xs x && not (has ys x))
has_minus ys [] x = refl
has_minus ys (z ∷ xs) x = minus_step ys xs z x (has ys z) (z == x) refl refl (has_minus ys xs x)

once_kept : (ys xs : List ℕ) (z : ℕ) (b : Bool) → has (minus ys xs) z ≡ false → Once (minus ys xs) → Once (if b then minus ys xs else z ∷ minus ys xs)
once_kept ys xs z true h o = o
once_kept ys xs z false h o = (h, o)

once_minus : (ys xs : List ℕ) → Once xs → Once (minus ys xs)
once_minus ys [] o = tt
once_minus ys (z ∷ xs) o = once_kept ys xs z (has ys z) (has_minus ys xs z ∙ and_left_false (has xs z) (not (has ys z)) o.0) (once_minus ys xs o.1)

once_both : (zs ys : List ℕ) → Once zs → Once ys → ((x : ℕ) → has zs x ≡ true → has ys x ≡ false) → Once (zs ++ ys)
once_both [] ys o q h = q
once_both (z ∷ zs) ys o q h = (
  has_append zs ys z ∙ or_false (has zs z) (has ys z) o.0 (h z (let e : (z == z) ≡ true = grind (arith, nat_tests) in rw e refl)),
  once_both zs ys o.1 q (λ x e. h x (has_more (z == x) (has zs x) e)),
)

abbrev domain : List ℕ → List ℕ → List ℕ
domain ys dom = ys ++ minus ys dom

once_domain : (ys dom : List ℕ) → Once ys → Once dom → Once (domain ys dom)
once_domain ys dom o q = once_both ys (minus ys dom) o (once_minus ys dom q) (λ x e. has_minus ys dom x ∙ not_both (has dom x) (has ys x) e)

weight_append : (held : Held) (xs ys : List ℕ) (o : ℕ → ℕ) (k : ℕ) → weight held (xs ++ ys) o k ≡ weight held xs o k + weight held ys o k
weight_append held [] ys o k = omega arith
weight_append held (x ∷ xs) ys o k = let h = weight_append held xs ys o k in omega arith

-- ys are worth what they stand for, or nothing
weight_owned : (new : Held) (ys zs : List ℕ) (o : ℕ → ℕ) (k : ℕ) → ((y : ℕ) → has zs y ≡ true → o y ≡ 1) → ((y : ℕ) → has ys y ≡ true → has zs y ≡ true) → weight new ys o k ≡ total new ys k
weight_owned new [] zs o k h s = refl
weight_owned new (y ∷ ys) zs o k h s =
    let e = ap (λ n. times n (new y k)) (h y (s y (let e : (y == y) ≡ true = grind (arith, nat_tests) in rw e refl))) in
    let g = weight_owned new ys zs o k h (λ x e. s x (has_more (y == x) (has ys x) e)) in omega arith

weight_lent : (new : Held) (ys zs : List ℕ) (o : ℕ → ℕ) (k : ℕ) → ((y : ℕ) → has zs y ≡ true → o y ≡ 0) → ((y : ℕ) → has ys y ≡ true → has zs y ≡ true) → weight new ys o k ≡ 0
weight_lent new [] zs o k h s = refl
weight_lent new (y ∷ ys) zs o k h s =
    let e = ap (λ n. times n (new y k)) (h y (s y (let e : (y == y) ≡ true = grind (arith, nat_tests) in rw e refl))) in
    let g = weight_lent new ys zs o k h (λ x e. s x (has_more (y == x) (has ys x) e)) in omega arith

old_step : (held new : Held) (ys dom : List ℕ) (q r : ℕ → ℕ) (x k : ℕ) (b : Bool) → has ys x ≡ b → ((y : ℕ) → has ys y ≡ true → r y ≡ 0) → ((y : ℕ) → has ys y ≡ false → r y ≡ q y) → ((y : ℕ) → has ys y ≡ false → (j : ℕ) → new y j ≡ held y j) → weight new (minus ys dom) q k ≡ weight held dom r k → weight new (if b then minus ys dom else x ∷ minus ys dom) q k ≡ times (r x) (held x k) + weight held dom r k
old_step held new ys dom q r x k true e h g n p = let f = ap (λ m. times m (held x k)) (h x e) in omega arith
old_step held new ys dom q r x k false e h g n p = let f = ap (λ m. times m (held x k)) (g x e) in let s = ap (λ m. times (q x) m) (n x e k) in omega arith

weight_old : (held new : Held) (ys dom : List ℕ) (q r : ℕ → ℕ) (k : ℕ) → ((y : ℕ) → has ys y ≡ true → r y ≡ 0) → ((y : ℕ) → has ys y ≡ false → r y ≡ q y) → ((y : ℕ) → has ys y ≡ false → (j : ℕ) → new y j ≡ held y j) → weight new (minus ys dom) q k ≡ weight held dom r k
weight_old held new ys [] q r k h g n = refl
weight_old held new ys (x ∷ dom) q r k h g n = old_step held new ys dom q r x k (has ys x) refl h g n (weight_old held new ys dom q r k h g n)

module _ (own : Bool) (ys ks dom : List ℕ) (held new : Held) (R Q : Item → ℕ) (o : Opens true own ys ks R Q) (b : Binds ys held new) where
  old_part : (k : ℕ) → weight new (minus ys dom) (own_part Q) k ≡ weight held dom (own_part R) k
  old_part k = weight_old held new ys dom (own_part Q) (own_part R) k o.hidden o.others b.1

  covers_one : (a m d : Bool) (x : ℕ) → has ys x ≡ a → m ≡ (d && not (has ys x)) → has dom x ≡ d → Covers dom R → (a || m) ≡ false → Q (Own x) ≡ 0
  covers_one true m d x e f g c h = absurd (cc)
  covers_one false m true x e f g c h = absurd (let z : m ≡ true = f ∙ (rw e refl) in cc)
  covers_one false m false x e f g c h = sym (o.others x e) ∙ c x g

  covers_new : Covers dom R → Covers (domain ys dom) Q
  covers_new c x e = covers_one (has ys x) (has (minus ys dom) x) (has dom x) x refl (has_minus ys dom x) refl c (sym (has_append ys (minus ys dom) x) ∙ e)

owned_worth : (ys ks dom : List ℕ) (held new : Held) (R Q : Item → ℕ) (k : ℕ) → Opens true true ys ks R Q → Binds ys held new → worth_of new (domain ys dom) Q k ≡ worth_of held dom R k + (total new ys k + given k ks)
owned_worth ys ks dom held new R Q k o b =
    let e = weight_append new ys (minus ys dom) (own_part Q) k in
    let f = weight_owned new ys ys (own_part Q) k o.bound (λ y h. h) in
    let g = old_part true ys ks dom held new R Q o b k in
    let c : R (Credit k) + given k ks ≡ Q (Credit k) = o.credits k in omega arith

lent_worth : (ys dom : List ℕ) (held new : Held) (R Q : Item → ℕ) (k : ℕ) → Opens true false ys [] R Q → Binds ys held new → worth_of new (domain ys dom) Q k ≡ worth_of held dom R k
lent_worth ys dom held new R Q k o b =
    let e = weight_append new ys (minus ys dom) (own_part Q) k in
    let f = weight_lent new ys ys (own_part Q) k o.bound (λ y h. h) in
    let g = old_part false ys [] dom held new R Q o b k in
    let c : R (Credit k) + 0 ≡ Q (Credit k) = o.credits k in omega arith

mutual
  cells_theorem : (B : ℕ → Bool) (O : Item → ℕ) (held : Held) (dom : List ℕ) (e : Term) (r : ℕ → ℕ) → Derives true B O e → Counts held e r → Once dom → Covers dom O → (k : ℕ) → r k ≡ worth_of held dom O k
  cells_theorem B O held dom (Results as') r d n o c k = n k ∙ sym (values_cells held dom O as' k o c d)
  cells_theorem B O held dom (Call ok gs) r d n o c k = n d.0 k ∙ sym (passed_cells B held dom O gs k o c d.1)
  cells_theorem B O held dom (Let xs a b) r d n o c k =
      let p = cells_theorem (lending B d.1) d.0 held dom a n.0 d.5 n.2 o (covers_left dom O d.0 d.1 d.3 c) k in
      let q = cells_theorem (setting xs false B) d.2 n.1 (domain xs dom) b r d.6 n.5 (once_domain xs dom n.3.0 o) (covers_new true xs [] dom held n.1 d.1 d.2 d.4 n.3 (covers_right dom O d.0 d.1 d.3 c)) k in
      let s = split_worth held dom O d.0 d.1 k d.3 in
      let w = owned_worth xs [] dom held n.1 d.1 d.2 k d.4 n.3 in
      let t = n.4 k in omega arith
  cells_theorem B O held dom (Match a cs) r d n o c k = lent_theorem B O held dom cs r d.1 n o c k
  cells_theorem B O held dom (Take a cs) r d n o c k =
      let p = value_cells held dom d.0 a k o (covers_left dom O d.0 d.1 d.2 c) d.3 in
      let q = taken_theorem B d.1 held dom (cells_of_value held a) cs r d.4 n o (covers_right dom O d.0 d.1 d.2 c) k in
      let s = split_worth held dom O d.0 d.1 k d.2 in omega arith

  lent_theorem : (B : ℕ → Bool) (O : Item → ℕ) (held : Held) (dom : List ℕ) (cs : Clauses) (r : ℕ → ℕ) → DerivesLent true B O cs → CountsLent held cs r → Once dom → Covers dom O → (k : ℕ) → r k ≡ worth_of held dom O k
  lent_theorem B O held dom (LastClause ys ks e) r d n o c k =
      let q = cells_theorem (setting ys true B) d.0 n.0 (domain ys dom) e r d.2 n.2 (once_domain ys dom n.1.0 o) (covers_new false ys [] dom held n.0 O d.0 d.1 n.1 c) k in
      let w = lent_worth ys dom held n.0 O d.0 k d.1 n.1 in omega arith
  lent_theorem B O held dom (MoreClauses ys ks e cs) r d (inl n) o c k =
      let q = cells_theorem (setting ys true B) d.0 n.0 (domain ys dom) e r d.2 n.2 (once_domain ys dom n.1.0 o) (covers_new false ys [] dom held n.0 O d.0 d.1 n.1 c) k in
      let w = lent_worth ys dom held n.0 O d.0 k d.1 n.1 in omega arith
  lent_theorem B O held dom (MoreClauses ys ks e cs) r d (inr n) o c k = lent_theorem B O held dom cs r d.3 n o c k

  taken_theorem : (B : ℕ → Bool) (R : Item → ℕ) (held : Held) (dom : List ℕ) (v : ℕ → ℕ) (cs : Clauses) (r : ℕ → ℕ) → DerivesTaken true B R cs → CountsTaken held v cs r → Once dom → Covers dom R → (k : ℕ) → r k ≡ v k + worth_of held dom R k
  taken_theorem B R held dom v (LastClause ys ks e) r d n o c k =
      let q = cells_theorem (setting ys false B) d.0 n.0 (domain ys dom) e r d.2 n.3 (once_domain ys dom n.1.0 o) (covers_new true ys ks dom held n.0 R d.0 d.1 n.1 c) k in
      let w = owned_worth ys ks dom held n.0 R d.0 k d.1 n.1 in
      let t = n.2 k in omega arith
  taken_theorem B R held dom v (MoreClauses ys ks e cs) r d (inl n) o c k =
      let q = cells_theorem (setting ys false B) d.0 n.0 (domain ys dom) e r d.2 n.3 (once_domain ys dom n.1.0 o) (covers_new true ys ks dom held n.0 R d.0 d.1 n.1 c) k in
      let w = owned_worth ys ks dom held n.0 R d.0 k d.1 n.1 in
      let t = n.2 k in omega arith
  taken_theorem B R held dom v (MoreClauses ys ks e cs) r d (inr n) o c k = taken_theorem B R held dom v cs r d.3 n o c k

abbrev one_if : Bool → ℕ
one_if b = if b then 1 else 0

of_start : (b : Bool) → b ≡ true → one_if b ≡ 1
of_start true e = refl
of_start false e = absurd (cc)

not_start : (b : Bool) → b ≡ false → one_if b ≡ 0
not_start true e = absurd (cc)
not_start false e = refl

-- a function: its owned parameters and its header's credits
pub function_theorem : (lent own ks : List ℕ) (e : Term) (held : Held) (r : ℕ → ℕ) → Derived true lent own ks e → Once own → Counts held e r → (k : ℕ) → r k ≡ total held own k + given k ks
function_theorem lent own ks e held r d o n k =
    let l = cells_theorem (setting own false (has lent)) (starting own ks) held own e r (by_cases true (setting own false (has lent)) (starting own ks) e d) n o (λ x h. not_start (has own x) h) k in
    let w = weight_owned held own own (own_part (starting own ks)) k (λ y h. of_start (has own y) h) (λ y h. h) in
    cc (l, w)
