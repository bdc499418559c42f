-- What is derived breaks no rule.
use Rattle.std.proofs.Common.{◌≡◌, ℕ, ◌+◌, ◌≤◌, refl, List, [], Bool, true, false, arith}
use Rattle.std.specs.Prelude.{max, nat_lt, ◌||◌, if◌then◌else◌}
use Rattle.std.proofs.lemmas.Bool.Decides.{nat_tests}
use Rattle.ownership_calculus.specs.Terms.{Value, Values, Named, Scalar, Built, NoValues, MoreValues, Passed, Header, PassLent, PassOwned, Term, Clauses, Results, Call, Let, Match, Take, LastClause, MoreClauses, Item, Own, has}
use Rattle.ownership_calculus.specs.Rules.{worth, lending, setting, Lends}
use Rattle.ownership_calculus.specs.ByCases.{Opens, DerivesPassed, Derives, DerivesLent, DerivesTaken}
use Rattle.ownership_calculus.specs.Clean.{used_up, all_used_up, passed_used_up, outside, asks, asks_lent, asks_taken, Status, fresh, after, lent, binding, LendsWell, CleanValue, CleanValues, CleanPassed, AllUsed, Clean, CleanLent, CleanTaken}
use Rattle.ownership_calculus.proofs.Fit.{held, room, visible, fits_le, one_same, may_use, may_lend, held_after, room_after, visible_after, held_lent, room_lent, visible_lent, visible_kept}
use Rattle.ownership_calculus.proofs.Counts.{arg_fits, asks_le, few}

mutual
  clean_arg : (s : ℕ → Status) (a : Value) → ((x : ℕ) → used_up a (Own x) ≤ held (s x)) → CleanValue s a
  clean_arg s (Named x) h = may_use (s x) (let e = one_same x in let g = h x in omega arith)
  clean_arg s Scalar h = tt
  clean_arg s (Built as') h = clean_args s as' (λ x. let g = h x in omega arith)

  clean_args : (s : ℕ → Status) (as' : Values) → ((x : ℕ) → all_used_up as' (Own x) ≤ held (s x)) → CleanValues s as'
  clean_args s NoValues h = tt
  clean_args s (MoreValues a as') h = (clean_arg s a (λ x. let g = h x in omega arith), clean_args (λ x. after (s x) (used_up a (Own x))) as' (λ x. held_after (s x) (used_up a (Own x)) (all_used_up as' (Own x)) (h x)))

lends_well : (B : ℕ → Bool) (s : ℕ → Status) (a : Value) → ((x : ℕ) → B x ≡ true → visible (s x) ≡ true) → Lends B a → LendsWell s a
lends_well B s (Named x) v h = may_lend (s x) (v x h)
lends_well B s Scalar v h = tt
lends_well B s (Built as') v h = absurd h

clean_gifts : (fip : Bool) (B : ℕ → Bool) (O : Item → ℕ) (s : ℕ → Status) (gs : Passed) → DerivesPassed fip B O gs → ((x : ℕ) → B x ≡ true → visible (s x) ≡ true) → ((x : ℕ) → passed_used_up gs (Own x) ≤ held (s x)) → CleanPassed s gs
clean_gifts fip B O s (Header header) d v h = tt
clean_gifts fip B O s (PassLent a gs) d v h = (lends_well B s a v d.0, clean_gifts fip B O s gs d.1 v (λ x. let g = h x in omega arith))
clean_gifts fip B O s (PassOwned a gs) d v h = (
  clean_arg s a (λ x. let g = h x in omega arith),
  clean_gifts fip B d.1 (λ x. after (s x) (used_up a (Own x))) gs d.4
      (λ x b. visible_after (s x) (used_up a (Own x)) (let g = h x in omega arith) (v x b))
      (λ x. held_after (s x) (used_up a (Own x)) (passed_used_up gs (Own x)) (h x)),
)

-- pointwise, at a binder or not
seen_in : (b : Bool) (c own : Bool) (t : Bool) (s : Status) → (own ≡ true → c ≡ false) → (t ≡ true → visible s ≡ true) → (if b then c else t) ≡ true → visible (if b then fresh own else s) ≡ true
seen_in true c true t s f g h = let e : c ≡ false = f refl in absurd (cc)
seen_in true c false t s f g h = refl
seen_in false c own t s f g h = g h

room_in : (b own : Bool) (q r : ℕ) (s : Status) → (b ≡ true → q ≡ worth own) → (b ≡ false → q ≤ r) → r ≤ room s → q ≤ room (if b then fresh own else s)
room_in true true q r s f g h = let e : q ≡ 1 = f refl in omega arith
room_in true false q r s f g h = let e : q ≡ 0 = f refl in omega arith
room_in false own q r s f g h = let e : q ≤ r = g refl in omega arith

held_in : (b own : Bool) (n q : ℕ) (s : Status) → (b ≡ true → q ≡ worth own) → n ≤ q → (if b then 0 else n) ≤ held s → n ≤ held (if b then fresh own else s)
held_in true true n q s f g h = let e : q ≡ 1 = f refl in omega arith
held_in true false n q s f g h = let e : q ≡ 0 = f refl in omega arith
held_in false own n q s f g h = h

lent_seen : (t : Bool) (r m : ℕ) (s : Status) → (t ≡ true → visible s ≡ true) → m + r ≤ room s → (t || nat_lt 0 r) ≡ true → visible (lent s m) ≡ true
lent_seen true r m s f g h = visible_lent s m (f refl)
lent_seen false r m s f g h = visible_kept s m r g (grind (arith, nat_tests))

-- what stays true of a clause
module _ (fip own : Bool) (ys ks : List ℕ) (B : ℕ → Bool) (R Q : Item → ℕ) (s : ℕ → Status) (o : Opens fip own ys ks R Q) where
  clause_room : ((x : ℕ) → R (Own x) ≤ room (s x)) → (x : ℕ) → Q (Own x) ≤ room (binding ys own s x)
  clause_room h x = room_in (has ys x) own (Q (Own x)) (R (Own x)) (s x) (o.bound x) (λ e. fits_le fip (R (Own x)) (Q (Own x)) (o.others x e)) (h x)

  clause_held : (e : Term) → ((x : ℕ) → asks (Own x) e ≤ Q (Own x)) → ((x : ℕ) → outside ys [] (Own x) (asks (Own x) e) ≤ held (s x)) → (x : ℕ) → asks (Own x) e ≤ held (binding ys own s x)
  clause_held e g h x = held_in (has ys x) own (asks (Own x) e) (Q (Own x)) (s x) (o.bound x) (g x) (h x)

all_used : (fip : Bool) (B : ℕ → Bool) (ys ks : List ℕ) (R Q : Item → ℕ) (e : Term) → Opens fip true ys ks R Q → Derives fip B Q e → AllUsed fip ys e
all_used true B ys ks R Q e o d = λ x h. let a : Q (Own x) ≡ 1 = o.bound x h in let b = few B Q e d x in omega arith
all_used false B ys ks R Q e o d = tt

owned_apart : true ≡ true → false ≡ false
owned_apart h = refl

mutual
  pub clean : (fip : Bool) (B : ℕ → Bool) (O : Item → ℕ) (s : ℕ → Status) (e : Term) → Derives fip B O e → ((x : ℕ) → B x ≡ true → visible (s x) ≡ true) → ((x : ℕ) → O (Own x) ≤ room (s x)) → ((x : ℕ) → asks (Own x) e ≤ held (s x)) → Clean fip s e
  clean fip B O s (Results as') d v r h = clean_args s as' h
  clean fip B O s (Call ok gs) d v r h = (d.0, clean_gifts fip B O s gs d.1 v h)
  clean fip B O s (Let xs a b) d v r h =
      let part : (x : ℕ) → d.0 (Own x) + d.1 (Own x) ≤ room (s x) = λ x. let f = fits_le fip (O (Own x)) (d.0 (Own x) + d.1 (Own x)) (d.3 (Own x)) in let g = r x in omega arith in
      let la : (x : ℕ) → asks (Own x) a ≤ d.0 (Own x) = λ x. asks_le fip (lending B d.1) d.0 a d.5 (Own x) in
      let lb : (x : ℕ) → asks (Own x) b ≤ d.2 (Own x) = λ x. asks_le fip (setting xs false B) d.2 b d.6 (Own x) in
      let lo : (x : ℕ) → asks (Own x) a + outside xs [] (Own x) (asks (Own x) b) ≤ held (s x) = λ x. h x in (
        clean fip (lending B d.1) d.0 (λ x. lent (s x) (asks (Own x) a)) a d.5
            (λ x. lent_seen (B x) (d.1 (Own x)) (asks (Own x) a) (s x) (v x) (let f = part x in let g = la x in omega arith))
            (λ x. room_lent (s x) (asks (Own x) a) (d.0 (Own x)) (let f = part x in omega arith))
            (λ x. held_lent (s x) (asks (Own x) a) (let f = lo x in omega arith)),
        all_used fip (setting xs false B) xs [] d.1 d.2 b d.4 d.6,
        clean fip (setting xs false B) d.2 (binding xs true (λ x. after (s x) (asks (Own x) a))) b d.6
            (λ x. seen_in (has xs x) false true (B x) (after (s x) (asks (Own x) a)) (λ e. refl) (λ e. visible_after (s x) (asks (Own x) a) (let f = lo x in omega arith) (v x e)))
            (clause_room fip true xs [] B d.1 d.2 (λ x. after (s x) (asks (Own x) a)) d.4 (λ x. room_after (s x) (asks (Own x) a) (d.1 (Own x)) (let f = part x in let g = la x in omega arith)))
            (clause_held fip true xs [] B d.1 d.2 (λ x. after (s x) (asks (Own x) a)) d.4 b lb (λ x. held_after (s x) (asks (Own x) a) (outside xs [] (Own x) (asks (Own x) b)) (lo x))),
      )
  clean fip B O s (Match a cs) d v r h = (lends_well B s a v d.0, clean_lent fip B O s cs d.1 v r (λ x. let g = h x in omega arith))
  clean fip B O s (Take a cs) d v r h =
      let part : (y : ℕ) → used_up a (Own y) + d.1 (Own y) ≤ room (s y) = λ y. let f = fits_le fip (O (Own y)) (d.0 (Own y) + d.1 (Own y)) (d.2 (Own y)) in let e = fits_le fip (d.0 (Own y)) (used_up a (Own y)) (arg_fits fip d.0 a d.3 (Own y)) in let g = r y in omega arith in
      let lo : (y : ℕ) → used_up a (Own y) + asks_taken (Own y) cs ≤ held (s y) = λ y. h y in (
        clean_arg s a (λ y. let g = lo y in omega arith),
        clean_taken fip B d.1 (λ y. after (s y) (used_up a (Own y))) cs d.4
            (λ y e. visible_after (s y) (used_up a (Own y)) (let f = lo y in omega arith) (v y e))
            (λ y. room_after (s y) (used_up a (Own y)) (d.1 (Own y)) (part y))
            (λ y. held_after (s y) (used_up a (Own y)) (asks_taken (Own y) cs) (lo y)),
      )

  clean_lent : (fip : Bool) (B : ℕ → Bool) (O : Item → ℕ) (s : ℕ → Status) (cs : Clauses) → DerivesLent fip B O cs → ((x : ℕ) → B x ≡ true → visible (s x) ≡ true) → ((x : ℕ) → O (Own x) ≤ room (s x)) → ((x : ℕ) → asks_lent (Own x) cs ≤ held (s x)) → CleanLent fip s cs
  clean_lent fip B O s (LastClause ys ks e) d v r h =
      clean fip (setting ys true B) d.0 (binding ys false s) e d.2
      (λ x. seen_in (has ys x) true false (B x) (s x) (λ e. absurd (cc)) (v x))
      (clause_room fip false ys [] B O d.0 s d.1 r)
      (clause_held fip false ys [] B O d.0 s d.1 e (λ x. asks_le fip (setting ys true B) d.0 e d.2 (Own x)) h)
  clean_lent fip B O s (MoreClauses ys ks e cs) d v r h =
      let lo : (x : ℕ) → max (outside ys [] (Own x) (asks (Own x) e)) (asks_lent (Own x) cs) ≤ held (s x) = h in (
        clean fip (setting ys true B) d.0 (binding ys false s) e d.2
            (λ x. seen_in (has ys x) true false (B x) (s x) (λ e. absurd (cc)) (v x))
            (clause_room fip false ys [] B O d.0 s d.1 r)
            (clause_held fip false ys [] B O d.0 s d.1 e (λ x. asks_le fip (setting ys true B) d.0 e d.2 (Own x)) (λ x. let g = lo x in omega arith)),
        clean_lent fip B O s cs d.3 v r (λ x. let g = lo x in omega arith),
      )

  clean_taken : (fip : Bool) (B : ℕ → Bool) (R : Item → ℕ) (s : ℕ → Status) (cs : Clauses) → DerivesTaken fip B R cs → ((x : ℕ) → B x ≡ true → visible (s x) ≡ true) → ((x : ℕ) → R (Own x) ≤ room (s x)) → ((x : ℕ) → asks_taken (Own x) cs ≤ held (s x)) → CleanTaken fip s cs
  clean_taken fip B R s (LastClause ys ks e) d v r h = (
    all_used fip (setting ys false B) ys ks R d.0 e d.1 d.2,
    clean fip (setting ys false B) d.0 (binding ys true s) e d.2
        (λ x. seen_in (has ys x) false true (B x) (s x) (λ e. refl) (v x))
        (clause_room fip true ys ks B R d.0 s d.1 r)
        (clause_held fip true ys ks B R d.0 s d.1 e (λ x. asks_le fip (setting ys false B) d.0 e d.2 (Own x)) h),
  )
  clean_taken fip B R s (MoreClauses ys ks e cs) d v r h =
      let lo : (x : ℕ) → max (outside ys [] (Own x) (asks (Own x) e)) (asks_taken (Own x) cs) ≤ held (s x) = h in (
        all_used fip (setting ys false B) ys ks R d.0 e d.1 d.2,
        clean fip (setting ys false B) d.0 (binding ys true s) e d.2
            (λ x. seen_in (has ys x) false true (B x) (s x) (λ e. refl) (v x))
            (clause_room fip true ys ks B R d.0 s d.1 r)
            (clause_held fip true ys ks B R d.0 s d.1 e (λ x. asks_le fip (setting ys false B) d.0 e d.2 (Own x)) (λ x. let g = lo x in omega arith)),
        clean_taken fip B R s cs d.3 v r (λ x. let g = lo x in omega arith),
      )
