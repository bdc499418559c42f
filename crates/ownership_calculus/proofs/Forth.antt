-- What breaks no rule is derived.
use Rattle.std.proofs.Common.{◌≡◌, ℕ, zero, suc, ◌+◌, ◌-◌, ◌≤◌, ◌⊎◌, inl, inr, refl, sym, subst, ◌∙◌, List, [], Bool, true, false, not, arith}
use Rattle.std.specs.Prelude.{max, min, nat_lt, ◌||◌, if◌then◌else◌}
use Rattle.std.proofs.lemmas.Bool.Decides.{nat_tests}
use Rattle.ownership_calculus.specs.Terms.{given, Value, Values, Named, Scalar, Built, NoValues, MoreValues, Passed, Header, PassLent, PassOwned, Term, Clauses, Results, Call, Let, Match, Take, LastClause, MoreClauses, Item, Own, Credit, has, one, size, paid}
use Rattle.ownership_calculus.specs.Rules.{Fits, worth, lending, setting, Lends}
use Rattle.ownership_calculus.specs.ByCases.{Opens, DerivesValue, DerivesValues, DerivesPassed, Derives, DerivesLent, DerivesTaken}
use Rattle.ownership_calculus.specs.Clean.{used_up, all_used_up, lent_used_up, passed_used_up, outside, asks, asks_lent, asks_taken, fewest, fewest_of, Status, Free, Owned, fresh, after, lent, binding, MayUse, MayLend, LendsWell, CleanValue, CleanValues, CleanPassed, AllUsed, Clean, CleanLent, CleanTaken, Even, EvenLent, EvenTaken}
use Rattle.ownership_calculus.proofs.Fit.{held, room, visible, fits_le, fits_same, held_after, held_lent}
use Rattle.ownership_calculus.proofs.Counts.{even_lent_same as lent_alike, even_taken_same as taken_alike}

-- the environment that statuses and needs make
abbrev hold : (ℕ → Status) → (ℕ → ℕ) → Item → ℕ
hold s c (Own x) = held (s x)
hold s c (Credit k) = c k

-- pointwise
one_apart : (x y : ℕ) → ((x ≡ y) × (one x y ≡ 1)) ⊎ (one x y ≡ 0)
one_apart x y = grind (arith, nat_tests)

room_use : (s : Status) → MayUse s → 1 ≤ room s
room_use Free h = absurd h
room_use (Owned true l) h = absurd h
room_use (Owned false l) h = omega arith

one_room : (s : ℕ → Status) (x y : ℕ) → MayUse (s x) → one x y ≤ room (s y)
one_room s x y h = elim (one_apart x y) [
  | inl e ↦ let g : 1 ≤ room (s y) = subst (λ z. 1 ≤ room (s z)) e.0 (room_use (s x) h) in let f = e.1 in omega arith
  | inr e ↦ omega arith
]

room_sum : (s : Status) (m n : ℕ) → m ≤ room s → n ≤ room (after s m) → m + n ≤ room s
room_sum s zero n h g = omega arith
room_sum Free (suc m) n h g = omega arith
room_sum (Owned true l) (suc m) n h g = omega arith
room_sum (Owned false l) (suc m) n h g = omega arith

room_lent_back : (s : Status) (m p : ℕ) → p ≤ room (lent s m) → p ≤ room s
room_lent_back s (suc m) p h = h
room_lent_back Free zero p h = h
room_lent_back (Owned true l) zero p h = h
room_lent_back (Owned false l) zero p h = h

room_out : (b own : Bool) (n : ℕ) (s : Status) → n ≤ room (if b then fresh own else s) → (if b then 0 else n) ≤ room s
room_out true own n s h = omega arith
room_out false own n s h = h

held_split : (s : Status) (m : ℕ) → held (lent s m) + held (after s m) ≡ held s
held_split Free zero = refl
held_split (Owned true l) zero = refl
held_split (Owned false true) zero = refl
held_split (Owned false false) zero = refl
held_split Free (suc m) = refl
held_split (Owned true l) (suc m) = refl
held_split (Owned false true) (suc m) = refl
held_split (Owned false false) (suc m) = refl

pub use_split : (s : Status) (m : ℕ) → m ≤ held s → m + held (after s m) ≡ held s
use_split s zero h = omega arith
use_split Free (suc m) h = absurd (omega arith)
use_split (Owned true l) (suc m) h = absurd (omega arith)
use_split (Owned false true) (suc m) h = absurd (omega arith)
use_split (Owned false false) (suc m) h = omega arith

pub after_used : (s : Status) (m : ℕ) → held (after s (suc m)) ≡ 0
after_used Free m = refl
after_used (Owned u l) m = refl

pub lent_unused : (s : Status) → held (lent s zero) ≡ 0
lent_unused Free = refl
lent_unused (Owned true l) = refl
lent_unused (Owned false l) = refl

pub seen_back : (s : Status) (m : ℕ) → visible (after s m) ≡ true → visible s ≡ true
seen_back s zero h = h
seen_back Free (suc m) h = refl
seen_back (Owned u l) (suc m) h = absurd (cc)

lent_back : (s : Status) (m : ℕ) → visible (lent s m) ≡ true → (visible s ≡ true) ⊎ (1 ≤ held (after s m))
lent_back s (suc m) h = inl h
lent_back Free zero h = inl refl
lent_back (Owned true l) zero h = absurd (cc)
lent_back (Owned false true) zero h = inl refl
lent_back (Owned false false) zero h = inr (omega arith)

or_left : (t : Bool) (r : ℕ) → t ≡ true → (t || nat_lt 0 r) ≡ true
or_left true r h = refl
or_left false r h = absurd (cc)

or_right : (t : Bool) (r : ℕ) → 1 ≤ r → (t || nat_lt 0 r) ≡ true
or_right true r h = refl
or_right false r h = grind (arith, nat_tests)

lend_seen : (t : Bool) (s : Status) (m : ℕ) → (visible s ≡ true → t ≡ true) → visible (lent s m) ≡ true → (t || nat_lt 0 (held (after s m))) ≡ true
lend_seen t s m f h = elim (lent_back s m h) [ inl g ↦ or_left t (held (after s m)) (f g) | inr g ↦ or_right t (held (after s m)) g ]

fits_between : (fip : Bool) (o h n f : ℕ) → Fits fip o h → (fip ≡ true → h ≤ f) → n ≤ h → f ≡ n → Fits fip o n
fits_between true o h n f a b c e = let g : h ≤ f = b refl in omega arith
fits_between false o h n f a b c e = omega arith

fits_more : (fip : Bool) (o n m : ℕ) → n ≡ m → Fits fip o n → Fits fip o m
fits_more true o n m e h = omega arith
fits_more false o n m e h = omega arith

-- arguments
mutual
  fits_arg : (fip : Bool) (O : Item → ℕ) (a : Value) → ((i : Item) → Fits fip (O i) (used_up a i)) → DerivesValue fip O a
  fits_arg fip O (Named x) h = h
  fits_arg fip O Scalar h = h
  fits_arg fip O (Built as') h = (all_used_up as', h, fits_args fip (all_used_up as') as' (λ i. fits_same fip (all_used_up as' i)))

  fits_args : (fip : Bool) (O : Item → ℕ) (as' : Values) → ((i : Item) → Fits fip (O i) (all_used_up as' i)) → DerivesValues fip O as'
  fits_args fip O NoValues h = h
  fits_args fip O (MoreValues a as') h = (used_up a, all_used_up as', h, fits_arg fip (used_up a) a (λ i. fits_same fip (used_up a i)), fits_args fip (all_used_up as') as' (λ i. fits_same fip (all_used_up as' i)))

seen : (t : Status) → MayLend t → visible t ≡ true
seen Free h = refl
seen (Owned false true) h = refl
seen (Owned false false) h = absurd h
seen (Owned true l) h = absurd h

pub paid_own : (n x : ℕ) → paid n (Own x) ≡ 0
paid_own zero x = refl
paid_own (suc n) x = refl

lends : (B : ℕ → Bool) (s : ℕ → Status) (a : Value) → ((x : ℕ) → visible (s x) ≡ true → B x ≡ true) → LendsWell s a → Lends B a
lends B s (Named x) v h = v x (seen (s x) h)
lends B s Scalar v h = tt
lends B s (Built as') v h = absurd h

lent_none : (s : ℕ → Status) (a : Value) → LendsWell s a → (i : Item) → lent_used_up a i ≡ 0
lent_none s (Named x) h i = refl
lent_none s Scalar h i = refl
lent_none s (Built as') h i = absurd h

fits_gifts : (fip : Bool) (B : ℕ → Bool) (O : Item → ℕ) (s : ℕ → Status) (gs : Passed) → ((x : ℕ) → visible (s x) ≡ true → B x ≡ true) → CleanPassed s gs → ((i : Item) → Fits fip (O i) (passed_used_up gs i)) → DerivesPassed fip B O gs
fits_gifts fip B O s (Header header) v c h = h
fits_gifts fip B O s (PassLent a gs) v c h = (lends B s a v c.0, fits_gifts fip B O s gs v c.1 (λ i. let z = lent_none s a c.0 i in fits_more fip (O i) (lent_used_up a i + passed_used_up gs i) (passed_used_up gs i) (omega arith) (h i)))
fits_gifts fip B O s (PassOwned a gs) v c h = (
  used_up a,
  passed_used_up gs,
  h,
  fits_arg fip (used_up a) a (λ i. fits_same fip (used_up a i)),
  fits_gifts fip B (passed_used_up gs) (λ x. after (s x) (used_up a (Own x))) gs (λ x e. v x (seen_back (s x) (used_up a (Own x)) e)) c.1 (λ i. fits_same fip (passed_used_up gs i)),
)

-- what is clean requires no more than there is room
mutual
  arg_room : (s : ℕ → Status) (a : Value) → CleanValue s a → (x : ℕ) → used_up a (Own x) ≤ room (s x)
  arg_room s (Named y) c x = one_room s y x c
  arg_room s Scalar c x = omega arith
  arg_room s (Built as') c x = let g = args_room s as' c x in let p = paid_own (size as') x in omega arith

  args_room : (s : ℕ → Status) (as' : Values) → CleanValues s as' → (x : ℕ) → all_used_up as' (Own x) ≤ room (s x)
  args_room s NoValues c x = omega arith
  args_room s (MoreValues a as') c x = room_sum (s x) (used_up a (Own x)) (all_used_up as' (Own x)) (arg_room s a c.0 x) (args_room (λ x. after (s x) (used_up a (Own x))) as' c.1 x)

gifts_room : (s : ℕ → Status) (gs : Passed) → CleanPassed s gs → (x : ℕ) → passed_used_up gs (Own x) ≤ room (s x)
gifts_room s (Header header) c x = omega arith
gifts_room s (PassLent a gs) c x = let z = lent_none s a c.0 (Own x) in let g = gifts_room s gs c.1 x in omega arith
gifts_room s (PassOwned a gs) c x = room_sum (s x) (used_up a (Own x)) (passed_used_up gs (Own x)) (arg_room s a c.0 x) (gifts_room (λ x. after (s x) (used_up a (Own x))) gs c.1 x)

mutual
  pub clean_room : (fip : Bool) (s : ℕ → Status) (e : Term) → Clean fip s e → (x : ℕ) → asks (Own x) e ≤ room (s x)
  clean_room fip s (Results as') c x = args_room s as' c x
  clean_room fip s (Call ok gs) c x = gifts_room s gs c.1 x
  clean_room fip s (Let xs a b) c x =
      room_sum (s x) (asks (Own x) a) (outside xs [] (Own x) (asks (Own x) b))
      (room_lent_back (s x) (asks (Own x) a) (asks (Own x) a) (clean_room fip (λ x. lent (s x) (asks (Own x) a)) a c.0 x))
      (room_out (has xs x) true (asks (Own x) b) (after (s x) (asks (Own x) a)) (clean_room fip (binding xs true (λ x. after (s x) (asks (Own x) a))) b c.2 x))
  clean_room fip s (Match a cs) c x = let z = lent_none s a c.0 (Own x) in let g = clean_room_lent fip s cs c.1 x in omega arith
  clean_room fip s (Take a cs) c x = room_sum (s x) (used_up a (Own x)) (asks_taken (Own x) cs) (arg_room s a c.0 x) (clean_room_taken fip (λ z. after (s z) (used_up a (Own z))) cs c.1 x)

  clean_room_lent : (fip : Bool) (s : ℕ → Status) (cs : Clauses) → CleanLent fip s cs → (x : ℕ) → asks_lent (Own x) cs ≤ room (s x)
  clean_room_lent fip s (LastClause ys ks e) c x = room_out (has ys x) false (asks (Own x) e) (s x) (clean_room fip (binding ys false s) e c x)
  clean_room_lent fip s (MoreClauses ys ks e cs) c x = let l = room_out (has ys x) false (asks (Own x) e) (s x) (clean_room fip (binding ys false s) e c.0 x) in let r = clean_room_lent fip s cs c.1 x in omega arith

  clean_room_taken : (fip : Bool) (s : ℕ → Status) (cs : Clauses) → CleanTaken fip s cs → (x : ℕ) → asks_taken (Own x) cs ≤ room (s x)
  clean_room_taken fip s (LastClause ys ks e) c x = room_out (has ys x) true (asks (Own x) e) (s x) (clean_room fip (binding ys true s) e c.1 x)
  clean_room_taken fip s (MoreClauses ys ks e cs) c x = let l = room_out (has ys x) true (asks (Own x) e) (s x) (clean_room fip (binding ys true s) e c.1 x) in let r = clean_room_taken fip s cs c.2 x in omega arith

outside_mono : (b : Bool) (m n : ℕ) → m ≤ n → (if b then 0 else m) ≤ (if b then 0 else n)
outside_mono true m n h = omega arith
outside_mono false m n h = h

mutual
  fewest_le : (e : Term) (x : ℕ) → fewest x e ≤ asks (Own x) e
  fewest_le (Results as') x = omega arith
  fewest_le (Call ok gs) x = omega arith
  fewest_le (Let xs a b) x = let l = fewest_le a x in let r = outside_mono (has xs x) (fewest x b) (asks (Own x) b) (fewest_le b x) in omega arith
  fewest_le (Match a cs) x = let h = fewest_le_lent cs x in omega arith
  fewest_le (Take y cs) x = let h = fewest_le_taken cs x in omega arith

  fewest_le_lent : (cs : Clauses) (x : ℕ) → fewest_of x cs ≤ asks_lent (Own x) cs
  fewest_le_lent (LastClause ys ks e) x = outside_mono (has ys x) (fewest x e) (asks (Own x) e) (fewest_le e x)
  fewest_le_lent (MoreClauses ys ks e cs) x = let l = outside_mono (has ys x) (fewest x e) (asks (Own x) e) (fewest_le e x) in let r = fewest_le_lent cs x in omega arith

  fewest_le_taken : (cs : Clauses) (x : ℕ) → fewest_of x cs ≤ asks_taken (Own x) cs
  fewest_le_taken (LastClause ys ks e) x = outside_mono (has ys x) (fewest x e) (asks (Own x) e) (fewest_le e x)
  fewest_le_taken (MoreClauses ys ks e cs) x = let l = outside_mono (has ys x) (fewest x e) (asks (Own x) e) (fewest_le e x) in let r = fewest_le_taken cs x in omega arith

-- pointwise, at a binder or not
bound_at : (b own : Bool) (s : Status) → b ≡ true → held (if b then fresh own else s) ≡ worth own
bound_at true true s e = refl
bound_at true false s e = refl
bound_at false own s e = absurd (cc)

other_at : (b own : Bool) (s : Status) → b ≡ false → held (if b then fresh own else s) ≡ held s
other_at true own s e = absurd (cc)
other_at false own s e = refl

hidden_at : (fip b : Bool) (r h f : ℕ) → Fits fip r h → (fip ≡ true → h ≤ (if b then 0 else f)) → b ≡ true → Fits fip r 0
hidden_at true true r h f e g i = let k : h ≤ 0 = g refl in omega arith
hidden_at true false r h f e g i = absurd (cc)
hidden_at false b r h f e g i = omega arith

pub few_at : (b own : Bool) (s : Status) (f : ℕ) → (own ≡ true → b ≡ true → 1 ≤ f) → held s ≤ (if b then 0 else f) → held (if b then fresh own else s) ≤ f
few_at true true s f g h = g refl refl
few_at true false s f g h = omega arith
few_at false own s f g h = h

pub asks_at : (b own : Bool) (n : ℕ) (s : Status) → n ≤ room (if b then fresh own else s) → (if b then 0 else n) ≤ held s → n ≤ held (if b then fresh own else s)
asks_at true true n s h g = h
asks_at true false n s h g = h
asks_at false own n s h g = g

seen_at : (b own t : Bool) (s : Status) → (visible s ≡ true → t ≡ true) → visible (if b then fresh own else s) ≡ true → (if b then not own else t) ≡ true
seen_at true true t s f h = absurd (cc)
seen_at true false t s f h = refl
seen_at false own t s f h = f h

opens : (fip own : Bool) (ys ks : List ℕ) (R : Item → ℕ) (s : ℕ → Status) (c f : ℕ → ℕ) → ((y : ℕ) → Fits fip (R (Own y)) (held (s y))) → (fip ≡ true → (y : ℕ) → held (s y) ≤ outside ys [] (Own y) (f y)) → ((k : ℕ) → Fits fip (R (Credit k) + given k ks) (c k)) → Opens fip own ys ks R (hold (binding ys own s) c)
opens fip own ys ks R s c f h g e = record {
  bound = λ y i. bound_at (has ys y) own (s y) i;
  hidden = λ y i. hidden_at fip (has ys y) (R (Own y)) (held (s y)) (f y) (h y) (λ t. g t y) i;
  others = λ y i. fits_more fip (R (Own y)) (held (s y)) (held (binding ys own s y)) (sym (other_at (has ys y) own (s y) i)) (h y);
  credits = e;
}

pub all_used_at : (fip : Bool) (ys : List ℕ) (e : Term) → AllUsed fip ys e → fip ≡ true → (x : ℕ) → has ys x ≡ true → 1 ≤ fewest x e
all_used_at true ys e h k = h
all_used_at false ys e h k = absurd (cc)

credits_at : (fip : Bool) (o g n : ℕ) → (fip ≡ true → (g ≤ n) × (n - g ≡ o)) → (fip ≡ false → n - g ≤ o) → Fits fip (o + g) n
credits_at true o g n f h = let e = f refl in let a : g ≤ n = e.0 in let b : n - g ≡ o = e.1 in omega arith
credits_at false o g n f h = let e : n - g ≤ o = h refl in omega arith

pub fits_eq : (fip : Bool) (o n : ℕ) → Fits fip o n → fip ≡ true → o ≡ n
fits_eq true o n h e = h
fits_eq false o n h e = absurd (cc)

pub lent_few : (s : Status) (m fa fb nb : ℕ) → fa ≤ m → fb ≤ nb → m + nb ≤ held s → held s ≤ fa + fb → held (lent s m) ≤ fa
lent_few s zero fa fb nb h g i j = let z = lent_unused s in omega arith
lent_few s (suc m) fa fb nb h g i j = let p = held_after s (suc m) nb i in let q = after_used s m in omega arith

pub after_few : (s : Status) (m fa fb : ℕ) → fa ≤ m → held s ≤ fa + fb → held (after s m) ≤ fb
after_few s zero fa fb h j = omega arith
after_few s (suc m) fa fb h j = let q = after_used s m in omega arith

both : (O : Item → ℕ) (s : ℕ → Status) (n : Item → ℕ) (fip : Bool) → ((x : ℕ) → Fits fip (O (Own x)) (held (s x))) → (fip ≡ true → (x : ℕ) → held (s x) ≤ n (Own x)) → ((x : ℕ) → n (Own x) ≤ held (s x)) → ((k : ℕ) → Fits fip (O (Credit k)) (n (Credit k))) → (i : Item) → Fits fip (O i) (n i)
both O s n fip ho hf ha hc (Own x) = fits_between fip (O (Own x)) (held (s x)) (n (Own x)) (n (Own x)) (ho x) (λ k. hf k x) (ha x) refl
both O s n fip ho hf ha hc (Credit k) = hc k

let_sum : (fip : Bool) (O : Item → ℕ) (s : ℕ → Status) (m : ℕ → ℕ) (p q : ℕ → ℕ) → ((x : ℕ) → Fits fip (O (Own x)) (held (s x))) → ((k : ℕ) → Fits fip (O (Credit k)) (p k + (q k - 0))) → (i : Item) → Fits fip (O i) (hold (λ x. lent (s x) (m x)) p i + hold (λ x. after (s x) (m x)) (λ k. q k - 0) i)
let_sum fip O s m p q ho hc (Own x) = fits_more fip (O (Own x)) (held (s x)) (held (lent (s x) (m x)) + held (after (s x) (m x))) (sym (held_split (s x) (m x))) (ho x)
let_sum fip O s m p q ho hc (Credit k) = hc k

take_sum : (fip : Bool) (O : Item → ℕ) (s : ℕ → Status) (a : Value) (m : ℕ → ℕ) → ((y : ℕ) → used_up a (Own y) + held (after (s y) (used_up a (Own y))) ≡ held (s y)) → ((y : ℕ) → Fits fip (O (Own y)) (held (s y))) → ((k : ℕ) → Fits fip (O (Credit k)) (used_up a (Credit k) + m k)) → (i : Item) → Fits fip (O i) (used_up a i + hold (λ y. after (s y) (used_up a (Own y))) m i)
take_sum fip O s a m e ho hc (Own y) = fits_more fip (O (Own y)) (held (s y)) (used_up a (Own y) + held (after (s y) (used_up a (Own y)))) (sym (e y)) (ho y)
take_sum fip O s a m e ho hc (Credit k) = hc k

mutual
  pub derive : (fip : Bool) (B : ℕ → Bool) (O : Item → ℕ) (s : ℕ → Status) (e : Term) → ((x : ℕ) → visible (s x) ≡ true → B x ≡ true) → ((x : ℕ) → Fits fip (O (Own x)) (held (s x))) → (fip ≡ true → (x : ℕ) → held (s x) ≤ fewest x e) → ((x : ℕ) → asks (Own x) e ≤ held (s x)) → ((k : ℕ) → Fits fip (O (Credit k)) (asks (Credit k) e)) → Clean fip s e → (fip ≡ true → Even e) → Derives fip B O e
  derive fip B O s (Results as') v ho hf ha hc c ev = fits_args fip O as' (both O s (all_used_up as') fip ho hf ha hc)
  derive fip B O s (Call ok gs) v ho hf ha hc c ev = (c.0, fits_gifts fip B O s gs v c.1 (both O s (passed_used_up gs) fip ho hf ha hc))
  derive fip B O s (Let xs a b) v ho hf ha hc c ev =
      let t : ℕ → Status = λ x. after (s x) (asks (Own x) a) in
      let u : ℕ → Status = λ x. lent (s x) (asks (Own x) a) in
      let P : Item → ℕ = hold u (λ k. asks (Credit k) a) in
      let R : Item → ℕ = hold t (λ k. asks (Credit k) b - 0) in
      let Q : Item → ℕ = hold (binding xs true t) (λ k. asks (Credit k) b) in
      let la : (x : ℕ) → asks (Own x) a + outside xs [] (Own x) (asks (Own x) b) ≤ held (s x) = ha in
      let ft : fip ≡ true → (x : ℕ) → held (t x) ≤ outside xs [] (Own x) (fewest x b) = λ k x. after_few (s x) (asks (Own x) a) (fewest x a) (outside xs [] (Own x) (fewest x b)) (fewest_le a x) (hf k x) in
      let sum : (i : Item) → Fits fip (O i) (P i + R i) = λ i. let_sum fip O s (λ x. asks (Own x) a) (λ k. asks (Credit k) a) (λ k. asks (Credit k) b) ho hc i in
      let o : Opens fip true xs [] R Q = opens fip true xs [] R t (λ k. asks (Credit k) b) (λ x. fewest x b) (λ y. fits_same fip (held (t y))) ft (λ k. fits_more fip (asks (Credit k) b - 0 + 0) (asks (Credit k) b - 0 + 0) (asks (Credit k) b) (omega arith) (fits_same fip (asks (Credit k) b - 0 + 0))) in (
        P,
        R,
        Q,
        sum,
        o,
        derive fip (lending B R) P u a
            (λ x. lend_seen (B x) (s x) (asks (Own x) a) (v x))
            (λ x. fits_same fip (held (u x)))
            (λ k x. lent_few (s x) (asks (Own x) a) (fewest x a) (outside xs [] (Own x) (fewest x b)) (outside xs [] (Own x) (asks (Own x) b)) (fewest_le a x) (outside_mono (has xs x) (fewest x b) (asks (Own x) b) (fewest_le b x)) (la x) (hf k x))
            (λ x. held_lent (s x) (asks (Own x) a) (let g = la x in omega arith))
            (λ k. fits_same fip (asks (Credit k) a))
            c.0 (λ k. (ev k).0),
        derive fip (setting xs false B) Q (binding xs true t) b
            (λ x. seen_at (has xs x) true (B x) (t x) (λ g. v x (seen_back (s x) (asks (Own x) a) g)))
            (λ x. fits_same fip (held (binding xs true t x)))
            (λ k x. few_at (has xs x) true (t x) (fewest x b) (λ i. all_used_at fip xs b c.1 k x) (ft k x))
            (λ x. asks_at (has xs x) true (asks (Own x) b) (t x) (clean_room fip (binding xs true t) b c.2 x) (held_after (s x) (asks (Own x) a) (outside xs [] (Own x) (asks (Own x) b)) (la x)))
            (λ k. fits_same fip (asks (Credit k) b))
            c.2 (λ k. (ev k).1),
      )
  derive fip B O s (Match a cs) v ho hf ha hc c ev = (
    lends B s a v c.0,
    derive_lent fip B O s cs v ho
        (λ k x. let z = lent_none s a c.0 (Own x) in let g = hf k x in omega arith)
        (λ x. let g = ha x in omega arith)
        (λ k. let z = lent_none s a c.0 (Credit k) in let g = fits_le fip (O (Credit k)) (lent_used_up a (Credit k) + asks_lent (Credit k) cs) (hc k) in omega arith)
        c.1
        (λ t. lent_alike (λ k. asks_lent (Credit k) cs) (λ k. O (Credit k)) cs (λ k. let z = lent_none s a c.0 (Credit k) in let g = fits_eq fip (O (Credit k)) (lent_used_up a (Credit k) + asks_lent (Credit k) cs) (hc k) t in omega arith) (ev t)),
  )
  derive fip B O s (Take a cs) v ho hf ha hc c ev =
      let t : ℕ → Status = λ y. after (s y) (used_up a (Own y)) in
      let R : Item → ℕ = hold t (λ k. asks_taken (Credit k) cs) in
      let la : (y : ℕ) → used_up a (Own y) + asks_taken (Own y) cs ≤ held (s y) = ha in
      let split : (y : ℕ) → used_up a (Own y) + held (t y) ≡ held (s y) = λ y. use_split (s y) (used_up a (Own y)) (let g = la y in omega arith) in (
        used_up a,
        R,
        take_sum fip O s a (λ k. asks_taken (Credit k) cs) split ho hc,
        fits_arg fip (used_up a) a (λ i. fits_same fip (used_up a i)),
        derive_taken fip B R t cs
            (λ y g. v y (seen_back (s y) (used_up a (Own y)) g))
            (λ y. fits_same fip (held (t y)))
            (λ k y. let g : held (s y) ≤ used_up a (Own y) + fewest_of y cs = hf k y in let e = split y in omega arith)
            (λ y. held_after (s y) (used_up a (Own y)) (asks_taken (Own y) cs) (la y))
            (λ k. omega arith)
            c.1
            ev,
      )

  derive_lent : (fip : Bool) (B : ℕ → Bool) (O : Item → ℕ) (s : ℕ → Status) (cs : Clauses) → ((x : ℕ) → visible (s x) ≡ true → B x ≡ true) → ((x : ℕ) → Fits fip (O (Own x)) (held (s x))) → (fip ≡ true → (x : ℕ) → held (s x) ≤ fewest_of x cs) → ((x : ℕ) → asks_lent (Own x) cs ≤ held (s x)) → ((k : ℕ) → asks_lent (Credit k) cs ≤ O (Credit k)) → CleanLent fip s cs → (fip ≡ true → EvenLent (λ k. O (Credit k)) cs) → DerivesLent fip B O cs
  derive_lent fip B O s (LastClause ys ks e) v ho hf ha hc c ev = (
    hold (binding ys false s) (λ k. asks (Credit k) e),
    opens fip false ys [] O s (λ k. asks (Credit k) e) (λ x. fewest x e) ho hf (λ k. credits_at fip (O (Credit k)) 0 (asks (Credit k) e) (λ t. (ev t).0 k) (λ t. hc k)),
    derive fip (setting ys true B) (hold (binding ys false s) (λ k. asks (Credit k) e)) (binding ys false s) e
        (λ x. seen_at (has ys x) false (B x) (s x) (v x))
        (λ x. fits_same fip (held (binding ys false s x)))
        (λ k x. few_at (has ys x) false (s x) (fewest x e) (λ i. absurd (cc)) (hf k x))
        (λ x. asks_at (has ys x) false (asks (Own x) e) (s x) (clean_room fip (binding ys false s) e c x) (ha x))
        (λ k. fits_same fip (asks (Credit k) e))
        c (λ t. (ev t).1),
  )
  derive_lent fip B O s (MoreClauses ys ks e cs) v ho hf ha hc c ev =
      let hf0 : fip ≡ true → (x : ℕ) → held (s x) ≤ outside ys [] (Own x) (fewest x e) = λ k x. let g : held (s x) ≤ min (outside ys [] (Own x) (fewest x e)) (fewest_of x cs) = hf k x in omega arith in
      let ha0 : (x : ℕ) → outside ys [] (Own x) (asks (Own x) e) ≤ held (s x) = λ x. let g : max (outside ys [] (Own x) (asks (Own x) e)) (asks_lent (Own x) cs) ≤ held (s x) = ha x in omega arith in (
        hold (binding ys false s) (λ k. asks (Credit k) e),
        opens fip false ys [] O s (λ k. asks (Credit k) e) (λ x. fewest x e) ho hf0 (λ k. credits_at fip (O (Credit k)) 0 (asks (Credit k) e) (λ t. (ev t).0 k) (λ t. let g = hc k in omega arith)),
        derive fip (setting ys true B) (hold (binding ys false s) (λ k. asks (Credit k) e)) (binding ys false s) e
            (λ x. seen_at (has ys x) false (B x) (s x) (v x))
            (λ x. fits_same fip (held (binding ys false s x)))
            (λ k x. few_at (has ys x) false (s x) (fewest x e) (λ i. absurd (cc)) (hf0 k x))
            (λ x. asks_at (has ys x) false (asks (Own x) e) (s x) (clean_room fip (binding ys false s) e c.0 x) (ha0 x))
            (λ k. fits_same fip (asks (Credit k) e))
            c.0 (λ t. (ev t).1),
        derive_lent fip B O s cs v ho
            (λ k x. let g : held (s x) ≤ min (outside ys [] (Own x) (fewest x e)) (fewest_of x cs) = hf k x in omega arith)
            (λ x. let g : max (outside ys [] (Own x) (asks (Own x) e)) (asks_lent (Own x) cs) ≤ held (s x) = ha x in omega arith)
            (λ k. let g = hc k in omega arith)
            c.1 (λ t. (ev t).2),
      )

  derive_taken : (fip : Bool) (B : ℕ → Bool) (R : Item → ℕ) (s : ℕ → Status) (cs : Clauses) → ((x : ℕ) → visible (s x) ≡ true → B x ≡ true) → ((x : ℕ) → Fits fip (R (Own x)) (held (s x))) → (fip ≡ true → (x : ℕ) → held (s x) ≤ fewest_of x cs) → ((x : ℕ) → asks_taken (Own x) cs ≤ held (s x)) → ((k : ℕ) → asks_taken (Credit k) cs ≤ R (Credit k)) → CleanTaken fip s cs → (fip ≡ true → EvenTaken (λ k. R (Credit k)) cs) → DerivesTaken fip B R cs
  derive_taken fip B R s (LastClause ys ks e) v ho hf ha hc c ev = (
    hold (binding ys true s) (λ k. asks (Credit k) e),
    opens fip true ys ks R s (λ k. asks (Credit k) e) (λ x. fewest x e) ho hf (λ k. credits_at fip (R (Credit k)) (given k ks) (asks (Credit k) e) (λ t. (ev t).0 k) (λ t. hc k)),
    derive fip (setting ys false B) (hold (binding ys true s) (λ k. asks (Credit k) e)) (binding ys true s) e
        (λ x. seen_at (has ys x) true (B x) (s x) (v x))
        (λ x. fits_same fip (held (binding ys true s x)))
        (λ k x. few_at (has ys x) true (s x) (fewest x e) (λ i. all_used_at fip ys e c.0 k x) (hf k x))
        (λ x. asks_at (has ys x) true (asks (Own x) e) (s x) (clean_room fip (binding ys true s) e c.1 x) (ha x))
        (λ k. fits_same fip (asks (Credit k) e))
        c.1 (λ t. (ev t).1),
  )
  derive_taken fip B R s (MoreClauses ys ks e cs) v ho hf ha hc c ev =
      let hf0 : fip ≡ true → (x : ℕ) → held (s x) ≤ outside ys [] (Own x) (fewest x e) = λ k x. let g : held (s x) ≤ min (outside ys [] (Own x) (fewest x e)) (fewest_of x cs) = hf k x in omega arith in
      let ha0 : (x : ℕ) → outside ys [] (Own x) (asks (Own x) e) ≤ held (s x) = λ x. let g : max (outside ys [] (Own x) (asks (Own x) e)) (asks_taken (Own x) cs) ≤ held (s x) = ha x in omega arith in (
        hold (binding ys true s) (λ k. asks (Credit k) e),
        opens fip true ys ks R s (λ k. asks (Credit k) e) (λ x. fewest x e) ho hf0 (λ k. credits_at fip (R (Credit k)) (given k ks) (asks (Credit k) e) (λ t. (ev t).0 k) (λ t. let g = hc k in omega arith)),
        derive fip (setting ys false B) (hold (binding ys true s) (λ k. asks (Credit k) e)) (binding ys true s) e
            (λ x. seen_at (has ys x) true (B x) (s x) (v x))
            (λ x. fits_same fip (held (binding ys true s x)))
            (λ k x. few_at (has ys x) true (s x) (fewest x e) (λ i. all_used_at fip ys e c.0 k x) (hf0 k x))
            (λ x. asks_at (has ys x) true (asks (Own x) e) (s x) (clean_room fip (binding ys true s) e c.1 x) (ha0 x))
            (λ k. fits_same fip (asks (Credit k) e))
            c.1 (λ t. (ev t).1),
        derive_taken fip B R s cs v ho
            (λ k x. let g : held (s x) ≤ min (outside ys [] (Own x) (fewest x e)) (fewest_of x cs) = hf k x in omega arith)
            (λ x. let g : max (outside ys [] (Own x) (asks (Own x) e)) (asks_taken (Own x) cs) ≤ held (s x) = ha x in omega arith)
            (λ k. let g = hc k in omega arith)
            c.2 (λ t. (ev t).2),
      )
