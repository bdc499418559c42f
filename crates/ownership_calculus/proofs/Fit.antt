-- Small facts over plain numbers, tests and statuses.
use Rattle.std.proofs.Common.{◌≡◌, ℕ, zero, suc, ◌+◌, ◌≤◌, ◌<◌, refl, List, [], Bool, true, false, arith}
use Rattle.std.specs.Prelude.{if◌then◌else◌}
use Rattle.std.proofs.lemmas.Bool.Decides.{nat_tests}
use Rattle.ownership_calculus.specs.Terms.{Item, Own, Credit, has, one, given}
use Rattle.ownership_calculus.specs.Rules.{Fits}
use Rattle.ownership_calculus.specs.ByCases.{Opens}
use Rattle.ownership_calculus.specs.Clean.{outside, Status, Free, Owned, after, lent, MayUse, MayLend}

abbrev pub held : Status → ℕ
held Free = 0
held (Owned true l) = 0
held (Owned false true) = 0
held (Owned false false) = 1

abbrev pub room : Status → ℕ
room Free = 0
room (Owned true l) = 0
room (Owned false l) = 1

abbrev pub visible : Status → Bool
visible Free = true
visible (Owned true l) = false
visible (Owned false l) = l

pub fits_le : (fip : Bool) (a b : ℕ) → Fits fip a b → b ≤ a
fits_le true a b h = omega arith
fits_le false a b h = h

pub fits_same : (fip : Bool) (a : ℕ) → Fits fip a a
fits_same true a = refl
fits_same false a = omega arith

pub fits_sum : (fip : Bool) (o p q a b : ℕ) → Fits fip o (p + q) → Fits fip p a → Fits fip q b → Fits fip o (a + b)
fits_sum true o p q a b h f g = omega arith
fits_sum false o p q a b h f g = omega arith

pub fits_zero : (fip : Bool) (o a b : ℕ) → a ≡ 0 → Fits fip o b → Fits fip o (a + b)
fits_zero true o a b h f = omega arith
fits_zero false o a b h f = omega arith

pub one_same : (x : ℕ) → one x x ≡ 1
one_same x = grind (arith, nat_tests)

pub may_use : (s : Status) → 1 ≤ held s → MayUse s
may_use Free h = absurd (omega arith)
may_use (Owned true l) h = absurd (omega arith)
may_use (Owned false l) h = tt

pub may_lend : (s : Status) → visible s ≡ true → MayLend s
may_lend Free h = tt
may_lend (Owned true l) h = absurd (cc)
may_lend (Owned false true) h = tt
may_lend (Owned false false) h = absurd (cc)

pub held_after : (s : Status) (m q : ℕ) → m + q ≤ held s → q ≤ held (after s m)
held_after s zero q h = omega arith
held_after Free (suc m) q h = omega arith
held_after (Owned true l) (suc m) q h = omega arith
held_after (Owned false true) (suc m) q h = omega arith
held_after (Owned false false) (suc m) q h = omega arith

pub room_after : (s : Status) (m q : ℕ) → m + q ≤ room s → q ≤ room (after s m)
room_after s zero q h = omega arith
room_after Free (suc m) q h = omega arith
room_after (Owned true l) (suc m) q h = omega arith
room_after (Owned false l) (suc m) q h = omega arith

pub visible_after : (s : Status) (m : ℕ) → m ≤ held s → visible s ≡ true → visible (after s m) ≡ true
visible_after s zero h v = v
visible_after Free (suc m) h v = absurd (omega arith)
visible_after (Owned true l) (suc m) h v = absurd (cc)
visible_after (Owned false true) (suc m) h v = absurd (omega arith)
visible_after (Owned false false) (suc m) h v = absurd (cc)

pub held_lent : (s : Status) (m : ℕ) → m ≤ held s → m ≤ held (lent s m)
held_lent s (suc m) h = h
held_lent Free zero h = omega arith
held_lent (Owned u l) zero h = omega arith

pub room_lent : (s : Status) (m p : ℕ) → p ≤ room s → p ≤ room (lent s m)
room_lent s (suc m) p h = h
room_lent Free zero p h = h
room_lent (Owned true l) zero p h = h
room_lent (Owned false l) zero p h = h

-- a variable that is seen, or that the body gets, is seen in the bound expression
pub visible_lent : (s : Status) (m : ℕ) → visible s ≡ true → visible (lent s m) ≡ true
visible_lent s (suc m) h = h
visible_lent Free zero h = h
visible_lent (Owned true l) zero h = absurd (cc)
visible_lent (Owned false l) zero h = refl

pub visible_kept : (s : Status) (m r : ℕ) → m + r ≤ room s → 0 < r → visible (lent s m) ≡ true
visible_kept Free m r h g = absurd (omega arith)
visible_kept (Owned true l) m r h g = absurd (omega arith)
visible_kept (Owned false l) zero r h g = refl
visible_kept (Owned false l) (suc m) r h g = absurd (omega arith)

-- what is required from outside of the binders is in the environment outside
outside_own : (b : Bool) (n q r : ℕ) → (b ≡ false → q ≤ r) → n ≤ q → (if b then 0 else n) ≤ r
outside_own true n q r f h = omega arith
outside_own false n q r f h = let g : q ≤ r = f refl in omega arith

pub outside_le : (fip own : Bool) (ys ks : List ℕ) (R Q : Item → ℕ) → Opens fip own ys ks R Q → (i : Item) (n : ℕ) → n ≤ Q i → outside ys ks i n ≤ R i
outside_le fip own ys ks R Q o (Own y) n h = outside_own (has ys y) n (Q (Own y)) (R (Own y)) (λ e. fits_le fip (R (Own y)) (Q (Own y)) (o.others y e)) h
outside_le fip own ys ks R Q o (Credit k) n h = let g = fits_le fip (R (Credit k) + given k ks) (Q (Credit k)) (o.credits k) in omega arith

outside_few : (b : Bool) (n q r : ℕ) → (b ≡ true → r ≡ 0) → (b ≡ false → r ≡ q) → q ≤ n → r ≤ (if b then 0 else n)
outside_few true n q r f g h = let e : r ≡ 0 = f refl in omega arith
outside_few false n q r f g h = let e : r ≡ q = g refl in omega arith

pub few_outside : (own : Bool) (ys ks : List ℕ) (R Q : Item → ℕ) → Opens true own ys ks R Q → (x n : ℕ) → Q (Own x) ≤ n → R (Own x) ≤ outside ys [] (Own x) n
few_outside own ys ks R Q o x n h = outside_few (has ys x) n (Q (Own x)) (R (Own x)) (o.hidden x) (o.others x) h
