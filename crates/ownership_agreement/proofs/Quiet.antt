-- Good is just: no rule is broken.
use Rattle.std.proofs.Common.{◌≡◌, ℕ, suc, ◌≤◌, ◌⊎◌, inl, inr, refl, sym, ap, subst, Bool, true, false, arith}
use Rattle.std.specs.Prelude.{◌==◌, ◌↔◌, if◌then◌else◌}
use Rattle.fip_rules.specs.Marks.{Mark}
use Rattle.fip_rules.specs.declared.scope.Ownership.{Ownership}
use Rattle.fip_rules.specs.declared.scope.Ownership.TheVariants.{Scalar, Borrowed, Owned}
use Rattle.fip_rules.specs.Marks.{Breach}
use Rattle.credit_check.specs.fip_language.declared.rule.Rule.TheVariants.{E50, E51, E52, E53, E54}
use Rattle.fip_rules.specs.Shape.{Shape, Skip, Use, Lend, Fault, Then, Either, Bound, Scope}
use Rattle.fip_rules.specs.Rules.{broken, owns, Uses, Lends, Again, Late, Exposed, Wrong, Unused, Breaks, next, Ordered}
use Rattle.ownership_agreement.specs.Good.{State, Free, Given, Held, starts, spent, lending, MayUse, MayLend, IsUsed, bound, Good}
use Rattle.fip_rules.proofs.Lists.{same, same_test, apart_test}
use Rattle.fip_rules.proofs.Agree.{next_le, or_left, or_right, or_split}
use Rattle.fip_rules.proofs.fip_base.fip_language.Facts.{false_of_not_true as not_true, true_of_not_false as not_false}

abbrev Faults : ℕ → State → Shape → Breach → Type 0
Faults i Free e v = ⊥
Faults i Given e v = Uses E53 i e v
Faults i (Held u l) e v = (Again i e v ⊎ ((u ≡ true) × Uses E50 i e v)) ⊎ ((Late i e v ⊎ ((u ≡ true) × Lends E51 i e v)) ⊎ ((l ≡ false) × Exposed i e v))

-- forth: a fault of the whole is one of a part; back: the other way
then_forth : (i : ℕ) (t : State) (a b : Shape) (v : Breach) → Faults i t (Then a b) v → Faults i t a v ⊎ Faults i (spent (owns v.mark.id a) t) b v
then_forth i Free a b v h = absurd h
then_forth i Given a b v h = h
then_forth i (Held u l) a b v (inl (inl (inl h))) = inl (inl (inl h))
then_forth i (Held u l) a b v (inl (inl (inr (inl h)))) = inr (inl (inl h))
then_forth i (Held u l) a b v (inl (inl (inr (inr h)))) = inr (inl (inr (or_right u (owns v.mark.id a) h.0, h.1)))
then_forth i (Held u l) a b v (inl (inr (e, inl h))) = inl (inl (inr (e, h)))
then_forth i (Held u l) a b v (inl (inr (e, inr h))) = inr (inl (inr (or_left u (owns v.mark.id a) e, h)))
then_forth i (Held u l) a b v (inr (inl (inl (inl h)))) = inl (inr (inl (inl h)))
then_forth i (Held u l) a b v (inr (inl (inl (inr (inl h))))) = inr (inr (inl (inl h)))
then_forth i (Held u l) a b v (inr (inl (inl (inr (inr h))))) = inr (inr (inl (inr (or_right u (owns v.mark.id a) h.0, h.1))))
then_forth i (Held u l) a b v (inr (inl (inr (e, inl h)))) = inl (inr (inl (inr (e, h))))
then_forth i (Held u l) a b v (inr (inl (inr (e, inr h)))) = inr (inr (inl (inr (or_left u (owns v.mark.id a) e, h))))
then_forth i (Held u l) a b v (inr (inr (e, inl h))) = inl (inr (inr (e, h)))
then_forth i (Held u l) a b v (inr (inr (e, inr h))) = inr (inr (inr (e, h)))

then_left : (i : ℕ) (t : State) (a b : Shape) (v : Breach) → Faults i t a v → Faults i t (Then a b) v
then_left i Free a b v h = absurd h
then_left i Given a b v h = inl h
then_left i (Held u l) a b v (inl (inl h)) = inl (inl (inl h))
then_left i (Held u l) a b v (inl (inr h)) = inl (inr (h.0, inl h.1))
then_left i (Held u l) a b v (inr (inl (inl h))) = inr (inl (inl (inl h)))
then_left i (Held u l) a b v (inr (inl (inr h))) = inr (inl (inr (h.0, inl h.1)))
then_left i (Held u l) a b v (inr (inr h)) = inr (inr (h.0, inl h.1))

then_right : (i : ℕ) (t : State) (a b : Shape) (v : Breach) → Faults i (spent (owns v.mark.id a) t) b v → Faults i t (Then a b) v
then_right i Free a b v h = absurd h
then_right i Given a b v h = inr h
then_right i (Held u l) a b v (inl (inl h)) = inl (inl (inr (inl h)))
then_right i (Held u l) a b v (inl (inr h)) = elim (or_split u (owns v.mark.id a) h.0) as (λ x. Faults i (Held u l) (Then a b) v) [ inl e ↦ inl (inr (e, inr h.1)) | inr e ↦ inl (inl (inr (inr (e, h.1)))) ]
then_right i (Held u l) a b v (inr (inl (inl h))) = inr (inl (inl (inr (inl h))))
then_right i (Held u l) a b v (inr (inl (inr h))) = elim (or_split u (owns v.mark.id a) h.0) as (λ x. Faults i (Held u l) (Then a b) v) [ inl e ↦ inr (inl (inr (e, inr h.1))) | inr e ↦ inr (inl (inl (inr (inr (e, h.1))))) ]
then_right i (Held u l) a b v (inr (inr h)) = inr (inr (h.0, inr h.1))

either_forth : (i : ℕ) (t : State) (a b : Shape) (v : Breach) → Faults i t (Either a b) v → Faults i t a v ⊎ Faults i t b v
either_forth i Free a b v h = absurd h
either_forth i Given a b v h = h
either_forth i (Held u l) a b v (inl (inl (inl h))) = inl (inl (inl h))
either_forth i (Held u l) a b v (inl (inl (inr h))) = inr (inl (inl h))
either_forth i (Held u l) a b v (inl (inr (e, inl h))) = inl (inl (inr (e, h)))
either_forth i (Held u l) a b v (inl (inr (e, inr h))) = inr (inl (inr (e, h)))
either_forth i (Held u l) a b v (inr (inl (inl (inl h)))) = inl (inr (inl (inl h)))
either_forth i (Held u l) a b v (inr (inl (inl (inr h)))) = inr (inr (inl (inl h)))
either_forth i (Held u l) a b v (inr (inl (inr (e, inl h)))) = inl (inr (inl (inr (e, h))))
either_forth i (Held u l) a b v (inr (inl (inr (e, inr h)))) = inr (inr (inl (inr (e, h))))
either_forth i (Held u l) a b v (inr (inr (e, inl h))) = inl (inr (inr (e, h)))
either_forth i (Held u l) a b v (inr (inr (e, inr h))) = inr (inr (inr (e, h)))

either_back : (i : ℕ) (t : State) (a b : Shape) (v : Breach) → Faults i t a v ⊎ Faults i t b v → Faults i t (Either a b) v
either_back i Free a b v (inl h) = absurd h
either_back i Free a b v (inr h) = absurd h
either_back i Given a b v h = h
either_back i (Held u l) a b v (inl (inl (inl h))) = inl (inl (inl h))
either_back i (Held u l) a b v (inl (inl (inr h))) = inl (inr (h.0, inl h.1))
either_back i (Held u l) a b v (inl (inr (inl (inl h)))) = inr (inl (inl (inl h)))
either_back i (Held u l) a b v (inl (inr (inl (inr h)))) = inr (inl (inr (h.0, inl h.1)))
either_back i (Held u l) a b v (inl (inr (inr h))) = inr (inr (h.0, inl h.1))
either_back i (Held u l) a b v (inr (inl (inl h))) = inl (inl (inr h))
either_back i (Held u l) a b v (inr (inl (inr h))) = inl (inr (h.0, inr h.1))
either_back i (Held u l) a b v (inr (inr (inl (inl h)))) = inr (inl (inl (inr h)))
either_back i (Held u l) a b v (inr (inr (inl (inr h)))) = inr (inl (inr (h.0, inr h.1)))
either_back i (Held u l) a b v (inr (inr (inr h))) = inr (inr (h.0, inr h.1))

-- o: whether the bound expression owns
bound_forth : (i : ℕ) (t : State) (o : Bool) (a : Shape) (v : Breach) → o ≡ owns v.mark.id a → Faults i t (Bound a) v → Faults i (lending o t) a v
bound_forth i Free o a v e h = absurd h
bound_forth i Given o a v e h = h
bound_forth i (Held u l) true a v e (inl h) = inl h
bound_forth i (Held u l) true a v e (inr (inl h)) = inr (inl h)
bound_forth i (Held u l) true a v e (inr (inr h)) = inr (inr (h.0, h.1.1))
bound_forth i (Held u l) false a v e (inl h) = inl h
bound_forth i (Held u l) false a v e (inr (inl h)) = inr (inl h)
bound_forth i (Held u l) false a v e (inr (inr h)) = absurd (let z = h.1.0 in cc)

bound_back : (i : ℕ) (t : State) (o : Bool) (a : Shape) (v : Breach) → o ≡ owns v.mark.id a → Faults i (lending o t) a v → Faults i t (Bound a) v
bound_back i Free o a v e h = absurd h
bound_back i Given o a v e h = h
bound_back i (Held u l) true a v e (inl h) = inl h
bound_back i (Held u l) true a v e (inr (inl h)) = inr (inl h)
bound_back i (Held u l) true a v e (inr (inr h)) = inr (inr (h.0, (sym e, h.1)))
bound_back i (Held u l) false a v e (inl h) = inl h
bound_back i (Held u l) false a v e (inr (inl h)) = inr (inl h)
bound_back i (Held u l) false a v e (inr (inr h)) = absurd (let z = h.0 in cc)

scope_forth : (i : ℕ) (t : State) (k : Ownership) (m : Mark) (a : Shape) (v : Breach) → Faults i t (Scope k m a) v → Faults i t a v
scope_forth i Free k m a v h = h
scope_forth i Given k m a v h = h
scope_forth i (Held u l) k m a v h = h

scope_back : (i : ℕ) (t : State) (k : Ownership) (m : Mark) (a : Shape) (v : Breach) → Faults i t a v → Faults i t (Scope k m a) v
scope_back i Free k m a v h = h
scope_back i Given k m a v h = h
scope_back i (Held u l) k m a v h = h

starts_forth : (i : ℕ) (k : Ownership) (a : Shape) (v : Breach) → Faults i (starts k) a v → Wrong i k a v
starts_forth i Scalar a v h = h
starts_forth i Borrowed a v h = h
starts_forth i Owned a v (inl (inl h)) = inl h
starts_forth i Owned a v (inl (inr h)) = absurd (let z = h.0 in cc)
starts_forth i Owned a v (inr (inl (inl h))) = inr (inl h)
starts_forth i Owned a v (inr (inl (inr h))) = absurd (let z = h.0 in cc)
starts_forth i Owned a v (inr (inr h)) = inr (inr h.1)

starts_back : (i : ℕ) (k : Ownership) (a : Shape) (v : Breach) → Wrong i k a v → Faults i (starts k) a v
starts_back i Scalar a v h = h
starts_back i Borrowed a v h = h
starts_back i Owned a v (inl h) = inl (inl h)
starts_back i Owned a v (inr (inl h)) = inr (inl (inl h))
starts_back i Owned a v (inr (inr h)) = inr (inr (refl, h))

used_free : (t : State) → MayUse t → (i : ℕ) (m : Mark) (v : Breach) → Faults i t (Use m) v → ⊥
used_free Free g i m v h = h
used_free Given g i m v h = g
used_free (Held u l) g i m v (inl (inl h)) = h
used_free (Held u l) g i m v (inl (inr h)) = absurd (let z = h.0 in cc)
used_free (Held u l) g i m v (inr (inl (inl h))) = h
used_free (Held u l) g i m v (inr (inl (inr h))) = h.1
used_free (Held u l) g i m v (inr (inr h)) = h.1

lent_free : (t : State) → MayLend t → (i : ℕ) (m : Mark) (v : Breach) → Faults i t (Lend m) v → ⊥
lent_free Free g i m v h = h
lent_free Given g i m v h = h
lent_free (Held u l) g i m v (inl (inl h)) = h
lent_free (Held u l) g i m v (inl (inr h)) = h.1
lent_free (Held u l) g i m v (inr (inl (inl h))) = h
lent_free (Held u l) g i m v (inr (inl (inr h))) = absurd (let z = h.0 in let y = g.0 in cc)
lent_free (Held u l) g i m v (inr (inr h)) = absurd (let z = h.0 in let y = g.1 in cc)

-- a fault at a leaf speaks of the leaf's variable
use_number : (i : ℕ) (t : State) (m : Mark) (v : Breach) → Faults i t (Use m) v → v.mark.id ≡ m.id
use_number i Free m v h = absurd h
use_number i Given m v h = ap (λ (w : Breach). w.mark.id) h
use_number i (Held u l) m v (inl (inl h)) = absurd h
use_number i (Held u l) m v (inl (inr h)) = ap (λ (w : Breach). w.mark.id) h.1
use_number i (Held u l) m v (inr (inl (inl h))) = absurd h
use_number i (Held u l) m v (inr (inl (inr h))) = absurd h.1
use_number i (Held u l) m v (inr (inr h)) = absurd h.1

lend_number : (i : ℕ) (t : State) (m : Mark) (v : Breach) → Faults i t (Lend m) v → v.mark.id ≡ m.id
lend_number i Free m v h = absurd h
lend_number i Given m v h = absurd h
lend_number i (Held u l) m v (inl (inl h)) = absurd h
lend_number i (Held u l) m v (inl (inr h)) = absurd h.1
lend_number i (Held u l) m v (inr (inl (inl h))) = absurd h
lend_number i (Held u l) m v (inr (inl (inr h))) = ap (λ (w : Breach). w.mark.id) h.1
lend_number i (Held u l) m v (inr (inr h)) = ap (λ (w : Breach). w.mark.id) h.1

none_else : (i : ℕ) (t : State) (v : Breach) → Faults i t Skip v → ⊥
none_else i Free v h = h
none_else i Given v h = h
none_else i (Held u l) v (inl (inl h)) = h
none_else i (Held u l) v (inl (inr h)) = h.1
none_else i (Held u l) v (inr (inl (inl h))) = h
none_else i (Held u l) v (inr (inl (inr h))) = h.1
none_else i (Held u l) v (inr (inr h)) = h.1

at_bound : (b : Bool) (i : ℕ) (k : Ownership) (t : State) (a : Shape) (v : Breach) → (b ≡ true → t ≡ Free) → Faults i t a v → Faults i (if b then starts k else t) a v
at_bound true i k t a v f h = absurd (subst (λ q. Faults i q a v) (f refl) h)
at_bound false i k t a v f h = h

in_bound : (b : Bool) (i : ℕ) (k : Ownership) (t : State) (a : Shape) (v : Breach) → b ≡ true → Wrong i k a v → Faults i (if b then starts k else t) a v
in_bound true i k t a v f h = starts_back i k a v h
in_bound false i k t a v f h = absurd (cc)

abbrev Above : (ℕ → State) → ℕ → Type 0
Above s n = (x : ℕ) → n ≤ x → s x ≡ Free

bound_above : (s : ℕ → State) (n : ℕ) (k : Ownership) (m : Mark) → Above s n → n ≤ m.id → Above (bound m.id k s) (suc m.id)
bound_above s n k m f g x h = let e = apart_test m.id x (omega arith) in let r = f x (omega arith) in rw e r

mutual
  quiet : (fip : Bool) (i n : ℕ) (s : ℕ → State) (e : Shape) → Good fip s e → Ordered n e → Above s n → (v : Breach) → Faults i (s v.mark.id) e v → ⊥
  quiet fip i n s Skip g o f v h = none_else i (s v.mark.id) v h
  quiet fip i n s (Use m) g o f v h = used_free (s m.id) g i m v (subst (λ x. Faults i (s x) (Use m) v) (use_number i (s v.mark.id) m v h) h)
  quiet fip i n s (Lend m) g o f v h = lent_free (s m.id) g i m v (subst (λ x. Faults i (s x) (Lend m) v) (lend_number i (s v.mark.id) m v h) h)
  quiet fip i n s (Fault r m) g o f v h = g
  quiet fip i n s (Then a b) g o f v h = elim (then_forth i (s v.mark.id) a b v h) as (λ x. ⊥) [
    | inl k ↦ quiet fip i n s a g.0 o.0 f v k
    | inr k ↦ quiet fip i (next n a) (λ x. spent (owns x a) (s x)) b g.1 o.1 (λ x l. ap (spent (owns x a)) (f x (let z = next_le n a o.0 in omega arith))) v k
  ]
  quiet fip i n s (Either a b) g o f v h = elim (either_forth i (s v.mark.id) a b v h) as (λ x. ⊥) [
    | inl k ↦ quiet fip i n s a g.0 o.0 f v k
    | inr k ↦ quiet fip i (next n a) s b g.1 o.1 (λ x l. f x (let z = next_le n a o.0 in omega arith)) v k
  ]
  quiet fip i n s (Bound a) g o f v h = quiet fip i n (λ x. lending (owns x a) (s x)) a g o (λ x l. ap (lending (owns x a)) (f x l)) v (bound_forth i (s v.mark.id) (owns v.mark.id a) a v refl h)
  quiet fip i n s (Scope k m a) g o f v h = quiet fip i (suc m.id) (bound m.id k s) a g.0 o.1 (bound_above s n k m f o.0) v (at_bound (m.id == v.mark.id) i k (s v.mark.id) a v (λ e. f v.mark.id (let z = same m.id v.mark.id e in let y = o.0 in omega arith)) (scope_forth i (s v.mark.id) k m a v h))

no_unused : (fip : Bool) (i : ℕ) (k : Ownership) (m : Mark) (a : Shape) (v : Breach) → IsUsed fip k m.id a → Unused i fip k m a v → ⊥
no_unused fip i Owned m a v g h = g h.0 h.1.0
no_unused fip i Borrowed m a v g h = h
no_unused fip i Scalar m a v g h = h

quiet_within : (fip : Bool) (i n : ℕ) (s : ℕ → State) (e : Shape) → Good fip s e → Ordered n e → Above s n → (v : Breach) → Breaks i fip e v → ⊥
quiet_within fip i n s Skip g o f v h = h
quiet_within fip i n s (Use m) g o f v h = h
quiet_within fip i n s (Lend m) g o f v h = h
quiet_within fip i n s (Fault r m) g o f v h = g
quiet_within fip i n s (Then a b) g o f v (inl h) = quiet_within fip i n s a g.0 o.0 f v h
quiet_within fip i n s (Then a b) g o f v (inr h) = quiet_within fip i (next n a) (λ x. spent (owns x a) (s x)) b g.1 o.1 (λ x l. ap (spent (owns x a)) (f x (let z = next_le n a o.0 in omega arith))) v h
quiet_within fip i n s (Either a b) g o f v (inl h) = quiet_within fip i n s a g.0 o.0 f v h
quiet_within fip i n s (Either a b) g o f v (inr h) = quiet_within fip i (next n a) s b g.1 o.1 (λ x l. f x (let z = next_le n a o.0 in omega arith)) v h
quiet_within fip i n s (Bound a) g o f v h = quiet_within fip i n (λ x. lending (owns x a) (s x)) a g o (λ x l. ap (lending (owns x a)) (f x l)) v h
quiet_within fip i n s (Scope k m a) g o f v (inl (inl h)) = quiet_within fip i (suc m.id) (bound m.id k s) a g.0 o.1 (bound_above s n k m f o.0) v h
quiet_within fip i n s (Scope k m a) g o f v (inl (inr h)) = quiet fip i (suc m.id) (bound m.id k s) a g.0 o.1 (bound_above s n k m f o.0) v (in_bound (m.id == v.mark.id) i k (s v.mark.id) a v (same_test m.id v.mark.id h.0) h.1)
quiet_within fip i n s (Scope k m a) g o f v (inr h) = no_unused fip i k m a v g.1 h

-- ---- where nothing is broken, all is good

may_use : (i : ℕ) (t : State) (m : Mark) → ((v : Breach) → v.mark.id ≡ m.id → Faults i t (Use m) v → ⊥) → MayUse t
may_use i Free m h = tt
may_use i Given m h = h (broken E53 i m) refl refl
may_use i (Held u l) m h = not_true u (λ e. h (broken E50 i m) refl (inl (inr (e, refl))))

may_lend : (i : ℕ) (t : State) (m : Mark) → ((v : Breach) → v.mark.id ≡ m.id → Faults i t (Lend m) v → ⊥) → MayLend t
may_lend i Free m h = tt
may_lend i Given m h = tt
may_lend i (Held u l) m h = (not_true u (λ e. h (broken E51 i m) refl (inr (inl (inr (e, refl))))), not_false l (λ e. h (broken E54 i m) refl (inr (inr (e, refl)))))

is_used : (fip : Bool) (i : ℕ) (k : Ownership) (m : Mark) (a : Shape) → ((v : Breach) → Unused i fip k m a v → ⊥) → IsUsed fip k m.id a
is_used fip i Owned m a h = λ e g. h (broken E52 i m) (e, (g, refl))
is_used fip i Borrowed m a h = tt
is_used fip i Scalar m a h = tt

bound_faults : (b : Bool) (i : ℕ) (k : Ownership) (t : State) (a : Shape) (v : Breach) → Faults i (if b then starts k else t) a v → ((b ≡ true) × Wrong i k a v) ⊎ Faults i t a v
bound_faults true i k t a v h = inl (refl, starts_forth i k a v h)
bound_faults false i k t a v h = inr h

good : (fip : Bool) (i : ℕ) (s : ℕ → State) (e : Shape) → ((v : Breach) → Faults i (s v.mark.id) e v → ⊥) → ((v : Breach) → Breaks i fip e v → ⊥) → Good fip s e
good fip i s Skip q w = tt
good fip i s (Use m) q w = may_use i (s m.id) m (λ v e h. q v (subst (λ x. Faults i (s x) (Use m) v) (sym e) h))
good fip i s (Lend m) q w = may_lend i (s m.id) m (λ v e h. q v (subst (λ x. Faults i (s x) (Lend m) v) (sym e) h))
good fip i s (Fault r m) q w = w (broken r i m) refl
good fip i s (Then a b) q w = (
  good fip i s a (λ v h. q v (then_left i (s v.mark.id) a b v h)) (λ v h. w v (inl h)),
  good fip i (λ x. spent (owns x a) (s x)) b (λ v h. q v (then_right i (s v.mark.id) a b v h)) (λ v h. w v (inr h)),
)
good fip i s (Either a b) q w = (
  good fip i s a (λ v h. q v (either_back i (s v.mark.id) a b v (inl h))) (λ v h. w v (inl h)),
  good fip i s b (λ v h. q v (either_back i (s v.mark.id) a b v (inr h))) (λ v h. w v (inr h)),
)
good fip i s (Bound a) q w = good fip i (λ x. lending (owns x a) (s x)) a (λ v h. q v (bound_back i (s v.mark.id) (owns v.mark.id a) a v refl h)) w
good fip i s (Scope k m a) q w = (
  good fip i (bound m.id k s) a
      (λ v h. elim (bound_faults (m.id == v.mark.id) i k (s v.mark.id) a v h) as (λ x. ⊥) [ inl z ↦ w v (inl (inr (same m.id v.mark.id z.0, z.1))) | inr z ↦ q v (scope_back i (s v.mark.id) k m a v z) ])
      (λ v h. w v (inl (inl h))),
  is_used fip i k m a (λ v h. w v (inr h)),
)

pub good_is : (i : ℕ) (fip : Bool) (e : Shape) → Ordered 0 e → Good fip (λ x. Free) e ↔ ((v : Breach) → Breaks i fip e v → ⊥)
good_is i fip e o = (λ g. quiet_within fip i 0 (λ x. Free) e g o (λ x l. refl), λ w. good fip i (λ x. Free) e (λ v h. h) w)
