-- What the walk notes is just what breaks a rule.
use Rattle.std.proofs.Common.{◌≡◌, ℕ, suc, ◌<◌, ◌≤◌, ◌⊎◌, inl, inr, refl, sym, ap, subst, ◌∙◌, append_assoc, List, [], ◌∷◌, ◌++◌, Option, Some, None, Bool, true, false, not, arith}
use Rattle.std.specs.Prelude.{◌==◌, ◌&&◌, ◌||◌, ◌↔◌, if◌then◌else◌}
use Rattle.std.proofs.lemmas.Bool.Decides.{nat_tests}
use Rattle.fip_rules.specs.Marks.{Mark}
use Rattle.fip_rules.specs.Marks.{Entry}
use Rattle.fip_trees.specs.fip_language.declared.rule.Rule.{Rule}
use Rattle.fip_trees.specs.fip_language.declared.rule.Rule.TheVariants.{E50, E51, E52, E53, E54}
use Rattle.fip_rules.specs.declared.scope.Ownership.{Ownership}
use Rattle.fip_rules.specs.declared.scope.Ownership.TheVariants.{Scalar, Borrowed, Owned}
use Rattle.fip_rules.specs.Marks.{Breach}
use Rattle.fip_rules.specs.Shape.{Shape, Skip, Use, Lend, Fault, Then, Either, Bound, Scope}
use Rattle.fip_rules.specs.Rules.{broken, owns, Uses, Lends, Again, Late, Misses, Exposed, Wrong, Unused, Breaks, next, Ordered}
use Rattle.fip_rules.specs.Notes.{has, look, Walked, nothing, entry, enter, deeper, uses, always, if_waits, waits, run, when, use_of, use_notes, lend_of, lend_notes, is_owned, In, exposed, missed, notes}
use Rattle.fip_rules.proofs.Lists.{in_left, in_right, in_either}
use Rattle.fip_rules.proofs.Lists.{along, turned, sum_is, mix, append_is, of_when, to_when, same, same_test, apart_test, apart_back, has_append, has_both, look_end}
use Rattle.fip_base.proofs.fip_language.Facts.{and_either, and_false_first as and_none, and_false_last as and_zero, both_left as and_left, both_right as and_right, both_true as and_both, both_true as and_true, equal_itself as self_level, less_of_not as room, not_true, or_false, or_false_both as or_both, or_false_false as or_none, same_and, same_or}
pub use Rattle.fip_base.proofs.fip_language.Facts.{or_cases as or_split, or_first as or_left, or_last as or_right}

-- ---- a variable that occurs free

data Status : Type 0 where
  Idle : Status
  Lent : Status
  Own : (used here : Bool) → Status

-- the borrowing occurrences that are in a bound expression and are exposed all the same
abbrev Deep : ℕ → Shape → Breach → Type 0
Deep i Skip v = ⊥
Deep i (Use m) v = ⊥
Deep i (Lend m) v = ⊥
Deep i (Fault q m) v = ⊥
Deep i (Then a b) v = Deep i a v ⊎ Deep i b v
Deep i (Either a b) v = Deep i a v ⊎ Deep i b v
Deep i (Bound a) v = (owns v.mark.id a ≡ true) × Exposed i a v
Deep i (Scope k m a) v = Deep i a v

-- those that are in none
abbrev Direct : ℕ → Shape → Breach → Type 0
Direct i Skip v = ⊥
Direct i (Use m) v = ⊥
Direct i (Lend m) v = v ≡ broken E54 i m
Direct i (Fault q m) v = ⊥
Direct i (Then a b) v = Direct i a v ⊎ Direct i b v
Direct i (Either a b) v = Direct i a v ⊎ Direct i b v
Direct i (Bound a) v = ⊥
Direct i (Scope k m a) v = Direct i a v

abbrev Bare : ℕ → Bool → Shape → Breach → Type 0
Bare i true e v = Exposed i e v
Bare i false e v = Deep i e v

abbrev Faults : ℕ → Status → Shape → Breach → Type 0
Faults i Idle e v = ⊥
Faults i Lent e v = Uses E53 i e v
Faults i (Own u h) e v = (Again i e v ⊎ ((u ≡ true) × Uses E50 i e v)) ⊎ ((Late i e v ⊎ ((u ≡ true) × Lends E51 i e v)) ⊎ Bare i h e v)

abbrev of_kind : Ownership → Bool → Bool → Status
of_kind Scalar u h = Idle
of_kind Borrowed u h = Lent
of_kind Owned u h = Own u h

abbrev of_entry : Option Entry → Bool → ℕ → Status
of_entry None u l = Idle
of_entry (Some e) u l = of_kind e.ownership u (e.level == l)

abbrev status : Walked → ℕ → Status
status s x = of_entry (look s.scope x) (has s.used x) s.level

abbrev used_up : Bool → Status → Status
used_up o Idle = Idle
used_up o Lent = Lent
used_up o (Own u h) = Own (u || o) h

abbrev sunk : Status → Status
sunk Idle = Idle
sunk Lent = Lent
sunk (Own u h) = Own u false

abbrev fresh : Ownership → Status
fresh k = of_kind k false true

-- ---- what the walk knows, where numbers rise

record Fine (s : Walked) (n : ℕ) : Type 0 where
  scope : (x : ℕ) → n ≤ x → look s.scope x ≡ None
  used : (x : ℕ) → n ≤ x → has s.used x ≡ false
  always : (x : ℕ) → n ≤ x → has s.always x ≡ false
  levels : (x : ℕ) (e : Entry) → look s.scope x ≡ Some e → e.level ≤ s.level

below_level : (x n : ℕ) (e : Entry) (q : Option Entry) → (n ≤ x → q ≡ None) → q ≡ Some e → x < n
below_level x n e q f h = room x n (λ l. let z = f l in absurd (cc))

below : (s : Walked) (n x : ℕ) (e : Entry) → Fine s n → look s.scope x ≡ Some e → x < n
below s n x e f h = below_level x n e (look s.scope x) (f.scope x) h

pub next_le : (n : ℕ) (e : Shape) → Ordered n e → n ≤ next n e
next_le n Skip h = omega arith
next_le n (Use m) h = omega arith
next_le n (Lend m) h = omega arith
next_le n (Fault q m) h = omega arith
next_le n (Then a b) h = let f = next_le n a h.0 in let g = next_le (next n a) b h.1 in omega arith
next_le n (Either a b) h = let f = next_le n a h.0 in let g = next_le (next n a) b h.1 in omega arith
next_le n (Bound a) h = next_le n a h
next_le n (Scope k m a) h = let g = next_le (suc m.id) a h.1 in let f = h.0 in omega arith

uses_below : (n x : ℕ) (e : Shape) → Ordered n e → next n e ≤ x → has (uses e) x ≡ false
uses_below n x Skip h l = refl
uses_below n x (Use m) h l = or_none (m.id == x) false (apart_test m.id x (omega arith)) refl
uses_below n x (Lend m) h l = refl
uses_below n x (Fault q m) h l = refl
uses_below n x (Then a b) h l = has_append (uses a) (uses b) x ∙ (let g = next_le (next n a) b h.1 in or_none (has (uses a) x) (has (uses b) x) (uses_below n x a h.0 (omega arith)) (uses_below (next n a) x b h.1 l))
uses_below n x (Either a b) h l = has_append (uses a) (uses b) x ∙ (let g = next_le (next n a) b h.1 in or_none (has (uses a) x) (has (uses b) x) (uses_below n x a h.0 (omega arith)) (uses_below (next n a) x b h.1 l))
uses_below n x (Bound a) h l = uses_below n x a h l
uses_below n x (Scope k m a) h l = uses_below (suc m.id) x a h.1 l

always_below : (n x : ℕ) (e : Shape) → Ordered n e → next n e ≤ x → has (always e) x ≡ false
always_below n x Skip h l = refl
always_below n x (Use m) h l = or_none (m.id == x) false (apart_test m.id x (omega arith)) refl
always_below n x (Lend m) h l = refl
always_below n x (Fault q m) h l = refl
always_below n x (Then a b) h l = has_append (always a) (always b) x ∙ (let g = next_le (next n a) b h.1 in or_none (has (always a) x) (has (always b) x) (always_below n x a h.0 (omega arith)) (always_below (next n a) x b h.1 l))
always_below n x (Either a b) h l = has_both (always b) (always a) x ∙ (let g = next_le (next n a) b h.1 in and_none (has (always a) x) (has (always b) x) (always_below n x a h.0 (omega arith)))
always_below n x (Bound a) h l = always_below n x a h l
always_below n x (Scope k m a) h l = always_below (suc m.id) x a h.1 l

fine_run : (s : Walked) (n : ℕ) (a : Shape) → Fine s n → Ordered n a → Fine (run s a) (next n a)
fine_run s n a f h = let g = next_le n a h in record {
  scope = λ x l. f.scope x (omega arith);
  used = λ x l. has_append s.used (uses a) x ∙ or_none (has s.used x) (has (uses a) x) (f.used x (omega arith)) (uses_below n x a h l);
  always = λ x l. has_append s.always (always a) x ∙ or_none (has s.always x) (has (always a) x) (f.always x (omega arith)) (always_below n x a h l);
  levels = f.levels;
}

fine_later : (s : Walked) (n k : ℕ) → Fine s n → n ≤ k → Fine s k
fine_later s n k f g = record {
  scope = λ x l. f.scope x (omega arith);
  used = λ x l. f.used x (omega arith);
  always = λ x l. f.always x (omega arith);
  levels = f.levels;
}

fine_deeper : (s : Walked) (n : ℕ) → Fine s n → Fine (deeper s) n
fine_deeper s n f = record { scope = f.scope; used = f.used; always = f.always; levels = λ x e h. let g = f.levels x e h in omega arith }

new_level : (b : Bool) (e g : Entry) (o : Option Entry) (l : ℕ) → e.level ≤ l → (o ≡ Some g → g.level ≤ l) → (if b then Some e else o) ≡ Some g → g.level ≤ l
new_level true e g o l h f k = let z : e ≡ g = cc in subst (λ q. q.level ≤ l) z h
new_level false e g o l h f k = f k

fine_enter : (s : Walked) (n : ℕ) (k : Ownership) (m : Mark) → Fine s n → n ≤ m.id → Fine (enter s k m) (suc m.id)
fine_enter s n k m f g = record {
  scope = λ x l. look_end s.scope (entry s k m) x ∙ (let e = apart_test m.id x (omega arith) in let r = f.scope x (omega arith) in rw (e) r);
  used = λ x l. f.used x (omega arith);
  always = λ x l. f.always x (omega arith);
  levels = λ x e h. new_level (m.id == x) (entry s k m) e (look s.scope x) s.level (omega arith) (f.levels x e) (sym (look_end s.scope (entry s k m) x) ∙ h);
}

-- ---- statuses along the walk

has_uses : (x : ℕ) (e : Shape) → has (uses e) x ≡ owns x e
has_uses x Skip = refl
has_uses x (Use m) = or_false (m.id == x)
has_uses x (Lend m) = refl
has_uses x (Fault q m) = refl
has_uses x (Then a b) = has_append (uses a) (uses b) x ∙ same_or (has (uses a) x) (has (uses b) x) (owns x a) (owns x b) (has_uses x a) (has_uses x b)
has_uses x (Either a b) = has_append (uses a) (uses b) x ∙ same_or (has (uses a) x) (has (uses b) x) (owns x a) (owns x b) (has_uses x a) (has_uses x b)
has_uses x (Bound a) = has_uses x a
has_uses x (Scope k m a) = has_uses x a

kind_used : (k : Ownership) (u o h : Bool) → of_kind k (u || o) h ≡ used_up o (of_kind k u h)
kind_used Scalar u o h = refl
kind_used Borrowed u o h = refl
kind_used Owned u o h = refl

entry_used : (q : Option Entry) (u o : Bool) (l : ℕ) → of_entry q (u || o) l ≡ used_up o (of_entry q u l)
entry_used None u o l = refl
entry_used (Some e) u o l = kind_used e.ownership u o (e.level == l)

status_run : (s : Walked) (a : Shape) (x : ℕ) → status (run s a) x ≡ used_up (owns x a) (status s x)
status_run s a x = ap (λ b. of_entry (look s.scope x) b s.level) (has_append s.used (uses a) x ∙ ap (λ b. has s.used x || b) (has_uses x a)) ∙ entry_used (look s.scope x) (has s.used x) (owns x a) s.level

kind_sunk : (k : Ownership) (u h : Bool) → of_kind k u false ≡ sunk (of_kind k u h)
kind_sunk Scalar u h = refl
kind_sunk Borrowed u h = refl
kind_sunk Owned u h = refl

entry_sunk : (q : Option Entry) (u : Bool) (l : ℕ) → ((e : Entry) → q ≡ Some e → e.level ≤ l) → of_entry q u (suc l) ≡ sunk (of_entry q u l)
entry_sunk None u l f = refl
entry_sunk (Some e) u l f = ap (of_kind e.ownership u) (apart_test e.level (suc l) (let g = f e refl in omega arith)) ∙ kind_sunk e.ownership u (e.level == l)

status_deeper : (s : Walked) (n x : ℕ) → Fine s n → status (deeper s) x ≡ sunk (status s x)
status_deeper s n x f = entry_sunk (look s.scope x) (has s.used x) s.level (f.levels x)

-- ---- each form

then_bare : (h : Bool) (i : ℕ) (a b : Shape) (v : Breach) → Bare i h (Then a b) v ↔ (Bare i h a v ⊎ Bare i h b v)
then_bare true i a b v = (λ h. h, λ h. h)
then_bare false i a b v = (λ h. h, λ h. h)

-- earlier or before; used says whether x was used before
module _ (u o : Bool) (A B U V : Type 0) where
  after_one : (A ⊎ (B ⊎ ((o ≡ true) × V))) ⊎ ((u ≡ true) × (U ⊎ V)) → (A ⊎ ((u ≡ true) × U)) ⊎ (B ⊎ (((u || o) ≡ true) × V))
  after_one (inl (inl h)) = inl (inl h)
  after_one (inl (inr (inl h))) = inr (inl h)
  after_one (inl (inr (inr h))) = inr (inr (or_right u o h.0, h.1))
  after_one (inr (e, inl h)) = inl (inr (e, h))
  after_one (inr (e, inr h)) = inr (inr (or_left u o e, h))

  before_one : (A ⊎ ((u ≡ true) × U)) ⊎ (B ⊎ (((u || o) ≡ true) × V)) → (A ⊎ (B ⊎ ((o ≡ true) × V))) ⊎ ((u ≡ true) × (U ⊎ V))
  before_one (inl (inl h)) = inl (inl h)
  before_one (inl (inr h)) = inr (h.0, inl h.1)
  before_one (inr (inl h)) = inl (inr (inl h))
  before_one (inr (inr h)) = elim (or_split u o h.0) [ inl e ↦ inr (e, inr h.1) | inr e ↦ inl (inr (inr (e, h.1))) ]

  one_is : ((A ⊎ (B ⊎ ((o ≡ true) × V))) ⊎ ((u ≡ true) × (U ⊎ V))) ↔ ((A ⊎ ((u ≡ true) × U)) ⊎ (B ⊎ (((u || o) ≡ true) × V)))
  one_is = (after_one, before_one)

none_is : ⊥ ↔ (⊥ ⊎ ⊥)
none_is = (λ h. absurd h, λ h. elim h as (λ x. ⊥) [ inl k ↦ k | inr k ↦ k ])

then_is : (i : ℕ) (t : Status) (a b : Shape) (v : Breach) → Faults i t (Then a b) v ↔ (Faults i t a v ⊎ Faults i (used_up (owns v.mark.id a) t) b v)
then_is i Idle a b v = none_is
then_is i Lent a b v = (λ h. h, λ h. h)
then_is i (Own u h) a b v =
    let o = owns v.mark.id a in
    let P = one_is u o (Again i a v) (Again i b v) (Uses E50 i a v) (Uses E50 i b v) in
    let Q = one_is u o (Late i a v) (Late i b v) (Lends E51 i a v) (Lends E51 i b v) in
    let A = Again i a v ⊎ ((u ≡ true) × Uses E50 i a v) in
    let B = Again i b v ⊎ (((u || o) ≡ true) × Uses E50 i b v) in
    let C = Late i a v ⊎ ((u ≡ true) × Lends E51 i a v) in
    let D = Late i b v ⊎ (((u || o) ≡ true) × Lends E51 i b v) in
    let R = sum_is (Late i (Then a b) v ⊎ ((u ≡ true) × Lends E51 i (Then a b) v)) (C ⊎ D) (Bare i h (Then a b) v) (Bare i h a v ⊎ Bare i h b v) Q (then_bare h i a b v) in
    let S = along ((Late i (Then a b) v ⊎ ((u ≡ true) × Lends E51 i (Then a b) v)) ⊎ Bare i h (Then a b) v) ((C ⊎ D) ⊎ (Bare i h a v ⊎ Bare i h b v)) ((C ⊎ Bare i h a v) ⊎ (D ⊎ Bare i h b v)) R (mix C D (Bare i h a v) (Bare i h b v)) in
    along (Faults i (Own u h) (Then a b) v) ((A ⊎ B) ⊎ ((C ⊎ Bare i h a v) ⊎ (D ⊎ Bare i h b v))) ((A ⊎ (C ⊎ Bare i h a v)) ⊎ (B ⊎ (D ⊎ Bare i h b v)))
    (sum_is (Again i (Then a b) v ⊎ ((u ≡ true) × Uses E50 i (Then a b) v)) (A ⊎ B) ((Late i (Then a b) v ⊎ ((u ≡ true) × Lends E51 i (Then a b) v)) ⊎ Bare i h (Then a b) v) ((C ⊎ Bare i h a v) ⊎ (D ⊎ Bare i h b v)) P S)
    (mix A B (C ⊎ Bare i h a v) (D ⊎ Bare i h b v))

module _ (u : Bool) (A B U V : Type 0) where
  either_one : (A ⊎ B) ⊎ ((u ≡ true) × (U ⊎ V)) → (A ⊎ ((u ≡ true) × U)) ⊎ (B ⊎ ((u ≡ true) × V))
  either_one (inl (inl h)) = inl (inl h)
  either_one (inl (inr h)) = inr (inl h)
  either_one (inr (e, inl h)) = inl (inr (e, h))
  either_one (inr (e, inr h)) = inr (inr (e, h))

  one_either : (A ⊎ ((u ≡ true) × U)) ⊎ (B ⊎ ((u ≡ true) × V)) → (A ⊎ B) ⊎ ((u ≡ true) × (U ⊎ V))
  one_either (inl (inl h)) = inl (inl h)
  one_either (inl (inr h)) = inr (h.0, inl h.1)
  one_either (inr (inl h)) = inl (inr h)
  one_either (inr (inr h)) = inr (h.0, inr h.1)

  alike_is : ((A ⊎ B) ⊎ ((u ≡ true) × (U ⊎ V))) ↔ ((A ⊎ ((u ≡ true) × U)) ⊎ (B ⊎ ((u ≡ true) × V)))
  alike_is = (either_one, one_either)

either_bare : (h : Bool) (i : ℕ) (a b : Shape) (v : Breach) → Bare i h (Either a b) v ↔ (Bare i h a v ⊎ Bare i h b v)
either_bare true i a b v = (λ h. h, λ h. h)
either_bare false i a b v = (λ h. h, λ h. h)

either_is : (i : ℕ) (t : Status) (a b : Shape) (v : Breach) → Faults i t (Either a b) v ↔ (Faults i t a v ⊎ Faults i t b v)
either_is i Idle a b v = none_is
either_is i Lent a b v = (λ h. h, λ h. h)
either_is i (Own u h) a b v =
    let P = alike_is u (Again i a v) (Again i b v) (Uses E50 i a v) (Uses E50 i b v) in
    let Q = alike_is u (Late i a v) (Late i b v) (Lends E51 i a v) (Lends E51 i b v) in
    let A = Again i a v ⊎ ((u ≡ true) × Uses E50 i a v) in
    let B = Again i b v ⊎ ((u ≡ true) × Uses E50 i b v) in
    let C = Late i a v ⊎ ((u ≡ true) × Lends E51 i a v) in
    let D = Late i b v ⊎ ((u ≡ true) × Lends E51 i b v) in
    let R = sum_is (Late i (Either a b) v ⊎ ((u ≡ true) × Lends E51 i (Either a b) v)) (C ⊎ D) (Bare i h (Either a b) v) (Bare i h a v ⊎ Bare i h b v) Q (either_bare h i a b v) in
    let S = along ((Late i (Either a b) v ⊎ ((u ≡ true) × Lends E51 i (Either a b) v)) ⊎ Bare i h (Either a b) v) ((C ⊎ D) ⊎ (Bare i h a v ⊎ Bare i h b v)) ((C ⊎ Bare i h a v) ⊎ (D ⊎ Bare i h b v)) R (mix C D (Bare i h a v) (Bare i h b v)) in
    along (Faults i (Own u h) (Either a b) v) ((A ⊎ B) ⊎ ((C ⊎ Bare i h a v) ⊎ (D ⊎ Bare i h b v))) ((A ⊎ (C ⊎ Bare i h a v)) ⊎ (B ⊎ (D ⊎ Bare i h b v)))
    (sum_is (Again i (Either a b) v ⊎ ((u ≡ true) × Uses E50 i (Either a b) v)) (A ⊎ B) ((Late i (Either a b) v ⊎ ((u ≡ true) × Lends E51 i (Either a b) v)) ⊎ Bare i h (Either a b) v) ((C ⊎ Bare i h a v) ⊎ (D ⊎ Bare i h b v)) P S)
    (mix A B (C ⊎ Bare i h a v) (D ⊎ Bare i h b v))

scope_bare : (h : Bool) (i : ℕ) (k : Ownership) (m : Mark) (a : Shape) (v : Breach) → Bare i h (Scope k m a) v ↔ Bare i h a v
scope_bare true i k m a v = (λ h. h, λ h. h)
scope_bare false i k m a v = (λ h. h, λ h. h)

same_is : (A : Type 0) → A ↔ A
same_is A = (λ h. h, λ h. h)

scope_same : (i : ℕ) (t : Status) (k : Ownership) (m : Mark) (a : Shape) (v : Breach) → Faults i t (Scope k m a) v ↔ Faults i t a v
scope_same i Idle k m a v = same_is ⊥
scope_same i Lent k m a v = same_is (Uses E53 i a v)
scope_same i (Own u h) k m a v =
    sum_is (Again i a v ⊎ ((u ≡ true) × Uses E50 i a v)) (Again i a v ⊎ ((u ≡ true) × Uses E50 i a v)) ((Late i a v ⊎ ((u ≡ true) × Lends E51 i a v)) ⊎ Bare i h (Scope k m a) v) ((Late i a v ⊎ ((u ≡ true) × Lends E51 i a v)) ⊎ Bare i h a v) (same_is (Again i a v ⊎ ((u ≡ true) × Uses E50 i a v)))
    (sum_is (Late i a v ⊎ ((u ≡ true) × Lends E51 i a v)) (Late i a v ⊎ ((u ≡ true) × Lends E51 i a v)) (Bare i h (Scope k m a) v) (Bare i h a v) (same_is (Late i a v ⊎ ((u ≡ true) × Lends E51 i a v))) (scope_bare h i k m a v))

-- ---- the bound expression of a let

deep_owns : (i : ℕ) (a : Shape) (v : Breach) → Deep i a v → owns v.mark.id a ≡ true
deep_owns i Skip v h = absurd h
deep_owns i (Use m) v h = absurd h
deep_owns i (Lend m) v h = absurd h
deep_owns i (Fault q m) v h = absurd h
deep_owns i (Then a b) v (inl h) = or_left (owns v.mark.id a) (owns v.mark.id b) (deep_owns i a v h)
deep_owns i (Then a b) v (inr h) = or_right (owns v.mark.id a) (owns v.mark.id b) (deep_owns i b v h)
deep_owns i (Either a b) v (inl h) = or_left (owns v.mark.id a) (owns v.mark.id b) (deep_owns i a v h)
deep_owns i (Either a b) v (inr h) = or_right (owns v.mark.id a) (owns v.mark.id b) (deep_owns i b v h)
deep_owns i (Bound a) v h = h.0
deep_owns i (Scope k m a) v h = deep_owns i a v h

exposed_split : (i : ℕ) (a : Shape) (v : Breach) → Exposed i a v → Deep i a v ⊎ Direct i a v
exposed_split i Skip v h = absurd h
exposed_split i (Use m) v h = absurd h
exposed_split i (Lend m) v h = inr h
exposed_split i (Fault q m) v h = absurd h
exposed_split i (Then a b) v (inl h) = elim (exposed_split i a v h) [ inl g ↦ inl (inl g) | inr g ↦ inr (inl g) ]
exposed_split i (Then a b) v (inr h) = elim (exposed_split i b v h) [ inl g ↦ inl (inr g) | inr g ↦ inr (inr g) ]
exposed_split i (Either a b) v (inl h) = elim (exposed_split i a v h) [ inl g ↦ inl (inl g) | inr g ↦ inr (inl g) ]
exposed_split i (Either a b) v (inr h) = elim (exposed_split i b v h) [ inl g ↦ inl (inr g) | inr g ↦ inr (inr g) ]
exposed_split i (Bound a) v h = inl h
exposed_split i (Scope k m a) v h = exposed_split i a v h

deep_exposed : (i : ℕ) (a : Shape) (v : Breach) → Deep i a v → Exposed i a v
deep_exposed i Skip v h = absurd h
deep_exposed i (Use m) v h = absurd h
deep_exposed i (Lend m) v h = absurd h
deep_exposed i (Fault q m) v h = absurd h
deep_exposed i (Then a b) v (inl h) = inl (deep_exposed i a v h)
deep_exposed i (Then a b) v (inr h) = inr (deep_exposed i b v h)
deep_exposed i (Either a b) v (inl h) = inl (deep_exposed i a v h)
deep_exposed i (Either a b) v (inr h) = inr (deep_exposed i b v h)
deep_exposed i (Bound a) v h = h
deep_exposed i (Scope k m a) v h = deep_exposed i a v h

direct_exposed : (i : ℕ) (a : Shape) (v : Breach) → Direct i a v → Exposed i a v
direct_exposed i Skip v h = absurd h
direct_exposed i (Use m) v h = absurd h
direct_exposed i (Lend m) v h = h
direct_exposed i (Fault q m) v h = absurd h
direct_exposed i (Then a b) v (inl h) = inl (direct_exposed i a v h)
direct_exposed i (Then a b) v (inr h) = inr (direct_exposed i b v h)
direct_exposed i (Either a b) v (inl h) = inl (direct_exposed i a v h)
direct_exposed i (Either a b) v (inr h) = inr (direct_exposed i b v h)
direct_exposed i (Bound a) v h = absurd h
direct_exposed i (Scope k m a) v h = direct_exposed i a v h

exposed-append : (i : ℕ) (xs ys : List Mark) (us : List ℕ) → exposed i (xs ++ ys) us ≡ exposed i xs us ++ exposed i ys us
exposed-append i [] ys us = refl
exposed-append i (m ∷ xs) ys us = ap (λ q. when (has us m.id) (broken E54 i m) ++ q) (exposed-append i xs ys us) ∙ sym (append_assoc (when (has us m.id) (broken E54 i m)) (exposed i xs us) (exposed i ys us))

abbrev owned_entry : Option Entry → Bool
owned_entry None = false
owned_entry (Some e) = is_owned e.ownership

-- what a bound expression's end finds at a variable of the scope around
abbrev Ends : ℕ → List Entry → List ℕ → Shape → Breach → Type 0
Ends i es us a v = ((owned_entry (look es v.mark.id) && has us v.mark.id) ≡ true) × Direct i a v

-- Es around, fs at the place: variables of es are seen there, at a level below; the others have the level of the place.
abbrev Seen : List Entry → List Entry → ℕ → ℕ → Type 0
Seen es fs l n = (x : ℕ) (e : Entry) → (look es x ≡ Some e → (look fs x ≡ Some e) × (((e.level == l) ≡ false) × (x < n))) × (look fs x ≡ Some e → (e.level == l) ≡ false → look es x ≡ Some e)

hidden : (b : Bool) (e g : Entry) (o : Option Entry) → b ≡ false → o ≡ Some e → (if b then Some g else o) ≡ Some e
hidden true e g o h k = absurd (cc)
hidden false e g o h k = k

own_level : (e g : Entry) (l : ℕ) → g.level ≡ l → g ≡ e → (e.level == l) ≡ true
own_level e g l h k = same_test e.level l (ap (λ (q : Entry). q.level) (sym k) ∙ h)

not_new : (b : Bool) (e g : Entry) (o : Option Entry) (l : ℕ) → g.level ≡ l → (if b then Some g else o) ≡ Some e → (e.level == l) ≡ false → o ≡ Some e
not_new true e g o l q h k = let z : g ≡ e = cc in absurd (let y = own_level e g l q z in cc)
not_new false e g o l q h k = h

seen_enter : (es fs : List Entry) (l n : ℕ) (k : Ownership) (m : Mark) → Seen es fs l n → n ≤ m.id → Seen es (fs ++ record { mark = m; ownership = k; level = l } ∷ []) l (suc m.id)
seen_enter es fs l n k m f g = λ x e.
    let r : Entry = record { mark = m; ownership = k; level = l } in (
      λ h.
          let t = (f x e).0 h in
          let lt : x < n = t.1.1 in
          (look_end fs r x ∙ hidden (m.id == x) e r (look fs x) (apart_back x m.id (omega arith)) t.0, (t.1.0, omega arith)),
      λ h c. (f x e).1 (not_new (m.id == x) e r (look fs x) l refl (sym (look_end fs r x) ∙ h) c) c,
    )

seen_later : (es fs : List Entry) (l n k : ℕ) → Seen es fs l n → n ≤ k → Seen es fs l k
seen_later es fs l n k f g = λ x e. (λ h. let t = (f x e).0 h in let lt : x < n = t.1.1 in (t.0, (t.1.0, omega arith)), (f x e).1)

owned_some : (o : Option Entry) → owned_entry o ≡ true → (e : Entry) × (o ≡ Some e)
owned_some None h = absurd (cc)
owned_some (Some e) h = (e, refl)

in_waits : (o c : Bool) (i : ℕ) (us : List ℕ) (m : Mark) (v : Breach) → In v (exposed i (if o && not c then m ∷ [] else []) us) → (o ≡ true) × (c ≡ false) × (has us m.id ≡ true) × (v ≡ broken E54 i m)
in_waits false c i us m v h = absurd h
in_waits true true i us m v h = absurd h
in_waits true false i us m v h = elim (in_either v (when (has us m.id) (broken E54 i m)) [] h) [ inl g ↦ (refl, refl, (of_when (has us m.id) (broken E54 i m) v g).0, (of_when (has us m.id) (broken E54 i m) v g).1) | inr g ↦ absurd g ]

in_waiting : (q : Option Entry) (i l : ℕ) (us : List ℕ) (m : Mark) (v : Breach) → In v (exposed i (if_waits q l m) us) → (e : Entry) × (q ≡ Some e) × (is_owned e.ownership ≡ true) × ((e.level == l) ≡ false) × (has us m.id ≡ true) × (v ≡ broken E54 i m)
in_waiting None i l us m v h = absurd h
in_waiting (Some e) i l us m v h = let t = in_waits (is_owned e.ownership) (e.level == l) i us m v h in (e, refl, t.0, t.1, t.2, t.3)

waits_in : (o c : Bool) (i : ℕ) (us : List ℕ) (m : Mark) (v : Breach) → o ≡ true → c ≡ false → has us m.id ≡ true → v ≡ broken E54 i m → In v (exposed i (if o && not c then m ∷ [] else []) us)
waits_in false c i us m v a b h k = absurd (cc)
waits_in true true i us m v a b h k = absurd (cc)
waits_in true false i us m v a b h k = in_left v (when (has us m.id) (broken E54 i m)) [] (to_when (has us m.id) (broken E54 i m) v h k)

waiting_in : (q : Option Entry) (e : Entry) (i l : ℕ) (us : List ℕ) (m : Mark) (v : Breach) → q ≡ Some e → is_owned e.ownership ≡ true → (e.level == l) ≡ false → has us m.id ≡ true → v ≡ broken E54 i m → In v (exposed i (if_waits q l m) us)
waiting_in None e i l us m v g o n h k = absurd (cc)
waiting_in (Some f) e i l us m v g o n h k = let z : f ≡ e = cc in waits_in (is_owned f.ownership) (f.level == l) i us m v (ap (λ (q : Entry). is_owned q.ownership) z ∙ o) (ap (λ (q : Entry). q.level == l) z ∙ n) h k

number_of : (i : ℕ) (r : Rule) (m : Mark) (v : Breach) → v ≡ broken r i m → v.mark.id ≡ m.id
number_of i r m v e = ap (λ (w : Breach). w.mark.id) e

ends_both : (A B C : Type 0) → (A × (B ⊎ C)) ↔ ((A × B) ⊎ (A × C))
ends_both A B C = (λ h. elim h.1 as (λ x. (A × B) ⊎ (A × C)) [ inl k ↦ inl (h.0, k) | inr k ↦ inr (h.0, k) ], λ h. elim h as (λ x. A × (B ⊎ C)) [ inl k ↦ (k.0, inl k.1) | inr k ↦ (k.0, inr k.1) ])

end_is : (i l n : ℕ) (es fs : List Entry) (us : List ℕ) (a : Shape) (v : Breach) → Seen es fs l n → Ordered n a → In v (exposed i (waits fs l a) us) ↔ Ends i es us a v
end_is i l n es fs us Skip v f h = (λ g. absurd g, λ g. absurd g.1)
end_is i l n es fs us (Use m) v f h = (λ g. absurd g, λ g. absurd g.1)
end_is i l n es fs us (Lend m) v f h = (
  λ g.
      let t = in_waiting (look fs m.id) i l us m v g in
      let c : (owned_entry (look es m.id) && has us m.id) ≡ true = and_both (owned_entry (look es m.id)) (has us m.id) (ap owned_entry ((f m.id t.0).1 t.1 t.3) ∙ t.2) t.4 in
      (subst (λ x. (owned_entry (look es x) && has us x) ≡ true) (sym (number_of i E54 m v t.5)) c, t.5),
  λ g.
      let c : (owned_entry (look es m.id) && has us m.id) ≡ true = subst (λ x. (owned_entry (look es x) && has us x) ≡ true) (number_of i E54 m v g.1) g.0 in
      let k = and_left (owned_entry (look es m.id)) (has us m.id) c in
      let o = owned_some (look es m.id) k in
      let t = (f m.id o.0).0 o.1 in
      waiting_in (look fs m.id) o.0 i l us m v t.0 (sym (ap owned_entry o.1) ∙ k) t.1.0 (and_right (owned_entry (look es m.id)) (has us m.id) c) g.1,
)
end_is i l n es fs us (Fault q m) v f h = (λ g. absurd g, λ g. absurd g.1)
end_is i l n es fs us (Then a b) v f h =
    let g = next_le n a h.0 in
    let C = (owned_entry (look es v.mark.id) && has us v.mark.id) ≡ true in
    along (In v (exposed i (waits fs l a ++ waits fs l b) us)) (Ends i es us a v ⊎ Ends i es us b v) (Ends i es us (Then a b) v)
    (subst (λ xs. In v xs ↔ (Ends i es us a v ⊎ Ends i es us b v)) (sym (exposed-append i (waits fs l a) (waits fs l b) us)) (append_is v (exposed i (waits fs l a) us) (exposed i (waits fs l b) us) (Ends i es us a v) (Ends i es us b v) (end_is i l n es fs us a v f h.0) (end_is i l (next n a) es fs us b v (seen_later es fs l n (next n a) f g) h.1)))
    (turned (C × (Direct i a v ⊎ Direct i b v)) ((C × Direct i a v) ⊎ (C × Direct i b v)) (ends_both C (Direct i a v) (Direct i b v)))
end_is i l n es fs us (Either a b) v f h =
    let g = next_le n a h.0 in
    let C = (owned_entry (look es v.mark.id) && has us v.mark.id) ≡ true in
    along (In v (exposed i (waits fs l a ++ waits fs l b) us)) (Ends i es us a v ⊎ Ends i es us b v) (Ends i es us (Either a b) v)
    (subst (λ xs. In v xs ↔ (Ends i es us a v ⊎ Ends i es us b v)) (sym (exposed-append i (waits fs l a) (waits fs l b) us)) (append_is v (exposed i (waits fs l a) us) (exposed i (waits fs l b) us) (Ends i es us a v) (Ends i es us b v) (end_is i l n es fs us a v f h.0) (end_is i l (next n a) es fs us b v (seen_later es fs l n (next n a) f g) h.1)))
    (turned (C × (Direct i a v ⊎ Direct i b v)) ((C × Direct i a v) ⊎ (C × Direct i b v)) (ends_both C (Direct i a v) (Direct i b v)))
end_is i l n es fs us (Bound a) v f h = (λ g. absurd g, λ g. absurd g.1)
end_is i l n es fs us (Scope k m a) v f h = end_is i l (suc m.id) es (fs ++ record { mark = m; ownership = k; level = l } ∷ []) us a v (seen_enter es fs l n k m f h.0) h.1

-- the status of a variable reports whether it is owned
abbrev is_own : Status → Bool
is_own Idle = false
is_own Lent = false
is_own (Own u h) = true

kind_own : (k : Ownership) (u h : Bool) → is_owned k ≡ is_own (of_kind k u h)
kind_own Scalar u h = refl
kind_own Borrowed u h = refl
kind_own Owned u h = refl

entry_own : (q : Option Entry) (u : Bool) (l : ℕ) → owned_entry q ≡ is_own (of_entry q u l)
entry_own None u l = refl
entry_own (Some e) u l = kind_own e.ownership u (e.level == l)

bare_bound : (h : Bool) (i : ℕ) (a : Shape) (v : Breach) → Bare i h (Bound a) v ↔ ((owns v.mark.id a ≡ true) × Exposed i a v)
bare_bound true i a v = same_is ((owns v.mark.id a ≡ true) × Exposed i a v)
bare_bound false i a v = same_is ((owns v.mark.id a ≡ true) × Exposed i a v)

-- in the bound expression, or found at its end
bound_is : (i : ℕ) (t : Status) (o : Bool) (a : Shape) (v : Breach) → o ≡ owns v.mark.id a → (Faults i (sunk t) a v ⊎ (((is_own t && o) ≡ true) × Direct i a v)) ↔ Faults i t (Bound a) v
bound_is i Idle o a v e = (λ h. elim h as (λ x. ⊥) [ inl k ↦ k | inr k ↦ absurd (let z = k.0 in cc) ], λ h. absurd h)
bound_is i Lent o a v e = (λ h. elim h as (λ x. Uses E53 i a v) [ inl k ↦ k | inr k ↦ absurd (let z = k.0 in cc) ], λ h. inl h)
bound_is i (Own u h) o a v e = (
  λ g. elim g as (λ x. Faults i (Own u h) (Bound a) v) [
    | inl k ↦ elim k as (λ x. Faults i (Own u h) (Bound a) v) [
      | inl r ↦ inl r
      | inr r ↦ elim r as (λ x. Faults i (Own u h) (Bound a) v) [
        | inl q ↦ inr (inl q)
        | inr q ↦ inr (inr ((bare_bound h i a v).1 (deep_owns i a v q, deep_exposed i a v q)))
      ]
    ]
    | inr k ↦ inr (inr ((bare_bound h i a v).1 (sym e ∙ k.0, direct_exposed i a v k.1)))
  ],
  λ g. elim g as (λ x. Faults i (Own u false) a v ⊎ ((o ≡ true) × Direct i a v)) [
    | inl r ↦ inl (inl r)
    | inr r ↦ elim r as (λ x. Faults i (Own u false) a v ⊎ ((o ≡ true) × Direct i a v)) [
      | inl q ↦ inl (inr (inl q))
      | inr q ↦ let z = (bare_bound h i a v).0 q in elim (exposed_split i a v z.1) as (λ x. Faults i (Own u false) a v ⊎ ((o ≡ true) × Direct i a v)) [ inl w ↦ inl (inr (inr w)) | inr w ↦ inr (e ∙ z.0, w) ]
    ]
  ],
)

-- ---- leaves

used_leaf : (i : ℕ) (u h : Bool) (m : Mark) (v : Breach) → Faults i (Own u h) (Use m) v → (u ≡ true) × (v ≡ broken E50 i m)
used_leaf i u h m v (inl (inl g)) = absurd g
used_leaf i u h m v (inl (inr g)) = g
used_leaf i u h m v (inr (inl (inl g))) = absurd g
used_leaf i u h m v (inr (inl (inr g))) = absurd g.1
used_leaf i u true m v (inr (inr g)) = absurd g
used_leaf i u false m v (inr (inr g)) = absurd g

use_kind : (i : ℕ) (k : Ownership) (u h : Bool) (m : Mark) (v : Breach) → In v (use_of k i u m) ↔ (Faults i (of_kind k u h) (Use m) v)
use_kind i Scalar u h m v = (λ g. absurd g, λ g. absurd g)
use_kind i Borrowed u h m v = (λ g. elim g as (λ x. v ≡ broken E53 i m) [ inl e ↦ e | inr k ↦ absurd k ], λ g. inl g)
use_kind i Owned u h m v = (λ g. let t = of_when u (broken E50 i m) v g in inl (inr t), λ g. to_when u (broken E50 i m) v (used_leaf i u h m v g).0 (used_leaf i u h m v g).1)

use_entry : (i l : ℕ) (q : Option Entry) (u : Bool) (m : Mark) (v : Breach) → In v (use_notes q i u m) ↔ Faults i (of_entry q u l) (Use m) v
use_entry i l None u m v = (λ g. absurd g, λ g. absurd g)
use_entry i l (Some e) u m v = use_kind i e.ownership u (e.level == l) m v

lent_leaf : (i : ℕ) (u h : Bool) (m : Mark) (v : Breach) → Faults i (Own u h) (Lend m) v → In v (when u (broken E51 i m) ++ when h (broken E54 i m))
lent_leaf i u h m v (inl (inl g)) = absurd g
lent_leaf i u h m v (inl (inr g)) = absurd g.1
lent_leaf i u h m v (inr (inl (inl g))) = absurd g
lent_leaf i u h m v (inr (inl (inr g))) = in_left v (when u (broken E51 i m)) (when h (broken E54 i m)) (to_when u (broken E51 i m) v g.0 g.1)
lent_leaf i u true m v (inr (inr g)) = in_right v (when u (broken E51 i m)) (when true (broken E54 i m)) (inl g)
lent_leaf i u false m v (inr (inr g)) = absurd g

leaf_bare : (i : ℕ) (h : Bool) (m : Mark) (v : Breach) → h ≡ true → v ≡ broken E54 i m → Bare i h (Lend m) v
leaf_bare i true m v e g = g
leaf_bare i false m v e g = absurd (cc)

lend_kind : (i : ℕ) (k : Ownership) (u h : Bool) (m : Mark) (v : Breach) → In v (lend_of k i u h m) ↔ (Faults i (of_kind k u h) (Lend m) v)
lend_kind i Scalar u h m v = (λ g. absurd g, λ g. absurd g)
lend_kind i Borrowed u h m v = (λ g. absurd g, λ g. absurd g)
lend_kind i Owned u h m v = (
  λ g. elim (in_either v (when u (broken E51 i m)) (when h (broken E54 i m)) g) as (λ x. Faults i (Own u h) (Lend m) v) [
    | inl z ↦ inr (inl (inr (of_when u (broken E51 i m) v z)))
    | inr z ↦ let t = of_when h (broken E54 i m) v z in inr (inr (leaf_bare i h m v t.0 t.1))
  ],
  lent_leaf i u h m v,
)

lend_entry : (i l : ℕ) (q : Option Entry) (u : Bool) (m : Mark) (v : Breach) → In v (lend_notes q i u l m) ↔ Faults i (of_entry q u l) (Lend m) v
lend_entry i l None u m v = (λ g. absurd g, λ g. absurd g)
lend_entry i l (Some e) u m v = lend_kind i e.ownership u (e.level == l) m v

fault_of : (i : ℕ) (t : Status) (r : Rule) (m : Mark) (v : Breach) → Faults i t (Fault r m) v → ⊥
fault_of i Idle r m v g = g
fault_of i Lent r m v g = g
fault_of i (Own u h) r m v (inl (inl g)) = g
fault_of i (Own u h) r m v (inl (inr g)) = g.1
fault_of i (Own u h) r m v (inr (inl (inl g))) = g
fault_of i (Own u h) r m v (inr (inl (inr g))) = g.1
fault_of i (Own u true) r m v (inr (inr g)) = g
fault_of i (Own u false) r m v (inr (inr g)) = g

skip_of : (i : ℕ) (t : Status) (v : Breach) → Faults i t Skip v → ⊥
skip_of i Idle v g = g
skip_of i Lent v g = g
skip_of i (Own u h) v (inl (inl g)) = g
skip_of i (Own u h) v (inl (inr g)) = g.1
skip_of i (Own u h) v (inr (inl (inl g))) = g
skip_of i (Own u h) v (inr (inl (inr g))) = g.1
skip_of i (Own u true) v (inr (inr g)) = g
skip_of i (Own u false) v (inr (inr g)) = g

use_number : (i : ℕ) (t : Status) (m : Mark) (v : Breach) → Faults i t (Use m) v → v.mark.id ≡ m.id
use_number i Idle m v g = absurd g
use_number i Lent m v g = number_of i E53 m v g
use_number i (Own u h) m v g = number_of i E50 m v (used_leaf i u h m v g).1

lend_number : (i : ℕ) (t : Status) (m : Mark) (v : Breach) → Faults i t (Lend m) v → v.mark.id ≡ m.id
lend_number i Idle m v g = absurd g
lend_number i Lent m v g = absurd g
lend_number i (Own u h) m v g = elim (in_either v (when u (broken E51 i m)) (when h (broken E54 i m)) (lent_leaf i u h m v g)) as (λ x. v.mark.id ≡ m.id) [ inl z ↦ number_of i E51 m v (of_when u (broken E51 i m) v z).1 | inr z ↦ number_of i E54 m v (of_when h (broken E54 i m) v z).1 ]

leaf_is : (A B C : Type 0) → (A ↔ B) → (C → ⊥) → A ↔ (B ⊎ C)
leaf_is A B C f g = (λ h. inl (f.0 h), λ h. elim h as (λ x. A) [ inl k ↦ f.1 k | inr k ↦ absurd (g k) ])

-- ---- a scope

fresh_is : (i : ℕ) (k : Ownership) (a : Shape) (v : Breach) → Faults i (fresh k) a v ↔ Wrong i k a v
fresh_is i Scalar a v = same_is ⊥
fresh_is i Borrowed a v = same_is (Uses E53 i a v)
fresh_is i Owned a v = (
  λ g. elim g as (λ x. Wrong i Owned a v) [
    | inl r ↦ elim r as (λ x. Wrong i Owned a v) [ inl q ↦ inl q | inr q ↦ absurd (let z = q.0 in cc) ]
    | inr r ↦ elim r as (λ x. Wrong i Owned a v) [ inl q ↦ elim q as (λ x. Wrong i Owned a v) [ inl w ↦ inr (inl w) | inr w ↦ absurd (let z = w.0 in cc) ] | inr q ↦ inr (inr q) ]
  ],
  λ g. elim g as (λ x. Faults i (Own false true) a v) [
    | inl r ↦ inl (inl r)
    | inr r ↦ elim r as (λ x. Faults i (Own false true) a v) [ inl q ↦ inr (inl (inl q)) | inr q ↦ inr (inr q) ]
  ],
)

new_entry : (c : Bool) (e : Entry) (o : Option Entry) (u : Bool) (l : ℕ) → c ≡ true → u ≡ false → e.level ≡ l → of_entry (if c then Some e else o) u l ≡ fresh e.ownership
new_entry true e o u l f g h = rw (g) (ap (of_kind e.ownership false) (same_test e.level l h))
new_entry false e o u l f g h = absurd (cc)

old_entry : (c : Bool) (e : Entry) (o : Option Entry) (u : Bool) (l : ℕ) → c ≡ false → of_entry (if c then Some e else o) u l ≡ of_entry o u l
old_entry true e o u l f = absurd (cc)
old_entry false e o u l f = refl

status_new : (s : Walked) (n : ℕ) (k : Ownership) (m : Mark) (x : ℕ) → Fine s n → n ≤ m.id → (m.id == x) ≡ true → status (enter s k m) x ≡ fresh k
status_new s n k m x f g e = let z = same m.id x e in ap (λ o. of_entry o (has s.used x) s.level) (look_end s.scope (entry s k m) x) ∙ new_entry (m.id == x) (entry s k m) (look s.scope x) (has s.used x) s.level e (f.used x (omega arith)) refl

status_old : (s : Walked) (k : Ownership) (m : Mark) (x : ℕ) → (m.id == x) ≡ false → status (enter s k m) x ≡ status s x
status_old s k m x e = ap (λ o. of_entry o (has s.used x) s.level) (look_end s.scope (entry s k m) x) ∙ old_entry (m.id == x) (entry s k m) (look s.scope x) (has s.used x) s.level e

no_status : (s : Walked) (n : ℕ) (k : Ownership) (m : Mark) (x : ℕ) → Fine s n → n ≤ m.id → (m.id == x) ≡ true → status s x ≡ Idle
no_status s n k m x f g e = let z = same m.id x e in ap (λ o. of_entry o (has s.used x) s.level) (f.scope x (omega arith))

in_scope : (s : Walked) (n i : ℕ) (k : Ownership) (m : Mark) (a : Shape) (v : Breach) (c : Bool) → Fine s n → n ≤ m.id → (m.id == v.mark.id) ≡ c → Faults i (status (enter s k m) v.mark.id) a v ↔ (Faults i (status s v.mark.id) a v ⊎ ((m.id ≡ v.mark.id) × Wrong i k a v))
in_scope s n i k m a v true f g e = (
  λ h. inr (same m.id v.mark.id e, (fresh_is i k a v).0 (subst (λ t. Faults i t a v) (status_new s n k m v.mark.id f g e) h)),
  λ h. elim h as (λ x. Faults i (status (enter s k m) v.mark.id) a v) [
    | inl r ↦ absurd (subst (λ t. Faults i t a v) (no_status s n k m v.mark.id f g e) r)
    | inr r ↦ subst (λ t. Faults i t a v) (sym (status_new s n k m v.mark.id f g e)) ((fresh_is i k a v).1 r.1)
  ],
)
in_scope s n i k m a v false f g e = (
  λ h. inl (subst (λ t. Faults i t a v) (status_old s k m v.mark.id e) h),
  λ h. elim h as (λ x. Faults i (status (enter s k m) v.mark.id) a v) [
    | inl r ↦ subst (λ t. Faults i t a v) (sym (status_old s k m v.mark.id e)) r
    | inr r ↦ absurd (let z = same_test m.id v.mark.id r.0 in cc)
  ],
)

pub misses : (x : ℕ) (e : Shape) → has (always e) x ≡ false → Misses x e
misses x Skip h = tt
misses x (Use m) h = (or_both (m.id == x) false h).0
misses x (Lend m) h = tt
misses x (Fault q m) h = tt
misses x (Then a b) h = let g = or_both (has (always a) x) (has (always b) x) (sym (has_append (always a) (always b) x) ∙ h) in (misses x a g.0, misses x b g.1)
misses x (Either a b) h = elim (and_either (has (always a) x) (has (always b) x) (sym (has_both (always b) (always a) x) ∙ h)) as (λ z. Misses x a ⊎ Misses x b) [ inl g ↦ inl (misses x a g) | inr g ↦ inr (misses x b g) ]
misses x (Bound a) h = misses x a h
misses x (Scope k m a) h = misses x a h

pub missing : (x : ℕ) (e : Shape) → Misses x e → has (always e) x ≡ false
missing x Skip h = refl
missing x (Use m) h = or_none (m.id == x) false h refl
missing x (Lend m) h = refl
missing x (Fault q m) h = refl
missing x (Then a b) h = has_append (always a) (always b) x ∙ or_none (has (always a) x) (has (always b) x) (missing x a h.0) (missing x b h.1)
missing x (Either a b) (inl h) = has_both (always b) (always a) x ∙ and_none (has (always a) x) (has (always b) x) (missing x a h)
missing x (Either a b) (inr h) = has_both (always b) (always a) x ∙ and_zero (has (always a) x) (has (always b) x) (missing x b h)
missing x (Bound a) h = missing x a h
missing x (Scope k m a) h = missing x a h

missed_is : (i : ℕ) (fip : Bool) (k : Ownership) (m : Mark) (xs : List ℕ) (a : Shape) (v : Breach) → has xs m.id ≡ has (always a) m.id → In v (missed i fip k m xs) ↔ Unused i fip k m a v
missed_is i fip Owned m xs a v e = (
  λ h. let t = of_when (fip && not (has xs m.id)) (broken E52 i m) v h in (and_left fip (not (has xs m.id)) t.0, (misses m.id a (sym e ∙ not_true (has xs m.id) (and_right fip (not (has xs m.id)) t.0)), t.1)),
  λ h. to_when (fip && not (has xs m.id)) (broken E52 i m) v (and_true fip (not (has xs m.id)) h.0 (ap not (e ∙ missing m.id a h.1.0))) h.1.1,
)
missed_is i fip Borrowed m xs a v e = (λ h. absurd (let t = (of_when (fip && false) (broken E52 i m) v h).0 in let z = and_zero fip false refl in cc), λ h. absurd h)
missed_is i fip Scalar m xs a v e = (λ h. absurd (let t = (of_when (fip && false) (broken E52 i m) v h).0 in let z = and_zero fip false refl in cc), λ h. absurd h)

mixed_scope : (F W S U : Type 0) → (((F ⊎ S) ⊎ W) ⊎ U) → (F ⊎ ((W ⊎ S) ⊎ U))
mixed_scope F W S U (inl (inl (inl h))) = inl h
mixed_scope F W S U (inl (inl (inr h))) = inr (inl (inr h))
mixed_scope F W S U (inl (inr h)) = inr (inl (inl h))
mixed_scope F W S U (inr h) = inr (inr h)

scope_mixed : (F W S U : Type 0) → (F ⊎ ((W ⊎ S) ⊎ U)) → (((F ⊎ S) ⊎ W) ⊎ U)
scope_mixed F W S U (inl h) = inl (inl (inl h))
scope_mixed F W S U (inr (inl (inl h))) = inl (inr h)
scope_mixed F W S U (inr (inl (inr h))) = inl (inl (inr h))
scope_mixed F W S U (inr (inr h)) = inr h

bound_mixed : (F W E : Type 0) → ((F ⊎ W) ⊎ E) → ((F ⊎ E) ⊎ W)
bound_mixed F W E (inl (inl h)) = inl (inl h)
bound_mixed F W E (inl (inr h)) = inr h
bound_mixed F W E (inr h) = inl (inr h)

-- ---- all forms

notes_are : (i : ℕ) (fip : Bool) (s : Walked) (n : ℕ) (e : Shape) (v : Breach) → Fine s n → Ordered n e → In v (notes i fip s e) ↔ (Faults i (status s v.mark.id) e v ⊎ Breaks i fip e v)
notes_are i fip s n Skip v f o = (λ g. absurd g, λ g. elim g as (λ x. ⊥) [ inl k ↦ skip_of i (status s v.mark.id) v k | inr k ↦ k ])
notes_are i fip s n (Use m) v f o =
    let q = use_entry i s.level (look s.scope m.id) (has s.used m.id) m v in (
      λ g. let h = q.0 g in inl (subst (λ x. Faults i (status s x) (Use m) v) (sym (use_number i (status s m.id) m v h)) h),
      λ g. elim g as (λ x. In v (notes i fip s (Use m))) [ inl h ↦ q.1 (subst (λ x. Faults i (status s x) (Use m) v) (use_number i (status s v.mark.id) m v h) h) | inr h ↦ absurd h ],
    )
notes_are i fip s n (Lend m) v f o =
    let q = lend_entry i s.level (look s.scope m.id) (has s.used m.id) m v in (
      λ g. let h = q.0 g in inl (subst (λ x. Faults i (status s x) (Lend m) v) (sym (lend_number i (status s m.id) m v h)) h),
      λ g. elim g as (λ x. In v (notes i fip s (Lend m))) [ inl h ↦ q.1 (subst (λ x. Faults i (status s x) (Lend m) v) (lend_number i (status s v.mark.id) m v h) h) | inr h ↦ absurd h ],
    )
notes_are i fip s n (Fault r m) v f o = (
  λ g. elim g as (λ x. Faults i (status s v.mark.id) (Fault r m) v ⊎ (v ≡ broken r i m)) [ inl k ↦ inr k | inr k ↦ absurd k ],
  λ g. elim g as (λ x. In v (broken r i m ∷ [])) [ inl k ↦ absurd (fault_of i (status s v.mark.id) r m v k) | inr k ↦ inl k ],
)
notes_are i fip s n (Then a b) v f o =
    let t = status s v.mark.id in
    let u = used_up (owns v.mark.id a) t in
    let A = notes_are i fip s n a v f o.0 in
    let B = subst (λ t. In v (notes i fip (run s a) b) ↔ (Faults i t b v ⊎ Breaks i fip b v)) (status_run s a v.mark.id) (notes_are i fip (run s a) (next n a) b v (fine_run s n a f o.0) o.1) in
    along (In v (notes i fip s a ++ notes i fip (run s a) b)) ((Faults i t a v ⊎ Breaks i fip a v) ⊎ (Faults i u b v ⊎ Breaks i fip b v)) (Faults i t (Then a b) v ⊎ (Breaks i fip a v ⊎ Breaks i fip b v))
    (append_is v (notes i fip s a) (notes i fip (run s a) b) (Faults i t a v ⊎ Breaks i fip a v) (Faults i u b v ⊎ Breaks i fip b v) A B)
    (along ((Faults i t a v ⊎ Breaks i fip a v) ⊎ (Faults i u b v ⊎ Breaks i fip b v)) ((Faults i t a v ⊎ Faults i u b v) ⊎ (Breaks i fip a v ⊎ Breaks i fip b v)) (Faults i t (Then a b) v ⊎ (Breaks i fip a v ⊎ Breaks i fip b v))
    (mix (Faults i t a v) (Breaks i fip a v) (Faults i u b v) (Breaks i fip b v))
    (sum_is (Faults i t a v ⊎ Faults i u b v) (Faults i t (Then a b) v) (Breaks i fip a v ⊎ Breaks i fip b v) (Breaks i fip a v ⊎ Breaks i fip b v) (turned (Faults i t (Then a b) v) (Faults i t a v ⊎ Faults i u b v) (then_is i t a b v)) (same_is (Breaks i fip a v ⊎ Breaks i fip b v))))
notes_are i fip s n (Either a b) v f o =
    let t = status s v.mark.id in
    let g = next_le n a o.0 in
    let A = notes_are i fip s n a v f o.0 in
    let B = notes_are i fip s (next n a) b v (fine_later s n (next n a) f g) o.1 in
    along (In v (notes i fip s a ++ notes i fip s b)) ((Faults i t a v ⊎ Breaks i fip a v) ⊎ (Faults i t b v ⊎ Breaks i fip b v)) (Faults i t (Either a b) v ⊎ (Breaks i fip a v ⊎ Breaks i fip b v))
    (append_is v (notes i fip s a) (notes i fip s b) (Faults i t a v ⊎ Breaks i fip a v) (Faults i t b v ⊎ Breaks i fip b v) A B)
    (along ((Faults i t a v ⊎ Breaks i fip a v) ⊎ (Faults i t b v ⊎ Breaks i fip b v)) ((Faults i t a v ⊎ Faults i t b v) ⊎ (Breaks i fip a v ⊎ Breaks i fip b v)) (Faults i t (Either a b) v ⊎ (Breaks i fip a v ⊎ Breaks i fip b v))
    (mix (Faults i t a v) (Breaks i fip a v) (Faults i t b v) (Breaks i fip b v))
    (sum_is (Faults i t a v ⊎ Faults i t b v) (Faults i t (Either a b) v) (Breaks i fip a v ⊎ Breaks i fip b v) (Breaks i fip a v ⊎ Breaks i fip b v) (turned (Faults i t (Either a b) v) (Faults i t a v ⊎ Faults i t b v) (either_is i t a b v)) (same_is (Breaks i fip a v ⊎ Breaks i fip b v))))
notes_are i fip s n (Bound a) v f o =
    let x = v.mark.id in
    let t = status s x in
    let E = ((is_own t && owns x a) ≡ true) × Direct i a v in
    let A = subst (λ t. In v (notes i fip (deeper s) a) ↔ (Faults i t a v ⊎ Breaks i fip a v)) (status_deeper s n x f) (notes_are i fip (deeper s) n a v (fine_deeper s n f) o) in
    let seen : Seen s.scope s.scope (suc s.level) n = λ y e. (λ h. (h, (apart_test e.level (suc s.level) (let g = f.levels y e h in omega arith), below s n y e f h)), λ h g. h) in
    let same_end : ((owned_entry (look s.scope x) && has (uses a) x) ≡ true) ≡ ((is_own t && owns x a) ≡ true) = ap (λ (b : Bool). b ≡ true) (same_and (owned_entry (look s.scope x)) (has (uses a) x) (is_own t) (owns x a) (entry_own (look s.scope x) (has s.used x) s.level) (has_uses x a)) in
    let B : In v (exposed i (waits s.scope (suc s.level) a) (uses a)) ↔ E = subst (λ C. In v (exposed i (waits s.scope (suc s.level) a) (uses a)) ↔ (C × Direct i a v)) same_end (end_is i (suc s.level) n s.scope s.scope (uses a) a v seen o) in
    along (In v (notes i fip (deeper s) a ++ exposed i (waits s.scope (suc s.level) a) (uses a))) ((Faults i (sunk t) a v ⊎ Breaks i fip a v) ⊎ E) (Faults i t (Bound a) v ⊎ Breaks i fip a v)
    (append_is v (notes i fip (deeper s) a) (exposed i (waits s.scope (suc s.level) a) (uses a)) (Faults i (sunk t) a v ⊎ Breaks i fip a v) E A B)
    (along ((Faults i (sunk t) a v ⊎ Breaks i fip a v) ⊎ E) ((Faults i (sunk t) a v ⊎ E) ⊎ Breaks i fip a v) (Faults i t (Bound a) v ⊎ Breaks i fip a v)
    (bound_mixed (Faults i (sunk t) a v) (Breaks i fip a v) E, bound_mixed (Faults i (sunk t) a v) E (Breaks i fip a v))
    (sum_is (Faults i (sunk t) a v ⊎ E) (Faults i t (Bound a) v) (Breaks i fip a v) (Breaks i fip a v) (bound_is i t (owns x a) a v refl) (same_is (Breaks i fip a v))))
notes_are i fip s n (Scope k m a) v f o =
    let x = v.mark.id in
    let t = status s x in
    let u = status (enter s k m) x in
    let S = (m.id ≡ x) × Wrong i k a v in
    let W = Breaks i fip a v in
    let U = Unused i fip k m a v in
    let A = notes_are i fip (enter s k m) (suc m.id) a v (fine_enter s n k m f o.0) o.1 in
    let B = missed_is i fip k m (s.always ++ always a) a v (has_append s.always (always a) m.id ∙ (let z = f.always m.id o.0 in rw z refl)) in
    along (In v (notes i fip (enter s k m) a ++ missed i fip k m (s.always ++ always a))) ((Faults i u a v ⊎ W) ⊎ U) (Faults i t (Scope k m a) v ⊎ ((W ⊎ S) ⊎ U))
    (append_is v (notes i fip (enter s k m) a) (missed i fip k m (s.always ++ always a)) (Faults i u a v ⊎ W) U A B)
    (along ((Faults i u a v ⊎ W) ⊎ U) (((Faults i t a v ⊎ S) ⊎ W) ⊎ U) (Faults i t (Scope k m a) v ⊎ ((W ⊎ S) ⊎ U))
    (sum_is (Faults i u a v ⊎ W) ((Faults i t a v ⊎ S) ⊎ W) U U (sum_is (Faults i u a v) (Faults i t a v ⊎ S) W W (in_scope s n i k m a v (m.id == x) f o.0 refl) (same_is W)) (same_is U))
    (along (((Faults i t a v ⊎ S) ⊎ W) ⊎ U) (Faults i t a v ⊎ ((W ⊎ S) ⊎ U)) (Faults i t (Scope k m a) v ⊎ ((W ⊎ S) ⊎ U))
    (mixed_scope (Faults i t a v) W S U, scope_mixed (Faults i t a v) W S U)
    (sum_is (Faults i t a v) (Faults i t (Scope k m a) v) ((W ⊎ S) ⊎ U) ((W ⊎ S) ⊎ U) (turned (Faults i t (Scope k m a) v) (Faults i t a v) (scope_same i t k m a v)) (same_is ((W ⊎ S) ⊎ U)))))

fine_start : Fine nothing 0
fine_start = record { scope = λ x l. refl; used = λ x l. refl; always = λ x l. refl; levels = λ x e h. absurd (cc) }

pub notes_exact : (i : ℕ) (fip : Bool) (e : Shape) (v : Breach) → Ordered 0 e → In v (notes i fip nothing e) ↔ Breaks i fip e v
notes_exact i fip e v o =
    let q = notes_are i fip nothing 0 e v fine_start o in
    (λ g. elim (q.0 g) as (λ x. Breaks i fip e v) [ inl k ↦ absurd k | inr k ↦ k ], λ g. q.1 (inr g))
