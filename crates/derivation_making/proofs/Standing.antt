-- What holds of the variables that are there for a part of a body; and that it holds again within binders.
use Rattle.std.proofs.Common.{◌≡◌, ℕ, zero, suc, ◌≤◌, ◌+◌, ◌⊎◌, inl, inr, refl, sym, ap, subst, ◌∙◌, List, [], ◌++◌, length, Some, Bool, true, false, not, arith}
use Rattle.std.specs.Prelude.{◌||◌, if◌then◌else◌}
use Rattle.derivation_check.specs.fip_trees.declared.program.Binder.{Binder}
use Rattle.ownership_agreement.specs.fip_rules.World.{World}
use Rattle.ownership_agreement.specs.fip_rules.Shapes.{Names}
use Rattle.ownership_agreement.specs.ownership_calculus.Terms.{Term, Clauses, Results, Call, Let, Match, Take, LastClause, MoreClauses, Own, has}
use Rattle.ownership_agreement.specs.ownership_calculus.Rules.{worth}
use Rattle.ownership_agreement.specs.ownership_calculus.Clean.{outside, asks, asks_lent, asks_taken, fewest, fewest_of, Status, Free, Owned, fresh, after, lent, AllUsed, Clean, Even}
use Rattle.ownership_agreement.specs.ownership_calculus.Clean as K
use Rattle.ownership_agreement.proofs.ownership_calculus.Fit.{held, room, visible}
use Rattle.ownership_agreement.proofs.ownership_calculus.Forth.{clean_room, all_used_at}
use Rattle.ownership_agreement.specs.Bodies.{Scalars, variables}
use Rattle.ownership_agreement.proofs.Basics.{not_owned}
use Rattle.derivation_check.specs.Owned.{Rising}
use Rattle.derivation_check.specs.Scopes.{Known, Scope, known, named, binding, AreNumbered}
use Rattle.derivation_making.specs.Made.{those, all_those, numbers, added}
use Rattle.derivation_making.proofs.Lists.{tally, AreKnown, each_of, each_all, known_append, tally_those, tally_less, tally_append, numbers_append, rising_append, not_both}
use Rattle.derivation_making.proofs.Linking.{Linked, there_before, tally_added, named_known, added_known, base_known, added_rising}
use Rattle.derivation_making.proofs.Arguments.{Holding}
pub use Rattle.type_check.proofs.fip_language.Facts.{if_zero_mono as outside_mono}
use Rattle.ownership_agreement.proofs.ownership_calculus.Forth.{asks_at, few_at}

-- Of the variables that are there, s reports what each went through; a part asks for those that pass the test.
pub record Stands (w : World) (sp : Scope) (d : ℕ) (there : List Known) (s : ℕ → Status) (asked : ℕ → Bool) : Type 0 where
  pub are_known : AreKnown w sp.variables there
  pub rising : Rising 0 d (numbers there)
  pub few : (x : ℕ) → tally x there ≤ held (s x)
  pub kept : (x : ℕ) → asked x ≡ true → held (s x) ≤ tally x there
  pub lent : (x : ℕ) (v : Known) → known sp.variables x ≡ Some v → w.scalar v.ty ≡ false → asked x ≡ true → visible (s x) ≡ true → (not v.owned || sp.lent v.number) ≡ true

-- what the term of a part requires
pub record Asks (fip : Bool) (s : ℕ → Status) (t : Term) : Type 0 where
  pub all : fip ≡ true → (x : ℕ) → held (s x) ≤ fewest x t
  pub most : (x : ℕ) → asks (Own x) t ≤ held (s x)
  pub clean : Clean fip s t
  pub even : fip ≡ true → Even t

-- ---- in fip all that is there is asked for

mutual
  pub fewest_le : (e : Term) (x : ℕ) → fewest x e ≤ asks (Own x) e
  fewest_le (Results as') x = omega arith
  fewest_le (Call ok gs) x = omega arith
  fewest_le (Let xs a b) x = let l = fewest_le a x in let r = outside_mono (has xs x) (fewest x b) (asks (Own x) b) (fewest_le b x) in omega arith
  fewest_le (Match a cs) x = let h = fewest_le_lent cs x in omega arith
  fewest_le (Take y cs) x = let h = fewest_le_taken cs x in omega arith

  pub fewest_le_lent : (cs : Clauses) (x : ℕ) → fewest_of x cs ≤ asks_lent (Own x) cs
  fewest_le_lent (LastClause ys ks e) x = outside_mono (has ys x) (fewest x e) (asks (Own x) e) (fewest_le e x)
  fewest_le_lent (MoreClauses ys ks e cs) x = let l = outside_mono (has ys x) (fewest x e) (asks (Own x) e) (fewest_le e x) in let r = fewest_le_lent cs x in omega arith

  fewest_le_taken : (cs : Clauses) (x : ℕ) → fewest_of x cs ≤ asks_taken (Own x) cs
  fewest_le_taken (LastClause ys ks e) x = outside_mono (has ys x) (fewest x e) (asks (Own x) e) (fewest_le e x)
  fewest_le_taken (MoreClauses ys ks e cs) x = let l = outside_mono (has ys x) (fewest x e) (asks (Own x) e) (fewest_le e x) in let r = fewest_le_taken cs x in omega arith

pub all_asked : (fip : Bool) (w : World) (sp : Scope) (d : ℕ) (there : List Known) (s : ℕ → Status) (f : ℕ → Bool) (t : Term) → Stands w sp d there s f → Asks fip s t → ((x : ℕ) → 1 ≤ asks (Own x) t → f x ≡ true) → fip ≡ true → all_those f there ≡ true
all_asked fip w sp d there s f t h a o e =
    each_all f there (each_of (λ x. f x ≡ true) there (λ x m. o x (let i = h.few x in let j = a.all e x in let k = fewest_le t x in omega arith)))

-- ---- those that are asked for

pub asked_few : (w : World) (sp : Scope) (d : ℕ) (there : List Known) (s : ℕ → Status) (f : ℕ → Bool) → Stands w sp d there s f → (x : ℕ) → tally x (those f there) ≤ held (s x)
asked_few w sp d there s f h x = let a = tally_less f there x in let b = h.few x in omega arith

kept_here : (b : Bool) (m n k : ℕ) → b ≡ true → m ≡ (if b then n else 0) → k ≤ n → k ≤ m
kept_here true m n k e f g = omega arith
kept_here false m n k e f g = absurd (cc)

pub asked_kept : (w : World) (sp : Scope) (d : ℕ) (there : List Known) (s : ℕ → Status) (f : ℕ → Bool) → Stands w sp d there s f → (x : ℕ) → f x ≡ true → held (s x) ≤ tally x (those f there)
asked_kept w sp d there s f h x e = kept_here (f x) (tally x (those f there)) (tally x there) (held (s x)) e (tally_those f there x) (h.kept x e)

-- what is used up is there
pub asked_there : (fip : Bool) (w : World) (sp : Scope) (d : ℕ) (there : List Known) (s : ℕ → Status) (f : ℕ → Bool) (t : Term) → Stands w sp d there s f → Asks fip s t → ((x : ℕ) → 1 ≤ asks (Own x) t → f x ≡ true) → (x : ℕ) → asks (Own x) t ≤ tally x there
asked_there fip w sp d there s f t h a o x = none_or (asks (Own x) t) (tally x there) (λ m. let k = h.kept x (o x m) in let i = a.most x in omega arith)
  where
    none_or : (m n : ℕ) → (1 ≤ m → m ≤ n) → m ≤ n
    none_or zero n f = omega arith
    none_or (suc m) n f = f (omega arith)

held_one : (s : Status) → held s ≤ 1
held_one Free = omega arith
held_one (Owned true l) = omega arith
held_one (Owned false true) = omega arith
held_one (Owned false false) = omega arith

pub stands_single : (w : World) (sp : Scope) (d : ℕ) (there : List Known) (s : ℕ → Status) (f : ℕ → Bool) → Stands w sp d there s f → (x : ℕ) → tally x there ≤ 1
stands_single w sp d there s f h x = let a = h.few x in let b = held_one (s x) in omega arith

pub holding : (w : World) (sp : Scope) (c : Names) (sc : Scalars) (d : ℕ) (there : List Known) (s : ℕ → Status) (f : ℕ → Bool) → Linked w sp.variables c sc → Stands w sp d there s f → Holding w sp.variables c sc d there
holding w sp c sc d there s f l h = record { linked = l; are_known = h.are_known; rising = h.rising; single = stands_single w sp d there s f h }

-- ---- within binders

few_fresh : (b own : Bool) (s : Status) (m n : ℕ) → (b ≡ true → m ≡ 0) → n ≡ (if b then worth own else 0) → m ≤ held s → m + n ≤ held (if b then fresh own else s)
few_fresh true true s m n z e l = let f = z refl in omega arith
few_fresh true false s m n z e l = let f = z refl in omega arith
few_fresh false own s m n z e l = omega arith

kept_fresh : (b own : Bool) (s : Status) (m n : ℕ) → n ≡ (if b then worth own else 0) → held s ≤ m → held (if b then fresh own else s) ≤ m + n
kept_fresh true true s m n e l = omega arith
kept_fresh true false s m n e l = omega arith
kept_fresh false own s m n e l = omega arith

lent_new : (b own t : Bool) (s : Status) → b ≡ true → visible (if b then fresh own else s) ≡ true → (not own || t) ≡ true
lent_new true true t s e h = absurd (cc)
lent_new true false t s e h = refl
lent_new false own t s e h = absurd (cc)

lent_old : (b own : Bool) (s : Status) → b ≡ false → visible (if b then fresh own else s) ≡ true → visible s ≡ true
lent_old true own s e h = absurd (cc)
lent_old false own s e h = h

none_or_some : (n : ℕ) → (n ≡ 0) ⊎ (1 ≤ n)
none_or_some zero = inl refl
none_or_some (suc n) = inr (omega arith)

-- a binder's variable was none of those before
new_apart : (w : World) (vs : List Known) (c : Names) (sc : Scalars) (bs : List Binder) (base : List Known) (x : ℕ) → Linked w vs c sc → AreKnown w vs base → has (variables w c.next bs) x ≡ true → tally x base ≡ 0
new_apart w vs c sc bs base x l k e = elim (none_or_some (tally x base)) [
  | inl z ↦ z
  | inr z ↦ absurd (not_both (has (variables w c.next bs) x) e (not_owned w c.next x bs (there_before w vs c sc base x l k z).0))
]

pub enter : (w : World) (own : Bool) (sp : Scope) (c : Names) (sc : Scalars) (d e : ℕ) (bs : List Binder) (base : List Known) (s : ℕ → Status) (f : ℕ → Bool) → Linked w sp.variables c sc → AreNumbered c.next d bs → Stands w sp d base s f → d + length bs ≤ e → Stands w (binding d own bs sp) e (base ++ added w own d bs) (K.binding (variables w c.next bs) own s) f
enter w own sp c sc d e bs base s f l n h m = record {
  are_known = known_append w (named d own bs ++ sp.variables) base (added w own d bs) (base_known w own sp.variables c sc d bs base n l h.are_known) (added_known w own sp.variables c.next d bs n);
  rising = subst (Rising 0 e) (sym (numbers_append base (added w own d bs))) (rising_append 0 d e (numbers base) (numbers (added w own d bs)) h.rising (added_rising w own d e bs m) (omega arith) (omega arith));
  few = λ x.
      let a = tally_append base (added w own d bs) x in
      let b = few_fresh (has (variables w c.next bs) x) own (s x) (tally x base) (tally x (added w own d bs)) (new_apart w sp.variables c sc bs base x l h.are_known) (tally_added w own c.next d x bs n) (h.few x) in omega arith;
  kept = λ x o.
      let a = tally_append base (added w own d bs) x in
      let b = kept_fresh (has (variables w c.next bs) x) own (s x) (tally x base) (tally x (added w own d bs)) (tally_added w own c.next d x bs n) (h.kept x o) in omega arith;
  lent = λ x v k z o i.
      elim (named_known w own sp.variables c.next d x bs v n k z) [
        | inl g ↦ ap (λ b. not b || sp.lent v.number) g.1 ∙ lent_new (has (variables w c.next bs) x) own (sp.lent v.number) (s x) g.0 i
        | inr g ↦ h.lent x v g.1 z o (lent_old (has (variables w c.next bs) x) own (s x) g.0 i)
      ];
}

-- what is required of a body within binders, from what is asked outside
pub enter_asks : (fip own : Bool) (ys : List ℕ) (s : ℕ → Status) (t : Term) → (fip ≡ true → (x : ℕ) → held (s x) ≤ outside ys [] (Own x) (fewest x t)) → ((x : ℕ) → outside ys [] (Own x) (asks (Own x) t) ≤ held (s x)) → (own ≡ true → AllUsed fip ys t) → Clean fip (K.binding ys own s) t → (fip ≡ true → Even t) → Asks fip (K.binding ys own s) t
enter_asks fip own ys s t a m u c v = record {
  all = λ k x. few_at (has ys x) own (s x) (fewest x t) (λ o i. all_used_at fip ys t (u o) k x i) (a k x);
  most = λ x. asks_at (has ys x) own (asks (Own x) t) (s x) (clean_room fip (K.binding ys own s) t c x) (m x);
  clean = c;
  even = v;
}
