-- Types past the end of the table, and the violations of E60 as a list.
use Rattle.std.proofs.Common.{arith, ap, ap₂, ◌≡◌, ◌∙◌, refl, sym, subst, ◌⊎◌, inl, inr, ℕ, zero, suc, ◌+◌, ◌<◌, ◌≤◌, Bool, true, false, List, [], ◌∷◌, length, Option, Some, None, Result, Ok, Err, IfOk, slice_get}
use Rattle.std.proofs.lemmas.Bool.Decides.{nat_tests}
use Rattle.std.proofs.lemmas.Option.{none-some, same_Some}
use Rattle.std.specs.Prelude.{option_map, nat_lt, not, ◌&&◌, ◌||◌}
use Rattle.fip_language.specs.declared.limits.TheConstants.{MOST_MATCHED_CONSTRUCTORS, MOST_REGISTERS}
use Rattle.fip_language.specs.declared.rule.Rule.TheVariants.{E60}
use Rattle.fip_language.specs.Table.{Table, shapes, constructors, is_scalar}
use Rattle.fip_base.specs.declared.refusal.Refusal.{Refusal}
use Rattle.fip_trees.specs.declared.groups.Member.{Member}
use Rattle.fip_trees.specs.declared.least.Violation.{Violation}
use Rattle.fip_trees.specs.Tree.{Instance, Program}
use Rattle.fip_trees.specs.Least.{In, after, IsLeastOf, refusal, violation}
use Rattle.fip_trees.proofs.Leasts.{after-append, least_of, none_of, in_left, in_right, in_either}
use Rattle.cell_lower.specs.Limits.{BreaksFrom, Breaks, exceeds, is_ruled, matches_wide, registers, is_wide}
use Rattle.cell_lower.specs.LimitNotes.{HaveFewRegisters, when, instance_notes, notes_from}

pub ruleset noting = (after-append)

none_there : (tb : Table) (t : ℕ) → length tb ≤ t → shapes tb t ≡ []
none_there [] t h = refl
none_there (row ∷ rows) zero h = absurd (omega (arith, h))
none_there (row ∷ rows) (suc t) h = none_there rows t (omega (arith, h))

pub past_the_end : (tb : Table) (t : ℕ) → length tb < t → constructors tb t ≡ []
past_the_end tb zero h = absurd (omega (arith, h))
past_the_end tb (suc t) h = none_there tb t (omega (arith, h))

pub wide_past : (tb : Table) (t : ℕ) → length tb < t → false ≡ is_wide tb t
wide_past tb t h = sym (ap (λ cs. nat_lt MOST_MATCHED_CONSTRUCTORS (length cs) && not (is_scalar tb t)) (past_the_end tb t h))

if_noted : (b : Bool) (u v : Violation) → In v (when b u) → (b ≡ true) × (v ≡ u)
if_noted true u v (inl e) = (refl, e)
if_noted true u v (inr x) = elim x [ ]
if_noted false u v x = elim x [ ]

noted_if : (b : Bool) (u v : Violation) → b ≡ true → v ≡ u → In v (when b u)
noted_if true u v h e = inl e
noted_if false u v h e = absurd (cc)

breaks_of : (tb : Table) (ms : List Member) (i : ℕ) (d : Instance) (ds : List Instance) (v : Violation) → In v (instance_notes tb (registers ms i) i d) ⊎ In v (notes_from tb ms (suc i) ds) → (In v (notes_from tb ms (suc i) ds) → BreaksFrom tb ms (suc i) ds v) → BreaksFrom tb ms i (d ∷ ds) v
breaks_of tb ms i d ds v (inl k) f = inl (if_noted (exceeds tb (registers ms i) d) (violation E60 d.place i 0 d.name) v k)
breaks_of tb ms i d ds v (inr k) f = inr (f k)

pub noted_breaks : (tb : Table) (ms : List Member) (i : ℕ) (ds : List Instance) (v : Violation) → In v (notes_from tb ms i ds) → BreaksFrom tb ms i ds v
noted_breaks tb ms i [] v h = elim h [ ]
noted_breaks tb ms i (d ∷ ds) v h = breaks_of tb ms i d ds v (in_either v (instance_notes tb (registers ms i) i d) (notes_from tb ms (suc i) ds) h) (noted_breaks tb ms (suc i) ds v)

pub breaks_noted : (tb : Table) (ms : List Member) (i : ℕ) (ds : List Instance) (v : Violation) → BreaksFrom tb ms i ds v → In v (notes_from tb ms i ds)
breaks_noted tb ms i [] v h = elim h [ ]
breaks_noted tb ms i (d ∷ ds) v (inl (b, e)) = in_left v (instance_notes tb (registers ms i) i d) (notes_from tb ms (suc i) ds) (noted_if (exceeds tb (registers ms i) d) (violation E60 d.place i 0 d.name) v b e)
breaks_noted tb ms i (d ∷ ds) v (inr k) = in_right v (instance_notes tb (registers ms i) i d) (notes_from tb ms (suc i) ds) (breaks_noted tb ms (suc i) ds v k)

pub refused : (p : Program) (ms : List Member) (o : Option Violation) (r : Refusal) → o ≡ after None (notes_from p.types ms 0 p.instances) → option_map refusal o ≡ Some r → (v : Violation) × IsLeastOf (Breaks p ms) v × (r ≡ refusal v)
refused p ms None r h g = absurd (cc)
refused p ms (Some v) r h g =
    let l = least_of (notes_from p.types ms 0 p.instances) v (sym h) in
    (v, record { violated = noted_breaks p.types ms 0 p.instances v l.violated; least = λ w k. l.least w (breaks_noted p.types ms 0 p.instances w k) }, cc)

pub accepted : (p : Program) (ms : List Member) (o : Option Violation) → o ≡ after None (notes_from p.types ms 0 p.instances) → option_map refusal o ≡ None → (v : Violation) → Breaks p ms v → ⊥
accepted p ms None h g v k = subst (λ vs. In v vs) (none_of (notes_from p.types ms 0 p.instances) (sym h)) (breaks_noted p.types ms 0 p.instances v k)
accepted p ms (Some u) h g v k = absurd (cc)

pub always : {A B P : Type 0} (r : Result A B) → P → IfOk r (λ _. P)
always (Ok a) p = p
always (Err e) p = record {}

-- ---- registers where the rule is kept

few_where_kept : (tb : Table) (n : ℕ) (d : Instance) → is_ruled d.kind ≡ true → (exceeds tb n d ≡ true → ⊥) → n ≤ MOST_REGISTERS
few_where_kept tb n d r h = by (nat_lt MOST_REGISTERS n) refl
  where
    by : (b : Bool) → nat_lt MOST_REGISTERS n ≡ b → n ≤ MOST_REGISTERS
    by true e = absurd (h (ap₂ (λ a b. a && (b || matches_wide tb d)) r e))
    by false e = grind (arith, nat_tests)

few_from : (tb : Table) (ms : List Member) (i j : ℕ) (ds : List Instance) (d : Instance) → ((v : Violation) → BreaksFrom tb ms i ds v → ⊥) → slice_get ds j ≡ Some d → is_ruled d.kind ≡ true → registers ms (i + j) ≤ MOST_REGISTERS
few_from tb ms i j [] d h e r = absurd (none-some d e)
few_from tb ms i zero (x ∷ ds) d h e r =
    let same : x ≡ d = same_Some x d e in
    let ruled : is_ruled x.kind ≡ true = ap (λ (y : Instance). is_ruled y.kind) same ∙ r in
    subst (λ n. registers ms n ≤ MOST_REGISTERS) (omega arith) (few_where_kept tb (registers ms i) x ruled (λ k. h (violation E60 x.place i 0 x.name) (inl (k, refl))))
few_from tb ms i (suc j) (x ∷ ds) d h e r =
    subst (λ n. registers ms n ≤ MOST_REGISTERS) (omega arith) (few_from tb ms (suc i) j ds d (λ v k. h v (inr k)) e r)

pub few_registers : (p : Program) (ms : List Member) → ((v : Violation) → Breaks p ms v → ⊥) → HaveFewRegisters ms p.instances
few_registers p ms h i d e r = subst (λ n. registers ms n ≤ MOST_REGISTERS) (omega arith) (few_from p.types ms 0 i p.instances d h e r)
