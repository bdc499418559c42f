-- Variables that get registers: what is known stays so.
use Rattle.std.proofs.Common.{◌≡◌, ◌⊎◌, inl, inr, ℕ, List, [], ◌∷◌, Option, Some, None, refl, sym, ap, ◌∙◌, subst, ⊎_elim, slice_get, slice_set}
use Rattle.std.specs.Prelude.{◌==◌}
use Rattle.std.proofs.lemmas.Bool.{eqb-true, eqb-false, cond_both}
use Rattle.tree_refinement.specs.fip_language.Values.{Value, Values, End, More}
use Rattle.tree_refinement.specs.fip_language.Every.{Among}
use Rattle.tree_refinement.specs.fip_language.Meaning.{Environment, bind}
use Rattle.lowering_relation.specs.fip_trees.declared.program.Binder.{Binder}
use Rattle.lowering_relation.specs.instance_semantics.Meaning.{bind_binders}
use Rattle.lowering_relation.specs.tree_semantics.Contents.{Contents, read_all}
use Rattle.lowering_relation.specs.Tidy.{Fixed}
use Rattle.lowering_relation.specs.Known.{Known, joined, register_of, named}
use Rattle.lowering_relation.specs.LoweredBodies.{all_named, with_names}
use Rattle.lowering_simulation.specs.Distinct.{numbers, Differ}
use Rattle.lowering_relation.proofs.LoweredLists.{set_get, same_some}
use Rattle.lowering_simulation.proofs.Statics.{AllFixed}
use Rattle.lowering_simulation.proofs.Arguments.{World}
use Rattle.lowering_relation.proofs.Entries.{joined_is as joined_some}

-- no binder of these numbers is bound
abbrev pub Clear : Environment → List ℕ → Type 0
Clear env xs = (x : ℕ) → Among x xs → env x ≡ None

pub bind_elim : (P : Option Value → Type 0) (env : Environment) (x : ℕ) (v : Value) (y : ℕ) → (x ≡ y → P (Some v)) → ((x ≡ y → ⊥) → P (env y)) → P (bind env x v y)
bind_elim P env x v y p q = cond_both (x == y) (Some v) (env y) P (λ e. p (eqb-true x y e)) (λ e. q (eqb-false x y e))

some_joined : (o : Option (Option ℕ)) (r : ℕ) → o ≡ Some (Some r) → joined o ≡ Some r
some_joined o r e = ap joined e

-- the register of x is that which y got, or x had it before
pub named_from : (ns : List (Option ℕ)) (y r x q : ℕ) → register_of (named ns y r) (Some x) ≡ Some q → ((x ≡ y) × (q ≡ r)) ⊎ ((x ≡ y → ⊥) × (register_of ns (Some x) ≡ Some q))
named_from ns y r x q h = elim (set_get ns y (Some r) x (Some q) (joined_some (slice_get (slice_set ns y (Some r)) x) q h)) [
  | inl a ↦ inr (a.0, some_joined (slice_get ns x) q a.1)
  | inr a ↦ inl (a.0, sym (same_some r q (same_some (Some r) (Some q) (ap Some a.1))))
]

pub all_named_from : (ns : List (Option ℕ)) (bs : List Binder) (rs : List ℕ) (x q : ℕ) → register_of (all_named ns bs rs) (Some x) ≡ Some q → (Among x (numbers bs) × Among q rs) ⊎ (register_of ns (Some x) ≡ Some q)
all_named_from ns [] rs x q h = inr h
all_named_from ns (b ∷ bs) [] x q h = inr h
all_named_from ns (b ∷ bs) (r ∷ rs) x q h = elim (all_named_from (named ns b.number r) bs rs x q h) [
  | inl a ↦ inl (inr a.0, inr a.1)
  | inr a ↦ elim (named_from ns b.number r x q a) [
    | inl e ↦ inl (inl e.0, inl e.1)
    | inr e ↦ inr e.1
  ]
]

-- what the registers of variables hold
abbrev pub Agree : List (Option ℕ) → Environment → Contents → Type 0
Agree ns env cs = (x r : ℕ) (v : Value) → register_of ns (Some x) ≡ Some r → env x ≡ Some v → cs r ≡ v

agree_named : (ns : List (Option ℕ)) (env : Environment) (cs : Contents) (y r : ℕ) (v : Value) → Agree ns env cs → cs r ≡ v → Agree (named ns y r) (bind env y v) cs
agree_named ns env cs y r v h e x q u n =
    bind_elim (λ o. o ≡ Some u → cs q ≡ u) env y v x
    (λ same f. ⊎_elim (λ a. ap cs a.1 ∙ e ∙ same_some v u f) (λ a. absurd (a.0 (sym same))) (named_from ns y r x q n))
    (λ other f. ⊎_elim (λ a. absurd (other (sym a.0))) (λ a. h x q u a.1 f) (named_from ns y r x q n))

-- variables that aren't bound
agree_clear : (ns : List (Option ℕ)) (env : Environment) (cs : Contents) (bs : List Binder) (rs : List ℕ) → Agree ns env cs → Clear env (numbers bs) → Agree (all_named ns bs rs) env cs
agree_clear ns env cs bs rs h c x q u n f = elim (all_named_from ns bs rs x q n) [
  | inl a ↦ absurd (none_some (sym (c x a.0) ∙ f))
  | inr a ↦ h x q u a f
]
  where
    none_some : None ≡ Some u → ⊥
    none_some e = absurd (cc)

-- registers hold values, as many as there are of both
abbrev pub Holds : Contents → List ℕ → Values → Type 0
Holds cs [] vs = Unit {0}
Holds cs (r ∷ rs) End = Unit {0}
Holds cs (r ∷ rs) (More v vs) = (cs r ≡ v) × Holds cs rs vs

-- where a variable gets a value, it gets a register
abbrev pub Fit : List Binder → List ℕ → Values → Type 0
Fit [] rs vs = Unit {0}
Fit (b ∷ bs) [] End = Unit {0}
Fit (b ∷ bs) [] (More v vs) = ⊥
Fit (b ∷ bs) (r ∷ rs) End = Unit {0}
Fit (b ∷ bs) (r ∷ rs) (More v vs) = Fit bs rs vs

pub agree_all : (ns : List (Option ℕ)) (env : Environment) (cs : Contents) (bs : List Binder) (rs : List ℕ) (vs : Values) → Agree ns env cs → Holds cs rs vs → Fit bs rs vs → Differ (numbers bs) → Clear env (numbers bs) → Agree (all_named ns bs rs) (bind_binders env bs vs) cs
agree_all ns env cs [] rs vs h held fit d c = h
agree_all ns env cs (b ∷ bs) [] End h held fit d c = h
agree_all ns env cs (b ∷ bs) [] (More v vs) h held fit d c = absurd fit
agree_all ns env cs (b ∷ bs) (r ∷ rs) End h held fit d c = agree_clear ns env cs (b ∷ bs) (r ∷ rs) h c
agree_all ns env cs (b ∷ bs) (r ∷ rs) (More v vs) h held fit d c =
    agree_all (named ns b.number r) (bind env b.number v) cs bs rs vs (agree_named ns env cs b.number r v h held.0) held.1 fit d.1
    (λ x m. bind_elim (λ o. o ≡ None) env b.number v x (λ e. absurd (d.0 (subst (λ y. Among y (numbers bs)) (sym e) m))) (λ ne. c x (inr m)))

-- what isn't bound anew
pub bound_elsewhere : (env : Environment) (bs : List Binder) (vs : Values) (x : ℕ) → (Among x (numbers bs) → ⊥) → bind_binders env bs vs x ≡ env x
bound_elsewhere env [] vs x n = refl
bound_elsewhere env (b ∷ bs) End x n = refl
bound_elsewhere env (b ∷ bs) (More v vs) x n =
    bound_elsewhere (bind env b.number v) bs vs x (λ m. n (inr m))
    ∙ bind_elim (λ o. o ≡ env x) env b.number v x (λ e. absurd (n (inl (sym e)))) (λ ne. refl)

pub holds_read : (cs : Contents) (rs : List ℕ) → Holds cs rs (read_all cs rs)
holds_read cs [] = tt
holds_read cs (r ∷ rs) = (refl, holds_read cs rs)

pub fit_read : (cs : Contents) (bs : List Binder) (rs : List ℕ) → Fit bs rs (read_all cs rs)
fit_read cs [] rs = tt
fit_read cs (b ∷ bs) [] = tt
fit_read cs (b ∷ bs) (r ∷ rs) = fit_read cs bs rs

pub among_fixed : (k : Known) (rs : List ℕ) (q : ℕ) → AllFixed k rs → Among q rs → Fixed k q
among_fixed k [] q h m = absurd m
among_fixed k (r ∷ rs) q h (inl e) = subst (Fixed k) (sym e) h.0
among_fixed k (r ∷ rs) q h (inr m) = among_fixed k rs q h.1 m

pub world_named : (k : Known) (env : Environment) (cs : Contents) (bs : List Binder) (rs : List ℕ) (vs : Values) → World k env cs → AllFixed k rs → Holds cs rs vs → Fit bs rs vs → Differ (numbers bs) → Clear env (numbers bs) → World (with_names k bs rs) (bind_binders env bs vs) cs
world_named k env cs bs rs vs w fixed held fit d c = record {
  tidy = record {
    named = λ x r h. same (⊎_elim (λ a. among_fixed k rs r fixed a.1) (λ a. w.tidy.named x r a) (all_named_from k.names bs rs x r h));
    bare = λ r t b h. same (w.tidy.bare r t b h);
    once = w.tidy.once;
    below = w.tidy.below;
  };
  agrees = agree_all k.names env cs bs rs vs w.agrees held fit d c;
  bares = w.bares;
}
  where
    same : {q : ℕ} → Fixed k q → Fixed (with_names k bs rs) q
    same f = record { used = f.used; kept = f.kept }
