-- What sound code keeps, rule by rule.
use Rattle.std.proofs.Common.{◌≡◌, ◌⊎◌, inl, inr, ℕ, suc, ◌+◌, ◌<◌, ◌≤◌, true, false, not, List, [], ◌∷◌, length, Option, Some, None, slice_get, refl, sym, ap, ◌∙◌, subst, arith, nat_lt, ◌==◌}
use Rattle.std.proofs.lemmas.Option.{none-some, same_Some}
use Rattle.separation_kinds.specs.fip_language.Table.{Shape, Table, constructors}
use Rattle.separation_kinds.specs.cell_code.declared.code.Instr.{Instr}
use Rattle.separation_kinds.specs.cell_code.declared.kind.Kind.{Kind}
use Rattle.separation_kinds.specs.code_rules.declared.rule.SoundRule.{SoundRule}
use Rattle.separation_kinds.specs.code_rules.declared.rule.SoundRule.TheVariants.{S0, S1, S2, S3, S4, S5, S6, S7, S8, S9}
use Rattle.separation_kinds.specs.cell_code.Plain.{LabelMap, PlainFunction, PlainCode, function_at}
use Rattle.separation_kinds.specs.code_rules.Codes.{label_at, is_fip}
use Rattle.separation_kinds.specs.code_rules.Tables.{AreSoundTables, bool_shapes}
use Rattle.separation_kinds.specs.code_rules.Headers.{is_formed, are_good_maps, are_good_kinds, are_params, are_sizes, are_types}
use Rattle.separation_kinds.specs.code_rules.Limits.{most_registers, most_results, most_credits}
use Rattle.separation_kinds.specs.code_rules.Fitting.{fit_all}
use Rattle.separation_kinds.specs.code_rules.Ranges.{in_range}
use Rattle.separation_kinds.specs.code_rules.Asked.{sources, destinations}
use Rattle.separation_kinds.specs.code_rules.Flow.{IsReachedAt, GoesTo}
use Rattle.separation_kinds.specs.code_rules.Endings.{is_end, spends_all, releases}
use Rattle.separation_kinds.specs.code_rules.Calls.{CallsAt, SameGroup}
use Rattle.separation_kinds.specs.code_rules.Breaks.{BreaksWithin, Breaks, IsSound}
use Rattle.separation_kinds.proofs.Basics.{pick, both, refuted, or_not, equal, below}
use Rattle.separation.specs.Rows.{IsTruth}
use Rattle.std.proofs.lemmas.Bool.Decides.{nat_tests}

-- what would break a rule can't be, as the tables are sound or it can't be that they aren't
pub never : {A : Type 0} (c : PlainCode) (n i : ℕ) (rule : SoundRule) → IsSound c → (AreSoundTables c → Breaks c n i rule) → A
never c n i rule sound f = absurd (sound 0 0 S0 (inl ((λ t. sound n i rule (f t)), refl, refl, refl)))

pub formed : (c : PlainCode) (n : ℕ) (f : PlainFunction) → IsSound c → function_at c n ≡ Some f → is_formed c f ≡ true
formed c n f sound is = elim (or_not (is_formed c f)) as (λ v. is_formed c f ≡ true) [
  | inl y ↦ y
  | inr e ↦ never c n 0 S9 sound (λ t. inr (t, (f, is, inl (e, refl, refl))))
]

within : {A : Type 0} (c : PlainCode) (n i : ℕ) (f : PlainFunction) (rule : SoundRule) → IsSound c → function_at c n ≡ Some f → BreaksWithin c n f i rule → A
within c n i f rule sound is b = never c n i rule sound (λ t. inr (t, (f, is, inr (formed c n f sound is, b))))

pub ranged : (c : PlainCode) (n i : ℕ) (f : PlainFunction) (x : Instr) → IsSound c → function_at c n ≡ Some f → slice_get f.instrs i ≡ Some x → in_range c f i x ≡ true
ranged c n i f x sound is at = elim (or_not (in_range c f i x)) as (λ v. in_range c f i x ≡ true) [
  | inl y ↦ y
  | inr e ↦ within c n i f S1 sound is (record { instr = x; is = at; breaks = e })
]

pub asked_sources : (c : PlainCode) (n i : ℕ) (f : PlainFunction) (ks : List Kind) (x : Instr) → IsSound c → function_at c n ≡ Some f → IsReachedAt c f i ks x → sources c f ks x ≡ true
asked_sources c n i f ks x sound is r = elim (or_not (sources c f ks x)) as (λ v. sources c f ks x ≡ true) [
  | inl y ↦ y
  | inr e ↦ within c n i f S2 sound is (record { kinds = ks; instr = x; reached = r; ranged = ranged c n i f x sound is r.instr; breaks = e })
]

pub asked_destinations : (c : PlainCode) (n i : ℕ) (f : PlainFunction) (ks : List Kind) (x : Instr) → IsSound c → function_at c n ≡ Some f → IsReachedAt c f i ks x → destinations c ks x ≡ true
asked_destinations c n i f ks x sound is r = elim (or_not (destinations c ks x)) as (λ v. destinations c ks x ≡ true) [
  | inl y ↦ y
  | inr e ↦ within c n i f S3 sound is (record { kinds = ks; instr = x; reached = r; ranged = ranged c n i f x sound is r.instr; breaks = e })
]

pub not_last : (c : PlainCode) (n i : ℕ) (f : PlainFunction) (ks : List Kind) (x : Instr) → IsSound c → function_at c n ≡ Some f → IsReachedAt c f i ks x → is_end x ≡ false → suc i ≡ length f.instrs → ⊥
not_last c n i f ks x sound is r e last = within c n i f S4 sound is (record { kinds = ks; instr = x; reached = r; last = last; breaks = e })

pub fits_label : (c : PlainCode) (n i j : ℕ) (f : PlainFunction) (left map : List Kind) → IsSound c → function_at c n ≡ Some f → GoesTo c f i j left → label_at f.labels j ≡ Some map → fit_all map left ≡ true
fits_label c n i j f left map sound is g l = elim (or_not (fit_all map left)) as (λ v. fit_all map left ≡ true) [
  | inl y ↦ y
  | inr e ↦ within c n i f S5 sound is (record { target = j; left = left; map = map; goes = g; label = l; breaks = e })
]

pub spends : (c : PlainCode) (n i : ℕ) (f : PlainFunction) (ks : List Kind) (x : Instr) → IsSound c → function_at c n ≡ Some f → IsReachedAt c f i ks x → spends_all c f ks x ≡ true
spends c n i f ks x sound is r = elim (or_not (spends_all c f ks x)) as (λ v. spends_all c f ks x ≡ true) [
  | inl y ↦ y
  | inr e ↦ within c n i f S6 sound is (record { kinds = ks; instr = x; reached = r; ranged = ranged c n i f x sound is r.instr; breaks = e })
]

pub keeps_fip : (c : PlainCode) (n i : ℕ) (f : PlainFunction) (ks : List Kind) (x : Instr) → IsSound c → function_at c n ≡ Some f → IsReachedAt c f i ks x → is_fip f.kind ≡ true → releases c x ≡ false
keeps_fip c n i f ks x sound is r fip = elim (or_not (releases c x)) as (λ v. releases c x ≡ false) [
  | inl e ↦ within c n i f S7 sound is (record { kinds = ks; instr = x; reached = r; fip = fip; breaks = e })
  | inr y ↦ y
]

pub waits_for_others : (c : PlainCode) (n i : ℕ) (f : PlainFunction) (callee : ℕ) → IsSound c → function_at c n ≡ Some f → CallsAt c n i callee true → is_fip f.kind ≡ true → SameGroup c n callee → ⊥
waits_for_others c n i f callee sound is calls fip same = within c n i f S8 sound is (record { callee = callee; calls = calls; fip = fip; breaks = same })

-- ---- bool

truth_or : (o : Option Shape) → (((s : Shape) × (o ≡ Some s) × (s.fields ≡ [])) → ⊥) ⊎ ((s : Shape) × (o ≡ Some s) × (s.fields ≡ []))
truth_or None = inl (λ t. none-some t.0 t.1)
truth_or (Some s) = fields_or s.fields refl
  where
    fields_or : (ts : List ℕ) → s.fields ≡ ts → (((k : Shape) × (Some s ≡ Some k) × (k.fields ≡ [])) → ⊥) ⊎ ((k : Shape) × (Some s ≡ Some k) × (k.fields ≡ []))
    fields_or [] e = inr (s, refl, e)
    fields_or (t ∷ ts) e = inl (λ k. let z : t ∷ ts ≡ [] = sym e ∙ ap (λ (s : Shape). s.fields) (same_Some s k.0 k.1) ∙ k.2 in cc)

pub truth : (c : PlainCode) (k : ℕ) → IsSound c → ((s : Shape) × (slice_get bool_shapes k ≡ Some s) × (s.fields ≡ [])) → IsTruth c.types k
truth c k sound t = elim (truth_or (slice_get (constructors c.types 1) k)) as (λ v. IsTruth c.types k) [
  | inl none ↦ never c 0 0 S0 sound (λ tables. absurd (none (t.0, ap (λ ss. slice_get ss k) tables.bool ∙ t.1, t.2)))
  | inr y ↦ y
]

-- ---- the form of a function

pub record HasForm (c : PlainCode) (f : PlainFunction) : Type 0 where
  pub some : 0 < length f.instrs
  pub room : length f.params + length f.credits ≤ f.registers
  pub params : are_params c.types f.params ≡ true
  pub maps : are_good_maps c.types f 0 f.labels ≡ true

pub has_form : (c : PlainCode) (f : PlainFunction) → is_formed c f ≡ true → HasForm c f
has_form c f e =
    let a = both (not (length f.instrs == 0)) _ e in
    let b = both (not (nat_lt f.registers (length f.params + length f.credits))) _ a.1 in
    let d = both (nat_lt f.registers (suc most_registers)) _ b.1 in
    let g = both (not (length f.results == 0)) _ d.1 in
    let h = both (nat_lt (length f.results) (suc most_results)) _ g.1 in
    let i = both (nat_lt (length f.credits) (suc most_credits)) _ h.1 in
    let j = both (are_params c.types f.params) _ i.1 in
    let k = both (are_sizes f.credits) _ j.1 in
    let l = both (are_types c.types f.results) _ k.1 in
    record {
      some = positive (length f.instrs) (refuted (length f.instrs == 0) a.0);
      room = not_less f.registers (length f.params + length f.credits) (refuted (nat_lt f.registers (length f.params + length f.credits)) b.0);
      params = j.0;
      maps = l.1;
    }
  where
    positive : (n : ℕ) → (n == 0) ≡ false → 0 < n
    positive n e = grind (arith, nat_tests)

    not_less : (m n : ℕ) → nat_lt m n ≡ false → n ≤ m
    not_less m n e = grind (arith, nat_tests)

pub record IsGoodMap (tb : Table) (f : PlainFunction) (low j : ℕ) (m : List Kind) : Type 0 where
  pub above : low < j
  pub wide : length m ≡ f.registers
  pub good : are_good_kinds tb m 0 m ≡ true

pub good_map : (tb : Table) (f : PlainFunction) (low : ℕ) (ls : List LabelMap) (j : ℕ) (m : List Kind) → are_good_maps tb f low ls ≡ true → label_at ls j ≡ Some m → IsGoodMap tb f low j m
good_map tb f low [] j m e l = absurd (none-some m l)
good_map tb f low (k ∷ ls) j m e l =
    let a = both (nat_lt low k.at) _ e in
    let b = both (nat_lt k.at (length f.instrs)) _ a.1 in
    let d = both (length k.kinds == f.registers) _ b.1 in
    let g = both (are_good_kinds tb k.kinds 0 k.kinds) (are_good_maps tb f k.at ls) d.1 in
    pick (λ o. o ≡ Some m → IsGoodMap tb f low j m) (k.at == j) (Some k.kinds) (label_at ls j)
    (λ same is.
    let kinds : k.kinds ≡ m = same_Some k.kinds m is in
    let at = equal k.at j same in
    let low_at = below low k.at a.0 in
    subst (IsGoodMap tb f low j) kinds (record { above = omega arith; wide = equal (length k.kinds) f.registers d.0; good = g.0 }))
    (λ off is.
    let rest = good_map tb f k.at ls j m g.1 is in
    let low_at = below low k.at a.0 in
    let x = rest.above in
    record { above = omega arith; wide = rest.wide; good = rest.good })
    l
