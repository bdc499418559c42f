-- The rules that a step finds broken at an instruction are those that it breaks.
use Rattle.std.proofs.Common.{◌≡◌, ◌⊎◌, inl, inr, ℕ, suc, ◌+◌, Bool, true, false, ◌&&◌, not, List, [], length, Option, Some, None, if◌then◌else◌, ◌==◌, refl, sym, ap, ap₂, ◌∙◌, subst, subst₂, true≢false, arith}
use Rattle.std.proofs.lemmas.Bool.{and_parts, and_from, or_parts, or_from, not-false, not_from_true, eqb-true, eq-eqb}
use Rattle.std.proofs.lemmas.Option.{same_Some}
use Rattle.cell_code.specs.declared.code.Instr.{Instr}
use Rattle.cell_code.specs.declared.kind.Kind.{Kind}
use Rattle.code_rules.specs.declared.rule.SoundRule.{SoundRule}
use Rattle.code_rules.specs.declared.rule.SoundRule.TheVariants.{S0, S1, S2, S3, S4, S5, S6, S7, S8, S9}
use Rattle.cell_code.specs.Plain.{LabelMap, PlainFunction, PlainCode}
use Rattle.code_rules.specs.Codes.{label_at, is_fip}
use Rattle.code_rules.specs.Fitting.{fit_all}
use Rattle.code_rules.specs.Ranges.{in_range}
use Rattle.code_rules.specs.Asked.{sources, destinations}
use Rattle.code_rules.specs.Leaves.{Leaves, Jumps}
use Rattle.code_rules.specs.Flow.{is_as_asked, IsInstr, KnownAt, IsReachedAt, GoesTo}
use Rattle.code_rules.specs.Endings.{is_end, spends_all, releases}
use Rattle.code_rules.specs.Breaks.{BreaksRange, BreaksSource, BreaksDestination, BreaksLast, BreaksLabel, BreaksEnd, BreaksFip}
use Rattle.code_rules.proofs.Once.{leaves_once, known_once}
use Rattle.code_rows.specs.Noting.{InKept}
use Rattle.code_rows.specs.Rows.{Arrival, jumps, fit_map, fit_at, arrives, is_asked, row_kept}
use Rattle.code_verify.specs.Steps.{last_kept, fip_kept, known_kept, fits_next, GoesFrom}
use Rattle.code_verify.specs.Finding.{BreaksAlone}
use Rattle.code_verify.proofs.InstrFacts.{end_leaves, jumps_of, jumps_is}

-- ---- what is found is broken

missed : (o : Option (List Kind)) (ks : List Kind) → fit_map o ks ≡ false → (m : List Kind) × (o ≡ Some m) × (fit_all m ks ≡ false)
missed None ks e = absurd (true≢false e)
missed (Some m) ks e = (m, refl, e)

arrived : (maps : List LabelMap) (o : Option Arrival) (b : Bool) → arrives maps o b ≡ false → (a : Arrival) × (o ≡ Some a) × (b ≡ true) × (fit_at maps a.target a.kinds ≡ false)
arrived maps None b e = absurd (true≢false e)
arrived maps (Some a) false e = absurd (true≢false e)
arrived maps (Some a) true e = (a, refl, refl, e)

reached : (c : PlainCode) (f : PlainFunction) (i : ℕ) (ks : List Kind) (x : Instr) → KnownAt c f i ks → IsInstr f i x → IsReachedAt c f i ks x
reached c f i ks x kn is = record { known = kn; instr = is }

label_broken : (c : PlainCode) (f : PlainFunction) (i j : ℕ) (left : List Kind) → GoesTo c f i j left → fit_at f.labels j left ≡ false → BreaksLabel c f i
label_broken c f i j left g e = (let m = missed (label_at f.labels j) left e in record { target = j; left = left; map = m.0; goes = g; label = m.1; breaks = m.2 })

range_broken : (c : PlainCode) (f : PlainFunction) (i : ℕ) (x : Instr) → IsInstr f i x → in_range c f i x ≡ false → BreaksRange c f i
range_broken c f i x is e = record { instr = x; is = is; breaks = e }

last_broken : (c : PlainCode) (f : PlainFunction) (i : ℕ) (ks : List Kind) (x : Instr) → IsReachedAt c f i ks x → last_kept f i x ≡ false → BreaksLast c f i
last_broken c f i ks x r e =
    let p = or_parts (not (i + 1 == length f.instrs)) (is_end x) e in
    let s : i + 1 ≡ length f.instrs = eqb-true (i + 1) (length f.instrs) (not-false (i + 1 == length f.instrs) p.0) in
    record { kinds = ks; instr = x; reached = r; last = omega (arith, s); breaks = p.1 }

fip_broken : (c : PlainCode) (f : PlainFunction) (i : ℕ) (ks : List Kind) (x : Instr) → IsReachedAt c f i ks x → fip_kept c f x ≡ false → BreaksFip c f i
fip_broken c f i ks x r e =
    let p = and_parts (is_fip f.kind) (releases c x) (not-false (is_fip f.kind && releases c x) e) in
    record { kinds = ks; instr = x; reached = r; fip = p.0; breaks = p.1 }

target_broken : (c : PlainCode) (f : PlainFunction) (i : ℕ) (ks : List Kind) (x : Instr) → IsReachedAt c f i ks x → in_range c f i x ≡ true → arrives f.labels (jumps ks x) (is_asked c f ks x) ≡ false → BreaksLabel c f i
target_broken c f i ks x r g e =
    let a = arrived f.labels (jumps ks x) (is_asked c f ks x) e in
    label_broken c f i a.0.target a.0.kinds (record { kinds = ks; instr = x; reached = r; asked = and_from (in_range c f i x) (is_asked c f ks x) g a.2; goes = inr (jumps_is ks x a.0 a.1) }) a.3

row_reports : (c : PlainCode) (f : PlainFunction) (i : ℕ) (ks : List Kind) (x : Instr) (r : SoundRule) → IsReachedAt c f i ks x → in_range c f i x ≡ true → InKept r (row_kept c f ks x) → BreaksAlone c f i r
row_reports c f i ks x r q g (inl p) = subst (BreaksAlone c f i) (sym p.1) (broken p.0)
  where
    broken : sources c f ks x ≡ false → BreaksSource c f i
    broken e = record { kinds = ks; instr = x; reached = q; ranged = g; breaks = e }
row_reports c f i ks x r q g (inr (inl p)) = subst (BreaksAlone c f i) (sym p.1) (broken p.0)
  where
    broken : destinations c ks x ≡ false → BreaksDestination c f i
    broken e = record { kinds = ks; instr = x; reached = q; ranged = g; breaks = e }
row_reports c f i ks x r q g (inr (inr (inl p))) = subst (BreaksAlone c f i) (sym p.1) (target_broken c f i ks x q g p.0)
row_reports c f i ks x r q g (inr (inr (inr (inl p)))) = subst (BreaksAlone c f i) (sym p.1) (broken p.0)
  where
    broken : spends_all c f ks x ≡ false → BreaksEnd c f i
    broken e = record { kinds = ks; instr = x; reached = q; ranged = g; breaks = e }
row_reports c f i ks x r q g (inr (inr (inr (inr p)))) = absurd p

ranged_reports : (c : PlainCode) (f : PlainFunction) (i : ℕ) (ks : List Kind) (x : Instr) (r : SoundRule) (b : Bool) → IsReachedAt c f i ks x → in_range c f i x ≡ b → InKept r (if b then row_kept c f ks x else []) → BreaksAlone c f i r
ranged_reports c f i ks x r true q g p = row_reports c f i ks x r q g p
ranged_reports c f i ks x r false q g p = absurd p

pub known_reports : (c : PlainCode) (f : PlainFunction) (i : ℕ) (ks : List Kind) (x : Instr) (r : SoundRule) → KnownAt c f i ks → IsInstr f i x → InKept r (known_kept c f i ks x) → BreaksAlone c f i r
known_reports c f i ks x r kn is (inl p) = subst (BreaksAlone c f i) (sym p.1) (range_broken c f i x is p.0)
known_reports c f i ks x r kn is (inr (inl p)) = subst (BreaksAlone c f i) (sym p.1) (last_broken c f i ks x (reached c f i ks x kn is) p.0)
known_reports c f i ks x r kn is (inr (inr (inl p))) = subst (BreaksAlone c f i) (sym p.1) (fip_broken c f i ks x (reached c f i ks x kn is) p.0)
known_reports c f i ks x r kn is (inr (inr (inr p))) = ranged_reports c f i ks x r (in_range c f i x) (reached c f i ks x kn is) refl p

pub unknown_reports : (c : PlainCode) (f : PlainFunction) (i : ℕ) (x : Instr) (r : SoundRule) → IsInstr f i x → in_range c f i x ≡ false → r ≡ S1 → BreaksAlone c f i r
unknown_reports c f i x r is e s = subst (BreaksAlone c f i) (sym s) (range_broken c f i x is e)

pub next_reports : (c : PlainCode) (f : PlainFunction) (i : ℕ) (ks : List Kind) (x : Instr) (goes : Bool) (left : List Kind) (r : SoundRule) → KnownAt c f i ks → IsInstr f i x → GoesFrom c f i ks x goes left → fits_next f i goes left ≡ false → r ≡ S5 → BreaksAlone c f i r
next_reports c f i ks x true left r kn is g e s = subst (BreaksAlone c f i) (sym s) (label_broken c f i (i + 1) left (record { kinds = ks; instr = x; reached = reached c f i ks x kn is; asked = g.0; goes = inl (omega arith, g.1) }) e)
next_reports c f i ks x false left r kn is g e s = absurd (true≢false e)

-- ---- what is broken is found

pub same_instr : (f : PlainFunction) (i : ℕ) (x y : Instr) → IsInstr f i x → IsInstr f i y → x ≡ y
same_instr f i x y p q = same_Some x y (sym p ∙ q)

in_row : (c : PlainCode) (f : PlainFunction) (i : ℕ) (ks : List Kind) (x : Instr) (r : SoundRule) → in_range c f i x ≡ true → InKept r (row_kept c f ks x) → InKept r (known_kept c f i ks x)
in_row c f i ks x r g p = inr (inr (inr (subst (λ b. InKept r (if b then row_kept c f ks x else [])) (sym g) p)))

abbrev Finds : PlainCode → PlainFunction → ℕ → List Kind → Instr → Bool → List Kind → SoundRule → Type 0
Finds c f i ks x goes left r = InKept r (known_kept c f i ks x) ⊎ ((fits_next f i goes left ≡ false) × (r ≡ S5))

next_found : (c : PlainCode) (f : PlainFunction) (i : ℕ) (ks : List Kind) (x : Instr) (goes : Bool) (left : List Kind) (j : ℕ) (other m : List Kind) → GoesFrom c f i ks x goes left → is_as_asked c f i ks x ≡ true → j ≡ suc i → Leaves c ks x other → label_at f.labels j ≡ Some m → fit_all m other ≡ false → fits_next f i goes left ≡ false
next_found c f i ks x true left j other m g a e l h b =
    let same : other ≡ left = leaves_once c ks x other left l g.1 in
    let at : i + 1 ≡ j = omega (arith, e) in
    ap (λ n. fit_map (label_at f.labels n) left) at ∙ (ap (λ o. fit_map o left) h ∙ (ap (fit_all m) (sym same) ∙ b))
next_found c f i ks x false left j other m (inl n) a e l h b = absurd (true≢false (sym a ∙ n))
next_found c f i ks x false left j other m (inr n) a e l h b = absurd (end_leaves c ks x other n l)

target_found : (c : PlainCode) (f : PlainFunction) (ks : List Kind) (x : Instr) (j : ℕ) (other m : List Kind) → is_asked c f ks x ≡ true → Jumps ks x j other → label_at f.labels j ≡ Some m → fit_all m other ≡ false → arrives f.labels (jumps ks x) (is_asked c f ks x) ≡ false
target_found c f ks x j other m a p h b =
    let q = jumps_of ks x j other p in
    ap₂ (arrives f.labels) q.1 a ∙ (ap₂ (fit_at f.labels) q.2 q.3 ∙ (ap (λ o. fit_map o other) h ∙ b))

label_found : (c : PlainCode) (f : PlainFunction) (i : ℕ) (ks : List Kind) (x : Instr) (goes : Bool) (left : List Kind) (j : ℕ) (other m : List Kind) → GoesFrom c f i ks x goes left → is_as_asked c f i ks x ≡ true → label_at f.labels j ≡ Some m → fit_all m other ≡ false → ((j ≡ suc i) × Leaves c ks x other) ⊎ Jumps ks x j other → Finds c f i ks x goes left S5
label_found c f i ks x goes left j other m g a h b (inl p) = inr (next_found c f i ks x goes left j other m g a p.0 p.1 h b, refl)
label_found c f i ks x goes left j other m g a h b (inr p) =
    let q = and_parts (in_range c f i x) (is_asked c f ks x) a in
    inl (in_row c f i ks x S5 q.0 (inr (inr (inl (target_found c f ks x j other m q.1 p h b, refl)))))

pub known_finds : (c : PlainCode) (f : PlainFunction) (i : ℕ) (ks : List Kind) (x : Instr) (goes : Bool) (left : List Kind) (r : SoundRule) → KnownAt c f i ks → IsInstr f i x → GoesFrom c f i ks x goes left → BreaksAlone c f i r → Finds c f i ks x goes left r
known_finds c f i ks x goes left S0 kn is g b = absurd b
known_finds c f i ks x goes left S1 kn is g b = inl (inl (ap (in_range c f i) (same_instr f i x b.instr is b.is) ∙ b.breaks, refl))
known_finds c f i ks x goes left S2 kn is g b =
    let e : x ≡ b.instr = same_instr f i x b.instr is b.reached.instr in
    let k : ks ≡ b.kinds = known_once c f i ks b.kinds kn b.reached.known in
    inl (in_row c f i ks x S2 (ap (in_range c f i) e ∙ b.ranged) (inl (ap₂ (sources c f) k e ∙ b.breaks, refl)))
known_finds c f i ks x goes left S3 kn is g b =
    let e : x ≡ b.instr = same_instr f i x b.instr is b.reached.instr in
    let k : ks ≡ b.kinds = known_once c f i ks b.kinds kn b.reached.known in
    inl (in_row c f i ks x S3 (ap (in_range c f i) e ∙ b.ranged) (inr (inl (ap₂ (destinations c) k e ∙ b.breaks, refl))))
known_finds c f i ks x goes left S4 kn is g b =
    let e : x ≡ b.instr = same_instr f i x b.instr is b.reached.instr in
    let s = b.last in
    let l : not (i + 1 == length f.instrs) ≡ false = not_from_true _ (eq-eqb (i + 1) (length f.instrs) (omega (arith, s))) in
    inl (inr (inl (or_from _ _ l (ap is_end e ∙ b.breaks), refl)))
known_finds c f i ks x goes left S5 kn is g b =
    let e : x ≡ b.goes.instr = same_instr f i x b.goes.instr is b.goes.reached.instr in
    let k : ks ≡ b.goes.kinds = known_once c f i ks b.goes.kinds kn b.goes.reached.known in
    label_found c f i ks x goes left b.target b.left b.map g (ap₂ (is_as_asked c f i) k e ∙ b.goes.asked) b.label b.breaks (subst₂ (λ q y. ((b.target ≡ suc i) × Leaves c q y b.left) ⊎ Jumps q y b.target b.left) (sym k) (sym e) b.goes.goes)
known_finds c f i ks x goes left S6 kn is g b =
    let e : x ≡ b.instr = same_instr f i x b.instr is b.reached.instr in
    let k : ks ≡ b.kinds = known_once c f i ks b.kinds kn b.reached.known in
    inl (in_row c f i ks x S6 (ap (in_range c f i) e ∙ b.ranged) (inr (inr (inr (inl (ap₂ (spends_all c f) k e ∙ b.breaks, refl))))))
known_finds c f i ks x goes left S7 kn is g b =
    let e : x ≡ b.instr = same_instr f i x b.instr is b.reached.instr in
    inl (inr (inr (inl (not_from_true _ (and_from _ _ b.fip (ap (releases c) e ∙ b.breaks)), refl))))
known_finds c f i ks x goes left S8 kn is g b = absurd b
known_finds c f i ks x goes left S9 kn is g b = absurd b

pub unknown_finds : (c : PlainCode) (f : PlainFunction) (i : ℕ) (x : Instr) (r : SoundRule) → ((ks : List Kind) → KnownAt c f i ks → ⊥) → IsInstr f i x → BreaksAlone c f i r → (in_range c f i x ≡ false) × (r ≡ S1)
unknown_finds c f i x S0 never is b = absurd b
unknown_finds c f i x S1 never is b = (ap (in_range c f i) (same_instr f i x b.instr is b.is) ∙ b.breaks, refl)
unknown_finds c f i x S2 never is b = absurd (never b.kinds b.reached.known)
unknown_finds c f i x S3 never is b = absurd (never b.kinds b.reached.known)
unknown_finds c f i x S4 never is b = absurd (never b.kinds b.reached.known)
unknown_finds c f i x S5 never is b = absurd (never b.goes.kinds b.goes.reached.known)
unknown_finds c f i x S6 never is b = absurd (never b.kinds b.reached.known)
unknown_finds c f i x S7 never is b = absurd (never b.kinds b.reached.known)
unknown_finds c f i x S8 never is b = absurd b
unknown_finds c f i x S9 never is b = absurd b
