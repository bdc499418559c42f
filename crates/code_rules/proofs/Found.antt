-- What a code of one function breaks, computed: whatever breaks a rule is found.
use Rattle.std.proofs.Common.{◌≡◌, ◌⊎◌, inl, inr, ℕ, zero, suc, Bool, true, false, ◌&&◌, ◌||◌, not, List, [], ◌∷◌, length, Option, Some, None, slice_get, ◌==◌, refl, sym, ap, ap₂, ◌∙◌, subst, true≢false}
use Rattle.std.proofs.lemmas.Option.{same_Some, none-some}
use Rattle.std.proofs.lemmas.Bool.{and_from, eq-eqb}
use Rattle.cell_code.specs.fip_language.Table.{Table}
use Rattle.cell_code.specs.declared.code.Instr.{Instr}
use Rattle.cell_code.specs.declared.code.Instr.TheVariants as I
use Rattle.cell_code.specs.declared.kind.Kind.{Kind}
use Rattle.code_rules.specs.declared.rule.SoundRule.{SoundRule}
use Rattle.code_rules.specs.declared.rule.SoundRule.TheVariants.{S0, S1, S2, S3, S4, S5, S6, S7, S8, S9}
use Rattle.cell_code.specs.Plain.{PlainFunction, PlainCode}
use Rattle.code_rules.specs.Codes.{label_at, is_fip}
use Rattle.code_rules.specs.Kinds.{at, set_of}
use Rattle.code_rules.specs.Changes.{tested, without}
use Rattle.code_rules.specs.Fitting.{fit_all}
use Rattle.code_rules.specs.Ranges.{in_range}
use Rattle.code_rules.specs.Asked.{sources, destinations}
use Rattle.code_rules.specs.Leaves.{Leaves, Jumps}
use Rattle.code_rules.specs.Flow.{is_as_asked, IsReachedAt}
use Rattle.code_rules.specs.Tables.{AreSoundTables}
use Rattle.code_rules.specs.Headers.{is_formed}
use Rattle.code_rules.specs.Endings.{is_end, spends_all, releases}
use Rattle.code_rules.specs.Calls.{IsCall}
use Rattle.code_rules.specs.Breaks.{BreaksWithin, BreaksFunction, Breaks}
use Rattle.code_rules.specs.Example.{code_of}
use Rattle.code_rules.proofs.Known.{after, after_leaves, known, known_is, Sure, sure_row}
use Rattle.cell_code.proofs.fip_base.fip_language.Facts.{not_of as not_true}

pub record Arrival : Type 0 where
  pub target : ℕ
  pub kinds : List Kind

abbrev pub jump : List Kind → Instr → Option Arrival
jump ks (I.Const d v) = None
jump ks (I.Atom d t k) = None
jump ks (I.Move d s) = None
jump ks (I.Arith d op a b line col) = None
jump ks (I.Test r k target) = Some (record { target = target; kinds = tested ks r (without k (set_of (at ks r))) })
jump ks (I.TestInt r v target) = Some (record { target = target; kinds = ks })
jump ks (I.Peek d r i) = None
jump ks (I.Take r ds) = None
jump ks (I.Put d t k ss) = None
jump ks (I.Drop r) = None
jump ks (I.Free r) = None
jump ks (I.Call g rs ds) = None
jump ks (I.Tail g rs) = None
jump ks (I.Ret rs) = None
jump ks (I.Jump target) = Some (record { target = target; kinds = ks })

abbrev arrival : ℕ → List Kind → Option Arrival
arrival j left = Some (record { target = j; kinds = left })

jump_jumps : (ks : List Kind) (x : Instr) (j : ℕ) (left : List Kind) → Jumps ks x j left → jump ks x ≡ arrival j left
jump_jumps ks (I.Const d v) j left p = absurd p
jump_jumps ks (I.Atom d t k) j left p = absurd p
jump_jumps ks (I.Move d s) j left p = absurd p
jump_jumps ks (I.Arith d op a b line col) j left p = absurd p
jump_jumps ks (I.Test r k target) j left p = ap₂ arrival (sym p.0) (sym p.1)
jump_jumps ks (I.TestInt r v target) j left p = ap₂ arrival (sym p.0) (sym p.1)
jump_jumps ks (I.Peek d r i) j left p = absurd p
jump_jumps ks (I.Take r ds) j left p = absurd p
jump_jumps ks (I.Put d t k ss) j left p = absurd p
jump_jumps ks (I.Drop r) j left p = absurd p
jump_jumps ks (I.Free r) j left p = absurd p
jump_jumps ks (I.Call g rs ds) j left p = absurd p
jump_jumps ks (I.Tail g rs) j left p = absurd p
jump_jumps ks (I.Ret rs) j left p = absurd p
jump_jumps ks (I.Jump target) j left p = ap₂ arrival (sym p.0) (sym p.1)

-- What arrives doesn't fit the label map.
abbrev misses : Option (List Kind) → Option (List Kind) → Bool
misses None left = false
misses (Some m) None = false
misses (Some m) (Some left) = not (fit_all m left)

abbrev misses_at : PlainFunction → Option Arrival → Bool
misses_at f None = false
misses_at f (Some a) = misses (label_at f.labels a.target) (Some a.kinds)

abbrev waits : Instr → Bool
waits (I.Const d v) = false
waits (I.Atom d t k) = false
waits (I.Move d s) = false
waits (I.Arith d op a b line col) = false
waits (I.Test r k target) = false
waits (I.TestInt r v target) = false
waits (I.Peek d r i) = false
waits (I.Take r ds) = false
waits (I.Put d t k ss) = false
waits (I.Drop r) = false
waits (I.Free r) = false
waits (I.Call g rs ds) = true
waits (I.Tail g rs) = false
waits (I.Ret rs) = false
waits (I.Jump target) = false

waits_call : (x : Instr) (g : ℕ) (b : Bool) → IsCall x g b → b ≡ true → waits x ≡ true
waits_call (I.Const d v) g b p e = absurd p
waits_call (I.Atom d t k) g b p e = absurd p
waits_call (I.Move d s) g b p e = absurd p
waits_call (I.Arith d op l r line col) g b p e = absurd p
waits_call (I.Test r k target) g b p e = absurd p
waits_call (I.TestInt r v target) g b p e = absurd p
waits_call (I.Peek d r i) g b p e = absurd p
waits_call (I.Take r ds) g b p e = absurd p
waits_call (I.Put d t k ss) g b p e = absurd p
waits_call (I.Drop r) g b p e = absurd p
waits_call (I.Free r) g b p e = absurd p
waits_call (I.Call h rs ds) g b p e = refl
waits_call (I.Tail h rs) g b p e = absurd (true≢false (sym e ∙ p.1))
waits_call (I.Ret rs) g b p e = absurd p
waits_call (I.Jump target) g b p e = absurd p

-- Whether an instruction breaks a rule, by the kinds before it. A call that waits counts as one of the own group.
abbrev breaks_known : PlainCode → PlainFunction → ℕ → Instr → SoundRule → List Kind → Bool
breaks_known c f i x S0 ks = false
breaks_known c f i x S1 ks = not (in_range c f i x)
breaks_known c f i x S2 ks = in_range c f i x && not (sources c f ks x)
breaks_known c f i x S3 ks = in_range c f i x && not (destinations c ks x)
breaks_known c f i x S4 ks = (suc i == length f.instrs) && not (is_end x)
breaks_known c f i x S5 ks = is_as_asked c f i ks x && (misses (label_at f.labels (suc i)) (after c ks x) || misses_at f (jump ks x))
breaks_known c f i x S6 ks = in_range c f i x && not (spends_all c f ks x)
breaks_known c f i x S7 ks = is_fip f.kind && releases c x
breaks_known c f i x S8 ks = is_fip f.kind && waits x
breaks_known c f i x S9 ks = false

abbrev breaks_unknown : PlainCode → PlainFunction → ℕ → Instr → SoundRule → Bool
breaks_unknown c f i x S0 = false
breaks_unknown c f i x S1 = not (in_range c f i x)
breaks_unknown c f i x S2 = false
breaks_unknown c f i x S3 = false
breaks_unknown c f i x S4 = false
breaks_unknown c f i x S5 = false
breaks_unknown c f i x S6 = false
breaks_unknown c f i x S7 = false
breaks_unknown c f i x S8 = false
breaks_unknown c f i x S9 = false

abbrev breaks_by : PlainCode → PlainFunction → ℕ → Option Instr → Option (List Kind) → SoundRule → Bool
breaks_by c f i None ks rule = false
breaks_by c f i (Some x) None rule = breaks_unknown c f i x rule
breaks_by c f i (Some x) (Some ks) rule = breaks_known c f i x rule ks

abbrev pub breaks_at : PlainCode → PlainFunction → ℕ → SoundRule → Bool
breaks_at c f i rule = breaks_by c f i (slice_get f.instrs i) (known c f i) rule

by_reached : (c : PlainCode) (f : PlainFunction) → Sure c f → (i : ℕ) (ks : List Kind) (x : Instr) (rule : SoundRule) → IsReachedAt c f i ks x → breaks_known c f i x rule ks ≡ true → breaks_at c f i rule ≡ true
by_reached c f sure i ks x rule r e = ap₂ (λ o p. breaks_by c f i o p rule) r.instr (known_is c f sure i ks r.known) ∙ e

range_found : (c : PlainCode) (f : PlainFunction) (i : ℕ) (x : Instr) (o : Option (List Kind)) → in_range c f i x ≡ false → breaks_by c f i (Some x) o S1 ≡ true
range_found c f i x None e = ap not e
range_found c f i x (Some ks) e = ap not e

missed : (f : PlainFunction) (c : PlainCode) (i : ℕ) (ks : List Kind) (x : Instr) → Sure c f → IsReachedAt c f i ks x → (j : ℕ) (left m : List Kind) → label_at f.labels j ≡ Some m → fit_all m left ≡ false → ((j ≡ suc i) × Leaves c ks x left) ⊎ Jumps ks x j left → (misses (label_at f.labels (suc i)) (after c ks x) || misses_at f (jump ks x)) ≡ true
missed f c i ks x sure r j left m l e (inl p) =
    let a = after_leaves c ks x left (sure_row c f sure i ks x (known_is c f sure i ks r.known) r.instr) p.1 in
    let k : label_at f.labels (suc i) ≡ Some m = ap (label_at f.labels) (sym p.0) ∙ l in
    ap (λ b. b || misses_at f (jump ks x)) (ap₂ misses k a ∙ ap not e)
missed f c i ks x sure r j left m l e (inr p) =
    let a : misses_at f (jump ks x) ≡ true = ap (misses_at f) (jump_jumps ks x j left p) ∙ (ap (λ o. misses o (Some left)) l ∙ ap not e) in
    or_right (misses (label_at f.labels (suc i)) (after c ks x)) (misses_at f (jump ks x)) a
  where
    or_right : (a b : Bool) → b ≡ true → (a || b) ≡ true
    or_right true b e = refl
    or_right false b e = e

within_found : (w : Table) (f : PlainFunction) → Sure (code_of w f) f → (i : ℕ) (rule : SoundRule) → BreaksWithin (code_of w f) 0 f i rule → breaks_at (code_of w f) f i rule ≡ true
within_found w f sure i S0 b = absurd b
within_found w f sure i S1 b = ap (λ o. breaks_by (code_of w f) f i o (known (code_of w f) f i) S1) b.is ∙ range_found (code_of w f) f i b.instr (known (code_of w f) f i) b.breaks
within_found w f sure i S2 b = by_reached (code_of w f) f sure i b.kinds b.instr S2 b.reached (and_from _ _ b.ranged (ap not b.breaks))
within_found w f sure i S3 b = by_reached (code_of w f) f sure i b.kinds b.instr S3 b.reached (and_from _ _ b.ranged (ap not b.breaks))
within_found w f sure i S4 b = by_reached (code_of w f) f sure i b.kinds b.instr S4 b.reached (and_from _ _ (eq-eqb _ _ b.last) (ap not b.breaks))
within_found w f sure i S5 b = by_reached (code_of w f) f sure i b.goes.kinds b.goes.instr S5 b.goes.reached (and_from _ _ b.goes.asked (missed f (code_of w f) i b.goes.kinds b.goes.instr sure b.goes.reached b.target b.left b.map b.label b.breaks b.goes.goes))
within_found w f sure i S6 b = by_reached (code_of w f) f sure i b.kinds b.instr S6 b.reached (and_from _ _ b.ranged (ap not b.breaks))
within_found w f sure i S7 b = by_reached (code_of w f) f sure i b.kinds b.instr S7 b.reached (and_from _ _ b.fip b.breaks)
within_found w f sure i S8 b =
    let same : b.calls.function ≡ f = same_Some b.calls.function f (sym b.calls.is) in
    by_reached (code_of w f) f sure i b.calls.kinds b.calls.instr S8 (subst (λ g. IsReachedAt (code_of w f) g i b.calls.kinds b.calls.instr) same b.calls.reached) (and_from _ _ b.fip (waits_call b.calls.instr b.callee true b.calls.call refl))
within_found w f sure i S9 b = absurd b

-- ---- a list of all rules that are broken at an instruction

abbrev pub InRules : SoundRule → List SoundRule → Type 0
InRules r [] = ⊥
InRules r (s ∷ rs) = (r ≡ s) ⊎ InRules r rs

abbrev pick_one : Bool → SoundRule → List SoundRule → List SoundRule
pick_one true r rest = r ∷ rest
pick_one false r rest = rest

abbrev pick : (SoundRule → Bool) → List SoundRule → List SoundRule
pick p [] = []
pick p (r ∷ rs) = pick_one (p r) r (pick p rs)

abbrev all_rules : List SoundRule
all_rules = S0 ∷ S1 ∷ S2 ∷ S3 ∷ S4 ∷ S5 ∷ S6 ∷ S7 ∷ S8 ∷ S9 ∷ []

abbrev pub rules_at : PlainCode → PlainFunction → ℕ → List SoundRule
rules_at c f i = pick (breaks_at c f i) all_rules

is_rule : (r : SoundRule) → InRules r all_rules
is_rule S0 = inl refl
is_rule S1 = inr (inl refl)
is_rule S2 = inr (inr (inl refl))
is_rule S3 = inr (inr (inr (inl refl)))
is_rule S4 = inr (inr (inr (inr (inl refl))))
is_rule S5 = inr (inr (inr (inr (inr (inl refl)))))
is_rule S6 = inr (inr (inr (inr (inr (inr (inl refl))))))
is_rule S7 = inr (inr (inr (inr (inr (inr (inr (inl refl)))))))
is_rule S8 = inr (inr (inr (inr (inr (inr (inr (inr (inl refl))))))))
is_rule S9 = inr (inr (inr (inr (inr (inr (inr (inr (inr (inl refl)))))))))

picked_later : (b : Bool) (r s : SoundRule) (rs : List SoundRule) → InRules r rs → InRules r (pick_one b s rs)
picked_later true r s rs x = inr x
picked_later false r s rs x = x

picked : (p : SoundRule → Bool) (r : SoundRule) (rs : List SoundRule) → p r ≡ true → InRules r rs → InRules r (pick p rs)
picked p r [] e x = x
picked p r (s ∷ rs) e (inl x) = subst (λ b. InRules r (pick_one b s (pick p rs))) (sym (ap p (sym x) ∙ e)) (inl x)
picked p r (s ∷ rs) e (inr x) = picked_later (p s) r s (pick p rs) (picked p r rs e x)

-- All that a code of one function breaks is found.
pub found : (w : Table) (f : PlainFunction) → AreSoundTables (code_of w f) → is_formed (code_of w f) f ≡ true → Sure (code_of w f) f → (n i : ℕ) (rule : SoundRule) → Breaks (code_of w f) n i rule → (n ≡ 0) × InRules rule (rules_at (code_of w f) f i)
found w f t formed sure n i rule (inl x) = absurd (x.0 t)
found w f t formed sure zero i rule (inr x) = (refl, picked (breaks_at (code_of w f) f i) rule all_rules (of_function (subst (λ g. BreaksFunction (code_of w f) 0 g i rule) (sym (same_Some f x.1.0 x.1.1)) x.1.2)) (is_rule rule))
  where
    of_function : BreaksFunction (code_of w f) 0 f i rule → breaks_at (code_of w f) f i rule ≡ true
    of_function (inl y) = absurd (true≢false (sym formed ∙ y.0))
    of_function (inr y) = within_found w f sure i rule y.1
found w f t formed sure (suc n) i rule (inr x) = absurd (none-some x.1.0 x.1.1)
