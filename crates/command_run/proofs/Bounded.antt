-- A sound code has at most 4,096 functions, of different names, and no function needs more frames than there are
-- functions.
-- Idea: how many functions have a smaller number than a function is a solution of what its frames solve.
use Rattle.std.proofs.Common.{◌≡◌, ◌∙◌, ◌<◌, ◌≤◌, ◌+◌, ℕ, zero, suc, Bool, true, false, length, Some, ◌==◌, refl, sym, ap, inl, inr, arith}
use Rattle.std.specs.Prelude.{nat_lt}
use Rattle.fip_base.specs.declared.plain.Stack.{Stack}
use Rattle.command_eval.specs.machine_correctness.call_groups.Stacks.{charge, Solves, base_frames, own_frames}
use Rattle.command_eval.proofs.machine_correctness.separation_kinds.Basics.{below, below_is, less_or_not, equal, or_not, unequal}
use Rattle.command_eval.specs.machine_correctness.code_rules.declared.rule.SoundRule.TheVariants.{S0}
use Rattle.command_eval.specs.machine_correctness.code_rules.Breaks.{IsSound}
use Rattle.code_verify.specs.cell_code.Plain.{PlainFunction, PlainCode, function_at}
use Rattle.command_eval.specs.machine_correctness.code_rules.StackNumbers.{FipCalls, IsStack}
use Rattle.command_eval.specs.machine_correctness.code_rules.Tables.{AreSoundTables}

-- ---- what is so of sound tables, where it can be tested

tables_or_not : {A : Type 0} (c : PlainCode) → IsSound c → (AreSoundTables c → ⊥) → A
tables_or_not c sound h = absurd (sound 0 0 S0 (inl (h, refl, refl, refl)))

pub few_functions : (c : PlainCode) → IsSound c → length c.functions ≤ 4096
few_functions c sound = elim (less_or_not 4096 (length c.functions)) as (λ v. length c.functions ≤ 4096) [
  | inl more ↦ tables_or_not c sound (λ t. let few = t.few_functions in absurd (omega (arith, more, few)))
  | inr few ↦ few
]

pub one_of_name : (c : PlainCode) (m n : ℕ) (f g : PlainFunction) → IsSound c → function_at c m ≡ Some f → function_at c n ≡ Some g → 0 < length f.name → f.name ≡ g.name → m ≡ n
one_of_name c m n f g sound a b some same = elim (or_not (m == n)) as (λ v. m ≡ n) [
  | inl e ↦ equal m n e
  | inr e ↦ tables_or_not c sound (λ t. unequal m n e (t.names m n f g a b some same))
]

-- ---- how many of the first m have a smaller number

abbrev one_if : Bool → ℕ
one_if true = 1
one_if false = 0

one_at_most : (b : Bool) → one_if b ≤ 1
one_at_most true = omega arith
one_at_most false = omega arith

module _ (number : ℕ → ℕ) where
  abbrev smaller : ℕ → ℕ → ℕ
  smaller zero x = 0
  smaller (suc m) x = smaller m x + one_if (nat_lt (number m) x)

  smaller_few : (m x : ℕ) → smaller m x ≤ m
  smaller_few zero x = omega arith
  smaller_few (suc m) x = let a = smaller_few m x in let b = one_at_most (nat_lt (number m) x) in omega (arith, a, b)

  one_more : (n x y : ℕ) → x ≤ y → one_if (nat_lt n x) ≤ one_if (nat_lt n y)
  one_more n x y le = elim (or_not (nat_lt n x)) as (λ v. one_if (nat_lt n x) ≤ one_if (nat_lt n y)) [
    | inl e ↦
        let low = below n x e in
        let a = ap one_if e in
        let b = ap one_if (below_is n y (omega (arith, low, le))) in
        omega (arith, a, b)
    | inr e ↦ let a = ap one_if e in omega (arith, a)
  ]

  smaller_more : (m x y : ℕ) → x ≤ y → smaller m x ≤ smaller m y
  smaller_more zero x y le = omega arith
  smaller_more (suc m) x y le = let a = smaller_more m x y le in let b = one_more (number m) x y le in omega (arith, a, b)

  not_itself : (x : ℕ) → one_if (nat_lt x x) ≡ 0
  not_itself x = elim (or_not (nat_lt x x)) as (λ v. one_if (nat_lt x x) ≡ 0) [
    | inl e ↦ let low = below x x e in absurd (omega (arith, low))
    | inr e ↦ ap one_if e
  ]

  -- function g is one that is smaller than y, and not smaller than itself
  smaller_by_one : (m g y : ℕ) → g < m → number g < y → suc (smaller m (number g)) ≤ smaller m y
  smaller_by_one zero g y within low = absurd (omega (arith, within))
  smaller_by_one (suc m) g y within low = elim (less_or_not g m) as (λ v. suc (smaller (suc m) (number g)) ≤ smaller (suc m) y) [
    | inl inside ↦
        let a = smaller_by_one m g y inside low in
        let b = one_more (number m) (number g) y (omega (arith, low)) in
        omega (arith, a, b)
    | inr past ↦
        let e : g ≡ m = omega (arith, within, past) in
        let a = smaller_more m (number g) y (omega (arith, low)) in
        let own : one_if (nat_lt (number m) (number g)) ≡ 0 = ap (λ k. one_if (nat_lt (number k) (number g))) (sym e) ∙ not_itself (number g) in
        let new : one_if (nat_lt (number m) y) ≡ 1 = ap one_if (below_is (number m) y (let z = ap number e in omega (arith, z, low))) in
        omega (arith, a, own, new)
  ]

  solves_smaller : (c : PlainCode) → Solves (FipCalls c) base_frames own_frames number → Solves (FipCalls c) base_frames own_frames (λ f. smaller (length c.functions) (number f))
  solves_smaller c h = record { base_in = λ f. omega arith; calls_in = calls }
    where
      calls : (f g : ℕ) (k : Bool) → FipCalls c f g k → smaller (length c.functions) (number g) + charge (own_frames f) k ≤ smaller (length c.functions) (number f)
      calls f g true x =
          let less = h.calls_in f g true x in
          let s = smaller_by_one (length c.functions) g (number f) x.1.1.there (omega (arith, less)) in
          omega (arith, s)
      calls f g false x =
          let less = h.calls_in f g false x in
          let s = smaller_more (length c.functions) (number g) (number f) (omega (arith, less)) in
          omega (arith, s)

pub few_frames : (c : PlainCode) (n : ℕ) (s : Stack) → IsSound c → IsStack c n s → s.frames ≤ 4096
few_frames c n s sound h =
    let least = h.are_frames.1 (λ f. smaller h.frames (length c.functions) (h.frames f)) (solves_smaller h.frames c h.are_frames.0) n in
    let few = smaller_few h.frames (length c.functions) (h.frames n) in
    let all = few_functions c sound in
    let is = ap (λ (s : Stack). s.frames) h.is in
    omega (arith, least, few, all, is)
