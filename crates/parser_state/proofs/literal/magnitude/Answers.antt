use Rattle.std.proofs.Common.{◌≡◌, ℕ, ◌+◌, ◌-◌, ◌*◌, ◌<◌, ◌≤◌, List, [], ◌∷◌, length, drop, get_or, sym, ap, subst, ◌∙◌, arith}
use Rattle.std.proofs.lemmas.List.{drop_more}
use Rattle.fip_grammar.specs.Token.{value_from, value_of}
use Rattle.parser_state.proofs.literal.magnitude.Goals as goal

-- A digit more makes the value no smaller.
value_grows : (n : ℕ) (ds : List ℕ) → n ≤ value_from n ds
value_grows n [] = omega arith
value_grows n (d ∷ ds) = let h = value_grows (n * 10 + (d - 48)) ds in omega (arith, h)

at_least : (n i : ℕ) (ds : List ℕ) → value_from n (drop i ds) ≡ value_of ds → i < length ds → n * 10 + (get_or ds i 0 - 48) ≤ value_of ds
at_least n i ds h l =
    let e : value_from (n * 10 + (get_or ds i 0 - 48)) (drop (i + 1) ds) ≡ value_of ds = ap (value_from n) (sym (drop_more ds i 0 l)) ∙ h in
    subst (λ z. n * 10 + (get_or ds i 0 - 48) ≤ z) e (value_grows (n * 10 + (get_or ds i 0 - 48)) (drop (i + 1) ds))

pub returns-in_err-checked_mul-clause-none : goal.returns-in_err-checked_mul-clause-none
returns-in_err-checked_mul-clause-none c =
    λ _. let h = at_least c.loop-digit.value c.loop-digit.digit-index c.args.digits.now c.loop-digit.invariant.value c.loop-digit-test.true in
    omega (arith, c.in_err-checked_mul.ensures)

pub returns-in_err-next-clause-none : goal.returns-in_err-next-clause-none
returns-in_err-next-clause-none c =
    λ _. let h = at_least c.loop-digit.value c.loop-digit.digit-index c.args.digits.now c.loop-digit.invariant.value c.loop-digit-test.true in
    let a = c.in_ok-checked_mul.ensures in
    let b = c.in_err-next.ensures in
    let d = c.from.ensures in
    let s = c.saturating_sub.ensures in
    omega arith

pub returns-then-next-limit-clause-none : goal.returns-then-next-limit-clause-none
returns-then-next-limit-clause-none c =
    λ _. let h = at_least c.loop-digit.value c.loop-digit.digit-index c.args.digits.now c.loop-digit.invariant.value c.loop-digit-test.true in
    let a = c.in_ok-checked_mul.ensures in
    let b = c.in_ok-next.ensures in
    let d = c.from.ensures in
    let s = c.saturating_sub.ensures in
    omega arith
