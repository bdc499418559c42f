use Rattle.std.proofs.Common.{arith, sym, ap, ◌∙◌, subst, ◌≡◌, suc, ◌+◌, ◌*◌, ◌-◌, ◌^◌, ◌<◌, ◌≤◌, length}
use Rattle.fip_language.specs.Values.{Int}
use Rattle.fip_language.specs.ValueText.{bound}
use Rattle.value_text.specs.Machine.{Number, filled}
use Rattle.value_text.specs.Scan.{runs, before_digits}
use Rattle.value_text.proofs.Runs.{digit_at, digit_more, digit_room, digits_bound, first_stops, digit_goes, number_over, int_back, carried}
use Rattle.value_text.proofs.scan.digits.Goals as goal

pub returns-in_default-clause-reads : goal.returns-in_default-clause-reads
returns-in_default-clause-reads c =
    let lt : c.args.at < length c.args.bytes.now = let h = c.if-at-bytes.false in omega (arith, h) in
    λ tb around. first_stops tb c.args.bytes.now c.args.negative around c.args.at lt c.in_default.ensures (λ n. c.requires.blank n lt) (λ n. c.requires.minus n lt)

pub int_from-requires : goal.int_from-requires
int_from-requires c =
    let h = c.loop-i-test.true in
    let few = c.min-few.ensures in
    digits_bound c.args.negative c.loop-i.n (c.loop-i.i - c.args.at) c.loop-i.invariant.small (omega (arith, h, few))

pub returns-in_default-figure-clause-reads : goal.returns-in_default-figure-clause-reads
returns-in_default-figure-clause-reads c =
    let h = c.loop-i-test.true in
    let few = c.min-few.ensures in
    let lt : c.loop-i.i < length c.args.bytes.now = omega (arith, h, few) in
    let range = digits_bound c.args.negative c.loop-i.n (c.loop-i.i - c.args.at) c.loop-i.invariant.small (omega (arith, h, few)) in
    λ tb around. c.loop-i.invariant.reads tb around ∙ number_over tb c.args.bytes.now c.args.negative c.loop-i.n around c.loop-i.i (omega (arith, lt)) (λ l. c.in_default-figure.ensures) ∙ ap (λ z. runs tb c.args.bytes.now (filled around (Int z)) c.loop-i.i) (int_back c.args.negative c.loop-i.n range c.int_from.result c.int_from.ensures)

pub with_digit-n-requires-clause-small : goal.with_digit-n-requires-clause-small
with_digit-n-requires-clause-small c =
    let h = c.loop-i-test.true in
    let few = c.min-few.ensures in
    digit_room c.loop-i.n (c.loop-i.i - c.args.at) c.loop-i.invariant.small (omega (arith, h, few))

pub loop-i-preserved : goal.loop-i-preserved
loop-i-preserved c =
    let h = c.loop-i-test.true in
    let few = c.min-few.ensures in
    let from = c.loop-i.auto.i in
    let lt : c.loop-i.i < length c.args.bytes.now = omega (arith, h, few) in
    let k = c.loop-i.i - c.args.at in
    let d = c.in-Some-figure.d in
    let small : 10 * c.loop-i.n + d < 10 ^ suc k = digit_more c.loop-i.n d k c.loop-i.invariant.small c.in-Some-figure.ensures.2 in
    let next : suc k ≡ c.loop-i.i + 1 - c.args.at = omega (arith, from) in
    let number = c.with_digit-n.ensures.number in
    let e : c.with_digit-n.result ≡ 10 * c.loop-i.n + digit_at c.args.bytes.now c.loop-i.i = number ∙ ap (λ d. 10 * c.loop-i.n + d) c.in-Some-figure.ensures.1 in
    let le : c.with_digit-n.result ≤ bound c.args.negative = digits_bound c.args.negative c.with_digit-n.result (suc k) (subst (λ m. m < 10 ^ suc k) (sym number) small) (omega (arith, h, few, from)) in
    record {
      small = subst (λ m. m < 10 ^ (c.loop-i.i + 1 - c.args.at)) (sym number) (subst (λ k. 10 * c.loop-i.n + d < 10 ^ k) next small);
      reads = λ tb around. c.loop-i.invariant.reads tb around ∙ digit_goes tb c.args.bytes.now c.args.negative c.loop-i.n around c.loop-i.i lt c.in-Some-figure.ensures.0 (subst (λ m. m ≤ bound c.args.negative) e le) ∙ ap (λ m. runs tb c.args.bytes.now (Number c.args.negative m around) (c.loop-i.i + 1)) (sym e);
    }

pub further_digits-requires-clause-range : goal.further_digits-requires-clause-range
further_digits-requires-clause-range c =
    let h = c.loop-i.auto.i-end in
    let few = c.min-few.ensures in
    let lt = c.if-at-bytes.false in
    digits_bound c.args.negative c.loop-i.n (c.loop-i.i - c.args.at) c.loop-i.invariant.small (omega (arith, h, few, lt))

pub returns-clause-reads : goal.returns-clause-reads
returns-clause-reads c =
    let h = c.loop-i-test.false in
    let end = c.loop-i.auto.i-end in
    let few = c.min-few.ensures in
    let lt = c.if-at-bytes.false in
    let at : c.loop-i.i ≡ c.min-few.result = omega (arith, h, end, few, lt) in
    λ tb around. carried tb c.args.bytes.now around (before_digits c.args.negative around) (Number c.args.negative c.loop-i.n around) c.args.at c.min-few.result c.further_digits.result
    (c.loop-i.invariant.reads tb around ∙ ap (λ i. runs tb c.args.bytes.now (Number c.args.negative c.loop-i.n around) i) at)
    (c.further_digits.ensures.reads tb around)
