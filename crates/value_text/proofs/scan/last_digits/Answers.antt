use Rattle.std.proofs.Common.{arith, sym, ap, ◌∙◌, subst, ◌≡◌, ◌+◌, ◌*◌, ◌<◌, ◌≤◌, false, length}
use Rattle.std.specs.Prelude.{nat_le}
use Rattle.fip_language.specs.Values.{Int}
use Rattle.fip_language.specs.ValueText.{bound, int_of}
use Rattle.value_text.specs.Machine.{Number, filled}
use Rattle.value_text.specs.Scan.{runs}
use Rattle.value_text.proofs.Runs.{digit_at, digit_goes, digit_stops, number_over, int_back}
use Rattle.value_text.proofs.scan.last_digits.Goals as goal

pub returns-in_default-clause-reads : goal.returns-in_default-clause-reads
returns-in_default-clause-reads c =
    let lt : c.loop-i.i < length c.args.bytes.now = let h = c.loop-i-test.true in omega (arith, h) in
    λ tb around. c.loop-i.invariant.reads tb around ∙ number_over tb c.args.bytes.now c.args.negative c.loop-i.n around c.loop-i.i (omega (arith, lt)) (λ l. c.in_default.ensures) ∙ ap (λ z. runs tb c.args.bytes.now (filled around (Int z)) c.loop-i.i) (int_back c.args.negative c.loop-i.n c.loop-i.invariant.range c.int_from.result c.int_from.ensures)

pub returns-in-None-clause-reads : goal.returns-in-None-clause-reads
returns-in-None-clause-reads c =
    let lt : c.loop-i.i < length c.args.bytes.now = let h = c.loop-i-test.true in omega (arith, h) in
    λ tb around. c.loop-i.invariant.reads tb around ∙ digit_stops tb c.args.bytes.now c.args.negative c.loop-i.n around c.loop-i.i lt c.in-Some.ensures.0 (subst (λ d. nat_le (10 * c.loop-i.n + d) (bound c.args.negative) ≡ false) c.in-Some.ensures.1 c.in-None.ensures)

pub loop-i-preserved : goal.loop-i-preserved
loop-i-preserved c =
    let lt : c.loop-i.i < length c.args.bytes.now = let h = c.loop-i-test.true in omega (arith, h) in
    let e : c.in-Some-with_last_digit.m ≡ 10 * c.loop-i.n + digit_at c.args.bytes.now c.loop-i.i = c.in-Some-with_last_digit.ensures.0 ∙ ap (λ d. 10 * c.loop-i.n + d) c.in-Some.ensures.1 in
    let le = c.in-Some-with_last_digit.ensures.1 in
    record {
      range = le;
      reads = λ tb around. c.loop-i.invariant.reads tb around ∙ digit_goes tb c.args.bytes.now c.args.negative c.loop-i.n around c.loop-i.i lt c.in-Some.ensures.0 (subst (λ m. m ≤ bound c.args.negative) e le) ∙ ap (λ m. runs tb c.args.bytes.now (Number c.args.negative m around) (c.loop-i.i + 1)) (sym e);
    }

pub returns-clause-reads : goal.returns-clause-reads
returns-clause-reads c =
    let at : c.loop-i.i ≡ length c.args.bytes.now = let h = c.loop-i-test.false in let k = c.loop-i.auto.i-end in omega (arith, h, k, c.requires.place) in
    λ tb around. c.loop-i.invariant.reads tb around ∙ number_over tb c.args.bytes.now c.args.negative c.loop-i.n around c.loop-i.i (omega (arith, at)) (λ l. absurd (omega (arith, at, l))) ∙ ap (λ i. runs tb c.args.bytes.now (filled around (Int (int_of c.args.negative c.loop-i.n))) i) at ∙ ap (λ z. runs tb c.args.bytes.now (filled around (Int z)) (length c.args.bytes.now)) (int_back c.args.negative c.loop-i.n c.loop-i.invariant.range c.int_from-2.result c.int_from-2.ensures)
