use Rattle.std.proofs.Common.{arith, refl, ◌∙◌, ◌+◌, ◌<◌, false, length, ne_eqb}
use Rattle.value_text.specs.Machine.{Want, Signed}
use Rattle.value_text.proofs.Runs.{ends_short, minus_goes, carried, first_stops}
use Rattle.value_text.proofs.scan.int.Goals as goal

pub returns-then-start-bytes-clause-reads : goal.returns-then-start-bytes-clause-reads
returns-then-start-bytes-clause-reads c = λ tb around. c.skip_blanks-start.ensures.skips tb (Want 0 around) refl ∙ ends_short tb c.args.bytes.now (Want 0 around) c.skip_blanks-start.result (let h = c.if-start-bytes.true in let k = c.skip_blanks-start.ensures.within in omega (arith, h, k)) refl

pub returns-then-digit-clause-reads : goal.returns-then-digit-clause-reads
returns-then-digit-clause-reads c = λ tb around. carried tb c.args.bytes.now around (Want 0 around) (Want 0 around) c.args.at c.skip_blanks-start.result c.digits.result (c.skip_blanks-start.ensures.skips tb (Want 0 around) refl) (c.digits.ensures.reads tb around)

pub returns-then-bytes-start-ne45-clause-reads : goal.returns-then-bytes-start-ne45-clause-reads
returns-then-bytes-start-ne45-clause-reads c =
    let start = c.skip_blanks-start.result in
    let lt : start < length c.args.bytes.now = let h = c.if-start-bytes.false in omega (arith, h) in
    λ tb around. c.skip_blanks-start.ensures.skips tb (Want 0 around) refl ∙ first_stops tb c.args.bytes.now false around start lt (let h = c.if-digit.false in let k = c.digit.ensures in cc) (λ n. c.skip_blanks-start.ensures.following lt) (λ n. ne_eqb _ _ c.if-bytes-start-ne45.true)

pub returns-clause-reads : goal.returns-clause-reads
returns-clause-reads c = λ tb around. carried tb c.args.bytes.now around (Want 0 around) (Signed around) c.args.at (c.skip_blanks-start.result + 1) c.digits-2.result
    (c.skip_blanks-start.ensures.skips tb (Want 0 around) refl ∙ minus_goes tb c.args.bytes.now around c.skip_blanks-start.result (let h = c.if-start-bytes.false in omega (arith, h)) c.if-bytes-start-ne45.false)
    (c.digits-2.ensures.reads tb around)
