use Rattle.std.proofs.Common.{◌≡◌, ◌+◌, ◌*◌, true, false, sym, ◌∙◌, arith}
use Rattle.derivation_text.proofs.Digits.{begins_far}
use Rattle.derivation_text.proofs.reader.Reader.further_digit.Goals as goal

pub returns-in-Err : goal.returns-in-Err
returns-in-Err c =
    let k = c.in-Err.ensures in
    let m = c.from-3.ensures in
    let r = c.ranges.most.fits in
    let far = begins_far (10 * c.from.result + c.from-2.result) c.self.inside.least c.from-3.result (omega (arith, k)) (omega (arith, k, m, r)) in
    let e : true ≡ false = sym c.if-not-begins.false ∙ c.begins.ensures ∙ far in
    cc
