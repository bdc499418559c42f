use Rattle.std.proofs.Common.{arith, ap, ◌∙◌, ◌++◌}
use Rattle.match_cover.proofs.PatternTexts.{first_sign, other_sign}
use Rattle.match_cover.proofs.missing.put_sign.Goals as goal

pub returns-then-j-eq0 : goal.returns-then-j-eq0
returns-then-j-eq0 c = c.in_ok-extend_from_slice.ensures.items ∙ ap (λ z. c.args.text.now.items ++ z) (first_sign c.args.j (let z = c.if-j-eq0.true in omega (arith, z)))

pub returns : goal.returns
returns c = c.in_ok-extend_from_slice-2.ensures.items ∙ ap (λ z. c.args.text.now.items ++ z) (other_sign c.args.j (λ e. let z = c.if-j-eq0.false in omega (arith, z, e)))
