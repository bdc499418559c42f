use Rattle.std.proofs.Common.{arith, ap, ◌∙◌, ◌++◌}
use Rattle.match_cover.proofs.PatternTexts.{end_sign}
use Rattle.match_cover.proofs.missing.put_end.Goals as goal

pub returns : goal.returns
returns c = c.in_ok-extend_from_slice.ensures.items ∙ ap (λ z. c.args.text.now.items ++ z) (end_sign c.args.count (λ e. let z = c.if-count-eq0.false in omega (arith, z, e)))
