use Rattle.std.proofs.Common.{◌∙◌, ◌++◌, ap, subst}
use Rattle.match_knowledge.specs.View.{row, rows}
use Rattle.match_cover.specs.Missing.{placed}
use Rattle.match_cover.specs.MissingView.{lent_rows, levels}
use Rattle.match_cover.specs.MissingSearch.{FindsMissing}
use Rattle.match_cover.specs.PatternText.{pattern_text}
use Rattle.match_cover.proofs.MissingWalk.{says_missing}
use Rattle.match_cover.proofs.missing.missing_text.Goals as goal

pub returns : goal.returns
returns c =
    let tb = c.args.types.now in
    let ps = rows c.args.patterns.now in
    let q = row c.in_ok-pattern.pattern in
    let found = subst (λ z. FindsMissing tb ps (placed (levels z)) c.args.ty (lent_rows c.deref.result.now) q) c.new-at.ensures.items c.in_ok-pattern.ensures.missing in
    says_missing tb c.args.ty ps (lent_rows c.deref.result.now) q c.put_pattern.new.text.items (ap lent_rows c.deref.ensures.value ∙ c.in_ok-here.ensures) found (c.in_ok-put_pattern.ensures ∙ ap (λ z. z ++ pattern_text tb q) c.new-text.ensures.items)
