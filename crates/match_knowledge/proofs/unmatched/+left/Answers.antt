use Rattle.std.proofs.Common.{rules, true, false, refl, sym, ◌∙◌}
use Rattle.match_knowledge.specs.View.{rows, known}
use Rattle.match_knowledge.proofs.Arms.{search_arm, yes_search, less_arm, covered_arm, nothing_arm, yes_arm, last_arm, no_arm, if_ok}
use Rattle.match_knowledge.proofs.unmatched.+left.Goals as goal

pub left-requires : goal.left-requires
left-requires t c =
    let less = less_arm c.args.ps.now (known c.args.k.now) (known c.in_ok-yes-in-Ask.yes) true c.in-Ask.i c.index-ps-i.result c.in-Ask.ensures.choice c.index-ps-i.is c.in_ok-yes-in-Ask.ensures in
    search (rules, less)

pub returns-then-branch : goal.returns-then-branch
returns-then-branch t c = λ ty q.
    yes_arm c.args.types.now ty c.args.ps.now (known c.args.k.now) (known c.in_ok-yes-in-Ask.yes) c.in-Ask.i c.index-ps-i.result c.in_ok-left-in-Ask.field-0 c.in-Ask.ensures.choice c.index-ps-i.is c.in_ok-yes-in-Ask.ensures (c.in_ok-left-in-Ask.ensures ty (yes_search c.args.types.now ty c.args.ps.now (known c.args.k.now) (known c.in_ok-yes-in-Ask.yes) c.in-Ask.i c.index-ps-i.result q c.in-Ask.ensures.choice c.index-ps-i.is c.in_ok-yes-in-Ask.ensures)) c.if-branch.true

pub returns-then-is_last : goal.returns-then-is_last
returns-then-is_last t c = λ ty q.
    last_arm c.args.types.now ty c.args.ps.now (known c.args.k.now) (known c.in_ok-yes-in-Ask.yes) c.in-Ask.i c.index-ps-i.result c.in_ok-left-in-Ask.field-0 c.is_last.result q.typed q.room c.in-Ask.ensures.choice c.index-ps-i.is c.in_ok-yes-in-Ask.ensures (c.in_ok-left-in-Ask.ensures ty (yes_search c.args.types.now ty c.args.ps.now (known c.args.k.now) (known c.in_ok-yes-in-Ask.yes) c.in-Ask.i c.index-ps-i.result q c.in-Ask.ensures.choice c.index-ps-i.is c.in_ok-yes-in-Ask.ensures)) c.if-branch.false c.is_last.ensures c.if-is_last.true

pub left-requires-in-Ask : goal.left-requires-in-Ask
left-requires-in-Ask t c =
    let less = less_arm c.args.ps.now (known c.args.k.now) (known c.in_ok-no-in-Ask.no) false c.in-Ask.i c.index-ps-i.result c.in-Ask.ensures.choice c.index-ps-i.is c.in_ok-no-in-Ask.ensures in
    search (rules, less)

pub returns-in-Covered : goal.returns-in-Covered
returns-in-Covered t c = λ ty q. covered_arm c.args.types.now ty (rows c.args.ps.now) (known c.args.k.now) q.typed q.room c.in-Covered.ensures.choice

pub returns-in-Nothing : goal.returns-in-Nothing
returns-in-Nothing t c = λ ty q. nothing_arm c.args.types.now ty (rows c.args.ps.now) (known c.args.k.now) q.room (c.in-Nothing.ensures.nothing refl)

pub returns-in_ok-no-in-Ask : goal.returns-in_ok-no-in-Ask
returns-in_ok-no-in-Ask t c =
    let last = sym c.is_last.ensures ∙ c.if-is_last.false in
    if_ok c.left-in-Ask.result (λ b x. λ ty q. no_arm c.args.types.now ty c.args.ps.now (known c.args.k.now) (known c.in_ok-yes-in-Ask.yes) (known c.in_ok-no-in-Ask.no) c.in-Ask.i c.index-ps-i.result c.in_ok-left-in-Ask.field-0 b c.in-Ask.ensures.choice c.index-ps-i.is c.in_ok-yes-in-Ask.ensures (c.in_ok-left-in-Ask.ensures ty (yes_search c.args.types.now ty c.args.ps.now (known c.args.k.now) (known c.in_ok-yes-in-Ask.yes) c.in-Ask.i c.index-ps-i.result q c.in-Ask.ensures.choice c.index-ps-i.is c.in_ok-yes-in-Ask.ensures)) c.if-branch.false c.in_ok-no-in-Ask.ensures (x ty (search_arm c.args.types.now ty c.args.ps.now (known c.args.k.now) (known c.in_ok-no-in-Ask.no) false c.in-Ask.i c.index-ps-i.result q c.in-Ask.ensures.choice c.index-ps-i.is c.in_ok-no-in-Ask.ensures (λ e. last)))) c.left-in-Ask.ensures
