use Rattle.std.proofs.Common.{sym, ◌∙◌, ◌-◌, ap, subst, drop}
use Rattle.std.proofs.lemmas.List.{take_rest}
use Rattle.code_rules.specs.Fitting.{is_subset}
use Rattle.kind_domain.specs.Rising.{Rise, less}
use Rattle.kind_domain.proofs.Pieces.{alike, rise_drop}
use Rattle.kind_domain.proofs.set.after_piece.Goals as goal

pub returns-then-begin_with-clause-rise : goal.returns-then-begin_with-clause-rise
returns-then-begin_with-clause-rise c =
    subst Rise (sym (take_rest c.args.others.now (c.args.end - c.args.start)))
    (rise_drop (c.args.end - c.args.start) 0 c.args.others.now c.requires.others_rise)

pub returns-then-begin_with-clause-found : goal.returns-then-begin_with-clause-found
returns-then-begin_with-clause-found c =
    ap (is_subset (less c.args.lacked (drop c.args.end c.args.own.now)))
    (take_rest c.args.others.now (c.args.end - c.args.start))
    ∙ alike c.args.lacked c.args.start c.args.end c.args.own.now c.args.others.now c.requires.within c.requires.there
    c.requires.own_rise c.requires.others_rise (c.begin_with.ensures.yes c.if-begin_with.true)
