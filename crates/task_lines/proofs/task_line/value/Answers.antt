use Rattle.std.proofs.Common.{drop, sym, subst}
use Rattle.value_text.specs.Single.{BeginsWith, IsPlaced}
use Rattle.task_lines.proofs.task_line.value.Goals as goal

pub returns-in-Err-BadValue-clause-none : goal.returns-in-Err-BadValue-clause-none
returns-in-Err-BadValue-clause-none c = λ placed same v begins.
    let tb = c.args.table.now in
    let bytes = c.args.bytes.now in
    let at = sym c.at.ensures.is in
    let x = c.in-Err-BadValue.ensures.complete (subst (IsPlaced tb c.args.ty bytes) at placed) v (subst (λ p. BeginsWith tb c.args.ty (drop p bytes) v) at begins) in
    absurd cc
