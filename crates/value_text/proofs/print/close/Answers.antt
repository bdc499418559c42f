use Rattle.std.proofs.Common.{sym, ap, ◌∙◌, ◌≡◌, ◌-◌, ◌∷◌, suc, take, arith}
use Rattle.value_text.specs.declared.print.Row.{Row}
use Rattle.value_text.specs.Printing.{closes, last_first}
use Rattle.value_text.proofs.Printing.{set_first, no_fields}
use Rattle.value_text.proofs.print.close.Goals as goal

pub returns-then-following-eq0-clause-tasks : goal.returns-then-following-eq0-clause-tasks
returns-then-following-eq0-clause-tasks c =
    ap last_first c.truncate.ensures.items ∙ ap (λ n. closes n (last_first (take c.args.top c.args.rows.now.items))) (sym c.if-following-eq0.true)

pub returns-else-following-eq0-clause-tasks : goal.returns-else-following-eq0-clause-tasks
returns-else-following-eq0-clause-tasks c =
    let rows = c.args.rows.now.items in
    let ts = last_first (take c.args.top rows) in
    let next : Row = record { types = c.nothing-types.result; place = 0; following = c.args.following - 1 } in
    let some = c.if-following-eq0.false in
    let e : suc (c.args.following - 1) ≡ c.args.following = omega (arith, some) in
    set_first rows c.args.top next c.requires ∙ ap (λ t. t ∷ closes (c.args.following - 1) ts) (no_fields c.nothing-types.result.now 0 c.nothing-types.ensures) ∙ ap (λ n. closes n ts) e
