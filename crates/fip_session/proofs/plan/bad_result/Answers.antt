use Rattle.std.proofs.Common.{◌≡◌, ◌∷◌, ◌<◌, ℕ, List, [], length, map, drop, get_or, suc, arith, sym, subst}
use Rattle.std.specs.Borrow.{Bor}
use Rattle.session_lines.specs.Said.{names_of}
use Rattle.session_lines.specs.session_semantics.Talk.{IsFree}
use Rattle.session_correctness.specs.Lodging.{holding_of}
use Rattle.fip_session.specs.Planned.{names_used}
use Rattle.fip_session.proofs.Resulting.{name_at, names_taken, as_many, frees_more, is_taken}
use Rattle.fip_session.proofs.plan.bad_result.Goals as goal

abbrev no_name : Bor (List ℕ)
no_name = record { ref_ptr = (0, 0); now = [] }

pub returns-then-is_taken-clause-bad : goal.returns-then-is_taken-clause-bad
returns-then-is_taken-clause-bad c = λ ls finds.
    let ns = c.args.results.now in
    let i = c.loop-i.i in
    let held = map holding_of ls in
    let used = names_used c.args.arguments.now.given.items in
    let n = (get_or ns i no_name).now in
    let lt = c.loop-i-test.true in
    let many = as_many ns in
    is_taken held used (names_of ns) i n (omega (arith, lt, many)) (name_at ns i no_name (omega (arith, lt))) (c.loop-i.invariant ls finds) (λ free. c.is_taken.ensures.taken ls finds c.if-is_taken.true (subst (λ bs. IsFree held used bs n) (sym (names_taken ns i)) free))

pub loop-i-preserved : goal.loop-i-preserved
loop-i-preserved c = λ ls finds.
    let ns = c.args.results.now in
    let i = c.loop-i.i in
    let held = map holding_of ls in
    let used = names_used c.args.arguments.now.given.items in
    let n = (get_or ns i no_name).now in
    let lt = c.loop-i-test.true in
    let many = as_many ns in
    frees_more held used (names_of ns) i n (omega (arith, lt, many)) (name_at ns i no_name (omega (arith, lt))) (c.loop-i.invariant ls finds) (subst (λ bs. IsFree held used bs n) (names_taken ns i) (c.is_taken.ensures.free ls finds c.if-is_taken.false))
