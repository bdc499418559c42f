use Rattle.std.proofs.Common.{◌≡◌, ◌∷◌, ◌+◌, ◌<◌, ℕ, suc, false, length, map, drop, get_or, arith, sym, subst}
use Rattle.fip_base.specs.declared.plain.Param.{Param}
use Rattle.session_correctness.specs.Lodging.{holding_of}
use Rattle.fip_session.proofs.Accepting.{Leads, starts, given_at, none_at, one_more_held, param_at, can_take, goes_on, stops, all_taken}
use Rattle.fip_session.proofs.plan.Arguments.accept_all.Goals as goal

abbrev no_param : Param
no_param = record { ty = 0; lent = false }

pub loop-i-init : goal.loop-i-init
loop-i-init c = record {
  taken = λ can ls finds gs given many. starts c.args.book.now.table.now (map holding_of ls) c.args.params.now gs c.args.self.now;
  held = λ j a lt is. absurd (omega (arith, lt));
}

pub returns-in_default-clause-wrong : goal.returns-in_default-clause-wrong
returns-in_default-clause-wrong c = λ can ls finds gs given many.
    let lt = c.loop-i-test.true in
    absurd (none_at c.args.bytes.now c.args.arguments.now gs c.loop-i.i given (sym c.in_default.ensures) (omega (arith, lt, many)))

pub returns-then-not-branch-clause-wrong : goal.returns-then-not-branch-clause-wrong
returns-then-not-branch-clause-wrong c = λ can ls finds gs given many.
    let tb = c.args.book.now.table.now in
    let held = map holding_of ls in
    let qs = c.args.params.now in
    let bytes = c.args.bytes.now in
    let i = c.loop-i.i in
    let lt = c.loop-i-test.true in
    let less : i < length qs = omega (arith, lt) in
    let q = get_or qs i no_param in
    let at = given_at bytes c.args.arguments.now gs i c.in-Some.written given (sym c.in-Some.ensures) in
    let here = subst (λ xs. Leads tb held qs gs c.args.self.now c.loop-i.self (q ∷ drop (suc i) qs) xs i) at.rest (subst (λ xs. Leads tb held qs gs c.args.self.now c.loop-i.self xs (drop i gs) i) (param_at qs i no_param less) (c.loop-i.invariant.taken can ls finds gs given many)) in
    let bad = c.in_ok-accept.ensures.refuses (can_take tb qs bytes i no_param less can) ls finds at.given at.is c.if-not-branch.true in
    (i, (let z : i + 1 ≡ suc i = omega arith in z), stops tb held qs gs c.args.self.now c.loop-i.self q at.given (drop (suc i) qs) (drop (suc i) gs) i here bad)

pub loop-i-preserved : goal.loop-i-preserved
loop-i-preserved c = record {
  taken = λ can ls finds gs given many.
      let tb = c.args.book.now.table.now in
      let held = map holding_of ls in
      let qs = c.args.params.now in
      let bytes = c.args.bytes.now in
      let i = c.loop-i.i in
      let lt = c.loop-i-test.true in
      let less : i < length qs = omega (arith, lt) in
      let q = get_or qs i no_param in
      let at = given_at bytes c.args.arguments.now gs i c.in-Some.written given (sym c.in-Some.ensures) in
      let here = subst (λ xs. Leads tb held qs gs c.args.self.now c.loop-i.self (q ∷ drop (suc i) qs) xs i) at.rest (subst (λ xs. Leads tb held qs gs c.args.self.now c.loop-i.self xs (drop i gs) i) (param_at qs i no_param less) (c.loop-i.invariant.taken can ls finds gs given many)) in
      let takes = c.in_ok-accept.ensures.takes (can_take tb qs bytes i no_param less can) ls finds at.given at.is c.if-not-branch.false in
      subst (λ n. Leads tb held qs gs c.args.self.now c.accept.new.self (drop n qs) (drop n gs) (i + 1)) (let z : suc i ≡ i + 1 = omega arith in z) (goes_on tb held qs gs c.args.self.now c.loop-i.self q at.given (drop (suc i) qs) (drop (suc i) gs) i here c.accept.new.self takes);
  held = one_more_held c.args.book.now.held c.args.arguments.now c.loop-i.i c.in-Some.written (sym c.in-Some.ensures) c.loop-i.invariant.held (c.in_ok-accept.ensures.held c.if-not-branch.false);
}

pub returns-clause-takes : goal.returns-clause-takes
returns-clause-takes c = λ can ls finds gs given many e.
    let ge = c.loop-i-test.false in
    all_taken c.args.book.now.table.now (map holding_of ls) c.args.params.now gs c.args.self.now c.loop-i.self c.loop-i.i (omega (arith, ge)) many (c.loop-i.invariant.taken can ls finds gs given many)

pub returns-clause-held : goal.returns-clause-held
returns-clause-held c = λ e j a lt is. c.loop-i.invariant.held j a (let ge = c.loop-i-test.false in omega (arith, ge, lt)) is
