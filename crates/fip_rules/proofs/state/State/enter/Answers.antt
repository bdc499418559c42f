use Rattle.std.proofs.Common.{rules, ◌≡◌, ◌≤◌, ◌+◌, ◌∙◌, refl, ap, subst, sym, length, arith}
use Rattle.std.proofs.lemmas.List.{length-append}
use Rattle.fip_rules.specs.Stands.{Rises}
use Rattle.fip_rules.proofs.Scopes.{rises_same, rises_more}
use Rattle.fip_rules.proofs.state.State.enter.Goals as goal

pub invariant_of-self-in_err-enter : goal.invariant_of-self-in_err-enter
invariant_of-self-in_err-enter c =
    let n = length c.self.inside.entered.items in
    let m = length c.push.new.self.items in
    let l : m ≡ n + 1 = ap length c.in_ok-push.ensures.items ∙ length-append c.self.inside.entered.items _ in
    rises_more 0 n m c.enter.new.self (omega (arith, l)) (subst (λ es. Rises 0 es n) (sym c.in_err-enter.ensures.same) c.self.invariant)

pub invariant_of-self-2 : goal.invariant_of-self-2
invariant_of-self-2 c =
    let n = length c.self.inside.entered.items in
    let m = length c.push.new.self.items in
    let l : m ≡ n + 1 = ap length c.in_ok-push.ensures.items ∙ length-append c.self.inside.entered.items _ in
    rises_same n m c.self.inside.scope c.enter.new.self _ c.self.invariant (search rules) c.in_ok-enter.ensures.added l
