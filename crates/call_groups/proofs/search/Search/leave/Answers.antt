use Rattle.std.proofs.Common.{◌≡◌, ◌-◌, ap, ◌∙◌, refl, take, length, arith, subst, rules}
use Rattle.std.proofs.lemmas.Grind.{common_steps}
use Rattle.call_groups.proofs.search.Search.leave.Goals as goal
use Rattle.call_groups.specs.Search.{EndsIn, Groups}
use Rattle.call_groups.specs.declared.search.Search.{Search}
use Rattle.call_groups.proofs.Steps.{closes_by, stays_by, on_ok_both}

pub returns-then-ends_at-clause-leaves : goal.returns-then-ends_at-clause-leaves
returns-then-ends_at-clause-leaves c =
    let old : Search = c.args.self.now in
    let mid : Search = record { standings = c.args.self.now.standings; path = c.args.self.now.path; pieces = c.pop.new.self; visits = c.args.self.now.visits; order = c.args.self.now.order } in
    let len : c.args.self.now.pieces.len ≡ length c.args.self.now.pieces.items = first_of (omega arith, grind (arith, common_steps), search rules) in
    on_ok_both c.group_from.result
    (λ (g : Groups mid c.group_from.new.self c.args.place) (k : c.group_from.new.self.pieces.items ≡ c.pop.new.self.items).
    closes_by old mid c.group_from.new.self c.args.place
    (subst (λ b. EndsIn b c.args.self.now.pieces.items c.args.place) c.if-ends_at.true c.ends_at.ensures)
    (c.pop.ensures.rest ∙ ap (λ n. take (n - 1) c.args.self.now.pieces.items) len) refl refl refl refl g k)
    c.group_from.ensures.groups c.group_from.ensures.pieces

pub returns-else-ends_at-clause-leaves : goal.returns-else-ends_at-clause-leaves
returns-else-ends_at-clause-leaves c = stays_by c.args.self.now c.args.place (subst (λ b. EndsIn b c.args.self.now.pieces.items c.args.place) c.if-ends_at.false c.ends_at.ensures)
