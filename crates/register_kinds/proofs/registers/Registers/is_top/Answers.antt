use Rattle.std.proofs.Common.{◌≡◌, ◌∙◌, ap, sym, subst}
use Rattle.std.specs.Prelude.{true}
use Rattle.kind_domain.specs.code_rules.Kinds.{from_of}
use Rattle.register_kinds.specs.Climbs.{IsHeld}
use Rattle.kind_domain.specs.Leading.{is_lent_in}
use Rattle.kind_domain.specs.Views.{constructors_in, kind_of}
use Rattle.register_kinds.proofs.Climbing.{climb_top, held_lent}
use Rattle.register_kinds.proofs.registers.Registers.is_top.Goals as goal

pub returns-then-has_owner : goal.returns-then-has_owner
returns-then-has_owner c = record {
  held = λ e o l.
      subst (λ k. is_lent_in o k ≡ true → IsHeld c.args.self.now.kinds o (from_of k))
      (ap kind_of (sym c.in-Lent.is) ∙ c.known.ensures.is)
      (λ m. held_lent c.args.self.now.kinds c.in-Lent.ty (constructors_in c.in-Lent.set) c.in-Lent.root o c.in-Lent.from
      (c.has_owner.ensures.owned c.if-has_owner.true)
      (climb_top c.args.self.now.kinds c.in-Lent.root c.in-Lent.from (c.is_top_of.ensures.climbs e)) m) l;
}
