use Rattle.std.proofs.Common.{◌≡◌, sym, subst}
use Rattle.std.specs.Prelude.{Some, true}
use Rattle.kind_domain.specs.code_rules.Kinds.{from_of}
use Rattle.register_kinds.specs.Climbs.{IsHeld, tree_of}
use Rattle.kind_domain.specs.Leading.{is_lent_in}
use Rattle.kind_domain.specs.Views.{constructors_in, kind_of}
use Rattle.register_kinds.proofs.Climbing.{held_inside}
use Rattle.register_kinds.proofs.Torn.{root_lent}
use Rattle.register_kinds.proofs.registers.Registers.follows.Goals as goal

pub returns-then-is_sound : goal.returns-then-is_sound
returns-then-is_sound c = record {
  held = λ e r m a l.
      subst (λ k. is_lent_in (Some r) (kind_of k) ≡ true → IsHeld c.args.self.now.kinds (Some r) (from_of (kind_of k)))
      (sym c.in-Lent.is)
      (λ n. held_inside c.args.self.now.kinds r c.in-Lent.root c.in-Lent.from a
      (c.is_sound.ensures.owned c.if-is_sound.true r m) (c.stays_in.ensures.inside e r m) n) l;
  closed = λ e r m t.
      subst (λ k. tree_of c.args.self.now.kinds (from_of (kind_of k)) ≡ Some r →
      is_lent_in (Some r) (kind_of k) ≡ true) (sym c.in-Lent.is)
      (λ n. root_lent c.in-Lent.ty (constructors_in c.in-Lent.set) c.in-Lent.root c.in-Lent.from r
      (c.stays_in.ensures.outside e r m n)) t;
}
