use Rattle.std.proofs.Common.{sym, ap, map, ◌∙◌, ◌+◌, arith}
use Rattle.std.specs.Prelude.{None}
use Rattle.kind_domain.specs.cell_code.Plain.{plain_label}
use Rattle.kind_domain.specs.code_rules.Kinds.{is_free}
use Rattle.kind_domain.specs.Busy.{held}
use Rattle.register_kinds.specs.Kept.{IsKept}
use Rattle.kind_domain.specs.LabelSets.{set_at}
use Rattle.kind_domain.specs.Views.{kind_of}
use Rattle.std.proofs.Common.{subst}
use Rattle.register_kinds.proofs.Keeps.{keeps_one}
use Rattle.register_kinds.proofs.Sparse.{busy_few, rest_of}
use Rattle.register_kinds.proofs.registers.Registers.change.Goals as goal

pub recount-self-inside-requires : goal.recount-self-inside-requires
recount-self-inside-requires c = record {
  few = let a = c.self.invariant.counted in
      let b = busy_few c.self.inside.known in
      let d = c.self.invariant.few in
      omega arith;
}

pub invariant_of-self : goal.invariant_of-self
invariant_of-self c =
    let ks = c.self.inside.known in
    let r = rest_of ks c.args.register (let g = c.if-place-len.true in let h = c.len.ensures.is in omega arith) in
    subst (λ ks. IsKept ks (map plain_label c.self.inside.labels.now) c.self.inside.lents c.link_source.new.below
    c.link_owner.new.trees c.link_loose.new.loose None c.add.new.self c.recount-self-inside.result c.self.inside.asked.items c.set-then-place-len.new.self)
    (sym c.set.ensures.is)
    (keeps_one ks (map plain_label c.self.inside.labels.now) c.self.inside.lents
    c.self.inside.below c.link_source.new.below c.self.inside.trees c.link_owner.new.trees
    c.self.inside.loose c.link_loose.new.loose c.self.inside.held
    c.self.inside.log c.add.new.self c.self.inside.busy c.recount-self-inside.result
    c.self.inside.asked.items c.self.inside.sets c.set-then-place-len.new.self c.args.register (kind_of c.args.known) c.args.origin
    c.self.invariant c.requires.rises
    (c.recount-self-inside.ensures.is r.rest (c.self.invariant.counted ∙ r.is ∙ ap (λ b. held b + r.rest)
    (ap is_free (sym c.get-before.ensures.is) ∙ sym c.is_free.ensures.is))
    ∙ ap (λ b. held b + r.rest) c.is_free-then-place-len.ensures.is ∙ sym (r.after (kind_of c.args.known)))
    c.link_source.ensures.others (λ r e. c.link_source.ensures.linked r (c.source.ensures.is r e))
    c.link_owner.ensures.others (λ r e. c.link_owner.ensures.linked r (c.owner.ensures.is r e))
    c.link_loose.ensures.others c.link_loose.ensures.linked
    c.add.ensures.added
    (let g = c.if-place-len.true in let h = c.len.ensures.is in omega arith)
    c.set-then-place-len.ensures.maps c.set-then-place-len.ensures.is
    (λ p e. c.requires.origin p e ∙ ap (λ s. set_at s.maps p) (sym c.self.view_is)))
