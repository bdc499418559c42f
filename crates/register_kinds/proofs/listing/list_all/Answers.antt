use Rattle.std.proofs.Common.{◌≡◌, inl, inr, ◌∙◌, subst, arith}
use Rattle.std.specs.Prelude.{true}
use Rattle.kind_domain.specs.code_rules.Kinds.{has}
use Rattle.kind_domain.proofs.LentLists.{below_next, grows_has, grows_on}
use Rattle.register_kinds.proofs.listing.list_all.Goals as goal

pub loop-register-preserved : goal.loop-register-preserved
loop-register-preserved c = record {
  listed = λ q a b. elim (below_next q c.loop-register.register a) [
    | inl h ↦ grows_has c.loop-register.lents.held c.add.new.self.held c.add.ensures.more q
        (c.loop-register.invariant.listed q h b)
    | inr h ↦ subst (λ z. has c.add.new.self.held z ≡ true) h
        (c.add.ensures.added (let r = c.loop-register.invariant.room in let z = h in omega arith))
  ];
  more = grows_on _ _ _ c.loop-register.invariant.more c.add.ensures.more;
  room = c.add.ensures.room ∙ c.loop-register.invariant.room;
  reached = c.add.ensures.reached ∙ c.loop-register.invariant.reached;
}
