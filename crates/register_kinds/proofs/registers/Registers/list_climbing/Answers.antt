use Rattle.std.proofs.Common.{ap, ◌∙◌, sym, inl, inr, arith}
use Rattle.kind_domain.specs.code_rules.Kinds.{at, from_of}
use Rattle.kind_domain.specs.Leading.{is_lent_in}
use Rattle.kind_domain.specs.Leading.{names}
use Rattle.register_kinds.proofs.Climbing.{held_kin}
use Rattle.kind_domain.proofs.LentLists.{grows_within}
use Rattle.register_kinds.proofs.registers.Registers.list_climbing.Goals as goal

pub returns-then-not-list_kin-clause-held : goal.returns-then-not-list_kin-clause-held
returns-then-not-list_kin-clause-held c = λ q e o l.
    let ks = c.loop-place.invariant.kinds in
    elim (c.list_kin.ensures.only q e) [
      | inl h ↦ c.loop-place.invariant.held q h o l
      | inr h ↦ held_kin c.args.self.now.kinds c.lent_at-listed.result q h.0 o
          (λ p m. c.loop-place.invariant.held c.lent_at-listed.result c.lent_at-listed.ensures.listed p m)
          (ap (λ ks. is_lent_in h.0 (at ks c.lent_at-listed.result)) (sym ks) ∙ h.1)
          (ap (λ ks. names c.lent_at-listed.result (from_of (at ks q))) (sym ks) ∙ h.2)
          (ap (λ ks. is_lent_in h.0 (at ks q)) (sym ks) ∙ h.3) l
    ]

pub loop-place-preserved : goal.loop-place-preserved
loop-place-preserved c =
    let ks = c.loop-place.invariant.kinds in
    record {
      within = let f = grows_within _ _ c.list_kin.ensures.more in
          let h = c.loop-place-test.true in let g = c.lent_len.ensures.is in omega arith;
      held = λ q e o l. elim (c.list_kin.ensures.only q e) [
        | inl h ↦ c.loop-place.invariant.held q h o l
        | inr h ↦ held_kin c.args.self.now.kinds c.lent_at-listed.result q h.0 o
            (λ p m. c.loop-place.invariant.held c.lent_at-listed.result c.lent_at-listed.ensures.listed p m)
            (ap (λ ks. is_lent_in h.0 (at ks c.lent_at-listed.result)) (sym ks) ∙ h.1)
            (ap (λ ks. names c.lent_at-listed.result (from_of (at ks q))) (sym ks) ∙ h.2)
            (ap (λ ks. is_lent_in h.0 (at ks q)) (sym ks) ∙ h.3) l
      ];
      kinds = c.list_kin.ensures.kinds ∙ ks;
      maps = c.list_kin.ensures.maps ∙ c.loop-place.invariant.maps;
    }
