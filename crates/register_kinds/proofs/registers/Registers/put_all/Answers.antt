use Rattle.std.proofs.Common.{sym, ◌∙◌, ◌+◌, ◌++◌, ap, length, set, take, drop}
use Rattle.kind_domain.specs.Views.{kind_of}
use Rattle.register_kinds.proofs.Entered.{set_next}
use Rattle.register_kinds.proofs.registers.Registers.put_all.Goals as goal

pub loop-kind-preserved : goal.loop-kind-preserved
loop-kind-preserved c = record {
  step = ap (λ n. n + 1) c.loop-kind.invariant.step;
  kinds = c.adopt_one.ensures.kinds
      ∙ ap (λ ks. set ks c.loop-kind.register (kind_of c.of.result)) c.loop-kind.invariant.kinds
      ∙ ap (λ n. set (take c.loop-kind.kind-index c.args.kinds.now ++ drop c.loop-kind.kind-index c.self.inside.known) n
      (kind_of c.of.result)) c.loop-kind.invariant.step
      ∙ set_next c.args.kinds.now c.self.inside.known c.loop-kind.kind-index (kind_of c.of.result) _
      c.loop-kind-test.true (c.requires.long ∙ ap (λ s. length s.kinds) (sym c.self.view_is)) (c.of.ensures.same ∙ c.kind-item.is);
  maps = c.adopt_one.ensures.maps ∙ c.loop-kind.invariant.maps;
}
