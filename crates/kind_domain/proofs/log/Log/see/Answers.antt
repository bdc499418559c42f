use Rattle.std.proofs.Common.{ap, ◌∙◌, sym, take, slice_get}
use Rattle.std.specs.Prelude.{Some}
use Rattle.kind_domain.proofs.Sights.{seen_other}
use Rattle.kind_domain.proofs.log.Log.see.Goals as goal

pub returns-then-label-len : goal.returns-then-label-len
returns-then-label-len c = record {
  seen = λ l xs e h. ap (λ s. slice_get s l) (sym c.self.view_is)
      ∙ seen_other c.self.inside.turn (take c.self.inside.top c.self.inside.items.items) c.self.inside.seen.items
      c.args.label l
      (Some (record { turn = c.self.inside.turn; changes = c.self.inside.top })) xs h e;
}
