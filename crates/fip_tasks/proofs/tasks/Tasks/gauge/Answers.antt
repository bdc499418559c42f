use Rattle.std.proofs.Common.{◌≡◌, ◌<◌, Some, length, sym, subst}
use Rattle.std.specs.Prelude.{slice_get}
use Rattle.fip_tasks.specs.Turns.{Standing, Turns}
use Rattle.fip_tasks.specs.Gauged.{IsGaugeOf}
use Rattle.fip_tasks.proofs.Turning.{within, read_at, was_set}
use Rattle.fip_tasks.proofs.tasks.Tasks.gauge.Goals as goal

pub returns : goal.returns
returns c = record {
  reports = λ a is.
      let ts = c.self.inside.tasks.items in
      let there : c.args.k < length ts = within ts c.args.k (subst (λ (t : Turns). c.args.k < length t.tasks) (sym c.self.view_is) c.requires.there) in
      subst (λ (z : Standing). IsGaugeOf z c.gauge.result) (was_set ts c.args.k c.index.result.now a (read_at ts c.args.k c.index.result.now there c.index.ensures) (subst (λ (t : Turns). slice_get t.tasks c.args.k ≡ Some a) (sym c.self.view_is) is)) c.gauge.ensures.reports;
}
