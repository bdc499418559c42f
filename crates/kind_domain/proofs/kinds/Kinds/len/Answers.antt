use Rattle.std.proofs.Common.{ap, length, arith}
use Rattle.kind_domain.specs.Owners.{number_at}
use Rattle.kind_domain.proofs.Naming.{named_long}
use Rattle.kind_domain.proofs.kinds.Kinds.len.Goals as goal

pub returns : goal.returns
returns c = record {
  is = let h = c.len.ensures in
      let l = named_long (number_at c.self.inside.owners.items) c.self.inside.items.items in
      let v = ap length c.self.view_is in
      omega arith;
}
