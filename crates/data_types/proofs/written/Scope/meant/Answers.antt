use Rattle.std.proofs.Common.{◌∙◌, sym, ap}
use Rattle.fip_trees.specs.Names.{meaning}
use Rattle.data_types.specs.Declarations.{Scope}
use Rattle.data_types.proofs.written.Scope.meant.Goals as goal

pub returns-in-Some-find_type-clause-numbered : goal.returns-in-Some-find_type-clause-numbered
returns-in-Some-find_type-clause-numbered c = λ n h.
    c.applied.ensures.numbered
    (n c.args.name.now c.in-Some-find_type.head (ap (λ (s : Scope). meaning c.args.name.now s.names.types) (sym c.self.view_is) ∙ sym c.in-Some-find_type.ensures.meaning)) h
