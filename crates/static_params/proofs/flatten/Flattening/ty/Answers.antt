use Rattle.std.proofs.Common.{◌∙◌, ap}
use Rattle.static_params.specs.FlatProgram.{from_one}
use Rattle.reached_instances.specs.closed_types.SharedTrees.{trees}
use Rattle.reached_instances.specs.SourceView.{instance, source}
use Rattle.reached_instances.specs.closed_types.Uses.{declared_type}
use Rattle.fip_base.specs.CoreView.{written}
use Rattle.reached_instances.proofs.Fitting.{ready_if_right, right_kept}
use Rattle.static_params.proofs.PlaceNumbers.{making_more, making_kept, number_grown}
use Rattle.static_params.proofs.flatten.Flattening.ty.Goals as goal

pub returns-clause-stays : goal.returns-clause-stays
returns-clause-stays c = λ m.
    let f = c.args.self.now in
    let k = c.declared_type.new.shared in
    let g = c.in_ok-place.ensures.grows in
    record {
      ready = making_more f.source.now f.numbers.now f.here f.shared k g (right_kept f.source.now f.shared k g c.in_ok-place.ensures.fits m.right) m;
      grows = g;
      same = making_kept f.source.now f.numbers.now f.here f.shared k g m;
    }

pub returns-clause-flat : goal.returns-clause-flat
returns-clause-flat c = λ m.
    let f = c.args.self.now in
    let k = c.declared_type.new.shared in
    let r = ready_if_right f.source.now f.shared f.here m.right m.given in
    c.type_number.ensures m.numbers.few_types
    ∙ ap from_one (number_grown f.shared.branches k.branches c.in_ok-place.place f.numbers.now.types (declared_type (source f.source.now) (instance (trees f.shared.branches) f.here) (written c.args.written.now)) c.hold.ensures.shared c.in_ok-place.ensures.grows m.numbers.types (c.in_ok-place.ensures.within r) (c.in_ok-place.ensures.tree r))
