use Rattle.std.proofs.Common.{◌∙◌, ℕ, map, nat_eq, ap}
use Rattle.std.specs.List.{position}
use Rattle.fip_base.specs.CoreView.{result_type}
use Rattle.static_params.specs.FlatProgram.{from_one, type_number}
use Rattle.static_params.specs.FlatView.{numbers_at}
use Rattle.reached_instances.specs.closed_types.SharedTrees.{trees}
use Rattle.reached_instances.specs.SourceView.{instance, source}
use Rattle.reached_instances.specs.closed_types.Uses.{declared_type, result_types}
use Rattle.reached_instances.proofs.Fitting.{ready_if_right, right_kept}
use Rattle.static_params.proofs.PlaceNumbers.{making_kept, making_more}
use Rattle.reached_instances.proofs.Putting.{map_map}
use Rattle.static_params.proofs.Tabling.{type_numbers_at}
use Rattle.static_params.proofs.flatten.Flattening.results.Goals as goal

pub returns-clause-stays : goal.returns-clause-stays
returns-clause-stays c = λ m.
    let f = c.args.self.now in
    let k = c.results.new.shared in
    let g = c.in_ok-places.ensures.grows in
    record {
      ready = making_more f.source.now f.numbers.now f.here f.shared k g (right_kept f.source.now f.shared k g c.in_ok-places.ensures.fits m.right) m;
      grows = g;
      same = making_kept f.source.now f.numbers.now f.here f.shared k g m;
    }

pub returns-clause-flat : goal.returns-clause-flat
returns-clause-flat c = λ m.
    let f = c.args.self.now in
    let k = c.results.new.shared in
    let s = source f.source.now in
    let h = instance (trees f.shared.branches) f.here in
    let r = ready_if_right f.source.now f.shared f.here m.right m.given in
    let ws = result_types (result_type c.args.given.now) in
    c.in_ok-numbers.ensures m.numbers.few_types
    ∙ ap (map (λ (i : ℕ). from_one (position (nat_eq i) f.numbers.now.types))) c.deref.ensures.value
    ∙ type_numbers_at f.numbers.now f.shared k c.in_ok-places.places.items (map (declared_type s h) ws) c.hold.ensures.shared c.in_ok-places.ensures.grows m.numbers (c.in_ok-places.ensures.within r) (c.in_ok-places.ensures.trees r)
    ∙ map_map (type_number (numbers_at (trees f.shared.branches) f.numbers.now)) (declared_type s h) ws
