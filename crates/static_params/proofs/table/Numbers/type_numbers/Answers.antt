use Rattle.std.proofs.Common.{◌∙◌, get_or, ℕ, map, nat_eq, ap, ◌++◌}
use Rattle.std.specs.List.{position}
use Rattle.static_params.specs.FlatProgram.{from_one}
use Rattle.reached_instances.proofs.Putting.{item_is, plain_goes, plain_done}
use Rattle.static_params.proofs.table.Numbers.type_numbers.Goals as goal

pub loop-place-init : goal.loop-place-init
loop-place-init c = λ h. ap (λ l. l ++ map (λ (i : ℕ). from_one (position (nat_eq i) c.args.self.now.types)) c.args.places.now) c.new-numbers.ensures.items

pub loop-place-preserved : goal.loop-place-preserved
loop-place-preserved c = λ h.
    let f = λ (i : ℕ). from_one (position (nat_eq i) c.args.self.now.types) in
    plain_goes f c.loop-place.numbers.items c.push.new.self.items c.args.places.now c.loop-place.place-index (get_or c.args.places.now c.loop-place.place-index 0) c.type_number.result (map f c.args.places.now) c.loop-place-test.true (item_is c.args.places.now c.loop-place.place-index 0 c.loop-place-test.true) c.in_ok-push.ensures.items (c.type_number.ensures h) (c.loop-place.invariant h)

pub returns : goal.returns
returns c = λ h.
    let f = λ (i : ℕ). from_one (position (nat_eq i) c.args.self.now.types) in
    c.new.ensures.same ∙ plain_done f c.loop-place.numbers.items c.args.places.now c.loop-place.place-index (map f c.args.places.now) c.loop-place-test.false (c.loop-place.invariant h)
