use Rattle.std.proofs.Common.{sym, ◌∙◌, ap, subst, length, slice_get, arith}
use Rattle.register_kinds.specs.Kept.{KindsRise}
use Rattle.register_kinds.proofs.Arriving.{map_is}
use Rattle.register_kinds.proofs.registers.Registers.adopt.Goals as goal

pub put_all-requires-clause-rise : goal.put_all-requires-clause-rise
put_all-requires-clause-rise c =
    let f = c.in-Some.ensures.found in
    subst KindsRise f.2 (c.self.invariant.are_maps.rise c.args.label f.0 f.1)

pub put_all-requires-clause-long : goal.put_all-requires-clause-long
put_all-requires-clause-long c =
    let f = c.in-Some.ensures.found in
    ap length (sym f.2) ∙ c.self.invariant.are_maps.long c.args.label f.0 f.1 ∙ ap (λ s. length s.kinds) c.self.view_is

pub returns-in-None-clause-kinds : goal.returns-in-None-clause-kinds
returns-in-None-clause-kinds c =
    λ m e. absurd (c.map_of.ensures.none c.in-None.is m (ap (λ s. slice_get s.maps c.args.label) c.self.view_is ∙ e))

pub returns-in-Some-clause-kinds : goal.returns-in-Some-clause-kinds
returns-in-Some-clause-kinds c =
    let f = c.in-Some.ensures.found in
    λ m e. c.put_all.ensures.kinds ∙ sym f.2
    ∙ ap (λ z. z.kinds) (map_is _ f.0 m f.1 (ap (λ s. slice_get s.maps c.args.label) c.self.view_is ∙ e))

pub put_all-requires-clause-few : goal.put_all-requires-clause-few
put_all-requires-clause-few c =
    let f = c.in-Some.ensures.found in
    let long = ap length (sym f.2) ∙ c.self.invariant.are_maps.long c.args.label f.0 f.1 in
    let few = c.self.invariant.few in
    omega arith
