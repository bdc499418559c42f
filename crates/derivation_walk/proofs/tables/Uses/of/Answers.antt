use Rattle.std.proofs.Common.{◌≡◌, ◌∙◌, ap, sym, length, true, false}
use Rattle.fip_trees.specs.TreeView as V
use Rattle.derivation_walk.specs.Seen.{Seen, world_of, see_instance}
use Rattle.derivation_walk.specs.Tables.{rows}
use Rattle.derivation_walk.proofs.Rising.{places_rise}
use Rattle.derivation_walk.proofs.tables.Uses.of.Goals as goal

pub invariant_of-result : goal.invariant_of-result
invariant_of-result c =
    let w = world_of c.args.context.now in
    let d = V.instance_of c.args.instance.now in
    let f = c.in_ok-found.found in
    let e : f.occurrences.items ≡ (see_instance w d).occurrences = ap (λ (s : Seen). s.occurrences) c.in_ok-found.ensures.found in
    record {
      occurrences_rise = λ x. places_rise w d true (length f.variables.items) f.occurrences.items (rows c.in_ok-occurring.occurring.items) e c.in_ok-occurring.ensures x;
      uses_rise = λ x. places_rise w d false (length f.variables.items) f.occurrences.items (rows c.in_ok-used.used.items) e c.in_ok-used.ensures x;
    }
