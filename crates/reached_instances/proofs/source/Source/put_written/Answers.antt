use Rattle.closed_types.specs.SharedTrees.{trees}
use Rattle.reached_instances.specs.SourceView.{source, instance}
use Rattle.closed_types.specs.Uses.{declared_type}
use Rattle.fip_base.specs.CoreView.{written}
use Rattle.reached_instances.proofs.Putting.{put_unless}
use Rattle.reached_instances.proofs.source.Source.put_written.Goals as goal

pub returns : goal.returns
returns c = λ r w.
    let k = c.args.shared.now in
    let l = c.declared_type.new.shared in
    put_unless k l c.args.places.now.items c.put.new.places.items c.in_ok-place.place (declared_type (source c.args.self.now) (instance (trees k.branches) c.args.here.now) (written c.args.written.now)) c.in_ok-place.ensures.grows c.in_ok-place.ensures.fits w (c.in_ok-place.ensures.within r) (c.in_ok-place.ensures.tree r) c.in_ok-put.ensures
