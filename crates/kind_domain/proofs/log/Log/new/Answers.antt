use Rattle.kind_domain.proofs.Sights.{never_seen}
use Rattle.kind_domain.proofs.log.Log.new.Goals as goal

pub returns : goal.returns
returns c = record {
  none = never_seen _ _ _ c.in_ok-none_seen.ensures.none;
}
