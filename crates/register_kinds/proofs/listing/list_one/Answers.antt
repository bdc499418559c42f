use Rattle.std.proofs.Common.{refl}
use Rattle.kind_domain.proofs.LentLists.{grows_same}
use Rattle.register_kinds.proofs.listing.list_one.Goals as goal

pub returns-else-leads_to-clause-more : goal.returns-else-leads_to-clause-more
returns-else-leads_to-clause-more c = grows_same _ _ refl
