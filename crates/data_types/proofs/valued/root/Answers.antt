use Rattle.std.proofs.Common.{ap, ◌∙◌, sym, get_or}
use Rattle.std.proofs.lemmas.Option.{slice_get-get_or}
use Rattle.data_types.specs.Marks as m
use Rattle.data_types.proofs.Rooting.{arity_at}
use Rattle.data_types.proofs.valued.root.Goals as goal

pub returns : goal.returns
returns c = c.in_ok-bits.ensures ∙ ap m.trues (sym (arity_at c.args.declared.now c.args.t (get_or c.args.declared.now c.args.t c.index-declared-t.result) (slice_get-get_or c.args.declared.now c.args.t c.index-declared-t.result c.requires.within)))
