use Rattle.kind_domain.proofs.Pieces.{rise_drop}
use Rattle.kind_domain.proofs.set.are_among.Goals as goal

pub after_piece-requires-clause-own_rise : goal.after_piece-requires-clause-own_rise
after_piece-requires-clause-own_rise c = rise_drop c.loop-start.start 0 c.args.own.now c.requires.own_rise
