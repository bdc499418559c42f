use Rattle.std.proofs.Common.{◌∙◌, ◌+◌}
use Rattle.std.proofs.lemmas.List.{take_rest}
use Rattle.std.proofs.lemmas.List.Sorted.{searched}
use Rattle.kind_domain.proofs.Sets.{rise_order}
use Rattle.kind_domain.proofs.Subsets.{above_found, above_none, found_at, gap_at}
use Rattle.kind_domain.proofs.set.above.Goals as goal

pub returns-in-Ok : goal.returns-in-Ok
returns-in-Ok c =
    let s = found_at c.args.numbers.now c.args.number c.binary_search.result c.in-Ok.place
    (searched c.args.numbers.now c.args.number c.binary_search.result c.binary_search.ensures.position
    (rise_order 0 c.args.numbers.now c.requires.rise)) c.in-Ok.is in
    record {
      is = take_rest c.args.numbers.now (c.in-Ok.place + 1)
          ∙ above_found c.args.numbers.now c.args.number c.in-Ok.place c.requires.rise s.0 s.1;
    }

pub returns-in-Err : goal.returns-in-Err
returns-in-Err c =
    let s = gap_at c.args.numbers.now c.args.number c.binary_search.result c.in-Err.place
    (searched c.args.numbers.now c.args.number c.binary_search.result c.binary_search.ensures.position
    (rise_order 0 c.args.numbers.now c.requires.rise)) c.in-Err.is in
    record {
      is = take_rest c.args.numbers.now c.in-Err.place
          ∙ above_none c.args.numbers.now c.args.number c.in-Err.place s.1 s.2;
    }
