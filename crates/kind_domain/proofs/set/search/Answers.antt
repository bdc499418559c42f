use Rattle.std.proofs.Common.{◌∙◌, ◌+◌, take}
use Rattle.std.proofs.lemmas.List.{take_rest}
use Rattle.std.proofs.lemmas.List.Sorted.{searched}
use Rattle.kind_domain.proofs.Sets.{rise_order}
use Rattle.kind_domain.proofs.Subsets.{found_at, gap_at}
use Rattle.kind_domain.proofs.Pieces.{near_found, near_none, rise_take}
use Rattle.kind_domain.proofs.set.search.Goals as goal

pub returns-in-Ok : goal.returns-in-Ok
returns-in-Ok c =
    let near = take c.enough.result c.args.numbers.now in
    let s = found_at near c.args.number c.binary_search.result c.in-Ok.place
    (searched near c.args.number c.binary_search.result c.binary_search.ensures.position
    (rise_order 0 near (rise_take c.enough.result 0 c.args.numbers.now c.requires.rise))) c.in-Ok.is in
    let f = near_found c.enough.result c.in-Ok.place c.args.number c.args.numbers.now c.requires.rise
    c.enough.ensures.within s.0 s.1 in
    record {
      found = (f.0, take_rest c.args.numbers.now (c.in-Ok.place + 1) ∙ f.1);
      none = λ e. absurd (cc);
    }

pub returns-in-Err : goal.returns-in-Err
returns-in-Err c =
    let near = take c.enough.result c.args.numbers.now in
    let s = gap_at near c.args.number c.binary_search.result c.in-Err.field-0
    (searched near c.args.number c.binary_search.result c.binary_search.ensures.position
    (rise_order 0 near (rise_take c.enough.result 0 c.args.numbers.now c.requires.rise))) c.in-Err.is in
    record {
      found = tt;
      none = λ e. near_none c.enough.result c.in-Err.field-0 c.args.number c.args.numbers.now c.requires.rise
          c.enough.ensures.within c.enough.ensures.greater s.1 s.2;
    }
