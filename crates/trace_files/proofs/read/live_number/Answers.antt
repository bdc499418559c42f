use Rattle.std.proofs.Common.{◌∙◌, Some, false, map, ap, arith}
use Rattle.std.proofs.lemmas.Option.{slice_get-get_or}
use Rattle.trace_files.specs.Plain.{plain_cell}
use Rattle.trace_files.proofs.Live.{places_differ, not_there, gone, to_map, get_below}
use Rattle.trace_files.proofs.read.live_number.Goals as goal

pub returns-in-None : goal.returns-in-None
returns-in-None c = record { live = not_there c.args.place (map plain_cell c.args.cells.now) c.args.released.now (places_differ c.args.cells.now c.args.place (c.in-None.ensures.none c.requires.rising)) }

pub bounds-released-number : goal.bounds-released-number
bounds-released-number c = let lt = get_below c.args.cells.now c.in-Some.number c.in-Some.ensures.found.0 c.in-Some.ensures.found.1 in let all = c.requires.all in omega (arith, lt, all)

pub returns-then-released-number : goal.returns-then-released-number
returns-then-released-number c =
    let found = c.in-Some.ensures.found in
    let lt = get_below c.args.cells.now c.in-Some.number found.0 found.1 in
    let all = c.requires.all in
    let flag = slice_get-get_or c.args.released.now c.in-Some.number false (omega (arith, lt, all)) ∙ ap Some c.if-released-number.true in
    record { live = gone c.args.place (plain_cell found.0) found.2 0 c.in-Some.number (map plain_cell c.args.cells.now) c.args.released.now c.requires.rising (to_map plain_cell c.args.cells.now c.in-Some.number found.0 found.1) flag }

pub returns-else-released-number : goal.returns-else-released-number
returns-else-released-number c =
    let found = c.in-Some.ensures.found in
    let lt = get_below c.args.cells.now c.in-Some.number found.0 found.1 in
    let all = c.requires.all in
    let flag = slice_get-get_or c.args.released.now c.in-Some.number false (omega (arith, lt, all)) ∙ ap Some c.if-released-number.false in
    record { live = record { cell = plain_cell found.0; there = to_map plain_cell c.args.cells.now c.in-Some.number found.0 found.1; at = found.2; held = flag } }
