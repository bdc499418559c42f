use Rattle.std.proofs.Common.{arith, refl, subst, ◌-◌, take, drop}
use Rattle.value_text.specs.Scan.{IsLongest}
use Rattle.value_text.proofs.Names.{name_found, name_lost}
use Rattle.value_text.proofs.scan.name_or_place.Goals as goal

pub returns-in-Some-clause-reads : goal.returns-in-Some-clause-reads
returns-in-Some-clause-reads c = λ sound.
    let tb = c.args.table.now in
    let bytes = c.args.bytes.now in
    let s = c.skip_blanks-start.ensures in
    let text = take (c.name_end-end.result - c.skip_blanks-start.result) (drop c.skip_blanks-start.result bytes) in
    let e = c.name_end-end.ensures in
    name_found tb sound bytes c.args.at c.skip_blanks-start.result c.name_end-end.result text e.from e.within refl e.name e.following (s.skips tb) s.following c.args.ty c.in-Some.c (let h = c.requires.data in omega (arith, h)) c.in-Some.ensures.found

pub returns-in-None-clause-reads : goal.returns-in-None-clause-reads
returns-in-None-clause-reads c = λ sound.
    let tb = c.args.table.now in
    let bytes = c.args.bytes.now in
    let s = c.skip_blanks-start.ensures in
    let text = take (c.name_end-end.result - c.skip_blanks-start.result) (drop c.skip_blanks-start.result bytes) in
    let e = c.name_end-end.ensures in
    name_lost tb sound bytes c.args.at c.skip_blanks-start.result c.name_end-end.result text e.from e.within refl e.name e.following (s.skips tb) s.following c.args.ty c.longest_front.result (let h = c.requires.data in omega (arith, h)) c.in-None.ensures.none (subst (λ ss. IsLongest text ss c.longest_front.result) c.constructors_of.ensures.same c.longest_front.ensures)
