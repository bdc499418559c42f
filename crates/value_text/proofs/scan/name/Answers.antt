use Rattle.std.proofs.Common.{◌≤◌, List, arith, refl, subst, ◌-◌, take, drop}
use Rattle.fip_language.specs.Table.{Shape}
use Rattle.fip_base.specs.TableView.{IsNamed}
use Rattle.value_text.proofs.Names.{name_bytes, name_found}
use Rattle.value_text.proofs.scan.name.Goals as goal

pub returns-in-Some-clause-reads : goal.returns-in-Some-clause-reads
returns-in-Some-clause-reads c = λ sound.
    let tb = c.args.table.now in
    let bytes = c.args.bytes.now in
    let s = c.skip_blanks-start.ensures in
    let start = c.skip_blanks-start.result in
    let end = c.in-Some.found.1 in
    let text = take (end - start) (drop start bytes) in
    let e = c.in-Some.ensures in
    let named = subst (λ (ss : List Shape). IsNamed ss text c.in-Some.found.0) c.constructors_of.ensures.same e.named in
    let from : start ≤ end = let w = e.within.0 in omega (arith, w) in
    name_found tb sound bytes c.args.at start end text from e.within.1 refl (name_bytes tb sound c.args.ty c.in-Some.found.0 text c.requires.data named) e.following (s.skips tb) s.following c.args.ty c.in-Some.found.0 c.requires.data named
