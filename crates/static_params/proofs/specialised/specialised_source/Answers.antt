use Rattle.std.proofs.Common.{Option, IfSome, subst}
use Rattle.static_params.specs.declared.table.Numbers.{Numbers}
use Rattle.static_params.specs.FlatView.{IsNumbered}
use Rattle.static_params.proofs.Specialising.{right_first}
use Rattle.static_params.proofs.specialised.specialised_source.Goals as goal

pub returns-in-Some-clause-accepted : goal.returns-in-Some-clause-accepted
returns-in-Some-clause-accepted c = λ l e.
    let s = c.args.source.now in
    let right = right_first s c.new-shared.result c.new-shared.ensures.fits l in
    c.flat_of.ensures.accepted (subst (λ (o : Option Numbers). IfSome o (λ (ns : Numbers). IsNumbered s ns c.numbers_of.new.shared c.numbers_of.new.least)) c.in-Some.is (c.in_ok-numbers.ensures.found right e))

pub returns-in-Some-clause-refused : goal.returns-in-Some-clause-refused
returns-in-Some-clause-refused c = λ l e.
    let s = c.args.source.now in
    let right = right_first s c.new-shared.result c.new-shared.ensures.fits l in
    c.flat_of.ensures.refused (subst (λ (o : Option Numbers). IfSome o (λ (ns : Numbers). IsNumbered s ns c.numbers_of.new.shared c.numbers_of.new.least)) c.in-Some.is (c.in_ok-numbers.ensures.found right e))

pub returns-in-None-clause-refused : goal.returns-in-None-clause-refused
returns-in-None-clause-refused c = λ l e none. c.in_ok-numbers.ensures.broken (right_first c.args.source.now c.new-shared.result c.new-shared.ensures.fits l) c.in-None.is
