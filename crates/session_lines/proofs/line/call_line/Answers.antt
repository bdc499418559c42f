use Rattle.std.proofs.Common.{◌∙◌, ℕ, List, ap, subst}
use Rattle.std.specs.Prelude.{Ok, IfOk, IfSome}
use Rattle.std.specs.Borrow.{Bor}
use Rattle.std.specs.declared.alloc.Global.{Global}
use Rattle.std.specs.declared.vec.Vec.{Vec}
use Rattle.session_lines.specs.Scanned.{left}
use Rattle.session_lines.specs.Said.{names_of}
use Rattle.session_lines.specs.Parts.{Results, CallRead}
use Rattle.session_lines.proofs.Reading.{no_call}
use Rattle.session_lines.proofs.line.call_line.Goals as goal

pub returns-in-Some-clause-read : goal.returns-in-Some-clause-read
returns-in-Some-clause-read c =
    let old = c.args.scanner.now in
    let r = subst (λ o. IfSome o (λ (l : Vec (Bor (List ℕ)) Global). Results (left old) (names_of l.items) (left c.results.new.scanner))) c.in-Some.is c.in_ok-results.ensures.read in
    subst (λ b. IfOk c.called.result (λ o. IfSome o (λ k. CallRead b k (left old)))) c.results.ensures.bytes (c.called.ensures.read (left old) r)

pub returns-in-Some-clause-none : goal.returns-in-Some-clause-none
returns-in-Some-clause-none c = λ same n ns f gs h.
    let old = c.args.scanner.now in
    let r = subst (λ o. IfSome o (λ (l : Vec (Bor (List ℕ)) Global). Results (left old) (names_of l.items) (left c.results.new.scanner))) c.in-Some.is c.in_ok-results.ensures.read in
    c.called.ensures.none (left old) r same n ns f gs h

pub returns-in-None-clause-none : goal.returns-in-None-clause-none
returns-in-None-clause-none c = λ same n ns f gs h.
    no_call (left c.args.scanner.now) (λ ms q. c.results.ensures.none (c.in_ok-results.was ∙ ap (λ o. Ok o) c.in-None.is) ms q) n ns f gs h
