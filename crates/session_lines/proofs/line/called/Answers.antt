use Rattle.std.proofs.Common.{◌∙◌, List, refl, ap, subst}
use Rattle.std.specs.Prelude.{Ok, IfSome}
use Rattle.std.specs.declared.alloc.Global.{Global}
use Rattle.std.specs.declared.vec.Vec.{Vec}
use Rattle.session_semantics.specs.Lines.{Given}
use Rattle.session_lines.specs.Scanned.{left}
use Rattle.session_lines.specs.declared.line.CallLine.{CallLine}
use Rattle.session_lines.specs.declared.line.Written.{Written as Argument}
use Rattle.session_lines.specs.Said.{AreGiven, names_of}
use Rattle.session_lines.specs.Parts.{InBrackets}
use Rattle.session_lines.proofs.Reading.{no_entry, no_arguments, no_end, call_read}
use Rattle.session_lines.proofs.line.called.Goals as goal

pub returns-in_default-clause-none : goal.returns-in_default-clause-none
returns-in_default-clause-none c = λ cs r same n ns f gs h.
    no_entry cs (left c.args.scanner.now) (names_of c.args.results.items) r (λ e q. c.in_default.ensures.none refl e q) n ns f gs h

pub returns-then-is_at_end-clause-read : goal.returns-then-is_at_end-clause-read
returns-then-is_at_end-clause-read c = λ cs r.
    let old = c.args.scanner.now in
    let mid = c.name.new.self in
    let end = c.arguments.new.scanner in
    let line : CallLine = record { results = c.args.results; entry = c.in-Some.entry; arguments = c.in-Some-2.arguments } in
    let a = subst (λ o. IfSome o (λ (l : Vec Argument Global). (gs : List Given) × AreGiven mid.bytes.now l.items gs × InBrackets (left mid) gs (left end))) c.in-Some-2.is c.in_ok-arguments.ensures.read in
    call_read old.bytes.now line cs (left old) (left mid) (left end) a.0 r c.in-Some.ensures.read (subst (λ b. AreGiven b c.in-Some-2.arguments.items a.0) c.name.ensures.bytes a.1) a.2 (c.is_at_end.ensures.end c.if-is_at_end.true)

pub returns-in-Some-2-clause-none : goal.returns-in-Some-2-clause-none
returns-in-Some-2-clause-none c = λ cs r same n ns f gs h.
    let mid = c.name.new.self in
    let end = c.arguments.new.scanner in
    let a = subst (λ o. IfSome o (λ (l : Vec Argument Global). (gs : List Given) × AreGiven mid.bytes.now l.items gs × InBrackets (left mid) gs (left end))) c.in-Some-2.is c.in_ok-arguments.ensures.read in
    no_end cs (left c.args.scanner.now) (left mid) (left end) (names_of c.args.results.items) c.in-Some.entry.now a.0 r c.in-Some.ensures.read a.2 (c.is_at_end.ensures.more c.if-is_at_end.false) n ns f gs h

pub returns-clause-none : goal.returns-clause-none
returns-clause-none c = λ cs r same n ns f gs h.
    no_arguments cs (left c.args.scanner.now) (left c.name.new.self) (names_of c.args.results.items) c.in-Some.entry.now r c.in-Some.ensures.read (λ hs q. c.arguments.ensures.none (c.in_ok-arguments.was ∙ ap (λ o. Ok o) c.in-None.is) hs q) n ns f gs h
