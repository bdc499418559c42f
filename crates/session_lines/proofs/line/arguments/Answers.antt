use Rattle.std.proofs.Common.{◌∙◌, ap, subst}
use Rattle.std.specs.Prelude.{Ok, IfSome}
use Rattle.std.specs.declared.alloc.Global.{Global}
use Rattle.std.specs.declared.vec.Vec.{Vec}
use Rattle.session_semantics.specs.Lines.{Open, AllGivenText}
use Rattle.session_semantics.proofs.OneForm.{sign_once}
use Rattle.session_lines.specs.Scanned.{left}
use Rattle.session_lines.proofs.Tokens.{sign_open}
use Rattle.session_lines.specs.declared.line.Written.{Written as Argument}
use Rattle.session_lines.specs.Said.{AreGiven}
use Rattle.session_lines.specs.Parts.{AllGiven}
use Rattle.session_lines.proofs.line.arguments.Goals as goal

pub returns-then-not-sign-clause-none : goal.returns-then-not-sign-clause-none
returns-then-not-sign-clause-none c = λ same gs rest h. c.sign.ensures.none c.if-not-sign.true Open h.0 sign_open h.1

pub returns-in-Some-clause-read : goal.returns-in-Some-clause-read
returns-in-Some-clause-read c =
    let mid = c.sign.new.self in
    let r = subst (λ o. IfSome o (λ (l : Vec Argument Global). AllGiven mid.bytes.now l.items (left mid) (left c.given.new.scanner))) c.in-Some.is c.in_ok-given.ensures.read in
    (r.all, subst (λ b. AreGiven b c.in-Some.given.items r.all) c.sign.ensures.bytes r.are, (left mid, c.sign.ensures.read c.if-not-sign.false Open sign_open, r.text))

pub returns-in-None-clause-none : goal.returns-in-None-clause-none
returns-in-None-clause-none c = λ same gs rest h.
    let mid = c.sign.new.self in
    let open' = c.sign.ensures.read c.if-not-sign.false Open sign_open in
    c.given.ensures.none (c.in_ok-given.was ∙ ap (λ o. Ok o) c.in-None.is) gs rest (subst (λ x. AllGivenText x gs rest) (sign_once Open (left c.args.scanner.now) h.0 (left mid) h.1 open') h.2)
