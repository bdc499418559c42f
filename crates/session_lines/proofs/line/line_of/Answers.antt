use Rattle.std.proofs.Common.{◌≡◌, ◌∙◌, sym, ap, subst}
use Rattle.std.specs.Prelude.{Ok, None, IfSome}
use Rattle.session_semantics.specs.Lines.{symbols, Question, Minus, SignText, LineText, Calls}
use Rattle.session_lines.specs.Scanned.{left}
use Rattle.session_lines.specs.declared.line.CallLine.{CallLine}
use Rattle.session_lines.specs.Parts.{CallRead}
use Rattle.session_lines.proofs.Reading.{start_left, call_says, no_other, sign_question, sign_minus}
use Rattle.session_lines.proofs.line.line_of.Goals as goal

pub returns-then-sign-clause-read : goal.returns-then-sign-clause-read
returns-then-sign-clause-read c =
    let start = start_left c.args.bytes.now c.new-scanner.result c.new-scanner.ensures.start c.new-scanner.ensures.bytes in
    c.shown.ensures.read c.args.bytes.now (subst (λ x. SignText Question x (left c.sign.new.self)) start (c.sign.ensures.read c.if-sign.true Question sign_question))

pub returns-then-sign-clause-none : goal.returns-then-sign-clause-none
returns-then-sign-clause-none c = λ e l h.
    let start = start_left c.args.bytes.now c.new-scanner.result c.new-scanner.ensures.start c.new-scanner.ensures.bytes in
    let none : c.shown.result ≡ None = cc in
    c.shown.ensures.none none (symbols c.args.bytes.now) (subst (λ x. SignText Question x (left c.sign.new.self)) start (c.sign.ensures.read c.if-sign.true Question sign_question)) l h

pub returns-then-sign-2-clause-read : goal.returns-then-sign-2-clause-read
returns-then-sign-2-clause-read c =
    let start = ap left (c.sign.ensures.kept c.if-sign.false) ∙ start_left c.args.bytes.now c.new-scanner.result c.new-scanner.ensures.start c.new-scanner.ensures.bytes in
    c.given_up.ensures.read c.args.bytes.now (subst (λ x. SignText Minus x (left c.sign-2.new.self)) start (c.sign-2.ensures.read c.if-sign-2.true Minus sign_minus))

pub returns-then-sign-2-clause-none : goal.returns-then-sign-2-clause-none
returns-then-sign-2-clause-none c = λ e l h.
    let start = ap left (c.sign.ensures.kept c.if-sign.false) ∙ start_left c.args.bytes.now c.new-scanner.result c.new-scanner.ensures.start c.new-scanner.ensures.bytes in
    let none : c.given_up.result ≡ None = cc in
    c.given_up.ensures.none none (symbols c.args.bytes.now) (subst (λ x. SignText Minus x (left c.sign-2.new.self)) start (c.sign-2.ensures.read c.if-sign-2.true Minus sign_minus)) l h

pub returns-in-Some-clause-read : goal.returns-in-Some-clause-read
returns-in-Some-clause-read c =
    let now = c.sign-2.new.self in
    let first = ap left (c.sign.ensures.kept c.if-sign.false) ∙ start_left c.args.bytes.now c.new-scanner.result c.new-scanner.ensures.start c.new-scanner.ensures.bytes in
    let start = ap left (c.sign-2.ensures.kept c.if-sign-2.false) ∙ first in
    let bytes = c.sign-2.ensures.bytes ∙ (c.sign.ensures.bytes ∙ c.new-scanner.ensures.bytes) in
    let r = subst (λ o. IfSome o (λ (k : CallLine). CallRead now.bytes.now k (left now))) c.in-Some.is c.in_ok-call.ensures.read in
    call_says c.args.bytes.now c.in-Some.call (left now) start (subst (λ b. CallRead b c.in-Some.call (left now)) bytes r)

pub returns-in-None-clause-none : goal.returns-in-None-clause-none
returns-in-None-clause-none c = λ same l h.
    let now = c.sign-2.new.self in
    let whole = start_left c.args.bytes.now c.new-scanner.result c.new-scanner.ensures.start c.new-scanner.ensures.bytes in
    let first = ap left (c.sign.ensures.kept c.if-sign.false) ∙ whole in
    let start = ap left (c.sign-2.ensures.kept c.if-sign-2.false) ∙ first in
    no_other (symbols c.args.bytes.now) l
    (λ r q. c.sign.ensures.none c.if-sign.false Question r sign_question (subst (λ x. SignText Question x r) (sym whole) q))
    (λ r q. c.sign-2.ensures.none c.if-sign-2.false Minus r sign_minus (subst (λ x. SignText Minus x r) (sym first) q))
    (λ n ns f gs t. c.call_line.ensures.none (c.in_ok-call.was ∙ ap (λ o. Ok o) c.in-None.is) n ns f gs (subst (λ x. LineText x (Calls n ns f gs)) (sym start) t))
    h
