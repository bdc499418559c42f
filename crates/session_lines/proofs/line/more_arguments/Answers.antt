use Rattle.std.proofs.Common.{◌∙◌, refl, sym, subst}
use Rattle.session_semantics.specs.Lines.{Comma, Close, SignText}
use Rattle.session_lines.specs.Scanned.{left}
use Rattle.session_lines.proofs.Tokens.{sign_comma, sign_close}
use Rattle.session_lines.specs.Parts.{GivenRead}
use Rattle.session_lines.proofs.Reading.{giving_on, giving_ends, no_given_more, no_close}
use Rattle.session_lines.proofs.line.more_arguments.Goals as goal

pub loop-scanner-preserved : goal.loop-scanner-preserved
loop-scanner-preserved c =
    let inv = c.loop-scanner.invariant in
    let same = c.sign.ensures.bytes ∙ inv.bytes in
    let next = subst (λ b. GivenRead b c.in-Some.next (left c.sign.new.self) (left c.argument.new.scanner)) same c.in-Some.ensures.read in
    record {
      bytes = c.argument.ensures.bytes ∙ same;
      read = giving_on c.args.scanner.now.bytes.now (left c.args.scanner.now) (left c.loop-scanner.scanner) (left c.sign.new.self) (left c.argument.new.scanner) c.in-Some.next c.args.list.now.items c.loop-scanner.list.items c.push.new.self.items (c.sign.ensures.read c.loop-scanner-test.true Comma sign_comma) next c.in_ok-push.ensures.items inv.read;
    }

pub returns-in_default-clause-none : goal.returns-in_default-clause-none
returns-in_default-clause-none c = λ e gs rest t.
    no_given_more c.args.scanner.now.bytes.now (left c.args.scanner.now) (left c.loop-scanner.scanner) (left c.sign.new.self) c.args.list.now.items c.loop-scanner.list.items (c.sign.ensures.read c.loop-scanner-test.true Comma sign_comma) (λ g r. c.in_default.ensures.none refl g r) c.loop-scanner.invariant.read gs rest t

pub returns-clause-read : goal.returns-clause-read
returns-clause-read c = λ e.
    let kept = c.sign.ensures.kept c.loop-scanner-test.false in
    giving_ends c.args.scanner.now.bytes.now (left c.args.scanner.now) (left c.loop-scanner.scanner) (left c.sign-2.new.self) c.args.list.now.items c.loop-scanner.list.items (subst (λ s. SignText Close (left s) (left c.sign-2.new.self)) kept (c.sign-2.ensures.read e Close sign_close)) c.loop-scanner.invariant.read

pub returns-clause-none : goal.returns-clause-none
returns-clause-none c = λ e gs rest t.
    let kept = c.sign.ensures.kept c.loop-scanner-test.false in
    no_close c.args.scanner.now.bytes.now (left c.args.scanner.now) (left c.loop-scanner.scanner) c.args.list.now.items c.loop-scanner.list.items (λ r. c.sign.ensures.none c.loop-scanner-test.false Comma r sign_comma) (λ r q. c.sign-2.ensures.none e Close r sign_close (subst (λ s. SignText Close (left s) r) (sym kept) q)) c.loop-scanner.invariant.read gs rest t
