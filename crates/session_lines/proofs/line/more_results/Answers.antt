use Rattle.std.proofs.Common.{◌∙◌, refl, sym, subst}
use Rattle.session_semantics.specs.Lines.{Comma, Equals, SignText}
use Rattle.session_lines.specs.Scanned.{left}
use Rattle.session_lines.proofs.Tokens.{sign_comma}
use Rattle.session_lines.specs.Said.{names_of}
use Rattle.session_lines.proofs.Reading.{naming_on, naming_ends, no_name_more, no_equals, one_name_more, sign_equals}
use Rattle.session_lines.proofs.line.more_results.Goals as goal

pub loop-scanner-preserved : goal.loop-scanner-preserved
loop-scanner-preserved c =
    let inv = c.loop-scanner.invariant in
    let now = names_of c.loop-scanner.names.items in
    record {
      bytes = c.name.ensures.bytes ∙ (c.sign.ensures.bytes ∙ inv.bytes);
      read = naming_on (left c.args.scanner.now) (left c.loop-scanner.scanner) (left c.sign.new.self) (left c.name.new.self) c.in-Some.name.now (names_of c.args.names.now.items) now (names_of c.push.new.self.items) (c.sign.ensures.read c.loop-scanner-test.true Comma sign_comma) c.in-Some.ensures.read (one_name_more c.loop-scanner.names.items c.push.new.self.items c.in-Some.name c.in_ok-push.ensures.items) inv.read;
    }

pub returns-in_default-clause-none : goal.returns-in_default-clause-none
returns-in_default-clause-none c = λ e ns rest t.
    no_name_more (left c.args.scanner.now) (left c.loop-scanner.scanner) (left c.sign.new.self) (names_of c.args.names.now.items) (names_of c.loop-scanner.names.items) (c.sign.ensures.read c.loop-scanner-test.true Comma sign_comma) (λ n r. c.in_default.ensures.none refl n r) c.loop-scanner.invariant.read ns rest t

pub returns-clause-read : goal.returns-clause-read
returns-clause-read c = λ e.
    let kept = c.sign.ensures.kept c.loop-scanner-test.false in
    naming_ends (left c.args.scanner.now) (left c.loop-scanner.scanner) (left c.sign-2.new.self) (names_of c.args.names.now.items) (names_of c.loop-scanner.names.items) (subst (λ s. SignText Equals (left s) (left c.sign-2.new.self)) kept (c.sign-2.ensures.read e Equals sign_equals)) c.loop-scanner.invariant.read

pub returns-clause-none : goal.returns-clause-none
returns-clause-none c = λ e ns rest t.
    let kept = c.sign.ensures.kept c.loop-scanner-test.false in
    no_equals (left c.args.scanner.now) (left c.loop-scanner.scanner) (names_of c.args.names.now.items) (names_of c.loop-scanner.names.items) (λ r. c.sign.ensures.none c.loop-scanner-test.false Comma r sign_comma) (λ r q. c.sign-2.ensures.none e Equals r sign_equals (subst (λ s. SignText Equals (left s) r) (sym kept) q)) c.loop-scanner.invariant.read ns rest t
