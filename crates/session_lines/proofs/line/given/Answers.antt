use Rattle.std.proofs.Common.{◌∙◌, ◌∷◌, ◌++◌, [], List, refl, sym, ap, subst}
use Rattle.session_semantics.specs.Lines.{Close, GivenText}
use Rattle.session_lines.specs.Scanned.{left}
use Rattle.session_lines.proofs.Tokens.{sign_close}
use Rattle.session_lines.specs.declared.line.Written.{Written as Argument}
use Rattle.session_lines.specs.Parts.{GivenRead, MoreGiven}
use Rattle.session_lines.proofs.Reading.{none_given, no_first, all_given, no_further}
use Rattle.session_lines.proofs.line.given.Goals as goal

pub returns-then-sign-clause-read : goal.returns-then-sign-clause-read
returns-then-sign-clause-read c =
    none_given c.args.scanner.now.bytes.now c.new-list.result.items (left c.args.scanner.now) (left c.sign.new.self) c.new-list.ensures.items (c.sign.ensures.read c.if-sign.true Close sign_close)

pub returns-in_default-clause-none : goal.returns-in_default-clause-none
returns-in_default-clause-none c = λ same gs rest t.
    let kept = c.sign.ensures.kept c.if-sign.false in
    no_first (left c.args.scanner.now) gs rest (λ r. c.sign.ensures.none c.if-sign.false Close r sign_close) (λ g r q. c.in_default.ensures.none refl g r (subst (λ s. GivenText (left s) g r) (sym kept) q)) t

pub returns-then-branch-clause-read : goal.returns-then-branch-clause-read
returns-then-branch-clause-read c =
    let old = c.args.scanner.now in
    let mid = c.argument.new.scanner in
    let first = c.in-Some.first in
    let kept = c.sign.ensures.kept c.if-sign.false in
    let one = c.in_ok-push.ensures.items ∙ ap (λ (l : List Argument). l ++ first ∷ []) c.new-list.ensures.items in
    let read = subst (λ s. GivenRead s.bytes.now first (left s) (left mid)) kept c.in-Some.ensures.read in
    let more = subst (λ b. MoreGiven b c.push.new.self.items c.more_arguments.new.list.items (left mid) (left c.more_arguments.new.scanner)) (c.argument.ensures.bytes ∙ c.sign.ensures.bytes) (c.in_ok-more_arguments.ensures.read c.if-branch.true) in
    all_given old.bytes.now first c.push.new.self.items c.more_arguments.new.list.items (left old) (left mid) (left c.more_arguments.new.scanner) one read more

pub returns-clause-none : goal.returns-clause-none
returns-clause-none c = λ same gs rest t.
    let old = c.args.scanner.now in
    let mid = c.argument.new.scanner in
    let first = c.in-Some.first in
    let kept = c.sign.ensures.kept c.if-sign.false in
    let read = subst (λ s. GivenRead s.bytes.now first (left s) (left mid)) kept c.in-Some.ensures.read in
    no_further old.bytes.now first (left old) (left mid) gs rest (λ r. c.sign.ensures.none c.if-sign.false Close r sign_close) read (c.in_ok-more_arguments.ensures.none c.if-branch.false) t
