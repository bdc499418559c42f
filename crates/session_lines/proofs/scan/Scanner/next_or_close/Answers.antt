use Rattle.std.proofs.Common.{List, subst, sym, arith}
use Rattle.session_semantics.specs.Lines.{Symbol, Comma, Close}
use Rattle.session_lines.specs.Scanned.{left}
use Rattle.session_lines.proofs.Tokens.{sign_comma, sign_close}
use Rattle.session_lines.proofs.Writing.{comma_more, close_one, no_part_more}
use Rattle.session_semantics.specs.Lines.{SignText}
use Rattle.session_lines.specs.declared.scan.Scanner.{Scanner}
use Rattle.session_lines.proofs.scan.Scanner.next_or_close.Goals as goal

abbrev goal_text : Scanner → List Symbol → Type 0
goal_text s ds = SignText Close (left s) ds

pub returns-then-sign-clause-alike : goal.returns-then-sign-clause-alike
returns-then-sign-clause-alike c =
    comma_more c.args.depth.now (left c.args.self.now) (left c.sign.new.self) c.requires.some (c.sign.ensures.read c.if-sign.true Comma sign_comma)

pub returns-then-sign-2-clause-alike : goal.returns-then-sign-2-clause-alike
returns-then-sign-2-clause-alike c =
    let same = c.sign.ensures.kept c.if-sign.false in
    let s = c.saturating_sub.ensures in
    let text = c.sign-2.ensures.read c.if-sign-2.true Close sign_close in
    close_one c.args.depth.now c.saturating_sub.result (left c.args.self.now) (left c.sign-2.new.self) c.requires.some (let lt = c.requires.some in omega (arith, s, lt)) (subst (λ x. goal_text x (left c.sign-2.new.self)) same text)

pub returns-clause-none : goal.returns-clause-none
returns-clause-none c = λ e rest h.
    let same = c.sign.ensures.kept c.if-sign.false in
    no_part_more c.args.depth.now (left c.args.self.now) rest c.requires.some (λ ds. c.sign.ensures.none c.if-sign.false Comma ds sign_comma) (λ ds t. c.sign-2.ensures.none c.if-sign-2.false Close ds sign_close (subst (λ x. goal_text x ds) (sym same) t)) h
