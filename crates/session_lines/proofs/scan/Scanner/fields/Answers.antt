use Rattle.std.proofs.Common.{◌≡◌, suc, sym, subst, arith}
use Rattle.session_semantics.specs.Lines.{Open}
use Rattle.session_lines.specs.Completed.{Completes, HasParts, GoesOn}
use Rattle.session_lines.specs.Scanned.{left}
use Rattle.session_lines.specs.declared.scan.Step.TheVariants.{Wants, Read}
use Rattle.session_lines.proofs.Tokens.{sign_open}
use Rattle.session_lines.proofs.Writing.{bracket, no_bracket}
use Rattle.session_lines.proofs.scan.Scanner.fields.Goals as goal

pub returns-then-sign-clause-alike : goal.returns-then-sign-clause-alike
returns-then-sign-clause-alike c = λ lt.
    let n = c.args.depth.now in
    let cs = left c.args.self.now in
    let ds = left c.sign.new.self in
    let one : suc n ≡ c.saturating_add.result = (let s = c.saturating_add.ensures in omega (arith, s, lt)) in
    subst (λ m. GoesOn (HasParts n cs) (Completes Wants m ds)) one (bracket n cs ds (c.sign.ensures.read c.if-sign.true Open sign_open))

pub returns-clause-alike : goal.returns-clause-alike
returns-clause-alike c = λ lt.
    let n = c.args.depth.now in
    let s = c.args.self.now in
    subst (λ x. GoesOn (HasParts n (left s)) (Completes Read n (left x))) (sym (c.sign.ensures.kept c.if-sign.false)) (no_bracket n (left s) (λ rest. c.sign.ensures.none c.if-sign.false Open rest sign_open))
