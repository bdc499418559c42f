use Rattle.std.proofs.Common.{◌∙◌, ◌<◌, length, drop, sym, ap, subst, arith}
use Rattle.session_semantics.specs.Lines.{symbols, skip, following, BeginsCapital}
use Rattle.session_lines.specs.Completed.{Completes, GoesOn, HasParts, IsUnsigned}
use Rattle.session_lines.specs.Scanned.{left}
use Rattle.session_lines.specs.declared.scan.Step.TheVariants.{Wants, Read}
use Rattle.session_lines.proofs.Writing.{named, int_read, no_value, goes_further, nothing_there, capital_there, no_capital}
use Rattle.session_lines.proofs.scan.Scanner.first.Goals as goal

pub returns-then-start-self-clause-none : goal.returns-then-start-self-clause-none
returns-then-start-self-clause-none c = λ e rest h.
    let s = c.args.self.now in
    nothing_there s.bytes.now c.after_blanks-start.result c.args.depth.now (left s) rest c.after_blanks-start.ensures.skips (let t = c.if-start-self.true in omega (arith, t)) h

pub returns-then-is_upper-clause-alike : goal.returns-then-is_upper-clause-alike
returns-then-is_upper-clause-alike c = λ few.
    let n = c.args.depth.now in
    let bytes = c.args.self.now.bytes.now in
    let cs = left c.args.self.now in
    let start = c.after_blanks-start.result in
    let skips = c.after_blanks-start.ensures.skips in
    let lt : start < length bytes = (let f = c.if-start-self.false in omega (arith, f)) in
    let short = (let from = c.after_blanks-start.ensures.from in let z : n < length bytes = omega (arith, few, from, lt) in z) in
    let capital : BeginsCapital (skip cs) = subst BeginsCapital (sym skips) (capital_there bytes start lt (sym c.is_upper.ensures.upper ∙ c.if-is_upper.true)) in
    let here = ap following skips ∙ c.after_name-self.ensures.following in
    let parts = subst (λ x. GoesOn (Completes Wants n cs) (HasParts n x)) here (named n cs capital) in
    goes_further (Completes Wants n cs) (HasParts n (symbols (drop c.after_name-self.result bytes))) (Completes c.fields.result c.fields.new.depth (left c.fields.new.self)) parts (c.fields.ensures.alike short)

pub returns-then-digits-clause-alike : goal.returns-then-digits-clause-alike
returns-then-digits-clause-alike c = λ few.
    let n = c.args.depth.now in
    let bytes = c.args.self.now.bytes.now in
    let cs = left c.args.self.now in
    let ds = symbols (drop c.after_minus.result bytes) in
    let sign = subst (λ x. IsUnsigned x ds) (sym c.after_blanks-start.ensures.skips) c.after_minus.ensures.digits in
    subst (λ x. GoesOn (Completes Wants n cs) (Completes Read n x)) (c.digits.ensures.following c.if-digits.true) (int_read n cs ds sign (c.digits.ensures.some c.if-digits.true))

pub returns-else-digits-clause-none : goal.returns-else-digits-clause-none
returns-else-digits-clause-none c = λ e rest h.
    let n = c.args.depth.now in
    let bytes = c.args.self.now.bytes.now in
    let cs = left c.args.self.now in
    let start = c.after_blanks-start.result in
    let skips = c.after_blanks-start.ensures.skips in
    let lt : start < length bytes = (let f = c.if-start-self.false in omega (arith, f)) in
    let ds = symbols (drop c.after_minus.result bytes) in
    let sign = subst (λ x. IsUnsigned x ds) (sym skips) c.after_minus.ensures.digits in
    no_value n cs ds rest sign (c.digits.ensures.none c.if-digits.false) (λ b. no_capital bytes start lt (sym c.is_upper.ensures.upper ∙ c.if-is_upper.false) (subst BeginsCapital skips b)) h
