use Rattle.std.proofs.Common.{◌∙◌, drop, refl, sym, ap, subst}
use Rattle.session_semantics.specs.Lines.{symbols, Held}
use Rattle.session_lines.specs.Scanned.{left}
use Rattle.session_lines.specs.declared.line.Written.TheVariants as W
use Rattle.session_lines.specs.Parts.{GivenRead}
use Rattle.session_lines.proofs.Reading.{value_read}
use Rattle.session_lines.proofs.line.argument.Goals as goal

pub returns-in-Some-clause-read : goal.returns-in-Some-clause-read
returns-in-Some-clause-read c = record { given = Held c.in-Some.name.now; is = refl; text = c.in-Some.ensures.read }

pub returns-in-Some-value-clause-read : goal.returns-in-Some-value-clause-read
returns-in-Some-value-clause-read c =
    let before = c.name.new.self in
    let after = c.value.new.self in
    let span = c.in-Some-value.span in
    let bytes = before.bytes.now in
    let r = c.in-Some-value.ensures.read in
    let end = ap (λ n. symbols (drop n bytes)) c.in-Some-value.ensures.end ∙ ap (λ b. symbols (drop after.at b)) (sym c.value.ensures.bytes) in
    subst (λ x. GivenRead x.bytes.now (W.Value span) (left x) (left after)) (c.name.ensures.kept c.in-None.is)
    (value_read bytes span (left before) (left after) r.0 c.in-Some-value.ensures.start end r.1)
