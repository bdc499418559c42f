use Rattle.std.proofs.Common.{inl, inr, refl, sym, subst}
use Rattle.fip_language.specs.declared.rule.Rule.TheVariants as R
use Rattle.fip_grammar.specs.WordView.{token}
use Rattle.parser_state.specs.StateView as view
use Rattle.fip_parser.specs.Parsed.{Fails, reading_of}
use Rattle.fip_parser.proofs.parser.advance.Goals as goal

pub returns-in-Ok-Refused-clause-fails : goal.returns-in-Ok-Refused-clause-fails
returns-in-Ok-Refused-clause-fails c =
    let r = c.args.reading in
    let h = rw c.in-Ok-Refused.field-0-is at c.in-Ok-Refused.ensures.takes in
    subst (Fails (view.negated r.state) (reading_of r) (token c.args.token)) (sym c.refused.ensures) (R.E02, inl (refl, h), refl)

pub returns-in-Ok-TooLarge-clause-fails : goal.returns-in-Ok-TooLarge-clause-fails
returns-in-Ok-TooLarge-clause-fails c =
    let r = c.args.reading in
    let h = rw c.in-Ok-TooLarge.field-0-is at c.in-Ok-TooLarge.ensures.takes in
    subst (Fails (view.negated r.state) (reading_of r) (token c.args.token)) (sym c.refused-in-Ok-TooLarge.ensures) (R.E04, inr (h.0, inr (refl, h.1)), refl)

pub returns-in-Err-TooDeep-clause-fails : goal.returns-in-Err-TooDeep-clause-fails
returns-in-Err-TooDeep-clause-fails c =
    let r = c.args.reading in
    let h = rw c.in-Ok-Goes.field-0-is at c.in-Ok-Goes.ensures.takes in
    let s = rw c.in-Err-TooDeep.field-0-is at c.in-Err-TooDeep.ensures.stops in
    subst (Fails (view.negated r.state) (reading_of r) (token c.args.token)) (sym c.refused-in-Err-TooDeep.ensures) (R.E03, inr ((_, h.0), inl s), refl)

pub returns-clause-fails : goal.returns-clause-fails
returns-clause-fails c =
    let r = c.args.reading in
    let h = rw c.in-Ok-Goes.field-0-is at c.in-Ok-Goes.ensures.takes in
    let s = rw c.in-Err-TooLarge.field-0-is at c.in-Err-TooLarge.ensures.stops in
    subst (Fails (view.negated r.state) (reading_of r) (token c.args.token)) (sym c.refused-in-Err-TooLarge.ensures) (R.E04, inr ((_, h.0), inl s), refl)
