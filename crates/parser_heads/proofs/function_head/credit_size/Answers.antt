use Rattle.std.proofs.Common.{false, ◌<◌, refl, arith}
use Rattle.fip_grammar.specs.declared.token.Word.TheVariants as W
use Rattle.fip_grammar.specs.Token.{value_of}
use Rattle.fip_grammar.specs.Limits.{limit}
use Rattle.fip_grammar.specs.Machine as machine
use Rattle.parser_state.proofs.TooLarge.{too_large}
use Rattle.parser_heads.proofs.function_head.credit_size.Goals as goal

pub returns-in-None : goal.returns-in-None
returns-in-None c =
    let digits = c.in-Int.digits.now in
    let over = c.in-None.ensures.none refl in
    let large : limit false < value_of digits = omega (arith, over) in
    record {
      next = too_large false c.args.token (machine.step_function (machine.CreditSize c.args.kind c.args.credits.items c.args.plus)) (W.Int c.in-Int.digits) digits _ c.in-Int.is refl refl large;
    }
