use Rattle.std.proofs.Common.{arith}
use Rattle.value_text.proofs.Results.{take_zeros, credit_result}
use Rattle.value_text.proofs.build.add_credit.Goals as goal

pub returns-in-Ok-clause-made : goal.returns-in-Ok-clause-made
returns-in-Ok-clause-made c = credit_result c.args.size c.args.loader.now c.push_cell.new.loader c.args.words.now.items c.push_word.new.words.items c.in-Ok.word _ c.push_word.result (take_zeros c.args.size 16 (let h = c.if-k-gt-MOST_FIELDS.false in omega (arith, h))) c.in-Ok.ensures.made c.push_word.ensures.words
