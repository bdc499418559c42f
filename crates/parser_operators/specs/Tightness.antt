-- How tightly an operator binds, as the grammar's machine says it.
use Rattle.fip_grammar.specs.Machine as M
use Rattle.parser_operators.specs.declared.operators.Tightness.{Tightness}
use Rattle.parser_operators.specs.declared.operators.Tightness.TheVariants as H

abbrev pub tightness : Tightness → M.Tightness
tightness H.Comparison = M.Comparison
tightness H.Sum = M.Sum
tightness H.Product = M.Product
