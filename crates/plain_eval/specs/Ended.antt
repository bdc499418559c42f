-- How an evaluation ends: just as its meaning says. A trap has its kind and its place, and the rows that are given
-- stand for the values that the meaning gives.
use Rattle.std.specs.Prelude.{◌≡◌, ℕ}
use Rattle.fip_trees.specs.fip_language.Values.{Values}
use Rattle.fip_trees.specs.fip_language.Meaning.{Answer, Gives, Trap, Out, Deep}
use Rattle.plain_rows.specs.Rows.{AreRows}
use Rattle.plain_eval.specs.declared.evaluate.PlainEnded.{PlainEnded}
use Rattle.plain_eval.specs.declared.evaluate.PlainEnded.TheVariants as E

abbrev pub IsEnd : PlainEnded → Answer → Type 0
IsEnd (E.Value rows) a = (vs : Values) × (left : ℕ) × (a ≡ Gives vs left) × AreRows rows vs
IsEnd (E.Trap kind line col) a = a ≡ Trap kind line col
IsEnd E.Out a = a ≡ Out
IsEnd E.Deep a = a ≡ Deep
