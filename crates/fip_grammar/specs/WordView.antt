-- What a token of the code stands for.
use Rattle.std.specs.Prelude.{List, map}
use Rattle.fip_grammar.specs.declared.token.Word.{Word}
use Rattle.fip_grammar.specs.declared.token.Word.TheVariants as W
use Rattle.fip_grammar.specs.declared.token.Token.{Token}
use Rattle.fip_grammar.specs.Token as T

abbrev pub word : Word → T.Word
word (W.Lower text) = T.Lower text.now
word (W.Upper text) = T.Upper text.now
word (W.Int text) = T.Number text.now
word (W.Operator operator) = T.Operate operator
word (W.Sign sign) = T.Mark sign

abbrev pub token : Token → T.Token
token t = T.token (word t.word) t.place

abbrev pub tokens : List Token → List T.Token
tokens ts = map token ts
