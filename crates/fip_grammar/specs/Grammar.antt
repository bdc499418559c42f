-- The grammar: a program is spelled by tokens. Each relation says that the tokens ts are those of a tree and then
-- rest, by cases on the tree. { } is any number of times, [ ] is once or not at all.
--
--   program = { decl }
--   decl    = "data" lower [ "[" lower { "," lower } "]" ] "{" ctor { ";" ctor } [ ";" ] "}"
--           | [ ( "fip" | "fbip" ) { "+" INT } ] "fun" lower [ "[" stat { "," stat } "]" ]
--             "(" [ param { "," param } ] ")" ":" result "{" block "}"
--   ctor    = Upper [ "(" type { "," type } ")" ]
--   type    = "int" | lower [ "[" type { "," type } "]" ]
--   stat    = lower [ ":" "fun" "(" [ mtype { "," mtype } ] ")" ":" result ]
--   mtype   = [ "^" ] type
--   param   = [ "^" ] lower ":" type
--   result  = type | "(" type "," type { "," type } ")"
--   block   = "let" binder "=" simple ";" block | simple
--   binder  = bind | "(" bind "," bind { "," bind } ")"
--   bind    = ( lower | "_" ) [ ":" type ]
--   simple  = sum [ ( "==" | "!=" | "<" | "<=" | ">" | ">=" ) sum ]
--   sum     = product { ( "+" | "-" ) product }
--   product = unit { ( "*" | "/" | "%" ) unit }
--   unit    = [ "-" ] INT | lower | lower [ "[" type { "," type } "]" ] "(" [ simple { "," simple } ] ")"
--           | Upper [ "(" simple { "," simple } ")" ] | "(" block ")" | "(" simple "," simple { "," simple } ")"
--           | ( "match" | "match!" ) simple "{" clause { ";" clause } [ ";" ] "}"
--           | "if" simple "{" block "}" "else" "{" block "}"
--   clause  = pat "->" block
--   pat     = "_" | lower | [ "-" ] INT | Upper [ "(" pat { "," pat } ")" ]
--
-- Sums and products group to the left.
use Rattle.std.specs.Prelude.{◌≡◌, ℕ, ℤ, pos, neg_ℤ, suc, ◌≤◌, Bool, true, false, List, [], ◌∷◌, Option, Some, None}
use Rattle.std.specs.Prelude.{◌⊎◌}
use Rattle.fip_language.specs.declared.Place.{Place}
use Rattle.fip_language.specs.declared.FunKind.{FunKind}
use Rattle.fip_language.specs.declared.FunKind.TheVariants as K
use Rattle.fip_language.specs.declared.CreditMark.{CreditMark}
use Rattle.fip_language.specs.declared.Operator.{Operator}
use Rattle.fip_language.specs.declared.Operator.TheVariants as O
use Rattle.fip_language.specs.Core.{Name, Written, WrittenInt, WrittenName, Writtens, NoWritten, MoreWritten, Result}
use Rattle.fip_language.specs.Core.{OneResult, TupleResult, SignatureParameter, Static, TypeParameter}
use Rattle.fip_language.specs.Core.{FunctionParameter, TypeName, DataConstructor, Data}
use Rattle.fip_language.specs.Surface.{Bind, Pattern, Wildcard, VariablePattern, LiteralPattern, ConstructorPattern}
use Rattle.fip_language.specs.Surface.{Patterns, NoPatterns, MorePatterns, Expression, Variable, Literal, Call}
use Rattle.fip_language.specs.Surface.{Constructor, Bracket, Tuple, Match, If, Binary, Expressions, NoExpressions}
use Rattle.fip_language.specs.Surface.{MoreExpressions, Block, Last, Let, Clauses, NoClauses, MoreClauses, Parameter}
use Rattle.fip_language.specs.Surface.{Function, Declaration, DataDeclaration, FunctionDeclaration, Program}
use Rattle.fip_grammar.specs.declared.Sign.{Sign}
use Rattle.fip_grammar.specs.declared.Sign.TheVariants as S
use Rattle.fip_grammar.specs.Token.{Lower, Upper, Number, Operate, Mark, Token, token, value_of}

-- this sign, wherever it is, and then rest
abbrev pub Sees : Sign → List Token → List Token → Type 0
Sees s ts rest = (p : Place) × (ts ≡ token (Mark s) p ∷ rest)

-- this sign or nothing
abbrev pub MaySee : Sign → List Token → List Token → Type 0
MaySee s ts rest = (ts ≡ rest) ⊎ Sees s ts rest

abbrev mutual
  pub Type' : List Token → Written → List Token → Type 0
  Type' ts (WrittenInt p) rest = ts ≡ token (Mark S.Int) p ∷ rest
  Type' ts (WrittenName n p args) rest = (after : List Token) × (ts ≡ token (Lower n) p ∷ after)
      × TypeArguments after args rest

  -- none, or some in square brackets
  pub TypeArguments : List Token → Writtens → List Token → Type 0
  TypeArguments ts NoWritten rest = ts ≡ rest
  TypeArguments ts (MoreWritten t more) rest = (inner : List Token) × (after : List Token) × Sees S.SquareOpen ts inner
      × Type' inner t after × FurtherTypes S.SquareClose after more rest

  -- further ones after a comma each, and then this closing sign
  pub FurtherTypes : Sign → List Token → Writtens → List Token → Type 0
  FurtherTypes close ts NoWritten rest = Sees close ts rest
  FurtherTypes close ts (MoreWritten t more) rest = (inner : List Token) × (after : List Token) × Sees S.Comma ts inner
      × Type' inner t after × FurtherTypes close after more rest

-- the same of a list
abbrev pub FurtherTypeList : Sign → List Token → List Written → List Token → Type 0
FurtherTypeList close ts [] rest = Sees close ts rest
FurtherTypeList close ts (t ∷ more) rest = (inner : List Token) × (after : List Token) × Sees S.Comma ts inner
    × Type' inner t after × FurtherTypeList close after more rest

-- A literal, whose place is its minus's where it has one.
abbrev pub IsLiteral : List Token → ℤ → Place → List Token → Type 0
IsLiteral ts v p rest =
    ((digits : List ℕ) × (ts ≡ token (Number digits) p ∷ rest) × (v ≡ pos (value_of digits)))
    ⊎ ((digits : List ℕ) × (q : Place) × (ts ≡ token (Operate O.Subtract) p ∷ token (Number digits) q ∷ rest)
    × (v ≡ neg_ℤ (pos (value_of digits))))

abbrev mutual
  pub Pattern' : List Token → Pattern → List Token → Type 0
  Pattern' ts (Wildcard p) rest = ts ≡ token (Mark S.Underscore) p ∷ rest
  Pattern' ts (VariablePattern n p) rest = ts ≡ token (Lower n) p ∷ rest
  Pattern' ts (LiteralPattern v p) rest = IsLiteral ts v p rest
  Pattern' ts (ConstructorPattern n p ps) rest = (after : List Token) × (ts ≡ token (Upper n) p ∷ after)
      × PatternFields after ps rest

  pub PatternFields : List Token → Patterns → List Token → Type 0
  PatternFields ts NoPatterns rest = ts ≡ rest
  PatternFields ts (MorePatterns q more) rest = (inner : List Token) × (after : List Token) × Sees S.RoundOpen ts inner
      × Pattern' inner q after × FurtherPatterns after more rest

  pub FurtherPatterns : List Token → Patterns → List Token → Type 0
  FurtherPatterns ts NoPatterns rest = Sees S.RoundClose ts rest
  FurtherPatterns ts (MorePatterns q more) rest = (inner : List Token) × (after : List Token) × Sees S.Comma ts inner
      × Pattern' inner q after × FurtherPatterns after more rest

-- a name or _
abbrev pub BindName : List Token → Name → Place → List Token → Type 0
BindName ts n p rest = (ts ≡ token (Lower n) p ∷ rest) ⊎ ((ts ≡ token (Mark S.Underscore) p ∷ rest) × (n ≡ 95 ∷ []))

abbrev pub Annotation : List Token → Option Written → List Token → Type 0
Annotation ts None rest = ts ≡ rest
Annotation ts (Some t) rest = (inner : List Token) × Sees S.Colon ts inner × Type' inner t rest

abbrev pub Bind' : List Token → Bind → List Token → Type 0
Bind' ts b rest = (after : List Token) × BindName ts b.name b.place after × Annotation after b.annotation rest

abbrev pub FurtherBinds : List Token → List Bind → List Token → Type 0
FurtherBinds ts [] rest = Sees S.RoundClose ts rest
FurtherBinds ts (b ∷ bs) rest = (inner : List Token) × (after : List Token) × Sees S.Comma ts inner
    × Bind' inner b after × FurtherBinds after bs rest

abbrev pub Binder' : List Token → List Bind → List Token → Type 0
Binder' ts [] rest = ⊥
Binder' ts (b ∷ []) rest = Bind' ts b rest
Binder' ts (b ∷ c ∷ bs) rest = (inner : List Token) × (after : List Token) × Sees S.RoundOpen ts inner
    × Bind' inner b after × FurtherBinds after (c ∷ bs) rest

-- How tightly an operator binds: comparisons 0, sums 1, products 2.
abbrev pub tightness : Operator → ℕ
tightness O.Add = 1
tightness O.Subtract = 1
tightness O.Multiply = 2
tightness O.Divide = 2
tightness O.Remainder = 2
tightness _ = 0

-- How tightly at least an operator's left operand binds: a comparison's operands are sums, and sums and products
-- group to the left.
abbrev pub left_tightness : Operator → ℕ
left_tightness O.Add = 1
left_tightness O.Subtract = 1
left_tightness O.Multiply = 2
left_tightness O.Divide = 2
left_tightness O.Remainder = 2
left_tightness _ = 1

abbrev pub match_sign : Bool → Sign
match_sign true = S.MatchBang
match_sign false = S.Match

abbrev mutual
  -- An expression that binds at least so tightly: 0 is a simple expression, 1 a sum, 2 a product, 3 a unit.
  pub Spelled : ℕ → List Token → Expression → List Token → Type 0
  Spelled k ts (Variable n p) rest = ts ≡ token (Lower n) p ∷ rest
  Spelled k ts (Literal v p) rest = IsLiteral ts v p rest
  Spelled k ts (Call n p statics args) rest = (after : List Token) × (inner : List Token) × (open' : List Token)
      × (ts ≡ token (Lower n) p ∷ after) × TypeArguments after statics inner × Sees S.RoundOpen inner open'
      × Arguments open' args rest
  Spelled k ts (Constructor n p args) rest = (after : List Token) × (ts ≡ token (Upper n) p ∷ after)
      × Fields after args rest
  Spelled k ts (Bracket b) rest = (inner : List Token) × (after : List Token) × Sees S.RoundOpen ts inner
      × Block' inner b after × Sees S.RoundClose after rest
  Spelled k ts (Tuple p NoExpressions) rest = ⊥
  Spelled k ts (Tuple p (MoreExpressions e NoExpressions)) rest = ⊥
  Spelled k ts (Tuple p (MoreExpressions e (MoreExpressions e' es))) rest = (inner : List Token) × (after : List Token)
      × (ts ≡ token (Mark S.RoundOpen) p ∷ inner) × Spelled 0 inner e after × Further after (MoreExpressions e' es) rest
  Spelled k ts (Match destructive p e cs) rest = (after : List Token) × (open' : List Token) × (inner : List Token)
      × (ts ≡ token (Mark (match_sign destructive)) p ∷ after) × Spelled 0 after e open' × Sees S.CurlyOpen open' inner
      × Clauses' inner cs rest
  Spelled k ts (If p e one other) rest = (after : List Token) × (open' : List Token) × (inner : List Token)
      × (close : List Token) × (keyword : List Token) × (reopen : List Token) × (again : List Token)
      × (end : List Token)
      × (ts ≡ token (Mark S.If) p ∷ after) × Spelled 0 after e open' × Sees S.CurlyOpen open' inner
      × Block' inner one close × Sees S.CurlyClose close keyword × Sees S.Else keyword reopen
      × Sees S.CurlyOpen reopen again × Block' again other end × Sees S.CurlyClose end rest
  Spelled k ts (Binary op p l r) rest = (mid : List Token) × (after : List Token) × (k ≤ tightness op)
      × Spelled (left_tightness op) ts l mid × (mid ≡ token (Operate op) p ∷ after)
      × Spelled (suc (tightness op)) after r rest

  -- arguments of a call after its bracket
  pub Arguments : List Token → Expressions → List Token → Type 0
  Arguments ts NoExpressions rest = Sees S.RoundClose ts rest
  Arguments ts (MoreExpressions e es) rest = (after : List Token) × Spelled 0 ts e after × Further after es rest

  -- no fields, or some in brackets
  pub Fields : List Token → Expressions → List Token → Type 0
  Fields ts NoExpressions rest = ts ≡ rest
  Fields ts (MoreExpressions e es) rest = (inner : List Token) × (after : List Token) × Sees S.RoundOpen ts inner
      × Spelled 0 inner e after × Further after es rest

  -- further ones after a comma each, and then the closing bracket
  pub Further : List Token → Expressions → List Token → Type 0
  Further ts NoExpressions rest = Sees S.RoundClose ts rest
  Further ts (MoreExpressions e es) rest = (inner : List Token) × (after : List Token) × Sees S.Comma ts inner
      × Spelled 0 inner e after × Further after es rest

  pub Block' : List Token → Block → List Token → Type 0
  Block' ts (Last e) rest = Spelled 0 ts e rest
  Block' ts (Let bs e b) rest = (binder : List Token) × (equals : List Token) × (bound : List Token)
      × (end : List Token) × (after : List Token) × Sees S.Let ts binder × Binder' binder bs equals
      × Sees S.Equals equals bound × Spelled 0 bound e end × Sees S.Semicolon end after × Block' after b rest

  -- the clauses of a match and its closing bracket
  pub Clauses' : List Token → Clauses → List Token → Type 0
  Clauses' ts NoClauses rest = ⊥
  Clauses' ts (MoreClauses q b cs) rest = (arrow : List Token) × (body : List Token) × (after : List Token)
      × Pattern' ts q arrow × Sees S.Arrow arrow body × Block' body b after × FurtherClauses after cs rest

  pub FurtherClauses : List Token → Clauses → List Token → Type 0
  FurtherClauses ts NoClauses rest = (after : List Token) × MaySee S.Semicolon ts after × Sees S.CurlyClose after rest
  FurtherClauses ts (MoreClauses q b cs) rest = (inner : List Token) × (arrow : List Token) × (body : List Token)
      × (after : List Token) × Sees S.Semicolon ts inner × Pattern' inner q arrow × Sees S.Arrow arrow body
      × Block' body b after × FurtherClauses after cs rest

-- one type, or two or more in brackets
abbrev pub Result' : List Token → Result → List Token → Type 0
Result' ts (OneResult t) rest = Type' ts t rest
Result' ts (TupleResult p []) rest = ⊥
Result' ts (TupleResult p (t ∷ [])) rest = ⊥
Result' ts (TupleResult p (t ∷ u ∷ us)) rest = (inner : List Token) × (after : List Token)
    × (ts ≡ token (Mark S.RoundOpen) p ∷ inner) × Type' inner t after × FurtherTypeList S.RoundClose after (u ∷ us) rest

-- a ^ just where something is borrowed
abbrev pub Lent : List Token → Bool → List Token → Type 0
Lent ts true rest = Sees S.Caret ts rest
Lent ts false rest = ts ≡ rest

abbrev pub SignatureParameter' : List Token → SignatureParameter → List Token → Type 0
SignatureParameter' ts p rest = (inner : List Token) × Lent ts p.lent inner × Type' inner p.type rest

abbrev pub FurtherSignatureParameters : List Token → List SignatureParameter → List Token → Type 0
FurtherSignatureParameters ts [] rest = Sees S.RoundClose ts rest
FurtherSignatureParameters ts (p ∷ ps) rest = (inner : List Token) × (after : List Token) × Sees S.Comma ts inner
    × SignatureParameter' inner p after × FurtherSignatureParameters after ps rest

abbrev pub SignatureParameters : List Token → List SignatureParameter → List Token → Type 0
SignatureParameters ts [] rest = Sees S.RoundClose ts rest
SignatureParameters ts (p ∷ ps) rest = (after : List Token) × SignatureParameter' ts p after
    × FurtherSignatureParameters after ps rest

-- a function parameter's signature
abbrev pub Signature' : List Token → List SignatureParameter → Result → List Token → Type 0
Signature' ts ps r rest = (keyword : List Token) × (open' : List Token) × (inner : List Token) × (colon : List Token)
    × (after : List Token) × Sees S.Colon ts keyword × Sees S.Fun keyword open' × Sees S.RoundOpen open' inner
    × SignatureParameters inner ps colon × Sees S.Colon colon after × Result' after r rest

abbrev pub Static' : List Token → Static → List Token → Type 0
Static' ts (TypeParameter n p) rest = ts ≡ token (Lower n) p ∷ rest
Static' ts (FunctionParameter n p ps r) rest = (after : List Token) × (ts ≡ token (Lower n) p ∷ after)
    × Signature' after ps r rest

abbrev pub FurtherStatics : List Token → List Static → List Token → Type 0
FurtherStatics ts [] rest = Sees S.SquareClose ts rest
FurtherStatics ts (s ∷ ss) rest = (inner : List Token) × (after : List Token) × Sees S.Comma ts inner
    × Static' inner s after × FurtherStatics after ss rest

-- none, or some in square brackets
abbrev pub Statics : List Token → List Static → List Token → Type 0
Statics ts [] rest = ts ≡ rest
Statics ts (s ∷ ss) rest = (inner : List Token) × (after : List Token) × Sees S.SquareOpen ts inner
    × Static' inner s after × FurtherStatics after ss rest

abbrev pub Parameter' : List Token → Parameter → List Token → Type 0
Parameter' ts p rest = (name : List Token) × (colon : List Token) × (after : List Token) × Lent ts p.lent name
    × (name ≡ token (Lower p.name) p.place ∷ colon) × Sees S.Colon colon after × Type' after p.type rest

abbrev pub FurtherParameters : List Token → List Parameter → List Token → Type 0
FurtherParameters ts [] rest = Sees S.RoundClose ts rest
FurtherParameters ts (p ∷ ps) rest = (inner : List Token) × (after : List Token) × Sees S.Comma ts inner
    × Parameter' inner p after × FurtherParameters after ps rest

abbrev pub Parameters : List Token → List Parameter → List Token → Type 0
Parameters ts [] rest = Sees S.RoundClose ts rest
Parameters ts (p ∷ ps) rest = (after : List Token) × Parameter' ts p after × FurtherParameters after ps rest

-- marks of credits: a + and a literal each
abbrev pub Credits : List Token → List CreditMark → List Token → Type 0
Credits ts [] rest = ts ≡ rest
Credits ts (c ∷ cs) rest = (size : List Token) × (after : List Token) × (digits : List ℕ)
    × (ts ≡ token (Operate O.Add) c.place ∷ size) × (size ≡ token (Number digits) c.size_place ∷ after)
    × (c.size ≡ value_of digits) × Credits after cs rest

-- fip or fbip and then marks of credits, or nothing
abbrev pub Kind' : List Token → FunKind → List CreditMark → List Token → Type 0
Kind' ts K.Fip cs rest = (after : List Token) × Sees S.Fip ts after × Credits after cs rest
Kind' ts K.Fbip cs rest = (after : List Token) × Sees S.Fbip ts after × Credits after cs rest
Kind' ts K.Fun [] rest = ts ≡ rest
Kind' ts K.Fun (c ∷ cs) rest = ⊥

-- a function from after its name on
abbrev pub FunctionParts : List Token → List Static → List Parameter → Result → Block → List Token → Type 0
FunctionParts ts ss ps r b rest = (open' : List Token) × (inner : List Token) × (colon : List Token)
    × (type' : List Token) × (brace : List Token) × (body : List Token) × (close : List Token) × Statics ts ss open'
    × Sees S.RoundOpen open' inner × Parameters inner ps colon × Sees S.Colon colon type' × Result' type' r brace
    × Sees S.CurlyOpen brace body × Block' body b close × Sees S.CurlyClose close rest

abbrev pub Function' : List Token → Function → List Token → Type 0
Function' ts f rest = (keyword : List Token) × (name : List Token) × (after : List Token)
    × Kind' ts f.kind f.credits keyword × Sees S.Fun keyword name × (name ≡ token (Lower f.name) f.place ∷ after)
    × FunctionParts after f.statics f.parameters f.result f.body rest

abbrev pub FurtherTypeNames : List Token → List TypeName → List Token → Type 0
FurtherTypeNames ts [] rest = Sees S.SquareClose ts rest
FurtherTypeNames ts (n ∷ ns) rest = (inner : List Token) × (after : List Token) × Sees S.Comma ts inner
    × (inner ≡ token (Lower n.name) n.place ∷ after) × FurtherTypeNames after ns rest

-- none, or some in square brackets
abbrev pub TypeNames : List Token → List TypeName → List Token → Type 0
TypeNames ts [] rest = ts ≡ rest
TypeNames ts (n ∷ ns) rest = (inner : List Token) × (after : List Token) × Sees S.SquareOpen ts inner
    × (inner ≡ token (Lower n.name) n.place ∷ after) × FurtherTypeNames after ns rest

-- none, or some in brackets
abbrev pub FieldTypes : List Token → List Written → List Token → Type 0
FieldTypes ts [] rest = ts ≡ rest
FieldTypes ts (t ∷ more) rest = (inner : List Token) × (after : List Token) × Sees S.RoundOpen ts inner
    × Type' inner t after × FurtherTypeList S.RoundClose after more rest

abbrev pub DataConstructor' : List Token → DataConstructor → List Token → Type 0
DataConstructor' ts c rest = (after : List Token) × (ts ≡ token (Upper c.name) c.place ∷ after)
    × FieldTypes after c.fields rest

abbrev pub FurtherConstructors : List Token → List DataConstructor → List Token → Type 0
FurtherConstructors ts [] rest = (after : List Token) × MaySee S.Semicolon ts after × Sees S.CurlyClose after rest
FurtherConstructors ts (c ∷ cs) rest = (inner : List Token) × (after : List Token) × Sees S.Semicolon ts inner
    × DataConstructor' inner c after × FurtherConstructors after cs rest

abbrev pub DataConstructors : List Token → List DataConstructor → List Token → Type 0
DataConstructors ts [] rest = ⊥
DataConstructors ts (c ∷ cs) rest = (after : List Token) × DataConstructor' ts c after
    × FurtherConstructors after cs rest

abbrev pub Data' : List Token → Data → List Token → Type 0
Data' ts d rest = (name : List Token) × (after : List Token) × (brace : List Token) × (inner : List Token)
    × Sees S.Data ts name × (name ≡ token (Lower d.name) d.place ∷ after) × TypeNames after d.parameters brace
    × Sees S.CurlyOpen brace inner × DataConstructors inner d.constructors rest

abbrev pub Declaration' : List Token → Declaration → List Token → Type 0
Declaration' ts (DataDeclaration d) rest = Data' ts d rest
Declaration' ts (FunctionDeclaration f) rest = Function' ts f rest

-- the tokens are those of the program
abbrev pub Spells : List Token → Program → Type 0
Spells ts [] = ts ≡ []
Spells ts (d ∷ ds) = (after : List Token) × Declaration' ts d after × Spells after ds
