-- What completes a state of the machine, by the grammar's own words: the tokens ts are what the open declaration
-- lacks, and then further declarations; ds is that declaration and those.
use Rattle.std.proofs.Common.{◌≡◌, ℕ, pos, neg_ℤ, suc, true, List, [], ◌∷◌, ◌++◌, Option, Some, None, ◌⊎◌}
use Rattle.fip_language.specs.declared.Place.{Place}
use Rattle.fip_language.specs.declared.FunKind.{FunKind}
use Rattle.fip_language.specs.declared.CreditMark.{CreditMark}
use Rattle.fip_language.specs.declared.Operator.{Operator}
use Rattle.fip_language.specs.Core.{Name, Written, WrittenName, Writtens, NoWritten, MoreWritten, Result, OneResult, TupleResult, SignatureParameter, Static, TypeParameter, TypeName, DataConstructor, Data}
use Rattle.fip_language.specs.Surface.{Bind, Pattern, LiteralPattern, ConstructorPattern, Patterns, MorePatterns, Expression, Variable, Literal, Call, Constructor, Bracket, Tuple, Match, If, Binary, Expressions, MoreExpressions, Block, Last, Let, Clauses, NoClauses, MoreClauses, Parameter, Declaration, DataDeclaration, FunctionDeclaration}
use Rattle.fip_grammar.specs.declared.Sign.TheVariants as S
use Rattle.fip_grammar.specs.Token.{Lower, Number, Operate, Token, token, value_of}
use Rattle.fip_grammar.specs.Grammar.{Sees, Type', TypeArguments, FurtherTypes, FurtherTypeList, Pattern', PatternFields, FurtherPatterns, Annotation, Bind', FurtherBinds, Binder', tightness, Spelled, Arguments, Fields, Further, Block', Clauses', FurtherClauses, Result', SignatureParameter', FurtherSignatureParameters, SignatureParameters, Static', FurtherStatics, Statics, Parameter', FurtherParameters, Parameters, Credits, FurtherTypeNames, TypeNames, FieldTypes, DataConstructor', FurtherConstructors, Spells}
use Rattle.fip_grammar.specs.Machine.{Binding, onto_types, onto_patterns, onto_expressions, onto_block, onto_clauses, FunctionHead, SignatureHead, ResultOwner, OfSignature, OfFunction, FunctionHeading, FunctionKeyword, CreditSize, FunctionName, FunctionStart, StaticName, StaticStart, SignatureKeyword, SignatureOpen, SignatureFirst, SignatureNext, SignatureColon, ResultStart, StaticEnd, ParametersOpen, ParameterFirst, ParameterNext, ParameterName, ParameterColon, ResultColon, BodyOpen, DataHeading, DataName, DataStart, DataParameter, DataParameterEnd, DataOpen, ConstructorFirst, ConstructorNext, ConstructorStart, ConstructorEnd, Pending, Waiting, Opener, MatchOpener, IfOpener, OpenMatch, Use, ForArguments, ForFields, ForParenthesis, ForBracket, ForTuple, ForClause, ForYes, ForNo, Level, Body, Binds, Alone, Bracketed, BodyPosition, AtBlock, LetStart, BindStart, BindNamed, LetEquals, AtOperand, LowerName, CallOpen, ArgumentFirst, UpperName, Minus, Parenthesis, AtOperator, ClauseNext, Else, ElseOpen, OpenType, TypePosition, TypeWanted, TypeNamed, TypeDone, TypeUse, ForField, ForSignatureParameter, ForParameter, ForResult, ForResultPart, ForAnnotation, ForStaticArgument, OpenPattern, PatternPosition, PatternWanted, PatternMinus, PatternNamed, PatternDone, State, Top, InFunction, InData, InType, InPattern, InBody, Next, Refused, Stays, Declares, with_static, with_parameter, with_signature_parameter, with_signature, with_type_name, with_constructor, bound_of, credit, applied, last_of, function_of}

abbrev pub Declared : Declaration → List Token → List Declaration → Type 0
Declared d ts ds = (more : List Declaration) × (ds ≡ d ∷ more) × Spells ts more

abbrev pub AtLeastTwo : {A : Type 0} → List A → Type 0
AtLeastTwo [] = ⊥
AtLeastTwo (x ∷ []) = ⊥
AtLeastTwo (x ∷ y ∷ more) = Unit {0}

-- Functions, from the end on.

abbrev pub EndBody : FunctionHead → Result → Block → List Token → List Declaration → Type 0
EndBody h r b ts ds = (rest : List Token) × Sees S.CurlyClose ts rest × Declared (FunctionDeclaration (function_of h r b)) rest ds

abbrev pub FromBrace : FunctionHead → Result → List Token → List Declaration → Type 0
FromBrace h r ts ds = (body : List Token) × (b : Block) × (close : List Token) × Sees S.CurlyOpen ts body × Block' body b close × EndBody h r b close ds

abbrev pub FromColon : FunctionHead → List Token → List Declaration → Type 0
FromColon h ts ds = (t : List Token) × (r : Result) × (brace : List Token) × Sees S.Colon ts t × Result' t r brace × FromBrace h r brace ds

abbrev pub more_parameters : FunctionHead → List Parameter → FunctionHead
more_parameters h ps = record h { parameters = h.parameters ++ ps }

abbrev pub more_statics : FunctionHead → List Static → FunctionHead
more_statics h ss = record h { statics = h.statics ++ ss }

abbrev pub AfterParameter : FunctionHead → List Token → List Declaration → Type 0
AfterParameter h ts ds = (ps : List Parameter) × (colon : List Token) × FurtherParameters ts ps colon × FromColon (more_parameters h ps) colon ds

abbrev pub FromParameters : FunctionHead → List Token → List Declaration → Type 0
FromParameters h ts ds = (ps : List Parameter) × (colon : List Token) × Parameters ts ps colon × FromColon (more_parameters h ps) colon ds

abbrev pub FromParameter : FunctionHead → List Token → List Declaration → Type 0
FromParameter h ts ds = (q : Parameter) × (after : List Token) × Parameter' ts q after × AfterParameter (with_parameter h q) after ds

abbrev pub FromOpen : FunctionHead → List Token → List Declaration → Type 0
FromOpen h ts ds = (inner : List Token) × Sees S.RoundOpen ts inner × FromParameters h inner ds

abbrev pub AfterStatic : FunctionHead → List Token → List Declaration → Type 0
AfterStatic h ts ds = (ss : List Static) × (open' : List Token) × FurtherStatics ts ss open' × FromOpen (more_statics h ss) open' ds

abbrev pub FromStatic : FunctionHead → List Token → List Declaration → Type 0
FromStatic h ts ds = (s : Static) × (after : List Token) × Static' ts s after × AfterStatic (with_static h s) after ds

abbrev pub FromStart : FunctionHead → List Token → List Declaration → Type 0
FromStart h ts ds = (ss : List Static) × (open' : List Token) × Statics ts ss open' × FromOpen (more_statics h ss) open' ds

abbrev pub AfterResult : ResultOwner → Result → List Token → List Declaration → Type 0
AfterResult (OfFunction h) r ts ds = FromBrace h r ts ds
AfterResult (OfSignature h g) r ts ds = AfterStatic (with_signature h g r) ts ds

abbrev pub FromResult : ResultOwner → List Token → List Declaration → Type 0
FromResult o ts ds = (r : Result) × (after : List Token) × Result' ts r after × AfterResult o r after ds

abbrev pub more_signature : SignatureHead → List SignatureParameter → SignatureHead
more_signature g ps = record g { parameters = g.parameters ++ ps }

abbrev pub SignatureColonFrom : FunctionHead → SignatureHead → List Token → List Declaration → Type 0
SignatureColonFrom h g ts ds = (t : List Token) × Sees S.Colon ts t × FromResult (OfSignature h g) t ds

abbrev pub AfterSignatureParameter : FunctionHead → SignatureHead → List Token → List Declaration → Type 0
AfterSignatureParameter h g ts ds = (ps : List SignatureParameter) × (colon : List Token) × FurtherSignatureParameters ts ps colon × SignatureColonFrom h (more_signature g ps) colon ds

abbrev pub FromSignatureParameters : FunctionHead → SignatureHead → List Token → List Declaration → Type 0
FromSignatureParameters h g ts ds = (ps : List SignatureParameter) × (colon : List Token) × SignatureParameters ts ps colon × SignatureColonFrom h (more_signature g ps) colon ds

abbrev pub FromSignatureParameter : FunctionHead → SignatureHead → List Token → List Declaration → Type 0
FromSignatureParameter h g ts ds = (q : SignatureParameter) × (after : List Token) × SignatureParameter' ts q after × AfterSignatureParameter h (with_signature_parameter g q) after ds

abbrev pub SignatureOpenFrom : FunctionHead → SignatureHead → List Token → List Declaration → Type 0
SignatureOpenFrom h g ts ds = (inner : List Token) × Sees S.RoundOpen ts inner × FromSignatureParameters h g inner ds

abbrev pub SignatureKeywordFrom : FunctionHead → SignatureHead → List Token → List Declaration → Type 0
SignatureKeywordFrom h g ts ds = (o : List Token) × Sees S.Fun ts o × SignatureOpenFrom h g o ds

abbrev pub new_signature : Name → Place → SignatureHead
new_signature n q = record { name = n; place = q; parameters = [] }

abbrev pub FromStaticStart : FunctionHead → Name → Place → List Token → List Declaration → Type 0
FromStaticStart h n q ts ds = AfterStatic (with_static h (TypeParameter n q)) ts ds ⊎ ((k : List Token) × Sees S.Colon ts k × SignatureKeywordFrom h (new_signature n q) k ds)

abbrev pub new_head : FunKind → List CreditMark → Name → Place → FunctionHead
new_head k cs n p = record { kind = k; credits = cs; name = n; place = p; statics = []; parameters = [] }

abbrev pub FunctionNameFrom : FunKind → List CreditMark → List Token → List Declaration → Type 0
FunctionNameFrom k cs ts ds = (n : Name) × (p : Place) × (after : List Token) × (ts ≡ token (Lower n) p ∷ after) × FromStart (new_head k cs n p) after ds

abbrev pub FromKeyword : FunKind → List CreditMark → List Token → List Declaration → Type 0
FromKeyword k cs ts ds = (more : List CreditMark) × (keyword : List Token) × (name : List Token) × Credits ts more keyword × Sees S.Fun keyword name × FunctionNameFrom k (cs ++ more) name ds

abbrev pub FromCreditSize : FunKind → List CreditMark → Place → List Token → List Declaration → Type 0
FromCreditSize k cs p ts ds = (digits : List ℕ) × (q : Place) × (after : List Token) × (ts ≡ token (Number digits) q ∷ after) × FromKeyword k (cs ++ credit p q digits ∷ []) after ds

abbrev pub InFunctionFrom : FunctionHeading → List Token → List Declaration → Type 0
InFunctionFrom (FunctionKeyword k cs) ts ds = FromKeyword k cs ts ds
InFunctionFrom (CreditSize k cs p) ts ds = FromCreditSize k cs p ts ds
InFunctionFrom (FunctionName k cs) ts ds = FunctionNameFrom k cs ts ds
InFunctionFrom (FunctionStart h) ts ds = FromStart h ts ds
InFunctionFrom (StaticName h) ts ds = FromStatic h ts ds
InFunctionFrom (StaticStart h n q) ts ds = FromStaticStart h n q ts ds
InFunctionFrom (SignatureKeyword h g) ts ds = SignatureKeywordFrom h g ts ds
InFunctionFrom (SignatureOpen h g) ts ds = SignatureOpenFrom h g ts ds
InFunctionFrom (SignatureFirst h g) ts ds = FromSignatureParameters h g ts ds
InFunctionFrom (SignatureNext h g) ts ds = FromSignatureParameter h g ts ds
InFunctionFrom (SignatureColon h g) ts ds = SignatureColonFrom h g ts ds
InFunctionFrom (ResultStart o) ts ds = FromResult o ts ds
InFunctionFrom (StaticEnd h) ts ds = AfterStatic h ts ds
InFunctionFrom (ParametersOpen h) ts ds = FromOpen h ts ds
InFunctionFrom (ParameterFirst h) ts ds = FromParameters h ts ds
InFunctionFrom (ParameterNext h) ts ds = FromParameter h ts ds
InFunctionFrom (ParameterName h) ts ds = (n : Name) × (p : Place) × (colon : List Token) × (t : List Token) × (w : Written) × (after : List Token) × (ts ≡ token (Lower n) p ∷ colon) × Sees S.Colon colon t × Type' t w after × AfterParameter (with_parameter h (record { lent = true; name = n; place = p; type = w })) after ds
InFunctionFrom (ParameterColon h lent n p) ts ds = (t : List Token) × (w : Written) × (after : List Token) × Sees S.Colon ts t × Type' t w after × AfterParameter (with_parameter h (record { lent = lent; name = n; place = p; type = w })) after ds
InFunctionFrom (ResultColon h) ts ds = FromColon h ts ds
InFunctionFrom (BodyOpen h r) ts ds = FromBrace h r ts ds

-- Data types.

abbrev pub more_constructors : Data → List DataConstructor → Data
more_constructors d cs = record d { constructors = d.constructors ++ cs }

abbrev pub more_names : Data → List TypeName → Data
more_names d ns = record d { parameters = d.parameters ++ ns }

abbrev pub AfterConstructor : Data → List Token → List Declaration → Type 0
AfterConstructor d ts ds = (cs : List DataConstructor) × (rest : List Token) × FurtherConstructors ts cs rest × Declared (DataDeclaration (more_constructors d cs)) rest ds

abbrev pub FromConstructor : Data → List Token → List Declaration → Type 0
FromConstructor d ts ds = (c : DataConstructor) × (after : List Token) × DataConstructor' ts c after × AfterConstructor (with_constructor d c) after ds

abbrev pub FromDataBrace : Data → List Token → List Declaration → Type 0
FromDataBrace d ts ds = (inner : List Token) × Sees S.CurlyOpen ts inner × FromConstructor d inner ds

abbrev pub AfterTypeName : Data → List Token → List Declaration → Type 0
AfterTypeName d ts ds = (ns : List TypeName) × (brace : List Token) × FurtherTypeNames ts ns brace × FromDataBrace (more_names d ns) brace ds

abbrev pub FromTypeName : Data → List Token → List Declaration → Type 0
FromTypeName d ts ds = (n : TypeName) × (after : List Token) × (ts ≡ token (Lower n.name) n.place ∷ after) × AfterTypeName (with_type_name d n) after ds

abbrev pub FromDataStart : Data → List Token → List Declaration → Type 0
FromDataStart d ts ds = (ns : List TypeName) × (brace : List Token) × TypeNames ts ns brace × FromDataBrace (more_names d ns) brace ds

abbrev pub new_data : Name → Place → Data
new_data n p = record { name = n; place = p; parameters = []; constructors = [] }

abbrev pub FromDataName : List Token → List Declaration → Type 0
FromDataName ts ds = (n : Name) × (p : Place) × (after : List Token) × (ts ≡ token (Lower n) p ∷ after) × FromDataStart (new_data n p) after ds

abbrev pub new_constructor : Name → Place → List Written → DataConstructor
new_constructor n q fs = record { name = n; place = q; fields = fs }

abbrev pub InDataFrom : DataHeading → List Token → List Declaration → Type 0
InDataFrom DataName ts ds = FromDataName ts ds
InDataFrom (DataStart d) ts ds = FromDataStart d ts ds
InDataFrom (DataParameter d) ts ds = FromTypeName d ts ds
InDataFrom (DataParameterEnd d) ts ds = AfterTypeName d ts ds
InDataFrom (DataOpen d) ts ds = FromDataBrace d ts ds
InDataFrom (ConstructorFirst d) ts ds = FromConstructor d ts ds
InDataFrom (ConstructorNext d) ts ds = ((rest : List Token) × Sees S.CurlyClose ts rest × Declared (DataDeclaration d) rest ds) ⊎ FromConstructor d ts ds
InDataFrom (ConstructorStart d n q) ts ds = (fs : List Written) × (after : List Token) × FieldTypes ts fs after × AfterConstructor (with_constructor d (new_constructor n q fs)) after ds
InDataFrom (ConstructorEnd d) ts ds = AfterConstructor d ts ds

-- Operators.

-- v is extended to e by operators of tightness k
abbrev mutual
  pub Chain : ℕ → Expression → List Token → Expression → List Token → Type 0
  Chain k v ts (Binary op p l r) rest = ((Binary op p l r ≡ v) × (ts ≡ rest)) ⊎ ((mid : List Token) × (after : List Token) × (tightness op ≡ k) × Chain k v ts l mid × (mid ≡ token (Operate op) p ∷ after) × Spelled (suc k) after r rest)
  Chain k v ts (Variable n p) rest = (Variable n p ≡ v) × (ts ≡ rest)
  Chain k v ts (Literal i p) rest = (Literal i p ≡ v) × (ts ≡ rest)
  Chain k v ts (Call n p st es) rest = (Call n p st es ≡ v) × (ts ≡ rest)
  Chain k v ts (Constructor n p es) rest = (Constructor n p es ≡ v) × (ts ≡ rest)
  Chain k v ts (Bracket b) rest = (Bracket b ≡ v) × (ts ≡ rest)
  Chain k v ts (Tuple p es) rest = (Tuple p es ≡ v) × (ts ≡ rest)
  Chain k v ts (Match d p e cs) rest = (Match d p e cs ≡ v) × (ts ≡ rest)
  Chain k v ts (If p e one other) rest = (If p e one other ≡ v) × (ts ≡ rest)

-- one comparison, or none
abbrev pub Compared : Option Pending → Expression → List Token → Expression → List Token → Type 0
Compared (Some c) v ts e rest = (e ≡ applied (Some c) v) × (ts ≡ rest)
Compared None v ts e rest = ((e ≡ v) × (ts ≡ rest)) ⊎ ((op : Operator) × (p : Place) × (r : Expression) × (after : List Token) × (tightness op ≡ 0) × (ts ≡ token (Operate op) p ∷ after) × Spelled 1 after r rest × (e ≡ Binary op p v r))

-- The operand v is the last of a simple expression whose operators before it wait; the expression is e.
abbrev pub Grows : Waiting → Expression → List Token → Expression → List Token → Type 0
Grows w v ts e rest = (product : Expression) × (a : List Token) × (sum : Expression) × (b : List Token) × Chain 2 (applied w.product v) ts product a × Chain 1 (applied w.sum product) a sum b × Compared w.comparison sum b e rest

-- what is required of an operand or a whole expression and of the tokens after it
abbrev pub Then : Type 1
Then = Expression → List Token → Type 0

abbrev pub Grown : Waiting → Expression → List Token → Then → Type 0
Grown w v ts go = (e : Expression) × (rest : List Token) × Grows w v ts e rest × go e rest

-- Bodies.

abbrev pub ElseOpenFrom : Place → Expression → Block → Then → List Token → Type 0
ElseOpenFrom q c one go ts = (inner : List Token) × (other : Block) × (end : List Token) × (rest : List Token) × Sees S.CurlyOpen ts inner × Block' inner other end × Sees S.CurlyClose end rest × go (If q c one other) rest

abbrev pub ElseFrom : Place → Expression → Block → Then → List Token → Type 0
ElseFrom q c one go ts = (reopen : List Token) × Sees S.Else ts reopen × ElseOpenFrom q c one go reopen

-- the block is read of what is in a bracket
abbrev pub LevelEnds : Use → Block → Then → List Token → Type 0
LevelEnds (ForArguments n q st done) b go ts = (more : Expressions) × (rest : List Token) × Further ts more rest × go (Call n q (onto_types st NoWritten) (onto_expressions done (MoreExpressions (last_of b) more))) rest
LevelEnds (ForFields n q done) b go ts = (more : Expressions) × (rest : List Token) × Further ts more rest × go (Constructor n q (onto_expressions done (MoreExpressions (last_of b) more))) rest
LevelEnds (ForParenthesis q) b go ts = ((rest : List Token) × Sees S.RoundClose ts rest × go (Bracket b) rest) ⊎ ((x : Expression) × (more : Expressions) × (rest : List Token) × Further ts (MoreExpressions x more) rest × go (Tuple q (MoreExpressions (last_of b) (MoreExpressions x more))) rest)
LevelEnds ForBracket b go ts = (rest : List Token) × Sees S.RoundClose ts rest × go (Bracket b) rest
LevelEnds (ForTuple q done) b go ts = (more : Expressions) × (rest : List Token) × Further ts more rest × go (Tuple q (onto_expressions done (MoreExpressions (last_of b) more))) rest
LevelEnds (ForClause m q) b go ts = (cs : Clauses) × (rest : List Token) × FurtherClauses ts cs rest × go (Match m.destructive m.place m.scrutinee (onto_clauses m.clauses (MoreClauses q b cs))) rest
LevelEnds (ForYes q c) b go ts = (keyword : List Token) × Sees S.CurlyClose ts keyword × ElseFrom q c b go keyword
LevelEnds (ForNo q c one) b go ts = (rest : List Token) × Sees S.CurlyClose ts rest × go (If q c one b) rest

-- the expression is the last of a block, or is bound
abbrev pub BlockEnds : List Binding → Option (List Bind) → Expression → (Block → List Token → Type 0) → List Token → Type 0
BlockEnds lets (Some bs) e go ts = (inner : List Token) × (b : Block) × (rest : List Token) × Sees S.Semicolon ts inner × Block' inner b rest × go (onto_block lets (Let bs e b)) rest
BlockEnds lets None e go ts = go (onto_block lets (Last e)) ts

-- a simple expression is read
abbrev pub ExpressionEnds : FunctionHead → Result → List Level → List Opener → List Binding → Option (List Bind) → Expression → List Token → List Declaration → Type 0
ExpressionEnds h r ls (MatchOpener w d q ∷ os) lets bs e ts ds = (inner : List Token) × (cs : Clauses) × (rest : List Token) × Sees S.CurlyOpen ts inner × Clauses' inner cs rest × Grown w (Match d q e cs) rest (λ v after. ExpressionEnds h r ls os lets bs v after ds)
ExpressionEnds h r ls (IfOpener w q ∷ os) lets bs e ts ds = (inner : List Token) × (one : Block) × (close : List Token) × Sees S.CurlyOpen ts inner × Block' inner one close × LevelEnds (ForYes q e) one (λ v rest. Grown w v rest (λ u after. ExpressionEnds h r ls os lets bs u after ds)) close
ExpressionEnds h r [] [] lets bs e ts ds = BlockEnds lets bs e (λ b rest. EndBody h r b rest ds) ts
ExpressionEnds h r (l ∷ ls) [] lets bs e ts ds = BlockEnds lets bs e (λ b rest. LevelEnds l.purpose b (λ v after. Grown l.before.waiting v after (λ u end. ExpressionEnds h r ls l.before.openers l.before.lets l.before.binds u end ds)) rest) ts

-- an operand is read
abbrev pub AfterOperand : Body → List Declaration → Then
AfterOperand b ds v ts = Grown b.partial.waiting v ts (λ e rest. ExpressionEnds b.head b.gives b.levels b.partial.openers b.partial.lets b.partial.binds e rest ds)

abbrev pub below : FunctionHead → Result → Level → List Level → Body
below h r l ls = record { head = h; gives = r; levels = ls; partial = l.before }

-- a block is read
abbrev pub AfterBlock : FunctionHead → Result → List Level → List Declaration → Block → List Token → Type 0
AfterBlock h r [] ds b ts = EndBody h r b ts ds
AfterBlock h r (l ∷ ls) ds b ts = LevelEnds l.purpose b (AfterOperand (below h r l ls) ds) ts

abbrev pub FromOperand : Body → List Token → List Declaration → Type 0
FromOperand b ts ds = (v : Expression) × (rest : List Token) × Spelled 3 ts v rest × AfterOperand b ds v rest

abbrev pub EqualsFrom : Body → List Bind → List Token → List Declaration → Type 0
EqualsFrom b bs ts ds = (bound : List Token) × Sees S.Equals ts bound × FromOperand (bound_of b bs) bound ds

abbrev pub AfterBind : Body → Binds → Bind → List Token → List Declaration → Type 0
AfterBind b Alone x ts ds = EqualsFrom b (x ∷ []) ts ds
AfterBind b (Bracketed done) x ts ds = (more : List Bind) × (rest : List Token) × FurtherBinds ts more rest × AtLeastTwo (done ++ x ∷ more) × EqualsFrom b (done ++ x ∷ more) rest ds

abbrev pub ArgumentsFrom : Body → Name → Place → Writtens → List Token → List Declaration → Type 0
ArgumentsFrom b n q st ts ds = (args : Expressions) × (rest : List Token) × Arguments ts args rest × AfterOperand b ds (Call n q st args) rest

abbrev pub CallFrom : Body → Name → Place → Writtens → List Token → List Declaration → Type 0
CallFrom b n q st ts ds = (inner : List Token) × Sees S.RoundOpen ts inner × ArgumentsFrom b n q st inner ds

abbrev pub AfterPattern : Body → OpenMatch → Pattern → List Token → List Declaration → Type 0
AfterPattern b m q ts ds = (body : List Token) × (blk : Block) × (after : List Token) × Sees S.Arrow ts body × Block' body blk after × LevelEnds (ForClause m q) blk (AfterOperand b ds) after

abbrev pub FromClause : Body → OpenMatch → List Token → List Declaration → Type 0
FromClause b m ts ds = (q : Pattern) × (arrow : List Token) × Pattern' ts q arrow × AfterPattern b m q arrow ds

abbrev pub InBodyFrom : BodyPosition → Body → List Token → List Declaration → Type 0
InBodyFrom AtBlock b ts ds = (blk : Block) × (rest : List Token) × Block' ts blk rest × AfterBlock b.head b.gives b.levels ds (onto_block b.partial.lets blk) rest
InBodyFrom LetStart b ts ds = (bs : List Bind) × (equals : List Token) × Binder' ts bs equals × EqualsFrom b bs equals ds
InBodyFrom (BindStart done) b ts ds = (x : Bind) × (after : List Token) × Bind' ts x after × AfterBind b (Bracketed done) x after ds
InBodyFrom (BindNamed bs n q) b ts ds = (a : Option Written) × (after : List Token) × Annotation ts a after × AfterBind b bs (record { name = n; place = q; annotation = a }) after ds
InBodyFrom (LetEquals bs) b ts ds = EqualsFrom b bs ts ds
InBodyFrom AtOperand b ts ds = FromOperand b ts ds
InBodyFrom (LowerName n q) b ts ds = AfterOperand b ds (Variable n q) ts ⊎ ((st : Writtens) × (inner : List Token) × TypeArguments ts st inner × CallFrom b n q st inner ds)
InBodyFrom (CallOpen n q st) b ts ds = CallFrom b n q (onto_types st NoWritten) ts ds
InBodyFrom (ArgumentFirst n q st) b ts ds = ArgumentsFrom b n q (onto_types st NoWritten) ts ds
InBodyFrom (UpperName n q) b ts ds = (args : Expressions) × (rest : List Token) × Fields ts args rest × AfterOperand b ds (Constructor n q args) rest
InBodyFrom (Minus q) b ts ds = (digits : List ℕ) × (p : Place) × (rest : List Token) × (ts ≡ token (Number digits) p ∷ rest) × AfterOperand b ds (Literal (neg_ℤ (pos (value_of digits))) q) rest
InBodyFrom (Parenthesis q) b ts ds = ((blk : Block) × (end : List Token) × (rest : List Token) × Block' ts blk end × Sees S.RoundClose end rest × AfterOperand b ds (Bracket blk) rest) ⊎ ((e : Expression) × (after : List Token) × (x : Expression) × (more : Expressions) × (rest : List Token) × Spelled 0 ts e after × Further after (MoreExpressions x more) rest × AfterOperand b ds (Tuple q (MoreExpressions e (MoreExpressions x more))) rest)
InBodyFrom (AtOperator v) b ts ds = AfterOperand b ds v ts
InBodyFrom (ClauseNext m) b ts ds = ((rest : List Token) × Sees S.CurlyClose ts rest × AfterOperand b ds (Match m.destructive m.place m.scrutinee (onto_clauses m.clauses NoClauses)) rest) ⊎ FromClause b m ts ds
InBodyFrom (Else q c one) b ts ds = ElseFrom q c one (AfterOperand b ds) ts
InBodyFrom (ElseOpen q c one) b ts ds = ElseOpenFrom q c one (AfterOperand b ds) ts

-- Types.

abbrev pub AfterUse : TypeUse → Written → List Token → List Declaration → Type 0
AfterUse (ForField d n q fs) t ts ds = (more : List Written) × (after : List Token) × FurtherTypeList S.RoundClose ts more after × AfterConstructor (with_constructor d (new_constructor n q (fs ++ t ∷ more))) after ds
AfterUse (ForSignatureParameter h g lent) t ts ds = AfterSignatureParameter h (with_signature_parameter g (record { lent = lent; type = t })) ts ds
AfterUse (ForParameter h lent n q) t ts ds = AfterParameter (with_parameter h (record { lent = lent; name = n; place = q; type = t })) ts ds
AfterUse (ForResult o) t ts ds = AfterResult o (OneResult t) ts ds
AfterUse (ForResultPart o q parts) t ts ds = (more : List Written) × (after : List Token) × FurtherTypeList S.RoundClose ts more after × AtLeastTwo (parts ++ t ∷ more) × AfterResult o (TupleResult q (parts ++ t ∷ more)) after ds
AfterUse (ForAnnotation b bs n q) t ts ds = AfterBind b bs (record { name = n; place = q; annotation = Some t }) ts ds
AfterUse (ForStaticArgument b n q st) t ts ds = (more : Writtens) × (after : List Token) × FurtherTypes S.SquareClose ts more after × CallFrom b n q (onto_types st (MoreWritten t more)) after ds

abbrev pub AfterType : List OpenType → TypeUse → Written → List Token → List Declaration → Type 0
AfterType [] u t ts ds = AfterUse u t ts ds
AfterType (o ∷ os) u t ts ds = (more : Writtens) × (after : List Token) × FurtherTypes S.SquareClose ts more after × AfterType os u (WrittenName o.name o.place (onto_types o.done (MoreWritten t more))) after ds

abbrev pub InTypeFrom : TypePosition → List OpenType → TypeUse → List Token → List Declaration → Type 0
InTypeFrom TypeWanted o u ts ds = (t : Written) × (after : List Token) × Type' ts t after × AfterType o u t after ds
InTypeFrom (TypeNamed n q) o u ts ds = (args : Writtens) × (after : List Token) × TypeArguments ts args after × AfterType o u (WrittenName n q args) after ds
InTypeFrom (TypeDone t) o u ts ds = AfterType o u t ts ds

-- Patterns.

abbrev pub AfterPatterns : List OpenPattern → Body → OpenMatch → Pattern → List Token → List Declaration → Type 0
AfterPatterns [] b m q ts ds = AfterPattern b m q ts ds
AfterPatterns (o ∷ os) b m q ts ds = (more : Patterns) × (after : List Token) × FurtherPatterns ts more after × AfterPatterns os b m (ConstructorPattern o.name o.place (onto_patterns o.done (MorePatterns q more))) after ds

abbrev pub InPatternFrom : PatternPosition → List OpenPattern → Body → OpenMatch → List Token → List Declaration → Type 0
InPatternFrom PatternWanted o b m ts ds = (q : Pattern) × (after : List Token) × Pattern' ts q after × AfterPatterns o b m q after ds
InPatternFrom (PatternMinus q) o b m ts ds = (digits : List ℕ) × (p : Place) × (after : List Token) × (ts ≡ token (Number digits) p ∷ after) × AfterPatterns o b m (LiteralPattern (neg_ℤ (pos (value_of digits))) q) after ds
InPatternFrom (PatternNamed n q) o b m ts ds = (ps : Patterns) × (after : List Token) × PatternFields ts ps after × AfterPatterns o b m (ConstructorPattern n q ps) after ds
InPatternFrom (PatternDone x) o b m ts ds = AfterPatterns o b m x ts ds

abbrev pub From : State → List Token → List Declaration → Type 0
From Top ts ds = Spells ts ds
From (InFunction h) ts ds = InFunctionFrom h ts ds
From (InData h) ts ds = InDataFrom h ts ds
From (InType q o u) ts ds = InTypeFrom q o u ts ds
From (InPattern q o b m) ts ds = InPatternFrom q o b m ts ds
From (InBody q b) ts ds = InBodyFrom q b ts ds

-- what a token leads to can be completed so
abbrev pub Fits : Next → List Token → List Declaration → Type 0
Fits Refused ts ds = ⊥
Fits (Stays s) ts ds = From s ts ds
Fits (Declares d) ts ds = Declared d ts ds
