-- Each state can be completed.
use Rattle.std.proofs.Common.{ℕ, pos, neg_ℤ, Bool, true, false, List, [], ◌∷◌, ◌++◌, Option, Some, None, inl, inr, refl}
use Rattle.fip_language.specs.declared.Place.{Place}
use Rattle.fip_language.specs.declared.FunKind.{FunKind}
use Rattle.fip_language.specs.declared.CreditMark.{CreditMark}
use Rattle.fip_language.specs.Core.{Name, Written, WrittenInt, WrittenName, Writtens, NoWritten, MoreWritten, Result, OneResult, TupleResult, SignatureParameter, TypeParameter, TypeName, Data}
use Rattle.fip_language.specs.Surface.{Bind, Pattern, Wildcard, LiteralPattern, ConstructorPattern, NoPatterns, MorePatterns, Expression, Variable, Literal, Call, Constructor, Bracket, Tuple, Match, If, NoExpressions, MoreExpressions, Block, Last, Let, Clauses, NoClauses, MoreClauses, Parameter, Declaration, DataDeclaration, FunctionDeclaration}
use Rattle.fip_grammar.specs.declared.Sign.{Sign}
use Rattle.fip_grammar.specs.declared.Sign.TheVariants as S
use Rattle.fip_grammar.specs.Token.{Lower, Upper, Number, Mark, Token, token, value_of}
use Rattle.fip_grammar.specs.Grammar.{Sees, Spelled}
use Rattle.fip_grammar.specs.Machine.{Binding, FunctionHead, SignatureHead, ResultOwner, FunctionHeading, DataHeading, Pending, Waiting, Opener, OpenMatch, Use, Level, Body, Binds, BodyPosition, OpenType, TypePosition, TypeUse, OpenPattern, PatternPosition, State, OfSignature, OfFunction, FunctionKeyword, CreditSize, FunctionName, FunctionStart, StaticName, StaticStart, SignatureKeyword, SignatureOpen, SignatureFirst, SignatureNext, SignatureColon, ResultStart, StaticEnd, ParametersOpen, ParameterFirst, ParameterNext, ParameterName, ParameterColon, ResultColon, BodyOpen, DataStart, DataParameter, DataParameterEnd, DataOpen, ConstructorFirst, ConstructorNext, ConstructorStart, ConstructorEnd, MatchOpener, IfOpener, ForArguments, ForFields, ForParenthesis, ForTuple, ForClause, ForYes, ForNo, Bracketed, BindStart, BindNamed, LetEquals, LowerName, CallOpen, ArgumentFirst, UpperName, Minus, Parenthesis, AtOperator, ClauseNext, Else, ElseOpen, TypeNamed, TypeDone, ForField, ForSignatureParameter, ForParameter, ForResult, ForResultPart, ForAnnotation, ForStaticArgument, PatternMinus, PatternNamed, PatternDone, InFunction, InData, InType, InPattern, InBody, DataName, Alone, AtBlock, LetStart, AtOperand, ForBracket, TypeWanted, PatternWanted, Top, onto_types, onto_patterns, onto_expressions, onto_block, onto_clauses, credit, with_static, with_parameter, with_signature_parameter, with_signature, with_type_name, with_constructor, bound_of, applied, all_applied, last_of, function_of}
use Rattle.fip_grammar.proofs.Residual.{Declared, AtLeastTwo, EndBody, FromBrace, FromColon, more_parameters, more_statics, AfterParameter, FromParameters, FromParameter, FromOpen, AfterStatic, FromStatic, FromStart, AfterResult, FromResult, more_signature, SignatureColonFrom, AfterSignatureParameter, FromSignatureParameters, FromSignatureParameter, SignatureOpenFrom, FromStaticStart, new_head, FunctionNameFrom, FromKeyword, FromCreditSize, InFunctionFrom, more_constructors, more_names, AfterConstructor, FromConstructor, FromDataBrace, AfterTypeName, FromTypeName, FromDataStart, new_data, FromDataName, new_constructor, InDataFrom, Compared, Grown, ElseOpenFrom, ElseFrom, LevelEnds, BlockEnds, ExpressionEnds, AfterOperand, below, AfterBlock, FromOperand, EqualsFrom, AfterBind, ArgumentsFrom, CallFrom, AfterPattern, InBodyFrom, AfterUse, AfterType, InTypeFrom, AfterPatterns, InPatternFrom, From}
use Rattle.fip_grammar.proofs.Operators.{chain_none}

abbrev here : Place
here = record { line = 1; col = 1; at = 0 }

abbrev mark : Sign → Token
mark s = token (Mark s) here

-- something completes it
abbrev Alive : (List Token → List Declaration → Type 0) → Type 0
Alive P = (ts : List Token) × (ds : List Declaration) × P ts ds

abbrev zero_token : Token
zero_token = token (Number (48 ∷ [])) here

abbrev zero_expression : Expression
zero_expression = Literal (pos 0) here

abbrev zero_block : Block
zero_block = Last zero_expression

zero_spelled : (k : ℕ) (rest : List Token) → Spelled k (zero_token ∷ rest) zero_expression rest
zero_spelled k rest = inl (48 ∷ [], refl, refl)

alive_declared : (d : Declaration) → Alive (Declared d)
alive_declared d = ([], d ∷ [], ([], refl, refl))

-- the sign, and then what completes the rest
before : (s : Sign) (P : List Token → List Declaration → Type 0) → Alive P → Alive (λ ts ds. (rest : List Token) × Sees s ts rest × P rest ds)
before s P a = (mark s ∷ a.0, a.1, (a.0, (here, refl), a.2))

alive_end_body : (h : FunctionHead) (r : Result) (b : Block) → Alive (EndBody h r b)
alive_end_body h r b = before S.CurlyClose (Declared (FunctionDeclaration (function_of h r b))) (alive_declared (FunctionDeclaration (function_of h r b)))

abbrev Go : Type 1
Go = Expression → List Token → List Declaration → Type 0

alive_level : (u : Use) (b : Block) (go : Go) → ((v : Expression) → Alive (go v)) → Alive (λ ts ds. LevelEnds u b (λ v l. go v l ds) ts)
alive_level (ForArguments n q st done) b go a =
    let k = a (Call n q (onto_types st NoWritten) (onto_expressions done (MoreExpressions (last_of b) NoExpressions))) in
    (mark S.RoundClose ∷ k.0, k.1, (NoExpressions, k.0, (here, refl), k.2))
alive_level (ForFields n q done) b go a =
    let k = a (Constructor n q (onto_expressions done (MoreExpressions (last_of b) NoExpressions))) in
    (mark S.RoundClose ∷ k.0, k.1, (NoExpressions, k.0, (here, refl), k.2))
alive_level (ForParenthesis q) b go a = let k = a (Bracket b) in (mark S.RoundClose ∷ k.0, k.1, inl (k.0, (here, refl), k.2))
alive_level ForBracket b go a = let k = a (Bracket b) in (mark S.RoundClose ∷ k.0, k.1, (k.0, (here, refl), k.2))
alive_level (ForTuple q done) b go a =
    let k = a (Tuple q (onto_expressions done (MoreExpressions (last_of b) NoExpressions))) in
    (mark S.RoundClose ∷ k.0, k.1, (NoExpressions, k.0, (here, refl), k.2))
alive_level (ForClause m q) b go a =
    let k = a (Match m.destructive m.place m.scrutinee (onto_clauses m.clauses (MoreClauses q b NoClauses))) in
    (mark S.CurlyClose ∷ k.0, k.1, (NoClauses, k.0, (mark S.CurlyClose ∷ k.0, inl refl, (here, refl)), k.2))
alive_level (ForYes q e) b go a =
    let k = a (If q e b zero_block) in
    let end = mark S.CurlyClose ∷ k.0 in
    let inner = zero_token ∷ end in
    let reopen = mark S.CurlyOpen ∷ inner in
    let keyword = mark S.Else ∷ reopen in
    (mark S.CurlyClose ∷ keyword, k.1, (keyword, (here, refl), (reopen, (here, refl), (inner, zero_block, end, k.0, (here, refl), zero_spelled 0 end, (here, refl), k.2))))
alive_level (ForNo q e one) b go a = let k = a (If q e one b) in (mark S.CurlyClose ∷ k.0, k.1, (k.0, (here, refl), k.2))

pub compared_none : (o : Option Pending) (v : Expression) (ts : List Token) → Compared o v ts (applied o v) ts
compared_none None v ts = inl (refl, refl)
compared_none (Some q) v ts = (refl, refl)

alive_grown : (w : Waiting) (v : Expression) (go : Go) → ((e : Expression) → Alive (go e)) → Alive (λ ts ds. Grown w v ts (λ e rest. go e rest ds))
alive_grown w v go a =
    let k = a (all_applied w v) in
    (k.0, k.1, (all_applied w v, k.0, (applied w.product v, k.0, applied w.sum (applied w.product v), k.0, chain_none 2 (applied w.product v) k.0, chain_none 1 (applied w.sum (applied w.product v)) k.0, compared_none w.comparison (applied w.sum (applied w.product v)) k.0), k.2))

alive_block_ends : (lets : List Binding) (bs : Option (List Bind)) (e : Expression) (go : Block → List Token → List Declaration → Type 0) → ((b : Block) → Alive (go b)) → Alive (λ ts ds. BlockEnds lets bs e (λ b rest. go b rest ds) ts)
alive_block_ends lets None e go a = a (onto_block lets (Last e))
alive_block_ends lets (Some bs) e go a =
    let k = a (onto_block lets (Let bs e zero_block)) in
    (mark S.Semicolon ∷ zero_token ∷ k.0, k.1, (zero_token ∷ k.0, zero_block, k.0, (here, refl), zero_spelled 0 k.0, k.2))

abbrev one_clause : Clauses
one_clause = MoreClauses (Wildcard here) zero_block NoClauses

alive_ends : (h : FunctionHead) (r : Result) (ls : List Level) (os : List Opener) (lets : List Binding) (bs : Option (List Bind)) (e : Expression) → Alive (ExpressionEnds h r ls os lets bs e)
alive_ends h r ls (MatchOpener w d q ∷ os) lets bs e =
    let k = alive_grown w (Match d q e one_clause) (λ v. ExpressionEnds h r ls os lets bs v) (λ v. alive_ends h r ls os lets bs v) in
    let close = mark S.CurlyClose ∷ k.0 in
    let body = zero_token ∷ close in
    let arrow = mark S.Arrow ∷ body in
    let inner = mark S.Underscore ∷ arrow in
    (mark S.CurlyOpen ∷ inner, k.1, (inner, one_clause, k.0, (here, refl), (arrow, body, close, refl, (here, refl), zero_spelled 0 close, (close, inl refl, (here, refl))), k.2))
alive_ends h r ls (IfOpener w q ∷ os) lets bs e =
    let go : Go = λ v ts ds. Grown w v ts (λ u after. ExpressionEnds h r ls os lets bs u after ds) in
    let k = alive_level (ForYes q e) zero_block go (λ v. alive_grown w v (λ u. ExpressionEnds h r ls os lets bs u) (λ u. alive_ends h r ls os lets bs u)) in
    (mark S.CurlyOpen ∷ zero_token ∷ k.0, k.1, (zero_token ∷ k.0, zero_block, k.0, (here, refl), zero_spelled 0 k.0, k.2))
alive_ends h r [] [] lets bs e = alive_block_ends lets bs e (EndBody h r) (alive_end_body h r)
alive_ends h r (l ∷ ls) [] lets bs e =
    let p = l.before in
    let go : Go = λ v ts ds. Grown p.waiting v ts (λ u after. ExpressionEnds h r ls p.openers p.lets p.binds u after ds) in
    alive_block_ends lets bs e (λ b ts ds. LevelEnds l.purpose b (λ v after. go v after ds) ts) (λ b. alive_level l.purpose b go (λ v. alive_grown p.waiting v (λ u. ExpressionEnds h r ls p.openers p.lets p.binds u) (λ u. alive_ends h r ls p.openers p.lets p.binds u)))

alive_after_operand : (b : Body) (v : Expression) → Alive (λ ts ds. AfterOperand b ds v ts)
alive_after_operand b v =
    let p = b.partial in
    alive_grown p.waiting v (λ e. ExpressionEnds b.head b.gives b.levels p.openers p.lets p.binds e) (λ e. alive_ends b.head b.gives b.levels p.openers p.lets p.binds e)

alive_after_block : (h : FunctionHead) (r : Result) (ls : List Level) (b : Block) → Alive (λ ts ds. AfterBlock h r ls ds b ts)
alive_after_block h r [] b = alive_end_body h r b
alive_after_block h r (l ∷ ls) b = alive_level l.purpose b (λ v ts ds. AfterOperand (below h r l ls) ds v ts) (λ v. alive_after_operand (below h r l ls) v)

-- Heads of functions.

alive_brace : (h : FunctionHead) (r : Result) → Alive (FromBrace h r)
alive_brace h r =
    let k = alive_end_body h r zero_block in
    (mark S.CurlyOpen ∷ zero_token ∷ k.0, k.1, (zero_token ∷ k.0, zero_block, k.0, (here, refl), zero_spelled 0 k.0, k.2))

abbrev int_type : Written
int_type = WrittenInt here

alive_colon : (h : FunctionHead) → Alive (FromColon h)
alive_colon h =
    let k = alive_brace h (OneResult int_type) in
    (mark S.Colon ∷ mark S.Int ∷ k.0, k.1, (mark S.Int ∷ k.0, OneResult int_type, k.0, (here, refl), refl, k.2))

alive_after_parameter : (h : FunctionHead) → Alive (AfterParameter h)
alive_after_parameter h = let k = alive_colon (more_parameters h []) in (mark S.RoundClose ∷ k.0, k.1, ([], k.0, (here, refl), k.2))

alive_parameters : (h : FunctionHead) → Alive (FromParameters h)
alive_parameters h = let k = alive_colon (more_parameters h []) in (mark S.RoundClose ∷ k.0, k.1, ([], k.0, (here, refl), k.2))

alive_open : (h : FunctionHead) → Alive (FromOpen h)
alive_open h = before S.RoundOpen (FromParameters h) (alive_parameters h)

alive_static_end : (h : FunctionHead) → Alive (AfterStatic h)
alive_static_end h = let k = alive_open (more_statics h []) in (mark S.SquareClose ∷ k.0, k.1, ([], k.0, (here, refl), k.2))

abbrev lower : Token
lower = token (Lower (97 ∷ [])) here

alive_static : (h : FunctionHead) → Alive (FromStatic h)
alive_static h =
    let s = TypeParameter (97 ∷ []) here in
    let k = alive_static_end (with_static h s) in
    (lower ∷ k.0, k.1, (s, k.0, refl, k.2))

alive_start : (h : FunctionHead) → Alive (FromStart h)
alive_start h = let k = alive_open (more_statics h []) in (k.0, k.1, ([], k.0, refl, k.2))

alive_after_result : (o : ResultOwner) (r : Result) → Alive (AfterResult o r)
alive_after_result (OfFunction h) r = alive_brace h r
alive_after_result (OfSignature h g) r = alive_static_end (with_signature h g r)

alive_result : (o : ResultOwner) → Alive (FromResult o)
alive_result o = let k = alive_after_result o (OneResult int_type) in (mark S.Int ∷ k.0, k.1, (OneResult int_type, k.0, refl, k.2))

alive_signature_colon : (h : FunctionHead) (g : SignatureHead) → Alive (SignatureColonFrom h g)
alive_signature_colon h g = before S.Colon (FromResult (OfSignature h g)) (alive_result (OfSignature h g))

alive_after_signature_parameter : (h : FunctionHead) (g : SignatureHead) → Alive (AfterSignatureParameter h g)
alive_after_signature_parameter h g = let k = alive_signature_colon h (more_signature g []) in (mark S.RoundClose ∷ k.0, k.1, ([], k.0, (here, refl), k.2))

alive_signature_parameters : (h : FunctionHead) (g : SignatureHead) → Alive (FromSignatureParameters h g)
alive_signature_parameters h g = let k = alive_signature_colon h (more_signature g []) in (mark S.RoundClose ∷ k.0, k.1, ([], k.0, (here, refl), k.2))

alive_signature_parameter : (h : FunctionHead) (g : SignatureHead) → Alive (FromSignatureParameter h g)
alive_signature_parameter h g =
    let q : SignatureParameter = record { lent = false; type = int_type } in
    let k = alive_after_signature_parameter h (with_signature_parameter g q) in
    (mark S.Int ∷ k.0, k.1, (q, k.0, (mark S.Int ∷ k.0, refl, refl), k.2))

alive_signature_open : (h : FunctionHead) (g : SignatureHead) → Alive (SignatureOpenFrom h g)
alive_signature_open h g = before S.RoundOpen (FromSignatureParameters h g) (alive_signature_parameters h g)

alive_parameter_colon : (h : FunctionHead) (lent : Bool) (n : Name) (p : Place) → Alive (InFunctionFrom (ParameterColon h lent n p))
alive_parameter_colon h lent n p =
    let k = alive_after_parameter (with_parameter h (record { lent = lent; name = n; place = p; type = int_type })) in
    (mark S.Colon ∷ mark S.Int ∷ k.0, k.1, (mark S.Int ∷ k.0, int_type, k.0, (here, refl), refl, k.2))

alive_parameter : (h : FunctionHead) → Alive (FromParameter h)
alive_parameter h =
    let q : Parameter = record { lent = false; name = 97 ∷ []; place = here; type = int_type } in
    let k = alive_after_parameter (with_parameter h q) in
    let t = mark S.Int ∷ k.0 in
    let colon = mark S.Colon ∷ t in
    (lower ∷ colon, k.1, (q, k.0, (lower ∷ colon, colon, t, refl, refl, (here, refl), refl), k.2))

alive_parameter_name : (h : FunctionHead) → Alive (InFunctionFrom (ParameterName h))
alive_parameter_name h =
    let k = alive_after_parameter (with_parameter h (record { lent = true; name = 97 ∷ []; place = here; type = int_type })) in
    let t = mark S.Int ∷ k.0 in
    let colon = mark S.Colon ∷ t in
    (lower ∷ colon, k.1, (97 ∷ [], here, colon, t, int_type, k.0, refl, (here, refl), refl, k.2))

alive_function_name : (f : FunKind) (cs : List CreditMark) → Alive (FunctionNameFrom f cs)
alive_function_name f cs = let k = alive_start (new_head f cs (97 ∷ []) here) in (lower ∷ k.0, k.1, (97 ∷ [], here, k.0, refl, k.2))

alive_keyword : (f : FunKind) (cs : List CreditMark) → Alive (FromKeyword f cs)
alive_keyword f cs =
    let k = alive_function_name f (cs ++ []) in
    (mark S.Fun ∷ k.0, k.1, ([], mark S.Fun ∷ k.0, k.0, refl, (here, refl), k.2))

alive_credit_size : (f : FunKind) (cs : List CreditMark) (p : Place) → Alive (FromCreditSize f cs p)
alive_credit_size f cs p =
    let k = alive_keyword f (cs ++ credit p here (48 ∷ []) ∷ []) in
    (zero_token ∷ k.0, k.1, (48 ∷ [], here, k.0, refl, k.2))

alive_static_start : (h : FunctionHead) (n : Name) (q : Place) → Alive (FromStaticStart h n q)
alive_static_start h n q = let k = alive_static_end (with_static h (TypeParameter n q)) in (k.0, k.1, inl k.2)

alive_function : (h : FunctionHeading) → Alive (InFunctionFrom h)
alive_function (FunctionKeyword k cs) = alive_keyword k cs
alive_function (CreditSize k cs p) = alive_credit_size k cs p
alive_function (FunctionName k cs) = alive_function_name k cs
alive_function (FunctionStart h) = alive_start h
alive_function (StaticName h) = alive_static h
alive_function (StaticStart h n q) = alive_static_start h n q
alive_function (SignatureKeyword h g) = before S.Fun (SignatureOpenFrom h g) (alive_signature_open h g)
alive_function (SignatureOpen h g) = alive_signature_open h g
alive_function (SignatureFirst h g) = alive_signature_parameters h g
alive_function (SignatureNext h g) = alive_signature_parameter h g
alive_function (SignatureColon h g) = alive_signature_colon h g
alive_function (ResultStart o) = alive_result o
alive_function (StaticEnd h) = alive_static_end h
alive_function (ParametersOpen h) = alive_open h
alive_function (ParameterFirst h) = alive_parameters h
alive_function (ParameterNext h) = alive_parameter h
alive_function (ParameterName h) = alive_parameter_name h
alive_function (ParameterColon h lent n q) = alive_parameter_colon h lent n q
alive_function (ResultColon h) = alive_colon h
alive_function (BodyOpen h r) = alive_brace h r

-- Data types.

alive_constructor_end : (d : Data) → Alive (AfterConstructor d)
alive_constructor_end d =
    let k = alive_declared (DataDeclaration (more_constructors d [])) in
    let close = mark S.CurlyClose ∷ k.0 in
    (close, k.1, ([], k.0, (close, inl refl, (here, refl)), k.2))

abbrev upper : Token
upper = token (Upper (65 ∷ [])) here

alive_constructor : (d : Data) → Alive (FromConstructor d)
alive_constructor d =
    let c = new_constructor (65 ∷ []) here [] in
    let k = alive_constructor_end (with_constructor d c) in
    (upper ∷ k.0, k.1, (c, k.0, (k.0, refl, refl), k.2))

alive_data_brace : (d : Data) → Alive (FromDataBrace d)
alive_data_brace d = before S.CurlyOpen (FromConstructor d) (alive_constructor d)

alive_after_name : (d : Data) → Alive (AfterTypeName d)
alive_after_name d = let k = alive_data_brace (more_names d []) in (mark S.SquareClose ∷ k.0, k.1, ([], k.0, (here, refl), k.2))

alive_type_name : (d : Data) → Alive (FromTypeName d)
alive_type_name d =
    let n : TypeName = record { name = 97 ∷ []; place = here } in
    let k = alive_after_name (with_type_name d n) in
    (lower ∷ k.0, k.1, (n, k.0, refl, k.2))

alive_data_start : (d : Data) → Alive (FromDataStart d)
alive_data_start d = let k = alive_data_brace (more_names d []) in (k.0, k.1, ([], k.0, refl, k.2))

alive_data_name : Alive FromDataName
alive_data_name = let k = alive_data_start (new_data (97 ∷ []) here) in (lower ∷ k.0, k.1, (97 ∷ [], here, k.0, refl, k.2))

alive_constructor_next : (d : Data) → Alive (InDataFrom (ConstructorNext d))
alive_constructor_next d = let k = alive_constructor d in (k.0, k.1, inr k.2)

alive_constructor_start : (d : Data) (n : Name) (q : Place) → Alive (InDataFrom (ConstructorStart d n q))
alive_constructor_start d n q = let k = alive_constructor_end (with_constructor d (new_constructor n q [])) in (k.0, k.1, ([], k.0, refl, k.2))

alive_data : (h : DataHeading) → Alive (InDataFrom h)
alive_data DataName = alive_data_name
alive_data (DataStart d) = alive_data_start d
alive_data (DataParameter d) = alive_type_name d
alive_data (DataParameterEnd d) = alive_after_name d
alive_data (DataOpen d) = alive_data_brace d
alive_data (ConstructorFirst d) = alive_constructor d
alive_data (ConstructorNext d) = alive_constructor_next d
alive_data (ConstructorStart d n q) = alive_constructor_start d n q
alive_data (ConstructorEnd d) = alive_constructor_end d

-- Bodies.

alive_operand : (b : Body) → Alive (FromOperand b)
alive_operand b = let k = alive_after_operand b zero_expression in (zero_token ∷ k.0, k.1, (zero_expression, k.0, zero_spelled 3 k.0, k.2))

alive_equals : (b : Body) (bs : List Bind) → Alive (EqualsFrom b bs)
alive_equals b bs = before S.Equals (FromOperand (bound_of b bs)) (alive_operand (bound_of b bs))

abbrev some_bind : Bind
some_bind = record { name = 97 ∷ []; place = here; annotation = None }

two : {A : Type 0} (xs : List A) (x y : A) → AtLeastTwo (xs ++ (x ∷ y ∷ []))
two [] x y = tt
two (z ∷ []) x y = tt
two (z ∷ u ∷ xs) x y = tt

alive_after_bind : (b : Body) (bs : Binds) (x : Bind) → Alive (AfterBind b bs x)
alive_after_bind b Alone x = alive_equals b (x ∷ [])
alive_after_bind b (Bracketed done) x =
    let k = alive_equals b (done ++ (x ∷ some_bind ∷ [])) in
    let close = mark S.RoundClose ∷ k.0 in
    (mark S.Comma ∷ lower ∷ close, k.1, (some_bind ∷ [], k.0, (lower ∷ close, close, (here, refl), (close, inl refl, refl), (here, refl)), two done x some_bind, k.2))

alive_arguments : (b : Body) (n : Name) (q : Place) (st : Writtens) → Alive (ArgumentsFrom b n q st)
alive_arguments b n q st = let k = alive_after_operand b (Call n q st NoExpressions) in (mark S.RoundClose ∷ k.0, k.1, (NoExpressions, k.0, (here, refl), k.2))

alive_call : (b : Body) (n : Name) (q : Place) (st : Writtens) → Alive (CallFrom b n q st)
alive_call b n q st = before S.RoundOpen (ArgumentsFrom b n q st) (alive_arguments b n q st)

alive_after_pattern : (b : Body) (m : OpenMatch) (q : Pattern) → Alive (AfterPattern b m q)
alive_after_pattern b m q =
    let k = alive_level (ForClause m q) zero_block (λ v ts ds. AfterOperand b ds v ts) (λ v. alive_after_operand b v) in
    (mark S.Arrow ∷ zero_token ∷ k.0, k.1, (zero_token ∷ k.0, zero_block, k.0, (here, refl), zero_spelled 0 k.0, k.2))

alive_else_open : (b : Body) (q : Place) (e : Expression) (one : Block) → Alive (λ ts ds. ElseOpenFrom q e one (AfterOperand b ds) ts)
alive_else_open b q e one =
    let k = alive_after_operand b (If q e one zero_block) in
    let end = mark S.CurlyClose ∷ k.0 in
    (mark S.CurlyOpen ∷ zero_token ∷ end, k.1, (zero_token ∷ end, zero_block, end, k.0, (here, refl), zero_spelled 0 end, (here, refl), k.2))

alive_else : (b : Body) (q : Place) (e : Expression) (one : Block) → Alive (λ ts ds. ElseFrom q e one (AfterOperand b ds) ts)
alive_else b q e one = before S.Else (λ ts ds. ElseOpenFrom q e one (AfterOperand b ds) ts) (alive_else_open b q e one)

alive_at_block : (b : Body) → Alive (InBodyFrom AtBlock b)
alive_at_block b =
    let k = alive_after_block b.head b.gives b.levels (onto_block b.partial.lets zero_block) in
    (zero_token ∷ k.0, k.1, (zero_block, k.0, zero_spelled 0 k.0, k.2))

alive_let : (b : Body) → Alive (InBodyFrom LetStart b)
alive_let b = let k = alive_equals b (some_bind ∷ []) in (lower ∷ k.0, k.1, (some_bind ∷ [], k.0, (k.0, inl refl, refl), k.2))

alive_bind : (b : Body) (done : List Bind) → Alive (InBodyFrom (BindStart done) b)
alive_bind b done = let k = alive_after_bind b (Bracketed done) some_bind in (lower ∷ k.0, k.1, (some_bind, k.0, (k.0, inl refl, refl), k.2))

alive_named : (b : Body) (bs : Binds) (n : Name) (q : Place) → Alive (InBodyFrom (BindNamed bs n q) b)
alive_named b bs n q = let k = alive_after_bind b bs (record { name = n; place = q; annotation = None }) in (k.0, k.1, (None, k.0, refl, k.2))

alive_lower : (b : Body) (n : Name) (q : Place) → Alive (InBodyFrom (LowerName n q) b)
alive_lower b n q = let k = alive_after_operand b (Variable n q) in (k.0, k.1, inl k.2)

alive_upper : (b : Body) (n : Name) (q : Place) → Alive (InBodyFrom (UpperName n q) b)
alive_upper b n q = let k = alive_after_operand b (Constructor n q NoExpressions) in (k.0, k.1, (NoExpressions, k.0, refl, k.2))

alive_minus : (b : Body) (q : Place) → Alive (InBodyFrom (Minus q) b)
alive_minus b q =
    let k = alive_after_operand b (Literal (neg_ℤ (pos (value_of (48 ∷ [])))) q) in
    (zero_token ∷ k.0, k.1, (48 ∷ [], here, k.0, refl, k.2))

alive_parenthesis : (b : Body) (q : Place) → Alive (InBodyFrom (Parenthesis q) b)
alive_parenthesis b q =
    let k = alive_after_operand b (Bracket zero_block) in
    let close = mark S.RoundClose ∷ k.0 in
    (zero_token ∷ close, k.1, inl (zero_block, close, k.0, zero_spelled 0 close, (here, refl), k.2))

alive_clause : (b : Body) (m : OpenMatch) → Alive (InBodyFrom (ClauseNext m) b)
alive_clause b m =
    let k = alive_after_operand b (Match m.destructive m.place m.scrutinee (onto_clauses m.clauses NoClauses)) in
    (mark S.CurlyClose ∷ k.0, k.1, inl (k.0, (here, refl), k.2))

alive_body : (x : BodyPosition) (b : Body) → Alive (InBodyFrom x b)
alive_body AtBlock b = alive_at_block b
alive_body LetStart b = alive_let b
alive_body (BindStart done) b = alive_bind b done
alive_body (BindNamed bs n q) b = alive_named b bs n q
alive_body (LetEquals bs) b = alive_equals b bs
alive_body AtOperand b = alive_operand b
alive_body (LowerName n q) b = alive_lower b n q
alive_body (CallOpen n q st) b = alive_call b n q (onto_types st NoWritten)
alive_body (ArgumentFirst n q st) b = alive_arguments b n q (onto_types st NoWritten)
alive_body (UpperName n q) b = alive_upper b n q
alive_body (Minus q) b = alive_minus b q
alive_body (Parenthesis q) b = alive_parenthesis b q
alive_body (AtOperator v) b = alive_after_operand b v
alive_body (ClauseNext m) b = alive_clause b m
alive_body (Else q e one) b = alive_else b q e one
alive_body (ElseOpen q e one) b = alive_else_open b q e one

-- Types and patterns.

two_types : (xs : List Written) (x y : Written) → AtLeastTwo (xs ++ (x ∷ y ∷ []))
two_types xs x y = two xs x y

alive_use : (u : TypeUse) (t : Written) → Alive (AfterUse u t)
alive_use (ForField d n q fs) t = let k = alive_constructor_end (with_constructor d (new_constructor n q (fs ++ t ∷ []))) in (mark S.RoundClose ∷ k.0, k.1, ([], k.0, (here, refl), k.2))
alive_use (ForSignatureParameter h g lent) t = alive_after_signature_parameter h (with_signature_parameter g (record { lent = lent; type = t }))
alive_use (ForParameter h lent n q) t = alive_after_parameter (with_parameter h (record { lent = lent; name = n; place = q; type = t }))
alive_use (ForResult o) t = alive_after_result o (OneResult t)
alive_use (ForResultPart o q parts) t =
    let k = alive_after_result o (TupleResult q (parts ++ (t ∷ int_type ∷ []))) in
    let close = mark S.RoundClose ∷ k.0 in
    (mark S.Comma ∷ mark S.Int ∷ close, k.1, (int_type ∷ [], k.0, (mark S.Int ∷ close, close, (here, refl), refl, (here, refl)), two_types parts t int_type, k.2))
alive_use (ForAnnotation b bs n q) t = alive_after_bind b bs (record { name = n; place = q; annotation = Some t })
alive_use (ForStaticArgument b n q st) t = let k = alive_call b n q (onto_types st (MoreWritten t NoWritten)) in (mark S.SquareClose ∷ k.0, k.1, (NoWritten, k.0, (here, refl), k.2))

alive_after_type : (o : List OpenType) (u : TypeUse) (t : Written) → Alive (AfterType o u t)
alive_after_type [] u t = alive_use u t
alive_after_type (o ∷ os) u t =
    let k = alive_after_type os u (WrittenName o.name o.place (onto_types o.done (MoreWritten t NoWritten))) in
    (mark S.SquareClose ∷ k.0, k.1, (NoWritten, k.0, (here, refl), k.2))

alive_wanted : (o : List OpenType) (u : TypeUse) → Alive (InTypeFrom TypeWanted o u)
alive_wanted o u = let k = alive_after_type o u int_type in (mark S.Int ∷ k.0, k.1, (int_type, k.0, refl, k.2))

alive_type_named : (n : Name) (q : Place) (o : List OpenType) (u : TypeUse) → Alive (InTypeFrom (TypeNamed n q) o u)
alive_type_named n q o u = let k = alive_after_type o u (WrittenName n q NoWritten) in (k.0, k.1, (NoWritten, k.0, refl, k.2))

alive_type : (x : TypePosition) (o : List OpenType) (u : TypeUse) → Alive (InTypeFrom x o u)
alive_type TypeWanted o u = alive_wanted o u
alive_type (TypeNamed n q) o u = alive_type_named n q o u
alive_type (TypeDone t) o u = alive_after_type o u t

alive_after_patterns : (o : List OpenPattern) (b : Body) (m : OpenMatch) (q : Pattern) → Alive (AfterPatterns o b m q)
alive_after_patterns [] b m q = alive_after_pattern b m q
alive_after_patterns (o ∷ os) b m q =
    let k = alive_after_patterns os b m (ConstructorPattern o.name o.place (onto_patterns o.done (MorePatterns q NoPatterns))) in
    (mark S.RoundClose ∷ k.0, k.1, (NoPatterns, k.0, (here, refl), k.2))

alive_pattern_wanted : (o : List OpenPattern) (b : Body) (m : OpenMatch) → Alive (InPatternFrom PatternWanted o b m)
alive_pattern_wanted o b m = let k = alive_after_patterns o b m (Wildcard here) in (mark S.Underscore ∷ k.0, k.1, (Wildcard here, k.0, refl, k.2))

alive_pattern_minus : (q : Place) (o : List OpenPattern) (b : Body) (m : OpenMatch) → Alive (InPatternFrom (PatternMinus q) o b m)
alive_pattern_minus q o b m =
    let k = alive_after_patterns o b m (LiteralPattern (neg_ℤ (pos (value_of (48 ∷ [])))) q) in
    (zero_token ∷ k.0, k.1, (48 ∷ [], here, k.0, refl, k.2))

alive_pattern_named : (n : Name) (q : Place) (o : List OpenPattern) (b : Body) (m : OpenMatch) → Alive (InPatternFrom (PatternNamed n q) o b m)
alive_pattern_named n q o b m = let k = alive_after_patterns o b m (ConstructorPattern n q NoPatterns) in (k.0, k.1, (NoPatterns, k.0, refl, k.2))

alive_pattern : (x : PatternPosition) (o : List OpenPattern) (b : Body) (m : OpenMatch) → Alive (InPatternFrom x o b m)
alive_pattern PatternWanted o b m = alive_pattern_wanted o b m
alive_pattern (PatternMinus q) o b m = alive_pattern_minus q o b m
alive_pattern (PatternNamed n q) o b m = alive_pattern_named n q o b m
alive_pattern (PatternDone x) o b m = alive_after_patterns o b m x

pub alive_state : (s : State) → Alive (From s)
alive_state Top = ([], [], refl)
alive_state (InFunction h) = alive_function h
alive_state (InData h) = alive_data h
alive_state (InType x o u) = alive_type x o u
alive_state (InPattern x o b m) = alive_pattern x o b m
alive_state (InBody x b) = alive_body x b
