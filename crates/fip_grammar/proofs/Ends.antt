-- No state inside a declaration is complete where no token is left.
use Rattle.std.proofs.Common.{◌≡◌, ℕ, ℤ, suc, Bool, true, false, List, [], ◌∷◌, ◌++◌, Option, Some, None, ◌⊎◌, inl, inr, refl, sym, ap, subst, ◌∙◌, append-nil}
use Rattle.fip_language.specs.declared.Place.{Place}
use Rattle.fip_language.specs.declared.FunKind.{FunKind}
use Rattle.fip_language.specs.declared.CreditMark.{CreditMark}
use Rattle.fip_language.specs.declared.Operator.{Operator}
use Rattle.fip_language.specs.Core.{Name, Written, WrittenInt, WrittenName, Writtens, NoWritten, MoreWritten, Result, OneResult, TupleResult, SignatureParameter, Static, TypeParameter, FunctionParameter, TypeName, DataConstructor, Data}
use Rattle.fip_language.specs.Surface.{Bind, Pattern, Wildcard, VariablePattern, LiteralPattern, ConstructorPattern, Patterns, NoPatterns, MorePatterns, Expression, Variable, Literal, Call, Constructor, Bracket, Tuple, Match, If, Binary, Expressions, NoExpressions, MoreExpressions, Block, Last, Let, Clauses, NoClauses, MoreClauses, Parameter, Declaration, DataDeclaration, FunctionDeclaration}
use Rattle.fip_grammar.specs.declared.Sign.{Sign}
use Rattle.fip_grammar.specs.declared.Sign.TheVariants as S
use Rattle.fip_grammar.specs.Token.{Lower, Operate, Token, token}
use Rattle.fip_grammar.specs.Grammar.{Sees, MaySee, FurtherTypeList, IsLiteral, BindName, Annotation, FurtherBinds, Binder', tightness, left_tightness, Result', Lent, FurtherSignatureParameters, SignatureParameters, Static', FurtherStatics, Statics, Parameter', FurtherParameters, Parameters, Credits, Kind', FurtherTypeNames, TypeNames, FieldTypes, FurtherConstructors, Spells, Type', TypeArguments, FurtherTypes, Pattern', PatternFields, FurtherPatterns, Spelled, Arguments, Fields, Further, Block', FurtherClauses}
use Rattle.fip_grammar.specs.Machine.{Binding, FunctionHead, FunctionHeading, DataHeading, Pending, Opener, OpenMatch, Use, Level, Body, Binds, BodyPosition, OpenType, TypePosition, TypeUse, OpenPattern, PatternPosition, State, OfSignature, OfFunction, FunctionKeyword, CreditSize, FunctionName, FunctionStart, StaticName, StaticStart, SignatureKeyword, SignatureOpen, SignatureFirst, SignatureNext, SignatureColon, ResultStart, StaticEnd, ParametersOpen, ParameterFirst, ParameterNext, ParameterName, ParameterColon, ResultColon, BodyOpen, DataStart, DataParameter, DataParameterEnd, DataOpen, ConstructorFirst, ConstructorNext, ConstructorStart, ConstructorEnd, MatchOpener, IfOpener, ForArguments, ForFields, ForParenthesis, ForTuple, ForClause, ForYes, ForNo, Bracketed, BindStart, BindNamed, LetEquals, LowerName, CallOpen, ArgumentFirst, UpperName, Minus, Parenthesis, AtOperator, ClauseNext, Else, ElseOpen, TypeNamed, TypeDone, ForField, ForSignatureParameter, ForParameter, ForResult, ForResultPart, ForAnnotation, ForStaticArgument, PatternMinus, PatternNamed, PatternDone, InFunction, InData, InType, InPattern, InBody, DataName, Alone, AtBlock, LetStart, AtOperand, ForBracket, TypeWanted, PatternWanted, Top, onto_block, with_constructor, applied, ended_in}
use Rattle.fip_language.specs.declared.FunKind.TheVariants as K
use Rattle.fip_grammar.proofs.Residual.{more_statics, FromOpen, FromStaticStart, InFunctionFrom, more_names, AfterConstructor, FromDataBrace, new_constructor, InDataFrom, Compared, Grown, LevelEnds, ExpressionEnds, AfterOperand, AfterBind, CallFrom, InBodyFrom, AfterUse, AfterType, InTypeFrom, AfterPatterns, InPatternFrom, From, Chain}
use Rattle.fip_grammar.proofs.Operators.{peel}

none : {A : Type 0} {t : Token} {ts : List Token} → [] ≡ t ∷ ts → A
none {A = A} {t = t} {ts = ts} e = cc

no_type : (t : Written) (rest : List Token) → Type' [] t rest → ⊥
no_type (WrittenInt p) rest c = none c
no_type (WrittenName n p args) rest c = none c.1

no_further_types : (s : Sign) (more : Writtens) (rest : List Token) → FurtherTypes s [] more rest → ⊥
no_further_types s NoWritten rest c = none c.1
no_further_types s (MoreWritten t more) rest c = none c.2.1

no_type_list : (s : Sign) (more : List Written) (rest : List Token) → FurtherTypeList s [] more rest → ⊥
no_type_list s [] rest c = none c.1
no_type_list s (t ∷ more) rest c = none c.2.1

no_literal : (v : ℤ) (p : Place) (rest : List Token) → IsLiteral [] v p rest → ⊥
no_literal v p rest (inl c) = none c.1
no_literal v p rest (inr c) = none c.2

no_pattern : (q : Pattern) (rest : List Token) → Pattern' [] q rest → ⊥
no_pattern (Wildcard p) rest c = none c
no_pattern (VariablePattern n p) rest c = none c
no_pattern (LiteralPattern v p) rest c = no_literal v p rest c
no_pattern (ConstructorPattern n p ps) rest c = none c.1

no_further_patterns : (more : Patterns) (rest : List Token) → FurtherPatterns [] more rest → ⊥
no_further_patterns NoPatterns rest c = none c.1
no_further_patterns (MorePatterns q more) rest c = none c.2.1

no_expression : (k : ℕ) (e : Expression) (rest : List Token) → Spelled k [] e rest → ⊥
no_expression k (Variable n p) rest c = none c
no_expression k (Literal v p) rest c = no_literal v p rest c
no_expression k (Call n p st es) rest c = none c.3
no_expression k (Constructor n p es) rest c = none c.1
no_expression k (Bracket b) rest c = none c.2.1
no_expression k (Tuple p NoExpressions) rest c = c
no_expression k (Tuple p (MoreExpressions e NoExpressions)) rest c = c
no_expression k (Tuple p (MoreExpressions e (MoreExpressions x es))) rest c = none c.2
no_expression k (Match d p e cs) rest c = none c.3
no_expression k (If p e one other) rest c = none c.8
no_expression k (Binary op p x y) rest c = no_expression (left_tightness op) x c.0 c.3

no_further : (more : Expressions) (rest : List Token) → Further [] more rest → ⊥
no_further NoExpressions rest c = none c.1
no_further (MoreExpressions e more) rest c = none c.2.1

no_arguments : (more : Expressions) (rest : List Token) → Arguments [] more rest → ⊥
no_arguments NoExpressions rest c = none c.1
no_arguments (MoreExpressions e more) rest c = no_expression 0 e c.0 c.1

no_block : (b : Block) (rest : List Token) → Block' [] b rest → ⊥
no_block (Last e) rest c = no_expression 0 e rest c
no_block (Let bs e b) rest c = none c.5.1

no_last_semicolon : (after rest : List Token) → MaySee S.Semicolon [] after → Sees S.CurlyClose after rest → ⊥
no_last_semicolon after rest (inl e) c = none (e ∙ c.1)
no_last_semicolon after rest (inr e) c = none e.1

no_further_clauses : (cs : Clauses) (rest : List Token) → FurtherClauses [] cs rest → ⊥
no_further_clauses NoClauses rest c = no_last_semicolon c.0 rest c.1 c.2
no_further_clauses (MoreClauses q b cs) rest c = none c.4.1

-- Functions.

no_static_end : (ss : List Static) (rest : List Token) → FurtherStatics [] ss rest → ⊥
no_static_end [] rest c = none c.1
no_static_end (s ∷ ss) rest c = none c.2.1

no_start : (h : FunctionHead) (ss : List Static) (rest : List Token) (ds : List Declaration) → Statics [] ss rest → FromOpen (more_statics h ss) rest ds → ⊥
no_start h [] rest ds c k = none (c ∙ k.1.1)
no_start h (s ∷ ss) rest ds c k = none c.2.1

no_static : (s : Static) (rest : List Token) → Static' [] s rest → ⊥
no_static (TypeParameter n p) rest c = none c
no_static (FunctionParameter n p ps r) rest c = none c.1

no_static_start : (h : FunctionHead) (n : Name) (q : Place) (ds : List Declaration) → FromStaticStart h n q [] ds → ⊥
no_static_start h n q ds (inl c) = no_static_end c.0 c.1 c.2
no_static_start h n q ds (inr c) = none c.1.1

no_lent : (lent : Bool) (inner rest : List Token) (t : Written) → Lent [] lent inner → Type' inner t rest → ⊥
no_lent true inner rest t l c = none l.1
no_lent false inner rest t l c = no_type t rest (subst (λ x. Type' x t rest) (sym l) c)

no_signature_parameters : (ps : List SignatureParameter) (rest : List Token) → SignatureParameters [] ps rest → ⊥
no_signature_parameters [] rest c = none c.1
no_signature_parameters (q ∷ ps) rest c = no_lent q.lent c.1.0 c.0 q.type c.1.1 c.1.2

no_further_signature_parameters : (ps : List SignatureParameter) (rest : List Token) → FurtherSignatureParameters [] ps rest → ⊥
no_further_signature_parameters [] rest c = none c.1
no_further_signature_parameters (q ∷ ps) rest c = none c.2.1

no_result : (r : Result) (rest : List Token) → Result' [] r rest → ⊥
no_result (OneResult t) rest c = no_type t rest c
no_result (TupleResult p []) rest c = c
no_result (TupleResult p (t ∷ [])) rest c = c
no_result (TupleResult p (t ∷ u ∷ us)) rest c = none c.2

no_lent_name : (lent : Bool) (n : Name) (p : Place) (inner rest : List Token) → Lent [] lent inner → inner ≡ token (Lower n) p ∷ rest → ⊥
no_lent_name true n p inner rest l c = none l.1
no_lent_name false n p inner rest l c = none (l ∙ c)

no_parameter : (q : Parameter) (rest : List Token) → Parameter' [] q rest → ⊥
no_parameter q rest c = no_lent_name q.lent q.name q.place c.0 c.1 c.3 c.4

no_parameters : (ps : List Parameter) (rest : List Token) → Parameters [] ps rest → ⊥
no_parameters [] rest c = none c.1
no_parameters (q ∷ ps) rest c = no_parameter q c.0 c.1

no_further_parameters : (ps : List Parameter) (rest : List Token) → FurtherParameters [] ps rest → ⊥
no_further_parameters [] rest c = none c.1
no_further_parameters (q ∷ ps) rest c = none c.2.1

no_keyword : (cs : List CreditMark) (keyword name : List Token) → Credits [] cs keyword → Sees S.Fun keyword name → ⊥
no_keyword [] keyword name c s = none (c ∙ s.1)
no_keyword (x ∷ cs) keyword name c s = none c.3

no_function : (h : FunctionHeading) (ds : List Declaration) → InFunctionFrom h [] ds → ⊥
no_function (FunctionKeyword k cs) ds c = no_keyword c.0 c.1 c.2 c.3 c.4
no_function (CreditSize k cs q) ds c = none c.3
no_function (FunctionName k cs) ds c = none c.3
no_function (FunctionStart h) ds c = no_start h c.0 c.1 ds c.2 c.3
no_function (StaticName h) ds c = no_static c.0 c.1 c.2
no_function (StaticStart h n q) ds c = no_static_start h n q ds c
no_function (SignatureKeyword h g) ds c = none c.1.1
no_function (SignatureOpen h g) ds c = none c.1.1
no_function (SignatureFirst h g) ds c = no_signature_parameters c.0 c.1 c.2
no_function (SignatureNext h g) ds c = no_lent c.0.lent c.2.0 c.1 c.0.type c.2.1 c.2.2
no_function (SignatureColon h g) ds c = none c.1.1
no_function (ResultStart o) ds c = no_result c.0 c.1 c.2
no_function (StaticEnd h) ds c = no_static_end c.0 c.1 c.2
no_function (ParametersOpen h) ds c = none c.1.1
no_function (ParameterFirst h) ds c = no_parameters c.0 c.1 c.2
no_function (ParameterNext h) ds c = no_parameter c.0 c.1 c.2
no_function (ParameterName h) ds c = none c.6
no_function (ParameterColon h lent n q) ds c = none c.3.1
no_function (ResultColon h) ds c = none c.3.1
no_function (BodyOpen h r) ds c = none c.3.1

-- Data types.

no_further_constructors : (cs : List DataConstructor) (rest : List Token) → FurtherConstructors [] cs rest → ⊥
no_further_constructors [] rest c = no_last_semicolon c.0 rest c.1 c.2
no_further_constructors (x ∷ cs) rest c = none c.2.1

no_names : (d : Data) (ns : List TypeName) (rest : List Token) (ds : List Declaration) → TypeNames [] ns rest → FromDataBrace (more_names d ns) rest ds → ⊥
no_names d [] rest ds c k = none (c ∙ k.1.1)
no_names d (n ∷ ns) rest ds c k = none c.2.1

no_further_names : (ns : List TypeName) (rest : List Token) → FurtherTypeNames [] ns rest → ⊥
no_further_names [] rest c = none c.1
no_further_names (n ∷ ns) rest c = none c.2.1

no_constructor_next : (d : Data) (ds : List Declaration) → InDataFrom (ConstructorNext d) [] ds → ⊥
no_constructor_next d ds (inl c) = none c.1.1
no_constructor_next d ds (inr c) = none c.2.1

no_fields : (d : Data) (fs : List Written) (rest : List Token) (ds : List Declaration) → FieldTypes [] fs rest → AfterConstructor d rest ds → ⊥
no_fields d [] rest ds c k = no_further_constructors k.0 k.1 (subst (λ l. FurtherConstructors l k.0 k.1) (sym c) k.2)
no_fields d (t ∷ fs) rest ds c k = none c.2.1

no_data : (h : DataHeading) (ds : List Declaration) → InDataFrom h [] ds → ⊥
no_data DataName ds c = none c.3
no_data (DataStart d) ds c = no_names d c.0 c.1 ds c.2 c.3
no_data (DataParameter d) ds c = none c.2
no_data (DataParameterEnd d) ds c = no_further_names c.0 c.1 c.2
no_data (DataOpen d) ds c = none c.1.1
no_data (ConstructorFirst d) ds c = none c.2.1
no_data (ConstructorNext d) ds c = no_constructor_next d ds c
no_data (ConstructorStart d n q) ds c = no_fields (with_constructor d (new_constructor n q c.0)) c.0 c.1 ds c.2 c.3
no_data (ConstructorEnd d) ds c = no_further_constructors c.0 c.1 c.2

-- Bodies.

no_level : (u : Use) (b : Block) (go : Expression → List Token → Type 0) → LevelEnds u b go [] → ⊥
no_level (ForArguments n q st done) b go c = no_further c.0 c.1 c.2
no_level (ForFields n q done) b go c = no_further c.0 c.1 c.2
no_level (ForParenthesis q) b go (inl c) = none c.1.1
no_level (ForParenthesis q) b go (inr c) = no_further (MoreExpressions c.0 c.1) c.2 c.3
no_level ForBracket b go c = none c.1.1
no_level (ForTuple q done) b go c = no_further c.0 c.1 c.2
no_level (ForClause m q) b go c = no_further_clauses c.0 c.1 c.2
no_level (ForYes q e) b go c = none c.1.1
no_level (ForNo q e one) b go c = none c.1.1

no_end : (h : FunctionHead) (r : Result) (ls : List Level) (os : List Opener) (lets : List Binding) (bs : Option (List Bind)) (e : Expression) (ds : List Declaration) → ExpressionEnds h r ls os lets bs e [] ds → ⊥
no_end h r ls (MatchOpener w d q ∷ os) lets bs e ds c = none c.3.1
no_end h r ls (IfOpener w q ∷ os) lets bs e ds c = none c.3.1
no_end h r [] [] lets (Some bs) e ds c = none c.3.1
no_end h r (l ∷ ls) [] lets (Some bs) e ds c = none c.3.1
no_end h r [] [] lets None e ds c = none c.1.1
no_end h r (l ∷ ls) [] lets None e ds c = no_level l.purpose (onto_block lets (Last e)) (λ v after. Grown l.before.waiting v after (λ u end. ExpressionEnds h r ls l.before.openers l.before.lets l.before.binds u end ds)) c

stays_none : (k : ℕ) (v e : Expression) (rest : List Token) → ((e ≡ v) × ([] ≡ rest)) ⊎ ((op : Operator) × (q : Place) × (r : Expression) × (after : List Token) × (m : List Token) × (tightness op ≡ k) × ([] ≡ token (Operate op) q ∷ after) × Spelled (suc k) after r m × Chain k (Binary op q v r) m e rest) → [] ≡ rest
stays_none k v e rest (inl c) = c.1
stays_none k v e rest (inr c) = none c.6

chain_none_left : (k : ℕ) (v e : Expression) (rest : List Token) → Chain k v [] e rest → [] ≡ rest
chain_none_left k v e rest c = stays_none k v e rest (peel k v [] e rest c)

compared_none_left : (o : Option Pending) (v e : Expression) (rest : List Token) → Compared o v [] e rest → [] ≡ rest
compared_none_left (Some c) v e rest h = h.1
compared_none_left None v e rest (inl h) = h.1
compared_none_left None v e rest (inr h) = none h.5

no_after_operand : (b : Body) (v : Expression) (ds : List Declaration) → AfterOperand b ds v [] → ⊥
no_after_operand b v ds c =
    let g = c.2 in
    let w = b.partial.waiting in
    let e1 : [] ≡ g.1 = chain_none_left 2 (applied w.product v) g.0 g.1 g.4 in
    let e2 : [] ≡ g.3 = chain_none_left 1 (applied w.sum g.0) g.2 g.3 (subst (λ l. Chain 1 (applied w.sum g.0) l g.2 g.3) (sym e1) g.5) in
    let e3 : [] ≡ c.1 = compared_none_left w.comparison g.2 c.0 c.1 (subst (λ l. Compared w.comparison g.2 l c.0 c.1) (sym e2) g.6) in
    no_end b.head b.gives b.levels b.partial.openers b.partial.lets b.partial.binds c.0 ds (subst (λ l. ExpressionEnds b.head b.gives b.levels b.partial.openers b.partial.lets b.partial.binds c.0 l ds) (sym e3) c.3)

no_bind_name : (n : Name) (p : Place) (rest : List Token) → BindName [] n p rest → ⊥
no_bind_name n p rest (inl c) = none c
no_bind_name n p rest (inr c) = none c.0

no_binder : (bs : List Bind) (rest : List Token) → Binder' [] bs rest → ⊥
no_binder [] rest c = c
no_binder (x ∷ []) rest c = no_bind_name x.name x.place c.0 c.1
no_binder (x ∷ y ∷ ys) rest c = none c.2.1

no_further_binds : (bs : List Bind) (rest : List Token) → FurtherBinds [] bs rest → ⊥
no_further_binds [] rest c = none c.1
no_further_binds (x ∷ bs) rest c = none c.2.1

no_after_bind : (b : Body) (bs : Binds) (x : Bind) (ds : List Declaration) → AfterBind b bs x [] ds → ⊥
no_after_bind b Alone x ds c = none c.1.1
no_after_bind b (Bracketed done) x ds c = no_further_binds c.0 c.1 c.2

no_annotation : (b : Body) (bs : Binds) (n : Name) (q : Place) (a : Option Written) (rest : List Token) (ds : List Declaration) → Annotation [] a rest → AfterBind b bs (record { name = n; place = q; annotation = a }) rest ds → ⊥
no_annotation b bs n q (Some t) rest ds c k = none c.1.1
no_annotation b bs n q None rest ds c k = no_after_bind b bs (record { name = n; place = q; annotation = None }) ds (subst (λ l. AfterBind b bs (record { name = n; place = q; annotation = None }) l ds) (sym c) k)

no_call : (b : Body) (n : Name) (q : Place) (st : Writtens) (rest : List Token) (ds : List Declaration) → TypeArguments [] st rest → CallFrom b n q st rest ds → ⊥
no_call b n q NoWritten rest ds c k = none (c ∙ k.1.1)
no_call b n q (MoreWritten t more) rest ds c k = none c.2.1

no_upper : (b : Body) (n : Name) (q : Place) (args : Expressions) (rest : List Token) (ds : List Declaration) → Fields [] args rest → AfterOperand b ds (Constructor n q args) rest → ⊥
no_upper b n q NoExpressions rest ds c k = no_after_operand b (Constructor n q NoExpressions) ds (subst (λ l. AfterOperand b ds (Constructor n q NoExpressions) l) (sym c) k)
no_upper b n q (MoreExpressions e more) rest ds c k = none c.2.1

no_body : (x : BodyPosition) (b : Body) (ds : List Declaration) → InBodyFrom x b [] ds → ⊥
no_body AtBlock b ds c = no_block c.0 c.1 c.2
no_body LetStart b ds c = no_binder c.0 c.1 c.2
no_body (BindStart done) b ds c = no_bind_name c.0.name c.0.place c.2.0 c.2.1
no_body (BindNamed bs n q) b ds c = no_annotation b bs n q c.0 c.1 ds c.2 c.3
no_body (LetEquals bs) b ds c = none c.1.1
no_body AtOperand b ds c = no_expression 3 c.0 c.1 c.2
no_body (LowerName n q) b ds (inl c) = no_after_operand b (Variable n q) ds c
no_body (LowerName n q) b ds (inr c) = no_call b n q c.0 c.1 ds c.2 c.3
no_body (CallOpen n q st) b ds c = none c.1.1
no_body (ArgumentFirst n q st) b ds c = no_arguments c.0 c.1 c.2
no_body (UpperName n q) b ds c = no_upper b n q c.0 c.1 ds c.2 c.3
no_body (Minus q) b ds c = none c.3
no_body (Parenthesis q) b ds (inl c) = no_block c.0 c.1 c.3
no_body (Parenthesis q) b ds (inr c) = no_expression 0 c.0 c.1 c.5
no_body (AtOperator v) b ds c = no_after_operand b v ds c
no_body (ClauseNext m) b ds (inl c) = none c.1.1
no_body (ClauseNext m) b ds (inr c) = no_pattern c.0 c.1 c.2
no_body (Else q e one) b ds c = none c.1.1
no_body (ElseOpen q e one) b ds c = none c.4.1

-- Types and patterns.

no_use : (u : TypeUse) (t : Written) (ds : List Declaration) → AfterUse u t [] ds → ⊥
no_use (ForField d n q fs) t ds c = no_type_list S.RoundClose c.0 c.1 c.2
no_use (ForSignatureParameter h g lent) t ds c = no_further_signature_parameters c.0 c.1 c.2
no_use (ForParameter h lent n q) t ds c = no_further_parameters c.0 c.1 c.2
no_use (ForResult (OfFunction h)) t ds c = none c.3.1
no_use (ForResult (OfSignature h g)) t ds c = no_static_end c.0 c.1 c.2
no_use (ForResultPart o q parts) t ds c = no_type_list S.RoundClose c.0 c.1 c.2
no_use (ForAnnotation b bs n q) t ds c = no_after_bind b bs (record { name = n; place = q; annotation = Some t }) ds c
no_use (ForStaticArgument b n q st) t ds c = no_further_types S.SquareClose c.0 c.1 c.2

no_after_type : (o : List OpenType) (u : TypeUse) (t : Written) (ds : List Declaration) → AfterType o u t [] ds → ⊥
no_after_type [] u t ds c = no_use u t ds c
no_after_type (o ∷ os) u t ds c = no_further_types S.SquareClose c.0 c.1 c.2

no_type_arguments : (n : Name) (q : Place) (o : List OpenType) (u : TypeUse) (args : Writtens) (rest : List Token) (ds : List Declaration) → TypeArguments [] args rest → AfterType o u (WrittenName n q args) rest ds → ⊥
no_type_arguments n q o u NoWritten rest ds c k = no_after_type o u (WrittenName n q NoWritten) ds (subst (λ l. AfterType o u (WrittenName n q NoWritten) l ds) (sym c) k)
no_type_arguments n q o u (MoreWritten t more) rest ds c k = none c.2.1

no_in_type : (x : TypePosition) (o : List OpenType) (u : TypeUse) (ds : List Declaration) → InTypeFrom x o u [] ds → ⊥
no_in_type TypeWanted o u ds c = no_type c.0 c.1 c.2
no_in_type (TypeNamed n q) o u ds c = no_type_arguments n q o u c.0 c.1 ds c.2 c.3
no_in_type (TypeDone t) o u ds c = no_after_type o u t ds c

no_after_pattern : (o : List OpenPattern) (b : Body) (m : OpenMatch) (q : Pattern) (ds : List Declaration) → AfterPatterns o b m q [] ds → ⊥
no_after_pattern [] b m q ds c = none c.3.1
no_after_pattern (o ∷ os) b m q ds c = no_further_patterns c.0 c.1 c.2

no_pattern_fields : (n : Name) (q : Place) (o : List OpenPattern) (b : Body) (m : OpenMatch) (ps : Patterns) (rest : List Token) (ds : List Declaration) → PatternFields [] ps rest → AfterPatterns o b m (ConstructorPattern n q ps) rest ds → ⊥
no_pattern_fields n q o b m NoPatterns rest ds c k = no_after_pattern o b m (ConstructorPattern n q NoPatterns) ds (subst (λ l. AfterPatterns o b m (ConstructorPattern n q NoPatterns) l ds) (sym c) k)
no_pattern_fields n q o b m (MorePatterns x more) rest ds c k = none c.2.1

no_in_pattern : (x : PatternPosition) (o : List OpenPattern) (b : Body) (m : OpenMatch) (ds : List Declaration) → InPatternFrom x o b m [] ds → ⊥
no_in_pattern PatternWanted o b m ds c = no_pattern c.0 c.1 c.2
no_in_pattern (PatternMinus q) o b m ds c = none c.3
no_in_pattern (PatternNamed n q) o b m ds c = no_pattern_fields n q o b m c.0 c.1 ds c.2 c.3
no_in_pattern (PatternDone x) o b m ds c = no_after_pattern o b m x ds c

no_kind : (k : FunKind) (cs : List CreditMark) (keyword name : List Token) → Kind' [] k cs keyword → Sees S.Fun keyword name → ⊥
no_kind K.Fip cs keyword name c s = none c.1.1
no_kind K.Fbip cs keyword name c s = none c.1.1
no_kind K.Fun [] keyword name c s = none (c ∙ s.1)
no_kind K.Fun (x ∷ cs) keyword name c s = c

-- Between declarations nothing is lacking.
no_program : (ds : List Declaration) → Spells [] ds → ds ≡ []
no_program [] c = refl
no_program (DataDeclaration d ∷ ds) c = let k = c.1 in none k.4.1
no_program (FunctionDeclaration f ∷ ds) c = let k = c.1 in absurd (no_kind f.kind f.credits k.0 k.1 k.3 k.4)

pub ends_in : (done : List Declaration) (s : State) (ds : List Declaration) → From s [] ds → ended_in done s ≡ Some (done ++ ds)
ends_in done Top ds c = ap Some (sym (append-nil done) ∙ ap (λ l. done ++ l) (sym (no_program ds c)))
ends_in done (InFunction h) ds c = absurd (no_function h ds c)
ends_in done (InData h) ds c = absurd (no_data h ds c)
ends_in done (InType x o u) ds c = absurd (no_in_type x o u ds c)
ends_in done (InPattern x o b m) ds c = absurd (no_in_pattern x o b m ds c)
ends_in done (InBody x b) ds c = absurd (no_body x b ds c)
