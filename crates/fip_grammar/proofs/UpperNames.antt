-- The names of the constructors in a source are upper-case names: the machine takes a constructor's name from an Upper
-- token, and it hands on the data types of a program as it took them.
use Rattle.std.proofs.Common.{◌≡◌, ℕ, ◌+◌, Bool, true, false, List, [], ◌∷◌, ◌++◌, Option, Some, None, refl, subst}
use Rattle.fip_language.proofs.Plain.{every_last}
use Rattle.fip_language.specs.declared.Place.{Place}
use Rattle.fip_language.specs.declared.Operator.{Operator}
use Rattle.fip_language.specs.declared.Operator.TheVariants as O
use Rattle.fip_language.specs.Core.{Name, Written, WrittenName, NoWritten, Result, OneResult, TupleResult, TypeParameter, Data}
use Rattle.fip_language.specs.Surface.{Bind, Pattern, ConstructorPattern, NoPatterns, Expression, Variable, Constructor, NoExpressions, Block, Last, Declaration, DataDeclaration, FunctionDeclaration, Program}
use Rattle.fip_grammar.specs.declared.Sign.{Sign}
use Rattle.fip_grammar.specs.declared.Sign.TheVariants as S
use Rattle.fip_grammar.specs.Token.{Token, Word, Lower, Upper, Number, Operate, Mark}
use Rattle.fip_grammar.specs.Machine.{Machine, start, then_next, machine_step, machine_end, FunctionHead, SignatureHead, ResultOwner, OfSignature, OfFunction, FunctionHeading, FunctionKeyword, CreditSize, FunctionName, FunctionStart, StaticName, StaticStart, SignatureKeyword, SignatureOpen, SignatureFirst, SignatureNext, SignatureColon, ResultStart, StaticEnd, ParametersOpen, ParameterFirst, ParameterNext, ParameterName, ParameterColon, ResultColon, BodyOpen, DataHeading, DataName, DataStart, DataParameter, DataParameterEnd, DataOpen, ConstructorFirst, ConstructorNext, ConstructorStart, ConstructorEnd, Opener, MatchOpener, IfOpener, OpenMatch, Use, ForArguments, ForFields, ForParenthesis, ForBracket, ForTuple, ForClause, ForYes, ForNo, Level, Body, Binds, Alone, Bracketed, BodyPosition, AtBlock, LetStart, BindStart, BindNamed, LetEquals, AtOperand, LowerName, CallOpen, ArgumentFirst, UpperName, Minus, Parenthesis, AtOperator, ClauseNext, Else, ElseOpen, OpenType, TypePosition, TypeWanted, TypeNamed, TypeDone, TypeUse, ForField, ForSignatureParameter, ForParameter, ForResult, ForResultPart, ForAnnotation, ForStaticArgument, OpenPattern, PatternPosition, PatternWanted, PatternMinus, PatternNamed, PatternDone, State, Top, InFunction, InData, InType, InPattern, InBody, Next, Refused, Stays, Declares, step_top, with_static, with_signature, with_constructor, static_end, body_open, type_wanted, signature_next, parameter_name, parameter_next, step_function, constructor_first, constructor_end, step_data, let_equals, is_empty, refused_where, in_body, end_bind, bind_start, after_one_result, after_tuple_result, after_type, type_done, step_type, operand_start, tightness_of, Tightness, Comparison, Sum, Product, Pending, applied, all_applied, none_waits, onto_block, last_in, enter, compared, after_operator, end_level, end_last, end_bound, end_head, end_expression, after_operand, pattern_wanted, pattern_done, step_pattern, step_body, step}
use Rattle.fip_language.specs.Every.{Every}
use Rattle.fip_language.specs.Character.{is_upper_name}
use Rattle.fip_language.specs.CoreForm.{core_form}
use Rattle.fip_language.specs.UpperNames.{HasUpperName, HaveUpperNames}
use Rattle.fip_language.specs.Prefix.{Accepted, end_outcome, or_stop, run}
use Rattle.fip_grammar.specs.Limits.{IsSpelt}
use Rattle.fip_grammar.proofs.Exact.{spelled_is_accepted}
use Rattle.fip_grammar.proofs.UpperWords.{Proper, proper_tokens}

abbrev Names : Data → Type 0
Names d = Every HasUpperName d.constructors

abbrev NamesIn : Declaration → Type 0
NamesIn (DataDeclaration d) = Names d
NamesIn (FunctionDeclaration f) = Unit {0}

-- the constructors that a state holds have upper-case names
abbrev HeldData : DataHeading → Type 0
HeldData DataName = Unit {0}
HeldData (DataStart d) = Names d
HeldData (DataParameter d) = Names d
HeldData (DataParameterEnd d) = Names d
HeldData (DataOpen d) = Names d
HeldData (ConstructorFirst d) = Names d
HeldData (ConstructorNext d) = Names d
HeldData (ConstructorStart d n q) = Names d × (is_upper_name n ≡ true)
HeldData (ConstructorEnd d) = Names d

abbrev HeldUse : TypeUse → Type 0
HeldUse (ForField d n q fs) = Names d × (is_upper_name n ≡ true)
HeldUse _ = Unit {0}

abbrev Held : State → Type 0
Held (InData h) = HeldData h
Held (InType x o u) = HeldUse u
Held _ = Unit {0}

-- what a token leads to holds only such names
abbrev Led : Next → Type 0
Led Refused = Unit {0}
Led (Stays s) = Held s
Led (Declares d) = NamesIn d

-- Functions hold no constructors.

led_static_end : (h : FunctionHead) (w : Word) → Led (static_end h w)
led_static_end h (Mark S.Comma) = tt
led_static_end h (Mark S.SquareClose) = tt
led_static_end h _ = tt

led_body_open : (h : FunctionHead) (r : Result) (w : Word) → Led (body_open h r w)
led_body_open h r (Mark S.CurlyOpen) = tt
led_body_open h r _ = tt

led_type_wanted : (o : List OpenType) (u : TypeUse) (w : Word) (p : Place) → HeldUse u → Led (type_wanted o u w p)
led_type_wanted o u (Mark S.Int) p k = k
led_type_wanted o u (Lower n) p k = k
led_type_wanted o u _ p k = tt

led_signature_next : (h : FunctionHead) (g : SignatureHead) (w : Word) (p : Place) → Led (signature_next h g w p)
led_signature_next h g (Mark S.Caret) p = tt
led_signature_next h g w p = led_type_wanted [] (ForSignatureParameter h g false) w p tt

led_parameter_name : (h : FunctionHead) (lent : Bool) (w : Word) (p : Place) → Led (parameter_name h lent w p)
led_parameter_name h lent (Lower n) p = tt
led_parameter_name h lent _ p = tt

led_parameter_next : (h : FunctionHead) (w : Word) (p : Place) → Led (parameter_next h w p)
led_parameter_next h (Mark S.Caret) p = tt
led_parameter_next h w p = led_parameter_name h false w p

led_static_start : (h : FunctionHead) (n : Name) (q : Place) (w : Word) (p : Place) → Led (step_function (StaticStart h n q) w p)
led_static_start h n q (Mark S.Colon) p = tt
led_static_start h n q w p = led_static_end (with_static h (TypeParameter n q)) w

led_signature_first : (h : FunctionHead) (g : SignatureHead) (w : Word) (p : Place) → Led (step_function (SignatureFirst h g) w p)
led_signature_first h g (Mark S.RoundClose) p = tt
led_signature_first h g w p = led_signature_next h g w p

led_result_start : (o : ResultOwner) (w : Word) (p : Place) → Led (step_function (ResultStart o) w p)
led_result_start o (Mark S.RoundOpen) p = tt
led_result_start o w p = led_type_wanted [] (ForResult o) w p tt

led_parameter_first : (h : FunctionHead) (w : Word) (p : Place) → Led (step_function (ParameterFirst h) w p)
led_parameter_first h (Mark S.RoundClose) p = tt
led_parameter_first h w p = led_parameter_next h w p

led_function : (h : FunctionHeading) (w : Word) (p : Place) → Led (step_function h w p)
led_function (FunctionKeyword k cs) (Mark S.Fun) p = tt
led_function (FunctionKeyword k cs) (Operate O.Add) p = tt
led_function (FunctionKeyword k cs) _ p = tt
led_function (CreditSize k cs q) (Number ds) p = tt
led_function (CreditSize k cs q) _ p = tt
led_function (FunctionName k cs) (Lower n) p = tt
led_function (FunctionName k cs) _ p = tt
led_function (FunctionStart h) (Mark S.SquareOpen) p = tt
led_function (FunctionStart h) (Mark S.RoundOpen) p = tt
led_function (FunctionStart h) _ p = tt
led_function (StaticName h) (Lower n) p = tt
led_function (StaticName h) _ p = tt
led_function (StaticStart h n q) w p = led_static_start h n q w p
led_function (SignatureKeyword h g) (Mark S.Fun) p = tt
led_function (SignatureKeyword h g) _ p = tt
led_function (SignatureOpen h g) (Mark S.RoundOpen) p = tt
led_function (SignatureOpen h g) _ p = tt
led_function (SignatureFirst h g) w p = led_signature_first h g w p
led_function (SignatureNext h g) w p = led_signature_next h g w p
led_function (SignatureColon h g) (Mark S.Colon) p = tt
led_function (SignatureColon h g) _ p = tt
led_function (ResultStart o) w p = led_result_start o w p
led_function (StaticEnd h) w p = led_static_end h w
led_function (ParametersOpen h) (Mark S.RoundOpen) p = tt
led_function (ParametersOpen h) _ p = tt
led_function (ParameterFirst h) w p = led_parameter_first h w p
led_function (ParameterNext h) w p = led_parameter_next h w p
led_function (ParameterName h) w p = led_parameter_name h true w p
led_function (ParameterColon h lent n q) (Mark S.Colon) p = tt
led_function (ParameterColon h lent n q) _ p = tt
led_function (ResultColon h) (Mark S.Colon) p = tt
led_function (ResultColon h) _ p = tt
led_function (BodyOpen h r) w p = led_body_open h r w

led_let_equals : (bs : List Bind) (y : Body) (w : Word) → Led (let_equals bs y w)
led_let_equals bs y (Mark S.Equals) = tt
led_let_equals bs y _ = tt

led_where : (refused : Bool) (n : Next) → Led n → Led (refused_where refused n)
led_where true n k = tt
led_where false n k = k

led_end_bind : (y : Body) (bs : Binds) (x : Bind) (w : Word) → Led (end_bind y bs x w)
led_end_bind y Alone x w = led_let_equals (x ∷ []) y w
led_end_bind y (Bracketed done) x (Mark S.Comma) = tt
led_end_bind y (Bracketed done) x (Mark S.RoundClose) = led_where (is_empty done) (in_body (LetEquals (done ++ x ∷ [])) y) tt
led_end_bind y (Bracketed done) x _ = tt

led_bind_start : (bs : Binds) (y : Body) (w : Word) (p : Place) → Led (bind_start bs y w p)
led_bind_start bs y (Lower n) p = tt
led_bind_start bs y (Mark S.Underscore) p = tt
led_bind_start bs y _ p = tt

led_after_one : (o : ResultOwner) (r : Result) (w : Word) → Led (after_one_result o r w)
led_after_one (OfFunction h) r w = led_body_open h r w
led_after_one (OfSignature h g) r w = led_static_end (with_signature h g r) w

led_after_tuple : (o : ResultOwner) (r : Result) → Led (after_tuple_result o r)
led_after_tuple (OfFunction h) r = tt
led_after_tuple (OfSignature h g) r = tt

-- Bodies and patterns.

led_operand : (y : Body) (w : Word) (p : Place) → Led (operand_start y w p)
led_operand y (Lower n) p = tt
led_operand y (Upper n) p = tt
led_operand y (Number ds) p = tt
led_operand y (Operate O.Subtract) p = tt
led_operand y (Mark S.RoundOpen) p = tt
led_operand y (Mark S.Match) p = tt
led_operand y (Mark S.MatchBang) p = tt
led_operand y (Mark S.If) p = tt
led_operand y _ p = tt

led_compared : (c : Option Pending) (y : Body) (v : Expression) (o : Operator) (p : Place) → Led (compared c y v o p)
led_compared (Some c) y v o p = tt
led_compared None y v o p = tt

led_operator : (t : Tightness) (y : Body) (v : Expression) (o : Operator) (p : Place) → Led (after_operator t y v o p)
led_operator Product y v o p = tt
led_operator Sum y v o p = tt
led_operator Comparison y v o p = led_compared y.partial.waiting.comparison y (applied y.partial.waiting.sum (applied y.partial.waiting.product v)) o p

led_level : (y : Body) (u : Use) (e : Block) (s : Sign) → Led (end_level y u e s)
led_level y (ForArguments n q ts done) e S.Comma = tt
led_level y (ForArguments n q ts done) e S.RoundClose = tt
led_level y (ForArguments n q ts done) e _ = tt
led_level y (ForFields n q done) e S.Comma = tt
led_level y (ForFields n q done) e S.RoundClose = tt
led_level y (ForFields n q done) e _ = tt
led_level y (ForParenthesis q) e S.RoundClose = tt
led_level y (ForParenthesis q) e S.Comma = tt
led_level y (ForParenthesis q) e _ = tt
led_level y ForBracket e S.RoundClose = tt
led_level y ForBracket e _ = tt
led_level y (ForTuple q done) e S.Comma = tt
led_level y (ForTuple q done) e S.RoundClose = tt
led_level y (ForTuple q done) e _ = tt
led_level y (ForClause m q) e S.Semicolon = tt
led_level y (ForClause m q) e S.CurlyClose = tt
led_level y (ForClause m q) e _ = tt
led_level y (ForYes q c) e S.CurlyClose = tt
led_level y (ForYes q c) e _ = tt
led_level y (ForNo q c one) e S.CurlyClose = tt
led_level y (ForNo q c one) e _ = tt

led_last : (h : FunctionHead) (r : Result) (ls : List Level) (e : Block) (s : Sign) → Led (end_last h r ls e s)
led_last h r [] e S.CurlyClose = tt
led_last h r [] e _ = tt
led_last h r (l ∷ ls) e s = led_level (record { head = h; gives = r; levels = ls; partial = l.before }) l.purpose e s

led_bound : (y : Body) (bs : List Bind) (e : Expression) (s : Sign) → Led (end_bound y bs e s)
led_bound y bs e S.Semicolon = tt
led_bound y bs e _ = tt

led_head : (y : Body) (o : Opener) (e : Expression) (s : Sign) → Led (end_head y o e s)
led_head y (MatchOpener w d q) e S.CurlyOpen = tt
led_head y (MatchOpener w d q) e _ = tt
led_head y (IfOpener w q) e S.CurlyOpen = tt
led_head y (IfOpener w q) e _ = tt

led_expression : (y : Body) (os : List Opener) (bs : Option (List Bind)) (e : Expression) (s : Sign) → Led (end_expression y os bs e s)
led_expression y (o ∷ os) bs e s = led_head (record y { partial = record y.partial { openers = os; waiting = none_waits } }) o e s
led_expression y [] (Some bs) e s = led_bound y bs e s
led_expression y [] None e s = led_last y.head y.gives y.levels (onto_block y.partial.lets (Last e)) s

led_after_operand : (y : Body) (v : Expression) (w : Word) (p : Place) → Led (after_operand y v w p)
led_after_operand y v (Operate o) p = led_operator (tightness_of o) y v o p
led_after_operand y v (Mark s) p = led_expression y y.partial.openers y.partial.binds (all_applied y.partial.waiting v) s
led_after_operand y v _ p = tt

led_pattern_wanted : (o : List OpenPattern) (y : Body) (m : OpenMatch) (w : Word) (p : Place) → Led (pattern_wanted o y m w p)
led_pattern_wanted o y m (Mark S.Underscore) p = tt
led_pattern_wanted o y m (Lower n) p = tt
led_pattern_wanted o y m (Upper n) p = tt
led_pattern_wanted o y m (Number ds) p = tt
led_pattern_wanted o y m (Operate O.Subtract) p = tt
led_pattern_wanted o y m _ p = tt

led_pattern_done : (x : Pattern) (o : List OpenPattern) (y : Body) (m : OpenMatch) (w : Word) → Led (pattern_done x o y m w)
led_pattern_done x [] y m (Mark S.Arrow) = tt
led_pattern_done x [] y m _ = tt
led_pattern_done x (o ∷ os) y m (Mark S.Comma) = tt
led_pattern_done x (o ∷ os) y m (Mark S.RoundClose) = tt
led_pattern_done x (o ∷ os) y m _ = tt

led_pattern : (x : PatternPosition) (o : List OpenPattern) (y : Body) (m : OpenMatch) (w : Word) (p : Place) → Led (step_pattern x o y m w p)
led_pattern PatternWanted o y m w p = led_pattern_wanted o y m w p
led_pattern (PatternMinus q) o y m (Number ds) p = tt
led_pattern (PatternMinus q) o y m _ p = tt
led_pattern (PatternNamed n q) o y m (Mark S.RoundOpen) p = tt
led_pattern (PatternNamed n q) o y m w p = led_pattern_done (ConstructorPattern n q NoPatterns) o y m w
led_pattern (PatternDone x) o y m w p = led_pattern_done x o y m w

led_block : (y : Body) (w : Word) (p : Place) → Led (step_body AtBlock y w p)
led_block y (Mark S.Let) p = tt
led_block y w p = led_operand (last_in y) w p

led_let : (y : Body) (w : Word) (p : Place) → Led (step_body LetStart y w p)
led_let y (Mark S.RoundOpen) p = tt
led_let y w p = led_bind_start Alone y w p

led_named : (bs : Binds) (n : Name) (q : Place) (y : Body) (w : Word) (p : Place) → Led (step_body (BindNamed bs n q) y w p)
led_named bs n q y (Mark S.Colon) p = tt
led_named bs n q y w p = led_end_bind y bs (record { name = n; place = q; annotation = None }) w

led_lower : (n : Name) (q : Place) (y : Body) (w : Word) (p : Place) → Led (step_body (LowerName n q) y w p)
led_lower n q y (Mark S.SquareOpen) p = tt
led_lower n q y (Mark S.RoundOpen) p = tt
led_lower n q y w p = led_after_operand y (Variable n q) w p

led_upper : (n : Name) (q : Place) (y : Body) (w : Word) (p : Place) → Led (step_body (UpperName n q) y w p)
led_upper n q y (Mark S.RoundOpen) p = tt
led_upper n q y w p = led_after_operand y (Constructor n q NoExpressions) w p

led_argument : (n : Name) (q : Place) (ts : List Written) (y : Body) (w : Word) (p : Place) → Led (step_body (ArgumentFirst n q ts) y w p)
led_argument n q ts y (Mark S.RoundClose) p = tt
led_argument n q ts y w p = led_operand (enter y (ForArguments n q ts [])) w p

led_parenthesis : (q : Place) (y : Body) (w : Word) (p : Place) → Led (step_body (Parenthesis q) y w p)
led_parenthesis q y (Mark S.Let) p = tt
led_parenthesis q y w p = led_operand (enter y (ForParenthesis q)) w p

led_clause : (m : OpenMatch) (y : Body) (w : Word) (p : Place) → Led (step_body (ClauseNext m) y w p)
led_clause m y (Mark S.CurlyClose) p = tt
led_clause m y w p = led_pattern_wanted [] y m w p

led_body : (x : BodyPosition) (y : Body) (w : Word) (p : Place) → Led (step_body x y w p)
led_body AtBlock y w p = led_block y w p
led_body LetStart y w p = led_let y w p
led_body (BindStart done) y w p = led_bind_start (Bracketed done) y w p
led_body (BindNamed bs n q) y w p = led_named bs n q y w p
led_body (LetEquals bs) y w p = led_let_equals bs y w
led_body AtOperand y w p = led_operand y w p
led_body (LowerName n q) y w p = led_lower n q y w p
led_body (CallOpen n q ts) y (Mark S.RoundOpen) p = tt
led_body (CallOpen n q ts) y _ p = tt
led_body (ArgumentFirst n q ts) y w p = led_argument n q ts y w p
led_body (UpperName n q) y w p = led_upper n q y w p
led_body (Minus q) y (Number ds) p = tt
led_body (Minus q) y _ p = tt
led_body (Parenthesis q) y w p = led_parenthesis q y w p
led_body (AtOperator v) y w p = led_after_operand y v w p
led_body (ClauseNext m) y w p = led_clause m y w p
led_body (Else q c one) y (Mark S.Else) p = tt
led_body (Else q c one) y _ p = tt
led_body (ElseOpen q c one) y (Mark S.CurlyOpen) p = tt
led_body (ElseOpen q c one) y _ p = tt

-- Data types and types.

one_more : (d : Data) (n : Name) (q : Place) (fs : List Written) → Names d → is_upper_name n ≡ true → Names (with_constructor d (record { name = n; place = q; fields = fs }))
one_more d n q fs h k = every_last HasUpperName d.constructors (record { name = n; place = q; fields = fs }) h k

led_constructor_first : (d : Data) (w : Word) (p : Place) → Proper w → Names d → Led (constructor_first d w p)
led_constructor_first d (Upper n) p u h = (h, u)
led_constructor_first d _ p u h = tt

led_constructor_end : (d : Data) (w : Word) → Names d → Led (constructor_end d w)
led_constructor_end d (Mark S.Semicolon) h = h
led_constructor_end d (Mark S.CurlyClose) h = h
led_constructor_end d _ h = tt

led_constructor_start : (d : Data) (n : Name) (q : Place) (w : Word) (p : Place) → Names d → is_upper_name n ≡ true → Led (step_data (ConstructorStart d n q) w p)
led_constructor_start d n q (Mark S.RoundOpen) p h k = (h, k)
led_constructor_start d n q w p h k = led_constructor_end (with_constructor d (record { name = n; place = q; fields = [] })) w (one_more d n q [] h k)

led_constructor_next : (d : Data) (w : Word) (p : Place) → Proper w → Names d → Led (step_data (ConstructorNext d) w p)
led_constructor_next d (Mark S.CurlyClose) p u h = h
led_constructor_next d w p u h = led_constructor_first d w p u h

led_data : (x : DataHeading) (w : Word) (p : Place) → Proper w → HeldData x → Led (step_data x w p)
led_data DataName (Lower n) p u h = tt
led_data DataName _ p u h = tt
led_data (DataStart d) (Mark S.SquareOpen) p u h = h
led_data (DataStart d) (Mark S.CurlyOpen) p u h = h
led_data (DataStart d) _ p u h = tt
led_data (DataParameter d) (Lower n) p u h = h
led_data (DataParameter d) _ p u h = tt
led_data (DataParameterEnd d) (Mark S.Comma) p u h = h
led_data (DataParameterEnd d) (Mark S.SquareClose) p u h = h
led_data (DataParameterEnd d) _ p u h = tt
led_data (DataOpen d) (Mark S.CurlyOpen) p u h = h
led_data (DataOpen d) _ p u h = tt
led_data (ConstructorFirst d) w p u h = led_constructor_first d w p u h
led_data (ConstructorNext d) w p u h = led_constructor_next d w p u h
led_data (ConstructorStart d n q) w p u h = led_constructor_start d n q w p h.0 h.1
led_data (ConstructorEnd d) w p u h = led_constructor_end d w h

led_after_type : (u : TypeUse) (t : Written) (w : Word) → HeldUse u → Led (after_type u t w)
led_after_type (ForField d n q fs) t (Mark S.Comma) h = h
led_after_type (ForField d n q fs) t (Mark S.RoundClose) h = one_more d n q (fs ++ t ∷ []) h.0 h.1
led_after_type (ForField d n q fs) t _ h = tt
led_after_type (ForSignatureParameter x g lent) t (Mark S.Comma) h = tt
led_after_type (ForSignatureParameter x g lent) t (Mark S.RoundClose) h = tt
led_after_type (ForSignatureParameter x g lent) t _ h = tt
led_after_type (ForParameter x lent n q) t (Mark S.Comma) h = tt
led_after_type (ForParameter x lent n q) t (Mark S.RoundClose) h = tt
led_after_type (ForParameter x lent n q) t _ h = tt
led_after_type (ForResult o) t w h = led_after_one o (OneResult t) w
led_after_type (ForResultPart o q ts) t (Mark S.Comma) h = tt
led_after_type (ForResultPart o q ts) t (Mark S.RoundClose) h =
    let r = TupleResult q (ts ++ t ∷ []) in
    led_where (is_empty ts) (after_tuple_result o r) (led_after_tuple o r)
led_after_type (ForResultPart o q ts) t _ h = tt
led_after_type (ForAnnotation y bs n q) t w h = led_end_bind y bs (record { name = n; place = q; annotation = Some t }) w
led_after_type (ForStaticArgument y n q ts) t (Mark S.Comma) h = tt
led_after_type (ForStaticArgument y n q ts) t (Mark S.SquareClose) h = tt
led_after_type (ForStaticArgument y n q ts) t _ h = tt

led_type_done : (o : List OpenType) (u : TypeUse) (t : Written) (w : Word) → HeldUse u → Led (type_done o u t w)
led_type_done [] u t w h = led_after_type u t w h
led_type_done (o ∷ os) u t (Mark S.Comma) h = h
led_type_done (o ∷ os) u t (Mark S.SquareClose) h = h
led_type_done (o ∷ os) u t _ h = tt

led_type : (x : TypePosition) (o : List OpenType) (u : TypeUse) (w : Word) (p : Place) → HeldUse u → Led (step_type x o u w p)
led_type TypeWanted o u w p h = led_type_wanted o u w p h
led_type (TypeNamed n q) o u (Mark S.SquareOpen) p h = h
led_type (TypeNamed n q) o u w p h = led_type_done o u (WrittenName n q NoWritten) w h
led_type (TypeDone t) o u w p h = led_type_done o u t w h

led_top : (w : Word) (p : Place) → Led (step_top w p)
led_top (Mark S.Data) p = tt
led_top (Mark S.Fip) p = tt
led_top (Mark S.Fbip) p = tt
led_top (Mark S.Fun) p = tt
led_top _ p = tt

led_step : (s : State) (w : Word) (p : Place) → Proper w → Held s → Led (step s w p)
led_step Top w p u h = led_top w p
led_step (InFunction x) w p u h = led_function x w p
led_step (InData x) w p u h = led_data x w p u h
led_step (InType x o y) w p u h = led_type x o y w p h
led_step (InPattern x o y m) w p u h = led_pattern x o y m w p
led_step (InBody x y) w p u h = led_body x y w p

-- The machine.

abbrev Good : Machine → Type 0
Good m = Every NamesIn m.done × Held m.state

good_next : (done : List Declaration) (n : Next) (m : Machine) → Every NamesIn done → Led n → then_next done n ≡ Some m → Good m
good_next done Refused m h k e = cc
good_next done (Stays s) m h k e =
    let same : record { done = done; state = s } ≡ m = cc in
    subst Good same (h, k)
good_next done (Declares d) m h k e =
    let same : record { done = done ++ d ∷ []; state = Top } ≡ m = cc in
    subst Good same (every_last NamesIn done d h k, tt)

abbrev ProperToken : Token → Type 0
ProperToken t = Proper t.word

names_end : (done : List Declaration) (s : State) (i : ℕ) (x : Program) → Every NamesIn done → end_outcome (machine_end (record { done = done; state = s })) i ≡ Accepted x → Every NamesIn x
names_end done Top i x h e = let same : done ≡ x = cc in subst (Every NamesIn) same h
names_end done (InFunction y) i x h e = cc
names_end done (InData y) i x h e = cc
names_end done (InType q o u) i x h e = cc
names_end done (InPattern q o b m) i x h e = cc
names_end done (InBody q b) i x h e = cc

names_on : (ts : List Token) (o : Option Machine) (i : ℕ) (x : Program) → ((m : Machine) → o ≡ Some m → run machine_step machine_end m ts (i + 1) ≡ Accepted x → Every NamesIn x) → or_stop o i (λ m. run machine_step machine_end m ts (i + 1)) ≡ Accepted x → Every NamesIn x
names_on ts None i x more e = cc
names_on ts (Some m) i x more e = more m refl e

names_run : (ts : List Token) (m : Machine) (i : ℕ) (x : Program) → Every ProperToken ts → Good m → run machine_step machine_end m ts i ≡ Accepted x → Every NamesIn x
names_run [] m i x u g e = names_end m.done m.state i x g.0 e
names_run (t ∷ ts) m i x u g e = names_on ts (machine_step m t) i x (λ m' k r. names_run ts m' (i + 1) x u.1 (good_next m.done (step m.state t.word t.place) m' g.0 (led_step m.state t.word t.place u.0 g.1) k) r) e

core_names : (ds : Program) → Every NamesIn ds → HaveUpperNames (core_form ds).types
core_names [] h = tt
core_names (DataDeclaration d ∷ ds) h = (h.0, core_names ds h.1)
core_names (FunctionDeclaration f ∷ ds) h = core_names ds h.1

-- the constructors of a source have upper-case names
pub spelt_upper_names : (source : List ℕ) (p : Program) → IsSpelt source p → HaveUpperNames (core_form p).types
spelt_upper_names source p c = core_names p (names_run c.0 start 0 p (proper_tokens source c.0 c.1 c.2) (tt, tt) (spelled_is_accepted c.0 p c.3))
