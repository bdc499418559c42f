-- Each state knows of the last token what a - and a literal require of it: whether it ends an operand, and whether it
-- is a - that isn't binary.
use Rattle.std.proofs.Common.{◌≡◌, Bool, true, false, not, ◌&&◌, List, [], ◌∷◌, ◌++◌, Option, Some, None, refl, ap, subst}
use Rattle.fip_language.specs.declared.Place.{Place}
use Rattle.fip_language.specs.declared.Operator.{Operator}
use Rattle.fip_language.specs.declared.Operator.TheVariants as O
use Rattle.fip_language.specs.Core.{Name, Written, WrittenName, NoWritten, Result, OneResult, TupleResult, TypeParameter, Data}
use Rattle.fip_language.specs.Surface.{Bind, Pattern, ConstructorPattern, NoPatterns, Expression, Variable, Constructor, NoExpressions, Block, Last, Declaration}
use Rattle.fip_grammar.specs.declared.Sign.{Sign}
use Rattle.fip_grammar.specs.declared.Sign.TheVariants as S
use Rattle.fip_grammar.specs.Token.{Word, Lower, Upper, Number, Operate, Mark}
use Rattle.fip_grammar.specs.Machine.{FunctionHead, SignatureHead, ResultOwner, OfSignature, OfFunction, FunctionHeading, FunctionKeyword, CreditSize, FunctionName, FunctionStart, StaticName, StaticStart, SignatureKeyword, SignatureOpen, SignatureFirst, SignatureNext, SignatureColon, ResultStart, StaticEnd, ParametersOpen, ParameterFirst, ParameterNext, ParameterName, ParameterColon, ResultColon, BodyOpen, DataHeading, DataName, DataStart, DataParameter, DataParameterEnd, DataOpen, ConstructorFirst, ConstructorNext, ConstructorStart, ConstructorEnd, Opener, MatchOpener, IfOpener, OpenMatch, Use, ForArguments, ForFields, ForParenthesis, ForBracket, ForTuple, ForClause, ForYes, ForNo, Level, Body, Binds, Alone, Bracketed, BodyPosition, AtBlock, LetStart, BindStart, BindNamed, LetEquals, AtOperand, LowerName, CallOpen, ArgumentFirst, UpperName, Minus, Parenthesis, AtOperator, ClauseNext, Else, ElseOpen, OpenType, TypePosition, TypeWanted, TypeNamed, TypeDone, TypeUse, ForField, ForSignatureParameter, ForParameter, ForResult, ForResultPart, ForAnnotation, ForStaticArgument, OpenPattern, PatternPosition, PatternWanted, PatternMinus, PatternNamed, PatternDone, State, Top, InFunction, InData, InType, InPattern, InBody, Next, Refused, Stays, Declares, step_top, with_static, with_signature, with_constructor, static_end, body_open, type_wanted, signature_next, parameter_name, parameter_next, step_function, constructor_first, constructor_end, step_data, let_equals, is_empty, refused_where, in_body, end_bind, bind_start, after_one_result, after_tuple_result, after_type, type_done, step_type, operand_start, tightness_of, Tightness, Comparison, Sum, Product, Pending, applied, all_applied, none_waits, onto_block, last_in, enter, compared, after_operator, end_level, end_last, end_bound, end_head, end_expression, after_operand, pattern_wanted, pattern_done, step_pattern, step_body, step}
use Rattle.fip_grammar.specs.Limits.{Seen, nothing_seen, following, is_minus, limit}
use Rattle.fip_language.proofs.Facts.{not_of as before_operand}

-- the literal after a - that isn't binary comes next
abbrev pub negates : State → Bool
negates (InBody (Minus q) b) = true
negates (InPattern (PatternMinus q) o b m) = true
negates _ = false

-- what comes next: an operand or a pattern, or what may occur after an operand, or something else
pub data Comes : Type 0 where
  Operand : Comes
  Operator' : Comes
  Other : Comes

abbrev pub comes_in_body : BodyPosition → Comes
comes_in_body AtBlock = Operand
comes_in_body AtOperand = Operand
comes_in_body (ArgumentFirst n q ts) = Operand
comes_in_body (Parenthesis q) = Operand
comes_in_body (ClauseNext m) = Operand
comes_in_body (LowerName n q) = Operator'
comes_in_body (UpperName n q) = Operator'
comes_in_body (AtOperator v) = Operator'
comes_in_body _ = Other

abbrev pub comes_in_pattern : PatternPosition → Comes
comes_in_pattern PatternWanted = Operand
comes_in_pattern _ = Other

abbrev pub comes : State → Comes
comes (InBody q b) = comes_in_body q
comes (InPattern q o b m) = comes_in_pattern q
comes _ = Other

-- whether the last token ends an operand, as far as what comes next reports it
abbrev pub Ends : Comes → Bool → Type 0
Ends Operand e = e ≡ false
Ends Operator' e = e ≡ true
Ends Other e = Unit {0}

-- The state knows this of the last token.
abbrev pub Agrees : State → Seen → Type 0
Agrees s b = (b.is_sign ≡ negates s) × Ends (comes s) b.ends_operand

-- what a token leads to knows of it
abbrev Knows : Seen → Word → Next → Type 0
Knows b w Refused = Unit {0}
Knows b w (Stays s) = Agrees s (following b w)
Knows b w (Declares d) = Agrees Top (following b w)

-- Heads of functions, data types and types: no - comes, and nothing is required of the last token.

know_static_end : (b : Seen) (h : FunctionHead) (w : Word) → Knows b w (static_end h w)
know_static_end b h (Mark S.Comma) = (refl, tt)
know_static_end b h (Mark S.SquareClose) = (refl, tt)
know_static_end b h _ = tt

know_body_open : (b : Seen) (h : FunctionHead) (r : Result) (w : Word) → Knows b w (body_open h r w)
know_body_open b h r (Mark S.CurlyOpen) = (refl, refl)
know_body_open b h r _ = tt

know_type_wanted : (b : Seen) (o : List OpenType) (u : TypeUse) (w : Word) (p : Place) → Knows b w (type_wanted o u w p)
know_type_wanted b o u (Mark S.Int) p = (refl, tt)
know_type_wanted b o u (Lower n) p = (refl, tt)
know_type_wanted b o u _ p = tt

know_signature_next : (b : Seen) (h : FunctionHead) (g : SignatureHead) (w : Word) (p : Place) → Knows b w (signature_next h g w p)
know_signature_next b h g (Mark S.Caret) p = (refl, tt)
know_signature_next b h g w p = know_type_wanted b [] (ForSignatureParameter h g false) w p

know_parameter_name : (b : Seen) (h : FunctionHead) (lent : Bool) (w : Word) (p : Place) → Knows b w (parameter_name h lent w p)
know_parameter_name b h lent (Lower n) p = (refl, tt)
know_parameter_name b h lent _ p = tt

know_parameter_next : (b : Seen) (h : FunctionHead) (w : Word) (p : Place) → Knows b w (parameter_next h w p)
know_parameter_next b h (Mark S.Caret) p = (refl, tt)
know_parameter_next b h w p = know_parameter_name b h false w p

know_top : (b : Seen) (w : Word) (p : Place) → Knows b w (step_top w p)
know_top b (Mark S.Data) p = (refl, tt)
know_top b (Mark S.Fip) p = (refl, tt)
know_top b (Mark S.Fbip) p = (refl, tt)
know_top b (Mark S.Fun) p = (refl, tt)
know_top b _ p = tt

know_static_start : (b : Seen) (h : FunctionHead) (n : Name) (q : Place) (w : Word) (p : Place) → Knows b w (step_function (StaticStart h n q) w p)
know_static_start b h n q (Mark S.Colon) p = (refl, tt)
know_static_start b h n q w p = know_static_end b (with_static h (TypeParameter n q)) w

know_signature_first : (b : Seen) (h : FunctionHead) (g : SignatureHead) (w : Word) (p : Place) → Knows b w (step_function (SignatureFirst h g) w p)
know_signature_first b h g (Mark S.RoundClose) p = (refl, tt)
know_signature_first b h g w p = know_signature_next b h g w p

know_result_start : (b : Seen) (o : ResultOwner) (w : Word) (p : Place) → Knows b w (step_function (ResultStart o) w p)
know_result_start b o (Mark S.RoundOpen) p = (refl, tt)
know_result_start b o w p = know_type_wanted b [] (ForResult o) w p

know_parameter_first : (b : Seen) (h : FunctionHead) (w : Word) (p : Place) → Knows b w (step_function (ParameterFirst h) w p)
know_parameter_first b h (Mark S.RoundClose) p = (refl, tt)
know_parameter_first b h w p = know_parameter_next b h w p

know_function : (b : Seen) (h : FunctionHeading) (w : Word) (p : Place) → Knows b w (step_function h w p)
know_function b (FunctionKeyword k cs) (Mark S.Fun) p = (refl, tt)
know_function b (FunctionKeyword k cs) (Operate O.Add) p = (refl, tt)
know_function b (FunctionKeyword k cs) _ p = tt
know_function b (CreditSize k cs q) (Number ds) p = (refl, tt)
know_function b (CreditSize k cs q) _ p = tt
know_function b (FunctionName k cs) (Lower n) p = (refl, tt)
know_function b (FunctionName k cs) _ p = tt
know_function b (FunctionStart h) (Mark S.SquareOpen) p = (refl, tt)
know_function b (FunctionStart h) (Mark S.RoundOpen) p = (refl, tt)
know_function b (FunctionStart h) _ p = tt
know_function b (StaticName h) (Lower n) p = (refl, tt)
know_function b (StaticName h) _ p = tt
know_function b (StaticStart h n q) w p = know_static_start b h n q w p
know_function b (SignatureKeyword h g) (Mark S.Fun) p = (refl, tt)
know_function b (SignatureKeyword h g) _ p = tt
know_function b (SignatureOpen h g) (Mark S.RoundOpen) p = (refl, tt)
know_function b (SignatureOpen h g) _ p = tt
know_function b (SignatureFirst h g) w p = know_signature_first b h g w p
know_function b (SignatureNext h g) w p = know_signature_next b h g w p
know_function b (SignatureColon h g) (Mark S.Colon) p = (refl, tt)
know_function b (SignatureColon h g) _ p = tt
know_function b (ResultStart o) w p = know_result_start b o w p
know_function b (StaticEnd h) w p = know_static_end b h w
know_function b (ParametersOpen h) (Mark S.RoundOpen) p = (refl, tt)
know_function b (ParametersOpen h) _ p = tt
know_function b (ParameterFirst h) w p = know_parameter_first b h w p
know_function b (ParameterNext h) w p = know_parameter_next b h w p
know_function b (ParameterName h) w p = know_parameter_name b h true w p
know_function b (ParameterColon h lent n q) (Mark S.Colon) p = (refl, tt)
know_function b (ParameterColon h lent n q) _ p = tt
know_function b (ResultColon h) (Mark S.Colon) p = (refl, tt)
know_function b (ResultColon h) _ p = tt
know_function b (BodyOpen h r) w p = know_body_open b h r w

know_constructor_first : (b : Seen) (d : Data) (w : Word) (p : Place) → Knows b w (constructor_first d w p)
know_constructor_first b d (Upper n) p = (refl, tt)
know_constructor_first b d _ p = tt

know_constructor_end : (b : Seen) (d : Data) (w : Word) → Knows b w (constructor_end d w)
know_constructor_end b d (Mark S.Semicolon) = (refl, tt)
know_constructor_end b d (Mark S.CurlyClose) = (refl, tt)
know_constructor_end b d _ = tt

know_constructor_start : (b : Seen) (d : Data) (n : Name) (q : Place) (w : Word) (p : Place) → Knows b w (step_data (ConstructorStart d n q) w p)
know_constructor_start b d n q (Mark S.RoundOpen) p = (refl, tt)
know_constructor_start b d n q w p = know_constructor_end b (with_constructor d (record { name = n; place = q; fields = [] })) w

know_constructor_next : (b : Seen) (d : Data) (w : Word) (p : Place) → Knows b w (step_data (ConstructorNext d) w p)
know_constructor_next b d (Mark S.CurlyClose) p = (refl, tt)
know_constructor_next b d w p = know_constructor_first b d w p

know_data : (b : Seen) (h : DataHeading) (w : Word) (p : Place) → Knows b w (step_data h w p)
know_data b DataName (Lower n) p = (refl, tt)
know_data b DataName _ p = tt
know_data b (DataStart d) (Mark S.SquareOpen) p = (refl, tt)
know_data b (DataStart d) (Mark S.CurlyOpen) p = (refl, tt)
know_data b (DataStart d) _ p = tt
know_data b (DataParameter d) (Lower n) p = (refl, tt)
know_data b (DataParameter d) _ p = tt
know_data b (DataParameterEnd d) (Mark S.Comma) p = (refl, tt)
know_data b (DataParameterEnd d) (Mark S.SquareClose) p = (refl, tt)
know_data b (DataParameterEnd d) _ p = tt
know_data b (DataOpen d) (Mark S.CurlyOpen) p = (refl, tt)
know_data b (DataOpen d) _ p = tt
know_data b (ConstructorFirst d) w p = know_constructor_first b d w p
know_data b (ConstructorNext d) w p = know_constructor_next b d w p
know_data b (ConstructorStart d n q) w p = know_constructor_start b d n q w p
know_data b (ConstructorEnd d) w p = know_constructor_end b d w

know_let_equals : (b : Seen) (bs : List Bind) (y : Body) (w : Word) → Knows b w (let_equals bs y w)
know_let_equals b bs y (Mark S.Equals) = (refl, refl)
know_let_equals b bs y _ = tt

know_where : (b : Seen) (w : Word) (refused : Bool) (n : Next) → Knows b w n → Knows b w (refused_where refused n)
know_where b w true n k = tt
know_where b w false n k = k

know_end_bind : (b : Seen) (y : Body) (bs : Binds) (x : Bind) (w : Word) → Knows b w (end_bind y bs x w)
know_end_bind b y Alone x w = know_let_equals b (x ∷ []) y w
know_end_bind b y (Bracketed done) x (Mark S.Comma) = (refl, tt)
know_end_bind b y (Bracketed done) x (Mark S.RoundClose) = know_where b (Mark S.RoundClose) (is_empty done) (in_body (LetEquals (done ++ x ∷ [])) y) (refl, tt)
know_end_bind b y (Bracketed done) x _ = tt

know_bind_start : (b : Seen) (bs : Binds) (y : Body) (w : Word) (p : Place) → Knows b w (bind_start bs y w p)
know_bind_start b bs y (Lower n) p = (refl, tt)
know_bind_start b bs y (Mark S.Underscore) p = (refl, tt)
know_bind_start b bs y _ p = tt

know_after_one : (b : Seen) (o : ResultOwner) (r : Result) (w : Word) → Knows b w (after_one_result o r w)
know_after_one b (OfFunction h) r w = know_body_open b h r w
know_after_one b (OfSignature h g) r w = know_static_end b (with_signature h g r) w

know_after_tuple : (b : Seen) (o : ResultOwner) (r : Result) → Knows b (Mark S.RoundClose) (after_tuple_result o r)
know_after_tuple b (OfFunction h) r = (refl, tt)
know_after_tuple b (OfSignature h g) r = (refl, tt)

know_after_type : (b : Seen) (u : TypeUse) (t : Written) (w : Word) → Knows b w (after_type u t w)
know_after_type b (ForField d n q fs) t (Mark S.Comma) = (refl, tt)
know_after_type b (ForField d n q fs) t (Mark S.RoundClose) = (refl, tt)
know_after_type b (ForField d n q fs) t _ = tt
know_after_type b (ForSignatureParameter h g lent) t (Mark S.Comma) = (refl, tt)
know_after_type b (ForSignatureParameter h g lent) t (Mark S.RoundClose) = (refl, tt)
know_after_type b (ForSignatureParameter h g lent) t _ = tt
know_after_type b (ForParameter h lent n q) t (Mark S.Comma) = (refl, tt)
know_after_type b (ForParameter h lent n q) t (Mark S.RoundClose) = (refl, tt)
know_after_type b (ForParameter h lent n q) t _ = tt
know_after_type b (ForResult o) t w = know_after_one b o (OneResult t) w
know_after_type b (ForResultPart o q ts) t (Mark S.Comma) = (refl, tt)
know_after_type b (ForResultPart o q ts) t (Mark S.RoundClose) =
    let r = TupleResult q (ts ++ t ∷ []) in
    know_where b (Mark S.RoundClose) (is_empty ts) (after_tuple_result o r) (know_after_tuple b o r)
know_after_type b (ForResultPart o q ts) t _ = tt
know_after_type b (ForAnnotation y bs n q) t w = know_end_bind b y bs (record { name = n; place = q; annotation = Some t }) w
know_after_type b (ForStaticArgument y n q ts) t (Mark S.Comma) = (refl, tt)
know_after_type b (ForStaticArgument y n q ts) t (Mark S.SquareClose) = (refl, tt)
know_after_type b (ForStaticArgument y n q ts) t _ = tt

know_type_done : (b : Seen) (o : List OpenType) (u : TypeUse) (t : Written) (w : Word) → Knows b w (type_done o u t w)
know_type_done b [] u t w = know_after_type b u t w
know_type_done b (o ∷ os) u t (Mark S.Comma) = (refl, tt)
know_type_done b (o ∷ os) u t (Mark S.SquareClose) = (refl, tt)
know_type_done b (o ∷ os) u t _ = tt

know_type : (b : Seen) (x : TypePosition) (o : List OpenType) (u : TypeUse) (w : Word) (p : Place) → Knows b w (step_type x o u w p)
know_type b TypeWanted o u w p = know_type_wanted b o u w p
know_type b (TypeNamed n q) o u (Mark S.SquareOpen) p = (refl, tt)
know_type b (TypeNamed n q) o u w p = know_type_done b o u (WrittenName n q NoWritten) w
know_type b (TypeDone t) o u w p = know_type_done b o u t w

-- Bodies and patterns: a - before an operand is none between two, and a - after an operand is one.

following_operand : (e : Bool) (o : Operator) → e ≡ true → (is_minus (Operate o) && not e) ≡ false
following_operand e O.Subtract h = ap not h
following_operand e _ h = refl

know_operand : (b : Seen) (y : Body) (w : Word) (p : Place) → b.ends_operand ≡ false → Knows b w (operand_start y w p)
know_operand b y (Lower n) p e = (refl, refl)
know_operand b y (Upper n) p e = (refl, refl)
know_operand b y (Number ds) p e = (refl, refl)
know_operand b y (Operate O.Subtract) p e = (before_operand b.ends_operand e, tt)
know_operand b y (Mark S.RoundOpen) p e = (refl, refl)
know_operand b y (Mark S.Match) p e = (refl, refl)
know_operand b y (Mark S.MatchBang) p e = (refl, refl)
know_operand b y (Mark S.If) p e = (refl, refl)
know_operand b y _ p e = tt

know_compared : (b : Seen) (c : Option Pending) (y : Body) (v : Expression) (o : Operator) (p : Place) → b.ends_operand ≡ true → Knows b (Operate o) (compared c y v o p)
know_compared b (Some c) y v o p e = tt
know_compared b None y v o p e = (following_operand b.ends_operand o e, refl)

know_operator : (b : Seen) (t : Tightness) (y : Body) (v : Expression) (o : Operator) (p : Place) → b.ends_operand ≡ true → Knows b (Operate o) (after_operator t y v o p)
know_operator b Product y v o p e = (following_operand b.ends_operand o e, refl)
know_operator b Sum y v o p e = (following_operand b.ends_operand o e, refl)
know_operator b Comparison y v o p e = know_compared b y.partial.waiting.comparison y (applied y.partial.waiting.sum (applied y.partial.waiting.product v)) o p e

know_level : (b : Seen) (y : Body) (u : Use) (e : Block) (s : Sign) → Knows b (Mark s) (end_level y u e s)
know_level b y (ForArguments n q ts done) e S.Comma = (refl, refl)
know_level b y (ForArguments n q ts done) e S.RoundClose = (refl, refl)
know_level b y (ForArguments n q ts done) e _ = tt
know_level b y (ForFields n q done) e S.Comma = (refl, refl)
know_level b y (ForFields n q done) e S.RoundClose = (refl, refl)
know_level b y (ForFields n q done) e _ = tt
know_level b y (ForParenthesis q) e S.RoundClose = (refl, refl)
know_level b y (ForParenthesis q) e S.Comma = (refl, refl)
know_level b y (ForParenthesis q) e _ = tt
know_level b y ForBracket e S.RoundClose = (refl, refl)
know_level b y ForBracket e _ = tt
know_level b y (ForTuple q done) e S.Comma = (refl, refl)
know_level b y (ForTuple q done) e S.RoundClose = (refl, refl)
know_level b y (ForTuple q done) e _ = tt
know_level b y (ForClause m q) e S.Semicolon = (refl, refl)
know_level b y (ForClause m q) e S.CurlyClose = (refl, refl)
know_level b y (ForClause m q) e _ = tt
know_level b y (ForYes q c) e S.CurlyClose = (refl, tt)
know_level b y (ForYes q c) e _ = tt
know_level b y (ForNo q c one) e S.CurlyClose = (refl, refl)
know_level b y (ForNo q c one) e _ = tt

know_last : (b : Seen) (h : FunctionHead) (r : Result) (ls : List Level) (e : Block) (s : Sign) → Knows b (Mark s) (end_last h r ls e s)
know_last b h r [] e S.CurlyClose = (refl, tt)
know_last b h r [] e _ = tt
know_last b h r (l ∷ ls) e s = know_level b (record { head = h; gives = r; levels = ls; partial = l.before }) l.purpose e s

know_bound : (b : Seen) (y : Body) (bs : List Bind) (e : Expression) (s : Sign) → Knows b (Mark s) (end_bound y bs e s)
know_bound b y bs e S.Semicolon = (refl, refl)
know_bound b y bs e _ = tt

know_head : (b : Seen) (y : Body) (o : Opener) (e : Expression) (s : Sign) → Knows b (Mark s) (end_head y o e s)
know_head b y (MatchOpener w d q) e S.CurlyOpen = (refl, refl)
know_head b y (MatchOpener w d q) e _ = tt
know_head b y (IfOpener w q) e S.CurlyOpen = (refl, refl)
know_head b y (IfOpener w q) e _ = tt

know_expression : (b : Seen) (y : Body) (os : List Opener) (bs : Option (List Bind)) (e : Expression) (s : Sign) → Knows b (Mark s) (end_expression y os bs e s)
know_expression b y (o ∷ os) bs e s = know_head b (record y { partial = record y.partial { openers = os; waiting = none_waits } }) o e s
know_expression b y [] (Some bs) e s = know_bound b y bs e s
know_expression b y [] None e s = know_last b y.head y.gives y.levels (onto_block y.partial.lets (Last e)) s

know_after_operand : (b : Seen) (y : Body) (v : Expression) (w : Word) (p : Place) → b.ends_operand ≡ true → Knows b w (after_operand y v w p)
know_after_operand b y v (Operate o) p e = know_operator b (tightness_of o) y v o p e
know_after_operand b y v (Mark s) p e = know_expression b y y.partial.openers y.partial.binds (all_applied y.partial.waiting v) s
know_after_operand b y v _ p e = tt

know_pattern_wanted : (b : Seen) (o : List OpenPattern) (y : Body) (m : OpenMatch) (w : Word) (p : Place) → b.ends_operand ≡ false → Knows b w (pattern_wanted o y m w p)
know_pattern_wanted b o y m (Mark S.Underscore) p e = (refl, tt)
know_pattern_wanted b o y m (Lower n) p e = (refl, tt)
know_pattern_wanted b o y m (Upper n) p e = (refl, tt)
know_pattern_wanted b o y m (Number ds) p e = (refl, tt)
know_pattern_wanted b o y m (Operate O.Subtract) p e = (before_operand b.ends_operand e, tt)
know_pattern_wanted b o y m _ p e = tt

know_pattern_done : (b : Seen) (x : Pattern) (o : List OpenPattern) (y : Body) (m : OpenMatch) (w : Word) → Knows b w (pattern_done x o y m w)
know_pattern_done b x [] y m (Mark S.Arrow) = (refl, refl)
know_pattern_done b x [] y m _ = tt
know_pattern_done b x (o ∷ os) y m (Mark S.Comma) = (refl, refl)
know_pattern_done b x (o ∷ os) y m (Mark S.RoundClose) = (refl, tt)
know_pattern_done b x (o ∷ os) y m _ = tt

know_pattern : (b : Seen) (x : PatternPosition) (o : List OpenPattern) (y : Body) (m : OpenMatch) (w : Word) (p : Place) → Ends (comes_in_pattern x) b.ends_operand → Knows b w (step_pattern x o y m w p)
know_pattern b PatternWanted o y m w p e = know_pattern_wanted b o y m w p e
know_pattern b (PatternMinus q) o y m (Number ds) p e = (refl, tt)
know_pattern b (PatternMinus q) o y m _ p e = tt
know_pattern b (PatternNamed n q) o y m (Mark S.RoundOpen) p e = (refl, refl)
know_pattern b (PatternNamed n q) o y m w p e = know_pattern_done b (ConstructorPattern n q NoPatterns) o y m w
know_pattern b (PatternDone x) o y m w p e = know_pattern_done b x o y m w

know_block : (b : Seen) (y : Body) (w : Word) (p : Place) → b.ends_operand ≡ false → Knows b w (step_body AtBlock y w p)
know_block b y (Mark S.Let) p e = (refl, tt)
know_block b y w p e = know_operand b (last_in y) w p e

know_let : (b : Seen) (y : Body) (w : Word) (p : Place) → Knows b w (step_body LetStart y w p)
know_let b y (Mark S.RoundOpen) p = (refl, tt)
know_let b y w p = know_bind_start b Alone y w p

know_named : (b : Seen) (bs : Binds) (n : Name) (q : Place) (y : Body) (w : Word) (p : Place) → Knows b w (step_body (BindNamed bs n q) y w p)
know_named b bs n q y (Mark S.Colon) p = (refl, tt)
know_named b bs n q y w p = know_end_bind b y bs (record { name = n; place = q; annotation = None }) w

know_lower : (b : Seen) (n : Name) (q : Place) (y : Body) (w : Word) (p : Place) → b.ends_operand ≡ true → Knows b w (step_body (LowerName n q) y w p)
know_lower b n q y (Mark S.SquareOpen) p e = (refl, tt)
know_lower b n q y (Mark S.RoundOpen) p e = (refl, refl)
know_lower b n q y w p e = know_after_operand b y (Variable n q) w p e

know_upper : (b : Seen) (n : Name) (q : Place) (y : Body) (w : Word) (p : Place) → b.ends_operand ≡ true → Knows b w (step_body (UpperName n q) y w p)
know_upper b n q y (Mark S.RoundOpen) p e = (refl, refl)
know_upper b n q y w p e = know_after_operand b y (Constructor n q NoExpressions) w p e

know_argument : (b : Seen) (n : Name) (q : Place) (ts : List Written) (y : Body) (w : Word) (p : Place) → b.ends_operand ≡ false → Knows b w (step_body (ArgumentFirst n q ts) y w p)
know_argument b n q ts y (Mark S.RoundClose) p e = (refl, refl)
know_argument b n q ts y w p e = know_operand b (enter y (ForArguments n q ts [])) w p e

know_parenthesis : (b : Seen) (q : Place) (y : Body) (w : Word) (p : Place) → b.ends_operand ≡ false → Knows b w (step_body (Parenthesis q) y w p)
know_parenthesis b q y (Mark S.Let) p e = (refl, tt)
know_parenthesis b q y w p e = know_operand b (enter y (ForParenthesis q)) w p e

know_clause : (b : Seen) (m : OpenMatch) (y : Body) (w : Word) (p : Place) → b.ends_operand ≡ false → Knows b w (step_body (ClauseNext m) y w p)
know_clause b m y (Mark S.CurlyClose) p e = (refl, refl)
know_clause b m y w p e = know_pattern_wanted b [] y m w p e

know_body : (b : Seen) (x : BodyPosition) (y : Body) (w : Word) (p : Place) → Ends (comes_in_body x) b.ends_operand → Knows b w (step_body x y w p)
know_body b AtBlock y w p e = know_block b y w p e
know_body b LetStart y w p e = know_let b y w p
know_body b (BindStart done) y w p e = know_bind_start b (Bracketed done) y w p
know_body b (BindNamed bs n q) y w p e = know_named b bs n q y w p
know_body b (LetEquals bs) y w p e = know_let_equals b bs y w
know_body b AtOperand y w p e = know_operand b y w p e
know_body b (LowerName n q) y w p e = know_lower b n q y w p e
know_body b (CallOpen n q ts) y (Mark S.RoundOpen) p e = (refl, refl)
know_body b (CallOpen n q ts) y _ p e = tt
know_body b (ArgumentFirst n q ts) y w p e = know_argument b n q ts y w p e
know_body b (UpperName n q) y w p e = know_upper b n q y w p e
know_body b (Minus q) y (Number ds) p e = (refl, refl)
know_body b (Minus q) y _ p e = tt
know_body b (Parenthesis q) y w p e = know_parenthesis b q y w p e
know_body b (AtOperator v) y w p e = know_after_operand b y v w p e
know_body b (ClauseNext m) y w p e = know_clause b m y w p e
know_body b (Else q c one) y (Mark S.Else) p e = (refl, tt)
know_body b (Else q c one) y _ p e = tt
know_body b (ElseOpen q c one) y (Mark S.CurlyOpen) p e = (refl, refl)
know_body b (ElseOpen q c one) y _ p e = tt

know_step : (b : Seen) (s : State) (w : Word) (p : Place) → Ends (comes s) b.ends_operand → Knows b w (step s w p)
know_step b Top w p e = know_top b w p
know_step b (InFunction h) w p e = know_function b h w p
know_step b (InData h) w p e = know_data b h w p
know_step b (InType x o u) w p e = know_type b x o u w p
know_step b (InPattern x o y m) w p e = know_pattern b x o y m w p e
know_step b (InBody x y) w p e = know_body b x y w p e

pub agrees_at_start : Agrees Top nothing_seen
agrees_at_start = (refl, tt)

-- the next state knows of the token that led to it
pub agrees_next : (s s' : State) (b : Seen) (w : Word) (p : Place) → Agrees s b → step s w p ≡ Stays s' → Agrees s' (following b w)
agrees_next s s' b w p a e = subst (Knows b w) e (know_step b s w p a.1)

-- so does the state between two declarations
pub agrees_declared : (s : State) (b : Seen) (w : Word) (p : Place) (d : Declaration) → Agrees s b → step s w p ≡ Declares d → Agrees Top (following b w)
agrees_declared s b w p d a e = subst (Knows b w) e (know_step b s w p a.1)

-- the greatest literal after the last token is what the state reports
pub literal_limit : (s : State) (b : Seen) → Agrees s b → limit b.is_sign ≡ limit (negates s)
literal_limit s b a = ap limit a.0
