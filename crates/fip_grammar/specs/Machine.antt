-- The grammar as a machine that takes one token after another. A state is what was read so far of the declaration
-- that is open. What is in brackets is read on a level of its own; lists of what is open have the innermost first.
use Rattle.std.specs.Prelude.{ℕ, pos, neg_ℤ, Bool, true, false, List, [], ◌∷◌, ◌++◌, Option, Some, None}
use Rattle.fip_language.specs.declared.Place.{Place}
use Rattle.fip_language.specs.declared.FunKind.{FunKind}
use Rattle.fip_language.specs.declared.FunKind.TheVariants as K
use Rattle.fip_language.specs.declared.CreditMark.{CreditMark}
use Rattle.fip_language.specs.declared.Operator.{Operator}
use Rattle.fip_language.specs.declared.Operator.TheVariants as O
use Rattle.fip_language.specs.Core.{Name, Written, WrittenInt, WrittenName, Writtens, NoWritten, MoreWritten, Result}
use Rattle.fip_language.specs.Core.{OneResult, TupleResult, SignatureParameter, Static, TypeParameter}
use Rattle.fip_language.specs.Core.{FunctionParameter, TypeName, DataConstructor, Data}
use Rattle.fip_language.specs.Surface.{Bind, Pattern, Wildcard, VariablePattern, LiteralPattern, ConstructorPattern}
use Rattle.fip_language.specs.Surface.{Patterns, NoPatterns, MorePatterns, Expression, Variable, Literal, Call}
use Rattle.fip_language.specs.Surface.{Constructor, Bracket, Tuple, Match, If, Binary, Expressions, NoExpressions}
use Rattle.fip_language.specs.Surface.{MoreExpressions, Block, Last, Let, Clauses, NoClauses, MoreClauses, Parameter}
use Rattle.fip_language.specs.Surface.{Function, Declaration, DataDeclaration, FunctionDeclaration, Program}
use Rattle.fip_grammar.specs.declared.Sign.{Sign}
use Rattle.fip_grammar.specs.declared.Sign.TheVariants as S
use Rattle.fip_grammar.specs.Token.{Word, Lower, Upper, Number, Operate, Mark, Token, value_of}

-- a let without what follows it
pub record Binding : Type 0 where
  pub binds : List Bind
  pub bound : Expression

-- a clause as such
pub record Clause : Type 0 where
  pub pattern : Pattern
  pub body : Block

abbrev pub onto_types : List Written → Writtens → Writtens
onto_types [] rest = rest
onto_types (t ∷ ts) rest = MoreWritten t (onto_types ts rest)

abbrev pub onto_patterns : List Pattern → Patterns → Patterns
onto_patterns [] rest = rest
onto_patterns (q ∷ qs) rest = MorePatterns q (onto_patterns qs rest)

abbrev pub onto_expressions : List Expression → Expressions → Expressions
onto_expressions [] rest = rest
onto_expressions (e ∷ es) rest = MoreExpressions e (onto_expressions es rest)

abbrev pub onto_block : List Binding → Block → Block
onto_block [] rest = rest
onto_block (l ∷ ls) rest = Let l.binds l.bound (onto_block ls rest)

abbrev pub onto_clauses : List Clause → Clauses → Clauses
onto_clauses [] rest = rest
onto_clauses (c ∷ cs) rest = MoreClauses c.pattern c.body (onto_clauses cs rest)

pub record FunctionHead : Type 0 where
  pub kind : FunKind
  pub credits : List CreditMark
  pub name : Name
  pub place : Place
  pub statics : List Static
  pub parameters : List Parameter

pub record SignatureHead : Type 0 where
  pub name : Name
  pub place : Place
  pub parameters : List SignatureParameter

pub data ResultOwner : Type 0 where
  OfSignature : (head : FunctionHead) (signature : SignatureHead) → ResultOwner
  OfFunction : (head : FunctionHead) → ResultOwner

-- a place in the head of a function, by what comes next
pub data FunctionHeading : Type 0 where
  FunctionKeyword : (kind : FunKind) (credits : List CreditMark) → FunctionHeading
  CreditSize : (kind : FunKind) (credits : List CreditMark) (plus : Place) → FunctionHeading
  FunctionName : (kind : FunKind) (credits : List CreditMark) → FunctionHeading
  FunctionStart : (head : FunctionHead) → FunctionHeading
  StaticName : (head : FunctionHead) → FunctionHeading
  StaticStart : (head : FunctionHead) (name : Name) (place : Place) → FunctionHeading
  SignatureKeyword : (head : FunctionHead) (signature : SignatureHead) → FunctionHeading
  SignatureOpen : (head : FunctionHead) (signature : SignatureHead) → FunctionHeading
  SignatureFirst : (head : FunctionHead) (signature : SignatureHead) → FunctionHeading
  SignatureNext : (head : FunctionHead) (signature : SignatureHead) → FunctionHeading
  SignatureColon : (head : FunctionHead) (signature : SignatureHead) → FunctionHeading
  ResultStart : (owner : ResultOwner) → FunctionHeading
  StaticEnd : (head : FunctionHead) → FunctionHeading
  ParametersOpen : (head : FunctionHead) → FunctionHeading
  ParameterFirst : (head : FunctionHead) → FunctionHeading
  ParameterNext : (head : FunctionHead) → FunctionHeading
  ParameterName : (head : FunctionHead) → FunctionHeading
  ParameterColon : (head : FunctionHead) (lent : Bool) (name : Name) (place : Place) → FunctionHeading
  ResultColon : (head : FunctionHead) → FunctionHeading
  BodyOpen : (head : FunctionHead) (gives : Result) → FunctionHeading

-- a place in a data type
pub data DataHeading : Type 0 where
  DataName : DataHeading
  DataStart : (d : Data) → DataHeading
  DataParameter : (d : Data) → DataHeading
  DataParameterEnd : (d : Data) → DataHeading
  DataOpen : (d : Data) → DataHeading
  ConstructorFirst : (d : Data) → DataHeading
  ConstructorNext : (d : Data) → DataHeading
  ConstructorStart : (d : Data) (name : Name) (place : Place) → DataHeading
  ConstructorEnd : (d : Data) → DataHeading

-- an operator that waits for its right operand
pub record Pending : Type 0 where
  pub left : Expression
  pub operator : Operator
  pub place : Place

pub record Waiting : Type 0 where
  pub comparison : Option Pending
  pub sum : Option Pending
  pub product : Option Pending

abbrev pub none_waits : Waiting
none_waits = record { comparison = None; sum = None; product = None }

-- a match whose scrutinee, or an if whose condition, is read, with what waits outside it
pub data Opener : Type 0 where
  MatchOpener : (waiting : Waiting) (destructive : Bool) (place : Place) → Opener
  IfOpener : (waiting : Waiting) (place : Place) → Opener

pub record Partial : Type 0 where
  pub lets : List Binding
  pub binds : Option (List Bind)
  pub openers : List Opener
  pub waiting : Waiting

abbrev pub new_partial : Partial
new_partial = record { lets = []; binds = None; openers = []; waiting = none_waits }

pub record OpenMatch : Type 0 where
  pub destructive : Bool
  pub place : Place
  pub scrutinee : Expression
  pub clauses : List Clause

-- what an open bracket of a body is for
pub data Use : Type 0 where
  ForArguments : (name : Name) (place : Place) (statics : List Written) (done : List Expression) → Use
  ForFields : (name : Name) (place : Place) (done : List Expression) → Use
  ForParenthesis : (place : Place) → Use
  ForBracket : Use
  ForTuple : (place : Place) (done : List Expression) → Use
  ForClause : (open' : OpenMatch) (pattern : Pattern) → Use
  ForYes : (place : Place) (condition : Expression) → Use
  ForNo : (place : Place) (condition : Expression) (one : Block) → Use

pub record Level : Type 0 where
  pub before : Partial
  pub purpose : Use

pub record Body : Type 0 where
  pub head : FunctionHead
  pub gives : Result
  pub levels : List Level
  pub partial : Partial

pub data Binds : Type 0 where
  Alone : Binds
  Bracketed : (done : List Bind) → Binds

-- a place in a body, by what comes next
pub data BodyPosition : Type 0 where
  AtBlock : BodyPosition
  LetStart : BodyPosition
  BindStart : (done : List Bind) → BodyPosition
  BindNamed : (binds : Binds) (name : Name) (place : Place) → BodyPosition
  LetEquals : (binds : List Bind) → BodyPosition
  AtOperand : BodyPosition
  LowerName : (name : Name) (place : Place) → BodyPosition
  CallOpen : (name : Name) (place : Place) (statics : List Written) → BodyPosition
  ArgumentFirst : (name : Name) (place : Place) (statics : List Written) → BodyPosition
  UpperName : (name : Name) (place : Place) → BodyPosition
  Minus : (place : Place) → BodyPosition
  Parenthesis : (place : Place) → BodyPosition
  -- after an operand
  AtOperator : (value : Expression) → BodyPosition
  ClauseNext : (open' : OpenMatch) → BodyPosition
  Else : (place : Place) (condition : Expression) (one : Block) → BodyPosition
  ElseOpen : (place : Place) (condition : Expression) (one : Block) → BodyPosition

pub record OpenType : Type 0 where
  pub name : Name
  pub place : Place
  pub done : List Written

pub data TypePosition : Type 0 where
  TypeWanted : TypePosition
  TypeNamed : (name : Name) (place : Place) → TypePosition
  TypeDone : (written : Written) → TypePosition

-- what the outermost type is for
pub data TypeUse : Type 0 where
  ForField : (d : Data) (name : Name) (place : Place) (fields : List Written) → TypeUse
  ForSignatureParameter : (head : FunctionHead) (signature : SignatureHead) (lent : Bool) → TypeUse
  ForParameter : (head : FunctionHead) (lent : Bool) (name : Name) (place : Place) → TypeUse
  ForResult : (owner : ResultOwner) → TypeUse
  ForResultPart : (owner : ResultOwner) (place : Place) (parts : List Written) → TypeUse
  ForAnnotation : (body : Body) (binds : Binds) (name : Name) (place : Place) → TypeUse
  ForStaticArgument : (body : Body) (name : Name) (place : Place) (statics : List Written) → TypeUse

pub record OpenPattern : Type 0 where
  pub name : Name
  pub place : Place
  pub done : List Pattern

pub data PatternPosition : Type 0 where
  PatternWanted : PatternPosition
  PatternMinus : (place : Place) → PatternPosition
  PatternNamed : (name : Name) (place : Place) → PatternPosition
  PatternDone : (pattern : Pattern) → PatternPosition

pub data State : Type 0 where
  Top : State
  InFunction : (heading : FunctionHeading) → State
  InData : (heading : DataHeading) → State
  InType : (position : TypePosition) (open' : List OpenType) (purpose : TypeUse) → State
  InPattern : (position : PatternPosition) (open' : List OpenPattern) (body : Body) (clauses : OpenMatch) → State
  InBody : (position : BodyPosition) (body : Body) → State

-- what a token does: it doesn't fit, it fits, or it fits and ends a declaration
pub data Next : Type 0 where
  Refused : Next
  Stays : (s : State) → Next
  Declares : (d : Declaration) → Next

abbrev pub in_function : FunctionHeading → Next
in_function h = Stays (InFunction h)

abbrev pub in_data : DataHeading → Next
in_data h = Stays (InData h)

abbrev pub in_body : BodyPosition → Body → Next
in_body q b = Stays (InBody q b)

abbrev pub wants_type : TypeUse → Next
wants_type u = Stays (InType TypeWanted [] u)

-- Heads of functions.

abbrev pub with_static : FunctionHead → Static → FunctionHead
with_static h s = record h { statics = h.statics ++ s ∷ [] }

abbrev pub with_parameter : FunctionHead → Parameter → FunctionHead
with_parameter h q = record h { parameters = h.parameters ++ q ∷ [] }

abbrev pub with_signature_parameter : SignatureHead → SignatureParameter → SignatureHead
with_signature_parameter g q = record g { parameters = g.parameters ++ q ∷ [] }

abbrev pub with_signature : FunctionHead → SignatureHead → Result → FunctionHead
with_signature h g r = with_static h (FunctionParameter g.name g.place g.parameters r)

abbrev pub step_top : Word → Place → Next
step_top (Mark S.Data) p = in_data DataName
step_top (Mark S.Fip) p = in_function (FunctionKeyword K.Fip [])
step_top (Mark S.Fbip) p = in_function (FunctionKeyword K.Fbip [])
step_top (Mark S.Fun) p = in_function (FunctionName K.Fun [])
step_top _ p = Refused

abbrev pub static_end : FunctionHead → Word → Next
static_end h (Mark S.Comma) = in_function (StaticName h)
static_end h (Mark S.SquareClose) = in_function (ParametersOpen h)
static_end h _ = Refused

abbrev pub body_open : FunctionHead → Result → Word → Next
body_open h r (Mark S.CurlyOpen) = in_body AtBlock (record { head = h; gives = r; levels = []; partial = new_partial })
body_open h r _ = Refused

-- Types.

abbrev pub type_wanted : List OpenType → TypeUse → Word → Place → Next
type_wanted o u (Mark S.Int) p = Stays (InType (TypeDone (WrittenInt p)) o u)
type_wanted o u (Lower n) p = Stays (InType (TypeNamed n p) o u)
type_wanted o u _ p = Refused

abbrev pub signature_next : FunctionHead → SignatureHead → Word → Place → Next
signature_next h g (Mark S.Caret) p = wants_type (ForSignatureParameter h g true)
signature_next h g w p = type_wanted [] (ForSignatureParameter h g false) w p

abbrev pub parameter_name : FunctionHead → Bool → Word → Place → Next
parameter_name h lent (Lower n) p = in_function (ParameterColon h lent n p)
parameter_name h lent _ p = Refused

abbrev pub parameter_next : FunctionHead → Word → Place → Next
parameter_next h (Mark S.Caret) p = in_function (ParameterName h)
parameter_next h w p = parameter_name h false w p

-- the mark of a credit, whose + and digits are there
abbrev pub credit : Place → Place → List ℕ → CreditMark
credit p q digits = record { place = p; size_place = q; size = value_of digits }

abbrev pub step_function : FunctionHeading → Word → Place → Next
step_function (FunctionKeyword k cs) (Mark S.Fun) p = in_function (FunctionName k cs)
step_function (FunctionKeyword k cs) (Operate O.Add) p = in_function (CreditSize k cs p)
step_function (FunctionKeyword k cs) _ p = Refused
step_function (CreditSize k cs q) (Number digits) p = in_function (FunctionKeyword k (cs ++ credit q p digits ∷ []))
step_function (CreditSize k cs q) _ p = Refused
step_function (FunctionName k cs) (Lower n) p =
    in_function (FunctionStart (record { kind = k; credits = cs; name = n; place = p; statics = []; parameters = [] }))
step_function (FunctionName k cs) _ p = Refused
step_function (FunctionStart h) (Mark S.SquareOpen) p = in_function (StaticName h)
step_function (FunctionStart h) (Mark S.RoundOpen) p = in_function (ParameterFirst h)
step_function (FunctionStart h) _ p = Refused
step_function (StaticName h) (Lower n) p = in_function (StaticStart h n p)
step_function (StaticName h) _ p = Refused
step_function (StaticStart h n q) (Mark S.Colon) p =
    in_function (SignatureKeyword h (record { name = n; place = q; parameters = [] }))
step_function (StaticStart h n q) w p = static_end (with_static h (TypeParameter n q)) w
step_function (SignatureKeyword h g) (Mark S.Fun) p = in_function (SignatureOpen h g)
step_function (SignatureKeyword h g) _ p = Refused
step_function (SignatureOpen h g) (Mark S.RoundOpen) p = in_function (SignatureFirst h g)
step_function (SignatureOpen h g) _ p = Refused
step_function (SignatureFirst h g) (Mark S.RoundClose) p = in_function (SignatureColon h g)
step_function (SignatureFirst h g) w p = signature_next h g w p
step_function (SignatureNext h g) w p = signature_next h g w p
step_function (SignatureColon h g) (Mark S.Colon) p = in_function (ResultStart (OfSignature h g))
step_function (SignatureColon h g) _ p = Refused
step_function (ResultStart o) (Mark S.RoundOpen) p = wants_type (ForResultPart o p [])
step_function (ResultStart o) w p = type_wanted [] (ForResult o) w p
step_function (StaticEnd h) w p = static_end h w
step_function (ParametersOpen h) (Mark S.RoundOpen) p = in_function (ParameterFirst h)
step_function (ParametersOpen h) _ p = Refused
step_function (ParameterFirst h) (Mark S.RoundClose) p = in_function (ResultColon h)
step_function (ParameterFirst h) w p = parameter_next h w p
step_function (ParameterNext h) w p = parameter_next h w p
step_function (ParameterName h) w p = parameter_name h true w p
step_function (ParameterColon h lent n q) (Mark S.Colon) p = wants_type (ForParameter h lent n q)
step_function (ParameterColon h lent n q) _ p = Refused
step_function (ResultColon h) (Mark S.Colon) p = in_function (ResultStart (OfFunction h))
step_function (ResultColon h) _ p = Refused
step_function (BodyOpen h r) w p = body_open h r w

-- Data types.

abbrev pub with_type_name : Data → TypeName → Data
with_type_name d n = record d { parameters = d.parameters ++ n ∷ [] }

abbrev pub with_constructor : Data → DataConstructor → Data
with_constructor d c = record d { constructors = d.constructors ++ c ∷ [] }

abbrev pub constructor_first : Data → Word → Place → Next
constructor_first d (Upper n) p = in_data (ConstructorStart d n p)
constructor_first d _ p = Refused

abbrev pub constructor_end : Data → Word → Next
constructor_end d (Mark S.Semicolon) = in_data (ConstructorNext d)
constructor_end d (Mark S.CurlyClose) = Declares (DataDeclaration d)
constructor_end d _ = Refused

abbrev pub step_data : DataHeading → Word → Place → Next
step_data DataName (Lower n) p = in_data (DataStart
    (record { name = n; place = p; parameters = []; constructors = [] }))
step_data DataName _ p = Refused
step_data (DataStart d) (Mark S.SquareOpen) p = in_data (DataParameter d)
step_data (DataStart d) (Mark S.CurlyOpen) p = in_data (ConstructorFirst d)
step_data (DataStart d) _ p = Refused
step_data (DataParameter d) (Lower n) p = in_data (DataParameterEnd (with_type_name d (record { name = n; place = p })))
step_data (DataParameter d) _ p = Refused
step_data (DataParameterEnd d) (Mark S.Comma) p = in_data (DataParameter d)
step_data (DataParameterEnd d) (Mark S.SquareClose) p = in_data (DataOpen d)
step_data (DataParameterEnd d) _ p = Refused
step_data (DataOpen d) (Mark S.CurlyOpen) p = in_data (ConstructorFirst d)
step_data (DataOpen d) _ p = Refused
step_data (ConstructorFirst d) w p = constructor_first d w p
step_data (ConstructorNext d) (Mark S.CurlyClose) p = Declares (DataDeclaration d)
step_data (ConstructorNext d) w p = constructor_first d w p
step_data (ConstructorStart d n q) (Mark S.RoundOpen) p = wants_type (ForField d n q [])
step_data (ConstructorStart d n q) w p = constructor_end
    (with_constructor d (record { name = n; place = q; fields = [] })) w
step_data (ConstructorEnd d) w p = constructor_end d w

-- Lets.

-- a let's bound expression comes next
abbrev pub bound_of : Body → List Bind → Body
bound_of b bs = record b {
  partial = record {
    lets = b.partial.lets;
    binds = Some bs;
    openers = [];
    waiting =
        none_waits;
  };
}

-- a block's last expression comes next
abbrev pub last_in : Body → Body
last_in b = record b { partial = record { lets = b.partial.lets; binds = None; openers = []; waiting = none_waits } }

abbrev pub let_equals : List Bind → Body → Word → Next
let_equals bs b (Mark S.Equals) = in_body AtOperand (bound_of b bs)
let_equals bs b _ = Refused

abbrev pub is_empty : {A : Type 0} → List A → Bool
is_empty [] = true
is_empty (x ∷ xs) = false

abbrev pub refused_where : Bool → Next → Next
refused_where true n = Refused
refused_where false n = n

abbrev pub end_bind : Body → Binds → Bind → Word → Next
end_bind b Alone x w = let_equals (x ∷ []) b w
end_bind b (Bracketed done) x (Mark S.Comma) = in_body (BindStart (done ++ x ∷ [])) b
end_bind b (Bracketed done) x (Mark S.RoundClose) =
    refused_where (is_empty done) (in_body (LetEquals (done ++ x ∷ [])) b)
end_bind b (Bracketed done) x _ = Refused

abbrev pub bind_start : Binds → Body → Word → Place → Next
bind_start bs b (Lower n) p = in_body (BindNamed bs n p) b
bind_start bs b (Mark S.Underscore) p = in_body (BindNamed bs (95 ∷ []) p) b
bind_start bs b _ p = Refused

-- After types.

abbrev pub after_one_result : ResultOwner → Result → Word → Next
after_one_result (OfFunction h) r w = body_open h r w
after_one_result (OfSignature h g) r w = static_end (with_signature h g r) w

abbrev pub after_tuple_result : ResultOwner → Result → Next
after_tuple_result (OfFunction h) r = in_function (BodyOpen h r)
after_tuple_result (OfSignature h g) r = in_function (StaticEnd (with_signature h g r))

abbrev pub after_type : TypeUse → Written → Word → Next
after_type (ForField d n q fs) t (Mark S.Comma) = wants_type (ForField d n q (fs ++ t ∷ []))
after_type (ForField d n q fs) t (Mark S.RoundClose) =
    in_data (ConstructorEnd (with_constructor d (record { name = n; place = q; fields = fs ++ t ∷ [] })))
after_type (ForField d n q fs) t _ = Refused
after_type (ForSignatureParameter h g lent) t (Mark S.Comma) =
    in_function (SignatureNext h (with_signature_parameter g (record { lent = lent; type = t })))
after_type (ForSignatureParameter h g lent) t (Mark S.RoundClose) =
    in_function (SignatureColon h (with_signature_parameter g (record { lent = lent; type = t })))
after_type (ForSignatureParameter h g lent) t _ = Refused
after_type (ForParameter h lent n q) t (Mark S.Comma) =
    in_function (ParameterNext (with_parameter h (record { lent = lent; name = n; place = q; type = t })))
after_type (ForParameter h lent n q) t (Mark S.RoundClose) =
    in_function (ResultColon (with_parameter h (record { lent = lent; name = n; place = q; type = t })))
after_type (ForParameter h lent n q) t _ = Refused
after_type (ForResult o) t w = after_one_result o (OneResult t) w
after_type (ForResultPart o q ts) t (Mark S.Comma) = wants_type (ForResultPart o q (ts ++ t ∷ []))
after_type (ForResultPart o q ts) t (Mark S.RoundClose) =
    refused_where (is_empty ts) (after_tuple_result o (TupleResult q (ts ++ t ∷ [])))
after_type (ForResultPart o q ts) t _ = Refused
after_type (ForAnnotation b bs n q) t w = end_bind b bs (record { name = n; place = q; annotation = Some t }) w
after_type (ForStaticArgument b n q ts) t (Mark S.Comma) = wants_type (ForStaticArgument b n q (ts ++ t ∷ []))
after_type (ForStaticArgument b n q ts) t (Mark S.SquareClose) = in_body (CallOpen n q (ts ++ t ∷ [])) b
after_type (ForStaticArgument b n q ts) t _ = Refused

abbrev pub type_done : List OpenType → TypeUse → Written → Word → Next
type_done [] u t w = after_type u t w
type_done (o ∷ os) u t (Mark S.Comma) = Stays (InType TypeWanted (record o { done = o.done ++ t ∷ [] } ∷ os) u)
type_done (o ∷ os) u t (Mark S.SquareClose) =
    Stays (InType (TypeDone (WrittenName o.name o.place (onto_types (o.done ++ t ∷ []) NoWritten))) os u)
type_done (o ∷ os) u t _ = Refused

abbrev pub step_type : TypePosition → List OpenType → TypeUse → Word → Place → Next
step_type TypeWanted o u w p = type_wanted o u w p
step_type (TypeNamed n q) o u (Mark S.SquareOpen) p =
    Stays (InType TypeWanted (record { name = n; place = q; done = [] } ∷ o) u)
step_type (TypeNamed n q) o u w p = type_done o u (WrittenName n q NoWritten) w
step_type (TypeDone t) o u w p = type_done o u t w

-- Bodies.

abbrev pub with_waiting : Body → Waiting → Body
with_waiting b w = record b { partial = record b.partial { waiting = w } }

-- an opener more, inside which nothing waits
abbrev pub with_opener : Body → Opener → Body
with_opener b o = record b { partial = record b.partial { openers = o ∷ b.partial.openers; waiting = none_waits } }

-- a bracket is opened
abbrev pub enter : Body → Use → Body
enter b u = record b { levels = record { before = b.partial; purpose = u } ∷ b.levels; partial = new_partial }

abbrev pub operand_start : Body → Word → Place → Next
operand_start b (Lower n) p = in_body (LowerName n p) b
operand_start b (Upper n) p = in_body (UpperName n p) b
operand_start b (Number ds) p = in_body (AtOperator (Literal (pos (value_of ds)) p)) b
operand_start b (Operate O.Subtract) p = in_body (Minus p) b
operand_start b (Mark S.RoundOpen) p = in_body (Parenthesis p) b
operand_start b (Mark S.Match) p = in_body AtOperand (with_opener b (MatchOpener b.partial.waiting false p))
operand_start b (Mark S.MatchBang) p = in_body AtOperand (with_opener b (MatchOpener b.partial.waiting true p))
operand_start b (Mark S.If) p = in_body AtOperand (with_opener b (IfOpener b.partial.waiting p))
operand_start b _ p = Refused

-- the operation of an operator that waited
abbrev pub applied : Option Pending → Expression → Expression
applied None v = v
applied (Some q) v = Binary q.operator q.place q.left v

abbrev pub waits : Expression → Operator → Place → Option Pending
waits v op p = Some (record { left = v; operator = op; place = p })

-- a product, a sum, or a comparison
pub data Tightness : Type 0 where
  Comparison : Tightness
  Sum : Tightness
  Product : Tightness

abbrev pub tightness_of : Operator → Tightness
tightness_of O.Add = Sum
tightness_of O.Subtract = Sum
tightness_of O.Multiply = Product
tightness_of O.Divide = Product
tightness_of O.Remainder = Product
tightness_of _ = Comparison

abbrev pub compared : Option Pending → Body → Expression → Operator → Place → Next
compared (Some c) b v op p = Refused
compared None b v op p = in_body AtOperand
    (with_waiting b (record { comparison = waits v op p; sum = None; product = None }))

abbrev pub after_operator : Tightness → Body → Expression → Operator → Place → Next
after_operator Product b v op p = in_body AtOperand
    (with_waiting b (record b.partial.waiting { product = waits (applied b.partial.waiting.product v) op p }))
after_operator Sum b v op p = in_body AtOperand
    (with_waiting b (record b.partial.waiting {
      sum =
          waits (applied b.partial.waiting.sum (applied b.partial.waiting.product v)) op p;
      product = None;
    }))
after_operator Comparison b v op p = compared b.partial.waiting.comparison b
    (applied b.partial.waiting.sum (applied b.partial.waiting.product v)) op p

-- all that waits is done
abbrev pub all_applied : Waiting → Expression → Expression
all_applied w v = applied w.comparison (applied w.sum (applied w.product v))

abbrev pub last_of : Block → Expression
last_of (Last e) = e
last_of (Let bs e b) = last_of b

abbrev pub part : Block → List Expression → List Expression
part b done = done ++ last_of b ∷ []

abbrev pub close_match : OpenMatch → Body → Next
close_match m b = in_body (AtOperator (Match m.destructive m.place m.scrutinee (onto_clauses m.clauses NoClauses))) b

abbrev pub with_clause : OpenMatch → Pattern → Block → OpenMatch
with_clause m q b = record m { clauses = m.clauses ++ record { pattern = q; body = b } ∷ [] }

-- the end of what is in a bracket, or of a part of it
abbrev pub end_level : Body → Use → Block → Sign → Next
end_level b (ForArguments n q ts done) e S.Comma = in_body AtOperand (enter b (ForArguments n q ts (part e done)))
end_level b (ForArguments n q ts done) e S.RoundClose =
    in_body (AtOperator (Call n q (onto_types ts NoWritten) (onto_expressions (part e done) NoExpressions))) b
end_level b (ForArguments n q ts done) e _ = Refused
end_level b (ForFields n q done) e S.Comma = in_body AtOperand (enter b (ForFields n q (part e done)))
end_level b (ForFields n q done) e S.RoundClose =
    in_body (AtOperator (Constructor n q (onto_expressions (part e done) NoExpressions))) b
end_level b (ForFields n q done) e _ = Refused
end_level b (ForParenthesis q) e S.RoundClose = in_body (AtOperator (Bracket e)) b
end_level b (ForParenthesis q) e S.Comma = in_body AtOperand (enter b (ForTuple q (part e [])))
end_level b (ForParenthesis q) e _ = Refused
end_level b ForBracket e S.RoundClose = in_body (AtOperator (Bracket e)) b
end_level b ForBracket e _ = Refused
end_level b (ForTuple q done) e S.Comma = in_body AtOperand (enter b (ForTuple q (part e done)))
end_level b (ForTuple q done) e S.RoundClose =
    in_body (AtOperator (Tuple q (onto_expressions (part e done) NoExpressions))) b
end_level b (ForTuple q done) e _ = Refused
end_level b (ForClause m q) e S.Semicolon = in_body (ClauseNext (with_clause m q e)) b
end_level b (ForClause m q) e S.CurlyClose = close_match (with_clause m q e) b
end_level b (ForClause m q) e _ = Refused
end_level b (ForYes q c) e S.CurlyClose = in_body (Else q c e) b
end_level b (ForYes q c) e _ = Refused
end_level b (ForNo q c one) e S.CurlyClose = in_body (AtOperator (If q c one e)) b
end_level b (ForNo q c one) e _ = Refused

abbrev pub function_of : FunctionHead → Result → Block → Function
function_of h r b = record {
  kind = h.kind;
  credits = h.credits;
  name = h.name;
  place = h.place;
  statics =
      h.statics;
  parameters = h.parameters;
  result = r;
  body = b;
}

abbrev pub end_body : FunctionHead → Result → Block → Sign → Next
end_body h r b S.CurlyClose = Declares (FunctionDeclaration (function_of h r b))
end_body h r b _ = Refused

-- the end of a block, or of an expression that is in none
abbrev pub end_last : FunctionHead → Result → List Level → Block → Sign → Next
end_last h r [] b s = end_body h r b s
end_last h r (l ∷ ls) b s = end_level (record { head = h; gives = r; levels = ls; partial = l.before }) l.purpose b s

-- the end of a let's bound expression
abbrev pub end_bound : Body → List Bind → Expression → Sign → Next
end_bound b bs e S.Semicolon = in_body AtBlock
    (record b {
      partial = record {
        lets = b.partial.lets ++ record { binds = bs; bound = e } ∷ [];
        binds = None;
        openers =
            [];
        waiting = none_waits;
      };
    })
end_bound b bs e _ = Refused

-- the end of a scrutinee or a condition
abbrev pub end_head : Body → Opener → Expression → Sign → Next
end_head b (MatchOpener w d q) e S.CurlyOpen =
    Stays (InPattern PatternWanted [] (with_waiting b w)
    (record { destructive = d; place = q; scrutinee = e; clauses = [] }))
end_head b (IfOpener w q) e S.CurlyOpen = in_body AtBlock (enter (with_waiting b w) (ForYes q e))
end_head b o e _ = Refused

abbrev pub end_expression : Body → List Opener → Option (List Bind) → Expression → Sign → Next
end_expression b (o ∷ os) bs e s = end_head
    (record b { partial = record b.partial { openers = os; waiting = none_waits } }) o e s
end_expression b [] (Some bs) e s = end_bound b bs e s
end_expression b [] None e s = end_last b.head b.gives b.levels (onto_block b.partial.lets (Last e)) s

abbrev pub after_operand : Body → Expression → Word → Place → Next
after_operand b v (Operate op) p = after_operator (tightness_of op) b v op p
after_operand b v (Mark s) p = end_expression b b.partial.openers b.partial.binds (all_applied b.partial.waiting v) s
after_operand b v _ p = Refused

-- Patterns.

abbrev pub in_pattern : PatternPosition → List OpenPattern → Body → OpenMatch → Next
in_pattern q o b m = Stays (InPattern q o b m)

abbrev pub pattern_wanted : List OpenPattern → Body → OpenMatch → Word → Place → Next
pattern_wanted o b m (Mark S.Underscore) p = in_pattern (PatternDone (Wildcard p)) o b m
pattern_wanted o b m (Lower n) p = in_pattern (PatternDone (VariablePattern n p)) o b m
pattern_wanted o b m (Upper n) p = in_pattern (PatternNamed n p) o b m
pattern_wanted o b m (Number ds) p = in_pattern (PatternDone (LiteralPattern (pos (value_of ds)) p)) o b m
pattern_wanted o b m (Operate O.Subtract) p = in_pattern (PatternMinus p) o b m
pattern_wanted o b m _ p = Refused

abbrev pub pattern_done : Pattern → List OpenPattern → Body → OpenMatch → Word → Next
pattern_done q [] b m (Mark S.Arrow) = in_body AtBlock (enter b (ForClause m q))
pattern_done q [] b m _ = Refused
pattern_done q (o ∷ os) b m (Mark S.Comma) = in_pattern PatternWanted (record o { done = o.done ++ q ∷ [] } ∷ os) b m
pattern_done q (o ∷ os) b m (Mark S.RoundClose) =
    in_pattern (PatternDone (ConstructorPattern o.name o.place (onto_patterns (o.done ++ q ∷ []) NoPatterns))) os b m
pattern_done q (o ∷ os) b m _ = Refused

abbrev pub step_pattern : PatternPosition → List OpenPattern → Body → OpenMatch → Word → Place → Next
step_pattern PatternWanted o b m w p = pattern_wanted o b m w p
step_pattern (PatternMinus q) o b m (Number ds) p =
    in_pattern (PatternDone (LiteralPattern (neg_ℤ (pos (value_of ds))) q)) o b m
step_pattern (PatternMinus q) o b m _ p = Refused
step_pattern (PatternNamed n q) o b m (Mark S.RoundOpen) p =
    in_pattern PatternWanted (record { name = n; place = q; done = [] } ∷ o) b m
step_pattern (PatternNamed n q) o b m w p = pattern_done (ConstructorPattern n q NoPatterns) o b m w
step_pattern (PatternDone x) o b m w p = pattern_done x o b m w

abbrev pub step_body : BodyPosition → Body → Word → Place → Next
step_body AtBlock b (Mark S.Let) p = in_body LetStart b
step_body AtBlock b w p = operand_start (last_in b) w p
step_body LetStart b (Mark S.RoundOpen) p = in_body (BindStart []) b
step_body LetStart b w p = bind_start Alone b w p
step_body (BindStart done) b w p = bind_start (Bracketed done) b w p
step_body (BindNamed bs n q) b (Mark S.Colon) p = wants_type (ForAnnotation b bs n q)
step_body (BindNamed bs n q) b w p = end_bind b bs (record { name = n; place = q; annotation = None }) w
step_body (LetEquals bs) b w p = let_equals bs b w
step_body AtOperand b w p = operand_start b w p
step_body (LowerName n q) b (Mark S.SquareOpen) p = wants_type (ForStaticArgument b n q [])
step_body (LowerName n q) b (Mark S.RoundOpen) p = in_body (ArgumentFirst n q []) b
step_body (LowerName n q) b w p = after_operand b (Variable n q) w p
step_body (CallOpen n q ts) b (Mark S.RoundOpen) p = in_body (ArgumentFirst n q ts) b
step_body (CallOpen n q ts) b _ p = Refused
step_body (ArgumentFirst n q ts) b (Mark S.RoundClose) p =
    in_body (AtOperator (Call n q (onto_types ts NoWritten) NoExpressions)) b
step_body (ArgumentFirst n q ts) b w p = operand_start (enter b (ForArguments n q ts [])) w p
step_body (UpperName n q) b (Mark S.RoundOpen) p = in_body AtOperand (enter b (ForFields n q []))
step_body (UpperName n q) b w p = after_operand b (Constructor n q NoExpressions) w p
step_body (Minus q) b (Number ds) p = in_body (AtOperator (Literal (neg_ℤ (pos (value_of ds))) q)) b
step_body (Minus q) b _ p = Refused
step_body (Parenthesis q) b (Mark S.Let) p = in_body LetStart (enter b ForBracket)
step_body (Parenthesis q) b w p = operand_start (enter b (ForParenthesis q)) w p
step_body (AtOperator v) b w p = after_operand b v w p
step_body (ClauseNext m) b (Mark S.CurlyClose) p = close_match m b
step_body (ClauseNext m) b w p = pattern_wanted [] b m w p
step_body (Else q c one) b (Mark S.Else) p = in_body (ElseOpen q c one) b
step_body (Else q c one) b _ p = Refused
step_body (ElseOpen q c one) b (Mark S.CurlyOpen) p = in_body AtBlock (enter b (ForNo q c one))
step_body (ElseOpen q c one) b _ p = Refused

abbrev pub step : State → Word → Place → Next
step Top w p = step_top w p
step (InFunction h) w p = step_function h w p
step (InData h) w p = step_data h w p
step (InType q o u) w p = step_type q o u w p
step (InPattern q o b m) w p = step_pattern q o b m w p
step (InBody q b) w p = step_body q b w p

-- the declarations that ended, and the state
pub record Machine : Type 0 where
  pub done : List Declaration
  pub state : State

abbrev pub start : Machine
start = record { done = []; state = Top }

abbrev pub then_next : List Declaration → Next → Option Machine
then_next ds Refused = None
then_next ds (Stays s) = Some (record { done = ds; state = s })
then_next ds (Declares d) = Some (record { done = ds ++ d ∷ []; state = Top })

abbrev pub machine_step : Machine → Token → Option Machine
machine_step m t = then_next m.done (step m.state t.word t.place)

abbrev pub ended_in : List Declaration → State → Option Program
ended_in ds Top = Some ds
ended_in ds _ = None

abbrev pub machine_end : Machine → Option Program
machine_end m = ended_in m.done m.state
