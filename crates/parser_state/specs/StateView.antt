-- The state of the token machine that a state of the parser stands for.
--
-- The two differ in one thing. The parser keeps an expression as steps in postfix order, and an operator, a match or an
-- if that waits doesn't hold its operand: the operand is one of the expressions that the steps leave, the last one
-- first. In the machine it is beside what waits for it. So what waits takes its operand here from what the steps
-- left: first what an ended operand or a bracket takes, then the product, the sum and the comparison, then the openers
-- from the innermost outwards. Nothing is over after them: that is IsWell.
--
-- Each function that takes a token says that its result Follows a row of the machine, at that token. A function that
-- takes none says to what it Leads, whatever the token was.
use Rattle.std.specs.Prelude.{◌≡◌, ◌<◌, ℕ, Bool, true, false, List, [], ◌∷◌, map, reverse, Option, Some, None}
use Rattle.std.specs.Prelude.{option_map}
use Rattle.std.specs.List.{All}
use Rattle.std.specs.Prelude.{Vec, Result, IfOk}
use Rattle.std.specs.declared.alloc.AllocError.{AllocError}
use Rattle.std.specs.Global.{Global}
use Rattle.fip_base.specs.declared.surface.Bind.{Bind}
use Rattle.fip_language.specs.Core as C
use Rattle.fip_language.specs.Surface as S
use Rattle.fip_base.specs.CoreView.{written, result_type}
use Rattle.fip_base.specs.SurfaceView.{bind, pattern, LetPart, Case, top, below, left_by, action}
use Rattle.fip_base.specs.CoreView.{signature_parameter, static}
use Rattle.fip_base.specs.SurfaceView.{block, clause, expression, let_part, parameter}
use Rattle.fip_base.specs.CoreView.{type_name, data_constructor}
use Rattle.fip_base.specs.SurfaceView.{declaration}
use Rattle.fip_base.specs.declared.surface.Step.{Step}
use Rattle.fip_base.specs.declared.surface.Let.{Let}
use Rattle.fip_base.specs.declared.surface.Clause.{Clause}
use Rattle.fip_language.specs.declared.Place.{Place}
use Rattle.fip_grammar.specs.declared.token.Token.{Token}
use Rattle.fip_grammar.specs.Token.{Word, Number, value_of}
use Rattle.fip_grammar.specs.WordView.{word}
use Rattle.fip_grammar.specs.Limits.{limit}
use Rattle.fip_grammar.specs.Machine as M
use Rattle.parser_state.specs.declared.state.DataHead.{DataHead}
use Rattle.parser_state.specs.declared.state.FunctionHead.{FunctionHead}
use Rattle.parser_state.specs.declared.state.Signature.{Signature}
use Rattle.parser_state.specs.declared.state.ResultOwner.{ResultOwner}
use Rattle.parser_state.specs.declared.state.ResultOwner.TheVariants as R
use Rattle.parser_state.specs.declared.state.FunctionHeading.{FunctionHeading}
use Rattle.parser_state.specs.declared.state.FunctionHeading.TheVariants as F
use Rattle.parser_state.specs.declared.state.DataHeading.{DataHeading}
use Rattle.parser_state.specs.declared.state.DataHeading.TheVariants as D
use Rattle.parser_state.specs.declared.state.OpenType.{OpenType}
use Rattle.parser_state.specs.declared.state.TypePosition.{TypePosition}
use Rattle.parser_state.specs.declared.state.TypePosition.TheVariants as T
use Rattle.parser_state.specs.declared.state.TypeUse.{TypeUse}
use Rattle.parser_state.specs.declared.state.TypeUse.TheVariants as U
use Rattle.parser_state.specs.declared.state.Binds.{Binds}
use Rattle.parser_state.specs.declared.state.Binds.TheVariants as G
use Rattle.parser_state.specs.declared.state.OpenPattern.{OpenPattern}
use Rattle.parser_state.specs.declared.state.PatternPosition.{PatternPosition}
use Rattle.parser_state.specs.declared.state.PatternPosition.TheVariants as P
use Rattle.parser_state.specs.declared.state.Pending.{Pending}
use Rattle.parser_state.specs.declared.state.Waiting.{Waiting}
use Rattle.parser_state.specs.declared.state.Opener.{Opener}
use Rattle.parser_state.specs.declared.state.Opener.TheVariants as O
use Rattle.parser_state.specs.declared.state.Partial.{Partial}
use Rattle.parser_state.specs.declared.state.OpenMatch.{OpenMatch}
use Rattle.parser_state.specs.declared.state.Use.{Use}
use Rattle.parser_state.specs.declared.state.Use.TheVariants as E
use Rattle.parser_state.specs.declared.state.Level.{Level}
use Rattle.parser_state.specs.declared.state.Body.{Body}
use Rattle.parser_state.specs.declared.state.BodyPosition.{BodyPosition}
use Rattle.parser_state.specs.declared.state.BodyPosition.TheVariants as B
use Rattle.parser_state.specs.declared.state.State.{State}
use Rattle.parser_state.specs.declared.state.State.TheVariants as V
use Rattle.parser_state.specs.declared.state.Next.{Next}
use Rattle.parser_state.specs.declared.state.Next.TheVariants as N
use Rattle.fip_grammar.specs.declared.Sign.{Sign}

-- heads

abbrev pub data_head : DataHead → C.Data
data_head d =
    record {
      name = d.name;
      place = d.place;
      parameters = map type_name d.parameters.items;
      constructors = map data_constructor d.constructors.items;
    }

abbrev pub function_head : FunctionHead → M.FunctionHead
function_head h =
    record {
      kind = h.kind;
      credits = h.credits.items;
      name = h.name;
      place = h.place;
      statics = map static h.statics.items;
      parameters = map parameter h.parameters.items;
    }

abbrev pub signature : Signature → M.SignatureHead
signature g = record { name = g.name; place = g.place; parameters = map signature_parameter g.parameters.items }

abbrev pub result_owner : ResultOwner → M.ResultOwner
result_owner (R.Signature h g) = M.OfSignature (function_head h) (signature g)
result_owner (R.Function h) = M.OfFunction (function_head h)

abbrev pub function_heading : FunctionHeading → M.FunctionHeading
function_heading (F.FunctionKeyword k cs) = M.FunctionKeyword k cs.items
function_heading (F.CreditSize k cs p) = M.CreditSize k cs.items p
function_heading (F.FunctionName k cs) = M.FunctionName k cs.items
function_heading (F.FunctionStart h) = M.FunctionStart (function_head h)
function_heading (F.StaticName h) = M.StaticName (function_head h)
function_heading (F.StaticStart h n p) = M.StaticStart (function_head h) n p
function_heading (F.SignatureKeyword h g) = M.SignatureKeyword (function_head h) (signature g)
function_heading (F.SignatureOpen h g) = M.SignatureOpen (function_head h) (signature g)
function_heading (F.SignatureFirst h g) = M.SignatureFirst (function_head h) (signature g)
function_heading (F.SignatureNext h g) = M.SignatureNext (function_head h) (signature g)
function_heading (F.SignatureColon h g) = M.SignatureColon (function_head h) (signature g)
function_heading (F.ResultStart o) = M.ResultStart (result_owner o)
function_heading (F.StaticEnd h) = M.StaticEnd (function_head h)
function_heading (F.ParametersOpen h) = M.ParametersOpen (function_head h)
function_heading (F.ParameterFirst h) = M.ParameterFirst (function_head h)
function_heading (F.ParameterNext h) = M.ParameterNext (function_head h)
function_heading (F.ParameterName h) = M.ParameterName (function_head h)
function_heading (F.ParameterColon h lent n p) = M.ParameterColon (function_head h) lent n p
function_heading (F.ResultColon h) = M.ResultColon (function_head h)
function_heading (F.BodyOpen h r) = M.BodyOpen (function_head h) (result_type r)

abbrev pub data_heading : DataHeading → M.DataHeading
data_heading D.DataName = M.DataName
data_heading (D.DataStart d) = M.DataStart (data_head d)
data_heading (D.DataParameter d) = M.DataParameter (data_head d)
data_heading (D.DataParameterEnd d) = M.DataParameterEnd (data_head d)
data_heading (D.DataOpen d) = M.DataOpen (data_head d)
data_heading (D.ConstructorFirst d) = M.ConstructorFirst (data_head d)
data_heading (D.ConstructorNext d) = M.ConstructorNext (data_head d)
data_heading (D.ConstructorStart d n p) = M.ConstructorStart (data_head d) n p
data_heading (D.ConstructorEnd d) = M.ConstructorEnd (data_head d)

-- expressions whose brackets are open

-- the expressions that steps leave, the last one first
abbrev pub left : List Step → List S.Expression
left steps = left_by (map action steps) []

abbrev pub binding_of : LetPart → M.Binding
binding_of l = record { binds = l.binds; bound = l.bound }

abbrev pub bindings : List Let → List M.Binding
bindings ls = map (λ l. binding_of (let_part l)) ls

abbrev pub clause_of : Case → M.Clause
clause_of c = record { pattern = c.pattern; body = c.body }

abbrev pub clauses : List Clause → List M.Clause
clauses cs = map (λ c. clause_of (clause c)) cs

-- An operator takes its left operand, where one waits.
abbrev pub pending : Option Pending → List S.Expression → Option M.Pending
pending None es = None
pending (Some q) es = Some (record { left = top es; operator = q.operator; place = q.place })

abbrev pub after_pending : Option Pending → List S.Expression → List S.Expression
after_pending None es = es
after_pending (Some q) es = below es

abbrev pub waiting : Waiting → List S.Expression → M.Waiting
waiting w es =
    record {
      comparison = pending w.comparison (after_pending w.sum (after_pending w.product es));
      sum = pending w.sum (after_pending w.product es);
      product = pending w.product es;
    }

abbrev pub nothing_waits : Waiting
nothing_waits = record { comparison = None; sum = None; product = None }

-- what is left after the operators that wait
abbrev pub after_waiting : Waiting → List S.Expression → List S.Expression
after_waiting w es = after_pending w.comparison (after_pending w.sum (after_pending w.product es))

abbrev pub opener : Opener → List S.Expression → M.Opener
opener (O.Match w d p) es = M.MatchOpener (waiting w es) d p
opener (O.If w p) es = M.IfOpener (waiting w es) p

abbrev pub waits_outside : Opener → Waiting
waits_outside (O.Match w d p) = w
waits_outside (O.If w p) = w

-- the innermost first
abbrev pub openers : List Opener → List S.Expression → List M.Opener
openers [] es = []
openers (o ∷ os) es = opener o es ∷ openers os (after_waiting (waits_outside o) es)

abbrev pub after_openers : List Opener → List S.Expression → List S.Expression
after_openers [] es = es
after_openers (o ∷ os) es = after_openers os (after_waiting (waits_outside o) es)

abbrev pub bound_binds : Option (Vec Bind Global) → Option (List S.Bind)
bound_binds bs = option_map (λ b. map bind b.items) bs

-- a body where an expression of a block begins, bound to these binds or the last
abbrev pub started : M.Body → Option (List S.Bind) → M.Body
started b bs = record b { partial = record { lets = b.partial.lets; binds = bs; openers = []; waiting = M.none_waits } }

abbrev pub partial : Partial → List S.Expression → M.Partial
partial p es =
    record {
      lets = bindings p.lets.items;
      binds = bound_binds p.binds;
      openers = openers (reverse p.openers.items) (after_waiting p.waiting es);
      waiting = waiting p.waiting es;
    }

-- All that waits has its operand, and nothing is over.
abbrev pub IsWellPartial : Partial → List S.Expression → Type 0
IsWellPartial p es = after_openers (reverse p.openers.items) (after_waiting p.waiting es) ≡ []

abbrev pub open_match : OpenMatch → S.Expression → M.OpenMatch
open_match m e = record {
  destructive = m.destructive;
  place = m.place;
  scrutinee = e;
  clauses =
      clauses m.clauses.items;
}

-- What a bracket is for, where the expressions before it are these: a match takes its scrutinee, an if its condition.
abbrev pub purpose : Use → List S.Expression → M.Use
purpose (E.Arguments n p ts done) es = M.ForArguments n p (map written ts.items) (map expression done.items)
purpose (E.Fields n p done) es = M.ForFields n p (map expression done.items)
purpose (E.Parenthesis p) es = M.ForParenthesis p
purpose E.Bracket es = M.ForBracket
purpose (E.Tuple p done) es = M.ForTuple p (map expression done.items)
purpose (E.Clause m q) es = M.ForClause (open_match m (top es)) (pattern q)
purpose (E.Yes p) es = M.ForYes p (top es)
purpose (E.No p y) es = M.ForNo p (top es) (block y)

abbrev pub after_purpose : Use → List S.Expression → List S.Expression
after_purpose (E.Arguments n p ts done) es = es
after_purpose (E.Fields n p done) es = es
after_purpose (E.Parenthesis p) es = es
after_purpose E.Bracket es = es
after_purpose (E.Tuple p done) es = es
after_purpose (E.Clause m q) es = below es
after_purpose (E.Yes p) es = below es
after_purpose (E.No p y) es = below es

abbrev pub level : Level → M.Level
level l =
    record {
      before = partial l.before (after_purpose l.purpose (left l.before.steps.items));
      purpose = purpose l.purpose (left l.before.steps.items);
    }

abbrev pub IsWellLevel : Level → Type 0
IsWellLevel l = IsWellPartial l.before (after_purpose l.purpose (left l.before.steps.items))

-- the innermost first
abbrev pub levels : List Level → List M.Level
levels ls = reverse (map level ls)

-- a body after whose open brackets these expressions wait
abbrev pub body_with : Body → List S.Expression → M.Body
body_with b es =
    record {
      head = function_head b.head;
      gives = result_type b.gives;
      levels = levels b.levels.items;
      partial = partial b.partial es;
    }

abbrev pub IsWellWith : Body → List S.Expression → Type 0
IsWellWith b es = All IsWellLevel b.levels.items × IsWellPartial b.partial es

-- what the open expression of a body left
abbrev pub operands : Body → List S.Expression
operands b = left b.partial.steps.items

-- a body where an operand comes next
abbrev pub body : Body → M.Body
body b = body_with b (operands b)

abbrev pub IsWellBody : Body → Type 0
IsWellBody b = IsWellWith b (operands b)

-- a body after an operand, and after that operand
abbrev pub under_operand : Body → M.Body
under_operand b = body_with b (below (operands b))

abbrev pub IsWellUnder : Body → Type 0
IsWellUnder b = IsWellWith b (below (operands b))

abbrev pub operand : Body → S.Expression
operand b = top (operands b)

abbrev pub binds : Binds → M.Binds
binds G.Alone = M.Alone
binds (G.Bracketed done) = M.Bracketed (map bind done.items)

-- a place in a body
abbrev pub in_body : BodyPosition → Body → M.State
in_body B.Block b = M.InBody M.AtBlock (body b)
in_body B.LetStart b = M.InBody M.LetStart (body b)
in_body (B.BindStart done) b = M.InBody (M.BindStart (map bind done.items)) (body b)
in_body (B.BindNamed bs n p) b = M.InBody (M.BindNamed (binds bs) n p) (body b)
in_body (B.LetEquals bs) b = M.InBody (M.LetEquals (map bind bs.items)) (body b)
in_body B.Operand b = M.InBody M.AtOperand (body b)
in_body (B.LowerName n p) b = M.InBody (M.LowerName n p) (body b)
in_body (B.CallOpen n p ts) b = M.InBody (M.CallOpen n p (map written ts.items)) (body b)
in_body (B.ArgumentFirst n p ts) b = M.InBody (M.ArgumentFirst n p (map written ts.items)) (body b)
in_body (B.UpperName n p) b = M.InBody (M.UpperName n p) (body b)
in_body (B.Minus p) b = M.InBody (M.Minus p) (body b)
in_body (B.Parenthesis p) b = M.InBody (M.Parenthesis p) (body b)
in_body B.Operator b = M.InBody (M.AtOperator (operand b)) (under_operand b)
in_body (B.ClauseNext m) b = M.InBody (M.ClauseNext (open_match m (operand b))) (under_operand b)
in_body (B.Else p y) b = M.InBody (M.Else p (operand b) (block y)) (under_operand b)
in_body (B.ElseOpen p y) b = M.InBody (M.ElseOpen p (operand b) (block y)) (under_operand b)

abbrev pub IsWellIn : BodyPosition → Body → Type 0
IsWellIn B.Block b = IsWellBody b
IsWellIn B.LetStart b = IsWellBody b
IsWellIn (B.BindStart done) b = IsWellBody b
IsWellIn (B.BindNamed bs n p) b = IsWellBody b
IsWellIn (B.LetEquals bs) b = IsWellBody b
IsWellIn B.Operand b = IsWellBody b
IsWellIn (B.LowerName n p) b = IsWellBody b
IsWellIn (B.CallOpen n p ts) b = IsWellBody b
IsWellIn (B.ArgumentFirst n p ts) b = IsWellBody b
IsWellIn (B.UpperName n p) b = IsWellBody b
IsWellIn (B.Minus p) b = IsWellBody b
IsWellIn (B.Parenthesis p) b = IsWellBody b
IsWellIn B.Operator b = IsWellUnder b
IsWellIn (B.ClauseNext m) b = IsWellUnder b
IsWellIn (B.Else p y) b = IsWellUnder b
IsWellIn (B.ElseOpen p y) b = IsWellUnder b

-- types and patterns whose brackets are open, the innermost first

abbrev pub open_type : OpenType → M.OpenType
open_type o = record { name = o.name; place = o.place; done = map written o.done.items }

abbrev pub open_types : List OpenType → List M.OpenType
open_types os = reverse (map open_type os)

abbrev pub type_position : TypePosition → M.TypePosition
type_position T.Wanted = M.TypeWanted
type_position (T.Named n p) = M.TypeNamed n p
type_position (T.Done t) = M.TypeDone (written t)

abbrev pub type_use : TypeUse → M.TypeUse
type_use (U.Field d n p fs) = M.ForField (data_head d) n p (map written fs.items)
type_use (U.SignatureParameter h g lent) = M.ForSignatureParameter (function_head h) (signature g) lent
type_use (U.Parameter h lent n p) = M.ForParameter (function_head h) lent n p
type_use (U.Result o) = M.ForResult (result_owner o)
type_use (U.ResultPart o p ts) = M.ForResultPart (result_owner o) p (map written ts.items)
type_use (U.Annotation b bs n p) = M.ForAnnotation (body b) (binds bs) n p
type_use (U.StaticArgument b n p ts) = M.ForStaticArgument (body b) n p (map written ts.items)

abbrev pub IsWellUse : TypeUse → Type 0
IsWellUse (U.Field d n p fs) = Unit {0}
IsWellUse (U.SignatureParameter h g lent) = Unit {0}
IsWellUse (U.Parameter h lent n p) = Unit {0}
IsWellUse (U.Result o) = Unit {0}
IsWellUse (U.ResultPart o p ts) = Unit {0}
IsWellUse (U.Annotation b bs n p) = IsWellBody b
IsWellUse (U.StaticArgument b n p ts) = IsWellBody b

abbrev pub open_pattern : OpenPattern → M.OpenPattern
open_pattern o = record { name = o.name; place = o.place; done = map pattern o.done.items }

abbrev pub open_patterns : List OpenPattern → List M.OpenPattern
open_patterns os = reverse (map open_pattern os)

abbrev pub pattern_position : PatternPosition → M.PatternPosition
pattern_position P.Wanted = M.PatternWanted
pattern_position (P.Minus p) = M.PatternMinus p
pattern_position (P.Named n p) = M.PatternNamed n p
pattern_position (P.Done q) = M.PatternDone (pattern q)

-- the whole

abbrev pub state : State → M.State
state V.Top = M.Top
state (V.Function h) = M.InFunction (function_heading h)
state (V.Data h) = M.InData (data_heading h)
state (V.Typing q os u) = M.InType (type_position q) (open_types os.items) (type_use u)
state (V.Matching q os b m) = M.InPattern (pattern_position q) (open_patterns os.items) (under_operand b)
    (open_match m (operand b))
state (V.Body q b) = in_body q b

abbrev pub IsWell : State → Type 0
IsWell V.Top = Unit {0}
IsWell (V.Function h) = Unit {0}
IsWell (V.Data h) = Unit {0}
IsWell (V.Typing q os u) = IsWellUse u
IsWell (V.Matching q os b m) = IsWellUnder b
IsWell (V.Body q b) = IsWellIn q b

-- the body outside an opener's scrutinee or condition
abbrev pub inside : Body → Opener → Body
inside b o = record b { partial = record b.partial { waiting = waits_outside o } }

-- the end of an expression, by what waits in the body
abbrev pub ended : M.Body → S.Expression → Sign → M.Next
ended b v s = M.end_expression b b.partial.openers b.partial.binds (M.all_applied b.partial.waiting v) s

-- A literal that is above the greatest one, after a minus or not.
abbrev pub IsAbove : Bool → Word → Type 0
IsAbove negated w = (ds : List ℕ) × (w ≡ Number ds) × (limit negated < value_of ds)

-- What a token does is what it does to the machine; only a literal may be too large for the code.
abbrev pub Answers : Bool → Word → Next → M.Next → Type 0
Answers negated w (N.Stays s) x = (x ≡ M.Stays (state s)) × IsWell s
Answers negated w (N.Declares d) x = x ≡ M.Declares (declaration d)
Answers negated w N.Refused x = x ≡ M.Refused
Answers negated w N.TooLarge x = ((m : M.State) × (x ≡ M.Stays m)) × IsAbove negated w

-- Whatever the token is, the result is this.
abbrev pub Leads : Result Next AllocError → M.Next → Type 0
Leads r y = (negated : Bool) (w : Word) (x : M.Next) → x ≡ y → IfOk r (λ n. Answers negated w n x)

-- The result is what this row of the machine gives for the token.
abbrev pub Follows : Bool → Token → Result Next AllocError → (Word → Place → M.Next) → Type 0
Follows negated t r row = IfOk r (λ n. Answers negated (word t.word) n (row (word t.word) t.place))

-- the places where a literal is after its minus
abbrev pub is_negated : BodyPosition → Bool
is_negated (B.Minus p) = true
is_negated _ = false

abbrev pub is_negated_pattern : PatternPosition → Bool
is_negated_pattern (P.Minus p) = true
is_negated_pattern _ = false

abbrev pub negated : State → Bool
negated (V.Body q b) = is_negated q
negated (V.Matching q os b m) = is_negated_pattern q
negated _ = false
