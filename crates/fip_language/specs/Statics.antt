-- Static arguments are closed trees: int, or a name with its own static arguments. They are looked up at each call, so
-- that nothing is specialised. Where map[a, b, f] calls f, it calls what was given for f; where it calls map[a, b, f],
-- that call is given what it was given itself.
use Rattle.std.specs.Prelude.{List, [], ◌∷◌, Option, Some, None, if◌then◌else◌}
use Rattle.fip_language.specs.Core.{Name, Written, Writtens, WrittenInt, WrittenName, NoWritten, MoreWritten, Static}
use Rattle.fip_language.specs.Core.{TypeParameter, FunctionParameter, Function, Core}
use Rattle.fip_language.specs.Declarations.{same_name, function_of}

mutual
  pub data Closed : Type 0 where
    ClosedInt : Closed
    ClosedName : (name : Name) (arguments : Closeds) → Closed

  pub data Closeds : Type 0 where
    NoClosed : Closeds
    MoreClosed : (c : Closed) (cs : Closeds) → Closeds

-- a function and what is given for its static parameters
pub record Instance : Type 0 where
  pub function : Function
  pub given : Closeds

-- what is given for the type parameter of a name
abbrev pub type_among : Name → List Static → Closeds → Option Closed
type_among name [] cs = None
type_among name (s ∷ ss) NoClosed = None
type_among name (TypeParameter n p ∷ ss) (MoreClosed c cs) = if same_name name n then Some c else type_among name ss cs
type_among name (FunctionParameter n p ps r ∷ ss) (MoreClosed c cs) = type_among name ss cs

-- what is given for the function parameter of a name
abbrev pub function_among : Name → List Static → Closeds → Option Closed
function_among name [] cs = None
function_among name (s ∷ ss) NoClosed = None
function_among name (TypeParameter n p ∷ ss) (MoreClosed c cs) = function_among name ss cs
function_among name (FunctionParameter n p ps r ∷ ss) (MoreClosed c cs) =
    if same_name name n then Some c else function_among name ss cs

abbrev pub given_type : Instance → Name → Option Closed
given_type here name = type_among name here.function.statics here.given

abbrev pub given_function : Instance → Name → Option Closed
given_function here name = function_among name here.function.statics here.given

abbrev pub given_or : Option Closed → Closed → Closed
given_or (Some c) d = c
given_or None d = d

-- a type that is written in an instance
abbrev mutual
  pub closed_type : Instance → Written → Closed
  closed_type here (WrittenInt p) = ClosedInt
  closed_type here (WrittenName name p ws) = given_or (given_type here name) (ClosedName name (closed_types here ws))

  pub closed_types : Instance → Writtens → Closeds
  closed_types here NoWritten = NoClosed
  closed_types here (MoreWritten w ws) = MoreClosed (closed_type here w) (closed_types here ws)

abbrev pub statics_or_none : Option Function → List Static
statics_or_none None = []
statics_or_none (Some f) = f.statics

abbrev pub statics_of : Core → Name → List Static
statics_of core name = statics_or_none (function_of core name)

-- a function that is written in an instance; its header says which of its static arguments are types
abbrev mutual
  pub closed_function : Core → Instance → Written → Closed
  closed_function core here (WrittenInt p) = ClosedInt
  closed_function core here (WrittenName name p ws) =
      given_or (given_function here name) (ClosedName name (closed_statics core here (statics_of core name) ws))

  pub closed_statics : Core → Instance → List Static → Writtens → Closeds
  closed_statics core here [] ws = NoClosed
  closed_statics core here (s ∷ ss) NoWritten = NoClosed
  closed_statics core here (TypeParameter n p ∷ ss) (MoreWritten w ws) =
      MoreClosed (closed_type here w) (closed_statics core here ss ws)
  closed_statics core here (FunctionParameter n p ps r ∷ ss) (MoreWritten w ws) =
      MoreClosed (closed_function core here w) (closed_statics core here ss ws)

-- the function that is called where an instance calls a name with these static arguments
abbrev pub callee : Core → Instance → Name → Writtens → Closed
callee core here name ws = given_or (given_function here name)
    (ClosedName name (closed_statics core here (statics_of core name) ws))
