-- What is so of the tokens of a program, and of all that are after some of them, is so after each part of it. So the
-- names of functions and constructors are tokens of the source, and a data type has no more constructors than tokens.
use Rattle.std.proofs.Common.{◌≡◌, inl, inr, ℕ, suc, Bool, true, false, List, [], ◌∷◌, Option, Some, None, ℤ, refl, subst}
use Rattle.lowering_soundness.specs.fip_language.declared.Place.{Place}
use Rattle.lowering_soundness.specs.fip_language.declared.FunKind.{FunKind}
use Rattle.lowering_soundness.specs.fip_language.declared.FunKind.TheVariants as K
use Rattle.lowering_soundness.specs.fip_language.declared.CreditMark.{CreditMark}
use Rattle.lowering_soundness.specs.fip_language.declared.Operator.TheVariants as O
use Rattle.lowering_soundness.specs.fip_language.Core as C
use Rattle.lowering_soundness.specs.fip_language.Core.{Name, Written, WrittenInt, WrittenName, Writtens, NoWritten, MoreWritten, Static, TypeParameter, FunctionParameter, SignatureParameter, Result, OneResult, TupleResult, TypeName, DataConstructor}
use Rattle.lowering_soundness.specs.fip_language.Surface as T
use Rattle.source_safety.specs.fip_grammar.declared.Sign.{Sign}
use Rattle.source_safety.specs.fip_grammar.declared.Sign.TheVariants as S
use Rattle.source_safety.specs.fip_grammar.Token.{Word, Lower, Upper, Number, Operate, Mark, Token, token}
use Rattle.source_safety.specs.fip_grammar.Grammar.{Sees, MaySee, Type', TypeArguments, FurtherTypes, FurtherTypeList, IsLiteral, Pattern', PatternFields, FurtherPatterns, BindName, Annotation, Bind', FurtherBinds, Binder', match_sign, left_tightness, tightness, Spelled, Arguments, Fields, Further, Block', Clauses', FurtherClauses, Result', Lent, SignatureParameter', FurtherSignatureParameters, SignatureParameters, Signature', Static', FurtherStatics, Statics, Parameter', FurtherParameters, Parameters, Credits, Kind', FunctionParts, Function', FurtherTypeNames, TypeNames, FieldTypes, DataConstructor', FurtherConstructors, DataConstructors, Data', Declaration'}

module _ (Ok : List Token → Type 0) (following : (t : Token) (ts : List Token) → Ok (t ∷ ts) → Ok ts) where
  pub after_word : (w : Word) (p : Place) (ts rest : List Token) → ts ≡ token w p ∷ rest → Ok ts → Ok rest
  after_word w p ts rest e o = following (token w p) rest (subst Ok e o)

  pub past : (s : Sign) (ts rest : List Token) → Sees s ts rest → Ok ts → Ok rest
  past s ts rest h o = after_word (Mark s) h.0 ts rest h.1 o

  -- ---- types

  mutual
    type_past : (ts : List Token) (w : Written) (rest : List Token) → Type' ts w rest → Ok ts → Ok rest
    type_past ts (WrittenInt p) rest h o = after_word (Mark S.Int) p ts rest h o
    type_past ts (WrittenName n p args) rest h o = arguments_past h.0 args rest h.2 (after_word (Lower n) p ts h.0 h.1 o)

    arguments_past : (ts : List Token) (ws : Writtens) (rest : List Token) → TypeArguments ts ws rest → Ok ts → Ok rest
    arguments_past ts NoWritten rest h o = subst Ok h o
    arguments_past ts (MoreWritten t more) rest h o = further_types_past S.SquareClose h.1 more rest h.4 (type_past h.0 t h.1 h.3 (past S.SquareOpen ts h.0 h.2 o))

    further_types_past : (close : Sign) (ts : List Token) (ws : Writtens) (rest : List Token) → FurtherTypes close ts ws rest → Ok ts → Ok rest
    further_types_past close ts NoWritten rest h o = past close ts rest h o
    further_types_past close ts (MoreWritten t more) rest h o = further_types_past close h.1 more rest h.4 (type_past h.0 t h.1 h.3 (past S.Comma ts h.0 h.2 o))

  type_list_past : (close : Sign) (ts : List Token) (ws : List Written) (rest : List Token) → FurtherTypeList close ts ws rest → Ok ts → Ok rest
  type_list_past close ts [] rest h o = past close ts rest h o
  type_list_past close ts (t ∷ more) rest h o = type_list_past close h.1 more rest h.4 (type_past h.0 t h.1 h.3 (past S.Comma ts h.0 h.2 o))

  -- ---- literals and patterns

  literal_past : (ts : List Token) (v : ℤ) (p : Place) (rest : List Token) → IsLiteral ts v p rest → Ok ts → Ok rest
  literal_past ts v p rest (inl h) o = after_word (Number h.0) p ts rest h.1 o
  literal_past ts v p rest (inr h) o = after_word (Number h.0) h.1 (token (Number h.0) h.1 ∷ rest) rest refl (after_word (Operate O.Subtract) p ts (token (Number h.0) h.1 ∷ rest) h.2 o)

  mutual
    pattern_past : (ts : List Token) (q : T.Pattern) (rest : List Token) → Pattern' ts q rest → Ok ts → Ok rest
    pattern_past ts (T.Wildcard p) rest h o = after_word (Mark S.Underscore) p ts rest h o
    pattern_past ts (T.VariablePattern n p) rest h o = after_word (Lower n) p ts rest h o
    pattern_past ts (T.LiteralPattern v p) rest h o = literal_past ts v p rest h o
    pattern_past ts (T.ConstructorPattern n p qs) rest h o = pattern_fields_past h.0 qs rest h.2 (after_word (Upper n) p ts h.0 h.1 o)

    pattern_fields_past : (ts : List Token) (qs : T.Patterns) (rest : List Token) → PatternFields ts qs rest → Ok ts → Ok rest
    pattern_fields_past ts T.NoPatterns rest h o = subst Ok h o
    pattern_fields_past ts (T.MorePatterns q more) rest h o = further_patterns_past h.1 more rest h.4 (pattern_past h.0 q h.1 h.3 (past S.RoundOpen ts h.0 h.2 o))

    further_patterns_past : (ts : List Token) (qs : T.Patterns) (rest : List Token) → FurtherPatterns ts qs rest → Ok ts → Ok rest
    further_patterns_past ts T.NoPatterns rest h o = past S.RoundClose ts rest h o
    further_patterns_past ts (T.MorePatterns q more) rest h o = further_patterns_past h.1 more rest h.4 (pattern_past h.0 q h.1 h.3 (past S.Comma ts h.0 h.2 o))

  -- ---- binders

  bind_name_past : (ts : List Token) (n : Name) (p : Place) (rest : List Token) → BindName ts n p rest → Ok ts → Ok rest
  bind_name_past ts n p rest (inl h) o = after_word (Lower n) p ts rest h o
  bind_name_past ts n p rest (inr h) o = after_word (Mark S.Underscore) p ts rest h.0 o

  annotation_past : (ts : List Token) (w : Option Written) (rest : List Token) → Annotation ts w rest → Ok ts → Ok rest
  annotation_past ts None rest h o = subst Ok h o
  annotation_past ts (Some t) rest h o = type_past h.0 t rest h.2 (past S.Colon ts h.0 h.1 o)

  bind_past : (ts : List Token) (b : T.Bind) (rest : List Token) → Bind' ts b rest → Ok ts → Ok rest
  bind_past ts b rest h o = annotation_past h.0 b.annotation rest h.2 (bind_name_past ts b.name b.place h.0 h.1 o)

  further_binds_past : (ts : List Token) (bs : List T.Bind) (rest : List Token) → FurtherBinds ts bs rest → Ok ts → Ok rest
  further_binds_past ts [] rest h o = past S.RoundClose ts rest h o
  further_binds_past ts (b ∷ bs) rest h o = further_binds_past h.1 bs rest h.4 (bind_past h.0 b h.1 h.3 (past S.Comma ts h.0 h.2 o))

  binder_past : (ts : List Token) (bs : List T.Bind) (rest : List Token) → Binder' ts bs rest → Ok ts → Ok rest
  binder_past ts [] rest h o = absurd h
  binder_past ts (b ∷ []) rest h o = bind_past ts b rest h o
  binder_past ts (b ∷ c ∷ bs) rest h o = further_binds_past h.1 (c ∷ bs) rest h.4 (bind_past h.0 b h.1 h.3 (past S.RoundOpen ts h.0 h.2 o))

  pub may_past : (s : Sign) (ts rest : List Token) → MaySee s ts rest → Ok ts → Ok rest
  may_past s ts rest (inl e) o = subst Ok e o
  may_past s ts rest (inr h) o = past s ts rest h o

  -- ---- expressions

  mutual
    expression_past : (k : ℕ) (ts : List Token) (e : T.Expression) (rest : List Token) → Spelled k ts e rest → Ok ts → Ok rest
    expression_past k ts (T.Variable n p) rest h o = after_word (Lower n) p ts rest h o
    expression_past k ts (T.Literal v p) rest h o = literal_past ts v p rest h o
    expression_past k ts (T.Call n p statics args) rest h o =
        call_past h.2 args rest h.6 (past S.RoundOpen h.1 h.2 h.5 (arguments_past h.0 statics h.1 h.4 (after_word (Lower n) p ts h.0 h.3 o)))
    expression_past k ts (T.Constructor n p args) rest h o = fields_past h.0 args rest h.2 (after_word (Upper n) p ts h.0 h.1 o)
    expression_past k ts (T.Bracket b) rest h o = past S.RoundClose h.1 rest h.4 (block_past h.0 b h.1 h.3 (past S.RoundOpen ts h.0 h.2 o))
    expression_past k ts (T.Tuple p T.NoExpressions) rest h o = absurd h
    expression_past k ts (T.Tuple p (T.MoreExpressions e T.NoExpressions)) rest h o = absurd h
    expression_past k ts (T.Tuple p (T.MoreExpressions e (T.MoreExpressions f es))) rest h o =
        further_past h.1 (T.MoreExpressions f es) rest h.4 (expression_past 0 h.0 e h.1 h.3 (after_word (Mark S.RoundOpen) p ts h.0 h.2 o))
    expression_past k ts (T.Match destructive p e cs) rest h o =
        clauses_past h.2 cs rest h.6 (past S.CurlyOpen h.1 h.2 h.5 (expression_past 0 h.0 e h.1 h.4 (after_word (Mark (match_sign destructive)) p ts h.0 h.3 o)))
    expression_past k ts (T.If p e one other) rest h o =
        let condition = expression_past 0 h.0 e h.1 h.9 (after_word (Mark S.If) p ts h.0 h.8 o) in
        let met = block_past h.2 one h.3 h.11 (past S.CurlyOpen h.1 h.2 h.10 condition) in
        let unmet = block_past h.6 other h.7 h.15 (past S.CurlyOpen h.5 h.6 h.14 (past S.Else h.4 h.5 h.13 (past S.CurlyClose h.3 h.4 h.12 met))) in
        past S.CurlyClose h.7 rest h.16 unmet
    expression_past k ts (T.Binary op p l r) rest h o =
        expression_past (suc (tightness op)) h.1 r rest h.5 (after_word (Operate op) p h.0 h.1 h.4 (expression_past (left_tightness op) ts l h.0 h.3 o))

    call_past : (ts : List Token) (es : T.Expressions) (rest : List Token) → Arguments ts es rest → Ok ts → Ok rest
    call_past ts T.NoExpressions rest h o = past S.RoundClose ts rest h o
    call_past ts (T.MoreExpressions e es) rest h o = further_past h.0 es rest h.2 (expression_past 0 ts e h.0 h.1 o)

    fields_past : (ts : List Token) (es : T.Expressions) (rest : List Token) → Fields ts es rest → Ok ts → Ok rest
    fields_past ts T.NoExpressions rest h o = subst Ok h o
    fields_past ts (T.MoreExpressions e es) rest h o = further_past h.1 es rest h.4 (expression_past 0 h.0 e h.1 h.3 (past S.RoundOpen ts h.0 h.2 o))

    further_past : (ts : List Token) (es : T.Expressions) (rest : List Token) → Further ts es rest → Ok ts → Ok rest
    further_past ts T.NoExpressions rest h o = past S.RoundClose ts rest h o
    further_past ts (T.MoreExpressions e es) rest h o = further_past h.1 es rest h.4 (expression_past 0 h.0 e h.1 h.3 (past S.Comma ts h.0 h.2 o))

    block_past : (ts : List Token) (b : T.Block) (rest : List Token) → Block' ts b rest → Ok ts → Ok rest
    block_past ts (T.Last e) rest h o = expression_past 0 ts e rest h o
    block_past ts (T.Let bs e b) rest h o =
        let bound = expression_past 0 h.2 e h.3 h.8 (past S.Equals h.1 h.2 h.7 (binder_past h.0 bs h.1 h.6 (past S.Let ts h.0 h.5 o))) in
        block_past h.4 b rest h.10 (past S.Semicolon h.3 h.4 h.9 bound)

    clauses_past : (ts : List Token) (cs : T.Clauses) (rest : List Token) → Clauses' ts cs rest → Ok ts → Ok rest
    clauses_past ts T.NoClauses rest h o = absurd h
    clauses_past ts (T.MoreClauses q b cs) rest h o =
        further_clauses_past h.2 cs rest h.6 (block_past h.1 b h.2 h.5 (past S.Arrow h.0 h.1 h.4 (pattern_past ts q h.0 h.3 o)))

    further_clauses_past : (ts : List Token) (cs : T.Clauses) (rest : List Token) → FurtherClauses ts cs rest → Ok ts → Ok rest
    further_clauses_past ts T.NoClauses rest h o = past S.CurlyClose h.0 rest h.2 (may_past S.Semicolon ts h.0 h.1 o)
    further_clauses_past ts (T.MoreClauses q b cs) rest h o =
        further_clauses_past h.3 cs rest h.8
        (block_past h.2 b h.3 h.7 (past S.Arrow h.1 h.2 h.6 (pattern_past h.0 q h.1 h.5 (past S.Semicolon ts h.0 h.4 o))))

  -- ---- functions

  result_past : (ts : List Token) (r : Result) (rest : List Token) → Result' ts r rest → Ok ts → Ok rest
  result_past ts (OneResult t) rest h o = type_past ts t rest h o
  result_past ts (TupleResult p []) rest h o = absurd h
  result_past ts (TupleResult p (t ∷ [])) rest h o = absurd h
  result_past ts (TupleResult p (t ∷ u ∷ us)) rest h o =
      type_list_past S.RoundClose h.1 (u ∷ us) rest h.4 (type_past h.0 t h.1 h.3 (after_word (Mark S.RoundOpen) p ts h.0 h.2 o))

  lent_past : (ts : List Token) (b : Bool) (rest : List Token) → Lent ts b rest → Ok ts → Ok rest
  lent_past ts true rest h o = past S.Caret ts rest h o
  lent_past ts false rest h o = subst Ok h o

  signature_parameter_past : (ts : List Token) (p : SignatureParameter) (rest : List Token) → SignatureParameter' ts p rest → Ok ts → Ok rest
  signature_parameter_past ts p rest h o = type_past h.0 p.type rest h.2 (lent_past ts p.lent h.0 h.1 o)

  further_signature_past : (ts : List Token) (ps : List SignatureParameter) (rest : List Token) → FurtherSignatureParameters ts ps rest → Ok ts → Ok rest
  further_signature_past ts [] rest h o = past S.RoundClose ts rest h o
  further_signature_past ts (p ∷ ps) rest h o = further_signature_past h.1 ps rest h.4 (signature_parameter_past h.0 p h.1 h.3 (past S.Comma ts h.0 h.2 o))

  signature_parameters_past : (ts : List Token) (ps : List SignatureParameter) (rest : List Token) → SignatureParameters ts ps rest → Ok ts → Ok rest
  signature_parameters_past ts [] rest h o = past S.RoundClose ts rest h o
  signature_parameters_past ts (p ∷ ps) rest h o = further_signature_past h.0 ps rest h.2 (signature_parameter_past ts p h.0 h.1 o)

  signature_past : (ts : List Token) (ps : List SignatureParameter) (r : Result) (rest : List Token) → Signature' ts ps r rest → Ok ts → Ok rest
  signature_past ts ps r rest h o =
      result_past h.4 r rest h.10 (past S.Colon h.3 h.4 h.9 (signature_parameters_past h.2 ps h.3 h.8 (past S.RoundOpen h.1 h.2 h.7 (past S.Fun h.0 h.1 h.6 (past S.Colon ts h.0 h.5 o)))))

  static_past : (ts : List Token) (x : Static) (rest : List Token) → Static' ts x rest → Ok ts → Ok rest
  static_past ts (TypeParameter n p) rest h o = after_word (Lower n) p ts rest h o
  static_past ts (FunctionParameter n p ps r) rest h o = signature_past h.0 ps r rest h.2 (after_word (Lower n) p ts h.0 h.1 o)

  further_statics_past : (ts : List Token) (xs : List Static) (rest : List Token) → FurtherStatics ts xs rest → Ok ts → Ok rest
  further_statics_past ts [] rest h o = past S.SquareClose ts rest h o
  further_statics_past ts (x ∷ xs) rest h o = further_statics_past h.1 xs rest h.4 (static_past h.0 x h.1 h.3 (past S.Comma ts h.0 h.2 o))

  statics_past : (ts : List Token) (xs : List Static) (rest : List Token) → Statics ts xs rest → Ok ts → Ok rest
  statics_past ts [] rest h o = subst Ok h o
  statics_past ts (x ∷ xs) rest h o = further_statics_past h.1 xs rest h.4 (static_past h.0 x h.1 h.3 (past S.SquareOpen ts h.0 h.2 o))

  parameter_past : (ts : List Token) (p : T.Parameter) (rest : List Token) → Parameter' ts p rest → Ok ts → Ok rest
  parameter_past ts p rest h o = type_past h.2 p.type rest h.6 (past S.Colon h.1 h.2 h.5 (after_word (Lower p.name) p.place h.0 h.1 h.4 (lent_past ts p.lent h.0 h.3 o)))

  further_parameters_past : (ts : List Token) (ps : List T.Parameter) (rest : List Token) → FurtherParameters ts ps rest → Ok ts → Ok rest
  further_parameters_past ts [] rest h o = past S.RoundClose ts rest h o
  further_parameters_past ts (p ∷ ps) rest h o = further_parameters_past h.1 ps rest h.4 (parameter_past h.0 p h.1 h.3 (past S.Comma ts h.0 h.2 o))

  parameters_past : (ts : List Token) (ps : List T.Parameter) (rest : List Token) → Parameters ts ps rest → Ok ts → Ok rest
  parameters_past ts [] rest h o = past S.RoundClose ts rest h o
  parameters_past ts (p ∷ ps) rest h o = further_parameters_past h.0 ps rest h.2 (parameter_past ts p h.0 h.1 o)

  credits_past : (ts : List Token) (cs : List CreditMark) (rest : List Token) → Credits ts cs rest → Ok ts → Ok rest
  credits_past ts [] rest h o = subst Ok h o
  credits_past ts (c ∷ cs) rest h o =
      credits_past h.1 cs rest h.6 (after_word (Number h.2) c.size_place h.0 h.1 h.4 (after_word (Operate O.Add) c.place ts h.0 h.3 o))

  kind_past : (ts : List Token) (k : FunKind) (cs : List CreditMark) (rest : List Token) → Kind' ts k cs rest → Ok ts → Ok rest
  kind_past ts K.Fip cs rest h o = credits_past h.0 cs rest h.2 (past S.Fip ts h.0 h.1 o)
  kind_past ts K.Fbip cs rest h o = credits_past h.0 cs rest h.2 (past S.Fbip ts h.0 h.1 o)
  kind_past ts K.Fun [] rest h o = subst Ok h o
  kind_past ts K.Fun (c ∷ cs) rest h o = absurd h

  function_parts_past : (ts : List Token) (xs : List Static) (ps : List T.Parameter) (r : Result) (b : T.Block) (rest : List Token) → FunctionParts ts xs ps r b rest → Ok ts → Ok rest
  function_parts_past ts xs ps r b rest h o =
      let head = parameters_past h.1 ps h.2 h.9 (past S.RoundOpen h.0 h.1 h.8 (statics_past ts xs h.0 h.7 o)) in
      let body = block_past h.5 b h.6 h.13 (past S.CurlyOpen h.4 h.5 h.12 (result_past h.3 r h.4 h.11 (past S.Colon h.2 h.3 h.10 head))) in
      past S.CurlyClose h.6 rest h.14 body

  -- the tokens from a function's name on
  pub name_on : (ts : List Token) (f : T.Function) (rest : List Token) → (h : Function' ts f rest) → Ok ts → Ok (token (Lower f.name) f.place ∷ h.2)
  name_on ts f rest h o = subst Ok h.5 (past S.Fun h.0 h.1 h.4 (kind_past ts f.kind f.credits h.0 h.3 o))

  function_past : (ts : List Token) (f : T.Function) (rest : List Token) → Function' ts f rest → Ok ts → Ok rest
  function_past ts f rest h o =
      function_parts_past h.2 f.statics f.parameters f.result f.body rest h.6 (following (token (Lower f.name) f.place) h.2 (name_on ts f rest h o))

  -- ---- data types

  type_names_past : (ts : List Token) (ns : List TypeName) (rest : List Token) → FurtherTypeNames ts ns rest → Ok ts → Ok rest
  type_names_past ts [] rest h o = past S.SquareClose ts rest h o
  type_names_past ts (n ∷ ns) rest h o = type_names_past h.1 ns rest h.4 (after_word (Lower n.name) n.place h.0 h.1 h.3 (past S.Comma ts h.0 h.2 o))

  all_type_names_past : (ts : List Token) (ns : List TypeName) (rest : List Token) → TypeNames ts ns rest → Ok ts → Ok rest
  all_type_names_past ts [] rest h o = subst Ok h o
  all_type_names_past ts (n ∷ ns) rest h o = type_names_past h.1 ns rest h.4 (after_word (Lower n.name) n.place h.0 h.1 h.3 (past S.SquareOpen ts h.0 h.2 o))

  pub field_types_past : (ts : List Token) (ws : List Written) (rest : List Token) → FieldTypes ts ws rest → Ok ts → Ok rest
  field_types_past ts [] rest h o = subst Ok h o
  field_types_past ts (t ∷ more) rest h o = type_list_past S.RoundClose h.1 more rest h.4 (type_past h.0 t h.1 h.3 (past S.RoundOpen ts h.0 h.2 o))

  pub constructor_past : (ts : List Token) (c : DataConstructor) (rest : List Token) → DataConstructor' ts c rest → Ok ts → Ok rest
  constructor_past ts c rest h o = field_types_past h.0 c.fields rest h.2 (after_word (Upper c.name) c.place ts h.0 h.1 o)

  further_constructors_past : (ts : List Token) (cs : List DataConstructor) (rest : List Token) → FurtherConstructors ts cs rest → Ok ts → Ok rest
  further_constructors_past ts [] rest h o = past S.CurlyClose h.0 rest h.2 (may_past S.Semicolon ts h.0 h.1 o)
  further_constructors_past ts (c ∷ cs) rest h o = further_constructors_past h.1 cs rest h.4 (constructor_past h.0 c h.1 h.3 (past S.Semicolon ts h.0 h.2 o))

  constructors_past : (ts : List Token) (cs : List DataConstructor) (rest : List Token) → DataConstructors ts cs rest → Ok ts → Ok rest
  constructors_past ts [] rest h o = absurd h
  constructors_past ts (c ∷ cs) rest h o = further_constructors_past h.0 cs rest h.2 (constructor_past ts c h.0 h.1 o)

  -- the tokens of a data type's constructors
  pub constructors_on : (ts : List Token) (d : C.Data) (rest : List Token) → (h : Data' ts d rest) → Ok ts → Ok h.3
  constructors_on ts d rest h o =
      past S.CurlyOpen h.2 h.3 h.7 (all_type_names_past h.1 d.parameters h.2 h.6 (after_word (Lower d.name) d.place h.0 h.1 h.5 (past S.Data ts h.0 h.4 o)))

  data_past : (ts : List Token) (d : C.Data) (rest : List Token) → Data' ts d rest → Ok ts → Ok rest
  data_past ts d rest h o = constructors_past h.3 d.constructors rest h.8 (constructors_on ts d rest h o)

  pub declaration_past : (ts : List Token) (d : T.Declaration) (rest : List Token) → Declaration' ts d rest → Ok ts → Ok rest
  declaration_past ts (T.DataDeclaration d) rest h o = data_past ts d rest h o
  declaration_past ts (T.FunctionDeclaration f) rest h o = function_past ts f rest h o
