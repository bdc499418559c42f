-- The literals in the expressions of a source have 64 bits. Before an expression no minus waits, since an operand
-- is before each operator; so a literal's limit is that of an expression's.
-- Each match has a clause.
-- In `f(-9223372036854775808) - 1` the first minus is the literal's own, and the second is the operator's.
use Rattle.std.proofs.Common.{◌≡◌, ◌≤◌, ◌<◌, ◌-◌, ◌^◌, inl, inr, ℕ, zero, suc, Bool, true, false, not, ◌&&◌, List, [], ◌∷◌, ◌++◌, length, take, Option, Some, None, slice_get, ℤ, pos, neg_ℤ, FitsSigned, refl, sym, ap, ◌∙◌, subst, arith, append_assoc}
use Rattle.std.specs.Int.{w64}
use Rattle.in_place_safety.specs.fip_language.declared.Place.{Place}
use Rattle.in_place_safety.specs.fip_language.declared.FunKind.{FunKind}
use Rattle.in_place_safety.specs.fip_language.declared.FunKind.TheVariants as K
use Rattle.in_place_safety.specs.fip_language.declared.CreditMark.{CreditMark}
use Rattle.in_place_safety.specs.fip_language.declared.Operator.TheVariants as O
use Rattle.in_place_safety.specs.fip_language.declared.rule.Rule.{Rule}
use Rattle.in_place_safety.specs.fip_language.declared.rule.Rule.TheVariants as R
use Rattle.in_place_safety.specs.fip_language.Every.{Every}
use Rattle.in_place_safety.specs.fip_language.Core as C
use Rattle.in_place_safety.specs.fip_language.Core.{Name, Written, WrittenInt, WrittenName, Writtens, NoWritten, MoreWritten, Static, TypeParameter, FunctionParameter, SignatureParameter, Result, OneResult, TupleResult, TypeName, DataConstructor}
use Rattle.in_place_safety.specs.fip_language.Surface as T
use Rattle.specialisation_correctness.specs.fip_grammar.declared.Sign.{Sign}
use Rattle.specialisation_correctness.specs.fip_grammar.declared.Sign.TheVariants as S
use Rattle.specialisation_correctness.specs.fip_grammar.Token.{Word, Lower, Upper, Number, Operate, Mark, Token, token, value_of}
use Rattle.specialisation_correctness.specs.fip_grammar.Grammar.{Sees, MaySee, Type', TypeArguments, FurtherTypes, FurtherTypeList, IsLiteral, Pattern', PatternFields, FurtherPatterns, BindName, Annotation, Bind', FurtherBinds, Binder', match_sign, left_tightness, tightness, Spelled, Arguments, Fields, Further, Block', Clauses', FurtherClauses, Result', Lent, SignatureParameter', FurtherSignatureParameters, SignatureParameters, Signature', Static', FurtherStatics, Statics, Parameter', FurtherParameters, Parameters, Credits, Kind', FunctionParts, Function', FurtherTypeNames, TypeNames, FieldTypes, DataConstructor', FurtherConstructors, DataConstructors, Data', Declaration', Spells}
use Rattle.specialisation_correctness.specs.fip_grammar.Limits.{ends_operand, is_minus, Seen, nothing_seen, following, seen_from, seen, limit, Breaks, IsSpelt}
use Rattle.in_place_safety.proofs.type_safety.type_check.fip_language.Facts.{and_not_true as never_both, fits_above, fits_below, get_seam as got, take_seam as taken}

-- ---- what fits

abbrev pub AreSome : T.Clauses → Type 0
AreSome T.NoClauses = ⊥
AreSome (T.MoreClauses q b cs) = Unit {0}

abbrev mutual
  pub Fits : T.Expression → Type 0
  Fits (T.Variable n p) = Unit {0}
  Fits (T.Literal i p) = FitsSigned w64 i
  Fits (T.Call n p ts es) = FitAll es
  Fits (T.Constructor n p es) = FitAll es
  Fits (T.Bracket b) = FitsBlock b
  Fits (T.Tuple p es) = FitAll es
  Fits (T.Match d p e cs) = Fits e × AreSome cs × FitClauses cs
  Fits (T.If p e met unmet) = Fits e × FitsBlock met × FitsBlock unmet
  Fits (T.Binary o p l r) = Fits l × Fits r

  pub FitAll : T.Expressions → Type 0
  FitAll T.NoExpressions = Unit {0}
  FitAll (T.MoreExpressions e es) = Fits e × FitAll es

  pub FitsBlock : T.Block → Type 0
  FitsBlock (T.Last e) = Fits e
  FitsBlock (T.Let bs e rest) = Fits e × FitsBlock rest

  pub FitClauses : T.Clauses → Type 0
  FitClauses T.NoClauses = Unit {0}
  FitClauses (T.MoreClauses q b cs) = FitsBlock b × FitClauses cs

abbrev pub FitsDeclaration : T.Declaration → Type 0
FitsDeclaration (T.DataDeclaration d) = Unit {0}
FitsDeclaration (T.FunctionDeclaration f) = FitsBlock f.body

-- ---- tokens whose literals keep their limits

abbrev Keeps : Seen → List Token → Type 0
Keeps b [] = Unit {0}
Keeps b (t ∷ ts) = ((ds : List ℕ) → t.word ≡ Number ds → value_of ds ≤ limit b.is_sign) × Keeps (following b t.word) ts

-- after some tokens
abbrev Ok : List Token → Type 0
Ok ts = (b : Seen) × Keeps b ts

-- after some tokens of which the last is no minus that waits
abbrev Calm : List Token → Type 0
Calm ts = (b : Seen) × (b.is_sign ≡ false) × Keeps b ts

-- after some tokens of which the last ends an operand
abbrev Ended : List Token → Type 0
Ended ts = (b : Seen) × (b.ends_operand ≡ true) × Keeps b ts

calm_ok : (ts : List Token) → Calm ts → Ok ts
calm_ok ts h = (h.0, h.2)

ended_ok : (ts : List Token) → Ended ts → Ok ts
ended_ok ts h = (h.0, h.2)

after_word : (w : Word) (p : Place) (ts rest : List Token) → ts ≡ token w p ∷ rest → Ok ts → Ok rest
after_word w p ts rest e o = let h : Ok (token w p ∷ rest) = subst Ok e o in (following h.0 w, h.1.1)

after_operand : (w : Word) (p : Place) (ts rest : List Token) → ends_operand w ≡ true → ts ≡ token w p ∷ rest → Ok ts → Ended rest
after_operand w p ts rest f e o = let h : Ok (token w p ∷ rest) = subst Ok e o in (following h.0 w, f, h.1.1)

after_operator : (w : Word) (p : Place) (ts rest : List Token) → ts ≡ token w p ∷ rest → Ended ts → Calm rest
after_operator w p ts rest e o =
    let h : Ended (token w p ∷ rest) = subst Ended e o in
    (following h.0 w, never_both (is_minus w) h.0.ends_operand h.1, h.2.1)

after_mark : (s : Sign) (p : Place) (ts rest : List Token) → ts ≡ token (Mark s) p ∷ rest → Ok ts → Calm rest
after_mark s p ts rest e o = let k : Ok (token (Mark s) p ∷ rest) = subst Ok e o in (following k.0 (Mark s), refl, k.1.1)

after_sign : (s : Sign) (ts rest : List Token) → Sees s ts rest → Ok ts → Calm rest
after_sign s ts rest h o = after_mark s h.0 ts rest h.1 o

past : (s : Sign) (ts rest : List Token) → Sees s ts rest → Ok ts → Ok rest
past s ts rest h o = calm_ok rest (after_sign s ts rest h o)

closed : (s : Sign) (ts rest : List Token) → ends_operand (Mark s) ≡ true → Sees s ts rest → Ok ts → Ended rest
closed s ts rest f h o = after_operand (Mark s) h.0 ts rest f h.1 o

-- ---- types

mutual
  type_past : (ts : List Token) (w : Written) (rest : List Token) → Type' ts w rest → Ok ts → Ok rest
  type_past ts (WrittenInt p) rest h o = after_word (Mark S.Int) p ts rest h o
  type_past ts (WrittenName n p args) rest h o = arguments_past h.0 args rest h.2 (after_word (Lower n) p ts h.0 h.1 o)

  arguments_past : (ts : List Token) (ws : Writtens) (rest : List Token) → TypeArguments ts ws rest → Ok ts → Ok rest
  arguments_past ts NoWritten rest h o = subst Ok h o
  arguments_past ts (MoreWritten t more) rest h o = further_types_past S.SquareClose h.1 more rest h.4 (type_past h.0 t h.1 h.3 (past S.SquareOpen ts h.0 h.2 o))

  further_types_past : (close : Sign) (ts : List Token) (ws : Writtens) (rest : List Token) → FurtherTypes close ts ws rest → Ok ts → Ok rest
  further_types_past close ts NoWritten rest h o = past close ts rest h o
  further_types_past close ts (MoreWritten t more) rest h o = further_types_past close h.1 more rest h.4 (type_past h.0 t h.1 h.3 (past S.Comma ts h.0 h.2 o))

type_list_past : (close : Sign) (ts : List Token) (ws : List Written) (rest : List Token) → FurtherTypeList close ts ws rest → Ok ts → Ok rest
type_list_past close ts [] rest h o = past close ts rest h o
type_list_past close ts (t ∷ more) rest h o = type_list_past close h.1 more rest h.4 (type_past h.0 t h.1 h.3 (past S.Comma ts h.0 h.2 o))

-- ---- literals and patterns

within_limit : (b : Bool) (n : ℕ) → n ≤ limit b → n ≤ 2 ^ 63
within_limit true n h = h
within_limit false n h = omega (arith, h)

literal_ended : (ts : List Token) (v : ℤ) (p : Place) (rest : List Token) → IsLiteral ts v p rest → Ok ts → Ended rest
literal_ended ts v p rest (inl h) o = after_operand (Number h.0) p ts rest refl h.1 o
literal_ended ts v p rest (inr h) o = after_operand (Number h.0) h.1 (token (Number h.0) h.1 ∷ rest) rest refl refl (after_word (Operate O.Subtract) p ts (token (Number h.0) h.1 ∷ rest) h.2 o)

literal_fits : (ts : List Token) (v : ℤ) (p : Place) (rest : List Token) → IsLiteral ts v p rest → Calm ts → FitsSigned w64 v
literal_fits ts v p rest (inl h) c =
    let k : Calm (token (Number h.0) p ∷ rest) = subst Calm h.1 c in
    let few : value_of h.0 ≤ limit k.0.is_sign = k.2.0 h.0 refl in
    subst (λ v. FitsSigned w64 v) (sym h.2) (fits_above (value_of h.0) (subst (λ b. value_of h.0 ≤ limit b) k.1 few))
literal_fits ts v p rest (inr h) c =
    let k : Calm (token (Operate O.Subtract) p ∷ token (Number h.0) h.1 ∷ rest) = subst Calm h.2 c in
    let few : value_of h.0 ≤ limit (following k.0 (Operate O.Subtract)).is_sign = k.2.1.0 h.0 refl in
    subst (λ v. FitsSigned w64 v) (sym h.3) (fits_below (value_of h.0) (within_limit (following k.0 (Operate O.Subtract)).is_sign (value_of h.0) few))

mutual
  pattern_past : (ts : List Token) (q : T.Pattern) (rest : List Token) → Pattern' ts q rest → Ok ts → Ok rest
  pattern_past ts (T.Wildcard p) rest h o = after_word (Mark S.Underscore) p ts rest h o
  pattern_past ts (T.VariablePattern n p) rest h o = after_word (Lower n) p ts rest h o
  pattern_past ts (T.LiteralPattern v p) rest h o = ended_ok rest (literal_ended ts v p rest h o)
  pattern_past ts (T.ConstructorPattern n p qs) rest h o = pattern_fields_past h.0 qs rest h.2 (after_word (Upper n) p ts h.0 h.1 o)

  pattern_fields_past : (ts : List Token) (qs : T.Patterns) (rest : List Token) → PatternFields ts qs rest → Ok ts → Ok rest
  pattern_fields_past ts T.NoPatterns rest h o = subst Ok h o
  pattern_fields_past ts (T.MorePatterns q more) rest h o =
      further_patterns_past h.1 more rest h.4 (pattern_past h.0 q h.1 h.3 (past S.RoundOpen ts h.0 h.2 o))

  further_patterns_past : (ts : List Token) (qs : T.Patterns) (rest : List Token) → FurtherPatterns ts qs rest → Ok ts → Ok rest
  further_patterns_past ts T.NoPatterns rest h o = past S.RoundClose ts rest h o
  further_patterns_past ts (T.MorePatterns q more) rest h o =
      further_patterns_past h.1 more rest h.4 (pattern_past h.0 q h.1 h.3 (past S.Comma ts h.0 h.2 o))

-- ---- binders

bind_name_past : (ts : List Token) (n : Name) (p : Place) (rest : List Token) → BindName ts n p rest → Ok ts → Ok rest
bind_name_past ts n p rest (inl h) o = after_word (Lower n) p ts rest h o
bind_name_past ts n p rest (inr h) o = after_word (Mark S.Underscore) p ts rest h.0 o

annotation_past : (ts : List Token) (w : Option Written) (rest : List Token) → Annotation ts w rest → Ok ts → Ok rest
annotation_past ts None rest h o = subst Ok h o
annotation_past ts (Some t) rest h o = type_past h.0 t rest h.2 (past S.Colon ts h.0 h.1 o)

bind_past : (ts : List Token) (b : T.Bind) (rest : List Token) → Bind' ts b rest → Ok ts → Ok rest
bind_past ts b rest h o = annotation_past h.0 b.annotation rest h.2 (bind_name_past ts b.name b.place h.0 h.1 o)

further_binds_past : (ts : List Token) (bs : List T.Bind) (rest : List Token) → FurtherBinds ts bs rest → Ok ts → Ok rest
further_binds_past ts [] rest h o = past S.RoundClose ts rest h o
further_binds_past ts (b ∷ bs) rest h o = further_binds_past h.1 bs rest h.4 (bind_past h.0 b h.1 h.3 (past S.Comma ts h.0 h.2 o))

binder_past : (ts : List Token) (bs : List T.Bind) (rest : List Token) → Binder' ts bs rest → Ok ts → Ok rest
binder_past ts [] rest h o = absurd h
binder_past ts (b ∷ []) rest h o = bind_past ts b rest h o
binder_past ts (b ∷ c ∷ bs) rest h o = further_binds_past h.1 (c ∷ bs) rest h.4 (bind_past h.0 b h.1 h.3 (past S.RoundOpen ts h.0 h.2 o))

may_past : (s : Sign) (ts rest : List Token) → MaySee s ts rest → Ok ts → Ok rest
may_past s ts rest (inl e) o = subst Ok e o
may_past s ts rest (inr h) o = past s ts rest h o

-- ---- expressions

some_clauses : (ts : List Token) (cs : T.Clauses) (rest : List Token) → Clauses' ts cs rest → AreSome cs
some_clauses ts T.NoClauses rest h = h
some_clauses ts (T.MoreClauses q b cs) rest h = tt

mutual
  expression_ok : (k : ℕ) (ts : List Token) (e : T.Expression) (rest : List Token) → Spelled k ts e rest → Calm ts → Fits e × Ended rest
  expression_ok k ts (T.Variable n p) rest h c = (tt, after_operand (Lower n) p ts rest refl h (calm_ok ts c))
  expression_ok k ts (T.Literal v p) rest h c = (literal_fits ts v p rest h c, literal_ended ts v p rest h (calm_ok ts c))
  expression_ok k ts (T.Call n p statics args) rest h c =
      arguments_ok h.2 args rest h.6 (after_sign S.RoundOpen h.1 h.2 h.5 (arguments_past h.0 statics h.1 h.4 (after_word (Lower n) p ts h.0 h.3 (calm_ok ts c))))
  expression_ok k ts (T.Constructor n p args) rest h c = fields_ok h.0 args rest h.2 (after_operand (Upper n) p ts h.0 refl h.1 (calm_ok ts c))
  expression_ok k ts (T.Bracket b) rest h c =
      let inner = block_ok h.0 b h.1 h.3 (after_sign S.RoundOpen ts h.0 h.2 (calm_ok ts c)) in
      (inner.0, closed S.RoundClose h.1 rest refl h.4 (ended_ok h.1 inner.1))
  expression_ok k ts (T.Tuple p T.NoExpressions) rest h c = absurd h
  expression_ok k ts (T.Tuple p (T.MoreExpressions e T.NoExpressions)) rest h c = absurd h
  expression_ok k ts (T.Tuple p (T.MoreExpressions e (T.MoreExpressions f es))) rest h c =
      let first = expression_ok 0 h.0 e h.1 h.3 (after_mark S.RoundOpen p ts h.0 h.2 (calm_ok ts c)) in
      let further = further_ok h.1 (T.MoreExpressions f es) rest h.4 first.1 in
      ((first.0, further.0), further.1)
  expression_ok k ts (T.Match destructive p e cs) rest h c =
      let scrutinee = expression_ok 0 h.0 e h.1 h.4 (after_mark (match_sign destructive) p ts h.0 h.3 (calm_ok ts c)) in
      let clauses = clauses_ok h.2 cs rest h.6 (past S.CurlyOpen h.1 h.2 h.5 (ended_ok h.1 scrutinee.1)) in
      ((scrutinee.0, some_clauses h.2 cs rest h.6, clauses.0), clauses.1)
  expression_ok k ts (T.If p e one other) rest h c =
      let condition = expression_ok 0 h.0 e h.1 h.9 (after_mark S.If p ts h.0 h.8 (calm_ok ts c)) in
      let met = block_ok h.2 one h.3 h.11 (after_sign S.CurlyOpen h.1 h.2 h.10 (ended_ok h.1 condition.1)) in
      let unmet = block_ok h.6 other h.7 h.15 (after_sign S.CurlyOpen h.5 h.6 h.14 (past S.Else h.4 h.5 h.13 (past S.CurlyClose h.3 h.4 h.12 (ended_ok h.3 met.1)))) in
      ((condition.0, met.0, unmet.0), closed S.CurlyClose h.7 rest refl h.16 (ended_ok h.7 unmet.1))
  expression_ok k ts (T.Binary op p l r) rest h c =
      let left = expression_ok (left_tightness op) ts l h.0 h.3 c in
      let right = expression_ok (suc (tightness op)) h.1 r rest h.5 (after_operator (Operate op) p h.0 h.1 h.4 left.1) in
      ((left.0, right.0), right.1)

  arguments_ok : (ts : List Token) (es : T.Expressions) (rest : List Token) → Arguments ts es rest → Calm ts → FitAll es × Ended rest
  arguments_ok ts T.NoExpressions rest h c = (tt, closed S.RoundClose ts rest refl h (calm_ok ts c))
  arguments_ok ts (T.MoreExpressions e es) rest h c =
      let first = expression_ok 0 ts e h.0 h.1 c in
      let further = further_ok h.0 es rest h.2 first.1 in
      ((first.0, further.0), further.1)

  fields_ok : (ts : List Token) (es : T.Expressions) (rest : List Token) → Fields ts es rest → Ended ts → FitAll es × Ended rest
  fields_ok ts T.NoExpressions rest h o = (tt, subst Ended h o)
  fields_ok ts (T.MoreExpressions e es) rest h o =
      let first = expression_ok 0 h.0 e h.1 h.3 (after_sign S.RoundOpen ts h.0 h.2 (ended_ok ts o)) in
      let further = further_ok h.1 es rest h.4 first.1 in
      ((first.0, further.0), further.1)

  further_ok : (ts : List Token) (es : T.Expressions) (rest : List Token) → Further ts es rest → Ended ts → FitAll es × Ended rest
  further_ok ts T.NoExpressions rest h o = (tt, closed S.RoundClose ts rest refl h (ended_ok ts o))
  further_ok ts (T.MoreExpressions e es) rest h o =
      let first = expression_ok 0 h.0 e h.1 h.3 (after_sign S.Comma ts h.0 h.2 (ended_ok ts o)) in
      let further = further_ok h.1 es rest h.4 first.1 in
      ((first.0, further.0), further.1)

  block_ok : (ts : List Token) (b : T.Block) (rest : List Token) → Block' ts b rest → Calm ts → FitsBlock b × Ended rest
  block_ok ts (T.Last e) rest h c = expression_ok 0 ts e rest h c
  block_ok ts (T.Let bs e b) rest h c =
      let bound = expression_ok 0 h.2 e h.3 h.8 (after_sign S.Equals h.1 h.2 h.7 (binder_past h.0 bs h.1 h.6 (past S.Let ts h.0 h.5 (calm_ok ts c)))) in
      let after = block_ok h.4 b rest h.10 (after_sign S.Semicolon h.3 h.4 h.9 (ended_ok h.3 bound.1)) in
      ((bound.0, after.0), after.1)

  clauses_ok : (ts : List Token) (cs : T.Clauses) (rest : List Token) → Clauses' ts cs rest → Ok ts → FitClauses cs × Ended rest
  clauses_ok ts T.NoClauses rest h o = absurd h
  clauses_ok ts (T.MoreClauses q b cs) rest h o =
      let body = block_ok h.1 b h.2 h.5 (after_sign S.Arrow h.0 h.1 h.4 (pattern_past ts q h.0 h.3 o)) in
      let further = further_clauses_ok h.2 cs rest h.6 (ended_ok h.2 body.1) in
      ((body.0, further.0), further.1)

  further_clauses_ok : (ts : List Token) (cs : T.Clauses) (rest : List Token) → FurtherClauses ts cs rest → Ok ts → FitClauses cs × Ended rest
  further_clauses_ok ts T.NoClauses rest h o = (tt, closed S.CurlyClose h.0 rest refl h.2 (may_past S.Semicolon ts h.0 h.1 o))
  further_clauses_ok ts (T.MoreClauses q b cs) rest h o =
      let body = block_ok h.2 b h.3 h.7 (after_sign S.Arrow h.1 h.2 h.6 (pattern_past h.0 q h.1 h.5 (past S.Semicolon ts h.0 h.4 o))) in
      let further = further_clauses_ok h.3 cs rest h.8 (ended_ok h.3 body.1) in
      ((body.0, further.0), further.1)

-- ---- functions

result_past : (ts : List Token) (r : Result) (rest : List Token) → Result' ts r rest → Ok ts → Ok rest
result_past ts (OneResult t) rest h o = type_past ts t rest h o
result_past ts (TupleResult p []) rest h o = absurd h
result_past ts (TupleResult p (t ∷ [])) rest h o = absurd h
result_past ts (TupleResult p (t ∷ u ∷ us)) rest h o =
    type_list_past S.RoundClose h.1 (u ∷ us) rest h.4 (type_past h.0 t h.1 h.3 (after_word (Mark S.RoundOpen) p ts h.0 h.2 o))

lent_past : (ts : List Token) (b : Bool) (rest : List Token) → Lent ts b rest → Ok ts → Ok rest
lent_past ts true rest h o = past S.Caret ts rest h o
lent_past ts false rest h o = subst Ok h o

signature_parameter_past : (ts : List Token) (p : SignatureParameter) (rest : List Token) → SignatureParameter' ts p rest → Ok ts → Ok rest
signature_parameter_past ts p rest h o = type_past h.0 p.type rest h.2 (lent_past ts p.lent h.0 h.1 o)

further_signature_past : (ts : List Token) (ps : List SignatureParameter) (rest : List Token) → FurtherSignatureParameters ts ps rest → Ok ts → Ok rest
further_signature_past ts [] rest h o = past S.RoundClose ts rest h o
further_signature_past ts (p ∷ ps) rest h o = further_signature_past h.1 ps rest h.4 (signature_parameter_past h.0 p h.1 h.3 (past S.Comma ts h.0 h.2 o))

signature_parameters_past : (ts : List Token) (ps : List SignatureParameter) (rest : List Token) → SignatureParameters ts ps rest → Ok ts → Ok rest
signature_parameters_past ts [] rest h o = past S.RoundClose ts rest h o
signature_parameters_past ts (p ∷ ps) rest h o = further_signature_past h.0 ps rest h.2 (signature_parameter_past ts p h.0 h.1 o)

signature_past : (ts : List Token) (ps : List SignatureParameter) (r : Result) (rest : List Token) → Signature' ts ps r rest → Ok ts → Ok rest
signature_past ts ps r rest h o =
    result_past h.4 r rest h.10 (past S.Colon h.3 h.4 h.9 (signature_parameters_past h.2 ps h.3 h.8 (past S.RoundOpen h.1 h.2 h.7 (past S.Fun h.0 h.1 h.6 (past S.Colon ts h.0 h.5 o)))))

static_past : (ts : List Token) (x : Static) (rest : List Token) → Static' ts x rest → Ok ts → Ok rest
static_past ts (TypeParameter n p) rest h o = after_word (Lower n) p ts rest h o
static_past ts (FunctionParameter n p ps r) rest h o = signature_past h.0 ps r rest h.2 (after_word (Lower n) p ts h.0 h.1 o)

further_statics_past : (ts : List Token) (xs : List Static) (rest : List Token) → FurtherStatics ts xs rest → Ok ts → Ok rest
further_statics_past ts [] rest h o = past S.SquareClose ts rest h o
further_statics_past ts (x ∷ xs) rest h o = further_statics_past h.1 xs rest h.4 (static_past h.0 x h.1 h.3 (past S.Comma ts h.0 h.2 o))

statics_past : (ts : List Token) (xs : List Static) (rest : List Token) → Statics ts xs rest → Ok ts → Ok rest
statics_past ts [] rest h o = subst Ok h o
statics_past ts (x ∷ xs) rest h o = further_statics_past h.1 xs rest h.4 (static_past h.0 x h.1 h.3 (past S.SquareOpen ts h.0 h.2 o))

parameter_past : (ts : List Token) (p : T.Parameter) (rest : List Token) → Parameter' ts p rest → Ok ts → Ok rest
parameter_past ts p rest h o = type_past h.2 p.type rest h.6 (past S.Colon h.1 h.2 h.5 (after_word (Lower p.name) p.place h.0 h.1 h.4 (lent_past ts p.lent h.0 h.3 o)))

further_parameters_past : (ts : List Token) (ps : List T.Parameter) (rest : List Token) → FurtherParameters ts ps rest → Ok ts → Ok rest
further_parameters_past ts [] rest h o = past S.RoundClose ts rest h o
further_parameters_past ts (p ∷ ps) rest h o = further_parameters_past h.1 ps rest h.4 (parameter_past h.0 p h.1 h.3 (past S.Comma ts h.0 h.2 o))

parameters_past : (ts : List Token) (ps : List T.Parameter) (rest : List Token) → Parameters ts ps rest → Ok ts → Ok rest
parameters_past ts [] rest h o = past S.RoundClose ts rest h o
parameters_past ts (p ∷ ps) rest h o = further_parameters_past h.0 ps rest h.2 (parameter_past ts p h.0 h.1 o)

credits_past : (ts : List Token) (cs : List CreditMark) (rest : List Token) → Credits ts cs rest → Ok ts → Ok rest
credits_past ts [] rest h o = subst Ok h o
credits_past ts (c ∷ cs) rest h o =
    credits_past h.1 cs rest h.6 (after_word (Number h.2) c.size_place h.0 h.1 h.4 (after_word (Operate O.Add) c.place ts h.0 h.3 o))

kind_past : (ts : List Token) (k : FunKind) (cs : List CreditMark) (rest : List Token) → Kind' ts k cs rest → Ok ts → Ok rest
kind_past ts K.Fip cs rest h o = credits_past h.0 cs rest h.2 (past S.Fip ts h.0 h.1 o)
kind_past ts K.Fbip cs rest h o = credits_past h.0 cs rest h.2 (past S.Fbip ts h.0 h.1 o)
kind_past ts K.Fun [] rest h o = subst Ok h o
kind_past ts K.Fun (c ∷ cs) rest h o = absurd h

function_parts_ok : (ts : List Token) (xs : List Static) (ps : List T.Parameter) (r : Result) (b : T.Block) (rest : List Token) → FunctionParts ts xs ps r b rest → Ok ts → FitsBlock b × Ok rest
function_parts_ok ts xs ps r b rest h o =
    let head = parameters_past h.1 ps h.2 h.9 (past S.RoundOpen h.0 h.1 h.8 (statics_past ts xs h.0 h.7 o)) in
    let body = block_ok h.5 b h.6 h.13 (after_sign S.CurlyOpen h.4 h.5 h.12 (result_past h.3 r h.4 h.11 (past S.Colon h.2 h.3 h.10 head))) in
    (body.0, past S.CurlyClose h.6 rest h.14 (ended_ok h.6 body.1))

function_ok : (ts : List Token) (f : T.Function) (rest : List Token) → Function' ts f rest → Ok ts → FitsBlock f.body × Ok rest
function_ok ts f rest h o =
    function_parts_ok h.2 f.statics f.parameters f.result f.body rest h.6
    (after_word (Lower f.name) f.place h.1 h.2 h.5 (past S.Fun h.0 h.1 h.4 (kind_past ts f.kind f.credits h.0 h.3 o)))

-- ---- data types

type_names_past : (ts : List Token) (ns : List TypeName) (rest : List Token) → FurtherTypeNames ts ns rest → Ok ts → Ok rest
type_names_past ts [] rest h o = past S.SquareClose ts rest h o
type_names_past ts (n ∷ ns) rest h o = type_names_past h.1 ns rest h.4 (after_word (Lower n.name) n.place h.0 h.1 h.3 (past S.Comma ts h.0 h.2 o))

all_type_names_past : (ts : List Token) (ns : List TypeName) (rest : List Token) → TypeNames ts ns rest → Ok ts → Ok rest
all_type_names_past ts [] rest h o = subst Ok h o
all_type_names_past ts (n ∷ ns) rest h o = type_names_past h.1 ns rest h.4 (after_word (Lower n.name) n.place h.0 h.1 h.3 (past S.SquareOpen ts h.0 h.2 o))

field_types_past : (ts : List Token) (ws : List Written) (rest : List Token) → FieldTypes ts ws rest → Ok ts → Ok rest
field_types_past ts [] rest h o = subst Ok h o
field_types_past ts (t ∷ more) rest h o = type_list_past S.RoundClose h.1 more rest h.4 (type_past h.0 t h.1 h.3 (past S.RoundOpen ts h.0 h.2 o))

constructor_past : (ts : List Token) (c : DataConstructor) (rest : List Token) → DataConstructor' ts c rest → Ok ts → Ok rest
constructor_past ts c rest h o = field_types_past h.0 c.fields rest h.2 (after_word (Upper c.name) c.place ts h.0 h.1 o)

further_constructors_past : (ts : List Token) (cs : List DataConstructor) (rest : List Token) → FurtherConstructors ts cs rest → Ok ts → Ok rest
further_constructors_past ts [] rest h o = past S.CurlyClose h.0 rest h.2 (may_past S.Semicolon ts h.0 h.1 o)
further_constructors_past ts (c ∷ cs) rest h o = further_constructors_past h.1 cs rest h.4 (constructor_past h.0 c h.1 h.3 (past S.Semicolon ts h.0 h.2 o))

constructors_past : (ts : List Token) (cs : List DataConstructor) (rest : List Token) → DataConstructors ts cs rest → Ok ts → Ok rest
constructors_past ts [] rest h o = absurd h
constructors_past ts (c ∷ cs) rest h o = further_constructors_past h.0 cs rest h.2 (constructor_past ts c h.0 h.1 o)

data_past : (ts : List Token) (d : C.Data) (rest : List Token) → Data' ts d rest → Ok ts → Ok rest
data_past ts d rest h o =
    constructors_past h.3 d.constructors rest h.8
    (past S.CurlyOpen h.2 h.3 h.7 (all_type_names_past h.1 d.parameters h.2 h.6 (after_word (Lower d.name) d.place h.0 h.1 h.5 (past S.Data ts h.0 h.4 o))))

declaration_ok : (ts : List Token) (d : T.Declaration) (rest : List Token) → Declaration' ts d rest → Ok ts → FitsDeclaration d × Ok rest
declaration_ok ts (T.DataDeclaration d) rest h o = (tt, data_past ts d rest h o)
declaration_ok ts (T.FunctionDeclaration f) rest h o = function_ok ts f rest h o

program_ok : (ts : List Token) (ds : List T.Declaration) → Spells ts ds → Ok ts → Every FitsDeclaration ds
program_ok ts [] h o = tt
program_ok ts (d ∷ ds) h o =
    let first = declaration_ok ts d h.0 h.1 o in
    (first.0, program_ok h.0 ds h.2 first.1)

-- ---- E04 is not broken

seen_one : (b : Seen) (xs : List Token) (t : Token) → seen_from b (xs ++ t ∷ []) ≡ following (seen_from b xs) t.word
seen_one b [] t = refl
seen_one b (x ∷ xs) t = seen_one (following b x.word) xs t

module _ (all : List Token) (unbroken : (r : Rule) (t : ℕ) → Breaks all r t → ⊥) where
  keeps_at : (done : List Token) (t : Token) (rest : List Token) → done ++ t ∷ rest ≡ all → (ds : List ℕ) → t.word ≡ Number ds → value_of ds ≤ limit (seen_from nothing_seen done).is_sign
  keeps_at done t rest e ds w = by (Rattle.std.specs.Prelude.nat_lt (limit (seen_from nothing_seen done).is_sign) (value_of ds)) refl
    where
      here : seen all (length done) ≡ seen_from nothing_seen done
      here = ap (λ l. seen_from nothing_seen (take (length done) l)) (sym e) ∙ ap (seen_from nothing_seen) (taken done (t ∷ rest))

      at : slice_get all (length done) ≡ Some t
      at = ap (λ l. slice_get l (length done)) (sym e) ∙ got done t rest

      by : (b : Bool) → Rattle.std.specs.Prelude.nat_lt (limit (seen_from nothing_seen done).is_sign) (value_of ds) ≡ b → value_of ds ≤ limit (seen_from nothing_seen done).is_sign
      by true f =
          let above : limit (seen_from nothing_seen done).is_sign < value_of ds = grind (arith, Rattle.std.proofs.lemmas.Bool.Decides.nat_tests) in
          absurd (unbroken R.E04 (length done) (inr (inr (refl, (t, ds, at, w, subst (λ (b : Seen). limit b.is_sign < value_of ds) (sym here) above)))))
      by false f = grind (arith, Rattle.std.proofs.lemmas.Bool.Decides.nat_tests)

  keeps_from : (done rest : List Token) → done ++ rest ≡ all → Keeps (seen_from nothing_seen done) rest
  keeps_from done [] e = tt
  keeps_from done (t ∷ rest) e = (
    (λ ds w. keeps_at done t rest e ds w),
    subst (λ b. Keeps b rest) (seen_one nothing_seen done t) (keeps_from (done ++ t ∷ []) rest (append_assoc done (t ∷ []) rest ∙ e)),
  )

pub spelt_fits : (source : List ℕ) (ds : List T.Declaration) → IsSpelt source ds → Every FitsDeclaration ds
spelt_fits source ds h = program_ok h.0 ds h.3 (nothing_seen, keeps_from h.0 h.4 [] h.0 refl)
