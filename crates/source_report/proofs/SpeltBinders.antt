-- Each let of a source binds something: the grammar has no let without a binder.
use Rattle.std.proofs.Common.{ℕ, suc, ◌<◌, List, [], ◌∷◌, length, arith}
use Rattle.cell_lower.specs.fip_language.Every.{Every}
use Rattle.cell_lower.specs.fip_language.Core.{Static, Result}
use Rattle.cell_lower.specs.fip_language.Surface as T
use Rattle.fip_grammar.specs.Token.{Token}
use Rattle.fip_grammar.specs.Grammar.{left_tightness, tightness, Spelled, Arguments, Fields, Further, Binder', Block', Clauses', FurtherClauses, FunctionParts, Declaration', Spells}
use Rattle.fip_grammar.specs.Limits.{IsSpelt}

abbrev mutual
  pub Has : T.Expression → Type 0
  Has (T.Variable n p) = Unit {0}
  Has (T.Literal i p) = Unit {0}
  Has (T.Call n p ts es) = HaveAll es
  Has (T.Constructor n p es) = HaveAll es
  Has (T.Bracket b) = BlockHas b
  Has (T.Tuple p es) = HaveAll es
  Has (T.Match d p e cs) = Has e × ClausesHave cs
  Has (T.If p e met unmet) = Has e × BlockHas met × BlockHas unmet
  Has (T.Binary o p l r) = Has l × Has r

  pub HaveAll : T.Expressions → Type 0
  HaveAll T.NoExpressions = Unit {0}
  HaveAll (T.MoreExpressions e es) = Has e × HaveAll es

  pub BlockHas : T.Block → Type 0
  BlockHas (T.Last e) = Has e
  BlockHas (T.Let bs e rest) = (0 < length bs) × Has e × BlockHas rest

  pub ClausesHave : T.Clauses → Type 0
  ClausesHave T.NoClauses = Unit {0}
  ClausesHave (T.MoreClauses q b cs) = BlockHas b × ClausesHave cs

abbrev pub DeclarationHas : T.Declaration → Type 0
DeclarationHas (T.DataDeclaration d) = Unit {0}
DeclarationHas (T.FunctionDeclaration f) = BlockHas f.body

some_binders : (ts : List Token) (bs : List T.Bind) (rest : List Token) → Binder' ts bs rest → 0 < length bs
some_binders ts [] rest h = absurd h
some_binders ts (b ∷ []) rest h = omega arith
some_binders ts (b ∷ c ∷ bs) rest h = omega arith

mutual
  expression_has : (k : ℕ) (ts : List Token) (e : T.Expression) (rest : List Token) → Spelled k ts e rest → Has e
  expression_has k ts (T.Variable n p) rest h = tt
  expression_has k ts (T.Literal v p) rest h = tt
  expression_has k ts (T.Call n p statics args) rest h = arguments_have h.2 args rest h.6
  expression_has k ts (T.Constructor n p args) rest h = fields_have h.0 args rest h.2
  expression_has k ts (T.Bracket b) rest h = block_has h.0 b h.1 h.3
  expression_has k ts (T.Tuple p T.NoExpressions) rest h = absurd h
  expression_has k ts (T.Tuple p (T.MoreExpressions e T.NoExpressions)) rest h = absurd h
  expression_has k ts (T.Tuple p (T.MoreExpressions e (T.MoreExpressions f es))) rest h = (expression_has 0 h.0 e h.1 h.3, further_have h.1 (T.MoreExpressions f es) rest h.4)
  expression_has k ts (T.Match destructive p e cs) rest h = (expression_has 0 h.0 e h.1 h.4, clauses_have h.2 cs rest h.6)
  expression_has k ts (T.If p e one other) rest h = (expression_has 0 h.0 e h.1 h.9, block_has h.2 one h.3 h.11, block_has h.6 other h.7 h.15)
  expression_has k ts (T.Binary op p l r) rest h = (expression_has (left_tightness op) ts l h.0 h.3, expression_has (suc (tightness op)) h.1 r rest h.5)

  arguments_have : (ts : List Token) (es : T.Expressions) (rest : List Token) → Arguments ts es rest → HaveAll es
  arguments_have ts T.NoExpressions rest h = tt
  arguments_have ts (T.MoreExpressions e es) rest h = (expression_has 0 ts e h.0 h.1, further_have h.0 es rest h.2)

  fields_have : (ts : List Token) (es : T.Expressions) (rest : List Token) → Fields ts es rest → HaveAll es
  fields_have ts T.NoExpressions rest h = tt
  fields_have ts (T.MoreExpressions e es) rest h = (expression_has 0 h.0 e h.1 h.3, further_have h.1 es rest h.4)

  further_have : (ts : List Token) (es : T.Expressions) (rest : List Token) → Further ts es rest → HaveAll es
  further_have ts T.NoExpressions rest h = tt
  further_have ts (T.MoreExpressions e es) rest h = (expression_has 0 h.0 e h.1 h.3, further_have h.1 es rest h.4)

  block_has : (ts : List Token) (b : T.Block) (rest : List Token) → Block' ts b rest → BlockHas b
  block_has ts (T.Last e) rest h = expression_has 0 ts e rest h
  block_has ts (T.Let bs e b) rest h = (some_binders h.0 bs h.1 h.6, expression_has 0 h.2 e h.3 h.8, block_has h.4 b rest h.10)

  clauses_have : (ts : List Token) (cs : T.Clauses) (rest : List Token) → Clauses' ts cs rest → ClausesHave cs
  clauses_have ts T.NoClauses rest h = tt
  clauses_have ts (T.MoreClauses q b cs) rest h = (block_has h.1 b h.2 h.5, further_clauses_have h.2 cs rest h.6)

  further_clauses_have : (ts : List Token) (cs : T.Clauses) (rest : List Token) → FurtherClauses ts cs rest → ClausesHave cs
  further_clauses_have ts T.NoClauses rest h = tt
  further_clauses_have ts (T.MoreClauses q b cs) rest h = (block_has h.2 b h.3 h.7, further_clauses_have h.3 cs rest h.8)

parts_have : (ts : List Token) (xs : List Static) (ps : List T.Parameter) (r : Result) (b : T.Block) (rest : List Token) → FunctionParts ts xs ps r b rest → BlockHas b
parts_have ts xs ps r b rest h = block_has h.5 b h.6 h.13

declaration_has : (ts : List Token) (d : T.Declaration) (rest : List Token) → Declaration' ts d rest → DeclarationHas d
declaration_has ts (T.DataDeclaration d) rest h = tt
declaration_has ts (T.FunctionDeclaration f) rest h = parts_have h.2 f.statics f.parameters f.result f.body rest h.6

program_has : (ts : List Token) (ds : List T.Declaration) → Spells ts ds → Every DeclarationHas ds
program_has ts [] h = tt
program_has ts (d ∷ ds) h = (declaration_has ts d h.0 h.1, program_has h.0 ds h.2)

pub spelt_has : (source : List ℕ) (ds : List T.Declaration) → IsSpelt source ds → Every DeclarationHas ds
spelt_has source ds h = program_has h.0 ds h.3
