-- The names of the functions and of the constructors of a source are no longer than it, and are encoded as in a code
-- file; and each data type has no more constructors than the source has bytes.
use Rattle.std.proofs.Common.{◌≡◌, ◌≤◌, ℕ, suc, true, List, [], ◌∷◌, length, ap, subst, arith}
use Rattle.lowering_soundness.specs.fip_language.Character.{is_upper_name}
use Rattle.lowering_soundness.specs.fip_language.Core as C
use Rattle.lowering_soundness.specs.fip_language.Core.{DataConstructor, Data}
use Rattle.lowering_soundness.specs.fip_language.CoreForm.{core_form}
use Rattle.lowering_soundness.specs.fip_language.Every.{Every}
use Rattle.lowering_soundness.specs.fip_language.Surface as T
use Rattle.source_safety.specs.fip_grammar.declared.Sign.TheVariants as S
use Rattle.source_safety.specs.fip_grammar.Token.{Upper, Token, token}
use Rattle.source_safety.specs.fip_grammar.Grammar.{DataConstructor', FurtherConstructors, DataConstructors, Declaration', Spells}
use Rattle.source_safety.specs.fip_grammar.Limits.{IsSpelt}
use Rattle.compiler_correctness.proofs.Tokens.{IsProperName, AreProper, proper_tokens}
use Rattle.compiler_correctness.proofs.Passing.{past, field_types_past, name_on, constructors_on, declaration_past}

abbrev pub NamedConstructor : ℕ → DataConstructor → Type 0
NamedConstructor n k = (is_upper_name k.name ≡ true) × (length k.name ≤ n)

abbrev pub NamedData : ℕ → Data → Type 0
NamedData n d = Every (NamedConstructor n) d.constructors × (length d.constructors ≤ n)

abbrev pub NamedFunction : ℕ → C.Function → Type 0
NamedFunction n f = IsProperName f.name × (length f.name ≤ n)

abbrev NamedDeclaration : ℕ → T.Declaration → Type 0
NamedDeclaration n (T.DataDeclaration d) = NamedData n d
NamedDeclaration n (T.FunctionDeclaration f) = IsProperName f.name × (length f.name ≤ n)

-- a constructor has a token
shorter : (ts : List Token) (c : DataConstructor) (rest : List Token) → DataConstructor' ts c rest → suc (length rest) ≤ length ts
shorter ts c rest h =
    field_types_past (λ xs. suc (length xs) ≤ length ts) (λ t xs k. omega (arith, k)) h.0 c.fields rest h.2
    (let k = ap length h.1 in omega (arith, k))

module _ (n : ℕ) where
  abbrev Ok : List Token → Type 0
  Ok ts = AreProper n ts

  following : (t : Token) (ts : List Token) → Ok (t ∷ ts) → Ok ts
  following t ts h = record { names = h.names.1; few = (let k = h.few in omega (arith, k)) }

  constructor_named : (ts : List Token) (c : DataConstructor) (rest : List Token) → DataConstructor' ts c rest → Ok ts → NamedConstructor n c × Ok rest
  constructor_named ts c rest h o =
      let k : Ok (token (Upper c.name) c.place ∷ h.0) = subst Ok h.1 o in
      (k.names.0, field_types_past Ok following h.0 c.fields rest h.2 (following (token (Upper c.name) c.place) h.0 k))

  further_named : (ts : List Token) (cs : List DataConstructor) (rest : List Token) → FurtherConstructors ts cs rest → Ok ts → Every (NamedConstructor n) cs × (length cs ≤ length ts)
  further_named ts [] rest h o = (tt, omega arith)
  further_named ts (c ∷ cs) rest h o =
      let first = constructor_named h.0 c h.1 h.3 (past Ok following S.Semicolon ts h.0 h.2 o) in
      let further = further_named h.1 cs rest h.4 first.1 in
      let few = further.1 in
      let one = shorter h.0 c h.1 h.3 in
      let sign = ap length h.2.1 in
      ((first.0, further.0), omega (arith, few, one, sign))

  constructors_named : (ts : List Token) (cs : List DataConstructor) (rest : List Token) → DataConstructors ts cs rest → Ok ts → Every (NamedConstructor n) cs × (length cs ≤ n)
  constructors_named ts [] rest h o = absurd h
  constructors_named ts (c ∷ cs) rest h o =
      let first = constructor_named ts c h.0 h.1 o in
      let further = further_named h.0 cs rest h.2 first.1 in
      let few = further.1 in
      let one = shorter ts c h.0 h.1 in
      let all = o.few in
      ((first.0, further.0), omega (arith, few, one, all))

  declaration_named : (ts : List Token) (d : T.Declaration) (rest : List Token) → Declaration' ts d rest → Ok ts → NamedDeclaration n d
  declaration_named ts (T.DataDeclaration d) rest h o = constructors_named h.3 d.constructors rest h.8 (constructors_on Ok following ts d rest h o)
  declaration_named ts (T.FunctionDeclaration f) rest h o = (let k = name_on Ok following ts f rest h o in k.names.0)

  program_named : (ts : List Token) (ds : List T.Declaration) → Spells ts ds → Ok ts → Every (NamedDeclaration n) ds
  program_named ts [] h o = tt
  program_named ts (d ∷ ds) h o = (declaration_named ts d h.0 h.1 o, program_named h.0 ds h.2 (declaration_past Ok following ts d h.0 h.1 o))

  core_types : (ds : List T.Declaration) → Every (NamedDeclaration n) ds → Every (NamedData n) (core_form ds).types
  core_types [] h = tt
  core_types (T.DataDeclaration d ∷ ds) h = (h.0, core_types ds h.1)
  core_types (T.FunctionDeclaration f ∷ ds) h = core_types ds h.1

  core_functions : (ds : List T.Declaration) → Every (NamedDeclaration n) ds → Every (NamedFunction n) (core_form ds).functions
  core_functions [] h = tt
  core_functions (T.DataDeclaration d ∷ ds) h = core_functions ds h.1
  core_functions (T.FunctionDeclaration f ∷ ds) h = (h.0, core_functions ds h.1)

  pub spelt_names : (source : List ℕ) (ds : List T.Declaration) → length source ≤ n → IsSpelt source ds → Every (NamedData n) (core_form ds).types × Every (NamedFunction n) (core_form ds).functions
  spelt_names source ds few h =
      let named = program_named h.0 ds h.3 (proper_tokens n source h.0 h.1 few h.2) in
      (core_types ds named, core_functions ds named)
