-- The types that an expression has are types, where those of the variables in scope are.
use Rattle.std.proofs.Common.{◌≡◌, inl, inr, ℕ, suc, Bool, true, false, List, [], ◌∷◌, ◌++◌, length, map, Option, Some, None, refl, sym, ap, ◌∙◌, subst, arith, append_assoc, ◌==◌}
use Rattle.std.proofs.lemmas.Option.{none-some}
use Rattle.separation.specs.fip_language.declared.Operator.{Operator}
use Rattle.separation.specs.fip_language.declared.Operator.TheVariants as O
use Rattle.lowering_relation.specs.fip_trees.declared.program.Binder.{Binder}
use Rattle.lowering_relation.specs.fip_trees.Tree.{Argument, Variable, Literal, Constructor, Arguments, NoArguments, MoreArguments}
use Rattle.lowering_relation.specs.fip_trees.Tree.{Pattern, BinderPattern, LiteralPattern, ConstructorPattern, Patterns, NoPatterns, MorePatterns}
use Rattle.lowering_relation.specs.fip_trees.Tree.{Expression, Give, Tuple, Operation, Call, Match, Nested, Block, Last, Let}
use Rattle.derivation_making.specs.fip_rules.World as R
use Rattle.derivation_making.specs.type_check.Binders.{entries}
use Rattle.derivation_making.specs.type_check.Scope.{Scope, look, of_binder}
use Rattle.derivation_making.specs.type_check.World as W
use Rattle.derivation_making.specs.type_check.World.{result_of, chosen, field_types, is_of}
use Rattle.derivation_making.specs.type_check.Typing.{HasType, HaveTypes, IsPattern, ArePatterns, Types, TypesBlock, bound_by, bound_by_all}
use Rattle.derivation_making.proofs.type_check.Trail.{look_end}
use Rattle.separation.specs.cell_code.Plain.{PlainCode}
use Rattle.separation.specs.code_rules.Types.{is_type}
use Rattle.separation.proofs.separation_kinds.Basics.{refused, or_not, both, below_is, equal, itself}
use Rattle.separation.proofs.separation_kinds.Basics as K
use Rattle.lowering_relation.specs.Values.{Setting}
use Rattle.lowering_soundness.specs.Laid.{Shares}
use Rattle.lowering_soundness.specs.Placed.{AreTypes, Callees}
use Rattle.lowering_soundness.proofs.Scoping.{entries_of}
use Rattle.lowering_soundness.proofs.Lets.{entries_same}

-- the variables in scope have types
abbrev pub ScopeTyped : PlainCode → Scope → Type 0
ScopeTyped c s = (x t : ℕ) → of_binder s (Some x) ≡ Some (Some t) → is_type c.types t ≡ true

abbrev pub AllTyped : PlainCode → Scope → Type 0
AllTyped c [] = Unit {0}
AllTyped c (e ∷ es) = ((t : ℕ) → e.ty ≡ Some t → is_type c.types t ≡ true) × AllTyped c es

one_typed : (o : Option ℕ) (t : ℕ) → Some o ≡ Some (Some t) → o ≡ Some t
one_typed o t e = cc

pub typed_on : (c : PlainCode) (s es : Scope) → ScopeTyped c s → AllTyped c es → ScopeTyped c (s ++ es)
typed_on c s [] h a = subst (ScopeTyped c) (sym (append_none s)) h
  where
    append_none : (s : Scope) → s ++ [] ≡ s
    append_none [] = refl
    append_none (e ∷ s) = ap (λ s. e ∷ s) (append_none s)
typed_on c s (e ∷ es) h a = subst (ScopeTyped c) (append_assoc s (e ∷ []) es) (typed_on c (s ++ e ∷ []) es more a.1)
  where
    more : ScopeTyped c (s ++ e ∷ [])
    more x t y = elim (or_not (e.number == x)) as (λ v. is_type c.types t ≡ true) [
      | inl same ↦ a.0 t (one_typed e.ty t (sym (K.chosen (e.number == x) (Some e.ty) (look s x) same) ∙ (sym (look_end s e x) ∙ y)))
      | inr other ↦ h x t (sym (refused (e.number == x) (Some e.ty) (look s x) other) ∙ (sym (look_end s e x) ∙ y))
    ]

pub all_typed_both : (c : PlainCode) (es fs : Scope) → AllTyped c es → AllTyped c fs → AllTyped c (es ++ fs)
all_typed_both c [] fs h a = a
all_typed_both c (e ∷ es) fs h a = (h.0, all_typed_both c es fs h.1 a)

pub entries_typed : (c : PlainCode) (bs : List Binder) (ts : List ℕ) → AreTypes c ts → AllTyped c (entries_of bs ts)
entries_typed c [] ts h = tt
entries_typed c (b ∷ bs) [] h = tt
entries_typed c (b ∷ bs) (t ∷ ts) h = ((λ u e. ap (is_type c.types) (same u e) ∙ h.0), entries_typed c bs ts h.1)
  where
    same : (u : ℕ) → Some t ≡ Some u → u ≡ t
    same u e = cc

module _ (c : PlainCode) (st : Setting) (wd : W.World) (w : R.World) (shares : Shares c st wd) (callees : Callees c st wd w) where
  int_type : is_type c.types 0 ≡ true
  int_type = below_is 0 (suc (length c.types)) (omega arith)

  bool_type : is_type c.types 1 ≡ true
  bool_type = (both (is_type c.types 1) (Rattle.separation.specs.fip_language.Table.is_scalar c.types 1) shares.bool).0

  pub argument_type : (s : Scope) (b : Bool) (a : Argument) (t : ℕ) → ScopeTyped c s → HasType true wd s b a t → is_type c.types t ≡ true
  argument_type s b (Variable None n p) t scope h = absurd (none-some (Some t) h)
  argument_type s b (Variable (Some x) n p) t scope h = scope x t h
  argument_type s b (Literal i p) t scope h = ap (is_type c.types) h ∙ int_type
  argument_type s b (Constructor u d k n p as') t scope h = shares.made b d t h.1

  arguments_types : (s : Scope) (b : Bool) (as' : Arguments) (ts : List ℕ) → ScopeTyped c s → HaveTypes true wd s b as' ts → AreTypes c ts
  arguments_types s b NoArguments [] scope h = tt
  arguments_types s b NoArguments (t ∷ ts) scope h = absurd h
  arguments_types s b (MoreArguments a as') [] scope h = absurd h
  arguments_types s b (MoreArguments a as') (t ∷ ts) scope h = (argument_type s b a t scope h.0, arguments_types s b as' ts scope h.1)

  result_type : (o : Operator) → is_type c.types (result_of o) ≡ true
  result_type O.Add = int_type
  result_type O.Subtract = int_type
  result_type O.Multiply = int_type
  result_type O.Divide = int_type
  result_type O.Remainder = int_type
  result_type O.Equal = bool_type
  result_type O.NotEqual = bool_type
  result_type O.Less = bool_type
  result_type O.LessOrEqual = bool_type
  result_type O.Greater = bool_type
  result_type O.GreaterOrEqual = bool_type

  mutual
    pub pattern_types : (t : ℕ) (q : Pattern) → is_type c.types t ≡ true → IsPattern true wd t q → AllTyped c (bound_by wd (Some t) q)
    pattern_types t (BinderPattern b) typed h = ((λ u e. ap (is_type c.types) (same u e) ∙ typed), tt)
      where
        same : (u : ℕ) → Some t ≡ Some u → u ≡ t
        same u e = cc
    pattern_types t (LiteralPattern i p) typed h = tt
    pattern_types t (ConstructorPattern u d k n p ps) typed h =
        subst (λ o. AllTyped c (bound_by_all wd (field_types wd o k) ps)) (sym (K.chosen (is_of wd t d) (Some t) (W.plain_type wd d) h.1))
        (patterns_types (W.fields_of wd t k) ps (callees.fields t k) h.2)

    pub patterns_types : (ts : List ℕ) (ps : Patterns) → AreTypes c ts → ArePatterns true wd ts ps → AllTyped c (bound_by_all wd (map Some ts) ps)
    patterns_types [] NoPatterns typed h = tt
    patterns_types [] (MorePatterns p ps) typed h = absurd h
    patterns_types (t ∷ ts) NoPatterns typed h = absurd h
    patterns_types (t ∷ ts) (MorePatterns p ps) typed h =
        all_typed_both c (bound_by wd (Some t) p) (bound_by_all wd (map Some ts) ps) (pattern_types t p typed.0 h.0) (patterns_types ts ps typed.1 h.1)

  mutual
    pub expression_types : (s : Scope) (b : Bool) (e : Expression) (ts : List ℕ) → ScopeTyped c s → Types true wd s b e ts → AreTypes c ts
    expression_types s b (Give a) ts scope h = subst (AreTypes c) (sym h.1) (argument_type s b a h.0 scope h.2, tt)
    expression_types s b (Tuple p as') ts scope h = arguments_types s b as' ts scope h.1
    expression_types s b (Operation o p l r) ts scope h = subst (AreTypes c) (sym h.0) (result_type o, tt)
    expression_types s b (Call g n p as') ts scope h = subst (AreTypes c) (sym h.0) (callees.results g)
    expression_types s b (Match k u p a q body cs) ts scope h =
        block_types (s ++ bound_by wd (Some h.0) q) b body ts (typed_on c s (bound_by wd (Some h.0) q) scope (pattern_types h.0 q (argument_type s false a h.0 scope h.2) h.3)) h.4
    expression_types s b (Nested d) ts scope h = block_types s b d ts scope h

    pub block_types : (s : Scope) (b : Bool) (d : Block) (ts : List ℕ) → ScopeTyped c s → TypesBlock true wd s b d ts → AreTypes c ts
    block_types s b (Last e) ts scope h = expression_types s b e ts scope h
    block_types s b (Let bs e rest) ts scope h =
        block_types (s ++ entries bs (map Some h.0)) b rest ts
        (subst (λ es. ScopeTyped c (s ++ es)) (sym (entries_same bs h.0 h.2)) (typed_on c s (entries_of bs h.0) scope (entries_typed c bs h.0 (expression_types s (Rattle.derivation_making.specs.type_check.Binders.all_annotated bs) e h.0 scope h.1)))) h.3
