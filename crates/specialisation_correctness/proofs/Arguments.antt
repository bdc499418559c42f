-- Arguments, patterns and bodies: what specialising makes of them is of the instance by name, where each name of a
-- constructor is declared and each call is of an instance.
use Rattle.std.proofs.Common.{◌≡◌, inl, inr, Bool, false, List, [], ◌∷◌, ◌++◌, map, Option, Some, None, is_none, slice_get, refl, sym, ap, ◌∙◌}
use Rattle.source_report.specs.fip_language.declared.Place.{Place}
use Rattle.source_report.specs.fip_language.declared.rule.Rule.TheVariants.{E15}
use Rattle.source_report.specs.fip_language.Core as C
use Rattle.source_report.specs.fip_language.Core.{Name, Core}
use Rattle.source_report.specs.fip_language.Declarations as ByName
use Rattle.source_report.specs.fip_language.Declarations.{data_types}
use Rattle.source_report.specs.fip_language.Every.{Among}
use Rattle.source_report.specs.fip_language.Stack.{CallSite, sites_in_expression, sites_in_block, sites_in_clauses}
use Rattle.source_report.specs.fip_language.Statics as ByClosed
use Rattle.source_report.specs.fip_language.Statics.{callee}
use Rattle.source_report.specs.fip_trees.Names.{meaning}
use Rattle.source_report.specs.fip_trees.Tree as T
use Rattle.source_report.specs.fip_trees.declared.decls.ConstructorId.{ConstructorId}
use Rattle.source_report.specs.fip_trees.declared.least.Violation.{Violation}
use Rattle.source_report.specs.data_types.Declarations.{Scope, written_names}
use Rattle.source_report.specs.data_types.Faults.{broken, when, constructor_faults, argument_faults, arguments_faults, pattern_faults, patterns_faults, binders_faults, expression_faults, block_faults, clauses_faults}
use Rattle.source_report.proofs.data_types.Exact.{none_left, none_right}
use Rattle.source_report.specs.reached_instances.closed_types.Source.{Declared, Source, Instance}
use Rattle.source_report.specs.static_params.FlatProgram.{Numbers, flat_call, declared_or_bool, constructor_of, flat_binder, flat_argument, flat_arguments, flat_pattern, flat_patterns, match_of, flat_expression, flat_block, flat_clauses}
use Rattle.source_report.specs.instance_semantics.Specialised.{IsNumber, IsArgument, AreArguments, SameNumbers, SameParameters, IsPattern, ArePatterns, IsExpression, IsBlock, AreClauses}
use Rattle.specialisation_correctness.specs.Declared.{HasClauses, BlockHasClauses, ClausesHaveClauses}
use Rattle.specialisation_correctness.proofs.Lookups.{SameConstructor, constructor_meant}
use Rattle.specialisation_correctness.proofs.Places.{source_with}

known : (o : Option ConstructorId) (q : Option ByName.Declared) (v : Violation) → SameConstructor o q → when (is_none o) v ≡ [] → IsNumber q (declared_or_bool o).number
known None q v h e = absurd (cc)
known (Some k) None v h e = absurd h
known (Some k) (Some d) v h e = h

pub among_left : {A : Type 0} (x : A) (xs ys : List A) → Among x xs → Among x (xs ++ ys)
among_left x [] ys h = absurd h
among_left x (y ∷ xs) ys (inl e) = inl e
among_left x (y ∷ xs) ys (inr h) = inr (among_left x xs ys h)

pub among_right : {A : Type 0} (x : A) (xs ys : List A) → Among x ys → Among x (xs ++ ys)
among_right x [] ys h = h
among_right x (y ∷ xs) ys h = inr (among_right x xs ys h)

module _ (core : Core) (ts : List Declared) (sc : Scope) (scope : sc.names.constructors ≡ (written_names core).constructors) where
  abbrev from : Source
  from = source_with core ts

  constructor_known : (x : Name) (p : Place) → constructor_faults sc x p ≡ [] → IsNumber (ByName.constructor_of core x) (constructor_of from x).number
  constructor_known x p e =
      known (meaning x (written_names core).constructors) (ByName.constructor_of core x) (broken E15 p x) (constructor_meant x 1 (data_types core))
      (sym (ap (λ es. when (is_none (meaning x es)) (broken E15 p x)) scope) ∙ e)

  mutual
    argument_is : (a : C.Argument) → argument_faults sc a ≡ [] → IsArgument core a (flat_argument from a)
    argument_is (C.Variable b x p) e = (x, p, refl)
    argument_is (C.Literal i p) e = (p, refl)
    argument_is (C.Constructor x p as') e = (
      _,
      _,
      _,
      _,
      _,
      _,
      refl,
      constructor_known x p (none_left (constructor_faults sc x p) (arguments_faults sc as') e),
      arguments_are as' (none_right (constructor_faults sc x p) (arguments_faults sc as') e),
    )

    arguments_are : (as' : C.Arguments) → arguments_faults sc as' ≡ [] → AreArguments core as' (flat_arguments from as')
    arguments_are C.NoArguments e = refl
    arguments_are (C.MoreArguments a as') e = (
      _,
      _,
      refl,
      argument_is a (none_left (argument_faults sc a) (arguments_faults sc as') e),
      arguments_are as' (none_right (argument_faults sc a) (arguments_faults sc as') e),
    )

  module _ (ns : Numbers) (here : Instance) where
    mutual
      pattern_is : (q : C.Pattern) → pattern_faults sc q ≡ [] → IsPattern core q (flat_pattern from ns here q)
      pattern_is (C.BinderPattern b) e = (_, refl, refl)
      pattern_is (C.LiteralPattern i p) e = (p, refl)
      pattern_is (C.ConstructorPattern x p qs) e = (
        _,
        _,
        _,
        _,
        _,
        _,
        refl,
        constructor_known x p (none_left (constructor_faults sc x p) (patterns_faults sc qs) e),
        patterns_are qs (none_right (constructor_faults sc x p) (patterns_faults sc qs) e),
      )

      patterns_are : (qs : C.Patterns) → patterns_faults sc qs ≡ [] → ArePatterns core qs (flat_patterns from ns here qs)
      patterns_are C.NoPatterns e = refl
      patterns_are (C.MorePatterns q qs) e = (
        _,
        _,
        refl,
        pattern_is q (none_left (pattern_faults sc q) (patterns_faults sc qs) e),
        patterns_are qs (none_right (pattern_faults sc q) (patterns_faults sc qs) e),
      )

    binders_are : (bs : List C.Binder) → SameNumbers bs (map (flat_binder from ns here) bs)
    binders_are [] = tt
    binders_are (b ∷ bs) = (refl, binders_are bs)

    pub parameters_are : (ps : List C.Parameter) → SameParameters ps (map (λ (p : C.Parameter). flat_binder from ns here p.binder) ps)
    parameters_are [] = tt
    parameters_are (p ∷ ps) = (refl, parameters_are ps)

    module _ (numbered : List ByClosed.Closed) (by_name : ByClosed.Instance) where
      -- the call of this site is of the instance that its name means
      abbrev pub IsReached : CallSite → Type 0
      IsReached c = slice_get numbered (flat_call from ns here c.name c.place c.statics) ≡ Some (callee core by_name c.name c.statics)

      abbrev pub AreReached : List CallSite → Type 0
      AreReached cs = (c : CallSite) → Among c cs → IsReached c

      clauses_split : (a : T.Argument) (d : Bool) (p : Place) (q : C.Pattern) (b : C.Block) (cs : C.Clauses) (x : C.Argument) → IsArgument core x a → AreClauses core numbered by_name (C.MoreClauses q b cs) (flat_clauses from ns here (C.MoreClauses q b cs)) → IsExpression core numbered by_name (C.Match d p x (C.MoreClauses q b cs)) (match_of d p a (flat_clauses from ns here (C.MoreClauses q b cs)))
      clauses_split a d p q b cs x h k = (_, _, _, _, _, _, _, refl, h, k)

      mutual
        expression_is : (tail : Bool) (e : C.Expression) → expression_faults sc e ≡ [] → HasClauses e → AreReached (sites_in_expression tail e) → IsExpression core numbered by_name e (flat_expression from ns here e)
        expression_is tail (C.Give a) e c r = (_, refl, argument_is a e)
        expression_is tail (C.Tuple p as') e c r = (_, _, refl, arguments_are as' e)
        expression_is tail (C.Operation o p a b) e c r = (
          _,
          _,
          refl,
          argument_is a (none_left (argument_faults sc a) (argument_faults sc b) e),
          argument_is b (none_right (argument_faults sc a) (argument_faults sc b) e),
        )
        expression_is tail (C.Call x p ws as') e c r = (_, _, _, _, refl, r (record { tail = tail; name = x; place = p; statics = ws }) (inl refl), arguments_are as' e)
        expression_is tail (C.Match d p a C.NoClauses) e c r = absurd c.0
        expression_is tail (C.Match d p a (C.MoreClauses q b cs)) e c r =
            let fs = argument_faults sc a in
            let gs = clauses_faults sc (C.MoreClauses q b cs) in
            clauses_split (flat_argument from a) d p q b cs a (argument_is a (none_left fs gs e)) (clauses_are tail (C.MoreClauses q b cs) (none_right fs gs e) c.1 r)
        expression_is tail (C.Nested b) e c r = (_, refl, block_is tail b e c r)

        pub block_is : (tail : Bool) (b : C.Block) → block_faults sc b ≡ [] → BlockHasClauses b → AreReached (sites_in_block tail b) → IsBlock core numbered by_name b (flat_block from ns here b)
        block_is tail (C.Last e) f c r = (_, refl, expression_is tail e f c r)
        block_is tail (C.Let bs e rest) f c r =
            let fs = binders_faults sc bs in
            let gs = expression_faults sc e in
            let hs = block_faults sc rest in
            let more = none_right fs (gs ++ hs) f in (
              _,
              _,
              _,
              refl,
              binders_are bs,
              expression_is false e (none_left gs hs more) c.0 (λ s a. r s (among_left s (sites_in_expression false e) (sites_in_block tail rest) a)),
              block_is tail rest (none_right gs hs more) c.1 (λ s a. r s (among_right s (sites_in_expression false e) (sites_in_block tail rest) a)),
            )

        clauses_are : (tail : Bool) (cs : C.Clauses) → clauses_faults sc cs ≡ [] → ClausesHaveClauses cs → AreReached (sites_in_clauses tail cs) → AreClauses core numbered by_name cs (flat_clauses from ns here cs)
        clauses_are tail C.NoClauses f c r = refl
        clauses_are tail (C.MoreClauses q b cs) f c r =
            let fs = pattern_faults sc q in
            let gs = block_faults sc b in
            let hs = clauses_faults sc cs in
            let more = none_right fs (gs ++ hs) f in (
              _,
              _,
              _,
              refl,
              pattern_is q (none_left fs (gs ++ hs) f),
              block_is tail b (none_left gs hs more) c.0 (λ s a. r s (among_left s (sites_in_block tail b) (sites_in_clauses tail cs) a)),
              clauses_are tail cs (none_right gs hs more) c.1 (λ s a. r s (among_right s (sites_in_block tail b) (sites_in_clauses tail cs) a)),
            )
