-- What is typed is ready for coverage. The types that are found are in the table, since those of fields, parameters and
-- results are: so the types of scrutinees have values. A pattern that is typed by its slots is, without its names, a
-- pattern of the type in the sense of coverage.
use Rattle.std.proofs.Common.{◌≡◌, ◌≤◌, ◌<◌, ◌+◌, ◌^◌, ◌==◌, ℕ, zero, suc, Bool, true, false, nat_lt, List, [], ◌∷◌, ◌++◌, length, map, Option, Some, None, slice_get, pos, if◌then◌else◌, refl, sym, ap, ◌∙◌, subst, arith, inl, inr, FitsSigned}
use Rattle.std.specs.Int.{w64}
use Rattle.std.proofs.lemmas.Bool.Decides.{nat_tests}
use Rattle.cell_lower.proofs.fip_language.Search.{slice_get_there}
use Rattle.cell_lower.specs.fip_language.Every.{Every, Among}
use Rattle.cell_lower.specs.fip_language.SoundTable.{AreTypes}
use Rattle.cell_lower.specs.fip_language.Table.{Shape, shapes, Table, HasType}
use Rattle.cell_lower.specs.fip_language.Values as Value
use Rattle.cell_lower.specs.fip_base.TableView.{fields_at}
use Rattle.cell_lower.specs.fip_base.declared.plain.Param.{Param}
use Rattle.cell_lower.specs.fip_language.declared.Operator.{Operator}
use Rattle.cell_lower.specs.fip_language.declared.Operator.TheVariants as O
use Rattle.cell_lower.specs.fip_trees.declared.program.Binder.{Binder}
use Rattle.cell_lower.specs.fip_trees.declared.program.Instance as I
use Rattle.cell_lower.specs.fip_trees.Tree as T
use Rattle.cell_lower.specs.fip_trees.Tree.{Program}
use Rattle.cell_lower.specs.fip_trees.TreeView as V
use Rattle.cell_lower.specs.match_knowledge.declared.heads.Head.TheVariants.{Number, Tag}
use Rattle.cell_lower.specs.match_knowledge.ValueHeads.{AllHaveValues, IsTidy, IsHead}
use Rattle.cell_lower.specs.match_knowledge.Patterns as K
use Rattle.cell_lower.specs.match_cover.PatternView.{erased}
use Rattle.cell_lower.specs.match_cover.Matches.{Match, block_matches}
use Rattle.cell_lower.specs.match_cover.Coverage.{AreTypedMatches, AreTypedBodies, IsReady}
use Rattle.lowering_simulation.specs.type_check.Found.{or_found}
use Rattle.lowering_simulation.specs.type_check.Scope.{Scope, or_else, look, of_binder}
use Rattle.lowering_simulation.specs.type_check.Binders.{entries, entry}
use Rattle.lowering_simulation.specs.type_check.Typing as Y
use Rattle.lowering_simulation.specs.type_check.Typing.{bound_by, bound_by_all, parameter_entries, parameter_scope}
use Rattle.lowering_simulation.specs.type_check.World.{world, is_of, is_number, numbered, first_declared, plain_type, chosen, fields_of, field_types, head_of, head_or_none, result_of}
use Rattle.source_report.specs.WellFormed as F
use Rattle.source_report.specs.Literals as L
use Rattle.source_report.specs.TreeMatches.{bare as plain, bare_all as plain_all, Match as PlainMatch, clause_patterns, matches, matches_block, matches_clauses}
use Rattle.source_report.proofs.Erasing.{erased_is}
use Rattle.source_report.proofs.Matching.{match_view, matches_are}
use Rattle.cell_lower.proofs.fip_language.Facts.{get_within as within, same_number}
use Rattle.cell_lower.proofs.fip_language.Plain.{every_append as every_both}

-- ---- lists

-- ---- types that are in the table

abbrev IsIn : Program → ℕ → Type 0
IsIn p t = t ≤ length p.types

-- each variable of a known type has one that is in the table
abbrev AreIn : Program → Scope → Type 0
AreIn p s = (x t : ℕ) → look s x ≡ Some (Some t) → IsIn p t

none_in : (p : Program) → AreIn p []
none_in p x t e = absurd (cc)

entry_in : (p : Program) (o : Option ℕ) (b : Binder) → ((t : ℕ) → o ≡ Some t → IsIn p t) → AreIn p (entry o b ∷ [])
entry_in p o b h x t e = by (b.number == x) e
  where
    by : (c : Bool) → or_else None (if c then Some o else None) ≡ Some (Some t) → IsIn p t
    by true f = let same : o ≡ Some t = cc in h t same
    by false f = absurd (cc)

or_else_all : (a b c : Option (Option ℕ)) → or_else (or_else a b) c ≡ or_else a (or_else b c)
or_else_all (Some t) b c = refl
or_else_all None b c = refl

look_both : (s r : Scope) (x : ℕ) → look (s ++ r) x ≡ or_else (look r x) (look s x)
look_both [] r x = last_or (look r x)
  where
    last_or : (o : Option (Option ℕ)) → o ≡ or_else o None
    last_or (Some t) = refl
    last_or None = refl
look_both (e ∷ s) r x = ap (λ o. or_else o (if e.number == x then Some e.ty else None)) (look_both s r x) ∙ or_else_all (look r x) (look s x) (if e.number == x then Some e.ty else None)

both_in : (p : Program) (s r : Scope) → AreIn p s → AreIn p r → AreIn p (s ++ r)
both_in p s r h k x t e = by (look r x) refl (sym (look_both s r x) ∙ e)
  where
    by : (o : Option (Option ℕ)) → look r x ≡ o → or_else o (look s x) ≡ Some (Some t) → IsIn p t
    by (Some u) f g = k x t (f ∙ g)
    by None f g = h x t g

known_in : (p : Program) (t : ℕ) → IsIn p t → (u : ℕ) → Some t ≡ Some u → IsIn p u
known_in p t h u e = let same : t ≡ u = cc in subst (IsIn p) same h

variable_in : (p : Program) (s : Scope) (x : Option ℕ) (t : ℕ) → AreIn p s → of_binder s x ≡ Some (Some t) → IsIn p t
variable_in p s None t h e = absurd (cc)
variable_in p s (Some x) t h e = h x t e

declared_at : (xs : List ℕ) (t d : ℕ) → is_number (numbered xs t) d ≡ true → (n : ℕ) × (t ≡ suc n) × (slice_get xs n ≡ Some d)
declared_at xs zero d e = absurd (cc)
declared_at xs (suc n) d e = by (slice_get xs n) refl
  where
    by : (o : Option ℕ) → slice_get xs n ≡ o → (m : ℕ) × (suc n ≡ suc m) × (slice_get xs m ≡ Some d)
    by None f = let r : is_number None d ≡ true = subst (λ o. is_number o d ≡ true) f e in absurd (cc)
    by (Some k) f = let r : (k == d) ≡ true = subst (λ o. is_number o d ≡ true) f e in (n, refl, f ∙ ap (λ m. Some m) (same_number k d r))

narrow_same : (b : Bool) (n t : ℕ) → (if b then Some n else None) ≡ Some t → n ≡ t
narrow_same true n t e = cc
narrow_same false n t e = absurd (cc)

first_in : (es : List ℕ) (n d t : ℕ) → first_declared es n d ≡ Some t → t < n + length es
first_in [] n d t e = absurd (cc)
first_in (k ∷ es) n d t e = by (k == d) (nat_lt n (2 ^ 32)) e (first_in es (suc n) d t)
  where
    by : (b c : Bool) → or_found (if b then if c then Some n else None else None) (first_declared es (suc n) d) ≡ Some t → (first_declared es (suc n) d ≡ Some t → t < suc n + length es) → t < n + length (k ∷ es)
    by true true h later = let same : n ≡ t = cc in omega (arith, same)
    by true false h later = let r = later h in omega (arith, r)
    by false c h later = let r = later h in omega (arith, r)

plain_in_table : (arities es : List ℕ) (d t : ℕ) (b : Bool) → (if b then first_declared es 1 d else None) ≡ Some t → t ≤ length es
plain_in_table arities es d t true e = let r = first_in es 1 d t e in omega (arith, r)
plain_in_table arities es d t false e = absurd (cc)

are_types_at : (tb : Table) (ss : List Shape) (c : ℕ) → ((d : ℕ) (s : Shape) → slice_get ss d ≡ Some s → AreTypes tb s.fields) → AreTypes tb (fields_at ss c)
are_types_at tb [] c h = tt
are_types_at tb (s ∷ ss) zero h = h 0 s refl
are_types_at tb (s ∷ ss) (suc c) h = are_types_at tb ss c (λ d r e. h (suc d) r e)

fields_at_is : (ss : List Shape) (c : ℕ) (s : Shape) → slice_get ss c ≡ Some s → s.fields ≡ fields_at ss c
fields_at_is [] c s e = absurd (cc)
fields_at_is (r ∷ ss) zero s e = let same : r ≡ s = cc in ap (λ (q : Shape). q.fields) (sym same)
fields_at_is (r ∷ ss) (suc c) s e = fields_at_is ss c s e

a_head : (tb : Table) (t n c : ℕ) (fs : List ℕ) → t ≡ suc n → (s : Shape) → slice_get (shapes tb n) c ≡ Some s → s.fields ≡ fs → IsHead tb t (Tag c) fs
a_head tb t n c fs e s f g = subst (λ t. IsHead tb t (Tag c) fs) (sym e) (s, f, g)

-- ---- the types that typing finds

module _ (p : Program) (good : F.IsWellFormed p) where
  fields_in : (t c : ℕ) → AreTypes p.types (fields_of (world p) t c)
  fields_in zero c = tt
  fields_in (suc t) c = are_types_at p.types (shapes p.types t) c (λ d s e. good.fields t d s e)

  is_of_in : (t d : ℕ) → is_of (world p) t d ≡ true → IsIn p t
  is_of_in t d e =
      let at = declared_at p.declaring t d e in
      let below = within p.declaring at.0 d at.2 in
      let same = at.1 in
      let sizes = good.declared in
      omega (arith, below, same, sizes)

  plain_type_in : (d t : ℕ) → plain_type (world p) d ≡ Some t → IsIn p t
  plain_type_in d t e =
      let r = plain_in_table p.arities p.declaring d t (is_number (numbered p.arities d) 0) e in
      let sizes = good.declared in
      omega (arith, r, sizes)

  makes_in : (b : Bool) (d t : ℕ) → Y.Makes (world p) b d t → IsIn p t
  makes_in true d t h = is_of_in t d h
  makes_in false d t h = plain_type_in d t h

  argument_in : (s : Scope) (b : Bool) (a : T.Argument) (t : ℕ) → AreIn p s → Y.HasType true (world p) s b a t → IsIn p t
  argument_in s b (T.Variable x n q) t h e = variable_in p s x t h e
  argument_in s b (T.Literal i q) t h e = omega (arith, e)
  argument_in s b (T.Constructor u d c n q as') t h e = makes_in b d t e.1

  arguments_in : (s : Scope) (b : Bool) (as' : T.Arguments) (ts : List ℕ) → AreIn p s → Y.HaveTypes true (world p) s b as' ts → AreTypes p.types ts
  arguments_in s b T.NoArguments [] h e = tt
  arguments_in s b T.NoArguments (t ∷ ts) h e = absurd e
  arguments_in s b (T.MoreArguments a as') [] h e = absurd e
  arguments_in s b (T.MoreArguments a as') (t ∷ ts) h e = (argument_in s b a t h e.0, arguments_in s b as' ts h e.1)

  result_in : (o : Operator) → IsIn p (result_of o)
  result_in O.Add = omega arith
  result_in O.Subtract = omega arith
  result_in O.Multiply = omega arith
  result_in O.Divide = omega arith
  result_in O.Remainder = omega arith
  result_in O.Equal = let some = good.bool in omega (arith, some)
  result_in O.NotEqual = let some = good.bool in omega (arith, some)
  result_in O.Less = let some = good.bool in omega (arith, some)
  result_in O.LessOrEqual = let some = good.bool in omega (arith, some)
  result_in O.Greater = let some = good.bool in omega (arith, some)
  result_in O.GreaterOrEqual = let some = good.bool in omega (arith, some)

  results_from : (ds : List T.Instance) → ((d : T.Instance) → Among d ds → F.IsKnownInstance p d) → (g : ℕ) → AreTypes p.types (head_or_none (slice_get (map head_of ds) g)).results
  results_from [] h g = tt
  results_from (d ∷ ds) h zero = (h d (inl refl)).results
  results_from (d ∷ ds) h (suc g) = results_from ds (λ e a. h e (inr a)) g

  -- ---- patterns

  literal_ok : (t : ℕ) (i : _) → FitsSigned w64 i → t ≡ 0 → K.IsPattern p.types t (K.Test 0 (Number i) K.NoPatterns)
  literal_ok t i fits e = subst (λ t. K.IsPattern p.types t (K.Test 0 (Number i) K.NoPatterns)) (sym e) (refl, [], (fits, refl), tt)

  mutual
    pattern_ok : (t : ℕ) (q : T.Pattern) → IsIn p t → Y.IsPattern true (world p) t q → F.IsKnownPattern p q → L.FitsPattern q → K.IsPattern p.types t (plain q)
    pattern_ok t (T.BinderPattern b) h e k l = tt
    pattern_ok t (T.LiteralPattern i q) h e k l = literal_ok t i l e
    pattern_ok t (T.ConstructorPattern u d c n q ps) h e k l =
        let at = declared_at p.declaring t d e.1 in
        let some = slice_get_there (shapes p.types at.0) c (k.0 at.0 at.2) in
        let parts = patterns_ok (fields_of (world p) t c) ps (fields_in t c) e.2 k.1 l in
        let fields : some.0.fields ≡ fields_of (world p) t c = fields_at_is (shapes p.types at.0) c some.0 some.1 ∙ ap (λ t. fields_of (world p) t c) (sym at.1) in
        (e.0, fields_of (world p) t c, a_head p.types t at.0 c (fields_of (world p) t c) at.1 some.0 some.1 fields, parts)

    patterns_ok : (ts : List ℕ) (ps : T.Patterns) → AreTypes p.types ts → Y.ArePatterns true (world p) ts ps → F.AreKnownPatterns p ps → L.FitPatterns ps → K.ArePatterns p.types ts (plain_all ps)
    patterns_ok [] T.NoPatterns h e k l = tt
    patterns_ok [] (T.MorePatterns q qs) h e k l = absurd e
    patterns_ok (t ∷ ts) T.NoPatterns h e k l = absurd e
    patterns_ok (t ∷ ts) (T.MorePatterns q qs) h e k l = (pattern_ok t q h.0 e.0 k.0 l.0, patterns_ok ts qs h.1 e.1 k.1 l.1)

  mutual
    bound_in : (t : ℕ) (q : T.Pattern) → IsIn p t → Y.IsPattern true (world p) t q → AreIn p (bound_by (world p) (Some t) q)
    bound_in t (T.BinderPattern b) h e = entry_in p (Some t) b (known_in p t h)
    bound_in t (T.LiteralPattern i q) h e = none_in p
    bound_in t (T.ConstructorPattern u d c n q ps) h e =
        let own : chosen (world p) (Some (Some t)) d ≡ Some t = ap (λ b. if b then Some t else plain_type (world p) d) e.1 in
        subst (λ o. AreIn p (bound_by_all (world p) (field_types (world p) o c) ps)) (sym own) (bound_all_in (fields_of (world p) t c) ps (fields_in t c) e.2)

    bound_all_in : (ts : List ℕ) (ps : T.Patterns) → AreTypes p.types ts → Y.ArePatterns true (world p) ts ps → AreIn p (bound_by_all (world p) (map Some ts) ps)
    bound_all_in [] T.NoPatterns h e = none_in p
    bound_all_in [] (T.MorePatterns q qs) h e = absurd e
    bound_all_in (t ∷ ts) T.NoPatterns h e = absurd e
    bound_all_in (t ∷ ts) (T.MorePatterns q qs) h e =
        both_in p (bound_by (world p) (Some t) q) (bound_by_all (world p) (map Some ts) qs) (bound_in t q h.0 e.0) (bound_all_in ts qs h.1 e.1)

  annotated_in : (o : Option ℕ) (t : ℕ) → Y.Annotated o t → IsIn p t → (u : ℕ) → or_found o (Some t) ≡ Some u → IsIn p u
  annotated_in None t a h u e = known_in p t h u e
  annotated_in (Some v) t a h u e = let same : t ≡ u = cc in subst (IsIn p) same h

  binders_in : (bs : List Binder) (us : List ℕ) → Y.Bind true bs us → AreTypes p.types us → AreIn p (entries bs (map Some us))
  binders_in [] us e h = none_in p
  binders_in (b ∷ bs) [] e h = absurd e
  binders_in (b ∷ bs) (u ∷ us) e h =
      both_in p (entry (or_found b.annotation (Some u)) b ∷ []) (entries bs (map Some us)) (entry_in p (or_found b.annotation (Some u)) b (annotated_in b.annotation u e.0.0 h.0)) (binders_in bs us e.1 h.1)

  parameters_in : (ps : List Param) (bs : List Binder) → AreTypes p.types (map F.type_of ps) → AreIn p (parameter_entries ps bs)
  parameters_in [] bs h = none_in p
  parameters_in (q ∷ ps) [] h = none_in p
  parameters_in (q ∷ ps) (b ∷ bs) h = both_in p (entry (Some q.ty) b ∷ []) (parameter_entries ps bs) (entry_in p (Some q.ty) b (known_in p q.ty h.0)) (parameters_in ps bs h.1)

  -- ---- bodies

  -- a match whose type is in the table, with patterns of that type
  pub record IsTypedPlain (m : PlainMatch) : Type 0 where
    pub known : IsIn p m.ty
    pub rows : K.AreRows p.types m.ty (map plain m.patterns)

  -- types in the table, and such matches
  pub record AreFound (ts : List ℕ) (ms : List PlainMatch) : Type 0 where
    pub types : AreTypes p.types ts
    pub matches : Every IsTypedPlain ms

  -- the patterns of further clauses, and the matches in them
  pub record AreFurther (t : ℕ) (cs : T.Clauses) : Type 0 where
    pub rows : K.AreRows p.types t (map plain (clause_patterns cs))
    pub matches : Every IsTypedPlain (matches_clauses cs)

  mutual
    expression_ok : (s : Scope) (b : Bool) (e : T.Expression) (ts : List ℕ) → AreIn p s → Y.Types true (world p) s b e ts → F.IsKnown p e → L.Fits e → AreFound ts (matches e)
    expression_ok s b (T.Give a) ts h y k l =
        record { types = subst (AreTypes p.types) (sym y.1) (argument_in s b a y.0 h y.2, tt); matches = tt }
    expression_ok s b (T.Tuple q as') ts h y k l = record { types = arguments_in s b as' ts h y.1; matches = tt }
    expression_ok s b (T.Operation o q one other) ts h y k l =
        record { types = subst (AreTypes p.types) (sym y.0) (result_in o, tt); matches = tt }
    expression_ok s b (T.Call g n q as') ts h y k l =
        record { types = subst (AreTypes p.types) (sym y.0) (results_from p.instances good.instances g); matches = tt }
    expression_ok s b (T.Match d u q a r body cs) ts h y k l =
        let t = y.0 in
        let here = argument_in s false a t h y.2 in
        let first = block_ok (s ++ bound_by (world p) (Some t) r) b body ts (both_in p s (bound_by (world p) (Some t) r) h (bound_in t r here y.3)) y.4 k.1 l.1 in
        let further = clauses_ok s t cs ts h here y.5 k.2 l.2 in
        let rows : K.AreRows p.types t (map plain (r ∷ clause_patterns cs)) = (pattern_ok t r here y.3 k.0 l.0, further.rows) in
        record {
          types = first.types;
          matches = (
            record { known = subst (IsIn p) (sym y.1) here; rows = subst (λ t. K.AreRows p.types t (map plain (r ∷ clause_patterns cs))) (sym y.1) rows },
            every_both IsTypedPlain (matches_block body) (matches_clauses cs) first.matches further.matches,
          );
        }
    expression_ok s b (T.Nested d) ts h y k l = block_ok s b d ts h y k l

    block_ok : (s : Scope) (b : Bool) (d : T.Block) (ts : List ℕ) → AreIn p s → Y.TypesBlock true (world p) s b d ts → F.IsKnownBlock p d → L.FitsBlock d → AreFound ts (matches_block d)
    block_ok s b (T.Last e) ts h y k l = expression_ok s b e ts h y k l
    block_ok s b (T.Let bs e rest) ts h y k l =
        let us = y.0 in
        let bound = expression_ok s _ e us h y.1 k.0 l.0 in
        let after = block_ok (s ++ entries bs (map Some us)) b rest ts (both_in p s (entries bs (map Some us)) h (binders_in bs us y.2 bound.types)) y.3 k.1 l.1 in
        record { types = after.types; matches = every_both IsTypedPlain (matches e) (matches_block rest) bound.matches after.matches }

    clauses_ok : (s : Scope) (t : ℕ) (cs : T.Clauses) (ts : List ℕ) → AreIn p s → IsIn p t → Y.TypesClauses true (world p) s t cs ts → F.AreKnownClauses p cs → L.FitClauses cs → AreFurther t cs
    clauses_ok s t T.NoClauses ts h here y k l = record { rows = tt; matches = tt }
    clauses_ok s t (T.MoreClauses r body cs) ts h here y k l =
        let first = block_ok (s ++ bound_by (world p) (Some t) r) true body ts (both_in p s (bound_by (world p) (Some t) r) h (bound_in t r here y.0)) y.1 k.1 l.1 in
        let further = clauses_ok s t cs ts h here y.2 k.2 l.2 in
        record {
          rows = (pattern_ok t r here y.0 k.0 l.0, further.rows);
          matches = every_both IsTypedPlain (matches_block body) (matches_clauses cs) first.matches further.matches;
        }

  instance_ok : (d : T.Instance) → F.IsKnownInstance p d → L.FitsBlock d.body → Y.Typed true (world p) d → Every IsTypedPlain (matches_block d.body)
  instance_ok d k l y = (block_ok (parameter_scope d) true d.body d.results (parameters_in d.params d.binders k.parameters) y.3 k.body l).matches

  -- ---- as they lie in memory

  value_of : (t : ℕ) → IsIn p t → (v : Value.Value) × HasType p.types t v
  value_of zero h = (Value.Int (pos 0), omega arith)
  value_of (suc t) h = good.inhabited t (omega (arith, h))

  all_valued : (ts : List ℕ) → AreTypes p.types ts → AllHaveValues p.types ts
  all_valued [] h = tt
  all_valued (t ∷ ts) h = (value_of t h.0, all_valued ts h.1)

  tidy : IsTidy p.types
  tidy t c s e = all_valued s.fields (good.fields t c s e)

  rows_are : (qs : List _) → map erased qs ≡ map plain (map V.pattern qs)
  rows_are [] = refl
  rows_are (q ∷ qs) = let e = erased_is q in let r = rows_are qs in cc

  matches_typed : (ms : List Match) → Every IsTypedPlain (map match_view ms) → AreTypedMatches p.types ms
  matches_typed [] h = tt
  matches_typed (m ∷ ms) h =
      (record { inhabited = value_of m.ty h.0.known; typed = subst (K.AreRows p.types m.ty) (sym (rows_are m.clauses)) h.0.rows }, matches_typed ms h.1)

  bodies_typed : (ds : List I.Instance) → ((d : T.Instance) → Among d (V.instances ds) → F.IsKnownInstance p d) → ((d : T.Instance) → Among d (V.instances ds) → L.FitsBlock d.body) → Y.AllTyped true (world p) (V.instances ds) → AreTypedBodies p.types ds
  bodies_typed [] k l y = tt
  bodies_typed (d ∷ ds) k l y = (
    matches_typed (block_matches d.body) (subst (Every IsTypedPlain) (sym (matches_are d.body)) (instance_ok (V.instance_of d) (k (V.instance_of d) (inl refl)) (l (V.instance_of d) (inl refl)) y.0)),
    bodies_typed ds (λ e a. k e (inr a)) (λ e a. l e (inr a)) y.1,
  )

pub ready : (p : Program) (ds : List I.Instance) → F.IsWellFormed p → L.LiteralsFit p → Y.IsFilled p → V.instances ds ≡ p.instances → IsReady p.types ds
ready p ds good fits y e =
    record {
      tidy = tidy p good;
      typed = bodies_typed p good ds (λ d a. good.instances d (subst (Among d) e a)) (λ d a. fits d (subst (Among d) e a)) (subst (Y.AllTyped true (world p)) (sym e) y);
    }
