-- The core form has the patterns of its source, and so has each instance: their literals have 64 bits.
use Rattle.std.proofs.Common.{◌≡◌, inl, inr, ℕ, ◌+◌, List, [], ◌∷◌, ◌++◌, length, map, Option, Some, None, slice_get, FitsSigned, refl, sym, subst}
use Rattle.std.specs.Int.{w64}
use Rattle.cell_lower.specs.fip_language.Core as C
use Rattle.cell_lower.specs.fip_language.CoreForm as G
use Rattle.cell_lower.specs.fip_language.CoreForm.{Scope, Binding, Whole, Part, Parts, Blocked, Cases, block_of, bindings_in, last_in, made_let, bound, part_from, as_part, variable_from, as_scrutinee, last_from, as_last, as_block, in_brackets, patterns_of, if_match, core_form, with_binders, binders, parameters}
use Rattle.cell_lower.specs.fip_language.Every.{Every, Among}
use Rattle.cell_lower.specs.fip_language.Surface as S
use Rattle.cell_lower.specs.fip_trees.Tree as T
use Rattle.static_params.specs.reached_instances.closed_types.declared.closed.Head.TheVariants as H
use Rattle.static_params.specs.reached_instances.closed_types.Closed as Z
use Rattle.static_params.specs.reached_instances.closed_types.Closed.{Closed, Applied}
use Rattle.static_params.specs.reached_instances.closed_types.Source.{Source, Instance}
use Rattle.static_params.specs.FlatProgram.{Numbers, flat_pattern, flat_patterns, flat_expression, flat_block, flat_clauses, instance_if, instances_of, flat_program}
use Rattle.static_params.specs.FlatSource.{flat_source}
use Rattle.source_report.specs.Literals as L
use Rattle.static_params.proofs.GoodTypes.{all_of_have}
use Rattle.source_report.proofs.SpeltLiterals as Q

abbrev mutual
  FitsPattern : C.Pattern → Type 0
  FitsPattern (C.BinderPattern b) = Unit {0}
  FitsPattern (C.LiteralPattern i p) = FitsSigned w64 i
  FitsPattern (C.ConstructorPattern n p qs) = FitPatterns qs

  FitPatterns : C.Patterns → Type 0
  FitPatterns C.NoPatterns = Unit {0}
  FitPatterns (C.MorePatterns q qs) = FitsPattern q × FitPatterns qs

abbrev mutual
  Fits : C.Expression → Type 0
  Fits (C.Give a) = Unit {0}
  Fits (C.Tuple p as') = Unit {0}
  Fits (C.Operation o p a b) = Unit {0}
  Fits (C.Call n p ws as') = Unit {0}
  Fits (C.Match d p a cs) = FitClauses cs
  Fits (C.Nested b) = FitsBlock b

  pub FitsBlock : C.Block → Type 0
  FitsBlock (C.Last e) = Fits e
  FitsBlock (C.Let bs e rest) = Fits e × FitsBlock rest

  FitClauses : C.Clauses → Type 0
  FitClauses C.NoClauses = Unit {0}
  FitClauses (C.MoreClauses q b cs) = FitsPattern q × FitsBlock b × FitClauses cs

-- ---- lets before an expression

abbrev FitsBinding : Binding → Type 0
FitsBinding l = Fits l.bound

abbrev FitLets : List Binding → Type 0
FitLets ls = Every FitsBinding ls

abbrev FitsWhole : Whole → Type 0
FitsWhole w = FitLets w.lets × Fits w.expression

both_fit : (ls ms : List Binding) → FitLets ls → FitLets ms → FitLets (ls ++ ms)
both_fit [] ms h k = k
both_fit (l ∷ ls) ms h k = (h.0, both_fit ls ms h.1 k)

bound_fits : (ls : List Binding) (e : C.Expression) (n : ℕ) → FitLets ls → Fits e → FitLets (bound ls e n).lets
bound_fits ls e n h k = both_fit ls (made_let e n ∷ []) h (k, tt)

part_fits : (ls : List Binding) (e : C.Expression) (n : ℕ) → FitLets ls → Fits e → FitLets (part_from ls e n).lets
part_fits [] (C.Give a) n h k = tt
part_fits [] (C.Tuple p as') n h k = bound_fits [] (C.Tuple p as') n h k
part_fits [] (C.Operation o p a b) n h k = bound_fits [] (C.Operation o p a b) n h k
part_fits [] (C.Call x p ws as') n h k = bound_fits [] (C.Call x p ws as') n h k
part_fits [] (C.Match d p a cs) n h k = bound_fits [] (C.Match d p a cs) n h k
part_fits [] (C.Nested b) n h k = bound_fits [] (C.Nested b) n h k
part_fits (l ∷ ls) e n h k = bound_fits (l ∷ ls) e n h k

as_part_fits : (w : Whole) → FitsWhole w → FitLets (as_part w).lets
as_part_fits w h = part_fits w.lets w.expression w.next h.0 h.1

variable_fits : (ls : List Binding) (a : C.Argument) (n : ℕ) → FitLets ls → FitLets (variable_from ls a n).lets
variable_fits ls (C.Variable b x p) n h = h
variable_fits ls (C.Literal i p) n h = bound_fits ls (C.Give (C.Literal i p)) n h tt
variable_fits ls (C.Constructor x p as') n h = bound_fits ls (C.Give (C.Constructor x p as')) n h tt

as_scrutinee_fits : (w : Whole) → FitsWhole w → FitLets (as_scrutinee w).lets
as_scrutinee_fits w h = variable_fits (as_part w).lets (as_part w).argument (as_part w).next (as_part_fits w h)

bindings_fit : (b : C.Block) → FitsBlock b → FitLets (bindings_in b)
bindings_fit (C.Last e) h = tt
bindings_fit (C.Let bs e rest) h = (h.0, bindings_fit rest h.1)

last_fits : (b : C.Block) → FitsBlock b → Fits (last_in b)
last_fits (C.Last e) h = h
last_fits (C.Let bs e rest) h = last_fits rest h.1

last_from_fits : (ls : List Binding) (e : C.Expression) (n : ℕ) → FitLets ls → Fits e → FitsWhole (last_from ls e n)
last_from_fits ls (C.Operation o p a b) n h k = (bound_fits ls (C.Operation o p a b) n h k, tt)
last_from_fits ls (C.Nested b) n h k = (both_fit ls (bindings_in b) h (bindings_fit b k), last_fits b k)
last_from_fits ls (C.Give a) n h k = (h, k)
last_from_fits ls (C.Tuple p as') n h k = (h, k)
last_from_fits ls (C.Call x p ws as') n h k = (h, k)
last_from_fits ls (C.Match d p a cs) n h k = (h, k)

block_of_fits : (ls : List Binding) (e : C.Expression) → FitLets ls → Fits e → FitsBlock (block_of ls e)
block_of_fits [] e h k = k
block_of_fits (l ∷ ls) e h k = (h.0, block_of_fits ls e h.1 k)

as_block_fits : (w : Whole) → FitsWhole w → FitsBlock (as_block w).block
as_block_fits w h =
    let last = last_from_fits w.lets w.expression w.next h.0 h.1 in
    block_of_fits (as_last w).lets (as_last w).expression last.0 last.1

in_brackets_fits : (b : S.Block) (w : Whole) → FitsWhole w → FitsWhole (in_brackets b w)
in_brackets_fits (S.Last e) w h = h
in_brackets_fits (S.Let bs e rest) w h = (tt, as_block_fits w h)

mutual
  pattern_fits : (s : Scope) (n : ℕ) (q : S.Pattern) → Q.FitsPattern q → FitsPattern (G.pattern s n q).pattern
  pattern_fits s n (S.Wildcard p) h = tt
  pattern_fits s n (S.VariablePattern x p) h = tt
  pattern_fits s n (S.LiteralPattern i p) h = h
  pattern_fits s n (S.ConstructorPattern x p qs) h = patterns_fit s n qs h

  patterns_fit : (s : Scope) (n : ℕ) (qs : S.Patterns) → Q.FitPatterns qs → FitPatterns (patterns_of (G.patterns s n qs).patterns)
  patterns_fit s n S.NoPatterns h = tt
  patterns_fit s n (S.MorePatterns q qs) h =
      (pattern_fits s n q h.0, patterns_fit (G.pattern s n q).scope (G.pattern s n q).next qs h.1)

mutual
  whole_fits : (s : Scope) (n : ℕ) (e : S.Expression) → Q.Fits e → FitsWhole (G.whole s n e)
  whole_fits s n (S.Variable x p) h = (tt, tt)
  whole_fits s n (S.Literal i p) h = (tt, tt)
  whole_fits s n (S.Call x p ts es) h = (parts_fit s n es h, tt)
  whole_fits s n (S.Constructor x p es) h = (parts_fit s n es h, tt)
  whole_fits s n (S.Tuple p es) h = (parts_fit s n es h, tt)
  whole_fits s n (S.Binary o p l r) h =
      let a = as_part (G.whole s n l) in
      let b = as_part (G.whole s a.next r) in
      (both_fit a.lets b.lets (as_part_fits (G.whole s n l) (whole_fits s n l h.0)) (as_part_fits (G.whole s a.next r) (whole_fits s a.next r h.1)), tt)
  whole_fits s n (S.Match d p e cs) h =
      (as_scrutinee_fits (G.whole s n e) (whole_fits s n e h.0), cases_fit s (as_scrutinee (G.whole s n e)).next cs h.1)
  whole_fits s n (S.If p e met unmet) h =
      let v = as_scrutinee (G.whole s n e) in
      let y = as_block (G.contents s v.next met) in (
        as_scrutinee_fits (G.whole s n e) (whole_fits s n e h.0),
        (tt, as_block_fits (G.contents s v.next met) (contents_fit s v.next met h.1), (tt, as_block_fits (G.contents s y.next unmet) (contents_fit s y.next unmet h.2), tt)),
      )
  whole_fits s n (S.Bracket b) h = in_brackets_fits b (G.contents s n b) (contents_fit s n b h)

  parts_fit : (s : Scope) (n : ℕ) (es : S.Expressions) → Q.FitAll es → FitLets (G.parts s n es).lets
  parts_fit s n S.NoExpressions h = tt
  parts_fit s n (S.MoreExpressions e es) h =
      let a = as_part (G.whole s n e) in
      both_fit a.lets (G.parts s a.next es).lets (as_part_fits (G.whole s n e) (whole_fits s n e h.0)) (parts_fit s a.next es h.1)

  contents_fit : (s : Scope) (n : ℕ) (b : S.Block) → Q.FitsBlock b → FitsWhole (G.contents s n b)
  contents_fit s n (S.Last e) h = whole_fits s n e h
  contents_fit s n (S.Let bs e rest) h =
      let w = G.whole s n e in
      let ns = binders w.next bs in
      let r = G.contents (with_binders s ns) (w.next + length bs) rest in
      let first = whole_fits s n e h.0 in
      let further = contents_fit (with_binders s ns) (w.next + length bs) rest h.1 in
      (both_fit w.lets (record { binders = ns; bound = w.expression } ∷ r.lets) first.0 (first.1, further.0), further.1)

  cases_fit : (s : Scope) (n : ℕ) (cs : S.Clauses) → Q.FitClauses cs → FitClauses (G.cases s n cs).clauses
  cases_fit s n S.NoClauses h = tt
  cases_fit s n (S.MoreClauses p b cs) h =
      let q = G.pattern s n p in
      let k = as_block (G.contents q.scope q.next b) in
      (pattern_fits s n p h.0, as_block_fits (G.contents q.scope q.next b) (contents_fit q.scope q.next b h.1), cases_fit s k.next cs h.2)

abbrev pub CoreFits : C.Core → Type 0
CoreFits core = Every (λ (f : C.Function). FitsBlock f.body) core.functions

function_fits : (f : S.Function) → Q.FitsBlock f.body → FitsBlock (G.function f).body
function_fits f h =
    as_block_fits (G.contents (with_binders [] (map (λ (p : C.Parameter). p.binder) (parameters 0 f.parameters))) (length (parameters 0 f.parameters)) f.body)
    (contents_fit (with_binders [] (map (λ (p : C.Parameter). p.binder) (parameters 0 f.parameters))) (length (parameters 0 f.parameters)) f.body h)

pub core_fits : (ds : List S.Declaration) → Every Q.FitsDeclaration ds → CoreFits (core_form ds)
core_fits [] h = tt
core_fits (S.DataDeclaration d ∷ ds) h = core_fits ds h.1
core_fits (S.FunctionDeclaration f ∷ ds) h = (function_fits f h.0, core_fits ds h.1)

-- ---- instances

module _ (s : Source) (ns : Numbers) where
  mutual
    flat_pattern_fits : (here : Instance) (q : C.Pattern) → FitsPattern q → L.FitsPattern (flat_pattern s ns here q)
    flat_pattern_fits here (C.BinderPattern b) h = tt
    flat_pattern_fits here (C.LiteralPattern i p) h = h
    flat_pattern_fits here (C.ConstructorPattern x p qs) h = flat_patterns_fit here qs h

    flat_patterns_fit : (here : Instance) (qs : C.Patterns) → FitPatterns qs → L.FitPatterns (flat_patterns s ns here qs)
    flat_patterns_fit here C.NoPatterns h = tt
    flat_patterns_fit here (C.MorePatterns q qs) h = (flat_pattern_fits here q h.0, flat_patterns_fit here qs h.1)

  mutual
    flat_fits : (here : Instance) (e : C.Expression) → Fits e → L.Fits (flat_expression s ns here e)
    flat_fits here (C.Give a) h = tt
    flat_fits here (C.Tuple p as') h = tt
    flat_fits here (C.Operation o p a b) h = tt
    flat_fits here (C.Call x p ws as') h = tt
    flat_fits here (C.Match d p a C.NoClauses) h = tt
    flat_fits here (C.Match d p a (C.MoreClauses q b cs)) h = (flat_pattern_fits here q h.0, flat_block_fits here b h.1, flat_clauses_fit here cs h.2)
    flat_fits here (C.Nested b) h = flat_block_fits here b h

    flat_block_fits : (here : Instance) (b : C.Block) → FitsBlock b → L.FitsBlock (flat_block s ns here b)
    flat_block_fits here (C.Last e) h = flat_fits here e h
    flat_block_fits here (C.Let bs e rest) h = (flat_fits here e h.0, flat_block_fits here rest h.1)

    flat_clauses_fit : (here : Instance) (cs : C.Clauses) → FitClauses cs → L.FitClauses (flat_clauses s ns here cs)
    flat_clauses_fit here C.NoClauses h = tt
    flat_clauses_fit here (C.MoreClauses q b cs) h = (flat_pattern_fits here q h.0, flat_block_fits here b h.1, flat_clauses_fit here cs h.2)

  function_at : (fs : List C.Function) (n : ℕ) (o : Option C.Function) → slice_get fs n ≡ o → Every (λ (f : C.Function). FitsBlock f.body) fs → (here : Instance) (d : T.Instance) → Among d (instance_if s ns here o) → L.FitsBlock d.body
  function_at fs n None e h here d a = absurd a
  function_at fs n (Some f) e h here d (inl k) = subst (λ (d : T.Instance). L.FitsBlock d.body) (sym k) (flat_block_fits here f.body (there fs n h e))
    where
      there : (gs : List C.Function) (m : ℕ) → Every (λ (f : C.Function). FitsBlock f.body) gs → slice_get gs m ≡ Some f → FitsBlock f.body
      there [] m h e = absurd (cc)
      there (g ∷ gs) Rattle.std.specs.Prelude.zero h e = let same : g ≡ f = cc in subst (λ (f : C.Function). FitsBlock f.body) same h.0
      there (g ∷ gs) (Rattle.std.specs.Prelude.suc m) h e = there gs m h.1 e
  function_at fs n (Some f) e h here d (inr k) = absurd k

  closed_fits : Every (λ (f : C.Function). FitsBlock f.body) s.functions → (c : Closed) (d : T.Instance) → Among d (instances_of s ns c) → L.FitsBlock d.body
  closed_fits h Z.Int d a = absurd a
  closed_fits h (Applied (H.«Type» n) cs) d a = absurd a
  closed_fits h (Applied (H.Function f) cs) d a = function_at s.functions f (slice_get s.functions f) refl h (record { function = f; given = cs }) d a

pub program_fits : (core : C.Core) (ns : Numbers) → CoreFits core → L.LiteralsFit (flat_program (flat_source core) ns)
program_fits core ns h d a =
    all_of_have (λ (d : T.Instance). L.FitsBlock d.body) (instances_of (flat_source core) ns) ns.instances (λ c b e f. closed_fits (flat_source core) ns h c e f) d a
