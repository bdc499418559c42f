-- The core form numbers the binders of a function in order: what a part of the source gives has the numbers from the
-- one that it was given up to the next.
use Rattle.std.proofs.Common.{◌≡◌, ℕ, suc, ◌+◌, ◌<◌, List, [], ◌∷◌, ◌++◌, length, map, refl, sym, ◌∙◌, subst, arith}
use Rattle.cell_lower.specs.fip_language.Core as C
use Rattle.cell_lower.specs.fip_language.CoreForm as G
use Rattle.cell_lower.specs.fip_language.CoreForm.{Scope, Binding, Whole, block_of, bindings_in, last_in, made_let, part_from, as_part, variable_from, as_scrutinee, last_from, as_last, as_block, in_brackets, core_form, with_binders, binders, parameters, patterns_of}
use Rattle.cell_lower.specs.fip_language.Every.{Every}
use Rattle.cell_lower.specs.fip_language.Surface as S
use Rattle.source_report.proofs.SpeltBinders as Q

-- ---- binders have the numbers from n on, and the next number is m

abbrev pub From : ℕ → ℕ → List C.Binder → Type 0
From n m [] = n ≡ m
From n m (b ∷ bs) = (b.number ≡ n) × From (n + 1) m bs

abbrev mutual
  pub SpansPattern : ℕ → ℕ → C.Pattern → Type 0
  SpansPattern n m (C.BinderPattern b) = (b.number ≡ n) × (n + 1 ≡ m)
  SpansPattern n m (C.LiteralPattern i p) = n ≡ m
  SpansPattern n m (C.ConstructorPattern x p ps) = SpansPatterns n m ps

  pub SpansPatterns : ℕ → ℕ → C.Patterns → Type 0
  SpansPatterns n m C.NoPatterns = n ≡ m
  SpansPatterns n m (C.MorePatterns p ps) = (k : ℕ) × SpansPattern n k p × SpansPatterns k m ps

abbrev mutual
  pub Spans : ℕ → ℕ → C.Expression → Type 0
  Spans n m (C.Give a) = n ≡ m
  Spans n m (C.Tuple p as') = n ≡ m
  Spans n m (C.Operation o p l r) = n ≡ m
  Spans n m (C.Call x p ws as') = n ≡ m
  Spans n m (C.Match d p a cs) = SpansClauses n m cs
  Spans n m (C.Nested b) = SpansBlock n m b

  pub SpansBlock : ℕ → ℕ → C.Block → Type 0
  SpansBlock n m (C.Last e) = Spans n m e
  SpansBlock n m (C.Let bs e rest) = (j : ℕ) × (k : ℕ) × (0 < length bs) × Spans n j e × From j k bs × SpansBlock k m rest

  pub SpansClauses : ℕ → ℕ → C.Clauses → Type 0
  SpansClauses n m C.NoClauses = n ≡ m
  SpansClauses n m (C.MoreClauses q b cs) = (j : ℕ) × (k : ℕ) × SpansPattern n j q × SpansBlock j k b × SpansClauses k m cs

abbrev SpansLets : ℕ → ℕ → List Binding → Type 0
SpansLets n m [] = n ≡ m
SpansLets n m (l ∷ ls) = (j : ℕ) × (k : ℕ) × (0 < length l.binders) × Spans n j l.bound × From j k l.binders × SpansLets k m ls

abbrev SpansWhole : ℕ → Whole → Type 0
SpansWhole n w = (k : ℕ) × SpansLets n k w.lets × Spans k w.next w.expression

-- ---- lets

lets_both : (n k m : ℕ) (ls ms : List Binding) → SpansLets n k ls → SpansLets k m ms → SpansLets n m (ls ++ ms)
lets_both n k m [] ms h g = subst (λ i. SpansLets i m ms) (sym h) g
lets_both n k m (l ∷ ls) ms h g = (h.0, h.1, h.2, h.3, h.4, lets_both h.1 k m ls ms h.5 g)

bound_spans : (n k m : ℕ) (ls : List Binding) (e : C.Expression) → SpansLets n k ls → Spans k m e → SpansLets n (m + 1) (ls ++ made_let e m ∷ [])
bound_spans n k m ls e h g = lets_both n k (m + 1) ls (made_let e m ∷ []) h (m, m + 1, omega arith, g, (refl, refl), refl)

part_spans : (n k m : ℕ) (ls : List Binding) (e : C.Expression) → SpansLets n k ls → Spans k m e → SpansLets n (part_from ls e m).next (part_from ls e m).lets
part_spans n k m [] (C.Give a) h g = h ∙ g
part_spans n k m [] (C.Tuple p as') h g = bound_spans n k m [] (C.Tuple p as') h g
part_spans n k m [] (C.Operation o p a b) h g = bound_spans n k m [] (C.Operation o p a b) h g
part_spans n k m [] (C.Call x p ws as') h g = bound_spans n k m [] (C.Call x p ws as') h g
part_spans n k m [] (C.Match d p a cs) h g = bound_spans n k m [] (C.Match d p a cs) h g
part_spans n k m [] (C.Nested b) h g = bound_spans n k m [] (C.Nested b) h g
part_spans n k m (l ∷ ls) e h g = bound_spans n k m (l ∷ ls) e h g

as_part_spans : (n : ℕ) (w : Whole) → SpansWhole n w → SpansLets n (as_part w).next (as_part w).lets
as_part_spans n w h = part_spans n h.0 w.next w.lets w.expression h.1 h.2

variable_spans : (n m : ℕ) (ls : List Binding) (a : C.Argument) → SpansLets n m ls → SpansLets n (variable_from ls a m).next (variable_from ls a m).lets
variable_spans n m ls (C.Variable b x p) h = h
variable_spans n m ls (C.Literal i p) h = bound_spans n m m ls (C.Give (C.Literal i p)) h refl
variable_spans n m ls (C.Constructor x p as') h = bound_spans n m m ls (C.Give (C.Constructor x p as')) h refl

as_scrutinee_spans : (n : ℕ) (w : Whole) → SpansWhole n w → SpansLets n (as_scrutinee w).next (as_scrutinee w).lets
as_scrutinee_spans n w h = variable_spans n (as_part w).next (as_part w).lets (as_part w).argument (as_part_spans n w h)

-- ---- blocks

bindings_span : (n m : ℕ) (b : C.Block) → SpansBlock n m b → (k : ℕ) × SpansLets n k (bindings_in b) × Spans k m (last_in b)
bindings_span n m (C.Last e) h = (n, refl, h)
bindings_span n m (C.Let bs e rest) h =
    let r = bindings_span h.1 m rest h.5 in
    (r.0, (h.0, h.1, h.2, h.3, h.4, r.1), r.2)

last_from_spans : (n k m : ℕ) (ls : List Binding) (e : C.Expression) → SpansLets n k ls → Spans k m e → SpansWhole n (last_from ls e m)
last_from_spans n k m ls (C.Operation o p a b) h g = (m + 1, bound_spans n k m ls (C.Operation o p a b) h g, refl)
last_from_spans n k m ls (C.Nested b) h g =
    let r = bindings_span k m b g in
    (r.0, lets_both n k r.0 ls (bindings_in b) h r.1, r.2)
last_from_spans n k m ls (C.Give a) h g = (k, h, g)
last_from_spans n k m ls (C.Tuple p as') h g = (k, h, g)
last_from_spans n k m ls (C.Call x p ws as') h g = (k, h, g)
last_from_spans n k m ls (C.Match d p a cs) h g = (k, h, g)

block_of_spans : (n k m : ℕ) (ls : List Binding) (e : C.Expression) → SpansLets n k ls → Spans k m e → SpansBlock n m (block_of ls e)
block_of_spans n k m [] e h g = subst (λ i. Spans i m e) (sym h) g
block_of_spans n k m (l ∷ ls) e h g = (h.0, h.1, h.2, h.3, h.4, block_of_spans h.1 k m ls e h.5 g)

as_block_spans : (n : ℕ) (w : Whole) → SpansWhole n w → SpansBlock n (as_block w).next (as_block w).block
as_block_spans n w h =
    let last = last_from_spans n h.0 w.next w.lets w.expression h.1 h.2 in
    block_of_spans n last.0 (as_last w).next (as_last w).lets (as_last w).expression last.1 last.2

in_brackets_spans : (n : ℕ) (b : S.Block) (w : Whole) → SpansWhole n w → SpansWhole n (in_brackets b w)
in_brackets_spans n (S.Last e) w h = h
in_brackets_spans n (S.Let bs e rest) w h = (n, refl, as_block_spans n w h)

-- ---- binders and patterns

binders_from : (n : ℕ) (bs : List S.Bind) → From n (n + length bs) (binders n bs)
binders_from n [] = omega arith
binders_from n (b ∷ bs) =
    let e : n + 1 + length bs ≡ n + suc (length bs) = omega arith in
    (refl, subst (λ i. From (n + 1) i (binders (n + 1) bs)) e (binders_from (n + 1) bs))

binders_some : (n : ℕ) (bs : List S.Bind) → 0 < length bs → 0 < length (binders n bs)
binders_some n [] h = h
binders_some n (b ∷ bs) h = omega arith

mutual
  pattern_spans : (s : Scope) (n : ℕ) (p : S.Pattern) → SpansPattern n (G.pattern s n p).next (G.pattern s n p).pattern
  pattern_spans s n (S.Wildcard p) = (refl, refl)
  pattern_spans s n (S.VariablePattern x p) = (refl, refl)
  pattern_spans s n (S.LiteralPattern i p) = refl
  pattern_spans s n (S.ConstructorPattern x p ps) = patterns_span s n ps

  patterns_span : (s : Scope) (n : ℕ) (ps : S.Patterns) → SpansPatterns n (G.patterns s n ps).next (patterns_of (G.patterns s n ps).patterns)
  patterns_span s n S.NoPatterns = refl
  patterns_span s n (S.MorePatterns p ps) =
      let a = G.pattern s n p in
      (a.next, pattern_spans s n p, patterns_span a.scope a.next ps)

-- ---- expressions

mutual
  whole_spans : (s : Scope) (n : ℕ) (e : S.Expression) → Q.Has e → SpansWhole n (G.whole s n e)
  whole_spans s n (S.Variable x p) h = (n, refl, refl)
  whole_spans s n (S.Literal i p) h = (n, refl, refl)
  whole_spans s n (S.Call x p ts es) h = ((G.parts s n es).next, parts_span s n es h, refl)
  whole_spans s n (S.Constructor x p es) h = ((G.parts s n es).next, parts_span s n es h, refl)
  whole_spans s n (S.Tuple p es) h = ((G.parts s n es).next, parts_span s n es h, refl)
  whole_spans s n (S.Binary o p l r) h =
      let a = as_part (G.whole s n l) in
      let b = as_part (G.whole s a.next r) in
      (b.next, lets_both n a.next b.next a.lets b.lets (as_part_spans n (G.whole s n l) (whole_spans s n l h.0)) (as_part_spans a.next (G.whole s a.next r) (whole_spans s a.next r h.1)), refl)
  whole_spans s n (S.Match d p e cs) h =
      let v = as_scrutinee (G.whole s n e) in
      (v.next, as_scrutinee_spans n (G.whole s n e) (whole_spans s n e h.0), cases_span s v.next cs h.1)
  whole_spans s n (S.If p e met unmet) h =
      let v = as_scrutinee (G.whole s n e) in
      let y = as_block (G.contents s v.next met) in
      let u = as_block (G.contents s y.next unmet) in (
        v.next,
        as_scrutinee_spans n (G.whole s n e) (whole_spans s n e h.0),
        (
          v.next,
          y.next,
          refl,
          as_block_spans v.next (G.contents s v.next met) (contents_span s v.next met h.1),
          (y.next, u.next, refl, as_block_spans y.next (G.contents s y.next unmet) (contents_span s y.next unmet h.2), refl),
        ),
      )
  whole_spans s n (S.Bracket b) h = in_brackets_spans n b (G.contents s n b) (contents_span s n b h)

  parts_span : (s : Scope) (n : ℕ) (es : S.Expressions) → Q.HaveAll es → SpansLets n (G.parts s n es).next (G.parts s n es).lets
  parts_span s n S.NoExpressions h = refl
  parts_span s n (S.MoreExpressions e es) h =
      let a = as_part (G.whole s n e) in
      let r = G.parts s a.next es in
      lets_both n a.next r.next a.lets r.lets (as_part_spans n (G.whole s n e) (whole_spans s n e h.0)) (parts_span s a.next es h.1)

  contents_span : (s : Scope) (n : ℕ) (b : S.Block) → Q.BlockHas b → SpansWhole n (G.contents s n b)
  contents_span s n (S.Last e) h = whole_spans s n e h
  contents_span s n (S.Let bs e rest) h =
      let w = G.whole s n e in
      let ns = binders w.next bs in
      let r = G.contents (with_binders s ns) (w.next + length bs) rest in
      let first = whole_spans s n e h.1 in
      let further = contents_span (with_binders s ns) (w.next + length bs) rest h.2 in (
        further.0,
        lets_both n first.0 further.0 w.lets (record { binders = ns; bound = w.expression } ∷ r.lets) first.1
            (w.next, w.next + length bs, binders_some w.next bs h.0, first.2, binders_from w.next bs, further.1),
        further.2,
      )

  cases_span : (s : Scope) (n : ℕ) (cs : S.Clauses) → Q.ClausesHave cs → SpansClauses n (G.cases s n cs).next (G.cases s n cs).clauses
  cases_span s n S.NoClauses h = refl
  cases_span s n (S.MoreClauses p b cs) h =
      let q = G.pattern s n p in
      let k = as_block (G.contents q.scope q.next b) in
      (q.next, k.next, pattern_spans s n p, as_block_spans q.next (G.contents q.scope q.next b) (contents_span q.scope q.next b h.0), cases_span s k.next cs h.1)

-- ---- functions

abbrev pub ParametersFrom : ℕ → List C.Parameter → Type 0
ParametersFrom n [] = Unit {0}
ParametersFrom n (p ∷ ps) = (p.binder.number ≡ n) × ParametersFrom (n + 1) ps

abbrev pub IsOrderedFunction : C.Function → Type 0
IsOrderedFunction f = ParametersFrom 0 f.parameters × ((m : ℕ) × SpansBlock (length f.parameters) m f.body)

parameters_from : (n : ℕ) (ps : List S.Parameter) → ParametersFrom n (parameters n ps)
parameters_from n [] = tt
parameters_from n (p ∷ ps) = (refl, parameters_from (n + 1) ps)

function_ordered : (f : S.Function) → Q.BlockHas f.body → IsOrderedFunction (G.function f)
function_ordered f h =
    let ps = parameters 0 f.parameters in
    let s = with_binders [] (map (λ (p : C.Parameter). p.binder) ps) in
    let w = G.contents s (length ps) f.body in
    (parameters_from 0 f.parameters, ((as_block w).next, as_block_spans (length ps) w (contents_span s (length ps) f.body h)))

pub core_ordered : (ds : List S.Declaration) → Every Q.DeclarationHas ds → Every IsOrderedFunction (core_form ds).functions
core_ordered [] h = tt
core_ordered (S.DataDeclaration d ∷ ds) h = core_ordered ds h.1
core_ordered (S.FunctionDeclaration f ∷ ds) h = (function_ordered f h.0, core_ordered ds h.1)
