-- The core form has the literals of its source among its arguments, so theirs have 64 bits too; and its matches have
-- clauses.
use Rattle.std.proofs.Common.{ℕ, ◌+◌, List, [], ◌∷◌, ◌++◌, length, map, FitsSigned}
use Rattle.std.specs.Int.{w64}
use Rattle.in_place_safety.specs.fip_language.Core as C
use Rattle.in_place_safety.specs.fip_language.CoreForm as G
use Rattle.in_place_safety.specs.fip_language.CoreForm.{Scope, Binding, Whole, Part, block_of, bindings_in, last_in, arguments_of, made_let, bound, part_from, as_part, variable_from, as_scrutinee, last_from, as_last, as_block, in_brackets, core_form, with_binders, binders, parameters}
use Rattle.in_place_safety.specs.fip_language.Every.{Every}
use Rattle.in_place_safety.specs.fip_language.Surface as S
use Rattle.source_safety.proofs.SpeltArguments as Q

abbrev mutual
  pub FitsArgument : C.Argument → Type 0
  FitsArgument (C.Variable b x p) = Unit {0}
  FitsArgument (C.Literal i p) = FitsSigned w64 i
  FitsArgument (C.Constructor x p as') = FitArguments as'

  pub FitArguments : C.Arguments → Type 0
  FitArguments C.NoArguments = Unit {0}
  FitArguments (C.MoreArguments a as') = FitsArgument a × FitArguments as'

abbrev pub AreSome : C.Clauses → Type 0
AreSome C.NoClauses = ⊥
AreSome (C.MoreClauses q b cs) = Unit {0}

abbrev mutual
  pub Fits : C.Expression → Type 0
  Fits (C.Give a) = FitsArgument a
  Fits (C.Tuple p as') = FitArguments as'
  Fits (C.Operation o p a b) = FitsArgument a × FitsArgument b
  Fits (C.Call n p ws as') = FitArguments as'
  Fits (C.Match d p a cs) = FitsArgument a × AreSome cs × FitClauses cs
  Fits (C.Nested b) = FitsBlock b

  pub FitsBlock : C.Block → Type 0
  FitsBlock (C.Last e) = Fits e
  FitsBlock (C.Let bs e rest) = Fits e × FitsBlock rest

  pub FitClauses : C.Clauses → Type 0
  FitClauses C.NoClauses = Unit {0}
  FitClauses (C.MoreClauses q b cs) = FitsBlock b × FitClauses cs

-- ---- lets before an expression

abbrev FitsBinding : Binding → Type 0
FitsBinding l = Fits l.bound

abbrev FitLets : List Binding → Type 0
FitLets ls = Every FitsBinding ls

abbrev FitsWhole : Whole → Type 0
FitsWhole w = FitLets w.lets × Fits w.expression

abbrev FitsPart : Part → Type 0
FitsPart a = FitLets a.lets × FitsArgument a.argument

both_fit : (ls ms : List Binding) → FitLets ls → FitLets ms → FitLets (ls ++ ms)
both_fit [] ms h k = k
both_fit (l ∷ ls) ms h k = (h.0, both_fit ls ms h.1 k)

bound_fits : (ls : List Binding) (e : C.Expression) (n : ℕ) → FitLets ls → Fits e → FitsPart (bound ls e n)
bound_fits ls e n h k = (both_fit ls (made_let e n ∷ []) h (k, tt), tt)

part_fits : (ls : List Binding) (e : C.Expression) (n : ℕ) → FitLets ls → Fits e → FitsPart (part_from ls e n)
part_fits [] (C.Give a) n h k = (tt, k)
part_fits [] (C.Tuple p as') n h k = bound_fits [] (C.Tuple p as') n h k
part_fits [] (C.Operation o p a b) n h k = bound_fits [] (C.Operation o p a b) n h k
part_fits [] (C.Call x p ws as') n h k = bound_fits [] (C.Call x p ws as') n h k
part_fits [] (C.Match d p a cs) n h k = bound_fits [] (C.Match d p a cs) n h k
part_fits [] (C.Nested b) n h k = bound_fits [] (C.Nested b) n h k
part_fits (l ∷ ls) e n h k = bound_fits (l ∷ ls) e n h k

as_part_fits : (w : Whole) → FitsWhole w → FitsPart (as_part w)
as_part_fits w h = part_fits w.lets w.expression w.next h.0 h.1

variable_fits : (ls : List Binding) (a : C.Argument) (n : ℕ) → FitLets ls → FitsArgument a → FitsPart (variable_from ls a n)
variable_fits ls (C.Variable b x p) n h k = (h, tt)
variable_fits ls (C.Literal i p) n h k = bound_fits ls (C.Give (C.Literal i p)) n h k
variable_fits ls (C.Constructor x p as') n h k = bound_fits ls (C.Give (C.Constructor x p as')) n h k

as_scrutinee_fits : (w : Whole) → FitsWhole w → FitsPart (as_scrutinee w)
as_scrutinee_fits w h =
    let a = as_part_fits w h in
    variable_fits (as_part w).lets (as_part w).argument (as_part w).next a.0 a.1

bindings_fit : (b : C.Block) → FitsBlock b → FitLets (bindings_in b)
bindings_fit (C.Last e) h = tt
bindings_fit (C.Let bs e rest) h = (h.0, bindings_fit rest h.1)

last_fits : (b : C.Block) → FitsBlock b → Fits (last_in b)
last_fits (C.Last e) h = h
last_fits (C.Let bs e rest) h = last_fits rest h.1

last_from_fits : (ls : List Binding) (e : C.Expression) (n : ℕ) → FitLets ls → Fits e → FitsWhole (last_from ls e n)
last_from_fits ls (C.Operation o p a b) n h k = bound_fits ls (C.Operation o p a b) n h k
last_from_fits ls (C.Nested b) n h k = (both_fit ls (bindings_in b) h (bindings_fit b k), last_fits b k)
last_from_fits ls (C.Give a) n h k = (h, k)
last_from_fits ls (C.Tuple p as') n h k = (h, k)
last_from_fits ls (C.Call x p ws as') n h k = (h, k)
last_from_fits ls (C.Match d p a cs) n h k = (h, k)

block_of_fits : (ls : List Binding) (e : C.Expression) → FitLets ls → Fits e → FitsBlock (block_of ls e)
block_of_fits [] e h k = k
block_of_fits (l ∷ ls) e h k = (h.0, block_of_fits ls e h.1 k)

as_block_fits : (w : Whole) → FitsWhole w → FitsBlock (as_block w).block
as_block_fits w h =
    let last = last_from_fits w.lets w.expression w.next h.0 h.1 in
    block_of_fits (as_last w).lets (as_last w).expression last.0 last.1

in_brackets_fits : (b : S.Block) (w : Whole) → FitsWhole w → FitsWhole (in_brackets b w)
in_brackets_fits (S.Last e) w h = h
in_brackets_fits (S.Let bs e rest) w h = (tt, as_block_fits w h)

some_cases : (s : Scope) (n : ℕ) (cs : S.Clauses) → Q.AreSome cs → AreSome (G.cases s n cs).clauses
some_cases s n S.NoClauses h = h
some_cases s n (S.MoreClauses p b cs) h = tt

mutual
  whole_fits : (s : Scope) (n : ℕ) (e : S.Expression) → Q.Fits e → FitsWhole (G.whole s n e)
  whole_fits s n (S.Variable x p) h = (tt, tt)
  whole_fits s n (S.Literal i p) h = (tt, h)
  whole_fits s n (S.Call x p ts es) h = parts_fit s n es h
  whole_fits s n (S.Constructor x p es) h = parts_fit s n es h
  whole_fits s n (S.Tuple p es) h = parts_fit s n es h
  whole_fits s n (S.Binary o p l r) h =
      let a = as_part (G.whole s n l) in
      let b = as_part (G.whole s a.next r) in
      let left = as_part_fits (G.whole s n l) (whole_fits s n l h.0) in
      let right = as_part_fits (G.whole s a.next r) (whole_fits s a.next r h.1) in
      (both_fit a.lets b.lets left.0 right.0, (left.1, right.1))
  whole_fits s n (S.Match d p e cs) h =
      let v = as_scrutinee_fits (G.whole s n e) (whole_fits s n e h.0) in
      (v.0, (v.1, some_cases s (as_scrutinee (G.whole s n e)).next cs h.1, cases_fit s (as_scrutinee (G.whole s n e)).next cs h.2))
  whole_fits s n (S.If p e met unmet) h =
      let v = as_scrutinee (G.whole s n e) in
      let y = as_block (G.contents s v.next met) in
      let scrutinee = as_scrutinee_fits (G.whole s n e) (whole_fits s n e h.0) in
      let one = as_block_fits (G.contents s v.next met) (contents_fit s v.next met h.1) in
      let other = as_block_fits (G.contents s y.next unmet) (contents_fit s y.next unmet h.2) in
      (scrutinee.0, (scrutinee.1, tt, (one, (other, tt))))
  whole_fits s n (S.Bracket b) h = in_brackets_fits b (G.contents s n b) (contents_fit s n b h)

  parts_fit : (s : Scope) (n : ℕ) (es : S.Expressions) → Q.FitAll es → FitLets (G.parts s n es).lets × FitArguments (arguments_of (G.parts s n es).arguments)
  parts_fit s n S.NoExpressions h = (tt, tt)
  parts_fit s n (S.MoreExpressions e es) h =
      let a = as_part (G.whole s n e) in
      let first = as_part_fits (G.whole s n e) (whole_fits s n e h.0) in
      let further = parts_fit s a.next es h.1 in
      (both_fit a.lets (G.parts s a.next es).lets first.0 further.0, (first.1, further.1))

  contents_fit : (s : Scope) (n : ℕ) (b : S.Block) → Q.FitsBlock b → FitsWhole (G.contents s n b)
  contents_fit s n (S.Last e) h = whole_fits s n e h
  contents_fit s n (S.Let bs e rest) h =
      let w = G.whole s n e in
      let ns = binders w.next bs in
      let r = G.contents (with_binders s ns) (w.next + length bs) rest in
      let first = whole_fits s n e h.0 in
      let further = contents_fit (with_binders s ns) (w.next + length bs) rest h.1 in
      (both_fit w.lets (record { binders = ns; bound = w.expression } ∷ r.lets) first.0 (first.1, further.0), further.1)

  cases_fit : (s : Scope) (n : ℕ) (cs : S.Clauses) → Q.FitClauses cs → FitClauses (G.cases s n cs).clauses
  cases_fit s n S.NoClauses h = tt
  cases_fit s n (S.MoreClauses p b cs) h =
      let q = G.pattern s n p in
      let k = as_block (G.contents q.scope q.next b) in
      (as_block_fits (G.contents q.scope q.next b) (contents_fit q.scope q.next b h.0), cases_fit s k.next cs h.1)

abbrev pub CoreFits : C.Core → Type 0
CoreFits core = Every (λ (f : C.Function). FitsBlock f.body) core.functions

function_fits : (f : S.Function) → Q.FitsBlock f.body → FitsBlock (G.function f).body
function_fits f h =
    as_block_fits (G.contents (with_binders [] (map (λ (p : C.Parameter). p.binder) (parameters 0 f.parameters))) (length (parameters 0 f.parameters)) f.body)
    (contents_fit (with_binders [] (map (λ (p : C.Parameter). p.binder) (parameters 0 f.parameters))) (length (parameters 0 f.parameters)) f.body h)

pub core_fits : (ds : List S.Declaration) → Every Q.FitsDeclaration ds → CoreFits (core_form ds)
core_fits [] h = tt
core_fits (S.DataDeclaration d ∷ ds) h = core_fits ds h.1
core_fits (S.FunctionDeclaration f ∷ ds) h = (function_fits f h.0, core_fits ds h.1)
