-- Each match of a core form has a clause, as each match of its source has; an `if` has two.
use Rattle.std.proofs.Common.{ℕ, ◌+◌, List, [], ◌∷◌, ◌++◌, length, map}
use Rattle.source_report.specs.fip_language.Core as C
use Rattle.source_report.specs.fip_language.CoreForm as G
use Rattle.source_report.specs.fip_language.CoreForm.{Scope, Binding, Whole, Part, Parts, Blocked, Cases, block_of, bindings_in, last_in, made_let, bound, part_from, as_part, variable_from, as_scrutinee, last_from, as_last, as_block, in_brackets, patterns_of, if_match, core_form, with_binders, binders, parameters}
use Rattle.source_report.specs.fip_language.Every.{Every}
use Rattle.source_report.specs.fip_language.Surface as S
use Rattle.specialisation_correctness.specs.Declared.{AreSome, HasClauses, BlockHasClauses, ClausesHaveClauses, BodyHasClauses}
use Rattle.specialisation_correctness.proofs.SpeltClauses as Q

-- ---- lets before an expression

abbrev BindingHas : Binding → Type 0
BindingHas l = HasClauses l.bound

abbrev LetsHave : List Binding → Type 0
LetsHave ls = Every BindingHas ls

abbrev WholeHas : Whole → Type 0
WholeHas w = LetsHave w.lets × HasClauses w.expression

both_have : (ls ms : List Binding) → LetsHave ls → LetsHave ms → LetsHave (ls ++ ms)
both_have [] ms h k = k
both_have (l ∷ ls) ms h k = (h.0, both_have ls ms h.1 k)

bound_has : (ls : List Binding) (e : C.Expression) (n : ℕ) → LetsHave ls → HasClauses e → LetsHave (bound ls e n).lets
bound_has ls e n h k = both_have ls (made_let e n ∷ []) h (k, tt)

part_has : (ls : List Binding) (e : C.Expression) (n : ℕ) → LetsHave ls → HasClauses e → LetsHave (part_from ls e n).lets
part_has [] (C.Give a) n h k = tt
part_has [] (C.Tuple p as') n h k = bound_has [] (C.Tuple p as') n h k
part_has [] (C.Operation o p a b) n h k = bound_has [] (C.Operation o p a b) n h k
part_has [] (C.Call x p ws as') n h k = bound_has [] (C.Call x p ws as') n h k
part_has [] (C.Match d p a cs) n h k = bound_has [] (C.Match d p a cs) n h k
part_has [] (C.Nested b) n h k = bound_has [] (C.Nested b) n h k
part_has (l ∷ ls) e n h k = bound_has (l ∷ ls) e n h k

as_part_has : (w : Whole) → WholeHas w → LetsHave (as_part w).lets
as_part_has w h = part_has w.lets w.expression w.next h.0 h.1

variable_has : (ls : List Binding) (a : C.Argument) (n : ℕ) → LetsHave ls → LetsHave (variable_from ls a n).lets
variable_has ls (C.Variable b x p) n h = h
variable_has ls (C.Literal i p) n h = bound_has ls (C.Give (C.Literal i p)) n h tt
variable_has ls (C.Constructor x p as') n h = bound_has ls (C.Give (C.Constructor x p as')) n h tt

as_scrutinee_has : (w : Whole) → WholeHas w → LetsHave (as_scrutinee w).lets
as_scrutinee_has w h = variable_has (as_part w).lets (as_part w).argument (as_part w).next (as_part_has w h)

bindings_have : (b : C.Block) → BlockHasClauses b → LetsHave (bindings_in b)
bindings_have (C.Last e) h = tt
bindings_have (C.Let bs e rest) h = (h.0, bindings_have rest h.1)

last_has : (b : C.Block) → BlockHasClauses b → HasClauses (last_in b)
last_has (C.Last e) h = h
last_has (C.Let bs e rest) h = last_has rest h.1

last_from_has : (ls : List Binding) (e : C.Expression) (n : ℕ) → LetsHave ls → HasClauses e → WholeHas (last_from ls e n)
last_from_has ls (C.Operation o p a b) n h k = (bound_has ls (C.Operation o p a b) n h k, tt)
last_from_has ls (C.Nested b) n h k = (both_have ls (bindings_in b) h (bindings_have b k), last_has b k)
last_from_has ls (C.Give a) n h k = (h, k)
last_from_has ls (C.Tuple p as') n h k = (h, k)
last_from_has ls (C.Call x p ws as') n h k = (h, k)
last_from_has ls (C.Match d p a cs) n h k = (h, k)

block_of_has : (ls : List Binding) (e : C.Expression) → LetsHave ls → HasClauses e → BlockHasClauses (block_of ls e)
block_of_has [] e h k = k
block_of_has (l ∷ ls) e h k = (h.0, block_of_has ls e h.1 k)

as_block_has : (w : Whole) → WholeHas w → BlockHasClauses (as_block w).block
as_block_has w h =
    let last = last_from_has w.lets w.expression w.next h.0 h.1 in
    block_of_has (as_last w).lets (as_last w).expression last.0 last.1

in_brackets_has : (b : S.Block) (w : Whole) → WholeHas w → WholeHas (in_brackets b w)
in_brackets_has (S.Last e) w h = h
in_brackets_has (S.Let bs e rest) w h = (tt, as_block_has w h)

some_cases : (s : Scope) (n : ℕ) (cs : S.Clauses) → Q.AreSome cs → AreSome (G.cases s n cs).clauses
some_cases s n S.NoClauses h = absurd h
some_cases s n (S.MoreClauses p b cs) h = tt

mutual
  whole_has : (s : Scope) (n : ℕ) (e : S.Expression) → Q.Has e → WholeHas (G.whole s n e)
  whole_has s n (S.Variable x p) h = (tt, tt)
  whole_has s n (S.Literal i p) h = (tt, tt)
  whole_has s n (S.Call x p ts es) h = (parts_have s n es h, tt)
  whole_has s n (S.Constructor x p es) h = (parts_have s n es h, tt)
  whole_has s n (S.Tuple p es) h = (parts_have s n es h, tt)
  whole_has s n (S.Binary o p l r) h =
      let a = as_part (G.whole s n l) in
      let b = as_part (G.whole s a.next r) in
      (both_have a.lets b.lets (as_part_has (G.whole s n l) (whole_has s n l h.0)) (as_part_has (G.whole s a.next r) (whole_has s a.next r h.1)), tt)
  whole_has s n (S.Match d p e cs) h =
      (as_scrutinee_has (G.whole s n e) (whole_has s n e h.0), (some_cases s (as_scrutinee (G.whole s n e)).next cs h.1, cases_have s (as_scrutinee (G.whole s n e)).next cs h.2))
  whole_has s n (S.If p e met unmet) h =
      let v = as_scrutinee (G.whole s n e) in
      let y = as_block (G.contents s v.next met) in (
        as_scrutinee_has (G.whole s n e) (whole_has s n e h.0),
        (tt, (as_block_has (G.contents s v.next met) (contents_have s v.next met h.1), (as_block_has (G.contents s y.next unmet) (contents_have s y.next unmet h.2), tt))),
      )
  whole_has s n (S.Bracket b) h = in_brackets_has b (G.contents s n b) (contents_have s n b h)

  parts_have : (s : Scope) (n : ℕ) (es : S.Expressions) → Q.HaveAll es → LetsHave (G.parts s n es).lets
  parts_have s n S.NoExpressions h = tt
  parts_have s n (S.MoreExpressions e es) h =
      let a = as_part (G.whole s n e) in
      both_have a.lets (G.parts s a.next es).lets (as_part_has (G.whole s n e) (whole_has s n e h.0)) (parts_have s a.next es h.1)

  contents_have : (s : Scope) (n : ℕ) (b : S.Block) → Q.BlockHas b → WholeHas (G.contents s n b)
  contents_have s n (S.Last e) h = whole_has s n e h
  contents_have s n (S.Let bs e rest) h =
      let w = G.whole s n e in
      let ns = binders w.next bs in
      let r = G.contents (with_binders s ns) (w.next + length bs) rest in
      let first = whole_has s n e h.0 in
      let further = contents_have (with_binders s ns) (w.next + length bs) rest h.1 in
      (both_have w.lets (record { binders = ns; bound = w.expression } ∷ r.lets) first.0 (first.1, further.0), further.1)

  cases_have : (s : Scope) (n : ℕ) (cs : S.Clauses) → Q.ClausesHave cs → ClausesHaveClauses (G.cases s n cs).clauses
  cases_have s n S.NoClauses h = tt
  cases_have s n (S.MoreClauses p b cs) h =
      let q = G.pattern s n p in
      let k = as_block (G.contents q.scope q.next b) in
      (as_block_has (G.contents q.scope q.next b) (contents_have q.scope q.next b h.0), cases_have s k.next cs h.1)

function_has : (f : S.Function) → Q.BlockHas f.body → BlockHasClauses (G.function f).body
function_has f h =
    as_block_has (G.contents (with_binders [] (map (λ (p : C.Parameter). p.binder) (parameters 0 f.parameters))) (length (parameters 0 f.parameters)) f.body)
    (contents_have (with_binders [] (map (λ (p : C.Parameter). p.binder) (parameters 0 f.parameters))) (length (parameters 0 f.parameters)) f.body h)

pub core_has : (ds : List S.Declaration) → Every Q.DeclarationHas ds → Every BodyHasClauses (core_form ds).functions
core_has [] h = tt
core_has (S.DataDeclaration d ∷ ds) h = core_has ds h.1
core_has (S.FunctionDeclaration f ∷ ds) h = (function_has f h.0, core_has ds h.1)
