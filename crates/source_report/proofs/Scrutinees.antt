-- The scrutinees of a core form are variables, and so are those of its instances, typed or not.
use Rattle.std.proofs.Common.{ℕ, ◌+◌, List, [], ◌∷◌, ◌++◌, length, map}
use Rattle.cell_lower.specs.fip_language.Core as C
use Rattle.cell_lower.specs.fip_language.CoreForm as G
use Rattle.cell_lower.specs.fip_language.CoreForm.{Scope, Binding, Whole, Part, block_of, bindings_in, last_in, made_let, bound, part_from, as_part, variable_from, as_scrutinee, last_from, as_last, as_block, in_brackets, core_form, with_binders, binders, parameters}
use Rattle.cell_lower.specs.fip_language.Every.{Every}
use Rattle.cell_lower.specs.fip_language.Surface as S

-- an argument that is a variable
abbrev pub IsVariable : C.Argument → Type 0
IsVariable (C.Variable b x p) = Unit {0}
IsVariable (C.Literal i p) = ⊥
IsVariable (C.Constructor x p as') = ⊥

abbrev mutual
  pub Asks : C.Expression → Type 0
  Asks (C.Give a) = Unit {0}
  Asks (C.Tuple p as') = Unit {0}
  Asks (C.Operation o p a b) = Unit {0}
  Asks (C.Call n p ws as') = Unit {0}
  Asks (C.Match d p a cs) = IsVariable a × AskClauses cs
  Asks (C.Nested b) = AsksBlock b

  pub AsksBlock : C.Block → Type 0
  AsksBlock (C.Last e) = Asks e
  AsksBlock (C.Let bs e rest) = Asks e × AsksBlock rest

  pub AskClauses : C.Clauses → Type 0
  AskClauses C.NoClauses = Unit {0}
  AskClauses (C.MoreClauses q b cs) = AsksBlock b × AskClauses cs

abbrev AskLets : List Binding → Type 0
AskLets ls = Every (λ (l : Binding). Asks l.bound) ls

abbrev AsksWhole : Whole → Type 0
AsksWhole w = AskLets w.lets × Asks w.expression

both_ask : (ls ms : List Binding) → AskLets ls → AskLets ms → AskLets (ls ++ ms)
both_ask [] ms h k = k
both_ask (l ∷ ls) ms h k = (h.0, both_ask ls ms h.1 k)

bound_asks : (ls : List Binding) (e : C.Expression) (n : ℕ) → AskLets ls → Asks e → AskLets (bound ls e n).lets
bound_asks ls e n h k = both_ask ls (made_let e n ∷ []) h (k, tt)

part_asks : (ls : List Binding) (e : C.Expression) (n : ℕ) → AskLets ls → Asks e → AskLets (part_from ls e n).lets
part_asks [] (C.Give a) n h k = tt
part_asks [] (C.Tuple p as') n h k = bound_asks [] (C.Tuple p as') n h k
part_asks [] (C.Operation o p a b) n h k = bound_asks [] (C.Operation o p a b) n h k
part_asks [] (C.Call x p ws as') n h k = bound_asks [] (C.Call x p ws as') n h k
part_asks [] (C.Match d p a cs) n h k = bound_asks [] (C.Match d p a cs) n h k
part_asks [] (C.Nested b) n h k = bound_asks [] (C.Nested b) n h k
part_asks (l ∷ ls) e n h k = bound_asks (l ∷ ls) e n h k

as_part_asks : (w : Whole) → AsksWhole w → AskLets (as_part w).lets
as_part_asks w h = part_asks w.lets w.expression w.next h.0 h.1

variable_asks : (ls : List Binding) (a : C.Argument) (n : ℕ) → AskLets ls → AskLets (variable_from ls a n).lets × IsVariable (variable_from ls a n).argument
variable_asks ls (C.Variable b x p) n h = (h, tt)
variable_asks ls (C.Literal i p) n h = (bound_asks ls (C.Give (C.Literal i p)) n h tt, tt)
variable_asks ls (C.Constructor x p as') n h = (bound_asks ls (C.Give (C.Constructor x p as')) n h tt, tt)

as_scrutinee_asks : (w : Whole) → AsksWhole w → AskLets (as_scrutinee w).lets × IsVariable (as_scrutinee w).argument
as_scrutinee_asks w h = variable_asks (as_part w).lets (as_part w).argument (as_part w).next (as_part_asks w h)

bindings_ask : (b : C.Block) → AsksBlock b → AskLets (bindings_in b)
bindings_ask (C.Last e) h = tt
bindings_ask (C.Let bs e rest) h = (h.0, bindings_ask rest h.1)

last_asks : (b : C.Block) → AsksBlock b → Asks (last_in b)
last_asks (C.Last e) h = h
last_asks (C.Let bs e rest) h = last_asks rest h.1

last_from_asks : (ls : List Binding) (e : C.Expression) (n : ℕ) → AskLets ls → Asks e → AsksWhole (last_from ls e n)
last_from_asks ls (C.Operation o p a b) n h k = (bound_asks ls (C.Operation o p a b) n h k, tt)
last_from_asks ls (C.Nested b) n h k = (both_ask ls (bindings_in b) h (bindings_ask b k), last_asks b k)
last_from_asks ls (C.Give a) n h k = (h, k)
last_from_asks ls (C.Tuple p as') n h k = (h, k)
last_from_asks ls (C.Call x p ws as') n h k = (h, k)
last_from_asks ls (C.Match d p a cs) n h k = (h, k)

block_of_asks : (ls : List Binding) (e : C.Expression) → AskLets ls → Asks e → AsksBlock (block_of ls e)
block_of_asks [] e h k = k
block_of_asks (l ∷ ls) e h k = (h.0, block_of_asks ls e h.1 k)

as_block_asks : (w : Whole) → AsksWhole w → AsksBlock (as_block w).block
as_block_asks w h =
    let last = last_from_asks w.lets w.expression w.next h.0 h.1 in
    block_of_asks (as_last w).lets (as_last w).expression last.0 last.1

in_brackets_asks : (b : S.Block) (w : Whole) → AsksWhole w → AsksWhole (in_brackets b w)
in_brackets_asks (S.Last e) w h = h
in_brackets_asks (S.Let bs e rest) w h = (tt, as_block_asks w h)

mutual
  whole_asks : (s : Scope) (n : ℕ) (e : S.Expression) → AsksWhole (G.whole s n e)
  whole_asks s n (S.Variable x p) = (tt, tt)
  whole_asks s n (S.Literal i p) = (tt, tt)
  whole_asks s n (S.Call x p ts es) = (parts_ask s n es, tt)
  whole_asks s n (S.Constructor x p es) = (parts_ask s n es, tt)
  whole_asks s n (S.Tuple p es) = (parts_ask s n es, tt)
  whole_asks s n (S.Binary o p l r) =
      let a = as_part (G.whole s n l) in
      let b = as_part (G.whole s a.next r) in
      (both_ask a.lets b.lets (as_part_asks (G.whole s n l) (whole_asks s n l)) (as_part_asks (G.whole s a.next r) (whole_asks s a.next r)), tt)
  whole_asks s n (S.Match d p e cs) =
      let v = as_scrutinee_asks (G.whole s n e) (whole_asks s n e) in
      (v.0, (v.1, cases_ask s (as_scrutinee (G.whole s n e)).next cs))
  whole_asks s n (S.If p e met unmet) =
      let v = as_scrutinee (G.whole s n e) in
      let h = as_scrutinee_asks (G.whole s n e) (whole_asks s n e) in
      let y = as_block (G.contents s v.next met) in
      (h.0, (h.1, (as_block_asks (G.contents s v.next met) (contents_ask s v.next met), (as_block_asks (G.contents s y.next unmet) (contents_ask s y.next unmet), tt))))
  whole_asks s n (S.Bracket b) = in_brackets_asks b (G.contents s n b) (contents_ask s n b)

  parts_ask : (s : Scope) (n : ℕ) (es : S.Expressions) → AskLets (G.parts s n es).lets
  parts_ask s n S.NoExpressions = tt
  parts_ask s n (S.MoreExpressions e es) =
      let a = as_part (G.whole s n e) in
      both_ask a.lets (G.parts s a.next es).lets (as_part_asks (G.whole s n e) (whole_asks s n e)) (parts_ask s a.next es)

  contents_ask : (s : Scope) (n : ℕ) (b : S.Block) → AsksWhole (G.contents s n b)
  contents_ask s n (S.Last e) = whole_asks s n e
  contents_ask s n (S.Let bs e rest) =
      let w = G.whole s n e in
      let ns = binders w.next bs in
      let r = G.contents (with_binders s ns) (w.next + length bs) rest in
      let first = whole_asks s n e in
      let further = contents_ask (with_binders s ns) (w.next + length bs) rest in
      (both_ask w.lets (record { binders = ns; bound = w.expression } ∷ r.lets) first.0 (first.1, further.0), further.1)

  cases_ask : (s : Scope) (n : ℕ) (cs : S.Clauses) → AskClauses (G.cases s n cs).clauses
  cases_ask s n S.NoClauses = tt
  cases_ask s n (S.MoreClauses p b cs) =
      let q = G.pattern s n p in
      let k = as_block (G.contents q.scope q.next b) in
      (as_block_asks (G.contents q.scope q.next b) (contents_ask q.scope q.next b), cases_ask s k.next cs)

function_asks : (f : S.Function) → AsksBlock (G.function f).body
function_asks f =
    as_block_asks (G.contents (with_binders [] (map (λ (p : C.Parameter). p.binder) (parameters 0 f.parameters))) (length (parameters 0 f.parameters)) f.body)
    (contents_ask (with_binders [] (map (λ (p : C.Parameter). p.binder) (parameters 0 f.parameters))) (length (parameters 0 f.parameters)) f.body)

pub core_asks : (ds : List S.Declaration) → Every (λ (f : C.Function). AsksBlock f.body) (core_form ds).functions
core_asks [] = tt
core_asks (S.DataDeclaration d ∷ ds) = core_asks ds
core_asks (S.FunctionDeclaration f ∷ ds) = (function_asks f, core_asks ds)
