-- What the steps of an expression give, one after another: the lets that are made, what the step gives, and the
-- arguments that wait, the last one first.
use Rattle.std.specs.Prelude.{pos, ℕ, ◌+◌, Bool, true, List, [], ◌∷◌, ◌++◌, length, map, reverse, None}
use Rattle.fip_base.specs.fip_language.declared.Place.{Place}
use Rattle.fip_base.specs.fip_language.Core as C
use Rattle.fip_base.specs.fip_language.Core.{Name}
use Rattle.fip_base.specs.fip_language.Surface as S
use Rattle.fip_base.specs.fip_language.CoreForm.{Scope, Binding, Part, Parts, whole, contents, cases, pattern, bound, part_from}
use Rattle.fip_base.specs.fip_language.CoreForm.{as_part, as_block, variable_from, if_match, binders, with_binders}
use Rattle.fip_base.specs.declared.core_form.Argument.{Argument}
use Rattle.fip_base.specs.declared.core_form.Binding as B
use Rattle.fip_base.specs.CoreView as core
use Rattle.fip_base.specs.SurfaceView.{Action, Leaves, Operates, Matches, Chooses, LetPart, Case, origin}

abbrev pub binding_of : core.BoundPart → Binding
binding_of b = record { binders = b.binders; bound = b.bound }

abbrev pub bindings : List B.Binding → List Binding
bindings bs = map (λ b. binding_of (core.binding b)) bs

-- a new binder without annotation
abbrev pub fresh : ℕ → Name → Place → C.Binder
fresh n x p = record { number = n; name = x; place = p; annotation = None }

-- an expression as a part, after these lets; is_free: no let was made for it
abbrev pub part_after : Bool → List Binding → C.Expression → ℕ → Part
part_after true ls (C.Give a) n = record { lets = ls; argument = a; next = n }
part_after is_free ls e n = bound ls e n

-- the arguments that wait
abbrev pub waiting : List Argument → List C.Argument
waiting as' = reverse (map core.argument as')

abbrev pub top_argument : List C.Argument → C.Argument
top_argument [] = C.Literal (pos 0) origin
top_argument (a ∷ as') = a

abbrev pub under_top : List C.Argument → List C.Argument
under_top [] = []
under_top (a ∷ as') = as'

pub record Stepped : Type 0 where
  pub lets : List Binding
  pub expression : C.Expression
  pub stack : List C.Argument
  pub next : ℕ

abbrev pub stepped : Scope → ℕ → Action → List C.Argument → Stepped
stepped s n (Leaves e) st =
    let w = whole s n e in
    record { lets = w.lets; expression = w.expression; stack = st; next = w.next }
stepped s n (Operates o p) st =
    record {
      lets = [];
      expression = C.Operation o p (top_argument (under_top st)) (top_argument st);
      stack = under_top (under_top st);
      next = n;
    }
stepped s n (Matches d p cs) st =
    let v = variable_from [] (top_argument st) n in
    let k = cases s v.next cs in
    record { lets = v.lets; expression = C.Match d p v.argument k.clauses; stack = under_top st; next = k.next }
stepped s n (Chooses p met unmet) st =
    let v = variable_from [] (top_argument st) n in
    let y = as_block (contents s v.next met) in
    let u = as_block (contents s y.next unmet) in
    record { lets = v.lets; expression = if_match p v.argument y.block u.block; stack = under_top st; next = u.next }

-- what a step leaves where it is made a part: the lets, and the parts that wait
abbrev pub part_left : Stepped → Parts
part_left x =
    let p = part_from x.lets x.expression x.next in
    record { lets = p.lets; arguments = p.argument ∷ x.stack; next = p.next }

abbrev pub operands_of : Action → ℕ
operands_of (Leaves e) = 0
operands_of (Operates o p) = 2
operands_of (Matches d p cs) = 1
operands_of (Chooses p met unmet) = 1

-- what a let gives: its lets, and what is in scope after it
pub record LetMade : Type 0 where
  pub lets : List Binding
  pub scope : Scope
  pub next : ℕ

abbrev pub let_made : Scope → ℕ → LetPart → LetMade
let_made s n l =
    let w = whole s n l.bound in
    let ns = binders w.next l.binds in
    record {
      lets = w.lets ++ record { binders = ns; bound = w.expression } ∷ [];
      scope = with_binders s ns;
      next = w.next + length l.binds;
    }

-- what a clause gives
pub record CaseMade : Type 0 where
  pub case : core.Case
  pub next : ℕ

abbrev pub case_made : Scope → ℕ → Case → CaseMade
case_made s n c =
    let q = pattern s n c.pattern in
    let k = as_block (contents q.scope q.next c.body) in
    record { case = record { pattern = q.pattern; body = k.block }; next = k.next }

-- the parts that wait: those of the expressions that are left, the last one first
abbrev pub waits : Scope → ℕ → List S.Expression → Parts
waits s n [] = record { lets = []; arguments = []; next = n }
waits s n (e ∷ es) =
    let b = waits s n es in
    let a = as_part (whole s b.next e) in
    record { lets = b.lets ++ a.lets; arguments = a.argument ∷ b.arguments; next = a.next }

-- clauses before others
abbrev pub clauses_before : List core.Case → C.Clauses → C.Clauses
clauses_before [] rest = rest
clauses_before (c ∷ cs) rest = C.MoreClauses c.pattern c.body (clauses_before cs rest)
