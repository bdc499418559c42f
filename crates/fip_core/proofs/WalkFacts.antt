-- What a walk over the steps of an expression gives, against the core form of the expression that they stand for.
use Rattle.std.proofs.Common.{◌≡◌, ℕ, zero, suc, ◌+◌, ◌≤◌, ◌<◌, Bool, true, false, cond, List, [], ◌∷◌, ◌++◌, length, map, take, Some, None, refl, sym, ap, ◌∙◌, arith, zero-add, length-take}
use Rattle.std.specs.Prelude.{reverse, pos, codes, ◌==◌}
use Rattle.std.specs.Str.{bytes_eq}
use Rattle.std.specs.declared.vec.IntoIter.{IntoIter}
use Rattle.std.specs.Vec.Iter.{into_iter_items, into_iter_len}
use Rattle.std.proofs.lemmas.List.{append_assoc, append-nil, reverse-append, take-append-le, take_all, map-append, length-map}
use Rattle.fip_base.specs.fip_language.declared.Place.{Place}
use Rattle.fip_base.specs.fip_language.declared.Operator.{Operator}
use Rattle.fip_base.specs.fip_language.Core as C
use Rattle.fip_base.specs.fip_language.Surface as S
use Rattle.fip_base.specs.fip_language.CoreForm as form
use Rattle.fip_base.specs.fip_language.CoreForm.{Scope, Binding, Whole, Part, Parts}
use Rattle.fip_base.specs.CoreView as core
use Rattle.fip_core.proofs.CoreFacts.{clauses_push}
use Rattle.fip_base.proofs.SurfaceLayers.{expression_view, left_by_push}
use Rattle.fip_base.specs.declared.surface.Expression.{Expression, out-Expression}
use Rattle.fip_base.specs.declared.surface.Step.{Step}
use Rattle.fip_base.specs.declared.surface.Parameter as Q
use Rattle.fip_base.specs.SurfaceView as surface
use Rattle.fip_base.specs.SurfaceView.{Action, Leaves, Operates, Matches, Chooses, LetPart, Case, acted, kept, left_by, one_of, expressions_of, origin}
use Rattle.fip_core.specs.Walk.{top_argument, stepped, Stepped, part_left, waits, operands_of, let_made, case_made, clauses_before}

-- after lets

variable_after-argument : (ls : List Binding) (a : C.Argument) (n : ℕ) → (form.variable_from ls a n).argument ≡ (form.variable_from [] a n).argument
variable_after-argument ls (C.Variable b x p) n = refl
variable_after-argument ls (C.Literal i p) n = refl
variable_after-argument ls (C.Constructor x p as') n = refl

variable_after-next : (ls : List Binding) (a : C.Argument) (n : ℕ) → (form.variable_from ls a n).next ≡ (form.variable_from [] a n).next
variable_after-next ls (C.Variable b x p) n = refl
variable_after-next ls (C.Literal i p) n = refl
variable_after-next ls (C.Constructor x p as') n = refl

variable_after-lets : (ls : List Binding) (a : C.Argument) (n : ℕ) → (form.variable_from ls a n).lets ≡ ls ++ (form.variable_from [] a n).lets
variable_after-lets ls (C.Variable b x p) n = sym (append-nil ls)
variable_after-lets ls (C.Literal i p) n = refl
variable_after-lets ls (C.Constructor x p as') n = refl

-- one step more

part_from_operation : (ls : List Binding) (o : Operator) (p : Place) (a b : C.Argument) (n : ℕ) → form.part_from ls (C.Operation o p a b) n ≡ form.bound ls (C.Operation o p a b) n
part_from_operation [] o p a b n = refl
part_from_operation (l ∷ ls) o p a b n = refl

part_from_match : (ls : List Binding) (d : Bool) (p : Place) (a : C.Argument) (cs : C.Clauses) (n : ℕ) → form.part_from ls (C.Match d p a cs) n ≡ form.bound ls (C.Match d p a cs) n
part_from_match [] d p a cs n = refl
part_from_match (l ∷ ls) d p a cs n = refl

-- a match whose scrutinee is made a variable, after the lets of the scrutinee or not: f is the match, g the next number
record Scrutinised (f : C.Argument → ℕ → C.Expression) (g : ℕ → ℕ) (ks ls : List Binding) (v w : Part) : Type 0 where
  lets : ks ++ v.lets ≡ (ks ++ ls) ++ w.lets
  expression : f v.argument v.next ≡ f w.argument w.next
  next : g v.next ≡ g w.next
  part_lets : ks ++ (form.part_from v.lets (f v.argument v.next) (g v.next)).lets ≡ (ks ++ ls) ++ (form.part_from w.lets (f w.argument w.next) (g w.next)).lets
  part_argument : (form.part_from v.lets (f v.argument v.next) (g v.next)).argument ≡ (form.part_from w.lets (f w.argument w.next) (g w.next)).argument
  part_next : (form.part_from v.lets (f v.argument v.next) (g v.next)).next ≡ (form.part_from w.lets (f w.argument w.next) (g w.next)).next

scrutinised : (f : C.Argument → ℕ → C.Expression) (g : ℕ → ℕ) → ((ls : List Binding) (a : C.Argument) (m n : ℕ) → form.part_from ls (f a m) n ≡ form.bound ls (f a m) n) → (ks ls : List Binding) (a : C.Argument) (n : ℕ) → Scrutinised f g ks ls (form.variable_from ls a n) (form.variable_from [] a n)
scrutinised f g is_bound ks ls a n =
    let v = form.variable_from ls a n in
    let w = form.variable_from [] a n in
    let e1 : ks ++ v.lets ≡ (ks ++ ls) ++ w.lets = ap (λ y. ks ++ y) (variable_after-lets ls a n) ∙ sym (append_assoc ks ls w.lets) in
    let e2 : f v.argument v.next ≡ f w.argument w.next =
    ap (λ y. f y v.next) (variable_after-argument ls a n) ∙ ap (λ m. f w.argument m) (variable_after-next ls a n) in
    let e3 : g v.next ≡ g w.next = ap g (variable_after-next ls a n) in
    record {
      lets = e1;
      expression = e2;
      next = e3;
      part_lets =
          ap (λ y. ks ++ y.lets) (is_bound v.lets v.argument v.next (g v.next))
          ∙ sym (append_assoc ks v.lets (form.made_let (f v.argument v.next) (g v.next) ∷ []))
          ∙ ap (λ y. y ++ form.made_let (f v.argument v.next) (g v.next) ∷ []) e1
          ∙ ap (λ y. ((ks ++ ls) ++ w.lets) ++ form.made_let y (g v.next) ∷ []) e2
          ∙ ap (λ y. ((ks ++ ls) ++ w.lets) ++ form.made_let (f w.argument w.next) y ∷ []) e3
          ∙ append_assoc (ks ++ ls) w.lets (form.made_let (f w.argument w.next) (g w.next) ∷ [])
          ∙ ap (λ y. (ks ++ ls) ++ y.lets) (sym (is_bound w.lets w.argument w.next (g w.next)));
      part_argument =
          ap (λ y. y.argument) (is_bound v.lets v.argument v.next (g v.next))
          ∙ ap (λ y. C.Variable (Some y) form.underscore (form.place_of (f v.argument v.next))) e3
          ∙ ap (λ y. C.Variable (Some (g w.next)) form.underscore (form.place_of y)) e2
          ∙ ap (λ y. y.argument) (sym (is_bound w.lets w.argument w.next (g w.next)));
      part_next =
          ap (λ y. y.next) (is_bound v.lets v.argument v.next (g v.next))
          ∙ ap (λ y. y + 1) e3
          ∙ ap (λ y. y.next) (sym (is_bound w.lets w.argument w.next (g w.next)));
    }

abbrev if_clauses : Place → C.Block → C.Block → C.Clauses
if_clauses p met unmet =
    C.MoreClauses (C.ConstructorPattern (codes "True") p C.NoPatterns) met
    (C.MoreClauses (C.ConstructorPattern (codes "False") p C.NoPatterns) unmet C.NoClauses)

abbrev chosen : Scope → Place → S.Block → S.Block → C.Argument → ℕ → C.Expression
chosen s p met unmet a n =
    let y = form.as_block (form.contents s n met) in
    form.if_match p a y.block (form.as_block (form.contents s y.next unmet)).block

abbrev chosen_next : Scope → S.Block → S.Block → ℕ → ℕ
chosen_next s met unmet n =
    let y = form.as_block (form.contents s n met) in
    (form.as_block (form.contents s y.next unmet)).next

-- The step that follows these expressions, reported by the parts that wait: what stays waiting, and what the step's
-- expression gives, both as an expression and as a part.
pub record Follows (s : Scope) (n : ℕ) (a : Action) (es : List S.Expression) : Type 0 where
  pub lets : (waits s n (kept a es)).lets ++ (form.whole s (waits s n (kept a es)).next (acted a es)).lets ≡ (waits s n es).lets ++ (stepped s (waits s n es).next a (waits s n es).arguments).lets
  pub expression : (form.whole s (waits s n (kept a es)).next (acted a es)).expression ≡ (stepped s (waits s n es).next a (waits s n es).arguments).expression
  pub next : (form.whole s (waits s n (kept a es)).next (acted a es)).next ≡ (stepped s (waits s n es).next a (waits s n es).arguments).next
  pub stack : (waits s n (kept a es)).arguments ≡ (stepped s (waits s n es).next a (waits s n es).arguments).stack
  pub part_lets : (waits s n (acted a es ∷ kept a es)).lets ≡ (waits s n es).lets ++ (part_left (stepped s (waits s n es).next a (waits s n es).arguments)).lets
  pub part_arguments : (waits s n (acted a es ∷ kept a es)).arguments ≡ (part_left (stepped s (waits s n es).next a (waits s n es).arguments)).arguments
  pub part_next : (waits s n (acted a es ∷ kept a es)).next ≡ (part_left (stepped s (waits s n es).next a (waits s n es).arguments)).next

pub follows : (s : Scope) (n : ℕ) (a : Action) (es : List S.Expression) → Follows s n a es
follows s n (Leaves e) es = record {
  lets = refl;
  expression = refl;
  next = refl;
  stack = refl;
  part_lets = refl;
  part_arguments = refl;
  part_next = refl;
}
follows s n (Operates o p) [] = record {
  lets = refl;
  expression = refl;
  next = refl;
  stack = refl;
  part_lets = refl;
  part_arguments = refl;
  part_next = refl;
}
follows s n (Operates o p) (r ∷ []) =
    let b = form.as_part (form.whole s n r) in
    let q = part_from_operation b.lets o p (C.Literal (pos 0) origin) b.argument b.next in
    record {
      lets = sym (append-nil b.lets);
      expression = refl;
      next = refl;
      stack = refl;
      part_lets = ap (λ y. y.lets) q;
      part_arguments = ap (λ y. y.argument ∷ []) q;
      part_next = ap (λ y. y.next) q;
    }
follows s n (Operates o p) (r ∷ l ∷ es) =
    let k = waits s n es in
    let a = form.as_part (form.whole s k.next l) in
    let b = form.as_part (form.whole s a.next r) in
    let q = part_from_operation (a.lets ++ b.lets) o p a.argument b.argument b.next in
    let m = form.made_let (C.Operation o p a.argument b.argument) b.next in
    record {
      lets = sym (append_assoc k.lets a.lets b.lets) ∙ sym (append-nil ((k.lets ++ a.lets) ++ b.lets));
      expression = refl;
      next = refl;
      stack = refl;
      part_lets =
          ap (λ y. k.lets ++ y.lets) q
          ∙ sym (append_assoc k.lets (a.lets ++ b.lets) (m ∷ []))
          ∙ ap (λ y. y ++ m ∷ []) (sym (append_assoc k.lets a.lets b.lets));
      part_arguments = ap (λ y. y.argument ∷ k.arguments) q;
      part_next = ap (λ y. y.next) q;
    }
follows s n (Matches d p cs) [] = record {
  lets = refl;
  expression = refl;
  next = refl;
  stack = refl;
  part_lets = refl;
  part_arguments = refl;
  part_next = refl;
}
follows s n (Matches d p cs) (e ∷ es) =
    let k = waits s n es in
    let a = form.as_part (form.whole s k.next e) in
    let r =
    scrutinised (λ v m. C.Match d p v (form.cases s m cs).clauses) (λ m. (form.cases s m cs).next)
    (λ ls v m o. part_from_match ls d p v (form.cases s m cs).clauses o) k.lets a.lets a.argument a.next in
    record {
      lets = r.lets;
      expression = r.expression;
      next = r.next;
      stack = refl;
      part_lets = r.part_lets;
      part_arguments = ap (λ y. y ∷ k.arguments) r.part_argument;
      part_next = r.part_next;
    }
follows s n (Chooses p met unmet) [] = record {
  lets = refl;
  expression = refl;
  next = refl;
  stack = refl;
  part_lets = refl;
  part_arguments = refl;
  part_next = refl;
}
follows s n (Chooses p met unmet) (e ∷ es) =
    let k = waits s n es in
    let a = form.as_part (form.whole s k.next e) in
    let r =
    scrutinised (chosen s p met unmet) (chosen_next s met unmet)
    (λ ls v m o. part_from_match ls false p v
    (if_clauses p (form.as_block (form.contents s m met)).block
    (form.as_block (form.contents s (form.as_block (form.contents s m met)).next unmet)).block)
    o)
    k.lets a.lets a.argument a.next in
    record {
      lets = r.lets;
      expression = r.expression;
      next = r.next;
      stack = refl;
      part_lets = r.part_lets;
      part_arguments = ap (λ y. y ∷ k.arguments) r.part_argument;
      part_next = r.part_next;
    }

pub waits_length : (s : Scope) (n : ℕ) (es : List S.Expression) → length (waits s n es).arguments ≡ length es
waits_length s n [] = refl
waits_length s n (e ∷ es) = ap suc (waits_length s n es)

-- the last step

kept_none : (a : Action) (es : List S.Expression) → length es ≤ operands_of a → kept a es ≡ []
kept_none (Leaves e) [] h = refl
kept_none (Leaves e) (x ∷ es) h = absurd (omega arith)
kept_none (Operates o p) [] h = refl
kept_none (Operates o p) (x ∷ []) h = refl
kept_none (Operates o p) (x ∷ y ∷ []) h = refl
kept_none (Operates o p) (x ∷ y ∷ z ∷ es) h = absurd (omega arith)
kept_none (Matches d p cs) [] h = refl
kept_none (Matches d p cs) (x ∷ []) h = refl
kept_none (Matches d p cs) (x ∷ y ∷ es) h = absurd (omega arith)
kept_none (Chooses p met unmet) [] h = refl
kept_none (Chooses p met unmet) (x ∷ []) h = refl
kept_none (Chooses p met unmet) (x ∷ y ∷ es) h = absurd (omega arith)

kept_some : (a : Action) (es : List S.Expression) → operands_of a < length es → (f : S.Expression) × (fs : List S.Expression) × (kept a es ≡ f ∷ fs)
kept_some (Leaves e) [] h = absurd (omega arith)
kept_some (Leaves e) (x ∷ es) h = (x, es, refl)
kept_some (Operates o p) [] h = absurd (omega arith)
kept_some (Operates o p) (x ∷ []) h = absurd (omega arith)
kept_some (Operates o p) (x ∷ y ∷ []) h = absurd (omega arith)
kept_some (Operates o p) (x ∷ y ∷ z ∷ es) h = (z, es, refl)
kept_some (Matches d p cs) [] h = absurd (omega arith)
kept_some (Matches d p cs) (x ∷ []) h = absurd (omega arith)
kept_some (Matches d p cs) (x ∷ y ∷ es) h = (y, es, refl)
kept_some (Chooses p met unmet) [] h = absurd (omega arith)
kept_some (Chooses p met unmet) (x ∷ []) h = absurd (omega arith)
kept_some (Chooses p met unmet) (x ∷ y ∷ es) h = (y, es, refl)

-- the last step leaves one expression
pub record IsLast (w : Whole) (b : Parts) (x : Stepped) : Type 0 where
  pub lets : b.lets ++ x.lets ≡ w.lets
  pub expression : x.expression ≡ w.expression
  pub next : x.next ≡ w.next

pub one_left : (s : Scope) (n : ℕ) (a : Action) (es : List S.Expression) → length es ≤ operands_of a → IsLast (form.whole s n (one_of (acted a es ∷ kept a es))) (waits s n es) (stepped s (waits s n es).next a (waits s n es).arguments)
one_left s n a es h =
    let k : kept a es ≡ [] = kept_none a es h in
    let f = follows s n a es in
    record {
      lets =
          sym f.lets
          ∙ ap (λ y. (waits s n y).lets ++ (form.whole s (waits s n y).next (acted a es)).lets) k
          ∙ ap (λ y. (form.whole s n (one_of (acted a es ∷ y))).lets) (sym k);
      expression =
          sym f.expression
          ∙ ap (λ y. (form.whole s (waits s n y).next (acted a es)).expression) k
          ∙ ap (λ y. (form.whole s n (one_of (acted a es ∷ y))).expression) (sym k);
      next =
          sym f.next
          ∙ ap (λ y. (form.whole s (waits s n y).next (acted a es)).next) k
          ∙ ap (λ y. (form.whole s n (one_of (acted a es ∷ y))).next) (sym k);
    }

-- the last step leaves several expressions

abbrev made_parts : List Binding → List C.Argument → ℕ → Parts
made_parts ls as' n = record { lets = ls; arguments = as'; next = n }

abbrev parts_then : Scope → Parts → S.Expression → Parts
parts_then s r e =
    let a = form.as_part (form.whole s r.next e) in
    record { lets = r.lets ++ a.lets; arguments = r.arguments ++ a.argument ∷ []; next = a.next }

parts_push : (s : Scope) (n : ℕ) (es : List S.Expression) (e : S.Expression) → form.parts s n (expressions_of (es ++ e ∷ [])) ≡ parts_then s (form.parts s n (expressions_of es)) e
parts_push s n [] e =
    let a = form.as_part (form.whole s n e) in
    ap (λ y. made_parts y (a.argument ∷ []) a.next) (append-nil a.lets)
parts_push s n (d ∷ es) e =
    let a = form.as_part (form.whole s n d) in
    let q = form.parts s a.next (expressions_of es) in
    let b = form.as_part (form.whole s q.next e) in
    ap (λ r. made_parts (a.lets ++ r.lets) (a.argument ∷ r.arguments) r.next) (parts_push s a.next es e)
    ∙ ap (λ y. made_parts y (a.argument ∷ q.arguments ++ b.argument ∷ []) b.next) (sym (append_assoc a.lets q.lets b.lets))

parts_of_left : (s : Scope) (n : ℕ) (es : List S.Expression) → form.parts s n (expressions_of (reverse es)) ≡ made_parts (waits s n es).lets (reverse (waits s n es).arguments) (waits s n es).next
parts_of_left s n [] = refl
parts_of_left s n (e ∷ es) =
    let k = waits s n es in
    let a = form.as_part (form.whole s k.next e) in
    ap (λ y. form.parts s n (expressions_of y)) (reverse-append (e ∷ []) es)
    ∙ parts_push s n (reverse es) e
    ∙ ap (λ r. parts_then s r e) (parts_of_left s n es)
    ∙ ap (λ y. made_parts (k.lets ++ a.lets) y a.next) (sym (reverse-append (a.argument ∷ []) k.arguments))

pub record AreLast (w : Whole) (b : Parts) : Type 0 where
  pub lets : b.lets ≡ w.lets
  pub expression : C.Tuple origin (form.arguments_of (reverse b.arguments)) ≡ w.expression
  pub next : b.next ≡ w.next

pub several_left : (s : Scope) (n : ℕ) (a : Action) (es : List S.Expression) → operands_of a < length es → AreLast (form.whole s n (one_of (acted a es ∷ kept a es))) (waits s n (acted a es ∷ kept a es))
several_left s n a es h =
    let k = kept_some a es h in
    let one : one_of (acted a es ∷ kept a es) ≡ S.Tuple origin (expressions_of (reverse (acted a es ∷ kept a es))) =
    ap (λ y. one_of (acted a es ∷ y)) k.2 ∙ ap (λ y. S.Tuple origin (expressions_of (reverse (acted a es ∷ y)))) (sym k.2) in
    let p = parts_of_left s n (acted a es ∷ kept a es) in
    record {
      lets = ap (λ y. y.lets) (sym p) ∙ ap (λ e. (form.whole s n e).lets) (sym one);
      expression = ap (λ y. C.Tuple origin (form.arguments_of y.arguments)) (sym p) ∙ ap (λ e. (form.whole s n e).expression) (sym one);
      next = ap (λ y. y.next) (sym p) ∙ ap (λ e. (form.whole s n e).next) (sym one);
    }

-- what was in scope before stays in front

scope_within : (s t : Scope) → take (length s) t ≡ s → length s ≤ length t
scope_within s t h =
    let e : length (take (length s) t) ≡ length s = ap length h in
    omega (arith, length-take (length s) t)

kept_push : (s t : Scope) (x : form.Named) → take (length s) t ≡ s → take (length s) (t ++ x ∷ []) ≡ s
kept_push s t x h = take-append-le (length s) t (x ∷ []) (scope_within s t h) ∙ h

kept_cond : (q : Bool) (s t u : Scope) → take (length s) t ≡ s → take (length s) u ≡ s → take (length s) (cond q t u) ≡ s
kept_cond true s t u h k = h
kept_cond false s t u h k = k

kept_binder : (s t : Scope) (b : C.Binder) → take (length s) t ≡ s → take (length s) (form.with_binder t b) ≡ s
kept_binder s t b h =
    kept_cond (bytes_eq b.name form.underscore) s t (t ++ record { name = b.name; number = b.number } ∷ []) h
    (kept_push s t (record { name = b.name; number = b.number }) h)

pub kept_binders : (s t : Scope) (bs : List C.Binder) → take (length s) t ≡ s → take (length s) (form.with_binders t bs) ≡ s
kept_binders s t [] h = h
kept_binders s t (b ∷ bs) h = kept_binders s (form.with_binder t b) bs (kept_binder s t b h)

mutual
  pub pattern_kept : (s t : Scope) (n : ℕ) (p : S.Pattern) → take (length s) t ≡ s → take (length s) (form.pattern t n p).scope ≡ s
  pattern_kept s t n (S.Wildcard p) h = kept_binder s t (record { number = n; name = form.underscore; place = p; annotation = None }) h
  pattern_kept s t n (S.VariablePattern x p) h = kept_binder s t (record { number = n; name = x; place = p; annotation = None }) h
  pattern_kept s t n (S.LiteralPattern i p) h = h
  pattern_kept s t n (S.ConstructorPattern x p ps) h = patterns_kept s t n ps h

  pub patterns_kept : (s t : Scope) (n : ℕ) (ps : S.Patterns) → take (length s) t ≡ s → take (length s) (form.patterns t n ps).scope ≡ s
  patterns_kept s t n S.NoPatterns h = h
  patterns_kept s t n (S.MorePatterns p ps) h =
      patterns_kept s (form.pattern t n p).scope (form.pattern t n p).next ps (pattern_kept s t n p h)

pub taken_whole : (s : Scope) → take (length s) s ≡ s
taken_whole s = take_all (length s) s (omega arith)

-- the lets of a block, one after another: what was made before w, and w itself, are the whole

pub record Completes (made : List Binding) (w all : Whole) : Type 0 where
  pub given : w.expression ≡ all.expression
  pub lets : made ++ w.lets ≡ all.lets
  pub next : w.next ≡ all.next

let_first : (t : Scope) (n : ℕ) (made : List Binding) (y : LetPart) (ys : List LetPart) (e : S.Expression) → (made ++ (let_made t n y).lets) ++ (form.contents (let_made t n y).scope (let_made t n y).next (surface.block_of ys e)).lets ≡ made ++ (form.contents t n (surface.block_of (y ∷ ys) e)).lets
let_first t n made y ys e =
    let w = form.whole t n y.bound in
    let b : Binding = record { binders = form.binders w.next y.binds; bound = w.expression } in
    let r = form.contents (let_made t n y).scope (let_made t n y).next (surface.block_of ys e) in
    append_assoc made (w.lets ++ b ∷ []) r.lets ∙ ap (λ z. made ++ z) (append_assoc w.lets (b ∷ []) r.lets)

pub let_completes : (all : Whole) (t : Scope) (n : ℕ) (made : List Binding) (y : LetPart) (ys : List LetPart) (e : S.Expression) (t' : Scope) (n' : ℕ) (made' : List Binding) → Completes made (form.contents t n (surface.block_of (y ∷ ys) e)) all → made' ≡ made ++ (let_made t n y).lets → t' ≡ (let_made t n y).scope → n' ≡ (let_made t n y).next → Completes made' (form.contents t' n' (surface.block_of ys e)) all
let_completes all t n made y ys e t' n' made' h hm ht hn =
    let m = let_made t n y in
    let q : form.contents t' n' (surface.block_of ys e) ≡ form.contents m.scope m.next (surface.block_of ys e) =
    ap (λ z. form.contents z n' (surface.block_of ys e)) ht ∙ ap (λ k. form.contents m.scope k (surface.block_of ys e)) hn in
    record {
      given = ap (λ w. w.expression) q ∙ h.given;
      lets =
          ap (λ w. made' ++ w.lets) q
          ∙ ap (λ z. z ++ (form.contents m.scope m.next (surface.block_of ys e)).lets) hm
          ∙ let_first t n made y ys e
          ∙ h.lets;
      next = ap (λ w. w.next) q ∙ h.next;
    }

pub last_completes : (made out : List Binding) (w all : Whole) (e : C.Expression) (n : ℕ) → Completes made w all → out ≡ made ++ w.lets → e ≡ w.expression → n ≡ w.next → form.last_from out e n ≡ form.as_last all
last_completes made out w all e n h ho he hn =
    ap (λ o. form.last_from o e n) (ho ∙ h.lets)
    ∙ ap (λ x. form.last_from all.lets x n) (he ∙ h.given)
    ∙ ap (λ m. form.last_from all.lets all.expression m) (hn ∙ h.next)

-- clauses, one after another

pub case_first : (s : Scope) (n n' : ℕ) (made : List core.Case) (k : core.Case) (y : Case) (ys : List Case) → k ≡ (case_made s n y).case → n' ≡ (case_made s n y).next → clauses_before (made ++ k ∷ []) (form.cases s n' (surface.clauses_of ys)).clauses ≡ clauses_before made (form.cases s n (surface.clauses_of (y ∷ ys))).clauses
case_first s n n' made k y ys hk hn =
    clauses_push made k (form.cases s n' (surface.clauses_of ys)).clauses
    ∙ ap (λ z. clauses_before made (C.MoreClauses z.pattern z.body (form.cases s n' (surface.clauses_of ys)).clauses)) hk
    ∙ ap (λ m. clauses_before made (C.MoreClauses (case_made s n y).case.pattern (case_made s n y).case.body (form.cases s m (surface.clauses_of ys)).clauses)) hn

-- the match that an if is, where its operand was taken from a stack whose top it is
pub choice_stands : (s s' s'' : Scope) (n n' n'' : ℕ) (p : Place) (st : List C.Argument) (a v : C.Argument) (ls : List Binding) (met unmet : S.Block) (y u : C.Block) → a ≡ top_argument st → v ≡ (form.variable_from ls a n).argument → n' ≡ (form.variable_from ls a n).next → s' ≡ s → y ≡ (form.as_block (form.contents s' n' met)).block → n'' ≡ (form.as_block (form.contents s' n' met)).next → s'' ≡ s' → u ≡ (form.as_block (form.contents s'' n'' unmet)).block → form.if_match p v y u ≡ (stepped s n (Chooses p met unmet) st).expression
choice_stands s s' s'' n n' n'' p st a v ls met unmet y u ha hv hn hs hy hn' hs' hu =
    let w = form.variable_from [] (top_argument st) n in
    let ev : v ≡ w.argument = hv ∙ ap (λ x. (form.variable_from ls x n).argument) ha ∙ variable_after-argument ls (top_argument st) n in
    let en : n' ≡ w.next = hn ∙ ap (λ x. (form.variable_from ls x n).next) ha ∙ variable_after-next ls (top_argument st) n in
    let ec : form.contents s' n' met ≡ form.contents s w.next met =
    ap (λ z. form.contents z n' met) hs ∙ ap (λ m. form.contents s m met) en in
    let ey : y ≡ (form.as_block (form.contents s w.next met)).block = hy ∙ ap (λ z. (form.as_block z).block) ec in
    let em : n'' ≡ (form.as_block (form.contents s w.next met)).next = hn' ∙ ap (λ z. (form.as_block z).next) ec in
    let ed : form.contents s'' n'' unmet ≡ form.contents s (form.as_block (form.contents s w.next met)).next unmet =
    ap (λ z. form.contents z n'' unmet) (hs' ∙ hs) ∙ ap (λ m. form.contents s m unmet) em in
    let eu : u ≡ (form.as_block (form.contents s (form.as_block (form.contents s w.next met)).next unmet)).block =
    hu ∙ ap (λ z. (form.as_block z).block) ed in
    ap (λ z. form.if_match p z y u) ev
    ∙ ap (λ z. form.if_match p w.argument z u) ey
    ∙ ap (λ z. form.if_match p w.argument (form.as_block (form.contents s w.next met)).block z) eu

pub choice_next : (s s' s'' : Scope) (n n' n'' m : ℕ) (p : Place) (st : List C.Argument) (a : C.Argument) (ls : List Binding) (met unmet : S.Block) → a ≡ top_argument st → n' ≡ (form.variable_from ls a n).next → s' ≡ s → n'' ≡ (form.as_block (form.contents s' n' met)).next → s'' ≡ s' → m ≡ (form.as_block (form.contents s'' n'' unmet)).next → m ≡ (stepped s n (Chooses p met unmet) st).next
choice_next s s' s'' n n' n'' m p st a ls met unmet ha hn hs hn' hs' hm =
    let w = form.variable_from [] (top_argument st) n in
    let en : n' ≡ w.next = hn ∙ ap (λ x. (form.variable_from ls x n).next) ha ∙ variable_after-next ls (top_argument st) n in
    let ec : form.contents s' n' met ≡ form.contents s w.next met =
    ap (λ z. form.contents z n' met) hs ∙ ap (λ k. form.contents s k met) en in
    let em : n'' ≡ (form.as_block (form.contents s w.next met)).next = hn' ∙ ap (λ z. (form.as_block z).next) ec in
    hm ∙ ap (λ z. (form.as_block z).next) (ap (λ z. form.contents z n'' unmet) (hs' ∙ hs) ∙ ap (λ k. form.contents s k unmet) em)

pub choice_lets : (s : Scope) (n : ℕ) (p : Place) (st : List C.Argument) (a : C.Argument) (ls out : List Binding) (met unmet : S.Block) → a ≡ top_argument st → out ≡ (form.variable_from ls a n).lets → out ≡ ls ++ (stepped s n (Chooses p met unmet) st).lets
choice_lets s n p st a ls out met unmet ha ho =
    ho ∙ ap (λ x. (form.variable_from ls x n).lets) ha ∙ variable_after-lets ls (top_argument st) n

-- the expression that steps stand for, by the last one

pub ends_with : (e : Expression) (before : List Step) (last : Step) → (out-Expression e).steps.items ≡ before ++ last ∷ [] → surface.expression e ≡ one_of (acted (surface.action last) (left_by (map surface.action before) []) ∷ kept (surface.action last) (left_by (map surface.action before) []))
ends_with e before last h =
    expression_view e
    ∙ ap (λ z. one_of (left_by (map surface.action z) [])) h
    ∙ ap (λ z. one_of (left_by z [])) (map-append surface.action before (last ∷ []))
    ∙ ap one_of (left_by_push (map surface.action before) (surface.action last) [])

-- Before a step: the parts that wait are those of the expressions that are left.
pub record Waited (s : Scope) (n : ℕ) (out : List Binding) (es : List S.Expression) (now : Scope) (m : ℕ) (made : List Binding) (st : List C.Argument) : Type 0 where
  pub stack : st ≡ (waits s n es).arguments
  pub lets : made ≡ out ++ (waits s n es).lets
  pub next : m ≡ (waits s n es).next
  pub scope : now ≡ s

stepped_after : (s : Scope) (n : ℕ) (out : List Binding) (es : List S.Expression) (now : Scope) (next : ℕ) (made : List Binding) (st : List C.Argument) (a : Action) → Waited s n out es now next made st → stepped now next a st ≡ stepped s (waits s n es).next a (waits s n es).arguments
stepped_after s n out es now next made st a h =
    ap (λ z. stepped z next a st) h.scope ∙ ap (λ m. stepped s m a st) h.next ∙ ap (λ z. stepped s (waits s n es).next a z) h.stack

left_count : (s : Scope) (n : ℕ) (es : List S.Expression) (st : List C.Argument) → st ≡ (waits s n es).arguments → length st ≡ length es
left_count s n es st h = ap length h ∙ waits_length s n es

pub record LastStep (w : Whole) (out made : List Binding) (x : Stepped) : Type 0 where
  pub expression : x.expression ≡ w.expression
  pub lets : made ++ x.lets ≡ out ++ w.lets
  pub next : x.next ≡ w.next

pub last_step : (s : Scope) (n : ℕ) (out : List Binding) (es : List S.Expression) (now : Scope) (next : ℕ) (made : List Binding) (st : List C.Argument) (a : Action) (e : S.Expression) → Waited s n out es now next made st → e ≡ one_of (acted a es ∷ kept a es) → length st ≤ operands_of a → LastStep (form.whole s n e) out made (stepped now next a st)
last_step s n out es now next made st a e h i c =
    let k : length es ≤ operands_of a = omega (arith, left_count s n es st h.stack) in
    let o = one_left s n a es k in
    let q = stepped_after s n out es now next made st a h in
    let b = waits s n es in
    let x = stepped s b.next a b.arguments in
    record {
      expression = ap (λ y. y.expression) q ∙ o.expression ∙ ap (λ y. (form.whole s n y).expression) (sym i);
      lets =
          ap (λ y. made ++ y.lets) q
          ∙ ap (λ y. y ++ x.lets) h.lets
          ∙ append_assoc out b.lets x.lets
          ∙ ap (λ y. out ++ y) (o.lets ∙ ap (λ y. (form.whole s n y).lets) (sym i));
      next = ap (λ y. y.next) q ∙ o.next ∙ ap (λ y. (form.whole s n y).next) (sym i);
    }

pub record SeveralLeft (w : Whole) (out made : List Binding) (p : Parts) : Type 0 where
  pub expression : C.Tuple origin (form.arguments_of (reverse p.arguments)) ≡ w.expression
  pub lets : made ++ p.lets ≡ out ++ w.lets
  pub next : p.next ≡ w.next

pub several_steps : (s : Scope) (n : ℕ) (out : List Binding) (es : List S.Expression) (now : Scope) (next : ℕ) (made : List Binding) (st : List C.Argument) (a : Action) (e : S.Expression) → Waited s n out es now next made st → e ≡ one_of (acted a es ∷ kept a es) → operands_of a < length st → SeveralLeft (form.whole s n e) out made (part_left (stepped now next a st))
several_steps s n out es now next made st a e h i c =
    let k : operands_of a < length es = omega (arith, left_count s n es st h.stack) in
    let o = several_left s n a es k in
    let f = follows s n a es in
    let q = stepped_after s n out es now next made st a h in
    let b = waits s n es in
    let x = part_left (stepped s b.next a b.arguments) in
    record {
      expression =
          ap (λ y. C.Tuple origin (form.arguments_of (reverse (part_left y).arguments))) q
          ∙ ap (λ y. C.Tuple origin (form.arguments_of (reverse y))) (sym f.part_arguments)
          ∙ o.expression
          ∙ ap (λ y. (form.whole s n y).expression) (sym i);
      lets =
          ap (λ y. made ++ (part_left y).lets) q
          ∙ ap (λ y. y ++ x.lets) h.lets
          ∙ append_assoc out b.lets x.lets
          ∙ ap (λ y. out ++ y) (sym f.part_lets ∙ o.lets ∙ ap (λ y. (form.whole s n y).lets) (sym i));
      next = ap (λ y. (part_left y).next) q ∙ sym f.part_next ∙ o.next ∙ ap (λ y. (form.whole s n y).next) (sym i);
    }

nothing : {A : Type 0} (xs : List A) → length xs ≡ 0 → xs ≡ []
nothing [] h = refl
nothing (x ∷ xs) h = absurd (omega (arith, h))

-- an iterator that has ended has nothing left
pub none_left : {A Z : Type 0} (it : IntoIter A Z) → into_iter_len it ≡ 0 → into_iter_items it ≡ []
none_left it h = nothing it.rest.items (sym it.rest.ok.0 ∙ h)

-- what it gave is then all
pub taken_all : {A Z : Type 0} (it : IntoIter A Z) (xs ys : List A) → ys ++ into_iter_items it ≡ xs → into_iter_len it ≡ 0 → ys ≡ xs
taken_all it xs ys e h = sym (append-nil ys) ∙ ap (λ z. ys ++ z) (sym (none_left it h)) ∙ e

pub waited_all : (s : Scope) (n : ℕ) (out : List Binding) (xs ys : List Step) (now : Scope) (next : ℕ) (made : List Binding) (st : List C.Argument) → ys ≡ xs → st ≡ (waits s n (left_by (map surface.action ys) [])).arguments → made ≡ out ++ (waits s n (left_by (map surface.action ys) [])).lets → next ≡ (waits s n (left_by (map surface.action ys) [])).next → now ≡ s → Waited s n out (left_by (map surface.action xs) []) now next made st
waited_all s n out xs ys now next made st all hst hm hn hs = record {
  stack = hst ∙ ap (λ z. (waits s n (left_by (map surface.action z) [])).arguments) all;
  lets = hm ∙ ap (λ z. out ++ (waits s n (left_by (map surface.action z) [])).lets) all;
  next = hn ∙ ap (λ z. (waits s n (left_by (map surface.action z) [])).next) all;
  scope = hs;
}

-- functions

parameters_length : (n : ℕ) (ps : List S.Parameter) → length (form.parameters n ps) ≡ length ps
parameters_length n [] = refl
parameters_length n (p ∷ ps) = ap suc (parameters_length (n + 1) ps)

-- the body, from the scope that the parameters left
pub body_stands : (s e : Scope) (m : ℕ) (ps : List Q.Parameter) (body : S.Block) (b : C.Block) → e ≡ [] → s ≡ form.with_binders e (map (λ p. p.binder) (form.parameters 0 (map surface.parameter ps))) → m ≡ 0 + length ps → b ≡ (form.as_block (form.contents s m body)).block → b ≡ (form.as_block (form.contents (form.with_binders [] (map (λ p. p.binder) (form.parameters 0 (map surface.parameter ps)))) (length (form.parameters 0 (map surface.parameter ps))) body)).block
body_stands s e m ps body b he hs hm hb =
    let es : s ≡ form.with_binders [] (map (λ p. p.binder) (form.parameters 0 (map surface.parameter ps))) =
    hs ∙ ap (λ z. form.with_binders z (map (λ p. p.binder) (form.parameters 0 (map surface.parameter ps)))) he in
    let em : m ≡ length (form.parameters 0 (map surface.parameter ps)) =
    hm ∙ zero-add (length ps) ∙ sym (length-map ps surface.parameter) ∙ sym (parameters_length 0 (map surface.parameter ps)) in
    hb
    ∙ ap (λ z. (form.as_block (form.contents z m body)).block) es
    ∙ ap (λ k. (form.as_block (form.contents (form.with_binders [] (map (λ p. p.binder) (form.parameters 0 (map surface.parameter ps)))) k body)).block) em

-- brackets round a block with lets
pub brackets_of_lets : (ls : List surface.LetPart) (e : S.Expression) (w : form.Whole) → 0 < length ls → form.in_brackets (surface.block_of ls e) w ≡ record { lets = []; expression = C.Nested (form.as_block w).block; next = (form.as_block w).next }
brackets_of_lets [] e w h = absurd (omega arith)
brackets_of_lets (l ∷ ls) e w h = refl

-- a test of a length against 0
pub not_empty : (m n : ℕ) (r : Bool) → r ≡ false → r ≡ (m == 0) → m ≡ n → 0 < n
not_empty zero n r h k e = let k' : r ≡ true = k in cc
not_empty (suc m) n r h k e = omega arith
