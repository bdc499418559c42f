-- Values in scope: where a scope gives a variable a type, the environment has a value of that type for it. Binding
-- values to the variables of a pattern, of a let or of parameters keeps this.
use Rattle.std.proofs.Common.{◌≡◌, ℕ, zero, suc, Bool, true, false, List, [], ◌∷◌, ◌++◌, map, Option, Some, None, slice_get, if◌then◌else◌, ◌==◌, refl, sym, ap, ◌∙◌, subst}
use Rattle.std.proofs.lemmas.List.{append-nil, append_assoc}
use Rattle.std.proofs.lemmas.Bool.{eqb-true}
use Rattle.match_cover.specs.fip_language.Values.{Value, Int, Node, Values, End, More}
use Rattle.match_cover.specs.fip_language.Table.{Table, Shape, shapes, HasType, HaveTypes}
use Rattle.match_cover.specs.fip_language.Matching.{Binding, same_int, both}
use Rattle.match_cover.specs.fip_language.Meaning.{Environment, bind, bind_matched}
use Rattle.match_cover.specs.fip_base.TableView.{fields_at}
use Rattle.match_cover.specs.fip_base.declared.plain.Param.{Param}
use Rattle.match_cover.specs.fip_trees.declared.program.Binder.{Binder}
use Rattle.match_cover.specs.fip_trees.Tree.{Pattern, BinderPattern, LiteralPattern, ConstructorPattern, Patterns, NoPatterns, MorePatterns}
use Rattle.type_check.specs.Found.{or_found}
use Rattle.type_check.specs.Scope.{Scope, look, or_else}
use Rattle.type_check.specs.Binders.{entries, entry}
use Rattle.type_check.specs.World.{World, is_of, chosen, plain_type, fields_of, field_types, type_of}
use Rattle.type_check.specs.Typing.{bound_by, bound_by_all, IsPattern, ArePatterns, Annotated, Bind, parameter_entries}
use Rattle.instance_semantics.specs.Matching.{matching, matching_all}
use Rattle.instance_semantics.specs.Meaning.{bind_binders}
pub use Rattle.type_check.proofs.Basics.{chosen_is}

-- a value of the type is there
abbrev pub Held : Table → Option Value → ℕ → Type 0
Held tb o t = (v : Value) × (o ≡ Some v) × HasType tb t v

abbrev pub EnvHas : Table → Scope → Environment → Type 0
EnvHas tb s env = (x t : ℕ) → look s x ≡ Some (Some t) → Held tb (env x) t

-- ---- one variable more

pub or_else-assoc : (a b c : Option (Option ℕ)) → or_else (or_else a b) c ≡ or_else a (or_else b c)
or_else-assoc None b c = refl
or_else-assoc (Some t) b c = refl

pub or_else-none : (a : Option (Option ℕ)) → or_else a None ≡ a
or_else-none None = refl
or_else-none (Some t) = refl

pub look-append : (s r : Scope) (x : ℕ) → look (s ++ r) x ≡ or_else (look r x) (look s x)
look-append [] r x = sym (or_else-none (look r x))
look-append (e ∷ s) r x =
    ap (λ o. or_else o (if e.number == x then Some e.ty else None)) (look-append s r x)
    ∙ or_else-assoc (look r x) (look s x) (if e.number == x then Some e.ty else None)

pub one_held : (tb : Table) (c : Bool) (u t : ℕ) (old : Option (Option ℕ)) (found : Option Value) (v : Value) → HasType tb u v → (old ≡ Some (Some t) → Held tb found t) → or_else (or_else None (if c then Some (Some u) else None)) old ≡ Some (Some t) → Held tb (if c then Some v else found) t
one_held tb true u t old found v h g e = let same : u ≡ t = cc in (v, refl, subst (λ n. HasType tb n v) same h)
one_held tb false u t old found v h g e = g e

pub has_one : (tb : Table) (s : Scope) (env : Environment) (b : Binder) (u : ℕ) (v : Value) → EnvHas tb s env → HasType tb u v → EnvHas tb (s ++ entry (Some u) b ∷ []) (bind env b.number v)
has_one tb s env b u v h g x t e =
    one_held tb (b.number == x) u t (look s x) (env x) v g (h x t) (sym (look-append s (entry (Some u) b ∷ []) x) ∙ e)

has_moved : (tb : Table) (s r : Scope) (env : Environment) → s ≡ r → EnvHas tb s env → EnvHas tb r env
has_moved tb s r env e h = subst (λ q. EnvHas tb q env) e h

has_none : (tb : Table) (s : Scope) (env : Environment) → EnvHas tb s env → EnvHas tb (s ++ []) env
has_none tb s env h = has_moved tb s (s ++ []) env (sym (append-nil s)) h

-- ---- the binders of a let and of parameters

pub annotated_is : (o : Option ℕ) (t : ℕ) → Annotated o t → or_found o (Some t) ≡ Some t
annotated_is None t h = refl
annotated_is (Some u) t h = ap Some h

pub let_has : (tb : Table) (s : Scope) (env : Environment) (bs : List Binder) (ts : List ℕ) (vs : Values) → EnvHas tb s env → Bind true bs ts → HaveTypes tb ts vs → EnvHas tb (s ++ entries bs (map Some ts)) (bind_binders env bs vs)
let_has tb s env [] ts vs h b g = has_none tb s env h
let_has tb s env (b ∷ bs) [] vs h c g = absurd c
let_has tb s env (b ∷ bs) (t ∷ ts) End h c g = absurd g
let_has tb s env (b ∷ bs) (t ∷ ts) (More v vs) h c g =
    let one = entry (Some t) b in
    let rest = let_has tb (s ++ one ∷ []) (bind env b.number v) bs ts vs (has_one tb s env b t v h g.0) c.1 g.1 in
    let moved = has_moved tb ((s ++ one ∷ []) ++ entries bs (map Some ts)) (s ++ one ∷ entries bs (map Some ts)) _ (append_assoc s (one ∷ []) (entries bs (map Some ts))) rest in
    subst (λ o. EnvHas tb (s ++ entry o b ∷ entries bs (map Some ts)) (bind_binders (bind env b.number v) bs vs)) (sym (annotated_is b.annotation t c.0.0)) moved

pub parameters_have : (tb : Table) (s : Scope) (env : Environment) (ps : List Param) (bs : List Binder) (vs : Values) → EnvHas tb s env → HaveTypes tb (map type_of ps) vs → EnvHas tb (s ++ parameter_entries ps bs) (bind_binders env bs vs)
parameters_have tb s env [] [] vs h g = has_none tb s env h
parameters_have tb s env [] (b ∷ bs) End h g = has_none tb s env h
parameters_have tb s env [] (b ∷ bs) (More v vs) h g = absurd g
parameters_have tb s env (p ∷ ps) [] vs h g = has_none tb s env h
parameters_have tb s env (p ∷ ps) (b ∷ bs) End h g = absurd g
parameters_have tb s env (p ∷ ps) (b ∷ bs) (More v vs) h g =
    let one = entry (Some p.ty) b in
    let rest = parameters_have tb (s ++ one ∷ []) (bind env b.number v) ps bs vs (has_one tb s env b p.ty v h g.0) g.1 in
    has_moved tb ((s ++ one ∷ []) ++ parameter_entries ps bs) (s ++ one ∷ parameter_entries ps bs) _ (append_assoc s (one ∷ []) (parameter_entries ps bs)) rest

-- ---- the variables of a pattern

pub fields_are : (ss : List Shape) (c : ℕ) (s : Shape) → slice_get ss c ≡ Some s → fields_at ss c ≡ s.fields
fields_are [] c s e = cc
fields_are (r ∷ ss) zero s e = let same : r ≡ s = cc in ap (λ (x : Shape). x.fields) same
fields_are (r ∷ ss) (suc c) s e = fields_are ss c s e

-- the children of a node are of the types of its constructor's fields
pub children_have : (w : World) (t c : ℕ) (vs : Values) → HasType w.types t (Node c vs) → HaveTypes w.types (fields_of w t c) vs
children_have w zero c vs h = absurd h
children_have w (suc t) c vs h = subst (λ ts. HaveTypes w.types ts vs) (sym (fields_are (shapes w.types t) c h.0 h.1)) h.2

pub node_has : (w : World) (t c : ℕ) (s : Shape) (vs : Values) → slice_get (shapes w.types t) c ≡ Some s → HaveTypes w.types (fields_of w (suc t) c) vs → HasType w.types (suc t) (Node c vs)
node_has w t c s vs e h = (s, e, subst (λ ts. HaveTypes w.types ts vs) (fields_are (shapes w.types t) c s e) h)

pub bind_matched-append : (env : Environment) (as' bs : List Binding) → bind_matched env (as' ++ bs) ≡ bind_matched (bind_matched env as') bs
bind_matched-append env [] bs = refl
bind_matched-append env (a ∷ as') bs = bind_matched-append (bind env a.binder a.value) as' bs

-- two lists of bindings that are one
pub record Halves (a b : Option (List Binding)) (bs : List Binding) : Type 0 where
  pub first : List Binding
  pub second : List Binding
  pub is_first : a ≡ Some first
  pub is_second : b ≡ Some second
  pub are : first ++ second ≡ bs

pub halves : (a b : Option (List Binding)) (bs : List Binding) → both a b ≡ Some bs → Halves a b bs
halves None b bs e = cc
halves (Some x) None bs e = cc
halves (Some x) (Some y) bs e = record { first = x; second = y; is_first = refl; is_second = refl; are = cc }

-- a literal binds nothing, nor does a constructor that isn't the value's
pub when_same : (c : Bool) (o : Option (List Binding)) (bs : List Binding) → (if c then o else None) ≡ Some bs → o ≡ Some bs
when_same true o bs e = e
when_same false o bs e = cc

pub is_same : (c : Bool) (o : Option (List Binding)) (bs : List Binding) → (if c then o else None) ≡ Some bs → c ≡ true
is_same true o bs e = refl
is_same false o bs e = cc

pub bound_fields : (w : World) (t d c : ℕ) (ps : Patterns) → is_of w t d ≡ true → bound_by_all w (map Some (fields_of w t c)) ps ≡ bound_by_all w (field_types w (chosen w (Some (Some t)) d) c) ps
bound_fields w t d c ps e = ap (λ o. bound_by_all w (field_types w o c) ps) (sym (chosen_is w t d e))

module _ (w : World) where
  mutual
    pub pattern_has : (t : ℕ) (q : Pattern) (v : Value) (bs : List Binding) (s : Scope) (env : Environment) → IsPattern true w t q → HasType w.types t v → matching q v ≡ Some bs → EnvHas w.types s env → EnvHas w.types (s ++ bound_by w (Some t) q) (bind_matched env bs)
    pattern_has t (BinderPattern b) v bs s env i h e g =
        let same : record { binder = b.number; value = v } ∷ [] ≡ bs = cc in
        subst (λ x. EnvHas w.types (s ++ entry (Some t) b ∷ []) (bind_matched env x)) same (has_one w.types s env b t v g h)
    pattern_has t (LiteralPattern j p) (Int i) bs s env is h e g =
        let none : [] ≡ bs = let x = when_same (same_int j i) (Some []) bs e in cc in
        subst (λ x. EnvHas w.types (s ++ []) (bind_matched env x)) none (has_none w.types s env g)
    pattern_has t (LiteralPattern j p) (Node c vs) bs s env is h e g = cc
    pattern_has t (ConstructorPattern u d k n p ps) (Int i) bs s env is h e g = cc
    pattern_has t (ConstructorPattern u d k n p ps) (Node c vs) bs s env is h e g =
        let one : k ≡ c = eqb-true k c (is_same (k == c) (matching_all ps vs) bs e) in
        let typed = subst (λ m. HaveTypes w.types (fields_of w t m) vs) (sym one) (children_have w t c vs h) in
        subst (λ r. EnvHas w.types (s ++ r) (bind_matched env bs)) (bound_fields w t d k ps is.1)
        (patterns_have (fields_of w t k) ps vs bs s env is.2 typed (when_same (k == c) (matching_all ps vs) bs e) g)

    pub patterns_have : (ts : List ℕ) (ps : Patterns) (vs : Values) (bs : List Binding) (s : Scope) (env : Environment) → ArePatterns true w ts ps → HaveTypes w.types ts vs → matching_all ps vs ≡ Some bs → EnvHas w.types s env → EnvHas w.types (s ++ bound_by_all w (map Some ts) ps) (bind_matched env bs)
    patterns_have ts NoPatterns End bs s env is h e g =
        let none : [] ≡ bs = cc in subst (λ x. EnvHas w.types (s ++ []) (bind_matched env x)) none (has_none w.types s env g)
    patterns_have ts NoPatterns (More v vs) bs s env is h e g = cc
    patterns_have ts (MorePatterns q ps) End bs s env is h e g = cc
    patterns_have [] (MorePatterns q ps) (More v vs) bs s env is h e g = absurd is
    patterns_have (t ∷ ts) (MorePatterns q ps) (More v vs) bs s env is h e g =
        let x = halves (matching q v) (matching_all ps vs) bs e in
        let first = pattern_has t q v x.first s env is.0 h.0 x.is_first g in
        let second = patterns_have ts ps vs x.second (s ++ bound_by w (Some t) q) (bind_matched env x.first) is.1 h.1 x.is_second first in
        let moved = has_moved w.types _ (s ++ (bound_by w (Some t) q ++ bound_by_all w (map Some ts) ps)) _ (append_assoc s (bound_by w (Some t) q) (bound_by_all w (map Some ts) ps)) second in
        subst (λ r. EnvHas w.types (s ++ (bound_by w (Some t) q ++ bound_by_all w (map Some ts) ps)) r) (sym (bind_matched-append env x.first x.second) ∙ ap (bind_matched env) x.are) moved
