-- What is given for a static parameter, as a place and as a tree.
use Rattle.std.proofs.Common.{◌≡◌, ℕ, zero, suc, ◌-◌, ◌<◌, ◌≤◌, List, [], ◌∷◌, map, length, get_or, Option, Some, None, option_map, slice_get, Vec, Global, refl, sym, ap, subst, ◌∙◌, arith}
use Rattle.fip_base.specs.fip_language.declared.Place.{Place}
use Rattle.fip_base.specs.CoreView.{static}
use Rattle.fip_base.specs.declared.core_form.Static.{Static}
use Rattle.fip_base.specs.declared.core_form.Static.TheVariants as S
use Rattle.fip_base.specs.declared.core_form.SignatureParameter.{SignatureParameter}
use Rattle.fip_base.specs.declared.core_form.ResultType.{ResultType}
use Rattle.closed_types.specs.Closed.{Closed, Closeds, closed_at}
use Rattle.closed_types.specs.SharedTrees.{Branch, AreWithin, NoneOrWithin, tree_at, trees_at}
use Rattle.closed_types.specs.Source.{if_type, if_function, type_at, function_at, statics_or_none, static_places}
use Rattle.reached_instances.specs.SourceView.{function_source, AreNamed}
use Rattle.reached_instances.specs.declared.source.FunctionSource.{FunctionSource}
use Rattle.fip_trees.specs.Names.{meaning}
use Rattle.closed_types.proofs.Declarations.{at_there, at_past}

pub tree_given : (ts : List Closed) (is : List ℕ) (k : ℕ) → closed_at (trees_at ts is) k ≡ option_map (tree_at ts) (slice_get is k)
tree_given ts [] k = refl
tree_given ts (i ∷ is) zero = refl
tree_given ts (i ∷ is) (suc k) = tree_given ts is k

-- ---- a type

pub type_there : (ts : List Closed) (ss : List Static) (given : List ℕ) (k : ℕ) (x : Static) (n : List ℕ) (p : Place) (o : Option ℕ) → k < length ss → x ≡ get_or ss k x → x ≡ S.«Type» n p → o ≡ slice_get given k → option_map (tree_at ts) o ≡ if_type (slice_get (map static ss) k) (closed_at (trees_at ts given) k)
type_there ts ss given k x n p o l h e g =
    ap (option_map (tree_at ts)) g
    ∙ sym (tree_given ts given k)
    ∙ sym (ap (λ s. if_type s (closed_at (trees_at ts given) k)) (at_there static ss k x l h ∙ ap (λ (y : Static). Some (static y)) e))

pub no_type : (ts : List Closed) (ss : List Static) (given : List ℕ) (k : ℕ) (x : Static) (n : List ℕ) (p : Place) (ps : Vec SignatureParameter Global) (r : ResultType) → k < length ss → x ≡ get_or ss k x → x ≡ S.Function n p ps r → None ≡ if_type (slice_get (map static ss) k) (closed_at (trees_at ts given) k)
no_type ts ss given k x n p ps r l h e =
    sym (ap (λ s. if_type s (closed_at (trees_at ts given) k)) (at_there static ss k x l h ∙ ap (λ (y : Static). Some (static y)) e))

pub type_past : (ts : List Closed) (ss : List Static) (given : List ℕ) (k : ℕ) → length ss ≤ k → None ≡ if_type (slice_get (map static ss) k) (closed_at (trees_at ts given) k)
type_past ts ss given k l = sym (ap (λ s. if_type s (closed_at (trees_at ts given) k)) (at_past static ss k l))

-- ---- a function

pub function_there : (ts : List Closed) (ss : List Static) (given : List ℕ) (k : ℕ) (x : Static) (n : List ℕ) (p : Place) (ps : Vec SignatureParameter Global) (r : ResultType) (o : Option ℕ) → k < length ss → x ≡ get_or ss k x → x ≡ S.Function n p ps r → o ≡ slice_get given k → option_map (tree_at ts) o ≡ if_function (slice_get (map static ss) k) (closed_at (trees_at ts given) k)
function_there ts ss given k x n p ps r o l h e g =
    ap (option_map (tree_at ts)) g
    ∙ sym (tree_given ts given k)
    ∙ sym (ap (λ s. if_function s (closed_at (trees_at ts given) k)) (at_there static ss k x l h ∙ ap (λ (y : Static). Some (static y)) e))

pub no_function : (ts : List Closed) (ss : List Static) (given : List ℕ) (k : ℕ) (x : Static) (n : List ℕ) (p : Place) → k < length ss → x ≡ get_or ss k x → x ≡ S.«Type» n p → None ≡ if_function (slice_get (map static ss) k) (closed_at (trees_at ts given) k)
no_function ts ss given k x n p l h e =
    sym (ap (λ s. if_function s (closed_at (trees_at ts given) k)) (at_there static ss k x l h ∙ ap (λ (y : Static). Some (static y)) e))

pub function_past : (ts : List Closed) (ss : List Static) (given : List ℕ) (k : ℕ) → length ss ≤ k → None ≡ if_function (slice_get (map static ss) k) (closed_at (trees_at ts given) k)
function_past ts ss given k l = sym (ap (λ s. if_function s (closed_at (trees_at ts given) k)) (at_past static ss k l))

-- ---- the static parameters of a function

pub statics_there : (fs : List FunctionSource) (i : ℕ) (f : FunctionSource) → i < length fs → f ≡ get_or fs i f → statics_or_none (slice_get (map function_source fs) i) ≡ map static f.function.now.statics.items
statics_there fs i f l h = ap statics_or_none (at_there function_source fs i f l h)

pub statics_past : (fs : List FunctionSource) (i : ℕ) → length fs ≤ i → statics_or_none (slice_get (map function_source fs) i) ≡ []
statics_past fs i l = ap statics_or_none (at_past function_source fs i l)

named_there : (fs : List FunctionSource) (i : ℕ) (f : FunctionSource) → AreNamed fs → i < length fs → f ≡ get_or fs i f → f.statics ≡ static_places (map static f.function.now.statics.items)
named_there [] i f n l h = absurd (omega (arith, l))
named_there (g ∷ fs) zero f n l h = subst (λ (x : FunctionSource). x.statics ≡ static_places (map static x.function.now.statics.items)) (sym h) n.0
named_there (g ∷ fs) (suc i) f n l h = named_there fs i f n.1 (omega (arith, l)) h

pub type_found : (fs : List FunctionSource) (i : ℕ) (f : FunctionSource) (cs : Closeds) (name : List ℕ) (o : Option Closed) → AreNamed fs → i < length fs → f ≡ get_or fs i f → o ≡ type_at (map static f.function.now.statics.items) cs (meaning name f.statics) → o ≡ type_at (statics_or_none (slice_get (map function_source fs) i)) cs (meaning name (static_places (statics_or_none (slice_get (map function_source fs) i))))
type_found fs i f cs name o n l h e =
    e
    ∙ ap (λ ps. type_at (map static f.function.now.statics.items) cs (meaning name ps)) (named_there fs i f n l h)
    ∙ ap (λ ss. type_at ss cs (meaning name (static_places ss))) (sym (statics_there fs i f l h))

pub function_found : (fs : List FunctionSource) (i : ℕ) (f : FunctionSource) (cs : Closeds) (name : List ℕ) (o : Option Closed) → AreNamed fs → i < length fs → f ≡ get_or fs i f → o ≡ function_at (map static f.function.now.statics.items) cs (meaning name f.statics) → o ≡ function_at (statics_or_none (slice_get (map function_source fs) i)) cs (meaning name (static_places (statics_or_none (slice_get (map function_source fs) i))))
function_found fs i f cs name o n l h e =
    e
    ∙ ap (λ ps. function_at (map static f.function.now.statics.items) cs (meaning name ps)) (named_there fs i f n l h)
    ∙ ap (λ ss. function_at ss cs (meaning name (static_places ss))) (sym (statics_there fs i f l h))

pub type_missing : (fs : List FunctionSource) (i : ℕ) (cs : Closeds) (name : List ℕ) → length fs ≤ i → None ≡ type_at (statics_or_none (slice_get (map function_source fs) i)) cs (meaning name (static_places (statics_or_none (slice_get (map function_source fs) i))))
type_missing fs i cs name l = sym (ap (λ ss. type_at ss cs (meaning name (static_places ss))) (statics_past fs i l))

pub function_missing : (fs : List FunctionSource) (i : ℕ) (cs : Closeds) (name : List ℕ) → length fs ≤ i → None ≡ function_at (statics_or_none (slice_get (map function_source fs) i)) cs (meaning name (static_places (statics_or_none (slice_get (map function_source fs) i))))
function_missing fs i cs name l = sym (ap (λ ss. function_at ss cs (meaning name (static_places ss))) (statics_past fs i l))

pub within_given : (bs : List Branch) (is : List ℕ) (k : ℕ) (o : Option ℕ) → o ≡ slice_get is k → AreWithin bs is → NoneOrWithin bs o
within_given bs is k o e w = subst (NoneOrWithin bs) (sym e) (by is k w)
  where
    by : (is : List ℕ) (k : ℕ) → AreWithin bs is → NoneOrWithin bs (slice_get is k)
    by [] k w = tt
    by (i ∷ is) zero w = w.0
    by (i ∷ is) (suc k) w = by is k w.1
