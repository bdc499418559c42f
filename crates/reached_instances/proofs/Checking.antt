-- Whether functions that are passed fit, where it is known what is given beside them, and where it isn't.
use Rattle.std.proofs.Common.{◌≡◌, ◌+◌, ◌<◌, ℕ, Bool, false, Option, Some, None, List, [], length, Vec, Global, ap, sym, subst, ◌∙◌}
use Rattle.fip_base.specs.fip_language.Core.{Writtens}
use Rattle.closed_types.specs.declared.closed.Head.{Head}
use Rattle.closed_types.specs.declared.closed.Head.TheVariants as H
use Rattle.reached_instances.specs.declared.source.Here.{Here}
use Rattle.closed_types.specs.Closed.{Closed, Closeds, Applied, arguments_of, head_of}
use Rattle.closed_types.specs.SharedTrees.{Branch, tree_at, trees, trees_at}
use Rattle.closed_types.specs.Source.{Instance, Source, statics_at}
use Rattle.reached_instances.specs.SourceView.{IsAsked, IsFunctionAt, IsHere, instance}
use Rattle.closed_types.specs.Uses.{all_fit, fit_if_known, misfits, misfits_if_known, types_given}
use Rattle.closed_types.specs.UsesView.{trees_of}

function_or : Option Head → ℕ
function_or None = 0
function_or (Some (H.«Type» n)) = 0
function_or (Some (H.Function f)) = f

same_function : (f g : ℕ) (cs ds : Closeds) → Applied (H.Function f) cs ≡ Applied (H.Function g) ds → (f ≡ g) × (cs ≡ ds)
unfolding function_or
same_function f g cs ds e = (ap (λ (c : Closed). function_or (head_of c)) e, ap arguments_of e)

-- the function that was put at a place is asked for
pub here_is : (bs cs : List Branch) (place f i : ℕ) (is : List ℕ) (o : Option Here) (there : Here) → o ≡ Some there → IsHere cs place i o → place < length cs + 1 → tree_at (trees cs) place ≡ Applied (H.Function f) (trees_at (trees bs) is) → IsAsked cs place there × (instance (trees cs) there ≡ record { function = f; given = trees_at (trees bs) is })
here_is bs cs place f i is o there e h w t =
    let at : IsFunctionAt cs place i there = subst (λ (x : Option Here). IsHere cs place i x) e h in
    let same = same_function there.function f (trees_at (trees cs) there.given.items) (trees_at (trees bs) is) (sym at.tree ∙ t) in
    let one = same.0 in
    let two = same.1 in
    (record { stands = w; tree = at.tree; within = at.within }, λ k. record { function = one k; given = two k })

pub fit_known : (s : Source) (f : ℕ) (ts : List Closed) (v : Vec ℕ Global) (o : Option (Vec ℕ Global)) (os : List (Option Closed)) (there : Instance) (fit : Bool) → there ≡ record { function = f; given = trees_at ts v.items } → o ≡ Some v → trees_of ts o ≡ types_given (statics_at s f) os → fit ≡ all_fit s there (statics_at s there.function) os → fit ≡ fit_if_known s f (statics_at s f) os (types_given (statics_at s f) os)
fit_known s f ts v o os there fit e some given h =
    h
    ∙ ap (λ (j : Instance). all_fit s j (statics_at s j.function) os) e
    ∙ ap (fit_if_known s f (statics_at s f) os) (sym (ap (trees_of ts) some) ∙ given)

pub misfits_known : (s : Source) (i f : ℕ) (ws : Writtens) (ts : List Closed) (v : Vec ℕ Global) (o : Option (Vec ℕ Global)) (os : List (Option Closed)) (there : Instance) → there ≡ record { function = f; given = trees_at ts v.items } → o ≡ Some v → trees_of ts o ≡ types_given (statics_at s f) os → misfits s i there (statics_at s there.function) ws os ≡ misfits_if_known s i f ws os (types_given (statics_at s f) os)
misfits_known s i f ws ts v o os there e some given =
    ap (λ (j : Instance). misfits s i j (statics_at s j.function) ws os) e
    ∙ ap (misfits_if_known s i f ws os) (sym (ap (trees_of ts) some) ∙ given)

pub fit_unknown : (s : Source) (f : ℕ) (ts : List Closed) (o : Option (Vec ℕ Global)) (os : List (Option Closed)) → o ≡ None → trees_of ts o ≡ types_given (statics_at s f) os → false ≡ fit_if_known s f (statics_at s f) os (types_given (statics_at s f) os)
fit_unknown s f ts o os none given = ap (fit_if_known s f (statics_at s f) os) (sym (ap (trees_of ts) none) ∙ given)

pub misfits_unknown : (s : Source) (i f : ℕ) (ws : Writtens) (ts : List Closed) (o : Option (Vec ℕ Global)) (os : List (Option Closed)) → o ≡ None → trees_of ts o ≡ types_given (statics_at s f) os → [] ≡ misfits_if_known s i f ws os (types_given (statics_at s f) os)
misfits_unknown s i f ws ts o os none given = ap (misfits_if_known s i f ws os) (sym (ap (trees_of ts) none) ∙ given)
