-- What the values of the code stand for.
use Rattle.std.specs.Prelude.{◌≡◌, ℕ, ◌+◌, ◌<◌, length, List, [], map, Option, Some, None}
use Rattle.fip_base.specs.fip_language.Core.{Function}
use Rattle.fip_base.specs.fip_language.Every.{Every}
use Rattle.fip_base.specs.CoreView.{block, function, static, written}
use Rattle.fip_base.specs.declared.core_form.Core.{Core}
use Rattle.fip_trees.specs.declared.decls.Decls.{Decls}
use Rattle.reached_instances.specs.declared.source.Source as D
use Rattle.reached_instances.specs.declared.source.FunctionSource.{FunctionSource}
use Rattle.reached_instances.specs.declared.source.Here.{Here}
use Rattle.closed_types.specs.declared.closed.Head.TheVariants as H
use Rattle.closed_types.specs.Closed.{Closed, Closeds, Applied}
use Rattle.closed_types.specs.Source.{Source}
use Rattle.closed_types.specs.Source.{Instance}
use Rattle.closed_types.specs.Source.{is_bare, static_places}
use Rattle.closed_types.specs.TypeInstances.{written_in_header}
use Rattle.closed_types.specs.SharedTrees.{Branch, tree_at, trees, trees_at, AreWithin}
use Rattle.closed_types.specs.MentionsView.{heard, hears_block, nothing}
pub use Rattle.closed_types.specs.DeclaredView.{tys_of, ty, constructor, declared, declared_with}

abbrev pub function_source : FunctionSource → Function
function_source f = function f.function.now

-- a program with these declarations
abbrev pub source_of : Core → Decls → Source
source_of core decls = declared_with decls (map function core.functions.items)

abbrev pub source : D.Source → Source
source s = declared_with s.decls.now (map function_source s.functions.items)

-- what is looked up once of a function is right
pub record IsFunctionRight (decls : Decls) (f : FunctionSource) : Type 0 where
  pub headed : map (λ w. written w.now) f.header.items ≡ written_in_header (function f.function.now)
  pub named : f.statics ≡ static_places (map static f.function.now.statics.items)
  pub heard : heard f.mentions ≡ hears_block (declared_with decls []) (nothing (length f.function.now.parameters.items))
      (block f.function.now.body)

-- the static parameters of each are looked up by their names
abbrev pub AreNamed : List FunctionSource → Type 0
AreNamed fs = Every (λ (f : FunctionSource). f.statics ≡ static_places (map static f.function.now.statics.items)) fs

-- what has been heard of each body
abbrev pub AreHeard : Decls → List FunctionSource → Type 0
AreHeard decls fs =
    Every (λ (f : FunctionSource). heard f.mentions ≡
    hears_block (declared_with decls []) (nothing (length f.function.now.parameters.items))
    (block f.function.now.body)) fs

-- the types in each header
abbrev pub AreHeaded : List FunctionSource → Type 0
AreHeaded fs =
    Every (λ (f : FunctionSource). map (λ w. written w.now) f.header.items ≡
    written_in_header (function f.function.now)) fs

-- what is looked up once is right
pub record IsLookedUp (s : D.Source) : Type 0 where
  pub headed : AreHeaded s.functions.items
  pub named : AreNamed s.functions.items
  pub heard : AreHeard s.decls.now s.functions.items
  pub scalars : s.scalars.items ≡ map is_bare (map declared s.decls.now.types.items)

-- what is given are the trees at these places
abbrev pub instance : List Closed → Here → Instance
instance ts here = record { function = here.function; given = trees_at ts here.given.items }

-- what an instance is asked for is right
pub record IsReady (s : D.Source) (bs : List Branch) (here : Here) : Type 0 where
  pub looked_up : IsLookedUp s
  pub within : AreWithin bs here.given.items

-- the function at a place, or none stands there
pub record IsFunctionAt (bs : List Branch) (place number : ℕ) (here : Here) : Type 0 where
  pub tree : tree_at (trees bs) place ≡ Applied (H.Function here.function) (trees_at (trees bs) here.given.items)
  pub within : AreWithin bs here.given.items
  pub numbered : here.number ≡ number

abbrev pub IsHere : List Branch → ℕ → ℕ → Option Here → Type 0
IsHere bs place number None = (f : ℕ) (cs : Closeds) → tree_at (trees bs) place ≡ Applied (H.Function f) cs → ⊥
IsHere bs place number (Some here) = IsFunctionAt bs place number here

-- the function that is asked for, which stands at a place
pub record IsAsked (bs : List Branch) (place : ℕ) (there : Here) : Type 0 where
  pub stands : place < length bs + 1
  pub tree : tree_at (trees bs) place ≡ Applied (H.Function there.function) (trees_at (trees bs) there.given.items)
  pub within : AreWithin bs there.given.items
