-- For the contracts of the code alone: what is numbered, and the instance whose trees are made.
use Rattle.std.specs.Prelude.{◌≡◌, ◌≤◌, ℕ, List, map, length, Option, Some, None}
use Rattle.fip_language.specs.Core as C
use Rattle.fip_language.specs.declared.Place.{Place}
use Rattle.fip_language.specs.declared.limits.TheConstants.{MOST_INSTANCES}
use Rattle.fip_base.specs.CoreView as V
use Rattle.fip_trees.specs.Tree as T
use Rattle.fip_trees.specs.TreeView as W
use Rattle.fip_base.specs.declared.plain.Param.{Param}
use Rattle.fip_trees.specs.Least.{after}
use Rattle.fip_trees.specs.declared.least.Violation.{Violation}
use Rattle.fip_trees.specs.declared.program.Binder.{Binder}
use Rattle.reached_instances.specs.declared.source.Source as D
use Rattle.reached_instances.specs.declared.source.Here.{Here}
use Rattle.static_params.specs.declared.table.Numbers as N
use Rattle.static_params.specs.declared.flatten.Flattening.{Flattening}
use Rattle.reached_instances.specs.closed_types.Closed.{Closed}
use Rattle.static_params.specs.Answers.{AreFew, Names}
use Rattle.static_params.specs.FlatProgram.{Numbers, flat_binder, flat_block, flat_clauses, flat_expression}
use Rattle.static_params.specs.FlatProgram.{flat_call, flat_parameter, flat_pattern, flat_patterns, flat_type}
use Rattle.reached_instances.specs.closed_types.Instances.{all_faults, ArePassed}
use Rattle.reached_instances.specs.closed_types.TypeInstances.{AreTypes}
use Rattle.reached_instances.specs.KnownFits.{IsRight}
use Rattle.reached_instances.specs.closed_types.SharedTrees.{AreWithin, Grows, Kept, all_at, trees}
use Rattle.reached_instances.specs.closed_types.Source.{Source, Instance}
use Rattle.reached_instances.specs.SourceView.{instance, source}

-- the trees that are numbered
abbrev pub numbers_at : List Closed → N.Numbers → Numbers
numbers_at ts ns = record { instances = all_at ts ns.instances; types = all_at ts ns.types }

-- what is numbered is at these places, and is few
pub record AreNumbers (k : Kept) (ns : N.Numbers) : Type 0 where
  pub instances : AreWithin k.branches ns.instances
  pub types : AreWithin k.branches ns.types
  pub few : length ns.instances ≤ MOST_INSTANCES
  pub few_types : length ns.types ≤ MOST_INSTANCES

-- at these places are the types that these instances have
pub record IsTypes (s : D.Source) (is : List Closed) (k : Kept) (ts : List ℕ) : Type 0 where
  pub within : AreWithin k.branches ts
  pub few : length ts ≤ MOST_INSTANCES
  pub passed : List Closed
  pub given : ArePassed is passed
  pub types : AreTypes (source s) is passed (all_at (trees k.branches) ts)

-- what is numbered is right, and this is the least violation of a use
pub record IsNumbered (s : D.Source) (ns : N.Numbers) (k : Kept) (o : Option Violation) : Type 0 where
  pub right : IsRight s k
  pub numbers : AreNumbers k ns
  pub few : AreFew (source s) (numbers_at (trees k.branches) ns)
  pub least : o ≡ after None (all_faults (source s) (numbers_at (trees k.branches) ns).instances)

-- a violation is noted, and it is the one that is named
abbrev pub IsNamed : Source → Option Violation → Type 0
IsNamed s o = (v : Violation) × (o ≡ Some v) × Names s v

-- what a program is made of, and the instance that is made
pub record Making : Type 0 where
  pub source : Source
  pub numbers : Numbers
  pub here : Instance

abbrev pub making_of : D.Source → N.Numbers → Here → Kept → Making
making_of s ns here k = record {
  source = source s;
  numbers = numbers_at (trees k.branches) ns;
  here = instance (trees k.branches) here;
}

abbrev pub making : Flattening → Making
making f = making_of f.source.now f.numbers.now f.here f.shared

-- what is looked up, what is numbered and what is given is right
pub record IsMakingOf (s : D.Source) (ns : N.Numbers) (here : Here) (k : Kept) : Type 0 where
  pub right : IsRight s k
  pub numbers : AreNumbers k ns
  pub given : AreWithin k.branches here.given.items

abbrev pub IsMaking : Flattening → Type 0
IsMaking f = IsMakingOf f.source.now f.numbers.now f.here f.shared

-- other trees came after, which changes nothing of what is made
pub record Stays (f g : Flattening) : Type 0 where
  pub ready : IsMaking g
  pub grows : Grows f.shared.branches g.shared.branches
  pub same : making g ≡ making f

-- the same with another instance
pub record GoesOn (f g : Flattening) : Type 0 where
  pub ready : IsMaking g
  pub grows : Grows f.shared.branches g.shared.branches
  pub source : (making g).source ≡ (making f).source
  pub numbers : (making g).numbers ≡ (making f).numbers

abbrev pub type_in : Making → C.Written → ℕ
type_in m = flat_type m.source m.numbers m.here

abbrev pub call_in : Making → C.Name → Place → C.Writtens → ℕ
call_in m = flat_call m.source m.numbers m.here

abbrev pub binder_in : Making → C.Binder → Binder
binder_in m = flat_binder m.source m.numbers m.here

abbrev pub parameter_in : Making → C.Parameter → Param
parameter_in m = flat_parameter m.source m.numbers m.here

abbrev pub bound_parameter_in : Making → C.Parameter → Binder
bound_parameter_in m p = binder_in m p.binder

abbrev pub pattern_in : Making → C.Pattern → T.Pattern
pattern_in m = flat_pattern m.source m.numbers m.here

abbrev pub patterns_in : Making → C.Patterns → T.Patterns
patterns_in m = flat_patterns m.source m.numbers m.here

abbrev pub expression_in : Making → C.Expression → T.Expression
expression_in m = flat_expression m.source m.numbers m.here

abbrev pub block_in : Making → C.Block → T.Block
block_in m = flat_block m.source m.numbers m.here

abbrev pub clauses_in : Making → C.Clauses → T.Clauses
clauses_in m = flat_clauses m.source m.numbers m.here

-- a let without its body
abbrev pub bound_in : Making → V.BoundPart → W.BoundPart
bound_in m b = record { binders = map (binder_in m) b.binders; bound = expression_in m b.bound }

abbrev pub case_in : Making → V.Case → W.Case
case_in m c = record { pattern = pattern_in m c.pattern; body = block_in m c.body }
