-- What a written value is as a value of a type, and which function of a program a name calls.
use Rattle.std.specs.Prelude.{◌≡◌, ◌≢◌, ℕ, zero, suc, true, List, [], ◌∷◌, Some, slice_get, FitsSigned}
use Rattle.std.specs.Int.{w64}
use Rattle.command_outcome.specs.fip_language.declared.FunKind.TheVariants.{Fun}
use Rattle.command_outcome.specs.fip_language.Core.{Name}
use Rattle.command_outcome.specs.fip_language.Values.{Value, Int, Node, Values, End, More}
use Rattle.command_outcome.specs.fip_language.Table.{Shape, Table, shapes}
use Rattle.instance_semantics.specs.fip_trees.Tree.{Instance, Program}
use Rattle.session_semantics.specs.Lines.{Written, Number, Named, Parts, NoParts, MoreParts}

-- Cons(1, Nil) is a value of the lists of ints, and Cons(Nil, 1) of no type.
abbrev mutual
  pub IsValue : Table → ℕ → Written → Value → Type 0
  IsValue tb zero (Number i) (Int j) = (i ≡ j) × FitsSigned w64 i
  IsValue tb (suc t) (Named name ws) (Node c vs) = (s : Shape) × (slice_get (shapes tb t) c ≡ Some s)
      × (s.name ≡ name) × AreValues tb s.fields ws vs
  IsValue tb t w v = ⊥

  pub AreValues : Table → List ℕ → Parts → Values → Type 0
  AreValues tb [] NoParts End = Unit {0}
  AreValues tb (k ∷ ks) (MoreParts w ws) (More v vs) = IsValue tb k w v × AreValues tb ks ws vs
  AreValues tb ks ws vs = ⊥

-- Instance i is called by this name: it is a fip or fbip function of the source, without static parameters.
pub record IsEntry (p : Program) (name : Name) (i : ℕ) (d : Instance) : Type 0 where
  pub there : slice_get p.instances i ≡ Some d
  pub root : d.root ≡ true
  pub named : d.name ≡ name
  pub runs : d.kind ≢ Fun
