-- It serves the proofs on lowered code: what is known at the entry of a clause's body. Each variable of the pattern has
-- the register of its position; where cells are taken apart, those of constructors with fields are credits, and a
-- constructor without fields can be used again.
use Rattle.std.specs.Prelude.{◌≡◌, ℕ, suc, Bool, true, false, ◌||◌, List, Option, Some, None}
use Rattle.std.specs.Prelude.{slice_get, slice_set, get_or, if◌then◌else◌, ◌⊎◌}
use Rattle.tree_semantics.specs.fip_language.Values.{Value, Node, End}
use Rattle.tree_semantics.specs.fip_language.Matching.{Binding}
use Rattle.tree_semantics.specs.fip_language.Meaning.{nothing_bound, bind_matched}
use Rattle.tree_semantics.specs.fip_language.Every.{Among}
use Rattle.credit_check.specs.fip_trees.declared.program.Binder.{Binder}
use Rattle.credit_check.specs.fip_trees.Tree.{Pattern, BinderPattern, LiteralPattern, ConstructorPattern, Patterns, NoPatterns}
use Rattle.credit_check.specs.fip_trees.Tree.{MorePatterns, count_patterns}
use Rattle.tree_semantics.specs.Contents.{Contents}
use Rattle.lowering_relation.specs.declared.held.Held.{Held}
use Rattle.lowering_relation.specs.declared.held.Held.TheVariants as H
use Rattle.lowering_relation.specs.Known.{Known, register_of, holding, naming, using, used}
use Rattle.lowering_relation.specs.Values.{Setting, is_scalar}
use Rattle.lowering_relation.specs.LoweredBodies.{given}
use Rattle.lowering_relation.specs.LoweredFunctions.{with_credit}
use Rattle.lowering_relation.specs.Choosing.{binders_of}
use Rattle.lowering_relation.specs.Spots.{Spot, At, Spots, NoSpots, MoreSpots}
use Rattle.lowering_relation.specs.Opening.{is_named}

-- a variable has no register any more
abbrev pub unnaming : Known → ℕ → Known
unnaming k x = record k { names = slice_set k.names x None }

-- what the register of a pattern's variable holds: a tree of its own, or one that is read
abbrev pub variable_held : Setting → Bool → Option ℕ → ℕ → Held
variable_held s takes root t = if takes || is_scalar s t then given s t else H.Lent t root

abbrev pub with_variable : Setting → Bool → Option ℕ → Binder → ℕ → Known → Known
with_variable s takes root b r k =
    if takes || is_named b then holding (naming k b.number r) r (variable_held s takes root b.ty)
    else unnaming k b.number

abbrev pub with_cell : Setting → Bool → ℕ → ℕ → Patterns → ℕ → Known → Known
with_cell s false t c ps r k = k
with_cell s true t c NoPatterns r k = if is_scalar s t then k else holding k r (H.Bare t c)
with_cell s true t c (MorePatterns p ps) r k = with_credit k (suc (count_patterns ps)) r

abbrev mutual
  pub entering : Setting → Bool → Option ℕ → Pattern → Spot → Known → Known
  entering s takes root (BinderPattern b) (At r fs) k = with_variable s takes root b r k
  entering s takes root (LiteralPattern i p) (At r fs) k = k
  entering s takes root (ConstructorPattern t d c n p ps) (At r fs) k =
      entering_all s takes root ps fs (with_cell s takes t c ps r k)

  pub entering_all : Setting → Bool → Option ℕ → Patterns → Spots → Known → Known
  entering_all s takes root NoPatterns ss k = k
  entering_all s takes root (MorePatterns p ps) NoSpots k = k
  entering_all s takes root (MorePatterns p ps) (MoreSpots q ss) k =
      entering_all s takes root ps ss (entering s takes root p q k)

-- the register in whose tree lies what is read of a tree in register r
abbrev pub root_of : ℕ → Held → Option ℕ
root_of r H.Nothing = None
root_of r (H.Scalar t) = None
root_of r (H.Owned t b) = Some r
root_of r (H.Lent t root) = root
root_of r (H.Credit n) = None
root_of r (H.Bare t c) = None

abbrev pub spent_if : Bool → ℕ → Known → Known
spent_if takes r k = if takes then using k (used k.held r) else k

-- from the scrutinee on; a variable is another name of it
abbrev pub entering_root : Setting → Bool → Pattern → Spot → Known → Known
entering_root s takes (BinderPattern b) (At r fs) k = naming k b.number r
entering_root s takes (LiteralPattern i p) (At r fs) k = k
entering_root s takes (ConstructorPattern t d c n p ps) (At r fs) k =
    entering s takes (root_of r (get_or k.held r H.Nothing)) (ConstructorPattern t d c n p ps) (At r fs)
    (spent_if takes r k)

-- what is known is so, after the pattern bound these
pub record IsSo (k0 k : Known) (bs : List Binding) (cs : Contents) : Type 0 where
  pub names : (x r : ℕ) → register_of k.names (Some x) ≡ Some r →
      Among x (binders_of bs) ⊎ (register_of k0.names (Some x) ≡ Some r)
  pub bound : (x r : ℕ) (v : Value) → register_of k.names (Some x) ≡ Some r →
      bind_matched nothing_bound bs x ≡ Some v → cs r ≡ v
  pub bares : (r t c : ℕ) → slice_get k.held r ≡ Some (H.Bare t c) →
      (slice_get k0.held r ≡ Some (H.Bare t c)) ⊎ (cs r ≡ Node c End)
