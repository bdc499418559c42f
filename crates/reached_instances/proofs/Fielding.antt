-- The types of fields, and the places at which they stand.
use Rattle.std.proofs.Common.{◌≡◌, ℕ, zero, suc, ◌+◌, ◌<◌, List, [], ◌∷◌, ◌++◌, length, map, get_or, Vec, Global, refl, ap, sym, ◌∙◌, arith}
use Rattle.fip_trees.specs.declared.decls.FieldType.{FieldType}
use Rattle.fip_trees.specs.declared.decls.FieldType.TheOpen as F
use Rattle.fip_trees.specs.declared.decls.FieldType.TheVariants as FV
use Rattle.fip_trees.specs.declared.decls.FieldType.TheFolds.{fold-roll-FieldType}
use Rattle.closed_types.specs.Closed.{Closed, Closeds, Int, MoreClosed, row}
use Rattle.closed_types.specs.Source.{Ty, Plain, Parameter, Of}
use Rattle.closed_types.specs.SharedTrees.{AreWithin, Branch, all_at, tree_at, trees_at}
use Rattle.closed_types.specs.DeclaredView.{ty, ty_step, tys_of}
use Rattle.closed_types.specs.TypeInstances.{field_type, field_types, pick, unless_int, unless_ints}
use Rattle.fip_base.specs.fip_language.Mentions.{all_of}

-- ---- the view of a field's type

pub ty_int : ty FV.Int ≡ Plain
ty_int = ap ty (sym FV.rolls-Int) ∙ fold-roll-FieldType Ty ty_step F.Int

pub ty_parameter : (k : ℕ) → ty (FV.Parameter k) ≡ Parameter k
ty_parameter k = ap ty (sym (FV.rolls-Parameter k)) ∙ fold-roll-FieldType Ty ty_step (F.Parameter k)

pub ty_applied : (n : ℕ) (ts : Vec FieldType Global) → ty (FV.Applied n ts) ≡ Of n (tys_of (map ty ts.items))
ty_applied n ts = ap ty (sym (FV.rolls-Applied n ts)) ∙ fold-roll-FieldType Ty ty_step (F.Applied n ts)

-- ---- trees at places

-- what is given for a parameter; int for one that isn't there
pub pick_at : (ts : List Closed) (is : List ℕ) (k : ℕ) → get_or ts 0 Int ≡ Int → pick (trees_at ts is) k ≡ tree_at ts (get_or is k 0)
pick_at ts [] k e = sym e
pick_at ts (i ∷ is) zero e = refl
pick_at ts (i ∷ is) (suc k) e = pick_at ts is k e

pub pick_within : (bs : List Branch) (is : List ℕ) (k : ℕ) → AreWithin bs is → get_or is k 0 < length bs + 1
pick_within bs [] k w = omega arith
pick_within bs (i ∷ is) zero w = w.0
pick_within bs (i ∷ is) (suc k) w = pick_within bs is k w.1

pub rowed : (ts : List Closed) (is : List ℕ) → trees_at ts is ≡ row (all_at ts is)
rowed ts [] = refl
rowed ts (i ∷ is) = ap (MoreClosed (tree_at ts i)) (rowed ts is)

pub fields_row : (cs : Closeds) (ts : List Ty) → row (map (field_type cs) ts) ≡ field_types cs (tys_of ts)
fields_row cs [] = refl
fields_row cs (t ∷ ts) = ap (MoreClosed (field_type cs t)) (fields_row cs ts)

-- a row of types without int
pub unless_row : (cs : List Closed) → unless_ints (row cs) ≡ all_of unless_int cs
unless_row [] = refl
unless_row (c ∷ cs) = ap (λ l. unless_int c ++ l) (unless_row cs)

pub unless_at : (ts : List Closed) (is : List ℕ) → unless_ints (trees_at ts is) ≡ all_of unless_int (all_at ts is)
unless_at ts is = ap unless_ints (rowed ts is) ∙ unless_row (all_at ts is)
