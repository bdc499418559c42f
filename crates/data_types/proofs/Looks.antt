-- Look-ups in the lists of the code.
use Rattle.std.proofs.Common.{◌≡◌, ℕ, zero, suc, ◌+◌, ◌-◌, ◌<◌, ◌≤◌, Bool, true, List, [], ◌∷◌, length, map, slice_get, Some, None, refl, ap, sym, ◌∙◌, arith, get_or, drop, add-one}
use Rattle.std.proofs.lemmas.Option.{slice_get-get_or}
use Rattle.data_types.specs.Types as t
use Rattle.data_types.specs.Marks.{bit}
use Rattle.data_types.specs.View as v
use Rattle.fip_trees.specs.declared.decls.DeclaredType.{DeclaredType}
use Rattle.fip_trees.specs.declared.decls.FieldType.{FieldType}
use Rattle.fip_trees.specs.declared.decls.FieldType.TheOpen as O
use Rattle.fip_trees.specs.declared.decls.FieldType.TheVariants as V
use Rattle.fip_trees.specs.declared.decls.FieldType.TheFolds.{fold-roll-FieldType}
pub use Rattle.fip_language.proofs.Facts.{drop_at_next as drop_read, drop_end as drop_all, drop_next, get_at as read, get_map as map_at, get_map_past as map_past, map_length}

pub bit_some : (bs : List Bool) (k : ℕ) (b : Bool) → slice_get bs k ≡ Some b → b ≡ bit bs k
bit_some [] k b e = cc
bit_some (c ∷ bs) zero b e = cc
bit_some (c ∷ bs) (suc k) b e = bit_some bs k b e

pub bit_none : (bs : List Bool) (k : ℕ) → slice_get bs k ≡ None → true ≡ bit bs k
bit_none [] k e = refl
bit_none (c ∷ bs) zero e = cc
bit_none (c ∷ bs) (suc k) e = bit_none bs k e

pub constructors_at : (ds : List DeclaredType) (n : ℕ) (d : DeclaredType) → slice_get ds n ≡ Some d → t.constructors (v.declarations ds) n ≡ map v.fields d.constructors.items
constructors_at [] n d e = cc
constructors_at (x ∷ ds) zero d e = let f : x ≡ d = cc in ap (λ (y : DeclaredType). map v.fields y.constructors.items) f
constructors_at (x ∷ ds) (suc n) d e = constructors_at ds n d e

pub constructors_past : (ds : List DeclaredType) (n : ℕ) → length ds ≤ n → t.constructors (v.declarations ds) n ≡ []
constructors_past [] n h = refl
constructors_past (x ∷ ds) zero h = absurd (omega (arith, h))
constructors_past (x ∷ ds) (suc n) h = constructors_past ds n (omega (arith, h))

pub tys_read : (xs : List FieldType) (i : ℕ) (x : FieldType) → i < length xs → x ≡ get_or xs i x → v.tys (drop i xs) ≡ t.MoreTys (v.ty x) (v.tys (drop (i + 1) xs))
tys_read xs i x h e = ap v.tys (drop_read xs i x (read xs i x h e)) ∙ ap (λ j. t.MoreTys (v.ty x) (v.tys (drop j xs))) (sym (add-one i))

-- the view at a constructor
pub ty_applied : (n : ℕ) (ts : _) → v.ty (V.Applied n ts) ≡ t.Applied (n - 1) (v.tys ts.items)
ty_applied n ts = ap v.ty (sym (V.rolls-Applied n ts)) ∙ fold-roll-FieldType t.Ty v.ty_step (O.Applied n ts)

pub ty_int : v.ty V.Int ≡ t.Given
ty_int = ap v.ty (sym V.rolls-Int) ∙ fold-roll-FieldType t.Ty v.ty_step O.Int
