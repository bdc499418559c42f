-- What the calls on cells answer, of a cell that is known.
use Rattle.std.proofs.Common.{◌≡◌, ℕ, ◌<◌, Some, None, sym, ap, ◌∙◌, subst, length}
use Rattle.std.specs.Prelude.{Option, slice_get, option_map, option_and_then}
use Rattle.fip_language.specs.Store.{Cell}
use Rattle.cell_store.specs.Cells.{Cells, cell_at, size_of, size_in}

pub size_is : (cs : Cells) (p n : ℕ) (x : Cell) → cell_at cs p ≡ Some x → option_map size_of (cell_at cs p) ≡ Some n → n ≡ length x.fields
size_is cs p n x e h = let k : Some (length x.fields) ≡ Some n = sym (ap (option_map size_of) e) ∙ h in cc

pub tag_is : (cs : Cells) (p n : ℕ) (x : Cell) → cell_at cs p ≡ Some x → option_map (λ (c : Cell). c.tag) (cell_at cs p) ≡ Some n → n ≡ x.tag
tag_is cs p n x e h = let k : Some x.tag ≡ Some n = sym (ap (option_map (λ (c : Cell). c.tag)) e) ∙ h in cc

pub field_is : (cs : Cells) (p i w : ℕ) (x : Cell) → cell_at cs p ≡ Some x → option_and_then (λ (c : Cell). slice_get c.fields i) (cell_at cs p) ≡ Some w → slice_get x.fields i ≡ Some w
field_is cs p i w x e h = sym (ap (option_and_then (λ (c : Cell). slice_get c.fields i)) e) ∙ h

pub within : (cs : Cells) (p i n : ℕ) (x : Cell) → cell_at cs p ≡ Some x → n ≡ length x.fields → i < n → i < size_in (cell_at cs p)
within cs p i n x e s l = subst (λ o. i < size_in o) (sym e) (subst (λ n. i < n) s l)

pub size_in_is : (o : Option Cell) (n : ℕ) → option_map size_of o ≡ Some n → size_in o ≡ n
size_in_is None n e = cc
size_in_is (Some c) n e = cc
