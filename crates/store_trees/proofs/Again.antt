-- What is released may be given up again.
use Rattle.std.proofs.Common.{◌≡◌, ℕ, zero, suc, Bool, true, List, [], ◌∷◌, Some, None, Option, slice_get, slice_set, refl, sym, ap}
use Rattle.std.proofs.lemmas.Option.{none-some, same_Some}
use Rattle.fip_base.specs.fip_language.Store.{Cell}
use Rattle.store_trees.specs.GivenUp.{given_up}

set_again : (rs : List Bool) (p : ℕ) → slice_get rs p ≡ Some true → slice_set rs p true ≡ rs
set_again [] p e = absurd (none-some true e)
set_again (r ∷ rs) zero e = ap (λ b. b ∷ rs) (let same : true ≡ r = cc in same)
set_again (r ∷ rs) (suc p) e = ap (λ bs. r ∷ bs) (set_again rs p e)

pub released_already : (o : Option Cell) (rs : List Bool) (p : ℕ) → slice_get rs p ≡ Some true → rs ≡ given_up o p rs
released_already None rs p e = refl
released_already (Some c) rs p e = sym (set_again rs p e)

pub none_there : (o : Option Cell) (rs : List Bool) (p : ℕ) → ((o ≡ None → ⊥) → ⊥) → rs ≡ given_up o p rs
none_there None rs p never = refl
none_there (Some c) rs p never = absurd (never (λ e. none-some c (sym e)))
