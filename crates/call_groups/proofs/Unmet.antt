-- How many functions weren't met, after what the search has of one is written.
use Rattle.std.proofs.Common.{◌≡◌, ℕ, zero, suc, ◌<◌, ◌≤◌, List, [], ◌∷◌, Some, set, arith, refl}
use Rattle.std.proofs.lemmas.Option.{none-some}
use Rattle.call_groups.specs.Search.{one_if_new, unmet, IsNew}
use Rattle.call_groups.specs.declared.search.Standing.{Standing}
use Rattle.call_groups.specs.declared.search.Standing.TheVariants.{New, OnPath, Grouped}

is_one : (s : Standing) → Some s ≡ Some New → one_if_new s ≡ 1
is_one New h = refl
is_one (OnPath p) h = search
is_one (Grouped g) h = search

pub unmet_met : (ss : List Standing) (f : ℕ) (s : Standing) → IsNew ss f → one_if_new s ≡ 0 → unmet (set ss f s) < unmet ss
unmet_met [] f s h e = absurd (none-some New h)
unmet_met (t ∷ ss) zero s h e = let one : one_if_new t ≡ 1 = is_one t h in omega arith
unmet_met (t ∷ ss) (suc f) s h e = let less : unmet (set ss f s) < unmet ss = unmet_met ss f s h e in omega arith

pub unmet_put : (ss : List Standing) (f : ℕ) (s : Standing) → one_if_new s ≡ 0 → unmet (set ss f s) ≤ unmet ss
unmet_put [] f s e = omega arith
unmet_put (t ∷ ss) zero s e = omega arith
unmet_put (t ∷ ss) (suc f) s e = let less : unmet (set ss f s) ≤ unmet ss = unmet_put ss f s e in omega arith
