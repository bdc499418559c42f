-- Steps of walks over lists.
use Rattle.std.proofs.Common.{◌≡◌, ℕ, zero, suc, ◌+◌, ◌<◌, List, [], ◌∷◌, drop, length, map, slice_index_or, Option, Some, None, refl, sym, ap, ◌∙◌, arith, add-one}
use Rattle.type_check.specs.declared.expected.Wants.{Wants}
use Rattle.type_check.specs.declared.expected.Wants.TheVariants.{Nothing, Known, Partial}
use Rattle.type_check.specs.Found.{first_type, others, unknowns, known, first_wanted}
use Rattle.type_check.specs.Wanted.{expects, types_of}

abbrev no_types : List (Option ℕ)
no_types = []

drop_none : (j : ℕ) → drop j no_types ≡ []
drop_none zero = refl
drop_none (suc j) = refl

pub others_drop : (ts : List (Option ℕ)) (j : ℕ) → others (drop j ts) ≡ drop (j + 1) ts
others_drop [] j = rw (drop_none j, drop_none (j + 1)) refl
others_drop (t ∷ ts) zero = refl
others_drop (t ∷ ts) (suc j) = others_drop ts j ∙ ap (λ k. drop k ts) (add-one j) ∙ sym (ap (λ k. drop k (t ∷ ts)) (add-one (suc j)))

pub unknowns_next : (ts : List (Option ℕ)) (i : ℕ) → i < length ts → unknowns (drop i ts) ≡ None ∷ unknowns (drop (i + 1) ts)
unknowns_next [] i h = absurd (omega arith)
unknowns_next (t ∷ ts) zero h = refl
unknowns_next (t ∷ ts) (suc i) h = unknowns_next ts i (omega arith) ∙ ap (λ k. None ∷ unknowns (drop k ts)) (add-one i) ∙ sym (ap (λ k. None ∷ unknowns (drop k (t ∷ ts))) (add-one (suc i)))

pub first_known : (ts : List ℕ) (j : ℕ) → j < length ts → Some (slice_index_or ts j 0) ≡ first_type (drop j (map Some ts))
first_known [] j h = absurd (omega arith)
first_known (t ∷ ts) zero h = refl
first_known (t ∷ ts) (suc j) h = first_known ts j (omega arith)

pub known_wanted : (w : Wants) (j : ℕ) → known (first_wanted (expects w) (drop j (types_of w))) ≡ first_type (drop j (types_of w))
known_wanted Nothing j = rw (drop_none j) refl
known_wanted (Known ts) j = refl
known_wanted (Partial ts) j = refl
