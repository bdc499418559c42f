-- Which cells are released after others that are given up: those of these places too, and no other.
use Rattle.std.proofs.Common.{◌≡◌, ◌⊎◌, inl, inr, ℕ, zero, suc, ◌+◌, ◌<◌, ◌≤◌, Bool, true, false, List, [], ◌∷◌, length, Option, Some, None, slice_get, slice_set, refl, ap, ◌∙◌, subst, arith, nat_eq}
use Rattle.std.proofs.lemmas.Bool.Decides.{nat_tests}
use Rattle.std.proofs.lemmas.Option.{none-some}
use Rattle.tree_refinement.specs.fip_language.Store.{Cell, one_at, count}
use Rattle.cell_store.specs.Cells.{Cells, cell_at}
use Rattle.tree_refinement.specs.machine_semantics.Cells.{one_if_some, one_if_true}
use Rattle.store_trees.specs.GivenUp.{given_up, all_given_up}
use Rattle.tree_refinement.proofs.tree_semantics.machine_semantics.cell_code.fip_base.fip_language.Facts.{get_set_flag as flag_other, same_or_apart as same_place, set_flag_length as length_flags}

-- ---- flags

abbrev flag : List Bool → ℕ → ℕ
flag rs q = one_if_true (slice_get rs q)

one_here : (p q : ℕ) → p ≡ q → one_at q p ≡ 1
one_here p q e = grind (arith, nat_tests)

one_apart : (p q : ℕ) → (p ≡ q → ⊥) → one_at q p ≡ 0
one_apart p q off = grind (arith, nat_tests)

flag_here : (rs : List Bool) (p : ℕ) → p < length rs → flag (slice_set rs p true) p ≡ 1
flag_here [] p h = absurd (let z : ⊥ = omega (arith, h) in z)
flag_here (r ∷ rs) zero h = refl
flag_here (r ∷ rs) (suc p) h = flag_here rs p (omega (arith, h))

within : (cs : Cells) (p : ℕ) (c : Cell) → cell_at cs p ≡ Some c → p < length cs
within [] p c e = absurd (none-some c e)
within (o ∷ os) zero c e = omega arith
within (o ∷ os) (suc p) c e = let h = within os p c e in omega (arith, h)

-- ---- one cell

pub record GivesUp (cs : Cells) (p : ℕ) (old new : List Bool) : Type 0 where
  pub long : length new ≡ length old
  pub here : length old ≡ length cs → flag old p ≤ one_if_some (cell_at cs p) → flag new p ≡ one_if_some (cell_at cs p)
  pub other : (q : ℕ) → (p ≡ q → ⊥) → flag new q ≡ flag old q

gives_up_none : (cs : Cells) (p : ℕ) (rs : List Bool) → cell_at cs p ≡ None → GivesUp cs p rs rs
gives_up_none cs p rs e = record {
  long = refl;
  here = λ wide few. (let z = ap one_if_some e in omega (arith, z, few));
  other = λ q off. refl;
}

gives_up_some : (cs : Cells) (p : ℕ) (c : Cell) (rs : List Bool) → cell_at cs p ≡ Some c → GivesUp cs p rs (slice_set rs p true)
gives_up_some cs p c rs e = record {
  long = length_flags rs p;
  here = λ wide few. (let z = ap one_if_some e in let w = within cs p c e in let f = flag_here rs p (omega (arith, wide, w)) in omega (arith, z, f));
  other = λ q off. ap one_if_true (flag_other rs p q off);
}

gives_up : (cs : Cells) (p : ℕ) (rs : List Bool) → GivesUp cs p rs (given_up (cell_at cs p) p rs)
gives_up cs p rs = by (cell_at cs p) refl
  where
    by : (o : Option Cell) → cell_at cs p ≡ o → GivesUp cs p rs (given_up o p rs)
    by None e = gives_up_none cs p rs e
    by (Some c) e = gives_up_some cs p c rs e

-- ---- all of them

-- cells at places that are given up are released, and the others are as they were
pub record AllGivenUp (cs : Cells) (ps : List ℕ) (old new : List Bool) : Type 0 where
  pub long : length new ≡ length old
  pub here : (q : ℕ) → 0 < count q ps → flag new q ≡ one_if_some (cell_at cs q)
  pub other : (q : ℕ) → count q ps ≡ 0 → flag new q ≡ flag old q

pub all_up : (cs : Cells) (ps : List ℕ) (rs : List Bool) → length rs ≡ length cs → ((q : ℕ) → flag rs q ≤ one_if_some (cell_at cs q)) → AllGivenUp cs ps rs (all_given_up cs ps rs)
all_up cs [] rs wide few = record { long = refl; here = λ q some. absurd (let z : ⊥ = omega (arith, some) in z); other = λ q none. refl }
all_up cs (p ∷ ps) rs wide few =
    let one = gives_up cs p rs in
    let next : List Bool = given_up (cell_at cs p) p rs in
    let still : (q : ℕ) → flag next q ≤ one_if_some (cell_at cs q) = λ q. elim (same_place p q) as (λ v. flag next q ≤ one_if_some (cell_at cs q)) [
      | inl e ↦ subst (λ r. flag next r ≤ one_if_some (cell_at cs r)) e (let z = one.here wide (few p) in omega (arith, z))
      | inr off ↦ let z = one.other q off in let f = few q in omega (arith, z, f)
    ] in
    let rest = all_up cs ps next (one.long ∙ wide) still in
    record {
      long = rest.long ∙ one.long;
      here = λ q some. elim (count_or q ps) as (λ v. flag (all_given_up cs ps next) q ≡ one_if_some (cell_at cs q)) [
        | inl more ↦ rest.here q more
        | inr none ↦ elim (same_place p q) as (λ v. flag (all_given_up cs ps next) q ≡ one_if_some (cell_at cs q)) [
          | inl e ↦ rest.other q none ∙ subst (λ r. flag next r ≡ one_if_some (cell_at cs r)) e (one.here wide (few p))
          | inr off ↦ absurd (let z = one_apart p q off in let y : ⊥ = omega (arith, some, none, z) in y)
        ]
      ];
      other = λ q none.
          let away : p ≡ q → ⊥ = λ e. (let z = one_here p q e in let y : ⊥ = omega (arith, none, z) in y) in
          rest.other q (omega (arith, none)) ∙ one.other q away;
    }
  where
    count_or : (q : ℕ) (ps : List ℕ) → (0 < count q ps) ⊎ (count q ps ≡ 0)
    count_or q ps = by (count q ps) refl
      where
        by : (n : ℕ) → count q ps ≡ n → (0 < count q ps) ⊎ (count q ps ≡ 0)
        by zero e = inr e
        by (suc n) e = inl (omega (arith, e))

-- ---- what is left after a call

-- What was used up is released: what is held stays, apart from what is released, and together these are all cells. At
-- one place: `gone` is given up, `held` isn't; `old` and `now` report whether the cell is released before and after.
pub still_apart : (gone held old now there : ℕ) → there ≤ 1 → gone + (held + old) ≡ there → (0 < gone → now ≡ there) → (gone ≡ 0 → now ≡ old) → held + now ≡ there
still_apart zero held old now there few all up not = let z = not refl in omega (arith, all, z)
still_apart (suc gone) held old now there few all up not = let z = up (omega arith) in omega (arith, few, all, z)

-- After a run without a value: `first` reports whether the cell was released before the run, `last` after it, and `now`
-- once all that was used up is given up.
pub apart_without_value : (gone held first last now there : ℕ) → there ≤ 1 → gone + (held + first) ≡ there → held + last ≤ there → first ≤ last → (0 < gone → now ≡ there) → (gone ≡ 0 → now ≡ last) → held + now ≡ there
apart_without_value zero held first last now there few all once rises up not = let z = not refl in omega (arith, few, all, once, rises, z)
apart_without_value (suc gone) held first last now there few all once rises up not = let z = up (omega arith) in omega (arith, few, all, z)

-- The same, where every cell that isn't held is given up.
pub apart_by_sweep : (held last now there : ℕ) → there ≤ 1 → held + last ≤ there → (held ≡ 0 → now ≡ there) → (0 < held → now ≡ last) → held + now ≡ there
apart_by_sweep zero last now there few once up not = let z = up refl in omega (arith, z)
apart_by_sweep (suc held) last now there few once up not = let z = not (omega arith) in omega (arith, few, once, z)
