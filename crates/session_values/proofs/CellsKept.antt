-- What was live stays where cells are made one after another, and so do trees that are there.
use Rattle.std.proofs.Common.{◌≡◌, ◌⊎◌, inl, inr, ◌∙◌, ◌≤◌, ◌<◌, ◌+◌, ◌*◌, ◌^◌, ℕ, zero, suc, Bool, true, false, List, [], ◌∷◌, ◌++◌, length, take, drop, get_or, Option, Some, None, append_assoc, append-nil, refl, sym, ap, subst, arith}
use Rattle.std.specs.Prelude.{slice_get, replicate}
use Rattle.std.specs.declared.slice.Iter.{Iter}
use Rattle.fip_base.specs.declared.plain.Param.{Param}
use Rattle.fip_language.specs.Character.{characters}
use Rattle.fip_language.specs.SoundTable.{AreTypes}
use Rattle.fip_language.specs.Store.{Cell, Placed, PlacedInt, Bare, At, Parts, NoParts, MoreParts, value_of, values_of, words_of, count, uses, uses_of_all}
use Rattle.fip_language.specs.Table.{Table}
use Rattle.fip_language.specs.Values.{Value, Values, End, More}
use Rattle.cell_store.specs.Cells.{Cells, cell_at}
use Rattle.cell_store.specs.Made.{Loading}
use Rattle.value_text.specs.Building.{IsMade}
use Rattle.value_text.specs.Loaded.{live_in, live, types_of, AreSizes, AreCredits, AreZero, cell_words}
use Rattle.value_text.specs.Machine.{join}
use Rattle.value_text.specs.Single.{BeginsWith, IsPlaced, IsValueMade}
use Rattle.value_text.specs.Standing.{Stands, StandAll}
use Rattle.value_text.proofs.Built.{parts_join, values_join, words_join, uses_join}
use Rattle.value_text.proofs.OneValue.{value_same}
use Rattle.value_text.proofs.Tables.{is_table}
use Rattle.value_text.proofs.Taken.{made, one_here}
use Rattle.session_values.specs.Made.{AreMade}

-- ---- live cells

pub live_few : (l : Loading) (p : ℕ) → live l p ≤ 1
live_few l p = by (cell_at l.cells p) (slice_get l.released p)
  where
    by : (o : Option Cell) (r : Option Bool) → live_in o r ≤ 1
    by None r = omega arith
    by (Some c) None = omega arith
    by (Some c) (Some true) = omega arith
    by (Some c) (Some false) = omega arith

pub used_live : (first now : Loading) (f : ℕ → ℕ) (p : ℕ) → AreMade first now f → 1 ≤ f p → live now p ≡ 1
used_live first now f p m some = let o = m.once p in let few = live_few now p in omega (arith, o, few, some)

pub made_none : (l : Loading) (f : ℕ → ℕ) → ((p : ℕ) → f p ≡ 0) → AreMade l l f
made_none l f none = record { once = λ p. (let z = none p in omega (arith, z)); kept = λ p h. refl }

pub made_both : (a b c : Loading) (f g h : ℕ → ℕ) → ((p : ℕ) → h p ≡ f p + g p) → AreMade a b f → AreMade b c g → AreMade a c h
made_both a b c f g h e m n = record {
  once = λ p. (let x = m.once p in let y = n.once p in let z = e p in omega (arith, x, y, z));
  kept = λ p was.
      let x = m.once p in
      let few = live_few b p in
      let is : live b p ≡ 1 = omega (arith, x, was, few) in
      n.kept p is ∙ m.kept p was;
}

pub made_same : (a b : Loading) (f g : ℕ → ℕ) → ((p : ℕ) → g p ≡ f p) → AreMade a b f → AreMade a b g
made_same a b f g e m = record { once = λ p. (let x = m.once p in let y = e p in omega (arith, x, y)); kept = m.kept }

-- ---- what is there stays

mutual
  stands_on : (tb : Table) (cs ds : Cells) (k : ℕ) (x : Placed) → ((p : ℕ) → 1 ≤ uses p x → cell_at ds p ≡ cell_at cs p) → Stands tb cs k x → Stands tb ds k x
  stands_on tb cs ds zero (PlacedInt i) same h = h
  stands_on tb cs ds zero (Bare c) same h = absurd h
  stands_on tb cs ds zero (At p c xs) same h = absurd h
  stands_on tb cs ds (suc t) (PlacedInt i) same h = absurd h
  stands_on tb cs ds (suc t) (Bare c) same h = h
  stands_on tb cs ds (suc t) (At p c xs) same h =
      let one = one_here p in
      (same p (omega (arith, one)) ∙ h.0, h.1, h.2, all_on tb cs ds h.1.fields xs (λ q some. same q (omega (arith, some))) h.3)

  pub all_on : (tb : Table) (cs ds : Cells) (ks : List ℕ) (xs : Parts) → ((p : ℕ) → 1 ≤ uses_of_all p xs → cell_at ds p ≡ cell_at cs p) → StandAll tb cs ks xs → StandAll tb ds ks xs
  all_on tb cs ds [] NoParts same h = tt
  all_on tb cs ds [] (MoreParts x xs) same h = absurd h
  all_on tb cs ds (k ∷ ks) NoParts same h = absurd h
  all_on tb cs ds (k ∷ ks) (MoreParts x xs) same h =
      (stands_on tb cs ds k x (λ p some. same p (omega (arith, some))) h.0, all_on tb cs ds ks xs (λ p some. same p (omega (arith, some))) h.1)

pub zero_on : (cs ds : Cells) (ps ks : List ℕ) → ((p : ℕ) → 1 ≤ count p ps → cell_at ds p ≡ cell_at cs p) → AreZero cs ps ks → AreZero ds ps ks
zero_on cs ds [] [] same h = tt
zero_on cs ds [] (k ∷ ks) same h = absurd h
zero_on cs ds (p ∷ ps) [] same h = absurd h
zero_on cs ds (p ∷ ps) (k ∷ ks) same h =
    let one = one_here p in
    (same p (omega (arith, one)) ∙ h.0, zero_on cs ds ps ks (λ q some. same q (omega (arith, some))) h.1)

-- what was made since a loader stays where more is made
pub stay : (first now next : Loading) (f g : ℕ → ℕ) → AreMade first now f → AreMade now next g → (p : ℕ) → 1 ≤ f p → cell_at next.cells p ≡ cell_at now.cells p
stay first now next f g m n p some = n.kept p (used_live first now f p m some)
