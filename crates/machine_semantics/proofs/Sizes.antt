-- No step makes a cell or changes a cell's place or size, and none takes a released cell back.
-- The idea: each change sets one place of one list, to a cell of the old size or to a released one.
use Rattle.std.proofs.Common.{◌≡◌, ℕ, zero, suc, ◌≤◌, refl, sym, ap, ◌∙◌, List, [], ◌∷◌, Option, Some, None, Bool, true, false, nat_eq, map, slice_get, slice_set, is_some, true≢false, if◌then◌else◌, arith, subst}
use Rattle.std.proofs.lemmas.Bool.Decides.{nat_tests}
use Rattle.std.specs.Prelude.{option_and_then, unwrap_or}
use Rattle.cell_code.specs.fip_language.Store.{Cell}
use Rattle.cell_code.specs.Plain.{PlainCode}
use Rattle.machine_semantics.specs.Cells.{Store, Change, Write, Release, cell_in, cell_at, size_of, size_in, sizes, written, given_up, changed, changed_by}
use Rattle.machine_semantics.specs.States.{State, Next, Went, Entered}
use Rattle.machine_semantics.specs.Steps.{Kinds, next, changes_of}
use Rattle.machine_semantics.proofs.Followed.{Followed, followed}
use Rattle.machine_semantics.specs.Kept.{Keeps}
use Rattle.cell_code.proofs.fip_base.fip_language.Facts.{nat_eq_same as same_size}
use Rattle.machine_semantics.proofs.Replayed.{none_some, some_same}

sizes_set : (os : List (Option Cell)) (p : ℕ) (old new : Cell) → cell_in os p ≡ Some old → size_of old ≡ size_of new → map size_in (slice_set os p (Some new)) ≡ map size_in os
sizes_set [] p old new is same = refl
sizes_set (o ∷ os) zero old new is same = ap (λ k. k ∷ map size_in os) (sym same ∙ sym (ap size_in is))
sizes_set (o ∷ os) (suc p) old new is same = ap (λ ks. size_in o ∷ ks) (sizes_set os p old new is same)

released_set : (rs : List Bool) (p q : ℕ) → slice_get rs q ≡ Some true → slice_get (slice_set rs p true) q ≡ Some true
released_set [] p q is = is
released_set (r ∷ rs) zero zero is = refl
released_set (r ∷ rs) zero (suc q) is = is
released_set (r ∷ rs) (suc p) zero is = is
released_set (r ∷ rs) (suc p) (suc q) is = released_set rs p q is

-- where the sizes were compared
written_if : (s t : Store) (p : ℕ) (old new : Cell) (b : Bool) → nat_eq (size_of old) (size_of new) ≡ b → cell_at s p ≡ Some old → (if b then Some (record s { cells = slice_set s.cells p (Some new) }) else None) ≡ Some t → Keeps s t
written_if s t p old new true is at gives = record {
  sizes = ap sizes (sym (some_same (record s { cells = slice_set s.cells p (Some new) }) t gives)) ∙ sizes_set s.cells p old new at (same_size (size_of old) (size_of new) is);
  released = λ q on. ap (λ (u : Store). slice_get u.released q) (sym (some_same (record s { cells = slice_set s.cells p (Some new) }) t gives)) ∙ on;
}
written_if s t p old new false is at gives = absurd (none_some t gives)

keeps_written : (s t : Store) (p : ℕ) (new : Cell) (o : Option Cell) → cell_at s p ≡ o → written s p new o ≡ Some t → Keeps s t
keeps_written s t p new None at gives = absurd (none_some t gives)
keeps_written s t p new (Some old) at gives = written_if s t p old new (nat_eq (size_of old) (size_of new)) refl at gives

keeps_given_up : (s t : Store) (p : ℕ) (o : Option Cell) (r : Option Bool) → given_up s p o r ≡ Some t → Keeps s t
keeps_given_up s t p None r gives = absurd (none_some t gives)
keeps_given_up s t p (Some c) None gives = absurd (none_some t gives)
keeps_given_up s t p (Some c) (Some true) gives = absurd (none_some t gives)
keeps_given_up s t p (Some c) (Some false) gives = record {
  sizes = ap sizes (sym (some_same (record s { released = slice_set s.released p true }) t gives));
  released = λ q on. ap (λ (u : Store). slice_get u.released q) (sym (some_same (record s { released = slice_set s.released p true }) t gives)) ∙ released_set s.released p q on;
}

keeps_changed : (c : Change) (s t : Store) → changed c s ≡ Some t → Keeps s t
keeps_changed (Write p c ws) s t gives = keeps_written s t p (record { tag = c; fields = ws }) (cell_at s p) refl gives
keeps_changed (Release p) s t gives = keeps_given_up s t p (cell_at s p) (slice_get s.released p) gives

keeps_same : (s t : Store) → t ≡ s → Keeps s t
keeps_same s t is = record { sizes = ap sizes is; released = λ q on. ap (λ (u : Store). slice_get u.released q) is ∙ on }

keeps_then : (s t u : Store) → Keeps s t → Keeps t u → Keeps s u
keeps_then s t u a b = record { sizes = b.sizes ∙ a.sizes; released = λ q on. b.released q (a.released q on) }

keeps_others : (s u : Store) (cs : List Change) (o : Option Store) → changed_by cs s ≡ changed_by cs s → ((t : Store) → o ≡ Some t → Keeps s t) → ((t : Store) → changed_by cs t ≡ Some u → Keeps t u) → option_and_then (λ t. changed_by cs t) o ≡ Some u → Keeps s u
keeps_others s u cs None z first others gives = absurd (none_some u gives)
keeps_others s u cs (Some t) z first others gives = keeps_then s t u (first t refl) (others t gives)

keeps_all : (cs : List Change) (s t : Store) → changed_by cs s ≡ Some t → Keeps s t
keeps_all [] s t gives = keeps_same s t (sym (some_same s t gives))
keeps_all (c ∷ cs) s t gives = keeps_others s t cs (changed c s) refl (λ u. keeps_changed c s u) (λ u. keeps_all cs u t) gives

keeps_went : (cs : List Change) (s t : State) (x : Next) → x ≡ Went t → Followed cs s x → Keeps s.store t.store
keeps_went cs s t x is h = keeps_all cs s.store t.store (subst (Followed cs s) is h)

keeps_entered : (cs : List Change) (s t : State) (x : Next) → x ≡ Entered t → Followed cs s x → Keeps s.store t.store
keeps_entered cs s t x is h = keeps_same s.store t.store (subst (Followed cs s) is h)

pub went_keeps : (kinds : Kinds) (code : PlainCode) (s t : State) → next kinds code s ≡ Went t → Keeps s.store t.store
went_keeps kinds code s t is = keeps_went (changes_of kinds code s) s t (next kinds code s) is (followed kinds code s)

pub entered_keeps : (kinds : Kinds) (code : PlainCode) (s t : State) → next kinds code s ≡ Entered t → Keeps s.store t.store
entered_keeps kinds code s t is = keeps_entered (changes_of kinds code s) s t (next kinds code s) is (followed kinds code s)
