-- The reversal of a list of two items begins.
use Rattle.std.proofs.Common.{◌≡◌, ℕ, zero, suc, ◌+◌, [], ◌∷◌, Some, slice_get, ◌≤◌, refl, sym, subst, arith, pos}
use Rattle.std.proofs.lemmas.Option.{none-some, same_Some}
use Rattle.std.specs.Prelude.{FitsSigned, codes, ◌<◌, ◌^◌}
use Rattle.separation_kinds.specs.fip_language.Table.{Shape}
use Rattle.std.specs.Int.{w64}
use Rattle.separation_kinds.specs.fip_language.Store.{PlacedInt, Bare, At, Parts, NoParts, MoreParts, uses_of_all, count}
use Rattle.separation_kinds.specs.cell_code.declared.code.Instr.{Instr}
use Rattle.separation_kinds.specs.machine_semantics.Cells.{there, released_at}
use Rattle.separation_kinds.specs.machine_semantics.Steps.{Kinds}
use Rattle.separation_kinds.specs.machine_semantics.Apart.{IsGiven}
use Rattle.separation_kinds.specs.machine_semantics.Example.{listed, first}
use Rattle.separation_kinds.specs.cell_code.Plain.{PlainFunction}
use Rattle.separation_kinds.specs.code_rules.Example.{reversal, function_of, rev_with, nil_taken, acc_given, cons_taken, cons_put, again, cons_known}
use Rattle.separation_kinds.proofs.code_rules.Examples.{reversal_sound}
use Rattle.separation_kinds.proofs.Agree.{one_apart}
use Rattle.separation.specs.Rows.{FitsLiteral}
use Rattle.separation.specs.Codes.{HasLiterals, AreKinds}
use Rattle.separation.specs.Starts.{IsStart}
use Rattle.separation_kinds.proofs.machine_semantics.cell_code.fip_base.fip_language.Facts.{fits_small as small}

abbrev rev : PlainFunction
rev = function_of (2 ∷ []) (rev_with nil_taken acc_given cons_taken cons_put again) cons_known

-- Cons(1, Cons(2, Nil)) and Nil
abbrev arguments : Parts
arguments = MoreParts (At 1 1 (MoreParts (PlacedInt (pos 1)) (MoreParts (At 0 1 (MoreParts (PlacedInt (pos 2)) (MoreParts (Bare 0) NoParts))) NoParts))) (MoreParts (Bare 0) NoParts)

no_ints : (i : ℕ) (x : Instr) → slice_get rev.instrs i ≡ Some x → FitsLiteral x
no_ints zero x e = subst FitsLiteral (same_Some _ x e) tt
no_ints (suc zero) x e = subst FitsLiteral (same_Some _ x e) tt
no_ints (suc (suc zero)) x e = subst FitsLiteral (same_Some _ x e) tt
no_ints (suc (suc (suc zero))) x e = subst FitsLiteral (same_Some _ x e) tt
no_ints (suc (suc (suc (suc zero)))) x e = subst FitsLiteral (same_Some _ x e) tt
no_ints (suc (suc (suc (suc (suc zero))))) x e = subst FitsLiteral (same_Some _ x e) tt
no_ints (suc (suc (suc (suc (suc (suc i)))))) x e = absurd (none-some x e)

literals : HasLiterals reversal
literals zero i f x is at = no_ints i x (subst (λ (f : PlainFunction). slice_get f.instrs i ≡ Some x) (sym (same_Some rev f is)) at)
literals (suc n) i f x is at = absurd (none-some f is)

once : (q : ℕ) → uses_of_all q arguments + (count q [] + (count q [] + released_at listed q)) ≡ there listed q
once zero = refl
once (suc zero) = refl
once (suc (suc q)) =
    let a = one_apart (suc (suc q)) 1 (λ e. absurd (omega arith)) in
    let b = one_apart (suc (suc q)) 0 (λ e. absurd (omega arith)) in
    omega arith

flags_few : (p : ℕ) → released_at listed p ≤ there listed p
flags_few zero = omega arith
flags_few (suc zero) = omega arith
flags_few (suc (suc p)) = omega arith

abbrev cons : Shape
cons = record { name = codes "Cons"; fields = 0 ∷ 2 ∷ [] }

abbrev nil : Shape
nil = record { name = codes "Nil"; fields = [] }

given : IsGiven reversal.types rev listed [] (3 ∷ 0 ∷ [])
given = record {
  store = record {
    sized = ((omega arith, omega arith), ((omega arith, omega arith), tt));
    wide = refl;
    of_cells = flags_few;
  };
  arguments = arguments;
  spares = [];
  words = refl;
  stand = ((refl, tt, cons, refl, (small 1 (omega arith), ((refl, tt, cons, refl, (small 2 (omega arith), ((nil, refl, refl), tt))), tt))), ((nil, refl, refl), tt));
  credits = tt;
  once = once;
}

pub reversal_starts : (before waits : Kinds) → AreKinds reversal before waits → IsStart reversal before waits 0 [] (first listed 3)
reversal_starts before waits kinds = record {
  sound = reversal_sound;
  literals = literals;
  kinds = kinds;
  function = rev;
  is = refl;
  words = 3 ∷ 0 ∷ [];
  given = given;
  free = 0;
  loaded = refl;
}
