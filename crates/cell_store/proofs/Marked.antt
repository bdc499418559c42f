-- Bits that mark where cells begin follow what is done to the cells.
use Rattle.std.proofs.Common.{◌≡◌, ◌≢◌, ℕ, zero, suc, ◌+◌, ◌*◌, ◌/◌, ◌%◌, ◌<◌, ◌≤◌, ◌^◌, Bool, true, false, List, [], ◌∷◌, ◌++◌, length, length-append, length-set, set, get_or, slice_set, Some, None, Option, inl, inr, nat_eq, refl, sym, ap, ◌∙◌, subst, arith}
use Rattle.std.specs.Prelude.{replicate, is_some, bit_or, if◌then◌else◌, IsTrue, ◌↔◌}
use Rattle.std.specs.Int.{bit_at, w64}
use Rattle.std.proofs.lemmas.List.{length-replicate, get_or-set_same, get_or-set_other}
use Rattle.std.proofs.lemmas.Bool.{cases_eq}
use Rattle.std.proofs.lemmas.Nat.Bits.{bit_at_set_same, bit_at_set_other}
use Rattle.std.proofs.lemmas.Option.{none-some}
use Rattle.std.proofs.lemmas.Bool.Decides.{nat_tests}
use Rattle.fip_language.specs.Store.{Cell}
use Rattle.cell_store.specs.Cells.{Cells, cell_at}
use Rattle.cell_store.specs.Marks.{IsMarked, is_marked}

-- a cell that begins here, as a test and as a fact
pub is_some_there : (b : Bool) (o : Option Cell) → b ≡ is_some o → IsTrue b ↔ (o ≢ None)
is_some_there b None e = ((λ t. absurd (let z : false ≡ true = sym e ∙ t in cc)), (λ h. absurd (h refl)))
is_some_there b (Some c) e = ((λ t z. none-some c (sym z)), (λ h. e))

-- where another cell takes a cell's place
pub begins_set : (cs : Cells) (p : ℕ) (c d : Cell) → cell_at cs p ≡ Some c → (q : ℕ) → is_some (cell_at (slice_set cs p (Some d)) q) ≡ is_some (cell_at cs q)
begins_set [] p c d e q = refl
begins_set (o ∷ cs) zero c d e zero = sym (ap is_some e)
begins_set (o ∷ cs) zero c d e (suc q) = refl
begins_set (o ∷ cs) (suc p) c d e zero = refl
begins_set (o ∷ cs) (suc p) c d e (suc q) = begins_set cs p c d e q

pub marked_set : (cs : Cells) (p : ℕ) (c d : Cell) (bits : List ℕ) → cell_at cs p ≡ Some c → IsMarked cs bits → IsMarked (slice_set cs p (Some d)) bits
marked_set cs p c d bits e m = record {
  wide = (let s = length-set cs p (Some d) in let w = m.wide in omega (arith, s, w));
  exact = λ q. m.exact q ∙ sym (begins_set cs p c d e q);
}

pub none_past : (n q : ℕ) → cell_at (replicate n None) q ≡ None
none_past zero q = refl
none_past (suc n) zero = refl
none_past (suc n) (suc q) = none_past n q

-- where a cell is put after the others
pub begins_append : (cs : Cells) (c : Cell) (n q : ℕ) → is_some (cell_at (cs ++ Some c ∷ replicate n None) q) ≡ (if nat_eq q (length cs) then true else is_some (cell_at cs q))
begins_append [] c n zero = refl
begins_append [] c n (suc q) = ap is_some (none_past n q) ∙ ap (λ b. if b then true else false) (let e : false ≡ nat_eq (suc q) 0 = grind (arith, nat_tests) in e)
begins_append (o ∷ cs) c n zero = ap (λ b. if b then true else is_some o) (let e : false ≡ nat_eq 0 (suc (length cs)) = grind (arith, nat_tests) in e)
begins_append (o ∷ cs) c n (suc q) = begins_append cs c n q ∙ ap (λ b. if b then true else is_some (cell_at cs q)) (let e : nat_eq q (length cs) ≡ nat_eq (suc q) (suc (length cs)) = grind (arith, nat_tests) in e)

-- bits that mark one more place
pub marked_append : (cs : Cells) (c : Cell) (n : ℕ) (old new : List ℕ) → IsMarked cs old → length cs + n + 1 ≤ 64 * length new → ((q : ℕ) → is_marked new q ≡ (if nat_eq q (length cs) then true else is_marked old q)) → IsMarked (cs ++ Some c ∷ replicate n None) new
marked_append cs c n old new m w e = record {
  wide = (let a = length-append cs (Some c ∷ replicate n None) in let b = length-replicate {A = Option Cell} n None in omega (arith, a, b, w));
  exact = λ q. e q ∙ ap (λ b. if nat_eq q (length cs) then true else b) (m.exact q) ∙ sym (begins_append cs c n q);
}

-- bits that mark the same places
pub marked_same : (cs : Cells) (old new : List ℕ) → IsMarked cs old → length old ≤ length new → ((q : ℕ) → is_marked new q ≡ is_marked old q) → IsMarked cs new
marked_same cs old new m w e = record {
  wide = (let a = m.wide in omega (arith, a, w));
  exact = λ q. e q ∙ m.exact q;
}

-- a bit that is set
pub marked_one : (bits : List ℕ) (p q : ℕ) → p / 64 < length bits → is_marked (set bits (p / 64) (bit_or (get_or bits (p / 64) 0) (1 * 2 ^ (p % 64) % 2 ^ 64))) q ≡ (if nat_eq q p then true else is_marked bits q)
marked_one bits p q h = elim (cases_eq q p) [
  | inl same ↦ subst (λ r. is_marked new r ≡ (if nat_eq r p then true else is_marked bits r)) (sym same) (
      let word = get_or-set_same bits (p / 64) value 0 h in
      let one : bit_at (get_or new (p / 64) 0) (p % 64) ≡ 1 = ap (λ w. bit_at w (p % 64)) word ∙ bit_at_set_same w64 (get_or bits (p / 64) 0) (p % 64) (omega arith) in
      grind (arith, nat_tests))
  | inr other ↦ (
      let test : nat_eq q p ≡ false = grind (arith, nat_tests) in
      ap (λ b. nat_eq b 1) (bit q other) ∙ ap (λ b. if b then true else is_marked bits q) (sym test))
]
  where
    value : ℕ
    value = bit_or (get_or bits (p / 64) 0) (1 * 2 ^ (p % 64) % 2 ^ 64)

    new : List ℕ
    new = set bits (p / 64) value

    bit : (q : ℕ) → q ≢ p → bit_at (get_or new (q / 64) 0) (q % 64) ≡ bit_at (get_or bits (q / 64) 0) (q % 64)
    bit q other = elim (cases_eq (q / 64) (p / 64)) [
      | inl row ↦ subst (λ m. bit_at (get_or new m 0) (q % 64) ≡ bit_at (get_or bits m 0) (q % 64)) (sym row) (
          ap (λ w. bit_at w (q % 64)) (get_or-set_same bits (p / 64) value 0 h) ∙ bit_at_set_other w64 (get_or bits (p / 64) 0) (p % 64) (omega arith) (q % 64) (λ e. other (omega (arith, row, e))))
      | inr apart ↦ ap (λ w. bit_at w (q % 64)) (get_or-set_other bits (p / 64) (q / 64) value 0 apart)
    ]
