-- The constructors of a type, and what is reported of registers.
use Rattle.std.proofs.Common.{◌≡◌, refl, sym, ap, ◌∙◌, arith, ℕ, zero, suc, ◌+◌, ◌≤◌, ◌<◌, List, [], ◌∷◌, ◌++◌, length}
use Rattle.cell_code.specs.fip_language.Table.{Table, constructors, shapes}
use Rattle.lowering_relation.specs.code_rules.Types.{numbers}

numbers_more : (i n : ℕ) → numbers i (suc n) ≡ numbers i n ++ (i + n) ∷ []
numbers_more i zero = ap (λ x. x ∷ []) (omega arith)
numbers_more i (suc n) = ap (λ xs. i ∷ xs) (numbers_more (suc i) n ∙ ap (λ x. numbers (suc i) n ++ x ∷ []) (omega arith))

pub numbers_next : (xs ys : List ℕ) (n m : ℕ) → m ≡ suc n → xs ≡ numbers 0 n → ys ≡ xs ++ n ∷ [] → ys ≡ numbers 0 m
numbers_next xs ys n m e f g = g ∙ ap (λ zs. zs ++ n ∷ []) f ∙ ap (λ x. numbers 0 n ++ x ∷ []) plus ∙ sym (numbers_more 0 n) ∙ ap (numbers 0) (sym e)
  where
    plus : n ≡ 0 + n
    plus = omega arith

past_none : (tb : Table) (t : ℕ) → length tb ≤ t → shapes tb t ≡ []
past_none [] t h = refl
past_none (row ∷ rows) zero h = absurd (omega (arith, h))
past_none (row ∷ rows) (suc t) h = past_none rows t (omega (arith, h))

pub none_past : (tb : Table) (t : ℕ) → length tb < t → [] ≡ constructors tb t
none_past tb zero h = refl
none_past tb (suc t) h = sym (past_none tb t (omega (arith, h)))

pub ruleset numbering = (none_past)
