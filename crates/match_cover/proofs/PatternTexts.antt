-- The text of a pattern's parts, one part after another.
use Rattle.std.proofs.Common.{◌≡◌, ℕ, zero, suc, ◌+◌, ◌<◌, ◌≤◌, List, [], ◌∷◌, ◌++◌, drop, length, get_or, refl, sym, ap, ◌∙◌, arith, append_assoc}
use Rattle.std.specs.Prelude.{Result, Ok, Err, OnOk}
use Rattle.fip_language.specs.Table.{Table}
use Rattle.fip_base.specs.declared.plain.NoMemory.{NoMemory}
use Rattle.match_knowledge.specs.declared.rows.Row.{Row}
use Rattle.match_knowledge.specs.Patterns.{Pattern, Patterns, NoPatterns, MorePatterns}
use Rattle.match_knowledge.specs.View.{row, parts}
use Rattle.match_knowledge.proofs.Steps.{drop_parts, no_parts}
use Rattle.match_cover.specs.PatternText.{pattern_text}
use Rattle.match_cover.specs.MissingView.{part_sign, last_sign, rest_text}

part_step : (tb : Table) (j : ℕ) (p : Pattern) (ps : Patterns) → rest_text tb j (MorePatterns p ps) ≡ part_sign j ++ (pattern_text tb p ++ rest_text tb (j + 1) ps)
part_step tb zero p ps = refl
part_step tb (suc j) p ps =
    let e : suc j + 1 ≡ suc (suc j) = omega arith in
    sym (ap (λ n. part_sign (suc j) ++ (pattern_text tb p ++ rest_text tb n ps)) e)

-- a part more
pub part_put : (tb : Table) (ps : List Row) (j : ℕ) (p : Row) (old signed new z : List ℕ) → j < length ps → p ≡ get_or ps j p → signed ≡ old ++ part_sign j → new ≡ signed ++ pattern_text tb (row p) → old ++ rest_text tb j (parts (drop j ps)) ≡ z → new ++ rest_text tb (j + 1) (parts (drop (j + 1) ps)) ≡ z
part_put tb ps j p old signed new z l g a b v =
    let rest = rest_text tb (j + 1) (parts (drop (j + 1) ps)) in
    let text = pattern_text tb (row p) in
    let at : parts (drop j ps) ≡ MorePatterns (row p) (parts (drop (j + 1) ps)) = drop_parts ps j p l ∙ ap (λ q. MorePatterns (row q) (parts (drop (j + 1) ps))) (sym g) in
    ap (λ x. x ++ rest) b ∙ append_assoc signed text rest ∙ ap (λ x. x ++ (text ++ rest)) a ∙ append_assoc old (part_sign j) (text ++ rest)
    ∙ ap (λ x. old ++ x) (sym (part_step tb j (row p) (parts (drop (j + 1) ps))) ∙ sym (ap (rest_text tb j) at)) ∙ v

last_step : (tb : Table) (j : ℕ) → rest_text tb j NoPatterns ≡ last_sign j
last_step tb zero = refl
last_step tb (suc j) = refl

parts_put : (tb : Table) (ps : List Row) (j : ℕ) (old new z : List ℕ) → length ps ≤ j → new ≡ old ++ last_sign j → old ++ rest_text tb j (parts (drop j ps)) ≡ z → new ≡ z
parts_put tb ps j old new z l a v = a ∙ ap (λ x. old ++ x) (sym (last_step tb j) ∙ sym (ap (rest_text tb j) (no_parts ps j l))) ∙ v

pub all_put : (r : Result (Unit {0}) NoMemory) (tb : Table) (ps : List Row) (j : ℕ) (old new z : List ℕ) → length ps ≤ j → j ≤ length ps → OnOk r (new ≡ old ++ last_sign (length ps)) → old ++ rest_text tb j (parts (drop j ps)) ≡ z → OnOk r (new ≡ z)
all_put (Err x) tb ps j old new z l m a v = tt
all_put (Ok x) tb ps j old new z l m a v =
    let e : length ps ≡ j = omega arith in
    parts_put tb ps j old new z l (a ∙ ap (λ n. old ++ last_sign n) e) v

pub first_sign : (j : ℕ) → j ≡ 0 → 40 ∷ [] ≡ part_sign j
first_sign zero e = refl
first_sign (suc j) e = absurd (omega arith)

pub other_sign : (j : ℕ) → (j ≡ 0 → ⊥) → 44 ∷ 32 ∷ [] ≡ part_sign j
other_sign zero e = absurd (e refl)
other_sign (suc j) e = refl

pub end_sign : (j : ℕ) → (j ≡ 0 → ⊥) → 41 ∷ [] ≡ last_sign j
end_sign zero e = absurd (e refl)
end_sign (suc j) e = refl
