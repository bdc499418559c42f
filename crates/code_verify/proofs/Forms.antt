-- What a function's form reports, part by part.
use Rattle.std.proofs.Common.{◌≡◌, ℕ, zero, suc, ◌+◌, ◌<◌, ◌≤◌, Bool, true, ◌&&◌, not, List, [], ◌∷◌, length, map, Some, slice_get, ◌==◌, sym, subst, true≢false, arith}
use Rattle.std.specs.Prelude.{nat_lt}
use Rattle.std.proofs.lemmas.Bool.{and_parts, not-true, ltb-true, ltb-false}
use Rattle.std.proofs.lemmas.Option.{same_Some, none-some}
use Rattle.fip_language.specs.Table.{Table}
use Rattle.cell_code.specs.declared.kind.Label.{Label}
use Rattle.code_rules.specs.Limits.{most_credits, most_results, most_registers}
use Rattle.cell_code.specs.Plain.{PlainFunction, PlainCode, plain_label}
use Rattle.code_rules.specs.Headers.{are_params, are_sizes, are_types, are_good_kinds, are_good_maps, is_formed}

-- the parts that are used
pub record IsForm (c : PlainCode) (f : PlainFunction) : Type 0 where
  pub some : 0 < length f.instrs
  pub room : length f.params + length f.credits ≤ f.registers
  pub few : f.registers ≤ most_registers
  pub results : length f.results ≤ most_results
  pub labels : are_good_maps c.types f 0 f.labels ≡ true

above_zero : (n : ℕ) → not (n == 0) ≡ true → 0 < n
above_zero zero e = absurd (true≢false (sym e))
above_zero (suc n) e = omega arith

-- ten facts that all hold, of which five are used
ten : (a b d g h k l m n o : Bool) → (a && (b && (d && (g && (h && (k && (l && (m && (n && o))))))))) ≡ true → (a ≡ true) × (b ≡ true) × (d ≡ true) × (h ≡ true) × (o ≡ true)
ten a b d g h k l m n o e =
    let p1 = and_parts a (b && (d && (g && (h && (k && (l && (m && (n && o)))))))) e in
    let p2 = and_parts b (d && (g && (h && (k && (l && (m && (n && o))))))) p1.1 in
    let p3 = and_parts d (g && (h && (k && (l && (m && (n && o)))))) p2.1 in
    let p4 = and_parts g (h && (k && (l && (m && (n && o))))) p3.1 in
    let p5 = and_parts h (k && (l && (m && (n && o)))) p4.1 in
    let p6 = and_parts k (l && (m && (n && o))) p5.1 in
    let p7 = and_parts l (m && (n && o)) p6.1 in
    let p8 = and_parts m (n && o) p7.1 in
    let p9 = and_parts n o p8.1 in
    (p1.0, p2.0, p3.0, p5.0, p9.1)

pub form_of : (c : PlainCode) (f : PlainFunction) → is_formed c f ≡ true → IsForm c f
form_of c f e =
    let p = ten (not (length f.instrs == 0)) (not (nat_lt f.registers (length f.params + length f.credits))) (nat_lt f.registers (suc most_registers)) (not (length f.results == 0)) (nat_lt (length f.results) (suc most_results)) (nat_lt (length f.credits) (suc most_credits)) (are_params c.types f.params) (are_sizes f.credits) (are_types c.types f.results) (are_good_maps c.types f 0 f.labels) e in
    record {
      some = above_zero (length f.instrs) p.0;
      room = ltb-false f.registers (length f.params + length f.credits) (not-true (nat_lt f.registers (length f.params + length f.credits)) p.1);
      few = (let q = ltb-true f.registers (suc most_registers) p.2 in omega (arith, q));
      results = (let q = ltb-true (length f.results) (suc most_results) p.3 in omega (arith, q));
      labels = p.4;
    }

label_parts : (a b d g o : Bool) → (a && (b && (d && (g && o)))) ≡ true → (b ≡ true) × (o ≡ true)
label_parts a b d g o e =
    let p1 = and_parts a (b && (d && (g && o))) e in
    let p2 = and_parts b (d && (g && o)) p1.1 in
    let p3 = and_parts d (g && o) p2.1 in
    let p4 = and_parts g o p3.1 in
    (p2.0, p4.1)

label_within : (w : Table) (f : PlainFunction) (low : ℕ) (l : Label) (ls : List Label) → are_good_maps w f low (map plain_label (l ∷ ls)) ≡ true → (nat_lt l.at (length f.instrs) ≡ true) × (are_good_maps w f l.at (map plain_label ls) ≡ true)
label_within w f low l ls e = label_parts (nat_lt low l.at) (nat_lt l.at (length f.instrs)) (length l.kinds.items == f.registers) (are_good_kinds w l.kinds.items 0 l.kinds.items) (are_good_maps w f l.at (map plain_label ls)) e

pub labels_below : (w : Table) (f : PlainFunction) (low : ℕ) (labels : List Label) → are_good_maps w f low (map plain_label labels) ≡ true → (j : ℕ) (m : Label) → slice_get labels j ≡ Some m → m.at < length f.instrs
labels_below w f low [] e j m h = absurd (none-some m h)
labels_below w f low (l ∷ ls) e zero m h = subst (λ (q : Label). q.at < length f.instrs) (same_Some l m h) (ltb-true l.at (length f.instrs) (label_within w f low l ls e).0)
labels_below w f low (l ∷ ls) e (suc j) m h = labels_below w f l.at ls (label_within w f low l ls e).1 j m h
