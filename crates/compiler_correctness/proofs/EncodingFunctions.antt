-- A function of sound code has a text where its header, its instructions and the kinds of its labels have one.
use Rattle.std.proofs.Common.{◌≡◌, ◌<◌, ◌≤◌, ◌+◌, ℕ, zero, suc, Bool, true, false, not, ◌&&◌, ◌==◌, nat_lt, List, [], ◌∷◌, length, map, Some, slice_get, refl, ap, subst, arith}
use Rattle.std.proofs.lemmas.Bool.{and_parts}
use Rattle.std.proofs.lemmas.List.{length-map}
use Rattle.std.proofs.lemmas.Bool.Decides.{nat_tests}
use Rattle.std.proofs.lemmas.Option.{none-some, same_Some}
use Rattle.lowering_soundness.specs.fip_language.declared.limits.TheConstants.{MOST_CREDITS, MOST_FIELDS, MOST_INSTANCES}
use Rattle.lowering_soundness.specs.fip_language.Table.{Table}
use Rattle.lowering_soundness.proofs.fip_language.Words.{map_at}
use Rattle.lowering_soundness.specs.fip_base.declared.plain.Param.{Param}
use Rattle.lowering_soundness.specs.cell_code.declared.code.Function.{Function}
use Rattle.lowering_soundness.specs.cell_code.declared.kind.Label.{Label}
use Rattle.lowering_soundness.specs.cell_code.Plain.{LabelMap, PlainFunction, PlainCode, plain_label, plain_function}
use Rattle.lowering_soundness.specs.code_rules.Headers.{are_types, are_params, is_size, are_sizes, are_good_kinds, are_good_maps, is_formed}
use Rattle.lowering_soundness.specs.code_rules.Limits.{most_fields, most_credits, most_results, most_registers}
use Rattle.derivation_correctness.specs.code_file.declared.tags.Version.TheVariants.{Second}
use Rattle.derivation_correctness.specs.code_file.Spelling.{◌+++◌, each, two, four, function_name_text}
use Rattle.derivation_correctness.specs.code_file.CodeText.{kind_text, label_text, instr_text, code_kind_text, lent_text, param_text, params_text, credit_count_text, size_text, credits_text, instrs_text, labels_text, function_text}
use Rattle.derivation_correctness.proofs.code_file.Numbers.{credit_count_fits, size_fits}
use Rattle.derivation_correctness.specs.lower_frame.Spelled.{IsSpelt, AreKindsSpelt, AreInstrsSpelt, AreLabelsSpelt, IsFunctionSpelt}
use Rattle.compiler_correctness.proofs.Texts.{joined, each_spelt, only_spelt, two_spelt, four_spelt, types_spelt, there}
use Rattle.derivation_correctness.proofs.source_report.cell_lower.fip_language.Facts.{nat_lt_true as below}

-- ---- parameters

param_at : (w : Table) (ps : List Param) (i : ℕ) (p : Param) → are_params w ps ≡ true → slice_get ps i ≡ Some p → p.ty ≤ length w
param_at w [] i p h e = absurd (none-some p e)
param_at w (q ∷ ps) zero p h e =
    let k = below q.ty (suc (length w)) (and_parts (nat_lt q.ty (suc (length w))) (are_params w ps) h).0 in
    let same = ap (λ (x : Param). x.ty) (same_Some q p e) in
    omega (arith, k, same)
param_at w (q ∷ ps) (suc i) p h e = param_at w ps i p (and_parts (nat_lt q.ty (suc (length w))) (are_params w ps) h).1 e

lent_spelt : (b : Bool) → IsSpelt (lent_text b)
lent_spelt true = refl
lent_spelt false = refl

param_spelt : (p : Param) → p.ty < 65536 → IsSpelt (param_text p)
unfolding param_text
param_spelt p lt = joined (lent_text p.lent) (two p.ty) (lent_spelt p.lent) (two_spelt p.ty lt)

params_spelt : (w : Table) (ps : List Param) → length w ≤ MOST_INSTANCES → length ps < 65536 → are_params w ps ≡ true → IsSpelt (params_text ps)
unfolding params_text
params_spelt w ps few short h =
    joined (two (length ps)) (each param_text ps) (two_spelt (length ps) short)
    (each_spelt param_text ps (λ i p e. param_spelt p (let k = param_at w ps i p h e in omega (arith, k, few))))

-- ---- credits

size_at : (ks : List ℕ) (i k : ℕ) → are_sizes ks ≡ true → slice_get ks i ≡ Some k → (suc zero ≤ k) × (k ≤ MOST_FIELDS)
size_at [] i k h e = absurd (none-some k e)
size_at (j ∷ ks) zero k h e =
    let size = and_parts (nat_lt 0 j) (nat_lt j (suc most_fields)) (and_parts (is_size j) (are_sizes ks) h).0 in
    let low = below 0 j size.0 in
    let high = below j (suc most_fields) size.1 in
    let same = same_Some j k e in
    (omega (arith, low, same), omega (arith, high, same))
size_at (j ∷ ks) (suc i) k h e = size_at ks i k (and_parts (is_size j) (are_sizes ks) h).1 e

credits_spelt : (ks : List ℕ) → length ks ≤ MOST_CREDITS → are_sizes ks ≡ true → IsSpelt (credits_text Second ks)
unfolding credits_text
credits_spelt ks few h =
    joined (credit_count_text (length ks)) (each size_text ks) (there (credit_count_text (length ks)) _ (credit_count_fits (length ks) few))
    (each_spelt size_text ks (λ i k e. (let z = size_at ks i k h e in there (size_text k) _ (size_fits k z.0 z.1))))

-- ---- results

result_at : (w : Table) (ts : List ℕ) (i t : ℕ) → are_types w ts ≡ true → slice_get ts i ≡ Some t → t ≤ length w
result_at w [] i t h e = absurd (none-some t e)
result_at w (u ∷ ts) zero t h e =
    let k = below u (suc (length w)) (and_parts (nat_lt u (suc (length w))) (are_types w ts) h).0 in
    let same = same_Some u t e in
    omega (arith, k, same)
result_at w (u ∷ ts) (suc i) t h e = result_at w ts i t (and_parts (nat_lt u (suc (length w))) (are_types w ts) h).1 e

-- ---- instructions and labels

instrs_spelt : (f : Function) → AreInstrsSpelt f.instrs.items → IsSpelt (instrs_text f.instrs.items)
unfolding instrs_text
instrs_spelt f h =
    joined (four (length f.instrs.items)) (each instr_text f.instrs.items) (four_spelt (length f.instrs.items) h.few)
    (each_spelt instr_text f.instrs.items (λ i x e. h.each i x e))

label_spelt : (n : ℕ) (l : Label) → (length l.kinds.items == n) ≡ true → l.at < 4294967296 → AreKindsSpelt l.kinds.items → IsSpelt (label_text n (plain_label l))
unfolding label_text
label_spelt n l all at kinds =
    only_spelt (length l.kinds.items == n) (four l.at +++ each kind_text l.kinds.items) all
    (joined (four l.at) (each kind_text l.kinds.items) (four_spelt l.at at) (each_spelt kind_text l.kinds.items (λ r k e. kinds r k e)))

-- the first of some label maps, and the others
maps_parts : (w : Table) (f : PlainFunction) (low : ℕ) (m : LabelMap) (ms : List LabelMap) → are_good_maps w f low (m ∷ ms) ≡ true → ((length m.kinds == f.registers) ≡ true) × (are_good_maps w f m.at ms ≡ true)
maps_parts w f low m ms h =
    let later = are_good_maps w f m.at ms in
    let kinds = are_good_kinds w m.kinds 0 m.kinds in
    let all = length m.kinds == f.registers in
    let within = nat_lt m.at (length f.instrs) in
    let a = and_parts (nat_lt low m.at) (within && (all && (kinds && later))) h in
    let b = and_parts within (all && (kinds && later)) a.1 in
    let c = and_parts all (kinds && later) b.1 in
    (c.0, (and_parts kinds later c.1).1)

kinds_all : (w : Table) (f : PlainFunction) (low : ℕ) (ls : List Label) (i : ℕ) (l : Label) → are_good_maps w f low (map plain_label ls) ≡ true → slice_get ls i ≡ Some l → (length l.kinds.items == f.registers) ≡ true
kinds_all w f low [] i l h e = absurd (none-some l e)
kinds_all w f low (m ∷ ls) zero l h e =
    subst (λ (l : Label). (length l.kinds.items == f.registers) ≡ true) (same_Some m l e) (maps_parts w f low (plain_label m) (map plain_label ls) h).0
kinds_all w f low (m ∷ ls) (suc i) l h e = kinds_all w f m.at ls i l (maps_parts w f low (plain_label m) (map plain_label ls) h).1 e

labels_spelt : (w : Table) (g : PlainFunction) (f : Function) → are_good_maps w g 0 (map plain_label f.labels.items) ≡ true → AreLabelsSpelt f.labels.items → IsSpelt (labels_text g.registers (map plain_label f.labels.items))
unfolding labels_text
labels_spelt w g f good h =
    let ls = map plain_label f.labels.items in
    let same = length-map f.labels.items plain_label in
    let few = h.few in
    joined (four (length ls)) (each (label_text g.registers) ls) (four_spelt (length ls) (omega (arith, same, few)))
    (each_spelt (label_text g.registers) ls (λ i x e. (
    let at = map_at plain_label f.labels.items i x e in
    let kinds = h.each i at.0 at.1 in
    subst (λ x. IsSpelt (label_text g.registers x)) at.2
    (label_spelt g.registers at.0 (kinds_all w g 0 f.labels.items i at.0 good at.1) kinds.0 kinds.1))))

-- ---- a function

-- what S9 says of a function
record Keeps (c : PlainCode) (f : PlainFunction) : Type 0 where
  pub room : not (nat_lt f.registers (length f.params + length f.credits)) ≡ true
  pub registers : nat_lt f.registers (suc most_registers) ≡ true
  pub results : nat_lt (length f.results) (suc most_results) ≡ true
  pub credits : nat_lt (length f.credits) (suc most_credits) ≡ true
  pub params : are_params c.types f.params ≡ true
  pub sizes : are_sizes f.credits ≡ true
  pub types : are_types c.types f.results ≡ true
  pub maps : are_good_maps c.types f 0 f.labels ≡ true

kept : (c : PlainCode) (f : PlainFunction) → is_formed c f ≡ true → Keeps c f
kept c f h =
    let some = and_parts _ _ h in
    let room = and_parts _ _ some.1 in
    let registers = and_parts _ _ room.1 in
    let one = and_parts _ _ registers.1 in
    let results = and_parts _ _ one.1 in
    let credits = and_parts _ _ results.1 in
    let params = and_parts _ _ credits.1 in
    let sizes = and_parts _ _ params.1 in
    let types = and_parts _ _ sizes.1 in
    record {
      room = room.0;
      registers = registers.0;
      results = results.0;
      credits = credits.0;
      params = params.0;
      sizes = sizes.0;
      types = types.0;
      maps = types.1;
    }

not_below : (r m n : ℕ) (b : Bool) → nat_lt r (m + n) ≡ b → not b ≡ true → m ≤ r
not_below r m n true f e = cc
not_below r m n false f e = grind (arith, nat_tests)

pub function_spelt : (c : PlainCode) (f : Function) → length c.types ≤ MOST_INSTANCES → is_formed c (plain_function f) ≡ true → IsSpelt (code_kind_text f.kind) → IsSpelt (function_name_text f.name) → IsFunctionSpelt f → IsSpelt (function_text Second (plain_function f))
unfolding function_text
function_spelt c f few formed kind name body =
    let k : Keeps c (plain_function f) = kept c (plain_function f) formed in
    let registers : f.registers < suc most_registers = below f.registers (suc most_registers) k.registers in
    let results : length f.results < suc most_results = below (length f.results) (suc most_results) k.results in
    let credits : length f.credits.items < suc most_credits = below (length f.credits.items) (suc most_credits) k.credits in
    let params : length f.params ≤ f.registers = not_below f.registers (length f.params) (length f.credits.items) _ refl k.room in
    joined _ _ kind
    (joined _ _ name
    (joined _ _ (params_spelt c.types f.params few (omega (arith, params, registers)) k.params)
    (joined _ _ (credits_spelt f.credits.items (omega (arith, credits)) k.sizes)
    (joined _ _ (types_spelt (length c.types) f.results few (omega (arith, results)) (λ i t e. result_at c.types f.results i t k.types e))
    (joined _ _ (two_spelt f.registers (omega (arith, registers)))
    (joined _ _ (instrs_spelt f body.instrs) (labels_spelt c.types (plain_function f) f k.maps body.labels)))))))
