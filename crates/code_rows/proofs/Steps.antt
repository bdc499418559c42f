-- Along lists, place by place.
use Rattle.std.proofs.Common.{◌≡◌, ◌⊎◌, inl, inr, ℕ, zero, suc, ◌+◌, ◌<◌, ◌≤◌, Bool, true, false, ◌&&◌, not, List, [], ◌∷◌, length, map, drop, set, get_or, replicate, Option, Some, None, slice_get, option_map, if◌then◌else◌, ◌==◌, is_some, refl, sym, ap, ◌∙◌, subst, true≢false, arith}
use Rattle.std.proofs.lemmas.Bool.{eqb-true, eq-eqb, ne_eqb, cases_eq}
use Rattle.std.proofs.lemmas.Option.{same_Some, none-some, slice_get-map, slice_get_within, slice_get_read}
use Rattle.std.proofs.lemmas.List.{length-set, get_or-set_same, get_or-set_other}
use Rattle.fip_language.specs.Table.{Table}
use Rattle.cell_code.specs.declared.code.Function.{Function}
use Rattle.cell_code.specs.declared.kind.Kind.{Kind}
use Rattle.cell_code.specs.declared.kind.Label.{Label}
use Rattle.cell_code.specs.Plain.{LabelMap, PlainFunction, plain_label, plain_function}
use Rattle.code_rules.specs.Codes.{label_at}
use Rattle.std.specs.Prelude.{nat_lt}
use Rattle.code_rules.specs.Headers.{are_good_maps, are_good_kinds, are_params, are_sizes, are_types, is_formed}
use Rattle.code_rules.specs.Limits.{most_credits, most_results, most_registers}
use Rattle.register_kinds.specs.State.{of_types}
use Rattle.code_rules.specs.Asked.{same_types}
use Rattle.code_rules.specs.Handing.{kept_if}
use Rattle.code_rows.specs.Numbering.{IsNumber, IsNumberFrom, AreNumbers, AreBelow, SaysAlike, is_good_label, are_good_labels, has_registers, has_few, has_types}

-- ---- label maps by instruction

pub function_at_place : (fs : List Function) (g : ℕ) → slice_get (map plain_function fs) g ≡ option_map plain_function (slice_get fs g)
function_at_place fs g = slice_get-map plain_function fs g

past_is_none : (maps : List LabelMap) (n i : ℕ) → ((j : ℕ) (m : LabelMap) → slice_get maps j ≡ Some m → m.at < n) → n ≤ i → label_at maps i ≡ None
past_is_none [] n i h l = refl
past_is_none (m ∷ maps) n i h l = at (m.at == i) refl (past_is_none maps n i (λ j k e. h (suc j) k e) l)
  where
    at : (b : Bool) → (m.at == i) ≡ b → label_at maps i ≡ None → (if b then Some m.kinds else label_at maps i) ≡ None
    at true e r = absurd (let s = eqb-true m.at i e in let k = h zero m refl in omega (arith, s, k, l))
    at false e r = r

-- a number past the end is that of no label map
pub number_past : (maps : List LabelMap) (numbers : List (Option ℕ)) (i : ℕ) → AreNumbers maps numbers → length numbers ≤ i → IsNumber maps i None
number_past maps numbers i a l = past_is_none maps (length numbers) i a.within l

pub number_at : (maps : List LabelMap) (numbers : List (Option ℕ)) (i : ℕ) (o : Option ℕ) → AreNumbers maps numbers → slice_get numbers i ≡ Some o → IsNumber maps i o
number_at maps numbers i o a e = subst (IsNumber maps i) (get_of numbers i o e) (a.are i (slice_get_within numbers i o e))
  where
    get_of : (xs : List (Option ℕ)) (i : ℕ) (o : Option ℕ) → slice_get xs i ≡ Some o → get_or xs i None ≡ o
    get_of [] i o e = absurd (none-some o e)
    get_of (x ∷ xs) zero o e = same_Some x o e
    get_of (x ∷ xs) (suc i) o e = get_of xs i o e

pub is_numbered : (maps : List LabelMap) (i : ℕ) (o : Option ℕ) → IsNumber maps i o → is_some o ≡ is_some (label_at maps i)
is_numbered maps i None x = ap is_some (sym x)
is_numbered maps i (Some j) x = ap is_some (sym x.2)

drop_none : (maps : List LabelMap) (i : ℕ) → label_at (drop (length maps) maps) i ≡ None
drop_none [] i = refl
drop_none (m ∷ maps) i = drop_none maps i

abbrev no_number : Option ℕ
no_number = None

none_at : (n i : ℕ) → get_or (replicate n no_number) i None ≡ no_number
none_at zero i = refl
none_at (suc n) zero = refl
none_at (suc n) (suc i) = none_at n i

pub first_numbers : (maps : List LabelMap) (n i : ℕ) → IsNumberFrom maps (length maps) i (get_or (replicate n no_number) i None)
first_numbers maps n i = subst (IsNumberFrom maps (length maps) i) (sym (none_at n i)) (drop_none maps i)

-- one more label map before others
drop_of : (maps : List LabelMap) (j : ℕ) (m : LabelMap) → slice_get maps j ≡ Some m → drop j maps ≡ m ∷ drop (suc j) maps
drop_of [] j m e = absurd (none-some m e)
drop_of (k ∷ maps) zero m e = ap (λ q. q ∷ maps) (same_Some k m e)
drop_of (k ∷ maps) (suc j) m e = drop_of maps j m e

label_before : (maps : List LabelMap) (j i : ℕ) (m : LabelMap) → slice_get maps j ≡ Some m → label_at (drop j maps) i ≡ (if m.at == i then Some m.kinds else label_at (drop (suc j) maps) i)
label_before maps j i m e = ap (λ ms. label_at ms i) (drop_of maps j m e)

put_same : (maps : List LabelMap) (j k i : ℕ) (m n : LabelMap) → slice_get maps j ≡ Some m → slice_get maps k ≡ Some n → n.kinds ≡ m.kinds → m.at ≡ i → IsNumberFrom maps j i (Some k)
put_same maps j k i m n e f q h = (n, f, label_before maps j i m e ∙ ap (λ b. if b then Some m.kinds else label_at (drop (suc j) maps) i) (eq-eqb m.at i h) ∙ ap Some (sym q))

put_other : (maps : List LabelMap) (j i : ℕ) (m : LabelMap) (o : Option ℕ) → slice_get maps j ≡ Some m → (m.at ≡ i → ⊥) → IsNumberFrom maps (suc j) i o → IsNumberFrom maps j i o
put_other maps j i m None e h x = label_before maps j i m e ∙ ap (λ b. if b then Some m.kinds else label_at (drop (suc j) maps) i) (ne_eqb m.at i h) ∙ x
put_other maps j i m (Some n) e h x = (x.0, x.1, label_before maps j i m e ∙ ap (λ b. if b then Some m.kinds else label_at (drop (suc j) maps) i) (ne_eqb m.at i h) ∙ x.2)

pub number_put : (maps : List LabelMap) (numbers : List (Option ℕ)) (j k n : ℕ) (m p : LabelMap) → suc j ≡ n → slice_get maps j ≡ Some m → slice_get maps k ≡ Some p → p.kinds ≡ m.kinds → ((i : ℕ) → i < length numbers → IsNumberFrom maps n i (get_or numbers i None)) → (i : ℕ) → i < length (set numbers m.at (Some k)) → IsNumberFrom maps j i (get_or (set numbers m.at (Some k)) i None)
number_put maps numbers j k n m p s e f same h i l = by (cases_eq i m.at)
  where
    long : length (set numbers m.at (Some k)) ≡ length numbers
    long = length-set numbers m.at (Some k)

    by : (i ≡ m.at) ⊎ (i ≡ m.at → ⊥) → IsNumberFrom maps j i (get_or (set numbers m.at (Some k)) i None)
    by (inl q) =
        let w : m.at < length numbers = (let g = long in omega (arith, g, l, q)) in
        subst (IsNumberFrom maps j i) (sym (ap (λ x. get_or (set numbers m.at (Some k)) x None) q ∙ get_or-set_same numbers m.at (Some k) None w)) (put_same maps j k i m p e f same (sym q))
    by (inr q) =
        let w : i < length numbers = (let g = long in omega (arith, g, l)) in
        subst (IsNumberFrom maps j i) (sym (get_or-set_other numbers m.at i (Some k) None q)) (put_other maps j i m (get_or numbers i None) e (λ z. q (sym z)) (subst (λ x. IsNumberFrom maps x i (get_or numbers i None)) (sym s) (h i w)))

pub numbers_from : (labels : List Label) (count : ℕ) (numbers : List (Option ℕ)) → AreBelow count labels → length numbers ≡ count → ((i : ℕ) → i < length numbers → IsNumberFrom (map plain_label labels) 0 i (get_or numbers i None)) → AreNumbers (map plain_label labels) numbers
numbers_from labels count numbers b e h = record { within = within; are = λ i l. whole i (get_or numbers i None) (h i l) }
  where
    whole : (i : ℕ) (o : Option ℕ) → IsNumberFrom (map plain_label labels) 0 i o → IsNumber (map plain_label labels) i o
    whole i None x = x
    whole i (Some j) x = x

    within : (j : ℕ) (m : LabelMap) → slice_get (map plain_label labels) j ≡ Some m → m.at < length numbers
    within j m f = at (slice_get labels j) refl (sym (slice_get-map plain_label labels j) ∙ f)
      where
        at : (o : Option Label) → slice_get labels j ≡ o → option_map plain_label o ≡ Some m → m.at < length numbers
        at None g k = absurd (none-some m k)
        at (Some l) g k = (let a : l.at ≡ m.at = ap (λ (q : LabelMap). q.at) (same_Some (plain_label l) m k) in let c = b j l g in omega (arith, a, c, e))

-- ---- S9's label maps

turned : (a b c d r : Bool) → ((a && (b && (c && d))) && r) ≡ (a && (b && (c && (d && r))))
turned true true true d r = refl
turned true true false d r = refl
turned true false c d r = refl
turned false b c d r = refl

pub good_labels : (w : Table) (f : PlainFunction) (low : ℕ) (labels : List Label) → are_good_labels w f low labels ≡ are_good_maps w f low (map plain_label labels)
good_labels w f low [] = refl
good_labels w f low (m ∷ ms) =
    ap (λ b. is_good_label w f low m && b) (good_labels w f m.at ms)
    ∙ turned (nat_lt low m.at) (nat_lt m.at (length f.instrs)) (length m.kinds.items == f.registers) (are_good_kinds w m.kinds.items 0 m.kinds.items) (are_good_maps w f m.at (map plain_label ms))

three : (a b c r : Bool) → ((a && (b && c)) && r) ≡ (a && (b && (c && r)))
three true true c r = refl
three true false c r = refl
three false b c r = refl

-- a function's form, part by part
pub formed_as : (w : Table) (g : Function) → is_formed (of_types w) (plain_function g) ≡ (has_registers (plain_function g) && (has_few (plain_function g) && (has_types w (plain_function g) && are_good_labels w (plain_function g) 0 g.labels.items)))
formed_as w g =
    let f = plain_function g in
    let maps = are_good_maps w f 0 f.labels in
    sym (ap (λ b. has_registers f && (has_few f && (has_types w f && b))) (good_labels w f 0 g.labels.items)
    ∙ ap (λ b. has_registers f && (has_few f && b)) (three (are_params w f.params) (are_sizes f.credits) (are_types w f.results) maps)
    ∙ ap (λ b. has_registers f && b) (three (not (length f.results == 0)) (nat_lt (length f.results) (suc most_results)) (nat_lt (length f.credits) (suc most_credits)) (are_params w f.params && (are_sizes f.credits && (are_types w f.results && maps))))
    ∙ three (not (length f.instrs == 0)) (not (nat_lt f.registers (length f.params + length f.credits))) (nat_lt f.registers (suc most_registers)) (not (length f.results == 0) && (nat_lt (length f.results) (suc most_results) && (nat_lt (length f.credits) (suc most_credits) && (are_params w f.params && (are_sizes f.credits && (are_types w f.results && maps)))))))

-- ---- two lists in step

pub types_short : (xs ys : List ℕ) (i j : ℕ) → i < length xs → length ys ≤ j → same_types (drop i xs) (drop j ys) ≡ false
types_short [] ys i j h l = absurd (omega (arith, h))
types_short (x ∷ xs) [] zero zero h l = refl
types_short (x ∷ xs) [] zero (suc j) h l = refl
types_short (x ∷ xs) (y ∷ ys) zero zero h l = absurd (omega (arith, l))
types_short (x ∷ xs) (y ∷ ys) zero (suc j) h l = types_short (x ∷ xs) ys zero j h (omega (arith, l))
types_short (x ∷ xs) ys (suc i) j h l = types_short xs ys i j (omega (arith, h)) l

-- ---- what is kept

pub kept_some : (b : Bool) (ks : List Kind) (o : Option (List Kind)) → kept_if b ks ≡ o → b ≡ is_some o
kept_some true ks o e = ap is_some e
kept_some false ks o e = ap is_some e

pub kept_is : (b : Bool) (ks : List Kind) (o : Option (List Kind)) → kept_if b ks ≡ o → b ≡ true → o ≡ Some ks
kept_is true ks o e t = sym e
kept_is false ks o e t = absurd (true≢false (sym t))

-- ---- label maps that say the same

pub alike_at : (labels : List Label) (j k : ℕ) (m n : Label) → j < length labels → k < length labels → m ≡ get_or labels j m → n ≡ get_or labels k n → n.kinds.items ≡ m.kinds.items → SaysAlike labels j k
alike_at labels j k m n lj lk e f q p g =
    let there = slice_get_read labels (length labels) k n refl lk f in
    let same = same_Some m p (sym (slice_get_read labels (length labels) j m refl lj e) ∙ g) in
    (n, there, q ∙ ap (λ (l : Label). l.kinds.items) same)
