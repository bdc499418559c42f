-- A source is the text of a program that breaks none of E01 to E04, or it breaks one of them at a place.
-- The idea: piece after piece is cut off, until none is left or none begins; then token after token is read, until the
-- machine stops, a bracket is too deep, a literal is too large, or all are read.
use Rattle.std.proofs.Common.{◌≡◌, ◌⊎◌, inl, inr, ℕ, zero, suc, ◌+◌, ◌-◌, ◌<◌, ◌≤◌, true, false, ◌==◌, codes, List, [], ◌∷◌, take, drop, length, Option, Some, None, refl, sym, ap, ◌∙◌, subst, arith, slice_get}
use Rattle.std.specs.List.{prefix_len}
use Rattle.std.specs.Str.{bytes_eq}
use Rattle.source_report.specs.fip_language.declared.Place.{Place}
use Rattle.source_report.specs.fip_language.declared.rule.Rule.{Rule}
use Rattle.source_report.specs.fip_language.declared.rule.Rule.TheVariants as R
use Rattle.source_report.specs.fip_language.Surface.{Program}
use Rattle.source_report.proofs.fip_language.Facts.{true_or_false, and_both, less_or_not, get_there, same_number, drop_at_next}
use Rattle.source_report.specs.fip_grammar.Claims.{IsFront, IsRead, double_start}
use Rattle.source_report.specs.fip_grammar.Cut.{is_lower, is_upper, is_digit, is_name, is_no_lf, is_blank, is_comment, is_gap, keyword_or_name, single_sign, BeginsNone, Piece, Cut, first_place, IsCut, IsBadByte}
use Rattle.source_report.specs.fip_grammar.Grammar.{Spells}
use Rattle.source_report.specs.fip_grammar.Limits.{is_opening, Seen, nothing_seen, following, limit, Breaks, IsLeastBroken, place_at, IsSpelt, IsMisspelt}
use Rattle.source_report.specs.fip_grammar.Machine.{Machine, start, machine_step, machine_end}
use Rattle.source_report.specs.fip_grammar.Token.{Word, Lower, Upper, Number, Operate, Mark, Token, value_of}
use Rattle.source_report.proofs.fip_grammar.Fronts.{first_bang, first_lower, first_upper, first_digit, first_double, first_single, first_none, gap_lf, gap_blank, gap_comment, gap_none, cut_first, read_on, read_all, bad_at, take_rest, within_on_next, next_further}
use Rattle.source_report.proofs.fip_grammar.Least.{Reads, reads_start, reads_refused, reads_too_deep, reads_too_large, reads_next, reads_unended, reads_ended}

-- ---- the first piece of a text

-- a text begins with a piece, or with none
abbrev HasFront : List ℕ → Place → Type 0
HasFront text p = ((x : Piece) × (next : Place) × IsFront text p x next) ⊎ ((is_gap text ≡ false) × BeginsNone text)

front_of_sign : (b : ℕ) (rest : List ℕ) (p : Place) → is_gap (b ∷ rest) ≡ false → is_lower b ≡ false → is_upper b ≡ false → is_digit b ≡ false → HasFront (b ∷ rest) p
front_of_sign b rest p gap l u d = double (double_start b rest) refl
  where
    single : double_start b rest ≡ None → (o : Option Word) → single_sign b ≡ o → HasFront (b ∷ rest) p
    single e (Some w) f = inl (Cut (take 1 (b ∷ rest)) w, _, cut_first (b ∷ rest) 1 w p gap (first_single b rest w l u d e f))
    single e None f = inr (gap, first_none b rest l u d e f)

    double : (o : Option Word) → double_start b rest ≡ o → HasFront (b ∷ rest) p
    double (Some w) e = inl (Cut (take 2 (b ∷ rest)) w, _, cut_first (b ∷ rest) 2 w p gap (first_double b rest w l u d e))
    double None e = single e (single_sign b) refl

front_of_word : (b : ℕ) (rest : List ℕ) (p : Place) → is_gap (b ∷ rest) ≡ false → HasFront (b ∷ rest) p
front_of_word b rest p gap = bang (true_or_false (bytes_eq (take 6 (b ∷ rest)) (codes "match!")))
  where
    digit : is_lower b ≡ false → is_upper b ≡ false → (is_digit b ≡ true) ⊎ (is_digit b ≡ false) → HasFront (b ∷ rest) p
    digit l u (inl e) = inl (_, _, cut_first (b ∷ rest) (prefix_len is_digit rest + 1) _ p gap (first_digit (b ∷ rest) rest b (prefix_len is_digit rest) refl l u e refl))
    digit l u (inr e) = front_of_sign b rest p gap l u e

    upper : is_lower b ≡ false → (is_upper b ≡ true) ⊎ (is_upper b ≡ false) → HasFront (b ∷ rest) p
    upper l (inl e) = inl (_, _, cut_first (b ∷ rest) (prefix_len is_name rest + 1) _ p gap (first_upper (b ∷ rest) rest b (prefix_len is_name rest) refl l e refl))
    upper l (inr e) = digit l e (true_or_false (is_digit b))

    lower : bytes_eq (take 6 (b ∷ rest)) (codes "match!") ≡ false → (is_lower b ≡ true) ⊎ (is_lower b ≡ false) → HasFront (b ∷ rest) p
    lower n (inl e) = inl (_, _, cut_first (b ∷ rest) (prefix_len is_name rest + 1) _ p gap (first_lower (b ∷ rest) rest b (prefix_len is_name rest) (keyword_or_name (take (prefix_len is_name rest + 1) (b ∷ rest))) refl e n refl refl))
    lower n (inr e) = upper e (true_or_false (is_upper b))

    bang : (bytes_eq (take 6 (b ∷ rest)) (codes "match!") ≡ true) ⊎ (bytes_eq (take 6 (b ∷ rest)) (codes "match!") ≡ false) → HasFront (b ∷ rest) p
    bang (inl e) = inl (_, _, cut_first (b ∷ rest) 6 _ p gap (first_bang (b ∷ rest) e))
    bang (inr e) = lower e (true_or_false (is_lower b))

comment_front : (text : List ℕ) (p : Place) → is_comment text ≡ true → HasFront text p
comment_front [] p e = absurd (cc)
comment_front (b ∷ []) p e = absurd (cc)
comment_front (b ∷ c ∷ more) p e =
    let both = and_both (b == 47) (c == 47) e in
    let first = same_number b 47 both.0 in
    let second = same_number c 47 both.1 in
    let same : b ∷ c ∷ more ≡ 47 ∷ 47 ∷ more = ap (λ x. x ∷ c ∷ more) first ∙ ap (λ y. 47 ∷ y ∷ more) second in
    inl (_, _, gap_comment (b ∷ c ∷ more) more (prefix_len is_no_lf more) p same refl)

front_of : (b : ℕ) (rest : List ℕ) (p : Place) → HasFront (b ∷ rest) p
front_of b rest p = ten (true_or_false (b == 10))
  where
    comment : is_blank b ≡ false → (is_comment (b ∷ rest) ≡ true) ⊎ (is_comment (b ∷ rest) ≡ false) → HasFront (b ∷ rest) p
    comment n (inl e) = comment_front (b ∷ rest) p e
    comment n (inr e) = front_of_word b rest p (gap_none (b ∷ rest) rest b refl n e)

    blank : (b == 10) ≡ false → (is_blank b ≡ true) ⊎ (is_blank b ≡ false) → HasFront (b ∷ rest) p
    blank n (inl e) = inl (_, _, gap_blank (b ∷ rest) rest b p refl e n)
    blank n (inr e) = comment e (true_or_false (is_comment (b ∷ rest)))

    ten : ((b == 10) ≡ true) ⊎ ((b == 10) ≡ false) → HasFront (b ∷ rest) p
    ten (inl e) = inl (_, _, gap_lf (b ∷ rest) rest p (ap (λ x. x ∷ rest) (same_number b 10 e)))
    ten (inr e) = blank e (true_or_false (is_blank b))

front_at : (source : List ℕ) (p : Place) → p.at < length source → HasFront (take (length source - p.at) (drop p.at source)) p
front_at source p less =
    let there = get_there source p.at less in
    let text : take (length source - p.at) (drop p.at source) ≡ there.0 ∷ drop (suc p.at) source = take_rest p.at source (omega (arith, less)) ∙ drop_at_next source p.at there.0 there.1 in
    subst (λ t. HasFront t p) (sym text) (front_of there.0 (drop (suc p.at) source) p)

-- ---- all pieces

abbrev IsCutOrBad : List ℕ → Type 0
IsCutOrBad source = ((ts : List Token) × (end : Place) × IsCut source ts end) ⊎ ((p : Place) × IsBadByte source p)

cut_one : (source : List ℕ) (p : Place) (ts : List Token) → p.at < length source → IsRead source (drop p.at source) p ts → HasFront (take (length source - p.at) (drop p.at source)) p → ((next : Place) (us : List Token) → next.at ≤ length source → p.at < next.at → IsRead source (drop next.at source) next us → IsCutOrBad source) → IsCutOrBad source
cut_one source p ts less r (inr (gap, none)) go = inr (p, bad_at source p ts less gap none r)
cut_one source p ts less r (inl (x, next, f)) go =
    let within : p.at ≤ length source = omega (arith, less) in
    go next _ (within_on_next source p next x within f) (next_further (take (length source - p.at) (drop p.at source)) p next x f) (read_on source p next ts x within f r)

cut_from : (n : ℕ) (source : List ℕ) (p : Place) (ts : List Token) → p.at ≤ length source → length source ≤ p.at + n → IsRead source (drop p.at source) p ts → IsCutOrBad source
cut_from zero source p ts within more r = inl (ts, p, read_all source p ts (omega (arith, more)) r)
cut_from (suc n) source p ts within more r = elim (less_or_not p.at (length source)) as (λ _. IsCutOrBad source) [
  | inr end ↦ inl (ts, p, read_all source p ts end r)
  | inl less ↦ cut_one source p ts less r (front_at source p less) (λ next us bound further k. cut_from n source next us bound (omega (arith, more, further)) k)
]

cut_or_bad : (source : List ℕ) → IsCutOrBad source
cut_or_bad source = cut_from (length source) source first_place [] (omega arith) (omega arith) ([], refl, refl, refl)

-- ---- all tokens

abbrev IsReadOrBroken : List Token → Type 0
IsReadOrBroken ts = ((x : Program) × Spells ts x × ((r : Rule) (t : ℕ) → Breaks ts r t → ⊥)) ⊎ ((r : Rule) × (t : ℕ) × IsLeastBroken ts r t)

large_or_not : (w : Word) (most : ℕ) → ((ds : List ℕ) × (w ≡ Number ds) × (most < value_of ds)) ⊎ ((ds : List ℕ) → w ≡ Number ds → most < value_of ds → ⊥)
large_or_not (Number es) most = by (less_or_not most (value_of es))
  where
    by : (most < value_of es) ⊎ (value_of es ≤ most) → ((ds : List ℕ) × (Number es ≡ Number ds) × (most < value_of ds)) ⊎ ((ds : List ℕ) → Number es ≡ Number ds → most < value_of ds → ⊥)
    by (inl more) = inl (es, refl, more)
    by (inr few) = inr (λ ds e more. let same : es ≡ ds = cc in let v = ap value_of same in omega (arith, v, more, few))
large_or_not (Lower n) most = inr (λ ds e more. absurd (cc))
large_or_not (Upper n) most = inr (λ ds e more. absurd (cc))
large_or_not (Operate o) most = inr (λ ds e more. absurd (cc))
large_or_not (Mark s) most = inr (λ ds e more. absurd (cc))

read_one : (ts : List Token) (i : ℕ) (m : Machine) (b : Seen) (t : Token) → Reads ts i m b → slice_get ts i ≡ Some t → ((m' : Machine) → Reads ts (i + 1) m' (following b t.word) → IsReadOrBroken ts) → IsReadOrBroken ts
read_one ts i m b t h at go = by (machine_step m t) refl
  where
    large : (m' : Machine) → machine_step m t ≡ Some m' → (is_opening t.word ≡ true → 100 ≤ b.open' → ⊥) → ((ds : List ℕ) × (t.word ≡ Number ds) × (limit b.is_sign < value_of ds)) ⊎ ((ds : List ℕ) → t.word ≡ Number ds → limit b.is_sign < value_of ds → ⊥) → IsReadOrBroken ts
    large m' e shallow (inl (ds, w, more)) = inr (R.E04, i, reads_too_large ts i m m' b t ds h at e w more)
    large m' e shallow (inr fits) = go m' (reads_next ts i m m' b t h at e shallow fits)

    deep : (m' : Machine) → machine_step m t ≡ Some m' → (is_opening t.word ≡ true) ⊎ (is_opening t.word ≡ false) → (b.open' < 100) ⊎ (100 ≤ b.open') → IsReadOrBroken ts
    deep m' e (inl o) (inr enough) = inr (R.E03, i, reads_too_deep ts i m m' b t h at e o enough)
    deep m' e (inl o) (inl less) = large m' e (λ _ k. omega (arith, less, k)) (large_or_not t.word (limit b.is_sign))
    deep m' e (inr shut) few = large m' e (λ o _. absurd (cc)) (large_or_not t.word (limit b.is_sign))

    by : (o : Option Machine) → machine_step m t ≡ o → IsReadOrBroken ts
    by None e = inr (R.E02, i, reads_refused ts i m b t h at e)
    by (Some m') e = deep m' e (true_or_false (is_opening t.word)) (less_or_not b.open' 100)

read_end : (ts : List Token) (i : ℕ) (m : Machine) (b : Seen) → Reads ts i m b → length ts ≤ i → IsReadOrBroken ts
read_end ts i m b h end = by (machine_end m) refl
  where
    whole : i ≡ length ts
    whole = let w = h.within in omega (arith, w, end)

    by : (o : Option Program) → machine_end m ≡ o → IsReadOrBroken ts
    by None e = inr (R.E02, i, reads_unended ts i m b h whole e)
    by (Some x) e = let r = reads_ended ts i m b x h whole e in inl (x, r.0, r.1)

read_from : (n : ℕ) (ts : List Token) (i : ℕ) (m : Machine) (b : Seen) → Reads ts i m b → length ts ≤ i + n → IsReadOrBroken ts
read_from zero ts i m b h more = read_end ts i m b h (omega (arith, more))
read_from (suc n) ts i m b h more = elim (less_or_not i (length ts)) as (λ _. IsReadOrBroken ts) [
  | inr end ↦ read_end ts i m b h end
  | inl less ↦ let there = get_there ts i less in read_one ts i m b there.0 h there.1 (λ m' k. read_from n ts (i + 1) m' (following b there.0.word) k (omega (arith, more)))
]

-- ---- a source

pub spelt_or_not : (source : List ℕ) → ((x : Program) × IsSpelt source x) ⊎ ((r : Rule) × (p : Place) × IsMisspelt source r p)
spelt_or_not source = by (cut_or_bad source)
  where
    read : (ts : List Token) (end : Place) → IsCut source ts end → IsReadOrBroken ts → ((x : Program) × IsSpelt source x) ⊎ ((r : Rule) × (p : Place) × IsMisspelt source r p)
    read ts end c (inl (x, s, none)) = inl (x, (ts, end, c, s, none))
    read ts end c (inr (r, t, b)) = inr (r, place_at ts end t, inr (ts, end, t, c, b, refl))

    by : IsCutOrBad source → ((x : Program) × IsSpelt source x) ⊎ ((r : Rule) × (p : Place) × IsMisspelt source r p)
    by (inr (p, bad)) = inr (R.E01, p, inl (refl, bad))
    by (inl (ts, end, c)) = read ts end c (read_from (length ts) ts 0 start nothing_seen (reads_start ts) (omega arith))
