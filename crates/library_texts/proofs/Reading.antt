-- A text breaks no rule on brackets or literals, by computation: its tokens are read one after another.
use Rattle.std.proofs.Common.{◌≡◌, ◌<◌, ◌≤◌, ◌+◌, ℕ, zero, suc, Bool, true, false, ◌&&◌, ◌||◌, not, List, [], ◌∷◌, length, drop, Option, Some, None, inl, inr, refl, ap, subst, arith}
use Rattle.std.specs.Prelude.{is_some, nat_le, nat_lt}
use Rattle.std.specs.List.{slice_get}
use Rattle.std.proofs.lemmas.Bool.{and_parts}
use Rattle.std.proofs.lemmas.Bool.Decides.{nat_tests}
use Rattle.source_report.specs.fip_language.declared.rule.Rule.{Rule}
use Rattle.source_report.specs.fip_language.declared.rule.Rule.TheVariants as R
use Rattle.source_report.specs.fip_language.Prefix.{Accepted, run}
use Rattle.source_report.specs.fip_language.Surface as Surface
use Rattle.source_report.specs.fip_grammar.Token.{Word, Lower, Upper, Number, Operate, Mark, Token, value_of}
use Rattle.source_report.specs.fip_grammar.Grammar.{Spells}
use Rattle.source_report.specs.fip_grammar.Machine.{Machine, machine_step, machine_end, start}
use Rattle.source_report.specs.fip_grammar.Limits.{is_opening, Seen, nothing_seen, following, limit, Breaks, IsSpelt}
use Rattle.source_report.proofs.fip_grammar.Exact.{accepted_is_spelled}
use Rattle.source_report.proofs.fip_grammar.Least.{Reads, reads_start, reads_next, reads_unended, reads_ended}
use Rattle.library_texts.proofs.Cutting.{none_held, all_pieces, tokens_in, is_cut}
use Rattle.library_texts.proofs.Deriving.{tree_in}

-- ---- what is required of a token

abbrev pub is_shallow : Bool → ℕ → Bool
is_shallow opens n = not opens || nat_lt n 100

abbrev pub is_small : Seen → Word → Bool
is_small b (Number ds) = nat_le (value_of ds) (limit b.is_sign)
is_small b w = true

below_hundred : (n : ℕ) → nat_lt n 100 ≡ true → 100 ≤ n → ⊥
below_hundred n h k = grind (arith, nat_tests)

at_most_limit : (n m : ℕ) → nat_le n m ≡ true → m < n → ⊥
at_most_limit n m h k = grind (arith, nat_tests)

not_deep : (opens : Bool) (n : ℕ) → is_shallow opens n ≡ true → opens ≡ true → 100 ≤ n → ⊥
not_deep true n h e k = below_hundred n h k
not_deep false n h e k = none_held e

not_large : (b : Seen) (w : Word) → is_small b w ≡ true → (ds : List ℕ) → w ≡ Number ds → limit b.is_sign < value_of ds → ⊥
not_large b (Number es) h ds e k =
    let same : es ≡ ds = cc in
    at_most_limit (value_of ds) (limit b.is_sign) (subst (λ l. nat_le (value_of l) (limit b.is_sign) ≡ true) same h) k
not_large b (Lower n) h ds e k = cc
not_large b (Upper n) h ds e k = cc
not_large b (Operate o) h ds e k = cc
not_large b (Mark s) h ds e k = cc

-- ---- all tokens

abbrev pub if_taken : Option Machine → (Machine → Bool) → Bool
if_taken None go = false
if_taken (Some m) go = go m

-- the machine takes these tokens, and none of them breaks a rule
abbrev pub reads : Seen → Machine → List Token → Bool
reads b m [] = true
reads b m (t ∷ ts) =
    (is_shallow (is_opening t.word) b.open' && is_small b t.word)
    && if_taken (machine_step m t) (λ n. reads (following b t.word) n ts)

drop_none : (n : ℕ) (xs : List Token) → drop n xs ≡ [] → length xs ≤ n
drop_none zero [] e = omega arith
drop_none zero (x ∷ xs) e = absurd (cc)
drop_none (suc n) [] e = omega arith
drop_none (suc n) (x ∷ xs) e = let h = drop_none n xs e in omega (arith, h)

first_dropped : (n : ℕ) (xs : List Token) (t : Token) (ts : List Token) → drop n xs ≡ t ∷ ts → slice_get xs n ≡ Some t
first_dropped zero [] t ts e = absurd (cc)
first_dropped zero (x ∷ xs) t ts e = let h : x ≡ t = cc in ap Some h
first_dropped (suc n) [] t ts e = absurd (cc)
first_dropped (suc n) (x ∷ xs) t ts e = first_dropped n xs t ts e

rest_dropped : (n : ℕ) (xs : List Token) (t : Token) (ts : List Token) → drop n xs ≡ t ∷ ts → drop (suc n) xs ≡ ts
rest_dropped zero [] t ts e = absurd (cc)
rest_dropped zero (x ∷ xs) t ts e = cc
rest_dropped (suc n) [] t ts e = absurd (cc)
rest_dropped (suc n) (x ∷ xs) t ts e = rest_dropped n xs t ts e

-- all tokens are read
AllRead : List Token → Type 0
AllRead all = (m : Machine) × (b : Seen) × Reads all (length all) m b

read_on : (all ts : List Token) (i : ℕ) (m : Machine) (b : Seen) → drop i all ≡ ts → Reads all i m b → reads b m ts ≡ true → AllRead all
unfolding AllRead
read_on all [] i m b e h r =
    let le = drop_none i all e in
    let end : i ≡ length all = (let w = h.within in omega (arith, le, w)) in
    (m, b, subst (λ k. Reads all k m b) end h)
read_on all (t ∷ ts) i m b e h r =
    let parts = and_parts (is_shallow (is_opening t.word) b.open' && is_small b t.word) (if_taken (machine_step m t) (λ n. reads (following b t.word) n ts)) r in
    let both = and_parts (is_shallow (is_opening t.word) b.open') (is_small b t.word) parts.0 in
    let one : suc i ≡ i + 1 = omega arith in
    let rest : drop (i + 1) all ≡ ts = subst (λ k. drop k all ≡ ts) one (rest_dropped i all t ts e) in
    by (machine_step m t) refl parts.1 (first_dropped i all t ts e) (not_deep (is_opening t.word) b.open' both.0) (not_large b t.word both.1) (λ n k g. read_on all ts (i + 1) n (following b t.word) rest k g)
  where
    by :
        (o : Option Machine) → machine_step m t ≡ o → if_taken o (λ n. reads (following b t.word) n ts) ≡ true → slice_get all i ≡ Some t →
        (is_opening t.word ≡ true → 100 ≤ b.open' → ⊥) → ((ds : List ℕ) → t.word ≡ Number ds → limit b.is_sign < value_of ds → ⊥) →
        ((n : Machine) → Reads all (i + 1) n (following b t.word) → reads (following b t.word) n ts ≡ true → AllRead all) → AllRead all
    by None s g at deep large go = absurd (none_held g)
    by (Some n) s g at deep large go = go n (reads_next all i m n b t h at s deep large) g

-- ---- the text

no_other : (ts : List Token) (t : ℕ) (x : Surface.Program) → Spells ts x → t ≡ length ts → Breaks ts R.E02 t → ⊥
no_other ts t x s end (inl c) = (c.1).at_end end x s
no_other ts t x s end (inr (inl c)) = absurd (cc)
no_other ts t x s end (inr (inr c)) = absurd (cc)

pub is_spelt : (text : List ℕ) → is_some (all_pieces (length text) text) ≡ true → reads nothing_seen start (tokens_in text) ≡ true → run machine_step machine_end start (tokens_in text) 0 ≡ Accepted (tree_in text) → IsSpelt text (tree_in text)
unfolding AllRead
is_spelt text cut read accepted =
    let ts : List Token = tokens_in text in
    let all = read_on ts ts 0 start nothing_seen refl (reads_start ts) read in
    let spells : Spells ts (tree_in text) = accepted_is_spelled ts (tree_in text) accepted in
    (ts, _, is_cut text cut, spells, by (machine_end all.0) refl all.2 spells)
  where
    by : {m : Machine} {b : Seen} (o : Option Surface.Program) → machine_end m ≡ o → Reads (tokens_in text) (length (tokens_in text)) m b → Spells (tokens_in text) (tree_in text) → (r : Rule) (t : ℕ) → Breaks (tokens_in text) r t → ⊥
    by {m = m} {b = b} None e h s r t c =
        no_other (tokens_in text) (length (tokens_in text)) (tree_in text) s refl (reads_unended (tokens_in text) (length (tokens_in text)) m b h refl e).broken
    by {m = m} {b = b} (Some x) e h s r t c = (reads_ended (tokens_in text) (length (tokens_in text)) m b x h refl e).1 r t c
