-- How far the tokens are read: the machine is after the first i of them, and no rule is broken below i. Then the
-- next token shows which rule is broken first, or that one more token may be read. And a source breaks one rule at one
-- place at most, and none where it is spelled.
use Rattle.std.proofs.Common.{◌≡◌, ℕ, zero, suc, ◌+◌, ◌<◌, ◌≤◌, true, false, List, [], ◌∷◌, ◌++◌, take, drop, length, Option, Some, None, ◌⊎◌, inl, inr, refl, sym, ap, subst, ◌∙◌, arith}
use Rattle.std.specs.List.{slice_get}
use Rattle.std.proofs.lemmas.Option.{slice_get_within, same_Some}
use Rattle.std.proofs.Math.Seq.{drop-length}
use Rattle.fip_language.specs.declared.Place.{Place}
use Rattle.fip_language.specs.declared.rule.Rule.{Rule}
use Rattle.fip_language.specs.declared.rule.Rule.TheVariants as R
use Rattle.fip_language.specs.RuleOrder.{number}
use Rattle.fip_language.specs.Prefix.{IsPlace, Outcome, Accepted, Stopped, end_outcome, or_stop, run}
use Rattle.fip_language.specs.Surface.{Declaration, Program}
use Rattle.fip_language.proofs.OnePlace.{IsPlace-unique, IsPlace-not_spelt}
use Rattle.fip_grammar.specs.Token.{Word, Number, Token, value_of}
use Rattle.fip_grammar.specs.Grammar.{Spells}
use Rattle.fip_grammar.specs.Machine.{State, Next, Top, Refused, Stays, Declares, Machine, step, start, then_next, machine_step, machine_end}
use Rattle.fip_grammar.specs.Limits.{is_opening, Seen, nothing_seen, following, seen_from, seen, limit, Breaks, IsLeastBroken, place_at, IsSpelt, IsMisspelt}
use Rattle.fip_grammar.proofs.Exact.{accepted_is_spelled, spelled_is_accepted, stopped_is_place}
use Rattle.fip_grammar.proofs.Signs.{negates, Agrees, agrees_at_start, agrees_next, agrees_declared, literal_limit}
use Rattle.fip_grammar.proofs.Unique.{cut_once, cut_or_bad, bad_once}
use Rattle.fip_language.proofs.Facts.{drop_at_next as rest_at, less_apart as not_taken, three_ways}

-- what one token more is like
seen_more : (ts : List Token) (i : ℕ) (b : Seen) (t : Token) → slice_get ts i ≡ Some t → seen_from b (take (suc i) ts) ≡ following (seen_from b (take i ts)) t.word
seen_more [] i b t e = cc
seen_more (x ∷ xs) zero b t e = let h : x ≡ t = cc in ap (λ z. following b z.word) h
seen_more (x ∷ xs) (suc i) b t e = seen_more xs i (following b x.word) t e

-- a machine doesn't stop before the place where it is
end_stop : (o : Option Program) (i u : ℕ) → end_outcome o i ≡ Stopped u → i ≡ u
end_stop None i u e = cc
end_stop (Some x) i u e = cc

stops_step : (ts : List Token) (o : Option Machine) (i u : ℕ) → ((m : Machine) → run machine_step machine_end m ts (i + 1) ≡ Stopped u → i + 1 ≤ u) → or_stop o i (λ m. run machine_step machine_end m ts (i + 1)) ≡ Stopped u → i ≤ u
stops_step ts None i u on e = let h : i ≡ u = cc in omega arith
stops_step ts (Some m) i u on e = let h = on m e in omega arith

stops_on : (ts : List Token) (m : Machine) (i u : ℕ) → run machine_step machine_end m ts i ≡ Stopped u → i ≤ u
stops_on [] m i u e = let h = end_stop (machine_end m) i u e in omega arith
stops_on (t ∷ ts) m i u e = stops_step ts (machine_step m t) i u (λ m'. stops_on ts m' (i + 1) u) e

-- the machine stops at the place of the fault
place_stops_in : (ts : List Token) (u : ℕ) (o : Outcome Program) → run machine_step machine_end start ts 0 ≡ o → IsPlace Spells ts u → o ≡ Stopped u
place_stops_in ts u (Accepted x) e c = absurd (IsPlace-not_spelt Spells ts u x c (accepted_is_spelled ts x e))
place_stops_in ts u (Stopped v) e c = ap Stopped (IsPlace-unique Spells ts v u (stopped_is_place ts v e) c)

place_stops : (ts : List Token) (u : ℕ) → IsPlace Spells ts u → run machine_step machine_end start ts 0 ≡ Stopped u
place_stops ts u c = place_stops_in ts u (run machine_step machine_end start ts 0) refl c

-- The machine is in m after the first i tokens, which are like b; no rule is broken at a token below i.
pub record Reads (ts : List Token) (i : ℕ) (m : Machine) (b : Seen) : Type 0 where
  pub within : i ≤ length ts
  pub runs : run machine_step machine_end start ts 0 ≡ run machine_step machine_end m (drop i ts) i
  pub counted : b ≡ seen ts i
  pub agrees : Agrees m.state b
  pub unbroken : (r : Rule) (u : ℕ) → u < i → Breaks ts r u → ⊥

pub reads_start : (ts : List Token) → Reads ts 0 start nothing_seen
reads_start ts = record {
  within = omega arith;
  runs = refl;
  counted = refl;
  agrees = agrees_at_start;
  unbroken = λ r u lt c. absurd (omega arith);
}

reads_here : (ts : List Token) (i : ℕ) (m : Machine) (b : Seen) (t : Token) (o : Option Machine) → Reads ts i m b → slice_get ts i ≡ Some t → machine_step m t ≡ o → run machine_step machine_end start ts 0 ≡ or_stop o i (λ m. run machine_step machine_end m (drop (suc i) ts) (i + 1))
reads_here ts i m b t o h at e = h.runs ∙ ap (λ l. run machine_step machine_end m l i) (rest_at ts i t at) ∙ ap (λ o. or_stop o i (λ m. run machine_step machine_end m (drop (suc i) ts) (i + 1))) e

-- the grammar isn't broken at a token that the machine takes
taken_no_place : (ts : List Token) (i : ℕ) (m m' : Machine) (b : Seen) (t : Token) (u : ℕ) → Reads ts i m b → slice_get ts i ≡ Some t → machine_step m t ≡ Some m' → IsPlace Spells ts u → i < u
taken_no_place ts i m m' b t u h at e c =
    let k = stops_on (drop (suc i) ts) m' (i + 1) u (sym (reads_here ts i m b t (Some m') h at e) ∙ place_stops ts u c) in
    omega arith

-- what is broken, is broken at i or later
not_below : (ts : List Token) (i : ℕ) (m : Machine) (b : Seen) (r : Rule) (u : ℕ) → Reads ts i m b → Breaks ts r u → (i < u) ⊎ (i ≡ u)
not_below ts i m b r u h c = elim (three_ways i u) as (λ _. (i < u) ⊎ (i ≡ u)) [
  | inl lt ↦ inl lt
  | inr e ↦ elim e as (λ _. (i < u) ⊎ (i ≡ u)) [ inl e ↦ inr e | inr gt ↦ absurd (h.unbroken r u gt c) ]
]

at_least_two : (ts : List Token) (r : Rule) (u : ℕ) → Breaks ts r u → 2 ≤ number r
at_least_two ts r u (inl c) = let k = ap number c.0 in omega arith
at_least_two ts r u (inr (inl c)) = let k = ap number c.0 in omega arith
at_least_two ts r u (inr (inr c)) = let k = ap number c.0 in omega arith

-- a fault of the grammar at i is the least
least_place : (ts : List Token) (i : ℕ) (m : Machine) (b : Seen) → Reads ts i m b → IsPlace Spells ts i → IsLeastBroken ts R.E02 i
least_place ts i m b h c = record {
  broken = inl (refl, c);
  least = λ r u k. elim (not_below ts i m b r u h k) as (λ _. (i < u) ⊎ ((i ≡ u) × (2 ≤ number r))) [
    | inl lt ↦ inl lt
    | inr e ↦ inr (e, at_least_two ts r u k)
  ];
}

-- the greatest literal of a token that comes next
pub reads_limit : (ts : List Token) (i : ℕ) (m : Machine) (b : Seen) → Reads ts i m b → limit b.is_sign ≡ limit (negates m.state)
reads_limit ts i m b h = literal_limit m.state b h.agrees

-- the machine takes no such token
pub reads_refused : (ts : List Token) (i : ℕ) (m : Machine) (b : Seen) (t : Token) → Reads ts i m b → slice_get ts i ≡ Some t → machine_step m t ≡ None → IsLeastBroken ts R.E02 i
reads_refused ts i m b t h at none = least_place ts i m b h (stopped_is_place ts i (reads_here ts i m b t None h at none))

three_at_least : (ts : List Token) (i u : ℕ) (r : Rule) → i ≡ u → (IsPlace Spells ts u → ⊥) → Breaks ts r u → (i < u) ⊎ ((i ≡ u) × (3 ≤ number r))
three_at_least ts i u r e none (inl c) = absurd (none c.1)
three_at_least ts i u r e none (inr (inl c)) = let k = ap number c.0 in inr (e, omega arith)
three_at_least ts i u r e none (inr (inr c)) = let k = ap number c.0 in inr (e, omega arith)

-- a literal is no bracket
number_opens_none : (w : Word) (ds : List ℕ) → w ≡ Number ds → is_opening w ≡ true → ⊥
number_opens_none w ds e o = let h : false ≡ true = sym (ap is_opening e) ∙ o in cc

four_at_least : (ts : List Token) (i u : ℕ) (r : Rule) (t : Token) (ds : List ℕ) → i ≡ u → slice_get ts i ≡ Some t → t.word ≡ Number ds → (IsPlace Spells ts u → ⊥) → Breaks ts r u → (i < u) ⊎ ((i ≡ u) × (4 ≤ number r))
four_at_least ts i u r t ds e at w none (inl c) = absurd (none c.1)
four_at_least ts i u r t ds e at w none (inr (inl c)) =
    let k = c.1 in
    let same : t ≡ k.0 = same_Some t k.0 (sym at ∙ ap (slice_get ts) e ∙ k.1) in
    absurd (number_opens_none k.0.word ds (ap (λ x. x.word) (sym same) ∙ w) k.2)
four_at_least ts i u r t ds e at w none (inr (inr c)) = let k = ap number c.0 in inr (e, omega arith)

-- it takes it, but the token is a bracket too many
pub reads_too_deep : (ts : List Token) (i : ℕ) (m m' : Machine) (b : Seen) (t : Token) → Reads ts i m b → slice_get ts i ≡ Some t → machine_step m t ≡ Some m' → is_opening t.word ≡ true → 100 ≤ b.open' → IsLeastBroken ts R.E03 i
reads_too_deep ts i m m' b t h at e o deep = record {
  broken = inr (inl (refl, (t, at, o, subst (λ s. 100 ≤ s.open') h.counted deep)));
  least = λ r u k. elim (not_below ts i m b r u h k) as (λ _. (i < u) ⊎ ((i ≡ u) × (3 ≤ number r))) [
    | inl lt ↦ inl lt
    | inr same ↦ three_at_least ts i u r same (λ c. not_taken i u (taken_no_place ts i m m' b t u h at e c) same) k
  ];
}

-- it takes it, but the token is a literal that is too large
pub reads_too_large : (ts : List Token) (i : ℕ) (m m' : Machine) (b : Seen) (t : Token) (ds : List ℕ) → Reads ts i m b → slice_get ts i ≡ Some t → machine_step m t ≡ Some m' → t.word ≡ Number ds → limit b.is_sign < value_of ds → IsLeastBroken ts R.E04 i
reads_too_large ts i m m' b t ds h at e w large = record {
  broken = inr (inr (refl, (t, ds, at, w, subst (λ s. limit s.is_sign < value_of ds) h.counted large)));
  least = λ r u k. elim (not_below ts i m b r u h k) as (λ _. (i < u) ⊎ ((i ≡ u) × (4 ≤ number r))) [
    | inl lt ↦ inl lt
    | inr same ↦ four_at_least ts i u r t ds same at w (λ c. not_taken i u (taken_no_place ts i m m' b t u h at e c) same) k
  ];
}

-- the next state agrees with the token too
agrees_machine : (s : State) (b : Seen) (t : Token) (n : Next) (done : List Declaration) (m' : Machine) → Agrees s b → step s t.word t.place ≡ n → then_next done n ≡ Some m' → Agrees m'.state (following b t.word)
agrees_machine s b t Refused done m' a e k = cc
agrees_machine s b t (Stays s') done m' a e k =
    let same : record { done = done; state = s' } ≡ m' = cc in
    subst (λ m. Agrees m.state (following b t.word)) same (agrees_next s s' b t.word t.place a e)
agrees_machine s b t (Declares d) done m' a e k =
    let same : record { done = done ++ d ∷ []; state = Top } ≡ m' = cc in
    subst (λ m. Agrees m.state (following b t.word)) same (agrees_declared s b t.word t.place d a e)

-- the token at i breaks nothing
unbroken_here : (ts : List Token) (i : ℕ) (b : Seen) (t : Token) (r : Rule) (u : ℕ) → b ≡ seen ts i → slice_get ts i ≡ Some t → (IsPlace Spells ts u → ⊥) → (is_opening t.word ≡ true → 100 ≤ b.open' → ⊥) → ((ds : List ℕ) → t.word ≡ Number ds → limit b.is_sign < value_of ds → ⊥) → i ≡ u → Breaks ts r u → ⊥
unbroken_here ts i b t r u like at none deep large e (inl c) = none c.1
unbroken_here ts i b t r u like at none deep large e (inr (inl c)) =
    let k = c.1 in
    let same : k.0 ≡ t = same_Some k.0 t (sym k.1 ∙ ap (slice_get ts) (sym e) ∙ at) in
    let count : seen ts u ≡ b = ap (seen ts) (sym e) ∙ sym like in
    deep (subst (λ x. is_opening x.word ≡ true) same k.2) (subst (λ s. 100 ≤ s.open') count k.3)
unbroken_here ts i b t r u like at none deep large e (inr (inr c)) =
    let k = c.1 in
    let same : k.0 ≡ t = same_Some k.0 t (sym k.2 ∙ ap (slice_get ts) (sym e) ∙ at) in
    let count : seen ts u ≡ b = ap (seen ts) (sym e) ∙ sym like in
    large k.1 (subst (λ x. x.word ≡ Number k.1) same k.3) (subst (λ s. limit s.is_sign < value_of k.1) count k.4)

unbroken_more : (ts : List Token) (i : ℕ) (m m' : Machine) (b : Seen) (t : Token) (r : Rule) (u : ℕ) → Reads ts i m b → slice_get ts i ≡ Some t → machine_step m t ≡ Some m' → (is_opening t.word ≡ true → 100 ≤ b.open' → ⊥) → ((ds : List ℕ) → t.word ≡ Number ds → limit b.is_sign < value_of ds → ⊥) → u < i + 1 → Breaks ts r u → ⊥
unbroken_more ts i m m' b t r u h at e deep large lt c = elim (not_below ts i m b r u h c) as (λ _. ⊥) [
  | inl more ↦ omega arith
  | inr same ↦ unbroken_here ts i b t r u h.counted at (λ k. not_taken i u (taken_no_place ts i m m' b t u h at e k) same) deep large same c
]

-- it takes it, and the token breaks no rule
pub reads_next : (ts : List Token) (i : ℕ) (m m' : Machine) (b : Seen) (t : Token) → Reads ts i m b → slice_get ts i ≡ Some t → machine_step m t ≡ Some m' → (is_opening t.word ≡ true → 100 ≤ b.open' → ⊥) → ((ds : List ℕ) → t.word ≡ Number ds → limit b.is_sign < value_of ds → ⊥) → Reads ts (i + 1) m' (following b t.word)
reads_next ts i m m' b t h at e deep large =
    let one : suc i ≡ i + 1 = omega arith in
    let lt = slice_get_within ts i t at in
    record {
      within = omega arith;
      runs = reads_here ts i m b t (Some m') h at e ∙ ap (λ k. run machine_step machine_end m' (drop k ts) (i + 1)) one;
      counted = ap (λ s. following s t.word) h.counted ∙ sym (seen_more ts i nothing_seen t at) ∙ ap (seen ts) one;
      agrees = agrees_machine m.state b t (step m.state t.word t.place) m.done m' h.agrees refl e;
      unbroken = λ r u lt c. unbroken_more ts i m m' b t r u h at e deep large lt c;
    }

reads_end : (ts : List Token) (i : ℕ) (m : Machine) (b : Seen) (o : Option Program) → Reads ts i m b → i ≡ length ts → machine_end m ≡ o → run machine_step machine_end start ts 0 ≡ end_outcome o i
reads_end ts i m b o h end e =
    let nothing : drop i ts ≡ [] = ap (λ k. drop k ts) end ∙ drop-length ts in
    h.runs ∙ ap (λ l. run machine_step machine_end m l i) nothing ∙ ap (λ o. end_outcome o i) e

-- after the last token only the grammar may be broken
broken_past : (ts : List Token) (r : Rule) (u : ℕ) → (IsPlace Spells ts u → ⊥) → length ts ≤ u → Breaks ts r u → ⊥
broken_past ts r u none le (inl c) = none c.1
broken_past ts r u none le (inr (inl c)) = let k = c.1 in let lt = slice_get_within ts u k.0 k.1 in omega arith
broken_past ts r u none le (inr (inr c)) = let k = c.1 in let lt = slice_get_within ts u k.0 k.2 in omega arith

-- all tokens are read, but the last declaration hasn't ended
pub reads_unended : (ts : List Token) (i : ℕ) (m : Machine) (b : Seen) → Reads ts i m b → i ≡ length ts → machine_end m ≡ None → IsLeastBroken ts R.E02 i
reads_unended ts i m b h end none =
    least_place ts i m b h (stopped_is_place ts i (reads_end ts i m b None h end none))

-- all tokens are read, and they are a program's
pub reads_ended : (ts : List Token) (i : ℕ) (m : Machine) (b : Seen) (x : Program) → Reads ts i m b → i ≡ length ts → machine_end m ≡ Some x → Spells ts x × ((r : Rule) (t : ℕ) → Breaks ts r t → ⊥)
reads_ended ts i m b x h end e =
    let c = accepted_is_spelled ts x (reads_end ts i m b (Some x) h end e) in (
      c,
      λ r u k. elim (three_ways u i) as (λ _. ⊥) [
        | inl lt ↦ h.unbroken r u lt k
        | inr more ↦ broken_past ts r u (λ p. IsPlace-not_spelt Spells ts u x p c) (elim more as (λ _. length ts ≤ u) [ inl same ↦ omega arith | inr gt ↦ omega arith ]) k
      ],
    )

two_three : (n m : ℕ) → n ≡ m → n ≡ 2 → m ≡ 3 → ⊥
two_three n m e a b = omega arith

two_four : (n m : ℕ) → n ≡ m → n ≡ 2 → m ≡ 4 → ⊥
two_four n m e a b = omega arith

three_four : (n m : ℕ) → n ≡ m → n ≡ 3 → m ≡ 4 → ⊥
three_four n m e a b = omega arith

-- a number is that of one of these rules alone
one_of_number : (ts : List Token) (r r' : Rule) (u u' : ℕ) → Breaks ts r u → Breaks ts r' u' → number r ≡ number r' → r ≡ r'
one_of_number ts r r' u u' (inl c) (inl d) e = c.0 ∙ sym d.0
one_of_number ts r r' u u' (inl c) (inr (inl d)) e = absurd (two_three (number r) (number r') e (ap number c.0) (ap number d.0))
one_of_number ts r r' u u' (inl c) (inr (inr d)) e = absurd (two_four (number r) (number r') e (ap number c.0) (ap number d.0))
one_of_number ts r r' u u' (inr (inl c)) (inl d) e = absurd (two_three (number r') (number r) (sym e) (ap number d.0) (ap number c.0))
one_of_number ts r r' u u' (inr (inl c)) (inr (inl d)) e = c.0 ∙ sym d.0
one_of_number ts r r' u u' (inr (inl c)) (inr (inr d)) e = absurd (three_four (number r) (number r') e (ap number c.0) (ap number d.0))
one_of_number ts r r' u u' (inr (inr c)) (inl d) e = absurd (two_four (number r') (number r) (sym e) (ap number d.0) (ap number c.0))
one_of_number ts r r' u u' (inr (inr c)) (inr (inl d)) e = absurd (three_four (number r') (number r) (sym e) (ap number d.0) (ap number c.0))
one_of_number ts r r' u u' (inr (inr c)) (inr (inr d)) e = c.0 ∙ sym d.0

once : (n n' t t' : ℕ) → (t < t') ⊎ ((t ≡ t') × (n ≤ n')) → (t' < t) ⊎ ((t' ≡ t) × (n' ≤ n)) → (n ≡ n') × (t ≡ t')
once n n' t t' (inl x) (inl y) = absurd (omega arith)
once n n' t t' (inl x) (inr y) = absurd (omega (arith, y.0))
once n n' t t' (inr x) (inl y) = absurd (omega (arith, x.0))
once n n' t t' (inr x) (inr y) = (omega (arith, x.1, y.1), x.0)

-- one rule at one token
pub least_once : (ts : List Token) (r r' : Rule) (t t' : ℕ) → IsLeastBroken ts r t → IsLeastBroken ts r' t' → (r ≡ r') × (t ≡ t')
least_once ts r r' t t' a b =
    let x = a.least r' t' b.broken in
    let y = b.least r t a.broken in
    let k = once (number r) (number r') t t' x y in
    (one_of_number ts r r' t t' a.broken b.broken k.0, k.1)

pub misspelt_once : (source : List ℕ) (r r' : Rule) (p p' : Place) → IsMisspelt source r p → IsMisspelt source r' p' → (r ≡ r') × (p ≡ p')
misspelt_once source r r' p p' (inl a) (inl b) = (a.0 ∙ sym b.0, bad_once source p p' a.1 b.1)
misspelt_once source r r' p p' (inl a) (inr b) = cut_or_bad source b.0 b.1 p b.3 a.1
misspelt_once source r r' p p' (inr a) (inl b) = cut_or_bad source a.0 a.1 p' a.3 b.1
misspelt_once source r r' p p' (inr a) (inr b) =
    let cut = cut_once source a.0 b.0 a.1 b.1 a.3 b.3 in
    let k = least_once b.0 r r' a.2 b.2 (subst (λ ts. IsLeastBroken ts r a.2) cut.0 a.4) b.4 in
    (k.0, a.5 ∙ ap (λ ts. place_at ts a.1 a.2) cut.0 ∙ ap (λ e. place_at b.0 e a.2) cut.1 ∙ ap (place_at b.0 b.1) k.1 ∙ sym b.5)

accepted_same : (p q : Program) → Accepted p ≡ Accepted q → p ≡ q
accepted_same p q e = cc

pub spelt_once : (source : List ℕ) (p q : Program) → IsSpelt source p → IsSpelt source q → p ≡ q
spelt_once source p q a b =
    let cut = cut_once source a.0 b.0 a.1 b.1 a.2 b.2 in
    accepted_same p q (sym (spelled_is_accepted b.0 p (subst (λ ts. Spells ts p) cut.0 a.3)) ∙ spelled_is_accepted b.0 q b.3)

pub spelt_or_misspelt : (source : List ℕ) (x : Program) (r : Rule) (p : Place) → IsSpelt source x → IsMisspelt source r p → ⊥
spelt_or_misspelt source x r p a (inl b) = cut_or_bad source a.0 a.1 p a.2 b.1
spelt_or_misspelt source x r p a (inr b) =
    let cut = cut_once source a.0 b.0 a.1 b.1 a.2 b.3 in
    a.4 r b.2 (subst (λ ts. Breaks ts r b.2) (sym cut.0) b.4.broken)
