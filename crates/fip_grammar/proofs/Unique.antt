-- A source is cut in one way.
use Rattle.std.proofs.Common.{◌≡◌, ℕ, zero, suc, ◌<◌, true, false, ◌||◌, List, [], ◌∷◌, ◌++◌, length, take, drop, Some, None, ◌⊎◌, inl, inr, refl, sym, ap, subst, ◌∙◌, arith}
use Rattle.std.specs.List.{list_all}
use Rattle.std.proofs.lemmas.Bool.{and_parts}
use Rattle.std.proofs.lemmas.Option.{same_Some}
use Rattle.std.proofs.Math.Seq.{take-append_seam, drop-append_seam}
use Rattle.fip_language.specs.declared.Place.{Place}
use Rattle.fip_grammar.specs.Token.{Word, Token}
use Rattle.fip_grammar.specs.Cut.{word_of, IsFirst, BeginsNone, is_blank, is_comment, is_gap, is_no_lf, EndsLine, Piece, Blank, Comment, Cut, piece_text, BeginsWith, after_all, Pieces, tokens_of, first_place, IsCut, IsBadByte}

-- nothing more can be cut off
abbrev Stops : List ℕ → Type 0
Stops r = (r ≡ []) ⊎ ((is_gap r ≡ false) × BeginsNone r)

true_false : {A : Type 0} → true ≡ false → A
true_false e = cc

some_none : {A : Type 0} {w : Word} → Some w ≡ None → A
some_none {A = A} {w = w} e = cc

cons_nil : {A : Type 0} {x : ℕ} {xs : List ℕ} → x ∷ xs ≡ [] → A
cons_nil {A = A} {x = x} {xs = xs} e = cc

blank_gap : (b : ℕ) (after text : List ℕ) → text ≡ b ∷ after → is_blank b ≡ true → is_gap text ≡ true
blank_gap b after text e k = ap is_gap e ∙ ap (λ c. c || is_comment (b ∷ after)) k

comment_gap : (after text : List ℕ) → text ≡ 47 ∷ 47 ∷ after → is_gap text ≡ true
comment_gap after text e = ap is_gap e

cut_some : (n : ℕ) (text : List ℕ) (w : Word) → word_of (take n text) ≡ Some w → text ≡ [] → ⊥
cut_some zero text w e n = some_none (sym e)
cut_some (suc n) text w e k = let h : word_of (take (suc n) []) ≡ Some w = subst (λ t. word_of (take (suc n) t) ≡ Some w) k e in some_none (sym h)

stopped : (x : Piece) (text after : List ℕ) → text ≡ piece_text x ++ after → BeginsWith x text after → Stops text → ⊥
stopped (Blank b) text after e k (inl s) = cons_nil (sym e ∙ s)
stopped (Comment t) text after e k (inl s) = cons_nil (sym e ∙ s)
stopped (Cut t w) text after e k (inl s) = cut_some (length t) text w k.1.word s
stopped (Blank b) text after e k (inr s) = true_false (sym (blank_gap b after text e k) ∙ s.0)
stopped (Comment t) text after e k (inr s) = true_false (sym (comment_gap (t ++ after) text e) ∙ s.0)
stopped (Cut t w) text after e k (inr s) = some_none (sym k.1.word ∙ s.1 (length t) k.1.within)

-- A comment ends in one place.
not_lf : (c : ℕ) (cs : List ℕ) → list_all is_no_lf (c ∷ cs) ≡ true → c ≡ 10 → ⊥
not_lf c cs h e = true_false (sym h ∙ ap (λ b. list_all is_no_lf (b ∷ cs)) e)

same_line : (bs cs a d : List ℕ) → bs ++ a ≡ cs ++ d → list_all is_no_lf bs ≡ true → list_all is_no_lf cs ≡ true → EndsLine a → EndsLine d → (bs ≡ cs) × (a ≡ d)
same_line [] [] a d e p q f g = (refl, e)
same_line [] (c ∷ cs) a d e p q f g = absurd (not_lf c cs q (subst EndsLine e f))
same_line (b ∷ bs) [] a d e p q f g = absurd (not_lf b bs p (subst EndsLine (sym e) g))
same_line (b ∷ bs) (c ∷ cs) a d e p q f g =
    let t : bs ++ a ≡ cs ++ d = cc in
    let h : b ≡ c = cc in
    let r = same_line bs cs a d t (and_parts (is_no_lf b) (list_all is_no_lf bs) p).1 (and_parts (is_no_lf c) (list_all is_no_lf cs) q).1 f g in
    (ap (λ l. l ++ bs) (ap (λ x. x ∷ []) h) ∙ ap (λ l. c ∷ l) r.0, r.1)

-- A token ends in one place.
same_length : (text : List ℕ) (n m : ℕ) (w v : Word) → IsFirst text n w → IsFirst text m v → n < m → ⊥
same_length text n m w v f g l = some_none (sym g.word ∙ f.longest m l g.within)

equal : (n m : ℕ) → (n < m → ⊥) → (m < n → ⊥) → n ≡ m
equal zero zero h k = refl
equal zero (suc m) h k = absurd (h (omega arith))
equal (suc n) zero h k = absurd (k (omega arith))
equal (suc n) (suc m) h k = ap suc (equal n m (λ l. h (omega (arith, l))) (λ l. k (omega (arith, l))))

abbrev Same : Piece → Piece → List ℕ → List ℕ → Type 0
Same x y a d = (x ≡ y) × (a ≡ d)

same_cut : (bs cs : List ℕ) (w v : Word) (text a d : List ℕ) → text ≡ bs ++ a → text ≡ cs ++ d → IsFirst text (length bs) w → IsFirst text (length cs) v → Same (Cut bs w) (Cut cs v) a d
same_cut bs cs w v text a d e k f g =
    let n : length bs ≡ length cs = equal (length bs) (length cs) (same_length text (length bs) (length cs) w v f g) (same_length text (length cs) (length bs) v w g f) in
    let t : bs ≡ cs = sym (take-append_seam bs a) ∙ ap (take (length bs)) (sym e) ∙ ap (λ i. take i text) n ∙ ap (take (length cs)) k ∙ take-append_seam cs d in
    let r : a ≡ d = sym (drop-append_seam bs a) ∙ ap (drop (length bs)) (sym e) ∙ ap (λ i. drop i text) n ∙ ap (drop (length cs)) k ∙ drop-append_seam cs d in
    let u : w ≡ v = same_Some w v (sym f.word ∙ ap (λ i. word_of (take i text)) n ∙ g.word) in
    (ap (λ l. Cut l w) t ∙ ap (Cut cs) u, r)

slash_is_no_blank : (b : ℕ) → is_blank b ≡ true → b ≡ 47 → ⊥
slash_is_no_blank b h e = true_false (sym h ∙ ap is_blank e)

same_piece : (x y : Piece) (text a d : List ℕ) → text ≡ piece_text x ++ a → text ≡ piece_text y ++ d → BeginsWith x text a → BeginsWith y text d → Same x y a d
same_piece (Blank b) (Blank c) text a d e k f g =
    let t : b ∷ a ≡ c ∷ d = sym e ∙ k in
    let h : b ≡ c = cc in
    let r : a ≡ d = cc in
    (ap Blank h, r)
same_piece (Blank b) (Comment t) text a d e k f g =
    let t' : b ∷ a ≡ 47 ∷ 47 ∷ (t ++ d) = sym e ∙ k in
    let h : b ≡ 47 = cc in
    absurd (slash_is_no_blank b f h)
same_piece (Blank b) (Cut t w) text a d e k f g = true_false (sym (blank_gap b a text e f) ∙ g.0)
same_piece (Comment t) (Blank b) text a d e k f g =
    let t' : b ∷ d ≡ 47 ∷ 47 ∷ (t ++ a) = sym k ∙ e in
    let h : b ≡ 47 = cc in
    absurd (slash_is_no_blank b g h)
same_piece (Comment t) (Comment u) text a d e k f g =
    let t' : 47 ∷ 47 ∷ (t ++ a) ≡ 47 ∷ 47 ∷ (u ++ d) = sym e ∙ k in
    let h : t ++ a ≡ u ++ d = cc in
    let r = same_line t u a d h f.0 g.0 f.1 g.1 in
    (ap Comment r.0, r.1)
same_piece (Comment t) (Cut u w) text a d e k f g = true_false (sym (comment_gap (t ++ a) text e) ∙ g.0)
same_piece (Cut t w) (Blank b) text a d e k f g = true_false (sym (blank_gap b d text k g) ∙ f.0)
same_piece (Cut t w) (Comment u) text a d e k f g = true_false (sym (comment_gap (u ++ d) text k) ∙ f.0)
same_piece (Cut t w) (Cut u v) text a d e k f g = same_cut t u w v text a d e k f.1 g.1

same_pieces : (xs ys : List Piece) (text r s : List ℕ) → Pieces xs text r → Pieces ys text s → Stops r → Stops s → (xs ≡ ys) × (r ≡ s)
same_pieces [] [] text r s c d p q = (refl, sym c ∙ d)
same_pieces [] (y ∷ ys) text r s c d p q = absurd (stopped y text d.0 d.1 d.2 (subst Stops (sym c) p))
same_pieces (x ∷ xs) [] text r s c d p q = absurd (stopped x text c.0 c.1 c.2 (subst Stops (sym d) q))
same_pieces (x ∷ xs) (y ∷ ys) text r s c d p q =
    let h = same_piece x y text c.0 d.0 c.1 d.1 c.2 d.2 in
    let t = same_pieces xs ys d.0 r s (subst (λ l. Pieces xs l r) h.1 c.3) d.3 p q in
    (ap (λ z. z ∷ xs) h.0 ∙ ap (λ l. y ∷ l) t.0, t.1)

pub cut_once : (source : List ℕ) (ts us : List Token) (p q : Place) → IsCut source ts p → IsCut source us q → (ts ≡ us) × (p ≡ q)
cut_once source ts us p q c d =
    let h = same_pieces c.0 d.0 source [] [] c.1 d.1 (inl refl) (inl refl) in
    (c.2 ∙ ap (tokens_of first_place) h.0 ∙ sym d.2, c.3 ∙ ap (after_all first_place) h.0 ∙ sym d.3)

pub cut_or_bad : {A : Type 0} (source : List ℕ) (ts : List Token) (p q : Place) → IsCut source ts p → IsBadByte source q → A
cut_or_bad source ts p q c d =
    let h = same_pieces c.0 d.0 source [] d.1 c.1 d.2 (inl refl) (inr (d.5, d.6)) in
    absurd (d.4 (sym h.1))

-- the first byte that begins no token is at one place
pub bad_once : (source : List ℕ) (p q : Place) → IsBadByte source p → IsBadByte source q → p ≡ q
bad_once source p q c d =
    let h = same_pieces c.0 d.0 source c.1 d.1 c.2 d.2 (inr (c.5, c.6)) (inr (d.5, d.6)) in
    c.3 ∙ ap (after_all first_place) h.0 ∙ sym d.3
