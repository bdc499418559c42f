-- How a text is cut, by computation: the first piece of a text with the proof that it is one, and so the whole.
use Rattle.std.proofs.Common.{◌≡◌, ℕ, zero, suc, ◌+◌, Bool, true, false, ◌==◌, List, [], ◌∷◌, length, take, drop, Option, Some, None, arith, refl, sym, ap, ap₂, subst, ◌∙◌}
use Rattle.std.specs.Prelude.{is_some, codes}
use Rattle.std.specs.List.{prefix_len}
use Rattle.std.specs.Str.{bytes_eq}
use Rattle.std.proofs.lemmas.Bool.{and_parts}
use Rattle.std.proofs.lemmas.Bool.Decides.{nat_tests}
use Rattle.std.proofs.Math.Seq.{drop-append_seam}
use Rattle.source_report.specs.fip_language.declared.Place.{Place}
use Rattle.source_report.specs.fip_grammar.Token.{Word, Upper, Number, Mark, Token}
use Rattle.source_report.specs.fip_grammar.declared.Sign.TheVariants as S
use Rattle.source_report.specs.fip_grammar.Cut.{is_lower, is_upper, is_digit, is_name, keyword_or_name, single_sign, IsFirst, is_blank, is_comment, is_gap, is_no_lf, Piece, Blank, Comment, Cut, piece_text, along, next_line, first_place, Pieces, tokens_of, after_all, IsCut}
use Rattle.source_report.specs.fip_grammar.Claims.{double_start, IsFront}
use Rattle.source_report.proofs.fip_grammar.Fronts.{first_bang, first_lower, first_upper, first_digit, first_double, first_single, gap_lf, gap_blank, gap_comment, gap_none, cut_first}
pub use Rattle.source_report.proofs.cell_lower.fip_language.Facts.{same_number as is_byte}

pub none_held : false ≡ true → ⊥
none_held e = cc

-- what an option holds, where it holds something
abbrev pub held : {A : Type 0} (o : Option A) → is_some o ≡ true → A
held (Some x) e = x
held None e = absurd (none_held e)

-- ---- the first piece

-- the first word of a text: its length, and that it is the longest
abbrev FirstWord : List ℕ → Type 0
FirstWord text = (n : ℕ) × (w : Word) × IsFirst text n w

abbrev single_by : (b : ℕ) (rest : List ℕ) → is_lower b ≡ false → is_upper b ≡ false → is_digit b ≡ false → double_start b rest ≡ None → (o : Option Word) → single_sign b ≡ o → Option (FirstWord (b ∷ rest))
single_by b rest l u d n None e = None
single_by b rest l u d n (Some w) e = Some (1, w, first_single b rest w l u d n e)

abbrev double_by : (b : ℕ) (rest : List ℕ) → is_lower b ≡ false → is_upper b ≡ false → is_digit b ≡ false → (o : Option Word) → double_start b rest ≡ o → Option (FirstWord (b ∷ rest))
double_by b rest l u d None e = single_by b rest l u d e (single_sign b) refl
double_by b rest l u d (Some w) e = Some (2, w, first_double b rest w l u d e)

abbrev digit_by : (b : ℕ) (rest : List ℕ) → is_lower b ≡ false → is_upper b ≡ false → (s : Bool) → is_digit b ≡ s → Option (FirstWord (b ∷ rest))
digit_by b rest l u true e = Some (prefix_len is_digit rest + 1, Number (take (prefix_len is_digit rest + 1) (b ∷ rest)), first_digit (b ∷ rest) rest b (prefix_len is_digit rest) refl l u e refl)
digit_by b rest l u false e = double_by b rest l u e (double_start b rest) refl

abbrev upper_by : (b : ℕ) (rest : List ℕ) → is_lower b ≡ false → (s : Bool) → is_upper b ≡ s → Option (FirstWord (b ∷ rest))
upper_by b rest l true e = Some (prefix_len is_name rest + 1, Upper (take (prefix_len is_name rest + 1) (b ∷ rest)), first_upper (b ∷ rest) rest b (prefix_len is_name rest) refl l e refl)
upper_by b rest l false e = digit_by b rest l e (is_digit b) refl

abbrev lower_by : (b : ℕ) (rest : List ℕ) → bytes_eq (take 6 (b ∷ rest)) (codes "match!") ≡ false → (s : Bool) → is_lower b ≡ s → Option (FirstWord (b ∷ rest))
lower_by b rest n true e =
    Some (prefix_len is_name rest + 1, keyword_or_name (take (prefix_len is_name rest + 1) (b ∷ rest)), first_lower (b ∷ rest) rest b (prefix_len is_name rest) _ refl e n refl refl)
lower_by b rest n false e = upper_by b rest e (is_upper b) refl

abbrev bang_by : (b : ℕ) (rest : List ℕ) (s : Bool) → bytes_eq (take 6 (b ∷ rest)) (codes "match!") ≡ s → Option (FirstWord (b ∷ rest))
bang_by b rest true e = Some (6, Mark S.MatchBang, first_bang (b ∷ rest) e)
bang_by b rest false e = lower_by b rest e (is_lower b) refl

abbrev FirstPiece : List ℕ → Type 0
FirstPiece text = (x : Piece) × (next : Place) × IsFront text first_place x next

abbrev word_piece : (text : List ℕ) → is_gap text ≡ false → Option (FirstWord text) → Option (FirstPiece text)
word_piece text g None = None
word_piece text g (Some (n, w, f)) = Some (Cut (take n text) w, along first_place n, cut_first text n w first_place g f)

pub slashes : (b c : ℕ) (more : List ℕ) → is_comment (b ∷ c ∷ more) ≡ true → b ∷ c ∷ more ≡ 47 ∷ 47 ∷ more
slashes b c more e =
    let h = and_parts (b == 47) (c == 47) e in
    ap₂ (λ x y. x ∷ y ∷ more) (is_byte b 47 h.0) (is_byte c 47 h.1)

abbrev comment_by : (b : ℕ) (rest : List ℕ) → is_blank b ≡ false → (s : Bool) → is_comment (b ∷ rest) ≡ s → Option (FirstPiece (b ∷ rest))
comment_by b [] k true e = absurd (none_held e)
comment_by b (c ∷ more) k true e =
    Some (Comment (take (prefix_len is_no_lf more) more), along first_place (prefix_len is_no_lf more + 2), gap_comment (b ∷ c ∷ more) more (prefix_len is_no_lf more) first_place (slashes b c more e) refl)
comment_by b rest k false e = word_piece (b ∷ rest) (gap_none (b ∷ rest) rest b refl k e) (bang_by b rest (bytes_eq (take 6 (b ∷ rest)) (codes "match!")) refl)

abbrev lf_by : (b : ℕ) (rest : List ℕ) → is_blank b ≡ true → (s : Bool) → (b == 10) ≡ s → FirstPiece (b ∷ rest)
lf_by b rest k true e = (Blank b, next_line first_place, subst (λ x. IsFront (x ∷ rest) first_place (Blank x) (next_line first_place)) (sym (is_byte b 10 e)) (gap_lf (10 ∷ rest) rest first_place refl))
lf_by b rest k false e = (Blank b, along first_place 1, gap_blank (b ∷ rest) rest b first_place refl k e)

abbrev blank_by : (b : ℕ) (rest : List ℕ) (s : Bool) → is_blank b ≡ s → Option (FirstPiece (b ∷ rest))
blank_by b rest true e = Some (lf_by b rest e (b == 10) refl)
blank_by b rest false e = comment_by b rest e (is_comment (b ∷ rest)) refl

-- ---- all pieces

abbrev AllPieces : List ℕ → Type 0
AllPieces text = (xs : List Piece) × Pieces xs text []

pub after_first : (text : List ℕ) (x : Piece) (next : Place) (f : IsFront text first_place x next) → drop (length (piece_text x)) text ≡ f.after
after_first text x next f = ap (drop (length (piece_text x))) f.whole ∙ drop-append_seam (piece_text x) f.after

-- the pieces after the first
abbrev following_first : (text : List ℕ) (x : Piece) (next : Place) (f : IsFront text first_place x next) → Option (AllPieces (drop (length (piece_text x)) text)) → Option (AllPieces text)
following_first text x next f None = None
following_first text x next f (Some (xs, h)) = Some (x ∷ xs, (f.after, f.whole, f.begins, subst (λ t. Pieces xs t []) (after_first text x next f) h))

abbrev pub from_first : (text : List ℕ) → Option (FirstPiece text) → ((rest : List ℕ) → Option (AllPieces rest)) → Option (AllPieces text)
from_first text None go = None
from_first text (Some (x, next, f)) go = following_first text x next f (go (drop (length (piece_text x)) text))

-- the pieces of a text of at most so many bytes
abbrev pub all_pieces : ℕ → (text : List ℕ) → Option (AllPieces text)
all_pieces n [] = Some ([], refl)
all_pieces zero (b ∷ rest) = None
all_pieces (suc n) (b ∷ rest) = from_first (b ∷ rest) (blank_by b rest (is_blank b) refl) (all_pieces n)

abbrev pub pieces_or_none : {text : List ℕ} → Option (AllPieces text) → List Piece
pieces_or_none None = []
pieces_or_none (Some (xs, h)) = xs

-- the tokens of a text that can be cut
abbrev pub tokens_in : List ℕ → List Token
tokens_in text = tokens_of first_place (pieces_or_none (all_pieces (length text) text))

pub is_cut : (text : List ℕ) → is_some (all_pieces (length text) text) ≡ true → IsCut text (tokens_in text) (after_all first_place (pieces_or_none (all_pieces (length text) text)))
is_cut text e = by (all_pieces (length text) text) e
  where
    by : (o : Option (AllPieces text)) → is_some o ≡ true → IsCut text (tokens_of first_place (pieces_or_none o)) (after_all first_place (pieces_or_none o))
    by None e = absurd (none_held e)
    by (Some (xs, h)) e = (xs, h, refl, refl)
