-- Words of registers by number: what is read and written in lists of words.
use Rattle.std.proofs.Common.{◌≡◌, inl, inr, ℕ, zero, suc, ◌<◌, true, List, [], ◌∷◌, length, map, Some, None, slice_get, slice_set, refl, sym, ap, ◌∙◌, arith, nat_lt, ◌==◌}
use Rattle.std.proofs.lemmas.Option.{slice_get-get_or}
use Rattle.std.specs.Prelude.{option_and_then}
use Rattle.machine_semantics.specs.Rows.{write, read_all, and_word}
use Rattle.code_rules.specs.Ranges.{are_below}
use Rattle.separation_kinds.specs.Meanings.{word_at}
use Rattle.separation_kinds.proofs.Basics.{chosen, refused, both, below, below_is, or_not, equal, unequal}
use Rattle.separation_kinds.proofs.KindLemmas.{put}
pub use Rattle.machine_semantics.proofs.cell_code.fip_base.fip_language.Facts.{slice_set_length as set_length}

pub word_get : (ws : List ℕ) (r : ℕ) → r < length ws → slice_get ws r ≡ Some (word_at ws r)
word_get ws r h = slice_get-get_or ws r 0 h

pub read_words : (ws rs : List ℕ) → are_below (length ws) rs ≡ true → read_all ws rs ≡ Some (map (word_at ws) rs)
read_words ws [] e = refl
read_words ws (r ∷ rs) e =
    let p = both (nat_lt r (length ws)) (are_below (length ws) rs) e in
    ap (λ o. option_and_then (λ w. and_word w (read_all ws rs)) o) (word_get ws r (below r (length ws) p.0)) ∙ ap (and_word (word_at ws r)) (read_words ws rs p.1)

pub set_here : (ws : List ℕ) (d w : ℕ) → d < length ws → word_at (slice_set ws d w) d ≡ w
set_here [] d w h = absurd (omega arith)
set_here (v ∷ ws) zero w h = refl
set_here (v ∷ ws) (suc d) w h = set_here ws d w (omega arith)

pub set_other : (ws : List ℕ) (d r w : ℕ) → (r ≡ d → ⊥) → word_at (slice_set ws d w) r ≡ word_at ws r
set_other [] d r w off = refl
set_other (v ∷ ws) zero zero w off = absurd (off refl)
set_other (v ∷ ws) zero (suc r) w off = refl
set_other (v ∷ ws) (suc d) zero w off = refl
set_other (v ∷ ws) (suc d) (suc r) w off = set_other ws d r w (λ e. off (ap suc e))

pub set_word : (ws : List ℕ) (d w : ℕ) → d < length ws → (r : ℕ) → word_at (slice_set ws d w) r ≡ put d w (word_at ws) r
set_word ws d w h r = elim (or_not (r == d)) as (λ v. word_at (slice_set ws d w) r ≡ put d w (word_at ws) r) [
  | inl e ↦ ap (word_at (slice_set ws d w)) (equal r d e) ∙ set_here ws d w h ∙ sym (chosen (r == d) w (word_at ws r) e)
  | inr e ↦ set_other ws d r w (unequal r d e) ∙ sym (refused (r == d) w (word_at ws r) e)
]

pub writes : (ws : List ℕ) (d w : ℕ) → d < length ws → write ws d w ≡ Some (slice_set ws d w)
writes ws d w h = chosen (nat_lt d (length ws)) (Some (slice_set ws d w)) None (below_is d (length ws) h)
