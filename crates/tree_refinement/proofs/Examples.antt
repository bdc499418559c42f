-- The reversal of a list of two items ends on cells as it does on trees.
use Rattle.std.proofs.Common.{◌≡◌, ℕ, ◌<◌, ◌^◌, List, [], ◌∷◌, Some, refl, ap, ◌∙◌, arith, pos}
use Rattle.std.specs.Prelude.{FitsSigned, codes}
use Rattle.std.specs.Int.{w64}
use Rattle.std.proofs.lemmas.Option.{none-some, same_Some}
use Rattle.tree_semantics.specs.fip_language.Values.{Value, End, More}
use Rattle.tree_semantics.specs.fip_language.Meaning as M
use Rattle.tree_semantics.specs.fip_language.Table.{Table, Shape}
use Rattle.tree_semantics.specs.fip_language.Example.{empty, item, pair}
use Rattle.tree_semantics.specs.fip_language.Store.{PlacedInt, Bare, At, Parts, NoParts, MoreParts, word_of}
use Rattle.tree_semantics.specs.machine_semantics.Example.{listed, first}
use Rattle.tree_semantics.specs.machine_semantics.States.{State}
use Rattle.tree_semantics.specs.machine_semantics.Steps.{Kinds}
use Rattle.tree_semantics.specs.machine_semantics.Runs as R
use Rattle.tree_semantics.specs.Contents.{put}
use Rattle.tree_semantics.specs.States as U
use Rattle.tree_semantics.specs.Runs as T
use Rattle.separation_bounds.specs.cell_code.Plain.{PlainCode}
use Rattle.separation_bounds.specs.code_rules.Example.{reversal}
use Rattle.separation_bounds.specs.separation.Codes.{AreKinds}
use Rattle.separation_bounds.specs.separation.Starts.{IsStart}
use Rattle.separation_bounds.proofs.separation.Examples.{reversal_starts}
use Rattle.tree_refinement.specs.Agreement.{IsWordOf, AreWordsOf}
use Rattle.tree_refinement.specs.Runs.{BeginsWith, IsSameEnd}
use Rattle.tree_refinement.proofs.Running.{cells_end}
use Rattle.tree_semantics.proofs.machine_semantics.cell_code.fip_base.fip_language.Facts.{fits_small as small}

abbrev items : Value
items = item (pos 1) (item (pos 2) empty)

abbrev reversed : Value
reversed = item (pos 2) (item (pos 1) empty)

-- Cons(1, Cons(2, Nil)) and Nil
abbrev arguments : Parts
arguments = MoreParts (At 1 1 (MoreParts (PlacedInt (pos 1)) (MoreParts (At 0 1 (MoreParts (PlacedInt (pos 2)) (MoreParts (Bare 0) NoParts))) NoParts))) (MoreParts (Bare 0) NoParts)

abbrev cons : Shape
cons = record { name = codes "Cons"; fields = 0 ∷ 2 ∷ [] }

abbrev nil : Shape
nil = record { name = codes "Nil"; fields = [] }

has_arguments : BeginsWith reversal 0 (first listed 3) (pair items empty)
has_arguments = (
  arguments,
  refl,
  ((refl, tt, cons, refl, (small 1 (omega arith), ((refl, tt, cons, refl, (small 2 (omega arith), ((nil, refl, refl), tt))), tt))), ((nil, refl, refl), tt)),
  refl,
)

pub example_begins : (before waits : Kinds) → AreKinds reversal before waits → IsStart reversal before waits 0 [] (first listed 3) × BeginsWith reversal 0 (first listed 3) (pair items empty)
example_begins before waits kinds = (reversal_starts before waits kinds, has_arguments)

on_trees : T.ending (T.after reversal 11 (T.begun (T.entry 0 (pair items empty) 0) 3)) ≡ Some (record { answer = M.Gives (More reversed End) 0; steps = 11 })
unfolding put
on_trees = refl

over_of : (r : T.Run) (a : M.Answer) (n : ℕ) → T.ending r ≡ Some (record { answer = a; steps = n }) → (last : U.State) × (left : ℕ) × (r ≡ T.Over a last left n)
over_of (T.Going t left m) a n e = absurd (none-some (record { answer = a; steps = n }) e)
over_of (T.Over b t left m) a n e =
    let is = same_Some (record { answer = b; steps = m }) (record { answer = a; steps = n }) e in
    (t, left, ap (λ b. T.Over b t left m) (ap (λ (x : T.Ending). x.answer) is) ∙ ap (λ m. T.Over a t left m) (ap (λ (x : T.Ending). x.steps) is))

-- one word for one value
record IsOne (tb : Table) (s : State) (t : ℕ) (v : Value) (ws : List ℕ) : Type 0 where
  word : ℕ
  words : ws ≡ word ∷ []
  stands : IsWordOf tb s.store t word v

is_one : (tb : Table) (s : State) (t : ℕ) (v : Value) (ws : List ℕ) → AreWordsOf tb s.store (t ∷ []) ws (More v End) → IsOne tb s t v ws
is_one tb s t v ws (NoParts, w, g, e) = absurd g
is_one tb s t v ws (MoreParts x (MoreParts y ys), w, g, e) = absurd g.1
is_one tb s t v ws (MoreParts x NoParts, w, g, e) = record { word = word_of x; words = w; stands = (x, record { word = refl; stands = g.0 }, cc) }

gives_one : (tb : Table) (before : Kinds) (code : PlainCode) (s end : State) (e : R.End) (left t l : ℕ) (v : Value) → R.Ends before code s 3 e end left 11 → IsSameEnd tb (t ∷ []) end left e (M.Gives (More v End) l) → (word : ℕ) × (last : State) × R.Ends before code s 3 (R.Value (word ∷ [])) last l 11 × IsWordOf tb last.store t word v
gives_one tb before code s end (R.Value ws) left t l v ends same =
    let one = is_one tb end t v ws same.0 in
    (one.word, end, record { enough = ends.enough; is = ends.is ∙ ap (λ ws. R.Over (R.Value ws) end left 11) one.words ∙ ap (λ m. R.Over (R.Value (one.word ∷ [])) end m 11) same.1 }, one.stands)
gives_one tb before code s end (R.Trap k line col) left t l v ends same = absurd same
gives_one tb before code s end R.Out left t l v ends same = absurd same
gives_one tb before code s end R.Deep left t l v ends same = absurd same
gives_one tb before code s end R.Unsound left t l v ends same = absurd same

pub example_ends : (before waits : Kinds) → AreKinds reversal before waits → (word : ℕ) × (end : State) × R.Ends before reversal (first listed 3) 3 (R.Value (word ∷ [])) end 0 11 × IsWordOf reversal.types end.store 2 word reversed
example_ends before waits kinds =
    let over = over_of (T.after reversal 11 (T.begun (T.entry 0 (pair items empty) 0) 3)) (M.Gives (More reversed End) 0) 11 on_trees in
    let o = cells_end reversal before waits 0 [] (first listed 3) (pair items empty) 3 11 (M.Gives (More reversed End) 0) over.0 over.1 11 (reversal_starts before waits kinds) has_arguments over.2 in
    gives_one reversal.types before reversal (first listed 3) o.1 o.0 over.1 2 0 reversed o.2 o.3
