-- What a name holds is printed: a tree that stands in the machine's words does so in the printer's.
use Rattle.std.proofs.Common.{◌≡◌, ◌∙◌, ℕ, zero, suc, List, [], ◌∷◌, ◌++◌, Option, Some, None, append_assoc, refl, sym, ap, subst}
use Rattle.std.specs.Fmt.{signed_decimal}
use Rattle.fip_language.specs.PrintedText.{printed, printed_fields, printed_more, shape_at}
use Rattle.fip_language.specs.Store.{Cell, Placed, PlacedInt, Bare, At, Parts, NoParts, MoreParts}
use Rattle.fip_language.specs.Table.{Table, shapes}
use Rattle.fip_language.specs.Values.{Value, Int, Node, Values, End, More}
use Rattle.cell_store.specs.Cells.{cell_at}
use Rattle.value_text.specs.Standing as V
use Rattle.session_correctness.specs.tree_refinement.machine_semantics.Cells.{Store, cell_in}
use Rattle.session_correctness.specs.tree_refinement.machine_semantics.Trees as T

same_cell : (cs : List (Option Cell)) (p : ℕ) → cell_at cs p ≡ cell_in cs p
same_cell [] p = refl
same_cell (o ∷ os) zero = refl
same_cell (o ∷ os) (suc p) = same_cell os p

mutual
  pub stands_here : (tb : Table) (s : Store) (t : ℕ) (x : Placed) → T.Stands tb s t x → V.Stands tb s.cells t x
  stands_here tb s zero (PlacedInt i) h = h
  stands_here tb s zero (Bare c) h = absurd h
  stands_here tb s zero (At p c xs) h = absurd h
  stands_here tb s (suc t) (PlacedInt i) h = absurd h
  stands_here tb s (suc t) (Bare c) h = h
  stands_here tb s (suc t) (At p c xs) h = (same_cell s.cells p ∙ h.0, h.2, h.3, all_here tb s (h.2).fields xs h.4)

  all_here : (tb : Table) (s : Store) (ts : List ℕ) (xs : Parts) → T.StandAll tb s ts xs → V.StandAll tb s.cells ts xs
  all_here tb s [] NoParts h = tt
  all_here tb s [] (MoreParts x xs) h = absurd h
  all_here tb s (t ∷ ts) NoParts h = absurd h
  all_here tb s (t ∷ ts) (MoreParts x xs) h = (stands_here tb s t x h.0, all_here tb s ts xs h.1)

mutual
  pub printed_on : (tb : Table) (k : ℕ) (v : Value) (a b : List ℕ) → printed tb k v a ++ b ≡ printed tb k v (a ++ b)
  printed_on tb zero (Int i) a b = append_assoc (signed_decimal i) a b
  printed_on tb zero (Node c vs) a b = refl
  printed_on tb (suc t) (Int i) a b = refl
  printed_on tb (suc t) (Node c vs) a b = append_assoc (shape_at (shapes tb t) c).name (printed_fields tb (shape_at (shapes tb t) c).fields vs a) b ∙ ap (λ x. (shape_at (shapes tb t) c).name ++ x) (fields_on tb (shape_at (shapes tb t) c).fields vs a b)

  fields_on : (tb : Table) (ks : List ℕ) (vs : Values) (a b : List ℕ) → printed_fields tb ks vs a ++ b ≡ printed_fields tb ks vs (a ++ b)
  fields_on tb [] vs a b = refl
  fields_on tb (k ∷ ks) End a b = refl
  fields_on tb (k ∷ ks) (More v vs) a b = ap (λ x. 40 ∷ x) (printed_on tb k v (printed_more tb ks vs a) b ∙ ap (printed tb k v) (more_on tb ks vs a b))

  more_on : (tb : Table) (ks : List ℕ) (vs : Values) (a b : List ℕ) → printed_more tb ks vs a ++ b ≡ printed_more tb ks vs (a ++ b)
  more_on tb [] vs a b = refl
  more_on tb (k ∷ ks) End a b = refl
  more_on tb (k ∷ ks) (More v vs) a b = ap (λ x. 44 ∷ 32 ∷ x) (printed_on tb k v (printed_more tb ks vs a) b ∙ ap (printed tb k v) (more_on tb ks vs a b))
