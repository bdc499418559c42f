-- The lines of values, one after another.
use Rattle.std.proofs.Common.{Iter, ◌≡◌, ◌⊎◌, ◌∙◌, ◌++◌, ℕ, zero, suc, List, [], ◌∷◌, length, inl, inr, Some, slice_get, refl, sym, ap, subst, append_assoc, append-nil, arith}
use Rattle.std.specs.Fmt.{signed_decimal}
use Rattle.std.proofs.lemmas.Option.{same_Some}
use Rattle.fip_language.specs.PrintedText.{shape_at, printed, printed_fields, printed_more, printed_lines}
use Rattle.fip_language.specs.Store.{Placed, Parts, NoParts, MoreParts, value_of, values_of, word_of, words_of}
use Rattle.fip_language.specs.Table.{Table, shapes}
use Rattle.fip_language.specs.Values.{Value, Int, Node, Values, End, More}
use Rattle.cell_store.specs.Cells.{Cells}
use Rattle.fip_machine.specs.cell_code.declared.code.Function.{Function}
use Rattle.value_text.specs.Standing.{Stands, StandAll}
use Rattle.fip_host.specs.Hosting.{Seen, results_of}
use Rattle.fip_host.specs.Printing.{ArePrintable, printed_results, result_types, results_in}

-- the text goes on after a value
mutual
  printed_on : (tb : Table) (k : ℕ) (v : Value) (a b : List ℕ) → printed tb k v a ++ b ≡ printed tb k v (a ++ b)
  printed_on tb zero (Int i) a b = append_assoc (signed_decimal i) a b
  printed_on tb zero (Node c vs) a b = refl
  printed_on tb (suc t) (Int i) a b = refl
  printed_on tb (suc t) (Node c vs) a b = append_assoc (shape_at (shapes tb t) c).name (printed_fields tb (shape_at (shapes tb t) c).fields vs a) b ∙ ap (λ x. (shape_at (shapes tb t) c).name ++ x) (fields_on tb (shape_at (shapes tb t) c).fields vs a b)

  fields_on : (tb : Table) (ks : List ℕ) (vs : Values) (a b : List ℕ) → printed_fields tb ks vs a ++ b ≡ printed_fields tb ks vs (a ++ b)
  fields_on tb [] vs a b = refl
  fields_on tb (k ∷ ks) End a b = refl
  fields_on tb (k ∷ ks) (More v vs) a b = ap (λ x. 40 ∷ x) (printed_on tb k v (printed_more tb ks vs a) b ∙ ap (printed tb k v) (more_on tb ks vs a b))

  more_on : (tb : Table) (ks : List ℕ) (vs : Values) (a b : List ℕ) → printed_more tb ks vs a ++ b ≡ printed_more tb ks vs (a ++ b)
  more_on tb [] vs a b = refl
  more_on tb (k ∷ ks) End a b = refl
  more_on tb (k ∷ ks) (More v vs) a b = ap (λ x. 44 ∷ 32 ∷ x) (printed_on tb k v (printed_more tb ks vs a) b ∙ ap (printed tb k v) (more_on tb ks vs a b))

-- what is printed of the words so far, and of those that are left, is what is printed of all
abbrev pub IsPrinting : Table → Cells → List ℕ → List ℕ → List ℕ → List ℕ → Type 0
IsPrinting tb cs ks ws out whole = (xs : Parts) × StandAll tb cs ks xs × (ws ≡ words_of xs) × (out ++ printed_lines tb ks (values_of xs) ≡ whole)

line_first : (tb : Table) (cs : Cells) (k : ℕ) (ks : List ℕ) (w : ℕ) (ws : List ℕ) (out mid new whole : List ℕ) (xs : Parts) → StandAll tb cs (k ∷ ks) xs → (w ∷ ws) ≡ words_of xs → ((x : Placed) → Stands tb cs k x → word_of x ≡ w → mid ≡ out ++ printed tb k (value_of x) []) → new ≡ mid ++ 10 ∷ [] → out ++ printed_lines tb (k ∷ ks) (values_of xs) ≡ whole → IsPrinting tb cs ks ws new whole
line_first tb cs k ks w ws out mid new whole NoParts h are f o e = absurd h
line_first tb cs k ks w ws out mid new whole (MoreParts x xs) h are f o e =
    let first : word_of x ≡ w = cc in
    let rest : ws ≡ words_of xs = cc in
    let tail : List ℕ = printed_lines tb ks (values_of xs) in
    let value : List ℕ = printed tb k (value_of x) [] in (
      xs,
      h.1,
      rest,
      ap (λ z. z ++ tail) (o ∙ ap (λ z. z ++ 10 ∷ []) (f x h.0 first))
          ∙ append_assoc (out ++ value) (10 ∷ []) tail
          ∙ append_assoc out value (10 ∷ tail)
          ∙ ap (λ z. out ++ z) (printed_on tb k (value_of x) [] (10 ∷ tail))
          ∙ e,
    )

pub line_printed : (tb : Table) (cs : Cells) (k : ℕ) (ks : List ℕ) (w : ℕ) (ws out mid new whole : List ℕ) → ((x : Placed) → Stands tb cs k x → word_of x ≡ w → mid ≡ out ++ printed tb k (value_of x) []) → new ≡ mid ++ 10 ∷ [] → IsPrinting tb cs (k ∷ ks) (w ∷ ws) out whole → IsPrinting tb cs ks ws new whole
line_printed tb cs k ks w ws out mid new whole f o (xs, h, are, e) = line_first tb cs k ks w ws out mid new whole xs h are f o e

none_left : (tb : Table) (cs : Cells) (ks ws : List ℕ) (xs : Parts) → StandAll tb cs ks xs → ws ≡ words_of xs → (length ks ≡ 0) ⊎ (length ws ≡ 0) → printed_lines tb ks (values_of xs) ≡ []
none_left tb cs [] ws xs h are o = refl
none_left tb cs (k ∷ ks) ws NoParts h are o = absurd h
none_left tb cs (k ∷ ks) ws (MoreParts x xs) h are (inl e) = absurd (omega (arith, e))
none_left tb cs (k ∷ ks) ws (MoreParts x xs) h are (inr e) = let long = ap length are in absurd (omega (arith, e, long))

pub lines_printed : (tb : Table) (cs : Cells) (ks ws out whole : List ℕ) → (length ks ≡ 0) ⊎ (length ws ≡ 0) → IsPrinting tb cs ks ws out whole → out ≡ whole
lines_printed tb cs ks ws out whole o (xs, h, are, e) = sym (append-nil out) ∙ ap (λ l. out ++ l) (sym (none_left tb cs ks ws xs h are o)) ∙ e

-- which of two lists that are gone over together has ended
pub sides : {A B : Type 0} (i : Iter A) (j : Iter B) → ((x : Iter A) × ((length i.rest.now ≡ 0) × (x ≡ i))) ⊎ ((y : Iter B) × ((length j.rest.now ≡ 0) × (y ≡ j))) → (length i.rest.now ≡ 0) ⊎ (length j.rest.now ≡ 0)
sides i j (inl h) = inl (h.1).0
sides i j (inr h) = inr (h.1).0

pub results_lines : (m : Seen) (g : Function) (tb : Table) (ts ws text : List ℕ) → tb ≡ m.code.code.types → ts ≡ g.results → slice_get m.code.code.functions.items m.entry ≡ Some g → results_of m ≡ Some ws → ((xs : Parts) → StandAll tb m.store.cells ts xs → ws ≡ words_of xs → text ≡ printed_lines tb ts (values_of xs)) → (xs : Parts) → ArePrintable m xs → text ≡ printed_results m xs
results_lines m g tb ts ws text table types at results printed xs p =
    let whole : ts ≡ result_types m = types ∙ sym (ap results_in at) in
    let are : ws ≡ words_of xs = same_Some ws (words_of xs) (sym results ∙ p.words) in
    let stand = subst (λ (t : Table). StandAll t m.store.cells ts xs) (sym table) (subst (λ (ks : List ℕ). StandAll m.code.code.types m.store.cells ks xs) (sym whole) p.stand) in
    printed xs stand are
    ∙ ap (λ (t : Table). printed_lines t ts (values_of xs)) table
    ∙ ap (λ (ks : List ℕ). printed_lines m.code.code.types ks (values_of xs)) whole
