-- The lines of values, one after another.
use Rattle.std.proofs.Common.{◌≡◌, ◌⊎◌, ◌∙◌, ◌++◌, ℕ, zero, suc, List, [], ◌∷◌, length, inl, inr, refl, sym, ap, subst, append_assoc, append-nil, arith}
use Rattle.std.specs.Fmt.{signed_decimal}
use Rattle.fip_language.specs.PrintedText.{shape_at, printed, printed_fields, printed_more, printed_lines}
use Rattle.fip_language.specs.Store.{Placed, Parts, NoParts, MoreParts, value_of, values_of, word_of, words_of}
use Rattle.fip_language.specs.Table.{Table, shapes}
use Rattle.fip_language.specs.Values.{Value, Int, Node, Values, End, More}
use Rattle.cell_store.specs.Cells.{Cells}
use Rattle.value_text.specs.Standing.{Stands, StandAll}
use Rattle.command_eval.specs.machine_correctness.Meant.{ArePrintable}

-- the text goes on after a value
mutual
  printed_on : (tb : Table) (k : ℕ) (v : Value) (a b : List ℕ) → printed tb k v a ++ b ≡ printed tb k v (a ++ b)
  printed_on tb zero (Int i) a b = append_assoc (signed_decimal i) a b
  printed_on tb zero (Node c vs) a b = refl
  printed_on tb (suc t) (Int i) a b = refl
  printed_on tb (suc t) (Node c vs) a b = append_assoc (shape_at (shapes tb t) c).name (printed_fields tb (shape_at (shapes tb t) c).fields vs a) b ∙ ap (λ x. (shape_at (shapes tb t) c).name ++ x) (fields_on tb (shape_at (shapes tb t) c).fields vs a b)

  fields_on : (tb : Table) (ks : List ℕ) (vs : Values) (a b : List ℕ) → printed_fields tb ks vs a ++ b ≡ printed_fields tb ks vs (a ++ b)
  fields_on tb [] vs a b = refl
  fields_on tb (k ∷ ks) End a b = refl
  fields_on tb (k ∷ ks) (More v vs) a b = ap (λ x. 40 ∷ x) (printed_on tb k v (printed_more tb ks vs a) b ∙ ap (printed tb k v) (more_on tb ks vs a b))

  more_on : (tb : Table) (ks : List ℕ) (vs : Values) (a b : List ℕ) → printed_more tb ks vs a ++ b ≡ printed_more tb ks vs (a ++ b)
  more_on tb [] vs a b = refl
  more_on tb (k ∷ ks) End a b = refl
  more_on tb (k ∷ ks) (More v vs) a b = ap (λ x. 44 ∷ 32 ∷ x) (printed_on tb k v (printed_more tb ks vs a) b ∙ ap (printed tb k v) (more_on tb ks vs a b))

-- what is printed of the words so far, and of those that are left, is what is printed of all
abbrev pub IsPrinting : Table → Cells → List ℕ → List ℕ → List ℕ → List ℕ → Type 0
IsPrinting tb cs ks ws out whole = (us : Values) × ArePrintable tb cs ks ws us × (out ++ printed_lines tb ks us ≡ whole)

line_first : (tb : Table) (cs : Cells) (k : ℕ) (ks : List ℕ) (w : ℕ) (ws : List ℕ) (us : Values) (out mid new whole : List ℕ) (xs : Parts) → (w ∷ ws) ≡ words_of xs → StandAll tb cs (k ∷ ks) xs → values_of xs ≡ us → ((x : Placed) → Stands tb cs k x → word_of x ≡ w → mid ≡ out ++ printed tb k (value_of x) []) → new ≡ mid ++ 10 ∷ [] → out ++ printed_lines tb (k ∷ ks) us ≡ whole → IsPrinting tb cs ks ws new whole
line_first tb cs k ks w ws us out mid new whole NoParts are h is f o e = absurd h
line_first tb cs k ks w ws us out mid new whole (MoreParts x xs) are h is f o e =
    let first : word_of x ≡ w = cc in
    let rest : ws ≡ words_of xs = cc in
    let tail : List ℕ = printed_lines tb ks (values_of xs) in
    let value : List ℕ = printed tb k (value_of x) [] in
    let whole_is : out ++ printed tb k (value_of x) (10 ∷ tail) ≡ whole = subst (λ us. out ++ printed_lines tb (k ∷ ks) us ≡ whole) (sym is) e in (
      values_of xs,
      record { trees = xs; are = rest; stand = h.1; values = refl },
      ap (λ z. z ++ tail) (o ∙ ap (λ z. z ++ 10 ∷ []) (f x h.0 first))
          ∙ append_assoc (out ++ value) (10 ∷ []) tail
          ∙ append_assoc out value (10 ∷ tail)
          ∙ ap (λ z. out ++ z) (printed_on tb k (value_of x) [] (10 ∷ tail))
          ∙ whole_is,
    )

pub line_printed : (tb : Table) (cs : Cells) (k : ℕ) (ks : List ℕ) (w : ℕ) (ws out mid new whole : List ℕ) → ((x : Placed) → Stands tb cs k x → word_of x ≡ w → mid ≡ out ++ printed tb k (value_of x) []) → new ≡ mid ++ 10 ∷ [] → IsPrinting tb cs (k ∷ ks) (w ∷ ws) out whole → IsPrinting tb cs ks ws new whole
line_printed tb cs k ks w ws out mid new whole f o (us, p, e) = line_first tb cs k ks w ws us out mid new whole p.trees p.are p.stand p.values f o e

none_left : (tb : Table) (cs : Cells) (ks ws : List ℕ) (us : Values) (xs : Parts) → ws ≡ words_of xs → StandAll tb cs ks xs → values_of xs ≡ us → (length ks ≡ 0) ⊎ (length ws ≡ 0) → printed_lines tb ks us ≡ []
none_left tb cs [] ws us xs are h is o = refl
none_left tb cs (k ∷ ks) ws us NoParts are h is o = absurd h
none_left tb cs (k ∷ ks) ws us (MoreParts x xs) are h is (inl e) = absurd (omega (arith, e))
none_left tb cs (k ∷ ks) ws us (MoreParts x xs) are h is (inr e) = let long = ap length are in absurd (omega (arith, e, long))

pub lines_printed : (tb : Table) (cs : Cells) (ks ws out whole : List ℕ) → (length ks ≡ 0) ⊎ (length ws ≡ 0) → IsPrinting tb cs ks ws out whole → out ≡ whole
lines_printed tb cs ks ws out whole o (us, p, e) = sym (append-nil out) ∙ ap (λ l. out ++ l) (sym (none_left tb cs ks ws us p.trees p.are p.stand p.values o)) ∙ e
