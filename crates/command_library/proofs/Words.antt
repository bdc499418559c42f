-- Words of types stand for one list of values in the cells.
use Rattle.std.proofs.Common.{◌≡◌, ◌∙◌, ◌+◌, ◌*◌, ℕ, zero, suc, List, [], ◌∷◌, refl, sym, ap, subst, arith}
use Rattle.std.specs.Prelude.{slice_get}
use Rattle.std.proofs.lemmas.Option.{same_Some}
use Rattle.fip_language.specs.Store.{Cell, Placed, PlacedInt, Bare, At, Parts, NoParts, MoreParts, word_of, words_of, values_of}
use Rattle.fip_language.specs.Table.{Shape, Table, shapes}
use Rattle.fip_language.specs.Values.{Values}
use Rattle.cell_store.specs.Cells.{Cells, cell_at}
use Rattle.command_tasks.proofs.command_run.value_text.Printing.{bits_same}
use Rattle.command_tasks.specs.command_run.value_text.Standing.{Stands, StandAll}
use Rattle.command_tasks.specs.command_run.machine_correctness.Meant.{ArePrintable}

first_word : {x y : ℕ} {xs ys : List ℕ} → x ∷ xs ≡ y ∷ ys → x ≡ y
first_word e = cc

rest_words : {x y : ℕ} {xs ys : List ℕ} → x ∷ xs ≡ y ∷ ys → xs ≡ ys
rest_words e = cc

-- words of types stand for one list of values
mutual
  tree_once : (tb : Table) (cs : Cells) (t : ℕ) (x y : Placed) → Stands tb cs t x → Stands tb cs t y → word_of x ≡ word_of y → x ≡ y
  tree_once tb cs zero (PlacedInt i) (PlacedInt j) h k e = ap PlacedInt (bits_same i j h k e)
  tree_once tb cs zero (PlacedInt i) (Bare d) h k e = absurd k
  tree_once tb cs zero (PlacedInt i) (At q d ys) h k e = absurd k
  tree_once tb cs zero (Bare c) y h k e = absurd h
  tree_once tb cs zero (At p c xs) y h k e = absurd h
  tree_once tb cs (suc t) (PlacedInt i) y h k e = absurd h
  tree_once tb cs (suc t) (Bare c) (PlacedInt j) h k e = absurd k
  tree_once tb cs (suc t) (Bare c) (Bare d) h k e = let n : c ≡ d = let w : 2 * c ≡ 2 * d = e in omega (arith, w) in ap Bare n
  tree_once tb cs (suc t) (Bare c) (At q d ys) h k e = absurd (let w : 2 * c ≡ 2 * q + 1 = e in omega (arith, w))
  tree_once tb cs (suc t) (At p c xs) (PlacedInt j) h k e = absurd k
  tree_once tb cs (suc t) (At p c xs) (Bare d) h k e = absurd (let w : 2 * p + 1 ≡ 2 * d = e in omega (arith, w))
  tree_once tb cs (suc t) (At p c xs) (At q d ys) h k e =
      let place : p ≡ q = let w : 2 * p + 1 ≡ 2 * q + 1 = e in omega (arith, w) in
      let a : Cell = record { tag = c; fields = words_of xs } in
      let b : Cell = record { tag = d; fields = words_of ys } in
      let cell : a ≡ b = same_Some a b (sym h.0 ∙ (ap (cell_at cs) place ∙ k.0)) in
      let tag : c ≡ d = ap (λ (z : Cell). z.tag) cell in
      let shape : h.1 ≡ k.1 = same_Some h.1 k.1 (sym h.2 ∙ (ap (slice_get (shapes tb t)) tag ∙ k.2)) in
      let parts : xs ≡ ys = trees_once tb cs k.1.fields xs ys (subst (λ (z : Shape). StandAll tb cs z.fields xs) shape h.3) k.3 (ap (λ (z : Cell). z.fields) cell) in
      λ i. At (place i) (tag i) (parts i)

  trees_once : (tb : Table) (cs : Cells) (ts : List ℕ) (xs ys : Parts) → StandAll tb cs ts xs → StandAll tb cs ts ys → words_of xs ≡ words_of ys → xs ≡ ys
  trees_once tb cs [] NoParts NoParts h k e = refl
  trees_once tb cs [] NoParts (MoreParts y ys) h k e = absurd k
  trees_once tb cs [] (MoreParts x xs) ys h k e = absurd h
  trees_once tb cs (t ∷ ts) NoParts ys h k e = absurd h
  trees_once tb cs (t ∷ ts) (MoreParts x xs) NoParts h k e = absurd k
  trees_once tb cs (t ∷ ts) (MoreParts x xs) (MoreParts y ys) h k e =
      let first : x ≡ y = tree_once tb cs t x y h.0 k.0 (first_word e) in
      let rest : xs ≡ ys = trees_once tb cs ts xs ys h.1 k.1 (rest_words e) in
      λ i. MoreParts (first i) (rest i)

pub printed_once : (tb : Table) (cs : Cells) (types words : List ℕ) (vs us : Values) → ArePrintable tb cs types words vs → ArePrintable tb cs types words us → us ≡ vs
printed_once tb cs types words vs us p q = sym q.values ∙ (ap values_of (sym (trees_once tb cs types p.trees q.trees p.stand q.stand (sym p.are ∙ q.are))) ∙ p.values)
