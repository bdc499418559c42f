-- Take: the kinds after it say what the registers have.
use Rattle.std.proofs.Common.{◌≡◌, inl, inr, ℕ, zero, suc, ◌+◌, ◌<◌, true, false, ◌&&◌, not, List, [], ◌∷◌, length, Option, Some, None, refl, sym, ap, ◌∙◌, subst, true≢false, arith, nat_lt, ◌==◌}
use Rattle.std.specs.Prelude.{option_and_then, slice_set}
use Rattle.std.proofs.lemmas.Option.{none-some, same_Some}
use Rattle.machine_semantics.specs.fip_language.Table.{Table, is_scalar}
use Rattle.machine_semantics.specs.fip_language.Store.{Placed, Parts, NoParts, MoreParts, uses, uses_of_all, word_of, words_of}
use Rattle.machine_semantics.specs.cell_code.declared.kind.Kind.{Kind}
use Rattle.machine_semantics.specs.cell_code.declared.kind.Kind.TheVariants.{Scalar, Owned}
use Rattle.machine_semantics.specs.Cells.{Store}
use Rattle.machine_semantics.specs.Trees.{Stands, StandAll, IsTree}
use Rattle.machine_semantics.specs.Rows.{write_all}
use Rattle.machine_semantics.specs.Apart.{Holding, Nothing, Tree}
use Rattle.code_rules.specs.Types.{is_type, is_scalar_type, all, field_kind}
use Rattle.code_rules.specs.Kinds.{has, at, is_free}
use Rattle.code_rules.specs.Ranges.{are_below}
use Rattle.code_rules.specs.Asked.{are_places}
use Rattle.code_rules.specs.Taking.{Part, part_from}
use Rattle.separation_kinds.specs.Meanings.{part_in, Means, sum_from, word_at}
use Rattle.separation_kinds.proofs.Basics.{pick, chosen, refused, apart, both, one_of, or_not, equal, equal_is, unequal, unequal_is, below, sum_set}
use Rattle.separation_kinds.proofs.Shapes.{scalar_bare, root_all}
use Rattle.separation_kinds.proofs.Words.{set_length, set_word, writes}

-- a value of a type, as it comes as a field or as a result
pub field_means : (tb : Table) (s : Store) (below : List Placed) (ks : ℕ → Kind) (hs : ℕ → Holding) (t w : ℕ) (x : Placed) → IsTree tb s t w x → Means tb s below ks hs (field_kind tb t) w (Tree x)
field_means tb s below ks hs t w x g = pick (λ k. Means tb s below ks hs k w (Tree x)) (is_scalar_type tb t) (Scalar t) (Owned t (all tb t))
    (λ e. record { tree = x; holds = refl; is = g; bare = scalar_bare tb s t x (both (is_type tb t) (is_scalar tb t) e).1 g.stands })
    (λ e. record { tree = x; holds = refl; is = g; top = root_all tb s t x e g.stands })

-- ---- what a register gets

abbrev pub tree_or : Option Placed → Holding
tree_or None = Nothing
tree_or (Some x) = Tree x

abbrev pub word_or : Option Placed → ℕ
word_or None = 0
word_or (Some x) = word_of x

abbrev pub uses_or : ℕ → Option Placed → ℕ
uses_or q None = 0
uses_or q (Some x) = uses q x

-- by the part that a register gets, or else
abbrev pub by_part : {A : Type 0} → (ℕ → A) → Option Part → A → A
by_part f None other = other
by_part f (Some p) other = f p.field

pub record IsPartAt (tb : Table) (s : Store) (ps : Parts) (i : ℕ) (p : Part) : Type 0 where
  pub index : ℕ
  pub field : p.field ≡ i + index
  pub tree : Placed
  pub is : part_in ps index ≡ Some tree
  pub stands : Stands tb s p.ty tree

pub part_facts : (tb : Table) (s : Store) (i : ℕ) (ds ts : List ℕ) (ps : Parts) (q : ℕ) (p : Part) → part_from i ds ts q ≡ Some p → StandAll tb s ts ps → IsPartAt tb s ps i p
part_facts tb s i [] ts ps q p e g = absurd (none-some p e)
part_facts tb s i (d ∷ ds) [] ps q p e g = absurd (none-some p e)
part_facts tb s i (d ∷ ds) (t ∷ ts) NoParts q p e g = absurd g
part_facts tb s i (d ∷ ds) (t ∷ ts) (MoreParts x xs) q p e g =
    let first : Part = record { field = i; ty = t } in
    pick (λ o. o ≡ Some p → IsPartAt tb s (MoreParts x xs) i p) (d == q) (Some first) (part_from (suc i) ds ts q)
    (λ b is. subst (IsPartAt tb s (MoreParts x xs) i) (same_Some first p is) (record { index = 0; field = (let z : i ≡ i + 0 = omega arith in z); tree = x; is = refl; stands = g.0 }))
    (λ b is. let h = part_facts tb s (suc i) ds ts xs q p is g.1 in record { index = suc h.index; field = (let f = h.field in let z : p.field ≡ i + suc h.index = omega arith in z); tree = h.tree; is = h.is; stands = h.stands })
    e

pub part_dest : (i : ℕ) (ds ts : List ℕ) (q : ℕ) (p : Part) → part_from i ds ts q ≡ Some p → has ds q ≡ true
part_dest i [] ts q p e = absurd (none-some p e)
part_dest i (d ∷ ds) [] q p e = absurd (none-some p e)
part_dest i (d ∷ ds) (t ∷ ts) q p e = elim (or_not (d == q)) as (λ v. has (d ∷ ds) q ≡ true) [
  | inl y ↦ rw y refl
  | inr n ↦ rw n (part_dest (suc i) ds ts q p (sym (refused (d == q) (Some (record { field = i; ty = t })) (part_from (suc i) ds ts q) n) ∙ e))
]

pub no_part : (i : ℕ) (ds ts : List ℕ) (q : ℕ) → has ds q ≡ false → part_from i ds ts q ≡ None
no_part i ds ts q off = none (part_from i ds ts q) refl
  where
    none : (o : Option Part) → part_from i ds ts q ≡ o → part_from i ds ts q ≡ None
    none None e = e
    none (Some p) e = apart (has ds q) (part_dest i ds ts q p e) off

pub places_free : (ks : List Kind) (ds : List ℕ) (q : ℕ) → are_places ks ds ≡ true → has ds q ≡ true → is_free (at ks q) ≡ true
places_free ks [] q e h = absurd (true≢false (sym h))
places_free ks (d ∷ ds) q e h =
    let a = both (is_free (at ks d)) (not (has ds d) && are_places ks ds) e in
    let b = both (not (has ds d)) (are_places ks ds) a.1 in
    elim (one_of (d == q) (has ds q) h) as (λ v. is_free (at ks q) ≡ true) [
      | inl same ↦ subst (λ d. is_free (at ks d) ≡ true) (equal d q same) a.0
      | inr rest ↦ places_free ks ds q b.1 rest
    ]

pub has_below : (n : ℕ) (ds : List ℕ) (q : ℕ) → are_below n ds ≡ true → has ds q ≡ true → q < n
has_below n [] q e h = absurd (true≢false (sym h))
has_below n (d ∷ ds) q e h =
    let a = both (nat_lt d n) (are_below n ds) e in
    elim (one_of (d == q) (has ds q) h) as (λ v. q < n) [
      | inl same ↦ subst (λ d. d < n) (equal d q same) (below d n a.0)
      | inr rest ↦ has_below n ds q a.1 rest
    ]

-- ---- counts and words

pub sum_shift : (f : ℕ → ℕ) (i n : ℕ) → sum_from f (suc i) n ≡ sum_from (λ r. f (suc r)) i n
sum_shift f i zero = refl
sum_shift f i (suc n) = ap (λ m. f (suc i) + m) (sum_shift f (suc i) n)

pub sum_parts : (q : ℕ) (tb : Table) (s : Store) (ts : List ℕ) (ps : Parts) → StandAll tb s ts ps → sum_from (λ j. uses_or q (part_in ps j)) 0 (length ts) ≡ uses_of_all q ps
sum_parts q tb s [] NoParts g = refl
sum_parts q tb s [] (MoreParts x xs) g = absurd g
sum_parts q tb s (t ∷ ts) NoParts g = absurd g
sum_parts q tb s (t ∷ ts) (MoreParts x xs) g =
    let a = sum_shift (λ j. uses_or q (part_in (MoreParts x xs) j)) 0 (length ts) in
    let b = sum_parts q tb s ts xs g.1 in
    let c : sum_from (λ r. uses_or q (part_in (MoreParts x xs) (suc r))) 0 (length ts) ≡ uses_of_all q xs = b in
    ap (λ m. uses q x + m) (a ∙ c)

-- registers that are distinct, below n, and own nothing
abbrev pub Plain : (ℕ → ℕ) → ℕ → List ℕ → Type 0
Plain h n [] = Unit {0}
Plain h n (d ∷ ds) = (h d ≡ 0) × (d < n) × (has ds d ≡ false) × Plain h n ds

pub parts_sum : (u h : ℕ → ℕ) (n i : ℕ) (ds ts : List ℕ) → length ds ≡ length ts → Plain h n ds → sum_from (λ q. by_part u (part_from i ds ts q) (h q)) 0 n ≡ sum_from h 0 n + sum_from u i (length ds)
parts_sum u h n i [] ts l p = omega arith
parts_sum u h n i (d ∷ ds) [] l p = absurd (omega arith)
parts_sum u h n i (d ∷ ds) (t ∷ ts) l p =
    let first : Part = record { field = i; ty = t } in
    let f : ℕ → ℕ = λ q. by_part u (part_from i (d ∷ ds) (t ∷ ts) q) (h q) in
    let g : ℕ → ℕ = λ q. by_part u (part_from (suc i) ds ts q) (h q) in
    let there = p.1 in
    let moved : sum_from f 0 n + g d ≡ sum_from g 0 n + f d = sum_set f g 0 n d (omega arith) (omega arith) (λ r off. ap (λ o. by_part u o (h r)) (refused (d == r) (Some first) (part_from (suc i) ds ts r) (unequal_is d r (λ e. off (sym e))))) in
    let here : f d ≡ u i = ap (λ o. by_part u o (h d)) (chosen (d == d) (Some first) (part_from (suc i) ds ts d) (equal_is d d refl)) in
    let none : g d ≡ 0 = ap (λ o. by_part u o (h d)) (no_part (suc i) ds ts d p.2) ∙ p.0 in
    let rest : sum_from g 0 n ≡ sum_from h 0 n + sum_from u (suc i) (length ds) = parts_sum u h n (suc i) ds ts (omega arith) p.3 in
    omega arith

pub record AreWritten (ws ds vs : List ℕ) (new : ℕ → ℕ) : Type 0 where
  pub words : List ℕ
  pub is : write_all ws ds vs ≡ Some words
  pub wide : length words ≡ length ws
  pub each : (q : ℕ) → word_at words q ≡ new q

-- each register gets the word of its part
pub parts_written : (tb : Table) (s : Store) (i : ℕ) (ws ds ts : List ℕ) (ps : Parts) (v : ℕ → ℕ) → length ds ≡ length ts → Plain (λ q. 0) (length ws) ds → StandAll tb s ts ps → ((j : ℕ) → v (i + j) ≡ word_or (part_in ps j)) → AreWritten ws ds (words_of ps) (λ q. by_part v (part_from i ds ts q) (word_at ws q))
parts_written tb s i ws [] [] NoParts v l p g h = record { words = ws; is = refl; wide = refl; each = λ q. refl }
parts_written tb s i ws [] [] (MoreParts x xs) v l p g h = absurd g
parts_written tb s i ws [] (t ∷ ts) ps v l p g h = absurd (omega arith)
parts_written tb s i ws (d ∷ ds) [] ps v l p g h = absurd (omega arith)
parts_written tb s i ws (d ∷ ds) (t ∷ ts) NoParts v l p g h = absurd g
parts_written tb s i ws (d ∷ ds) (t ∷ ts) (MoreParts x xs) v l p g h =
    let first : Part = record { field = i; ty = t } in
    let next : List ℕ = slice_set ws d (word_of x) in
    let wide : length next ≡ length ws = set_length ws d (word_of x) in
    let rest = parts_written tb s (suc i) next ds ts xs v (omega arith) (subst (λ n. Plain (λ q. 0) n ds) (sym wide) p.3) g.1 (λ j. (let z : suc i + j ≡ i + suc j = omega arith in ap v z) ∙ h (suc j)) in
    record {
      words = rest.words;
      is = ap (λ o. option_and_then (λ us. write_all us ds (words_of xs)) o) (writes ws d (word_of x) p.1) ∙ rest.is;
      wide = rest.wide ∙ wide;
      each = λ q. rest.each q ∙ elim (or_not (d == q)) as (λ b. by_part v (part_from (suc i) ds ts q) (word_at next q) ≡ by_part v (part_from i (d ∷ ds) (t ∷ ts) q) (word_at ws q)) [
        | inl y ↦
            let same = equal d q y in
            let none : part_from (suc i) ds ts q ≡ None = no_part (suc i) ds ts q (subst (λ d. has ds d ≡ false) same p.2) in
            let got : word_at next q ≡ word_of x = set_word ws d (word_of x) p.1 q ∙ chosen (q == d) (word_of x) (word_at ws q) (equal_is q d (sym same)) in
            let is_first : v i ≡ word_of x = (let z : i ≡ i + 0 = omega arith in ap v z) ∙ h 0 in
            ap (λ o. by_part v o (word_at next q)) none ∙ got ∙ sym is_first ∙ sym (ap (λ o. by_part v o (word_at ws q)) (chosen (d == q) (Some first) (part_from (suc i) ds ts q) y))
        | inr n ↦
            let kept : word_at next q ≡ word_at ws q = set_word ws d (word_of x) p.1 q ∙ refused (q == d) (word_of x) (word_at ws q) (unequal_is q d (λ e. unequal d q n (sym e))) in
            ap (by_part v (part_from (suc i) ds ts q)) kept ∙ sym (ap (λ o. by_part v o (word_at ws q)) (refused (d == q) (Some first) (part_from (suc i) ds ts q) n))
      ];
    }
