-- The parts that are still to be read: one more after them, and the last of them.
use Rattle.std.proofs.Common.{◌≡◌, ◌≢◌, ◌∙◌, ℕ, zero, suc, ◌<◌, ℤ, List, [], ◌∷◌, ◌++◌, length, drop, Some, None, refl, sym, ap, subst, append_assoc, arith}
use Rattle.std.specs.Prelude.{slice_get, slice_index}
use Rattle.std.specs.Int.{w64, cast_signed}
use Rattle.std.proofs.lemmas.List.{append-nil, map-append}
use Rattle.std.proofs.lemmas.Option.{none-some, same_Some}
use Rattle.fip_language.specs.Store.{Parts, NoParts, MoreParts, value_of, values_of, word_of, words_of}
use Rattle.fip_language.specs.Table.{Table}
use Rattle.fip_language.specs.Values.{Value}
use Rattle.cell_store.specs.Cells.{Cells}
use Rattle.command_tasks.specs.command_run.value_text.Standing.{Stands, StandAll}
use Rattle.command_library.specs.MadeTree.{keys_of, keys_of_first, with_key, ends_of}
use Rattle.command_library.specs.Reading.{ints, IsAt, HasNode, HaveKeys, AreKeys}
use Rattle.command_library.specs.declared.keys.Node.{Node}
use Rattle.command_library.specs.declared.keys.Part.{Part}

module _ (tb : Table) (cs : Cells) where
  pub one_more : (ps : List Part) (p : Part) (v : Value) (ks : List ℤ) → HaveKeys tb cs ps ks → IsAt tb cs p v → HaveKeys tb cs (ps ++ p ∷ []) (keys_of v ++ ks)
  one_more [] p v ks h at = (v, [], at, refl, ap (λ ks. keys_of v ++ ks) h ∙ append-nil (keys_of v))
  one_more (q ∷ ps) p v ks h at = (h.0, keys_of v ++ h.1, h.2, one_more ps p v h.1 h.3 at, ap (λ ks. keys_of v ++ ks) h.4 ∙ sym (append_assoc (keys_of v) h.1 (keys_of h.0)))

  pub one_less : (ps : List Part) (p : Part) (ks : List ℤ) → HaveKeys tb cs (ps ++ p ∷ []) ks → (v : Value) × (rest : List ℤ) × IsAt tb cs p v × HaveKeys tb cs ps rest × (ks ≡ keys_of v ++ rest)
  one_less [] p ks h = (h.0, [], h.2, refl, h.4 ∙ ap (λ ks. ks ++ keys_of h.0) h.3 ∙ sym (append-nil (keys_of h.0)))
  one_less (q ∷ ps) p ks h =
      let r = one_less ps p h.1 h.3 in
      (r.0, r.1 ++ keys_of h.0, r.2, (h.0, r.1, h.2, r.3, refl), h.4 ∙ ap (λ ks. ks ++ keys_of h.0) r.4 ∙ append_assoc (keys_of r.0) r.1 (keys_of h.0))

  -- the last of them is read
  module _ (ps : List Part) (p : Part) (ws : List ℕ) (whole : List ℤ) (h : AreKeys tb cs (ps ++ p ∷ []) ws whole) where
    abbrev last : (v : Value) × (rest : List ℤ) × IsAt tb cs p v × HaveKeys tb cs ps rest × (h.0 ≡ keys_of v ++ rest)
    last = one_less ps p h.0 h.1

    pub read_none : ((v : Value) → IsAt tb cs p v → HasNode tb cs None v) → AreKeys tb cs ps ws whole
    read_none f =
        let none : keys_of last.0 ≡ [] = f last.0 last.2 in
        (last.1, last.3, ap (λ xs. ints ws ++ xs) (sym (last.4 ∙ ap (λ xs. xs ++ last.1) none)) ∙ h.2)

    pub read_node : (n : Node) → ((v : Value) → IsAt tb cs p v → HasNode tb cs (Some n) v) → AreKeys tb cs ((ps ++ n.right ∷ []) ++ n.left ∷ []) (ws ++ n.key ∷ []) whole
    read_node n f =
        let q = f last.0 last.2 in
        let l : List ℤ = keys_of q.0 in
        let r : List ℤ = keys_of q.1 in
        let more : List ℤ = last.1 in
        let k : ℤ = cast_signed w64 n.key in
        let all : k ∷ (l ++ (r ++ more)) ≡ h.0 = sym (last.4 ∙ ap (λ xs. xs ++ more) q.4 ∙ ap (λ xs. k ∷ xs) (append_assoc l r more)) in (
          l ++ (r ++ more),
          one_more (ps ++ n.right ∷ []) n.left q.0 (r ++ more) (one_more ps n.right q.1 more last.3 q.3) q.2,
          ap (λ xs. xs ++ (l ++ (r ++ more))) (map-append (cast_signed w64) ws (n.key ∷ [])) ∙ append_assoc (ints ws) (k ∷ []) (l ++ (r ++ more)) ∙ ap (λ xs. ints ws ++ xs) all ∙ h.2,
        )

  -- at first, and at last
  pub first_part : (p : Part) (v : Value) → IsAt tb cs p v → AreKeys tb cs (p ∷ []) [] (keys_of v)
  first_part p v at = (keys_of v, (v, [], at, refl, refl), refl)

  pub no_part : (ws : List ℕ) (whole : List ℤ) → AreKeys tb cs [] ws whole → ints ws ≡ whole
  no_part ws whole h = sym (append-nil (ints ws)) ∙ ap (λ xs. ints ws ++ xs) (sym h.1) ∙ h.2

-- the ends of keys from a place on
pub ends_from : (ws : List ℕ) (n m w : ℕ) → m ≡ suc n → n < length ws → w ≡ slice_index ws n → Some (with_key (cast_signed w64 w) (ends_of (ints (drop m ws)))) ≡ ends_of (ints (drop n ws))
ends_from ws n m w next less is = subst (λ j. Some (with_key (cast_signed w64 w) (ends_of (ints (drop j ws)))) ≡ ends_of (ints (drop n ws))) (sym next) (by ws n less is)
  where
    by : (ws : List ℕ) (n : ℕ) → n < length ws → w ≡ slice_index ws n → Some (with_key (cast_signed w64 w) (ends_of (ints (drop (suc n) ws)))) ≡ ends_of (ints (drop n ws))
    by [] n less is = absurd (omega (arith, less))
    by (x ∷ ws) zero less is = ap (λ y. Some (with_key (cast_signed w64 y) (ends_of (ints ws)))) is
    by (x ∷ ws) (suc n) less is = by ws n (omega (arith, less)) is

-- ---- the first of trees

pub some_first : (xs : List ℕ) → length xs ≢ 0 → slice_get xs 0 ≡ Some (slice_index xs 0)
some_first [] some = absurd (some refl)
some_first (x ∷ xs) some = refl

module _ (tb : Table) (cs : Cells) where
  pub no_types : (types : List ℕ) (xs : Parts) → StandAll tb cs types xs → length types ≡ 0 → keys_of_first (values_of xs) ≡ []
  no_types [] NoParts h none = refl
  no_types [] (MoreParts x xs) h none = absurd h
  no_types (t ∷ types) xs h none = absurd (omega (arith, none))

  pub no_words : (words : List ℕ) (xs : Parts) → words ≡ words_of xs → length words ≡ 0 → keys_of_first (values_of xs) ≡ []
  no_words words NoParts e none = refl
  no_words words (MoreParts x xs) e none = let long = ap length e in absurd (omega (arith, none, long))

  pub first_of : (types words : List ℕ) (xs : Parts) (ty w : ℕ) → StandAll tb cs types xs → words ≡ words_of xs → slice_get types 0 ≡ Some ty → slice_get words 0 ≡ Some w → (v : Value) × IsAt tb cs (record { ty = ty; word = w }) v × (keys_of_first (values_of xs) ≡ keys_of v)
  first_of types words NoParts ty w h e first word = absurd (none-some w (ap (λ ws. slice_get ws 0) (sym e) ∙ word))
  first_of [] words (MoreParts x xs) ty w h e first word = absurd h
  first_of (t ∷ types) words (MoreParts x xs) ty w h e first word =
      (value_of x, (x, subst (λ k. Stands tb cs k x) (same_Some t ty first) h.0, same_Some (word_of x) w (ap (λ ws. slice_get ws 0) (sym e) ∙ word), refl), refl)
