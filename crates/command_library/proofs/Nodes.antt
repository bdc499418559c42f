-- What the fields of a cell say of the keys of its tree.
use Rattle.std.proofs.Common.{◌≡◌, ◌≢◌, ◌∙◌, ◌<◌, ◌+◌, ◌*◌, ◌/◌, ◌%◌, ℕ, zero, suc, List, [], ◌∷◌, ◌++◌, length, Option, Some, None, option_map, refl, sym, ap, subst, arith}
use Rattle.std.specs.Prelude.{slice_get, option_and_then}
use Rattle.std.specs.Int.{w64, cast_signed}
use Rattle.std.proofs.lemmas.Option.{none-some, same_Some}
use Rattle.fip_language.specs.Store.{Cell, Placed, PlacedInt, Bare, At, Parts, NoParts, MoreParts, value_of, values_of, word_of, words_of}
use Rattle.fip_language.specs.Table.{Shape, Table, shapes, constructors}
use Rattle.fip_language.specs.Values.{Value, Node}
use Rattle.cell_store.specs.Cells.{Cells, cell_at, size_of}
use Rattle.command_tasks.proofs.command_run.separation.Reading.{int_is}
use Rattle.command_tasks.proofs.command_run.value_text.Printing.{odd_cell}
use Rattle.command_tasks.specs.command_run.value_text.Standing.{Stands, StandAll}
use Rattle.command_library.specs.MadeTree.{keys_of}
use Rattle.command_library.specs.Reading.{sides, IsAt, HasNode}
use Rattle.command_library.specs.declared.keys.Node.{Node as Found}
use Rattle.command_library.specs.declared.keys.Part.{Part}

-- ---- trees with such fields, and with others

module _ (tb : Table) (cs : Cells) where
  pub bare_of : (xs : Parts) (types : List ℕ) (c : ℕ) → StandAll tb cs types xs → sides types ≡ None → keys_of (Node c (values_of xs)) ≡ []
  bare_of NoParts types c h e = refl
  bare_of (MoreParts x NoParts) types c h e = refl
  bare_of (MoreParts x (MoreParts y NoParts)) types c h e = refl
  bare_of (MoreParts x (MoreParts y (MoreParts (Bare d) zs))) types c h e = refl
  bare_of (MoreParts x (MoreParts y (MoreParts (At p d ws) zs))) types c h e = refl
  bare_of (MoreParts x (MoreParts y (MoreParts (PlacedInt i) NoParts))) types c h e = refl
  bare_of (MoreParts x (MoreParts y (MoreParts (PlacedInt i) (MoreParts z (MoreParts w ws))))) types c h e = refl
  bare_of (MoreParts x (MoreParts y (MoreParts (PlacedInt i) (MoreParts z NoParts)))) (a ∷ l ∷ zero ∷ r ∷ []) c h e = absurd (none-some (l, r) (sym e))
  bare_of (MoreParts x (MoreParts y (MoreParts (PlacedInt i) (MoreParts z NoParts)))) (a ∷ l ∷ zero ∷ r ∷ s ∷ types) c h e = absurd h.1.1.1.1
  bare_of (MoreParts x (MoreParts y (MoreParts (PlacedInt i) (MoreParts z NoParts)))) (a ∷ l ∷ zero ∷ []) c h e = absurd h.1.1.1
  bare_of (MoreParts x (MoreParts y (MoreParts (PlacedInt i) (MoreParts z NoParts)))) (a ∷ l ∷ suc k ∷ types) c h e = absurd h.1.1.0
  bare_of (MoreParts x (MoreParts y (MoreParts (PlacedInt i) (MoreParts z NoParts)))) (a ∷ l ∷ []) c h e = absurd h.1.1
  bare_of (MoreParts x (MoreParts y (MoreParts (PlacedInt i) (MoreParts z NoParts)))) (a ∷ []) c h e = absurd h.1
  bare_of (MoreParts x (MoreParts y (MoreParts (PlacedInt i) (MoreParts z NoParts)))) [] c h e = absurd h

  -- the fields of a node
  record AreFour (l r : ℕ) (xs : Parts) : Type 0 where
    pub color : Placed
    pub left : Placed
    pub key : Placed
    pub right : Placed
    pub are : xs ≡ MoreParts color (MoreParts left (MoreParts key (MoreParts right NoParts)))
    pub on_left : Stands tb cs l left
    pub int : Stands tb cs zero key
    pub on_right : Stands tb cs r right

  four : (types : List ℕ) (l r : ℕ) (xs : Parts) → StandAll tb cs types xs → sides types ≡ Some (l, r) → AreFour l r xs
  four [] l r xs h e = absurd (none-some (l, r) e)
  four (a ∷ []) l r xs h e = absurd (none-some (l, r) e)
  four (a ∷ b ∷ []) l r xs h e = absurd (none-some (l, r) e)
  four (a ∷ b ∷ zero ∷ []) l r xs h e = absurd (none-some (l, r) e)
  four (a ∷ b ∷ suc k ∷ types) l r xs h e = absurd (none-some (l, r) e)
  four (a ∷ b ∷ zero ∷ d ∷ f ∷ types) l r xs h e = absurd (none-some (l, r) e)
  four (a ∷ b ∷ zero ∷ d ∷ []) l r (MoreParts x (MoreParts y (MoreParts z (MoreParts w NoParts)))) h e =
      let same : (b, d) ≡ (l, r) = same_Some (b, d) (l, r) e in
      record {
        color = x;
        left = y;
        key = z;
        right = w;
        are = refl;
        on_left = subst (λ t. Stands tb cs t y) (ap (λ (q : ℕ × ℕ). q.0) same) h.1.0;
        int = h.1.1.0;
        on_right = subst (λ t. Stands tb cs t w) (ap (λ (q : ℕ × ℕ). q.1) same) h.1.1.1.0;
      }
  four (a ∷ b ∷ zero ∷ d ∷ []) l r NoParts h e = absurd h
  four (a ∷ b ∷ zero ∷ d ∷ []) l r (MoreParts x NoParts) h e = absurd h.1
  four (a ∷ b ∷ zero ∷ d ∷ []) l r (MoreParts x (MoreParts y NoParts)) h e = absurd h.1.1
  four (a ∷ b ∷ zero ∷ d ∷ []) l r (MoreParts x (MoreParts y (MoreParts z NoParts))) h e = absurd h.1.1.1
  four (a ∷ b ∷ zero ∷ d ∷ []) l r (MoreParts x (MoreParts y (MoreParts z (MoreParts w (MoreParts v vs))))) h e = absurd h.1.1.1.1

  key_here : (l r lw kw rw c : ℕ) (x y z w : Placed) → Stands tb cs l y → Stands tb cs zero z → Stands tb cs r w → word_of y ≡ lw → word_of z ≡ kw → word_of w ≡ rw → HasNode tb cs (Some (record { left = record { ty = l; word = lw }; key = kw; right = record { ty = r; word = rw } })) (Node c (values_of (MoreParts x (MoreParts y (MoreParts z (MoreParts w NoParts))))))
  key_here l r lw kw rw c x y (PlacedInt i) w on_left fits on_right e f g =
      let key : i ≡ cast_signed w64 kw = sym (int_is i fits) ∙ ap (cast_signed w64) f in
      (value_of y, value_of w, (y, on_left, e, refl), (w, on_right, g, refl), ap (λ k. k ∷ (keys_of (value_of y) ++ keys_of (value_of w))) key)
  key_here l r lw kw rw c x y (Bare d) w on_left fits on_right e f g = absurd fits
  key_here l r lw kw rw c x y (At p d ws) w on_left fits on_right e f g = absurd fits

  -- the word of a field
  field_word : (p i : ℕ) (xs : Parts) (c w v : ℕ) → cell_at cs p ≡ Some (record { tag = c; fields = words_of xs }) → option_and_then (λ (c : Cell). slice_get c.fields i) (cell_at cs p) ≡ Some w → slice_get (words_of xs) i ≡ Some v → v ≡ w
  field_word p i xs c w v cell read is = same_Some v w (sym is ∙ sym (ap (option_and_then (λ (c : Cell). slice_get c.fields i)) cell) ∙ read)

  module _ (ty p c tag : ℕ) (xs : Parts) (types : List ℕ) (h : Stands tb cs ty (At p c xs)) (is : option_map (λ (c : Cell). c.tag) (cell_at cs p) ≡ Some tag) (fields : (s : Shape) → slice_get (constructors tb ty) tag ≡ Some s → types ≡ s.fields) where
    cell_of : (t : ℕ) → Stands tb cs t (At p c xs) → cell_at cs p ≡ Some (record { tag = c; fields = words_of xs })
    cell_of zero k = absurd k
    cell_of (suc t) k = k.0

    cell : cell_at cs p ≡ Some (record { tag = c; fields = words_of xs })
    cell = cell_of ty h

    tag_is : c ≡ tag
    tag_is = same_Some c tag (sym (ap (option_map (λ (c : Cell). c.tag)) cell) ∙ is)

    stand_of : (t : ℕ) → Stands tb cs t (At p c xs) → ((s : Shape) → slice_get (constructors tb t) tag ≡ Some s → types ≡ s.fields) → StandAll tb cs types xs
    stand_of zero k f = absurd k
    stand_of (suc t) k f = subst (λ ks. StandAll tb cs ks xs) (sym (f k.1 (ap (slice_get (shapes tb t)) (sym tag_is) ∙ k.2))) k.3

    stand : StandAll tb cs types xs
    stand = stand_of ty h fields

    pub no_node : sides types ≡ None → HasNode tb cs None (Node c (values_of xs))
    no_node e = bare_of xs types c stand e

    module _ (l r : ℕ) (e : sides types ≡ Some (l, r)) where
      parts : AreFour l r xs
      parts = four types l r xs stand e

      pub not_four : (size : ℕ) → option_map size_of (cell_at cs p) ≡ Some size → size ≢ 4 → ⊥
      not_four size s other =
          let long : length (words_of xs) ≡ 4 = ap (λ ys. length (words_of ys)) parts.are in
          other (same_Some size 4 (sym s ∙ (ap (option_map size_of) cell ∙ ap Some long)))

      pub node_there : (lw kw rw : ℕ) → option_and_then (λ (c : Cell). slice_get c.fields 1) (cell_at cs p) ≡ Some lw → option_and_then (λ (c : Cell). slice_get c.fields 2) (cell_at cs p) ≡ Some kw → option_and_then (λ (c : Cell). slice_get c.fields 3) (cell_at cs p) ≡ Some rw → HasNode tb cs (Some (record { left = record { ty = l; word = lw }; key = kw; right = record { ty = r; word = rw } })) (Node c (values_of xs))
      node_there lw kw rw f g k =
          let four = parts in
          let at : (i v : ℕ) → slice_get (words_of (MoreParts four.color (MoreParts four.left (MoreParts four.key (MoreParts four.right NoParts))))) i ≡ Some v → slice_get (words_of xs) i ≡ Some v = λ i v q. ap (λ ys. slice_get (words_of ys) i) four.are ∙ q in
          subst (λ ys. HasNode tb cs (Some (record { left = record { ty = l; word = lw }; key = kw; right = record { ty = r; word = rw } })) (Node c (values_of ys))) (sym four.are)
          (key_here l r lw kw rw c four.color four.left four.key four.right four.on_left four.int four.on_right
          (field_word p 1 xs c lw (word_of four.left) cell f (at 1 (word_of four.left) refl))
          (field_word p 2 xs c kw (word_of four.key) cell g (at 2 (word_of four.key) refl))
          (field_word p 3 xs c rw (word_of four.right) cell k (at 3 (word_of four.right) refl)))

-- ---- parts by their words

module _ (tb : Table) (cs : Cells) where
  int_none : (t : ℕ) (x : Placed) → t ≡ 0 → Stands tb cs t x → keys_of (value_of x) ≡ []
  int_none zero (PlacedInt i) z h = refl
  int_none zero (Bare c) z h = absurd h
  int_none zero (At p c xs) z h = absurd h
  int_none (suc t) x z h = absurd (omega (arith, z))

  even_none : (t w : ℕ) (x : Placed) → 0 < t → w % 2 ≡ 0 → Stands tb cs t x → word_of x ≡ w → keys_of (value_of x) ≡ []
  even_none zero w x z e h q = absurd (omega (arith, z))
  even_none (suc t) w (PlacedInt i) z e h q = absurd h
  even_none (suc t) w (Bare c) z e h q = refl
  even_none (suc t) w (At p c xs) z e h q = absurd (let k : 2 * p + 1 ≡ w = q in omega (arith, k, e))

  pub int_keys : (p : Part) (v : Value) → p.ty ≡ 0 → IsAt tb cs p v → HasNode tb cs None v
  int_keys p v z h = subst (λ v. keys_of v ≡ []) h.3 (int_none p.ty h.0 z h.1)

  pub even_keys : (p : Part) (v : Value) → 0 < p.ty → p.word % 2 ≡ 0 → IsAt tb cs p v → HasNode tb cs None v
  even_keys p v z e h = subst (λ v. keys_of v ≡ []) h.3 (even_none p.ty p.word h.0 z e h.1 h.2)

  -- one whose word names a cell
  module _ (p : Part) (v : Value) (z : 0 < p.ty) (odd : p.word % 2 ≢ 0) (h : IsAt tb cs p v) where
    abbrev found : (c : ℕ) × (xs : Parts) × Stands tb cs p.ty (At (p.word / 2) c xs) × (h.0 ≡ At (p.word / 2) c xs) × (p.word / 2 < length cs) × (cell_at cs (p.word / 2) ≢ None)
    found = odd_cell tb cs p.ty p.word h.0 z odd h.1 h.2

    pub odd_below : p.word / 2 < length cs
    odd_below = found.4

    pub odd_there : cell_at cs (p.word / 2) ≢ None
    odd_there = found.5

    pub odd_node : (o : Option Found) → ((c : ℕ) (xs : Parts) → Stands tb cs p.ty (At (p.word / 2) c xs) → HasNode tb cs o (Node c (values_of xs))) → HasNode tb cs o v
    odd_node o f = subst (λ v. HasNode tb cs o v) (ap value_of (sym found.3) ∙ h.3) (f found.0 found.1 found.2)
