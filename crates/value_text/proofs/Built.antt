-- What each event builds, and that the builder ends with the trees of the text's values.
use Rattle.std.proofs.Common.{◌≡◌, ℕ, zero, suc, ◌+◌, ◌-◌, ◌*◌, ◌<◌, ◌≤◌, List, [], ◌∷◌, ◌++◌, length, take, drop, Some, None, refl, sym, ap, ap₂, ◌∙◌, subst, arith, length-append}
use Rattle.std.specs.Prelude.{Ok}
use Rattle.std.proofs.Math.Seq.{take-append_seam, drop-append_seam}
use Rattle.fip_language.specs.Prefix.{Accepted}
use Rattle.fip_language.specs.Values.{Value, Node, Values, End, More, count_of, one_of_size, cells_of_all}
use Rattle.fip_language.specs.Table.{Table}
use Rattle.fip_language.specs.SoundTable.{IsSoundTable, AreTypes}
use Rattle.fip_language.specs.Store.{Cell, Placed, PlacedInt, Bare, At, Parts, NoParts, MoreParts, value_of, values_of, word_of, words_of, one_at, uses, uses_of_all}
use Rattle.cell_store.specs.Cells.{Cells, size_of}
use Rattle.cell_store.specs.Made.{Loading}
use Rattle.cell_store.proofs.Freed.{one_size}
use Rattle.value_text.specs.Machine.{join, snoc, Alone}
use Rattle.value_text.specs.Scan.{runs}
use Rattle.value_text.specs.declared.read.Event.{Event}
use Rattle.value_text.specs.declared.read.Event.TheVariants as E
use Rattle.value_text.specs.Reading.{Outline, IsKnown, Spot, Before, state_at, outline_at, spot_of, GoesOn, Origin, whole, alone, Moves, Stepped, IsNarrow, IsReading}
use Rattle.value_text.specs.Counting.{values_to}
use Rattle.value_text.specs.Loaded.{words_up_to, free_in}
use Rattle.value_text.specs.Standing.{Holds, HoldAll}
use Rattle.value_text.specs.Building.{Puts, CanPut, IsTaken, IsBuilt, IsBuilding, IsRead, HasRoom}
use Rattle.value_text.proofs.Counted.{Grows, values_grow, cells_grow, count_join, reading_starts, alone_starts, reading_on, no_values, values_last, cells_fit}
use Rattle.value_text.specs.FirstStore.{value_places, value_word}
use Rattle.value_text.proofs.Order.{lies_leaf, lies_closed, lies_starts}
use Rattle.value_text.proofs.Taken.{Made, made, taken_on, room_for, hold_all_on, one_here, words_same}

-- trees in a row
abbrev pub parts_join : Parts → Parts → Parts
parts_join NoParts ys = ys
parts_join (MoreParts x xs) ys = MoreParts x (parts_join xs ys)

pub values_join : (xs ys : Parts) → values_of (parts_join xs ys) ≡ join (values_of xs) (values_of ys)
values_join NoParts ys = refl
values_join (MoreParts x xs) ys = ap (More (value_of x)) (values_join xs ys)

pub words_join : (xs ys : Parts) → words_of (parts_join xs ys) ≡ words_of xs ++ words_of ys
words_join NoParts ys = refl
words_join (MoreParts x xs) ys = ap (λ ws. word_of x ∷ ws) (words_join xs ys)

pub uses_join : (q : ℕ) (xs ys : Parts) → uses_of_all q (parts_join xs ys) ≡ uses_of_all q xs + uses_of_all q ys
uses_join q NoParts ys = omega arith
uses_join q (MoreParts x xs) ys = let h = uses_join q xs ys in omega (arith, h)

pub hold_join : (cs : Cells) (xs ys : Parts) → HoldAll cs xs → HoldAll cs ys → HoldAll cs (parts_join xs ys)
hold_join cs NoParts ys h k = k
hold_join cs (MoreParts x xs) ys h k = (h.0, hold_join cs xs ys h.1 k)

hold_left : (cs : Cells) (xs ys : Parts) → HoldAll cs (parts_join xs ys) → HoldAll cs xs
hold_left cs NoParts ys h = tt
hold_left cs (MoreParts x xs) ys h = (h.0, hold_left cs xs ys h.1)

hold_right : (cs : Cells) (xs ys : Parts) → HoldAll cs (parts_join xs ys) → HoldAll cs ys
hold_right cs NoParts ys h = h
hold_right cs (MoreParts x xs) ys h = hold_right cs xs ys h.1

pub length-words : (xs : Parts) → length (words_of xs) ≡ count_of (values_of xs)
length-words NoParts = refl
length-words (MoreParts x xs) = ap suc (length-words xs)

more_head : (a b : Value) (as' bs : Values) → More a as' ≡ More b bs → a ≡ b
more_head a b as' bs e = cc

more_tail : (a b : Value) (as' bs : Values) → More a as' ≡ More b bs → as' ≡ bs
more_tail a b as' bs e = cc

-- trees split where their values split
pub record Split (xs : Parts) (vs ws : Values) : Type 0 where
  pub left : Parts
  pub right : Parts
  pub is : xs ≡ parts_join left right
  pub lefts : values_of left ≡ vs
  pub rights : values_of right ≡ ws

split : (xs : Parts) (vs ws : Values) → values_of xs ≡ join vs ws → Split xs vs ws
split xs End ws e = record { left = NoParts; right = xs; is = refl; lefts = refl; rights = e }
split NoParts (More v vs) ws e = cc
split (MoreParts x xs) (More v vs) ws e =
    let h = split xs vs ws (more_tail (value_of x) v (values_of xs) (join vs ws) e) in
    record {
      left = MoreParts x h.left;
      right = h.right;
      is = ap (MoreParts x) h.is;
      lefts = ap₂ More (more_head (value_of x) v (values_of xs) (join vs ws) e) h.lefts;
      rights = h.rights;
    }

-- the same cells, otherwise written
pub taken_same : (want done done' uses uses' : ℕ → ℕ) (first now : Loading) → ((k : ℕ) → done' k ≡ done k) → ((q : ℕ) → uses' q ≡ uses q) → IsTaken want done uses first now → IsTaken want done' uses' first now
taken_same want done done' uses uses' first now d u h = record {
  once = λ p. let a = h.once p in let b = u p in omega (arith, a, b);
  kept = h.kept;
  flags = h.flags;
  left = h.left ∙ ap (λ n. first.left + n) (words_same 16 (λ k. want k - done' k) (λ k. want k - done k) (free_in now) (free_in now) (λ k le. ap (λ d. want k - d - free_in now k) (sym (d k))));
  free = λ k le. (let a = h.free k le in let b = d k in omega (arith, a, b));
}

pub taken_starts : (want done uses : ℕ → ℕ) (first now : Loading) → now ≡ first → length first.released ≡ length first.cells → ((k : ℕ) → done k ≡ 0) → ((q : ℕ) → uses q ≡ 0) → IsTaken want done uses first now
taken_starts want done uses first now e f d u = subst (IsTaken want done uses first) (sym e) (record {
  once = λ p. let a = u p in omega (arith, a);
  kept = λ p l. refl;
  flags = f;
  left = ap (λ n. first.left + n) (words_same 16 (λ k. want k - done k) want (free_in first) (free_in first) (λ k le. ap (λ w. w - free_in first k) (let z : want k ≡ want k - done k = let a = d k in omega (arith, a) in z)));
  free = λ k le. (let a = d k in omega (arith, a));
})

-- a further tree without a cell
leaf_on : (want : ℕ → ℕ) (first now : Loading) (vs vs' : Values) (ws ws' : List ℕ) (x : Placed) (e : Event) → ((q : ℕ) → uses q x ≡ 0) → ((n : ℕ) → value_places n (value_of x) ≡ []) → ((n : ℕ) → value_word n (value_of x) ≡ word_of x) → Holds now.cells x → vs' ≡ snoc vs (value_of x) → ws' ≡ ws ++ word_of x ∷ [] → ((k : ℕ) → cells_of_all k vs' ≡ cells_of_all k vs) → IsBuilt want first now vs ws → IsBuilt want first now vs' ws'
leaf_on want first now vs vs' ws ws' x e u none word hold v w d h = record {
  trees = parts_join h.trees (MoreParts x NoParts);
  values = values_join h.trees (MoreParts x NoParts) ∙ ap (λ vs. snoc vs (value_of x)) h.values ∙ sym v;
  words = w ∙ ap (λ ws. ws ++ word_of x ∷ []) h.words ∙ sym (words_join h.trees (MoreParts x NoParts));
  held = hold_join now.cells h.trees (MoreParts x NoParts) h.held (hold, tt);
  taken = taken_same want (λ k. cells_of_all k vs) (λ k. cells_of_all k vs') (λ p. uses_of_all p h.trees) (λ p. uses_of_all p (parts_join h.trees (MoreParts x NoParts))) first now d (λ q. let a = uses_join q h.trees (MoreParts x NoParts) in let b = u q in omega (arith, a, b)) h.taken;
  order = λ free. lies_leaf first now vs vs' ws ws' (value_of x) (word_of x) none word v w (h.order free);
}

same_on : (want : ℕ → ℕ) (first now new : Loading) (vs vs' : Values) (ws ws' : List ℕ) → vs' ≡ vs → ws' ≡ ws → new ≡ now → IsBuilt want first now vs ws → IsBuilt want first new vs' ws'
same_on want first now new vs vs' ws ws' v w n h = subst (λ new. IsBuilt want first new vs' ws') (sym n) (subst (λ vs. IsBuilt want first now vs ws') (sym v) (subst (λ ws. IsBuilt want first now vs ws) (sym w) h))

one_as : (k n : ℕ) → 0 < n → one_of_size k n ≡ one_at k n
one_as k zero p = absurd (omega arith)
one_as k (suc n) p = refl

-- a cell closes over the last trees
module _ (want : ℕ → ℕ) (first now new : Loading) (vs vs' : Values) (ws ws' : List ℕ) (c n : ℕ) (h : IsBuilt want first now vs ws) (g : Grows (E.Closed c n) vs vs') (u : Puts (E.Closed c n) ws now ws' new) (narrow : n ≤ 16) (in_want : cells_of_all n vs' ≤ want n) where
  abbrev p : ℕ
  p = u.2

  abbrev cell : Cell
  cell = record { tag = c; fields = drop (length ws - n) ws }

  parts : Split h.trees g.0 g.1
  parts = split h.trees g.0 g.1 (h.values ∙ g.2)

  joined : ws ≡ words_of parts.left ++ words_of parts.right
  joined = h.words ∙ ap words_of parts.is ∙ words_join parts.left parts.right

  wide : length (words_of parts.right) ≡ n
  wide = length-words parts.right ∙ ap count_of parts.rights ∙ sym g.3

  seam : length ws - n ≡ length (words_of parts.left)
  seam = let a = ap length joined ∙ length-append (words_of parts.left) (words_of parts.right) in let b = wide in omega (arith, a, b)

  front : take (length ws - n) ws ≡ words_of parts.left
  front = ap₂ take seam joined ∙ take-append_seam (words_of parts.left) (words_of parts.right)

  back : drop (length ws - n) ws ≡ words_of parts.right
  back = ap₂ drop seam joined ∙ drop-append_seam (words_of parts.left) (words_of parts.right)

  sized : size_of cell ≡ n
  sized = ap length back ∙ wide

  facts : Made now new p cell
  facts = made now new p cell (h.taken).flags u.4

  abbrev tree : Placed
  tree = At p c parts.right

  abbrev trees : Parts
  trees = parts_join parts.left (MoreParts tree NoParts)

  none : uses_of_all p h.trees ≡ 0
  none = let a = (h.taken).once p in let d = facts.dead in omega (arith, a, d)

  both : (q : ℕ) → uses_of_all q h.trees ≡ uses_of_all q parts.left + uses_of_all q parts.right
  both q = ap (uses_of_all q) parts.is ∙ uses_join q parts.left parts.right

  held_all : HoldAll now.cells (parts_join parts.left parts.right)
  held_all = subst (HoldAll now.cells) parts.is h.held

  held_left : HoldAll new.cells parts.left
  held_left = hold_all_on now.cells new.cells p parts.left facts.others (let a = none in let b = both p in omega (arith, a, b)) (hold_left now.cells parts.left parts.right held_all)

  held_right : HoldAll new.cells parts.right
  held_right = hold_all_on now.cells new.cells p parts.right facts.others (let a = none in let b = both p in omega (arith, a, b)) (hold_right now.cells parts.left parts.right held_all)

  more : (k : ℕ) → cells_of_all k vs' ≡ cells_of_all k vs + one_size k cell
  more k = cells_grow (E.Closed c n) vs vs' g k ∙ ap (λ m. cells_of_all k vs + m) (one_as k n u.1 ∙ ap (one_at k) (sym sized))

  used : (q : ℕ) → uses_of_all q trees ≡ uses_of_all q h.trees + one_at q p
  used q = let a = uses_join q parts.left (MoreParts tree NoParts) in let b = both q in omega (arith, a, b)

  pub closed_on : IsBuilt want first new vs' ws'
  closed_on = record {
    trees = trees;
    values = values_join parts.left (MoreParts tree NoParts) ∙ ap₂ (λ vs us. snoc vs (Node c us)) parts.lefts parts.rights ∙ sym g.5;
    words = u.3 ∙ ap (λ ws. ws ++ (2 * p + 1) ∷ []) front ∙ sym (words_join parts.left (MoreParts tree NoParts));
    held = hold_join new.cells parts.left (MoreParts tree NoParts) held_left ((facts.here ∙ ap (λ ws. Some (record { tag = c; fields = ws })) back, held_right), tt);
    taken = taken_on want (λ k. cells_of_all k vs) (λ k. cells_of_all k vs') (λ q. uses_of_all q h.trees) (λ q. uses_of_all q trees) first now new p cell h.taken facts (let s = sized in let z = u.1 in omega (arith, s, z)) (let s = sized in omega (arith, s, narrow)) (λ k le. more k) (subst (λ n. cells_of_all n vs' ≤ want n) (sym sized) in_want) used;
    order = lies_closed first now new vs vs' ws ws' c n p h.order (h.taken).flags g u.3 u.4;
  }

-- each event
pub built_on : (want : ℕ → ℕ) (first now new : Loading) (vs vs' : Values) (ws ws' : List ℕ) (e : Event) → IsBuilt want first now vs ws → Grows e vs vs' → Puts e ws now ws' new → IsNarrow e → ((k : ℕ) → cells_of_all k vs' ≤ want k) → IsBuilt want first new vs' ws'
built_on want first now new vs vs' ws ws' (E.Number i) h g u n w = subst (λ new. IsBuilt want first new vs' ws') (sym u.1) (leaf_on want first now vs vs' ws ws' (PlacedInt i) (E.Number i) (λ q. refl) (λ n. refl) (λ n. refl) tt g u.0 (λ k. let a = cells_grow (E.Number i) vs vs' g k in omega (arith, a)) h)
built_on want first now new vs vs' ws ws' (E.Bare c) h g u n w = subst (λ new. IsBuilt want first new vs' ws') (sym u.1) (leaf_on want first now vs vs' ws ws' (Bare c) (E.Bare c) (λ q. refl) (λ n. refl) (λ n. refl) tt g u.0 (λ k. let a = cells_grow (E.Bare c) vs vs' g k in omega (arith, a)) h)
built_on want first now new vs vs' ws ws' (E.Closed c n) h g u narrow w = closed_on want first now new vs vs' ws ws' c n h g u narrow (w n)
built_on want first now new vs vs' ws ws' E.Opened h g u n w = same_on want first now new vs vs' ws ws' g u.0 u.1 h
built_on want first now new vs vs' ws ws' E.Comma h g u n w = same_on want first now new vs vs' ws ws' g u.0 u.1 h
built_on want first now new vs vs' ws ws' E.Line h g u n w = same_on want first now new vs vs' ws ws' g u.0 u.1 h

-- there is room for what an event makes
pub can_put : (want : ℕ → ℕ) (first now : Loading) (vs vs' : Values) (ws : List ℕ) (e : Event) → IsBuilt want first now vs ws → Grows e vs vs' → IsNarrow e → words_up_to 16 want (free_in first) ≤ first.left → ((k : ℕ) → cells_of_all k vs' ≤ want k) → CanPut e ws now
can_put want first now vs vs' ws (E.Closed c n) h g narrow fits w =
    let len : length ws ≡ count_of g.0 + n = ap length h.words ∙ length-words h.trees ∙ ap count_of (h.values ∙ g.2) ∙ count_join g.0 g.1 ∙ ap (λ m. count_of g.0 + m) (sym g.3) in
    let more : cells_of_all n vs' ≡ cells_of_all n vs + one_at n n = cells_grow (E.Closed c n) vs vs' g n ∙ ap (λ m. cells_of_all n vs + m) (one_as n n g.4) in
    let one = one_here n in
    let le = w n in
    (g.4, narrow, omega (arith, len), room_for want (λ k. cells_of_all k vs) (λ p. uses_of_all p h.trees) first now n h.taken fits g.4 narrow (omega (arith, more, one, le)))
can_put want first now vs vs' ws (E.Number i) h g n f w = tt
can_put want first now vs vs' ws (E.Bare c) h g n f w = tt
can_put want first now vs vs' ws E.Opened h g n f w = tt
can_put want first now vs vs' ws E.Comma h g n f w = tt
can_put want first now vs vs' ws E.Line h g n f w = tt

-- the builder begins, goes on and ends
pub building_starts : (tb : Table) (types bytes : List ℕ) (want : ℕ → ℕ) (first now : Loading) (o : Outline) (at : ℕ) (ws : List ℕ) (vs : Values) → AreTypes tb types → at ≡ 0 → o ≡ outline_at (spot_of types) → now ≡ first → ws ≡ [] → IsRead tb (whole types) bytes want first vs → IsBuilding tb (whole types) bytes want first now o at ws
building_starts tb types bytes want first now o at ws vs t z e n w r = subst (λ at. IsBuilding tb (whole types) bytes want first now o at ws) (sym z) (record {
  spot = spot_of types;
  reading = reading_starts tb types bytes o t e;
  built = record {
    trees = NoParts;
    values = sym (no_values types);
    words = w;
    held = tt;
    taken = taken_starts want (λ k. cells_of_all k (values_to (spot_of types))) (λ p. 0) first now n r.flags (λ k. ap (cells_of_all k) (no_values types)) (λ q. refl);
    order = λ free. lies_starts first now (values_to (spot_of types)) ws n (no_values types) w;
  };
})

pub alone_builds : (tb : Table) (k at n : ℕ) (bytes : List ℕ) (want : ℕ → ℕ) (first now : Loading) (o : Outline) (ws : List ℕ) (vs : Values) → k ≤ length tb → at ≤ length bytes → o ≡ outline_at (spot_of (k ∷ [])) → now ≡ first → ws ≡ [] → IsRead tb (alone k at n) bytes want first vs → IsBuilding tb (alone k at n) bytes want first now o at ws
alone_builds tb k at n bytes want first now o ws vs t l e m w r = record {
  spot = Before k (Alone n);
  reading = alone_starts tb k at n bytes o t l e;
  built = record {
    trees = NoParts;
    values = refl;
    words = w;
    held = tt;
    taken = taken_starts want (λ k. 0) (λ p. 0) first now m r.flags (λ k. refl) (λ q. refl);
    order = λ free. lies_starts first now End ws m refl w;
  };
}

module _ (tb : Table) (sound : IsSoundTable tb) (from : Origin) (bytes : List ℕ) (want : ℕ → ℕ) (first now : Loading) (o o' : Outline) (at at' : ℕ) (ws : List ℕ) (vs : Values) (h : IsBuilding tb from bytes want first now o at ws) (r : IsRead tb from bytes want first vs) where
  module _ (go : GoesOn h.spot) (e : Event) (step : (s : Spot) → GoesOn s → o ≡ outline_at s → Stepped tb bytes s at (Ok (Some e)) o' at') (known : IsKnown tb o') (narrow : IsNarrow e) where
    abbrev moved : (s' : Spot) × Moves e h.spot s' × (o' ≡ outline_at s') × (runs tb bytes (state_at h.spot) at ≡ runs tb bytes (state_at s') at')
    moved = step h.spot go (h.reading).outline

    grown : Grows e (values_to h.spot) (values_to moved.0)
    grown = values_grow e h.spot moved.0 moved.1

    in_want : (k : ℕ) → cells_of_all k (values_to moved.0) ≤ want k
    in_want k =
        let a = cells_fit k tb sound bytes moved.0 at' vs (subst (IsKnown tb) moved.2 known) (sym moved.3 ∙ (h.reading).reads ∙ r.reads) in
        let b = r.wanted k in
        omega (arith, a, b)

    pub building_room : words_up_to 16 want (free_in first) ≤ first.left → CanPut e ws now
    building_room fits = can_put want first now (values_to h.spot) (values_to moved.0) ws e h.built grown narrow fits in_want

    pub building_on : (new : Loading) (ws' : List ℕ) → at' ≤ length bytes → Puts e ws now ws' new → IsBuilding tb from bytes want first new o' at' ws'
    building_on new ws' within u = record {
      spot = moved.0;
      reading = reading_on tb from bytes o o' at at' e h.spot moved.0 h.reading moved.1 moved.2 moved.3 known within;
      built = built_on want first now new (values_to h.spot) (values_to moved.0) ws ws' e h.built grown u narrow in_want;
    }

  accepted_same : (a b : Values) → Accepted a ≡ Accepted b → a ≡ b
  accepted_same a b e = cc

  pub building_ends : GoesOn h.spot → ((s : Spot) → GoesOn s → o ≡ outline_at s → Stepped tb bytes s at (Ok None) o' at') → IsBuilt want first now vs ws
  building_ends go step =
      let m = step h.spot go (h.reading).outline in
      let same : m.0 ≡ vs = accepted_same m.0 vs (sym m.2 ∙ (h.reading).reads ∙ r.reads) in
      subst (λ vs. IsBuilt want first now vs ws) (values_last h.spot m.0 m.1 ∙ same) h.built

-- a text of which all was read so far, whatever it is of
pub reading_goes : (tb : Table) (from : Origin) (bytes : List ℕ) (o o' : Outline) (at at' : ℕ) (e : Event) → (h : (s : Spot) × IsReading tb from bytes o at s) → GoesOn h.0 → ((s : Spot) → GoesOn s → o ≡ outline_at s → Stepped tb bytes s at (Ok (Some e)) o' at') → IsKnown tb o' → at' ≤ length bytes → (s : Spot) × IsReading tb from bytes o' at' s
reading_goes tb from bytes o o' at at' e h go step known within =
    let r = h.1 in
    let m = step h.0 go r.outline in
    (m.0, reading_on tb from bytes o o' at at' e h.0 m.0 r m.1 m.2 m.3 known within)

pub reading_ends : (tb : Table) (from : Origin) (bytes : List ℕ) (o o' : Outline) (at at' : ℕ) → (h : (s : Spot) × IsReading tb from bytes o at s) → GoesOn h.0 → ((s : Spot) → GoesOn s → o ≡ outline_at s → Stepped tb bytes s at (Ok None) o' at') → (vs : Values) × (runs tb bytes from.state from.place ≡ Accepted vs)
reading_ends tb from bytes o o' at at' h go step =
    let r = h.1 in
    let m = step h.0 go r.outline in
    (m.0, sym r.reads ∙ m.2)

pub is_read : (tb : Table) (from : Origin) (bytes : List ℕ) (want : ℕ → ℕ) (first : Loading) (vs : Values) → HasRoom tb from bytes want first vs → IsRead tb from bytes want first vs
is_read tb from bytes want first vs r = record { reads = r.reads; wanted = r.wanted; flags = r.flags }
