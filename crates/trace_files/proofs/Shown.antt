-- What a replay prints, cell by cell: the store of a trace, with the events up to a step, has the lines of its cells,
-- each as the last event at its place left it.
-- Idea: a store is seen as its cells in order of place, each with whether it is released; a change of the store is one
-- of the cell at its place.
use Rattle.std.proofs.Common.{◌≡◌, ◌≢◌, ◌∙◌, ℕ, zero, suc, ◌+◌, ◌-◌, ◌<◌, ◌≤◌, Bool, true, false, List, [], ◌∷◌, ◌++◌, length, map, Option, Some, None, slice_get, refl, sym, ap, ap₂, subst, arith}
use Rattle.std.specs.Prelude.{◌==◌, nat_eq, nat_le, slice_set, replicate, if◌then◌else◌}
use Rattle.std.proofs.lemmas.Bool.{eqb-true, eq-eqb}
use Rattle.std.proofs.lemmas.Option.{none-some, same_Some}
use Rattle.fip_language.specs.Store.{Cell}
use Rattle.run_loading.specs.machine_semantics.Cells.{Store, Change, Write, Release, cell_in, size_of, written, given_up, changed}
use Rattle.run_loading.specs.machine_semantics.Traces.{Event, changed_or, applied_if, replay}
use Rattle.run_loading.specs.Loading.{unreleased}
use Rattle.run_loading.specs.TraceText.{Loaded, Trace, size_at, without, left_by, IsChange, AreCells, AreEvents, IsTrace}
use Rattle.run_loading.specs.Replaying.{place_line, lines_from, store_text, places_from, replayed}
use Rattle.trace_files.specs.Lines.{plain, place_of, reported_line, change_line, latest, reported_lines}
use Rattle.fip_language.proofs.Facts.{some_of_other as has_size, unequal_test as differs, unequal_test_at as differs_at}

-- ---- lists with a front

in_front : {A : Type 0} (k : ℕ) (z y o : A) (ys : List A) → slice_set (replicate k z ++ y ∷ ys) k o ≡ replicate k z ++ o ∷ ys
in_front zero z y o ys = refl
in_front (suc k) z y o ys = ap (λ xs. z ∷ xs) (in_front k z y o ys)

get_front : {A : Type 0} (k : ℕ) (z y : A) (ys : List A) → slice_get (replicate k z ++ y ∷ ys) k ≡ Some y
get_front zero z y ys = refl
get_front (suc k) z y ys = get_front k z y ys

cell_front : (k : ℕ) (y : Option Cell) (ys : List (Option Cell)) → cell_in (replicate k None ++ y ∷ ys) k ≡ y
cell_front zero y ys = refl
cell_front (suc k) y ys = cell_front k y ys

-- so many after that
past : ℕ → ℕ → ℕ
past zero m = suc m
past (suc k) m = suc (past k m)

set_past : {A : Type 0} (k m : ℕ) (z y o : A) (ys : List A) → slice_set (replicate k z ++ y ∷ ys) (past k m) o ≡ replicate k z ++ y ∷ slice_set ys m o
unfolding past
set_past zero m z y o ys = refl
set_past (suc k) m z y o ys = ap (λ xs. z ∷ xs) (set_past k m z y o ys)

get_past : {A : Type 0} (k m : ℕ) (z y : A) (ys : List A) → slice_get (replicate k z ++ y ∷ ys) (past k m) ≡ slice_get ys m
unfolding past
get_past zero m z y ys = refl
get_past (suc k) m z y ys = get_past k m z y ys

cell_past : (k m : ℕ) (y : Option Cell) (ys : List (Option Cell)) → cell_in (replicate k None ++ y ∷ ys) (past k m) ≡ cell_in ys m
unfolding past
cell_past zero m y ys = refl
cell_past (suc k) m y ys = cell_past k m y ys

past_is : (k m n : ℕ) → n ≡ suc (k + m) → n ≡ past k m
unfolding past
past_is zero m n h = omega (arith, h)
past_is (suc k) m n h = let i = past_is k m (suc (k + m)) refl in let e : n ≡ suc (suc (k + m)) = omega (arith, h) in e ∙ ap suc i

-- ---- the cells of a store

pub record Shown : Type 0 where
  pub cell : Loaded
  pub gone : Bool

abbrev fresh : Loaded → Shown
fresh c = record { cell = c; gone = false }

abbrev cells : List Shown → List Loaded
cells [] = []
cells (x ∷ xs) = x.cell ∷ cells xs

abbrev flags_from : ℕ → List Shown → List Bool
flags_from p [] = []
flags_from p (x ∷ xs) = replicate (x.cell.place - p) false ++ x.gone ∷ flags_from (suc x.cell.place) xs

abbrev store : List Shown → Store
store xs = record { cells = places_from 0 (cells xs); released = flags_from 0 xs }

abbrev Rising : ℕ → List Shown → Type 0
Rising p [] = Unit {0}
Rising p (x ∷ xs) = (p ≤ x.cell.place) × Rising (suc x.cell.place) xs

-- ---- their lines

abbrev lines : List Shown → List ℕ
lines [] = []
lines (x ∷ xs) = place_line x.cell.place (Some (plain x.cell)) x.gone ++ lines xs

lines_skip : (k p q : ℕ) (os : List (Option Cell)) (rs : List Bool) → q ≡ p + k → lines_from p (replicate k None ++ os) (replicate k false ++ rs) ≡ lines_from q os rs
lines_skip zero p q os rs e = ap (λ n. lines_from n os rs) (omega (arith, e))
lines_skip (suc k) p q os rs e = lines_skip k (suc p) q os rs (omega (arith, e))

text_is : (p : ℕ) (xs : List Shown) → Rising p xs → lines_from p (places_from p (cells xs)) (flags_from p xs) ≡ lines xs
text_is p [] h = refl
text_is p (x ∷ xs) h =
    let le = h.0 in
    lines_skip (x.cell.place - p) p x.cell.place (Some (plain x.cell) ∷ places_from (suc x.cell.place) (cells xs)) (x.gone ∷ flags_from (suc x.cell.place) xs) (omega (arith, le))
    ∙ ap (λ t. place_line x.cell.place (Some (plain x.cell)) x.gone ++ t) (text_is (suc x.cell.place) xs h.1)

-- ---- before the first event

cells_fresh : (cs : List Loaded) → cells (map fresh cs) ≡ cs
cells_fresh [] = refl
cells_fresh (c ∷ cs) = ap (λ xs. c ∷ xs) (cells_fresh cs)

falses_front : {A : Type 0} (k : ℕ) (z : A) (zs : List A) → replicate (length (replicate k z ++ zs)) false ≡ replicate k false ++ replicate (length zs) false
falses_front zero z zs = refl
falses_front (suc k) z zs = ap (λ xs. false ∷ xs) (falses_front k z zs)

flags_fresh : (p : ℕ) (cs : List Loaded) → replicate (length (places_from p cs)) false ≡ flags_from p (map fresh cs)
flags_fresh p [] = refl
flags_fresh p (c ∷ cs) =
    falses_front (c.place - p) None (Some (plain c) ∷ places_from (suc c.place) cs)
    ∙ ap (λ rs. replicate (c.place - p) false ++ false ∷ rs) (flags_fresh (suc c.place) cs)

first_is : (cs : List Loaded) → unreleased (places_from 0 cs) ≡ store (map fresh cs)
first_is cs = ap₂ (λ xs rs. record { cells = places_from 0 xs; released = rs }) (sym (cells_fresh cs)) (flags_fresh 0 cs)

rising_fresh : (p : ℕ) (cs : List Loaded) → AreCells p cs → Rising p (map fresh cs)
rising_fresh p [] h = tt
rising_fresh p (c ∷ cs) h = (h.0.above, rising_fresh (suc c.place) cs h.1)

-- ---- a change of a cell

abbrev write_shown : ℕ → List ℕ → Shown → Shown
write_shown tag ws x = record { cell = record { place = x.cell.place; tag = tag; fields = ws }; gone = false }

abbrev drop_shown : Shown → Shown
drop_shown x = record { cell = x.cell; gone = true }

abbrev changed_shown : Change → Shown → Shown
changed_shown (Write q tag ws) x = if x.cell.place == q then write_shown tag ws x else x
changed_shown (Release q) x = if x.cell.place == q then drop_shown x else x

-- the size of the cell at a place, where there is one that isn't released
abbrev size_shown : ℕ → List Shown → Option ℕ
size_shown q [] = None
size_shown q (x ∷ xs) = if x.cell.place == q then (if x.gone then None else Some (length x.cell.fields)) else size_shown q xs

-- no cell is there
Above : ℕ → List Shown → Type 0
Above q xs = Rising (suc q) xs

module _ (q : ℕ) where
  size_here : (x : Shown) (xs : List Shown) → x.cell.place ≡ q → size_shown q (x ∷ xs) ≡ (if x.gone then None else Some (length x.cell.fields))
  size_here x xs e = ap (λ b. if b then (if x.gone then None else Some (length x.cell.fields)) else size_shown q xs) (eq-eqb x.cell.place q e)

  size_on : (x : Shown) (xs : List Shown) → x.cell.place ≢ q → size_shown q (x ∷ xs) ≡ size_shown q xs
  size_on x xs n = ap (λ b. if b then (if x.gone then None else Some (length x.cell.fields)) else size_shown q xs) (differs x.cell.place q n)

  -- what has a size isn't before the first place
  later : (p n : ℕ) (xs : List Shown) → Rising p xs → size_shown q xs ≡ Some n → p ≤ q
  later p n [] h e = absurd (none-some n e)
  later p n (x ∷ xs) h e = by (later (suc x.cell.place) n xs h.1) (x.cell.place == q) refl
    where
      by : (size_shown q xs ≡ Some n → suc x.cell.place ≤ q) → (b : Bool) → (x.cell.place == q) ≡ b → p ≤ q
      by below true t = let same = eqb-true x.cell.place q t in let le = h.0 in omega (arith, same, le)
      by below false t = let more = below (sym (ap (λ b. if b then (if x.gone then None else Some (length x.cell.fields)) else size_shown q xs) t) ∙ e) in let le = h.0 in omega (arith, more, le)

  kept_write : (tag : ℕ) (ws : List ℕ) (p : ℕ) (xs : List Shown) → q < p → Rising p xs → map (changed_shown (Write q tag ws)) xs ≡ xs
  kept_write tag ws p [] lt h = refl
  kept_write tag ws p (x ∷ xs) lt h =
      let le = h.0 in
      ap₂ (λ y ys. y ∷ ys) (ap (λ b. if b then write_shown tag ws x else x) (differs x.cell.place q (λ e. omega (arith, lt, le, e)))) (kept_write tag ws (suc x.cell.place) xs (omega (arith, lt, le)) h.1)

  kept_drop : (p : ℕ) (xs : List Shown) → q < p → Rising p xs → map (changed_shown (Release q)) xs ≡ xs
  kept_drop p [] lt h = refl
  kept_drop p (x ∷ xs) lt h =
      let le = h.0 in
      ap₂ (λ y ys. y ∷ ys) (ap (λ b. if b then drop_shown x else x) (differs x.cell.place q (λ e. omega (arith, lt, le, e)))) (kept_drop (suc x.cell.place) xs (omega (arith, lt, le)) h.1)

-- the cell at place q = p + n, of so many fields, and what its changes make of the lists of a store
record Found (q tag : ℕ) (ws : List ℕ) (size p n : ℕ) (xs : List Shown) : Type 0 where
  cell : Cell
  there : cell_in (places_from p (cells xs)) n ≡ Some cell
  sized : size_of cell ≡ size
  held : slice_get (flags_from p xs) n ≡ Some false
  write_cells : slice_set (places_from p (cells xs)) n (Some (record { tag = tag; fields = ws })) ≡ places_from p (cells (map (changed_shown (Write q tag ws)) xs))
  write_flags : flags_from p (map (changed_shown (Write q tag ws)) xs) ≡ flags_from p xs
  drop_cells : cells (map (changed_shown (Release q)) xs) ≡ cells xs
  drop_flags : slice_set (flags_from p xs) n true ≡ flags_from p (map (changed_shown (Release q)) xs)

module _ (q tag : ℕ) (ws : List ℕ) (size : ℕ) where
  here : (p n : ℕ) (x : Shown) (xs : List Shown) → Rising p (x ∷ xs) → n ≡ x.cell.place - p → x.cell.place ≡ q → x.gone ≡ false → length x.cell.fields ≡ size → Found q tag ws size p n (x ∷ xs)
  here p n x xs h at same gone sized =
      let k = x.cell.place - p in
      let test = eq-eqb x.cell.place q same in
      let w : changed_shown (Write q tag ws) x ≡ write_shown tag ws x = ap (λ b. if b then write_shown tag ws x else x) test in
      let d : changed_shown (Release q) x ≡ drop_shown x = ap (λ b. if b then drop_shown x else x) test in
      let lt : q < suc x.cell.place = omega (arith, same) in
      let others = kept_write q tag ws (suc x.cell.place) xs lt h.1 in
      let rest = kept_drop q (suc x.cell.place) xs lt h.1 in
      let new : Option Cell = Some (record { tag = tag; fields = ws }) in
      subst (λ m. Found q tag ws size p m (x ∷ xs)) (sym at) (record {
        cell = plain x.cell;
        there = cell_front k (Some (plain x.cell)) (places_from (suc x.cell.place) (cells xs));
        sized = sized;
        held = get_front k false x.gone (flags_from (suc x.cell.place) xs) ∙ ap Some gone;
        write_cells = in_front k None (Some (plain x.cell)) new (places_from (suc x.cell.place) (cells xs)) ∙ ap₂ (λ (y : Shown) ys. places_from p (cells (y ∷ ys))) (sym w) (sym others);
        write_flags = ap₂ (λ (y : Shown) ys. flags_from p (y ∷ ys)) w others ∙ ap (λ b. replicate k false ++ b ∷ flags_from (suc x.cell.place) xs) (sym gone);
        drop_cells = ap₂ (λ (y : Shown) ys. cells (y ∷ ys)) d rest;
        drop_flags = in_front k false x.gone true (flags_from (suc x.cell.place) xs) ∙ ap₂ (λ (y : Shown) ys. flags_from p (y ∷ ys)) (sym d) (sym rest);
      })

  following : (p n m : ℕ) (x : Shown) (xs : List Shown) → n ≡ past (x.cell.place - p) m → x.cell.place ≢ q → Found q tag ws size (suc x.cell.place) m xs → Found q tag ws size p n (x ∷ xs)
  following p n m x xs at other f =
      let k = x.cell.place - p in
      let test = differs x.cell.place q other in
      let w : changed_shown (Write q tag ws) x ≡ x = ap (λ b. if b then write_shown tag ws x else x) test in
      let d : changed_shown (Release q) x ≡ x = ap (λ b. if b then drop_shown x else x) test in
      let new : Option Cell = Some (record { tag = tag; fields = ws }) in
      subst (λ i. Found q tag ws size p i (x ∷ xs)) (sym at) (record {
        cell = f.cell;
        there = cell_past k m (Some (plain x.cell)) (places_from (suc x.cell.place) (cells xs)) ∙ f.there;
        sized = f.sized;
        held = get_past k m false x.gone (flags_from (suc x.cell.place) xs) ∙ f.held;
        write_cells = set_past k m None (Some (plain x.cell)) new (places_from (suc x.cell.place) (cells xs))
            ∙ ap (λ ys. replicate k None ++ Some (plain x.cell) ∷ ys) f.write_cells
            ∙ ap (λ (y : Shown). places_from p (cells (y ∷ map (changed_shown (Write q tag ws)) xs))) (sym w);
        write_flags = ap (λ (y : Shown). flags_from p (y ∷ map (changed_shown (Write q tag ws)) xs)) w ∙ ap (λ rs. replicate k false ++ x.gone ∷ rs) f.write_flags;
        drop_cells = ap₂ (λ (y : Shown) ys. y.cell ∷ ys) d f.drop_cells;
        drop_flags = set_past k m false x.gone true (flags_from (suc x.cell.place) xs)
            ∙ ap (λ rs. replicate k false ++ x.gone ∷ rs) f.drop_flags
            ∙ ap (λ (y : Shown). flags_from p (y ∷ map (changed_shown (Release q)) xs)) (sym d);
      })

  held_here : (x : Shown) → (if x.gone then None else Some (length x.cell.fields)) ≡ Some size → (x.gone ≡ false) × (length x.cell.fields ≡ size)
  held_here x e = by x.gone refl
    where
      by : (b : Bool) → x.gone ≡ b → (x.gone ≡ false) × (length x.cell.fields ≡ size)
      by true g = absurd (none-some size (sym (ap (λ b. if b then None else Some (length x.cell.fields)) g) ∙ e))
      by false g = (g, same_Some (length x.cell.fields) size (sym (ap (λ b. if b then None else Some (length x.cell.fields)) g) ∙ e))

  found : (p n : ℕ) (xs : List Shown) → Rising p xs → p + n ≡ q → size_shown q xs ≡ Some size → Found q tag ws size p n xs
  found p n [] h at e = absurd (none-some size e)
  found p n (x ∷ xs) h at e = by (found (suc x.cell.place) (q - suc x.cell.place) xs h.1) (x.cell.place == q) refl
    where
      by : (suc x.cell.place + (q - suc x.cell.place) ≡ q → size_shown q xs ≡ Some size → Found q tag ws size (suc x.cell.place) (q - suc x.cell.place) xs) → (b : Bool) → (x.cell.place == q) ≡ b → Found q tag ws size p n (x ∷ xs)
      by below true t =
          let same = eqb-true x.cell.place q t in
          let le = h.0 in
          let is = held_here x (sym (size_here q x xs same) ∙ e) in
          here p n x xs h (omega (arith, at, same, le)) same is.0 is.1
      by below false t =
          let rest : size_shown q xs ≡ Some size = sym (ap (λ b. if b then (if x.gone then None else Some (length x.cell.fields)) else size_shown q xs) t) ∙ e in
          let more = later q (suc x.cell.place) size xs h.1 rest in
          let le = h.0 in
          let other : x.cell.place ≢ q = λ same. omega (arith, more, same) in
          following p n (q - suc x.cell.place) x xs (past_is (x.cell.place - p) (q - suc x.cell.place) n (omega (arith, at, le, more))) other (below (omega (arith, more)) rest)

-- ---- changes of the store

-- a change that can happen
abbrev Valid : Change → List Shown → Type 0
Valid (Write q tag ws) xs = size_shown q xs ≡ Some (length ws)
Valid (Release q) xs = (n : ℕ) × (size_shown q xs ≡ Some n)

equal : (a b : ℕ) → a ≡ b → nat_eq a b ≡ true
equal a b e = eq-eqb a b e

none_before : (q : ℕ) → 0 + q ≡ q
none_before q = omega arith

change_is : (c : Change) (xs : List Shown) → Rising 0 xs → Valid c xs → changed_or (store xs) (changed c (store xs)) ≡ store (map (changed_shown c) xs)
change_is (Write q tag ws) xs h v =
    let f = found q tag ws (length ws) 0 q xs h (none_before q) v in
    ap (λ o. changed_or (store xs) (written (store xs) q (record { tag = tag; fields = ws }) o)) f.there
    ∙ ap (λ b. changed_or (store xs) (if b then Some (record (store xs) { cells = slice_set (store xs).cells q (Some (record { tag = tag; fields = ws })) }) else None)) (equal (size_of f.cell) (length ws) f.sized)
    ∙ ap₂ (λ os rs. record { cells = os; released = rs }) f.write_cells (sym f.write_flags)
change_is (Release q) xs h v =
    let f = found q 0 [] v.0 0 q xs h (none_before q) v.1 in
    ap₂ (λ o r. changed_or (store xs) (given_up (store xs) q o r)) f.there f.held
    ∙ ap₂ (λ ls rs. record { cells = places_from 0 ls; released = rs }) (sym f.drop_cells) f.drop_flags

place_kept : (c : Change) (x : Shown) → (changed_shown c x).cell.place ≡ x.cell.place
place_kept (Write q tag ws) x = by (x.cell.place == q)
  where
    by : (b : Bool) → (if b then write_shown tag ws x else x).cell.place ≡ x.cell.place
    by true = refl
    by false = refl
place_kept (Release q) x = by (x.cell.place == q)
  where
    by : (b : Bool) → (if b then drop_shown x else x).cell.place ≡ x.cell.place
    by true = refl
    by false = refl

rising_changed : (c : Change) (p : ℕ) (xs : List Shown) → Rising p xs → Rising p (map (changed_shown c) xs)
rising_changed c p [] h = tt
rising_changed c p (x ∷ xs) h =
    let same = place_kept c x in
    (subst (λ i. p ≤ i) (sym same) h.0, subst (λ i. Rising (suc i) (map (changed_shown c) xs)) (sym same) (rising_changed c (suc x.cell.place) xs h.1))

-- ---- which cells are live

-- the cells that a trace takes for live are
Fits : List Loaded → List Shown → Type 0
Fits live xs = (q n : ℕ) → size_at q live ≡ Some n → size_shown q xs ≡ Some n

abbrev size_by : ℕ → Shown → Option ℕ → Option ℕ
size_by r x o = if x.cell.place == r then (if x.gone then None else Some (length x.cell.fields)) else o

abbrev inner : Shown → Option ℕ
inner x = if x.gone then None else Some (length x.cell.fields)

-- a write leaves the sizes
size_written : (q tag : ℕ) (ws : List ℕ) (r p : ℕ) (xs : List Shown) → Rising p xs → size_shown q xs ≡ Some (length ws) → size_shown r (map (changed_shown (Write q tag ws)) xs) ≡ size_shown r xs
size_written q tag ws r p [] h e = refl
size_written q tag ws r p (x ∷ xs) h e = by (size_written q tag ws r (suc x.cell.place) xs h.1) (x.cell.place == q) refl
  where
    by : (size_shown q xs ≡ Some (length ws) → size_shown r (map (changed_shown (Write q tag ws)) xs) ≡ size_shown r xs) → (b : Bool) → (x.cell.place == q) ≡ b → size_shown r (map (changed_shown (Write q tag ws)) (x ∷ xs)) ≡ size_shown r (x ∷ xs)
    by below true t =
        let same = eqb-true x.cell.place q t in
        let w : changed_shown (Write q tag ws) x ≡ write_shown tag ws x = ap (λ b. if b then write_shown tag ws x else x) t in
        let others = kept_write q tag ws (suc x.cell.place) xs (omega (arith, same)) h.1 in
        let now : inner x ≡ Some (length ws) = sym (size_here q x xs same) ∙ e in
        ap₂ (λ (y : Shown) ys. size_shown r (y ∷ ys)) w others
        ∙ ap (λ o. if x.cell.place == r then o else size_shown r xs) (sym now)
    by below false t =
        let w : changed_shown (Write q tag ws) x ≡ x = ap (λ b. if b then write_shown tag ws x else x) t in
        let rest : size_shown q xs ≡ Some (length ws) = sym (ap (λ b. if b then inner x else size_shown q xs) t) ∙ e in
        ap (λ (y : Shown). size_shown r (y ∷ map (changed_shown (Write q tag ws)) xs)) w
        ∙ ap (λ o. size_by r x o) (below rest)

-- a release leaves those of other places
size_dropped : (q r : ℕ) (xs : List Shown) → r ≢ q → size_shown r (map (changed_shown (Release q)) xs) ≡ size_shown r xs
size_dropped q r [] n = refl
size_dropped q r (x ∷ xs) n = by (size_dropped q r xs n) (x.cell.place == q) refl
  where
    by : size_shown r (map (changed_shown (Release q)) xs) ≡ size_shown r xs → (b : Bool) → (x.cell.place == q) ≡ b → size_shown r (map (changed_shown (Release q)) (x ∷ xs)) ≡ size_shown r (x ∷ xs)
    by below true t =
        let same = eqb-true x.cell.place q t in
        let d : changed_shown (Release q) x ≡ drop_shown x = ap (λ b. if b then drop_shown x else x) t in
        let other = differs x.cell.place r (λ e. n (sym e ∙ same)) in
        ap (λ (y : Shown). size_shown r (y ∷ map (changed_shown (Release q)) xs)) d
        ∙ ap (λ b. if b then None else size_shown r (map (changed_shown (Release q)) xs)) other
        ∙ below
        ∙ sym (ap (λ b. if b then inner x else size_shown r xs) other)
    by below false t =
        let d : changed_shown (Release q) x ≡ x = ap (λ b. if b then drop_shown x else x) t in
        ap (λ (y : Shown). size_shown r (y ∷ map (changed_shown (Release q)) xs)) d
        ∙ ap (λ o. size_by r x o) below

without_size : (q r n : ℕ) (live : List Loaded) → size_at r (without q live) ≡ Some n → (r ≢ q) × (size_at r live ≡ Some n)
without_size q r n [] e = absurd (none-some n e)
without_size q r n (c ∷ live) e = by (without_size q r n live) (c.place == q) (c.place == r) refl refl
  where
    true_false : true ≡ false → ⊥
    true_false e = cc

    by : (size_at r (without q live) ≡ Some n → (r ≢ q) × (size_at r live ≡ Some n)) → (a b : Bool) → (c.place == q) ≡ a → (c.place == r) ≡ b → (r ≢ q) × (size_at r (c ∷ live) ≡ Some n)
    by below true b t s =
        let same = eqb-true c.place q t in
        let rest = below (sym (ap (λ b. size_at r (if b then without q live else c ∷ without q live)) t) ∙ e) in
        (rest.0, ap (λ b. if b then Some (length c.fields) else size_at r live) (differs c.place r (λ k. rest.0 (sym k ∙ same))) ∙ rest.1)
    by below false true t s =
        let f : size_at r (c ∷ without q live) ≡ Some n = sym (ap (λ b. size_at r (if b then without q live else c ∷ without q live)) t) ∙ e in
        let same = eqb-true c.place r s in (
          (λ k. true_false (sym (eq-eqb c.place q (same ∙ k)) ∙ t)),
          ap (λ b. if b then Some (length c.fields) else size_at r live) s ∙ sym (ap (λ b. if b then Some (length c.fields) else size_at r (without q live)) s) ∙ f,
        )
    by below false false t s =
        let f : size_at r (c ∷ without q live) ≡ Some n = sym (ap (λ b. size_at r (if b then without q live else c ∷ without q live)) t) ∙ e in
        let rest = below (sym (ap (λ b. if b then Some (length c.fields) else size_at r (without q live)) s) ∙ f) in
        (rest.0, ap (λ b. if b then Some (length c.fields) else size_at r live) s ∙ rest.1)

-- ---- an event

valid : (live : List Loaded) (xs : List Shown) (c : Change) → Fits live xs → IsChange live c → Valid c xs
unfolding Fits
valid live xs (Write q tag ws) f h = f q (length ws) h.1
valid live xs (Release q) f h = let n = has_size (size_at q live) h.1 in (n.0, f q n.0 n.1)

fits_changed : (live : List Loaded) (xs : List Shown) (c : Change) → Rising 0 xs → Fits live xs → Valid c xs → Fits (left_by c live) (map (changed_shown c) xs)
unfolding Fits
fits_changed live xs (Write q tag ws) h f v = λ r n e. size_written q tag ws r 0 xs h v ∙ f r n e
fits_changed live xs (Release q) h f v = λ r n e. let w = without_size q r n live e in size_dropped q r xs w.0 ∙ f r n w.1

-- one that isn't looked at
fits_left : (live : List Loaded) (xs : List Shown) (c : Change) → Fits live xs → Fits (left_by c live) xs
unfolding Fits
fits_left live xs (Write q tag ws) f = f
fits_left live xs (Release q) f = λ r n e. f r n (without_size q r n live e).1

fits_fresh : (cs : List Loaded) → Fits cs (map fresh cs)
unfolding Fits
fits_fresh [] q n e = e
fits_fresh (c ∷ cs) q n e = by (fits_fresh cs q n) (c.place == q) refl
  where
    by : (size_at q cs ≡ Some n → size_shown q (map fresh cs) ≡ Some n) → (b : Bool) → (c.place == q) ≡ b → size_shown q (map fresh (c ∷ cs)) ≡ Some n
    by below true t = ap (λ b. if b then Some (length c.fields) else size_shown q (map fresh cs)) t ∙ sym (ap (λ b. if b then Some (length c.fields) else size_at q cs) t) ∙ e
    by below false t = ap (λ b. if b then Some (length c.fields) else size_shown q (map fresh cs)) t ∙ below (sym (ap (λ b. if b then Some (length c.fields) else size_at q cs) t) ∙ e)

-- ---- the replay

abbrev after : ℕ → List Event → Shown → Shown
after i [] x = x
after i (e ∷ es) x = after i es (if nat_le e.step i then changed_shown e.change x else x)

map_map : {A B C : Type 0} (f : A → B) (g : B → C) (xs : List A) → map g (map f xs) ≡ map (λ x. g (f x)) xs
map_map f g [] = refl
map_map f g (x ∷ xs) = ap (λ ys. g (f x) ∷ ys) (map_map f g xs)

map_same : {A : Type 0} (xs : List A) → xs ≡ map (λ x. x) xs
map_same [] = refl
map_same (x ∷ xs) = ap (λ ys. x ∷ ys) (map_same xs)

replay_is : (es : List Event) (live : List Loaded) (least last i : ℕ) (xs : List Shown) → AreEvents live least last es → Fits live xs → Rising 0 xs → replay (store xs) es i ≡ store (map (after i es) xs)
replay_is [] live least last i xs a f h = ap store (map_same xs)
replay_is (e ∷ es) live least last i xs a f h =
    let v = valid live xs e.change f a.2 in
    by v
    (replay_is es (left_by e.change live) e.step last i (map (changed_shown e.change) xs) a.3 (fits_changed live xs e.change h f v) (rising_changed e.change 0 xs h))
    (replay_is es (left_by e.change live) e.step last i xs a.3 (fits_left live xs e.change f) h)
    (nat_le e.step i) refl
  where
    by : Valid e.change xs → replay (store (map (changed_shown e.change) xs)) es i ≡ store (map (after i es) (map (changed_shown e.change) xs)) → replay (store xs) es i ≡ store (map (after i es) xs) → (b : Bool) → nat_le e.step i ≡ b → replay (applied_if (nat_le e.step i) e (store xs)) es i ≡ store (map (λ x. after i es (if nat_le e.step i then changed_shown e.change x else x)) xs)
    by v done skipped true t =
        ap (λ b. replay (applied_if b e (store xs)) es i) t
        ∙ ap (λ s. replay s es i) (change_is e.change xs h v)
        ∙ done
        ∙ ap store (map_map (changed_shown e.change) (after i es) xs)
        ∙ ap (λ b. store (map (λ x. after i es (if b then changed_shown e.change x else x)) xs)) (sym t)
    by v done skipped false t =
        ap (λ b. replay (applied_if b e (store xs)) es i) t
        ∙ skipped
        ∙ ap (λ b. store (map (λ x. after i es (if b then changed_shown e.change x else x)) xs)) (sym t)

rising_after : (i : ℕ) (es : List Event) (p : ℕ) (xs : List Shown) → Rising p xs → Rising p (map (after i es) xs)
rising_after i es p [] h = tt
rising_after i es p (x ∷ xs) h =
    let same = place_after es x in
    (subst (λ k. p ≤ k) (sym same) h.0, subst (λ k. Rising (suc k) (map (after i es) xs)) (sym same) (rising_after i es (suc x.cell.place) xs h.1))
  where
    one_kept : (b : Bool) (e : Event) (x : Shown) → (if b then changed_shown e.change x else x).cell.place ≡ x.cell.place
    one_kept true e x = place_kept e.change x
    one_kept false e x = refl

    place_after : (es : List Event) (x : Shown) → (after i es x).cell.place ≡ x.cell.place
    place_after [] x = refl
    place_after (e ∷ es) x = place_after es (if nat_le e.step i then changed_shown e.change x else x) ∙ one_kept (nat_le e.step i) e x

-- ---- the last event of each cell

abbrev ReportsChange : Shown → Loaded → Change → Type 0
ReportsChange x c (Write q tag ws) = x ≡ record { cell = record { place = c.place; tag = tag; fields = ws }; gone = false }
ReportsChange x c (Release q) = (x.cell.place ≡ c.place) × (x.gone ≡ true)

-- the cell is as the event left it, or as it was first
abbrev Reports : Shown → Loaded → Option Event → Type 0
Reports x c None = x ≡ fresh c
Reports x c (Some e) = ReportsChange x c e.change

reports_place : (x : Shown) (c : Loaded) (o : Option Event) → Reports x c o → x.cell.place ≡ c.place
reports_place x c None h = ap (λ (y : Shown). y.cell.place) h
reports_place x c (Some e) h = by e.change h
  where
    by : (d : Change) → ReportsChange x c d → x.cell.place ≡ c.place
    by (Write q tag ws) h = ap (λ (y : Shown). y.cell.place) h
    by (Release q) h = h.0

reports_changed : (x : Shown) (c : Loaded) (o : Option Event) (e : Event) → Reports x c o → Reports (changed_shown e.change x) c (if c.place == place_of e.change then Some e else o)
reports_changed x c o e h = by e.change (c.place == place_of e.change) refl refl
  where
    at : x.cell.place ≡ c.place
    at = reports_place x c o h

    by : (d : Change) (b : Bool) → e.change ≡ d → (c.place == place_of e.change) ≡ b → Reports (changed_shown e.change x) c (if c.place == place_of e.change then Some e else o)
    by (Write q tag ws) true is t =
        let test : (x.cell.place == q) ≡ true = ap₂ (λ m d. m == place_of d) at (sym is) ∙ t in
        let y : changed_shown e.change x ≡ write_shown tag ws x = ap (λ d. changed_shown d x) is ∙ ap (λ b. if b then write_shown tag ws x else x) test in
        let reported : ReportsChange (changed_shown e.change x) c e.change = subst (ReportsChange (changed_shown e.change x) c) (sym is) (y ∙ ap (λ p. record { cell = record { place = p; tag = tag; fields = ws }; gone = false }) at) in
        subst (λ b. Reports (changed_shown e.change x) c (if b then Some e else o)) (sym t) reported
    by (Release q) true is t =
        let test : (x.cell.place == q) ≡ true = ap₂ (λ m d. m == place_of d) at (sym is) ∙ t in
        let y : changed_shown e.change x ≡ drop_shown x = ap (λ d. changed_shown d x) is ∙ ap (λ b. if b then drop_shown x else x) test in
        let reported : ReportsChange (changed_shown e.change x) c e.change = subst (ReportsChange (changed_shown e.change x) c) (sym is) (ap (λ (z : Shown). z.cell.place) y ∙ at, ap (λ (z : Shown). z.gone) y) in
        subst (λ b. Reports (changed_shown e.change x) c (if b then Some e else o)) (sym t) reported
    by (Write q tag ws) false is t =
        let test : (x.cell.place == q) ≡ false = ap₂ (λ m d. m == place_of d) at (sym is) ∙ t in
        let y : changed_shown e.change x ≡ x = ap (λ d. changed_shown d x) is ∙ ap (λ b. if b then write_shown tag ws x else x) test in
        subst (λ b. Reports (changed_shown e.change x) c (if b then Some e else o)) (sym t) (subst (λ z. Reports z c o) (sym y) h)
    by (Release q) false is t =
        let test : (x.cell.place == q) ≡ false = ap₂ (λ m d. m == place_of d) at (sym is) ∙ t in
        let y : changed_shown e.change x ≡ x = ap (λ d. changed_shown d x) is ∙ ap (λ b. if b then drop_shown x else x) test in
        subst (λ b. Reports (changed_shown e.change x) c (if b then Some e else o)) (sym t) (subst (λ z. Reports z c o) (sym y) h)

reports_after : (i : ℕ) (es : List Event) (x : Shown) (c : Loaded) (o : Option Event) → Reports x c o → Reports (after i es x) c (latest c.place i es o)
reports_after i [] x c o h = h
reports_after i (e ∷ es) x c o h = reports_after i es (if nat_le e.step i then changed_shown e.change x else x) c (if nat_le e.step i then (if c.place == place_of e.change then Some e else o) else o) (by (nat_le e.step i))
  where
    by : (b : Bool) → Reports (if b then changed_shown e.change x else x) c (if b then (if c.place == place_of e.change then Some e else o) else o)
    by true = reports_changed x c o e h
    by false = h

line_reported : (x : Shown) (c : Loaded) (o : Option Event) → Reports x c o → place_line x.cell.place (Some (plain x.cell)) x.gone ≡ reported_line c o
line_reported x c None h = ap (λ (y : Shown). place_line y.cell.place (Some (plain y.cell)) y.gone) h
line_reported x c (Some e) h = by e.change h
  where
    by : (d : Change) → ReportsChange x c d → place_line x.cell.place (Some (plain x.cell)) x.gone ≡ change_line c.place d
    by (Write q tag ws) h = ap (λ (y : Shown). place_line y.cell.place (Some (plain y.cell)) y.gone) h
    by (Release q) h = ap₂ (λ p g. place_line p (Some (plain x.cell)) g) h.0 h.1

lines_reported : (i : ℕ) (es : List Event) (cs : List Loaded) → lines (map (after i es) (map fresh cs)) ≡ reported_lines i es cs
lines_reported i es [] = refl
lines_reported i es (c ∷ cs) = ap₂ (λ a b. a ++ b) (line_reported (after i es (fresh c)) c (latest c.place i es None) (reports_after i es (fresh c) c None refl)) (lines_reported i es cs)

pub replay_reported : (t : Trace) (i : ℕ) → IsTrace t → reported_lines i t.events t.cells ≡ replayed t i
replay_reported t i h =
    let fresh_rises = rising_fresh 0 t.cells h.cells in
    sym (lines_reported i t.events t.cells)
    ∙ sym (text_is 0 (map (after i t.events) (map fresh t.cells)) (rising_after i t.events 0 (map fresh t.cells) fresh_rises))
    ∙ ap store_text (sym (replay_is t.events t.cells 1 t.steps i (map fresh t.cells) h.events (fits_fresh t.cells) fresh_rises))
    ∙ ap (λ s. store_text (replay s t.events i)) (sym (first_is t.cells))
