-- Which cells aren't released, and at which places they are.
use Rattle.std.proofs.Common.{◌≡◌, ◌≢◌, ◌∙◌, ℕ, zero, suc, ◌+◌, ◌<◌, ◌≤◌, Bool, true, false, List, [], ◌∷◌, ◌++◌, length, map, Some, None, slice_get, refl, sym, ap, subst, arith, inl, inr}
use Rattle.std.specs.Prelude.{◌⊎◌, ◌==◌, slice_set, replicate, if◌then◌else◌}
use Rattle.std.proofs.lemmas.Bool.{eqb-true, eq-eqb, cases_lt}
use Rattle.std.proofs.lemmas.Option.{none-some, same_Some}
use Rattle.run_loading.specs.TraceText.{Loaded, size_at, without}
use Rattle.cell_trace.specs.declared.trace.LoadedCell.{LoadedCell}
use Rattle.trace_files.specs.Plain.{plain_cell}
use Rattle.trace_files.specs.Reading.{AreRising, left, IsLive}
use Rattle.fip_language.proofs.Facts.{equal_itself as equals, unequal_test as differs, unequal_test_at as differs_at}
pub use Rattle.fip_language.proofs.Facts.{get_map as to_map, get_within as get_below, map_at_inverse as from_map, replicate_length as falses}

-- ---- places

above : (least : ℕ) (cs : List Loaded) (k : ℕ) (c : Loaded) → AreRising least cs → slice_get cs k ≡ Some c → least ≤ c.place
above least [] k c h e = absurd (none-some c e)
above least (x ∷ cs) zero c h e = subst (λ (y : Loaded). least ≤ y.place) (same_Some x c e) h.0
above least (x ∷ cs) (suc k) c h e = let lt = above (suc x.place) cs k c h.1 e in let le = h.0 in omega (arith, lt, le)

pub in_order : (least : ℕ) (cs : List Loaded) (i j : ℕ) (a b : Loaded) → AreRising least cs → slice_get cs i ≡ Some a → slice_get cs j ≡ Some b → i < j → a.place < b.place
in_order least [] i j a b h e f lt = absurd (none-some a e)
in_order least (x ∷ cs) i zero a b h e f lt = absurd (omega arith)
in_order least (x ∷ cs) zero (suc j) a b h e f lt = let up = above (suc x.place) cs j b h.1 f in subst (λ (y : Loaded). y.place < b.place) (same_Some x a e) (omega (arith, up))
in_order least (x ∷ cs) (suc i) (suc j) a b h e f lt = in_order (suc x.place) cs i j a b h.1 e f (omega arith)

-- ---- what is left

-- none of these cells is at a place
abbrev pub Nowhere : ℕ → List Loaded → Type 0
Nowhere place cs = (k : ℕ) (c : Loaded) → slice_get cs k ≡ Some c → c.place ≢ place

following : (place : ℕ) (cs : List Loaded) → AreRising (suc place) cs → Nowhere place cs
following place cs h k c e same = let up = above (suc place) cs k c h e in omega (arith, up, same)

skip : (place : ℕ) (c : Loaded) (cs : List Loaded) → c.place ≢ place → size_at place (c ∷ cs) ≡ size_at place cs
skip place c cs n = ap (λ b. if b then Some (length c.fields) else size_at place cs) (differs c.place place n)

keep : (place : ℕ) (c : Loaded) (cs : List Loaded) → c.place ≢ place → without place (c ∷ cs) ≡ c ∷ without place cs
keep place c cs n = ap (λ b. if b then without place cs else c ∷ without place cs) (differs c.place place n)

first : (place : ℕ) (c : Loaded) (cs : List Loaded) → c.place ≡ place → size_at place (c ∷ cs) ≡ Some (length c.fields)
first place c cs e = ap (λ b. if b then Some (length c.fields) else size_at place cs) (subst (λ p. (c.place == p) ≡ true) e (equals c.place))

drops : (place : ℕ) (c : Loaded) (cs : List Loaded) → c.place ≡ place → without place (c ∷ cs) ≡ without place cs
drops place c cs e = ap (λ b. if b then without place cs else c ∷ without place cs) (subst (λ p. (c.place == p) ≡ true) e (equals c.place))

pub not_there : (place : ℕ) (cs : List Loaded) (rs : List Bool) → Nowhere place cs → size_at place (left cs rs) ≡ None
not_there place [] rs h = refl
not_there place (c ∷ cs) [] h = refl
not_there place (c ∷ cs) (true ∷ rs) h = not_there place cs rs (λ k. h (suc k))
not_there place (c ∷ cs) (false ∷ rs) h = skip place c (left cs rs) (h 0 c refl) ∙ not_there place cs rs (λ k. h (suc k))

none_dropped : (place : ℕ) (cs : List Loaded) (rs : List Bool) → Nowhere place cs → without place (left cs rs) ≡ left cs rs
none_dropped place [] rs h = refl
none_dropped place (c ∷ cs) [] h = refl
none_dropped place (c ∷ cs) (true ∷ rs) h = none_dropped place cs rs (λ k. h (suc k))
none_dropped place (c ∷ cs) (false ∷ rs) h = keep place c (left cs rs) (h 0 c refl) ∙ ap (λ xs. c ∷ xs) (none_dropped place cs rs (λ k. h (suc k)))

sooner : (least place k : ℕ) (x c : Loaded) (cs : List Loaded) → AreRising least (x ∷ cs) → slice_get cs k ≡ Some c → c.place ≡ place → x.place ≢ place
sooner least place k x c cs h e at same = let up = above (suc x.place) cs k c h.1 e in omega (arith, up, at, same)

module _ (place : ℕ) (c : Loaded) (at : c.place ≡ place) where
  pub gone : (least k : ℕ) (cs : List Loaded) (rs : List Bool) → AreRising least cs → slice_get cs k ≡ Some c → slice_get rs k ≡ Some true → size_at place (left cs rs) ≡ None
  gone least k [] rs h e r = absurd (none-some c e)
  gone least k (x ∷ cs) [] h e r = refl
  gone least zero (x ∷ cs) (true ∷ rs) h e r = not_there place cs rs (following place cs (subst (λ p. AreRising (suc p) cs) (ap (λ (y : Loaded). y.place) (same_Some x c e) ∙ at) h.1))
  gone least zero (x ∷ cs) (false ∷ rs) h e r = absurd (let no = same_Some false true r in cc)
  gone least (suc k) (x ∷ cs) (true ∷ rs) h e r = gone (suc x.place) k cs rs h.1 e r
  gone least (suc k) (x ∷ cs) (false ∷ rs) h e r = skip place x (left cs rs) (sooner least place k x c cs h e at) ∙ gone (suc x.place) k cs rs h.1 e r

  held_size : (least k : ℕ) (cs : List Loaded) (rs : List Bool) → AreRising least cs → slice_get cs k ≡ Some c → slice_get rs k ≡ Some false → size_at place (left cs rs) ≡ Some (length c.fields)
  held_size least k [] rs h e r = absurd (none-some c e)
  held_size least k (x ∷ cs) [] h e r = absurd (none-some false r)
  held_size least zero (x ∷ cs) (true ∷ rs) h e r = absurd (let no = same_Some true false r in cc)
  held_size least zero (x ∷ cs) (false ∷ rs) h e r =
      let same = same_Some x c e in
      first place x (left cs rs) (ap (λ (y : Loaded). y.place) same ∙ at) ∙ ap (λ (y : Loaded). Some (length y.fields)) same
  held_size least (suc k) (x ∷ cs) (true ∷ rs) h e r = held_size (suc x.place) k cs rs h.1 e r
  held_size least (suc k) (x ∷ cs) (false ∷ rs) h e r = skip place x (left cs rs) (sooner least place k x c cs h e at) ∙ held_size (suc x.place) k cs rs h.1 e r

  released : (least k : ℕ) (cs : List Loaded) (rs : List Bool) → AreRising least cs → slice_get cs k ≡ Some c → slice_get rs k ≡ Some false → left cs (slice_set rs k true) ≡ without place (left cs rs)
  released least k [] rs h e r = absurd (none-some c e)
  released least k (x ∷ cs) [] h e r = absurd (none-some false r)
  released least zero (x ∷ cs) (true ∷ rs) h e r = absurd (let no = same_Some true false r in cc)
  released least zero (x ∷ cs) (false ∷ rs) h e r =
      let at' = ap (λ (y : Loaded). y.place) (same_Some x c e) ∙ at in
      sym (drops place x (left cs rs) at' ∙ none_dropped place cs rs (following place cs (subst (λ p. AreRising (suc p) cs) at' h.1)))
  released least (suc k) (x ∷ cs) (true ∷ rs) h e r = released (suc x.place) k cs rs h.1 e r
  released least (suc k) (x ∷ cs) (false ∷ rs) h e r =
      ap (λ xs. x ∷ xs) (released (suc x.place) k cs rs h.1 e r) ∙ sym (keep place x (left cs rs) (sooner least place k x c cs h e at))

pub live_size : (cs : List Loaded) (rs : List Bool) (place k : ℕ) → AreRising 0 cs → (l : IsLive cs rs place k) → size_at place (left cs rs) ≡ Some (length l.cell.fields)
live_size cs rs place k h l = held_size place l.cell l.at 0 k cs rs h l.there l.held

pub live_released : (cs : List Loaded) (rs : List Bool) (place k : ℕ) → AreRising 0 cs → IsLive cs rs place k → left cs (slice_set rs k true) ≡ without place (left cs rs)
live_released cs rs place k h l = released place l.cell l.at 0 k cs rs h l.there l.held

-- at first all are
pub all_left : (cs : List Loaded) → left cs (replicate (length cs) false) ≡ cs
all_left [] = refl
all_left (c ∷ cs) = ap (λ xs. c ∷ xs) (all_left cs)

-- ---- rising places, up to an end

abbrev pub UpTo : ℕ → List Loaded → ℕ → Type 0
UpTo least [] end = least ≤ end
UpTo least (c ∷ cs) end = (least ≤ c.place) × UpTo (suc c.place) cs end

pub up_more : (least end : ℕ) (xs : List Loaded) (c : Loaded) → UpTo least xs end → end ≤ c.place → UpTo least (xs ++ c ∷ []) (c.place + 1)
up_more least end [] c h le = (omega (arith, h, le), omega arith)
up_more least end (x ∷ xs) c h le = (h.0, up_more (suc x.place) end xs c h.1 le)

pub up_rising : (least end : ℕ) (xs : List Loaded) → UpTo least xs end → AreRising least xs
up_rising least end [] h = tt
up_rising least end (x ∷ xs) h = (h.0, up_rising (suc x.place) end xs h.1)

-- ---- cells in memory

pub places_differ : (cells : List LoadedCell) (place : ℕ) → ((k : ℕ) (c : LoadedCell) → slice_get cells k ≡ Some c → c.place ≢ place) → Nowhere place (map plain_cell cells)
places_differ cells place h k l e same = let m = from_map plain_cell cells k l e in h k m.0 m.1 (ap (λ (y : Loaded). y.place) m.2 ∙ same)

no_later : (least : ℕ) (cs : List Loaded) (i j : ℕ) (a b : Loaded) → AreRising least cs → slice_get cs i ≡ Some a → slice_get cs j ≡ Some b → i ≤ j → a.place ≤ b.place
no_later least [] i j a b h e f le = absurd (none-some a e)
no_later least (x ∷ cs) zero zero a b h e f le = let p = ap (λ (y : Loaded). y.place) (same_Some x a e) in let q = ap (λ (y : Loaded). y.place) (same_Some x b f) in omega (arith, p, q)
no_later least (x ∷ cs) zero (suc j) a b h e f le = let p = ap (λ (y : Loaded). y.place) (same_Some x a e) in let up = above (suc x.place) cs j b h.1 f in omega (arith, p, up)
no_later least (x ∷ cs) (suc i) zero a b h e f le = absurd (omega arith)
no_later least (x ∷ cs) (suc i) (suc j) a b h e f le = no_later (suc x.place) cs i j a b h.1 e f (omega arith)

pub cells_in_order : (cells : List LoadedCell) (i j : ℕ) (a b : LoadedCell) → AreRising 0 (map plain_cell cells) → slice_get cells i ≡ Some a → slice_get cells j ≡ Some b → i ≤ j → a.place ≤ b.place
cells_in_order cells i j a b h e f le = no_later 0 (map plain_cell cells) i j (plain_cell a) (plain_cell b) h (to_map plain_cell cells i a e) (to_map plain_cell cells j b f) le

pub live_there : (cells : List LoadedCell) (rs : List Bool) (place k : ℕ) (l : IsLive (map plain_cell cells) rs place k) → (c : LoadedCell) × (slice_get cells k ≡ Some c) × (plain_cell c ≡ l.cell)
live_there cells rs place k l = from_map plain_cell cells k l.cell l.there

pub cells_left : (cells : List LoadedCell) → left (map plain_cell cells) (replicate (length cells) false) ≡ map plain_cell cells
cells_left [] = refl
cells_left (c ∷ cells) = ap (λ xs. plain_cell c ∷ xs) (cells_left cells)

-- two cells have two places
pub places_apart : (cells : List LoadedCell) (k j : ℕ) (a b : LoadedCell) → AreRising 0 (map plain_cell cells) → slice_get cells k ≡ Some a → slice_get cells j ≡ Some b → j ≢ k → a.place ≡ b.place → ⊥
places_apart cells k j a b h e f apart same = by (cases_lt k j)
  where
    by : (k < j) ⊎ (j ≤ k) → ⊥
    by (inl lt) = let less = in_order 0 (map plain_cell cells) k j (plain_cell a) (plain_cell b) h (to_map plain_cell cells k a e) (to_map plain_cell cells j b f) lt in omega (arith, less, same)
    by (inr le) = let less = in_order 0 (map plain_cell cells) j k (plain_cell b) (plain_cell a) h (to_map plain_cell cells j b f) (to_map plain_cell cells k a e) (omega (arith, le, apart)) in omega (arith, less, same)
