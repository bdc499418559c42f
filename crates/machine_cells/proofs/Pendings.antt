-- What is on the stack while a tree is released.
use Rattle.std.proofs.Common.{◌≡◌, ◌≢◌, ℕ, zero, suc, ◌+◌, ◌*◌, ◌/◌, ◌%◌, ◌<◌, ◌≤◌, Bool, true, false, List, [], ◌∷◌, ◌++◌, length, length-append, drop, map, Option, Some, None, refl, sym, ap, subst, ◌∙◌, arith}
use Rattle.std.specs.Prelude.{slice_get, slice_set, option_and_then, nat_eq, if◌then◌else◌}
use Rattle.std.proofs.lemmas.Bool.Decides.{nat_tests}
use Rattle.std.proofs.lemmas.Option.{none-some, same_Some}
use Rattle.std.proofs.lemmas.List.{append_assoc, append-nil, same_from_push}
use Rattle.fip_language.specs.Table.{Shape, Table, constructors}
use Rattle.fip_language.specs.Store.{Cell, Placed, PlacedInt, Bare, At, Parts, NoParts, MoreParts, words_of, places, places_of_all}
use Rattle.fip_base.specs.TableView.{fields_at}
use Rattle.cell_store.specs.Cells.{Cells, cell_at, number}
use Rattle.machine_semantics.specs.Cells.{Store, Change, Release, cell_in, given_up, changed, changed_by}
use Rattle.machine_semantics.specs.Trees.{Stands, StandAll, IsTree}
use Rattle.machine_cells.specs.Live.{number_live}
use Rattle.machine_cells.specs.Small.{store_of}
use Rattle.machine_cells.specs.Pending.{entry, in_list, field_entry, entries, Node, tree, word, words, all_places, AllStand, Pending, Held, HeldBut}
use Rattle.machine_cells.proofs.Living.{one_less}
use Rattle.fip_language.proofs.Facts.{if_false as choose_false, if_true as choose_true}

pub place_within : (cs : Cells) (p : ℕ) → cell_at cs p ≢ None → p < length cs
place_within [] p h = absurd (h refl)
place_within (o ∷ cs) zero h = omega arith
place_within (o ∷ cs) (suc p) h = let k = place_within cs p h in omega (arith, k)

pub same_cell : (cs : Cells) (p : ℕ) → cell_at cs p ≡ cell_in cs p
same_cell [] p = refl
same_cell (o ∷ cs) zero = refl
same_cell (o ∷ cs) (suc p) = same_cell cs p

pub is_there : {A : Type 0} (o : Option A) (x : A) → o ≡ Some x → o ≢ None
is_there o x e n = none-some x (sym n ∙ e)

-- a cell that could be released
pub record GivenUp (s : Store) (p : ℕ) (t : Store) : Type 0 where
  pub cell : Cell
  pub at : cell_in s.cells p ≡ Some cell
  pub live : slice_get s.released p ≡ Some false
  pub is : t ≡ store_of s.cells (slice_set s.released p true)

pub given : (s : Store) (p : ℕ) (t : Store) → changed (Release p) s ≡ Some t → GivenUp s p t
given s p t e = by (cell_in s.cells p) (slice_get s.released p) refl refl e
  where
    by : (o : Option Cell) (r : Option Bool) → cell_in s.cells p ≡ o → slice_get s.released p ≡ r → given_up s p o r ≡ Some t → GivenUp s p t
    by None r a b e = absurd (none-some t e)
    by (Some c) None a b e = absurd (none-some t e)
    by (Some c) (Some true) a b e = absurd (none-some t e)
    by (Some c) (Some false) a b e = record { cell = c; at = a; live = b; is = sym (same_Some (store_of s.cells (slice_set s.released p true)) t e) }

pub record First (c : Change) (cs : List Change) (s last : Store) : Type 0 where
  pub next : Store
  pub first : changed c s ≡ Some next
  pub rest : changed_by cs next ≡ Some last

pub one_first : (c : Change) (cs : List Change) (s last : Store) → changed_by (c ∷ cs) s ≡ Some last → First c cs s last
one_first c cs s last e = by (changed c s) refl e
  where
    by : (o : Option Store) → changed c s ≡ o → option_and_then (λ t. changed_by cs t) o ≡ Some last → First c cs s last
    by None a e = absurd (none-some last e)
    by (Some t) a e = record { next = t; first = a; rest = e }

abbrev pub releases : List ℕ → List Change
releases ps = map (λ p. Release p) ps

-- no more places than live cells
pub few_places : (ps : List ℕ) (s last : Store) → changed_by (releases ps) s ≡ Some last → length ps ≤ number_live s.cells s.released
few_places [] s last e = omega arith
few_places (p ∷ ps) s last e =
    let f = one_first (Release p) (releases ps) s last e in
    let g = given s p f.next f.first in
    let less = one_less s.cells s.released p (is_there (cell_at s.cells p) g.cell (same_cell s.cells p ∙ g.at)) g.live in
    let more = few_places ps (store_of s.cells (slice_set s.released p true)) last (subst (λ t. changed_by (releases ps) t ≡ Some last) g.is f.rest) in
    omega (arith, less, more)

pub few_live : (cs : Cells) (rs : List Bool) → number_live cs rs ≤ number cs
few_live [] rs = omega arith
few_live (o ∷ cs) [] = omega arith
few_live (None ∷ cs) (r ∷ rs) = few_live cs rs
few_live (Some c ∷ cs) (true ∷ rs) = let h = few_live cs rs in omega (arith, h)
few_live (Some c ∷ cs) (false ∷ rs) = let h = few_live cs rs in omega (arith, h)

-- fields on the stack

pub entries_next : (ts ws : List ℕ) (i : ℕ) → i < length ts → length ts ≡ length ws → entries (drop i ts) (drop i ws) ≡ entries (drop (i + 1) ts) (drop (i + 1) ws) ++ field_entry ts ws i
entries_next [] ws i lt e = absurd (omega (arith, lt))
entries_next (t ∷ ts) [] i lt e = absurd (omega (arith, e))
entries_next (t ∷ ts) (w ∷ ws) zero lt e = refl
entries_next (t ∷ ts) (w ∷ ws) (suc i) lt e =
    let plus : suc (i + 1) ≡ suc i + 1 = omega arith in
    entries_next ts ws i (omega (arith, lt)) (omega (arith, e)) ∙ ap (λ k. entries (drop k (t ∷ ts)) (drop k (w ∷ ws)) ++ field_entry ts ws i) plus

pub entries_less : (ts ws : List ℕ) (i : ℕ) → length (entries (drop i ts) (drop i ws)) ≤ length (entries ts ws)
entries_less ts ws zero = omega arith
entries_less [] ws (suc i) = omega arith
entries_less (t ∷ ts) [] (suc i) = by (drop i ts)
  where
    by : (us : List ℕ) → length (entries us []) ≤ 0
    by [] = omega arith
    by (u ∷ us) = omega arith
entries_less (t ∷ ts) (w ∷ ws) (suc i) =
    let h = entries_less ts ws i in
    let a = length-append (entries ts ws) (in_list (entry t w)) in
    omega (arith, h, a)

-- the fields from number k on, where those after it are pushed
pub push_next : (ts ws pushed now : List ℕ) (i k most : ℕ) → i ≡ k + 1 → k < length ts → length ts ≡ length ws → now ≡ pushed ++ entries (drop i ts) (drop i ws) → length pushed + length (entries ts ws) ≤ most → (length now + length (field_entry ts ws k) ≤ most) × (now ++ field_entry ts ws k ≡ pushed ++ entries (drop k ts) (drop k ws))
push_next ts ws pushed now i k most e lt same is room =
    let next = entries_next ts ws k lt same in
    let at : entries (drop i ts) (drop i ws) ≡ entries (drop (k + 1) ts) (drop (k + 1) ws) = ap (λ j. entries (drop j ts) (drop j ws)) e in
    let less = entries_less ts ws k in
    let a = ap length is in
    let b = length-append pushed (entries (drop i ts) (drop i ws)) in
    let d = ap length at in
    let f = ap length next in
    let g = length-append (entries (drop (k + 1) ts) (drop (k + 1) ws)) (field_entry ts ws k) in (
      omega (arith, less, a, b, d, f, g, room),
      ap (λ es. es ++ field_entry ts ws k) (is ∙ ap (λ es. pushed ++ es) at)
          ∙ append_assoc pushed (entries (drop (k + 1) ts) (drop (k + 1) ws)) (field_entry ts ws k)
          ∙ ap (λ es. pushed ++ es) (sym next),
    )

abbrev pub nodes_of : List ℕ → Parts → List Node
nodes_of [] xs = []
nodes_of (t ∷ ts) NoParts = []
nodes_of (t ∷ ts) (MoreParts (PlacedInt i) xs) = nodes_of ts xs
nodes_of (t ∷ ts) (MoreParts (Bare c) xs) = nodes_of ts xs
nodes_of (t ∷ ts) (MoreParts (At p c ys) xs) = record { type = t; place = p; tag = c; parts = ys } ∷ nodes_of ts xs

no_int : (t w : ℕ) → entry (suc t) w ≡ (if nat_eq (w % 2) 0 then None else Some (suc t * 4294967296 + (w / 2) % 4294967296))
no_int t w = choose_false (nat_eq (suc t) 0) None (if nat_eq (w % 2) 0 then None else Some (suc t * 4294967296 + (w / 2) % 4294967296)) (grind (arith, nat_tests))

even_two : (c : ℕ) → nat_eq ((2 * c) % 2) 0 ≡ true
even_two c = let z : (2 * c) % 2 ≡ 0 = omega arith in grind (arith, nat_tests)

odd_two : (p : ℕ) → nat_eq ((2 * p + 1) % 2) 0 ≡ false
odd_two p = let z : (2 * p + 1) % 2 ≡ 1 = omega arith in grind (arith, nat_tests)

pub entry_bare : (t c : ℕ) → entry (suc t) (2 * c) ≡ None
entry_bare t c = no_int t (2 * c) ∙ choose_true (nat_eq ((2 * c) % 2) 0) None (Some (suc t * 4294967296 + ((2 * c) / 2) % 4294967296)) (even_two c)

pub entry_at : (t p : ℕ) → entry (suc t) (2 * p + 1) ≡ Some (suc t * 4294967296 + p % 4294967296)
entry_at t p =
    let half : (2 * p + 1) / 2 ≡ p = omega arith in
    no_int t (2 * p + 1)
    ∙ choose_false (nat_eq ((2 * p + 1) % 2) 0) None (Some (suc t * 4294967296 + ((2 * p + 1) / 2) % 4294967296)) (odd_two p)
    ∙ ap (λ q. Some (suc t * 4294967296 + q % 4294967296)) half

module _ (tb : Table) (s : Store) where
  pub entries_are : (ts : List ℕ) (xs : Parts) → StandAll tb s ts xs → entries ts (words_of xs) ≡ words (nodes_of ts xs)
  entries_are [] NoParts h = refl
  entries_are [] (MoreParts x xs) h = absurd h
  entries_are (t ∷ ts) NoParts h = absurd h
  entries_are (zero ∷ ts) (MoreParts (PlacedInt i) xs) h = append-nil (entries ts (words_of xs)) ∙ entries_are ts xs h.1
  entries_are (zero ∷ ts) (MoreParts (Bare c) xs) h = absurd h.0
  entries_are (zero ∷ ts) (MoreParts (At p c ys) xs) h = absurd h.0
  entries_are (suc t ∷ ts) (MoreParts (PlacedInt i) xs) h = absurd h.0
  entries_are (suc t ∷ ts) (MoreParts (Bare c) xs) h = ap (λ o. entries ts (words_of xs) ++ in_list o) (entry_bare t c) ∙ append-nil (entries ts (words_of xs)) ∙ entries_are ts xs h.1
  entries_are (suc t ∷ ts) (MoreParts (At p c ys) xs) h = ap (λ o. entries ts (words_of xs) ++ in_list o) (entry_at t p) ∙ ap (λ es. es ++ (suc t * 4294967296 + p % 4294967296) ∷ []) (entries_are ts xs h.1)

  pub nodes_stand : (ts : List ℕ) (xs : Parts) → StandAll tb s ts xs → AllStand tb s (nodes_of ts xs)
  nodes_stand [] NoParts h = tt
  nodes_stand [] (MoreParts x xs) h = absurd h
  nodes_stand (t ∷ ts) NoParts h = absurd h
  nodes_stand (t ∷ ts) (MoreParts (PlacedInt i) xs) h = nodes_stand ts xs h.1
  nodes_stand (t ∷ ts) (MoreParts (Bare c) xs) h = nodes_stand ts xs h.1
  nodes_stand (t ∷ ts) (MoreParts (At p c ys) xs) h = (h.0, nodes_stand ts xs h.1)

  pub nodes_places : (ts : List ℕ) (xs : Parts) → StandAll tb s ts xs → all_places (nodes_of ts xs) ≡ places_of_all xs
  nodes_places [] NoParts h = refl
  nodes_places [] (MoreParts x xs) h = absurd h
  nodes_places (t ∷ ts) NoParts h = absurd h
  nodes_places (t ∷ ts) (MoreParts (PlacedInt i) xs) h = nodes_places ts xs h.1
  nodes_places (t ∷ ts) (MoreParts (Bare c) xs) h = nodes_places ts xs h.1
  nodes_places (t ∷ ts) (MoreParts (At p c ys) xs) h = ap (λ ps. places (At p c ys) ++ ps) (nodes_places ts xs h.1)

  pub stand_long : (ts : List ℕ) (xs : Parts) → StandAll tb s ts xs → length ts ≡ length (words_of xs)
  stand_long [] NoParts h = refl
  stand_long [] (MoreParts x xs) h = absurd h
  stand_long (t ∷ ts) NoParts h = absurd h
  stand_long (t ∷ ts) (MoreParts x xs) h = ap suc (stand_long ts xs h.1)

  pub stand_append : (ns ms : List Node) → AllStand tb s ns → AllStand tb s ms → AllStand tb s (ns ++ ms)
  stand_append [] ms a b = b
  stand_append (n ∷ ns) ms a b = (a.0, stand_append ns ms a.1 b)

pub places_append : (ns ms : List Node) → all_places (ns ++ ms) ≡ all_places ns ++ all_places ms
places_append [] ms = refl
places_append (n ∷ ns) ms = ap (λ ps. places (tree n) ++ ps) (places_append ns ms) ∙ sym (append_assoc (places (tree n)) (all_places ns) (all_places ms))

pub words_append : (ns ms : List Node) → words (ns ++ ms) ≡ words ms ++ words ns
words_append [] ms = sym (append-nil (words ms))
words_append (n ∷ ns) ms = ap (λ es. es ++ word n ∷ []) (words_append ns ms) ∙ append_assoc (words ms) (words ns) (word n ∷ [])

pub words_long : (ns : List Node) → length (words ns) ≡ length ns
words_long [] = refl
words_long (n ∷ ns) = let a = length-append (words ns) (word n ∷ []) in let h = words_long ns in omega (arith, a, h)

pub nodes_few : (ns : List Node) → length ns ≤ length (all_places ns)
nodes_few [] = omega arith
nodes_few (n ∷ ns) = let a = length-append (places (tree n)) (all_places ns) in let h = nodes_few ns in omega (arith, a, h)

-- what was on top
pub popped : (tb : Table) (first now last : Store) (rest : List ℕ) (e : ℕ) (pushed ps : List ℕ) → pushed ≡ rest ++ e ∷ [] → Held tb first now last pushed ps → (p : ℕ) × (qs : List ℕ) × (p ∷ qs ≡ ps) × HeldBut tb first now last rest e p qs
popped tb first now last rest e pushed ps is ([], o, p) = let z = ap length (sym p.on_stack ∙ is) in let l = length-append rest (e ∷ []) in absurd (omega (arith, z, l))
popped tb first now last rest e pushed ps is (n ∷ ns, o, p) =
    let same = same_from_push (words ns) rest (word n) e (sym p.on_stack ∙ is) in
    (n.place, places_of_all n.parts ++ all_places ns, o, (n, ns, same.1, refl, refl, record { cells = p.cells; stand = p.stand; on_stack = sym same.0; goes = p.goes }))

pub all_done : (tb : Table) (first now last : Store) (pushed ps : List ℕ) → pushed ≡ [] → Held tb first now last pushed ps → (now ≡ last) × ([] ≡ ps)
all_done tb first now last pushed ps is ([], o, p) = (same_Some now last p.goes, o)
all_done tb first now last pushed ps is (n ∷ ns, o, p) = let z = ap length (sym is ∙ p.on_stack) in let l = words_long (n ∷ ns) in absurd (omega (arith, z, l))

-- at the start
pub first_held : (tb : Table) (s last : Store) (t w e : ℕ) (x : Placed) → IsTree tb s t w x → changed_by (releases (places x)) s ≡ Some last → entry t w ≡ Some e → (p : ℕ) × (ps : List ℕ) × (p ∷ ps ≡ places x) × HeldBut tb s s last [] e p ps
first_held tb s last zero w e (PlacedInt i) h g is = absurd (none-some e is)
first_held tb s last zero w e (Bare c) h g is = absurd h.stands
first_held tb s last zero w e (At p c xs) h g is = absurd h.stands
first_held tb s last (suc t) w e (PlacedInt i) h g is = absurd h.stands
first_held tb s last (suc t) w e (Bare c) h g is = absurd (none-some e (sym (entry_bare t c) ∙ ap (entry (suc t)) h.word ∙ is))
first_held tb s last (suc t) w e (At p c xs) h g is =
    let one = same_Some (suc t * 4294967296 + p % 4294967296) e (sym (entry_at t p) ∙ ap (entry (suc t)) h.word ∙ is) in
    let n : Node = record { type = suc t; place = p; tag = c; parts = xs } in
    let pending : Pending tb s s last [] (n ∷ []) [] = record {
      cells = refl;
      stand = (h.stands, tt);
      on_stack = refl;
      goes = subst (λ ps. changed_by (releases ps) s ≡ Some last) (sym (append-nil (places (At p c xs)))) g;
    } in
    (p, places_of_all xs ++ [], ap (λ qs. p ∷ qs) (append-nil (places_of_all xs)), (n, [], one, refl, refl, pending))

-- a tree without a cell releases none
pub none_held : (tb : Table) (s last : Store) (t w : ℕ) (x : Placed) → IsTree tb s t w x → changed_by (releases (places x)) s ≡ Some last → entry t w ≡ None → (s ≡ last) × (places x ≡ [])
none_held tb s last t w (PlacedInt i) h g is = (same_Some s last g, refl)
none_held tb s last t w (Bare c) h g is = (same_Some s last g, refl)
none_held tb s last zero w (At p c xs) h g is = absurd h.stands
none_held tb s last (suc t) w (At p c xs) h g is = absurd (none-some (suc t * 4294967296 + p % 4294967296) (sym is ∙ sym (ap (entry (suc t)) h.word) ∙ entry_at t p))

-- the root that is released next
pub record Root (tb : Table) (now : Store) (e : ℕ) (n : Node) (ns : List Node) (last : Store) : Type 0 where
  pub cell : cell_at now.cells n.place ≡ Some (record { tag = n.tag; fields = words_of n.parts })
  pub live : slice_get now.released n.place ≡ Some false
  pub shape : Shape
  pub is_shape : slice_get (constructors tb n.type) n.tag ≡ Some shape
  pub rest : changed_by (releases (places_of_all n.parts ++ all_places ns)) (store_of now.cells (slice_set now.released n.place true)) ≡ Some last

pub stand_cell : (tb : Table) (s : Store) (t p c : ℕ) (xs : Parts) → Stands tb s t (At p c xs) → (cell_in s.cells p ≡ Some (record { tag = c; fields = words_of xs })) × (k : Shape) × (slice_get (constructors tb t) c ≡ Some k) × StandAll tb s k.fields xs
stand_cell tb s zero p c xs h = absurd h
stand_cell tb s (suc t) p c xs h = (h.0, h.2, h.3, h.4)

pub root_of : (tb : Table) (first now last : Store) (rest : List ℕ) (e : ℕ) (n : Node) (ns : List Node) → Pending tb first now last rest (n ∷ ns) ns → Root tb now e n ns last
root_of tb first now last rest e n ns p =
    let h = stand_cell tb first n.type n.place n.tag n.parts p.stand.0 in
    let f = one_first (Release n.place) (releases (places_of_all n.parts ++ all_places ns)) now last p.goes in
    let g = given now n.place f.next f.first in
    record {
      cell = same_cell now.cells n.place ∙ ap (λ cs. cell_in cs n.place) p.cells ∙ h.0;
      live = g.live;
      shape = h.1;
      is_shape = h.2;
      rest = subst (λ t. changed_by (releases (places_of_all n.parts ++ all_places ns)) t ≡ Some last) g.is f.rest;
    }

-- there is room for the fields, and then they are on the stack
pub fields_held : (tb : Table) (first now last : Store) (pushed : List ℕ) (n : Node) (ns : List Node) (k : Shape) → Pending tb first now last pushed (n ∷ ns) ns → slice_get (constructors tb n.type) n.tag ≡ Some k → changed_by (releases (places_of_all n.parts ++ all_places ns)) (store_of now.cells (slice_set now.released n.place true)) ≡ Some last → Held tb first (store_of now.cells (slice_set now.released n.place true)) last (pushed ++ entries k.fields (words_of n.parts)) (places_of_all n.parts ++ all_places ns) × (length pushed + length (entries k.fields (words_of n.parts)) ≤ number now.cells) × (length k.fields ≡ length (words_of n.parts))
fields_held tb first now last pushed n ns k p is goes =
    let h = stand_cell tb first n.type n.place n.tag n.parts p.stand.0 in
    let same : h.1 ≡ k = same_Some h.1 k (sym h.2 ∙ is) in
    let stand : StandAll tb first k.fields n.parts = subst (λ (k : Shape). StandAll tb first k.fields n.parts) same h.3 in
    let fs = nodes_of k.fields n.parts in
    let after = store_of now.cells (slice_set now.released n.place true) in
    let entries_is = entries_are tb first k.fields n.parts stand in
    let on : pushed ++ entries k.fields (words_of n.parts) ≡ words (fs ++ ns) = (λ i. p.on_stack i ++ entries_is i) ∙ sym (words_append fs ns) in
    let ps : places_of_all n.parts ++ all_places ns ≡ all_places (fs ++ ns) = ap (λ qs. qs ++ all_places ns) (sym (nodes_places tb first k.fields n.parts stand)) ∙ sym (places_append fs ns) in
    let held : Pending tb first after last (pushed ++ entries k.fields (words_of n.parts)) (fs ++ ns) (fs ++ ns) = record {
      cells = p.cells;
      stand = stand_append tb first fs ns (nodes_stand tb first k.fields n.parts stand) p.stand.1;
      on_stack = on;
      goes = subst (λ qs. changed_by (releases qs) after ≡ Some last) ps goes;
    } in
    let few = few_places (all_places (fs ++ ns)) after last held.goes in
    let live = few_live now.cells (slice_set now.released n.place true) in
    let nodes = nodes_few (fs ++ ns) in
    let long = ap length on ∙ words_long (fs ++ ns) in
    let parts = length-append pushed (entries k.fields (words_of n.parts)) in
    ((fs ++ ns, sym ps, held), omega (arith, few, live, nodes, long, parts), stand_long tb first k.fields n.parts stand)

-- the types of a constructor's fields
pub shape_fields : (ks : List Shape) (c : ℕ) (k : Shape) → slice_get ks c ≡ Some k → fields_at ks c ≡ k.fields
shape_fields [] c k e = absurd (none-some k e)
shape_fields (s ∷ ks) zero k e = ap (λ (k : Shape). k.fields) (same_Some s k e)
shape_fields (s ∷ ks) (suc c) k e = shape_fields ks c k e

pub known_type : (tb : Table) (t c : ℕ) (k : Shape) → slice_get (constructors tb t) c ≡ Some k → t ≤ length tb
known_type tb zero c k e = omega arith
known_type [] (suc t) c k e = absurd (none-some k e)
known_type (r ∷ tb) (suc zero) c k e = omega arith
known_type (r ∷ tb) (suc (suc t)) c k e = let h = known_type tb (suc t) c k e in omega (arith, h)
