-- Trees are gone into one after another, and each cell of them is met once.
-- Idea: what is ahead is a list of trees whose cells are known; each turn takes the first and puts those of its fields
-- after the others, so that what was seen and what is ahead have together the cells that were ahead at first.
use Rattle.std.proofs.Common.{◌≡◌, ◌≢◌, ◌∙◌, ◌≤◌, ◌<◌, ◌+◌, ◌/◌, ◌%◌, ℕ, zero, suc, List, [], ◌∷◌, ◌++◌, length, take, get_or, Option, Some, None, append_assoc, append-nil, length-append, refl, sym, ap, ap₂, subst, arith}
use Rattle.std.specs.Prelude.{slice_get, ◌*◌}
use Rattle.std.proofs.lemmas.Option.{none-some}
use Rattle.fip_base.specs.fip_language.Store.{Cell, Placed, PlacedInt, Bare, At, Parts, NoParts, MoreParts, word_of, words_of, places, places_of_all, one_at, uses, uses_of_all, count}
use Rattle.fip_base.specs.fip_language.Table.{Shape, Table, constructors}
use Rattle.cell_store.specs.Cells.{Cells, cell_at}
use Rattle.value_text.specs.Standing.{Stands, StandAll}
use Rattle.value_text.proofs.Printing.{odd_cell, past_types, past_is, index_is}
use Rattle.store_trees.specs.declared.trees.Tree.{Tree}
use Rattle.store_trees.specs.Added.{root_of, places_of, Adds}
use Rattle.store_trees.specs.Walked.{with_root, roots_of, Ahead, IsAhead, root, roots, AllStand, uses_ahead, cells_ahead, AreAhead, AddsAll}
use Rattle.fip_base.proofs.fip_language.Facts.{take_whole as take_all}

-- ---- trees ahead, one list after another

roots_join : (as' bs : List Ahead) → roots (as' ++ bs) ≡ roots as' ++ roots bs
roots_join [] bs = refl
roots_join (a ∷ as') bs = ap (λ ts. root a ∷ ts) (roots_join as' bs)

uses_join : (q : ℕ) (as' bs : List Ahead) → uses_ahead q (as' ++ bs) ≡ uses_ahead q as' + uses_ahead q bs
uses_join q [] bs = omega arith
uses_join q (a ∷ as') bs = let h = uses_join q as' bs in omega (arith, h)

cells_join : (as' bs : List Ahead) → cells_ahead (as' ++ bs) ≡ cells_ahead as' + cells_ahead bs
cells_join [] bs = omega arith
cells_join (a ∷ as') bs = let h = cells_join as' bs in omega (arith, h)

stand_join : (tb : Table) (cs : Cells) (as' bs : List Ahead) → AllStand tb cs as' → AllStand tb cs bs → AllStand tb cs (as' ++ bs)
stand_join tb cs [] bs h k = k
stand_join tb cs (a ∷ as') bs h k = (h.0, stand_join tb cs as' bs h.1 k)

count_one : (q : ℕ) (ts : List Tree) (t : Tree) → count q (places_of (ts ++ t ∷ [])) ≡ count q (places_of ts) + one_at q t.place
count_one q [] t = omega arith
count_one q (u ∷ ts) t = let h = count_one q ts t in omega (arith, h)

-- ---- the parts of a tree

-- a tree is ahead, or nothing of it is since it has no cell
pub record One (tb : Table) (cs : Cells) (ty : ℕ) (x : Placed) : Type 0 where
  pub list : List Ahead
  pub stand : AllStand tb cs list
  pub are : roots list ≡ with_root [] (root_of ty x)
  pub same : (q : ℕ) → uses_ahead q list ≡ uses q x
  pub size : cells_ahead list ≡ length (places x)

pub one : (tb : Table) (cs : Cells) (ty : ℕ) (x : Placed) → Stands tb cs ty x → One tb cs ty x
one tb cs zero (PlacedInt i) h = record { list = []; stand = tt; are = refl; same = λ q. refl; size = refl }
one tb cs zero (Bare c) h = absurd h
one tb cs zero (At p c xs) h = absurd h
one tb cs (suc t) (PlacedInt i) h = absurd h
one tb cs (suc t) (Bare c) h = record { list = []; stand = tt; are = refl; same = λ q. refl; size = refl }
one tb cs (suc t) (At p c xs) h = record {
  list = record { ty = suc t; place = p; constructor = c; fields = h.1.fields; parts = xs } ∷ [];
  stand = (record { cell = h.0; shape = h.1; there = h.2; types = refl; stand = h.3 }, tt);
  are = refl;
  same = λ q. omega arith;
  size = omega arith;
}

pub record Heads (tb : Table) (cs : Cells) (ks : List ℕ) (xs : Parts) : Type 0 where
  pub list : List Ahead
  pub stand : AllStand tb cs list
  pub are : roots list ≡ roots_of ks xs
  pub same : (q : ℕ) → uses_ahead q list ≡ uses_of_all q xs
  pub size : cells_ahead list ≡ length (places_of_all xs)

heads : (tb : Table) (cs : Cells) (ks : List ℕ) (xs : Parts) → StandAll tb cs ks xs → Heads tb cs ks xs
heads tb cs [] NoParts h = record { list = []; stand = tt; are = refl; same = λ q. refl; size = refl }
heads tb cs [] (MoreParts x xs) h = absurd h
heads tb cs (k ∷ ks) NoParts h = absurd h
heads tb cs (k ∷ ks) (MoreParts x xs) h =
    let o = one tb cs k x h.0 in
    let r = heads tb cs ks xs h.1 in
    record {
      list = o.list ++ r.list;
      stand = stand_join tb cs o.list r.list o.stand r.stand;
      are = roots_join o.list r.list ∙ ap₂ (λ ts us. ts ++ us) o.are r.are;
      same = λ q. uses_join q o.list r.list ∙ ap₂ (λ m n. m + n) (o.same q) (r.same q);
      size = cells_join o.list r.list ∙ ap₂ (λ m n. m + n) o.size r.size ∙ sym (length-append (places x) (places_of_all xs));
    }

with_root_on : (ts us : List Tree) (o : Option Tree) → ts ++ with_root us o ≡ with_root (ts ++ us) o
with_root_on ts us None = refl
with_root_on ts us (Some t) = sym (append_assoc ts us (t ∷ []))

-- field i of a cell
pub record FieldAt (tb : Table) (cs : Cells) (ks : List ℕ) (xs : Parts) (i : ℕ) : Type 0 where
  pub x : Placed
  pub stands : Stands tb cs (get_or ks i 0) x
  pub inside : i < length (words_of xs)
  pub word : slice_get (words_of xs) i ≡ Some (word_of x)
  pub more : roots_of (take (suc i) ks) xs ≡ with_root (roots_of (take i ks) xs) (root_of (get_or ks i 0) x)

pub field_at : (tb : Table) (cs : Cells) (ks : List ℕ) (xs : Parts) (i : ℕ) → StandAll tb cs ks xs → i < length ks → FieldAt tb cs ks xs i
field_at tb cs [] xs i h lt = absurd (omega (arith, lt))
field_at tb cs (k ∷ ks) NoParts i h lt = absurd h
field_at tb cs (k ∷ ks) (MoreParts x xs) zero h lt = record {
  x = x;
  stands = h.0;
  inside = omega arith;
  word = refl;
  more = append-nil (with_root [] (root_of k x));
}
field_at tb cs (k ∷ ks) (MoreParts x xs) (suc i) h lt =
    let f = field_at tb cs ks xs i h.1 (omega (arith, lt)) in
    let first = with_root [] (root_of k x) in
    record {
      x = f.x;
      stands = f.stands;
      inside = (let l = f.inside in omega (arith, l));
      word = f.word;
      more = ap (λ ts. first ++ ts) f.more ∙ with_root_on first (roots_of (take i ks) xs) (root_of (get_or ks i 0) f.x);
    }

-- ---- one turn after another

pub record Walking (tb : Table) (cs : Cells) (front : List Tree) (first : List Ahead) (next : ℕ) (list : List Tree) : Type 0 where
  pub seen : List Tree
  pub ahead : List Ahead
  pub are : list ≡ front ++ (seen ++ roots ahead)
  pub at : next ≡ length front + length seen
  pub stand : AllStand tb cs ahead
  pub same : (q : ℕ) → count q (places_of seen) + uses_ahead q ahead ≡ uses_ahead q first
  pub size : length seen + cells_ahead ahead ≡ cells_ahead first

pub walking_starts : (tb : Table) (cs : Cells) (front : List Tree) (first : List Ahead) (start : ℕ) (list : List Tree) → AreAhead tb cs front first start list → Walking tb cs front first start list
walking_starts tb cs front first start list h = record {
  seen = [];
  ahead = first;
  are = h.are;
  at = (let s = h.at in omega (arith, s));
  stand = h.stand;
  same = λ q. omega arith;
  size = omega arith;
}

at_append : (xs ys : List Tree) (i : ℕ) → slice_get (xs ++ ys) (length xs + i) ≡ slice_get ys i
at_append [] ys i = ap (λ n. slice_get ys n) (let z : 0 + i ≡ i = omega arith in z)
at_append (x ∷ xs) ys i = ap (λ n. slice_get (x ∷ (xs ++ ys)) n) (let z : suc (length xs) + i ≡ suc (length xs + i) = omega arith in z) ∙ at_append xs ys i

there : (front seen ts : List Tree) → slice_get (front ++ (seen ++ ts)) (length front + length seen) ≡ slice_get ts 0
there front seen ts =
    at_append front (seen ++ ts) (length seen) ∙ ap (λ n. slice_get (seen ++ ts) n) (let z : length seen ≡ length seen + 0 = omega arith in z) ∙ at_append seen ts 0

-- the tree that is next is the first ahead
pub record IsNext (ahead : List Ahead) (t : Tree) : Type 0 where
  pub first : Ahead
  pub rest : List Ahead
  pub are : ahead ≡ first ∷ rest
  pub is : root first ≡ t

next_of : (ahead : List Ahead) (t : Tree) → slice_get (roots ahead) 0 ≡ Some t → IsNext ahead t
next_of [] t e = absurd (none-some t e)
next_of (a ∷ rest) t e = record { first = a; rest = rest; are = refl; is = (let s : root a ≡ t = cc in s) }

pub next_is : (tb : Table) (cs : Cells) (front : List Tree) (first : List Ahead) (next : ℕ) (list : List Tree) (t : Tree) (w : Walking tb cs front first next list) → slice_get list next ≡ Some t → IsNext w.ahead t
next_is tb cs front first next list t w e =
    next_of w.ahead t (sym (there front w.seen (roots w.ahead)) ∙ ap (λ n. slice_get (front ++ (w.seen ++ roots w.ahead)) n) (sym w.at) ∙ ap (λ ts. slice_get ts next) (sym w.are) ∙ e)

regroup : (f s : List Tree) (t : Tree) (r n : List Tree) → (f ++ (s ++ t ∷ r)) ++ n ≡ f ++ ((s ++ t ∷ []) ++ (r ++ n))
regroup f s t r n =
    append_assoc f (s ++ t ∷ r) n ∙ ap (λ x. f ++ x) (append_assoc s (t ∷ r) n ∙ sym (append_assoc s (t ∷ []) (r ++ n)))

pub walking_on : (tb : Table) (cs : Cells) (front : List Tree) (first : List Ahead) (next : ℕ) (list longer : List Tree) (t : Tree) (w : Walking tb cs front first next list) (n : IsNext w.ahead t) → longer ≡ list ++ roots_of n.first.fields n.first.parts → Walking tb cs front first (next + 1) longer
walking_on tb cs front first next list longer t w n e =
    let a = n.first in
    let all = subst (AllStand tb cs) n.are w.stand in
    let h = heads tb cs a.fields a.parts all.0.stand in
    let before : list ≡ front ++ (w.seen ++ root a ∷ roots n.rest) = w.are ∙ ap (λ l. front ++ (w.seen ++ roots l)) n.are in
    let following : roots n.rest ++ roots_of a.fields a.parts ≡ roots (n.rest ++ h.list) = ap (λ ts. roots n.rest ++ ts) (sym h.are) ∙ sym (roots_join n.rest h.list) in
    record {
      seen = w.seen ++ root a ∷ [];
      ahead = n.rest ++ h.list;
      are = e ∙ ap (λ l. l ++ roots_of a.fields a.parts) before ∙ regroup front w.seen (root a) (roots n.rest) (roots_of a.fields a.parts) ∙ ap (λ ts. front ++ ((w.seen ++ root a ∷ []) ++ ts)) following;
      at = (let s = w.at in let l = length-append w.seen (root a ∷ []) in omega (arith, s, l));
      stand = stand_join tb cs n.rest h.list all.1 h.stand;
      same = λ q. (
          let c = count_one q w.seen (root a) in
          let j = uses_join q n.rest h.list in
          let s = h.same q in
          let o : count q (places_of w.seen) + uses_ahead q (a ∷ n.rest) ≡ uses_ahead q first = ap (λ l. count q (places_of w.seen) + uses_ahead q l) (sym n.are) ∙ w.same q in
          omega (arith, c, j, s, o));
      size = (
          let l = length-append w.seen (root a ∷ []) in
          let j = cells_join n.rest h.list in
          let s = h.size in
          let o : length w.seen + cells_ahead (a ∷ n.rest) ≡ cells_ahead first = ap (λ l. length w.seen + cells_ahead l) (sym n.are) ∙ w.size in
          omega (arith, l, j, s, o));
    }

-- ---- the end

roots_few : (ahead : List Ahead) → length (roots ahead) ≤ cells_ahead ahead
roots_few [] = omega arith
roots_few (a ∷ ahead) = let h = roots_few ahead in omega (arith, h)

none_ahead : (ahead : List Ahead) → length (roots ahead) ≤ 0 → ahead ≡ []
none_ahead [] le = refl
none_ahead (a ∷ ahead) le = absurd (omega (arith, le))

long : (tb : Table) (cs : Cells) (front : List Tree) (first : List Ahead) (next : ℕ) (list : List Tree) (w : Walking tb cs front first next list) → length list ≡ length front + (length w.seen + length (roots w.ahead))
long tb cs front first next list w = ap (λ ts. length ts) w.are ∙ length-append front (w.seen ++ roots w.ahead) ∙ ap (λ n. length front + n) (length-append w.seen (roots w.ahead))

pub walking_ends : (tb : Table) (cs : Cells) (front : List Tree) (first : List Ahead) (next : ℕ) (list : List Tree) → Walking tb cs front first next list → length list ≤ next → AddsAll front list first
walking_ends tb cs front first next list w le =
    let all = long tb cs front first next list w in
    let at = w.at in
    let none = none_ahead w.ahead (omega (arith, all, at, le)) in
    record {
      added = w.seen;
      are = w.are ∙ ap (λ l. front ++ (w.seen ++ roots l)) none ∙ ap (λ ts. front ++ ts) (append-nil w.seen);
      each = λ q. (
          let o : count q (places_of w.seen) + uses_ahead q [] ≡ uses_ahead q first = ap (λ l. count q (places_of w.seen) + uses_ahead q l) (sym none) ∙ w.same q in
          omega (arith, o));
    }

pub walking_many : (tb : Table) (cs : Cells) (front : List Tree) (first : List Ahead) (next start n : ℕ) (list : List Tree) → Walking tb cs front first next list → start ≡ length front → n < length list → n < start + cells_ahead first
walking_many tb cs front first next start n list w s lt =
    let all = long tb cs front first next list w in
    let few = roots_few w.ahead in
    let size = w.size in
    omega (arith, all, few, size, s, lt)

-- ---- a word's tree

pub nothing_added : (tb : Table) (cs : Cells) (ty : ℕ) (x : Placed) (list : List Tree) → Stands tb cs ty x → root_of ty x ≡ None → Adds list list x
nothing_added tb cs ty (PlacedInt i) list h e = record { added = []; are = sym (append-nil list); each = λ q. refl }
nothing_added tb cs ty (Bare c) list h e = record { added = []; are = sym (append-nil list); each = λ q. refl }
nothing_added tb cs ty (At p c xs) list h e = absurd (none-some (record { ty = ty; place = p }) (sym e))

pub one_ahead : (tb : Table) (cs : Cells) (ty : ℕ) (x : Placed) (t : Tree) (list longer : List Tree) (start : ℕ) (o : One tb cs ty x) → root_of ty x ≡ Some t → start ≡ length list → longer ≡ list ++ t ∷ [] → AreAhead tb cs list o.list start longer
one_ahead tb cs ty x t list longer start o e s l = record {
  are = l ∙ ap (λ ts. list ++ ts) (sym (o.are ∙ ap (with_root []) e));
  at = s;
  stand = o.stand;
}

pub all_added : (tb : Table) (cs : Cells) (ty : ℕ) (x : Placed) (list longer : List Tree) (o : One tb cs ty x) → AddsAll list longer o.list → Adds list longer x
all_added tb cs ty x list longer o h = record { added = h.added; are = h.are; each = λ q. h.each q ∙ o.same q }

-- ---- the root of a word's tree

pub no_int_root : (tb : Table) (cs : Cells) (ty : ℕ) (x : Placed) → ty ≡ 0 → Stands tb cs ty x → None ≡ root_of ty x
no_int_root tb cs zero (PlacedInt i) e h = refl
no_int_root tb cs zero (Bare c) e h = absurd h
no_int_root tb cs zero (At p c xs) e h = absurd h
no_int_root tb cs (suc t) x e h = absurd (omega (arith, e))

pub no_even_root : (tb : Table) (cs : Cells) (ty w : ℕ) (x : Placed) → w % 2 ≡ 0 → Stands tb cs ty x → word_of x ≡ w → None ≡ root_of ty x
no_even_root tb cs ty w (PlacedInt i) e h q = refl
no_even_root tb cs ty w (Bare c) e h q = refl
no_even_root tb cs ty w (At p c xs) e h q = absurd (let k : 2 * p + 1 ≡ w = q in omega (arith, k, e))

-- a word that names a cell
pub record IsRoot (cs : Cells) (ty w : ℕ) (x : Placed) : Type 0 where
  pub root : root_of ty x ≡ Some (record { ty = ty; place = w / 2 })
  pub within : w / 2 < length cs
  pub there : cell_at cs (w / 2) ≢ None

pub odd_root : (tb : Table) (cs : Cells) (ty w : ℕ) (x : Placed) → 0 < ty → w % 2 ≢ 0 → Stands tb cs ty x → word_of x ≡ w → IsRoot cs ty w x
odd_root tb cs ty w x z e h q = let o = odd_cell tb cs ty w x z e h q in record { root = ap (root_of ty) o.3; within = o.4; there = o.5 }

-- ---- what the calls on cells answer

pub no_fields_past : (tb : Table) (ty c : ℕ) (s : Shape) → length tb < ty → slice_get (constructors tb ty) c ≡ Some s → ⊥
no_fields_past tb ty c s lt e = none-some s (sym (past_types tb ty c lt) ∙ e)

pub no_fields_after : (ss : List Shape) (c : ℕ) (s : Shape) → length ss ≤ c → slice_get ss c ≡ Some s → ⊥
no_fields_after ss c s le e = none-some s (sym (past_is ss c le) ∙ e)

pub fields_there : (ss : List Shape) (c : ℕ) (r s : Shape) → c < length ss → r ≡ get_or ss c r → slice_get ss c ≡ Some s → r.fields ≡ s.fields
fields_there ss c r s lt is e = let z : Some r ≡ Some s = sym (index_is ss c r lt is) ∙ e in let y : r ≡ s = cc in ap (λ (x : Shape). x.fields) y

pub some : (n : ℕ) → n ≢ 0 → 0 < n
some zero h = absurd (h refl)
some (suc n) h = omega arith

-- ---- the fields of a cell

pub known_cell : (tb : Table) (cs : Cells) (a : Ahead) (t : Tree) → IsAhead tb cs a → root a ≡ t → cell_at cs t.place ≡ Some (record { tag = a.constructor; fields = words_of a.parts })
known_cell tb cs a t h is = ap (λ (u : Tree). cell_at cs u.place) (sym is) ∙ h.cell

pub types_are : (tb : Table) (cs : Cells) (a : Ahead) (t : Tree) (tag : ℕ) (types : List ℕ) (h : IsAhead tb cs a) → root a ≡ t → ((c : Cell) → cell_at cs t.place ≡ Some c → tag ≡ c.tag) → ((s : Shape) → slice_get (constructors tb t.ty) tag ≡ Some s → types ≡ s.fields) → types ≡ a.fields
types_are tb cs a t tag types h is tagged fields =
    let same : tag ≡ a.constructor = tagged (record { tag = a.constructor; fields = words_of a.parts }) (known_cell tb cs a t h is) in
    let there = ap (λ (u : Tree). slice_get (constructors tb u.ty) tag) (sym is) ∙ ap (λ n. slice_get (constructors tb a.ty) n) same ∙ h.there in
    fields h.shape there ∙ h.types

-- one field more is added
pub field_added : (tb : Table) (cs : Cells) (a : Ahead) (t : Tree) (types : List ℕ) (i ty : ℕ) (word : Option ℕ) (before now next : List Tree) (h : IsAhead tb cs a) → root a ≡ t → types ≡ a.fields → i < length types → ty ≡ get_or types i 0 → ((c : Cell) → cell_at cs t.place ≡ Some c → i < length c.fields → word ≡ slice_get c.fields i) → now ≡ before ++ roots_of (take i a.fields) a.parts → ((x : Placed) → Stands tb cs ty x → word ≡ Some (word_of x) → next ≡ with_root now (root_of ty x)) → next ≡ before ++ roots_of (take (i + 1) a.fields) a.parts
field_added tb cs a t types i ty word before now next h is same lt item field inv added =
    let f = field_at tb cs a.fields a.parts i h.stand (subst (λ ks. i < length ks) same lt) in
    let kind : ty ≡ get_or a.fields i 0 = item ∙ ap (λ ks. get_or ks i 0) same in
    let is_word : word ≡ Some (word_of f.x) = field (record { tag = a.constructor; fields = words_of a.parts }) (known_cell tb cs a t h is) f.inside ∙ f.word in
    let first = roots_of (take i a.fields) a.parts in
    let step : next ≡ with_root now (root_of ty f.x) = added f.x (subst (λ k. Stands tb cs k f.x) (sym kind) f.stands) is_word in
    step ∙ ap (λ l. with_root l (root_of ty f.x)) inv ∙ sym (with_root_on before first (root_of ty f.x))
    ∙ ap (λ ts. before ++ ts) (ap (λ k. with_root first (root_of k f.x)) kind ∙ sym f.more ∙ ap (λ n. roots_of (take n a.fields) a.parts) (let z : suc i ≡ i + 1 = omega arith in z))

pub all_fields : (a : Ahead) (types : List ℕ) (i : ℕ) (before now : List Tree) → types ≡ a.fields → length types ≤ i → now ≡ before ++ roots_of (take i a.fields) a.parts → now ≡ before ++ roots_of a.fields a.parts
all_fields a types i before now same le inv = inv ∙ ap (λ ks. before ++ roots_of ks a.parts) (take_all i a.fields (subst (λ ks. length ks ≤ i) same le))

-- ---- turns

pub none_past : (ts : List Tree) (i : ℕ) → None ≡ slice_get ts i → length ts ≤ i
none_past [] i e = omega arith
none_past (t ∷ ts) zero e = absurd (none-some t e)
none_past (t ∷ ts) (suc i) e = let h = none_past ts i e in omega (arith, h)

pub next_stands : (tb : Table) (cs : Cells) (front : List Tree) (first : List Ahead) (next : ℕ) (list : List Tree) (t : Tree) (w : Walking tb cs front first next list) (n : IsNext w.ahead t) → IsAhead tb cs n.first
next_stands tb cs front first next list t w n = (subst (AllStand tb cs) n.are w.stand).0
