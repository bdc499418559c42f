-- What the printer does, task by task.
use Rattle.std.proofs.Common.{◌≡◌, ◌≢◌, ℕ, zero, suc, ◌+◌, ◌-◌, ◌*◌, ◌<◌, ◌≤◌, ◌/◌, ◌%◌, List, [], ◌∷◌, ◌++◌, length, take, drop, get_or, Option, Some, None, refl, sym, ap, ap₂, ◌∙◌, subst, append_assoc, arith, length-drop}
use Rattle.std.specs.Prelude.{slice_set, ◌==◌, Bool, false, ℤ, pos, negsuc, slice_get, FitsSigned}
use Rattle.std.specs.Int.{w64}
use Rattle.std.specs.Fmt.{signed_decimal}
use Rattle.std.proofs.lemmas.List.{append-nil}
use Rattle.fip_language.specs.Values.{Value, Int, Node, Values, End, More}
use Rattle.fip_language.specs.Table.{Shape, Table, shapes, constructors, HasType, HaveTypes}
use Rattle.fip_language.specs.SoundTable.{IsSoundTable}
use Rattle.fip_language.specs.Store.{Cell, Placed, PlacedInt, Bare, At, Parts, NoParts, MoreParts, int_word, value_of, values_of, word_of, words_of}
use Rattle.fip_language.specs.PrintedText.{shape_at, printed, printed_fields, printed_more}
use Rattle.fip_language.specs.ValueText.{SpellsValues}
use Rattle.cell_store.specs.Cells.{Cells, cell_at}
use Rattle.value_text.proofs.Reread.{shape_is}
use Rattle.value_text.proofs.Tables.{is_table}
use Rattle.value_text.proofs.Exact.{printed_reads}
use Rattle.value_text.specs.declared.print.Row.{Row}
use Rattle.value_text.specs.Standing.{Stands, StandAll}
use Rattle.value_text.specs.Printing.{Task, Whole, Fields, Close, fields_of, closes, row_tasks, last_first, printed_tail, AreLast, Prints, Printing}
use Rattle.fip_language.proofs.Facts.{drop_cons, none_some as none-some-is}
pub use Rattle.fip_language.proofs.Facts.{get_at as index_is, get_none as past_is, nonempty as some_rows}

closes_on : (n : ℕ) (ts us : List Task) → closes n ts ++ us ≡ closes n (ts ++ us)
closes_on zero ts us = refl
closes_on (suc n) ts us = ap (λ l. Close ∷ l) (closes_on n ts us)

row_on : (r : Row) (ts us : List Task) → row_tasks r ts ++ us ≡ row_tasks r (ts ++ us)
row_on r ts us = ap (λ l. fields_of r.types.now r.place ∷ l) (closes_on r.following ts us)

pub last_push : (rs : List Row) (r : Row) → last_first (rs ++ r ∷ []) ≡ row_tasks r (last_first rs)
unfolding last_first
last_push [] r = refl
last_push (u ∷ rs) r = ap (λ l. l ++ row_tasks u []) (last_push rs r) ∙ row_on r (last_first rs) (row_tasks u [])

pub last_empty : last_first [] ≡ []
unfolding last_first
last_empty = refl

-- the last row is the first task
pub top_first : (rs : List Row) (n : ℕ) (r : Row) → suc n ≡ length rs → r ≡ get_or rs n r → last_first rs ≡ row_tasks r (last_first (take n rs))
unfolding last_first
top_first [] n r l e = absurd (omega (arith, l))
top_first (u ∷ []) zero r l e = ap (λ u. row_tasks u []) (sym e)
top_first (u ∷ []) (suc n) r l e = absurd (omega (arith, l))
top_first (u ∷ v ∷ rs) zero r l e = absurd (omega (arith, l))
top_first (u ∷ v ∷ rs) (suc n) r l e = ap (λ ts. ts ++ row_tasks u []) (top_first (v ∷ rs) n r (omega (arith, l)) e) ∙ row_on r (last_first (take n (v ∷ rs))) (row_tasks u [])

pub set_first : (rs : List Row) (n : ℕ) (r : Row) → suc n ≡ length rs → last_first (slice_set rs n r) ≡ row_tasks r (last_first (take n rs))
unfolding last_first
set_first [] n r l = absurd (omega (arith, l))
set_first (u ∷ []) zero r l = refl
set_first (u ∷ []) (suc n) r l = absurd (omega (arith, l))
set_first (u ∷ v ∷ rs) zero r l = absurd (omega (arith, l))
set_first (u ∷ v ∷ rs) (suc n) r l = ap (λ ts. ts ++ row_tasks u []) (set_first (v ∷ rs) n r (omega (arith, l))) ∙ row_on r (last_first (take n (v ∷ rs))) (row_tasks u [])

pub no_fields : (ks : List ℕ) (p : ℕ) → length ks ≡ 0 → fields_of ks p ≡ Close
no_fields [] p z = refl
no_fields (k ∷ ks) p z = absurd (omega (arith, z))

pub first_task : (t u : Task) (ts us : List Task) → t ∷ ts ≡ u ∷ us → t ≡ u
first_task t u ts us e = cc

-- a row that keeps its place while its fields become fewer
pub same_row : (ks js rest : List ℕ) (p q : ℕ) (ts us : List Task) → 0 < length ks → fields_of ks p ∷ ts ≡ fields_of js q ∷ us → fields_of rest q ∷ us ≡ fields_of rest p ∷ ts
same_row [] js rest p q ts us l e = absurd (omega (arith, l))
same_row (k ∷ ks) [] rest p q ts us l e = cc
same_row (k ∷ ks) (j ∷ js) rest p q ts us l e =
    let place : q ≡ p = cc in
    let more : us ≡ ts = cc in
    ap₂ (λ (q : ℕ) (us : List Task). fields_of rest q ∷ us) place more

-- a row of which only the ) is left, and one more after it
pub closed_row : (rs : List Row) (n : ℕ) (r : Row) → suc n ≡ length rs → r ≡ get_or rs n r → length r.types.now ≡ 0 → last_first rs ≡ closes (suc r.following) (last_first (take n rs))
closed_row rs n r l e none = top_first rs n r l e ∙ ap (λ t. t ∷ closes r.following (last_first (take n rs))) (no_fields r.types.now r.place none)

pub none_left : (rs : List Row) → length rs ≡ 0 → last_first rs ≡ []
none_left [] e = last_empty
none_left (r ∷ rs) e = absurd (omega arith)

-- an int's bits are its own
pub bits_same : (i j : ℤ) → FitsSigned w64 i → FitsSigned w64 j → int_word i ≡ int_word j → i ≡ j
bits_same (pos n) (pos m) f g e = ap pos e
bits_same (pos n) (negsuc m) f g e = absurd (omega (arith, f, g, e))
bits_same (negsuc n) (pos m) f g e = absurd (omega (arith, f, g, e))
bits_same (negsuc n) (negsuc m) f g e = let z : n ≡ m = omega (arith, f, g, e) in ap negsuc z

pub shapes_past : (tb : Table) (t : ℕ) → length tb ≤ t → shapes tb t ≡ []
shapes_past [] t l = refl
shapes_past (row ∷ rows) zero l = absurd (omega arith)
shapes_past (row ∷ rows) (suc t) l = shapes_past rows t (omega arith)

pub past_types : (tb : Table) (ty tag : ℕ) → length tb < ty → slice_get (constructors tb ty) tag ≡ None
past_types tb zero tag l = refl
past_types tb (suc t) tag l = ap (λ ss. slice_get ss tag) (shapes_past tb t (omega arith))

-- trees have the types that they stand for
mutual
  pub stands_type : (tb : Table) (cs : Cells) (k : ℕ) (x : Placed) → Stands tb cs k x → HasType tb k (value_of x)
  stands_type tb cs zero (PlacedInt i) s = s
  stands_type tb cs zero (Bare c) s = s
  stands_type tb cs zero (At p c xs) s = s
  stands_type tb cs (suc t) (PlacedInt i) s = s
  stands_type tb cs (suc t) (Bare c) s = (s.0, s.1, subst (λ ks. HaveTypes tb ks End) (sym s.2) tt)
  stands_type tb cs (suc t) (At p c xs) s = (s.1, s.2, stand_types tb cs s.1.fields xs s.3)

  pub stand_types : (tb : Table) (cs : Cells) (ks : List ℕ) (xs : Parts) → StandAll tb cs ks xs → HaveTypes tb ks (values_of xs)
  stand_types tb cs [] NoParts s = tt
  stand_types tb cs [] (MoreParts x xs) s = s
  stand_types tb cs (k ∷ ks) NoParts s = s
  stand_types tb cs (k ∷ ks) (MoreParts x xs) s = (stands_type tb cs k x s.0, stand_types tb cs ks xs s.1)

pub stand_length : (tb : Table) (cs : Cells) (ks : List ℕ) (xs : Parts) → StandAll tb cs ks xs → length ks ≡ length (words_of xs)
stand_length tb cs [] NoParts h = refl
stand_length tb cs [] (MoreParts x xs) h = absurd h
stand_length tb cs (k ∷ ks) NoParts h = absurd h
stand_length tb cs (k ∷ ks) (MoreParts x xs) h = ap suc (stand_length tb cs ks xs h.1)

pub last_fewer : (tb : Table) (cs : Cells) (k : ℕ) (ks : List ℕ) (p : ℕ) (c : Cell) (x : Placed) (xs : Parts) → AreLast tb cs (k ∷ ks) p c (MoreParts x xs) → (slice_get c.fields (length c.fields - suc (length ks)) ≡ Some (word_of x)) × AreLast tb cs ks p c xs × (suc (length ks) ≤ length c.fields)
last_fewer tb cs k ks p c x xs h =
    let d = drop_cons (length c.fields - suc (length ks)) c.fields (word_of x) (words_of xs) h.words in
    let lt = d.2 in
    let n : length (drop (length c.fields - suc (length ks)) c.fields) ≡ suc (length (words_of xs)) = ap length h.words in
    let l = length-drop (length c.fields - suc (length ks)) c.fields in
    let m : length ks ≡ length (words_of xs) = stand_length tb cs ks xs (h.stand).1 in
    let le : suc (length ks) ≤ length c.fields = omega (arith, n, l, m, lt) in
    let e : length c.fields - length ks ≡ suc (length c.fields - suc (length ks)) = omega (arith, le) in
    (d.0, record { there = h.there; stand = (h.stand).1; words = ap (λ n. drop n c.fields) e ∙ d.1 }, le)

pub last_within : (tb : Table) (cs : Cells) (types : List ℕ) (p : ℕ) (c : Cell) (xs : Parts) → 0 < length types → AreLast tb cs types p c xs → length types ≤ length c.fields
last_within tb cs [] p c xs l h = absurd (omega arith)
last_within tb cs (k ∷ ks) p c NoParts l h = absurd h.stand
last_within tb cs (k ∷ ks) p c (MoreParts x xs) l h = (last_fewer tb cs k ks p c x xs h).2

-- fields that are left, or the )
fields_print : (tb : Table) (cs : Cells) (types : List ℕ) (p : ℕ) (c : Cell) (xs : Parts) (ts : List Task) (rest : List ℕ) → AreLast tb cs types p c xs → Prints tb cs ts rest → Prints tb cs (fields_of types p ∷ ts) (printed_more tb types (values_of xs) rest)
fields_print tb cs [] p c xs ts rest h pr = (rest, refl, pr)
fields_print tb cs (k ∷ ks) p c xs ts rest h pr = (c, xs, h, rest, refl, pr)

tail_by : (tb : Table) (cs : Cells) (k : ℕ) (r : List ℕ) (p : ℕ) (c : Cell) (xs : Parts) (w : ℕ) (ts ts' : List Task) (rest : List ℕ) → AreLast tb cs (k ∷ r) p c xs → Some w ≡ slice_get c.fields (length c.fields - suc (length r)) → ts' ≡ Whole k w ∷ fields_of r p ∷ ts → Prints tb cs ts rest → Prints tb cs ts' (printed_tail tb (k ∷ r) (values_of xs) rest)
tail_by tb cs k r p c NoParts w ts ts' rest h f e pr = absurd h.stand
tail_by tb cs k r p c (MoreParts x xs) w ts ts' rest h f e pr =
    let d = last_fewer tb cs k r p c x xs h in
    let same : word_of x ≡ w = let q = sym d.0 ∙ sym f in cc in
    let text = printed tb k (value_of x) (printed_more tb r (values_of xs) rest) in
    subst (λ ts. Prints tb cs ts text) (sym e) (x, (h.stand).0, same, printed_more tb r (values_of xs) rest, refl, fields_print tb cs r p c xs ts rest d.1 pr)

pub tail_prints : (tb : Table) (cs : Cells) (types : List ℕ) (k : ℕ) (r : List ℕ) (p : ℕ) (c : Cell) (xs : Parts) (w : ℕ) (ts ts' : List Task) (rest : List ℕ) → types ≡ k ∷ r → AreLast tb cs types p c xs → ((c : Cell) → cell_at cs p ≡ Some c → 0 < length types → length types ≤ length c.fields → Some w ≡ slice_get c.fields (length c.fields - length types)) → ts' ≡ Whole k w ∷ fields_of r p ∷ ts → Prints tb cs ts rest → Prints tb cs ts' (printed_tail tb types (values_of xs) rest)
tail_prints tb cs types k r p c xs w ts ts' rest t h f e pr =
    let l : length types ≡ suc (length r) = ap length t in
    let some : 0 < length types = omega (arith, l) in
    let g : Some w ≡ slice_get c.fields (length c.fields - suc (length r)) = f c h.there some (last_within tb cs types p c xs some h) ∙ ap (λ n. slice_get c.fields (length c.fields - n)) l in
    subst (λ types. Prints tb cs ts' (printed_tail tb types (values_of xs) rest)) (sym t) (tail_by tb cs k r p c xs w ts ts' rest (subst (λ t. AreLast tb cs t p c xs) t h) g e pr)

-- a field that is there is found
pub no_field : (tb : Table) (cs : Cells) (types : List ℕ) (k : ℕ) (ks : List ℕ) (p : ℕ) (c : Cell) (xs : Parts) → types ≡ k ∷ ks → AreLast tb cs types p c xs → ((c : Cell) → cell_at cs p ≡ Some c → 0 < length types → length types ≤ length c.fields → None ≡ slice_get c.fields (length c.fields - length types)) → ⊥
no_field tb cs types k ks p c xs t h f = by_parts xs (subst (λ t. AreLast tb cs t p c xs) t h) where
  l : length types ≡ suc (length ks)
  l = ap length t

  some : 0 < length types
  some = let n = l in omega (arith, n)

  by_parts : (ys : Parts) → AreLast tb cs (k ∷ ks) p c ys → ⊥
  by_parts NoParts h' = h'.stand
  by_parts (MoreParts y ys) h' = none-some-is (word_of y) (f c h.there some (last_within tb cs types p c xs some h) ∙ ap (λ n. slice_get c.fields (length c.fields - n)) l ∙ (last_fewer tb cs k ks p c y ys h').0)

pub tail_of : (tb : Table) (types : List ℕ) (xs : Parts) (cs : Cells) (rest : List ℕ) → 0 < length types → StandAll tb cs types xs → (printed_more tb types (values_of xs) rest ≡ 44 ∷ 32 ∷ printed_tail tb types (values_of xs) rest) × (printed_fields tb types (values_of xs) rest ≡ 40 ∷ printed_tail tb types (values_of xs) rest)
tail_of tb [] xs cs rest l h = absurd (omega arith)
tail_of tb (k ∷ ks) NoParts cs rest l h = absurd h
tail_of tb (k ∷ ks) (MoreParts x xs) cs rest l h = (refl, refl)

-- further fields of a cell
pub more_prints : (tb : Table) (cs : Cells) (types : List ℕ) (p : ℕ) (c : Cell) (xs : Parts) (ts' : List Task) (out out' rest : List ℕ) → 0 < length types → AreLast tb cs types p c xs → Prints tb cs ts' (printed_tail tb types (values_of xs) rest) → out' ≡ out ++ 44 ∷ 32 ∷ [] → Printing tb cs ts' out' (out ++ printed_more tb types (values_of xs) rest)
more_prints tb cs types p c xs ts' out out' rest l h pr o =
    let text = printed_tail tb types (values_of xs) rest in
    (text, pr, ap (λ o. o ++ text) o ∙ append_assoc out (44 ∷ 32 ∷ []) text ∙ ap (λ x. out ++ x) (sym (tail_of tb types xs cs rest l h.stand).0))

pub not_there : (cs : Cells) (p : ℕ) (c : Cell) → cell_at cs p ≡ Some c → cell_at cs p ≢ None
not_there cs p c e n = none-some-is c (sym n ∙ e)

-- a cell that stands for a tree
pub record IsNode (tb : Table) (cs : Cells) (ty p c : ℕ) (xs : Parts) : Type 0 where
  pub s : Shape
  pub cell : cell_at cs p ≡ Some (record { tag = c; fields = words_of xs })
  pub shape : slice_get (constructors tb ty) c ≡ Some s
  pub stand : StandAll tb cs s.fields xs
  pub text : (rest : List ℕ) → printed tb ty (Node c (values_of xs)) rest ≡ s.name ++ printed_fields tb s.fields (values_of xs) rest

pub text_of : (tb : Table) (t c : ℕ) (s : Shape) (vs : Values) (rest : List ℕ) → slice_get (shapes tb t) c ≡ Some s → printed tb (suc t) (Node c vs) rest ≡ s.name ++ printed_fields tb s.fields vs rest
text_of tb t c s vs rest e = ap (λ (s : Shape). s.name ++ printed_fields tb s.fields vs rest) (shape_is (shapes tb t) c s e)

pub node_of : (tb : Table) (cs : Cells) (ty p c : ℕ) (xs : Parts) → Stands tb cs ty (At p c xs) → IsNode tb cs ty p c xs
node_of tb cs zero p c xs h = absurd h
node_of tb cs (suc t) p c xs h = record { s = h.1; cell = h.0; shape = h.2; stand = h.3; text = λ rest. text_of tb t c h.1 (values_of xs) rest h.2 }

pub node_last : (tb : Table) (cs : Cells) (ty p c : ℕ) (xs : Parts) (h : IsNode tb cs ty p c xs) → AreLast tb cs (h.s).fields p (record { tag = c; fields = words_of xs }) xs
node_last tb cs ty p c xs h =
    let n = stand_length tb cs (h.s).fields xs h.stand in
    let z : length (words_of xs) - length (h.s).fields ≡ 0 = omega (arith, n) in
    record { there = h.cell; stand = h.stand; words = ap (λ n. drop n (words_of xs)) z }

same_shape : (s r : Shape) (o : Option Shape) → o ≡ Some s → o ≡ Some r → r ≡ s
same_shape s r o e f = let z = sym f ∙ e in cc

-- a cell whose constructor is there
pub node_none : (tb : Table) (cs : Cells) (ty p c tag : ℕ) (xs : Parts) → IsNode tb cs ty p c xs → tag ≡ c → slice_get (constructors tb ty) tag ≡ None → ⊥
node_none tb cs ty p c tag xs h is e = none-some-is h.s (sym e ∙ ap (slice_get (constructors tb ty)) is ∙ h.shape)

pub node_shape : (tb : Table) (cs : Cells) (ty p c tag : ℕ) (xs : Parts) (h : IsNode tb cs ty p c xs) (r : Shape) → tag ≡ c → slice_get (constructors tb ty) tag ≡ Some r → r ≡ h.s
node_shape tb cs ty p c tag xs h r is e = same_shape h.s r (slice_get (constructors tb ty) c) h.shape (sym (ap (slice_get (constructors tb ty)) is) ∙ e)

pub bare_node : (tb : Table) (cs : Cells) (ty p c : ℕ) (xs : Parts) (h : IsNode tb cs ty p c xs) (r : Shape) (ts : List Task) (out out' rest : List ℕ) → r ≡ h.s → length r.fields ≡ 0 → out' ≡ out ++ r.name → Prints tb cs ts rest → Printing tb cs ts out' (out ++ printed tb ty (Node c (values_of xs)) rest)
bare_node tb cs ty p c xs h r ts out out' rest is l o pr =
    (rest, pr, ap (λ o. o ++ rest) (o ∙ ap (λ (s : Shape). out ++ s.name) is) ∙ append_assoc out (h.s).name rest ∙ ap (λ x. out ++ x) (sym (h.text rest ∙ ap (λ x. (h.s).name ++ x) (none (h.s).fields (sym (ap (λ (s : Shape). length s.fields) is) ∙ l))))) where
      none : (ks : List ℕ) → length ks ≡ 0 → printed_fields tb ks (values_of xs) rest ≡ rest
      none [] e = refl
      none (k ∷ ks) e = absurd (omega arith)

pub cell_node : (tb : Table) (cs : Cells) (ty p c : ℕ) (xs : Parts) (h : IsNode tb cs ty p c xs) (r : Shape) (ts' : List Task) (out out' rest : List ℕ) → r ≡ h.s → 0 < length r.fields → out' ≡ (out ++ r.name) ++ 40 ∷ [] → Prints tb cs ts' (printed_tail tb r.fields (values_of xs) rest) → Printing tb cs ts' out' (out ++ printed tb ty (Node c (values_of xs)) rest)
cell_node tb cs ty p c xs h r ts' out out' rest is l o pr =
    let text = printed_tail tb (h.s).fields (values_of xs) rest in
    let some : 0 < length (h.s).fields = subst (λ (s : Shape). 0 < length s.fields) is l in
    let tail = (tail_of tb (h.s).fields xs cs rest some h.stand).1 in (
      text,
      subst (λ (s : Shape). Prints tb cs ts' (printed_tail tb s.fields (values_of xs) rest)) is pr,
      ap (λ o. o ++ text) (o ∙ ap (λ (s : Shape). (out ++ s.name) ++ 40 ∷ []) is) ∙ append_assoc (out ++ (h.s).name) (40 ∷ []) text ∙ append_assoc out (h.s).name (40 ∷ text) ∙ ap (λ x. out ++ x) (sym (h.text rest ∙ ap (λ x. (h.s).name ++ x) tail)),
    )

-- what an even word stands for, and an odd one
pub even_bare : (tb : Table) (cs : Cells) (ty w : ℕ) (x : Placed) → 0 < ty → w % 2 ≡ 0 → Stands tb cs ty x → word_of x ≡ w → (s : Shape) × (slice_get (constructors tb ty) (w / 2) ≡ Some s) × ((rest : List ℕ) → printed tb ty (value_of x) rest ≡ s.name ++ rest)
even_bare tb cs zero w x z e h q = absurd (omega (arith, z))
even_bare tb cs (suc t) w (PlacedInt i) z e h q = absurd h
even_bare tb cs (suc t) w (Bare c) z e h q =
    let n : c ≡ w / 2 = let k : 2 * c ≡ w = q in omega (arith, k) in
    (h.0, ap (slice_get (shapes tb t)) (sym n) ∙ h.1, λ rest. text_of tb t c h.0 End rest h.1 ∙ ap (λ ks. (h.0).name ++ printed_fields tb ks End rest) h.2)
even_bare tb cs (suc t) w (At p c xs) z e h q = absurd (let k : 2 * p + 1 ≡ w = q in omega (arith, k, e))

cell_below : (cs : Cells) (p : ℕ) (c : Cell) → cell_at cs p ≡ Some c → p < length cs
cell_below [] p c e = cc
cell_below (o ∷ cs) zero c e = omega arith
cell_below (o ∷ cs) (suc p) c e = let h = cell_below cs p c e in omega (arith, h)

pub odd_cell : (tb : Table) (cs : Cells) (ty w : ℕ) (x : Placed) → 0 < ty → w % 2 ≢ 0 → Stands tb cs ty x → word_of x ≡ w → (c : ℕ) × (xs : Parts) × Stands tb cs ty (At (w / 2) c xs) × (x ≡ At (w / 2) c xs) × (w / 2 < length cs) × (cell_at cs (w / 2) ≢ None)
odd_cell tb cs zero w x z e h q = absurd (omega (arith, z))
odd_cell tb cs (suc t) w (PlacedInt i) z e h q = absurd h
odd_cell tb cs (suc t) w (Bare c) z e h q = absurd (e (let k : 2 * c ≡ w = q in omega (arith, k)))
odd_cell tb cs (suc t) w (At p c xs) z e h q =
    let n : p ≡ w / 2 = let k : 2 * p + 1 ≡ w = q in omega (arith, k) in
    (c, xs, subst (λ p. Stands tb cs (suc t) (At p c xs)) n h, ap (λ p. At p c xs) n, subst (λ p. p < length cs) n (cell_below cs p _ h.0), subst (λ p. cell_at cs p ≢ None) n (not_there cs p _ h.0))

-- one task of many
pub printing_whole : (tb : Table) (cs : Cells) (ty w : ℕ) (ts ts' : List Task) (out out' whole : List ℕ) → Printing tb cs (Whole ty w ∷ ts) out whole → ((x : Placed) → Stands tb cs ty x → word_of x ≡ w → (rest : List ℕ) → Prints tb cs ts rest → Printing tb cs ts' out' (out ++ printed tb ty (value_of x) rest)) → Printing tb cs ts' out' whole
printing_whole tb cs ty w ts ts' out out' whole h f =
    let p = h.1 in
    let q = f p.0 p.1 p.2 p.3 p.5 in
    (q.0, q.1, q.2 ∙ ap (λ x. out ++ x) (sym p.4) ∙ h.2)

pub printing_fields : (tb : Table) (cs : Cells) (types : List ℕ) (p : ℕ) (ts ts' : List Task) (out out' whole : List ℕ) → Printing tb cs (Fields types p ∷ ts) out whole → ((tb : Table) (c : Cell) (xs : Parts) → AreLast tb cs types p c xs → (rest : List ℕ) → Prints tb cs ts rest → Printing tb cs ts' out' (out ++ printed_more tb types (values_of xs) rest)) → Printing tb cs ts' out' whole
printing_fields tb cs types p ts ts' out out' whole h f =
    let k = h.1 in
    let q = f tb k.0 k.1 k.2 k.3 k.5 in
    (q.0, q.1, q.2 ∙ ap (λ x. out ++ x) (sym k.4) ∙ h.2)

pub printing_row : (tb : Table) (cs : Cells) (types : List ℕ) (p : ℕ) (ts ts' : List Task) (out out' whole : List ℕ) → 0 < length types → Printing tb cs (fields_of types p ∷ ts) out whole → ((tb : Table) (c : Cell) (xs : Parts) → AreLast tb cs types p c xs → (rest : List ℕ) → Prints tb cs ts rest → Printing tb cs ts' out' (out ++ printed_more tb types (values_of xs) rest)) → Printing tb cs ts' out' whole
printing_row tb cs [] p ts ts' out out' whole l h f = absurd (omega arith)
printing_row tb cs (k ∷ ks) p ts ts' out out' whole l h f = printing_fields tb cs (k ∷ ks) p ts ts' out out' whole h f

pub printing_close : (tb : Table) (cs : Cells) (types : List ℕ) (p : ℕ) (ts : List Task) (out out' whole : List ℕ) → length types ≡ 0 → out' ≡ out ++ 41 ∷ [] → Printing tb cs (fields_of types p ∷ ts) out whole → Printing tb cs ts out' whole
printing_close tb cs [] p ts out out' whole l o h =
    let k = h.1 in
    (k.0, k.2, ap (λ o. o ++ k.0) o ∙ append_assoc out (41 ∷ []) k.0 ∙ ap (λ x. out ++ x) (sym k.1) ∙ h.2)
printing_close tb cs (k ∷ ks) p ts out out' whole l o h = absurd (omega (arith, l))

pub printing_ends : (tb : Table) (cs : Cells) (ts : List Task) (out whole : List ℕ) → ts ≡ [] → Printing tb cs ts out whole → out ≡ whole
printing_ends tb cs ts out whole e h =
    let k = subst (λ ts. Printing tb cs ts out whole) e h in
    sym (append-nil out) ∙ ap (λ x. out ++ x) (sym k.1) ∙ k.2

-- the text goes on after a value
mutual
  printed_on : (tb : Table) (k : ℕ) (v : Value) (a b : List ℕ) → printed tb k v a ++ b ≡ printed tb k v (a ++ b)
  printed_on tb zero (Int i) a b = append_assoc (signed_decimal i) a b
  printed_on tb zero (Node c vs) a b = refl
  printed_on tb (suc t) (Int i) a b = refl
  printed_on tb (suc t) (Node c vs) a b = append_assoc (shape_at (shapes tb t) c).name (printed_fields tb (shape_at (shapes tb t) c).fields vs a) b ∙ ap (λ x. (shape_at (shapes tb t) c).name ++ x) (fields_on tb (shape_at (shapes tb t) c).fields vs a b)

  fields_on : (tb : Table) (ks : List ℕ) (vs : Values) (a b : List ℕ) → printed_fields tb ks vs a ++ b ≡ printed_fields tb ks vs (a ++ b)
  fields_on tb [] vs a b = refl
  fields_on tb (k ∷ ks) End a b = refl
  fields_on tb (k ∷ ks) (More v vs) a b = ap (λ x. 40 ∷ x) (printed_on tb k v (printed_more tb ks vs a) b ∙ ap (printed tb k v) (more_on tb ks vs a b))

  more_on : (tb : Table) (ks : List ℕ) (vs : Values) (a b : List ℕ) → printed_more tb ks vs a ++ b ≡ printed_more tb ks vs (a ++ b)
  more_on tb [] vs a b = refl
  more_on tb (k ∷ ks) End a b = refl
  more_on tb (k ∷ ks) (More v vs) a b = ap (λ x. 44 ∷ 32 ∷ x) (printed_on tb k v (printed_more tb ks vs a) b ∙ ap (printed tb k v) (more_on tb ks vs a b))

pub read_again : (tb : Table) → IsSoundTable tb → (cs : Cells) (k : ℕ) (x : Placed) (text : List ℕ) → Stands tb cs k x → text ≡ printed tb k (value_of x) [] → SpellsValues tb (k ∷ []) (text ++ 10 ∷ []) (More (value_of x) End)
read_again tb sound cs k x text h e =
    subst (λ t. SpellsValues tb (k ∷ []) t (More (value_of x) End)) (sym (ap (λ t. t ++ 10 ∷ []) e ∙ printed_on tb k (value_of x) [] (10 ∷ [])))
    (printed_reads tb (is_table tb sound) (k ∷ []) (More (value_of x) End) (stands_type tb cs k x h, tt))
