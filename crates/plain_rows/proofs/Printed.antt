-- What each task prints.
use Rattle.std.proofs.Common.{◌≡◌, ◌⊎◌, inl, inr, ℕ, zero, suc, ◌<◌, ◌==◌, List, [], ◌∷◌, ◌++◌, length, Bool, true, false, Some, None, refl, sym, ap, ◌∙◌, subst, append_assoc, append-nil, arith}
use Rattle.std.specs.Prelude.{Result, Ok, Err, OnOk, slice_get, ℤ}
use Rattle.std.specs.Borrow.{Bor}
use Rattle.std.specs.Fmt.{signed_decimal}
use Rattle.std.proofs.lemmas.Bool.{eqb-true}
use Rattle.fip_base.specs.fip_language.Values.{Value as Tree, Int, Node, Values, End, More as Further}
use Rattle.fip_base.specs.fip_language.Table.{Shape, Table, shapes, constructors, HasType, HaveTypes}
use Rattle.fip_base.specs.fip_language.PrintedText.{printed, printed_fields, printed_more, printed_lines}
use Rattle.value_text.specs.Printing.{printed_tail}
use Rattle.value_text.proofs.Reread.{shape_is}
use Rattle.plain_rows.specs.declared.store.Value.{Value}
use Rattle.plain_rows.specs.declared.store.Value.TheVariants as V
use Rattle.plain_rows.specs.declared.store.Store.{Store}
use Rattle.plain_rows.specs.declared.print.Task.{Task}
use Rattle.plain_rows.specs.declared.print.Task.TheVariants as T
use Rattle.plain_rows.specs.Rows.{count_rows, IsRow, HoldAll, Stands, StandAll}
use Rattle.plain_rows.specs.Printing.{last_first, Prints, Printing}
use Rattle.plain_rows.proofs.Standing.{wide_all}
use Rattle.fip_base.proofs.fip_language.Facts.{nonempty_length as some_of}
use Rattle.value_text.proofs.Printing.{text_of}

pub last_push : (ts : List Task) (t : Task) → last_first (ts ++ t ∷ []) ≡ t ∷ last_first ts
unfolding last_first
last_push [] t = refl
last_push (u ∷ ts) t = ap (λ l. l ++ u ∷ []) (last_push ts t)

pub last_empty : last_first [] ≡ []
unfolding last_first
last_empty = refl

pub none_left : (ts : List Task) → length ts ≡ 0 → last_first ts ≡ []
none_left [] e = last_empty
none_left (t ∷ ts) e = absurd (omega arith)

-- ---- the fields of a row

tail_by : (tb : Table) (s : Store) (following : List ℕ) (k : ℕ) (ks : Bor (List ℕ)) (w : Value) (ws : Bor (List Value)) (vs : Values) (rest : List ℕ) (ts : List Task) → HaveTypes tb (k ∷ ks.now) vs → StandAll s (w ∷ ws.now) vs → Prints tb s following ts rest → Prints tb s following (T.Whole k w ∷ T.Fields ks ws ∷ ts) (printed_tail tb (k ∷ ks.now) vs rest)
tail_by tb s following k ks w ws End rest ts h a p = absurd h
tail_by tb s following k ks w ws (Further v vs) rest ts h a p = (v, h.0, a.0, printed_more tb ks.now vs rest, refl, (vs, h.1, a.1, rest, refl, p))

pub tail_prints : (tb : Table) (s : Store) (following : List ℕ) (types : List ℕ) (values : List Value) (k : ℕ) (ks : Bor (List ℕ)) (w : Value) (ws : Bor (List Value)) (vs : Values) (rest : List ℕ) (ts ts' : List Task) → types ≡ k ∷ ks.now → values ≡ w ∷ ws.now → ts' ≡ T.Whole k w ∷ T.Fields ks ws ∷ ts → HaveTypes tb types vs → StandAll s values vs → Prints tb s following ts rest → Prints tb s following ts' (printed_tail tb types vs rest)
tail_prints tb s following types values k ks w ws vs rest ts ts' e f g h a p =
    subst (λ types. Prints tb s following ts' (printed_tail tb types vs rest)) (sym e) (subst (λ ts. Prints tb s following ts (printed_tail tb (k ∷ ks.now) vs rest)) (sym g) (tail_by tb s following k ks w ws vs rest ts (subst (λ types. HaveTypes tb types vs) e h) (subst (λ ws. StandAll s ws vs) f a) p))

-- a row has as many fields as types
pub both_some : (tb : Table) (s : Store) (types : List ℕ) (values : List Value) (vs : Values) → 0 < length types → HaveTypes tb types vs → StandAll s values vs → values ≡ [] → ⊥
both_some tb s [] values vs l h a e = absurd (omega arith)
both_some tb s (k ∷ ks) values End l h a e = absurd h
both_some tb s (k ∷ ks) [] (Further v vs) l h a e = absurd a
both_some tb s (k ∷ ks) (w ∷ ws) (Further v vs) l h a e = cc

pub empty_some : (types : List ℕ) → 0 < length types → types ≡ [] → ⊥
empty_some [] l e = absurd (omega arith)
empty_some (k ∷ ks) l e = cc

tail_of : (tb : Table) (types : List ℕ) (vs : Values) (rest : List ℕ) → 0 < length types → HaveTypes tb types vs → (printed_more tb types vs rest ≡ 44 ∷ 32 ∷ printed_tail tb types vs rest) × (printed_fields tb types vs rest ≡ 40 ∷ printed_tail tb types vs rest)
tail_of tb [] vs rest l h = absurd (omega arith)
tail_of tb (k ∷ ks) End rest l h = absurd h
tail_of tb (k ∷ ks) (Further v vs) rest l h = (refl, refl)

none_of : (xs : List ℕ) (b : Bool) → b ≡ (length xs == 0) → b ≡ true → xs ≡ []
none_of xs b e f = empty_is xs (eqb-true (length xs) 0 (sym e ∙ f)) where
  empty_is : (xs : List ℕ) → length xs ≡ 0 → xs ≡ []
  empty_is [] e = refl
  empty_is (x ∷ xs) e = absurd (omega arith)

pub more_prints : {E : Type 0} (types : List ℕ) (values : List Value) (b : Bool) (ts ts' : List Task) (out mid out' : List ℕ) (r : Result (Unit {0}) E) → b ≡ (length types == 0) → b ≡ false → mid ≡ out ++ 44 ∷ [] → out' ≡ mid ++ 32 ∷ [] → OnOk r ((tb : Table) (s : Store) (following : List ℕ) (vs : Values) (rest : List ℕ) → 0 < length types → HaveTypes tb types vs → StandAll s values vs → Prints tb s following ts rest → Prints tb s following ts' (printed_tail tb types vs rest)) → OnOk r ((tb : Table) (s : Store) (following : List ℕ) (vs : Values) (rest : List ℕ) → HaveTypes tb types vs → StandAll s values vs → Prints tb s following ts rest → Printing tb s following ts' out' (out ++ printed_more tb types vs rest))
more_prints types values b ts ts' out mid out' (Ok u) e f m o h = λ tb s following vs rest t a p.
    let l = some_of types b e f in
    let text = printed_tail tb types vs rest in
    (text, h tb s following vs rest l t a p, ap (λ o. o ++ text) (o ∙ ap (λ m. m ++ 32 ∷ []) m) ∙ append_assoc (out ++ 44 ∷ []) (32 ∷ []) text ∙ append_assoc out (44 ∷ []) (32 ∷ text) ∙ ap (λ x. out ++ x) (sym (tail_of tb types vs rest l t).0))
more_prints types values b ts ts' out mid out' (Err x) e f m o h = tt

pub close_prints : (types : List ℕ) (values : List Value) (b : Bool) (ts : List Task) (out out' : List ℕ) → b ≡ (length types == 0) → b ≡ true → out' ≡ out ++ 41 ∷ [] → (tb : Table) (s : Store) (following : List ℕ) (vs : Values) (rest : List ℕ) → HaveTypes tb types vs → StandAll s values vs → Prints tb s following ts rest → Printing tb s following ts out' (out ++ printed_more tb types vs rest)
close_prints types values b ts out out' e f o tb s following vs rest h a p =
    let z = none_of types b e f in
    (rest, p, ap (λ o. o ++ rest) o ∙ append_assoc out (41 ∷ []) rest ∙ ap (λ types. out ++ printed_more tb types vs rest) (sym z))

-- ---- a value

-- a node, its constructor and its text
record IsNode (tb : Table) (ty c : ℕ) (vs : Values) : Type 0 where
  pub s : Shape
  pub shape : slice_get (constructors tb ty) c ≡ Some s
  pub types : HaveTypes tb s.fields vs
  pub text : (rest : List ℕ) → printed tb ty (Node c vs) rest ≡ s.name ++ printed_fields tb s.fields vs rest

node_of : (tb : Table) (ty c : ℕ) (vs : Values) → HasType tb ty (Node c vs) → IsNode tb ty c vs
node_of tb zero c vs h = absurd h
node_of tb (suc t) c vs h = record { s = h.0; shape = h.1; types = h.2; text = λ rest. text_of tb t c h.0 vs rest h.1 }

no_fields : (tb : Table) (types : List ℕ) (rest : List ℕ) → HaveTypes tb types End → printed_fields tb types End rest ≡ rest
no_fields tb [] rest h = refl
no_fields tb (k ∷ ks) rest h = absurd h

pub bare_prints : (tb : Table) (s : Store) (following : List ℕ) (ty tag : ℕ) (ts : List Task) (out out' : List ℕ) → ((r : Shape) → slice_get (constructors tb ty) tag ≡ Some r → out' ≡ out ++ r.name) → (v : Tree) (rest : List ℕ) → HasType tb ty v → Stands s (V.Bare tag) v → Prints tb s following ts rest → Printing tb s following ts out' (out ++ printed tb ty v rest)
bare_prints tb s following ty tag ts out out' f (Int i) rest h a p = cc
bare_prints tb s following ty tag ts out out' f (Node c End) rest h a p =
    let n = node_of tb ty c End h in
    let same : tag ≡ c = cc in
    (rest, p, ap (λ o. o ++ rest) (f n.s (ap (slice_get (constructors tb ty)) same ∙ n.shape)) ∙ append_assoc out (n.s).name rest ∙ ap (λ x. out ++ x) (sym (n.text rest ∙ ap (λ x. (n.s).name ++ x) (no_fields tb (n.s).fields rest n.types))))
bare_prints tb s following ty tag ts out out' f (Node c (Further v vs)) rest h a p = let e = a.2 in cc

pub int_prints : (tb : Table) (s : Store) (following : List ℕ) (ty : ℕ) (i : ℤ) (ts : List Task) (out out' : List ℕ) → out' ≡ out ++ signed_decimal i → (v : Tree) (rest : List ℕ) → HasType tb ty v → Stands s (V.Int i) v → Prints tb s following ts rest → Printing tb s following ts out' (out ++ printed tb ty v rest)
int_prints tb s following zero i ts out out' e (Int j) rest h a p =
    let same : i ≡ j = cc in
    (rest, p, ap (λ o. o ++ rest) e ∙ append_assoc out (signed_decimal i) rest ∙ ap (λ j. out ++ (signed_decimal j ++ rest)) same)
int_prints tb s following (suc t) i ts out out' e (Int j) rest h a p = absurd h
int_prints tb s following ty i ts out out' e (Node c End) rest h a p = cc
int_prints tb s following ty i ts out out' e (Node c (Further v vs)) rest h a p = let e = a.2 in cc

pub unbound_prints : (tb : Table) (s : Store) (v : Tree) → Stands s V.Unbound v → ⊥
unbound_prints tb s (Int j) a = cc
unbound_prints tb s (Node c End) a = cc
unbound_prints tb s (Node c (Further v vs)) a = let e = a.2 in cc

-- a row's node
record IsOfRow (s : Store) (row : ℕ) (v : Tree) : Type 0 where
  pub c : ℕ
  pub xs : List Value
  pub vs : Values
  pub tree : v ≡ Node c vs
  pub some : vs ≡ End → ⊥
  pub row_is : IsRow s row c xs
  pub stand : StandAll s xs vs

wider : (s : Store) (m n : ℕ) (ws : List Value) (vs : Values) → m < n → HoldAll s m ws vs → HoldAll s n ws vs
wider s m n ws vs l h = wide_all s m n ws vs (omega arith) h

row_of : (s : Store) (row : ℕ) (v : Tree) → Stands s (V.Row row) v → IsOfRow s row v
row_of s row (Int i) a = cc
row_of s row (Node c End) a = cc
row_of s row (Node c (Further v vs)) a =
    let e = a.2 in
    let same : a.0 ≡ row = cc in
    record {
      c = c;
      xs = a.1;
      vs = Further v vs;
      tree = refl;
      some = λ e. cc;
      row_is = subst (λ r. IsRow s r c a.1) same a.4;
      stand = wider s a.0 (count_rows s) a.1 (Further v vs) a.3 a.5;
    }

some_types : (tb : Table) (types : List ℕ) (vs : Values) → (vs ≡ End → ⊥) → HaveTypes tb types vs → 0 < length types
some_types tb [] End f h = absurd (f refl)
some_types tb [] (Further v vs) f h = absurd h
some_types tb (k ∷ ks) vs f h = omega arith

pub row_prints : {E : Type 0} (tb : Table) (s : Store) (ty row : ℕ) (ts ts' : List Task) (tag : ℕ) (shape : Shape) (types : List ℕ) (values : List Value) (out mid out' : List ℕ) (r : Result (Unit {0}) E) → ((c : ℕ) (xs : List Value) → IsRow s row c xs → Some tag ≡ Some c) → slice_get (constructors tb ty) tag ≡ Some shape → types ≡ shape.fields → ((c : ℕ) (xs : List Value) → IsRow s row c xs → values ≡ xs) → mid ≡ out ++ shape.name → out' ≡ mid ++ 40 ∷ [] → OnOk r ((tb : Table) (s : Store) (following : List ℕ) (vs : Values) (rest : List ℕ) → 0 < length types → HaveTypes tb types vs → StandAll s values vs → Prints tb s following ts rest → Prints tb s following ts' (printed_tail tb types vs rest)) → OnOk r ((following : List ℕ) (v : Tree) (rest : List ℕ) → HasType tb ty v → Stands s (V.Row row) v → Prints tb s following ts rest → Printing tb s following ts' out' (out ++ printed tb ty v rest))
row_prints tb s ty row ts ts' tag shape types values out mid out' (Ok u) f g k m o q h = λ following v rest t a p.
    let w = row_of s row v a in
    let n = node_of tb ty w.c w.vs (subst (HasType tb ty) w.tree t) in
    let tags : tag ≡ w.c = let z = f w.c w.xs w.row_is in cc in
    let same : shape ≡ n.s = let z : Some shape ≡ Some n.s = sym g ∙ ap (slice_get (constructors tb ty)) tags ∙ n.shape in cc in
    let types_are : types ≡ (n.s).fields = k ∙ ap (λ (r : Shape). r.fields) same in
    let have = subst (λ types. HaveTypes tb types w.vs) (sym types_are) n.types in
    let some = some_types tb types w.vs w.some have in
    let text = printed_tail tb types w.vs rest in
    let fields : printed_fields tb (n.s).fields w.vs rest ≡ 40 ∷ text = ap (λ types. printed_fields tb types w.vs rest) (sym types_are) ∙ (tail_of tb types w.vs rest some have).1 in (
      text,
      h tb s following w.vs rest some have (subst (λ xs. StandAll s xs w.vs) (sym (m w.c w.xs w.row_is)) w.stand) p,
      ap (λ o. o ++ text) (q ∙ ap (λ m. m ++ 40 ∷ []) (o ∙ ap (λ (r : Shape). out ++ r.name) same)) ∙ append_assoc (out ++ (n.s).name) (40 ∷ []) text ∙ append_assoc out (n.s).name (40 ∷ text) ∙ ap (λ x. out ++ x) (sym (ap (λ v. printed tb ty v rest) w.tree ∙ n.text rest ∙ ap (λ x. (n.s).name ++ x) fields)),
    )
row_prints tb s ty row ts ts' tag shape types values out mid out' (Err x) f g k m o q h = tt

-- a row that isn't there, or whose constructor isn't
pub no_row : (s : Store) (row : ℕ) (v : Tree) → ((c : ℕ) (xs : List Value) → IsRow s row c xs → None ≡ Some c) → Stands s (V.Row row) v → ⊥
no_row s row v f a = let w = row_of s row v a in let z = f w.c w.xs w.row_is in cc

pub no_shape : (tb : Table) (s : Store) (ty row tag : ℕ) (v : Tree) → ((c : ℕ) (xs : List Value) → IsRow s row c xs → Some tag ≡ Some c) → slice_get (constructors tb ty) tag ≡ None → HasType tb ty v → Stands s (V.Row row) v → ⊥
no_shape tb s ty row tag v f e t a =
    let w = row_of s row v a in
    let n = node_of tb ty w.c w.vs (subst (HasType tb ty) w.tree t) in
    let tags : tag ≡ w.c = let z = f w.c w.xs w.row_is in cc in
    let z : None ≡ Some n.s = sym e ∙ ap (slice_get (constructors tb ty)) tags ∙ n.shape in cc

-- ---- one task of many

pub printing_whole : (tb : Table) (s : Store) (following : List ℕ) (ty : ℕ) (w : Value) (ts ts' : List Task) (out out' whole : List ℕ) → Printing tb s following (T.Whole ty w ∷ ts) out whole → ((v : Tree) (rest : List ℕ) → HasType tb ty v → Stands s w v → Prints tb s following ts rest → Printing tb s following ts' out' (out ++ printed tb ty v rest)) → Printing tb s following ts' out' whole
printing_whole tb s following ty w ts ts' out out' whole h f =
    let p = h.1 in
    let q = f p.0 p.3 p.1 p.2 p.5 in
    (q.0, q.1, q.2 ∙ ap (λ x. out ++ x) (sym p.4) ∙ h.2)

pub printing_fields : (tb : Table) (s : Store) (following : List ℕ) (types : Bor (List ℕ)) (ws : Bor (List Value)) (ts ts' : List Task) (out out' whole : List ℕ) → Printing tb s following (T.Fields types ws ∷ ts) out whole → ((vs : Values) (rest : List ℕ) → HaveTypes tb types.now vs → StandAll s ws.now vs → Prints tb s following ts rest → Printing tb s following ts' out' (out ++ printed_more tb types.now vs rest)) → Printing tb s following ts' out' whole
printing_fields tb s following types ws ts ts' out out' whole h f =
    let p = h.1 in
    let q = f p.0 p.3 p.1 p.2 p.5 in
    (q.0, q.1, q.2 ∙ ap (λ x. out ++ x) (sym p.4) ∙ h.2)

pub printing_ends : (tb : Table) (s : Store) (following : List ℕ) (ts : List Task) (out whole : List ℕ) → ts ≡ [] → Printing tb s following ts out whole → out ++ following ≡ whole
printing_ends tb s following ts out whole e h =
    let k = subst (λ ts. Printing tb s following ts out whole) e h in
    ap (λ x. out ++ x) (sym k.1) ∙ k.2

pub bare_result : {E : Type 0} (tb : Table) (s : Store) (ty tag : ℕ) (w : Value) (ts : List Task) (out out' : List ℕ) (r : Result (Unit {0}) E) → w ≡ V.Bare tag → OnOk r ((shape : Shape) → slice_get (constructors tb ty) tag ≡ Some shape → out' ≡ out ++ shape.name) → OnOk r ((following : List ℕ) (v : Tree) (rest : List ℕ) → HasType tb ty v → Stands s w v → Prints tb s following ts rest → Printing tb s following ts out' (out ++ printed tb ty v rest))
bare_result tb s ty tag w ts out out' (Ok u) e f = λ following v rest h a. bare_prints tb s following ty tag ts out out' f v rest h (subst (λ w. Stands s w v) e a)
bare_result tb s ty tag w ts out out' (Err x) e f = tt

-- ---- the lines

pub lines_first : (tb : Table) (s : Store) (k : ℕ) (ks : List ℕ) (w : Value) (ws : List Value) (us : Values) (out mid out' whole : List ℕ) → HaveTypes tb (k ∷ ks) us → StandAll s (w ∷ ws) us → ((v : Tree) (following : List ℕ) → HasType tb k v → Stands s w v → mid ++ following ≡ out ++ printed tb k v following) → out' ≡ mid ++ 10 ∷ [] → out ++ printed_lines tb (k ∷ ks) us ≡ whole → (vs : Values) × HaveTypes tb ks vs × StandAll s ws vs × (out' ++ printed_lines tb ks vs ≡ whole)
lines_first tb s k ks w ws End out mid out' whole h a f o e = absurd h
lines_first tb s k ks w ws (Further v vs) out mid out' whole h a f o e = (vs, h.1, a.1, ap (λ o. o ++ printed_lines tb ks vs) o ∙ append_assoc mid (10 ∷ []) (printed_lines tb ks vs) ∙ f v (10 ∷ printed_lines tb ks vs) h.0 a.0 ∙ e)

lines_none : (tb : Table) (s : Store) (ks : List ℕ) (ws : List Value) (us : Values) → HaveTypes tb ks us → StandAll s ws us → (length ks ≡ 0) ⊎ (length ws ≡ 0) → printed_lines tb ks us ≡ []
lines_none tb s [] ws us h a o = refl
lines_none tb s (k ∷ ks) ws End h a o = refl
lines_none tb s (k ∷ ks) [] (Further v vs) h a o = absurd a
lines_none tb s (k ∷ ks) (w ∷ ws) (Further v vs) h a (inl e) = absurd (omega arith)
lines_none tb s (k ∷ ks) (w ∷ ws) (Further v vs) h a (inr e) = absurd (omega arith)

pub lines_end : (tb : Table) (s : Store) (ks : List ℕ) (ws : List Value) (us : Values) (out whole : List ℕ) → HaveTypes tb ks us → StandAll s ws us → (length ks ≡ 0) ⊎ (length ws ≡ 0) → out ++ printed_lines tb ks us ≡ whole → out ≡ whole
lines_end tb s ks ws us out whole h a o e = sym (append-nil out) ∙ ap (λ l. out ++ l) (sym (lines_none tb s ks ws us h a o)) ∙ e
