-- What the calls of the printer answer, for whoever called.
use Rattle.std.proofs.Common.{◌≡◌, ◌≢◌, ℕ, ◌^◌, ◌<◌, ◌≤◌, ◌/◌, ◌%◌, ◌==◌, Bool, true, false, List, [], ◌∷◌, ◌++◌, length, sym, ap, ◌∙◌, subst, append_assoc, arith}
use Rattle.std.specs.Prelude.{slice_get, Result, Ok, Err, IfOk, Some}
use Rattle.std.proofs.lemmas.Bool.{eqb-true}
use Rattle.fip_language.specs.Values.{Node}
use Rattle.fip_language.specs.Table.{Shape, Table, constructors}
use Rattle.fip_language.specs.Store.{Cell, Placed, At, Parts, value_of, values_of, word_of, words_of}
use Rattle.fip_language.specs.PrintedText.{printed}
use Rattle.cell_store.specs.Cells.{Cells, cell_at}
use Rattle.value_text.specs.Standing.{Stands}
use Rattle.value_text.specs.Printing.{Task, printed_tail, AreLast, Prints, Printing}
use Rattle.value_text.proofs.Printing.{IsNode, node_of, node_last, node_shape, bare_node, cell_node, even_bare, odd_cell}
pub use Rattle.fip_language.proofs.Facts.{nonempty_length as some_of}

pub none_of : (xs : List ℕ) (b : Bool) → b ≡ (length xs == 0) → b ≡ true → length xs ≡ 0
none_of xs b e f = eqb-true (length xs) 0 (sym e ∙ f)

-- a constructor without fields
pub bare_prints : (tb : Table) (cs : Cells) (ty w : ℕ) (ts : List Task) (out out' : List ℕ) → 0 < ty → w % 2 ≡ 0 → ((s : Shape) → slice_get (constructors tb ty) (w / 2) ≡ Some s → out' ≡ out ++ s.name) → (x : Placed) → Stands tb cs ty x → word_of x ≡ w → (rest : List ℕ) → Prints tb cs ts rest → Printing tb cs ts out' (out ++ printed tb ty (value_of x) rest)
bare_prints tb cs ty w ts out out' z e f x h q rest pr =
    let n = even_bare tb cs ty w x z e h q in
    (rest, pr, ap (λ o. o ++ rest) (f n.0 n.1) ∙ append_assoc out (n.0).name rest ∙ ap (λ t. out ++ t) (sym (n.2 rest)))

-- a value with a cell
cell_prints : (tb : Table) (cs : Cells) (ty w : ℕ) (ts ts' : List Task) (out out' : List ℕ) → 0 < ty → w % 2 ≢ 0 → ((c : ℕ) (xs : Parts) → Stands tb cs ty (At (w / 2) c xs) → (rest : List ℕ) → Prints tb cs ts rest → Printing tb cs ts' out' (out ++ printed tb ty (value_of (At (w / 2) c xs)) rest)) → (x : Placed) → Stands tb cs ty x → word_of x ≡ w → (rest : List ℕ) → Prints tb cs ts rest → Printing tb cs ts' out' (out ++ printed tb ty (value_of x) rest)
cell_prints tb cs ty w ts ts' out out' z e f x h q rest pr =
    let n = odd_cell tb cs ty w x z e h q in
    subst (λ x. Printing tb cs ts' out' (out ++ printed tb ty (value_of x) rest)) (sym n.3) (f n.0 n.1 n.2 rest pr)

pub cell_result : {A E : Type 0} (tb : Table) (cs : Cells) (ty w : ℕ) (ts : List Task) (ts' : A → List Task) (out out' : List ℕ) (r : Result A E) → 0 < ty → w % 2 ≢ 0 → IfOk r (λ a. (c : ℕ) (xs : Parts) → Stands tb cs ty (At (w / 2) c xs) → (rest : List ℕ) → Prints tb cs ts rest → Printing tb cs (ts' a) out' (out ++ printed tb ty (value_of (At (w / 2) c xs)) rest)) → IfOk r (λ a. length cs ≤ 2 ^ 32 → (x : Placed) → Stands tb cs ty x → word_of x ≡ w → (rest : List ℕ) → Prints tb cs ts rest → Printing tb cs (ts' a) out' (out ++ printed tb ty (value_of x) rest))
cell_result tb cs ty w ts ts' out out' (Ok a) z e f = λ few. cell_prints tb cs ty w ts (ts' a) out out' z e f
cell_result tb cs ty w ts ts' out out' (Err a) z e f = tt

-- its name, its bracket and its fields
cell_goes : (tb : Table) (cs : Cells) (ty p c : ℕ) (xs : Parts) (h : IsNode tb cs ty p c xs) (r : Shape) (types : List ℕ) (ts ts' : List Task) (out out' rest : List ℕ) → r ≡ h.s → types ≡ r.fields → 0 < length types → out' ≡ (out ++ r.name) ++ 40 ∷ [] → ((tb : Table) (c : Cell) (xs : Parts) → 0 < length types → AreLast tb cs types p c xs → (rest : List ℕ) → Prints tb cs ts rest → Prints tb cs ts' (printed_tail tb types (values_of xs) rest)) → Prints tb cs ts rest → Printing tb cs ts' out' (out ++ printed tb ty (Node c (values_of xs)) rest)
cell_goes tb cs ty p c xs h r types ts ts' out out' rest is t l o f pr =
    let cell : Cell = record { tag = c; fields = words_of xs } in
    let same : types ≡ (h.s).fields = t ∙ ap (λ (s : Shape). s.fields) is in
    let g = f tb cell xs l (subst (λ ks. AreLast tb cs ks p cell xs) (sym same) (node_last tb cs ty p c xs h)) rest pr in
    cell_node tb cs ty p c xs h r ts' out out' rest is (subst (λ ks. 0 < length ks) t l) o (subst (λ ks. Prints tb cs ts' (printed_tail tb ks (values_of xs) rest)) t g)

-- the constructor that a cell's tag names
pub shape_there : (tb : Table) (cs : Cells) (ty p c tag : ℕ) (xs : Parts) (n : IsNode tb cs ty p c xs) (r : Shape) → ((x : Cell) → cell_at cs p ≡ Some x → tag ≡ x.tag) → slice_get (constructors tb ty) tag ≡ Some r → r ≡ n.s
shape_there tb cs ty p c tag xs n r t e = node_shape tb cs ty p c tag xs n r (t (record { tag = c; fields = words_of xs }) n.cell) e

pub node_goes : (tb : Table) (cs : Cells) (ty p tag : ℕ) (s : Shape) (types : List ℕ) (ts ts' : List Task) (out out' : List ℕ) → ((x : Cell) → cell_at cs p ≡ Some x → tag ≡ x.tag) → slice_get (constructors tb ty) tag ≡ Some s → types ≡ s.fields → 0 < length types → out' ≡ (out ++ s.name) ++ 40 ∷ [] → ((tb : Table) (c : Cell) (xs : Parts) → 0 < length types → AreLast tb cs types p c xs → (rest : List ℕ) → Prints tb cs ts rest → Prints tb cs ts' (printed_tail tb types (values_of xs) rest)) → (c : ℕ) (xs : Parts) → Stands tb cs ty (At p c xs) → (rest : List ℕ) → Prints tb cs ts rest → Printing tb cs ts' out' (out ++ printed tb ty (value_of (At p c xs)) rest)
node_goes tb cs ty p tag s types ts ts' out out' t e k l o f c xs h rest pr =
    let n = node_of tb cs ty p c xs h in
    cell_goes tb cs ty p c xs n s types ts ts' out out' rest (shape_there tb cs ty p c tag xs n s t e) k l o f pr

pub bare_goes : (tb : Table) (cs : Cells) (ty p tag : ℕ) (s : Shape) (types : List ℕ) (ts : List Task) (out out' : List ℕ) → ((x : Cell) → cell_at cs p ≡ Some x → tag ≡ x.tag) → slice_get (constructors tb ty) tag ≡ Some s → types ≡ s.fields → length types ≡ 0 → out' ≡ out ++ s.name → (c : ℕ) (xs : Parts) → Stands tb cs ty (At p c xs) → (rest : List ℕ) → Prints tb cs ts rest → Printing tb cs ts out' (out ++ printed tb ty (value_of (At p c xs)) rest)
bare_goes tb cs ty p tag s types ts out out' t e k l o c xs h rest pr =
    let n = node_of tb cs ty p c xs h in
    bare_node tb cs ty p c xs n s ts out out' rest (shape_there tb cs ty p c tag xs n s t e) (sym (ap length k) ∙ l) o pr

-- a value after others
pub next_result : {A E : Type 0} (tb : Table) (cs : Cells) (ts us : List Task) (us' : A → List Task) (out mid out' : List ℕ) (r : Result A E) → (length cs ≤ 2 ^ 32 → (whole : List ℕ) → Printing tb cs ts out whole → Printing tb cs us mid whole) → IfOk r (λ a. (tb : Table) (whole : List ℕ) → Printing tb cs us mid whole → Printing tb cs (us' a) out' whole) → IfOk r (λ a. length cs ≤ 2 ^ 32 → (whole : List ℕ) → Printing tb cs ts out whole → Printing tb cs (us' a) out' whole)
next_result tb cs ts us us' out mid out' (Ok a) f h = λ few whole p. h tb whole (f few whole p)
next_result tb cs ts us us' out mid out' (Err e) f h = tt
