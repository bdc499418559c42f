-- What is known before each instruction, computed: where each Take's walks along froms end, it is what the definition
-- says.
use Rattle.std.proofs.Common.{◌≡◌, ℕ, zero, suc, Bool, true, false, List, [], ◌∷◌, length, Option, Some, None, slice_get, option_map, refl, sym, ap, ap₂, ◌∙◌, subst₂}
use Rattle.std.proofs.lemmas.Option.{same_Some, none-some}
use Rattle.cell_code.specs.declared.code.Instr.{Instr}
use Rattle.cell_code.specs.declared.code.Instr.TheVariants as I
use Rattle.cell_code.specs.declared.kind.Kind.{Kind}
use Rattle.cell_code.specs.declared.kind.Kind.TheVariants.{Gone, Scalar, Owned}
use Rattle.cell_code.specs.Plain.{PlainFunction, PlainCode, results}
use Rattle.code_rules.specs.Codes.{label_at}
use Rattle.code_rules.specs.Types.{fields, lent_kind}
use Rattle.code_rules.specs.Kinds.{at, root_of}
use Rattle.code_rules.specs.Changes.{written, used_up, moved, tested}
use Rattle.code_rules.specs.Entry.{entry}
use Rattle.code_rules.specs.Taking.{part, is_heir, taken}
use Rattle.code_rules.specs.Handing.{give_all, arguments}
use Rattle.code_rules.specs.Asked.{known_fields}
use Rattle.code_rules.specs.Leaves.{result_type, atom_kind, received, Leaves}
use Rattle.code_rules.specs.Flow.{is_as_asked, Holds, Comes, KnownAt}
use Rattle.code_rules.proofs.Once.{leaves_once}
use Rattle.code_rules.proofs.Walks.{reached_by, all_sure, is_reached}

abbrev heir_of : PlainCode → List Kind → ℕ → List ℕ → ℕ → Bool
heir_of c ks r ds = is_heir c.types ks r (part ds (known_fields c.types (at ks r)))

abbrev taken_by : PlainCode → List Kind → ℕ → List ℕ → List Kind
taken_by c ks r ds = taken c.types ks r (part ds (known_fields c.types (at ks r))) (length ds) (reached_by ks (heir_of c ks r ds))

-- what an instruction leaves
abbrev pub after : PlainCode → List Kind → Instr → Option (List Kind)
after c ks (I.Const d v) = Some (written ks d (Scalar 0))
after c ks (I.Atom d t k) = Some (written ks d (atom_kind c.types t k))
after c ks (I.Move d s) = Some (written (moved ks s) d (at ks s))
after c ks (I.Arith d op a b line col) = Some (written ks d (Scalar (result_type op)))
after c ks (I.Test r k target) = Some (tested ks r (k ∷ []))
after c ks (I.TestInt r v target) = Some ks
after c ks (I.Peek d r i) = option_map (λ t. written ks d (lent_kind c.types t (root_of r (at ks r)) r i)) (slice_get (known_fields c.types (at ks r)) i)
after c ks (I.Take r ds) = Some (taken_by c ks r ds)
after c ks (I.Put d t k ss) = option_map (λ rest. written rest d (Owned t (k ∷ []))) (give_all ks ss (fields c.types t k))
after c ks (I.Drop r) = Some (used_up ks r)
after c ks (I.Free r) = Some (written ks r Gone)
after c ks (I.Call g rs ds) = option_map (λ rest. received c.types rest ds (results c g)) (arguments c false ks g rs)
after c ks (I.Tail g rs) = None
after c ks (I.Ret rs) = None
after c ks (I.Jump target) = None

abbrev pub is_sure_row : PlainCode → List Kind → Instr → Bool
is_sure_row c ks (I.Const d v) = true
is_sure_row c ks (I.Atom d t k) = true
is_sure_row c ks (I.Move d s) = true
is_sure_row c ks (I.Arith d op a b line col) = true
is_sure_row c ks (I.Test r k target) = true
is_sure_row c ks (I.TestInt r v target) = true
is_sure_row c ks (I.Peek d r i) = true
is_sure_row c ks (I.Take r ds) = all_sure ks (heir_of c ks r ds) ks
is_sure_row c ks (I.Put d t k ss) = true
is_sure_row c ks (I.Drop r) = true
is_sure_row c ks (I.Free r) = true
is_sure_row c ks (I.Call g rs ds) = true
is_sure_row c ks (I.Tail g rs) = true
is_sure_row c ks (I.Ret rs) = true
is_sure_row c ks (I.Jump target) = true

mapped : {A : Type 0} (f : A → List Kind) (o : Option A) (left : List Kind) → option_map f o ≡ Some left → (x : A) × (o ≡ Some x) × (left ≡ f x)
mapped f None left e = absurd (none-some left e)
mapped f (Some x) left e = (x, refl, sym (same_Some (f x) left e))

pub leaves_after : (c : PlainCode) (ks : List Kind) (x : Instr) (left : List Kind) → is_sure_row c ks x ≡ true → after c ks x ≡ Some left → Leaves c ks x left
leaves_after c ks (I.Const d v) left s e = sym (same_Some _ left e)
leaves_after c ks (I.Atom d t k) left s e = sym (same_Some _ left e)
leaves_after c ks (I.Move d r) left s e = sym (same_Some _ left e)
leaves_after c ks (I.Arith d op a b line col) left s e = sym (same_Some _ left e)
leaves_after c ks (I.Test r k target) left s e = sym (same_Some _ left e)
leaves_after c ks (I.TestInt r v target) left s e = sym (same_Some _ left e)
leaves_after c ks (I.Peek d r i) left s e = mapped _ (slice_get (known_fields c.types (at ks r)) i) left e
leaves_after c ks (I.Take r ds) left s e = (reached_by ks (heir_of c ks r ds), is_reached ks (heir_of c ks r ds) s, sym (same_Some _ left e))
leaves_after c ks (I.Put d t k ss) left s e = mapped _ (give_all ks ss (fields c.types t k)) left e
leaves_after c ks (I.Drop r) left s e = sym (same_Some _ left e)
leaves_after c ks (I.Free r) left s e = sym (same_Some _ left e)
leaves_after c ks (I.Call g rs ds) left s e = mapped _ (arguments c false ks g rs) left e
leaves_after c ks (I.Tail g rs) left s e = none-some left e
leaves_after c ks (I.Ret rs) left s e = none-some left e
leaves_after c ks (I.Jump target) left s e = none-some left e

pub after_leaves : (c : PlainCode) (ks : List Kind) (x : Instr) (left : List Kind) → is_sure_row c ks x ≡ true → Leaves c ks x left → after c ks x ≡ Some left
after_leaves c ks (I.Const d v) left s p = ap Some (sym p)
after_leaves c ks (I.Atom d t k) left s p = ap Some (sym p)
after_leaves c ks (I.Move d r) left s p = ap Some (sym p)
after_leaves c ks (I.Arith d op a b line col) left s p = ap Some (sym p)
after_leaves c ks (I.Test r k target) left s p = ap Some (sym p)
after_leaves c ks (I.TestInt r v target) left s p = ap Some (sym p)
after_leaves c ks (I.Peek d r i) left s p = ap (option_map (λ t. written ks d (lent_kind c.types t (root_of r (at ks r)) r i))) p.1 ∙ ap Some (sym p.2)
after_leaves c ks (I.Take r ds) left s p = ap Some (leaves_once c ks (I.Take r ds) (taken_by c ks r ds) left (leaves_after c ks (I.Take r ds) (taken_by c ks r ds) s refl) p)
after_leaves c ks (I.Put d t k ss) left s p = ap (option_map (λ rest. written rest d (Owned t (k ∷ [])))) p.1 ∙ ap Some (sym p.2)
after_leaves c ks (I.Drop r) left s p = ap Some (sym p)
after_leaves c ks (I.Free r) left s p = ap Some (sym p)
after_leaves c ks (I.Call g rs ds) left s p = ap (option_map (λ rest. received c.types rest ds (results c g))) p.1 ∙ ap Some (sym p.2)
after_leaves c ks (I.Tail g rs) left s p = absurd p
after_leaves c ks (I.Ret rs) left s p = absurd p
after_leaves c ks (I.Jump target) left s p = absurd p

-- ---- place by place

abbrev here : Option (List Kind) → Option (List Kind) → Option (List Kind)
here None cur = cur
here (Some m) cur = Some m

abbrev row_next : PlainCode → List Kind → Instr → Bool → Option (List Kind)
row_next c ks x true = after c ks x
row_next c ks x false = None

abbrev next : PlainCode → PlainFunction → ℕ → Option (List Kind) → Option Instr → Option (List Kind)
next c f i None x = None
next c f i (Some ks) None = None
next c f i (Some ks) (Some x) = row_next c ks x (is_as_asked c f i ks x)

abbrev coming : PlainCode → PlainFunction → ℕ → Option (List Kind)
coming c f zero = Some (entry c f)
coming c f (suc i) = next c f i (here (label_at f.labels i) (coming c f i)) (slice_get f.instrs i)

abbrev pub known : PlainCode → PlainFunction → ℕ → Option (List Kind)
known c f i = here (label_at f.labels i) (coming c f i)

abbrev pub is_sure_at : PlainCode → Option Instr → Option (List Kind) → Bool
is_sure_at c None ks = true
is_sure_at c (Some x) None = true
is_sure_at c (Some x) (Some ks) = is_sure_row c ks x

-- All walks along froms end.
abbrev pub Sure : PlainCode → PlainFunction → Type 0
Sure c f = (i : ℕ) → is_sure_at c (slice_get f.instrs i) (known c f i) ≡ true

pub sure_row : (c : PlainCode) (f : PlainFunction) → Sure c f → (i : ℕ) (ks : List Kind) (x : Instr) → known c f i ≡ Some ks → slice_get f.instrs i ≡ Some x → is_sure_row c ks x ≡ true
sure_row c f sure i ks x k e = subst₂ (λ o p. is_sure_at c p o ≡ true) k e (sure i)

holds_here : (o : Option (List Kind)) (P : List Kind → Type 0) (q : Option (List Kind)) → ((ks : List Kind) → P ks → q ≡ Some ks) → (ks : List Kind) → Holds o P ks → here o q ≡ Some ks
holds_here None P q h ks p = h ks p
holds_here (Some m) P q h ks p = ap Some (sym p)

comes_coming : (c : PlainCode) (f : PlainFunction) → Sure c f → (i : ℕ) (ks : List Kind) → Comes c f i ks → coming c f i ≡ Some ks
comes_coming c f sure zero ks p = ap Some (sym p)
comes_coming c f sure (suc i) ks p =
    let k : known c f i ≡ Some p.0 = holds_here (label_at f.labels i) (Comes c f i) (coming c f i) (comes_coming c f sure i) p.0 p.2 in
    ap₂ (next c f i) k p.3 ∙ (ap (row_next c p.0 p.1) p.4 ∙ after_leaves c p.0 p.1 ks (sure_row c f sure i p.0 p.1 k p.3) p.5)

pub known_is : (c : PlainCode) (f : PlainFunction) → Sure c f → (i : ℕ) (ks : List Kind) → KnownAt c f i ks → known c f i ≡ Some ks
known_is c f sure i ks p = holds_here (label_at f.labels i) (Comes c f i) (coming c f i) (comes_coming c f sure i) ks p

here_holds : (o : Option (List Kind)) (P : List Kind → Type 0) (q : Option (List Kind)) → ((ks : List Kind) → q ≡ Some ks → P ks) → (ks : List Kind) → here o q ≡ Some ks → Holds o P ks
here_holds None P q h ks e = h ks e
here_holds (Some m) P q h ks e = sym (same_Some m ks e)

row_next_is : (c : PlainCode) (ks : List Kind) (x : Instr) (b : Bool) (left : List Kind) → row_next c ks x b ≡ Some left → (b ≡ true) × (after c ks x ≡ Some left)
row_next_is c ks x true left e = (refl, e)
row_next_is c ks x false left e = absurd (none-some left e)

next_is : (c : PlainCode) (f : PlainFunction) (i : ℕ) (o : Option (List Kind)) (p : Option Instr) (left : List Kind) → next c f i o p ≡ Some left → (ks : List Kind) × (x : Instr) × (o ≡ Some ks) × (p ≡ Some x) × (is_as_asked c f i ks x ≡ true) × (after c ks x ≡ Some left)
next_is c f i None p left e = absurd (none-some left e)
next_is c f i (Some ks) None left e = absurd (none-some left e)
next_is c f i (Some ks) (Some x) left e = (let r = row_next_is c ks x (is_as_asked c f i ks x) left e in (ks, x, refl, refl, r.0, r.1))

coming_comes : (c : PlainCode) (f : PlainFunction) → Sure c f → (i : ℕ) (ks : List Kind) → coming c f i ≡ Some ks → Comes c f i ks
coming_comes c f sure zero ks e = sym (same_Some (entry c f) ks e)
coming_comes c f sure (suc i) ks e =
    let n = next_is c f i (known c f i) (slice_get f.instrs i) ks e in
    (n.0, n.1, here_holds (label_at f.labels i) (Comes c f i) (coming c f i) (coming_comes c f sure i) n.0 n.2, n.3, n.4, leaves_after c n.0 n.1 ks (sure_row c f sure i n.0 n.1 n.2 n.3) n.5)

pub is_known : (c : PlainCode) (f : PlainFunction) → Sure c f → (i : ℕ) (ks : List Kind) → known c f i ≡ Some ks → KnownAt c f i ks
is_known c f sure i ks e = here_holds (label_at f.labels i) (Comes c f i) (coming c f i) (coming_comes c f sure i) ks e
