-- What holds of single instructions, by a line for each.
use Rattle.std.proofs.Common.{◌≡◌, ◌⊎◌, inl, inr, ℕ, zero, suc, ◌<◌, Bool, true, false, ◌&&◌, List, [], ◌∷◌, ◌++◌, length, Some, slice_get, if◌then◌else◌, refl, sym, ap, ap₂, subst, true≢false, arith}
use Rattle.std.specs.Prelude.{nat_lt}
use Rattle.std.proofs.lemmas.Bool.{false≢true, ltb-true, lt-ltb, and_parts, and_from}
use Rattle.std.proofs.lemmas.Option.{same_Some, none-some}
use Rattle.call_groups.specs.CallGraph.{In}
use Rattle.call_groups.specs.declared.search.Call.{Call}
use Rattle.cell_code.specs.declared.code.Instr.{Instr}
use Rattle.cell_code.specs.declared.code.Instr.TheVariants as I
use Rattle.cell_code.specs.declared.kind.Kind.{Kind}
use Rattle.cell_code.specs.declared.kind.Kind.TheVariants.{Gone, Scalar, Owned, Lent, Credit}
use Rattle.cell_code.specs.Plain.{PlainCode}
use Rattle.code_rules.specs.Kinds.{at}
use Rattle.code_rules.specs.Leaves.{Leaves, Jumps}
use Rattle.code_rules.specs.Endings.{is_end}
use Rattle.code_rules.specs.Calls.{IsCall}
use Rattle.code_rows.specs.Rows.{Arrival, jumps}
use Rattle.code_verify.specs.declared.walk.Waiting.{Waiting}
use Rattle.code_verify.specs.declared.walk.DropType.{DropType}
use Rattle.code_verify.specs.Steps.{call_to, call_if, calls_of_instr, waits_at, waiting_if, waiting_of_instr, drops_at, drop_if, drops_of_instr}

-- ---- ends and targets

pub end_leaves : (c : PlainCode) (ks : List Kind) (x : Instr) (left : List Kind) → is_end x ≡ true → Leaves c ks x left → ⊥
end_leaves c ks (I.Const d v) left e p = false≢true e
end_leaves c ks (I.Atom d t k) left e p = false≢true e
end_leaves c ks (I.Move d s) left e p = false≢true e
end_leaves c ks (I.Arith d op a b line col) left e p = false≢true e
end_leaves c ks (I.Test r k target) left e p = false≢true e
end_leaves c ks (I.TestInt r v target) left e p = false≢true e
end_leaves c ks (I.Peek d r i) left e p = false≢true e
end_leaves c ks (I.Take r ds) left e p = false≢true e
end_leaves c ks (I.Put d t k ss) left e p = false≢true e
end_leaves c ks (I.Drop r) left e p = false≢true e
end_leaves c ks (I.Free r) left e p = false≢true e
end_leaves c ks (I.Call h rs ds) left e p = false≢true e
end_leaves c ks (I.Tail h rs) left e p = p
end_leaves c ks (I.Ret rs) left e p = p
end_leaves c ks (I.Jump target) left e p = p

pub arrival : ℕ → List Kind → Arrival
arrival j left = record { target = j; kinds = left }

pub jumps_of : (ks : List Kind) (x : Instr) (j : ℕ) (left : List Kind) → Jumps ks x j left → (a : Arrival) × (jumps ks x ≡ Some a) × (a.target ≡ j) × (a.kinds ≡ left)
jumps_of ks (I.Const d v) j left p = absurd p
jumps_of ks (I.Atom d t k) j left p = absurd p
jumps_of ks (I.Move d s) j left p = absurd p
jumps_of ks (I.Arith d op a b line col) j left p = absurd p
jumps_of ks (I.Test r k target) j left p = (_, refl, sym p.0, sym p.1)
jumps_of ks (I.TestInt r v target) j left p = (_, refl, sym p.0, sym p.1)
jumps_of ks (I.Peek d r e) j left p = absurd p
jumps_of ks (I.Take r ds) j left p = absurd p
jumps_of ks (I.Put d t k ss) j left p = absurd p
jumps_of ks (I.Drop r) j left p = absurd p
jumps_of ks (I.Free r) j left p = absurd p
jumps_of ks (I.Call h rs ds) j left p = absurd p
jumps_of ks (I.Tail h rs) j left p = absurd p
jumps_of ks (I.Ret rs) j left p = absurd p
jumps_of ks (I.Jump target) j left p = (_, refl, sym p.0, sym p.1)

pub jumps_is : (ks : List Kind) (x : Instr) (a : Arrival) → jumps ks x ≡ Some a → Jumps ks x a.target a.kinds
jumps_is ks (I.Const d v) a e = absurd (none-some a e)
jumps_is ks (I.Atom d t k) a e = absurd (none-some a e)
jumps_is ks (I.Move d s) a e = absurd (none-some a e)
jumps_is ks (I.Arith d op l r line col) a e = absurd (none-some a e)
jumps_is ks (I.Test r k target) a e = (ap (λ (b : Arrival). b.target) (sym (same_Some _ a e)), ap (λ (b : Arrival). b.kinds) (sym (same_Some _ a e)))
jumps_is ks (I.TestInt r v target) a e = (ap (λ (b : Arrival). b.target) (sym (same_Some _ a e)), ap (λ (b : Arrival). b.kinds) (sym (same_Some _ a e)))
jumps_is ks (I.Peek d r i) a e = absurd (none-some a e)
jumps_is ks (I.Take r ds) a e = absurd (none-some a e)
jumps_is ks (I.Put d t k ss) a e = absurd (none-some a e)
jumps_is ks (I.Drop r) a e = absurd (none-some a e)
jumps_is ks (I.Free r) a e = absurd (none-some a e)
jumps_is ks (I.Call h rs ds) a e = absurd (none-some a e)
jumps_is ks (I.Tail h rs) a e = absurd (none-some a e)
jumps_is ks (I.Ret rs) a e = absurd (none-some a e)
jumps_is ks (I.Jump target) a e = (ap (λ (b : Arrival). b.target) (sym (same_Some _ a e)), ap (λ (b : Arrival). b.kinds) (sym (same_Some _ a e)))

-- ---- elements of lists

pub in_left : {A : Type 0} (xs ys : List A) (x : A) → In x xs → In x (xs ++ ys)
in_left {A = A} xs ys x h = (h.0, more xs h.0 h.1)
  where
    more : (zs : List A) (i : ℕ) → slice_get zs i ≡ Some x → slice_get (zs ++ ys) i ≡ Some x
    more [] i e = absurd (none-some x e)
    more (z ∷ zs) zero e = e
    more (z ∷ zs) (suc i) e = more zs i e

pub in_right : {A : Type 0} (xs ys : List A) (x : A) → In x ys → In x (xs ++ ys)
in_right [] ys x h = h
in_right (z ∷ xs) ys x h = (let r = in_right xs ys x h in (suc r.0, r.1))

pub in_parts : {A : Type 0} (xs ys : List A) (x : A) → In x (xs ++ ys) → In x xs ⊎ In x ys
in_parts {A = A} xs ys x h = parts xs h.0 h.1
  where
    later : (zs : List A) (z : A) → In x zs ⊎ In x ys → In x (z ∷ zs) ⊎ In x ys
    later zs z (inl g) = inl (suc g.0, g.1)
    later zs z (inr g) = inr g

    parts : (zs : List A) (i : ℕ) → slice_get (zs ++ ys) i ≡ Some x → In x zs ⊎ In x ys
    parts [] i e = inr (i, e)
    parts (z ∷ zs) zero e = inl (zero, e)
    parts (z ∷ zs) (suc i) e = later zs z (parts zs i e)

in_one : {A : Type 0} (y x : A) (i : ℕ) → slice_get (y ∷ []) i ≡ Some x → y ≡ x
in_one y x zero e = same_Some y x e
in_one y x (suc i) e = absurd (none-some x e)

in_if : {A : Type 0} (b : Bool) (y x : A) → In x (if b then (y ∷ []) else []) → (b ≡ true) × (y ≡ x)
in_if true y x h = (refl, in_one y x h.0 h.1)
in_if false y x h = absurd (none-some x h.1)

if_in : {A : Type 0} (b : Bool) (y x : A) → b ≡ true → y ≡ x → In x (if b then (y ∷ []) else [])
if_in true y x e f = (zero, ap Some f)
if_in false y x e f = absurd (false≢true e)

pub in_nil : {A : Type 0} (x : A) → In x [] → ⊥
in_nil x h = none-some x h.1

-- ---- calls

call_parts : (c : PlainCode) (h g : ℕ) (j k : Bool) → In (call_to g k) (call_if c h j) → (h ≡ g) × (j ≡ k) × (g < length c.functions)
call_parts c h g j k x =
    let p = in_if (nat_lt h (length c.functions)) (call_to h j) (call_to g k) x in
    let same : h ≡ g = ap (λ (q : Call). q.callee) p.1 in
    let l = ltb-true h (length c.functions) p.0 in
    (same, ap (λ (q : Call). q.waits) p.1, omega (arith, same, l))

parts_call : (c : PlainCode) (h g : ℕ) (j k : Bool) → h ≡ g → j ≡ k → g < length c.functions → In (call_to g k) (call_if c h j)
parts_call c h g j k e f l = if_in (nat_lt h (length c.functions)) (call_to h j) (call_to g k) (lt-ltb h (length c.functions) (omega (arith, e, l))) (ap₂ call_to e f)

pub in_calls : (c : PlainCode) (x : Instr) (g : ℕ) (k : Bool) → In (call_to g k) (calls_of_instr c x) → IsCall x g k × (g < length c.functions)
in_calls c (I.Const d v) g k m = absurd (in_nil _ m)
in_calls c (I.Atom d t q) g k m = absurd (in_nil _ m)
in_calls c (I.Move d s) g k m = absurd (in_nil _ m)
in_calls c (I.Arith d op a b line col) g k m = absurd (in_nil _ m)
in_calls c (I.Test r q target) g k m = absurd (in_nil _ m)
in_calls c (I.TestInt r v target) g k m = absurd (in_nil _ m)
in_calls c (I.Peek d r e) g k m = absurd (in_nil _ m)
in_calls c (I.Take r ds) g k m = absurd (in_nil _ m)
in_calls c (I.Put d t q ss) g k m = absurd (in_nil _ m)
in_calls c (I.Drop r) g k m = absurd (in_nil _ m)
in_calls c (I.Free r) g k m = absurd (in_nil _ m)
in_calls c (I.Call h rs ds) g k m = (let p = call_parts c h g true k m in ((p.0, sym p.1), p.2))
in_calls c (I.Tail h rs) g k m = (let p = call_parts c h g false k m in ((p.0, sym p.1), p.2))
in_calls c (I.Ret rs) g k m = absurd (in_nil _ m)
in_calls c (I.Jump target) g k m = absurd (in_nil _ m)

pub calls_in : (c : PlainCode) (x : Instr) (g : ℕ) (w : Bool) → IsCall x g w → g < length c.functions → In (call_to g w) (calls_of_instr c x)
calls_in c (I.Const d v) g w p l = absurd p
calls_in c (I.Atom d t k) g w p l = absurd p
calls_in c (I.Move d s) g w p l = absurd p
calls_in c (I.Arith d op a b line col) g w p l = absurd p
calls_in c (I.Test r k target) g w p l = absurd p
calls_in c (I.TestInt r v target) g w p l = absurd p
calls_in c (I.Peek d r e) g w p l = absurd p
calls_in c (I.Take r ds) g w p l = absurd p
calls_in c (I.Put d t k ss) g w p l = absurd p
calls_in c (I.Drop r) g w p l = absurd p
calls_in c (I.Free r) g w p l = absurd p
calls_in c (I.Call h rs ds) g w p l = parts_call c h g true w p.0 (sym p.1) l
calls_in c (I.Tail h rs) g w p l = parts_call c h g false w p.0 (sym p.1) l
calls_in c (I.Ret rs) g w p l = absurd p
calls_in c (I.Jump target) g w p l = absurd p

wait_parts : (c : PlainCode) (i h j g : ℕ) (k : Bool) → In (waits_at j g) (waiting_if c i h k) → (h ≡ g) × (k ≡ true) × (i ≡ j) × (g < length c.functions)
wait_parts c i h j g k x =
    let p = in_if (nat_lt h (length c.functions) && k) (waits_at i h) (waits_at j g) x in
    let q = and_parts (nat_lt h (length c.functions)) k p.0 in
    let same : h ≡ g = ap (λ (w : Waiting). w.callee) p.1 in
    let l = ltb-true h (length c.functions) q.0 in
    (same, q.1, ap (λ (w : Waiting). w.at) p.1, omega (arith, same, l))

parts_wait : (c : PlainCode) (i h g : ℕ) → h ≡ g → g < length c.functions → In (waits_at i g) (waiting_if c i h true)
parts_wait c i h g e l = if_in (nat_lt h (length c.functions) && true) (waits_at i h) (waits_at i g) (and_from _ _ (lt-ltb h (length c.functions) (omega (arith, e, l))) refl) (ap (waits_at i) e)

pub in_waiting : (c : PlainCode) (i : ℕ) (x : Instr) (j g : ℕ) → In (waits_at j g) (waiting_of_instr c i x) → (i ≡ j) × IsCall x g true × (g < length c.functions)
in_waiting c i (I.Const d v) j g m = absurd (in_nil _ m)
in_waiting c i (I.Atom d t k) j g m = absurd (in_nil _ m)
in_waiting c i (I.Move d s) j g m = absurd (in_nil _ m)
in_waiting c i (I.Arith d op a b line col) j g m = absurd (in_nil _ m)
in_waiting c i (I.Test r k target) j g m = absurd (in_nil _ m)
in_waiting c i (I.TestInt r v target) j g m = absurd (in_nil _ m)
in_waiting c i (I.Peek d r e) j g m = absurd (in_nil _ m)
in_waiting c i (I.Take r ds) j g m = absurd (in_nil _ m)
in_waiting c i (I.Put d t k ss) j g m = absurd (in_nil _ m)
in_waiting c i (I.Drop r) j g m = absurd (in_nil _ m)
in_waiting c i (I.Free r) j g m = absurd (in_nil _ m)
in_waiting c i (I.Call h rs ds) j g m = (let p = wait_parts c i h j g true m in (p.2, (p.0, refl), p.3))
in_waiting c i (I.Tail h rs) j g m = (let p = wait_parts c i h j g false m in absurd (false≢true p.1))
in_waiting c i (I.Ret rs) j g m = absurd (in_nil _ m)
in_waiting c i (I.Jump target) j g m = absurd (in_nil _ m)

pub waiting_in : (c : PlainCode) (i : ℕ) (x : Instr) (g : ℕ) → IsCall x g true → g < length c.functions → In (waits_at i g) (waiting_of_instr c i x)
waiting_in c i (I.Const d v) g p l = absurd p
waiting_in c i (I.Atom d t k) g p l = absurd p
waiting_in c i (I.Move d s) g p l = absurd p
waiting_in c i (I.Arith d op a b line col) g p l = absurd p
waiting_in c i (I.Test r k target) g p l = absurd p
waiting_in c i (I.TestInt r v target) g p l = absurd p
waiting_in c i (I.Peek d r e) g p l = absurd p
waiting_in c i (I.Take r ds) g p l = absurd p
waiting_in c i (I.Put d t k ss) g p l = absurd p
waiting_in c i (I.Drop r) g p l = absurd p
waiting_in c i (I.Free r) g p l = absurd p
waiting_in c i (I.Call h rs ds) g p l = parts_wait c i h g p.0 l
waiting_in c i (I.Tail h rs) g p l = absurd (true≢false p.1)
waiting_in c i (I.Ret rs) g p l = absurd p
waiting_in c i (I.Jump target) g p l = absurd p

-- ---- drops

-- the instruction releases a tree of type t, that a register owns
pub record IsDropOf (ks : List Kind) (x : Instr) (t : ℕ) : Type 0 where
  pub register : ℕ
  pub set : List ℕ
  pub is : x ≡ I.Drop register
  pub owned : at ks register ≡ Owned t set

drop_parts : (i : ℕ) (k : Kind) (j t : ℕ) → In (drops_at j t) (drop_if i k) → (i ≡ j) × ((s : List ℕ) × (k ≡ Owned t s))
drop_parts i Gone j t m = absurd (in_nil _ m)
drop_parts i (Scalar u) j t m = absurd (in_nil _ m)
drop_parts i (Owned u s) j t m =
    let e = in_one (drops_at i u) (drops_at j t) m.0 m.1 in
    (ap (λ (d : DropType). d.at) e, (s, ap (λ n. Owned n s) (ap (λ (d : DropType). d.ty) e)))
drop_parts i (Lent u s root from) j t m = absurd (in_nil _ m)
drop_parts i (Credit n) j t m = absurd (in_nil _ m)

pub in_drops : (ks : List Kind) (i : ℕ) (x : Instr) (j t : ℕ) → In (drops_at j t) (drops_of_instr ks i x) → (i ≡ j) × IsDropOf ks x t
in_drops ks i (I.Const d v) j w m = absurd (in_nil _ m)
in_drops ks i (I.Atom d t k) j w m = absurd (in_nil _ m)
in_drops ks i (I.Move d s) j w m = absurd (in_nil _ m)
in_drops ks i (I.Arith d op a b line col) j w m = absurd (in_nil _ m)
in_drops ks i (I.Test r k target) j w m = absurd (in_nil _ m)
in_drops ks i (I.TestInt r v target) j w m = absurd (in_nil _ m)
in_drops ks i (I.Peek d r e) j w m = absurd (in_nil _ m)
in_drops ks i (I.Take r ds) j w m = absurd (in_nil _ m)
in_drops ks i (I.Put d t k ss) j w m = absurd (in_nil _ m)
in_drops ks i (I.Drop r) j w m = (let p = drop_parts i (at ks r) j w m in (p.0, record { register = r; set = p.1.0; is = refl; owned = p.1.1 }))
in_drops ks i (I.Free r) j w m = absurd (in_nil _ m)
in_drops ks i (I.Call h rs ds) j w m = absurd (in_nil _ m)
in_drops ks i (I.Tail h rs) j w m = absurd (in_nil _ m)
in_drops ks i (I.Ret rs) j w m = absurd (in_nil _ m)
in_drops ks i (I.Jump target) j w m = absurd (in_nil _ m)

pub drops_in : (ks : List Kind) (i r t : ℕ) (s : List ℕ) → at ks r ≡ Owned t s → In (drops_at i t) (drops_of_instr ks i (I.Drop r))
drops_in ks i r t s e = subst (λ k. In (drops_at i t) (drop_if i k)) (sym e) (zero, refl)

drop_kinds : (i : ℕ) (k : Kind) → (drop_if i k ≡ []) ⊎ ((t : ℕ) × (drop_if i k ≡ drops_at i t ∷ []))
drop_kinds i Gone = inl refl
drop_kinds i (Scalar t) = inl refl
drop_kinds i (Owned t s) = inr (t, refl)
drop_kinds i (Lent t s root from) = inl refl
drop_kinds i (Credit n) = inl refl

-- an instruction has one drop at most
pub drops_cases : (ks : List Kind) (i : ℕ) (x : Instr) → (drops_of_instr ks i x ≡ []) ⊎ ((t : ℕ) × (drops_of_instr ks i x ≡ drops_at i t ∷ []))
drops_cases ks i (I.Const d v) = inl refl
drops_cases ks i (I.Atom d t k) = inl refl
drops_cases ks i (I.Move d s) = inl refl
drops_cases ks i (I.Arith d op a b line col) = inl refl
drops_cases ks i (I.Test r k target) = inl refl
drops_cases ks i (I.TestInt r v target) = inl refl
drops_cases ks i (I.Peek d r e) = inl refl
drops_cases ks i (I.Take r ds) = inl refl
drops_cases ks i (I.Put d t k ss) = inl refl
drops_cases ks i (I.Drop r) = drop_kinds i (at ks r)
drops_cases ks i (I.Free r) = inl refl
drops_cases ks i (I.Call h rs ds) = inl refl
drops_cases ks i (I.Tail h rs) = inl refl
drops_cases ks i (I.Ret rs) = inl refl
drops_cases ks i (I.Jump target) = inl refl
