-- There are kinds before each instruction that is reached: they can be computed.
-- The idea: a walk along froms that leads to an heir visits no register twice, so it takes no more steps than there are
-- registers.
use Rattle.std.proofs.Common.{◌≡◌, inl, inr, ℕ, zero, suc, ◌+◌, ◌<◌, ◌≤◌, Bool, true, false, List, [], ◌∷◌, length, Option, Some, None, slice_get, refl, sym, ap, ap₂, ◌∙◌, subst, arith, if◌then◌else◌}
use Rattle.std.proofs.lemmas.Option.{same_Some}
use Rattle.separation_kinds.specs.fip_language.Store.{one_at, count}
use Rattle.separation_kinds.specs.cell_code.declared.code.Instr.{Instr}
use Rattle.separation_kinds.specs.cell_code.declared.code.Instr.TheVariants as I
use Rattle.separation_kinds.specs.cell_code.declared.kind.From.{From}
use Rattle.separation_kinds.specs.cell_code.declared.kind.Kind.{Kind}
use Rattle.separation_kinds.specs.machine_semantics.Steps.{Kinds}
use Rattle.separation_kinds.specs.cell_code.Plain.{PlainFunction, PlainCode, function_at}
use Rattle.separation_kinds.specs.code_rules.Codes.{label_at}
use Rattle.separation_kinds.specs.code_rules.Kinds.{at, from_of}
use Rattle.separation_kinds.specs.code_rules.Entry.{entry}
use Rattle.separation_kinds.specs.code_rules.Taking.{part, is_heir, Chain, IsReached}
use Rattle.separation_kinds.specs.code_rules.Asked.{known_fields}
use Rattle.separation_kinds.specs.code_rules.Handing.{arguments}
use Rattle.separation_kinds.specs.code_rules.Leaves.{Leaves}
use Rattle.separation_kinds.specs.code_rules.Flow.{is_as_asked, Holds, Comes, KnownAt}
use Rattle.separation_kinds.proofs.code_rules.Walks.{Walked, Found, Ended, Unsure, walk, outcome, walk_of, reached_by}
use Rattle.separation_kinds.proofs.code_rules.Known.{after, after_leaves}
use Rattle.separation_kinds.proofs.code_rules.Once.{leaves_once}
use Rattle.separation_kinds.specs.Meanings.{sum_from}
use Rattle.separation_kinds.proofs.Basics.{apart}
use Rattle.separation_kinds.proofs.KindLemmas.{not_gone_within}
use Rattle.separation_kinds.proofs.Agree.{one_here, one_apart}
use Rattle.separation_kinds.proofs.Reaching.{no_chain}
use Rattle.separation.proofs.Stores.{same_place}
use Rattle.separation.proofs.Depth.{sum_zero, sum_add, sum_one, sum_ones}
use Rattle.separation.specs.Codes.{AreKinds}

-- ---- a chain takes no more steps than there are registers

-- the first n registers after a from
abbrev path : List Kind → ℕ → Option From → List ℕ
path ks zero o = []
path ks (suc n) None = []
path ks (suc n) (Some f) = f.register ∷ path ks n (from_of (at ks f.register))

path_length : (ks : List Kind) (heir : ℕ → Bool) (n : ℕ) (o : Option From) (d : ℕ) → Chain ks heir n o d → length (path ks n o) ≡ n
path_length ks heir zero o d c = refl
path_length ks heir (suc n) None d c = no_chain ks heir (suc n) d c
path_length ks heir (suc n) (Some f) d c = ap suc (path_length ks heir n (from_of (at ks f.register)) d c.1)

-- it goes on from a register that is there
goes_within : (ks : List Kind) (heir : ℕ → Bool) (n r d : ℕ) → Chain ks heir n (from_of (at ks r)) d → r < length ks
goes_within ks heir n r d c = not_gone_within ks r (λ gone. no_chain ks heir n d (subst (λ k. Chain ks heir n (from_of k) d) gone c))

abbrev AllBelow : ℕ → List ℕ → Type 0
AllBelow n [] = Unit {0}
AllBelow n (x ∷ xs) = (x < n) × AllBelow n xs

path_below : (ks : List Kind) (heir : ℕ → Bool) (n : ℕ) (o : Option From) (d : ℕ) → Chain ks heir n o d → AllBelow (length ks) (path ks n o)
path_below ks heir zero o d c = tt
path_below ks heir (suc n) None d c = tt
path_below ks heir (suc n) (Some f) d c = (goes_within ks heir n f.register d c.1, path_below ks heir n (from_of (at ks f.register)) d c.1)

-- after registers whose froms are one
following : (ks : List Kind) (heir : ℕ → Bool) (m n a b : ℕ) → ((f g : From) → f.register ≡ g.register → Chain ks heir m (Some f) a → Chain ks heir n (Some g) b → m ≡ n) → (o p : Option From) → o ≡ p → Chain ks heir m o a → Chain ks heir n p b → m ≡ n
following ks heir m n a b ih None p e x y = no_chain ks heir m a x
following ks heir m n a b ih (Some f) None e x y = no_chain ks heir n b y
following ks heir m n a b ih (Some f) (Some g) e x y = ih f g (ap (λ (f : From). f.register) (same_Some f g e)) x y

chain_length : (ks : List Kind) (heir : ℕ → Bool) (m n : ℕ) (f g : From) (a b : ℕ) → f.register ≡ g.register → Chain ks heir m (Some f) a → Chain ks heir n (Some g) b → m ≡ n
chain_length ks heir zero zero f g a b e x y = refl
chain_length ks heir zero (suc n) f g a b e x y = apart (heir g.register) (ap heir (sym e) ∙ x.0) y.0
chain_length ks heir (suc m) zero f g a b e x y = apart (heir g.register) y.0 (ap heir (sym e) ∙ x.0)
chain_length ks heir (suc m) (suc n) f g a b e x y = ap suc (following ks heir m n a b (λ f g. chain_length ks heir m n f g a b) (from_of (at ks f.register)) (from_of (at ks g.register)) (ap (λ r. from_of (at ks r)) e) x.1 y.1)

-- a register on the path begins a chain of its own
member : (ks : List Kind) (heir : ℕ → Bool) (n : ℕ) (o : Option From) (d r : ℕ) → Chain ks heir n o d → 0 < count r (path ks n o) → (m : ℕ) × (f : From) × (m ≤ n) × (f.register ≡ r) × Chain ks heir m (Some f) d
member ks heir zero o d r c h = absurd (let z : ⊥ = omega arith in z)
member ks heir (suc n) None d r c h = no_chain ks heir (suc n) d c
member ks heir (suc n) (Some f) d r c h = elim (same_place r f.register) as (λ v. (m : ℕ) × (g : From) × (m ≤ suc n) × (g.register ≡ r) × Chain ks heir m (Some g) d) [
  | inl e ↦ (suc n, f, (let z : suc n ≤ suc n = omega arith in z), sym e, c)
  | inr off ↦
      let none = one_apart r f.register off in
      let i = member ks heir n (from_of (at ks f.register)) d r c.1 (omega arith) in
      (i.0, i.1, (let z = i.2 in let y : i.0 ≤ suc n = omega arith in y), i.3, i.4)
]

path_once : (ks : List Kind) (heir : ℕ → Bool) (n : ℕ) (o : Option From) (d r : ℕ) → Chain ks heir n o d → count r (path ks n o) ≤ 1
path_once ks heir zero o d r c = omega arith
path_once ks heir (suc n) None d r c = omega arith
path_once ks heir (suc n) (Some f) d r c = elim (same_place r f.register) as (λ v. one_at r f.register + count r (path ks n (from_of (at ks f.register))) ≤ 1) [
  | inl e ↦
      let one = one_here r f.register e in
      let none : count r (path ks n (from_of (at ks f.register))) ≡ 0 = none_of (count r (path ks n (from_of (at ks f.register)))) (λ some.
      let i = member ks heir n (from_of (at ks f.register)) d r c.1 some in
      let same = chain_length ks heir i.0 (suc n) i.1 f d d (i.3 ∙ e) i.4 c in
      let few = i.2 in
      let z : ⊥ = omega arith in
      z) in
      omega arith
  | inr off ↦
      let none = one_apart r f.register off in
      let rest = path_once ks heir n (from_of (at ks f.register)) d r c.1 in
      omega arith
]
  where
    none_of : (n : ℕ) → (0 < n → ⊥) → n ≡ 0
    none_of zero h = refl
    none_of (suc n) h = absurd (h (let z : 0 < suc n = omega arith in z))

sum_count : (n : ℕ) (xs : List ℕ) → AllBelow n xs → sum_from (λ r. count r xs) 0 n ≡ length xs
sum_count n [] b = sum_zero (λ r. 0) 0 n (λ r low high. refl)
sum_count n (x ∷ xs) b =
    let h = b.0 in
    let p = sum_add (λ r. one_at r x) (λ r. count r xs) 0 n in
    let q = sum_one x 0 n (omega arith) (omega arith) in
    let r = sum_count n xs b.1 in
    omega arith

chain_short : (ks : List Kind) (heir : ℕ → Bool) (n : ℕ) (o : Option From) (d : ℕ) → Chain ks heir n o d → n ≤ length ks
chain_short ks heir n o d c =
    let a = path_length ks heir n o d c in
    let b = sum_count (length ks) (path ks n o) (path_below ks heir n o d c) in
    let e = sum_ones (λ r. count r (path ks n o)) 0 (length ks) (λ r. path_once ks heir n o d r c) in
    omega arith

-- ---- walks

abbrev IsWalk : List Kind → (ℕ → Bool) → ℕ → Option From → Walked → Type 0
IsWalk ks heir n o (Found d) = (m : ℕ) × Chain ks heir m o d
IsWalk ks heir n o Ended = (m d : ℕ) → Chain ks heir m o d → ⊥
IsWalk ks heir n o Unsure = (m d : ℕ) → Chain ks heir m o d → n ≤ m

further : (ks : List Kind) (heir : ℕ → Bool) (n : ℕ) (f : From) (w : Walked) → heir f.register ≡ false → IsWalk ks heir n (from_of (at ks f.register)) w → IsWalk ks heir (suc n) (Some f) w
further ks heir n f (Found d) e x = (suc x.0, (e, x.1))
further ks heir n f Ended e x = ended
  where
    ended : (m d : ℕ) → Chain ks heir m (Some f) d → ⊥
    ended zero d c = apart (heir f.register) c.0 e
    ended (suc m) d c = x m d c.1
further ks heir n f Unsure e x = long
  where
    long : (m d : ℕ) → Chain ks heir m (Some f) d → suc n ≤ m
    long zero d c = apart (heir f.register) c.0 e
    long (suc m) d c = let z = x m d c.1 in omega arith

is_walk : (ks : List Kind) (heir : ℕ → Bool) (n : ℕ) (o : Option From) → IsWalk ks heir n o (walk ks heir n o)
is_walk ks heir zero None = λ m d c. no_chain ks heir m d c
is_walk ks heir (suc n) None = λ m d c. no_chain ks heir m d c
is_walk ks heir zero (Some f) = λ m d c. omega arith
is_walk ks heir (suc n) (Some f) = by (heir f.register) refl (is_walk ks heir n (from_of (at ks f.register)))
  where
    by : (b : Bool) → heir f.register ≡ b → IsWalk ks heir n (from_of (at ks f.register)) (walk ks heir n (from_of (at ks f.register))) → IsWalk ks heir (suc n) (Some f) (if b then Found f.register else walk ks heir n (from_of (at ks f.register)))
    by true e w = (0, (e, refl))
    by false e w = further ks heir n f (walk ks heir n (from_of (at ks f.register))) e w

reaches : (ks : List Kind) (heir : ℕ → Bool) (q : ℕ) (w : Walked) → IsWalk ks heir (suc (length ks)) (from_of (at ks q)) w → IsReached ks heir q (outcome w)
reaches ks heir q (Found d) x = x
reaches ks heir q Ended x = λ d r. x r.0 d r.1
reaches ks heir q Unsure x = λ d r. let a = x r.0 d r.1 in let b = chain_short ks heir r.0 (from_of (at ks q)) d r.1 in absurd (let z : ⊥ = omega arith in z)

always_reached : (ks : List Kind) (heir : ℕ → Bool) (q : ℕ) → IsReached ks heir q (reached_by ks heir q)
always_reached ks heir q = reaches ks heir q (walk_of ks heir (at ks q)) (is_walk ks heir (suc (length ks)) (from_of (at ks q)))

-- ---- kinds, one instruction after another

leaves_is : (c : PlainCode) (ks : List Kind) (x : Instr) (left : List Kind) → Leaves c ks x left → after c ks x ≡ Some left
leaves_is c ks (I.Const d v) left p = after_leaves c ks (I.Const d v) left refl p
leaves_is c ks (I.Atom d t k) left p = after_leaves c ks (I.Atom d t k) left refl p
leaves_is c ks (I.Move d r) left p = after_leaves c ks (I.Move d r) left refl p
leaves_is c ks (I.Arith d o a b line col) left p = after_leaves c ks (I.Arith d o a b line col) left refl p
leaves_is c ks (I.Test r k target) left p = after_leaves c ks (I.Test r k target) left refl p
leaves_is c ks (I.TestInt r v target) left p = after_leaves c ks (I.TestInt r v target) left refl p
leaves_is c ks (I.Peek d r i) left p = after_leaves c ks (I.Peek d r i) left refl p
leaves_is c ks (I.Take r ds) left p =
    let heir : ℕ → Bool = is_heir c.types ks r (part ds (known_fields c.types (at ks r))) in
    ap Some (leaves_once c ks (I.Take r ds) _ left (reached_by ks heir, always_reached ks heir, refl) p)
leaves_is c ks (I.Put d t k rs) left p = after_leaves c ks (I.Put d t k rs) left refl p
leaves_is c ks (I.Drop r) left p = after_leaves c ks (I.Drop r) left refl p
leaves_is c ks (I.Free r) left p = after_leaves c ks (I.Free r) left refl p
leaves_is c ks (I.Call g rs ds) left p = after_leaves c ks (I.Call g rs ds) left refl p
leaves_is c ks (I.Tail g rs) left p = absurd p
leaves_is c ks (I.Ret rs) left p = absurd p
leaves_is c ks (I.Jump target) left p = absurd p

abbrev here : Option (List Kind) → Option (List Kind) → Option (List Kind)
here None cur = cur
here (Some m) cur = Some m

abbrev row_next : PlainCode → List Kind → Instr → Bool → Option (List Kind)
row_next c ks x true = after c ks x
row_next c ks x false = None

abbrev next_kinds : PlainCode → PlainFunction → ℕ → Option (List Kind) → Option Instr → Option (List Kind)
next_kinds c f i None x = None
next_kinds c f i (Some ks) None = None
next_kinds c f i (Some ks) (Some x) = row_next c ks x (is_as_asked c f i ks x)

abbrev coming : PlainCode → PlainFunction → ℕ → Option (List Kind)
coming c f zero = Some (entry c f)
coming c f (suc i) = next_kinds c f i (here (label_at f.labels i) (coming c f i)) (slice_get f.instrs i)

abbrev kinds_at : PlainCode → PlainFunction → ℕ → Option (List Kind)
kinds_at c f i = here (label_at f.labels i) (coming c f i)

holds_here : (o : Option (List Kind)) (P : List Kind → Type 0) (q : Option (List Kind)) → ((ks : List Kind) → P ks → q ≡ Some ks) → (ks : List Kind) → Holds o P ks → here o q ≡ Some ks
holds_here None P q h ks p = h ks p
holds_here (Some m) P q h ks p = ap Some (sym p)

comes_is : (c : PlainCode) (f : PlainFunction) (i : ℕ) (ks : List Kind) → Comes c f i ks → coming c f i ≡ Some ks
comes_is c f zero ks p = ap Some (sym p)
comes_is c f (suc i) ks p =
    let k : kinds_at c f i ≡ Some p.0 = holds_here (label_at f.labels i) (Comes c f i) (coming c f i) (comes_is c f i) p.0 p.2 in
    ap₂ (next_kinds c f i) k p.3 ∙ (ap (row_next c p.0 p.1) p.4 ∙ leaves_is c p.0 p.1 ks p.5)

known_is : (c : PlainCode) (f : PlainFunction) (i : ℕ) (ks : List Kind) → KnownAt c f i ks → kinds_at c f i ≡ Some ks
known_is c f i ks p = holds_here (label_at f.labels i) (Comes c f i) (coming c f i) (comes_is c f i) ks p

-- ---- before each instruction, and waiting

abbrev or_none : Option (List Kind) → List Kind
or_none None = []
or_none (Some ks) = ks

abbrev known_in : PlainCode → Option PlainFunction → ℕ → Option (List Kind)
known_in c None i = None
known_in c (Some f) i = kinds_at c f i

abbrev before_of : PlainCode → Kinds
before_of c n i = or_none (known_in c (function_at c n) i)

abbrev call_left : PlainCode → List Kind → Option Instr → Option (List Kind)
call_left c ks None = None
call_left c ks (Some (I.Const d v)) = None
call_left c ks (Some (I.Atom d t k)) = None
call_left c ks (Some (I.Move d r)) = None
call_left c ks (Some (I.Arith d o a b line col)) = None
call_left c ks (Some (I.Test r k target)) = None
call_left c ks (Some (I.TestInt r v target)) = None
call_left c ks (Some (I.Peek d r i)) = None
call_left c ks (Some (I.Take r ds)) = None
call_left c ks (Some (I.Put d t k rs)) = None
call_left c ks (Some (I.Drop r)) = None
call_left c ks (Some (I.Free r)) = None
call_left c ks (Some (I.Call g rs ds)) = arguments c false ks g rs
call_left c ks (Some (I.Tail g rs)) = None
call_left c ks (Some (I.Ret rs)) = None
call_left c ks (Some (I.Jump target)) = None

abbrev wait_in : PlainCode → Option PlainFunction → ℕ → Option (List Kind) → Option (List Kind)
wait_in c None i ks = None
wait_in c (Some f) i None = None
wait_in c (Some f) i (Some ks) = call_left c ks (slice_get f.instrs i)

abbrev waits_of : PlainCode → Kinds
waits_of c n i = or_none (wait_in c (function_at c n) i (known_in c (function_at c n) i))

pub kinds_found : (c : PlainCode) → (before : Kinds) × (waits : Kinds) × AreKinds c before waits
kinds_found c = (
  before_of c,
  waits_of c,
  record {
    known = λ n i f ks is known. ap (λ o. or_none (known_in c o i)) is ∙ ap or_none (known_is c f i ks known);
    wait = λ n i f ks g rs ds left is known instr e. ap (λ o. or_none (wait_in c o i (known_in c o i))) is
        ∙ ap (λ o. or_none (wait_in c (Some f) i o)) (known_is c f i ks known)
        ∙ ap (λ o. or_none (call_left c ks o)) instr
        ∙ ap or_none e;
  },
)
