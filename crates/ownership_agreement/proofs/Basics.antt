-- Numbers, variables, and what binders bring into scope.
use Rattle.std.proofs.Common.{◌≡◌, ℕ, zero, suc, ◌+◌, ◌<◌, ◌≤◌, refl, ap, ◌∙◌, List, [], ◌∷◌, ◌++◌, Bool, true, false, arith}
use Rattle.std.specs.Prelude.{max, min, ◌==◌, ◌||◌, ◌&&◌, if◌then◌else◌}
use Rattle.std.proofs.lemmas.Bool.Decides.{nat_tests}
use Rattle.credit_check.specs.fip_trees.declared.program.Binder.{Binder}
use Rattle.credit_check.specs.fip_trees.Tree.{Block, Clauses, NoClauses, MoreClauses}
use Rattle.fip_rules.specs.Shape as S
use Rattle.fip_rules.specs.Rules.{owns, Ordered}
use Rattle.fip_rules.specs.Notes.{always}
use Rattle.fip_rules.specs.World.{World}
use Rattle.fip_rules.specs.Shapes.{Names, Bind, mark, binds, within, following, taking, binders, clause_shape, shape_block, shape_clauses}
use Rattle.ownership_calculus.specs.Terms as C
use Rattle.ownership_calculus.specs.Terms.{has, paid, Own}
use Rattle.ownership_calculus.specs.Clean.{used_up, asks_lent, asks_taken}
use Rattle.ownership_agreement.specs.Bodies.{Scalars, variables, entering, inside}
use Rattle.fip_rules.proofs.fip_base.fip_language.Facts.{suc_on as more_sum}
pub use Rattle.fip_rules.proofs.fip_base.fip_language.Facts.{and_assoc, greater_unequal as apart_back, greater_unequal_back as apart, same_and, same_number, same_or}

abbrev pub pos : ℕ → Bool
pos zero = false
pos (suc n) = true

zero_sum : (b : ℕ) → zero + b ≡ b
zero_sum b = omega arith

pub pos_sum : (a b : ℕ) → pos (a + b) ≡ (pos a || pos b)
pos_sum zero b = ap pos (zero_sum b)
pos_sum (suc a) b = ap pos (more_sum a b)

zero_max : (b : ℕ) → max zero b ≡ b
zero_max b = omega arith

max_zero : (a : ℕ) → max (suc a) zero ≡ suc a
max_zero a = omega arith

more_max : (a b : ℕ) → max (suc a) (suc b) ≡ suc (max a b)
more_max a b = omega arith

pub pos_max : (a b : ℕ) → pos (max a b) ≡ (pos a || pos b)
pos_max zero b = ap pos (zero_max b)
pos_max (suc a) zero = ap pos (max_zero a)
pos_max (suc a) (suc b) = ap pos (more_max a b)

zero_min : (b : ℕ) → min zero b ≡ 0
zero_min b = omega arith

min_zero : (a : ℕ) → min (suc a) zero ≡ 0
min_zero a = omega arith

more_min : (a b : ℕ) → min (suc a) (suc b) ≡ suc (min a b)
more_min a b = omega arith

pub pos_min : (a b : ℕ) → pos (min a b) ≡ (pos a && pos b)
pos_min zero b = ap pos (zero_min b)
pos_min (suc a) zero = ap pos (min_zero a)
pos_min (suc a) (suc b) = ap pos (more_min a b)

pub if_pos : (c : Bool) → c ≡ pos (if c then 1 else 0)
if_pos true = refl
if_pos false = refl

pub or_assoc : (a b c : Bool) → ((a || b) || c) ≡ (a || (b || c))
or_assoc true b c = refl
or_assoc false b c = refl

pub paid_none : (n x m : ℕ) → m ≡ paid n (Own x) + m
paid_none zero x m = omega arith
paid_none (suc n) x m = omega arith

-- a variable that may be scalar
pub var_pos : (sc : Scalars) (x y : ℕ) (b c : Bool) → sc y ≡ b → (y == x) ≡ c → sc x ≡ false → (y == x) ≡ pos (used_up (if b then C.Scalar else C.Named y) (Own x))
var_pos sc x y true true e f h = absurd (let z : sc y ≡ sc x = ap sc (same_number y x f) in cc)
var_pos sc x y true false e f h = f
var_pos sc x y false c e f h = if_pos (y == x)

-- ---- binders

abbrev pub past : ℕ → List Binder → ℕ
past n [] = n
past n (b ∷ bs) = past (suc n) bs

pub past_inside : (w : World) (taken : Bool) (c : Names) (bs : List Binder) → (inside w taken c bs).next ≡ past c.next bs
past_inside w taken c [] = refl
past_inside w taken c (b ∷ bs) = past_inside w taken (record { marks = c.marks ++ mark c.next b ∷ []; next = suc c.next }) bs

pub past_le : (n : ℕ) (bs : List Binder) → n ≤ past n bs
past_le n [] = omega arith
past_le n (b ∷ bs) = let h = past_le (suc n) bs in omega arith

pub ordered_within : (c : Names) (bs : List Bind) (e : S.Shape) → Ordered c.next (binds c.next bs e) → Ordered (within c bs).next e
ordered_within c [] e h = h
ordered_within c (b ∷ bs) e h = ordered_within (record { marks = c.marks ++ mark c.next b.binder ∷ []; next = suc c.next }) bs e h.1

pub ordered_inside : (w : World) (taken : Bool) (c : Names) (bs : List Binder) (b : Block) → Ordered c.next (clause_shape c (taking w taken bs) (λ d. shape_block w d b)) → Ordered (inside w taken c bs).next (shape_block w (inside w taken c bs) b)
ordered_inside w taken c bs b h = ordered_within c (taking w taken bs) (shape_block w (inside w taken c bs) b) h

first_owned : (s : Bool) (y : ℕ) (ys : List ℕ) (x : ℕ) → (y == x) ≡ false → has ys x ≡ false → has (if s then ys else y ∷ ys) x ≡ false
first_owned true y ys x e h = h
first_owned false y ys x e h = rw (e) h

pub not_owned : (w : World) (n x : ℕ) (bs : List Binder) → x < n → has (variables w n bs) x ≡ false
not_owned w n x [] l = refl
not_owned w n x (b ∷ bs) l = first_owned (w.scalar b.ty) n (variables w (suc n) bs) x (apart x n l) (not_owned w (suc n) x bs (omega arith))

pub not_entered : (w : World) (n x : ℕ) (sc : Scalars) (bs : List Binder) → x < n → entering w n sc bs x ≡ sc x
not_entered w n x sc [] l = refl
not_entered w n x sc (b ∷ bs) l =
    let z : (n == x) ≡ false = apart x n l in
    not_entered w (suc n) x (λ y. if n == y then w.scalar b.ty else sc y) bs (omega arith) ∙ (rw z refl)

abbrev pub Above : Scalars → ℕ → Type 0
Above sc n = (x : ℕ) → n ≤ x → sc x ≡ true

pub all_past : (w : World) (n : ℕ) (sc : Scalars) (bs : List Binder) → Above sc n → Above (entering w n sc bs) (past n bs)
all_past w n sc [] f x l = f x l
all_past w n sc (b ∷ bs) f x l =
    all_past w (suc n) (λ y. if n == y then w.scalar b.ty else sc y) bs
    (λ y m. let z = apart_back n y (omega arith) in let r = f y (omega arith) in rw (z) r) x l

pub all_inside : (w : World) (taken : Bool) (c : Names) (sc : Scalars) (bs : List Binder) → Above sc c.next → Above (entering w c.next sc bs) (inside w taken c bs).next
all_inside w taken c sc bs f x l = all_past w c.next sc bs f x (let e = past_inside w taken c bs in omega arith)

pub done_ordered : (w : World) (taken : Bool) (c : Names) (done : S.Shape) (cs : Clauses) → Ordered c.next (shape_clauses w taken c done cs) → Ordered c.next done
done_ordered w taken c done NoClauses h = h
done_ordered w taken c done (MoreClauses q body cs) h = (done_ordered w taken c (S.Either done (clause_shape (following c done) (taking w taken (binders q)) (λ d. shape_block w d body))) cs h).0

pub binds_owns : (n x : ℕ) (bs : List Bind) (e : S.Shape) → owns x (binds n bs e) ≡ owns x e
binds_owns n x [] e = refl
binds_owns n x (b ∷ bs) e = binds_owns (suc n) x bs e

pub binds_always : (n : ℕ) (bs : List Bind) (e : S.Shape) → always (binds n bs e) ≡ always e
binds_always n [] e = refl
binds_always n (b ∷ bs) e = binds_always (suc n) bs e

pub lent_taken : (x : ℕ) (cs : C.Clauses) → asks_lent (Own x) cs ≡ asks_taken (Own x) cs
lent_taken x (C.LastClause ys ks e) = refl
lent_taken x (C.MoreClauses ys ks e cs) = ap (max _) (lent_taken x cs)
