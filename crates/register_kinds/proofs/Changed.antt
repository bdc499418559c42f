-- What writing, using up and testing make of all kinds, as one register is looked at after another.
use Rattle.std.proofs.Common.{◌≡◌, ℕ, zero, suc, ◌+◌, ◌<◌, ◌⊎◌, inl, inr, List, [], ◌∷◌, length, map, set, refl, sym, ap, ◌∙◌, arith}
use Rattle.std.specs.Prelude.{Bool, true, false, ◌||◌, ◌==◌, Option, Some, None, if◌then◌else◌}
use Rattle.std.proofs.lemmas.Bool.Decides.{eqb_tells}
use Rattle.kind_domain.specs.cell_code.declared.kind.From.{From}
use Rattle.kind_domain.specs.cell_code.declared.kind.Kind.{Kind}
use Rattle.kind_domain.specs.cell_code.declared.kind.Kind.TheVariants.{Gone, Scalar, Owned, Lent, Credit}
use Rattle.kind_domain.specs.code_rules.Types.{numbers}
use Rattle.kind_domain.specs.code_rules.Kinds.{at, has, from_of, is_lent_of}
use Rattle.kind_domain.specs.code_rules.Changes.{become, forget, forget_from, written, goes, used_up, narrow, tested}
use Rattle.kind_domain.specs.Leading.{names}
use Rattle.register_kinds.specs.Steps.{each, forgets, lose}
use Rattle.kind_domain.proofs.Places.{at_set_same, at_set_other, at_map, same_at, set_long, map_long, at_past}
use Rattle.register_kinds.proofs.EachPlace.{each_all}
use Rattle.register_kinds.proofs.EachPlace.{pick, set_pick}
use Rattle.kind_domain.proofs.Places.{set_same, at_set_gone}
use Rattle.kind_domain.proofs.fip_language.Facts.{less_or_not as below_or}

-- all registers at once

numbers_long : (i n : ℕ) → length (numbers i n) ≡ n
numbers_long i zero = refl
numbers_long i (suc n) = ap suc (numbers_long (suc i) n)

map_at : (f : ℕ → Kind) (i n q : ℕ) → q < n → at (map f (numbers i n)) q ≡ f (i + q)
map_at f i zero q h = absurd (omega arith)
map_at f i (suc n) zero h = ap f (omega arith)
map_at f i (suc n) (suc q) h = map_at f (suc i) n q (omega arith) ∙ ap f (omega arith)

map_to_long : (f : ℕ → Kind) (ns : List ℕ) → length (map f ns) ≡ length ns
map_to_long f [] = refl
map_to_long f (x ∷ ns) = ap suc (map_to_long f ns)

pub become_long : (ks : List Kind) (f : ℕ → Kind) → length (become ks f) ≡ length ks
become_long ks f = map_to_long f (numbers 0 (length ks)) ∙ numbers_long 0 (length ks)

pub at_become : (ks : List Kind) (f : ℕ → Kind) (q : ℕ) → q < length ks → at (become ks f) q ≡ f q
at_become ks f q h = map_at f 0 (length ks) q h ∙ ap f (omega arith)

-- Kinds are what all become where each register is.
pub is_become : (ks new : List Kind) (f : ℕ → Kind) → length new ≡ length ks →
    ((q : ℕ) → q < length ks → at new q ≡ f q) → new ≡ become ks f
is_become ks new f l h =
    same_at new (become ks f) (l ∙ sym (become_long ks f))
    (λ q. elim (below_or q (length ks)) [
      | inl a ↦ h q a ∙ sym (at_become ks f q a)
      | inr a ↦ (let b = become_long ks f in
          at_past new q (omega arith) ∙ sym (at_past (become ks f) q (omega arith)))
    ])

-- forgetting

from_if : (p : ℕ → Bool) (f : From) (b : Bool) → p f.register ≡ b →
    forget_from p (if b then None else Some f) ≡ (if b then None else Some f)
from_if p f true e = refl
from_if p f false e = rw e refl

from_twice : (p : ℕ → Bool) (from : Option From) → forget_from p (forget_from p from) ≡ forget_from p from
from_twice p None = refl
from_twice p (Some f) = from_if p f (p f.register) refl

pub forget_twice : (p : ℕ → Bool) (k : Kind) → forget p (forget p k) ≡ forget p k
forget_twice p Gone = refl
forget_twice p (Scalar t) = refl
forget_twice p (Owned t s) = refl
forget_twice p (Lent t s root from) = ap (λ f. Lent t s root f) (from_twice p from)
forget_twice p (Credit k) = refl

pub not_true : (a b : Bool) → (a ≡ true → b ≡ true) → b ≡ false → a ≡ false
not_true true b f e = absurd (let g = f refl in cc)
not_true false b f e = refl

from_same : (p r : ℕ → Bool) → ((q : ℕ) → p q ≡ r q) → (from : Option From) → forget_from p from ≡ forget_from r from
from_same p r h None = refl
from_same p r h (Some f) = ap (λ b. if b then None else Some f) (h f.register)

pub forget_same : (p r : ℕ → Bool) → ((q : ℕ) → p q ≡ r q) → (k : Kind) → forget p k ≡ forget r k
forget_same p r h Gone = refl
forget_same p r h (Scalar t) = refl
forget_same p r h (Owned t s) = refl
forget_same p r h (Lent t s root from) = ap (λ f. Lent t s root f) (from_same p r h from)
forget_same p r h (Credit k) = refl

pub map_same : (f g : Kind → Kind) → ((k : Kind) → f k ≡ g k) → (ks : List Kind) → map f ks ≡ map g ks
map_same f g h [] = refl
map_same f g h (k ∷ ks) = let a = h k in let b = map_same f g h ks in cc

from_unnamed : (d : ℕ) (from : Option From) → names d from ≡ false → forget_from (λ q. q == d) from ≡ from
from_unnamed d None e = refl
from_unnamed d (Some f) e = rw e refl

pub forgets_unnamed : (d : ℕ) (k : Kind) → names d (from_of k) ≡ false → forgets d k ≡ k
forgets_unnamed d Gone e = refl
forgets_unnamed d (Scalar t) e = refl
forgets_unnamed d (Owned t s) e = refl
forgets_unnamed d (Lent t s root from) e = ap (λ f. Lent t s root f) (from_unnamed d from e)
forgets_unnamed d (Credit k) e = refl

-- what a step that changes nothing leaves

pub set_own : (f : Kind → Kind) (ks : List Kind) (q : ℕ) → f (at ks q) ≡ at ks q → ks ≡ set ks q (f (at ks q))
set_own f ks q e = sym (ap (λ k. set ks q k) e ∙ set_same ks q)

pub forget_none : (p : ℕ → Bool) (k : Kind) → from_of k ≡ None → forget p k ≡ k
forget_none p Gone e = refl
forget_none p (Scalar t) e = refl
forget_none p (Owned t s) e = refl
forget_none p (Lent t s root None) e = refl
forget_none p (Lent t s root (Some f)) e = absurd (cc)
forget_none p (Credit k) e = refl

pub some_from : (a b : From) → Some a ≡ Some b → a ≡ b
some_from a b e = cc

pub forget_kept : (p : ℕ → Bool) (k : Kind) (f : From) → from_of k ≡ Some f → p f.register ≡ false → forget p k ≡ k
forget_kept p Gone f e h = refl
forget_kept p (Scalar t) f e h = refl
forget_kept p (Owned t s) f e h = refl
forget_kept p (Lent t s root None) f e h = absurd (cc)
forget_kept p (Lent t s root (Some g)) f e h =
    let i : p g.register ≡ false = ap (λ x. p x.register) (some_from g f e) ∙ h in
    ap (λ x. Lent t s root x) (rw i refl)
forget_kept p (Credit k) f e h = refl

pub forget_by : (p : ℕ → Bool) (k : Kind) (o : Option From) → from_of k ≡ o →
    ((f : From) → o ≡ Some f → p f.register ≡ false) → forget p k ≡ k
forget_by p k None e h = forget_none p k e
forget_by p k (Some f) e h = forget_kept p k f e (h f refl)

pub lose_kept : (r : ℕ) (k : Kind) → is_lent_of r k ≡ false → lose r k ≡ k
lose_kept r k e = rw e refl

-- writing

written_at : (ks : List Kind) (d : ℕ) (k j : Kind) (q : ℕ) → j ≡ forgets d k → q < length ks →
    (((q == d) ≡ true) × (q ≡ d)) ⊎ (((q == d) ≡ false) × (q ≡ d → ⊥)) →
    at (set (map (forgets d) ks) d j) q ≡ forget (λ r. r == d) (if q == d then k else at ks q)
written_at ks d k j q i h (inl g) =
    let m = map_long (forgets d) ks in
    let e : at (set (map (forgets d) ks) d j) d ≡ j
    = at_set_same (map (forgets d) ks) d j (let z = g.1 in omega arith) in
    rw g.0 (ap (λ z. at (set (map (forgets d) ks) d j) z) g.1 ∙ e ∙ i)
written_at ks d k j q i h (inr g) =
    rw g.0 (at_set_other (map (forgets d) ks) d q j (λ e. g.1 (sym e)) ∙ at_map (forgets d) refl ks q)

pub written_is : (ks new : List Kind) (d : ℕ) (k j : Kind) → j ≡ forgets d k → new ≡ set (map (forgets d) ks) d j →
    new ≡ written ks d k
written_is ks new d k j i e =
    is_become ks new (λ q. forget (λ r. r == d) (if q == d then k else at ks q))
    (ap length e ∙ set_long (map (forgets d) ks) d j ∙ map_long (forgets d) ks)
    (λ q h. ap (λ x. at x q) e ∙ written_at ks d k j q i h (eqb_tells q d))

-- using up

pub lent_forget : (p : ℕ → Bool) (r : ℕ) (k : Kind) → is_lent_of r (forget p k) ≡ is_lent_of r k
lent_forget p r Gone = refl
lent_forget p r (Scalar t) = refl
lent_forget p r (Owned t s) = refl
lent_forget p r (Lent t s root from) = refl
lent_forget p r (Credit k) = refl

pick_lent : (p : ℕ → Bool) (r : ℕ) (b : Bool) (k : Kind) → is_lent_of r (pick b (forget p k) k) ≡ is_lent_of r k
pick_lent p r true k = lent_forget p r k
pick_lent p r false k = refl

-- Forgetting changes no root.
pub goes_still : (p : ℕ → Bool) (r x : ℕ) (ks new : List Kind) → new ≡ set ks x (forget p (at ks x)) → (q : ℕ) →
    goes new r q ≡ goes ks r q
goes_still p r x ks new e q =
    ap (λ k. (q == r) || is_lent_of r k) (ap (λ z. at z q) e ∙ set_pick (forget p) refl ks x q)
    ∙ ap (λ b. (q == r) || b) (pick_lent p r (x == q) (at ks q))

-- one register more forgets what goes, as that was at the start
pub going_step : (r x : ℕ) (ks start new : List Kind) (qs : List ℕ) → ((q : ℕ) → goes ks r q ≡ goes start r q) →
    new ≡ set ks x (forget (goes ks r) (at ks x)) →
    each (forget (goes start r)) new qs ≡ each (forget (goes start r)) ks (x ∷ qs)
going_step r x ks start new qs h e =
    ap (λ z. each (forget (goes start r)) z qs)
    (e ∙ ap (λ k. set ks x k) (forget_same (goes ks r) (goes start r) h (at ks x)))

lose_if : (r : ℕ) (k : Kind) (b : Bool) → is_lent_of r k ≡ b → lose r (if b then Gone else k) ≡ (if b then Gone else k)
lose_if r k true e = refl
lose_if r k false e = rw e refl

lose_twice : (r : ℕ) (k : Kind) → lose r (lose r k) ≡ lose r k
lose_twice r k = lose_if r k (is_lent_of r k) refl

pub lose_listed : (r : ℕ) (ks : List Kind) (qs : List ℕ) → ((q : ℕ) → is_lent_of r (at ks q) ≡ true → has qs q ≡ true) →
    each (lose r) ks qs ≡ map (lose r) ks
lose_listed r ks qs h =
    each_all (lose r) refl (lose_twice r) qs ks
    (λ q e. lose_kept r (at ks q) (not_true (is_lent_of r (at ks q)) (has qs q) (h q) e))

used_at : (ks : List Kind) (r q : ℕ) → q < length ks →
    (((q == r) ≡ true) × (q ≡ r)) ⊎ (((q == r) ≡ false) × (q ≡ r → ⊥)) →
    at (set (map (lose r) (map (forget (goes ks r)) ks)) r Gone) q
    ≡ (if goes ks r q then Gone else forget (goes ks r) (at ks q))
used_at ks r q h (inl g) =
    rw g.0 (ap (λ z. at (set (map (lose r) (map (forget (goes ks r)) ks)) r Gone) z) g.1
    ∙ at_set_gone (map (lose r) (map (forget (goes ks r)) ks)) r)
used_at ks r q h (inr g) =
    rw g.0 (at_set_other (map (lose r) (map (forget (goes ks r)) ks)) r q Gone (λ e. g.1 (sym e))
    ∙ at_map (lose r) refl (map (forget (goes ks r)) ks) q
    ∙ ap (lose r) (at_map (forget (goes ks r)) refl ks q)
    ∙ ap (λ b. if b then Gone else forget (goes ks r) (at ks q)) (lent_forget (goes ks r) r (at ks q)))

pub used_is : (ks new : List Kind) (r : ℕ) → new ≡ set (map (lose r) (map (forget (goes ks r)) ks)) r Gone →
    new ≡ used_up ks r
used_is ks new r e =
    is_become ks new (λ q. if goes ks r q then Gone else forget (goes ks r) (at ks q))
    (ap length e ∙ set_long (map (lose r) (map (forget (goes ks r)) ks)) r Gone
    ∙ map_long (lose r) (map (forget (goes ks r)) ks) ∙ map_long (forget (goes ks r)) ks)
    (λ q h. ap (λ x. at x q) e ∙ used_at ks r q h (eqb_tells q r))

-- testing

tested_at : (ks : List Kind) (r : ℕ) (c : List ℕ) (q : ℕ) → q < length ks →
    (((q == r) ≡ true) × (q ≡ r)) ⊎ (((q == r) ≡ false) × (q ≡ r → ⊥)) →
    at (set ks r (narrow c (at ks r))) q ≡ (if q == r then narrow c (at ks q) else at ks q)
tested_at ks r c q h (inl g) =
    rw g.0 (ap (λ z. at (set ks r (narrow c (at ks r))) z) g.1
    ∙ at_set_same ks r (narrow c (at ks r)) (let z = g.1 in omega arith) ∙ ap (λ z. narrow c (at ks z)) (sym g.1))
tested_at ks r c q h (inr g) = rw g.0 (at_set_other ks r q (narrow c (at ks r)) (λ e. g.1 (sym e)))

pub tested_is : (ks new : List Kind) (r : ℕ) (c : List ℕ) → new ≡ set ks r (narrow c (at ks r)) → new ≡ tested ks r c
tested_is ks new r c e =
    is_become ks new (λ q. if q == r then narrow c (at ks q) else at ks q)
    (ap length e ∙ set_long ks r (narrow c (at ks r)))
    (λ q h. ap (λ x. at x q) e ∙ tested_at ks r c q h (eqb_tells q r))
