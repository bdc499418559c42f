-- That trees are whole stays so, whatever is done.
use Rattle.std.proofs.Common.{◌≡◌, ℕ, zero, suc, ◌<◌, ◌≤◌, ◌⊎◌, inl, inr, List, length, refl, sym, ap, ◌∙◌, subst, arith}
use Rattle.std.specs.Prelude.{Bool, true, false, ◌&&◌, not, is_some, ◌==◌, if◌then◌else◌, Option, Some, None}
use Rattle.std.proofs.lemmas.Bool.{eq-eqb, ne_eqb}
use Rattle.std.proofs.lemmas.Bool.Decides.{eqb_tells}
use Rattle.kind_domain.specs.fip_language.Table.{Table}
use Rattle.kind_domain.specs.cell_code.declared.kind.From.{From}
use Rattle.kind_domain.specs.cell_code.declared.kind.Kind.{Kind}
use Rattle.kind_domain.specs.cell_code.declared.kind.Kind.TheVariants.{Gone, Scalar, Owned, Lent, Credit}
use Rattle.kind_domain.specs.code_rules.Types.{is_scalar_type}
use Rattle.kind_domain.specs.code_rules.Kinds.{at, from_of, has, is_lent_of, is_owned, root_of, same_root}
use Rattle.kind_domain.specs.code_rules.Changes.{forget, forget_from, goes, narrow, tested, used_up, written}
use Rattle.kind_domain.specs.code_rules.Taking.{Chain, IsReached, IsTaken, Part, Reaches, credit, ends, fate, inherited, is_field, is_heir, is_heir_by, part, part_kind, part_or, with_root}
use Rattle.register_kinds.specs.Climbs.{AreHeld, Climb, HasOwner, IsHeld, IsWhole, tree_of}
use Rattle.kind_domain.specs.Leading.{is_lent_in}
use Rattle.kind_domain.specs.Leading.{is_lent, names}
use Rattle.register_kinds.proofs.Changed.{at_become, become_long}
use Rattle.kind_domain.proofs.Places.{at_past}
use Rattle.register_kinds.proofs.TakenKinds.{no_heir_by}
use Rattle.kind_domain.proofs.fip_language.Facts.{less_or_not as below_or, or_false_false as or_neither, or_false_left as or_left, or_false_right as or_right}
pub use Rattle.kind_domain.proofs.fip_language.Facts.{some_is as some_one, true_or_false}
use Rattle.register_kinds.proofs.Changed.{some_from as one_source}
pub use Rattle.kind_domain.proofs.code_rules.Once.{chain_once as chain_one}
pub use Rattle.register_kinds.proofs.Reaching.{from_below as source_there}

-- kinds

pub lent_in : (r : ℕ) (k : Kind) → is_lent_of r k ≡ is_lent_in (Some r) k
lent_in r Gone = refl
lent_in r (Scalar t) = refl
lent_in r (Owned t s) = refl
lent_in r (Lent t s root from) = refl
lent_in r (Credit k) = refl

forget_in : (o : Option ℕ) (p : ℕ → Bool) (k : Kind) → is_lent_in o (forget p k) ≡ is_lent_in o k
forget_in o p Gone = refl
forget_in o p (Scalar t) = refl
forget_in o p (Owned t s) = refl
forget_in o p (Lent t s root from) = refl
forget_in o p (Credit k) = refl

forget_owned : (p : ℕ → Bool) (k : Kind) → is_owned (forget p k) ≡ is_owned k
forget_owned p Gone = refl
forget_owned p (Scalar t) = refl
forget_owned p (Owned t s) = refl
forget_owned p (Lent t s root from) = refl
forget_owned p (Credit k) = refl

forget_source : (p : ℕ → Bool) (k : Kind) → from_of (forget p k) ≡ forget_from p (from_of k)
forget_source p Gone = refl
forget_source p (Scalar t) = refl
forget_source p (Owned t s) = refl
forget_source p (Lent t s root from) = refl
forget_source p (Credit k) = refl

pub owned_lent : (o : Option ℕ) (k : Kind) → is_owned k ≡ true → is_lent_in o k ≡ true → ⊥
owned_lent o Gone e h = cc
owned_lent o (Scalar t) e h = cc
owned_lent o (Owned t s) e h = cc
owned_lent o (Lent t s root from) e h = cc
owned_lent o (Credit k) e h = cc

pub owned_source : (k : Kind) → is_owned k ≡ true → from_of k ≡ None
owned_source Gone e = refl
owned_source (Scalar t) e = refl
owned_source (Owned t s) e = refl
owned_source (Lent t s root from) e = absurd (cc)
owned_source (Credit k) e = refl

root_one : (root o p : Option ℕ) → same_root root o ≡ true → same_root root p ≡ true → o ≡ p
root_one None None None e h = refl
root_one None None (Some y) e h = absurd (cc)
root_one None (Some x) p e h = absurd (cc)
root_one (Some r) None p e h = absurd (cc)
root_one (Some r) (Some x) None e h = absurd (cc)
root_one (Some r) (Some x) (Some y) e h =
    elim (eqb_tells r x) [
      | inl a ↦ elim (eqb_tells r y) [
        | inl b ↦ ap Some (sym a.1 ∙ b.1)
        | inr b ↦ absurd (let z = b.0 in cc)
      ]
      | inr a ↦ absurd (let z = a.0 in cc)
    ]

-- It reads one tree.
pub one_tree : (k : Kind) (o p : Option ℕ) → is_lent_in o k ≡ true → is_lent_in p k ≡ true → o ≡ p
one_tree Gone o p e h = absurd (cc)
one_tree (Scalar t) o p e h = absurd (cc)
one_tree (Owned t s) o p e h = absurd (cc)
one_tree (Lent t s root from) o p e h = root_one root o p e h
one_tree (Credit k) o p e h = absurd (cc)

gone_past : (ks : List Kind) (q : ℕ) (o : Option ℕ) → length ks ≤ q → is_lent_in o (at ks q) ≡ true → ⊥
gone_past ks q o h e = let g = at_past ks q h in cc

unowned_past : (ks : List Kind) (q : ℕ) → length ks ≤ q → is_owned (at ks q) ≡ true → ⊥
unowned_past ks q h e = let g = at_past ks q h in cc

pub lent_there : (ks : List Kind) (q : ℕ) (o : Option ℕ) → is_lent_in o (at ks q) ≡ true → q < length ks
lent_there ks q o e =
    elim (below_or q (length ks)) [ inl h ↦ h | inr h ↦ absurd (gone_past ks q o h e) ]

pub owned_there : (ks : List Kind) (q : ℕ) → is_owned (at ks q) ≡ true → q < length ks
owned_there ks q e =
    elim (below_or q (length ks)) [ inl h ↦ h | inr h ↦ absurd (unowned_past ks q h e) ]

-- climbing on where some registers are dead, so that none comes from them any more

from_kept : (dead : ℕ → Bool) (f : From) → dead f.register ≡ false → forget_from dead (Some f) ≡ Some f
from_kept dead f e = rw e refl

from_lost : (dead : ℕ → Bool) (f : From) → dead f.register ≡ true → forget_from dead (Some f) ≡ None
from_lost dead f e = rw e refl

pub climb_on : (ks new : List Kind) (o : Option ℕ) (dead : ℕ → Bool) → ((x : ℕ) → o ≡ Some x → dead x ≡ false) →
    ((q : ℕ) → is_lent_in o (at ks q) ≡ true → dead q ≡ false → at new q ≡ forget dead (at ks q)) → (n : ℕ)
    (from : Option From) → Climb ks o n from → (m : ℕ) × Climb new o m (forget_from dead from)
climb_on ks new o dead own same zero None c = (0, tt)
climb_on ks new o dead own same zero (Some f) c =
    subst (λ x. (m : ℕ) × Climb new o m x) (sym (from_kept dead f (own f.register c))) (0, c)
climb_on ks new o dead own same (suc n) None c = absurd c
climb_on ks new o dead own same (suc n) (Some f) c =
    elim (true_or_false (dead f.register)) [
      | inl e ↦ subst (λ x. (m : ℕ) × Climb new o m x) (sym (from_lost dead f e)) (0, tt)
      | inr e ↦ (let k = same f.register c.0 e in
          let rest = climb_on ks new o dead own same n (from_of (at ks f.register)) c.1 in
          subst (λ x. (m : ℕ) × Climb new o m x) (sym (from_kept dead f e)) (
            suc rest.0,
            (
              ap (is_lent_in o) k ∙ forget_in o dead (at ks f.register) ∙ c.0,
              subst (Climb new o rest.0) (sym (ap from_of k ∙ forget_source dead (at ks f.register))) rest.1,
            ),
          ))
    ]

held_by : (ks new : List Kind) (o : Option ℕ) (dead : ℕ → Bool) (k : Kind) (j : Kind) → HasOwner new o →
    ((x : ℕ) → o ≡ Some x → dead x ≡ false) →
    ((q : ℕ) → is_lent_in o (at ks q) ≡ true → dead q ≡ false → at new q ≡ forget dead (at ks q)) →
    IsHeld ks o (from_of k) → j ≡ forget dead k → IsHeld new o (from_of j)
held_by ks new o dead k j own alive same h e =
    let on = climb_on ks new o dead alive same h.steps (from_of k) h.climb in
    record {
      owner = own;
      steps = on.0;
      climb = subst (Climb new o on.0) (sym (ap from_of e ∙ forget_source dead k)) on.1;
    }

-- trees

forget_tree : (x : ℕ) (p : ℕ → Bool) (k : Kind) → root_of x (forget p k) ≡ root_of x k
forget_tree x p Gone = refl
forget_tree x p (Scalar t) = refl
forget_tree x p (Owned t s) = refl
forget_tree x p (Lent t s root from) = refl
forget_tree x p (Credit k) = refl

-- A from that stays leads where it led, where the registers that aren't dead have the trees that they had.
closed_from : (ks new : List Kind) (r : ℕ) (dead : ℕ → Bool) →
    ((x : ℕ) → dead x ≡ false → root_of x (at new x) ≡ Some r → root_of x (at ks x) ≡ Some r) → (from : Option From) →
    tree_of new (forget_from dead from) ≡ Some r → tree_of ks from ≡ Some r
closed_from ks new r dead h None e = absurd (cc)
closed_from ks new r dead h (Some f) e =
    elim (true_or_false (dead f.register)) [
      | inl g ↦ absurd (let z = ap (tree_of new) (from_lost dead f g) in cc)
      | inr g ↦ h f.register g (sym (ap (tree_of new) (from_kept dead f g)) ∙ e)
    ]

closed_by : (ks new : List Kind) (r : ℕ) (dead : ℕ → Bool) (k j : Kind) →
    ((x : ℕ) → dead x ≡ false → root_of x (at new x) ≡ Some r → root_of x (at ks x) ≡ Some r) →
    (tree_of ks (from_of k) ≡ Some r → is_lent_in (Some r) k ≡ true) → j ≡ forget dead k →
    tree_of new (from_of j) ≡ Some r → is_lent_in (Some r) j ≡ true
closed_by ks new r dead k j h c i e =
    ap (is_lent_in (Some r)) i ∙ forget_in (Some r) dead k
    ∙ c (closed_from ks new r dead h (from_of k)
    (ap (tree_of new) (sym (ap from_of i ∙ forget_source dead k)) ∙ e))

unsourced_past : (ks : List Kind) (q r : ℕ) → length ks ≤ q → tree_of ks (from_of (at ks q)) ≡ Some r → ⊥
unsourced_past ks q r h e = let g = ap (λ k. tree_of ks (from_of k)) (at_past ks q h) in cc

pub sourced_there : (ks : List Kind) (q r : ℕ) → tree_of ks (from_of (at ks q)) ≡ Some r → q < length ks
sourced_there ks q r e =
    elim (below_or q (length ks)) [ inl h ↦ h | inr h ↦ absurd (unsourced_past ks q r h e) ]

rooted_past : (ks : List Kind) (x r : ℕ) → length ks ≤ x → root_of x (at ks x) ≡ Some r → ⊥
rooted_past ks x r h e = let g = ap (root_of x) (at_past ks x h) in cc

rooted_there : (ks : List Kind) (x r : ℕ) → root_of x (at ks x) ≡ Some r → x < length ks
rooted_there ks x r e =
    elim (below_or x (length ks)) [ inl h ↦ h | inr h ↦ absurd (rooted_past ks x r h e) ]

-- writing

written_other : (ks : List Kind) (d : ℕ) (k : Kind) (q : ℕ) → q < length ks → (q == d) ≡ false →
    at (written ks d k) q ≡ forget (λ r. r == d) (at ks q)
written_other ks d k q h e =
    at_become ks (λ q. forget (λ r. r == d) (if q == d then k else at ks q)) q h
    ∙ ap (λ b. forget (λ r. r == d) (if b then k else at ks q)) e

written_own : (ks : List Kind) (d : ℕ) (k : Kind) (q : ℕ) → q < length ks → (q == d) ≡ true →
    at (written ks d k) q ≡ forget (λ r. r == d) k
written_own ks d k q h e =
    at_become ks (λ q. forget (λ r. r == d) (if q == d then k else at ks q)) q h
    ∙ ap (λ b. forget (λ r. r == d) (if b then k else at ks q)) e

apart_from : (ks : List Kind) (d x : ℕ) → is_owned (at ks d) ≡ false → is_owned (at ks x) ≡ true → (x == d) ≡ false
apart_from ks d x e h = ne_eqb x d (λ i. let z = ap (λ y. is_owned (at ks y)) i in cc)

owner_written : (ks : List Kind) (d : ℕ) (k : Kind) (o : Option ℕ) → is_owned (at ks d) ≡ false → HasOwner ks o →
    HasOwner (written ks d k) o
owner_written ks d k None e h = tt
owner_written ks d k (Some x) e h =
    ap is_owned (written_other ks d k x (owned_there ks x h) (apart_from ks d x e h))
    ∙ forget_owned (λ r. r == d) (at ks x) ∙ h

own_alive : (ks : List Kind) (d : ℕ) (o : Option ℕ) → is_owned (at ks d) ≡ false → HasOwner ks o → (x : ℕ) →
    o ≡ Some x → (x == d) ≡ false
own_alive ks d None e h x i = absurd (cc)
own_alive ks d (Some y) e h x i =
    apart_from ks d x e (ap (λ z. is_owned (at ks z)) (some_one x y (sym i)) ∙ h)

held_at : (ks : List Kind) (d : ℕ) (k : Kind) (o : Option ℕ) (q : ℕ) → AreHeld ks o → is_owned (at ks d) ≡ false →
    (is_lent_in o k ≡ true → IsHeld ks o (from_of k)) →
    is_lent_in o (at (written ks d k) q) ≡ true → q < length ks →
    (((q == d) ≡ true) × (q ≡ d)) ⊎ (((q == d) ≡ false) × (q ≡ d → ⊥)) →
    IsHeld (written ks d k) o (from_of (at (written ks d k) q))
held_at ks d k o q a e f l h (inl g) =
    let w = written_own ks d k q h g.0 in
    let i = f (sym (ap (is_lent_in o) w ∙ forget_in o (λ r. r == d) k) ∙ l) in
    held_by ks (written ks d k) o (λ r. r == d) k (at (written ks d k) q)
    (owner_written ks d k o e i.owner) (own_alive ks d o e i.owner)
    (λ p m n. written_other ks d k p (lent_there ks p o m) n) i w
held_at ks d k o q a e f l h (inr g) =
    let w = written_other ks d k q h g.0 in
    let i = a q (sym (ap (is_lent_in o) w ∙ forget_in o (λ r. r == d) (at ks q)) ∙ l) in
    held_by ks (written ks d k) o (λ r. r == d) (at ks q) (at (written ks d k) q)
    (owner_written ks d k o e i.owner) (own_alive ks d o e i.owner)
    (λ p m n. written_other ks d k p (lent_there ks p o m) n) i w

written_long : (ks : List Kind) (d : ℕ) (k : Kind) → length (written ks d k) ≡ length ks
written_long ks d k = become_long ks (λ q. forget (λ r. r == d) (if q == d then k else at ks q))

tree_written : (ks : List Kind) (d : ℕ) (k : Kind) (r x : ℕ) → (x == d) ≡ false →
    root_of x (at (written ks d k) x) ≡ Some r → root_of x (at ks x) ≡ Some r
tree_written ks d k r x n e =
    sym (ap (root_of x) (written_other ks d k x
    (let m = rooted_there (written ks d k) x r e in let l = written_long ks d k in omega arith) n)
    ∙ forget_tree x (λ r. r == d) (at ks x)) ∙ e

closed_at : (ks : List Kind) (d : ℕ) (k : Kind) (r q : ℕ) → IsWhole ks r →
    (tree_of ks (from_of k) ≡ Some r → is_lent_in (Some r) k ≡ true) → q < length ks →
    (((q == d) ≡ true) × (q ≡ d)) ⊎ (((q == d) ≡ false) × (q ≡ d → ⊥)) →
    tree_of (written ks d k) (from_of (at (written ks d k) q)) ≡ Some r →
    is_lent_in (Some r) (at (written ks d k) q) ≡ true
closed_at ks d k r q a c h (inl g) e =
    closed_by ks (written ks d k) r (λ r. r == d) k (at (written ks d k) q)
    (λ x n i. tree_written ks d k r x n i) c (written_own ks d k q h g.0) e
closed_at ks d k r q a c h (inr g) e =
    closed_by ks (written ks d k) r (λ r. r == d) (at ks q) (at (written ks d k) q)
    (λ x n i. tree_written ks d k r x n i) (a.closed q) (written_other ks d k q h g.0) e

pub whole_written : (ks : List Kind) (d : ℕ) (k : Kind) (r : ℕ) → IsWhole ks r → is_owned (at ks d) ≡ false →
    (is_lent_in (Some r) k ≡ true → IsHeld ks (Some r) (from_of k)) →
    (tree_of ks (from_of k) ≡ Some r → is_lent_in (Some r) k ≡ true) → IsWhole (written ks d k) r
whole_written ks d k r a e f c = record {
  held = λ q l. held_at ks d k (Some r) q a.held e f l
      (let n = written_long ks d k in
      let m = lent_there (written ks d k) q (Some r) l in omega arith) (eqb_tells q d);
  closed = λ q l. closed_at ks d k r q a c
      (let n = written_long ks d k in
      let m = sourced_there (written ks d k) q r l in omega arith) (eqb_tells q d) l;
}

-- using up

used_other : (ks : List Kind) (r q : ℕ) → q < length ks → goes ks r q ≡ false →
    at (used_up ks r) q ≡ forget (goes ks r) (at ks q)
used_other ks r q h e =
    at_become ks (λ q. if goes ks r q then Gone else forget (goes ks r) (at ks q)) q h
    ∙ ap (λ b. if b then Gone else forget (goes ks r) (at ks q)) e

used_gone : (ks : List Kind) (r q : ℕ) → q < length ks → goes ks r q ≡ true → at (used_up ks r) q ≡ Gone
used_gone ks r q h e =
    at_become ks (λ q. if goes ks r q then Gone else forget (goes ks r) (at ks q)) q h
    ∙ ap (λ b. if b then Gone else forget (goes ks r) (at ks q)) e

pub not_lent : (o : Option ℕ) (r : ℕ) (k : Kind) → (o ≡ Some r → ⊥) → is_lent_in o k ≡ true → is_lent_of r k ≡ false
not_lent o r k n e =
    elim (true_or_false (is_lent_of r k)) [
      | inl h ↦ absurd (n (one_tree k o (Some r) e (sym (lent_in r k) ∙ h)))
      | inr h ↦ h
    ]

pub owned_unlent : (r : ℕ) (k : Kind) → is_owned k ≡ true → is_lent_of r k ≡ false
owned_unlent r k e =
    elim (true_or_false (is_lent_of r k)) [
      | inl h ↦ absurd (owned_lent (Some r) k e (sym (lent_in r k) ∙ h))
      | inr h ↦ h
    ]

stays : (ks : List Kind) (r x : ℕ) → (x ≡ r → ⊥) → is_owned (at ks x) ≡ true → goes ks r x ≡ false
stays ks r x n e = or_neither (x == r) (is_lent_of r (at ks x)) (ne_eqb x r n) (owned_unlent r (at ks x) e)

owner_used : (ks : List Kind) (r : ℕ) (o : Option ℕ) → (o ≡ Some r → ⊥) → HasOwner ks o → HasOwner (used_up ks r) o
owner_used ks r None n h = tt
owner_used ks r (Some x) n h =
    ap is_owned (used_other ks r x (owned_there ks x h) (stays ks r x (λ e. n (ap Some e)) h))
    ∙ forget_owned (goes ks r) (at ks x) ∙ h

used_alive : (ks : List Kind) (r : ℕ) (o : Option ℕ) → (o ≡ Some r → ⊥) → HasOwner ks o → (x : ℕ) → o ≡ Some x →
    goes ks r x ≡ false
used_alive ks r None n h x i = absurd (cc)
used_alive ks r (Some y) n h x i =
    let e = some_one x y (sym i) in
    stays ks r x (λ j. n (ap Some (sym e ∙ j))) (ap (λ z. is_owned (at ks z)) e ∙ h)

held_left : (ks : List Kind) (r : ℕ) (o : Option ℕ) (q : ℕ) → ((o ≡ Some r → ⊥) → AreHeld ks o) → q < length ks →
    goes ks r q ≡ false → is_lent_in o (at (used_up ks r) q) ≡ true →
    IsHeld (used_up ks r) o (from_of (at (used_up ks r) q))
held_left ks r o q a h g l =
    let w = used_other ks r q h g in
    let m : is_lent_in o (at ks q) ≡ true = sym (ap (is_lent_in o) w ∙ forget_in o (goes ks r) (at ks q)) ∙ l in
    let n : (o ≡ Some r → ⊥) = (λ e. let z = or_right (q == r) (is_lent_of r (at ks q)) g in
    let y = lent_in r (at ks q) in let x = ap (λ p. is_lent_in p (at ks q)) e in cc) in
    let i = a n q m in
    held_by ks (used_up ks r) o (goes ks r) (at ks q) (at (used_up ks r) q)
    (owner_used ks r o n i.owner) (used_alive ks r o n i.owner)
    (λ p j k. used_other ks r p (lent_there ks p o j) k) i w

used_long : (ks : List Kind) (r : ℕ) → length (used_up ks r) ≡ length ks
used_long ks r = become_long ks (λ q. if goes ks r q then Gone else forget (goes ks r) (at ks q))

tree_used : (ks : List Kind) (r o x : ℕ) → goes ks r x ≡ false → root_of x (at (used_up ks r) x) ≡ Some o →
    root_of x (at ks x) ≡ Some o
tree_used ks r o x n e =
    sym (ap (root_of x) (used_other ks r x
    (let m = rooted_there (used_up ks r) x o e in let l = used_long ks r in omega arith) n)
    ∙ forget_tree x (goes ks r) (at ks x)) ∙ e

-- What isn't used up with a register isn't of its tree.
tree_stays : (r x : ℕ) (k : Kind) → (x == r) ≡ false → is_lent_of r k ≡ false → root_of x k ≡ Some r → ⊥
tree_stays r x Gone n l e = cc
tree_stays r x (Scalar t) n l e = cc
tree_stays r x (Owned t s) n l e = let z = eq-eqb x r (some_one x r e) in cc
tree_stays r x (Lent t s root from) n l e =
    let z = ap (λ p. same_root p (Some r)) e in let y = eq-eqb r r refl in cc
tree_stays r x (Credit k) n l e = cc

used_unrooted : (ks : List Kind) (r : ℕ) (from : Option From) →
    tree_of (used_up ks r) (forget_from (goes ks r) from) ≡ Some r → ⊥
used_unrooted ks r None e = cc
used_unrooted ks r (Some f) e =
    elim (true_or_false (goes ks r f.register)) [
      | inl g ↦ let z = ap (tree_of (used_up ks r)) (from_lost (goes ks r) f g) in cc
      | inr g ↦ tree_stays r f.register (at ks f.register) (or_left (f.register == r) (is_lent_of r (at ks f.register)) g)
          (or_right (f.register == r) (is_lent_of r (at ks f.register)) g)
          (tree_used ks r r f.register g (sym (ap (tree_of (used_up ks r)) (from_kept (goes ks r) f g)) ∙ e))
    ]

closed_left : (ks : List Kind) (r o q : ℕ) → ((o ≡ r → ⊥) → IsWhole ks o) → q < length ks → goes ks r q ≡ false →
    tree_of (used_up ks r) (from_of (at (used_up ks r) q)) ≡ Some o → is_lent_in (Some o) (at (used_up ks r) q) ≡ true
closed_left ks r o q a h g e =
    let w = used_other ks r q h g in
    elim (eqb_tells o r) [
      | inl i ↦ absurd (used_unrooted ks r (from_of (at ks q)) (ap (tree_of (used_up ks r)) (sym (ap from_of w
          ∙ forget_source (goes ks r) (at ks q))) ∙ e ∙ ap Some i.1))
      | inr i ↦ closed_by ks (used_up ks r) o (goes ks r) (at ks q) (at (used_up ks r) q)
          (λ x n j. tree_used ks r o x n j) ((a i.1).closed q) w e
    ]

pub whole_used : (ks : List Kind) (r o : ℕ) → ((o ≡ r → ⊥) → IsWhole ks o) → IsWhole (used_up ks r) o
whole_used ks r o a = record {
  held = λ q l. let h : q < length ks = (let n = used_long ks r in
      let m = lent_there (used_up ks r) q (Some o) l in omega arith) in
      elim (true_or_false (goes ks r q)) [
        | inl g ↦ absurd (let w = used_gone ks r q h g in let z = ap (is_lent_in (Some o)) w in cc)
        | inr g ↦ held_left ks r (Some o) q (λ n. (a (λ e. n (ap Some e))).held) h g l
      ];
  closed = λ q l. let h : q < length ks = (let n = used_long ks r in
      let m = sourced_there (used_up ks r) q o l in omega arith) in
      elim (true_or_false (goes ks r q)) [
        | inl g ↦ absurd (let w = ap (λ k. tree_of (used_up ks r) (from_of k)) (used_gone ks r q h g) in cc)
        | inr g ↦ closed_left ks r o q a h g l
      ];
}

-- testing

narrow_in : (o : Option ℕ) (c : List ℕ) (k : Kind) → is_lent_in o (narrow c k) ≡ is_lent_in o k
narrow_in o c Gone = refl
narrow_in o c (Scalar t) = refl
narrow_in o c (Owned t s) = refl
narrow_in o c (Lent t s root from) = refl
narrow_in o c (Credit k) = refl

narrow_owned : (c : List ℕ) (k : Kind) → is_owned (narrow c k) ≡ is_owned k
narrow_owned c Gone = refl
narrow_owned c (Scalar t) = refl
narrow_owned c (Owned t s) = refl
narrow_owned c (Lent t s root from) = refl
narrow_owned c (Credit k) = refl

narrow_source : (c : List ℕ) (k : Kind) → from_of (narrow c k) ≡ from_of k
narrow_source c Gone = refl
narrow_source c (Scalar t) = refl
narrow_source c (Owned t s) = refl
narrow_source c (Lent t s root from) = refl
narrow_source c (Credit k) = refl

climb_same : (ks new : List Kind) (o : Option ℕ) → ((q : ℕ) → is_lent_in o (at ks q) ≡ is_lent_in o (at new q)) →
    ((q : ℕ) → from_of (at ks q) ≡ from_of (at new q)) → (n : ℕ) (from : Option From) → Climb ks o n from →
    Climb new o n from
climb_same ks new o l f zero None c = tt
climb_same ks new o l f zero (Some g) c = c
climb_same ks new o l f (suc n) None c = c
climb_same ks new o l f (suc n) (Some g) c = (
  sym (l g.register) ∙ c.0,
  subst (Climb new o n) (f g.register) (climb_same ks new o l f n (from_of (at ks g.register)) c.1),
)

owner_same : (ks new : List Kind) (o : Option ℕ) → ((q : ℕ) → is_owned (at ks q) ≡ is_owned (at new q)) →
    HasOwner ks o → HasOwner new o
owner_same ks new None w h = tt
owner_same ks new (Some x) w h = sym (w x) ∙ h

tree_same : (ks new : List Kind) → ((x q : ℕ) → root_of x (at ks q) ≡ root_of x (at new q)) → (from : Option From) →
    tree_of ks from ≡ tree_of new from
tree_same ks new t None = refl
tree_same ks new t (Some f) = t f.register f.register

whole_same : (ks new : List Kind) (r : ℕ) →
    ((o : Option ℕ) (q : ℕ) → is_lent_in o (at ks q) ≡ is_lent_in o (at new q)) →
    ((q : ℕ) → from_of (at ks q) ≡ from_of (at new q)) → ((q : ℕ) → is_owned (at ks q) ≡ is_owned (at new q)) →
    ((x q : ℕ) → root_of x (at ks q) ≡ root_of x (at new q)) → IsWhole ks r → IsWhole new r
whole_same ks new r l f w t a = record {
  held = λ q e. let i = a.held q (l (Some r) q ∙ e) in
      record {
        owner = owner_same ks new (Some r) w i.owner;
        steps = i.steps;
        climb = subst (Climb new (Some r) i.steps) (f q)
            (climb_same ks new (Some r) (l (Some r)) f i.steps (from_of (at ks q)) i.climb);
      };
  closed = λ q e. sym (l (Some r) q) ∙ a.closed q
      (ap (tree_of ks) (f q) ∙ tree_same ks new t (from_of (at new q)) ∙ e);
}

same_if : {A : Type 0} (g : Kind → A) → ((c : List ℕ) (k : Kind) → g (narrow c k) ≡ g k) → (b : Bool) (c : List ℕ)
    (k : Kind) → g k ≡ g (if b then narrow c k else k)
same_if g h true c k = sym (h c k)
same_if g h false c k = refl

tested_keeps : {A : Type 0} (g : Kind → A) → ((c : List ℕ) (k : Kind) → g (narrow c k) ≡ g k) → (ks : List Kind)
    (r : ℕ) (c : List ℕ) (q : ℕ) → g (at ks q) ≡ g (at (tested ks r c) q)
tested_keeps g h ks r c q =
    elim (below_or q (length ks)) [
      | inl l ↦ same_if g h (q == r) c (at ks q)
          ∙ ap g (sym (at_become ks (λ q. if q == r then narrow c (at ks q) else at ks q) q l))
      | inr l ↦ ap g (at_past ks q l ∙ sym (at_past (tested ks r c) q
          (let n = become_long ks (λ q. if q == r then narrow c (at ks q) else at ks q) in omega arith)))
    ]

narrow_tree : (x : ℕ) (c : List ℕ) (k : Kind) → root_of x (narrow c k) ≡ root_of x k
narrow_tree x c Gone = refl
narrow_tree x c (Scalar t) = refl
narrow_tree x c (Owned t s) = refl
narrow_tree x c (Lent t s root from) = refl
narrow_tree x c (Credit k) = refl

pub whole_tested : (ks : List Kind) (r : ℕ) (c : List ℕ) (o : ℕ) → IsWhole ks o → IsWhole (tested ks r c) o
whole_tested ks r c o a =
    whole_same ks (tested ks r c) o (λ p q. tested_keeps (is_lent_in p) (narrow_in p) ks r c q)
    (λ q. tested_keeps from_of narrow_source ks r c q) (λ q. tested_keeps is_owned narrow_owned ks r c q)
    (λ x q. tested_keeps (root_of x) (narrow_tree x) ks r c q) a

-- taking a cell apart

is_heir_named : (w : Table) (r : ℕ) (k : Kind) (o : Option Part) → is_heir_by w r k o ≡ true → names r (from_of k) ≡ true
is_heir_named w r k o e =
    elim (true_or_false (names r (from_of k))) [
      | inl h ↦ h
      | inr h ↦ absurd (let z = no_heir_by w r k o h in cc)
    ]

pub heir_named : (w : Table) (ks : List Kind) (r : ℕ) (parts : ℕ → Option Part) (q : ℕ) →
    is_heir w ks r parts q ≡ true → names r (from_of (at ks q)) ≡ true
heir_named w ks r parts q e = is_heir_named w r (at ks q) (parts q) e

pub heir_part : (w : Table) (r : ℕ) (k : Kind) (o : Option Part) → is_heir_by w r k o ≡ true → is_some o ≡ true
heir_part w r k None e = absurd (cc)
heir_part w r k (Some p) e = refl

pub named_is : (r : ℕ) (from : Option From) → names r from ≡ true → (f : From) × (from ≡ Some f) × (f.register ≡ r)
named_is r None e = absurd (cc)
named_is r (Some f) e =
    elim (eqb_tells f.register r) [
      | inl h ↦ (f, refl, h.1)
      | inr h ↦ absurd (let z = h.0 in cc)
    ]

-- A register that came from the cell of one that owns a tree reads that tree.
climb_named : (ks : List Kind) (o : Option ℕ) (r n : ℕ) (f : From) → is_owned (at ks r) ≡ true → f.register ≡ r →
    Climb ks o n (Some f) → o ≡ Some r
climb_named ks o r zero f e i c = c ∙ ap Some i
climb_named ks o r (suc n) f e i c =
    absurd (owned_lent o (at ks r) e (subst (λ z. is_lent_in o (at ks z) ≡ true) i c.0))

pub held_named : (ks : List Kind) (o : Option ℕ) (r : ℕ) (from : Option From) → is_owned (at ks r) ≡ true →
    names r from ≡ true → IsHeld ks o from → o ≡ Some r
held_named ks o r from e h i =
    let f = named_is r from h in
    climb_named ks o r i.steps f.0 e f.2 (subst (Climb ks o i.steps) f.1 i.climb)

-- What doesn't read the tree of a register doesn't reach its heirs.

owner_source : (ks : List Kind) (o : Option ℕ) (f : From) → HasOwner ks o → o ≡ Some f.register →
    from_of (at ks f.register) ≡ None
owner_source ks None f w c = absurd (cc)
owner_source ks (Some x) f w c =
    owned_source (at ks f.register) (subst (λ z. is_owned (at ks z) ≡ true) (some_one x f.register c) w)

owner_no_heir : (ks : List Kind) (r : ℕ) (heir : ℕ → Bool) (o : Option ℕ) (f : From) → is_owned (at ks r) ≡ true →
    ((q : ℕ) → heir q ≡ true → names r (from_of (at ks q)) ≡ true) → HasOwner ks o → o ≡ Some f.register →
    heir f.register ≡ true → ⊥
owner_no_heir ks r heir o f e h w c x =
    let a = h f.register x in
    let b = ap (names r) (owner_source ks o f w c) in
    cc

owner_no_chain : (ks : List Kind) (heir : ℕ → Bool) (o : Option ℕ) (f : From) (n d : ℕ) → HasOwner ks o →
    o ≡ Some f.register → Chain ks heir n (from_of (at ks f.register)) d → ⊥
owner_no_chain ks heir o f zero d w c x = subst (λ y. Chain ks heir zero y d) (owner_source ks o f w c) x
owner_no_chain ks heir o f (suc n) d w c x = subst (λ y. Chain ks heir (suc n) y d) (owner_source ks o f w c) x

apart_chain : (ks : List Kind) (r : ℕ) (heir : ℕ → Bool) (o : Option ℕ) (d : ℕ) → AreHeld ks o →
    is_owned (at ks r) ≡ true → ((q : ℕ) → heir q ≡ true → names r (from_of (at ks q)) ≡ true) → (o ≡ Some r → ⊥) →
    (n m : ℕ) (from : Option From) → HasOwner ks o → Climb ks o m from → Chain ks heir n from d → ⊥
apart_chain ks r heir o d a e h n' zero m None w c x = x
apart_chain ks r heir o d a e h n' (suc n) m None w c x = x
apart_chain ks r heir o d a e h n' zero zero (Some f) w c x = owner_no_heir ks r heir o f e h w c x.0
apart_chain ks r heir o d a e h n' zero (suc m) (Some f) w c x =
    n' (held_named ks o r (from_of (at ks f.register)) e (h f.register x.0) (a f.register c.0))
apart_chain ks r heir o d a e h n' (suc n) zero (Some f) w c x = owner_no_chain ks heir o f n d w c x.1
apart_chain ks r heir o d a e h n' (suc n) (suc m) (Some f) w c x =
    apart_chain ks r heir o d a e h n' n m (from_of (at ks f.register)) w c.1 x.1

pub apart_unreached : (ks : List Kind) (r : ℕ) (heir : ℕ → Bool) (o : Option ℕ) (q d : ℕ) → AreHeld ks o →
    is_owned (at ks r) ≡ true → ((q : ℕ) → heir q ≡ true → names r (from_of (at ks q)) ≡ true) → (o ≡ Some r → ⊥) →
    is_lent_in o (at ks q) ≡ true → Reaches ks heir q d → ⊥
apart_unreached ks r heir o q d a e h n l x =
    let i = a q l in
    apart_chain ks r heir o d a e h n x.0 i.steps (from_of (at ks q)) i.owner i.climb x.1

reached_by : (ks : List Kind) (heir : ℕ → Bool) (q d : ℕ) (o : Option ℕ) → IsReached ks heir q o → Reaches ks heir q d →
    o ≡ Some d
reached_by ks heir q d None i x = absurd (i d x)
reached_by ks heir q d (Some e) i x =
    ap Some (chain_one ks heir i.0 x.0 (from_of (at ks q)) e d i.1 x.1)

-- parts aren't lent

inherited_lent : (o : Option ℕ) (k : Kind) → is_lent_in o (inherited k) ≡ false
inherited_lent o Gone = refl
inherited_lent o (Scalar t) = refl
inherited_lent o (Owned t s) = refl
inherited_lent o (Lent t s root from) = refl
inherited_lent o (Credit k) = refl

part_lent : (o : Option ℕ) (w : Table) (r : ℕ) (k : Kind) (p : Part) (a b : Bool) → is_scalar_type w p.ty ≡ a →
    is_field r p.field (from_of k) ≡ b → is_lent_in o (part_kind w r k p) ≡ false
part_lent o w r k p true b e f = rw e refl
part_lent o w r k p false true e f = rw (e, f) (inherited_lent o k)
part_lent o w r k p false false e f = rw (e, f) refl

credit_lent : (o : Option ℕ) (n : ℕ) → is_lent_in o (credit n) ≡ false
credit_lent o zero = refl
credit_lent o (suc n) = refl

-- An heir owns its tree.

named_owned : (k : Kind) (r : ℕ) → names r (from_of k) ≡ true → is_owned (inherited k) ≡ true
named_owned Gone r e = absurd (cc)
named_owned (Scalar t) r e = absurd (cc)
named_owned (Owned t s) r e = absurd (cc)
named_owned (Lent t s root from) r e = refl
named_owned (Credit k) r e = absurd (cc)

heir_field : (w : Table) (r : ℕ) (k : Kind) (p : Part) (a b : Bool) → is_scalar_type w p.ty ≡ a →
    is_field r p.field (from_of k) ≡ b → (not a && b) ≡ true → part_kind w r k p ≡ inherited k
heir_field w r k p true b e f h = absurd (cc)
heir_field w r k p false true e f h = rw (e, f) refl
heir_field w r k p false false e f h = absurd (cc)

heir_kind : (w : Table) (r : ℕ) (k : Kind) (o : Option Part) (other : Kind) → is_heir_by w r k o ≡ true →
    part_or w r k o other ≡ inherited k
heir_kind w r k None other e = absurd (cc)
heir_kind w r k (Some p) other e =
    heir_field w r k p (is_scalar_type w p.ty) (is_field r p.field (from_of k)) refl refl e

none_part : (w : Table) (r : ℕ) (k : Kind) (o : Option Part) (other : Kind) → is_some o ≡ false → part_or w r k o other ≡ other
none_part w r k None other e = refl
none_part w r k (Some p) other e = absurd (cc)

fate_owned : (o : Option ℕ) (r : ℕ) (k : Kind) → is_owned k ≡ true → is_owned (fate o r k) ≡ true
fate_owned o r Gone e = absurd (cc)
fate_owned o r (Scalar t) e = absurd (cc)
fate_owned None r (Owned t s) e = refl
fate_owned (Some d) r (Owned t s) e = refl
fate_owned o r (Lent t s root from) e = absurd (cc)
fate_owned o r (Credit k) e = absurd (cc)

root_in : (o : Option ℕ) (d : ℕ) (k : Kind) → is_lent_in o (with_root d k) ≡ true → o ≡ Some d
root_in o d Gone e = absurd (cc)
root_in o d (Scalar t) e = absurd (cc)
root_in o d (Owned t s) e = absurd (cc)
root_in o d (Lent t s root from) e = one_tree (Lent t s (Some d) from) o (Some d) e (eq-eqb d d refl)
root_in o d (Credit k) e = absurd (cc)

root_source : (d : ℕ) (k : Kind) → from_of (with_root d k) ≡ from_of k
root_source d Gone = refl
root_source d (Scalar t) = refl
root_source d (Owned t s) = refl
root_source d (Lent t s root from) = refl
root_source d (Credit k) = refl

source_lent : (d : ℕ) (k : Kind) (f : From) → from_of k ≡ Some f → is_lent_in (Some d) (with_root d k) ≡ true
source_lent d Gone f e = absurd (cc)
source_lent d (Scalar t) f e = absurd (cc)
source_lent d (Owned t s) f e = absurd (cc)
source_lent d (Lent t s root from) f e = eq-eqb d d refl
source_lent d (Credit k) f e = absurd (cc)

part_or_lent : (o : Option ℕ) (w : Table) (r : ℕ) (k other : Kind) (p : Option Part) → is_some p ≡ true →
    is_lent_in o (part_or w r k p other) ≡ false
part_or_lent o w r k other None e = absurd (cc)
part_or_lent o w r k other (Some p) e =
    part_lent o w r k p (is_scalar_type w p.ty) (is_field r p.field (from_of k)) refl refl

chain_source : (ks : List Kind) (heir : ℕ → Bool) (n : ℕ) (from : Option From) (d : ℕ) → Chain ks heir n from d →
    (f : From) × (from ≡ Some f)
chain_source ks heir zero None d c = absurd c
chain_source ks heir (suc n) None d c = absurd c
chain_source ks heir n (Some f) d c = (f, refl)

pub chain_heir : (ks : List Kind) (heir : ℕ → Bool) (n : ℕ) (from : Option From) (d : ℕ) → Chain ks heir n from d →
    heir d ≡ true
chain_heir ks heir zero None d c = absurd c
chain_heir ks heir (suc n) None d c = absurd c
chain_heir ks heir zero (Some f) d c = ap heir (sym c.1) ∙ c.0
chain_heir ks heir (suc n) (Some f) d c = chain_heir ks heir n (from_of (at ks f.register)) d c.1

-- the kinds after a Take
pub record IsAfter (w : Table) (ks : List Kind) (r : ℕ) (parts : ℕ → Option Part) (size : ℕ) (reached : ℕ → Option ℕ)
    (new : List Kind) : Type 0 where
  pub owned : is_owned (at ks r) ≡ true
  pub own : is_some (parts r) ≡ false
  pub free : (q : ℕ) → is_some (parts q) ≡ true → is_owned (at ks q) ≡ false
  pub reaches : (q : ℕ) → IsReached ks (is_heir w ks r parts) q (reached q)
  pub long : length new ≡ length ks
  pub is : (q : ℕ) → q < length ks → at new q ≡ part_or w r (at ks q) (parts q)
      (if q == r then credit size else forget (ends w ks r parts size reached) (fate (reached q) r (at ks q)))

pub heir_stays : (w : Table) (ks : List Kind) (r : ℕ) (parts : ℕ → Option Part) (size : ℕ) (reached : ℕ → Option ℕ) (q : ℕ) →
    is_heir w ks r parts q ≡ true → ends w ks r parts size reached q ≡ false
heir_stays w ks r parts size reached q e = rw (heir_part w r (at ks q) (parts q) e, e) refl

part_ends : (w : Table) (ks : List Kind) (r : ℕ) (parts : ℕ → Option Part) (size : ℕ) (reached : ℕ → Option ℕ) (q : ℕ) →
    is_some (parts q) ≡ true → is_heir w ks r parts q ≡ false → ends w ks r parts size reached q ≡ true
part_ends w ks r parts size reached q e h = rw (e, h) refl

and_not : (b : Bool) → (b && not true) ≡ false
and_not true = refl
and_not false = refl

pub found_stays : (w : Table) (ks : List Kind) (r : ℕ) (parts : ℕ → Option Part) (size : ℕ) (reached : ℕ → Option ℕ)
    (q d : ℕ) → is_some (parts q) ≡ false → (q == r) ≡ false → reached q ≡ Some d →
    ends w ks r parts size reached q ≡ false
found_stays w ks r parts size reached q d e h g =
    rw (e, h) (ap (λ o. is_lent_of r (at ks q) && not (is_some o)) g ∙ and_not (is_lent_of r (at ks q)))

pub apart_stays : (w : Table) (ks : List Kind) (r : ℕ) (parts : ℕ → Option Part) (size : ℕ) (reached : ℕ → Option ℕ)
    (q : ℕ) → is_some (parts q) ≡ false → (q == r) ≡ false → is_lent_of r (at ks q) ≡ false →
    ends w ks r parts size reached q ≡ false
apart_stays w ks r parts size reached q e h g = rw (e, h, g) refl

after_other : (w : Table) (ks : List Kind) (r : ℕ) (parts : ℕ → Option Part) (size : ℕ) (reached : ℕ → Option ℕ)
    (new : List Kind) (q : ℕ) → IsAfter w ks r parts size reached new → q < length ks → is_some (parts q) ≡ false →
    (q == r) ≡ false → at new q ≡ forget (ends w ks r parts size reached) (fate (reached q) r (at ks q))
after_other w ks r parts size reached new q b l e h =
    b.is q l ∙ none_part w r (at ks q) (parts q)
    (if q == r then credit size else forget (ends w ks r parts size reached) (fate (reached q) r (at ks q))) e
    ∙ ap (λ x. if x then credit size else forget (ends w ks r parts size reached) (fate (reached q) r (at ks q))) h

pub chain_none : (ks : List Kind) (heir : ℕ → Bool) (n : ℕ) (from : Option From) (d : ℕ) → from ≡ None →
    Chain ks heir n from d → ⊥
chain_none ks heir n (Some f) d e c = cc
chain_none ks heir zero None d e c = c
chain_none ks heir (suc n) None d e c = c

climb_root : (w : Table) (ks : List Kind) (r : ℕ) (parts : ℕ → Option Part) (size : ℕ) (reached : ℕ → Option ℕ)
    (new : List Kind) (d : ℕ) → IsAfter w ks r parts size reached new → (n : ℕ) (from : Option From) →
    Chain ks (is_heir w ks r parts) n from d →
    (m : ℕ) × Climb new (Some d) m (forget_from (ends w ks r parts size reached) from)
climb_root w ks r parts size reached new d b zero None c = absurd c
climb_root w ks r parts size reached new d b (suc n) None c = absurd c
climb_root w ks r parts size reached new d b zero (Some f) c =
    subst (λ x. (m : ℕ) × Climb new (Some d) m x)
    (sym (from_kept (ends w ks r parts size reached) f (heir_stays w ks r parts size reached f.register c.0)))
    (0, ap Some (sym c.1))
climb_root w ks r parts size reached new d b (suc n) (Some f) c =
    elim (true_or_false (is_some (parts f.register))) [
      | inl e ↦ subst (λ x. (m : ℕ) × Climb new (Some d) m x)
          (sym (from_lost (ends w ks r parts size reached) f
          (part_ends w ks r parts size reached f.register e c.0))) (0, tt)
      | inr e ↦ elim (eqb_tells f.register r) [
        | inl g ↦ absurd (chain_none ks (is_heir w ks r parts) n (from_of (at ks f.register)) d
            (ap (λ z. from_of (at ks z)) g.1 ∙ owned_source (at ks r) b.owned) c.1)
        | inr g ↦ (let i = reached_by ks (is_heir w ks r parts) f.register d (reached f.register)
            (b.reaches f.register) (n, c.1) in
            let s = chain_source ks (is_heir w ks r parts) n (from_of (at ks f.register)) d c.1 in
            let k = after_other w ks r parts size reached new f.register b (source_there ks f.register s.0 s.1) e g.0
            ∙ ap (λ o. forget (ends w ks r parts size reached) (fate o r (at ks f.register))) i in
            let rest = climb_root w ks r parts size reached new d b n (from_of (at ks f.register)) c.1 in
            subst (λ x. (m : ℕ) × Climb new (Some d) m x)
            (sym (from_kept (ends w ks r parts size reached) f
            (found_stays w ks r parts size reached f.register d e g.0 i))) (
              suc rest.0,
              (
                ap (is_lent_in (Some d)) k
                    ∙ forget_in (Some d) (ends w ks r parts size reached) (with_root d (at ks f.register))
                    ∙ source_lent d (at ks f.register) s.0 s.1,
                subst (Climb new (Some d) rest.0) (sym (ap from_of k
                    ∙ forget_source (ends w ks r parts size reached) (with_root d (at ks f.register))
                    ∙ ap (forget_from (ends w ks r parts size reached)) (root_source d (at ks f.register)))) rest.1,
              ),
            ))
      ]
    ]

owner_free : (w : Table) (ks : List Kind) (r : ℕ) (parts : ℕ → Option Part) (size : ℕ) (reached : ℕ → Option ℕ)
    (new : List Kind) (x : ℕ) → IsAfter w ks r parts size reached new → is_owned (at ks x) ≡ true →
    is_some (parts x) ≡ false
owner_free w ks r parts size reached new x b h =
    elim (true_or_false (is_some (parts x))) [
      | inl e ↦ absurd (let z = b.free x e in cc)
      | inr e ↦ e
    ]

owner_after : (w : Table) (ks : List Kind) (r : ℕ) (parts : ℕ → Option Part) (size : ℕ) (reached : ℕ → Option ℕ)
    (new : List Kind) (o : Option ℕ) → IsAfter w ks r parts size reached new → (o ≡ Some r → ⊥) → HasOwner ks o →
    HasOwner new o
owner_after w ks r parts size reached new None b n h = tt
owner_after w ks r parts size reached new (Some x) b n h =
    ap is_owned (after_other w ks r parts size reached new x b (owned_there ks x h) (owner_free w ks r parts size reached new x b h)
    (ne_eqb x r (λ e. n (ap Some e))))
    ∙ forget_owned (ends w ks r parts size reached) (fate (reached x) r (at ks x)) ∙ fate_owned (reached x) r (at ks x) h

owner_alive : (w : Table) (ks : List Kind) (r : ℕ) (parts : ℕ → Option Part) (size : ℕ) (reached : ℕ → Option ℕ)
    (new : List Kind) (o : Option ℕ) → IsAfter w ks r parts size reached new → (o ≡ Some r → ⊥) → HasOwner ks o →
    (x : ℕ) → o ≡ Some x → ends w ks r parts size reached x ≡ false
owner_alive w ks r parts size reached new None b n h x i = absurd (cc)
owner_alive w ks r parts size reached new (Some y) b n h x i =
    let e = some_one x y (sym i) in
    let g = ap (λ z. is_owned (at ks z)) e ∙ h in
    apart_stays w ks r parts size reached x (owner_free w ks r parts size reached new x b g)
    (ne_eqb x r (λ j. n (ap Some (sym e ∙ j)))) (owned_unlent r (at ks x) g)

not_ended : (w : Table) (ks : List Kind) (r : ℕ) (parts : ℕ → Option Part) (size : ℕ) (reached : ℕ → Option ℕ) (q : ℕ) →
    is_some (parts q) ≡ true → ends w ks r parts size reached q ≡ false → is_heir w ks r parts q ≡ true
not_ended w ks r parts size reached q p e =
    elim (true_or_false (is_heir w ks r parts q)) [
      | inl h ↦ h
      | inr h ↦ absurd (let z = part_ends w ks r parts size reached q p h in cc)
    ]

unreached_is : (ks : List Kind) (heir : ℕ → Bool) (q : ℕ) (o : Option ℕ) → IsReached ks heir q o →
    ((d : ℕ) → Reaches ks heir q d → ⊥) → o ≡ None
unreached_is ks heir q None i u = refl
unreached_is ks heir q (Some d) i u = absurd (u d i)

-- A register of another tree that isn't dead has only forgotten what is.
same_after : (w : Table) (ks : List Kind) (r : ℕ) (parts : ℕ → Option Part) (size : ℕ) (reached : ℕ → Option ℕ)
    (new : List Kind) (o : Option ℕ) (q : ℕ) → AreHeld ks o → IsAfter w ks r parts size reached new →
    (o ≡ Some r → ⊥) → is_lent_in o (at ks q) ≡ true → ends w ks r parts size reached q ≡ false →
    at new q ≡ forget (ends w ks r parts size reached) (at ks q)
same_after w ks r parts size reached new o q a b n l e =
    let u : (d : ℕ) → Reaches ks (is_heir w ks r parts) q d → ⊥ =
    (λ d. apart_unreached ks r (is_heir w ks r parts) o q d a b.owned (heir_named w ks r parts) n l) in
    elim (true_or_false (is_some (parts q))) [
      | inl p ↦ absurd (n (held_named ks o r (from_of (at ks q)) b.owned
          (heir_named w ks r parts q (not_ended w ks r parts size reached q p e)) (a q l)))
      | inr p ↦ elim (eqb_tells q r) [
        | inl g ↦ absurd (owned_lent o (at ks r) b.owned (subst (λ z. is_lent_in o (at ks z) ≡ true) g.1 l))
        | inr g ↦ after_other w ks r parts size reached new q b (lent_there ks q o l) p g.0
            ∙ ap (λ z. forget (ends w ks r parts size reached) (fate z r (at ks q)))
            (unreached_is ks (is_heir w ks r parts) q (reached q) (b.reaches q) u)
            ∙ ap (λ z. forget (ends w ks r parts size reached) (if z then Gone else at ks q)) (not_lent o r (at ks q) n l)
      ]
    ]

held_found : (w : Table) (ks : List Kind) (r : ℕ) (parts : ℕ → Option Part) (size : ℕ) (reached : ℕ → Option ℕ)
    (new : List Kind) (q d : ℕ) → IsAfter w ks r parts size reached new → Reaches ks (is_heir w ks r parts) q d →
    at new q ≡ forget (ends w ks r parts size reached) (with_root d (at ks q)) →
    IsHeld new (Some d) (from_of (at new q))
held_found w ks r parts size reached new q d b x e =
    let h = chain_heir ks (is_heir w ks r parts) x.0 (from_of (at ks q)) d x.1 in
    let f = named_is r (from_of (at ks d)) (heir_named w ks r parts d h) in
    let on = climb_root w ks r parts size reached new d b x.0 (from_of (at ks q)) x.1 in
    record {
      owner = ap is_owned (b.is d (source_there ks d f.0 f.1) ∙ heir_kind w r (at ks d) (parts d)
          (if d == r then credit size else forget (ends w ks r parts size reached) (fate (reached d) r (at ks d))) h)
          ∙ named_owned (at ks d) r (heir_named w ks r parts d h);
      steps = on.0;
      climb = subst (Climb new (Some d) on.0) (sym (ap from_of e
          ∙ forget_source (ends w ks r parts size reached) (with_root d (at ks q))
          ∙ ap (forget_from (ends w ks r parts size reached)) (root_source d (at ks q)))) on.1;
    }

lent_still : (o : Option ℕ) (r : ℕ) (k : Kind) (b : Bool) → is_lent_of r k ≡ b →
    is_lent_in o (if b then Gone else k) ≡ true → (b ≡ false) × (is_lent_in o k ≡ true)
lent_still o r k true e l = absurd (cc)
lent_still o r k false e l = (refl, l)

held_case : (w : Table) (ks : List Kind) (r : ℕ) (parts : ℕ → Option Part) (size : ℕ) (reached : ℕ → Option ℕ)
    (new : List Kind) (o : Option ℕ) (q : ℕ) (x : Option ℕ) → ((o ≡ Some r → ⊥) → AreHeld ks o) →
    IsAfter w ks r parts size reached new →
    reached q ≡ x → at new q ≡ forget (ends w ks r parts size reached) (fate x r (at ks q)) →
    is_lent_in o (at new q) ≡ true → IsHeld new o (from_of (at new q))
held_case w ks r parts size reached new o q (Some d) a b i e l =
    let g = root_in o d (at ks q) (sym (ap (is_lent_in o) e
    ∙ forget_in o (ends w ks r parts size reached) (with_root d (at ks q))) ∙ l) in
    subst (λ z. IsHeld new z (from_of (at new q))) (sym g)
    (held_found w ks r parts size reached new q d b
    (subst (IsReached ks (is_heir w ks r parts) q) i (b.reaches q)) e)
held_case w ks r parts size reached new o q None a b i e l =
    let s = lent_still o r (at ks q) (is_lent_of r (at ks q)) refl (sym (ap (is_lent_in o) e
    ∙ forget_in o (ends w ks r parts size reached) (fate None r (at ks q))) ∙ l) in
    let n : (o ≡ Some r → ⊥) = (λ g. let y = lent_in r (at ks q) in let z = s.0 in
    let v = ap (λ p. is_lent_in p (at ks q)) g in let u = s.1 in cc) in
    let h = a n q s.1 in
    held_by ks new o (ends w ks r parts size reached) (at ks q) (at new q)
    (owner_after w ks r parts size reached new o b n h.owner)
    (owner_alive w ks r parts size reached new o b n h.owner)
    (λ p m j. same_after w ks r parts size reached new o p (a n) b n m j) h
    (e ∙ ap (λ z. forget (ends w ks r parts size reached) (if z then Gone else at ks q)) s.0)

held_after : (w : Table) (ks : List Kind) (r : ℕ) (parts : ℕ → Option Part) (size : ℕ) (reached : ℕ → Option ℕ)
    (new : List Kind) (o : Option ℕ) → ((o ≡ Some r → ⊥) → AreHeld ks o) → IsAfter w ks r parts size reached new →
    AreHeld new o
held_after w ks r parts size reached new o a b q l =
    let h : q < length ks = (let m = lent_there new q o l in let n = b.long in omega arith) in
    elim (true_or_false (is_some (parts q))) [
      | inl p ↦ absurd (let z = ap (is_lent_in o) (b.is q h) ∙ part_or_lent o w r (at ks q)
          (if q == r then credit size else forget (ends w ks r parts size reached) (fate (reached q) r (at ks q)))
          (parts q) p in cc)
      | inr p ↦ elim (eqb_tells q r) [
        | inl g ↦ absurd (let z = ap (is_lent_in o) (b.is q h ∙ none_part w r (at ks q) (parts q)
            (if q == r then credit size else forget (ends w ks r parts size reached) (fate (reached q) r (at ks q))) p
            ∙ ap (λ x. if x then credit size else forget (ends w ks r parts size reached)
            (fate (reached q) r (at ks q))) g.0) ∙ credit_lent o size in cc)
        | inr g ↦ held_case w ks r parts size reached new o q (reached q) a b refl
            (after_other w ks r parts size reached new q b h p g.0) l
      ]
    ]

-- What came from a register of a tree reads it behind a Take.

inherited_source : (k : Kind) → from_of (inherited k) ≡ None
inherited_source Gone = refl
inherited_source (Scalar t) = refl
inherited_source (Owned t s) = refl
inherited_source (Lent t s root from) = refl
inherited_source (Credit k) = refl

part_source : (w : Table) (r : ℕ) (k : Kind) (p : Part) (a b : Bool) → is_scalar_type w p.ty ≡ a →
    is_field r p.field (from_of k) ≡ b → from_of (part_kind w r k p) ≡ None
part_source w r k p true b e f = rw e refl
part_source w r k p false true e f = rw (e, f) (inherited_source k)
part_source w r k p false false e f = rw (e, f) refl

part_or_source : (w : Table) (r : ℕ) (k other : Kind) (p : Option Part) → is_some p ≡ true →
    from_of (part_or w r k p other) ≡ None
part_or_source w r k other None e = absurd (cc)
part_or_source w r k other (Some p) e =
    part_source w r k p (is_scalar_type w p.ty) (is_field r p.field (from_of k)) refl refl

credit_source : (n : ℕ) → from_of (credit n) ≡ None
credit_source zero = refl
credit_source (suc n) = refl

credit_tree : (x n : ℕ) → root_of x (credit n) ≡ None
credit_tree x zero = refl
credit_tree x (suc n) = refl

owned_tree : (x : ℕ) (k : Kind) → is_owned k ≡ true → root_of x k ≡ Some x
owned_tree x Gone e = absurd (cc)
owned_tree x (Scalar t) e = absurd (cc)
owned_tree x (Owned t s) e = refl
owned_tree x (Lent t s root from) e = absurd (cc)
owned_tree x (Credit k) e = absurd (cc)

sourced_tree : (x d : ℕ) (k : Kind) (f : From) → from_of k ≡ Some f → root_of x (with_root d k) ≡ Some d
sourced_tree x d Gone f e = absurd (cc)
sourced_tree x d (Scalar t) f e = absurd (cc)
sourced_tree x d (Owned t s) f e = absurd (cc)
sourced_tree x d (Lent t s root from) f e = refl
sourced_tree x d (Credit k) f e = absurd (cc)

lost_tree : (x d : ℕ) (k : Kind) (b : Bool) → root_of x (if b then Gone else k) ≡ Some d →
    (b ≡ false) × (root_of x k ≡ Some d)
lost_tree x d k true e = absurd (cc)
lost_tree x d k false e = (refl, e)

pub fate_source : (o : Option ℕ) (r : ℕ) (k : Kind) (f : From) → from_of (fate o r k) ≡ Some f → from_of k ≡ Some f
fate_source None r k f e =
    elim (true_or_false (is_lent_of r k)) [
      | inl h ↦ absurd (let z = ap (λ b. from_of (if b then Gone else k)) h in cc)
      | inr h ↦ sym (ap (λ b. from_of (if b then Gone else k)) h) ∙ e
    ]
fate_source (Some d) r k f e = sym (root_source d k) ∙ e

kept_from : (dead : ℕ → Bool) (from : Option From) (f : From) → forget_from dead from ≡ Some f →
    (from ≡ Some f) × (dead f.register ≡ false)
kept_from dead None f e = absurd (cc)
kept_from dead (Some g) f e =
    elim (true_or_false (dead g.register)) [
      | inl h ↦ absurd (let z = from_lost dead g h in cc)
      | inr h ↦ (let i : Some g ≡ Some f = (sym (from_kept dead g h) ∙ e) in
          (i, ap (λ y. dead y.register) (sym (one_source g f i)) ∙ h))
    ]

-- A register reaches no heir, and what it came from is of another tree.
pub record IsOutside (ks : List Kind) (heir : ℕ → Bool) (r q x : ℕ) (f : From) : Type 0 where
  pub unreached : (d : ℕ) → Reaches ks heir q d → ⊥
  pub other : x ≡ r → ⊥
  pub tree : root_of f.register (at ks f.register) ≡ Some x

step_no : (ks : List Kind) (heir : ℕ → Bool) (q : ℕ) (f : From) → from_of (at ks q) ≡ Some f →
    heir f.register ≡ false → ((d : ℕ) → Reaches ks heir f.register d → ⊥) → (d n : ℕ) →
    Chain ks heir n (from_of (at ks q)) d → ⊥
step_no ks heir q f i h u d zero c =
    let z = subst (λ y. Chain ks heir zero y d) i c in let y = z.0 in cc
step_no ks heir q f i h u d (suc n) c =
    let z = subst (λ y. Chain ks heir (suc n) y d) i c in u d (n, z.1)

step_none : (ks : List Kind) (heir : ℕ → Bool) (q : ℕ) (f : From) → from_of (at ks q) ≡ Some f →
    heir f.register ≡ false → ((d : ℕ) → Reaches ks heir f.register d → ⊥) → (d : ℕ) → Reaches ks heir q d → ⊥
step_none ks heir q f i h u d x = step_no ks heir q f i h u d x.0 x.1

not_heir : (w : Table) (ks : List Kind) (r : ℕ) (parts : ℕ → Option Part) (q : ℕ) → is_some (parts q) ≡ false →
    is_heir w ks r parts q ≡ false
not_heir w ks r parts q p =
    elim (true_or_false (is_heir w ks r parts q)) [
      | inl h ↦ absurd (let z = heir_part w r (at ks q) (parts q) h in cc)
      | inr h ↦ h
    ]

-- the tree of an heir
heir_tree : (w : Table) (ks : List Kind) (r : ℕ) (parts : ℕ → Option Part) (size : ℕ) (reached : ℕ → Option ℕ)
    (new : List Kind) (d : ℕ) → IsAfter w ks r parts size reached new → is_heir w ks r parts d ≡ true →
    root_of d (at new d) ≡ Some d
heir_tree w ks r parts size reached new d b h =
    let f = named_is r (from_of (at ks d)) (heir_named w ks r parts d h) in
    owned_tree d (at new d) (ap is_owned (b.is d (source_there ks d f.0 f.1) ∙ heir_kind w r (at ks d) (parts d)
    (if d == r then credit size else forget (ends w ks r parts size reached) (fate (reached d) r (at ks d))) h)
    ∙ named_owned (at ks d) r (heir_named w ks r parts d h))

-- the tree of the register that owned the cell
own_tree : (w : Table) (ks : List Kind) (r : ℕ) (parts : ℕ → Option Part) (size : ℕ) (reached : ℕ → Option ℕ)
    (new : List Kind) (x : ℕ) → IsAfter w ks r parts size reached new → root_of x (at new r) ≡ None
own_tree w ks r parts size reached new x b =
    ap (root_of x) (b.is r (owned_there ks r b.owned) ∙ none_part w r (at ks r) (parts r)
    (if r == r then credit size else forget (ends w ks r parts size reached) (fate (reached r) r (at ks r))) b.own
    ∙ ap (λ z. if z then credit size else forget (ends w ks r parts size reached) (fate (reached r) r (at ks r)))
    (eq-eqb r r refl)) ∙ credit_tree x size

tree_case : (w : Table) (ks : List Kind) (r : ℕ) (parts : ℕ → Option Part) (q x : ℕ) (f : From) (o : Option ℕ) →
    from_of (at ks q) ≡ Some f → is_some (parts f.register) ≡ false → (f.register == r) ≡ false →
    IsReached ks (is_heir w ks r parts) f.register o → root_of f.register (fate o r (at ks f.register)) ≡ Some x →
    (Reaches ks (is_heir w ks r parts) q x) ⊎ (IsOutside ks (is_heir w ks r parts) r q x f)
tree_case w ks r parts q x f (Some d) i p n y e =
    let s = chain_source ks (is_heir w ks r parts) y.0 (from_of (at ks f.register)) d y.1 in
    let g = some_one d x (sym (sourced_tree f.register d (at ks f.register) s.0 s.1) ∙ e) in
    inl (subst (Reaches ks (is_heir w ks r parts) q) g (
      suc y.0,
      subst (λ z. Chain ks (is_heir w ks r parts) (suc y.0) z d) (sym i)
          (not_heir w ks r parts f.register p, y.1),
    ))
tree_case w ks r parts q x f None i p n y e =
    let l = lost_tree f.register x (at ks f.register) (is_lent_of r (at ks f.register)) e in
    inr (record {
      unreached = step_none ks (is_heir w ks r parts) q f i (not_heir w ks r parts f.register p) y;
      other = λ g. tree_stays r f.register (at ks f.register) n l.0 (l.1 ∙ ap Some g);
      tree = l.1;
    })

tree_after : (w : Table) (ks : List Kind) (r : ℕ) (parts : ℕ → Option Part) (size : ℕ) (reached : ℕ → Option ℕ)
    (new : List Kind) (q x : ℕ) (f : From) → IsAfter w ks r parts size reached new → from_of (at ks q) ≡ Some f →
    ends w ks r parts size reached f.register ≡ false → root_of f.register (at new f.register) ≡ Some x →
    (Reaches ks (is_heir w ks r parts) q x) ⊎ (IsOutside ks (is_heir w ks r parts) r q x f)
tree_after w ks r parts size reached new q x f b i n e =
    elim (true_or_false (is_some (parts f.register))) [
      | inl p ↦ (let h = not_ended w ks r parts size reached f.register p n in
          let g = some_one f.register x (sym (heir_tree w ks r parts size reached new f.register b h) ∙ e) in
          inl (subst (Reaches ks (is_heir w ks r parts) q) g
          (0, subst (λ z. Chain ks (is_heir w ks r parts) 0 z f.register) (sym i) (h, refl))))
      | inr p ↦ elim (eqb_tells f.register r) [
        | inl g ↦ absurd (let z = own_tree w ks r parts size reached new f.register b in
            let y = ap (λ v. root_of f.register (at new v)) g.1 in cc)
        | inr g ↦ tree_case w ks r parts q x f (reached f.register) i p g.0 (b.reaches f.register)
            (sym (ap (root_of f.register) (after_other w ks r parts size reached new f.register b
            (let m = rooted_there new f.register x e in let l = b.long in omega arith) p g.0)
            ∙ forget_tree f.register (ends w ks r parts size reached) (fate (reached f.register) r (at ks f.register)))
            ∙ e)
      ]
    ]

closed_found : (w : Table) (ks : List Kind) (r : ℕ) (parts : ℕ → Option Part) (size : ℕ) (reached : ℕ → Option ℕ)
    (new : List Kind) (q x : ℕ) (f : From) → IsAfter w ks r parts size reached new →
    ((x ≡ r → ⊥) → IsWhole ks x) → at new q ≡ forget (ends w ks r parts size reached) (fate (reached q) r (at ks q)) →
    from_of (at ks q) ≡ Some f →
    (Reaches ks (is_heir w ks r parts) q x) ⊎ (IsOutside ks (is_heir w ks r parts) r q x f) →
    is_lent_in (Some x) (at new q) ≡ true
closed_found w ks r parts size reached new q x f b a e m (inl y) =
    let ended = ends w ks r parts size reached in
    ap (is_lent_in (Some x)) (e ∙ ap (λ o. forget ended (fate o r (at ks q)))
    (reached_by ks (is_heir w ks r parts) q x (reached q) (b.reaches q) y))
    ∙ forget_in (Some x) ended (with_root x (at ks q)) ∙ source_lent x (at ks q) f m
closed_found w ks r parts size reached new q x f b a e m (inr z) =
    let ended = ends w ks r parts size reached in
    let l = (a z.other).closed q (ap (tree_of ks) m ∙ z.tree) in
    let n = not_lent (Some x) r (at ks q) (λ g. z.other (some_one x r g)) l in
    ap (is_lent_in (Some x)) (e ∙ ap (λ o. forget ended (fate o r (at ks q)))
    (unreached_is ks (is_heir w ks r parts) q (reached q) (b.reaches q) z.unreached)
    ∙ ap (λ y. forget ended (if y then Gone else at ks q)) n)
    ∙ forget_in (Some x) ended (at ks q) ∙ l

closed_else : (w : Table) (ks : List Kind) (r : ℕ) (parts : ℕ → Option Part) (size : ℕ) (reached : ℕ → Option ℕ)
    (new : List Kind) (q x : ℕ) (from : Option From) → IsAfter w ks r parts size reached new →
    ((x ≡ r → ⊥) → IsWhole ks x) → at new q ≡ forget (ends w ks r parts size reached) (fate (reached q) r (at ks q)) →
    from_of (at new q) ≡ from → tree_of new from ≡ Some x → is_lent_in (Some x) (at new q) ≡ true
closed_else w ks r parts size reached new q x None b a e i t = absurd (cc)
closed_else w ks r parts size reached new q x (Some f) b a e i t =
    let ended = ends w ks r parts size reached in
    let k = kept_from ended (from_of (fate (reached q) r (at ks q))) f
    (sym (ap from_of e ∙ forget_source ended (fate (reached q) r (at ks q))) ∙ i) in
    let m = fate_source (reached q) r (at ks q) f k.0 in
    closed_found w ks r parts size reached new q x f b a e m
    (tree_after w ks r parts size reached new q x f b m k.1 t)

closed_after : (w : Table) (ks : List Kind) (r : ℕ) (parts : ℕ → Option Part) (size : ℕ) (reached : ℕ → Option ℕ)
    (new : List Kind) (x q : ℕ) → ((x ≡ r → ⊥) → IsWhole ks x) → IsAfter w ks r parts size reached new →
    tree_of new (from_of (at new q)) ≡ Some x → is_lent_in (Some x) (at new q) ≡ true
closed_after w ks r parts size reached new x q a b t =
    let h : q < length ks = (let m = sourced_there new q x t in let n = b.long in omega arith) in
    elim (true_or_false (is_some (parts q))) [
      | inl p ↦ absurd (let z = ap (tree_of new) (ap from_of (b.is q h) ∙ part_or_source w r (at ks q)
          (if q == r then credit size else forget (ends w ks r parts size reached) (fate (reached q) r (at ks q)))
          (parts q) p) in cc)
      | inr p ↦ elim (eqb_tells q r) [
        | inl g ↦ absurd (let z = ap (tree_of new) (ap from_of (b.is q h ∙ none_part w r (at ks q) (parts q)
            (if q == r then credit size else forget (ends w ks r parts size reached) (fate (reached q) r (at ks q))) p
            ∙ ap (λ y. if y then credit size else forget (ends w ks r parts size reached)
            (fate (reached q) r (at ks q))) g.0) ∙ credit_source size) in cc)
        | inr g ↦ closed_else w ks r parts size reached new q x (from_of (at new q)) b a
            (after_other w ks r parts size reached new q b h p g.0) refl t
      ]
    ]

pub whole_taken : (w : Table) (ks : List Kind) (r : ℕ) (ds ts : List ℕ) (new : List Kind) (x : ℕ) →
    ((x ≡ r → ⊥) → IsWhole ks x) → is_owned (at ks r) ≡ true → is_some (part ds ts r) ≡ false →
    ((q : ℕ) → is_some (part ds ts q) ≡ true → is_owned (at ks q) ≡ false) → IsTaken w ks r ds ts new → IsWhole new x
whole_taken w ks r ds ts new x a e p f t =
    let b : IsAfter w ks r (part ds ts) (length ds) t.0 new = record {
      owned = e;
      own = p;
      free = f;
      reaches = t.1;
      long = ap length t.2 ∙ become_long ks (λ q. part_or w r (at ks q) (part ds ts q)
          (if q == r then credit (length ds) else forget (ends w ks r (part ds ts) (length ds) t.0)
          (fate (t.0 q) r (at ks q))));
      is = λ q h. ap (λ z. at z q) t.2 ∙ at_become ks (λ q. part_or w r (at ks q) (part ds ts q)
          (if q == r then credit (length ds) else forget (ends w ks r (part ds ts) (length ds) t.0)
          (fate (t.0 q) r (at ks q)))) q h;
    } in
    record {
      held = held_after w ks r (part ds ts) (length ds) t.0 new (Some x) (λ n. (a (λ i. n (ap Some i))).held) b;
      closed = λ q i. closed_after w ks r (part ds ts) (length ds) t.0 new x q a b i;
    }

-- What reads a register's tree and isn't listed reaches the heir that keeps its name, where what else there is of the
-- tree is listed: what came from the register, what has no from, what came from other heirs, and what came from those.
is_or_not : (o : Option ℕ) (x : ℕ) → (o ≡ Some x) ⊎ (o ≡ Some x → ⊥)
is_or_not None x = inr (λ e. cc)
is_or_not (Some y) x =
    elim (eqb_tells y x) [ inl h ↦ inl (ap Some h.1) | inr h ↦ inr (λ e. h.1 (some_one y x e)) ]

pub rest_reaches : (ks : List Kind) (r : ℕ) (heir : ℕ → Bool) (qs : List ℕ) (keeper : Option ℕ) →
    ((q : ℕ) → names r (from_of (at ks q)) ≡ true → heir q ≡ false → has qs q ≡ true) →
    ((q : ℕ) → is_lent_of r (at ks q) ≡ true → from_of (at ks q) ≡ None → has qs q ≡ true) →
    ((p q : ℕ) → has qs p ≡ true → names p (from_of (at ks q)) ≡ true → has qs q ≡ true) →
    ((p q : ℕ) → heir p ≡ true → (keeper ≡ Some p → ⊥) → names p (from_of (at ks q)) ≡ true → has qs q ≡ true) →
    (n q : ℕ) (from : Option From) → from_of (at ks q) ≡ from → Climb ks (Some r) n from →
    is_lent_of r (at ks q) ≡ true → heir q ≡ false → has qs q ≡ false →
    (h : ℕ) × (keeper ≡ Some h) × Reaches ks heir q h
rest_reaches ks r heir qs keeper one loose down other zero q None e c l h u = absurd (let z = loose q l e in cc)
rest_reaches ks r heir qs keeper one loose down other zero q (Some f) e c l h u =
    absurd (let z = one q (ap (names r) e ∙ eq-eqb f.register r (sym (some_one r f.register c))) h in cc)
rest_reaches ks r heir qs keeper one loose down other (suc n) q None e c l h u = absurd c
rest_reaches ks r heir qs keeper one loose down other (suc n) q (Some f) e c l h u =
    let m = ap (names f.register) e ∙ eq-eqb f.register f.register refl in
    elim (true_or_false (heir f.register)) [
      | inl g ↦ elim (is_or_not keeper f.register) [
        | inl k ↦ (f.register, k, (0, subst (λ x. Chain ks heir 0 x f.register) (sym e) (g, refl)))
        | inr k ↦ absurd (let z = other f.register q g k m in cc)
      ]
      | inr g ↦ elim (true_or_false (has qs f.register)) [
        | inl k ↦ absurd (let z = down f.register q k m in cc)
        | inr k ↦ (let i = rest_reaches ks r heir qs keeper one loose down other n f.register
            (from_of (at ks f.register)) refl c.1 (lent_in r (at ks f.register) ∙ c.0) g k in
            (i.0, i.1, (suc i.2.0, subst (λ x. Chain ks heir (suc i.2.0) x i.0) (sym e) (g, i.2.1))))
      ]
    ]

-- what is found out of a state

pub root_is : (root o : Option ℕ) → same_root root o ≡ true → root ≡ o
root_is None None e = refl
root_is None (Some x) e = absurd (cc)
root_is (Some r) None e = absurd (cc)
root_is (Some r) (Some x) e =
    elim (eqb_tells r x) [ inl h ↦ ap Some h.1 | inr h ↦ absurd (let z = h.0 in cc) ]

pub held_lent : (ks : List Kind) (t : ℕ) (s : List ℕ) (root o : Option ℕ) (from : Option From) → HasOwner ks root →
    ((n : ℕ) × Climb ks root n from) → is_lent_in o (Lent t s root from) ≡ true → IsHeld ks o from
held_lent ks t s root o from w c l =
    subst (λ z. IsHeld ks z from) (root_is root o l) (record { owner = w; steps = c.0; climb = c.1 })

pub climb_top : (ks : List Kind) (root : Option ℕ) (from : Option From) →
    ((f : From) → from ≡ Some f → root ≡ Some f.register) → (n : ℕ) × Climb ks root n from
climb_top ks root None h = (0, tt)
climb_top ks root (Some f) h = (0, h f refl)

lent_climb : (ks : List Kind) (r : ℕ) (f : From) → IsWhole ks r → is_lent_in (Some r) (at ks f.register) ≡ true →
    (n : ℕ) × Climb ks (Some r) n (Some f)
lent_climb ks r f a l = let i = a.held f.register l in (suc i.steps, (l, i.climb))

owns_or_reads : (x r : ℕ) (k : Kind) → root_of x k ≡ Some r → (x ≡ r) ⊎ (is_lent_in (Some r) k ≡ true)
owns_or_reads x r Gone e = absurd (cc)
owns_or_reads x r (Scalar t) e = absurd (cc)
owns_or_reads x r (Owned t s) e = inl (some_one x r e)
owns_or_reads x r (Lent t s root from) e =
    inr (ap (λ o. same_root o (Some r)) e ∙ eq-eqb r r refl)
owns_or_reads x r (Credit k) e = absurd (cc)

-- A from that leads into a whole tree leads to its owner.
tree_climb : (ks : List Kind) (r : ℕ) (from : Option From) → IsWhole ks r → tree_of ks from ≡ Some r →
    (n : ℕ) × Climb ks (Some r) n from
tree_climb ks r None a e = absurd (cc)
tree_climb ks r (Some f) a e =
    elim (owns_or_reads f.register r (at ks f.register) e) [
      | inl i ↦ (0, ap Some (sym i))
      | inr l ↦ lent_climb ks r f a l
    ]

none_climb : (ks : List Kind) (r : ℕ) (from : Option From) → from ≡ None → (n : ℕ) × Climb ks (Some r) n from
none_climb ks r None e = (0, tt)
none_climb ks r (Some f) e = absurd (cc)

-- What stays in a whole tree is held.
pub held_inside : (ks : List Kind) (r : ℕ) (root : Option ℕ) (from : Option From) → IsWhole ks r →
    (root ≡ Some r → HasOwner ks (Some r)) →
    (root ≡ Some r → (from ≡ None) ⊎ (tree_of ks from ≡ Some r)) → same_root root (Some r) ≡ true →
    IsHeld ks (Some r) from
held_inside ks r root from a w t l =
    let i = root_is root (Some r) l in
    let c : (n : ℕ) × Climb ks (Some r) n from = elim (t i) [
      | inl e ↦ none_climb ks r from e
      | inr e ↦ tree_climb ks r from a e
    ] in
    record { owner = w i; steps = c.0; climb = c.1 }

lent_tree : (x r : ℕ) (k : Kind) → is_lent_in (Some r) k ≡ true → root_of x k ≡ Some r
lent_tree x r Gone e = absurd (cc)
lent_tree x r (Scalar t) e = absurd (cc)
lent_tree x r (Owned t s) e = absurd (cc)
lent_tree x r (Lent t s root from) e = root_is root (Some r) e
lent_tree x r (Credit k) e = absurd (cc)

-- What doesn't read a whole tree came from none of its registers, and reaches none of its heirs.

pub outside_lent : (ks : List Kind) (r q : ℕ) (f : From) → IsWhole ks r → is_lent_in (Some r) (at ks q) ≡ false →
    from_of (at ks q) ≡ Some f → is_lent_in (Some r) (at ks f.register) ≡ true → ⊥
outside_lent ks r q f a l e h =
    let z = a.closed q (ap (tree_of ks) e ∙ lent_tree f.register r (at ks f.register) h) in cc

pub outside_owner : (ks : List Kind) (r q : ℕ) (f : From) → IsWhole ks r → is_owned (at ks r) ≡ true →
    is_lent_in (Some r) (at ks q) ≡ false → from_of (at ks q) ≡ Some f → f.register ≡ r → ⊥
outside_owner ks r q f a w l e i =
    let z = a.closed q (ap (tree_of ks) e ∙ ap (λ x. root_of x (at ks x)) i ∙ owned_tree r (at ks r) w) in cc

outside_chain : (ks : List Kind) (r : ℕ) (heir : ℕ → Bool) (d : ℕ) → IsWhole ks r → is_owned (at ks r) ≡ true →
    ((q : ℕ) → heir q ≡ true → names r (from_of (at ks q)) ≡ true) → (n q : ℕ) (from : Option From) →
    from_of (at ks q) ≡ from → is_lent_in (Some r) (at ks q) ≡ false → Chain ks heir n from d → ⊥
outside_chain ks r heir d a w h zero q None e l c = c
outside_chain ks r heir d a w h (suc n) q None e l c = c
outside_chain ks r heir d a w h zero q (Some f) e l c =
    let g = named_is r (from_of (at ks f.register)) (h f.register c.0) in
    outside_lent ks r q f a l e (a.closed f.register (ap (tree_of ks) g.1
    ∙ ap (λ x. root_of x (at ks x)) g.2 ∙ owned_tree r (at ks r) w))
outside_chain ks r heir d a w h (suc n) q (Some f) e l c =
    elim (true_or_false (is_lent_in (Some r) (at ks f.register))) [
      | inl g ↦ outside_lent ks r q f a l e g
      | inr g ↦ outside_chain ks r heir d a w h n f.register (from_of (at ks f.register)) refl g c.1
    ]

pub outside_unreached : (ks : List Kind) (r : ℕ) (heir : ℕ → Bool) (q d : ℕ) → IsWhole ks r →
    is_owned (at ks r) ≡ true → ((q : ℕ) → heir q ≡ true → names r (from_of (at ks q)) ≡ true) →
    is_lent_of r (at ks q) ≡ false → Reaches ks heir q d → ⊥
outside_unreached ks r heir q d a w h l x =
    outside_chain ks r heir d a w h x.0 q (from_of (at ks q)) refl (sym (lent_in r (at ks q)) ∙ l) x.1

held_kin_by : (ks : List Kind) (r : ℕ) (from : Option From) (p : Option ℕ) → IsHeld ks p (from_of (at ks r)) →
    is_lent_in p (at ks r) ≡ true → (f : From) → from ≡ Some f → f.register ≡ r → IsHeld ks p from
held_kin_by ks r from p h l f e i = record {
  owner = h.owner;
  steps = suc h.steps;
  climb = subst (Climb ks p (suc h.steps)) (sym e)
      (subst (λ z. (is_lent_in p (at ks z) ≡ true) × Climb ks p h.steps (from_of (at ks z))) (sym i) (l, h.climb));
}

-- What came from a held register in the same tree is held.
pub held_kin : (ks : List Kind) (r q : ℕ) (p o : Option ℕ) →
    ((o : Option ℕ) → is_lent_in o (at ks r) ≡ true → IsHeld ks o (from_of (at ks r))) →
    is_lent_in p (at ks r) ≡ true → names r (from_of (at ks q)) ≡ true → is_lent_in p (at ks q) ≡ true →
    is_lent_in o (at ks q) ≡ true → IsHeld ks o (from_of (at ks q))
held_kin ks r q p o h l n m k =
    let f = named_is r (from_of (at ks q)) n in
    subst (λ z. IsHeld ks z (from_of (at ks q))) (one_tree (at ks q) p o m k)
    (held_kin_by ks r (from_of (at ks q)) p (h p l) l f.0 f.1 f.2)

pub in_lent : (o : Option ℕ) (k : Kind) → is_lent_in o k ≡ true → is_lent k ≡ true
in_lent o Gone e = absurd (cc)
in_lent o (Scalar t) e = absurd (cc)
in_lent o (Owned t s) e = absurd (cc)
in_lent o (Lent t s root from) e = refl
in_lent o (Credit k) e = absurd (cc)

-- Nothing is lent of a register that owns no tree, where its tree is whole.
pub free_apart : (ks : List Kind) (h q : ℕ) → IsWhole ks h → is_owned (at ks h) ≡ false → is_lent_of h (at ks q) ≡ false
free_apart ks h q a e =
    elim (true_or_false (is_lent_of h (at ks q))) [
      | inl l ↦ absurd (let i = (a.held q (sym (lent_in h (at ks q)) ∙ l)).owner in cc)
      | inr l ↦ l
    ]
