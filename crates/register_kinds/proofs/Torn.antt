-- Which trees are marked as torn, whatever is done.
use Rattle.std.proofs.Common.{◌≡◌, ℕ, zero, suc, ◌<◌, ◌≤◌, inl, inr, List, [], ◌∷◌, length, set, refl, sym, ap, ◌∙◌, subst, arith}
use Rattle.std.specs.Prelude.{Bool, true, false, is_some, Option, Some, None, slice_get}
use Rattle.std.proofs.lemmas.Bool.{eq-eqb}
use Rattle.kind_domain.specs.fip_language.Table.{Table}
use Rattle.kind_domain.specs.cell_code.declared.kind.From.{From}
use Rattle.kind_domain.specs.cell_code.declared.kind.Kind.{Kind}
use Rattle.kind_domain.specs.cell_code.declared.kind.Kind.TheVariants.{Lent}
use Rattle.kind_domain.specs.code_rules.Kinds.{at, from_of, has, is_owned, same_root}
use Rattle.kind_domain.specs.code_rules.Changes.{tested, used_up, written}
use Rattle.kind_domain.specs.code_rules.Taking.{IsTaken, part}
use Rattle.register_kinds.specs.Climbs.{AreKnown, AreKnownOver, AreWhole, IsHeld, IsWhole, tree_of}
use Rattle.kind_domain.specs.Leading.{is_lent_in}
use Rattle.register_kinds.proofs.Climbing.{lent_there, root_is, sourced_there, true_or_false, whole_taken, whole_tested, whole_used, whole_written}
use Rattle.kind_domain.proofs.fip_language.Facts.{some_is as one_register}
pub use Rattle.kind_domain.proofs.fip_language.Facts.{not_true as unmarked_so}

-- marks

pub unmarked : (torn : List Bool) (r : ℕ) → slice_get torn r ≡ Some false → r < length torn
unmarked [] r e = absurd (cc)
unmarked (b ∷ bs) zero e = (omega arith)
unmarked (b ∷ bs) (suc r) e = let h = unmarked bs r e in omega arith

pub set_marked : (torn : List Bool) (r : ℕ) → slice_get (set torn r true) r ≡ Some false → ⊥
set_marked [] r e = cc
set_marked (b ∷ bs) zero e = cc
set_marked (b ∷ bs) (suc r) e = set_marked bs r e

pub set_before : (torn : List Bool) (x r : ℕ) → slice_get (set torn x true) r ≡ Some false →
    slice_get torn r ≡ Some false
set_before [] x r e = e
set_before (b ∷ bs) zero zero e = absurd (cc)
set_before (b ∷ bs) zero (suc r) e = e
set_before (b ∷ bs) (suc x) zero e = e
set_before (b ∷ bs) (suc x) (suc r) e = set_before bs x r e

pub marked_one : (torn : List Bool) (x r : ℕ) → (x < length torn → slice_get torn x ≡ Some true) →
    slice_get torn r ≡ Some false → Some x ≡ Some r → ⊥
marked_one torn x r h m e =
    let i = one_register x r e in
    let l = unmarked torn r m in
    let z = h (subst (λ y. y < length torn) (sym i) l) in
    let y = ap (slice_get torn) i in cc

pub marks_one : (torn new : List Bool) (x r : ℕ) → new ≡ set torn x true → slice_get new r ≡ Some false →
    Some x ≡ Some r → ⊥
marks_one torn new x r e m i =
    set_marked torn x (ap (slice_get (set torn x true)) (one_register x r i) ∙ ap (λ l. slice_get l r) (sym e) ∙ m)

pub marks_more : (torn new : List Bool) (x r : ℕ) → new ≡ set torn x true → slice_get new r ≡ Some false →
    slice_get torn r ≡ Some false
marks_more torn new x r e m = set_before torn x r (ap (λ l. slice_get l r) (sym e) ∙ m)

-- A register whose mark was taken away, or another that had none.
mark_case : (torn : List Bool) (r x : ℕ) → slice_get (set torn r false) x ≡ Some false → (x ≡ r → ⊥) →
    slice_get torn x ≡ Some false
mark_case [] r x e n = e
mark_case (b ∷ bs) zero zero e n = absurd (n refl)
mark_case (b ∷ bs) zero (suc x) e n = e
mark_case (b ∷ bs) (suc r) zero e n = e
mark_case (b ∷ bs) (suc r) (suc x) e n = mark_case bs r x e (λ i. n (ap suc i))

-- what is known

one_list : (torn other : List Bool) → Some torn ≡ Some other → torn ≡ other
one_list torn other e = cc

pub known_some : (ks : List Kind) (torn other : List Bool) → AreWhole ks torn → Some torn ≡ Some other →
    AreWhole ks other
known_some ks torn other a e = subst (AreWhole ks) (one_list torn other e) a

pub known_none : (ks : List Kind) → AreKnown ks None
known_none ks torn e = absurd (cc)

pub known_over : (ks : List Kind) (r : ℕ) (held : Option (List Bool)) (torn new other : List Bool) →
    AreKnownOver ks r held → held ≡ Some torn → new ≡ set torn r false → Some new ≡ Some other → AreWhole ks other
known_over ks r held torn new other a e i j =
    subst (AreWhole ks) (sym i ∙ one_list new other j) (a torn e)

pub known_one : (ks : List Kind) (r x : ℕ) → IsWhole ks r → Some r ≡ Some x → IsWhole ks x
known_one ks r x a e = subst (IsWhole ks) (one_register r x e) a

-- what is done

pub over_used : (ks new : List Kind) (r : ℕ) (held : Option (List Bool)) → new ≡ used_up ks r → AreKnown ks held →
    AreKnownOver new r held
over_used ks new r held e a torn i x m =
    subst (λ z. IsWhole z x) (sym e) (whole_used ks r x (λ n. a torn i x (mark_case torn r x m n)))

pub over_taken : (w : Table) (ks : List Kind) (r : ℕ) (ds ts : List ℕ) (new : List Kind) (held : Option (List Bool)) →
    AreKnown ks held → is_owned (at ks r) ≡ true → is_some (part ds ts r) ≡ false →
    ((q : ℕ) → is_some (part ds ts q) ≡ true → is_owned (at ks q) ≡ false) → IsTaken w ks r ds ts new →
    AreKnownOver new r held
over_taken w ks r ds ts new held a e p f t torn i x m =
    whole_taken w ks r ds ts new x (λ n. a torn i x (mark_case torn r x m n)) e p f t

pub known_tested : (ks new : List Kind) (r : ℕ) (c : List ℕ) (held : Option (List Bool)) → new ≡ tested ks r c →
    AreKnown ks held → AreKnown new held
known_tested ks new r c held e a torn i x m =
    subst (λ z. IsWhole z x) (sym e) (whole_tested ks r c x (a torn i x m))

pub known_written : (ks : List Kind) (d : ℕ) (k : Kind) (torn : List Bool) → is_owned (at ks d) ≡ false →
    ((r : ℕ) → slice_get torn r ≡ Some false → IsWhole ks r → is_lent_in (Some r) k ≡ true →
    IsHeld ks (Some r) (from_of k)) →
    ((r : ℕ) → slice_get torn r ≡ Some false → tree_of ks (from_of k) ≡ Some r → is_lent_in (Some r) k ≡ true) →
    AreWhole ks torn → AreWhole (written ks d k) torn
known_written ks d k torn e f c a r m = whole_written ks d k r (a r m) e (f r m (a r m)) (c r m)

-- which trees are torn

pub root_lent : (t : ℕ) (s : List ℕ) (root : Option ℕ) (from : Option From) (r : ℕ) → root ≡ Some r →
    is_lent_in (Some r) (Lent t s root from) ≡ true
root_lent t s root from r e = ap (λ o. same_root o (Some r)) e ∙ eq-eqb r r refl

-- A register that reads a tree that isn't marked is listed.
pub marked_listed : (ks : List Kind) (q r t : ℕ) (s : List ℕ) (root : Option ℕ) (from : Option From) (fine : Bool)
    (qs : List ℕ) → Lent t s root from ≡ at ks q → (fine ≡ true → has qs q ≡ true) →
    (fine ≡ false → root ≡ Some r → ⊥) → is_lent_in (Some r) (at ks q) ≡ true → has qs q ≡ true
marked_listed ks q r t s root from fine qs k f g l =
    elim (true_or_false fine) [
      | inl e ↦ f e
      | inr e ↦ absurd (g e (root_is root (Some r) (ap (is_lent_in (Some r)) k ∙ l)))
    ]

-- A register that came from one of a tree that isn't marked reads the tree.
pub marked_closed : (ks : List Kind) (q r t : ℕ) (s : List ℕ) (root : Option ℕ) (from : Option From)
    (tree : Option ℕ) → Lent t s root from ≡ at ks q → tree ≡ tree_of ks from →
    (same_root root tree ≡ false → tree ≡ Some r → ⊥) → tree_of ks (from_of (at ks q)) ≡ Some r →
    is_lent_in (Some r) (at ks q) ≡ true
marked_closed ks q r t s root from tree k h g e =
    let i = h ∙ ap (λ z. tree_of ks (from_of z)) k ∙ e in
    elim (true_or_false (same_root root tree)) [
      | inl j ↦ sym (ap (is_lent_in (Some r)) k) ∙ ap (same_root root) (sym i) ∙ j
      | inr j ↦ absurd (g j i)
    ]

-- All trees are whole that no register tears.
pub whole_found : (ks : List Kind) (torn : List Bool) (qs : List ℕ) (n : ℕ) → length ks ≤ n →
    ((q r : ℕ) → q < n → slice_get torn r ≡ Some false → is_lent_in (Some r) (at ks q) ≡ true → has qs q ≡ true) →
    ((q r : ℕ) → q < n → slice_get torn r ≡ Some false → tree_of ks (from_of (at ks q)) ≡ Some r →
    is_lent_in (Some r) (at ks q) ≡ true) →
    ((q : ℕ) → has qs q ≡ true → (o : Option ℕ) → is_lent_in o (at ks q) ≡ true → IsHeld ks o (from_of (at ks q))) →
    AreWhole ks torn
whole_found ks torn qs n few listed closed held r m = record {
  held = λ q l. held q (listed q r (let h = lent_there ks q (Some r) l in omega arith) m l) (Some r) l;
  closed = λ q e. closed q r (let h = sourced_there ks q r e in omega arith) m e;
}
