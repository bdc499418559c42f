-- Heads, and values with a head.
use Rattle.std.proofs.Common.{◌≡◌, ℕ, zero, suc, List, [], Bool, true, false, refl, sym, ap, ◌∙◌, subst}
use Rattle.std.specs.Prelude.{◌&&◌, not, ℤ, pos, negsuc}
use Rattle.std.proofs.lemmas.Bool.{eqb-true, eq-eqb}
use Rattle.match_knowledge.specs.declared.heads.Head.{Head}
use Rattle.match_knowledge.specs.declared.heads.Head.TheVariants.{Number, Tag}
use Rattle.fip_base.specs.fip_language.Values.{Value, Int, Node, Values, End, More}
use Rattle.fip_base.specs.fip_language.Table.{Shape, Table, HasType, HaveTypes}
use Rattle.fip_base.specs.fip_language.Matching.{same_int}
use Rattle.match_knowledge.specs.ValueHeads.{head, children, same_head, IsHead}
pub use Rattle.fip_base.proofs.fip_language.Facts.{and_both, both_true as both_and, not_of as true_not, not_true, true_and_false as not_both}

pub same_int_is : (a b : ℤ) → same_int a b ≡ true → a ≡ b
same_int_is (pos a) (pos b) e = ap pos (eqb-true a b e)
same_int_is (pos a) (negsuc b) e = cc
same_int_is (negsuc a) (pos b) e = cc
same_int_is (negsuc a) (negsuc b) e = ap negsuc (eqb-true a b e)

pub same_int_refl : (a : ℤ) → same_int a a ≡ true
same_int_refl (pos a) = eq-eqb a a refl
same_int_refl (negsuc a) = eq-eqb a a refl

pub same_is : (a b : Head) → same_head a b ≡ true → a ≡ b
same_is (Number i) (Number j) e = ap Number (same_int_is i j e)
same_is (Number i) (Tag c) e = cc
same_is (Tag c) (Number i) e = cc
same_is (Tag c) (Tag d) e = ap Tag (eqb-true c d e)

pub same_refl : (a : Head) → same_head a a ≡ true
same_refl (Number i) = same_int_refl i
same_refl (Tag c) = eq-eqb c c refl

pub is_same : (a b : Head) → a ≡ b → same_head a b ≡ true
is_same a b e = subst (λ x. same_head a x ≡ true) e (same_refl a)

-- a value has a head of its type
pub typed_head : (tb : Table) (t : ℕ) (v : Value) → HasType tb t v → (fs : List ℕ) × IsHead tb t (head v) fs × HaveTypes tb fs (children v)
typed_head tb zero (Int i) h = ([], (h, refl), tt)
typed_head tb zero (Node c vs) h = absurd h
typed_head tb (suc t) (Int i) h = absurd h
typed_head tb (suc t) (Node c vs) h = let s = h.0 in (s.fields, (s, h.1, refl), h.2)

pub one_head : (tb : Table) (t : ℕ) (h : Head) (fs gs : List ℕ) → IsHead tb t h fs → IsHead tb t h gs → fs ≡ gs
one_head tb zero (Number i) fs gs a b = a.1 ∙ sym b.1
one_head tb zero (Tag c) fs gs a b = absurd a
one_head tb (suc t) (Number i) fs gs a b = absurd a
one_head tb (suc t) (Tag c) fs gs a b =
    let s = a.0 in
    let r = b.0 in
    let e : s ≡ r = let z = sym a.1 ∙ b.1 in cc in
    sym a.2 ∙ ap (λ (s : Shape). s.fields) e ∙ b.2

pub no_children : (tb : Table) (vs : Values) → HaveTypes tb [] vs → vs ≡ End
no_children tb End h = refl
no_children tb (More v vs) h = absurd h

abbrev pub Built : Table → ℕ → Head → Values → Type 0
Built tb t h vs = (v : Value) × HasType tb t v × (head v ≡ h) × (children v ≡ vs)

-- a value with this head and these children
pub build : (tb : Table) (t : ℕ) (h : Head) (fs : List ℕ) (vs : Values) → IsHead tb t h fs → HaveTypes tb fs vs → Built tb t h vs
build tb zero (Number i) fs vs a b = (Int i, a.0, refl, sym (no_children tb vs (subst (λ fs. HaveTypes tb fs vs) a.1 b)))
build tb zero (Tag c) fs vs a b = absurd a
build tb (suc t) (Number i) fs vs a b = absurd a
build tb (suc t) (Tag c) fs vs a b = (Node c vs, (a.0, a.1, subst (λ fs. HaveTypes tb fs vs) (sym a.2) b), refl, refl)
