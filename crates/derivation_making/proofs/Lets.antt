-- A let: what its bound expression gets, and what the rest gets.
use Rattle.std.proofs.Common.{◌≡◌, ℕ, zero, suc, ◌<◌, ◌≤◌, ◌+◌, ◌⊎◌, inl, inr, refl, sym, ap, subst, ◌∙◌, List, [], ◌++◌, length, Some, Bool, true, false, not, arith}
use Rattle.std.specs.Prelude.{◌||◌, ◌&&◌, if◌then◌else◌}
use Rattle.derivation_check.specs.fip_trees.declared.program.Binder.{Binder}
use Rattle.derivation_check.specs.fip_trees.Tree as T
use Rattle.derivation_check.specs.fip_trees.Tree.{Expression, Block}
use Rattle.ownership_agreement.specs.fip_rules.World.{World, is_fip}
use Rattle.ownership_agreement.specs.fip_rules.Shapes.{Names}
use Rattle.ownership_agreement.specs.ownership_calculus.Terms.{Term, Let, Item, Own, Credit, has, given}
use Rattle.ownership_agreement.specs.ownership_calculus.Clean.{outside, asks, fewest, Status, Free, Owned, after, lent}
use Rattle.ownership_agreement.specs.ownership_calculus.Clean as K
use Rattle.ownership_agreement.proofs.ownership_calculus.Fit.{held, visible, held_after, held_lent}
use Rattle.ownership_agreement.specs.Bodies.{Scalars}
use Rattle.ownership_agreement.proofs.Basics.{pos}
use Rattle.derivation_check.specs.derivation_trees.declared.derivation.RuleName.TheVariants as R
use Rattle.derivation_check.specs.derivation_trees.Trees.{Tree, Branch, NoTrees, MoreTrees}
use Rattle.derivation_check.specs.Owned.{amount, owned, Rising, Under}
use Rattle.derivation_check.specs.Scopes.{Known, Scope, known, lending, binding, within, AreNumbered}
use Rattle.derivation_check.specs.Calculus.{bound, Derives, DerivesBlock}
use Rattle.derivation_making.specs.Made.{those, numbers, credits, added}
use Rattle.derivation_making.proofs.Lists.{tally, AreKnown, known_those, tally_those, given_parts, given_append, given_most, numbers_append, rising_those, rising_up, rising_append, number_there, has_none, has_some}
use Rattle.derivation_making.proofs.Credits.{by_size, amount_in, amount_out}
use Rattle.derivation_making.proofs.Nodes.{Has, has_root, has_variables, has_owned, owned_less}
use Rattle.derivation_making.proofs.Linking.{Linked, there_before, added_rising, added_numbers}
use Rattle.derivation_making.proofs.Standing.{Stands, Asks, fewest_le, outside_mono, enter_asks}
use Rattle.type_check.proofs.fip_language.Facts.{or_first as or_left, or_last as or_right}
use Rattle.ownership_agreement.proofs.ownership_calculus.Forth.{after_few, lent_few, lent_unused}
pub use Rattle.ownership_agreement.proofs.ownership_calculus.Forth.{after_used, seen_back}

-- ---- pointwise

lent_back : (s : Status) (m : ℕ) → visible (lent s m) ≡ true → (visible s ≡ true) ⊎ ((m ≡ 0) × (1 ≤ held s))
lent_back s (suc m) h = inl h
lent_back Free zero h = inl refl
lent_back (Owned true l) zero h = absurd (cc)
lent_back (Owned false true) zero h = inl refl
lent_back (Owned false false) zero h = inr (refl, omega arith)

few_lent : (b : Bool) (m n k : ℕ) (s : Status) → k ≡ (if b then n else 0) → (1 ≤ n → b ≡ pos m) → n ≤ held s → k ≤ held (lent s m)
few_lent b m zero k s e f l = let z = nothing b k e in omega arith
  where
    nothing : (b : Bool) (k : ℕ) → k ≡ (if b then zero else 0) → k ≡ 0
    nothing true k e = e
    nothing false k e = e
few_lent false m (suc n) k s e f l = omega arith
few_lent true zero (suc n) k s e f l = absurd (let z = f (omega arith) in cc)
few_lent true (suc m) (suc n) k s e f l = omega arith

kept_lent : (b : Bool) (m n k : ℕ) (s : Status) → k ≡ (if b then n else 0) → (1 ≤ n → b ≡ pos m) → held s ≤ n → held (lent s m) ≤ k
kept_lent b zero n k s e f l = let z = lent_unused s in omega arith
kept_lent b (suc m) zero k s e f l = omega arith
kept_lent true (suc m) (suc n) k s e f l = omega arith
kept_lent false (suc m) (suc n) k s e f l = absurd (let z = f (omega arith) in cc)

few_after : (b : Bool) (m n k : ℕ) (s : Status) → k ≡ (if not b then n else 0) → (1 ≤ n → b ≡ pos m) → n ≤ held s → k ≤ held (after s m)
few_after b m zero k s e f l = let z = nothing (not b) k e in omega arith
  where
    nothing : (b : Bool) (k : ℕ) → k ≡ (if b then zero else 0) → k ≡ 0
    nothing true k e = e
    nothing false k e = e
few_after true m (suc n) k s e f l = omega arith
few_after false zero (suc n) k s e f l = omega arith
few_after false (suc m) (suc n) k s e f l = absurd (let z = f (omega arith) in cc)

kept_after : (b : Bool) (m n k : ℕ) (s : Status) → k ≡ (if not b then n else 0) → (1 ≤ n → b ≡ pos m) → held s ≤ n → held (after s m) ≤ k
kept_after b (suc m) n k s e f l = let z = after_used s m in omega arith
kept_after b zero zero k s e f l = omega arith
kept_after false zero (suc n) k s e f l = omega arith
kept_after true zero (suc n) k s e f l = absurd (let z = f (omega arith) in cc)

-- ---- what is required

pub bound_asks : (fip : Bool) (s : ℕ → Status) (ys : List ℕ) (ta tb : Term) → Asks fip s (Let ys ta tb) → Asks fip (λ x. lent (s x) (asks (Own x) ta)) ta
bound_asks fip s ys ta tb h =
    let most : (x : ℕ) → asks (Own x) ta + outside ys [] (Own x) (asks (Own x) tb) ≤ held (s x) = h.most in
    let all : fip ≡ true → (x : ℕ) → held (s x) ≤ fewest x ta + outside ys [] (Own x) (fewest x tb) = h.all in
    record {
      all = λ k x. lent_few (s x) (asks (Own x) ta) (fewest x ta) (outside ys [] (Own x) (fewest x tb)) (outside ys [] (Own x) (asks (Own x) tb)) (fewest_le ta x) (outside_mono (has ys x) (fewest x tb) (asks (Own x) tb) (fewest_le tb x)) (most x) (all k x);
      most = λ x. held_lent (s x) (asks (Own x) ta) (let g = most x in omega arith);
      clean = h.clean.0;
      even = λ k. (h.even k).0;
    }

pub rest_asks : (fip : Bool) (s : ℕ → Status) (ys : List ℕ) (ta tb : Term) → Asks fip s (Let ys ta tb) → Asks fip (K.binding ys true (λ x. after (s x) (asks (Own x) ta))) tb
rest_asks fip s ys ta tb h =
    let most : (x : ℕ) → asks (Own x) ta + outside ys [] (Own x) (asks (Own x) tb) ≤ held (s x) = h.most in
    let all : fip ≡ true → (x : ℕ) → held (s x) ≤ fewest x ta + outside ys [] (Own x) (fewest x tb) = h.all in
    enter_asks fip true ys (λ x. after (s x) (asks (Own x) ta)) tb
    (λ k x. after_few (s x) (asks (Own x) ta) (fewest x ta) (outside ys [] (Own x) (fewest x tb)) (fewest_le ta x) (all k x))
    (λ x. held_after (s x) (asks (Own x) ta) (outside ys [] (Own x) (asks (Own x) tb)) (most x))
    (λ o. h.clean.1) h.clean.2 (λ k. (h.even k).1)

-- ---- what is there

or_first : (a b c : Bool) → (a || b) ≡ true → (a || (b || c)) ≡ true
or_first true b c h = refl
or_first false true c h = refl
or_first false false c h = absurd (cc)

or_later : (a b c d : Bool) → c ≡ true → d ≡ false → (a || (b || (c && not d))) ≡ true
or_later true b c d e f = refl
or_later false true c d e f = refl
or_later false false c d e f = cc

-- the variables that a bound expression doesn't use up are borrowed by it
not_among : (w : World) (vs : List Known) (d : ℕ) (have : List Known) (u : ℕ → Bool) (x : ℕ) (v : Known) → AreKnown w vs have → Rising 0 d (numbers have) → known vs x ≡ Some v → u x ≡ false → 1 ≤ tally x have → has (numbers (those u have)) v.number ≡ false
not_among w vs d have u x v h r k e m =
    let t : tally x (those (λ y. not (u y)) have) ≡ tally x have = tally_those (λ y. not (u y)) have x ∙ ap (λ b. if not b then tally x have else 0) e in
    let g = number_there w vs (those (λ y. not (u y)) have) x v (known_those w vs (λ y. not (u y)) have h) k (omega arith) in
    let p = given_parts u have v.number in
    let o = given_most 0 d v.number (numbers have) r in
    has_none (numbers (those u have)) v.number (omega arith)

pub bound_stands : (w : World) (sp : Scope) (c : Names) (sc : Scalars) (d e : ℕ) (have : List Known) (s : ℕ → Status) (u f g : ℕ → Bool) (ta : Term) → Linked w sp.variables c sc → ((x : ℕ) → x < c.next → sc x ≡ false → u x ≡ pos (asks (Own x) ta)) → ((x : ℕ) → f x ≡ true → g x ≡ true) → Stands w sp d have s g → d ≤ e → Stands w (lending (numbers have) (numbers (those u have)) sp) e (those u have) (λ x. lent (s x) (asks (Own x) ta)) f
bound_stands w sp c sc d e have s u f g ta l p q h m = record {
  are_known = known_those w sp.variables u have h.are_known;
  rising = rising_up 0 d e (numbers (those u have)) (rising_those u 0 d have h.rising) m;
  few = λ x. few_lent (u x) (asks (Own x) ta) (tally x have) (tally x (those u have)) (s x) (tally_those u have x) (λ t. let b = there_before w sp.variables c sc have x l h.are_known t in p x b.0 b.1) (h.few x);
  kept = λ x o. kept_lent (u x) (asks (Own x) ta) (tally x have) (tally x (those u have)) (s x) (tally_those u have x) (λ t. let b = there_before w sp.variables c sc have x l h.are_known t in p x b.0 b.1) (h.kept x (q x o));
  lent = λ x v k z o i. elim (lent_back (s x) (asks (Own x) ta) i) [
    | inl j ↦ or_first (not v.owned) (sp.lent v.number) (has (numbers have) v.number && not (has (numbers (those u have)) v.number)) (h.lent x v k z (q x o) j)
    | inr j ↦
        let t : 1 ≤ tally x have = (let a = h.kept x (q x o) in let b = j.1 in omega arith) in
        let a = l x v k in
        or_later (not v.owned) (sp.lent v.number) (has (numbers have) v.number) (has (numbers (those u have)) v.number)
        (has_some (numbers have) v.number (number_there w sp.variables have x v h.are_known k t))
        (not_among w sp.variables d have u x v h.are_known h.rising k (p x a.2 (a.1 ∙ z) ∙ ap pos j.0) t)
  ];
}

pub rest_stands : (w : World) (sp : Scope) (c : Names) (sc : Scalars) (d : ℕ) (have : List Known) (s : ℕ → Status) (u f g : ℕ → Bool) (ta : Term) → Linked w sp.variables c sc → ((x : ℕ) → x < c.next → sc x ≡ false → u x ≡ pos (asks (Own x) ta)) → ((x : ℕ) → f x ≡ true → g x ≡ true) → Stands w sp d have s g → Stands w sp d (those (λ x. not (u x)) have) (λ x. after (s x) (asks (Own x) ta)) f
rest_stands w sp c sc d have s u f g ta l p q h = record {
  are_known = known_those w sp.variables (λ x. not (u x)) have h.are_known;
  rising = rising_those (λ x. not (u x)) 0 d have h.rising;
  few = λ x. few_after (u x) (asks (Own x) ta) (tally x have) (tally x (those (λ y. not (u y)) have)) (s x) (tally_those (λ y. not (u y)) have x) (λ t. let b = there_before w sp.variables c sc have x l h.are_known t in p x b.0 b.1) (h.few x);
  kept = λ x o. kept_after (u x) (asks (Own x) ta) (tally x have) (tally x (those (λ y. not (u y)) have)) (s x) (tally_those (λ y. not (u y)) have x) (λ t. let b = there_before w sp.variables c sc have x l h.are_known t in p x b.0 b.1) (h.kept x (q x o));
  lent = λ x v k z o i. h.lent x v k z (q x o) (seen_back (s x) (asks (Own x) ta) i);
}

-- ---- the node

let_sums : (w : World) (d : ℕ) (bs : List Binder) (have : List Known) (u : ℕ → Bool) (m n : ℕ → ℕ) (i : Item) → owned (numbers have) (credits (λ k. m k + n k)) i + bound w d bs i ≡ owned (numbers (those u have)) (credits m) i + owned (numbers (those (λ x. not (u x)) have ++ added w true d bs)) (credits n) i
let_sums w d bs have u m n (Own y) =
    let a = given_parts u have y in
    let b = ap (given y) (numbers_append (those (λ x. not (u x)) have) (added w true d bs)) in
    let c = given_append y (numbers (those (λ x. not (u x)) have)) (numbers (added w true d bs)) in
    let e = ap (given y) (added_numbers w d bs) in
    omega arith
let_sums w d bs have u m n (Credit k) =
    by_size (λ k. amount k (credits (λ j. m j + n j)) + 0 ≡ amount k (credits m) + amount k (credits n))
    (λ k a b. let x = amount_in (λ j. m j + n j) k a b in let y = amount_in m k a b in let z = amount_in n k a b in omega arith)
    (λ k o. let x = amount_out (λ j. m j + n j) k o in let y = amount_out m k o in let z = amount_out n k o in omega arith)
    k

-- p and q are what is made for the bound expression and for the rest
pub let_derives : (w : World) (sp : Scope) (n d : ℕ) (bs : List Binder) (e : Expression) (rest : Block) (t p q : Tree) (have : List Known) (u : ℕ → Bool) (ma mb : ℕ → ℕ) → Under (is_fip w.kind) d t (Branch R.Let (numbers have) (credits (λ k. ma k + mb k)) (MoreTrees p (MoreTrees q NoTrees))) → 0 < length bs → AreNumbered (n + within e) d bs → Rising 0 d (numbers have) → Has (those u have) ma p → Has (those (λ x. not (u x)) have ++ added w true d bs) mb q → Derives w (lending (numbers have) (numbers (those u have)) sp) n (d + length bs) p e → DerivesBlock w (binding d true bs sp) (n + within e + length bs) (d + within e + length bs) q rest → DerivesBlock w sp n d t (T.Let bs e rest)
let_derives w sp n d bs e rest t p q have u ma mb under some numbered rising hp hq dp dq = (
  numbers have,
  credits (λ k. ma k + mb k),
  p,
  q,
  under,
  some,
  numbered,
  has_owned d (those u have) ma p hp (rising_those u 0 d have rising),
  λ i. let a = has_root (those u have) ma p hp i in let b = owned_less u have (λ k. ma k + mb k) ma (λ k x y. omega arith) i in omega arith,
  has_owned (d + length bs) (those (λ x. not (u x)) have ++ added w true d bs) mb q hq
      (subst (Rising 0 (d + length bs)) (sym (numbers_append (those (λ x. not (u x)) have) (added w true d bs)))
      (rising_append 0 d (d + length bs) (numbers (those (λ x. not (u x)) have)) (numbers (added w true d bs)) (rising_those (λ x. not (u x)) 0 d have rising) (added_rising w true d (d + length bs) bs (omega arith)) (omega arith) (omega arith))),
  λ i.
      let a = has_root (those u have) ma p hp i in
      let b = has_root (those (λ x. not (u x)) have ++ added w true d bs) mb q hq i in
      let c = let_sums w d bs have u ma mb i in omega arith,
  subst (λ ys. Derives w (lending (numbers have) ys sp) n (d + length bs) p e) (sym (has_variables (those u have) ma p hp)) dp,
  dq,
)
