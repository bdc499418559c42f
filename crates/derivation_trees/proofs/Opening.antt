-- A builder's nodes have few parts, and its open ones are there: after a node was opened, and after one was closed.
use Rattle.std.proofs.Common.{◌≡◌, ℕ, zero, suc, ◌+◌, ◌-◌, ◌<◌, ◌≤◌, refl, sym, ap, ap₂, subst, ◌∙◌, List, [], ◌∷◌, ◌++◌, length, take, Option, Some, None, arith}
use Rattle.std.specs.Prelude.{slice_get}
use Rattle.std.proofs.lemmas.List.{length-append, length-map, map-append, take_at}
use Rattle.std.proofs.lemmas.Option.{none-some}
use Rattle.derivation_trees.specs.declared.derivation.Node.{Node}
use Rattle.derivation_trees.specs.Trees.{Head, head, heads}
use Rattle.derivation_trees.specs.Building.{Built, alter, alter_at, innermost, with_part, with_span, closed, closed_at}
use Rattle.derivation_trees.specs.Parts.{AreThere, HaveFewParts}
use Rattle.derivation_trees.proofs.Altering.{part_few, span_few, pushed_few, pushed_there}

pub more_few : (n m : ℕ) (hs : List Head) → n ≤ m → HaveFewParts n hs → HaveFewParts m hs
more_few n m hs l few = λ k x e. let a = few k x e in omega (arith, a, l)

pub more_there : (n m : ℕ) (is : List ℕ) → n ≤ m → AreThere n is → AreThere m is
more_there n m is l t = λ k i e. let a = t k i e in omega (arith, a, l)

one_longer : (ns : List Node) (n : Node) → length (ns ++ n ∷ []) ≡ suc (length ns)
one_longer [] n = refl
one_longer (x ∷ ns) n = ap suc (one_longer ns n)

pub put_longer : (ns ms : List Node) (n : Node) → ms ≡ ns ++ n ∷ [] → length ms ≡ length ns + 1
put_longer ns ms n e = let a = ap length e ∙ one_longer ns n in omega (arith, a)

put_heads : (ns ms : List Node) (n : Node) → ms ≡ ns ++ n ∷ [] → heads ms ≡ heads ns ++ head n ∷ []
put_heads ns ms n e = ap heads e ∙ map-append head ns (n ∷ [])

-- a node without parts is put after the others
pub put_few : (ns ms : List Node) (n : Node) → ms ≡ ns ++ n ∷ [] → n.parts ≡ 0 → HaveFewParts (length ns) (heads ns) → HaveFewParts (length ns + 1) (heads ms)
put_few ns ms n e z few =
    subst (λ hs. HaveFewParts (length ns + 1) hs) (sym (put_heads ns ms n e))
    (pushed_few (length ns + 1) (heads ns) (head n) (more_few (length ns) (length ns + 1) (heads ns) (omega arith) few) (omega (arith, z)))

-- and the node around it has a part more
pub opened_few : (ns ms : List Node) (n : Node) (is : List ℕ) → ms ≡ ns ++ n ∷ [] → n.parts ≡ 0 → AreThere (length ns) is → HaveFewParts (length ns) (heads ns) → HaveFewParts (length ns + 1) (alter_at with_part (innermost is) (heads ms))
opened_few [] ms n is e z t few = of (innermost is) refl
  where
    of : (o : Option ℕ) → innermost is ≡ o → HaveFewParts 1 (alter_at with_part o (heads ms))
    of None f = put_few [] ms n e z few
    of (Some i) f = absurd (let a = t (length is - 1) i f in omega (arith, a))
opened_few (x ∷ ns) ms n is e z t few =
    let m = length (x ∷ ns) in
    part_few m (innermost is) (heads ms)
    (subst (λ hs. HaveFewParts m hs) (sym (put_heads (x ∷ ns) ms n e)) (pushed_few m (heads (x ∷ ns)) (head n) few (omega (arith, z))))

pub opened_there : (n : ℕ) (is js : List ℕ) → js ≡ is ++ n ∷ [] → AreThere n is → AreThere (n + 1) js
opened_there n is js e t = subst (λ ks. AreThere (n + 1) ks) (sym e) (pushed_there n is t)

front : (js ks : List ℕ) (k i : ℕ) → slice_get js k ≡ Some i → slice_get (js ++ ks) k ≡ Some i
front [] ks k i e = absurd (none-some i e)
front (j ∷ js) ks zero i e = e
front (j ∷ js) ks (suc k) i e = front js ks k i e

pub closed_there : (n m : ℕ) (is js : List ℕ) (i : ℕ) → m ≡ n → is ≡ js ++ i ∷ [] → AreThere n is → AreThere m js
closed_there n m is js i l e t = λ k j f. let a = t k j (ap (λ ks. slice_get ks k) e ∙ front js (i ∷ []) k j f) in omega (arith, a, l)

pub closed_few : (n m s i : ℕ) (hs gs : List Head) → m ≡ n → gs ≡ alter (with_span s) i hs → HaveFewParts n hs → HaveFewParts m gs
closed_few n m s i hs gs l e few = subst (λ ks. HaveFewParts m ks) (sym e) (subst (λ k. HaveFewParts k (alter (with_span s) i hs)) (sym l) (span_few n s i hs few))

-- ---- what closing gives

at_end : (js : List ℕ) (i : ℕ) → slice_get (js ++ i ∷ []) (length js) ≡ Some i
at_end [] i = refl
at_end (j ∷ js) i = at_end js i

innermost_is : (is js : List ℕ) (i : ℕ) → is ≡ js ++ i ∷ [] → innermost is ≡ Some i
innermost_is is js i e =
    let a = length-append js (i ∷ []) in
    let l : length (js ++ i ∷ []) - 1 ≡ length js = omega (arith, a) in
    ap (λ ks. innermost ks) e ∙ ap (slice_get (js ++ i ∷ [])) l ∙ at_end js i

taken_is : (is js : List ℕ) (i : ℕ) → is ≡ js ++ i ∷ [] → js ≡ take (length is - 1) is
taken_is is js i e =
    let a = ap length e ∙ length-append js (i ∷ []) in
    let l : length is - 1 ≡ length js = omega (arith, a) in
    sym (ap (λ n. take n is) l ∙ ap (take (length js)) e ∙ take_at js (i ∷ []) (length js) refl)

pub closed_is : (ns : List Node) (hs : List Head) (is js : List ℕ) (i : ℕ) → is ≡ js ++ i ∷ [] → hs ≡ alter (with_span (length ns - i)) i (heads ns) → record { nodes = hs; open_at = js } ≡ closed record { nodes = heads ns; open_at = is }
closed_is ns hs is js i e f =
    let b : Built = record { nodes = heads ns; open_at = is } in
    ap₂ (λ (xs : List Head) (ks : List ℕ). record { nodes = xs; open_at = ks })
    (f ∙ ap (λ n. alter (with_span (n - i)) i (heads ns)) (sym (length-map ns head))) (taken_is is js i e)
    ∙ sym (ap (λ o. closed_at o b) (innermost_is is js i e))
