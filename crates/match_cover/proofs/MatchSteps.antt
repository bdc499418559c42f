-- The matches of each form, and the steps of the walk that finds them.
use Rattle.std.proofs.Common.{◌≡◌, ℕ, zero, suc, ◌+◌, ◌<◌, ◌≤◌, inl, subst, Option, Some, List, [], ◌∷◌, ◌++◌, drop, length, get_or, map, Vec, Global, refl, sym, ap, ◌∙◌, arith, append_assoc}
use Rattle.std.specs.declared.boxed.Box.{Box}
use Rattle.fip_language.specs.declared.Place.{Place}
use Rattle.fip_base.specs.declared.core_form.MatchKind.{MatchKind}
use Rattle.fip_trees.specs.declared.program.Argument.{Argument}
use Rattle.fip_trees.specs.declared.program.Expression.{Expression}
use Rattle.fip_trees.specs.declared.program.Expression.TheOpen as E
use Rattle.fip_trees.specs.declared.program.Expression.TheVariants as EV
use Rattle.fip_trees.specs.declared.program.Expression.TheFolds.{fold-roll-Expression, fold_out-Block, fold_out-Binding, fold_out-Clause}
use Rattle.fip_trees.specs.declared.program.Block.{Block, out-Block}
use Rattle.fip_trees.specs.declared.program.Binding.{Binding, out-Binding}
use Rattle.fip_trees.specs.declared.program.Clause.{Clause, out-Clause}
use Rattle.std.specs.Prelude.{slice_get, Result, Ok, Err, OnOk}
use Rattle.std.specs.List.{slice_index_or}
use Rattle.std.specs.List.Sorted.{IsPermutation, IsNonDecreasingBy}
use Rattle.std.proofs.lemmas.List.Sorted.{IsPermutation-map, length_permutation}
use Rattle.fip_base.specs.declared.plain.NoMemory.{NoMemory}
use Rattle.fip_language.specs.Table.{Table}
use Rattle.fip_trees.specs.declared.program.Instance.{Instance}
use Rattle.match_cover.specs.declared.trees.Tree.{Tree}
use Rattle.match_cover.specs.declared.matches.Found.{Found}
use Rattle.match_cover.specs.FoundView.{found_match, found_matches, found_offset}
use Rattle.match_cover.specs.TreeView.{AnswersTree}
use Rattle.match_cover.specs.PatternView.{joined, pattern_of, clause_patterns, match_patterns}
use Rattle.match_cover.specs.Matches.{Match, NoneBefore, Ascend, IsDecisionOf, Arm, arm, arm_pattern, below_arms, expression_step, binding_step, block_step, clause_step, expression_matches, binding_matches, block_matches}
pub use Rattle.fip_language.proofs.Facts.{drop_end, drop_item as drop_first}

pub block_is : (b : Block) → block_matches b ≡ joined (map binding_matches (out-Block b).bindings.items) ++ expression_matches (out-Block b).last
block_is b = fold_out-Block (List Match) (List Match) (List Match) Arm expression_step binding_step block_step clause_step b

pub binding_is : (b : Binding) → binding_matches b ≡ expression_matches (out-Binding b).bound
binding_is b = fold_out-Binding (List Match) (List Match) (List Match) Arm expression_step binding_step block_step clause_step b

pub arm_is : (c : Clause) → arm c ≡ record { pattern = pattern_of c; below = block_matches (out-Clause c).body }
arm_is c = fold_out-Clause (List Match) (List Match) (List Match) Arm expression_step binding_step block_step clause_step c

pub below_is : (c : Clause) → (arm c).below ≡ block_matches (out-Clause c).body
below_is c = ap (λ (a : Arm). a.below) (arm_is c)

arms_are : (cs : List Clause) → map arm_pattern (map arm cs) ≡ map pattern_of cs
arms_are [] = refl
arms_are (c ∷ cs) = ap (λ p. p ∷ map arm_pattern (map arm cs)) (ap (λ (a : Arm). a.pattern) (arm_is c)) ∙ ap (λ ps. pattern_of c ∷ ps) (arms_are cs)

pub match_is : (k : MatchKind) (u : ℕ) (p : Place) (a : Argument) (c : Box Clause Global) (cs : Vec Clause Global) → expression_matches (EV.Match k u p a c cs) ≡ record { place = p; ty = u; clauses = clause_patterns c.value cs.items } ∷ block_matches (out-Clause c.value).body ++ below_arms (map arm cs.items)
match_is k u p a c cs =
    ap expression_matches (sym (EV.rolls-Match k u p a c cs))
    ∙ fold-roll-Expression (List Match) (List Match) (List Match) Arm expression_step binding_step block_step clause_step (E.Match k u p a c cs)
    ∙ ap (λ ps. record { place = p; ty = u; clauses = ps } ∷ (arm c.value).below ++ below_arms (map arm cs.items)) (arms_are (c.value ∷ cs.items))
    ∙ ap (λ ms. record { place = p; ty = u; clauses = clause_patterns c.value cs.items } ∷ ms ++ below_arms (map arm cs.items)) (below_is c.value)

pub nested_is : (b : Box Block Global) → expression_matches (EV.Nested b) ≡ block_matches b.value
nested_is b = ap expression_matches (sym (EV.rolls-Nested b)) ∙ fold-roll-Expression (List Match) (List Match) (List Match) Arm expression_step binding_step block_step clause_step (E.Nested b)

pub binding_step_is : (xs ys z : List Match) (bs : List Binding) (i : ℕ) (b : Binding) → i < length bs → b ≡ get_or bs i b → ys ≡ xs ++ expression_matches (out-Binding b).bound → xs ++ joined (map binding_matches (drop i bs)) ≡ z → ys ++ joined (map binding_matches (drop (i + 1) bs)) ≡ z
binding_step_is xs ys z bs i b h g e v =
    let rest = joined (map binding_matches (drop (i + 1) bs)) in
    ap (λ w. w ++ rest) (e ∙ ap (λ w. xs ++ w) (sym (binding_is b))) ∙ append_assoc xs (binding_matches b) rest
    ∙ sym (ap (λ w. xs ++ joined (map binding_matches w)) (drop_first bs i b h g)) ∙ v

pub clause_step_is : (xs ys z : List Match) (cs : List Clause) (i : ℕ) (c : Clause) → i < length cs → c ≡ get_or cs i c → ys ≡ xs ++ block_matches (out-Clause c).body → xs ++ below_arms (map arm (drop i cs)) ≡ z → ys ++ below_arms (map arm (drop (i + 1) cs)) ≡ z
clause_step_is xs ys z cs i c h g e v =
    let rest = below_arms (map arm (drop (i + 1) cs)) in
    ap (λ w. w ++ rest) (e ∙ ap (λ w. xs ++ w) (sym (below_is c))) ∙ append_assoc xs (arm c).below rest
    ∙ sym (ap (λ w. xs ++ below_arms (map arm w)) (drop_first cs i c h g)) ∙ v

found_push : (old : List Found) (f : Found) → found_matches (old ++ f ∷ []) ≡ found_matches old ++ found_match f ∷ []
found_push [] f = refl
found_push (g ∷ old) f = ap (λ ms. found_match g ∷ ms) (found_push old f)

pub match_arm : (r : Result (Unit {0}) NoMemory) (old m1 m2 m3 : List Found) (f : Found) (e : Expression) (k : MatchKind) (u : ℕ) (p : Place) (a : Argument) (c : Box Clause Global) (cs : Vec Clause Global) (d : Clause) (ds : List Clause) →
    e ≡ EV.Match k u p a c cs → f.place ≡ p → f.ty ≡ u → f.first.now ≡ c.value → f.others.now ≡ cs.items → d ≡ c.value → ds ≡ cs.items →
    m1 ≡ old ++ f ∷ [] → found_matches m2 ≡ found_matches m1 ++ block_matches (out-Clause d).body → OnOk r (found_matches m3 ≡ found_matches m2 ++ below_arms (map arm ds)) → OnOk r (found_matches m3 ≡ found_matches old ++ expression_matches e)
match_arm (Err z) old m1 m2 m3 f e k u p a c cs d ds h g1 g0 g2 g3 g4 g5 i j l = tt
match_arm (Ok z) old m1 m2 m3 f e k u p a c cs d ds h g1 g0 g2 g3 g4 g5 i j l =
    let body = block_matches (out-Clause c.value).body in
    let below = below_arms (map arm cs.items) in
    let one : found_match f ≡ record { place = p; ty = u; clauses = clause_patterns c.value cs.items } =
    ap (λ q. record { place = q; ty = f.ty; clauses = clause_patterns f.first.now f.others.now }) g1
    ∙ ap (λ t. record { place = p; ty = t; clauses = clause_patterns f.first.now f.others.now }) g0
    ∙ ap (λ x. record { place = p; ty = u; clauses = clause_patterns x f.others.now }) g2
    ∙ ap (λ xs. record { place = p; ty = u; clauses = clause_patterns c.value xs }) g3 in
    l ∙ ap (λ x. found_matches m2 ++ below_arms (map arm x)) g5
    ∙ ap (λ x. x ++ below) (j ∙ ap (λ x. found_matches m1 ++ block_matches (out-Clause x).body) g4)
    ∙ append_assoc (found_matches m1) body below
    ∙ ap (λ x. x ++ (body ++ below)) (ap found_matches i ∙ found_push old f)
    ∙ append_assoc (found_matches old) (found_match f ∷ []) (body ++ below)
    ∙ ap (λ x. found_matches old ++ (x ∷ (body ++ below))) one
    ∙ sym (ap (λ x. found_matches old ++ x) (ap expression_matches h ∙ match_is k u p a c cs))

-- ---- numbers

found_at : (fs : List Found) (i : ℕ) (d : Found) → i < length fs → slice_get (found_matches fs) i ≡ Some (found_match (get_or fs i d))
found_at [] i d h = absurd (omega arith)
found_at (f ∷ fs) zero d h = refl
found_at (f ∷ fs) (suc i) d h = found_at fs i d (omega arith)

none_before : (f : Found) (fs : List Found) → ((j : ℕ) → j < length fs → found_offset f ≤ found_offset (slice_index_or fs j f)) → NoneBefore (found_match f) (found_matches fs)
none_before f [] h = tt
none_before f (g ∷ fs) h = (h 0 (omega arith), none_before f fs (λ j l. h (suc j) (omega arith)))

ascends : (fs : List Found) → IsNonDecreasingBy found_offset fs → Ascend (found_matches fs)
ascends [] h = tt
ascends (f ∷ fs) h = (none_before f fs (λ j l. h 0 (suc j) f (omega arith) (omega arith)), ascends fs (λ i j d a b. h (suc i) (suc j) d (omega arith) (omega arith)))

count_found : (fs : List Found) → length (found_matches fs) ≡ length fs
count_found [] = refl
count_found (f ∷ fs) = ap suc (count_found fs)

-- all matches of a body were found
pub counted : (fs : List Found) (ms : List Match) → found_matches fs ≡ ms → length fs ≡ length ms
counted fs ms e = sym (count_found fs) ∙ ap length e

-- the instance of the match was met
pub met : (tb : Table) (ds : List Instance) (i n : ℕ) (d : Instance) (fs gs : List Found) (f : Found) (o : Option Tree) → i < length ds → d ≡ get_or ds i d → found_matches fs ≡ block_matches d.body → n < length fs → IsPermutation fs gs → IsNonDecreasingBy found_offset gs → f ≡ get_or gs n f → AnswersTree tb (match_patterns f.first.now f.others.now) o → IsDecisionOf tb (drop i ds) n o
met tb ds i n d fs gs f o h g e l p s q a =
    subst (λ z. IsDecisionOf tb z n o) (sym (drop_first ds i d h g)) (inl (
      let c = counted fs (block_matches d.body) e in omega arith,
      found_match f,
      record {
        order = found_matches gs;
        same = subst (λ z. IsPermutation z (found_matches gs)) e (IsPermutation-map found_match fs gs p);
        sorted = ascends gs s;
        there = found_at gs n f (let m = length_permutation fs gs p in omega arith) ∙ ap (λ x. Some (found_match x)) (sym q);
      },
      a,
    ))
