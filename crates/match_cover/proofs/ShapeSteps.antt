-- Steps of the walks that note E42 and E43.
use Rattle.std.proofs.Common.{◌≡◌, ℕ, suc, ◌+◌, ◌<◌, Bool, ◌||◌, arith, Option, List, [], ◌∷◌, ◌++◌, drop, length, get_or, map, refl, sym, ap, ◌∙◌, append_assoc}
use Rattle.std.specs.Borrow.{Bor}
use Rattle.std.specs.List.{list_any}
use Rattle.fip_trees.specs.declared.least.Violation.{Violation}
use Rattle.fip_trees.specs.declared.program.Binder.{Binder}
use Rattle.fip_trees.specs.declared.program.Clause.{Clause}
use Rattle.fip_trees.specs.Least.{after}
use Rattle.fip_trees.proofs.Leasts.{after-append}
use Rattle.match_cover.specs.declared.matches.Found.{Found}
use Rattle.match_cover.specs.FoundView.{found_match, found_matches, found_lets}
use Rattle.match_cover.specs.PatternView.{pattern_of, pattern_binders}
use Rattle.match_cover.specs.Shapes.{size_faults, twice_faults, patterns_faults, matches_faults, lets_faults, body_faults, shape_faults}
use Rattle.fip_trees.specs.declared.program.Instance.{Instance}
use Rattle.match_cover.proofs.MatchSteps.{drop_first}

pub list_any-map : {A B : Type 0} (p : B → Bool) (f : A → B) (xs : List A) → list_any p (map f xs) ≡ list_any (λ x. p (f x)) xs
list_any-map p f [] = refl
list_any-map p f (x ∷ xs) = ap (λ b. p (f x) || b) (list_any-map p f xs)

-- what is noted first, and the rest
noted : (o p z : Option Violation) (xs ys rest : List Violation) → p ≡ after o xs → ys ≡ xs ++ rest → after o ys ≡ z → after p rest ≡ z
noted o p z xs ys rest e d v = ap (λ q. after q rest) e ∙ sym (after-append o xs rest) ∙ ap (after o) (sym d) ∙ v

pub lets_next : (i : ℕ) (ls : List (Bor (List Binder))) (n : ℕ) (b : Bor (List Binder)) (o p z : Option Violation) → n < length ls → b ≡ get_or ls n b → p ≡ after o (twice_faults i [] b.now) → after o (lets_faults i (found_lets (drop n ls))) ≡ z → after p (lets_faults i (found_lets (drop (n + 1) ls))) ≡ z
lets_next i ls n b o p z h g e v = noted o p z (twice_faults i [] b.now) (lets_faults i (found_lets (drop n ls))) (lets_faults i (found_lets (drop (n + 1) ls))) e (ap (λ w. lets_faults i (found_lets w)) (drop_first ls n b h g)) v

pub patterns_next : (i : ℕ) (cs : List Clause) (n : ℕ) (c : Clause) (o p z : Option Violation) → n < length cs → c ≡ get_or cs n c → p ≡ after o (twice_faults i [] (pattern_binders (pattern_of c))) → after o (patterns_faults i (map pattern_of (drop n cs))) ≡ z → after p (patterns_faults i (map pattern_of (drop (n + 1) cs))) ≡ z
patterns_next i cs n c o p z h g e v = noted o p z (twice_faults i [] (pattern_binders (pattern_of c))) (patterns_faults i (map pattern_of (drop n cs))) (patterns_faults i (map pattern_of (drop (n + 1) cs))) e (ap (λ w. patterns_faults i (map pattern_of w)) (drop_first cs n c h g)) v

pub matches_next : (i : ℕ) (fs : List Found) (n : ℕ) (f : Found) (o o1 o2 o3 z : Option Violation) → n < length fs → f ≡ get_or fs n f →
    o1 ≡ after o (size_faults i (found_match f)) → o2 ≡ after o1 (twice_faults i [] (pattern_binders (pattern_of f.first.now))) → o3 ≡ after o2 (patterns_faults i (map pattern_of f.others.now)) →
    after o (matches_faults i (found_matches (drop n fs))) ≡ z → after o3 (matches_faults i (found_matches (drop (n + 1) fs))) ≡ z
matches_next i fs n f o o1 o2 o3 z h g e1 e2 e3 v =
    let size = size_faults i (found_match f) in
    let first = twice_faults i [] (pattern_binders (pattern_of f.first.now)) in
    let others = patterns_faults i (map pattern_of f.others.now) in
    let rest = matches_faults i (found_matches (drop (n + 1) fs)) in
    let all = matches_faults i (found_matches (drop n fs)) in
    let met : all ≡ size ++ (first ++ (others ++ rest)) =
    ap (λ w. matches_faults i (found_matches w)) (drop_first fs n f h g) ∙ ap (λ w. size ++ w) (append_assoc first others rest) in
    noted o2 o3 z others (others ++ rest) rest e3 refl
    (noted o1 o2 z first (first ++ (others ++ rest)) (others ++ rest) e2 refl
    (noted o o1 z size all (first ++ (others ++ rest)) e1 met v))

pub bodies_noted : (ds : List Instance) (n : ℕ) (d : Instance) (o p z : Option Violation) → n < length ds → d ≡ get_or ds n d → p ≡ after o (body_faults n d.body) → after o (shape_faults n (drop n ds)) ≡ z → after p (shape_faults (n + 1) (drop (n + 1) ds)) ≡ z
bodies_noted ds n d o p z h g e v =
    let next : n + 1 ≡ suc n = omega arith in
    ap (λ i. after p (shape_faults i (drop (n + 1) ds))) next
    ∙ noted o p z (body_faults n d.body) (shape_faults n (drop n ds)) (shape_faults (suc n) (drop (n + 1) ds)) e (ap (shape_faults n) (drop_first ds n d h g)) v
