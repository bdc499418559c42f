-- The walk over places of shared trees is the walk over the trees.
use Rattle.std.proofs.Common.{◌≡◌, ℕ, zero, suc, ◌+◌, ◌<◌, ◌≤◌, Bool, true, false, ◌||◌, List, [], ◌∷◌, ◌++◌, length, slice_get, get_or, Option, Some, None, refl, ap, sym, subst, ◌∙◌, arith, if◌then◌else◌, nat_eq}
use Rattle.std.specs.List.{list_any}
use Rattle.std.proofs.lemmas.Bool.{eqb-true, eqb-false}
use Rattle.std.proofs.lemmas.List.{get_or_append_left}
use Rattle.closed_types.specs.Closed.{Closed, Int, same_closed}
use Rattle.fip_base.specs.fip_language.Every.{Every}
use Rattle.fip_base.proofs.fip_language.Plain.{every_append}
use Rattle.closed_types.specs.Numbering.{with_all, firsts, AreNumbered, AreMore, numbered_of}
use Rattle.closed_types.specs.SharedTrees.{Branch, trees, all_at, Grows, AreWithin, AreShared}
use Rattle.closed_types.specs.Numbering.{with_new, Differ}
use Rattle.fip_trees.specs.Least.{after}
use Rattle.fip_trees.specs.declared.least.Violation.{Violation}
use Rattle.closed_types.proofs.ClosedTrees.{closed_exact}
use Rattle.closed_types.proofs.Numbered.{adds, IsWalk, walk_starts, walk_goes, walk_ends, walk_many}
use Rattle.closed_types.proofs.Gathered.{Gathers, gathers_goes, gathers_ends}
use Rattle.closed_types.proofs.SharedTrees.{same_place}
use Rattle.closed_types.proofs.Growing.{as_trees, within_more}
use Rattle.reached_instances.proofs.Fitting.{same_place_by as same_by}
pub use Rattle.reached_instances.proofs.Closing.{at_append}

-- ---- places and trees

any_at : (ts : List Closed) (i : ℕ) (xs : List ℕ) → Differ ts → i < length ts → Every (λ j. j < length ts) xs → list_any (λ c. same_closed (get_or ts i Int) c) (all_at ts xs) ≡ list_any (λ j. nat_eq i j) xs
any_at ts i [] d h w = refl
any_at ts i (x ∷ xs) d h w =
    ap (λ b. b || list_any (λ c. same_closed (get_or ts i Int) c) (all_at ts xs)) (same_by (nat_eq i x) ts i x d h w.0 refl)
    ∙ ap (λ b. nat_eq i x || b) (any_at ts i xs d h w.1)

new_by : (b : Bool) (ts : List Closed) (xs : List ℕ) (y : ℕ) → all_at ts (if b then xs else xs ++ y ∷ []) ≡ (if b then all_at ts xs else all_at ts xs ++ get_or ts y Int ∷ [])
new_by true ts xs y = refl
new_by false ts xs y = at_append ts xs (y ∷ [])

new_at : (ts : List Closed) (xs : List ℕ) (y : ℕ) → Differ ts → Every (λ j. j < length ts) xs → y < length ts → all_at ts (with_new nat_eq xs y) ≡ with_new same_closed (all_at ts xs) (get_or ts y Int)
new_at ts xs y d w h =
    new_by (list_any (λ j. nat_eq y j) xs) ts xs y
    ∙ ap (λ b. if b then all_at ts xs else all_at ts xs ++ get_or ts y Int ∷ []) (sym (any_at ts y xs d h w))

new_within : (b : Bool) (n : ℕ) (xs : List ℕ) (y : ℕ) → Every (λ j. j < n) xs → y < n → Every (λ j. j < n) (if b then xs else xs ++ y ∷ [])
new_within true n xs y w h = w
new_within false n xs y w h = every_append (λ j. j < n) xs (y ∷ []) w (h, tt)

all_within : (n : ℕ) (xs ys : List ℕ) → Every (λ j. j < n) xs → Every (λ j. j < n) ys → Every (λ j. j < n) (with_all nat_eq xs ys)
all_within n xs [] w v = w
all_within n xs (y ∷ ys) w v = all_within n (with_new nat_eq xs y) ys (new_within (list_any (λ j. nat_eq y j) xs) n xs y w v.0) v.1

with_all_at : (ts : List Closed) (xs ys : List ℕ) → Differ ts → Every (λ j. j < length ts) xs → Every (λ j. j < length ts) ys → all_at ts (with_all nat_eq xs ys) ≡ with_all same_closed (all_at ts xs) (all_at ts ys)
with_all_at ts xs [] d w v = refl
with_all_at ts xs (y ∷ ys) d w v =
    with_all_at ts (with_new nat_eq xs y) ys d (new_within (list_any (λ j. nat_eq y j) xs) (length ts) xs y w v.0) v.1
    ∙ ap (λ l. with_all same_closed l (all_at ts ys)) (new_at ts xs y d w v.0)

pub grown : (ts more : List Closed) (xs : List ℕ) → Every (λ j. j < length ts) xs → all_at (ts ++ more) xs ≡ all_at ts xs
grown ts more [] w = refl
grown ts more (x ∷ xs) w = ap (λ c. c ∷ all_at (ts ++ more) xs) (get_or_append_left ts more Int x w.0) ∙ ap (λ l. get_or ts x Int ∷ l) (grown ts more xs w.1)

item_at : (ts : List Closed) (xs : List ℕ) (i g : ℕ) → slice_get xs i ≡ Some g → slice_get (all_at ts xs) i ≡ Some (get_or ts g Int)
item_at ts [] i g e = cc
item_at ts (x ∷ xs) zero g e = let q : x ≡ g = cc in ap (λ y. Some (get_or ts y Int)) q
item_at ts (x ∷ xs) (suc i) g e = item_at ts xs i g e

none_at : (ts : List Closed) (xs : List ℕ) (i : ℕ) → slice_get xs i ≡ None → slice_get (all_at ts xs) i ≡ None
none_at ts [] i e = refl
none_at ts (x ∷ xs) zero e = cc
none_at ts (x ∷ xs) (suc i) e = none_at ts xs i e

at_length : (ts : List Closed) (xs : List ℕ) → length (all_at ts xs) ≡ length xs
at_length ts [] = refl
at_length ts (x ∷ xs) = ap suc (at_length ts xs)

-- ---- the walk

module _ (roots : List Closed) (next : Closed → List Closed) (breaks : ℕ → Closed → List Violation) (first : Option Violation) where
  -- the walk over the places came to place i
  pub record IsWalking (i : ℕ) (bs : List Branch) (xs : List ℕ) (o : Option Violation) : Type 0 where
    pub walk : IsWalk same_closed closed_exact roots next i (all_at (trees bs) xs)
    pub within : AreWithin bs xs
    pub least : Gathers breaks first i (all_at (trees bs) xs) o

  pub walking_starts : (bs : List Branch) (ys : List ℕ) (o : Option Violation) → AreShared bs → AreWithin bs ys → all_at (trees bs) ys ≡ roots → o ≡ first → IsWalking 0 bs (with_all nat_eq [] ys) o
  walking_starts bs ys o s w e n =
      let v = as_trees bs ys w in
      let f = with_all_at (trees bs) [] ys s.differ tt v in
      record {
        walk = subst (IsWalk same_closed closed_exact roots next 0) (sym (f ∙ ap (firsts same_closed) e)) (walk_starts same_closed closed_exact roots next);
        within = all_within (length bs + 1) [] ys tt w;
        least = n;
      }

  pub walking_goes : (i : ℕ) (bs cs : List Branch) (xs ys : List ℕ) (g : ℕ) (o p : Option Violation) → slice_get xs i ≡ Some g → Grows bs cs → AreShared cs → AreWithin cs ys → all_at (trees cs) ys ≡ next (get_or (trees bs) g Int) → p ≡ after o (breaks i (get_or (trees bs) g Int)) → IsWalking i bs xs o → IsWalking (i + 1) cs (with_all nat_eq xs ys) p
  walking_goes i bs cs xs ys g o p e grows s w f h k =
      let x = get_or (trees bs) g Int in
      let old = all_at (trees bs) xs in
      let kept : all_at (trees cs) xs ≡ old = ap (λ l. all_at l xs) grows.1 ∙ grown (trees bs) grows.0 xs (as_trees bs xs k.within) in
      let all : all_at (trees cs) (with_all nat_eq xs ys) ≡ with_all same_closed old (next x) =
      with_all_at (trees cs) xs ys s.differ (as_trees cs xs (within_more bs cs xs grows k.within)) (as_trees cs ys w)
      ∙ ap (λ l. with_all same_closed l (all_at (trees cs) ys)) kept
      ∙ ap (with_all same_closed old) f in
      let here = item_at (trees bs) xs i g e in
      let a = adds same_closed closed_exact old (next x) in
      record {
        walk = subst (IsWalk same_closed closed_exact roots next (i + 1)) (sym all) (walk_goes same_closed closed_exact roots next i old x here k.walk);
        within = all_within (length cs + 1) xs ys (within_more bs cs xs grows k.within) w;
        least = h ∙ subst (λ l. Gathers breaks first (i + 1) l (after o (breaks i x))) (sym (all ∙ a.following)) (gathers_goes breaks first i old a.more x o here k.least);
      }

  -- as the code says it
  pub walking_first : (bs : List Branch) (ys zs none places : List ℕ) (o : Option Violation) → AreShared bs → AreWithin bs ys → all_at (trees bs) ys ≡ roots → o ≡ first → zs ≡ ys → none ≡ [] → places ≡ with_all nat_eq none zs → IsWalking 0 bs places o
  walking_first bs ys zs none places o s w e n a b f =
      subst (λ l. IsWalking 0 bs l o) (sym (f ∙ ap (λ l. with_all nat_eq l zs) b ∙ ap (with_all nat_eq []) a)) (walking_starts bs ys o s w e n)

  pub walking_next : (i : ℕ) (bs cs : List Branch) (xs ys zs places : List ℕ) (g : ℕ) (at : Option ℕ) (o p : Option Violation) → at ≡ slice_get xs i → at ≡ Some g → Grows bs cs → AreShared cs → AreWithin cs ys → all_at (trees cs) ys ≡ next (get_or (trees bs) g Int) → p ≡ after o (breaks i (get_or (trees bs) g Int)) → zs ≡ ys → places ≡ with_all nat_eq xs zs → IsWalking i bs xs o → IsWalking (i + 1) cs places p
  walking_next i bs cs xs ys zs places g at o p e there grows s w f h a b k =
      subst (λ l. IsWalking (i + 1) cs l p) (sym (b ∙ ap (with_all nat_eq xs) a)) (walking_goes i bs cs xs ys g o p (sym e ∙ there) grows s w f h k)

  pub walking_ends : (i : ℕ) (bs : List Branch) (xs : List ℕ) (o : Option Violation) → slice_get xs i ≡ None → IsWalking i bs xs o → AreNumbered same_closed roots next (all_at (trees bs) xs) × (o ≡ after first (numbered_of breaks 0 (all_at (trees bs) xs)))
  walking_ends i bs xs o e k =
      let n = none_at (trees bs) xs i e in
      (walk_ends same_closed closed_exact roots next i (all_at (trees bs) xs) n k.walk, gathers_ends breaks first i (all_at (trees bs) xs) o n k.least)

  pub walking_many : (i n : ℕ) (bs : List Branch) (xs : List ℕ) (o : Option Violation) → n < length xs → IsWalking i bs xs o → AreMore n roots next
  walking_many i n bs xs o h k =
      let l = at_length (trees bs) xs in
      walk_many same_closed closed_exact roots next i n (all_at (trees bs) xs) (omega (arith, h, l)) k.walk

pub past_end : (xs : List ℕ) (i : ℕ) → length xs ≤ i → slice_get xs i ≡ None
past_end [] i h = refl
past_end (x ∷ xs) zero h = absurd (omega (arith, h))
past_end (x ∷ xs) (suc i) h = past_end xs i (omega (arith, h))
