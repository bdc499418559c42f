-- The tree grows as its theorem says.
use Rattle.std.proofs.Common.{◌≡◌, ℕ, zero, suc, ◌+◌, ◌-◌, ◌<◌, List, [], ◌∷◌, get_or, Option, Some, None, Bool, true, false, refl, sym, ap, ap₂, ◌∙◌, subst, arith}
use Rattle.std.specs.Prelude.{if◌then◌else◌, slice_get}
use Rattle.match_knowledge.specs.declared.rows.Row.{Row}
use Rattle.match_knowledge.specs.declared.heads.Head.{Head}
use Rattle.match_knowledge.specs.declared.heads.Head.TheVariants.{Tag}
use Rattle.match_knowledge.specs.declared.verdicts.Verdict.{Verdict}
use Rattle.match_knowledge.specs.declared.verdicts.Verdict.TheVariants.{Fits, Misses, Asks}
use Rattle.fip_language.specs.Table.{Table}
use Rattle.match_knowledge.specs.Patterns.{Pattern}
use Rattle.match_knowledge.specs.Known.{Known, Open, compare, side, is_last, row_tests}
use Rattle.match_knowledge.specs.View.{row, rows}
use Rattle.match_knowledge.proofs.Fewer.{rows_fewer}
use Rattle.match_knowledge.proofs.Steps.{at_row}
use Rattle.match_cover.specs.declared.trees.Grown.{Grown}
use Rattle.match_cover.specs.DecisionTree.{Position, Decision, Leaf, Branch, position, asked, by_verdict, Next, Done, Split, first_live, tree_from, tree, tree_at, branches, pick, TestsOnce}
use Rattle.match_cover.specs.TreeView.{tree_view, IsSplit, IsGrown, IsDecision}
use Rattle.match_knowledge.specs.Left.{IsMatch}
use Rattle.match_knowledge.proofs.Matches.{open_room}
use Rattle.match_cover.proofs.TreePicks.{picks}
use Rattle.match_cover.proofs.TestedOnce.{once}

-- the first that asks is a row
first_row : (rows : List Pattern) (k : Known) (i : ℕ) (p : Pattern) → first_live i rows k ≡ Split p → (n : ℕ) × (slice_get rows n ≡ Some p) × (compare p k ≡ Asks)
first_row [] k i p e = cc
first_row (q ∷ rows) k i p e = step (first_row rows k (suc i) p) (compare q k) refl e where
  step : (first_live (suc i) rows k ≡ Split p → (n : ℕ) × (slice_get rows n ≡ Some p) × (compare p k ≡ Asks)) → (w : Verdict) → compare q k ≡ w → by_verdict w (Done i) (first_live (suc i) rows k) (Split q) ≡ Split p → (n : ℕ) × (slice_get (q ∷ rows) n ≡ Some p) × (compare p k ≡ Asks)
  step rec Fits x e = cc
  step rec Misses x e = let r = rec e in (suc r.0, r.1, r.2)
  step rec Asks x e = let same : q ≡ p = cc in (0, ap Some same, ap (λ z. compare z k) (sym same) ∙ x)

-- more steps change nothing
fuel : (f g : ℕ) (tb : Table) (rs : List Pattern) (k : Known) → row_tests rs k < f → row_tests rs k < g → tree f tb rs k ≡ tree g tb rs k
fuel zero g tb rs k a b = absurd (omega arith)
fuel (suc f) zero tb rs k a b = absurd (omega arith)
fuel (suc f) (suc g) tb rs k a b = by_next (fuel f g tb rs) (first_live 0 rs k) refl where
  by_next : ((k' : Known) → row_tests rs k' < f → row_tests rs k' < g → tree f tb rs k' ≡ tree g tb rs k') → (n : Next) → first_live 0 rs k ≡ n → tree_from (tree f tb rs) tb k n ≡ tree_from (tree g tb rs) tb k n
  by_next rec (Done i) e = refl
  by_next rec (Split p) e =
      let r = first_row rs k 0 p e in
      ap₂ (λ x y. if is_last tb p k then x else Branch (position p k) (asked (Tag 0) p k) x y)
      (rec (side true p k) (let l = rows_fewer true p r.0 rs k r.1 r.2 in omega arith) (let l = rows_fewer true p r.0 rs k r.1 r.2 in omega arith))
      (rec (side false p k) (let l = rows_fewer false p r.0 rs k r.1 r.2 in omega arith) (let l = rows_fewer false p r.0 rs k r.1 r.2 in omega arith))

if_same : (b c : Bool) (x y : Decision) → b ≡ c → (if b then x else y) ≡ (if c then x else y)
if_same b c x y e = ap (λ z. if z then x else y) e

split_theorem : (tb : Table) (rs : List Pattern) (k : Known) (i : ℕ) (p : Pattern) → slice_get rs i ≡ Some p → compare p k ≡ Asks → first_live 0 rs k ≡ Split p → tree_at tb rs k ≡ (if is_last tb p k then tree_at tb rs (side true p k) else Branch (position p k) (asked (Tag 0) p k) (tree_at tb rs (side true p k)) (tree_at tb rs (side false p k)))
split_theorem tb rs k i p s a e =
    ap (tree_from (tree (row_tests rs k) tb rs) tb k) e ∙
    ap₂ (λ x y. if is_last tb p k then x else Branch (position p k) (asked (Tag 0) p k) x y)
    (fuel (row_tests rs k) (suc (row_tests rs (side true p k))) tb rs (side true p k) (rows_fewer true p i rs k s a) (omega arith))
    (fuel (row_tests rs k) (suc (row_tests rs (side false p k))) tb rs (side false p k) (rows_fewer false p i rs k s a) (omega arith))

pub done_theorem : (tb : Table) (rs : List Pattern) (k : Known) (i : ℕ) → first_live 0 rs k ≡ Done i → tree_at tb rs k ≡ Leaf i
done_theorem tb rs k i e = ap (tree_from (tree (row_tests rs k) tb rs) tb k) e

abbrev pub Splits : List Row → Known → ℕ → Row → Type 0
Splits ps k i r = (slice_get (rows ps) i ≡ Some (row r)) × (compare (row r) k ≡ Asks) × (first_live 0 (rows ps) k ≡ Split (row r))

pub split_row : (ps : List Row) (k : Known) (i : ℕ) (r : Row) → IsSplit (rows ps) k i → r ≡ get_or ps i r → Splits ps k i r
split_row ps k i r h e =
    let same : h.0 ≡ row r = at_row ps i r h.0 h.1 ∙ ap row (sym e) in
    (h.1 ∙ ap Some same, ap (λ p. compare p k) (sym same) ∙ h.3, h.2 ∙ ap Split same)

pub less_arm : (ps : List Row) (k k' : Known) (b : Bool) (i : ℕ) (r : Row) → IsSplit (rows ps) k i → r ≡ get_or ps i r → k' ≡ side b (row r) k → row_tests (rows ps) k' < row_tests (rows ps) k
less_arm ps k k' b i r h e s =
    let x = split_row ps k i r h e in
    subst (λ z. row_tests (rows ps) z < row_tests (rows ps) k) (sym s) (rows_fewer b (row r) i (rows ps) k x.0 x.1)

last_theorem : (tb : Table) (ps : List Row) (k : Known) (i : ℕ) (r : Row) → Splits ps k i r → is_last tb (row r) k ≡ true → tree_at tb (rows ps) k ≡ tree_at tb (rows ps) (side true (row r) k)
last_theorem tb ps k i r x l = split_theorem tb (rows ps) k i (row r) x.0 x.1 x.2 ∙ if_same (is_last tb (row r) k) true (tree_at tb (rows ps) (side true (row r) k)) (Branch (position (row r) k) (asked (Tag 0) (row r) k) (tree_at tb (rows ps) (side true (row r) k)) (tree_at tb (rows ps) (side false (row r) k))) l

branch_theorem : (tb : Table) (ps : List Row) (k : Known) (i : ℕ) (r : Row) → Splits ps k i r → is_last tb (row r) k ≡ false → tree_at tb (rows ps) k ≡ Branch (position (row r) k) (asked (Tag 0) (row r) k) (tree_at tb (rows ps) (side true (row r) k)) (tree_at tb (rows ps) (side false (row r) k))
branch_theorem tb ps k i r x l = split_theorem tb (rows ps) k i (row r) x.0 x.1 x.2 ∙ if_same (is_last tb (row r) k) false (tree_at tb (rows ps) (side true (row r) k)) (Branch (position (row r) k) (asked (Tag 0) (row r) k) (tree_at tb (rows ps) (side true (row r) k)) (tree_at tb (rows ps) (side false (row r) k))) l

is_grown : (tb : Table) (rs : List Pattern) (k k' : Known) (n : ℕ) (o : Option Grown) → tree_at tb rs k ≡ tree_at tb rs k' → IsGrown tb rs k' n o → IsGrown tb rs k n o
is_grown tb rs k k' n None e h = subst (λ z. n < branches z) (sym e) h
is_grown tb rs k k' n (Some g) e h = (h.0 ∙ sym e, ap (λ z. g.left + branches z) e ∙ h.1)

pub last_arm : (tb : Table) (ps : List Row) (k k' : Known) (i : ℕ) (r : Row) (n : ℕ) (o : Option Grown) (l : Bool) → IsSplit (rows ps) k i → r ≡ get_or ps i r → k' ≡ side true (row r) k → l ≡ is_last tb (row r) k → l ≡ true → IsGrown tb (rows ps) k' n o → IsGrown tb (rows ps) k n o
last_arm tb ps k k' i r n o l h e s a b g =
    let x = split_row ps k i r h e in
    is_grown tb (rows ps) k k' n o (last_theorem tb ps k i r x (sym a ∙ b) ∙ ap (tree_at tb (rows ps)) (sym s)) g

-- how many branches there are
pub count_arm : (tb : Table) (ps : List Row) (k y z : Known) (i : ℕ) (r : Row) (l : Bool) → IsSplit (rows ps) k i → r ≡ get_or ps i r → l ≡ is_last tb (row r) k → l ≡ false → y ≡ side true (row r) k → z ≡ side false (row r) k → branches (tree_at tb (rows ps) k) ≡ suc (branches (tree_at tb (rows ps) y) + branches (tree_at tb (rows ps) z))
count_arm tb ps k y z i r l h e a b s t =
    let x = split_row ps k i r h e in
    ap branches (branch_theorem tb ps k i r x (sym a ∙ b)) ∙ ap₂ (λ u v. suc (branches (tree_at tb (rows ps) u) + branches (tree_at tb (rows ps) v))) (sym s) (sym t)

pub tree_arm : (tb : Table) (ps : List Row) (k y z : Known) (i : ℕ) (r : Row) (l : Bool) (u v : Decision) (at : Position) (q : Head) → IsSplit (rows ps) k i → r ≡ get_or ps i r → l ≡ is_last tb (row r) k → l ≡ false → y ≡ side true (row r) k → z ≡ side false (row r) k → u ≡ tree_at tb (rows ps) y → v ≡ tree_at tb (rows ps) z → at ≡ position (row r) k → q ≡ asked (Tag 0) (row r) k → Branch at q u v ≡ tree_at tb (rows ps) k
tree_arm tb ps k y z i r l u v at q h e a b s t f g m n =
    let x = split_row ps k i r h e in
    ap₂ (λ a b. Branch a b u v) m n ∙ ap₂ (Branch (position (row r) k) (asked (Tag 0) (row r) k)) (f ∙ ap (tree_at tb (rows ps)) s) (g ∙ ap (tree_at tb (rows ps)) t) ∙ sym (branch_theorem tb ps k i r x (sym a ∙ b))

pub none_arm : (tb : Table) (rs : List Pattern) (k y z : Known) (n : ℕ) (o : Option Grown) → branches (tree_at tb rs k) ≡ suc (branches (tree_at tb rs y) + branches (tree_at tb rs z)) → 0 < n → IsGrown tb rs y (n - 1) o → o ≡ None → n < branches (tree_at tb rs k)
none_arm tb rs k y z n None e h g x = omega arith
none_arm tb rs k y z n (Some w) e h g x = cc

pub held_arm : (tb : Table) (rs : List Pattern) (y : Known) (n : ℕ) (o : Option Grown) (g : Grown) → IsGrown tb rs y n o → o ≡ Some g → (tree_view g.tree ≡ tree_at tb rs y) × (g.left + branches (tree_at tb rs y) ≡ n)
held_arm tb rs y n o g h e = subst (IsGrown tb rs y n) e h

pub none_after : (tb : Table) (rs : List Pattern) (k y z : Known) (n l : ℕ) (o : Option Grown) → branches (tree_at tb rs k) ≡ suc (branches (tree_at tb rs y) + branches (tree_at tb rs z)) → 0 < n → l + branches (tree_at tb rs y) ≡ n - 1 → IsGrown tb rs z l o → o ≡ None → n < branches (tree_at tb rs k)
none_after tb rs k y z n l None e h f g x = omega arith
none_after tb rs k y z n l (Some w) e h f g x = cc

pub some_left : (tb : Table) (rs : List Pattern) (k y z : Known) (n l r : ℕ) → branches (tree_at tb rs k) ≡ suc (branches (tree_at tb rs y) + branches (tree_at tb rs z)) → 0 < n → l + branches (tree_at tb rs y) ≡ n - 1 → r + branches (tree_at tb rs z) ≡ l → r + branches (tree_at tb rs k) ≡ n
some_left tb rs k y z n l r e h f g = omega arith

pub some_decision : (tb : Table) (t : ℕ) (rs : List Pattern) (k : Known) (n : ℕ) (o : Option Grown) (g : Grown) → IsMatch tb t rs → k ≡ Open [] → n ≡ 1024 → IsGrown tb rs k n o → o ≡ Some g → IsDecision tb t rs (Some g.tree)
some_decision tb t rs k n o g m e w h s =
    let a = subst (IsGrown tb rs k n) s h in
    let x : tree_view g.tree ≡ tree_at tb rs (Open []) = a.0 ∙ ap (tree_at tb rs) e in record {
      written = x;
      few = let b : branches (tree_view g.tree) ≡ branches (tree_at tb rs k) = ap branches a.0 in let l = a.1 in omega arith;
      picks = λ v q. ap (λ z. pick z v) x ∙ picks (suc (row_tests rs (Open []))) tb t rs (Open []) v m.tidy m.typed (open_room tb t rs (Open []) m refl) (omega arith) q refl;
      once = subst (TestsOnce []) (sym x) (once (suc (row_tests rs (Open []))) tb rs (Open []) [] tt);
    }

pub no_decision : (tb : Table) (t : ℕ) (rs : List Pattern) (k : Known) (n : ℕ) (o : Option Grown) → k ≡ Open [] → n ≡ 1024 → IsGrown tb rs k n o → o ≡ None → IsDecision tb t rs None
no_decision tb t rs k n o e w h s =
    let a : n < branches (tree_at tb rs k) = subst (IsGrown tb rs k n) s h in
    let b : branches (tree_at tb rs k) ≡ branches (tree_at tb rs (Open [])) = ap (λ z. branches (tree_at tb rs z)) e in
    omega arith
