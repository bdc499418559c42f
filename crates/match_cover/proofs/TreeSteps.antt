-- The loops' steps.
use Rattle.std.proofs.Common.{◌≡◌, ◌⊎◌, inl, inr, ℕ, zero, suc, ◌+◌, ◌<◌, ◌≤◌, List, [], ◌∷◌, ◌++◌, drop, length, get_or, Some, Bool, true, false, refl, sym, ap, ap₂, ◌∙◌, arith, append_assoc}
use Rattle.std.specs.Prelude.{if◌then◌else◌, slice_get, Result, Ok, Err, IfOk, OnOk}
use Rattle.match_knowledge.specs.declared.rows.Row.{Row}
use Rattle.match_knowledge.specs.declared.knowledge.Knowledge.{Knowledge}
use Rattle.match_knowledge.specs.declared.heads.Head.{Head}
use Rattle.match_knowledge.specs.declared.verdicts.Verdict.{Verdict}
use Rattle.match_knowledge.specs.declared.verdicts.Verdict.TheVariants.{Fits, Misses, Asks}
use Rattle.match_knowledge.specs.Patterns.{Patterns, NoPatterns, MorePatterns}
use Rattle.match_knowledge.specs.Known.{Known, NoKnowns, MoreKnowns, compare, is_asks}
use Rattle.match_knowledge.specs.View.{row, rows, parts, known, knowns}
use Rattle.match_knowledge.proofs.Steps.{drop_parts, drop_knowns, no_knowns, no_parts, row_at}
use Rattle.match_knowledge.proofs.Arms.{drop_at}
use Rattle.match_cover.specs.declared.trees.First.TheVariants as F
use Rattle.match_cover.specs.DecisionTree.{below, position, positions, asked, asked_all, by_verdict, Done, Split, first_live}
use Rattle.match_knowledge.specs.Known.{is_fits}
use Rattle.match_cover.specs.TreeView.{asking, IsFirst, SameFirst}
use Rattle.fip_language.proofs.Facts.{append_none_back as append_none}
use Rattle.match_knowledge.proofs.Split.{is_asking as asks_is}

asking_end : (ps : Patterns) → asking ps NoKnowns ≡ 0
asking_end NoPatterns = refl
asking_end (MorePatterns p ps) = refl

pub asking_here : (ps : List Row) (ks : List Knowledge) (j i : ℕ) (r : Row) (k : Knowledge) (z : ℕ) → j ≡ i → j < length ps → i < length ks → r ≡ get_or ps j r → k ≡ get_or ks i k → is_asks (compare (row r) (known k)) ≡ true → j + asking (parts (drop j ps)) (knowns (drop i ks)) ≡ z → j ≡ z
asking_here ps ks j i r k z e a b f g h v =
    let x : asking (parts (drop j ps)) (knowns (drop i ks)) ≡ 0 = ap₂ asking (drop_parts ps j r a ∙ ap (λ y. MorePatterns (row y) (parts (drop (j + 1) ps))) (sym f)) (drop_knowns ks i k b ∙ ap (λ y. MoreKnowns (known y) (knowns (drop (i + 1) ks))) (sym g)) ∙ ap (λ c. if c then 0 else suc (asking (parts (drop (j + 1) ps)) (knowns (drop (i + 1) ks)))) h in
    omega (arith, x, v)

pub asking_next : (ps : List Row) (ks : List Knowledge) (j i : ℕ) (r : Row) (k : Knowledge) (z : ℕ) → j < length ps → i < length ks → r ≡ get_or ps j r → k ≡ get_or ks i k → is_asks (compare (row r) (known k)) ≡ false → j + asking (parts (drop j ps)) (knowns (drop i ks)) ≡ z → (j + 1) + asking (parts (drop (j + 1) ps)) (knowns (drop (i + 1) ks)) ≡ z
asking_next ps ks j i r k z a b f g h v =
    let x : asking (parts (drop j ps)) (knowns (drop i ks)) ≡ suc (asking (parts (drop (j + 1) ps)) (knowns (drop (i + 1) ks))) = ap₂ asking (drop_parts ps j r a ∙ ap (λ y. MorePatterns (row y) (parts (drop (j + 1) ps))) (sym f)) (drop_knowns ks i k b ∙ ap (λ y. MoreKnowns (known y) (knowns (drop (i + 1) ks))) (sym g)) ∙ ap (λ c. if c then 0 else suc (asking (parts (drop (j + 1) ps)) (knowns (drop (i + 1) ks)))) h in
    omega (arith, x, v)

pub asking_past : (ps : List Row) (ks : List Knowledge) (j i z : ℕ) → length ps ≤ j → j + asking (parts (drop j ps)) (knowns (drop i ks)) ≡ z → j ≡ z
asking_past ps ks j i z l v = let x : asking (parts (drop j ps)) (knowns (drop i ks)) ≡ 0 = ap (λ y. asking y (knowns (drop i ks))) (no_parts ps j l) in omega (arith, x, v)

pub asking_done : (ps : List Row) (ks : List Knowledge) (j i z : ℕ) → length ks ≤ i → j + asking (parts (drop j ps)) (knowns (drop i ks)) ≡ z → j ≡ z
asking_done ps ks j i z l v = let x : asking (parts (drop j ps)) (knowns (drop i ks)) ≡ 0 = ap (asking (parts (drop j ps))) (no_knowns ks i l) ∙ asking_end (parts (drop j ps)) in omega (arith, x, v)

-- the first that asks is where the position leads
pub leads : (d : Head) (ps : List Row) (ks : List Knowledge) (j : ℕ) (r : Row) (k : Knowledge) → j ≡ asking (parts ps) (knowns ks) → j < length ps → j < length ks → r ≡ get_or ps j r → k ≡ get_or ks j k → (positions (parts ps) (knowns ks) ≡ j ∷ position (row r) (known k)) × (asked_all d (parts ps) (knowns ks) ≡ asked d (row r) (known k))
leads d [] ks j r k e a b f g = absurd (omega arith)
leads d (p ∷ ps) [] j r k e a b f g = absurd (omega arith)
leads d (p ∷ ps) (q ∷ ks) j r k e a b f g = step (is_asks (compare (row p) (known q))) j e a b f g (leads d ps ks) where
  step : (c : Bool) (j : ℕ) → j ≡ (if c then 0 else suc (asking (parts ps) (knowns ks))) → j < length (p ∷ ps) → j < length (q ∷ ks) → r ≡ get_or (p ∷ ps) j r → k ≡ get_or (q ∷ ks) j k → ((j : ℕ) (r : Row) (k : Knowledge) → j ≡ asking (parts ps) (knowns ks) → j < length ps → j < length ks → r ≡ get_or ps j r → k ≡ get_or ks j k → (positions (parts ps) (knowns ks) ≡ j ∷ position (row r) (known k)) × (asked_all d (parts ps) (knowns ks) ≡ asked d (row r) (known k))) → ((if c then 0 ∷ position (row p) (known q) else below (positions (parts ps) (knowns ks))) ≡ j ∷ position (row r) (known k)) × ((if c then asked d (row p) (known q) else asked_all d (parts ps) (knowns ks)) ≡ asked d (row r) (known k))
  step true zero e a b f g rec = (ap₂ (λ x y. 0 ∷ position (row x) (known y)) (sym f) (sym g), ap₂ (λ x y. asked d (row x) (known y)) (sym f) (sym g))
  step true (suc j) e a b f g rec = absurd (omega arith)
  step false zero e a b f g rec = absurd (omega arith)
  step false (suc j) e a b f g rec = let h = rec j r k (omega arith) (omega arith) (omega arith) f g in (ap below h.0, h.1)

pub leads_not : (d : Head) (ps : List Row) (ks : List Knowledge) (j : ℕ) → j ≡ asking (parts ps) (knowns ks) → ((length ps ≤ j) ⊎ (length ks ≤ j)) → (positions (parts ps) (knowns ks) ≡ []) × (asked_all d (parts ps) (knowns ks) ≡ d)
leads_not d [] ks j e h = (refl, refl)
leads_not d (p ∷ ps) [] j e h = (refl, refl)
leads_not d (p ∷ ps) (q ∷ ks) j e h = step (is_asks (compare (row p) (known q))) j e h (leads_not d ps ks) where
  step : (c : Bool) (j : ℕ) → j ≡ (if c then 0 else suc (asking (parts ps) (knowns ks))) → ((length (p ∷ ps) ≤ j) ⊎ (length (q ∷ ks) ≤ j)) → ((j : ℕ) → j ≡ asking (parts ps) (knowns ks) → ((length ps ≤ j) ⊎ (length ks ≤ j)) → (positions (parts ps) (knowns ks) ≡ []) × (asked_all d (parts ps) (knowns ks) ≡ d)) → ((if c then 0 ∷ position (row p) (known q) else below (positions (parts ps) (knowns ks))) ≡ []) × ((if c then asked d (row p) (known q) else asked_all d (parts ps) (knowns ks)) ≡ d)
  step true j e (inl h) rec = absurd (omega arith)
  step true j e (inr h) rec = absurd (omega arith)
  step false zero e h rec = absurd (omega arith)
  step false (suc j) e (inl h) rec = let x = rec j (omega arith) (inl (omega arith)) in (ap below x.0, x.1)
  step false (suc j) e (inr h) rec = let x = rec j (omega arith) (inr (omega arith)) in (ap below x.0, x.1)

-- the first row that isn't ruled out
fits_is : (v : Verdict) → is_fits v ≡ true → v ≡ Fits
fits_is Fits e = refl
fits_is Misses e = cc
fits_is Asks e = cc

misses_is : (v : Verdict) → is_fits v ≡ false → is_asks v ≡ false → v ≡ Misses
misses_is Fits e f = cc
misses_is Misses e f = refl
misses_is Asks e f = cc

first_step : (ps : List Row) (k : Known) (i j : ℕ) (r : Row) (v : Verdict) → j < length ps → r ≡ get_or ps j r → v ≡ compare (row r) k → first_live i (rows (drop j ps)) k ≡ by_verdict v (Done i) (first_live (suc i) (rows (drop (j + 1) ps)) k) (Split (row r))
first_step ps k i j r v l e w = ap (λ z. first_live i z k) (drop_at ps j r l ∙ ap (λ y. row y ∷ rows (drop (j + 1) ps)) (sym e)) ∙ ap (λ z. by_verdict z (Done i) (first_live (suc i) (rows (drop (j + 1) ps)) k) (Split (row r))) (sym w)

pub first_fits : (ps : List Row) (k : Known) (i j : ℕ) (r : Row) (v : Verdict) → j < length ps → r ≡ get_or ps j r → v ≡ compare (row r) k → is_fits v ≡ true → SameFirst (rows ps) k i (rows (drop j ps)) → IsFirst (rows ps) k (F.Done i)
first_fits ps k i j r v l e w f s = sym s ∙ first_step ps k i j r v l e w ∙ ap (λ z. by_verdict z (Done i) (first_live (suc i) (rows (drop (j + 1) ps)) k) (Split (row r))) (fits_is v f)

pub first_splits : (ps : List Row) (k : Known) (i j : ℕ) (r : Row) (v : Verdict) → i ≡ j → j < length ps → r ≡ get_or ps j r → v ≡ compare (row r) k → is_asks v ≡ true → SameFirst (rows ps) k i (rows (drop j ps)) → IsFirst (rows ps) k (F.Split i)
first_splits ps k i j r v p l e w f s =
    (row r, ap (slice_get (rows ps)) p ∙ row_at ps j r l ∙ ap (λ z. Some (row z)) (sym e), sym s ∙ first_step ps k i j r v l e w ∙ ap (λ z. by_verdict z (Done i) (first_live (suc i) (rows (drop (j + 1) ps)) k) (Split (row r))) (asks_is v f), sym w ∙ asks_is v f)

pub first_next : (ps : List Row) (k : Known) (i j : ℕ) (r : Row) (v : Verdict) → j < length ps → r ≡ get_or ps j r → v ≡ compare (row r) k → is_fits v ≡ false → is_asks v ≡ false → SameFirst (rows ps) k i (rows (drop j ps)) → SameFirst (rows ps) k (i + 1) (rows (drop (j + 1) ps))
first_next ps k i j r v l e w f g s =
    ap (λ z. first_live z (rows (drop (j + 1) ps)) k) (let z : i + 1 ≡ suc i = omega arith in z) ∙ sym (first_step ps k i j r v l e w ∙ ap (λ z. by_verdict z (Done i) (first_live (suc i) (rows (drop (j + 1) ps)) k) (Split (row r))) (misses_is v f g)) ∙ s

no_rows : (ps : List Row) (j : ℕ) → length ps ≤ j → rows (drop j ps) ≡ []
no_rows [] zero h = refl
no_rows [] (suc j) h = refl
no_rows (k ∷ ps) zero h = absurd (omega arith)
no_rows (k ∷ ps) (suc j) h = no_rows ps j (omega arith)

pub first_none : (ps : List Row) (k : Known) (i j : ℕ) → length ps ≤ j → SameFirst (rows ps) k i (rows (drop j ps)) → IsFirst (rows ps) k (F.Done i)
first_none ps k i j l s = sym s ∙ ap (λ z. first_live i z k) (no_rows ps j l)

pub pushed : (xs ys zs : List ℕ) (j : ℕ) (a b : List ℕ) → ys ≡ xs ++ j ∷ [] → b ≡ j ∷ a → zs ≡ ys ++ a → zs ≡ xs ++ b
pushed xs ys zs j a b e f g = g ∙ ap (λ y. y ++ a) e ∙ append_assoc xs (j ∷ []) a ∙ ap (λ y. xs ++ y) (sym f)

pub none_pushed : (xs b : List ℕ) → b ≡ [] → xs ≡ xs ++ b
none_pushed xs b e = append_none xs ∙ ap (λ y. xs ++ y) (sym e)

pub ok_head : {A E : Type 0} {P Q : A → Type 0} (r : Result A E) → ((a : A) → P a → Q a) → IfOk r P → IfOk r Q
ok_head (Ok a) f h = f a h
ok_head (Err e) f h = tt

pub ok_position : {A E : Type 0} {P Q : Type 0} (r : Result A E) → (P → Q) → OnOk r P → OnOk r Q
ok_position (Ok a) f h = f h
ok_position (Err e) f h = tt
