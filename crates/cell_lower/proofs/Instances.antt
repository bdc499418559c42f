-- What is said of the function of each instance of a program, an instance at a time.
use Rattle.std.proofs.Common.{◌≡◌, refl, sym, ap, ◌∙◌, subst, arith, ℕ, zero, suc, ◌+◌, ◌≤◌, Bool, true, false, List, [], ◌∷◌, ◌++◌, length, length-append, drop, Option, Some, None, slice_get}
use Rattle.fip_trees.specs.declared.program.Instance.{Instance as Tree}
use Rattle.fip_trees.specs.Tree.{Instance}
use Rattle.fip_trees.specs.TreeView.{instance_of, instances}
use Rattle.cell_code.specs.declared.code.Function.{Function}
use Rattle.lower_parts.specs.lowering_relation.LoweredBodies.{has_function, one_more, if_function, function_of}
use Rattle.cell_lower.specs.Instances.{HaveEach, AddsEach}
use Rattle.cell_lower.specs.Limits.{is_ruled}
use Rattle.cell_lower.proofs.Programs.{ruled_is, instances_at, instances_past}
use Rattle.fip_language.proofs.Facts.{same_some}

append_none : (xs : List Function) → xs ++ [] ≡ xs
append_none [] = refl
append_none (x ∷ xs) = ap (λ u. x ∷ u) (append_none xs)

append_one : (xs : List Function) (x : Function) (ys : List Function) → (xs ++ x ∷ []) ++ ys ≡ xs ++ (x ∷ ys)
append_one [] x ys = refl
append_one (z ∷ xs) x ys = ap (λ u. z ∷ u) (append_one xs x ys)

at_end : (xs : List Function) (x : Function) (ys : List Function) → slice_get (xs ++ (x ∷ ys)) (length xs) ≡ Some x
at_end [] x ys = refl
at_end (z ∷ xs) x ys = at_end xs x ys

longer : (fs : List Function) (f : Function) → length (fs ++ f ∷ []) ≡ suc (length fs)
longer fs f = omega (arith, length-append fs (f ∷ []))

-- what an instance that isn't plain adds
pub each_added : (P : ℕ → Instance → Function → Type 0) (i : ℕ) (b : Bool) (d : Instance) (fs gs : List Function) (f : Function) → b ≡ true → gs ≡ fs ++ f ∷ [] → P i d f → AddsEach P i b d fs gs
each_added P i true d fs gs f e g h = (f, g, h)
each_added P i false d fs gs f e g h = absurd (cc)

-- what is said of the functions that follow is said of all
pub record FollowEach (P : ℕ → Instance → Function → Type 0) (ds0 ds : List Instance) (i : ℕ) (fs : List Function) : Type 0 where
  pub by : (more : List Function) → HaveEach P ds i (length fs) (fs ++ more) → HaveEach P ds0 0 0 (fs ++ more)

pub each_start : (P : ℕ → Instance → Function → Type 0) (ds : List Instance) → FollowEach P ds ds 0 []
each_start P ds = record { by = λ more h. h }

has_one : (P : ℕ → Instance → Function → Type 0) (d : Instance) (ds : List Instance) (i n : ℕ) (f : Function) (fs : List Function) → has_function d.kind ≡ true → slice_get fs n ≡ Some f → P i d f → HaveEach P ds (suc i) (suc n) fs → HaveEach P (d ∷ ds) i n fs
has_one P d ds i n f fs e at is h = record { by = by }
  where
    in_first : (k : ℕ) (x : Instance) (y : Function) → if_function (has_function d.kind) ≡ Some k → Some d ≡ Some x → slice_get fs (n + k) ≡ Some y → P (i + 0) x y
    in_first k x y p q r = subst (λ z. P z x y) (zero_more i) (subst (λ z. P i x z) (same_some f y (sym at ∙ ap (slice_get fs) (same_number k (sym (ap if_function e) ∙ p)) ∙ r)) (subst (λ z. P i z f) (same_some d x q) is))
      where
        zero_more : (i : ℕ) → i ≡ i + 0
        zero_more i = omega arith

        same_number : (k : ℕ) → Some 0 ≡ Some k → n ≡ n + k
        same_number k r' = let z = same_some 0 k r' in omega (arith, z)

    in_rest : (g k : ℕ) (x : Instance) (y : Function) (o : Option ℕ) → function_of ds g ≡ o → one_more true o ≡ Some k → slice_get ds g ≡ Some x → slice_get fs (n + k) ≡ Some y → P (i + suc g) x y
    in_rest g k x y None p q r t = absurd (cc)
    in_rest g k x y (Some j) p q r t = subst (λ z. P z x y) (moved i g) (h.by g j x y p r (ap (slice_get fs) (same_place k q) ∙ t))
      where
        moved : (i g : ℕ) → suc i + g ≡ i + suc g
        moved i g = omega arith

        same_place : (k : ℕ) → Some (suc j) ≡ Some k → suc n + j ≡ n + k
        same_place k r' = let z = same_some (suc j) k r' in omega (arith, z)

    by : (g k : ℕ) (x : Instance) (y : Function) → function_of (d ∷ ds) g ≡ Some k → slice_get (d ∷ ds) g ≡ Some x → slice_get fs (n + k) ≡ Some y → P (i + g) x y
    by zero k x y p q r = in_first k x y p q r
    by (suc g) k x y p q r = in_rest g k x y (function_of ds g) refl (sym (ap (λ z. one_more z (function_of ds g)) e) ∙ p) q r

has_none : (P : ℕ → Instance → Function → Type 0) (d : Instance) (ds : List Instance) (i n : ℕ) (fs : List Function) → has_function d.kind ≡ false → HaveEach P ds (suc i) n fs → HaveEach P (d ∷ ds) i n fs
has_none P d ds i n fs e h = record { by = by }
  where
    no_first : (k : ℕ) → if_function (has_function d.kind) ≡ Some k → ⊥
    no_first k p = none_some (sym (ap if_function e) ∙ p)
      where
        none_some : None ≡ Some k → ⊥
        none_some r = absurd (cc)

    same : (o : Option ℕ) → one_more false o ≡ o
    same None = refl
    same (Some j) = refl

    moved : (i g : ℕ) → suc i + g ≡ i + suc g
    moved i g = omega arith

    by : (g k : ℕ) (x : Instance) (y : Function) → function_of (d ∷ ds) g ≡ Some k → slice_get (d ∷ ds) g ≡ Some x → slice_get fs (n + k) ≡ Some y → P (i + g) x y
    by zero k x y p q r = absurd (no_first k p)
    by (suc g) k x y p q r = subst (λ z. P z x y) (moved i g) (h.by g k x y (sym (ap (λ z. one_more z (function_of ds g)) e ∙ same (function_of ds g)) ∙ p) q r)

each_more : (P : ℕ → Instance → Function → Type 0) (ds0 ds : List Instance) (d : Instance) (i : ℕ) (fs : List Function) (f : Function) → is_ruled d.kind ≡ true → P i d f → FollowEach P ds0 (d ∷ ds) i fs → FollowEach P ds0 ds (suc i) (fs ++ f ∷ [])
each_more P ds0 ds d i fs f e is h = record {
  by = λ more k.
      subst (HaveEach P ds0 0 0) (sym (append_one fs f more))
      (h.by (f ∷ more) (has_one P d ds i (length fs) f (fs ++ (f ∷ more)) (sym (ruled_is d.kind) ∙ e) (at_end fs f more) is
      (subst (λ n. HaveEach P ds (suc i) n (fs ++ (f ∷ more))) (longer fs f) (subst (HaveEach P ds (suc i) (length (fs ++ f ∷ []))) (append_one fs f more) k))));
}

each_same : (P : ℕ → Instance → Function → Type 0) (ds0 ds : List Instance) (d : Instance) (i : ℕ) (fs : List Function) → is_ruled d.kind ≡ false → FollowEach P ds0 (d ∷ ds) i fs → FollowEach P ds0 ds (suc i) fs
each_same P ds0 ds d i fs e h = record { by = λ more k. h.by more (has_none P d ds i (length fs) (fs ++ more) (sym (ruled_is d.kind) ∙ e) k) }

pub each_next : (P : ℕ → Instance → Function → Type 0) (ts : List Tree) (i j n m : ℕ) (t : Tree) (fs gs : List Function) → j ≡ suc i → m ≡ suc n → slice_get ts i ≡ Some t → FollowEach P (instances ts) (instances (drop i ts)) n fs → AddsEach P n (is_ruled t.kind) (instance_of t) fs gs → FollowEach P (instances ts) (instances (drop j ts)) m gs
each_next P ts i j n m t fs gs e f h k a = subst (λ z. FollowEach P (instances ts) (instances (drop z ts)) m gs) (sym e) (subst (λ z. FollowEach P (instances ts) (instances (drop (suc i) ts)) z gs) (sym f) (by_kind (is_ruled t.kind) refl a))
  where
    here : FollowEach P (instances ts) (instance_of t ∷ instances (drop (suc i) ts)) n fs
    here = subst (λ z. FollowEach P (instances ts) z n fs) (instances_at ts i t h) k

    by_kind : (b : Bool) → is_ruled t.kind ≡ b → AddsEach P n b (instance_of t) fs gs → FollowEach P (instances ts) (instances (drop (suc i) ts)) (suc n) gs
    by_kind true r x = subst (FollowEach P (instances ts) (instances (drop (suc i) ts)) (suc n)) (sym x.1) (each_more P (instances ts) (instances (drop (suc i) ts)) (instance_of t) n fs x.0 r x.2 here)
    by_kind false r x = subst (FollowEach P (instances ts) (instances (drop (suc i) ts)) (suc n)) (sym x) (each_same P (instances ts) (instances (drop (suc i) ts)) (instance_of t) n fs r here)

pub each_end : (P : ℕ → Instance → Function → Type 0) (ts : List Tree) (i n : ℕ) (fs : List Function) → length ts ≤ i → FollowEach P (instances ts) (instances (drop i ts)) n fs → HaveEach P (instances ts) 0 0 fs
each_end P ts i n fs e f =
    subst (HaveEach P (instances ts) 0 0) (append_none fs)
    (f.by [] (subst (λ z. HaveEach P z n (length fs) (fs ++ [])) (sym (instances_past ts i e)) (record { by = λ g k d x p q. absurd (none_some q) })))
  where
    none_some : {x : Instance} → None ≡ Some x → ⊥
    none_some h = absurd (cc)
