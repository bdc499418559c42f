-- The slots of variables.
use Rattle.std.proofs.Common.{◌≡◌, ◌≢◌, ℕ, zero, suc, ◌+◌, ◌<◌, ◌≤◌, ◌==◌, Bool, true, false, List, [], ◌∷◌, ◌++◌, length, take, Some, refl, sym, ap, ◌∙◌, subst, arith, eq-eqb}
use Rattle.std.specs.Prelude.{slice_get, if◌then◌else◌, Result, Ok, Err, IfOk}
use Rattle.std.proofs.lemmas.Bool.{eqb-true}
use Rattle.std.proofs.lemmas.Option.{slice_get_within}
use Rattle.fip_trees.specs.fip_language.Values.{Value as Tree, Int, Node, End, More as Further}
use Rattle.fip_trees.specs.fip_language.Meaning.{Environment, bind}
use Rattle.plain_rows.specs.declared.store.Value.{Value}
use Rattle.plain_rows.specs.declared.store.Value.TheVariants as V
use Rattle.plain_rows.specs.declared.store.Store.{Store}
use Rattle.plain_rows.specs.Rows.{Stands, More}
use Rattle.plain_rows.proofs.Standing.{get_left, more_stands}
use Rattle.plain_eval.specs.Slots.{StandsAt, Covers, Keeps, KeepsOff, KeepsAll}

pub no_unbound : (s : Store) (v : Tree) → Stands s V.Unbound v → ⊥
no_unbound s (Int j) a = cc
no_unbound s (Node c End) a = cc
no_unbound s (Node c (Further v vs)) a = let e = a.2 in cc

pub get_right : {A : Type 0} (xs ys : List A) (n i : ℕ) → n ≡ length xs → slice_get (xs ++ ys) (n + i) ≡ slice_get ys i
get_right {A = A} xs ys n i e = ap (λ n. slice_get (xs ++ ys) (n + i)) e ∙ go xs where
  go : (zs : List A) → slice_get (zs ++ ys) (length zs + i) ≡ slice_get ys i
  go [] = ap (slice_get ys) (omega arith)
  go (z ∷ zs) = let n : length (z ∷ zs) + i ≡ suc (length zs + i) = omega arith in ap (slice_get (z ∷ (zs ++ ys))) n ∙ go zs

pub kept_some : (s t : Store) (ws us : List Value) (n base end : ℕ) (env : Environment) → end ≤ n → Keeps n s ws t us → Covers s ws base end env → Covers t us base end env
kept_some s t ws us n base end env l k h x v e = let p = h x v e in let q = p.0 in (q, k (base + x) v (omega (arith, q, l)) p.1)

pub kept_all : (s t : Store) (ws us : List Value) (base end : ℕ) (env : Environment) → KeepsAll s ws t us → Covers s ws base end env → Covers t us base end env
kept_all s t ws us base end env k h x v e = let p = h x v e in (p.0, k (base + x) v p.1)

pub kept_more : (s t : Store) (ws : List Value) → More s t → KeepsAll s ws t ws
kept_more s t ws m i v h = (h.0, h.1, more_stands s t h.0 v m h.2)

-- ---- a new place

pub renewed_covers : (s : Store) (old copy new : List Value) (n base end end' : ℕ) (env : Environment) → n ≡ length old → ((i : ℕ) (w : Value) → base + i < end → slice_get old (base + i) ≡ Some w → slice_get copy i ≡ Some w) → ((i : ℕ) (w : Value) → slice_get (old ++ copy) i ≡ Some w → slice_get new i ≡ Some w) → end' ≡ length new → Covers s old base end env → Covers s new n end' env
renewed_covers s old copy new n base end end' env z f g l h x v e =
    let p = h x v e in
    let w = (p.1).0 in
    let k = g (n + x) w (get_right old copy n x z ∙ f x w p.0 (p.1).1) in
    let lt = slice_get_within new (n + x) w k in
    (omega (arith, lt, l), (w, k, (p.1).2))

pub renewed_keeps : (s : Store) (old copy new : List Value) (n number p : ℕ) → n ≡ length old → p ≡ n + number → ((i : ℕ) (w : Value) → slice_get (old ++ copy) i ≡ Some w → slice_get new i ≡ Some w) → KeepsOff p s old new
renewed_keeps s old copy new n number p z q g i v h =
    let lt = slice_get_within old i h.0 h.1 in
    ((h.0, g i h.0 (get_left old copy i h.0 h.1), h.2), λ e. omega (arith, lt, z, q, e))

pub free_keeps : (s : Store) (ws : List Value) (p : ℕ) → slice_get ws p ≡ Some V.Unbound → KeepsOff p s ws ws
free_keeps s ws p f i v h = (h, λ e. no_unbound s v (subst (λ w. Stands s w v) (let z : Some h.0 ≡ Some V.Unbound = sym h.1 ∙ ap (slice_get ws) e ∙ f in cc) h.2))

-- ---- a variable is bound

pub bound_keeps : (s : Store) (old mid new : List Value) (p : ℕ) → KeepsOff p s old mid → ((i : ℕ) → i ≢ p → slice_get new i ≡ slice_get mid i) → KeepsAll s old s new
bound_keeps s old mid new p k f i v h = let m = k i v h in ((m.0).0, f i m.1 ∙ (m.0).1, (m.0).2)

pub bound_covers : (s : Store) (mid new : List Value) (base end number p : ℕ) (value : Value) (env : Environment) (v : Tree) → p ≡ base + number → p < end → slice_get new p ≡ Some value → ((i : ℕ) → i ≢ p → slice_get new i ≡ slice_get mid i) → Covers s mid base end env → Stands s value v → Covers s new base end (bind env number v)
bound_covers s mid new base end number p value env v q l at others h k x u e = go (number == x) refl e where
  go : (b : Bool) → (number == x) ≡ b → (if b then Some v else env x) ≡ Some u → (base + x < end) × StandsAt s new (base + x) u
  go true c f =
      let same : number ≡ x = eqb-true number x c in
      let tree : v ≡ u = cc in
      let place : p ≡ base + x = q ∙ ap (λ n. base + n) same in
      (subst (λ n. n < end) place l, (value, ap (slice_get new) (sym place) ∙ at, subst (Stands s value) tree k))
  go false c f =
      let m = h x u f in
      let off : base + x ≢ p = λ z. differ (let y = q in omega (arith, z, y)) c in
      (m.0, ((m.1).0, others (base + x) off ∙ (m.1).1, (m.1).2))
    where
      differ : number ≡ x → (number == x) ≡ false → ⊥
      differ e c = let t = eq-eqb number x e in cc

-- back to slots that stayed as they were
pub back_covers : (s : Store) (ws us us' : List Value) (base end base' end' : ℕ) (env : Environment) → us' ≡ us → base' ≡ base → end' ≡ end → KeepsAll s ws s us → Covers s ws base end env → Covers s us' base' end' env
back_covers s ws us us' base end base' end' env e f g k h =
    subst (λ l. Covers s l base' end' env) (sym e) (subst (λ n. Covers s us n end' env) (sym f) (subst (λ n. Covers s us base n env) (sym g) (kept_all s s ws us base end env k h)))

pub fill_keeps : (s : Store) (ws us : List Value) → ((i : ℕ) (w : Value) → slice_get ws i ≡ Some w → slice_get us i ≡ Some w) → KeepsAll s ws s us
fill_keeps s ws us f i v h = (h.0, f i h.0 h.1, h.2)

pub keeps_off_after : (s : Store) (p : ℕ) (ws us vs : List Value) → KeepsAll s ws s us → KeepsOff p s us vs → KeepsOff p s ws vs
keeps_off_after s p ws us vs k l i v h = l i v (k i v h)

pub truncated : (s : Store) (ws us : List Value) (n : ℕ) → us ≡ take n ws → Keeps n s ws s us
truncated s ws us n e i v l h = (h.0, ap (λ l. slice_get l i) e ∙ get_take ws n i l ∙ h.1, h.2) where
  get_take : (ws : List Value) (n i : ℕ) → i < n → slice_get (take n ws) i ≡ slice_get ws i
  get_take [] zero i l = refl
  get_take [] (suc n) i l = refl
  get_take (w ∷ ws) zero i l = absurd (omega arith)
  get_take (w ∷ ws) (suc n) zero l = refl
  get_take (w ∷ ws) (suc n) (suc i) l = get_take ws n i (omega arith)

pub keeps_on : (s : Store) (n : ℕ) (ws us vs : List Value) → Keeps n s ws s us → KeepsAll s us s vs → Keeps n s ws s vs
keeps_on s n ws us vs k l i v b h = l i v (k i v b h)

pub if_ok : {A E : Type 0} {P Q : A → Type 0} (r : Result A E) → ((a : A) → P a → Q a) → IfOk r P → IfOk r Q
if_ok (Ok a) f h = f a h
if_ok (Err e) f h = tt
