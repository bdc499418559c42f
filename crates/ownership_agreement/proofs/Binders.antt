-- Binders: nested scopes against a list of binders.
use Rattle.std.proofs.Common.{◌≡◌, ℕ, suc, ◌<◌, refl, sym, ap, subst, ◌∙◌, List, [], ◌∷◌, Bool, true, false, arith}
use Rattle.std.specs.Prelude.{◌↔◌, ◌==◌, ◌||◌, if◌then◌else◌}
use Rattle.credit_check.specs.fip_trees.declared.program.Binder.{Binder}
use Rattle.fip_rules.specs.declared.scope.Ownership.TheVariants.{Scalar, Borrowed, Owned}
use Rattle.fip_rules.specs.Shape as S
use Rattle.fip_rules.specs.Rules.{Misses}
use Rattle.fip_rules.specs.World.{World, ownership}
use Rattle.fip_rules.specs.Shapes.{Bind, binds, taking}
use Rattle.ownership_calculus.specs.Terms.{has}
use Rattle.ownership_calculus.specs.Clean as C
use Rattle.ownership_agreement.specs.Good as G
use Rattle.ownership_agreement.specs.Bodies.{Scalars, variables, entering}
use Rattle.ownership_agreement.specs.Mix.{state, mix}
use Rattle.ownership_agreement.proofs.Basics.{past, past_le, not_entered, same_number}
use Rattle.ownership_agreement.proofs.Bridge.{same}

one_at : (c s take b : Bool) (y x : ℕ) (f : C.Status) → (y == x) ≡ c → (if c then G.starts (if s then Scalar else (if take then Owned else Borrowed)) else (if b then G.Free else state f)) ≡ (if (if c then s else b) then G.Free else state (if has (if s then [] else y ∷ []) x then C.fresh take else f))
one_at true true take b y x f e = refl
one_at true false true b y x f e = rw (e) refl
one_at true false false b y x f e = rw (e) refl
one_at false true take b y x f e = refl
one_at false false take b y x f e = rw (e) refl

one_is : (w : World) (take : Bool) (n : ℕ) (b : Binder) (sc : Scalars) (t : ℕ → C.Status) (x : ℕ) → G.bound n (ownership w take b.ty) (mix sc t) x ≡ mix (λ z. if n == z then w.scalar b.ty else sc z) (C.binding (if w.scalar b.ty then [] else n ∷ []) take t) x
one_is w take n b sc t x = one_at (n == x) (w.scalar b.ty) take (sc x) n x (t x) refl

twice_at : (s h : Bool) (y x : ℕ) (ys : List ℕ) (c : Bool) (u f : C.Status) → has ys x ≡ h → (y == x) ≡ c → (if has ys x then u else (if has (if s then [] else y ∷ []) x then u else f)) ≡ (if has (if s then ys else y ∷ ys) x then u else f)
twice_at true h y x ys c u f e g = refl
twice_at false true y x ys true u f e g = rw (e, g) refl
twice_at false true y x ys false u f e g = rw (e, g) refl
twice_at false false y x ys true u f e g = rw (e, g) refl
twice_at false false y x ys false u f e g = rw (e, g) refl

abbrev pub UsedAll : Bool → World → Bool → ℕ → List Binder → S.Shape → Type 0
UsedAll fip w take n [] e = Unit {0}
UsedAll fip w take n (b ∷ bs) e = G.IsUsed fip (ownership w take b.ty) n e × UsedAll fip w take (suc n) bs e

pub misses_binds : (n x : ℕ) (bs : List Bind) (e : S.Shape) → Misses x (binds n bs e) ≡ Misses x e
misses_binds n x [] e = refl
misses_binds n x (b ∷ bs) e = misses_binds (suc n) x bs e

abbrev used_type : Bool → Type 0 → Type 0
used_type fip M = fip ≡ true → M → ⊥

pub used_binds : (fip : Bool) (s take : Bool) (x : ℕ) (a e : S.Shape) → Misses x a ≡ Misses x e → G.IsUsed fip (if s then Scalar else (if take then Owned else Borrowed)) x a ≡ G.IsUsed fip (if s then Scalar else (if take then Owned else Borrowed)) x e
used_binds fip true take x a e h = refl
used_binds fip false true x a e h = ap (used_type fip) h
used_binds fip false false x a e h = refl

pub binds_is : (fip : Bool) (w : World) (take : Bool) (n : ℕ) (sc : Scalars) (t : ℕ → C.Status) (bs : List Binder) (e : S.Shape) → G.Good fip (mix sc t) (binds n (taking w take bs) e) ↔ (UsedAll fip w take n bs e × G.Good fip (mix (entering w n sc bs) (C.binding (variables w n bs) take t)) e)
binds_is fip w take n sc t [] e = (λ h. (tt, h), λ h. h.1)
binds_is fip w take n sc t (b ∷ bs) e =
    let k = ownership w take b.ty in
    let sc1 : Scalars = λ z. if n == z then w.scalar b.ty else sc z in
    let t1 : ℕ → C.Status = C.binding (if w.scalar b.ty then [] else n ∷ []) take t in
    let p = same (G.bound n k (mix sc t)) (mix sc1 t1) (one_is w take n b sc t) in
    let q = same (mix (entering w (suc n) sc1 bs) (C.binding (variables w (suc n) bs) take t1)) (mix (entering w n sc (b ∷ bs)) (C.binding (variables w n (b ∷ bs)) take t)) (λ x. ap (λ (f : C.Status). if entering w (suc n) sc1 bs x then G.Free else state f) (twice_at (w.scalar b.ty) (has (variables w (suc n) bs) x) n x (variables w (suc n) bs) (n == x) (C.fresh take) (t x) refl refl)) in
    let r = binds_is fip w take (suc n) sc1 t1 bs e in
    let A = binds (suc n) (taking w take bs) e in
    let u = used_binds fip (w.scalar b.ty) take n A e (misses_binds (suc n) n (taking w take bs) e) in (
      λ h. let g = r.0 (subst (λ f. G.Good fip f A) p h.0) in ((subst (λ (X : Type 0). X) u h.1, g.0), subst (λ f. G.Good fip f e) q g.1),
      λ h. (subst (λ f. G.Good fip f A) (sym p) (r.1 (h.0.1, subst (λ f. G.Good fip f e) (sym q) h.1)), subst (λ (X : Type 0). X) (sym u) h.0.0),
    )

-- borrowed binders owe nothing
lent_one : (fip : Bool) (s : Bool) (x : ℕ) (e : S.Shape) → G.IsUsed fip (if s then Scalar else Borrowed) x e
lent_one fip true x e = tt
lent_one fip false x e = tt

pub used_lent : (fip : Bool) (w : World) (n : ℕ) (bs : List Binder) (e : S.Shape) → UsedAll fip w false n bs e
used_lent fip w n [] e = tt
used_lent fip w n (b ∷ bs) e = (lent_one fip (w.scalar b.ty) n e, used_lent fip w (suc n) bs e)

-- owned binders are not scalar, and are below what comes
owned_first : (s c : Bool) (w : World) (sc : Scalars) (n x : ℕ) (b : Binder) (bs : List Binder) → w.scalar b.ty ≡ s → (n == x) ≡ c → has (if s then variables w (suc n) bs else n ∷ variables w (suc n) bs) x ≡ true → (has (variables w (suc n) bs) x ≡ true → (entering w (suc n) (λ z. if n == z then w.scalar b.ty else sc z) bs x ≡ false) × (x < past (suc n) bs)) → (entering w (suc n) (λ z. if n == z then w.scalar b.ty else sc z) bs x ≡ false) × (x < past (suc n) bs)
owned_first true c w sc n x b bs f g h r = r h
owned_first false true w sc n x b bs f g h r =
    let z : n ≡ x = same_number n x g in
    let l = past_le (suc n) bs in
    (not_entered w (suc n) x (λ z. if n == z then w.scalar b.ty else sc z) bs (omega arith) ∙ (rw (g) f), omega arith)
owned_first false false w sc n x b bs f g h r = r (sym (ap (λ q. q || has (variables w (suc n) bs) x) g) ∙ h)

pub owned_seen : (w : World) (sc : Scalars) (n x : ℕ) (bs : List Binder) → has (variables w n bs) x ≡ true → (entering w n sc bs x ≡ false) × (x < past n bs)
owned_seen w sc n x [] h = absurd (cc)
owned_seen w sc n x (b ∷ bs) h = owned_first (w.scalar b.ty) (n == x) w sc n x b bs refl refl h (owned_seen w (λ z. if n == z then w.scalar b.ty else sc z) (suc n) x bs)
