-- Parameters: the outermost scopes against the lists of borrowed and of owned parameters.
use Rattle.std.proofs.Common.{◌≡◌, ℕ, zero, suc, ◌<◌, ◌≤◌, refl, sym, ap, subst, ◌∙◌, List, [], ◌∷◌, ◌++◌, Bool, true, false, not, arith}
use Rattle.std.specs.Prelude.{◌↔◌, ◌==◌, ◌||◌, if◌then◌else◌}
use Rattle.std.proofs.lemmas.Bool.Decides.{nat_tests}
use Rattle.credit_check.specs.fip_base.declared.plain.Param.{Param}
use Rattle.credit_check.specs.fip_trees.declared.program.Binder.{Binder}
use Rattle.fip_rules.specs.declared.scope.Ownership.{Ownership}
use Rattle.fip_rules.specs.declared.scope.Ownership.TheVariants.{Scalar, Borrowed, Owned}
use Rattle.fip_rules.specs.Shape as S
use Rattle.fip_rules.specs.Rules.{Misses}
use Rattle.fip_rules.specs.World.{World}
use Rattle.fip_rules.specs.Shapes.{Names, Bind, mark, binds, within, parameters}
use Rattle.fip_rules.proofs.Agree.{misses, missing}
use Rattle.ownership_calculus.specs.Terms.{has, Term}
use Rattle.ownership_calculus.specs.Clean as C
use Rattle.ownership_calculus.specs.Clean.{fewest}
use Rattle.ownership_agreement.specs.Good as G
use Rattle.ownership_agreement.specs.Bodies.{Scalars, borrowed_parameters, owned_parameters, entering_parameters}
use Rattle.ownership_agreement.specs.Mix.{state, mix}
use Rattle.ownership_agreement.proofs.Basics.{pos, apart, apart_back, same_number, Above}
use Rattle.ownership_agreement.proofs.Bridge.{same}
use Rattle.ownership_agreement.proofs.Binders.{misses_binds}
use Rattle.ownership_agreement.proofs.Always.{got}
use Rattle.fip_rules.proofs.fip_base.fip_language.Facts.{equal_itself as same_test, or_last as or_right, true_of_not_false as not_false}

-- ---- any binders

abbrev pub bounds : ℕ → List Bind → (ℕ → G.State) → ℕ → G.State
bounds n [] s = s
bounds n (b ∷ bs) s = bounds (suc n) bs (G.bound n b.ownership s)

abbrev pub UsedBinds : Bool → ℕ → List Bind → S.Shape → Type 0
UsedBinds fip n [] e = Unit {0}
UsedBinds fip n (b ∷ bs) e = G.IsUsed fip b.ownership n e × UsedBinds fip (suc n) bs e

abbrev used_type : Bool → Type 0 → Type 0
used_type fip M = fip ≡ true → M → ⊥

used_same : (fip : Bool) (k : Ownership) (x : ℕ) (a e : S.Shape) → Misses x a ≡ Misses x e → G.IsUsed fip k x a ≡ G.IsUsed fip k x e
used_same fip Scalar x a e h = refl
used_same fip Borrowed x a e h = refl
used_same fip Owned x a e h = ap (used_type fip) h

pub binds_good : (fip : Bool) (n : ℕ) (s : ℕ → G.State) (bs : List Bind) (e : S.Shape) → G.Good fip s (binds n bs e) ↔ (UsedBinds fip n bs e × G.Good fip (bounds n bs s) e)
binds_good fip n s [] e = (λ h. (tt, h), λ h. h.1)
binds_good fip n s (b ∷ bs) e =
    let A = binds (suc n) bs e in
    let u = used_same fip b.ownership n A e (misses_binds (suc n) n bs e) in
    let r = binds_good fip (suc n) (G.bound n b.ownership s) bs e in (
      λ h. let g = r.0 h.0 in ((subst (λ (X : Type 0). X) u h.1, g.0), g.1),
      λ h. (r.1 (h.0.1, h.1), subst (λ (X : Type 0). X) (sym u) h.0.0),
    )

-- ---- parameters

first_apart : (s l : Bool) (y : ℕ) (ys : List ℕ) (x : ℕ) → (y == x) ≡ false → has ys x ≡ false → has (if s then ys else (if l then y ∷ ys else ys)) x ≡ false
first_apart true l y ys x e h = h
first_apart false true y ys x e h = rw (e) h
first_apart false false y ys x e h = h

second_apart : (s l : Bool) (y : ℕ) (ys : List ℕ) (x : ℕ) → (y == x) ≡ false → has ys x ≡ false → has (if s then ys else (if l then ys else y ∷ ys)) x ≡ false
second_apart true l y ys x e h = h
second_apart false true y ys x e h = h
second_apart false false y ys x e h = rw (e) h

not_borrowed : (w : World) (n x : ℕ) (ps : List Param) (bs : List Binder) → x < n → has (borrowed_parameters w n ps bs) x ≡ false
not_borrowed w n x ps [] l = refl
not_borrowed w n x [] (b ∷ bs) l = refl
not_borrowed w n x (p ∷ ps) (b ∷ bs) l = first_apart (w.scalar p.ty) p.lent n (borrowed_parameters w (suc n) ps bs) x (apart x n l) (not_borrowed w (suc n) x ps bs (omega arith))

pub not_owned : (w : World) (n x : ℕ) (ps : List Param) (bs : List Binder) → x < n → has (owned_parameters w n ps bs) x ≡ false
not_owned w n x ps [] l = refl
not_owned w n x [] (b ∷ bs) l = refl
not_owned w n x (p ∷ ps) (b ∷ bs) l = second_apart (w.scalar p.ty) p.lent n (owned_parameters w (suc n) ps bs) x (apart x n l) (not_owned w (suc n) x ps bs (omega arith))

-- c: whether it is the parameter's number; s: whether it is scalar; l: whether it is borrowed
abbrev newest : Bool → Bool → Bool → C.Status → C.Status
newest c s l f = if c then (if s then f else (if l then C.Free else C.Owned false false)) else f

one_state : (c s l b : Bool) (f : C.Status) → (if c then G.starts (if s then Scalar else (if not l then Owned else Borrowed)) else (if b then G.Free else state f)) ≡ (if (if c then s else b) then G.Free else state (newest c s l f))
one_state true true l b f = refl
one_state true false true b f = refl
one_state true false false b f = refl
one_state false s l b f = refl

abbrev of_lists : Bool → Bool → C.Status → C.Status
of_lists o l f = if o then C.Owned false false else (if l then C.Free else f)

join_state : (s l c : Bool) (n x : ℕ) (own lent : List ℕ) (f : C.Status) → (n == x) ≡ c → (c ≡ true → has own x ≡ false) → (c ≡ true → has lent x ≡ false) → of_lists (has own x) (has lent x) (newest c s l f) ≡ of_lists (has (if s then own else (if l then own else n ∷ own)) x) (has (if s then lent else (if l then n ∷ lent else lent)) x) f
join_state true l true n x own lent f e g h = refl
join_state true l false n x own lent f e g h = refl
join_state false true true n x own lent f e g h = let p : has own x ≡ false = g refl in let q : has lent x ≡ false = h refl in rw (e, p, q) refl
join_state false true false n x own lent f e g h = rw (e) refl
join_state false false true n x own lent f e g h = let p : has own x ≡ false = g refl in let q : has lent x ≡ false = h refl in rw (e, p, q) refl
join_state false false false n x own lent f e g h = rw (e) refl

above_self : (n x : ℕ) → (n == x) ≡ true → x < suc n
above_self n x h = grind (arith, nat_tests)

pub parameter_states : (w : World) (n : ℕ) (sc : Scalars) (s : ℕ → C.Status) (ps : List Param) (bs : List Binder) → bounds n (parameters w ps bs) (mix sc s) ≡ mix (entering_parameters w n sc ps bs) (λ y. of_lists (has (owned_parameters w n ps bs) y) (has (borrowed_parameters w n ps bs) y) (s y))
parameter_states w n sc s ps [] = refl
parameter_states w n sc s [] (b ∷ bs) = refl
parameter_states w n sc s (p ∷ ps) (b ∷ bs) =
    let sc1 : Scalars = λ y. if n == y then w.scalar p.ty else sc y in
    let s1 : ℕ → C.Status = λ y. newest (n == y) (w.scalar p.ty) p.lent (s y) in
    let k = if w.scalar p.ty then Scalar else (if not p.lent then Owned else Borrowed) in
    let own = owned_parameters w (suc n) ps bs in
    let lent = borrowed_parameters w (suc n) ps bs in
    let sc2 = entering_parameters w (suc n) sc1 ps bs in
    ap (λ t. bounds (suc n) (parameters w ps bs) t) (same (G.bound n k (mix sc s)) (mix sc1 s1) (λ x. one_state (n == x) (w.scalar p.ty) p.lent (sc x) (s x)))
    ∙ parameter_states w (suc n) sc1 s1 ps bs
    ∙ same (mix sc2 (λ y. of_lists (has own y) (has lent y) (s1 y))) (mix sc2 (λ y. of_lists (has (owned_parameters w n (p ∷ ps) (b ∷ bs)) y) (has (borrowed_parameters w n (p ∷ ps) (b ∷ bs)) y) (s y)))
    (λ x. ap (λ (f : C.Status). if sc2 x then G.Free else state f) (join_state (w.scalar p.ty) p.lent (n == x) n x own lent (s x) refl (λ e. not_owned w (suc n) x ps bs (above_self n x e)) (λ e. not_borrowed w (suc n) x ps bs (above_self n x e))))

-- ---- each owned parameter is used

first_used : (s l c : Bool) (y x : ℕ) (ys : List ℕ) (e : S.Shape) → (y == x) ≡ c → G.IsUsed true (if s then Scalar else (if not l then Owned else Borrowed)) y e → has (if s then ys else (if l then ys else y ∷ ys)) x ≡ true → (has ys x ≡ true → Misses x e → ⊥) → Misses x e → ⊥
first_used true l c y x ys e f u h r m = r h m
first_used false true c y x ys e f u h r m = r h m
first_used false false true y x ys e f u h r m = u refl (subst (λ z. Misses z e) (sym (same_number y x f)) m)
first_used false false false y x ys e f u h r m = r (sym (ap (λ q. q || has ys x) f) ∙ h) m

none_missed : (w : World) (n : ℕ) (ps : List Param) (bs : List Binder) (e : S.Shape) → UsedBinds true n (parameters w ps bs) e → (x : ℕ) → has (owned_parameters w n ps bs) x ≡ true → Misses x e → ⊥
none_missed w n ps [] e u x h m = absurd (cc)
none_missed w n [] (b ∷ bs) e u x h m = absurd (cc)
none_missed w n (p ∷ ps) (b ∷ bs) e u x h m = first_used (w.scalar p.ty) p.lent (n == x) n x (owned_parameters w (suc n) ps bs) e refl u.0 h (none_missed w (suc n) ps bs e u.1 x) m

pub self_has : (y : ℕ) (ys : List ℕ) → has (y ∷ ys) y ≡ true
self_has y ys = let z : (y == y) ≡ true = same_test y in rw z refl

more_has : (s l : Bool) (y x : ℕ) (ys : List ℕ) → has ys x ≡ true → has (if s then ys else (if l then ys else y ∷ ys)) x ≡ true
more_has true l y x ys h = h
more_has false true y x ys h = h
more_has false false y x ys h = or_right (y == x) (has ys x) h

used_first : (s l : Bool) (y : ℕ) (ys : List ℕ) (e : S.Shape) → ((x : ℕ) → has (if s then ys else (if l then ys else y ∷ ys)) x ≡ true → Misses x e → ⊥) → G.IsUsed true (if s then Scalar else (if not l then Owned else Borrowed)) y e
used_first true l y ys e h = tt
used_first false true y ys e h = tt
used_first false false y ys e h = λ k m. h y (self_has y ys) m

all_used : (w : World) (n : ℕ) (ps : List Param) (bs : List Binder) (e : S.Shape) → ((x : ℕ) → has (owned_parameters w n ps bs) x ≡ true → Misses x e → ⊥) → UsedBinds true n (parameters w ps bs) e
all_used w n ps [] e h = tt
all_used w n [] (b ∷ bs) e h = tt
all_used w n (p ∷ ps) (b ∷ bs) e h = (used_first (w.scalar p.ty) p.lent n (owned_parameters w (suc n) ps bs) e h, all_used w (suc n) ps bs e (λ x g m. h x (more_has (w.scalar p.ty) p.lent n x (owned_parameters w (suc n) ps bs) g) m))

free_one : (k : Ownership) (y : ℕ) (e : S.Shape) → G.IsUsed false k y e
free_one Scalar y e = tt
free_one Borrowed y e = tt
free_one Owned y e = λ k m. absurd (cc)

free_all : (n : ℕ) (bs : List Bind) (e : S.Shape) → UsedBinds false n bs e
free_all n [] e = tt
free_all n (b ∷ bs) e = (free_one b.ownership n e, free_all (suc n) bs e)

pub pos_one : (n : ℕ) → pos n ≡ true → 1 ≤ n
pos_one zero h = absurd (cc)
pos_one (suc n) h = omega arith

pub one_pos : (n : ℕ) → 1 ≤ n → pos n ≡ true
one_pos zero h = absurd (omega arith)
one_pos (suc n) h = refl

pub used_is : (fip : Bool) (w : World) (n : ℕ) (ps : List Param) (bs : List Binder) (e : S.Shape) (t : Term) → ((x : ℕ) → has (owned_parameters w n ps bs) x ≡ true → got x e ≡ pos (fewest x t)) → UsedBinds fip n (parameters w ps bs) e ↔ C.AllUsed fip (owned_parameters w n ps bs) t
used_is true w n ps bs e t f = (
  λ u. λ x h. pos_one (fewest x t) (sym (f x h) ∙ not_false (got x e) (λ g. none_missed w n ps bs e u x h (misses x e g))),
  λ u. all_used w n ps bs e (λ x h m. let a = f x h in let b = one_pos (fewest x t) (u x h) in let c = missing x e m in absurd (cc)),
)
used_is false w n ps bs e t f = (λ u. tt, λ u. free_all n (parameters w ps bs) e)

-- ---- what is in scope

abbrev pub past : ℕ → List Param → List Binder → ℕ
past n ps [] = n
past n [] (b ∷ bs) = n
past n (p ∷ ps) (b ∷ bs) = past (suc n) ps bs

pub past_within : (w : World) (c : Names) (ps : List Param) (bs : List Binder) → (within c (parameters w ps bs)).next ≡ past c.next ps bs
past_within w c ps [] = refl
past_within w c [] (b ∷ bs) = refl
past_within w c (p ∷ ps) (b ∷ bs) = past_within w (record { marks = c.marks ++ mark c.next b ∷ []; next = suc c.next }) ps bs

past_le : (n : ℕ) (ps : List Param) (bs : List Binder) → n ≤ past n ps bs
past_le n ps [] = omega arith
past_le n [] (b ∷ bs) = omega arith
past_le n (p ∷ ps) (b ∷ bs) = let h = past_le (suc n) ps bs in omega arith

not_entered : (w : World) (n x : ℕ) (sc : Scalars) (ps : List Param) (bs : List Binder) → x < n → entering_parameters w n sc ps bs x ≡ sc x
not_entered w n x sc ps [] l = refl
not_entered w n x sc [] (b ∷ bs) l = refl
not_entered w n x sc (p ∷ ps) (b ∷ bs) l =
    let z : (n == x) ≡ false = apart x n l in
    not_entered w (suc n) x (λ y. if n == y then w.scalar p.ty else sc y) ps bs (omega arith) ∙ (rw z refl)

pub all_past : (w : World) (n : ℕ) (sc : Scalars) (ps : List Param) (bs : List Binder) → Above sc n → Above (entering_parameters w n sc ps bs) (past n ps bs)
all_past w n sc ps [] f x l = f x l
all_past w n sc [] (b ∷ bs) f x l = f x l
all_past w n sc (p ∷ ps) (b ∷ bs) f x l =
    all_past w (suc n) (λ y. if n == y then w.scalar p.ty else sc y) ps bs
    (λ y m. let z = apart_back n y (omega arith) in let r = f y (omega arith) in rw (z) r) x l

owned_first : (s l c : Bool) (w : World) (sc : Scalars) (n x : ℕ) (p : Param) (ps : List Param) (bs : List Binder) → w.scalar p.ty ≡ s → (n == x) ≡ c → has (if s then owned_parameters w (suc n) ps bs else (if l then owned_parameters w (suc n) ps bs else n ∷ owned_parameters w (suc n) ps bs)) x ≡ true → (has (owned_parameters w (suc n) ps bs) x ≡ true → (entering_parameters w (suc n) (λ z. if n == z then w.scalar p.ty else sc z) ps bs x ≡ false) × (x < past (suc n) ps bs)) → (entering_parameters w (suc n) (λ z. if n == z then w.scalar p.ty else sc z) ps bs x ≡ false) × (x < past (suc n) ps bs)
owned_first true l c w sc n x p ps bs f g h r = r h
owned_first false true c w sc n x p ps bs f g h r = r h
owned_first false false true w sc n x p ps bs f g h r =
    let z : n ≡ x = same_number n x g in
    let l = past_le (suc n) ps bs in
    (not_entered w (suc n) x (λ z. if n == z then w.scalar p.ty else sc z) ps bs (omega arith) ∙ (rw (g) f), omega arith)
owned_first false false false w sc n x p ps bs f g h r = r (sym (ap (λ q. q || has (owned_parameters w (suc n) ps bs) x) g) ∙ h)

pub owned_seen : (w : World) (sc : Scalars) (n x : ℕ) (ps : List Param) (bs : List Binder) → has (owned_parameters w n ps bs) x ≡ true → (entering_parameters w n sc ps bs x ≡ false) × (x < past n ps bs)
owned_seen w sc n x ps [] h = absurd (cc)
owned_seen w sc n x [] (b ∷ bs) h = absurd (cc)
owned_seen w sc n x (p ∷ ps) (b ∷ bs) h = owned_first (w.scalar p.ty) p.lent (n == x) w sc n x p ps bs refl refl h (owned_seen w (λ z. if n == z then w.scalar p.ty else sc z) (suc n) x ps bs)
