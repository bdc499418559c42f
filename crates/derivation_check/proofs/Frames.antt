-- What is round an expression: the variables of its frames.
use Rattle.std.proofs.Common.{◌≡◌, ℕ, zero, suc, ◌<◌, ◌≤◌, ◌+◌, ◌-◌, refl, sym, ap, ◌∙◌, subst, List, [], ◌∷◌, ◌++◌, length, get_or, take, drop, map, Option, Some, None, Bool, true, false, not, ◌&&◌, ◌||◌, arith, nat_eq, Bor, ◌⊎◌, inl, inr}
use Rattle.std.specs.Prelude.{slice_get, if◌then◌else◌, ◌==◌}
use Rattle.std.proofs.lemmas.Bool.Decides.{nat_tests}
use Rattle.fip_base.specs.declared.plain.Param.{Param}
use Rattle.fip_trees.specs.declared.program.Binder.{Binder}
use Rattle.fip_trees.specs.declared.program.Binding as N
use Rattle.fip_trees.specs.declared.program.Pattern as P
use Rattle.fip_trees.specs.TreeView.{BoundPart}
use Rattle.fip_trees.specs.TreeView as V
use Rattle.fip_rules.specs.Shapes.{binders, binders_all}
use Rattle.fip_trees.proofs.TreeViews.{binding_is}
use Rattle.ownership_calculus.specs.Terms.{has, given}
use Rattle.derivation_check.specs.declared.scope.Variable.{Variable}
use Rattle.derivation_check.specs.declared.scope.Scope as D
use Rattle.derivation_check.specs.declared.scope.Scope.TheOpen as O
use Rattle.derivation_check.specs.declared.scope.Scope.TheVariants as SV
use Rattle.derivation_check.specs.declared.scope.Scope.TheFolds.{fold-roll-Scope}
use Rattle.derivation_check.proofs.Numbers.{given_here, given_other, drop_item}
use Rattle.derivation_check.specs.Places.{IsRising}
use Rattle.derivation_check.specs.Scopes.{Known, Scope, known, named, parameters, binding, AreNumbered, within}
use Rattle.derivation_check.specs.ScopeView.{Frame, HeaderFrame, ClauseFrame, BindingsFrame, BoundFrame, frames, frames_step, bindings, scope_of, AreBindings, Fits, first, known_as, start}
use Rattle.fip_base.proofs.fip_language.Facts.{get_there as get_some, map_length as length_map, or_last as or_true, same_some_implicit as some_one}

-- ---- frames at each form

pub frames_header : (ps : Bor (List Param)) → frames (SV.Header ps) ≡ HeaderFrame ps.now ∷ []
frames_header ps = ap frames (sym (SV.rolls-Header ps)) ∙ fold-roll-Scope (List Frame) frames_step (O.Header ps)

pub frames_clause : (s : Bor D.Scope) (q : Bor P.Pattern) (taken : Bool) (c d : ℕ) → frames (SV.Clause s q taken c d) ≡ ClauseFrame (binders (V.pattern q.now)) taken c d ∷ frames s.now
frames_clause s q taken c d = ap frames (sym (SV.rolls-Clause s q taken c d)) ∙ fold-roll-Scope (List Frame) frames_step (O.Clause s q taken c d)

pub frames_bindings : (s : Bor D.Scope) (bs : Bor (List N.Binding)) (c d : ℕ) → frames (SV.Bindings s bs c d) ≡ BindingsFrame (map V.binding bs.now) c d ∷ frames s.now
frames_bindings s bs c d = ap frames (sym (SV.rolls-Bindings s bs c d)) ∙ fold-roll-Scope (List Frame) frames_step (O.Bindings s bs c d)

pub frames_bound : (s : Bor D.Scope) (xs ys : Bor (List ℕ)) → frames (SV.Bound s xs ys) ≡ BoundFrame xs.now ys.now ∷ frames s.now
frames_bound s xs ys = ap frames (sym (SV.rolls-Bound s xs ys)) ∙ fold-roll-Scope (List Frame) frames_step (O.Bound s xs ys)

-- ---- numbered binders

pub known_append : (us vs : List Known) (x : ℕ) → known us x ≡ None → known (us ++ vs) x ≡ known vs x
known_append [] vs x e = refl
known_append (u ∷ us) vs x e = by (nat_eq u.binder x) refl e (λ f. known_append us vs x f)
  where
    by : (b : Bool) → nat_eq u.binder x ≡ b → (if u.binder == x then Some u else known us x) ≡ None → (known us x ≡ None → known (us ++ vs) x ≡ known vs x) → (if u.binder == x then Some u else known (us ++ vs) x) ≡ known vs x
    by true t e f = absurd (cc)
    by false t e f = let g : known us x ≡ None = cc in let h = f g in cc

pub known_front : (us vs : List Known) (x : ℕ) (v : Known) → known us x ≡ Some v → known (us ++ vs) x ≡ Some v
known_front [] vs x v e = absurd (cc)
known_front (u ∷ us) vs x v e = by (nat_eq u.binder x) refl e (λ f. known_front us vs x v f)
  where
    by : (b : Bool) → nat_eq u.binder x ≡ b → (if u.binder == x then Some u else known us x) ≡ Some v → (known us x ≡ Some v → known (us ++ vs) x ≡ Some v) → (if u.binder == x then Some u else known (us ++ vs) x) ≡ Some v
    by true t e f = cc
    by false t e f = let g : known us x ≡ Some v = cc in let h = f g in cc

pub numbered_at : (c d i : ℕ) (bs : List Binder) (z : Binder) → AreNumbered c d bs → i < length bs → ((get_or bs i z).number ≡ c + i) × (d + i < 4294967296)
numbered_at c d i [] z h l = absurd (omega arith)
numbered_at c d zero (b ∷ bs) z h l = (let e = h.0 in omega arith, let e = h.1 in omega arith)
numbered_at c d (suc i) (b ∷ bs) z h l = let g = numbered_at (c + 1) (d + 1) i bs z h.2 (omega arith) in (let e = g.0 in omega arith, let e = g.1 in omega arith)

pub first_none : (d : ℕ) (own : Bool) (bs : List Binder) (x : ℕ) → first bs x ≡ None → known (named d own bs) x ≡ None
first_none d own [] x e = refl
first_none d own (b ∷ bs) x e = by (nat_eq b.number x) refl e (λ f. first_none (d + 1) own bs x f)
  where
    by : (t : Bool) → nat_eq b.number x ≡ t → (if b.number == x then Some b else first bs x) ≡ None → (first bs x ≡ None → known (named (d + 1) own bs) x ≡ None) → (if b.number == x then Some record { binder = b.number; number = d; ty = b.ty; owned = own } else known (named (d + 1) own bs) x) ≡ None
    by true t e f = absurd (cc)
    by false t e f = let g : first bs x ≡ None = cc in let h = f g in cc

-- a binder that is found has the number of its place
pub first_some : (c d : ℕ) (own : Bool) (bs : List Binder) (x : ℕ) (b : Binder) → AreNumbered c d bs → first bs x ≡ Some b → (c ≤ x) × (d + (x - c) < 4294967296) × (known (named d own bs) x ≡ Some record { binder = x; number = d + (x - c); ty = b.ty; owned = own })
first_some c d own [] x b n e = absurd (cc)
first_some c d own (a ∷ bs) x b n e = by (nat_eq a.number x) refl e (λ f. first_some (c + 1) (d + 1) own bs x b n.2 f)
  where
    some_same : {A : Type 0} {u v : A} → Some u ≡ Some v → u ≡ v
    some_same e = cc

    by : (t : Bool) → nat_eq a.number x ≡ t → (if a.number == x then Some a else first bs x) ≡ Some b → (first bs x ≡ Some b → (c + 1 ≤ x) × (d + 1 + (x - (c + 1)) < 4294967296) × (known (named (d + 1) own bs) x ≡ Some record { binder = x; number = d + 1 + (x - (c + 1)); ty = b.ty; owned = own })) → (c ≤ x) × (d + (x - c) < 4294967296) × ((if a.number == x then Some record { binder = a.number; number = d; ty = a.ty; owned = own } else known (named (d + 1) own bs) x) ≡ Some record { binder = x; number = d + (x - c); ty = b.ty; owned = own })
    by true t e f =
        let s : a.number ≡ x = grind (arith, nat_tests) in
        let k = n.0 in
        let l = n.1 in
        let i : a ≡ b = some_same (let g : Some a ≡ Some b = cc in g) in
        let z : d ≡ d + (x - c) = omega arith in
        (omega arith, omega arith, made s z (ap (λ (v : Binder). v.ty) i) (λ g. cc))
      where
        made : a.number ≡ x → d ≡ d + (x - c) → a.ty ≡ b.ty → ((if a.number == x then Some record { binder = a.number; number = d; ty = a.ty; owned = own } else known (named (d + 1) own bs) x) ≡ Some record { binder = a.number; number = d; ty = a.ty; owned = own } → (if a.number == x then Some record { binder = a.number; number = d; ty = a.ty; owned = own } else known (named (d + 1) own bs) x) ≡ Some record { binder = x; number = d + (x - c); ty = b.ty; owned = own }) → (if a.number == x then Some record { binder = a.number; number = d; ty = a.ty; owned = own } else known (named (d + 1) own bs) x) ≡ Some record { binder = x; number = d + (x - c); ty = b.ty; owned = own }
        made s z y k = cc
    by false t e f =
        let g = f (let h : first bs x ≡ Some b = cc in h) in
        let l = g.0 in
        let m = g.1 in
        let z : d + 1 + (x - (c + 1)) ≡ d + (x - c) = omega arith in
        (omega arith, omega arith, (let h : (if a.number == x then Some record { binder = a.number; number = d; ty = a.ty; owned = own } else known (named (d + 1) own bs) x) ≡ known (named (d + 1) own bs) x = cc in h) ∙ g.2 ∙ ap (λ (k : ℕ). Some record { binder = x; number = k; ty = b.ty; owned = own }) z)

-- ---- parameters

parameter_at : (n : ℕ) (ps : List Param) (i x : ℕ) (p : Param) → x ≡ n + i → slice_get ps i ≡ Some p → known (parameters n ps) x ≡ Some record { binder = x; number = x; ty = p.ty; owned = not p.lent }
parameter_at n [] i x p s e = absurd (cc)
parameter_at n (q ∷ ps) zero x p s e =
    let t : n ≡ x = omega arith in
    let i : q ≡ p = some_same e in
    made t i (λ f. cc)
  where
    some_same : {A : Type 0} {u v : A} → Some u ≡ Some v → u ≡ v
    some_same e = cc

    made : n ≡ x → q ≡ p → (nat_eq n x ≡ true → (if n == x then Some record { binder = n; number = n; ty = q.ty; owned = not q.lent } else known (parameters (n + 1) ps) x) ≡ Some record { binder = x; number = x; ty = p.ty; owned = not p.lent }) → (if n == x then Some record { binder = n; number = n; ty = q.ty; owned = not q.lent } else known (parameters (n + 1) ps) x) ≡ Some record { binder = x; number = x; ty = p.ty; owned = not p.lent }
    made t i k = k (grind (arith, nat_tests))
parameter_at n (q ∷ ps) (suc i) x p s e =
    skip (λ t. omega arith) (parameter_at (n + 1) ps i x p (omega arith) e)
  where
    skip : (n ≡ x → ⊥) → known (parameters (n + 1) ps) x ≡ Some record { binder = x; number = x; ty = p.ty; owned = not p.lent } → (if n == x then Some record { binder = n; number = n; ty = q.ty; owned = not q.lent } else known (parameters (n + 1) ps) x) ≡ Some record { binder = x; number = x; ty = p.ty; owned = not p.lent }
    skip t h = let f : nat_eq n x ≡ false = grind (arith, nat_tests) in cc

pub parameter_some : (ps : List Param) (x : ℕ) (p : Param) → slice_get ps x ≡ Some p → known (parameters 0 ps) x ≡ Some record { binder = x; number = x; ty = p.ty; owned = not p.lent }
parameter_some ps x p e = parameter_at 0 ps x x p (omega arith) e

parameter_past : (n : ℕ) (ps : List Param) (i x : ℕ) → x ≡ n + i → slice_get ps i ≡ None → known (parameters n ps) x ≡ None
parameter_past n [] i x s e = refl
parameter_past n (q ∷ ps) zero x s e = absurd (cc)
parameter_past n (q ∷ ps) (suc i) x s e = skip (λ t. omega arith) (parameter_past (n + 1) ps i x (omega arith) e)
  where
    skip : (n ≡ x → ⊥) → known (parameters (n + 1) ps) x ≡ None → (if n == x then Some record { binder = n; number = n; ty = q.ty; owned = not q.lent } else known (parameters (n + 1) ps) x) ≡ None
    skip t h = let f : nat_eq n x ≡ false = grind (arith, nat_tests) in cc

pub parameter_none : (ps : List Param) (x : ℕ) → slice_get ps x ≡ None → known (parameters 0 ps) x ≡ None
parameter_none ps x e = parameter_past 0 ps x x (omega arith) e

-- ---- bindings

-- the binding at place j: its first binder's number in the program
pub record BindingAt (c d : ℕ) (bs : List BoundPart) (j : ℕ) (b : BoundPart) : Type 0 where
  pub first : ℕ
  pub least : c ≤ first
  pub some : 0 < length b.binders
  pub numbered : AreNumbered first (start d bs j) b.binders
  pub room : first + length b.binders ≤ 4294967296
  pub next : start d bs (suc j) ≡ d + (first + length b.binders - c)
  pub bound : start d bs (suc j) ≤ 4294967296

pub start_zero : (d : ℕ) (bs : List BoundPart) → start d bs 0 ≡ d
start_zero d [] = refl
start_zero d (b ∷ bs) = refl

pub binding_at : (c d : ℕ) (bs : List BoundPart) (j : ℕ) (b : BoundPart) → AreBindings c d bs → c ≤ d → slice_get bs j ≡ Some b → BindingAt c d bs j b
binding_at c d [] j b h o e = absurd (cc)
binding_at c d (a ∷ bs) zero b h o e = subst (λ v. BindingAt c d (a ∷ bs) 0 v) (same e) (let k = h.2 in record {
  first = c + within a.bound;
  least = omega arith;
  some = h.0;
  numbered = h.1;
  room = omega arith;
  next = start_zero (d + within a.bound + length a.binders) bs ∙ omega arith;
  bound = let z = start_zero (d + within a.bound + length a.binders) bs in omega arith;
})
  where
    same : {u v : BoundPart} → Some u ≡ Some v → u ≡ v
    same e = cc
binding_at c d (a ∷ bs) (suc j) b h o e =
    let g = binding_at (c + within a.bound + length a.binders) (d + within a.bound + length a.binders) bs j b h.3 (omega arith) e in
    let l = g.least in let n = g.next in
    record {
      first = g.first;
      least = omega arith;
      some = g.some;
      numbered = g.numbered;
      room = g.room;
      next = omega arith;
      bound = g.bound;
    }

get_same : {A B : Type 0} (f : A → B) (xs : List A) (i : ℕ) (x z : A) → i < length xs → x ≡ get_or xs i z → slice_get (map f xs) i ≡ Some (f x)
get_same f [] i x z l e = absurd (omega arith)
get_same f (y ∷ ys) zero x z l e = ap (λ v. Some (f v)) (sym e)
get_same f (y ∷ ys) (suc i) x z l e = get_same f ys i x z (omega arith) e

pub binding_there : (bs : List N.Binding) (j : ℕ) (n : N.Binding) → j < length bs → n ≡ get_or bs j n → slice_get (map V.binding bs) j ≡ Some (V.binding n)
binding_there bs j n l e = get_same V.binding bs j n n l e

pub binders_there : (bs : List N.Binding) (j : ℕ) (n : N.Binding) (b : BoundPart) → j < length bs → n ≡ get_or bs j n → slice_get (map V.binding bs) j ≡ Some b → b.binders ≡ (N.out-Binding n).binders.items
binders_there bs j n b l e g = ap (λ (v : BoundPart). v.binders) (some_one (sym g ∙ binding_there bs j n l e) ∙ binding_is n)

pub some_binding : (bs : List N.Binding) (j : ℕ) → j < length bs → (b : BoundPart) × (slice_get (map V.binding bs) j ≡ Some b)
some_binding bs j l = get_some (map V.binding bs) j (let e = length_map V.binding bs in omega arith)

-- one binding more
take_bindings : (d : ℕ) (bs : List BoundPart) (j : ℕ) (b : BoundPart) (s : Scope) → slice_get bs j ≡ Some b → bindings d (take (suc j) bs) s ≡ binding (start d bs j) true b.binders (bindings d (take j bs) s)
take_bindings d [] j b s e = absurd (cc)
take_bindings d (a ∷ bs) zero b s e = ap (λ (v : BoundPart). binding d true v.binders s) (some_one e)
take_bindings d (a ∷ bs) (suc j) b s e = take_bindings (d + within a.bound + length a.binders) bs j b (binding d true a.binders s) e

-- where a search from the last binding on is: those from place j on don't have x
abbrev pub Searched : ℕ → List BoundPart → ℕ → ℕ → Type 0
Searched d bs x j = (s : Scope) → known (bindings d bs s).variables x ≡ known (bindings d (take j bs) s).variables x

take_length : {A : Type 0} (xs : List A) (i : ℕ) → i ≡ length xs → take i xs ≡ xs
take_length [] zero e = refl
take_length [] (suc i) e = absurd (omega arith)
take_length (x ∷ xs) zero e = absurd (omega arith)
take_length {A} (x ∷ xs) (suc i) e = ap (λ (ys : List A). x ∷ ys) (take_length xs i (omega arith))

pub search_start : (d : ℕ) (bs : List N.Binding) (x j : ℕ) → j ≡ length bs → Searched d (map V.binding bs) x j
search_start d bs x j e s = ap (λ ys. known (bindings d ys s).variables x) (sym (take_length (map V.binding bs) j (e ∙ sym (length_map V.binding bs))))

pub search_step : (d : ℕ) (bs : List N.Binding) (x j : ℕ) → Searched d (map V.binding bs) x j → 0 < j → j ≤ length bs → ((b : BoundPart) → slice_get (map V.binding bs) (j - 1) ≡ Some b → known (named (start d (map V.binding bs) (j - 1)) true b.binders) x ≡ None) → Searched d (map V.binding bs) x (j - 1)
search_step d bs x j h l k n s =
    let b = some_binding bs (j - 1) (omega arith) in
    let e : suc (j - 1) ≡ j = omega arith in
    h s ∙ ap (λ i. known (bindings d (take i (map V.binding bs)) s).variables x) (sym e)
    ∙ ap (λ (v : Scope). known v.variables x) (take_bindings d (map V.binding bs) (j - 1) b.0 s b.1)
    ∙ known_append (named (start d (map V.binding bs) (j - 1)) true b.0.binders) (bindings d (take (j - 1) (map V.binding bs)) s).variables x (n b.0 b.1)

pub search_found : (d : ℕ) (bs : List N.Binding) (x j : ℕ) (v : Known) → Searched d (map V.binding bs) x j → 0 < j → j ≤ length bs → ((b : BoundPart) → slice_get (map V.binding bs) (j - 1) ≡ Some b → known (named (start d (map V.binding bs) (j - 1)) true b.binders) x ≡ Some v) → (s : Scope) → known (bindings d (map V.binding bs) s).variables x ≡ Some v
search_found d bs x j v h l k n s =
    let b = some_binding bs (j - 1) (omega arith) in
    let e : suc (j - 1) ≡ j = omega arith in
    h s ∙ ap (λ i. known (bindings d (take i (map V.binding bs)) s).variables x) (sym e)
    ∙ ap (λ (v : Scope). known v.variables x) (take_bindings d (map V.binding bs) (j - 1) b.0 s b.1)
    ∙ known_front (named (start d (map V.binding bs) (j - 1)) true b.0.binders) (bindings d (take (j - 1) (map V.binding bs)) s).variables x v (n b.0 b.1)

pub search_end : (d : ℕ) (bs : List BoundPart) (x j : ℕ) → Searched d bs x j → j ≤ 0 → (s : Scope) → known (bindings d bs s).variables x ≡ known s.variables x
search_end d bs x j h l s = let e : j ≡ 0 = omega arith in h s ∙ ap (λ i. known (bindings d (take i bs) s).variables x) e ∙ none bs
  where
    none : (bs : List BoundPart) → known (bindings d (take 0 bs) s).variables x ≡ known s.variables x
    none [] = refl
    none (b ∷ bs) = refl

-- ---- scopes at each form

pub fits_clause : (t : D.Scope) (s : Bor D.Scope) (q : Bor P.Pattern) (taken : Bool) (c d : ℕ) → t ≡ SV.Clause s q taken c d → Fits (frames t) → AreNumbered c d (binders (V.pattern q.now)) × (c ≤ d) × Fits (frames s.now)
fits_clause t s q taken c d e h = subst Fits (ap frames e ∙ frames_clause s q taken c d) h

pub fits_bindings : (t : D.Scope) (s : Bor D.Scope) (bs : Bor (List N.Binding)) (c d : ℕ) → t ≡ SV.Bindings s bs c d → Fits (frames t) → AreBindings c d (map V.binding bs.now) × (c ≤ d) × Fits (frames s.now)
fits_bindings t s bs c d e h = subst Fits (ap frames e ∙ frames_bindings s bs c d) h

pub fits_bound : (t : D.Scope) (s : Bor D.Scope) (xs ys : Bor (List ℕ)) → t ≡ SV.Bound s xs ys → Fits (frames t) → IsRising xs.now × IsRising ys.now × Fits (frames s.now)
fits_bound t s xs ys e h = subst Fits (ap frames e ∙ frames_bound s xs ys) h

pub known_header : (t : D.Scope) (ps : Bor (List Param)) (x : ℕ) → t ≡ SV.Header ps → known (scope_of (frames t)).variables x ≡ known (parameters 0 ps.now) x
known_header t ps x e = ap (λ fs. known (scope_of fs).variables x) (ap frames e ∙ frames_header ps)

pub known_clause_some : (t : D.Scope) (s : Bor D.Scope) (q : Bor P.Pattern) (taken : Bool) (c d x : ℕ) (v : Known) → t ≡ SV.Clause s q taken c d → known (named d taken (binders (V.pattern q.now))) x ≡ Some v → known (scope_of (frames t)).variables x ≡ Some v
known_clause_some t s q taken c d x v e h = ap (λ fs. known (scope_of fs).variables x) (ap frames e ∙ frames_clause s q taken c d) ∙ known_front (named d taken (binders (V.pattern q.now))) (scope_of (frames s.now)).variables x v h

pub known_clause_none : (t : D.Scope) (s : Bor D.Scope) (q : Bor P.Pattern) (taken : Bool) (c d x : ℕ) → t ≡ SV.Clause s q taken c d → known (named d taken (binders (V.pattern q.now))) x ≡ None → known (scope_of (frames t)).variables x ≡ known (scope_of (frames s.now)).variables x
known_clause_none t s q taken c d x e h = ap (λ fs. known (scope_of fs).variables x) (ap frames e ∙ frames_clause s q taken c d) ∙ known_append (named d taken (binders (V.pattern q.now))) (scope_of (frames s.now)).variables x h

pub known_bindings : (t : D.Scope) (s : Bor D.Scope) (bs : Bor (List N.Binding)) (c d x : ℕ) → t ≡ SV.Bindings s bs c d → known (scope_of (frames t)).variables x ≡ known (bindings d (map V.binding bs.now) (scope_of (frames s.now))).variables x
known_bindings t s bs c d x e = ap (λ fs. known (scope_of fs).variables x) (ap frames e ∙ frames_bindings s bs c d)

pub known_bound : (t : D.Scope) (s : Bor D.Scope) (xs ys : Bor (List ℕ)) (x : ℕ) → t ≡ SV.Bound s xs ys → known (scope_of (frames t)).variables x ≡ known (scope_of (frames s.now)).variables x
known_bound t s xs ys x e = ap (λ fs. known (scope_of fs).variables x) (ap frames e ∙ frames_bound s xs ys)

-- ---- what lets borrow

bindings_lend : (d : ℕ) (bs : List BoundPart) (s : Scope) (x : ℕ) → (bindings d bs s).lent x ≡ s.lent x
bindings_lend d [] s x = refl
bindings_lend d (b ∷ bs) s x = bindings_lend (d + within b.bound + length b.binders) bs (binding d true b.binders s) x

pub lent_header : (t : D.Scope) (ps : Bor (List Param)) (x : ℕ) → t ≡ SV.Header ps → (scope_of (frames t)).lent x ≡ false
lent_header t ps x e = ap (λ fs. (scope_of fs).lent x) (ap frames e ∙ frames_header ps)

pub lent_clause : (t : D.Scope) (s : Bor D.Scope) (q : Bor P.Pattern) (taken : Bool) (c d x : ℕ) → t ≡ SV.Clause s q taken c d → (scope_of (frames t)).lent x ≡ (scope_of (frames s.now)).lent x
lent_clause t s q taken c d x e = ap (λ fs. (scope_of fs).lent x) (ap frames e ∙ frames_clause s q taken c d)

pub lent_bindings : (t : D.Scope) (s : Bor D.Scope) (bs : Bor (List N.Binding)) (c d x : ℕ) → t ≡ SV.Bindings s bs c d → (scope_of (frames t)).lent x ≡ (scope_of (frames s.now)).lent x
lent_bindings t s bs c d x e = ap (λ fs. (scope_of fs).lent x) (ap frames e ∙ frames_bindings s bs c d) ∙ bindings_lend d (map V.binding bs.now) (scope_of (frames s.now)) x

or_false : (a b : Bool) → b ≡ false → (a || b) ≡ a
or_false true b e = refl
or_false false b e = e

pub lent_here : (t : D.Scope) (s : Bor D.Scope) (xs ys : Bor (List ℕ)) (x : ℕ) → t ≡ SV.Bound s xs ys → (has xs.now x && not (has ys.now x)) ≡ true → (scope_of (frames t)).lent x ≡ true
lent_here t s xs ys x e h = ap (λ fs. (scope_of fs).lent x) (ap frames e ∙ frames_bound s xs ys) ∙ or_true ((scope_of (frames s.now)).lent x) (has xs.now x && not (has ys.now x)) h

pub lent_outer : (t : D.Scope) (s : Bor D.Scope) (xs ys : Bor (List ℕ)) (x : ℕ) → t ≡ SV.Bound s xs ys → (has xs.now x && not (has ys.now x)) ≡ false → (scope_of (frames t)).lent x ≡ (scope_of (frames s.now)).lent x
lent_outer t s xs ys x e h = ap (λ fs. (scope_of fs).lent x) (ap frames e ∙ frames_bound s xs ys) ∙ or_false ((scope_of (frames s.now)).lent x) (has xs.now x && not (has ys.now x)) h

-- ---- whether a number is in a list

pub has_place : (xs : List ℕ) (i x : ℕ) → i < length xs → get_or xs i 0 ≡ x → has xs x ≡ true
has_place [] i x l e = absurd (omega arith)
has_place (y ∷ ys) zero x l e = let f : nat_eq y x ≡ true = grind (arith, nat_tests) in cc
has_place (y ∷ ys) (suc i) x l e = let h = has_place ys i x (omega arith) e in or_true (nat_eq y x) (has ys x) h

pub has_none : (xs : List ℕ) (x : ℕ) → given x xs ≡ 0 → has xs x ≡ false
has_none [] x e = refl
has_none (y ∷ ys) x e = by (nat_eq y x) refl (λ f. has_none ys x f)
  where
    by : (b : Bool) → nat_eq y x ≡ b → (given x ys ≡ 0 → has ys x ≡ false) → has (y ∷ ys) x ≡ false
    by true t f = absurd (let s : y ≡ x = grind (arith, nat_tests) in let g = given_here x ys in let h = ap (λ v. given x (v ∷ ys)) s in omega arith)
    by false t f = let s : x ≡ y → ⊥ = λ q. grind (arith, nat_tests) in let o = given_other x y ys s in let h = f (omega arith) in cc

-- ---- the binding at a place, by its binders and the number of the first one

first_number : (c d : ℕ) (bs : List Binder) (f : ℕ) → AreNumbered c d bs → 0 < length bs → ((z : Binder) → (get_or bs 0 z).number ≡ f) → f ≡ c
first_number c d [] f h l e = absurd (omega arith)
first_number c d (b ∷ bs) f h l e = sym (e b) ∙ h.0

pub record StartsAt (c d : ℕ) (bs : List N.Binding) (j : ℕ) (own : List Binder) : Type 0 where
  pub some : 0 < length own
  pub first : ℕ
  pub is_first : (f : ℕ) → ((z : Binder) → (get_or own 0 z).number ≡ f) → f ≡ first
  pub numbered : AreNumbered first (start d (map V.binding bs) j) own
  pub least : c ≤ first
  pub room : first + length own ≤ 4294967296
  pub next : start d (map V.binding bs) (suc j) ≡ d + (first + length own - c)
  pub bound : start d (map V.binding bs) (suc j) ≤ 4294967296

pub starts_at : (c d : ℕ) (bs : List N.Binding) (j : ℕ) (own : List Binder) → AreBindings c d (map V.binding bs) → c ≤ d → j < length bs → ((b : BoundPart) → slice_get (map V.binding bs) j ≡ Some b → b.binders ≡ own) → StartsAt c d bs j own
starts_at c d bs j own h o l e =
    let b = some_binding bs j l in
    let g = binding_at c d (map V.binding bs) j b.0 h o b.1 in
    subst (λ bs'. StartsAt c d bs j bs') (e b.0 b.1) record {
      some = g.some;
      first = g.first;
      is_first = λ f k. first_number g.first (start d (map V.binding bs) j) b.0.binders f g.numbered g.some k;
      numbered = g.numbered;
      least = g.least;
      room = g.room;
      next = g.next;
      bound = g.bound;
    }

-- ---- the only binding that can have a number

named_none : (c d e : ℕ) (own : Bool) (bs : List Binder) (x : ℕ) → AreNumbered c e bs → (x < c) ⊎ (c + length bs ≤ x) → known (named d own bs) x ≡ None
named_none c d e own [] x h l = refl
named_none c d e own (b ∷ bs) x h l =
    let k = h.0 in
    let n : b.number ≡ x → ⊥ = λ q. elim l as (λ z. ⊥) [ inl m ↦ omega arith | inr m ↦ omega arith ] in
    let t : nat_eq b.number x ≡ false = grind (arith, nat_tests) in
    let r = named_none (c + 1) (d + 1) (e + 1) own bs x h.2 (elim l as (λ z. (x < c + 1) ⊎ (c + 1 + length bs ≤ x)) [ inl m ↦ inl (omega arith) | inr m ↦ inr (omega arith) ]) in cc

-- binders that a number isn't among
bound_none : (c d e : ℕ) (bs : List Binder) (s : Scope) (x : ℕ) → AreNumbered c e bs → (x < c) ⊎ (c + length bs ≤ x) → known (binding d true bs s).variables x ≡ known s.variables x
bound_none c d e bs s x h l = known_append (named d true bs) s.variables x (named_none c d e true bs x h l)

none_from : (c d : ℕ) (bs : List BoundPart) (x : ℕ) → AreBindings c d bs → x < c → (s : Scope) → known (bindings d bs s).variables x ≡ known s.variables x
none_from c d [] x h l s = refl
none_from c d (b ∷ bs) x h l s =
    none_from (c + within b.bound + length b.binders) (d + within b.bound + length b.binders) bs x h.3 (omega arith) (binding d true b.binders s)
    ∙ bound_none (c + within b.bound) d d b.binders s x h.1 (inl (omega arith))

same_first : (f g d e : ℕ) (bs : List Binder) → AreNumbered f d bs → AreNumbered g e bs → 0 < length bs → f ≡ g
same_first f g d e [] h k l = absurd (omega arith)
same_first f g d e (b ∷ bs) h k l = sym h.0 ∙ k.0

-- from a binding on whose first number is greater, none has it
after_none : (c d : ℕ) (bs : List BoundPart) (m x f e : ℕ) (b : BoundPart) → AreBindings c d bs → slice_get bs m ≡ Some b → AreNumbered f e b.binders → 0 < length b.binders → x < f → (s : Scope) → known (bindings d bs s).variables x ≡ known (bindings d (take m bs) s).variables x
after_none c d [] m x f e b h k n z l s = absurd (cc)
after_none c d (a ∷ bs) zero x f e b h k n z l s =
    let i : a ≡ b = some_one k in
    let g : f ≡ c + within a.bound = same_first f (c + within a.bound) e d a.binders (subst (λ (v : BoundPart). AreNumbered f e v.binders) (sym i) n) h.1 h.0 in
    none_from (c + within a.bound + length a.binders) (d + within a.bound + length a.binders) bs x h.3 (omega arith) (binding d true a.binders s)
    ∙ bound_none (c + within a.bound) d d a.binders s x h.1 (inl (omega arith))
after_none c d (a ∷ bs) (suc m) x f e b h k n z l s = after_none (c + within a.bound + length a.binders) (d + within a.bound + length a.binders) bs m x f e b h.3 k n z l (binding d true a.binders s)

least_first : (c d : ℕ) (bs : List BoundPart) (m f e : ℕ) (b : BoundPart) → AreBindings c d bs → slice_get bs m ≡ Some b → AreNumbered f e b.binders → 0 < length b.binders → c ≤ f
least_first c d [] m f e b h k n z = absurd (cc)
least_first c d (a ∷ bs) zero f e b h k n z =
    let i : a ≡ b = some_one k in
    let g : f ≡ c + within a.bound = same_first f (c + within a.bound) e d a.binders (subst (λ (v : BoundPart). AreNumbered f e v.binders) (sym i) n) h.1 h.0 in omega arith
least_first c d (a ∷ bs) (suc m) f e b h k n z = let g = least_first (c + within a.bound + length a.binders) (d + within a.bound + length a.binders) bs m f e b h.3 k n z in omega arith

-- and before a binding whose first number isn't greater
before_none : (c d : ℕ) (bs : List BoundPart) (m x f e : ℕ) (b : BoundPart) → AreBindings c d bs → slice_get bs m ≡ Some b → AreNumbered f e b.binders → 0 < length b.binders → f ≤ x → (s : Scope) → known (bindings d (take m bs) s).variables x ≡ known s.variables x
before_none c d [] m x f e b h k n z l s = absurd (cc)
before_none c d (a ∷ bs) zero x f e b h k n z l s = refl
before_none c d (a ∷ bs) (suc m) x f e b h k n z l s =
    let g = least_first (c + within a.bound + length a.binders) (d + within a.bound + length a.binders) bs m f e b h.3 k n z in
    before_none (c + within a.bound + length a.binders) (d + within a.bound + length a.binders) bs m x f e b h.3 k n z l (binding d true a.binders s)
    ∙ bound_none (c + within a.bound) d d a.binders s x h.1 (inr (omega arith))

pub begun_after : (c d : ℕ) (bs : List N.Binding) (m x f : ℕ) (own : List Binder) → AreBindings c d (map V.binding bs) → c ≤ d → m < length bs → ((b : BoundPart) → slice_get (map V.binding bs) m ≡ Some b → b.binders ≡ own) → ((z : Binder) → (get_or own 0 z).number ≡ f) → x < f → (s : Scope) → known (bindings d (map V.binding bs) s).variables x ≡ known (bindings d (take m (map V.binding bs)) s).variables x
begun_after c d bs m x f own h o l e k q s =
    let b = some_binding bs m l in
    let g = starts_at c d bs m own h o l e in
    let i = g.is_first f k in
    after_none c d (map V.binding bs) m x g.first (start d (map V.binding bs) m) b.0 h b.1 (subst (AreNumbered g.first (start d (map V.binding bs) m)) (sym (e b.0 b.1)) g.numbered) (subst (λ (ys : List Binder). 0 < length ys) (sym (e b.0 b.1)) g.some) (omega arith) s

pub begun_before : (c d : ℕ) (bs : List N.Binding) (m x f : ℕ) (own : List Binder) → AreBindings c d (map V.binding bs) → c ≤ d → m < length bs → ((b : BoundPart) → slice_get (map V.binding bs) m ≡ Some b → b.binders ≡ own) → ((z : Binder) → (get_or own 0 z).number ≡ f) → f ≤ x → (s : Scope) → known (bindings d (take m (map V.binding bs)) s).variables x ≡ known s.variables x
begun_before c d bs m x f own h o l e k q s =
    let b = some_binding bs m l in
    let g = starts_at c d bs m own h o l e in
    let i = g.is_first f k in
    before_none c d (map V.binding bs) m x g.first (start d (map V.binding bs) m) b.0 h b.1 (subst (AreNumbered g.first (start d (map V.binding bs) m)) (sym (e b.0 b.1)) g.numbered) (subst (λ (ys : List Binder). 0 < length ys) (sym (e b.0 b.1)) g.some) (omega arith) s

-- ---- the first of some binders

pub first_front : (us vs : List Binder) (x : ℕ) (b : Binder) → first us x ≡ Some b → first (us ++ vs) x ≡ Some b
first_front [] vs x b e = absurd (cc)
first_front (u ∷ us) vs x b e = by (nat_eq u.number x) refl e (λ f. first_front us vs x b f)
  where
    by : (t : Bool) → nat_eq u.number x ≡ t → (if u.number == x then Some u else first us x) ≡ Some b → (first us x ≡ Some b → first (us ++ vs) x ≡ Some b) → (if u.number == x then Some u else first (us ++ vs) x) ≡ Some b
    by true t e f = cc
    by false t e f = let g : first us x ≡ Some b = cc in let h = f g in cc

pub first_append : (us vs : List Binder) (x : ℕ) → first us x ≡ None → first (us ++ vs) x ≡ first vs x
first_append [] vs x e = refl
first_append (u ∷ us) vs x e = by (nat_eq u.number x) refl e (λ f. first_append us vs x f)
  where
    by : (t : Bool) → nat_eq u.number x ≡ t → (if u.number == x then Some u else first us x) ≡ None → (first us x ≡ None → first (us ++ vs) x ≡ first vs x) → (if u.number == x then Some u else first (us ++ vs) x) ≡ first vs x
    by true t e f = absurd (cc)
    by false t e f = let g : first us x ≡ None = cc in let h = f g in cc

pub patterns_found : (ps : List P.Pattern) (i x : ℕ) (p : P.Pattern) (b : Binder) → i < length ps → p ≡ get_or ps i p → first (binders (V.pattern p)) x ≡ Some b → first (binders_all (V.patterns (drop i ps))) x ≡ Some b
patterns_found ps i x p b l e f = ap (λ qs. first (binders_all (V.patterns qs)) x) (drop_item ps i p p l e) ∙ first_front (binders (V.pattern p)) (binders_all (V.patterns (drop (i + 1) ps))) x b f

pub patterns_skipped : (ps : List P.Pattern) (i x : ℕ) (p : P.Pattern) → i < length ps → p ≡ get_or ps i p → first (binders (V.pattern p)) x ≡ None → first (binders_all (V.patterns (drop i ps))) x ≡ first (binders_all (V.patterns (drop (i + 1) ps))) x
patterns_skipped ps i x p l e f = ap (λ qs. first (binders_all (V.patterns qs)) x) (drop_item ps i p p l e) ∙ first_append (binders (V.pattern p)) (binders_all (V.patterns (drop (i + 1) ps))) x f

pub ruleset lent_in = (lent_header, lent_clause, lent_bindings, lent_here, lent_outer, fits_clause, fits_bindings, fits_bound)

pub ruleset has_in = (has_place, has_none)

pub ruleset known_in = (known_header, known_clause_some, known_clause_none, known_bindings, known_bound, fits_clause, fits_bindings, fits_bound)

pub ruleset parameters_in = (parameter_some, parameter_none)

pub ruleset first_in = (first_none, first_some)

pub ruleset searching = (search_start, search_step, search_found, search_end)
