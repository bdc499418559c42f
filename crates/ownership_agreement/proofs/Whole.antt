-- No rule on ownership is broken in the shape just where the term is clean.
use Rattle.std.proofs.Common.{◌≡◌, ℕ, zero, suc, ◌≤◌, ◌<◌, refl, sym, ap, subst, ◌∙◌, List, [], ◌∷◌, Bool, true, false, not, arith}
use Rattle.std.specs.Prelude.{◌↔◌, ◌==◌, ◌||◌, if◌then◌else◌}
use Rattle.std.proofs.lemmas.Bool.Decides.{nat_tests}
use Rattle.credit_check.specs.fip_language.declared.Place.{Place}
use Rattle.credit_check.specs.fip_language.declared.rule.Rule.TheVariants.{E55}
use Rattle.credit_check.specs.fip_trees.declared.program.Binder.{Binder}
use Rattle.credit_check.specs.fip_trees.Tree.{Name, Argument, Expression, Give, Tuple, Operation, Call, Match, Nested, Block, Last, Let, Clauses, NoClauses, MoreClauses}
use Rattle.fip_rules.specs.declared.scope.Ownership.TheVariants.{Scalar, Owned}
use Rattle.fip_rules.specs.Marks.{Mark}
use Rattle.fip_rules.specs.Shape as S
use Rattle.fip_rules.specs.Rules.{owns, Misses, Ordered}
use Rattle.fip_rules.specs.World.{World, weaker}
use Rattle.fip_rules.specs.Shapes as H
use Rattle.fip_rules.specs.Shapes.{Names, token, owning, lending, passing, passing_all, binds, following, taking, binders, clause_shape, shape, shape_block, shape_clauses}
use Rattle.fip_rules.proofs.Agree.{next_le, misses, missing}
use Rattle.fip_rules.proofs.Orders.{next_passing}
use Rattle.ownership_calculus.specs.Terms as T
use Rattle.ownership_calculus.specs.Terms.{has, Own, Term}
use Rattle.ownership_calculus.specs.Clean as C
use Rattle.ownership_calculus.specs.Clean.{used_up, asks, fewest}
use Rattle.ownership_agreement.specs.Good as G
use Rattle.ownership_agreement.specs.Mix.{mix}
use Rattle.ownership_agreement.specs.Bodies.{Scalars, value, passed, variables, entering, nodes, inside, matched, term, term_block, clauses}
use Rattle.ownership_agreement.proofs.Basics.{pos, past_inside, Above, all_inside, ordered_inside, done_ordered, same_number}
use Rattle.ownership_agreement.proofs.Owning.{arg_owns, expr_owns}
use Rattle.ownership_agreement.proofs.Always.{got, block_got}
use Rattle.ownership_agreement.proofs.Bridge.{same, spent_mix, lending_mix, spent_none, both_is, arg_is, args_is, passed_is, after_lent}
use Rattle.ownership_agreement.proofs.Binders.{UsedAll, binds_is, used_lent, owned_seen}
use Rattle.fip_rules.proofs.fip_base.fip_language.Facts.{equal_itself as same_test, less_of_not as room, or_last as or_right, true_of_not_false as not_false}
use Rattle.fip_rules.proofs.Lists.{turned as back}
use Rattle.ownership_agreement.proofs.Parameters.{one_pos, pos_one, self_has}

under : (sc : Scalars) (n x : ℕ) → Above sc n → sc x ≡ false → x < n
under sc n x f h = room x n (λ l. let z = f x l in absurd (cc))

-- ---- each owned binder is used

first_used : (s c : Bool) (y x : ℕ) (ys : List ℕ) (e : S.Shape) → (y == x) ≡ c → G.IsUsed true (if s then Scalar else Owned) y e → has (if s then ys else y ∷ ys) x ≡ true → (has ys x ≡ true → Misses x e → ⊥) → Misses x e → ⊥
first_used true c y x ys e f u h r m = r h m
first_used false true y x ys e f u h r m = u refl (subst (λ z. Misses z e) (sym (same_number y x f)) m)
first_used false false y x ys e f u h r m = r (sym (ap (λ q. q || has ys x) f) ∙ h) m

none_missed : (w : World) (n : ℕ) (bs : List Binder) (e : S.Shape) → UsedAll true w true n bs e → (x : ℕ) → has (variables w n bs) x ≡ true → Misses x e → ⊥
none_missed w n [] e u x h m = absurd (cc)
none_missed w n (b ∷ bs) e u x h m = first_used (w.scalar b.ty) (n == x) n x (variables w (suc n) bs) e refl u.0 h (none_missed w (suc n) bs e u.1 x) m

more_has : (s : Bool) (y x : ℕ) (ys : List ℕ) → has ys x ≡ true → has (if s then ys else y ∷ ys) x ≡ true
more_has true y x ys h = h
more_has false y x ys h = or_right (y == x) (has ys x) h

used_first : (s : Bool) (y : ℕ) (ys : List ℕ) (e : S.Shape) → ((x : ℕ) → has (if s then ys else y ∷ ys) x ≡ true → Misses x e → ⊥) → G.IsUsed true (if s then Scalar else Owned) y e
used_first true y ys e h = tt
used_first false y ys e h = λ k m. h y (self_has y ys) m

all_used : (w : World) (n : ℕ) (bs : List Binder) (e : S.Shape) → ((x : ℕ) → has (variables w n bs) x ≡ true → Misses x e → ⊥) → UsedAll true w true n bs e
all_used w n [] e h = tt
all_used w n (b ∷ bs) e h = (used_first (w.scalar b.ty) n (variables w (suc n) bs) e h, all_used w (suc n) bs e (λ x g m. h x (more_has (w.scalar b.ty) n x (variables w (suc n) bs) g) m))

free_first : (s : Bool) (y : ℕ) (e : S.Shape) → G.IsUsed false (if s then Scalar else Owned) y e
free_first true y e = tt
free_first false y e = λ k m. absurd (cc)

free_all : (w : World) (n : ℕ) (bs : List Binder) (e : S.Shape) → UsedAll false w true n bs e
free_all w n [] e = tt
free_all w n (b ∷ bs) e = (free_first (w.scalar b.ty) n e, free_all w (suc n) bs e)

used_is : (fip : Bool) (w : World) (n : ℕ) (bs : List Binder) (e : S.Shape) (t : Term) → ((x : ℕ) → has (variables w n bs) x ≡ true → got x e ≡ pos (fewest x t)) → UsedAll fip w true n bs e ↔ C.AllUsed fip (variables w n bs) t
used_is true w n bs e t f = (
  λ u. λ x h. pos_one (fewest x t) (sym (f x h) ∙ not_false (got x e) (λ g. none_missed w n bs e u x h (misses x e g))),
  λ u. all_used w n bs e (λ x h m. let a = f x h in let b = one_pos (fewest x t) (u x h) in let c = missing x e m in absurd (cc)),
)
used_is false w n bs e t f = (λ u. tt, λ u. free_all w n bs e)

-- ---- clauses

along : (A B X : Type 0) → (A ↔ B) → (B ↔ X) → A ↔ X
along A B X f g = (λ h. g.0 (f.0 h), λ h. f.1 (g.1 h))

call_is : (fip b : Bool) (s : ℕ → G.State) (p : Place) (n : Name) (X : Type 0) (e : S.Shape) → (X ↔ G.Good fip s e) → ((not b ≡ true) × X) ↔ (G.Good fip s (if b then S.Fault E55 (token p n) else S.Skip) × G.Good fip (λ x. G.spent (owns x (if b then S.Fault E55 (token p n) else S.Skip)) (s x)) e)
call_is fip true s p n X e f = (λ h. absurd (let z = h.0 in cc), λ h. absurd h.0)
call_is fip false s p n X e f =
    let q = same (λ x. G.spent false (s x)) s (λ x. spent_none (s x)) in
    (λ h. (tt, subst (λ g. G.Good fip g e) (sym q) (f.0 h.1)), λ h. (refl, f.1 (subst (λ g. G.Good fip g e) q h.1)))

match_is : (fip : Bool) (w : World) (sc : Scalars) (s : ℕ → C.Status) (ms : List Mark) (b : Bool) (a : Argument) (D : S.Shape) (cs : T.Clauses) → (b ≡ true → (t : ℕ → C.Status) → G.Good fip (mix sc t) D ↔ C.CleanTaken fip t cs) → (b ≡ false → (t : ℕ → C.Status) → G.Good fip (mix sc t) D ↔ C.CleanLent fip t cs) → C.Clean fip s (matched w sc ms b a cs) ↔ G.Good fip (mix sc s) (S.Then (passing w ms (not b) a) D)
match_is fip w sc s ms true a D cs f g =
    let t : ℕ → C.Status = λ x. C.after (s x) (used_up (value sc ms a) (Own x)) in
    let p = same (λ x. G.spent (owns x (owning ms a)) (mix sc s x)) (mix sc t) (λ x. spent_mix (sc x) (owns x (owning ms a)) (s x) (used_up (value sc ms a) (Own x)) (arg_owns x sc ms a)) in
    both_is (C.CleanValue s (value sc ms a)) (G.Good fip (mix sc s) (owning ms a)) (C.CleanTaken fip t cs) (G.Good fip (λ x. G.spent (owns x (owning ms a)) (mix sc s x)) D) (arg_is fip sc s ms a)
    (subst (λ q. C.CleanTaken fip t cs ↔ G.Good fip q D) (sym p) (back (G.Good fip (mix sc t) D) (C.CleanTaken fip t cs) (f refl t)))
match_is fip w sc s ms false a D cs f g = after_lent fip w sc s ms a (C.CleanLent fip s cs) D (back (G.Good fip (mix sc s) D) (C.CleanLent fip s cs) (g refl s))

-- the shape of a clause, and the term of its body
abbrev clause_of : World → Bool → Names → List Binder → Block → S.Shape
clause_of w taken c bs body = clause_shape c (taking w taken bs) (λ d. shape_block w d body)

abbrev body_of : World → Scalars → Bool → Names → List Binder → Block → Term
body_of w sc taken c bs body = term_block w (entering w c.next sc bs) (inside w taken c bs) body

abbrev Agrees : Bool → World → Names → Scalars → (ℕ → C.Status) → Block → Type 0
Agrees fip w c sc s b = C.Clean fip s (term_block w sc c b) ↔ G.Good fip (mix sc s) (shape_block w c b)

-- binders that are owned
taken_is : (fip : Bool) (w : World) (c : Names) (sc : Scalars) (s : ℕ → C.Status) (bs : List Binder) (body : Block) → Ordered c.next (clause_of w true c bs body) → Agrees fip w (inside w true c bs) (entering w c.next sc bs) (C.binding (variables w c.next bs) true s) body → G.Good fip (mix sc s) (clause_of w true c bs body) ↔ (C.AllUsed fip (variables w c.next bs) (body_of w sc true c bs body) × C.Clean fip (C.binding (variables w c.next bs) true s) (body_of w sc true c bs body))
taken_is fip w c sc s bs body o f =
    let d = inside w true c bs in
    let e = shape_block w d body in
    let t = body_of w sc true c bs body in
    let u : ℕ → C.Status = C.binding (variables w c.next bs) true s in
    along (G.Good fip (mix sc s) (clause_of w true c bs body)) (UsedAll fip w true c.next bs e × G.Good fip (mix (entering w c.next sc bs) u) e) (C.AllUsed fip (variables w c.next bs) t × C.Clean fip u t)
    (binds_is fip w true c.next sc s bs e)
    (both_is (UsedAll fip w true c.next bs e) (C.AllUsed fip (variables w c.next bs) t) (G.Good fip (mix (entering w c.next sc bs) u) e) (C.Clean fip u t)
    (used_is fip w c.next bs e t (λ x h. let z = owned_seen w sc c.next x bs h in let l = z.1 in let m = past_inside w true c bs in block_got w d x (entering w c.next sc bs) body (ordered_inside w true c bs body o) (omega arith) z.0))
    (back (C.Clean fip u t) (G.Good fip (mix (entering w c.next sc bs) u) e) f))

lent_is : (fip : Bool) (w : World) (c : Names) (sc : Scalars) (s : ℕ → C.Status) (bs : List Binder) (body : Block) → Agrees fip w (inside w false c bs) (entering w c.next sc bs) (C.binding (variables w c.next bs) false s) body → G.Good fip (mix sc s) (clause_of w false c bs body) ↔ C.Clean fip (C.binding (variables w c.next bs) false s) (body_of w sc false c bs body)
lent_is fip w c sc s bs body f = let e = shape_block w (inside w false c bs) body in let r = binds_is fip w false c.next sc s bs e in (λ h. f.1 (r.0 h).1, λ h. r.1 (used_lent fip w c.next bs e, f.0 h))

-- the clauses after one
abbrev LaterTaken : Bool → World → Names → Scalars → (ℕ → C.Status) → Clauses → Type 0
LaterTaken fip w c sc s NoClauses = Unit {0}
LaterTaken fip w c sc s (MoreClauses q body cs) = (C.AllUsed fip (variables w c.next (binders q)) (body_of w sc true c (binders q) body) × C.Clean fip (C.binding (variables w c.next (binders q)) true s) (body_of w sc true c (binders q) body)) × LaterTaken fip w (following c (clause_of w true c (binders q) body)) sc s cs

abbrev LaterLent : Bool → World → Names → Scalars → (ℕ → C.Status) → Clauses → Type 0
LaterLent fip w c sc s NoClauses = Unit {0}
LaterLent fip w c sc s (MoreClauses q body cs) = C.Clean fip (C.binding (variables w c.next (binders q)) false s) (body_of w sc false c (binders q) body) × LaterLent fip w (following c (clause_of w false c (binders q) body)) sc s cs

later_taken : (fip : Bool) (w : World) (c : Names) (sc : Scalars) (s : ℕ → C.Status) (ys ks : List ℕ) (e : Term) (cs : Clauses) → C.CleanTaken fip s (clauses w sc true c ys ks e cs) ↔ ((C.AllUsed fip ys e × C.Clean fip (C.binding ys true s) e) × LaterTaken fip w c sc s cs)
later_taken fip w c sc s ys ks e NoClauses = (λ h. (h, tt), λ h. h.0)
later_taken fip w c sc s ys ks e (MoreClauses q body cs) =
    let r = later_taken fip w (following c (clause_of w true c (binders q) body)) sc s (variables w c.next (binders q)) (nodes q) (body_of w sc true c (binders q) body) cs in
    (λ h. ((h.0, h.1), r.0 h.2), λ h. (h.0.0, h.0.1, r.1 h.1))

later_lent : (fip : Bool) (w : World) (c : Names) (sc : Scalars) (s : ℕ → C.Status) (ys ks : List ℕ) (e : Term) (cs : Clauses) → C.CleanLent fip s (clauses w sc false c ys ks e cs) ↔ (C.Clean fip (C.binding ys false s) e × LaterLent fip w c sc s cs)
later_lent fip w c sc s ys ks e NoClauses = (λ h. (h, tt), λ h. h.0)
later_lent fip w c sc s ys ks e (MoreClauses q body cs) =
    let r = later_lent fip w (following c (clause_of w false c (binders q) body)) sc s (variables w c.next (binders q)) (nodes q) (body_of w sc false c (binders q) body) cs in
    (λ h. (h.0, r.0 h.1), λ h. (h.0, r.1 h.1))

mutual
  pub expr_is : (fip : Bool) (w : World) (c : Names) (sc : Scalars) (s : ℕ → C.Status) (e : Expression) → Ordered c.next (shape w c e) → Above sc c.next → C.Clean fip s (term w sc c e) ↔ G.Good fip (mix sc s) (shape w c e)
  expr_is fip w c sc s (Give a) o f = (λ h. (arg_is fip sc s c.marks a).0 h.0, λ h. ((arg_is fip sc s c.marks a).1 h, tt))
  expr_is fip w c sc s (Tuple p as') o f = args_is fip sc s c.marks as'
  expr_is fip w c sc s (Operation q p a b) o f =
      let t : ℕ → C.Status = λ x. C.after (s x) (used_up (value sc c.marks a) (Own x)) in
      let r = same (λ x. G.spent (owns x (owning c.marks a)) (mix sc s x)) (mix sc t) (λ x. spent_mix (sc x) (owns x (owning c.marks a)) (s x) (used_up (value sc c.marks a) (Own x)) (arg_owns x sc c.marks a)) in (
        λ h. ((arg_is fip sc s c.marks a).0 h.0, subst (λ g. G.Good fip g (owning c.marks b)) (sym r) ((arg_is fip sc t c.marks b).0 h.1.0)),
        λ h. ((arg_is fip sc s c.marks a).1 h.0, ((arg_is fip sc t c.marks b).1 (subst (λ g. G.Good fip g (owning c.marks b)) r h.1), tt)),
      )
  expr_is fip w c sc s (Call g n p as') o f = call_is fip (weaker w g) (mix sc s) p n (C.CleanPassed s (passed w sc c.marks g 0 as')) (passing_all w c.marks g 0 as') (passed_is fip w sc s c.marks g 0 as')
  expr_is fip w c sc s (Nested b) o f = block_is fip w c sc s b o f
  expr_is fip w c sc s (Match k t p a q body cs) o f =
      let b = H.takes w k t in
      let P = passing w c.marks (not b) a in
      let D : Bool → S.Shape = λ r. shape_clauses w r c (clause_of w r c (binders q) body) cs in
      let od : Ordered c.next (D b) = subst (λ n. Ordered n (D b)) (next_passing c.next w c.marks (not b) a) o.1 in
      let ys = variables w c.next (binders q) in
      let cases : Bool → T.Clauses = λ r. clauses w sc r (following c (clause_of w r c (binders q) body)) ys (nodes q) (body_of w sc r c (binders q) body) cs in
      match_is fip w sc s c.marks b a (D b) (cases b)
      (λ z. subst (λ r. Ordered c.next (D r) → (u : ℕ → C.Status) → G.Good fip (mix sc u) (D r) ↔ C.CleanTaken fip u (cases r)) (sym z)
      (λ og u.
      let oc = done_ordered w true c (clause_of w true c (binders q) body) cs og in
      let m = taken_is fip w c sc u (binders q) body oc (block_is fip w (inside w true c (binders q)) (entering w c.next sc (binders q)) (C.binding ys true u) body (ordered_inside w true c (binders q) body oc) (all_inside w true c sc (binders q) f)) in
      let r = taken_cases fip w c sc u (clause_of w true c (binders q) body) cs og f in
      let l = later_taken fip w (following c (clause_of w true c (binders q) body)) sc u ys (nodes q) (body_of w sc true c (binders q) body) cs in
      (λ h. let z = r.0 h in l.1 (m.0 z.0, z.1), λ h. let z = l.0 h in r.1 (m.1 z.0, z.1))) od)
      (λ z. subst (λ r. Ordered c.next (D r) → (u : ℕ → C.Status) → G.Good fip (mix sc u) (D r) ↔ C.CleanLent fip u (cases r)) (sym z)
      (λ og u.
      let oc = done_ordered w false c (clause_of w false c (binders q) body) cs og in
      let m = lent_is fip w c sc u (binders q) body (block_is fip w (inside w false c (binders q)) (entering w c.next sc (binders q)) (C.binding ys false u) body (ordered_inside w false c (binders q) body oc) (all_inside w false c sc (binders q) f)) in
      let r = lent_cases fip w c sc u (clause_of w false c (binders q) body) cs og f in
      let l = later_lent fip w (following c (clause_of w false c (binders q) body)) sc u ys (nodes q) (body_of w sc false c (binders q) body) cs in
      (λ h. let z = r.0 h in l.1 (m.0 z.0, z.1), λ h. let z = l.0 h in r.1 (m.1 z.0, z.1))) od)

  pub block_is : (fip : Bool) (w : World) (c : Names) (sc : Scalars) (s : ℕ → C.Status) (b : Block) → Ordered c.next (shape_block w c b) → Above sc c.next → C.Clean fip s (term_block w sc c b) ↔ G.Good fip (mix sc s) (shape_block w c b)
  block_is fip w c sc s (Last e) o f = expr_is fip w c sc s e o f
  block_is fip w c sc s (Let bs e rest) o f =
      let A = shape w c e in
      let a1 = term w sc c e in
      let d = following c A in
      let R = clause_of w true d bs rest in
      let le = next_le c.next A o.0 in
      let up : Above sc d.next = λ x l. f x (omega arith) in
      let u : ℕ → C.Status = λ x. C.lent (s x) (asks (Own x) a1) in
      let t : ℕ → C.Status = λ x. C.after (s x) (asks (Own x) a1) in
      let known : (x : ℕ) → sc x ≡ false → owns x A ≡ pos (asks (Own x) a1) = λ x z. expr_owns w c x sc e o.0 (under sc c.next x f z) z in
      let p = same (λ x. G.lending (owns x A) (mix sc s x)) (mix sc u) (λ x. lending_mix (sc x) (owns x A) (s x) (asks (Own x) a1) (known x)) in
      let q = same (λ x. G.spent (owns x A) (mix sc s x)) (mix sc t) (λ x. spent_mix (sc x) (owns x A) (s x) (asks (Own x) a1) (known x)) in
      let i = expr_is fip w c sc u e o.0 f in
      let k = taken_is fip w d sc t bs rest o.1 (block_is fip w (inside w true d bs) (entering w d.next sc bs) (C.binding (variables w d.next bs) true t) rest (ordered_inside w true d bs rest o.1) (all_inside w true d sc bs up)) in (
        λ h. (subst (λ g. G.Good fip g A) (sym p) (i.0 h.0), subst (λ g. G.Good fip g R) (sym q) (k.1 (h.1, h.2))),
        λ h. let z = k.0 (subst (λ g. G.Good fip g R) q h.1) in (i.1 (subst (λ g. G.Good fip g A) p h.0), z.0, z.1),
      )

  taken_cases : (fip : Bool) (w : World) (c : Names) (sc : Scalars) (s : ℕ → C.Status) (done : S.Shape) (cs : Clauses) → Ordered c.next (shape_clauses w true c done cs) → Above sc c.next → G.Good fip (mix sc s) (shape_clauses w true c done cs) ↔ (G.Good fip (mix sc s) done × LaterTaken fip w (following c done) sc s cs)
  taken_cases fip w c sc s done NoClauses o f = (λ h. (h, tt), λ h. h.0)
  taken_cases fip w c sc s done (MoreClauses q body cs) o f =
      let d = following c done in
      let P = clause_of w true d (binders q) body in
      let oc = done_ordered w true c (S.Either done P) cs o in
      let le = next_le c.next done oc.0 in
      let up : Above sc d.next = λ x l. f x (omega arith) in
      let zs = variables w d.next (binders q) in
      let k = taken_is fip w d sc s (binders q) body oc.1 (block_is fip w (inside w true d (binders q)) (entering w d.next sc (binders q)) (C.binding zs true s) body (ordered_inside w true d (binders q) body oc.1) (all_inside w true d sc (binders q) up)) in
      let r = taken_cases fip w c sc s (S.Either done P) cs o f in
      (λ h. let z = r.0 h in (z.0.0, (k.0 z.0.1, z.1)), λ h. r.1 ((h.0, k.1 h.1.0), h.1.1))

  lent_cases : (fip : Bool) (w : World) (c : Names) (sc : Scalars) (s : ℕ → C.Status) (done : S.Shape) (cs : Clauses) → Ordered c.next (shape_clauses w false c done cs) → Above sc c.next → G.Good fip (mix sc s) (shape_clauses w false c done cs) ↔ (G.Good fip (mix sc s) done × LaterLent fip w (following c done) sc s cs)
  lent_cases fip w c sc s done NoClauses o f = (λ h. (h, tt), λ h. h.0)
  lent_cases fip w c sc s done (MoreClauses q body cs) o f =
      let d = following c done in
      let P = clause_of w false d (binders q) body in
      let oc = done_ordered w false c (S.Either done P) cs o in
      let le = next_le c.next done oc.0 in
      let up : Above sc d.next = λ x l. f x (omega arith) in
      let zs = variables w d.next (binders q) in
      let k = lent_is fip w d sc s (binders q) body (block_is fip w (inside w false d (binders q)) (entering w d.next sc (binders q)) (C.binding zs false s) body (ordered_inside w false d (binders q) body oc.1) (all_inside w false d sc (binders q) up)) in
      let r = lent_cases fip w c sc s (S.Either done P) cs o f in
      (λ h. let z = r.0 h in (z.0.0, (k.0 z.0.1, z.1)), λ h. r.1 ((h.0, k.1 h.1.0), h.1.1))
