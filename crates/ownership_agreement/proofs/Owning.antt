-- A variable has an owning occurrence in the shape just where the term requires it.
use Rattle.std.proofs.Common.{◌≡◌, ℕ, suc, ◌+◌, ◌<◌, refl, sym, ap, subst, ◌∙◌, List, [], Option, Some, None, Bool, true, false, not, arith}
use Rattle.std.specs.Prelude.{◌==◌, ◌||◌, if◌then◌else◌}
use Rattle.credit_check.specs.fip_language.declared.Place.{Place}
use Rattle.credit_check.specs.fip_language.declared.rule.Rule.TheVariants.{E54, E55}
use Rattle.credit_check.specs.fip_trees.declared.program.Binder.{Binder}
use Rattle.credit_check.specs.fip_trees.Tree.{Name, Argument, Variable, Literal, Constructor, Arguments, NoArguments, MoreArguments}
use Rattle.credit_check.specs.fip_trees.Tree.{Expression, Give, Tuple, Operation, Call, Match, Nested, Block, Last, Let, Clauses, NoClauses, MoreClauses}
use Rattle.fip_rules.specs.Marks.{Mark}
use Rattle.fip_rules.specs.Shape as S
use Rattle.fip_rules.specs.Rules.{owns, Ordered}
use Rattle.fip_rules.specs.World.{World, lends, weaker}
use Rattle.fip_rules.specs.Shapes as H
use Rattle.fip_rules.specs.Shapes.{Names, known, used_at, lent_at, used_by, lent_by, token, owning, owning_all, lending, passing, passing_all, binds, following, taking, binders, clause_shape, shape, shape_block, shape_clauses}
use Rattle.fip_rules.proofs.Agree.{next_le}
use Rattle.fip_rules.proofs.Orders.{next_passing}
use Rattle.ownership_calculus.specs.Terms as C
use Rattle.ownership_calculus.specs.Terms.{has, size, Own, Term, Passed, PassLent, PassOwned}
use Rattle.ownership_calculus.specs.Clean.{used_up, all_used_up, lent_used_up, passed_used_up, outside, asks, asks_lent, asks_taken}
use Rattle.ownership_agreement.specs.Bodies.{Scalars, variable, value, values, lent_value, passed, variables, entering, nodes, inside, matched, term, term_block, clauses}
use Rattle.ownership_agreement.proofs.Basics.{pos, pos_sum, pos_max, or_assoc, same_or, paid_none, var_pos, past_inside, past_le, ordered_inside, not_owned, not_entered, done_ordered, binds_owns, lent_taken}
use Rattle.fip_rules.proofs.fip_base.fip_language.Facts.{if_zero_else as kept_out}
use Rattle.ownership_agreement.proofs.Always.{one_lent}

pub both : (a b : Bool) (m n : ℕ) → a ≡ pos m → b ≡ pos n → (a || b) ≡ pos (m + n)
both a b m n e f = same_or a b (pos m) (pos n) e f ∙ sym (pos_sum m n)

nothing_more : (n : ℕ) → n ≡ n + 0
nothing_more n = omega arith

seen_owns : (x : ℕ) (sc : Scalars) (o : Option ℕ) (y : ℕ) (p : Place) (n : Name) → sc x ≡ false → owns x (used_at o y p n) ≡ pos (used_up (variable sc o) (Own x))
seen_owns x sc None y p n h = refl
seen_owns x sc (Some i) y p n h = var_pos sc x i (sc i) (i == x) refl refl h

mutual
  pub arg_owns : (x : ℕ) (sc : Scalars) (ms : List Mark) (a : Argument) → sc x ≡ false → owns x (owning ms a) ≡ pos (used_up (value sc ms a) (Own x))
  arg_owns x sc ms (Variable None n p) h = refl
  arg_owns x sc ms (Variable (Some y) n p) h = seen_owns x sc (known ms y) y p n h
  arg_owns x sc ms (Literal i p) h = refl
  arg_owns x sc ms (Constructor t d c n p as') h = args_owns x sc ms as' h ∙ ap pos (paid_none (size (values sc ms as')) x (all_used_up (values sc ms as') (Own x)))

  pub args_owns : (x : ℕ) (sc : Scalars) (ms : List Mark) (as' : Arguments) → sc x ≡ false → owns x (owning_all ms as') ≡ pos (all_used_up (values sc ms as') (Own x))
  args_owns x sc ms NoArguments h = refl
  args_owns x sc ms (MoreArguments a as') h = both (owns x (owning ms a)) (owns x (owning_all ms as')) (used_up (value sc ms a) (Own x)) (all_used_up (values sc ms as') (Own x)) (arg_owns x sc ms a h) (args_owns x sc ms as' h)

seen_lent : (x : ℕ) (sc : Scalars) (o : Option ℕ) (y : ℕ) (p : Place) (n : Name) → owns x (lent_at o y p n) ≡ pos (lent_used_up (variable sc o) (Own x))
seen_lent x sc None y p n = refl
seen_lent x sc (Some i) y p n = one_lent (sc i) i x

lent_built : (b : Bool) (x : ℕ) (sc : Scalars) (ms : List Mark) (p : Place) (n : Name) (as' : Arguments) → sc x ≡ false → owns x (if b then S.Skip else S.Then (S.Fault E54 (token p n)) (owning_all ms as')) ≡ pos (lent_used_up (if b then C.Scalar else C.Built (values sc ms as')) (Own x))
lent_built true x sc ms p n as' h = refl
lent_built false x sc ms p n as' h = args_owns x sc ms as' h ∙ ap pos (paid_none (size (values sc ms as')) x (all_used_up (values sc ms as') (Own x)))

pub lent_owns : (w : World) (x : ℕ) (sc : Scalars) (ms : List Mark) (a : Argument) → sc x ≡ false → owns x (lending w ms a) ≡ pos (lent_used_up (lent_value w sc ms a) (Own x))
lent_owns w x sc ms (Variable None n p) h = refl
lent_owns w x sc ms (Variable (Some y) n p) h = seen_lent x sc (known ms y) y p n
lent_owns w x sc ms (Literal i p) h = refl
lent_owns w x sc ms (Constructor t d c n p as') h = lent_built (w.scalar t) x sc ms p n as' h

one_passed : (w : World) (x : ℕ) (sc : Scalars) (ms : List Mark) (b c : Bool) (a : Argument) (gs : Passed) → sc x ≡ false → c ≡ pos (passed_used_up gs (Own x)) → (owns x (passing w ms b a) || c) ≡ pos (passed_used_up (if b then PassLent (lent_value w sc ms a) gs else PassOwned (value sc ms a) gs) (Own x))
one_passed w x sc ms true c a gs h e = both (owns x (lending w ms a)) c (lent_used_up (lent_value w sc ms a) (Own x)) (passed_used_up gs (Own x)) (lent_owns w x sc ms a h) e
one_passed w x sc ms false c a gs h e = both (owns x (owning ms a)) c (used_up (value sc ms a) (Own x)) (passed_used_up gs (Own x)) (arg_owns x sc ms a h) e

pub passed_owns : (w : World) (x : ℕ) (sc : Scalars) (ms : List Mark) (g j : ℕ) (as' : Arguments) → sc x ≡ false → owns x (passing_all w ms g j as') ≡ pos (passed_used_up (passed w sc ms g j as') (Own x))
passed_owns w x sc ms g j NoArguments h = refl
passed_owns w x sc ms g j (MoreArguments a as') h = one_passed w x sc ms (lends w g j) (owns x (passing_all w ms g (suc j) as')) a (passed w sc ms g (suc j) as') h (passed_owns w x sc ms g (suc j) as' h)

called_owns : (b : Bool) (x : ℕ) (p : Place) (n : Name) → owns x (if b then S.Fault E55 (token p n) else S.Skip) ≡ false
called_owns true x p n = refl
called_owns false x p n = refl

scrutinee_owns : (w : World) (x : ℕ) (sc : Scalars) (ms : List Mark) (b c : Bool) (a : Argument) (cs : C.Clauses) → sc x ≡ false → c ≡ pos (asks_taken (Own x) cs) → (owns x (passing w ms (not b) a) || c) ≡ pos (asks (Own x) (matched w sc ms b a cs))
scrutinee_owns w x sc ms true c a cs h e = both (owns x (owning ms a)) c (used_up (value sc ms a) (Own x)) (asks_taken (Own x) cs) (arg_owns x sc ms a h) e
scrutinee_owns w x sc ms false c a cs h e = both (owns x (lending w ms a)) c (lent_used_up (lent_value w sc ms a) (Own x)) (asks_lent (Own x) cs) (lent_owns w x sc ms a h) (e ∙ ap pos (sym (lent_taken x cs)))

-- a clause: e1 is the term of the body in its binders
clause_owns : (w : World) (taken : Bool) (c : Names) (x : ℕ) (bs : List Binder) (ks : List ℕ) (body : Block) (e1 : Term) → x < c.next → owns x (shape_block w (inside w taken c bs) body) ≡ pos (asks (Own x) e1) → owns x (clause_shape c (taking w taken bs) (λ d. shape_block w d body)) ≡ pos (outside (variables w c.next bs) ks (Own x) (asks (Own x) e1))
clause_owns w taken c x bs ks body e1 l f = binds_owns c.next x (taking w taken bs) (shape_block w (inside w taken c bs) body) ∙ f ∙ ap pos (kept_out (has (variables w c.next bs) x) (asks (Own x) e1) (not_owned w c.next x bs l))

abbrev Here : World → Names → ℕ → Scalars → Block → Type 0
Here w c x sc b = Ordered c.next (shape_block w c b) → x < c.next → sc x ≡ false → owns x (shape_block w c b) ≡ pos (asks (Own x) (term_block w sc c b))

inner_owns : (w : World) (taken : Bool) (c : Names) (x : ℕ) (sc : Scalars) (bs : List Binder) (ks : List ℕ) (body : Block) → Ordered c.next (clause_shape c (taking w taken bs) (λ d. shape_block w d body)) → x < c.next → sc x ≡ false → Here w (inside w taken c bs) x (entering w c.next sc bs) body → owns x (clause_shape c (taking w taken bs) (λ d. shape_block w d body)) ≡ pos (outside (variables w c.next bs) ks (Own x) (asks (Own x) (term_block w (entering w c.next sc bs) (inside w taken c bs) body)))
inner_owns w taken c x sc bs ks body o l h f =
    let e = past_inside w taken c bs in
    let g = past_le c.next bs in
    clause_owns w taken c x bs ks body (term_block w (entering w c.next sc bs) (inside w taken c bs) body) l
    (f (ordered_inside w taken c bs body o) (omega arith) (not_entered w c.next x sc bs l ∙ h))

mutual
  pub expr_owns : (w : World) (c : Names) (x : ℕ) (sc : Scalars) (e : Expression) → Ordered c.next (shape w c e) → x < c.next → sc x ≡ false → owns x (shape w c e) ≡ pos (asks (Own x) (term w sc c e))
  expr_owns w c x sc (Give a) o l h = arg_owns x sc c.marks a h ∙ ap pos (nothing_more (used_up (value sc c.marks a) (Own x)))
  expr_owns w c x sc (Tuple p as') o l h = args_owns x sc c.marks as' h
  expr_owns w c x sc (Operation q p a b) o l h = both (owns x (owning c.marks a)) (owns x (owning c.marks b)) (used_up (value sc c.marks a) (Own x)) (used_up (value sc c.marks b) (Own x) + 0) (arg_owns x sc c.marks a h) (arg_owns x sc c.marks b h ∙ ap pos (nothing_more (used_up (value sc c.marks b) (Own x))))
  expr_owns w c x sc (Call g n p as') o l h = ap (λ b. b || owns x (passing_all w c.marks g 0 as')) (called_owns (weaker w g) x p n) ∙ passed_owns w x sc c.marks g 0 as' h
  expr_owns w c x sc (Match k t p a q body cs) o l h =
      let b = H.takes w k t in
      let P = passing w c.marks (not b) a in
      let D = clause_shape c (taking w b (binders q)) (λ d. shape_block w d body) in
      let od : Ordered c.next (shape_clauses w b c D cs) = subst (λ n. Ordered n (shape_clauses w b c D cs)) (next_passing c.next w c.marks (not b) a) o.1 in
      let oc : Ordered c.next D = done_ordered w b c D cs od in
      let e1 = term_block w (entering w c.next sc (binders q)) (inside w b c (binders q)) body in
      scrutinee_owns w x sc c.marks b (owns x (shape_clauses w b c D cs)) a (clauses w sc b (following c D) (variables w c.next (binders q)) (nodes q) e1 cs) h
      (clauses_owns w c x sc b D (variables w c.next (binders q)) (nodes q) e1 cs false od l h
      (inner_owns w b c x sc (binders q) (nodes q) body oc l h (block_owns w (inside w b c (binders q)) x (entering w c.next sc (binders q)) body)))
  expr_owns w c x sc (Nested b) o l h = block_owns w c x sc b o l h

  pub block_owns : (w : World) (c : Names) (x : ℕ) (sc : Scalars) (b : Block) → Ordered c.next (shape_block w c b) → x < c.next → sc x ≡ false → owns x (shape_block w c b) ≡ pos (asks (Own x) (term_block w sc c b))
  block_owns w c x sc (Last e) o l h = expr_owns w c x sc e o l h
  block_owns w c x sc (Let bs e rest) o l h =
      let d = following c (shape w c e) in
      let le = next_le c.next (shape w c e) o.0 in
      let m : x < d.next = omega arith in
      both (owns x (shape w c e)) (owns x (clause_shape d (taking w true bs) (λ z. shape_block w z rest))) (asks (Own x) (term w sc c e)) (outside (variables w d.next bs) [] (Own x) (asks (Own x) (term_block w (entering w d.next sc bs) (inside w true d bs) rest)))
      (expr_owns w c x sc e o.0 l h)
      (inner_owns w true d x sc bs [] rest o.1 m h (block_owns w (inside w true d bs) x (entering w d.next sc bs) rest))

  clauses_owns : (w : World) (c : Names) (x : ℕ) (sc : Scalars) (b : Bool) (done : S.Shape) (ys ks : List ℕ) (e : Term) (cs : Clauses) (r : Bool) → Ordered c.next (shape_clauses w b c done cs) → x < c.next → sc x ≡ false → owns x done ≡ (r || pos (outside ys ks (Own x) (asks (Own x) e))) → owns x (shape_clauses w b c done cs) ≡ (r || pos (asks_taken (Own x) (clauses w sc b (following c done) ys ks e cs)))
  clauses_owns w c x sc b done ys ks e NoClauses r o l h f = f
  clauses_owns w c x sc b done ys ks e (MoreClauses q body cs) r o l h f =
      let d = following c done in
      let D = clause_shape d (taking w b (binders q)) (λ z. shape_block w z body) in
      let oc = done_ordered w b c (S.Either done D) cs o in
      let le = next_le c.next done oc.0 in
      let m : x < d.next = omega arith in
      let e1 = term_block w (entering w d.next sc (binders q)) (inside w b d (binders q)) body in
      let g : owns x D ≡ pos (outside (variables w d.next (binders q)) (nodes q) (Own x) (asks (Own x) e1)) = inner_owns w b d x sc (binders q) (nodes q) body oc.1 m h (block_owns w (inside w b d (binders q)) x (entering w d.next sc (binders q)) body) in
      let out = outside ys ks (Own x) (asks (Own x) e) in
      let rest = asks_taken (Own x) (clauses w sc b (following c (S.Either done D)) (variables w d.next (binders q)) (nodes q) e1 cs) in
      clauses_owns w c x sc b (S.Either done D) (variables w d.next (binders q)) (nodes q) e1 cs (r || pos out) o l h (same_or (owns x done) (owns x D) (r || pos out) (pos (outside (variables w d.next (binders q)) (nodes q) (Own x) (asks (Own x) e1))) f g)
      ∙ or_assoc r (pos out) (pos rest) ∙ ap (λ q. r || q) (sym (pos_max out rest))
