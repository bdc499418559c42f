-- Variables of a shape are known by numbers that rise in the order of their binders.
use Rattle.std.proofs.Common.{◌≡◌, ℕ, suc, ◌<◌, ◌≤◌, refl, sym, ap, subst, ◌∙◌, List, [], ◌∷◌, ◌++◌, Option, Some, None, Bool, true, false, not, arith}
use Rattle.std.specs.Prelude.{◌==◌, if◌then◌else◌}
use Rattle.fip_trees.specs.fip_language.declared.Place.{Place}
use Rattle.fip_trees.specs.fip_language.declared.rule.Rule.TheVariants.{E54, E55}
use Rattle.fip_trees.specs.Tree.{Name, Argument, Variable, Literal, Constructor, Arguments, NoArguments, MoreArguments, Instance}
use Rattle.fip_trees.specs.Tree.{Expression, Give, Tuple, Operation, Call, Match, Nested, Block, Last, Let, Clauses, NoClauses, MoreClauses}
use Rattle.fip_rules.specs.Marks.{Mark}
use Rattle.fip_rules.specs.Shape as S
use Rattle.fip_rules.specs.Rules.{next, Ordered}
use Rattle.fip_rules.specs.World.{World, lends, weaker}
use Rattle.fip_rules.specs.Shapes.{Names, Bind, or_later, known, used_at, lent_at, token, owning, owning_all, lending, passing, passing_all, mark, binds, within, following, taking, binders, takes, clause_shape, shape, shape_block, shape_clauses, parameters, no_names, body}
use Rattle.fip_rules.proofs.Agree.{next_le}

abbrev Below : List Mark → ℕ → Type 0
Below [] n = Unit {0}
Below (m ∷ ms) n = (m.id < n) × Below ms n

abbrev IsBelow : ℕ → Option ℕ → Type 0
IsBelow n None = Unit {0}
IsBelow n (Some i) = i < n

later_below : (n : ℕ) (b : Bool) (j : ℕ) (o : Option ℕ) → j < n → IsBelow n o → IsBelow n (or_later (if b then Some j else None) o)
later_below n true j None h g = h
later_below n false j None h g = tt
later_below n b j (Some i) h g = g

known_below : (ms : List Mark) (n x : ℕ) → Below ms n → IsBelow n (known ms x)
known_below [] n x h = tt
known_below (m ∷ ms) n x h = later_below n (m.number == x) m.id (known ms x) h.0 (known_below ms n x h.1)

below_end : (ms : List Mark) (m : Mark) (n : ℕ) → Below ms n → m.id < suc n → Below (ms ++ m ∷ []) (suc n)
below_end [] m n h g = (g, tt)
below_end (l ∷ ms) m n h g = (let k = h.0 in omega arith, below_end ms m n h.1 g)

below_later : (ms : List Mark) (n k : ℕ) → Below ms n → n ≤ k → Below ms k
below_later [] n k h g = tt
below_later (m ∷ ms) n k h g = (let l = h.0 in omega arith, below_later ms n k h.1 g)

-- ---- arguments

used_next : (n : ℕ) (o : Option ℕ) (x : ℕ) (p : Place) (l : Name) → next n (used_at o x p l) ≡ n
used_next n None x p l = refl
used_next n (Some i) x p l = refl

lent_next : (n : ℕ) (o : Option ℕ) (x : ℕ) (p : Place) (l : Name) → next n (lent_at o x p l) ≡ n
lent_next n None x p l = refl
lent_next n (Some i) x p l = refl

used_ordered : (n : ℕ) (o : Option ℕ) (x : ℕ) (p : Place) (l : Name) → IsBelow n o → Ordered n (used_at o x p l)
used_ordered n None x p l h = tt
used_ordered n (Some i) x p l h = h

lent_ordered : (n : ℕ) (o : Option ℕ) (x : ℕ) (p : Place) (l : Name) → IsBelow n o → Ordered n (lent_at o x p l)
lent_ordered n None x p l h = tt
lent_ordered n (Some i) x p l h = h

mutual
  next_owning : (n : ℕ) (ms : List Mark) (a : Argument) → next n (owning ms a) ≡ n
  next_owning n ms (Variable None l p) = refl
  next_owning n ms (Variable (Some x) l p) = used_next n (known ms x) x p l
  next_owning n ms (Literal i p) = refl
  next_owning n ms (Constructor t d c l p as') = next_owning_all n ms as'

  next_owning_all : (n : ℕ) (ms : List Mark) (as' : Arguments) → next n (owning_all ms as') ≡ n
  next_owning_all n ms NoArguments = refl
  next_owning_all n ms (MoreArguments a as') = ap (λ k. next k (owning_all ms as')) (next_owning n ms a) ∙ next_owning_all n ms as'

mutual
  ordered_owning : (n : ℕ) (ms : List Mark) (a : Argument) → Below ms n → Ordered n (owning ms a)
  ordered_owning n ms (Variable None l p) h = tt
  ordered_owning n ms (Variable (Some x) l p) h = used_ordered n (known ms x) x p l (known_below ms n x h)
  ordered_owning n ms (Literal i p) h = tt
  ordered_owning n ms (Constructor t d c l p as') h = ordered_owning_all n ms as' h

  ordered_owning_all : (n : ℕ) (ms : List Mark) (as' : Arguments) → Below ms n → Ordered n (owning_all ms as')
  ordered_owning_all n ms NoArguments h = tt
  ordered_owning_all n ms (MoreArguments a as') h = (ordered_owning n ms a h, subst (λ k. Ordered k (owning_all ms as')) (sym (next_owning n ms a)) (ordered_owning_all n ms as' h))

next_fault : (n : ℕ) (b : Bool) (p : Place) (l : Name) (ms : List Mark) (as' : Arguments) → next n (if b then S.Skip else S.Then (S.Fault E54 (token p l)) (owning_all ms as')) ≡ n
next_fault n true p l ms as' = refl
next_fault n false p l ms as' = next_owning_all n ms as'

ordered_fault : (n : ℕ) (b : Bool) (p : Place) (l : Name) (ms : List Mark) (as' : Arguments) → Below ms n → Ordered n (if b then S.Skip else S.Then (S.Fault E54 (token p l)) (owning_all ms as'))
ordered_fault n true p l ms as' h = tt
ordered_fault n false p l ms as' h = (tt, ordered_owning_all n ms as' h)

pub next_lending : (n : ℕ) (w : World) (ms : List Mark) (a : Argument) → next n (lending w ms a) ≡ n
next_lending n w ms (Variable None l p) = refl
next_lending n w ms (Variable (Some x) l p) = lent_next n (known ms x) x p l
next_lending n w ms (Literal i p) = refl
next_lending n w ms (Constructor t d c l p as') = next_fault n (w.scalar t) p l ms as'

ordered_lending : (n : ℕ) (w : World) (ms : List Mark) (a : Argument) → Below ms n → Ordered n (lending w ms a)
ordered_lending n w ms (Variable None l p) h = tt
ordered_lending n w ms (Variable (Some x) l p) h = lent_ordered n (known ms x) x p l (known_below ms n x h)
ordered_lending n w ms (Literal i p) h = tt
ordered_lending n w ms (Constructor t d c l p as') h = ordered_fault n (w.scalar t) p l ms as' h

pub next_passing : (n : ℕ) (w : World) (ms : List Mark) (b : Bool) (a : Argument) → next n (passing w ms b a) ≡ n
next_passing n w ms true a = next_lending n w ms a
next_passing n w ms false a = next_owning n ms a

ordered_passing : (n : ℕ) (w : World) (ms : List Mark) (b : Bool) (a : Argument) → Below ms n → Ordered n (passing w ms b a)
ordered_passing n w ms true a h = ordered_lending n w ms a h
ordered_passing n w ms false a h = ordered_owning n ms a h

ordered_passing_all : (n : ℕ) (w : World) (ms : List Mark) (g j : ℕ) (as' : Arguments) → Below ms n → Ordered n (passing_all w ms g j as')
ordered_passing_all n w ms g j NoArguments h = tt
ordered_passing_all n w ms g j (MoreArguments a as') h = (ordered_passing n w ms (lends w g j) a h, subst (λ k. Ordered k (passing_all w ms g (suc j) as')) (sym (next_passing n w ms (lends w g j) a)) (ordered_passing_all n w ms g (suc j) as' h))

next_called : (n : ℕ) (b : Bool) (p : Place) (l : Name) → next n (if b then S.Fault E55 (token p l) else S.Skip) ≡ n
next_called n true p l = refl
next_called n false p l = refl

ordered_called : (n : ℕ) (b : Bool) (p : Place) (l : Name) → Ordered n (if b then S.Fault E55 (token p l) else S.Skip)
ordered_called n true p l = tt
ordered_called n false p l = tt

-- ---- scopes

abbrev Fine : Names → Type 0
Fine c = Below c.marks c.next

within_fine : (c : Names) (bs : List Bind) → Fine c → Fine (within c bs)
within_fine c [] h = h
within_fine c (b ∷ bs) h = within_fine (record { marks = c.marks ++ mark c.next b.binder ∷ []; next = suc c.next }) bs (below_end c.marks (mark c.next b.binder) c.next h (omega arith))

after_fine : (c : Names) (e : S.Shape) → Fine c → Ordered c.next e → Fine (following c e)
after_fine c e h g = below_later c.marks c.next (next c.next e) h (next_le c.next e g)

ordered_binds : (c : Names) (bs : List Bind) (e : S.Shape) → Ordered (within c bs).next e → Ordered c.next (binds c.next bs e)
ordered_binds c [] e h = h
ordered_binds c (b ∷ bs) e h = (omega arith, ordered_binds (record { marks = c.marks ++ mark c.next b.binder ∷ []; next = suc c.next }) bs e h)

ordered_clause : (c : Names) (bs : List Bind) (f : Names → S.Shape) → Fine c → ((d : Names) → Fine d → Ordered d.next (f d)) → Ordered c.next (clause_shape c bs f)
ordered_clause c bs f h g = ordered_binds c bs (f (within c bs)) (g (within c bs) (within_fine c bs h))

mutual
  ordered : (w : World) (c : Names) (e : Expression) → Fine c → Ordered c.next (shape w c e)
  ordered w c (Give a) h = ordered_owning c.next c.marks a h
  ordered w c (Tuple p as') h = ordered_owning_all c.next c.marks as' h
  ordered w c (Operation o p l r) h = (ordered_owning c.next c.marks l h, subst (λ k. Ordered k (owning c.marks r)) (sym (next_owning c.next c.marks l)) (ordered_owning c.next c.marks r h))
  ordered w c (Call g l p as') h = (ordered_called c.next (weaker w g) p l, subst (λ k. Ordered k (passing_all w c.marks g 0 as')) (sym (next_called c.next (weaker w g) p l)) (ordered_passing_all c.next w c.marks g 0 as' h))
  ordered w c (Match k t p a q b cs) h =
      let bs = taking w (takes w k t) (binders q) in (
        ordered_passing c.next w c.marks (not (takes w k t)) a h,
        subst (λ n. Ordered n (shape_clauses w (takes w k t) c (clause_shape c bs (λ d. shape_block w d b)) cs)) (sym (next_passing c.next w c.marks (not (takes w k t)) a))
            (ordered_clauses w (takes w k t) c (clause_shape c bs (λ d. shape_block w d b)) cs h (ordered_clause c bs (λ d. shape_block w d b) h (λ d g. ordered_block w d b g))),
      )
  ordered w c (Nested b) h = ordered_block w c b h

  ordered_block : (w : World) (c : Names) (b : Block) → Fine c → Ordered c.next (shape_block w c b)
  ordered_block w c (Last e) h = ordered w c e h
  ordered_block w c (Let bs e rest) h =
      let o = ordered w c e h in
      (o, ordered_clause (following c (shape w c e)) (taking w true bs) (λ d. shape_block w d rest) (after_fine c (shape w c e) h o) (λ d g. ordered_block w d rest g))

  ordered_clauses : (w : World) (taken : Bool) (c : Names) (done : S.Shape) (cs : Clauses) → Fine c → Ordered c.next done → Ordered c.next (shape_clauses w taken c done cs)
  ordered_clauses w taken c done NoClauses h g = g
  ordered_clauses w taken c done (MoreClauses q b cs) h g =
      let bs = taking w taken (binders q) in
      ordered_clauses w taken c (S.Either done (clause_shape (following c done) bs (λ d. shape_block w d b))) cs h
      (g, ordered_clause (following c done) bs (λ d. shape_block w d b) (after_fine c done h g) (λ d k. ordered_block w d b k))

none_fine : Fine no_names
none_fine = tt

pub body_ordered : (w : World) (d : Instance) → Ordered 0 (body w d)
body_ordered w d = ordered_clause no_names (parameters w d.params d.binders) (λ c. shape_block w c d.body) none_fine (λ c h. ordered_block w c d.body h)
