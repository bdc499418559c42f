-- After a part no fewer binders have been passed than before it.
use Rattle.std.proofs.Common.{◌≡◌, ℕ, suc, ◌≤◌, Bool, true, false, not, List, [], ◌∷◌, ◌++◌, refl, sym, ap, ◌∙◌, subst, if◌then◌else◌, arith}
use Rattle.tail_groups.specs.fip_language.declared.Place.{Place}
use Rattle.tail_groups.specs.fip_language.declared.rule.Rule.TheVariants.{E55}
use Rattle.tail_groups.specs.fip_trees.declared.program.Binder.{Binder}
use Rattle.tail_groups.specs.fip_trees.Tree.{Name, Arguments, NoArguments, MoreArguments, Expression, Give, Tuple, Operation, Call, Match, Nested, Block, Last, Let, Clauses, NoClauses, MoreClauses}
use Rattle.ownership_agreement.specs.fip_rules.Marks.{Mark}
use Rattle.ownership_agreement.specs.fip_rules.Shape as S
use Rattle.ownership_agreement.specs.fip_rules.Rules.{next}
use Rattle.ownership_agreement.specs.fip_rules.World.{World, lends, weaker}
use Rattle.ownership_agreement.specs.fip_rules.Shapes.{Names, Bind, token, owning, owning_all, passing_all, mark, binds, within, following, taking, binders, takes, clause_shape, shape, shape_block, shape_clauses}
use Rattle.ownership_agreement.proofs.fip_rules.Orders.{next_passing}

called_next : (n : ℕ) (b : Bool) (p : Place) (l : Name) → next n (if b then S.Fault E55 (token p l) else S.Skip) ≡ n
called_next n true p l = refl
called_next n false p l = refl

binds_next : (c : Names) (bs : List Bind) (e : S.Shape) → next c.next (binds c.next bs e) ≡ next (within c bs).next e
binds_next c [] e = refl
binds_next c (b ∷ bs) e = binds_next (record { marks = c.marks ++ mark c.next b.binder ∷ []; next = suc c.next }) bs e

pub within_next : (c : Names) (bs : List Bind) → c.next ≤ (within c bs).next
within_next c [] = omega arith
within_next c (b ∷ bs) = let h = within_next (record { marks = c.marks ++ mark c.next b.binder ∷ []; next = suc c.next }) bs in omega arith

module _ (w : World) where
  owning_all_next : (n : ℕ) (ms : List Mark) (as' : Arguments) → next n (owning_all ms as') ≡ n
  owning_all_next n ms NoArguments = refl
  owning_all_next n ms (MoreArguments a as') = ap (λ k. next k (owning_all ms as')) (next_passing n w ms false a) ∙ owning_all_next n ms as'

  passing_all_next : (n : ℕ) (ms : List Mark) (g j : ℕ) (as' : Arguments) → next n (passing_all w ms g j as') ≡ n
  passing_all_next n ms g j NoArguments = refl
  passing_all_next n ms g j (MoreArguments a as') = ap (λ k. next k (passing_all w ms g (suc j) as')) (next_passing n w ms (lends w g j) a) ∙ passing_all_next n ms g (suc j) as'

  same_le : (m n : ℕ) → n ≡ m → m ≤ n
  same_le m n e = omega arith

  clause_grows : (c : Names) (bs : List Bind) (body : Names → S.Shape) → ((d : Names) → d.next ≤ next d.next (body d)) → c.next ≤ next c.next (clause_shape c bs body)
  clause_grows c bs body h =
      let e = binds_next c bs (body (within c bs)) in
      let f = within_next c bs in
      let g = h (within c bs) in omega arith

  mutual
    pub grows : (c : Names) (e : Expression) → c.next ≤ next c.next (shape w c e)
    grows c (Give a) = same_le c.next _ (next_passing c.next w c.marks false a)
    grows c (Tuple p as') = same_le c.next _ (owning_all_next c.next c.marks as')
    grows c (Operation o p l r) = same_le c.next _ (ap (λ k. next k (owning c.marks r)) (next_passing c.next w c.marks false l) ∙ next_passing c.next w c.marks false r)
    grows c (Call g n p as') = same_le c.next _ (ap (λ k. next k (passing_all w c.marks g 0 as')) (called_next c.next (weaker w g) p n) ∙ passing_all_next c.next c.marks g 0 as')
    grows c (Match k t p a q body cs) =
        let first = clause_shape c (taking w (takes w k t) (binders q)) (λ d. shape_block w d body) in
        let h = grows_clauses (takes w k t) c first cs (clause_grows c (taking w (takes w k t) (binders q)) (λ d. shape_block w d body) (λ d. grows_block d body)) in
        subst (λ m. c.next ≤ next m (shape_clauses w (takes w k t) c first cs)) (sym (next_passing c.next w c.marks (not (takes w k t)) a)) h
    grows c (Nested b) = grows_block c b

    pub grows_block : (c : Names) (b : Block) → c.next ≤ next c.next (shape_block w c b)
    grows_block c (Last e) = grows c e
    grows_block c (Let bs e rest) =
        let f = grows c e in
        let g = clause_grows (following c (shape w c e)) (taking w true bs) (λ d. shape_block w d rest) (λ d. grows_block d rest) in omega arith

    grows_clauses : (taken : Bool) (c : Names) (done : S.Shape) (cs : Clauses) → c.next ≤ next c.next done → c.next ≤ next c.next (shape_clauses w taken c done cs)
    grows_clauses taken c done NoClauses h = h
    grows_clauses taken c done (MoreClauses q body cs) h =
        let g = clause_grows (following c done) (taking w taken (binders q)) (λ d. shape_block w d body) (λ d. grows_block d body) in
        grows_clauses taken c (S.Either done (clause_shape (following c done) (taking w taken (binders q)) (λ d. shape_block w d body))) cs (omega arith)

  pub past_grows : (taken : Bool) (c : Names) (bs : List Binder) (body : Block) → c.next ≤ (following c (clause_shape c (taking w taken bs) (λ d. shape_block w d body))).next
  past_grows taken c bs body = clause_grows c (taking w taken bs) (λ d. shape_block w d body) (λ d. grows_block d body)
