-- How many binders are in a part.
use Rattle.std.proofs.Common.{◌≡◌, ℕ, suc, ◌+◌, refl, sym, ap, ◌∙◌, List, [], ◌∷◌, ◌++◌, length, Bool, true, false, not, arith}
use Rattle.std.specs.Prelude.{if◌then◌else◌}
use Rattle.tail_groups.specs.fip_language.declared.Place.{Place}
use Rattle.tail_groups.specs.fip_language.declared.rule.Rule.TheVariants.{E55}
use Rattle.tail_groups.specs.fip_trees.declared.program.Binder.{Binder}
use Rattle.tail_groups.specs.fip_trees.Tree.{Name, Argument, Arguments, NoArguments, MoreArguments, Pattern, Expression, Give, Tuple, Operation, Call, Match, Nested, Block, Last, Let, Clauses, NoClauses, MoreClauses}
use Rattle.derivation_walk.specs.fip_rules.Marks.{Mark}
use Rattle.derivation_walk.specs.fip_rules.Shape as S
use Rattle.derivation_walk.specs.fip_rules.Rules.{next}
use Rattle.derivation_walk.specs.fip_rules.World.{World, lends, weaker}
use Rattle.derivation_walk.specs.fip_rules.Shapes.{Names, Bind, token, owning, owning_all, passing, passing_all, called, mark, binds, within, following, taking, binders, takes, clause_shape, shape, shape_block, shape_clauses}
use Rattle.derivation_walk.proofs.fip_rules.Orders.{next_passing}
use Rattle.derivation_making.specs.derivation_check.Scopes as P
use Rattle.derivation_making.proofs.Reading.{next_passing_all as passing_all_next}

owning_all_next : (n : ℕ) (w : World) (ms : List Mark) (as' : Arguments) → next n (owning_all ms as') ≡ n
owning_all_next n w ms NoArguments = refl
owning_all_next n w ms (MoreArguments a as') = ap (λ k. next k (owning_all ms as')) (next_passing n w ms false a) ∙ owning_all_next n w ms as'

called_next : (n : ℕ) (w : World) (g : ℕ) (p : Place) (l : Name) → next n (called w g p l) ≡ n
called_next n w g p l = by (weaker w g)
  where
    by : (b : Bool) → next n (if b then S.Fault E55 (token p l) else S.Skip) ≡ n
    by true = refl
    by false = refl

binds_next : (n : ℕ) (bs : List Bind) (e : S.Shape) → next n (binds n bs e) ≡ next (n + length bs) e
binds_next n [] e = let z : n ≡ n + 0 = omega arith in ap (λ k. next k e) z
binds_next n (b ∷ bs) e = let z : suc n + length bs ≡ n + length (b ∷ bs) = omega arith in binds_next (suc n) bs e ∙ ap (λ k. next k e) z

within_next : (c : Names) (bs : List Bind) → (within c bs).next ≡ c.next + length bs
within_next c [] = omega arith
within_next c (b ∷ bs) = let h = within_next (record { marks = c.marks ++ mark c.next b.binder ∷ []; next = suc c.next }) bs in omega arith

taking_length : (w : World) (t : Bool) (bs : List Binder) → length (taking w t bs) ≡ length bs
taking_length w t [] = refl
taking_length w t (b ∷ bs) = ap suc (taking_length w t bs)

pub inside_next : (w : World) (t : Bool) (c : Names) (bs : List Binder) → (within c (taking w t bs)).next ≡ c.next + length bs
inside_next w t c bs = let a = within_next c (taking w t bs) in let b = taking_length w t bs in omega arith

-- the scopes of some binders around a block
pub scope_next : (w : World) (t : Bool) (c : Names) (bs : List Binder) (body : Block) → next (within c (taking w t bs)).next (shape_block w (within c (taking w t bs)) body) ≡ (within c (taking w t bs)).next + P.within_block body → next c.next (clause_shape c (taking w t bs) (λ d. shape_block w d body)) ≡ c.next + length bs + P.within_block body
scope_next w t c bs body h =
    let e = shape_block w (within c (taking w t bs)) body in
    let a = binds_next c.next (taking w t bs) e in
    let b = ap (λ k. next k e) (within_next c (taking w t bs)) in
    let l = inside_next w t c bs in omega arith

match_next : (n : ℕ) (w : World) (c : Names) (b : Bool) (a : Argument) (e : S.Shape) → next n (S.Then (passing w c.marks b a) e) ≡ next n e
match_next n w c b a e = ap (λ k. next k e) (next_passing n w c.marks b a)

mutual
  pub expr_next : (w : World) (c : Names) (e : Expression) → next c.next (shape w c e) ≡ c.next + P.within e
  expr_next w c (Give a) = let h = next_passing c.next w c.marks false a in omega arith
  expr_next w c (Tuple p as') = let h = owning_all_next c.next w c.marks as' in omega arith
  expr_next w c (Operation o p l r) =
      let h = ap (λ k. next k (owning c.marks r)) (next_passing c.next w c.marks false l) in
      let g = next_passing c.next w c.marks false r in omega arith
  expr_next w c (Call g n p as') =
      let h = ap (λ k. next k (passing_all w c.marks g 0 as')) (called_next c.next w g p n) in
      let f = passing_all_next c.next w c.marks g 0 as' in omega arith
  expr_next w c (Match k t p a q body cs) =
      let b = takes w k t in
      let done = clause_shape c (taking w b (binders q)) (λ d. shape_block w d body) in
      let h = match_next c.next w c (not b) a (shape_clauses w b c done cs) in
      let f = clauses_next w b c done cs in
      let g = scope_next w b c (binders q) body (block_next w (within c (taking w b (binders q))) body) in omega arith
  expr_next w c (Nested b) = block_next w c b

  pub block_next : (w : World) (c : Names) (b : Block) → next c.next (shape_block w c b) ≡ c.next + P.within_block b
  block_next w c (Last e) = expr_next w c e
  block_next w c (Let bs e rest) =
      let d = following c (shape w c e) in
      let h = expr_next w c e in
      let g = scope_next w true d bs rest (block_next w (within d (taking w true bs)) rest) in omega arith

  pub clauses_next : (w : World) (t : Bool) (c : Names) (done : S.Shape) (cs : Clauses) → next c.next (shape_clauses w t c done cs) ≡ next c.next done + P.within_clauses cs
  clauses_next w t c done NoClauses = omega arith
  clauses_next w t c done (MoreClauses q body cs) =
      let d = following c done in
      let more = clause_shape d (taking w t (binders q)) (λ f. shape_block w f body) in
      let h = clauses_next w t c (S.Either done more) cs in
      let g = scope_next w t d (binders q) body (block_next w (within d (taking w t (binders q))) body) in omega arith
