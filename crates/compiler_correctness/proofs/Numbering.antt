-- The binders of an accepted program are numbered as lowering numbers them: the numbers by which derivations are made
-- (derivation_making) are those of the names in scope, since the shape of a part counts its binders.
use Rattle.std.proofs.Common.{◌≡◌, ◌≤◌, ◌+◌, ℕ, suc, Bool, true, List, [], ◌∷◌, ◌++◌, length, refl, sym, ap, subst, arith}
use Rattle.lowering_soundness.specs.fip_base.declared.plain.Param.{Param}
use Rattle.lowering_soundness.specs.fip_trees.declared.program.Binder.{Binder}
use Rattle.lowering_soundness.specs.fip_trees.Tree.{Expression, Give, Tuple, Operation, Call, Match, Nested, Block, Last, Let, Clauses, NoClauses, MoreClauses, Instance, Program}
use Rattle.lowering_soundness.specs.fip_rules.Shapes.{Names, Bind, mark, following, within, binders, takes, parameters, no_names, shape}
use Rattle.lowering_soundness.specs.fip_rules.World.{World}
use Rattle.lowering_soundness.specs.ownership_agreement.Bodies.{inside, past_clause}
use Rattle.lowering_soundness.specs.derivation_check.Scopes as P
use Rattle.lowering_soundness.specs.derivation_check.Scopes.{AreNumbered}
use Rattle.lowering_soundness.specs.derivation_making.Numbered as N
use Rattle.lowering_soundness.proofs.derivation_making.Linking.{next_inside}
use Rattle.lowering_soundness.proofs.derivation_making.Reading.{next_after, next_past}
use Rattle.lowering_soundness.specs.Placed.{InOrder, Numbered, NumberedBlock, NumberedClauses}
use Rattle.lowering_soundness.specs.Functions.{IsNumbered}

in_order : (c d : ℕ) (bs : List Binder) → AreNumbered c d bs → InOrder c bs
in_order c d [] h = tt
in_order c d (b ∷ bs) h =
    let e : c + 1 ≡ suc c = omega arith in
    (h.0, subst (λ n. InOrder n bs) e (in_order (c + 1) (d + 1) bs h.2))

order_at : (n c d : ℕ) (bs : List Binder) → n ≡ c → AreNumbered c d bs → InOrder n bs
order_at n c d bs e h = subst (λ n. InOrder n bs) (sym e) (in_order c d bs h)

module _ (p : Program) (w : World) (m : ℕ) where
  mutual
    expression_numbered : (n : Names) (c d : ℕ) (e : Expression) → n.next ≡ c → N.Numbered p c d e → c + P.within e ≤ m → Numbered w m n e
    expression_numbered n c d (Give a) same h few = tt
    expression_numbered n c d (Tuple q as') same h few = tt
    expression_numbered n c d (Operation o q l r) same h few = tt
    expression_numbered n c d (Call g x q as') same h few = tt
    expression_numbered n c d (Match k t q a r body cs) same h few =
        let own = takes w k t in
        let i : (inside w own n (binders r)).next ≡ c + length (binders r) = (let z = next_inside w own n (binders r) in omega (arith, z, same)) in
        let o : (past_clause w own n r body).next ≡ c + length (binders r) + P.within_block body = (let z = next_past w own n r body in omega (arith, z, same)) in (
          order_at n.next c d (binders r) same h.0,
          (omega (arith, same, few)),
          block_numbered (inside w own n (binders r)) (c + length (binders r)) (d + length (binders r)) body i h.1 (omega (arith, few)),
          clauses_numbered own (past_clause w own n r body) (c + length (binders r) + P.within_block body) (d + length (binders r) + P.within_block body) cs o h.2 (omega (arith, few)),
        )
    expression_numbered n c d (Nested b) same h few = block_numbered n c d b same h few

    block_numbered : (n : Names) (c d : ℕ) (b : Block) → n.next ≡ c → N.NumberedBlock p c d b → c + P.within_block b ≤ m → NumberedBlock w m n b
    block_numbered n c d (Last e) same h few = expression_numbered n c d e same h few
    block_numbered n c d (Let bs e rest) same h few =
        let after = following n (shape w n e) in
        let a : after.next ≡ c + P.within e = (let z = next_after w n e in omega (arith, z, same)) in
        let i : (inside w true after bs).next ≡ c + P.within e + length bs = (let z = next_inside w true after bs in omega (arith, z, a)) in (
          order_at after.next (c + P.within e) d bs a h.1,
          (omega (arith, a, few)),
          expression_numbered n c (d + length bs) e same h.2 (omega (arith, few)),
          block_numbered (inside w true after bs) (c + P.within e + length bs) (d + P.within e + length bs) rest i h.3 (omega (arith, few)),
        )

    clauses_numbered : (own : Bool) (n : Names) (c d : ℕ) (cs : Clauses) → n.next ≡ c → N.NumberedClauses p c d cs → c + P.within_clauses cs ≤ m → NumberedClauses w m own n cs
    clauses_numbered own n c d NoClauses same h few = tt
    clauses_numbered own n c d (MoreClauses r body cs) same h few =
        let i : (inside w own n (binders r)).next ≡ c + length (binders r) = (let z = next_inside w own n (binders r) in omega (arith, z, same)) in
        let o : (past_clause w own n r body).next ≡ c + length (binders r) + P.within_block body = (let z = next_past w own n r body in omega (arith, z, same)) in (
          order_at n.next c d (binders r) same h.0,
          (omega (arith, same, few)),
          block_numbered (inside w own n (binders r)) (c + length (binders r)) (d + length (binders r)) body i h.1 (omega (arith, few)),
          clauses_numbered own (past_clause w own n r body) (c + length (binders r) + P.within_block body) (d + length (binders r) + P.within_block body) cs o h.2 (omega (arith, few)),
        )

-- ---- an instance

within_next : (c : Names) (bs : List Bind) → (within c bs).next ≡ c.next + length bs
within_next c [] = omega arith
within_next c (b ∷ bs) = (let z = within_next (record { marks = c.marks ++ mark c.next b.binder ∷ []; next = suc c.next }) bs in omega (arith, z))

parameters_many : (w : World) (ps : List Param) (bs : List Binder) → length bs ≡ length ps → length (parameters w ps bs) ≡ length ps
parameters_many w [] [] e = refl
parameters_many w [] (b ∷ bs) e = absurd (let z : ⊥ = omega (arith, e) in z)
parameters_many w (q ∷ ps) [] e = absurd (let z : ⊥ = omega (arith, e) in z)
parameters_many w (q ∷ ps) (b ∷ bs) e = ap suc (parameters_many w ps bs (omega (arith, e)))

pub instance_numbered : (p : Program) (w : World) (d : Instance) → N.IsNumbered p d → d.variables ≡ length d.params + P.within_block d.body → IsNumbered w d
instance_numbered p w d h all =
    let names = within no_names (parameters w d.params d.binders) in
    let next : names.next ≡ length d.params = (let z = within_next no_names (parameters w d.params d.binders) in let y = parameters_many w d.params d.binders h.as_many in omega (arith, z, y)) in
    record {
      as_many = h.as_many;
      order = in_order 0 0 d.binders h.parameters;
      many = (omega (arith, all));
      body = block_numbered p w d.variables names (length d.params) (length d.params) d.body next h.body (omega (arith, all));
    }
