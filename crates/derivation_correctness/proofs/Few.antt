-- A fip or fbip instance of an accepted source has few binders: each has a register, and there are at most 4,096.
use Rattle.std.proofs.Common.{◌≡◌, ◌≤◌, ◌<◌, ◌+◌, ◌||◌, ◌&&◌, inl, inr, ℕ, zero, suc, Bool, true, false, nat_lt, List, [], ◌∷◌, ◌++◌, length, Some, slice_get, refl, sym, ap, ◌∙◌, subst, arith}
use Rattle.std.proofs.lemmas.Bool.Decides.{nat_tests}
use Rattle.source_report.specs.fip_language.declared.limits.TheConstants.{MOST_REGISTERS}
use Rattle.source_report.specs.fip_language.declared.FunKind.{FunKind}
use Rattle.source_report.specs.fip_language.declared.FunKind.TheVariants.{Fip, Fbip, Fun}
use Rattle.source_report.specs.fip_language.declared.rule.Rule.TheVariants.{E60}
use Rattle.source_report.specs.fip_language.Table.{Table}
use Rattle.source_report.specs.fip_trees.declared.groups.Member.{Member}
use Rattle.source_report.specs.fip_trees.declared.program.Binder.{Binder}
use Rattle.source_report.specs.fip_trees.Least.{violation}
use Rattle.source_report.specs.fip_trees.Tree.{Pattern, BinderPattern, LiteralPattern, ConstructorPattern, Patterns, NoPatterns, MorePatterns, Expression, Give, Tuple, Operation, Call, Match, Nested, Block, Last, Let, Clauses, NoClauses, MoreClauses, Instance, Program}
use Rattle.fip_proof.specs.fip_rules.Shapes.{binders, binders_all}
use Rattle.fip_proof.specs.fip_rules.World as O
use Rattle.source_report.proofs.static_params.GoodTypes.{below}
use Rattle.source_report.specs.tail_groups.Registers as R
use Rattle.source_report.specs.cell_lower.Limits.{is_ruled, matches_wide, exceeds, registers, registers_of, BreaksFrom}
use Rattle.source_report.specs.Report.{IsAccepted}
use Rattle.fip_proof.specs.derivation_check.Scopes.{within, within_block, within_clauses}
use Rattle.source_report.proofs.cell_lower.fip_language.Facts.{get_there as there}

both_many : (xs ys : List Binder) → length (xs ++ ys) ≡ length xs + length ys
both_many [] ys = omega arith
both_many (x ∷ xs) ys = let r = both_many xs ys in omega (arith, r)

mutual
  pattern_few : (p : Pattern) → length (binders p) ≤ R.in_pattern p
  pattern_few (BinderPattern b) = omega arith
  pattern_few (LiteralPattern i p) = omega arith
  pattern_few (ConstructorPattern t d c x p ps) = let r = patterns_few ps in omega (arith, r)

  patterns_few : (ps : Patterns) → length (binders_all ps) ≤ R.in_patterns ps
  patterns_few NoPatterns = omega arith
  patterns_few (MorePatterns p ps) =
      let e = both_many (binders p) (binders_all ps) in
      let a = pattern_few p in
      let b = patterns_few ps in
      omega (arith, e, a, b)

mutual
  expression_few : (e : Expression) → within e ≤ R.in_expression e
  expression_few (Give a) = omega arith
  expression_few (Tuple p as') = omega arith
  expression_few (Operation o p l r) = omega arith
  expression_few (Call g x p as') = omega arith
  expression_few (Match d t p a q b cs) =
      let x = pattern_few q in
      let y = block_few b in
      let z = clauses_few cs in
      omega (arith, x, y, z)
  expression_few (Nested b) = block_few b

  block_few : (b : Block) → within_block b ≤ R.in_block b
  block_few (Last e) = expression_few e
  block_few (Let bs e rest) =
      let x = expression_few e in
      let y = block_few rest in
      omega (arith, x, y)

  clauses_few : (cs : Clauses) → within_clauses cs ≤ R.in_clauses cs
  clauses_few NoClauses = omega arith
  clauses_few (MoreClauses q b cs) =
      let x = pattern_few q in
      let y = block_few b in
      let z = clauses_few cs in
      omega (arith, x, y, z)

-- ---- at most 4,096 registers

breaks_at : (tb : Table) (ms : List Member) (i : ℕ) (ds : List Instance) (j : ℕ) (d : Instance) → slice_get ds j ≡ Some d → exceeds tb (registers ms (i + j)) d ≡ true → BreaksFrom tb ms i ds (violation E60 d.place (i + j) 0 d.name)
breaks_at tb ms i [] j d at h = absurd (cc)
breaks_at tb ms i (x ∷ xs) zero d at h =
    let same : d ≡ x = cc in
    let e : i + zero ≡ i = omega arith in
    inl (
      subst (λ (y : Instance). exceeds tb (registers ms i) y ≡ true) same (subst (λ k. exceeds tb (registers ms k) d ≡ true) e h),
      ap (λ k. violation E60 d.place k 0 d.name) e ∙ ap (λ (y : Instance). violation E60 y.place i 0 y.name) same,
    )
breaks_at tb ms i (x ∷ xs) (suc j) d at h =
    let e : suc i + j ≡ i + suc j = omega arith in
    inr (subst (λ k. BreaksFrom tb ms (suc i) xs (violation E60 d.place k 0 d.name)) e
    (breaks_at tb ms (suc i) xs j d at (subst (λ k. exceeds tb (registers ms k) d ≡ true) (sym e) h)))

not_many : (n : ℕ) → (nat_lt MOST_REGISTERS n ≡ true → ⊥) → n < suc MOST_REGISTERS
not_many n h = by (nat_lt MOST_REGISTERS n) refl
  where
    by : (b : Bool) → nat_lt MOST_REGISTERS n ≡ b → n < suc MOST_REGISTERS
    by true e = absurd (h e)
    by false e = grind (arith, nat_tests)

same_ruled : (k : FunKind) → O.is_ruled k ≡ is_ruled k
same_ruled Fip = refl
same_ruled Fbip = refl
same_ruled Fun = refl

exceeds_by : (tb : Table) (n : ℕ) (d : Instance) → is_ruled d.kind ≡ true → nat_lt MOST_REGISTERS n ≡ true → exceeds tb n d ≡ true
exceeds_by tb n d r m = ap (λ b. b && (nat_lt MOST_REGISTERS n || matches_wide tb d)) r ∙ ap (λ b. b || matches_wide tb d) m

pub few_registers : (source : List ℕ) (p : Program) → IsAccepted source p → (j : ℕ) (d : Instance) → slice_get p.instances j ≡ Some d → O.is_ruled d.kind ≡ true → R.registers d ≤ MOST_REGISTERS
few_registers source p h j d at ruled =
    let inside = below p.instances j d at in
    let size = h.groups.size in
    let member = there h.members j (omega (arith, inside, size)) in
    let own : registers h.members j ≡ R.registers d = ap registers_of member.1 ∙ h.groups.counted j d member.0 at member.1 in
    let zeroth : 0 + j ≡ j = omega arith in
    let few = not_many (registers h.members j) (λ m. h.unbroken (violation E60 d.place (0 + j) 0 d.name)
    (breaks_at p.types h.members 0 p.instances j d at
    (subst (λ k. exceeds p.types (registers h.members k) d ≡ true) (sym zeroth) (exceeds_by p.types (registers h.members j) d (sym (same_ruled d.kind) ∙ ruled) m)))) in
    omega (arith, own, few)

pub few_binders : (source : List ℕ) (p : Program) → IsAccepted source p → (j : ℕ) (d : Instance) → slice_get p.instances j ≡ Some d → O.is_ruled d.kind ≡ true → length d.params + within_block d.body ≤ 4294967296
few_binders source p h j d at ruled =
    let few = few_registers source p h j d at ruled in
    let body = block_few d.body in
    omega (arith, few, body)
