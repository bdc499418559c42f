-- Of the rules on ownership, on credits, on tail calls and on the limits of code only so many violations can occur in a
-- program: at the marks of its bodies, at its matches, at its calls and at its instances.
use Rattle.std.proofs.Common.{◌≡◌, ◌⊎◌, inl, inr, ℕ, zero, suc, ◌+◌, ◌<◌, Bool, true, List, [], ◌∷◌, ◌++◌, Some, slice_get, sym, ap, subst, arith}
use Rattle.source_report.specs.fip_language.declared.FunKind.{FunKind}
use Rattle.source_report.specs.fip_language.declared.FunKind.TheVariants.{Fip, Fbip, Fun}
use Rattle.source_report.specs.fip_language.declared.Place.{Place}
use Rattle.source_report.specs.fip_language.declared.limits.TheConstants.{MOST_FIELDS}
use Rattle.source_report.specs.fip_language.declared.rule.Rule.{Rule}
use Rattle.source_report.specs.fip_language.declared.rule.Rule.TheVariants.{E50, E51, E52, E53, E56, E57, E58, E62, E60}
use Rattle.source_report.specs.fip_language.Table.{Table}
use Rattle.source_report.specs.fip_trees.declared.groups.Member.{Member}
use Rattle.source_report.specs.fip_trees.declared.least.Violation.{Violation}
use Rattle.source_report.specs.fip_trees.Least.{In, violation}
use Rattle.source_report.specs.fip_trees.Tree as T
use Rattle.source_report.specs.fip_trees.Tree.{Instance, Program, pattern_place}
use Rattle.source_report.specs.ownership_agreement.fip_rules.Checks as O
use Rattle.source_report.specs.ownership_agreement.fip_rules.Marks.{Mark, reported}
use Rattle.source_report.specs.ownership_agreement.fip_rules.Rules as R
use Rattle.source_report.specs.ownership_agreement.fip_rules.Rules.{broken, owns, Misses}
use Rattle.source_report.specs.ownership_agreement.fip_rules.Shape.{Shape, Skip, Use, Lend, Fault, Then, Either, Bound, Scope}
use Rattle.source_report.specs.ownership_agreement.fip_rules.Shapes.{body}
use Rattle.source_report.specs.ownership_agreement.fip_rules.World.{world, is_fip}
use Rattle.source_report.specs.ownership_agreement.fip_rules.declared.scope.Ownership.{Ownership}
use Rattle.source_report.specs.ownership_agreement.fip_rules.declared.scope.Ownership.TheVariants.{Scalar, Borrowed, Owned}
use Rattle.source_report.specs.credit_check.Credits as C
use Rattle.source_report.specs.credit_check.Needs.{marked, takes, given, need_block, need_clause}
use Rattle.source_report.specs.tail_groups.Rules as Calls
use Rattle.source_report.specs.tail_groups.Sites.{Site, instance_sites}
use Rattle.source_report.specs.call_groups.Groups as G
use Rattle.source_report.specs.cell_lower.Limits as L
use Rattle.source_report.proofs.cell_lower.fip_trees.Leasts.{in_left, in_right}
use Rattle.source_report.proofs.fip_language.Facts.{less_or_same}
use Rattle.report_completeness.proofs.LeastOrNone.{FewBy, Few, itself, few_both, few_of, few_none, few_one}

-- ---- ownership

few_uses : (r : Rule) (i : ℕ) (s : Shape) → FewBy reported (R.Uses r i s)
few_uses r i Skip = few_none reported
few_uses r i (Use m) = few_one reported (broken r i m)
few_uses r i (Lend m) = few_none reported
few_uses r i (Fault q m) = few_none reported
few_uses r i (Then a b) = few_both reported (R.Uses r i a) (R.Uses r i b) (few_uses r i a) (few_uses r i b)
few_uses r i (Either a b) = few_both reported (R.Uses r i a) (R.Uses r i b) (few_uses r i a) (few_uses r i b)
few_uses r i (Bound a) = few_uses r i a
few_uses r i (Scope k m a) = few_uses r i a

few_lends : (r : Rule) (i : ℕ) (s : Shape) → FewBy reported (R.Lends r i s)
few_lends r i Skip = few_none reported
few_lends r i (Use m) = few_none reported
few_lends r i (Lend m) = few_one reported (broken r i m)
few_lends r i (Fault q m) = few_none reported
few_lends r i (Then a b) = few_both reported (R.Lends r i a) (R.Lends r i b) (few_lends r i a) (few_lends r i b)
few_lends r i (Either a b) = few_both reported (R.Lends r i a) (R.Lends r i b) (few_lends r i a) (few_lends r i b)
few_lends r i (Bound a) = few_lends r i a
few_lends r i (Scope k m a) = few_lends r i a

few_again : (i : ℕ) (s : Shape) → FewBy reported (R.Again i s)
few_again i Skip = few_none reported
few_again i (Use m) = few_none reported
few_again i (Lend m) = few_none reported
few_again i (Fault q m) = few_none reported
few_again i (Then a b) =
    let later = few_of reported (λ v. (owns v.mark.id a ≡ true) × R.Uses E50 i b v) (R.Uses E50 i b) (λ v h. h.1) (few_uses E50 i b) in
    few_both reported (R.Again i a) (λ v. R.Again i b v ⊎ ((owns v.mark.id a ≡ true) × R.Uses E50 i b v)) (few_again i a)
    (few_both reported (R.Again i b) (λ v. (owns v.mark.id a ≡ true) × R.Uses E50 i b v) (few_again i b) later)
few_again i (Either a b) = few_both reported (R.Again i a) (R.Again i b) (few_again i a) (few_again i b)
few_again i (Bound a) = few_again i a
few_again i (Scope k m a) = few_again i a

few_late : (i : ℕ) (s : Shape) → FewBy reported (R.Late i s)
few_late i Skip = few_none reported
few_late i (Use m) = few_none reported
few_late i (Lend m) = few_none reported
few_late i (Fault q m) = few_none reported
few_late i (Then a b) =
    let later = few_of reported (λ v. (owns v.mark.id a ≡ true) × R.Lends E51 i b v) (R.Lends E51 i b) (λ v h. h.1) (few_lends E51 i b) in
    few_both reported (R.Late i a) (λ v. R.Late i b v ⊎ ((owns v.mark.id a ≡ true) × R.Lends E51 i b v)) (few_late i a)
    (few_both reported (R.Late i b) (λ v. (owns v.mark.id a ≡ true) × R.Lends E51 i b v) (few_late i b) later)
few_late i (Either a b) = few_both reported (R.Late i a) (R.Late i b) (few_late i a) (few_late i b)
few_late i (Bound a) = few_late i a
few_late i (Scope k m a) = few_late i a

few_exposed : (i : ℕ) (s : Shape) → FewBy reported (R.Exposed i s)
few_exposed i Skip = few_none reported
few_exposed i (Use m) = few_none reported
few_exposed i (Lend m) = few_one reported (broken _ i m)
few_exposed i (Fault q m) = few_none reported
few_exposed i (Then a b) = few_both reported (R.Exposed i a) (R.Exposed i b) (few_exposed i a) (few_exposed i b)
few_exposed i (Either a b) = few_both reported (R.Exposed i a) (R.Exposed i b) (few_exposed i a) (few_exposed i b)
few_exposed i (Bound a) = few_of reported (λ v. (owns v.mark.id a ≡ true) × R.Exposed i a v) (R.Exposed i a) (λ v h. h.1) (few_exposed i a)
few_exposed i (Scope k m a) = few_exposed i a

few_wrong : (i : ℕ) (k : Ownership) (s : Shape) → FewBy reported (R.Wrong i k s)
few_wrong i Scalar s = few_none reported
few_wrong i Borrowed s = few_uses E53 i s
few_wrong i Owned s =
    few_both reported (R.Again i s) (λ v. R.Late i s v ⊎ R.Exposed i s v) (few_again i s)
    (few_both reported (R.Late i s) (R.Exposed i s) (few_late i s) (few_exposed i s))

few_unused : (i : ℕ) (fip : Bool) (k : Ownership) (m : Mark) (s : Shape) → FewBy reported (R.Unused i fip k m s)
few_unused i fip Scalar m s = few_none reported
few_unused i fip Borrowed m s = few_none reported
few_unused i fip Owned m s =
    few_of reported (λ v. (fip ≡ true) × (Misses m.id s × (v ≡ broken E52 i m))) (λ v. v ≡ broken E52 i m) (λ v h. h.1.1) (few_one reported (broken E52 i m))

few_breaks : (i : ℕ) (fip : Bool) (s : Shape) → FewBy reported (R.Breaks i fip s)
few_breaks i fip Skip = few_none reported
few_breaks i fip (Use m) = few_none reported
few_breaks i fip (Lend m) = few_none reported
few_breaks i fip (Fault r m) = few_one reported (broken r i m)
few_breaks i fip (Then a b) = few_both reported (R.Breaks i fip a) (R.Breaks i fip b) (few_breaks i fip a) (few_breaks i fip b)
few_breaks i fip (Either a b) = few_both reported (R.Breaks i fip a) (R.Breaks i fip b) (few_breaks i fip a) (few_breaks i fip b)
few_breaks i fip (Bound a) = few_breaks i fip a
few_breaks i fip (Scope k m a) =
    let own = few_of reported (λ v. (m.id ≡ v.mark.id) × R.Wrong i k a v) (R.Wrong i k a) (λ v h. h.1) (few_wrong i k a) in
    few_both reported (λ v. R.Breaks i fip a v ⊎ ((m.id ≡ v.mark.id) × R.Wrong i k a v)) (R.Unused i fip k m a)
    (few_both reported (R.Breaks i fip a) (λ v. (m.id ≡ v.mark.id) × R.Wrong i k a v) (few_breaks i fip a) own)
    (few_unused i fip k m a)

few_instance : (p : Program) (i : ℕ) (d : Instance) → FewBy reported (O.BreaksInstance p i d)
few_instance p i d =
    few_of reported (O.BreaksInstance p i d) (R.Breaks i (is_fip d.kind) (body (world p d.kind) d)) (λ v h. h.1) (few_breaks i (is_fip d.kind) (body (world p d.kind) d))

few_owned_from : (p : Program) (i : ℕ) (ds : List Instance) → FewBy reported (O.BreaksOne p i ds)
few_owned_from p i [] = few_none reported
few_owned_from p i (d ∷ ds) = few_both reported (O.BreaksInstance p i d) (O.BreaksOne p (suc i) ds) (few_instance p i d) (few_owned_from p (suc i) ds)

pub few_owned : (p : Program) → Few (O.Violates p)
few_owned p = let all = few_owned_from p 0 p.instances in (all.0, λ v h. subst (λ w. In w all.0) (sym h.2) (all.1 h.0 h.1))

-- ---- credits

-- one of each size below n
abbrev sized : Rule → Place → ℕ → ℕ → List Violation
sized r q i zero = []
sized r q i (suc n) = violation r q i n [] ∷ sized r q i n

in_sized : (r : Rule) (q : Place) (i n k : ℕ) → k < n → In (violation r q i k []) (sized r q i n)
in_sized r q i zero k less = absurd (omega (arith, less))
in_sized r q i (suc n) k less = elim (less_or_same n k less) as (λ _. In (violation r q i k []) (sized r q i (suc n))) [
  | inl fewer ↦ inr (in_sized r q i n k fewer)
  | inr same ↦ inl (ap (λ m. violation r q i m []) same)
]

few_less : (r : Rule) (q : Place) (i : ℕ) (f g : ℕ → ℕ) → Few (C.Less r q i f g)
few_less r q i f g = (sized r q i (suc MOST_FIELDS), λ v h. subst (λ w. In w (sized r q i (suc MOST_FIELDS))) (sym h.4) (in_sized r q i (suc MOST_FIELDS) h.0 h.2))

few_idle : (p : Program) (i : ℕ) (taken : Bool) (q : T.Pattern) (b : T.Block) → Few (C.Unused p i taken q b)
few_idle p i taken q b = few_less E57 (pattern_place q) i (λ k. need_block p k b) (λ k. given k taken q)

few_differ : (p : Program) (q : Place) (i : ℕ) (taken : Bool) (f : ℕ → ℕ) (cs : T.Clauses) → Few (C.Differ p q i taken f cs)
few_differ p q i taken f T.NoClauses = few_none itself
few_differ p q i taken f (T.MoreClauses r b cs) =
    few_both itself (λ v. C.Less E58 q i f (λ k. need_clause p k taken r b) v ⊎ C.Less E58 q i (λ k. need_clause p k taken r b) f v) (C.Differ p q i taken f cs)
    (few_both itself (C.Less E58 q i f (λ k. need_clause p k taken r b)) (C.Less E58 q i (λ k. need_clause p k taken r b) f)
    (few_less E58 q i f (λ k. need_clause p k taken r b)) (few_less E58 q i (λ k. need_clause p k taken r b) f))
    (few_differ p q i taken f cs)

mutual
  few_spent : (p : Program) (i : ℕ) (e : T.Expression) → Few (C.Breaks p i e)
  few_spent p i (T.Give a) = few_none itself
  few_spent p i (T.Tuple q as') = few_none itself
  few_spent p i (T.Operation o q l r) = few_none itself
  few_spent p i (T.Call g n q as') = few_none itself
  few_spent p i (T.Match d t q a r b cs) =
      few_both itself (λ v. C.BreaksBlock p i b v ⊎ C.Unused p i (takes p d t) r b v)
      (λ v. C.BreaksClauses p i (takes p d t) cs v ⊎ C.Differ p q i (takes p d t) (λ k. need_clause p k (takes p d t) r b) cs v)
      (few_both itself (C.BreaksBlock p i b) (C.Unused p i (takes p d t) r b) (few_spent_block p i b) (few_idle p i (takes p d t) r b))
      (few_both itself (C.BreaksClauses p i (takes p d t) cs) (C.Differ p q i (takes p d t) (λ k. need_clause p k (takes p d t) r b) cs)
      (few_spent_clauses p i (takes p d t) cs) (few_differ p q i (takes p d t) (λ k. need_clause p k (takes p d t) r b) cs))
  few_spent p i (T.Nested b) = few_spent_block p i b

  few_spent_block : (p : Program) (i : ℕ) (b : T.Block) → Few (C.BreaksBlock p i b)
  few_spent_block p i (T.Last e) = few_spent p i e
  few_spent_block p i (T.Let bs e rest) = few_both itself (C.Breaks p i e) (C.BreaksBlock p i rest) (few_spent p i e) (few_spent_block p i rest)

  few_spent_clauses : (p : Program) (i : ℕ) (taken : Bool) (cs : T.Clauses) → Few (C.BreaksClauses p i taken cs)
  few_spent_clauses p i taken T.NoClauses = few_none itself
  few_spent_clauses p i taken (T.MoreClauses q b cs) =
      few_both itself (λ v. C.BreaksBlock p i b v ⊎ C.Unused p i taken q b v) (C.BreaksClauses p i taken cs)
      (few_both itself (C.BreaksBlock p i b) (C.Unused p i taken q b) (few_spent_block p i b) (few_idle p i taken q b))
      (few_spent_clauses p i taken cs)

few_exceeds : (p : Program) (i : ℕ) (d : Instance) → Few (C.Exceeds p i d)
few_exceeds p i d = few_less E56 d.place i (λ k. marked k d.credits) (λ k. need_block p k d.body)

few_short : (p : Program) (i : ℕ) (d : Instance) → Few (C.FallsShort p i d)
few_short p i d = few_less E62 d.place i (λ k. need_block p k d.body) (λ k. marked k d.credits)

few_credits_of : (p : Program) (i : ℕ) (k : FunKind) (d : Instance) → Few (C.BreaksInstance p i k d)
few_credits_of p i Fip d =
    few_both itself (C.BreaksBlock p i d.body) (λ v. C.Exceeds p i d v ⊎ C.FallsShort p i d v) (few_spent_block p i d.body)
    (few_both itself (C.Exceeds p i d) (C.FallsShort p i d) (few_exceeds p i d) (few_short p i d))
few_credits_of p i Fbip d = few_exceeds p i d
few_credits_of p i Fun d = few_none itself

few_credits_from : (p : Program) (i : ℕ) (ds : List Instance) → Few (C.BreaksOne p i ds)
few_credits_from p i [] = few_none itself
few_credits_from p i (d ∷ ds) = few_both itself (C.BreaksInstance p i d.kind d) (C.BreaksOne p (suc i) ds) (few_credits_of p i d.kind d) (few_credits_from p (suc i) ds)

pub few_credits : (p : Program) → Few (C.Violates p)
few_credits p = few_credits_from p 0 p.instances

-- ---- tail calls

-- one at each call
abbrev at_sites : ℕ → List Site → List Violation
at_sites i [] = []
at_sites i (s ∷ ss) = Calls.reported i s ∷ at_sites i ss

abbrev at_calls : ℕ → List Instance → List Violation
at_calls i [] = []
at_calls i (d ∷ ds) = at_sites i (instance_sites d) ++ at_calls (suc i) ds

in_sites : (i : ℕ) (ss : List Site) (n : ℕ) (s : Site) → slice_get ss n ≡ Some s → In (Calls.reported i s) (at_sites i ss)
in_sites i [] n s e = absurd (cc)
in_sites i (x ∷ ss) zero s e = let same : s ≡ x = cc in inl (ap (Calls.reported i) same)
in_sites i (x ∷ ss) (suc n) s e = inr (in_sites i ss n s e)

in_calls : (i : ℕ) (ds : List Instance) (j : ℕ) (d : Instance) (s : Site) → slice_get ds j ≡ Some d → G.In s (instance_sites d) → In (Calls.reported (i + j) s) (at_calls i ds)
in_calls i [] j d s e h = absurd (cc)
in_calls i (x ∷ ds) zero d s e h =
    let same : d ≡ x = cc in
    let here : i + 0 ≡ i = omega arith in
    in_left (Calls.reported (i + 0) s) (at_sites i (instance_sites x)) (at_calls (suc i) ds)
    (subst (λ n. In (Calls.reported n s) (at_sites i (instance_sites x))) (sym here) (in_sites i (instance_sites x) h.0 s (subst (λ (c : Instance). slice_get (instance_sites c) h.0 ≡ Some s) same h.1)))
in_calls i (x ∷ ds) (suc j) d s e h =
    let there : suc i + j ≡ i + suc j = omega arith in
    in_right (Calls.reported (i + suc j) s) (at_sites i (instance_sites x)) (at_calls (suc i) ds)
    (subst (λ n. In (Calls.reported n s) (at_calls (suc i) ds)) there (in_calls (suc i) ds j d s e h))

pub few_calls : (p : Program) → Few (Calls.Violates p)
few_calls p = (
  at_calls 0 p.instances,
  λ v h. subst (λ w. In w (at_calls 0 p.instances)) (sym h.4)
      (let zero_on : 0 + h.0 ≡ h.0 = omega arith in subst (λ n. In (Calls.reported n h.2) (at_calls 0 p.instances)) zero_on (in_calls 0 p.instances h.0 h.1 h.2 h.3.instance h.3.call)),
)

-- ---- the limits of code

few_limits_from : (tb : Table) (ms : List Member) (i : ℕ) (ds : List Instance) → Few (L.BreaksFrom tb ms i ds)
few_limits_from tb ms i [] = few_none itself
few_limits_from tb ms i (d ∷ ds) =
    few_both itself (λ v. (L.exceeds tb (L.registers ms i) d ≡ true) × (v ≡ violation E60 d.place i 0 d.name)) (L.BreaksFrom tb ms (suc i) ds)
    (few_of itself (λ v. (L.exceeds tb (L.registers ms i) d ≡ true) × (v ≡ violation E60 d.place i 0 d.name)) (λ v. v ≡ violation E60 d.place i 0 d.name) (λ v h. h.1) (few_one itself (violation E60 d.place i 0 d.name)))
    (few_limits_from tb ms (suc i) ds)

pub few_limits : (p : Program) (ms : List Member) → Few (L.Breaks p ms)
few_limits p ms = few_limits_from p.types ms 0 p.instances
