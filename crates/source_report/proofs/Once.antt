-- A source has one report at most, and none where it is accepted. In order, each phase either passes, and then all before
-- it do, or it has violations, and then it doesn't pass; and of one phase's violations one is the least, as far as its
-- rank goes.
use Rattle.std.proofs.Common.{◌≡◌, ◌≤◌, ◌<◌, ◌+◌, ◌-◌, ◌==◌, inl, inr, ℕ, zero, suc, Bool, true, false, nat_lt, List, [], ◌∷◌, length, Some, slice_get, if◌then◌else◌, refl, sym, ap, ap₂, ◌∙◌, subst, arith}
use Rattle.std.proofs.lemmas.Bool.Decides.{nat_tests}
use Rattle.cell_lower.specs.fip_language.declared.Place.{Place}
use Rattle.cell_lower.specs.fip_language.declared.limits.TheConstants.{MOST_SOURCE_BYTES, MOST_INSTANCES}
use Rattle.cell_lower.specs.fip_language.declared.rule.Rule.{Rule}
use Rattle.cell_lower.specs.fip_language.declared.rule.Rule.TheVariants.{E05}
use Rattle.cell_lower.specs.fip_language.RuleOrder.{number}
use Rattle.cell_lower.specs.fip_language.Core.{Core}
use Rattle.cell_lower.specs.fip_language.CoreForm.{core_form}
use Rattle.cell_lower.specs.fip_base.declared.refusal.Refusal.{Refusal}
use Rattle.fip_grammar.specs.Limits.{IsMisspelt}
use Rattle.fip_grammar.proofs.Least.{misspelt_once, spelt_once, spelt_or_misspelt}
use Rattle.cell_lower.specs.fip_trees.declared.groups.Member.{Member}
use Rattle.cell_lower.specs.fip_trees.declared.least.Violation.{Violation}
use Rattle.cell_lower.specs.fip_trees.Least.{In, smaller, rank, comes_before, IsLeast, IsLeastOf, refusal}
use Rattle.cell_lower.specs.fip_trees.Tree as T
use Rattle.cell_lower.specs.fip_trees.Tree.{Program}
use Rattle.static_params.specs.data_types.Answers as Declaring
use Rattle.static_params.specs.Answers as Statics
use Rattle.static_params.specs.reached_instances.closed_types.Closed.{Closed}
use Rattle.static_params.specs.FlatProgram.{Numbers, flat_program}
use Rattle.static_params.specs.reached_instances.closed_types.Instances.{roots, calls_from, all_faults, passed_to}
use Rattle.static_params.specs.reached_instances.closed_types.TypeInstances.{type_roots, parts_of}
use Rattle.static_params.specs.reached_instances.closed_types.Source.{Source}
use Rattle.static_params.specs.reached_instances.closed_types.Numbering.{AreMore}
use Rattle.lowering_simulation.specs.type_check.Faults.{type_faults, filled}
use Rattle.source_report.specs.MatchRules.{shape_faults, CoverFault}
use Rattle.ownership_agreement.specs.fip_rules.Checks as Owning
use Rattle.ownership_agreement.specs.credit_check.Credits as Credits
use Rattle.cell_lower.specs.tail_groups.Members.{AreMembers}
use Rattle.cell_lower.specs.tail_groups.Rules as Calls
use Rattle.cell_lower.specs.Limits as Limits
use Rattle.static_params.specs.FlatSource.{flat_source}
use Rattle.source_report.specs.Report
use Rattle.source_report.specs.Report.{bare, at, IsParsed, IsDeclared, IsFlat, IsTyped, IsMatched, IsOwned, IsCredited, IsTailed, IsAccepted, Reports}
use Rattle.source_report.specs.Same.{AreSame}
use Rattle.source_report.proofs.RuleNumbers.{rule_once}
use Rattle.source_report.proofs.Numbered.{numbered_once, not_more}
use Rattle.cell_lower.proofs.fip_language.Facts.{get_there as there, get_within as below, same_number}

-- ---- two least violations have one rank

one_before : (m n : ℕ) → (m == n) ≡ false → nat_lt m n ≡ false → nat_lt n m ≡ false → ⊥
one_before m n e f g = grind (arith, nat_tests)

other_way : (m n : ℕ) → (m == n) ≡ false → (n == m) ≡ false
other_way m n e = grind (arith, nat_tests)

same_way : (m n : ℕ) → (m == n) ≡ true → (n == m) ≡ true
same_way m n e = grind (arith, nat_tests)

rank_once : (xs ys : List ℕ) → smaller xs ys ≡ false → smaller ys xs ≡ false → xs ≡ ys
rank_once [] [] h k = refl
rank_once [] (y ∷ ys) h k = absurd (cc)
rank_once (x ∷ xs) [] h k = absurd (cc)
rank_once (x ∷ xs) (y ∷ ys) h k = by (x == y) refl (rank_once xs ys)
  where
    by : (b : Bool) → (x == y) ≡ b → (smaller xs ys ≡ false → smaller ys xs ≡ false → xs ≡ ys) → x ∷ xs ≡ y ∷ ys
    by true e later =
        let f : smaller xs ys ≡ false = sym (ap (λ b. if b then smaller xs ys else nat_lt x y) e) ∙ h in
        let g : smaller ys xs ≡ false = sym (ap (λ b. if b then smaller ys xs else nat_lt y x) (same_way x y e)) ∙ k in
        ap₂ (λ z zs. z ∷ zs) (same_number x y e) (later f g)
    by false e later =
        let f : nat_lt x y ≡ false = sym (ap (λ b. if b then smaller xs ys else nat_lt x y) e) ∙ h in
        let g : nat_lt y x ≡ false = sym (ap (λ b. if b then smaller ys xs else nat_lt y x) (other_way x y e)) ∙ k in
        absurd (one_before x y e f g)

abbrev get : ℕ → List ℕ → ℕ
get n [] = 0
get zero (x ∷ xs) = x
get (suc n) (x ∷ xs) = get n xs

abbrev following : ℕ → List ℕ → List ℕ
following zero xs = xs
following (suc n) [] = []
following (suc n) (x ∷ xs) = following n xs

same_refusal : (v w : Violation) → rank v ≡ rank w → AreSame (refusal v) (refusal w)
same_refusal v w e =
    let first : v.place.at ≡ w.place.at = ap (λ (l : List ℕ). get 0 l) e in
    let second : number v.rule ≡ number w.rule = ap (λ (l : List ℕ). get 1 l) e in
    let fourth : v.size ≡ w.size = ap (λ (l : List ℕ). get 3 l) e in
    let rest : v.detail ≡ w.detail = ap (λ (l : List ℕ). following 4 l) e in
    record { rule = rule_once v.rule w.rule second; offset = ap (λ n. Some n) first; size = fourth; detail = rest }

-- two violations, each of them of what the other is the least of
least_once : (v w : Violation) → comes_before v w ≡ false → comes_before w v ≡ false → AreSame (refusal v) (refusal w)
least_once v w h k = same_refusal v w (rank_once (rank v) (rank w) h k)

by_refusals : (v w : Violation) (q r : Refusal) → q ≡ refusal v → r ≡ refusal w → AreSame (refusal v) (refusal w) → AreSame q r
by_refusals v w q r e f h = subst (λ r. AreSame q r) (sym f) (subst (λ q. AreSame q (refusal w)) (sym e) h)

least_of_once : (P : Violation → Type 0) (v w : Violation) → IsLeastOf P v → IsLeastOf P w → AreSame (refusal v) (refusal w)
least_of_once P v w h k = least_once v w (k.least v h.violated) (h.least w k.violated)

list_once : (vs : List Violation) (v w : Violation) → IsLeast vs v → IsLeast vs w → AreSame (refusal v) (refusal w)
list_once vs v w h k = least_once v w (k.least v h.violated) (h.least w k.violated)

pub none_in : (vs : List Violation) (v : Violation) → vs ≡ [] → IsLeast vs v → ⊥
none_in vs v e h = subst (λ l. In v l) e h.violated

-- ---- what a source becomes is one

pub parsed_once : (source : List ℕ) (c d : Core) → IsParsed source c → IsParsed source d → c ≡ d
parsed_once source c d h k = h.is ∙ ap core_form (spelt_once source h.tree k.tree h.spelt k.spelt) ∙ sym k.is

pub instances_once : (s : Source) (is js : List Closed) → Statics.AreFewInstances s is → Statics.AreFewInstances s js → is ≡ js
instances_once s is js h k = numbered_once (roots s) (calls_from s) is js h.instances k.instances

pub numbers_once : (s : Source) (m n : Numbers) → Statics.AreFew s m → Statics.AreFew s n → m ≡ n
numbers_once s m n h k =
    let instances = instances_once s m.instances n.instances h.instances k.instances in
    let passed = numbered_once m.instances passed_to h.passed k.passed h.given (subst (λ is. Rattle.static_params.specs.reached_instances.closed_types.Instances.ArePassed is k.passed) (sym instances) k.given) in
    let types = numbered_once (type_roots s m.instances h.passed) (parts_of s) m.types n.types h.types
    (subst (λ ps. Rattle.static_params.specs.reached_instances.closed_types.TypeInstances.AreTypes s m.instances ps n.types) (sym passed) (subst (λ is. Rattle.static_params.specs.reached_instances.closed_types.TypeInstances.AreTypes s is k.passed n.types) (sym instances) k.types)) in
    λ i. record { instances = instances i; types = types i }

pub flat_once : (source : List ℕ) (p q : Program) → IsFlat source p → IsFlat source q → p ≡ q
flat_once source p q h k =
    let core = parsed_once source h.core k.core h.declared.parsed k.declared.parsed in
    let numbers = numbers_once (flat_source h.core) h.numbers k.numbers h.few (subst (λ c. Statics.AreFew (flat_source c) k.numbers) (sym core) k.few) in
    h.is ∙ ap₂ (λ c n. flat_program (flat_source c) n) core numbers ∙ sym k.is

pub typed_once : (source : List ℕ) (p q : Program) → IsTyped source p → IsTyped source q → p ≡ q
typed_once source p q h k = h.is ∙ ap filled (flat_once source h.untyped k.untyped h.flat k.flat) ∙ sym k.is

typed_of_tailed : (source : List ℕ) (p : Program) → IsTailed source p → IsTyped source p
typed_of_tailed source p h = h.credited.owned.matched.typed

pub accepted_once : (source : List ℕ) (p q : Program) → IsAccepted source p → IsAccepted source q → p ≡ q
accepted_once source p q h k = typed_once source p q (typed_of_tailed source p h.tailed) (typed_of_tailed source q k.tailed)

-- ---- the limits of code don't depend on how the groups are numbered

registers_same : (ds : List T.Instance) (ms ns : List Member) (i : ℕ) (d : T.Instance) → AreMembers ds ms → AreMembers ds ns → slice_get ds i ≡ Some d → Limits.registers ms i ≡ Limits.registers ns i
registers_same ds ms ns i d h k e =
    let one = there ms i (let b = below ds i d e in let s = h.size in omega (arith, b, s)) in
    let two = there ns i (let b = below ds i d e in let s = k.size in omega (arith, b, s)) in
    ap Limits.registers_of one.1 ∙ h.counted i d one.0 e one.1 ∙ sym (k.counted i d two.0 e two.1) ∙ sym (ap Limits.registers_of two.1)

limits_from : (tb : _) (all : List T.Instance) (ms ns : List Member) (i : ℕ) (ds : List T.Instance) (v : Violation) → AreMembers all ms → AreMembers all ns → ((j : ℕ) (d : T.Instance) → slice_get ds j ≡ Some d → slice_get all (i + j) ≡ Some d) → Limits.BreaksFrom tb ms i ds v → Limits.BreaksFrom tb ns i ds v
limits_from tb all ms ns i [] v h k r b = absurd b
limits_from tb all ms ns i (d ∷ ds) v h k r (inl b) =
    let at : slice_get all i ≡ Some d = (let e : i + 0 ≡ i = omega arith in subst (λ n. slice_get all n ≡ Some d) e (r 0 d refl)) in
    let same = registers_same all ms ns i d h k at in
    inl (subst (λ n. Limits.exceeds tb n d ≡ true) same b.0, b.1)
limits_from tb all ms ns i (d ∷ ds) v h k r (inr b) =
    inr (limits_from tb all ms ns (suc i) ds v h k (λ j e f. let s : i + suc j ≡ suc i + j = omega arith in subst (λ n. slice_get all n ≡ Some e) s (r (suc j) e f)) b)

limits_same : (p : Program) (ms ns : List Member) (v : Violation) → AreMembers p.instances ms → AreMembers p.instances ns → Limits.Breaks p ms v → Limits.Breaks p ns v
limits_same p ms ns v h k b = limits_from p.types p.instances ms ns 0 p.instances v h k (λ j d e. let s : j ≡ 0 + j = omega arith in subst (λ n. slice_get p.instances n ≡ Some d) s e) b

-- ---- the phases in order

-- the source passes the phases before this one
abbrev Passes : List ℕ → ℕ → Type 0
Passes source zero = Unit {0}
Passes source (suc zero) = length source ≤ MOST_SOURCE_BYTES
Passes source (suc (suc zero)) = (core : Core) × IsParsed source core
Passes source (suc (suc (suc zero))) = (core : Core) × IsDeclared source core
Passes source (suc (suc (suc (suc zero)))) = (p : Program) × IsFlat source p
Passes source (suc (suc (suc (suc (suc zero))))) = (p : Program) × IsTyped source p
Passes source (suc (suc (suc (suc (suc (suc zero)))))) = (p : Program) × IsTyped source p × (shape_faults 0 p.instances ≡ [])
Passes source (suc (suc (suc (suc (suc (suc (suc zero))))))) = (p : Program) × IsMatched source p
Passes source (suc (suc (suc (suc (suc (suc (suc (suc zero)))))))) = (p : Program) × IsOwned source p
Passes source (suc (suc (suc (suc (suc (suc (suc (suc (suc zero))))))))) = (p : Program) × IsCredited source p
Passes source (suc (suc (suc (suc (suc (suc (suc (suc (suc (suc zero)))))))))) = (p : Program) × IsTailed source p
Passes source (suc (suc (suc (suc (suc (suc (suc (suc (suc (suc (suc n))))))))))) = (p : Program) × IsAccepted source p

passes_before : (source : List ℕ) (n : ℕ) → Passes source (suc n) → Passes source n
passes_before source zero h = tt
passes_before source (suc zero) h = h.1.short
passes_before source (suc (suc zero)) h = (h.0, h.1.parsed)
passes_before source (suc (suc (suc zero))) h = (h.1.core, h.1.declared)
passes_before source (suc (suc (suc (suc zero)))) h = (h.1.untyped, h.1.flat)
passes_before source (suc (suc (suc (suc (suc zero))))) h = (h.0, h.1)
passes_before source (suc (suc (suc (suc (suc (suc zero)))))) h = (h.0, h.1.typed, h.1.shapes)
passes_before source (suc (suc (suc (suc (suc (suc (suc zero))))))) h = (h.0, h.1.matched)
passes_before source (suc (suc (suc (suc (suc (suc (suc (suc zero)))))))) h = (h.0, h.1.owned)
passes_before source (suc (suc (suc (suc (suc (suc (suc (suc (suc zero))))))))) h = (h.0, h.1.credited)
passes_before source (suc (suc (suc (suc (suc (suc (suc (suc (suc (suc zero)))))))))) h = (h.0, h.1.tailed)
passes_before source (suc (suc (suc (suc (suc (suc (suc (suc (suc (suc (suc n))))))))))) h = h

passes_down : (source : List ℕ) (m n : ℕ) → Passes source (m + n) → Passes source n
passes_down source zero n h = let e : 0 + n ≡ n = omega arith in subst (Passes source) e h
passes_down source (suc m) n h = let e : suc m + n ≡ suc (m + n) = omega arith in passes_down source m n (passes_before source (m + n) (subst (Passes source) e h))

-- the source passes the phases before this one, and this one says r of it
abbrev Breaks : List ℕ → ℕ → Refusal → Type 0
Breaks source zero r = (MOST_SOURCE_BYTES < length source) × (r ≡ bare E05)
Breaks source (suc zero) r = (rule : Rule) × (p : Place) × (length source ≤ MOST_SOURCE_BYTES) × IsMisspelt source rule p × (r ≡ at rule p)
Breaks source (suc (suc zero)) r = (core : Core) × (v : Violation) × IsParsed source core × Declaring.IsFirst core v × (r ≡ refusal v)
Breaks source (suc (suc (suc zero))) r = (core : Core) × (v : Violation) × IsDeclared source core × Statics.Names (flat_source core) v × (r ≡ refusal v)
Breaks source (suc (suc (suc (suc zero)))) r = (p : Program) × (v : Violation) × IsFlat source p × IsLeast (type_faults p) v × (r ≡ refusal v)
Breaks source (suc (suc (suc (suc (suc zero))))) r = (p : Program) × (v : Violation) × IsTyped source p × IsLeast (shape_faults 0 p.instances) v × (r ≡ refusal v)
Breaks source (suc (suc (suc (suc (suc (suc zero)))))) r = (p : Program) × (v : Violation) × IsTyped source p × (shape_faults 0 p.instances ≡ []) × IsLeastOf (CoverFault p.types 0 p.instances) v × (r ≡ refusal v)
Breaks source (suc (suc (suc (suc (suc (suc (suc zero))))))) r = (p : Program) × (v : Violation) × IsMatched source p × IsLeastOf (Owning.Violates p) v × (r ≡ refusal v)
Breaks source (suc (suc (suc (suc (suc (suc (suc (suc zero)))))))) r = (p : Program) × (v : Violation) × IsOwned source p × IsLeastOf (Credits.Violates p) v × (r ≡ refusal v)
Breaks source (suc (suc (suc (suc (suc (suc (suc (suc (suc zero))))))))) r = (p : Program) × (v : Violation) × IsCredited source p × IsLeastOf (Calls.Violates p) v × (r ≡ refusal v)
Breaks source (suc (suc (suc (suc (suc (suc (suc (suc (suc (suc zero)))))))))) r = (p : Program) × (ms : List Member) × (v : Violation) × IsTailed source p × AreMembers p.instances ms × IsLeastOf (Limits.Breaks p ms) v × (r ≡ refusal v)
Breaks source (suc (suc (suc (suc (suc (suc (suc (suc (suc (suc (suc n))))))))))) r = ⊥

-- ---- what breaks a phase doesn't pass it

pub statics_broken : (s : Source) (v : Violation) (n : Numbers) → Statics.Names s v → Statics.AreFew s n → all_faults s n.instances ≡ [] → ⊥
statics_broken s v n (inl h) few none = not_more (roots s) (calls_from s) MOST_INSTANCES n.instances few.instances.instances few.instances.few h.0
statics_broken s v n (inr (inl h)) few none =
    let instances = instances_once s h.instances n.instances h.few few.instances in
    let given = subst (λ is. Rattle.static_params.specs.reached_instances.closed_types.Instances.ArePassed is h.many.passed) instances h.many.given in
    let passed = numbered_once n.instances passed_to h.many.passed few.passed given few.given in
    let many = subst (λ ps. AreMore MOST_INSTANCES (type_roots s n.instances ps) (parts_of s)) passed (subst (λ is. AreMore MOST_INSTANCES (type_roots s is h.many.passed) (parts_of s)) instances h.many.many) in
    not_more (type_roots s n.instances few.passed) (parts_of s) MOST_INSTANCES n.types few.types few.few_types many
statics_broken s v n (inr (inr h)) few none =
    let same = numbers_once s h.numbers n h.few few in
    none_in (all_faults s h.numbers.instances) v (ap (λ (m : Numbers). all_faults s m.instances) same ∙ none) h.least

not_passed : (source : List ℕ) (n : ℕ) (r : Refusal) → Breaks source n r → Passes source (suc n) → ⊥
not_passed source zero r b h = let above = b.0 in omega (arith, above, h)
not_passed source (suc zero) r b h = spelt_or_misspelt source h.1.tree b.0 b.1 h.1.spelt b.3
not_passed source (suc (suc zero)) r b h =
    let same = parsed_once source b.0 h.0 b.2 h.1.parsed in
    h.1.unbroken b.1 (subst (λ c. Declaring.Violates c b.1) same b.3.violated)
not_passed source (suc (suc (suc zero))) r b h =
    let same = parsed_once source b.0 h.1.core b.2.parsed h.1.declared.parsed in
    statics_broken (flat_source h.1.core) b.1 h.1.numbers (subst (λ c. Statics.Names (flat_source c) b.1) same b.3) h.1.few h.1.unbroken
not_passed source (suc (suc (suc (suc zero)))) r b h =
    let same = flat_once source b.0 h.1.untyped b.2 h.1.flat in
    none_in (type_faults b.0) b.1 (ap type_faults same ∙ h.1.typed) b.3
not_passed source (suc (suc (suc (suc (suc zero))))) r b h =
    let same = typed_once source b.0 h.0 b.2 h.1 in
    none_in (shape_faults 0 b.0.instances) b.1 (ap (λ (p : Program). shape_faults 0 p.instances) same ∙ h.2) b.3
not_passed source (suc (suc (suc (suc (suc (suc zero)))))) r b h =
    let same = typed_once source b.0 h.0 b.2 h.1.typed in
    h.1.right.unbroken b.1 (subst (λ (p : Program). CoverFault p.types 0 p.instances b.1) same b.4.violated)
not_passed source (suc (suc (suc (suc (suc (suc (suc zero))))))) r b h =
    let same = typed_once source b.0 h.0 b.2.typed h.1.matched.typed in
    h.1.unbroken b.1 (subst (λ p. Owning.Violates p b.1) same b.3.violated)
not_passed source (suc (suc (suc (suc (suc (suc (suc (suc zero)))))))) r b h =
    let same = typed_once source b.0 h.0 b.2.matched.typed h.1.owned.matched.typed in
    h.1.unbroken b.1 (subst (λ p. Credits.Violates p b.1) same b.3.violated)
not_passed source (suc (suc (suc (suc (suc (suc (suc (suc (suc zero))))))))) r b h =
    let same = typed_once source b.0 h.0 b.2.owned.matched.typed h.1.credited.owned.matched.typed in
    h.1.unbroken b.1 (subst (λ p. Calls.Violates p b.1) same b.3.violated)
not_passed source (suc (suc (suc (suc (suc (suc (suc (suc (suc (suc zero)))))))))) r b h =
    let same = typed_once source b.0 h.0 (typed_of_tailed source b.0 b.3) (typed_of_tailed source h.0 h.1.tailed) in
    let groups = subst (λ (p : Program). AreMembers p.instances b.1) same b.4 in
    h.1.unbroken b.2 (limits_same h.0 b.1 h.1.members b.2 groups h.1.groups (subst (λ p. Limits.Breaks p b.1 b.2) same b.5.violated))
not_passed source (suc (suc (suc (suc (suc (suc (suc (suc (suc (suc (suc n))))))))))) r b h = b

-- ---- one phase says one thing

statics_least : (s : Source) (v w : Violation) → Statics.Names s v → Statics.Names s w → AreSame (refusal v) (refusal w)
statics_least s v w (inl h) (inl k) = by_refusals v w (refusal v) (refusal w) refl refl (equal_same v w (h.1 ∙ sym k.1))
  where
    equal_same : (v w : Violation) → v ≡ w → AreSame (refusal v) (refusal w)
    equal_same v w e = same_refusal v w (ap rank e)
statics_least s v w (inl h) (inr (inl k)) = absurd (not_more (roots s) (calls_from s) MOST_INSTANCES k.instances k.few.instances k.few.few h.0)
statics_least s v w (inl h) (inr (inr k)) = absurd (not_more (roots s) (calls_from s) MOST_INSTANCES k.numbers.instances k.few.instances.instances k.few.instances.few h.0)
statics_least s v w (inr (inl h)) (inl k) = absurd (not_more (roots s) (calls_from s) MOST_INSTANCES h.instances h.few.instances h.few.few k.0)
statics_least s v w (inr (inl h)) (inr (inl k)) = same_refusal v w (ap rank (h.is ∙ sym k.is))
statics_least s v w (inr (inl h)) (inr (inr k)) = absurd (types_many s v k.numbers h k.few)
  where
    types_many : (s : Source) (v : Violation) (n : Numbers) → Statics.IsManyTypes s v → Statics.AreFew s n → ⊥
    types_many s v n h few =
        let instances = instances_once s h.instances n.instances h.few few.instances in
        let passed = numbered_once n.instances passed_to h.many.passed few.passed (subst (λ is. Rattle.static_params.specs.reached_instances.closed_types.Instances.ArePassed is h.many.passed) instances h.many.given) few.given in
        not_more (type_roots s n.instances few.passed) (parts_of s) MOST_INSTANCES n.types few.types few.few_types
        (subst (λ ps. AreMore MOST_INSTANCES (type_roots s n.instances ps) (parts_of s)) passed (subst (λ is. AreMore MOST_INSTANCES (type_roots s is h.many.passed) (parts_of s)) instances h.many.many))
statics_least s v w (inr (inr h)) (inl k) = absurd (not_more (roots s) (calls_from s) MOST_INSTANCES h.numbers.instances h.few.instances.instances h.few.instances.few k.0)
statics_least s v w (inr (inr h)) (inr (inl k)) = absurd (types_many s w h.numbers k h.few)
  where
    types_many : (s : Source) (v : Violation) (n : Numbers) → Statics.IsManyTypes s v → Statics.AreFew s n → ⊥
    types_many s v n h few =
        let instances = instances_once s h.instances n.instances h.few few.instances in
        let passed = numbered_once n.instances passed_to h.many.passed few.passed (subst (λ is. Rattle.static_params.specs.reached_instances.closed_types.Instances.ArePassed is h.many.passed) instances h.many.given) few.given in
        not_more (type_roots s n.instances few.passed) (parts_of s) MOST_INSTANCES n.types few.types few.few_types
        (subst (λ ps. AreMore MOST_INSTANCES (type_roots s n.instances ps) (parts_of s)) passed (subst (λ is. AreMore MOST_INSTANCES (type_roots s is h.many.passed) (parts_of s)) instances h.many.many))
statics_least s v w (inr (inr h)) (inr (inr k)) =
    let same = numbers_once s h.numbers k.numbers h.few k.few in
    list_once (all_faults s h.numbers.instances) v w h.least (subst (λ (m : Numbers). IsLeast (all_faults s m.instances) w) (sym same) k.least)

misspelt_same : (r s : Rule) (p q : Place) → r ≡ s → p ≡ q → AreSame (at r p) (at s q)
misspelt_same r s p q e f = record { rule = e; offset = ap (λ (p : Place). Some p.at) f; size = refl; detail = refl }

phase_once : (source : List ℕ) (n : ℕ) (q r : Refusal) → Breaks source n q → Breaks source n r → AreSame q r
phase_once source zero q r b h =
    subst (λ r. AreSame q r) (b.1 ∙ sym h.1) (record { rule = refl; offset = refl; size = refl; detail = refl })
phase_once source (suc zero) q r b h =
    let same = misspelt_once source b.0 h.0 b.1 h.1 b.3 h.3 in
    subst (λ r. AreSame q r) (sym h.4) (subst (λ q. AreSame q (at h.0 h.1)) (sym b.4) (misspelt_same b.0 h.0 b.1 h.1 same.0 same.1))
phase_once source (suc (suc zero)) q r b h =
    let same = parsed_once source b.0 h.0 b.2 h.2 in
    let first = subst (λ c. Declaring.IsFirst c h.1) (sym same) h.3 in
    by_refusals b.1 h.1 q r b.4 h.4 (least_once b.1 h.1 (first.least b.1 b.3.violated) (b.3.least h.1 first.violated))
phase_once source (suc (suc (suc zero))) q r b h =
    let same = parsed_once source b.0 h.0 b.2.parsed h.2.parsed in
    by_refusals b.1 h.1 q r b.4 h.4 (statics_least (flat_source b.0) b.1 h.1 b.3 (subst (λ c. Statics.Names (flat_source c) h.1) (sym same) h.3))
phase_once source (suc (suc (suc (suc zero)))) q r b h =
    let same = flat_once source b.0 h.0 b.2 h.2 in
    by_refusals b.1 h.1 q r b.4 h.4 (list_once (type_faults b.0) b.1 h.1 b.3 (subst (λ p. IsLeast (type_faults p) h.1) (sym same) h.3))
phase_once source (suc (suc (suc (suc (suc zero))))) q r b h =
    let same = typed_once source b.0 h.0 b.2 h.2 in
    by_refusals b.1 h.1 q r b.4 h.4 (list_once (shape_faults 0 b.0.instances) b.1 h.1 b.3 (subst (λ (p : Program). IsLeast (shape_faults 0 p.instances) h.1) (sym same) h.3))
phase_once source (suc (suc (suc (suc (suc (suc zero)))))) q r b h =
    let same = typed_once source b.0 h.0 b.2 h.2 in
    by_refusals b.1 h.1 q r b.5 h.5 (least_of_once (CoverFault b.0.types 0 b.0.instances) b.1 h.1 b.4 (subst (λ (p : Program). IsLeastOf (CoverFault p.types 0 p.instances) h.1) (sym same) h.4))
phase_once source (suc (suc (suc (suc (suc (suc (suc zero))))))) q r b h =
    let same = typed_once source b.0 h.0 b.2.typed h.2.typed in
    by_refusals b.1 h.1 q r b.4 h.4 (least_of_once (Owning.Violates b.0) b.1 h.1 b.3 (subst (λ p. IsLeastOf (Owning.Violates p) h.1) (sym same) h.3))
phase_once source (suc (suc (suc (suc (suc (suc (suc (suc zero)))))))) q r b h =
    let same = typed_once source b.0 h.0 b.2.matched.typed h.2.matched.typed in
    by_refusals b.1 h.1 q r b.4 h.4 (least_of_once (Credits.Violates b.0) b.1 h.1 b.3 (subst (λ p. IsLeastOf (Credits.Violates p) h.1) (sym same) h.3))
phase_once source (suc (suc (suc (suc (suc (suc (suc (suc (suc zero))))))))) q r b h =
    let same = typed_once source b.0 h.0 b.2.owned.matched.typed h.2.owned.matched.typed in
    by_refusals b.1 h.1 q r b.4 h.4 (least_of_once (Calls.Violates b.0) b.1 h.1 b.3 (subst (λ p. IsLeastOf (Calls.Violates p) h.1) (sym same) h.3))
phase_once source (suc (suc (suc (suc (suc (suc (suc (suc (suc (suc zero)))))))))) q r b h =
    let same = typed_once source b.0 h.0 (typed_of_tailed source b.0 b.3) (typed_of_tailed source h.0 h.3) in
    let groups = subst (λ (p : Program). AreMembers p.instances h.1) (sym same) h.4 in
    let there = subst (λ p. IsLeastOf (Limits.Breaks p h.1) h.2) (sym same) h.5 in
    let least : IsLeastOf (Limits.Breaks b.0 b.1) h.2 =
    record { violated = limits_same b.0 h.1 b.1 h.2 groups b.4 there.violated; least = λ w k. there.least w (limits_same b.0 b.1 h.1 w b.4 groups k) } in
    by_refusals b.2 h.2 q r b.6 h.6 (least_of_once (Limits.Breaks b.0 b.1) b.2 h.2 b.5 least)
phase_once source (suc (suc (suc (suc (suc (suc (suc (suc (suc (suc (suc n))))))))))) q r b h = absurd b

-- ---- the report

pub record IsBroken (source : List ℕ) (r : Refusal) : Type 0 where
  pub phase : ℕ
  pub passes : Passes source phase
  pub breaks : Breaks source phase r
  pub within : phase < 11

broken : (source : List ℕ) (r : Refusal) → Reports source r → IsBroken source r
broken source _ (Report.TooLong h) = record { phase = 0; passes = tt; breaks = (h, refl); within = omega arith }
broken source _ (Report.Misspelt r p few m) = record { phase = 1; passes = few; breaks = (r, p, few, m, refl); within = omega arith }
broken source _ (Report.Declaration core v h first) = record { phase = 2; passes = (core, h); breaks = (core, v, h, first, refl); within = omega arith }
broken source _ (Report.StaticParameter core v h named) = record { phase = 3; passes = (core, h); breaks = (core, v, h, named, refl); within = omega arith }
broken source _ (Report.Typing p v h least) = record { phase = 4; passes = (p, h); breaks = (p, v, h, least, refl); within = omega arith }
broken source _ (Report.Shape p v h least) = record { phase = 5; passes = (p, h); breaks = (p, v, h, least, refl); within = omega arith }
broken source _ (Report.Coverage p v h none least) = record { phase = 6; passes = (p, h, none); breaks = (p, v, h, none, least, refl); within = omega arith }
broken source _ (Report.Ownership p v h least) = record { phase = 7; passes = (p, h); breaks = (p, v, h, least, refl); within = omega arith }
broken source _ (Report.Credit p v h least) = record { phase = 8; passes = (p, h); breaks = (p, v, h, least, refl); within = omega arith }
broken source _ (Report.TailCall p v h least) = record { phase = 9; passes = (p, h); breaks = (p, v, h, least, refl); within = omega arith }
broken source _ (Report.Limit p ms v h groups least) = record { phase = 10; passes = (p, h); breaks = (p, ms, v, h, groups, least, refl); within = omega arith }

passes_to : (source : List ℕ) (m n : ℕ) → n ≤ m → Passes source m → Passes source n
passes_to source m n h k = let e : m ≡ (m - n) + n = omega (arith, h) in passes_down source (m - n) n (subst (Passes source) e k)

pub accepted_not : (source : List ℕ) (p : Program) (r : Refusal) → IsAccepted source p → Reports source r → ⊥
accepted_not source p r h k =
    let b = broken source r k in
    let few = b.within in
    not_passed source b.phase r b.breaks (passes_to source 11 (suc b.phase) (omega (arith, few)) (p, h))

pub reported_once : (source : List ℕ) (q r : Refusal) → Reports source q → Reports source r → AreSame q r
reported_once source q r h k =
    let b = broken source q h in
    let c = broken source r k in
    by b c (nat_lt b.phase c.phase) (nat_lt c.phase b.phase) refl refl
  where
    by : (b : IsBroken source q) (c : IsBroken source r) (x y : Bool) → nat_lt b.phase c.phase ≡ x → nat_lt c.phase b.phase ≡ y → AreSame q r
    by b c true y e f =
        let less : b.phase < c.phase = grind (arith, nat_tests) in
        absurd (not_passed source b.phase q b.breaks (passes_to source c.phase (suc b.phase) (omega (arith, less)) c.passes))
    by b c false true e f =
        let less : c.phase < b.phase = grind (arith, nat_tests) in
        absurd (not_passed source c.phase r c.breaks (passes_to source b.phase (suc c.phase) (omega (arith, less)) b.passes))
    by b c false false e f =
        let same : c.phase ≡ b.phase = grind (arith, nat_tests) in
        phase_once source b.phase q r b.breaks (subst (λ n. Breaks source n r) same c.breaks)
