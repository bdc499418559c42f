-- Of the rules on declarations only so many violations can occur in a program: those that are written, and one at each
-- data type. Where there is none, each data type has a value.
use Rattle.std.proofs.Common.{◌≡◌, inl, inr, ℕ, zero, suc, ◌<◌, List, [], ◌∷◌, length, Some, slice_get, refl, sym, ap, subst, arith}
use Rattle.source_report.specs.fip_language.declared.rule.Rule.TheVariants.{E13}
use Rattle.source_report.specs.fip_language.Core.{Data, Core}
use Rattle.source_report.specs.fip_language.Declarations.{data_types}
use Rattle.source_report.specs.fip_trees.declared.least.Violation.{Violation}
use Rattle.source_report.specs.fip_trees.Least.{In}
use Rattle.source_report.specs.data_types.Answers.{HasNoValue, Violates}
use Rattle.source_report.specs.data_types.Declarations.{declarations}
use Rattle.source_report.specs.data_types.Faults.{broken, written_violations}
use Rattle.source_report.specs.data_types.Types.{IsValued, Node, End, NoTys}
use Rattle.source_report.proofs.fip_language.Facts.{less_or_same, get_there}
use Rattle.report_completeness.proofs.LeastOrNone.{Can, Few, itself, few_both}

-- one at each data type
abbrev at_types : List Data → List Violation
at_types [] = []
at_types (d ∷ ds) = broken E13 d.place d.name ∷ at_types ds

in_types : (ds : List Data) (n : ℕ) (d : Data) → slice_get ds n ≡ Some d → In (broken E13 d.place d.name) (at_types ds)
in_types [] n d e = absurd (cc)
in_types (x ∷ ds) zero d e = let same : d ≡ x = cc in inl (ap (λ (c : Data). broken E13 c.place c.name) same)
in_types (x ∷ ds) (suc n) d e = inr (in_types ds n d e)

few_unvalued : (core : Core) → Few (HasNoValue core)
few_unvalued core = (at_types core.types, λ v h. subst (λ w. In w (at_types core.types)) (sym h.is) (in_types core.types h.place h.«type» h.there))

pub few_declaring : (core : Core) → Few (Violates core)
few_declaring core = few_both itself (λ v. In v (written_violations core)) (HasNoValue core) (written_violations core, λ v h. h) (few_unvalued core)

-- ---- values

bool_valued : (core : Core) → IsValued (declarations core) 0
bool_valued core = (Node 0 End, (NoTys, refl, tt))

valued : (core : Core) → ((v : Violation) → Violates core v → ⊥) → (n : ℕ) → n < length (data_types core) → Can (IsValued (declarations core) n)
valued core never zero less none = none (bool_valued core)
valued core never (suc n) less none =
    let there = get_there core.types n (omega (arith, less)) in
    never (broken E13 there.0.place there.0.name) (inr (record { place = n; «type» = there.0; there = there.1; unvalued = none; is = refl }))

-- what can be of each number below one can be of all
all_below : (P : ℕ → Type 0) (n : ℕ) → ((m : ℕ) → m < n → Can (P m)) → Can ((m : ℕ) → m < n → P m)
all_below P zero each none = none (λ m less. absurd (omega (arith, less)))
all_below P (suc n) each none =
    all_below P n (λ m less. each m (omega (arith, less))) (λ before. each n (omega arith) (λ last. none (λ m less. elim (less_or_same n m less) as (λ _. P m) [
      | inl fewer ↦ before m fewer
      | inr same ↦ subst P (sym same) last
    ])))

pub all_valued : (core : Core) → ((v : Violation) → Violates core v → ⊥) → Can ((n : ℕ) → n < length (data_types core) → IsValued (declarations core) n)
all_valued core never = all_below (IsValued (declarations core)) (length (data_types core)) (valued core never)
