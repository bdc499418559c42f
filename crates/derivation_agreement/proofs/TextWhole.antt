-- The theorems.
use Rattle.std.proofs.Common.{◌≡◌, ℕ, suc, ◌≤◌, ◌+◌, refl, List, [], ◌∷◌, length, Some, Bool, true, false, arith}
use Rattle.std.specs.Prelude.{slice_get, if◌then◌else◌}
use Rattle.tail_groups.specs.fip_trees.Tree.{Instance, Program}
use Rattle.derivation_walk.specs.fip_rules.World.{world, is_ruled}
use Rattle.derivation_walk.specs.credit_check.Needs.{marked}
use Rattle.derivation_making.specs.type_check.Typing.{IsFilled}
use Rattle.derivation_making.specs.ownership_agreement.Agreement.{AreSized, IsAccepted}
use Rattle.tail_groups.specs.Registers.{registers}
use Rattle.derivation_walk.specs.derivation_trees.Trees.{Entry}
use Rattle.derivation_making.specs.derivation_check.Scopes.{parameters}
use Rattle.derivation_making.specs.derivation_check.Calculus.{Choice}
use Rattle.derivation_making.specs.derivation_check.Accepted.{DerivesInstance, FirstEntry, AreDerived, IsDerivation, header_scope}
use Rattle.derivation_text.specs.ProofText.{lines_text, IsProofText}
use Rattle.derivation_making.specs.Made.{owned_ones, made_instance, made_entries}
use Rattle.derivation_making.specs.Numbered.{IsNumbered, AllNumbered}
use Rattle.derivation_making.proofs.Programs.{program_derived}
use Rattle.derivation_agreement.specs.Within.{IsShallow, AreWithin}
use Rattle.derivation_agreement.specs.Limits.{KeepsLimits}
use Rattle.derivation_agreement.proofs.Spelt.{entries_spelt}
use Rattle.derivation_agreement.proofs.Callees.{marked_few, block_asks}
use Rattle.derivation_agreement.proofs.Depths.{block_shallow}

pub is_read : (p : Program) (es : List Entry) → IsDerivation p es → AreWithin es → IsProofText (lines_text es) es
is_read p es h f = (entries_spelt p 0 0 p.instances es (omega arith) h f, refl)

instance_shallow : (p : Program) (d : Instance) → KeepsLimits p → is_ruled d.kind ≡ true → registers d ≤ 4096 → IsNumbered p d → DerivesInstance (world p d.kind) d (made_instance p (world p d.kind) d) → IsShallow 1 (made_instance p (world p d.kind) d)
instance_shallow p d l r few n h =
    block_shallow p (world p d.kind) (parameters 0 d.params) (length d.params) (length d.params) (owned_ones (world p d.kind) (parameters 0 d.params)) (λ k. marked k d.credits) d.body 1
    (block_asks p d.kind d.body (header_scope d) (length d.params) (length d.params) (made_instance p (world p d.kind) d) l r h.4) n.body (omega (arith, few)) (omega (arith, few))
    (λ k. (let x = marked_few k d.credits in omega (arith, x, few)))

-- each fip or fbip instance of some has few registers
abbrev EachFew : List Instance → Type 0
EachFew ds = (i : ℕ) (d : Instance) → slice_get ds i ≡ Some d → is_ruled d.kind ≡ true → registers d ≤ 4096

entries_within : (p : Program) (n : ℕ) (ds : List Instance) → KeepsLimits p → n + length ds ≤ 4096 → EachFew ds → AllNumbered p ds → AreDerived p n ds (made_entries p n ds) → AreWithin (made_entries p n ds)
entries_within p n [] l m few k h = tt
entries_within p n (d ∷ ds) l m few k h = by (is_ruled d.kind) refl (λ g. entries_within p (n + 1) ds l (omega (arith, m)) (λ i e at r. few (suc i) e at r) k.1 g) h
  where
    by : (b : Bool) → is_ruled d.kind ≡ b → (AreDerived p (n + 1) ds (made_entries p (n + 1) ds) → AreWithin (made_entries p (n + 1) ds)) → Choice b (FirstEntry (if b then record { instance = n; tree = made_instance p (world p d.kind) d } ∷ made_entries p (n + 1) ds else made_entries p (n + 1) ds) (λ e rest. (e.instance ≡ n) × DerivesInstance (world p d.kind) d e.tree × AreDerived p (n + 1) ds rest)) (AreDerived p (n + 1) ds (if b then record { instance = n; tree = made_instance p (world p d.kind) d } ∷ made_entries p (n + 1) ds else made_entries p (n + 1) ds)) → AreWithin (if b then record { instance = n; tree = made_instance p (world p d.kind) d } ∷ made_entries p (n + 1) ds else made_entries p (n + 1) ds)
    by true r more g = (omega (arith, m), instance_shallow p d l r (few 0 d refl r) (k.0 r) g.1, more g.2)
    by false r more g = more g

pub made_within : (p : Program) → AllNumbered p p.instances → IsDerivation p (made_entries p 0 p.instances) → KeepsLimits p → AreWithin (made_entries p 0 p.instances)
made_within p n h l =
    let few = l.instances in
    entries_within p 0 p.instances l (omega (arith, few)) l.registers n h

pub made_is_read : (p : Program) → IsFilled p → AllNumbered p p.instances → AreSized p p.instances → IsAccepted p → KeepsLimits p → IsProofText (lines_text (made_entries p 0 p.instances)) (made_entries p 0 p.instances)
made_is_read p t n z a l =
    let h = program_derived p t n z a in
    is_read p (made_entries p 0 p.instances) h (made_within p n h l)
