-- Only what this crate keeps beside the kinds, so that a step needn't look at all registers: for each register lists
-- among which are all that came from it, all that are lent of it, and those of these that have no from, the registers
-- that a step looks at, for each label map that was seen to fit the registers that have changed since, what a label map
-- asks at all, and which registers have the set of one.
use Rattle.kind_domain.specs.Leading.{Lents, Linked, Links, names}
use Rattle.kind_domain.specs.Busy.{AreAsked}
use Rattle.std.specs.Prelude.{◌≡◌, ℕ, ◌<◌, Bool, true, false, List, Option, Some, None}
use Rattle.std.specs.Prelude.{length, slice_get}
use Rattle.kind_domain.specs.cell_code.declared.kind.Kind.{Kind}
use Rattle.kind_domain.specs.cell_code.Plain.{LabelMap}
use Rattle.kind_domain.specs.code_rules.Kinds.{has, at, set_of, from_of, is_lent_of}
use Rattle.kind_domain.specs.code_rules.Fitting.{fits}
use Rattle.kind_domain.specs.declared.asked.Asked.{Asked}
use Rattle.kind_domain.specs.Busy.{busy_in}
use Rattle.kind_domain.specs.LabelSets.{LabelSets, AreOrigins}
use Rattle.register_kinds.specs.Climbs.{AreKnown}
use Rattle.kind_domain.specs.Rising.{Rise}

abbrev pub KindsRise : List Kind → Type 0
KindsRise ks = (q : ℕ) → Rise (set_of (at ks q))

-- label maps for so many registers
pub record AreMaps (n : ℕ) (maps : List LabelMap) : Type 0 where
  pub long : (l : ℕ) (m : LabelMap) → slice_get maps l ≡ Some m → length m.kinds ≡ n
  pub rise : (l : ℕ) (m : LabelMap) → slice_get maps l ≡ Some m → KindsRise m.kinds

-- Each register fits a label map that hasn't changed since that was seen to fit.
abbrev pub AreSeen : List Kind → List LabelMap → List (Option (List ℕ)) → Type 0
AreSeen ks maps since =
    (l : ℕ) (m : LabelMap) (xs : List ℕ) → slice_get maps l ≡ Some m → slice_get since l ≡ Some (Some xs) →
    (q : ℕ) → has xs q ≡ false → fits (at m.kinds q) (at ks q) ≡ true

pub record IsKept (ks : List Kind) (maps : List LabelMap) (lents : Lents) (below trees loose : Links)
    (held : Option (List Bool)) (since : List (Option (List ℕ))) (busy : ℕ) (asked : List Asked)
    (sets : LabelSets) : Type 0 where
  pub rise : KindsRise ks
  pub are_maps : AreMaps (length ks) maps
  pub few : length ks < 65536
  pub room : lents.room ≡ length ks
  pub sources : (r q : ℕ) → names r (from_of (at ks q)) ≡ true → Linked below r q
  pub lends : (r q : ℕ) → is_lent_of r (at ks q) ≡ true → Linked trees r q
  pub loosened : (r q : ℕ) → is_lent_of r (at ks q) ≡ true → from_of (at ks q) ≡ None → Linked loose r q
  pub holds : AreKnown ks held
  pub sees : AreSeen ks maps since
  pub counted : busy ≡ busy_in ks
  pub asks : AreAsked maps asked
  pub set_maps : sets.maps ≡ maps
  pub origins : AreOrigins ks sets
