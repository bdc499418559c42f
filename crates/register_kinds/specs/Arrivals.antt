-- Only what this crate keeps: the kinds on arrival at a label map, where a register may have been tested, and whether
-- some registers fit.
use Rattle.std.specs.Prelude.{ℕ, suc, Bool, true, ◌&&◌, ◌==◌, List, [], ◌∷◌, Option, Some, None}
use Rattle.std.specs.Prelude.{if◌then◌else◌}
use Rattle.kind_domain.specs.cell_code.declared.kind.Kind.{Kind}
use Rattle.kind_domain.specs.code_rules.Kinds.{at, set_of}
use Rattle.kind_domain.specs.code_rules.Changes.{narrow}
use Rattle.kind_domain.specs.code_rules.Fitting.{fits}
use Rattle.register_kinds.specs.declared.fits.Tested.{Tested}
use Rattle.kind_domain.specs.Rising.{less}

-- the kind whose root doesn't have a constructor, where there is one
abbrev pub lessened : Option ℕ → Kind → Kind
lessened lacked k = narrow (less lacked (set_of k)) k

-- the constructor that register q was tested not to have
abbrev pub lacked_at : Option Tested → ℕ → Option ℕ
lacked_at None q = None
lacked_at (Some t) q = if q == t.register then Some t.constructor else None

-- the kinds of registers from i on
abbrev pub arrive : Option Tested → ℕ → List Kind → List Kind
arrive tested i [] = []
arrive tested i (k ∷ ks) = lessened (lacked_at tested i) k ∷ arrive tested (suc i) ks

abbrev pub fits_at : Option Tested → List Kind → List Kind → ℕ → Bool
fits_at tested ms ks q = fits (at ms q) (lessened (lacked_at tested q) (at ks q))

abbrev pub each_fits : Option Tested → List Kind → List Kind → List ℕ → Bool
each_fits tested ms ks [] = true
each_fits tested ms ks (q ∷ qs) = fits_at tested ms ks q && each_fits tested ms ks qs

abbrev pub tested_fits : Option Tested → List Kind → List Kind → Bool
tested_fits None ms ks = true
tested_fits (Some t) ms ks = fits_at (Some t) ms ks t.register
