-- Which derivations a program has.
use Rattle.std.specs.Prelude.{◌≡◌, ◌+◌, ℕ, suc, true, false, not, ◌||◌, Bool, List, [], ◌∷◌, length, if◌then◌else◌}
use Rattle.fip_base.specs.declared.plain.Param.{Param}
use Rattle.fip_trees.specs.Tree.{Instance, Program}
use Rattle.fip_rules.specs.World.{World, world, is_ruled}
use Rattle.ownership_calculus.specs.Items.{Item, Own, Credit, given}
use Rattle.derivation_trees.specs.Derivations.{Tree, Entry}
use Rattle.derivation_check.specs.Owned.{root, IsOwned}
use Rattle.derivation_check.specs.Scopes.{Scope, parameters, AreNumbered}
use Rattle.derivation_check.specs.Calculus.{Choice, DerivesBlock}

-- the parameters that are owned and not scalar, numbered from n on
abbrev pub owned_parameters : World → ℕ → List Param → List ℕ
owned_parameters w n [] = []
owned_parameters w n (p ∷ ps) =
    if w.scalar p.ty || p.lent then owned_parameters w (n + 1) ps else n ∷ owned_parameters w (n + 1) ps

-- a function has its owned parameters, and the credits of its header
abbrev pub starting : World → Instance → Item → ℕ
starting w d (Own x) = given x (owned_parameters w 0 d.params)
starting w d (Credit k) = given k d.credits

abbrev pub header_scope : Instance → Scope
header_scope d = record { variables = parameters 0 d.params; lent = λ x. false }

-- the tree is a derivation of the instance
abbrev pub DerivesInstance : World → Instance → Tree → Type 0
DerivesInstance w d t =
    (length d.binders ≡ length d.params) × AreNumbered 0 0 d.binders × IsOwned (length d.params) t
    × ((i : Item) → root t i ≡ starting w d i)
    × DerivesBlock w (header_scope d) (length d.params) (length d.params) t d.body

abbrev pub FirstEntry : List Entry → (Entry → List Entry → Type 0) → Type 0
FirstEntry [] P = ⊥
FirstEntry (e ∷ es) P = P e es

-- Just the fip and fbip instances, numbered from n on, have an entry, which derives it.
abbrev pub AreDerived : Program → ℕ → List Instance → List Entry → Type 0
AreDerived p n [] [] = Unit {0}
AreDerived p n [] (e ∷ es) = ⊥
AreDerived p n (d ∷ ds) es =
    Choice (is_ruled d.kind)
    (FirstEntry es (λ e rest. (e.instance ≡ n) × DerivesInstance (world p d.kind) d e.tree
    × AreDerived p (n + 1) ds rest))
    (AreDerived p (n + 1) ds es)

-- a derivation of the program
abbrev pub IsDerivation : Program → List Entry → Type 0
IsDerivation p es = AreDerived p 0 p.instances es
