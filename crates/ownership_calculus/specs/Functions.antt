-- A function as a whole: its borrowed and its owned parameters, the credits of its header, and its body.
use Rattle.std.specs.Prelude.{◌≡◌, ℕ, List, Bool, true, false, if◌then◌else◌}
use Rattle.ownership_calculus.specs.Terms.{Term, Item, Own, Credit, has, given}
use Rattle.ownership_calculus.specs.Rules.{Fits, setting, Derivation}
use Rattle.ownership_calculus.specs.Clean.{Status, Free, Owned, asks, AllUsed, Clean, Even}

-- what a function starts with: its owned parameters, each once, and the credits of its header
abbrev pub starting : List ℕ → List ℕ → Item → ℕ
starting own ks (Own x) = if has own x then 1 else 0
starting own ks (Credit k) = given k ks

-- Its body has a derivation from its parameters and its header's credits. A number that is in both lists is that of
-- an owned one.
abbrev pub Derived : Bool → List ℕ → List ℕ → List ℕ → Term → Type 0
Derived fip lent own ks e = Derivation fip (setting own false (has lent)) (starting own ks) e

-- For the proofs: the same without environments. What isn't a parameter is as if it were used.
abbrev pub parameters : List ℕ → List ℕ → ℕ → Status
parameters lent own x = if has own x then Owned false false else (if has lent x then Free else Owned true false)

abbrev pub Accepted : Bool → List ℕ → List ℕ → List ℕ → Term → Type 0
Accepted fip lent own ks e =
    Clean fip (parameters lent own) e × AllUsed fip own e
    × ((k : ℕ) → Fits fip (given k ks) (asks (Credit k) e)) × (fip ≡ true → Even e)
