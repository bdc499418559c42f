-- Only what this crate keeps: how many registers may not be overwritten, and of which registers a label map says more
-- than Gone. Where these fit, the others do exactly where as many may not be overwritten as the map says.
use Rattle.std.specs.Prelude.{◌<◌, length, slice_get}
use Rattle.std.specs.Prelude.{◌≡◌, ℕ, suc, ◌+◌, Bool, true, false, List, [], ◌∷◌, ◌++◌, Option, Some, None}
use Rattle.cell_code.specs.declared.kind.Kind.{Kind}
use Rattle.cell_code.specs.declared.kind.Kind.TheVariants.{Gone, Scalar, Owned, Lent, Credit}
use Rattle.cell_code.specs.Plain.{LabelMap}
use Rattle.code_rules.specs.Kinds.{at, is_free}
use Rattle.kind_domain.specs.declared.asked.Ask.{Ask}
use Rattle.kind_domain.specs.declared.asked.Asked.{Asked}
use Rattle.kind_domain.specs.declared.asked.Says.{Says}
use Rattle.kind_domain.specs.declared.asked.Says.TheVariants as S

-- 1 where a register may not be overwritten
abbrev pub held : Bool → ℕ
held true = 0
held false = 1

abbrev pub busy_in : List Kind → ℕ
busy_in [] = 0
busy_in (k ∷ ks) = held (is_free k) + busy_in ks

-- what a kind says, where that is more than Gone
abbrev pub says_of : Kind → Option Says
says_of Gone = None
says_of (Scalar t) = Some (S.Scalar t)
says_of (Owned t s) = Some S.Tree
says_of (Lent t s root from) = Some S.Tree
says_of (Credit k) = Some (S.Credit k)

abbrev pub ask_by : Option Says → ℕ → List Ask
ask_by None i = []
ask_by (Some s) i = record { register = i; says = s } ∷ []

-- the registers from i on whose kinds say more than Gone, and what these say
abbrev pub asks_from : ℕ → List Kind → List Ask
asks_from i [] = []
asks_from i (k ∷ ks) = ask_by (says_of k) i ++ asks_from (suc i) ks

abbrev pub registers_of : List Ask → List ℕ
registers_of [] = []
registers_of (x ∷ xs) = x.register ∷ registers_of xs

-- Each says what the kind of its register does.
abbrev pub AllSay : List Kind → List Ask → Type 0
AllSay ms [] = Unit {0}
AllSay ms (x ∷ xs) = (says_of (at ms x.register) ≡ Some x.says) × AllSay ms xs

-- what is kept of a label map with these kinds
pub record IsAsked (ms : List Kind) (a : Asked) : Type 0 where
  pub asks : a.asks.items ≡ asks_from 0 ms
  pub busy : a.busy ≡ busy_in ms

-- What is kept of label maps for fewer than 65,536 registers is so.
abbrev pub AreAsked : List LabelMap → List Asked → Type 0
AreAsked maps asked =
    (l : ℕ) (m : LabelMap) (a : Asked) → slice_get maps l ≡ Some m → slice_get asked l ≡ Some a →
    length m.kinds < 65536 → IsAsked m.kinds a
