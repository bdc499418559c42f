-- For private contracts alone: what completes a value of which a part was read.
--
-- After `Cons(1` one bracket is open and a value was read; `, Nil)` completes it, and so does `)`.
use Rattle.std.specs.Prelude.{◌≡◌, ℕ, zero, suc, List, ◌∷◌}
use Rattle.session_semantics.specs.Lines.{Symbol, Minus, Digit, Written, Parts, WrittenText, PartsText, FurtherText}
use Rattle.session_lines.specs.declared.scan.Step.{Step}
use Rattle.session_lines.specs.declared.scan.Step.TheVariants.{Wants, Read}

-- a digit comes next
abbrev pub BeginsDigit : List Symbol → Type 0
BeginsDigit (Digit d ∷ cs) = Unit {0}
BeginsDigit cs = ⊥

-- the digits of an int, after its sign
abbrev pub IsUnsigned : List Symbol → List Symbol → Type 0
IsUnsigned (Minus ∷ cs) ds = ds ≡ cs
IsUnsigned cs ds = ds ≡ cs

-- so many brackets are closed, after further parts, and then rest
abbrev pub Closes : ℕ → List Symbol → List Symbol → Type 0
Closes zero cs rest = rest ≡ cs
Closes (suc n) cs rest = (ws : Parts) × (after : List Symbol) × FurtherText cs ws after × Closes n after rest

-- what completes a value of which n brackets are open, and then rest
abbrev pub Completes : Step → ℕ → List Symbol → List Symbol → Type 0
Completes Wants n cs rest = (w : Written) × (after : List Symbol) × WrittenText cs w after × Closes n after rest
Completes Read n cs rest = Closes n cs rest

-- the same, after the name of a constructor
abbrev pub HasParts : ℕ → List Symbol → List Symbol → Type 0
HasParts n cs rest = (ws : Parts) × (after : List Symbol) × PartsText cs ws after × Closes n after rest

-- whatever may come in the end, each is so where the other is
pub record GoesOn (before after : List Symbol → Type 0) : Type 0 where
  pub to : (rest : List Symbol) → before rest → after rest
  pub from : (rest : List Symbol) → after rest → before rest
