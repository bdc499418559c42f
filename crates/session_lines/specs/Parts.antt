-- For private contracts alone: the parts of a line, as they are read one after another.
use Rattle.std.specs.Prelude.{◌≡◌, ℕ, List, [], ◌∷◌, ◌++◌}
use Rattle.fip_language.specs.Core.{Name}
use Rattle.session_semantics.specs.Lines.{Symbol, Open, NameText, SignText, Given, GivenText, MoreGivenText, AllGivenText}
use Rattle.session_semantics.specs.Lines.{MoreNamesText, LineText, Calls, skip}
use Rattle.session_lines.specs.declared.line.CallLine.{CallLine}
use Rattle.session_lines.specs.declared.line.Written.{Written}
use Rattle.session_lines.specs.Said.{IsGiven, AreGiven, IsCall}

-- an argument was read
pub record GivenRead (bytes : List ℕ) (a : Written) (cs rest : List Symbol) : Type 0 where
  pub given : Given
  pub is : IsGiven bytes a given
  pub text : GivenText cs given rest

-- further arguments were read, up to the bracket
pub record MoreGiven (bytes : List ℕ) (before after : List Written) (cs rest : List Symbol) : Type 0 where
  pub more : List Given
  pub are : (gs : List Given) → AreGiven bytes before gs → AreGiven bytes after (gs ++ more)
  pub text : MoreGivenText cs more rest

-- all arguments were read
pub record AllGiven (bytes : List ℕ) (list : List Written) (cs rest : List Symbol) : Type 0 where
  pub all : List Given
  pub are : AreGiven bytes list all
  pub text : AllGivenText cs all rest

abbrev pub InBrackets : List Symbol → List Given → List Symbol → Type 0
InBrackets cs gs rest = (inner : List Symbol) × SignText Open cs inner × AllGivenText inner gs rest

-- further names were read, up to the =
pub record MoreNames (before after : List Name) (cs rest : List Symbol) : Type 0 where
  pub more : List Name
  pub are : after ≡ before ++ more
  pub text : MoreNamesText cs more rest

-- all names of results
abbrev pub Results : List Symbol → List Name → List Symbol → Type 0
Results cs [] rest = ⊥
Results cs (n ∷ ns) rest = (after : List Symbol) × NameText cs n after × MoreNamesText after ns rest

-- the symbols are the text of a call, which was read
pub record CallRead (bytes : List ℕ) (c : CallLine) (cs : List Symbol) : Type 0 where
  pub result : Name
  pub results : List Name
  pub entry : Name
  pub given : List Given
  pub is : IsCall bytes c result results entry given
  pub text : LineText cs (Calls result results entry given)

abbrev pub LastName : List Symbol → Name → Type 0
LastName cs n = (rest : List Symbol) × NameText cs n rest × (skip rest ≡ [])
