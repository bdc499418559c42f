-- For private contracts alone: what of a call's arguments is noted, against what a session holds.
--
-- Where a holds Cons(1, Nil), `b = rev(a, Cons(2, Nil))` notes that a is given and used up, and one cell of size 2.
use Rattle.std.specs.Prelude.{◌≡◌, ℕ, suc, ◌+◌, ◌<◌, ◌≤◌, ◌^◌, slice_index_or, List, [], ◌∷◌, ◌++◌, length, map, Option, Some, None, option_map, slice_get, if◌then◌else◌}
use Rattle.std.specs.BTreeMap.{BTreeMap}
use Rattle.std.specs.Borrow.{Bor}
use Rattle.std.specs.declared.alloc.Global.{Global}
use Rattle.std.specs.declared.vec.Vec.{Vec}
use Rattle.fip_base.specs.declared.plain.Param.{Param}
use Rattle.fip_language.specs.Core.{Name}
use Rattle.fip_language.specs.SoundTable.{IsSoundTable, AreTypes}
use Rattle.fip_language.specs.Store.{word_of}
use Rattle.fip_language.specs.Table.{Table}
use Rattle.fip_language.specs.Values.{Value, Values, End, More}
use Rattle.fip_language.specs.declared.limits.TheConstants.{MOST_FIELDS}
use Rattle.value_text.specs.declared.counts.Counts.{Counts}
use Rattle.session_lines.specs.declared.line.Written.{Written as Argument}
use Rattle.session_lines.specs.declared.line.Written.TheVariants as A
use Rattle.session_lines.specs.session_semantics.Lines.{Given as Written}
use Rattle.session_lines.specs.session_semantics.Talk.{Holding, IsTaken, AreTaken, IsWrong, named_by, used_by, written}
use Rattle.session_values.specs.Read.{Adds}
use Rattle.session_values.specs.Readable.{IsLine}
use Rattle.session_correctness.specs.Lodging.{Lodged, holding_of, lodged_as}
use Rattle.fip_session.specs.Named.{found}
use Rattle.fip_session.specs.declared.book.Held.{Held}
use Rattle.fip_session.specs.declared.plan.Arguments.{Arguments}
use Rattle.fip_session.specs.declared.plan.Given.{Given}

-- the type and the word of what a name holds
abbrev pub held_by : Lodged → Held
held_by l = record { ty = l.type; word = word_of l.tree }

-- Under each name just that is found which it holds.
abbrev pub Finds : BTreeMap (Vec ℕ Global) Held → List Lodged → Type 0
Finds held ls = (name : Name) → found held name ≡ option_map held_by (lodged_as name ls)

-- a name that is written as an argument holds something,
abbrev pub IsHeld : BTreeMap (Vec ℕ Global) Held → Argument → Type 0
IsHeld held (A.Name name) = found held name.now ≡ None → ⊥
IsHeld held (A.Value span) = Unit {0}

-- as each of the first n does
abbrev pub AreHeldTo : ℕ → BTreeMap (Vec ℕ Global) Held → List Argument → Type 0
AreHeldTo n held as' = (j : ℕ) (a : Argument) → j < n → slice_get as' j ≡ Some a → IsHeld held a

-- or each of all of them
abbrev pub AreHeld : BTreeMap (Vec ℕ Global) Held → List Argument → Type 0
AreHeld held as' = AreHeldTo (length as') held as'

-- What is asked of a parameter's type and of a line: a sound table, a type of it, and bytes of one line.
pub record CanTake (tb : Table) (ty : ℕ) (bytes : List ℕ) : Type 0 where
  pub sound : IsSoundTable tb
  pub known : ty ≤ length tb
  pub line : IsLine bytes

-- the same of all parameters
pub record CanTakeAll (tb : Table) (types bytes : List ℕ) : Type 0 where
  pub sound : IsSoundTable tb
  pub known : AreTypes tb types
  pub line : IsLine bytes

-- the names that are given, and those of them that are used up
abbrev pub names_given : List Given → List Name
names_given gs = map (λ g. g.name.now) gs

abbrev pub names_used : List Given → List Name
names_used [] = []
names_used (g ∷ gs) = (if g.is_used_up then g.name.now ∷ [] else []) ++ names_used gs

-- One argument more is taken in, which is this value.
pub record TakesIn (tb : Table) (held : List Holding) (q : Param) (g : Written) (old new : Arguments) : Type 0 where
  pub value : Value
  pub taken : IsTaken tb held (names_given old.given.items) q g value
  pub names : names_given new.given.items ≡ names_given old.given.items ++ named_by tb q g
  pub used : names_used new.given.items
      ≡ names_used old.given.items ++ (if q.lent then [] else named_by tb q g)
  pub counts : Adds old.fresh new.fresh (λ k. written k (g ∷ []) (More value End))

-- It is no argument of its parameter.
abbrev pub IsRefused : Table → List Holding → Arguments → Param → Written → Type 0
IsRefused tb held old q g = (v : Value) → IsTaken tb held (names_given old.given.items) q g v → ⊥

-- So many cells of each size are counted, at most 2^32 of a size.
abbrev pub IsWeighed : Counts → (ℕ → ℕ) → Type 0
IsWeighed counts fresh =
    (k : ℕ) → k ≤ MOST_FIELDS → (slice_index_or counts.numbers k 0 ≡ fresh k) × (fresh k ≤ 2 ^ 32)

-- All arguments are taken in, which are these values.
pub record TakesAll (tb : Table) (held : List Holding) (qs : List Param) (gs : List Written) (old new : Arguments) :
    Type 0 where
  pub values : Values
  pub taken : AreTaken tb held (names_given old.given.items) qs gs values
  pub used : names_used new.given.items ≡ names_used old.given.items ++ used_by tb qs gs
  pub counts : Adds old.fresh new.fresh (λ k. written k gs values)

-- argument number, from 1, is the first that is no value of its parameter
abbrev pub IsBadAt : Table → List Holding → List Name → List Param → List Written → ℕ → Type 0
IsBadAt tb held before qs gs number = (k : ℕ) × (number ≡ suc k) × IsWrong tb held before qs gs k
