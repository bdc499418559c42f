-- It serves the proof of what read_derivation gives: a text as a machine that takes one byte after another.
use Rattle.std.specs.Prelude.{ℕ, zero, suc, ◌+◌, ◌-◌, ◌*◌, Bool, true, false, ◌&&◌, ◌==◌, nat_lt, nat_le, if◌then◌else◌}
use Rattle.std.specs.Prelude.{List, [], ◌∷◌, ◌++◌, length, Option, Some, None}
use Rattle.fip_language.specs.declared.limits.TheConstants.{MOST_FIELDS}
use Rattle.fip_language.specs.Character.{is_digit}
use Rattle.derivation_trees.specs.declared.derivation.RuleName.{RuleName}
use Rattle.derivation_trees.specs.declared.derivation.RuleName.TheVariants as R
use Rattle.derivation_trees.specs.declared.derivation.Credit.{Credit}
use Rattle.derivation_trees.specs.Trees.{Head}
use Rattle.derivation_trees.specs.Building.{Built, nothing_built, opened, closed}
use Rattle.derivation_text.specs.declared.spot.Spot.{Spot}
use Rattle.derivation_text.specs.declared.spot.Spot.TheVariants as S
use Rattle.derivation_text.specs.ProofText.{rule_text, GREATEST, DEEPEST}

-- Whether a number within bounds begins with the digits of one that has at most so many digits fewer, of which low is
-- the least and high the greatest with the digits so far.
unfoldable pub reaches : ℕ → ℕ → ℕ → ℕ → ℕ → Bool
reaches zero low high least most = false
reaches (suc k) low high least most =
    if nat_lt most low then false
    else if nat_le least high then true
    else reaches k (10 * low) (10 * high + 9) least most

-- Whether a number within bounds is written with the digits of n first.
unfoldable pub begins : ℕ → ℕ → ℕ → Bool
begins n least most = if n == 0 then least == 0 else nat_le least most && reaches 10 n n least most

-- How the nodes of a line come together: a node is opened as a part of the innermost one that is open, and closed when
-- it has all its parts.
pub record Building (N : Type 0) : Type 0 where
  pub none : N
  pub depth : N → ℕ
  pub opened : N → RuleName → List ℕ → List Credit → N
  pub closed : N → N
  pub made : N → List Head

-- nodes in a list, as they lie in memory
abbrev pub flats : Building Built
flats = record {
  none = nothing_built;
  depth = λ b. length b.open_at;
  opened = opened;
  closed = closed;
  made = λ b. b.nodes;
}

-- a line that was read
pub record Made : Type 0 where
  pub instance : ℕ
  pub nodes : List Head

-- What was read: whole lines, and of the line that is being read its instance and nodes, and the node that is not yet
-- opened. Of a number that is being read, the value of its digits and the least value that it may have.
pub record State (N : Type 0) : Type 0 where
  pub spot : Spot
  pub lines : List Made
  pub least : ℕ
  pub number : ℕ
  pub instance : ℕ
  pub nodes : N
  pub rule : RuleName
  pub letters : List ℕ
  pub variables : List ℕ
  pub credits : List Credit
  pub size : ℕ

-- the rule whose name begins so
abbrev pub rule_at : ℕ → Option RuleName
rule_at b =
    if b == 86 then Some R.Variable
    else if b == 83 then Some R.Scalar
    else if b == 84 then Some R.Tuple
    else if b == 65 then Some R.Atom
    else if b == 82 then Some R.Reuse
    else if b == 76 then Some R.Let
    else if b == 67 then Some R.Call
    else if b == 77 then Some R.Match
    else if b == 87 then Some R.Weaken
    else None

abbrev pub is_match : RuleName → Bool
is_match R.Match = true
is_match _ = false

abbrev pub following_first : List ℕ → List ℕ
following_first [] = []
following_first (b ∷ bs) = bs

module _ {N : Type 0} (building : Building N) where
  -- the first digit of a number
  abbrev pub begun : Spot → ℕ → State N → ℕ → Option (State N)
  begun spot most s b =
      if is_digit b && begins (b - 48) s.least most then Some (record s { spot = spot; number = b - 48 }) else None

  -- a digit more
  abbrev pub longer : ℕ → State N → ℕ → Option (State N)
  longer most s b =
      if s.number == 0 then None
      else if begins (10 * s.number + (b - 48)) s.least most then Some (record s { number = 10 * s.number + (b - 48) })
      else None

  -- after a digit: one more, or what is after the number
  abbrev pub going : ℕ → (State N → ℕ → Option (State N)) → State N → ℕ → Option (State N)
  going most pass s b =
      if is_digit b then longer most s b
      else if nat_le s.least s.number && nat_le s.number most then pass s b
      else None

  abbrev pub pass_line : State N → ℕ → Option (State N)
  pass_line s b =
      if b == 32 then Some (record s { spot = S.Rule; instance = s.number; nodes = building.none }) else None

  abbrev pub act_rule : Option RuleName → State N → Option (State N)
  act_rule None s = None
  act_rule (Some r) s = Some (record s { spot = S.Name; rule = r; letters = following_first (rule_text r) })

  abbrev pub act_name : List ℕ → State N → ℕ → Option (State N)
  act_name [] s b =
      if b == 91 then Some (record s { spot = S.Variables; variables = []; least = 0 })
      else if (b == 33) && is_match s.rule then Some (record s { rule = R.TakingMatch })
      else None
  act_name (c ∷ cs) s b = if b == c then Some (record s { letters = cs }) else None

  abbrev pub to_credits : State N → Option (State N)
  to_credits s = Some (record s { spot = S.Credits; credits = []; least = 1 })

  abbrev pub act_variables : State N → ℕ → Option (State N)
  act_variables s b = if b == 124 then to_credits s else begun S.VariableNumber GREATEST s b

  -- with the variable that was read last
  abbrev pub with_variable : State N → State N
  with_variable s = record s { variables = s.variables ++ s.number ∷ [] }

  abbrev pub pass_variable : State N → ℕ → Option (State N)
  pass_variable s b =
      if b == 124 then to_credits (with_variable s)
      else if (b == 32) && nat_lt s.number GREATEST then
      Some (record (with_variable s) { spot = S.Variable; least = suc s.number })
      else None

  abbrev pub to_parts : State N → Option (State N)
  to_parts s = Some (record s {
    spot = S.Head;
    nodes = building.opened s.nodes s.rule s.variables s.credits;
    variables = [];
    credits = [];
  })

  abbrev pub act_credits : State N → ℕ → Option (State N)
  act_credits s b = if b == 93 then to_parts s else begun S.SizeNumber MOST_FIELDS s b

  abbrev pub pass_size : State N → ℕ → Option (State N)
  pass_size s b = if b == 58 then Some (record s { spot = S.Count; size = s.number; least = 1 }) else None

  -- with the credit that was read last
  abbrev pub with_credit : State N → State N
  with_credit s = record s { credits = s.credits ++ record { size = s.size; count = s.number } ∷ [] }

  abbrev pub pass_count : State N → ℕ → Option (State N)
  pass_count s b =
      if b == 93 then to_parts (with_credit s)
      else if (b == 32) && nat_lt s.size MOST_FIELDS then
      Some (record (with_credit s) { spot = S.Size; least = suc s.size })
      else None

  abbrev pub act_node : State N → ℕ → Option (State N)
  act_node s b =
      if building.depth s.nodes == 0 then
      (if b == 10 then Some (record s {
        spot = S.Line;
        lines = s.lines ++ record { instance = s.instance; nodes = building.made s.nodes } ∷ [];
        least = suc s.instance;
        nodes = building.none;
      }) else None)
      else if b == 44 then Some (record s { spot = S.Rule })
      else if b == 41 then Some (record s { spot = S.Node; nodes = building.closed s.nodes })
      else None

  abbrev pub act_head : State N → ℕ → Option (State N)
  act_head s b =
      if b == 40 then
      (if nat_lt (building.depth s.nodes) DEEPEST then Some (record s { spot = S.Rule }) else None)
      else act_node (record s { nodes = building.closed s.nodes }) b

  -- a byte at this spot
  abbrev pub act : Spot → State N → ℕ → Option (State N)
  act S.Line s b = begun S.LineNumber GREATEST s b
  act S.LineNumber s b = going GREATEST pass_line s b
  act S.Rule s b = act_rule (rule_at b) s
  act S.Name s b = act_name s.letters s b
  act S.Variables s b = act_variables s b
  act S.Variable s b = begun S.VariableNumber GREATEST s b
  act S.VariableNumber s b = going GREATEST pass_variable s b
  act S.Credits s b = act_credits s b
  act S.Size s b = begun S.SizeNumber MOST_FIELDS s b
  act S.SizeNumber s b = going MOST_FIELDS pass_size s b
  act S.Count s b = begun S.CountNumber GREATEST s b
  act S.CountNumber s b = going GREATEST pass_count s b
  act S.Head s b = act_head s b
  act S.Node s b = act_node s b

  abbrev pub step : State N → ℕ → Option (State N)
  step s b = act s.spot s b

  -- before the first byte
  abbrev pub start : State N
  start = record {
    spot = S.Line;
    lines = [];
    least = 0;
    number = 0;
    instance = 0;
    nodes = building.none;
    rule = R.Variable;
    letters = [];
    variables = [];
    credits = [];
    size = 0;
  }

abbrev pub ended : Spot → List Made → Option (List Made)
ended S.Line lines = Some lines
ended _ lines = None

-- at the end
abbrev pub final : {N : Type 0} → State N → Option (List Made)
final s = ended s.spot s.lines
