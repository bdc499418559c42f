-- What the parser's loop reaches: the machine that a reading stands for, and how a token stops it.
use Rattle.std.specs.Prelude.{◌≡◌, ◌⊎◌, ◌≤◌, ℕ, Bool, true, List, [], map, Option, Some, None}
use Rattle.fip_language.specs.declared.Place.{Place}
use Rattle.fip_language.specs.declared.limits.TheConstants.{MOST_BRACKETS}
use Rattle.fip_language.specs.declared.rule.Rule.{Rule}
use Rattle.fip_language.specs.declared.rule.Rule.TheVariants as R
use Rattle.fip_base.specs.declared.refusal.Refusal.{Refusal}
use Rattle.fip_base.specs.declared.surface.Declaration.{Declaration}
use Rattle.fip_base.specs.SurfaceView.{declaration}
use Rattle.fip_grammar.specs.Token as T
use Rattle.fip_grammar.specs.Limits.{Seen, Breaks, IsLeastBroken, IsMisspelt, is_opening, following, place_at}
use Rattle.fip_grammar.specs.Grammar.{Spells}
use Rattle.fip_language.specs.Surface.{Program}
use Rattle.fip_parser.specs.declared.parser.Reading.{Reading}
use Rattle.fip_parser.specs.declared.parser.ParseError.{ParseError}
use Rattle.fip_parser.specs.declared.parser.ParseError.TheVariants as E
use Rattle.fip_grammar.specs.Machine.{Machine, machine_step}
use Rattle.fip_parser.specs.declared.parser.Before.{Before}
use Rattle.fip_parser.specs.declared.parser.Fault.{Fault}
use Rattle.fip_parser.specs.declared.parser.Fault.TheVariants as F
use Rattle.fip_parser.specs.declared.parser.Taken.{Taken}
use Rattle.fip_parser.specs.declared.parser.Taken.TheVariants as K
use Rattle.parser_state.specs.declared.state.State.{State}
use Rattle.parser_state.specs.StateView.{state, IsWell, IsAbove}

-- the refusal of a source that breaks this rule at a place
abbrev pub refusal_of : Rule → Place → Refusal
refusal_of rule place = record { rule = rule; place = Some place; size = 0; detail = [] }

abbrev pub fault_rule : Fault → Rule
fault_rule F.TooDeep = R.E03
fault_rule F.TooLarge = R.E04

abbrev pub seen_of : Before → Seen
seen_of b = record { open' = b.brackets; ends_operand = b.ends_operand; is_sign = b.is_sign }

abbrev pub machine_of : List Declaration → State → Machine
machine_of ds s = record { done = map declaration ds; state = state s }

-- The token breaks neither of the rules that are required of tokens alone.
abbrev pub IsWithin : Seen → T.Word → Type 0
IsWithin b w = (is_opening w ≡ true → MOST_BRACKETS ≤ b.open' → ⊥) × (IsAbove b.is_sign w → ⊥)

-- it breaks this one
abbrev pub Stops : Seen → T.Word → Rule → Type 0
Stops b w rule =
    ((rule ≡ R.E03) × (is_opening w ≡ true) × (MOST_BRACKETS ≤ b.open'))
    ⊎ ((rule ≡ R.E04) × IsAbove b.is_sign w)

-- what a token does, where the machine's next state is this
abbrev pub Takes : Bool → T.Token → Taken → Option Machine → Type 0
Takes negated t K.Refused x = x ≡ None
Takes negated t K.TooLarge x = ((m : Machine) × (x ≡ Some m)) × IsAbove negated t.word
Takes negated t (K.Goes ds s) x = (x ≡ Some (machine_of ds.items s)) × IsWell s

-- what was read: the machine, and what the tokens so far are like
pub record Read : Type 0 where
  pub machine : Machine
  pub seen : Seen

abbrev pub reading_of : Reading → Read
reading_of r = record { machine = machine_of r.declarations.items r.state; seen = seen_of r.before }

-- the token fits, and breaks no rule
abbrev pub Goes : Read → Read → T.Token → Type 0
Goes old new t = (machine_step old.machine t ≡ Some new.machine) × (new.seen ≡ following old.seen t.word)
    × IsWithin old.seen t.word

-- A token breaks this rule: it doesn't fit, or it breaks another.
abbrev pub Broken : Bool → Read → T.Token → Rule → Type 0
Broken negated r t rule =
    ((rule ≡ R.E02) × (machine_step r.machine t ≡ None))
    ⊎ (((m : Machine) × (machine_step r.machine t ≡ Some m))
    × (Stops r.seen t.word rule ⊎ ((rule ≡ R.E04) × IsAbove negated t.word)))

abbrev pub Fails : Bool → Read → T.Token → ParseError → Type 0
Fails negated r t E.NoMemory = Unit {0}
Fails negated r t (E.Refused x) = (rule : Rule) × Broken negated r t rule × (x ≡ refusal_of rule t.place)

-- These tokens are the program's, and break no rule.
abbrev pub IsSpeltBy : List T.Token → Program → Type 0
IsSpeltBy ts p = Spells ts p × ((r : Rule) (t : ℕ) → Breaks ts r t → ⊥)

abbrev pub IsMisspeltBy : List T.Token → Place → ParseError → Type 0
IsMisspeltBy ts end E.NoMemory = Unit {0}
IsMisspeltBy ts end (E.Refused x) = (rule : Rule) × (t : ℕ) × IsLeastBroken ts rule t
    × (x ≡ refusal_of rule (place_at ts end t))

abbrev pub IsRefused : List ℕ → ParseError → Type 0
IsRefused source E.NoMemory = Unit {0}
IsRefused source (E.Refused x) = (rule : Rule) × (place : Place) × IsMisspelt source rule place
    × (x ≡ refusal_of rule place)
