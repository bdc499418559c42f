-- What a function needs of the stack: the least numbers that are enough for all that it reaches.
use Rattle.std.specs.Prelude.{◌≡◌, ℕ, ◌+◌, ◌≤◌, Bool, true, false, List, [], ◌∷◌, Option, Some, None}
use Rattle.fip_language.specs.Core.{Function, Core}
use Rattle.fip_language.specs.Declarations.{function_of}
use Rattle.fip_language.specs.Every.{Among}
use Rattle.fip_language.specs.Statics.{Closed, ClosedInt, ClosedName, Closeds, Instance, callee}
use Rattle.fip_language.specs.Registers.{frame_words}
pub use Rattle.fip_language.specs.CallSites.{CallSite, sites_in_expression, sites_in_block, sites_in_clauses}

abbrev pub instance_with : Closeds → Option Function → Option Instance
instance_with given None = None
instance_with given (Some f) = Some (record { function = f; given = given })

-- the function that a closed tree names, with what is given for its static parameters
abbrev pub instance_of : Core → Closed → Option Instance
instance_of core ClosedInt = None
instance_of core (ClosedName name given) = instance_with given (function_of core name)

-- f, which is this instance, calls g there
pub record CallsAt (core : Core) (f : Closed) (here : Instance) (site : CallSite) (g : Closed) : Type 0 where
  pub caller : instance_of core f ≡ Some here
  pub stands : Among site (sites_in_block true here.function.body)
  pub callee : callee core here site.name site.statics ≡ g

-- f calls g, then that the next, and so on, and the last is h
abbrev pub Along : Core → Closed → List Closed → Closed → Type 0
Along core f [] h = f ≡ h
Along core f (g ∷ gs) h = (here : Instance) × (site : CallSite) × CallsAt core f here site g × Along core g gs h

abbrev pub Reaches : Core → Closed → Closed → Type 0
Reaches core f h = (gs : List Closed) × Along core f gs h

-- frames a caller holds, in tail position none
abbrev pub held_by : Bool → ℕ → ℕ
held_by true n = 0
held_by false n = n

-- These numbers are enough for the frames that f and all that it reaches hold.
pub record HoldFrames (core : Core) (f : Closed) (frames : Closed → ℕ) : Type 0 where
  pub calls : (g h : Closed) (here : Instance) (site : CallSite) → Reaches core f g → CallsAt core g here site h →
      held_by site.tail 1 + frames h ≤ frames g

-- These numbers are enough for the words of their stack.
pub record HoldWords (core : Core) (f : Closed) (words : Closed → ℕ) : Type 0 where
  pub frame : (g : Closed) (here : Instance) → Reaches core f g → instance_of core g ≡ Some here →
      frame_words here.function ≤ words g
  pub calls : (g h : Closed) (here : Instance) (site : CallSite) → Reaches core f g → CallsAt core g here site h →
      held_by site.tail (frame_words here.function) + words h ≤ words g

-- The frames of f, and the words of its stack: the least numbers that are enough.
pub record AreFrames (core : Core) (f : Closed) (n : ℕ) : Type 0 where
  pub enough : (frames : Closed → ℕ) × HoldFrames core f frames × (frames f ≡ n)
  pub least : (frames : Closed → ℕ) → HoldFrames core f frames → n ≤ frames f

pub record AreWords (core : Core) (f : Closed) (n : ℕ) : Type 0 where
  pub enough : (words : Closed → ℕ) × HoldWords core f words × (words f ≡ n)
  pub least : (words : Closed → ℕ) → HoldWords core f words → n ≤ words f
