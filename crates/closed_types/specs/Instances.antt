-- The instances of a program: the least set that holds the functions without static parameters and is closed under
-- calls, each with what is given for its static parameters. They are numbered: those functions in text order, and then,
-- in order of number, what each one calls, in the text order of the names that are called.
-- With `fun g(): int { f[int](h()) }` in which f calls nothing, g and h are 0 and 1, and f[int] is 2.
use Rattle.std.specs.Prelude.{ℕ, suc, true, List, [], ◌∷◌, ◌++◌, map, reverse, Option, Some, None, slice_get, nat_lt}
use Rattle.std.specs.Prelude.{if◌then◌else◌}
use Rattle.fip_base.specs.fip_language.declared.Place.{Place}
use Rattle.fip_base.specs.fip_language.Core.{Written, WrittenInt, WrittenName, Static, Function}
use Rattle.fip_base.specs.fip_language.Mentions.{all_of}
use Rattle.fip_base.specs.fip_language.CallSites.{CallSite, sites_in_block}
use Rattle.fip_trees.specs.declared.least.Violation.{Violation}
use Rattle.closed_types.specs.declared.closed.Head.TheVariants as H
use Rattle.closed_types.specs.Closed.{Closed, Closeds, Int, Applied, NoClosed, MoreClosed, same_closed}
use Rattle.closed_types.specs.Source.{Source, Instance}
use Rattle.closed_types.specs.Uses.{closed_function, use_faults}
use Rattle.closed_types.specs.Numbering.{AreNumbered, numbered_of}

-- a function without static parameters is a root
abbrev pub root_if : List Static → ℕ → List Closed
root_if [] i = Applied (H.Function i) NoClosed ∷ []
root_if (x ∷ xs) i = []

-- those of a list that begins with function i
abbrev pub roots_from : ℕ → List Function → List Closed
roots_from i [] = []
roots_from i (f ∷ fs) = root_if f.statics i ++ roots_from (suc i) fs

abbrev pub roots : Source → List Closed
roots s = roots_from 0 s.functions

-- ---- calls in the text order of their names

-- a call as a use
abbrev pub use_at : CallSite → Written
use_at c = WrittenName c.name c.place c.statics

abbrev pub place_of : Written → Place
place_of (WrittenInt p) = p
place_of (WrittenName x p ws) = p

-- Puts a use after those that stand before it in the text. The last in the text is the first of the list.
abbrev pub put_in_order : Written → List Written → List Written
put_in_order u [] = u ∷ []
put_in_order u (v ∷ vs) = if nat_lt (place_of u).at (place_of v).at then v ∷ put_in_order u vs else u ∷ v ∷ vs

abbrev pub order_on : List Written → List Written → List Written
order_on vs [] = vs
order_on vs (u ∷ us) = order_on (put_in_order u vs) us

abbrev pub in_text_order : List Written → List Written
in_text_order us = reverse (order_on [] us)

abbrev pub calls : Function → List Written
calls f = in_text_order (map use_at (sites_in_block true f.body))

-- ---- what an instance calls, and what its uses break

abbrev pub if_there : Option Closed → List Closed
if_there None = []
if_there (Some c) = c ∷ []

-- what these uses reach
abbrev pub all_reached : Source → Instance → List Written → List Closed
all_reached s here us = all_of (λ (u : Written). if_there (closed_function s here u)) us

abbrev pub calls_in : Source → Instance → Option Function → List Closed
calls_in s here None = []
calls_in s here (Some f) = all_reached s here (calls f)

-- a use that breaks a rule reaches no instance
abbrev pub calls_from : Source → Closed → List Closed
calls_from s Int = []
calls_from s (Applied (H.«Type» n) cs) = []
calls_from s (Applied (H.Function f) cs) =
    calls_in s (record { function = f; given = cs }) (slice_get s.functions f)

-- what these uses break in instance i
abbrev pub all_use_faults : Source → ℕ → Instance → List Written → List Violation
all_use_faults s i here us = all_of (λ (u : Written). use_faults s i here u) us

abbrev pub faults_in : Source → ℕ → Instance → Option Function → List Violation
faults_in s i here None = []
faults_in s i here (Some f) = all_use_faults s i here (calls f)

-- what instance i breaks
abbrev pub faults_of : Source → ℕ → Closed → List Violation
faults_of s i Int = []
faults_of s i (Applied (H.«Type» n) cs) = []
faults_of s i (Applied (H.Function f) cs) =
    faults_in s i (record { function = f; given = cs }) (slice_get s.functions f)

-- what instances break, one after another
abbrev pub all_faults : Source → List Closed → List Violation
all_faults s cs = numbered_of (faults_of s) 0 cs

-- these are the instances, in the order of their numbers
abbrev pub AreInstances : Source → List Closed → Type 0
AreInstances s cs = AreNumbered same_closed (roots s) (calls_from s) cs

-- ---- functions that are passed

abbrev pub functions_among : Closeds → List Closed
functions_among NoClosed = []
functions_among (MoreClosed Int cs) = functions_among cs
functions_among (MoreClosed (Applied (H.«Type» n) ds) cs) = functions_among cs
functions_among (MoreClosed (Applied (H.Function f) ds) cs) = Applied (H.Function f) ds ∷ functions_among cs

abbrev pub passed_to : Closed → List Closed
passed_to Int = []
passed_to (Applied h cs) = functions_among cs

-- the instances, and the functions that are given to them, to those in turn, and so on
abbrev pub ArePassed : List Closed → List Closed → Type 0
ArePassed is cs = AreNumbered same_closed is passed_to cs
