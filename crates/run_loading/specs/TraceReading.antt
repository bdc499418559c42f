-- What `replay` refuses: which byte of a file that is no trace's is named.
--
-- The file is read from the front, and each number is checked for what is said of it as soon as it is read. Where the
-- file ends early, its length is named; a byte of the first six, and the byte of an event that is neither 0 nor 1, by
-- its own offset; a cell or an event that breaks what is required of it, by the offset at which it begins; a number of
-- steps below the last event's, by its offset; and where the file goes on, the first byte too many. A file that is too
-- long is named at the most bytes that a file may have, before it is read.
--
-- A file of no bytes is bad at 0; that of the example with a 2 for the event's 0 is bad at 47.
use Rattle.std.specs.Prelude.{◌≡◌, ◌⊎◌, ℕ, zero, suc, ◌+◌, ◌*◌, ◌<◌, ◌≤◌, Bool, true, false, ◌&&◌, nat_lt, nat_le, ◌==◌}
use Rattle.std.specs.Prelude.{List, [], ◌∷◌, ◌++◌, length, codes, Option, Some, None}
use Rattle.tree_refinement.specs.fip_language.declared.limits.TheConstants.{MOST_FIELDS, MOST_FILE_BYTES}
use Rattle.tree_refinement.specs.fip_language.Every.{Every}
use Rattle.tree_refinement.specs.machine_semantics.Cells.{Write, Release}
use Rattle.tree_refinement.specs.machine_semantics.Traces.{Event}
use Rattle.run_loading.specs.TraceFile.{Loaded, Trace, size_at, left_by}

-- what reading gives: something that ends at an offset, with the bytes after it; or the offset that is bad
pub data Read (A : Type 0) : Type 0 where
  Got : (x : A) (at : ℕ) (rest : List ℕ) → Read A
  Bad : (at : ℕ) → Read A

abbrev pub then_read : {A B : Type 0} → Read A → (A → ℕ → List ℕ → Read B) → Read B
then_read (Got x at rest) go = go x at rest
then_read (Bad at) go = Bad at

-- where the test holds; else this offset is bad
abbrev pub asked : {A : Type 0} → Bool → ℕ → Read A → Read A
asked true at r = r
asked false at r = Bad at

-- a number of so many bytes, after those that were read of it
unfoldable pub read_number : ℕ → ℕ → ℕ → List ℕ → Read ℕ
read_number zero n at bytes = Got n at bytes
read_number (suc w) n at [] = Bad at
read_number (suc w) n at (b ∷ bytes) = read_number w (256 * n + b) (suc at) bytes

-- just these bytes
abbrev pub read_exactly : List ℕ → ℕ → List ℕ → Read (Unit {0})
read_exactly [] at bytes = Got tt at bytes
read_exactly (w ∷ wanted) at [] = Bad at
read_exactly (w ∷ wanted) at (b ∷ bytes) = asked (b == w) at (read_exactly wanted (suc at) bytes)

abbrev pub read_words : ℕ → ℕ → List ℕ → Read (List ℕ)
read_words zero at bytes = Got [] at bytes
read_words (suc n) at bytes = then_read (read_number 8 0 at bytes) (λ w at' rest.
    then_read (read_words n at' rest) (λ ws at'' rest'. Got (w ∷ ws) at'' rest'))

abbrev pub is_size : ℕ → Bool
is_size k = nat_le 1 k && nat_le k MOST_FIELDS

-- the fields of a cell that begins at an offset
abbrev pub read_fields : ℕ → ℕ → ℕ → ℕ → ℕ → List ℕ → Read Loaded
read_fields start place tag size at bytes =
    asked (is_size size) start (then_read (read_words size at bytes)
    (λ ws at' rest. Got (record { place = place; tag = tag; fields = ws }) at' rest))

-- a cell at this place or after it
abbrev pub read_cell : ℕ → ℕ → List ℕ → Read Loaded
read_cell least start bytes =
    then_read (read_number 4 0 start bytes) (λ place at rest. asked (nat_le least place) start
    (then_read (read_number 4 0 at rest) (λ tag at' rest'.
    then_read (read_number 1 0 at' rest') (λ size at'' rest''. read_fields start place tag size at'' rest''))))

abbrev pub read_cells : ℕ → ℕ → ℕ → List ℕ → Read (List Loaded)
read_cells zero least at bytes = Got [] at bytes
read_cells (suc n) least at bytes = then_read (read_cell least at bytes) (λ c at' rest.
    then_read (read_cells n (suc c.place) at' rest) (λ cs at'' rest'. Got (c ∷ cs) at'' rest'))

-- what a cell of so many fields gets
abbrev pub read_write : ℕ → ℕ → ℕ → ℕ → List ℕ → Read Event
read_write step place size at bytes =
    then_read (read_number 4 0 at bytes) (λ tag at' rest. then_read (read_words size at' rest)
    (λ ws at'' rest'. Got (record { step = step; change = Write place tag ws }) at'' rest'))

-- the event at a cell of this size, where there is one that isn't released; op 0 writes and op 1 releases
abbrev pub read_change : ℕ → ℕ → ℕ → ℕ → Option ℕ → ℕ → List ℕ → Read Event
read_change start step op place None at bytes = Bad start
read_change start step zero place (Some size) at bytes = read_write step place size at bytes
read_change start step (suc op) place (Some size) at bytes =
    Got (record { step = step; change = Release place }) at bytes

-- an event of this step or a later one
abbrev pub read_event : List Loaded → ℕ → ℕ → List ℕ → Read Event
read_event live least start bytes =
    then_read (read_number 8 0 start bytes) (λ step at rest. asked (nat_le least step) start
    (then_read (read_number 1 0 at rest) (λ op at' rest'. asked (nat_lt op 2) at
    (then_read (read_number 4 0 at' rest') (λ place at'' rest''.
    read_change start step op place (size_at place live) at'' rest'')))))

abbrev pub read_events : ℕ → List Loaded → ℕ → ℕ → List ℕ → Read (List Event)
read_events zero live least at bytes = Got [] at bytes
read_events (suc n) live least at bytes = then_read (read_event live least at bytes) (λ e at' rest.
    then_read (read_events n (left_by e.change live) e.step at' rest) (λ es at'' rest'. Got (e ∷ es) at'' rest'))

-- the step of the last event
abbrev pub last_step : List Event → ℕ
last_step [] = 0
last_step (e ∷ []) = e.step
last_step (e ∷ f ∷ es) = last_step (f ∷ es)

abbrev pub read_end : {A : Type 0} → A → ℕ → List ℕ → Read A
read_end x at [] = Got x at []
read_end x at (b ∷ bytes) = Bad at

-- the number of steps, and the end
abbrev pub read_steps : List Loaded → List Event → ℕ → List ℕ → Read Trace
read_steps cells events at bytes =
    then_read (read_number 8 0 at bytes) (λ steps at' rest. asked (nat_le (last_step events) steps) at
    (read_end (record { cells = cells; events = events; steps = steps }) at' rest))

abbrev pub read_all_events : List Loaded → ℕ → List ℕ → Read Trace
read_all_events cells at bytes = then_read (read_number 4 0 at bytes) (λ n at' rest.
    then_read (read_events n cells 1 at' rest) (λ es at'' rest'. read_steps cells es at'' rest'))

abbrev pub read_all_cells : ℕ → List ℕ → Read Trace
read_all_cells at bytes = then_read (read_number 4 0 at bytes) (λ n at' rest.
    then_read (read_cells n 0 at' rest) (λ cs at'' rest'. read_all_events cs at'' rest'))

abbrev pub read_trace : List ℕ → Read Trace
read_trace bytes = then_read (read_exactly (codes "FP2T" ++ (0 ∷ 1 ∷ [])) 0 bytes)
    (λ u at rest. read_all_cells at rest)

abbrev pub AreBytes : List ℕ → Type 0
AreBytes = Every (λ b. b < 256)

-- The bytes are no trace's file, and this offset is named.
abbrev pub IsBadTrace : List ℕ → ℕ → Type 0
IsBadTrace bytes at = ((MOST_FILE_BYTES < length bytes) × (at ≡ MOST_FILE_BYTES))
    ⊎ ((length bytes ≤ MOST_FILE_BYTES) × (read_trace bytes ≡ Bad at))

-- The bytes are the file of a trace that isn't too long.
pub record IsTraceFile (bytes : List ℕ) (t : Trace) : Type 0 where
  pub short : length bytes ≤ MOST_FILE_BYTES
  pub end : ℕ
  pub reads : read_trace bytes ≡ Got t end []
