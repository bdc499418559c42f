-- How values are built while their text is read, in the machine's words. No public clause speaks of it.
use Rattle.std.specs.Prelude.{◌≡◌, ◌⊎◌, ℕ, ◌+◌, ◌-◌, ◌*◌, ◌<◌, ◌≤◌, List, [], ◌∷◌, ◌++◌, length, take, drop}
use Rattle.std.specs.Prelude.{Bool, true, false, Some, None, Result, Ok, Err}
use Rattle.std.specs.declared.vec.Vec.{Vec}
use Rattle.std.specs.declared.alloc.Global.{Global}
use Rattle.fip_language.specs.Prefix.{Accepted, Stopped as Halted}
use Rattle.fip_language.specs.Values.{Values, cells_of_all}
use Rattle.fip_language.specs.Table.{Table}
use Rattle.fip_language.specs.declared.limits.TheConstants.{MOST_FIELDS}
use Rattle.fip_language.specs.Store.{Cell, Parts, int_word, values_of, words_of, count, uses_of_all}
use Rattle.cell_store.specs.Cells.{cell_at, size_of}
use Rattle.cell_store.specs.Made.{Loading, IsRetaken, IsAppended}
use Rattle.value_text.specs.Scan.{runs}
use Rattle.value_text.specs.declared.read.Event.{Event}
use Rattle.value_text.specs.declared.read.Event.TheVariants.{Number, Bare, Closed}
use Rattle.value_text.specs.Counting.{values_to}
use Rattle.value_text.specs.declared.build.Stopped.{Stopped}
use Rattle.value_text.specs.declared.build.Stopped.TheVariants as S
use Rattle.value_text.specs.FirstStore.{all_places, all_words, loaded_places, loaded_words, IsAfter}
use Rattle.value_text.specs.Loaded.{live, words_up_to, free_in, cell_words, wanted, AreZero, HasNoFree}
use Rattle.value_text.specs.declared.read.Refused.{Refused}
use Rattle.value_text.specs.declared.read.Refused.TheVariants.{BadValue, NoMemory}
use Rattle.value_text.specs.Reading.{Outline, Spot, state_at, outline_at, Stepped, IsKnown, IsNarrow, GoesOn}
use Rattle.value_text.specs.Reading.{Origin, IsReading}
use Rattle.value_text.specs.Standing.{HoldAll}

-- A cell was made at place p: a released one where there is one of its size.
abbrev pub IsMade : Loading → Loading → ℕ → Cell → Type 0
IsMade old new p c = ((0 < free_in old (size_of c)) × IsRetaken old new p c)
    ⊎ ((free_in old (size_of c) ≡ 0) × IsAppended old new p c)

-- what an event does to the words that wait and to the store
abbrev pub Puts : Event → List ℕ → Loading → List ℕ → Loading → Type 0
Puts (Number i) ws old ws' new = (ws' ≡ ws ++ int_word i ∷ []) × (new ≡ old)
Puts (Bare c) ws old ws' new = (ws' ≡ ws ++ (2 * c) ∷ []) × (new ≡ old)
Puts (Closed c n) ws old ws' new = (n ≤ length ws) × (0 < n) × (p : ℕ)
    × (ws' ≡ take (length ws - n) ws ++ (2 * p + 1) ∷ [])
    × IsMade old new p (record { tag = c; fields = drop (length ws - n) ws })
Puts _ ws old ws' new = (ws' ≡ ws) × (new ≡ old)

-- a cell that can be made: it has 1 to 16 fields, their words are there, and there is a released cell or room for it
abbrev pub CanPut : Event → List ℕ → Loading → Type 0
CanPut (Closed c n) ws l = (0 < n) × (n ≤ MOST_FIELDS) × (n ≤ length ws) × (free_in l n ≡ 0 → n + 1 ≤ l.left)
CanPut _ ws l = Unit {0}

-- an event was put down, or there was no room or no memory for it
abbrev pub IsPut : Event → List ℕ → Loading → List ℕ → Loading → Result (Unit {0}) Stopped → Type 0
IsPut e ws old ws' new (Ok u) = Puts e ws old ws' new
IsPut e ws old ws' new (Err (S.BadValue k)) = ⊥
IsPut e ws old ws' new (Err S.Full) = CanPut e ws old → ⊥
IsPut e ws old ws' new (Err S.NoMemory) = Unit {0}

-- why the builder stops where the reader does
abbrev pub stopped_by : Refused → Stopped
stopped_by (BadValue k) = S.BadValue k
stopped_by NoMemory = S.NoMemory

-- the builder goes on after what was put down
abbrev pub then_on : Result (Unit {0}) Stopped → Result Bool Stopped
then_on (Ok u) = Ok true
then_on (Err e) = Err e

-- an event leads the reader from here to there
pub record IsEvent (tb : Table) (bytes : List ℕ) (o : Outline) (at : ℕ) (o' : Outline) (at' : ℕ) (e : Event) :
    Type 0 where
  pub steps : (s : Spot) → GoesOn s → o ≡ outline_at s → Stepped tb bytes s at (Ok (Some e)) o' at'
  pub known : IsKnown tb o'
  pub narrow : IsNarrow e

-- what one step of the builder gives: an event that was put down, the end of the text, or why it stops
abbrev pub Advanced : Table → List ℕ → Outline → ℕ → Outline → ℕ → List ℕ → Loading → List ℕ → Loading →
    Result Bool Stopped → Type 0
Advanced tb bytes o at o' at' ws l ws' l' (Ok true) = (e : Event) × IsEvent tb bytes o at o' at' e × Puts e ws l ws' l'
Advanced tb bytes o at o' at' ws l ws' l' (Ok false) = ((s : Spot) → GoesOn s → o ≡ outline_at s →
    Stepped tb bytes s at (Ok None) o' at') × (ws' ≡ ws) × (l' ≡ l)
Advanced tb bytes o at o' at' ws l ws' l' (Err (S.BadValue k)) = (s : Spot) → GoesOn s → o ≡ outline_at s →
    runs tb bytes (state_at s) at ≡ Halted k
Advanced tb bytes o at o' at' ws l ws' l' (Err S.Full) = (e : Event) × IsEvent tb bytes o at o' at' e
    × (CanPut e ws l → ⊥)
Advanced tb bytes o at o' at' ws l ws' l' (Err S.NoMemory) = Unit {0}

-- What was made or taken since the first store: so many cells at each place and of each size, of so many that are
-- wanted. The cells that were live before stay, and each cell that no released one served took its words.
pub record IsTaken (want done uses : ℕ → ℕ) (first now : Loading) : Type 0 where
  pub once : (p : ℕ) → live first p + uses p ≡ live now p
  pub kept : (p : ℕ) → live first p ≡ 1 → cell_at now.cells p ≡ cell_at first.cells p
  pub flags : length now.released ≡ length now.cells
  pub left : now.left + words_up_to MOST_FIELDS want (free_in first)
      ≡ first.left + words_up_to MOST_FIELDS (λ k. want k - done k) (free_in now)
  -- Released cells serve first.
  pub free : (k : ℕ) → k ≤ MOST_FIELDS → free_in now k ≡ free_in first k - done k

-- The cells of the values lie in order after those of the first store, and these are the words.
abbrev pub Lie : Loading → Loading → Values → List ℕ → Type 0
Lie first now vs ws = IsAfter first now (all_places (length first.cells) vs) × (ws ≡ all_words (length first.cells) vs)

-- and the cells of credits after them
abbrev pub LieWith : List ℕ → Loading → Loading → Values → List ℕ → Type 0
LieWith credits first now vs ws = IsAfter first now (loaded_places (length first.cells) vs credits)
    × (ws ≡ loaded_words (length first.cells) vs credits)

-- trees with these values and words, whose cells are just those that were made or taken
pub record IsBuilt (want : ℕ → ℕ) (first now : Loading) (vs : Values) (ws : List ℕ) : Type 0 where
  pub trees : Parts
  pub values : values_of trees ≡ vs
  pub words : ws ≡ words_of trees
  pub held : HoldAll now.cells trees
  pub taken : IsTaken want (λ k. cells_of_all k vs) (λ p. uses_of_all p trees) first now
  pub order : HasNoFree first → Lie first now vs ws

-- where the reader is, and what was built of the values before
pub record IsBuilding (tb : Table) (from : Origin) (bytes : List ℕ) (want : ℕ → ℕ) (first now : Loading)
    (o : Outline) (at : ℕ) (ws : List ℕ) : Type 0 where
  pub spot : Spot
  pub reading : IsReading tb from bytes o at spot
  pub built : IsBuilt want first now (values_to spot) ws

-- the values, and after them the cells of so many credits
pub record IsCrediting (credits : List ℕ) (want : ℕ → ℕ) (first now : Loading) (vs : Values) (ws : List ℕ) :
    Type 0 where
  pub trees : Parts
  pub places : List ℕ
  pub values : values_of trees ≡ vs
  pub words : ws ≡ words_of trees ++ cell_words places
  pub held : HoldAll now.cells trees
  pub zero : AreZero now.cells places credits
  pub taken : IsTaken want (wanted credits vs) (λ p. uses_of_all p trees + count p places) first now
  pub order : HasNoFree first → LieWith credits first now vs ws

-- what is read is of these values, which are a part of what is wanted
pub record IsRead (tb : Table) (from : Origin) (bytes : List ℕ) (want : ℕ → ℕ) (first : Loading) (vs : Values) :
    Type 0 where
  pub reads : runs tb bytes from.state from.place ≡ Accepted vs
  pub wanted : (k : ℕ) → cells_of_all k vs ≤ want k
  pub flags : length first.released ≡ length first.cells

-- what is read so far, and what is built of it since the first store
pub record IsGoing (tb : Table) (from : Origin) (bytes : List ℕ) (first : Loading) (o : Outline) (at : ℕ)
    (ws : List ℕ) (now : Loading) : Type 0 where
  pub spot : Spot
  pub reading : IsReading tb from bytes o at spot
  pub building : (want : ℕ → ℕ) (vs : Values) → IsRead tb from bytes want first vs →
      IsBuilding tb from bytes want first now o at ws

-- there is room for all that is wanted, of which the values are a part
pub record HasRoom (tb : Table) (from : Origin) (bytes : List ℕ) (want : ℕ → ℕ) (first : Loading) (vs : Values) :
    Type 0 where
  pub reads : runs tb bytes from.state from.place ≡ Accepted vs
  pub wanted : (k : ℕ) → cells_of_all k vs ≤ want k
  pub fits : words_up_to MOST_FIELDS want (free_in first) ≤ first.left
  pub flags : length first.released ≡ length first.cells

-- what the builder gives of all that is read
abbrev pub Built : Table → Origin → List ℕ → Loading → Loading → Result (Vec ℕ Global) Stopped → Type 0
Built tb from bytes first now (Ok ws) = (vs : Values) × (runs tb bytes from.state from.place ≡ Accepted vs)
    × ((want : ℕ → ℕ) → IsRead tb from bytes want first vs → IsBuilt want first now vs ws.items)
Built tb from bytes first now (Err (S.BadValue k)) = runs tb bytes from.state from.place ≡ Halted k
Built tb from bytes first now (Err S.Full) = (want : ℕ → ℕ) → (vs : Values) →
    HasRoom tb from bytes want first vs → ⊥
Built tb from bytes first now (Err S.NoMemory) = Unit {0}

-- where steps of the builder lead: on, to the end of the text, or to why it stops
abbrev pub HasGone : Table → Origin → List ℕ → Loading → Outline → ℕ → List ℕ → Loading → Result Bool Stopped → Type 0
HasGone tb from bytes first o at ws now (Ok true) = IsGoing tb from bytes first o at ws now
HasGone tb from bytes first o at ws now (Ok false) = (vs : Values) × (runs tb bytes from.state from.place ≡ Accepted vs)
    × ((want : ℕ → ℕ) → IsRead tb from bytes want first vs → IsBuilt want first now vs ws)
HasGone tb from bytes first o at ws now (Err e) = Built tb from bytes first now (Err e)
