-- What the loading of a whole text gives, in the machine's words. No public clause speaks of it.
use Rattle.std.specs.Prelude.{◌≡◌, ℕ, ◌<◌, ◌≤◌, List, length, Result, Ok, Err}
use Rattle.std.specs.declared.vec.Vec.{Vec}
use Rattle.std.specs.declared.alloc.Global.{Global}
use Rattle.fip_language.specs.Prefix.{Accepted, Stopped}
use Rattle.fip_language.specs.Values.{Values}
use Rattle.fip_language.specs.Table.{Table}
use Rattle.cell_store.specs.Made.{Loading}
use Rattle.value_text.specs.Machine.{start}
use Rattle.value_text.specs.Scan.{runs}
use Rattle.value_text.specs.declared.build.Stopped as B
use Rattle.value_text.specs.declared.build.Stopped.TheVariants as S
use Rattle.value_text.specs.declared.load.LoadError.{LoadError}
use Rattle.value_text.specs.declared.load.LoadError.TheVariants as L
use Rattle.value_text.specs.Loaded.{needed, wanted}
use Rattle.value_text.specs.Building.{IsCrediting}

-- The text is of these values, and there is room for their cells and the credits'.
pub record CanLoad (tb : Table) (types credits bytes : List ℕ) (first : Loading) (vs : Values) : Type 0 where
  pub reads : runs tb bytes (start types) 0 ≡ Accepted vs
  pub fits : needed first credits vs ≤ first.left
  pub flags : length first.released ≡ length first.cells

-- what comes of credits after values that were built
abbrev pub Credited : List ℕ → Loading → Loading → Values → Result (Vec ℕ Global) B.Stopped → Type 0
Credited credits first now vs (Ok ws) = IsCrediting credits (wanted credits vs) first now vs ws.items
Credited credits first now vs (Err (S.BadValue k)) = ⊥
Credited credits first now vs (Err S.Full) = needed first credits vs ≤ first.left → ⊥
Credited credits first now vs (Err S.NoMemory) = Unit {0}

-- what comes of a whole text and credits, whatever the room
abbrev pub WholeBuilt : Table → List ℕ → List ℕ → List ℕ → Loading → Loading → Result (Vec ℕ Global) B.Stopped → Type 0
WholeBuilt tb types credits bytes first now (Ok ws) = (vs : Values) × (runs tb bytes (start types) 0 ≡ Accepted vs)
    × IsCrediting credits (wanted credits vs) first now vs ws.items
WholeBuilt tb types credits bytes first now (Err (S.BadValue k)) = runs tb bytes (start types) 0 ≡ Stopped k
WholeBuilt tb types credits bytes first now (Err S.Full) = (vs : Values) → CanLoad tb types credits bytes first vs → ⊥
WholeBuilt tb types credits bytes first now (Err S.NoMemory) = Unit {0}

-- what comes of a text and credits that have room
abbrev pub AllBuilt : List ℕ → Loading → Loading → Values → Result (Vec ℕ Global) B.Stopped → Type 0
AllBuilt credits first now vs (Ok ws) = IsCrediting credits (wanted credits vs) first now vs ws.items
AllBuilt credits first now vs (Err (S.BadValue k)) = ⊥
AllBuilt credits first now vs (Err S.Full) = ⊥
AllBuilt credits first now vs (Err S.NoMemory) = Unit {0}

abbrev pub IsAnswer : Table → List ℕ → List ℕ → List ℕ → Loading → Result (Loading × Vec ℕ Global) LoadError → Type 0
IsAnswer tb types credits bytes first (Ok r) = (vs : Values) × CanLoad tb types credits bytes first vs
    × IsCrediting credits (wanted credits vs) first r.0 vs (r.1).items
IsAnswer tb types credits bytes first (Err (L.BadValue k l)) = (l ≡ first) × (runs tb bytes (start types) 0 ≡ Stopped k)
IsAnswer tb types credits bytes first (Err (L.Full n words l)) = (l ≡ first) × (words ≡ first.left) × (words < n)
    × (vs : Values) × (runs tb bytes (start types) 0 ≡ Accepted vs) × (n ≡ needed first credits vs)
IsAnswer tb types credits bytes first (Err L.NoMemory) = Unit {0}

-- what one reading of a text into a new loader reports
abbrev pub IsTried : Table → List ℕ → List ℕ → List ℕ → Loading → Result (Loading × Vec ℕ Global) B.Stopped → Type 0
IsTried tb types credits bytes first (Ok r) = IsAnswer tb types credits bytes first (Ok r)
IsTried tb types credits bytes first (Err (S.BadValue k)) = runs tb bytes (start types) 0 ≡ Stopped k
IsTried tb types credits bytes first (Err S.Full) = Unit {0}
IsTried tb types credits bytes first (Err S.NoMemory) = Unit {0}
