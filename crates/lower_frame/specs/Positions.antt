-- It serves the proofs on lowered code: the positions of a match, as the code keeps them.
use Rattle.std.specs.Prelude.{ℕ, zero, suc, List, [], ◌∷◌, Option, Some, None, map}
use Rattle.fip_trees.specs.Tree.{Pattern}
use Rattle.lowering_relation.specs.Known.{Known}
use Rattle.lowering_relation.specs.Spots as S
use Rattle.lowering_relation.specs.Opening.{Roomy}
use Rattle.lower_frame.specs.declared.spots.Spot.{Spot}
use Rattle.lower_frame.specs.declared.spots.Spot.TheOpen as O
use Rattle.lower_frame.specs.declared.spots.Spot.TheFolds.{fold-Spot}

abbrev pub spots_in : List S.Spot → S.Spots
spots_in [] = S.NoSpots
spots_in (s ∷ ss) = S.MoreSpots s (spots_in ss)

abbrev pub spot_step : O.Spot-F S.Spot → S.Spot
spot_step s = S.At s.register (spots_in s.fields.items)

abbrev pub spot_of : Spot → S.Spot
spot_of = fold-Spot S.Spot spot_step

abbrev pub spots_of : List Spot → S.Spots
spots_of ss = spots_in (map spot_of ss)

-- the position at a place among others, and those from there on
abbrev pub spot_at : S.Spots → ℕ → Option S.Spot
spot_at S.NoSpots n = None
spot_at (S.MoreSpots s ss) zero = Some s
spot_at (S.MoreSpots s ss) (suc n) = spot_at ss n

abbrev pub past : ℕ → S.Spots → S.Spots
past zero ss = ss
past (suc n) S.NoSpots = S.NoSpots
past (suc n) (S.MoreSpots s ss) = past n ss

-- there is a position for each part of a pattern at this place among others
abbrev pub RoomyAt : Pattern → ℕ → S.Spots → Type 0
RoomyAt q n S.NoSpots = ⊥
RoomyAt q zero (S.MoreSpots s ss) = Roomy q s
RoomyAt q (suc n) (S.MoreSpots s ss) = RoomyAt q n ss

-- registers up to n are used
abbrev pub reaching : Known → ℕ → Known
reaching k n = record k { next = n }
