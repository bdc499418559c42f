-- It serves the proof that lowered code is laid out as asked: which positions of a match were read while its clause is
-- chosen. A position is read before its value is tested; of one that wasn't read nothing was found out.
use Rattle.std.specs.Prelude.{◌≡◌, ◌⊎◌, ℕ, true, false, List, [], ◌∷◌}
use Rattle.fip_language.specs.Every.{Among}
use Rattle.fip_language.specs.Table.{Table}
use Rattle.lower_frame.specs.code_rules.Types.{fields}
use Rattle.match_knowledge.specs.declared.heads.Head.TheVariants.{Number, Tag}
use Rattle.match_knowledge.specs.Known.{Known, Open, Is, Knowns, NoKnowns, MoreKnowns}
use Rattle.lower_frame.specs.lowering_relation.Spots.{Spot, At, Spots, NoSpots, MoreSpots, register, below, all_in}
use Rattle.lower_frame.specs.lowering_relation.Reading.{contains}
use Rattle.lower_frame.specs.lowering_relation.Sights.{Fresh}

abbrev pub NoneRead : List ℕ → List ℕ → Type 0
NoneRead zs read = (z : ℕ) → Among z zs → contains z read ≡ false

-- those below the position of a value of type t, of which this is known
abbrev mutual
  pub Seen : Table → ℕ → Known → Spot → List ℕ → Type 0
  Seen w t (Open out) (At r fs) read = NoneRead (all_in fs) read
  Seen w t (Is (Number i) ks) (At r fs) read = NoneRead (all_in fs) read
  Seen w t (Is (Tag c) ks) (At r fs) read = AllSeen w (fields w t c) ks fs read

  pub AllSeen : Table → List ℕ → Knowns → Spots → List ℕ → Type 0
  AllSeen w ts ks NoSpots read = Unit {0}
  AllSeen w [] ks (MoreSpots s ss) read = NoneRead (all_in (MoreSpots s ss)) read
  AllSeen w (t ∷ ts) NoKnowns (MoreSpots s ss) read = ⊥
  AllSeen w (t ∷ ts) (MoreKnowns k ks) (MoreSpots s ss) read =
      (((contains (register s) read ≡ true) × Seen w t k s read)
      ⊎ ((contains (register s) read ≡ false) × NoneRead (below s) read × Fresh w t k)) × AllSeen w ts ks ss read
