-- It serves the proof that lowered code is laid out as asked: the tests that choose the next clause. Those of the sides
-- that were to be written are laid out one after another, as far as a clause is chosen by them whose body isn't
-- written yet; so each jump goes forward.
use Rattle.std.specs.Prelude.{◌≡◌, ◌≤◌, ◌<◌, ℕ, suc, Bool, true, List, [], ◌∷◌, Some, length, slice_get, is_some}
use Rattle.fip_language.specs.Every.{Among, Every}
use Rattle.cell_code.specs.declared.kind.Kind.{Kind}
use Rattle.cell_code.specs.Plain.{PlainFunction, PlainCode}
use Rattle.lower_frame.specs.code_rules.Codes.{label_at}
use Rattle.lower_frame.specs.code_rules.Kinds.{at}
use Rattle.lower_frame.specs.code_rules.Fitting.{fits}
use Rattle.lower_frame.specs.code_rules.Types.{fields, is_scalar_type}
use Rattle.match_knowledge.specs.Known.{Known, Open}
use Rattle.lower_frame.specs.lowering_relation.Spots.{register, below}
use Rattle.lower_frame.specs.lowering_relation.Landing.{Scene, Side, IsScene, RuledOut}
use Rattle.lower_frame.specs.lowering_relation.Written.{Written, size, Extends}
use Rattle.lower_frame.specs.lowering_relation.declared.held.Held.{Held}
use Rattle.lower_frame.specs.lowering_relation.declared.held.Held.TheVariants as H
use Rattle.lower_frame.specs.lowering_relation.Values.{Setting, is_scalar}
use Rattle.lower_frame.specs.lowering_relation.Describing.{Holding, held_at}
use Rattle.lower_frame.specs.lowering_relation.Labels.{Reports}
use Rattle.lower_frame.specs.lowering_relation.Matches.{wide_at}
use Rattle.lower_frame.specs.lowering_relation.Sights.{Sight}
use Rattle.lower_frame.specs.lowering_relation.Tests.{ChunkLaid, SidesLaid}
use Rattle.lower_frame.specs.Labels.{Rising}
use Rattle.lower_parts.specs.declared.choice.Choice.{Choice}
use Rattle.lower_parts.specs.Laying.{HasPart}
use Rattle.lower_parts.specs.Scenes.{scene, HasRows, first_side, HasLabel, Labelled, Ready}
use Rattle.lower_parts.specs.Testing.{Alike, choice_at, Caught, SeenSide}

-- no value that comes to a side matches a clause before n
abbrev pub RuledSide : Scene → ℕ → Side → Type 0
RuledSide s n d = RuledOut s d.known n

-- a side with a label comes after the first instruction
abbrev pub LaterSide : ℕ → Side → Type 0
LaterSide n d = HasLabel d.label → 0 < n

-- these kinds are what is reported where this is known
pub record Sighted (c : PlainCode) (f : PlainFunction) (hs : List Held) (s : Scene) (known : Known) (read : List ℕ)
    (kinds : List Kind) : Type 0 where
  pub wide : length kinds ≡ f.registers
  pub sight : Sight c.types (wide_at (held_at hs)) s.type s.root known read (at kinds)
  pub takes : (g : Holding) → Alike c.types hs g → (m : ℕ → Kind) → Sight c.types g s.type s.root known read m →
      (r : ℕ) → fits (at kinds r) (m r) ≡ true

-- The body of clause i begins at p, and a label stands there, but at the start of a function.
pub record Enters (f : PlainFunction) (to : ℕ → ℕ) (s : Scene) (i p : ℕ) : Type 0 where
  pub label : ℕ
  pub there : slice_get s.entries i ≡ Some label
  pub place : to label ≡ p
  pub reported : 0 < p → is_some (label_at f.labels p) ≡ true

-- What is so of a function that has what was written from v to w, of the registers before the match, and of the sides
-- that were to be written and those that still are: these have labels after it, and so have the clauses whose bodies
-- aren't written yet. Positions below the scrutinee hold nothing before the match.
pub record Premises (st : Setting) (hs : List Held) (s : Scene) (i : ℕ) (v : Written) (ds : List Side) (w : Written)
    (es : List Side) (last : Bool) (c : PlainCode) (to : ℕ → ℕ) (f : PlainFunction) : Type 0 where
  pub types : c.types ≡ s.table
  pub part : HasPart (size v) w to f
  pub rising : Rising (size v) 0 v.maps
  pub seen : Every (SeenSide s) ds
  pub ruled : Every (RuledSide s i) ds
  pub later : Every (LaterSide (size v)) ds
  pub scalars : (t k u : ℕ) → Among u (fields st.types t k) → is_scalar st u ≡ is_scalar_type st.types u
  pub long : length hs ≡ f.registers
  pub inside : register s.root < length hs
  pub fresh : (z : ℕ) → Among z (below s.root) → (z < length hs) × (held_at hs z ≡ H.Nothing)
  pub caught : Every (Caught c f hs (choice_at to s) to (size w)) es
  pub onward : (j label : ℕ) → i ≤ j → slice_get s.entries j ≡ Some label → size w ≤ to label
  pub enters : last ≡ true → Enters f to s i (size w)

-- the sides are laid out, and their labels take what is reported there
abbrev pub LaidSides :
    List Held → Scene → Written → List Side → Written → PlainCode → (ℕ → ℕ) → PlainFunction → Type 0
LaidSides hs s v ds w c to f =
    (n : ℕ) × SidesLaid c f (wide_at (held_at hs)) (choice_at to s) n (size v) (size w)
    × Every (Caught c f hs (choice_at to s) to (size v)) ds

-- at the start of the match, where a label reports just these kinds
abbrev pub LaidFirst :
    List Held → Scene → Written → Written → PlainCode → (ℕ → ℕ) → PlainFunction → (ℕ → Kind) → Type 0
LaidFirst hs s v w c to f m =
    (mid : ℕ) × (n : ℕ) × ChunkLaid c f (held_at hs) (choice_at to s) (size v) (Open []) [] m mid
    × SidesLaid c f (wide_at (held_at hs)) (choice_at to s) n mid (size w)

pub record ChoosesLaidIn (st : Setting) (hs : List Held) (s : Scene) (i : ℕ) (v : Written) (ds : List Side)
    (w : Written) (es : List Side) (last : Bool) : Type 0 where
  pub labelled : Every Labelled es
  pub extends : Extends v w
  pub seen : Every (SeenSide s) ds → Every (SeenSide s) es
  pub ruled : Every (RuledSide s i) ds → Every (RuledSide s i) es
  pub written : last ≡ true → Every (RuledSide s i) es → Every (RuledSide s (suc i)) es
  pub later : Every (LaterSide (size v)) ds → Every (LaterSide (size w)) es
  pub rising : Rising (size v) 0 v.maps → Rising (size w) 0 w.maps
  pub sides : Every Labelled ds → (c : PlainCode) (to : ℕ → ℕ) (f : PlainFunction) →
      Premises st hs s i v ds w es last c to f → LaidSides hs s v ds w c to f
  pub first : ds ≡ first_side ∷ [] → (c : PlainCode) (to : ℕ → ℕ) (f : PlainFunction) (m : ℕ → Kind) →
      Premises st hs s i v ds w es last c to f → Alike c.types hs (held_at hs) →
      ((map : List Kind) → label_at v.maps (size v) ≡ Some map → Reports f.registers map m) →
      LaidFirst hs s v w c to f m

-- of a match of a program
pub record ChoosesLaid (st : Setting) (hs : List Held) (c : Choice) (i : ℕ) (v : Written) (ds : List Side) (w : Written)
    (es : List Side) (last : Bool) : Type 0 where
  pub by : (low start : ℕ) → IsScene (scene st.types low c) → HasRows c → Ready start v ds →
      ChoosesLaidIn st hs (scene st.types low c) i v ds w es last
