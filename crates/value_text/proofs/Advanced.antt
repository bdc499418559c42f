-- A step of the builder, from what the reader read and what was put down.
use Rattle.std.proofs.Common.{◌≡◌, ◌≤◌, ℕ, List, [], ◌∷◌, ◌++◌, length, Option, Some, None, refl, sym, ◌∙◌, subst}
use Rattle.std.specs.Prelude.{Bool, true, false, Result, Ok, Err, OnOk, OnErr, IfOk, MatchOption}
use Rattle.fip_language.specs.Table.{Table}
use Rattle.cell_store.specs.Made.{Loading}
use Rattle.value_text.specs.declared.read.Event.{Event}
use Rattle.value_text.specs.declared.read.Refused.{Refused}
use Rattle.value_text.specs.declared.read.Refused.TheVariants.{BadValue, NoMemory}
use Rattle.value_text.specs.declared.build.Stopped.{Stopped}
use Rattle.value_text.specs.declared.build.Stopped.TheVariants as S
use Rattle.fip_language.specs.SoundTable.{IsSoundTable}
use Rattle.fip_language.specs.Values.{Values}
use Rattle.value_text.proofs.Built.{building_room, is_read, building_on, building_ends, reading_goes, reading_ends}
use Rattle.value_text.specs.declared.read.Event.TheVariants as E
use Rattle.value_text.specs.Reading.{Outline, Spot, outline_at, GoesOn, Origin, Stepped, IsKnown, IsNarrow, IsReading, node_event, field_event, line_event}
use Rattle.value_text.specs.Building.{Puts, IsPut, IsEvent, Advanced, IsRead, IsBuilding, IsBuilt, Built, IsGoing, HasGone, stopped_by, then_on}

pub word_put : (e : Event) (ws ws' : List ℕ) (l : Loading) (w : ℕ) (r : Result (Unit {0}) Stopped) → (ws' ≡ ws ++ w ∷ [] → Puts e ws l ws' l) → OnOk r (ws' ≡ ws ++ w ∷ []) → OnErr r (r ≡ Err S.NoMemory) → IsPut e ws l ws' l r
word_put e ws ws' l w (Ok u) f a b = f a
word_put e ws ws' l w (Err (S.BadValue k)) f a b = cc
word_put e ws ws' l w (Err S.Full) f a b = cc
word_put e ws ws' l w (Err S.NoMemory) f a b = tt

module _ (tb : Table) (bytes : List ℕ) (o : Outline) (at : ℕ) (o' : Outline) (at' : ℕ) where
  pub bare_event : (c : ℕ) (r : Option ℕ) → r ≡ Some c → ((s : Spot) → GoesOn s → o ≡ outline_at s → Stepped tb bytes s at (node_event (Ok r)) o' at') → IfOk (node_event (Ok r)) (λ e. IsKnown tb o') → IsEvent tb bytes o at o' at' (E.Bare c)
  bare_event c None q s k = cc
  bare_event c (Some d) q s k = let e : d ≡ c = cc in subst (λ c. IsEvent tb bytes o at o' at' (E.Bare c)) e (record { steps = s; known = k; narrow = tt })

  pub opened_event : (r : Option ℕ) → r ≡ None → ((s : Spot) → GoesOn s → o ≡ outline_at s → Stepped tb bytes s at (node_event (Ok r)) o' at') → IfOk (node_event (Ok r)) (λ e. IsKnown tb o') → IsEvent tb bytes o at o' at' E.Opened
  opened_event None q s k = record { steps = s; known = k; narrow = tt }
  opened_event (Some d) q s k = cc

  pub closed_event : (c n : ℕ) (r : Option (ℕ × ℕ)) → r ≡ Some (c, n) → ((s : Spot) → GoesOn s → o ≡ outline_at s → Stepped tb bytes s at (field_event (Ok r)) o' at') → IfOk (field_event (Ok r)) (λ e. IsKnown tb o') → IfOk (field_event (Ok r)) (λ e. MatchOption e ℕ IsNarrow) → IsEvent tb bytes o at o' at' (E.Closed c n)
  closed_event c n None q s k w = cc
  closed_event c n (Some d) q s k w = let e : (c, n) ≡ d = cc in subst (λ (d : ℕ × ℕ). IsEvent tb bytes o at o' at' (E.Closed d.0 d.1)) (sym e) (record { steps = s; known = k; narrow = w })

  pub comma_event : (r : Option (ℕ × ℕ)) → r ≡ None → ((s : Spot) → GoesOn s → o ≡ outline_at s → Stepped tb bytes s at (field_event (Ok r)) o' at') → IfOk (field_event (Ok r)) (λ e. IsKnown tb o') → IsEvent tb bytes o at o' at' E.Comma
  comma_event None q s k = record { steps = s; known = k; narrow = tt }
  comma_event (Some d) q s k = cc

  pub line_advances : (ws : List ℕ) (l : Loading) (more : Bool) → ((s : Spot) → GoesOn s → o ≡ outline_at s → Stepped tb bytes s at (line_event (Ok more)) o' at') → IfOk (line_event (Ok more)) (λ e. IsKnown tb o') → Advanced tb bytes o at o' at' ws l ws l (Ok more)
  line_advances ws l true s k = (E.Line, record { steps = s; known = k; narrow = tt }, (refl, refl))
  line_advances ws l false s k = (s, refl, refl)

module _ (tb : Table) (bytes : List ℕ) (o : Outline) (at : ℕ) (o' : Outline) (at' : ℕ) (ws : List ℕ) (l : Loading) (ws' : List ℕ) (l' : Loading) where
  pub put_advances : (e : Event) (r : Result (Unit {0}) Stopped) → IsEvent tb bytes o at o' at' e → IsPut e ws l ws' l' r → Advanced tb bytes o at o' at' ws l ws' l' (then_on r)
  put_advances e (Ok u) h p = (e, h, p)
  put_advances e (Err (S.BadValue k)) h p = absurd p
  put_advances e (Err S.Full) h p = (e, h, p)
  put_advances e (Err S.NoMemory) h p = tt

  pub refused_advances : (e : Refused) → ((s : Spot) → GoesOn s → o ≡ outline_at s → Stepped tb bytes s at (Err e) o' at') → Advanced tb bytes o at o' at' ws l ws' l' (Err (stopped_by e))
  refused_advances (BadValue k) h = h
  refused_advances NoMemory h = tt

  has_stopped : (from : Origin) (first : Loading) (e : Stopped) → IsSoundTable tb → ((s : Spot) → IsReading tb from bytes o at s → GoesOn s) → (s : Spot) × IsReading tb from bytes o at s → ((want : ℕ → ℕ) (vs : Values) → IsRead tb from bytes want first vs → IsBuilding tb from bytes want first l o at ws) → Advanced tb bytes o at o' at' ws l ws' l' (Err e) → Built tb from bytes first l' (Err e)
  has_stopped from first (S.BadValue k) sound go r b a = sym (r.1).reads ∙ a r.0 (go r.0 r.1) (r.1).outline
  has_stopped from first S.Full sound go r b a = λ want vs room.
      let read = is_read tb from bytes want first vs room in
      let h = b want vs read in
      a.2 (building_room tb sound from bytes want first l o o' at at' ws vs h read (go h.spot h.reading) a.0 (a.1).steps (a.1).known (a.1).narrow room.fits)
  has_stopped from first S.NoMemory sound go r b a = tt

  -- where the step leads
  pub gone_on : (from : Origin) (first : Loading) (r : Result Bool Stopped) → IsSoundTable tb → ((s : Spot) → IsReading tb from bytes o at s → GoesOn s) → (r ≡ Ok true → at' ≤ length bytes) → IsGoing tb from bytes first o at ws l → Advanced tb bytes o at o' at' ws l ws' l' r → HasGone tb from bytes first o' at' ws' l' r
  gone_on from first (Ok true) sound go within g a =
      let next = reading_goes tb from bytes o o' at at' a.0 (g.spot, g.reading) (go g.spot g.reading) (a.1).steps (a.1).known (within refl) in
      record {
        spot = next.0;
        reading = next.1;
        building = λ want vs read. let h = g.building want vs read in building_on tb sound from bytes want first l o o' at at' ws vs h read (go h.spot h.reading) a.0 (a.1).steps (a.1).known (a.1).narrow l' ws' (within refl) a.2;
      }
  gone_on from first (Ok false) sound go within g a =
      let e = reading_ends tb from bytes o o' at at' (g.spot, g.reading) (go g.spot g.reading) a.0 in (
        e.0,
        e.1,
        λ want read.
            subst (λ (l : Loading). IsBuilt want first l e.0 ws') (sym a.2) (subst (IsBuilt want first l e.0) (sym a.1)
            (let h = g.building want e.0 read in building_ends tb sound from bytes want first l o o' at at' ws e.0 h read (go h.spot h.reading) a.0)),
      )
  gone_on from first (Err e) sound go within g a = has_stopped from first e sound go (g.spot, g.reading) g.building a

module _ (tb : Table) (from : Origin) (bytes : List ℕ) (first : Loading) (o : Outline) (at : ℕ) (ws : List ℕ) (l : Loading) where
  pub goes_on : (more : Bool) → more ≡ true → HasGone tb from bytes first o at ws l (Ok more) → IsGoing tb from bytes first o at ws l
  goes_on true q h = h
  goes_on false q h = cc

  pub is_over : (more : Bool) → more ≡ false → HasGone tb from bytes first o at ws l (Ok more) → HasGone tb from bytes first o at ws l (Ok false)
  is_over true q h = cc
  is_over false q h = h
