-- One argument of a call, against what is held.
use Rattle.std.proofs.Common.{◌≡◌, ◌≢◌, ◌⊎◌, inl, inr, ◌-◌, zero, suc, length, drop, ◌∙◌, ℕ, ◌+◌, ◌<◌, ◌≤◌, Bool, true, false, List, [], ◌∷◌, ◌++◌, map, Option, Some, None, option_map, not, if◌then◌else◌, append-nil, append_assoc, refl, sym, ap, subst, arith}
use Rattle.std.specs.Prelude.{min, slice_index_or, ◌^◌}
use Rattle.std.proofs.lemmas.Option.{none-some, same_Some}
use Rattle.std.proofs.lemmas.List.{length-map}
use Rattle.std.specs.BTreeMap.{BTreeMap}
use Rattle.std.specs.declared.alloc.Global.{Global}
use Rattle.std.specs.declared.vec.Vec.{Vec}
use Rattle.fip_base.specs.declared.plain.Param.{Param}
use Rattle.fip_language.specs.Core.{Name}
use Rattle.fip_language.specs.Every.{times}
use Rattle.fip_language.specs.Table.{Table, is_scalar}
use Rattle.fip_language.specs.Values.{Value, End, More}
use Rattle.session_lines.specs.session_semantics.Lines.{Given as Written, Held as Name', Fresh, Written as Text, Number, Named, WrittenText, Symbol, symbol, symbols}
use Rattle.session_lines.specs.session_semantics.Typed.{IsValue}
use Rattle.session_lines.specs.session_semantics.Talk.{Holding, IsTaken, IsFree, held_as, named_by, written}
use Rattle.std.specs.Borrow.{Bor}
use Rattle.session_lines.specs.Said.{IsGiven}
use Rattle.session_lines.specs.declared.line.Written.TheVariants as W
use Rattle.session_lines.specs.declared.scan.Span.{Span}
use Rattle.session_values.specs.Read.{Adds, IsTextOf}
use Rattle.session_values.specs.Readable.{IsLine}
use Rattle.session_values.proofs.OneValue.{adds_none, as_symbols, same_value, begins_with}
use Rattle.session_values.proofs.Bridge.{written_is}
use Rattle.session_values.proofs.Symbols.{chr, are_read}
use Rattle.session_correctness.specs.Lodging.{Lodged, holding_of, lodged_as}
use Rattle.session_correctness.proofs.Speaking.{held_lodged}
use Rattle.fip_session.specs.Named.{found}
use Rattle.fip_session.specs.Planned.{CanTake, held_by, Finds, TakesIn, IsRefused, names_given, names_used}
use Rattle.fip_session.specs.declared.book.Held.{Held}
use Rattle.fip_session.specs.declared.plan.Arguments.{Arguments}
use Rattle.fip_session.specs.declared.plan.Given.{Given}
use Rattle.value_text.specs.Single.{BeginsWith, IsPlaced, IsValueAt, AreCellsOf}
use Rattle.value_text.specs.declared.counts.Counts.{Counts}
use Rattle.fip_language.proofs.Facts.{le_or_less as within_or}

-- ---- names that are noted

pub names_more : (gs : List Given) (g : Given) → names_given (gs ++ g ∷ []) ≡ names_given gs ++ g.name.now ∷ []
names_more [] g = refl
names_more (h ∷ gs) g = ap (λ ns. h.name.now ∷ ns) (names_more gs g)

pub used_more : (gs : List Given) (g : Given) → names_used (gs ++ g ∷ []) ≡ names_used gs ++ (if g.is_used_up then g.name.now ∷ [] else [])
used_more [] g = append-nil (if g.is_used_up then g.name.now ∷ [] else [])
used_more (h ∷ gs) g =
    ap (λ ns. (if h.is_used_up then h.name.now ∷ [] else []) ++ ns) (used_more gs g)
    ∙ sym (append_assoc (if h.is_used_up then h.name.now ∷ [] else []) (names_used gs) (if g.is_used_up then g.name.now ∷ [] else []))

-- ---- a name

module _ (tb : Table) (b : BTreeMap (Vec ℕ Global) Held) (ls : List Lodged) (finds : Finds b ls) (q : Param) (name : Name) (old : Arguments) where
  abbrev held : List Holding
  held = map holding_of ls

  -- what is found is held
  is_lodged : (h : Held) → found b name ≡ Some h → (l : Lodged) × (lodged_as name ls ≡ Some l) × (h ≡ held_by l)
  is_lodged h e = by (lodged_as name ls) refl (sym (finds name) ∙ e)
    where
      by : (o : Option Lodged) → lodged_as name ls ≡ o → option_map held_by o ≡ Some h → (l : Lodged) × (lodged_as name ls ≡ Some l) × (h ≡ held_by l)
      by None e f = absurd (none-some h f)
      by (Some l) e f = (l, e, sym (same_Some (held_by l) h f))

  as_held : (l : Lodged) → lodged_as name ls ≡ Some l → held_as name held ≡ Some (holding_of l)
  as_held l e = held_lodged name ls ∙ ap (option_map holding_of) e

  pub never_found : found b name ≡ None → IsRefused tb held old q (Name' name)
  never_found none v t = by (lodged_as name ls) refl
    where
      by : (o : Option Lodged) → lodged_as name ls ≡ o → ⊥
      by None e = none-some t.0 (sym (held_lodged name ls ∙ ap (option_map holding_of) e) ∙ t.1)
      by (Some l) e = none-some (held_by l) (sym none ∙ finds name ∙ ap (option_map held_by) e)

  pub other_type : (h : Held) → found b name ≡ Some h → h.ty ≢ q.ty → IsRefused tb held old q (Name' name)
  other_type h e other v t =
      let l = is_lodged h e in
      let same : holding_of l.0 ≡ t.0 = same_Some (holding_of l.0) t.0 (sym (as_held l.0 l.1) ∙ t.1) in
      other (ap (λ (h : Held). h.ty) l.2 ∙ ap (λ (h : Holding). h.type) same ∙ t.2)

  pub given_again : is_scalar tb q.ty ≡ false → 0 < times name (names_given old.given.items) → IsRefused tb held old q (Name' name)
  given_again data' some v t = let z = t.4 data' in let y : ⊥ = omega (arith, some, z) in y

  taken_as : (h : Held) → found b name ≡ Some h → h.ty ≡ q.ty → (is_scalar tb q.ty ≡ false → times name (names_given old.given.items) ≡ 0) → (v : Value) × IsTaken tb held (names_given old.given.items) q (Name' name) v
  taken_as h e same once =
      let l = is_lodged h e in
      ((holding_of l.0).value, (holding_of l.0, as_held l.0 l.1, sym (ap (λ (h : Held). h.ty) l.2) ∙ same, refl, once))

  -- a scalar may be given again
  pub scalar_in : (h : Held) → found b name ≡ Some h → h.ty ≡ q.ty → is_scalar tb q.ty ≡ true → TakesIn tb held q (Name' name) old old
  scalar_in h e same scalar =
      let t = taken_as h e same (λ no. absurd (let z = sym scalar ∙ no in cc)) in
      let none : named_by tb q (Name' name) ≡ [] = ap (λ (s : Bool). if s then [] else name ∷ []) scalar in
      record {
        value = t.0;
        taken = t.1;
        names = sym (ap (λ ns. names_given old.given.items ++ ns) none ∙ append-nil (names_given old.given.items));
        used = sym (ap (λ ns. names_used old.given.items ++ ns) (lent_none q.lent none) ∙ append-nil (names_used old.given.items));
        counts = adds_none old.fresh (λ k. written k (Name' name ∷ []) (More t.0 End)) (λ k. refl);
      }
    where
      lent_none : (lent : Bool) → named_by tb q (Name' name) ≡ [] → (if lent then [] else named_by tb q (Name' name)) ≡ []
      lent_none true e = refl
      lent_none false e = e

  pub name_in : (h : Held) (g : Given) (new : Arguments) → found b name ≡ Some h → h.ty ≡ q.ty → is_scalar tb q.ty ≡ false → times name (names_given old.given.items) ≡ 0 → g.name.now ≡ name → g.is_used_up ≡ not q.lent → new.given.items ≡ old.given.items ++ g ∷ [] → new.fresh ≡ old.fresh → TakesIn tb held q (Name' name) old new
  name_in h g new e same data' once named up pushed fresh =
      let t = taken_as h e same (λ no. once) in
      let one : named_by tb q (Name' name) ≡ name ∷ [] = ap (λ (s : Bool). if s then [] else name ∷ []) data' in
      record {
        value = t.0;
        taken = t.1;
        names = ap names_given pushed ∙ names_more old.given.items g ∙ ap (λ n. names_given old.given.items ++ n ∷ []) named ∙ ap (λ ns. names_given old.given.items ++ ns) (sym one);
        used = ap names_used pushed ∙ used_more old.given.items g ∙ ap (λ ns. names_used old.given.items ++ ns) (noted g.is_used_up q.lent up one);
        counts = subst (λ c. Adds old.fresh c (λ k. written k (Name' name ∷ []) (More t.0 End))) (sym fresh) (adds_none old.fresh (λ k. written k (Name' name ∷ []) (More t.0 End)) (λ k. refl));
      }
    where
      noted : (up lent : Bool) → up ≡ not lent → named_by tb q (Name' name) ≡ name ∷ [] → (if up then g.name.now ∷ [] else []) ≡ (if lent then [] else named_by tb q (Name' name))
      noted true true e one = absurd (let z = e in cc)
      noted true false e one = ap (λ n. n ∷ []) named ∙ sym one
      noted false true e one = refl
      noted false false e one = absurd (let z = e in cc)

-- ---- a value

no_text : (w : Text) (rest : List Symbol) → WrittenText [] w rest → ⊥
no_text (Number i) rest h = h
no_text (Named name ws) rest h = h.0

past_end : (n : ℕ) (bytes : List ℕ) → length bytes ≤ n → drop n bytes ≡ []
past_end zero [] le = refl
past_end (suc n) [] le = refl
past_end zero (b ∷ bytes) le = absurd (let z : ⊥ = omega (arith, le) in z)
past_end (suc n) (b ∷ bytes) le = past_end n bytes (omega (arith, le))

length_left : (n : ℕ) (bytes : List ℕ) → length (drop n bytes) ≡ length bytes - n
length_left zero bytes = omega arith
length_left (suc n) [] = omega arith
length_left (suc n) (b ∷ bytes) = let h = length_left n bytes in omega (arith, h)

module _ (tb : Table) (k : ℕ) (bytes : List ℕ) (can : CanTake tb k bytes) (start end : ℕ) (w : Text) (written' : WrittenText (symbols (drop start bytes)) w (symbols (drop end bytes))) where
  abbrev at_place : ℕ → List Symbol
  at_place p = symbols (drop p bytes)

  within : start ≤ length bytes
  within = by (within_or start (length bytes))
    where
      by : (start ≤ length bytes) ⊎ (length bytes < start) → start ≤ length bytes
      by (inl le) = le
      by (inr lt) = absurd (no_text w (at_place end) (subst (λ cs. WrittenText (symbols cs) w (at_place end)) (past_end start bytes (omega (arith, lt))) written'))

  pub placed : IsPlaced tb k bytes start
  placed = record { sound = can.sound; known = can.known; within = within; short = can.line.short }

  left_of : (p : ℕ) → length (at_place p) ≡ length bytes - p
  left_of p = length-map (drop p bytes) symbol ∙ length_left p bytes

  -- What is read to its end is the value that is written.
  pub read_is : (e : ℕ) (v : Value) → IsValueAt tb k bytes start v e → e ≡ min end (length bytes) → IsValue tb k w v
  read_is e v h same =
      let a = left_of e in
      let b = left_of end in
      let c = length-map (at_place e) chr in
      written_is tb can.sound k (at_place start) w v (at_place end) (map chr (at_place e)) (are_read (drop start bytes)) written' (as_symbols tb can.sound bytes can.line.one k start e v h) (omega (arith, a, b, c, same))

  -- What ends elsewhere isn't,
  pub other_end : (e : ℕ) (v : Value) → IsValueAt tb k bytes start v e → e ≢ min end (length bytes) → (u : Value) → IsValue tb k w u → ⊥
  other_end e v h other u is =
      let both = same_value tb can.sound bytes can.line.one k start e v u (at_place end) h (w, written', is) in
      let a = left_of e in
      let b = left_of end in
      let c = ap length both.1 in
      let le = h.within in
      other (omega (arith, a, b, c, le))

  -- and a value that is written begins there.
  pub begins_there : (u : Value) → IsValue tb k w u → BeginsWith tb k (drop start bytes) u
  begins_there u is = begins_with tb can.sound bytes can.line.one k start u (at_place end) (w, written', is)

-- ---- names of results

module _ (b : BTreeMap (Vec ℕ Global) Held) (ls : List Lodged) (finds : Finds b ls) (used before : List Name) (name : Name) where
  abbrev holdings : List Holding
  holdings = map holding_of ls

  pub free_none : times name before ≡ 0 → found b name ≡ None → IsFree holdings used before name
  free_none once none = record { once = once; free = inl (by (lodged_as name ls) refl) }
    where
      by : (o : Option Lodged) → lodged_as name ls ≡ o → held_as name holdings ≡ None
      by None e = held_lodged name ls ∙ ap (option_map holding_of) e
      by (Some l) e = absurd (none-some (held_by l) (sym none ∙ finds name ∙ ap (option_map held_by) e))

  pub free_used : times name before ≡ 0 → 0 < times name used → IsFree holdings used before name
  free_used once some = record { once = once; free = inr some }

  pub not_again : 0 < times name before → IsFree holdings used before name → ⊥
  not_again some f = let z = f.once in let y : ⊥ = omega (arith, some, z) in y

  pub not_held : (h : Held) → found b name ≡ Some h → times name used ≡ 0 → IsFree holdings used before name → ⊥
  not_held h e none f = by f.free
    where
      kept : (l : Lodged) → lodged_as name ls ≡ Some l → held_as name holdings ≡ None → ⊥
      kept l e n = none-some (holding_of l) (sym n ∙ held_lodged name ls ∙ ap (option_map holding_of) e)

      found_as : (o : Option Lodged) → lodged_as name ls ≡ o → held_as name holdings ≡ None → ⊥
      found_as None o n = none-some h (sym (finds name ∙ ap (option_map held_by) o) ∙ e)
      found_as (Some l) o n = kept l o n

      by : (held_as name holdings ≡ None) ⊎ (0 < times name used) → ⊥
      by (inl n) = found_as (lodged_as name ls) refl n
      by (inr some) = let z : ⊥ = omega (arith, some, none) in z

-- ---- what a line gives

pub record IsText (bytes : List ℕ) (span : Span) (g : Written) : Type 0 where
  pub text : Text
  pub is : g ≡ Fresh text
  pub stands : WrittenText (symbols (drop span.start bytes)) text (symbols (drop span.end bytes))

pub given_text : (bytes : List ℕ) (span : Span) (g : Written) → IsGiven bytes (W.Value span) g → IsText bytes span g
given_text bytes span (Fresh w) h = record { text = w; is = refl; stands = h }
given_text bytes span (Name' name) h = absurd h

pub given_name : (bytes : List ℕ) (n : Bor (List ℕ)) (g : Written) → IsGiven bytes (W.Name n) g → g ≡ Name' n.now
given_name bytes n (Fresh w) h = absurd h
given_name bytes n (Name' name) h = ap Name' (sym h)

-- a value is taken in, with its cells
pub value_in : (tb : Table) (held : List Holding) (q : Param) (w : Text) (v : Value) (old new : Arguments) (counts : Counts) → IsValue tb q.ty w v → AreCellsOf counts v → ((k : ℕ) → slice_index_or new.fresh.numbers k 0 ≡ min (slice_index_or old.fresh.numbers k 0 + slice_index_or counts.numbers k 0) (2 ^ 64 - 1)) → new.given ≡ old.given → TakesIn tb held q (Fresh w) old new
value_in tb held q w v old new counts is cells' added same =
    let given : names_given new.given.items ≡ names_given old.given.items = ap (λ (gs : Vec Given Global). names_given gs.items) same in
    let used : names_used new.given.items ≡ names_used old.given.items = ap (λ (gs : Vec Given Global). names_used gs.items) same in
    record {
      value = v;
      taken = is;
      names = given ∙ sym (append-nil (names_given old.given.items));
      used = used ∙ sym (ap (λ ns. names_used old.given.items ++ ns) (if_same q.lent) ∙ append-nil (names_used old.given.items));
      counts = λ k le few. (
          let a = added k in
          let c = cells' k le in
          omega (arith, a, c, few)
          );
    }
  where
    if_same : (b : Bool) → ◌≡◌ {A = List Name} (if b then [] else []) []
    if_same true = refl
    if_same false = refl
