-- What the whole loading gives, in the words of its clauses.
use Rattle.std.proofs.Common.{◌≡◌, ◌⊎◌, inl, inr, ℕ, zero, suc, ◌+◌, ◌-◌, ◌<◌, ◌≤◌, List, [], ◌∷◌, refl, sym, ap, ap₂, ◌∙◌, subst, arith}
use Rattle.std.specs.Prelude.{Result, Ok, Err, IfOk, MatchResult}
use Rattle.std.specs.declared.vec.Vec.{Vec}
use Rattle.std.specs.declared.alloc.Global.{Global}
use Rattle.fip_language.specs.Prefix.{Accepted, IsPlace}
use Rattle.fip_language.specs.Values.{Values, End}
use Rattle.fip_language.specs.Table.{Table, HasType, HaveTypes}
use Rattle.fip_language.specs.Store.{Placed, PlacedInt, Bare, At, Parts, NoParts, MoreParts, value_of, values_of}
use Rattle.fip_language.specs.Character.{characters}
use Rattle.fip_language.specs.ValueText.{SpellsValues}
use Rattle.cell_store.specs.Cells.{Cells}
use Rattle.cell_store.specs.Made.{Loading}
use Rattle.value_text.specs.Machine.{start}
use Rattle.value_text.specs.Scan.{runs}
use Rattle.value_text.proofs.Tables.{is_table, types_alive}
use Rattle.value_text.proofs.Exact.{accepts_text, accepted_text, stopped_text}
use Rattle.value_text.proofs.Typed.{input_typed}
use Rattle.value_text.specs.declared.load.LoadError.{LoadError}
use Rattle.value_text.specs.declared.load.LoadError.TheVariants as L
use Rattle.value_text.specs.FirstStore.{IsInOrder}
use Rattle.value_text.specs.Loaded.{IsGiven, IsLoaded, HasNoFree, needed, wanted, words_up_to, free_in}
use Rattle.value_text.specs.Standing.{Stands, StandAll, Holds, HoldAll}
use Rattle.value_text.specs.Answered.{IsAnswer}
use Rattle.value_text.proofs.Whole.{nothing_left, accepted_same}

-- a tree that is held has the type of its value
no_fields_left : (tb : Table) (ks : List ℕ) → HaveTypes tb ks End → ks ≡ []
no_fields_left tb [] h = refl
no_fields_left tb (k ∷ ks) h = absurd h

mutual
  pub held_stands : (tb : Table) (cs : Cells) (k : ℕ) (x : Placed) → Holds cs x → HasType tb k (value_of x) → Stands tb cs k x
  held_stands tb cs zero (PlacedInt i) h t = t
  held_stands tb cs zero (Bare c) h t = t
  held_stands tb cs zero (At p c xs) h t = t
  held_stands tb cs (suc k) (PlacedInt i) h t = t
  held_stands tb cs (suc k) (Bare c) h t = (t.0, t.1, no_fields_left tb (t.0).fields t.2)
  held_stands tb cs (suc k) (At p c xs) h t = (h.0, t.0, t.1, held_stand_all tb cs (t.0).fields xs h.1 t.2)

  pub held_stand_all : (tb : Table) (cs : Cells) (ks : List ℕ) (xs : Parts) → HoldAll cs xs → HaveTypes tb ks (values_of xs) → StandAll tb cs ks xs
  held_stand_all tb cs [] NoParts h t = tt
  held_stand_all tb cs [] (MoreParts x xs) h t = absurd t
  held_stand_all tb cs (k ∷ ks) NoParts h t = absurd t
  held_stand_all tb cs (k ∷ ks) (MoreParts x xs) h t = (held_stands tb cs k x h.0 t.0, held_stand_all tb cs ks xs h.1 t.1)

module _ (tb : Table) (types credits bytes : List ℕ) (given : IsGiven tb types credits bytes) (first : Loading) where
  abbrev Answer : Type 0
  Answer = Result (Loading × Vec ℕ Global) LoadError

  spells : (vs : Values) → runs tb bytes (start types) 0 ≡ Accepted vs → SpellsValues tb types bytes vs
  spells vs e = accepted_text tb (is_table tb given.sound) types (types_alive tb given.sound types given.known) bytes vs e

  accepts : (vs : Values) → SpellsValues tb types bytes vs → runs tb bytes (start types) 0 ≡ Accepted vs
  accepts vs h = accepts_text tb (is_table tb given.sound) types (types_alive tb given.sound types given.known) bytes vs h

  pub answer_loads : (r : Answer) → IsAnswer tb types credits bytes first r → IfOk r (λ r. IsLoaded tb types credits bytes first r.0 r.1.items)
  answer_loads (Ok r) h =
      let vs = h.0 in
      let k = h.2 in
      let s = spells vs (h.1).reads in
      let typed = input_typed tb types (characters bytes) vs s in
      let l = (k.taken).left in
      let z = nothing_left 16 (wanted credits vs) (free_in r.0) in
      record {
        trees = k.trees;
        places = k.places;
        spelled = subst (SpellsValues tb types bytes) (sym k.values) s;
        stand = held_stand_all tb r.0.cells types k.trees k.held (subst (HaveTypes tb types) (sym k.values) typed);
        zero = k.zero;
        named = k.words;
        once = (k.taken).once;
        kept = (k.taken).kept;
        left = ap (λ vs. r.0.left + needed first credits vs) k.values ∙ (let a : r.0.left + needed first credits vs ≡ first.left + words_up_to 16 (λ k. wanted credits vs k - wanted credits vs k) (free_in r.0) = l in omega (arith, a, z));
      }
  answer_loads (Err e) h = tt

  pub answer_order : HasNoFree first → (r : Answer) → IsAnswer tb types credits bytes first r → IfOk r (λ r. IsInOrder tb types credits bytes first r.0 r.1.items)
  answer_order free (Ok r) h =
      let k = h.2 in
      let l = k.order free in
      record { values = h.0; spelled = spells h.0 (h.1).reads; following = l.0; named = l.1 }
  answer_order free (Err e) h = tt

  pub answer_complete : (r : Answer) → IsAnswer tb types credits bytes first r → (vs : Values) → SpellsValues tb types bytes vs → needed first credits vs ≤ first.left → MatchResult r (λ r. ℕ) (λ e. e ≡ L.NoMemory)
  answer_complete (Ok r) h vs s le = 0
  answer_complete (Err (L.BadValue k l)) h vs s le = let z = sym h.1 ∙ accepts vs s in cc
  answer_complete (Err (L.Full n words l)) h vs s le =
      let same : h.3 ≡ vs = accepted_same h.3 vs (sym h.4 ∙ accepts vs s) in
      let m = ap (needed first credits) same in
      absurd (omega (arith, h.1, h.2, h.5, m, le))
  answer_complete (Err L.NoMemory) h vs s le = refl

  pub answer_full : (r : Answer) → IsAnswer tb types credits bytes first r → (n words : ℕ) (l : Loading) → r ≡ Err (L.Full n words l) → (l ≡ first) × (words ≡ first.left) × (words < n) × (vs : Values) × SpellsValues tb types bytes vs × (n ≡ needed first credits vs)
  answer_full r h n words l e = let k = subst (IsAnswer tb types credits bytes first) e h in (k.0, k.1, k.2, k.3, spells k.3 k.4, k.5)

  pub answer_too_small : (r : Answer) → IsAnswer tb types credits bytes first r → (vs : Values) → SpellsValues tb types bytes vs → first.left < needed first credits vs → MatchResult r (λ r. ⊥) (λ e. (e ≡ L.Full (needed first credits vs) first.left first) ⊎ (e ≡ L.NoMemory))
  answer_too_small (Ok r) h vs s lt =
      let k = h.1 in
      let same : h.0 ≡ vs = accepted_same h.0 vs (sym k.reads ∙ accepts vs s) in
      let m = ap (needed first credits) same in
      let f = k.fits in
      omega (arith, m, f, lt)
  answer_too_small (Err (L.BadValue k l)) h vs s lt = let z = sym h.1 ∙ accepts vs s in cc
  answer_too_small (Err (L.Full n words l)) h vs s lt =
      let same : h.3 ≡ vs = accepted_same h.3 vs (sym h.4 ∙ accepts vs s) in
      inl (ap (λ n. L.Full n words l) (h.5 ∙ ap (needed first credits) same) ∙ ap₂ (L.Full (needed first credits vs)) h.1 h.0)
  answer_too_small (Err L.NoMemory) h vs s lt = inr refl

  pub answer_place : (r : Answer) → IsAnswer tb types credits bytes first r → (at : ℕ) (l : Loading) → r ≡ Err (L.BadValue at l) → (l ≡ first) × IsPlace (SpellsValues tb types) bytes at
  answer_place r h at l e = let k = subst (IsAnswer tb types credits bytes first) e h in (k.0, stopped_text tb (is_table tb given.sound) types (types_alive tb given.sound types given.known) bytes at k.1)

  pub answer_outside : (r : Answer) → IsAnswer tb types credits bytes first r → ((vs : Values) → SpellsValues tb types bytes vs → ⊥) → MatchResult r (λ r. ⊥) (λ e. ((at : ℕ) × (e ≡ L.BadValue at first)) ⊎ (e ≡ L.NoMemory))
  answer_outside (Ok r) h n = n h.0 (spells h.0 (h.1).reads)
  answer_outside (Err (L.BadValue k l)) h n = inl (k, ap (L.BadValue k) h.0)
  answer_outside (Err (L.Full m words l)) h n = absurd (n h.3 (spells h.3 h.4))
  answer_outside (Err L.NoMemory) h n = inr refl
