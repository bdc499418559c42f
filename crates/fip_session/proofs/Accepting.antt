-- The arguments of a call, one after another: what is right or wrong of the rest is so of all.
use Rattle.std.proofs.Common.{◌≡◌, ◌∙◌, ℕ, zero, suc, ◌+◌, ◌<◌, ◌≤◌, Bool, true, false, List, [], ◌∷◌, ◌++◌, length, map, drop, get_or, Option, Some, None, if◌then◌else◌, append-nil, append_assoc, refl, sym, ap, subst, arith, ◌⊎◌, inl, inr}
use Rattle.std.specs.BTreeMap.{BTreeMap}
use Rattle.std.specs.Prelude.{slice_get}
use Rattle.std.specs.declared.alloc.Global.{Global}
use Rattle.std.specs.declared.vec.Vec.{Vec}
use Rattle.std.proofs.lemmas.Option.{none-some, same_Some}
use Rattle.fip_base.specs.declared.plain.Param.{Param}
use Rattle.fip_language.specs.Core.{Name}
use Rattle.fip_language.specs.SoundTable.{AreTypes}
use Rattle.fip_language.specs.Table.{Table}
use Rattle.fip_language.specs.Values.{Value, Values, End, More, cells}
use Rattle.session_lines.specs.Said.{IsGiven, AreGiven}
use Rattle.session_lines.specs.declared.line.Written.{Written as Argument}
use Rattle.session_lines.specs.session_semantics.Lines.{Given as Written, Held, Fresh}
use Rattle.session_lines.specs.session_semantics.Talk.{Holding, AreTaken, IsWrong, named_by, used_by, written}
use Rattle.value_text.specs.Loaded.{types_of}
use Rattle.value_text.specs.Machine.{join, snoc}
use Rattle.session_values.specs.Read.{Adds}
use Rattle.session_values.proofs.OneValue.{adds_none, adds_both, join_end, join_snoc}
use Rattle.fip_session.specs.Planned.{CanTake, CanTakeAll, TakesIn, TakesAll, IsRefused, IsHeld, AreHeldTo, AreHeld, names_given, names_used}
use Rattle.fip_session.specs.declared.book.Held.{Held as Holds}
use Rattle.fip_session.specs.declared.plan.Arguments.{Arguments}

-- ---- what is given at a place

pub record IsAt (bytes : List ℕ) (a : Argument) (gs : List Written) (i : ℕ) : Type 0 where
  pub given : Written
  pub is : IsGiven bytes a given
  pub rest : drop i gs ≡ given ∷ drop (suc i) gs

pub given_at : (bytes : List ℕ) (as' : List Argument) (gs : List Written) (i : ℕ) (a : Argument) → AreGiven bytes as' gs → slice_get as' i ≡ Some a → IsAt bytes a gs i
given_at bytes [] gs i a h e = absurd (none-some a e)
given_at bytes (b ∷ as') [] i a h e = absurd h
given_at bytes (b ∷ as') (g ∷ gs) zero a h e = record { given = g; is = subst (λ x. IsGiven bytes x g) (same_Some b a e) h.0; rest = refl }
given_at bytes (b ∷ as') (g ∷ gs) (suc i) a h e =
    let r = given_at bytes as' gs i a h.1 e in
    record { given = r.given; is = r.is; rest = r.rest }

pub none_at : (bytes : List ℕ) (as' : List Argument) (gs : List Written) (i : ℕ) → AreGiven bytes as' gs → slice_get as' i ≡ None → i < length gs → ⊥
none_at bytes [] [] i h e lt = omega (arith, lt)
none_at bytes [] (g ∷ gs) i h e lt = absurd h
none_at bytes (b ∷ as') [] i h e lt = absurd h
none_at bytes (b ∷ as') (g ∷ gs) zero h e lt = none-some b (sym e)
none_at bytes (b ∷ as') (g ∷ gs) (suc i) h e lt = none_at bytes as' gs i h.1 e (omega (arith, lt))

pub param_at : (qs : List Param) (i : ℕ) (d : Param) → i < length qs → drop i qs ≡ get_or qs i d ∷ drop (suc i) qs
param_at [] i d lt = absurd (let z : ⊥ = omega (arith, lt) in z)
param_at (q ∷ qs) zero d lt = refl
param_at (q ∷ qs) (suc i) d lt = param_at qs i d (omega (arith, lt))

type_at : (tb : Table) (qs : List Param) (i : ℕ) (d : Param) → i < length qs → AreTypes tb (types_of qs) → (get_or qs i d).ty ≤ length tb
type_at tb [] i d lt h = absurd (let z : ⊥ = omega (arith, lt) in z)
type_at tb (q ∷ qs) zero d lt h = h.0
type_at tb (q ∷ qs) (suc i) d lt h = type_at tb qs i d (omega (arith, lt)) h.1

pub can_take : (tb : Table) (qs : List Param) (bytes : List ℕ) (i : ℕ) (d : Param) → i < length qs → CanTakeAll tb (types_of qs) bytes → CanTake tb (get_or qs i d).ty bytes
can_take tb qs bytes i d lt can = record { sound = can.sound; known = type_at tb qs i d lt can.known; line = can.line }

pub none_left : {A : Type 0} (i : ℕ) (xs : List A) → length xs ≤ i → drop i xs ≡ []
none_left zero [] le = refl
none_left (suc i) [] le = refl
none_left zero (x ∷ xs) le = absurd (let z : ⊥ = omega (arith, le) in z)
none_left (suc i) (x ∷ xs) le = none_left i xs (omega (arith, le))

-- ---- the arguments so far

pub written_more : (k : ℕ) (g : Written) (gs : List Written) (v : Value) (vs : Values) → written k (g ∷ gs) (More v vs) ≡ written k (g ∷ []) (More v End) + written k gs vs
written_more k (Fresh w) gs v vs = omega arith
written_more k (Held name) gs v vs = omega arith

pub record Leads (tb : Table) (held : List Holding) (qs : List Param) (gs : List Written) (first now : Arguments) (qs' : List Param) (gs' : List Written) (i : ℕ) : Type 0 where
  pub done : Values
  pub taken : (us : Values) → AreTaken tb held (names_given now.given.items) qs' gs' us → AreTaken tb held (names_given first.given.items) qs gs (join done us)
  pub wrong : (k : ℕ) → IsWrong tb held (names_given now.given.items) qs' gs' k → IsWrong tb held (names_given first.given.items) qs gs (i + k)
  pub used : names_used first.given.items ++ used_by tb qs gs ≡ names_used now.given.items ++ used_by tb qs' gs'
  pub more : ℕ → ℕ
  pub counts : Adds first.fresh now.fresh more
  pub sums : (k : ℕ) (us : Values) → written k gs (join done us) ≡ more k + written k gs' us

pub starts : (tb : Table) (held : List Holding) (qs : List Param) (gs : List Written) (first : Arguments) → Leads tb held qs gs first first qs gs 0
starts tb held qs gs first = record {
  done = End;
  taken = λ us h. h;
  wrong = λ k h. subst (IsWrong tb held (names_given first.given.items) qs gs) (let z : k ≡ 0 + k = omega arith in z) h;
  used = refl;
  more = λ k. 0;
  counts = adds_none first.fresh (λ k. 0) (λ k. refl);
  sums = λ k us. omega arith;
}

module _ (tb : Table) (held : List Holding) (qs : List Param) (gs : List Written) (first now : Arguments) (q : Param) (g : Written) (qs' : List Param) (gs' : List Written) (i : ℕ) (l : Leads tb held qs gs first now (q ∷ qs') (g ∷ gs') i) where
  pub goes_on : (new : Arguments) → TakesIn tb held q g now new → Leads tb held qs gs first new qs' gs' (i + 1)
  goes_on new t =
      let v = t.value in
      record {
        done = snoc l.done v;
        taken = λ us h. subst (AreTaken tb held (names_given first.given.items) qs gs) (sym (join_snoc l.done v us)) (l.taken (More v us) (t.taken, subst (λ ns. AreTaken tb held ns qs' gs' us) t.names h));
        wrong = λ k h. subst (IsWrong tb held (names_given first.given.items) qs gs) (let z : i + suc k ≡ (i + 1) + k = omega arith in z) (l.wrong (suc k) (v, t.taken, subst (λ ns. IsWrong tb held ns qs' gs' k) t.names h));
        used = l.used ∙ sym (append_assoc (names_used now.given.items) (if q.lent then [] else named_by tb q g) (used_by tb qs' gs')) ∙ ap (λ ns. ns ++ used_by tb qs' gs') (sym t.used);
        more = λ k. l.more k + written k (g ∷ []) (More v End);
        counts = adds_both first.fresh now.fresh new.fresh l.more (λ k. written k (g ∷ []) (More v End)) (λ k. l.more k + written k (g ∷ []) (More v End)) (λ k. refl) l.counts t.counts;
        sums = λ k us. (
            let a = ap (written k gs) (join_snoc l.done v us) in
            let b = l.sums k (More v us) in
            let c = written_more k g gs' v us in
            omega (arith, a, b, c)
            );
      }

  pub stops : IsRefused tb held now q g → IsWrong tb held (names_given first.given.items) qs gs i
  stops bad = subst (IsWrong tb held (names_given first.given.items) qs gs) (let z : i + 0 ≡ i = omega arith in z) (l.wrong 0 bad)

pub ends : (tb : Table) (held : List Holding) (qs : List Param) (gs : List Written) (first now : Arguments) (i : ℕ) → Leads tb held qs gs first now [] [] i → TakesAll tb held qs gs first now
ends tb held qs gs first now i l = record {
  values = l.done;
  taken = subst (AreTaken tb held (names_given first.given.items) qs gs) (join_end l.done) (l.taken End tt);
  used = sym (l.used ∙ append-nil (names_used now.given.items));
  counts = λ k le few. (
      let a = ap (written k gs) (join_end l.done) in
      let b = l.sums k End in
      let c = l.counts k le (omega (arith, few, a, b)) in
      omega (arith, a, b, c)
      );
}

-- none is left
pub all_taken : (tb : Table) (held : List Holding) (qs : List Param) (gs : List Written) (first now : Arguments) (i : ℕ) → length qs ≤ i → length gs ≡ length qs → Leads tb held qs gs first now (drop i qs) (drop i gs) i → TakesAll tb held qs gs first now
all_taken tb held qs gs first now i le same l =
    let a : drop i qs ≡ [] = none_left i qs le in
    let b : drop i gs ≡ [] = none_left i gs (omega (arith, le, same)) in
    ends tb held qs gs first now i (subst (λ xs. Leads tb held qs gs first now [] xs i) b (subst (λ xs. Leads tb held qs gs first now xs (drop i gs) i) a l))

-- ---- the names that are written

abbrev Bound : Type 0
Bound = BTreeMap (Vec ℕ Global) Holds

less_or_same : (j i : ℕ) → j < suc i → (j < i) ⊎ (j ≡ i)
less_or_same zero zero lt = inr refl
less_or_same zero (suc i) lt = inl (omega arith)
less_or_same (suc j) zero lt = absurd (omega (arith, lt))
less_or_same (suc j) (suc i) lt = by (less_or_same j i (omega (arith, lt)))
  where
    by : (j < i) ⊎ (j ≡ i) → (suc j < suc i) ⊎ (suc j ≡ suc i)
    by (inl less) = inl (omega (arith, less))
    by (inr same) = inr (ap suc same)

pub one_more_held : (held : Bound) (as' : List Argument) (i : ℕ) (a : Argument) → slice_get as' i ≡ Some a → AreHeldTo i held as' → IsHeld held a → AreHeldTo (i + 1) held as'
one_more_held held as' i a at first last j b lt is = both (less_or_same j i (omega (arith, lt)))
  where
    both : (j < i) ⊎ (j ≡ i) → IsHeld held b
    both (inl less) = first j b less is
    both (inr same) = subst (IsHeld held) (same_Some a b (sym at ∙ ap (slice_get as') (sym same) ∙ is)) last

pub first_held : (held : Bound) (a : Argument) (as' : List Argument) → AreHeld held (a ∷ as') → IsHeld held a
first_held held a as' h = h 0 a (omega arith) refl

pub others_held : (held : Bound) (a : Argument) (as' : List Argument) → AreHeld held (a ∷ as') → AreHeld held as'
others_held held a as' h = λ j b lt is. h (suc j) b (omega (arith, lt)) is
