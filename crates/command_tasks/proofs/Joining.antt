-- Values with what separates them, one after another.
use Rattle.std.proofs.Common.{Iter, ◌≡◌, ◌⊎◌, ◌∙◌, ◌++◌, ℕ, zero, suc, Bool, true, false, List, [], ◌∷◌, length, inl, inr, refl, sym, ap, subst, append_assoc, append-nil, arith}
use Rattle.std.specs.Prelude.{codes, if◌then◌else◌}
use Rattle.std.specs.Fmt.{signed_decimal}
use Rattle.fip_language.specs.PrintedText.{shape_at, printed, printed_fields, printed_more}
use Rattle.fip_language.specs.Store.{Placed, Parts, NoParts, MoreParts, value_of, values_of, word_of, words_of}
use Rattle.fip_language.specs.Table.{Table, shapes}
use Rattle.fip_language.specs.Values.{Value, Int, Node, Values, End, More, count_of}
use Rattle.cell_store.specs.Cells.{Cells}
use Rattle.value_text.specs.Standing.{Stands, StandAll}
use Rattle.command_session.specs.command_run.machine_correctness.Meant.{ArePrintable}
use Rattle.command_session.specs.command_run.session_semantics.Turns.{joined}

-- the text goes on after a value
mutual
  printed_on : (tb : Table) (k : ℕ) (v : Value) (a b : List ℕ) → printed tb k v a ++ b ≡ printed tb k v (a ++ b)
  printed_on tb zero (Int i) a b = append_assoc (signed_decimal i) a b
  printed_on tb zero (Node c vs) a b = refl
  printed_on tb (suc t) (Int i) a b = refl
  printed_on tb (suc t) (Node c vs) a b = append_assoc (shape_at (shapes tb t) c).name (printed_fields tb (shape_at (shapes tb t) c).fields vs a) b ∙ ap (λ x. (shape_at (shapes tb t) c).name ++ x) (fields_on tb (shape_at (shapes tb t) c).fields vs a b)

  fields_on : (tb : Table) (ks : List ℕ) (vs : Values) (a b : List ℕ) → printed_fields tb ks vs a ++ b ≡ printed_fields tb ks vs (a ++ b)
  fields_on tb [] vs a b = refl
  fields_on tb (k ∷ ks) End a b = refl
  fields_on tb (k ∷ ks) (More v vs) a b = ap (λ x. 40 ∷ x) (printed_on tb k v (printed_more tb ks vs a) b ∙ ap (printed tb k v) (more_on tb ks vs a b))

  more_on : (tb : Table) (ks : List ℕ) (vs : Values) (a b : List ℕ) → printed_more tb ks vs a ++ b ≡ printed_more tb ks vs (a ++ b)
  more_on tb [] vs a b = refl
  more_on tb (k ∷ ks) End a b = refl
  more_on tb (k ∷ ks) (More v vs) a b = ap (λ x. 44 ∷ 32 ∷ x) (printed_on tb k v (printed_more tb ks vs a) b ∙ ap (printed tb k v) (more_on tb ks vs a b))

pub joined_on : (tb : Table) (ks : List ℕ) (vs : Values) (a b : List ℕ) → joined tb ks vs a ++ b ≡ joined tb ks vs (a ++ b)
joined_on tb [] vs a b = refl
joined_on tb (k ∷ []) End a b = refl
joined_on tb (k ∷ []) (More v vs) a b = printed_on tb k v a b
joined_on tb (k ∷ j ∷ ks) End a b = refl
joined_on tb (k ∷ j ∷ ks) (More v vs) a b = printed_on tb k v (codes "; " ++ joined tb (j ∷ ks) vs a) b ∙ ap (λ x. printed tb k v (codes "; " ++ x)) (joined_on tb (j ∷ ks) vs a b)

-- the values after the first, each after what separates it
abbrev pub later : Table → List ℕ → Values → List ℕ
later tb [] vs = []
later tb (k ∷ ks) End = []
later tb (k ∷ ks) (More v vs) = codes "; " ++ printed tb k v (later tb ks vs)

first_later : (tb : Table) (k : ℕ) (ks : List ℕ) (v : Value) (vs : Values) → count_of vs ≡ length ks → joined tb (k ∷ ks) (More v vs) [] ≡ printed tb k v (later tb ks vs)
first_later tb k [] v vs e = refl
first_later tb k (j ∷ ks) v End e = absurd cc
first_later tb k (j ∷ ks) v (More u us) e = ap (λ x. printed tb k v (codes "; " ++ x)) (first_later tb j ks u us (cc))

abbrev pub left_text : Bool → Table → List ℕ → Values → List ℕ
left_text true tb ks vs = joined tb ks vs []
left_text false tb ks vs = later tb ks vs

abbrev pub IsJoining : Table → Cells → Bool → List ℕ → List ℕ → List ℕ → List ℕ → Type 0
IsJoining tb cs first ks ws out whole = (us : Values) × ArePrintable tb cs ks ws us × (out ++ left_text first tb ks us ≡ whole)

stand_many : (tb : Table) (cs : Cells) (ks : List ℕ) (xs : Parts) → StandAll tb cs ks xs → count_of (values_of xs) ≡ length ks
stand_many tb cs [] NoParts h = refl
stand_many tb cs [] (MoreParts x xs) h = absurd h
stand_many tb cs (k ∷ ks) NoParts h = absurd h
stand_many tb cs (k ∷ ks) (MoreParts x xs) h = ap suc (stand_many tb cs ks xs h.1)

separate : (first : Bool) (tb : Table) (k : ℕ) (ks : List ℕ) (v : Value) (vs : Values) → count_of vs ≡ length ks → left_text first tb (k ∷ ks) (More v vs) ≡ (if first then [] else codes "; ") ++ printed tb k v (later tb ks vs)
separate true tb k ks v vs e = first_later tb k ks v vs e
separate false tb k ks v vs e = refl

value_first : (tb : Table) (cs : Cells) (first : Bool) (k : ℕ) (ks : List ℕ) (w : ℕ) (ws : List ℕ) (us : Values) (out mid new whole : List ℕ) (xs : Parts) → (w ∷ ws) ≡ words_of xs → StandAll tb cs (k ∷ ks) xs → values_of xs ≡ us → mid ≡ out ++ (if first then [] else codes "; ") → ((x : Placed) → Stands tb cs k x → word_of x ≡ w → new ≡ mid ++ printed tb k (value_of x) []) → out ++ left_text first tb (k ∷ ks) us ≡ whole → IsJoining tb cs false ks ws new whole
value_first tb cs first k ks w ws us out mid new whole NoParts are h is s f e = absurd h
value_first tb cs first k ks w ws us out mid new whole (MoreParts x xs) are h is s f e =
    let one : word_of x ≡ w = cc in
    let rest : ws ≡ words_of xs = cc in
    let v : Value = value_of x in
    let sep : List ℕ = if first then [] else codes "; " in
    let tail : List ℕ = later tb ks (values_of xs) in
    let whole_is : out ++ left_text first tb (k ∷ ks) (More v (values_of xs)) ≡ whole = subst (λ us. out ++ left_text first tb (k ∷ ks) us ≡ whole) (sym is) e in (
      values_of xs,
      record { trees = xs; are = rest; stand = h.1; values = refl },
      ap (λ z. z ++ tail) (f x h.0 one ∙ ap (λ z. z ++ printed tb k v []) s)
          ∙ append_assoc (out ++ sep) (printed tb k v []) tail
          ∙ ap (λ z. (out ++ sep) ++ z) (printed_on tb k v [] tail)
          ∙ append_assoc out sep (printed tb k v tail)
          ∙ ap (λ z. out ++ z) (sym (separate first tb k ks v (values_of xs) (stand_many tb cs ks xs h.1)))
          ∙ whole_is,
    )

pub value_joined : (tb : Table) (cs : Cells) (first : Bool) (k : ℕ) (ks : List ℕ) (w : ℕ) (ws out mid new whole : List ℕ) → mid ≡ out ++ (if first then [] else codes "; ") → ((x : Placed) → Stands tb cs k x → word_of x ≡ w → new ≡ mid ++ printed tb k (value_of x) []) → IsJoining tb cs first (k ∷ ks) (w ∷ ws) out whole → IsJoining tb cs false ks ws new whole
value_joined tb cs first k ks w ws out mid new whole s f (us, p, e) = value_first tb cs first k ks w ws us out mid new whole p.trees p.are p.stand p.values s f e

-- which of two lists that are gone over together has ended
pub sides : {A B : Type 0} (i : Iter A) (j : Iter B) → ((x : Iter A) × ((length i.rest.now ≡ 0) × (x ≡ i))) ⊎ ((y : Iter B) × ((length j.rest.now ≡ 0) × (y ≡ j))) → (length i.rest.now ≡ 0) ⊎ (length j.rest.now ≡ 0)
sides i j (inl h) = inl (h.1).0
sides i j (inr h) = inr (h.1).0

none_left : (tb : Table) (cs : Cells) (first : Bool) (ks ws : List ℕ) (us : Values) (xs : Parts) → ws ≡ words_of xs → StandAll tb cs ks xs → values_of xs ≡ us → (length ks ≡ 0) ⊎ (length ws ≡ 0) → left_text first tb ks us ≡ []
none_left tb cs true [] ws us xs are h is o = refl
none_left tb cs false [] ws us xs are h is o = refl
none_left tb cs first (k ∷ ks) ws us NoParts are h is o = absurd h
none_left tb cs first (k ∷ ks) ws us (MoreParts x xs) are h is (inl e) = absurd (omega (arith, e))
none_left tb cs first (k ∷ ks) ws us (MoreParts x xs) are h is (inr e) = let long = ap length are in absurd (omega (arith, e, long))

pub all_joined : (tb : Table) (cs : Cells) (first : Bool) (ks ws out whole : List ℕ) → (length ks ≡ 0) ⊎ (length ws ≡ 0) → IsJoining tb cs first ks ws out whole → out ≡ whole
all_joined tb cs first ks ws out whole o (us, p, e) = sym (append-nil out) ∙ ap (λ l. out ++ l) (sym (none_left tb cs first ks ws us p.trees p.are p.stand p.values o)) ∙ e
