-- What is known of the variables in scope: the number by which ownership knows each, its value, and how many cells of
-- each size are held for it, none where it is scalar. Binding values to binders keeps this.
use Rattle.std.proofs.Common.{◌≡◌, ◌<◌, ◌≤◌, ℕ, zero, suc, Bool, true, false, ◌&&◌, List, [], ◌∷◌, ◌++◌, Option, Some, None, slice_get, if◌then◌else◌, ◌==◌, refl, sym, ap, ◌∙◌, subst, arith}
use Rattle.std.proofs.lemmas.Bool.Decides.{nat_tests}
use Rattle.tail_groups.specs.fip_language.Values.{Value, Int, Node, Values, End, More, cells}
use Rattle.tail_groups.specs.fip_language.Table.{Table, Shape, shapes, no_fields, all_bare, is_scalar, HasType, HaveTypes}
use Rattle.tail_groups.specs.fip_language.Meaning.{Environment, bind}
use Rattle.tail_groups.specs.fip_trees.declared.program.Binder.{Binder}
use Rattle.type_safety.specs.type_check.Scope.{Scope, look, or_else}
use Rattle.type_safety.specs.type_check.Binders.{entry}
use Rattle.ownership_agreement.specs.fip_rules.Marks.{Mark}
use Rattle.ownership_agreement.specs.fip_rules.Shapes.{Names, or_later, known, mark}
use Rattle.type_safety.proofs.Scopes.{EnvHas, look-append}
use Rattle.ownership_agreement.specs.Bodies.{Scalars}
use Rattle.ownership_agreement.proofs.Basics.{apart}
use Rattle.in_place_safety.specs.Counts.{Held}
use Rattle.tail_groups.proofs.fip_language.Facts.{equal_itself as itself}

-- ---- scalar values

bare_at : (ss : List Shape) (c : ℕ) (s : Shape) → all_bare ss ≡ true → slice_get ss c ≡ Some s → no_fields s.fields ≡ true
bare_at [] c s h e = cc
bare_at (r ∷ ss) zero s h e = let same : r ≡ s = cc in subst (λ (x : Shape). no_fields x.fields ≡ true) same (first_true (no_fields r.fields) (all_bare ss) h)
  where
    first_true : (a b : Bool) → (a && b) ≡ true → a ≡ true
    first_true true b e = refl
    first_true false b e = e
bare_at (r ∷ ss) (suc c) s h e = bare_at ss c s (second_true (no_fields r.fields) (all_bare ss) h) e
  where
    second_true : (a b : Bool) → (a && b) ≡ true → b ≡ true
    second_true true b e = e
    second_true false b e = cc

no_children : (tb : Table) (ts : List ℕ) (vs : Values) → no_fields ts ≡ true → HaveTypes tb ts vs → vs ≡ End
no_children tb [] End e h = refl
no_children tb [] (More v vs) e h = absurd h
no_children tb (t ∷ ts) vs e h = cc

-- a value of a scalar type has no cell
pub scalar_cells : (tb : Table) (t : ℕ) (v : Value) (k : ℕ) → is_scalar tb t ≡ true → HasType tb t v → cells k v ≡ 0
scalar_cells tb zero (Int i) k e h = refl
scalar_cells tb zero (Node c vs) k e h = absurd h
scalar_cells tb (suc t) (Int i) k e h = absurd h
scalar_cells tb (suc t) (Node c vs) k e h =
    let none = no_children tb h.0.fields vs (bare_at (shapes tb t) c h.0 e h.1) h.2 in
    ap (λ us. cells k (Node c us)) none

-- ---- variables in scope

pub record Tracked (tb : Table) (c : Names) (sc : Scalars) (env : Environment) (held : Held) (x t : ℕ) : Type 0 where
  pub id : ℕ
  pub value : Value
  pub named : known c.marks x ≡ Some id
  pub below : id < c.next
  pub scalar : sc id ≡ is_scalar tb t
  pub is : env x ≡ Some value
  pub typed : HasType tb t value
  pub counted : is_scalar tb t ≡ false → (k : ℕ) → held id k ≡ cells k value

abbrev pub Tracks : Table → Names → Scalars → Scope → Environment → Held → Type 0
Tracks tb c sc s env held = (x t : ℕ) → look s x ≡ Some (Some t) → Tracked tb c sc env held x t

pub tracks_values : (tb : Table) (c : Names) (sc : Scalars) (s : Scope) (env : Environment) (held : Held) → Tracks tb c sc s env held → EnvHas tb s env
tracks_values tb c sc s env held h x t e = let r = h x t e in (r.value, r.is, r.typed)

-- more binders were passed
pub tracks_later : (tb : Table) (c d : Names) (sc : Scalars) (s : Scope) (env : Environment) (held : Held) → d.marks ≡ c.marks → c.next ≤ d.next → Tracks tb c sc s env held → Tracks tb d sc s env held
tracks_later tb c d sc s env held m l h x t e =
    let r = h x t e in
    record {
      id = r.id;
      value = r.value;
      named = ap (λ ms. known ms x) m ∙ r.named;
      below = let b = r.below in omega arith;
      scalar = r.scalar;
      is = r.is;
      typed = r.typed;
      counted = r.counted;
    }

-- the cells held where a variable is bound; a scalar one has none
abbrev pub held_with : Bool → ℕ → Value → Held → Held
held_with true n v held i k = held i k
held_with false n v held i k = if n == i then cells k v else held i k

or_later-none : (o : Option ℕ) → or_later None o ≡ o
or_later-none None = refl
or_later-none (Some i) = refl

or_later-assoc : (a b c : Option ℕ) → or_later a (or_later b c) ≡ or_later (or_later a b) c
or_later-assoc a b None = refl
or_later-assoc a b (Some i) = refl

known-append : (ms rs : List Mark) (x : ℕ) → known (ms ++ rs) x ≡ or_later (known ms x) (known rs x)
known-append [] rs x = sym (or_later-none (known rs x))
known-append (m ∷ ms) rs x =
    ap (or_later (if m.number == x then Some m.id else None)) (known-append ms rs x)
    ∙ or_later-assoc (if m.number == x then Some m.id else None) (known ms x) (known rs x)

abbrev pub one_more : Names → Binder → Names
one_more c b = record { marks = c.marks ++ mark c.next b ∷ []; next = suc c.next }

pub held_new : (s : Bool) (n : ℕ) (v : Value) (held : Held) (k : ℕ) → s ≡ false → held_with s n v held n k ≡ cells k v
held_new true n v held k e = cc
held_new false n v held k e = ap (λ b. if b then cells k v else held n k) (itself n)

pub held_old : (s : Bool) (n : ℕ) (v : Value) (held : Held) (i k : ℕ) → (n == i) ≡ false → held_with s n v held i k ≡ held i k
held_old true n v held i k e = refl
held_old false n v held i k e = ap (λ b. if b then cells k v else held i k) e

module _ (tb : Table) (c : Names) (sc : Scalars) (s : Scope) (env : Environment) (held : Held) (h : Tracks tb c sc s env held) (b : Binder) (v : Value) (g : HasType tb b.ty v) where
  abbrev entered : Scalars
  entered = λ y. if c.next == y then is_scalar tb b.ty else sc y

  new_one : (x t : ℕ) → (b.number == x) ≡ true → b.ty ≡ t → Tracked tb (one_more c b) entered (bind env b.number v) (held_with (is_scalar tb b.ty) c.next v held) x t
  new_one x t e same = record {
    id = c.next;
    value = v;
    named = known-append c.marks (mark c.next b ∷ []) x ∙ ap (λ z. or_later (known c.marks x) (or_later (if z then Some c.next else None) None)) e;
    below = omega arith;
    scalar = ap (λ z. if z then is_scalar tb b.ty else sc c.next) (itself c.next) ∙ ap (is_scalar tb) same;
    is = ap (λ z. if z then Some v else env x) e;
    typed = subst (λ n. HasType tb n v) same g;
    counted = λ z k. held_new (is_scalar tb b.ty) c.next v held k (ap (is_scalar tb) same ∙ z);
  }

  old_one : (x t : ℕ) → (b.number == x) ≡ false → Tracked tb c sc env held x t → Tracked tb (one_more c b) entered (bind env b.number v) (held_with (is_scalar tb b.ty) c.next v held) x t
  old_one x t e r =
      let other : (c.next == r.id) ≡ false = apart r.id c.next r.below in
      record {
        id = r.id;
        value = r.value;
        named = known-append c.marks (mark c.next b ∷ []) x ∙ ap (λ z. or_later (known c.marks x) (or_later (if z then Some c.next else None) None)) e ∙ r.named;
        below = let l = r.below in omega arith;
        scalar = ap (λ z. if z then is_scalar tb b.ty else sc r.id) other ∙ r.scalar;
        is = ap (λ z. if z then Some v else env x) e ∙ r.is;
        typed = r.typed;
        counted = λ z k. held_old (is_scalar tb b.ty) c.next v held r.id k other ∙ r.counted z k;
      }

  one_tracked : (x t : ℕ) (z : Bool) → (b.number == x) ≡ z → or_else (or_else None (if z then Some (Some b.ty) else None)) (look s x) ≡ Some (Some t) → Tracked tb (one_more c b) entered (bind env b.number v) (held_with (is_scalar tb b.ty) c.next v held) x t
  one_tracked x t true e f = let same : b.ty ≡ t = cc in new_one x t e same
  one_tracked x t false e f = old_one x t e (h x t f)

  pub tracks_one : Tracks tb (one_more c b) entered (s ++ entry (Some b.ty) b ∷ []) (bind env b.number v) (held_with (is_scalar tb b.ty) c.next v held)
  tracks_one x t e = one_tracked x t (b.number == x) refl (sym (look-append s (entry (Some b.ty) b ∷ []) x) ∙ e)
