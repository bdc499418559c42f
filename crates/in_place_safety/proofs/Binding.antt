-- Several binders at once: what is tracked after them, which of their variables are counted, and that these hold
-- together the cells of the values that are bound.
use Rattle.std.proofs.Common.{◌≡◌, ◌<◌, ℕ, suc, ◌+◌, Bool, true, false, ◌||◌, List, [], ◌∷◌, ◌++◌, map, length, Some, if◌then◌else◌, ◌==◌, refl, sym, ap, ◌∙◌, subst, arith}
use Rattle.std.proofs.lemmas.List.{append-nil, append_assoc}
use Rattle.tail_groups.specs.fip_language.Values.{Value, Values, End, More, cells, cells_of_all}
use Rattle.tail_groups.specs.fip_language.Table.{Table, is_scalar, HasType, HaveTypes}
use Rattle.tail_groups.specs.fip_language.Meaning.{Environment, bind}
use Rattle.tail_groups.specs.fip_base.declared.plain.Param.{Param}
use Rattle.tail_groups.specs.fip_trees.declared.program.Binder.{Binder}
use Rattle.type_safety.specs.type_check.Scope.{Scope}
use Rattle.type_safety.specs.type_check.Binders.{entry, entries}
use Rattle.type_safety.specs.type_check.World.{type_of}
use Rattle.type_safety.specs.type_check.Typing.{Bind, Parameters, parameter_entries}
use Rattle.ownership_agreement.specs.fip_rules.World.{World}
use Rattle.ownership_agreement.specs.fip_rules.Shapes.{Names, within, taking, parameters}
use Rattle.type_safety.specs.instance_semantics.Meaning.{bind_binders}
use Rattle.type_safety.proofs.Scopes.{annotated_is}
use Rattle.ownership_agreement.specs.ownership_calculus.Terms.{has}
use Rattle.ownership_agreement.specs.Bodies.{Scalars, variables, entering, entering_parameters}
use Rattle.ownership_agreement.proofs.Basics.{not_owned}
use Rattle.in_place_safety.specs.Counts.{Held, total, Once, Binds}
use Rattle.in_place_safety.proofs.Tracking.{Tracks, held_with, held_new, held_old, one_more, tracks_one, scalar_cells}
use Rattle.tail_groups.proofs.fip_language.Facts.{or_false_both as more_false}

-- the types in the slots of binders
abbrev pub slots : List Binder → List ℕ
slots [] = []
slots (b ∷ bs) = b.ty ∷ slots bs

-- their variables, of these types
abbrev pub slot_entries : List Binder → Scope
slot_entries [] = []
slot_entries (b ∷ bs) = entry (Some b.ty) b ∷ slot_entries bs

-- the cells held where binders are bound to values; n binders are before them
abbrev pub held_all : (ℕ → Bool) → ℕ → List Binder → Values → Held → Held
held_all scalar n [] vs held = held
held_all scalar n (b ∷ bs) End held = held
held_all scalar n (b ∷ bs) (More v vs) held = held_all scalar (suc n) bs vs (held_with (scalar b.ty) n v held)

-- ---- what is tracked

module _ (tb : Table) (w : World) (is : w.scalar ≡ is_scalar tb) where
  moved : (c : Names) (sc : Scalars) (s r : Scope) (env : Environment) (held : Held) → s ≡ r → Tracks tb c sc s env held → Tracks tb c sc r env held
  moved c sc s r env held e h = subst (λ q. Tracks tb c sc q env held) e h

  -- in terms of the table's own test
  abbrev entered_all : ℕ → Scalars → List Binder → Scalars
  entered_all n sc [] = sc
  entered_all n sc (b ∷ bs) = entered_all (suc n) (λ y. if n == y then is_scalar tb b.ty else sc y) bs

  entering_is : (n : ℕ) (sc : Scalars) (bs : List Binder) → entered_all n sc bs ≡ entering w n sc bs
  entering_is n sc [] = refl
  entering_is n sc (b ∷ bs) =
      entering_is (suc n) (λ y. if n == y then is_scalar tb b.ty else sc y) bs
      ∙ ap (λ (f : ℕ → Bool). entering w (suc n) (λ y. if n == y then f b.ty else sc y) bs) (sym is)

  all_tracked : (taken : Bool) (c : Names) (sc : Scalars) (s : Scope) (env : Environment) (held : Held) (bs : List Binder) (vs : Values) → Tracks tb c sc s env held → HaveTypes tb (slots bs) vs → Tracks tb (within c (taking w taken bs)) (entered_all c.next sc bs) (s ++ slot_entries bs) (bind_binders env bs vs) (held_all (is_scalar tb) c.next bs vs held)
  all_tracked taken c sc s env held [] vs h g = moved c sc s (s ++ []) env held (sym (append-nil s)) h
  all_tracked taken c sc s env held (b ∷ bs) End h g = absurd g
  all_tracked taken c sc s env held (b ∷ bs) (More v vs) h g =
      let d : Names = one_more c b in
      let sd : Scalars = λ y. if c.next == y then is_scalar tb b.ty else sc y in
      let one = tracks_one tb c sc s env held h b v g.0 in
      let rest = all_tracked taken d sd (s ++ entry (Some b.ty) b ∷ []) (bind env b.number v) (held_with (is_scalar tb b.ty) c.next v held) bs vs one g.1 in
      moved _ (entered_all d.next sd bs) ((s ++ entry (Some b.ty) b ∷ []) ++ slot_entries bs) (s ++ entry (Some b.ty) b ∷ slot_entries bs) _ _ (append_assoc s (entry (Some b.ty) b ∷ []) (slot_entries bs)) rest

  pub tracks_binders : (taken : Bool) (c : Names) (sc : Scalars) (s : Scope) (env : Environment) (held : Held) (bs : List Binder) (vs : Values) → Tracks tb c sc s env held → HaveTypes tb (slots bs) vs → Tracks tb (within c (taking w taken bs)) (entering w c.next sc bs) (s ++ slot_entries bs) (bind_binders env bs vs) (held_all (is_scalar tb) c.next bs vs held)
  tracks_binders taken c sc s env held bs vs h g =
      subst (λ f. Tracks tb (within c (taking w taken bs)) f (s ++ slot_entries bs) (bind_binders env bs vs) (held_all (is_scalar tb) c.next bs vs held)) (entering_is c.next sc bs) (all_tracked taken c sc s env held bs vs h g)

-- ---- which are counted

module _ (tb : Table) (w : World) (is : w.scalar ≡ is_scalar tb) where
  -- one binder before others: it is counted unless it is scalar
  abbrev counted : Bool → ℕ → List ℕ → List ℕ
  counted true n ys = ys
  counted false n ys = n ∷ ys

  abbrev variables_of : ℕ → List Binder → List ℕ
  variables_of n [] = []
  variables_of n (b ∷ bs) = counted (is_scalar tb b.ty) n (variables_of (suc n) bs)

  counted_if : (b : Bool) (n : ℕ) (ys : List ℕ) → counted b n ys ≡ (if b then ys else n ∷ ys)
  counted_if true n ys = refl
  counted_if false n ys = refl

  pub variables_are : (n : ℕ) (bs : List Binder) → variables_of n bs ≡ variables w n bs
  variables_are n [] = refl
  variables_are n (b ∷ bs) =
      counted_if (is_scalar tb b.ty) n (variables_of (suc n) bs)
      ∙ ap (λ ys. if is_scalar tb b.ty then ys else n ∷ ys) (variables_are (suc n) bs)
      ∙ ap (λ (f : ℕ → Bool). if f b.ty then variables w (suc n) bs else n ∷ variables w (suc n) bs) (sym is)

  none_before : (n x : ℕ) (bs : List Binder) → x < n → has (variables_of n bs) x ≡ false
  none_before n x bs l = ap (λ ys. has ys x) (variables_are n bs) ∙ not_owned w n x bs l

  once_counted : (b : Bool) (n : ℕ) (ys : List ℕ) → has ys n ≡ false → Once ys → Once (counted b n ys)
  once_counted true n ys h o = o
  once_counted false n ys h o = (h, o)

  once_variables : (n : ℕ) (bs : List Binder) → Once (variables_of n bs)
  once_variables n [] = tt
  once_variables n (b ∷ bs) = once_counted (is_scalar tb b.ty) n (variables_of (suc n) bs) (none_before (suc n) n bs (omega arith)) (once_variables (suc n) bs)

  uncounted : (b : Bool) (n x : ℕ) (v : Value) (ys : List ℕ) (held : Held) → has (counted b n ys) x ≡ false → (has ys x ≡ false) × ((k : ℕ) → held_with b n v held x k ≡ held x k)
  uncounted true n x v ys held e = (e, λ k. refl)
  uncounted false n x v ys held e = let both = more_false (n == x) (has ys x) e in (both.1, λ k. held_old false n v held x k both.0)

  unchanged : (n : ℕ) (bs : List Binder) (vs : Values) (held : Held) (x : ℕ) → has (variables_of n bs) x ≡ false → (k : ℕ) → held_all (is_scalar tb) n bs vs held x k ≡ held x k
  unchanged n [] vs held x e k = refl
  unchanged n (b ∷ bs) End held x e k = refl
  unchanged n (b ∷ bs) (More v vs) held x e k =
      let two = uncounted (is_scalar tb b.ty) n x v (variables_of (suc n) bs) held e in
      unchanged (suc n) bs vs (held_with (is_scalar tb b.ty) n v held) x two.0 k ∙ two.1 k

  pub binds_all : (n : ℕ) (bs : List Binder) (vs : Values) (held : Held) → Binds (variables w n bs) held (held_all (is_scalar tb) n bs vs held)
  binds_all n bs vs held =
      subst (λ ys. Binds ys held (held_all (is_scalar tb) n bs vs held)) (variables_are n bs)
      (once_variables n bs, λ x e k. unchanged n bs vs held x e k)

  total_counted : (b : Bool) (n : ℕ) (v : Value) (t : ℕ) (ys : List ℕ) (new : Held) (k m : ℕ) → b ≡ is_scalar tb t → HasType tb t v → (b ≡ false → new n k ≡ cells k v) → total new ys k ≡ m → total new (counted b n ys) k ≡ cells k v + m
  total_counted true n v t ys new k m e g h r = let none = scalar_cells tb t v k (sym e) g in omega arith
  total_counted false n v t ys new k m e g h r = let one = h refl in omega arith

  totals : (n : ℕ) (bs : List Binder) (vs : Values) (held : Held) (k : ℕ) → HaveTypes tb (slots bs) vs → total (held_all (is_scalar tb) n bs vs held) (variables_of n bs) k ≡ cells_of_all k vs
  totals n [] End held k g = refl
  totals n [] (More v vs) held k g = absurd g
  totals n (b ∷ bs) End held k g = absurd g
  totals n (b ∷ bs) (More v vs) held k g =
      let one : Held = held_with (is_scalar tb b.ty) n v held in
      total_counted (is_scalar tb b.ty) n v b.ty (variables_of (suc n) bs) (held_all (is_scalar tb) (suc n) bs vs one) k (cells_of_all k vs) refl g.0
      (λ z. unchanged (suc n) bs vs one n (none_before (suc n) n bs (omega arith)) k ∙ held_new (is_scalar tb b.ty) n v held k z)
      (totals (suc n) bs vs one k g.1)

  pub total_is : (n : ℕ) (bs : List Binder) (vs : Values) (held : Held) (k : ℕ) → HaveTypes tb (slots bs) vs → total (held_all (is_scalar tb) n bs vs held) (variables w n bs) k ≡ cells_of_all k vs
  total_is n bs vs held k g = ap (λ ys. total (held_all (is_scalar tb) n bs vs held) ys k) (sym (variables_are n bs)) ∙ totals n bs vs held k g

-- ---- a let

pub let_slots : (bs : List Binder) (ts : List ℕ) → Bind true bs ts → ts ≡ slots bs
let_slots [] [] h = refl
let_slots [] (t ∷ ts) h = absurd h
let_slots (b ∷ bs) [] h = absurd h
let_slots (b ∷ bs) (t ∷ ts) h = ap (λ u. u ∷ ts) (sym h.0.1) ∙ ap (λ us. b.ty ∷ us) (let_slots bs ts h.1)

pub let_entries : (bs : List Binder) (ts : List ℕ) → Bind true bs ts → entries bs (map Some ts) ≡ slot_entries bs
let_entries [] ts h = refl
let_entries (b ∷ bs) [] h = absurd h
let_entries (b ∷ bs) (t ∷ ts) h =
    ap (λ o. entry o b ∷ entries bs (map Some ts)) (annotated_is b.annotation t h.0.0 ∙ ap Some (sym h.0.1))
    ∙ ap (λ es. entry (Some b.ty) b ∷ es) (let_entries bs ts h.1)

-- ---- parameters

pub parameter_slots : (ps : List Param) (bs : List Binder) → length bs ≡ length ps → Parameters true ps bs → map type_of ps ≡ slots bs
parameter_slots [] [] e h = refl
parameter_slots [] (b ∷ bs) e h = absurd (omega arith)
parameter_slots (p ∷ ps) [] e h = absurd (omega arith)
parameter_slots (p ∷ ps) (b ∷ bs) e h = ap (λ u. u ∷ map type_of ps) (sym h.0) ∙ ap (λ us. b.ty ∷ us) (parameter_slots ps bs (omega arith) h.1)

pub parameter_slot_entries : (ps : List Param) (bs : List Binder) → length bs ≡ length ps → Parameters true ps bs → parameter_entries ps bs ≡ slot_entries bs
parameter_slot_entries [] [] e h = refl
parameter_slot_entries [] (b ∷ bs) e h = absurd (omega arith)
parameter_slot_entries (p ∷ ps) [] e h = absurd (omega arith)
parameter_slot_entries (p ∷ ps) (b ∷ bs) e h =
    ap (λ u. entry (Some u) b ∷ parameter_entries ps bs) (sym h.0) ∙ ap (λ es. entry (Some b.ty) b ∷ es) (parameter_slot_entries ps bs (omega arith) h.1)

module _ (w : World) where
  pub parameter_names : (c : Names) (ps : List Param) (bs : List Binder) → length bs ≡ length ps → within c (parameters w ps bs) ≡ within c (taking w true bs)
  parameter_names c ps [] e = refl
  parameter_names c [] (b ∷ bs) e = absurd (omega arith)
  parameter_names c (p ∷ ps) (b ∷ bs) e = parameter_names (one_more c b) ps bs (omega arith)

  pub parameter_scalars : (n : ℕ) (sc : Scalars) (ps : List Param) (bs : List Binder) → length bs ≡ length ps → Parameters true ps bs → entering_parameters w n sc ps bs ≡ entering w n sc bs
  parameter_scalars n sc ps [] e h = refl
  parameter_scalars n sc [] (b ∷ bs) e h = absurd (omega arith)
  parameter_scalars n sc (p ∷ ps) (b ∷ bs) e h =
      ap (λ u. entering_parameters w (suc n) (λ y. if n == y then w.scalar u else sc y) ps bs) (sym h.0)
      ∙ parameter_scalars (suc n) (λ y. if n == y then w.scalar b.ty else sc y) ps bs (omega arith) h.1
