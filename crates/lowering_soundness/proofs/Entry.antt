-- What is reported where a function is entered is what is known there.
use Rattle.std.proofs.Common.{◌≡◌, inl, inr, ℕ, zero, suc, ◌+◌, ◌-◌, ◌<◌, ◌≤◌, Bool, true, false, ◌&&◌, not, List, [], ◌∷◌, ◌++◌, length, map, replicate, Option, Some, None, refl, sym, ap, ap₂, ◌∙◌, subst, arith, append_assoc, append-nil, slice_set, if◌then◌else◌}
use Rattle.separation.specs.fip_language.Table.{Table}
use Rattle.separation.specs.fip_base.declared.plain.Param.{Param}
use Rattle.lowering_relation.specs.fip_trees.declared.program.Binder.{Binder}
use Rattle.lowering_relation.specs.fip_trees.Tree.{Instance}
use Rattle.separation.specs.cell_code.declared.kind.Kind.{Kind}
use Rattle.separation.specs.cell_code.declared.kind.Kind.TheVariants as K
use Rattle.separation.specs.cell_code.Plain.{PlainFunction, PlainCode}
use Rattle.separation.specs.code_rules.Types.{is_type, is_scalar_type, all}
use Rattle.separation.specs.code_rules.Kinds.{at}
use Rattle.separation.specs.code_rules.Entry.{param_kind, gones, entry}
use Rattle.lowering_relation.specs.declared.held.Held.{Held}
use Rattle.lowering_relation.specs.declared.held.Held.TheVariants as H
use Rattle.lowering_relation.specs.Known.{Known}
use Rattle.lowering_relation.specs.Values.{Setting, is_scalar}
use Rattle.lowering_relation.specs.LoweredBodies.{given_if}
use Rattle.lowering_relation.specs.LoweredFunctions.{param_held, with_params, with_credits, known_at_start}
use Rattle.lowering_relation.specs.Describing.{held_at, kind_of}
use Rattle.lowering_soundness.specs.Covering.{Covers, Covered}
use Rattle.lowering_relation.specs.Labels.{reported}
use Rattle.lowering_soundness.specs.Placed.{ParamsTyped}

-- ---- the list of what the registers hold

set_first : (xs : List Held) (m : ℕ) (h : Held) → slice_set (xs ++ replicate (suc m) H.Nothing) (length xs) h ≡ (xs ++ h ∷ []) ++ replicate m H.Nothing
set_first [] m h = refl
set_first (x ∷ xs) m h = ap (λ ys. x ∷ ys) (set_first xs m h)

length_more : (xs : List Held) (h : Held) → length (xs ++ h ∷ []) ≡ suc (length xs)
length_more [] h = refl
length_more (x ∷ xs) h = ap suc (length_more xs h)

module _ (st : Setting) where
  filled_params : (k : Known) (xs : List Held) (ps : List Param) (bs : List Binder) (m : ℕ) → length bs ≡ length ps → k.held ≡ xs ++ replicate (length ps + m) H.Nothing → k.next ≡ length xs → ((with_params st k ps bs).held ≡ (xs ++ map (param_held st) ps) ++ replicate m H.Nothing) × ((with_params st k ps bs).next ≡ length (xs ++ map (param_held st) ps))
  filled_params k xs [] [] m many held next =
      let z : replicate (0 + m) H.Nothing ≡ replicate m H.Nothing = (let e : 0 + m ≡ m = omega arith in ap (λ n. replicate n H.Nothing) e) in
      (held ∙ ap₂ (λ xs ys. xs ++ ys) (sym (append-nil xs)) z, next ∙ ap length (sym (append-nil xs)))
  filled_params k xs [] (b ∷ bs) m many held next = absurd (omega (arith, many))
  filled_params k xs (p ∷ ps) [] m many held next = absurd (omega (arith, many))
  filled_params k xs (p ∷ ps) (b ∷ bs) m many held next =
      let l = Rattle.lowering_relation.specs.LoweredFunctions.with_param st k p b in
      let h = param_held st p in
      let e : suc (length ps) + m ≡ suc (length ps + m) = omega arith in
      let new : l.held ≡ (xs ++ h ∷ []) ++ replicate (length ps + m) H.Nothing =
      ap₂ (λ hs n. slice_set hs n h) (held ∙ ap (λ n. xs ++ replicate n H.Nothing) e) next ∙ set_first xs (length ps + m) h in
      let rest = filled_params l (xs ++ h ∷ []) ps bs m (omega (arith, many)) new (ap suc next ∙ sym (length_more xs h)) in
      (rest.0 ∙ ap (λ ys. ys ++ replicate m H.Nothing) (append_assoc xs (h ∷ []) (map (param_held st) ps)), rest.1 ∙ ap length (append_assoc xs (h ∷ []) (map (param_held st) ps)))

  filled_credits : (k : Known) (xs : List Held) (ns : List ℕ) (m : ℕ) → k.held ≡ xs ++ replicate (length ns + m) H.Nothing → k.next ≡ length xs → (with_credits k ns).held ≡ (xs ++ map H.Credit ns) ++ replicate m H.Nothing
  filled_credits k xs [] m held next =
      let z : replicate (0 + m) H.Nothing ≡ replicate m H.Nothing = (let e : 0 + m ≡ m = omega arith in ap (λ n. replicate n H.Nothing) e) in
      held ∙ ap₂ (λ xs ys. xs ++ ys) (sym (append-nil xs)) z
  filled_credits k xs (n ∷ ns) m held next =
      let l = Rattle.lowering_relation.specs.LoweredFunctions.with_next_credit k n in
      let h = H.Credit n in
      let e : suc (length ns) + m ≡ suc (length ns + m) = omega arith in
      let new : l.held ≡ (xs ++ h ∷ []) ++ replicate (length ns + m) H.Nothing =
      ap₂ (λ hs n. slice_set hs n h) (held ∙ ap (λ n. xs ++ replicate n H.Nothing) e) next ∙ set_first xs (length ns + m) h in
      filled_credits l (xs ++ h ∷ []) ns m new (ap suc next ∙ sym (length_more xs h))
      ∙ ap (λ ys. ys ++ replicate m H.Nothing) (append_assoc xs (h ∷ []) (map H.Credit ns))

  start_held : (n m : ℕ) (d : Instance) → length d.binders ≡ length d.params → n ≡ length d.params + (length d.credits + m) → (known_at_start st n d).held ≡ (map (param_held st) d.params ++ map H.Credit d.credits) ++ replicate m H.Nothing
  start_held n m d many e =
      let k = Rattle.lowering_relation.specs.LoweredFunctions.nothing_known n d.variables in
      let params = filled_params k [] d.params d.binders (length d.credits + m) many (ap (λ n. replicate n H.Nothing) e) refl in
      filled_credits (with_params st k d.params d.binders) (map (param_held st) d.params) d.credits m params.0 params.1

-- ---- what it reports is known

abbrev AllCover : Table → List Held → List Kind → Type 0
AllCover w [] [] = Unit {0}
AllCover w [] (k ∷ ks) = ⊥
AllCover w (h ∷ hs) [] = ⊥
AllCover w (h ∷ hs) (k ∷ ks) = Covers (kind_of w h) k × AllCover w hs ks

cover_at : (w : Table) (hs : List Held) (ks : List Kind) (r : ℕ) → AllCover w hs ks → Covers (kind_of w (held_at hs r)) (at ks r)
cover_at w [] [] r h = refl
cover_at w [] (k ∷ ks) r h = absurd h
cover_at w (x ∷ hs) [] r h = absurd h
cover_at w (x ∷ hs) (k ∷ ks) zero h = h.0
cover_at w (x ∷ hs) (k ∷ ks) (suc r) h = cover_at w hs ks r h.1

cover_length : (w : Table) (hs : List Held) (ks : List Kind) → AllCover w hs ks → length ks ≡ length hs
cover_length w [] [] h = refl
cover_length w [] (k ∷ ks) h = absurd h
cover_length w (x ∷ hs) [] h = absurd h
cover_length w (x ∷ hs) (k ∷ ks) h = ap suc (cover_length w hs ks h.1)

cover_both : (w : Table) (hs is : List Held) (ks ls : List Kind) → AllCover w hs ks → AllCover w is ls → AllCover w (hs ++ is) (ks ++ ls)
cover_both w [] is [] ls a b = b
cover_both w [] is (k ∷ ks) ls a b = absurd a
cover_both w (h ∷ hs) is [] ls a b = absurd a
cover_both w (h ∷ hs) is (k ∷ ks) ls a b = (a.0, cover_both w hs is ks ls a.1 b)

cover_credits : (w : Table) (ns : List ℕ) → AllCover w (map H.Credit ns) (map K.Credit ns)
cover_credits w [] = tt
cover_credits w (n ∷ ns) = (refl, cover_credits w ns)

cover_gones : (w : Table) (m : ℕ) → AllCover w (replicate m H.Nothing) (gones m)
cover_gones w zero = tt
cover_gones w (suc m) = (refl, cover_gones w m)

cover_param : (w : Table) (t : ℕ) (sc l : Bool) → Covers (kind_of w (if l && not sc then H.Lent t None else given_if sc t)) (if sc then K.Scalar t else (if l then K.Lent t (all w t) None None else K.Owned t (all w t)))
cover_param w t true true = refl
cover_param w t true false = refl
cover_param w t false true = refl
cover_param w t false false = refl

cover_params : (c : PlainCode) (st : Setting) (ps : List Param) → ((t : ℕ) → is_type c.types t ≡ true → is_scalar st t ≡ is_scalar_type c.types t) → ParamsTyped c ps → AllCover c.types (map (param_held st) ps) (map (param_kind c.types) ps)
cover_params c st [] scalars typed = tt
cover_params c st (p ∷ ps) scalars typed = (
  subst (λ b. Covers (kind_of c.types (if p.lent && not b then H.Lent p.ty None else given_if b p.ty)) (param_kind c.types p)) (sym (scalars p.ty typed.0)) (cover_param c.types p.ty (is_scalar_type c.types p.ty) p.lent),
  cover_params c st ps scalars typed.1,
)

rest_of : (a b : ℕ) → a ≤ b → b ≡ a + (b - a)
rest_of a b h = omega (arith, h)

pub entry_covered : (c : PlainCode) (st : Setting) (f : PlainFunction) (d : Instance) → ((t : ℕ) → is_type c.types t ≡ true → is_scalar st t ≡ is_scalar_type c.types t) → ParamsTyped c d.params → length d.binders ≡ length d.params → f.params ≡ d.params → f.credits ≡ d.credits → length d.params + length d.credits ≤ f.registers → Covered f.registers (reported c (known_at_start st f.registers d)) (entry c f)
entry_covered c st f d scalars typed many params credits room =
    let m = f.registers - (length d.params + length d.credits) in
    let e : f.registers ≡ length d.params + (length d.credits + m) = (let z = rest_of (length d.params + length d.credits) f.registers room in omega (arith, z)) in
    let held = start_held st f.registers m d many e in
    let same : entry c f ≡ (map (param_kind c.types) d.params ++ map K.Credit d.credits) ++ gones m = ap₂ (λ ps ns. (map (param_kind c.types) ps ++ map K.Credit ns) ++ gones (f.registers - (length ps + length ns))) params credits in
    let cover : AllCover c.types (known_at_start st f.registers d).held (entry c f) =
    Rattle.std.proofs.Common.subst₂ (AllCover c.types) (sym held) (sym same)
    (cover_both c.types (map (param_held st) d.params ++ map H.Credit d.credits) (replicate m H.Nothing) (map (param_kind c.types) d.params ++ map K.Credit d.credits) (gones m)
    (cover_both c.types (map (param_held st) d.params) (map H.Credit d.credits) (map (param_kind c.types) d.params) (map K.Credit d.credits) (cover_params c st d.params scalars typed) (cover_credits c.types d.credits))
    (cover_gones c.types m)) in
    record {
      wide = ap length same ∙ (length_entry (map (param_kind c.types) d.params) (map K.Credit d.credits) m ∙ (ap₂ (λ a b. (a + b) + m) (Rattle.separation.proofs.separation_kinds.Basics.length_map (param_kind c.types) d.params) (Rattle.separation.proofs.separation_kinds.Basics.length_map K.Credit d.credits) ∙ (let z : (length d.params + length d.credits) + m ≡ f.registers = omega (arith, e) in z)));
      each = λ r. cover_at c.types (known_at_start st f.registers d).held (entry c f) r cover;
    }
  where
    length_gones : (m : ℕ) → length (gones m) ≡ m
    length_gones zero = refl
    length_gones (suc m) = ap suc (length_gones m)

    length_both : (xs ys : List Kind) → length (xs ++ ys) ≡ length xs + length ys
    length_both [] ys = omega arith
    length_both (x ∷ xs) ys = let z = length_both xs ys in omega (arith, z)

    length_entry : (xs ys : List Kind) (m : ℕ) → length ((xs ++ ys) ++ gones m) ≡ (length xs + length ys) + m
    length_entry xs ys m = let a = length_both (xs ++ ys) (gones m) in let b = length_both xs ys in let d = length_gones m in omega (arith, a, b, d)
