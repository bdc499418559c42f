-- How expressions without a match, lets and blocks are laid out, from what their parts have written.
use Rattle.std.proofs.Common.{◌≡◌, ◌⊎◌, inl, inr, refl, sym, ap, ◌∙◌, subst, arith, ℕ, zero, suc, ◌+◌, ◌<◌, ◌≤◌, Bool, true, false, List, [], ◌∷◌, ◌++◌, length, map, Option, Some, None, slice_get}
use Rattle.std.specs.Prelude.{◌==◌, ◌&&◌}
use Rattle.std.proofs.lemmas.Bool.{cases_eq, eq-eqb, eqb-true}
use Rattle.fip_language.specs.declared.Operator.{Operator}
use Rattle.fip_language.specs.declared.Place.{Place}
use Rattle.fip_language.specs.Every.{Among}
use Rattle.fip_language.specs.Table.{Table}
use Rattle.fip_trees.specs.declared.program.Binder.{Binder}
use Rattle.fip_trees.specs.Tree.{Name, Argument, Arguments, NoArguments, MoreArguments, Expression, Give, Tuple, Operation, Call, Nested, Block, Last, Let, count}
use Rattle.cell_code.specs.declared.code.Instr.{Instr}
use Rattle.cell_code.specs.declared.kind.Kind.{Kind}
use Rattle.cell_code.specs.Plain.{LabelMap, PlainFunction, PlainCode}
use Rattle.lower_frame.specs.code_rules.Codes.{label_at}
use Rattle.lower_frame.specs.code_rules.Fitting.{fits}
use Rattle.lower_frame.specs.code_rules.Kinds.{at as kind_at}
use Rattle.lower_frame.specs.lowering_relation.declared.held.Held.{Held}
use Rattle.lower_frame.specs.lowering_relation.declared.held.Held.TheVariants as H
use Rattle.lower_frame.specs.lowering_relation.declared.held.Credit.{Credit}
use Rattle.lower_frame.specs.lowering_relation.Known.{Known, joined, named, register_of, holding, with_next}
use Rattle.lower_frame.specs.lowering_relation.Tidy.{NotIn, Fixed}
use Rattle.lower_frame.specs.lowering_relation.Values.{Setting, ArgumentsAt}
use Rattle.lower_frame.specs.lowering_relation.LoweredBodies.{Target, Return, Into, registers_for, reserved, all_named, with_names, handed, received, result_type, GivenAt, MovedAt, GoesTo, IsOperation, IsCall, IsCallOf}
use Rattle.lower_frame.proofs.lowering_relation.LoweredLists.{fewer_same}
use Rattle.lower_frame.specs.lowering_relation.Written.{Written, size, Extends, HasFrom, settled, place_of}
use Rattle.lower_frame.proofs.lowering_relation.Placing.{extends_on, back, has_all}
use Rattle.lower_frame.specs.lowering_relation.Describing.{held_at}
use Rattle.lower_frame.specs.lowering_relation.Labels.{reported, Takes, Reports}
use Rattle.lower_frame.specs.lowering_relation.LaidBodies.{ExpressionLaid, BlockLaid, BoundLaid, NamedLaid}
use Rattle.lower_frame.specs.lowering_relation.Standing.{AreRising}
use Rattle.lower_frame.specs.Credits.{Accounted, AllSolid, one_if, counted, is_credit, is_credit_of}
use Rattle.lower_frame.specs.Labels.{Rising}
use Rattle.lower_frame.specs.Registers.{registers, HasRoom}
use Rattle.lower_frame.proofs.Accounts.{of_none}
use Rattle.lower_parts.specs.Growth.{Stay}
use Rattle.lower_parts.specs.Laying.{IntoAt, HasPart, InFunction, Underway, GivesValuesLaid, AppliesLaid, AppliedLaid}
use Rattle.lower_parts.specs.Writing.{Named, Computes, ComputesAll, Writes, GivesValues, AppliesTo}
use Rattle.lower_parts.specs.Bodies.{Founded, FoundedAll, Waits, WaitsAt, StillWait, Onward, LabelTakes, BuiltWell, BuiltAfter, LaidIn, LaysIn, Lays, LaysBlock, LaysLet}
use Rattle.lower_parts.proofs.Calling.{stay_on}
use Rattle.lower_parts.proofs.Parted.{quiet_part, under_values, values_laid, computes_one}
use Rattle.lower_parts.proofs.Sighting.{fits_same}
use Rattle.lower_parts.proofs.Sided.{front_part, back_part}
use Rattle.lower_parts.proofs.Building.{AllRight, Spends, arguments_right, arguments_on, arguments_waits, handed_lower, all_received, received_empty, lower_empty, lower_on, moves_right, moves_wait, moves_fixed, moves_on, moves_longer, right_lower, right_scalar, right_set, right_up, set_other, spends_wait, taken_spends, waits_on}
use Rattle.fip_language.proofs.Facts.{and_false as and_none, unequal_false as not_equal}
use Rattle.lower_frame.proofs.Accounts.{nothing_or as nothing_of}

-- what is so after instructions that tell nothing

pub record Goes (tb : Table) (at : ℕ) (k : Known) (target : Target) (end : ℕ) (l : Known) : Type 0 where
  pub longer : WaitsAt target k → at < end
  pub right : AllRight tb at k.held → BuiltAfter tb target end l
  pub waits : IntoAt target (λ ds. StillWait ds k l)
  pub fixed : IntoAt target (λ ds. (d : ℕ) → Waits k d → Fixed l d)

goes_back : (tb : Table) (at : ℕ) (k : Known) (end : ℕ) (l : Known) → at < end → Goes tb at k Return end l
goes_back tb at k end l lt = record { longer = λ x. lt; right = λ a. tt; waits = tt; fixed = tt }

waits_fixed : (k : Known) (d : ℕ) → Waits k d → Fixed k d
waits_fixed k d x = record { used = x.used; kept = x.free }

-- values

values_longer : (s : Setting) (code : List Instr) (at : ℕ) (k : Known) (as' : Arguments) (rs : List ℕ) (mid : ℕ) (m : Known) (ds : List ℕ) (end : ℕ) (l : Known) → 0 < count as' → ArgumentsAt s code at k as' rs mid m → MovedAt code mid m rs ds end l → WaitsAt (Into ds) k → at < end
values_longer s code at k NoArguments rs mid m ds end l some h g x = absurd (omega (arith, some))
values_longer s code at k (MoreArguments a as') [] mid m ds end l some h g x = absurd h
values_longer s code at k (MoreArguments a as') (r ∷ rs) mid m [] end l some h g x = let z = x.0 in absurd (omega (arith, z))
values_longer s code at k (MoreArguments a as') (r ∷ rs) mid m (d ∷ ds) end l some h g x =
    let apart = (arguments_waits s code at k (MoreArguments a as') (r ∷ rs) mid m d h (x.1 d (inl refl))).1 in
    omega (arith, arguments_on s code at k (MoreArguments a as') (r ∷ rs) mid m h, moves_longer code mid m r rs d ds end l (λ e. apart (inl (sym e))) g)

values_go : (s : Setting) (code : List Instr) (at : ℕ) (k : Known) (as' : Arguments) (rs : List ℕ) (mid : ℕ) (m : Known) (target : Target) (end : ℕ) (l : Known) → 0 < count as' → FoundedAll s.types as' → ArgumentsAt s code at k as' rs mid m → GivenAt code mid m rs target end l → Goes s.types at k target end l
values_go s code at k as' rs mid m Return end l some founded h g = goes_back s.types at k end l (let e = g.one in omega (arith, e, arguments_on s code at k as' rs mid m h))
values_go s code at k as' rs mid m (Into ds) end l some founded h g = record {
  longer = λ x. values_longer s code at k as' rs mid m ds end l some h g x;
  right = λ a. moves_right s.types code mid m rs ds end l (arguments_right s code at k as' rs mid m founded a h) g;
  waits = λ d x ne. moves_wait code mid m rs ds end l d g (arguments_waits s code at k as' rs mid m d h x).0 ne;
  fixed = λ d x. moves_fixed code mid m rs ds end l d g (waits_fixed m d (arguments_waits s code at k as' rs mid m d h x).0);
}

-- operators

holds_right : (w : Table) (ds : List ℕ) (m : Known) (t d : ℕ) (h : Known) (at : ℕ) → GoesTo (Into ds) m (H.Scalar t) d h → AllRight w at m.held → AllRight w at h.held
holds_right w [] m t d h at g a = subst (λ (x : Known). AllRight w at x.held) (sym g.1) (right_set w at m.held m.next (H.Scalar t) a (right_scalar w at t))
holds_right w (e ∷ ds) m t d h at g a = subst (λ (x : Known). AllRight w at x.held) (sym g.1) (right_set w at m.held e (H.Scalar t) a (right_scalar w at t))

holds_waits : (ds : List ℕ) (m : Known) (t d : ℕ) (h : Known) (q : ℕ) → GoesTo (Into ds) m (H.Scalar t) d h → Waits m q → (Among q ds → ⊥) → Waits h q
holds_waits [] m t d h q g x ne = subst (λ y. Waits y q) (sym g.1)
    (waits_on m (with_next m (H.Scalar t)) q refl (omega arith) (fewer_same m.credits) (set_other m.held m.next (H.Scalar t) q (λ e. absurd (let a = x.used in omega (arith, a, e))) ∙ x.empty) x)
holds_waits (e ∷ ds) m t d h q g x ne = subst (λ y. Waits y q) (sym g.1)
    (waits_on m (holding m e (H.Scalar t)) q refl (omega arith) (fewer_same m.credits) (set_other m.held e (H.Scalar t) q (λ f. ne (inl f)) ∙ x.empty) x)

holds_fixed : (ds : List ℕ) (m : Known) (t d : ℕ) (h : Known) (q : ℕ) → GoesTo (Into ds) m (H.Scalar t) d h → Fixed m q → Fixed h q
holds_fixed [] m t d h q g x = subst (λ y. Fixed y q) (sym g.1) (record { used = let a = x.used in omega (arith, a); kept = x.kept })
holds_fixed (e ∷ ds) m t d h q g x = subst (λ y. Fixed y q) (sym g.1) (record { used = x.used; kept = x.kept })

operation_goes : (s : Setting) (code : List Instr) (at : ℕ) (k : Known) (as' : Arguments) (rs : List ℕ) (mid : ℕ) (m : Known) (o : Operator) (p : Place) (x y : ℕ) (target : Target) (end : ℕ) (l : Known) → FoundedAll s.types as' → ArgumentsAt s code at k as' rs mid m → IsOperation code mid m o p x y target end l → Goes s.types at k target end l
operation_goes s code at k as' rs mid m o p x y Return end l founded h i = goes_back s.types at k end l (let g = i.given in let e = g.one in omega (arith, e, arguments_on s code at k as' rs mid m h))
operation_goes s code at k as' rs mid m o p x y (Into ds) end l founded h i = record {
  longer = λ z. omega (arith, arguments_on s code at k as' rs mid m h, moves_on code (suc mid) i.holds (i.destination ∷ []) ds end l i.given);
  right = λ a. moves_right s.types code (suc mid) i.holds (i.destination ∷ []) ds end l
      (holds_right s.types ds m (result_type o) i.destination i.holds (suc mid) i.goes (right_up s.types mid (suc mid) m.held (omega arith) (arguments_right s code at k as' rs mid m founded a h))) i.given;
  waits = λ d z ne. moves_wait code (suc mid) i.holds (i.destination ∷ []) ds end l d i.given (holds_waits ds m (result_type o) i.destination i.holds d i.goes (arguments_waits s code at k as' rs mid m d h z).0 ne) ne;
  fixed = λ d z. moves_fixed code (suc mid) i.holds (i.destination ∷ []) ds end l d i.given (holds_fixed ds m (result_type o) i.destination i.holds d i.goes (waits_fixed m d (arguments_waits s code at k as' rs mid m d h z).0));
}

-- calls

call_goes : (s : Setting) (code : List Instr) (at : ℕ) (k : Known) (as' : Arguments) (rs : List ℕ) (mid : ℕ) (m : Known) (g : ℕ) (target : Target) (end : ℕ) (l : Known) → FoundedAll s.types as' → ArgumentsAt s code at k as' rs mid m → IsCall s code mid m g rs target end l → Goes s.types at k target end l
call_goes s code at k as' rs mid m g Return end l founded h i = goes_back s.types at k end l (let c = i.ends in let e = c.one in omega (arith, e, arguments_on s code at k as' rs mid m h))
call_goes s code at k as' rs mid m g (Into ds) end l founded h i = record {
  longer = λ z. let e = ends.one in omega (arith, e, arguments_on s code at k as' rs mid m h);
  right = λ a. subst (λ (x : Known). AllRight s.types end x.held) (sym ends.known)
      (all_received s s.types end i.m.held i.instance.results ds (right_up s.types mid end i.m.held (let e = ends.one in omega (arith, e))
      (right_lower s.types mid m.held i.m.held (lower_on m.held handed_over i.m.held (handed_lower m.held i.instance.params rs) spends.lower) (arguments_right s code at k as' rs mid m founded a h))));
  waits = λ d z ne. subst (λ x. Waits x d) (sym ends.known)
      (let y = waits_taken d z in waits_on i.m (record i.m { held = received s i.m.held i.instance.results ds }) d refl (omega arith) (fewer_same i.m.credits) (received_empty s i.m.held i.instance.results ds d ne y.empty) y);
  fixed = λ d z. subst (λ x. Fixed x d) (sym ends.known) (let y = waits_taken d z in record { used = y.used; kept = y.free });
}
  where
    ends : IsCallOf s code mid i.m i.function (rs ++ i.credits) i.instance.results ds end l
    ends = i.ends

    handed_over : List Held
    handed_over = handed m.held i.instance.params rs

    spends : Spends (record m { held = handed_over }) i.m
    spends = taken_spends (record m { held = handed_over }) i.instance.credits i.credits i.m i.taken

    waits_taken : (d : ℕ) → Waits k d → Waits i.m d
    waits_taken d z =
        let y = (arguments_waits s code at k as' rs mid m d h z).0 in
        spends_wait (record m { held = handed_over }) i.m d spends
        (waits_on m (record m { held = handed_over }) d refl (omega arith) (fewer_same m.credits) (lower_empty m.held handed_over d (handed_lower m.held i.instance.params rs) y.empty) y)

-- what labels take

pub reports_takes : (n : ℕ) (ks : List Kind) (m : ℕ → Kind) → Reports n ks m → Takes n ks m
reports_takes n ks m t = record { wide = t.wide; each = λ r. fits_same (kind_at ks r) (m r) (sym (t.each r)) }

first_takes : (tb : Table) (k : Known) (v w : Written) → w.maps ≡ v.maps → size v < size w → Underway tb k v → (c : PlainCode) (to : ℕ → ℕ) (f : PlainFunction) → c.types ≡ tb → f.registers ≡ registers k → HasPart (size v) w to f → LabelTakes c f (size v) k
first_takes tb k v w same lt under c to f types many has = λ ks e. reports_takes f.registers ks (reported c k) ((quiet_part tb k v w same under c to f types many has).first lt ks e)

pub rising_below : (n m low : ℕ) (ms : List LabelMap) → n < m → Rising n low ms → AreRising m low ms
rising_below n m low [] lt r = tt
rising_below n m low (x ∷ ms) lt r = (r.0, omega (arith, lt, r.1), rising_below n m x.at ms lt r.2)

-- registers that wait are no credits'

pub empty_solid : (hs : List Held) (r : ℕ) → held_at hs r ≡ H.Nothing → is_credit (slice_get hs r) ≡ false
empty_solid [] r e = refl
empty_solid (h ∷ hs) zero e = ap (λ x. is_credit (Some x)) e
empty_solid (h ∷ hs) (suc r) e = empty_solid hs r e

pub waits_solid : (k : Known) (ds : List ℕ) → ((d : ℕ) → Among d ds → Waits k d) → AllSolid k ds
waits_solid k [] x = tt
waits_solid k (d ∷ ds) x = ((x d (inl refl)).used, empty_solid k.held d (x d (inl refl)).empty, waits_solid k ds (λ q m. x q (inr m)))

not_counted : (n r : ℕ) (cs : List Credit) → NotIn r cs → counted n r cs ≡ 0
not_counted n r [] h = refl
not_counted n r (c ∷ cs) h =
    let here : one_if ((c.size == n) && (c.register == r)) ≡ 0 = ap one_if (ap (λ b. (c.size == n) && b) (not_equal c.register r (λ e. h.0 (sym e))) ∙ and_none (c.size == n)) in
    omega (arith, here, not_counted n r cs h.1)

pub none_of_one : (b : Bool) → one_if b ≡ 0 → b ≡ false
none_of_one true e = absurd (omega (arith, e))
none_of_one false e = refl

fixed_solid : (l : Known) (d : ℕ) → Accounted l → Fixed l d → is_credit (slice_get l.held d) ≡ false
fixed_solid l d a x = of_none (slice_get l.held d) (λ n. none_of_one (is_credit_of n (slice_get l.held d)) (sym (a.credits n d) ∙ not_counted n d l.credits x.kept))

all_fixed_solid : (l : Known) (ds : List ℕ) → Accounted l → ((d : ℕ) → Among d ds → Fixed l d) → AllSolid l ds
all_fixed_solid l [] a x = tt
all_fixed_solid l (d ∷ ds) a x = ((x d (inl refl)).used, fixed_solid l d a (x d (inl refl)), all_fixed_solid l ds a (λ q m. x q (inr m)))

-- expressions without a match

onward_by : (tb : Table) (at : ℕ) (k : Known) (v : Written) (target : Target) (end : ℕ) (l : Known) (w : Written) → w.maps ≡ v.maps → size v < size w → WaitsAt target k → Underway tb k v → Goes tb at k target end l → IntoAt target (λ ds. Underway tb k v → AllSolid k ds → Underway tb l w) → Onward tb k target l w
onward_by tb at k v Return end l w same lt x under g into = subst (AreRising (size w) 0) (sym same) (rising_below (size v) (size w) 0 v.maps lt under.rising)
onward_by tb at k v (Into ds) end l w same lt x under g into =
    let later = into under (waits_solid k ds x.1) in
    (later, all_fixed_solid l ds later.accounts (λ d m. g.fixed d (x.1 d m)), g.waits)

pub lays_by : (s : Setting) (fip : Bool) (k l : Known) (v w : Written) (e : Expression) (target : Target) → Extends v w → w.maps ≡ v.maps → Stay target k l → HasRoom k l → ((to : ℕ → ℕ) (code : List Instr) → HasFrom (size v) w to code → Goes s.types (size v) k target (size w) l) → (Underway s.types k v → InFunction s.types (registers k) v w (λ c f. ExpressionLaid c s fip f (size v) k e target (size w) l)) → IntoAt target (λ ds. Underway s.types k v → AllSolid k ds → Underway s.types l w) → Lays s fip k v e target l w
lays_by s fip k l v w e target extends same stay room goes laid into = record {
  by = λ under x. record {
    extends = extends;
    longer = whole.longer x;
    room = let a = under.room in omega (arith, room, a);
    stay = stay;
    laid = λ c to f types many has built. record {
      laid = laid under c to f types many has;
      first = first_takes s.types k v w same (whole.longer x) under c to f types many has;
      built = (goes to f.instrs has.code).right built;
    };
    onward = onward_by s.types (size v) k v target (size w) l w same (whole.longer x) x under whole into;
  };
}
  where
    code : List Instr
    code = map (settled (place_of w.places)) w.instrs

    whole : Goes s.types (size v) k target (size w) l
    whole = goes (place_of w.places) code (back 0 (size v) w (place_of w.places) code (omega arith) (has_all w code refl))

pub lays_give : (s : Setting) (fip : Bool) (k l : Known) (v w : Written) (a : Argument) (target : Target) → Founded s.types a → Writes s k v (Give a) target l w → GivesValuesLaid s fip k v (MoreArguments a NoArguments) target l w → Lays s fip k v (Give a) target l w
lays_give s fip k l v w a target founded writes g =
    lays_by s fip k l v w (Give a) target writes.extends g.maps writes.stay g.room
    (λ to code h. let x = writes.code to code h in values_go s code (size v) k (MoreArguments a NoArguments) (x.0 ∷ []) x.1 x.2 target (size w) l (omega arith) (founded, tt) (x.1, x.2, x.3, (refl, refl)) x.4) g.by g.into

pub lays_tuple : (s : Setting) (fip : Bool) (k l : Known) (v w : Written) (p : Place) (as' : Arguments) (target : Target) → 0 < count as' → FoundedAll s.types as' → GivesValues s k v as' target l w → GivesValuesLaid s fip k v as' target l w → Lays s fip k v (Tuple p as') target l w
lays_tuple s fip k l v w p as' target some founded gives g =
    lays_by s fip k l v w (Tuple p as') target gives.extends g.maps gives.stay g.room
    (λ to code h. let x = gives.code to code h in values_go s code (size v) k as' x.0 x.1 x.2 target (size w) l some founded x.3 x.4) g.by g.into

pub lays_operation : (s : Setting) (fip : Bool) (k l : Known) (v w : Written) (o : Operator) (p : Place) (a b : Argument) (target : Target) → Founded s.types a → Founded s.types b → Writes s k v (Operation o p a b) target l w → AppliedLaid s fip k v o p a b target l w → Lays s fip k v (Operation o p a b) target l w
lays_operation s fip k l v w o p a b target one two writes g =
    lays_by s fip k l v w (Operation o p a b) target writes.extends g.maps writes.stay g.room
    (λ to code h. let x = writes.code to code h in operation_goes s code (size v) k (MoreArguments a (MoreArguments b NoArguments)) (x.0 ∷ x.3 ∷ []) x.4 x.5 o p x.0 x.3 target (size w) l (one, (two, tt)) (x.1, x.2, x.6, (x.4, x.5, x.7, (refl, refl))) x.8) g.by g.into

pub lays_call : (s : Setting) (fip : Bool) (k l : Known) (v w : Written) (g : ℕ) (n : Name) (p : Place) (as' : Arguments) (target : Target) → FoundedAll s.types as' → AppliesTo s k v g as' target l w → AppliesLaid s fip k v g as' target l w → Lays s fip k v (Call g n p as') target l w
lays_call s fip k l v w g n p as' target founded applies laid =
    let writes = applies.by n p in
    lays_by s fip k l v w (Call g n p as') target writes.extends laid.maps writes.stay laid.room
    (λ to code h. let x = writes.code to code h in call_goes s code (size v) k as' x.0 x.1 x.2 g target (size w) l founded x.3 x.4) laid.by laid.into

pub lays_nested : (s : Setting) (fip : Bool) (k l : Known) (v w : Written) (b : Block) (target : Target) → LaysBlock s fip k v b target l w → Lays s fip k v (Nested b) target l w
lays_nested s fip k l v w b target h = record { by = h.by }

pub lays_last : (s : Setting) (fip : Bool) (k l : Known) (v w : Written) (e : Expression) (target : Target) → Lays s fip k v e target l w → LaysBlock s fip k v (Last e) target l w
lays_last s fip k l v w e target h = record { by = h.by }

-- names

named_one : (names : List (Option ℕ)) (y q x r : ℕ) → joined (slice_get (named names y q) x) ≡ Some r → (q ≡ r) ⊎ (joined (slice_get names x) ≡ Some r)
named_one [] y q x r e = inr e
named_one (n ∷ names) zero q zero r e = inl (cc)
named_one (n ∷ names) zero q (suc x) r e = inr e
named_one (n ∷ names) (suc y) q zero r e = inr e
named_one (n ∷ names) (suc y) q (suc x) r e = named_one names y q x r e

pub named_from : (names : List (Option ℕ)) (bs : List Binder) (rs : List ℕ) (x r : ℕ) → register_of (all_named names bs rs) (Some x) ≡ Some r → Among r rs ⊎ (register_of names (Some x) ≡ Some r)
named_from names [] rs x r e = inr e
named_from names (b ∷ bs) [] x r e = inr e
named_from names (b ∷ bs) (q ∷ rs) x r e = later (named_from (named names b.number q) bs rs x r e)
  where
    before : (q ≡ r) ⊎ (joined (slice_get names x) ≡ Some r) → Among r (q ∷ rs) ⊎ (register_of names (Some x) ≡ Some r)
    before (inl f) = inl (inl (sym f))
    before (inr f) = inr f

    later : Among r rs ⊎ (register_of (named names b.number q) (Some x) ≡ Some r) → Among r (q ∷ rs) ⊎ (register_of names (Some x) ≡ Some r)
    later (inl m) = inl (inr m)
    later (inr f) = before (named_one names b.number q x r f)

among_solid : (k : Known) (rs : List ℕ) (r : ℕ) → AllSolid k rs → Among r rs → AllSolid k (r ∷ [])
among_solid k [] r s m = absurd m
among_solid k (q ∷ rs) r s (inl e) = subst (λ z. AllSolid k (z ∷ [])) (sym e) (s.0, s.1, tt)
among_solid k (q ∷ rs) r s (inr m) = among_solid k rs r s.2 m

pub names_under : (tb : Table) (m : Known) (u : Written) (bs : List Binder) (rs : List ℕ) → AllSolid m rs → Underway tb m u → Underway tb (with_names m bs rs) u
names_under tb m u bs rs solid under = record {
  accounts = record { fresh = a.fresh; credits = a.credits; sizes = a.sizes };
  named = λ x r e. by x r (named_from m.names bs rs x r e);
  room = under.room;
  rising = under.rising;
  shown = under.shown;
}
  where
    a : Accounted m
    a = under.accounts

    by : (x r : ℕ) → Among r rs ⊎ (register_of m.names (Some x) ≡ Some r) → AllSolid m (r ∷ [])
    by x r (inl i) = among_solid m rs r solid i
    by x r (inr e) = under.named x r e

pub names_wait : (m : Known) (bs : List Binder) (rs : List ℕ) (d : ℕ) → Waits m d → (Among d rs → ⊥) → Waits (with_names m bs rs) d
names_wait m bs rs d x ne = record {
  used = x.used;
  empty = x.empty;
  unnamed = λ y e. by y (named_from m.names bs rs y d e);
  free = x.free;
}
  where
    by : (y : ℕ) → Among d rs ⊎ (register_of m.names (Some y) ≡ Some d) → ⊥
    by y (inl i) = ne i
    by y (inr e) = x.unnamed y e

-- lets

target_waits : (target : Target) (k l : Known) → ((d : ℕ) → Waits k d → Waits l d) → WaitsAt target k → WaitsAt target l
target_waits Return k l h x = tt
target_waits (Into ds) k l h x = (x.0, λ d m. h d (x.1 d m))

onward_on : (tb : Table) (target : Target) (k l m : Known) (z : Written) → ((d : ℕ) → Waits k d → Waits l d) → Onward tb l target m z → Onward tb k target m z
onward_on tb Return k l m z h o = o
onward_on tb (Into ds) k l m z h o = (o.0, o.1, λ d x ne. o.2 d (h d x) ne)

lets_values : (s : Setting) (fip : Bool) (k m : Known) (v u : Written) (bs : List Binder) (e : Expression) (as' : Arguments) (rs : List ℕ) → FoundedAll s.types as' → ComputesAll s k v as' rs m u → ((c : PlainCode) (f : PlainFunction) → BoundLaid c s f (size v) k as' rs (size u) m → NamedLaid c s f (size v) k e rs (size u) m) → LaysLet s fip k v bs e (with_names m bs rs) u
lets_values s fip k m v u bs e as' rs founded p bound = record { by = λ rest target n z h. record { by = λ under x. whole rest target n z h under x } }
  where
    l : Known
    l = with_names m bs rs

    code : List Instr
    code = map (settled (place_of u.places)) u.instrs

    waits : (d : ℕ) → Waits k d → Waits l d
    waits d x =
        let y = arguments_waits s code (size v) k as' rs (size u) m d (p.code (place_of u.places) code (back 0 (size v) u (place_of u.places) code (omega arith) (has_all u code refl))) x in
        names_wait m bs rs d y.0 y.1

    whole : (rest : Block) (target : Target) (n : Known) (z : Written) → LaysBlock s fip l u rest target n z → Underway s.types k v → WaitsAt target k → LaysIn s k v target n z (λ c f. BlockLaid c s fip f (size v) k (Let bs e rest) target (size z) n)
    whole rest target n z h under x = record {
      extends = extends_on v u z p.extends more.extends;
      longer = let a = p.extends in let b = a.grows in let d = more.longer in omega (arith, b, d);
      room = let a = more.room in let b = p.as_many in omega (arith, a, b);
      stay = stay_on target k l n p.as_many more.stay;
      laid = λ c to f types many has built. part c to f types many has built;
      onward = onward_on s.types target k l n z waits more.onward;
    }
      where
        under_l : Underway s.types l u
        under_l = names_under s.types m u bs rs (p.solid under.accounts under.named) (under_values s k m v u as' rs p under)

        more : LaysIn s l u target n z (λ c f. BlockLaid c s fip f (size u) l rest target (size z) n)
        more = h.by under_l (target_waits target k l waits x)

        part : (c : PlainCode) (to : ℕ → ℕ) (f : PlainFunction) → c.types ≡ s.types → f.registers ≡ registers k → HasPart (size v) z to f → BuiltWell s.types (size v) k → LaidIn s k v target n z (BlockLaid c s fip f (size v) k (Let bs e rest) target (size z) n) c f
        part c to f types many has built = record {
          laid = inl (
            rs,
            size u,
            m,
            bound c f (record {
              values = values_laid s k m v u z as' rs p more.extends under c to f many has.code;
              quiet = quiet_part s.types k v u p.maps under c to f types many before;
            }),
            later.laid,
          );
          first = λ ks i. by_order ks i (cases_eq (size u) (size v));
          built = later.built;
        }
          where
            before : HasPart (size v) u to f
            before = front_part to f v u z more.extends has

            later : LaidIn s l u target n z (BlockLaid c s fip f (size u) l rest target (size z) n) c f
            later = more.laid c to f types (many ∙ sym p.as_many) (back_part to f v u z p.extends has)
                (arguments_right s f.instrs (size v) k as' rs (size u) m founded built (p.code to f.instrs before.code))

            by_order : (ks : List Kind) → label_at f.labels (size v) ≡ Some ks → (size u ≡ size v) ⊎ (size u ≡ size v → ⊥) → Takes f.registers ks (reported c k)
            by_order ks i (inl same) =
                let t = later.first ks (ap (label_at f.labels) same ∙ i) in
                record { wide = t.wide; each = λ r. ap (fits (kind_at ks r)) (sym (p.still same c.types r)) ∙ t.each r }
            by_order ks i (inr ne) = first_takes s.types k v u p.maps (let a = p.extends in let b = a.grows in omega (arith, b, ne)) under c to f types many before ks i

pub lets_give : (s : Setting) (fip : Bool) (k m l : Known) (v u : Written) (bs : List Binder) (a : Argument) (r : ℕ) → Founded s.types a → Computes s k v a r m u → l ≡ with_names m bs (r ∷ []) → LaysLet s fip k v bs (Give a) l u
lets_give s fip k m l v u bs a r founded c e = subst (λ x. LaysLet s fip k v bs (Give a) x u) (sym e)
    (lets_values s fip k m v u bs (Give a) (MoreArguments a NoArguments) (r ∷ []) (founded, tt) (computes_one s k m v u a r c) (λ c f h. h))

pub lets_tuple : (s : Setting) (fip : Bool) (k m l : Known) (v u : Written) (bs : List Binder) (p : Place) (as' : Arguments) (rs : List ℕ) → FoundedAll s.types as' → ComputesAll s k v as' rs m u → l ≡ with_names m bs rs → LaysLet s fip k v bs (Tuple p as') l u
lets_tuple s fip k m l v u bs p as' rs founded c e = subst (λ x. LaysLet s fip k v bs (Tuple p as') x u) (sym e)
    (lets_values s fip k m v u bs (Tuple p as') as' rs founded c (λ c f h. h))

-- registers that are reserved

reserved_length : (r : ℕ) (bs : List Binder) → length (registers_for r bs) ≡ length bs
reserved_length r [] = refl
reserved_length r (b ∷ bs) = ap suc (reserved_length (suc r) bs)

among_reserved : (r : ℕ) (bs : List Binder) (d : ℕ) → Among d (registers_for r bs) → (r ≤ d) × (d < r + length bs)
among_reserved r [] d m = absurd m
among_reserved r (b ∷ bs) d (inl e) = (omega (arith, e), omega (arith, e))
among_reserved r (b ∷ bs) d (inr m) = let x = among_reserved (suc r) bs d m in (let a = x.0 in omega (arith, a), let a = x.1 in omega (arith, a))

fresh_empty : (hs : List Held) (d : ℕ) → ((h : Held) → slice_get hs d ≡ Some h → h ≡ H.Nothing) → held_at hs d ≡ H.Nothing
fresh_empty [] d f = refl
fresh_empty (h ∷ hs) zero f = f h refl
fresh_empty (h ∷ hs) (suc d) f = fresh_empty hs d f

uncounted : (r : ℕ) (cs : List Credit) → ((n : ℕ) → counted n r cs ≡ 0) → NotIn r cs
uncounted r [] h = tt
uncounted r (c ∷ cs) h = (here, uncounted r cs (λ n. let a = h n in omega (arith, a)))
  where
    here : r ≡ c.register → ⊥
    here e =
        let a = h c.size in
        let one : one_if ((c.size == c.size) && (c.register == r)) ≡ 1 = ap one_if (ap (λ b. b && (c.register == r)) (eq-eqb c.size c.size refl) ∙ eq-eqb c.register r (sym e)) in
        absurd (omega (arith, a, one))

reserved_waits : (k : Known) (bs : List Binder) (d : ℕ) → Accounted k → Named k → k.next ≤ d → d < k.next + length bs → Waits (reserved k bs) d
reserved_waits k bs d a named le lt = record {
  used = lt;
  empty = fresh_empty k.held d (λ h e. a.fresh d h le e);
  unnamed = λ x e. absurd (let s = named x d e in omega (arith, s.0, le));
  free = uncounted d k.credits (λ n. a.credits n d ∙ ap one_if (nothing_of n (slice_get k.held d) (λ h e. a.fresh d h le e)));
}

reserved_under : (tb : Table) (k : Known) (v : Written) (bs : List Binder) → HasRoom k (reserved k bs) → Underway tb k v → Underway tb (reserved k bs) v
reserved_under tb k v bs room under = record {
  accounts = record { fresh = λ r h le e. a.fresh r h (omega (arith, le)) e; credits = a.credits; sizes = a.sizes };
  named = λ x r e. let s = under.named x r e in (omega (arith, s.0), s.1, tt);
  room = let b = under.room in omega (arith, room, b);
  rising = under.rising;
  shown = under.shown;
}
  where
    a : Accounted k
    a = under.accounts

lets_reserved : (s : Setting) (fip : Bool) (k m : Known) (v u : Written) (bs : List Binder) (e : Expression) → 0 < length bs → HasRoom k (reserved k bs) → Lays s fip (reserved k bs) v e (Into (registers_for k.next bs)) m u → LaysLet s fip k v bs e (with_names m bs (registers_for k.next bs)) u
lets_reserved s fip k m v u bs e some room lays = record { by = λ rest target n z h. record { by = λ under x. whole rest target n z h under x } }
  where
    rs : List ℕ
    rs = registers_for k.next bs

    k0 : Known
    k0 = reserved k bs

    l : Known
    l = with_names m bs rs

    whole : (rest : Block) (target : Target) (n : Known) (z : Written) → LaysBlock s fip l u rest target n z → Underway s.types k v → WaitsAt target k → LaysIn s k v target n z (λ c f. BlockLaid c s fip f (size v) k (Let bs e rest) target (size z) n)
    whole rest target n z h under x = record {
      extends = extends_on v u z one.extends more.extends;
      longer = let a = one.longer in let b = more.longer in omega (arith, a, b);
      room = let a = more.room in omega (arith, a, many_l);
      stay = stay_on target k l n many_l more.stay;
      laid = λ c to f types many has built. part c to f types many has built;
      onward = onward_on s.types target k l n z waits more.onward;
    }
      where
        one : LaysIn s k0 v (Into rs) m u (λ c f. ExpressionLaid c s fip f (size v) k0 e (Into rs) (size u) m)
        one = lays.by (reserved_under s.types k v bs room under)
            (let a = reserved_length k.next bs in omega (arith, a, some), λ d i. let y = among_reserved k.next bs d i in reserved_waits k bs d under.accounts under.named y.0 y.1)

        many_l : registers l ≡ registers k
        many_l = one.stay

        waits : (d : ℕ) → Waits k d → Waits l d
        waits d y =
            let apart : Among d rs → ⊥ = λ i. absurd (let b = among_reserved k.next bs d i in let a = y.used in omega (arith, b.0, a)) in
            names_wait m bs rs d (one.onward.2 d (waits_on k k0 d refl (omega arith) (fewer_same k.credits) y.empty y) apart) apart

        more : LaysIn s l u target n z (λ c f. BlockLaid c s fip f (size u) l rest target (size z) n)
        more = h.by (names_under s.types m u bs rs one.onward.1 one.onward.0) (target_waits target k l waits x)

        part : (c : PlainCode) (to : ℕ → ℕ) (f : PlainFunction) → c.types ≡ s.types → f.registers ≡ registers k → HasPart (size v) z to f → BuiltWell s.types (size v) k → LaidIn s k v target n z (BlockLaid c s fip f (size v) k (Let bs e rest) target (size z) n) c f
        part c to f types many has built = record { laid = inr (size u, m, here.laid, later.laid); first = here.first; built = later.built }
          where
            here : LaidIn s k0 v (Into rs) m u (ExpressionLaid c s fip f (size v) k0 e (Into rs) (size u) m) c f
            here = one.laid c to f types many (front_part to f v u z more.extends has) built

            later : LaidIn s l u target n z (BlockLaid c s fip f (size u) l rest target (size z) n) c f
            later = more.laid c to f types (many ∙ sym many_l) (back_part to f v u z one.extends has) here.built

pub lets_into : (s : Setting) (fip : Bool) (k k0 m l : Known) (v u : Written) (bs : List Binder) (e : Expression) (rs : List ℕ) → 0 < length bs → HasRoom k k0 → k0 ≡ reserved k bs → rs ≡ registers_for k.next bs → Lays s fip k0 v e (Into rs) m u → l ≡ with_names m bs rs → LaysLet s fip k v bs e l u
lets_into s fip k k0 m l v u bs e rs some room a b lays d =
    subst (λ x. LaysLet s fip k v bs e x u) (sym (d ∙ ap (with_names m bs) b))
    (lets_reserved s fip k m v u bs e some (subst (HasRoom k) a room)
    (subst (λ x. Lays s fip (reserved k bs) v e (Into x) m u) b (subst (λ x. Lays s fip x v e (Into rs) m u) a lays)))
