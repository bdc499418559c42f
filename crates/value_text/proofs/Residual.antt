-- What may follow in each state, and that the machine takes just that.
use Rattle.std.proofs.Common.{◌≡◌, ℕ, zero, suc, ◌+◌, ◌*◌, ◌≤◌, List, [], ◌∷◌, ◌++◌, length, Option, Some, None, Bool, true, false, refl, sym, ap, ◌∙◌, subst, append_assoc, arith}
use Rattle.std.specs.Prelude.{slice_get, nat_le, if◌then◌else◌}
use Rattle.std.proofs.lemmas.Bool.{le-leb}
use Rattle.std.proofs.lemmas.List.{append-nil}
use Rattle.std.proofs.lemmas.Option.{same_Some, cond_some}
use Rattle.fip_language.specs.Values.{Value, Int, Node, Values, End, More}
use Rattle.fip_language.specs.Table.{Shape, Table, shapes}
use Rattle.fip_language.specs.Character.{Character, Blank, Line, Open, Close, Comma, Minus, Digit, Letter, Other, characters}
use Rattle.fip_language.specs.ValueText.{skip, name_of, after_name, number, after_number, bound, int_of, Digits, ValueText, FieldsText, MoreText, AllBlank, LinesText}
use Rattle.value_text.specs.Machine.{lookup, join, snoc, Around, Alone, Lines, Field, State, Want, Naming, Signed, Number, Await, Over, Past, filled, named, any_begins, is_sign, pass, naming, pass_named, in_name, numbered, act}
use Rattle.value_text.proofs.Tables.{found_shape, IsTable}
use Rattle.value_text.proofs.Text.{guarded, lookup_begins, number_grows, is_sign_same}

-- what may follow a value
abbrev pub Ends : Table → Around → Value → List Character → Values → Type 0
Ends tb (Alone n) v cs x = (length cs ≡ n) × (More v End ≡ x)
Ends tb (Lines done rest) v cs x = (vs : Values) × LinesText tb rest cs vs × (join done (More v vs) ≡ x)
Ends tb (Field c done rest around) v cs x = (vs : Values) × (after : List Character) × MoreText tb rest cs vs after × Ends tb around (Node c (join done (More v vs))) after x

-- the text completes the state to these values
abbrev pub Completes : Table → State → List Character → Values → Type 0
Completes tb (Want k around) cs x = (v : Value) × (after : List Character) × ValueText tb k cs v after × Ends tb around v after x
Completes tb (Naming t front around) cs x = (c : ℕ) × (fields : List ℕ) × (vs : Values) × (rest : List Character) × (lookup 0 (front ++ name_of cs) (shapes tb t) ≡ Some (c, fields)) × FieldsText tb fields (after_name cs) vs rest × Ends tb around (Node c vs) rest x
Completes tb (Signed around) cs x = (i : _) × (rest : List Character) × Digits true cs i rest × Ends tb around (Int i) rest x
Completes tb (Number neg n around) cs x = (number n cs ≤ bound neg) × Ends tb around (Int (int_of neg (number n cs))) (after_number cs) x
Completes tb (Await sign next) cs x = (is_sign sign sign ≡ true) × (rest : List Character) × (skip cs ≡ sign ∷ rest) × Completes tb next rest x
Completes tb (Over vs) cs x = AllBlank cs × (vs ≡ x)
Completes tb (Past n vs) cs x = (length cs ≡ n) × (vs ≡ x)

pub join-assoc : (xs ys zs : Values) → join (join xs ys) zs ≡ join xs (join ys zs)
join-assoc End ys zs = refl
join-assoc (More x xs) ys zs = ap (More x) (join-assoc xs ys zs)

-- after a value
last_line : (tb : Table) (done : Values) (v : Value) (vs : Values) (cs : List Character) (x : Values) → LinesText tb [] cs vs → join done (More v vs) ≡ x → Completes tb (Over (snoc done v)) cs x
last_line tb done v End cs x h e = (h, e)
last_line tb done v (More w vs) cs x h e = absurd h

next_line : (tb : Table) (done : Values) (v : Value) (k : ℕ) (ks : List ℕ) (vs : Values) (cs : List Character) (x : Values) → LinesText tb (k ∷ ks) cs vs → join done (More v vs) ≡ x → Completes tb (Await Line (Want k (Lines (snoc done v) ks))) cs x
next_line tb done v k ks End cs x h e = absurd h
next_line tb done v k ks (More w vs) cs x h e = (refl, h.0, h.2, (w, h.1, h.3, (vs, h.4, join-assoc done (More v End) (More w vs) ∙ e)))

last_field : (tb : Table) (c : ℕ) (done : Values) (around : Around) (v : Value) (vs : Values) (cs after : List Character) (x : Values) → MoreText tb [] cs vs after → Ends tb around (Node c (join done (More v vs))) after x → (Ends tb around (Node c (snoc done v)) after x → Completes tb (filled around (Node c (snoc done v))) after x) → Completes tb (Await Close (filled around (Node c (snoc done v)))) cs x
last_field tb c done around v End cs after x h e f = (refl, after, h, f e)
last_field tb c done around v (More w vs) cs after x h e f = absurd h

next_field : (tb : Table) (c : ℕ) (done : Values) (around : Around) (v : Value) (k : ℕ) (ks : List ℕ) (vs : Values) (cs after : List Character) (x : Values) → MoreText tb (k ∷ ks) cs vs after → Ends tb around (Node c (join done (More v vs))) after x → Completes tb (Await Comma (Want k (Field c (snoc done v) ks around))) cs x
next_field tb c done around v k ks End cs after x h e = absurd h
next_field tb c done around v k ks (More w vs) cs after x h e = (refl, h.0, h.2, (w, h.1, h.3, (vs, after, h.4, subst (λ l. Ends tb around (Node c l) after x) (sym (join-assoc done (More v End) (More w vs))) e)))

pub filled_takes : (tb : Table) (around : Around) (v : Value) (cs : List Character) (x : Values) → Ends tb around v cs x → Completes tb (filled around v) cs x
filled_takes tb (Alone n) v cs x h = h
filled_takes tb (Lines done []) v cs x h = last_line tb done v h.0 cs x h.1 h.2
filled_takes tb (Lines done (k ∷ ks)) v cs x h = next_line tb done v k ks h.0 cs x h.1 h.2
filled_takes tb (Field c done [] around) v cs x h = last_field tb c done around v h.0 cs h.1 x h.2 h.3 (filled_takes tb around (Node c (snoc done v)) h.1 x)
filled_takes tb (Field c done (k ∷ ks) around) v cs x h = next_field tb c done around v k ks h.0 cs h.1 x h.2 h.3

pub filled_gives : (tb : Table) (around : Around) (v : Value) (cs : List Character) (x : Values) → Completes tb (filled around v) cs x → Ends tb around v cs x
filled_gives tb (Alone n) v cs x h = h
filled_gives tb (Lines done []) v cs x h = (End, h.0, h.1)
filled_gives tb (Lines done (k ∷ ks)) v cs x h =
    let w = h.3 in
    let l = w.3 in
    (More w.0 l.0, (h.1, w.1, h.2, w.2, l.1), sym (join-assoc done (More v End) (More w.0 l.0)) ∙ l.2)
filled_gives tb (Field c done [] around) v cs x h = (End, h.1, h.2, filled_gives tb around (Node c (snoc done v)) h.1 x h.3)
filled_gives tb (Field c done (k ∷ ks) around) v cs x h =
    let w = h.3 in
    let l = w.3 in
    (More w.0 l.0, l.1, (h.1, w.1, h.2, w.2, l.2), subst (λ vs. Ends tb around (Node c vs) l.1 x) (join-assoc done (More v End) (More w.0 l.0)) l.3)

-- after a constructor's name
pub named_takes : (tb : Table) (c : ℕ) (fields : List ℕ) (around : Around) (vs : Values) (cs rest : List Character) (x : Values) → FieldsText tb fields cs vs rest → Ends tb around (Node c vs) rest x → Completes tb (named c fields around) cs x
named_takes tb c [] around End cs rest x h e = filled_takes tb around (Node c End) cs x (subst (λ r. Ends tb around (Node c End) r x) (sym h) e)
named_takes tb c [] around (More v vs) cs rest x h e = absurd h
named_takes tb c (k ∷ ks) around End cs rest x h e = absurd h
named_takes tb c (k ∷ ks) around (More v vs) cs rest x h e = (refl, h.0, h.2, (v, h.1, h.3, (vs, rest, h.4, e)))

pub named_gives : (tb : Table) (c : ℕ) (fields : List ℕ) (around : Around) (cs : List Character) (x : Values) → Completes tb (named c fields around) cs x → (vs : Values) × (rest : List Character) × FieldsText tb fields cs vs rest × Ends tb around (Node c vs) rest x
named_gives tb c [] around cs x h = (End, cs, refl, filled_gives tb around (Node c End) cs x h)
named_gives tb c (k ∷ ks) around cs x h =
    let w = h.3 in
    let l = w.3 in
    (More w.0 l.0, l.1, (h.1, w.1, h.2, w.2, l.2), l.3)

-- states after a whole token
abbrev pub IsPass : State → Type 0
IsPass (Await sign next) = Unit {0}
IsPass (Over vs) = Unit {0}
IsPass (Past n vs) = Unit {0}
IsPass _ = ⊥

pub filled_is_pass : (around : Around) (v : Value) → IsPass (filled around v)
filled_is_pass (Alone n) v = tt
filled_is_pass (Lines done []) v = tt
filled_is_pass (Lines done (k ∷ ks)) v = tt
filled_is_pass (Field c done [] around) v = tt
filled_is_pass (Field c done (k ∷ ks) around) v = tt

pub named_is_pass : (c : ℕ) (fields : List ℕ) (around : Around) → IsPass (named c fields around)
named_is_pass c [] around = filled_is_pass around (Node c End)
named_is_pass c (k ∷ ks) around = tt

abbrev pub Goes : Table → Option State → List Character → Values → Type 0
Goes tb o cs x = (s' : State) × (o ≡ Some s') × Completes tb s' cs x

await_takes : (tb : Table) (sign : Character) (next : State) (c : Character) (cs rest : List Character) (x : Values) → is_sign sign sign ≡ true → c ∷ cs ≡ sign ∷ rest → Completes tb next rest x → Goes tb (if is_sign sign c then Some next else None) cs x
await_takes tb sign next c cs rest x i e h =
    let same : sign ≡ c = cc in
    let tail : rest ≡ cs = cc in
    (next, guarded (is_sign sign c) next (subst (λ c. is_sign sign c ≡ true) same i), subst (λ r. Completes tb next r x) tail h)

pub pass_takes : (tb : Table) (s : State) (c : Character) (cs : List Character) (x : Values) → IsPass s → Completes tb s (c ∷ cs) x → Goes tb (pass s c) cs x
pass_takes tb (Await sign next) Blank cs x p h = (Await sign next, refl, h)
pass_takes tb (Await sign next) Line cs x p h = await_takes tb sign next Line cs h.1 x h.0 h.2 h.3
pass_takes tb (Await sign next) Open cs x p h = await_takes tb sign next Open cs h.1 x h.0 h.2 h.3
pass_takes tb (Await sign next) Close cs x p h = await_takes tb sign next Close cs h.1 x h.0 h.2 h.3
pass_takes tb (Await sign next) Comma cs x p h = await_takes tb sign next Comma cs h.1 x h.0 h.2 h.3
pass_takes tb (Await sign next) Minus cs x p h = await_takes tb sign next Minus cs h.1 x h.0 h.2 h.3
pass_takes tb (Await sign next) (Digit d) cs x p h = await_takes tb sign next (Digit d) cs h.1 x h.0 h.2 h.3
pass_takes tb (Await sign next) (Letter b) cs x p h = await_takes tb sign next (Letter b) cs h.1 x h.0 h.2 h.3
pass_takes tb (Await sign next) Other cs x p h = await_takes tb sign next Other cs h.1 x h.0 h.2 h.3
pass_takes tb (Over vs) Blank cs x p h = (Over vs, refl, h)
pass_takes tb (Over vs) Line cs x p h = (Over vs, refl, h)
pass_takes tb (Over vs) _ cs x p h = absurd h.0
pass_takes tb (Past zero vs) c cs x p h = let e = h.0 in absurd (omega (arith, e))
pass_takes tb (Past (suc n) vs) c cs x p h = let e = h.0 in (Past n vs, refl, (omega (arith, e), h.1))
pass_takes tb (Want k around) c cs x p h = absurd p
pass_takes tb (Naming t front around) c cs x p h = absurd p
pass_takes tb (Signed around) c cs x p h = absurd p
pass_takes tb (Number neg n around) c cs x p h = absurd p

await_gives : (tb : Table) (sign : Character) (next : State) (c : Character) (s' : State) (cs : List Character) (x : Values) → (if is_sign sign c then Some next else None) ≡ Some s' → Completes tb s' cs x → skip (c ∷ cs) ≡ c ∷ cs → Completes tb (Await sign next) (c ∷ cs) x
await_gives tb sign next c s' cs x e h k =
    let g = cond_some (is_sign sign c) next s' e in
    let same = is_sign_same sign c g.0 in
    (subst (λ c. is_sign sign c ≡ true) same g.0, cs, k ∙ ap (λ c. c ∷ cs) same, subst (λ s. Completes tb s cs x) (sym g.1) h)

pub pass_gives : (tb : Table) (s : State) (c : Character) (s' : State) (cs : List Character) (x : Values) → pass s c ≡ Some s' → Completes tb s' cs x → Completes tb s (c ∷ cs) x
pass_gives tb (Await sign next) Blank s' cs x e h = subst (λ s. Completes tb s cs x) (sym (same_Some (Await sign next) s' e)) h
pass_gives tb (Await sign next) Line s' cs x e h = await_gives tb sign next Line s' cs x e h refl
pass_gives tb (Await sign next) Open s' cs x e h = await_gives tb sign next Open s' cs x e h refl
pass_gives tb (Await sign next) Close s' cs x e h = await_gives tb sign next Close s' cs x e h refl
pass_gives tb (Await sign next) Comma s' cs x e h = await_gives tb sign next Comma s' cs x e h refl
pass_gives tb (Await sign next) Minus s' cs x e h = await_gives tb sign next Minus s' cs x e h refl
pass_gives tb (Await sign next) (Digit d) s' cs x e h = await_gives tb sign next (Digit d) s' cs x e h refl
pass_gives tb (Await sign next) (Letter b) s' cs x e h = await_gives tb sign next (Letter b) s' cs x e h refl
pass_gives tb (Await sign next) Other s' cs x e h = await_gives tb sign next Other s' cs x e h refl
pass_gives tb (Over vs) Blank s' cs x e h = subst (λ s. Completes tb s cs x) (sym (same_Some (Over vs) s' e)) h
pass_gives tb (Over vs) Line s' cs x e h = subst (λ s. Completes tb s cs x) (sym (same_Some (Over vs) s' e)) h
pass_gives tb (Over vs) _ s' cs x e h = cc
pass_gives tb (Past zero vs) c s' cs x e h = cc
pass_gives tb (Past (suc n) vs) c s' cs x e h = let k = subst (λ s. Completes tb s cs x) (sym (same_Some (Past n vs) s' e)) h in (ap suc k.0, k.1)
pass_gives tb (Want k around) c s' cs x e h = cc
pass_gives tb (Naming t front around) c s' cs x e h = cc
pass_gives tb (Signed around) c s' cs x e h = cc
pass_gives tb (Number neg n around) c s' cs x e h = cc

-- names
name_takes : (tb : Table) (t : ℕ) (front : List Character) (around : Around) (c : Character) (cs : List Character) (x : Values) → name_of (c ∷ cs) ≡ c ∷ name_of cs → after_name (c ∷ cs) ≡ after_name cs → Completes tb (Naming t front around) (c ∷ cs) x → Goes tb (naming tb t (front ++ c ∷ []) around) cs x
name_takes tb t front around c cs x en ea h =
    let e : lookup 0 (front ++ c ∷ name_of cs) (shapes tb t) ≡ Some (h.0, h.1) = ap (λ n. lookup 0 (front ++ n) (shapes tb t)) (sym en) ∙ h.4 in
    let e2 : lookup 0 ((front ++ c ∷ []) ++ name_of cs) (shapes tb t) ≡ Some (h.0, h.1) = ap (λ n. lookup 0 n (shapes tb t)) (append_assoc front (c ∷ []) (name_of cs)) ∙ e in
    let ok = lookup_begins (front ++ c ∷ []) (name_of cs) (shapes tb t) (h.0, h.1) 0 e2 in
    (Naming t (front ++ c ∷ []) around, guarded (any_begins (front ++ c ∷ []) (shapes tb t)) (Naming t (front ++ c ∷ []) around) ok, (h.0, h.1, h.2, h.3, e2, subst (λ a. FieldsText tb h.1 a h.2 h.3) ea h.5, h.6))

name_done : (tb : Table) (t : ℕ) (front : List Character) (around : Around) (c : Character) (cs : List Character) (x : Values) → name_of (c ∷ cs) ≡ [] → after_name (c ∷ cs) ≡ c ∷ cs → Completes tb (Naming t front around) (c ∷ cs) x → Goes tb (pass_named (lookup 0 front (shapes tb t)) around c) cs x
name_done tb t front around c cs x en ea h =
    let e : lookup 0 front (shapes tb t) ≡ Some (h.0, h.1) = ap (λ n. lookup 0 n (shapes tb t)) (sym (ap (λ n. front ++ n) en ∙ append-nil front)) ∙ h.4 in
    let p = pass_takes tb (named h.0 h.1 around) c cs x (named_is_pass h.0 h.1 around) (named_takes tb h.0 h.1 around h.2 (c ∷ cs) h.3 x (subst (λ a. FieldsText tb h.1 a h.2 h.3) ea h.5) h.6) in
    (p.0, ap (λ o. pass_named o around c) e ∙ p.1, p.2)

pub in_name_takes : (tb : Table) (t : ℕ) (front : List Character) (around : Around) (c : Character) (cs : List Character) (x : Values) → Completes tb (Naming t front around) (c ∷ cs) x → Goes tb (in_name tb t front around c) cs x
in_name_takes tb t front around (Digit d) cs x h = name_takes tb t front around (Digit d) cs x refl refl h
in_name_takes tb t front around (Letter b) cs x h = name_takes tb t front around (Letter b) cs x refl refl h
in_name_takes tb t front around Blank cs x h = name_done tb t front around Blank cs x refl refl h
in_name_takes tb t front around Line cs x h = name_done tb t front around Line cs x refl refl h
in_name_takes tb t front around Open cs x h = name_done tb t front around Open cs x refl refl h
in_name_takes tb t front around Close cs x h = name_done tb t front around Close cs x refl refl h
in_name_takes tb t front around Comma cs x h = name_done tb t front around Comma cs x refl refl h
in_name_takes tb t front around Minus cs x h = name_done tb t front around Minus cs x refl refl h
in_name_takes tb t front around Other cs x h = name_done tb t front around Other cs x refl refl h

name_gives : (tb : Table) (t : ℕ) (front : List Character) (around : Around) (c : Character) (s' : State) (cs : List Character) (x : Values) → name_of (c ∷ cs) ≡ c ∷ name_of cs → after_name (c ∷ cs) ≡ after_name cs → naming tb t (front ++ c ∷ []) around ≡ Some s' → Completes tb s' cs x → Completes tb (Naming t front around) (c ∷ cs) x
name_gives tb t front around c s' cs x en ea e k =
    let g = cond_some (any_begins (front ++ c ∷ []) (shapes tb t)) (Naming t (front ++ c ∷ []) around) s' e in
    let h = subst (λ s. Completes tb s cs x) (sym g.1) k in
    (h.0, h.1, h.2, h.3, ap (λ n. lookup 0 n (shapes tb t)) (ap (λ n. front ++ n) en ∙ sym (append_assoc front (c ∷ []) (name_of cs))) ∙ h.4, subst (λ a. FieldsText tb h.1 a h.2 h.3) (sym ea) h.5, h.6)

done_gives : (tb : Table) (t : ℕ) (front : List Character) (around : Around) (c : Character) (s' : State) (cs : List Character) (x : Values) → name_of (c ∷ cs) ≡ [] → after_name (c ∷ cs) ≡ c ∷ cs → (o : Option (ℕ × List ℕ)) → lookup 0 front (shapes tb t) ≡ o → pass_named o around c ≡ Some s' → Completes tb s' cs x → Completes tb (Naming t front around) (c ∷ cs) x
done_gives tb t front around c s' cs x en ea None e h k = cc
done_gives tb t front around c s' cs x en ea (Some r) e h k =
    let g = named_gives tb r.0 r.1 around (c ∷ cs) x (pass_gives tb (named r.0 r.1 around) c s' cs x h k) in
    (r.0, r.1, g.0, g.1, ap (λ n. lookup 0 n (shapes tb t)) (ap (λ n. front ++ n) en ∙ append-nil front) ∙ e, subst (λ a. FieldsText tb r.1 a g.0 g.1) (sym ea) g.2, g.3)

name_over : (tb : Table) (t : ℕ) (front : List Character) (around : Around) (c : Character) (s' : State) (cs : List Character) (x : Values) → name_of (c ∷ cs) ≡ [] → after_name (c ∷ cs) ≡ c ∷ cs → pass_named (lookup 0 front (shapes tb t)) around c ≡ Some s' → Completes tb s' cs x → Completes tb (Naming t front around) (c ∷ cs) x
name_over tb t front around c s' cs x en ea h k = done_gives tb t front around c s' cs x en ea (lookup 0 front (shapes tb t)) refl h k

pub in_name_gives : (tb : Table) (t : ℕ) (front : List Character) (around : Around) (c : Character) (s' : State) (cs : List Character) (x : Values) → in_name tb t front around c ≡ Some s' → Completes tb s' cs x → Completes tb (Naming t front around) (c ∷ cs) x
in_name_gives tb t front around (Digit d) s' cs x e h = name_gives tb t front around (Digit d) s' cs x refl refl e h
in_name_gives tb t front around (Letter b) s' cs x e h = name_gives tb t front around (Letter b) s' cs x refl refl e h
in_name_gives tb t front around Blank s' cs x e h = name_over tb t front around Blank s' cs x refl refl e h
in_name_gives tb t front around Line s' cs x e h = name_over tb t front around Line s' cs x refl refl e h
in_name_gives tb t front around Open s' cs x e h = name_over tb t front around Open s' cs x refl refl e h
in_name_gives tb t front around Close s' cs x e h = name_over tb t front around Close s' cs x refl refl e h
in_name_gives tb t front around Comma s' cs x e h = name_over tb t front around Comma s' cs x refl refl e h
in_name_gives tb t front around Minus s' cs x e h = name_over tb t front around Minus s' cs x refl refl e h
in_name_gives tb t front around Other s' cs x e h = name_over tb t front around Other s' cs x refl refl e h

-- numbers
numbered_takes : (tb : Table) (neg : Bool) (n : ℕ) (around : Around) (cs : List Character) (x : Values) → Completes tb (Number neg n around) cs x → Goes tb (numbered neg n around) cs x
numbered_takes tb neg n around cs x h = (Number neg n around, guarded (nat_le n (bound neg)) (Number neg n around) (le-leb n (bound neg) (omega (arith, number_grows n cs, h.0))), h)

numbered_gives : (tb : Table) (neg : Bool) (n : ℕ) (around : Around) (s' : State) (cs : List Character) (x : Values) → numbered neg n around ≡ Some s' → Completes tb s' cs x → Completes tb (Number neg n around) cs x
numbered_gives tb neg n around s' cs x e h = subst (λ s. Completes tb s cs x) (sym (cond_some (nat_le n (bound neg)) (Number neg n around) s' e).1) h

digits_takes : (tb : Table) (neg : Bool) (d : ℕ) (around : Around) (i : _) (rest cs : List Character) (x : Values) → Digits neg (Digit d ∷ cs) i rest → Ends tb around (Int i) rest x → Goes tb (numbered neg d around) cs x
digits_takes tb neg d around i rest cs x h e =
    numbered_takes tb neg d around cs x (h.0, subst (λ r. Ends tb around (Int (int_of neg (number d cs))) r x) h.2 (subst (λ i. Ends tb around (Int i) rest x) h.1 e))

number_done : (tb : Table) (neg : Bool) (n : ℕ) (around : Around) (c : Character) (cs : List Character) (x : Values) → Ends tb around (Int (int_of neg n)) (c ∷ cs) x → Goes tb (pass (filled around (Int (int_of neg n))) c) cs x
number_done tb neg n around c cs x h = pass_takes tb (filled around (Int (int_of neg n))) c cs x (filled_is_pass around (Int (int_of neg n))) (filled_takes tb around (Int (int_of neg n)) (c ∷ cs) x h)

number_over : (tb : Table) (neg : Bool) (n : ℕ) (around : Around) (c : Character) (s' : State) (cs : List Character) (x : Values) → pass (filled around (Int (int_of neg n))) c ≡ Some s' → Completes tb s' cs x → Ends tb around (Int (int_of neg n)) (c ∷ cs) x
number_over tb neg n around c s' cs x e h = filled_gives tb around (Int (int_of neg n)) (c ∷ cs) x (pass_gives tb (filled around (Int (int_of neg n))) c s' cs x e h)

want_int : (tb : Table) (around : Around) (v : Value) (after : List Character) (c : Character) (cs : List Character) (x : Values) → ValueText tb zero (c ∷ cs) v after → Ends tb around v after x → Goes tb (act tb (Want zero around) c) cs x
want_int tb around (Node k vs) after c cs x h e = absurd h
want_int tb around (Int i) after Blank cs x h e = (Want zero around, refl, (Int i, after, h, e))
want_int tb around (Int i) after Minus cs x h e = (Signed around, refl, (i, after, h, e))
want_int tb around (Int i) after (Digit d) cs x h e = digits_takes tb false d around i after cs x h e
want_int tb around (Int i) after _ cs x h e = absurd h

want_node : (tb : Table) → IsTable tb → (t : ℕ) (around : Around) (v : Value) (after : List Character) (c : Character) (cs : List Character) (x : Values) → skip (c ∷ cs) ≡ c ∷ cs → ValueText tb (suc t) (c ∷ cs) v after → Ends tb around v after x → Completes tb (Naming t [] around) (c ∷ cs) x
want_node tb table t around (Int i) after c cs x k h e = absurd h
want_node tb table t around (Node n vs) after c cs x k h e =
    let name = subst (λ s. name_of s ≡ characters (h.0).name) k h.2 in
    (n, (h.0).fields, vs, after, ap (λ m. lookup 0 m (shapes tb t)) name ∙ table.unique t n h.0 h.1, subst (λ s. FieldsText tb (h.0).fields (after_name s) vs after) k h.3, e)

want_name : (tb : Table) → IsTable tb → (t : ℕ) (around : Around) (c : Character) (cs : List Character) (x : Values) → skip (c ∷ cs) ≡ c ∷ cs → Completes tb (Want (suc t) around) (c ∷ cs) x → Goes tb (in_name tb t [] around c) cs x
want_name tb table t around c cs x k h = in_name_takes tb t [] around c cs x (want_node tb table t around h.0 h.1 c cs x k h.2 h.3)

-- the text of a name that is found, and of its fields
pub node_text : (tb : Table) (t c : ℕ) (fields : List ℕ) (cs : List Character) (vs : Values) (rest : List Character) → lookup 0 (name_of cs) (shapes tb t) ≡ Some (c, fields) → FieldsText tb fields (after_name cs) vs rest → (s : Shape) × (slice_get (shapes tb t) c ≡ Some s) × (name_of cs ≡ characters s.name) × FieldsText tb s.fields (after_name cs) vs rest
node_text tb t c fields cs vs rest e h =
    let f = found_shape (name_of cs) (shapes tb t) 0 (c, fields) e in
    let n : f.c ≡ c = let z = f.number in omega arith in
    (f.s, subst (λ n. slice_get (shapes tb t) n ≡ Some f.s) n f.there, f.same, subst (λ ks. FieldsText tb ks (after_name cs) vs rest) (sym f.fields) h)

node_skips : (tb : Table) (t : ℕ) (cs : List Character) (c : ℕ) (vs : Values) (rest : List Character) → skip cs ≡ cs → (s : Shape) × (slice_get (shapes tb t) c ≡ Some s) × (name_of cs ≡ characters s.name) × FieldsText tb s.fields (after_name cs) vs rest → ValueText tb (suc t) cs (Node c vs) rest
node_skips tb t cs c vs rest k h = (h.0, h.1, subst (λ z. name_of z ≡ characters (h.0).name) (sym k) h.2, subst (λ z. FieldsText tb (h.0).fields (after_name z) vs rest) (sym k) h.3)

name_want : (tb : Table) (t : ℕ) (around : Around) (c : Character) (s' : State) (cs : List Character) (x : Values) → skip (c ∷ cs) ≡ c ∷ cs → in_name tb t [] around c ≡ Some s' → Completes tb s' cs x → Completes tb (Want (suc t) around) (c ∷ cs) x
name_want tb t around c s' cs x k e g =
    let h = in_name_gives tb t [] around c s' cs x e g in
    let v = node_text tb t h.0 h.1 (c ∷ cs) h.2 h.3 h.4 h.5 in
    (Node h.0 h.2, h.3, node_skips tb t (c ∷ cs) h.0 h.2 h.3 k v, h.6)

blank_value : (tb : Table) (k : ℕ) (cs : List Character) (v : Value) (after : List Character) → ValueText tb k (Blank ∷ cs) v after → ValueText tb k cs v after
blank_value tb zero cs (Int i) after h = h
blank_value tb zero cs (Node c vs) after h = h
blank_value tb (suc t) cs (Int i) after h = h
blank_value tb (suc t) cs (Node c vs) after h = h

pub value_blank : (tb : Table) (k : ℕ) (cs : List Character) (v : Value) (after : List Character) → ValueText tb k cs v after → ValueText tb k (Blank ∷ cs) v after
value_blank tb zero cs (Int i) after h = h
value_blank tb zero cs (Node c vs) after h = h
value_blank tb (suc t) cs (Int i) after h = h
value_blank tb (suc t) cs (Node c vs) after h = h

signed_takes : (tb : Table) (around : Around) (i : _) (rest : List Character) (c : Character) (cs : List Character) (x : Values) → Digits true (c ∷ cs) i rest → Ends tb around (Int i) rest x → Goes tb (act tb (Signed around) c) cs x
signed_takes tb around i rest (Digit d) cs x h e = digits_takes tb true d around i rest cs x h e
signed_takes tb around i rest _ cs x h e = absurd h

number_takes : (tb : Table) (neg : Bool) (n : ℕ) (around : Around) (c : Character) (cs : List Character) (x : Values) → Completes tb (Number neg n around) (c ∷ cs) x → Goes tb (act tb (Number neg n around) c) cs x
number_takes tb neg n around (Digit d) cs x h = numbered_takes tb neg (10 * n + d) around cs x h
number_takes tb neg n around Blank cs x h = number_done tb neg n around Blank cs x h.1
number_takes tb neg n around Line cs x h = number_done tb neg n around Line cs x h.1
number_takes tb neg n around Open cs x h = number_done tb neg n around Open cs x h.1
number_takes tb neg n around Close cs x h = number_done tb neg n around Close cs x h.1
number_takes tb neg n around Comma cs x h = number_done tb neg n around Comma cs x h.1
number_takes tb neg n around Minus cs x h = number_done tb neg n around Minus cs x h.1
number_takes tb neg n around (Letter b) cs x h = number_done tb neg n around (Letter b) cs x h.1
number_takes tb neg n around Other cs x h = number_done tb neg n around Other cs x h.1

want_takes : (tb : Table) → IsTable tb → (t : ℕ) (around : Around) (c : Character) (cs : List Character) (x : Values) → Completes tb (Want (suc t) around) (c ∷ cs) x → Goes tb (act tb (Want (suc t) around) c) cs x
want_takes tb table t around Blank cs x h = (Want (suc t) around, refl, (h.0, h.1, blank_value tb (suc t) cs h.0 h.1 h.2, h.3))
want_takes tb table t around Line cs x h = want_name tb table t around Line cs x refl h
want_takes tb table t around Open cs x h = want_name tb table t around Open cs x refl h
want_takes tb table t around Close cs x h = want_name tb table t around Close cs x refl h
want_takes tb table t around Comma cs x h = want_name tb table t around Comma cs x refl h
want_takes tb table t around Minus cs x h = want_name tb table t around Minus cs x refl h
want_takes tb table t around (Digit d) cs x h = want_name tb table t around (Digit d) cs x refl h
want_takes tb table t around (Letter b) cs x h = want_name tb table t around (Letter b) cs x refl h
want_takes tb table t around Other cs x h = want_name tb table t around Other cs x refl h

-- what completes a state begins with a byte that the machine takes
pub takes : (tb : Table) → IsTable tb → (s : State) (c : Character) (cs : List Character) (x : Values) → Completes tb s (c ∷ cs) x → Goes tb (act tb s c) cs x
takes tb table (Want zero around) c cs x h = want_int tb around h.0 h.1 c cs x h.2 h.3
takes tb table (Want (suc t) around) c cs x h = want_takes tb table t around c cs x h
takes tb table (Naming t front around) c cs x h = in_name_takes tb t front around c cs x h
takes tb table (Signed around) c cs x h = signed_takes tb around h.0 h.1 c cs x h.2 h.3
takes tb table (Number neg n around) c cs x h = number_takes tb neg n around c cs x h
takes tb table (Await sign next) c cs x h = pass_takes tb (Await sign next) c cs x tt h
takes tb table (Over vs) c cs x h = pass_takes tb (Over vs) c cs x tt h
takes tb table (Past n vs) c cs x h = pass_takes tb (Past n vs) c cs x tt h

want_gives : (tb : Table) (t : ℕ) (around : Around) (c : Character) (s' : State) (cs : List Character) (x : Values) → act tb (Want (suc t) around) c ≡ Some s' → Completes tb s' cs x → Completes tb (Want (suc t) around) (c ∷ cs) x
want_gives tb t around Blank s' cs x e k =
    let h = subst (λ s. Completes tb s cs x) (sym (same_Some (Want (suc t) around) s' e)) k in
    (h.0, h.1, value_blank tb (suc t) cs h.0 h.1 h.2, h.3)
want_gives tb t around Line s' cs x e h = name_want tb t around Line s' cs x refl e h
want_gives tb t around Open s' cs x e h = name_want tb t around Open s' cs x refl e h
want_gives tb t around Close s' cs x e h = name_want tb t around Close s' cs x refl e h
want_gives tb t around Comma s' cs x e h = name_want tb t around Comma s' cs x refl e h
want_gives tb t around Minus s' cs x e h = name_want tb t around Minus s' cs x refl e h
want_gives tb t around (Digit d) s' cs x e h = name_want tb t around (Digit d) s' cs x refl e h
want_gives tb t around (Letter b) s' cs x e h = name_want tb t around (Letter b) s' cs x refl e h
want_gives tb t around Other s' cs x e h = name_want tb t around Other s' cs x refl e h

int_gives : (tb : Table) (around : Around) (c : Character) (s' : State) (cs : List Character) (x : Values) → act tb (Want zero around) c ≡ Some s' → Completes tb s' cs x → Completes tb (Want zero around) (c ∷ cs) x
int_gives tb around Blank s' cs x e k =
    let h = subst (λ s. Completes tb s cs x) (sym (same_Some (Want zero around) s' e)) k in
    (h.0, h.1, value_blank tb zero cs h.0 h.1 h.2, h.3)
int_gives tb around Minus s' cs x e k =
    let h = subst (λ s. Completes tb s cs x) (sym (same_Some (Signed around) s' e)) k in
    (Int h.0, h.1, h.2, h.3)
int_gives tb around (Digit d) s' cs x e k =
    let h = numbered_gives tb false d around s' cs x e k in
    (Int (int_of false (number d cs)), after_number cs, (h.0, refl, refl), h.1)
int_gives tb around _ s' cs x e k = cc

signed_gives : (tb : Table) (around : Around) (c : Character) (s' : State) (cs : List Character) (x : Values) → act tb (Signed around) c ≡ Some s' → Completes tb s' cs x → Completes tb (Signed around) (c ∷ cs) x
signed_gives tb around (Digit d) s' cs x e k =
    let h = numbered_gives tb true d around s' cs x e k in
    (int_of true (number d cs), after_number cs, (h.0, refl, refl), h.1)
signed_gives tb around _ s' cs x e k = cc

number_gives : (tb : Table) (neg : Bool) (n : ℕ) (around : Around) (c : Character) (s' : State) (cs : List Character) (x : Values) → n ≤ bound neg → act tb (Number neg n around) c ≡ Some s' → Completes tb s' cs x → Completes tb (Number neg n around) (c ∷ cs) x
number_gives tb neg n around (Digit d) s' cs x le e h = numbered_gives tb neg (10 * n + d) around s' cs x e h
number_gives tb neg n around Blank s' cs x le e h = (le, number_over tb neg n around Blank s' cs x e h)
number_gives tb neg n around Line s' cs x le e h = (le, number_over tb neg n around Line s' cs x e h)
number_gives tb neg n around Open s' cs x le e h = (le, number_over tb neg n around Open s' cs x e h)
number_gives tb neg n around Close s' cs x le e h = (le, number_over tb neg n around Close s' cs x e h)
number_gives tb neg n around Comma s' cs x le e h = (le, number_over tb neg n around Comma s' cs x e h)
number_gives tb neg n around Minus s' cs x le e h = (le, number_over tb neg n around Minus s' cs x e h)
number_gives tb neg n around (Letter b) s' cs x le e h = (le, number_over tb neg n around (Letter b) s' cs x e h)
number_gives tb neg n around Other s' cs x le e h = (le, number_over tb neg n around Other s' cs x e h)

-- a number so far is in its range
abbrev pub InBound : State → Type 0
InBound (Number neg n around) = n ≤ bound neg
InBound _ = Unit {0}

-- a byte that the machine takes may come
pub gives : (tb : Table) (s : State) (c : Character) (s' : State) (cs : List Character) (x : Values) → InBound s → act tb s c ≡ Some s' → Completes tb s' cs x → Completes tb s (c ∷ cs) x
gives tb (Want zero around) c s' cs x b e h = int_gives tb around c s' cs x e h
gives tb (Want (suc t) around) c s' cs x b e h = want_gives tb t around c s' cs x e h
gives tb (Naming t front around) c s' cs x b e h = in_name_gives tb t front around c s' cs x e h
gives tb (Signed around) c s' cs x b e h = signed_gives tb around c s' cs x e h
gives tb (Number neg n around) c s' cs x b e h = number_gives tb neg n around c s' cs x b e h
gives tb (Await sign next) c s' cs x b e h = pass_gives tb (Await sign next) c s' cs x e h
gives tb (Over vs) c s' cs x b e h = pass_gives tb (Over vs) c s' cs x e h
gives tb (Past n vs) c s' cs x b e h = pass_gives tb (Past n vs) c s' cs x e h
