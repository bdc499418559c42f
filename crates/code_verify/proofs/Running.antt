-- A run can rely on a sound code: on every way through each function its numbers are in range, and the stack numbers
-- cover what is called. An instruction that is reached goes on only to instructions that are reached.
use Rattle.std.proofs.Common.{◌≡◌, ◌≢◌, ◌⊎◌, inl, inr, ℕ, zero, suc, ◌+◌, ◌<◌, ◌≤◌, Bool, true, false, ◌&&◌, List, [], ◌∷◌, length, map, Option, Some, None, slice_get, option_map, option_and_then, is_some, if◌then◌else◌, ◌==◌, refl, sym, ap, ◌∙◌, subst, true≢false, arith}
use Rattle.std.specs.Prelude.{nat_lt, ◌||◌, not}
use Rattle.std.proofs.lemmas.Bool.{false≢true, and_parts, and_from, ltb-true, eqb-true, eqb-false, true_from_ne_false, cases_lt}
use Rattle.std.proofs.lemmas.Option.{same_Some, none-some, slice_get_within, slice_get-map}
use Rattle.std.proofs.lemmas.List.Elements.{All-nil, All-cons}
use Rattle.fip_language.specs.Table.{Table, Shape, constructors, shapes}
use Rattle.fip_base.specs.declared.plain.Stack.{Stack}
use Rattle.call_groups.specs.Stacks.{charge}
use Rattle.cell_code.specs.declared.code.Code.{Code}
use Rattle.cell_code.specs.declared.code.Function.{Function}
use Rattle.cell_code.specs.declared.code.Instr.{Instr}
use Rattle.cell_code.specs.declared.code.Instr.TheVariants as I
use Rattle.cell_code.specs.declared.kind.Kind.{Kind}
use Rattle.cell_code.specs.declared.kind.Kind.TheVariants.{Gone, Scalar, Owned, Lent, Credit}
use Rattle.cell_code.specs.Runnable.{body_of, AreBelow, AreOthers, CanCall, Covers, Row, Follows, IsFunction, IsRunnable}
use Rattle.code_rules.specs.declared.rule.SoundRule.TheVariants.{S1, S2, S3, S4, S9}
use Rattle.code_rules.specs.Limits.{most_fields}
use Rattle.code_rules.specs.Types.{fields, fields_of, count}
use Rattle.cell_code.specs.Plain.{PlainFunction, PlainCode, plain_function, plain, function_at, results}
use Rattle.code_rules.specs.Codes.{params, credits, params_of, credits_of, label_at, is_fip}
use Rattle.code_rules.specs.Kinds.{at, has}
use Rattle.code_rules.specs.Tables.{AreSoundTables}
use Rattle.code_rules.specs.Headers.{is_formed}
use Rattle.code_rules.specs.Ranges.{are_below, is_target, in_range}
use Rattle.code_rules.specs.Handing.{give, give_all, arguments}
use Rattle.code_rules.specs.Asked.{only_fields, can_take, is_one, are_places, sources, destinations, tail_left, same_types}
use Rattle.code_rules.specs.Flow.{is_as_asked, IsInstr, Holds, Comes, KnownAt, IsReachedAt}
use Rattle.code_rules.specs.Entry.{entry}
use Rattle.code_rules.specs.Endings.{is_end}
use Rattle.code_rules.specs.Calls.{IsCall, Calls}
use Rattle.code_rules.specs.Breaks.{IsSound}
use Rattle.code_rules.specs.StackNumbers.{words_at, words_of, HasStack}
use Rattle.code_verify.specs.Checked.{stack_at, stack_or_none, HaveStacks}
use Rattle.code_verify.specs.Releasing.{AreShort}
use Rattle.code_verify.specs.Surveying.{Flows}
use Rattle.code_verify.proofs.Forms.{IsForm, form_of}
use Rattle.code_verify.proofs.StackNumbers.{fip_calls_fip}

-- ---- what no rule that is broken reports

pub record IsReachedSoundly (c : PlainCode) (n : ℕ) (f : PlainFunction) (i : ℕ) (ks : List Kind) (x : Instr) : Type 0 where
  pub known : KnownAt c f i ks
  pub instr : IsInstr f i x
  pub ranged : in_range c f i x ≡ true
  pub sources_are : sources c f ks x ≡ true
  pub destinations_are : destinations c ks x ≡ true
  pub last : suc i ≡ length f.instrs → is_end x ≡ true

sound_at : (c : PlainCode) → AreSoundTables c → IsSound c → (n : ℕ) (f : PlainFunction) → function_at c n ≡ Some f → is_formed c f ≡ true → (i : ℕ) (ks : List Kind) (x : Instr) → KnownAt c f i ks → IsInstr f i x → IsReachedSoundly c n f i ks x
sound_at c t sound n f is formed i ks x kn at = record {
  known = kn;
  instr = at;
  ranged = ranged;
  sources_are = true_from_ne_false (sources c f ks x) (λ e. sound n i S2 (inr (t, (f, is, inr (formed, record { kinds = ks; instr = x; reached = reached; ranged = ranged; breaks = e })))));
  destinations_are = true_from_ne_false (destinations c ks x) (λ e. sound n i S3 (inr (t, (f, is, inr (formed, record { kinds = ks; instr = x; reached = reached; ranged = ranged; breaks = e })))));
  last = λ s. true_from_ne_false (is_end x) (λ e. sound n i S4 (inr (t, (f, is, inr (formed, record { kinds = ks; instr = x; reached = reached; last = s; breaks = e })))));
}
  where
    reached : IsReachedAt c f i ks x
    reached = record { known = kn; instr = at }

    ranged : in_range c f i x ≡ true
    ranged = true_from_ne_false (in_range c f i x) (λ e. sound n i S1 (inr (t, (f, is, inr (formed, record { instr = x; is = at; breaks = e })))))

pub formed_at : (c : PlainCode) → AreSoundTables c → IsSound c → (n : ℕ) (f : PlainFunction) → function_at c n ≡ Some f → is_formed c f ≡ true
formed_at c t sound n f is = true_from_ne_false (is_formed c f) (λ e. sound n 0 S9 (inr (t, (f, is, inl (e, refl, refl)))))

-- ---- lists of registers

below_all : (n : ℕ) (rs : List ℕ) → are_below n rs ≡ true → AreBelow n rs
below_all n [] e = All-nil (λ r. r < n)
below_all n (r ∷ rs) e = (let p = and_parts (nat_lt r n) (are_below n rs) e in All-cons (λ r. r < n) r rs (ltb-true r n p.0) (below_all n rs p.1))

others_all : (r : ℕ) (ds : List ℕ) → not (has ds r) ≡ true → AreOthers r ds
others_all r [] e = All-nil (λ d. d ≢ r)
others_all r (d ∷ ds) e = All-cons (λ d. d ≢ r) d ds (first (d == r) refl e) (others_all r ds (rest (d == r) e))
  where
    first : (b : Bool) → (d == r) ≡ b → not (b || has ds r) ≡ true → d ≢ r
    first true q h same = absurd (false≢true h)
    first false q h same = eqb-false d r q same

    rest : (b : Bool) → not (b || has ds r) ≡ true → not (has ds r) ≡ true
    rest true h = absurd (false≢true h)
    rest false h = h

shape_fields : (w : Table) → ((t : ℕ) → 0 < t → t ≤ length w → (k : ℕ) (s : Shape) → slice_get (constructors w t) k ≡ Some s → length s.fields ≤ most_fields) → (t k : ℕ) → length (fields w t k) ≤ most_fields
shape_fields w h t k = at (slice_get (constructors w t) k) refl
  where
    within : (u : ℕ) (s : Shape) → slice_get (constructors w u) k ≡ Some s → (0 < u) × (u ≤ length w)
    within zero s e = absurd (none-some s e)
    within (suc u) s e = (omega arith, inside w u s e)
      where
        inside : (v : Table) (u : ℕ) (s : Shape) → slice_get (shapes v u) k ≡ Some s → suc u ≤ length v
        inside [] u s e = absurd (none-some s e)
        inside (row ∷ v) zero s e = omega arith
        inside (row ∷ v) (suc u) s e = (let l = inside v u s e in omega (arith, l))

    at : (o : Option Shape) → slice_get (constructors w t) k ≡ o → length (fields_of o) ≤ most_fields
    at None e = omega arith
    at (Some s) e = (let p = within t s e in h t p.0 p.1 k s e)

few_fields : (c : PlainCode) → AreSoundTables c → (t k : ℕ) → length (fields c.types t k) ≤ most_fields
few_fields c t = shape_fields c.types (λ u low high k s e. ((t.types u low high).shapes k s e).few)

one_fields : (w : Table) (m : ℕ) → ((t k : ℕ) → length (fields w t k) ≤ m) → (t : ℕ) (s : List ℕ) → length (only_fields w t s) ≤ m
one_fields w m h t [] = omega arith
one_fields w m h t (k ∷ []) = h t k
one_fields w m h t (k ∷ l ∷ ks) = omega arith

taken_few : (w : Table) (m n : ℕ) → ((t k : ℕ) → length (fields w t k) ≤ m) → (k : Kind) → can_take w n k ≡ true → n ≤ m
taken_few w m n h Gone e = absurd (false≢true e)
taken_few w m n h (Scalar t) e = absurd (false≢true e)
taken_few w m n h (Owned t s) e =
    let p = and_parts (is_one s) (length (only_fields w t s) == n) e in
    let q = eqb-true (length (only_fields w t s)) n p.1 in
    let l = one_fields w m h t s in
    omega (arith, q, l)
taken_few w m n h (Lent t s root from) e = absurd (false≢true e)
taken_few w m n h (Credit k) e = absurd (false≢true e)

given_long : (ks : List Kind) (ss ts : List ℕ) → is_some (give_all ks ss ts) ≡ true → length ss ≡ length ts
given_long ks [] [] e = refl
given_long ks [] (t ∷ ts) e = absurd (false≢true e)
given_long ks (s ∷ ss) [] e = absurd (false≢true e)
given_long ks (s ∷ ss) (t ∷ ts) e = at (give ks s t) (λ left h. given_long left ss ts h) e
  where
    at : (o : Option (List Kind)) → ((left : List Kind) → is_some (give_all left ss ts) ≡ true → length ss ≡ length ts) → is_some (option_and_then (λ left. give_all left ss ts) o) ≡ true → suc (length ss) ≡ suc (length ts)
    at None g h = absurd (false≢true h)
    at (Some left) g h = ap suc (g left h)

handed_long : (c : PlainCode) (tail : Bool) (ks : List Kind) (g : ℕ) (rs : List ℕ) → is_some (arguments c tail ks g rs) ≡ true → length rs ≡ length (params c g) + length (credits c g)
handed_long c tail ks g rs e = at (length rs == length (params c g) + length (credits c g)) refl _ e
  where
    at : (b : Bool) → (length rs == length (params c g) + length (credits c g)) ≡ b → (o : Option (List Kind)) → is_some (if b then o else None) ≡ true → length rs ≡ length (params c g) + length (credits c g)
    at true h o q = eqb-true (length rs) (length (params c g) + length (credits c g)) h
    at false h o q = absurd (false≢true q)

tail_handed : (c : PlainCode) (f : PlainFunction) (ks : List Kind) (g : ℕ) (rs : List ℕ) → is_some (tail_left c f ks g rs) ≡ true → is_some (arguments c true ks g rs) ≡ true
tail_handed c f ks g rs e = at (same_types (results c g) f.results) (arguments c true ks g rs) e
  where
    at : (b : Bool) (o : Option (List Kind)) → is_some (if b then o else None) ≡ true → is_some o ≡ true
    at true o q = q
    at false o q = absurd (false≢true q)

-- ---- calls

callee : (fs : List Function) (g : ℕ) → g < length (map plain_function fs) → (h : Function) × (slice_get fs g ≡ Some h)
callee [] g l = absurd (omega (arith, l))
callee (h ∷ fs) zero l = (h, refl)
callee (h ∷ fs) (suc g) l = callee fs g (omega (arith, l))

can_call : (code : Code) → AreSoundTables (plain code) → IsSound (plain code) → (tail : Bool) (ks : List Kind) (g : ℕ) (rs : List ℕ) → g < length (plain code).functions → is_some (arguments (plain code) tail ks g rs) ≡ true → CanCall code.functions.items g (length rs)
can_call code t sound tail ks g rs l e = (h.0, h.1, room)
  where
    h : (h : Function) × (slice_get code.functions.items g ≡ Some h)
    h = callee code.functions.items g l

    is : function_at (plain code) g ≡ Some (plain_function h.0)
    is = slice_get-map plain_function code.functions.items g ∙ ap (option_map plain_function) h.1

    room : length rs ≤ h.0.registers
    room =
        let form : IsForm (plain code) (plain_function h.0) = form_of (plain code) (plain_function h.0) (formed_at (plain code) t sound g (plain_function h.0) is) in
        let long = handed_long (plain code) tail ks g rs e in
        let p : length (params (plain code) g) ≡ length h.0.params = ap (λ o. length (params_of o)) is in
        let q : length (credits (plain code) g) ≡ length h.0.credits.items = ap (λ o. length (credits_of o)) is in
        let r : length h.0.params + length h.0.credits.items ≤ h.0.registers = form.room in
        omega (arith, long, p, q, r)

stack_of : (ss : List (Option Stack)) (n : ℕ) (s : Stack) → slice_get ss n ≡ Some (Some s) → stack_at ss n ≡ Some s
stack_of ss n s e = ap stack_or_none e

pub of_stack : (ss : List (Option Stack)) (n : ℕ) (s : Stack) → stack_at ss n ≡ Some s → slice_get ss n ≡ Some (Some s)
of_stack [] n s e = absurd (none-some s e)
of_stack (o ∷ ss) zero s e = ap Some e
of_stack (o ∷ ss) (suc n) s e = of_stack ss n s e

-- a function's frame is covered by what it holds
frame_covered : (c : PlainCode) (n : ℕ) (f : PlainFunction) (s : Stack) → function_at c n ≡ Some f → HasStack c n (Some s) → f.registers + 2 ≤ s.words
frame_covered c n f s is h =
    let base = h.1.are_words.0.base_in n in
    let same : h.0.0 ≡ f = same_Some h.0.0 f (sym h.0.1 ∙ is) in
    let fip : is_fip f.kind ≡ true = ap (λ (g : PlainFunction). is_fip g.kind) (sym same) ∙ h.0.2 in
    let w : words_at c n ≡ f.registers + 2 = ap words_of is ∙ ap (λ b. if b then f.registers + 2 else 0) fip in
    let q : s.words ≡ h.1.words n = ap (λ (t : Stack). t.words) h.1.is in
    omega (arith, base, w, q)

call_covered : (c : PlainCode) → AreSoundTables c → IsSound c → (n g : ℕ) (w : Bool) (s : Stack) (o : Option Stack) → Calls c n g w → HasStack c n (Some s) → HasStack c g o → (t : Stack) × (o ≡ Some t) × (t.words + charge (words_at c n) w ≤ s.words)
call_covered c t sound n g w s None q h k = absurd (k (fip_calls_fip c t sound n g w h.0 q))
call_covered c t sound n g w s (Some u) q h k =
    let in_call = h.1.are_words.0.calls_in n g w (h.0, q) in
    let least = k.1.are_words.1 h.1.words h.1.are_words.0 g in
    let p : s.words ≡ h.1.words n = ap (λ (v : Stack). v.words) h.1.is in
    let r : u.words ≡ k.1.words g = ap (λ (v : Stack). v.words) k.1.is in
    (u, refl, omega (arith, in_call, least, p, r))

covers : (code : Code) (ss : List (Option Stack)) → AreSoundTables (plain code) → IsSound (plain code) → HaveStacks (plain code) ss → (n g : ℕ) (f : PlainFunction) (w : Bool) (m : ℕ) → function_at (plain code) n ≡ Some f → Calls (plain code) n g w → ((s : Stack) → HasStack (plain code) n (Some s) → m ≤ charge (words_at (plain code) n) w) → Covers ss n g m
covers code ss t sound h n g f w m is q few s e =
    let own : HasStack (plain code) n (Some s) = subst (HasStack (plain code) n) (stack_of ss n s e) (h n) in
    let r = call_covered (plain code) t sound n g w s (stack_at ss g) q own (h g) in
    let l = r.2 in
    let k = few s own in
    (r.0, of_stack ss g r.0 r.1, omega (arith, l, k))

charged : (c : PlainCode) (n : ℕ) (f : PlainFunction) (s : Stack) → function_at c n ≡ Some f → HasStack c n (Some s) → f.registers + 2 ≤ charge (words_at c n) true
charged c n f s is h =
    let same : h.0.0 ≡ f = same_Some h.0.0 f (sym h.0.1 ∙ is) in
    let fip : is_fip f.kind ≡ true = ap (λ (g : PlainFunction). is_fip g.kind) (sym same) ∙ h.0.2 in
    let w : words_at c n ≡ f.registers + 2 = ap words_of is ∙ ap (λ b. if b then f.registers + 2 else 0) fip in
    omega (arith, w)

-- ---- the ways on

target_there : (c : PlainCode) (f : PlainFunction) (i j : ℕ) → is_target f i j ≡ true → (i < j) × (j < length f.instrs) × ((m : List Kind) × (label_at f.labels j ≡ Some m))
target_there c f i j e =
    let p = and_parts (nat_lt i j) (nat_lt j (length f.instrs) && is_some (label_at f.labels j)) e in
    let q = and_parts (nat_lt j (length f.instrs)) (is_some (label_at f.labels j)) p.1 in
    (ltb-true i j p.0, ltb-true j (length f.instrs) q.0, some_of (label_at f.labels j) q.1)
  where
    some_of : (o : Option (List Kind)) → is_some o ≡ true → (m : List Kind) × (o ≡ Some m)
    some_of None h = absurd (false≢true h)
    some_of (Some m) h = (m, refl)

known_label : (c : PlainCode) (f : PlainFunction) (j : ℕ) (m : List Kind) → label_at f.labels j ≡ Some m → KnownAt c f j m
known_label c f j m e = subst (λ o. Holds o (Comes c f j) m) (sym e) refl

known_next : (c : PlainCode) (f : PlainFunction) (j : ℕ) (left : List Kind) → Comes c f j left → (ks : List Kind) × KnownAt c f j ks
known_next c f j left p = at (label_at f.labels j) refl
  where
    at : (o : Option (List Kind)) → label_at f.labels j ≡ o → (ks : List Kind) × KnownAt c f j ks
    at None e = (left, subst (λ o. Holds o (Comes c f j) left) (sym e) p)
    at (Some m) e = (m, known_label c f j m e)

-- the next instruction, of one that is no end
pub record GoesOn (c : PlainCode) (f : PlainFunction) (i : ℕ) : Type 0 where
  pub kinds : List Kind
  pub known : KnownAt c f (suc i) kinds
  pub within : suc i < length f.instrs

goes_on : (c : PlainCode) (n : ℕ) (f : PlainFunction) → function_at c n ≡ Some f → is_formed c f ≡ true → Flows c n → (i : ℕ) (ks : List Kind) (x : Instr) → IsReachedSoundly c n f i ks x → is_end x ≡ false → GoesOn c f i
goes_on c n f is formed flows i ks x r e =
    let asked : is_as_asked c f i ks x ≡ true = and_from _ _ r.ranged (and_from _ _ r.sources_are r.destinations_are) in
    let left = flows f is formed i ks x (record { known = r.known; instr = r.instr }) asked e in
    let next = known_next c f (suc i) left.0 (ks, x, r.known, r.instr, asked, left.1) in
    let l = slice_get_within f.instrs i x r.instr in
    record { kinds = next.0; known = next.1; within = below l (λ s. true≢false (sym (r.last s) ∙ e)) }
  where
    below : i < length f.instrs → (suc i ≡ length f.instrs → ⊥) → suc i < length f.instrs
    below l never = at (cases_lt (suc i) (length f.instrs))
      where
        at : (suc i < length f.instrs) ⊎ (length f.instrs ≤ suc i) → suc i < length f.instrs
        at (inl h) = h
        at (inr h) = absurd (never (omega (arith, h, l)))

call_of : (c : PlainCode) (n : ℕ) (f : PlainFunction) (i g : ℕ) (w : Bool) (ks : List Kind) (x : Instr) → function_at c n ≡ Some f → is_formed c f ≡ true → KnownAt c f i ks → IsInstr f i x → IsCall x g w → g < length c.functions → Calls c n g w
call_of c n f i g w ks x is formed kn at call l = (i, record { function = f; is = is; formed = formed; kinds = ks; instr = x; reached = record { known = kn; instr = at }; call = call; there = l })

pub is_at : (code : Code) (n : ℕ) (g : Function) → slice_get code.functions.items n ≡ Some g → function_at (plain code) n ≡ Some (plain_function g)
is_at code n g e = slice_get-map plain_function code.functions.items n ∙ ap (option_map plain_function) e

next_holds : (code : Code) (n : ℕ) (g : Function) → slice_get code.functions.items n ≡ Some g → AreSoundTables (plain code) → IsSound (plain code) → Flows (plain code) n → (P : ℕ → Type 0) (i : ℕ) (ks : List Kind) (x : Instr) → ((j : ℕ) (qs : List Kind) → i < j → j < length g.instrs.items → KnownAt (plain code) (plain_function g) j qs → P j) → IsReachedSoundly (plain code) n (plain_function g) i ks x → is_end x ≡ false → P (i + 1)
next_holds code n g e t sound flows P i ks x go q no_end =
    let on = goes_on (plain code) n (plain_function g) (is_at code n g e) (formed_at (plain code) t sound n (plain_function g) (is_at code n g e)) flows i ks x q no_end in
    let s : suc i ≡ i + 1 = omega arith in
    subst P s (go (suc i) on.kinds (omega arith) on.within on.known)

-- One instruction of a function: what it names is in range, and P holds of each instruction that it goes on to.
row_follows : (code : Code) (ss : List (Option Stack)) → AreSoundTables (plain code) → IsSound (plain code) → HaveStacks (plain code) ss → (n : ℕ) (g : Function) → slice_get code.functions.items n ≡ Some g → Flows (plain code) n → (P : ℕ → Type 0) (i : ℕ) (ks : List Kind) → ((j : ℕ) (qs : List Kind) → i < j → j < length g.instrs.items → KnownAt (plain code) (plain_function g) j qs → P j) → (x : Instr) → IsReachedSoundly (plain code) n (plain_function g) i ks x → Row (body_of code.functions.items ss n g) i P x
row_follows code ss t sound h n g e flows P i ks go (I.Const d v) q = (ltb-true d g.registers q.ranged, (next_holds code n g e t sound flows P i ks (I.Const d v) go q refl))
row_follows code ss t sound h n g e flows P i ks go (I.Atom d u k) q = (ltb-true d g.registers (and_parts (nat_lt d g.registers) _ q.ranged).0, (next_holds code n g e t sound flows P i ks (I.Atom d u k) go q refl))
row_follows code ss t sound h n g e flows P i ks go (I.Move d s) q = (let p = and_parts (nat_lt d g.registers) (nat_lt s g.registers) q.ranged in (ltb-true d g.registers p.0, ltb-true s g.registers p.1, (next_holds code n g e t sound flows P i ks (I.Move d s) go q refl)))
row_follows code ss t sound h n g e flows P i ks go (I.Arith d op a b line col) q = (let p = and_parts (nat_lt d g.registers) (nat_lt a g.registers && nat_lt b g.registers) q.ranged in let r = and_parts (nat_lt a g.registers) (nat_lt b g.registers) p.1 in (ltb-true d g.registers p.0, ltb-true a g.registers r.0, ltb-true b g.registers r.1, (next_holds code n g e t sound flows P i ks (I.Arith d op a b line col) go q refl)))
row_follows code ss t sound h n g e flows P i ks go (I.Test r k target) q = (let p = and_parts (nat_lt r g.registers) (is_target (plain_function g) i target) q.ranged in let j = target_there (plain code) (plain_function g) i target p.1 in (ltb-true r g.registers p.0, (next_holds code n g e t sound flows P i ks (I.Test r k target) go q refl), j.0, go target j.2.0 j.0 j.1 (known_label (plain code) (plain_function g) target j.2.0 j.2.1)))
row_follows code ss t sound h n g e flows P i ks go (I.TestInt r v target) q = (let p = and_parts (nat_lt r g.registers) (is_target (plain_function g) i target) q.ranged in let j = target_there (plain code) (plain_function g) i target p.1 in (ltb-true r g.registers p.0, (next_holds code n g e t sound flows P i ks (I.TestInt r v target) go q refl), j.0, go target j.2.0 j.0 j.1 (known_label (plain code) (plain_function g) target j.2.0 j.2.1)))
row_follows code ss t sound h n g e flows P i ks go (I.Peek d r k) q = (let p = and_parts (nat_lt d g.registers) (nat_lt r g.registers) q.ranged in (ltb-true d g.registers p.0, ltb-true r g.registers p.1, (next_holds code n g e t sound flows P i ks (I.Peek d r k) go q refl)))
row_follows code ss t sound h n g e flows P i ks go (I.Take r ds) q = (let p = and_parts (nat_lt r g.registers) (are_below g.registers ds) q.ranged in (ltb-true r g.registers p.0, below_all g.registers ds p.1, others_all r ds (and_parts (are_places ks ds) (not (has ds r)) q.destinations_are).1, taken_few code.types most_fields (length ds) (few_fields (plain code) t) (at ks r) q.sources_are, (next_holds code n g e t sound flows P i ks (I.Take r ds) go q refl)))
row_follows code ss t sound h n g e flows P i ks go (I.Put d t2 k ss2) q = (let p = and_parts (nat_lt d g.registers) (nat_lt k (count code.types t2) && are_below g.registers ss2) q.ranged in let r = and_parts (nat_lt k (count code.types t2)) (are_below g.registers ss2) p.1 in let l = given_long ks ss2 (fields code.types t2 k) q.sources_are in let m = few_fields (plain code) t t2 k in (ltb-true d g.registers p.0, below_all g.registers ss2 r.1, omega (arith, l, m), (next_holds code n g e t sound flows P i ks (I.Put d t2 k ss2) go q refl)))
row_follows code ss t sound h n g e flows P i ks go (I.Drop r) q = (ltb-true r g.registers q.ranged, (next_holds code n g e t sound flows P i ks (I.Drop r) go q refl))
row_follows code ss t sound h n g e flows P i ks go (I.Free r) q = (ltb-true r g.registers q.ranged, (next_holds code n g e t sound flows P i ks (I.Free r) go q refl))
row_follows code ss t sound h n g e flows P i ks go (I.Call k rs ds) q = (let p = and_parts (nat_lt k (length (plain code).functions)) (are_below g.registers rs && are_below g.registers ds) q.ranged in let r = and_parts (are_below g.registers rs) (are_below g.registers ds) p.1 in let l = ltb-true k (length (plain code).functions) p.0 in (below_all g.registers rs r.0, below_all g.registers ds r.1, can_call code t sound false ks k rs l q.sources_are, covers code ss t sound h n k (plain_function g) true (g.registers + 2) (is_at code n g e) (call_of (plain code) n (plain_function g) i k true ks (I.Call k rs ds) (is_at code n g e) (formed_at (plain code) t sound n (plain_function g) (is_at code n g e)) q.known q.instr (refl, refl) l) (λ s own. charged (plain code) n (plain_function g) s (is_at code n g e) own), (next_holds code n g e t sound flows P i ks (I.Call k rs ds) go q refl)))
row_follows code ss t sound h n g e flows P i ks go (I.Tail k rs) q = (let p = and_parts (nat_lt k (length (plain code).functions)) (are_below g.registers rs) q.ranged in let l = ltb-true k (length (plain code).functions) p.0 in (below_all g.registers rs p.1, can_call code t sound true ks k rs l (tail_handed (plain code) (plain_function g) ks k rs q.sources_are), covers code ss t sound h n k (plain_function g) false 0 (is_at code n g e) (call_of (plain code) n (plain_function g) i k false ks (I.Tail k rs) (is_at code n g e) (formed_at (plain code) t sound n (plain_function g) (is_at code n g e)) q.known q.instr (refl, refl) l) (λ s own. omega arith)))
row_follows code ss t sound h n g e flows P i ks go (I.Ret rs) q = (let l = given_long ks rs g.results q.sources_are in let m = (form_of (plain code) (plain_function g) (formed_at (plain code) t sound n (plain_function g) (is_at code n g e))).results in (below_all g.registers rs q.ranged, omega (arith, l, m)))
row_follows code ss t sound h n g e flows P i ks go (I.Jump target) q = (let j = target_there (plain code) (plain_function g) i target q.ranged in (j.0, go target j.2.0 j.0 j.1 (known_label (plain code) (plain_function g) target j.2.0 j.2.1)))

-- ---- the whole

follows : (code : Code) (ss : List (Option Stack)) → AreSoundTables (plain code) → IsSound (plain code) → HaveStacks (plain code) ss → (n : ℕ) (g : Function) → slice_get code.functions.items n ≡ Some g → Flows (plain code) n → (k i : ℕ) (ks : List Kind) → length g.instrs.items ≤ i + k → i < length g.instrs.items → KnownAt (plain code) (plain_function g) i ks → Follows (body_of code.functions.items ss n g) k i
follows code ss t sound h n g e flows zero i ks l m kn = absurd (omega (arith, l, m))
follows code ss t sound h n g e flows (suc k) i ks l m kn = (x.0, x.1, row_follows code ss t sound h n g e flows (Follows (body_of code.functions.items ss n g) k) i ks (λ j qs low high kj. follows code ss t sound h n g e flows k j qs (omega (arith, l, low)) high kj) x.0 (sound_at (plain code) t sound n (plain_function g) (is_at code n g e) (formed_at (plain code) t sound n (plain_function g) (is_at code n g e)) i ks x.0 kn x.1))
  where
    there : (xs : List Instr) (i : ℕ) → i < length xs → (x : Instr) × (slice_get xs i ≡ Some x)
    there [] i l = absurd (omega (arith, l))
    there (y ∷ xs) zero l = (y, refl)
    there (y ∷ xs) (suc i) l = there xs i (omega (arith, l))

    x : (x : Instr) × (slice_get g.instrs.items i ≡ Some x)
    x = there g.instrs.items i m

pub runnable : (code : Code) (ss : List (Option Stack)) → AreSoundTables (plain code) → IsSound (plain code) → HaveStacks (plain code) ss → ((n : ℕ) → Flows (plain code) n) → AreShort code.functions.items → IsRunnable code.functions.items ss
runnable code ss t sound h flows short = record { functions = λ n g e. function n g e }
  where
    function : (n : ℕ) (g : Function) → slice_get code.functions.items n ≡ Some g → IsFunction code.functions.items ss n g
    function n g e =
        let is = is_at code n g e in
        let form : IsForm (plain code) (plain_function g) = form_of (plain code) (plain_function g) (formed_at (plain code) t sound n (plain_function g) is) in
        let some : 0 < length g.instrs.items = form.some in
        let first = known_next (plain code) (plain_function g) 0 (entry (plain code) (plain_function g)) refl in
        record {
          start = (length g.instrs.items, follows code ss t sound h n g e (flows n) (length g.instrs.items) 0 first.0 (omega arith) some first.1);
          few = short n g e;
          small = form.few;
          own = λ s q. frame_covered (plain code) n (plain_function g) s is (subst (HasStack (plain code) n) (stack_of ss n s q) (h n));
        }
