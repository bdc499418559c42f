-- What a walk finds of a function, and what is found of one function more.
use Rattle.std.proofs.Common.{◌≡◌, ◌⊎◌, inl, inr, ℕ, zero, suc, ◌<◌, ◌≤◌, Bool, true, false, List, [], ◌∷◌, ◌++◌, length, Option, Some, None, refl, sym, ap, ◌∙◌, subst, true≢false, arith}
use Rattle.std.specs.declared.vec.Vec.{Vec}
use Rattle.std.specs.declared.alloc.Global.{Global}
use Rattle.std.proofs.lemmas.Bool.{cases_lt}
use Rattle.std.proofs.lemmas.Option.{same_Some, none-some, slice_get_within}
use Rattle.std.proofs.lemmas.List.{length_push}
use Rattle.call_groups.specs.CallGraph.{In}
use Rattle.call_groups.specs.declared.search.Call.{Call}
use Rattle.code_rules.specs.declared.rule.SoundRule.{SoundRule}
use Rattle.code_rules.specs.declared.rule.SoundRule.TheVariants.{S0, S1, S2, S3, S4, S5, S6, S7, S8, S9}
use Rattle.cell_code.specs.Plain.{PlainFunction, PlainCode, function_at}
use Rattle.code_rules.specs.Headers.{is_formed}
use Rattle.code_rules.specs.Flow.{is_as_asked, IsInstr, IsReachedAt}
use Rattle.code_rules.specs.Calls.{Calls, CallsAt}
use Rattle.code_rules.specs.Breaks.{digit, IsBefore}
use Rattle.code_rows.specs.declared.least.Violation.{Violation}
use Rattle.code_rows.specs.Noting.{broken, better_if, Answers}
use Rattle.code_rows.proofs.Noted.{Both, answers_same, answers_both}
use Rattle.code_verify.specs.declared.walk.Waiting.{Waiting}
use Rattle.code_verify.specs.declared.walk.DropType.{DropType}
use Rattle.code_verify.specs.declared.walk.Found.{Found}
use Rattle.code_verify.specs.Checked.{ReachedDrop, ReleasesAt}
use Rattle.code_verify.specs.Steps.{call_to, waits_at, drops_at}
use Rattle.code_verify.specs.Finding.{BreaksAlone, ReachedCall, BrokenBelow, AreInOrder, HasMachineIntsBelow, IsFound}
use Rattle.code_verify.specs.Surveying.{BreaksOther, Flows, HasMachineIntsAt, IsRow, IsFoundOf, row_at, AreRowsBelow, OtherBelow}
use Rattle.code_verify.proofs.InstrFacts.{in_nil}

alone_within : (c : PlainCode) (f : PlainFunction) (i : ℕ) (r : SoundRule) → BreaksAlone c f i r → i < length f.instrs
alone_within c f i S0 b = absurd b
alone_within c f i S1 b = slice_get_within f.instrs i b.instr b.is
alone_within c f i S2 b = slice_get_within f.instrs i b.instr b.reached.instr
alone_within c f i S3 b = slice_get_within f.instrs i b.instr b.reached.instr
alone_within c f i S4 b = slice_get_within f.instrs i b.instr b.reached.instr
alone_within c f i S5 b = slice_get_within f.instrs i b.goes.instr b.goes.reached.instr
alone_within c f i S6 b = slice_get_within f.instrs i b.instr b.reached.instr
alone_within c f i S7 b = slice_get_within f.instrs i b.instr b.reached.instr
alone_within c f i S8 b = absurd b
alone_within c f i S9 b = absurd b

-- ---- a function that keeps S9

same_function : (c : PlainCode) (n : ℕ) (f g : PlainFunction) → function_at c n ≡ Some f → function_at c n ≡ Some g → f ≡ g
same_function c n f g p q = same_Some f g (sym p ∙ q)

call_at : (c : PlainCode) (n : ℕ) (f : PlainFunction) (i g : ℕ) (w : Bool) → function_at c n ≡ Some f → is_formed c f ≡ true → ReachedCall c f i g w → CallsAt c n i g w
call_at c n f i g w is formed r = record { function = f; is = is; formed = formed; kinds = r.kinds; instr = r.instr; reached = r.reached; call = r.call; there = r.there }

at_call : (c : PlainCode) (n : ℕ) (f : PlainFunction) (i g : ℕ) (w : Bool) → function_at c n ≡ Some f → CallsAt c n i g w → (i < length f.instrs) × ReachedCall c f i g w
at_call c n f i g w is a =
    let e : a.function ≡ f = same_function c n a.function f a.is is in
    let r : IsReachedAt c f i a.kinds a.instr = subst (λ h. IsReachedAt c h i a.kinds a.instr) e a.reached in
    (slice_get_within f.instrs i a.instr r.instr, record { kinds = a.kinds; instr = a.instr; reached = r; call = a.call; there = a.there })

pub found_formed : (c : PlainCode) (n : ℕ) (f : PlainFunction) (r : Found) → function_at c n ≡ Some f → is_formed c f ≡ true → IsFound c n f (length f.instrs) r → HasMachineIntsBelow f (length f.instrs) → IsFoundOf c n r
found_formed c n f r is formed a fit = record {
  least = answers_same (BrokenBelow c n f (length f.instrs)) (λ m i rule. (m ≡ n) × BreaksOther c n i rule) r.least.first (λ m i q p. (p.0, (f, is, inr (formed, p.2)))) back a.least;
  row = record {
    calls_are = λ g w. (λ m. calls_report g w ((a.calls g w).0 m), λ q. (a.calls g w).1 (calls_from g w q));
    waiting_are = λ i g. (λ m. call_at c n f i g true is formed ((a.waiting i g).0 m).1, λ q. (a.waiting i g).1 (at_call c n f i g true is q));
    drops_are = λ i t. (λ m. (f, is, formed, ((a.drops i t).0 m).1), λ q. (a.drops i t).1 (drops_from i t q));
    in_order = a.in_order;
    flows = flows;
    literals = literals;
  };
}
  where
    back : (m i : ℕ) (q : SoundRule) → (m ≡ n) × BreaksOther c n i q → BrokenBelow c n f (length f.instrs) m i q
    back m i q p = by p.1.2
      where
        same : p.1.0 ≡ f
        same = same_function c n p.1.0 f p.1.1 is

        by : ((is_formed c p.1.0 ≡ false) × (i ≡ 0) × (q ≡ S9)) ⊎ ((is_formed c p.1.0 ≡ true) × BreaksAlone c p.1.0 i q) → BrokenBelow c n f (length f.instrs) m i q
        by (inl x) = absurd (true≢false (sym formed ∙ (ap (is_formed c) (sym same) ∙ x.0)))
        by (inr x) = (let b : BreaksAlone c f i q = subst (λ h. BreaksAlone c h i q) same x.1 in (p.0, alone_within c f i q b, b))

    calls_report : (g : ℕ) (w : Bool) → (i : ℕ) × (i < length f.instrs) × ReachedCall c f i g w → Calls c n g w
    calls_report g w q = (q.0, call_at c n f q.0 g w is formed q.2)

    calls_from : (g : ℕ) (w : Bool) → Calls c n g w → (i : ℕ) × (i < length f.instrs) × ReachedCall c f i g w
    calls_from g w q = (let p = at_call c n f q.0 g w is q.1 in (q.0, p.0, p.1))

    drops_from : (i t : ℕ) → ReleasesAt c n i t → (i < length f.instrs) × ReachedDrop c f i t
    drops_from i t q =
        let d : ReachedDrop c f i t = subst (λ h. ReachedDrop c h i t) (same_function c n q.0 f q.1 is) q.3 in
        (slice_get_within f.instrs i _ d.reached.instr, d)

    literals : HasMachineIntsAt c n
    literals g h k i x at =
        let here : IsInstr f i x = subst (λ y. IsInstr y i x) (same_function c n g f h is) at in
        fit i x (slice_get_within f.instrs i x here) here

    flows : Flows c n
    flows g h k i ks x q e z =
        let same : g ≡ f = same_function c n g f h is in
        let t : IsReachedAt c f i ks x = subst (λ y. IsReachedAt c y i ks x) same q in
        a.flows i ks x (slice_get_within f.instrs i x t.instr) t (ap (λ y. is_as_asked c y i ks x) (sym same) ∙ e) z

-- ---- a function that breaks S9

pub found_unformed : (c : PlainCode) (n : ℕ) (f : PlainFunction) (r : Found) → function_at c n ≡ Some f → is_formed c f ≡ false → r.least.first ≡ Some (broken n 0 S9) → r.calls.items ≡ [] → r.waiting.items ≡ [] → r.drops.items ≡ [] → IsFoundOf c n r
found_unformed c n f r is unformed l k w d = record {
  least = subst (Answers (λ m i rule. (m ≡ n) × BreaksOther c n i rule)) (sym l) (record { broken = (refl, (f, is, inl (unformed, refl, refl))); least = least });
  row = record {
    calls_are = λ g v. (λ m. absurd (in_nil (call_to g v) (subst (In (call_to g v)) k m)), λ q. absurd (never q.1.function q.1.is q.1.formed));
    waiting_are = λ i g. (λ m. absurd (in_nil (waits_at i g) (subst (In (waits_at i g)) w m)), λ q. absurd (never q.function q.is q.formed));
    drops_are = λ i t. (λ m. absurd (in_nil (drops_at i t) (subst (In (drops_at i t)) d m)), λ q. absurd (never q.0 q.1 q.2));
    in_order = subst AreInOrder (sym d) (λ j q e h p s. absurd (none-some e s));
    flows = λ g h e. absurd (never g h e);
    literals = λ g h e. absurd (never g h e);
  };
}
  where
    never : (g : PlainFunction) → function_at c n ≡ Some g → is_formed c g ≡ true → ⊥
    never g h e = true≢false (sym e ∙ (ap (is_formed c) (same_function c n g f h is) ∙ unformed))

    least : (m j : ℕ) (q : SoundRule) → (m ≡ n) × BreaksOther c n j q → IsBefore n 0 S9 m j q
    least m j q p = by p.1.2
      where
        by : ((is_formed c p.1.0 ≡ false) × (j ≡ 0) × (q ≡ S9)) ⊎ ((is_formed c p.1.0 ≡ true) × BreaksAlone c p.1.0 j q) → IsBefore n 0 S9 m j q
        by (inl x) = inr (sym p.0, inr (sym x.1, nine x.2))
          where
            nine : q ≡ S9 → 9 ≤ digit q
            nine e = (let s = ap digit e in omega (arith, s))
        by (inr x) = absurd (never p.1.0 p.1.1 x.0)

-- ---- one function more

row_push : {A : Type 0} (vs : List (Vec A Global)) (v : Vec A Global) (n : ℕ) → n < length vs → row_at (vs ++ v ∷ []) n ≡ row_at vs n
row_push [] v n l = absurd (omega (arith, l))
row_push (w ∷ vs) v zero l = refl
row_push (w ∷ vs) v (suc n) l = row_push vs v n (omega (arith, l))

row_last : {A : Type 0} (vs : List (Vec A Global)) (v : Vec A Global) (n : ℕ) → length vs ≡ n → row_at (vs ++ v ∷ []) n ≡ v.items
row_last vs v n e = subst (λ k. row_at (vs ++ v ∷ []) k ≡ v.items) e (at vs)
  where
    at : (us : List (Vec _ Global)) → row_at (us ++ v ∷ []) (length us) ≡ v.items
    at [] = refl
    at (u ∷ us) = at us

pub rows_more : (c : PlainCode) (k : ℕ) (cs : List (Vec Call Global)) (ws : List (Vec Waiting Global)) (ds : List (Vec DropType Global)) (r : Found) → AreRowsBelow c k cs ws ds → IsRow c k r.calls.items r.waiting.items r.drops.items → AreRowsBelow c (suc k) (cs ++ r.calls ∷ []) (ws ++ r.waiting ∷ []) (ds ++ r.drops ∷ [])
rows_more c k cs ws ds r a b = record {
  calls_long = (let l = length_push cs r.calls in let e = a.calls_long in omega (arith, l, e));
  waiting_long = (let l = length_push ws r.waiting in let e = a.waiting_long in omega (arith, l, e));
  drops_long = (let l = length_push ds r.drops in let e = a.drops_long in omega (arith, l, e));
  rows = λ n l. at n l (cases_lt n k);
}
  where
    is_row : (n : ℕ) (xs us : List Call) (ys vs : List Waiting) (zs ts : List DropType) → us ≡ xs → vs ≡ ys → ts ≡ zs → IsRow c n xs ys zs → IsRow c n us vs ts
    is_row n xs us ys vs zs ts e f g h = subst (λ t. IsRow c n us vs t) (sym g) (subst (λ v. IsRow c n us v zs) (sym f) (subst (λ u. IsRow c n u ys zs) (sym e) h))

    at : (n : ℕ) → n < suc k → (n < k) ⊎ (k ≤ n) → IsRow c n (row_at (cs ++ r.calls ∷ []) n) (row_at (ws ++ r.waiting ∷ []) n) (row_at (ds ++ r.drops ∷ []) n)
    at n l (inl m) =
        let p = a.calls_long in
        let q = a.waiting_long in
        let s = a.drops_long in
        is_row n _ _ _ _ _ _ (row_push cs r.calls n (omega (arith, m, p))) (row_push ws r.waiting n (omega (arith, m, q))) (row_push ds r.drops n (omega (arith, m, s))) (a.rows n m)
    at n l (inr m) =
        let e : k ≡ n = omega (arith, l, m) in
        is_row n _ _ _ _ _ _ (row_last cs r.calls n (a.calls_long ∙ e)) (row_last ws r.waiting n (a.waiting_long ∙ e)) (row_last ds r.drops n (a.drops_long ∙ e)) (subst (λ j. IsRow c j r.calls.items r.waiting.items r.drops.items) e b)

pub least_more : (c : PlainCode) (k : ℕ) (o p : Option Violation) → Answers (OtherBelow c k) o → Answers (λ m i rule. (m ≡ k) × BreaksOther c k i rule) p → Answers (OtherBelow c (suc k)) (better_if o p)
least_more c k o p a b = answers_same (Both (OtherBelow c k) (λ m i rule. (m ≡ k) × BreaksOther c k i rule)) (OtherBelow c (suc k)) (better_if o p) there back (answers_both (OtherBelow c k) (λ m i rule. (m ≡ k) × BreaksOther c k i rule) o p a b)
  where
    there : (n i : ℕ) (r : SoundRule) → OtherBelow c k n i r ⊎ ((n ≡ k) × BreaksOther c k i r) → OtherBelow c (suc k) n i r
    there n i r (inl x) = (let l = x.0 in (omega (arith, l), x.1))
    there n i r (inr x) = (let e = x.0 in (omega (arith, e), subst (λ m. BreaksOther c m i r) (sym e) x.1))

    back : (n i : ℕ) (r : SoundRule) → OtherBelow c (suc k) n i r → OtherBelow c k n i r ⊎ ((n ≡ k) × BreaksOther c k i r)
    back n i r x = by (cases_lt n k)
      where
        by : (n < k) ⊎ (k ≤ n) → OtherBelow c k n i r ⊎ ((n ≡ k) × BreaksOther c k i r)
        by (inl l) = inl (l, x.1)
        by (inr l) = (let m = x.0 in let e : n ≡ k = omega (arith, l, m) in inr (e, subst (λ j. BreaksOther c j i r) e x.1))

pub none_below : (c : PlainCode) → Answers (OtherBelow c 0) None
none_below c n i r x = (let l = x.0 in omega (arith, l))

pub no_rows : (c : PlainCode) → AreRowsBelow c 0 [] [] []
no_rows c = record { calls_long = refl; waiting_long = refl; drops_long = refl; rows = λ n l. absurd (omega (arith, l)) }

-- what is found of the functions below a number
pub record IsSurveyed (c : PlainCode) (k : ℕ) (o : Option Violation) (cs : List (Vec Call Global)) (ws : List (Vec Waiting Global)) (ds : List (Vec DropType Global)) : Type 0 where
  pub least : Answers (OtherBelow c k) o
  pub rows : AreRowsBelow c k cs ws ds

pub first_survey : (c : PlainCode) (o : Option Violation) (cs : List (Vec Call Global)) (ws : List (Vec Waiting Global)) (ds : List (Vec DropType Global)) → o ≡ None → cs ≡ [] → ws ≡ [] → ds ≡ [] → IsSurveyed c 0 o cs ws ds
first_survey c o cs ws ds e f g h =
    subst (λ p. IsSurveyed c 0 p cs ws ds) (sym e) (subst (λ x. IsSurveyed c 0 None x ws ds) (sym f) (subst (λ y. IsSurveyed c 0 None [] y ds) (sym g) (subst (λ z. IsSurveyed c 0 None [] [] z) (sym h) (record { least = none_below c; rows = no_rows c }))))

pub survey_more : (c : PlainCode) (k n : ℕ) (o p : Option Violation) (cs bs : List (Vec Call Global)) (ws vs : List (Vec Waiting Global)) (ds es : List (Vec DropType Global)) (r : Found) → suc k ≡ n → p ≡ better_if o r.least.first → bs ≡ cs ++ r.calls ∷ [] → vs ≡ ws ++ r.waiting ∷ [] → es ≡ ds ++ r.drops ∷ [] → IsFoundOf c k r → IsSurveyed c k o cs ws ds → IsSurveyed c n p bs vs es
survey_more c k n o p cs bs ws vs ds es r next e f g h found a =
    subst (λ m. IsSurveyed c m p bs vs es) next
    (subst (λ q. IsSurveyed c (suc k) q bs vs es) (sym e)
    (subst (λ x. IsSurveyed c (suc k) (better_if o r.least.first) x vs es) (sym f)
    (subst (λ y. IsSurveyed c (suc k) (better_if o r.least.first) (cs ++ r.calls ∷ []) y es) (sym g)
    (subst (λ z. IsSurveyed c (suc k) (better_if o r.least.first) (cs ++ r.calls ∷ []) (ws ++ r.waiting ∷ []) z) (sym h)
    (record { least = least_more c k o r.least.first a.least found.least; rows = rows_more c k cs ws ds r a.rows found.row })))))
