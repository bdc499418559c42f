-- S8: the calls of the own group that are noted are those that break it; and then all of a code is noted.
use Rattle.std.proofs.Common.{◌≡◌, ◌↔◌, ◌⊎◌, inl, inr, ℕ, zero, suc, ◌<◌, ◌≤◌, Bool, true, false, not, List, [], ◌∷◌, length, Option, Some, None, slice_get, if◌then◌else◌, ◌==◌, refl, sym, ap, ◌∙◌, subst, true≢false, arith}
use Rattle.std.specs.declared.vec.Vec.{Vec}
use Rattle.std.specs.declared.alloc.Global.{Global}
use Rattle.std.proofs.lemmas.Bool.{cases_lt, not-false, not_from_true, eqb-true, eq-eqb}
use Rattle.std.proofs.lemmas.Option.{same_Some, none-some, slice_get_within}
use Rattle.call_groups.specs.CallGraph.{In, group_number, IsPartition, rows, row}
use Rattle.call_groups.specs.CallGraph as G
use Rattle.call_groups.specs.declared.search.Call.{Call}
use Rattle.call_groups.specs.declared.search.Partition.{Partition}
use Rattle.code_rules.specs.declared.rule.SoundRule.{SoundRule}
use Rattle.code_rules.specs.declared.rule.SoundRule.TheVariants.{S0, S1, S2, S3, S4, S5, S6, S7, S8, S9}
use Rattle.cell_code.specs.Plain.{PlainFunction, PlainCode, function_at}
use Rattle.code_rules.specs.Codes.{is_fip}
use Rattle.code_rules.specs.Headers.{is_formed}
use Rattle.code_rules.specs.Tables.{AreSoundTables}
use Rattle.code_rules.specs.Calls.{Calls, CallsAt, SameGroup, AreRows}
use Rattle.code_rules.specs.Breaks.{BreaksWithin, BreaksFunction, BreaksGroup, Breaks, IsSound, IsLeast, IsBefore}
use Rattle.code_rules.proofs.Numbers.{groups_in_rows}
use Rattle.code_rows.specs.declared.least.Violation.{Violation}
use Rattle.code_rows.specs.Noting.{noted_unless, InKept, Answers}
use Rattle.code_rows.proofs.Noted.{OrKept, answers_same, answers_noted}
use Rattle.code_verify.specs.declared.walk.Waiting.{Waiting}
use Rattle.code_verify.specs.declared.walk.DropType.{DropType}
use Rattle.code_verify.specs.Checked.{HasMachineInts, ReleasesAt}
use Rattle.code_verify.specs.Releasing.{AreReleases}
use Rattle.code_verify.specs.Steps.{call_to, waits_at, drops_at}
use Rattle.code_verify.specs.Finding.{BreaksAlone, AreInOrder}
use Rattle.code_verify.specs.Surveying.{BreaksOwn, Flows, row_at, AreRowsBelow, OtherBelow, own_noted, OwnBelow}

-- ---- rows of calls

row_is : (cs : List (Vec Call Global)) (n : ℕ) → G.calls_of (rows cs) n ≡ row_at cs n
row_is [] n = refl
row_is (v ∷ cs) zero = refl
row_is (v ∷ cs) (suc n) = row_is cs n

row_past : {A : Type 0} (cs : List (Vec A Global)) (n : ℕ) → length cs ≤ n → row_at cs n ≡ []
row_past [] n l = refl
row_past (v ∷ cs) zero l = absurd (omega (arith, l))
row_past (v ∷ cs) (suc n) l = row_past cs n (omega (arith, l))

nothing_in : {A : Type 0} (x : A) (xs : List A) → xs ≡ [] → In x xs → ⊥
nothing_in x xs e h = none-some x (subst (λ ys. slice_get ys h.0 ≡ Some x) e h.1)

-- The rows that are found list the code's calls.
pub are_rows : (c : PlainCode) (cs : List (Vec Call Global)) (ws : List (Vec Waiting Global)) (ds : List (Vec DropType Global)) → AreRowsBelow c (length c.functions) cs ws ds → AreRows c (rows cs)
are_rows c cs ws ds a m g w = (there, back)
  where
    there : Calls c m g w → G.Calls (rows cs) m g w
    there q =
        let l : m < length c.functions = slice_get_within c.functions m q.1.function q.1.is in
        subst (In (call_to g w)) (sym (row_is cs m)) (((a.rows m l).calls_are g w).1 q)

    back : G.Calls (rows cs) m g w → Calls c m g w
    back q = at (cases_lt m (length c.functions))
      where
        here : In (call_to g w) (row_at cs m)
        here = subst (In (call_to g w)) (row_is cs m) q

        at : (m < length c.functions) ⊎ (length c.functions ≤ m) → Calls c m g w
        at (inl l) = ((a.rows m l).calls_are g w).0 here
        at (inr l) = absurd (nothing_in (call_to g w) (row_at cs m) (row_past cs m (let e = a.calls_long in omega (arith, l, e))) here)

pub one_group : (c : PlainCode) (cs : List (Vec Call Global)) (p : Partition) → AreRows c (rows cs) → IsPartition (rows cs) p → (a b : ℕ) → (group_number p a ≡ group_number p b) ↔ SameGroup c a b
one_group c cs p h q a b = (λ e. (groups_in_rows c (rows cs) h a b).1 ((q.same a b).0 e), λ s. (q.same a b).1 ((groups_in_rows c (rows cs) h a b).0 s))

-- ---- calls of the own group

-- one of these calls is of the own group
OwnIn : Partition → ℕ → List Waiting → ℕ → Type 0
OwnIn p n ws i = (g : ℕ) × In (waits_at i g) ws × (group_number p g ≡ group_number p n)

abbrev OrOwn : (ℕ → ℕ → SoundRule → Type 0) → Partition → ℕ → List Waiting → ℕ → ℕ → SoundRule → Type 0
OrOwn P p n ws m i r = P m i r ⊎ ((m ≡ n) × (r ≡ S8) × ((g : ℕ) × In (waits_at i g) ws × (group_number p g ≡ group_number p n)))

answers_own : (ws : List Waiting) (P : ℕ → ℕ → SoundRule → Type 0) (p : Partition) (n : ℕ) (o : Option Violation) → Answers P o → Answers (OrOwn P p n ws) (own_noted p n o ws)
answers_own [] P p n o a = answers_same P (OrOwn P p n []) o (λ m i r x. inl x) back a
  where
    back : (m i : ℕ) (r : SoundRule) → OrOwn P p n [] m i r → P m i r
    back m i r (inl x) = x
    back m i r (inr y) = absurd (none-some _ y.2.1.1)
answers_own (w ∷ ws) P p n o a = answers_same (OrOwn One p n ws) (OrOwn P p n (w ∷ ws)) (own_noted p n (noted_unless n w.at kept S8 o) ws) there back (answers_own ws One p n (noted_unless n w.at kept S8 o) (answers_noted ((kept, S8) ∷ []) P n w.at o a))
  where
    kept : Bool
    kept = not (group_number p w.callee == group_number p n)

    One : ℕ → ℕ → SoundRule → Type 0
    One = OrKept P n w.at ((kept, S8) ∷ [])

    there : (m i : ℕ) (r : SoundRule) → OrOwn One p n ws m i r → OrOwn P p n (w ∷ ws) m i r
    there m i r (inl (inl x)) = inl x
    there m i r (inl (inr y)) = first y.2
      where
        first : InKept r ((kept, S8) ∷ []) → OrOwn P p n (w ∷ ws) m i r
        first (inl z) = inr (y.0, z.1, (w.callee, (zero, ap Some (ap (λ k. waits_at k w.callee) (sym y.1))), eqb-true (group_number p w.callee) (group_number p n) (not-false _ z.0)))
        first (inr z) = absurd z
    there m i r (inr y) = inr (y.0, y.1, (y.2.0, (suc y.2.1.0, y.2.1.1), y.2.2))

    back : (m i : ℕ) (r : SoundRule) → OrOwn P p n (w ∷ ws) m i r → OrOwn One p n ws m i r
    back m i r (inl x) = inl (inl x)
    back m i r (inr y) = at y.2.1.0 y.2.1.1
      where
        at : (j : ℕ) → slice_get (w ∷ ws) j ≡ Some (waits_at i y.2.0) → OrOwn One p n ws m i r
        at zero e =
            let s : w ≡ waits_at i y.2.0 = same_Some w (waits_at i y.2.0) e in
            let q : group_number p w.callee ≡ group_number p n = ap (λ (v : Waiting). group_number p v.callee) s ∙ y.2.2 in
            inl (inr (y.0, sym (ap (λ (v : Waiting). v.at) s), inl (not_from_true _ (eq-eqb (group_number p w.callee) (group_number p n) q), y.1)))
        at (suc j) e = inr (y.0, y.1, (y.2.0, (j, e), y.2.2))

-- ---- one function more

group_reports : (c : PlainCode) (n i g : ℕ) (f : PlainFunction) → function_at c n ≡ Some f → is_fip f.kind ≡ true → CallsAt c n i g true → SameGroup c n g → BreaksOwn c n i S8
group_reports c n i g f is fip a s = (f, is, formed, record { callee = g; calls = a; fip = fip; breaks = s }, refl)
  where
    formed : is_formed c f ≡ true
    formed = ap (is_formed c) (same_Some f a.function (sym is ∙ a.is)) ∙ a.formed

pub own_more : (c : PlainCode) (all n : ℕ) (f : PlainFunction) (p : Partition) (cs : List (Vec Call Global)) (ws : List (Vec Waiting Global)) (ds : List (Vec DropType Global)) (o : Option Violation) → all ≡ length c.functions → n < all → function_at c n ≡ Some f → is_fip f.kind ≡ true → AreRowsBelow c all cs ws ds → IsPartition (rows cs) p → Answers (OwnBelow c all n) o → Answers (OwnBelow c all (suc n)) (own_noted p n o (row_at ws n))
own_more c all n f p cs ws ds o e l is fip a q x = answers_same (OrOwn (OwnBelow c all n) p n (row_at ws n)) (OwnBelow c all (suc n)) (own_noted p n o (row_at ws n)) there back (answers_own (row_at ws n) (OwnBelow c all n) p n o x)
  where
    group : (a b : ℕ) → (group_number p a ≡ group_number p b) ↔ SameGroup c a b
    group = one_group c cs p (are_rows c cs ws ds (subst (λ k. AreRowsBelow c k cs ws ds) e a)) q

    there : (m i : ℕ) (r : SoundRule) → OrOwn (OwnBelow c all n) p n (row_at ws n) m i r → OwnBelow c all (suc n) m i r
    there m i r (inl (inl y)) = inl y
    there m i r (inl (inr y)) = (let k = y.0 in inr (omega (arith, k), y.1))
    there m i r (inr y) =
        let k = y.0 in
        let t : BreaksOwn c n i S8 = group_reports c n i y.2.0 f is fip (((a.rows n l).waiting_are i y.2.0).0 y.2.1) ((group n y.2.0).0 (sym y.2.2)) in
        inr (omega (arith, k), subst (λ j. BreaksOwn c j i r) (sym k) (subst (λ s. BreaksOwn c n i s) (sym y.1) t))

    back : (m i : ℕ) (r : SoundRule) → OwnBelow c all (suc n) m i r → OrOwn (OwnBelow c all n) p n (row_at ws n) m i r
    back m i r (inl y) = inl (inl y)
    back m i r (inr y) = at (cases_lt m n)
      where
        at : (m < n) ⊎ (n ≤ m) → OrOwn (OwnBelow c all n) p n (row_at ws n) m i r
        at (inl k) = inl (inr (k, y.1))
        at (inr k) =
            let h = y.0 in
            let s : m ≡ n = omega (arith, h, k) in
            let b : BreaksOwn c n i r = subst (λ j. BreaksOwn c j i r) s y.1 in
            inr (s, b.4, (b.3.callee, ((a.rows n l).waiting_are i b.3.callee).1 b.3.calls, sym ((group n b.3.callee).1 b.3.breaks)))

-- a function that isn't fip breaks no S8
pub own_skipped : (c : PlainCode) (all n : ℕ) (f : PlainFunction) (o : Option Violation) → function_at c n ≡ Some f → is_fip f.kind ≡ false → Answers (OwnBelow c all n) o → Answers (OwnBelow c all (suc n)) o
own_skipped c all n f o is fip x = answers_same (OwnBelow c all n) (OwnBelow c all (suc n)) o there back x
  where
    there : (m i : ℕ) (r : SoundRule) → OwnBelow c all n m i r → OwnBelow c all (suc n) m i r
    there m i r (inl y) = inl y
    there m i r (inr y) = (let k = y.0 in inr (omega (arith, k), y.1))

    back : (m i : ℕ) (r : SoundRule) → OwnBelow c all (suc n) m i r → OwnBelow c all n m i r
    back m i r (inl y) = inl y
    back m i r (inr y) = at (cases_lt m n)
      where
        at : (m < n) ⊎ (n ≤ m) → OwnBelow c all n m i r
        at (inl k) = inr (k, y.1)
        at (inr k) =
            let h = y.0 in
            let s : m ≡ n = omega (arith, h, k) in
            let b : BreaksOwn c n i r = subst (λ j. BreaksOwn c j i r) s y.1 in
            absurd (true≢false (sym b.3.fip ∙ (ap (λ (g : PlainFunction). is_fip g.kind) (same_Some b.0 f (sym b.1 ∙ is)) ∙ fip)))

pub own_turn : (c : PlainCode) (all n k : ℕ) (f : PlainFunction) (p : Partition) (cs : List (Vec Call Global)) (ws : List (Vec Waiting Global)) (ds : List (Vec DropType Global)) (o q : Option Violation) → all ≡ length c.functions → n < all → suc n ≡ k → function_at c n ≡ Some f → AreRowsBelow c all cs ws ds → IsPartition (rows cs) p → q ≡ (if is_fip f.kind then own_noted p n o (row_at ws n) else o) → Answers (OwnBelow c all n) o → Answers (OwnBelow c all k) q
own_turn c all n k f p cs ws ds o q e l s is a g h x = subst (λ m. Answers (OwnBelow c all m) q) s (at (is_fip f.kind) refl h)
  where
    at : (b : Bool) → is_fip f.kind ≡ b → q ≡ (if b then own_noted p n o (row_at ws n) else o) → Answers (OwnBelow c all (suc n)) q
    at true fip r = subst (Answers (OwnBelow c all (suc n))) (sym r) (own_more c all n f p cs ws ds o e l is fip a g x)
    at false fip r = subst (Answers (OwnBelow c all (suc n))) (sym r) (own_skipped c all n f o is fip x)

pub none_own : (c : PlainCode) (all : ℕ) (o : Option Violation) → Answers (OtherBelow c all) o → Answers (OwnBelow c all 0) o
none_own c all o x = answers_same (OtherBelow c all) (OwnBelow c all 0) o (λ m i r y. inl y) back x
  where
    back : (m i : ℕ) (r : SoundRule) → OwnBelow c all 0 m i r → OtherBelow c all m i r
    back m i r (inl y) = y
    back m i r (inr y) = (let k = y.0 in absurd (omega (arith, k)))

-- ---- the whole

alone_is : (c : PlainCode) (n : ℕ) (f : PlainFunction) (i : ℕ) (r : SoundRule) → BreaksAlone c f i r → BreaksWithin c n f i r
alone_is c n f i S0 b = absurd b
alone_is c n f i S1 b = b
alone_is c n f i S2 b = b
alone_is c n f i S3 b = b
alone_is c n f i S4 b = b
alone_is c n f i S5 b = b
alone_is c n f i S6 b = b
alone_is c n f i S7 b = b
alone_is c n f i S8 b = absurd b
alone_is c n f i S9 b = absurd b

is_alone : (c : PlainCode) (n : ℕ) (f : PlainFunction) (i : ℕ) (r : SoundRule) → BreaksWithin c n f i r → BreaksAlone c f i r ⊎ (BreaksGroup c n f i × (r ≡ S8))
is_alone c n f i S0 b = absurd b
is_alone c n f i S1 b = inl b
is_alone c n f i S2 b = inl b
is_alone c n f i S3 b = inl b
is_alone c n f i S4 b = inl b
is_alone c n f i S5 b = inl b
is_alone c n f i S6 b = inl b
is_alone c n f i S7 b = inl b
is_alone c n f i S8 b = inr (b, refl)
is_alone c n f i S9 b = absurd b

pub all_noted : (c : PlainCode) (o : Option Violation) → AreSoundTables c → Answers (OwnBelow c (length c.functions) (length c.functions)) o → Answers (Breaks c) o
all_noted c o t x = answers_same (OwnBelow c (length c.functions) (length c.functions)) (Breaks c) o there back x
  where
    there : (n i : ℕ) (r : SoundRule) → OwnBelow c (length c.functions) (length c.functions) n i r → Breaks c n i r
    there n i r (inl y) = inr (t, (y.1.0, y.1.1, other y.1.2))
      where
        other : ((is_formed c y.1.0 ≡ false) × (i ≡ 0) × (r ≡ S9)) ⊎ ((is_formed c y.1.0 ≡ true) × BreaksAlone c y.1.0 i r) → BreaksFunction c n y.1.0 i r
        other (inl z) = inl z
        other (inr z) = inr (z.0, alone_is c n y.1.0 i r z.1)
    there n i r (inr y) = inr (t, (y.1.0, y.1.1, inr (y.1.2, subst (BreaksWithin c n y.1.0 i) (sym y.1.4) y.1.3)))

    back : (n i : ℕ) (r : SoundRule) → Breaks c n i r → OwnBelow c (length c.functions) (length c.functions) n i r
    back n i r (inl y) = absurd (y.0 t)
    back n i r (inr y) = by y.1.2
      where
        low : n < length c.functions
        low = slice_get_within c.functions n y.1.0 y.1.1

        by : BreaksFunction c n y.1.0 i r → OwnBelow c (length c.functions) (length c.functions) n i r
        by (inl z) = inl (low, (y.1.0, y.1.1, inl z))
        by (inr z) = at (is_alone c n y.1.0 i r z.1)
          where
            at : BreaksAlone c y.1.0 i r ⊎ (BreaksGroup c n y.1.0 i × (r ≡ S8)) → OwnBelow c (length c.functions) (length c.functions) n i r
            at (inl b) = inl (low, (y.1.0, y.1.1, inr (z.0, b)))
            at (inr b) = inr (low, (y.1.0, y.1.1, z.0, b.0, b.1))

pub none_noted : (c : PlainCode) → Answers (Breaks c) None → IsSound c
none_noted c x = x

pub least_noted : (c : PlainCode) (v : Violation) → Answers (Breaks c) (Some v) → IsLeast c v.function v.at v.rule
least_noted c v x = record { breaks = x.broken; least = x.least }

pub tables_broken : (c : PlainCode) → (AreSoundTables c → ⊥) → IsLeast c 0 0 S0
tables_broken c never = record { breaks = inl (never, refl, refl, refl); least = least }
  where
    least : (m j : ℕ) (r : SoundRule) → Breaks c m j r → IsBefore 0 0 S0 m j r
    least m j r (inl y) = inr (sym y.1, inr (sym y.2, omega arith))
    least m j r (inr y) = absurd (never y.0)

-- ---- the survey

pub survey_releases : (c : PlainCode) (cs : List (Vec Call Global)) (ws : List (Vec Waiting Global)) (ds : List (Vec DropType Global)) → AreRowsBelow c (length c.functions) cs ws ds → AreReleases c ds
survey_releases c cs ws ds a = record { are = λ n i t. (there n i t, back n i t); in_order = order }
  where
    past : (n : ℕ) → length c.functions ≤ n → row_at ds n ≡ []
    past n l = row_past ds n (let e = a.drops_long in omega (arith, l, e))

    there : (n i t : ℕ) → In (drops_at i t) (row_at ds n) → ReleasesAt c n i t
    there n i t m = at (cases_lt n (length c.functions))
      where
        at : (n < length c.functions) ⊎ (length c.functions ≤ n) → ReleasesAt c n i t
        at (inl l) = ((a.rows n l).drops_are i t).0 m
        at (inr l) = absurd (nothing_in (drops_at i t) (row_at ds n) (past n l) m)

    back : (n i t : ℕ) → ReleasesAt c n i t → In (drops_at i t) (row_at ds n)
    back n i t q = ((a.rows n (slice_get_within c.functions n q.0 q.1)).drops_are i t).1 q

    order : (n : ℕ) → AreInOrder (row_at ds n)
    order n = at (cases_lt n (length c.functions))
      where
        at : (n < length c.functions) ⊎ (length c.functions ≤ n) → AreInOrder (row_at ds n)
        at (inl l) = (a.rows n l).in_order
        at (inr l) = subst AreInOrder (sym (past n l)) (λ j q e h p s. absurd (none-some e s))

pub survey_flows : (c : PlainCode) (cs : List (Vec Call Global)) (ws : List (Vec Waiting Global)) (ds : List (Vec DropType Global)) → AreRowsBelow c (length c.functions) cs ws ds → (n : ℕ) → Flows c n
survey_flows c cs ws ds a n f is = (a.rows n (slice_get_within c.functions n f is)).flows f is

-- Each function of a sound code keeps S9, so what each writes was read.
pub survey_literals : (c : PlainCode) (cs : List (Vec Call Global)) (ws : List (Vec Waiting Global)) (ds : List (Vec DropType Global)) → AreRowsBelow c (length c.functions) cs ws ds → ((n : ℕ) (f : PlainFunction) → function_at c n ≡ Some f → is_formed c f ≡ true) → HasMachineInts c
survey_literals c cs ws ds a formed n i f x is at = (a.rows n (slice_get_within c.functions n f is)).literals f is (formed n f is) i x at
