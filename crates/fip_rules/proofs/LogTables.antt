-- A list of numbers as a table of last places and a trail.
use Rattle.std.proofs.Common.{◌≡◌, ℕ, zero, suc, ◌<◌, ◌≤◌, List, [], ◌∷◌, ◌++◌, map, length, get_or, set, Bool, true, false, not, refl, sym, ap, subst, ◌∙◌, arith, append_assoc}
use Rattle.std.specs.Prelude.{◌==◌, ◌+◌, ◌||◌, drop, nat_lt, nat_le, if◌then◌else◌, Option, Some, None, is_some}
use Rattle.std.proofs.lemmas.Bool.Decides.{nat_tests}
use Rattle.fip_rules.specs.Notes.{has}
use Rattle.fip_rules.specs.Shapes.{or_later}
use Rattle.fip_rules.specs.Logs.{last_from, last, is_from, step_number, IsTable, IsTrail}
use Rattle.fip_rules.specs.declared.log.Step.{Step}
use Rattle.fip_base.proofs.fip_language.Facts.{append_none as none_more, less_of_not as room, suc_same, suc_zero, zero_suc}

ended : (c : Bool) (a : Option ℕ) (m n : ℕ) (l : Option ℕ) → m ≡ n → or_later a (if c then Some m else l) ≡ (if c then Some n else or_later a l)
ended true a m n l e = ap Some e
ended false a m n l e = refl

end_from : (p : ℕ) (es : List ℕ) (e x : ℕ) → last_from p (es ++ e ∷ []) x ≡ (if e == x then Some (p + length es) else last_from p es x)
end_from p [] e x = ap (λ n. if e == x then Some n else None) (omega arith)
end_from p (f ∷ es) e x = ap (or_later (if f == x then Some p else None)) (end_from (suc p) es e x) ∙ ended (e == x) (if f == x then Some p else None) (suc p + length es) (p + length (f ∷ es)) (last_from (suc p) es x) (omega arith)

pub last_end : (es : List ℕ) (e x : ℕ) → last (es ++ e ∷ []) x ≡ (if e == x then Some (length es) else last es x)
last_end es e x = end_from 0 es e x ∙ ap (λ n. if e == x then Some n else last es x) (omega arith)

-- what is in the list that begins at place p is at p or later
abbrev Late : ℕ → Option ℕ → Type 0
Late p None = Unit {0}
Late p (Some l) = p ≤ l

late_first : (b : Bool) (p : ℕ) (o : Option ℕ) → Late (suc p) o → Late p (or_later (if b then Some p else None) o)
late_first true p None h = omega arith
late_first false p None h = tt
late_first b p (Some l) h = omega arith

late_from : (p : ℕ) (xs : List ℕ) (x : ℕ) → Late p (last_from p xs x)
late_from p [] x = tt
late_from p (y ∷ ys) x = late_first (y == x) p (last_from (suc p) ys x) (late_from (suc p) ys x)

first_test : (b h : Bool) (p : ℕ) (o : Option ℕ) → Late (suc p) o → is_from (suc p + 0) o ≡ h → is_from (p + 0) (or_later (if b then Some p else None) o) ≡ (b || h)
first_test true h p None f e = grind (arith, nat_tests)
first_test false h p None f e = e
first_test true h p (Some l) f e = grind (arith, nat_tests)
first_test false h p (Some l) f e = grind (arith, nat_tests)

next_test : (b h : Bool) (p j : ℕ) (o : Option ℕ) → is_from (suc p + j) o ≡ h → is_from (p + suc j) (or_later (if b then Some p else None) o) ≡ h
next_test true h p j None e = grind (arith, nat_tests)
next_test false h p j None e = e
next_test b h p j (Some l) e = grind (arith, nat_tests)

since : (p j : ℕ) (xs : List ℕ) (x : ℕ) → is_from (p + j) (last_from p xs x) ≡ has (drop j xs) x
since p zero [] x = refl
since p (suc j) [] x = refl
since p zero (y ∷ ys) x = first_test (y == x) (has ys x) p (last_from (suc p) ys x) (late_from (suc p) ys x) (since (suc p) zero ys x)
since p (suc j) (y ∷ ys) x = next_test (y == x) (has (drop j ys) x) p j (last_from (suc p) ys x) (since (suc p) j ys x)

pub since_is : (k : ℕ) (xs : List ℕ) (x : ℕ) → is_from k (last xs x) ≡ has (drop k xs) x
since_is k xs x = ap (λ n. is_from n (last xs x)) (omega arith) ∙ since 0 k xs x

some_from : (o : Option ℕ) → is_some o ≡ is_from 0 o
some_from None = refl
some_from (Some l) = grind (arith, nat_tests)

pub has_is : (xs : List ℕ) (x : ℕ) → is_some (last xs x) ≡ has xs x
has_is xs x = some_from (last xs x) ∙ since_is 0 xs x

pub get_set : (os : List (Option ℕ)) (x y : ℕ) (q : Option ℕ) → x < length os → get_or (set os x q) y None ≡ (if x == y then q else get_or os y None)
get_set [] x y q h = absurd (omega arith)
get_set (o ∷ os) zero zero q h = refl
get_set (o ∷ os) zero (suc y) q h = rw (zero_suc y) refl
get_set (o ∷ os) (suc x) zero q h = rw (suc_zero x) refl
get_set (o ∷ os) (suc x) (suc y) q h = rw (suc_same x y) (get_set os x y q (omega arith))

table_enter : (os : List (Option ℕ)) (es : List ℕ) (e : ℕ) → IsTable os es → e < length os → IsTable (set os e (Some (length es))) (es ++ e ∷ [])
table_enter os es e h l x = get_set os e x (Some (length es)) l ∙ ap (λ o. if e == x then Some (length es) else o) (h x) ∙ sym (last_end es e x)

same_number : (x y : ℕ) (b : Bool) (es : List ℕ) (t : ℕ) → (x == y) ≡ b → (if b then last es x else (if b then Some t else last es y)) ≡ last es y
same_number x y true es t h = let e : x ≡ y = grind (arith, nat_tests) in ap (last es) e
same_number x y false es t h = refl

-- what was before the last is known again
table_leave : (os : List (Option ℕ)) (es : List ℕ) (e : ℕ) (q : Option ℕ) → IsTable os (es ++ e ∷ []) → q ≡ last es e → e < length os → IsTable (set os e q) es
table_leave os es e q h b l x = get_set os e x q l ∙ ap (λ o. if e == x then q else o) (h x ∙ last_end es e x) ∙ ap (λ q. if e == x then q else (if e == x then Some (length es) else last es x)) b ∙ same_number e x (e == x) es (length es) refl

past : (os : List (Option ℕ)) (x : ℕ) → length os ≤ x → get_or os x None ≡ None
past [] x h = refl
past (o ∷ os) zero h = absurd (omega arith)
past (o ∷ os) (suc x) h = past os x (omega arith)

picked : (es : List ℕ) (e : ℕ) → last (es ++ e ∷ []) e ≡ Some (length es)
picked es e = last_end es e e ∙ (let t : (e == e) ≡ true = grind (arith, nat_tests) in rw t refl)

-- a number in the list has room
has_room : (os : List (Option ℕ)) (es : List ℕ) (e : ℕ) → IsTable os (es ++ e ∷ []) → (length os ≤ e → ⊥)
has_room os es e h l = let a = past os e l in let b = h e in let c = picked es e in absurd (cc)

in_room : (os : List (Option ℕ)) (es : List ℕ) (e : ℕ) → IsTable os (es ++ e ∷ []) → e < length os
in_room os es e h = room e (length os) (has_room os es e h)

one_by_one : (es : List ℕ) (r : Step) (ss : List Step) → (es ++ r.number ∷ []) ++ map step_number ss ≡ es ++ map step_number (r ∷ ss)
one_by_one es r ss = append_assoc es (r.number ∷ []) (map step_number ss)

trail_enter : (es : List ℕ) (ss : List Step) (s : Step) → IsTrail es ss → s.before ≡ last (es ++ map step_number ss) s.number → IsTrail es (ss ++ s ∷ [])
trail_enter es [] s h e = (subst (λ q. s.before ≡ last q s.number) (none_more es) e, tt)
trail_enter es (r ∷ ss) s h e = (h.0, trail_enter (es ++ r.number ∷ []) ss s h.1 (subst (λ q. s.before ≡ last q s.number) (sym (one_by_one es r ss)) e))

trail_leave : (es : List ℕ) (ss : List Step) (s : Step) → IsTrail es (ss ++ s ∷ []) → IsTrail es ss × (s.before ≡ last (es ++ map step_number ss) s.number)
trail_leave es [] s h = (tt, subst (λ q. s.before ≡ last q s.number) (sym (none_more es)) h.0)
trail_leave es (r ∷ ss) s h =
    let g = trail_leave (es ++ r.number ∷ []) ss s h.1 in
    ((h.0, g.0), subst (λ q. s.before ≡ last q s.number) (one_by_one es r ss) g.1)

map_end : (ss : List Step) (s : Step) → map step_number (ss ++ s ∷ []) ≡ map step_number ss ++ s.number ∷ []
map_end [] s = refl
map_end (r ∷ ss) s = ap (λ q. r.number ∷ q) (map_end ss s)

length_map : (ss : List Step) → length (map step_number ss) ≡ length ss
length_map [] = refl
length_map (s ∷ ss) = ap suc (length_map ss)

abbrev pub Holds : List (Option ℕ) → List Step → Type 0
Holds os ss = IsTable os (map step_number ss) × IsTrail [] ss

pub holds_enter : (os os1 os2 : List (Option ℕ)) (ss ss2 : List Step) (e : ℕ) (b : Option ℕ) (k : ℕ) → Holds os ss → ((y : ℕ) → get_or os1 y None ≡ get_or os y None) → e < length os1 → b ≡ get_or os1 e None → ss2 ≡ ss ++ record { number = e; before = b } ∷ [] → k ≡ length ss → os2 ≡ set os1 e (Some k) → Holds os2 ss2
holds_enter os os1 os2 ss ss2 e b k h f l g p w z =
    let s : Step = record { number = e; before = b } in
    let t : IsTable os1 (map step_number ss) = λ x. f x ∙ h.0 x in
    let n : k ≡ length (map step_number ss) = w ∙ sym (length_map ss) in
    let q : os2 ≡ set os1 e (Some (length (map step_number ss))) = z ∙ ap (λ n. set os1 e (Some n)) n in
    let u : IsTable os2 (map step_number ss ++ e ∷ []) = subst (λ o. IsTable o (map step_number ss ++ e ∷ [])) (sym q) (table_enter os1 (map step_number ss) e t l) in
    let v : IsTable os2 (map step_number (ss ++ s ∷ [])) = subst (λ es. IsTable os2 es) (sym (map_end ss s)) u in
    subst (λ r. Holds os2 r) (sym p) (v, trail_enter [] ss s h.1 (g ∙ t e))

pub holds_leave : (os os2 : List (Option ℕ)) (ss ss2 : List Step) (s : Step) → Holds os ss → ss ≡ ss2 ++ s ∷ [] → os2 ≡ set os s.number s.before → Holds os2 ss2
holds_leave os os2 ss ss2 s h p q =
    let k : Holds os (ss2 ++ s ∷ []) = subst (λ r. Holds os r) p h in
    let t : IsTable os (map step_number ss2 ++ s.number ∷ []) = subst (λ es. IsTable os es) (map_end ss2 s) k.0 in
    let g = trail_leave [] ss2 s k.1 in
    (subst (λ o. IsTable o (map step_number ss2)) (sym q) (table_leave os (map step_number ss2) s.number s.before t g.1 (in_room os (map step_number ss2) s.number t)), g.0)

pub drop_step : (ss : List Step) (i : ℕ) (s : Step) → s ≡ get_or ss i s → i < length (map step_number ss) → drop i (map step_number ss) ≡ s.number ∷ drop (suc i) (map step_number ss)
drop_step [] i s e h = absurd (omega arith)
drop_step (r ∷ ss) zero s e h = ap (λ (q : Step). q.number ∷ map step_number ss) (sym e)
drop_step (r ∷ ss) (suc i) s e h = drop_step ss i s e (omega arith)

pub not_before : (k l : ℕ) → nat_le k l ≡ not (nat_lt l k)
not_before k l = grind (arith, nat_tests)
