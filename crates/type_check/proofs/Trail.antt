-- A scope's table and trail: what entering and leaving a variable keeps.
use Rattle.std.proofs.Common.{◌≡◌, ℕ, zero, suc, ◌<◌, ◌≤◌, List, [], ◌∷◌, ◌++◌, map, length, get_or, set, Option, Some, None, Bool, true, false, refl, sym, ap, subst, ◌∙◌, arith, append_assoc}
use Rattle.std.specs.Prelude.{◌==◌, if◌then◌else◌}
use Rattle.std.proofs.lemmas.Bool.Decides.{nat_tests}
use Rattle.type_check.specs.Scope.{or_else, look}
use Rattle.type_check.specs.Trail.{step_entry, IsTable, IsTrail}
use Rattle.type_check.specs.declared.scope.Entry.{Entry}
use Rattle.type_check.specs.declared.scope.Step.{Step}
use Rattle.fip_language.proofs.Facts.{less_of_not as room, suc_same, suc_zero, zero_suc}

last_one : (b : Bool) (t : Option ℕ) → or_else None (if b then Some t else None) ≡ (if b then Some t else None)
last_one b t = refl

outer : (b c : Bool) (t u : Option ℕ) (o : Option (Option ℕ)) → or_else (if b then Some t else o) (if c then Some u else None) ≡ (if b then Some t else or_else o (if c then Some u else None))
outer true c t u o = refl
outer false c t u o = refl

-- the last hides the others
pub look_end : (es : List Entry) (e : Entry) (x : ℕ) → look (es ++ e ∷ []) x ≡ (if e.number == x then Some e.ty else look es x)
look_end [] e x = refl
look_end (f ∷ es) e x = ap (λ o. or_else o (if f.number == x then Some f.ty else None)) (look_end es e x) ∙ outer (e.number == x) (f.number == x) e.ty f.ty (look es x)

pub get_set : (os : List (Option (Option ℕ))) (x y : ℕ) (q : Option (Option ℕ)) → x < length os → get_or (set os x q) y None ≡ (if x == y then q else get_or os y None)
get_set [] x y q h = absurd (omega arith)
get_set (o ∷ os) zero zero q h = refl
get_set (o ∷ os) zero (suc y) q h = rw (zero_suc y) refl
get_set (o ∷ os) (suc x) zero q h = rw (suc_zero x) refl
get_set (o ∷ os) (suc x) (suc y) q h = rw (suc_same x y) (get_set os x y q (omega arith))

pub table_enter : (os : List (Option (Option ℕ))) (es : List Entry) (e : Entry) → IsTable os es → e.number < length os → IsTable (set os e.number (Some e.ty)) (es ++ e ∷ [])
table_enter os es e h l x = get_set os e.number x (Some e.ty) l ∙ ap (λ o. if e.number == x then Some e.ty else o) (h x) ∙ sym (look_end es e x)

same_number : (x y : ℕ) (b : Bool) (es : List Entry) (t : Option ℕ) → (x == y) ≡ b → (if b then look es x else (if b then Some t else look es y)) ≡ look es y
same_number x y true es t h = let e : x ≡ y = grind (arith, nat_tests) in ap (look es) e
same_number x y false es t h = refl

-- what was before the last is known again
pub table_leave : (os : List (Option (Option ℕ))) (es : List Entry) (e : Entry) (q : Option (Option ℕ)) → IsTable os (es ++ e ∷ []) → q ≡ look es e.number → e.number < length os → IsTable (set os e.number q) es
table_leave os es e q h b l x = get_set os e.number x q l ∙ ap (λ o. if e.number == x then q else o) (h x ∙ look_end es e x) ∙ ap (λ q. if e.number == x then q else (if e.number == x then Some e.ty else look es x)) b ∙ same_number e.number x (e.number == x) es e.ty refl

past : (os : List (Option (Option ℕ))) (x : ℕ) → length os ≤ x → get_or os x None ≡ None
past [] x h = refl
past (o ∷ os) zero h = absurd (omega arith)
past (o ∷ os) (suc x) h = past os x (omega arith)

picked : (es : List Entry) (e : Entry) → look (es ++ e ∷ []) e.number ≡ Some e.ty
picked es e = look_end es e e.number ∙ (let t : (e.number == e.number) ≡ true = grind (arith, nat_tests) in rw t refl)

-- a number in scope has room
pub has_room : (os : List (Option (Option ℕ))) (es : List Entry) (e : Entry) → IsTable os (es ++ e ∷ []) → (length os ≤ e.number → ⊥)
has_room os es e h l = let a = past os e.number l in let b = h e.number in let c = picked es e in absurd (cc)

pub in_room : (os : List (Option (Option ℕ))) (es : List Entry) (e : Entry) → IsTable os (es ++ e ∷ []) → e.number < length os
in_room os es e h = room e.number (length os) (has_room os es e h)

none_more : (es : List Entry) → es ++ [] ≡ es
none_more [] = refl
none_more (e ∷ es) = ap (λ q. e ∷ q) (none_more es)

one_by_one : (es : List Entry) (r : Step) (ss : List Step) → (es ++ r.entry ∷ []) ++ map step_entry ss ≡ es ++ map step_entry (r ∷ ss)
one_by_one es r ss = append_assoc es (r.entry ∷ []) (map step_entry ss)

pub trail_enter : (es : List Entry) (ss : List Step) (s : Step) → IsTrail es ss → s.before ≡ look (es ++ map step_entry ss) s.entry.number → IsTrail es (ss ++ s ∷ [])
trail_enter es [] s h e = (subst (λ q. s.before ≡ look q s.entry.number) (none_more es) e, tt)
trail_enter es (r ∷ ss) s h e = (h.0, trail_enter (es ++ r.entry ∷ []) ss s h.1 (subst (λ q. s.before ≡ look q s.entry.number) (sym (one_by_one es r ss)) e))

pub trail_leave : (es : List Entry) (ss : List Step) (s : Step) → IsTrail es (ss ++ s ∷ []) → IsTrail es ss × (s.before ≡ look (es ++ map step_entry ss) s.entry.number)
trail_leave es [] s h = (tt, subst (λ q. s.before ≡ look q s.entry.number) (sym (none_more es)) h.0)
trail_leave es (r ∷ ss) s h =
    let g = trail_leave (es ++ r.entry ∷ []) ss s h.1 in
    ((h.0, g.0), subst (λ q. s.before ≡ look q s.entry.number) (one_by_one es r ss) g.1)

map_end : (ss : List Step) (s : Step) → map step_entry (ss ++ s ∷ []) ≡ map step_entry ss ++ s.entry ∷ []
map_end [] s = refl
map_end (r ∷ ss) s = ap (λ q. r.entry ∷ q) (map_end ss s)

abbrev pub Holds : List (Option (Option ℕ)) → List Step → Type 0
Holds os ss = IsTable os (map step_entry ss) × IsTrail [] ss

pub holds_enter : (os os1 os2 : List (Option (Option ℕ))) (ss ss2 : List Step) (e : Entry) (b : Option (Option ℕ)) → Holds os ss → ((y : ℕ) → get_or os1 y None ≡ get_or os y None) → e.number < length os1 → b ≡ get_or os1 e.number None → ss2 ≡ ss ++ record { entry = e; before = b } ∷ [] → os2 ≡ set os1 e.number (Some e.ty) → Holds os2 ss2
holds_enter os os1 os2 ss ss2 e b h f l g p q =
    let s : Step = record { entry = e; before = b } in
    let t : IsTable os1 (map step_entry ss) = λ x. f x ∙ h.0 x in
    let u : IsTable os2 (map step_entry ss ++ e ∷ []) = subst (λ o. IsTable o (map step_entry ss ++ e ∷ [])) (sym q) (table_enter os1 (map step_entry ss) e t l) in
    let v : IsTable os2 (map step_entry (ss ++ s ∷ [])) = subst (λ es. IsTable os2 es) (sym (map_end ss s)) u in
    subst (λ r. Holds os2 r) (sym p) (v, trail_enter [] ss s h.1 (g ∙ t e.number))

pub holds_leave : (os os2 : List (Option (Option ℕ))) (ss ss2 : List Step) (s : Step) → Holds os ss → ss ≡ ss2 ++ s ∷ [] → os2 ≡ set os s.entry.number s.before → Holds os2 ss2
holds_leave os os2 ss ss2 s h p q =
    let k : Holds os (ss2 ++ s ∷ []) = subst (λ r. Holds os r) p h in
    let t : IsTable os (map step_entry ss2 ++ s.entry ∷ []) = subst (λ es. IsTable os es) (map_end ss2 s) k.0 in
    let g = trail_leave [] ss2 s k.1 in
    (subst (λ o. IsTable o (map step_entry ss2)) (sym q) (table_leave os (map step_entry ss2) s.entry s.before t g.1 (in_room os (map step_entry ss2) s.entry t)), g.0)
