-- Lists of numbers and scopes, and the logic of ⊎.
use Rattle.std.proofs.Common.{◌≡◌, ℕ, ◌<◌, ◌⊎◌, inl, inr, refl, sym, ap, ◌∙◌, List, [], ◌∷◌, ◌++◌, Option, Some, None, Bool, true, false, arith}
use Rattle.std.specs.Prelude.{◌==◌, ◌&&◌, ◌||◌, ◌↔◌, filter, if◌then◌else◌}
use Rattle.std.proofs.lemmas.Bool.Decides.{nat_tests}
use Rattle.fip_rules.specs.Marks.{Entry, Breach}
use Rattle.fip_rules.specs.Notes.{In, has, distinct, or_else, look, when}
use Rattle.fip_base.proofs.fip_language.Facts.{and_false, and_false_first as and_none, or_assoc, sum_exchange as mixed}
pub use Rattle.fip_base.proofs.fip_language.Facts.{equal_true as same_test, greater_unequal as apart_test, greater_unequal_back as apart_back, same_number as same, sum_exchanges as mix}

pub along : (A B C : Type 0) → (A ↔ B) → (B ↔ C) → A ↔ C
along A B C f g = (λ h. g.0 (f.0 h), λ h. f.1 (g.1 h))

pub turned : (A B : Type 0) → (A ↔ B) → B ↔ A
turned A B f = (f.1, f.0)

pub sum_is : (A B C D : Type 0) → (A ↔ B) → (C ↔ D) → (A ⊎ C) ↔ (B ⊎ D)
sum_is A B C D f g = (
  λ h. elim h as (λ x. B ⊎ D) [ inl k ↦ inl (f.0 k) | inr k ↦ inr (g.0 k) ],
  λ h. elim h as (λ x. A ⊎ C) [ inl k ↦ inl (f.1 k) | inr k ↦ inr (g.1 k) ],
)

pub in_left : (v : Breach) (xs ys : List Breach) → In v xs → In v (xs ++ ys)
in_left v [] ys h = absurd h
in_left v (x ∷ xs) ys (inl e) = inl e
in_left v (x ∷ xs) ys (inr h) = inr (in_left v xs ys h)

pub in_right : (v : Breach) (xs ys : List Breach) → In v ys → In v (xs ++ ys)
in_right v [] ys h = h
in_right v (x ∷ xs) ys h = inr (in_right v xs ys h)

pub in_either : (v : Breach) (xs ys : List Breach) → In v (xs ++ ys) → In v xs ⊎ In v ys
in_either v [] ys h = inr h
in_either v (x ∷ xs) ys (inl e) = inl (inl e)
in_either v (x ∷ xs) ys (inr h) = elim (in_either v xs ys h) [ inl g ↦ inl (inr g) | inr g ↦ inr g ]

pub append_is : (v : Breach) (xs ys : List Breach) (A B : Type 0) → (In v xs ↔ A) → (In v ys ↔ B) → In v (xs ++ ys) ↔ (A ⊎ B)
append_is v xs ys A B f g = (
  λ h. elim (in_either v xs ys h) as (λ x. A ⊎ B) [ inl k ↦ inl (f.0 k) | inr k ↦ inr (g.0 k) ],
  λ h. elim h as (λ x. In v (xs ++ ys)) [ inl k ↦ in_left v xs ys (f.1 k) | inr k ↦ in_right v xs ys (g.1 k) ],
)

pub of_when : (b : Bool) (u v : Breach) → In v (when b u) → (b ≡ true) × (v ≡ u)
of_when true u v (inl h) = (refl, h)
of_when true u v (inr h) = absurd h
of_when false u v h = absurd h

pub to_when : (b : Bool) (u v : Breach) → b ≡ true → v ≡ u → In v (when b u)
to_when true u v e h = inl h
to_when false u v e h = absurd (cc)

pub has_append : (xs ys : List ℕ) (x : ℕ) → has (xs ++ ys) x ≡ (has xs x || has ys x)
has_append [] ys x = refl
has_append (z ∷ xs) ys x = ap (λ b. (z == x) || b) (has_append xs ys x) ∙ or_assoc (z == x) (has xs x) (has ys x)

kept_same : (zs : List ℕ) (z x : ℕ) (b c r : Bool) → (z == x) ≡ b → has zs z ≡ c → (has (if c then z ∷ [] else []) x || (r && has zs x)) ≡ ((b || r) && has zs x)
kept_same zs z x true true r e f = let g : z ≡ x = same z x e in rw (e) (let k : has zs x ≡ true = ap (has zs) (sym g) ∙ f in rw k refl)
kept_same zs z x true false r e f = let g : z ≡ x = same z x e in let k : has zs x ≡ false = ap (has zs) (sym g) ∙ f in rw k (and_false r)
kept_same zs z x false true r e f = rw (e) refl
kept_same zs z x false false r e f = refl

or_first : (a b : Bool) → (a || b) ≡ ((a || false) || b)
or_first true b = refl
or_first false b = refl

filter_first : (b : Bool) (z : ℕ) (ws : List ℕ) (x : ℕ) → has (if b then z ∷ ws else ws) x ≡ (has (if b then z ∷ [] else []) x || has ws x)
filter_first true z ws x = or_first (z == x) (has ws x)
filter_first false z ws x = refl

pub has_filter : (zs xs : List ℕ) (x : ℕ) → has (filter (λ y. has zs y) xs) x ≡ (has xs x && has zs x)
has_filter zs [] x = refl
has_filter zs (z ∷ xs) x = filter_first (has zs z) z (filter (λ y. has zs y) xs) x ∙ ap (λ b. has (if has zs z then z ∷ [] else []) x || b) (has_filter zs xs x) ∙ kept_same zs z x (z == x) (has zs z) (has xs x) refl refl

-- ---- lists without repeats

drop_same : (b c : Bool) (z : ℕ) (ws zs : List ℕ) (x : ℕ) → (z == x) ≡ b → has zs z ≡ c → has ws x ≡ has zs x → has (if c then ws else z ∷ ws) x ≡ (b || has zs x)
drop_same true true z ws zs x e f g = let k : z ≡ x = same z x e in g ∙ (ap (has zs) (sym k) ∙ f)
drop_same false true z ws zs x e f g = g
drop_same b false z ws zs x e f g = rw (e) (ap (λ q. b || q) g)

pub has_distinct : (xs : List ℕ) (x : ℕ) → has (distinct xs) x ≡ has xs x
has_distinct [] x = refl
has_distinct (z ∷ xs) x = drop_same (z == x) (has xs z) z (distinct xs) xs x refl refl (has_distinct xs x)

pub has_both : (zs xs : List ℕ) (x : ℕ) → has (filter (λ y. has zs y) (distinct xs)) x ≡ (has xs x && has zs x)
has_both zs xs x = has_filter zs (distinct xs) x ∙ ap (λ b. b && has zs x) (has_distinct xs x)

-- no number twice
abbrev Once : List ℕ → Type 0
Once [] = Unit {0}
Once (x ∷ xs) = (has xs x ≡ false) × Once xs

once_more : (b : Bool) (x : ℕ) (xs : List ℕ) → has xs x ≡ b → Once (distinct xs) → Once (if b then distinct xs else x ∷ distinct xs)
once_more true x xs e h = h
once_more false x xs e h = (has_distinct xs x ∙ e, h)

distinct_once : (xs : List ℕ) → Once (distinct xs)
distinct_once [] = tt
distinct_once (x ∷ xs) = once_more (has xs x) x xs refl (distinct_once xs)

filter_more : (b : Bool) (zs : List ℕ) (x : ℕ) (xs : List ℕ) → has xs x ≡ false → Once (filter (λ y. has zs y) xs) → Once (if b then x ∷ filter (λ y. has zs y) xs else filter (λ y. has zs y) xs)
filter_more true zs x xs e h = (has_filter zs xs x ∙ and_none (has xs x) (has zs x) e, h)
filter_more false zs x xs e h = h

filter_once : (zs xs : List ℕ) → Once xs → Once (filter (λ y. has zs y) xs)
filter_once zs [] h = tt
filter_once zs (x ∷ xs) h = filter_more (has zs x) zs x xs h.0 (filter_once zs xs h.1)

distinct_same : (xs : List ℕ) → Once xs → distinct xs ≡ xs
distinct_same [] h = refl
distinct_same (x ∷ xs) h = rw (h.0) (ap (λ q. x ∷ q) (distinct_same xs h.1))

-- what alternatives use up on every path is in the list once
pub distinct_both : (zs xs : List ℕ) → distinct (filter (λ y. has zs y) (distinct xs)) ≡ filter (λ y. has zs y) (distinct xs)
distinct_both zs xs = distinct_same (filter (λ y. has zs y) (distinct xs)) (filter_once zs (distinct xs) (distinct_once xs))

-- ---- scopes

swap_else : (a b : Bool) (e f : Entry) (o : Option Entry) → or_else (if a then Some f else None) (if b then Some e else o) ≡ (if b then Some e else or_else (if a then Some f else None) o)
swap_else a true e f o = refl
swap_else a false e f o = refl

last_alone : (b : Bool) (e : Entry) → or_else (if b then Some e else None) None ≡ (if b then Some e else None)
last_alone b e = refl

-- the last hides the others
pub look_end : (es : List Entry) (e : Entry) (x : ℕ) → look (es ++ e ∷ []) x ≡ (if e.mark.id == x then Some e else look es x)
look_end [] e x = last_alone (e.mark.id == x) e
look_end (f ∷ es) e x = ap (λ o. or_else (if f.mark.id == x then Some f else None) o) (look_end es e x) ∙ swap_else (f.mark.id == x) (e.mark.id == x) e f (look es x)
