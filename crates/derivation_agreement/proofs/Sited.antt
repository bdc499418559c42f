-- Where variables are in the tables: each binder has one number.
use Rattle.std.proofs.Common.{◌≡◌, ℕ, zero, suc, ◌<◌, ◌≤◌, ◌+◌, ◌⊎◌, inl, inr, refl, sym, ap, ap₂, subst, ◌∙◌, append_assoc, List, [], ◌∷◌, ◌++◌, length, get_or, set, slice_get, Option, Some, None, Bool, true, false, not, arith}
use Rattle.std.proofs.lemmas.List.{length-append}
use Rattle.std.specs.Prelude.{◌==◌, if◌then◌else◌}
use Rattle.std.proofs.lemmas.Bool.{eqb-true}
use Rattle.tail_groups.specs.fip_base.declared.plain.Param.{Param}
use Rattle.tail_groups.specs.fip_trees.declared.program.Binder.{Binder}
use Rattle.tail_groups.specs.fip_trees.Tree.{Program, Expression, Give, Tuple, Operation, Call, Match, Nested, Block, Last, Let, Clauses, NoClauses, MoreClauses, Instance}
use Rattle.derivation_walk.specs.fip_rules.World.{World}
use Rattle.derivation_walk.specs.fip_rules.Shapes.{binders}
use Rattle.derivation_making.specs.derivation_check.Scopes.{Known, known, named, parameters, AreNumbered, within, within_block, within_clauses}
use Rattle.derivation_walk.specs.declared.found.Bound.{Bound}
use Rattle.derivation_walk.specs.declared.tables.Uses.{Uses}
use Rattle.derivation_walk.specs.Tables.{zeros, numbers_from, numbers_of}
use Rattle.derivation_walk.specs.Lookups.{number_at, variable_at}
use Rattle.derivation_making.specs.Numbered.{Numbered, NumberedBlock, NumberedClauses, IsNumbered}
use Rattle.derivation_agreement.proofs.Seeing.{slots, slots_in, slots_parts, slots_clauses, parameter_slots}
use Rattle.tail_groups.proofs.fip_language.Facts.{get_seam, set_length}

-- ---- parts of lists

pub record Piece {A : Type 0} (whole part : List A) (i : ℕ) : Type 0 where
  pub before : List A
  pub following : List A
  pub is : whole ≡ before ++ (part ++ following)
  pub at : length before ≡ i

pub piece_first : {A : Type 0} (whole xs ys : List A) (i : ℕ) → Piece whole (xs ++ ys) i → Piece whole xs i
piece_first whole xs ys i h = record { before = h.before; following = ys ++ h.following; is = h.is ∙ ap (λ z. h.before ++ z) (append_assoc xs ys h.following); at = h.at }

pub piece_second : {A : Type 0} (whole xs ys : List A) (i j : ℕ) → j ≡ i + length xs → Piece whole (xs ++ ys) i → Piece whole ys j
piece_second whole xs ys i j e h = record {
  before = h.before ++ xs;
  following = h.following;
  is = h.is ∙ ap (λ z. h.before ++ z) (append_assoc xs ys h.following) ∙ sym (append_assoc h.before xs (ys ++ h.following));
  at = let l = length-append h.before xs in let a = h.at in omega (arith, l, a, e);
}

pub piece_get : {A : Type 0} (whole ys : List A) (y : A) (i : ℕ) → Piece whole (y ∷ ys) i → slice_get whole i ≡ Some y
piece_get whole ys y i h = ap (λ k. slice_get whole k) (sym h.at) ∙ ap (λ z. slice_get z (length h.before)) h.is ∙ get_seam h.before y (ys ++ h.following)

-- ---- binders from c to before m, each once

abbrev pub Ranged : ℕ → ℕ → List Bound → Type 0
Ranged c m [] = Unit {0}
Ranged c m (v ∷ vs) = (c ≤ v.binder) × (v.binder < m) × Ranged c m vs

abbrev Apart : ℕ → List Bound → Type 0
Apart x [] = Unit {0}
Apart x (v ∷ vs) = (v.binder ≡ x → ⊥) × Apart x vs

abbrev pub Distinct : List Bound → Type 0
Distinct [] = Unit {0}
Distinct (v ∷ vs) = Apart v.binder vs × Distinct vs

pub ranged_append : (c m : ℕ) (xs ys : List Bound) → Ranged c m xs → Ranged c m ys → Ranged c m (xs ++ ys)
ranged_append c m [] ys h g = g
ranged_append c m (x ∷ xs) ys h g = (h.0, h.1, ranged_append c m xs ys h.2 g)

pub ranged_wider : (c m k n : ℕ) (xs : List Bound) → k ≤ c → m ≤ n → Ranged c m xs → Ranged k n xs
ranged_wider c m k n [] a b h = tt
ranged_wider c m k n (x ∷ xs) a b h = let p = h.0 in let q = h.1 in (omega (arith, p, a), omega (arith, q, b), ranged_wider c m k n xs a b h.2)

apart_append : (x : ℕ) (xs ys : List Bound) → Apart x xs → Apart x ys → Apart x (xs ++ ys)
apart_append x [] ys h g = g
apart_append x (y ∷ xs) ys h g = (h.0, apart_append x xs ys h.1 g)

apart_ranged : (x c m : ℕ) (xs : List Bound) → Ranged c m xs → (x < c) ⊎ (m ≤ x) → Apart x xs
apart_ranged x c m [] h l = tt
apart_ranged x c m (y ∷ xs) h (inl l) = let p = h.0 in ((λ e. absurd (omega (arith, e, p, l))), apart_ranged x c m xs h.2 (inl l))
apart_ranged x c m (y ∷ xs) h (inr l) = let p = h.1 in ((λ e. absurd (omega (arith, e, p, l))), apart_ranged x c m xs h.2 (inr l))

pub distinct_append : (a b c d : ℕ) (xs ys : List Bound) → Ranged a b xs → Ranged c d ys → (b ≤ c) ⊎ (d ≤ a) → Distinct xs → Distinct ys → Distinct (xs ++ ys)
distinct_append a b c d [] ys r q l h g = g
distinct_append a b c d (x ∷ xs) ys r q (inl l) h g =
    let m = r.1 in
    (apart_append x.binder xs ys h.0 (apart_ranged x.binder c d ys q (inl (omega (arith, m, l)))), distinct_append a b c d xs ys r.2 q (inl l) h.1 g)
distinct_append a b c d (x ∷ xs) ys r q (inr l) h g =
    let m = r.0 in
    (apart_append x.binder xs ys h.0 (apart_ranged x.binder c d ys q (inr (omega (arith, m, l)))), distinct_append a b c d xs ys r.2 q (inr l) h.1 g)

distinct_after : (xs : List Bound) (v : Bound) (ys : List Bound) → Distinct (xs ++ v ∷ ys) → Apart v.binder ys
distinct_after [] v ys h = h.0
distinct_after (x ∷ xs) v ys h = distinct_after xs v ys h.1

pub slots_ranged : (w : World) (c d : ℕ) (bs : List Binder) → AreNumbered c d bs → Ranged c (c + length bs) (slots w bs)
slots_ranged w c d [] h = tt
slots_ranged w c d (b ∷ bs) h =
    let e = h.0 in
    (omega (arith, e), omega (arith, e), ranged_wider (c + 1) (c + 1 + length bs) c (c + suc (length bs)) (slots w bs) (omega arith) (omega arith) (slots_ranged w (c + 1) (d + 1) bs h.2))

pub slots_distinct : (w : World) (c d : ℕ) (bs : List Binder) → AreNumbered c d bs → Distinct (slots w bs)
slots_distinct w c d [] h = tt
slots_distinct w c d (b ∷ bs) h =
    let e = h.0 in
    (apart_ranged b.number (c + 1) (c + 1 + length bs) (slots w bs) (slots_ranged w (c + 1) (d + 1) bs h.2) (inl (omega (arith, e))), slots_distinct w (c + 1) (d + 1) bs h.2)

mutual
  in_ranged : (p : Program) (w : World) (c d : ℕ) (e : Expression) → Numbered p c d e → Ranged c (c + within e) (slots_in w e)
  in_ranged p w c d (Give a) h = tt
  in_ranged p w c d (Tuple q as') h = tt
  in_ranged p w c d (Operation o q l r) h = tt
  in_ranged p w c d (Call g n q as') h = tt
  in_ranged p w c d (Match k t q a r body cs) h =
      let n = length (binders r) in
      let s = within_block body in
      let m = within_clauses cs in
      let j = c + (n + s + m) in
      ranged_append c j (slots w (binders r)) (slots_parts w body ++ slots_clauses w cs)
      (ranged_wider c (c + n) c j (slots w (binders r)) (omega arith) (omega arith) (slots_ranged w c d (binders r) h.0))
      (ranged_append c j (slots_parts w body) (slots_clauses w cs)
      (ranged_wider (c + n) (c + n + s) c j (slots_parts w body) (omega arith) (omega arith) (parts_ranged p w (c + n) (d + n) body h.1))
      (ranged_wider (c + n + s) (c + n + s + m) c j (slots_clauses w cs) (omega arith) (omega arith) (clauses_ranged p w (c + n + s) (d + n + s) cs h.2)))
  in_ranged p w c d (Nested b) h = parts_ranged p w c d b h

  pub parts_ranged : (p : Program) (w : World) (c d : ℕ) (b : Block) → NumberedBlock p c d b → Ranged c (c + within_block b) (slots_parts w b)
  parts_ranged p w c d (Last e) h = in_ranged p w c d e h
  parts_ranged p w c d (Let bs e rest) h =
      let n = length bs in
      let s = within e in
      let m = within_block rest in
      let j = c + (s + n + m) in
      ranged_append c j (slots w bs) (slots_in w e ++ slots_parts w rest)
      (ranged_wider (c + s) (c + s + n) c j (slots w bs) (omega arith) (omega arith) (slots_ranged w (c + s) d bs h.1))
      (ranged_append c j (slots_in w e) (slots_parts w rest)
      (ranged_wider c (c + s) c j (slots_in w e) (omega arith) (omega arith) (in_ranged p w c (d + n) e h.2))
      (ranged_wider (c + s + n) (c + s + n + m) c j (slots_parts w rest) (omega arith) (omega arith) (parts_ranged p w (c + s + n) (d + s + n) rest h.3)))

  clauses_ranged : (p : Program) (w : World) (c d : ℕ) (cs : Clauses) → NumberedClauses p c d cs → Ranged c (c + within_clauses cs) (slots_clauses w cs)
  clauses_ranged p w c d NoClauses h = tt
  clauses_ranged p w c d (MoreClauses r body cs) h =
      let n = length (binders r) in
      let s = within_block body in
      let m = within_clauses cs in
      let j = c + (n + s + m) in
      ranged_append c j (slots w (binders r)) (slots_parts w body ++ slots_clauses w cs)
      (ranged_wider c (c + n) c j (slots w (binders r)) (omega arith) (omega arith) (slots_ranged w c d (binders r) h.0))
      (ranged_append c j (slots_parts w body) (slots_clauses w cs)
      (ranged_wider (c + n) (c + n + s) c j (slots_parts w body) (omega arith) (omega arith) (parts_ranged p w (c + n) (d + n) body h.1))
      (ranged_wider (c + n + s) (c + n + s + m) c j (slots_clauses w cs) (omega arith) (omega arith) (clauses_ranged p w (c + n + s) (d + n + s) cs h.2)))

-- what a let binds has numbers between those of what is bound and those of the rest
three : (a b k m : ℕ) (xs ys zs : List Bound) → Ranged a b xs → Ranged k a ys → Ranged b m zs → Distinct xs → Distinct (ys ++ zs) → Distinct (xs ++ (ys ++ zs))
three a b k m [] ys zs r q t h g = g
three a b k m (x ∷ xs) ys zs r q t h g =
    let l = r.0 in
    let n = r.1 in
    (apart_append x.binder xs (ys ++ zs) h.0 (apart_append x.binder ys zs (apart_ranged x.binder k a ys q (inr l)) (apart_ranged x.binder b m zs t (inl n))), three a b k m xs ys zs r.2 q t h.1 g)

mutual
  in_distinct : (p : Program) (w : World) (c d : ℕ) (e : Expression) → Numbered p c d e → Distinct (slots_in w e)
  in_distinct p w c d (Give a) h = tt
  in_distinct p w c d (Tuple q as') h = tt
  in_distinct p w c d (Operation o q l r) h = tt
  in_distinct p w c d (Call g n q as') h = tt
  in_distinct p w c d (Match k t q a r body cs) h =
      let n = length (binders r) in
      let s = within_block body in
      let m = within_clauses cs in
      distinct_append c (c + n) (c + n) (c + n + s + m) (slots w (binders r)) (slots_parts w body ++ slots_clauses w cs) (slots_ranged w c d (binders r) h.0)
      (ranged_append (c + n) (c + n + s + m) (slots_parts w body) (slots_clauses w cs)
      (ranged_wider (c + n) (c + n + s) (c + n) (c + n + s + m) (slots_parts w body) (omega arith) (omega arith) (parts_ranged p w (c + n) (d + n) body h.1))
      (ranged_wider (c + n + s) (c + n + s + m) (c + n) (c + n + s + m) (slots_clauses w cs) (omega arith) (omega arith) (clauses_ranged p w (c + n + s) (d + n + s) cs h.2)))
      (inl (omega arith)) (slots_distinct w c d (binders r) h.0)
      (distinct_append (c + n) (c + n + s) (c + n + s) (c + n + s + m) (slots_parts w body) (slots_clauses w cs) (parts_ranged p w (c + n) (d + n) body h.1) (clauses_ranged p w (c + n + s) (d + n + s) cs h.2)
      (inl (omega arith)) (parts_distinct p w (c + n) (d + n) body h.1) (clauses_distinct p w (c + n + s) (d + n + s) cs h.2))
  in_distinct p w c d (Nested b) h = parts_distinct p w c d b h

  pub parts_distinct : (p : Program) (w : World) (c d : ℕ) (b : Block) → NumberedBlock p c d b → Distinct (slots_parts w b)
  parts_distinct p w c d (Last e) h = in_distinct p w c d e h
  parts_distinct p w c d (Let bs e rest) h =
      let n = length bs in
      let s = within e in
      let m = within_block rest in
      let er = distinct_append c (c + s) (c + s + n) (c + s + n + m) (slots_in w e) (slots_parts w rest) (in_ranged p w c (d + n) e h.2) (parts_ranged p w (c + s + n) (d + s + n) rest h.3) (inl (omega arith)) (in_distinct p w c (d + n) e h.2) (parts_distinct p w (c + s + n) (d + s + n) rest h.3) in
      three (c + s) (c + s + n) c (c + s + n + m) (slots w bs) (slots_in w e) (slots_parts w rest) (slots_ranged w (c + s) d bs h.1) (in_ranged p w c (d + n) e h.2) (parts_ranged p w (c + s + n) (d + s + n) rest h.3) (slots_distinct w (c + s) d bs h.1) er

  clauses_distinct : (p : Program) (w : World) (c d : ℕ) (cs : Clauses) → NumberedClauses p c d cs → Distinct (slots_clauses w cs)
  clauses_distinct p w c d NoClauses h = tt
  clauses_distinct p w c d (MoreClauses r body cs) h =
      let n = length (binders r) in
      let s = within_block body in
      let m = within_clauses cs in
      distinct_append c (c + n) (c + n) (c + n + s + m) (slots w (binders r)) (slots_parts w body ++ slots_clauses w cs) (slots_ranged w c d (binders r) h.0)
      (ranged_append (c + n) (c + n + s + m) (slots_parts w body) (slots_clauses w cs)
      (ranged_wider (c + n) (c + n + s) (c + n) (c + n + s + m) (slots_parts w body) (omega arith) (omega arith) (parts_ranged p w (c + n) (d + n) body h.1))
      (ranged_wider (c + n + s) (c + n + s + m) (c + n) (c + n + s + m) (slots_clauses w cs) (omega arith) (omega arith) (clauses_ranged p w (c + n + s) (d + n + s) cs h.2)))
      (inl (omega arith)) (slots_distinct w c d (binders r) h.0)
      (distinct_append (c + n) (c + n + s) (c + n + s) (c + n + s + m) (slots_parts w body) (slots_clauses w cs) (parts_ranged p w (c + n) (d + n) body h.1) (clauses_ranged p w (c + n + s) (d + n + s) cs h.2)
      (inl (omega arith)) (parts_distinct p w (c + n) (d + n) body h.1) (clauses_distinct p w (c + n + s) (d + n + s) cs h.2))

-- ---- how many

pub slots_length : (w : World) (bs : List Binder) → length (slots w bs) ≡ length bs
slots_length w [] = refl
slots_length w (b ∷ bs) = ap suc (slots_length w bs)

mutual
  pub in_length : (w : World) (e : Expression) → length (slots_in w e) ≡ within e
  in_length w (Give a) = refl
  in_length w (Tuple q as') = refl
  in_length w (Operation o q l r) = refl
  in_length w (Call g n q as') = refl
  in_length w (Match k t q a r body cs) =
      let a1 = length-append (slots w (binders r)) (slots_parts w body ++ slots_clauses w cs) in
      let a2 = length-append (slots_parts w body) (slots_clauses w cs) in
      let b1 = slots_length w (binders r) in
      let b2 = parts_length w body in
      let b3 = clauses_length w cs in
      omega (arith, a1, a2, b1, b2, b3)
  in_length w (Nested b) = parts_length w b

  pub parts_length : (w : World) (b : Block) → length (slots_parts w b) ≡ within_block b
  parts_length w (Last e) = in_length w e
  parts_length w (Let bs e rest) =
      let a1 = length-append (slots w bs) (slots_in w e ++ slots_parts w rest) in
      let a2 = length-append (slots_in w e) (slots_parts w rest) in
      let b1 = slots_length w bs in
      let b2 = in_length w e in
      let b3 = parts_length w rest in
      omega (arith, a1, a2, b1, b2, b3)

  clauses_length : (w : World) (cs : Clauses) → length (slots_clauses w cs) ≡ within_clauses cs
  clauses_length w NoClauses = refl
  clauses_length w (MoreClauses r body cs) =
      let a1 = length-append (slots w (binders r)) (slots_parts w body ++ slots_clauses w cs) in
      let a2 = length-append (slots_parts w body) (slots_clauses w cs) in
      let b1 = slots_length w (binders r) in
      let b2 = parts_length w body in
      let b3 = clauses_length w cs in
      omega (arith, a1, a2, b1, b2, b3)

-- ---- parameters

pub parameters_ranged : (w : World) (n : ℕ) (ps : List Param) → Ranged n (n + length ps) (parameter_slots w n ps)
parameters_ranged w n [] = tt
parameters_ranged w n (p ∷ ps) =
    (omega arith, omega arith, ranged_wider (n + 1) (n + 1 + length ps) n (n + suc (length ps)) (parameter_slots w (n + 1) ps) (omega arith) (omega arith) (parameters_ranged w (n + 1) ps))

pub parameters_distinct : (w : World) (n : ℕ) (ps : List Param) → Distinct (parameter_slots w n ps)
parameters_distinct w n [] = tt
parameters_distinct w n (p ∷ ps) =
    (apart_ranged n (n + 1) (n + 1 + length ps) (parameter_slots w (n + 1) ps) (parameters_ranged w (n + 1) ps) (inl (omega arith)), parameters_distinct w (n + 1) ps)

pub parameters_length : (w : World) (n : ℕ) (ps : List Param) → length (parameter_slots w n ps) ≡ length ps
parameters_length w n [] = refl
parameters_length w n (p ∷ ps) = ap suc (parameters_length w (n + 1) ps)

-- ---- numbers

set_same : (xs : List ℕ) (i n : ℕ) → i < length xs → get_or (set xs i n) i 0 ≡ n
set_same [] i n l = absurd (omega arith)
set_same (x ∷ xs) zero n l = refl
set_same (x ∷ xs) (suc i) n l = set_same xs i n (omega arith)

set_other : (xs : List ℕ) (i j n : ℕ) → (i ≡ j → ⊥) → get_or (set xs i n) j 0 ≡ get_or xs j 0
set_other [] i j n h = refl
set_other (x ∷ xs) zero zero n h = absurd (h refl)
set_other (x ∷ xs) zero (suc j) n h = refl
set_other (x ∷ xs) (suc i) zero n h = refl
set_other (x ∷ xs) (suc i) (suc j) n h = set_other xs i j n (λ e. h (ap suc e))

number_later : (x n : ℕ) (ns : List ℕ) (vs : List Bound) → Apart x vs → get_or (numbers_from ns n vs) x 0 ≡ get_or ns x 0
number_later x n ns [] h = refl
number_later x n ns (v ∷ vs) h = number_later x (n + 1) (set ns v.binder n) vs h.1 ∙ set_other ns v.binder x n h.0

number_here : (n : ℕ) (ns : List ℕ) (xs : List Bound) (v : Bound) (ys : List Bound) → Apart v.binder ys → v.binder < length ns → get_or (numbers_from ns n (xs ++ v ∷ ys)) v.binder 0 ≡ n + length xs
number_here n ns [] v ys h l = number_later v.binder (n + 1) (set ns v.binder n) ys h ∙ set_same ns v.binder n l ∙ (let e : n ≡ n + 0 = omega arith in e)
number_here n ns (x ∷ xs) v ys h l =
    let k = set_length ns x.binder n in
    number_here (n + 1) (set ns x.binder n) xs v ys h (omega (arith, k, l)) ∙ (let e : n + 1 + length xs ≡ n + suc (length xs) = omega arith in e)

zeros_length : (n : ℕ) → length (zeros n) ≡ n
zeros_length zero = refl
zeros_length (suc n) = ap suc (zeros_length n)

-- ---- variables in scope

-- the tables of a list of variables, each of another binder below their number
pub record IsTable (order : List Bound) (u : Uses) : Type 0 where
  pub variables : u.variables.items ≡ order
  pub numbers : u.numbers.items ≡ numbers_of order
  pub distinct : Distinct order
  pub ranged : Ranged 0 (length order) order

pub record Sited (w : World) (order : List Bound) (u : Uses) (v : Known) : Type 0 where
  pub variable : variable_at u v.number ≡ Some record { binder = v.binder; is_scalar = w.scalar v.ty }
  pub number : number_at u v.binder ≡ v.number
  pub few : v.binder < length order

abbrev pub AllSited : World → List Bound → Uses → List Known → Type 0
AllSited w order u [] = Unit {0}
AllSited w order u (v ∷ vs) = Sited w order u v × AllSited w order u vs

pub all_append : (w : World) (order : List Bound) (u : Uses) (vs us : List Known) → AllSited w order u vs → AllSited w order u us → AllSited w order u (vs ++ us)
all_append w order u [] us h g = g
all_append w order u (v ∷ vs) us h g = (h.0, all_append w order u vs us h.1 g)

ranged_at : (c m : ℕ) (xs : List Bound) (v : Bound) (ys : List Bound) → Ranged c m (xs ++ v ∷ ys) → v.binder < m
ranged_at c m [] v ys h = h.1
ranged_at c m (x ∷ xs) v ys h = ranged_at c m xs v ys h.2

site : (w : World) (order : List Bound) (u : Uses) (x t d : ℕ) (own : Bool) (vs : List Bound) → IsTable order u → Piece order (record { binder = x; is_scalar = w.scalar t } ∷ vs) d → Sited w order u (record { binder = x; number = d; ty = t; owned = own })
site w order u x t d own vs h g =
    let v : Bound = record { binder = x; is_scalar = w.scalar t } in
    let few : x < length order = ranged_at 0 (length order) g.before v (vs ++ g.following) (subst (Ranged 0 (length order)) g.is h.ranged) in
    let z = zeros_length (length order) in
    let a : Apart x (vs ++ g.following) = distinct_after g.before v (vs ++ g.following) (subst Distinct g.is h.distinct) in
    record {
      variable = ap (λ q. slice_get q d) h.variables ∙ piece_get order vs v d g;
      number = ap (λ q. get_or q x 0) h.numbers ∙ ap (λ q. get_or (numbers_from (zeros (length order)) 0 q) x 0) g.is
          ∙ number_here 0 (zeros (length order)) g.before v (vs ++ g.following) a (omega (arith, z, few)) ∙ (let l = g.at in let e : 0 + length g.before ≡ d = omega (arith, l) in e);
      few = few;
    }

pub named_sited : (w : World) (order : List Bound) (u : Uses) (d : ℕ) (own : Bool) (bs : List Binder) → IsTable order u → Piece order (slots w bs) d → AllSited w order u (named d own bs)
named_sited w order u d own [] h g = tt
named_sited w order u d own (b ∷ bs) h g =
    (site w order u b.number b.ty d own (slots w bs) h g, named_sited w order u (d + 1) own bs h (piece_second order (record { binder = b.number; is_scalar = w.scalar b.ty } ∷ []) (slots w bs) d (d + 1) refl g))

pub parameters_sited : (w : World) (order : List Bound) (u : Uses) (n : ℕ) (ps : List Param) → IsTable order u → Piece order (parameter_slots w n ps) n → AllSited w order u (parameters n ps)
parameters_sited w order u n [] h g = tt
parameters_sited w order u n (p ∷ ps) h g =
    (site w order u n p.ty n (not p.lent) (parameter_slots w (n + 1) ps) h g, parameters_sited w order u (n + 1) ps h (piece_second order (record { binder = n; is_scalar = w.scalar p.ty } ∷ []) (parameter_slots w (n + 1) ps) n (n + 1) refl g))

pub sited_known : (w : World) (order : List Bound) (u : Uses) (vs : List Known) (x : ℕ) (v : Known) → AllSited w order u vs → known vs x ≡ Some v → Sited w order u v × (v.binder ≡ x)
sited_known w order u [] x v h e = absurd (cc)
sited_known w order u (k ∷ vs) x v h e = by (k.binder == x) refl e (λ f. sited_known w order u vs x v h.1 f)
  where
    by : (b : Bool) → k.binder == x ≡ b → (if b then Some k else known vs x) ≡ Some v → (known vs x ≡ Some v → Sited w order u v × (v.binder ≡ x)) → Sited w order u v × (v.binder ≡ x)
    by true t f g = let s : k ≡ v = cc in (subst (Sited w order u) s h.0, ap (λ (z : Known). z.binder) (sym s) ∙ eqb-true k.binder x t)
    by false t f g = g f
