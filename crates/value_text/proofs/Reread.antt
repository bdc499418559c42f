-- What is printed is read again.
use Rattle.std.proofs.Common.{◌≡◌, ℕ, zero, suc, ◌+◌, ◌*◌, ◌/◌, ◌%◌, ◌^◌, ◌<◌, ◌≤◌, List, [], ◌∷◌, ◌++◌, Some, Bool, true, false, refl, sym, ap, ◌∙◌, subst, append_assoc, arith}
use Rattle.std.specs.Prelude.{ℤ, pos, negsuc, slice_get, FitsSigned}
use Rattle.std.specs.Int.{w64}
use Rattle.std.specs.Fmt.{decimal, signed_decimal}
use Rattle.std.proofs.lemmas.Fmt.{decimal_by_steps}
use Rattle.std.proofs.lemmas.List.{map-append}
use Rattle.fip_language.specs.Values.{Value, Int, Node, Values, End, More}
use Rattle.fip_language.specs.Table.{Shape, Table, shapes, HasType, HaveTypes}
use Rattle.fip_language.specs.Character.{Character, Blank, Digit, Letter, character, characters}
use Rattle.fip_language.specs.ValueText.{skip, name_of, after_name, number, after_number, bound, int_of, Digits, IntText, ValueText, FieldsText, MoreText}
use Rattle.fip_language.specs.PrintedText.{shape_at, printed, printed_fields, printed_more}
use Rattle.value_text.proofs.Tables.{AreNameChars, IsName, AreNames, IsTable}
use Rattle.value_text.proofs.Residual.{value_blank}

-- no name or number goes on so
abbrev pub IsBreak : List Character → Type 0
IsBreak [] = Unit {0}
IsBreak (Digit d ∷ cs) = ⊥
IsBreak (Letter b ∷ cs) = ⊥
IsBreak (c ∷ cs) = Unit {0}

char_digit : (d : ℕ) → d < 10 → character (48 + d) ≡ Digit d
char_digit zero h = refl
char_digit (suc zero) h = refl
char_digit (suc (suc zero)) h = refl
char_digit (suc (suc (suc zero))) h = refl
char_digit (suc (suc (suc (suc zero)))) h = refl
char_digit (suc (suc (suc (suc (suc zero))))) h = refl
char_digit (suc (suc (suc (suc (suc (suc zero)))))) h = refl
char_digit (suc (suc (suc (suc (suc (suc (suc zero))))))) h = refl
char_digit (suc (suc (suc (suc (suc (suc (suc (suc zero)))))))) h = refl
char_digit (suc (suc (suc (suc (suc (suc (suc (suc (suc zero))))))))) h = refl
char_digit (suc (suc (suc (suc (suc (suc (suc (suc (suc (suc d)))))))))) h = absurd (omega arith)

-- the text is a first digit, and then the number n was read
pub record IsDigits (n : ℕ) (ds : List ℕ) (rest : List ℕ) : Type 0 where
  pub first : ℕ
  pub more : List Character
  pub text : characters (ds ++ rest) ≡ Digit first ∷ more
  pub value : number first more ≡ number n (characters rest)
  pub after : after_number more ≡ after_number (characters rest)

pub decimal_reads : (n : ℕ) → n < 2 ^ 64 → (rest : List ℕ) → IsDigits n (decimal n) rest
decimal_reads n h = decimal_by_steps (λ n ds. (rest : List ℕ) → IsDigits n ds rest)
    (λ n small rest. record { first = n; more = characters rest; text = ap (λ c. c ∷ characters rest) (char_digit n small); value = refl; after = refl })
    (λ n ds big ih rest.
    let p : IsDigits (n / 10) ds ((48 + n % 10) ∷ rest) = ih ((48 + n % 10) ∷ rest) in
    let c : character (48 + n % 10) ≡ Digit (n % 10) = char_digit (n % 10) (omega arith) in
    let e : 10 * (n / 10) + n % 10 ≡ n = omega arith in
    record {
      first = p.first;
      more = p.more;
      text = ap characters (append_assoc ds ((48 + n % 10) ∷ []) rest) ∙ p.text;
      value = p.value ∙ ap (λ c. number (n / 10) (c ∷ characters rest)) c ∙ ap (λ m. number m (characters rest)) e;
      after = p.after ∙ ap (λ c. after_number (c ∷ characters rest)) c;
    })
    n h

number_break : (n : ℕ) (cs : List Character) → IsBreak cs → (number n cs ≡ n) × (after_number cs ≡ cs)
number_break n [] b = (refl, refl)
number_break n (Digit d ∷ cs) b = absurd b
number_break n (Letter d ∷ cs) b = absurd b
number_break n (_ ∷ cs) b = (refl, refl)

digits_read : (neg : Bool) (n : ℕ) (rest : List ℕ) → n ≤ bound neg → n < 2 ^ 64 → IsBreak (characters rest) → Digits neg (characters (decimal n ++ rest)) (int_of neg n) (characters rest)
digits_read neg n rest le lt b =
    let p = decimal_reads n lt rest in
    let k = number_break n (characters rest) b in
    let e : number p.first p.more ≡ n = p.value ∙ k.0 in
    subst (λ cs. Digits neg cs (int_of neg n) (characters rest)) (sym p.text) (subst (λ m. m ≤ bound neg) (sym e) le, ap (int_of neg) (sym e), sym (p.after ∙ k.1))

first_digit : (cs : List Character) (i : ℤ) (rest : List Character) → Digits false cs i rest → IntText (skip cs) i rest
first_digit [] i rest h = h
first_digit (Digit d ∷ cs) i rest h = h
first_digit (_ ∷ cs) i rest h = absurd h

int_reads : (i : ℤ) (rest : List ℕ) → FitsSigned w64 i → IsBreak (characters rest) → IntText (skip (characters (signed_decimal i ++ rest))) i (characters rest)
int_reads (pos n) rest f b = first_digit (characters (decimal n ++ rest)) (pos n) (characters rest) (digits_read false n rest (omega (arith, f)) (omega (arith, f)) b)
int_reads (negsuc n) rest f b = digits_read true (suc n) rest (omega (arith, f)) (omega (arith, f)) b

pub shape_is : (ss : List Shape) (c : ℕ) (s : Shape) → slice_get ss c ≡ Some s → shape_at ss c ≡ s
shape_is [] c s e = cc
shape_is (r ∷ ss) zero s e = cc
shape_is (r ∷ ss) (suc c) s e = shape_is ss c s e

name_is : (ss : List Shape) (c : ℕ) (s : Shape) → slice_get ss c ≡ Some s → AreNames ss → IsName (characters s.name)
name_is [] c s e h = cc
name_is (r ∷ ss) zero s e h = let same : r ≡ s = cc in subst (λ s. IsName (characters s.name)) same h.0
name_is (r ∷ ss) (suc c) s e h = name_is ss c s e h.1

pub name_reads : (cs rest : List Character) → AreNameChars cs → IsBreak rest → (name_of (cs ++ rest) ≡ cs) × (after_name (cs ++ rest) ≡ rest)
name_reads [] [] h b = (refl, refl)
name_reads [] (Digit d ∷ rest) h b = absurd b
name_reads [] (Letter d ∷ rest) h b = absurd b
name_reads [] (_ ∷ rest) h b = (refl, refl)
name_reads (Digit d ∷ cs) rest h b = let k = name_reads cs rest h b in (ap (λ n. Digit d ∷ n) k.0, k.1)
name_reads (Letter d ∷ cs) rest h b = let k = name_reads cs rest h b in (ap (λ n. Letter d ∷ n) k.0, k.1)
name_reads (_ ∷ cs) rest h b = absurd h

-- the text is a name, and then rest
whole_name : (cs rest : List Character) → IsName cs → IsBreak rest → (name_of (skip (cs ++ rest)) ≡ cs) × (after_name (skip (cs ++ rest)) ≡ rest)
whole_name [] rest h b = absurd h
whole_name (Letter d ∷ cs) rest h b = let k = name_reads cs rest h b in (ap (λ n. Letter d ∷ n) k.0, k.1)
whole_name (_ ∷ cs) rest h b = absurd h

pub fields_break : (tb : Table) (ks : List ℕ) (vs : Values) (rest : List ℕ) → HaveTypes tb ks vs → IsBreak (characters rest) → IsBreak (characters (printed_fields tb ks vs rest))
fields_break tb [] vs rest h b = b
fields_break tb (k ∷ ks) End rest h b = absurd h
fields_break tb (k ∷ ks) (More v vs) rest h b = tt

more_break : (tb : Table) (ks : List ℕ) (vs : Values) (rest : List ℕ) → IsBreak (characters (printed_more tb ks vs rest))
more_break tb [] vs rest = tt
more_break tb (k ∷ ks) End rest = tt
more_break tb (k ∷ ks) (More v vs) rest = tt

node_reads : (tb : Table) (table : IsTable tb) (t c : ℕ) (vs : Values) (s : Shape) (rest : List ℕ) → slice_get (shapes tb t) c ≡ Some s → HaveTypes tb s.fields vs → IsBreak (characters rest) → FieldsText tb s.fields (characters (printed_fields tb s.fields vs rest)) vs (characters rest) → ValueText tb (suc t) (characters (printed tb (suc t) (Node c vs) rest)) (Node c vs) (characters rest)
node_reads tb table t c vs s rest e h b f =
    let tail = printed_fields tb s.fields vs rest in
    let text : printed tb (suc t) (Node c vs) rest ≡ s.name ++ tail = ap (λ (s : Shape). s.name ++ printed_fields tb s.fields vs rest) (shape_is (shapes tb t) c s e) in
    let split : characters (printed tb (suc t) (Node c vs) rest) ≡ characters s.name ++ characters tail = ap characters text ∙ map-append character s.name tail in
    let w = whole_name (characters s.name) (characters tail) (name_is (shapes tb t) c s e (table.names t)) (fields_break tb s.fields vs rest h b) in
    subst (λ cs. ValueText tb (suc t) cs (Node c vs) (characters rest)) (sym split) (s, e, w.0, subst (λ a. FieldsText tb s.fields a vs (characters rest)) (sym w.1) f)

mutual
  pub value_reads : (tb : Table) (table : IsTable tb) (k : ℕ) (v : Value) (rest : List ℕ) → HasType tb k v → IsBreak (characters rest) → ValueText tb k (characters (printed tb k v rest)) v (characters rest)
  value_reads tb table zero (Int i) rest h b = int_reads i rest h b
  value_reads tb table zero (Node c vs) rest h b = absurd h
  value_reads tb table (suc t) (Int i) rest h b = absurd h
  value_reads tb table (suc t) (Node c vs) rest h b = node_reads tb table t c vs h.0 rest h.1 h.2 b (fields_read tb table h.0.fields vs rest h.2 b)

  pub fields_read : (tb : Table) (table : IsTable tb) (ks : List ℕ) (vs : Values) (rest : List ℕ) → HaveTypes tb ks vs → IsBreak (characters rest) → FieldsText tb ks (characters (printed_fields tb ks vs rest)) vs (characters rest)
  fields_read tb table [] End rest h b = refl
  fields_read tb table [] (More v vs) rest h b = absurd h
  fields_read tb table (k ∷ ks) End rest h b = absurd h
  fields_read tb table (k ∷ ks) (More v vs) rest h b = (characters (printed tb k v (printed_more tb ks vs rest)), characters (printed_more tb ks vs rest), refl, value_reads tb table k v (printed_more tb ks vs rest) h.0 (more_break tb ks vs rest), more_read tb table ks vs rest h.1 b)

  pub more_read : (tb : Table) (table : IsTable tb) (ks : List ℕ) (vs : Values) (rest : List ℕ) → HaveTypes tb ks vs → IsBreak (characters rest) → MoreText tb ks (characters (printed_more tb ks vs rest)) vs (characters rest)
  more_read tb table [] End rest h b = refl
  more_read tb table [] (More v vs) rest h b = absurd h
  more_read tb table (k ∷ ks) End rest h b = absurd h
  more_read tb table (k ∷ ks) (More v vs) rest h b = (Blank ∷ characters (printed tb k v (printed_more tb ks vs rest)), characters (printed_more tb ks vs rest), refl, value_blank tb k _ v _ (value_reads tb table k v (printed_more tb ks vs rest) h.0 (more_break tb ks vs rest)), more_read tb table ks vs rest h.1 b)
